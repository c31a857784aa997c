-- Definition: what `merge` answers (own).
use Rattle.std.specs.Prelude.{◌≡◌, ◌≢◌, ℕ, ◌<◌, ◌≤◌, List, length, Option, None}
use Rattle.std.specs.Option.{option_and_then, option_map}
use Rattle.cil_base.specs.Limits.{unit_bytes}
use Rattle.cil_base.specs.declared.kinds.Abi.TheVariants.{Lp64}
use Rattle.cil_base.specs.declared.faults.Fault.{Fault}
use Rattle.cil_base.specs.declared.faults.Fault.TheVariants.{Limit, Syntax}
use Rattle.cil_base.specs.declared.faults.What.TheVariants.{UnitBytes}
use Rattle.cil_base.specs.declared.faults.Refusal.{Refusal}
use Rattle.c_lexer.specs.Lexed.{Lexed}
use Rattle.c_lexer.specs.Tokens.{Refused}
use Rattle.c_meaning.specs.SourceFile.{SourceFile, IsLexed}
use Rattle.c_meaning.specs.Grammar.{Expression, IsUnit}
use Rattle.c_parser.specs.UnitAnswers.{IsSyntaxFault}
use Rattle.outside.specs.Named.{Told}
use Rattle.cil_words.specs.Command.{merged_file}
use Rattle.merge_refusals.specs.Refusals.{IsMergeFault, HasOther}
use Rattle.unit_front.specs.Refusals.{KeepsFiles}
use Rattle.unit_merger.specs.Units.{IsUnitCause}
use Rattle.unit_merger.specs.Programs.{IsTextOfUnit}
use Rattle.cil_sources.specs.Files.{bytes_under}
use Rattle.cil_tree.specs.Tree.{Program}
use Rattle.cil_tree.specs.Text.{Text}
use Rattle.cil_tree.specs.Programs.{IsTextOf}
use Rattle.cil_commands.specs.Grammatical.{AreTokens, IsGrammatical}
use Rattle.cil_commands.specs.Lowering.{Merges}
use Rattle.cil_lines.specs.declared.status.Status.{Status}
use Rattle.cil_lines.specs.declared.status.Status.TheVariants.{Done, Exited, StillRunning, WentUndefined, Usage, Refused as IsRefusal, NotCil, ReadFault, WriteFault, Memory}

-- the file of that name, where the files tell it
abbrev pub file_under : Option Told → List ℕ → Option SourceFile
file_under told name = option_map (λ bytes. record { name = name; bytes = bytes }) (bytes_under told name)

-- the file that the words ask to be merged alone
abbrev pub unit_asked : Option Told → List (List ℕ) → Option SourceFile
unit_asked told words = option_and_then (file_under told) (merged_file words)

-- the file is no unit of the form
abbrev pub IsNoUnit : SourceFile → Type 0
IsNoUnit unit = (e : Expression) → ¬ (IsUnit unit e)

-- a refusal at the first token of the first unit, whose file is the pool's first name: of a unit with too many bytes
abbrev pub refused_first : Fault → Refusal
refused_first fault = record { fault = fault; at = record { unit = record { 0 = 0 }; token = 0; file = record { 0 = 0 }; line = 1 }; other = None }

abbrev pub too_large : Refusal
too_large = refused_first (Limit UnitBytes)

-- why a file is no grammatical unit, with the names that its places' files are numbers in: it has too many bytes, or a token of it is refused, or no grammatical unit spells its tokens
pub data IsNoGrammar (unit : SourceFile) : Refusal → List (List ℕ) → Type 0 where
  Large : (names : List (List ℕ)) → unit_bytes < length unit.bytes → IsNoGrammar unit too_large names
  OfToken : (refusal : Refusal) (names : List (List ℕ)) → length unit.bytes ≤ unit_bytes → IsLexed unit (Refused refusal names) → IsNoGrammar unit refusal names
  OfGrammar : (refusal : Refusal) (names : List (List ℕ)) (tokens : Lexed) → AreTokens unit tokens names → IsSyntaxFault tokens refusal → IsNoGrammar unit refusal names

-- why a file is refused, with the names that its places' files are numbers in: it is no grammatical unit; or it is one that is not of the form, and is refused at a token of it for an excluded form, a constraint of C11 or a limit, or because the text of a program to which it is merged is too long
pub data IsRefused (unit : SourceFile) : Refusal → List (List ℕ) → Type 0 where
  NoGrammar : (refusal : Refusal) (names : List (List ℕ)) → IsNoGrammar unit refusal names → IsRefused unit refusal names
  OfUnit : (refusal : Refusal) (names : List (List ℕ)) (g : IsGrammatical unit) → IsNoUnit unit → IsUnitCause g.tokens g.names refusal → KeepsFiles g.names names refusal → IsRefused unit refusal names

-- a well-formed program of LP64, which has its text
abbrev pub IsWritten : Program → Type 0
IsWritten p = (p.graph.abi ≡ Lp64) × IsTextOf (Text p) p

-- a program that the unit is merged to: the unit is grammatical, and the program is the one of LP64 with its text; where the unit is of the form its meaning is kept, and where it is not the text is that of a program to which a CIL program of the unit is merged alone
pub record IsMergedTo (unit : SourceFile) (p : Program) : Type 0 where
  pub grammatical : IsGrammatical unit
  pub model : p.graph.abi ≡ Lp64
  pub text : IsTextOf (Text p) p
  pub form : (e : Expression) → IsUnit unit e → Merges unit p
  pub alone : IsNoUnit unit → IsTextOfUnit grammatical.tokens grammatical.names (Text p)

-- the same fault at the same place. Of a syntax fault the place behind may be another one: no external declaration begins with the tokens up to a later one either
pub record IsLike (one two : Refusal) : Type 0 where
  pub fault : one.fault ≡ two.fault
  pub at : one.at ≡ two.at
  pub other : one.fault ≢ Syntax → one.other ≡ two.other

-- the statuses that `merge` answers of so many units
abbrev pub IsMergeAnswer : ℕ → Status → Type 0
IsMergeAnswer units Done = Unit {0}
IsMergeAnswer units (Exited status) = ⊥
IsMergeAnswer units StillRunning = ⊥
IsMergeAnswer units WentUndefined = ⊥
IsMergeAnswer units Usage = ⊥
IsMergeAnswer units (IsRefusal refusal) = IsMergeFault refusal.fault × (refusal.at.unit.0 < units) × HasOther units refusal.fault refusal.other
IsMergeAnswer units (NotCil byte) = ⊥
IsMergeAnswer units ReadFault = Unit {0}
IsMergeAnswer units WriteFault = Unit {0}
IsMergeAnswer units Memory = Unit {0}

-- the status is a refusal like that one
abbrev pub IsRefusedLike : Status → Refusal → Type 0
IsRefusedLike status refusal = (like : Refusal) × (status ≡ IsRefusal like) × IsLike like refusal

-- what a refusal says
abbrev pub IfRefused : Status → (Refusal → Type 0) → Type 0
IfRefused (IsRefusal refusal) Says = Says refusal
IfRefused _ Says = Unit {0}
