-- Definition: what is read of a translation unit of bytes (C11 5.1.1.2p1, phases 5 to 7), and what it is refused for, in the order in which it is looked at (own): its bytes, its tokens, its grammar, its declarations and expressions.
use Rattle.std.specs.Prelude.{◌≡◌, ℕ, ◌+◌, ◌<◌, ◌≤◌, List, ◌++◌, length, Option, Some, None}
use Rattle.std.specs.Option.{option_map}
use Rattle.cil_base.specs.Limits.{total_bytes, unit_bytes}
use Rattle.cil_base.specs.declared.faults.Fault.{Fault}
use Rattle.cil_base.specs.declared.faults.Fault.TheVariants.{Limit}
use Rattle.cil_base.specs.declared.faults.What.{What}
use Rattle.cil_base.specs.declared.faults.What.TheVariants.{UnitBytes, TotalBytes}
use Rattle.cil_base.specs.declared.faults.Place.{Place}
use Rattle.cil_base.specs.declared.faults.Refusal.{Refusal}
use Rattle.cil_base.specs.declared.kinds.Abi.{Abi}
use Rattle.cil_base.specs.declared.numbers.NameId.{NameId}
use Rattle.cil_base.specs.declared.numbers.UnitNo.{UnitNo}
use Rattle.typedef_scopes.specs.Scopes.{Scope}
use Rattle.c_lexer.specs.Lexed.{Lexed, place_at, place_of}
use Rattle.c_lexer.specs.Tokens.{IsAnswer, Whole, Refused}
use Rattle.c_tree.specs.Spelling.{Lexeme}
use Rattle.c_tree.specs.Units.{ExternalTree, UnitTree}
use Rattle.c_cursor.specs.Lexemes.{lexemes}
use Rattle.c_parser.specs.UnitForms.{IsExternal}
use Rattle.c_parser.specs.UnitAnswers.{AreExternals, ReadsUnit, IsSyntaxFault}
use Rattle.c_parser.specs.Externals.{file_scope}
use Rattle.c_typing.specs.Scopes.{Env, Good}
use Rattle.c_typing.specs.Faults.{walked, first_fault}

-- a unit: its bytes, its number, and the number of its file's name
pub record Source : Type 0 where
  pub bytes : List ℕ
  pub unit : UnitNo
  pub file : NameId

-- a unit whose bytes pass neither limit, where so many are behind
pub record IsWithin (total : ℕ) (u : Source) : Type 0 where
  pub alone : length u.bytes ≤ unit_bytes
  pub together : total + length u.bytes ≤ total_bytes

-- the refusal of a unit that passes a limit, at its first token (own)
abbrev pub over : What → Source → Refusal
over limit u = record { fault = Limit limit; at = place_of u.unit 0 u.file 1; other = None }

-- its tokens (6.4), with the names that have numbers before it and behind it
pub record HasTokens (u : Source) (names : List (List ℕ)) (t : Lexed) (behind : List (List ℕ)) : Type 0 where
  pub source : t.source ≡ u.bytes
  pub unit : t.unit ≡ u.unit
  pub lexed : IsAnswer u.unit u.file names u.bytes (Whole t.entries t.end behind)

-- what is read of a unit: its tokens, its tree, what it declares, and the names that have numbers behind it
pub record Read : Type 0 where
  pub tokens : Lexed
  pub tree : UnitTree
  pub names : List (List ℕ)
  pub env : Env

-- a grammatical unit (6.9) without a fault
pub record IsRead (abi : Abi) (total : ℕ) (names : List (List ℕ)) (u : Source) (r : Read) : Type 0 where
  pub within : IsWithin total u
  pub tokens : HasTokens u names r.tokens r.names
  pub grammatical : ReadsUnit (lexemes r.tokens) r.tree
  pub walked : walked r.names abi r.tree ≡ Good (tt, r.env)

-- the tokens from the first number up to but not including the second begin an external declaration of any height: so no place before the second is the fault's (own)
pub record Begins (ts : List Lexeme) (start stop : ℕ) : Type 0 where
  pub before : List ExternalTree
  pub scopes : List Scope
  pub front : List Lexeme
  pub middle : List Lexeme
  pub rest : List Lexeme
  pub parts : ts ≡ front ++ (middle ++ rest)
  pub number : start ≡ length front
  pub length_of : stop ≡ start + length middle
  pub whole : AreExternals file_scope before scopes 0 front
  pub external : ExternalTree
  pub after : List Scope
  pub height : ℕ
  pub more : List Lexeme
  pub is : IsExternal scopes height (external, after) start (middle ++ more)

-- the first place behind which no grammatical unit goes on
pub record IsFirstSyntaxFault (t : Lexed) (refusal : Refusal) : Type 0 where
  pub fault : IsSyntaxFault t refusal
  pub begins : Begins (lexemes t) fault.start fault.stop

-- a fault of the walk at the place of its token
abbrev pub refusal_at : Lexed → Fault × ℕ → Option Refusal
refusal_at t x = option_map (λ (place : Place). record { fault = x.0; at = place; other = None }) (place_at t x.1)

-- why a unit is refused, where units of so many bytes are before it
pub data IsUnitFault (abi : Abi) (total : ℕ) (names : List (List ℕ)) (u : Source) : Refusal → Type 0 where
  TooLarge : unit_bytes < length u.bytes → IsUnitFault abi total names u (over UnitBytes u)
  TooMuch : length u.bytes ≤ unit_bytes → total_bytes < total + length u.bytes → IsUnitFault abi total names u (over TotalBytes u)
  OfToken : (refusal : Refusal) (behind : List (List ℕ)) → IsWithin total u → IsAnswer u.unit u.file names u.bytes (Refused refusal behind) → IsUnitFault abi total names u refusal
  OfGrammar : (refusal : Refusal) (t : Lexed) (behind : List (List ℕ)) → IsWithin total u → HasTokens u names t behind → IsFirstSyntaxFault t refusal → IsUnitFault abi total names u refusal
  OfWalk : (refusal : Refusal) (t : Lexed) (behind : List (List ℕ)) (tree : UnitTree) (x : Fault × ℕ)
      → IsWithin total u → HasTokens u names t behind → ReadsUnit (lexemes t) tree → first_fault behind abi tree ≡ Some x → refusal_at t x ≡ Some refusal → IsUnitFault abi total names u refusal
