-- Device: the first refusal of units, executably, for rows. The law `refusal_is_first` says that it is the one that is defined: of a syntax fault, where the tokens in front of its second place begin an external declaration.
use Rattle.std.specs.Prelude.{ℕ, zero, suc, ◌+◌, Bool, true, false, nat_lt, List, [], ◌∷◌, length, Option, Some, None, Result, Ok, Err}
use Rattle.cil_base.specs.Limits.{total_bytes, unit_bytes}
use Rattle.cil_base.specs.declared.faults.Fault.TheVariants.{Syntax}
use Rattle.cil_base.specs.declared.faults.Place.{Place}
use Rattle.cil_base.specs.declared.faults.What.TheVariants.{UnitBytes, TotalBytes}
use Rattle.cil_base.specs.declared.faults.Refusal.{Refusal}
use Rattle.cil_base.specs.declared.kinds.Abi.{Abi}
use Rattle.cil_base.specs.declared.kinds.Mode.{Mode}
use Rattle.c_lexer.specs.Automaton.{pieces}
use Rattle.typedef_scopes.specs.Scopes.{Scope}
use Rattle.c_lexer.specs.Lexed.{Lexed, place_at}
use Rattle.c_lexer.specs.Tokens.{Answer, Whole, Refused, read, begun}
use Rattle.c_tree.specs.Units.{ExternalTree, UnitTree}
use Rattle.c_cursor.specs.Lexemes.{lexemes}
use Rattle.c_cursor.specs.Readers.{Input, input, head}
use Rattle.c_exprs.specs.Subs.{In}
use Rattle.c_parser.specs.Externals.{file_scope, greatest_height}
use Rattle.c_parser.specs.StatementWords.{token_ahead}
use Rattle.c_parser.specs.UnitReading.{external_of, unit}
use Rattle.c_typing.specs.Scopes.{Env, Found, Good, Bad}
use Rattle.c_typing.specs.Faults.{walked}
use Rattle.c_faults.specs.Reading.{Source, Read, over, refusal_at}
use Rattle.c_faults.specs.Definitions.{first_twice, duplicate}

-- what is found of a unit
pub data Finding : Type 0 where
  IsWhole : (read : Read) → Finding
  IsRefused : (refusal : Refusal) → Finding
  -- a syntax fault, with the numbers of the tokens of its places
  Stops : (tokens : Lexed) (start stop : ℕ) (refusal : Refusal) → Finding
  -- a fault without a place
  Lost : Finding

abbrev pub refused : Option Refusal → Finding
refused None = Lost
refused (Some refusal) = IsRefused refusal

abbrev pub after_walk : Lexed → UnitTree → List (List ℕ) → Found ((Unit {0}) × Env) → Finding
after_walk t tree behind (Good x) = IsWhole (record { tokens = t; tree = tree; names = behind; env = x.1 })
after_walk t tree behind (Bad fault at) = refused (refusal_at t (fault, at))

-- external declarations are read one behind the other, at most so many: the numbers of the first token of the one whose reading fails, and of that at which it fails
abbrev pub stop_of : (List Scope → Input → Option (ℕ × ℕ)) → ℕ → Result (In ExternalTree × Input) Input → Option (ℕ × ℕ)
stop_of behind start (Err j) = Some (start, j.at)
stop_of behind start (Ok x) = elim (token_ahead (head x.1.rest)) [ true ↦ behind x.0.1 x.1 | false ↦ None ]

abbrev pub stops_from : ℕ → List Scope → Input → Option (ℕ × ℕ)
stops_from zero scopes i = None
stops_from (suc n) scopes i = stop_of (stops_from n) i.at (external_of greatest_height scopes i)

abbrev pub syntax_fault : Option Place → Option Place → Option Refusal
syntax_fault None other = None
syntax_fault (Some at) None = None
syntax_fault (Some at) (Some other) = Some (record { fault = Syntax; at = at; other = Some other })

abbrev pub placed_stop : Lexed → ℕ × ℕ → Option Refusal → Finding
placed_stop t x None = Lost
placed_stop t x (Some refusal) = Stops t x.0 x.1 refusal

abbrev pub after_stop : Lexed → Option (ℕ × ℕ) → Finding
after_stop t None = Lost
after_stop t (Some x) = placed_stop t x (syntax_fault (place_at t x.0) (place_at t x.1))

abbrev pub after_grammar : Abi → Lexed → List (List ℕ) → Result (In (List ExternalTree) × Input) Input → Finding
after_grammar abi t behind (Err i) = after_stop t (stops_from (suc (length t.entries)) file_scope (input 0 (lexemes t)))
after_grammar abi t behind (Ok x) = after_walk t x.0.0 behind (walked behind abi x.0.0)

abbrev pub after_tokens : Abi → Source → Answer → Finding
after_tokens abi u (Whole entries end behind) = after_grammar abi (record { source = u.bytes; unit = u.unit; entries = entries; end = end }) behind (unit (input 0 (lexemes (record { source = u.bytes; unit = u.unit; entries = entries; end = end }))))
after_tokens abi u (Refused refusal behind) = IsRefused refusal

abbrev pub tokens_of : List (List ℕ) → Source → Answer
tokens_of names u = read (pieces 0 true u.bytes) (begun u.unit u.file names)

abbrev pub within_total : Abi → ℕ → List (List ℕ) → Source → Bool → Finding
within_total abi total names u true = IsRefused (over TotalBytes u)
within_total abi total names u false = after_tokens abi u (tokens_of names u)

abbrev pub within_unit : Abi → ℕ → List (List ℕ) → Source → Bool → Finding
within_unit abi total names u true = IsRefused (over UnitBytes u)
within_unit abi total names u false = within_total abi total names u (nat_lt total_bytes (total + length u.bytes))

abbrev pub finding : Abi → ℕ → List (List ℕ) → Source → Finding
finding abi total names u = within_unit abi total names u (nat_lt unit_bytes (length u.bytes))

-- of all units, one behind the other
pub data Findings : Type 0 where
  AllWhole : (reads : List Read) → Findings
  OneRefused : (refusal : Refusal) → Findings
  OneStops : (tokens : Lexed) (start stop : ℕ) (refusal : Refusal) → Findings
  OneLost : Findings

abbrev pub with_read : Read → Findings → Findings
with_read r (AllWhole rs) = AllWhole (r ∷ rs)
with_read r (OneRefused refusal) = OneRefused refusal
with_read r (OneStops t start stop refusal) = OneStops t start stop refusal
with_read r OneLost = OneLost

abbrev pub on_finding : Finding → (Read → Findings) → Findings
on_finding (IsWhole r) go = with_read r (go r)
on_finding (IsRefused refusal) go = OneRefused refusal
on_finding (Stops t start stop refusal) go = OneStops t start stop refusal
on_finding Lost go = OneLost

abbrev pub findings : Abi → ℕ → List (List ℕ) → List Source → Findings
findings abi total names [] = AllWhole []
findings abi total names (u ∷ us) = on_finding (finding abi total names u) (λ r. findings abi (total + length u.bytes) r.names us)

abbrev pub refusal_for_two : Option (Place × Place) → Option Refusal
refusal_for_two None = None
refusal_for_two (Some places) = Some (duplicate places)

abbrev pub refusal_of : Bool → Findings → Option Refusal
refusal_of common (AllWhole reads) = refusal_for_two (first_twice common reads)
refusal_of common (OneRefused refusal) = Some refusal
refusal_of common (OneStops t start stop refusal) = Some refusal
refusal_of common OneLost = None

abbrev pub first_refusal : Mode → List (List ℕ) → List Source → Option Refusal
first_refusal mode names units = refusal_of mode.common (findings mode.abi 0 names units)
