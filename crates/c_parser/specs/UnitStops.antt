-- Device: where the reading of a unit stops, and what the code that reads units has read so far.
use Rattle.std.specs.Prelude.{◌≡◌, ℕ, List, [], ◌++◌, drop, length, Some, Result, Ok, Err}
use Rattle.cil_base.specs.declared.faults.Fault.TheVariants.{Syntax as SyntaxFault}
use Rattle.cil_base.specs.declared.faults.Place.{Place}
use Rattle.cil_base.specs.declared.faults.Refusal.{Refusal}
use Rattle.c_lexer.specs.Lexed.{Lexed, place_at}
use Rattle.typedef_scopes.specs.Scopes.{Scope}
use Rattle.c_tree.specs.Units.{ExternalTree}
use Rattle.c_tree.specs.Spelling.{Lexeme}
use Rattle.c_cursor.specs.Readers.{Input, input}
use Rattle.c_exprs.specs.Subs.{In}
use Rattle.c_cursor.specs.Lexemes.{lexemes}
use Rattle.c_parser.specs.declared.stops.UnitStop.{UnitStop}
use Rattle.c_parser.specs.declared.stops.UnitStop.TheVariants.{Syntax, Memory}
use Rattle.c_parser.specs.Externals.{file_scope, greatest_height}
use Rattle.c_parser.specs.UnitAnswers.{AreExternals, ReadsUnit, RefusesUnit}
use Rattle.c_parser.specs.UnitReading.{external_of}

-- no grammatical unit spells the tokens, and behind the whole external declarations in front of the token `start` the reading of the next one fails at the token `stop`
pub record StopsUnit (ts : List Lexeme) (start stop : ℕ) : Type 0 where
  pub refuses : RefusesUnit ts start stop
  pub whole : List ExternalTree
  pub scopes : List Scope
  pub front : List Lexeme
  pub rest : List Lexeme
  pub left : List Lexeme
  pub parts : ts ≡ front ++ rest
  pub number : start ≡ length front
  pub before : AreExternals file_scope whole scopes 0 front
  pub fails : external_of greatest_height scopes (input start rest) ≡ Err (input stop left)

-- what the reading of a whole unit answers, from the first token on
abbrev pub AnswersUnit : List Lexeme → Result (In (List ExternalTree) × Input) Input → Type 0
AnswersUnit ts (Ok x) = ReadsUnit ts x.0.0 × (x.1 ≡ input (length ts) [])
AnswersUnit ts (Err i) = (start : ℕ) × StopsUnit ts start i.at

-- what a stop tells: two numbers of tokens, of which the fact holds; or that memory was wanting
abbrev pub Told : (ℕ → ℕ → Type 0) → UnitStop → Type 0
Told fact (Syntax start stop) = fact start stop
Told fact Memory = Unit {0}

-- a syntax fault whose place is that of the token at which the last external declaration begins whose reading fails, and its other place that of the token at which it fails
pub record StopsAt (t : Lexed) (refusal : Refusal) : Type 0 where
  pub start : ℕ
  pub stop : ℕ
  pub other : Place
  pub stops : StopsUnit (lexemes t) start stop
  pub fault : refusal.fault ≡ SyntaxFault
  pub at : place_at t start ≡ Some refusal.at
  pub behind : place_at t stop ≡ Some other
  pub told : refusal.other ≡ Some other

-- the external declaration whose reading from the input fails begins at the first number, and fails at the second, where the cursor then stands
abbrev pub FailsExternal : List Scope → Input → Input → ℕ → ℕ → Type 0
FailsExternal scopes i j start stop = (external_of greatest_height scopes i ≡ Err j) × (start ≡ i.at) × (stop ≡ j.at)

-- the tokens in front of that number are whole external declarations, with those scopes behind them
pub record Behind (ts : List Lexeme) (at : ℕ) (xs : List ExternalTree) (scopes : List Scope) : Type 0 where
  pub front : List Lexeme
  pub parts : ts ≡ front ++ drop at ts
  pub number : at ≡ length front
  pub are : AreExternals file_scope xs scopes 0 front
