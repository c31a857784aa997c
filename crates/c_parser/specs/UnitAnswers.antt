-- Definition: what the reading of a whole unit answers at its tokens `ts`, of which the first has the number 0.
use Rattle.std.specs.Prelude.{◌≡◌, ℕ, ◌+◌, Bool, true, List, [], ◌∷◌, ◌++◌, length, Option, Some}
use Rattle.cil_base.specs.declared.faults.Fault.TheVariants.{Syntax}
use Rattle.cil_base.specs.declared.faults.Place.{Place}
use Rattle.cil_base.specs.declared.faults.Refusal.{Refusal}
use Rattle.typedef_scopes.specs.Scopes.{Scope}
use Rattle.c_lexer.specs.Lexed.{Lexed, place_at}
use Rattle.c_tree.specs.Units.{ExternalTree, UnitTree}
use Rattle.c_tree.specs.Spelling.{Lexeme}
use Rattle.c_tree.specs.UnitSpelling.{spell_unit}
use Rattle.c_tree.specs.Grammatical.{is_grammatical}
use Rattle.c_exprs.specs.Answers.{Refuses}
use Rattle.c_cursor.specs.Lexemes.{lexemes}
use Rattle.c_parser.specs.Externals.{file_scope, greatest_height}
use Rattle.c_parser.specs.UnitForms.{IsExternal, never_goes}

-- external declarations one behind the other; `scopes` are those in front of the first, `after` those behind the last
abbrev pub AreExternals : List Scope → List ExternalTree → List Scope → ℕ → List Lexeme → Type 0
AreExternals scopes [] after n text = (after ≡ scopes) × (text ≡ [])
AreExternals scopes (d ∷ ds) after n text =
    (middle : List Scope) × (front : List Lexeme) × (back : List Lexeme) × IsExternal scopes greatest_height (d, middle) n front × AreExternals middle ds after (n + length front) back × (text ≡ front ++ back)

-- a grammatical unit that spells the tokens
pub record ReadsUnit (ts : List Lexeme) (u : UnitTree) : Type 0 where
  pub grammatical : is_grammatical u ≡ true
  pub spelled : ts ≡ spell_unit u

-- no grammatical unit spells the tokens: behind whole external declarations none begins at the token `start`, and none begins there with the tokens up to and including the token `stop`
pub record RefusesUnit (ts : List Lexeme) (start stop : ℕ) : Type 0 where
  pub whole : List ExternalTree
  pub scopes : List Scope
  pub front : List Lexeme
  pub rest : List Lexeme
  pub left : List Lexeme
  pub parts : ts ≡ front ++ rest
  pub number : start ≡ length front
  pub before : AreExternals file_scope whole scopes 0 front
  pub none : Refuses (IsExternal scopes greatest_height) never_goes start rest stop left
  pub no_unit : (u : UnitTree) → ReadsUnit ts u → ⊥

-- a syntax fault: its place is that of the token at which, behind whole external declarations, none begins, and its other place that of the token up to and including which none begins there; the unit's end counts as a token
pub record IsSyntaxFault (t : Lexed) (refusal : Refusal) : Type 0 where
  pub start : ℕ
  pub stop : ℕ
  pub other : Place
  pub refuses : RefusesUnit (lexemes t) start stop
  pub fault : refusal.fault ≡ Syntax
  pub at : place_at t start ≡ Some refusal.at
  pub behind : place_at t stop ≡ Some other
  pub told : refusal.other ≡ Some other

-- one of the two
pub data UnitAnswer (ts : List Lexeme) : Type 0 where
  Read : (u : UnitTree) → ReadsUnit ts u → UnitAnswer ts
  Refused : (start stop : ℕ) → RefusesUnit ts start stop → UnitAnswer ts
