-- Device: what a loop of the code has done, against the whole reading; `all` are all tokens, and the loop stands before the one of number `at`.
use Rattle.std.specs.Prelude.{ℕ, ◌-◌, Bool, false, List, map, length, drop, Option, Result}
use Rattle.typedef_scopes.specs.Scopes.{Scope}
use Rattle.cil_base.specs.declared.numbers.NameId.{NameId}
use Rattle.c_tree.specs.Spelling.{Lexeme}
use Rattle.c_tree.specs.Syntax.{SpecifierTree}
use Rattle.c_tree.specs.declared.expression.Specifier.{Specifier}
use Rattle.c_tree.specs.View.{specifier_of}
use Rattle.c_exprs.specs.declared.words.SpecifierForm.{SpecifierForm}
use Rattle.c_cursor.specs.Readers.{Input, input, Reader}
use Rattle.c_exprs.specs.Subs.{In, grow, comma_ahead, more_or_end}
use Rattle.c_exprs.specs.SpecifierReading.{next_specifier}
use Rattle.c_exprs.specs.DeclaratorReading.{next_identifier}
use Rattle.c_exprs.specs.Reading.{below}
use Rattle.c_cursor.specs.Steps.{Going}
use Rattle.c_exprs.specs.Steps.{goes_to, specified_goes}

-- one tree, to which each step adds
unfoldable pub Following : {B : Type 0} → (In B → Option Lexeme → Bool) → (In B → Reader (In B)) → List Lexeme → ℕ → B → List Scope → Result (In B × Input) Input → Type 0
Following goes step all at x ds whole = Going goes step (length all - at) (x, ds) (input at (drop at all)) whole

-- a list of trees, of which each is seen as a plain one
unfoldable pub Growing : {A B : Type 0} → (A → B) → (In (List B) → Option Lexeme → Bool) → (List Scope → Reader (In B)) → List Lexeme → ℕ → List A → List Scope → Result (In (List B) × Input) Input → Type 0
Growing seen goes item all at xs ds whole = Going goes (grow item) (length all - at) (map seen xs, ds) (input at (drop at all)) whole

-- the same where something may stand behind a last comma
unfoldable pub Ending : {A B : Type 0} → (A → B) → (Option Lexeme → Bool) → Reader (Unit {0}) → (List Scope → Reader (In B)) → List Lexeme → ℕ → List A → List Scope → Result (In (List B × Bool) × Input) Input → Type 0
Ending seen ends final item all at xs ds whole = Going goes_to (more_or_end ends final item) (length all - at) ((map seen xs, false), ds) (input at (drop at all)) whole

-- identifiers with commas between them
unfoldable pub Naming : List Scope → List Lexeme → ℕ → List NameId → Result (List NameId × Input) Input → Type 0
Naming ds all at ns whole = Going (λ ms. comma_ahead) (next_identifier ds) (length all - at) ns (input at (drop at all)) whole

-- specifiers
unfoldable pub Specifying : ℕ → SpecifierForm → List Lexeme → ℕ → List Specifier → List Scope → Result (In (List SpecifierTree) × Input) Input → Type 0
Specifying h form all at xs ds whole = Going specified_goes (next_specifier h (below h) form) (length all - at) (map specifier_of xs, ds) (input at (drop at all)) whole
