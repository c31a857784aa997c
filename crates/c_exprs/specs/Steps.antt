-- Device: what a loop of the code has done, against a whole.
use Rattle.std.specs.Prelude.{◌≡◌, ℕ, Bool, false, not, ◌&&◌, ◌||◌, List, [], ◌∷◌, drop, Option, Some, None}
use Rattle.c_tree.specs.Spelling.{Lexeme}
use Rattle.cil_base.specs.declared.tokens.Punctuator.TheVariants.{Comma as CommaSign}
use Rattle.cil_base.specs.declared.numbers.NameId.{NameId}
use Rattle.typedef_scopes.specs.Scopes.{Scope}
use Rattle.c_cursor.specs.Readers.{Reader, bind, pure, one, when}
use Rattle.c_cursor.specs.Classes.{is_sign, take}
use Rattle.c_exprs.specs.Classes.{an_identifier}
use Rattle.c_tree.specs.Syntax.{SpecifierTree}
use Rattle.c_exprs.specs.GoesOn.{goes_on_specifiers}
use Rattle.c_exprs.specs.Subs.{In, comma_ahead}
use Rattle.c_exprs.specs.SpecifierReading.{some_typed}

-- the test holds of some element
abbrev pub any_of : {A : Type 0} → (A → Bool) → List A → Bool
any_of f [] = false
any_of f (x ∷ xs) = f x || any_of f xs

-- `so_far` tells whether the test holds of one in the first i places
unfoldable pub SomeSoFar : {A : Type 0} → (A → Bool) → List A → ℕ → Bool → Type 0
SomeSoFar f xs i so_far = (so_far || any_of f (drop i xs)) ≡ any_of f xs

-- an item behind a comma, or nothing where that is the last
abbrev pub item_or_end : {A : Type 0} → (Option Lexeme → Bool) → Reader (Unit {0}) → (List Scope → Reader (In A)) → List Scope → Reader (In (Option A))
item_or_end ends final item ds = bind (take (is_sign CommaSign)) (λ c. when ends (bind final (λ d. pure (None, ds))) (bind (item ds) (λ y. pure (Some y.0, y.1))))

-- a comma goes on behind such a list where it was not ended
abbrev pub goes_to : {A : Type 0} → In (List A × Bool) → Option Lexeme → Bool
goes_to y o = not y.0.1 && comma_ahead o

-- what goes on behind specifiers
abbrev pub specified_goes : In (List SpecifierTree) → Option Lexeme → Bool
specified_goes y o = goes_on_specifiers (some_typed y.0) y.1 o

-- an identifier behind a comma
abbrev pub comma_identifier : List Scope → Reader NameId
comma_identifier ds = bind (take (is_sign CommaSign)) (λ c. one (an_identifier ds))
