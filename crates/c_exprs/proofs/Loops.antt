-- A loop of the code against a chain of readings: what was read so far, and the steps that are left, give the whole.
use Rattle.std.proofs.Common.{◌≡◌, refl, sym, ◌∙◌, ap, subst, ℕ, ◌<◌, Bool, true, false, List, [], ◌∷◌, ◌++◌, map, Option, Some, None, Result, Ok, Err}
use Rattle.typedef_scopes.specs.Scopes.{Scope}
use Rattle.c_tree.specs.Spelling.{Lexeme}
use Rattle.c_cursor.specs.declared.stops.ParseStop.{ParseStop}
use Rattle.c_cursor.specs.Readers.{Input, Reader, head, bind, and_then, pure, pick, when}
use Rattle.cil_base.specs.declared.tokens.Punctuator.TheVariants.{Comma as CommaSign}
use Rattle.c_tree.specs.declared.expression.Specifier.{Specifier}
use Rattle.c_tree.specs.Syntax.{SpecifierTree}
use Rattle.c_tree.specs.View.{specifier_of}
use Rattle.c_exprs.specs.declared.words.SpecifierForm.{SpecifierForm}
use Rattle.c_cursor.specs.Classes.{is_sign, take}
use Rattle.c_exprs.specs.GoesOn.{goes_on_specifiers}
use Rattle.c_exprs.specs.Subs.{In, Subs, grow, comma_ahead, one_more_or_end, more_or_end}
use Rattle.c_exprs.specs.SpecifierReading.{specifier, some_typed, next_specifier}
use Rattle.c_cursor.specs.Given.{Fails}
use Rattle.c_cursor.specs.Steps.{Going}
use Rattle.c_exprs.specs.Steps.{item_or_end, goes_to, specified_goes}
use Rattle.c_cursor.proofs.Loops.{going_on, going_end, failed_then, going_fails}

-- lists

map-end : {A B : Type 0} (seen : A → B) (xs : List A) (x : A) → map seen (xs ++ x ∷ []) ≡ map seen xs ++ seen x ∷ []
map-end seen [] x = refl
map-end seen (y ∷ ys) x = ap (λ zs. seen y ∷ zs) (map-end seen ys x)

grown : {A B : Type 0} (seen : A → B) (item : List Scope → Reader (In B)) (xs : List A) (v : A) (ds es : List Scope) (i j : Input) → item ds i ≡ Ok ((seen v, es), j) → grow item (map seen xs, ds) i ≡ Ok ((map seen (xs ++ v ∷ []), es), j)
grown seen item xs v ds es i j e = ap (and_then (λ y. pure (map seen xs ++ y.0 ∷ [], y.1))) e ∙ ap (λ zs. Ok ((zs, es), j)) (sym (map-end seen xs v))

pub growing_on : {A B : Type 0} (seen : A → B) (goes : In (List B) → Option Lexeme → Bool) (item : List Scope → Reader (In B)) (m k : ℕ) (xs : List A) (v : A) (ds es : List Scope) (i j : Input) (whole : Result (In (List B) × Input) Input) →
    Going goes (grow item) m (map seen xs, ds) i whole → goes (map seen xs, ds) (head i.rest) ≡ true → item ds i ≡ Ok ((seen v, es), j) → k < m → Going goes (grow item) k (map seen (xs ++ v ∷ []), es) j whole
growing_on seen goes item m k xs v ds es i j whole g on e lt = going_on goes (grow item) m k (map seen xs, ds) (map seen (xs ++ v ∷ []), es) i j whole g on (grown seen item xs v ds es i j e) lt

pub growing_fails : {A B : Type 0} (seen : A → B) (goes : In (List B) → Option Lexeme → Bool) (item : List Scope → Reader (In B)) (m : ℕ) (xs : List A) (ds : List Scope) (i j : Input) (whole : Result (In (List B) × Input) Input) (e : ParseStop) →
    Going goes (grow item) m (map seen xs, ds) i whole → 0 < m → goes (map seen xs, ds) (head i.rest) ≡ true → Fails e (item ds i) j → Fails e whole j
growing_fails seen goes item m xs ds i j whole e g lt on f = going_fails goes (grow item) m (map seen xs, ds) i j whole e g lt on (failed_then e (item ds i) (λ y. pure (map seen xs ++ y.0 ∷ [], y.1)) j f)

-- lists with something that may stand behind a last comma

added : {B : Type 0} → List B → In (Option B) → In (List B × Bool)
added xs (None, es) = ((xs, true), es)
added xs (Some v, es) = ((xs ++ v ∷ [], false), es)

by_final : {B : Type 0} (xs : List B) (ds : List Scope) (r : Result (Unit {0} × Input) Input) →
    and_then (λ c. pure ((xs, true), ds)) r ≡ and_then (λ o. pure (added xs o)) (and_then (λ c. pure (None, ds)) r)
unfolding added
by_final xs ds (Ok x) = refl
by_final xs ds (Err i) = refl

by_item : {B : Type 0} (xs : List B) (r : Result (In B × Input) Input) →
    and_then (λ y. pure ((xs ++ y.0 ∷ [], false), y.1)) r ≡ and_then (λ o. pure (added xs o)) (and_then (λ y. pure (Some y.0, y.1)) r)
unfolding added
by_item xs (Ok x) = refl
by_item xs (Err i) = refl

by_either : {B : Type 0} (b : Bool) (final : Reader (Unit {0})) (item : List Scope → Reader (In B)) (xs : List B) (ds : List Scope) (i : Input) →
    pick b (bind final (λ c. pure ((xs, true), ds))) (bind (item ds) (λ y. pure ((xs ++ y.0 ∷ [], false), y.1))) i
    ≡ and_then (λ o. pure (added xs o)) (pick b (bind final (λ c. pure (None, ds))) (bind (item ds) (λ y. pure (Some y.0, y.1))) i)
by_either true final item xs ds i = by_final xs ds (final i)
by_either false final item xs ds i = by_item xs (item ds i)

by_comma : {B : Type 0} (ends : Option Lexeme → Bool) (final : Reader (Unit {0})) (item : List Scope → Reader (In B)) (xs : List B) (ds : List Scope) (r : Result (Unit {0} × Input) Input) →
    and_then (λ c. one_more_or_end ends final item ((xs, false), ds)) r ≡ and_then (λ o. pure (added xs o)) (and_then (λ c. when ends (bind final (λ d. pure (None, ds))) (bind (item ds) (λ y. pure (Some y.0, y.1)))) r)
by_comma ends final item xs ds (Ok x) = by_either (ends (head x.1.rest)) final item xs ds x.1
by_comma ends final item xs ds (Err i) = refl

-- the step of such a list, by its item
step_by : {B : Type 0} (ends : Option Lexeme → Bool) (final : Reader (Unit {0})) (item : List Scope → Reader (In B)) (xs : List B) (ds : List Scope) (i : Input) →
    more_or_end ends final item ((xs, false), ds) i ≡ and_then (λ o. pure (added xs o)) (item_or_end ends final item ds i)
step_by ends final item xs ds i = by_comma ends final item xs ds (take (is_sign CommaSign) i)

goes_by : {B : Type 0} (xs : List B) (ds : List Scope) (i : Input) → comma_ahead (head i.rest) ≡ true → goes_to ((xs, false), ds) (head i.rest) ≡ true
goes_by xs ds i e = e

pub ending_on : {A B : Type 0} (seen : A → B) (ends : Option Lexeme → Bool) (final : Reader (Unit {0})) (item : List Scope → Reader (In B)) (m k : ℕ) (xs : List A) (v : A) (ds es : List Scope) (i j : Input) (whole : Result (In (List B × Bool) × Input) Input) →
    Going goes_to (more_or_end ends final item) m ((map seen xs, false), ds) i whole → comma_ahead (head i.rest) ≡ true → item_or_end ends final item ds i ≡ Ok ((Some (seen v), es), j) → k < m →
    Going goes_to (more_or_end ends final item) k ((map seen (xs ++ v ∷ []), false), es) j whole
unfolding added
ending_on seen ends final item m k xs v ds es i j whole g on e lt =
    going_on goes_to (more_or_end ends final item) m k ((map seen xs, false), ds) ((map seen (xs ++ v ∷ []), false), es) i j whole g on
    (step_by ends final item (map seen xs) ds i ∙ (ap (and_then (λ o. pure (added (map seen xs) o))) e ∙ ap (λ zs. Ok (((zs, false), es), j)) (sym (map-end seen xs v)))) lt

pub ending_at_last : {A B : Type 0} (seen : A → B) (ends : Option Lexeme → Bool) (final : Reader (Unit {0})) (item : List Scope → Reader (In B)) (m : ℕ) (xs : List A) (ds es : List Scope) (i j : Input) (whole : Result (In (List B × Bool) × Input) Input) →
    Going goes_to (more_or_end ends final item) m ((map seen xs, false), ds) i whole → 0 < m → comma_ahead (head i.rest) ≡ true → item_or_end ends final item ds i ≡ Ok ((None, es), j) → whole ≡ Ok (((map seen xs, true), es), j)
unfolding added
ending_at_last seen ends final item m xs ds es i j whole g lt on e =
    going_end goes_to (more_or_end ends final item) 0 ((map seen xs, true), es) j whole
    (going_on goes_to (more_or_end ends final item) m 0 ((map seen xs, false), ds) ((map seen xs, true), es) i j whole g on
    (step_by ends final item (map seen xs) ds i ∙ ap (and_then (λ o. pure (added (map seen xs) o))) e) lt) refl

pub ending_fails : {A B : Type 0} (seen : A → B) (ends : Option Lexeme → Bool) (final : Reader (Unit {0})) (item : List Scope → Reader (In B)) (m : ℕ) (xs : List A) (ds : List Scope) (i j : Input) (whole : Result (In (List B × Bool) × Input) Input) (e : ParseStop) →
    Going goes_to (more_or_end ends final item) m ((map seen xs, false), ds) i whole → 0 < m → comma_ahead (head i.rest) ≡ true → Fails e (item_or_end ends final item ds i) j → Fails e whole j
ending_fails seen ends final item m xs ds i j whole e g lt on f =
    going_fails goes_to (more_or_end ends final item) m ((map seen xs, false), ds) i j whole e g lt on
    (subst (λ r. Fails e r j) (sym (step_by ends final item (map seen xs) ds i)) (failed_then e (item_or_end ends final item ds i) (λ o. pure (added (map seen xs) o)) j f))

pub ending_end : {A B : Type 0} (seen : A → B) (ends : Option Lexeme → Bool) (final : Reader (Unit {0})) (item : List Scope → Reader (In B)) (m : ℕ) (xs : List A) (ds : List Scope) (i : Input) (whole : Result (In (List B × Bool) × Input) Input) →
    Going goes_to (more_or_end ends final item) m ((map seen xs, false), ds) i whole → comma_ahead (head i.rest) ≡ false → whole ≡ Ok (((map seen xs, false), ds), i)
ending_end seen ends final item m xs ds i whole g off = going_end goes_to (more_or_end ends final item) m ((map seen xs, false), ds) i whole g off

-- specifiers, where what goes on depends on what was read

pub specified_on : (h : ℕ) (sub : Subs) (form : SpecifierForm) (m k : ℕ) (xs : List Specifier) (v : Specifier) (typed : Bool) (ds es : List Scope) (i j : Input) (whole : Result (In (List SpecifierTree) × Input) Input) →
    Going specified_goes (next_specifier h sub form) m (map specifier_of xs, ds) i whole → typed ≡ some_typed (map specifier_of xs) → goes_on_specifiers typed ds (head i.rest) ≡ true →
    specifier h sub form typed ds i ≡ Ok ((specifier_of v, es), j) → k < m → Going specified_goes (next_specifier h sub form) k (map specifier_of (xs ++ v ∷ []), es) j whole
specified_on h sub form m k xs v typed ds es i j whole g is on e lt =
    going_on specified_goes (next_specifier h sub form) m k (map specifier_of xs, ds) (map specifier_of (xs ++ v ∷ []), es) i j whole g
    (subst (λ b. goes_on_specifiers b ds (head i.rest) ≡ true) is on)
    (grown specifier_of (specifier h sub form (some_typed (map specifier_of xs))) xs v ds es i j (subst (λ b. specifier h sub form b ds i ≡ Ok ((specifier_of v, es), j)) is e)) lt

pub specified_fails : (h : ℕ) (sub : Subs) (form : SpecifierForm) (m : ℕ) (xs : List Specifier) (typed : Bool) (ds : List Scope) (i j : Input) (whole : Result (In (List SpecifierTree) × Input) Input) (e : ParseStop) →
    Going specified_goes (next_specifier h sub form) m (map specifier_of xs, ds) i whole → typed ≡ some_typed (map specifier_of xs) → 0 < m → goes_on_specifiers typed ds (head i.rest) ≡ true →
    Fails e (specifier h sub form typed ds i) j → Fails e whole j
specified_fails h sub form m xs typed ds i j whole e g is lt on f =
    going_fails specified_goes (next_specifier h sub form) m (map specifier_of xs, ds) i j whole e g lt (subst (λ b. goes_on_specifiers b ds (head i.rest) ≡ true) is on)
    (failed_then e (specifier h sub form (some_typed (map specifier_of xs)) ds i) (λ y. pure (map specifier_of xs ++ y.0 ∷ [], y.1)) j (subst (λ b. Fails e (specifier h sub form b ds i) j) is f))

pub specified_end : (h : ℕ) (sub : Subs) (form : SpecifierForm) (m : ℕ) (xs : List Specifier) (typed : Bool) (ds : List Scope) (i : Input) (whole : Result (In (List SpecifierTree) × Input) Input) →
    Going specified_goes (next_specifier h sub form) m (map specifier_of xs, ds) i whole → typed ≡ some_typed (map specifier_of xs) → goes_on_specifiers typed ds (head i.rest) ≡ false → whole ≡ Ok ((map specifier_of xs, ds), i)
specified_end h sub form m xs typed ds i whole g is off = going_end specified_goes (next_specifier h sub form) m (map specifier_of xs, ds) i whole g (subst (λ b. goes_on_specifiers b ds (head i.rest) ≡ false) is off)
