-- One step of a loop of the code against the whole reading, said of the facts that the code has.
use Rattle.std.proofs.Common.{◌≡◌, sym, ◌∙◌, ap, subst, ℕ, ◌-◌, ◌<◌, Bool, true, false, List, [], ◌∷◌, ◌++◌, map, length, drop, Option, Some, None, Result, Ok, Err}
use Rattle.std.specs.Option.{option_map}
use Rattle.typedef_scopes.specs.Scopes.{Scope}
use Rattle.cil_base.specs.declared.numbers.NameId.{NameId}
use Rattle.c_tree.specs.Spelling.{Lexeme}
use Rattle.c_tree.specs.Syntax.{SpecifierTree}
use Rattle.c_tree.specs.declared.expression.Specifier.{Specifier}
use Rattle.c_tree.specs.View.{specifier_of}
use Rattle.c_cursor.specs.declared.stops.ParseStop.{ParseStop}
use Rattle.c_cursor.specs.declared.stops.ParseStop.TheVariants.{At, Memory}
use Rattle.c_exprs.specs.declared.words.SpecifierForm.{SpecifierForm}
use Rattle.cil_base.specs.declared.tokens.Punctuator.TheVariants.{Comma as CommaSign}
use Rattle.c_cursor.specs.Readers.{Input, input, Reader, head, bind, and_then, pure, one, many}
use Rattle.c_cursor.specs.Classes.{is_sign, take}
use Rattle.c_exprs.specs.Classes.{an_identifier}
use Rattle.c_exprs.specs.GoesOn.{goes_on_specifiers}
use Rattle.c_exprs.specs.Subs.{In, grow, comma_ahead, more_or_end}
use Rattle.c_exprs.specs.SpecifierReading.{specifier, some_typed, next_specifier}
use Rattle.c_exprs.specs.DeclaratorReading.{next_identifier}
use Rattle.c_exprs.specs.Reading.{below}
use Rattle.c_cursor.specs.Given.{Fails}
use Rattle.c_cursor.specs.Steps.{Going}
use Rattle.c_exprs.specs.Steps.{item_or_end, goes_to, specified_goes, comma_identifier}
use Rattle.c_exprs.specs.ListSteps.{Following, Growing, Ending, Naming, Specifying}
use Rattle.c_cursor.proofs.Loops.{going_on, going_end, going_fails, failed_then}
use Rattle.c_exprs.proofs.Loops.{growing_on, growing_fails, ending_on, ending_at_last, ending_fails, ending_end, specified_on, specified_fails, specified_end}
use Rattle.c_cursor.proofs.ListLoops.{nearer, some_left, begun}

-- one tree, to which each step adds

module _ {B : Type 0} (goes : In B → Option Lexeme → Bool) (step : In B → Reader (In B)) where
  pub following_from : (all : List Lexeme) (at : ℕ) (x : B) (ds : List Scope) (whole : Result (In B × Input) Input) → whole ≡ many goes step (x, ds) (input at (drop at all)) → Following goes step all at x ds whole
  unfolding Following
  following_from all at x ds whole e = begun goes step all at (x, ds) whole e

  pub following_next : (all more : List Lexeme) (at to : ℕ) (x y : B) (ds es : List Scope) (b : Bool) (whole : Result (In B × Input) Input) →
      Following goes step all at x ds whole → b ≡ goes (x, ds) (head (drop at all)) → b ≡ true → (b ≡ true → at < length all) →
      step (x, ds) (input at (drop at all)) ≡ Ok ((y, es), input to (drop to more)) → more ≡ all → at < to → Following goes step more to y es whole
  unfolding Following
  following_next all more at to x y ds es b whole g is on room e same lt =
      going_on goes step (length all - at) (length more - to) (x, ds) (y, es) (input at (drop at all)) (input to (drop to more)) whole g (sym is ∙ on) e (nearer all more at to same lt (room on))

  pub following_fails : (all : List Lexeme) (at : ℕ) (x : B) (ds : List Scope) (b : Bool) (whole : Result (In B × Input) Input) (e : ParseStop) (j : Input) →
      Following goes step all at x ds whole → b ≡ goes (x, ds) (head (drop at all)) → b ≡ true → (b ≡ true → at < length all) → Fails e (step (x, ds) (input at (drop at all))) j → Fails e whole j
  unfolding Following
  following_fails all at x ds b whole e j g is on room f =
      going_fails goes step (length all - at) (x, ds) (input at (drop at all)) j whole e g (some_left all at (room on)) (sym is ∙ on) f

  pub following_ends : (all : List Lexeme) (at : ℕ) (x : B) (ds : List Scope) (b : Bool) (whole : Result (In B × Input) Input) →
      Following goes step all at x ds whole → b ≡ goes (x, ds) (head (drop at all)) → b ≡ false → whole ≡ Ok ((x, ds), input at (drop at all))
  unfolding Following
  following_ends all at x ds b whole g is off = going_end goes step (length all - at) (x, ds) (input at (drop at all)) whole g (sym is ∙ off)

-- a list of trees

module _ {A B : Type 0} (seen : A → B) (goes : In (List B) → Option Lexeme → Bool) (item : List Scope → Reader (In B)) where
  pub growing_from : (all : List Lexeme) (at : ℕ) (xs : List A) (ds : List Scope) (whole : Result (In (List B) × Input) Input) → whole ≡ many goes (grow item) (map seen xs, ds) (input at (drop at all)) → Growing seen goes item all at xs ds whole
  unfolding Growing
  growing_from all at xs ds whole e = begun goes (grow item) all at (map seen xs, ds) whole e

  pub growing_next : (all more : List Lexeme) (at to : ℕ) (xs ys : List A) (v : A) (ds es : List Scope) (b : Bool) (whole : Result (In (List B) × Input) Input) →
      Growing seen goes item all at xs ds whole → b ≡ goes (map seen xs, ds) (head (drop at all)) → b ≡ true → (b ≡ true → at < length all) →
      item ds (input at (drop at all)) ≡ Ok ((seen v, es), input to (drop to more)) → ys ≡ xs ++ v ∷ [] → more ≡ all → at < to → Growing seen goes item more to ys es whole
  unfolding Growing
  growing_next all more at to xs ys v ds es b whole g is on room e grown same lt =
      subst (λ zs. Going goes (grow item) (length more - to) (map seen zs, es) (input to (drop to more)) whole) (sym grown)
      (growing_on seen goes item (length all - at) (length more - to) xs v ds es (input at (drop at all)) (input to (drop to more)) whole g (sym is ∙ on) e (nearer all more at to same lt (room on)))

  pub growing_stops : (all : List Lexeme) (at : ℕ) (xs : List A) (ds : List Scope) (b : Bool) (whole : Result (In (List B) × Input) Input) (e : ParseStop) (j : Input) →
      Growing seen goes item all at xs ds whole → b ≡ goes (map seen xs, ds) (head (drop at all)) → b ≡ true → (b ≡ true → at < length all) → Fails e (item ds (input at (drop at all))) j → Fails e whole j
  unfolding Growing
  growing_stops all at xs ds b whole e j g is on room f =
      growing_fails seen goes item (length all - at) xs ds (input at (drop at all)) j whole e g (some_left all at (room on)) (sym is ∙ on) f

  pub growing_ends : (all : List Lexeme) (at : ℕ) (xs : List A) (ds : List Scope) (b : Bool) (whole : Result (In (List B) × Input) Input) →
      Growing seen goes item all at xs ds whole → b ≡ goes (map seen xs, ds) (head (drop at all)) → b ≡ false → whole ≡ Ok ((map seen xs, ds), input at (drop at all))
  unfolding Growing
  growing_ends all at xs ds b whole g is off = going_end goes (grow item) (length all - at) (map seen xs, ds) (input at (drop at all)) whole g (sym is ∙ off)

-- the same where something may stand behind a last comma

module _ {A B : Type 0} (seen : A → B) (ends : Option Lexeme → Bool) (final : Reader (Unit {0})) (item : List Scope → Reader (In B)) where
  pub ending_from : (all : List Lexeme) (at : ℕ) (xs : List A) (ds : List Scope) (whole : Result (In (List B × Bool) × Input) Input) →
      whole ≡ many goes_to (more_or_end ends final item) ((map seen xs, false), ds) (input at (drop at all)) → Ending seen ends final item all at xs ds whole
  unfolding Ending
  ending_from all at xs ds whole e = begun goes_to (more_or_end ends final item) all at ((map seen xs, false), ds) whole e

  pub ending_next : (all more : List Lexeme) (at to : ℕ) (xs ys : List A) (v : A) (ds es : List Scope) (b : Bool) (whole : Result (In (List B × Bool) × Input) Input) →
      Ending seen ends final item all at xs ds whole → b ≡ comma_ahead (head (drop at all)) → b ≡ true → (b ≡ true → at < length all) →
      item_or_end ends final item ds (input at (drop at all)) ≡ Ok ((Some (seen v), es), input to (drop to more)) → ys ≡ xs ++ v ∷ [] → more ≡ all → at < to → Ending seen ends final item more to ys es whole
  unfolding Ending
  ending_next all more at to xs ys v ds es b whole g is on room e grown same lt =
      subst (λ zs. Going goes_to (more_or_end ends final item) (length more - to) ((map seen zs, false), es) (input to (drop to more)) whole) (sym grown)
      (ending_on seen ends final item (length all - at) (length more - to) xs v ds es (input at (drop at all)) (input to (drop to more)) whole g (sym is ∙ on) e (nearer all more at to same lt (room on)))

  pub ending_stops : (all : List Lexeme) (at : ℕ) (xs : List A) (ds : List Scope) (b : Bool) (whole : Result (In (List B × Bool) × Input) Input) (e : ParseStop) (j : Input) →
      Ending seen ends final item all at xs ds whole → b ≡ comma_ahead (head (drop at all)) → b ≡ true → (b ≡ true → at < length all) → Fails e (item_or_end ends final item ds (input at (drop at all))) j → Fails e whole j
  unfolding Ending
  ending_stops all at xs ds b whole e j g is on room f =
      ending_fails seen ends final item (length all - at) xs ds (input at (drop at all)) j whole e g (some_left all at (room on)) (sym is ∙ on) f

  pub ending_ends : (all : List Lexeme) (at : ℕ) (xs : List A) (ds : List Scope) (b : Bool) (whole : Result (In (List B × Bool) × Input) Input) →
      Ending seen ends final item all at xs ds whole → b ≡ comma_ahead (head (drop at all)) → b ≡ false → whole ≡ Ok (((map seen xs, false), ds), input at (drop at all))
  unfolding Ending
  ending_ends all at xs ds b whole g is off = ending_end seen ends final item (length all - at) xs ds (input at (drop at all)) whole g (sym is ∙ off)

-- nothing was found behind the last comma
pub ending_last : {A B C : Type 0} (seen : A → B) (told : C → B) (ends : Option Lexeme → Bool) (final : Reader (Unit {0})) (item : List Scope → Reader (In B)) (all more : List Lexeme) (at to : ℕ) (xs : List A) (found : Option C) (ds es : List Scope) (b : Bool) (whole : Result (In (List B × Bool) × Input) Input) →
    Ending seen ends final item all at xs ds whole → b ≡ comma_ahead (head (drop at all)) → b ≡ true → (b ≡ true → at < length all) →
    item_or_end ends final item ds (input at (drop at all)) ≡ Ok ((option_map told found, es), input to (drop to more)) → found ≡ None → whole ≡ Ok (((map seen xs, true), es), input to (drop to more))
unfolding Ending
ending_last seen told ends final item all more at to xs found ds es b whole g is on room e none =
    ending_at_last seen ends final item (length all - at) xs ds es (input at (drop at all)) (input to (drop to more)) whole g (some_left all at (room on)) (sym is ∙ on)
    (subst (λ o. item_or_end ends final item ds (input at (drop at all)) ≡ Ok ((option_map told o, es), input to (drop to more))) none e)

-- identifiers with commas between them

identified : (ds : List Scope) (ns : List NameId) (r : Result (Unit {0} × Input) Input) (n : NameId) (j : Input) →
    and_then (λ c. one (an_identifier ds)) r ≡ Ok (n, j) → and_then (λ c. bind (one (an_identifier ds)) (λ m. pure (ns ++ m ∷ []))) r ≡ Ok (ns ++ n ∷ [], j)
identified ds ns (Ok x) n j e = ap (and_then (λ m. pure (ns ++ m ∷ []))) e
identified ds ns (Err i) n j e = cc

unidentified : (ds : List Scope) (ns : List NameId) (r : Result (Unit {0} × Input) Input) (e : ParseStop) (j : Input) →
    Fails e (and_then (λ c. one (an_identifier ds)) r) j → Fails e (and_then (λ c. bind (one (an_identifier ds)) (λ m. pure (ns ++ m ∷ []))) r) j
unidentified ds ns (Ok x) e j f = failed_then e (one (an_identifier ds) x.1) (λ m. pure (ns ++ m ∷ [])) j f
unidentified ds ns (Err i) (At n) j f = (cc (f.0), f.1)
unidentified ds ns (Err i) Memory j f = tt

pub naming_from : (ds : List Scope) (all : List Lexeme) (at : ℕ) (ns : List NameId) (whole : Result (List NameId × Input) Input) → whole ≡ many (λ ms. comma_ahead) (next_identifier ds) ns (input at (drop at all)) → Naming ds all at ns whole
unfolding Naming
naming_from ds all at ns whole e = begun (λ ms. comma_ahead) (next_identifier ds) all at ns whole e

pub naming_next : (ds : List Scope) (all more : List Lexeme) (at to : ℕ) (ns ms : List NameId) (n : NameId) (b : Bool) (whole : Result (List NameId × Input) Input) →
    Naming ds all at ns whole → b ≡ comma_ahead (head (drop at all)) → b ≡ true → (b ≡ true → at < length all) →
    comma_identifier ds (input at (drop at all)) ≡ Ok (n, input to (drop to more)) → ms ≡ ns ++ n ∷ [] → more ≡ all → at < to → Naming ds more to ms whole
unfolding Naming
naming_next ds all more at to ns ms n b whole g is on room e grown same lt =
    subst (λ zs. Going (λ us. comma_ahead) (next_identifier ds) (length more - to) zs (input to (drop to more)) whole) (sym grown)
    (going_on (λ us. comma_ahead) (next_identifier ds) (length all - at) (length more - to) ns (ns ++ n ∷ []) (input at (drop at all)) (input to (drop to more)) whole g (sym is ∙ on)
    (identified ds ns (take (is_sign CommaSign) (input at (drop at all))) n (input to (drop to more)) e) (nearer all more at to same lt (room on)))

pub naming_stops : (ds : List Scope) (all : List Lexeme) (at : ℕ) (ns : List NameId) (b : Bool) (whole : Result (List NameId × Input) Input) (e : ParseStop) (j : Input) →
    Naming ds all at ns whole → b ≡ comma_ahead (head (drop at all)) → b ≡ true → (b ≡ true → at < length all) → Fails e (comma_identifier ds (input at (drop at all))) j → Fails e whole j
unfolding Naming
naming_stops ds all at ns b whole e j g is on room f =
    going_fails (λ us. comma_ahead) (next_identifier ds) (length all - at) ns (input at (drop at all)) j whole e g (some_left all at (room on)) (sym is ∙ on)
    (unidentified ds ns (take (is_sign CommaSign) (input at (drop at all))) e j f)

pub naming_ends : (ds : List Scope) (all : List Lexeme) (at : ℕ) (ns : List NameId) (b : Bool) (whole : Result (List NameId × Input) Input) →
    Naming ds all at ns whole → b ≡ comma_ahead (head (drop at all)) → b ≡ false → whole ≡ Ok (ns, input at (drop at all))
unfolding Naming
naming_ends ds all at ns b whole g is off = going_end (λ us. comma_ahead) (next_identifier ds) (length all - at) ns (input at (drop at all)) whole g (sym is ∙ off)

-- specifiers, where what goes on depends on what was read

module _ (h : ℕ) (form : SpecifierForm) where
  pub specifying_from : (all : List Lexeme) (at : ℕ) (xs : List Specifier) (ds : List Scope) (whole : Result (In (List SpecifierTree) × Input) Input) →
      whole ≡ many specified_goes (next_specifier h (below h) form) (map specifier_of xs, ds) (input at (drop at all)) → Specifying h form all at xs ds whole
  unfolding Specifying
  specifying_from all at xs ds whole e = begun specified_goes (next_specifier h (below h) form) all at (map specifier_of xs, ds) whole e

  pub specifying_next : (all more : List Lexeme) (at to : ℕ) (xs ys : List Specifier) (v : Specifier) (typed : Bool) (ds es : List Scope) (b : Bool) (whole : Result (In (List SpecifierTree) × Input) Input) →
      Specifying h form all at xs ds whole → typed ≡ some_typed (map specifier_of xs) → b ≡ goes_on_specifiers typed ds (head (drop at all)) → b ≡ true → (b ≡ true → at < length all) →
      specifier h (below h) form typed ds (input at (drop at all)) ≡ Ok ((specifier_of v, es), input to (drop to more)) → ys ≡ xs ++ v ∷ [] → more ≡ all → at < to → Specifying h form more to ys es whole
  unfolding Specifying
  specifying_next all more at to xs ys v typed ds es b whole g told is on room e grown same lt =
      subst (λ zs. Going specified_goes (next_specifier h (below h) form) (length more - to) (map specifier_of zs, es) (input to (drop to more)) whole) (sym grown)
      (specified_on h (below h) form (length all - at) (length more - to) xs v typed ds es (input at (drop at all)) (input to (drop to more)) whole g told (sym is ∙ on) e (nearer all more at to same lt (room on)))

  pub specifying_stops : (all : List Lexeme) (at : ℕ) (xs : List Specifier) (typed : Bool) (ds : List Scope) (b : Bool) (whole : Result (In (List SpecifierTree) × Input) Input) (e : ParseStop) (j : Input) →
      Specifying h form all at xs ds whole → typed ≡ some_typed (map specifier_of xs) → b ≡ goes_on_specifiers typed ds (head (drop at all)) → b ≡ true → (b ≡ true → at < length all) →
      Fails e (specifier h (below h) form typed ds (input at (drop at all))) j → Fails e whole j
  unfolding Specifying
  specifying_stops all at xs typed ds b whole e j g told is on room f =
      specified_fails h (below h) form (length all - at) xs typed ds (input at (drop at all)) j whole e g told (some_left all at (room on)) (sym is ∙ on) f

  pub specifying_ends : (all : List Lexeme) (at : ℕ) (xs : List Specifier) (typed : Bool) (ds : List Scope) (b : Bool) (whole : Result (In (List SpecifierTree) × Input) Input) →
      Specifying h form all at xs ds whole → typed ≡ some_typed (map specifier_of xs) → b ≡ goes_on_specifiers typed ds (head (drop at all)) → b ≡ false → whole ≡ Ok ((map specifier_of xs, ds), input at (drop at all))
  unfolding Specifying
  specifying_ends all at xs typed ds b whole g told is off = specified_end h (below h) form (length all - at) xs typed ds (input at (drop at all)) whole g told (sym is ∙ off)
