-- One step of a loop of the code against the whole reading, said of the facts that the code has.
use Rattle.std.proofs.Common.{◌≡◌, sym, ◌∙◌, ap, subst, ℕ, ◌-◌, ◌<◌, ◌≤◌, arith, Bool, true, false, List, [], ◌∷◌, ◌++◌, length, drop, Option, Result, Ok, length-drop}
use Rattle.c_tree.specs.Spelling.{Lexeme}
use Rattle.c_cursor.specs.declared.stops.ParseStop.{ParseStop}
use Rattle.c_cursor.specs.Readers.{Input, input, Reader, head, bind, and_then, pure, many}
use Rattle.c_cursor.specs.Given.{Fails}
use Rattle.c_cursor.specs.Steps.{Going, Collecting}
use Rattle.c_cursor.proofs.Loops.{going_on, going_end, going_fails, failed_then}

left_at : (us : List Lexeme) (i : ℕ) → length us - i ≤ length (drop i us)
left_at us i = omega (arith, length-drop i us)

-- fewer tokens are left
pub nearer : (us vs : List Lexeme) (i j : ℕ) → vs ≡ us → i < j → i < length us → length vs - j < length us - i
nearer us vs i j same lt room = omega (arith, ap length same, lt, room)

pub some_left : (us : List Lexeme) (i : ℕ) → i < length us → 0 < length us - i
some_left us i room = omega (arith, room)

pub begun : {A : Type 0} (goes : A → Option Lexeme → Bool) (step : A → Reader A) (all : List Lexeme) (at : ℕ) (x : A) (whole : Result (A × Input) Input) → whole ≡ many goes step x (input at (drop at all)) → Going goes step (length all - at) x (input at (drop at all)) whole
unfolding Going
begun goes step all at x whole e = (length (drop at all), left_at all at, sym e)

-- a list of tokens

module _ {A : Type 0} (goes : List A → Option Lexeme → Bool) (item : Reader A) where
  pub collecting_from : (all : List Lexeme) (at : ℕ) (xs : List A) (whole : Result (List A × Input) Input) → whole ≡ many goes (λ ys. bind item (λ v. pure (ys ++ v ∷ []))) xs (input at (drop at all)) → Collecting goes item all at xs whole
  unfolding Collecting
  collecting_from all at xs whole e = begun goes (λ ys. bind item (λ v. pure (ys ++ v ∷ []))) all at xs whole e

  pub collecting_next : (all more : List Lexeme) (at to : ℕ) (xs ys : List A) (v : A) (b : Bool) (whole : Result (List A × Input) Input) →
      Collecting goes item all at xs whole → b ≡ goes xs (head (drop at all)) → b ≡ true → (b ≡ true → at < length all) →
      item (input at (drop at all)) ≡ Ok (v, input to (drop to more)) → ys ≡ xs ++ v ∷ [] → more ≡ all → at < to → Collecting goes item more to ys whole
  unfolding Collecting
  collecting_next all more at to xs ys v b whole g is on room e grown same lt =
      subst (λ zs. Going goes (λ us. bind item (λ w. pure (us ++ w ∷ []))) (length more - to) zs (input to (drop to more)) whole) (sym grown)
      (going_on goes (λ us. bind item (λ w. pure (us ++ w ∷ []))) (length all - at) (length more - to) xs (xs ++ v ∷ []) (input at (drop at all)) (input to (drop to more)) whole g (sym is ∙ on)
      (ap (and_then (λ w. pure (xs ++ w ∷ []))) e) (nearer all more at to same lt (room on)))

  pub collecting_stops : (all : List Lexeme) (at : ℕ) (xs : List A) (b : Bool) (whole : Result (List A × Input) Input) (e : ParseStop) (j : Input) →
      Collecting goes item all at xs whole → b ≡ goes xs (head (drop at all)) → b ≡ true → (b ≡ true → at < length all) → Fails e (item (input at (drop at all))) j → Fails e whole j
  unfolding Collecting
  collecting_stops all at xs b whole e j g is on room f =
      going_fails goes (λ us. bind item (λ w. pure (us ++ w ∷ []))) (length all - at) xs (input at (drop at all)) j whole e g (some_left all at (room on)) (sym is ∙ on)
      (failed_then e (item (input at (drop at all))) (λ w. pure (xs ++ w ∷ [])) j f)

  pub collecting_ends : (all : List Lexeme) (at : ℕ) (xs : List A) (b : Bool) (whole : Result (List A × Input) Input) →
      Collecting goes item all at xs whole → b ≡ goes xs (head (drop at all)) → b ≡ false → whole ≡ Ok (xs, input at (drop at all))
  unfolding Collecting
  collecting_ends all at xs b whole g is off = going_end goes (λ us. bind item (λ w. pure (us ++ w ∷ []))) (length all - at) xs (input at (drop at all)) whole g (sym is ∙ off)
