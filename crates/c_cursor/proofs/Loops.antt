-- A loop of the code against a chain of readings: what was read so far, and the steps that are left, give the whole.
use Rattle.std.proofs.Common.{◌≡◌, refl, sym, ◌∙◌, ap, subst, ℕ, zero, suc, ◌-◌, ◌<◌, ◌≤◌, arith, Bool, true, false, List, length, drop, Option, Result, Ok, length-drop}
use Rattle.c_tree.specs.Spelling.{Lexeme}
use Rattle.c_cursor.specs.declared.stops.ParseStop.{ParseStop}
use Rattle.c_cursor.specs.declared.stops.ParseStop.TheVariants.{At, Memory}
use Rattle.c_cursor.specs.Readers.{Input, Reader, head, bind, and_then, pure, pick, chain, many}
use Rattle.c_cursor.specs.Lexemes.{Standing, ahead}
use Rattle.c_cursor.specs.Given.{Fails}
use Rattle.c_cursor.specs.Steps.{Going}

left_at : (us : List Lexeme) (i : ℕ) → length us - i ≤ length (drop i us)
left_at us i = omega (arith, length-drop i us)

pub going_start : {A : Type 0} (goes : A → Option Lexeme → Bool) (step : A → Reader A) (x : A) (c : Standing) → Going goes step (length c.all - c.at) x (ahead c) (many goes step x (ahead c))
unfolding Going
going_start goes step x c = (length (drop c.at c.all), left_at c.all c.at, refl)

pub picked : {A : Type 0} (b : Bool) (met unmet : Reader A) (i : Input) → b ≡ true → pick b met unmet i ≡ met i
picked b met unmet i e = rw e refl

pub unpicked : {A : Type 0} (b : Bool) (met unmet : Reader A) (i : Input) → b ≡ false → pick b met unmet i ≡ unmet i
unpicked b met unmet i e = rw e refl

pub stepped : {A : Type 0} (goes : A → Option Lexeme → Bool) (step : A → Reader A) (n : ℕ) (x : A) (i : Input) → goes x (head i.rest) ≡ true → chain goes step (suc n) x i ≡ and_then (λ y. chain goes step n y) (step x i)
stepped goes step n x i e = picked (goes x (head i.rest)) (bind (step x) (λ y. chain goes step n y)) (pure x) i e

on_by : {A : Type 0} (goes : A → Option Lexeme → Bool) (step : A → Reader A) (m k n : ℕ) (x y : A) (i j : Input) (whole : Result (A × Input) Input) → m ≤ n → chain goes step n x i ≡ whole → goes x (head i.rest) ≡ true → step x i ≡ Ok (y, j) → k < m → Going goes step k y j whole
unfolding Going
on_by goes step m k zero x y i j whole le is e s lt = absurd (omega (arith, le, lt))
on_by goes step m k (suc n) x y i j whole le is e s lt = (n, omega (arith, le, lt), sym (ap (and_then (λ z. chain goes step n z)) s) ∙ (sym (stepped goes step n x i e) ∙ is))

pub going_on : {A : Type 0} (goes : A → Option Lexeme → Bool) (step : A → Reader A) (m k : ℕ) (x y : A) (i j : Input) (whole : Result (A × Input) Input) → Going goes step m x i whole → goes x (head i.rest) ≡ true → step x i ≡ Ok (y, j) → k < m → Going goes step k y j whole
unfolding Going
going_on goes step m k x y i j whole g e s lt = on_by goes step m k g.0 x y i j whole g.1 g.2 e s lt

end_by : {A : Type 0} (goes : A → Option Lexeme → Bool) (step : A → Reader A) (n : ℕ) (x : A) (i : Input) → goes x (head i.rest) ≡ false → chain goes step n x i ≡ Ok (x, i)
end_by goes step zero x i e = refl
end_by goes step (suc n) x i e = unpicked (goes x (head i.rest)) (bind (step x) (λ y. chain goes step n y)) (pure x) i e

pub going_end : {A : Type 0} (goes : A → Option Lexeme → Bool) (step : A → Reader A) (m : ℕ) (x : A) (i : Input) (whole : Result (A × Input) Input) → Going goes step m x i whole → goes x (head i.rest) ≡ false → whole ≡ Ok (x, i)
unfolding Going
going_end goes step m x i whole g e = sym g.2 ∙ end_by goes step g.0 x i e

-- a reading that fails makes each that goes on behind it fail
pub failed_then : {A B : Type 0} (e : ParseStop) (read : Result (A × Input) Input) (second : A → Reader B) (j : Input) → Fails e read j → Fails e (and_then second read) j
failed_then (At n) read second j f = (ap (and_then second) f.0, f.1)
failed_then Memory read second j f = tt

fails_by : {A : Type 0} (goes : A → Option Lexeme → Bool) (step : A → Reader A) (m n : ℕ) (x : A) (i j : Input) (whole : Result (A × Input) Input) (e : ParseStop) → m ≤ n → chain goes step n x i ≡ whole → 0 < m → goes x (head i.rest) ≡ true → Fails e (step x i) j → Fails e whole j
fails_by goes step m zero x i j whole e le is lt on f = absurd (omega (arith, le, lt))
fails_by goes step m (suc n) x i j whole e le is lt on f = subst (λ r. Fails e r j) (sym (stepped goes step n x i on) ∙ is) (failed_then e (step x i) (λ y. chain goes step n y) j f)

pub going_fails : {A : Type 0} (goes : A → Option Lexeme → Bool) (step : A → Reader A) (m : ℕ) (x : A) (i j : Input) (whole : Result (A × Input) Input) (e : ParseStop) → Going goes step m x i whole → 0 < m → goes x (head i.rest) ≡ true → Fails e (step x i) j → Fails e whole j
unfolding Going
going_fails goes step m x i j whole e g lt on f = fails_by goes step m g.0 x i j whole e g.1 g.2 lt on f
