-- Device: where the reading of external declarations stops, one behind the other, stands a syntax fault.
use Rattle.std.proofs.Common.{◌≡◌, refl, sym, ap, ◌∙◌, subst, ℕ, zero, suc, ◌+◌, ◌<◌, length, Bool, true, false, List, [], ◌∷◌, ◌++◌, Option, Some, None, Result, Ok, Err, append_assoc, arith, length-append, true≢false}
use Rattle.cil_base.specs.declared.faults.Fault.TheVariants.{Syntax}
use Rattle.cil_base.specs.declared.faults.Place.{Place}
use Rattle.typedef_scopes.specs.Scopes.{Scope}
use Rattle.c_lexer.specs.Lexed.{Lexed, place_at}
use Rattle.c_tree.specs.Units.{ExternalTree}
use Rattle.c_tree.specs.Spelling.{Lexeme}
use Rattle.c_tree.specs.Levels.{has_some}
use Rattle.c_cursor.specs.Lexemes.{lexemes}
use Rattle.c_cursor.specs.Readers.{Input, input, head}
use Rattle.c_exprs.specs.Subs.{In}
use Rattle.c_parser.specs.Externals.{file_scope, greatest_height}
use Rattle.c_parser.specs.StatementWords.{token_ahead}
use Rattle.c_parser.specs.UnitAnswers.{AreExternals, RefusesUnit}
use Rattle.c_parser.specs.UnitForms.{IsExternal}
use Rattle.c_parser.specs.UnitReading.{external_of}
use Rattle.c_parser.proofs.UnitLaws.{external_reading, extended, refused, some_more}
use Rattle.c_faults.specs.Reading.{Begins, IsFirstSyntaxFault}
use Rattle.c_faults.specs.FirstRefusal.{stop_of, stops_from}

-- one more external declaration behind those in front of some tokens
record Next (xs : List ExternalTree) (x : In ExternalTree) (ts front : List Lexeme) (j : Input) : Type 0 where
  text : List Lexeme
  parts : ts ≡ (front ++ text) ++ j.rest
  number : j.at ≡ length (front ++ text)
  are : AreExternals file_scope (xs ++ x.0 ∷ []) x.1 0 (front ++ text)

next : (xs : List ExternalTree) (es : List Scope) (x : In ExternalTree) (ts front rest : List Lexeme) (j : Input) → ts ≡ front ++ rest → AreExternals file_scope xs es 0 front → external_of greatest_height es (input (length front) rest) ≡ Ok (x, j) → Next xs x ts front j
next xs es x ts front rest j parts a e =
    let t = (external_reading es greatest_height).takes (length front) rest x j tt e in
    let number : length front ≡ 0 + length front = omega arith in
    record {
      text = t.text;
      parts = parts ∙ (ap (λ u. front ++ u) t.parts ∙ sym (append_assoc front t.text j.rest));
      number = t.number ∙ sym (length-append front t.text);
      are = extended xs file_scope es x.1 x.0 0 front t.text a (subst (λ k. IsExternal es greatest_height x k t.text) number t.holds);
    }

same_pair : (a b : ℕ) (x : ℕ × ℕ) → Some (a, b) ≡ Some x → (a ≡ x.0) × (b ≡ x.1)
same_pair a b x e = (cc, cc)

none_is_none : {A : Type 0} (x : A) → None ≡ Some x → ⊥
none_is_none x e = cc

abbrev Stopped : ℕ → Type 0
Stopped n = (xs : List ExternalTree) (es : List Scope) (ts front rest : List Lexeme) (x : ℕ × ℕ) → ts ≡ front ++ rest → AreExternals file_scope xs es 0 front → (has_some xs ≡ true → token_ahead (head rest) ≡ true)
    → stops_from n es (input (length front) rest) ≡ Some x → RefusesUnit ts x.0 x.1

goes_on : (n : ℕ) → Stopped n → (xs : List ExternalTree) (y : In ExternalTree) (ts front : List Lexeme) (j : Input) (x : ℕ × ℕ) → Next xs y ts front j
    → (on : Bool) → token_ahead (head j.rest) ≡ on → elim on [ true ↦ stops_from n y.1 j | false ↦ None ] ≡ Some x → RefusesUnit ts x.0 x.1
goes_on n ih xs y ts front j x t false on e = absurd (none_is_none x e)
goes_on n ih xs y ts front j x t true on e = ih (xs ++ y.0 ∷ []) y.1 ts (front ++ t.text) j.rest x t.parts t.are (λ s. on) (subst (λ k. stops_from n y.1 (input k j.rest) ≡ Some x) t.number e)

stops_at : (n : ℕ) → Stopped n → (xs : List ExternalTree) (es : List Scope) (ts front rest : List Lexeme) (x : ℕ × ℕ) → ts ≡ front ++ rest → AreExternals file_scope xs es 0 front → (has_some xs ≡ true → token_ahead (head rest) ≡ true)
    → (r : Result (In ExternalTree × Input) Input) → external_of greatest_height es (input (length front) rest) ≡ r → stop_of (stops_from n) (length front) r ≡ Some x → RefusesUnit ts x.0 x.1
stops_at n ih xs es ts front rest x parts a some (Err i) e f =
    let p = same_pair (length front) i.at x f in
    subst (λ k. RefusesUnit ts k x.1) p.0 (subst (RefusesUnit ts (length front)) p.1 (refused xs es ts front rest i parts a some e))
stops_at n ih xs es ts front rest x parts a some (Ok y) e f = goes_on n ih xs y.0 ts front y.1 x (next xs es y.0 ts front rest y.1 parts a e) (token_ahead (head y.1.rest)) refl f

stopped : (n : ℕ) → Stopped n
stopped zero xs es ts front rest x parts a some e = absurd (none_is_none x e)
stopped (suc n) xs es ts front rest x parts a some e = stops_at n (stopped n) xs es ts front rest x parts a some (external_of greatest_height es (input (length front) rest)) refl e

-- the tokens are those of no unit, and at the two numbers stands why
pub stops_refuse : (n : ℕ) (ts : List Lexeme) (x : ℕ × ℕ) → stops_from n file_scope (input 0 ts) ≡ Some x → RefusesUnit ts x.0 x.1
stops_refuse n ts x e = stopped n [] file_scope ts [] ts x refl (refl, refl) (λ s. absurd (true≢false (sym s))) e

pub is_first : (t : Lexed) (start stop : ℕ) (at other : Place) → RefusesUnit (lexemes t) start stop → place_at t start ≡ Some at → place_at t stop ≡ Some other → Begins (lexemes t) start stop
    → IsFirstSyntaxFault t (record { fault = Syntax; at = at; other = Some other })
is_first t start stop at other g d e b = record { fault = record { start = start; stop = stop; other = other; refuses = g; fault = refl; at = d; behind = e; told = refl }; begins = b }
