-- Device: readings that decide by the two tokens of a label, and readings whose node has the number of their first token.
use Rattle.std.proofs.Common.{◌≡◌, refl, sym, ap, ◌∙◌, subst, ℕ, ◌+◌, ◌<◌, length, Bool, true, false, ◌&&◌, List, [], ◌∷◌, ◌++◌, Option, Some, None, Result, Ok, Err, arith, append-nil, true≢false}
use Rattle.cil_base.specs.declared.numbers.NameId.{NameId}
use Rattle.cil_base.specs.declared.tokens.Punctuator.TheVariants.{Colon}
use Rattle.c_tree.specs.Spelling.{Lexeme, named}
use Rattle.typedef_scopes.specs.Scopes.{Scope, is_type}
use Rattle.c_cursor.specs.Readers.{Input, input, Reader, head, here, bind, pick}
use Rattle.c_cursor.specs.Classes.{is_sign, next_is, a_name, fitting}
use Rattle.c_exprs.specs.Classes.{is_some_of}
use Rattle.c_exprs.proofs.Laws.{Lawful, Faults, Taken, Any, Next, At, There, Numbers, Both, Either, Met, Unmet, bind_lawful, here_lawful, said, known, same_fault, not_both, fitting_is, none_is_no}
use Rattle.c_exprs.proofs.Tokens.{a_name_is}
use Rattle.c_parser.specs.StatementWords.{name_ahead, type_ahead, label_ahead, when_label}

-- the first token

pub head_after : (xs ys zs : List Lexeme) → head ys ≡ head zs → head (xs ++ ys) ≡ head (xs ++ zs)
head_after [] ys zs e = e
head_after (x ∷ xs) ys zs e = refl

label_same : (front more others : List Lexeme) → 0 < length front → head more ≡ head others → label_ahead (front ++ more) ≡ label_ahead (front ++ others)
label_same [] more others some e = absurd (omega arith)
label_same (u ∷ us) more others some e = ap (λ o. is_some_of (a_name u) && next_is (is_sign Colon) o) (head_after us more others e)

some_name : (u : Lexeme) (o : Option NameId) → a_name u ≡ o → is_some_of o ≡ true → (n : NameId) × (u ≡ named n)
some_name u None e s = absurd (true≢false (sym s))
some_name u (Some n) e s = (n, a_name_is u n e)

-- an identifier stands next
pub name_is : (o : Option Lexeme) → name_ahead o ≡ true → (n : NameId) × (o ≡ Some (named n))
name_is None e = absurd (true≢false (sym e))
name_is (Some u) e = let r = some_name u (a_name u) refl e in (r.0, ap (λ v. Some v) r.1)

some_type : (ds : List Scope) (u : Lexeme) (o : Option NameId) → fitting (is_type ds) (a_name u) ≡ o → is_some_of o ≡ true → (n : NameId) × (u ≡ named n) × (is_type ds n ≡ true)
some_type ds u None e s = absurd (true≢false (sym s))
some_type ds u (Some n) e s = let f = fitting_is (is_type ds) (a_name u) n e in (n, a_name_is u n f.0, f.1)

-- a typedef name in scope stands next
pub type_is : (ds : List Scope) (o : Option Lexeme) → type_ahead ds o ≡ true → (n : NameId) × (o ≡ Some (named n)) × (is_type ds n ≡ true)
type_is ds None e = absurd (true≢false (sym e))
type_is ds (Some u) e = let r = some_type ds u (fitting (is_type ds) (a_name u)) refl e in (r.0, ap (λ v. Some v) r.1, r.2)

-- a reading that can begin with the next token takes it before it fails

front_some : {A : Type 0} {P : ℕ → Option Lexeme → Type 0} {read : Reader A} {H : A → ℕ → List Lexeme → Type 0} {S : A → Option Lexeme → Type 0} → Lawful P read H S → (n : ℕ) (ts : List Lexeme) (i : Input) (u : Lexeme) → head ts ≡ Some u → (w : A) (t : List Lexeme) → H w n (u ∷ t) → S w None →
    (front : List Lexeme) → ts ≡ front ++ i.rest → ((more : List Lexeme) → head more ≡ head i.rest → read (input n (front ++ more)) ≡ Err (input i.at more)) → 0 < length front
front_some law n ts i u first w t holds ends (x ∷ xs) parts same = omega arith
front_some {read = read} law n ts i u first w t holds ends [] parts same =
    let there : head (u ∷ t) ≡ head i.rest = sym first ∙ ap head parts in
    absurd (not_both (sym (law.again w n (u ∷ t) [] holds ends) ∙ (ap (λ us. read (input n us)) (append-nil (u ∷ t)) ∙ same (u ∷ t) there)))

pub moves : {A : Type 0} {P : ℕ → Option Lexeme → Type 0} {read : Reader A} {H : A → ℕ → List Lexeme → Type 0} {S : A → Option Lexeme → Type 0} → Lawful P read H S → (n : ℕ) (ts : List Lexeme) (i : Input) (u : Lexeme) → head ts ≡ Some u → (w : A) (t : List Lexeme) → H w n (u ∷ t) → S w None →
    (f : Faults read n ts i) → 0 < length f.front
moves law n ts i u first w t holds ends f = front_some law n ts i u first w t holds ends f.front f.parts f.same

rest_kept : {A : Type 0} {i j : Input} → ◌≡◌ {A = Result (A × Input) Input} (Err i) (Err j) → i.rest ≡ j.rest
rest_kept e = ap (λ k. k.rest) (same_fault e)

-- and so does one that takes the next token alone and fails behind it
pub front_of_fault : {A : Type 0} {read : Reader A} (n : ℕ) (ts : List Lexeme) (i : Input) (u : Lexeme) → head ts ≡ Some u → (f : Faults read n ts i) → read (input n (u ∷ [])) ≡ Err (input (n + 1) []) → 0 < length f.front
front_of_fault {A = A} {read = read} n ts i u first f alone = by f.front f.parts f.same
  where
    by : (front : List Lexeme) → ts ≡ front ++ i.rest → ((more : List Lexeme) → head more ≡ head i.rest → read (input n (front ++ more)) ≡ Err (input i.at more)) → 0 < length front
    by (x ∷ xs) parts same = omega arith
    by [] parts same =
        let e : [] ≡ u ∷ [] = rest_kept {A = A} (sym alone ∙ same (u ∷ []) (sym first ∙ ap head parts)) in
        absurd (none_is_no (ap head e))

-- by the two tokens of a label, where the next one is taken before anything fails

module _ {A : Type 0} {P : ℕ → Option Lexeme → Type 0} {met unmet : Reader A} {H K : A → ℕ → List Lexeme → Type 0} {S : A → Option Lexeme → Type 0}
    (met_is : Lawful P met H S) (unmet_is : Lawful P unmet K S)
    (met_begins : (a : A) (n : ℕ) (t rest : List Lexeme) → H a n t → S a (head rest) → label_ahead (t ++ rest) ≡ true)
    (unmet_begins : (a : A) (n : ℕ) (t rest : List Lexeme) → K a n t → S a (head rest) → label_ahead (t ++ rest) ≡ false)
    (met_moves : (n : ℕ) (ts : List Lexeme) (i : Input) → P n (head ts) → (f : Faults met n ts i) → 0 < length f.front)
    (unmet_moves : (n : ℕ) (ts : List Lexeme) (i : Input) → P n (head ts) → (f : Faults unmet n ts i) → 0 < length f.front) where
  label_again : (a : A) (n : ℕ) (t rest : List Lexeme) → Either H K a n t → S a (head rest) → when_label met unmet (input n (t ++ rest)) ≡ Ok (a, input (n + length t) rest)
  label_again a n t rest (Met h) s = rw (met_begins a n t rest h s) (met_is.again a n t rest h s)
  label_again a n t rest (Unmet h) s = rw (unmet_begins a n t rest h s) (unmet_is.again a n t rest h s)

  label_takes : (n : ℕ) (ts : List Lexeme) (a : A) (i : Input) → P n (head ts) → (b : Bool) → label_ahead ts ≡ b → pick b met unmet (input n ts) ≡ Ok (a, i) → Taken (Either H K) S n ts a i
  label_takes n ts a i p true t e = let r = met_is.takes n ts a i p e in record { text = r.text; holds = Met r.holds; parts = r.parts; number = r.number; stops = r.stops }
  label_takes n ts a i p false t e = let r = unmet_is.takes n ts a i p e in record { text = r.text; holds = Unmet r.holds; parts = r.parts; number = r.number; stops = r.stops }

  label_local : (n : ℕ) (ts : List Lexeme) (i : Input) → P n (head ts) → (b : Bool) → label_ahead ts ≡ b → pick b met unmet (input n ts) ≡ Err i → Faults (when_label met unmet) n ts i
  label_local n ts i p true t e =
      let r = met_is.local n ts i p e in
      record {
        front = r.front;
        parts = r.parts;
        number = r.number;
        same = λ more w.
            let first : label_ahead (r.front ++ more) ≡ label_ahead ts = label_same r.front more i.rest (met_moves n ts i p r) w ∙ ap label_ahead (sym r.parts) in
            rw (first, t) (r.same more w);
      }
  label_local n ts i p false t e =
      let r = unmet_is.local n ts i p e in
      record {
        front = r.front;
        parts = r.parts;
        number = r.number;
        same = λ more w.
            let first : label_ahead (r.front ++ more) ≡ label_ahead ts = label_same r.front more i.rest (unmet_moves n ts i p r) w ∙ ap label_ahead (sym r.parts) in
            rw (first, t) (r.same more w);
      }

  pub label_lawful : Lawful P (when_label met unmet) (Either H K) S
  label_lawful = record {
    again = label_again;
    takes = λ n ts a i p e. label_takes n ts a i p (label_ahead ts) refl e;
    local = λ n ts i p e. label_local n ts i p (label_ahead ts) refl e;
  }

-- a node that has the number of its first token

numbered_to : {A : Type 0} (H : A → ℕ → List Lexeme → Type 0) (a : A) (n : ℕ) (t : List Lexeme) → H a n t → Both Numbers (λ at. There at H) a n t
numbered_to H a n t h = record { value = n; front = []; back = t; first = record { value = refl; nothing = refl }; second = record { number = omega arith; holds = subst (λ m. H a m t) (omega arith) h }; parts = refl }

numbered_from : {A : Type 0} (H : A → ℕ → List Lexeme → Type 0) (a : A) (n : ℕ) (t : List Lexeme) → Both Numbers (λ at. There at H) a n t → H a n t
numbered_from H a n t b =
    let start : n + length b.front ≡ n = b.second.number ∙ b.first.value in
    let text : t ≡ b.back = b.parts ∙ ap (λ f. f ++ b.back) b.first.nothing in
    subst (H a n) (sym text) (subst (λ m. H a m b.back) start b.second.holds)

pub numbered_lawful : {A : Type 0} {P : ℕ → Option Lexeme → Type 0} {read : ℕ → Reader A} {H : A → ℕ → List Lexeme → Type 0} {S : A → Option Lexeme → Type 0} → ((at : ℕ) → Lawful (At at) (read at) (There at H) S) → Lawful P (bind here (λ at. read at)) H S
numbered_lawful {H = H} law = said
    (bind_lawful here_lawful (λ at n t i. known (λ m o p. p.0 ∙ (ap (λ u. n + length u) i.nothing ∙ (zero_more n ∙ sym i.value))) (law at)) (λ at n t b u rest i k s. tt))
    (numbered_to H) (numbered_from H)
  where
    zero_more : (n : ℕ) → n + 0 ≡ n
    zero_more n = omega arith
