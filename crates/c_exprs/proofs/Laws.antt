-- Device: the law of readers, and that each way of putting readers together keeps it.
use Rattle.std.proofs.Common.{◌≡◌, refl, sym, ap, ◌∙◌, subst, ℕ, zero, suc, ◌+◌, ◌<◌, ◌≤◌, length, Bool, true, false, List, [], ◌∷◌, ◌++◌, Option, Some, None, Result, Ok, Err, append_assoc, append-nil, arith, length-append, true≢false}
use Rattle.c_tree.specs.Spelling.{Lexeme}
use Rattle.cil_base.specs.declared.tokens.TokenKind.{TokenKind}
use Rattle.c_cursor.specs.Classes.{of_kind, plain, if_so, fitting, take}
use Rattle.c_cursor.specs.Readers.{Input, input, Reader, head, pure, fail, here, token_taken, one, and_then, bind, pick, when, guard, chain, many}

-- what a reader took: tokens that the value has, and what follows may stand there
pub record Taken {A : Type 0} (H : A → ℕ → List Lexeme → Type 0) (S : A → Option Lexeme → Type 0) (n : ℕ) (ts : List Lexeme) (a : A) (i : Input) : Type 0 where
  pub text : List Lexeme
  pub holds : H a n text
  pub parts : ts ≡ text ++ i.rest
  pub number : i.at ≡ n + length text
  pub stops : S a (head i.rest)

-- a reader's fault: it took the tokens in front of it, and would fail there whatever followed the token at the fault
pub record Faults {A : Type 0} (read : Reader A) (n : ℕ) (ts : List Lexeme) (i : Input) : Type 0 where
  pub front : List Lexeme
  pub parts : ts ≡ front ++ i.rest
  pub number : i.at ≡ n + length front
  pub same : (more : List Lexeme) → head more ≡ head i.rest → read (input n (front ++ more)) ≡ Err (input i.at more)

-- H: what tokens a value has, from a number on; S: what may stand behind it; P: what is known of the first token
pub record Lawful {A : Type 0} (P : ℕ → Option Lexeme → Type 0) (read : Reader A) (H : A → ℕ → List Lexeme → Type 0) (S : A → Option Lexeme → Type 0) : Type 0 where
  pub again : (a : A) (n : ℕ) (text rest : List Lexeme) → H a n text → S a (head rest) → read (input n (text ++ rest)) ≡ Ok (a, input (n + length text) rest)
  pub takes : (n : ℕ) (ts : List Lexeme) (a : A) (i : Input) → P n (head ts) → read (input n ts) ≡ Ok (a, i) → Taken H S n ts a i
  pub local : (n : ℕ) (ts : List Lexeme) (i : Input) → P n (head ts) → read (input n ts) ≡ Err i → Faults read n ts i

abbrev pub Any : ℕ → Option Lexeme → Type 0
Any n o = Unit {0}

abbrev pub Anywhere : {A : Type 0} → A → Option Lexeme → Type 0
Anywhere a o = Unit {0}

-- results are one of the two, and tell their values

abbrev value_of : {A : Type 0} → A × Input → Result (A × Input) Input → A × Input
value_of d (Ok x) = x
value_of d (Err i) = d

abbrev fault_of : {A : Type 0} → Input → Result (A × Input) Input → Input
fault_of d (Ok x) = d
fault_of d (Err i) = i

abbrev IsGiven : {A : Type 0} → Result (A × Input) Input → Type 0
IsGiven (Ok x) = Unit {0}
IsGiven (Err i) = ⊥

pub same_value : {A : Type 0} {x y : A × Input} → ◌≡◌ {A = Result (A × Input) Input} (Ok x) (Ok y) → x ≡ y
same_value {x = x} e = ap (value_of x) e

pub same_fault : {A : Type 0} {i j : Input} → ◌≡◌ {A = Result (A × Input) Input} (Err i) (Err j) → i ≡ j
same_fault {i = i} e = ap (fault_of i) e

pub not_both : {A : Type 0} {x : A × Input} {i : Input} → ◌≡◌ {A = Result (A × Input) Input} (Ok x) (Err i) → ⊥
not_both e = subst IsGiven e tt

pub nor_both : {A : Type 0} {x : A × Input} {i : Input} → ◌≡◌ {A = Result (A × Input) Input} (Err i) (Ok x) → ⊥
nor_both e = subst IsGiven (sym e) tt

-- the parts of what was read
pub taken_of : {A : Type 0} {H : A → ℕ → List Lexeme → Type 0} {S : A → Option Lexeme → Type 0} {n : ℕ} {ts : List Lexeme} {a b : A} {i j : Input} → ◌≡◌ {A = A × Input} (a, i) (b, j) → Taken H S n ts a i → Taken H S n ts b j
taken_of {H = H} {S = S} {n = n} {ts = ts} e t = subst (λ x. Taken H S n ts x.0 x.1) e t

pub add_none : (n : ℕ) → n + 0 ≡ n
add_none n = omega arith

at_end : {A : Type 0} {a : A} {n : ℕ} {ts : List Lexeme} → ◌≡◌ {A = Result (A × Input) Input} (Ok (a, input n ts)) (Ok (a, input (n + 0) ts))
at_end {a = a} {n = n} {ts = ts} = ap (λ m. Ok (a, input m ts)) (sym (add_none n))

-- no token

pub record Gives {A : Type 0} (a b : A) (n : ℕ) (text : List Lexeme) : Type 0 where
  pub value : b ≡ a
  pub nothing : text ≡ []

pub pure_lawful : {A : Type 0} {P : ℕ → Option Lexeme → Type 0} {S : A → Option Lexeme → Type 0} (a : A) → ((n : ℕ) (o : Option Lexeme) → P n o → S a o) → Lawful P (pure a) (Gives a) S
pure_lawful a by = record {
  again = λ b n text rest h s. rw (h.value, h.nothing) at_end;
  takes = λ n ts b i p e. taken_of (same_value e) (record { text = []; holds = record { value = refl; nothing = refl }; parts = refl; number = sym (add_none n); stops = by n (head ts) p });
  local = λ n ts i p e. absurd (not_both e);
}

pub fail_lawful : {A : Type 0} {P : ℕ → Option Lexeme → Type 0} {S : A → Option Lexeme → Type 0} → Lawful P fail (λ a n text. ⊥) S
fail_lawful = record {
  again = λ b n text rest h s. absurd h;
  takes = λ n ts b i p e. absurd (nor_both e);
  local = λ n ts i p e. subst (Faults fail n ts) (same_fault e) (record { front = []; parts = refl; number = sym (add_none n); same = λ more w. refl });
}

-- the number of the next token

pub record Numbers (a n : ℕ) (text : List Lexeme) : Type 0 where
  pub value : a ≡ n
  pub nothing : text ≡ []

pub here_lawful : {P : ℕ → Option Lexeme → Type 0} → Lawful P here Numbers Anywhere
here_lawful = record {
  again = λ a n text rest h s. rw (h.value, h.nothing) at_end;
  takes = λ n ts a i p e. taken_of (same_value e) (record { text = []; holds = record { value = refl; nothing = refl }; parts = refl; number = sym (add_none n); stops = tt });
  local = λ n ts i p e. absurd (not_both e);
}

-- a token of a class

pub record Token {A : Type 0} (p : Lexeme → Option A) (a : A) (n : ℕ) (text : List Lexeme) : Type 0 where
  pub token : Lexeme
  pub is : p token ≡ Some a
  pub alone : text ≡ token ∷ []

token_again : {A : Type 0} (p : Lexeme → Option A) (a : A) (n : ℕ) (u : Lexeme) (rest : List Lexeme) → p u ≡ Some a → one p (input n (u ∷ rest)) ≡ Ok (a, input (n + 1) rest)
token_again p a n u rest e = rw e refl

token_takes : {A : Type 0} (p : Lexeme → Option A) (n : ℕ) (u : Lexeme) (us : List Lexeme) (o : Option A) → p u ≡ o → (a : A) (i : Input) → token_taken o n u us ≡ Ok (a, i) → Taken (Token p) Anywhere n (u ∷ us) a i
token_takes p n u us (Some b) is a i e = taken_of (same_value e) (record { text = u ∷ []; holds = record { token = u; is = is; alone = refl }; parts = refl; number = refl; stops = tt })
token_takes p n u us None is a i e = absurd (nor_both e)

some_token_takes : {A : Type 0} (p : Lexeme → Option A) (n : ℕ) (ts : List Lexeme) (a : A) (i : Input) → one p (input n ts) ≡ Ok (a, i) → Taken (Token p) Anywhere n ts a i
some_token_takes p n [] a i e = absurd (nor_both e)
some_token_takes p n (u ∷ us) a i e = token_takes p n u us (p u) refl a i e

token_same : {A : Type 0} (p : Lexeme → Option A) (n : ℕ) (u : Lexeme) (us more : List Lexeme) → head more ≡ Some u → p u ≡ None → one p (input n more) ≡ Err (input n more)
token_same p n u us [] h e = refl
token_same p n u us (v ∷ vs) h e = let same : v ≡ u = cc in rw (same, e) refl

token_fails : {A : Type 0} (p : Lexeme → Option A) (n : ℕ) (u : Lexeme) (us : List Lexeme) (o : Option A) → p u ≡ o → (i : Input) → token_taken o n u us ≡ Err i → Faults (one p) n (u ∷ us) i
token_fails p n u us (Some b) is i e = absurd (not_both e)
token_fails p n u us None is i e = subst (Faults (one p) n (u ∷ us)) (same_fault e) (record { front = []; parts = refl; number = sym (add_none n); same = λ more w. token_same p n u us more w is })

none_same : {A : Type 0} (p : Lexeme → Option A) (n : ℕ) (more : List Lexeme) → head more ≡ None → one p (input n more) ≡ Err (input n more)
none_same p n [] h = refl
none_same p n (v ∷ vs) h = absurd cc

some_token_fails : {A : Type 0} (p : Lexeme → Option A) (n : ℕ) (ts : List Lexeme) (i : Input) → one p (input n ts) ≡ Err i → Faults (one p) n ts i
some_token_fails p n [] i e = subst (Faults (one p) n []) (same_fault e) (record { front = []; parts = refl; number = sym (add_none n); same = λ more w. none_same p n more w })
some_token_fails p n (u ∷ us) i e = token_fails p n u us (p u) refl i e

pub one_lawful : {A : Type 0} {P : ℕ → Option Lexeme → Type 0} (p : Lexeme → Option A) → Lawful P (one p) (Token p) Anywhere
one_lawful p = record {
  again = λ a n text rest h s. rw h.alone (token_again p a n h.token rest h.is);
  takes = λ n ts a i known e. some_token_takes p n ts a i e;
  local = λ n ts i known e. some_token_fails p n ts i e;
}

-- one behind the other; of what is read next, its number is known, and what stands there
abbrev pub Next : ℕ → (Option Lexeme → Type 0) → ℕ → Option Lexeme → Type 0
Next m G n o = (n ≡ m) × G o

pub record Both {A B : Type 0} (H : A → ℕ → List Lexeme → Type 0) (K : A → B → ℕ → List Lexeme → Type 0) (b : B) (n : ℕ) (text : List Lexeme) : Type 0 where
  pub value : A
  pub front : List Lexeme
  pub back : List Lexeme
  pub first : H value n front
  pub second : K value b (n + length front) back
  pub parts : text ≡ front ++ back

joined : (ts a ys b rest : List Lexeme) → ts ≡ a ++ ys → ys ≡ b ++ rest → ts ≡ (a ++ b) ++ rest
joined ts a ys b rest e f = e ∙ (ap (λ r. a ++ r) f ∙ sym (append_assoc a b rest))

head_append : (xs ys zs : List Lexeme) → head ys ≡ head zs → head (xs ++ ys) ≡ head (xs ++ zs)
head_append [] ys zs e = e
head_append (x ∷ xs) ys zs e = refl

module _ {A B : Type 0} {P : ℕ → Option Lexeme → Type 0} {first : Reader A} {second : A → Reader B} {H : A → ℕ → List Lexeme → Type 0} {G : A → Option Lexeme → Type 0} {K : A → B → ℕ → List Lexeme → Type 0} {S : B → Option Lexeme → Type 0}
    (one_is : Lawful P first H G)
    (next_is : (a : A) (n : ℕ) (t : List Lexeme) → H a n t → Lawful (Next (n + length t) (G a)) (second a) (K a) S)
    (joins : (a : A) (n : ℕ) (t : List Lexeme) (b : B) (u rest : List Lexeme) → H a n t → K a b (n + length t) u → S b (head rest) → G a (head (u ++ rest))) where
  bind_again : (b : B) (n : ℕ) (text rest : List Lexeme) → Both H K b n text → S b (head rest) → bind first second (input n (text ++ rest)) ≡ Ok (b, input (n + length text) rest)
  bind_again b n text rest h s =
      let one_again : first (input n (h.front ++ (h.back ++ rest))) ≡ Ok (h.value, input (n + length h.front) (h.back ++ rest)) = one_is.again h.value n h.front (h.back ++ rest) h.first (joins h.value n h.front b h.back rest h.first h.second s) in
      let next_again : second h.value (input (n + length h.front) (h.back ++ rest)) ≡ Ok (b, input (n + length h.front + length h.back) rest) = (next_is h.value n h.front h.first).again b (n + length h.front) h.back rest h.second s in
      let long : n + length h.front + length h.back ≡ n + length (h.front ++ h.back) = omega (arith, length-append h.front h.back) in
      rw (h.parts, append_assoc, one_again, next_again, long) refl

  bind_takes : (n : ℕ) (ts : List Lexeme) (b : B) (i : Input) → P n (head ts) → (r : Result (A × Input) Input) → first (input n ts) ≡ r → and_then second r ≡ Ok (b, i) → Taken (Both H K) S n ts b i
  bind_takes n ts b i p (Ok x) f e =
      let t = one_is.takes n ts x.0 x.1 p f in
      let u = (next_is x.0 n t.text t.holds).takes x.1.at x.1.rest b i (t.number, t.stops) e in
      record {
        text = t.text ++ u.text;
        holds = record { value = x.0; front = t.text; back = u.text; first = t.holds; second = rw (← t.number) u.holds; parts = refl };
        parts = joined ts t.text x.1.rest u.text i.rest t.parts u.parts;
        number = omega (arith, t.number, u.number, length-append t.text u.text);
        stops = u.stops;
      }
  bind_takes n ts b i p (Err j) f e = absurd (nor_both e)

  bind_local : (n : ℕ) (ts : List Lexeme) (i : Input) → P n (head ts) → (r : Result (A × Input) Input) → first (input n ts) ≡ r → and_then second r ≡ Err i → Faults (bind first second) n ts i
  bind_local n ts i p (Ok x) f e =
      let t = one_is.takes n ts x.0 x.1 p f in
      let u = (next_is x.0 n t.text t.holds).local x.1.at x.1.rest i (t.number, t.stops) e in
      record {
        front = t.text ++ u.front;
        parts = joined ts t.text x.1.rest u.front i.rest t.parts u.parts;
        number = omega (arith, t.number, u.number, length-append t.text u.front);
        same = λ more w.
            let before : head (u.front ++ more) ≡ head x.1.rest = head_append u.front more i.rest w ∙ ap head (sym u.parts) in
            let front_again : first (input n (t.text ++ (u.front ++ more))) ≡ Ok (x.0, input (n + length t.text) (u.front ++ more)) = one_is.again x.0 n t.text (u.front ++ more) t.holds (subst (G x.0) (sym before) t.stops) in
            let back_again : second x.0 (input x.1.at (u.front ++ more)) ≡ Err (input i.at more) = u.same more w in
            rw (append_assoc, front_again, ← t.number, back_again) refl;
      }
  bind_local n ts i p (Err j) f e =
      let t = one_is.local n ts j p f in
      subst (Faults (bind first second) n ts) (same_fault e) (record { front = t.front; parts = t.parts; number = t.number; same = λ more w. rw (t.same more w) refl })

  pub bind_lawful : Lawful P (bind first second) (Both H K) S
  bind_lawful = record {
    again = bind_again;
    takes = λ n ts b i p e. bind_takes n ts b i p (first (input n ts)) refl e;
    local = λ n ts i p e. bind_local n ts i p (first (input n ts)) refl e;
  }

-- the same reader, otherwise said

pub said : {A : Type 0} {P : ℕ → Option Lexeme → Type 0} {read : Reader A} {H K : A → ℕ → List Lexeme → Type 0} {S : A → Option Lexeme → Type 0} → Lawful P read H S →
    ((a : A) (n : ℕ) (t : List Lexeme) → K a n t → H a n t) → ((a : A) (n : ℕ) (t : List Lexeme) → H a n t → K a n t) → Lawful P read K S
said law to from = record {
  again = λ a n t rest h s. law.again a n t rest (to a n t h) s;
  takes = λ n ts a i p e. let t = law.takes n ts a i p e in record { text = t.text; holds = from a n t.text t.holds; parts = t.parts; number = t.number; stops = t.stops };
  local = law.local;
}

-- less is known of the first token
pub known : {A : Type 0} {P Q : ℕ → Option Lexeme → Type 0} {read : Reader A} {H : A → ℕ → List Lexeme → Type 0} {S : A → Option Lexeme → Type 0} → ((n : ℕ) (o : Option Lexeme) → Q n o → P n o) → Lawful P read H S → Lawful Q read H S
known by law = record {
  again = law.again;
  takes = λ n ts a i p e. law.takes n ts a i (by n (head ts) p) e;
  local = λ n ts i p e. law.local n ts i (by n (head ts) p) e;
}

-- what may stand behind, otherwise said
pub ended : {A : Type 0} {P : ℕ → Option Lexeme → Type 0} {read : Reader A} {H : A → ℕ → List Lexeme → Type 0} {S R : A → Option Lexeme → Type 0} → ((a : A) (n : ℕ) (t : List Lexeme) (o : Option Lexeme) → H a n t → R a o → S a o) → ((a : A) (n : ℕ) (t : List Lexeme) (o : Option Lexeme) → H a n t → S a o → R a o) → Lawful P read H S → Lawful P read H R
ended to from law = record {
  again = λ a n t rest h s. law.again a n t rest h (to a n t (head rest) h s);
  takes = λ n ts a i p e. let t = law.takes n ts a i p e in record { text = t.text; holds = t.holds; parts = t.parts; number = t.number; stops = from a n t.text (head i.rest) t.holds t.stops };
  local = law.local;
}

-- the same reader in other words
pub same_reader : {A : Type 0} {P : ℕ → Option Lexeme → Type 0} {read other : Reader A} {H : A → ℕ → List Lexeme → Type 0} {S : A → Option Lexeme → Type 0} → read ≡ other → Lawful P read H S → Lawful P other H S
same_reader {P = P} {H = H} {S = S} e law = subst (λ r. Lawful P r H S) e law

-- a condition

pub record Under {A : Type 0} (condition : Bool) (H : A → ℕ → List Lexeme → Type 0) (a : A) (n : ℕ) (text : List Lexeme) : Type 0 where
  pub met : condition ≡ true
  pub holds : H a n text

no_condition : {A : Type 0} {P : ℕ → Option Lexeme → Type 0} {H : A → ℕ → List Lexeme → Type 0} {S : A → Option Lexeme → Type 0} → Lawful P fail (Under false H) S
no_condition = record {
  again = λ a n t rest h s. absurd (true≢false (sym h.met));
  takes = λ n ts b i p e. absurd (nor_both e);
  local = λ n ts i p e. subst (Faults fail n ts) (same_fault e) (record { front = []; parts = refl; number = sym (add_none n); same = λ more w. refl });
}

pub guard_lawful : {A : Type 0} {P : ℕ → Option Lexeme → Type 0} {read : Reader A} {H : A → ℕ → List Lexeme → Type 0} {S : A → Option Lexeme → Type 0} (condition : Bool) → Lawful P read H S → Lawful P (guard condition read) (Under condition H) S
guard_lawful true law = said law (λ a n t h. h.holds) (λ a n t h. record { met = refl; holds = h })
guard_lawful false law = no_condition

-- the same where the law is known only under the condition
pub guard_known : {A : Type 0} {P : ℕ → Option Lexeme → Type 0} {read : Reader A} {H : A → ℕ → List Lexeme → Type 0} {S : A → Option Lexeme → Type 0} (condition : Bool) → (condition ≡ true → Lawful P read H S) → Lawful P (guard condition read) (Under condition H) S
guard_known true law = said (law refl) (λ a n t h. h.holds) (λ a n t h. record { met = refl; holds = h })
guard_known false law = no_condition

-- by the next token

pub data Either {A : Type 0} (H K : A → ℕ → List Lexeme → Type 0) (a : A) (n : ℕ) (text : List Lexeme) : Type 0 where
  Met : H a n text → Either H K a n text
  Unmet : K a n text → Either H K a n text

abbrev pub And : (ℕ → Option Lexeme → Type 0) → (Option Lexeme → Bool) → Bool → ℕ → Option Lexeme → Type 0
And P test b n o = P n o × (test o ≡ b)

pub either_right : {A : Type 0} {K : A → ℕ → List Lexeme → Type 0} {a : A} {n : ℕ} {t : List Lexeme} → Either (λ b m u. ⊥) K a n t → K a n t
either_right (Met h) = absurd h
either_right (Unmet h) = h

module _ (test : Option Lexeme → Bool) {A : Type 0} {P : ℕ → Option Lexeme → Type 0} {met unmet : Reader A} {H K : A → ℕ → List Lexeme → Type 0} {S : A → Option Lexeme → Type 0}
    (met_is : Lawful (And P test true) met H S) (unmet_is : Lawful (And P test false) unmet K S)
    (met_begins : (a : A) (n : ℕ) (t rest : List Lexeme) → H a n t → S a (head rest) → test (head (t ++ rest)) ≡ true)
    (unmet_begins : (a : A) (n : ℕ) (t rest : List Lexeme) → K a n t → S a (head rest) → test (head (t ++ rest)) ≡ false) where
  when_again : (a : A) (n : ℕ) (t rest : List Lexeme) → Either H K a n t → S a (head rest) → when test met unmet (input n (t ++ rest)) ≡ Ok (a, input (n + length t) rest)
  when_again a n t rest (Met h) s = rw (met_begins a n t rest h s) (met_is.again a n t rest h s)
  when_again a n t rest (Unmet h) s = rw (unmet_begins a n t rest h s) (unmet_is.again a n t rest h s)

  when_takes : (n : ℕ) (ts : List Lexeme) (a : A) (i : Input) → P n (head ts) → (b : Bool) → test (head ts) ≡ b → pick b met unmet (input n ts) ≡ Ok (a, i) → Taken (Either H K) S n ts a i
  when_takes n ts a i p true t e = let r = met_is.takes n ts a i (p, t) e in record { text = r.text; holds = Met r.holds; parts = r.parts; number = r.number; stops = r.stops }
  when_takes n ts a i p false t e = let r = unmet_is.takes n ts a i (p, t) e in record { text = r.text; holds = Unmet r.holds; parts = r.parts; number = r.number; stops = r.stops }

  when_local : (n : ℕ) (ts : List Lexeme) (i : Input) → P n (head ts) → (b : Bool) → test (head ts) ≡ b → pick b met unmet (input n ts) ≡ Err i → Faults (when test met unmet) n ts i
  when_local n ts i p true t e =
      let r = met_is.local n ts i (p, t) e in
      record {
        front = r.front;
        parts = r.parts;
        number = r.number;
        same = λ more w.
            let first : head (r.front ++ more) ≡ head ts = head_append r.front more i.rest w ∙ ap head (sym r.parts) in
            rw (first, t) (r.same more w);
      }
  when_local n ts i p false t e =
      let r = unmet_is.local n ts i (p, t) e in
      record {
        front = r.front;
        parts = r.parts;
        number = r.number;
        same = λ more w.
            let first : head (r.front ++ more) ≡ head ts = head_append r.front more i.rest w ∙ ap head (sym r.parts) in
            rw (first, t) (r.same more w);
      }

  pub when_lawful : Lawful P (when test met unmet) (Either H K) S
  when_lawful = record {
    again = when_again;
    takes = λ n ts a i p e. when_takes n ts a i p (test (head ts)) refl e;
    local = λ n ts i p e. when_local n ts i p (test (head ts)) refl e;
  }

-- steps from a value as long as the next token says so

pub data Steps {A : Type 0} (K : A → A → ℕ → List Lexeme → Type 0) (z : A) : A → ℕ → List Lexeme → Type 0 where
  Ends : {x : A} {n : ℕ} {text : List Lexeme} → x ≡ z → text ≡ [] → Steps K z x n text
  More : {x : A} {n : ℕ} {text : List Lexeme} (y : A) (front back : List Lexeme) → K x y n front → Steps K z y (n + length front) back → text ≡ front ++ back → Steps K z x n text

none_ahead : {A : Type 0} (b : A) (f : Option Lexeme → Bool) (ts : List Lexeme) → f None ≡ false → f (head ts) ≡ true → 0 < length ts
none_ahead b f [] none goes = absurd (true≢false (sym goes ∙ none))
none_ahead b f (u ∷ us) none goes = omega arith

module _ {A : Type 0} {goes : A → Option Lexeme → Bool} {step : A → Reader A} {K : A → A → ℕ → List Lexeme → Type 0} {G : A → Option Lexeme → Type 0}
    (step_is : (x : A) → Lawful (And (λ n. G x) (goes x) true) (step x) (K x) G)
    (starts : (x y : A) (n : ℕ) (t more : List Lexeme) → K x y n t → goes x (head (t ++ more)) ≡ true)
    (fits : (y z : A) (m : ℕ) (u more : List Lexeme) → K y z m u → G y (head (u ++ more)))
    (some : (x y : A) (n : ℕ) (t : List Lexeme) → K x y n t → 0 < length t)
    (ends : (x : A) → goes x None ≡ false) where
  abbrev Stops : A → Option Lexeme → Type 0
  Stops z o = G z o × (goes z o ≡ false)

  next_fits : (y z : A) (m : ℕ) (u rest : List Lexeme) → Steps K z y m u → G z (head rest) → G y (head (u ++ rest))
  next_fits y z m u rest (Ends e none) g = rw (e, none) g
  next_fits y z m u rest (More w front back l steps parts) g = rw (parts, append_assoc) (fits y w m front (back ++ rest) l)

  chain_ends : (fuel : ℕ) (z : A) (n : ℕ) (rest : List Lexeme) → goes z (head rest) ≡ false → chain goes step fuel z (input n rest) ≡ Ok (z, input (n + 0) rest)
  chain_ends zero z n rest e = at_end
  chain_ends (suc fuel) z n rest e = rw e at_end

  chain_again : (z : A) (fuel : ℕ) (x : A) (n : ℕ) (text rest : List Lexeme) → Steps K z x n text → length (text ++ rest) ≤ fuel → Stops z (head rest) →
      chain goes step fuel x (input n (text ++ rest)) ≡ Ok (z, input (n + length text) rest)
  chain_again z fuel x n text rest (Ends e none) long s = rw (e, none) (chain_ends fuel z n rest s.1)
  chain_again z zero x n text rest (More y front back k steps parts) long s =
      absurd (omega (arith, some x y n front k, length-append front back, length-append text rest, ap length parts))
  chain_again z (suc fuel) x n text rest (More y front back k steps parts) long s =
      let short : length (back ++ rest) ≤ fuel = omega (arith, some x y n front k, length-append front back, length-append text rest, length-append back rest, ap length parts) in
      let one_step : step x (input n (front ++ (back ++ rest))) ≡ Ok (y, input (n + length front) (back ++ rest)) = (step_is x).again y n front (back ++ rest) k (next_fits y z (n + length front) back rest steps s.0) in
      let others : chain goes step fuel y (input (n + length front) (back ++ rest)) ≡ Ok (z, input (n + length front + length back) rest) = chain_again z fuel y (n + length front) back rest steps short s in
      let long_text : n + length front + length back ≡ n + length (front ++ back) = omega (arith, length-append front back) in
      rw (parts, append_assoc, starts x y n front (back ++ rest) k, one_step, others, long_text) refl

  abbrev Takes : ℕ → Type 0
  Takes fuel = (x : A) (n : ℕ) (ts : List Lexeme) (z : A) (i : Input) → length ts ≤ fuel → G x (head ts) → chain goes step fuel x (input n ts) ≡ Ok (z, i) → Taken (λ w. Steps K w x) Stops n ts z i

  ended_there : (x : A) (n : ℕ) (ts : List Lexeme) (z : A) (i : Input) → G x (head ts) → goes x (head ts) ≡ false → ◌≡◌ {A = Result (A × Input) Input} (Ok (x, input n ts)) (Ok (z, i)) → Taken (λ w. Steps K w x) Stops n ts z i
  ended_there x n ts z i g b e = taken_of (same_value e) (record { text = []; holds = Ends refl refl; parts = refl; number = sym (add_none n); stops = (g, b) })

  then_takes : (fuel : ℕ) → Takes fuel → (x : A) (n : ℕ) (ts : List Lexeme) (z : A) (i : Input) → length ts ≤ suc fuel → G x (head ts) → goes x (head ts) ≡ true →
      (r : Result (A × Input) Input) → step x (input n ts) ≡ r → and_then (λ y. chain goes step fuel y) r ≡ Ok (z, i) → Taken (λ w. Steps K w x) Stops n ts z i
  then_takes fuel ih x n ts z i long g b (Err j) f e = absurd (nor_both e)
  then_takes fuel ih x n ts z i long g b (Ok y) f e =
      let t = (step_is x).takes n ts y.0 y.1 (g, b) f in
      let u = ih y.0 y.1.at y.1.rest z i (omega (arith, some x y.0 n t.text t.holds, length-append t.text y.1.rest, ap length t.parts)) t.stops e in
      record {
        text = t.text ++ u.text;
        holds = More y.0 t.text u.text t.holds (rw (← t.number) u.holds) refl;
        parts = joined ts t.text y.1.rest u.text i.rest t.parts u.parts;
        number = omega (arith, t.number, u.number, length-append t.text u.text);
        stops = u.stops;
      }

  step_takes : (fuel : ℕ) → Takes fuel → (x : A) (n : ℕ) (ts : List Lexeme) (z : A) (i : Input) → length ts ≤ suc fuel → G x (head ts) → (b : Bool) → goes x (head ts) ≡ b →
      pick b (bind (step x) (λ y. chain goes step fuel y)) (pure x) (input n ts) ≡ Ok (z, i) → Taken (λ w. Steps K w x) Stops n ts z i
  step_takes fuel ih x n ts z i long g true b e = then_takes fuel ih x n ts z i long g b (step x (input n ts)) refl e
  step_takes fuel ih x n ts z i long g false b e = ended_there x n ts z i g b e

  goes_nowhere : (x : A) (ts : List Lexeme) → length ts ≤ 0 → goes x (head ts) ≡ false
  goes_nowhere x [] none = ends x
  goes_nowhere x (u ∷ us) none = absurd (omega arith)

  chain_takes : (fuel : ℕ) → Takes fuel
  chain_takes zero x n ts z i long g e = ended_there x n ts z i g (goes_nowhere x ts long) e
  chain_takes (suc fuel) x n ts z i long g e = step_takes fuel (chain_takes fuel) x n ts z i long g (goes x (head ts)) refl e

  -- a fault of a chain, whatever the fuel
  record ChainFaults (x : A) (n : ℕ) (ts : List Lexeme) (i : Input) : Type 0 where
    front : List Lexeme
    parts : ts ≡ front ++ i.rest
    number : i.at ≡ n + length front
    same : (more : List Lexeme) (fuel : ℕ) → head more ≡ head i.rest → length (front ++ more) ≤ fuel → chain goes step fuel x (input n (front ++ more)) ≡ Err (input i.at more)

  abbrev Locals : ℕ → Type 0
  Locals fuel = (x : A) (n : ℕ) (ts : List Lexeme) (i : Input) → length ts ≤ fuel → G x (head ts) → chain goes step fuel x (input n ts) ≡ Err i → ChainFaults x n ts i

  -- a step is made whatever the fuel
  stepped : (x : A) (n : ℕ) (ts : List Lexeme) (r : Result (A × Input) Input) (fuel : ℕ) → length ts ≤ fuel → goes x (head ts) ≡ true →
      ((less : ℕ) → length ts ≤ suc less → bind (step x) (λ y. chain goes step less y) (input n ts) ≡ r) → chain goes step fuel x (input n ts) ≡ r
  stepped x n ts r zero long b next = absurd (omega (arith, none_ahead true (goes x) ts (ends x) b))
  stepped x n ts r (suc less) long b next = rw b (next less long)

  fault_ahead : (x : A) (ts front more : List Lexeme) (i : Input) → ts ≡ front ++ i.rest → head more ≡ head i.rest → goes x (head ts) ≡ true → goes x (head (front ++ more)) ≡ true
  fault_ahead x ts front more i parts w b = ap (goes x) (head_append front more i.rest w ∙ ap head (sym parts)) ∙ b

  then_local : (fuel : ℕ) → Locals fuel → (x : A) (n : ℕ) (ts : List Lexeme) (i : Input) → length ts ≤ suc fuel → G x (head ts) → goes x (head ts) ≡ true →
      (r : Result (A × Input) Input) → step x (input n ts) ≡ r → and_then (λ y. chain goes step fuel y) r ≡ Err i → ChainFaults x n ts i
  then_local fuel ih x n ts i long g b (Err j) f e =
      let t = (step_is x).local n ts j (g, b) f in
      subst (ChainFaults x n ts) (same_fault e) (record {
        front = t.front;
        parts = t.parts;
        number = t.number;
        same = λ more any w room.
            stepped x n (t.front ++ more) (Err (input j.at more)) any room (fault_ahead x ts t.front more j t.parts w b) (λ less room. rw (t.same more w) refl);
      })
  then_local fuel ih x n ts i long g b (Ok y) f e =
      let t = (step_is x).takes n ts y.0 y.1 (g, b) f in
      let u = ih y.0 y.1.at y.1.rest i (omega (arith, some x y.0 n t.text t.holds, length-append t.text y.1.rest, ap length t.parts)) t.stops e in
      let parts : ts ≡ (t.text ++ u.front) ++ i.rest = joined ts t.text y.1.rest u.front i.rest t.parts u.parts in
      record {
        front = t.text ++ u.front;
        parts = parts;
        number = omega (arith, t.number, u.number, length-append t.text u.front);
        same = λ more any w room.
            stepped x n ((t.text ++ u.front) ++ more) (Err (input i.at more)) any room (fault_ahead x ts (t.text ++ u.front) more i parts w b) (λ less room.
            let before : head (u.front ++ more) ≡ head y.1.rest = head_append u.front more i.rest w ∙ ap head (sym u.parts) in
            let one_step : step x (input n (t.text ++ (u.front ++ more))) ≡ Ok (y.0, input (n + length t.text) (u.front ++ more)) = (step_is x).again y.0 n t.text (u.front ++ more) t.holds (subst (G y.0) (sym before) t.stops) in
            let others : chain goes step less y.0 (input y.1.at (u.front ++ more)) ≡ Err (input i.at more) = u.same more less w
            (omega (arith, some x y.0 n t.text t.holds, length-append (t.text ++ u.front) more, length-append t.text u.front, length-append u.front more)) in
            rw (append_assoc, one_step, ← t.number, others) refl);
      }

  step_local : (fuel : ℕ) → Locals fuel → (x : A) (n : ℕ) (ts : List Lexeme) (i : Input) → length ts ≤ suc fuel → G x (head ts) → (b : Bool) → goes x (head ts) ≡ b →
      pick b (bind (step x) (λ y. chain goes step fuel y)) (pure x) (input n ts) ≡ Err i → ChainFaults x n ts i
  step_local fuel ih x n ts i long g true b e = then_local fuel ih x n ts i long g b (step x (input n ts)) refl e
  step_local fuel ih x n ts i long g false b e = absurd (not_both e)

  chain_local : (fuel : ℕ) → Locals fuel
  chain_local zero x n ts i long g e = absurd (not_both e)
  chain_local (suc fuel) x n ts i long g e = step_local fuel (chain_local fuel) x n ts i long g (goes x (head ts)) refl e

  -- steps behind a first reader
  pub steps_fit : (y z : A) (m : ℕ) (u rest : List Lexeme) → Steps K z y m u → G z (head rest) → G y (head (u ++ rest))
  steps_fit y z m u rest steps g = next_fits y z m u rest steps g

  pub many_lawful : (x : A) → Lawful (λ n. G x) (many goes step x) (λ z. Steps K z x) (λ z o. G z o × (goes z o ≡ false))
  many_lawful x = record {
    again = λ z n text rest h s. chain_again z (length (text ++ rest)) x n text rest h (omega arith) s;
    takes = λ n ts z i g e. chain_takes (length ts) x n ts z i (omega arith) g e;
    local = λ n ts i g e. let r = chain_local (length ts) x n ts i (omega arith) g e in record { front = r.front; parts = r.parts; number = r.number; same = λ more w. r.same more (length (r.front ++ more)) w (omega arith) };
  }

-- Forms of putting together that come again and again.

-- keywords, punctuators and identifiers have no text
abbrev pub bare : TokenKind → Lexeme
bare k = record { kind = k; value = [] }

-- the test is for that kind alone
pub record Tells (test : TokenKind → Bool) (k : TokenKind) : Type 0 where
  pub is : (j : TokenKind) → test j ≡ true → j ≡ k
  pub true_of : test k ≡ true

pub some_is : {A : Type 0} {a b : A} → ◌≡◌ {A = Option A} (Some a) (Some b) → a ≡ b
some_is e = cc

pub none_is_no : {A : Type 0} {a : A} → ◌≡◌ {A = Option A} None (Some a) → ⊥
none_is_no e = absurd cc

pub if_so_is : {A : Type 0} (b : Bool) (a c : A) → if_so b a ≡ Some c → (b ≡ true) × (a ≡ c)
if_so_is true a c e = (refl, some_is e)
if_so_is false a c e = absurd (none_is_no e)

of_kind_is : {A : Type 0} (f : TokenKind → Option A) (u : Lexeme) (a : A) (v : List ℕ) → u.value ≡ v → of_kind f v u.kind ≡ Some a → (u ≡ bare u.kind) × (f u.kind ≡ Some a)
of_kind_is f u a [] is e = (ap (λ w. record { kind = u.kind; value = w }) is, e)
of_kind_is f u a (x ∷ xs) is e = absurd (none_is_no e)

pub plain_is : {A : Type 0} (f : TokenKind → Option A) (u : Lexeme) (a : A) → plain f u ≡ Some a → (u ≡ bare u.kind) × (f u.kind ≡ Some a)
plain_is f u a e = of_kind_is f u a u.value refl e

pub fitting_is : {A : Type 0} (fits : A → Bool) (o : Option A) (a : A) → fitting fits o ≡ Some a → (o ≡ Some a) × (fits a ≡ true)
fitting_is fits None a e = absurd (none_is_no e)
fitting_is fits (Some b) a e = let r = if_so_is (fits b) b a e in (ap Some r.1, ap fits (sym r.1) ∙ r.0)

pub take_is : {test : TokenKind → Bool} {k : TokenKind} (c : Unit {0}) (n : ℕ) (t : List Lexeme) → Tells test k → Token {A = Unit {0}} (plain (λ j. if_so (test j) tt)) c n t → t ≡ bare k ∷ []
take_is {test = test} {k = k} c n t tells h =
    let r = plain_is (λ j. if_so (test j) tt) h.token c h.is in
    let s = if_so_is (test h.token.kind) tt c r.1 in
    h.alone ∙ ap (λ u. u ∷ []) (r.0 ∙ ap bare (tells.is h.token.kind s.0))

pub taken_is : {test : TokenKind → Bool} {k : TokenKind} (n : ℕ) (t : List Lexeme) → Tells test k → t ≡ bare k ∷ [] → Token {A = Unit {0}} (plain (λ j. if_so (test j) tt)) tt n t
taken_is {test = test} {k = k} n t tells e = record { token = bare k; is = rw tells.true_of refl; alone = e }

-- a token, and what stands behind it
pub record Behind {A : Type 0} (k : TokenKind) (H : A → ℕ → List Lexeme → Type 0) (a : A) (n : ℕ) (text : List Lexeme) : Type 0 where
  pub back : List Lexeme
  pub holds : H a (n + 1) back
  pub parts : text ≡ bare k ∷ back

pub behind_lawful : {A : Type 0} {P : ℕ → Option Lexeme → Type 0} {test : TokenKind → Bool} {k : TokenKind} {read : Reader A} {H : A → ℕ → List Lexeme → Type 0} {S : A → Option Lexeme → Type 0} →
    Tells test k → Lawful Any read H S → Lawful P (bind (take test) (λ c. read)) (Behind k H) S
behind_lawful {test = test} {k = k} {H = H} tells law = said
    (bind_lawful {P = _} {H = Token {A = Unit {0}} (plain (λ j. if_so (test j) tt))} (one_lawful _) (λ c n t h. known (λ n o p. tt) law) (λ c n t b u rest h k s. tt))
    (λ a n t h. record { value = tt; front = bare k ∷ []; back = h.back; first = taken_is n (bare k ∷ []) tells refl; second = h.holds; parts = h.parts })
    (λ a n t h. let one_sign = take_is h.value n h.front tells h.first in record { back = h.back; holds = subst (λ f. H a (n + length f) h.back) one_sign h.second; parts = h.parts ∙ ap (λ f. f ++ h.back) one_sign })

-- a value made of what was read
pub record Mapped {A B : Type 0} (f : A → B) (H : A → ℕ → List Lexeme → Type 0) (b : B) (n : ℕ) (text : List Lexeme) : Type 0 where
  pub value : A
  pub holds : H value n text
  pub is : b ≡ f value

pub mapped_lawful : {A B : Type 0} {P : ℕ → Option Lexeme → Type 0} {read : Reader A} {H : A → ℕ → List Lexeme → Type 0} {G : A → Option Lexeme → Type 0} {S : B → Option Lexeme → Type 0} (f : A → B) →
    ((a : A) (o : Option Lexeme) → S (f a) o → G a o) → ((a : A) (o : Option Lexeme) → G a o → S (f a) o) → Lawful P read H G → Lawful P (bind read (λ a. pure (f a))) (Mapped f H) S
mapped_lawful {H = H} {S = S} f to from law = said
    (bind_lawful law (λ a n t h. pure_lawful (f a) (λ m o p. from a o p.1)) (λ a n t b u rest h k s. rw k.nothing (to a (head rest) (subst (λ c. S c (head rest)) k.value s))))
    (λ b n t h. record { value = h.value; front = t; back = []; first = h.holds; second = record { value = h.is; nothing = refl }; parts = sym (append-nil t) })
    (λ b n t h. record { value = h.value; holds = rw (h.parts, h.second.nothing, append-nil) h.first; is = h.second.value })

-- a token behind what was read
pub record Before {A B : Type 0} (k : TokenKind) (f : A → B) (H : A → ℕ → List Lexeme → Type 0) (b : B) (n : ℕ) (text : List Lexeme) : Type 0 where
  pub value : A
  pub front : List Lexeme
  pub holds : H value n front
  pub is : b ≡ f value
  pub parts : text ≡ front ++ bare k ∷ []

pub before_lawful : {A B : Type 0} {P : ℕ → Option Lexeme → Type 0} {read : Reader A} {H : A → ℕ → List Lexeme → Type 0} {G : A → Option Lexeme → Type 0} {test : TokenKind → Bool} {k : TokenKind} (f : A → B) →
    Tells test k → ((a : A) (n : ℕ) (t : List Lexeme) → H a n t → G a (Some (bare k))) → Lawful P read H G → Lawful P (bind read (λ a. bind (take test) (λ c. pure (f a)))) (Before k f H) Anywhere
before_lawful {H = H} {G = G} {k = k} f tells ends law = said
    (bind_lawful law (λ a n t h. behind_lawful tells (pure_lawful (f a) (λ m o p. tt))) (λ a n t b u rest h m s. rw m.parts (ends a n t h)))
    (λ b n t h. record { value = h.value; front = h.front; back = bare k ∷ []; first = h.holds; second = record { back = []; holds = record { value = h.is; nothing = refl }; parts = refl }; parts = h.parts })
    (λ b n t h. record { value = h.value; front = h.front; holds = h.first; is = h.second.holds.value; parts = h.parts ∙ ap (λ r. h.front ++ r) (h.second.parts ∙ ap (λ r. bare k ∷ r) h.second.holds.nothing) })

-- a test of the next token, that what was read is kept by
pub stopped_lawful : {A : Type 0} {P : ℕ → Option Lexeme → Type 0} (test : Option Lexeme → Bool) (a : A) → Lawful P (when test fail (pure a)) (Gives a) (λ b o. test o ≡ false)
stopped_lawful test a = said
    (when_lawful test {H = λ b n t. ⊥} fail_lawful (pure_lawful a (λ n o p. p.1)) (λ b n t rest h s. absurd h) (λ b n t rest h s. rw h.nothing s))
    (λ b n t h. Unmet h)
    (λ b n t h. either_right h)

-- what is known of the first token is told beside the value
pub fact_lawful : {A : Type 0} {P : ℕ → Option Lexeme → Type 0} {read : Reader A} {H : A → ℕ → List Lexeme → Type 0} {S : A → Option Lexeme → Type 0} (condition : Bool) → ((n : ℕ) (o : Option Lexeme) → P n o → condition ≡ true) → Lawful P read H S → Lawful P read (Under condition H) S
fact_lawful condition by law = record {
  again = λ a n t rest h s. law.again a n t rest h.holds s;
  takes = λ n ts a i p e. let t = law.takes n ts a i p e in record { text = t.text; holds = record { met = by n (head ts) p; holds = t.holds }; parts = t.parts; number = t.number; stops = t.stops };
  local = law.local;
}

-- the number that is known of the first token is told beside the value
pub record There {A : Type 0} (m : ℕ) (H : A → ℕ → List Lexeme → Type 0) (a : A) (n : ℕ) (text : List Lexeme) : Type 0 where
  pub number : n ≡ m
  pub holds : H a n text

pub there_lawful : {A : Type 0} {P : ℕ → Option Lexeme → Type 0} {read : Reader A} {H : A → ℕ → List Lexeme → Type 0} {S : A → Option Lexeme → Type 0} (m : ℕ) → ((n : ℕ) (o : Option Lexeme) → P n o → n ≡ m) → Lawful P read H S → Lawful P read (There m H) S
there_lawful m by law = record {
  again = λ a n t rest h s. law.again a n t rest h.holds s;
  takes = λ n ts a i p e. let t = law.takes n ts a i p e in record { text = t.text; holds = record { number = by n (head ts) p; holds = t.holds }; parts = t.parts; number = t.number; stops = t.stops };
  local = law.local;
}

abbrev pub At : ℕ → ℕ → Option Lexeme → Type 0
At m n o = n ≡ m

pub behind_at_lawful : {A : Type 0} {test : TokenKind → Bool} {k : TokenKind} {read : Reader A} {H : A → ℕ → List Lexeme → Type 0} {S : A → Option Lexeme → Type 0} (m : ℕ) →
    Tells test k → Lawful (At (m + 1)) read H S → Lawful (At m) (bind (take test) (λ c. read)) (There m (Behind k H)) S
behind_at_lawful {test = test} {k = k} {H = H} m tells law = said
    (bind_lawful {H = There m (Token {A = Unit {0}} (plain (λ j. if_so (test j) tt)))} (there_lawful m (λ n o p. p) (one_lawful _))
    (λ c n t h. known (λ i o p. p.0 ∙ (ap (λ u. n + length u) (take_is c n t tells h.holds) ∙ ap (λ j. j + 1) h.number)) law) (λ c n t b u rest h k s. tt))
    (λ a n t h. record { value = tt; front = bare k ∷ []; back = h.holds.back; first = record { number = h.number; holds = taken_is n (bare k ∷ []) tells refl }; second = h.holds.holds; parts = h.holds.parts })
    (λ a n t h. let one_sign = take_is h.value n h.front tells h.first.holds in record { number = h.first.number; holds = record { back = h.back; holds = subst (λ f. H a (n + length f) h.back) one_sign h.second; parts = h.parts ∙ ap (λ f. f ++ h.back) one_sign } })

-- what the next token was tested for is told of the first token that was read
pub record Headed {A : Type 0} (test : Option Lexeme → Bool) (b : Bool) (H : A → ℕ → List Lexeme → Type 0) (a : A) (n : ℕ) (text : List Lexeme) : Type 0 where
  pub holds : H a n text
  pub first : test (head text) ≡ b

head_of_some : (t rest : List Lexeme) → 0 < length t → head (t ++ rest) ≡ head t
head_of_some [] rest some = absurd (omega arith)
head_of_some (u ∷ us) rest some = refl

pub headed_begins : {A : Type 0} {H : A → ℕ → List Lexeme → Type 0} (test : Option Lexeme → Bool) (b : Bool) (a : A) (n : ℕ) (t rest : List Lexeme) → 0 < length t → Headed test b H a n t → test (head (t ++ rest)) ≡ b
headed_begins test b a n t rest some h = ap test (head_of_some t rest some) ∙ h.first

pub headed_lawful : {A : Type 0} {P : ℕ → Option Lexeme → Type 0} {read : Reader A} {H : A → ℕ → List Lexeme → Type 0} {S : A → Option Lexeme → Type 0} (test : Option Lexeme → Bool) (b : Bool) →
    ((a : A) (n : ℕ) (t : List Lexeme) → H a n t → 0 < length t) → Lawful (And P test b) read H S → Lawful (And P test b) read (Headed test b H) S
headed_lawful test b some law = record {
  again = λ a n t rest h s. law.again a n t rest h.holds s;
  takes = λ n ts a i p e. let t = law.takes n ts a i p e in record {
    text = t.text;
    parts = t.parts;
    number = t.number;
    stops = t.stops;
    holds = record { holds = t.holds; first = ap test (sym (head_of_some t.text i.rest (some a n t.text t.holds)) ∙ ap head (sym t.parts)) ∙ p.1 };
  };
  local = law.local;
}

abbrev tail_of : List Lexeme → List Lexeme
tail_of [] = []
tail_of (v ∷ vs) = vs

tails : {x : Lexeme} {xs ys : List Lexeme} → ◌≡◌ {A = List Lexeme} (x ∷ xs) (x ∷ ys) → xs ≡ ys
tails e = ap tail_of e

pub cancelled : (xs ys zs : List Lexeme) → xs ++ ys ≡ xs ++ zs → ys ≡ zs
cancelled [] ys zs e = e
cancelled (x ∷ xs) ys zs e = cancelled xs ys zs (tails e)

-- what was known of the next token is told of the first token that was read, where there is one
pub record Opens {A : Type 0} (test : Option Lexeme → Bool) (b : Bool) (H : A → ℕ → List Lexeme → Type 0) (a : A) (n : ℕ) (text : List Lexeme) : Type 0 where
  pub holds : H a n text
  pub first : 0 < length text → test (head text) ≡ b

pub opens_lawful : {A : Type 0} {P : ℕ → Option Lexeme → Type 0} {read : Reader A} {H : A → ℕ → List Lexeme → Type 0} {S : A → Option Lexeme → Type 0} (test : Option Lexeme → Bool) (b : Bool) →
    ((n : ℕ) (o : Option Lexeme) → P n o → test o ≡ b) → Lawful P read H S → Lawful P read (Opens test b H) S
opens_lawful test b by law = record {
  again = λ a n t rest h s. law.again a n t rest h.holds s;
  takes = λ n ts a i p e. let t = law.takes n ts a i p e in record {
    text = t.text;
    parts = t.parts;
    number = t.number;
    stops = t.stops;
    holds = record { holds = t.holds; first = λ some. ap test (sym (head_of_some t.text i.rest some) ∙ ap head (sym t.parts)) ∙ by n (head ts) p };
  };
  local = law.local;
}

-- the first token, or what stands behind where nothing was read
pub opens_begins : {A : Type 0} {H : A → ℕ → List Lexeme → Type 0} (test : Option Lexeme → Bool) (b : Bool) (a : A) (n : ℕ) (t rest : List Lexeme) → Opens test b H a n t → (t ≡ [] → test (head rest) ≡ b) → test (head (t ++ rest)) ≡ b
opens_begins test b a n [] rest h none = none refl
opens_begins test b a n (u ∷ us) rest h none = h.first (omega arith)
