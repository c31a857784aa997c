-- Device: lists that are read item by item.
use Rattle.std.proofs.Common.{◌≡◌, refl, sym, ap, ◌∙◌, subst, ℕ, ◌+◌, ◌<◌, length, Bool, true, false, not, ◌&&◌, List, [], ◌∷◌, ◌++◌, Option, Some, None, append_assoc, append-nil, arith, true≢false}
use Rattle.cil_base.specs.declared.tokens.Punctuator.TheVariants.{Comma as CommaSign}
use Rattle.cil_base.specs.declared.tokens.TokenKind.{TokenKind}
use Rattle.cil_base.specs.declared.tokens.TokenKind.TheVariants.{Punctuator as IsPunctuator}
use Rattle.typedef_scopes.specs.Scopes.{Scope}
use Rattle.c_tree.specs.Spelling.{Lexeme, sign}
use Rattle.c_cursor.specs.Readers.{Reader, head}
use Rattle.c_exprs.specs.Subs.{In, grow, behind_comma, comma_ahead, more_listed, listed, one_more_or_end, more_or_end, more_listed_to, listed_to}
use Rattle.c_exprs.proofs.Laws.{Lawful, Any, And, Steps, Ends, More, Mapped, Behind, Both, Either, Met, Unmet, Under, bind_lawful, mapped_lawful, behind_lawful, when_lawful, many_lawful, steps_fit, said, known, ended, fact_lawful}
use Rattle.c_exprs.proofs.Tokens.{sign_tells, both, not_true}

abbrev pub grown : {A : Type 0} → In (List A) → In A → In (List A)
grown x y = (x.0 ++ y.0 ∷ [], y.1)

-- one item more, which stands behind those that were read
abbrev pub Grows : {A : Type 0} → (In (List A) → In A → ℕ → List Lexeme → Type 0) → In (List A) → In (List A) → ℕ → List Lexeme → Type 0
Grows H x z n t = Mapped (grown x) (H x) z n t

-- nothing behind the last item
abbrev pub Over : ℕ → List Lexeme → Type 0
Over n text = text ≡ []

-- the items xs behind those of `before`, and what stands behind the last
abbrev pub Rest : {A : Type 0} → (ℕ → List Lexeme → Type 0) → (In (List A) → In A → ℕ → List Lexeme → Type 0) → List A → List Scope → List Scope → ℕ → List Lexeme → List A → Type 0
Rest E H before ds es n text [] = (es ≡ ds) × E n text
Rest E H before ds es n text (x ∷ xs) =
    (middle : List Scope) × (front : List Lexeme) × (back : List Lexeme) × H (before, ds) (x, middle) n front × Rest E H (before ++ x ∷ []) middle es (n + length front) back xs × (text ≡ front ++ back)

same_pair : {A : Type 0} {xs ys : List A} {ds es : List Scope} → xs ≡ ys → ds ≡ es → ◌≡◌ {A = In (List A)} (xs, ds) (ys, es)
same_pair {xs = xs} {ys = ys} {ds = ds} e f = ap (λ zs. (zs, ds)) e ∙ ap (λ zs. (ys, zs)) f

pub record Reached {A : Type 0} (H : In (List A) → In A → ℕ → List Lexeme → Type 0) (x z : In (List A)) (n : ℕ) (text : List Lexeme) : Type 0 where
  pub items : List A
  pub list : z.0 ≡ x.0 ++ items
  pub rest : Rest Over H x.0 x.1 z.1 n text items

reached_more : {A : Type 0} (H : In (List A) → In A → ℕ → List Lexeme → Type 0) (x y z : In (List A)) (n : ℕ) (front back text : List Lexeme) → Grows H x y n front → text ≡ front ++ back → Reached H y z (n + length front) back → Reached H x z n text
reached_more H x y z n front back text g parts r = record {
  items = g.value.0 ∷ r.items;
  list = r.list ∙ (ap (λ w. w.0 ++ r.items) g.is ∙ append_assoc x.0 (g.value.0 ∷ []) r.items);
  rest = (g.value.1, front, back, g.holds, subst (λ w. Rest Over H w.0 w.1 z.1 (n + length front) back r.items) g.is r.rest, parts);
}

pub rest_of_steps : {A : Type 0} (H : In (List A) → In A → ℕ → List Lexeme → Type 0) (z x : In (List A)) (n : ℕ) (text : List Lexeme) → Steps (Grows H) z x n text → Reached H x z n text
rest_of_steps H z x n text (Ends e none) = record { items = []; list = ap (λ w. w.0) (sym e) ∙ sym (append-nil x.0); rest = (ap (λ w. w.1) (sym e), none) }
rest_of_steps H z x n text (More y front back g steps parts) = reached_more H x y z n front back text g parts (rest_of_steps H z y (n + length front) back steps)

pub steps_of_rest : {A : Type 0} (H : In (List A) → In A → ℕ → List Lexeme → Type 0) (xs before : List A) (ds es : List Scope) (n : ℕ) (text : List Lexeme) → Rest Over H before ds es n text xs → Steps (Grows H) (before ++ xs, es) (before, ds) n text
steps_of_rest H [] before ds es n text r = Ends (same_pair (sym (append-nil before)) (sym r.0)) r.1
steps_of_rest H (x ∷ xs) before ds es n text r =
    More (before ++ x ∷ [], r.0) r.1 r.2 (record { value = (x, r.0); holds = r.3; is = refl })
    (subst (λ w. Steps (Grows H) (w, es) (before ++ x ∷ [], r.0) (n + length r.1) r.2) (append_assoc before (x ∷ []) xs) (steps_of_rest H xs (before ++ x ∷ []) r.0 es (n + length r.1) r.2 r.4)) r.5

-- what may stand behind the last item
abbrev pub Last : {A : Type 0} → (A → Option Lexeme → Type 0) → List A → Option Lexeme → Type 0
Last S [] o = Unit {0}
Last S (x ∷ []) o = S x o
Last S (x ∷ y ∷ ys) o = Last S (y ∷ ys) o

pub last_of : {A : Type 0} (S : A → Option Lexeme → Type 0) (xs : List A) (y : A) (o : Option Lexeme) → Last S (xs ++ y ∷ []) o → S y o
last_of S [] y o h = h
last_of S (x ∷ []) y o h = h
last_of S (x ∷ z ∷ zs) y o h = last_of S (z ∷ zs) y o h

pub of_last : {A : Type 0} (S : A → Option Lexeme → Type 0) (xs : List A) (y : A) (o : Option Lexeme) → S y o → Last S (xs ++ y ∷ []) o
of_last S [] y o h = h
of_last S (x ∷ []) y o h = h
of_last S (x ∷ z ∷ zs) y o h = of_last S (z ∷ zs) y o h

pub all_last : {A : Type 0} (S : A → Option Lexeme → Type 0) (xs : List A) (o : Option Lexeme) → ((x : A) → S x o) → Last S xs o
all_last S [] o every = tt
all_last S (x ∷ []) o every = every x
all_last S (x ∷ y ∷ ys) o every = all_last S (y ∷ ys) o every

pub last_known : {A : Type 0} (Q : Option Lexeme → Type 0) (x : A) (xs : List A) (o : Option Lexeme) → Last (λ (y : A). Q) (x ∷ xs) o → Q o
last_known Q x [] o h = h
last_known Q x (y ∷ ys) o h = last_known Q y ys o h

-- a list with commas between its items

abbrev pub Comma : TokenKind
Comma = IsPunctuator CommaSign

abbrev pub AfterComma : {A : Type 0} → (List Scope → In A → ℕ → List Lexeme → Type 0) → In (List A) → In A → ℕ → List Lexeme → Type 0
AfterComma H x y n t = Behind Comma (H x.1) y n t

pub record Listed {A : Type 0} (E : ℕ → List Lexeme → Type 0) (H : List Scope → In A → ℕ → List Lexeme → Type 0) (ds : List Scope) (xs : List A) (es : List Scope) (n : ℕ) (text : List Lexeme) : Type 0 where
  pub first : In A
  pub others : List A
  pub front : List Lexeme
  pub back : List Lexeme
  pub list : xs ≡ first.0 ∷ others
  pub holds : H ds first n front
  pub rest : Rest E (AfterComma H) (first.0 ∷ []) first.1 es (n + length front) back others
  pub parts : text ≡ front ++ back

module _ {A : Type 0} {item : List Scope → Reader (In A)} {H : List Scope → In A → ℕ → List Lexeme → Type 0} (S : A → Option Lexeme → Type 0)
    (item_is : (ds : List Scope) → Lawful Any (item ds) (H ds) (λ y. S y.0))
    (at_comma : (x : A) → S x (Some (sign CommaSign))) where
  next_listed : (x : In (List A)) → Lawful (And (λ n. Last S x.0) comma_ahead true) (grow (behind_comma item) x) (Grows (AfterComma H) x) (λ z. Last S z.0)
  next_listed x = mapped_lawful (grown x) (λ y o h. last_of S x.0 y.0 o h) (λ y o h. of_last S x.0 y.0 o h) (behind_lawful (sign_tells CommaSign) (item_is x.1))

  comma_starts : (x y : In (List A)) (n : ℕ) (t more : List Lexeme) → Grows (AfterComma H) x y n t → comma_ahead (head (t ++ more)) ≡ true
  comma_starts x y n t more g = rw g.holds.parts refl

  comma_fits : (x y : In (List A)) (n : ℕ) (t more : List Lexeme) → Grows (AfterComma H) x y n t → Last S x.0 (head (t ++ more))
  comma_fits x y n t more g = rw g.holds.parts (all_last S x.0 (Some (sign CommaSign)) at_comma)

  comma_some : (x y : In (List A)) (n : ℕ) (t : List Lexeme) → Grows (AfterComma H) x y n t → 0 < length t
  comma_some x y n t g = rw g.holds.parts (omega arith)

  pub more_listed_lawful : (x : In (List A)) → Lawful (λ n. Last S x.0) (more_listed item x) (λ z. Steps (Grows (AfterComma H)) z x) (λ z o. Last S z.0 o × (comma_ahead o ≡ false))
  more_listed_lawful x = many_lawful next_listed comma_starts comma_fits comma_some (λ y. refl) x

  listed_from : (ds : List Scope) (z : In (List A)) (n : ℕ) (text : List Lexeme) → Both (H ds) (λ y w. Steps (Grows (AfterComma H)) w (y.0 ∷ [], y.1)) z n text → Listed Over H ds z.0 z.1 n text
  listed_from ds z n text b =
      let r = rest_of_steps (AfterComma H) z (b.value.0 ∷ [], b.value.1) (n + length b.front) b.back b.second in
      record { first = b.value; others = r.items; front = b.front; back = b.back; list = r.list; holds = b.first; rest = r.rest; parts = b.parts }

  listed_to_steps : (ds : List Scope) (z : In (List A)) (n : ℕ) (text : List Lexeme) → Listed Over H ds z.0 z.1 n text → Both (H ds) (λ y w. Steps (Grows (AfterComma H)) w (y.0 ∷ [], y.1)) z n text
  listed_to_steps ds z n text l = record {
    value = l.first;
    front = l.front;
    back = l.back;
    first = l.holds;
    parts = l.parts;
    second = subst (λ w. Steps (Grows (AfterComma H)) w (l.first.0 ∷ [], l.first.1) (n + length l.front) l.back) (same_pair (sym l.list) refl)
        (steps_of_rest (AfterComma H) l.others (l.first.0 ∷ []) l.first.1 z.1 (n + length l.front) l.back l.rest);
  }

  pub listed_lawful : (ds : List Scope) → Lawful Any (listed item ds) (λ z. Listed Over H ds z.0 z.1) (λ z o. Last S z.0 o × (comma_ahead o ≡ false))
  listed_lawful ds = said
      (bind_lawful (item_is ds) (λ y n t h. known (λ m o p. p.1) (more_listed_lawful (y.0 ∷ [], y.1)))
      (λ y n t z u rest h steps s. steps_fit next_listed comma_starts comma_fits comma_some (λ w. refl) (y.0 ∷ [], y.1) z (n + length t) u rest steps s.0))
      (listed_to_steps ds) (listed_from ds)

-- the same where something may stand behind a last comma

abbrev pub Ending : (Unit {0} → ℕ → List Lexeme → Type 0) → Bool → ℕ → List Lexeme → Type 0
Ending F false n text = text ≡ []
Ending F true n text = Behind Comma F tt n text

abbrev pub EndIs : {A : Type 0} → (A → Option Lexeme → Type 0) → (Option Lexeme → Type 0) → List A → Bool → Option Lexeme → Type 0
EndIs S L xs false o = Last S xs o × (comma_ahead o ≡ false)
EndIs S L xs true o = L o

abbrev InFlag : {A : Type 0} → (A → Option Lexeme → Type 0) → (Option Lexeme → Type 0) → List A → Bool → Option Lexeme → Type 0
InFlag S L xs false o = Last S xs o
InFlag S L xs true o = L o

-- an item more, or the end
abbrev pub NextOrEnd : {A : Type 0} → (List Scope → In A → ℕ → List Lexeme → Type 0) → (Unit {0} → ℕ → List Lexeme → Type 0) → In (List A × Bool) → In (List A × Bool) → ℕ → List Lexeme → Type 0
NextOrEnd H F x z n t = Under (not x.0.1) (Behind Comma (Either (Mapped (λ c. ((x.0.0, true), x.1)) F) (Mapped (λ y. ((x.0.0 ++ y.0 ∷ [], false), y.1)) (H x.1)))) z n t

pub record FlagReached {A : Type 0} (H : List Scope → In A → ℕ → List Lexeme → Type 0) (F : Unit {0} → ℕ → List Lexeme → Type 0) (x z : In (List A × Bool)) (n : ℕ) (text : List Lexeme) : Type 0 where
  pub items : List A
  pub list : z.0.0 ≡ x.0.0 ++ items
  pub rest : Rest (Ending F z.0.1) (AfterComma H) x.0.0 x.1 z.1 n text items

flag_more : {A : Type 0} (H : List Scope → In A → ℕ → List Lexeme → Type 0) (F : Unit {0} → ℕ → List Lexeme → Type 0) (x y z : In (List A × Bool)) (n : ℕ) (front back text : List Lexeme) →
    NextOrEnd H F x y n front → text ≡ front ++ back → (y.0.1 ≡ false → FlagReached H F y z (n + length front) back) → (y.0.1 ≡ true → (z ≡ y) × (back ≡ [])) → FlagReached H F x z n text
flag_more H F x y z n front back text k parts more over = by k.holds.holds
  where
    by : Either (Mapped (λ c. ((x.0.0, true), x.1)) F) (Mapped (λ w. ((x.0.0 ++ w.0 ∷ [], false), w.1)) (H x.1)) y (n + 1) k.holds.back → FlagReached H F x z n text
    by (Met m) =
        let o = over (ap (λ w. w.0.1) m.is) in
        let same : z ≡ ((x.0.0, true), x.1) = o.0 ∙ m.is in
        record {
          items = [];
          list = ap (λ w. w.0.0) same ∙ sym (append-nil x.0.0);
          rest = (
            ap (λ w. w.1) same,
            subst (λ b. Ending F b n text) (sym (ap (λ w. w.0.1) same))
                (record { back = k.holds.back; holds = m.holds; parts = parts ∙ (ap (λ r. front ++ r) o.1 ∙ (append-nil front ∙ k.holds.parts)) }),
          );
        }
    by (Unmet m) =
        let r = more (ap (λ w. w.0.1) m.is) in
        record {
          items = m.value.0 ∷ r.items;
          list = r.list ∙ (ap (λ w. w.0.0 ++ r.items) m.is ∙ append_assoc x.0.0 (m.value.0 ∷ []) r.items);
          rest = (
            m.value.1,
            front,
            back,
            record { back = k.holds.back; holds = m.holds; parts = k.holds.parts },
            subst (λ w. Rest (Ending F z.0.1) (AfterComma H) w.0.0 w.1 z.1 (n + length front) back r.items) m.is r.rest,
            parts,
          );
        }

flag_over : {A : Type 0} (H : List Scope → In A → ℕ → List Lexeme → Type 0) (F : Unit {0} → ℕ → List Lexeme → Type 0) (z x : In (List A × Bool)) (n : ℕ) (text : List Lexeme) → x.0.1 ≡ true → Steps (NextOrEnd H F) z x n text → (z ≡ x) × (text ≡ [])
flag_over H F z x n text t (Ends e none) = (sym e, none)
flag_over H F z x n text t (More y front back k steps parts) = absurd (true≢false (sym t ∙ not_true x.0.1 k.met))

flag_here : {A : Type 0} (H : List Scope → In A → ℕ → List Lexeme → Type 0) (F : Unit {0} → ℕ → List Lexeme → Type 0) (z x : In (List A × Bool)) (n : ℕ) (text : List Lexeme) → x.0.1 ≡ false → x ≡ z → text ≡ [] → FlagReached H F x z n text
flag_here H F z x n text f e none = record { items = []; list = ap (λ w. w.0.0) (sym e) ∙ sym (append-nil x.0.0); rest = (ap (λ w. w.1) (sym e), subst (λ b. Ending F b n text) (sym f ∙ ap (λ w. w.0.1) e) none) }

pub flag_of_steps : {A : Type 0} (H : List Scope → In A → ℕ → List Lexeme → Type 0) (F : Unit {0} → ℕ → List Lexeme → Type 0) (z x : In (List A × Bool)) (n : ℕ) (text : List Lexeme) → x.0.1 ≡ false → Steps (NextOrEnd H F) z x n text → FlagReached H F x z n text
flag_of_steps H F z x n text f (Ends e none) = flag_here H F z x n text f e none
flag_of_steps H F z x n text f (More y front back k steps parts) = flag_more H F x y z n front back text k parts (λ g. flag_of_steps H F z y (n + length front) back g steps) (λ t. flag_over H F z y (n + length front) back t steps)

flag_ends : {A : Type 0} (H : List Scope → In A → ℕ → List Lexeme → Type 0) (F : Unit {0} → ℕ → List Lexeme → Type 0) (b : Bool) (before : List A) (ds : List Scope) (n : ℕ) (text : List Lexeme) → Ending F b n text → Steps (NextOrEnd H F) ((before, b), ds) ((before, false), ds) n text
flag_ends H F false before ds n text e = Ends refl e
flag_ends H F true before ds n text e = More ((before, true), ds) text [] (record { met = refl; holds = record { back = e.back; holds = Met (record { value = tt; holds = e.holds; is = refl }); parts = e.parts } }) (Ends refl refl) (sym (append-nil text))

pub steps_of_flag : {A : Type 0} (H : List Scope → In A → ℕ → List Lexeme → Type 0) (F : Unit {0} → ℕ → List Lexeme → Type 0) (b : Bool) (xs before : List A) (ds es : List Scope) (n : ℕ) (text : List Lexeme) → Rest (Ending F b) (AfterComma H) before ds es n text xs →
    Steps (NextOrEnd H F) ((before ++ xs, b), es) ((before, false), ds) n text
steps_of_flag H F b [] before ds es n text r =
    subst (λ w. Steps (NextOrEnd H F) ((w, b), es) ((before, false), ds) n text) (sym (append-nil before)) (subst (λ w. Steps (NextOrEnd H F) ((before, b), w) ((before, false), ds) n text) (sym r.0) (flag_ends H F b before ds n text r.1))
steps_of_flag H F b (x ∷ xs) before ds es n text r =
    More ((before ++ x ∷ [], false), r.0) r.1 r.2 (record { met = refl; holds = record { back = r.3.back; holds = Unmet (record { value = (x, r.0); holds = r.3.holds; is = refl }); parts = r.3.parts } })
    (subst (λ w. Steps (NextOrEnd H F) ((w, b), es) ((before ++ x ∷ [], false), r.0) (n + length r.1) r.2) (append_assoc before (x ∷ []) xs) (steps_of_flag H F b xs (before ++ x ∷ []) r.0 es (n + length r.1) r.2 r.4)) r.5

module _ {A : Type 0} {item : List Scope → Reader (In A)} {H : List Scope → In A → ℕ → List Lexeme → Type 0} (S : A → Option Lexeme → Type 0) (ends : Option Lexeme → Bool) {final : Reader (Unit {0})} (F : Unit {0} → ℕ → List Lexeme → Type 0) (L : Option Lexeme → Type 0)
    (item_is : (ds : List Scope) → Lawful Any (item ds) (H ds) (λ y. S y.0))
    (final_is : Lawful (And Any ends true) final F (λ c. L))
    (at_comma : (x : A) → S x (Some (sign CommaSign)))
    (final_begins : (c : Unit {0}) (n : ℕ) (t rest : List Lexeme) → F c n t → L (head rest) → ends (head (t ++ rest)) ≡ true)
    (item_begins : (ds : List Scope) (y : In A) (n : ℕ) (t rest : List Lexeme) → H ds y n t → ends (head (t ++ rest)) ≡ false) where
  one_more_lawful : (x : In (List A × Bool)) → Lawful Any (one_more_or_end ends final item x) (Either (Mapped (λ c. ((x.0.0, true), x.1)) F) (Mapped (λ y. ((x.0.0 ++ y.0 ∷ [], false), y.1)) (H x.1))) (λ z. InFlag S L z.0.0 z.0.1)
  one_more_lawful x = when_lawful ends
      (mapped_lawful (λ c. ((x.0.0, true), x.1)) (λ c o h. h) (λ c o h. h) final_is)
      (mapped_lawful (λ y. ((x.0.0 ++ y.0 ∷ [], false), y.1)) (λ y o h. last_of S x.0.0 y.0 o h) (λ y o h. of_last S x.0.0 y.0 o h) (known (λ n o p. tt) (item_is x.1)))
      (λ z n t rest h s. final_begins h.value n t rest h.holds (subst (λ w. InFlag S L w.0.0 w.0.1 (head rest)) h.is s))
      (λ z n t rest h s. item_begins x.1 h.value n t rest h.holds)

  next_or_end : (x : In (List A × Bool)) → Lawful (And (λ n. InFlag S L x.0.0 x.0.1) (λ o. not x.0.1 && comma_ahead o) true) (more_or_end ends final item x) (NextOrEnd H F x) (λ z. InFlag S L z.0.0 z.0.1)
  next_or_end x = fact_lawful (not x.0.1) (λ n o p. (both (not x.0.1) (comma_ahead o) p.1).0) (behind_lawful (sign_tells CommaSign) (one_more_lawful x))

  flag_starts : (x y : In (List A × Bool)) (n : ℕ) (t more : List Lexeme) → NextOrEnd H F x y n t → (not x.0.1 && comma_ahead (head (t ++ more))) ≡ true
  flag_starts x y n t more k = rw (k.met, k.holds.parts) refl

  flag_fits_by : (b : Bool) (xs : List A) → not b ≡ true → InFlag S L xs b (Some (sign CommaSign))
  flag_fits_by true xs e = absurd (true≢false (sym e))
  flag_fits_by false xs e = all_last S xs (Some (sign CommaSign)) at_comma

  flag_fits : (x y : In (List A × Bool)) (n : ℕ) (t more : List Lexeme) → NextOrEnd H F x y n t → InFlag S L x.0.0 x.0.1 (head (t ++ more))
  flag_fits x y n t more k = rw k.holds.parts (flag_fits_by x.0.1 x.0.0 k.met)

  flag_some : (x y : In (List A × Bool)) (n : ℕ) (t : List Lexeme) → NextOrEnd H F x y n t → 0 < length t
  flag_some x y n t k = rw k.holds.parts (omega arith)

  flag_nowhere : (x : In (List A × Bool)) → (not x.0.1 && comma_ahead None) ≡ false
  flag_nowhere x = by (not x.0.1)
    where
      by : (b : Bool) → (b && false) ≡ false
      by true = refl
      by false = refl

  flag_end : (xs : List A) (b : Bool) (o : Option Lexeme) → InFlag S L xs b o × ((not b && comma_ahead o) ≡ false) → EndIs S L xs b o
  flag_end xs true o h = h.0
  flag_end xs false o h = h

  end_flag : (xs : List A) (b : Bool) (o : Option Lexeme) → EndIs S L xs b o → InFlag S L xs b o × ((not b && comma_ahead o) ≡ false)
  end_flag xs true o h = (h, refl)
  end_flag xs false o h = h

  pub more_to_lawful : (x : In (List A × Bool)) → Lawful (λ n. InFlag S L x.0.0 x.0.1) (more_listed_to ends final item x) (λ z. Steps (NextOrEnd H F) z x) (λ z o. InFlag S L z.0.0 z.0.1 o × ((not z.0.1 && comma_ahead o) ≡ false))
  more_to_lawful x = many_lawful next_or_end flag_starts flag_fits flag_some flag_nowhere x

  listed_to_from : (ds : List Scope) (z : In (List A × Bool)) (n : ℕ) (text : List Lexeme) → Both (H ds) (λ y w. Steps (NextOrEnd H F) w ((y.0 ∷ [], false), y.1)) z n text → Listed (Ending F z.0.1) H ds z.0.0 z.1 n text
  listed_to_from ds z n text b =
      let r = flag_of_steps H F z ((b.value.0 ∷ [], false), b.value.1) (n + length b.front) b.back refl b.second in
      record { first = b.value; others = r.items; front = b.front; back = b.back; list = r.list; holds = b.first; rest = r.rest; parts = b.parts }

  listed_to_to : (ds : List Scope) (z : In (List A × Bool)) (n : ℕ) (text : List Lexeme) → Listed (Ending F z.0.1) H ds z.0.0 z.1 n text → Both (H ds) (λ y w. Steps (NextOrEnd H F) w ((y.0 ∷ [], false), y.1)) z n text
  listed_to_to ds z n text l = record {
    value = l.first;
    front = l.front;
    back = l.back;
    first = l.holds;
    parts = l.parts;
    second = subst (λ w. Steps (NextOrEnd H F) ((w, z.0.1), z.1) ((l.first.0 ∷ [], false), l.first.1) (n + length l.front) l.back) (sym l.list)
        (steps_of_flag H F z.0.1 l.others (l.first.0 ∷ []) l.first.1 z.1 (n + length l.front) l.back l.rest);
  }

  pub listed_to_lawful : (ds : List Scope) → Lawful Any (listed_to ends final item ds) (λ z. Listed (Ending F z.0.1) H ds z.0.0 z.1) (λ z. EndIs S L z.0.0 z.0.1)
  listed_to_lawful ds = said
      (bind_lawful (item_is ds)
      (λ y n t h. known (λ m o p. p.1) (ended (λ z m u o s e. end_flag z.0.0 z.0.1 o e) (λ z m u o s e. flag_end z.0.0 z.0.1 o e) (more_to_lawful ((y.0 ∷ [], false), y.1))))
      (λ y n t z u rest h steps s. steps_fit next_or_end flag_starts flag_fits flag_some flag_nowhere ((y.0 ∷ [], false), y.1) z (n + length t) u rest steps (end_flag z.0.0 z.0.1 (head rest) s).0))
      (listed_to_to ds) (listed_to_from ds)
