-- Device: units have one first refusal, but for a syntax fault, whose second place may be one of several.
use Rattle.std.proofs.Common.{◌≡◌, ℕ, ◌+◌, List, [], ◌∷◌, ◌++◌, length, Option, Some, None, ◌⊎◌, inl, inr, refl, sym, ap, ◌∙◌, subst, arith}
use Rattle.cil_base.specs.declared.faults.Fault.TheVariants.{Syntax}
use Rattle.cil_base.specs.declared.faults.Refusal.{Refusal}
use Rattle.cil_base.specs.declared.kinds.Abi.{Abi}
use Rattle.cil_base.specs.declared.kinds.Mode.{Mode}
use Rattle.c_lexer.specs.Lexed.{Lexed}
use Rattle.c_lexer.specs.Tokens.{Whole, Refused}
use Rattle.c_cursor.specs.Lexemes.{lexemes}
use Rattle.c_parser.specs.UnitAnswers.{ReadsUnit}
use Rattle.c_parser.proofs.UnitLaws.{one_unit}
use Rattle.c_typing.specs.Faults.{first_fault}
use Rattle.c_faults.specs.Reading.{Source, Read, HasTokens, IsRead, refusal_at, IsUnitFault, TooLarge, TooMuch, OfToken, OfGrammar, OfWalk}
use Rattle.c_faults.specs.Definitions.{first_twice, duplicate}
use Rattle.c_faults.specs.Acceptance.{AreRead, total_of, names_behind, Clashes, FaultAt, InUnit, Twice, Apart}
use Rattle.c_faults.proofs.Acceptance.{same_answer, one_lexed, one_read, no_fault, same_reads, none_in_order}

-- the same, or two syntax faults
abbrev pub One : Refusal → Refusal → Type 0
One r q = (r ≡ q) ⊎ ((r.fault ≡ Syntax) × (q.fault ≡ Syntax))

turned : (r q : Refusal) → One r q → One q r
turned r q (inl e) = inl (sym e)
turned r q (inr e) = inr (e.1, e.0)

whole_not_refused : (u : Source) (names behind also : List (List ℕ)) (t : Lexed) (refusal : Refusal) → HasTokens u names t behind → Whole t.entries t.end behind ≡ Refused refusal also → ⊥
whole_not_refused u names behind also t refusal h e = cc

refused_one : (r q : Refusal) (a b : List (List ℕ)) → Refused r a ≡ Refused q b → r ≡ q
refused_one r q a b e = cc

some_one : {A : Type 0} (a b : A) → Some a ≡ Some b → a ≡ b
some_one a b e = cc

-- of one unit
one_fault : (abi : Abi) (total : ℕ) (names : List (List ℕ)) (u : Source) (r q : Refusal) → IsUnitFault abi total names u r → IsUnitFault abi total names u q → One r q
one_fault abi total names u r q (TooLarge a) (TooLarge b) = inl refl
one_fault abi total names u r q (TooLarge a) (TooMuch b c) = absurd (omega (arith, a, b))
one_fault abi total names u r q (TooLarge a) (OfToken s behind w i) = let m = w.alone in absurd (omega (arith, a, m))
one_fault abi total names u r q (TooLarge a) (OfGrammar s t behind w k f) = let m = w.alone in absurd (omega (arith, a, m))
one_fault abi total names u r q (TooLarge a) (OfWalk s t behind tree x w k g f p) = let m = w.alone in absurd (omega (arith, a, m))
one_fault abi total names u r q (TooMuch a b) (TooLarge c) = absurd (omega (arith, a, c))
one_fault abi total names u r q (TooMuch a b) (TooMuch c d) = inl refl
one_fault abi total names u r q (TooMuch a b) (OfToken s behind w i) = let m = w.together in absurd (omega (arith, b, m))
one_fault abi total names u r q (TooMuch a b) (OfGrammar s t behind w k f) = let m = w.together in absurd (omega (arith, b, m))
one_fault abi total names u r q (TooMuch a b) (OfWalk s t behind tree x w k g f p) = let m = w.together in absurd (omega (arith, b, m))
one_fault abi total names u r q (OfToken s behind w i) (TooLarge a) = let m = w.alone in absurd (omega (arith, a, m))
one_fault abi total names u r q (OfToken s behind w i) (TooMuch a b) = let m = w.together in absurd (omega (arith, b, m))
one_fault abi total names u r q (OfToken s behind w i) (OfToken s' behind' w' i') = inl (refused_one s s' behind behind' (same_answer u names (Refused s behind) (Refused s' behind') i i'))
one_fault abi total names u r q (OfToken s behind w i) (OfGrammar s' t behind' w' k f) = absurd (whole_not_refused u names behind' behind t s k (same_answer u names (Whole t.entries t.end behind') (Refused s behind) k.lexed i))
one_fault abi total names u r q (OfToken s behind w i) (OfWalk s' t behind' tree x w' k g f p) = absurd (whole_not_refused u names behind' behind t s k (same_answer u names (Whole t.entries t.end behind') (Refused s behind) k.lexed i))
one_fault abi total names u r q (OfGrammar s t behind w k f) (TooLarge a) = let m = w.alone in absurd (omega (arith, a, m))
one_fault abi total names u r q (OfGrammar s t behind w k f) (TooMuch a b) = let m = w.together in absurd (omega (arith, b, m))
one_fault abi total names u r q (OfGrammar s t behind w k f) (OfToken s' behind' w' i) = absurd (whole_not_refused u names behind behind' t s' k (same_answer u names (Whole t.entries t.end behind) (Refused s' behind') k.lexed i))
one_fault abi total names u r q (OfGrammar s t behind w k f) (OfGrammar s' t' behind' w' k' f') = inr (f.fault.fault, f'.fault.fault)
one_fault abi total names u r q (OfGrammar s t behind w k f) (OfWalk s' t' behind' tree x w' k' g h p) =
    let o = one_lexed u names t' t behind' behind k' k in
    absurd (f.fault.refuses.no_unit tree (subst (λ y. ReadsUnit (lexemes y) tree) o.tokens g))
one_fault abi total names u r q (OfWalk s t behind tree x w k g f p) (TooLarge a) = let m = w.alone in absurd (omega (arith, a, m))
one_fault abi total names u r q (OfWalk s t behind tree x w k g f p) (TooMuch a b) = let m = w.together in absurd (omega (arith, b, m))
one_fault abi total names u r q (OfWalk s t behind tree x w k g f p) (OfToken s' behind' w' i) = absurd (whole_not_refused u names behind behind' t s' k (same_answer u names (Whole t.entries t.end behind) (Refused s' behind') k.lexed i))
one_fault abi total names u r q (OfWalk s t behind tree x w k g f p) (OfGrammar s' t' behind' w' k' f') =
    let o = one_lexed u names t t' behind behind' k k' in
    absurd (f'.fault.refuses.no_unit tree (subst (λ y. ReadsUnit (lexemes y) tree) o.tokens g))
one_fault abi total names u r q (OfWalk s t behind tree x w k g f p) (OfWalk s' t' behind' tree' x' w' k' g' f' p') =
    let o = one_lexed u names t t' behind behind' k k' in
    let trees : tree ≡ tree' = one_unit (lexemes t') tree tree' (subst (λ y. ReadsUnit (lexemes y) tree) o.tokens g) g' in
    let faults : x ≡ x' = some_one x x' (sym f ∙ (ap (λ ns. first_fault ns abi tree) o.texts ∙ (ap (λ y. first_fault behind' abi y) trees ∙ f'))) in
    inl (some_one s s' (sym p ∙ (ap (λ y. refusal_at y x) o.tokens ∙ (ap (λ y. refusal_at t' y) faults ∙ p'))))

-- of units in order

heads : {A : Type 0} (a b : A) (xs ys : List A) → (a ∷ xs) ≡ (b ∷ ys) → a ≡ b
heads a b xs ys e = cc

tails : {A : Type 0} (a b : A) (xs ys : List A) → (a ∷ xs) ≡ (b ∷ ys) → xs ≡ ys
tails a b xs ys e = cc

none_more : (k : ℕ) → k + 0 ≡ k
none_more k = omega arith

three : (a b c : ℕ) → a + (b + c) ≡ (a + b) + c
three a b c = omega arith

in_order : (abi : Abi) (total : ℕ) (names : List (List ℕ)) (before behind before' behind' : List Source) (u v : Source) (rs qs : List Read) (r q : Refusal) → before ++ (u ∷ behind) ≡ before' ++ (v ∷ behind')
    → AreRead abi total names before rs → AreRead abi total names before' qs → IsUnitFault abi (total + total_of before) (names_behind names rs) u r → IsUnitFault abi (total + total_of before') (names_behind names qs) v q → One r q
in_order abi total names [] behind [] behind' u v [] [] r q e h k f g = one_fault abi (total + 0) names v r q (subst (λ x. IsUnitFault abi (total + 0) names x r) (heads u v behind behind' e) f) g
in_order abi total names [] behind [] behind' u v (x ∷ rs) qs r q e h k f g = absurd h
in_order abi total names [] behind [] behind' u v [] (x ∷ qs) r q e h k f g = absurd k
in_order abi total names [] behind (c ∷ cs) behind' u v (x ∷ rs) qs r q e h k f g = absurd h
in_order abi total names [] behind (c ∷ cs) behind' u v [] [] r q e h k f g = absurd k
in_order abi total names [] behind (c ∷ cs) behind' u v [] (y ∷ qs) r q e h k f g =
    absurd (no_fault abi total names c y r k.0 (subst (λ i. IsUnitFault abi i names c r) (none_more total) (subst (λ x. IsUnitFault abi (total + 0) names x r) (heads u c behind (cs ++ (v ∷ behind')) e) f)))
in_order abi total names (b ∷ bs) behind [] behind' u v [] qs r q e h k f g = absurd h
in_order abi total names (b ∷ bs) behind [] behind' u v (x ∷ rs) (y ∷ qs) r q e h k f g = absurd k
in_order abi total names (b ∷ bs) behind [] behind' u v (x ∷ rs) [] r q e h k f g =
    absurd (no_fault abi total names b x q h.0 (subst (λ i. IsUnitFault abi i names b q) (none_more total) (subst (λ y. IsUnitFault abi (total + 0) names y q) (sym (heads b v (bs ++ (u ∷ behind)) behind' e)) g)))
in_order abi total names (b ∷ bs) behind (c ∷ cs) behind' u v [] qs r q e h k f g = absurd h
in_order abi total names (b ∷ bs) behind (c ∷ cs) behind' u v (x ∷ rs) [] r q e h k f g = absurd k
in_order abi total names (b ∷ bs) behind (c ∷ cs) behind' u v (x ∷ rs) (y ∷ qs) r q e h k f g =
    let same : b ≡ c = heads b c (bs ++ (u ∷ behind)) (cs ++ (v ∷ behind')) e in
    let one : x ≡ y = one_read abi total total names c x y (subst (λ z. IsRead abi total names z x) same h.0) k.0 in
    in_order abi (total + length c.bytes) y.names bs behind cs behind' u v rs qs r q (tails b c (bs ++ (u ∷ behind)) (cs ++ (v ∷ behind')) e)
    (subst (λ z. AreRead abi (total + length c.bytes) z.names bs rs) one (subst (λ z. AreRead abi (total + length z.bytes) x.names bs rs) same h.1)) k.1
    (subst (λ z. IsUnitFault abi ((total + length c.bytes) + total_of bs) (names_behind z.names rs) u r) one (subst (λ z. IsUnitFault abi ((total + length z.bytes) + total_of bs) (names_behind x.names rs) u r) same (subst (λ i. IsUnitFault abi i (names_behind x.names rs) u r) (three total (length b.bytes) (total_of bs)) f)))
    (subst (λ i. IsUnitFault abi i (names_behind y.names qs) v q) (three total (length c.bytes) (total_of cs)) g)

zero_more : (k : ℕ) → k ≡ 0 + k
zero_more k = omega arith

all_read : (mode : Mode) (names : List (List ℕ)) (units before behind : List Source) (u : Source) (rs qs : List Read) (r : Refusal) → units ≡ before ++ (u ∷ behind) → AreRead mode.abi 0 names before rs
    → IsUnitFault mode.abi (total_of before) (names_behind names rs) u r → AreRead mode.abi 0 names units qs → ⊥
all_read mode names units before behind u rs qs r parts h f k =
    none_in_order mode.abi 0 names before behind u qs rs r (subst (λ us. AreRead mode.abi 0 names us qs) parts k) h (subst (λ i. IsUnitFault mode.abi i (names_behind names rs) u r) (zero_more (total_of before)) f)

not_both : {A : Type 0} (a : A) (o p : Option A) → o ≡ p → o ≡ Some a → p ≡ None → ⊥
not_both a o p e f g = cc

-- units have one first refusal, where declarations that do not go together have one
pub one_refusal : (Clash : Clashes) → ((rs : List Read) (r q : Refusal) → Clash rs r → Clash rs q → r ≡ q) → (mode : Mode) (names : List (List ℕ)) (units : List Source) (r q : Refusal)
    → FaultAt Clash mode names units r → FaultAt Clash mode names units q → One r q
one_refusal Clash single mode names units r q (InUnit s before behind u rs parts h f) (InUnit s' before' behind' v qs parts' k g) =
    in_order mode.abi 0 names before behind before' behind' u v rs qs s s' (sym parts ∙ parts') h k
    (subst (λ i. IsUnitFault mode.abi i (names_behind names rs) u s) (zero_more (total_of before)) f) (subst (λ i. IsUnitFault mode.abi i (names_behind names qs) v s') (zero_more (total_of before')) g)
one_refusal Clash single mode names units r q (InUnit s before behind u rs parts h f) (Twice places qs k e) = absurd (all_read mode names units before behind u rs qs s parts h f k)
one_refusal Clash single mode names units r q (InUnit s before behind u rs parts h f) (Apart s' qs k e c) = absurd (all_read mode names units before behind u rs qs s parts h f k)
one_refusal Clash single mode names units r q (Twice places rs h e) (InUnit s before behind u qs parts k f) = absurd (all_read mode names units before behind u qs rs s parts k f h)
one_refusal Clash single mode names units r q (Apart s rs h e c) (InUnit s' before behind u qs parts k f) = absurd (all_read mode names units before behind u qs rs s' parts k f h)
one_refusal Clash single mode names units r q (Twice places rs h e) (Twice places' qs k f) =
    inl (ap duplicate (some_one places places' (sym e ∙ (ap (first_twice mode.common) (same_reads mode.abi 0 names units rs qs h k) ∙ f))))
one_refusal Clash single mode names units r q (Twice places rs h e) (Apart s qs k f c) = absurd (not_both places (first_twice mode.common rs) (first_twice mode.common qs) (ap (first_twice mode.common) (same_reads mode.abi 0 names units rs qs h k)) e f)
one_refusal Clash single mode names units r q (Apart s rs h e c) (Twice places qs k f) = absurd (not_both places (first_twice mode.common qs) (first_twice mode.common rs) (ap (first_twice mode.common) (same_reads mode.abi 0 names units qs rs k h)) f e)
one_refusal Clash single mode names units r q (Apart s rs h e c) (Apart s' qs k f d) = inl (single qs s s' (subst (λ xs. Clash xs s) (same_reads mode.abi 0 names units rs qs h k) c) d)
