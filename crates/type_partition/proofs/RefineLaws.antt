-- Device: the steps of the functions that number things, over plain values.
use Rattle.std.proofs.Common.{◌≡◌, ℕ, zero, suc, ◌+◌, ◌-◌, ◌<◌, ◌≤◌, Bool, true, cond, List, [], ◌∷◌, ◌++◌, Option, Some, None, Result, Ok, Err, IfOk, OnOk, Bor, length, get_or, drop, slice_get, MatchOption, subst, refl, sym, ap, ◌∙◌, arith, add-one, eqb, Fits, w32}
use Rattle.std.specs.Option.{option_map}
use Rattle.std.specs.List.{list_any}
use Rattle.std.specs.Cmp.Lexicographic.{pointwise}
use Rattle.std.proofs.lemmas.List.{get_or_default}
use Rattle.type_things.proofs.HeadLaws.{both}
use Rattle.type_things.specs.declared.web.Head.{Head}
use Rattle.type_things.specs.declared.web.Label.{Label}
use Rattle.type_partition.specs.declared.refining.Key.{Key}
use Rattle.type_partition.specs.declared.refining.Key.TheVariants.{Start, Part, Alone}
use Rattle.type_partition.specs.contracts.refining.KeyPartialEq.TheImpl.{ghosts}
use Rattle.type_things.specs.Things.{Thing, read, head_of, inside_of}
use Rattle.type_things.specs.Webs.{AllBelow, things_in}
use Rattle.type_partition.specs.Rounds.{AreRead}
use Rattle.type_partition.specs.Keys.{Distinct, Grown, Chain, num_at, SignedAs, Signed, InsideBelow, AreNumbered, AreRanked}
use Rattle.type_things.specs.declared.web.Stored.{Stored}
use Rattle.std.proofs.lemmas.Bool.{eqb-true, eq-eqb}
use Rattle.type_partition.proofs.KeyEquality.{key_tells, key_same}
use Rattle.type_partition.proofs.KeyLaws.{inserted_grown, inserted_distinct, inserted_there, chain_grown, numbered_more, numbered_all, ranked_more, things_none}

pub if_ok : {T E : Type 0} {P Q : T → Type 0} (r : Result T E) → ((x : T) → P x → Q x) → IfOk r P → IfOk r Q
if_ok (Ok x) f h = f x h
if_ok (Err e) f h = h

pub on_any : {T E P : Type 0} (r : Result T E) → P → OnOk r P
on_any (Ok x) p = p
on_any (Err e) p = tt

-- a key is put among others
pub number_there : {E : Type 0} (r : Result ℕ E) (new : List Key) (k : Key) (i : ℕ) → (x : Key) × (slice_get new i ≡ Some x) × (ghosts.eq k x ≡ true) → IfOk r (λ n. n ≡ i) → IfOk r (λ n. slice_get new n ≡ Some k)
number_there r new k i h = if_ok r (λ n e. ap (slice_get new) e ∙ inserted_there ghosts.eq key_tells key_same new k i h)

pub number_grown : {T E : Type 0} (r : Result T E) (old new : List Key) (k : Key) → new ≡ cond (list_any (ghosts.eq k) old) old (old ++ k ∷ []) → OnOk r (Grown old new)
number_grown r old new k e = on_any r (inserted_grown ghosts.eq key_tells key_same old new k e)

pub number_distinct : {T E : Type 0} (r : Result T E) (old new : List Key) (k : Key) → new ≡ cond (list_any (ghosts.eq k) old) old (old ++ k ∷ []) → Distinct old → OnOk r (Distinct new)
number_distinct r old new k e d = on_any r (inserted_distinct ghosts.eq key_tells key_same old new k e d)

drop_next : {X : Type 0} (ps : List X) (i : ℕ) (d : X) → i < length ps → drop i ps ≡ get_or ps i d ∷ drop (suc i) ps
drop_next [] i d h = absurd (omega (arith, h))
drop_next (p ∷ ps) zero d h = refl
drop_next (p ∷ ps) (suc i) d h = drop_next ps i d (omega (arith, h))

drop_over : {X : Type 0} (ps : List X) (n : ℕ) → length ps ≤ n → drop n ps ≡ []
drop_over [] zero h = refl
drop_over [] (suc n) h = refl
drop_over (p ∷ ps) zero h = absurd (omega (arith, h))
drop_over (p ∷ ps) (suc n) h = drop_over ps n (omega (arith, h))

-- the part before the last ones
drop_back : {X : Type 0} (ps : List X) (k : ℕ) (d : X) → k < length ps → drop (length ps - (k + 1)) ps ≡ get_or ps (length ps - 1 - k) d ∷ drop (length ps - k) ps
drop_back ps k d h =
    let at : length ps - (k + 1) ≡ length ps - 1 - k = omega (arith, h) in
    let on : suc (length ps - 1 - k) ≡ length ps - k = omega (arith, h) in
    ap (λ i. drop i ps) at ∙ drop_next ps (length ps - 1 - k) d (omega (arith, h)) ∙ ap (λ i. get_or ps (length ps - 1 - k) d ∷ drop i ps) on

pub chain_start : (ks : List Key) (h : Head) (num : ℕ → ℕ) (ps : List (Label × ℕ)) (n : ℕ) → slice_get ks n ≡ Some (Start h) → Chain ks h (read num (drop (length ps - 0) ps)) n
chain_start ks h num ps n e = subst (λ qs. Chain ks h (read num qs) n) (sym (drop_over ps (length ps - 0) (omega arith))) e

pub below_start : (k : ℕ) (ps : List (Label × ℕ)) → AllBelow k (drop (length ps - 0) ps)
below_start k ps = subst (AllBelow k) (sym (drop_over ps (length ps - 0) (omega arith))) tt

pub chain_more : (old new : List Key) (h : Head) (numbers : List ℕ) (ps : List (Label × ℕ)) (k n m v : ℕ) (d : Label × ℕ) → k < length ps → Grown old new → ((e : ℕ) → get_or numbers (get_or ps (length ps - 1 - k) d).1 e ≡ v) → slice_get new m ≡ Some (Part n (get_or ps (length ps - 1 - k) d).0 v)
    → Chain old h (read (num_at numbers) (drop (length ps - k) ps)) n → Chain new h (read (num_at numbers) (drop (length ps - (k + 1)) ps)) m
chain_more old new h numbers ps k n m v d lt g at there c =
    let p : Label × ℕ = get_or ps (length ps - 1 - k) d in
    subst (λ qs. Chain new h (read (num_at numbers) qs) m) (sym (drop_back ps k d lt))
    (n, chain_grown old new h (read (num_at numbers) (drop (length ps - k) ps)) n g c, there ∙ ap (λ z. Some (Part n (get_or ps (length ps - 1 - k) d).0 z)) (sym (at (4294967296 + (get_or ps (length ps - 1 - k) d).1))))

pub below_next : (ps : List (Label × ℕ)) (k j : ℕ) (d : Label × ℕ) → k < length ps → (get_or ps (length ps - 1 - k) d).1 < j → AllBelow j (drop (length ps - k) ps) → AllBelow j (drop (length ps - (k + 1)) ps)
below_next ps k j d lt h a = subst (AllBelow j) (sym (drop_back ps k d lt)) (h, a)

pub grown_on : {K : Type 0} (a b c : List K) → Grown a b → Grown b c → Grown a c
grown_on a b c f g i k h = g i k (f i k h)

module _ (ts : List (Thing Head Label)) where
  pub signed_full : {E : Type 0} (r : Result ℕ E) (ks : List Key) (num : ℕ → ℕ) (x : ℕ) (h : Head) (o : Option (Bor (List (Label × ℕ)))) (ps : Bor (List (Label × ℕ))) → head_of ts x ≡ Some h → inside_of ts x ≡ option_map (λ z. z.now) o → o ≡ Some ps
      → IfOk r (λ n. Chain ks h (read num ps.now) n) → IfOk r (λ n. Signed ts ks num x n)
  signed_full r ks num x h o ps e i u = if_ok r (λ n c. subst (λ q. SignedAs ks num (head_of ts x) x q n) (sym (i ∙ ap (option_map (λ z. z.now)) u)) (h, e, c))

  pub signed_none : {E : Type 0} (r : Result ℕ E) (ks : List Key) (num : ℕ → ℕ) (x : ℕ) (o : Option (Bor (List (Label × ℕ)))) → inside_of ts x ≡ option_map (λ z. z.now) o → o ≡ None
      → IfOk r (λ n. slice_get ks n ≡ Some (Alone x)) → IfOk r (λ n. Signed ts ks num x n)
  signed_none r ks num x o i u = if_ok r (λ n c. subst (λ q. SignedAs ks num (head_of ts x) x q n) (sym (i ∙ ap (option_map (λ z. z.now)) u)) c)

  pub below_full : {T E : Type 0} (r : Result T E) (k x : ℕ) (o : Option (Bor (List (Label × ℕ)))) (ps : Bor (List (Label × ℕ))) → inside_of ts x ≡ option_map (λ z. z.now) o → o ≡ Some ps → OnOk r (AllBelow k ps.now) → OnOk r (InsideBelow ts x k)
  below_full (Ok t) k x o ps i u h = subst (λ q. MatchOption q (Unit {0}) (AllBelow k)) (sym (i ∙ ap (option_map (λ z. z.now)) u)) h
  below_full (Err e) k x o ps i u h = h

  pub below_none : {T E : Type 0} (r : Result T E) (k x : ℕ) (o : Option (Bor (List (Label × ℕ)))) → inside_of ts x ≡ option_map (λ z. z.now) o → o ≡ None → OnOk r (InsideBelow ts x k)
  below_none r k x o i u = on_any r (subst (λ q. MatchOption q (Unit {0}) (AllBelow k)) (sym (i ∙ ap (option_map (λ z. z.now)) u)) tt)

  -- a type more
  pub types_step : (m : ℕ) (old new : List Key) (classes numbers ds after : List ℕ) (k n v : ℕ) → ds ≡ numbers → AreNumbered ts m old classes numbers k → Grown old new → Distinct new → m ≤ k → Signed ts new (num_at ds) k n → InsideBelow ts k (length ds) → v ≡ m + n → after ≡ numbers ++ v ∷ []
      → AreNumbered ts m new classes after (k + 1)
  types_step m old new classes numbers ds after k n v e a g d le s b f push =
      subst (λ l. AreNumbered ts m new classes l (k + 1)) (sym push) (subst (AreNumbered ts m new classes (numbers ++ v ∷ [])) (sym (add-one k))
      (numbered_more ts m old new classes numbers k n v a g d le (subst (λ l. Signed ts new (num_at l) k n) e s) (subst (λ l. InsideBelow ts k (length l)) e b) f))

  -- an aggregate more
  pub ranks_step : (old new : List Key) (num : ℕ → ℕ) (seen after next pushed : List ℕ) (k n i : ℕ) → AreRanked ts old num seen next k → Grown old new → Distinct new → Signed ts new num k n → Grown seen after → Distinct after → slice_get after i ≡ Some n → length after ≤ length seen + 1 → pushed ≡ next ++ i ∷ []
      → AreRanked ts new num after pushed (k + 1)
  ranks_step old new num seen after next pushed k n i a g d s grown once here few push =
      subst (λ l. AreRanked ts new num after l (k + 1)) (sym push) (subst (AreRanked ts new num after (next ++ i ∷ [])) (sym (add-one k))
      (ranked_more ts old new num seen after next k n i a g d s grown once here (omega (arith, few, a.few))))

pub rank_distinct : {T E : Type 0} (r : Result T E) (old new : List ℕ) (k : ℕ) → new ≡ cond (list_any (eqb k) old) old (old ++ k ∷ []) → Distinct old → OnOk r (Distinct new)
rank_distinct r old new k e d = on_any r (inserted_distinct eqb (λ a b h. eqb-true a b h) (λ a. eq-eqb a a refl) old new k e d)

things_length : (ps : List (Label × ℕ)) (ss : List Stored) → length (things_in ps ss) ≡ length ss
things_length ps [] = refl
things_length ps (s ∷ ss) = ap suc (things_length ps ss)

pub none_past : (ps : List (Label × ℕ)) (ss : List Stored) (x : ℕ) → length ss ≤ x → inside_of (things_in ps ss) x ≡ None
none_past ps ss x h = things_none (things_in ps ss) x (omega (arith, h, things_length ps ss))

pub chain_end : (ks : List Key) (h : Head) (num : ℕ → ℕ) (ps : List (Label × ℕ)) (k n : ℕ) → length ps ≤ k → Chain ks h (read num (drop (length ps - k) ps)) n → Chain ks h (read num ps) n
chain_end ks h num ps k n le c = (let z : length ps - k ≡ 0 = omega (arith, le) in subst (λ i. Chain ks h (read num (drop i ps)) n) z c)

pub ranks_end : (ts : List (Thing Head Label)) (ks : List Key) (num : ℕ → ℕ) (seen next : List ℕ) (k m : ℕ) → m ≤ k → k ≤ m → AreRanked ts ks num seen next k → AreRanked ts ks num seen next m
ranks_end ts ks num seen next k m a b = subst (AreRanked ts ks num seen next) (omega (arith, a, b))

-- numbers of a list are less than those that are read beyond it
pub fits_here : (xs : List ℕ) → ((i : ℕ) → Fits w32 (get_or xs i 0)) → (x : ℕ) → x < length xs → num_at xs x < 4294967296
fits_here xs h x lt = (let f = h x in let e = get_or_default xs x (4294967296 + x) 0 lt in omega (arith, f, e))

pub same_numbers : (xs ys : List ℕ) → pointwise eqb xs ys ≡ true → xs ≡ ys
same_numbers [] [] e = refl
same_numbers [] (y ∷ ys) e = cc
same_numbers (x ∷ xs) [] e = cc
same_numbers (x ∷ xs) (y ∷ ys) e = (let h = both (eqb x y) (pointwise eqb xs ys) e in ap (λ k. k ∷ xs) (eqb-true x y h.0) ∙ ap (λ k. y ∷ k) (same_numbers xs ys h.1))

module _ (ts : List (Thing Head Label)) (m : ℕ) where
  pub read_round : (ks : List Key) (classes cs numbers ns : List ℕ) (k : ℕ) → cs ≡ classes → ns ≡ numbers → AreNumbered ts m ks cs numbers k → ((x : ℕ) → x < m → num_at classes x < m) → length numbers ≡ k → ((x : ℕ) → x < length ns → num_at ns x < 4294967296) → ((x : ℕ) → k ≤ x → inside_of ts x ≡ None) → AreRead ts m (num_at classes) (num_at numbers)
  read_round ks classes cs numbers ns k ec en a few count fits none =
      numbered_all ts m ks classes numbers k (subst (λ l. AreNumbered ts m ks l numbers k) ec a) few
      (λ x h. subst (λ l. num_at l x < 4294967296) en (fits x (subst (λ l. x < length l) (sym en) (subst (λ j. x < j) (sym count) h)))) none

pub same_read : (xs ys cs ds : List ℕ) (r : Bool) → cs ≡ xs → ds ≡ ys → r ≡ pointwise eqb cs ds → r ≡ true → xs ≡ ys
same_read xs ys cs ds r ea eb e f = sym ea ∙ same_numbers cs ds (sym e ∙ f) ∙ eb
