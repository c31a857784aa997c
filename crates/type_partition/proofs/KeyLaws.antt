-- Device: two things have one key exactly where they are alike with parts of the same numbers.
use Rattle.std.proofs.Common.{◌≡◌, ◌⊎◌, inl, inr, ℕ, zero, suc, ◌+◌, ◌<◌, ◌≤◌, Bool, true, false, ◌||◌, cond, List, [], ◌∷◌, ◌++◌, Option, Some, None, length, get_or, slice_get, MatchOption, subst, refl, sym, ap, ◌∙◌, arith, true≢false}
use Rattle.std.specs.List.{list_any}
use Rattle.type_graph.proofs.Lists.{get_stays, get_push}
use Rattle.type_things.specs.declared.web.Head.{Head}
use Rattle.type_things.specs.declared.web.Label.{Label}
use Rattle.type_partition.specs.declared.refining.Key.{Key}
use Rattle.type_partition.specs.declared.refining.Key.TheVariants.{Start, Part, Alone}
use Rattle.type_things.specs.Things.{Thing, read, head_of, inside_of}
use Rattle.type_partition.specs.Partition.{Twins}
use Rattle.type_things.specs.Webs.{AllBelow}
use Rattle.type_partition.specs.Rounds.{AreRead, AreSplit}
use Rattle.type_partition.specs.Keys.{Distinct, Grown, Chain, num_at, SignedAs, Signed, InsideBelow, IsNumbered, AreNumbered, IsRanked, AreRanked}
use Rattle.type_things.proofs.NumberLaws.{same_or_not, beyond, less_or}
use Rattle.type_things.proofs.WebLaws.{push_left, push_at, push_length}

module _ {K : Type 0} (eq : K → K → Bool) (tells : (a b : K) → eq a b ≡ true → a ≡ b) (same : (a : K) → eq a a ≡ true) where
  any_at : (ks : List K) (k : K) (i : ℕ) → slice_get ks i ≡ Some k → list_any (eq k) ks ≡ true
  any_at [] k i e = cc
  any_at (x ∷ ks) k zero e = let h : x ≡ k = cc in ap (λ z. eq k z || list_any (eq k) ks) h ∙ ap (λ b. b || list_any (eq k) ks) (same k)
  any_at (x ∷ ks) k (suc i) e = by (eq k x) (any_at ks k i e)
    where
      by : (b : Bool) → list_any (eq k) ks ≡ true → (b || list_any (eq k) ks) ≡ true
      by true h = refl
      by false h = h

  pub inserted_grown : (old new : List K) (k : K) → new ≡ cond (list_any (eq k) old) old (old ++ k ∷ []) → Grown old new
  inserted_grown old new k e i x h = by (list_any (eq k) old) e
    where
      by : (b : Bool) → new ≡ cond b old (old ++ k ∷ []) → slice_get new i ≡ Some x
      by true f = ap (λ l. slice_get l i) f ∙ h
      by false f = ap (λ l. slice_get l i) f ∙ get_stays old (k ∷ []) i x h

  pub inserted_distinct : (old new : List K) (k : K) → new ≡ cond (list_any (eq k) old) old (old ++ k ∷ []) → Distinct old → Distinct new
  inserted_distinct old new k e d = by (list_any (eq k) old) refl e
    where
      pushed : list_any (eq k) old ≡ false → Distinct (old ++ k ∷ [])
      pushed none i j x hi hj = elim (get_push old k i x hi) [
        | inl a ↦ elim (get_push old k j x hj) [
          | inl b ↦ d i j x a b
          | inr b ↦ absurd (true≢false (sym (any_at old k i (a ∙ ap Some (sym b.1))) ∙ none))
        ]
        | inr a ↦ elim (get_push old k j x hj) [
          | inl b ↦ absurd (true≢false (sym (any_at old k j (b ∙ ap Some (sym a.1))) ∙ none))
          | inr b ↦ a.0 ∙ sym b.0
        ]
      ]

      by : (b : Bool) → list_any (eq k) old ≡ b → new ≡ cond b old (old ++ k ∷ []) → Distinct new
      by true q f = subst Distinct (sym f) d
      by false q f = subst Distinct (sym f) (pushed q)

  pub inserted_there : (new : List K) (k : K) (i : ℕ) → (x : K) × (slice_get new i ≡ Some x) × (eq k x ≡ true) → slice_get new i ≡ Some k
  inserted_there new k i h = h.1 ∙ ap Some (sym (tells k h.0 h.2))

get_one : {K : Type 0} (ks : List K) (i : ℕ) (x y : K) → slice_get ks i ≡ Some x → slice_get ks i ≡ Some y → x ≡ y
get_one ks i x y e f = let g : Some x ≡ Some y = sym e ∙ f in cc

pub chain_grown : (old new : List Key) (h : Head) (ps : List (Label × ℕ)) (n : ℕ) → Grown old new → Chain old h ps n → Chain new h ps n
chain_grown old new h [] n g c = g n (Start h) c
chain_grown old new h (p ∷ ps) n g c = (c.0, chain_grown old new h ps c.0 g c.1, g n (Part c.0 p.0 p.1) c.2)

-- one head with parts has one key
chain_one : (ks : List Key) (h : Head) (ps : List (Label × ℕ)) (m n : ℕ) → Distinct ks → Chain ks h ps m → Chain ks h ps n → m ≡ n
chain_one ks h [] m n d a b = d m n (Start h) a b
chain_one ks h (p ∷ ps) m n d a b =
    let before : a.0 ≡ b.0 = chain_one ks h ps a.0 b.0 d a.1 b.1 in
    d m n (Part a.0 p.0 p.1) a.2 (b.2 ∙ ap (λ k. Some (Part k p.0 p.1)) (sym before))

-- a key stands for one head with parts
chain_tells : (ks : List Key) (h k : Head) (ps qs : List (Label × ℕ)) (n : ℕ) → Chain ks h ps n → Chain ks k qs n → (h ≡ k) × (ps ≡ qs)
chain_tells ks h k [] [] n a b = (let e : Start h ≡ Start k = get_one ks n (Start h) (Start k) a b in (let f : h ≡ k = cc in (f, refl)))
chain_tells ks h k [] (q ∷ qs) n a b = (let e : Start h ≡ Part b.0 q.0 q.1 = get_one ks n (Start h) (Part b.0 q.0 q.1) a b.2 in (let bad : ⊥ = cc in absurd bad))
chain_tells ks h k (p ∷ ps) [] n a b = (let e : Part a.0 p.0 p.1 ≡ Start k = get_one ks n (Part a.0 p.0 p.1) (Start k) a.2 b in (let bad : ⊥ = cc in absurd bad))
chain_tells ks h k (p ∷ ps) (q ∷ qs) n a b =
    let e : Part a.0 p.0 p.1 ≡ Part b.0 q.0 q.1 = get_one ks n (Part a.0 p.0 p.1) (Part b.0 q.0 q.1) a.2 b.2 in
    let before : a.0 ≡ b.0 = cc in
    let label : p.0 ≡ q.0 = cc in
    let part : p.1 ≡ q.1 = cc in
    let rest = chain_tells ks h k ps qs a.0 a.1 (subst (Chain ks k qs) (sym before) b.1) in
    let first : p ≡ q = ap (λ l. (l, p.1)) label ∙ ap (λ z. (q.0, z)) part in
    (rest.0, ap (λ z. z ∷ ps) first ∙ ap (λ z. q ∷ z) rest.1)

chain_not_alone : (ks : List Key) (h : Head) (ps : List (Label × ℕ)) (n x : ℕ) → Chain ks h ps n → slice_get ks n ≡ Some (Alone x) → ⊥
chain_not_alone ks h [] n x a b = (let e : Start h ≡ Alone x = get_one ks n (Start h) (Alone x) a b in (let bad : ⊥ = cc in bad))
chain_not_alone ks h (p ∷ ps) n x a b = (let e : Part a.0 p.0 p.1 ≡ Alone x = get_one ks n (Part a.0 p.0 p.1) (Alone x) a.2 b in (let bad : ⊥ = cc in bad))

module _ (ts : List (Thing Head Label)) where
  pub signed_alike : (ks : List Key) (num : ℕ → ℕ) (x y n : ℕ) → Signed ts ks num x n → Signed ts ks num y n → (x ≡ y) ⊎ Twins ts num x y
  signed_alike ks num x y n = by (inside_of ts x) (inside_of ts y) refl refl
    where
      by : (o p : Option (List (Label × ℕ))) → inside_of ts x ≡ o → inside_of ts y ≡ p → SignedAs ks num (head_of ts x) x o n → SignedAs ks num (head_of ts y) y p n → (x ≡ y) ⊎ Twins ts num x y
      by None None e f a b = inl (let g : Alone x ≡ Alone y = get_one ks n (Alone x) (Alone y) a b in cc)
      by None (Some qs) e f a b = absurd (chain_not_alone ks b.0 (read num qs) n x b.2 a)
      by (Some ps) None e f a b = absurd (chain_not_alone ks a.0 (read num ps) n y a.2 b)
      by (Some ps) (Some qs) e f a b =
          let same = chain_tells ks a.0 b.0 (read num ps) (read num qs) n a.2 b.2 in
          inr (record { heads = a.1 ∙ ap Some same.0 ∙ sym b.1; left = ps; right = qs; inside_left = e; inside_right = f; parts = same.1 })

  pub signed_twins : (ks : List Key) (num : ℕ → ℕ) (x y m n : ℕ) → Distinct ks → Twins ts num x y → Signed ts ks num x m → Signed ts ks num y n → m ≡ n
  signed_twins ks num x y m n d t a b =
      let a2 : SignedAs ks num (head_of ts x) x (Some t.left) m = subst (λ o. SignedAs ks num (head_of ts x) x o m) t.inside_left a in
      let b2 : SignedAs ks num (head_of ts y) y (Some t.right) n = subst (λ o. SignedAs ks num (head_of ts y) y o n) t.inside_right b in
      let heads : Some a2.0 ≡ Some b2.0 = sym a2.1 ∙ t.heads ∙ b2.1 in
      let head : a2.0 ≡ b2.0 = cc in
      chain_one ks b2.0 (read num t.right) m n d (subst (λ ps. Chain ks b2.0 ps m) t.parts (subst (λ h. Chain ks h (read num t.left) m) head a2.2)) b2.2

  pub signed_grown : (old new : List Key) (num : ℕ → ℕ) (x n : ℕ) → Grown old new → Signed ts old num x n → Signed ts new num x n
  signed_grown old new num x n g = by (inside_of ts x)
    where
      by : (o : Option (List (Label × ℕ))) → SignedAs old num (head_of ts x) x o n → SignedAs new num (head_of ts x) x o n
      by None a = g n (Alone x) a
      by (Some ps) a = (a.0, a.1, chain_grown old new a.0 (read num ps) n g a.2)

  read_more : (numbers : List ℕ) (v : ℕ) (ps : List (Label × ℕ)) → AllBelow (length numbers) ps → read (num_at (numbers ++ v ∷ [])) ps ≡ read (num_at numbers) ps
  read_more numbers v [] h = refl
  read_more numbers v (p ∷ ps) h = ap (λ z. (p.0, z) ∷ read (num_at (numbers ++ v ∷ [])) ps) (push_left numbers p.1 v (4294967296 + p.1) h.0) ∙ ap (λ z. (p.0, num_at numbers p.1) ∷ z) (read_more numbers v ps h.1)

  below_more : (k j : ℕ) (ps : List (Label × ℕ)) → k ≤ j → AllBelow k ps → AllBelow j ps
  below_more k j [] h a = tt
  below_more k j (p ∷ ps) h a = (omega (arith, h, a.0), below_more k j ps h a.1)

  signed_more : (ks : List Key) (numbers : List ℕ) (v x n : ℕ) → InsideBelow ts x (length numbers) → Signed ts ks (num_at numbers) x n → Signed ts ks (num_at (numbers ++ v ∷ [])) x n × InsideBelow ts x (length (numbers ++ v ∷ []))
  signed_more ks numbers v x n = by (inside_of ts x)
    where
      by : (o : Option (List (Label × ℕ))) → MatchOption o (Unit {0}) (AllBelow (length numbers)) → SignedAs ks (num_at numbers) (head_of ts x) x o n → SignedAs ks (num_at (numbers ++ v ∷ [])) (head_of ts x) x o n × MatchOption o (Unit {0}) (AllBelow (length (numbers ++ v ∷ [])))
      by None b a = (a, tt)
      by (Some ps) b a = (
        (a.0, a.1, subst (λ qs. Chain ks a.0 qs n) (sym (read_more numbers v ps b)) a.2),
        below_more (length numbers) (length (numbers ++ v ∷ [])) ps (omega (arith, push_length numbers v)) b,
      )

  module _ (m : ℕ) where
    pub numbered_start : (ks : List Key) (classes : List ℕ) → Distinct ks → length classes ≡ m → AreNumbered ts m ks classes classes m
    numbered_start ks classes d h = record { distinct = d; count = h; kept = λ x q. refl; types = λ x a b. absurd (omega (arith, a, b)) }

    -- a type more
    pub numbered_more : (old new : List Key) (classes numbers : List ℕ) (k n v : ℕ) → AreNumbered ts m old classes numbers k → Grown old new → Distinct new → m ≤ k → Signed ts new (num_at numbers) k n → InsideBelow ts k (length numbers) → v ≡ m + n
        → AreNumbered ts m new classes (numbers ++ v ∷ []) (suc k)
    numbered_more old new classes numbers k n v a g d le s b e = record {
      distinct = d;
      count = push_length numbers v ∙ ap suc a.count;
      kept = λ x h. push_left numbers x v (4294967296 + x) (omega (arith, a.count, h, le)) ∙ a.kept x h;
      types = λ x lo hi. elim (same_or_not x k) [
        | inl same ↦ subst (λ z. IsNumbered ts m new (numbers ++ v ∷ []) z) (sym same) (record {
          key = n;
          number = ap (λ z. get_or (numbers ++ v ∷ []) z (4294967296 + k)) (sym a.count) ∙ push_at numbers v (4294967296 + k) ∙ e;
          signed = (signed_more new numbers v k n b s).0;
          below = (signed_more new numbers v k n b s).1;
        })
        | inr apart ↦ (
            let t = a.types x lo (omega (arith, hi, apart)) in
            let s2 = signed_more new numbers v x t.key t.below (signed_grown old new (num_at numbers) x t.key g t.signed) in
            record {
              key = t.key;
              number = push_left numbers x v (4294967296 + x) (omega (arith, a.count, hi, apart)) ∙ t.number;
              signed = s2.0;
              below = s2.1;
            })
      ];
    }

    -- the numbers of all things
    pub numbered_all : (ks : List Key) (classes numbers : List ℕ) (k : ℕ) → AreNumbered ts m ks classes numbers k → ((x : ℕ) → x < m → num_at classes x < m) → ((x : ℕ) → x < k → num_at numbers x < 4294967296) → ((x : ℕ) → k ≤ x → inside_of ts x ≡ None)
        → AreRead ts m (num_at classes) (num_at numbers)
    numbered_all ks classes numbers k a few fits none = record {
      classes = a.kept;
      apart = λ x y hx hy e. elim (less_or y k) [
        | inl b ↦ absurd (omega (arith, few x hx, a.kept x hx, (a.types y hy b).number, e))
        | inr b ↦ absurd (omega (arith, few x hx, a.kept x hx, past y b, e, hy))
      ];
      alike = λ x y hx hy e. elim (less_or x k) [
        | inl p ↦ elim (less_or y k) [
          | inl q ↦ (let s = a.types x hx p in let t = a.types y hy q in
              let same : s.key ≡ t.key = omega (arith, s.number, t.number, e) in
              signed_alike ks (num_at numbers) x y t.key (subst (Signed ts ks (num_at numbers) x) same s.signed) t.signed)
          | inr q ↦ absurd (omega (arith, fits x p, past y q, e))
        ]
        | inr p ↦ elim (less_or y k) [
          | inl q ↦ absurd (omega (arith, fits y q, past x p, e))
          | inr q ↦ inl (omega (arith, past x p, past y q, e))
        ]
      ];
      twins = λ x y hx hy t. elim (less_or x k) [
        | inl p ↦ elim (less_or y k) [
          | inl q ↦ (let s = a.types x hx p in let u = a.types y hy q in
              let same : s.key ≡ u.key = signed_twins ks (num_at numbers) x y s.key u.key a.distinct t s.signed u.signed in
              s.number ∙ ap (λ z. m + z) same ∙ sym u.number)
          | inr q ↦ (let bad : None ≡ Some t.right = sym (none y q) ∙ t.inside_right in cc)
        ]
        | inr p ↦ (let bad : None ≡ Some t.left = sym (none x p) ∙ t.inside_left in cc)
      ];
    }
      where
        past : (x : ℕ) → k ≤ x → num_at numbers x ≡ 4294967296 + x
        past x h = beyond numbers x (4294967296 + x) (omega (arith, a.count, h))

  pub ranked_start : (ks : List Key) (num : ℕ → ℕ) → Distinct ks → AreRanked ts ks num [] [] 0
  ranked_start ks num d = record { distinct = d; once = λ i j k a b. (let bad : None ≡ Some k = a in cc); count = refl; few = omega arith; ranks = λ x h. absurd (omega (arith, h)) }

  -- an aggregate more
  pub ranked_more : (old new : List Key) (num : ℕ → ℕ) (seen after next : List ℕ) (k n i : ℕ) → AreRanked ts old num seen next k → Grown old new → Distinct new → Signed ts new num k n → Grown seen after → Distinct after → slice_get after i ≡ Some n → length after ≤ suc k
      → AreRanked ts new num after (next ++ i ∷ []) (suc k)
  ranked_more old new num seen after next k n i a g d s grown once here few = record {
    distinct = d;
    once = once;
    count = push_length next i ∙ ap suc a.count;
    few = few;
    ranks = λ x h. elim (same_or_not x k) [
      | inl same ↦ subst (λ z. IsRanked ts new num after (next ++ i ∷ []) z) (sym same) (record {
        key = n;
        signed = s;
        rank = ap (slice_get after) (ap (λ z. get_or (next ++ i ∷ []) z (4294967296 + k)) (sym a.count) ∙ push_at next i (4294967296 + k)) ∙ here;
      })
      | inr apart ↦ (let r = a.ranks x (omega (arith, h, apart)) in record {
        key = r.key;
        signed = signed_grown old new num x r.key g r.signed;
        rank = ap (slice_get after) (push_left next x i (4294967296 + x) (omega (arith, a.count, h, apart))) ∙ grown (num_at next x) r.key r.rank;
      })
    ];
  }

  pub ranked_all : (ks : List Key) (num : ℕ → ℕ) (seen next : List ℕ) (m : ℕ) → AreRanked ts ks num seen next m → AreSplit ts m num (num_at next)
  ranked_all ks num seen next m a = record {
    alike = λ x y hx hy e. (
        let s = a.ranks x hx in let t = a.ranks y hy in
        let same : s.key ≡ t.key = get_one seen (num_at next y) s.key t.key (ap (slice_get seen) (sym e) ∙ s.rank) t.rank in
        signed_alike ks num x y t.key (subst (Signed ts ks num x) same s.signed) t.signed);
    twins = λ x y hx hy t. (
        let s = a.ranks x hx in let u = a.ranks y hy in
        let same : s.key ≡ u.key = signed_twins ks num x y s.key u.key a.distinct t s.signed u.signed in
        a.once (num_at next x) (num_at next y) u.key (s.rank ∙ ap Some same) u.rank);
  }

  get_below : {X : Type 0} (xs : List X) (i : ℕ) (x : X) → slice_get xs i ≡ Some x → i < length xs
  get_below [] i x e = (let bad : ⊥ = cc in absurd bad)
  get_below (y ∷ xs) zero x e = omega arith
  get_below (y ∷ xs) (suc i) x e = (let h = get_below xs i x e in omega (arith, h))

  pub ranked_few : (ks : List Key) (num : ℕ → ℕ) (seen next : List ℕ) (m : ℕ) → AreRanked ts ks num seen next m → (x : ℕ) → x < m → num_at next x < m
  ranked_few ks num seen next m a x h = (let b = get_below seen (num_at next x) (a.ranks x h).key (a.ranks x h).rank in omega (arith, b, a.few))

pub things_none : (ts : List (Thing Head Label)) (x : ℕ) → length ts ≤ x → inside_of ts x ≡ None
things_none [] x h = refl
things_none (t ∷ ts) zero h = absurd (omega (arith, h))
things_none (t ∷ ts) (suc x) h = things_none ts x (omega (arith, h))
