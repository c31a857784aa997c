-- Device: links of declarations that say the same are held together.
use Rattle.std.proofs.Common.{◌≡◌, ◌⊎◌, inl, inr, ℕ, zero, suc, ◌<◌, Bool, true, false, not, ◌&&◌, ◌||◌, List, [], ◌∷◌, ◌++◌, Option, Some, None, ◌==◌, map, length, take, slice_get, if◌then◌else◌, subst, refl, sym, ap, ◌∙◌, arith, true≢false}
use Rattle.type_things.specs.declared.web.Head.{Head}
use Rattle.type_things.specs.declared.web.Head.TheVariants.{Void, Int, Ptr, Array, Func, Agg, Tagged}
use Rattle.type_things.specs.declared.web.Label.{Label}
use Rattle.type_links.specs.declared.linking.Side.{Side}
use Rattle.type_things.specs.Things.{Thing, HoldsPairs, read, head_of, inside_of, Fits}
use Rattle.type_things.specs.Heads.{is_open, is_bounded, lacks_prototype, has_prototype, is_enum, first_in, parts_of, first_part}
use Rattle.type_links.specs.Links.{lacks_bound, one_lacks, is_enum_at, stays, stays_at, all_stay, prototype_fits, may_differ, may_differ_at, link}
use Rattle.type_things.specs.Webs.{is_type, AreWhole}
use Rattle.type_links.specs.Linking.{Holds}

-- lists

pub at_there : {X : Type 0} (xs : List X) (i : ℕ) (x : X) → slice_get xs i ≡ Some x → i < length xs
at_there [] i x e = (let bad : ⊥ = cc in absurd bad)
at_there (y ∷ xs) zero x e = omega arith
at_there (y ∷ xs) (suc i) x e = (let h = at_there xs i x e in omega (arith, h))

pub at_left : {X : Type 0} (xs ys : List X) (i : ℕ) → i < length xs → slice_get (xs ++ ys) i ≡ slice_get xs i
at_left [] ys i h = absurd (omega (arith, h))
at_left (x ∷ xs) ys zero h = refl
at_left (x ∷ xs) ys (suc i) h = at_left xs ys i (omega (arith, h))

-- what stands at a place once one more is there
pub at_push : {X : Type 0} (xs : List X) (y : X) (i : ℕ) (x : X) → slice_get (xs ++ y ∷ []) i ≡ Some x → (slice_get xs i ≡ Some x) ⊎ ((i ≡ length xs) × (x ≡ y))
at_push [] y zero x e = inr (refl, (let h : y ≡ x = cc in sym h))
at_push [] y (suc i) x e = (let bad : ⊥ = cc in absurd bad)
at_push (z ∷ xs) y zero x e = inl e
at_push (z ∷ xs) y (suc i) x e = elim (at_push xs y i x e) [ inl h ↦ inl h | inr h ↦ inr (ap suc h.0, h.1) ]

pub at_end : {X : Type 0} (xs : List X) (y : X) → slice_get (xs ++ y ∷ []) (length xs) ≡ Some y
at_end [] y = refl
at_end (x ∷ xs) y = at_end xs y

-- what stands among the first ones
pub at_take : {X : Type 0} (xs : List X) (n i : ℕ) (x : X) → slice_get (take n xs) i ≡ Some x → (i < n) × (slice_get xs i ≡ Some x)
at_take [] zero i x e = (let bad : ⊥ = cc in absurd bad)
at_take [] (suc n) i x e = (let bad : ⊥ = cc in absurd bad)
at_take (y ∷ xs) zero i x e = (let bad : ⊥ = cc in absurd bad)
at_take (y ∷ xs) (suc n) zero x e = (omega arith, e)
at_take (y ∷ xs) (suc n) (suc i) x e = (let h = at_take xs n i x e in (omega (arith, h.0), h.1))

pub take_at : {X : Type 0} (xs : List X) (n i : ℕ) (x : X) → i < n → slice_get xs i ≡ Some x → slice_get (take n xs) i ≡ Some x
take_at [] n i x h e = (let bad : ⊥ = cc in absurd bad)
take_at (y ∷ xs) zero i x h e = absurd (omega (arith, h))
take_at (y ∷ xs) (suc n) zero x h e = e
take_at (y ∷ xs) (suc n) (suc i) x h e = take_at xs n i x (omega (arith, h)) e

pub at_map : {X Y : Type 0} (f : X → Y) (xs : List X) (i : ℕ) (x : X) → slice_get xs i ≡ Some x → slice_get (map f xs) i ≡ Some (f x)
at_map f [] i x e = (let bad : ⊥ = cc in absurd bad)
at_map f (y ∷ xs) zero x e = (let h : y ≡ x = cc in ap (λ z. Some (f z)) h)
at_map f (y ∷ xs) (suc i) x e = at_map f xs i x e

pub map_at : {X Y : Type 0} (f : X → Y) (xs : List X) (i : ℕ) (y : Y) → slice_get (map f xs) i ≡ Some y → (x : X) × (slice_get xs i ≡ Some x) × (f x ≡ y)
map_at f [] i y e = (let bad : ⊥ = cc in absurd bad)
map_at f (x ∷ xs) zero y e = (x, refl, (let h : f x ≡ y = cc in h))
map_at f (x ∷ xs) (suc i) y e = map_at f xs i y e

-- pairs that are held one by one
pub held_all : {X : Type 0} (e : ℕ → ℕ) (f : X → ℕ × ℕ) (xs : List X) → ((i : ℕ) (x : X) → slice_get xs i ≡ Some x → Holds e (f x)) → HoldsPairs e (map f xs)
held_all e f [] h = tt
held_all e f (x ∷ xs) h = (h 0 x refl, held_all e f xs (λ i z q. h (suc i) z q))

pub held_at : {X : Type 0} (e : ℕ → ℕ) (f : X → ℕ × ℕ) (xs : List X) (i : ℕ) (x : X) → HoldsPairs e (map f xs) → slice_get xs i ≡ Some x → Holds e (f x)
held_at e f [] i x h q = (let bad : ⊥ = cc in absurd bad)
held_at e f (y ∷ xs) zero x h q = (let s : y ≡ x = cc in subst (λ z. Holds e (f z)) s h.0)
held_at e f (y ∷ xs) (suc i) x h q = held_at e f xs i x h.1 q

-- a link the other way round

or_turned : (a b : Bool) → a || b ≡ b || a
or_turned true true = refl
or_turned true false = refl
or_turned false true = refl
or_turned false false = refl

and_turned : (a b : Bool) → a && b ≡ b && a
and_turned true true = refl
and_turned true false = refl
and_turned false true = refl
and_turned false false = refl

lacks_turned : (h k : Head) → lacks_bound h k ≡ lacks_bound k h
lacks_turned h k =
    or_turned (is_open h && is_bounded k) (is_bounded h && is_open k)
    ∙ ap (λ z. z || (is_open h && is_bounded k)) (and_turned (is_bounded h) (is_open k))
    ∙ ap (λ z. (is_open k && is_bounded h) || z) (and_turned (is_open h) (is_bounded k))

abbrev chosen_pair : Bool → ℕ × ℕ → ℕ × ℕ → ℕ × ℕ
chosen_pair b p q = if b then p else q

module _ (ts : List (Thing Head Label)) where
  may_turned : (a b : Side) (h k : Head) → may_differ ts a b h k ≡ may_differ ts b a k h
  may_turned a b h k =
      ap (λ z. z || (one_lacks ts a.bare h k b.ty || one_lacks ts b.bare k h a.ty)) (lacks_turned h k)
      ∙ ap (λ z. lacks_bound k h || z) (or_turned (one_lacks ts a.bare h k b.ty) (one_lacks ts b.bare k h a.ty))

  may_turned_at : (a b : Side) → may_differ_at ts a b ≡ may_differ_at ts b a
  may_turned_at a b = by (head_of ts a.ty) (head_of ts b.ty)
    where
      by : (o p : Option Head) → ◌≡◌ {A = Bool} (elim o [ None ↦ false | Some h ↦ elim p [ None ↦ false | Some k ↦ may_differ ts a b h k ] ]) (elim p [ None ↦ false | Some h ↦ elim o [ None ↦ false | Some k ↦ may_differ ts b a h k ] ])
      by None None = refl
      by None (Some k) = refl
      by (Some h) None = refl
      by (Some h) (Some k) = may_turned a b h k

  pub link_turned : (e : ℕ → ℕ) (a b : Side) → Holds e (link ts a b) → Holds e (link ts b a)
  link_turned e a b h = subst (λ z. Holds e (chosen_pair z (first_part ts b.ty, first_part ts a.ty) (b.ty, a.ty))) (may_turned_at a b) (by (may_differ_at ts a b) h)
    where
      by : (c : Bool) → Holds e (chosen_pair c (first_part ts a.ty, first_part ts b.ty) (a.ty, b.ty)) → Holds e (chosen_pair c (first_part ts b.ty, first_part ts a.ty) (b.ty, a.ty))
      by true q = sym q
      by false q = sym q

  pub link_self : (e : ℕ → ℕ) (a : Side) → Holds e (link ts a a)
  link_self e a = by (may_differ_at ts a a)
    where
      by : (c : Bool) → Holds e (chosen_pair c (first_part ts a.ty, first_part ts a.ty) (a.ty, a.ty))
      by true = refl
      by false = refl

  -- types that e makes one fit alike

  none_or : {X : Type 0} (o : Option X) → (o ≡ None) ⊎ ((x : X) × (o ≡ Some x))
  none_or None = inl refl
  none_or (Some x) = inr (x, refl)

  parts_are : (x : ℕ) (ps : List (Label × ℕ)) → inside_of ts x ≡ Some ps → parts_of ts x ≡ ps
  parts_are x ps h = ap (λ (o : Option (List (Label × ℕ))). elim o [ None ↦ [] | Some qs ↦ qs ]) h

  module _ (e : ℕ → ℕ) (whole : AreWhole ts) (fits : Fits ts e) where
    parts_same : (x y : ℕ) (h : Head) → e x ≡ e y → head_of ts x ≡ Some h → is_type h ≡ true → read e (parts_of ts x) ≡ read e (parts_of ts y)
    parts_same x y h same at t =
        let a = whole x h at t in
        let b = whole y h (sym (fits x y same).heads ∙ at) t in
        ap (read e) (parts_are x a.0 a.1) ∙ (fits x y same).inside a.0 b.0 a.1 b.1 ∙ ap (read e) (sym (parts_are y b.0 b.1))

    first_same : (ps qs : List (Label × ℕ)) → read e ps ≡ read e qs → e (first_in ps) ≡ e (first_in qs)
    first_same [] [] h = refl
    first_same [] (q ∷ qs) h = (let bad : ⊥ = cc in absurd bad)
    first_same (p ∷ ps) [] h = (let bad : ⊥ = cc in absurd bad)
    first_same (p ∷ ps) (q ∷ qs) h = (let pair : ◌≡◌ {A = Label × ℕ} (p.0, e p.1) (q.0, e q.1) = cc in ap (λ z. z.1) pair)

    stays_heads : (x y : ℕ) (h : Head) → (h ≡ Agg → is_enum_at ts (first_part ts x) ≡ is_enum_at ts (first_part ts y)) → stays ts x h ≡ stays ts y h
    stays_heads x y Void f = refl
    stays_heads x y (Int k) f = refl
    stays_heads x y Ptr f = refl
    stays_heads x y (Array n) f = refl
    stays_heads x y (Func p v) f = refl
    stays_heads x y Agg f = ap not (f refl)
    stays_heads x y (Tagged k s) f = refl

    stays_same : (x y : ℕ) → e x ≡ e y → stays_at ts x ≡ stays_at ts y
    stays_same x y same = elim (none_or (head_of ts x)) [
      | inl n ↦ ap (λ (o : Option Head). elim o [ None ↦ true | Some h ↦ stays ts x h ]) n ∙ sym (ap (λ (o : Option Head). elim o [ None ↦ true | Some h ↦ stays ts y h ]) (sym (fits x y same).heads ∙ n))
      | inr m ↦
          ap (λ (o : Option Head). elim o [ None ↦ true | Some h ↦ stays ts x h ]) m.1
          ∙ stays_heads x y m.0 (λ q. enums (subst (λ h. head_of ts x ≡ Some h) q m.1))
          ∙ sym (ap (λ (o : Option Head). elim o [ None ↦ true | Some h ↦ stays ts y h ]) (sym (fits x y same).heads ∙ m.1))
    ]
      where
        enums : head_of ts x ≡ Some Agg → is_enum_at ts (first_part ts x) ≡ is_enum_at ts (first_part ts y)
        enums at = ap (λ (o : Option Head). elim o [ None ↦ false | Some h ↦ is_enum h ]) (fits (first_part ts x) (first_part ts y) (first_same (parts_of ts x) (parts_of ts y) (parts_same x y Agg same at refl))).heads

    all_same : (ps qs : List (Label × ℕ)) → read e ps ≡ read e qs → all_stay ts ps ≡ all_stay ts qs
    all_same [] [] h = refl
    all_same [] (q ∷ qs) h = (let bad : ⊥ = cc in absurd bad)
    all_same (p ∷ ps) [] h = (let bad : ⊥ = cc in absurd bad)
    all_same (p ∷ ps) (q ∷ qs) h =
        let pair : ◌≡◌ {A = Label × ℕ} (p.0, e p.1) (q.0, e q.1) = cc in
        let rest : read e ps ≡ read e qs = cc in
        ap (λ z. z && all_stay ts ps) (stays_same p.1 q.1 (ap (λ z. z.1) pair)) ∙ ap (λ z. stays_at ts q.1 && z) (all_same ps qs rest)

    long_same : (ps qs : List (Label × ℕ)) → read e ps ≡ read e qs → length ps ≡ length qs
    long_same [] [] h = refl
    long_same [] (q ∷ qs) h = (let bad : ⊥ = cc in absurd bad)
    long_same (p ∷ ps) [] h = (let bad : ⊥ = cc in absurd bad)
    long_same (p ∷ ps) (q ∷ qs) h = (let rest : read e ps ≡ read e qs = cc in ap suc (long_same ps qs rest))

    fits_same : (bare : Bool) (ps qs : List (Label × ℕ)) → read e ps ≡ read e qs → prototype_fits ts bare ps ≡ prototype_fits ts bare qs
    fits_same bare [] [] h = refl
    fits_same bare [] (q ∷ qs) h = (let bad : ⊥ = cc in absurd bad)
    fits_same bare (p ∷ ps) [] h = (let bad : ⊥ = cc in absurd bad)
    fits_same true (p ∷ ps) (q ∷ qs) h = (let rest : read e ps ≡ read e qs = cc in ap (λ n. n == 0) (long_same ps qs rest))
    fits_same false (p ∷ ps) (q ∷ qs) h = (let rest : read e ps ≡ read e qs = cc in all_same ps qs rest)

    -- a function with a prototype is a type
    by_prototype : (h : Head) (a b : Bool) → (is_type h ≡ true → a ≡ b) → has_prototype h && a ≡ has_prototype h && b
    by_prototype Void a b f = refl
    by_prototype (Int k) a b f = refl
    by_prototype Ptr a b f = refl
    by_prototype (Array n) a b f = refl
    by_prototype (Func true true) a b f = refl
    by_prototype (Func true false) a b f = f refl
    by_prototype (Func false v) a b f = refl
    by_prototype Agg a b f = refl
    by_prototype (Tagged k s) a b f = refl

    may_same : (a c b : Side) (h k : Head) → e a.ty ≡ e c.ty → a.bare ≡ c.bare → head_of ts a.ty ≡ Some h → may_differ ts a b h k ≡ may_differ ts c b h k
    may_same a c b h k same bare at =
        ap (λ z. lacks_bound h k || (one_lacks ts z h k b.ty || one_lacks ts b.bare k h a.ty)) bare
        ∙ ap (λ z. lacks_bound h k || (one_lacks ts c.bare h k b.ty || (lacks_prototype k && z))) (by_prototype h (prototype_fits ts b.bare (parts_of ts a.ty)) (prototype_fits ts b.bare (parts_of ts c.ty)) (λ t.
        fits_same b.bare (parts_of ts a.ty) (parts_of ts c.ty) (parts_same a.ty c.ty h same at t)))

    never : (z : Bool) → z && false ≡ false
    never true = refl
    never false = refl

    -- where types may differ, they are types
    by_difference : (a b : Side) (h k : Head) → may_differ ts a b h k ≡ true → is_type h ≡ true
    by_difference a b Void k q = refl
    by_difference a b (Int i) k q = refl
    by_difference a b Ptr k q = refl
    by_difference a b (Array n) k q = refl
    by_difference a b (Func p v) k q = refl
    by_difference a b Agg k q = refl
    by_difference a b (Tagged kind s) k q = absurd (true≢false (sym q ∙ never (lacks_prototype k)))

    may_same_at : (a c b : Side) (h : Head) (o : Option Head) → e a.ty ≡ e c.ty → a.bare ≡ c.bare → head_of ts a.ty ≡ Some h → ◌≡◌ {A = Bool} (elim o [ None ↦ false | Some k ↦ may_differ ts a b h k ]) (elim o [ None ↦ false | Some k ↦ may_differ ts c b h k ])
    may_same_at a c b h None same bare at = refl
    may_same_at a c b h (Some k) same bare at = may_same a c b h k same bare at

    type_at : (a b : Side) (h : Head) (o : Option Head) → ◌≡◌ {A = Bool} (elim o [ None ↦ false | Some k ↦ may_differ ts a b h k ]) true → is_type h ≡ true
    type_at a b h None q = (let bad : ⊥ = cc in absurd bad)
    type_at a b h (Some k) q = by_difference a b h k q

    pub link_same : (a c b : Side) → e a.ty ≡ e c.ty → a.bare ≡ c.bare → Holds e (link ts a b) → Holds e (link ts c b)
    link_same a c b same bare held = elim (none_or (head_of ts a.ty)) [
      | inl n ↦ (
          let p = ap (λ (o : Option Head). elim o [ None ↦ false | Some h ↦ elim (head_of ts b.ty) [ None ↦ false | Some k ↦ may_differ ts a b h k ] ]) n in
          let q = ap (λ (o : Option Head). elim o [ None ↦ false | Some h ↦ elim (head_of ts b.ty) [ None ↦ false | Some k ↦ may_differ ts c b h k ] ]) (sym (fits a.ty c.ty same).heads ∙ n) in
          subst (λ z. Holds e (chosen_pair z (first_part ts c.ty, first_part ts b.ty) (c.ty, b.ty))) (sym q)
          (sym same ∙ subst (λ z. Holds e (chosen_pair z (first_part ts a.ty, first_part ts b.ty) (a.ty, b.ty))) p held))
      | inr m ↦ (
          let p : ◌≡◌ {A = Bool} (may_differ_at ts a b) (elim (head_of ts b.ty) [ None ↦ false | Some k ↦ may_differ ts a b m.0 k ]) = ap (λ (o : Option Head). elim o [ None ↦ false | Some h ↦ elim (head_of ts b.ty) [ None ↦ false | Some k ↦ may_differ ts a b h k ] ]) m.1 in
          let q : ◌≡◌ {A = Bool} (may_differ_at ts c b) (elim (head_of ts b.ty) [ None ↦ false | Some k ↦ may_differ ts c b m.0 k ]) = ap (λ (o : Option Head). elim o [ None ↦ false | Some h ↦ elim (head_of ts b.ty) [ None ↦ false | Some k ↦ may_differ ts c b h k ] ]) (sym (fits a.ty c.ty same).heads ∙ m.1) in
          let two : may_differ_at ts a b ≡ may_differ_at ts c b = p ∙ may_same_at a c b m.0 (head_of ts b.ty) same bare m.1 ∙ sym q in
          by (may_differ_at ts a b) (may_differ_at ts c b) two (λ t. first_same (parts_of ts a.ty) (parts_of ts c.ty) (parts_same a.ty c.ty m.0 same m.1 (type_at a b m.0 (head_of ts b.ty) (sym p ∙ t)))) held)
    ]
      where
        by : (u v : Bool) → u ≡ v → (u ≡ true → e (first_part ts a.ty) ≡ e (first_part ts c.ty)) → Holds e (chosen_pair u (first_part ts a.ty, first_part ts b.ty) (a.ty, b.ty)) → Holds e (chosen_pair v (first_part ts c.ty, first_part ts b.ty) (c.ty, b.ty))
        by true true z f h = sym (f refl) ∙ h
        by false false z f h = sym same ∙ h
        by true false z f h = (let bad : ⊥ = cc in absurd bad)
        by false true z f h = (let bad : ⊥ = cc in absurd bad)
