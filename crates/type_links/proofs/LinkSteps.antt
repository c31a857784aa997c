-- Device: the steps of the functions that join links, over plain values.
use Rattle.std.proofs.Common.{◌≡◌, inl, inr, ℕ, zero, suc, ◌+◌, ◌-◌, ◌<◌, ◌≤◌, Bool, true, false, not, ◌||◌, List, [], ◌∷◌, ◌++◌, Option, Some, None, Result, Ok, Err, IfOk, OnOk, IsTrue, MatchOption, MatchBool, map, length, take, drop, get_or, slice_get, if◌then◌else◌, subst, refl, sym, ap, ◌∙◌, append_assoc, append-nil, arith}
use mathlib.Core.Path.{fun_ext}
use Rattle.std.specs.Bool.{beq}
use Rattle.std.specs.Cmp.{booleans_Decides}
use Rattle.std.proofs.lemmas.List.{map-append}
use Rattle.type_joins.specs.declared.joining.Joining.{Joining}
use Rattle.type_links.specs.declared.linking.Side.{Side}
use Rattle.type_links.specs.declared.linking.Distinct.{Distinct}
use Rattle.type_things.specs.declared.web.Head.{Head}
use Rattle.type_things.specs.declared.web.Label.{Label}
use Rattle.type_things.specs.Things.{Thing, head_of, Joint, IsClash}
use Rattle.type_joins.specs.Forests.{root, IsForest}
use Rattle.type_joins.specs.Joined.{IsJoining}
use Rattle.type_links.specs.Links.{lacks_bound, stays, stays_at, parameters_fit, prototype_fits, one_lacks, may_differ_at, link, links_with, links_behind, links_of, FailsFirst}
use Rattle.type_things.specs.Heads.{first_part}
use Rattle.type_things.specs.Webs.{AreWhole}
use Rattle.type_links.specs.Linking.{sides_of, Says, IsKnown, IsKept, IsCounted, IsGroup, IsGroupUpTo, JoinsParty, FailsCounted, FailsWith, FailsAmong}
use Rattle.type_joins.proofs.JoinedLaws.{asks, fits_joined, holds_joined, same_roots}
use Rattle.type_links.proofs.GroupLaws.{group_starts, known_joined, known_group, counted_joined, pushed_group, failed_with}

pub on_any : {T E P : Type 0} (r : Result T E) → P → OnOk r P
on_any (Ok x) h = h
on_any (Err e) h = tt

pub get_is : {X : Type 0} (xs : List X) (i : ℕ) (d : X) → i < length xs → slice_get xs i ≡ Some (get_or xs i d)
get_is [] i d h = absurd (omega (arith, h))
get_is (x ∷ xs) zero d h = refl
get_is (x ∷ xs) (suc i) d h = get_is xs i d (omega (arith, h))

take_suc : {X : Type 0} (xs : List X) (i : ℕ) (x : X) → slice_get xs i ≡ Some x → take (suc i) xs ≡ take i xs ++ x ∷ []
take_suc [] i x e = (let bad : ⊥ = cc in absurd bad)
take_suc (y ∷ xs) zero x e = (let s : y ≡ x = cc in ap (λ z. z ∷ []) s)
take_suc (y ∷ xs) (suc i) x e = ap (λ l. y ∷ l) (take_suc xs i x e)

pub take_next : {X : Type 0} (xs : List X) (i : ℕ) (x : X) → slice_get xs i ≡ Some x → take (i + 1) xs ≡ take i xs ++ x ∷ []
take_next xs i x e = (let s : i + 1 ≡ suc i = omega arith in ap (λ n. take n xs) s ∙ take_suc xs i x e)

pub take_all : {X : Type 0} (xs : List X) (n : ℕ) → length xs ≤ n → take n xs ≡ xs
take_all [] zero h = refl
take_all [] (suc n) h = refl
take_all (x ∷ xs) zero h = absurd (omega (arith, h))
take_all (x ∷ xs) (suc n) h = ap (λ l. x ∷ l) (take_all xs n (omega (arith, h)))

pub take_length : {X : Type 0} (xs : List X) (n : ℕ) → n ≤ length xs → length (take n xs) ≡ n
take_length [] zero h = refl
take_length [] (suc n) h = absurd (omega (arith, h))
take_length (x ∷ xs) zero h = refl
take_length (x ∷ xs) (suc n) h = ap suc (take_length xs n (omega (arith, h)))

map_there : {X Y : Type 0} (f : X → Y) (xs : List X) (i : ℕ) (x : X) → slice_get xs i ≡ Some x → slice_get (map f xs) i ≡ Some (f x)
map_there f [] i x e = (let bad : ⊥ = cc in absurd bad)
map_there f (y ∷ xs) zero x e = (let s : y ≡ x = cc in ap (λ z. Some (f z)) s)
map_there f (y ∷ xs) (suc i) x e = map_there f xs i x e

pub map_length : {X Y : Type 0} (f : X → Y) (xs : List X) → length (map f xs) ≡ length xs
map_length f [] = refl
map_length f (x ∷ xs) = ap suc (map_length f xs)

-- the same is joined after another look
pub kept_self : (j : Joining) → IsForest j.forest.parents.items → IsKept j j
kept_self j f = record { forest = f; roots = λ x. refl; stand = refl; work = refl }

pub kept_then : (a b c : Joining) → IsKept a b → IsKept b c → IsKept a c
kept_then a b c f g = record { forest = g.forest; roots = λ x. g.roots x ∙ f.roots x; stand = g.stand ∙ f.stand; work = g.work ∙ f.work }

pub known_kept : (a b : Joining) (ds : List Distinct) (s : Side) → IsKept a b → IsKnown (root b.forest.parents.items) ds s → IsKnown (root a.forest.parents.items) ds s
known_kept a b ds s k h = record { place = h.place; one = h.one; there = h.there; says = (h.says.0, sym (k.roots h.one.side.ty) ∙ h.says.1 ∙ k.roots s.ty) }

known_on : (a b : Joining) (ds : List Distinct) (s : Side) → IsKept a b → IsKnown (root a.forest.parents.items) ds s → IsKnown (root b.forest.parents.items) ds s
known_on a b ds s k h = record { place = h.place; one = h.one; there = h.there; says = (h.says.0, k.roots h.one.side.ty ∙ h.says.1 ∙ sym (k.roots s.ty)) }

module _ (ts : List (Thing Head Label)) where
  -- a type that stays as it is
  pub stays_is : (x : ℕ) (h : Head) → head_of ts x ≡ Some h → stays_at ts x ≡ stays ts x h
  stays_is x h e = ap (λ (o : Option Head). elim o [ None ↦ true | Some k ↦ stays ts x k ]) e

  pub may_is : (a b : Side) (h k : Head) → head_of ts a.ty ≡ Some h → head_of ts b.ty ≡ Some k → may_differ_at ts a b ≡ (lacks_bound h k || (one_lacks ts a.bare h k b.ty || one_lacks ts b.bare k h a.ty))
  may_is a b h k e f =
      ap (λ (o : Option Head). elim o [ None ↦ false | Some i ↦ elim (head_of ts b.ty) [ None ↦ false | Some j ↦ lacks_bound i j || (one_lacks ts a.bare i j b.ty || one_lacks ts b.bare j i a.ty) ] ]) e
      ∙ ap (λ (o : Option Head). elim o [ None ↦ false | Some j ↦ lacks_bound h j || (one_lacks ts a.bare h j b.ty || one_lacks ts b.bare j h a.ty) ]) f

  pub may_first : (a b : Side) (h k : Head) (p : Bool) → head_of ts a.ty ≡ Some h → head_of ts b.ty ≡ Some k → p ≡ lacks_bound h k → p ≡ true → true ≡ may_differ_at ts a b
  may_first a b h k p e f q t = sym (may_is a b h k e f ∙ ap (λ z. z || (one_lacks ts a.bare h k b.ty || one_lacks ts b.bare k h a.ty)) (sym q ∙ t))

  pub may_second : (a b : Side) (h k : Head) (p c : Bool) → head_of ts a.ty ≡ Some h → head_of ts b.ty ≡ Some k → p ≡ lacks_bound h k → p ≡ false → c ≡ one_lacks ts a.bare h k b.ty → c ≡ true → true ≡ may_differ_at ts a b
  may_second a b h k p c e f q n r t = sym (may_is a b h k e f ∙ ap (λ z. z || (one_lacks ts a.bare h k b.ty || one_lacks ts b.bare k h a.ty)) (sym q ∙ n) ∙ ap (λ z. z || one_lacks ts b.bare k h a.ty) (sym r ∙ t))

  pub may_third : {E : Type 0} (z : Result Bool E) (a b : Side) (h k : Head) (p c : Bool) → head_of ts a.ty ≡ Some h → head_of ts b.ty ≡ Some k → p ≡ lacks_bound h k → p ≡ false → c ≡ one_lacks ts a.bare h k b.ty → c ≡ false
      → IfOk z (λ d. d ≡ one_lacks ts b.bare k h a.ty) → IfOk z (λ d. d ≡ may_differ_at ts a b)
  may_third z a b h k p c e f q n r m = subst (λ y. IfOk z (λ d. d ≡ y))
      (sym (may_is a b h k e f ∙ ap (λ z. z || (one_lacks ts a.bare h k b.ty || one_lacks ts b.bare k h a.ty)) (sym q ∙ n) ∙ ap (λ z. z || one_lacks ts b.bare k h a.ty) (sym r ∙ m)))

  -- a prototype beside a function without one
  pub fits_some : {E : Type 0} (z : Result Bool E) (bare : Bool) (ps qs : List (Label × ℕ)) → qs ≡ ps → 1 ≤ length qs → IfOk z (λ b. b ≡ parameters_fit ts bare (take (length qs - 1) (drop 1 qs))) → IfOk z (λ b. b ≡ prototype_fits ts bare ps)
  fits_some z bare ps [] e h f = absurd (omega (arith, h))
  fits_some z bare ps (q ∷ qs) e h f = subst (λ l. IfOk z (λ b. b ≡ prototype_fits ts bare l)) e (subst (λ l. IfOk z (λ b. b ≡ parameters_fit ts bare l)) (take_all qs (length (q ∷ qs) - 1) (omega arith)) f)

  pub fits_none : (bare : Bool) (ps qs : List (Label × ℕ)) → qs ≡ ps → length qs < 1 → false ≡ prototype_fits ts bare ps
  fits_none bare ps [] e h = ap (prototype_fits ts bare) e
  fits_none bare ps (q ∷ qs) e h = absurd (omega (arith, h))

  pub link_first : (a b : Side) (x y : ℕ) (p : Bool) → p ≡ may_differ_at ts a b → p ≡ true → x ≡ first_part ts a.ty → y ≡ first_part ts b.ty → ◌≡◌ {A = ℕ × ℕ} (x, y) (link ts a b)
  link_first a b x y p q t e f = ap (λ z. (z, y)) e ∙ ap (λ z. (first_part ts a.ty, z)) f ∙ sym (ap (λ (z : Bool). if z then (first_part ts a.ty, first_part ts b.ty) else (a.ty, b.ty)) (sym q ∙ t))

  pub link_whole : (a b : Side) (p : Bool) → p ≡ may_differ_at ts a b → p ≡ false → ◌≡◌ {A = ℕ × ℕ} (a.ty, b.ty) (link ts a b)
  link_whole a b p q t = sym (ap (λ (z : Bool). if z then (first_part ts a.ty, first_part ts b.ty) else (a.ty, b.ty)) (sym q ∙ t))

  -- the links of one more
  with_more : (cs : List Side) (a b : Side) → links_with ts (cs ++ a ∷ []) b ≡ links_with ts cs b ++ link ts a b ∷ []
  with_more cs a b = map-append (λ c. link ts c b) cs (a ∷ [])

  behind_more : (cs bs : List Side) (b : Side) → links_behind ts cs (bs ++ b ∷ []) ≡ links_behind ts cs bs ++ links_with ts (cs ++ bs) b
  behind_more cs [] b = append-nil (links_with ts cs b) ∙ ap (λ l. links_with ts l b) (sym (append-nil cs))
  behind_more cs (c ∷ bs) b =
      ap (λ l. links_with ts cs c ++ l) (behind_more (cs ++ c ∷ []) bs b)
      ∙ sym (append_assoc (links_with ts cs c) (links_behind ts (cs ++ c ∷ []) bs) (links_with ts ((cs ++ c ∷ []) ++ bs) b))
      ∙ ap (λ l. links_behind ts cs (c ∷ bs) ++ links_with ts l b) (append_assoc cs (c ∷ []) bs)

  of_more : (gs : List (List Side)) (g : List Side) → links_of ts (gs ++ g ∷ []) ≡ links_of ts gs ++ links_behind ts [] g
  of_more [] g = append-nil (links_behind ts [] g)
  of_more (h ∷ gs) g = ap (λ l. links_behind ts [] h ++ l) (of_more gs g) ∙ sym (append_assoc (links_behind ts [] h) (links_of ts gs) (links_behind ts [] g))

  pub link_asked : (done : List (ℕ × ℕ)) (r : ℕ → ℕ) (st : List ℕ) (p : ℕ × ℕ) (a b : Side) → p ≡ link ts a b → IsJoining ts done r st [] → IsJoining ts (done ++ link ts a b ∷ []) r st ((p.0, p.1) ∷ [])
  link_asked done r st p a b e j = subst (λ (z : ℕ × ℕ). IsJoining ts (done ++ link ts a b ∷ []) r st ((z.0, z.1) ∷ [])) (sym e) (asks ts done r st (link ts a b ∷ []) j)

  -- a link with one that counts
  counted_list : (done : List (ℕ × ℕ)) (ds : List Distinct) (i : ℕ) (d : Distinct) (b : Side) → slice_get ds i ≡ Some d → (done ++ links_with ts (sides_of (take i ds)) b) ++ link ts d.side b ∷ [] ≡ done ++ links_with ts (sides_of (take (i + 1) ds)) b
  counted_list done ds i d b at =
      append_assoc done (links_with ts (sides_of (take i ds)) b) (link ts d.side b ∷ [])
      ∙ ap (λ l. done ++ l) (sym (ap (λ l. links_with ts (sides_of l) b) (take_next ds i d at) ∙ ap (λ l. links_with ts l b) (map-append (λ (c : Distinct). c.side) (take i ds) (d ∷ [])) ∙ with_more (sides_of (take i ds)) d.side b))

  pub counted_start : (done : List (ℕ × ℕ)) (r : ℕ → ℕ) (st : List ℕ) → IsJoining ts done r st [] → IsJoining ts (done ++ []) r st []
  counted_start done r st j = subst (λ l. IsJoining ts l r st []) (sym (append-nil done)) j

  pub counted_next : (done : List (ℕ × ℕ)) (ds : List Distinct) (i : ℕ) (d : Distinct) (b : Side) (r : ℕ → ℕ) (st : List ℕ) → i < length ds
      → IsJoining ts ((done ++ links_with ts (sides_of (take i ds)) b) ++ link ts (get_or ds i d).side b ∷ []) r st [] → IsJoining ts (done ++ links_with ts (sides_of (take (i + 1) ds)) b) r st []
  counted_next done ds i d b r st h j = subst (λ l. IsJoining ts l r st []) (counted_list done ds i (get_or ds i d) b (get_is ds i d h)) j

  pub counted_fails : (done : List (ℕ × ℕ)) (ds : List Distinct) (i : ℕ) (d : Distinct) (b : Side) (r : ℕ → ℕ) (st : List ℕ) (pair : ℕ × ℕ) → i < length ds → IsJoining ts (done ++ links_with ts (sides_of (take i ds)) b) r st []
      → IsClash ts ((done ++ links_with ts (sides_of (take i ds)) b) ++ link ts (get_or ds i d).side b ∷ []) pair → FailsCounted ts done ds b (get_or ds i d).place pair
  counted_fails done ds i d b r st pair h j clash = record {
    place = i;
    one = get_or ds i d;
    there = get_is ds i d h;
    number = refl;
    joint = record { by_class = r; links = holds_joined ts (done ++ links_with ts (sides_of (take i ds)) b) r st j; fits = fits_joined ts (done ++ links_with ts (sides_of (take i ds)) b) r st j };
    clash = clash;
  }

  pub counted_end : (done : List (ℕ × ℕ)) (ds : List Distinct) (i : ℕ) (b : Side) (r : ℕ → ℕ) (st : List ℕ) → length ds ≤ i → IsJoining ts (done ++ links_with ts (sides_of (take i ds)) b) r st [] → IsJoining ts (done ++ links_with ts (sides_of ds) b) r st []
  counted_end done ds i b r st h j = subst (λ l. IsJoining ts (done ++ links_with ts (sides_of l) b) r st []) (take_all ds i h) j

  -- one more declaration
  pub kept_joining : (done work : List (ℕ × ℕ)) (a b : Joining) → IsKept a b → IsJoining ts done (root a.forest.parents.items) a.stand.items work → IsJoining ts done (root b.forest.parents.items) b.stand.items work
  kept_joining done work a b k j = subst (λ l. IsJoining ts done (root b.forest.parents.items) l work) (ap (λ v. v.items) (sym k.stand)) (same_roots ts done (root a.forest.parents.items) (root b.forest.parents.items) a.stand.items work (fun_ext (λ x. sym (k.roots x))) j)

  pub party_known : (done : List (ℕ × ℕ)) (sides : List Side) (ds : List Distinct) (s : Side) (a b : Joining) → AreWhole ts → IsGroup ts done sides ds → IsKept a b → IsKnown (root a.forest.parents.items) ds s → IsJoining ts done (root a.forest.parents.items) a.stand.items []
      → JoinsParty ts done sides s (root b.forest.parents.items) b.stand.items ds
  party_known done sides ds s a b w g k known j =
      let at = known_on a b ds s k known in
      let on = known_joined ts w done sides ds g s (root b.forest.parents.items) b.stand.items (kept_joining done [] a b k j) at in
      (on, known_group ts w done sides ds g s (root b.forest.parents.items) b.stand.items (links_with ts sides s) on at)

  pub party_counted : (done : List (ℕ × ℕ)) (sides : List Side) (ds after : List Distinct) (d : Distinct) (a b : Joining) → AreWhole ts → IsGroup ts done sides ds → d.place ≡ length sides → IsKept a b → IsCounted (root a.forest.parents.items) ds d after
      → IsJoining ts (done ++ links_with ts (sides_of ds) d.side) (root a.forest.parents.items) a.stand.items [] → JoinsParty ts done sides d.side (root b.forest.parents.items) b.stand.items after
  party_counted done sides ds after d a b w g place k counted j =
      let on = counted_joined ts w done sides ds g d.side (root b.forest.parents.items) b.stand.items (kept_joining (done ++ links_with ts (sides_of ds) d.side) [] a b k j) in (
        on,
        elim counted [
          | inl h ↦ subst (IsGroup ts (done ++ links_with ts sides d.side) (sides ++ d.side ∷ [])) (sym h.1) (known_group ts w done sides ds g d.side (root b.forest.parents.items) b.stand.items (links_with ts sides d.side) on (known_on a b ds d.side k h.0))
          | inr h ↦ subst (IsGroup ts (done ++ links_with ts sides d.side) (sides ++ d.side ∷ [])) (sym h) (pushed_group ts w done sides ds g d.side d refl place)
        ],
      )

  pub party_failed : (done : List (ℕ × ℕ)) (sides : List Side) (ds : List Distinct) (s : Side) (earlier : ℕ) (pair : ℕ × ℕ) → AreWhole ts → IsGroup ts done sides ds → FailsCounted ts done ds s earlier pair → FailsWith ts done sides s earlier pair
  party_failed done sides ds s earlier pair w g f = failed_with ts w done sides ds g s earlier pair f

  -- one more of the declarations of a name
  module _ {P : Type 0} (f : P → Side) (done : List (ℕ × ℕ)) (ps : List P) where
    pub group_start : (r : ℕ → ℕ) (st : List ℕ) (ds : List Distinct) → ds ≡ [] → IsJoining ts done r st [] → IsGroupUpTo ts f done ps 0 r st ds
    group_start r st ds e j = (counted_start done r st j, subst (IsGroup ts (done ++ []) []) (sym e) (group_starts ts (done ++ [])))

    pub group_place : (n : ℕ) → n < length ps → n ≡ length (take n (map f ps))
    group_place n h = sym (take_length (map f ps) n (let l = map_length f ps in omega (arith, h, l)))

    pub group_next : (n : ℕ) (d : P) (b : Side) (r : ℕ → ℕ) (st : List ℕ) (ds : List Distinct) → n < length ps → b ≡ f (get_or ps n d) → JoinsParty ts (done ++ links_behind ts [] (take n (map f ps))) (take n (map f ps)) b r st ds → IsGroupUpTo ts f done ps (n + 1) r st ds
    group_next n d b r st ds h e j =
        let at : slice_get (map f ps) n ≡ Some b = map_there f ps n (get_or ps n d) (get_is ps n d h) ∙ ap Some (sym e) in
        let more : take (n + 1) (map f ps) ≡ take n (map f ps) ++ b ∷ [] = take_next (map f ps) n b at in
        let links : (done ++ links_behind ts [] (take n (map f ps))) ++ links_with ts (take n (map f ps)) b ≡ done ++ links_behind ts [] (take (n + 1) (map f ps)) =
        append_assoc done (links_behind ts [] (take n (map f ps))) (links_with ts (take n (map f ps)) b)
        ∙ ap (λ l. done ++ l) (sym (behind_more [] (take n (map f ps)) b) ∙ ap (links_behind ts []) (sym more)) in (
          subst (λ l. IsJoining ts l r st []) links j.0,
          subst (λ l. IsGroup ts l (take (n + 1) (map f ps)) ds) links (subst (λ l. IsGroup ts ((done ++ links_behind ts [] (take n (map f ps))) ++ links_with ts (take n (map f ps)) b) l ds) (sym more) j.1),
        )

    pub group_fails : (n : ℕ) (d : P) (b : Side) (earlier : ℕ) (pair : ℕ × ℕ) → n < length ps → b ≡ f (get_or ps n d) → FailsWith ts (done ++ links_behind ts [] (take n (map f ps))) (take n (map f ps)) b earlier pair → FailsAmong ts done (map f ps) earlier n pair
    group_fails n d b earlier pair h e g =
        let before = taken (map f ps) n earlier g.a g.there in
        let less : n ≤ length (map f ps) = (let l = map_length f ps in omega (arith, h, l)) in
        let within : take earlier (take n (map f ps)) ≡ take earlier (map f ps) = take_take (map f ps) earlier n before.0 in
        let links : (done ++ links_behind ts [] (take n (map f ps))) ++ links_with ts (take earlier (take n (map f ps))) b ≡ done ++ (links_behind ts [] (take n (map f ps)) ++ links_with ts (take earlier (map f ps)) b) =
        append_assoc done (links_behind ts [] (take n (map f ps))) (links_with ts (take earlier (take n (map f ps))) b) ∙ ap (λ l. done ++ (links_behind ts [] (take n (map f ps)) ++ links_with ts l b)) within in
        record {
          a = g.a;
          b = b;
          first = before.1;
          second = map_there f ps n (get_or ps n d) (get_is ps n d h) ∙ ap Some (sym e);
          order = before.0;
          joint = subst (Joint ts) links g.joint;
          clash = subst (λ l. IsClash ts (l ++ link ts g.a b ∷ []) pair) links g.clash;
        }
      where
        taken : (xs : List Side) (n i : ℕ) (x : Side) → slice_get (take n xs) i ≡ Some x → (i < n) × (slice_get xs i ≡ Some x)
        taken [] zero i x q = (let bad : ⊥ = cc in absurd bad)
        taken [] (suc n) i x q = (let bad : ⊥ = cc in absurd bad)
        taken (y ∷ xs) zero i x q = (let bad : ⊥ = cc in absurd bad)
        taken (y ∷ xs) (suc n) zero x q = (omega arith, q)
        taken (y ∷ xs) (suc n) (suc i) x q = (let t = taken xs n i x q in (omega (arith, t.0), t.1))

        take_take : (xs : List Side) (i n : ℕ) → i < n → take i (take n xs) ≡ take i xs
        take_take [] zero n l = refl
        take_take [] (suc i) zero l = absurd (omega (arith, l))
        take_take [] (suc i) (suc n) l = refl
        take_take (y ∷ xs) zero n l = by n
          where
            by : (m : ℕ) → take 0 (take m (y ∷ xs)) ≡ []
            by zero = refl
            by (suc m) = refl
        take_take (y ∷ xs) (suc i) zero l = absurd (omega (arith, l))
        take_take (y ∷ xs) (suc i) (suc n) l = ap (λ k. y ∷ k) (take_take xs i n (omega (arith, l)))

    pub group_end : (n : ℕ) (r : ℕ → ℕ) (st : List ℕ) (ds : List Distinct) → length ps ≤ n → IsGroupUpTo ts f done ps n r st ds → IsJoining ts (done ++ links_behind ts [] (map f ps)) r st []
    group_end n r st ds h j = subst (λ l. IsJoining ts (done ++ links_behind ts [] l) r st []) (take_all (map f ps) n (let l = map_length f ps in omega (arith, h, l))) j.0

  -- one more name
  module _ {G : Type 0} (f : G → List Side) (gs : List G) where
    pub name_next : (n : ℕ) (d : G) (r : ℕ → ℕ) (st : List ℕ) → n < length gs → IsJoining ts (links_of ts (take n (map f gs)) ++ links_behind ts [] (f (get_or gs n d))) r st [] → IsJoining ts (links_of ts (take (n + 1) (map f gs))) r st []
    name_next n d r st h j = subst (λ l. IsJoining ts l r st [])
        (sym (ap (links_of ts) (take_next (map f gs) n (f (get_or gs n d)) (map_there f gs n (get_or gs n d) (get_is gs n d h))) ∙ of_more (take n (map f gs)) (f (get_or gs n d)))) j

    pub name_fails : (n : ℕ) (d : G) (earlier later : ℕ) (pair : ℕ × ℕ) → n < length gs → FailsAmong ts (links_of ts (take n (map f gs))) (f (get_or gs n d)) earlier later pair → FailsFirst ts (map f gs) n earlier later pair
    name_fails n d earlier later pair h g = record {
      sides = f (get_or gs n d);
      a = g.a;
      b = g.b;
      name = map_there f gs n (get_or gs n d) (get_is gs n d h);
      first = g.first;
      second = g.second;
      order = g.order;
      joint = g.joint;
      clash = g.clash;
    }

    pub name_fails_at : (n : ℕ) (d : G) (group earlier later : ℕ) (pair : ℕ × ℕ) → n < length gs → (group ≡ n) × FailsAmong ts (links_of ts (take n (map f gs))) (f (get_or gs n d)) earlier later pair → FailsFirst ts (map f gs) group earlier later pair
    name_fails_at n d group earlier later pair h g = subst (λ k. FailsFirst ts (map f gs) k earlier later pair) (sym g.0) (name_fails n d earlier later pair h g.1)

    pub name_end : (n : ℕ) (r : ℕ → ℕ) (st : List ℕ) → length gs ≤ n → IsJoining ts (links_of ts (take n (map f gs))) r st [] → IsJoining ts (links_of ts (map f gs)) r st []
    name_end n r st h j = subst (λ l. IsJoining ts (links_of ts l) r st []) (take_all (map f gs) n (let l = map_length f gs in omega (arith, h, l))) j

-- what a test tells

pub empty_of : {X : Type 0} (work : List (ℕ × ℕ)) (o : Option X) → o ≡ None → MatchOption o (work ≡ []) (λ _. Unit {0}) → work ≡ []
empty_of work None e h = h
empty_of work (Some x) e h = cc

pub kept_empty : (a b : Joining) → IsKept a b → a.work.items ≡ [] → b.work.items ≡ []
kept_empty a b k e = ap (λ v. v.items) k.work ∙ e

pub known_here : (a b : Joining) (ds : List Distinct) (i : ℕ) (d : Distinct) (s : Side) → i < length ds → IsKept a b → Says (root b.forest.parents.items) (get_or ds i d).side s → IsKnown (root a.forest.parents.items) ds s
known_here a b ds i d s h k says = known_kept a b ds s k (record { place = i; one = get_or ds i d; there = get_is ds i d h; says = says })

not_not : (c : Bool) → not c ≡ false → c ≡ true
not_not true e = refl
not_not false e = cc

pub says_same : {E : Type 0} (ps : List ℕ) (z : Result Bool E) (a b : Side) → not (beq a.bare b.bare) ≡ false → IfOk z (λ c. MatchBool c (root ps a.ty ≡ root ps b.ty) (¬ (root ps a.ty ≡ root ps b.ty))) → IfOk z (λ c. IsTrue c → Says (root ps) a b)
says_same ps (Ok true) a b e h = λ t. ((booleans_Decides a.bare b.bare).0 (not_not (beq a.bare b.bare) e), h)
says_same ps (Ok false) a b e h = λ t. (let bad : ⊥ = cc in absurd bad)
says_same ps (Err x) a b e h = h
