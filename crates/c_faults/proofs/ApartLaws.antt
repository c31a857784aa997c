-- Device: of declarations that are apart one refusal is told: the first link that fails is one.
use Rattle.std.proofs.Common.{◌≡◌, refl, sym, ap, ◌∙◌, subst, ℕ, zero, suc, ◌+◌, ◌<◌, ◌≤◌, Bool, true, false, nat_lt, List, [], ◌∷◌, ◌++◌, map, take, length, slice_get, Option, Some, None, append_assoc, append-nil, arith}
use Rattle.cil_base.specs.declared.faults.Fault.{Fault}
use Rattle.cil_base.specs.declared.faults.Place.{Place}
use Rattle.cil_base.specs.declared.faults.Refusal.{Refusal}
use Rattle.cil_base.specs.declared.kinds.Mode.{Mode}
use Rattle.type_things.specs.declared.web.Head.{Head}
use Rattle.type_things.specs.declared.web.Label.{Label}
use Rattle.type_things.specs.Things.{Thing, HoldsPairs, IsClosed, read, labels, Agree, Joint, IsClash}
use Rattle.type_things.specs.Units.{things}
use Rattle.type_links.specs.declared.linking.Side.{Side}
use Rattle.type_links.specs.Links.{link, links_with, links_behind, links_of, links_before, FailsFirst}
use Rattle.type_links.proofs.LinkLaws.{at_there}
use Rattle.type_links.proofs.LinkSteps.{take_all}
use Rattle.c_faults.specs.Reading.{Source, Read}
use Rattle.c_faults.specs.Corresponding.{all_names, graphs_of, groups, sides, place_in, AreApart, IsRefusal}
use Rattle.c_faults.proofs.OneRefusal.{One, one_refusal}

-- a list begins with another one
record StartsWith {A : Type 0} (xs ys : List A) : Type 0 where
  rest : List A
  is : ys ≡ xs ++ rest

starts_more : {A : Type 0} (xs ys zs : List A) → StartsWith xs ys → StartsWith xs (ys ++ zs)
starts_more xs ys zs s = record { rest = s.rest ++ zs; is = ap (λ us. us ++ zs) s.is ∙ append_assoc xs s.rest zs }

starts_behind : {A : Type 0} (zs xs ys : List A) → StartsWith xs ys → StartsWith (zs ++ xs) (zs ++ ys)
starts_behind zs xs ys s = record { rest = s.rest; is = ap (λ us. zs ++ us) s.is ∙ sym (append_assoc zs xs s.rest) }

parted : {A : Type 0} (xs : List A) (i n : ℕ) (x : A) → i < n → slice_get xs i ≡ Some x → (rest : List A) × (take n xs ≡ take i xs ++ x ∷ rest)
parted [] i n x l e = cc
parted (y ∷ ys) i zero x l e = absurd (omega (arith, l))
parted (y ∷ ys) zero (suc n) x l e = let same : y ≡ x = cc in (take n ys, ap (λ z. z ∷ take n ys) same)
parted (y ∷ ys) (suc i) (suc n) x l e = let p = parted ys i n x (omega (arith, l)) e in (p.0, ap (λ us. y ∷ us) p.1)

mapped : {A B : Type 0} (f : A → B) (xs ys : List A) → map f (xs ++ ys) ≡ map f xs ++ map f ys
mapped f [] ys = refl
mapped f (x ∷ xs) ys = ap (λ us. f x ∷ us) (mapped f xs ys)

holds_front : (e : ℕ → ℕ) (xs ys : List (ℕ × ℕ)) → HoldsPairs e (xs ++ ys) → HoldsPairs e xs
holds_front e [] ys h = tt
holds_front e (x ∷ xs) ys h = (h.0, holds_front e xs ys h.1)

labels_read : {L : Type 0} (e : ℕ → ℕ) (ps : List (L × ℕ)) → labels (read e ps) ≡ labels ps
labels_read e [] = refl
labels_read e (p ∷ ps) = ap (λ us. p.0 ∷ us) (labels_read e ps)

some_one : {A : Type 0} (a b : A) (o : Option A) → o ≡ Some a → o ≡ Some b → a ≡ b
some_one a b o e f = cc

is_less : (m n : ℕ) → nat_lt m n ≡ true → m < n
is_less m n e = grind arith

is_most : (m n : ℕ) → nat_lt m n ≡ false → n ≤ m
is_most m n e = grind arith

same_number : (m n : ℕ) → (m < n → ⊥) → (n < m → ⊥) → m ≡ n
same_number m n f g = by (nat_lt m n) (nat_lt n m) refl refl
  where
    by : (b c : Bool) → nat_lt m n ≡ b → nat_lt n m ≡ c → m ≡ n
    by true c u v = absurd (f (is_less m n u))
    by false true u v = absurd (g (is_less n m v))
    by false false u v = omega (arith, is_most m n u, is_most n m v)

module _ (ts : List (Thing Head Label)) where
  -- links that have a joint equivalence force nothing that differs
  no_clash : (ds es : List (ℕ × ℕ)) (p : ℕ × ℕ) → StartsWith ds es → Joint ts es → IsClash ts ds p → ⊥
  no_clash ds es p s j c =
      let held : HoldsPairs j.by_class ds = holds_front j.by_class ds s.rest (subst (HoldsPairs j.by_class) s.is j.links) in
      let closed : IsClosed ts j.by_class = λ x y ps qs e h f g l. (j.fits x y e).inside ps qs f g in
      let alike = j.fits p.0 p.1 (c.forced j.by_class held closed) in
      c.differ (record { heads = alike.heads; beside = λ ps qs f g. sym (labels_read j.by_class ps) ∙ (ap labels (alike.inside ps qs f g) ∙ labels_read j.by_class qs) })

  behind_append : (cs xs : List Side) (b : Side) (ys : List Side) → links_behind ts cs (xs ++ b ∷ ys) ≡ links_behind ts cs xs ++ (links_with ts (cs ++ xs) b ++ links_behind ts ((cs ++ xs) ++ b ∷ []) ys)
  behind_append cs [] b ys = ap (λ us. links_with ts us b ++ links_behind ts (us ++ b ∷ []) ys) (sym (append-nil cs))
  behind_append cs (x ∷ xs) b ys =
      ap (λ us. links_with ts cs x ++ us) (behind_append (cs ++ x ∷ []) xs b ys)
      ∙ (ap (λ us. links_with ts cs x ++ (links_behind ts (cs ++ x ∷ []) xs ++ (links_with ts us b ++ links_behind ts (us ++ b ∷ []) ys))) (append_assoc cs (x ∷ []) xs)
      ∙ sym (append_assoc (links_with ts cs x) (links_behind ts (cs ++ x ∷ []) xs) (links_with ts (cs ++ x ∷ xs) b ++ links_behind ts ((cs ++ x ∷ xs) ++ b ∷ []) ys)))

  of_append : (gs : List (List Side)) (g : List Side) (hs : List (List Side)) → links_of ts (gs ++ g ∷ hs) ≡ links_of ts gs ++ (links_behind ts [] g ++ links_of ts hs)
  of_append [] g hs = refl
  of_append (h ∷ gs) g hs = ap (λ us. links_behind ts [] h ++ us) (of_append gs g hs) ∙ sym (append_assoc (links_behind ts [] h) (links_of ts gs) (links_behind ts [] g ++ links_of ts hs))

  -- up to a link of one declaration
  with_starts : (ss : List Side) (b a : Side) (e f : ℕ) → e < f → slice_get ss e ≡ Some a → StartsWith (links_with ts (take e ss) b ++ link ts a b ∷ []) (links_with ts (take f ss) b)
  with_starts ss b a e f l i =
      let p = parted ss e f a l i in record {
        rest = links_with ts p.0 b;
        is = ap (λ us. links_with ts us b) p.1 ∙ (mapped (λ c. link ts c b) (take e ss) (a ∷ p.0) ∙ sym (append_assoc (links_with ts (take e ss) b) (link ts a b ∷ []) (links_with ts p.0 b)));
      }

  -- up to a link of one name
  behind_starts : (ss : List Side) (b a : Side) (e l m : ℕ) → e < l → l < m → slice_get ss e ≡ Some a → slice_get ss l ≡ Some b
      → StartsWith (links_behind ts [] (take l ss) ++ (links_with ts (take e ss) b ++ link ts a b ∷ [])) (links_behind ts [] (take m ss))
  behind_starts ss b a e l m u v i j =
      let p = parted ss l m b v j in
      subst (StartsWith (links_behind ts [] (take l ss) ++ (links_with ts (take e ss) b ++ link ts a b ∷ []))) (sym (ap (links_behind ts []) p.1 ∙ behind_append [] (take l ss) b p.0))
      (starts_behind (links_behind ts [] (take l ss)) (links_with ts (take e ss) b ++ link ts a b ∷ []) (links_with ts (take l ss) b ++ links_behind ts (take l ss ++ b ∷ []) p.0)
      (starts_more (links_with ts (take e ss) b ++ link ts a b ∷ []) (links_with ts (take l ss) b) (links_behind ts (take l ss ++ b ∷ []) p.0) (with_starts ss b a e l u i)))

  -- the links up to one and with it
  abbrev up_to : List (List Side) → ℕ → List Side → ℕ → Side → ℕ → Side → List (ℕ × ℕ)
  up_to gs g ss l b e a = links_of ts (take g gs) ++ (links_behind ts [] (take l ss) ++ (links_with ts (take e ss) b ++ link ts a b ∷ []))

  up_to_is : (gs : List (List Side)) (g : ℕ) (ss : List Side) (l : ℕ) (b : Side) (e : ℕ) (a : Side) → links_before ts gs g ss l b e ++ link ts a b ∷ [] ≡ up_to gs g ss l b e a
  up_to_is gs g ss l b e a =
      append_assoc (links_of ts (take g gs)) (links_behind ts [] (take l ss) ++ links_with ts (take e ss) b) (link ts a b ∷ [])
      ∙ ap (λ us. links_of ts (take g gs) ++ us) (append_assoc (links_behind ts [] (take l ss)) (links_with ts (take e ss) b) (link ts a b ∷ []))

  -- one of some declarations of a name fails first
  record Failing (gs : List (List Side)) (g e l : ℕ) (p : ℕ × ℕ) (ss : List Side) : Type 0 where
    a : Side
    b : Side
    name : slice_get gs g ≡ Some ss
    first : slice_get ss e ≡ Some a
    second : slice_get ss l ≡ Some b
    order : e < l
    joint : Joint ts (links_before ts gs g ss l b e)
    clash : IsClash ts (up_to gs g ss l b e a) p

  failing : (gs : List (List Side)) (g e l : ℕ) (p : ℕ × ℕ) (f : FailsFirst ts gs g e l p) → Failing gs g e l p f.sides
  failing gs g e l p f = record { a = f.a; b = f.b; name = f.name; first = f.first; second = f.second; order = f.order; joint = f.joint; clash = subst (λ ds. IsClash ts ds p) (up_to_is gs g f.sides l f.b e f.a) f.clash }

  whole_name : (ss : List Side) (e l : ℕ) (a b : Side) → e < l → slice_get ss e ≡ Some a → slice_get ss l ≡ Some b
      → StartsWith (links_behind ts [] (take l ss) ++ (links_with ts (take e ss) b ++ link ts a b ∷ [])) (links_behind ts [] ss)
  whole_name ss e l a b o i j =
      subst (λ vs. StartsWith (links_behind ts [] (take l ss) ++ (links_with ts (take e ss) b ++ link ts a b ∷ [])) (links_behind ts [] vs)) (take_all ss (length ss) (omega arith))
      (behind_starts ss b a e l (length ss) o (at_there ss l b j) i j)

  less_name : (gs : List (List Side)) (g e l h d k : ℕ) (p q : ℕ × ℕ) (ss us : List Side) → g < h → Failing gs g e l p ss → Failing gs h d k q us → ⊥
  less_name gs g e l h d k p q ss us less f c =
      let r = parted gs g h ss less f.name in
      let names : StartsWith (up_to gs g ss l f.b e f.a) (links_of ts (take h gs)) =
      subst (StartsWith (up_to gs g ss l f.b e f.a)) (sym (ap (links_of ts) r.1 ∙ of_append (take g gs) ss r.0))
      (starts_behind (links_of ts (take g gs)) _ _ (starts_more _ (links_behind ts [] ss) (links_of ts r.0) (whole_name ss e l f.a f.b f.order f.first f.second))) in
      no_clash (up_to gs g ss l f.b e f.a) (links_before ts gs h us k c.b d) p (starts_more (up_to gs g ss l f.b e f.a) (links_of ts (take h gs)) (links_behind ts [] (take k us) ++ links_with ts (take d us) c.b) names) c.joint f.clash

  less_later : (gs : List (List Side)) (g e l d k : ℕ) (p q : ℕ × ℕ) (ss : List Side) → l < k → Failing gs g e l p ss → Failing gs g d k q ss → ⊥
  less_later gs g e l d k p q ss less f c =
      no_clash (up_to gs g ss l f.b e f.a) (links_before ts gs g ss k c.b d) p
      (starts_behind (links_of ts (take g gs)) _ _ (starts_more _ (links_behind ts [] (take k ss)) (links_with ts (take d ss) c.b) (behind_starts ss f.b f.a e l k f.order less f.first f.second))) c.joint f.clash

  less_earlier : (gs : List (List Side)) (g e d l : ℕ) (p q : ℕ × ℕ) (ss : List Side) → e < d → Failing gs g e l p ss → Failing gs g d l q ss → ⊥
  less_earlier gs g e d l p q ss less f c =
      let same : c.b ≡ f.b = some_one c.b f.b (slice_get ss l) c.second f.second in
      no_clash (up_to gs g ss l f.b e f.a) (links_before ts gs g ss l f.b d) p
      (starts_behind (links_of ts (take g gs)) _ _ (starts_behind (links_behind ts [] (take l ss)) _ _ (with_starts ss f.b f.a e d less f.first))) (subst (λ b. Joint ts (links_before ts gs g ss l b d)) same c.joint) f.clash

  -- links that have a joint equivalence fail nowhere
  pub none_fails : (gs : List (List Side)) (g e l : ℕ) (p : ℕ × ℕ) → Joint ts (links_of ts gs) → FailsFirst ts gs g e l p → ⊥
  none_fails gs g e l p j c =
      let f = failing gs g e l p c in
      let r = parted gs g (length gs) c.sides (at_there gs g c.sides f.name) f.name in
      no_clash (up_to gs g c.sides l f.b e f.a) (links_of ts gs) p
      (subst (λ us. StartsWith (up_to gs g c.sides l f.b e f.a) (links_of ts us)) (take_all gs (length gs) (omega arith))
      (subst (StartsWith (up_to gs g c.sides l f.b e f.a)) (sym (ap (links_of ts) r.1 ∙ of_append (take g gs) c.sides r.0))
      (starts_behind (links_of ts (take g gs)) _ _ (starts_more _ (links_behind ts [] c.sides) (links_of ts r.0) (whole_name c.sides e l f.a f.b f.order f.first f.second))))) j f.clash

  pub record SameLink (g e l h d k : ℕ) : Type 0 where
    pub name : g ≡ h
    pub earlier : e ≡ d
    pub later : l ≡ k

  same_earlier : (gs : List (List Side)) (g e l d : ℕ) (p q : ℕ × ℕ) (ss : List Side) → Failing gs g e l p ss → Failing gs g d l q ss → e ≡ d
  same_earlier gs g e l d p q ss f c = same_number e d (λ u. less_earlier gs g e d l p q ss u f c) (λ u. less_earlier gs g d e l q p ss u c f)

  same_later : (gs : List (List Side)) (g e l d k : ℕ) (p q : ℕ × ℕ) (ss : List Side) → Failing gs g e l p ss → Failing gs g d k q ss → l ≡ k
  same_later gs g e l d k p q ss f c = same_number l k (λ u. less_later gs g e l d k p q ss u f c) (λ u. less_later gs g d k e l q p ss u c f)

  same_name : (gs : List (List Side)) (g e l h d k : ℕ) (p q : ℕ × ℕ) (ss us : List Side) → Failing gs g e l p ss → Failing gs h d k q us → g ≡ h
  same_name gs g e l h d k p q ss us f c = same_number g h (λ u. less_name gs g e l h d k p q ss us u f c) (λ u. less_name gs h d k g e l q p us ss u c f)

  of_one_name : (gs : List (List Side)) (g e l d k : ℕ) (p q : ℕ × ℕ) (ss us : List Side) → Failing gs g e l p ss → Failing gs g d k q us → (e ≡ d) × (l ≡ k)
  of_one_name gs g e l d k p q ss us f c =
      let c' : Failing gs g d k q ss = subst (Failing gs g d k q) (some_one us ss (slice_get gs g) c.name f.name) c in
      let later : l ≡ k = same_later gs g e l d k p q ss f c' in
      (same_earlier gs g e l d p q ss f (subst (λ n. Failing gs g d n q ss) (sym later) c'), later)

  pub one_link : (gs : List (List Side)) (g e l h d k : ℕ) (p q : ℕ × ℕ) → FailsFirst ts gs g e l p → FailsFirst ts gs h d k q → SameLink g e l h d k
  one_link gs g e l h d k p q f c =
      let name : g ≡ h = same_name gs g e l h d k p q f.sides c.sides (failing gs g e l p f) (failing gs h d k q c) in
      let rest = of_one_name gs g e l d k p q f.sides c.sides (failing gs g e l p f) (subst (λ n. Failing gs n d k q c.sides) (sym name) (failing gs h d k q c)) in
      record { name = name; earlier = rest.0; later = rest.1 }

refusal_is : (r q : Refusal) (x y : Place) → r.fault ≡ q.fault → r.at ≡ q.at → x ≡ y → r.other ≡ Some x → q.other ≡ Some y → r ≡ q
refusal_is r q x y a b c d e = by a b (d ∙ (ap (λ z. Some z) c ∙ sym e))
  where
    of : Fault → Place → Option Place → Refusal
    of f p o = record { fault = f; at = p; other = o }

    by : r.fault ≡ q.fault → r.at ≡ q.at → r.other ≡ q.other → r ≡ q
    by u v w = ap (λ f. of f r.at r.other) u ∙ (ap (λ p. of q.fault p r.other) v ∙ ap (λ o. of q.fault q.at o) w)

-- one refusal is told of declarations that are apart
pub apart_once : (reads : List Read) (r q : Refusal) → AreApart reads r → AreApart reads q → r ≡ q
apart_once reads r q x y =
    let s = one_link (things (all_names reads) (graphs_of reads)) (map sides (groups reads)) x.name x.earlier x.later y.name y.earlier y.later x.pair y.pair x.fails y.fails in
    let at : r.at ≡ q.at = some_one r.at q.at (place_in (groups reads) y.name y.later) (subst (λ n. place_in (groups reads) y.name n ≡ Some r.at) s.later (subst (λ n. place_in (groups reads) n x.later ≡ Some r.at) s.name x.at)) y.at in
    let other : x.other ≡ y.other = some_one x.other y.other (place_in (groups reads) y.name y.earlier) (subst (λ n. place_in (groups reads) y.name n ≡ Some x.other) s.earlier (subst (λ n. place_in (groups reads) n x.earlier ≡ Some x.other) s.name x.beside)) y.beside in
    refusal_is r q x.other y.other (x.fault ∙ sym y.fault) at other x.told y.told

-- nothing is told where all links have a joint equivalence
pub joint_together : (reads : List Read) → Joint (things (all_names reads) (graphs_of reads)) (links_of (things (all_names reads) (graphs_of reads)) (map sides (groups reads))) → (r : Refusal) → AreApart reads r → ⊥
joint_together reads j r x = none_fails (things (all_names reads) (graphs_of reads)) (map sides (groups reads)) x.name x.earlier x.later x.pair j x.fails

-- units have one first refusal
pub one_is_told : (mode : Mode) (names : List (List ℕ)) (units : List Source) (r q : Refusal) → IsRefusal mode names units r → IsRefusal mode names units q → One r q
one_is_told mode names units r q f g = one_refusal AreApart apart_once mode names units r q f g
