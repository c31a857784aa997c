-- Device: where paths stand in order, and each agrees with the next at unions, all agree.
use Rattle.std.proofs.Common.{◌≡◌, ℕ, zero, suc, ◌+◌, ◌<◌, ◌≤◌, Bool, true, false, ◌&&◌, not, nat_eq, nat_lt, cond, List, [], ◌∷◌, length, drop, map, get_or, refl, sym, ap, ◌∙◌, subst, arith, eqb-true, eq-eqb}
use borrow.Author.Tests.{ltb-true}
use Rattle.type_graph.specs.Shapes.{Shape}
use Rattle.type_graph.specs.Arena.{Graph}
use Rattle.cil_tree.specs.declared.globals.ImageItem.{ImageItem}
use Rattle.cil_tree.specs.Tree.{Step, ToField, ToIndex, Item}
use Rattle.cil_tree.specs.View.{item_of}
use Rattle.cil_tree.specs.Globals.{agree, is_union, next_type, next_element, unions_agree}
use Rattle.cil_check.specs.Paths.{before, agrees_with, adjacent_agree, in_order}

both : (p q : Bool) → p && q ≡ true → (p ≡ true) × (q ≡ true)
both true q e = (refl, e)
both false q e = cc

joined : (p q : Bool) → p ≡ true → q ≡ true → p && q ≡ true
joined p q e f = ap (λ b. b && q) e ∙ f

-- the first path agrees with the last, and stands before it
Through : Graph → Shape → List Step → List Step → Type 0
Through g s xs zs = (agree g s xs zs ≡ true) × (before xs zs ≡ true)

less : (m n : ℕ) → nat_lt m n ≡ true → m < n
less m n e = ltb-true m n e

not_equal : (m n : ℕ) → m < n → nat_eq m n ≡ false
not_equal m n h = grind arith

is_less : (m n : ℕ) → m < n → nat_lt m n ≡ true
is_less m n h = grind arith

-- steps that differ, at which unions do not part
parted : (g : Graph) (s : Shape) (m k : ℕ) (xs zs : List Step) → m < k → not (is_union g s) ≡ true → Through g s (ToField m ∷ xs) (ToField k ∷ zs)
unfolding Through
parted g s m k xs zs h u =
    let differ : nat_eq m k ≡ false = not_equal m k h in
    (ap (λ b. cond b (agree g (next_type g s m) xs zs) (not (is_union g s))) differ ∙ u, ap (λ b. cond b (before xs zs) (nat_lt m k)) differ ∙ is_less m k h)

parted_elements : (g : Graph) (s : Shape) (m k : ℕ) (xs zs : List Step) → m < k → Through g s (ToIndex m ∷ xs) (ToIndex k ∷ zs)
unfolding Through
parted_elements g s m k xs zs h =
    let differ : nat_eq m k ≡ false = not_equal m k h in
    (ap (λ b. cond b (agree g (next_element s) xs zs) true) differ, ap (λ b. cond b (before xs zs) (nat_lt m k)) differ ∙ is_less m k h)

same_fields : (g : Graph) (s : Shape) (m k : ℕ) (xs zs : List Step) → nat_eq m k ≡ true → Through g (next_type g s m) xs zs → Through g s (ToField m ∷ xs) (ToField k ∷ zs)
unfolding Through
same_fields g s m k xs zs e t = (ap (λ b. cond b (agree g (next_type g s m) xs zs) (not (is_union g s))) e ∙ t.0, ap (λ b. cond b (before xs zs) (nat_lt m k)) e ∙ t.1)

same_elements : (g : Graph) (s : Shape) (m k : ℕ) (xs zs : List Step) → nat_eq m k ≡ true → Through g (next_element s) xs zs → Through g s (ToIndex m ∷ xs) (ToIndex k ∷ zs)
unfolding Through
same_elements g s m k xs zs e t = (ap (λ b. cond b (agree g (next_element s) xs zs) true) e ∙ t.0, ap (λ b. cond b (before xs zs) (nat_lt m k)) e ∙ t.1)

-- of two paths through members what is known where the members are one, and where they are not
split_fields : (g : Graph) (s : Shape) (m n : ℕ) (xs ys : List Step) (b : Bool) → nat_eq m n ≡ b → Through g s (ToField m ∷ xs) (ToField n ∷ ys) → cond b (Through g (next_type g s m) xs ys) ((m < n) × (not (is_union g s) ≡ true))
unfolding Through
split_fields g s m n xs ys true e t = (sym (ap (λ b. cond b (agree g (next_type g s m) xs ys) (not (is_union g s))) e) ∙ t.0, sym (ap (λ b. cond b (before xs ys) (nat_lt m n)) e) ∙ t.1)
split_fields g s m n xs ys false e t = (less m n (sym (ap (λ b. cond b (before xs ys) (nat_lt m n)) e) ∙ t.1), sym (ap (λ b. cond b (agree g (next_type g s m) xs ys) (not (is_union g s))) e) ∙ t.0)

split_elements : (g : Graph) (s : Shape) (m n : ℕ) (xs ys : List Step) (b : Bool) → nat_eq m n ≡ b → Through g s (ToIndex m ∷ xs) (ToIndex n ∷ ys) → cond b (Through g (next_element s) xs ys) (m < n)
unfolding Through
split_elements g s m n xs ys true e t = (sym (ap (λ b. cond b (agree g (next_element s) xs ys) true) e) ∙ t.0, sym (ap (λ b. cond b (before xs ys) (nat_lt m n)) e) ∙ t.1)
split_elements g s m n xs ys false e t = less m n (sym (ap (λ b. cond b (before xs ys) (nat_lt m n)) e) ∙ t.1)

nothing_agrees : (g : Graph) (s : Shape) (zs : List Step) → Through g s [] zs
unfolding Through
nothing_agrees g s [] = (refl, refl)
nothing_agrees g s (ToField k ∷ zs) = (refl, refl)
nothing_agrees g s (ToIndex k ∷ zs) = (refl, refl)

fields_through : (g : Graph) (s : Shape) (l m n : ℕ) (xs ys zs : List Step) → ((r : Shape) → Through g r xs ys → Through g r ys zs → Through g r xs zs) → Through g s (ToField l ∷ xs) (ToField m ∷ ys) → Through g s (ToField m ∷ ys) (ToField n ∷ zs) → Through g s (ToField l ∷ xs) (ToField n ∷ zs)
fields_through g s l m n xs ys zs again t u = by (nat_eq l m) (nat_eq m n) refl refl (split_fields g s l m xs ys (nat_eq l m) refl t) (split_fields g s m n ys zs (nat_eq m n) refl u)
  where
    by : (a b : Bool) → nat_eq l m ≡ a → nat_eq m n ≡ b → cond a (Through g (next_type g s l) xs ys) ((l < m) × (not (is_union g s) ≡ true)) → cond b (Through g (next_type g s m) ys zs) ((m < n) × (not (is_union g s) ≡ true)) → Through g s (ToField l ∷ xs) (ToField n ∷ zs)
    by true true e f p q =
        let one : l ≡ m = eqb-true l m e in
        let two : m ≡ n = eqb-true m n f in
        same_fields g s l n xs zs (eq-eqb l n (one ∙ two)) (again (next_type g s l) p (subst (λ (k : ℕ). Through g (next_type g s k) ys zs) (sym one) q))
    by true false e f p q = let one : l ≡ m = eqb-true l m e in let h : m < n = q.0 in parted g s l n xs zs (omega (arith, one, h)) q.1
    by false true e f p q = let two : m ≡ n = eqb-true m n f in let h : l < m = p.0 in parted g s l n xs zs (omega (arith, two, h)) p.1
    by false false e f p q = let h : l < m = p.0 in let k : m < n = q.0 in parted g s l n xs zs (omega (arith, h, k)) p.1

elements_through : (g : Graph) (s : Shape) (l m n : ℕ) (xs ys zs : List Step) → ((r : Shape) → Through g r xs ys → Through g r ys zs → Through g r xs zs) → Through g s (ToIndex l ∷ xs) (ToIndex m ∷ ys) → Through g s (ToIndex m ∷ ys) (ToIndex n ∷ zs) → Through g s (ToIndex l ∷ xs) (ToIndex n ∷ zs)
elements_through g s l m n xs ys zs again t u = by (nat_eq l m) (nat_eq m n) refl refl (split_elements g s l m xs ys (nat_eq l m) refl t) (split_elements g s m n ys zs (nat_eq m n) refl u)
  where
    by : (a b : Bool) → nat_eq l m ≡ a → nat_eq m n ≡ b → cond a (Through g (next_element s) xs ys) (l < m) → cond b (Through g (next_element s) ys zs) (m < n) → Through g s (ToIndex l ∷ xs) (ToIndex n ∷ zs)
    by true true e f p q =
        let one : l ≡ m = eqb-true l m e in
        let two : m ≡ n = eqb-true m n f in
        same_elements g s l n xs zs (eq-eqb l n (one ∙ two)) (again (next_element s) p q)
    by true false e f p q = let one : l ≡ m = eqb-true l m e in let h : m < n = q in parted_elements g s l n xs zs (omega (arith, one, h))
    by false true e f p q = let two : m ≡ n = eqb-true m n f in let h : l < m = p in parted_elements g s l n xs zs (omega (arith, two, h))
    by false false e f p q = let h : l < m = p in let k : m < n = q in parted_elements g s l n xs zs (omega (arith, h, k))

-- agreement goes on through a path that stands between
through : (g : Graph) (s : Shape) (xs ys zs : List Step) → Through g s xs ys → Through g s ys zs → Through g s xs zs
unfolding Through
through g s [] ys zs t u = nothing_agrees g s zs
through g s (x ∷ xs) [] zs t u = cc
through g s (x ∷ xs) (y ∷ ys) [] t u = cc
through g s (ToField l ∷ xs) (ToField m ∷ ys) (ToField n ∷ zs) t u = fields_through g s l m n xs ys zs (λ r. through g r xs ys zs) t u
through g s (ToField l ∷ xs) (ToField m ∷ ys) (ToIndex n ∷ zs) t u = (refl, refl)
through g s (ToField l ∷ xs) (ToIndex m ∷ ys) (ToIndex n ∷ zs) t u = (refl, refl)
through g s (ToField l ∷ xs) (ToIndex m ∷ ys) (ToField n ∷ zs) t u = cc
through g s (ToIndex l ∷ xs) (ToField m ∷ ys) (z ∷ zs) t u = cc
through g s (ToIndex l ∷ xs) (ToIndex m ∷ ys) (ToField n ∷ zs) t u = cc
through g s (ToIndex l ∷ xs) (ToIndex m ∷ ys) (ToIndex n ∷ zs) t u = elements_through g s l m n xs ys zs (λ r. through g r xs ys zs) t u

-- the first of items in order, each of which agrees with the next, agrees with all
first_agrees : (g : Graph) (s : Shape) (x : Item) (ys : List Item) → adjacent_agree g s (x ∷ ys) ≡ true → in_order (x ∷ ys) ≡ true → (y : Item) (zs : List Item) → Through g s x.path y.path → adjacent_agree g s (y ∷ zs) ≡ true → in_order (y ∷ zs) ≡ true → agrees_with g s x zs ≡ true
unfolding Through
first_agrees g s x ys a o y [] t b p = refl
first_agrees g s x ys a o y (z ∷ zs) t b p =
    let c = both (agree g s y.path z.path) (adjacent_agree g s (z ∷ zs)) b in
    let q = both (before y.path z.path) (in_order (z ∷ zs)) p in
    let next = through g s x.path y.path z.path t (c.0, q.0) in
    joined (agree g s x.path z.path) (agrees_with g s x zs) next.0 (first_agrees g s x ys a o z zs next c.1 q.1)

pub ordered_agree : (g : Graph) (s : Shape) (xs : List Item) → adjacent_agree g s xs ≡ true → in_order xs ≡ true → unions_agree g s xs ≡ true
unfolding Through
ordered_agree g s [] a o = refl
ordered_agree g s (x ∷ []) a o = refl
ordered_agree g s (x ∷ y ∷ xs) a o =
    let b = both (agree g s x.path y.path) (adjacent_agree g s (y ∷ xs)) a in
    let p = both (before x.path y.path) (in_order (y ∷ xs)) o in
    joined (agrees_with g s x (y ∷ xs)) (unions_agree g s (y ∷ xs))
    (joined (agree g s x.path y.path) (agrees_with g s x xs) b.0 (first_agrees g s x (y ∷ xs) a o y xs (b.0, p.0) b.1 p.1))
    (ordered_agree g s (y ∷ xs) b.1 p.1)

-- where all agree each agrees with the next
all_adjacent : (g : Graph) (s : Shape) (xs : List Item) → unions_agree g s xs ≡ true → adjacent_agree g s xs ≡ true
all_adjacent g s [] e = refl
all_adjacent g s (x ∷ []) e = refl
all_adjacent g s (x ∷ y ∷ xs) e =
    let h = both (agrees_with g s x (y ∷ xs)) (unions_agree g s (y ∷ xs)) e in
    let k = both (agree g s x.path y.path) (agrees_with g s x xs) h.0 in
    joined (agree g s x.path y.path) (adjacent_agree g s (y ∷ xs)) k.0 (all_adjacent g s (y ∷ xs) h.1)

pub some_part : (g : Graph) (s : Shape) (xs : List Item) → adjacent_agree g s xs ≡ false → false ≡ unions_agree g s xs
some_part g s xs e = by (unions_agree g s xs) refl
  where
    by : (b : Bool) → unions_agree g s xs ≡ b → false ≡ b
    by false h = refl
    by true h = sym e ∙ all_adjacent g s xs h

-- from one item on that is not the last
next_agrees : (g : Graph) (s : Shape) (xs : List ImageItem) (i j : ℕ) (d e : ImageItem) → j ≡ suc i → j < length xs →
    adjacent_agree g s (map item_of (drop i xs)) ≡ agree g s (item_of (get_or xs i d)).path (item_of (get_or xs j e)).path && adjacent_agree g s (map item_of (drop j xs))
next_agrees g s [] i j d e k h = absurd (omega arith)
next_agrees g s (x ∷ []) i j d e k h = absurd (omega (arith, k))
next_agrees g s (x ∷ y ∷ xs) i zero d e k h = absurd (omega (arith, k))
next_agrees g s (x ∷ y ∷ xs) zero (suc zero) d e k h = refl
next_agrees g s (x ∷ y ∷ xs) zero (suc (suc j)) d e k h = absurd (omega (arith, k))
next_agrees g s (x ∷ y ∷ xs) (suc i) (suc j) d e k h = next_agrees g s (y ∷ xs) i j d e (omega (arith, k)) (omega arith)

pub adjacent_next : (g : Graph) (s : Shape) (xs : List ImageItem) (i : ℕ) (d e : ImageItem) → i + 1 < length xs →
    adjacent_agree g s (map item_of (drop i xs)) ≡ agree g s (item_of (get_or xs i d)).path (item_of (get_or xs (i + 1) e)).path && adjacent_agree g s (map item_of (drop (i + 1) xs))
adjacent_next g s xs i d e h = next_agrees g s xs i (i + 1) d e (omega arith) h

-- the last item has none behind it
alone : {A B : Type 0} (see : A → B) (xs : List A) (i : ℕ) → i < length xs → length xs ≤ i + 1 → (x : B) × (map see (drop i xs) ≡ x ∷ []) × (map see (drop (i + 1) xs) ≡ [])
alone see [] i h k = absurd (omega arith)
alone see (x ∷ []) zero h k = (see x, refl, refl)
alone see (x ∷ []) (suc i) h k = absurd (omega arith)
alone see (x ∷ y ∷ xs) zero h k = absurd (omega arith)
alone see (x ∷ y ∷ xs) (suc i) h k =
    let a = alone see (y ∷ xs) i (omega arith) (omega arith) in
    let next : suc (i + 1) ≡ suc i + 1 = omega arith in
    (a.0, a.1, subst (λ (n : ℕ). map see (drop n (x ∷ y ∷ xs)) ≡ []) next a.2)

pub adjacent_last : (g : Graph) (s : Shape) (xs : List ImageItem) (i : ℕ) → i < length xs → length xs ≤ i + 1 → adjacent_agree g s (map item_of (drop i xs)) ≡ adjacent_agree g s (map item_of (drop (i + 1) xs))
adjacent_last g s xs i h k = let a = alone item_of xs i h k in ap (adjacent_agree g s) a.1 ∙ sym (ap (adjacent_agree g s) a.2)
