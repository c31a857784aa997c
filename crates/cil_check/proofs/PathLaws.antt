-- Device: steps of paths, and what is known of sizes and offsets on them.
use Rattle.std.proofs.Common.{◌≡◌, ℕ, zero, suc, ◌+◌, ◌*◌, ◌^◌, ◌<◌, ◌≤◌, Bool, true, false, ◌||◌, not, nat_lt, Option, Some, None, is_some, IsSome, List, [], ◌∷◌, length, drop, map, get_or, slice_get, refl, sym, ap, ◌∙◌, subst, arith, if◌then◌else◌}
use Rattle.std.specs.Option.{option_map, option_and_then}
use Rattle.std.proofs.Math.Nat.{mul-le-mul_right}
use Rattle.cil_base.specs.declared.numbers.AggId.{AggId}
use Rattle.type_graph.specs.declared.aggregates.Aggregate.{Aggregate}
use Rattle.type_graph.specs.declared.aggregates.Member.{Member}
use Rattle.type_graph.specs.declared.layout.Layout.{Layout}
use Rattle.type_graph.specs.declared.nodes.Node.TheVariants.{Agg}
use Rattle.type_graph.specs.declared.nodes.Quals.{Quals}
use Rattle.type_graph.specs.Shapes.{Shape, ArrayType, AggType, shape}
use Rattle.type_graph.specs.Arena.{Graph, IsArena, members_of}
use Rattle.type_graph.specs.Layouts.{layout, layout_in, agg_layout, whole_of, array_of}
use Rattle.type_graph.proofs.OffsetLaws.{offset_there}
use Rattle.layout_lp64.specs.declared.layouts.Layouts.{Layouts}
use Rattle.layout_lp64.specs.Tables.{InStep, found, found_offset}
use Rattle.cil_tree.specs.declared.globals.Step.{Step}
use Rattle.cil_tree.specs.Tree as plain
use Rattle.cil_tree.specs.Tree.{ToField, ToIndex}
use Rattle.cil_tree.specs.View.{step_of}
use Rattle.cil_tree.specs.Typing.{is_enum, member_of, member_type}
use Rattle.cil_tree.specs.Globals.{Part, path_part, element_part, is_union, agree}
use Rattle.cil_check.specs.Paths.{step_part, same_step, both_fields, after_step}

below : {A : Type 0} (xs : List A) (i : ℕ) (x : A) → slice_get xs i ≡ Some x → i < length xs
below [] i x e = cc
below (y ∷ ys) zero x e = omega arith
below (y ∷ ys) (suc i) x e = let h : i < length ys = below ys i x e in omega (arith, h)

some_is : {A : Type 0} (o : Option A) → is_some o ≡ true → IsSome o
some_is None e = cc
some_is (Some x) e = refl

-- an aggregate of which a member has a type has members, so many at least
found_members : (g : Graph) (i : ℕ) (s : Shape) (x : Aggregate) → option_map (λ (m : Member). shape g.nodes m.ty.of.0) (member_of g x i) ≡ Some s → (ms : List Member) × (x.members ≡ Some ms) × (i < length ms)
found_members g i s x q = by (is_enum x.kind) x.members refl q
  where
    at : (ms : List Member) (m : Option Member) → slice_get ms i ≡ m → option_map (λ (m : Member). shape g.nodes m.ty.of.0) m ≡ Some s → i < length ms
    at ms None r q = cc
    at ms (Some m) r q = below ms i m r

    by : (b : Bool) (o : Option (List Member)) → x.members ≡ o → option_map (λ (m : Member). shape g.nodes m.ty.of.0) (if b then None else option_and_then (λ (ms : List Member). slice_get ms i) o) ≡ Some s → (ms : List Member) × (x.members ≡ Some ms) × (i < length ms)
    by true o e q = cc
    by false None e q = cc
    by false (Some ms) e q = (ms, e, at ms (slice_get ms i) refl q)

-- the offset of a member that has a type is known
pub offset_known : (g : Graph) (l : Layouts) (t : ℕ) (a : AggId) (i : ℕ) (s : Shape) → IsArena g → InStep l g → slice_get g.nodes t ≡ Some (Agg a) → member_type g (AggType a.0) i ≡ Some s → IsSome (found_offset l a.0 i)
offset_known g l t a i s arena step node typed = by (slice_get g.aggs a.0) refl typed
  where
    by : (o : Option Aggregate) → slice_get g.aggs a.0 ≡ o → option_map (λ (m : Member). shape g.nodes m.ty.of.0) (option_and_then (λ (x : Aggregate). member_of g x i) o) ≡ Some s → IsSome (found_offset l a.0 i)
    by None e q = cc
    by (Some x) e q =
        let f = found_members g i s x q in
        let known : members_of g.aggs a.0 ≡ Some f.0 = ap (option_and_then (λ (y : Aggregate). y.members)) e ∙ f.1 in
        some_is (found_offset l a.0 i) (ap is_some (step.offsets t a node i) ∙ offset_there g arena a.0 f.0 i known f.2)

-- an element of an array begins within what an object may have
pub element_low : (g : Graph) (l : Layouts) (t e : ℕ) (q : Quals) (n i size : ℕ) → InStep l g → shape g.nodes t ≡ ArrayType q (shape g.nodes e) (Some n) → Some size ≡ option_map (λ (x : Layout). x.size) (found l e) → i < n → i * size < 2 ^ 31
element_low g l t e q n i size step is known h = by (found l e) refl known
  where
    within : (x : Layout) → found l e ≡ Some x → i * x.size < 2 ^ 31
    within x f =
        let whole : layout g t ≡ Some (array_of n x) = ap (layout_in g.abi (λ b. whole_of (agg_layout g b))) is ∙ ap (option_map (array_of n)) (sym (step.sizes e) ∙ f) in
        let fits : n * x.size ≤ 2147483647 = step.fit.each t (array_of n x) whole in
        let less : i * x.size ≤ n * x.size = mul-le-mul_right x.size (omega arith) in
        omega (arith, fits, less)

    by : (o : Option Layout) → found l e ≡ o → Some size ≡ option_map (λ (x : Layout). x.size) o → i * size < 2 ^ 31
    by None f k = cc
    by (Some x) f k = let same : x.size ≡ size = cc in subst (λ m. i * m < 2 ^ 31) same (within x f)

-- an element of a type with a known size has its place
pub element_there : (g : Graph) (l : Layouts) (t e : ℕ) (q : Quals) (n i at size : ℕ) → InStep l g → shape g.nodes t ≡ ArrayType q (shape g.nodes e) (Some n) → Some size ≡ option_map (λ (x : Layout). x.size) (found l e) → i < n →
    Some (shape g.nodes e, at + i * size) ≡ element_part g i (shape g.nodes t, at)
element_there g l t e q n i at size step is known h =
    sym (ap (λ (s : Shape). element_part g i (s, at)) is ∙ by (nat_lt i n) (grind arith) (layout g e) (known ∙ ap (option_map (λ (x : Layout). x.size)) (step.sizes e)))
  where
    by : (b : Bool) → b ≡ true → (o : Option Layout) → Some size ≡ option_map (λ (x : Layout). x.size) o → (if b then option_map {U = Part} (λ (x : Layout). (shape g.nodes e, at + i * x.size)) o else None) ≡ Some (shape g.nodes e, at + i * size)
    by false f o k = cc
    by true f None k = cc
    by true f (Some x) k = let same : x.size ≡ size = cc in ap (λ m. Some (shape g.nodes e, at + i * m)) same

-- an element of a type without a known size has no place
pub element_none : (g : Graph) (l : Layouts) (t e : ℕ) (q : Quals) (n i at : ℕ) → InStep l g → shape g.nodes t ≡ ArrayType q (shape g.nodes e) (Some n) → None ≡ option_map (λ (x : Layout). x.size) (found l e) → None ≡ element_part g i (shape g.nodes t, at)
element_none g l t e q n i at step is known =
    sym (ap (λ (s : Shape). element_part g i (s, at)) is ∙ by (nat_lt i n) (layout g e) (known ∙ ap (option_map (λ (x : Layout). x.size)) (step.sizes e)))
  where
    by : (b : Bool) (o : Option Layout) → None ≡ option_map (λ (x : Layout). x.size) o → (if b then option_map {U = Part} (λ (x : Layout). (shape g.nodes e, at + i * x.size)) o else None) ≡ None
    by true None h = refl
    by true (Some x) h = cc
    by false o h = refl

-- the part that the steps from one on lead to
pub path_next : (g : Graph) (steps : List Step) (i : ℕ) (d : Step) (part : Part) → i < length steps →
    path_part g (map step_of (drop i steps)) part ≡ option_and_then (path_part g (map step_of (drop (suc i) steps))) (step_part g (step_of (get_or steps i d)) part)
path_next g [] i d part h = absurd (omega arith)
path_next g (x ∷ steps) zero d part h = by (step_of x)
  where
    by : (p : plain.Step) → path_part g (p ∷ map step_of steps) part ≡ option_and_then (path_part g (map step_of steps)) (step_part g p part)
    by (ToField number) = refl
    by (ToIndex index) = refl
path_next g (x ∷ steps) (suc i) d part h = path_next g steps i d part (omega arith)

-- two paths from one step on
pub agree_next : (g : Graph) (s : Shape) (xs ys : List Step) (i : ℕ) (d e : Step) → i < length xs → i < length ys →
    agree g s (map step_of (drop i xs)) (map step_of (drop i ys))
    ≡ (if same_step (step_of (get_or xs i d)) (step_of (get_or ys i e)) then agree g (after_step g s (step_of (get_or xs i d))) (map step_of (drop (suc i) xs)) (map step_of (drop (suc i) ys)) else (not (both_fields (step_of (get_or xs i d)) (step_of (get_or ys i e))) || not (is_union g s)))
agree_next g s [] ys i d e h k = absurd (omega arith)
agree_next g s (x ∷ xs) [] i d e h k = absurd (omega arith)
agree_next g s (x ∷ xs) (y ∷ ys) zero d e h k = by (step_of x) (step_of y)
  where
    by : (p q : plain.Step) → agree g s (p ∷ map step_of xs) (q ∷ map step_of ys) ≡ (if same_step p q then agree g (after_step g s p) (map step_of xs) (map step_of ys) else (not (both_fields p q) || not (is_union g s)))
    by (ToField m) (ToField n) = refl
    by (ToIndex m) (ToIndex n) = refl
    by (ToField m) (ToIndex n) = refl
    by (ToIndex m) (ToField n) = refl
agree_next g s (x ∷ xs) (y ∷ ys) (suc i) d e h k = agree_next g s xs ys i d e (omega arith) (omega arith)

agree_none : (g : Graph) (s : Shape) (xs : List plain.Step) → agree g s xs [] ≡ true
agree_none g s [] = refl
agree_none g s (ToField m ∷ xs) = refl
agree_none g s (ToIndex m ∷ xs) = refl

past : {A : Type 0} (xs : List A) (i : ℕ) → length xs ≤ i → drop i xs ≡ []
past [] zero h = refl
past [] (suc i) h = refl
past (x ∷ xs) zero h = absurd (omega arith)
past (x ∷ xs) (suc i) h = past xs i (omega arith)

-- a path that has ended agrees
pub agree_short : (g : Graph) (s : Shape) (xs ys : List Step) (i : ℕ) → length ys ≤ i → agree g s (map step_of (drop i xs)) (map step_of (drop i ys)) ≡ true
agree_short g s xs ys i h = ap (λ zs. agree g s (map step_of (drop i xs)) (map step_of zs)) (past ys i h) ∙ agree_none g s (map step_of (drop i xs))

-- what a loop over two paths knows of the whole, where the steps are not one and where they are
pub agree_apart : (w a s b u n r : Bool) → a ≡ w → a ≡ (if s then n else (not b || not u)) → s ≡ false → r ≡ not b || not u → r ≡ w
agree_apart w a s b u n r h e apart is = is ∙ sym (e ∙ ap (λ x. if x then n else (not b || not u)) apart) ∙ h

pub agree_along : (w a s b u n : Bool) → a ≡ w → a ≡ (if s then n else (not b || not u)) → s ≡ true → n ≡ w
agree_along w a s b u n h e same = sym (e ∙ ap (λ x. if x then n else (not b || not u)) same) ∙ h
