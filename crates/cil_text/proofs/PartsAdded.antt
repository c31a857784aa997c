-- Device: a graph's growth step by step: what each step added is a part of a type that was read.
use Rattle.std.proofs.Common.{◌≡◌, ◌⊎◌, inl, inr, ℕ, ◌<◌, ◌≤◌, List, [], ◌∷◌, ◌++◌, length, Some, slice_get, refl, sym, ap, ◌∙◌, subst, arith, length-append, append-nil}
use Rattle.std.proofs.lemmas.Option.{slice_get_within}
use Rattle.type_graph.specs.declared.nodes.Node.{Node}
use Rattle.type_graph.specs.Shapes.{Shape, Shapes, VoidType, IntType, PtrType, ArrayType, FuncType, AggType, NoTypes, MoreTypes, shape}
use Rattle.type_graph.specs.Arena.{Graph, IsArena}
use Rattle.type_graph.specs.Growth.{Grows, AddsNode}
use Rattle.type_graph.proofs.Lists.{get_stays}
use Rattle.type_graph.proofs.ShapeLaws.{kept}
use Rattle.type_graph.proofs.NumberLaws.{one_number}
use Rattle.cil_text.specs.TypesOf.{parts, all_parts, Among, AddsParts}
use Rattle.cil_text.proofs.ShapesThere.{get_there}
use Rattle.cil_text.proofs.TypesThere.{each_among, IsBelow, parts_below}
use Rattle.cil_text.proofs.WellFormedAlike.{either}

-- lists

pub among_first : (xs ys : List Shape) (s : Shape) → Among s xs → Among s (xs ++ ys)
among_first [] ys s among = absurd among
among_first (x ∷ xs) ys s (inl e) = inl e
among_first (x ∷ xs) ys s (inr more) = inr (among_first xs ys s more)

pub among_last : (xs ys : List Shape) (s : Shape) → Among s ys → Among s (xs ++ ys)
among_last [] ys s among = among
among_last (x ∷ xs) ys s among = inr (among_last xs ys s among)

pub among_either : (xs ys : List Shape) (s : Shape) → Among s (xs ++ ys) → Among s xs ⊎ Among s ys
among_either [] ys s among = inr among
among_either (x ∷ xs) ys s (inl e) = inl (inl e)
among_either (x ∷ xs) ys s (inr more) = by (among_either xs ys s more)
  where
    by : Among s xs ⊎ Among s ys → Among s (x ∷ xs) ⊎ Among s ys
    by (inl h) = inl (inr h)
    by (inr h) = inr h

carried : (xs ys : List Shape) (s t : Shape) → (Among t xs → Among s xs) → (Among t ys → Among s ys) → Among t (xs ++ ys) → Among s (xs ++ ys)
carried xs ys s t first last among = by (among_either xs ys t among)
  where
    by : Among t xs ⊎ Among t ys → Among s (xs ++ ys)
    by (inl h) = among_first xs ys s (first h)
    by (inr h) = among_last xs ys s (last h)

-- parts

pub part_self : (s : Shape) → Among s (parts s)
part_self VoidType = inl refl
part_self (IntType kind) = inl refl
part_self (PtrType q s) = inl refl
part_self (ArrayType q s bound) = inl refl
part_self (FuncType ret params proto variadic) = inl refl
part_self (AggType a) = inl refl

only : (s t u : Shape) → Among s (parts t) → t ≡ u → Among s (parts u)
only s t u among e = subst (λ (x : Shape). Among s (parts x)) e among

mutual
  -- a part of a part is a part
  pub part_twice : (s t u : Shape) → Among s (parts t) → Among t (parts u) → Among s (parts u)
  part_twice s t VoidType a (inl e) = only s t VoidType a e
  part_twice s t VoidType a (inr b) = absurd b
  part_twice s t (IntType kind) a (inl e) = only s t (IntType kind) a e
  part_twice s t (IntType kind) a (inr b) = absurd b
  part_twice s t (PtrType q u) a (inl e) = only s t (PtrType q u) a e
  part_twice s t (PtrType q u) a (inr b) = inr (part_twice s t u a b)
  part_twice s t (ArrayType q u bound) a (inl e) = only s t (ArrayType q u bound) a e
  part_twice s t (ArrayType q u bound) a (inr b) = inr (part_twice s t u a b)
  part_twice s t (FuncType ret params proto variadic) a (inl e) = only s t (FuncType ret params proto variadic) a e
  part_twice s t (FuncType ret params proto variadic) a (inr b) = inr (carried (parts ret) (all_parts params) s t (λ h. part_twice s t ret a h) (λ h. parts_twice s t params a h) b)
  part_twice s t (AggType n) a (inl e) = only s t (AggType n) a e
  part_twice s t (AggType n) a (inr b) = absurd b

  parts_twice : (s t : Shape) (us : Shapes) → Among s (parts t) → Among t (all_parts us) → Among s (all_parts us)
  parts_twice s t NoTypes a b = absurd b
  parts_twice s t (MoreTypes u us) a b = carried (parts u) (all_parts us) s t (λ h. part_twice s t u a h) (λ h. parts_twice s t us a h) b

-- graphs

pub adds_none : (g : Graph) (ss : List Shape) → AddsParts g g ss
adds_none g ss = record { part = λ t old new. absurd (omega (arith, old, new)) }

pub adds_by : (g h : Graph) (ss : List Shape) → h ≡ g → AddsParts g h ss
adds_by g h ss e = subst (λ (k : Graph). AddsParts g k ss) (sym e) (adds_none g ss)

-- types that have what was added as parts of theirs may stand for those that were read
pub adds_wider : (g h : Graph) (ss ts : List Shape) → ((s u : Shape) → Among s ss → Among u (parts s) → (t : Shape) × Among t ts × Among u (parts t)) → AddsParts g h ss → AddsParts g h ts
adds_wider g h ss ts wider adds = record {
  part = λ t old new. let p = adds.part t old new in wider p.0 (shape h.nodes t) p.1 p.2;
}

pub adds_first : (g h : Graph) (ss ts : List Shape) → AddsParts g h ss → AddsParts g h (ss ++ ts)
adds_first g h ss ts adds = adds_wider g h ss (ss ++ ts) (λ s u a b. (s, among_first ss ts s a, b)) adds

pub adds_last : (g h : Graph) (ss ts : List Shape) → AddsParts g h ts → AddsParts g h (ss ++ ts)
adds_last g h ss ts adds = adds_wider g h ts (ss ++ ts) (λ s u a b. (s, among_last ss ts s a, b)) adds

-- what was read are parts of another type
pub adds_within : (g h : Graph) (ss : List Shape) (t : Shape) → ((s : Shape) → Among s ss → Among s (parts t)) → AddsParts g h ss → AddsParts g h (t ∷ [])
adds_within g h ss t inner adds = adds_wider g h ss (t ∷ []) (λ s u a b. (t, inl refl, part_twice u s t b (inner s a))) adds

-- one step after another
pub adds_twice : (f g h : Graph) (ss ts : List Shape) → Grows g h → AddsParts f g ss → AddsParts g h ts → AddsParts f h (ss ++ ts)
adds_twice f g h ss ts grows first second = record { part = λ t old new. by t old new (either (length g.nodes) t) }
  where
    by : (t : ℕ) → length f.nodes ≤ t → t < length h.nodes → (length g.nodes ≤ t) ⊎ (t < length g.nodes) → (s : Shape) × Among s (ss ++ ts) × Among (shape h.nodes t) (parts s)
    by t old new (inl late) = let p = second.part t late new in (p.0, among_last ss ts p.0 p.1, p.2)
    by t old new (inr early) =
        let p = first.part t old early in
        (p.0, among_first ss ts p.0 p.1, subst (λ (s : Shape). Among s (parts p.0)) (sym (kept g h t grows early)) p.2)

-- one node
pub adds_node : (g h : Graph) (n : Node) (t : ℕ) → Grows g h → AddsNode g h n t → AddsParts g h (shape h.nodes t ∷ [])
adds_node g h n t grows adds = by (either (length g.nodes) t)
  where
    fresh : length g.nodes ≤ t → (u : ℕ) → length g.nodes ≤ u → u < length h.nodes → u ≡ t
    fresh late u old new =
        let e : h.nodes ≡ g.nodes ++ n ∷ [] = ap (λ (k : Graph). k.nodes) (adds.fresh late) in
        omega (arith, ap length e, length-append g.nodes (n ∷ []), slice_get_within h.nodes t n adds.number)

    by : (length g.nodes ≤ t) ⊎ (t < length g.nodes) → AddsParts g h (shape h.nodes t ∷ [])
    by (inl late) = record {
      part = λ u old new. (shape h.nodes t, inl refl, subst (λ (k : ℕ). Among (shape h.nodes k) (parts (shape h.nodes t))) (sym (fresh late u old new)) (part_self (shape h.nodes t)));
    }
    by (inr early) =
        let x = get_there g.nodes t early in
        let same : x.0 ≡ n = let e : Some x.0 ≡ Some n = sym (get_stays g.nodes grows.nodes.0 t x.0 x.1) ∙ ap (λ (ns : List Node). slice_get ns t) (sym grows.nodes.1) ∙ adds.number in cc in
        adds_by g h (shape h.nodes t ∷ []) (adds.known t (x.1 ∙ ap Some same))

only_one : (s t : Shape) → Among s (t ∷ []) → s ≡ t
only_one s t (inl e) = e
only_one s t (inr b) = absurd b

-- where what was added are parts of a type that was there, nothing was added
pub adds_nothing : (g h : Graph) (s : Shape) (t : ℕ) → Grows g h → IsArena h → AddsParts g h (s ∷ []) → t < length g.nodes → shape h.nodes t ≡ s → h.nodes ≡ g.nodes
adds_nothing g h s t grows arena adds low same = by grows.nodes.0 grows.nodes.1
  where
    by : (more : List Node) → h.nodes ≡ g.nodes ++ more → h.nodes ≡ g.nodes
    by [] e = e ∙ append-nil g.nodes
    by (n ∷ more) e =
        let new : length g.nodes < length h.nodes = omega (arith, ap length e, length-append g.nodes (n ∷ more)) in
        let p = adds.part (length g.nodes) (omega arith) new in
        let of : p.0 ≡ s = only_one p.0 s p.1 in
        let v = each_among (IsBelow h.nodes (length g.nodes)) (parts s) (shape h.nodes (length g.nodes)) (parts_below h arena (length g.nodes) (omega (arith, new)) s (t, low, same)) (subst (λ (x : Shape). Among (shape h.nodes (length g.nodes)) (parts x)) of p.2) in
        absurd (omega (arith, v.1, one_number h arena v.0 (length g.nodes) (omega (arith, v.1, new)) new v.2))
