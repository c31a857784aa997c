-- Device: shapes of nodes, and that they stay when nodes are added.
use Rattle.std.proofs.Common.{◌≡◌, ℕ, zero, suc, ◌+◌, ◌<◌, ◌≤◌, List, [], ◌∷◌, ◌++◌, length, get_or, slice_get, Some, refl, sym, ap, ◌∙◌, subst, arith, length-append}
use Rattle.std.proofs.Math.ListN.{get_or-append}
use Rattle.std.proofs.Math.Seq.{get_or-append_seam}
use Rattle.std.proofs.lemmas.List.{get_or_past}
use Rattle.cil_base.specs.declared.numbers.TypeId.{TypeId}
use Rattle.type_graph.specs.declared.nodes.Node.{Node}
use Rattle.type_graph.specs.declared.nodes.Node.TheVariants.{Void, Int, Ptr, Array, Func, Agg}
use Rattle.type_graph.specs.Shapes.{Shape, Shapes, VoidType, PtrType, ArrayType, FuncType, MoreTypes, shape, shape_of, shapes_of, shapes_from}
use Rattle.type_graph.specs.Arena.{Graph, NamesBelow, EachType}
use Rattle.type_graph.specs.Growth.{Grows}
use Rattle.type_graph.proofs.Lists.{get_at_end}

pub shapes_of-same : (f g : ℕ → Shape) (n : ℕ) (ts : List TypeId) → EachType n ts → ((k : ℕ) → k < n → f k ≡ g k) → shapes_of f ts ≡ shapes_of g ts
shapes_of-same f g n [] h e = refl
shapes_of-same f g n (t ∷ ts) h e = ap (λ s. MoreTypes s (shapes_of f ts)) (e t.0 h.0) ∙ ap (MoreTypes (g t.0)) (shapes_of-same f g n ts h.1 e)

-- a node's shape depends on those that it names
pub shape_of-same : (f g : ℕ → Shape) (n m : ℕ) (x : Node) → NamesBelow n m x → ((k : ℕ) → k < n → f k ≡ g k) → shape_of f x ≡ shape_of g x
shape_of-same f g n m Void h e = refl
shape_of-same f g n m (Int kind) h e = refl
shape_of-same f g n m (Ptr q) h e = ap (PtrType q.quals) (e q.of.0 h)
shape_of-same f g n m (Array q bound) h e = ap (λ s. ArrayType q.quals s bound) (e q.of.0 h)
shape_of-same f g n m (Func proto variadic ret params) h e = ap (λ s. FuncType s (shapes_of f params) proto variadic) (e ret.0 h.0) ∙ ap (λ (ss : Shapes). FuncType (g ret.0) ss proto variadic) (shapes_of-same f g n params h.1 e)
shape_of-same f g n m (Agg a) h e = refl

at : List Shape → ℕ → Shape
at done k = get_or done k VoidType

shapes_from-append : (done : List Shape) (ns ms : List Node) → shapes_from done (ns ++ ms) ≡ shapes_from (shapes_from done ns) ms
shapes_from-append done [] ms = refl
shapes_from-append done (n ∷ ns) ms = shapes_from-append (done ++ shape_of (λ k. get_or done k VoidType) n ∷ []) ns ms

length-shapes_from : (done : List Shape) (ns : List Node) → length (shapes_from done ns) ≡ length done + length ns
length-shapes_from done [] = omega arith
length-shapes_from done (n ∷ ns) = length-shapes_from (done ++ shape_of (λ k. get_or done k VoidType) n ∷ []) ns ∙ ap (λ k. k + length ns) (length-append done (shape_of (λ k. get_or done k VoidType) n ∷ [])) ∙ omega arith

-- what is done stays
stays : (done : List Shape) (ns : List Node) (k : ℕ) → k < length done → get_or (shapes_from done ns) k VoidType ≡ get_or done k VoidType
stays done [] k h = refl
stays done (n ∷ ns) k h =
    stays (done ++ shape_of (λ j. get_or done j VoidType) n ∷ []) ns k (omega (arith, length-append done (shape_of (λ j. get_or done j VoidType) n ∷ [])))
    ∙ get_or-append done (shape_of (λ j. get_or done j VoidType) n ∷ []) VoidType k h

at_node : (done : List Shape) (ns : List Node) (t m : ℕ) (n : Node) → slice_get ns t ≡ Some n → NamesBelow (length done + t) m n → get_or (shapes_from done ns) (length done + t) VoidType ≡ shape_of (λ k. get_or (shapes_from done ns) k VoidType) n
at_node done [] t m n e h = cc
at_node done (x ∷ ns) zero m n e h =
    let s : Shape = shape_of (λ k. get_or done k VoidType) x in
    let same : x ≡ n = cc in
    let place : length done + 0 ≡ length done = omega arith in
    let first : get_or (shapes_from done (x ∷ ns)) (length done) VoidType ≡ s =
    stays (done ++ s ∷ []) ns (length done) (omega (arith, length-append done (s ∷ []))) ∙ get_or-append_seam done s [] VoidType in
    let below : NamesBelow (length done) m x = subst (λ k. NamesBelow k m x) place (subst (NamesBelow (length done + 0) m) (sym same) h) in
    ap (λ k. get_or (shapes_from done (x ∷ ns)) k VoidType) place ∙ first
    ∙ shape_of-same (λ k. get_or done k VoidType) (λ k. get_or (shapes_from done (x ∷ ns)) k VoidType) (length done) m x below (λ k l. sym (stays done (x ∷ ns) k l))
    ∙ ap (shape_of (λ k. get_or (shapes_from done (x ∷ ns)) k VoidType)) same
at_node done (x ∷ ns) (suc t) m n e h =
    let s : Shape = shape_of (λ k. get_or done k VoidType) x in
    let place : length done + suc t ≡ length (done ++ s ∷ []) + t = omega (arith, length-append done (s ∷ [])) in
    ap (λ k. get_or (shapes_from done (x ∷ ns)) k VoidType) place
    ∙ at_node (done ++ s ∷ []) ns t m n e (subst (λ k. NamesBelow k m n) place h)

-- a node's shape is made of the shapes of those that it names
pub shape_is : (ns : List Node) (t m : ℕ) (n : Node) → slice_get ns t ≡ Some n → NamesBelow t m n → shape ns t ≡ shape_of (shape ns) n
unfolding shape
shape_is ns t m n e h = ap (λ k. get_or (shapes_from [] ns) k VoidType) (sym zero_place) ∙ at_node [] ns t m n e (subst (λ k. NamesBelow k m n) (sym zero_place) h)
  where
    zero_place : 0 + t ≡ t
    zero_place = omega arith

-- nodes that are added leave shapes as they are
pub shape_append : (ns more : List Node) (t : ℕ) → t < length ns → shape (ns ++ more) t ≡ shape ns t
unfolding shape
shape_append ns more t h = ap (λ (done : List Shape). get_or done t VoidType) (shapes_from-append [] ns more) ∙ stays (shapes_from [] ns) more t (omega (arith, length-shapes_from [] ns))

pub shape_pushed : (ns : List Node) (n : Node) (k m : ℕ) → k ≡ length ns → NamesBelow k m n → shape (ns ++ n ∷ []) k ≡ shape_of (shape ns) n
shape_pushed ns n k m e h =
    shape_is (ns ++ n ∷ []) k m n (ap (slice_get (ns ++ n ∷ [])) e ∙ get_at_end ns n) h
    ∙ shape_of-same (shape (ns ++ n ∷ [])) (shape ns) k m n h (λ j l. shape_append ns (n ∷ []) j (omega arith))

-- the law of growth: the shape of each old number stays
pub kept : (g h : Graph) (t : ℕ) → Grows g h → t < length g.nodes → shape h.nodes t ≡ shape g.nodes t
kept g h t e l = ap (λ (ns : List Node). shape ns t) e.nodes.1 ∙ shape_append g.nodes e.nodes.0 t l

-- there is no type past the end
pub shape_past : (ns : List Node) (t : ℕ) → length ns ≤ t → shape ns t ≡ VoidType
unfolding shape
shape_past ns t h = get_or_past (shapes_from [] ns) t VoidType (omega (arith, length-shapes_from [] ns))
