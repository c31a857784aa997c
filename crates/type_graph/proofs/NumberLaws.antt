-- Device: types of one shape have one number.
use Rattle.std.proofs.Common.{◌≡◌, ℕ, zero, suc, ◌<◌, ◌≤◌, List, [], ◌∷◌, length, Some, Option, Bool, refl, sym, ap, ◌∙◌, arith}
use Rattle.cil_base.specs.declared.numbers.AggId.{AggId}
use Rattle.cil_base.specs.declared.numbers.TypeId.{TypeId}
use Rattle.type_graph.specs.declared.nodes.Quals.{Quals}
use Rattle.type_graph.specs.declared.nodes.QualType.{QualType}
use Rattle.type_graph.specs.declared.nodes.Node.{Node}
use Rattle.type_graph.specs.declared.nodes.Node.TheVariants.{Void, Int, Ptr, Array, Func, Agg}
use Rattle.type_graph.specs.Shapes.{Shape, shape, shape_of, shapes_of}
use Rattle.type_graph.specs.Arena.{Graph, IsArena, NamesBelow, EachType}
use Rattle.type_graph.proofs.Lists.{get_there}
use Rattle.type_graph.proofs.ShapeLaws.{shape_is}

abbrev type_at : ℕ → TypeId
type_at k = record { 0 = k }

abbrev agg_at : ℕ → AggId
agg_at k = record { 0 = k }

abbrev qualified : Quals → TypeId → QualType
qualified q t = record { quals = q; of = t }

type_same : (s t : TypeId) → s.0 ≡ t.0 → s ≡ t
type_same s t e = ap type_at e

agg_same : (a b : AggId) → a.0 ≡ b.0 → a ≡ b
agg_same a b e = ap agg_at e

qual_same : (p q : QualType) → p.quals ≡ q.quals → p.of.0 ≡ q.of.0 → p ≡ q
qual_same p q e f = ap (λ (s : Quals). qualified s p.of) e ∙ ap (qualified q.quals) (type_same p.of q.of f)

-- equal shapes of the first types have equal numbers
abbrev Apart : (ℕ → Shape) → ℕ → Type 0
Apart at m = (j k : ℕ) → j < m → k < m → at j ≡ at k → j ≡ k

list_same : (at : ℕ → Shape) (m : ℕ) (ps qs : List TypeId) → Apart at m → EachType m ps → EachType m qs → shapes_of at ps ≡ shapes_of at qs → ps ≡ qs
list_same at m [] [] apart h k e = refl
list_same at m [] (q ∷ qs) apart h k e = cc
list_same at m (p ∷ ps) [] apart h k e = cc
list_same at m (p ∷ ps) (q ∷ qs) apart h k e =
    let first : at p.0 ≡ at q.0 = cc in
    let rest : shapes_of at ps ≡ shapes_of at qs = cc in
    ap (λ (t : TypeId). t ∷ ps) (type_same p q (apart p.0 q.0 h.0 k.0 first)) ∙ ap (λ (ts : List TypeId). q ∷ ts) (list_same at m ps qs apart h.1 k.1 rest)

node_same : (at : ℕ → Shape) (m n : ℕ) (x y : Node) → Apart at m → NamesBelow m n x → NamesBelow m n y → shape_of at x ≡ shape_of at y → x ≡ y
node_same at m n Void Void apart h k e = refl
node_same at m n Void (Int j) apart h k e = cc
node_same at m n Void (Ptr q) apart h k e = cc
node_same at m n Void (Array q c) apart h k e = cc
node_same at m n Void (Func d w s qs) apart h k e = cc
node_same at m n Void (Agg b) apart h k e = cc
node_same at m n (Int i) Void apart h k e = cc
node_same at m n (Int i) (Int j) apart h k e = let same : i ≡ j = cc in ap Int same
node_same at m n (Int i) (Ptr q) apart h k e = cc
node_same at m n (Int i) (Array q c) apart h k e = cc
node_same at m n (Int i) (Func d w s qs) apart h k e = cc
node_same at m n (Int i) (Agg b) apart h k e = cc
node_same at m n (Ptr p) Void apart h k e = cc
node_same at m n (Ptr p) (Int j) apart h k e = cc
node_same at m n (Ptr p) (Ptr q) apart h k e =
    let quals : p.quals ≡ q.quals = cc in
    let of : at p.of.0 ≡ at q.of.0 = cc in
    ap Ptr (qual_same p q quals (apart p.of.0 q.of.0 h k of))
node_same at m n (Ptr p) (Array q c) apart h k e = cc
node_same at m n (Ptr p) (Func d w s qs) apart h k e = cc
node_same at m n (Ptr p) (Agg b) apart h k e = cc
node_same at m n (Array p a) Void apart h k e = cc
node_same at m n (Array p a) (Int j) apart h k e = cc
node_same at m n (Array p a) (Ptr q) apart h k e = cc
node_same at m n (Array p a) (Array q c) apart h k e =
    let quals : p.quals ≡ q.quals = cc in
    let of : at p.of.0 ≡ at q.of.0 = cc in
    let bound : a ≡ c = cc in
    ap (λ (o : QualType). Array o a) (qual_same p q quals (apart p.of.0 q.of.0 h k of)) ∙ ap (λ (o : Option ℕ). Array q o) bound
node_same at m n (Array p a) (Func d w s qs) apart h k e = cc
node_same at m n (Array p a) (Agg b) apart h k e = cc
node_same at m n (Func c v r ps) Void apart h k e = cc
node_same at m n (Func c v r ps) (Int j) apart h k e = cc
node_same at m n (Func c v r ps) (Ptr q) apart h k e = cc
node_same at m n (Func c v r ps) (Array q b) apart h k e = cc
node_same at m n (Func c v r ps) (Func d w s qs) apart h k e =
    let ret : at r.0 ≡ at s.0 = cc in
    let params : shapes_of at ps ≡ shapes_of at qs = cc in
    let proto : c ≡ d = cc in
    let variadic : v ≡ w = cc in
    ap (λ (t : TypeId). Func c v t ps) (type_same r s (apart r.0 s.0 h.0 k.0 ret))
    ∙ ap (λ (ts : List TypeId). Func c v s ts) (list_same at m ps qs apart h.1 k.1 params)
    ∙ ap (λ (b : Bool). Func b v s qs) proto
    ∙ ap (λ (b : Bool). Func d b s qs) variadic
node_same at m n (Func c v r ps) (Agg b) apart h k e = cc
node_same at m n (Agg a) Void apart h k e = cc
node_same at m n (Agg a) (Int j) apart h k e = cc
node_same at m n (Agg a) (Ptr q) apart h k e = cc
node_same at m n (Agg a) (Array q c) apart h k e = cc
node_same at m n (Agg a) (Func d w s qs) apart h k e = cc
node_same at m n (Agg a) (Agg b) apart h k e = let same : a.0 ≡ b.0 = cc in ap Agg (agg_same a b same)

each_more : (n m : ℕ) (ts : List TypeId) → n ≤ m → EachType n ts → EachType m ts
each_more n m [] l h = tt
each_more n m (t ∷ ts) l h = let first : t.0 < n = h.0 in (omega arith, each_more n m ts l h.1)

names_more : (n m k : ℕ) (x : Node) → n ≤ m → NamesBelow n k x → NamesBelow m k x
names_more n m k Void l h = tt
names_more n m k (Int kind) l h = tt
names_more n m k (Ptr q) l h = let within : q.of.0 < n = h in omega arith
names_more n m k (Array q bound) l h = let within : q.of.0 < n = h in omega arith
names_more n m k (Func proto variadic ret params) l h = let within : ret.0 < n = h.0 in (omega arith, each_more n m params l h.1)
names_more n m k (Agg a) l h = h

apart_below : (g : Graph) → IsArena g → (n : ℕ) → n ≤ length g.nodes → Apart (shape g.nodes) n
apart_below g w zero l a b p q e = absurd (omega arith)
apart_below g w (suc n) l a b p q e =
    let x = get_there g.nodes a (omega arith) in
    let y = get_there g.nodes b (omega arith) in
    let left : NamesBelow a (length g.aggs) x.0 = w.grounded a x.0 x.1 in
    let right : NamesBelow b (length g.aggs) y.0 = w.grounded b y.0 y.1 in
    let shapes : shape_of (shape g.nodes) x.0 ≡ shape_of (shape g.nodes) y.0 = sym (shape_is g.nodes a (length g.aggs) x.0 x.1 left) ∙ e ∙ shape_is g.nodes b (length g.aggs) y.0 y.1 right in
    let same : x.0 ≡ y.0 = node_same (shape g.nodes) n (length g.aggs) x.0 y.0 (apart_below g w n (omega arith)) (names_more a n (length g.aggs) x.0 (omega arith) left) (names_more b n (length g.aggs) y.0 (omega arith) right) shapes in
    w.once a b x.0 x.1 (y.1 ∙ ap Some (sym same))

-- the law of equal types: types of one shape are one type
pub one_number : (g : Graph) → IsArena g → (a b : ℕ) → a < length g.nodes → b < length g.nodes → shape g.nodes a ≡ shape g.nodes b → a ≡ b
one_number g w a b p q e = apart_below g w (length g.nodes) (omega arith) a b p q e
