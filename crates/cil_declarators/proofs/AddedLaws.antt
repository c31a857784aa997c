-- Device: what the readings of declarations add to the graph are parts of the types that they read.
use Rattle.std.proofs.Common.{◌≡◌, ◌⊎◌, inl, inr, ℕ, ◌<◌, Bool, List, [], ◌∷◌, ◌++◌, length, Option, Vec, Result, Ok, Err, IfOk, refl, sym, ap, ◌∙◌, subst}
use Rattle.std.specs.Global.{Global}
use Rattle.cil_base.specs.declared.numbers.TypeId.{TypeId}
use Rattle.type_graph.specs.declared.nodes.Node.{Node}
use Rattle.type_graph.specs.declared.nodes.QualType.{QualType}
use Rattle.type_graph.specs.Shapes.{Shape, Shapes, NoTypes, MoreTypes, PtrType, ArrayType, FuncType, shape, shapes_of}
use Rattle.type_graph.specs.Arena.{Graph, EachType}
use Rattle.type_graph.specs.Growth.{Grows, AddsNode}
use Rattle.type_graph.proofs.ShapeLaws.{kept, shapes_of-same}
use Rattle.cil_tree.specs.Typing.{unqualified}
use Rattle.cil_text.specs.ReadTypes.{Layer, Pointer, Elements, Called}
use Rattle.cil_text.specs.TypesOf.{parts, all_parts, Among, AddsParts}
use Rattle.cil_text.proofs.PartsAdded.{among_first, among_last, among_either, part_self, part_twice, adds_wider, adds_twice, adds_node}
use Rattle.cil_declarators.specs.declared.declarators.Suffix.{Suffix}
use Rattle.cil_declarators.specs.declared.declarators.Suffix.TheVariants as suffix
use Rattle.cil_declarators.specs.Layers.{layer_of, LayerBelow, wrapped, joined, listed, layer_types}
use Rattle.cil_declarators.proofs.LayersLaws.{layer_kept, shapes_more}

-- the same types in another order
swapped : (xs ys : List Shape) (s : Shape) → Among s (xs ++ ys) → Among s (ys ++ xs)
swapped xs ys s among = by (among_either xs ys s among)
  where
    by : Among s xs ⊎ Among s ys → Among s (ys ++ xs)
    by (inl h) = among_last ys xs s h
    by (inr h) = among_first ys xs s h

-- among other types
pub adds_among : (f g : Graph) (ss ts : List Shape) → ((s : Shape) → Among s ss → Among s ts) → AddsParts f g ss → AddsParts f g ts
adds_among f g ss ts inner adds = adds_wider f g ss ts (λ s u a b. (s, inner s a, b)) adds

-- one step after another, the latest in front
pub adds_front : (f g h : Graph) (ss ts : List Shape) → Grows g h → AddsParts f g ss → AddsParts g h ts → AddsParts f h (ts ++ ss)
adds_front f g h ss ts grows first second = adds_among f h (ss ++ ts) (ts ++ ss) (swapped ss ts) (adds_twice f g h ss ts grows first second)

-- a node that names no type
pub node_added : {E : Type 0} (g h : Graph) (n : Node) (r : Result TypeId E) → Grows g h → IfOk r (λ (t : TypeId). AddsNode g h n t.0) → IfOk r (λ (t : TypeId). AddsParts g h (shape h.nodes t.0 ∷ []))
node_added g h n (Ok t) grows adds = adds_node g h n t.0 grows adds
node_added g h n (Err e) grows adds = adds

-- layers

listed_within : (ss : Shapes) (u : Shape) → Among u (listed ss) → Among u (all_parts ss)
listed_within NoTypes u among = absurd among
listed_within (MoreTypes s ss) u (inl e) = among_first (parts s) (all_parts ss) u (subst (λ (x : Shape). Among u (parts x)) e (part_self u))
listed_within (MoreTypes s ss) u (inr more) = among_last (parts s) (all_parts ss) u (listed_within ss u more)

-- what a layer is around, and its parameters, are parts of the type
layer_within : (l : Layer) (s u : Shape) → Among u (s ∷ layer_types l) → Among u (parts (wrapped l s))
layer_within Pointer s u (inl e) = inr (subst (λ (x : Shape). Among u (parts x)) e (part_self u))
layer_within Pointer s u (inr b) = absurd b
layer_within (Elements bound) s u (inl e) = inr (subst (λ (x : Shape). Among u (parts x)) e (part_self u))
layer_within (Elements bound) s u (inr b) = absurd b
layer_within (Called params proto variadic) s u (inl e) = inr (among_first (parts s) (all_parts params) u (subst (λ (x : Shape). Among u (parts x)) e (part_self u)))
layer_within (Called params proto variadic) s u (inr more) = inr (among_last (parts s) (all_parts params) u (listed_within params u more))

-- a type may stand for its parts
narrowed : (f g : Graph) (t : Shape) (inner ss : List Shape) → ((u : Shape) → Among u inner → Among u (parts t)) → AddsParts f g (t ∷ (inner ++ ss)) → AddsParts f g (t ∷ ss)
narrowed f g t inner ss within adds = adds_wider f g (t ∷ (inner ++ ss)) (t ∷ ss) one adds
  where
    late : (s u : Shape) → Among u (parts s) → Among s inner ⊎ Among s ss → (x : Shape) × Among x (t ∷ ss) × Among u (parts x)
    late s u part (inl h) = (t, inl refl, part_twice u s t part (within s h))
    late s u part (inr h) = (s, inr h, part)

    one : (s u : Shape) → Among s (t ∷ (inner ++ ss)) → Among u (parts s) → (x : Shape) × Among x (t ∷ ss) × Among u (parts x)
    one s u (inl e) part = (s, inl e, part)
    one s u (inr more) part = late s u part (among_either inner ss s more)

wrapped_there : (f g h : Graph) (n : Node) (t : ℕ) (l : Layer) (s : Shape) (ss : List Shape) → Grows g h → AddsNode g h n t → shape h.nodes t ≡ wrapped l s → AddsParts f g (s ∷ (layer_types l ++ ss)) → AddsParts f h (shape h.nodes t ∷ ss)
wrapped_there f g h n t l s ss grows added is adds =
    narrowed f h (shape h.nodes t) (s ∷ layer_types l) ss (λ u among. subst (λ (x : Shape). Among u (parts x)) (sym is) (layer_within l s u among))
    (adds_front f g h (s ∷ (layer_types l ++ ss)) (shape h.nodes t ∷ []) grows adds (adds_node g h n t grows added))

wrapped_added : {E : Type 0} (f g h : Graph) (n : Node) (r : Result TypeId E) (l : Layer) (s : Shape) (ss : List Shape) → Grows g h → IfOk r (λ (t : TypeId). AddsNode g h n t.0) → IfOk r (λ (t : TypeId). shape h.nodes t.0 ≡ wrapped l s) →
    AddsParts f g (s ∷ (layer_types l ++ ss)) → IfOk r (λ (t : TypeId). AddsParts f h (shape h.nodes t.0 ∷ ss))
wrapped_added f g h n (Ok t) l s ss grows added is adds = wrapped_there f g h n t.0 l s ss grows added is adds
wrapped_added f g h n (Err e) l s ss grows added is adds = added

pub pointer_added : {E : Type 0} (f g h : Graph) (n : Node) (r : Result TypeId E) (q : QualType) (to : TypeId) (ss : List Shape) → Grows g h → IfOk r (λ (t : TypeId). AddsNode g h n t.0) →
    IfOk r (λ (t : TypeId). shape h.nodes t.0 ≡ PtrType q.quals (shape g.nodes q.of.0)) → q ≡ record { quals = unqualified; of = to } → AddsParts f g (shape g.nodes to.0 ∷ ss) → IfOk r (λ (t : TypeId). AddsParts f h (shape h.nodes t.0 ∷ ss))
pointer_added f g h n r q to ss grows added is plain adds =
    wrapped_added f g h n r Pointer (shape g.nodes to.0) ss grows added
    (subst (λ (p : QualType). IfOk r (λ (t : TypeId). shape h.nodes t.0 ≡ PtrType p.quals (shape g.nodes p.of.0))) plain is) adds

suffix_around : {E : Type 0} (f g h : Graph) (n : Node) (r : Result TypeId E) (x : Suffix) (l : Layer) (s : Shape) (ss : List Shape) → layer_of g.nodes x ≡ l → Grows g h → IfOk r (λ (t : TypeId). AddsNode g h n t.0) →
    IfOk r (λ (t : TypeId). shape h.nodes t.0 ≡ wrapped l s) → AddsParts f g (s ∷ (layer_types (layer_of g.nodes x) ++ ss)) → IfOk r (λ (t : TypeId). AddsParts f h (shape h.nodes t.0 ∷ ss))
suffix_around f g h n r x l s ss same grows added is adds = wrapped_added f g h n r l s ss grows added is (subst (λ (y : Layer). AddsParts f g (s ∷ (layer_types y ++ ss))) same adds)

pub elements_added : {E : Type 0} (f g h : Graph) (n : Node) (r : Result TypeId E) (q : QualType) (inner : TypeId) (x : Suffix) (bound : Option ℕ) (ss : List Shape) → Grows g h → IfOk r (λ (t : TypeId). AddsNode g h n t.0) →
    IfOk r (λ (t : TypeId). shape h.nodes t.0 ≡ ArrayType q.quals (shape g.nodes q.of.0) bound) → q ≡ record { quals = unqualified; of = inner } → x ≡ suffix.Elements bound →
    AddsParts f g (shape g.nodes inner.0 ∷ (layer_types (layer_of g.nodes x) ++ ss)) → IfOk r (λ (t : TypeId). AddsParts f h (shape h.nodes t.0 ∷ ss))
elements_added f g h n r q inner x bound ss grows added is plain layer adds =
    suffix_around f g h n r x (Elements bound) (shape g.nodes inner.0) ss (ap (layer_of g.nodes) layer) grows added
    (subst (λ (p : QualType). IfOk r (λ (t : TypeId). shape h.nodes t.0 ≡ ArrayType p.quals (shape g.nodes p.of.0) bound)) plain is) adds

pub called_added : {E : Type 0} (f g h : Graph) (n : Node) (r : Result TypeId E) (inner : TypeId) (x : Suffix) (params : Vec TypeId Global) (types : List TypeId) (proto variadic : Bool) (ss : List Shape) → Grows g h → IfOk r (λ (t : TypeId). AddsNode g h n t.0) →
    IfOk r (λ (t : TypeId). shape h.nodes t.0 ≡ FuncType (shape g.nodes inner.0) (shapes_of (shape g.nodes) types) proto variadic) → types ≡ params.items → x ≡ suffix.Called params proto variadic →
    AddsParts f g (shape g.nodes inner.0 ∷ (layer_types (layer_of g.nodes x) ++ ss)) → IfOk r (λ (t : TypeId). AddsParts f h (shape h.nodes t.0 ∷ ss))
called_added f g h n r inner x params types proto variadic ss grows added is listing layer adds =
    suffix_around f g h n r x (Called (shapes_of (shape g.nodes) params.items) proto variadic) (shape g.nodes inner.0) ss (ap (layer_of g.nodes) layer) grows added
    (subst (λ (ts : List TypeId). IfOk r (λ (t : TypeId). shape h.nodes t.0 ≡ FuncType (shape g.nodes inner.0) (shapes_of (shape g.nodes) ts) proto variadic)) listing is) adds

-- behind a name

-- a suffix behind the type that it is not yet around
pub suffix_added : (f g h : Graph) (base : ℕ) (l : Suffix) (ss : List Shape) → Grows g h → base < length g.nodes → AddsParts f g (shape g.nodes base ∷ ss) → AddsParts g h (layer_types (layer_of h.nodes l)) →
    AddsParts f h (shape h.nodes base ∷ (layer_types (layer_of h.nodes l) ++ ss))
suffix_added f g h base l ss grows less first second =
    adds_among f h (ts ++ (shape g.nodes base ∷ ss)) (shape h.nodes base ∷ (ts ++ ss)) one (adds_front f g h (shape g.nodes base ∷ ss) ts grows first second)
  where
    ts : List Shape
    ts = layer_types (layer_of h.nodes l)

    by : (s : Shape) → Among s ts ⊎ Among s (shape g.nodes base ∷ ss) → Among s (shape h.nodes base ∷ (ts ++ ss))
    by s (inl a) = inr (among_first ts ss s a)
    by s (inr (inl e)) = inl (e ∙ sym (kept g h base grows less))
    by s (inr (inr a)) = inr (among_last ts ss s a)

    one : (s : Shape) → Among s (ts ++ (shape g.nodes base ∷ ss)) → Among s (shape h.nodes base ∷ (ts ++ ss))
    one s a = by s (among_either ts (shape g.nodes base ∷ ss) s a)

pub layer_later : (f g h : Graph) (s : Shape) (l : Suffix) (ss : List Shape) → Grows g h → LayerBelow (length g.nodes) l → AddsParts f h (s ∷ (layer_types (layer_of g.nodes l) ++ ss)) → AddsParts f h (s ∷ (layer_types (layer_of h.nodes l) ++ ss))
layer_later f g h s l ss grows below adds = subst (λ (x : Layer). AddsParts f h (s ∷ (layer_types x ++ ss))) (sym (layer_kept g h l grows below)) adds

-- parameters

listed_joined : (ss : Shapes) (t s : Shape) → Among s (t ∷ listed ss) → Among s (listed (joined ss (MoreTypes t NoTypes)))
listed_joined NoTypes t s (inl e) = inl e
listed_joined NoTypes t s (inr b) = absurd b
listed_joined (MoreTypes u ss) t s (inl e) = inr (listed_joined ss t s (inl e))
listed_joined (MoreTypes u ss) t s (inr (inl e)) = inl e
listed_joined (MoreTypes u ss) t s (inr (inr a)) = inr (listed_joined ss t s (inr a))

pub param_added : (f g h : Graph) (ts : List TypeId) (t : TypeId) → Grows g h → EachType (length g.nodes) ts → AddsParts f g (listed (shapes_of (shape g.nodes) ts)) → AddsParts g h (shape h.nodes t.0 ∷ []) → AddsParts f h (listed (shapes_of (shape h.nodes) (ts ++ t ∷ [])))
param_added f g h ts t grows each first second =
    subst (λ (x : Shapes). AddsParts f h (listed x)) (sym (shapes_more (shape h.nodes) ts t ∙ ap (λ (x : Shapes). joined x (MoreTypes (shape h.nodes t.0) NoTypes)) (shapes_of-same (shape h.nodes) (shape g.nodes) (length g.nodes) ts each (λ i less. kept g h i grows less))))
    (adds_among f h (shape h.nodes t.0 ∷ listed (shapes_of (shape g.nodes) ts)) (listed (joined (shapes_of (shape g.nodes) ts) (MoreTypes (shape h.nodes t.0) NoTypes))) (listed_joined (shapes_of (shape g.nodes) ts) (shape h.nodes t.0))
    (adds_front f g h (listed (shapes_of (shape g.nodes) ts)) (shape h.nodes t.0 ∷ []) grows first second))
