-- Device: a program that is equal to a well-formed one, and whose types are types of that one, is well-formed.
use Rattle.std.proofs.Common.{◌≡◌, ℕ, suc, zero, ◌<◌, ◌≤◌, ◌&&◌, ◌||◌, not, Bool, true, false, cond, List, [], ◌∷◌, map, length, Option, Some, None, is_some, slice_get, refl, sym, ap, ◌∙◌, arith, ◌⊎◌, inl, inr}
use Rattle.std.specs.Prelude.{pos}
use Rattle.std.specs.List.{list_all}
use Rattle.std.specs.Option.{option_map}
use Rattle.std.specs.Ordering.{int_eq}
use Rattle.cil_base.specs.declared.kinds.IntKind.TheVariants.{Int as int}
use Rattle.cil_base.specs.Arithmetic.{fits}
use Rattle.type_graph.specs.declared.aggregates.Aggregate.{Aggregate}
use Rattle.type_graph.specs.declared.aggregates.Member.{Member}
use Rattle.type_graph.specs.declared.nodes.Node.{Node}
use Rattle.type_graph.specs.declared.nodes.Node.TheVariants.{Void, Int, Ptr, Array, Func, Agg}
use Rattle.type_graph.specs.Shapes.{Shape, VoidType, IntType, PtrType, ArrayType, FuncType, AggType, shape, shape_of}
use Rattle.type_graph.specs.Arena.{Graph, IsArena, complete_shape, members_fit}
use Rattle.type_graph.proofs.ShapeLaws.{shape_is, shape_past}
use Rattle.cil_tree.specs.declared.globals.CilUnit.{CilUnit}
use Rattle.cil_tree.specs.Tree.{GlobalDecl, Program}
use Rattle.cil_tree.specs.Typing.{is_enum, same_shape}
use Rattle.cil_tree.specs.View.{program_of}
use Rattle.cil_tree.specs.Text.{shape_layout}
use Rattle.cil_tree.specs.WellFormedTypes.{is_unqualified, node_is_unqualified, each_member, has_tag, enum_is_complete, member_fits, members_have_kind, is_nonempty, has_member, flexible_is_last, enums_first, holds_below, elements_below, all_stand_after, bound_fits, array_fits, function_fits, prototype_fits, TypesAreSmall, AreTypes}
use Rattle.cil_tree.specs.Globals.{global_fits}
use Rattle.cil_tree.specs.Programs.{SeenMember, SeenAggregate, seen_member, seen_aggregate, IsProgram, SameProgram}
use Rattle.cil_text.specs.Occurs.{Occurs}
use Rattle.cil_text.proofs.Alike.{alike, some_mapped, complete_alike}
use Rattle.cil_text.proofs.TypedAlike.{Equal, agg_alike, layout_alike}
use Rattle.cil_text.proofs.NamesThere.{all_get}
use Rattle.cil_text.proofs.ShapesThere.{get_there}
use Rattle.cil_text.proofs.GlobalsAlike.{global_alike}
use Rattle.cil_text.proofs.NamesAlike.{all_seen, SeenAlike, names_alike}

-- lists

all_from : {A : Type 0} (of : A → Bool) (xs : List A) → ((i : ℕ) (x : A) → slice_get xs i ≡ Some x → of x ≡ true) → list_all of xs ≡ true
all_from of [] h = refl
all_from of (x ∷ xs) h = ap (λ b. b && list_all of xs) (h 0 x refl) ∙ all_from of xs (λ i y e. h (suc i) y e)

place_low : {A : Type 0} (xs : List A) (i : ℕ) (x : A) → slice_get xs i ≡ Some x → i < length xs
place_low [] i x e = absurd (cc e)
place_low (y ∷ xs) zero x e = omega arith
place_low (y ∷ xs) (suc i) x e = omega (arith, place_low xs i x e)

pub either : (m n : ℕ) → (m ≤ n) ⊎ (n < m)
either zero n = inl (omega arith)
either (suc m) zero = inr (omega arith)
either (suc m) (suc n) = by (either m n)
  where
    by : (m ≤ n) ⊎ (n < m) → (suc m ≤ suc n) ⊎ (suc n < suc m)
    by (inl h) = inl (omega (arith, h))
    by (inr h) = inr (omega (arith, h))

-- rules of types as rules of shapes

abbrev unqualified_shape : Shape → Bool
unqualified_shape (PtrType q s) = is_unqualified q
unqualified_shape (ArrayType q s bound) = is_unqualified q
unqualified_shape _ = true

abbrev array_shape : List Aggregate → Shape → Bool
array_shape aggs (ArrayType q s bound) = complete_shape aggs s && bound_fits bound
array_shape aggs _ = true

unqualified_is : (at : ℕ → Shape) (n : Node) → node_is_unqualified n ≡ unqualified_shape (shape_of at n)
unqualified_is at Void = refl
unqualified_is at (Int k) = refl
unqualified_is at (Ptr q) = refl
unqualified_is at (Array q bound) = refl
unqualified_is at (Func proto variadic ret params) = refl
unqualified_is at (Agg a) = refl

array_is : (g : Graph) (n : Node) → array_fits g n ≡ array_shape g.aggs (shape_of (shape g.nodes) n)
array_is g Void = refl
array_is g (Int k) = refl
array_is g (Ptr q) = refl
array_is g (Array q bound) = refl
array_is g (Func proto variadic ret params) = refl
array_is g (Agg a) = refl

array_alike : (p q : Program) → Equal p q → (s : Shape) → array_shape p.graph.aggs s ≡ array_shape q.graph.aggs s
array_alike p q same VoidType = refl
array_alike p q same (IntType k) = refl
array_alike p q same (PtrType r s) = refl
array_alike p q same (ArrayType r s bound) = ap (λ b. b && bound_fits bound) (complete_alike p q same.aggregates s)
array_alike p q same (FuncType ret params proto variadic) = refl
array_alike p q same (AggType a) = refl

-- what is said of each node holds of each shape, and the other way round
shapes_keep : (g : Graph) → IsArena g → (of : Node → Bool) (rule : Shape → Bool) → ((n : Node) → of n ≡ rule (shape_of (shape g.nodes) n)) → list_all of g.nodes ≡ true → (t : ℕ) → t < length g.nodes → rule (shape g.nodes t) ≡ true
shapes_keep g arena of rule is all t low =
    let n = get_there g.nodes t low in
    ap rule (shape_is g.nodes t (length g.aggs) n.0 n.1 (arena.grounded t n.0 n.1)) ∙ sym (is n.0) ∙ all_get of g.nodes t n.0 all n.1

nodes_keep : (g : Graph) → IsArena g → (of : Node → Bool) (rule : Shape → Bool) → ((n : Node) → of n ≡ rule (shape_of (shape g.nodes) n)) → ((t : ℕ) → t < length g.nodes → rule (shape g.nodes t) ≡ true) → list_all of g.nodes ≡ true
nodes_keep g arena of rule is each =
    all_from of g.nodes (λ t n e. is n ∙ sym (ap rule (shape_is g.nodes t (length g.aggs) n e (arena.grounded t n e))) ∙ each t (place_low g.nodes t n e))

carried : (p q : Program) → Occurs p q → (rule : Shape → Bool) → ((t : ℕ) → t < length p.graph.nodes → rule (shape p.graph.nodes t) ≡ true) → (t : ℕ) → t < length q.graph.nodes → rule (shape q.graph.nodes t) ≡ true
carried p q occurs rule each t low = let s = occurs.types t low in ap rule (sym s.2) ∙ each s.0 s.1

small_alike : (p q : Program) → Equal p q → Occurs p q → TypesAreSmall p.graph → TypesAreSmall q.graph
small_alike p q same occurs small t l e = by (either (length q.graph.nodes) t)
  where
    by : (length q.graph.nodes ≤ t) ⊎ (t < length q.graph.nodes) → l.size ≤ 2147483647
    by (inl past) = let none : None ≡ Some l = sym (ap (shape_layout q.graph) (shape_past q.graph.nodes t past)) ∙ e in absurd (cc none)
    by (inr low) = let s = occurs.types t low in small s.0 l (ap (shape_layout p.graph) s.2 ∙ layout_alike p q same (shape q.graph.nodes t) ∙ e)

-- aggregates

abbrev seen_members : (SeenMember → Bool) → SeenAggregate → Bool
seen_members of x = elim x.members [ None ↦ true | Some ms ↦ list_all of ms ]

each_seen : (p : Program) (of : Member → Bool) (rule : SeenMember → Bool) → ((m : Member) → of m ≡ rule (seen_member p m)) → (x : Aggregate) → each_member of x ≡ seen_members rule (seen_aggregate p x)
each_seen p of rule is x = by x.members
  where
    by : (o : Option (List Member)) → elim o as (λ _. Bool) [ None ↦ true | Some ms ↦ list_all of ms ] ≡ elim (option_map (map (seen_member p)) o) as (λ _. Bool) [ None ↦ true | Some ms ↦ list_all rule ms ]
    by None = refl
    by (Some ms) = all_seen (seen_member p) of rule is ms

abbrev seen_complete : SeenAggregate → Bool
seen_complete x = not (is_enum x.kind) || is_some x.members

complete_is : (p : Program) (x : Aggregate) → enum_is_complete x ≡ seen_complete (seen_aggregate p x)
complete_is p x = ap (λ b. not (is_enum x.kind) || b) (some_mapped (map (seen_member p)) x.members)

abbrev seen_fits : Bool → SeenMember → Bool
seen_fits enum m = cond enum (same_shape m.type (IntType int) && fits int m.value) (int_eq m.value (pos 0))

abbrev seen_kinds : SeenAggregate → Bool
seen_kinds x = seen_members (seen_fits (is_enum x.kind)) x

kinds_are : (p : Program) (x : Aggregate) → members_have_kind p.graph x ≡ seen_kinds (seen_aggregate p x)
kinds_are p x = each_seen p (member_fits p.graph (is_enum x.kind)) (seen_fits (is_enum x.kind)) (λ m. refl) x

abbrev seen_nonempty : List SeenMember → Bool
seen_nonempty [] = false
seen_nonempty (m ∷ ms) = true

abbrev seen_member_there : SeenAggregate → Bool
seen_member_there x = elim x.members [ None ↦ true | Some ms ↦ seen_nonempty ms ]

member_is_there : (p : Program) (x : Aggregate) → has_member x ≡ seen_member_there (seen_aggregate p x)
member_is_there p x = by x.members
  where
    by : (o : Option (List Member)) → elim o as (λ _. Bool) [ None ↦ true | Some ms ↦ is_nonempty ms ] ≡ elim (option_map (map (seen_member p)) o) as (λ _. Bool) [ None ↦ true | Some ms ↦ seen_nonempty ms ]
    by None = refl
    by (Some []) = refl
    by (Some (m ∷ ms)) = refl

abbrev seen_tagged : SeenAggregate → Bool
seen_tagged x = is_some x.tag

tag_there : (p : Program) (x : Aggregate) → has_tag x ≡ seen_tagged (seen_aggregate p x)
tag_there p x = some_mapped (Rattle.cil_tree.specs.View.text_at p.names) x.tag

-- a rule of each aggregate
rule_alike : (p q : Program) → SeenAlike p q → (f g : Aggregate → Bool) (rule : SeenAggregate → Bool) → ((x : Aggregate) → f x ≡ rule (seen_aggregate p x)) → ((x : Aggregate) → g x ≡ rule (seen_aggregate q x)) → list_all f p.graph.aggs ≡ true → list_all g q.graph.aggs ≡ true
rule_alike p q same f g rule a b all =
    all_seen (seen_aggregate q) g rule b q.graph.aggs ∙ sym (ap (list_all rule) same) ∙ sym (all_seen (seen_aggregate p) f rule a p.graph.aggs) ∙ all

-- order

abbrev no_enum : SeenAggregate → Bool
no_enum x = not (is_enum x.kind)

abbrev seen_first : List SeenAggregate → Bool
seen_first [] = true
seen_first (x ∷ xs) = cond (is_enum x.kind) (seen_first xs) (list_all no_enum xs)

first_seen : (p : Program) (xs : List Aggregate) → enums_first xs ≡ seen_first (map (seen_aggregate p) xs)
first_seen p [] = refl
first_seen p (x ∷ xs) =
    ap (λ b. cond (is_enum x.kind) b (list_all (λ (y : Aggregate). not (is_enum y.kind)) xs)) (first_seen p xs)
    ∙ ap (λ b. cond (is_enum x.kind) (seen_first (map (seen_aggregate p) xs)) b) (all_seen (seen_aggregate p) (λ (y : Aggregate). not (is_enum y.kind)) no_enum (λ y. refl) xs)

abbrev seen_behind : ℕ → SeenMember → Bool
seen_behind a m = holds_below a m.type && elements_below a m.type

abbrev seen_ordered : ℕ → List SeenAggregate → Bool
seen_ordered a [] = true
seen_ordered a (x ∷ xs) = seen_members (seen_behind a) x && seen_ordered (suc a) xs

ordered_seen : (p : Program) (a : ℕ) (xs : List Aggregate) → all_stand_after p.graph a xs ≡ seen_ordered a (map (seen_aggregate p) xs)
ordered_seen p a [] = refl
ordered_seen p a (x ∷ xs) =
    ap (λ b. b && all_stand_after p.graph (suc a) xs) (each_seen p (λ (m : Member). holds_below a (shape p.graph.nodes m.ty.of.0) && elements_below a (shape p.graph.nodes m.ty.of.0)) (seen_behind a) (λ m. refl) x)
    ∙ ap (λ b. seen_members (seen_behind a) (seen_aggregate p x) && b) (ordered_seen p (suc a) xs)

-- members of an arena's aggregates are complete, or a flexible array in its place
flexible_there : (g : Graph) → IsArena g → list_all (flexible_is_last g) g.aggs ≡ true
flexible_there g arena = all_from (flexible_is_last g) g.aggs (λ a x e. by a x e x.members refl)
  where
    by : (a : ℕ) (x : Aggregate) → slice_get g.aggs a ≡ Some x → (o : Option (List Member)) → x.members ≡ o → elim o as (λ _. Bool) [ None ↦ true | Some ms ↦ members_fit g x.kind false ms ] ≡ true
    by a x e None f = refl
    by a x e (Some ms) f = arena.fitting a x ms e f

types_alike : (p q : Program) → Equal p q → SeenAlike p q → Occurs p q → IsArena p.graph → IsArena q.graph → AreTypes p.graph → AreTypes q.graph
types_alike p q same seen occurs arena other types = record {
  fit = record {
    unqualified = nodes_keep q.graph other node_is_unqualified unqualified_shape (unqualified_is (shape q.graph.nodes))
        (carried p q occurs unqualified_shape (shapes_keep p.graph arena node_is_unqualified unqualified_shape (unqualified_is (shape p.graph.nodes)) types.fit.unqualified));
    members_unqualified = occurs.unqualified;
    enums_complete = rule_alike p q seen enum_is_complete enum_is_complete seen_complete (complete_is p) (complete_is q) types.fit.enums_complete;
    members_kind = rule_alike p q seen (members_have_kind p.graph) (members_have_kind q.graph) seen_kinds (kinds_are p) (kinds_are q) types.fit.members_kind;
    members = rule_alike p q seen has_member has_member seen_member_there (member_is_there p) (member_is_there q) types.fit.members;
    flexible = flexible_there q.graph other;
    arrays = nodes_keep q.graph other (array_fits q.graph) (array_shape q.graph.aggs) (array_is q.graph)
        (carried p q occurs (array_shape q.graph.aggs) (λ t low. sym (array_alike p q same (shape p.graph.nodes t)) ∙ shapes_keep p.graph arena (array_fits p.graph) (array_shape p.graph.aggs) (array_is p.graph) types.fit.arrays t low));
    functions = carried p q occurs function_fits types.fit.functions;
    prototypes = carried p q occurs prototype_fits types.fit.prototypes;
    small = small_alike p q same occurs types.fit.small;
    small_aggregates = λ a l e. types.fit.small_aggregates a l (agg_alike p q same a ∙ e);
  };
  tagged = rule_alike p q seen has_tag has_tag seen_tagged (tag_there p) (tag_there q) types.tagged;
  enums_first = first_seen q q.graph.aggs ∙ sym (ap seen_first seen) ∙ sym (first_seen p p.graph.aggs) ∙ types.enums_first;
  ordered = ordered_seen q 0 q.graph.aggs ∙ sym (ap (seen_ordered 0) seen) ∙ sym (ordered_seen p 0 p.graph.aggs) ∙ types.ordered;
}

pub well_formed_alike : (p q : Program) (u : CilUnit) → IsProgram p → SameProgram p q → Occurs p q → IsArena q.graph → program_of q.names u ≡ q → IsProgram q
well_formed_alike p q u is same occurs arena seen =
    let equal : Equal p q = record { abi = same.abi; aggregates = alike p q same; globals = same.globals } in
    record {
      arena = arena;
      unit = u;
      seen = seen;
      types = types_alike p q equal same.aggregates occurs is.arena arena is.types;
      names = names_alike p q same.abi same.aggregates same.globals is.names;
      globals = sym (ap (λ (f : GlobalDecl → Bool). list_all f p.globals) (λ i x. global_alike p q equal x i) ∙ ap (list_all (global_fits q)) same.globals) ∙ is.globals;
    }
