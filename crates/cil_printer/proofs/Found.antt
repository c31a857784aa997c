-- Device: what stands at a number of a list of the code.
use Rattle.std.proofs.Common.{◌≡◌, ℕ, zero, suc, ◌<◌, ◌≤◌, nat_lt, cond, Bool, true, false, length, arith, IfSome, List, [], ◌∷◌, Option, Some, None, slice_get, slice_index_or, map, refl, sym, ap, ◌∙◌, subst, rules}
use Rattle.std.specs.Option.{option_map, option_and_then}
use Rattle.std.proofs.lemmas.Option.{slice_get-map}
use Rattle.cil_base.specs.declared.numbers.AggId.{AggId}
use Rattle.cil_base.specs.declared.numbers.TypeId.{TypeId}
use Rattle.type_graph.specs.declared.nodes.Node.{Node}
use Rattle.type_graph.specs.declared.layout.Layout.{Layout}
use Rattle.type_graph.specs.declared.nodes.Node.TheVariants.{Agg}
use Rattle.type_graph.specs.declared.aggregates.Aggregate.{Aggregate}
use Rattle.type_graph.specs.declared.aggregates.Member.{Member}
use Rattle.type_graph.specs.Shapes.{Shape, VoidType, IntType, PtrType, ArrayType, FuncType, AggType, shape, shape_of}
use Rattle.type_graph.specs.Arena.{Graph, IsArena, EachBelow, members_of, rank}
use Rattle.type_graph.specs.Layouts.{layout}
use Rattle.layout_lp64.specs.declared.layouts.Layouts.{Layouts}
use Rattle.layout_lp64.specs.Tables.{found, InStep}
use Rattle.cil_tree.specs.declared.globals.CilUnit.{CilUnit}
use Rattle.cil_tree.specs.declared.globals.GlobalDecl.{GlobalDecl as Declaration}
use Rattle.cil_tree.specs.declared.globals.Local.{Local as Variable}
use Rattle.cil_base.specs.declared.numbers.NameId.{NameId}
use Rattle.cil_tree.specs.Tree.{GlobalDecl, Local, Program}
use Rattle.cil_tree.specs.View.{text_at, type_at, global_of, local_of, program_of}
use Rattle.cil_tree.specs.Typing.{global_at, global_type, member_of, member_at, local_type, is_enum}
use Rattle.cil_tree.specs.Declarators.{type_tokens}
use Rattle.cil_tree.specs.Text.{global_name, local_name}
use Rattle.cil_printer.specs.Output.{Output, puts}
use Rattle.cil_printer.specs.Seen.{seen}
use Rattle.cil_printer.proofs.Puts.{nothing_pushed}

at_global : (names : List (List ℕ)) (u : CilUnit) (n : ℕ) (o : Option Declaration) → slice_get u.globals.items n ≡ o → global_at (program_of names u) n ≡ option_map (global_of u.graph.nodes names) o
at_global names u n o e = slice_get-map (global_of u.graph.nodes names) u.globals.items n ∙ ap (option_map (global_of u.graph.nodes names)) e

pub global_named : (names : List (List ℕ)) (u : CilUnit) (n : ℕ) (x : Declaration) → slice_get u.globals.items n ≡ Some x → global_name (program_of names u) n ≡ text_at names x.name
global_named names u n x e = ap (λ (o : Option GlobalDecl). elim o [ None ↦ [] | Some y ↦ y.name ]) (at_global names u n (Some x) e)

pub global_unnamed : (names : List (List ℕ)) (u : CilUnit) (n : ℕ) → slice_get u.globals.items n ≡ None → global_name (program_of names u) n ≡ []
global_unnamed names u n e = ap (λ (o : Option GlobalDecl). elim o [ None ↦ [] | Some y ↦ y.name ]) (at_global names u n None e)

pub global_typed : (names : List (List ℕ)) (u : CilUnit) (n : ℕ) (o : Option Declaration) → slice_get u.globals.items n ≡ o → global_type (program_of names u) n ≡ seen u.graph.nodes (option_map (λ (x : Declaration). x.ty) o)
global_typed names u n None e = ap (option_and_then (λ (x : GlobalDecl). x.type)) (at_global names u n None e)
global_typed names u n (Some x) e = ap (option_and_then (λ (x : GlobalDecl). x.type)) (at_global names u n (Some x) e)

pub type_there : (nodes : List Node) (t : TypeId) → t.0 < length nodes → type_at nodes t ≡ Some (shape nodes t.0)
type_there nodes t h = ap (λ b. cond b (Some (shape nodes t.0)) None) (below t.0 (length nodes) h)
  where
    below : (m n : ℕ) → m < n → nat_lt m n ≡ true
    below m n h = grind arith

pub no_type : (nodes : List Node) (t : TypeId) → length nodes ≤ t.0 → type_at nodes t ≡ None
no_type nodes t h = ap (λ b. cond b (Some (shape nodes t.0)) None) (above t.0 (length nodes) h)
  where
    above : (m n : ℕ) → n ≤ m → nat_lt m n ≡ false
    above m n h = grind arith

pub type_below : (nodes : List Node) (t : TypeId) (k : ℕ) → t.0 < k → k < length nodes → seen nodes (Some t) ≡ Some (shape nodes t.0)
type_below nodes t k h i = type_there nodes t (omega (arith, h, i))

-- the layouts have the size of each type that is complete, and of no other
pub size_there : (l : Layouts) (g : Graph) (t : ℕ) → InStep l g → option_map (λ (x : Layout). x.size) (found l t) ≡ option_map (λ (x : Layout). x.size) (layout g t)
size_there l g t step = ap (option_map (λ (x : Layout). x.size)) (step.sizes t)

pub member_found : (g : Graph) (t n : ℕ) (a : AggId) (node : Node) (x : Aggregate) (o : Option Member) → shape g.nodes t ≡ shape_of (shape g.nodes) node → node ≡ Agg a → slice_get g.aggs a.0 ≡ Some x → o ≡ member_of g x n → o ≡ member_at g (shape g.nodes t) n
member_found g t n a node x o s is e h = h ∙ sym (ap (λ u. member_at g u n) (s ∙ ap (shape_of (shape g.nodes)) is) ∙ ap (option_and_then (λ (y : Aggregate). member_of g y n)) e)

pub local_named : (nodes : List Node) (names : List (List ℕ)) (xs : List Variable) (n : ℕ) (x : Variable) → slice_get xs n ≡ Some x → local_name (map (local_of nodes names) xs) n ≡ text_at names x.name
local_named nodes names xs n x e = ap (λ (o : Option Local). elim o [ None ↦ [] | Some y ↦ y.name ]) (slice_get-map (local_of nodes names) xs n ∙ ap (option_map (local_of nodes names)) e)

pub local_unnamed : (nodes : List Node) (names : List (List ℕ)) (xs : List Variable) (n : ℕ) → slice_get xs n ≡ None → local_name (map (local_of nodes names) xs) n ≡ []
local_unnamed nodes names xs n e = ap (λ (o : Option Local). elim o [ None ↦ [] | Some y ↦ y.name ]) (slice_get-map (local_of nodes names) xs n ∙ ap (option_map (local_of nodes names)) e)

pub local_typed : (nodes : List Node) (names : List (List ℕ)) (xs : List Variable) (n : ℕ) (o : Option Variable) → slice_get xs n ≡ o → local_type (map (local_of nodes names) xs) n ≡ seen nodes (option_map (λ (x : Variable). x.ty) o)
local_typed nodes names xs n None e = ap (option_and_then (λ (x : Local). x.type)) (slice_get-map (local_of nodes names) xs n ∙ ap (option_map (local_of nodes names)) e)
local_typed nodes names xs n (Some x) e = ap (option_and_then (λ (x : Local). x.type)) (slice_get-map (local_of nodes names) xs n ∙ ap (option_map (local_of nodes names)) e)

pub label_named : (names : List (List ℕ)) (xs : List NameId) (n : ℕ) (x : NameId) → slice_get xs n ≡ Some x → slice_index_or (map (text_at names) xs) n [] ≡ text_at names x
label_named names [] n x e = cc
label_named names (y ∷ xs) zero x e = let same : y ≡ x = cc in ap (text_at names) same
label_named names (y ∷ xs) (suc n) x e = label_named names xs n x e

pub label_unnamed : (names : List (List ℕ)) (xs : List NameId) (n : ℕ) → slice_get xs n ≡ None → slice_index_or (map (text_at names) xs) n [] ≡ []
label_unnamed names [] zero e = refl
label_unnamed names [] (suc n) e = refl
label_unnamed names (y ∷ xs) zero e = cc
label_unnamed names (y ∷ xs) (suc n) e = label_unnamed names xs n e

pub each_there : (nodes : List Node) (order : List AggId) (r : ℕ) (ms : List Member) (n : ℕ) (m : Member) → EachBelow nodes order r ms → slice_get ms n ≡ Some m → m.ty.of.0 < length nodes
each_there nodes order r [] n m b e = absurd (none e)
  where
    none : {A : Type 0} {x : A} → slice_get [] n ≡ Some x → ⊥
    none e = cc
each_there nodes order r (y ∷ ms) zero m b e = let same : y ≡ m = cc in subst (λ (z : Member). z.ty.of.0 < length nodes) same b.0
each_there nodes order r (y ∷ ms) (suc n) m b e = each_there nodes order r ms n m b.2 e

-- a member's type is one of the arena's
member_at_there : (g : Graph) (s : Shape) (n : ℕ) (m : Member) → IsArena g → member_at g s n ≡ Some m → m.ty.of.0 < length g.nodes
member_at_there g VoidType n m is e = absurd (unlike e)
  where
    unlike : None ≡ Some m → ⊥
    unlike e = cc
member_at_there g (IntType kind) n m is e = absurd (unlike e)
  where
    unlike : None ≡ Some m → ⊥
    unlike e = cc
member_at_there g (PtrType q s) n m is e = absurd (unlike e)
  where
    unlike : None ≡ Some m → ⊥
    unlike e = cc
member_at_there g (ArrayType q s bound) n m is e = absurd (unlike e)
  where
    unlike : None ≡ Some m → ⊥
    unlike e = cc
member_at_there g (FuncType ret params proto variadic) n m is e = absurd (unlike e)
  where
    unlike : None ≡ Some m → ⊥
    unlike e = cc
member_at_there g (AggType a) n m is e = by (slice_get g.aggs a) refl e
  where
    listed : (x : Aggregate) (o : Option (List Member)) → members_of g.aggs a ≡ o → option_and_then (λ (ms : List Member). slice_get ms n) o ≡ Some m → m.ty.of.0 < length g.nodes
    listed x None q e = absurd (unlike e)
      where
        unlike : None ≡ Some m → ⊥
        unlike e = cc
    listed x (Some ms) q e = each_there g.nodes g.completed (rank g.completed a) ms n m (is.nested a ms q).1 e

    of_kind : (x : Aggregate) (b : Bool) → members_of g.aggs a ≡ x.members → cond b None (option_and_then (λ (ms : List Member). slice_get ms n) x.members) ≡ Some m → m.ty.of.0 < length g.nodes
    of_kind x true q e = absurd (unlike e)
      where
        unlike : None ≡ Some m → ⊥
        unlike e = cc
    of_kind x false q e = listed x x.members q e

    by : (o : Option Aggregate) → slice_get g.aggs a ≡ o → option_and_then (λ (x : Aggregate). member_of g x n) o ≡ Some m → m.ty.of.0 < length g.nodes
    by None q e = absurd (unlike e)
      where
        unlike : None ≡ Some m → ⊥
        unlike e = cc
    by (Some x) q e = of_kind x (is_enum x.kind) (ap (option_and_then (λ (y : Aggregate). y.members)) q) e

pub member_there : (g : Graph) (s : Option Shape) (n : ℕ) (o : Option Member) → IsArena g → o ≡ option_and_then (λ t. member_at g t n) s → IfSome o (λ m. m.ty.of.0 < length g.nodes)
member_there g s n None is e = search rules
member_there g None n (Some m) is e = absurd (unlike e)
  where
    unlike : Some m ≡ None → ⊥
    unlike e = cc
member_there g (Some t) n (Some m) is e = member_at_there g t n m is (sym e)

pub no_type_name : (o : Output) (p : Program) (t : TypeId) → type_at p.graph.nodes t ≡ None → puts o (type_tokens p (type_at p.graph.nodes t) []) ≡ o
no_type_name o p t e = ap (λ u. puts o (type_tokens p u [])) e ∙ sym (nothing_pushed o)
