-- Device: the definitions of a well-formed program have a meaning: what is defined is complete, and paths and constants of images lead to what is there.
use Rattle.std.proofs.Common.{◌≡◌, ℕ, ◌<◌, Bool, true, false, ◌&&◌, not, List, [], ◌∷◌, length, is_some, slice_get, replicate, Option, Some, None, refl, sym, ap, ◌∙◌, subst}
use Rattle.std.specs.List.{list_all}
use Rattle.std.specs.Option.{option_map, option_and_then}
use Rattle.std.proofs.lemmas.Option.{slice_get_within, slice_get-get_or}
use Rattle.byte_mem.specs.declared.values.Byte.{Byte}
use Rattle.byte_mem.specs.declared.values.Byte.TheVariants.{Known}
use Rattle.byte_mem.specs.declared.values.Scalar.{Scalar}
use Rattle.byte_mem.specs.declared.values.Value.{Value}
use Rattle.byte_mem.specs.Steps.{◌>>=◌}
use Rattle.byte_mem.specs.Scalar.{bytes_of}
use Rattle.byte_mem.specs.Object.{with_part}
use Rattle.cil_base.specs.declared.constants.Constant.{Constant}
use Rattle.cil_base.specs.declared.constants.Constant.TheVariants.{Int as Number, Address, Function as Code}
use Rattle.type_graph.specs.declared.layout.Layout.{Layout}
use Rattle.type_graph.specs.Shapes.{Shape, VoidType, IntType, PtrType, ArrayType, FuncType, AggType, shape}
use Rattle.type_graph.specs.Arena.{Graph, IsArena, complete_shape}
use Rattle.type_graph.specs.Layouts.{layout}
use Rattle.type_graph.proofs.LayoutLaws.{layout_there}
use Rattle.cil_tree.specs.Tree.{Program, GlobalDecl, Item, Body, Definition, Declared, Zeros, Image, Function}
use Rattle.cil_tree.specs.Typing.{is_scalar, is_function, global_type}
use Rattle.cil_tree.specs.Text.{is_function_type}
use Rattle.cil_tree.specs.Names.{is_declared}
use Rattle.cil_tree.specs.Globals.{Part, path_part, is_object, constant_fits, item_fits, has_definition, object_is_complete, definition_fits, is_nonempty}
use Rattle.typed_values.specs.Values.{scalar_kind, aggregate_kind}
use Rattle.cil_semantics.specs.Values.{size_in, scalar_in}
use Rattle.typed_values.specs.Units.{constant_value}
use Rattle.cil_semantics.specs.Runs.{item_written, with_item, with_items, zeros, object, definition_meaning, function_meaning}

pub both : (p q : Bool) → p && q ≡ true → (p ≡ true) × (q ≡ true)
both true q e = (refl, e)
both false q e = cc

pub some_of : {A : Type 0} (o : Option A) → is_some o ≡ true → (a : A) × (o ≡ Some a)
some_of None e = cc
some_of (Some a) e = (a, refl)

scalar_there : (g : Graph) (s : Shape) → is_scalar g s ≡ true → is_some (scalar_in g s) ≡ true
scalar_there g VoidType e = cc
scalar_there g (IntType kind) e = refl
scalar_there g (PtrType q s) e = refl
scalar_there g (ArrayType q s bound) e = cc
scalar_there g (FuncType ret params proto variadic) e = cc
scalar_there g (AggType a) e = ap (λ b. is_some (aggregate_kind b (size_in g (AggType a)) >>= scalar_kind)) e

-- what an item writes, and where
pub record Writes (p : Program) (es : List ℕ) (s : Shape) (x : Item) : Type 0 where
  pub part : Part
  pub path : path_part p.graph x.path (s, 0) ≡ Some part
  pub is_scalar : is_scalar p.graph part.0 ≡ true
  pub scalar : Scalar
  pub kind : scalar_in p.graph part.0 ≡ Some scalar
  pub value : Value
  pub means : constant_value es x.value ≡ Some value

module _ (p : Program) (es : List ℕ) (all : length es ≡ length p.globals) where
  number_there : (n : ℕ) → is_some (global_type p n) ≡ true → is_some (slice_get es n) ≡ true
  number_there n e = by (slice_get p.globals n) refl e
    where
      by : (o : Option GlobalDecl) → slice_get p.globals n ≡ o → is_some (option_and_then (λ (x : GlobalDecl). x.type) o) ≡ true → is_some (slice_get es n) ≡ true
      by None at e = cc
      by (Some x) at e = ap is_some (slice_get-get_or es n 0 (subst (λ k. n < k) (sym all) (slice_get_within p.globals n x at)))

  object_there : (n : ℕ) → is_object p n ≡ true → is_some (global_type p n) ≡ true
  object_there n e = by (global_type p n) e
    where
      by : (o : Option Shape) → elim o [ None ↦ false | Some s ↦ not (is_function s) ] ≡ true → is_some o ≡ true
      by None e = cc
      by (Some s) e = refl

  function_there : (o : Option Shape) → is_function_type o ≡ true → is_some o ≡ true
  function_there None e = cc
  function_there (Some s) e = refl

  found : {A : Type 0} (o : Option ℕ) (f : ℕ → A) → is_some o ≡ true → is_some (o >>= λ n. Some (f n)) ≡ true
  found None f e = cc
  found (Some n) f e = refl

  value_there : (s : Shape) (v : Constant) → constant_fits p s v ≡ true → is_some (constant_value es v) ≡ true
  value_there s (Number kind v) e = refl
  value_there VoidType (Address object at) e = cc
  value_there (IntType kind) (Address object at) e = cc
  value_there (PtrType q s) (Address object at) e = found (slice_get es object.0) _ (number_there object.0 (object_there object.0 (both (is_object p object.0) _ e).0))
  value_there (ArrayType q s bound) (Address object at) e = cc
  value_there (FuncType ret params proto variadic) (Address object at) e = cc
  value_there (AggType a) (Address object at) e = cc
  value_there VoidType (Code function) e = cc
  value_there (IntType kind) (Code function) e = cc
  value_there (PtrType q s) (Code function) e = found (slice_get es function.0) _ (number_there function.0 (function_there (global_type p function.0) e))
  value_there (ArrayType q s bound) (Code function) e = cc
  value_there (FuncType ret params proto variadic) (Code function) e = cc
  value_there (AggType a) (Code function) e = cc

  pub item_writes : (s : Shape) (x : Item) → item_fits p s x ≡ true → Writes p es s x
  item_writes s x e = by (path_part p.graph x.path (s, 0)) refl e
    where
      by : (o : Option Part) → path_part p.graph x.path (s, 0) ≡ o → elim o [ None ↦ false | Some part ↦ is_scalar p.graph part.0 && constant_fits p part.0 x.value ] ≡ true → Writes p es s x
      by None at e = cc
      by (Some part) at e =
          let h = both (is_scalar p.graph part.0) (constant_fits p part.0 x.value) e in
          let t = some_of (scalar_in p.graph part.0) (scalar_there p.graph part.0 h.0) in
          let v = some_of (constant_value es x.value) (value_there part.0 x.value h.1) in
          record { part = part; path = at; is_scalar = h.0; scalar = t.0; kind = t.1; value = v.0; means = v.1 }

  pub item_is : (s : Shape) (x : Item) (w : Writes p es s x) (bytes : List Byte) → with_item p.graph es s x bytes ≡ Some (with_part w.part.1 (bytes_of p.graph.abi w.scalar w.value) bytes)
  item_is s x w bytes =
      ap (λ (o : Option Part). o >>= λ part. item_written p.graph es x.value part bytes) w.path
      ∙ ap (λ (o : Option Scalar). o >>= λ t. constant_value es x.value >>= λ v. Some (with_part w.part.1 (bytes_of p.graph.abi t v) bytes)) w.kind
      ∙ ap (λ (o : Option Value). o >>= λ v. Some (with_part w.part.1 (bytes_of p.graph.abi w.scalar v) bytes)) w.means

  pub items_there : (s : Shape) (xs : List Item) (bytes : List Byte) → list_all (item_fits p s) xs ≡ true → is_some (with_items p.graph es s xs bytes) ≡ true
  items_there s [] bytes e = refl
  items_there s (x ∷ xs) bytes e =
      let h = both (item_fits p s x) (list_all (item_fits p s) xs) e in
      let w = item_writes s x h.0 in
      ap (λ (o : Option (List Byte)). is_some (o >>= with_items p.graph es s xs)) (item_is s x w bytes) ∙ items_there s xs (with_part w.part.1 (bytes_of p.graph.abi w.scalar w.value) bytes) h.1

  bytes_there : (o : Option (List Byte)) → is_some o ≡ true → is_some (object o) ≡ true
  bytes_there None e = cc
  bytes_there (Some bytes) e = refl

  zeros_there : (t : ℕ) → IsArena p.graph → complete_shape p.graph.aggs (shape p.graph.nodes t) ≡ true → (bytes : List Byte) × (zeros p.graph (shape p.graph.nodes t) ≡ Some bytes)
  zeros_there t arena e = by (layout p.graph t) refl (layout_there p.graph arena t ∙ e)
    where
      by : (o : Option Layout) → layout p.graph t ≡ o → is_some o ≡ true → (bytes : List Byte) × (zeros p.graph (shape p.graph.nodes t) ≡ Some bytes)
      by None is e = cc
      by (Some l) is e = some_of (zeros p.graph (shape p.graph.nodes t)) (ap (λ (o : Option Layout). is_some (option_map (λ (l : Layout). l.size) o >>= λ n. Some (replicate n (Known 0)))) is)

  function_means : (main : Bool) (b : Body) (s : Shape) → is_function s ≡ true → is_some (function_meaning p es main b s) ≡ true
  function_means main b VoidType e = cc
  function_means main b (IntType kind) e = cc
  function_means main b (PtrType q s) e = cc
  function_means main b (ArrayType q s bound) e = cc
  function_means main b (FuncType ret params proto variadic) e = refl
  function_means main b (AggType a) e = cc

  -- a definition that fits has a meaning
  pub definition_there : (t : ℕ) (main : Bool) (d : Definition) → IsArena p.graph → has_definition (shape p.graph.nodes t) d ≡ true → object_is_complete p.graph (shape p.graph.nodes t) d ≡ true → definition_fits p (shape p.graph.nodes t) d ≡ true
      → is_declared d ≡ false → is_some (definition_meaning p es main (shape p.graph.nodes t) d) ≡ true
  definition_there t main Declared arena has complete fits e = cc
  definition_there t main Zeros arena has complete fits e =
      let z = zeros_there t arena complete in
      bytes_there (zeros p.graph (shape p.graph.nodes t)) (ap is_some z.1)
  definition_there t main (Image items) arena has complete fits e =
      let z = zeros_there t arena complete in
      let all_fit = (both (list_all (item_fits p (shape p.graph.nodes t)) items) _ (both (is_nonempty items) _ fits).1).0 in
      bytes_there (zeros p.graph (shape p.graph.nodes t) >>= with_items p.graph es (shape p.graph.nodes t) items) (ap (λ (o : Option (List Byte)). is_some (o >>= with_items p.graph es (shape p.graph.nodes t) items)) z.1 ∙ items_there (shape p.graph.nodes t) items z.0 all_fit)
  definition_there t main (Function body) arena has complete fits e = function_means main body (shape p.graph.nodes t) has
