-- Device: an object that is made of zeros and written into is what the definition starts with.
use Rattle.std.proofs.Common.{◌≡◌, ℕ, zero, suc, ◌+◌, ◌<◌, ◌≤◌, Bool, true, false, List, [], ◌∷◌, ◌++◌, length, map, take, get_or, slice_get, is_some, IsSome, IfSome, Option, Some, None, Result, Ok, Err, OnOk, option_map, replicate, refl, sym, ap, ◌∙◌, subst, arith}
use Rattle.std.specs.List.{list_all}
use Rattle.std.specs.declared.vec.Vec.{Vec}
use Rattle.std.proofs.Common.{Global}
use Rattle.cil_base.specs.declared.numbers.EntityId.{EntityId}
use Rattle.cil_base.specs.declared.numbers.UnitNo.{UnitNo}
use Rattle.byte_mem.specs.declared.pointers.ObjName.{ObjName}
use Rattle.byte_mem.specs.declared.pointers.ObjName.TheVariants.{Entity, Local, Literal, Heap, Argument}
use Rattle.byte_mem.specs.declared.values.Byte.{Byte}
use Rattle.byte_mem.specs.declared.values.Byte.TheVariants.{Known}
use Rattle.byte_mem.specs.declared.stores.Store.{Store}
use Rattle.byte_mem.specs.Steps.{◌>>=◌}
use Rattle.byte_mem.specs.Object.{Held, new_held, function_held}
use Rattle.byte_mem.specs.Layers.{slot}
use Rattle.byte_mem.specs.Memory.{Memory, no_memory, with_held, make, make_function}
use Rattle.byte_mem.specs.Store.{memory, Becomes, Put}
use Rattle.byte_mem.proofs.StoreLemmas.{same_memory}
use Rattle.byte_mem.proofs.AgainLemmas.{held_here}
use Rattle.byte_mem.proofs.ObjectLemmas.{replicate_long}
use Rattle.type_graph.specs.declared.layout.Layout.{Layout}
use Rattle.type_graph.specs.Shapes.{Shape, VoidType, IntType, PtrType, ArrayType, FuncType, AggType, shape}
use Rattle.type_graph.specs.Arena.{Graph, complete_shape}
use Rattle.type_graph.specs.Layouts.{layout}
use Rattle.type_graph.proofs.LayoutLaws.{layout_there}
use Rattle.layout_lp64.specs.Tables.{found}
use Rattle.execution.specs.Runs.{writable, entity_held, memory_of}
use Rattle.cil_tree.specs.declared.globals.Body as code_body
use Rattle.cil_tree.specs.declared.globals.ImageItem.{ImageItem}
use Rattle.cil_tree.specs.declared.globals.GlobalDecl.{GlobalDecl}
use Rattle.cil_tree.specs.declared.globals.GlobalDef.{GlobalDef}
use Rattle.cil_tree.specs.declared.globals.GlobalDef.TheVariants as code
use Rattle.cil_tree.specs.Tree as plain
use Rattle.cil_tree.specs.Tree.{Item, Program, Body}
use Rattle.cil_tree.specs.Typing.{is_function}
use Rattle.cil_tree.specs.View.{item_of, body_of, definition_of, global_of}
use Rattle.cil_tree.specs.Globals.{item_fits, global_fits, is_nonempty, has_definition, object_is_complete, definition_fits}
use Rattle.cil_semantics.specs.Values.{size_in}
use Rattle.cil_semantics.specs.Runs.{with_item, with_items, zeros, object, global_meaning, definition_meaning, function_meaning, is_main}
use Rattle.cil_start.specs.declared.loaded.Loaded.{Loaded}
use Rattle.cil_link.specs.declared.entities.Definer.{Definer}
use Rattle.cil_link.specs.declared.entities.Definer.TheVariants.{Global as OfGlobal}
use Rattle.cil_start.specs.Loads.{program_in, IsReady, IsObject, items_held, image_held, global_held, definer_held, loaded_in}
use Rattle.cil_link.specs.Entities.{InRun, global_meant}
use Rattle.cil_link.proofs.Definitions.{both}
use Rattle.cil_start.proofs.Writings.{held_itself, held_twice}
use Rattle.cil_start.proofs.WordLaws.{entities_push}
use Rattle.cil_link.proofs.Programs.{Fits, global_is, each_at, global_there}

pub size_there : (l : Loaded) (t : ℕ) → IsReady l → complete_shape l.unit.now.graph.aggs (shape l.unit.now.graph.nodes t) ≡ true → IsSome (found l.layouts.now t)
size_there l t ready e = ap is_some (ready.step.sizes t) ∙ (layout_there l.unit.now.graph ready.program.arena t ∙ e)

pub size_is : (l : Loaded) (t n : ℕ) → IsReady l → complete_shape l.unit.now.graph.aggs (shape l.unit.now.graph.nodes t) ≡ true → IfSome (found l.layouts.now t) (λ x. n ≡ x.size) → size_in l.unit.now.graph (shape l.unit.now.graph.nodes t) ≡ Some n
size_is l t n ready e told = by (found l.layouts.now t) (layout l.unit.now.graph t) (ready.step.sizes t) (size_there l t ready e) told
  where
    by : (o u : Option Layout) → o ≡ u → IsSome o → IfSome o (λ x. n ≡ x.size) → option_map (λ (l : Layout). l.size) u ≡ Some n
    by None u e there told = absurd (cc)
    by (Some x) u e there told = sym (ap (option_map (λ (l : Layout). l.size)) e) ∙ ap Some (sym told)

items_nothing : (g : Graph) (es : List ℕ) (s : Shape) (xs : List Item) → items_held g es s xs None ≡ None
items_nothing g es s [] = refl
items_nothing g es s (x ∷ xs) = items_nothing g es s xs

items_are : (g : Graph) (es : List ℕ) (s : Shape) (xs : List Item) (bytes : List Byte) → items_held g es s xs (Some (writable bytes)) ≡ entity_held (object (with_items g es s xs bytes))
items_are g es s [] bytes = refl
items_are g es s (x ∷ xs) bytes = by (with_item g es s x bytes) (λ bs. items_are g es s xs bs)
  where
    by : (o : Option (List Byte)) → ((bs : List Byte) → items_held g es s xs (Some (writable bs)) ≡ entity_held (object (with_items g es s xs bs))) → items_held g es s xs (o >>= λ bs. Some (writable bs)) ≡ entity_held (object (o >>= with_items g es s xs))
    by None again = items_nothing g es s xs
    by (Some bs) again = again bs

pub begun_object : (g : Graph) (s : Shape) (size : ℕ) (old mid : Store) (e : EntityId) → size_in g s ≡ Some size → Becomes old mid (make (memory old) (Entity e) size (Known 0) false) → IsObject g s (memory mid (Entity e))
begun_object g s size old mid e is b = record {
  bytes = replicate size (Known 0);
  is = ap (λ (m : Memory). m (Entity e)) b.0 ∙ held_here (memory old) (Entity e) (Some (new_held size (Known 0) false));
  size = is ∙ ap Some (sym (replicate_long size (Known 0)));
}

pub made_object : (g : Graph) (es : List ℕ) (s : Shape) (size : ℕ) (old mid new : Store) (e : EntityId) (xs : List Item) → size_in g s ≡ Some size → Becomes old mid (make (memory old) (Entity e) size (Known 0) false)
    → Becomes mid new (with_held (memory mid) (Entity e) (items_held g es s xs (memory mid (Entity e)))) → Becomes old new (with_held (memory old) (Entity e) (image_held g es s xs))
made_object g es s size old mid new e xs is b c =
    let n = Entity e in
    let bytes = replicate size (Known 0) in
    let begun : memory mid n ≡ Some (writable bytes) = ap (λ (m : Memory). m n) b.0 ∙ held_here (memory old) n (Some (new_held size (Known 0) false)) in
    let image : items_held g es s xs (memory mid n) ≡ image_held g es s xs =
    ap (items_held g es s xs) begun ∙ items_are g es s xs bytes ∙ sym (ap (λ (o : Option ℕ). entity_held (object ((o >>= λ k. Some (replicate k (Known 0))) >>= with_items g es s xs))) is) in
    (c.0 ∙ ap (λ (m : Memory). with_held m n (items_held g es s xs (memory mid n))) b.0 ∙ held_twice (memory old) n (Some (new_held size (Known 0) false)) (items_held g es s xs (memory mid n)) ∙ ap (with_held (memory old) n) image, c.1 ∙ b.1)

-- nothing is live where nothing was
absent_is : (m : Memory) (n : ObjName) (o : Option Held) → m n ≡ None → o ≡ None → m ≡ with_held m n o
absent_is m n o e f = sym (held_itself m n) ∙ ap (with_held m n) (e ∙ sym f)

pub nothing_made : (s : Store) (e : EntityId) (o : Option Held) → memory s (Entity e) ≡ None → o ≡ None → Becomes s s (with_held (memory s) (Entity e) o)
nothing_made s e o absent is = (absent_is (memory s) (Entity e) o absent is, refl)

pub function_made : (old new : Store) (e : EntityId) (o : Option Held) → o ≡ Some function_held → Becomes old new (make_function (memory old) (Entity e)) → Becomes old new (with_held (memory old) (Entity e) o)
function_made old new e o is b = (b.0 ∙ ap (with_held (memory old) (Entity e)) (sym is), b.1)

-- the same, where the call may want memory
pub moved_on : {E : Type 0} (r : Result (Unit {0}) E) (old new : Store) (e : EntityId) (o q : Option Held) → o ≡ q → OnOk r (Becomes old new (with_held (memory old) (Entity e) o)) → OnOk r (Becomes old new (with_held (memory old) (Entity e) q))
moved_on r old new e o q same h = subst (λ (x : Option Held). OnOk r (Becomes old new (with_held (memory old) (Entity e) x))) same h

pub function_on : {E : Type 0} (r : Result (Unit {0}) E) (old new : Store) (e : EntityId) (o : Option Held) → o ≡ Some function_held → Put r old new (make_function (memory old) (Entity e)) → OnOk r (Becomes old new (with_held (memory old) (Entity e) o))
function_on (Ok u) old new e o is h = function_made old new e o is h
function_on (Err x) old new e o is h = tt

-- what is known of a global by its definition
module _ (l : Loaded) (x : GlobalDecl) (fits : global_fits (program_in l) (global_of l.unit.now.graph.nodes l.names.now x) ≡ true) where
  all : Fits (program_in l) x.ty.0 (global_of l.unit.now.graph.nodes l.names.now x)
  all = global_is l.unit.now l.names.now x fits

  pub type_there : x.ty.0 < length l.unit.now.graph.nodes
  type_there = all.there

  pub zero_complete : x.def ≡ code.Zero → complete_shape l.unit.now.graph.aggs (shape l.unit.now.graph.nodes x.ty.0) ≡ true
  zero_complete e = subst (λ (d : GlobalDef). object_is_complete l.unit.now.graph (shape l.unit.now.graph.nodes x.ty.0) (definition_of l.unit.now.graph.nodes l.names.now d) ≡ true) e all.complete

  pub image_complete : (v : Vec ImageItem Global) → x.def ≡ code.Image v → complete_shape l.unit.now.graph.aggs (shape l.unit.now.graph.nodes x.ty.0) ≡ true
  image_complete v e = subst (λ (d : GlobalDef). object_is_complete l.unit.now.graph (shape l.unit.now.graph.nodes x.ty.0) (definition_of l.unit.now.graph.nodes l.names.now d) ≡ true) e all.complete

  pub image_items_fit : (v : Vec ImageItem Global) (items : List ImageItem) → x.def ≡ code.Image v → items ≡ v.items → list_all (item_fits (program_in l) (shape l.unit.now.graph.nodes x.ty.0)) (map item_of items) ≡ true
  image_items_fit v items e same =
      let image = subst (λ (d : GlobalDef). definition_fits (program_in l) (shape l.unit.now.graph.nodes x.ty.0) (definition_of l.unit.now.graph.nodes l.names.now d) ≡ true) e all.definition in
      let fit = (both (list_all (item_fits (program_in l) (shape l.unit.now.graph.nodes x.ty.0)) (map item_of v.items)) _ (both (is_nonempty (map item_of v.items)) _ image).1).0 in
      ap (λ (xs : List ImageItem). list_all (item_fits (program_in l) (shape l.unit.now.graph.nodes x.ty.0)) (map item_of xs)) same ∙ fit

  means_as : (es : List ℕ) → global_meaning (program_in l) (global_of l.unit.now.graph.nodes l.names.now x) es
      ≡ definition_meaning (program_in l) es (is_main (global_of l.unit.now.graph.nodes l.names.now x)) (shape l.unit.now.graph.nodes x.ty.0) (definition_of l.unit.now.graph.nodes l.names.now x.def)
  means_as es = ap (λ (o : Option Shape). o >>= λ s. definition_meaning (program_in l) es (is_main (global_of l.unit.now.graph.nodes l.names.now x)) s (definition_of l.unit.now.graph.nodes l.names.now x.def)) all.type

  definition_is : (es : List ℕ) (d : GlobalDef) → x.def ≡ d → global_held (program_in l) es (global_of l.unit.now.graph.nodes l.names.now x)
      ≡ entity_held (definition_meaning (program_in l) es (is_main (global_of l.unit.now.graph.nodes l.names.now x)) (shape l.unit.now.graph.nodes x.ty.0) (definition_of l.unit.now.graph.nodes l.names.now d))
  definition_is es d e =
      ap entity_held (means_as es ∙ ap (λ (c : GlobalDef). definition_meaning (program_in l) es (is_main (global_of l.unit.now.graph.nodes l.names.now x)) (shape l.unit.now.graph.nodes x.ty.0) (definition_of l.unit.now.graph.nodes l.names.now c)) e)

  pub declared_held : (es : List ℕ) → x.def ≡ code.Declared → global_held (program_in l) es (global_of l.unit.now.graph.nodes l.names.now x) ≡ None
  declared_held es e = definition_is es code.Declared e

  pub zero_held : (es : List ℕ) → x.def ≡ code.Zero → image_held l.unit.now.graph es (shape l.unit.now.graph.nodes x.ty.0) [] ≡ global_held (program_in l) es (global_of l.unit.now.graph.nodes l.names.now x)
  zero_held es e = ap (λ (o : Option (List Byte)). entity_held (object o)) (same (zeros l.unit.now.graph (shape l.unit.now.graph.nodes x.ty.0))) ∙ sym (definition_is es code.Zero e)
    where
      same : (o : Option (List Byte)) → (o >>= with_items l.unit.now.graph es (shape l.unit.now.graph.nodes x.ty.0) []) ≡ o
      same None = refl
      same (Some bytes) = refl

  pub image_is : (es : List ℕ) (v : Vec ImageItem Global) (items : List ImageItem) → x.def ≡ code.Image v → items ≡ v.items → image_held l.unit.now.graph es (shape l.unit.now.graph.nodes x.ty.0) (map item_of items) ≡ global_held (program_in l) es (global_of l.unit.now.graph.nodes l.names.now x)
  image_is es v items e same = ap (λ (xs : List ImageItem). image_held l.unit.now.graph es (shape l.unit.now.graph.nodes x.ty.0) (map item_of xs)) same ∙ sym (definition_is es (code.Image v) e)

  function_means : (es : List ℕ) (main : Bool) (b : Body) (s : Shape) → is_function s ≡ true → entity_held (function_meaning (program_in l) es main b s) ≡ Some function_held
  function_means es main b VoidType e = cc
  function_means es main b (IntType kind) e = cc
  function_means es main b (PtrType q s) e = cc
  function_means es main b (ArrayType q s bound) e = cc
  function_means es main b (FuncType ret params proto variadic) e = refl
  function_means es main b (AggType a) e = cc

  pub function_is : (es : List ℕ) (b : code_body.Body) → x.def ≡ code.Body b → global_held (program_in l) es (global_of l.unit.now.graph.nodes l.names.now x) ≡ Some function_held
  function_is es b e =
      let function = subst (λ (d : GlobalDef). has_definition (shape l.unit.now.graph.nodes x.ty.0) (definition_of l.unit.now.graph.nodes l.names.now d) ≡ true) e all.has in
      definition_is es (code.Body b) e ∙ function_means es (is_main (global_of l.unit.now.graph.nodes l.names.now x)) (body_of l.unit.now.graph.nodes l.names.now b) (shape l.unit.now.graph.nodes x.ty.0) function

-- the global that defines an entity fits
pub global_at : (l : Loaded) (n : ℕ) (r : GlobalDecl) → IsReady l → n < length l.unit.now.globals.items → r ≡ get_or l.unit.now.globals.items n r → global_fits (program_in l) (global_of l.unit.now.graph.nodes l.names.now r) ≡ true
global_at l n r ready h e =
    each_at (global_fits (program_in l)) (program_in l).globals n (global_of l.unit.now.graph.nodes l.names.now r) ready.program.globals (global_there l.unit.now l.names.now n r h e)

pub global_means : (units : List InRun) (l : Loaded) (k : UnitNo) (e : EntityId) (r : GlobalDecl) → slice_get units k.0 ≡ Some (loaded_in l) → e.0 < length l.unit.now.globals.items → r ≡ get_or l.unit.now.globals.items e.0 r
    → definer_held units (OfGlobal k e) ≡ global_held (program_in l) l.entities.now (global_of l.unit.now.graph.nodes l.names.now r)
global_means units l k e r unit h is =
    ap (λ (o : Option InRun). entity_held (o >>= λ u. global_meant u e.0)) unit
    ∙ ap (λ (o : Option plain.GlobalDecl). entity_held (o >>= λ y. global_meaning (program_in l) y l.entities.now)) (global_there l.unit.now l.names.now e.0 r h is)

pub numbered_made : {E : Type 0} (units : List InRun) (l : Loaded) (res : Result (Unit {0}) E) (old new : Store) (n e : EntityId) (k : UnitNo) (r : GlobalDecl) → slice_get units k.0 ≡ Some (loaded_in l)
    → e.0 < length l.unit.now.globals.items → r ≡ get_or l.unit.now.globals.items e.0 r
    → OnOk res (Becomes old new (with_held (memory old) (Entity n) (global_held (program_in l) l.entities.now (global_of l.unit.now.graph.nodes l.names.now r)))) → OnOk res (Becomes old new (with_held (memory old) (Entity n) (definer_held units (OfGlobal k e))))
numbered_made units l res old new n e k r unit h is b = moved_on res old new n _ _ (sym (global_means units l k e r unit h is)) b

-- the entities, one after another
module _ (units : List InRun) where
  taken_after : (xs : List Definer) (i : ℕ) (r : Definer) → i < length xs → r ≡ get_or xs i r → (map (definer_held units) (take (suc i) xs) ≡ map (definer_held units) (take i xs) ++ definer_held units r ∷ []) × (i ≡ length (map (definer_held units) (take i xs)))
  taken_after [] i r h e = absurd (omega arith)
  taken_after (x ∷ xs) zero r h e = (ap (λ (y : Definer). definer_held units y ∷ []) (sym e), refl)
  taken_after (x ∷ xs) (suc i) r h e = let t = taken_after xs i r (omega arith) e in (ap (λ (ys : List (Option Held)). definer_held units x ∷ ys) t.0, ap suc t.1)

  taken : (xs : List Definer) (i : ℕ) (r : Definer) → i < length xs → r ≡ get_or xs i r → (map (definer_held units) (take (i + 1) xs) ≡ map (definer_held units) (take i xs) ++ definer_held units r ∷ []) × (i ≡ length (map (definer_held units) (take i xs)))
  taken xs i r h e =
      let t = taken_after xs i r h e in
      (ap (λ (k : ℕ). map (definer_held units) (take k xs)) (let one : i + 1 ≡ suc i = omega arith in one) ∙ t.0, t.1)

  pub entities_next : (xs : List Definer) (i : ℕ) (r : Definer) (old new : Store) (first : Store) → i < length xs → r ≡ get_or xs i r → Becomes first old (memory_of (map (definer_held units) (take i xs)) [])
      → Becomes old new (with_held (memory old) (Entity (record { 0 = i })) (definer_held units r)) → Becomes first new (memory_of (map (definer_held units) (take (i + 1) xs)) [])
  entities_next xs i r old new first h e is step =
      let t = taken xs i r h e in
      (step.0 ∙ ap (λ (m : Memory). with_held m (Entity (record { 0 = i })) (definer_held units r)) is.0 ∙ sym (entities_push (map (definer_held units) (take i xs)) (definer_held units r) i t.1) ∙ ap (λ (ys : List (Option Held)). memory_of ys []) (sym t.0), step.1 ∙ is.1)

  pub entity_absent : (xs : List Definer) (i : ℕ) (r : Definer) (first old : Store) → i < length xs → r ≡ get_or xs i r → Becomes first old (memory_of (map (definer_held units) (take i xs)) []) → memory old (Entity (record { 0 = i })) ≡ None
  entity_absent xs i r first old h e is = ap (λ (m : Memory). m (Entity (record { 0 = i }))) is.0 ∙ past (map (definer_held units) (take i xs)) i (taken xs i r h e).1
    where
      past : (ys : List (Option Held)) (i : ℕ) → i ≡ length ys → slot ys i ≡ None
      past [] i e = refl
      past (y ∷ ys) zero e = absurd (omega arith)
      past (y ∷ ys) (suc i) e = past ys i (omega arith)

  pub entities_begin : (first : Store) (xs : List Definer) → memory first ≡ no_memory → Becomes first first (memory_of (map (definer_held units) (take 0 xs)) [])
  entities_begin first xs e = (e ∙ same_memory no_memory (memory_of [] []) by, refl)
    where
      by : (x : ObjName) → no_memory x ≡ memory_of [] [] x
      by (Entity n) = refl
      by (Local act n) = refl
      by (Literal n) = refl
      by (Heap n) = refl
      by (Argument n) = refl

  pub entities_end : (first now : Store) (xs : List Definer) (i : ℕ) → length xs ≤ i → Becomes first now (memory_of (map (definer_held units) (take i xs)) []) → Becomes first now (memory_of (map (definer_held units) xs) [])
  entities_end first now xs i h is = (is.0 ∙ ap (λ (ys : List Definer). memory_of (map (definer_held units) ys) []) (take_all xs i h), is.1)
    where
      take_all : (ys : List Definer) (n : ℕ) → length ys ≤ n → take n ys ≡ ys
      take_all [] zero h = refl
      take_all [] (suc n) h = refl
      take_all (y ∷ ys) zero h = absurd (omega arith)
      take_all (y ∷ ys) (suc n) h = ap (λ (zs : List Definer). y ∷ zs) (take_all ys n (omega arith))

  same_element : (xs : List Definer) (i : ℕ) (d : Definer) → i < length xs → get_or xs i d ≡ get_or xs i (get_or xs i d)
  same_element [] i d h = absurd (omega arith)
  same_element (x ∷ xs) zero d h = refl
  same_element (x ∷ xs) (suc i) d h = same_element xs i d (omega arith)

  pub next_made : (xs : List Definer) (i : ℕ) (d : Definer) (old new first : Store) → i < length xs → Becomes first old (memory_of (map (definer_held units) (take i xs)) [])
      → Becomes old new (with_held (memory old) (Entity (record { 0 = i })) (definer_held units (get_or xs i d))) → Becomes first new (memory_of (map (definer_held units) (take (i + 1) xs)) [])
  next_made xs i d old new first h is step = entities_next xs i (get_or xs i d) old new first h (same_element xs i d h) is step

  pub next_absent : (xs : List Definer) (i : ℕ) (d : Definer) (first old : Store) → i < length xs → Becomes first old (memory_of (map (definer_held units) (take i xs)) []) → memory old (Entity (record { 0 = i })) ≡ None
  next_absent xs i d first old h is = entity_absent xs i (get_or xs i d) first old h (same_element xs i d h) is
