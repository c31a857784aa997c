-- Device: what a program means when it is linked and run depends on nothing but what the equality of programs speaks of.
use Rattle.std.proofs.Common.{◌≡◌, ℕ, suc, ◌+◌, ◌*◌, nat_lt, Bool, cond, List, [], ◌∷◌, map, length, drop, replicate, Some, None, option_map, refl, ap}
use Rattle.std.specs.Option.{option_and_then}
use Rattle.cil_base.specs.declared.constants.Constant.{Constant}
use Rattle.type_graph.specs.declared.layout.Layout.{Layout}
use Rattle.type_graph.specs.Shapes.{Shape, Shapes, VoidType, IntType, PtrType, ArrayType, FuncType, AggType, NoTypes, MoreTypes}
use Rattle.byte_mem.specs.declared.values.Byte.{Byte}
use Rattle.byte_mem.specs.declared.values.Byte.TheVariants.{Known}
use Rattle.byte_mem.specs.Steps.{◌>>=◌}
use Rattle.byte_mem.specs.Scalar.{bytes_of}
use Rattle.byte_mem.specs.Object.{with_part}
use Rattle.execution.specs.States.{State}
use Rattle.execution.specs.Data.{Datum}
use Rattle.execution.specs.Calls.{Enter, Code, scoped, value_at_end, returns}
use Rattle.execution.specs.Linking.{Linkable}
use Rattle.execution.specs.Runs.{run, units_spent, finds_end}
use Rattle.cil_tree.specs.Tree.{Block, Step, ToField, ToIndex, Item, Local, Body, Definition, Declared, Zeros, Image, Function, GlobalDecl, Program}
use Rattle.cil_tree.specs.Globals.{Part, aggregate_of, member_part, element_part, path_part}
use Rattle.cil_tree.specs.Programs.{SameProgram}
use Rattle.typed_values.specs.Units.{constant_value, start_of}
use Rattle.cil_semantics.specs.Runs.{item_written, with_item, with_items, zeros, object, kinds_of, with_object, objects_from, body_meaning, function_meaning, is_main, definition_meaning, global_meaning, has_function_type, is_tentative, linkable, linkables}
use Rattle.cil_text.proofs.Alike.{alike, type_alike}
use Rattle.cil_text.proofs.TypedAlike.{Equal, layout_alike}
use Rattle.cil_equal.specs.Runs.{RunAlike}
use Rattle.cil_equal.proofs.ValuesAlike.{size_alike, kind_alike, scalar_in_alike, offset_alike}
use Rattle.cil_equal.proofs.StatementsAlike.{statement_alike}

-- the parts of objects

member_part_alike : (p q : Program) → Equal p q → (n : ℕ) (part : Part) → member_part p.graph n part ≡ member_part q.graph n part
member_part_alike p q same n part =
    λ i. option_and_then (λ a. option_and_then (λ s. option_map (λ at. (s, part.1 + at)) (offset_alike p q same a n i)) (type_alike p q same.aggregates part.0 n i)) (aggregate_of part.0)

element_part_alike : (p q : Program) → Equal p q → (n : ℕ) (part : Part) → element_part p.graph n part ≡ element_part q.graph n part
element_part_alike p q same n (ArrayType r s (Some bound), at) = λ i. cond (nat_lt n bound) (option_map (λ (l : Layout). (s, at + n * l.size)) (layout_alike p q same s i)) None
element_part_alike p q same n (ArrayType r s None, at) = refl
element_part_alike p q same n (VoidType, at) = refl
element_part_alike p q same n (IntType k, at) = refl
element_part_alike p q same n (PtrType r s, at) = refl
element_part_alike p q same n (FuncType ret params proto variadic, at) = refl
element_part_alike p q same n (AggType a, at) = refl

path_alike : (p q : Program) → Equal p q → (path : List Step) (part : Part) → path_part p.graph path part ≡ path_part q.graph path part
path_alike p q same [] part = refl
path_alike p q same (ToField n ∷ path) part = λ i. option_and_then (λ r. path_alike p q same path r i) (member_part_alike p q same n part i)
path_alike p q same (ToIndex n ∷ path) part = λ i. option_and_then (λ r. path_alike p q same path r i) (element_part_alike p q same n part i)

-- objects

written_alike : (p q : Program) → Equal p q → (es : List ℕ) (c : Constant) (part : Part) (bytes : List Byte) → item_written p.graph es c part bytes ≡ item_written q.graph es c part bytes
written_alike p q same es c part bytes =
    λ i. scalar_in_alike p q same part.0 i >>= λ t. constant_value es c >>= λ v. Some (with_part part.1 (bytes_of (same.abi i) t v) bytes)

item_alike : (p q : Program) → Equal p q → (es : List ℕ) (s : Shape) (x : Item) (bytes : List Byte) → with_item p.graph es s x bytes ≡ with_item q.graph es s x bytes
item_alike p q same es s x bytes = λ i. path_alike p q same x.path (s, 0) i >>= λ part. written_alike p q same es x.value part bytes i

items_alike : (p q : Program) → Equal p q → (es : List ℕ) (s : Shape) (xs : List Item) (bytes : List Byte) → with_items p.graph es s xs bytes ≡ with_items q.graph es s xs bytes
items_alike p q same es s [] bytes = refl
items_alike p q same es s (x ∷ xs) bytes = λ i. item_alike p q same es s x bytes i >>= λ bs. items_alike p q same es s xs bs i

zeros_alike : (p q : Program) → Equal p q → (s : Shape) → zeros p.graph s ≡ zeros q.graph s
zeros_alike p q same s = λ i. size_alike p q same s i >>= λ n. Some (replicate n (Known 0))

-- functions

kinds_alike : (p q : Program) → Equal p q → (ss : Shapes) → kinds_of p.graph ss ≡ kinds_of q.graph ss
kinds_alike p q same NoTypes = refl
kinds_alike p q same (MoreTypes s more) = λ i. kind_alike p q same s i ∷ kinds_alike p q same more i

objects_alike : (p q : Program) → Equal p q → (n : ℕ) (xs : List Local) → objects_from p.graph n xs ≡ objects_from q.graph n xs
objects_alike p q same n [] = refl
objects_alike p q same n (x ∷ xs) = λ i. with_object n (x.type >>= λ s. size_alike p q same s i) (objects_alike p q same (suc n) xs i)

body_alike : (p q : Program) → Equal p q → (es : List ℕ) (b : Body) (end : Datum) (enter : Enter) (act : ℕ) (s : State) → body_meaning p es b end enter act s ≡ body_meaning q es b end enter act s
body_alike p q same es b end enter act s =
    λ i. scoped act (objects_alike p q same (length b.params) (drop (length b.params) b.locals) i) (λ t. returns end (statement_alike p q same b.locals b.labels es act enter (Block b.stmts) None t i)) s

function_alike : (p q : Program) → Equal p q → (es : List ℕ) (main : Bool) (b : Body) (s : Shape) → function_meaning p es main b s ≡ function_meaning q es main b s
function_alike p q same es main b (FuncType ret params proto variadic) = λ i. Some (Code (record {
  abi = same.abi i;
  parameters = kinds_alike p q same params i;
  result = kind_alike p q same ret i;
  start = start_of (FuncType ret params proto variadic);
  body = λ enter act s. body_alike p q same es b (value_at_end main (kind_alike p q same ret i)) enter act s i;
}))
function_alike p q same es main b VoidType = refl
function_alike p q same es main b (IntType k) = refl
function_alike p q same es main b (PtrType r s) = refl
function_alike p q same es main b (ArrayType r s bound) = refl
function_alike p q same es main b (AggType a) = refl

-- programs

definition_alike : (p q : Program) → Equal p q → (es : List ℕ) (main : Bool) (s : Shape) (d : Definition) → definition_meaning p es main s d ≡ definition_meaning q es main s d
definition_alike p q same es main s Declared = refl
definition_alike p q same es main s Zeros = λ i. object (zeros_alike p q same s i)
definition_alike p q same es main s (Image items) = λ i. object (zeros_alike p q same s i >>= λ bytes. items_alike p q same es s items bytes i)
definition_alike p q same es main s (Function b) = function_alike p q same es main b s

global_alike : (p q : Program) → Equal p q → (x : GlobalDecl) (es : List ℕ) → global_meaning p x es ≡ global_meaning q x es
global_alike p q same x es = λ i. x.type >>= λ s. definition_alike p q same es (is_main x) s x.definition i

linkable_alike : (p q : Program) → Equal p q → (x : GlobalDecl) → linkable p x ≡ linkable q x
linkable_alike p q same x = λ i. record { internal = x.internal; name = x.name; function = has_function_type x.type; tentative = is_tentative x.definition; means = λ es. global_alike p q same x es i }

linkables_alike : (p q : Program) → Equal p q → linkables p ≡ linkables q
linkables_alike p q same = λ i. map (λ x. linkable_alike p q same x i) (same.globals i)

pub run_alike : (p q : Program) → SameProgram p q → RunAlike p q
run_alike p q same =
    let equal : Equal p q = record { abi = same.abi; aggregates = alike p q same; globals = same.globals } in
    let units : linkables p ≡ linkables q = linkables_alike p q equal in
    record {
      model = same.abi;
      outcome = λ mode words input n. ap (λ (ls : List Linkable). run (ls ∷ []) mode words input n) units;
      spent = λ mode words input n. ap (λ (ls : List Linkable). units_spent (ls ∷ []) mode words input n) units;
      end = λ mode words input n. ap (λ (ls : List Linkable). finds_end (ls ∷ []) mode words input n) units;
    }
