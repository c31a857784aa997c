-- Device: each type that occurs in a well-formed program is one of its graph's, and so are its parts.
use Rattle.std.proofs.Common.{◌≡◌, inl, inr, ℕ, suc, ◌<◌, ◌≤◌, nat_lt, Bool, true, false, cond, List, [], ◌∷◌, ◌++◌, length, map, Option, Some, None, slice_get, refl, sym, ap, ◌∙◌, subst, arith, ltb-true}
use Rattle.std.specs.List.{list_all}
use Rattle.std.specs.Option.{option_map, option_and_then}
use Rattle.cil_base.specs.declared.numbers.TypeId.{TypeId}
use Rattle.type_graph.specs.declared.aggregates.Aggregate.{Aggregate}
use Rattle.type_graph.specs.declared.aggregates.Member.{Member}
use Rattle.type_graph.specs.declared.nodes.Node.{Node}
use Rattle.type_graph.specs.declared.nodes.Node.TheVariants.{Void, Int, Ptr, Array, Func, Agg}
use Rattle.type_graph.specs.Shapes.{Shape, Shapes, VoidType, IntType, PtrType, ArrayType, FuncType, AggType, NoTypes, MoreTypes, shapes_of, shape_of, shape}
use Rattle.type_graph.specs.Arena.{Graph, EachType, NamesBelow, EachBelow, IsArena}
use Rattle.type_graph.proofs.ShapeLaws.{shape_is}
use Rattle.cil_tree.specs.declared.expressions.Exp.{Exp, Const, Lval', Un', Bin', Cast', AddrOf', StartOf', Row_of-Offset, end_of-Offset, more_of-Offset}
use Rattle.cil_tree.specs.declared.expressions.Host.{Host, Global, Var, At'}
use Rattle.cil_tree.specs.declared.expressions.Offset.{Offset, Field, Index'}
use Rattle.cil_tree.specs.declared.expressions.Lval.{Lval}
use Rattle.cil_tree.specs.declared.statements.Callee.{Callee}
use Rattle.cil_tree.specs.declared.statements.Callee.TheVariants.{Direct, Through}
use Rattle.cil_tree.specs.declared.statements.Instr.{Instr}
use Rattle.cil_tree.specs.declared.statements.Instr.TheVariants.{Set, Call, Zero}
use Rattle.cil_tree.specs.declared.statements.Stmt.{Stmt, Instr as Do, If', Switch', Loop', Block', Label, Case, Default, Goto, Break, Return, Row_of-Stmt, end_of-Stmt, more_of-Stmt}
use Rattle.cil_tree.specs.declared.globals.Local.{Local}
use Rattle.cil_tree.specs.declared.globals.GlobalDef.{GlobalDef}
use Rattle.cil_tree.specs.declared.globals.GlobalDef.TheVariants.{Declared, Zero as Zeros, Image, Body as Function}
use Rattle.cil_tree.specs.declared.globals.GlobalDecl.{GlobalDecl}
use Rattle.cil_tree.specs.Tree as plain
use Rattle.cil_tree.specs.View.{type_at, exp_of, host_of, row_of, offsets_of, lval_of, callee_of, instr_of, stmt_of, block_of, stmts_of, local_of, definition_of, global_of}
use Rattle.cil_tree.specs.WellFormedTypes.{members_are_unqualified}
use Rattle.cil_tree.specs.Programs.{SeenAggregate, seen_member, seen_aggregate, IsProgram, SameProgram}
use Rattle.cil_text.specs.Occurs.{Occurs}
use Rattle.cil_text.specs.TypesOf.{parts, all_parts, type_of_one, types_in_exp, types_in_host, types_in_offsets, types_in_place, types_in_args, types_in_result, types_in_callee, types_in_instr, types_in_stmt, types_in_stmts, types_in_locals, types_in_definition, declared_types, defined_types, type_of_member, types_in_aggregate, member_types, types_of, Among, HasNeeded}
use Rattle.cil_text.proofs.ShapesThere.{get_there}

-- lists of types

abbrev pub Each : (Shape → Type 0) → List Shape → Type 0
Each P [] = Unit {0}
Each P (s ∷ ss) = P s × Each P ss

pub each_joined : (P : Shape → Type 0) (xs ys : List Shape) → Each P xs → Each P ys → Each P (xs ++ ys)
each_joined P [] ys a b = b
each_joined P (x ∷ xs) ys a b = (a.0, each_joined P xs ys a.1 b)

pub each_among : (P : Shape → Type 0) (xs : List Shape) (s : Shape) → Each P xs → Among s xs → P s
each_among P [] s each among = absurd among
each_among P (x ∷ xs) s each (inl e) = subst P (sym e) each.0
each_among P (x ∷ xs) s each (inr more) = each_among P xs s each.1 more

-- one of the first m types of a graph
abbrev pub IsBelow : List Node → ℕ → Shape → Type 0
IsBelow nodes m s = (t : ℕ) × (t < m) × (shape nodes t ≡ s)

-- a type of a graph
abbrev pub IsIn : List Node → Shape → Type 0
IsIn nodes s = IsBelow nodes (length nodes) s

-- each type in a tree

one_in : (nodes : List Node) (t : TypeId) → Each (IsIn nodes) (type_of_one (type_at nodes t))
one_in nodes t = by (nat_lt t.0 (length nodes)) refl
  where
    by : (b : Bool) → nat_lt t.0 (length nodes) ≡ b → Each (IsIn nodes) (type_of_one (cond b (Some (shape nodes t.0)) None))
    by true e = ((t.0, ltb-true t.0 (length nodes) e, refl), tt)
    by false e = tt

mutual
  exp_in : (nodes : List Node) (e : Exp) → Each (IsIn nodes) (types_in_exp (exp_of nodes e))
  exp_in nodes (Const kind value) = tt
  exp_in nodes (Lval' host n offsets) = each_joined (IsIn nodes) (types_in_host (host_of nodes host)) (types_in_offsets (row_of nodes offsets)) (host_in nodes host) (row_in nodes offsets)
  exp_in nodes (Un' op a operand) = exp_in nodes operand
  exp_in nodes (Bin' op a left b right) = each_joined (IsIn nodes) (types_in_exp (exp_of nodes left)) (types_in_exp (exp_of nodes right)) (exp_in nodes left) (exp_in nodes right)
  exp_in nodes (Cast' to a operand) = each_joined (IsIn nodes) (type_of_one (type_at nodes to)) (types_in_exp (exp_of nodes operand)) (one_in nodes to) (exp_in nodes operand)
  exp_in nodes (AddrOf' host n offsets) = each_joined (IsIn nodes) (types_in_host (host_of nodes host)) (types_in_offsets (row_of nodes offsets)) (host_in nodes host) (row_in nodes offsets)
  exp_in nodes (StartOf' host n offsets) = each_joined (IsIn nodes) (types_in_host (host_of nodes host)) (types_in_offsets (row_of nodes offsets)) (host_in nodes host) (row_in nodes offsets)

  host_in : (nodes : List Node) (h : Host) → Each (IsIn nodes) (types_in_host (host_of nodes h))
  host_in nodes (Global e) = tt
  host_in nodes (Var l) = tt
  host_in nodes (At' a pointer) = exp_in nodes pointer

  row_in : {m : _} (nodes : List Node) (r : Row_of-Offset m) → Each (IsIn nodes) (types_in_offsets (row_of nodes r))
  row_in nodes end_of-Offset = tt
  row_in nodes (more_of-Offset (Field number) more) = row_in nodes more
  row_in nodes (more_of-Offset (Index' a index) more) = each_joined (IsIn nodes) (types_in_exp (exp_of nodes index)) (types_in_offsets (row_of nodes more)) (exp_in nodes index) (row_in nodes more)

offsets_in : (nodes : List Node) (os : List Offset) → Each (IsIn nodes) (types_in_offsets (offsets_of nodes os))
offsets_in nodes [] = tt
offsets_in nodes (Field number ∷ more) = offsets_in nodes more
offsets_in nodes (Index' a index ∷ more) = each_joined (IsIn nodes) (types_in_exp (exp_of nodes index)) (types_in_offsets (offsets_of nodes more)) (exp_in nodes index) (offsets_in nodes more)

lval_in : (nodes : List Node) (l : Lval) → Each (IsIn nodes) (types_in_place (lval_of nodes l))
lval_in nodes l = each_joined (IsIn nodes) (types_in_host (host_of nodes l.host)) (types_in_offsets (offsets_of nodes l.offsets.items)) (host_in nodes l.host) (offsets_in nodes l.offsets.items)

args_in : (nodes : List Node) (es : List Exp) → Each (IsIn nodes) (types_in_args (map (exp_of nodes) es))
args_in nodes [] = tt
args_in nodes (e ∷ es) = each_joined (IsIn nodes) (types_in_exp (exp_of nodes e)) (types_in_args (map (exp_of nodes) es)) (exp_in nodes e) (args_in nodes es)

result_in : (nodes : List Node) (o : Option Lval) → Each (IsIn nodes) (types_in_result (option_map (lval_of nodes) o))
result_in nodes None = tt
result_in nodes (Some l) = lval_in nodes l

callee_in : (nodes : List Node) (f : Callee) → Each (IsIn nodes) (types_in_callee (callee_of nodes f))
callee_in nodes (Direct e) = tt
callee_in nodes (Through pointer) = exp_in nodes pointer

instr_in : (nodes : List Node) (i : Instr) → Each (IsIn nodes) (types_in_instr (instr_of nodes i))
instr_in nodes (Set place value) = each_joined (IsIn nodes) (types_in_place (lval_of nodes place)) (types_in_exp (exp_of nodes value)) (lval_in nodes place) (exp_in nodes value)
instr_in nodes (Call result callee arguments) =
    let f = types_in_callee (callee_of nodes callee) in
    let es = types_in_args (map (exp_of nodes) arguments.items) in
    each_joined (IsIn nodes) (types_in_result (option_map (lval_of nodes) result)) (f ++ es) (result_in nodes result) (each_joined (IsIn nodes) f es (callee_in nodes callee) (args_in nodes arguments.items))
instr_in nodes (Zero place) = lval_in nodes place

mutual
  stmt_in : (nodes : List Node) (s : Stmt) → Each (IsIn nodes) (types_in_stmt (stmt_of nodes s))
  stmt_in nodes (Do instr) = instr_in nodes instr
  stmt_in nodes (If' test m holds n fails) =
      let a = types_in_stmts (block_of nodes holds) in
      let b = types_in_stmts (block_of nodes fails) in
      each_joined (IsIn nodes) (types_in_exp (exp_of nodes test)) (a ++ b) (exp_in nodes test) (each_joined (IsIn nodes) a b (block_in nodes holds) (block_in nodes fails))
  stmt_in nodes (Switch' value n body) = each_joined (IsIn nodes) (types_in_exp (exp_of nodes value)) (types_in_stmts (block_of nodes body)) (exp_in nodes value) (block_in nodes body)
  stmt_in nodes (Loop' n body) = block_in nodes body
  stmt_in nodes (Block' n body) = block_in nodes body
  stmt_in nodes (Label l) = tt
  stmt_in nodes (Case kind value) = tt
  stmt_in nodes Default = tt
  stmt_in nodes (Goto l) = tt
  stmt_in nodes Break = tt
  stmt_in nodes (Return None) = tt
  stmt_in nodes (Return (Some e)) = exp_in nodes e

  block_in : {m : _} (nodes : List Node) (r : Row_of-Stmt m) → Each (IsIn nodes) (types_in_stmts (block_of nodes r))
  block_in nodes end_of-Stmt = tt
  block_in nodes (more_of-Stmt first rest) = each_joined (IsIn nodes) (types_in_stmt (stmt_of nodes first)) (types_in_stmts (block_of nodes rest)) (stmt_in nodes first) (block_in nodes rest)

stmts_in : (nodes : List Node) (ss : List Stmt) → Each (IsIn nodes) (types_in_stmts (stmts_of nodes ss))
stmts_in nodes [] = tt
stmts_in nodes (first ∷ rest) = each_joined (IsIn nodes) (types_in_stmt (stmt_of nodes first)) (types_in_stmts (stmts_of nodes rest)) (stmt_in nodes first) (stmts_in nodes rest)

-- globals

locals_in : (nodes : List Node) (names : List (List ℕ)) (xs : List Local) → Each (IsIn nodes) (types_in_locals (map (local_of nodes names) xs))
locals_in nodes names [] = tt
locals_in nodes names (x ∷ xs) = each_joined (IsIn nodes) (type_of_one (type_at nodes x.ty)) (types_in_locals (map (local_of nodes names) xs)) (one_in nodes x.ty) (locals_in nodes names xs)

definition_in : (nodes : List Node) (names : List (List ℕ)) (d : GlobalDef) → Each (IsIn nodes) (types_in_definition (definition_of nodes names d))
definition_in nodes names Declared = tt
definition_in nodes names Zeros = tt
definition_in nodes names (Image items) = tt
definition_in nodes names (Function b) =
    each_joined (IsIn nodes) (types_in_locals (map (local_of nodes names) b.locals.items)) (types_in_stmts (stmts_of nodes b.stmts.items)) (locals_in nodes names b.locals.items) (stmts_in nodes b.stmts.items)

declared_in : (nodes : List Node) (names : List (List ℕ)) (xs : List GlobalDecl) → Each (IsIn nodes) (declared_types (map (global_of nodes names) xs))
declared_in nodes names [] = tt
declared_in nodes names (x ∷ xs) = each_joined (IsIn nodes) (type_of_one (type_at nodes x.ty)) (declared_types (map (global_of nodes names) xs)) (one_in nodes x.ty) (declared_in nodes names xs)

defined_in : (nodes : List Node) (names : List (List ℕ)) (xs : List GlobalDecl) → Each (IsIn nodes) (defined_types (map (global_of nodes names) xs))
defined_in nodes names [] = tt
defined_in nodes names (x ∷ xs) = each_joined (IsIn nodes) (types_in_definition (definition_of nodes names x.def)) (defined_types (map (global_of nodes names) xs)) (definition_in nodes names x.def) (defined_in nodes names xs)

abbrev GlobalsIn : List Node → List plain.GlobalDecl → Type 0
GlobalsIn nodes xs = Each (IsIn nodes) (declared_types xs ++ defined_types xs)

globals_in : (nodes : List Node) (names : List (List ℕ)) (xs : List GlobalDecl) → GlobalsIn nodes (map (global_of nodes names) xs)
globals_in nodes names xs = each_joined (IsIn nodes) (declared_types (map (global_of nodes names) xs)) (defined_types (map (global_of nodes names) xs)) (declared_in nodes names xs) (defined_in nodes names xs)

-- members

members_in : (p : plain.Program) (r : ℕ) (ms : List Member) → EachBelow p.graph.nodes p.graph.completed r ms → Each (IsIn p.graph.nodes) (map type_of_member (map (seen_member p) ms))
members_in p r [] below = tt
members_in p r (m ∷ ms) below = ((m.ty.of.0, below.0, refl), members_in p r ms below.2)

aggregate_in : (p : plain.Program) → IsArena p.graph → (a : ℕ) (x : Aggregate) → slice_get p.graph.aggs a ≡ Some x → Each (IsIn p.graph.nodes) (types_in_aggregate (seen_aggregate p x))
aggregate_in p arena a x e = by x.members refl
  where
    by : (o : Option (List Member)) → x.members ≡ o → Each (IsIn p.graph.nodes) (elim (option_map (map (seen_member p)) o) as (λ _. List Shape) [ None ↦ [] | Some ms ↦ map type_of_member ms ])
    by None f = tt
    by (Some ms) f = members_in p _ ms (arena.nested a ms (ap (option_and_then (λ (y : Aggregate). y.members)) e ∙ f)).1

aggregates_in : (p : plain.Program) (xs : List Aggregate) → ((i : ℕ) (x : Aggregate) → slice_get xs i ≡ Some x → Each (IsIn p.graph.nodes) (types_in_aggregate (seen_aggregate p x))) →
    Each (IsIn p.graph.nodes) (member_types (map (seen_aggregate p) xs))
aggregates_in p [] each = tt
aggregates_in p (x ∷ xs) each = each_joined (IsIn p.graph.nodes) (types_in_aggregate (seen_aggregate p x)) (member_types (map (seen_aggregate p) xs)) (each 0 x refl) (aggregates_in p xs (λ i y e. each (suc i) y e))

-- each type that occurs in a well-formed program is one of its graph's
pub types_there : (p : plain.Program) → IsProgram p → Each (IsIn p.graph.nodes) (types_of (map (seen_aggregate p) p.graph.aggs) p.globals)
types_there p is =
    let nodes : is.unit.graph.nodes ≡ p.graph.nodes = ap (λ (r : plain.Program). r.graph.nodes) is.seen in
    let globals : GlobalsIn is.unit.graph.nodes p.globals = subst (GlobalsIn is.unit.graph.nodes) (ap (λ (r : plain.Program). r.globals) is.seen) (globals_in is.unit.graph.nodes p.names is.unit.globals.items) in
    each_joined (IsIn p.graph.nodes) (member_types (map (seen_aggregate p) p.graph.aggs)) (declared_types p.globals ++ defined_types p.globals)
    (aggregates_in p p.graph.aggs (aggregate_in p is.arena)) (subst (λ ns. GlobalsIn ns p.globals) nodes globals)

-- parts of a graph's types

abbrev EachOf : (Shape → Type 0) → Shapes → Type 0
EachOf P NoTypes = Unit {0}
EachOf P (MoreTypes s more) = P s × EachOf P more

-- what a type is made of is among the first m types
abbrev InnerBelow : List Node → ℕ → Shape → Type 0
InnerBelow nodes m VoidType = Unit {0}
InnerBelow nodes m (IntType kind) = Unit {0}
InnerBelow nodes m (PtrType q s) = IsBelow nodes m s
InnerBelow nodes m (ArrayType q s bound) = IsBelow nodes m s
InnerBelow nodes m (FuncType ret params proto variadic) = IsBelow nodes m ret × EachOf (IsBelow nodes m) params
InnerBelow nodes m (AggType a) = Unit {0}

params_below : (nodes : List Node) (m n : ℕ) (ts : List TypeId) → EachType n ts → n < m → EachOf (IsBelow nodes m) (shapes_of (shape nodes) ts)
params_below nodes m n [] each low = tt
params_below nodes m n (t ∷ ts) each low = ((t.0, omega (arith, each.0), refl), params_below nodes m n ts each.1 low)

node_inner : (nodes : List Node) (m t k : ℕ) (n : Node) → NamesBelow t k n → t < m → InnerBelow nodes m (shape_of (shape nodes) n)
node_inner nodes m t k Void below low = tt
node_inner nodes m t k (Int kind) below low = tt
node_inner nodes m t k (Ptr q) below low = (q.of.0, omega (arith, below), refl)
node_inner nodes m t k (Array q bound) below low = (q.of.0, omega (arith, below), refl)
node_inner nodes m t k (Func proto variadic ret params) below low = ((ret.0, omega (arith, below.0), refl), params_below nodes m t params below.1 low)
node_inner nodes m t k (Agg a) below low = tt

inner_below : (g : Graph) → IsArena g → (m : ℕ) → m ≤ length g.nodes → (s : Shape) → IsBelow g.nodes m s → InnerBelow g.nodes m s
inner_below g arena m few s is =
    let n = get_there g.nodes is.0 (omega (arith, is.1)) in
    let named = arena.grounded is.0 n.0 n.1 in
    subst (InnerBelow g.nodes m) (sym (shape_is g.nodes is.0 (length g.aggs) n.0 n.1 named) ∙ is.2) (node_inner g.nodes m is.0 (length g.aggs) n.0 named is.1)

mutual
  -- the parts of one of the first m types are such types
  pub parts_below : (g : Graph) → IsArena g → (m : ℕ) → m ≤ length g.nodes → (s : Shape) → IsBelow g.nodes m s → Each (IsBelow g.nodes m) (parts s)
  parts_below g arena m few VoidType is = (is, tt)
  parts_below g arena m few (IntType kind) is = (is, tt)
  parts_below g arena m few (PtrType q s) is = (is, parts_below g arena m few s (inner_below g arena m few (PtrType q s) is))
  parts_below g arena m few (ArrayType q s bound) is = (is, parts_below g arena m few s (inner_below g arena m few (ArrayType q s bound) is))
  parts_below g arena m few (FuncType ret params proto variadic) is =
      let h = inner_below g arena m few (FuncType ret params proto variadic) is in
      (is, each_joined (IsBelow g.nodes m) (parts ret) (all_parts params) (parts_below g arena m few ret h.0) (all_parts_below g arena m few params h.1))
  parts_below g arena m few (AggType a) is = (is, tt)

  all_parts_below : (g : Graph) → IsArena g → (m : ℕ) → m ≤ length g.nodes → (ss : Shapes) → EachOf (IsBelow g.nodes m) ss → Each (IsBelow g.nodes m) (all_parts ss)
  all_parts_below g arena m few NoTypes each = tt
  all_parts_below g arena m few (MoreTypes s more) each = each_joined (IsBelow g.nodes m) (parts s) (all_parts more) (parts_below g arena m few s each.0) (all_parts_below g arena m few more each.1)

-- the parts of a graph's type are types of the graph
pub parts_there : (g : Graph) → IsArena g → (s : Shape) → IsIn g.nodes s → Each (IsIn g.nodes) (parts s)
parts_there g arena s is = parts_below g arena (length g.nodes) (omega arith) s is

-- an equal program that has no types but what it needs has no other types
pub needed_occur : (p q : plain.Program) → IsProgram p → SameProgram p q → HasNeeded q → list_all members_are_unqualified q.graph.aggs ≡ true → Occurs p q
needed_occur p q is same needed unqualified =
    let all : Each (IsIn p.graph.nodes) (types_of (map (seen_aggregate q) q.graph.aggs) q.globals) =
    subst (λ (xs : List SeenAggregate). Each (IsIn p.graph.nodes) (types_of xs q.globals)) same.aggregates (subst (λ (xs : List plain.GlobalDecl). Each (IsIn p.graph.nodes) (types_of (map (seen_aggregate p) p.graph.aggs) xs)) same.globals (types_there p is)) in
    record {
      types = λ t low.
          let h = needed.part t (omega arith) low in
          each_among (IsIn p.graph.nodes) (parts h.0) (shape q.graph.nodes t) (parts_there p.graph is.arena h.0 (each_among (IsIn p.graph.nodes) (types_of (map (seen_aggregate q) q.graph.aggs) q.globals) h.0 all h.1)) h.2;
      unqualified = unqualified;
    }
