-- Device: the types that a unit's bodies speak of are its graph's.
use Rattle.std.proofs.Common.{◌≡◌, ℕ, List, [], ◌∷◌, length, map, slice_get, Option, Some, None, option_map, nat_lt, sym, ap, ◌∙◌, subst}
use Rattle.std.specs.Option.{option_and_then}
use Rattle.std.proofs.lemmas.Option.{slice_get-map}
use Rattle.cil_base.specs.declared.numbers.TypeId.{TypeId}
use Rattle.type_graph.specs.declared.nodes.Node.{Node}
use Rattle.type_graph.specs.Shapes.{Shape, shape}
use Rattle.cil_tree.specs.declared.expressions.Exp.{Exp, Const, Lval', Un', Bin', Cast', AddrOf', StartOf'}
use Rattle.cil_tree.specs.declared.expressions.Host.{Host, Global, Var, At'}
use Rattle.cil_tree.specs.declared.statements.Callee.{Callee}
use Rattle.cil_tree.specs.declared.statements.Callee.TheVariants.{Direct, Through}
use Rattle.cil_tree.specs.declared.statements.Instr.{Instr}
use Rattle.cil_tree.specs.declared.statements.Instr.TheVariants.{Set, Call, Zero}
use Rattle.cil_tree.specs.declared.statements.Stmt.{Stmt, Instr as Do, If', Switch', Loop', Block', Label, Case, Default, Goto, Break, Return, Row_of-Stmt, end_of-Stmt, more_of-Stmt}
use Rattle.cil_tree.specs.declared.globals.Local.{Local}
use Rattle.cil_tree.specs.declared.globals.Body.{Body}
use Rattle.cil_tree.specs.declared.globals.GlobalDef.{GlobalDef}
use Rattle.cil_tree.specs.declared.globals.GlobalDef.TheVariants.{Declared, Zero as Zeros, Image, Body as Function}
use Rattle.cil_tree.specs.declared.globals.GlobalDecl.{GlobalDecl}
use Rattle.cil_tree.specs.Tree as plain
use Rattle.cil_tree.specs.Typing.{scope_of, global_at, global_type, local_type}
use Rattle.cil_tree.specs.View.{type_at, exp_of, host_of, callee_of, instr_of, stmt_of, block_of, stmts_of, local_of, body_of, definition_of, global_of}
use Rattle.cil_semantics.specs.Units.{IsUnit}
use Rattle.cil_code.proofs.ArgumentTypes.{TakesValues, MayTakeValues, types_take, if_takes, ScopeTakes, CastsTake, HostTakes, CalleeTakes}

-- the types of what an instruction calls
abbrev pub InstrTakes : plain.Instr → Type 0
InstrTakes (plain.Set place value) = Unit {0}
InstrTakes (plain.Call to f es) = CalleeTakes f
InstrTakes (plain.Zero place) = Unit {0}

abbrev mutual
  -- the types of what statements call
  pub StmtTakes : plain.Stmt → Type 0
  StmtTakes (plain.Do i) = InstrTakes i
  StmtTakes (plain.If e holds fails) = StmtsTake holds × StmtsTake fails
  StmtTakes (plain.Switch e body) = StmtsTake body
  StmtTakes (plain.Loop body) = StmtsTake body
  StmtTakes (plain.Block body) = StmtsTake body
  StmtTakes (plain.Label n) = Unit {0}
  StmtTakes (plain.Case kind v) = Unit {0}
  StmtTakes plain.Default = Unit {0}
  StmtTakes (plain.Goto n) = Unit {0}
  StmtTakes plain.Break = Unit {0}
  StmtTakes (plain.Return e) = Unit {0}

  pub StmtsTake : plain.Stmts → Type 0
  StmtsTake plain.Done = Unit {0}
  StmtsTake (plain.Seq first rest) = StmtTakes first × StmtsTake rest

-- each type of a list of nodes
record Take (nodes : List Node) : Type 0 where
  at : (t : ℕ) → TakesValues (shape nodes t)

type_takes : (nodes : List Node) → Take nodes → (t : TypeId) → MayTakeValues (type_at nodes t)
type_takes nodes h t = if_takes (nat_lt t.0 (length nodes)) (shape nodes t.0) (h.at t.0)

mutual
  casts_take : (nodes : List Node) → Take nodes → (e : Exp) → CastsTake (exp_of nodes e)
  casts_take nodes h (Const kind v) = tt
  casts_take nodes h (Lval' host n offsets) = host_takes nodes h host
  casts_take nodes h (Un' op p e) = casts_take nodes h e
  casts_take nodes h (Bin' op p e q f) = (casts_take nodes h e, casts_take nodes h f)
  casts_take nodes h (Cast' to p e) = (type_takes nodes h to, casts_take nodes h e)
  casts_take nodes h (AddrOf' host n offsets) = host_takes nodes h host
  casts_take nodes h (StartOf' host n offsets) = host_takes nodes h host

  host_takes : (nodes : List Node) → Take nodes → (host : Host) → HostTakes (host_of nodes host)
  host_takes nodes h (Global e) = tt
  host_takes nodes h (Var l) = tt
  host_takes nodes h (At' p e) = casts_take nodes h e

callee_takes : (nodes : List Node) → Take nodes → (f : Callee) → CalleeTakes (callee_of nodes f)
callee_takes nodes h (Direct e) = tt
callee_takes nodes h (Through e) = casts_take nodes h e

instr_takes : (nodes : List Node) → Take nodes → (i : Instr) → InstrTakes (instr_of nodes i)
instr_takes nodes h (Set place value) = tt
instr_takes nodes h (Call to f es) = callee_takes nodes h f
instr_takes nodes h (Zero place) = tt

mutual
  stmt_takes : (nodes : List Node) → Take nodes → (x : Stmt) → StmtTakes (stmt_of nodes x)
  stmt_takes nodes h (Do i) = instr_takes nodes h i
  stmt_takes nodes h (If' e m holds n fails) = (block_takes nodes h holds, block_takes nodes h fails)
  stmt_takes nodes h (Switch' e n body) = block_takes nodes h body
  stmt_takes nodes h (Loop' n body) = block_takes nodes h body
  stmt_takes nodes h (Block' n body) = block_takes nodes h body
  stmt_takes nodes h (Label l) = tt
  stmt_takes nodes h (Case kind v) = tt
  stmt_takes nodes h Default = tt
  stmt_takes nodes h (Goto l) = tt
  stmt_takes nodes h Break = tt
  stmt_takes nodes h (Return e) = tt

  block_takes : {m : _} (nodes : List Node) → Take nodes → (k : Row_of-Stmt m) → StmtsTake (block_of nodes k)
  block_takes nodes h end_of-Stmt = tt
  block_takes nodes h (more_of-Stmt first rest) = (stmt_takes nodes h first, block_takes nodes h rest)

stmts_take : (nodes : List Node) → Take nodes → (xs : List Stmt) → StmtsTake (stmts_of nodes xs)
stmts_take nodes h [] = tt
stmts_take nodes h (x ∷ xs) = (stmt_takes nodes h x, stmts_take nodes h xs)

-- the locals and the calls of a body
record BodyTakes (b : plain.Body) : Type 0 where
  locals : (n : ℕ) → MayTakeValues (local_type b.locals n)
  calls : StmtsTake b.stmts

-- the type of what stands at a place of a list
get_takes : {A B : Type 0} (f : A → B) (type : B → Option Shape) (xs : List A) (n : ℕ) → ((x : A) → MayTakeValues (type (f x))) → MayTakeValues (option_and_then type (slice_get (map f xs) n))
get_takes f type xs n h = subst (λ o. MayTakeValues (option_and_then type o)) (sym (slice_get-map f xs n)) (by (slice_get xs n))
  where
    by : (o : _) → MayTakeValues (option_and_then type (option_map f o))
    by None = tt
    by (Some x) = h x

body_takes : (nodes : List Node) (names : List (List ℕ)) → Take nodes → (b : Body) → BodyTakes (body_of nodes names b)
body_takes nodes names h b = record {
  locals = λ n. get_takes (local_of nodes names) (λ (x : plain.Local). x.type) b.locals.items n (λ (x : Local). type_takes nodes h x.ty);
  calls = stmts_take nodes h b.stmts.items;
}

function_takes : (nodes : List Node) (names : List (List ℕ)) → Take nodes → (d : GlobalDef) (b : plain.Body) → definition_of nodes names d ≡ plain.Function b → BodyTakes b
function_takes nodes names h Declared b e = cc
function_takes nodes names h Zeros b e = cc
function_takes nodes names h (Image items) b e = cc
function_takes nodes names h (Function body) b e = let same : body_of nodes names body ≡ b = cc in subst (λ b. BodyTakes b) same (body_takes nodes names h body)

mapped : {A B : Type 0} (f : A → B) (o : Option A) (y : B) → option_map f o ≡ Some y → (x : A) × (f x ≡ y)
mapped f None y e = cc
mapped f (Some x) y e = let same : f x ≡ y = cc in (x, same)

-- what the bodies of a program speak of and call
pub record FunctionTakes (p : plain.Program) (b : plain.Body) : Type 0 where
  pub scope : ScopeTakes (scope_of p b)
  pub calls : StmtsTake b.stmts

pub functions_take : (p : plain.Program) → IsUnit p → (n : ℕ) (x : plain.GlobalDecl) (b : plain.Body) → global_at p n ≡ Some x → x.definition ≡ plain.Function b → FunctionTakes p b
functions_take p is n x b there body = record {
  scope = record { types = types_take p.graph is.arena is.types.functions; globals = globals; locals = takes.locals };
  calls = takes.calls;
}
  where
    same : is.unit.graph ≡ p.graph
    same = ap (λ (r : plain.Program). r.graph) is.seen

    whole : map (global_of is.unit.graph.nodes p.names) is.unit.globals.items ≡ p.globals
    whole = ap (λ (r : plain.Program). r.globals) is.seen

    nodes : Take is.unit.graph.nodes
    nodes = subst (λ g. Take g.nodes) (sym same) (record { at = types_take p.graph is.arena is.types.functions })

    globals : (i : ℕ) → MayTakeValues (global_type p i)
    globals i = subst (λ xs. MayTakeValues (option_and_then (λ (y : plain.GlobalDecl). y.type) (slice_get xs i))) whole
        (get_takes (global_of is.unit.graph.nodes p.names) (λ (y : plain.GlobalDecl). y.type) is.unit.globals.items i (λ (y : GlobalDecl). type_takes is.unit.graph.nodes nodes y.ty))

    found : option_map (global_of is.unit.graph.nodes p.names) (slice_get is.unit.globals.items n) ≡ Some x
    found = sym (slice_get-map (global_of is.unit.graph.nodes p.names) is.unit.globals.items n) ∙ (ap (λ xs. slice_get xs n) whole ∙ there)

    takes : BodyTakes b
    takes =
        let y = mapped (global_of is.unit.graph.nodes p.names) (slice_get is.unit.globals.items n) x found in
        function_takes is.unit.graph.nodes p.names nodes y.0.def b (ap (λ (z : plain.GlobalDecl). z.definition) y.1 ∙ body)
