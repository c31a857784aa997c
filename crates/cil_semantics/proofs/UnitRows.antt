-- Device: a worked row of a unit that can be linked and is no well-formed program. Above it stands the C that is lowered to it.
use Rattle.std.proofs.Common.{◌≡◌, ℕ, zero, suc, true, false, List, [], ◌∷◌, codes, slice_get, Some, None, Vec, refl, arith}
use Rattle.std.specs.Prelude.{pos}
use Rattle.std.specs.Global.{Global}
use denote.RawPtr.{null_ptr}
use Rattle.cil_base.specs.declared.kinds.Abi.TheVariants.{Lp64}
use Rattle.cil_base.specs.declared.kinds.IntKind.TheVariants.{Int as int_kind}
use Rattle.cil_base.specs.declared.runs.Outcome.TheVariants.{Exit, Running}
use Rattle.type_graph.specs.declared.aggregates.AggKind.TheVariants.{Struct}
use Rattle.type_graph.specs.declared.aggregates.Aggregate.{Aggregate}
use Rattle.type_graph.specs.declared.aggregates.Member.{Member}
use Rattle.type_graph.specs.declared.nodes.Node.{Node}
use Rattle.type_graph.specs.declared.nodes.Node.TheVariants.{Int, Func, Agg}
use Rattle.type_graph.specs.Shapes.{AggType, shape}
use Rattle.type_graph.specs.Arena.{Graph, IsArena, empty_graph}
use Rattle.type_graph.specs.Layouts.{agg_layout}
use Rattle.type_graph.proofs.ArenaLaws.{IsArena-empty, IsArena-node, IsArena-agg, IsArena-complete}
use Rattle.cil_tree.specs.declared.expressions.Exp.{Const as CodeConst}
use Rattle.cil_tree.specs.declared.statements.Stmt.{Return as CodeReturn}
use Rattle.cil_tree.specs.declared.globals.Body.{Body as CodeBody}
use Rattle.cil_tree.specs.declared.globals.GlobalDef.TheVariants.{Zero as IsZeros, Body as HasBody}
use Rattle.cil_tree.specs.declared.globals.CilUnit.{CilUnit}
use Rattle.cil_tree.specs.Tree.{Zeros, Program}
use Rattle.cil_tree.specs.Typing.{unqualified}
use Rattle.cil_tree.specs.View.{program_of}
use Rattle.cil_tree.specs.WellFormedTypes.{AreTypes, TypesFit, TypesAreSmall, AggregatesAreSmall, each_shape, function_fits, prototype_fits}
use Rattle.cil_tree.specs.Programs.{IsProgram}
use Rattle.cil_semantics.specs.Units.{IsUnit}
use Rattle.cil_semantics.proofs.Samples.{int, local, main_of, number, return, stmts_of, outcomes}

-- the types: int, int ( void ), and a struct without a tag

abbrev function : Node
function = Func true false (record { 0 = 0 }) []

abbrev struct : Node
struct = Agg (record { 0 = 0 })

abbrev untagged : Aggregate
untagged = record { kind = Struct; tag = None; members = None }

abbrev members : List Member
members = record { name = record { 0 = 2 }; anonymous = false; ty = record { quals = unqualified; of = record { 0 = 0 } }; value = pos 0 } ∷ []

first_graph : Graph
first_graph = record { abi = Lp64; nodes = Int int_kind ∷ []; aggs = []; completed = [] }

second_graph : Graph
second_graph = record { abi = Lp64; nodes = Int int_kind ∷ function ∷ []; aggs = []; completed = [] }

third_graph : Graph
third_graph = record { abi = Lp64; nodes = Int int_kind ∷ function ∷ []; aggs = untagged ∷ []; completed = [] }

fourth_graph : Graph
fourth_graph = record { abi = Lp64; nodes = Int int_kind ∷ function ∷ struct ∷ []; aggs = untagged ∷ []; completed = [] }

abbrev graph : Graph
graph = record { abi = Lp64; nodes = Int int_kind ∷ function ∷ struct ∷ []; aggs = record { kind = Struct; tag = None; members = Some members } ∷ []; completed = record { 0 = 0 } ∷ [] }

first_arena : IsArena first_graph
unfolding first_graph
first_arena = IsArena-node (empty_graph Lp64) (Int int_kind) (IsArena-empty (empty_graph Lp64) refl refl refl) tt refl (λ s e. cc) (omega arith)

function_new : (s : ℕ) → slice_get (Int int_kind ∷ []) s ≡ Some function → ⊥
function_new zero e = cc
function_new (suc s) e = cc

second_arena : IsArena second_graph
unfolding first_graph second_graph
second_arena = IsArena-node first_graph function first_arena (omega arith, tt) tt function_new (omega arith)

third_arena : IsArena third_graph
unfolding second_graph third_graph
third_arena = IsArena-agg second_graph untagged second_arena refl (omega arith)

struct_new : (s : ℕ) → slice_get (Int int_kind ∷ function ∷ []) s ≡ Some struct → ⊥
struct_new zero e = cc
struct_new (suc zero) e = cc
struct_new (suc (suc s)) e = cc

fourth_arena : IsArena fourth_graph
unfolding third_graph fourth_graph
fourth_arena = IsArena-node third_graph struct third_arena (omega arith) tt struct_new (omega arith)

arena : IsArena graph
unfolding fourth_graph shape
arena = IsArena-complete fourth_graph (record { 0 = 0 }) untagged members fourth_arena refl refl refl

functions : each_shape function_fits graph
unfolding shape
functions zero l = refl
functions (suc zero) l = refl
functions (suc (suc zero)) l = refl
functions (suc (suc (suc t))) l = absurd (omega (arith, l))

prototypes : each_shape prototype_fits graph
unfolding shape
prototypes zero l = refl
prototypes (suc zero) l = refl
prototypes (suc (suc zero)) l = refl
prototypes (suc (suc (suc t))) l = absurd (omega (arith, l))

small : TypesAreSmall graph
unfolding shape agg_layout
small zero l e = let size : 4 ≡ l.size = cc in omega (arith, size)
small (suc zero) l e = absurd (cc e)
small (suc (suc zero)) l e = let size : 4 ≡ l.size = cc in omega (arith, size)
small (suc (suc (suc t))) l e = absurd (cc e)

small_aggregates : AggregatesAreSmall graph
unfolding shape agg_layout
small_aggregates zero l e = let size : 4 ≡ l.whole.size = cc in omega (arith, size)
small_aggregates (suc a) l e = absurd (cc e)

types : TypesFit graph
unfolding shape
types = record { unqualified = refl; members_unqualified = refl; enums_complete = refl; members_kind = refl; members = refl; flexible = refl; arrays = refl; functions = functions; prototypes = prototypes; small = small; small_aggregates = small_aggregates }

-- static struct { int x; } n; int main(void) { int n; return 3; }
abbrev sample : Program
sample = record {
  graph = graph;
  names = codes "n" ∷ codes "main" ∷ codes "x" ∷ [];
  globals = record { name = codes "n"; type = Some (AggType 0); internal = true; definition = Zeros } ∷ main_of (local (codes "n") int ∷ []) [] (stmts_of (return (number 3) ∷ [])) ∷ [];
}

-- its tree, in memory that nobody looks at

abbrev anywhere : Global
anywhere = record { memory = record { seal = tt } }

abbrev none_of : {T : Type 0} → Vec T Global
none_of = record { ptr = null_ptr; len = 0; cap = 0; alloc = anywhere; items = []; ok = (refl, omega arith); small = omega arith }

abbrev one_of : {T : Type 0} → T → Vec T Global
one_of x = record { ptr = null_ptr; len = 1; cap = 1; alloc = anywhere; items = x ∷ []; ok = (refl, omega arith); small = omega arith }

abbrev two_of : {T : Type 0} → T → T → Vec T Global
two_of x y = record { ptr = null_ptr; len = 2; cap = 2; alloc = anywhere; items = x ∷ y ∷ []; ok = (refl, omega arith); small = omega arith }

abbrev code_body : CodeBody
code_body = record { params = none_of; locals = one_of (record { name = record { 0 = 0 }; ty = record { 0 = 0 } }); labels = none_of; stmts = one_of (CodeReturn (Some (CodeConst int_kind 3))) }

abbrev unit : CilUnit
unit = record {
  graph = graph;
  globals = two_of (record { name = record { 0 = 0 }; ty = record { 0 = 2 }; internal = true; def = IsZeros }) (record { name = record { 0 = 1 }; ty = record { 0 = 1 }; internal = false; def = HasBody code_body });
}

seen : program_of sample.names unit ≡ sample
unfolding shape
seen = refl

sample_is_unit : IsUnit sample
sample_is_unit = record { arena = arena; unit = unit; seen = seen; types = types; named = refl; globals = refl }

-- its struct has no tag, and its local has the name of a global
sample_has_no_tag : AreTypes sample.graph → ⊥
sample_has_no_tag is = cc is.tagged

sample_is_no_program : IsProgram sample → ⊥
sample_is_no_program is = cc is.names.bodies

sample_runs : outcomes sample (0 ∷ 1 ∷ []) ≡ Running [] ∷ Exit 3 [] ∷ []
unfolding shape agg_layout
sample_runs = refl
