use Rattle.std.proofs.Common.{◌≡◌, length, Some, Bool, List, sym, ap, ◌∙◌, subst}
use Rattle.cil_base.specs.declared.numbers.TypeId.{TypeId}
use Rattle.type_graph.specs.Shapes.{FuncType, shape, shape_of, shapes_of}
use Rattle.type_graph.specs.Arena.{EachType, NamesBelow}
use Rattle.cil_tree.specs.Typing.{scope_of}
use Rattle.cil_tree.specs.View.{body_of, definition_of, global_of}
use Rattle.cil_check.proofs.TypeSteps.{names_there}
use Rattle.cil_start.specs.Loads.{program_in, loaded_in}
use Rattle.cil_table.specs.Parts.{HasParts}
use Rattle.cil_table.proofs.EntryLaws.{fits, type_there, function_entry}
use Rattle.cil_table.proofs.table.load_body.Goals as goal

pub node-requires : goal.node-requires
node-requires c = type_there c.args.l.now c.args.x.now c.requires.ready c.requires.global

pub load_function-requires-clause-ret : goal.load_function-requires-clause-ret
load_function-requires-clause-ret c =
    let g = c.args.l.now.unit.now.graph in
    let names : NamesBelow (length g.nodes) (length g.aggs) c.node.result.now =
    names_there c.args.x.now.ty.0 (length g.nodes) (length g.aggs) c.node.result.now c.node.ensures.names (type_there c.args.l.now c.args.x.now c.requires.ready c.requires.global) in
    (rw c.in-Func.is at names).0

pub load_function-requires-clause-params : goal.load_function-requires-clause-params
load_function-requires-clause-params c =
    let g = c.args.l.now.unit.now.graph in
    let names : NamesBelow (length g.nodes) (length g.aggs) c.node.result.now =
    names_there c.args.x.now.ty.0 (length g.nodes) (length g.aggs) c.node.result.now c.node.ensures.names (type_there c.args.l.now c.args.x.now c.requires.ready c.requires.global) in
    subst (λ (ps : List TypeId). EachType (length g.nodes) ps) (sym c.as_slice.ensures) (rw c.in-Func.is at names).1

pub returns-in_ok-f-in-Func : goal.returns-in_ok-f-in-Func
returns-in_ok-f-in-Func c =
    let l = c.args.l.now in
    let g = l.unit.now.graph in
    let at = shape g.nodes in
    let p = program_in l in
    let x = global_of g.nodes l.names.now c.args.x.now in
    let b = body_of g.nodes l.names.now c.args.body.now in
    let ret = at c.in-Func.ret.0 in
    let params = shapes_of at c.as_slice.result.now in
    let type : x.type ≡ Some (FuncType ret params c.in-Func.proto c.in-Func.variadic) =
    (fits l c.args.x.now c.requires.ready c.requires.global).type
    ∙ ap Some (c.node.ensures.shape ∙ ap (shape_of at) c.in-Func.is ∙ ap (λ (ps : List TypeId). FuncType ret (shapes_of at ps) c.in-Func.proto c.in-Func.variadic) (sym c.as_slice.ensures)) in
    function_entry (loaded_in l) x b ret params c.in-Func.proto c.in-Func.variadic c.in_ok-f-in-Func.f c.requires.ready.program c.requires.global (ap (definition_of g.nodes l.names.now) c.requires.body) type
    (subst (λ (main : Bool). HasParts (scope_of p b) l.entities.now main b ret params c.in_ok-f-in-Func.f) c.is_main.ensures c.in_ok-f-in-Func.ensures)
