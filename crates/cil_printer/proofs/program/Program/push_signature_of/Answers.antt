use Rattle.std.proofs.Common.{◌≡◌, ◌∙◌, false, ap, length}
use Rattle.type_graph.specs.Shapes.{shape, shape_of}
use Rattle.cil_tree.specs.Typing.{is_function}
use Rattle.cil_tree.specs.View.{global_of, body_of}
use Rattle.cil_printer.specs.Seen.{tree_of}
use Rattle.cil_printer.proofs.DefinitionLines.{not_function, each_below}
use Rattle.cil_printer.proofs.program.Program.push_signature_of.Goals as goal

pub push_prototype-requires-clause-there : goal.push_prototype-requires-clause-there
push_prototype-requires-clause-there c =
    let p = tree_of c.args.self.now in
    each_below c.args.t.0 (length p.graph.nodes) (length p.graph.aggs) c.node.result.now c.in-Func.ret c.in-Func.params c.in-Func.proto c.in-Func.variadic _ c.in-Func.is c.requires c.as_slice.ensures (rw c.graph.ensures at c.node.ensures.names)

pub returns-in-Void : goal.returns-in-Void
returns-in-Void c =
    let p = tree_of c.args.self.now in
    let e : is_function (shape p.graph.nodes c.args.t.0) ≡ false = ap is_function (rw c.graph.ensures at c.node.ensures.shape ∙ ap (shape_of (shape p.graph.nodes)) c.in-Void.is) in
    not_function c.args.out.now p (global_of p.graph.nodes p.names c.args.x.now) (body_of p.graph.nodes p.names c.args.body.now) (shape p.graph.nodes c.args.t.0) e

pub returns-in-Int : goal.returns-in-Int
returns-in-Int c =
    let p = tree_of c.args.self.now in
    let e : is_function (shape p.graph.nodes c.args.t.0) ≡ false = ap is_function (rw c.graph.ensures at c.node.ensures.shape ∙ ap (shape_of (shape p.graph.nodes)) c.in-Int.is) in
    not_function c.args.out.now p (global_of p.graph.nodes p.names c.args.x.now) (body_of p.graph.nodes p.names c.args.body.now) (shape p.graph.nodes c.args.t.0) e

pub returns-in-Ptr : goal.returns-in-Ptr
returns-in-Ptr c =
    let p = tree_of c.args.self.now in
    let e : is_function (shape p.graph.nodes c.args.t.0) ≡ false = ap is_function (rw c.graph.ensures at c.node.ensures.shape ∙ ap (shape_of (shape p.graph.nodes)) c.in-Ptr.is) in
    not_function c.args.out.now p (global_of p.graph.nodes p.names c.args.x.now) (body_of p.graph.nodes p.names c.args.body.now) (shape p.graph.nodes c.args.t.0) e

pub returns-in-Array : goal.returns-in-Array
returns-in-Array c =
    let p = tree_of c.args.self.now in
    let e : is_function (shape p.graph.nodes c.args.t.0) ≡ false = ap is_function (rw c.graph.ensures at c.node.ensures.shape ∙ ap (shape_of (shape p.graph.nodes)) c.in-Array.is) in
    not_function c.args.out.now p (global_of p.graph.nodes p.names c.args.x.now) (body_of p.graph.nodes p.names c.args.body.now) (shape p.graph.nodes c.args.t.0) e

pub returns-in-Agg : goal.returns-in-Agg
returns-in-Agg c =
    let p = tree_of c.args.self.now in
    let e : is_function (shape p.graph.nodes c.args.t.0) ≡ false = ap is_function (rw c.graph.ensures at c.node.ensures.shape ∙ ap (shape_of (shape p.graph.nodes)) c.in-Agg.is) in
    not_function c.args.out.now p (global_of p.graph.nodes p.names c.args.x.now) (body_of p.graph.nodes p.names c.args.body.now) (shape p.graph.nodes c.args.t.0) e
