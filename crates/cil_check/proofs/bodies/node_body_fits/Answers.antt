use Rattle.std.proofs.Common.{◌≡◌, IfOk, false, ap, sym, ◌∙◌, subst, Bool}
use Rattle.type_graph.specs.Shapes.{Shape, FuncType, shape, shape_of, shapes_of}
use Rattle.cil_tree.specs.View.{program_of, body_of}
use Rattle.cil_tree.specs.Bodies.{body_fits}
use Rattle.cil_check.proofs.bodies.node_body_fits.Goals as goal

pub returns-else-variadic : goal.returns-else-variadic
returns-else-variadic c =
    let g = c.args.s.now.unit.now.graph in
    let at = shape g.nodes in
    let p = program_of c.args.s.now.names.now c.args.s.now.unit.now in
    let b = body_of g.nodes c.args.s.now.names.now c.args.s.now.body.now in
    let is : shape_of at c.args.f.now ≡ FuncType (at c.in-Func.ret.0) (shapes_of at c.as_slice.result.now) c.in-Func.proto false =
    ap (shape_of at) c.in-Func.is ∙ ap (λ (v : Bool). FuncType (at c.in-Func.ret.0) (shapes_of at c.in-Func.params) c.in-Func.proto v) c.if-variadic.false ∙ ap (λ ps. FuncType (at c.in-Func.ret.0) (shapes_of at ps) c.in-Func.proto false) (sym c.as_slice.ensures) in
    subst (λ (z : Shape). IfOk c.parts_fit.result (λ r. r ≡ body_fits p b z)) (sym is) c.parts_fit.ensures
