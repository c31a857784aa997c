use Rattle.std.proofs.Common.{sym, arith}
use Rattle.type_graph.specs.Shapes.{shape}
use Rattle.cil_scan.specs.Said.{all_said}
use Rattle.cil_reader.specs.Settings.{env_in}
use Rattle.cil_reader.proofs.ImageLaws.{converted_next, converted_open, converted_fails}
use Rattle.cil_reader.proofs.images.read_converted.Goals as goal

pub returns-in_err-rest-clause-gives : goal.returns-in_err-rest-clause-gives
returns-in_err-rest-clause-gives c = grind (arith, converted_fails)

pub returns-in-Some-clause-gives : goal.returns-in-Some-clause-gives
returns-in-Some-clause-gives c =
    let e = converted_next (env_in c.args.r.now) c.args.left (shape c.args.r.now.graph.nodes c.args.ty.0) (all_said c.args.words.now) (all_said c.in_ok-rest.rest.now) (all_said c.in-Some.behind.now) c.in_ok-rest.ensures.gives c.in-Some.ensures in
    rw (e, sym c.read_typed.ensures.on.env, sym c.read_pointer.ensures) c.there.ensures

pub returns-in-None-clause-gives : goal.returns-in-None-clause-gives
returns-in-None-clause-gives c = converted_open (env_in c.args.r.now) c.args.left (shape c.args.r.now.graph.nodes c.args.ty.0) (all_said c.args.words.now) (all_said c.in_ok-rest.rest.now) c.in_ok-rest.ensures.gives c.in-None.ensures
