use Rattle.std.proofs.Common.{◌≡◌, Some, sym, arith}
use Rattle.type_graph.specs.Shapes.{shape}
use Rattle.cil_text.specs.ReadExps.{bases}
use Rattle.cil_text.specs.ReadGlobals.{without_static}
use Rattle.cil_scan.specs.Said.{all_said}
use Rattle.cil_reader.specs.Settings.{env_in}
use Rattle.cil_reader.specs.Typed.{typed}
use Rattle.cil_reader.proofs.GlobalLaws.{own_gives, own_fails}
use Rattle.cil_reader.proofs.OnwardLaws.{onward_twice}
use Rattle.cil_reader.proofs.globals.own_definition.Goals as goal

pub returns-in_err-rest-clause-gives : goal.returns-in_err-rest-clause-gives
returns-in_err-rest-clause-gives c = grind (arith, own_fails)

pub defined_by-requires : goal.defined_by-requires
defined_by-requires c = rw c.in_ok-rest.ensures.same c.requires

pub returns-clause-gives : goal.returns-clause-gives
returns-clause-gives c =
    let read : typed (bases (env_in c.args.r.now)) c.args.left (shape c.args.r.now.graph.nodes c.args.declaration.now.ty.0) (without_static (all_said c.args.words.now)) ≡ Some (all_said c.in_ok-rest.rest.now) = rw (sym c.without_static.ensures) c.in_ok-rest.ensures.gives in
    let e = own_gives c.args.r.now.graph c.read_typed.new.r.graph (env_in c.args.r.now) c.args.left c.args.declaration.now (all_said c.args.words.now) (all_said c.in_ok-rest.rest.now) c.read_typed.ensures.on.grows c.requires read in
    rw (e, sym c.read_typed.ensures.on.env) c.defined_by.ensures.gives

pub returns-clause-on : goal.returns-clause-on
returns-clause-on c = onward_twice c.args.r.now c.read_typed.new.r c.defined_by.new.r c.read_typed.ensures.on c.defined_by.ensures.on
