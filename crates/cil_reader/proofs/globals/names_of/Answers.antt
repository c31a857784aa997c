use Rattle.std.proofs.Common.{length, sym, subst, arith}
use Rattle.type_graph.specs.Arena.{EachType}
use Rattle.cil_reader.proofs.MemberLaws.{each_there}
use Rattle.cil_reader.proofs.GlobalLaws.{declared_there, names_start, names_next, names_alike, names_end}
use Rattle.cil_reader.proofs.globals.names_of.Goals as goal

pub loop-i-init : goal.loop-i-init
loop-i-init c = (rw c.new-names.ensures.types tt, names_start c.args.r.now.graph.nodes c.new-names.result c.args.declarations.now c.new-names.ensures.numbering)

pub loop-i-preserved : goal.loop-i-preserved
loop-i-preserved c =
    let n = length c.args.r.now.graph.nodes in (
      subst (EachType n) (sym c.in_ok-names.ensures.types) (each_there n c.loop-i.names.types.items _ c.loop-i.invariant.0 (declared_there n c.args.declarations.now c.loop-i.i _ c.requires c.loop-i-test.true)),
      names_next c.args.r.now.graph.nodes c.loop-i.names c.in_ok-names.names c.args.declarations.now c.loop-i.i _ _ c.loop-i.names.paired c.loop-i-test.true c.in_ok-names.ensures.gives c.in_ok-names.ensures.types c.loop-i.invariant.1,
    )

pub returns-in_err-names-clause-gives : goal.returns-in_err-names-clause-gives
returns-in_err-names-clause-gives c = grind (arith, names_alike)

pub returns-clause-gives : goal.returns-clause-gives
returns-clause-gives c = names_end c.args.r.now.graph.nodes c.loop-i.names c.args.declarations.now c.loop-i.i _ c.loop-i-test.false c.loop-i.invariant.1
