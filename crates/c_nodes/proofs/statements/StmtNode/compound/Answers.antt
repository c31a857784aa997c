use Rattle.std.proofs.Common.{refl, sym}
use Rattle.c_tree.proofs.UnitLemmas.{at_compound}
use Rattle.c_nodes.proofs.statements.StmtNode.compound.Goals as goal

pub returns : goal.returns
returns c = at_compound _ c.args.at c.into_items-items.result c.args.items refl (sym c.into_items-items.ensures)
