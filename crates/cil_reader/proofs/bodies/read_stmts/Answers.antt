use Rattle.std.proofs.Common.{◌≡◌, length, arith, true-eqb}
use Rattle.cil_tree.specs.View.{stmts_of}
use Rattle.cil_reader.proofs.FunctionLaws.{stmts_known}
use Rattle.cil_reader.proofs.AddedBodies.{stmts_add}
use Rattle.cil_reader.proofs.bodies.read_stmts.Goals as goal

pub returns-clause-adds : goal.returns-clause-adds
returns-clause-adds c =
    let g = c.read_heads.new.r.graph in
    let none : length c.read_nested.new.lines.items ≡ 0 = omega (arith, true-eqb c.read_nested.new.lines.len 0 c.if-not-is_empty.ensures) in
    stmts_add c.args.r.now.graph g c.args.left c.in_ok-heads.heads.items c.reverse.new.self.items c.read_nested.new.lines.items (stmts_of g.nodes c.in_ok-stmts.stmts.items) c.reverse.ensures.items c.in_ok-stmts.ensures.gives none c.in_ok-heads.ensures.adds

pub returns-clause-known : goal.returns-clause-known
returns-clause-known c =
    stmts_known c.read_heads.new.r.graph c.in_ok-heads.heads.items c.reverse.new.self.items c.read_nested.new.lines.items c.in_ok-stmts.stmts.items c.in_ok-heads.ensures.known c.reverse.ensures.items c.in_ok-stmts.ensures.known
