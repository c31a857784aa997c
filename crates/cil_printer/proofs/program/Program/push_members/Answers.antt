use Rattle.std.proofs.Common.{◌≡◌, ◌∙◌, ◌+◌, false, drop, map, get_or, arith}
use Rattle.std.specs.Prelude.{pos}
use Rattle.type_graph.specs.declared.aggregates.Member.{Member}
use Rattle.cil_tree.specs.Text.{member_line}
use Rattle.cil_printer.specs.Plain.{prints}
use Rattle.cil_printer.specs.Seen.{tree_of}
use Rattle.cil_printer.proofs.AggregateLines.{at_index, each_from, each_end, member_past}
use Rattle.cil_printer.proofs.program.Program.push_members.Goals as goal

pub push_member-requires : goal.push_member-requires
push_member-requires c = record {
  plain = c.requires.plain;
  there = c.requires.there c.loop-i.i _ (at_index c.args.ms.now c.loop-i.i _ c.loop-i-test.true);
  named = c.requires.named c.loop-i.i _ (at_index c.args.ms.now c.loop-i.i _ c.loop-i-test.true);
}

pub loop-i-preserved : goal.loop-i-preserved
loop-i-preserved c =
    let p = tree_of c.args.self.now in
    let d : Member = record { name = record { 0 = 0 }; anonymous = false; ty = record { quals = record { constant = false; restricted = false }; of = record { 0 = 0 } }; value = pos 0 } in
    let e : prints c.push_member.new.out 1 (map (member_line p) (drop (c.loop-i.i + 1) c.args.ms.now)) ≡ prints c.loop-i.out 1 (map (member_line p) (drop c.loop-i.i c.args.ms.now)) =
    each_from _ _ (member_line p) c.args.ms.now c.loop-i.i _ d (omega arith) c.loop-i-test.true (member_past p (get_or c.args.ms.now c.loop-i.i d) c.requires.plain (c.requires.named c.loop-i.i (get_or c.args.ms.now c.loop-i.i d) (at_index c.args.ms.now c.loop-i.i d c.loop-i-test.true))) c.push_member.ensures in
    e ∙ c.loop-i.invariant

pub returns : goal.returns
returns c = each_end _ _ (member_line (tree_of c.args.self.now)) c.args.ms.now c.loop-i.i c.loop-i-test.false c.loop-i.invariant
