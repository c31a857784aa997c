use Rattle.std.proofs.Common.{rules, ◌≡◌, true, false}
use Rattle.std.specs.List.{list_all}
use Rattle.cil_tree.specs.View.{program_of}
use Rattle.cil_tree.specs.Names.{members_are_named}
use Rattle.cil_check.proofs.NameSteps.{found_fails, found_passes}
use Rattle.cil_check.proofs.names.all_members_are_named.Goals as goal

pub returns-then-not-branch : goal.returns-then-not-branch
returns-then-not-branch c =
    let p = program_of c.args.names.now c.args.u.now in
    let no : members_are_named p c.agg.result.now ≡ false = search rules in
    found_fails (members_are_named p) c.args.u.now.graph.aggs c.loop-a.a c.agg.result.now (list_all (members_are_named p) c.args.u.now.graph.aggs) c.agg.ensures c.loop-a.invariant no

pub loop-a-preserved : goal.loop-a-preserved
loop-a-preserved c =
    let p = program_of c.args.names.now c.args.u.now in
    let yes : members_are_named p c.agg.result.now ≡ true = search rules in
    found_passes (members_are_named p) c.args.u.now.graph.aggs c.loop-a.a c.agg.result.now (list_all (members_are_named p) c.args.u.now.graph.aggs) c.agg.ensures c.loop-a.invariant yes
