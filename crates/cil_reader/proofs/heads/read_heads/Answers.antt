use Rattle.std.proofs.Common.{◌≡◌, ◌≤◌, List, Some, get_or, length, sym, subst, rules, arith}
use Rattle.cil_text.specs.ReadStmts.{read_head, read_heads}
use Rattle.cil_text.specs.TypesOf.{AddsParts}
use Rattle.cil_reader.specs.declared.heads.Head.{Head}
use Rattle.cil_scan.specs.Said.{all_said, all_lines}
use Rattle.cil_reader.specs.Settings.{env_in}
use Rattle.cil_reader.specs.Heads.{head_of, heads_of, HeadsKnown}
use Rattle.cil_reader.specs.Added.{types_in_heads}
use Rattle.cil_reader.proofs.OnwardLaws.{onward_twice}
use Rattle.cil_reader.proofs.HeadsLaws.{heads_more, heads_step, heads_end}
use Rattle.cil_reader.proofs.AddedTrees.{heads_add}
use Rattle.cil_reader.proofs.heads.read_heads.Goals as goal

pub loop-i-preserved : goal.loop-i-preserved
loop-i-preserved c =
    let g = c.loop-i.r.graph in
    let h = c.read_head.new.r.graph in
    let env = env_in c.args.r.now in
    let lines = c.args.lines.now in
    let d = c.index-lines-i.result in
    let head = c.in_ok-head.head in
    let line : c.deref.result.now ≡ (get_or lines c.loop-i.i d).items = search rules in
    let read : read_head env c.args.labels.now c.args.left (all_said (get_or lines c.loop-i.i d).items) ≡ Some (head_of h.nodes head) = rw (sym line, sym c.loop-i.invariant.0.env) c.in_ok-head.ensures.gives in (
      onward_twice c.args.r.now c.loop-i.r c.read_head.new.r c.loop-i.invariant.0 c.read_head.ensures.on,
      subst (HeadsKnown h) (sym c.in_ok-push.ensures.items) (heads_more g h c.loop-i.heads.items head c.loop-i.invariant.1 c.read_head.ensures.on.grows c.in_ok-head.ensures.known),
      heads_step g h env c.args.labels.now c.args.left lines c.loop-i.heads.items c.push.new.self.items head c.loop-i.i d (read_heads env c.args.labels.now c.args.left (all_lines lines))
          c.loop-i-test.true c.loop-i.invariant.1 c.read_head.ensures.on.grows c.in_ok-push.ensures.items read c.loop-i.invariant.2,
      subst (λ (hs : List Head). AddsParts c.args.r.now.graph h (types_in_heads (heads_of h.nodes hs))) (sym c.in_ok-push.ensures.items)
          (heads_add c.args.r.now.graph g h c.loop-i.heads.items head c.loop-i.invariant.1 c.read_head.ensures.on.grows c.loop-i.invariant.3 c.in_ok-head.ensures.adds),
    )

pub returns-clause-gives : goal.returns-clause-gives
returns-clause-gives c =
    let past : length c.args.lines.now ≤ c.loop-i.i = omega arith in
    heads_end (env_in c.args.r.now) c.args.labels.now c.args.left c.args.lines.now (heads_of c.loop-i.r.graph.nodes c.loop-i.heads.items) (read_heads (env_in c.args.r.now) c.args.labels.now c.args.left (all_lines c.args.lines.now)) c.loop-i.i past c.loop-i.invariant.2
