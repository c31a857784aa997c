use Rattle.std.proofs.Common.{◌≡◌, ◌<◌, ◌≤◌, length, Err, ◌∙◌, rules}
use Rattle.cil_scan.specs.Said.{all_lines}
use Rattle.cil_reader.specs.Settings.{env_in}
use Rattle.cil_reader.specs.Globals.{globals_of}
use Rattle.cil_reader.proofs.GlobalLaws.{declared_later, globals_pushed, objects_next, objects_stop, objects_end}
use Rattle.cil_reader.proofs.OnwardLaws.{onward_twice}
use Rattle.cil_reader.proofs.PoolLaws.{pool_twice}
use Rattle.cil_reader.proofs.globals.read_objects.Goals as goal

pub returns-in_err-global-clause-gives : goal.returns-in_err-global-clause-gives
returns-in_err-global-clause-gives c =
    let inv = c.loop-i.invariant in
    let less : c.loop-i.i < length c.args.declarations.now = search rules in
    let stops = objects_stop c.args.r.now.graph c.loop-i.r.graph (env_in c.args.r.now) (env_in c.loop-i.r) c.args.left c.args.declarations.now (globals_of c.loop-i.r.graph.nodes c.loop-i.pool c.loop-i.globals.items) c.loop-i.i _ (all_lines c.loop-i.waiting.lines.now) _ c.in_err-global.field-0.0 less c.requires inv.0.grows inv.0.env
    c.in_err-global.ensures.gives inv.6 in
    let err : c.from_residual.result ≡ Err c.in_err-global.field-0.0 = search rules in
    rw err stops

pub loop-i-preserved : goal.loop-i-preserved
loop-i-preserved c =
    let inv = c.loop-i.invariant in
    let less : c.loop-i.i < length c.args.declarations.now = search rules in (
      onward_twice c.args.r.now c.loop-i.r c.next_global.new.r inv.0 c.next_global.ensures.on,
      pool_twice c.args.pool.now c.loop-i.pool c.next_global.new.pool inv.1 c.next_global.ensures.pool,
      declared_later c.loop-i.r.graph c.next_global.new.r.graph c.args.declarations.now c.next_global.ensures.on.grows inv.2,
      rw c.in_ok-push.ensures.items (globals_pushed c.loop-i.r.graph c.next_global.new.r.graph c.loop-i.pool c.next_global.new.pool c.loop-i.globals.items c.in_ok-global.global inv.3 c.next_global.ensures.on.grows c.next_global.ensures.pool c.in_ok-global.ensures.known),
      search rules,
      c.in_ok-global.ensures.waiting,
      rw c.in_ok-push.ensures.items (objects_next c.args.r.now.graph c.loop-i.r.graph c.next_global.new.r.graph c.loop-i.pool c.next_global.new.pool (env_in c.args.r.now) (env_in c.loop-i.r) c.args.left c.args.declarations.now c.loop-i.globals.items c.in_ok-global.global c.loop-i.i _
          (all_lines c.loop-i.waiting.lines.now) (all_lines c.in_ok-global.behind.lines.now) _ less c.requires inv.0.grows c.next_global.ensures.on.grows inv.3 c.next_global.ensures.pool inv.0.env c.in_ok-global.ensures.gives inv.6),
      c.in_ok-global.ensures.same ∙ inv.7,
    )

pub returns-clause-gives : goal.returns-clause-gives
returns-clause-gives c =
    let end : length c.args.declarations.now ≤ c.loop-i.i = search rules in
    objects_end c.args.r.now.graph.nodes (env_in c.args.r.now) c.args.left c.args.declarations.now (globals_of c.loop-i.r.graph.nodes c.loop-i.pool c.loop-i.globals.items) c.loop-i.i (all_lines c.loop-i.waiting.lines.now) _ end c.loop-i.invariant.6
