use Rattle.std.proofs.Common.{◌≡◌, ◌<◌, true, Some, length, get_or, rules, arith}
use Rattle.std.specs.Option.{option_map, option_and_then}
use Rattle.cil_text.specs.ReadTypes.{read_decl}
use Rattle.cil_text.specs.ReadExps.{bases, is_base}
use Rattle.cil_text.specs.ReadGlobals.{local_of, read_locals}
use Rattle.cil_scan.specs.Said.{all_said, all_lines}
use Rattle.cil_reader.specs.Settings.{env_in, locals_of}
use Rattle.cil_reader.specs.Bodies.{local_behind, locals_behind}
use Rattle.cil_reader.proofs.FunctionLaws.{locals_step, apart_next}
use Rattle.cil_reader.proofs.AddedBodies.{locals_add}
use Rattle.cil_reader.proofs.OnwardLaws.{onward_twice}
use Rattle.cil_reader.proofs.PoolLaws.{pool_twice}
use Rattle.cil_reader.proofs.bodies.read_locals.Goals as goal

pub loop-i-preserved : goal.loop-i-preserved
loop-i-preserved c =
    let inv = c.loop-i.invariant in
    let g = c.loop-i.r.graph in
    let h = c.one_local.new.r.graph in
    let ls = locals_of g.nodes c.loop-i.locals.names in
    let ms = locals_of h.nodes c.in_ok-locals.locals.names in
    let less : c.loop-i.i < length c.args.lines.now = omega arith in
    let base : is_base (all_said (get_or c.args.lines.now c.loop-i.i c.index-lines-i.result).items) ≡ true = search rules in
    let one : option_and_then (local_behind ls) (option_and_then local_of (read_decl (bases (env_in c.loop-i.r)) c.args.left (all_said (get_or c.args.lines.now c.loop-i.i c.index-lines-i.result).items))) ≡ Some ms = search rules in (
      onward_twice c.args.r.now c.loop-i.r c.one_local.new.r inv.0 c.one_local.ensures.on,
      c.in_ok-locals.ensures.known,
      pool_twice c.args.pool.now c.loop-i.pool c.one_local.new.pool inv.2 c.one_local.ensures.pool,
      apart_next ls ms (option_and_then local_of (read_decl (bases (env_in c.loop-i.r)) c.args.left (all_said (get_or c.args.lines.now c.loop-i.i c.index-lines-i.result).items))) inv.3 one,
      locals_step (env_in c.args.r.now) (env_in c.loop-i.r) c.args.left ls ms c.args.lines.now c.loop-i.i c.index-lines-i.result
          (option_map (locals_behind (locals_of c.args.r.now.graph.nodes c.args.params.names)) (read_locals (bases (env_in c.args.r.now)) c.args.left (all_lines c.args.lines.now))) less inv.0.env base one inv.4,
      locals_add c.args.r.now.graph g h ls ms (option_and_then local_of (read_decl (bases (env_in c.loop-i.r)) c.args.left (all_said (get_or c.args.lines.now c.loop-i.i c.index-lines-i.result).items))) one c.one_local.ensures.on.grows inv.5 c.in_ok-locals.ensures.adds,
    )
