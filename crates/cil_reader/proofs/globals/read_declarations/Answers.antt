use Rattle.std.proofs.Common.{◌≡◌, ◌<◌, ◌≤◌, true, false, Some, length, get_or, rules}
use Rattle.std.specs.Option.{option_map}
use Rattle.cil_text.specs.ReadExps.{bases}
use Rattle.cil_text.specs.ReadGlobals.{declaration_from, declares}
use Rattle.cil_scan.specs.Said.{all_said}
use Rattle.cil_reader.specs.Settings.{env_in}
use Rattle.cil_reader.specs.Globals.{declarations_of, declaration_behind}
use Rattle.cil_reader.proofs.GlobalLaws.{declarations_stop, declarations_next, declarations_end}
use Rattle.cil_reader.proofs.OnwardLaws.{onward_twice}
use Rattle.cil_reader.proofs.globals.read_declarations.Goals as goal

pub returns-then-not-declares-clause-gives : goal.returns-then-not-declares-clause-gives
returns-then-not-declares-clause-gives c =
    let less : c.loop-i.i < length c.args.lines.now = search rules in
    let shut : declares (all_said (get_or c.args.lines.now c.loop-i.i c.index-lines-i.result).items) ≡ false = search rules in
    declarations_stop (bases (env_in c.args.r.now)) c.args.left (declarations_of c.loop-i.r.graph.nodes c.loop-i.all.items) c.args.lines.now c.loop-i.i c.index-lines-i.result _ less shut c.loop-i.invariant.3

pub loop-i-preserved : goal.loop-i-preserved
loop-i-preserved c =
    let inv = c.loop-i.invariant in
    let less : c.loop-i.i < length c.args.lines.now = search rules in
    let shows : declares (all_said (get_or c.args.lines.now c.loop-i.i c.index-lines-i.result).items) ≡ true = search rules in
    let told : option_map (declaration_behind (declarations_of c.loop-i.r.graph.nodes c.loop-i.all.items)) (declaration_from (bases (env_in c.loop-i.r)) c.args.left (all_said (get_or c.args.lines.now c.loop-i.i c.index-lines-i.result).items)) ≡ Some (declarations_of c.with_declaration.new.r.graph.nodes c.in_ok-all.all.items) = search rules in (
      onward_twice c.args.r.now c.loop-i.r c.with_declaration.new.r inv.0 c.with_declaration.ensures.on,
      c.in_ok-all.ensures.each,
      c.in_ok-all.ensures.adds c.args.r.now.graph inv.2,
      declarations_next (env_in c.args.r.now) (env_in c.loop-i.r) c.args.left (declarations_of c.loop-i.r.graph.nodes c.loop-i.all.items) (declarations_of c.with_declaration.new.r.graph.nodes c.in_ok-all.all.items) c.args.lines.now c.loop-i.i c.index-lines-i.result _ less inv.0.env told shows inv.3,
    )

pub returns-clause-gives : goal.returns-clause-gives
returns-clause-gives c =
    let end : length c.args.lines.now ≤ c.loop-i.i = search rules in
    declarations_end (bases (env_in c.args.r.now)) c.args.left (declarations_of c.loop-i.r.graph.nodes c.loop-i.all.items) c.args.lines.now c.loop-i.i _ end c.loop-i.invariant.3
