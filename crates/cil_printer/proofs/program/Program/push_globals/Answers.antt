use Rattle.std.proofs.Common.{◌≡◌, ◌∙◌, ◌+◌, drop, arith}
use Rattle.cil_tree.specs.View.{global_of}
use Rattle.cil_tree.specs.Text.{concat_each}
use Rattle.cil_printer.specs.Plain.{prints}
use Rattle.cil_printer.specs.Parts.{global_lines}
use Rattle.cil_printer.specs.Seen.{tree_of}
use Rattle.cil_printer.proofs.WellFormed.{plain_global}
use Rattle.cil_printer.proofs.PartLines.{globals_from, global_here, globals_length, part_end}
use Rattle.cil_printer.proofs.program.Program.push_globals.Goals as goal

pub push_global_lines-requires-clause-global : goal.push_global_lines-requires-clause-global
push_global_lines-requires-clause-global c =
    let p = tree_of c.args.self.now in
    plain_global p c.loop-i.i (global_of p.graph.nodes p.names c.index-globals-i.result) c.requires (global_here p.graph.nodes p.names _ _ c.loop-i.i _ c.as_slice-globals.ensures.value c.loop-i-test.true c.index-globals-i.is)

pub loop-i-preserved : goal.loop-i-preserved
loop-i-preserved c =
    let p = tree_of c.args.self.now in
    let e : prints c.push_global_lines.new.out 0 (concat_each (global_lines c.args.part p) (drop (c.loop-i.i + 1) p.globals)) ≡ prints c.loop-i.out 0 (concat_each (global_lines c.args.part p) (drop c.loop-i.i p.globals)) =
    globals_from _ _ c.args.part p c.loop-i.i _ (global_of p.graph.nodes p.names c.index-globals-i.result) c.requires (omega arith) (global_here p.graph.nodes p.names _ _ c.loop-i.i _ c.as_slice-globals.ensures.value c.loop-i-test.true c.index-globals-i.is) c.push_global_lines.ensures in
    e ∙ c.loop-i.invariant

pub returns : goal.returns
returns c =
    let p = tree_of c.args.self.now in
    part_end _ _ (global_lines c.args.part p) p.globals c.loop-i.i (globals_length p.graph.nodes p.names _ _ c.loop-i.i c.as_slice-globals.ensures.value c.loop-i-test.false) c.loop-i.invariant
