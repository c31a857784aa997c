use Rattle.std.proofs.Common.{◌≡◌, ◌∙◌, ◌+◌, drop, map, arith}
use Rattle.cil_tree.specs.Text.{local_line}
use Rattle.cil_printer.specs.Plain.{prints}
use Rattle.cil_printer.specs.Seen.{scope_in, nodes_in}
use Rattle.cil_printer.proofs.DefinitionLines.{local_plain, locals_from, locals_end}
use Rattle.cil_printer.proofs.function.Function.push_locals.Goals as goal

pub push_local-requires-clause-named : goal.push_local-requires-clause-named
push_local-requires-clause-named c =
    local_plain (nodes_in c.args.self.now) c.args.self.now.program.now.names.now c.args.self.now.locals.now c.loop-i.i _ c.loop-i-test.true (c.requires.locals c.loop-i.i)

pub loop-i-preserved : goal.loop-i-preserved
loop-i-preserved c =
    let s = scope_in c.args.self.now in
    let e : prints c.push_local.new.out 1 (map (local_line s.program) (drop (c.loop-i.i + 1) s.locals)) ≡ prints c.loop-i.out 1 (map (local_line s.program) (drop c.loop-i.i s.locals)) =
    locals_from _ _ s.program c.requires.program (nodes_in c.args.self.now) c.args.self.now.program.now.names.now c.args.self.now.locals.now c.loop-i.i _ _ (omega arith) c.loop-i-test.true (c.requires.locals c.loop-i.i) c.push_local.ensures in
    e ∙ c.loop-i.invariant

pub returns : goal.returns
returns c =
    locals_end _ _ (scope_in c.args.self.now).program (nodes_in c.args.self.now) c.args.self.now.program.now.names.now c.args.self.now.locals.now c.loop-i.i c.loop-i-test.false c.loop-i.invariant
