use Rattle.std.proofs.Common.{◌≡◌, ◌∙◌, ◌+◌, drop, length, arith}
use Rattle.cil_printer.specs.Output.{puts}
use Rattle.cil_printer.specs.Sides.{following}
use Rattle.cil_printer.specs.Seen.{tree_of, named_parts}
use Rattle.cil_printer.proofs.Declarations.{each_at}
use Rattle.cil_printer.proofs.NamedParameters.{named_from, named_end}
use Rattle.cil_printer.proofs.program.Program.push_following_parameters.Goals as goal

pub push_declared-requires : goal.push_declared-requires
push_declared-requires c = each_at (length c.args.self.now.unit.now.graph.nodes) c.args.types.now c.loop-i.i (record { 0 = 0 }) c.requires (omega arith)

pub loop-i-preserved : goal.loop-i-preserved
loop-i-preserved c =
    let p = tree_of c.args.self.now in
    let e : puts c.push_declared.new.out (following (named_parts p (drop (c.loop-i.i + 1) c.args.types.now) (drop (c.loop-i.i + 1) c.args.names.now))) ≡ puts c.loop-i.out (following (named_parts p (drop c.loop-i.i c.args.types.now) (drop c.loop-i.i c.args.names.now))) =
    named_from _ _ _ p c.args.types.now c.args.names.now c.loop-i.i _ _ _ (omega arith) (omega arith) (omega arith) c.token.ensures c.push_declared.ensures in
    e ∙ c.loop-i.invariant

pub returns : goal.returns
returns c = named_end _ _ (tree_of c.args.self.now) c.args.types.now c.args.names.now c.loop-i.i _ c.min-i-end.ensures c.loop-i-test.false c.loop-i.invariant
