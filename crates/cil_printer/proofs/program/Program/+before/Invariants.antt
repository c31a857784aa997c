use Rattle.std.proofs.Common.{◌+◌, ◌*◌}
use Rattle.cil_printer.proofs.program.Program.+before.Given as goal

abbrev pub decreases-push_before : goal.decreases-push_before
decreases-push_before l = 2 * l.t.0 + 1

abbrev pub decreases-write_before : goal.decreases-write_before
decreases-write_before l = 2 * l.t.0
