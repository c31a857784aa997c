use Rattle.std.proofs.Common.{is_some, ap}
use Rattle.cil_check.proofs.ProgramLaws.{parts_answer}
use Rattle.cil_check.proofs.globals.check.Goals as goal

pub returns-in-Some : goal.returns-in-Some
returns-in-Some c = parts_answer c.args.names.now c.args.u.now c.names_and_globals_fit.result (is_some c.in_ok-well_formed_layouts.field-0) c.len-types.ensures.arena c.in_ok-well_formed_layouts.ensures.exact (ap is_some c.in-Some.is) c.names_and_globals_fit.ensures
