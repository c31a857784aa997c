use Rattle.std.proofs.Common.{length, Some, None, sym, ap, ◌∙◌, get_or, arith}
use Rattle.std.proofs.lemmas.Option.{slice_get_read, slice_get_past}
use Rattle.cil_printer.proofs.Found.{global_typed}
use Rattle.cil_printer.proofs.program.Program.global_type.Goals as goal

pub returns-in-Some : goal.returns-in-Some
returns-in-Some c =
    let x = c.in-Some.x.now in
    let read = c.in-Some.ensures.lookup.3 in
    let value = read.1 x ∙ ap (λ xs. get_or xs c.args.e.0 x) c.deref.ensures.value in
    let there = slice_get_read _ (length c.deref.result.now) c.args.e.0 x (ap length c.deref.ensures.value) read.0 value in
    sym (global_typed c.args.self.now.names.now c.args.self.now.unit.now c.args.e.0 (Some x) there)

pub returns-in-None : goal.returns-in-None
returns-in-None c =
    sym (global_typed c.args.self.now.names.now c.args.self.now.unit.now c.args.e.0 None (slice_get_past _ c.args.e.0 (omega (arith, c.in-None.ensures.lookup.3, ap length c.deref.ensures.value))))
