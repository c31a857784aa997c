use Rattle.std.proofs.Common.{length, Some, None, refl, sym, arith}
use Rattle.std.proofs.lemmas.Option.{slice_get_read, slice_get_past}
use Rattle.cil_printer.proofs.Found.{local_typed}
use Rattle.cil_printer.proofs.function.Function.local_type.Goals as goal

pub returns-in-Some : goal.returns-in-Some
returns-in-Some c =
    let x = c.in-Some.x.now in
    let read = c.in-Some.ensures.lookup.3 in
    let xs = c.args.self.now.locals.now in
    sym (local_typed _ _ xs c.args.l.0 (Some x) (slice_get_read xs (length xs) c.args.l.0 x refl read.0 (read.1 x)))

pub returns-in-None : goal.returns-in-None
returns-in-None c =
    let xs = c.args.self.now.locals.now in
    sym (local_typed _ _ xs c.args.l.0 None (slice_get_past xs c.args.l.0 (omega (arith, c.in-None.ensures.lookup.3))))
