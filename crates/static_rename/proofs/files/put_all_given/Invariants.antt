use Rattle.std.proofs.Common.{◌≡◌, drop}
use Rattle.static_rename.specs.Files.{with_given}
use Rattle.static_rename.proofs.files.put_all_given.Given as goal

abbrev pub invariant-loop-i : goal.invariant-loop-i
invariant-loop-i l = with_given (drop l.i l.filed.things.items) (drop l.i l.filed.names.items) l.globals.items ≡ with_given l.filed.things.items l.filed.names.items l.fn.globals.items
