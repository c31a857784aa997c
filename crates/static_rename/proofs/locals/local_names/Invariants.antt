use Rattle.std.proofs.Common.{◌≡◌, ◌++◌, take}
use Rattle.fresh_names.specs.Giving.{GivesAll}
use Rattle.static_rename.specs.Local.{IsTable}
use Rattle.static_rename.proofs.locals.local_names.Given as goal

abbrev pub invariant-loop-i : goal.invariant-loop-i
invariant-loop-i l = (l.file.names.taken.keys ≡ l.fn.file.names.taken.keys) × IsTable l.file l.names × GivesAll l.fn.file.names.taken.keys (l.fn.file.names.taken.keys ++ l.function.given.taken.keys) l.function.given.next.entries l.fn.names l.names (take l.i l.wishes) l.all.items
