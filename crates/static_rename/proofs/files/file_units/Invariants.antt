use Rattle.std.proofs.Common.{map, take}
use Rattle.static_rename.specs.Filing.{FilesAll}
use Rattle.static_rename.proofs.files.file_units.Given as goal

abbrev pub invariant-loop-u : goal.invariant-loop-u
invariant-loop-u l = FilesAll l.bases (map (λ s. s.items) (take l.u l.stands)) (take l.u l.units) l.fn.fresh.taken.keys l.fresh.taken.keys l.fresh.next.entries l.fn.names l.names l.all.items
