use Rattle.std.proofs.Common.{◌≡◌}
use Rattle.cil_base.specs.NamePool.{Stays}
use Rattle.static_rename.specs.Local.{IsTable}
use Rattle.static_rename.specs.Tagging.{named_by}
use Rattle.static_rename.specs.Unit.{NamesUnit}
use Rattle.static_rename.proofs.EachLaws.{UpTo}
use Rattle.static_rename.proofs.renaming.name_units.Given as goal

abbrev pub invariant-loop-u : goal.invariant-loop-u
invariant-loop-u l = (l.file.names.taken.keys ≡ l.fn.file.names.taken.keys) × Stays l.fn.names l.names × IsTable l.file l.names × UpTo (NamesUnit (named_by l.types) l.fn.file.names.taken.keys l.names l.types.bases l.filed) l.u l.fn.units.items l.units.items
