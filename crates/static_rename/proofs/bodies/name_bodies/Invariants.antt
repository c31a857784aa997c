use Rattle.std.proofs.Common.{◌≡◌}
use Rattle.cil_base.specs.NamePool.{Stays}
use Rattle.static_rename.specs.Local.{IsTable}
use Rattle.static_rename.specs.Within.{IsNamedWithin}
use Rattle.static_rename.proofs.EachLaws.{UpTo}
use Rattle.static_rename.proofs.bodies.name_bodies.Given as goal

abbrev pub invariant-loop-e : goal.invariant-loop-e
invariant-loop-e l = (l.file.names.taken.keys ≡ l.fn.file.names.taken.keys) × Stays l.fn.names l.names × IsTable l.file l.names × UpTo (λ k. IsNamedWithin l.fn.file.names.taken.keys l.names l.bases) l.e l.fn.globals.items l.globals.items
