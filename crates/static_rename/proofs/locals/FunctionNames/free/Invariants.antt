use Rattle.std.proofs.Common.{◌≡◌, ℕ, ◌<◌, ◌++◌}
use Rattle.cil_base.specs.NamePool.{Stays}
use Rattle.fresh_names.specs.Naming.{IsSuffixTaken}
use Rattle.static_rename.specs.Local.{IsTable}
use Rattle.static_rename.proofs.locals.FunctionNames.free.Given as goal

abbrev pub invariant-loop-step : goal.invariant-loop-step
invariant-loop-step l = (l.file.names.taken.keys ≡ l.fn.file.names.taken.keys) × Stays l.fn.names l.names × IsTable l.file l.names × ((j : ℕ) → j < l.from → IsSuffixTaken (l.fn.file.names.taken.keys ++ l.self.given.taken.keys) l.names l.base j)
