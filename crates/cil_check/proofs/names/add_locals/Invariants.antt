use Rattle.std.proofs.Common.{◌≡◌, ◌++◌, drop, map}
use Rattle.cil_check.specs.NameLists.{local_id}
use Rattle.cil_check.proofs.names.add_locals.Given as goal

abbrev pub invariant-loop-i : goal.invariant-loop-i
invariant-loop-i l = l.ids.items ++ map local_id (drop l.i l.locals) ≡ l.initial.ids.items ++ map local_id l.locals
