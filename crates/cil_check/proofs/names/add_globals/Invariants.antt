use Rattle.std.proofs.Common.{◌≡◌, ◌++◌, drop, map}
use Rattle.cil_check.specs.NameLists.{global_id}
use Rattle.cil_check.proofs.names.add_globals.Given as goal

abbrev pub invariant-loop-i : goal.invariant-loop-i
invariant-loop-i l = l.ids.items ++ map global_id (drop l.i l.globals) ≡ l.initial.ids.items ++ map global_id l.globals
