use Rattle.std.proofs.Common.{◌≡◌, filter, take}
use Rattle.static_rename.specs.Files.{is_named}
use Rattle.static_rename.proofs.files.named_ordinary.Given as goal

abbrev pub invariant-loop-i : goal.invariant-loop-i
invariant-loop-i l = l.all.items ≡ filter (is_named l.stands l.globals) (take l.i l.ordinary)
