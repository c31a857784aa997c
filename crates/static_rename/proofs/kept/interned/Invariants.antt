use Rattle.std.proofs.Common.{map, take}
use Rattle.cil_base.specs.NamePool.{Stays}
use Rattle.static_rename.specs.Files.{HaveTexts}
use Rattle.static_rename.proofs.kept.interned.Given as goal

abbrev pub invariant-loop-text : goal.invariant-loop-text
invariant-loop-text l = Stays l.fn.names l.names × HaveTexts l.names l.all.items (map (λ s. s.now) (take l.text-index l.texts))
