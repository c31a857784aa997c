use Rattle.std.proofs.Common.{◌≡◌, ◌+◌, ◌++◌, drop, map}
use Rattle.type_things.specs.Units.{plain}
use Rattle.type_things.proofs.web.push_types.Given as goal

abbrev pub invariant-loop-t : goal.invariant-loop-t
invariant-loop-t l = l.parts.items ++ map (λ p. (plain, l.base + p.0)) (drop l.t-index l.types) ≡ l.fn.parts.items ++ map (λ p. (plain, l.base + p.0)) l.types
