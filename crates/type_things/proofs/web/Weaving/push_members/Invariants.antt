use Rattle.std.proofs.Common.{◌≡◌, ℕ, List, ◌++◌, drop, map}
use Rattle.type_things.specs.Units.{member_part}
use Rattle.type_things.specs.Weaving.{AreStems}
use Rattle.type_things.proofs.web.Weaving.push_members.Given as goal

abbrev pub invariant-loop-m : goal.invariant-loop-m
invariant-loop-m l = (names : List (List ℕ)) → AreStems names l.self.stems.now → l.parts.items ++ map (member_part names l.kind l.self.first.ty) (drop l.m-index l.members) ≡ l.fn.parts.items ++ map (member_part names l.kind l.self.first.ty) l.members
