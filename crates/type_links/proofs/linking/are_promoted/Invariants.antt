use Rattle.std.proofs.Common.{◌≡◌, drop}
use Rattle.type_things.specs.Webs.{things_of}
use Rattle.type_links.specs.Links.{all_stay}
use Rattle.type_links.proofs.linking.are_promoted.Given as goal

abbrev pub invariant-loop-ty : goal.invariant-loop-ty
invariant-loop-ty l = all_stay (things_of l.web) (drop l.ty-index l.types) ≡ all_stay (things_of l.web) l.types
