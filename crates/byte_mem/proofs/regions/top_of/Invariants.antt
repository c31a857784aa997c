use Rattle.std.proofs.Common.{◌≡◌, drop, max}
use Rattle.byte_mem.specs.Places.{top_of}
use Rattle.byte_mem.proofs.regions.top_of.Given as goal

abbrev pub invariant-loop-place : goal.invariant-loop-place
invariant-loop-place l = max l.top (top_of (drop l.place-index l.places) l.r) ≡ top_of l.places l.r
