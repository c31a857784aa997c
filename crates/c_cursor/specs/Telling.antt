-- Definition: what a stop tells: the number of a token, of which the fact holds; or that memory was wanting.
use Rattle.std.specs.Prelude.{ℕ}
use Rattle.c_cursor.specs.declared.stops.ParseStop.{ParseStop}
use Rattle.c_cursor.specs.declared.stops.ParseStop.TheVariants.{At, Memory}

abbrev pub Tells : (ℕ → Type 0) → ParseStop → Type 0
Tells fact (At i) = fact i
Tells fact Memory = Unit {0}
