use Rattle.cil_streams.proofs.Starts.{counted_empty}
use Rattle.streams_tests.proofs.console.Console.new.Goals as goal

pub invariant_of-result : goal.invariant_of-result
invariant_of-result c = record { counted = counted_empty _ _ c.new-store.ensures.empty c.in_ok-streams.ensures }
