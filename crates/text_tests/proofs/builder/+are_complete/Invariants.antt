use Rattle.std.proofs.Common.{length}
use Rattle.text_tests.proofs.builder.+are_complete.Given as goal

abbrev pub decreases-are_complete : goal.decreases-are_complete
decreases-are_complete l = length l.members.now
