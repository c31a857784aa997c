use Rattle.c_meaning.proofs.Units.{unit_reads}
use Rattle.c_meaning.proofs.laws.reading_is_exact.Goals as goal

pub returns : goal.returns
returns c = unit_reads
