use Rattle.byte_mem.proofs.AgainLemmas.{kept, load_again, load_bytes_again, load_other}
use Rattle.byte_mem.proofs.laws.stores_are_retained.Goals as goal

pub returns : goal.returns
returns c = record { represented = kept; value = load_again; bytes = load_bytes_again; others = load_other }
