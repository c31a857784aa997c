use Rattle.std.proofs.Common.{arith}
use Rattle.c_parser.proofs.UnitWhole.{behind_first, some_pushed, stops_first, reads_same, stops_same}
use Rattle.c_parser.proofs.units.externals.Goals as goal

pub returns-in_err-d-clause-refused : goal.returns-in_err-d-clause-refused
returns-in_err-d-clause-refused g c = grind (arith, stops_first)

pub more_externals-requires-clause-behind : goal.more_externals-requires-clause-behind
more_externals-requires-clause-behind g c = grind (arith, behind_first)

pub more_externals-requires-clause-some : goal.more_externals-requires-clause-some
more_externals-requires-clause-some g c = grind (arith, some_pushed)

pub returns-clause-read : goal.returns-clause-read
returns-clause-read g c = grind (arith, reads_same)

pub returns-clause-refused : goal.returns-clause-refused
returns-clause-refused g c = grind (arith, stops_same)
