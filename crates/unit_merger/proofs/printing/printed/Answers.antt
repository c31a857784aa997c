use Rattle.unit_merger.proofs.printing.printed.Goals as goal

pub print-requires : goal.print-requires
print-requires c = c.in_ok-check.ensures.0 c.if-not-branch.false

pub returns-in-Err-TooLong-clause-program : goal.returns-in-Err-TooLong-clause-program
returns-in-Err-TooLong-clause-program c = c.in_ok-check.ensures.0 c.if-not-branch.false
