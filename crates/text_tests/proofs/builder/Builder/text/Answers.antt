use Rattle.text_tests.proofs.builder.Builder.text.Goals as goal

pub print-requires : goal.print-requires
print-requires c = c.in_ok-check.ensures.0 c.if-not-branch.false
