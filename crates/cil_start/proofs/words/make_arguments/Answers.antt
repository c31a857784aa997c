use Rattle.std.proofs.Common.{ap, ◌∙◌, arith}
use Rattle.byte_mem.specs.Store.{memory}
use Rattle.execution.specs.Runs.{word_held}
use Rattle.cil_start.proofs.WordLaws.{arguments_begin, arguments_next, arguments_end}
use Rattle.cil_start.proofs.words.make_arguments.Goals as goal

pub loop-i-init : goal.loop-i-init
loop-i-init c = record {
  model = c.in_ok-make_argument.ensures.1;
  filled = λ entities e. arguments_begin entities c.args.abi c.args.words.now (memory c.args.mem.now) (memory c.make_argument.new.mem) c.in_ok-argv.argv.items e c.in_ok-argv.ensures c.in_ok-make_argument.ensures.0;
}

pub loop-i-preserved : goal.loop-i-preserved
loop-i-preserved c = record {
  model = c.in_ok-make_argument-2.ensures.1 ∙ c.loop-i.invariant.model;
  filled = λ entities e.
      arguments_next c.args.words.now entities c.args.abi (memory c.loop-i.mem) (memory c.make_argument-in-loop-i.new.mem) c.loop-i.i c.index-words-i.result c.in_ok-bytes.bytes.items
      (omega arith) c.index-words-i.is (c.in_ok-bytes.ensures ∙ ap word_held c.as_slice.ensures) (c.loop-i.invariant.filled entities e) c.in_ok-make_argument-2.ensures.0;
}

pub returns-clause-filled : goal.returns-clause-filled
returns-clause-filled c = λ entities e. arguments_end c.args.words.now entities c.args.abi (memory c.loop-i.mem) c.loop-i.i (omega arith) (c.loop-i.invariant.filled entities e)
