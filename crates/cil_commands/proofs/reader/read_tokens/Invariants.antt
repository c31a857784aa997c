use Rattle.std.proofs.Common.{◌≡◌, drop}
use Rattle.c_meaning.specs.SourceFile.{spelled_in}
use Rattle.c_meaning.specs.Reading.{read_on, reading}
use Rattle.cil_commands.specs.Reader.{state_of, stack_of}
use Rattle.cil_commands.proofs.reader.read_tokens.Given as goal

abbrev pub invariant-loop-i : goal.invariant-loop-i
invariant-loop-i l = read_on 509 (drop l.i (spelled_in l.tokens.source l.tokens.entries)) (state_of l.state) (stack_of l.below.items) ≡ reading (spelled_in l.tokens.source l.tokens.entries)
