use Rattle.std.proofs.Common.{ap, option_map}
use Rattle.c_meaning.specs.SourceFile.{spelled_in}
use Rattle.c_meaning.specs.Reading.{reading}
use Rattle.cil_commands.specs.Reader.{state_of, stack_of}
use Rattle.cil_commands.specs.declared.reader.automaton.State.{State}
use Rattle.cil_commands.proofs.Tokens.{none_behind, some_behind}
use Rattle.cil_commands.proofs.reader.read_tokens.Goals as goal

pub returns-in-None : goal.returns-in-None
returns-in-None c =
    none_behind c.args.tokens.now c.loop-i.i c.token.result c.text.result.now (state_of c.loop-i.state) (stack_of c.loop-i.below.items) (reading (spelled_in c.args.tokens.now.source c.args.tokens.now.entries))
    (option_map (λ (s : State). (state_of s, stack_of c.behind.new.below.items)) c.in_ok-next.field-0) c.token.ensures c.text.ensures c.loop-i.invariant c.in_ok-next.ensures
    (ap (option_map (λ (s : State). (state_of s, stack_of c.behind.new.below.items))) c.in-None.is)

pub loop-i-preserved : goal.loop-i-preserved
loop-i-preserved c =
    some_behind c.args.tokens.now c.loop-i.i c.token.result c.text.result.now (state_of c.loop-i.state) (stack_of c.loop-i.below.items) (reading (spelled_in c.args.tokens.now.source c.args.tokens.now.entries))
    (option_map (λ (s : State). (state_of s, stack_of c.behind.new.below.items)) c.in_ok-next.field-0) (state_of c.in-Some.next) (stack_of c.behind.new.below.items) c.token.ensures c.text.ensures c.loop-i.invariant c.in_ok-next.ensures
    (ap (option_map (λ (s : State). (state_of s, stack_of c.behind.new.below.items))) c.in-Some.is)
