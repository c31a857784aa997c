use Rattle.std.proofs.Common.{◌≡◌, ◌∙◌, ◌+◌, true, Some, get_or, sym, rules, arith}
use Rattle.c_lexer.specs.declared.pieces.Kind.TheVariants.{Broken}
use Rattle.c_lexer.specs.declared.state.Mode.TheVariants.{Plain}
use Rattle.c_lexer.specs.declared.state.State.TheVariants.{Literal}
use Rattle.c_lexer.specs.Automaton.{in_literal, whole}
use Rattle.c_lexer.proofs.Going.{literal_goes_at, opened}
use Rattle.c_lexer.proofs.runs.literal.Goals as goal

pub loop-i-init : goal.loop-i-init
loop-i-init c = sym (opened c.args.quote (whole Broken 1) 1 c.args.rest.now)

pub loop-i-preserved : goal.loop-i-preserved
loop-i-preserved c =
    let is : in_literal c.args.quote Plain (get_or c.args.rest.now c.loop-i.i 0) ≡ Some (Literal c.args.quote Plain) = search rules in
    sym (literal_goes_at c.args.quote (whole Broken 1) c.args.rest.now c.loop-i.i (c.loop-i.i + 1 + 1) (omega arith) (omega arith) is) ∙ c.loop-i.invariant

pub run-requires : goal.run-requires
run-requires c = record { room = omega arith }
