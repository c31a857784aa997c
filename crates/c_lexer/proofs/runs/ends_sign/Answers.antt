use Rattle.std.proofs.Common.{◌≡◌, get_or, rules, arith, None}
use Rattle.c_lexer.specs.Automaton.{behind_punctuator}
use Rattle.c_lexer.proofs.Going.{sign_stops_at_first}
use Rattle.c_lexer.proofs.runs.ends_sign.Goals as goal

pub returns-in-None : goal.returns-in-None
returns-in-None c =
    let none : behind_punctuator c.args.punctuator (get_or c.args.rest.now 0 0) ≡ None = search rules in
    λ _ last len. sign_stops_at_first c.args.punctuator c.args.rest.now last len (omega arith) none
