use Rattle.std.proofs.Common.{sym, ap}
use Rattle.c_lexer.specs.Tokens.{Goes}
use Rattle.c_lexer.proofs.reader.Reader.outside.Goals as goal

pub returns-in_ok-push-in-Token-clause-follows : goal.returns-in_ok-push-in-Token-clause-follows
returns-in_ok-push-in-Token-clause-follows c = rw c.in-Token.is (ap Goes (sym (c.in_ok-push-in-Token.ensures.pushed c.args.names.now)))

pub returns-in-Attribute-clause-follows : goal.returns-in-Attribute-clause-follows
returns-in-Attribute-clause-follows c = rw c.in-Attribute.is (ap Goes (sym (c.begin_attribute.ensures.begun c.args.names.now)))
