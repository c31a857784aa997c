use Rattle.std.proofs.Common.{sym, ◌∙◌, true≢false}
use Rattle.cil_base.proofs.PoolLemmas.{interned-known, interns_new, list_any-contains, asked_stays}
use Rattle.cil_base.proofs.names.NamePool.intern.Goals as goal

pub returns-in-Some-clause-ok : goal.returns-in-Some-clause-ok
returns-in-Some-clause-ok c = record {
  after = sym (interned-known c.args.self.now c.in-Some.n.0 c.args.text.now c.in-Some.ensures.found);
  number = c.in-Some.ensures.found;
}

pub returns-in-None-clause-ok : goal.returns-in-None-clause-ok
returns-in-None-clause-ok c = interns_new c.args.self.now c.append.new.self c.args.text.now c.append.result c.in-None.ensures.found c.append.ensures.ok

pub returns-in-None-clause-known : goal.returns-in-None-clause-known
returns-in-None-clause-known c h = absurd (true≢false (sym (list_any-contains c.args.self.now c.args.text.now h) ∙ c.in-None.ensures.found))

pub returns-in-None-clause-stays : goal.returns-in-None-clause-stays
returns-in-None-clause-stays c = asked_stays c.args.self.now c.append.new.self c.args.text.now c.append.result (interns_new c.args.self.now c.append.new.self c.args.text.now c.append.result c.in-None.ensures.found c.append.ensures.ok) c.append.ensures.err
