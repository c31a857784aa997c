use Rattle.cil_turns.proofs.HostTurns.{host_turns}
use Rattle.cil_turns.proofs.hosts.call_host.Goals as goal

pub returns-clause-turned : goal.returns-clause-turned
returns-clause-turned g c table x h entry =
    host_turns table c.args.run.now c.ask-end.new.run x c.args.behind c.args.e.now c.args.name _ _ _ _ h entry c.ask-end.ensures.others c.ask-end.result c.answered.new.run c.answered.result c.ask-end.ensures.model c.ask-end.ensures.counted c.ask-end.ensures.asked (c.answered.ensures.turned table)
