use Rattle.std.proofs.Common.{Some, ap, ◌∙◌}
use Rattle.cil_frames.specs.declared.frames.Entity.TheVariants.{Data as OfData, Host as OfHost}
use Rattle.cil_turns.proofs.Begins.{no_function, entry_of, nothing_there}
use Rattle.cil_turns.proofs.calls.call_entity.Goals as goal

pub returns-in-Data-clause-turned : goal.returns-in-Data-clause-turned
returns-in-Data-clause-turned g c table x h there =
    no_function table c.args.run.now x c.args.behind c.args.e.now h (nothing_there table c.args.e.now.callee c.args.callee (Some OfData) c.requires.called (there ∙ ap (λ e. Some (Some e)) c.in-Data.is) tt) _ _

pub returns-in-Program-clause-turned : goal.returns-in-Program-clause-turned
returns-in-Program-clause-turned g c table x h there = c.call_function.ensures.turned table x h c.requires.called (there ∙ ap (λ e. Some (Some e)) c.in-Program.is) _ _

pub returns-in-Program-clause-falls : goal.returns-in-Program-clause-falls
returns-in-Program-clause-falls g c table x h there = c.call_function.ensures.falls table x h (there ∙ ap (λ e. Some (Some e)) c.in-Program.is)

pub returns-in-Host-clause-turned : goal.returns-in-Host-clause-turned
returns-in-Host-clause-turned g c table x h there =
    c.call_host.ensures.turned table x h (entry_of table c.args.e.now.callee c.args.callee (Some (OfHost c.in-Host.name)) c.requires.called (there ∙ ap (λ e. Some (Some e)) c.in-Host.is))
