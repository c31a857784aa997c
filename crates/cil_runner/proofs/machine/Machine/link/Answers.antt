use Rattle.std.proofs.Common.{◌≡◌, refl, true, false}
use Rattle.cil_runner.proofs.Loads.{all_small, machine_loads, machine_is_fresh}
use Rattle.cil_runner.proofs.machine.Machine.link.Goals as goal

pub all_layouts-requires : goal.all_layouts-requires
all_layouts-requires c = all_small c.args.names.now c.args.units.now c.requires.units

pub returns-clause-loads : goal.returns-clause-loads
returns-clause-loads c = λ mode model separate. machine_loads _ _ mode _ _ _ _ model separate c.in_ok-table.ensures.machine c.in_ok-mem.ensures c.new-2.ensures.mem c.in_ok-streams.ensures c.new-2.ensures.streams c.main_of.ensures refl

pub returns-clause-fresh : goal.returns-clause-fresh
returns-clause-fresh c = machine_is_fresh _ _ _ _ (returns-clause-loads c (record { common = false; abi = c.requires.model.model }) c.requires.model.each (λ (wrong : false ≡ true). absurd cc)) c.in_ok-table.ensures.leads c.new-2.ensures.fresh refl
