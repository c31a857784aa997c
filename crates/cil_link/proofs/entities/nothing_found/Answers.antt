use Rattle.std.proofs.Common.{[], ◌∷◌, ◌++◌, ap, ◌∙◌}
use Rattle.host_calls.specs.declared.names.HostName.TheVariants.{Memset}
use Rattle.cil_link.specs.declared.entities.Definer.TheVariants.{Host}
use Rattle.cil_link.proofs.EntityLaws.{finds_nothing, found_from}
use Rattle.cil_link.proofs.entities.nothing_found.Goals as goal

pub returns-clause-finds : goal.returns-clause-finds
returns-clause-finds c = λ units. finds_nothing units c.args.names.now _ c.in_ok-known.ensures.numbers (c.in_ok-push.ensures.items ∙ ap (λ ds. ds ++ Host Memset ∷ []) c.new-definers.ensures.items)

pub returns-clause-found : goal.returns-clause-found
returns-clause-found c = found_from [] c.args.names.now _ _ c.first_numbers.ensures.once (returns-clause-finds c [])
