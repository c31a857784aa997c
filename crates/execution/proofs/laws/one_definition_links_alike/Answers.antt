use Rattle.execution.proofs.Modes.{linked_once}
use Rattle.execution.proofs.laws.one_definition_links_alike.Goals as goal

pub returns : goal.returns
returns c = linked_once
