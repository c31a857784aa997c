use Rattle.cil_control.proofs.Leads.{bodies_lead_on}
use Rattle.cil_control.proofs.laws.bodies_lead_on.Goals as goal

pub returns : goal.returns
returns c = bodies_lead_on
