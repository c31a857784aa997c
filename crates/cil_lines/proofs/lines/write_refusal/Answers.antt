use Rattle.std.proofs.Common.{[], ◌∷◌, ◌++◌, codes}
use Rattle.std.specs.List.{concat}
use Rattle.cil_lines.specs.Messages.{place_pieces, other_pieces, fault_pieces}
use Rattle.cil_lines.proofs.Fronts.{began_first, began_second, began_third}
use Rattle.cil_lines.proofs.lines.write_refusal.Goals as goal

pub returns-in_err-write_at-clause-began : goal.returns-in_err-write_at-clause-began
returns-in_err-write_at-clause-began g c =
    began_first _ _ (concat (codes "cil: " ∷ place_pieces c.args.names.now c.args.refusal.now.at)) (concat (codes ": " ∷ fault_pieces c.args.refusal.now.fault))
    (concat (other_pieces c.args.names.now c.args.refusal.now.other ++ codes "\n" ∷ [])) c.write_at.ensures.began

pub returns-in_err-write_fault-clause-began : goal.returns-in_err-write_fault-clause-began
returns-in_err-write_fault-clause-began g c =
    began_second _ _ _ (concat (codes "cil: " ∷ place_pieces c.args.names.now c.args.refusal.now.at)) (concat (codes ": " ∷ fault_pieces c.args.refusal.now.fault))
    (concat (other_pieces c.args.names.now c.args.refusal.now.other ++ codes "\n" ∷ [])) c.in_ok-write_at.ensures.ok c.write_fault.ensures.began

pub returns-clause-began : goal.returns-clause-began
returns-clause-began g c =
    began_third _ _ _ _ (concat (codes "cil: " ∷ place_pieces c.args.names.now c.args.refusal.now.at)) (concat (codes ": " ∷ fault_pieces c.args.refusal.now.fault))
    (concat (other_pieces c.args.names.now c.args.refusal.now.other ++ codes "\n" ∷ [])) c.in_ok-write_at.ensures.ok c.in_ok-write_fault.ensures.ok c.write_other.ensures.began
