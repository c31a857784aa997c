use Rattle.std.proofs.Common.{rules, ◌≡◌, ◌∷◌, [], false}
use Rattle.cil_tree.specs.declared.globals.CilUnit.{CilUnit}
use Rattle.cil_merge.specs.Merging.{graphs_of}
use Rattle.unit_merger.proofs.OneUnit.{never_refused}
use Rattle.unit_merger.proofs.Texts.{made_alone}
use Rattle.unit_merger.proofs.merger.program_of_unit.Goals as goal

pub returns-in-Err-clause-cause : goal.returns-in-Err-clause-cause
returns-in-Err-clause-cause c =
    let one : c.push.new.self.items ≡ c.in_ok-fronted.fronted ∷ [] = search rules in
    never_refused CilUnit c.in-Err.stop c.args.tokens.now c.args.names.now false c.parsed_front.new.names (graphs_of c.push.new.self.items) c.push.new.self.items c.in_ok-fronted.fronted one c.in_ok-fronted.ensures.externals c.in-Err.ensures.refused

pub returns-in-Ok-clause-program : goal.returns-in-Ok-clause-program
returns-in-Ok-clause-program c =
    let one : c.push.new.self.items ≡ c.in_ok-fronted.fronted ∷ [] = search rules in
    made_alone c.args.tokens.now c.args.names.now c.parsed_front.new.names c.merge.new.names c.push.new.self.items c.in_ok-fronted.fronted c.in-Ok.program one c.parsed_front.ensures.stays c.merge.ensures.stays c.in_ok-fronted.ensures.externals c.in_ok-fronted.ensures.declared c.in-Ok.ensures.merged c.in-Ok.ensures.model
