use Rattle.std.proofs.Common.{map, subst}
use Rattle.std.specs.String.{string_bytes}
use Rattle.cil_merge.specs.Merging.{graphs_of, IsMergeRefusal}
use Rattle.cil_tree.specs.declared.globals.CilUnit.{CilUnit}
use Rattle.unit_merger.specs.Linking.{names_in}
use Rattle.unit_merger.proofs.Links.{of_merge, merge_cause}
use Rattle.unit_merger.proofs.Texts.{made}
use Rattle.unit_merger.proofs.merger.program_of_units.Goals as goal

pub returns-in-Err-Refused-clause-cause : goal.returns-in-Err-Refused-clause-cause
returns-in-Err-Refused-clause-cause c =
    merge_cause CilUnit c.of_link.result c.args.common c.args.over c.args.units.now (map string_bytes c.args.files.now) c.in_ok-fronted.fronted.items c.fronted.new.names c.merge.new.names c.in-Err-Refused.refusal
    c.in_ok-fronted.ensures.merged c.in_ok-fronted.ensures.fronted c.merge.ensures.stays
    (subst (IsMergeRefusal c.args.common c.fronted.new.names (graphs_of c.in_ok-fronted.fronted.items) (names_in c.in_ok-fronted.fronted.items)) c.in-Err-Refused.field-0-is c.in-Err-Refused.ensures.refused)
    c.of_link.ensures.same c.of_link.ensures.late

pub returns-in-Err-Refused-clause-links : goal.returns-in-Err-Refused-clause-links
returns-in-Err-Refused-clause-links c =
    of_merge CilUnit c.of_link.result c.args.common c.args.units.now (map string_bytes c.args.files.now) c.in_ok-fronted.fronted.items c.fronted.new.names c.merge.new.names c.in-Err-Refused.refusal
    c.in_ok-fronted.ensures.fronted c.merge.ensures.stays
    (subst (IsMergeRefusal c.args.common c.fronted.new.names (graphs_of c.in_ok-fronted.fronted.items) (names_in c.in_ok-fronted.fronted.items)) c.in-Err-Refused.field-0-is c.in-Err-Refused.ensures.refused)
    c.of_link.ensures.same

pub returns-in-Ok-clause-program : goal.returns-in-Ok-clause-program
returns-in-Ok-clause-program c =
    made c.args.common c.args.units.now (map string_bytes c.args.files.now) c.in_ok-fronted.fronted.items c.fronted.new.names c.merge.new.names c.in-Ok.program c.in_ok-fronted.ensures.fronted c.merge.ensures.stays c.in-Ok.ensures.once c.in-Ok.ensures.correspond c.in-Ok.ensures.merged c.in-Ok.ensures.model
