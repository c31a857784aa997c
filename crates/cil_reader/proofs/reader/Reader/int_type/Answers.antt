use Rattle.std.proofs.Common.{[], ◌∷◌, subst}
use Rattle.type_graph.specs.Shapes.{shape}
use Rattle.cil_text.specs.TypesOf.{AddsParts}
use Rattle.cil_text.proofs.PartsAdded.{adds_node}
use Rattle.cil_reader.specs.Settings.{Setting}
use Rattle.cil_reader.proofs.reader.Reader.int_type.Goals as goal

pub returns-clause-adds : goal.returns-clause-adds
returns-clause-adds c =
    subst (λ (s : Setting). AddsParts s.graph c.add_node.new.self (shape c.add_node.new.self.nodes c.in_ok-add_node.field-0.0 ∷ [])) c.self.view_is
    (adds_node c.self.inside.graph c.add_node.new.self _ c.in_ok-add_node.field-0.0 c.add_node.ensures.grows c.in_ok-add_node.ensures.ok)
