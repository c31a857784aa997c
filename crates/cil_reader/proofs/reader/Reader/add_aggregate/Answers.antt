use Rattle.std.proofs.Common.{ap, ◌∙◌, refl}
use Rattle.type_graph.specs.Arena.{Graph}
use Rattle.cil_reader.specs.Settings.{Setting, env_in}
use Rattle.cil_reader.proofs.AggregateLaws.{setting, tag_members}
use Rattle.cil_reader.proofs.reader.Reader.add_aggregate.Goals as goal

pub returns-clause-members : goal.returns-clause-members
returns-clause-members c =
    tag_members (setting c.self.inside.graph c.self.inside.known) (setting c.add_agg.new.self (record c.self.inside.known { tags = c.add.new.self })) c.add.new.self (ap (λ (g : Graph). g.nodes) c.in_ok-a.ensures.ok.1) refl
    ∙ ap (λ (s : Setting). (env_in s).members) c.self.view_is
