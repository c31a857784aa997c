use Rattle.std.proofs.Common.{ap, ◌∙◌}
use Rattle.cil_base.specs.declared.kinds.Abi.{Abi}
use Rattle.cil_base.specs.Integer.{kind_in}
use Rattle.cil_reader.proofs.SettingsLaws.{setting_kind}
use Rattle.cil_reader.proofs.reader.Reader.kind.Goals as goal

pub returns : goal.returns
returns c = c.kind.ensures ∙ ap (λ (abi : Abi). kind_in abi c.args.written) c.abi.ensures ∙ setting_kind c.self.inside.graph c.self.inside.known c.args.self.now c.args.written c.self.view_is
