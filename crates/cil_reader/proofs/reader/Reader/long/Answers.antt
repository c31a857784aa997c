use Rattle.std.proofs.Common.{ap, ◌∙◌}
use Rattle.cil_base.specs.declared.kinds.Abi.{Abi}
use Rattle.cil_base.specs.Integer.{long_of}
use Rattle.cil_reader.proofs.SettingsLaws.{setting_long}
use Rattle.cil_reader.proofs.reader.Reader.long.Goals as goal

pub returns : goal.returns
returns c = c.long.ensures ∙ ap (λ (abi : Abi). long_of abi) c.abi.ensures ∙ setting_long c.self.inside.graph c.self.inside.known c.args.self.now c.self.view_is
