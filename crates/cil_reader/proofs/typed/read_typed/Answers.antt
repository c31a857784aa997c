use Rattle.std.proofs.Common.{sym}
use Rattle.cil_text.specs.ReadExps.{bases}
use Rattle.cil_scan.specs.Said.{all_said}
use Rattle.cil_reader.specs.Settings.{env_in}
use Rattle.cil_reader.proofs.SameLaws.{typed_other}
use Rattle.cil_reader.proofs.typed.read_typed.Goals as goal

pub returns-clause-gives : goal.returns-clause-gives
returns-clause-gives c =
    typed_other c.args.r.now.graph c.read_decl.new.self.graph (bases (env_in c.args.r.now)) c.args.left c.in_ok-named.named.ty.0 c.args.ty.0 _ (all_said c.args.words.now) (all_said c.in_ok-named.rest.now)
    c.read_decl.ensures.on.grows c.requires c.in_ok-named.ensures.gives (sym c.if-is_same.ensures.is)
