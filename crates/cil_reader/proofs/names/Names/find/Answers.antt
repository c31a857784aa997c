use Rattle.std.proofs.Common.{◌≡◌, Some, slice_get, arith}
use Rattle.cil_reader.proofs.SettingsLaws.{found_in, got}
use Rattle.cil_reader.proofs.names.Names.find.Goals as goal

pub returns : goal.returns
returns c =
    let there : slice_get c.args.self.now.types.items c.in_ok-number.number ≡ Some c.index.result.now = got c.args.self.now.types.items c.in_ok-number.number c.index.result.now (omega (arith, c.in_ok-number.ensures.within, c.args.self.now.paired)) c.index.ensures in
    found_in c.args.name.now c.args.self.now c.in_ok-number.number c.index.result.now c.args.self.now.paired c.in_ok-number.ensures.found there
