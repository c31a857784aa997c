use Rattle.std.proofs.Common.{◌<◌, length, arith}
use Rattle.cil_text.specs.ReadGlobals.{plain_names}
use Rattle.cil_scan.specs.Said.{all_said}
use Rattle.cil_reader.specs.Bodies.{texts_of}
use Rattle.cil_reader.proofs.BodyLaws.{names_next}
use Rattle.cil_reader.proofs.bodies.plain_names.Goals as goal

pub loop-i-preserved : goal.loop-i-preserved
loop-i-preserved c =
    let less : c.loop-i.i < length c.args.words.now = omega arith in
    names_next c.args.words.now c.loop-i.i _ (texts_of c.loop-i.names.items) (texts_of c.in_ok-names.names.items) (plain_names (all_said c.args.words.now)) c.loop-i.tagged c.tag_behind-tagged.result less c.loop-i.invariant c.in_ok-names.ensures c.tag_behind-tagged.ensures
