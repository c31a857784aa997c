use Rattle.std.proofs.Common.{refl}
use Rattle.cil_code.specs.Taking.{datum_of}
use Rattle.cil_turns.proofs.Returns.{kept_on, kept_nowhere}
use Rattle.cil_turns.proofs.returning.keep_on.Goals as goal

pub returns-in-None-clause-turned : goal.returns-in-None-clause-turned
returns-in-None-clause-turned c table h left taken = kept_nowhere table c.args.run.now _ c.keep.new.mem c.args.to (datum_of c.args.d.now) c.args.x c.in-None.ensures refl h left taken

pub returns-in-Some-clause-turned : goal.returns-in-Some-clause-turned
returns-in-Some-clause-turned c table h left taken = kept_on table c.args.run.now _ c.keep.new.mem c.args.to (datum_of c.args.d.now) c.args.x tt c.in-Some.ensures refl h left taken
