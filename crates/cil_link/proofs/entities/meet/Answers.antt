use Rattle.std.proofs.Common.{refl}
use Rattle.cil_link.proofs.EntityLaws.{global_added, global_again}
use Rattle.cil_link.proofs.entities.meet.Goals as goal

pub returns-in-None-clause-meets : goal.returns-in-None-clause-meets
returns-in-None-clause-meets c = λ units entities m is finds.
    global_added units c.args.u.now c.args.names.now entities m c.args.at c.args.x.now c.args.found.now c.add.new.found is finds c.add.result c.definer_of-definer.result c.requires.named c.requires.found.once c.in-None.ensures
    c.definer_of-definer.ensures c.add.ensures.number c.add.ensures.few c.add.ensures.definers c.add.ensures.known

pub returns-in-Some-clause-meets : goal.returns-in-Some-clause-meets
returns-in-Some-clause-meets c = λ units entities m is finds.
    global_again units c.args.u.now c.args.names.now entities m c.args.at c.args.x.now c.args.found.now _ is finds c.in-Some.e c.definer_of-definer.result c.requires.named c.in-Some.ensures c.definer_of-definer.ensures refl c.improve.ensures
