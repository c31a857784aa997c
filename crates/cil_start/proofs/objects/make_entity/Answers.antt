use Rattle.std.proofs.Common.{ap, sym}
use Rattle.cil_link.specs.Units.{units_in}
use Rattle.cil_start.specs.Loads.{definer_held}
use Rattle.cil_start.proofs.ObjectLaws.{moved_on, function_on}
use Rattle.cil_start.proofs.objects.make_entity.Goals as goal

pub returns-in-Host : goal.returns-in-Host
returns-in-Host c =
    function_on c.make_function.result c.args.mem.now c.make_function.new.self c.args.e (definer_held (units_in c.args.l.now.linked) c.args.definer)
    (ap (definer_held (units_in c.args.l.now.linked)) c.in-Host.is) c.make_function.ensures

pub returns-in-Global : goal.returns-in-Global
returns-in-Global c =
    moved_on c.make_numbered.result c.args.mem.now c.make_numbered.new.mem c.args.e _ _ (ap (definer_held (units_in c.args.l.now.linked)) (sym c.in-Global.is)) c.make_numbered.ensures
