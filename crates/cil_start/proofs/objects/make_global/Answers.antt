use Rattle.cil_start.proofs.ObjectLaws.{moved_on, function_on, zero_held, image_is, function_is}
use Rattle.cil_start.proofs.objects.make_global.Goals as goal

pub returns-in-Zero : goal.returns-in-Zero
returns-in-Zero c =
    moved_on c.make_object.result c.args.mem.now c.make_object.new.mem c.args.e _ _ (zero_held c.args.l.now c.args.x.now c.requires.fits c.args.l.now.entities.now c.in-Zero.is) c.make_object.ensures

pub returns-in-Image : goal.returns-in-Image
returns-in-Image c =
    moved_on c.make_object-in-Image.result c.args.mem.now c.make_object-in-Image.new.mem c.args.e _ _
    (image_is c.args.l.now c.args.x.now c.requires.fits c.args.l.now.entities.now c.in-Image.items c.deref.result.now c.in-Image.is c.deref.ensures.value) c.make_object-in-Image.ensures

pub returns-in-Body : goal.returns-in-Body
returns-in-Body c =
    function_on c.make_function.result c.args.mem.now c.make_function.new.self c.args.e _ (function_is c.args.l.now c.args.x.now c.requires.fits c.args.l.now.entities.now c.in-Body.field-0 c.in-Body.is) c.make_function.ensures
