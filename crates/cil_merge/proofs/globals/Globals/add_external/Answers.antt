use Rattle.cil_merge.specs.Listing.{mark}
use Rattle.cil_merge.proofs.ListingLaws.{mark_new, mark_known}
use Rattle.cil_merge.proofs.globals.Globals.add_external.Goals as goal

pub returns-in-None-clause-marks : goal.returns-in-None-clause-marks
returns-in-None-clause-marks c = mark_new c.args.self.now c.append_external.new.self (mark c.args.global.now) c.requires.known c.requires.external c.in-None.ensures.value c.in_ok-append_external-in-None.ensures.marks

pub returns-clause-marks : goal.returns-clause-marks
returns-clause-marks c = mark_known c.args.self.now (record c.args.self.now { all = c.add_type_at.new.all }) (mark c.args.global.now) c.in-Some.known.now c.requires.known c.requires.external c.in-Some.ensures.value c.in_ok-add_type_at.ensures
