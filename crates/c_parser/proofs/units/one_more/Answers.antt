use Rattle.std.proofs.Common.{rules, map, IfErr}
use Rattle.c_tree.specs.UnitView.{external_of as tree_of}
use Rattle.c_cursor.specs.Lexemes.{ahead}
use Rattle.c_parser.specs.UnitStops.{Told, FailsExternal}
use Rattle.c_parser.proofs.UnitWhole.{stops_result}
use Rattle.c_parser.proofs.units.one_more.Goals as goal

pub returns-in_err-d-clause-refused : goal.returns-in_err-d-clause-refused
returns-in_err-d-clause-refused g c =
    let says : IfErr c.from_residual.result (λ stop. Told (FailsExternal c.args.s.now (ahead c.args.c.now) (ahead c.next_external.new.c)) stop) = search rules in
    stops_result c.from_residual.result c.args.c.now.all c.next_external.new.c.all c.args.c.now.at c.next_external.new.c.at (map tree_of c.args.first) c.args.s.now c.requires.behind c.requires.on says
