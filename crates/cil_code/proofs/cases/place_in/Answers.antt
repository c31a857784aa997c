use Rattle.std.proofs.Common.{◌≡◌, ◌≢◌, rules}
use Rattle.std.proofs.lemmas.Int.{to_z-of_z}
use Rattle.cil_code.proofs.CaseLemmas.{found, passed, ended}
use Rattle.cil_code.proofs.cases.place_in.Goals as goal

pub returns-then-case-v : goal.returns-then-case-v
returns-then-case-v c =
    let fits = c.ranges.v in
    let same : c.in-Some.case.now.0 ≡ c.args.v = search rules in
    let read = c.in-Some.ensures.lookup in
    found c.args.v c.args.other c.position.result c.args.table.now c.in-Some.case.now (simp to_z-of_z at c.position.ensures) read.3.0 read.1 same

pub returns-else-case-v : goal.returns-else-case-v
returns-else-case-v c =
    let fits = c.ranges.v in
    let apart : c.in-Some.case.now.0 ≢ c.args.v = search rules in
    let read = c.in-Some.ensures.lookup in
    passed c.args.v c.args.other c.position.result c.args.table.now c.in-Some.case.now c.requires (simp to_z-of_z at c.position.ensures) read.3.0 read.3.1 apart

pub returns-in-None : goal.returns-in-None
returns-in-None c =
    let fits = c.ranges.v in
    ended c.args.v c.args.other c.position.result c.args.table.now (simp to_z-of_z at c.position.ensures) c.in-None.ensures.lookup.3
