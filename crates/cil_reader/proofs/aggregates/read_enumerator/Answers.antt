use Rattle.std.proofs.Common.{◌≡◌, ◌∷◌, ◌-◌, length, take, drop, Some, rules, arith}
use Rattle.std.proofs.lemmas.Grind.{common_steps}
use Rattle.cil_text.specs.Words.{Assign, Name}
use Rattle.cil_text.specs.ReadStmts.{read_number}
use Rattle.cil_text.specs.ReadAggregates.{read_enumerator}
use Rattle.cil_scan.specs.Said.{all_said}
use Rattle.cil_reader.specs.Members.{enumerator_with}
use Rattle.cil_reader.proofs.MemberLaws.{enumerator_gives, enumerator_fails}
use Rattle.cil_reader.proofs.aggregates.read_enumerator.Goals as goal

pub returns-in_err-valued-in-Name : goal.returns-in_err-valued-in-Name
returns-in_err-valued-in-Name c =
    let words : all_said c.args.words.now ≡ Name c.in-Name.name.now ∷ Assign ∷ all_said (take (length c.args.words.now - 2) (drop 2 c.args.words.now)) = grind (arith, common_steps) in
    rw (c.from_residual.ensures, words) (enumerator_fails c.in-Name.name.now (read_number (all_said (take (length c.args.words.now - 2) (drop 2 c.args.words.now)))) c.in_err-valued-in-Name.ensures)

pub returns-in_ok-valued-in-Name : goal.returns-in_ok-valued-in-Name
returns-in_ok-valued-in-Name c =
    let words : all_said c.args.words.now ≡ Name c.in-Name.name.now ∷ Assign ∷ all_said (take (length c.args.words.now - 2) (drop 2 c.args.words.now)) = grind (arith, common_steps) in
    let read : Some (enumerator_with c.in-Name.name.now c.in_ok-valued-in-Name.field-0) ≡ read_enumerator (all_said c.args.words.now)
    = rw words (enumerator_gives c.in-Name.name.now (read_number (all_said (take (length c.args.words.now - 2) (drop 2 c.args.words.now)))) c.in_ok-valued-in-Name.field-0 c.in_ok-valued-in-Name.ensures) in
    search rules
