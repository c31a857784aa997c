use Rattle.std.proofs.Common.{◌≡◌, Err, rules}
use Rattle.cil_reader.proofs.RefusalLaws.{refused_by, memory_only, read_otherwise}
use Rattle.cil_reader.proofs.program.read_text.Goals as goal

pub returns-in_err-unit-clause-refused : goal.returns-in_err-unit-clause-refused
returns-in_err-unit-clause-refused c =
    let err : c.from_residual.result ≡ Err c.in_err-unit.field-0.0 = search rules in
    rw err (refused_by c.args.abi c.args.bytes.now c.in_err-unit.field-0.0 c.in_err-unit.ensures.gives)

pub returns-in_err-is_text-clause-refused : goal.returns-in_err-is_text-clause-refused
returns-in_err-is_text-clause-refused c =
    let err : c.from_residual-in_err-is_text.result ≡ Err c.in_err-is_text.field-0.0 = search rules in
    rw err (memory_only c.args.abi c.args.bytes.now c.in_err-is_text.field-0.0 c.in_err-is_text.ensures.memory)

pub returns-then-not-branch-clause-refused : goal.returns-then-not-branch-clause-refused
returns-then-not-branch-clause-refused c =
    read_otherwise c.args.abi c.args.bytes.now c.read_tree.new.pool c.in_ok-unit.unit c.in_ok-unit.ensures.model c.in_ok-unit.ensures.gives c.in_ok-unit.ensures.needed c.in_ok-unit.ensures.unqualified c.in_ok-unit.ensures.arena (c.in_ok-is_text.ensures.other c.if-not-branch.true)

pub returns-clause-text : goal.returns-clause-text
returns-clause-text c = c.in_ok-is_text.ensures.text c.if-not-branch.false
