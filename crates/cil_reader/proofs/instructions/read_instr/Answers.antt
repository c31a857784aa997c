use Rattle.std.proofs.Common.{◌≡◌, false, sym, rules}
use Rattle.cil_tree.specs.View.{lval_of}
use Rattle.cil_text.specs.ReadStmts.{is_zero}
use Rattle.cil_scan.specs.Said.{all_said}
use Rattle.cil_reader.specs.Settings.{env_in}
use Rattle.cil_reader.proofs.InstructionLaws.{instr_next}
use Rattle.cil_reader.proofs.OnwardLaws.{onward_twice}
use Rattle.cil_reader.proofs.instructions.read_instr.Goals as goal

pub returns-clause-gives : goal.returns-clause-gives
returns-clause-gives c =
    let zero : is_zero (all_said c.args.words.now) ≡ false = search rules in
    let e = instr_next (env_in c.args.r.now) c.args.left (all_said c.args.words.now) (all_said c.in_ok-x.rest.now) (lval_of c.read_place.new.r.graph.nodes c.in_ok-x.x.place) zero c.in_ok-x.ensures.gives in
    rw (e, sym c.read_place.ensures.on.env) c.read_effect.ensures.gives

pub returns-clause-on : goal.returns-clause-on
returns-clause-on c = onward_twice c.args.r.now c.read_place.new.r c.read_effect.new.r c.read_place.ensures.on c.read_effect.ensures.on

pub returns-clause-adds : goal.returns-clause-adds
returns-clause-adds c = c.read_effect.ensures.adds c.args.r.now.graph c.in_ok-x.ensures.adds
