use Rattle.std.proofs.Common.{◌≡◌, ◌∷◌, ◌-◌, length, take, drop, None, arith}
use Rattle.std.proofs.lemmas.Grind.{common_steps}
use Rattle.cil_text.specs.Words.{LeftParen}
use Rattle.cil_text.specs.ReadExps.{read_exp}
use Rattle.cil_scan.specs.Said.{all_said}
use Rattle.cil_reader.specs.Settings.{env_in}
use Rattle.cil_reader.proofs.InstructionLaws.{callee_next, callee_none, callee_known, no_result}
use Rattle.cil_reader.proofs.OnwardLaws.{onward_none}
use Rattle.cil_reader.proofs.AddedTrees.{callee_adds}
use Rattle.cil_reader.proofs.instructions.read_effect.Goals as goal

pub read_call-requires-clause-to : goal.read_call-requires-clause-to
read_call-requires-clause-to c = no_result c.args.r.now.graph

pub read_call-requires-clause-callee : goal.read_call-requires-clause-callee
read_call-requires-clause-callee c = callee_known c.args.r.now.graph (env_in c.args.r.now) c.args.x.place c.args.x.ty c.in-Some.callee c.in-Some.ensures c.requires

pub returns-in-Some-clause-gives : goal.returns-in-Some-clause-gives
returns-in-Some-clause-gives c =
    let words : all_said c.args.words.now ≡ LeftParen ∷ all_said (take (length c.args.words.now - 1) (drop 1 c.args.words.now)) = grind (arith, common_steps) in
    rw (words, callee_next c.args.r.now.graph.nodes (read_exp (env_in c.args.r.now) c.args.left) c.args.left None c.args.x.place c.in-Some.callee (all_said (take (length c.args.words.now - 1) (drop 1 c.args.words.now))) c.in-Some.ensures) c.read_call.ensures.gives

pub returns-in-Some-clause-adds : goal.returns-in-Some-clause-adds
returns-in-Some-clause-adds c = λ f adds. c.read_call.ensures.adds f (callee_adds f c.args.r.now.graph c.args.x.place c.in-Some.callee c.in-Some.ensures adds)

pub returns-in-None-clause-gives : goal.returns-in-None-clause-gives
returns-in-None-clause-gives c =
    let words : all_said c.args.words.now ≡ LeftParen ∷ all_said (take (length c.args.words.now - 1) (drop 1 c.args.words.now)) = grind (arith, common_steps) in
    rw (words, callee_none c.args.r.now.graph.nodes (read_exp (env_in c.args.r.now) c.args.left) c.args.left None c.args.x.place (all_said (take (length c.args.words.now - 1) (drop 1 c.args.words.now))) c.in-None.ensures)

pub returns-in-None-clause-on : goal.returns-in-None-clause-on
returns-in-None-clause-on c = onward_none c.args.r.now

pub returns-in_default-clause-on : goal.returns-in_default-clause-on
returns-in_default-clause-on c = onward_none c.args.r.now

pub returns-in-Assign-clause-gives : goal.returns-in-Assign-clause-gives
returns-in-Assign-clause-gives c = grind (arith, common_steps)

pub returns-in_default-clause-gives : goal.returns-in_default-clause-gives
returns-in_default-clause-gives c = grind (arith, common_steps)
