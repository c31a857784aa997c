use Rattle.cil_tree.specs.View.{exp_of, lval_of}
use Rattle.cil_scan.specs.Said.{all_said}
use Rattle.cil_reader.specs.Settings.{env_in}
use Rattle.cil_reader.proofs.PartsLaws.{place_later}
use Rattle.cil_reader.proofs.InstructionLaws.{assigned_later}
use Rattle.cil_reader.proofs.AddedTrees.{assigned_adds}
use Rattle.cil_reader.proofs.OnwardLaws.{onward_twice}
use Rattle.cil_reader.proofs.instructions.read_assignment.Goals as goal

pub read_assigned-requires-clause-place : goal.read_assigned-requires-clause-place
read_assigned-requires-clause-place c =
    place_later c.args.r.now.graph c.read_exp.new.r.graph (env_in c.args.r.now) (env_in c.read_exp.new.r) c.args.x.place c.args.x.ty c.requires c.read_exp.ensures.on.grows c.read_exp.ensures.on.env

pub returns-clause-gives : goal.returns-clause-gives
returns-clause-gives c =
    let e = assigned_later (env_in c.args.r.now) (env_in c.read_exp.new.r) c.args.left (lval_of c.args.r.now.graph.nodes c.args.x.place) (lval_of c.read_exp.new.r.graph.nodes c.args.x.place) (exp_of c.read_exp.new.r.graph.nodes c.in_ok-value.value.exp.value)
    (all_said c.args.words.now) (all_said c.in_ok-value.rest.now) c.read_exp.ensures.on.env (c.requires.steady c.read_exp.new.r.graph c.read_exp.ensures.on.grows) c.in_ok-value.ensures.gives in
    rw e c.read_assigned.ensures.gives

pub returns-clause-on : goal.returns-clause-on
returns-clause-on c = onward_twice c.args.r.now c.read_exp.new.r c.read_assigned.new.r c.read_exp.ensures.on c.read_assigned.ensures.on

pub returns-clause-adds : goal.returns-clause-adds
returns-clause-adds c = λ f adds.
    c.read_assigned.ensures.adds f (assigned_adds f c.args.r.now.graph c.read_exp.new.r.graph (env_in c.args.r.now) c.args.x.place c.args.x.ty c.in_ok-value.value.exp.value c.read_exp.ensures.on.grows c.requires adds c.in_ok-value.ensures.adds)
