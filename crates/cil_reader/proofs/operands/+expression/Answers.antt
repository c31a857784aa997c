use Rattle.std.proofs.Common.{◌≡◌, ◌<◌, true, Some, None, Err, sym, ap, ◌∙◌, rules}
use Rattle.cil_tree.specs.Tree.{Bin, Exp}
use Rattle.cil_tree.specs.View.{exp_of, host_of, lval_of}
use Rattle.cil_text.specs.ReadExps.{Env, chosen, read_exp, is_offset}
use Rattle.cil_scan.specs.Said.{all_said}
use Rattle.cil_forms.specs.Forms.{closing}
use Rattle.cil_reader.specs.Settings.{env_in, type_in}
use Rattle.cil_reader.proofs.OnwardLaws.{onward_twice}
use Rattle.cil_reader.proofs.PartsLaws.{exp_later, place_later, there_later}
use Rattle.cil_reader.proofs.OperandLaws.{enclosed_open, chosen_gives, binary_next, place_next, offsets_next, offsets_stop}
use Rattle.cil_reader.proofs.AddedTrees.{un_adds, bin_adds, cast_adds, address_adds, chosen_adds, at_adds, base_adds, element_adds}
use Rattle.cil_reader.proofs.operands.+expression.Goals as goal

pub one_element-step_to_element-requires-clause-place : goal.one_element-step_to_element-requires-clause-place
one_element-step_to_element-requires-clause-place t c =
    place_later c.args.r.now.graph c.read_exp.new.r.graph (env_in c.args.r.now) (env_in c.read_exp.new.r) c.args.located.place c.args.located.ty c.requires c.read_exp.ensures.on.grows c.read_exp.ensures.on.env

pub right_operand-with_binary-requires-clause-left : goal.right_operand-with_binary-requires-clause-left
right_operand-with_binary-requires-clause-left t c =
    exp_later c.args.r.now.graph c.read_exp.new.r.graph (env_in c.args.r.now) (env_in c.read_exp.new.r) c.args.x.exp.value c.args.x.to c.requires c.read_exp.ensures.on.grows c.read_exp.ensures.on.env

pub right_operand-returns-in_default-clause-gives : goal.right_operand-returns-in_default-clause-gives
right_operand-returns-in_default-clause-gives t c =
    let none : None ≡ closing (all_said c.in_ok-operand.rest.now) = search rules in
    enclosed_open (Bin c.args.op (exp_of c.args.r.now.graph.nodes c.args.x.exp.value)) (read_exp (env_in c.args.r.now) c.args.left (all_said c.args.words.now)) (exp_of c.read_exp.new.r.graph.nodes c.in_ok-operand.operand.exp.value)
    (all_said c.in_ok-operand.rest.now) c.in_ok-operand.ensures.gives none

pub right_operand-returns-clause-adds : goal.right_operand-returns-clause-adds
right_operand-returns-clause-adds t c = λ f adds.
    bin_adds f c.args.r.now.graph c.read_exp.new.r.graph (env_in c.args.r.now) c.args.op c.args.x.exp.value c.in_ok-operand.operand.exp.value c.in_ok-with_binary.field-0.exp.value c.args.x.to c.read_exp.ensures.on.grows c.requires c.in_ok-with_binary.ensures.tree adds
    c.in_ok-operand.ensures.adds

pub read_place-returns-clause-gives : goal.read_place-returns-clause-gives
read_place-returns-clause-gives t c =
    let e = place_next (env_in c.args.r.now) (read_exp (env_in c.args.r.now) c.args.left) c.args.left (all_said c.args.words.now) (all_said c.in_ok-based.rest.now) (host_of c.read_host.new.r.graph.nodes c.in_ok-based.based.host) c.in_ok-based.ensures.gives in
    rw (e, sym c.read_host.ensures.on.env) c.behind_host.ensures.gives

pub read_offsets-loop-steps-preserved : goal.read_offsets-loop-steps-preserved
read_offsets-loop-steps-preserved t c =
    let inv = c.loop-steps.invariant in
    let old = c.loop-steps.r in
    let new = c.one_step.new.r in
    let some : 0 < c.loop-steps.steps = search rules in
    let more : is_offset (all_said c.loop-steps.at.rest.now) ≡ true = search rules in (
      onward_twice c.args.r.now old new inv.0 c.one_step.ensures.on,
      offsets_next (env_in c.args.r.now) (env_in old) c.args.left c.loop-steps.steps (lval_of old.graph.nodes c.loop-steps.at.located.place) (lval_of new.graph.nodes c.in_ok-at.at.located.place) (type_in old.graph.nodes c.loop-steps.at.located.ty) (type_in new.graph.nodes c.in_ok-at.at.located.ty)
          (all_said c.loop-steps.at.rest.now) (all_said c.in_ok-at.at.rest.now) _ some more inv.0.env c.in_ok-at.ensures.gives inv.1,
      c.in_ok-at.ensures.known,
      λ f adds. c.in_ok-at.ensures.adds f (inv.3 f adds),
    )

pub read_offsets-returns-in_err-at-clause-gives : goal.read_offsets-returns-in_err-at-clause-gives
read_offsets-returns-in_err-at-clause-gives t c =
    let inv = c.loop-steps.invariant in
    let old = c.loop-steps.r in
    let some : 0 < c.loop-steps.steps = search rules in
    let more : is_offset (all_said c.loop-steps.at.rest.now) ≡ true = search rules in
    let stops = offsets_stop (env_in c.args.r.now) (env_in old) c.args.left c.loop-steps.steps (lval_of old.graph.nodes c.loop-steps.at.located.place) (type_in old.graph.nodes c.loop-steps.at.located.ty) (all_said c.loop-steps.at.rest.now) _ c.in_err-at.field-0.0 some more inv.0.env
    c.in_err-at.ensures.gives inv.1 in
    let err : c.from_residual.result ≡ Err c.in_err-at.field-0.0 = search rules in
    rw err stops

pub one_operand-returns-clause-adds : goal.one_operand-returns-clause-adds
one_operand-returns-clause-adds t c =
    un_adds c.args.r.now.graph c.read_exp.new.r.graph c.args.op c.in_ok-operand.operand.exp.value c.in_ok-with_unary.field-0.exp.value c.in_ok-with_unary.ensures.tree c.in_ok-operand.ensures.adds

pub read_address-returns-clause-adds : goal.read_address-returns-clause-adds
read_address-returns-clause-adds t c =
    address_adds c.args.r.now.graph c.read_place.new.r.graph c.in_ok-located.located.place c.in_ok-with_address.field-0.exp.value c.in_ok-with_address.ensures.tree c.in_ok-located.ensures.adds

pub read_chosen-returns-clause-gives : goal.read_chosen-returns-clause-gives
read_chosen-returns-clause-gives t c =
    let env = env_in c.args.r.now in
    let place = lval_of c.read_place.new.r.graph.nodes c.in_ok-located.located.place in
    let rest = all_said c.in_ok-located.rest.now in
    chosen_gives env (read_exp env c.args.left) c.args.left (all_said c.args.words.now) rest place c.in_ok-located.ensures.gives
    ∙ ap (λ (v : Env). Some (chosen v place, rest)) (sym c.read_place.ensures.on.env) ∙ ap (λ (x : Exp). Some (x, rest)) (sym c.in_ok-chosen.ensures.tree)

pub read_chosen-returns-clause-adds : goal.read_chosen-returns-clause-adds
read_chosen-returns-clause-adds t c =
    chosen_adds c.args.r.now.graph c.read_place.new.r.graph (env_in c.read_place.new.r) c.in_ok-located.located.place c.in_ok-chosen.field-0.exp.value c.in_ok-chosen.ensures.tree c.in_ok-located.ensures.adds

pub read_cast-returns-clause-on : goal.read_cast-returns-clause-on
read_cast-returns-clause-on t c = onward_twice c.args.r.now c.read_decl.new.self c.cast_operand.new.r c.read_decl.ensures.on c.cast_operand.ensures.on

pub read_cast-returns-clause-adds : goal.read_cast-returns-clause-adds
read_cast-returns-clause-adds t c = c.cast_operand.ensures.adds c.args.r.now.graph c.in_ok-named.ensures.adds

pub cast_operand-with_cast-requires-clause-there : goal.cast_operand-with_cast-requires-clause-there
cast_operand-with_cast-requires-clause-there t c = there_later c.args.r.now.graph c.read_exp.new.r.graph c.args.to c.read_exp.ensures.on.grows c.requires

pub cast_operand-returns-clause-adds : goal.cast_operand-returns-clause-adds
cast_operand-returns-clause-adds t c = λ f adds.
    cast_adds f c.args.r.now.graph c.read_exp.new.r.graph c.args.to c.in_ok-operand.operand.exp.value c.in_ok-with_cast.field-0.exp.value c.read_exp.ensures.on.grows c.requires c.in_ok-with_cast.ensures.tree adds c.in_ok-operand.ensures.adds

pub read_binary-returns-clause-gives : goal.read_binary-returns-clause-gives
read_binary-returns-clause-gives t c =
    let e = binary_next (read_exp (env_in c.args.r.now) c.args.left) (all_said c.args.words.now) (all_said c.in_ok-operand.rest.now) (exp_of c.read_exp.new.r.graph.nodes c.in_ok-operand.operand.exp.value) c.in_ok-operand.ensures.gives in
    rw (e, sym c.read_exp.ensures.on.env) c.read_right.ensures.gives

pub read_binary-returns-clause-on : goal.read_binary-returns-clause-on
read_binary-returns-clause-on t c = onward_twice c.args.r.now c.read_exp.new.r c.read_right.new.r c.read_exp.ensures.on c.read_right.ensures.on

pub read_binary-returns-clause-adds : goal.read_binary-returns-clause-adds
read_binary-returns-clause-adds t c = c.read_right.ensures.adds c.args.r.now.graph c.in_ok-operand.ensures.adds

pub read_place-returns-clause-on : goal.read_place-returns-clause-on
read_place-returns-clause-on t c = onward_twice c.args.r.now c.read_host.new.r c.behind_host.new.r c.read_host.ensures.on c.behind_host.ensures.on

pub read_place-returns-clause-adds : goal.read_place-returns-clause-adds
read_place-returns-clause-adds t c = c.behind_host.ensures.adds c.args.r.now.graph c.in_ok-based.ensures.adds

pub behind_host-returns-clause-adds : goal.behind_host-returns-clause-adds
behind_host-returns-clause-adds t c = λ f adds. c.in_ok-read.ensures.adds f (base_adds f c.args.r.now.graph c.args.based.host c.with_base-located.result.place c.with_base-located.ensures.tree adds)

pub pointed_host-returns-clause-adds : goal.pointed_host-returns-clause-adds
pointed_host-returns-clause-adds t c =
    at_adds c.args.r.now.graph c.read_exp.new.r.graph c.in_ok-operand.operand.exp.value c.with_pointer.result.host c.with_pointer.ensures.tree c.in_ok-operand.ensures.adds

pub one_element-returns-clause-adds : goal.one_element-returns-clause-adds
one_element-returns-clause-adds t c = λ f adds.
    element_adds f c.args.r.now.graph c.read_exp.new.r.graph (env_in c.args.r.now) c.args.located.place c.step_to_element.new.x.place c.args.located.ty c.in_ok-index.index.exp.value c.read_exp.ensures.on.grows c.requires c.in_ok-step_to_element.ensures.tree adds
    c.in_ok-index.ensures.adds
