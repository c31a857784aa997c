use Rattle.std.proofs.Common.{ℕ, List, [], ◌∷◌, map, IfOk, Global, subst, ◌∙◌}
use Rattle.std.specs.String.{string_bytes}
use Rattle.std.proofs.lemmas.List.Elements.{All-same, All-cons, All-nil}
use Rattle.cil_tree.specs.declared.globals.CilUnit.{CilUnit}
use Rattle.cil_tree.specs.View.{program_of}
use Rattle.cil_tree.specs.Programs.{IsProgram}
use Rattle.cil_semantics.specs.Modes.{HaveModel, LinksApart}
use Rattle.cil_semantics.proofs.Alone.{alone_apart}
use Rattle.cil_runner.specs.Machine.{Loads}
use Rattle.cil_runner.proofs.Loads.{all_units, one_alone}
use Rattle.cil_runner.proofs.machine.Machine.load.Goals as goal

pub link-requires-clause-model : goal.link-requires-clause-model
link-requires-clause-model c = one_alone c.args.names.now c.args.u.now c.from_ref.result.now c.from_ref.ensures.value

pub link-requires-clause-units : goal.link-requires-clause-units
link-requires-clause-units c =
    let is_program = λ (u : CilUnit). IsProgram (program_of c.args.names.now u) in
    let all = All-cons is_program c.args.u.now [] c.requires (All-nil is_program) in
    all_units c.args.names.now c.from_ref.result.now (All-same is_program c.from_ref.result.now (c.args.u.now ∷ []) c.from_ref.ensures.value all)

pub returns-clause-loads : goal.returns-clause-loads
returns-clause-loads c = λ mode model.
    subst (λ (us : List CilUnit). HaveModel mode.abi (map (program_of c.args.names.now) us) → LinksApart mode (map (program_of c.args.names.now) us) → IfOk c.link.result (λ m. Loads m (map (program_of c.args.names.now) us) mode (map (string_bytes {Z = Global}) c.args.args.now))) c.from_ref.ensures.value
    (λ each separate. subst (λ (ws : List (List ℕ)). IfOk c.link.result (λ m. Loads m (map (program_of c.args.names.now) c.from_ref.result.now) mode ws)) (c.deref.ensures.value ∙ c.in_ok-words.ensures) (c.link.ensures.loads mode each separate)) model
    (alone_apart (program_of c.args.names.now c.args.u.now) mode c.requires)
