-- Device: what the run over objects in memory tells is the outcome.
use Rattle.std.proofs.Common.{◌≡◌, ℕ, ◌++◌, List, [], Result, Ok, Err, IfOk, Some, sym, ap, ◌∙◌, subst}
use Rattle.cil_base.specs.declared.kinds.Mode.{Mode}
use Rattle.cil_base.specs.declared.runs.Outcome.{Outcome}
use Rattle.cil_base.specs.declared.runs.Outcome.TheVariants.{Exit, Running, Undefined}
use Rattle.cil_tree.specs.Tree.{Program}
use Rattle.cil_semantics.specs.Runs.{RunCil}
use Rattle.cil_turns.specs.declared.ends.RunEnd.{RunEnd}
use Rattle.cil_turns.specs.declared.ends.RunEnd.TheVariants.{Exited, StillRunning, Undefined as WentUndefined, ReadFault, WriteFault, Memory as WantOfMemory}
use Rattle.cil_runner.specs.Machine.{RunsAs}
use Rattle.cil_runner.specs.Beginning.{outcome_by}

some_is : {A : Type 0} (a b : A) → Some a ≡ Some b → a ≡ b
some_is a b e = cc

module _ (programs : List Program) (mode : Mode) (words : List (List ℕ)) (steps used : ℕ) (bytes rest text : List ℕ) where
  -- the outcome at the input that was read, and what was not, is that at all bytes
  whole : (got : List ℕ) → Some bytes ≡ Some (got ++ rest) → RunCil programs mode words bytes steps ≡ RunCil programs mode words (got ++ rest) steps
  whole got e = ap (λ input. RunCil programs mode words input steps) (some_is bytes (got ++ rest) e)

  pub outcome_told : (end : RunEnd) (o : Outcome) → RunsAs end programs mode words steps used (Some bytes) (Some rest) (Some []) (Some text) → outcome_by end text ≡ Some o → o ≡ RunCil programs mode words bytes steps
  outcome_told (Exited status) o r e = sym (whole r.got r.read ∙ (r.means rest r.finds).outcome ∙ ap (Exit status) (sym (some_is text r.sent r.sends)) ∙ some_is (Exit status text) o e)
  outcome_told StillRunning o r e = sym (whole r.got r.read ∙ (r.means rest r.finds).outcome ∙ ap Running (sym (some_is text r.sent r.sends)) ∙ some_is (Running text) o e)
  outcome_told WentUndefined o r e = sym (whole r.got r.read ∙ (r.means rest r.finds).outcome ∙ ap Undefined (sym (some_is text r.sent r.sends)) ∙ some_is (Undefined text) o e)
  outcome_told ReadFault o r e = cc
  outcome_told WriteFault o r e = cc
  outcome_told WantOfMemory o r e = cc

-- the same, where memory may be wanting
pub outcome_ok : {E : Type 0} (programs : List Program) (mode : Mode) (words : List (List ℕ)) (steps used : ℕ) (r : Result Outcome E) (end : RunEnd) (input read rest none taken text : List ℕ) → read ≡ input → none ≡ [] → text ≡ taken
    → RunsAs end programs mode words steps used (Some read) (Some rest) (Some none) (Some taken) → IfOk r (λ o. outcome_by end text ≡ Some o) → IfOk r (λ o. o ≡ RunCil programs mode words input steps)
outcome_ok programs mode words steps used (Err e) end input read rest none taken text is empty same runs h = tt
outcome_ok programs mode words steps used (Ok o) end input read rest none taken text is empty same runs h =
    outcome_told programs mode words steps used input rest text end o
    (subst (λ bytes. RunsAs end programs mode words steps used (Some bytes) (Some rest) (Some []) (Some text)) is
    (subst (λ bytes. RunsAs end programs mode words steps used (Some read) (Some rest) (Some bytes) (Some text)) empty
    (subst (λ bytes. RunsAs end programs mode words steps used (Some read) (Some rest) (Some none) (Some bytes)) (sym same) runs))) h
