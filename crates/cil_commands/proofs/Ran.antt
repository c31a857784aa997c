-- What the clauses of `run` say, from what its answer says.
use Rattle.std.proofs.Common.{◌≡◌, ℕ, List, [], ◌∷◌, Option, Some, None, IfSome, ◌⊎◌, inl, inr, refl, ap, sym, subst, ◌∙◌}
use Rattle.std.specs.Option.{option_and_then}
use Rattle.cil_base.specs.declared.kinds.Abi.TheVariants.{Lp64}
use Rattle.cil_tree.specs.Tree.{Program}
use Rattle.cil_tree.specs.Programs.{IsTextOf}
use Rattle.cil_tree.specs.LaidOut.{bad_place}
use Rattle.cil_text.proofs.OneText.{same_text}
use Rattle.cil_equal.proofs.ProgramsAlike.{run_alike}
use Rattle.cil_semantics.specs.Runs.{RunCil}
use Rattle.cil_semantics.specs.Modes.{mode_of}
use Rattle.cil_reader.specs.Stops.{IsNoText}
use Rattle.cil_commands.specs.Execute.{IsRunAnswer, IsEnd, RanAs, Ran, RunSays, AnswersAs}
use Rattle.cil_lines.specs.Messages.{HasFiles}
use Rattle.cil_commands.proofs.Runs.{ran_alike, answers_given}
use Rattle.cil_lines.specs.declared.status.Status.{Status}
use Rattle.cil_lines.specs.declared.status.Status.TheVariants.{Done, Exited, StillRunning, WentUndefined, Usage, Refused, NotCil, ReadFault, WriteFault, Memory}

-- the statuses of `run`
pub run_kind : (idle unread failed : Type 0) (asked : Option (List ℕ)) (words : List (List ℕ)) (steps : ℕ) (status : Status) (left left' taken taken' : Option (List ℕ)) → RunSays idle unread failed asked words steps status left left' taken taken' → IsRunAnswer status
run_kind idle unread failed asked words steps Done left left' taken taken' says = says
run_kind idle unread failed asked words steps (Exited s) left left' taken taken' says = tt
run_kind idle unread failed asked words steps StillRunning left left' taken taken' says = tt
run_kind idle unread failed asked words steps WentUndefined left left' taken taken' says = tt
run_kind idle unread failed asked words steps Usage left left' taken taken' says = says
run_kind idle unread failed asked words steps (Refused r) left left' taken taken' says = says
run_kind idle unread failed asked words steps (NotCil k) left left' taken taken' says = tt
run_kind idle unread failed asked words steps ReadFault left left' taken taken' says = tt
run_kind idle unread failed asked words steps WriteFault left left' taken taken' says = tt
run_kind idle unread failed asked words steps Memory left left' taken taken' says = tt

-- none of them has places
pub run_files : (status : Status) (count : ℕ) → IsRunAnswer status → HasFiles count status
run_files (Refused refusal) count kind = absurd kind
run_files _ count kind = tt

-- whose call failed
pub read_failed : (idle unread stays failed named : Type 0) (asked : Option (List ℕ)) (words : List (List ℕ)) (steps : ℕ) (status : Status) (left left' taken taken' : Option (List ℕ)) → RunSays idle unread (stays × failed) asked words steps status left left' taken taken'
    → named → status ≡ ReadFault → unread ⊎ (named × failed)
read_failed idle unread stays failed named asked words steps ReadFault left left' taken taken' (inl says) there is = inl says.0
read_failed idle unread stays failed named asked words steps ReadFault left left' taken taken' (inr says) there is = inr (there, says.0.1)
read_failed idle unread stays failed named asked words steps Done left left' taken taken' says there is = absurd says
read_failed idle unread stays failed named asked words steps (Exited s) left left' taken taken' says there is = let clash : Exited s ≡ ReadFault = is in cc
read_failed idle unread stays failed named asked words steps StillRunning left left' taken taken' says there is = let clash : StillRunning ≡ ReadFault = is in cc
read_failed idle unread stays failed named asked words steps WentUndefined left left' taken taken' says there is = let clash : WentUndefined ≡ ReadFault = is in cc
read_failed idle unread stays failed named asked words steps Usage left left' taken taken' says there is = absurd says
read_failed idle unread stays failed named asked words steps (Refused r) left left' taken taken' says there is = absurd says
read_failed idle unread stays failed named asked words steps (NotCil k) left left' taken taken' says there is = let clash : NotCil k ≡ ReadFault = is in cc
read_failed idle unread stays failed named asked words steps WriteFault left left' taken taken' says there is = let clash : WriteFault ≡ ReadFault = is in cc
read_failed idle unread stays failed named asked words steps Memory left left' taken taken' says there is = let clash : Memory ≡ ReadFault = is in cc

-- a program that was run
pub says_ran : (idle failed : Type 0) (bytes : List ℕ) (p : Program) (words : List (List ℕ)) (steps : ℕ) (status : Status) (left left' taken taken' : Option (List ℕ)) → IsTextOf bytes p → p.graph.abi ≡ Lp64 → (status ≡ ReadFault → failed)
    → RanAs p words steps status left left' taken taken' → RunSays idle ⊥ failed (Some bytes) words steps status left left' taken taken'
says_ran idle failed bytes p words steps (Exited s) left left' taken taken' is own read r = record { program = p; bytes = bytes; file = refl; model = own; text = is; run = r }
says_ran idle failed bytes p words steps StillRunning left left' taken taken' is own read r = record { program = p; bytes = bytes; file = refl; model = own; text = is; run = r }
says_ran idle failed bytes p words steps WentUndefined left left' taken taken' is own read r = record { program = p; bytes = bytes; file = refl; model = own; text = is; run = r }
says_ran idle failed bytes p words steps ReadFault left left' taken taken' is own read r = inr (read refl, record { program = p; bytes = bytes; file = refl; model = own; text = is; run = r })
says_ran idle failed bytes p words steps WriteFault left left' taken taken' is own read r = record { program = p; bytes = bytes; file = refl; model = own; text = is; run = r }
says_ran idle failed bytes p words steps Memory left left' taken taken' is own read r = inr (record { program = p; bytes = bytes; file = refl; model = own; text = is; run = r })
says_ran idle failed bytes p words steps Done left left' taken taken' is own read r = absurd (r.says [] (λ e. refl))
says_ran idle failed bytes p words steps Usage left left' taken taken' is own read r = absurd (r.says [] (λ e. refl))
says_ran idle failed bytes p words steps (Refused refusal) left left' taken taken' is own read r = absurd (r.says [] (λ e. refl))
says_ran idle failed bytes p words steps (NotCil k) left left' taken taken' is own read r = absurd (r.says [] (λ e. refl))

-- a program that was run, as each program of the same text
ran_each : (bytes : List ℕ) (words : List (List ℕ)) (steps : ℕ) (status : Status) (left left' taken taken' : Option (List ℕ)) (p : Program) → Ran (Some bytes) words steps status left left' taken taken' → p.graph.abi ≡ Lp64 → IsTextOf bytes p → RanAs p words steps status left left' taken taken'
ran_each bytes words steps status left left' taken taken' p ran own is =
    ran_alike ran.program p (run_alike ran.program p (same_text ran.bytes ran.program p ran.text (subst (λ bs. IsTextOf bs p) ran.file is) (ran.model ∙ sym own))) words steps status left left' taken taken' ran.run

-- of the text of a program
runs_as : (idle unread stays failed out : Type 0) (bytes : List ℕ) (words : List (List ℕ)) (steps : ℕ) (status : Status) (left left' taken taken' : Option (List ℕ)) → (status ≡ WriteFault → out)
    → RunSays idle unread (stays × failed) (Some bytes) words steps status left left' taken taken'
    → (p : Program) → p.graph.abi ≡ Lp64 → IsTextOf bytes p → ¬ unread → ¬ failed → ¬ out → (IsEnd status × RanAs p words steps status left left' taken taken') ⊎ (status ≡ Memory)
runs_as idle unread stays failed out bytes words steps Done left left' taken taken' write says p own is calm calm_input calm_out = absurd says
runs_as idle unread stays failed out bytes words steps (Exited s) left left' taken taken' write says p own is calm calm_input calm_out = inl (tt, ran_each bytes words steps (Exited s) left left' taken taken' p says own is)
runs_as idle unread stays failed out bytes words steps StillRunning left left' taken taken' write says p own is calm calm_input calm_out = inl (tt, ran_each bytes words steps StillRunning left left' taken taken' p says own is)
runs_as idle unread stays failed out bytes words steps WentUndefined left left' taken taken' write says p own is calm calm_input calm_out = inl (tt, ran_each bytes words steps WentUndefined left left' taken taken' p says own is)
runs_as idle unread stays failed out bytes words steps Usage left left' taken taken' write says p own is calm calm_input calm_out = absurd says
runs_as idle unread stays failed out bytes words steps (Refused r) left left' taken taken' write says p own is calm calm_input calm_out = absurd says
runs_as idle unread stays failed out bytes words steps (NotCil k) left left' taken taken' write says p own is calm calm_input calm_out = absurd (says.1.1 p own is)
runs_as idle unread stays failed out bytes words steps ReadFault left left' taken taken' write (inl says) p own is calm calm_input calm_out = absurd (calm says.0)
runs_as idle unread stays failed out bytes words steps ReadFault left left' taken taken' write (inr says) p own is calm calm_input calm_out = absurd (calm_input says.0.1)
runs_as idle unread stays failed out bytes words steps WriteFault left left' taken taken' write says p own is calm calm_input calm_out = absurd (calm_out (write refl))
runs_as idle unread stays failed out bytes words steps Memory left left' taken taken' write says p own is calm calm_input calm_out = inr refl

runs_by : (idle unread stays failed out : Type 0) (asked : Option (List ℕ)) (words : List (List ℕ)) (steps : ℕ) (status : Status) (left left' taken taken' : Option (List ℕ)) → (status ≡ WriteFault → out)
    → RunSays idle unread (stays × failed) asked words steps status left left' taken taken'
    → IfSome asked (λ bytes. (p : Program) → p.graph.abi ≡ Lp64 → IsTextOf bytes p → ¬ unread → ¬ failed → ¬ out → (IsEnd status × RanAs p words steps status left left' taken taken') ⊎ (status ≡ Memory))
runs_by idle unread stays failed out None words steps status left left' taken taken' write says = tt
runs_by idle unread stays failed out (Some bytes) words steps status left left' taken taken' write says = runs_as idle unread stays failed out bytes words steps status left left' taken taken' write says

-- of the file of a name that is asked for, whose bytes may not be told
pub runs_asked : (idle unread stays failed out : Type 0) (under : List ℕ → Option (List ℕ)) (named : Option (List ℕ)) (words : List (List ℕ)) (steps : ℕ) (status : Status) (left left' taken taken' : Option (List ℕ)) → (status ≡ WriteFault → out)
    → IfSome named (λ name. RunSays idle unread (stays × failed) (under name) words steps status left left' taken taken')
    → IfSome (option_and_then under named) (λ bytes. (p : Program) → p.graph.abi ≡ Lp64 → IsTextOf bytes p → ¬ unread → ¬ failed → ¬ out → (IsEnd status × RanAs p words steps status left left' taken taken') ⊎ (status ≡ Memory))
runs_asked idle unread stays failed out under None words steps status left left' taken taken' write says = tt
runs_asked idle unread stays failed out under (Some name) words steps status left left' taken taken' write says = runs_by idle unread stays failed out (under name) words steps status left left' taken taken' write says

-- of an input that is told
answers_as : (p : Program) (words : List (List ℕ)) (steps : ℕ) (status : Status) (given : List ℕ) (left' taken taken' : Option (List ℕ)) → (IsEnd status × RanAs p words steps status (Some given) left' taken taken') ⊎ (status ≡ Memory)
    → AnswersAs (RunCil (p ∷ []) (mode_of p) words given steps) status taken taken' ⊎ (status ≡ Memory)
answers_as p words steps status given left' taken taken' (inl runs) = inl (answers_given p words steps status given left' taken taken' runs.0 runs.1)
answers_as p words steps status given left' taken taken' (inr wants) = inr wants

pub answers_by : (one two three : Type 0) (asked given : Option (List ℕ)) (words : List (List ℕ)) (steps : ℕ) (status : Status) (left' taken taken' : Option (List ℕ))
    → IfSome asked (λ bytes. (p : Program) → p.graph.abi ≡ Lp64 → IsTextOf bytes p → one → two → three → (IsEnd status × RanAs p words steps status given left' taken taken') ⊎ (status ≡ Memory))
    → IfSome asked (λ bytes. IfSome given (λ input. (p : Program) → p.graph.abi ≡ Lp64 → IsTextOf bytes p → one → two → three → AnswersAs (RunCil (p ∷ []) (mode_of p) words input steps) status taken taken' ⊎ (status ≡ Memory)))
answers_by one two three None given words steps status left' taken taken' runs = tt
answers_by one two three (Some bytes) None words steps status left' taken taken' runs = tt
answers_by one two three (Some bytes) (Some input) words steps status left' taken taken' runs = λ p own is a b c. answers_as p words steps status input left' taken taken' (runs p own is a b c)

-- of other bytes
no_ran : (bytes : List ℕ) (words : List (List ℕ)) (steps : ℕ) (status : Status) (left left' taken taken' : Option (List ℕ)) → Ran (Some bytes) words steps status left left' taken taken' → ¬ (IsNoText Lp64 bytes)
no_ran bytes words steps status left left' taken taken' ran none = none ran.program ran.model (subst (λ bs. IsTextOf bs ran.program) (sym ran.file) ran.text)

not_cil_as : (idle unread failed : Type 0) (bytes : List ℕ) (words : List (List ℕ)) (steps : ℕ) (status : Status) (left left' taken taken' : Option (List ℕ)) → RunSays idle unread failed (Some bytes) words steps status left left' taken taken'
    → IsNoText Lp64 bytes → ¬ unread → (status ≡ NotCil (bad_place bytes)) ⊎ (status ≡ Memory)
not_cil_as idle unread failed bytes words steps Done left left' taken taken' says none calm = absurd says
not_cil_as idle unread failed bytes words steps (Exited s) left left' taken taken' says none calm = absurd (no_ran bytes words steps (Exited s) left left' taken taken' says none)
not_cil_as idle unread failed bytes words steps StillRunning left left' taken taken' says none calm = absurd (no_ran bytes words steps StillRunning left left' taken taken' says none)
not_cil_as idle unread failed bytes words steps WentUndefined left left' taken taken' says none calm = absurd (no_ran bytes words steps WentUndefined left left' taken taken' says none)
not_cil_as idle unread failed bytes words steps Usage left left' taken taken' says none calm = absurd says
not_cil_as idle unread failed bytes words steps (Refused r) left left' taken taken' says none calm = absurd says
not_cil_as idle unread failed bytes words steps (NotCil k) left left' taken taken' says none calm = inl (ap NotCil says.1.0)
not_cil_as idle unread failed bytes words steps ReadFault left left' taken taken' (inl says) none calm = absurd (calm says.0)
not_cil_as idle unread failed bytes words steps ReadFault left left' taken taken' (inr says) none calm = absurd (no_ran bytes words steps ReadFault left left' taken taken' says.1 none)
not_cil_as idle unread failed bytes words steps WriteFault left left' taken taken' says none calm = absurd (no_ran bytes words steps WriteFault left left' taken taken' says none)
not_cil_as idle unread failed bytes words steps Memory left left' taken taken' says none calm = inr refl

not_cil_by : (idle unread failed : Type 0) (asked : Option (List ℕ)) (words : List (List ℕ)) (steps : ℕ) (status : Status) (left left' taken taken' : Option (List ℕ)) → RunSays idle unread failed asked words steps status left left' taken taken'
    → IfSome asked (λ bytes. IsNoText Lp64 bytes → ¬ unread → (status ≡ NotCil (bad_place bytes)) ⊎ (status ≡ Memory))
not_cil_by idle unread failed None words steps status left left' taken taken' says = tt
not_cil_by idle unread failed (Some bytes) words steps status left left' taken taken' says = not_cil_as idle unread failed bytes words steps status left left' taken taken' says

pub not_cil_asked : (idle unread failed : Type 0) (under : List ℕ → Option (List ℕ)) (named : Option (List ℕ)) (words : List (List ℕ)) (steps : ℕ) (status : Status) (left left' taken taken' : Option (List ℕ))
    → IfSome named (λ name. RunSays idle unread failed (under name) words steps status left left' taken taken')
    → IfSome (option_and_then under named) (λ bytes. IsNoText Lp64 bytes → ¬ unread → (status ≡ NotCil (bad_place bytes)) ⊎ (status ≡ Memory))
not_cil_asked idle unread failed under None words steps status left left' taken taken' says = tt
not_cil_asked idle unread failed under (Some name) words steps status left left' taken taken' says = not_cil_by idle unread failed (under name) words steps status left left' taken taken' says
