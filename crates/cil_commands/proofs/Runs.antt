-- What the answer of a machine's run says of a program, and what is said of a program is said of each equal one.
use Rattle.std.proofs.Common.{◌≡◌, ℕ, true, false, List, [], ◌∷◌, ◌++◌, Option, Some, None, refl, sym, ap, subst, ◌∙◌, append-nil, append_assoc}
use Rattle.cil_base.specs.declared.kinds.Abi.{Abi}
use Rattle.cil_base.specs.declared.runs.Outcome.{Outcome}
use Rattle.cil_base.specs.Outcome.{output, IsPrefix}
use Rattle.cil_tree.specs.Tree.{Program}
use Rattle.cil_semantics.specs.Runs.{RunCil, FindsEnd}
use Rattle.cil_semantics.specs.Modes.{HaveModel, mode_of}
use Rattle.cil_semantics.proofs.Modes.{one_has}
use Rattle.cil_equal.specs.Runs.{RunAlike}
use Rattle.outside.specs.Moves.{WasRead, Wrote}
use Rattle.cil_turns.specs.declared.ends.RunEnd.{RunEnd}
use Rattle.cil_turns.specs.declared.ends.RunEnd.TheVariants as end
use Rattle.cil_turns.proofs.Needed.{needed_none, needed_along}
use Rattle.cil_runner.specs.Machine.{RunsAs}
use Rattle.cil_commands.specs.Execute.{status_of, Tells, Says, RanAs, IsEnd, AnswersAs}
use Rattle.cil_commands.specs.RunEnds.{status_by}
use Rattle.cil_lines.specs.declared.status.Status.{Status}
use Rattle.cil_lines.specs.declared.status.Status.TheVariants.{Done, Exited, StillRunning, WentUndefined, Usage, Refused, NotCil, ReadFault, WriteFault, Memory}

-- nothing was read or written

read_none : (left : Option (List ℕ)) → WasRead left left []
read_none None = refl
read_none (Some bytes) = refl

wrote_none : (taken : Option (List ℕ)) → Wrote taken taken []
wrote_none None = refl
wrote_none (Some bytes) = ap Some (sym (append-nil bytes))

pub ran_nothing : (p : Program) (words : List (List ℕ)) (steps : ℕ) (left taken : Option (List ℕ)) → RanAs p words steps Memory left left taken taken
ran_nothing p words steps left taken = record {
  got = [];
  ended = false;
  text = [];
  read = read_none left;
  asked = needed_none (λ input. FindsEnd (p ∷ []) (mode_of p) words input steps ≡ true) false false refl;
  finds = λ e. (let clash : false ≡ true = e in cc);
  stops = λ e. refl;
  wrote = wrote_none taken;
  says = λ tail ends. (output (RunCil (p ∷ []) (mode_of p) words tail steps), refl);
}

-- the answer of a machine

tells : (status : Status) (text : List ℕ) (outcome is : Outcome) → outcome ≡ is → status ≡ status_of is → text ≡ output is → Tells status text outcome
tells status text outcome is same s t = record { end = s ∙ sym (ap status_of same); whole = t ∙ sym (ap output same) }

end_found : (p : Program) (words : List (List ℕ)) (steps : ℕ) (got : List ℕ) → FindsEnd (p ∷ []) (mode_of p) words (got ++ []) steps ≡ true → FindsEnd (p ∷ []) (mode_of p) words got steps ≡ true
end_found p words steps got finds = subst (λ input. FindsEnd (p ∷ []) (mode_of p) words input steps ≡ true) (append-nil got) finds

shorter : (whole sent part rest : List ℕ) → sent ≡ part ++ rest → IsPrefix sent whole → IsPrefix part whole
shorter whole sent part rest split front = (rest ++ front.0, front.1 ∙ (ap (λ t. t ++ front.0) split ∙ append_assoc part rest front.0))

-- a status tells of a failed read where the machine does
read_fault : (e : RunEnd) → status_by e ≡ ReadFault → e ≡ end.ReadFault
read_fault (end.Exited s) is = let clash : Exited s ≡ ReadFault = is in cc
read_fault end.StillRunning is = let clash : StillRunning ≡ ReadFault = is in cc
read_fault end.Undefined is = let clash : WentUndefined ≡ ReadFault = is in cc
read_fault end.ReadFault is = refl
read_fault end.WriteFault is = let clash : WriteFault ≡ ReadFault = is in cc
read_fault end.Memory is = let clash : Memory ≡ ReadFault = is in cc

-- a program has the data model of its own mode
pub in_own_mode : (p : Program) → HaveModel (mode_of p).abi (p ∷ [])
in_own_mode p = one_has p.graph.abi p refl

-- a run of the machine, of which out took the text
ran : (e : RunEnd) (p : Program) (words : List (List ℕ)) (steps used : ℕ) (left left' taken taken' : Option (List ℕ)) (r : RunsAs e (p ∷ []) (mode_of p) words steps used left left' taken taken') (text : List ℕ) → Wrote taken taken' text
    → ((tail : List ℕ) → (r.ended ≡ true → tail ≡ []) → Says p words steps (status_by e) r.got tail text) → RanAs p words steps (status_by e) left left' taken taken'
ran e p words steps used left left' taken taken' r text wrote says = record {
  got = r.got;
  ended = r.ended;
  text = text;
  read = r.read;
  asked = r.asked;
  finds = r.finds;
  stops = λ is. r.stops (read_fault e is);
  wrote = wrote;
  says = says;
}

pub ran_by : (e : RunEnd) (p : Program) (words : List (List ℕ)) (steps used : ℕ) (left left' taken taken' : Option (List ℕ)) → RunsAs e (p ∷ []) (mode_of p) words steps used left left' taken taken' → RanAs p words steps (status_by e) left left' taken taken'
ran_by (end.Exited s) p words steps used left left' taken taken' r =
    ran (end.Exited s) p words steps used left left' taken taken' r r.sent r.sends (λ tail ends. tells (Exited s) r.sent (RunCil (p ∷ []) (mode_of p) words (r.got ++ tail) steps) _ (r.means tail ends).outcome refl refl)
ran_by end.StillRunning p words steps used left left' taken taken' r =
    ran end.StillRunning p words steps used left left' taken taken' r r.sent r.sends (λ tail ends. tells StillRunning r.sent (RunCil (p ∷ []) (mode_of p) words (r.got ++ tail) steps) _ (r.means tail ends).outcome refl refl)
ran_by end.Undefined p words steps used left left' taken taken' r =
    ran end.Undefined p words steps used left left' taken taken' r r.sent r.sends (λ tail ends. tells WentUndefined r.sent (RunCil (p ∷ []) (mode_of p) words (r.got ++ tail) steps) _ (r.means tail ends).outcome refl refl)
ran_by end.ReadFault p words steps used left left' taken taken' r =
    ran end.ReadFault p words steps used left left' taken taken' r r.sent r.sends (λ tail ends. record { front = (r.means tail ends).0.written; end = end_found p words steps r.got ((r.means [] (λ e. refl)).1 refl) })
ran_by end.WriteFault p words steps used left left' taken taken' r =
    ran end.WriteFault p words steps used left left' taken taken' r r.sends.part r.sends.wrote (λ tail ends. shorter (output (RunCil (p ∷ []) (mode_of p) words (r.got ++ tail) steps)) r.sent r.sends.part r.sends.rest r.sends.split (r.means tail ends).written)
ran_by end.Memory p words steps used left left' taken taken' r =
    ran end.Memory p words steps used left left' taken taken' r r.sent r.sends (λ tail ends. (r.means tail ends).written)

-- equal programs

outcome_alike : (p q : Program) → RunAlike p q → (words : List (List ℕ)) (input : List ℕ) (steps : ℕ) → RunCil (p ∷ []) (mode_of p) words input steps ≡ RunCil (q ∷ []) (mode_of q) words input steps
outcome_alike p q same words input steps = same.outcome (mode_of p) words input steps ∙ ap (λ (abi : Abi). RunCil (q ∷ []) (record { common = false; abi = abi }) words input steps) same.model

end_alike : (p q : Program) → RunAlike p q → (words : List (List ℕ)) (input : List ℕ) (steps : ℕ) → FindsEnd (p ∷ []) (mode_of p) words input steps ≡ FindsEnd (q ∷ []) (mode_of q) words input steps
end_alike p q same words input steps = same.end (mode_of p) words input steps ∙ ap (λ (abi : Abi). FindsEnd (q ∷ []) (record { common = false; abi = abi }) words input steps) same.model

says_alike : (p q : Program) → RunAlike p q → (words : List (List ℕ)) (steps : ℕ) (status : Status) (got tail text : List ℕ) → Says p words steps status got tail text → Says q words steps status got tail text
says_alike p q same words steps (Exited s) got tail text says = subst (Tells (Exited s) text) (outcome_alike p q same words (got ++ tail) steps) says
says_alike p q same words steps StillRunning got tail text says = subst (Tells StillRunning text) (outcome_alike p q same words (got ++ tail) steps) says
says_alike p q same words steps WentUndefined got tail text says = subst (Tells WentUndefined text) (outcome_alike p q same words (got ++ tail) steps) says
says_alike p q same words steps ReadFault got tail text says = record {
  front = subst (λ o. IsPrefix text (output o)) (outcome_alike p q same words (got ++ tail) steps) says.front;
  end = sym (end_alike p q same words got steps) ∙ says.end;
}
says_alike p q same words steps WriteFault got tail text says = subst (λ o. IsPrefix text (output o)) (outcome_alike p q same words (got ++ tail) steps) says
says_alike p q same words steps Memory got tail text says = subst (λ o. IsPrefix text (output o)) (outcome_alike p q same words (got ++ tail) steps) says
says_alike p q same words steps Done got tail text says = says
says_alike p q same words steps Usage got tail text says = says
says_alike p q same words steps (Refused r) got tail text says = says
says_alike p q same words steps (NotCil k) got tail text says = says

pub ran_alike : (p q : Program) → RunAlike p q → (words : List (List ℕ)) (steps : ℕ) (status : Status) (left left' taken taken' : Option (List ℕ)) → RanAs p words steps status left left' taken taken' → RanAs q words steps status left left' taken taken'
ran_alike p q same words steps status left left' taken taken' r = record {
  got = r.got;
  ended = r.ended;
  text = r.text;
  read = r.read;
  asked = needed_along (λ input. FindsEnd (p ∷ []) (mode_of p) words input steps ≡ true) (λ input. FindsEnd (q ∷ []) (mode_of q) words input steps ≡ true) false r.ended r.got (λ input found. sym (end_alike p q same words input steps) ∙ found) r.asked;
  finds = r.finds;
  stops = r.stops;
  wrote = r.wrote;
  says = λ tail ends. says_alike p q same words steps status r.got tail r.text (r.says tail ends);
}

-- a source that tells what it has left

answered : (p : Program) (words : List (List ℕ)) (steps : ℕ) (status : Status) (input given text : List ℕ) (taken taken' : Option (List ℕ)) → given ≡ input → Wrote taken taken' text → Tells status text (RunCil (p ∷ []) (mode_of p) words input steps)
    → AnswersAs (RunCil (p ∷ []) (mode_of p) words given steps) status taken taken'
answered p words steps status input given text taken taken' is wrote says = record {
  end = says.end ∙ ap (λ bytes. status_of (RunCil (p ∷ []) (mode_of p) words bytes steps)) (sym is);
  wrote = subst (Wrote taken taken') (says.whole ∙ ap (λ bytes. output (RunCil (p ∷ []) (mode_of p) words bytes steps)) (sym is)) wrote;
}

answers_on : (p : Program) (words : List (List ℕ)) (steps : ℕ) (status : Status) (got tail given text : List ℕ) (taken taken' : Option (List ℕ)) → IsEnd status → given ≡ got ++ tail → Wrote taken taken' text → Says p words steps status got tail text
    → AnswersAs (RunCil (p ∷ []) (mode_of p) words given steps) status taken taken'
answers_on p words steps (Exited s) got tail given text taken taken' ended is wrote says = answered p words steps (Exited s) (got ++ tail) given text taken taken' is wrote says
answers_on p words steps StillRunning got tail given text taken taken' ended is wrote says = answered p words steps StillRunning (got ++ tail) given text taken taken' is wrote says
answers_on p words steps WentUndefined got tail given text taken taken' ended is wrote says = answered p words steps WentUndefined (got ++ tail) given text taken taken' is wrote says
answers_on p words steps Done got tail given text taken taken' ended is wrote says = absurd ended
answers_on p words steps Usage got tail given text taken taken' ended is wrote says = absurd ended
answers_on p words steps (Refused r) got tail given text taken taken' ended is wrote says = absurd ended
answers_on p words steps (NotCil k) got tail given text taken taken' ended is wrote says = absurd ended
answers_on p words steps ReadFault got tail given text taken taken' ended is wrote says = absurd ended
answers_on p words steps WriteFault got tail given text taken taken' ended is wrote says = absurd ended
answers_on p words steps Memory got tail given text taken taken' ended is wrote says = absurd ended

pub answers_given : (p : Program) (words : List (List ℕ)) (steps : ℕ) (status : Status) (given : List ℕ) (left' taken taken' : Option (List ℕ)) → IsEnd status → RanAs p words steps status (Some given) left' taken taken'
    → AnswersAs (RunCil (p ∷ []) (mode_of p) words given steps) status taken taken'
answers_given p words steps status given None taken taken' ended r = let clash : Some given ≡ None = r.read in absurd (cc clash)
answers_given p words steps status given (Some rest) taken taken' ended r =
    let whole : Some given ≡ Some (r.got ++ rest) = r.read in
    let is : given ≡ r.got ++ rest = cc in
    answers_on p words steps status r.got rest given r.text taken taken' ended is r.wrote (r.says rest r.finds)
