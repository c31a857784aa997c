-- Device: a course goes from step to step.
use Rattle.std.proofs.Common.{◌≡◌, ℕ, zero, suc, ◌+◌, ◌-◌, ◌*◌, ◌<◌, ◌≤◌, inl, inr, true, false, List, length, get_or, slice_get, Some, refl, sym, ap, ◌∙◌, subst, arith}
use Rattle.std.proofs.lemmas.Option.{slice_get_read}
use Rattle.std.proofs.Math.Nat.{suc-mul}
use Rattle.cil_base.specs.declared.kinds.Abi.{Abi}
use Rattle.byte_mem.specs.declared.stores.Store.{Store}
use Rattle.byte_mem.specs.Memory.{Memory}
use Rattle.byte_mem.specs.Store.{memory}
use Rattle.execution.specs.States as states
use Rattle.execution.specs.States.{State, Goes, with_memory, spent}
use Rattle.execution.specs.Data.{Datum}
use Rattle.execution.specs.Calls.{Enter}
use Rattle.cil_control.specs.Remains.{Remains}
use Rattle.cil_code.specs.declared.calls.Call.{Call as CodeCall}
use Rattle.cil_code.specs.declared.steps.Step.{Step}
use Rattle.cil_code.specs.declared.steps.Step.TheVariants as step
use Rattle.cil_code.specs.declared.taking.Onward.{Onward}
use Rattle.cil_code.specs.declared.taking.Onward.TheVariants as onward
use Rattle.cil_code.specs.Leading.{leads, LeadOn}
use Rattle.cil_code.specs.Taking.{is_call, ended, Took}
use Rattle.cil_frames.specs.declared.courses.Stop.{Stop}
use Rattle.cil_frames.specs.declared.courses.Stop.TheVariants.{Call, Running, Ended, Undefined}
use Rattle.cil_frames.specs.declared.courses.Pace.{Pace}
use Rattle.cil_frames.specs.declared.courses.Pace.TheVariants.{On, Stopped}
use Rattle.cil_frames.specs.Course.{GoesBy, with_both, NotBehind, StopsThere, Ran, Went, Stands, Advanced, ahead, Stepped, Turned, Led}
use Rattle.cil_frames.proofs.Leads.{step_leads, at_leads, back_leads, further_is}

-- a state with that memory and so many units
both_same : (s : State) (m : Memory) (n : ℕ) → s.memory ≡ m → s.left ≡ n → s ≡ with_both s m n
both_same s m n e f = ap (λ m. with_both s m s.left) e ∙ ap (λ n. with_both s m n) f

left_same : (s : State) (m : Memory) (n : ℕ) → s.left ≡ n → with_memory s m ≡ with_both s m n
left_same s m n f = ap (λ n. with_both s m n) f

stays : (p before : ℕ) → NotBehind p before p before
stays p before = inr (refl, omega arith)

not_behind : (p b q c r d : ℕ) → NotBehind p b q c → NotBehind q c r d → NotBehind p b r d
not_behind p b q c r d (inl h) (inl k) = inl (omega arith)
not_behind p b q c r d (inl h) (inr k) = let same : d ≡ c = k.0 in inl (omega arith)
not_behind p b q c r d (inr h) (inl k) = let same : c ≡ b = h.0 in inl (omega arith)
not_behind p b q c r d (inr h) (inr k) = let low : p ≤ q = h.1 in let high : q ≤ r = k.1 in inr (k.0 ∙ h.0, omega arith)

no_more : (p b q c : ℕ) → NotBehind p b q c → c ≤ b
no_more p b q c (inl h) = omega arith
no_more p b q c (inr h) = let same : c ≡ b = h.0 in omega arith

call_there : (y : Step) → is_call y ≡ true → (k : CodeCall) × (y ≡ step.Call k)
call_there (step.Call k) h = (k, refl)
call_there (step.Set place o) h = absurd (cc)
call_there (step.Zero size place) h = absurd (cc)
call_there (step.Test t e q) h = absurd (cc)
call_there (step.Choose kind e table other) h = absurd (cc)
call_there (step.Forward q) h = absurd (cc)
call_there (step.Back q) h = absurd (cc)
call_there (step.Leave o) h = absurd (cc)
call_there step.Stuck h = absurd (cc)

-- where a call stands, the course stops
pub stops_at_call : (mem : Store) (act : ℕ) (code : List Step) (p before : ℕ) (y : Step) → p < length code → y ≡ get_or code p y → is_call y ≡ true → Stepped mem mem act code p before before (Stopped (Call p))
stops_at_call mem act code p before y h is call = record {
  does = λ enter end at goes s same units. ap (at p) (both_same s (memory mem) before same units);
  there =
      let k = call_there y call in
      (record { call = k.0; there = slice_get_read code (length code) p y refl h is ∙ ap Some k.1 }, stays p before);
  abi = refl;
}

-- one step that was taken
record IsTaken (old new : Store) (act : ℕ) (code : List Step) (p : ℕ) (y : Step) (n : Onward) : Type 0 where
  there : slice_get code p ≡ Some y
  here : p < length code
  leads : leads (length code) p y ≡ true
  plain : is_call y ≡ false
  took : Took old new act p y n

-- the unit falls, or the place rises
rises : (n p q k : ℕ) → p < q → q < n → k * suc n + (n - q) < k * suc n + (n - p)
rises n p q k h l = omega arith

spends : (n p q k : ℕ) → k * suc n + (n - q) < suc k * suc n + (n - p)
spends n p q k =
    let whole : suc k * suc n ≡ k * suc n + suc n = suc-mul k (suc n) in
    omega arith

went_at : (old new : Store) (act : ℕ) (code : List Step) (p before q after : ℕ) (y : Step) → IsTaken old new act code p y (onward.At q) → after ≡ before → Advanced old new act code p before q after
went_at old new act code p before q after y t e =
    let k = further_is (length code) p q (at_leads old new act (length code) p q y t.plain t.leads t.took) in
    record {
      went = record {
        does = λ enter end at goes s same units. goes p y t.there s ∙ (t.took.does s same enter end at ∙ ap (at q) (left_same s (memory new) after (units ∙ sym e)));
        on = let rise : p < q = k.0 in inr (e, omega arith);
        abi = t.took.model;
      };
      within = k.1;
      falls = subst (λ a. ahead code q a < ahead code p before) (sym e) (rises (length code) p q before k.0 k.1);
    }

went_back : (old new : Store) (act : ℕ) (code : List Step) (p n q after : ℕ) (y : Step) → IsTaken old new act code p y (onward.Back q) → after ≡ n → Advanced old new act code p (suc n) q after
went_back old new act code p n q after y t e = record {
  went = record {
    does = λ enter end at goes s same units.
        goes p y t.there s ∙ (t.took.does s same enter end at ∙ (ap (λ n. spent n (with_memory s (memory new)) (at q)) units ∙ ap (λ n. at q (with_both s (memory new) n)) (sym e)));
    on = inl (omega arith);
    abi = t.took.model;
  };
  within = back_leads old new act (length code) p q y t.plain t.leads t.took;
  falls = subst (λ a. ahead code q a < ahead code p (suc n)) (sym e) (spends (length code) p q n);
}

ran_out : (old new : Store) (act : ℕ) (code : List Step) (p q after : ℕ) (y : Step) → IsTaken old new act code p y (onward.Back q) → after ≡ 0 → Ran old new act code p zero after Running
ran_out old new act code p q after y t e = record {
  does = λ enter end at goes s same units.
      goes p y t.there s ∙ (t.took.does s same enter end at ∙ (ap (λ n. spent n (with_memory s (memory new)) (at q)) units ∙ ap states.Running (left_same s (memory new) after (units ∙ sym e))));
  there = e;
  abi = t.took.model;
}

ran_to_end : (old new : Store) (act : ℕ) (code : List Step) (p before after : ℕ) (y : Step) (d : _) → IsTaken old new act code p y (onward.Ended d) → after ≡ before → Ran old new act code p before after (Ended d)
ran_to_end old new act code p before after y d t e = record {
  does = λ enter end at goes s same units. goes p y t.there s ∙ (t.took.does s same enter end at ∙ ap (Goes (ended end d)) (left_same s (memory new) after (units ∙ sym e)));
  there = omega arith;
  abi = t.took.model;
}

ran_wrong : (old new : Store) (act : ℕ) (code : List Step) (p before after : ℕ) (y : Step) → IsTaken old new act code p y onward.Undefined → after ≡ before → Ran old new act code p before after Undefined
ran_wrong old new act code p before after y t e = record {
  does = λ enter end at goes s same units. goes p y t.there s ∙ (t.took.does s same enter end at ∙ ap states.Undefined (left_same s (memory new) after (units ∙ sym e)));
  there = omega arith;
  abi = t.took.model;
}

stepped_back : (old new : Store) (act : ℕ) (code : List Step) (p before q after : ℕ) (y : Step) (pace : Pace) → IsTaken old new act code p y (onward.Back q) → Turned q before after pace → Stepped old new act code p before after pace
stepped_back old new act code p zero q after y pace t l = subst (Stepped old new act code p zero after) (sym l.0) (ran_out old new act code p q after y t l.1)
stepped_back old new act code p (suc n) q after y pace t l = subst (Stepped old new act code p (suc n) after) (sym l.0) (went_back old new act code p n q after y t l.1)

stepped : (old new : Store) (act : ℕ) (code : List Step) (p before after : ℕ) (y : Step) (n : Onward) (pace : Pace) → IsTaken old new act code p y n → Led n before after pace → Stepped old new act code p before after pace
stepped old new act code p before after y (onward.At q) pace t l = subst (Stepped old new act code p before after) (sym l.0) (went_at old new act code p before q after y t l.1)
stepped old new act code p before after y (onward.Back q) pace t l = stepped_back old new act code p before q after y pace t l
stepped old new act code p before after y (onward.Ended d) pace t l = subst (Stepped old new act code p before after) (sym l.0) (ran_to_end old new act code p before after y d t l.1)
stepped old new act code p before after y onward.Undefined pace t l = subst (Stepped old new act code p before after) (sym l.0) (ran_wrong old new act code p before after y t l.1)

pub steps_on : (old new : Store) (act : ℕ) (code : List Step) (p before after : ℕ) (y : Step) (n : Onward) (pace : Pace) → LeadOn code → p < length code → y ≡ get_or code p y → is_call y ≡ false → Took old new act p y n → Led n before after pace
    → Stepped old new act code p before after pace
steps_on old new act code p before after y n pace lead h is plain took led =
    let there = slice_get_read code (length code) p y refl h is in
    stepped old new act code p before after y n pace (record { there = there; here = h; leads = step_leads code p y lead there; plain = plain; took = took }) led

-- a course that has gone to a place and stops from there on

went_nowhere : (mem : Store) (act : ℕ) (code : List Step) (p before : ℕ) → Went mem mem act code p before p before
went_nowhere mem act code p before = record {
  does = λ enter end at goes s same units. ap (at p) (both_same s (memory mem) before same units);
  on = stays p before;
  abi = refl;
}

goes_after : (a b : Abi) (act : ℕ) (code : List Step) (enter : Enter) (end : Datum) (at : ℕ → Remains) → b ≡ a → GoesBy a act code enter end at → GoesBy b act code enter end at
goes_after a b act code enter end at e goes = subst (λ x. GoesBy x act code enter end at) (sym e) goes

went_on : (old mid new : Store) (act : ℕ) (code : List Step) (p before q left r after : ℕ) → Went old mid act code p before q left → Went mid new act code q left r after → Went old new act code p before r after
went_on old mid new act code p before q left r after w v = record {
  does = λ enter end at goes s same units.
      w.does enter end at goes s same units ∙ v.does enter end at (goes_after old.abi mid.abi act code enter end at w.abi goes) (with_both s (memory mid) left) refl refl;
  on = not_behind p before q left r after w.on v.on;
  abi = v.abi ∙ w.abi;
}

stops_there : (code : List Step) (p before q left after : ℕ) (stop : Stop) → NotBehind p before q left → StopsThere code q left after stop → StopsThere code p before after stop
stops_there code p before q left after (Call r) h k = (k.0, not_behind p before q left r after h k.1)
stops_there code p before q left after Running h k = k
stops_there code p before q left after (Ended d) h k = let less : left ≤ before = no_more p before q left h in omega arith
stops_there code p before q left after Undefined h k = let less : left ≤ before = no_more p before q left h in omega arith

went_stopped : (old mid new : Store) (act : ℕ) (code : List Step) (p before q left after : ℕ) (stop : Stop) → Went old mid act code p before q left → Ran mid new act code q left after stop → Ran old new act code p before after stop
went_stopped old mid new act code p before q left after stop w v = record {
  does = λ enter end at goes s same units.
      w.does enter end at goes s same units ∙ v.does enter end at (goes_after old.abi mid.abi act code enter end at w.abi goes) (with_both s (memory mid) left) refl refl;
  there = stops_there code p before q left after stop w.on v.there;
  abi = v.abi ∙ w.abi;
}

pub starts : (mem : Store) (act : ℕ) (code : List Step) (p before : ℕ) → p < length code → Stands mem mem act code p before p before
starts mem act code p before h = record { went = went_nowhere mem act code p before; there = h }

pub goes_along : (old mid new : Store) (act : ℕ) (code : List Step) (place before p left q after : ℕ) (pace : Pace) → Stands old mid act code place before p left → Stepped mid new act code p left after pace → pace ≡ On q → Stands old new act code place before q after
goes_along old mid new act code place before p left q after pace s h e =
    let a : Advanced mid new act code p left q after = subst (Stepped mid new act code p left after) e h in
    record { went = went_on old mid new act code place before p left q after s.went a.went; there = a.within }

pub falls_along : (mid new : Store) (act : ℕ) (code : List Step) (p left q after : ℕ) (pace : Pace) → Stepped mid new act code p left after pace → pace ≡ On q → ahead code q after < ahead code p left
falls_along mid new act code p left q after pace h e =
    let a : Advanced mid new act code p left q after = subst (Stepped mid new act code p left after) e h in
    a.falls

pub stops_along : (old mid new : Store) (act : ℕ) (code : List Step) (place before p left after : ℕ) (stop : Stop) (pace : Pace) → Stands old mid act code place before p left → Stepped mid new act code p left after pace → pace ≡ Stopped stop → Ran old new act code place before after stop
stops_along old mid new act code place before p left after stop pace s h e =
    let r : Ran mid new act code p left after stop = subst (Stepped mid new act code p left after) e h in
    went_stopped old mid new act code place before p left after stop s.went r
