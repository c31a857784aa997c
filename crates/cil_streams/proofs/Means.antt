-- A call of the host over streams answers as the meaning does.
use Rattle.std.proofs.Common.{◌≡◌, ℕ, inl, Bool, true, false, ◌&&◌, List, [], ◌∷◌, ◌++◌, Option, Some, None, refl, ap, sym, subst, ◌∙◌, append_assoc}
use Rattle.std.specs.Prelude.{if◌then◌else◌}
use Rattle.std.proofs.lemmas.Bool.{and_parts}
use Rattle.std.proofs.lemmas.List.{append-nil}
use Rattle.cil_base.specs.declared.kinds.Abi.{Abi}
use Rattle.cil_base.specs.declared.kinds.IntKind.{IntKind}
use Rattle.cil_base.specs.declared.kinds.IntKind.TheVariants.{Int as int}
use Rattle.cil_base.specs.Kinds.{same_kind}
use Rattle.cil_base.proofs.KindLaws.{kind_told}
use Rattle.byte_mem.specs.declared.values.Scalar.{Scalar}
use Rattle.byte_mem.specs.declared.values.Scalar.TheVariants.{Int as OfKind, Ptr as OfPointer}
use Rattle.byte_mem.specs.declared.values.Value as values
use Rattle.byte_mem.specs.Memory.{Memory}
use Rattle.host_calls.specs.declared.names.HostName.{HostName}
use Rattle.host_calls.specs.declared.names.HostName.TheVariants.{Getchar, Putchar, Exit, Abort, Malloc, Free, Memset}
use Rattle.host_calls.specs.declared.calls.HostResult.{HostResult}
use Rattle.host_calls.specs.declared.calls.HostResult.TheVariants.{Value as Gives, Exit as Ends, Undefined, NeedsInput}
use Rattle.host_calls.specs.Host.{HostState, Outcome, undefined, getchar, result_of, parameters_of, same_result, have_kinds, host}
use Rattle.outside.specs.Moves.{Wrote, Began, WasRead}
use Rattle.execution.specs.States.{State, output}
use Rattle.execution.specs.Calls.{Call, ready, input_after, at_end_after, host_state, after_host, host_outcome, scalar_result, scalar_arguments, host_called}
use Rattle.cil_streams.specs.declared.ends.HostEnd.TheVariants as answers
use Rattle.cil_streams.specs.Held.{StreamsState, host_part}
use Rattle.cil_streams.specs.Following.{Matches, Leads}
use Rattle.cil_streams.specs.HostAnswers.{Answers}
use Rattle.cil_streams.proofs.HostRows.{moved, shifted, Leaves, IsQuiet, host_row}

-- an answer, which asks for no input
abbrev pub IsAnswer : HostResult → Type 0
IsAnswer NeedsInput = ⊥
IsAnswer _ = Unit {0}

-- an answer that the meaning has too
abbrev pub IsDefined : HostResult → Type 0
IsDefined (Gives v) = Unit {0}
IsDefined (Ends status) = Unit {0}
IsDefined _ = ⊥

-- getchar, where nothing is ready
module _ (h : HostState) (r : HostResult) (k : HostState) where
  if_moves : (b : Bool) (front : List ℕ) (next : Option (Option ℕ)) → (if b then (NeedsInput, h) else undefined h) ≡ (r, k) → IsAnswer r
      → (if b then getchar (moved front next h) next else undefined (moved front next h)) ≡ (r, moved front next k)
  if_moves true front next e answer = absurd (subst IsAnswer (sym (ap (λ (o : Outcome). o.0) e)) answer)
  if_moves false front next e answer = ap (shifted front next) e

  if_leaves : (b : Bool) → (if b then (NeedsInput, h) else undefined h) ≡ (r, k) → IsAnswer r → Leaves h r k
  if_leaves true e answer = absurd (subst IsAnswer (sym (ap (λ (o : Outcome). o.0) e)) answer)
  if_leaves false e answer = subst (λ (o : Outcome). Leaves h o.0 o.1) e refl

  if_undefined : (b : Bool) → (if b then (NeedsInput, h) else undefined h) ≡ (r, k) → IsDefined r → ⊥
  if_undefined true e defined = subst IsDefined (sym (ap (λ (o : Outcome). o.0) e)) defined
  if_undefined false e defined = subst IsDefined (sym (ap (λ (o : Outcome). o.0) e)) defined

if_asks : (h k : HostState) (b : Bool) → (if b then (NeedsInput, h) else undefined h) ≡ (NeedsInput, k) → (k ≡ h) × ((s : HostState) → (if b then getchar s s.ready else undefined s) ≡ getchar s s.ready) × (b ≡ true)
if_asks h k true e = (sym (ap (λ (o : Outcome). o.1) e), λ s. refl, refl)
if_asks h k false e = absurd (subst IsAnswer (ap (λ (o : Outcome). o.0) e) tt)

only_int : (kind : IntKind) → same_kind int kind ≡ true → kind ≡ int
only_int kind same = sym (kind_told int kind same)

only_result : (wanted : Option Scalar) → same_result (Some (OfKind int)) wanted ≡ true → wanted ≡ Some (OfKind int)
only_result None same = absurd (cc)
only_result (Some OfPointer) same = absurd (cc)
only_result (Some (OfKind kind)) same = ap (λ k. Some (OfKind k)) (only_int kind same)

no_arguments : (args : List (Scalar × values.Value)) → have_kinds [] args ≡ true → args ≡ []
no_arguments [] same = refl
no_arguments (a ∷ args) same = absurd (cc)

-- the kinds of a call are those of the row
fits : Abi → HostName → Option Scalar → List (Scalar × values.Value) → Bool
fits abi name wanted args = same_result (result_of abi name) wanted && have_kinds (parameters_of abi name) args

module _ (m : Memory) (held : StreamsState) (abi : Abi) (wanted : Option Scalar) (args : List (Scalar × values.Value)) where
  -- what the host answers is answered too where output stands in front and all input is at hand
  moves_too : (name : HostName) (r : HostResult) (k : HostState) (front : List ℕ) (next : Option (Option ℕ)) → host abi name wanted args (host_part m held) ≡ (r, k) → IsAnswer r
      → host abi name wanted args (moved front next (host_part m held)) ≡ (r, moved front next k)
  unfolding fits
  moves_too Getchar r k front next e answer = if_moves (host_part m held) r k (fits abi Getchar wanted args) front next e answer
  moves_too Putchar r k front next e answer = (host_row front next (host_part m held) abi Putchar wanted args tt).moves ∙ ap (shifted front next) e
  moves_too Exit r k front next e answer = (host_row front next (host_part m held) abi Exit wanted args tt).moves ∙ ap (shifted front next) e
  moves_too Abort r k front next e answer = (host_row front next (host_part m held) abi Abort wanted args tt).moves ∙ ap (shifted front next) e
  moves_too Malloc r k front next e answer = (host_row front next (host_part m held) abi Malloc wanted args tt).moves ∙ ap (shifted front next) e
  moves_too Free r k front next e answer = (host_row front next (host_part m held) abi Free wanted args tt).moves ∙ ap (shifted front next) e
  moves_too Memset r k front next e answer = (host_row front next (host_part m held) abi Memset wanted args tt).moves ∙ ap (shifted front next) e

  quiet_leaves : (name : HostName) (r : HostResult) (k : HostState) → IsQuiet name → host abi name wanted args (host_part m held) ≡ (r, k) → Leaves (host_part m held) r k
  quiet_leaves name r k quiet e = subst (λ (o : Outcome). Leaves (host_part m held) o.0 o.1) e (host_row [] None (host_part m held) abi name wanted args quiet).leaves

  -- nothing is ready behind a value, and without one nothing has changed
  pub leaves_too : (name : HostName) (r : HostResult) (k : HostState) → host abi name wanted args (host_part m held) ≡ (r, k) → IsAnswer r → Leaves (host_part m held) r k
  unfolding fits
  leaves_too Getchar r k e answer = if_leaves (host_part m held) r k (fits abi Getchar wanted args) e answer
  leaves_too Putchar r k e answer = quiet_leaves Putchar r k tt e
  leaves_too Exit r k e answer = quiet_leaves Exit r k tt e
  leaves_too Abort r k e answer = quiet_leaves Abort r k tt e
  leaves_too Malloc r k e answer = quiet_leaves Malloc r k tt e
  leaves_too Free r k e answer = quiet_leaves Free r k tt e
  leaves_too Memset r k e answer = quiet_leaves Memset r k tt e

  -- getchar has no value while nothing is ready
  is_quiet : (name : HostName) (r : HostResult) (k : HostState) → host abi name wanted args (host_part m held) ≡ (r, k) → IsDefined r → IsQuiet name
  unfolding fits
  is_quiet Getchar r k e defined = if_undefined (host_part m held) r k (fits abi Getchar wanted args) e defined
  is_quiet Putchar r k e defined = tt
  is_quiet Exit r k e defined = tt
  is_quiet Abort r k e defined = tt
  is_quiet Malloc r k e defined = tt
  is_quiet Free r k e defined = tt
  is_quiet Memset r k e defined = tt

  -- what asks for input is a getchar of the row's kinds, and nothing has changed
  pub asks : (name : HostName) (k : HostState) → host abi name wanted args (host_part m held) ≡ (NeedsInput, k)
      → (name ≡ Getchar) × (k ≡ host_part m held) × ((s : HostState) → host abi name wanted args s ≡ getchar s s.ready) × (wanted ≡ Some (OfKind int)) × (args ≡ [])
  unfolding fits
  asks Getchar k e =
      let both = if_asks (host_part m held) k (fits abi Getchar wanted args) e in
      let kinds = and_parts (same_result (Some (OfKind int)) wanted) (have_kinds [] args) both.2 in
      (refl, both.0, both.1, only_result wanted kinds.0, no_arguments args kinds.1)
  asks Putchar k e = absurd (quiet_leaves Putchar NeedsInput k tt e)
  asks Exit k e = absurd (quiet_leaves Exit NeedsInput k tt e)
  asks Abort k e = absurd (quiet_leaves Abort NeedsInput k tt e)
  asks Malloc k e = absurd (quiet_leaves Malloc NeedsInput k tt e)
  asks Free k e = absurd (quiet_leaves Free NeedsInput k tt e)
  asks Memset k e = absurd (quiet_leaves Memset NeedsInput k tt e)

-- what the host sees of the meaning's state
state_is : (s : State) (m : Memory) (held : StreamsState) (written tail : List ℕ) → Matches s m held written tail → host_state s ≡ moved written (ready s.input) (host_part m held)
state_is s m held written tail x = rw (x.memory, x.out, x.live, x.heap) refl

pub called_is : (abi : Abi) (name : HostName) (wanted : Option Scalar) (args : List (Scalar × values.Value)) (s : State) (c : Call) → c.abi ≡ abi → scalar_result c.result ≡ Some wanted → scalar_arguments c.arguments ≡ Some args
    → host_called name c s ≡ host_outcome name s (host abi name wanted args (host_state s))
called_is abi name wanted args s c same result arguments = rw (result, arguments, same) refl

-- a call takes no input where a byte or the end stays ready
input_stays : (input : List ℕ) → input_after (ready input) input ≡ input
input_stays [] = refl
input_stays (b ∷ input) = refl

end_stays : (name : HostName) (input : List ℕ) (at_end : Bool) → IsQuiet name → at_end_after name input at_end ≡ at_end
end_stays Getchar input at_end quiet = absurd quiet
end_stays Putchar input at_end quiet = refl
end_stays Exit input at_end quiet = refl
end_stays Abort input at_end quiet = refl
end_stays Malloc input at_end quiet = refl
end_stays Free input at_end quiet = refl
end_stays Memset input at_end quiet = refl

pub none_read : (left left' : Option (List ℕ)) → left' ≡ left → WasRead left left' []
none_read left None same = sym same
none_read left (Some rest) same = sym same

-- streams and a memory behind a call in which no input was taken
pub record Holds (k : HostState) (m : Memory) (held held' : StreamsState) (sent : List ℕ) : Type 0 where
  pub memory : k.memory ≡ m
  pub unread : held'.unread ≡ held.unread
  pub ended : held'.ended ≡ held.ended
  pub out : k.out ≡ sent ++ held'.waiting
  pub live : k.live ≡ held'.live
  pub heap : k.heap ≡ held'.heap

holds_leads : (s : State) (m m' : Memory) (held held' : StreamsState) (written tail sent : List ℕ) (name : HostName) (k : HostState) → IsQuiet name → Matches s m held written tail → Holds k m' held held' sent
    → Leads s (after_host name s (moved written (ready s.input) k)) m' held' (written ++ sent) tail
holds_leads s m m' held held' written tail sent name k quiet x y = record {
  left = refl;
  next = refl;
  matches = record {
    memory = y.memory;
    input = input_stays s.input ∙ x.input ∙ ap (λ bytes. bytes ++ tail) (sym y.unread);
    at_end = end_stays name s.input s.at_end quiet ∙ x.at_end ∙ sym y.ended;
    out = ap (λ bytes. written ++ bytes) y.out ∙ sym (append_assoc written sent held'.waiting);
    live = y.live;
    heap = y.heap;
    no_more = λ ended. x.no_more (sym y.ended ∙ ended);
  };
}

module _ (abi : Abi) (name : HostName) (wanted : Option Scalar) (args : List (Scalar × values.Value)) (m m' : Memory) (held held' : StreamsState) (sent : List ℕ) (left left' taken taken' : Option (List ℕ)) where
  -- a call that ends the reading of nothing
  outcome_is : (r : HostResult) (k : HostState) → host abi name wanted args (host_part m held) ≡ (r, k) → IsAnswer r
      → (s : State) (c : Call) (written tail : List ℕ) → c.abi ≡ abi → scalar_result c.result ≡ Some wanted → scalar_arguments c.arguments ≡ Some args → Matches s m held written tail
      → host_called name c s ≡ host_outcome name s (r, moved written (ready s.input) k)
  outcome_is r k e answer s c written tail same result arguments x =
      called_is abi name wanted args s c same result arguments
      ∙ ap (λ h. host_outcome name s (host abi name wanted args h)) (state_is s m held written tail x)
      ∙ ap (host_outcome name s) (moves_too m held abi wanted args name r k written (ready s.input) e answer)

  pub value_answers : (v : values.Value) (k : HostState) → host abi name wanted args (host_part m held) ≡ (Gives v, k) → Holds k m' held held' sent → left' ≡ left → Wrote taken taken' sent
      → Answers (answers.Value v) abi name wanted args m m' held held' left left' taken taken'
  value_answers v k e y same wrote = record {
    got = [];
    sent = sent;
    read = none_read left left' same;
    sends = wrote;
    asked = inl (refl, y.ended);
    stays = λ ended. (y.ended ∙ ended, refl);
    stops = λ fault. absurd (cc);
    finds = λ more ended. absurd (cc (y.ended, more, ended));
    means = λ s c written tail abis result arguments end x. (
      after_host name s (moved written (ready s.input) k),
      outcome_is (Gives v) k e tt s c written tail abis result arguments x,
      holds_leads s m m' held held' written tail sent name k (is_quiet m held abi wanted args name (Gives v) k e tt) x y,
    );
  }

  pub exit_answers : (status : ℕ) (k : HostState) → host abi name wanted args (host_part m held) ≡ (Ends status, k) → Holds k m' held held' sent → left' ≡ left → Wrote taken taken' sent
      → Answers (answers.Exit status) abi name wanted args m m' held held' left left' taken taken'
  exit_answers status k e y same wrote = record {
    got = [];
    sent = sent;
    read = none_read left left' same;
    sends = wrote;
    asked = inl (refl, y.ended);
    stays = λ ended. (y.ended ∙ ended, refl);
    stops = λ fault. absurd (cc);
    finds = λ more ended. absurd (cc (y.ended, more, ended));
    means = λ s c written tail abis result arguments end x. (
      after_host name s (moved written (ready s.input) k),
      outcome_is (Ends status) k e tt s c written tail abis result arguments x,
      holds_leads s m m' held held' written tail sent name k (is_quiet m held abi wanted args name (Ends status) k e tt) x y,
    );
  }

  -- the output that waits went to a sink that failed
  pub write_fault_answers : (v : values.Value) (k : HostState) → host abi name wanted args (host_part m held) ≡ (Gives v, k) → Holds k m' held held' sent → held'.waiting ≡ [] → left' ≡ left → Began taken taken' sent
      → Answers answers.WriteFault abi name wanted args m m' held held' left left' taken taken'
  write_fault_answers v k e y none same began = record {
    got = [];
    sent = sent;
    read = none_read left left' same;
    sends = began;
    asked = inl (refl, y.ended);
    stays = λ ended. (y.ended ∙ ended, refl);
    stops = λ fault. absurd (cc);
    finds = λ more ended. absurd (cc (y.ended, more, ended));
    means = λ s c written tail abis result arguments end x.
        ap output (outcome_is (Gives v) k e tt s c written tail abis result arguments x)
        ∙ ap (λ bytes. written ++ bytes) (y.out ∙ ap (λ bytes. sent ++ bytes) none ∙ append-nil sent);
  }

pub none_wrote : (taken taken' : Option (List ℕ)) → taken' ≡ taken → Wrote taken taken' []
none_wrote None taken' same = same
none_wrote (Some bytes) taken' same = same ∙ ap Some (sym (append-nil bytes))

module _ (abi : Abi) (name : HostName) (wanted : Option Scalar) (args : List (Scalar × values.Value)) (m m' : Memory) (held held' : StreamsState) (left left' taken taken' : Option (List ℕ)) where
  pub undefined_answers : (k : HostState) → host abi name wanted args (host_part m held) ≡ (Undefined, k) → m' ≡ m → held' ≡ held → left' ≡ left → taken' ≡ taken
      → Answers answers.Undefined abi name wanted args m m' held held' left left' taken taken'
  undefined_answers k e memory same left_same taken_same = record {
    got = [];
    sent = [];
    read = none_read left left' left_same;
    sends = none_wrote taken taken' taken_same;
    asked = inl (refl, ap (λ (h : StreamsState). h.ended) same);
    stays = λ ended. (ap (λ (h : StreamsState). h.ended) same ∙ ended, refl);
    stops = λ fault. absurd (cc);
    finds = λ more ended. absurd (cc (ap (λ (h : StreamsState). h.ended) same, more, ended));
    means = λ s c written tail abis result arguments end x. (
      outcome_is abi name wanted args m m' held held' [] left left' taken taken' Undefined k e tt s c written tail abis result arguments x,
      rw (memory, same, append-nil written) x,
    );
  }

  -- memory was wanting in the host, and nothing has changed
  pub memory_answers : held' ≡ held → left' ≡ left → taken' ≡ taken → Answers answers.Memory abi name wanted args m m' held held' left left' taken taken'
  memory_answers same left_same taken_same = record {
    got = [];
    sent = [];
    read = none_read left left' left_same;
    sends = none_wrote taken taken' taken_same;
    asked = inl (refl, ap (λ (h : StreamsState). h.ended) same);
    stays = λ ended. (ap (λ (h : StreamsState). h.ended) same ∙ ended, refl);
    stops = λ fault. absurd (cc);
    finds = λ more ended. absurd (cc (ap (λ (h : StreamsState). h.ended) same, more, ended));
    means = λ s c written tail abis result arguments end x. rw (same, append-nil written) x.out;
  }
