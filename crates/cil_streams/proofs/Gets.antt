-- A getchar over a source answers as the meaning's does.
use Rattle.std.proofs.Common.{◌≡◌, ◌⊎◌, inl, inr, ℕ, Bool, true, List, [], ◌∷◌, ◌++◌, Option, Some, refl, ap, sym, ◌∙◌, append_assoc}
use Rattle.std.proofs.lemmas.List.{append-nil}
use Rattle.cil_base.specs.declared.kinds.Abi.{Abi}
use Rattle.cil_base.specs.declared.kinds.IntKind.TheVariants.{Int as int}
use Rattle.byte_mem.specs.declared.values.Scalar.{Scalar}
use Rattle.byte_mem.specs.declared.values.Scalar.TheVariants.{Int as OfKind}
use Rattle.byte_mem.specs.declared.values.Value as values
use Rattle.byte_mem.specs.Memory.{Memory}
use Rattle.host_calls.specs.declared.names.HostName.{HostName}
use Rattle.host_calls.specs.declared.names.HostName.TheVariants.{Getchar}
use Rattle.host_calls.specs.Host.{HostState, getchar, host}
use Rattle.execution.specs.States.{State, Result, Goes, last, output}
use Rattle.execution.specs.Data.{Datum, Single}
use Rattle.execution.specs.Calls.{Call, ready, behind_first, host_state, host_outcome, scalar_result, scalar_arguments, host_called}
use Rattle.cil_streams.specs.declared.ends.HostEnd.{HostEnd}
use Rattle.cil_streams.specs.declared.ends.HostEnd.TheVariants.{Value, Exit, Undefined, ReadFault, WriteFault, Memory as WantOfMemory}
use Rattle.cil_streams.specs.Held.{StreamsState, IsUsedUp}
use Rattle.cil_streams.specs.Following.{Matches, Leads}
use Rattle.cil_streams.specs.HostAnswers.{Answers, Means, WasNeeded}
use Rattle.cil_streams.specs.Fetching.{character, ended_after, Fetches, WasAsked}
use Rattle.cil_streams.proofs.Means.{called_is}

-- the state behind a getchar
got_from : State → List ℕ → State
got_from s input = record s { input = behind_first input; at_end = ended_after input s.at_end }

-- the meaning's getchar
got_of : (s : State) (input : List ℕ) → host_outcome Getchar (record s { input = input }) (getchar (host_state (record s { input = input })) (ready input)) ≡ Goes (Single (character input)) (got_from s input)
unfolding got_from
got_of s [] = refl
got_of s (b ∷ input) = refl

behind_both : (bytes tail : List ℕ) → (bytes ≡ [] → tail ≡ []) → behind_first (bytes ++ tail) ≡ behind_first bytes ++ tail
behind_both [] tail none = rw (none refl) refl
behind_both (b ∷ bytes) tail none = refl

character_of_both : (bytes tail : List ℕ) → (bytes ≡ [] → tail ≡ []) → character (bytes ++ tail) ≡ character bytes
character_of_both [] tail none = rw (none refl) refl
character_of_both (b ∷ bytes) tail none = refl

ended_after_both : (bytes tail : List ℕ) (ended : Bool) → (bytes ≡ [] → tail ≡ []) → ended_after (bytes ++ tail) ended ≡ ended_after bytes ended
ended_after_both [] tail ended none = rw (none refl) refl
ended_after_both (b ∷ bytes) tail ended none = refl

-- where no byte was there, the source has given its end
ended_where_none : (bytes : List ℕ) (ended : Bool) → bytes ≡ [] → ended_after bytes ended ≡ true
ended_where_none [] ended none = refl
ended_where_none (b ∷ bytes) ended none = absurd (cc)

module _ (abi : Abi) (wanted : Option Scalar) (args : List (Scalar × values.Value)) (m : Memory) (held held' : StreamsState) where
  -- what the call does is the meaning's getchar
  getchar_is : (name : HostName) → name ≡ Getchar → ((k : HostState) → host abi name wanted args k ≡ getchar k k.ready) → (s : State) (c : Call) → c.abi ≡ abi → scalar_result c.result ≡ Some wanted → scalar_arguments c.arguments ≡ Some args
      → host_called name c s ≡ Goes (Single (character s.input)) (got_from s s.input)
  getchar_is name is_getchar row s c same result arguments =
      called_is abi name wanted args s c same result arguments ∙ ap (host_outcome name s) (row (host_state s))
      ∙ ap (λ (n : HostName). host_outcome n s (getchar (host_state s) (ready s.input))) is_getchar ∙ got_of s s.input

  leads : (s : State) (written sent got tail : List ℕ) → (bytes : List ℕ) → held.unread ++ got ≡ bytes → (bytes ≡ [] → tail ≡ []) → Matches s m held written (got ++ tail)
      → held'.unread ≡ behind_first bytes → held'.ended ≡ ended_after bytes held.ended → held.waiting ≡ sent ++ held'.waiting → held'.live ≡ held.live → held'.heap ≡ held.heap
      → (held'.ended ≡ true → tail ≡ [])
      → Leads s (got_from s s.input) m held' (written ++ sent) tail
  unfolding got_from
  leads s written sent got tail bytes both none x unread ended split live heap end =
      let input : s.input ≡ bytes ++ tail = x.input ∙ sym (append_assoc held.unread got tail) ∙ ap (λ front. front ++ tail) both in
      record {
        left = refl;
        next = refl;
        matches = record {
          memory = x.memory;
          input = ap behind_first input ∙ behind_both bytes tail none ∙ ap (λ front. front ++ tail) (sym unread);
          at_end = ap (λ bytes. ended_after bytes s.at_end) input ∙ ended_after_both bytes tail s.at_end none ∙ ap (ended_after bytes) x.at_end ∙ sym ended;
          out = x.out ∙ ap (λ bytes. written ++ bytes) split ∙ sym (append_assoc written sent held'.waiting);
          live = x.live ∙ sym live;
          heap = x.heap ∙ sym heap;
          no_more = end;
        };
      }

-- the input that is left
input_is : (s : State) (m : Memory) (held : StreamsState) (written got tail bytes : List ℕ) → held.unread ++ got ≡ bytes → Matches s m held written (got ++ tail) → s.input ≡ bytes ++ tail
input_is s m held written got tail bytes both x = x.input ∙ sym (append_assoc held.unread got tail) ∙ ap (λ front. front ++ tail) both

module _ (abi : Abi) (name : HostName) (wanted : Option Scalar) (args : List (Scalar × values.Value)) (m m' : Memory) (held held' : StreamsState) (left left' taken taken' : Option (List ℕ))
    (is_getchar : name ≡ Getchar) (row : (k : HostState) → host abi name wanted args k ≡ getchar k k.ready) (kinds : (wanted ≡ Some (OfKind int)) × (args ≡ [])) where
  value_means : (v : values.Value) (x : Fetches (Value v) held held' left left' taken taken') (s : State) (c : Call) (written tail : List ℕ) → c.abi ≡ abi → scalar_result c.result ≡ Some wanted → scalar_arguments c.arguments ≡ Some args
      → (held'.ended ≡ true → tail ≡ []) → Matches s m held written (x.got ++ tail) → Means (Value v) (host_called name c s) s m held' written x.sent tail
  value_means v x s c written tail same result arguments end y =
      let none : held.unread ++ x.got ≡ [] → tail ≡ [] = λ empty. end (x.gives.2 ∙ ended_where_none (held.unread ++ x.got) held.ended empty) in (
        got_from s s.input,
        getchar_is abi wanted args m held held' name is_getchar row s c same result arguments
            ∙ ap (λ (w : values.Value). Goes (Single w) (got_from s s.input)) (ap character (input_is s m held written x.got tail (held.unread ++ x.got) refl y) ∙ character_of_both (held.unread ++ x.got) tail none ∙ sym x.gives.0),
        leads abi wanted args m held held' s written x.sent x.got tail (held.unread ++ x.got) refl none y x.gives.1 x.gives.2 x.split x.live x.heap end,
      )

  -- where nothing waits behind it, all output was sent
  sent_all : (sent : List ℕ) → held.waiting ≡ sent ++ held'.waiting → held'.waiting ≡ [] → (s : State) (c : Call) (written tail : List ℕ) → c.abi ≡ abi → scalar_result c.result ≡ Some wanted → scalar_arguments c.arguments ≡ Some args
      → Matches s m held written tail → output (host_called name c s) ≡ written ++ sent
  unfolding got_from
  sent_all sent split none s c written tail same result arguments y =
      ap output (getchar_is abi wanted args m held held' name is_getchar row s c same result arguments)
      ∙ y.out ∙ ap (λ bytes. written ++ bytes) (split ∙ ap (λ bytes. sent ++ bytes) none ∙ append-nil sent)

  read_fault_means : (x : Fetches ReadFault held held' left left' taken taken') (s : State) (c : Call) (written tail : List ℕ) → c.abi ≡ abi → scalar_result c.result ≡ Some wanted → scalar_arguments c.arguments ≡ Some args
      → Matches s m held written (x.got ++ tail) → Means ReadFault (host_called name c s) s m held' written x.sent tail
  unfolding got_from
  read_fault_means x s c written tail same result arguments y = (
    sent_all x.sent x.split x.gives.2 s c written (x.got ++ tail) same result arguments y,
    λ none. (
      got_from s s.input,
      getchar_is abi wanted args m held held' name is_getchar row s c same result arguments
          ∙ ap (λ (w : values.Value). Goes (Single w) (got_from s s.input)) (ap character (input_is s m held written x.got tail [] x.gives.0 y ∙ none)),
      x.gives.2,
      leads abi wanted args m held (record held' { ended = true }) s written x.sent x.got tail [] x.gives.0 (λ empty. none) y x.gives.1 refl x.split x.live x.heap (λ ended. none),
    ),
  )

  write_fault_means : (x : Fetches WriteFault held held' left left' taken taken') (s : State) (c : Call) (written tail : List ℕ) → c.abi ≡ abi → scalar_result c.result ≡ Some wanted → scalar_arguments c.arguments ≡ Some args
      → Matches s m held written (x.got ++ tail) → Means WriteFault (host_called name c s) s m held' written x.sent tail
  write_fault_means x s c written tail same result arguments y = sent_all x.sent x.split x.gives s c written (x.got ++ tail) same result arguments y

  -- where nothing is left of the input, the call finds its end
  end_found : IsUsedUp held → (s : State) (c : Call) (written : List ℕ) → c.abi ≡ abi → scalar_result c.result ≡ Some wanted → scalar_arguments c.arguments ≡ Some args → Matches s m held written [] → (last (host_called name c s)).at_end ≡ true
  unfolding got_from
  end_found used_up s c written same result arguments y =
      ap (λ (r : Result Datum). (last r).at_end) (getchar_is abi wanted args m held held' name is_getchar row s c same result arguments)
      ∙ ended_where_none s.input s.at_end (y.input ∙ ap (λ bytes. bytes ++ []) used_up.none)

  -- what was read was needed
  needed : (got : List ℕ) → ((got ≡ []) × (held'.ended ≡ held.ended)) ⊎ WasAsked held held' got → ((got ≡ []) × (held'.ended ≡ held.ended)) ⊎ WasNeeded abi name wanted args m held held' got
  needed got (inl none) = inl none
  needed got (inr x) = inr (record {
    asks = record { getchar = is_getchar; result = kinds.0; arguments = kinds.1; used_up = x.used_up };
    few = x.few;
    some = x.some;
    end = x.end;
    finds = end_found x.used_up;
  })

  end_answers : (end : HostEnd) → Fetches end held held' left left' taken taken' → Answers end abi name wanted args m m held held' left left' taken taken'
  end_answers (Value v) x = record { got = x.got; sent = x.sent; read = x.read; sends = x.sends; asked = needed x.got x.asked; stays = x.stays; stops = λ fault. absurd (cc); finds = x.finds; means = value_means v x }
  end_answers ReadFault x = record { got = x.got; sent = x.sent; read = x.read; sends = x.sends; asked = needed x.got x.asked; stays = x.stays; stops = λ fault. x.gives.3; finds = x.finds; means = λ s c written tail same result arguments end y. read_fault_means x s c written tail same result arguments y }
  end_answers WriteFault x = record { got = x.got; sent = x.sent; read = x.read; sends = x.sends; asked = needed x.got x.asked; stays = x.stays; stops = λ fault. absurd (cc); finds = x.finds; means = λ s c written tail same result arguments end y. write_fault_means x s c written tail same result arguments y }
  end_answers (Exit status) x = absurd x.gives
  end_answers Undefined x = absurd x.gives
  end_answers WantOfMemory x = absurd x.gives

  pub fetch_answers : (end : HostEnd) → m' ≡ m → Fetches end held held' left left' taken taken' → Answers end abi name wanted args m m' held held' left left' taken taken'
  fetch_answers end memory x = rw memory (end_answers end x)
