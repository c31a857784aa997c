-- Device: the parts of calls are evaluated one by one.
use Rattle.std.proofs.Common.{◌≡◌, ℕ, zero, suc, ◌<◌, ◌≤◌, List, [], ◌∷◌, ◌++◌, length, drop, get_or, Option, Some, None, option_map, refl, sym, ap, ◌∙◌, subst, arith, append_assoc, Global}
use Rattle.std.proofs.lemmas.List.{append-nil}
use Rattle.std.specs.declared.vec.Vec.{Vec}
use Rattle.cil_base.specs.declared.kinds.Abi.{Abi}
use Rattle.byte_mem.specs.declared.pointers.Pointer.{Pointer}
use Rattle.byte_mem.specs.declared.stores.Store.{Store}
use Rattle.byte_mem.specs.declared.values.Byte.{Byte}
use Rattle.byte_mem.specs.declared.values.Scalar.TheVariants.{Ptr as OfPointer}
use Rattle.byte_mem.specs.declared.values.Value.{Value}
use Rattle.byte_mem.specs.Steps.{◌>>=◌}
use Rattle.byte_mem.specs.Memory.{Memory, store, store_bytes}
use Rattle.byte_mem.specs.Operator.{pointer_in}
use Rattle.byte_mem.specs.Store.{memory, Stored}
use Rattle.execution.specs.States.{State, Result, Goes, Exits, Running, Undefined, bind, given}
use Rattle.execution.specs.Data as passed
use Rattle.execution.specs.Data.{store_datum}
use Rattle.execution.specs.Jumps.{Signal}
use Rattle.execution.specs.Calls.{Enter}
use Rattle.cil_machine.specs.Terms.{term_value, spot_place}
use Rattle.cil_code.specs.declared.calls.Kind.{Kind}
use Rattle.cil_code.specs.declared.calls.Kind.TheVariants.{Void as NoValue, Single as OneScalar, Bytes as OneSize}
use Rattle.cil_code.specs.declared.calls.Receiver.{Receiver}
use Rattle.cil_code.specs.declared.calls.Call.{Call}
use Rattle.cil_code.specs.declared.operands.Operand.{Operand}
use Rattle.cil_code.specs.declared.taking.Datum.{Datum}
use Rattle.cil_code.specs.declared.taking.Datum.TheVariants.{Single as Single', Bytes as Bytes'}
use Rattle.cil_code.specs.Taking.{datum_of}
use Rattle.cil_code.specs.Calling.{kind_from, receiving, received_kind, passing, passing_all, kept}
use Rattle.cil_frames.specs.declared.activations.Argument.{Argument}
use Rattle.cil_frames.specs.declared.calling.Destination.{Destination}
use Rattle.cil_frames.specs.Kinds.{single_in, size_in}
use Rattle.cil_frames.specs.Entering.{argument_of, arguments_of}
use Rattle.cil_frames.specs.Evaluating.{goes_to, destination, kept_in, keeps, value_kept, bytes_kept, Evaluates, passed_on}

-- arguments one by one

passing_next : (abi : Abi) (m : Memory) (act : ℕ) (os : List Operand) (i : ℕ) (o : Operand) → i < length os → o ≡ get_or os i o → passing_all abi m act (drop i os) ≡ (passing abi m act o >>= λ x. passing_all abi m act (drop (suc i) os) >>= λ xs. Some (x ∷ xs))
passing_next abi m act [] i o h e = absurd (omega arith)
passing_next abi m act (p ∷ os) zero o h e = ap (λ p. passing abi m act p >>= λ x. passing_all abi m act os >>= λ xs. Some (x ∷ xs)) (sym e)
passing_next abi m act (p ∷ os) (suc i) o h e = passing_next abi m act os i o (omega arith) e

passing_end : (abi : Abi) (m : Memory) (act : ℕ) (os : List Operand) (i : ℕ) → length os ≤ i → passing_all abi m act (drop i os) ≡ Some []
passing_end abi m act [] zero h = refl
passing_end abi m act [] (suc i) h = refl
passing_end abi m act (p ∷ os) zero h = absurd (omega arith)
passing_end abi m act (p ∷ os) (suc i) h = passing_end abi m act os i (omega arith)

of_snoc : (xs : List Argument) (a : Argument) → arguments_of (xs ++ a ∷ []) ≡ arguments_of xs ++ argument_of a ∷ []
of_snoc [] a = refl
of_snoc (x ∷ xs) a = ap (λ z. argument_of x ∷ z) (of_snoc xs a)

pass_one : (done : List passed.Argument) (a : passed.Argument) (rest : Option (List passed.Argument)) → passed_on done (rest >>= λ xs. Some (a ∷ xs)) ≡ passed_on (done ++ a ∷ []) rest
pass_one done a None = refl
pass_one done a (Some xs) = ap Some (sym (append_assoc done (a ∷ []) xs))

pub passed_next : (abi : Abi) (m : Memory) (act : ℕ) (os : List Operand) (i j : ℕ) (o : Operand) (xs ys : List Argument) (a : Argument) → i < length os → o ≡ get_or os i o → j ≡ suc i → option_map argument_of (Some a) ≡ passing abi m act o → ys ≡ xs ++ a ∷ []
    → passed_on (arguments_of xs) (passing_all abi m act (drop i os)) ≡ passing_all abi m act os → passed_on (arguments_of ys) (passing_all abi m act (drop j os)) ≡ passing_all abi m act os
passed_next abi m act os i j o xs ys a h e next one more r =
    ap (λ j. passed_on (arguments_of ys) (passing_all abi m act (drop j os))) next
    ∙ (ap (λ ys. passed_on (arguments_of ys) (passing_all abi m act (drop (suc i) os))) more
    ∙ (ap (λ d. passed_on d (passing_all abi m act (drop (suc i) os))) (of_snoc xs a)
    ∙ (sym (pass_one (arguments_of xs) (argument_of a) (passing_all abi m act (drop (suc i) os)))
    ∙ (ap (λ p. passed_on (arguments_of xs) (p >>= λ x. passing_all abi m act (drop (suc i) os) >>= λ xs. Some (x ∷ xs))) one
    ∙ (ap (passed_on (arguments_of xs)) (sym (passing_next abi m act os i o h e)) ∙ r)))))

pub passed_nothing : (abi : Abi) (m : Memory) (act : ℕ) (os : List Operand) (i : ℕ) (o : Operand) (xs : List Argument) → i < length os → o ≡ get_or os i o → None ≡ passing abi m act o
    → passed_on (arguments_of xs) (passing_all abi m act (drop i os)) ≡ passing_all abi m act os → None ≡ passing_all abi m act os
passed_nothing abi m act os i o xs h e none r =
    ap (λ p. passed_on (arguments_of xs) (p >>= λ x. passing_all abi m act (drop (suc i) os) >>= λ xs. Some (x ∷ xs))) none ∙ (ap (passed_on (arguments_of xs)) (sym (passing_next abi m act os i o h e)) ∙ r)

pub passed_all : (abi : Abi) (m : Memory) (act : ℕ) (os : List Operand) (i : ℕ) (xs : List Argument) → length os ≤ i → passed_on (arguments_of xs) (passing_all abi m act (drop i os)) ≡ passing_all abi m act os → Some (arguments_of xs) ≡ passing_all abi m act os
passed_all abi m act os i xs h r = ap Some (sym (append-nil (arguments_of xs))) ∙ (ap (passed_on (arguments_of xs)) (sym (passing_end abi m act os i h)) ∙ r)

-- the parts together

-- what the call does with its parts
abbrev with_parts : Abi → Enter → Call → State → Option (Option Value) → Option Value → Option (List passed.Argument) → Result Signal
with_parts abi enter k s o u w =
    given s o (λ at. given s u (λ v. given s w (λ xs. bind (enter (record { abi = abi; callee = v; result = kind_from k.result; arguments = xs }) s) (λ d t. kept abi (received_kind k.to) at d t))))

abbrev in_memory : Abi → ℕ → Enter → Call → State → Memory → Result Signal
in_memory abi act enter k s m = with_parts abi enter k s (receiving abi m act k.to) (term_value abi m act OfPointer k.callee) (passing_all abi m act k.arguments.items)

receives_nothing : (abi : Abi) (m : Memory) (act : ℕ) (to : Option Receiver) → None ≡ destination abi m act to → receiving abi m act to ≡ None
receives_nothing abi m act None e = absurd (cc)
receives_nothing abi m act (Some r) e = by (spot_place abi m act r.place) e
  where
    by : (o : Option Value) → None ≡ option_map (goes_to r.kind) o → option_map Some o ≡ None
    by None e = refl
    by (Some v) e = absurd (cc)

-- the place of the result
record Receives (abi : Abi) (to : Option Receiver) (o : Option (Option Value)) (d : Option Destination) : Type 0 where
  at : Option Value
  is : o ≡ Some at
  keeps : (x : passed.Datum) (s : State) → kept abi (received_kind to) at x s ≡ keeps abi d x s

receives_at : (abi : Abi) (r : Receiver) (d : Option Destination) (o : Option Value) → Some d ≡ option_map (goes_to r.kind) o → Receives abi (Some r) (option_map Some o) d
receives_at abi r d None e = absurd (cc)
receives_at abi r d (Some v) e =
    let same : goes_to r.kind v ≡ d = ap (λ o. elim o [ None ↦ d | Some x ↦ x ]) (sym e) in
    subst (Receives abi (Some r) (Some (Some v))) same (record { at = Some v; is = refl; keeps = λ x s. refl })

receives : (abi : Abi) (m : Memory) (act : ℕ) (to : Option Receiver) (d : Option Destination) → Some d ≡ destination abi m act to → Receives abi to (receiving abi m act to) d
receives abi m act None d e =
    let same : None ≡ d = ap (λ o. elim o [ None ↦ d | Some x ↦ x ]) (sym e) in
    subst (Receives abi None (Some None)) same (record { at = None; is = refl; keeps = λ x s. refl })
receives abi m act (Some r) d e = receives_at abi r d (spot_place abi m act r.place) e

pub no_destination : (mem : Store) (act : ℕ) (k : Call) → None ≡ destination mem.abi (memory mem) act k.to → Evaluates mem act k None
no_destination mem act k e = record {
  does = λ s same enter.
      ap (in_memory mem.abi act enter k s) same
      ∙ ap (λ o. with_parts mem.abi enter k s o (term_value mem.abi (memory mem) act OfPointer k.callee) (passing_all mem.abi (memory mem) act k.arguments.items)) (receives_nothing mem.abi (memory mem) act k.to e);
}

pub no_callee : (mem : Store) (act : ℕ) (k : Call) (d : Option Destination) → Some d ≡ destination mem.abi (memory mem) act k.to → None ≡ term_value mem.abi (memory mem) act OfPointer k.callee → Evaluates mem act k None
no_callee mem act k d e f = record {
  does = λ s same enter.
      let r = receives mem.abi (memory mem) act k.to d e in
      ap (in_memory mem.abi act enter k s) same
      ∙ (ap (λ o. with_parts mem.abi enter k s o (term_value mem.abi (memory mem) act OfPointer k.callee) (passing_all mem.abi (memory mem) act k.arguments.items)) r.is
      ∙ ap (λ u. with_parts mem.abi enter k s (Some r.at) u (passing_all mem.abi (memory mem) act k.arguments.items)) (sym f));
}

pub no_arguments : (mem : Store) (act : ℕ) (k : Call) (d : Option Destination) (v : Value) (os : List Operand) (o : Option (Vec Argument Global)) → Some d ≡ destination mem.abi (memory mem) act k.to → Some v ≡ term_value mem.abi (memory mem) act OfPointer k.callee
    → os ≡ k.arguments.items → option_map (λ w. arguments_of w.items) o ≡ passing_all mem.abi (memory mem) act os → o ≡ None → Evaluates mem act k None
no_arguments mem act k d v os o e f all g none = record {
  does = λ s same enter.
      let r = receives mem.abi (memory mem) act k.to d e in
      let nothing : None ≡ passing_all mem.abi (memory mem) act k.arguments.items = ap (option_map (λ w. arguments_of w.items)) (sym none) ∙ (g ∙ ap (passing_all mem.abi (memory mem) act) all) in
      ap (in_memory mem.abi act enter k s) same
      ∙ (ap (λ o. with_parts mem.abi enter k s o (term_value mem.abi (memory mem) act OfPointer k.callee) (passing_all mem.abi (memory mem) act k.arguments.items)) r.is
      ∙ (ap (λ u. with_parts mem.abi enter k s (Some r.at) u (passing_all mem.abi (memory mem) act k.arguments.items)) (sym f)
      ∙ ap (with_parts mem.abi enter k s (Some r.at) (Some v)) (sym nothing)));
}

bind_same : {A B : Type 0} (r : Result A) (f g : A → State → Result B) → ((a : A) (s : State) → f a s ≡ g a s) → bind r f ≡ bind r g
bind_same (Goes a s) f g h = h a s
bind_same (Exits k s) f g h = refl
bind_same (Running s) f g h = refl
bind_same (Undefined s) f g h = refl

pub all_evaluated : (mem : Store) (act : ℕ) (k : Call) (d : Option Destination) (v : Value) (os : List Operand) (o : Option (Vec Argument Global)) (w : Vec Argument Global) → Some d ≡ destination mem.abi (memory mem) act k.to
    → Some v ≡ term_value mem.abi (memory mem) act OfPointer k.callee → os ≡ k.arguments.items → option_map (λ w. arguments_of w.items) o ≡ passing_all mem.abi (memory mem) act os → o ≡ Some w
    → Evaluates mem act k (Some (record { to = d; callee = v; result = k.result; arguments = w }))
all_evaluated mem act k d v os o w there f all g is = record {
  does = λ s same enter.
      let r = receives mem.abi (memory mem) act k.to d there in
      let some : Some (arguments_of w.items) ≡ passing_all mem.abi (memory mem) act k.arguments.items = ap (option_map (λ w. arguments_of w.items)) (sym is) ∙ (g ∙ ap (passing_all mem.abi (memory mem) act) all) in
      ap (in_memory mem.abi act enter k s) same
      ∙ (ap (λ o. with_parts mem.abi enter k s o (term_value mem.abi (memory mem) act OfPointer k.callee) (passing_all mem.abi (memory mem) act k.arguments.items)) r.is
      ∙ (ap (λ u. with_parts mem.abi enter k s (Some r.at) u (passing_all mem.abi (memory mem) act k.arguments.items)) (sym f)
      ∙ (ap (with_parts mem.abi enter k s (Some r.at) (Some v)) (sym some)
      ∙ bind_same (enter (record { abi = mem.abi; callee = v; result = kind_from k.result; arguments = arguments_of w.items }) s) (λ d t. kept mem.abi (received_kind k.to) r.at d t) (keeps mem.abi d) r.keeps)));
}

-- where the result goes

abbrev nothing : Option Memory
nothing = None

lost : (o : Option Pointer) → nothing ≡ (o >>= λ p. nothing)
lost None = refl
lost (Some p) = refl

single_is : (abi : Abi) (to : Destination) (v : Value) (m : Memory) → value_kept abi to v m ≡ kept_in abi (Some to) (passed.Single v) m
single_is abi to v m = by to.kind
  where
    by : (k : Option Kind) → (single_in k >>= λ s. pointer_in to.place >>= λ p. store abi m p s v) ≡ (kind_from k >>= λ k. store_datum abi m k to.place (passed.Single v))
    by None = refl
    by (Some NoValue) = lost (pointer_in to.place)
    by (Some (OneScalar s)) = refl
    by (Some (OneSize n)) = lost (pointer_in to.place)

bytes_is : (abi : Abi) (to : Destination) (b : List Byte) (m : Memory) → bytes_kept to b m ≡ kept_in abi (Some to) (passed.Bytes b) m
bytes_is abi to b m = by to.kind
  where
    by : (k : Option Kind) → (size_in k >>= λ n. pointer_in to.place >>= λ p. store_bytes m p b) ≡ (kind_from k >>= λ k. store_datum abi m k to.place (passed.Bytes b))
    by None = refl
    by (Some NoValue) = lost (pointer_in to.place)
    by (Some (OneScalar s)) = lost (pointer_in to.place)
    by (Some (OneSize n)) = refl

pub single_stored : (r : Option (Unit {0})) (old new : Store) (to : Destination) (d : Datum) (v : Value) → d ≡ Single' v → Stored r old new (value_kept old.abi to v (memory old)) → Stored r old new (kept_in old.abi (Some to) (datum_of d) (memory old))
single_stored r old new to d v e h = subst (Stored r old new) (single_is old.abi to v (memory old) ∙ ap (λ d. kept_in old.abi (Some to) (datum_of d) (memory old)) (sym e)) h

pub bytes_stored : (r : Option (Unit {0})) (old new : Store) (to : Destination) (d : Datum) (b : List Byte) → d ≡ Bytes' b → Stored r old new (bytes_kept to b (memory old)) → Stored r old new (kept_in old.abi (Some to) (datum_of d) (memory old))
bytes_stored r old new to d b e h = subst (Stored r old new) (bytes_is old.abi to b (memory old) ∙ ap (λ d. kept_in old.abi (Some to) (datum_of d) (memory old)) (sym e)) h
