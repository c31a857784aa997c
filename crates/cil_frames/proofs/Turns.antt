-- Device: the turns of a machine with frames.
use Rattle.std.proofs.Common.{◌≡◌, ℕ, zero, suc, ◌+◌, Bool, true, false, ◌&&◌, List, [], ◌∷◌, ◌++◌, length, map, Option, Some, None, slice_get, refl, sym, ap, ◌∙◌, subst, arith}
use Rattle.cil_base.specs.declared.kinds.Abi.{Abi}
use Rattle.byte_mem.specs.declared.values.Value.{Value}
use Rattle.byte_mem.specs.Steps.{◌>>=◌}
use Rattle.host_calls.specs.declared.names.HostName.{HostName}
use Rattle.execution.specs.States.{State, Result, Goes, Running, Undefined, with_left, bind, spent}
use Rattle.execution.specs.Data as passed
use Rattle.execution.specs.Data.{Datum, same_kind}
use Rattle.execution.specs.Calls as meaning
use Rattle.execution.specs.Calls.{Enter, Meaning, Object, Code, Host, Linked, activated, entered, matches, arguments_match, host_called, called, entity_at, meant}
use Rattle.cil_code.specs.declared.calls.Kind.{Kind}
use Rattle.cil_code.specs.declared.calls.Call.{Call}
use Rattle.cil_code.specs.Calling.{kind_from}
use Rattle.cil_frames.specs.declared.calling.Evaluated.{Evaluated}
use Rattle.cil_frames.specs.declared.frames.Function.{Function}
use Rattle.cil_frames.specs.declared.frames.Frame.{Frame}
use Rattle.cil_frames.specs.declared.frames.Entity.{Entity}
use Rattle.cil_frames.specs.declared.frames.Entity.TheVariants.{Data as OfData, Program as OfProgram, Host as OfHost}
use Rattle.cil_frames.specs.Entering.{arguments_of}
use Rattle.cil_frames.specs.Evaluating.{call_of, keeps, goes_into}
use Rattle.cil_frames.specs.Frames.{Courses, left_by, function_in, resumed_in, unwound, entered_state, behind_activation, IsFunction, IsEntity, IsTable, IsNoFunction, whole, kinds_fit, entry_at, IsMachine, StandsAtCall, FramesAreMeant}
use Rattle.cil_frames.proofs.Unwinding.{unwound_push, unwound_running, unwound_undefined, function_entered}

-- what the table has of an entity is what it means
pub entity_meant : (abi : Abi) (enter : Enter) (at : Courses) (link : Linked) (table : List (Option Entity)) (i n j : ℕ) (e : Option Entity) → IsTable abi enter at i link table → slice_get table n ≡ Some e → j ≡ i + n
    → (m : Option Meaning) × (slice_get link n ≡ Some m) × IsEntity abi enter (at j) m e
entity_meant abi enter at [] [] i n j e t there k = absurd (cc)
entity_meant abi enter at [] (y ∷ table) i n j e t there k = absurd t
entity_meant abi enter at (m ∷ link) [] i n j e t there k = absurd t
entity_meant abi enter at (m ∷ link) (y ∷ table) i zero j e t there k =
    let same : y ≡ e = ap (λ o. elim o [ None ↦ y | Some x ↦ x ]) there in
    let here : i ≡ j = omega arith in
    (m, refl, subst (λ j. IsEntity abi enter (at j) m e) here (subst (IsEntity abi enter (at i) m) same t.0))
entity_meant abi enter at (m ∷ link) (y ∷ table) i (suc n) j e t there k = entity_meant abi enter at link table (suc i) n j e t.1 there (omega arith)

no_entity : (abi : Abi) (enter : Enter) (at : Courses) (link : Linked) (table : List (Option Entity)) (i n : ℕ) → IsTable abi enter at i link table → slice_get table n ≡ None → slice_get link n ≡ None
no_entity abi enter at [] [] i n t there = refl
no_entity abi enter at [] (y ∷ table) i n t there = absurd t
no_entity abi enter at (m ∷ link) [] i n t there = absurd t
no_entity abi enter at (m ∷ link) (y ∷ table) i zero t there = absurd (cc)
no_entity abi enter at (m ∷ link) (y ∷ table) i (suc n) t there = no_entity abi enter at link table (suc i) n t.1 there

-- what a value points to, in the program and in the table
record Found (abi : Abi) (enter : Enter) (at : Courses) (link : Linked) (table : List (Option Entity)) (v : Value) : Type 0 where
  means : Option Meaning
  meant : meant link v ≡ means
  number : ℕ
  is : IsEntity abi enter (at number) means (entry_at table v)

found_at : (abi : Abi) (link : Linked) (enter : Enter) (at : Courses) (table : List (Option Entity)) (v : Value) (n : ℕ) (o : Option (Option Entity)) → IsTable abi enter at 0 link table → entity_at v ≡ Some n → slice_get table n ≡ o → Found abi enter at link table v
found_at abi link enter at table v n None t e there = record {
  means = None;
  meant = ap (λ o. o >>= λ n. slice_get link n >>= λ m. m) e ∙ ap (λ o. o >>= λ m. m) (no_entity abi enter at link table 0 n t there);
  number = 0;
  is = ap (λ o. o >>= λ n. slice_get table n >>= λ y. y) e ∙ ap (λ o. o >>= λ y. y) there;
}
found_at abi link enter at table v n (Some y) t e there =
    let k = entity_meant abi enter at link table 0 n n y t there (omega arith) in
    record {
      means = k.0;
      meant = ap (λ o. o >>= λ n. slice_get link n >>= λ m. m) e ∙ ap (λ o. o >>= λ m. m) k.1;
      number = n;
      is = subst (IsEntity abi enter (at n) k.0) (sym (ap (λ o. o >>= λ n. slice_get table n >>= λ y. y) e ∙ ap (λ o. o >>= λ y. y) there)) k.2;
    }

found : (abi : Abi) (link : Linked) (enter : Enter) (at : Courses) (table : List (Option Entity)) (v : Value) → IsTable abi enter at 0 link table → Found abi enter at link table v
found abi link enter at table v t = by (entity_at v) refl
  where
    by : (o : Option ℕ) → entity_at v ≡ o → Found abi enter at link table v
    by None e = record {
      means = None;
      meant = ap (λ o. o >>= λ n. slice_get link n >>= λ m. m) e;
      number = 0;
      is = ap (λ o. o >>= λ n. slice_get table n >>= λ y. y) e;
    }
    by (Some n) e = found_at abi link enter at table v n (slice_get table n) t e refl

pub code_meant : (abi : Abi) (enter : Enter) (at : ℕ → ℕ → _) (m : Option Meaning) (g : Function) → IsEntity abi enter at m (Some (OfProgram g)) → (f : meaning.Function) × (m ≡ Some (Code f)) × IsFunction abi enter at f g
code_meant abi enter at None g h = absurd (cc)
code_meant abi enter at (Some (Object read_only bytes)) g h = absurd (cc)
code_meant abi enter at (Some (Code f)) g h = (f, refl, h)
code_meant abi enter at (Some (Host name)) g h = absurd (cc)

host_meant : (abi : Abi) (enter : Enter) (at : ℕ → ℕ → _) (m : Option Meaning) (name : HostName) → IsEntity abi enter at m (Some (OfHost name)) → m ≡ Some (Host name)
host_meant abi enter at None name h = absurd (cc)
host_meant abi enter at (Some (Object read_only bytes)) name h = absurd (cc)
host_meant abi enter at (Some (Code f)) name h = absurd h
host_meant abi enter at (Some (Host other)) name h = ap (λ o. elim o [ None ↦ Some (Host other) | Some y ↦ elim y [ None ↦ Some (Host other) | Some z ↦ elim z [ OfData ↦ Some (Host other) | OfProgram g ↦ Some (Host other) | OfHost n ↦ Some (Host n) ] ] ]) (ap Some (sym h))

no_code : (abi : Abi) (enter : Enter) (at : ℕ → ℕ → _) (f : meaning.Function) (y : Option Entity) → IsNoFunction y → IsEntity abi enter at (Some (Code f)) y → ⊥
no_code abi enter at f None empty h = h
no_code abi enter at f (Some OfData) empty h = h
no_code abi enter at f (Some (OfProgram g)) empty h = empty
no_code abi enter at f (Some (OfHost name)) empty h = h

nothing_meant : (abi : Abi) (enter : Enter) (at : ℕ → ℕ → _) (m : Option Meaning) (y : Option Entity) (c : meaning.Call) (s : State) → IsNoFunction y → IsEntity abi enter at m y → called enter m c s ≡ Undefined s
nothing_meant abi enter at None y c s empty h = refl
nothing_meant abi enter at (Some (Object read_only bytes)) y c s empty h = refl
nothing_meant abi enter at (Some (Code f)) y c s empty h = absurd (no_code abi enter at f y empty h)
nothing_meant abi enter at (Some (Host name)) y c s empty h = absurd (subst IsNoFunction h empty)

fits_alike : (abi : Abi) (enter : Enter) (at : ℕ → ℕ → _) (f : meaning.Function) (g : Function) (e : Evaluated) → IsFunction abi enter at f g → matches f (call_of abi e) ≡ kinds_fit g e
fits_alike abi enter at f g e is =
    ap (λ k. same_kind k (kind_from e.result) && arguments_match f.parameters (arguments_of e.arguments.items)) is.result
    ∙ ap (λ ks. same_kind (kind_from g.result) (kind_from e.result) && arguments_match ks (arguments_of e.arguments.items)) is.parameters

both_hold : (a b : Bool) → (a && b) ≡ true → b ≡ true
both_hold true b h = h
both_hold false b h = absurd (cc)

pub as_long : (ks : List (Option passed.Kind)) (xs : List passed.Argument) → arguments_match ks xs ≡ true → length xs ≡ length ks
as_long [] [] h = refl
as_long [] (x ∷ xs) h = absurd (cc)
as_long (k ∷ ks) [] h = absurd (cc)
as_long (k ∷ ks) (x ∷ xs) h = ap suc (as_long ks xs (both_hold (same_kind k x.kind) (arguments_match ks xs) h))

pub mapped_long : (ks : List (Option Kind)) → length (map kind_from ks) ≡ length ks
mapped_long [] = refl
mapped_long (k ∷ ks) = ap suc (mapped_long ks)

fits_long : (g : Function) (e : Evaluated) → kinds_fit g e ≡ true → length (arguments_of e.arguments.items) ≡ length g.parameters.items
fits_long g e h =
    as_long (map kind_from g.parameters.items) (arguments_of e.arguments.items) (both_hold (same_kind (kind_from g.result) (kind_from e.result)) (arguments_match (map kind_from g.parameters.items) (arguments_of e.arguments.items)) h)
    ∙ mapped_long g.parameters.items

-- what remains at a call, by what the call gives
abbrev behind_call : Abi → Courses → ℕ → ℕ → ℕ → Evaluated → Result Datum → Result Datum
behind_call abi at function act q e r = bind (bind r (keeps abi e.to)) (λ g. at function act (suc q))

stands : (abi : Abi) (link : Linked) (enter : Enter) (at : Courses) (table : List (Option Entity)) (function act q : ℕ) (f : Function) (k : Call) (e : Option Evaluated) (s : State) → IsMachine abi link enter at table → StandsAtCall abi table function act q f k e s
    → at function act q s ≡ bind (goes_into abi enter e s) (λ g. at function act (suc q))
stands abi link enter at table function act q f k e s machine h =
    let m = entity_meant abi enter at link table 0 function function (Some (OfProgram f)) machine.entries h.running (omega arith) in
    let c = code_meant abi enter (at function) m.0 f m.2 in
    c.2.goes act q _ h.there s ∙ ap (λ r. bind r (λ g. at function act (suc q))) (h.parts enter)

calls : (abi : Abi) (link : Linked) (enter : Enter) (at : Courses) (table : List (Option Entity)) (frames : List Frame) (function act q : ℕ) (f : Function) (k : Call) (e : Evaluated) (s : State) (r : Result Datum) → IsMachine abi link enter at table
    → StandsAtCall abi table function act q f k (Some e) s → enter (call_of abi e) s ≡ r → whole abi at table frames act f (at function act q s) ≡ whole abi at table frames act f (behind_call abi at function act q e r)
calls abi link enter at table frames function act q f k e s r machine h is =
    ap (whole abi at table frames act f) (stands abi link enter at table function act q f k (Some e) s machine h ∙ ap (behind_call abi at function act q e) is)

waits : (abi : Abi) (at : Courses) (table : List (Option Entity)) (frames : List Frame) (frame : Frame) (g : Function) (r : Result Datum) → slice_get table frame.function ≡ Some (Some (OfProgram g))
    → unwound abi at table (frames ++ frame ∷ []) r ≡ whole abi at table frames frame.act g (bind (bind r (keeps abi frame.to)) (λ z. at frame.function frame.act frame.place))
waits abi at table frames frame g r there = unwound_push abi at table frames frame r ∙ ap (λ o. unwound abi at table frames (resumed_in abi at frame (function_in o) r)) there

function_found : (abi : Abi) (link : Linked) (enter : Enter) (at : Courses) (table : List (Option Entity)) (v : Value) (y : Option Entity) → IsMachine abi link enter at table → entry_at table v ≡ y → (m : Option Meaning) × (meant link v ≡ m) × ((n : ℕ) × IsEntity abi enter (at n) m y)
function_found abi link enter at table v y machine e =
    let k = found abi link enter at table v machine.entries in
    (k.means, k.meant, (k.number, subst (IsEntity abi enter (at k.number) k.means) e k.is))

-- a call of a loaded function
enters_function : (abi : Abi) (link : Linked) (enter : Enter) (at : Courses) (table : List (Option Entity)) (f : meaning.Function) (g : Function) (n : ℕ) (e : Evaluated) (s : State) (b : Bool) → IsMachine abi link enter at table → meant link e.callee ≡ Some (Code f)
    → IsFunction abi enter (at n) f g → kinds_fit g e ≡ b → enter (call_of abi e) s ≡ entered b enter f (arguments_of e.arguments.items) s
enters_function abi link enter at table f g n e s b machine means is fits =
    machine.step (call_of abi e) s
    ∙ (ap (λ m. called enter m (call_of abi e) s) means ∙ ap (λ b. entered b enter f (arguments_of e.arguments.items) s) (fits_alike abi enter (at n) f g e is ∙ fits))

turn_enters : (abi : Abi) (link : Linked) (enter : Enter) (at : Courses) (table : List (Option Entity)) → IsMachine abi link enter at table → (frames : List Frame) (function act q n left : ℕ) (f g : Function) (k : Call) (e : Evaluated) (s : State)
    → StandsAtCall abi table function act q f k (Some e) s → entity_at e.callee ≡ Some n → slice_get table n ≡ Some (Some (OfProgram g)) → kinds_fit g e ≡ true → s.left ≡ suc left
    → whole abi at table frames act f (at function act q s)
    ≡ whole abi at table (frames ++ record { function = function; act = act; place = suc q; to = e.to } ∷ []) s.next g (at n s.next 0 (entered_state abi g (arguments_of e.arguments.items) (with_left s left)))
turn_enters abi link enter at table machine frames function act q n left f g k e s h callee there fits units =
    let m = entity_meant abi enter at link table 0 n n (Some (OfProgram g)) machine.entries there (omega arith) in
    let c = code_meant abi enter (at n) m.0 g m.2 in
    let means : meant link e.callee ≡ Some (Code c.0) = ap (λ o. o >>= λ n. slice_get link n >>= λ m. m) callee ∙ (ap (λ o. o >>= λ m. m) m.1 ∙ c.1) in
    calls abi link enter at table frames function act q f k e s (left_by s.next g (at n s.next 0 (entered_state abi g (arguments_of e.arguments.items) (with_left s left)))) machine h
    (enters_function abi link enter at table c.0 g n e s true machine means c.2 fits
    ∙ (ap (λ u. spent u s (activated enter c.0 (arguments_of e.arguments.items))) units
    ∙ function_entered abi enter (at n) c.0 g (arguments_of e.arguments.items) (with_left s left) c.2 (fits_long g e fits)))
    ∙ sym (waits abi at table frames (record { function = function; act = act; place = suc q; to = e.to }) f (left_by s.next g (at n s.next 0 (entered_state abi g (arguments_of e.arguments.items) (with_left s left)))) h.running)

pub frames_are_meant : FramesAreMeant
frames_are_meant abi link enter at table machine = record {
  enters = turn_enters abi link enter at table machine;
  lacks = λ frames function act q f g k e s h entry fits units.
      let m = function_found abi link enter at table e.callee (Some (OfProgram g)) machine entry in
      let c = code_meant abi enter (at m.2.0) m.0 g m.2.1 in
      calls abi link enter at table frames function act q f k e s (Running s) machine h
      (enters_function abi link enter at table c.0 g m.2.0 e s true machine (m.1 ∙ c.1) c.2 fits ∙ ap (λ u. spent u s (activated enter c.0 (arguments_of e.arguments.items))) units)
      ∙ unwound_running abi at table frames s;
  misfits = λ frames function act q f g k e s h entry fits.
      let m = function_found abi link enter at table e.callee (Some (OfProgram g)) machine entry in
      let c = code_meant abi enter (at m.2.0) m.0 g m.2.1 in
      calls abi link enter at table frames function act q f k e s (Undefined s) machine h (enters_function abi link enter at table c.0 g m.2.0 e s false machine (m.1 ∙ c.1) c.2 fits) ∙ unwound_undefined abi at table frames s;
  wrong = λ frames function act q f k e s h empty.
      let m = function_found abi link enter at table e.callee (entry_at table e.callee) machine refl in
      calls abi link enter at table frames function act q f k e s (Undefined s) machine h
      (machine.step (call_of abi e) s ∙ (ap (λ m. called enter m (call_of abi e) s) m.1 ∙ nothing_meant abi enter (at m.2.0) m.0 (entry_at table e.callee) (call_of abi e) s empty m.2.1))
      ∙ unwound_undefined abi at table frames s;
  undefined = λ frames function act q f k s h. ap (whole abi at table frames act f) (stands abi link enter at table function act q f k None s machine h) ∙ unwound_undefined abi at table frames s;
  hosts = λ frames function act q f k e name s h entry.
      let m = function_found abi link enter at table e.callee (Some (OfHost name)) machine entry in
      calls abi link enter at table frames function act q f k e s (host_called name (call_of abi e) s) machine h
      (machine.step (call_of abi e) s ∙ ap (λ m. called enter m (call_of abi e) s) (m.1 ∙ host_meant abi enter (at m.2.0) m.0 name m.2.1));
  ends = λ frames frame act f g d s there. waits abi at table frames frame g (Goes d (behind_activation act f s)) there;
  last = λ act f d s. refl;
}
