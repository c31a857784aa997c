-- Device: what the run of main tells of the run of linked programs.
use Rattle.std.proofs.Common.{◌≡◌, ℕ, zero, suc, ◌-◌, ◌++◌, List, [], ◌∷◌, map, length, Bool, true, false, Option, Some, None, option_map, slice_get, refl, sym, ap, ◌∙◌, subst, append-nil}
use Rattle.std.proofs.lemmas.List.Elements.{All-head}
use Rattle.cil_base.specs.declared.kinds.Abi.{Abi}
use Rattle.cil_base.specs.declared.kinds.Mode.{Mode}
use Rattle.cil_base.specs.declared.kinds.IntKind.TheVariants.{Int as int}
use Rattle.cil_base.specs.declared.runs.Outcome.TheVariants.{Exit, Running, Undefined}
use Rattle.byte_mem.specs.declared.pointers.ObjName.TheVariants.{Entity}
use Rattle.byte_mem.specs.declared.values.Scalar.TheVariants.{Int as OfKind}
use Rattle.byte_mem.specs.declared.stores.Store.{Store}
use Rattle.byte_mem.specs.Steps.{◌>>=◌}
use Rattle.byte_mem.specs.Store.{memory}
use Rattle.outside.specs.Moves.{Wrote, WasRead}
use Rattle.execution.specs.States.{Result}
use Rattle.execution.specs.Data as passed
use Rattle.execution.specs.Data.{Datum}
use Rattle.execution.specs.Calls as meaning
use Rattle.execution.specs.Calls.{Code, Linked, calls}
use Rattle.execution.specs.Linking.{main_entity}
use Rattle.execution.specs.Runs.{pointer_to_name, start_state, int_kind, main_arguments, main_call, code_in, main_in, result_with, result_linked}
use Rattle.cil_tree.specs.Tree.{Program}
use Rattle.cil_semantics.specs.Runs.{linkables, FindsEnd}
use Rattle.cil_semantics.specs.Laws.{calls_in}
use Rattle.cil_semantics.specs.Modes.{HaveModel, LinksApart}
use Rattle.cil_semantics.proofs.Alone.{links_apart}
use Rattle.cil_code.specs.declared.calls.Kind.TheVariants.{Single}
use Rattle.cil_code.specs.Calling.{kind_from}
use Rattle.cil_frames.specs.declared.frames.Entity.{Entity as Entry}
use Rattle.cil_frames.specs.Entering.{arguments_of}
use Rattle.cil_frames.specs.Frames.{Courses, IsMachine}
use Rattle.cil_streams.specs.Held.{StreamsState, fresh}
use Rattle.cil_streams.specs.Following.{Matches}
use Rattle.cil_link.specs.Entities.{linked_in}
use Rattle.cil_start.specs.Starts.{Starts}
use Rattle.cil_turns.specs.declared.ends.RunEnd.{RunEnd}
use Rattle.cil_turns.specs.declared.ends.RunEnd.TheVariants.{Exited, StillRunning, Undefined as WentUndefined, ReadFault, WriteFault, Memory as WantOfMemory}
use Rattle.cil_turns.specs.declared.runs.FirstCall.{FirstCall}
use Rattle.cil_turns.specs.Ends.{call_of_first, FindsEnd as AllFindEnd, Ends, ReadAsNeeded, RunsTo}
use Rattle.cil_turns.proofs.Needed.{needed_none, needed_along}
use Rattle.cil_link.specs.declared.mains.Main.{Main}
use Rattle.cil_link.specs.Mains.{start_in, IsMain, BeginsWith}
use Rattle.cil_runner.specs.declared.machine.Machine.{Machine}
use Rattle.cil_runner.specs.Outcomes.{EndsAs, CutOff}
use Rattle.cil_runner.specs.Machine.{Loads, Tells, RunsAs}
use Rattle.cil_runner.specs.Beginning.{arguments_for}
use Rattle.cil_runner.proofs.Outcomes.{result_of, ends_as, goes_on, cut_off, finds_end, cut_at_once, undefined_without}

-- an answer tells of the programs' run what it tells of the result
tells : (end : RunEnd) (programs : List Program) (mode : Mode) (words : List (List ℕ)) (input : List ℕ) (steps left : ℕ) (text tail : List ℕ) (r : Result Datum) → result_of programs mode words input steps ≡ Some r → Ends end r text tail left → Tells end programs mode words input steps (steps - left) text tail
tells (Exited status) programs mode words input steps left text tail r is h = ends_as programs mode words input steps r is left (Exit status text) h.0 h.1 tt
tells StillRunning programs mode words input steps left text tail r is h = goes_on programs mode words input steps r is left (Running text) h.0 h.1
tells WentUndefined programs mode words input steps left text tail r is h = ends_as programs mode words input steps r is left (Undefined text) h.0 h.1 tt
tells ReadFault programs mode words input steps left text tail r is h = (cut_off programs mode words input steps r is left text h.0, λ none. finds_end programs mode words input steps r is (h.1 none))
tells WriteFault programs mode words input steps left text tail r is h = cut_off programs mode words input steps r is left text h
tells WantOfMemory programs mode words input steps left text tail r is h = cut_off programs mode words input steps r is left text h

-- a machine that was loaded stands for the state in which the run starts
start_matches : (s : Store) (held : StreamsState) (programs : List Program) (words : List (List ℕ)) (input : List ℕ) (steps : ℕ) → Starts s programs words → held ≡ fresh → Matches (start_state s.abi (linked_in programs) words input steps) (memory s) held [] input
start_matches s held programs words input steps h e =
    subst (λ held. Matches (start_state s.abi (linked_in programs) words input steps) (memory s) held [] input) (sym e) (record {
      memory = sym (h.memory input steps);
      input = refl;
      at_end = refl;
      out = refl;
      live = refl;
      heap = refl;
      no_more = λ not. absurd (cc);
    })

-- a function with the arguments that it is called with
with_function : meaning.Function → List passed.Argument → Option (meaning.Function × List passed.Argument)
with_function f arguments = Some (f, arguments)

main_called : (f : meaning.Function) (b : Bool) (words : List (List ℕ)) → (main_arguments (start_in b) words >>= with_function f) ≡ Some (f, arguments_for b (length words))
unfolding with_function
main_called f true words = refl
main_called f false words = refl

main_found : (link : Linked) (e : ℕ) (f : meaning.Function) (b : Bool) (words : List (List ℕ)) → slice_get link e ≡ Some (Some (Code f)) → f.start ≡ start_in b → main_in link e words ≡ Some (f, arguments_for b (length words))
unfolding with_function
main_found link e f b words there start =
    ap (λ o. o >>= code_in >>= λ (f : meaning.Function). main_arguments f.start words >>= with_function f) there
    ∙ ap (λ s. main_arguments s words >>= with_function f) start
    ∙ main_called f b words

-- the call of main, from outside
abbrev from_outside : Abi → List Program → ℕ → List passed.Argument → List (List ℕ) → List ℕ → ℕ → Result Datum
from_outside abi programs entity arguments words input steps =
    calls_in programs (record { abi = abi; callee = pointer_to_name (Entity (record { 0 = entity })); result = int_kind; arguments = arguments }) (start_state abi (linked_in programs) words input steps)

-- in a mode in which they have no definitions in common they are linked so
linked_apart : (mode : Mode) (programs : List Program) (words : List (List ℕ)) (input : List ℕ) (steps : ℕ) → LinksApart mode programs
    → result_of programs mode words input steps ≡ result_linked mode.abi (linked_in programs) (main_entity (map linkables programs)) words input steps
linked_apart mode programs words input steps separate = ap (λ (link : Linked). result_linked mode.abi link (main_entity (map linkables programs)) words input steps) (links_apart mode programs separate)

-- the run of the programs is that call
result_is : (abi : Abi) (programs : List Program) (mode : Mode) (m : Main) (words : List (List ℕ)) (input : List ℕ) (steps : ℕ) (main : IsMain programs m) → LinksApart mode programs → mode.abi ≡ abi
    → result_of programs mode words input steps ≡ Some (from_outside abi programs m.entity (arguments_for m.words (length words)) words input steps)
result_is abi programs mode m words input steps main separate model =
    let xs = arguments_for m.words (length words) in
    let found : main_in (linked_in programs) (main_entity (map linkables programs)) words ≡ Some (main.function, xs) =
    ap (λ e. main_in (linked_in programs) e words) main.entity ∙ main_found (linked_in programs) m.entity main.function m.words words main.means main.start in
    linked_apart mode programs words input steps separate
    ∙ ap (option_map (result_with mode.abi (linked_in programs) (main_entity (map linkables programs)) words input steps)) found
    ∙ ap (λ e. Some (calls_in programs (main_call mode.abi e xs) (start_state mode.abi (linked_in programs) words input steps))) main.entity
    ∙ ap (λ (abi : Abi). Some (calls_in programs (main_call abi m.entity xs) (start_state abi (linked_in programs) words input steps))) model

-- where nothing is linked, no function is meant
none_defined : (e : ℕ) (f : meaning.Function) → slice_get (linked_in []) e ≡ Some (Some (Code f)) → ⊥
none_defined zero f is = cc
none_defined (suc e) f is = cc

-- programs with a main have one data model
one_model : (a b : Abi) (programs : List Program) (m : Main) → IsMain programs m → HaveModel a programs → HaveModel b programs → a ≡ b
one_model a b [] m main h k = absurd (none_defined m.entity main.function main.means)
one_model a b (p ∷ programs) m main h k = sym (All-head (λ (q : Program). q.graph.abi ≡ a) p programs h) ∙ All-head (λ (q : Program). q.graph.abi ≡ b) p programs k

-- what a machine calls is main
call_is : (abi : Abi) (programs : List Program) (m : Main) (words : List (List ℕ)) (input : List ℕ) (steps count : ℕ) (first : FirstCall) → first.callee ≡ m.entity → first.result ≡ Some (Single (OfKind int)) → arguments_of first.arguments.items ≡ arguments_for m.words count
    → count ≡ length words → calls_in programs (call_of_first abi first) (start_state abi (linked_in programs) words input steps) ≡ from_outside abi programs m.entity (arguments_for m.words (length words)) words input steps
call_is abi programs m words input steps count first callee kind xs n =
    let go : ℕ → Option passed.Kind → List passed.Argument → Result Datum =
    λ e k xs. calls_in programs (record { abi = abi; callee = pointer_to_name (Entity (record { 0 = e })); result = k; arguments = xs }) (start_state abi (linked_in programs) words input steps) in
    ap (λ e. go e (kind_from first.result) (arguments_of first.arguments.items)) callee
    ∙ ap (λ k. go m.entity (kind_from k) (arguments_of first.arguments.items)) kind
    ∙ ap (go m.entity int_kind) (xs ∙ ap (arguments_for m.words) n)

-- the run of main is that of the programs
pub runs_main : (machine : Machine) (programs : List Program) (mode : Mode) (words : List (List ℕ)) (table : List (Option Entry)) (m : Main) (first : FirstCall) (end : RunEnd) (steps left : ℕ) (bytes bytes' taken taken' : Option (List ℕ))
    → Loads machine programs mode words → table ≡ machine.table.items → machine.main ≡ Some m → first.callee ≡ m.entity → first.result ≡ Some (Single (OfKind int)) → arguments_of first.arguments.items ≡ arguments_for m.words machine.words
    → ((link : Linked) (enter : meaning.Enter) (at : Courses) → IsMachine machine.run.mem.abi link enter at table
    → RunsTo end (enter (call_of_first machine.run.mem.abi first)) (memory machine.run.mem) machine.run.streams steps left 0 bytes bytes' taken taken')
    → RunsAs end programs mode words steps (steps - left) bytes bytes' taken taken'
runs_main machine programs mode words table m first end steps left bytes bytes' taken taken' loads same is_main callee kind xs runs =
    let main : IsMain programs m = subst (BeginsWith programs) is_main loads.main in
    let loaded : IsMachine machine.run.mem.abi (linked_in programs) (calls_in programs) loads.at table =
    subst (IsMachine machine.run.mem.abi (linked_in programs) (calls_in programs) loads.at) (sym same) loads.table in
    let r = runs (linked_in programs) (calls_in programs) loads.at loaded in
    let enter = calls_in programs (call_of_first machine.run.mem.abi first) in
    let start : (input : List ℕ) → Matches (start_state machine.run.mem.abi (linked_in programs) words input steps) (memory machine.run.mem) machine.run.streams [] input =
    λ input. start_matches machine.run.mem machine.run.streams programs words input steps loads.store loads.streams in
    let result : (input : List ℕ) → result_of programs mode words input steps ≡ Some (enter (start_state machine.run.mem.abi (linked_in programs) words input steps)) =
    λ input. result_is machine.run.mem.abi programs mode m words input steps main loads.separate (one_model mode.abi machine.run.mem.abi programs m main loads.model loads.store.model) ∙ ap Some (sym (call_is machine.run.mem.abi programs m words input steps machine.words first callee kind xs loads.count)) in
    record {
      got = r.got;
      sent = r.sent;
      ended = r.ended;
      read = r.read;
      sends = r.sends;
      asked = subst (λ was. ReadAsNeeded (λ input. FindsEnd programs mode words input steps ≡ true) was r.got r.ended) (ap (λ (h : StreamsState). h.ended) loads.streams)
          (needed_along (AllFindEnd enter (memory machine.run.mem) machine.run.streams steps 0) (λ input. FindsEnd programs mode words input steps ≡ true) machine.run.streams.ended r.ended r.got
          (λ input found. finds_end programs mode words input steps _ (result input) (found (start_state machine.run.mem.abi (linked_in programs) words input steps) [] (start input) refl refl)) r.asked);
      stops = r.stops;
      finds = r.finds (ap (λ (h : StreamsState). h.ended) loads.streams);
      means = λ tail none.
          tells end programs mode words (r.got ++ tail) steps left r.sent tail _ (result (r.got ++ tail))
          (r.means (start_state machine.run.mem.abi (linked_in programs) words (r.got ++ tail) steps) [] tail none (start (r.got ++ tail)) refl refl);
    }

none_read : (left : Option (List ℕ)) → WasRead left left []
none_read None = refl
none_read (Some bytes) = refl

none_wrote : (taken : Option (List ℕ)) → Wrote taken taken []
none_wrote None = refl
none_wrote (Some bytes) = ap Some (sym (append-nil bytes))

-- where memory is wanting for the words, nothing was read and nothing written
pub lacks_memory : (programs : List Program) (mode : Mode) (words : List (List ℕ)) (steps used : ℕ) (bytes taken : Option (List ℕ)) → used ≡ 0 → RunsAs WantOfMemory programs mode words steps used bytes bytes taken taken
lacks_memory programs mode words steps used bytes taken nothing = record {
  got = [];
  sent = [];
  ended = false;
  read = none_read bytes;
  sends = none_wrote taken;
  asked = needed_none (λ input. FindsEnd programs mode words input steps ≡ true) false false refl;
  stops = λ fault. refl;
  finds = λ not. absurd (cc);
  means = λ tail none. subst (λ used. CutOff programs mode words tail steps used []) (sym nothing) (cut_at_once programs mode words tail steps);
}

-- without a main the run is undefined
pub lacks_main : (machine : Machine) (programs : List Program) (mode : Mode) (words : List (List ℕ)) (steps used : ℕ) (bytes taken : Option (List ℕ)) → Loads machine programs mode words → machine.main ≡ None → used ≡ 0 → RunsAs WentUndefined programs mode words steps used bytes bytes taken taken
lacks_main machine programs mode words steps used bytes taken loads none nothing = record {
  got = [];
  sent = [];
  ended = false;
  read = none_read bytes;
  sends = none_wrote taken;
  asked = needed_none (λ input. FindsEnd programs mode words input steps ≡ true) false false refl;
  stops = λ fault. refl;
  finds = λ not. absurd (cc);
  means = λ tail all.
      let no_result = linked_apart mode programs words tail steps loads.separate ∙ ap (option_map (result_with mode.abi (linked_in programs) (main_entity (map linkables programs)) words tail steps)) (subst (BeginsWith programs) none loads.main words) in
      subst (λ used. EndsAs programs mode words tail steps used (Undefined [])) (sym nothing) (undefined_without programs mode words tail steps no_result);
}
