-- Device: a loaded machine is fresh.
use Rattle.std.proofs.Common.{◌≡◌, ℕ, zero, suc, ◌+◌, ◌<◌, ◌≤◌, List, [], ◌∷◌, ◌++◌, All, Option, Some, None, option_map, length, map, take, get_or, slice_get, refl, sym, ap, ◌∙◌, subst, arith}
use Rattle.std.proofs.lemmas.List.Elements.{All-map, All-weaker}
use Rattle.type_graph.specs.Arena.{Graph}
use Rattle.layout_lp64.specs.declared.layouts.Layouts.{Layouts}
use Rattle.layout_lp64.specs.Tables.{InStep, IsLeastTooBig}
use Rattle.cil_base.specs.declared.kinds.Abi.{Abi}
use Rattle.cil_base.specs.declared.kinds.Mode.{Mode}
use Rattle.byte_mem.specs.declared.pointers.ObjName.TheVariants.{Heap}
use Rattle.byte_mem.specs.declared.stores.Store.{Store}
use Rattle.byte_mem.specs.Object.{Held}
use Rattle.byte_mem.specs.Memory.{Memory, live_size}
use Rattle.byte_mem.specs.Store.{memory}
use Rattle.host_calls.specs.Counted.{IsCounted}
use Rattle.execution.specs.Calls as meaning
use Rattle.execution.specs.Calls.{Enter, Code, Linked}
use Rattle.cil_tree.specs.declared.globals.CilUnit.{CilUnit}
use Rattle.cil_tree.specs.Tree.{Program}
use Rattle.cil_tree.specs.View.{program_of}
use Rattle.cil_tree.specs.Programs.{IsProgram}
use Rattle.cil_tree.specs.WellFormedTypes.{TypesAreSmall}
use Rattle.cil_semantics.specs.Laws.{calls_in}
use Rattle.cil_semantics.specs.Units.{IsUnit}
use Rattle.cil_semantics.proofs.ProgramUnits.{program_is_unit}
use Rattle.cil_semantics.specs.Modes.{HaveModel, LinksApart, HaveOneModel}
use Rattle.cil_semantics.proofs.Modes.{one_has}
use Rattle.cil_frames.specs.declared.frames.Function.{Function}
use Rattle.cil_frames.specs.declared.frames.Entity.{Entity}
use Rattle.cil_frames.specs.declared.frames.Entity.TheVariants.{Data as OfData, Program as OfProgram, Host as OfHost}
use Rattle.cil_frames.specs.Frames.{Courses, AllLead, IsFunction, IsEntity, IsTable, IsMachine}
use Rattle.cil_streams.specs.Held.{StreamsState, fresh, host_part}
use Rattle.cil_link.specs.declared.entities.Definer.{Definer}
use Rattle.cil_link.specs.Entities.{linked_in}
use Rattle.cil_start.specs.Ready.{AreInStep}
use Rattle.cil_start.specs.Starts.{Starts}
use Rattle.cil_link.specs.declared.mains.Main.{Main}
use Rattle.cil_link.specs.Mains.{BeginsWith}
use Rattle.cil_table.specs.Courses.{courses_in}
use Rattle.cil_table.specs.Entries.{IsLoadedTable}
use Rattle.cil_turns.specs.Standing.{IsFresh as IsNew}
use Rattle.cil_runner.specs.declared.machine.Machine.{Machine}
use Rattle.cil_runner.specs.Machine.{Loads}
use Rattle.cil_runner.specs.Beginning.{IsThere, IsFresh}

pub none_too_big : (g : Graph) (t : ℕ) → TypesAreSmall g → IsLeastTooBig g t → ⊥
none_too_big g t small big = omega (arith, small t big.large big.is, big.size)

-- the entry of a function that is meant is that function, loaded
pub record IsLoadedAs (abi : Abi) (enter : Enter) (at : Courses) (table : List (Option Entity)) (n j : ℕ) (f : meaning.Function) : Type 0 where
  pub code : Function
  pub there : slice_get table n ≡ Some (Some (OfProgram code))
  pub is : IsFunction abi enter (at j) f code

entry_loaded : (abi : Abi) (enter : Enter) (at : Courses) (link : Linked) (e : Option Entity) (table : List (Option Entity)) (j : ℕ) (f : meaning.Function) → IsEntity abi enter (at j) (Some (Code f)) e → IsLoadedAs abi enter at (e ∷ table) 0 j f
entry_loaded abi enter at link None table j f h = absurd h
entry_loaded abi enter at link (Some OfData) table j f h = absurd h
entry_loaded abi enter at link (Some (OfProgram g)) table j f h = record { code = g; there = refl; is = h }
entry_loaded abi enter at link (Some (OfHost name)) table j f h = absurd h

function_loaded : (abi : Abi) (enter : Enter) (at : Courses) (link : Linked) (table : List (Option Entity)) (i n : ℕ) (f : meaning.Function) → IsTable abi enter at i link table → slice_get link n ≡ Some (Some (Code f)) → IsLoadedAs abi enter at table n (i + n) f
function_loaded abi enter at [] table i n f t there = absurd (cc)
function_loaded abi enter at (m ∷ link) [] i n f t there = absurd t
function_loaded abi enter at (m ∷ link) (e ∷ table) i zero f t there =
    let same : m ≡ Some (Code f) = ap (λ o. elim o [ None ↦ m | Some x ↦ x ]) there in
    let here : i ≡ i + 0 = omega arith in
    entry_loaded abi enter at link e table (i + 0) f (subst (λ j. IsEntity abi enter (at j) (Some (Code f)) e) here (subst (λ m. IsEntity abi enter (at i) m e) same t.0))
function_loaded abi enter at (m ∷ link) (e ∷ table) i (suc n) f t there =
    let r = function_loaded abi enter at link table (suc i) n f t.1 there in
    let along : suc i + n ≡ i + suc n = omega arith in
    record { code = r.code; there = r.there; is = subst (λ j. IsFunction abi enter (at j) f r.code) along r.is }

-- what a program begins with is loaded in its table
pub main_there : (programs : List Program) (abi : Abi) (at : Courses) (table : List (Option Entity)) (o : Option Main) → IsMachine abi (linked_in programs) (calls_in programs) at table → BeginsWith programs o → IsThere table o
main_there programs abi at table None machine h = tt
main_there programs abi at table (Some m) machine h =
    let r = function_loaded abi (calls_in programs) at (linked_in programs) table 0 m.entity h.function machine.entries h.means in
    record { code = r.code; running = r.there; there = r.is.there }

no_heap : (m n : Memory) (i : ℕ) → m ≡ n → n (Heap i) ≡ None → live_size m (Heap i) ≡ None
no_heap m n i e none = ap (λ m. live_size m (Heap i)) e ∙ ap (λ o. option_map (λ (h : Held). length h.bytes) o) none

-- nothing was allocated before a run
counted_at_start : (s : Store) (programs : List Program) (words : List (List ℕ)) (held : StreamsState) → Starts s programs words → held ≡ fresh → IsCounted (host_part (memory s) held)
counted_at_start s programs words held h e =
    subst (λ held. IsCounted (host_part (memory s) held)) (sym e) (record { live = refl; fresh = λ i above. no_heap (memory s) _ i (h.memory [] 0) refl })

-- a machine whose parts are loaded stands before the first step
pub machine_loads : (m : Machine) (programs : List Program) (mode : Mode) (words : List (List ℕ)) (definers : List Definer) (s : Store) (held : StreamsState) → HaveModel mode.abi programs → LinksApart mode programs → IsLoadedTable programs definers m.table.items → Starts s programs words → m.run.mem ≡ s → held ≡ fresh → m.run.streams ≡ held
    → BeginsWith programs m.main → m.words ≡ length words → Loads m programs mode words
machine_loads m programs mode words definers s held model separate table start mem new streams main count =
    let here : Starts m.run.mem programs words = subst (λ s. Starts s programs words) (sym mem) start in
    record {
      model = model;
      separate = separate;
      at = courses_in programs definers;
      table = table m.run.mem.abi here.model;
      store = here;
      streams = streams ∙ new;
      main = main;
      count = count;
    }

pub machine_is_fresh : (m : Machine) (programs : List Program) (mode : Mode) (words : List (List ℕ)) → Loads m programs mode words → AllLead m.table.items → IsNew m.run → m.used ≡ 0 → IsFresh m
machine_is_fresh m programs mode words loads leads new used = record {
  leads = leads;
  main = main_there programs m.run.mem.abi loads.at m.table.items m.main loads.table loads.main;
  run = new;
  counted = counted_at_start m.run.mem programs words m.run.streams loads.store loads.streams;
  used = used;
}

-- the layouts of programs, one after another
in_step_push : (ys : List Layouts) (us : List CilUnit) (y : Layouts) (u : CilUnit) → AreInStep ys us → InStep y u.graph → AreInStep (ys ++ y ∷ []) (us ++ u ∷ [])
in_step_push [] [] y u h step = (step, tt)
in_step_push [] (v ∷ us) y u h step = absurd h
in_step_push (x ∷ ys) [] y u h step = absurd h
in_step_push (x ∷ ys) (v ∷ us) y u h step = (h.0, in_step_push ys us y u h.1 step)

taken_next : (us : List CilUnit) (i : ℕ) (u : CilUnit) → i < length us → u ≡ get_or us i u → take (suc i) us ≡ take i us ++ u ∷ []
taken_next [] i u h at = absurd (omega (arith, h))
taken_next (v ∷ us) zero u h at = ap (λ w. w ∷ []) (sym at)
taken_next (v ∷ us) (suc i) u h at = ap (λ ws. v ∷ ws) (taken_next us i u (omega (arith, h)) at)

pub layouts_next : (us : List CilUnit) (i j : ℕ) (u : CilUnit) (old new : List Layouts) (y : Layouts) → i < length us → j ≡ suc i → u ≡ get_or us i u → AreInStep old (take i us) → InStep y u.graph → new ≡ old ++ y ∷ [] → AreInStep new (take j us)
layouts_next us i j u old new y h next at all step push =
    subst (λ (ys : List Layouts). AreInStep ys (take j us)) (sym push)
    (subst (AreInStep (old ++ y ∷ [])) (sym (ap (λ k. take k us) next ∙ taken_next us i u h at)) (in_step_push old (take i us) y u all step))

pub layouts_end : (us : List CilUnit) (i : ℕ) (ys : List Layouts) → length us ≤ i → AreInStep ys (take i us) → AreInStep ys us
layouts_end us i ys h all = subst (AreInStep ys) (take_all us i h) all
  where
    take_all : (us : List CilUnit) (n : ℕ) → length us ≤ n → take n us ≡ us
    take_all [] zero h = refl
    take_all [] (suc n) h = refl
    take_all (v ∷ us) zero h = absurd (omega (arith, h))
    take_all (v ∷ us) (suc n) h = ap (λ ws. v ∷ ws) (take_all us n (omega (arith, h)))

-- types of units are small
pub all_small : (names : List (List ℕ)) (us : List CilUnit) → All (λ u. IsUnit (program_of names u)) us → All (λ u. TypesAreSmall u.graph) us
all_small names us all = All-weaker (λ u. IsUnit (program_of names u)) (λ u. TypesAreSmall u.graph) (λ u is. is.types.small) us all

-- well-formed programs are units that can be linked
pub all_units : (names : List (List ℕ)) (us : List CilUnit) → All (λ u. IsProgram (program_of names u)) us → All (λ u. IsUnit (program_of names u)) us
all_units names us all = All-weaker (λ u. IsProgram (program_of names u)) (λ u. IsUnit (program_of names u)) (λ u is. program_is_unit (program_of names u) is) us all

-- programs of a data model have one
pub are_alike : (names : List (List ℕ)) (us : List CilUnit) (abi : Abi) → All (λ u. u.graph.abi ≡ abi) us → HaveOneModel (map (program_of names) us)
are_alike names us abi all = record { model = abi; each = All-map (λ (p : Program). p.graph.abi ≡ abi) (program_of names) us all }

pub one_alone : (names : List (List ℕ)) (u : CilUnit) (us : List CilUnit) → us ≡ u ∷ [] → HaveOneModel (map (program_of names) us)
one_alone names u us e =
    subst (λ (us : List CilUnit). HaveOneModel (map (program_of names) us)) (sym e) (record { model = u.graph.abi; each = one_has u.graph.abi (program_of names u) refl })
