-- Device: the loaded programs of a run by their numbers.
use Rattle.std.proofs.Common.{◌≡◌, ℕ, zero, suc, ◌<◌, List, [], ◌∷◌, length, get_or, slice_get, Option, Some, None, Global, refl, sym, ap, ◌∙◌, subst, arith}
use Rattle.std.specs.declared.vec.Vec.{Vec}
use Rattle.std.proofs.lemmas.List.{length-map}
use Rattle.std.proofs.lemmas.List.Elements.{All-head, All-tail}
use Rattle.std.proofs.lemmas.Option.{slice_get_within}
use Rattle.cil_base.specs.declared.kinds.Abi.{Abi}
use Rattle.cil_base.specs.declared.numbers.EntityId.{EntityId}
use Rattle.cil_base.specs.declared.numbers.UnitNo.{UnitNo}
use Rattle.layout_lp64.specs.declared.layouts.Layouts.{Layouts}
use Rattle.layout_lp64.specs.Tables.{InStep}
use Rattle.cil_tree.specs.declared.globals.CilUnit.{CilUnit}
use Rattle.cil_tree.specs.View.{global_of, program_of}
use Rattle.cil_semantics.specs.Units.{IsUnit}
use Rattle.cil_link.specs.declared.units.Units.{Units}
use Rattle.execution.specs.Linking.{Symbol, rank_behind}
use Rattle.cil_tree.specs.Tree.{Program}
use Rattle.cil_semantics.specs.Runs.{linkables}
use Rattle.cil_semantics.specs.Modes.{HaveModel}
use Rattle.cil_link.specs.Entities.{InRun, IsThere, in_run_from, in_run}
use Rattle.cil_link.specs.Units.{units_in}
use Rattle.cil_link.proofs.UnitLaws.{unit_is}
use Rattle.cil_start.specs.declared.loaded.Loaded.{Loaded}
use Rattle.cil_start.specs.declared.loaded.LoadedUnits.{LoadedUnits}
use Rattle.cil_start.specs.Loads.{IsReady, loaded_in}
use Rattle.cil_start.specs.Ready.{AreReady, AreInStep}

as_many : (ys : List Layouts) (us : List CilUnit) → AreInStep ys us → length ys ≡ length us
as_many [] [] h = refl
as_many [] (u ∷ us) h = absurd h
as_many (y ∷ ys) [] h = absurd h
as_many (y ∷ ys) (u ∷ us) h = ap suc (as_many ys us h.1)

step_at : (ys : List Layouts) (us : List CilUnit) (k : ℕ) (y : Layouts) (u : CilUnit) → AreInStep ys us → k < length us → y ≡ get_or ys k y → u ≡ get_or us k u → InStep y u.graph
step_at [] [] k y u h low e f = absurd (omega (arith, low))
step_at [] (v ∷ us) k y u h low e f = absurd h
step_at (x ∷ ys) [] k y u h low e f = absurd h
step_at (x ∷ ys) (v ∷ us) zero y u h low e f = subst (λ (z : Layouts). InStep z u.graph) (sym e) (subst (λ (w : CilUnit). InStep x w.graph) (sym f) h.0)
step_at (x ∷ ys) (v ∷ us) (suc k) y u h low e f = step_at ys us k y u h.1 (omega (arith, low)) e f

-- as many layouts as units
pub layouts_there : (l : LoadedUnits) (k : ℕ) → AreReady l → k < length l.linked.units.now → k < length l.layouts.now
layouts_there l k ready h = subst (λ n. k < n) (sym (as_many l.layouts.now l.linked.units.now ready.step)) h

-- what is known of a program that is loaded with its run
pub unit_ready : (l : LoadedUnits) (k : ℕ) (r : Loaded) (v : Vec ℕ Global) → AreReady l → k < length l.linked.units.now → r.unit.now ≡ get_or l.linked.units.now k r.unit.now → r.names.now ≡ l.linked.names.now → r.layouts.now ≡ get_or l.layouts.now k r.layouts.now
    → v ≡ get_or l.linked.entities.now.numbers.items k v → r.entities.now ≡ v.items → IsReady r
unit_ready l k r v ready low unit names layouts numbers entities =
    let u = r.unit.now in
    let is = unit_is l.linked k u v r.entities.now ready.linked low unit numbers entities in
    record {
      program = subst (λ (ns : List (List ℕ)). IsUnit (program_of ns u)) (sym names) is.program;
      step = step_at l.layouts.now l.linked.units.now k r.layouts.now u ready.step low layouts unit;
      numbers = is.many ∙ ap (λ (ns : List (List ℕ)). length (program_of ns u).globals) (sym names);
    }

pub unit_seen : (l : LoadedUnits) (k : ℕ) (u : CilUnit) (v : Vec ℕ Global) (entities : List ℕ) → AreReady l → k < length l.linked.units.now → u ≡ get_or l.linked.units.now k u → v ≡ get_or l.linked.entities.now.numbers.items k v → entities ≡ v.items
    → slice_get (units_in l.linked) k ≡ Some (record { program = program_of l.linked.names.now u; entities = entities })
unit_seen l k u v entities ready low unit numbers same = (unit_is l.linked k u v entities ready.linked low unit numbers same).unit

-- a global that is there is one of its loaded program
pub loaded_low : (l : Units) (k : UnitNo) (e : EntityId) (r : Loaded) → IsThere (units_in l) k e → slice_get (units_in l) k.0 ≡ Some (loaded_in r) → e.0 < length r.unit.now.globals.items
loaded_low l k e r is at =
    let both : Some is.program ≡ Some (loaded_in r) = sym is.unit_is ∙ at in
    let same : is.program ≡ loaded_in r = cc in
    let there : e.0 < length is.program.program.globals = slice_get_within is.program.program.globals e.0 is.global is.global_is in
    subst (λ n. e.0 < n) (ap (λ (w : InRun). length w.program.globals) same ∙ length-map r.unit.now.globals.items (global_of r.unit.now.graph.nodes r.names.now)) there

-- a program of a run has the data model of all
model_from : (abi : Abi) (table : List Symbol) (rank : ℕ) (programs : List Program) (k : ℕ) (u : InRun) → HaveModel abi programs → slice_get (in_run_from table rank programs) k ≡ Some u → u.program.graph.abi ≡ abi
model_from abi table rank [] k u h e = absurd (cc)
model_from abi table rank (p ∷ programs) zero u h e =
    subst (λ (o : Option InRun). elim o [ None ↦ abi | Some v ↦ v.program.graph.abi ] ≡ abi) e (All-head (λ (q : Program). q.graph.abi ≡ abi) p programs h)
model_from abi table rank (p ∷ programs) (suc k) u h e = model_from abi table (rank_behind rank (linkables p)) programs k u (All-tail (λ (q : Program). q.graph.abi ≡ abi) p programs h) e

pub model_at : (abi : Abi) (programs : List Program) (k : ℕ) (u : InRun) → HaveModel abi programs → slice_get (in_run programs) k ≡ Some u → u.program.graph.abi ≡ abi
model_at abi programs k u h e = model_from abi _ 0 programs k u h e
