-- Device: the programs of a run by their numbers.
use Rattle.std.proofs.Common.{◌≡◌, ℕ, zero, suc, ◌<◌, List, [], ◌∷◌, length, map, get_or, slice_get, Option, Some, option_map, Global, refl, sym, ap, ◌∙◌, subst, arith}
use Rattle.std.specs.declared.vec.Vec.{Vec}
use Rattle.std.proofs.lemmas.List.{length-map}
use Rattle.std.proofs.lemmas.List.Elements.{All-get_or}
use Rattle.std.proofs.lemmas.Option.{slice_get-map, slice_get_read, slice_get_within}
use Rattle.byte_mem.specs.Steps.{◌>>=◌}
use Rattle.cil_base.specs.declared.numbers.EntityId.{EntityId}
use Rattle.cil_base.specs.declared.numbers.UnitNo.{UnitNo}
use Rattle.execution.specs.Linking.{table_of}
use Rattle.cil_tree.specs.declared.globals.CilUnit.{CilUnit}
use Rattle.cil_tree.specs.declared.globals.GlobalDecl as code
use Rattle.cil_tree.specs.Tree.{GlobalDecl}
use Rattle.cil_tree.specs.View.{global_of, program_of}
use Rattle.cil_semantics.specs.Units.{IsUnit}
use Rattle.cil_semantics.specs.Runs.{linkables, global_meaning}
use Rattle.cil_link.specs.declared.entities.Definer.TheVariants.{Global as OfGlobal}
use Rattle.cil_link.specs.declared.units.Units.{Units}
use Rattle.cil_link.specs.Entities.{InRun, in_run, entities_in, global_meant, meant, IsThere}
use Rattle.cil_link.specs.Units.{AreLinked, programs_in, units_in}
use Rattle.cil_link.proofs.EntityLaws.{UnitAt, unit_at, unit_read, units_count}
use Rattle.cil_link.proofs.Programs.{global_there}

-- as many programs and lists of numbers as units
pub many_units : (l : Units) → length (units_in l) ≡ length l.units.now
many_units l = units_count (table_of (map linkables (programs_in l))) 0 (programs_in l) ∙ length-map l.units.now (program_of l.names.now)

pub numbers_there : (l : Units) (k : ℕ) → AreLinked l → k < length l.units.now → k < length l.entities.now.numbers.items
numbers_there l k linked h =
    let lists : length l.entities.now.numbers.items ≡ length (units_in l) =
    sym (length-map l.entities.now.numbers.items (λ (v : Vec ℕ Global). v.items)) ∙ ap length linked.numbers ∙ length-map (units_in l) entities_in in
    subst (λ n. k < n) (sym (lists ∙ many_units l)) h

numbers_at : (vs : List (Vec ℕ Global)) (us : List InRun) (k : ℕ) (v : Vec ℕ Global) (u : InRun) → map (λ (v : Vec ℕ Global). v.items) vs ≡ map entities_in us → k < length vs → v ≡ get_or vs k v → slice_get us k ≡ Some u → v.items ≡ u.entities
numbers_at [] us k v u e low h at = absurd (omega (arith, low))
numbers_at (w ∷ vs) [] k v u e low h at = cc
numbers_at (w ∷ vs) (x ∷ us) zero v u e low h at =
    let same : x ≡ u = cc in
    let heads : w.items ≡ x.entities = ap (λ (xs : List (List ℕ)). elim xs [ [] ↦ w.items | y ∷ ys ↦ y ]) e in
    ap (λ (z : Vec ℕ Global). z.items) h ∙ heads ∙ ap entities_in same
numbers_at (w ∷ vs) (x ∷ us) (suc k) v u e low h at =
    let tails : map (λ (v : Vec ℕ Global). v.items) vs ≡ map entities_in us = ap (λ (xs : List (List ℕ)). elim xs [ [] ↦ [] | y ∷ ys ↦ ys ]) e in
    numbers_at vs us k v u tails (omega (arith, low)) h at

-- a unit of a run with the numbers of its globals
pub record UnitIs (l : Units) (k : ℕ) (u : CilUnit) (numbers : List ℕ) : Type 0 where
  pub program : IsUnit (program_of l.names.now u)
  pub unit : slice_get (units_in l) k ≡ Some (record { program = program_of l.names.now u; entities = numbers })
  pub many : length numbers ≡ length (program_of l.names.now u).globals

pub unit_is : (l : Units) (k : ℕ) (u : CilUnit) (v : Vec ℕ Global) (numbers : List ℕ) → AreLinked l → k < length l.units.now → u ≡ get_or l.units.now k u → v ≡ get_or l.entities.now.numbers.items k v → numbers ≡ v.items → UnitIs l k u numbers
unit_is l k u v numbers linked low unit at same =
    let programs = programs_in l in
    let there : slice_get programs k ≡ Some (program_of l.names.now u) = slice_get-map (program_of l.names.now) l.units.now k ∙ ap (option_map (program_of l.names.now)) (slice_get_read l.units.now (length l.units.now) k u refl low unit) in
    let found = unit_at programs k (program_of l.names.now u) there in
    let equal : numbers ≡ found.entities = same ∙ numbers_at l.entities.now.numbers.items (in_run programs) k v _ linked.numbers (numbers_there l k linked low) at found.unit_is in
    record {
      program = subst (λ (w : CilUnit). IsUnit (program_of l.names.now w)) (sym unit) (All-get_or (λ (w : CilUnit). IsUnit (program_of l.names.now w)) l.units.now k u low linked.programs);
      unit = found.unit_is ∙ ap (λ (es : List ℕ). Some (let w : InRun = record { program = program_of l.names.now u; entities = es } in w)) (sym equal);
      many = ap length equal ∙ found.many;
    }

-- a unit that is there
pub unit_there : (l : Units) (k : UnitNo) (e : EntityId) → IsThere (units_in l) k e → k.0 < length l.units.now
unit_there l k e is = subst (λ n. k.0 < n) (many_units l) (slice_get_within (units_in l) k.0 is.program is.unit_is)

-- what a global means that is there
pub record MeantBy (l : Units) (k : UnitNo) (e : EntityId) (u : CilUnit) (r : code.GlobalDecl) : Type 0 where
  pub entities : List ℕ
  pub means : meant (units_in l) (OfGlobal k e) ≡ global_meaning (program_of l.names.now u) (global_of u.graph.nodes l.names.now r) entities

unit_found : (l : Units) (k : UnitNo) (e : EntityId) (u : CilUnit) → IsThere (units_in l) k e → u ≡ get_or l.units.now k.0 u → UnitAt (programs_in l) k.0 (program_of l.names.now u)
unit_found l k e u is at = unit_at (programs_in l) k.0 (program_of l.names.now u) (unit_read l.names.now l.units.now k.0 u (unit_there l k e is) at)

pub global_low : (l : Units) (k : UnitNo) (e : EntityId) (u : CilUnit) → IsThere (units_in l) k e → u ≡ get_or l.units.now k.0 u → e.0 < length u.globals.items
global_low l k e u is at =
    let found = unit_found l k e u is at in
    let v : InRun = record { program = program_of l.names.now u; entities = found.entities } in
    let both : Some is.program ≡ Some v = sym is.unit_is ∙ found.unit_is in
    let same : is.program ≡ v = cc in
    let there : e.0 < length is.program.program.globals = slice_get_within is.program.program.globals e.0 is.global is.global_is in
    subst (λ n. e.0 < n) (ap (λ (w : InRun). length w.program.globals) same ∙ length-map u.globals.items (global_of u.graph.nodes l.names.now)) there

pub meant_by : (l : Units) (k : UnitNo) (e : EntityId) (u : CilUnit) (r : code.GlobalDecl) → IsThere (units_in l) k e → u ≡ get_or l.units.now k.0 u → r ≡ get_or u.globals.items e.0 r → MeantBy l k e u r
meant_by l k e u r is unit global =
    let found = unit_found l k e u is unit in
    record {
      entities = found.entities;
      means =
          ap (λ (o : Option InRun). o >>= λ v. global_meant v e.0) found.unit_is
          ∙ ap (λ (o : Option GlobalDecl). o >>= λ y. global_meaning (program_of l.names.now u) y found.entities) (global_there u l.names.now e.0 r (global_low l k e u is unit) global);
    }
