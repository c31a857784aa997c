-- Device: a store with the entities and the arguments is the one in which the run starts.
use Rattle.std.proofs.Common.{◌≡◌, ℕ, List, [], ◌∷◌, map, slice_get, Option, Some, None, refl, sym, ap, ◌∙◌, subst}
use Rattle.std.proofs.lemmas.List.Elements.{All-nil, All-head}
use Rattle.cil_base.specs.declared.kinds.Abi.{Abi}
use Rattle.byte_mem.specs.declared.stores.Store.{Store}
use Rattle.byte_mem.specs.Object.{Held}
use Rattle.byte_mem.specs.Store.{memory}
use Rattle.execution.specs.Runs.{entity_held, memory_of, words_held}
use Rattle.cil_tree.specs.declared.globals.CilUnit.{CilUnit}
use Rattle.cil_tree.specs.Tree.{Program}
use Rattle.cil_tree.specs.View.{program_of}
use Rattle.cil_semantics.specs.Modes.{HaveModel, HaveOneModel}
use Rattle.cil_link.specs.declared.entities.Definer.{Definer}
use Rattle.cil_link.specs.Entities.{InRun, in_run, linked_in, meant, IsTable}
use Rattle.cil_start.specs.Loads.{definer_held}
use Rattle.cil_start.specs.Starts.{Starts}

held_each : (units : List InRun) (ds : List Definer) → map entity_held (map (meant units) ds) ≡ map (definer_held units) ds
held_each units [] = refl
held_each units (d ∷ ds) = ap (λ (os : List (Option Held)). definer_held units d ∷ os) (held_each units ds)

-- programs that have one data model have that of the first
pub model_of_none : (names : List (List ℕ)) (us : List CilUnit) (abi : Abi) → None ≡ slice_get us 0 → HaveModel abi (map (program_of names) us)
model_of_none names [] abi none = All-nil (λ (p : Program). p.graph.abi ≡ abi)
model_of_none names (v ∷ us) abi none = absurd (cc)

pub model_of_first : (names : List (List ℕ)) (us : List CilUnit) (u : CilUnit) → Some u ≡ slice_get us 0 → HaveOneModel (map (program_of names) us) → HaveModel u.graph.abi (map (program_of names) us)
model_of_first names [] u at h = absurd (cc)
model_of_first names (v ∷ us) u at h =
    let same : u ≡ v = cc in
    let first : v.graph.abi ≡ h.model = All-head (λ (p : Program). p.graph.abi ≡ h.model) (program_of names v) (map (program_of names) us) h.each in
    subst (λ (a : Abi). HaveModel a (map (program_of names) (v ∷ us))) (sym (ap (λ (w : CilUnit). w.graph.abi) same ∙ first)) h.each

pub starts : (programs : List Program) (ds : List Definer) (words : List (List ℕ)) (abi : Abi) (made done : Store) → IsTable programs ds → HaveModel abi programs → done.abi ≡ abi
    → memory made ≡ memory_of (map (definer_held (in_run programs)) ds) []
    → ((entities : List (Option Held)) → memory made ≡ memory_of entities [] → memory done ≡ memory_of entities (words_held abi words)) → Starts done programs words
starts programs ds words abi made done table each model b filled =
    let same : map (definer_held (in_run programs)) ds ≡ map entity_held (linked_in programs) = sym (held_each (in_run programs) ds) ∙ ap (map entity_held) (sym table.means) in
    record {
      memory = λ input units.
          filled (map (definer_held (in_run programs)) ds) b ∙ ap (λ (os : List (Option Held)). memory_of os (words_held abi words)) same
          ∙ ap (λ (a : Abi). memory_of (map entity_held (linked_in programs)) (words_held a words)) (sym model);
      model = subst (λ (a : Abi). HaveModel a programs) (sym model) each;
    }
