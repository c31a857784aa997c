-- Device: a program is well-formed where its types, its names and its globals keep their rules.
use Rattle.std.proofs.Common.{◌≡◌, ◌↔◌, ℕ, Bool, true, false, ◌&&◌, List, refl, sym, ap, ◌∙◌, true≢false, Result, Ok, Err, IfOk}
use Rattle.std.specs.List.{list_all}
use Rattle.type_graph.specs.Arena.{IsArena}
use Rattle.cil_tree.specs.declared.globals.CilUnit.{CilUnit}
use Rattle.cil_tree.specs.View.{program_of}
use Rattle.cil_tree.specs.WellFormedTypes.{AreTypes}
use Rattle.cil_tree.specs.Globals.{global_fits}
use Rattle.cil_tree.specs.Programs.{IsProgram}
use Rattle.cil_check.specs.FileNames.{names_rules}
use Rattle.cil_check.specs.WholePrograms.{parts_rules}
use Rattle.cil_check.proofs.FileLaws.{names_are, names_hold}

both : (p q : Bool) → p && q ≡ true → (p ≡ true) × (q ≡ true)
both true q e = (refl, e)
both false q e = cc

joined : (p q : Bool) → p ≡ true → q ≡ true → p && q ≡ true
joined p q e f = ap (λ b. b && q) e ∙ f

-- a program with types that do not keep their rules
pub untyped : (names : List (List ℕ)) (u : CilUnit) (typed : Bool) → (typed ≡ true) ↔ AreTypes u.graph → typed ≡ false → (false ≡ true) ↔ IsProgram (program_of names u)
untyped names u typed t e = (λ h. absurd (true≢false (sym h)), λ r. sym e ∙ t.1 r.types)

-- a program whose types keep theirs
parts_tell : (names : List (List ℕ)) (u : CilUnit) (b typed : Bool) → IsArena u.graph → (typed ≡ true) ↔ AreTypes u.graph → typed ≡ true → b ≡ parts_rules (program_of names u) → (b ≡ true) ↔ IsProgram (program_of names u)
parts_tell names u b typed arena t e is = (to, from)
  where
    to : b ≡ true → IsProgram (program_of names u)
    to h =
        let p = program_of names u in
        let k = both (names_rules p) (list_all (global_fits p) p.globals) (sym is ∙ h) in
        record { arena = arena; unit = u; seen = refl; types = t.0 e; names = names_are p k.0; globals = k.1 }

    from : IsProgram (program_of names u) → b ≡ true
    from r = let p = program_of names u in is ∙ joined (names_rules p) (list_all (global_fits p) p.globals) (names_hold p r.names) r.globals

-- the same of an answer that may be want of memory
pub parts_answer : {E : Type 0} (names : List (List ℕ)) (u : CilUnit) (r : Result Bool E) (typed : Bool) → IsArena u.graph → (typed ≡ true) ↔ AreTypes u.graph → typed ≡ true → IfOk r (λ b. b ≡ parts_rules (program_of names u)) → IfOk r (λ b. (b ≡ true) ↔ IsProgram (program_of names u))
parts_answer names u (Ok b) typed arena t e is = parts_tell names u b typed arena t e is
parts_answer names u (Err x) typed arena t e is = tt
