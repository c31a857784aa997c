-- Device: bytes that are refused are the text of no program.
use Rattle.std.proofs.Common.{◌≡◌, ◌↔◌, ℕ, ◌<◌, ◌*◌, ◌≤◌, Bool, true, false, List, length, map, Some, None, Err, refl, sym, ap, ◌∙◌, subst, arith}
use Rattle.std.specs.List.{list_all}
use Rattle.std.specs.Str.{bytes_eq}
use Rattle.std.proofs.lemmas.Slice.Eq.{bytes_eq-Decides}
use Rattle.cil_base.specs.Limits.{text_bytes}
use Rattle.cil_base.specs.declared.kinds.Abi.{Abi}
use Rattle.type_graph.specs.Arena.{IsArena}
use Rattle.cil_tree.specs.declared.globals.CilUnit.{CilUnit}
use Rattle.cil_tree.specs.Tree.{Program}
use Rattle.cil_tree.specs.View.{program_of}
use Rattle.cil_tree.specs.Text.{Text}
use Rattle.cil_tree.specs.WellFormedTypes.{members_are_unqualified}
use Rattle.cil_tree.specs.Programs.{IsProgram, IsTextOf, seen_aggregate}
use Rattle.cil_text.specs.ReadText.{read_text}
use Rattle.cil_text.specs.TypesOf.{HasNeeded}
use Rattle.cil_text.proofs.OneText.{text_back}
use Rattle.cil_text.proofs.EnoughWhole.{enough}
use Rattle.cil_text.proofs.ReadTexts.{read_has_text}
use Rattle.cil_declarators.specs.declared.stop.Stop.{Stop}
use Rattle.cil_declarators.specs.declared.stop.Stop.TheVariants.{NotCil, WantOfMemory}
use Rattle.cil_declarators.specs.Gives.{Fails}
use Rattle.cil_reader.specs.Aggregates.{aggregates_in}
use Rattle.cil_reader.specs.Globals.{globals_of}
use Rattle.cil_reader.specs.Stops.{IsNoText}
use Rattle.cil_reader.specs.Defined.{Refuses}

-- a tree whose text is compared

pub no_program : (bytes : List ℕ) (p : Program) (b : Bool) → (b ≡ true) ↔ IsProgram p → b ≡ false → IsTextOf bytes p → ⊥
no_program bytes p b exact fails is = absurd (cc (exact.1 is.program, fails))

pub other_text : (bytes text seen : List ℕ) (p : Program) (b : Bool) → IsTextOf text p → seen ≡ text → b ≡ bytes_eq seen bytes → b ≡ false → IsTextOf bytes p → ⊥
other_text bytes text seen p b is told compared fails also =
    let same : bytes_eq seen bytes ≡ true = (bytes_eq-Decides seen bytes).1 (told ∙ is.text ∙ sym also.text) in
    absurd (cc (same, compared, fails))

pub too_long : (bytes : List ℕ) (p : Program) → text_bytes < length (Text p) → IsTextOf bytes p → ⊥
too_long bytes p long is = absurd (omega (arith, long, is.short, ap length is.text))

-- bytes that are read

low_enough : (bytes : List ℕ) (p : Program) → IsTextOf bytes p → 2 * length bytes ≤ 4294967295
low_enough bytes p is = omega (arith, is.short)

pub never_read : (abi : Abi) (bytes : List ℕ) → read_text abi 4294967295 bytes ≡ None → IsNoText abi bytes
never_read abi bytes none p model is =
    let some : read_text abi 4294967295 bytes ≡ Some (map (seen_aggregate p) p.graph.aggs, p.globals) =
    ap (read_text abi 4294967295) is.text
    ∙ ap (λ (v : Abi). read_text v 4294967295 (Text p)) (sym model)
    ∙ text_back p 4294967295 is.program (omega (arith, enough p is.program, ap length is.text, low_enough bytes p is)) in
    absurd (cc (none, some))

pub refused_by : (abi : Abi) (bytes : List ℕ) (x : Stop) → Fails x (read_text abi 4294967295 bytes) → Refuses abi bytes (Err x)
refused_by abi bytes NotCil fails = never_read abi bytes fails
refused_by abi bytes WantOfMemory fails = tt

pub memory_only : (abi : Abi) (bytes : List ℕ) (x : Stop) → x ≡ WantOfMemory → Refuses abi bytes (Err x)
memory_only abi bytes x is = subst (λ (y : Stop). Refuses abi bytes (Err y)) (sym is) tt

pub read_otherwise : (abi : Abi) (bytes : List ℕ) (names : List (List ℕ)) (u : CilUnit) → u.graph.abi ≡ abi → read_text abi 4294967295 bytes ≡ Some (aggregates_in u.graph names, globals_of u.graph.nodes names u.globals.items) → HasNeeded (program_of names u) →
    list_all members_are_unqualified u.graph.aggs ≡ true → IsArena u.graph → (IsTextOf bytes (program_of names u) → ⊥) → IsNoText abi bytes
unfolding aggregates_in
read_otherwise abi bytes names u own read needed unqualified arena other p model is =
    other (read_has_text bytes p (program_of names u) u 4294967295 is (low_enough bytes p is) (model ∙ sym own) (ap (λ (v : Abi). read_text v 4294967295 bytes) model ∙ read) needed unqualified arena refl)
