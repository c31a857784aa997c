-- Device: what is read from a program's text, and has no types but those that it needs, has that text.
use Rattle.std.proofs.Common.{◌≡◌, ℕ, ◌*◌, ◌≤◌, true, List, length, map, Some, sym, ap, ◌∙◌, arith}
use Rattle.std.specs.List.{list_all}
use Rattle.type_graph.specs.Arena.{IsArena}
use Rattle.cil_tree.specs.declared.globals.CilUnit.{CilUnit}
use Rattle.cil_tree.specs.Tree.{Program}
use Rattle.cil_tree.specs.View.{program_of}
use Rattle.cil_tree.specs.WellFormedTypes.{members_are_unqualified}
use Rattle.cil_tree.specs.Programs.{IsTextOf, seen_aggregate, SameProgram}
use Rattle.cil_text.specs.ReadGlobals.{Seen}
use Rattle.cil_text.specs.ReadText.{read_text}
use Rattle.cil_text.specs.TypesOf.{HasNeeded}
use Rattle.cil_text.proofs.OneText.{text_back, same_seen}
use Rattle.cil_text.proofs.EnoughWhole.{enough}
use Rattle.cil_text.proofs.TextAlike.{equal_text}
use Rattle.cil_text.proofs.TypesThere.{needed_occur}
use Rattle.cil_text.proofs.WellFormedAlike.{well_formed_alike}

pub read_same : (bytes : List ℕ) (p q : Program) (n : ℕ) → IsTextOf bytes p → 2 * length bytes ≤ n → p.graph.abi ≡ q.graph.abi → read_text p.graph.abi n bytes ≡ Some (map (seen_aggregate q) q.graph.aggs, q.globals) → SameProgram p q
read_same bytes p q n is low model read =
    let seen : (map (seen_aggregate p) p.graph.aggs, p.globals) ≡ (map (seen_aggregate q) q.graph.aggs, q.globals) =
    same_seen (sym (text_back p n is.program (omega (arith, enough p is.program, ap length is.text, low))) ∙ ap (read_text p.graph.abi n) (sym is.text) ∙ read) in
    record { abi = model; aggregates = ap (λ (s : Seen). s.0) seen; globals = ap (λ (s : Seen). s.1) seen }

pub read_has_text : (bytes : List ℕ) (p q : Program) (u : CilUnit) (n : ℕ) → IsTextOf bytes p → 2 * length bytes ≤ n → p.graph.abi ≡ q.graph.abi → read_text p.graph.abi n bytes ≡ Some (map (seen_aggregate q) q.graph.aggs, q.globals) → HasNeeded q → list_all members_are_unqualified q.graph.aggs ≡ true →
    IsArena q.graph → program_of q.names u ≡ q → IsTextOf bytes q
read_has_text bytes p q u n is low model read needed unqualified arena seen =
    let same = read_same bytes p q n is low model read in
    record {
      program = well_formed_alike p q u is.program same (needed_occur p q is.program same needed unqualified) arena seen;
      text = is.text ∙ equal_text p q same;
      short = is.short;
    }
