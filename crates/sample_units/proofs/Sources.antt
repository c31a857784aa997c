-- The units so far, and one more.
use Rattle.std.proofs.Common.{◌≡◌, ℕ, ◌+◌, ◌%◌, List, [], ◌∷◌, ◌++◌, String, map, append_assoc, add-one, ap, sym, ◌∙◌, arith}
use Rattle.std.specs.Global.{Global}
use Rattle.std.specs.List.{range_with_len}
use Rattle.std.specs.String.{string_bytes}
use Rattle.std.proofs.lemmas.List.FromFn.{map-range_with_len_more}
use Rattle.std.proofs.lemmas.List.{map-append}
use Rattle.sample_units.specs.Draws.{next_state, drawn, state_at}
use Rattle.sample_units.specs.Units.{struct_lines, work_lines, rest_lines, unit_text, file_name}

-- the state behind one unit more
pub state_more : (seed u state first second : ℕ) → state ≡ state_at seed u → first ≡ next_state state → second ≡ next_state first → second ≡ state_at seed (u + 1)
state_more seed u state first second is one two = two ∙ (ap next_state (one ∙ ap next_state is) ∙ sym (ap (state_at seed) (add-one u)))

-- one element more
more : (f : ℕ → List ℕ) (u : ℕ) (now new : List (List ℕ)) (x : List ℕ) → now ≡ map f (range_with_len 0 u) → x ≡ f u → new ≡ now ++ x ∷ [] → new ≡ map f (range_with_len 0 (u + 1))
more f u now new x is same put = put ∙ (ap (λ t. t ++ x ∷ []) is ∙ (ap (λ y. map f (range_with_len 0 u) ++ y ∷ []) same ∙ sym (map-range_with_len_more f 0 u u (omega arith))))

pub unit_more : (seed units u state : ℕ) (now new : List (List ℕ)) (text : List ℕ) → now ≡ map (unit_text seed units) (range_with_len 0 u) → state ≡ state_at seed u
    → text ≡ struct_lines u ++ (work_lines (drawn state % 50) (drawn (next_state state) % 9 + 1) u ++ rest_lines units u) → new ≡ now ++ text ∷ []
    → new ≡ map (unit_text seed units) (range_with_len 0 (u + 1))
unit_more seed units u state now new text is at made put =
    more (unit_text seed units) u now new text is (made ∙ ap (λ s. struct_lines u ++ (work_lines (drawn s % 50) (drawn (next_state s) % 9 + 1) u ++ rest_lines units u)) at) put

pub file_more : (u : ℕ) (now new : List (String Global)) (name : String Global) → map string_bytes now ≡ map file_name (range_with_len 0 u) → string_bytes name ≡ file_name u → new ≡ now ++ name ∷ []
    → map string_bytes new ≡ map file_name (range_with_len 0 (u + 1))
file_more u now new name is same put = more file_name u (map string_bytes now) (map string_bytes new) (string_bytes name) is same (ap (map string_bytes) put ∙ map-append string_bytes now (name ∷ []))
