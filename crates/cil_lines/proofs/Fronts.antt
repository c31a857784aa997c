-- What a sink took of two texts, one behind the other.
use Rattle.std.proofs.Common.{◌≡◌, ℕ, List, [], ◌++◌, Option, Some, None, Result, Ok, Err, OnOk, append_assoc, append-nil, ap, sym, ◌∙◌}
use Rattle.outside.specs.Counts.{Counts}
use Rattle.outside.specs.Moves.{Wrote, Began}
use Rattle.cil_lines.specs.Sent.{Sent}

-- both were taken
pub wrote_both : (old now new : Option (List ℕ)) (front text : List ℕ) → Wrote old now front → Wrote now new text → Wrote old new (front ++ text)
wrote_both None now new front text first second = rw first at second
wrote_both (Some taken) now new front text first second = (rw first at second) ∙ ap Some (append_assoc taken front text)

-- the first was taken, and a front of the second, behind which more stands
pub began_behind : (old now new : Option (List ℕ)) (front text rest whole : List ℕ) → Wrote old now front → Began now new text → whole ≡ (front ++ text) ++ rest → Began old new whole
began_behind old now new front text rest whole first second is = record {
  part = front ++ second.part;
  rest = second.rest ++ rest;
  split = is ∙ (ap (λ t. (front ++ t) ++ rest) second.split ∙ regroup front second.part second.rest rest);
  wrote = wrote_both old now new front second.part first second.wrote;
}
  where
    regroup : (a b c d : List ℕ) → (a ++ (b ++ c)) ++ d ≡ (a ++ b) ++ (c ++ d)
    regroup a b c d = simp append_assoc

-- a front of the first of three texts was taken
pub began_first : (old new : Option (List ℕ)) (a b c : List ℕ) → Began old new a → Began old new (a ++ (b ++ c))
began_first old new a b c first = record {
  part = first.part;
  rest = first.rest ++ (b ++ c);
  split = ap (λ t. t ++ (b ++ c)) first.split ∙ append_assoc first.part first.rest (b ++ c);
  wrote = first.wrote;
}

-- the first of three texts was taken, and a front of the second
pub began_second : (old now new : Option (List ℕ)) (a b c : List ℕ) → Wrote old now a → Began now new b → Began old new (a ++ (b ++ c))
began_second old now new a b c first second = began_behind old now new a b c (a ++ (b ++ c)) first second (sym (append_assoc a b c))

-- two of three texts were taken, and a front of the third
pub began_third : (old now then_ new : Option (List ℕ)) (a b c : List ℕ) → Wrote old now a → Wrote now then_ b → Began then_ new c → Began old new (a ++ (b ++ c))
began_third old now then_ new a b c first second third =
    began_behind old then_ new (a ++ b) c [] (a ++ (b ++ c)) (wrote_both old now then_ a b first second) third (sym (append_assoc a b c) ∙ sym (append-nil ((a ++ b) ++ c)))

-- what was written by a call that counts its faults was sent
pub sent_by : {T E : Type 0} (result : Result T E) (old new : Option (List ℕ)) (before now : ℕ) (text : List ℕ)
    → Began old new text → OnOk result (Wrote old new text) → Counts before now result → Sent old new before now text
sent_by (Ok v) old new before now text began ok count = record { began = began; whole = λ _. ok }
sent_by (Err e) old new before now text began ok count = record { began = began; whole = λ calm. absurd (calm count.rises) }
