-- A loop that moves a text piece by piece has moved a front of it.
use Rattle.std.proofs.Common.{◌≡◌, ℕ, ◌+◌, ◌-◌, ◌≤◌, List, [], ◌++◌, Option, Some, None, length, take, drop, append_assoc, arith, ap, sym, ◌∙◌, length-take, length-drop}
use Rattle.std.proofs.Math.Seq.{take-add}
use Rattle.std.proofs.lemmas.List.{append-nil, take-append-drop, take_rest}
use Rattle.std.specs.Option.{option_map}
use Rattle.outside.specs.Moves.{Wrote, Began}

-- a piece of what is left is no longer than it
pub within_more : (text : List ℕ) (at n : ℕ) → at ≤ length text → n ≤ length (take (length text - at) (drop at text)) → at + n ≤ length text
within_more text at n within fits = omega (arith, length-take (length text - at) (drop at text), length-drop at text)

-- a front of the text, and the next piece of it
pub wrote_more : (old now new : Option (List ℕ)) (text : List ℕ) (at n : ℕ) → Wrote old now (take at text)
    → new ≡ option_map (λ taken. taken ++ take n (take (length text - at) (drop at text))) now → Wrote old new (take (at + n) text)
wrote_more None now new text at n wrote next = rw wrote at next
wrote_more (Some taken) now new text at n wrote next =
    (rw wrote at next) ∙ ap Some (append_assoc taken (take at text) (take n (take (length text - at) (drop at text)))
    ∙ ap (λ bytes. taken ++ bytes) (ap (λ rest. take at text ++ take n rest) (take_rest text at) ∙ sym (take-add at n text)))

-- a front of the text was taken
pub began_by : (old new : Option (List ℕ)) (text : List ℕ) (at : ℕ) → Wrote old new (take at text) → Began old new text
began_by old new text at wrote = record { part = take at text; rest = drop at text; split = sym (take-append-drop at text); wrote = wrote }

-- two texts, one behind the other: for callers that write a line in pieces
pub wrote_both : (old mid new : Option (List ℕ)) (first second : List ℕ) → Wrote old mid first → Wrote mid new second → Wrote old new (first ++ second)
wrote_both None mid new first second one two = rw one at two
wrote_both (Some taken) mid new first second one two = (rw one at two) ∙ ap Some (append_assoc taken first second)

-- all of a text was taken
pub began_whole : (old new : Option (List ℕ)) (text : List ℕ) → Wrote old new text → Began old new text
began_whole old new text wrote = record { part = text; rest = []; split = sym (append-nil text); wrote = wrote }

-- the first text was begun, and nothing of the second
pub begun_first : (old new : Option (List ℕ)) (first second : List ℕ) → Began old new first → Began old new (first ++ second)
begun_first old new first second begun = record {
  part = begun.part;
  rest = begun.rest ++ second;
  split = ap (λ text. text ++ second) begun.split ∙ append_assoc begun.part begun.rest second;
  wrote = begun.wrote;
}

-- the first text was taken, and the second begun
pub begun_second : (old mid new : Option (List ℕ)) (first second : List ℕ) → Wrote old mid first → Began mid new second → Began old new (first ++ second)
begun_second old mid new first second wrote begun = record {
  part = first ++ begun.part;
  rest = begun.rest;
  split = ap (λ text. first ++ text) begun.split ∙ sym (append_assoc first begun.part begun.rest);
  wrote = wrote_both old mid new first begun.part wrote begun.wrote;
}
