-- Worked rows: what the definitions say of small cases.
use Rattle.std.proofs.Common.{◌≡◌, ℕ, ◌-◌, ◌^◌, List, [], ◌∷◌, Some, None, refl}
use Rattle.std.specs.Prelude.{codes}
use Rattle.outside.specs.Counts.{next_number}
use Rattle.outside.specs.InMemory.{number_after, strays_after}
use Rattle.outside.specs.Moves.{Wrote, WasRead}
use Rattle.outside.specs.Named.{Told, find_file, left_of, with_left}

two_of_a_name : List (List ℕ × List ℕ)
two_of_a_name = (codes "a.c", codes "first") ∷ (codes "b.c", []) ∷ (codes "a.c", codes "second") ∷ []

first_counts : find_file (codes "a.c") two_of_a_name ≡ Some (codes "first")
unfolding two_of_a_name
first_counts = refl

empty_file_is_there : find_file (codes "b.c") two_of_a_name ≡ Some []
unfolding two_of_a_name
empty_file_is_there = refl

no_such_name : find_file (codes "a.") two_of_a_name ≡ None
unfolding two_of_a_name
no_such_name = refl

numbers_end : next_number (2 ^ 64 - 1) ≡ 2 ^ 64 - 1
numbers_end = refl

numbers_go_on : number_after 3 (2 ^ 64 - 2) ≡ 2 ^ 64 - 1
numbers_go_on = refl

empty_has_no_number : number_after 0 7 ≡ 7
empty_has_no_number = refl

stray_counts : strays_after None 2 ≡ 3
stray_counts = refl

named_does_not : strays_after (Some []) 2 ≡ 2
named_does_not = refl

written_behind : Wrote (Some (codes "ab")) (Some (codes "abcd")) (codes "cd")
written_behind = refl

read_from_front : WasRead (Some (codes "abcd")) (Some (codes "cd")) (codes "ab")
read_from_front = refl

untold_stays_untold : Wrote None None (codes "cd")
untold_stays_untold = refl

left_is_what_was_put : (t : Told) → left_of (Some (with_left (codes "x") t)) ≡ Some (codes "x")
left_is_what_was_put t = refl
