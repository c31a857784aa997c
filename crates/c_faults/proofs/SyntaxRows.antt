-- Units that are not grammatical, with the two places of the fault, the same in each data model; and the first of them as it is defined.
use Rattle.std.specs.Prelude.{◌≡◌, refl, codes, ℕ, false, [], ◌∷◌, ◌++◌, Some}
use Rattle.cil_base.specs.declared.faults.Fault.TheVariants.{Syntax}
use Rattle.c_faults.specs.Text.{refusals_in}
use Rattle.c_faults.proofs.Expected.{place, refused, both, so_many}

-- no unit
nothing : refusals_in false ([] ∷ []) ≡ both (refused Syntax (place 0 0 0 1) (Some (place 0 0 0 1)))
unfolding refusals_in
nothing = refl

-- a declaration that is none, behind a whole one
second : refusals_in false (codes "int a; int b c;" ∷ []) ≡ both (refused Syntax (place 0 3 0 1) (Some (place 0 5 0 1)))
unfolding refusals_in
second = refl

-- a statement that is none
else_alone : refusals_in false (codes "int f(void) { if (1) else ; }" ∷ []) ≡ both (refused Syntax (place 0 0 0 1) (Some (place 0 10 0 1)))
unfolding refusals_in
else_alone = refl

-- the unit's end
unended : refusals_in false (codes "int f(void) { return 1;" ∷ []) ≡ both (refused Syntax (place 0 0 0 1) (Some (place 0 9 0 1)))
unfolding refusals_in
unended = refl

-- an object's name that is no type's
no_type : refusals_in false (codes "int T; T x;" ∷ []) ≡ both (refused Syntax (place 0 3 0 1) (Some (place 0 3 0 1)))
unfolding refusals_in
no_type = refl

-- a second unit that is none, with a presumed line
other : refusals_in false (codes "int a;" ∷ codes "int b;\nint\n;)" ∷ []) ≡ both (refused Syntax (place 1 5 1 3) (Some (place 1 5 1 3)))
unfolding refusals_in
other = refl
