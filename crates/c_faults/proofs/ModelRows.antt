-- Lists of units of bytes with the refusal that comes first, the same in each data model.
use Rattle.std.specs.Prelude.{◌≡◌, refl, codes, ℕ, true, false, [], ◌∷◌, ◌++◌}
use Rattle.cil_base.specs.declared.faults.Fault.TheVariants.{Excluded, Constraint, Limit}
use Rattle.cil_base.specs.declared.faults.Feature.TheVariants as feature
use Rattle.cil_base.specs.declared.faults.Code.TheVariants as code
use Rattle.cil_base.specs.declared.faults.What.TheVariants as limit
use Rattle.c_faults.specs.Text.{refusals_in}
use Rattle.c_faults.proofs.Expected.{place, at, twice, accepted, so_many}

-- an excluded type
floating : refusals_in false (codes "double x;" ∷ []) ≡ at (Excluded feature.Floating) 0 0 0 1
unfolding refusals_in
floating = refl

-- a presumed file
presumed : refusals_in false (codes "# 12 \"dir/x.h\" 1\nint main(void)\n{ return y; }" ∷ []) ≡ at (Constraint code.Undeclared) 0 7 3 13
unfolding refusals_in
presumed = refl

-- an object of too many bytes
large : refusals_in false (codes "char a[2147483648];" ∷ []) ≡ at (Limit limit.ObjectSize) 0 1 0 1
unfolding refusals_in
large = refl

-- and one of as many as it may have
largest : refusals_in false (codes "char a[2147483647];" ∷ []) ≡ accepted
unfolding refusals_in
largest = refl

-- an enumerator that does not fit
enumerator : refusals_in false (codes "enum { A = 2147483648 };" ∷ []) ≡ at (Constraint code.EnumRange) 0 2 0 1
unfolding refusals_in
enumerator = refl

-- two types of one object
conflict : refusals_in false (codes "int x; long x;" ∷ []) ≡ at (Constraint code.Conflict) 0 4 0 1
unfolding refusals_in
conflict = refl

-- an assignment to a number
assigned : refusals_in false (codes "int main(void) { 1 = 2; return 0; }" ∷ []) ≡ at (Constraint code.NotLvalue) 0 6 0 1
unfolding refusals_in
assigned = refl

-- a member that an anonymous one offers again
offered : refusals_in false (codes "struct s { int a; struct { int a; }; };" ∷ []) ≡ at (Constraint code.Redeclared) 0 9 0 1
unfolding refusals_in
offered = refl

-- a member without a declarator that is no anonymous one
tagged : refusals_in false (codes "struct s { struct t { int a; }; };" ∷ []) ≡ at (Constraint code.Specifiers) 0 3 0 1
unfolding refusals_in
tagged = refl

-- two tentative definitions, common and not
common : refusals_in true (codes "int n;" ∷ codes "int n;" ∷ []) ≡ accepted
unfolding refusals_in
common = refl

apart : refusals_in false (codes "int n;" ∷ codes "int n;" ∷ []) ≡ twice (place 1 1 1 1) (place 0 1 0 1)
unfolding refusals_in
apart = refl

-- a definition and a tentative one, common and not
one_strong : refusals_in true (codes "int n = 7;" ∷ codes "int n; int main(void) { return n; }" ∷ []) ≡ accepted
unfolding refusals_in
one_strong = refl

one_tentative : refusals_in false (codes "int n = 7;" ∷ codes "int n; int main(void) { return n; }" ∷ []) ≡ twice (place 1 1 1 1) (place 0 1 0 1)
unfolding refusals_in
one_tentative = refl

-- two definitions, which are never common
two_strong : refusals_in true (codes "int n = 1;" ∷ codes "int n = 1;" ∷ []) ≡ twice (place 1 1 1 1) (place 0 1 0 1)
unfolding refusals_in
two_strong = refl

-- identifiers of as many bytes as they may have, and of one more
longest_name : refusals_in false ((codes "int " ++ (so_many 1024 97 ++ codes ";")) ∷ []) ≡ accepted
unfolding refusals_in
longest_name = refl

long_name : refusals_in false ((codes "int " ++ (so_many 1025 97 ++ codes ";")) ∷ []) ≡ at (Limit limit.NameBytes) 0 1 0 1
unfolding refusals_in
long_name = refl
