-- Lists of units of bytes with the refusal that comes first: of tokens, of the walk and of several units; each holds by computation, and is one that is defined by `refusal_is_first`.
use Rattle.std.specs.Prelude.{◌≡◌, refl, codes, ℕ, true, false, [], ◌∷◌, Option, Some, None}
use Rattle.cil_base.specs.declared.kinds.Abi.TheVariants.{Lp64, Ilp32}
use Rattle.cil_base.specs.declared.faults.Fault.{Fault}
use Rattle.cil_base.specs.declared.faults.Fault.TheVariants.{Lexical, Excluded, Constraint, Limit, Duplicate}
use Rattle.cil_base.specs.declared.faults.Feature.TheVariants as feature
use Rattle.cil_base.specs.declared.faults.Code.TheVariants as code
use Rattle.cil_base.specs.declared.faults.What.TheVariants as limit
use Rattle.cil_base.specs.declared.faults.Place.{Place}
use Rattle.cil_base.specs.declared.faults.Refusal.{Refusal}
use Rattle.c_faults.specs.Text.{refusal_by, refusal_in}

abbrev place : ℕ → ℕ → ℕ → ℕ → Place
place unit token file line = record { unit = record { 0 = unit }; token = token; file = record { 0 = file }; line = line }

abbrev at : Fault → ℕ → ℕ → ℕ → ℕ → Option (Option Refusal)
at fault unit token file line = Some (Some (record { fault = fault; at = place unit token file line; other = None }))

abbrev twice : ℕ → ℕ → ℕ → ℕ → ℕ → ℕ → ℕ → ℕ → Option (Option Refusal)
twice unit token file line other other_token other_file other_line = Some (Some (record { fault = Duplicate; at = place unit token file line; other = Some (place other other_token other_file other_line) }))

-- a literal that is cut
row_0 : refusal_in false (codes "int a;\nchar *s = \"ab" ∷ []) ≡ at Lexical 0 7 0 2
unfolding refusal_in
row_0 = refl

-- an excluded type
row_1 : refusal_in false (codes "double x;" ∷ []) ≡ at (Excluded feature.Floating) 0 0 0 1
unfolding refusal_in
row_1 = refl

-- a presumed file
row_2 : refusal_in false (codes "# 12 \"dir/x.h\" 1\nint main(void)\n{ return y; }" ∷ []) ≡ at (Constraint code.Undeclared) 0 7 3 13
unfolding refusal_in
row_2 = refl

-- tokens come before constraints
row_3 : refusal_in false (codes "int x = y; double z;" ∷ []) ≡ at (Excluded feature.Floating) 0 5 0 1
unfolding refusal_in
row_3 = refl

-- the second unit
row_4 : refusal_in false (codes "int x;" ∷ codes "int f(void)\n{ return\n z; }" ∷ []) ≡ at (Constraint code.Undeclared) 1 7 1 3
unfolding refusal_in
row_4 = refl

-- the first unit with a fault
row_5 : refusal_in false (codes "int x;" ∷ codes "int y = z;" ∷ codes "double d;" ∷ []) ≡ at (Constraint code.Undeclared) 1 3 1 1
unfolding refusal_in
row_5 = refl

-- a type that is too big
row_6 : refusal_in false (codes "char a[2147483648];" ∷ []) ≡ at (Limit limit.ObjectSize) 0 1 0 1
unfolding refusal_in
row_6 = refl

-- an enumerator that does not fit
row_7 : refusal_in false (codes "enum { A = 2147483648 };" ∷ []) ≡ at (Constraint code.EnumRange) 0 2 0 1
unfolding refusal_in
row_7 = refl

-- a fault that the end shows
row_8 : refusal_in false (codes "static int f(void); int g(void) { return f(); }" ∷ []) ≡ at (Constraint code.Defined) 0 2 0 1
unfolding refusal_in
row_8 = refl

-- two definitions
row_9 : refusal_in false (codes "int n = 1;" ∷ codes "int n = 1;" ∷ []) ≡ twice 1 1 1 1 0 1 0 1
unfolding refusal_in
row_9 = refl

-- two tentative definitions
row_10 : refusal_in false (codes "int n;" ∷ codes "int n;" ∷ []) ≡ twice 1 1 1 1 0 1 0 1
unfolding refusal_in
row_10 = refl

-- two tentative definitions that are common
row_11 : refusal_in true (codes "int n;" ∷ codes "int n;" ∷ []) ≡ Some None
unfolding refusal_in
row_11 = refl

-- two definitions where tentative ones are common
row_12 : refusal_in true (codes "int n = 1;" ∷ codes "int n;" ∷ codes "int m; int n = 1;" ∷ []) ≡ twice 2 4 2 1 0 1 0 1
unfolding refusal_in
row_12 = refl

-- the name that appears first
row_13 : refusal_in false (codes "extern int a, b;" ∷ codes "int b = 1; int a = 1;" ∷ codes "int b = 1; int a = 1;" ∷ []) ≡ twice 2 6 2 1 1 6 1 1
unfolding refusal_in
row_13 = refl

-- an internal name is its unit's alone
row_14 : refusal_in false (codes "static int n = 1; int f(void) { return n; }" ∷ codes "int n = 1;" ∷ []) ≡ Some None
unfolding refusal_in
row_14 = refl

-- an object of too many bytes in LP64
row_15 : refusal_by Lp64 false (codes "long a[268435456];" ∷ []) ≡ at (Limit limit.ObjectSize) 0 1 0 1
unfolding refusal_by
row_15 = refl

-- the same in ILP32
row_16 : refusal_by Ilp32 false (codes "long a[268435456];" ∷ []) ≡ Some None
unfolding refusal_by
row_16 = refl

-- an enumerator that does not fit in LP64
row_17 : refusal_by Lp64 false (codes "enum { A = 4294967295UL + 1 };" ∷ []) ≡ at (Constraint code.EnumRange) 0 2 0 1
unfolding refusal_by
row_17 = refl

-- the same in ILP32, where it is 0
row_18 : refusal_by Ilp32 false (codes "enum { A = 4294967295UL + 1 };" ∷ []) ≡ Some None
unfolding refusal_by
row_18 = refl

-- two cases of a type of LP64
row_19 : refusal_by Lp64 false (codes "int f(unsigned long x) { switch (x) { case 0: return 1; case 4294967296: return 2; } return 0; }" ∷ []) ≡ Some None
unfolding refusal_by
row_19 = refl

-- the same in ILP32, where they are one
row_20 : refusal_by Ilp32 false (codes "int f(unsigned long x) { switch (x) { case 0: return 1; case 4294967296: return 2; } return 0; }" ∷ []) ≡ at (Constraint code.Case) 0 19 0 1
unfolding refusal_by
row_20 = refl

-- an assertion that holds in LP64
row_21 : refusal_by Lp64 false (codes "_Static_assert(sizeof(long) == 8, \"\");" ∷ []) ≡ Some None
unfolding refusal_by
row_21 = refl

-- the same in ILP32
row_22 : refusal_by Ilp32 false (codes "_Static_assert(sizeof(long) == 8, \"\");" ∷ []) ≡ at (Constraint code.Assertion) 0 0 0 1
unfolding refusal_by
row_22 = refl
