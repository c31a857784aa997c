-- Device: worked rows of programs in either data model: what one program does with the kinds of long of each. Above each stands the C that is lowered to it.
use Rattle.std.proofs.Common.{◌≡◌, ℕ, true, false, List, [], ◌∷◌, ◌++◌, Some, refl}
use Rattle.std.specs.Prelude.{codes, map, replicate}
use Rattle.cil_base.specs.declared.kinds.Abi.{Abi}
use Rattle.cil_base.specs.declared.kinds.Abi.TheVariants.{Lp64, Ilp32}
use Rattle.cil_base.specs.declared.kinds.IntKind.{IntKind}
use Rattle.cil_base.specs.declared.kinds.IntKind.TheVariants as kind
use Rattle.cil_base.specs.declared.operators.BinOp.TheVariants as op
use Rattle.cil_base.specs.declared.runs.Outcome.{Outcome}
use Rattle.cil_base.specs.declared.runs.Outcome.TheVariants.{Exit, Undefined}
use Rattle.type_graph.specs.Shapes.{Shape, VoidType, IntType, ArrayType, FuncType, NoTypes, MoreTypes}
use Rattle.type_graph.specs.Arena.{empty_graph}
use Rattle.cil_tree.specs.Tree.{Const, Value, Bin, AddrOf, Var, Index, Here, Lval, Place, Set, Do, GlobalDecl, Program}
use Rattle.cil_tree.specs.Typing.{unqualified, pointer_to}
use Rattle.cil_semantics.proofs.Samples.{int, fits, local, main_of, declared, number, at, var, pointed_by, to, sum, set, call_to, return, stmts_of, outcomes}

abbrev program_in : Abi → List GlobalDecl → Program
program_in abi globals = record { graph = empty_graph abi; names = []; globals = globals }

-- a program that is written with the kinds of long and unsigned long
abbrev Written : Type 0
Written = Abi → IntKind → IntKind → Program

abbrev of_eight : Written → Program
of_eight p = p Lp64 kind.Long kind.ULong

abbrev of_four : Written → Program
of_four p = p Ilp32 kind.Long4 kind.ULong4

-- at the bound 1 in LP64, and in ILP32
abbrev in_both : Written → List Outcome
in_both p = outcomes (of_eight p) (1 ∷ []) ++ outcomes (of_four p) (1 ∷ [])

-- int main(void) { return 2147483647L + 1L > 0L; }
abbrev overflow : Written
overflow abi signed _ = program_in abi (main_of [] [] (stmts_of (return (Bin op.Gt (sum (Const signed 2147483647) (Const signed 1)) (Const signed 0)) ∷ [])) ∷ [])

overflow_rows : in_both overflow ≡ Exit 1 [] ∷ Undefined [] ∷ []
overflow_rows = refl

-- int main(void) { return 4294967295UL + 1UL == 0UL; }
abbrev wrapping : Written
wrapping abi _ unsigned = program_in abi (main_of [] [] (stmts_of (return (Bin op.Eq (sum (Const unsigned 4294967295) (Const unsigned 1)) (Const unsigned 0)) ∷ [])) ∷ [])

wrapping_rows : in_both wrapping ≡ Exit 0 [] ∷ Exit 1 [] ∷ []
wrapping_rows = refl

-- int main(void) { int x = 3; return *(int *) (INTEGER) &x; }, where INTEGER is int, or unsigned long
abbrev through : Shape → Abi → Program
through s abi = program_in abi (main_of (local (codes "x") int ∷ []) [] (stmts_of (
    set 0 (number 3)
    ∷ return (Value (pointed_by (to (pointer_to int) (to s (AddrOf (at 0))))))
    ∷ [])) ∷ [])

abbrev through_int : Written
through_int abi _ _ = through int abi

abbrev through_long : Written
through_long abi _ unsigned = through (IntType unsigned) abi

through_rows : in_both through_int ++ in_both through_long ≡ Undefined [] ∷ Exit 3 [] ∷ Exit 3 [] ∷ Exit 3 [] ∷ []
through_rows = refl

-- int main(void) { int a[4]; long d = &a[3] - &a[1]; return d == 2L; }
abbrev four : Shape
four = ArrayType unqualified int (Some 4)

abbrev part : ℕ → Lval
part i = Place (Var 0) (Index (number i) Here)

abbrev difference : Written
difference abi signed _ = program_in abi (main_of (local (codes "a") four ∷ local (codes "d") (IntType signed) ∷ []) [] (stmts_of (
    set 1 (Bin op.Sub (AddrOf (part 3)) (AddrOf (part 1)))
    ∷ return (Bin op.Eq (var 1) (Const signed 2))
    ∷ [])) ∷ [])

difference_rows : in_both difference ≡ Exit 1 [] ∷ Exit 1 [] ∷ []
difference_rows = refl

-- int main(void) { unsigned long x = 258UL; return *((unsigned char *) &x + N); }, where N is 0, 1, or 4
abbrev byte_of : ℕ → Written
byte_of n abi _ unsigned = program_in abi (main_of (local (codes "x") (IntType unsigned) ∷ []) [] (stmts_of (
    set 0 (Const unsigned 258)
    ∷ return (to int (Value (pointed_by (sum (to (pointer_to (IntType kind.UChar)) (AddrOf (at 0))) (number n)))))
    ∷ [])) ∷ [])

byte_rows : in_both (byte_of 0) ++ (in_both (byte_of 1) ++ in_both (byte_of 4)) ≡ Exit 2 [] ∷ Exit 2 [] ∷ Exit 1 [] ∷ Exit 1 [] ∷ Exit 0 [] ∷ Undefined [] ∷ []
byte_rows = refl

-- void *malloc(unsigned long); int main(void) { int *p = malloc(4UL); *p = 7; return *p; }
abbrev allocating : Written
allocating abi _ unsigned = program_in abi (
    declared (codes "malloc") (FuncType (pointer_to VoidType) (MoreTypes (IntType unsigned) NoTypes) true false)
    ∷ main_of (local (codes "t") (pointer_to VoidType) ∷ local (codes "p") (pointer_to int) ∷ []) [] (stmts_of (
    call_to 0 0 (Const unsigned 4 ∷ [])
    ∷ set 1 (to (pointer_to int) (var 0))
    ∷ Do (Set (pointed_by (var 1)) (number 7))
    ∷ return (Value (pointed_by (var 1)))
    ∷ []))
    ∷ [])

allocating_rows : in_both allocating ≡ Exit 7 [] ∷ Exit 7 [] ∷ []
allocating_rows = refl

-- they are programs of their models
abbrev all_written : List Written
all_written = overflow ∷ wrapping ∷ through_int ∷ through_long ∷ difference ∷ byte_of 4 ∷ allocating ∷ []

are_programs : map fits (map of_eight all_written ++ map of_four all_written) ≡ replicate 14 true
are_programs = refl
