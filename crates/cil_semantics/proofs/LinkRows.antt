-- Device: worked rows of linking, calls and starts. Above each stands the C that is lowered to it, a unit a program.
use Rattle.std.proofs.Common.{◌≡◌, ℕ, Bool, true, false, List, [], ◌∷◌, ◌++◌, Some, None, refl}
use Rattle.std.specs.Prelude.{ℤ, pos, codes, map, replicate}
use Rattle.cil_base.specs.declared.constants.Constant.TheVariants as constant
use Rattle.cil_base.specs.declared.kinds.Abi.TheVariants.{Lp64}
use Rattle.cil_base.specs.declared.kinds.Mode.{Mode}
use Rattle.cil_base.specs.declared.kinds.IntKind.TheVariants as kind
use Rattle.cil_base.specs.declared.operators.BinOp.TheVariants as op
use Rattle.cil_base.specs.declared.runs.Outcome.{Outcome}
use Rattle.cil_base.specs.declared.runs.Outcome.TheVariants.{Exit, Running, Undefined}
use Rattle.type_graph.specs.Shapes.{Shape, IntType, ArrayType, FuncType, NoTypes, MoreTypes}
use Rattle.cil_tree.specs.Tree.{Exp, Const, Value, Bin, AddrOf, StartOf, Global, Here, Index, Place, Through, Set, Call, Stmt, Do, If, Image, Zeros, Definition, GlobalDecl, Program}
use Rattle.cil_tree.specs.Typing.{unqualified, pointer_to}
use Rattle.cil_semantics.specs.Runs.{RunCil, UnitsSpent, FindsEnd}
use Rattle.cil_semantics.proofs.Samples.{int, program, fits, local, function, int_from, main_of, declared, putchar, number, at, var, pointed_by, global, to, sum, set, call, call_to, return, stmts_of, element, outcomes}

-- the modes, as tentative definitions are common or not
abbrev lp64 : Bool → Mode
lp64 common = record { common = common; abi = Lp64 }

-- the outcomes of linked programs at some bounds
abbrev linked_at : List Program → List ℕ → List Outcome
linked_at programs bounds = map (RunCil programs (lp64 false) (codes "p" ∷ []) []) bounds

abbrev object : Bool → List ℕ → ℤ → GlobalDecl
object internal name v = record { name = name; type = Some int; internal = internal; definition = Image (record { path = []; value = constant.Int kind.Int v } ∷ []) }

abbrev int_function : List ℕ → List Stmt → GlobalDecl
int_function name xs = function (int_from NoTypes) [] name [] [] (stmts_of xs)

abbrev hidden : GlobalDecl → GlobalDecl
hidden x = record x { internal = true }

-- static int n = 1; int f(void) { return n; }
abbrev first_unit : Program
first_unit = program (object true (codes "n") (pos 1) ∷ int_function (codes "f") (return (global 0) ∷ []) ∷ [])

-- static int n = 2; int g(void) { return n; }
abbrev second_unit : Program
second_unit = program (object true (codes "n") (pos 2) ∷ int_function (codes "g") (return (global 0) ∷ []) ∷ [])

-- int n = 4; int f(void); int g(void); int main(void) { return f() + g() * 10 + n; }
abbrev third_unit : Program
third_unit = program (
    object false (codes "n") (pos 4)
    ∷ declared (codes "f") (int_from NoTypes)
    ∷ declared (codes "g") (int_from NoTypes)
    ∷ main_of (local (codes "t") int ∷ local (codes "u") int ∷ []) [] (stmts_of (
    call_to 0 1 [] ∷ call_to 1 2 [] ∷ return (sum (sum (var 0) (Bin op.Mul (var 1) (number 10))) (global 0)) ∷ []))
    ∷ [])

-- internal names are those of their unit, external ones are one, in whichever order the units stand
statics_rows : linked_at (first_unit ∷ second_unit ∷ third_unit ∷ []) (0 ∷ 1 ∷ 2 ∷ 3 ∷ []) ++ linked_at (third_unit ∷ second_unit ∷ first_unit ∷ []) (3 ∷ [])
    ≡ Running [] ∷ Running [] ∷ Running [] ∷ Exit 25 [] ∷ Exit 25 [] ∷ []
statics_rows = refl

-- without a main of external linkage and of its type a run is undefined, at the bound 0 too; a function that no unit defines is undefined when it is called
-- static int main(void) { return 1; }      int main(int x) { return 1; }      int main() { return 1; }
abbrev no_word : Program
no_word = program (function (int_from (MoreTypes int NoTypes)) (codes "x" ∷ []) (codes "main") (local (codes "x") int ∷ []) [] (stmts_of (return (number 1) ∷ [])) ∷ [])

abbrev unprototyped : Program
unprototyped = program (function (FuncType int NoTypes false false) [] (codes "main") [] [] (stmts_of (return (number 1) ∷ [])) ∷ [])

main_rows : linked_at [] (0 ∷ []) ++ (linked_at (first_unit ∷ []) (0 ∷ 10 ∷ []) ++ (linked_at (program (hidden (main_of [] [] (stmts_of (return (number 1) ∷ []))) ∷ []) ∷ []) (1 ∷ []) ++ (linked_at (no_word ∷ []) (1 ∷ []) ++ (linked_at (unprototyped ∷ []) (1 ∷ []) ++ linked_at (third_unit ∷ []) (0 ∷ 1 ∷ [])))))
    ≡ Undefined [] ∷ Undefined [] ∷ Undefined [] ∷ Undefined [] ∷ Undefined [] ∷ Exit 1 [] ∷ Running [] ∷ Undefined [] ∷ []
main_rows = refl

-- the end of main gives 0, in each of its activations: int main(void) { static int n; int t; n = n + 1; if (n < 2) { t = main(); return t + 5; } }
abbrev again : Program
again = program (
    record { name = codes "n"; type = Some int; internal = true; definition = Zeros }
    ∷ main_of (local (codes "t") int ∷ []) [] (stmts_of (
    Do (Set (Place (Global 0) Here) (sum (global 0) (number 1)))
    ∷ If (Bin op.Lt (global 0) (number 2)) (stmts_of (call_to 0 1 [] ∷ return (sum (var 0) (number 5)) ∷ [])) (stmts_of [])
    ∷ []))
    ∷ [])

-- another function that ends without a value gives Unknown: int f(void) { } int main(void) { f(); return 3; }, and int main(void) { return f(); }
abbrev nothing_given : Stmt → Stmt → Program
nothing_given x y = program (int_function (codes "f") [] ∷ main_of (local (codes "t") int ∷ []) [] (stmts_of (x ∷ y ∷ [])) ∷ [])

end_rows : linked_at (again ∷ []) (1 ∷ 2 ∷ []) ++ (outcomes (nothing_given (call 0 []) (return (number 3))) (2 ∷ []) ++ outcomes (nothing_given (call_to 0 0 []) (return (var 0))) (2 ∷ []))
    ≡ Running [] ∷ Exit 5 [] ∷ Exit 3 [] ∷ Undefined [] ∷ []
end_rows = refl

-- a unit's function of a host's name is that function for all units, or with internal linkage for its own alone; where none defines it, a declaration as a function makes it the host's, whatever else declares it before
-- int putchar(int c) { return c + 1; }
abbrev own_putchar : GlobalDecl
own_putchar = function (int_from (MoreTypes int NoTypes)) (codes "c" ∷ []) (codes "putchar") (local (codes "c") int ∷ []) [] (stmts_of (return (sum (var 0) (number 1)) ∷ []))

-- int putchar(int); int main(void) { return putchar('a'); }
abbrev putting : Program
putting = program (putchar ∷ main_of (local (codes "t") int ∷ []) [] (stmts_of (call_to 0 0 (number 97 ∷ []) ∷ return (var 0) ∷ [])) ∷ [])

-- extern int putchar;
abbrev object_putchar : Program
object_putchar = program (declared (codes "putchar") int ∷ [])

host_rows : linked_at (putting ∷ []) (1 ∷ []) ++ (linked_at (putting ∷ program (own_putchar ∷ []) ∷ []) (1 ∷ 2 ∷ []) ++ (linked_at (program (hidden own_putchar ∷ []) ∷ putting ∷ []) (1 ∷ []) ++ (linked_at (object_putchar ∷ putting ∷ []) (1 ∷ []) ++ linked_at (putting ∷ object_putchar ∷ []) (1 ∷ []))))
    ≡ Exit 97 (codes "a") ∷ Running [] ∷ Exit 98 [] ∷ Exit 97 (codes "a") ∷ Exit 97 (codes "a") ∷ Exit 97 (codes "a") ∷ []
host_rows = refl

-- kinds that differ are undefined before a unit is asked for: int f(unsigned x) { return 2; } and int f(); int main(void) { return f(1); }, and f(1u)
abbrev loose : Exp → Program
loose e = program (declared (codes "f") (FuncType int NoTypes false false) ∷ main_of (local (codes "t") int ∷ []) [] (stmts_of (call_to 0 0 (e ∷ []) ∷ return (var 0) ∷ [])) ∷ [])

abbrev unsigned_parameter : Program
unsigned_parameter = program (function (int_from (MoreTypes (IntType kind.UInt) NoTypes)) (codes "x" ∷ []) (codes "f") (local (codes "x") (IntType kind.UInt) ∷ []) [] (stmts_of (return (number 2) ∷ [])) ∷ [])

kind_rows : linked_at (loose (number 1) ∷ unsigned_parameter ∷ []) (1 ∷ []) ++ linked_at (loose (Const kind.UInt 1) ∷ unsigned_parameter ∷ []) (1 ∷ 2 ∷ []) ≡ Undefined [] ∷ Running [] ∷ Exit 2 [] ∷ []
kind_rows = refl

-- pointers to functions: int f(void) { return 6; } int main(void) { int (*p)(void) = &f; if (p == &f) return p(); return 0; }; and p = 0; p();
abbrev int_void : Shape
int_void = int_from NoTypes

abbrev pointing : Exp → Program
pointing e = program (
    int_function (codes "f") (return (number 6) ∷ [])
    ∷ main_of (local (codes "p") (pointer_to int_void) ∷ local (codes "t") int ∷ []) [] (stmts_of (
    set 0 e
    ∷ If (Bin op.Eq (var 0) (AddrOf (Place (Global 0) Here))) (stmts_of (Do (Call (Some (at 1)) (Through (var 0)) []) ∷ return (var 1) ∷ [])) (stmts_of [])
    ∷ Do (Call (Some (at 1)) (Through (var 0)) [])
    ∷ return (number 0)
    ∷ []))
    ∷ [])

pointer_rows : outcomes (pointing (AddrOf (Place (Global 0) Here))) (2 ∷ []) ++ outcomes (pointing (to (pointer_to int_void) (number 0))) (2 ∷ []) ≡ Exit 6 [] ∷ Undefined [] ∷ []
pointer_rows = refl

-- an object that no unit defines has a place, but nothing is there: extern int x[]; int *p(void) { return x; }
-- int main(void) { p(); return 3; }, { return *p(); }, { return p() == 0; }; the same with int x[2] in another unit
abbrev unknown_array : Shape
unknown_array = ArrayType unqualified int None

abbrev dangling : Exp → Program
dangling e = program (
    declared (codes "x") unknown_array
    ∷ function (FuncType (pointer_to int) NoTypes true false) [] (codes "p") [] [] (stmts_of (return (StartOf (Place (Global 0) Here)) ∷ []))
    ∷ main_of (local (codes "t") (pointer_to int) ∷ []) [] (stmts_of (call_to 0 1 [] ∷ return e ∷ []))
    ∷ [])

abbrev array_unit : Program
array_unit = program (record { name = codes "x"; type = Some (ArrayType unqualified int (Some 2)); internal = false; definition = Zeros } ∷ [])

abbrev is_null : Exp
is_null = Bin op.Eq (var 0) (to (pointer_to int) (number 0))

abbrev second_element : Exp
second_element = Value (Place (Global 0) (Index (number 1) Here))

missing_rows : outcomes (dangling (number 3)) (2 ∷ []) ++ (outcomes (dangling (Value (pointed_by (var 0)))) (2 ∷ []) ++ (outcomes (dangling is_null) (2 ∷ []) ++ (linked_at (dangling is_null ∷ array_unit ∷ []) (2 ∷ []) ++ linked_at (array_unit ∷ dangling second_element ∷ []) (2 ∷ []))))
    ≡ Exit 3 [] ∷ Undefined [] ∷ Undefined [] ∷ Exit 0 [] ∷ Exit 0 [] ∷ []
missing_rows = refl

-- units spent, and whether the input's end was found
abbrev reading : Program
reading = program (declared (codes "getchar") (int_from NoTypes) ∷ main_of (local (codes "c") int ∷ []) [] (stmts_of (call_to 0 0 [] ∷ return (var 0) ∷ [])) ∷ [])

reading_rows : map (RunCil (reading ∷ []) (lp64 false) (codes "p" ∷ []) (codes "h")) (1 ∷ []) ++ map (RunCil (reading ∷ []) (lp64 false) (codes "p" ∷ []) []) (1 ∷ []) ≡ Exit 104 [] ∷ Exit 255 [] ∷ []
reading_rows = refl

end_of_input_rows : FindsEnd (reading ∷ []) (lp64 false) (codes "p" ∷ []) (codes "h") 1 ∷ FindsEnd (reading ∷ []) (lp64 false) (codes "p" ∷ []) [] 1 ∷ FindsEnd (reading ∷ []) (lp64 false) (codes "p" ∷ []) [] 0 ∷ [] ≡ false ∷ true ∷ false ∷ []
end_of_input_rows = refl

spent_rows : map (UnitsSpent (first_unit ∷ second_unit ∷ third_unit ∷ []) (lp64 false) (codes "p" ∷ []) []) (0 ∷ 2 ∷ 3 ∷ 10000000 ∷ []) ++ map (UnitsSpent [] (lp64 false) (codes "p" ∷ []) []) (7 ∷ []) ≡ 0 ∷ 2 ∷ 3 ∷ 3 ∷ 0 ∷ []
spent_rows = refl

-- tentative definitions that are common are one object, which has the greatest of all sizes, and the value of another definition wherever that stands; where they are not common the first definition counts
-- int x[2];, and int x[3]; int main(void) { return x[i]; }; the same with int x[2] = { 5, 6 };
abbrev array : ℕ → Definition → GlobalDecl
array n d = record { name = codes "x"; type = Some (ArrayType unqualified int (Some n)); internal = false; definition = d }

abbrev five_six : Program
five_six = program (array 2 (Image (element 0 (pos 5) ∷ element 1 (pos 6) ∷ [])) ∷ [])

abbrev giving : ℕ → Program
giving i = program (array 3 Zeros ∷ main_of [] [] (stmts_of (return (Value (Place (Global 0) (Index (number i) Here))) ∷ [])) ∷ [])

abbrev run_as : Bool → List Program → Outcome
run_as common programs = RunCil programs (lp64 common) (codes "p" ∷ []) [] 2

array_rows : run_as true (array_unit ∷ giving 2 ∷ []) ∷ run_as false (array_unit ∷ giving 2 ∷ []) ∷ run_as true (five_six ∷ giving 1 ∷ []) ∷ run_as true (five_six ∷ giving 2 ∷ []) ∷ run_as true (giving 0 ∷ five_six ∷ []) ∷ run_as true (giving 2 ∷ five_six ∷ []) ∷ []
    ≡ Exit 0 [] ∷ Undefined [] ∷ Exit 6 [] ∷ Exit 0 [] ∷ Exit 5 [] ∷ Exit 0 [] ∷ []
array_rows = refl

-- int n = 7;, and int n; int main(void) { return n; }; the same in the other order, and alone
abbrev seven : Program
seven = program (object false (codes "n") (pos 7) ∷ [])

abbrev giving_n : Program
giving_n = program (record { name = codes "n"; type = Some int; internal = false; definition = Zeros } ∷ main_of [] [] (stmts_of (return (global 0) ∷ [])) ∷ [])

value_rows : run_as true (seven ∷ giving_n ∷ []) ∷ run_as true (giving_n ∷ seven ∷ []) ∷ run_as true (giving_n ∷ []) ∷ run_as false (giving_n ∷ []) ∷ [] ≡ Exit 7 [] ∷ Exit 7 [] ∷ Exit 0 [] ∷ Exit 0 [] ∷ []
value_rows = refl

-- a function's body counts before a tentative definition of its name: int f;, and int f(void) { return 6; } int main(void) { return f(); }
abbrev object_f : Program
object_f = program (record { name = codes "f"; type = Some int; internal = false; definition = Zeros } ∷ [])

abbrev calling_f : Program
calling_f = program (int_function (codes "f") (return (number 6) ∷ []) ∷ main_of (local (codes "t") int ∷ []) [] (stmts_of (call_to 0 0 [] ∷ return (var 0) ∷ [])) ∷ [])

body_rows : run_as true (object_f ∷ calling_f ∷ []) ∷ run_as false (object_f ∷ calling_f ∷ []) ∷ [] ≡ Exit 6 [] ∷ Undefined [] ∷ []
body_rows = refl

all_are_programs : map fits (first_unit ∷ second_unit ∷ third_unit ∷ no_word ∷ unprototyped ∷ again ∷ nothing_given (call 0 []) (return (number 3)) ∷ putting ∷ program (own_putchar ∷ []) ∷ program (hidden own_putchar ∷ []) ∷ loose (number 1) ∷ unsigned_parameter ∷ pointing (to (pointer_to int_void) (number 0)) ∷ dangling is_null ∷ array_unit ∷ dangling second_element ∷ reading ∷ five_six ∷ giving 2 ∷ seven ∷ giving_n ∷ object_f ∷ calling_f ∷ []) ≡ replicate 23 true
all_are_programs = refl
