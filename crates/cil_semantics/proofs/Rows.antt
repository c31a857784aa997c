-- Device: worked rows: what sample programs do at some bounds. Above each stands the C that is lowered to it.
use Rattle.std.proofs.Common.{◌≡◌, ℕ, true, false, List, [], ◌∷◌, ◌++◌, Some, refl}
use Rattle.std.specs.Prelude.{pos, codes, map, replicate}
use Rattle.cil_base.specs.declared.constants.Constant.TheVariants as constant
use Rattle.cil_base.specs.declared.kinds.IntKind.TheVariants as kind
use Rattle.cil_base.specs.declared.operators.BinOp.TheVariants as op
use Rattle.cil_base.specs.declared.operators.UnOp.TheVariants as unop
use Rattle.cil_base.specs.declared.runs.Outcome.TheVariants.{Exit, Running, Undefined}
use Rattle.type_graph.specs.Shapes.{Shape, VoidType, IntType, ArrayType, FuncType, NoTypes, MoreTypes}
use Rattle.cil_tree.specs.Tree.{Exp, Const, Value, Un, Bin, AddrOf, Global, Var, Here, Index, Lval, Place, Set, Zero, Stmt, Do, If, Switch, Loop, Block, Label, Case, Goto, Done, Item, Image, Program}
use Rattle.cil_tree.specs.Typing.{unqualified, pointer_to}
use Rattle.cil_semantics.specs.Runs.{RunCil}
use Rattle.cil_semantics.proofs.Samples.{int, program, fits, local, function, int_from, main_of, declared, putchar, number, at, var, pointed_by, to, sum, set, call, call_to, return, stmts_of, unless, element, outcomes}
use Rattle.cil_semantics.specs.Modes.{mode_of}

-- int main(void) { return 2 + 3; }
abbrev sum_program : Program
sum_program = program (main_of [] [] (stmts_of (return (sum (number 2) (number 3)) ∷ [])) ∷ [])

sum_rows : outcomes sum_program (0 ∷ 1 ∷ 10000000 ∷ []) ≡ Running [] ∷ Exit 5 [] ∷ Exit 5 [] ∷ []
sum_rows = refl

-- int main(void) { return 2147483647 + 1; }
abbrev overflow : Program
overflow = program (main_of [] [] (stmts_of (return (sum (number 2147483647) (number 1)) ∷ [])) ∷ [])

overflow_rows : outcomes overflow (0 ∷ 1 ∷ []) ≡ Running [] ∷ Undefined [] ∷ []
overflow_rows = refl

-- int main(void) { unsigned char c = 255; return (c + 1) == 256; }
abbrev promotion : Program
promotion = program (main_of (local (codes "c") (IntType kind.UChar) ∷ []) [] (stmts_of (
    set 0 (to (IntType kind.UChar) (number 255))
    ∷ return (Bin op.Eq (sum (to int (var 0)) (number 1)) (number 256))
    ∷ [])) ∷ [])

promotion_rows : outcomes promotion (1 ∷ []) ≡ Exit 1 [] ∷ []
promotion_rows = refl

-- int f(int *p) { *p = 5; return *p + 1; }
-- int main(void) { int i = 0, a[2] = {7, 7}; a[i] = i++ + f(&i); return a[0] * 10 + a[1] + i; }
abbrev pair : Shape
pair = ArrayType unqualified int (Some 2)

abbrev part : ℕ → Exp → Lval
part n i = Place (Var n) (Index i Here)

abbrev order : Program
order = program (
    function (int_from (MoreTypes (pointer_to int) NoTypes)) (codes "p" ∷ []) (codes "f") (local (codes "p") (pointer_to int) ∷ []) [] (stmts_of (
    Do (Set (pointed_by (var 0)) (number 5))
    ∷ return (sum (Value (pointed_by (var 0))) (number 1))
    ∷ []))
    ∷ main_of (local (codes "i") int ∷ local (codes "a") pair ∷ local (codes "t") (pointer_to int) ∷ local (codes "u") int ∷ local (codes "v") int ∷ []) [] (stmts_of (
    set 0 (number 0)
    ∷ Do (Zero (at 1))
    ∷ Do (Set (part 1 (number 0)) (number 7))
    ∷ Do (Set (part 1 (number 1)) (number 7))
    ∷ set 2 (AddrOf (part 1 (var 0)))
    ∷ set 3 (var 0)
    ∷ set 0 (sum (var 3) (number 1))
    ∷ call_to 4 0 (AddrOf (at 0) ∷ [])
    ∷ Do (Set (pointed_by (var 2)) (sum (var 3) (var 4)))
    ∷ return (sum (sum (Bin op.Mul (Value (part 1 (number 0))) (number 10)) (Value (part 1 (number 1)))) (var 0))
    ∷ []))
    ∷ [])

order_rows : outcomes order (1 ∷ 2 ∷ []) ≡ Running [] ∷ Exit 72 [] ∷ []
order_rows = refl

-- int putchar(int);
-- int main(void) { int i; for (i = 0; i < 3; i++) { if (i == 1) continue; putchar('a' + i); } return 0; }
abbrev continuing : Program
continuing = program (
    putchar
    ∷ main_of (local (codes "i") int ∷ []) (codes "l" ∷ []) (stmts_of (
    set 0 (number 0)
    ∷ Loop (stmts_of (
    unless (Bin op.Lt (var 0) (number 3))
    ∷ Block (stmts_of (If (Bin op.Eq (var 0) (number 1)) (stmts_of (Goto 0 ∷ [])) Done ∷ call 0 (sum (number 97) (var 0) ∷ []) ∷ []))
    ∷ Label 0
    ∷ set 0 (sum (var 0) (number 1))
    ∷ []))
    ∷ return (number 0)
    ∷ []))
    ∷ [])

continuing_rows : outcomes continuing (0 ∷ 1 ∷ 2 ∷ 3 ∷ 4 ∷ 5 ∷ 10000000 ∷ [])
    ≡ Running [] ∷ Running [] ∷ Running (codes "a") ∷ Running (codes "a") ∷ Running (codes "ac") ∷ Exit 0 (codes "ac") ∷ Exit 0 (codes "ac") ∷ []
continuing_rows = refl

-- int putchar(int);
-- int main(void) { int n = 2; switch (7 % 4) { case 0: do { putchar('x'); case 3: putchar('x'); case 2: putchar('x'); case 1: putchar('x'); } while (--n > 0); } return 0; }
abbrev put_x : Stmt
put_x = call 0 (number 120 ∷ [])

abbrev case : ℕ → Stmt
case n = Case kind.Int (pos n)

abbrev device : Program
device = program (
    putchar
    ∷ main_of (local (codes "n") int ∷ []) [] (stmts_of (
    set 0 (number 2)
    ∷ Switch (Bin op.Rem (number 7) (number 4)) (stmts_of (
    Block (stmts_of (
    case 0
    ∷ Loop (stmts_of (
    Block (stmts_of (put_x ∷ case 3 ∷ put_x ∷ case 2 ∷ put_x ∷ case 1 ∷ put_x ∷ []))
    ∷ set 0 (Bin op.Sub (var 0) (number 1))
    ∷ unless (Bin op.Gt (var 0) (number 0))
    ∷ []))
    ∷ []))
    ∷ []))
    ∷ return (number 0)
    ∷ []))
    ∷ [])

device_rows : outcomes device (1 ∷ 2 ∷ []) ≡ Running (codes "xxx") ∷ Exit 0 (codes "xxxxxxx") ∷ []
device_rows = refl

-- int main(void) { int k = 0; again: { int x; if (k) return x == 4; x = 4; k = 1; goto again; } }
abbrev back : Program
back = program (main_of (local (codes "k") int ∷ local (codes "x") int ∷ []) (codes "again" ∷ []) (stmts_of (
    set 0 (number 0)
    ∷ Label 0
    ∷ Block (stmts_of (
    If (var 0) (stmts_of (return (Bin op.Eq (var 1) (number 4)) ∷ [])) Done
    ∷ set 1 (number 4)
    ∷ set 0 (number 1)
    ∷ Goto 0
    ∷ []))
    ∷ [])) ∷ [])

back_rows : outcomes back (0 ∷ 1 ∷ 2 ∷ []) ≡ Running [] ∷ Running [] ∷ Exit 1 [] ∷ []
back_rows = refl

-- typedef int T;
-- int main(void) { int r; { int T = 6, x = 7; T * x; r = T * x; } { T * x = 0; return r + (x == 0); } }
abbrev hiding : Program
hiding = program (main_of (local (codes "r") int ∷ local (codes "T") int ∷ local (codes "x") int ∷ local (codes "x___0") (pointer_to int) ∷ []) [] (stmts_of (
    Block (stmts_of (set 1 (number 6) ∷ set 2 (number 7) ∷ set 0 (Bin op.Mul (var 1) (var 2)) ∷ []))
    ∷ Block (stmts_of (set 3 (to (pointer_to int) (number 0)) ∷ return (sum (var 0) (Bin op.Eq (var 3) (to (pointer_to int) (number 0)))) ∷ []))
    ∷ [])) ∷ [])

hiding_rows : outcomes hiding (1 ∷ []) ≡ Exit 43 [] ∷ []
hiding_rows = refl

-- int a[] = { [2] = 5, 1, [0] = 9 }; char s[3] = "abc";
-- int main(void) { return sizeof a / sizeof a[0] * 10 + a[0] + a[2] + a[3] + (s[2] == 'c'); }
abbrev ulong : Shape
ulong = IntType kind.ULong

abbrev letter : ℕ → ℕ → Item
letter i c = record { path = (element i (pos 0)).path; value = constant.Int kind.Char (pos c) }

abbrev a_part : ℕ → Exp
a_part i = to ulong (Value (Place (Global 0) (Index (number i) Here)))

abbrev images : Program
images = program (
    record { name = codes "a"; type = Some (ArrayType unqualified int (Some 4)); internal = false; definition = Image (element 0 (pos 9) ∷ element 2 (pos 5) ∷ element 3 (pos 1) ∷ []) }
    ∷ record { name = codes "s"; type = Some (ArrayType unqualified (IntType kind.Char) (Some 3)); internal = false; definition = Image (letter 0 97 ∷ letter 1 98 ∷ letter 2 99 ∷ []) }
    ∷ main_of [] [] (stmts_of (
    return (to int (
    sum (sum (sum (sum (Bin op.Mul (Bin op.Div (Const kind.ULong 16) (Const kind.ULong 4)) (to ulong (number 10))) (a_part 0)) (a_part 2)) (a_part 3))
    (to ulong (Bin op.Eq (to int (Value (Place (Global 1) (Index (number 2) Here)))) (number 99)))))
    ∷ []))
    ∷ [])

images_rows : outcomes images (1 ∷ []) ≡ Exit 56 [] ∷ []
images_rows = refl

-- int main(void) { int x = 1; return sizeof(x++) + x; }
abbrev size_of : Program
size_of = program (main_of (local (codes "x") int ∷ []) [] (stmts_of (
    set 0 (number 1)
    ∷ return (to int (sum (Const kind.ULong 4) (to ulong (var 0))))
    ∷ [])) ∷ [])

size_of_rows : outcomes size_of (1 ∷ []) ≡ Exit 5 [] ∷ []
size_of_rows = refl

-- int getchar(void); int putchar(int);
-- int main(void) { int c; while ((c = getchar()) != -1) putchar(c); return 0; }
abbrev copying : Program
copying = program (
    declared (codes "getchar") (int_from NoTypes)
    ∷ putchar
    ∷ main_of (local (codes "c") int ∷ []) [] (stmts_of (
    Loop (stmts_of (
    call_to 0 0 []
    ∷ unless (Bin op.Ne (var 0) (Un unop.Neg (number 1)))
    ∷ call 1 (var 0 ∷ [])
    ∷ []))
    ∷ return (number 0)
    ∷ []))
    ∷ [])

copying_rows : map (RunCil (copying ∷ []) (mode_of copying) (codes "p" ∷ []) (codes "hi\n")) (1 ∷ 2 ∷ 3 ∷ 4 ∷ 5 ∷ [])
    ≡ Running [] ∷ Running (codes "h") ∷ Running (codes "hi") ∷ Running (codes "hi\n") ∷ Exit 0 (codes "hi\n") ∷ []
copying_rows = refl

-- int putchar(int);
-- int main(void) { putchar('a'); return 1 / 0; }
abbrev division : Program
division = program (putchar ∷ main_of [] [] (stmts_of (call 0 (number 97 ∷ []) ∷ return (Bin op.Div (number 1) (number 0)) ∷ [])) ∷ [])

division_rows : outcomes division (1 ∷ []) ≡ Undefined (codes "a") ∷ []
division_rows = refl

-- int main(void) { return 258; }
-- void exit(int); int main(void) { exit(-1); }
-- void abort(void); int main(void) { abort(); }
abbrev status : Program
status = program (main_of [] [] (stmts_of (return (number 258) ∷ [])) ∷ [])

abbrev exiting : Program
exiting = program (declared (codes "exit") (FuncType VoidType (MoreTypes int NoTypes) true false) ∷ main_of [] [] (stmts_of (call 0 (Un unop.Neg (number 1) ∷ []) ∷ [])) ∷ [])

abbrev aborting : Program
aborting = program (declared (codes "abort") (FuncType VoidType NoTypes true false) ∷ main_of [] [] (stmts_of (call 0 [] ∷ [])) ∷ [])

status_rows : outcomes status (1 ∷ []) ++ (outcomes exiting (0 ∷ 1 ∷ []) ++ outcomes aborting (1 ∷ [])) ≡ Exit 2 [] ∷ Running [] ∷ Exit 255 [] ∷ Exit 134 [] ∷ []
status_rows = refl

-- int main(int argc, char **argv) { return argc * 16 + argv[1][0] - 'a'; }
abbrev words_program : Program
words_program = program (
    function (int_from (MoreTypes int (MoreTypes (pointer_to (pointer_to (IntType kind.Char))) NoTypes))) (codes "argc" ∷ codes "argv" ∷ []) (codes "main")
    (local (codes "argc") int ∷ local (codes "argv") (pointer_to (pointer_to (IntType kind.Char))) ∷ []) [] (stmts_of (
    return (Bin op.Sub (sum (Bin op.Mul (var 0) (number 16)) (to int (Value (pointed_by (sum (Value (pointed_by (sum (var 1) (number 1)))) (number 0)))))) (number 97))
    ∷ []))
    ∷ [])

words_rows : map (RunCil (words_program ∷ []) (mode_of words_program) (codes "p" ∷ codes "c" ∷ []) []) (0 ∷ 1 ∷ []) ++ map (RunCil (words_program ∷ []) (mode_of words_program) (codes "p" ∷ []) []) (1 ∷ [])
    ≡ Running [] ∷ Exit 34 [] ∷ Undefined [] ∷ []
words_rows = refl

-- behind the words stands null, and nothing behind that; the words end with a zero byte, and may be written to
-- int main(int argc, char **argv) { return E; }, where E is argv[argc] == 0, argv[argc + 1] == 0, or argv[0][1]; and { argv[0][0] = 9; return argv[0][0]; }
abbrev word : Exp → Exp
word e = Value (pointed_by (sum (var 1) e))

abbrev last_program : List Stmt → Program
last_program xs = program (
    function (int_from (MoreTypes int (MoreTypes (pointer_to (pointer_to (IntType kind.Char))) NoTypes))) (codes "argc" ∷ codes "argv" ∷ []) (codes "main")
    (local (codes "argc") int ∷ local (codes "argv") (pointer_to (pointer_to (IntType kind.Char))) ∷ []) [] (stmts_of xs)
    ∷ [])

abbrev no_word : Exp
no_word = to (pointer_to (IntType kind.Char)) (number 0)

last_rows : map (λ xs. outcomes (last_program xs) (1 ∷ [])) (
    (return (Bin op.Eq (word (var 0)) no_word) ∷ [])
    ∷ (return (Bin op.Eq (word (sum (var 0) (number 1))) no_word) ∷ [])
    ∷ (return (to int (Value (pointed_by (sum (word (number 0)) (number 1))))) ∷ [])
    ∷ (Do (Set (pointed_by (word (number 0))) (to (IntType kind.Char) (number 9))) ∷ return (to int (Value (pointed_by (word (number 0))))) ∷ [])
    ∷ [])
    ≡ (Exit 1 [] ∷ []) ∷ (Undefined [] ∷ []) ∷ (Exit 0 [] ∷ []) ∷ (Exit 9 [] ∷ []) ∷ []
last_rows = refl

-- void *malloc(unsigned long); int main(void) { return malloc(67108865) == 0; }
abbrev void_pointer : Shape
void_pointer = pointer_to VoidType

abbrev limit : Program
limit = program (
    declared (codes "malloc") (FuncType void_pointer (MoreTypes ulong NoTypes) true false)
    ∷ main_of (local (codes "t") void_pointer ∷ []) [] (stmts_of (
    call_to 0 0 (to ulong (number 67108865) ∷ [])
    ∷ return (Bin op.Eq (var 0) (to void_pointer (number 0)))
    ∷ []))
    ∷ [])

limit_rows : outcomes limit (1 ∷ []) ≡ Exit 1 [] ∷ []
limit_rows = refl

-- int main(void) { int a = 0; return (a && 1 / a) + (a ? 1 / a : 6) + (-1 < 1u); }
abbrev short_circuit : Program
short_circuit = program (main_of (local (codes "a") int ∷ local (codes "t") int ∷ local (codes "u") int ∷ []) [] (stmts_of (
    set 0 (number 0)
    ∷ If (var 0) (stmts_of (If (Bin op.Div (number 1) (var 0)) (stmts_of (set 1 (number 1) ∷ [])) (stmts_of (set 1 (number 0) ∷ [])) ∷ [])) (stmts_of (set 1 (number 0) ∷ []))
    ∷ If (var 0) (stmts_of (set 2 (Bin op.Div (number 1) (var 0)) ∷ [])) (stmts_of (set 2 (number 6) ∷ []))
    ∷ return (sum (sum (var 1) (var 2)) (Bin op.Lt (to (IntType kind.UInt) (Un unop.Neg (number 1))) (Const kind.UInt 1)))
    ∷ [])) ∷ [])

short_circuit_rows : outcomes short_circuit (1 ∷ []) ≡ Exit 6 [] ∷ []
short_circuit_rows = refl

-- x + (x = 3), with x equal to 1
abbrev assigned : Program
assigned = program (main_of (local (codes "x") int ∷ local (codes "t") int ∷ []) [] (stmts_of (
    set 0 (number 1) ∷ set 1 (var 0) ∷ set 0 (number 3) ∷ return (sum (var 1) (var 0)) ∷ [])) ∷ [])

assigned_rows : outcomes assigned (1 ∷ []) ≡ Exit 4 [] ∷ []
assigned_rows = refl

all_are_programs : map fits (sum_program ∷ overflow ∷ promotion ∷ order ∷ continuing ∷ device ∷ back ∷ hiding ∷ images ∷ size_of ∷ copying ∷ division ∷ status ∷ exiting ∷ aborting ∷ words_program ∷ limit ∷ short_circuit ∷ assigned ∷ []) ≡ replicate 19 true
all_are_programs = refl

-- int main(void) { int i = 0; while (1) { if (i < 100) ; else break; i = i + 1; } return i; }
abbrev hundred : Program
hundred = program (main_of (local (codes "i") int ∷ []) [] (stmts_of (
    set 0 (number 0) ∷ Loop (stmts_of (unless (Bin op.Lt (var 0) (number 100)) ∷ set 0 (sum (var 0) (number 1)) ∷ [])) ∷ return (var 0) ∷ [])) ∷ [])

hundred_rows : outcomes hundred (101 ∷ 102 ∷ 100000000 ∷ []) ≡ Running [] ∷ Exit 100 [] ∷ Exit 100 [] ∷ []
hundred_rows = refl
