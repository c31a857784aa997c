-- Device: worked rows of control: jumps forward and back, into and out of constructs, and what each spends. Above each stands the C that is lowered to it.
use Rattle.std.proofs.Common.{◌≡◌, ℕ, true, false, List, [], ◌∷◌, refl}
use Rattle.std.specs.Prelude.{pos, codes, map, replicate}
use Rattle.cil_base.specs.declared.kinds.IntKind.TheVariants as kind
use Rattle.cil_base.specs.declared.operators.BinOp.TheVariants as op
use Rattle.cil_base.specs.declared.runs.Outcome.TheVariants.{Exit, Running, Undefined}
use Rattle.type_graph.specs.Shapes.{VoidType, FuncType, NoTypes, MoreTypes}
use Rattle.cil_tree.specs.Tree.{Exp, Bin, Stmt, If, Switch, Loop, Block, Label, Case, Default, Goto, Break, Done, Program}
use Rattle.cil_semantics.proofs.Samples.{int, program, fits, local, function, int_from, main_of, declared, putchar, number, var, sum, set, call, call_to, return, stmts_of, outcomes}

abbrev when : Exp → List Stmt → Stmt
when e xs = If e (stmts_of xs) Done

abbrev is : ℕ → ℕ → Exp
is n k = Bin op.Eq (var n) (number k)

abbrev case : ℕ → Stmt
case n = Case kind.Int (pos n)

abbrev add : ℕ → ℕ → Stmt
add n k = set n (sum (var n) (number k))

-- into a loop: the jump is free, and so is the rest of that turn
-- int main(void) { int i = 1; goto in; while (1) { putchar('a'); in: putchar('b'); i = i + 1; if (i > 3) break; } return i; }
abbrev into_loop : Program
into_loop = program (
    putchar
    ∷ main_of (local (codes "i") int ∷ []) (codes "in" ∷ []) (stmts_of (
    set 0 (number 1)
    ∷ Goto 0
    ∷ Loop (stmts_of (call 0 (number 97 ∷ []) ∷ Label 0 ∷ call 0 (number 98 ∷ []) ∷ add 0 1 ∷ when (Bin op.Gt (var 0) (number 3)) (Break ∷ []) ∷ []))
    ∷ return (var 0)
    ∷ []))
    ∷ [])

into_loop_rows : outcomes into_loop (0 ∷ 1 ∷ 2 ∷ 3 ∷ []) ≡ Running [] ∷ Running (codes "b") ∷ Running (codes "bab") ∷ Exit 4 (codes "babab") ∷ []
into_loop_rows = refl

-- from the first side of an if to the second it is free, and back it spends a unit
-- int main(void) { int n = 0; if (n == 0) { n = n + 1; goto other; back: n = n + 10; } else { other: n = n + 100; if (n < 150) goto back; } return n; }
abbrev sides : Program
sides = program (main_of (local (codes "n") int ∷ []) (codes "back" ∷ codes "other" ∷ []) (stmts_of (
    set 0 (number 0)
    ∷ If (is 0 0) (stmts_of (add 0 1 ∷ Goto 1 ∷ Label 0 ∷ add 0 10 ∷ [])) (stmts_of (Label 1 ∷ add 0 100 ∷ when (Bin op.Lt (var 0) (number 150)) (Goto 0 ∷ []) ∷ []))
    ∷ return (var 0)
    ∷ [])) ∷ [])

sides_rows : outcomes sides (1 ∷ 2 ∷ []) ≡ Running [] ∷ Exit 111 [] ∷ []
sides_rows = refl

-- int main(void) { int r = 0; switch (N) { case 1: r = 1; break; { case 2: r = 2; } switch (r) { case 2: r = 20; default: r = r + 1; } break; default: r = 9; case 7: r = r + 50; } return r; }
abbrev cases : ℕ → Program
cases n = program (main_of (local (codes "r") int ∷ []) [] (stmts_of (
    set 0 (number 0)
    ∷ Switch (number n) (stmts_of (Block (stmts_of (
    case 1 ∷ set 0 (number 1) ∷ Break
    ∷ Block (stmts_of (case 2 ∷ set 0 (number 2) ∷ []))
    ∷ Switch (var 0) (stmts_of (case 2 ∷ set 0 (number 20) ∷ Default ∷ add 0 1 ∷ []))
    ∷ Break
    ∷ Default ∷ set 0 (number 9)
    ∷ case 7 ∷ add 0 50
    ∷ [])) ∷ []))
    ∷ return (var 0)
    ∷ [])) ∷ [])

cases_rows : map (λ n. outcomes (cases n) (1 ∷ [])) (1 ∷ 2 ∷ 7 ∷ 5 ∷ []) ≡ (Exit 1 [] ∷ []) ∷ (Exit 21 [] ∷ []) ∷ (Exit 50 [] ∷ []) ∷ (Exit 59 [] ∷ []) ∷ []
cases_rows = refl

-- a switch without a matching case does nothing: int main(void) { switch (3) { case 1: return 1; } return 2; }
abbrev no_case : Program
no_case = program (main_of [] [] (stmts_of (Switch (number 3) (stmts_of (case 1 ∷ return (number 1) ∷ [])) ∷ return (number 2) ∷ [])) ∷ [])

no_case_rows : outcomes no_case (1 ∷ []) ≡ Exit 2 [] ∷ []
no_case_rows = refl

-- out of two loops: int main(void) { int i = 0, j; while (1) { j = 0; while (1) { if (j == 2) goto next; if (i == 2) goto out; j = j + 1; } next: i = i + 1; } out: return i * 10 + j; }
abbrev out_of_loops : Program
out_of_loops = program (main_of (local (codes "i") int ∷ local (codes "j") int ∷ []) (codes "next" ∷ codes "out" ∷ []) (stmts_of (
    set 0 (number 0)
    ∷ Loop (stmts_of (
    set 1 (number 0)
    ∷ Loop (stmts_of (when (is 1 2) (Goto 0 ∷ []) ∷ when (is 0 2) (Goto 1 ∷ []) ∷ add 1 1 ∷ []))
    ∷ Label 0
    ∷ add 0 1
    ∷ []))
    ∷ Label 1
    ∷ return (sum (Bin op.Mul (var 0) (number 10)) (var 1))
    ∷ [])) ∷ [])

out_of_loops_rows : outcomes out_of_loops (10 ∷ 11 ∷ []) ≡ Running [] ∷ Exit 20 [] ∷ []
out_of_loops_rows = refl

-- back within a turn: int main(void) { int k = 0; while (1) { again: k = k + 1; if (k < 4) goto again; break; } return k; }
abbrev within_turn : Program
within_turn = program (main_of (local (codes "k") int ∷ []) (codes "again" ∷ []) (stmts_of (
    set 0 (number 0)
    ∷ Loop (stmts_of (Label 0 ∷ add 0 1 ∷ when (Bin op.Lt (var 0) (number 4)) (Goto 0 ∷ []) ∷ Break ∷ []))
    ∷ return (var 0)
    ∷ [])) ∷ [])

within_turn_rows : outcomes within_turn (4 ∷ 5 ∷ []) ≡ Running [] ∷ Exit 4 [] ∷ []
within_turn_rows = refl

-- back into a loop that was left: int main(void) { int k = 0; while (1) { k = k + 1; if (k > 1) break; in: k = k + 10; } if (k < 30) goto in; return k; }
abbrev into_left_loop : Program
into_left_loop = program (main_of (local (codes "k") int ∷ []) (codes "in" ∷ []) (stmts_of (
    set 0 (number 0)
    ∷ Loop (stmts_of (add 0 1 ∷ when (Bin op.Gt (var 0) (number 1)) (Break ∷ []) ∷ Label 0 ∷ add 0 10 ∷ []))
    ∷ when (Bin op.Lt (var 0) (number 30)) (Goto 0 ∷ [])
    ∷ return (var 0)
    ∷ [])) ∷ [])

into_left_loop_rows : outcomes into_left_loop (6 ∷ 7 ∷ []) ≡ Running [] ∷ Exit 34 [] ∷ []
into_left_loop_rows = refl

-- into a switch, whose break ends it: int main(void) { int r = 0; goto in; switch (r) { case 0: r = 1; in: r = r + 5; break; case 1: r = 100; } return r; }
abbrev into_switch : Program
into_switch = program (main_of (local (codes "r") int ∷ []) (codes "in" ∷ []) (stmts_of (
    set 0 (number 0)
    ∷ Goto 0
    ∷ Switch (var 0) (stmts_of (case 0 ∷ set 0 (number 1) ∷ Label 0 ∷ add 0 5 ∷ Break ∷ case 1 ∷ set 0 (number 100) ∷ []))
    ∷ return (var 0)
    ∷ [])) ∷ [])

into_switch_rows : outcomes into_switch (1 ∷ []) ≡ Exit 5 [] ∷ []
into_switch_rows = refl

-- each activation has its own objects: int f(int n) { int t; if (n) { t = f(n - 1); return t + n; } return 0; } int main(void) { return f(10); }
abbrev recursion : Program
recursion = program (
    function (int_from (MoreTypes int NoTypes)) (codes "n" ∷ []) (codes "f") (local (codes "n") int ∷ local (codes "t") int ∷ []) [] (stmts_of (
    when (var 0) (call_to 1 0 (Bin op.Sub (var 0) (number 1) ∷ []) ∷ return (sum (var 1) (var 0)) ∷ [])
    ∷ return (number 0)
    ∷ []))
    ∷ main_of (local (codes "t") int ∷ []) [] (stmts_of (call_to 0 0 (number 10 ∷ []) ∷ return (var 0) ∷ []))
    ∷ [])

recursion_rows : outcomes recursion (11 ∷ 12 ∷ []) ≡ Running [] ∷ Exit 55 [] ∷ []
recursion_rows = refl

-- Unknown is copied, but neither tested nor returned from main: int main(void) { int x, y; y = x; return 3; }, { .. if (y) return 1; return 2; }, { .. switch (y) { } return 2; }, { .. return y; }
abbrev unknown : List Stmt → Program
unknown xs = program (main_of (local (codes "x") int ∷ local (codes "y") int ∷ []) [] (stmts_of (set 1 (var 0) ∷ xs)) ∷ [])

unknown_rows : map (λ xs. outcomes (unknown xs) (1 ∷ [])) ((return (number 3) ∷ []) ∷ (when (var 1) (return (number 1) ∷ []) ∷ return (number 2) ∷ []) ∷ (Switch (var 1) Done ∷ return (number 2) ∷ []) ∷ (return (var 1) ∷ []) ∷ [])
    ≡ (Exit 3 [] ∷ []) ∷ (Undefined [] ∷ []) ∷ (Undefined [] ∷ []) ∷ (Undefined [] ∷ []) ∷ []
unknown_rows = refl

-- exit ends a run from within: void f(void) { while (1) { putchar('x'); exit(7); } } int main(void) { f(); putchar('y'); }
abbrev from_within : Program
from_within = program (
    putchar
    ∷ declared (codes "exit") (FuncType VoidType (MoreTypes int NoTypes) true false)
    ∷ function (FuncType VoidType NoTypes true false) [] (codes "f") [] [] (stmts_of (Loop (stmts_of (call 0 (number 120 ∷ []) ∷ call 1 (number 7 ∷ []) ∷ [])) ∷ []))
    ∷ main_of [] [] (stmts_of (call 2 [] ∷ call 0 (number 121 ∷ []) ∷ []))
    ∷ [])

from_within_rows : outcomes from_within (2 ∷ 3 ∷ []) ≡ Running [] ∷ Exit 7 (codes "x") ∷ []
from_within_rows = refl

all_are_programs : map fits (into_loop ∷ sides ∷ cases 1 ∷ no_case ∷ out_of_loops ∷ within_turn ∷ into_left_loop ∷ into_switch ∷ recursion ∷ unknown (return (var 1) ∷ []) ∷ from_within ∷ []) ≡ replicate 11 true
all_are_programs = refl
