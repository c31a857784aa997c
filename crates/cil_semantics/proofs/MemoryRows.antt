-- Device: worked rows of structs, unions, arrays and pointers. Above each stands the C that is lowered to it.
use Rattle.std.proofs.Common.{◌≡◌, ℕ, true, false, List, [], ◌∷◌, ◌++◌, Some, None, refl}
use Rattle.std.specs.Prelude.{pos, codes, map, replicate}
use Rattle.cil_base.specs.declared.constants.Constant.TheVariants as constant
use Rattle.cil_base.specs.declared.kinds.Abi.TheVariants.{Lp64}
use Rattle.cil_base.specs.declared.kinds.IntKind.TheVariants as kind
use Rattle.cil_base.specs.declared.operators.BinOp.TheVariants as op
use Rattle.cil_base.specs.declared.runs.Outcome.TheVariants.{Exit, Running, Undefined}
use Rattle.type_graph.specs.declared.aggregates.AggKind.TheVariants.{Struct, Union}
use Rattle.type_graph.specs.declared.aggregates.Member.{Member}
use Rattle.type_graph.specs.declared.nodes.QualType.{QualType}
use Rattle.type_graph.specs.declared.nodes.Node.TheVariants.{Int, Ptr, Array, Agg}
use Rattle.type_graph.specs.Shapes.{Shape, VoidType, IntType, ArrayType, FuncType, AggType, NoTypes, MoreTypes, shape}
use Rattle.type_graph.specs.Layouts.{agg_layout}
use Rattle.type_graph.specs.Arena.{Graph}
use Rattle.cil_tree.specs.Tree.{Exp, Const, Value, Bin, AddrOf, StartOf, Global, Var, At, Here, Field, Index, Lval, Place, Set, Stmt, Do, If, Goto, Label, Done, Zeros, Image, ToField, GlobalDecl, Program}
use Rattle.cil_tree.specs.Typing.{unqualified, pointer_to}
use Rattle.cil_semantics.proofs.Samples.{int, fits, local, function, main_of, declared, number, at, var, pointed_by, to, sum, set, call, call_to, return, stmts_of, outcomes}

-- nodes: 0 char, 1 int, 2 struct s, 3 struct node, 4 struct node *, 5 int *, 6 unsigned long, 7 unsigned char, 8 unsigned char [8]
abbrev plain : ℕ → QualType
plain t = record { quals = unqualified; of = record { 0 = t } }

abbrev member : ℕ → Member
member t = record { name = record { 0 = 0 }; anonymous = false; ty = plain t; value = pos 0 }

-- struct s { char c; int n; }; struct node { struct node *next; int v; }; union u { int *p; unsigned long n; unsigned char b[8]; };
abbrev graph : Graph
graph = record {
  abi = Lp64;
  nodes = Int kind.Char ∷ Int kind.Int ∷ Agg (record { 0 = 0 }) ∷ Agg (record { 0 = 1 }) ∷ Ptr (plain 3) ∷ Ptr (plain 1) ∷ Int kind.ULong ∷ Int kind.UChar ∷ Array (plain 7) (Some 8) ∷ Agg (record { 0 = 2 }) ∷ [];
  aggs =
      record { kind = Struct; tag = None; members = Some (member 0 ∷ member 1 ∷ []) }
      ∷ record { kind = Struct; tag = None; members = Some (member 4 ∷ member 1 ∷ []) }
      ∷ record { kind = Union; tag = None; members = Some (member 5 ∷ member 6 ∷ member 8 ∷ []) }
      ∷ [];
  completed = record { 0 = 0 } ∷ record { 0 = 1 } ∷ record { 0 = 2 } ∷ [];
}

abbrev program : List GlobalDecl → Program
program globals = record { graph = graph; names = []; globals = globals }

abbrev pair : Shape
pair = AggType 0

abbrev node : Shape
node = AggType 1

abbrev either : Shape
either = AggType 2

abbrev zero_object : List ℕ → Shape → GlobalDecl
zero_object name s = record { name = name; type = Some s; internal = false; definition = Zeros }

abbrev field : ℕ → ℕ → Lval
field n k = Place (Var n) (Field k Here)

abbrev global_field : ℕ → ℕ → Lval
global_field n k = Place (Global n) (Field k Here)

abbrev put : Lval → Exp → Stmt
put p e = Do (Set p e)

abbrev char : Exp → Exp
char e = to (IntType kind.Char) e

-- struct s a, b; int main(void) { a.c = 1; a.n = 70000; b = a; b.c = 2; return a.c * 100 + b.c * 10 + (b.n == 70000); }
abbrev copy : Program
copy = program (
    zero_object (codes "a") pair
    ∷ zero_object (codes "b") pair
    ∷ main_of [] [] (stmts_of (
    put (global_field 0 0) (char (number 1))
    ∷ put (global_field 0 1) (number 70000)
    ∷ put (Place (Global 1) Here) (Value (Place (Global 0) Here))
    ∷ put (global_field 1 0) (char (number 2))
    ∷ return (sum (sum (Bin op.Mul (to int (Value (global_field 0 0))) (number 100)) (Bin op.Mul (to int (Value (global_field 1 0))) (number 10))) (Bin op.Eq (Value (global_field 1 1)) (number 70000)))
    ∷ []))
    ∷ [])

copy_rows : outcomes copy (1 ∷ []) ≡ Exit 121 [] ∷ []
unfolding shape agg_layout
copy_rows = refl

-- struct s f(struct s x) { x.n = x.n + 1; return x; } int main(void) { struct s a; a.n = 4; a = f(a); return a.n * 10 + READ; }, where READ is 0, or a.c, which is Unknown
abbrev passing : Exp → Program
passing e = program (
    function (FuncType pair (MoreTypes pair NoTypes) true false) (codes "x" ∷ []) (codes "f") (local (codes "x") pair ∷ []) [] (stmts_of (
    put (field 0 1) (sum (Value (field 0 1)) (number 1))
    ∷ return (var 0)
    ∷ []))
    ∷ main_of (local (codes "a") pair ∷ []) [] (stmts_of (
    put (field 0 1) (number 4)
    ∷ call_to 0 0 (var 0 ∷ [])
    ∷ return (sum (Bin op.Mul (Value (field 0 1)) (number 10)) e)
    ∷ []))
    ∷ [])

passing_rows : outcomes (passing (number 0)) (1 ∷ 2 ∷ []) ++ outcomes (passing (to int (Value (field 0 0)))) (2 ∷ []) ≡ Running [] ∷ Exit 50 [] ∷ Undefined [] ∷ []
unfolding shape agg_layout
passing_rows = refl

-- int a[3]; int main(void) { int *p, *q; p = a; q = p + 3; return E; }, where E is q - p, *(q - 1), *q, (q + 1) == q, p < q, or &p == &q of two other objects
abbrev three : Shape
three = ArrayType unqualified int (Some 3)

abbrev moving : Exp → Program
moving e = program (
    zero_object (codes "a") three
    ∷ main_of (local (codes "p") (pointer_to int) ∷ local (codes "q") (pointer_to int) ∷ []) [] (stmts_of (
    set 0 (StartOf (Place (Global 0) Here))
    ∷ set 1 (sum (var 0) (number 3))
    ∷ return e
    ∷ []))
    ∷ [])

moving_rows : map (λ e. outcomes (moving e) (1 ∷ [])) (
    to int (Bin op.Sub (var 1) (var 0))
    ∷ Value (pointed_by (Bin op.Sub (var 1) (number 1)))
    ∷ Value (pointed_by (var 1))
    ∷ Bin op.Eq (sum (var 1) (number 1)) (var 1)
    ∷ Bin op.Lt (var 0) (var 1)
    ∷ Bin op.Eq (AddrOf (at 0)) (AddrOf (at 1))
    ∷ [])
    ≡ (Exit 3 [] ∷ []) ∷ (Exit 0 [] ∷ []) ∷ (Undefined [] ∷ []) ∷ (Undefined [] ∷ []) ∷ (Exit 1 [] ∷ []) ∷ (Exit 0 [] ∷ []) ∷ []
moving_rows = refl

-- int *f(void) { int x; x = 1; return &x; } int main(void) { int *p; p = f(); return E; }: a pointer to what is dead is copied, and not used
abbrev dead : Exp → Program
dead e = program (
    function (FuncType (pointer_to int) NoTypes true false) [] (codes "f") (local (codes "x") int ∷ []) [] (stmts_of (set 0 (number 1) ∷ return (AddrOf (at 0)) ∷ []))
    ∷ main_of (local (codes "p") (pointer_to int) ∷ local (codes "q") (pointer_to int) ∷ []) [] (stmts_of (call_to 0 0 [] ∷ set 1 (var 0) ∷ return e ∷ []))
    ∷ [])

dead_rows : map (λ e. outcomes (dead e) (2 ∷ [])) (number 1 ∷ Value (pointed_by (var 1)) ∷ Bin op.Eq (var 1) (to (pointer_to int) (number 0)) ∷ [])
    ≡ (Exit 1 [] ∷ []) ∷ (Undefined [] ∷ []) ∷ (Undefined [] ∷ []) ∷ []
dead_rows = refl

-- void *malloc(unsigned long); void free(void *); int main(void) { int *p, r; p = (int *) malloc(4); *p = 7; r = *p; free(p); return r; }, { .. return *p; }
abbrev void_pointer : Shape
void_pointer = pointer_to VoidType

abbrev allocating : Exp → Program
allocating e = program (
    declared (codes "malloc") (FuncType void_pointer (MoreTypes (IntType kind.ULong) NoTypes) true false)
    ∷ declared (codes "free") (FuncType VoidType (MoreTypes void_pointer NoTypes) true false)
    ∷ main_of (local (codes "t") void_pointer ∷ local (codes "p") (pointer_to int) ∷ local (codes "r") int ∷ []) [] (stmts_of (
    call_to 0 0 (to (IntType kind.ULong) (number 4) ∷ [])
    ∷ set 1 (to (pointer_to int) (var 0))
    ∷ put (pointed_by (var 1)) (number 7)
    ∷ set 2 (Value (pointed_by (var 1)))
    ∷ call 1 (to void_pointer (var 1) ∷ [])
    ∷ return e
    ∷ []))
    ∷ [])

allocating_rows : outcomes (allocating (var 2)) (1 ∷ []) ++ outcomes (allocating (Value (pointed_by (var 1)))) (1 ∷ []) ≡ Exit 7 [] ∷ Undefined [] ∷ []
allocating_rows = refl

-- a pointer in an integer type of its size stays one, which no operator takes; in a narrower type it is Unknown
-- int main(void) { int x = 5; unsigned long u; u = (unsigned long) &x; return E; }, where E is *(int *) u, u == 0, or (int) u; and for null, u == 0
abbrev held : Exp → Exp → Program
held e f = program (main_of (local (codes "x") int ∷ local (codes "u") (IntType kind.ULong) ∷ []) [] (stmts_of (
    set 0 (number 5)
    ∷ set 1 (to (IntType kind.ULong) e)
    ∷ return f
    ∷ [])) ∷ [])

abbrev is_zero : Exp
is_zero = Bin op.Eq (var 1) (Const kind.ULong 0)

held_rows : outcomes (held (AddrOf (at 0)) (Value (pointed_by (to (pointer_to int) (var 1))))) (1 ∷ []) ++ (outcomes (held (AddrOf (at 0)) is_zero) (1 ∷ []) ++ (outcomes (held (AddrOf (at 0)) (to int (var 1))) (1 ∷ []) ++ outcomes (held (to (pointer_to int) (number 0)) is_zero) (1 ∷ [])))
    ≡ Exit 5 [] ∷ Undefined [] ∷ Undefined [] ∷ Exit 1 [] ∷ []
held_rows = refl

-- a pointer is copied byte by byte: int main(void) { int x = 9; union u a, b; int i = 0; a.p = &x; again: b.b[i] = a.b[i]; i = i + 1; if (i < LAST) goto again; return *b.p; }
abbrev byte : ℕ → Lval
byte n = Place (Var n) (Field 2 (Index (var 3) Here))

abbrev bytewise : ℕ → Program
bytewise last = program (main_of (local (codes "x") int ∷ local (codes "a") either ∷ local (codes "b") either ∷ local (codes "i") int ∷ []) (codes "again" ∷ []) (stmts_of (
    set 0 (number 9)
    ∷ set 3 (number 0)
    ∷ put (field 1 0) (AddrOf (at 0))
    ∷ Label 0
    ∷ put (byte 2) (Value (byte 1))
    ∷ set 3 (sum (var 3) (number 1))
    ∷ If (Bin op.Lt (var 3) (number last)) (stmts_of (Goto 0 ∷ [])) Done
    ∷ return (Value (pointed_by (Value (field 2 0))))
    ∷ [])) ∷ [])

bytewise_rows : outcomes (bytewise 8) (8 ∷ []) ++ outcomes (bytewise 7) (8 ∷ []) ≡ Exit 9 [] ∷ Undefined [] ∷ []
unfolding shape agg_layout
bytewise_rows = refl

-- struct node a = { &b, 3 }, b = { 0, 4 }; int main(void) { struct node *p = &a; int n = 0; again: n = n * 10 + (*p).v; p = (*p).next; if (p) goto again; return n; }
abbrev list : Program
list = program (
    record { name = codes "a"; type = Some node; internal = false; definition = Image (record { path = ToField 0 ∷ []; value = constant.Address (record { 0 = 1 }) (pos 0) } ∷ record { path = ToField 1 ∷ []; value = constant.Int kind.Int (pos 3) } ∷ []) }
    ∷ record { name = codes "b"; type = Some node; internal = false; definition = Image (record { path = ToField 1 ∷ []; value = constant.Int kind.Int (pos 4) } ∷ []) }
    ∷ main_of (local (codes "p") (pointer_to node) ∷ local (codes "n") int ∷ []) (codes "again" ∷ []) (stmts_of (
    set 0 (AddrOf (Place (Global 0) Here))
    ∷ set 1 (number 0)
    ∷ Label 0
    ∷ set 1 (sum (Bin op.Mul (var 1) (number 10)) (Value (Place (At (var 0)) (Field 1 Here))))
    ∷ set 0 (Value (Place (At (var 0)) (Field 0 Here)))
    ∷ If (var 0) (stmts_of (Goto 0 ∷ [])) Done
    ∷ return (var 1)
    ∷ []))
    ∷ [])

list_rows : outcomes list (1 ∷ 2 ∷ []) ≡ Running [] ∷ Exit 34 [] ∷ []
unfolding shape agg_layout
list_rows = refl

-- & * e is e, for null too; a member of what is null is undefined: int main(void) { struct node *p = 0; return E; }, where E is &*p == 0, or &(*p).v == 0
abbrev null : Exp → Program
null e = program (main_of (local (codes "p") (pointer_to node) ∷ []) [] (stmts_of (set 0 (to (pointer_to node) (number 0)) ∷ return e ∷ [])) ∷ [])

null_rows : outcomes (null (Bin op.Eq (AddrOf (pointed_by (var 0))) (to (pointer_to node) (number 0)))) (1 ∷ []) ++ outcomes (null (Bin op.Eq (AddrOf (Place (At (var 0)) (Field 1 Here))) (to (pointer_to int) (number 0)))) (1 ∷ [])
    ≡ Exit 1 [] ∷ Undefined [] ∷ []
unfolding shape agg_layout
null_rows = refl

all_are_programs : map fits (copy ∷ passing (number 0) ∷ moving (number 0) ∷ dead (number 1) ∷ allocating (var 2) ∷ held (AddrOf (at 0)) is_zero ∷ bytewise 8 ∷ list ∷ null (number 0) ∷ []) ≡ replicate 9 true
unfolding shape agg_layout
all_are_programs = refl
