-- Translation units that have one fault first, with its token: of each constraint, excluded form and limit. The tokens were counted by a script.
use Rattle.std.specs.Prelude.{◌≡◌, refl, codes, Some}
use Rattle.cil_base.specs.declared.faults.Fault.TheVariants.{Constraint, Excluded, Limit}
use Rattle.cil_base.specs.declared.faults.Code.TheVariants as code
use Rattle.cil_base.specs.declared.faults.Feature.TheVariants as feature
use Rattle.cil_base.specs.declared.faults.What.TheVariants as limit
use Rattle.cil_base.specs.declared.kinds.Abi.TheVariants.{Ilp32}
use Rattle.c_typing_rows.specs.Text.{first_in, outcome_in, first, outcome}

row_0 : first (codes "int x = 9223372036854775808;") ≡ Some (Constraint code.IntegerRange, 3)
unfolding first outcome
row_0 = refl

row_1 : first (codes "int c = '\\400';") ≡ Some (Constraint code.IntegerRange, 3)
unfolding first outcome
row_1 = refl

row_2 : first (codes "char *s = \"a\" \"\\x100\";") ≡ Some (Constraint code.IntegerRange, 4)
unfolding first outcome
row_2 = refl

row_3 : first (codes "_Static_assert(0, \"\\400\");") ≡ Some (Constraint code.IntegerRange, 4)
unfolding first outcome
row_3 = refl

row_4 : first (codes "int f(void) { return x; }") ≡ Some (Constraint code.Undeclared, 7)
unfolding first outcome
row_4 = refl

row_5 : first (codes "# 12 \"dir/x.h\" 1\nint main(void)\n{ return y; }") ≡ Some (Constraint code.Undeclared, 7)
unfolding first outcome
row_5 = refl

row_6 : first (codes "int f(void) { return x + y; }") ≡ Some (Constraint code.Undeclared, 7)
unfolding first outcome
row_6 = refl

row_7 : first (codes "int f(void) { if (sizeof(enum { Q })) ; return Q; }") ≡ Some (Constraint code.Undeclared, 18)
unfolding first outcome
row_7 = refl

row_8 : first (codes "int f(void) { do { int x; } while (x); return 0; }") ≡ Some (Constraint code.Undeclared, 14)
unfolding first outcome
row_8 = refl

row_9 : first (codes "int f(void) { for (int i = 0; i < 2; i++) ; return i; }") ≡ Some (Constraint code.Undeclared, 22)
unfolding first outcome
row_9 = refl

row_10 : first (codes "int f(void) { goto a; return x; }") ≡ Some (Constraint code.Undeclared, 10)
unfolding first outcome
row_10 = refl

row_11 : first (codes "int x = __builtin_foo();") ≡ Some (Constraint code.Undeclared, 3)
unfolding first outcome
row_11 = refl

row_12 : first (codes "int f(void) { goto a; b: ; return 0; }") ≡ Some (Constraint code.Label, 6)
unfolding first outcome
row_12 = refl

row_13 : first (codes "int f(void) { goto a; goto b; return 0; } int g(void) { return x; }") ≡ Some (Constraint code.Label, 6)
unfolding first outcome
row_13 = refl

row_14 : first (codes "int f(int x) { int x; return 0; }") ≡ Some (Constraint code.Redeclared, 8)
unfolding first outcome
row_14 = refl

row_15 : first (codes "int f(void) { int a; long a; return 0; }") ≡ Some (Constraint code.Redeclared, 10)
unfolding first outcome
row_15 = refl

row_16 : first (codes "int f(void) { a: ; a: ; return 0; }") ≡ Some (Constraint code.Redeclared, 9)
unfolding first outcome
row_16 = refl

row_17 : first (codes "enum { A, A };") ≡ Some (Constraint code.Redeclared, 4)
unfolding first outcome
row_17 = refl

row_18 : first (codes "typedef int T; typedef long T;") ≡ Some (Constraint code.Redeclared, 6)
unfolding first outcome
row_18 = refl

row_19 : first (codes "int f(int a, int a);") ≡ Some (Constraint code.Redeclared, 7)
unfolding first outcome
row_19 = refl

row_20 : first (codes "int f; typedef int f;") ≡ Some (Constraint code.Redeclared, 5)
unfolding first outcome
row_20 = refl

row_21 : first (codes "int A; enum { A };") ≡ Some (Constraint code.Redeclared, 5)
unfolding first outcome
row_21 = refl

row_22 : first (codes "int f; int f(void);") ≡ Some (Constraint code.Redeclared, 4)
unfolding first outcome
row_22 = refl

row_23 : first (codes "struct s { int a; int a; };") ≡ Some (Constraint code.Redeclared, 7)
unfolding first outcome
row_23 = refl

row_24 : first (codes "struct s { int a; struct { int a; }; };") ≡ Some (Constraint code.Redeclared, 9)
unfolding first outcome
row_24 = refl

row_25 : first (codes "void f(void) { int a; static int a; }") ≡ Some (Constraint code.Redeclared, 11)
unfolding first outcome
row_25 = refl

row_26 : first (codes "int x; long x;") ≡ Some (Constraint code.Conflict, 4)
unfolding first outcome
row_26 = refl

row_27 : first (codes "int x; static int x;") ≡ Some (Constraint code.Conflict, 5)
unfolding first outcome
row_27 = refl

row_28 : first (codes "int f(int); int f(long);") ≡ Some (Constraint code.Conflict, 7)
unfolding first outcome
row_28 = refl

row_29 : first (codes "int f(int); int f() { return 0; }") ≡ Some (Constraint code.Conflict, 7)
unfolding first outcome
row_29 = refl

row_30 : first (codes "int f() { return 0; } int f(int);") ≡ Some (Constraint code.Conflict, 10)
unfolding first outcome
row_30 = refl

row_31 : first (codes "int x; void f(void) { extern long x; }") ≡ Some (Constraint code.Conflict, 11)
unfolding first outcome
row_31 = refl

row_32 : first (codes "void *__builtin_memset(void *, int, int);") ≡ Some (Constraint code.Conflict, 2)
unfolding first outcome
row_32 = refl

row_33 : first (codes "int char x;") ≡ Some (Constraint code.Specifiers, 0)
unfolding first outcome
row_33 = refl

row_34 : first (codes "int f(void) { extern static int x; return 0; }") ≡ Some (Constraint code.Specifiers, 6)
unfolding first outcome
row_34 = refl

row_35 : first (codes "struct s { struct t { int a; }; };") ≡ Some (Constraint code.Specifiers, 3)
unfolding first outcome
row_35 = refl

row_36 : first (codes "void f(void) { for (static int i = 0; ; ) ; }") ≡ Some (Constraint code.Specifiers, 8)
unfolding first outcome
row_36 = refl

row_37 : first (codes "int a[const 3];") ≡ Some (Constraint code.Specifiers, 3)
unfolding first outcome
row_37 = refl

row_38 : first (codes "void f(int a[2][static 3]);") ≡ Some (Constraint code.Specifiers, 9)
unfolding first outcome
row_38 = refl

row_39 : first (codes "register int x;") ≡ Some (Constraint code.Specifiers, 0)
unfolding first outcome
row_39 = refl

row_40 : first (codes "auto int x;") ≡ Some (Constraint code.Specifiers, 0)
unfolding first outcome
row_40 = refl

row_41 : first (codes "void f(static int x);") ≡ Some (Constraint code.Specifiers, 3)
unfolding first outcome
row_41 = refl

row_42 : first (codes "void f(void) { static int g(void); }") ≡ Some (Constraint code.Specifiers, 6)
unfolding first outcome
row_42 = refl

row_43 : first (codes "long short x;") ≡ Some (Constraint code.Specifiers, 0)
unfolding first outcome
row_43 = refl

row_44 : first (codes "typedef static int x;") ≡ Some (Constraint code.Specifiers, 0)
unfolding first outcome
row_44 = refl

row_45 : first (codes "struct s { int a; }; union s x;") ≡ Some (Constraint code.Tag, 9)
unfolding first outcome
row_45 = refl

row_46 : first (codes "struct s { int a; }; struct s { int b; };") ≡ Some (Constraint code.Tag, 9)
unfolding first outcome
row_46 = refl

row_47 : first (codes "enum e x;") ≡ Some (Constraint code.Tag, 1)
unfolding first outcome
row_47 = refl

row_48 : first (codes "int f(void) { return sizeof(struct s); }") ≡ Some (Constraint code.Incomplete, 9)
unfolding first outcome
row_48 = refl

row_49 : first (codes "struct s x; int y;") ≡ Some (Constraint code.Incomplete, 2)
unfolding first outcome
row_49 = refl

row_50 : first (codes "static struct s x;") ≡ Some (Constraint code.Incomplete, 3)
unfolding first outcome
row_50 = refl

row_51 : first (codes "void x;") ≡ Some (Constraint code.Incomplete, 1)
unfolding first outcome
row_51 = refl

row_52 : first (codes "int f(void x);") ≡ Some (Constraint code.Incomplete, 4)
unfolding first outcome
row_52 = refl

row_53 : first (codes "int f(void, int);") ≡ Some (Constraint code.Incomplete, 3)
unfolding first outcome
row_53 = refl

row_54 : first (codes "struct s f(void); int g(void) { f(); return 0; }") ≡ Some (Constraint code.Incomplete, 13)
unfolding first outcome
row_54 = refl

row_55 : first (codes "struct s { int a[]; } x;") ≡ Some (Constraint code.Incomplete, 4)
unfolding first outcome
row_55 = refl

row_56 : first (codes "struct s; int f(struct s x) { return 0; }") ≡ Some (Constraint code.Incomplete, 8)
unfolding first outcome
row_56 = refl

row_57 : first (codes "int f(void) { int a[]; return 0; }") ≡ Some (Constraint code.Incomplete, 7)
unfolding first outcome
row_57 = refl

row_58 : first (codes "struct s; struct t { struct s x; };") ≡ Some (Constraint code.Incomplete, 8)
unfolding first outcome
row_58 = refl

row_59 : first (codes "struct s; extern struct s a[3];") ≡ Some (Constraint code.Incomplete, 6)
unfolding first outcome
row_59 = refl

row_60 : first (codes "struct s; struct s f(void) { }") ≡ Some (Constraint code.Incomplete, 5)
unfolding first outcome
row_60 = refl

row_61 : first (codes "struct s; extern struct s x; void f(void) { x; }") ≡ Some (Constraint code.Incomplete, 14)
unfolding first outcome
row_61 = refl

row_62 : first (codes "struct s *p; void f(void) { p + 1; }") ≡ Some (Constraint code.Incomplete, 11)
unfolding first outcome
row_62 = refl

row_63 : first (codes "void *p; void f(void) { p++; }") ≡ Some (Constraint code.Incomplete, 10)
unfolding first outcome
row_63 = refl

row_64 : first (codes "int f(void)(void);") ≡ Some (Constraint code.FunctionType, 1)
unfolding first outcome
row_64 = refl

row_65 : first (codes "int a[3](void);") ≡ Some (Constraint code.FunctionType, 1)
unfolding first outcome
row_65 = refl

row_66 : first (codes "struct s { int f(void); };") ≡ Some (Constraint code.FunctionType, 4)
unfolding first outcome
row_66 = refl

row_67 : first (codes "typedef int F(void); F f { return 0; }") ≡ Some (Constraint code.FunctionType, 8)
unfolding first outcome
row_67 = refl

row_68 : first (codes "int f(int) { return 0; }") ≡ Some (Constraint code.FunctionType, 1)
unfolding first outcome
row_68 = refl

row_69 : first (codes "int f(void)[3];") ≡ Some (Constraint code.FunctionType, 1)
unfolding first outcome
row_69 = refl

row_70 : first (codes "int a[0];") ≡ Some (Constraint code.ArraySize, 3)
unfolding first outcome
row_70 = refl

row_71 : first (codes "int a[-1];") ≡ Some (Constraint code.ArraySize, 3)
unfolding first outcome
row_71 = refl

row_72 : first (codes "int x; int y = x;") ≡ Some (Constraint code.NotConstant, 6)
unfolding first outcome
row_72 = refl

row_73 : first (codes "int a[2147483647 + 1];") ≡ Some (Constraint code.NotConstant, 3)
unfolding first outcome
row_73 = refl

row_74 : first (codes "int x; enum { A = x };") ≡ Some (Constraint code.NotConstant, 7)
unfolding first outcome
row_74 = refl

row_75 : first (codes "int a[(char *)0];") ≡ Some (Constraint code.NotConstant, 3)
unfolding first outcome
row_75 = refl

row_76 : first (codes "int x; int f(int y) { switch (y) case x: ; return 0; }") ≡ Some (Constraint code.NotConstant, 15)
unfolding first outcome
row_76 = refl

row_77 : first (codes "int f(void) { static int *p = (int []){ 1 }; return *p; }") ≡ Some (Constraint code.NotConstant, 11)
unfolding first outcome
row_77 = refl

row_78 : first (codes "int a[3]; int *p = &a[4];") ≡ Some (Constraint code.NotConstant, 10)
unfolding first outcome
row_78 = refl

row_79 : first (codes "int n; int a[1 ? 1 / 0 : n];") ≡ Some (Constraint code.NotConstant, 6)
unfolding first outcome
row_79 = refl

row_80 : first (codes "enum { A = 2147483648 };") ≡ Some (Constraint code.EnumRange, 2)
unfolding first outcome
row_80 = refl

row_81 : first (codes "enum { A = 2147483647, B };") ≡ Some (Constraint code.EnumRange, 6)
unfolding first outcome
row_81 = refl

row_82 : first (codes "_Static_assert(0, \"a\");") ≡ Some (Constraint code.Assertion, 0)
unfolding first outcome
row_82 = refl

row_83 : first (codes "struct s { int a; _Static_assert(sizeof(int) == 8, \"a\"); };") ≡ Some (Constraint code.Assertion, 6)
unfolding first outcome
row_83 = refl

row_84 : first (codes "int a[2] = { 1, 2, 3 };") ≡ Some (Constraint code.Initialiser, 11)
unfolding first outcome
row_84 = refl

row_85 : first (codes "struct s { int a; } x = { .b = 1 };") ≡ Some (Constraint code.Initialiser, 10)
unfolding first outcome
row_85 = refl

row_86 : first (codes "int x = { 1, 2 };") ≡ Some (Constraint code.Initialiser, 6)
unfolding first outcome
row_86 = refl

row_87 : first (codes "int a[2] = { [2] = 1 };") ≡ Some (Constraint code.Initialiser, 7)
unfolding first outcome
row_87 = refl

row_88 : first (codes "int a[] = { [-1] = 1 };") ≡ Some (Constraint code.Initialiser, 6)
unfolding first outcome
row_88 = refl

row_89 : first (codes "char s[2] = \"abc\";") ≡ Some (Constraint code.Initialiser, 6)
unfolding first outcome
row_89 = refl

row_90 : first (codes "int f(void) { extern int x = 1; return x; }") ≡ Some (Constraint code.Initialiser, 10)
unfolding first outcome
row_90 = refl

row_91 : first (codes "typedef int T = 1;") ≡ Some (Constraint code.Initialiser, 4)
unfolding first outcome
row_91 = refl

row_92 : first (codes "union u { int a; int b; } x = { 1, 2 };") ≡ Some (Constraint code.Initialiser, 15)
unfolding first outcome
row_92 = refl

row_93 : first (codes "int f(void) { 1 = 2; return 0; }") ≡ Some (Constraint code.NotLvalue, 6)
unfolding first outcome
row_93 = refl

row_94 : first (codes "int f(int x) { ++(x + 1); return 0; }") ≡ Some (Constraint code.NotLvalue, 8)
unfolding first outcome
row_94 = refl

row_95 : first (codes "int *f(int x) { return &(x + 1); }") ≡ Some (Constraint code.NotLvalue, 10)
unfolding first outcome
row_95 = refl

row_96 : first (codes "int f(int x) { (x + 1)++; return 0; }") ≡ Some (Constraint code.NotLvalue, 7)
unfolding first outcome
row_96 = refl

row_97 : first (codes "void f(void) { 1 += 2; }") ≡ Some (Constraint code.NotLvalue, 6)
unfolding first outcome
row_97 = refl

row_98 : first (codes "void f(void) { --1; }") ≡ Some (Constraint code.NotLvalue, 7)
unfolding first outcome
row_98 = refl

row_99 : first (codes "const int x = 1; int f(void) { x = 1; return 0; }") ≡ Some (Constraint code.NotModifiable, 12)
unfolding first outcome
row_99 = refl

row_100 : first (codes "const int x = 1; int f(void) { --x; return 0; }") ≡ Some (Constraint code.NotModifiable, 13)
unfolding first outcome
row_100 = refl

row_101 : first (codes "int f(int *p) { int a[2]; a = p; return 0; }") ≡ Some (Constraint code.NotModifiable, 14)
unfolding first outcome
row_101 = refl

row_102 : first (codes "struct s { struct { const int a; } b[2]; } x, y; void f(void) { x = y; }") ≡ Some (Constraint code.NotModifiable, 26)
unfolding first outcome
row_102 = refl

row_103 : first (codes "struct s; extern struct s x; void f(void) { x++; }") ≡ Some (Constraint code.NotModifiable, 14)
unfolding first outcome
row_103 = refl

row_104 : first (codes "struct s { const int a; } x; void f(struct s *p) { *p = x; }") ≡ Some (Constraint code.NotModifiable, 19)
unfolding first outcome
row_104 = refl

row_105 : first (codes "void f(const int x) { x += 1; }") ≡ Some (Constraint code.NotModifiable, 8)
unfolding first outcome
row_105 = refl

row_106 : first (codes "int *p; int f(void) { return p * 2; }") ≡ Some (Constraint code.Operand, 11)
unfolding first outcome
row_106 = refl

row_107 : first (codes "int *p; long *q; int f(void) { return p == q; }") ≡ Some (Constraint code.Operand, 15)
unfolding first outcome
row_107 = refl

row_108 : first (codes "int f(void) { return sizeof f; }") ≡ Some (Constraint code.Operand, 7)
unfolding first outcome
row_108 = refl

row_109 : first (codes "int f(void) { return 1 + *2; }") ≡ Some (Constraint code.Operand, 9)
unfolding first outcome
row_109 = refl

row_110 : first (codes "int f(int x) { return x[1]; }") ≡ Some (Constraint code.Operand, 8)
unfolding first outcome
row_110 = refl

row_111 : first (codes "struct s { int a; } x; void f(void) { x++; }") ≡ Some (Constraint code.Operand, 15)
unfolding first outcome
row_111 = refl

row_112 : first (codes "int f(int *p) { return -p; }") ≡ Some (Constraint code.Operand, 9)
unfolding first outcome
row_112 = refl

row_113 : first (codes "int f(int *p) { return ~p; }") ≡ Some (Constraint code.Operand, 9)
unfolding first outcome
row_113 = refl

row_114 : first (codes "struct s { int a; } x; int f(void) { return !x; }") ≡ Some (Constraint code.Operand, 16)
unfolding first outcome
row_114 = refl

row_115 : first (codes "int f(int *p, int *q) { return p + q; }") ≡ Some (Constraint code.Operand, 13)
unfolding first outcome
row_115 = refl

row_116 : first (codes "int f(int *p) { return p << 1; }") ≡ Some (Constraint code.Operand, 9)
unfolding first outcome
row_116 = refl

row_117 : first (codes "int f(int *p) { return p < 1; }") ≡ Some (Constraint code.Operand, 9)
unfolding first outcome
row_117 = refl

row_118 : first (codes "int f(int *p) { return p & 1; }") ≡ Some (Constraint code.Operand, 9)
unfolding first outcome
row_118 = refl

row_119 : first (codes "struct s { int a; } x; int f(void) { return x && 1; }") ≡ Some (Constraint code.Operand, 16)
unfolding first outcome
row_119 = refl

row_120 : first (codes "void f(int c, int *p, long *q) { c ? p : q; }") ≡ Some (Constraint code.Operand, 15)
unfolding first outcome
row_120 = refl

row_121 : first (codes "void f(int *p) { p *= 2; }") ≡ Some (Constraint code.Operand, 8)
unfolding first outcome
row_121 = refl

row_122 : first (codes "int *p; long *q; int f(void) { p = q; return 0; }") ≡ Some (Constraint code.Assignment, 14)
unfolding first outcome
row_122 = refl

row_123 : first (codes "void g(int, int *); int f(long *q) { g(1, q); return 0; }") ≡ Some (Constraint code.Assignment, 21)
unfolding first outcome
row_123 = refl

row_124 : first (codes "int *f(long *q) { return q; }") ≡ Some (Constraint code.Assignment, 10)
unfolding first outcome
row_124 = refl

row_125 : first (codes "int x = { \"abc\" };") ≡ Some (Constraint code.Assignment, 4)
unfolding first outcome
row_125 = refl

row_126 : first (codes "char s[4] = (\"abc\");") ≡ Some (Constraint code.Assignment, 6)
unfolding first outcome
row_126 = refl

row_127 : first (codes "struct s { int a; } x; struct t { int a; } y; int f(void) { struct s z = y; return 0; }") ≡ Some (Constraint code.Assignment, 28)
unfolding first outcome
row_127 = refl

row_128 : first (codes "int *p = (void *)(void *)0 == 0;") ≡ Some (Constraint code.Assignment, 4)
unfolding first outcome
row_128 = refl

row_129 : first (codes "struct s { int a; } x; int f(void) { return x.b; }") ≡ Some (Constraint code.Member, 16)
unfolding first outcome
row_129 = refl

row_130 : first (codes "int f(int *p) { return p->a; }") ≡ Some (Constraint code.Member, 9)
unfolding first outcome
row_130 = refl

row_131 : first (codes "int f(int x) { return x.a; }") ≡ Some (Constraint code.Member, 8)
unfolding first outcome
row_131 = refl

row_132 : first (codes "struct s; int f(struct s *p) { return p->a; }") ≡ Some (Constraint code.Member, 13)
unfolding first outcome
row_132 = refl

row_133 : first (codes "int x; int f(void) { return x(); }") ≡ Some (Constraint code.Call, 10)
unfolding first outcome
row_133 = refl

row_134 : first (codes "int g(int); int f(void) { return g(); }") ≡ Some (Constraint code.Call, 13)
unfolding first outcome
row_134 = refl

row_135 : first (codes "int g(int); int f(void) { return g(1, 2); }") ≡ Some (Constraint code.Call, 13)
unfolding first outcome
row_135 = refl

row_136 : first (codes "int g(int, ...); int f(void) { return g(); }") ≡ Some (Constraint code.Call, 15)
unfolding first outcome
row_136 = refl

row_137 : first (codes "struct s { int a; } x; int f(void) { return (int)x; }") ≡ Some (Constraint code.Cast, 16)
unfolding first outcome
row_137 = refl

row_138 : first (codes "struct s { int a; }; void f(void) { (struct s)1; }") ≡ Some (Constraint code.Cast, 14)
unfolding first outcome
row_138 = refl

row_139 : first (codes "void f(void) { return 1; }") ≡ Some (Constraint code.Return, 6)
unfolding first outcome
row_139 = refl

row_140 : first (codes "int f(void) { return; }") ≡ Some (Constraint code.Return, 6)
unfolding first outcome
row_140 = refl

row_141 : first (codes "void f(void) { break; }") ≡ Some (Constraint code.Outside, 6)
unfolding first outcome
row_141 = refl

row_142 : first (codes "void f(int x) { switch (x) { continue; } }") ≡ Some (Constraint code.Outside, 12)
unfolding first outcome
row_142 = refl

row_143 : first (codes "void f(void) { case 1: ; }") ≡ Some (Constraint code.Outside, 6)
unfolding first outcome
row_143 = refl

row_144 : first (codes "void f(void) { while (1) { default: ; } }") ≡ Some (Constraint code.Outside, 11)
unfolding first outcome
row_144 = refl

row_145 : first (codes "int f(int x) { if (x) break; return 0; }") ≡ Some (Constraint code.Outside, 11)
unfolding first outcome
row_145 = refl

row_146 : first (codes "void f(int x) { switch (x) { case 1: ; case 1: ; } }") ≡ Some (Constraint code.Case, 16)
unfolding first outcome
row_146 = refl

row_147 : first (codes "void f(int x) { switch (x) { case 1: while (x) case 4294967297: ; } }") ≡ Some (Constraint code.Case, 19)
unfolding first outcome
row_147 = refl

row_148 : first (codes "void f(int x) { switch (x) { default: ; default: ; } }") ≡ Some (Constraint code.Case, 15)
unfolding first outcome
row_148 = refl

row_149 : first (codes "void f(void) { if (f()) ; }") ≡ Some (Constraint code.Condition, 8)
unfolding first outcome
row_149 = refl

row_150 : first (codes "int f(int *p) { switch (p) ; return 0; }") ≡ Some (Constraint code.Condition, 10)
unfolding first outcome
row_150 = refl

row_151 : first (codes "struct s { int a; } x; void f(void) { while (x) ; }") ≡ Some (Constraint code.Condition, 17)
unfolding first outcome
row_151 = refl

row_152 : first (codes "struct s { int a; } x; void f(void) { for (; x; ) ; }") ≡ Some (Constraint code.Condition, 18)
unfolding first outcome
row_152 = refl

row_153 : first (codes "struct s { int a; } x; void f(void) { do ; while (x); }") ≡ Some (Constraint code.Condition, 19)
unfolding first outcome
row_153 = refl

row_154 : first (codes "int __builtin_x;") ≡ Some (Constraint code.Reserved, 1)
unfolding first outcome
row_154 = refl

row_155 : first (codes "struct __builtin_s { int a; };") ≡ Some (Constraint code.Reserved, 1)
unfolding first outcome
row_155 = refl

row_156 : first (codes "int f(void) { __builtin_l: return 0; }") ≡ Some (Constraint code.Reserved, 6)
unfolding first outcome
row_156 = refl

row_157 : first (codes "struct s { int __builtin_m; };") ≡ Some (Constraint code.Reserved, 4)
unfolding first outcome
row_157 = refl

row_158 : first (codes "void f(void) { void *__builtin_memset(void *, int, unsigned long); }") ≡ Some (Constraint code.Reserved, 8)
unfolding first outcome
row_158 = refl

row_159 : first (codes "void *__builtin_memset(void *p, int c, unsigned long n) { return p; }") ≡ Some (Constraint code.Reserved, 2)
unfolding first outcome
row_159 = refl

row_160 : first (codes "void f(int __builtin_p);") ≡ Some (Constraint code.Reserved, 4)
unfolding first outcome
row_160 = refl

row_161 : first (codes "int restrict x;") ≡ Some (Constraint code.Restrict, 1)
unfolding first outcome
row_161 = refl

row_162 : first (codes "int (* restrict f)(void);") ≡ Some (Constraint code.Restrict, 4)
unfolding first outcome
row_162 = refl

row_163 : first (codes "int f(void) { register int x; return *&x; }") ≡ Some (Constraint code.Register, 12)
unfolding first outcome
row_163 = refl

row_164 : first (codes "int f(void) { register struct { int a[3]; } x; return *&x.a[1]; }") ≡ Some (Constraint code.Register, 20)
unfolding first outcome
row_164 = refl

row_165 : first (codes "int x = 1; int x = 2;") ≡ Some (Constraint code.Defined, 6)
unfolding first outcome
row_165 = refl

row_166 : first (codes "int f(void) { return 0; } int f(void) { return 0; }") ≡ Some (Constraint code.Defined, 11)
unfolding first outcome
row_166 = refl

row_167 : first (codes "static int f(void); int g(void) { return f(); }") ≡ Some (Constraint code.Defined, 2)
unfolding first outcome
row_167 = refl

row_168 : first (codes "static int f(void); struct s x; int g(void) { return f(); }") ≡ Some (Constraint code.Defined, 2)
unfolding first outcome
row_168 = refl

row_169 : first (codes "int f(void) { return 0; } int g(void) { return f(); } int f(void) { return 1; }") ≡ Some (Constraint code.Defined, 23)
unfolding first outcome
row_169 = refl

row_170 : first (codes "int f(void) { return x; 1 = 2; }") ≡ Some (Constraint code.Undeclared, 7)
unfolding first outcome
row_170 = refl

row_171 : first (codes "int f(void) { 1 = 2; return x; }") ≡ Some (Constraint code.NotLvalue, 6)
unfolding first outcome
row_171 = refl

row_172 : first (codes "int f(void) { return x + *2; }") ≡ Some (Constraint code.Undeclared, 7)
unfolding first outcome
row_172 = refl

row_173 : first (codes "int f(void) { return *2 + x; }") ≡ Some (Constraint code.Operand, 7)
unfolding first outcome
row_173 = refl

row_174 : first (codes "int f(void) { 1 = x; return 0; }") ≡ Some (Constraint code.Undeclared, 8)
unfolding first outcome
row_174 = refl

row_175 : first (codes "void g(int); void f(void) { g(x, *2); }") ≡ Some (Constraint code.Undeclared, 14)
unfolding first outcome
row_175 = refl

row_176 : first (codes "void g(int); void f(void) { g(*2, x); }") ≡ Some (Constraint code.Operand, 14)
unfolding first outcome
row_176 = refl

row_177 : first (codes "int char a[0];") ≡ Some (Constraint code.Specifiers, 0)
unfolding first outcome
row_177 = refl

row_178 : first (codes "int a[0], b[x];") ≡ Some (Constraint code.ArraySize, 3)
unfolding first outcome
row_178 = refl

row_179 : first (codes "int b[x], a[0];") ≡ Some (Constraint code.Undeclared, 3)
unfolding first outcome
row_179 = refl

row_180 : first (codes "int a[0][x];") ≡ Some (Constraint code.Undeclared, 6)
unfolding first outcome
row_180 = refl

row_181 : first (codes "void a = x;") ≡ Some (Constraint code.Incomplete, 1)
unfolding first outcome
row_181 = refl

row_182 : first (codes "int a = x, a[0];") ≡ Some (Constraint code.Undeclared, 3)
unfolding first outcome
row_182 = refl

row_183 : first (codes "int f(void); long f(void) { return x; }") ≡ Some (Constraint code.Conflict, 7)
unfolding first outcome
row_183 = refl

row_184 : first (codes "int f(void) { return x; } long f(void);") ≡ Some (Constraint code.Undeclared, 7)
unfolding first outcome
row_184 = refl

row_185 : first (codes "long f(void); inline int f(void) { return 0; }") ≡ Some (Constraint code.Conflict, 8)
unfolding first outcome
row_185 = refl

row_186 : first (codes "static int x = 1; int x = 2;") ≡ Some (Constraint code.Conflict, 7)
unfolding first outcome
row_186 = refl

row_187 : first (codes "void g(int *); void f(long *q) { g(q, 1); }") ≡ Some (Constraint code.Assignment, 17)
unfolding first outcome
row_187 = refl

row_188 : first (codes "void f(int *p) { 1 *= p; }") ≡ Some (Constraint code.NotLvalue, 8)
unfolding first outcome
row_188 = refl

row_189 : first (codes "const int x = 1; void f(int *p) { x *= p; }") ≡ Some (Constraint code.NotModifiable, 14)
unfolding first outcome
row_189 = refl

row_190 : first (codes "void f(int x, int *p) { x *= p; }") ≡ Some (Constraint code.Operand, 11)
unfolding first outcome
row_190 = refl

row_191 : first (codes "int f(void) { goto a; return 0; } int g(void) { 1 = 2; return 0; }") ≡ Some (Constraint code.Label, 6)
unfolding first outcome
row_191 = refl

row_192 : first (codes "int f(void) { goto a; 1 = 2; return 0; }") ≡ Some (Constraint code.NotLvalue, 9)
unfolding first outcome
row_192 = refl

row_193 : first (codes "struct s x; static int g(void); int f(void) { return g(); }") ≡ Some (Constraint code.Incomplete, 2)
unfolding first outcome
row_193 = refl

row_194 : first (codes "static int g(void); struct s x; int f(void) { return g(); }") ≡ Some (Constraint code.Defined, 2)
unfolding first outcome
row_194 = refl

row_195 : first (codes "struct s x; static int g(void); int f(void) { return g() + y; }") ≡ Some (Constraint code.Undeclared, 22)
unfolding first outcome
row_195 = refl

row_196 : first (codes "struct s { int a : 3; };") ≡ Some (Excluded feature.BitField, 5)
unfolding first outcome
row_196 = refl

row_197 : first (codes "struct s { int : 0; };") ≡ Some (Excluded feature.BitField, 4)
unfolding first outcome
row_197 = refl

row_198 : first (codes "int f(int n) { int a[n]; return 0; }") ≡ Some (Excluded feature.VariableArray, 10)
unfolding first outcome
row_198 = refl

row_199 : first (codes "void f(int a[*]);") ≡ Some (Excluded feature.VariableArray, 6)
unfolding first outcome
row_199 = refl

row_200 : first (codes "int n; int a[n + 1];") ≡ Some (Excluded feature.VariableArray, 6)
unfolding first outcome
row_200 = refl

row_201 : first (codes "int f(a) int a; { return a; }") ≡ Some (Excluded feature.IdentifierList, 1)
unfolding first outcome
row_201 = refl

row_202 : first (codes "inline int f(void) { return 0; }") ≡ Some (Excluded feature.ExternalInline, 2)
unfolding first outcome
row_202 = refl

row_203 : first (codes "extern inline int f(void);") ≡ Some (Excluded feature.ExternalInline, 3)
unfolding first outcome
row_203 = refl

row_204 : first (codes "int f(int a, ...) { return a; }") ≡ Some (Excluded feature.VariadicDefinition, 1)
unfolding first outcome
row_204 = refl

row_205 : first (codes "struct s { int n; int a[]; } x = { 1, { 2 } };") ≡ Some (Excluded feature.FlexibleInit, 17)
unfolding first outcome
row_205 = refl

row_206 : first (codes "struct s { int n; int a[]; } x = { 1, 2 };") ≡ Some (Excluded feature.FlexibleInit, 17)
unfolding first outcome
row_206 = refl

row_207 : first (codes "struct s { int n; char a[]; } x = { .a = \"a\" };") ≡ Some (Excluded feature.FlexibleInit, 15)
unfolding first outcome
row_207 = refl

row_208 : first (codes "char a, b[2147483648];") ≡ Some (Limit limit.ObjectSize, 3)
unfolding first outcome
row_208 = refl

row_209 : first (codes "int f(int a[2147483647]);") ≡ Some (Limit limit.ObjectSize, 4)
unfolding first outcome
row_209 = refl

row_210 : first (codes "int x = sizeof(char[2147483648]);") ≡ Some (Limit limit.ObjectSize, 5)
unfolding first outcome
row_210 = refl

row_211 : first (codes "struct { char a[2147483647], b; } x;") ≡ Some (Limit limit.ObjectSize, 0)
unfolding first outcome
row_211 = refl

row_212 : first (codes "struct s; long f(struct s *p, int *q) { return p - q; }") ≡ Some (Constraint code.Incomplete, 17)
unfolding first outcome
row_212 = refl

row_213 : first (codes "struct s; struct t; long f(struct s *p, struct t *q) { return q - p; }") ≡ Some (Constraint code.Incomplete, 21)
unfolding first outcome
row_213 = refl

row_214 : first (codes "struct s; void f(struct s *p, struct s *q) { p -= q; }") ≡ Some (Constraint code.Incomplete, 17)
unfolding first outcome
row_214 = refl

row_215 : first (codes "struct s; void f(struct s *p, int *q) { q -= p; }") ≡ Some (Constraint code.Incomplete, 16)
unfolding first outcome
row_215 = refl

row_216 : first (codes "struct s; void f(struct s *p, int n) { n += p; }") ≡ Some (Constraint code.Incomplete, 15)
unfolding first outcome
row_216 = refl

row_217 : first (codes "struct s; long f(struct s *p, struct s *q) { return p + q; }") ≡ Some (Constraint code.Operand, 18)
unfolding first outcome
row_217 = refl

row_218 : first (codes "struct s; long f(struct s *p) { return 1 - p; }") ≡ Some (Constraint code.Operand, 13)
unfolding first outcome
row_218 = refl

row_219 : first (codes "struct s; int f(struct s *p, int *q) { return p < q; }") ≡ Some (Constraint code.Operand, 17)
unfolding first outcome
row_219 = refl

row_220 : first (codes "long f(int (*p)(void), int (*q)(void)) { return p - q; }") ≡ Some (Constraint code.Operand, 23)
unfolding first outcome
row_220 = refl

row_221 : first (codes "typedef int *T[2]; T restrict x;") ≡ Some (Constraint code.Restrict, 9)
unfolding first outcome
row_221 = refl

row_222 : first (codes "struct s { int a[0] : 3; };") ≡ Some (Constraint code.ArraySize, 6)
unfolding first outcome
row_222 = refl

row_223 : first (codes "struct s { int a; int a : 3; };") ≡ Some (Excluded feature.BitField, 8)
unfolding first outcome
row_223 = refl

row_224 : first (codes "_Static_assert(\"a\", \"\\400\");") ≡ Some (Constraint code.IntegerRange, 4)
unfolding first outcome
row_224 = refl

row_225 : first (codes "int x; _Static_assert(x, \"\\400\");") ≡ Some (Constraint code.IntegerRange, 7)
unfolding first outcome
row_225 = refl

row_226 : first (codes "int x; _Static_assert(x, \"\");") ≡ Some (Constraint code.NotConstant, 5)
unfolding first outcome
row_226 = refl

row_227 : first (codes "void f(int x) { case x: ; }") ≡ Some (Constraint code.NotConstant, 8)
unfolding first outcome
row_227 = refl

row_228 : first (codes "void f(int x) { case \"a\": ; }") ≡ Some (Constraint code.NotConstant, 8)
unfolding first outcome
row_228 = refl

row_229 : first (codes "void f(int x) { case 1: ; }") ≡ Some (Constraint code.Outside, 7)
unfolding first outcome
row_229 = refl

row_230 : first (codes "int a[1] = { 1, y };") ≡ Some (Constraint code.Undeclared, 9)
unfolding first outcome
row_230 = refl

row_231 : first (codes "int a[1] = { 1, { y } };") ≡ Some (Constraint code.Initialiser, 9)
unfolding first outcome
row_231 = refl

row_232 : first (codes "int a[1] = { 1, \"\\400\" };") ≡ Some (Constraint code.IntegerRange, 9)
unfolding first outcome
row_232 = refl

row_233 : first (codes "int a[1] = { [1] = y };") ≡ Some (Constraint code.Initialiser, 7)
unfolding first outcome
row_233 = refl

row_234 : first (codes "int x = { 1, y };") ≡ Some (Constraint code.Undeclared, 6)
unfolding first outcome
row_234 = refl

row_235 : first (codes "struct s { int n; int a[]; } x = { 1, y };") ≡ Some (Constraint code.Undeclared, 17)
unfolding first outcome
row_235 = refl

row_236 : first (codes "struct s { int n; int a[]; } x = { .a = y };") ≡ Some (Constraint code.Undeclared, 18)
unfolding first outcome
row_236 = refl

row_237 : first (codes "struct s { int n; int a[]; } x = { 1, { y } };") ≡ Some (Excluded feature.FlexibleInit, 17)
unfolding first outcome
row_237 = refl

row_238 : first (codes "struct s { int n; char a[]; } x = { 1, \"\\400\" };") ≡ Some (Constraint code.IntegerRange, 17)
unfolding first outcome
row_238 = refl

row_239 : first (codes "struct s { char a[2]; } x = { .a = \"abc\" };") ≡ Some (Constraint code.Initialiser, 13)
unfolding first outcome
row_239 = refl

row_240 : first (codes "char a[2][2] = { [1] = \"abc\" };") ≡ Some (Constraint code.Initialiser, 10)
unfolding first outcome
row_240 = refl

row_241 : first (codes "char a[2][2] = { [1] = { \"abc\" } };") ≡ Some (Constraint code.Initialiser, 15)
unfolding first outcome
row_241 = refl

row_242 : first (codes "char a[2][2] = { [1] = \"\\400\" };") ≡ Some (Constraint code.IntegerRange, 14)
unfolding first outcome
row_242 = refl

row_243 : first (codes "struct s; int f(struct s *p) { return (*p)->x; }") ≡ Some (Constraint code.Incomplete, 13)
unfolding first outcome
row_243 = refl

row_244 : first (codes "int a[2] = { [0][1] = 1 };") ≡ Some (Constraint code.Initialiser, 10)
unfolding first outcome
row_244 = refl

row_245 : first (codes "struct s { int a; } x = { .a.b = 1 };") ≡ Some (Constraint code.Initialiser, 12)
unfolding first outcome
row_245 = refl

row_246 : first (codes "struct s { int a[2]; } x = { .a[1][0] = 1 };") ≡ Some (Constraint code.Initialiser, 18)
unfolding first outcome
row_246 = refl

-- int and long are two types in each data model (6.2.7p1), though both have 4 bytes in one
conflict_of_four : first_in Ilp32 (codes "int x; long x;") ≡ Some (Constraint code.Conflict, 4)
unfolding first_in outcome_in
conflict_of_four = refl

pointers_of_four : first_in Ilp32 (codes "int *p; long *q; int f(void) { return p == q; }") ≡ Some (Constraint code.Operand, 15)
unfolding first_in outcome_in
pointers_of_four = refl

-- a constant expression whose value its type has not (6.6p4)
overflow_of_four : first_in Ilp32 (codes "enum { A = 2147483647L + 1 == 2147483648 };") ≡ Some (Constraint code.NotConstant, 4)
unfolding first_in outcome_in
overflow_of_four = refl
