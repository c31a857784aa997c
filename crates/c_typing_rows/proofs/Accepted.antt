-- Translation units without a fault of the walk; the sizes in their assertions are those that gcc gives on a 64-bit system, and those of the other data model that gcc -m32 -malign-double gives.
use Rattle.std.specs.Prelude.{◌≡◌, refl, codes, Some, None}
use Rattle.cil_base.specs.declared.kinds.Abi.TheVariants.{Lp64, Ilp32}
use Rattle.c_typing_rows.specs.Text.{outcome_in, outcome}

accepted_0 : outcome (codes "int main(void) { return 2 + 3; }") ≡ Some None
unfolding outcome
accepted_0 = refl

accepted_1 : outcome (codes "int a[] = { 1, 2, [5] = 3, 4 }; _Static_assert(sizeof a == 28, \"\");") ≡ Some None
unfolding outcome
accepted_1 = refl

accepted_2 : outcome (codes "struct { int a[2]; int b; } x[] = { 1, 2, 3, 4 }; _Static_assert(sizeof x == 24, \"\");") ≡ Some None
unfolding outcome
accepted_2 = refl

accepted_3 : outcome (codes "char s[] = \"abc\"; _Static_assert(sizeof s == 4, \"\");") ≡ Some None
unfolding outcome
accepted_3 = refl

accepted_4 : outcome (codes "char s[] = { \"abc\", }; _Static_assert(sizeof s == 4, \"\");") ≡ Some None
unfolding outcome
accepted_4 = refl

accepted_5 : outcome (codes "char s[3] = \"abc\";") ≡ Some None
unfolding outcome
accepted_5 = refl

accepted_6 : outcome (codes "char s[][4] = { \"abc\", { 'd', 'e' }, [4] = \"f\" }; _Static_assert(sizeof s == 20, \"\");") ≡ Some None
unfolding outcome
accepted_6 = refl

accepted_7 : outcome (codes "char *s[] = { \"abc\", 0, (void *)0, }; _Static_assert(sizeof s == 24, \"\");") ≡ Some None
unfolding outcome
accepted_7 = refl

accepted_8 : outcome (codes "int x = {{3}};") ≡ Some None
unfolding outcome
accepted_8 = refl

accepted_9 : outcome (codes "int f(void) { int a[] = { 1, 2 }; return sizeof a; }") ≡ Some None
unfolding outcome
accepted_9 = refl

accepted_10 : outcome (codes "int f(void) { static int a[] = { 1, 2 }; static int *p = a + 1; return *p; }") ≡ Some None
unfolding outcome
accepted_10 = refl

accepted_11 : outcome (codes "int f(int n) { return ((int []){ n, 2 })[1]; }") ≡ Some None
unfolding outcome
accepted_11 = refl

accepted_12 : outcome (codes "int *p = (int []){ 1, 2 };") ≡ Some None
unfolding outcome
accepted_12 = refl

accepted_13 : outcome (codes "int n = sizeof (int []){ 1, 2 } / sizeof(int);") ≡ Some None
unfolding outcome
accepted_13 = refl

accepted_14 : outcome (codes "struct s { int a; union { int b; char c; }; } x = { 1, { 258 } }, y = { .c = 2, .b = 3 };") ≡ Some None
unfolding outcome
accepted_14 = refl

accepted_15 : outcome (codes "int f(struct s { int a; } *p) { return p->a; }") ≡ Some None
unfolding outcome
accepted_15 = refl

accepted_16 : outcome (codes "struct t { int a; struct { int b; struct { int c; }; }; }; int f(struct t *p) { return p->c + p->b; }") ≡ Some None
unfolding outcome
accepted_16 = refl

accepted_17 : outcome (codes "typedef struct n N; struct n { N *next; }; N *f(N *p) { return p->next; }") ≡ Some None
unfolding outcome
accepted_17 = refl

accepted_18 : outcome (codes "int g(int (*)(int)); int h(int x) { return x; } int f(void) { return g(h) + g(&h) + g(*h); }") ≡ Some None
unfolding outcome
accepted_18 = refl

accepted_19 : outcome (codes "int f(int x) { switch (x) { case 1: while (x) { case 2: x--; break; } default: ; } return 0; }") ≡ Some None
unfolding outcome
accepted_19 = refl

accepted_20 : outcome (codes "int f(int x) { goto b; a: return x; b: goto a; }") ≡ Some None
unfolding outcome
accepted_20 = refl

accepted_21 : outcome (codes "int f(int *p) { return p == 0 || p == (void *)0 || 0 == p || !p; }") ≡ Some None
unfolding outcome
accepted_21 = refl

accepted_22 : outcome (codes "int *f(int c, int *p) { return c ? p : 0; }") ≡ Some None
unfolding outcome
accepted_22 = refl

accepted_23 : outcome (codes "int f(void) { for (int i = 0, *p = &i; i < 2; i++, *p += 1) ; for (;;) break; return 0; }") ≡ Some None
unfolding outcome
accepted_23 = refl

accepted_24 : outcome (codes "int f(); int g(void) { return f(1); }") ≡ Some None
unfolding outcome
accepted_24 = refl

accepted_25 : outcome (codes "static int f(void); int g(void) { return sizeof f(); }") ≡ Some None
unfolding outcome
accepted_25 = refl

accepted_26 : outcome (codes "extern int x[]; int *p(void) { return x; } int x[3];") ≡ Some None
unfolding outcome
accepted_26 = refl

accepted_27 : outcome (codes "int a[]; int f(void) { return a[0]; }") ≡ Some None
unfolding outcome
accepted_27 = refl

accepted_28 : outcome (codes "enum e { A, B = A + 2, C } v = C; int a[C]; _Static_assert(sizeof a == 12, \"\");") ≡ Some None
unfolding outcome
accepted_28 = refl

accepted_29 : outcome (codes "_Static_assert('\\377' < 0, \"\"); _Static_assert(sizeof 'a' == 4, \"\"); _Static_assert(sizeof \"ab\" == 3, \"\");") ≡ Some None
unfolding outcome
accepted_29 = refl

accepted_30 : outcome (codes "_Static_assert(_Alignof(long) == 8 && sizeof(char[3][2]) == 6, \"\");") ≡ Some None
unfolding outcome
accepted_30 = refl

accepted_31 : outcome (codes "void *__builtin_memset(void *, int, unsigned long); int f(char *p) { __builtin_memset(p, 0, 3); return 0; }") ≡ Some None
unfolding outcome
accepted_31 = refl

accepted_32 : outcome (codes "int f(int a[static 3], int b[const]) { return a[0] + b[0]; }") ≡ Some None
unfolding outcome
accepted_32 = refl

accepted_33 : outcome (codes "struct f { int n; int a[]; }; struct f x = { 1 }; int g(struct f *p) { return p->a[2]; }") ≡ Some None
unfolding outcome
accepted_33 = refl

accepted_34 : outcome (codes "int (*f(int x))(int) { return 0; }") ≡ Some None
unfolding outcome
accepted_34 = refl

accepted_35 : outcome (codes "struct s { int a, b; }; struct s g(void); int f(void) { struct s x = g(), y[2] = { x, { .b = 1 } }; return g().b + y[1].a + (x = y[0]).a; }") ≡ Some None
unfolding outcome
accepted_35 = refl

accepted_36 : outcome (codes "int f(void) { unsigned char c = 300; long l = c << 3; return l > 2 ? c : (c += 1, 3); }") ≡ Some None
unfolding outcome
accepted_36 = refl

accepted_37 : outcome (codes "int x; int *const p = &x; int f(void) { *p = 3; return 0; }") ≡ Some None
unfolding outcome
accepted_37 = refl

accepted_38 : outcome (codes "int main(void) { return 2147483647 + 1; }") ≡ Some None
unfolding outcome
accepted_38 = refl

accepted_39 : outcome (codes "int main(void) { unsigned char c = 255; return (c + 1) == 256; }") ≡ Some None
unfolding outcome
accepted_39 = refl

accepted_40 : outcome (codes "int f(int *p) { *p = 5; return *p + 1; } int main(void) { int i = 0, a[2] = {7, 7}; a[i] = i++ + f(&i); return a[0] * 10 + a[1] + i; }") ≡ Some None
unfolding outcome
accepted_40 = refl

accepted_41 : outcome (codes "int putchar(int); int main(void) { int i; for (i = 0; i < 3; i++) { if (i == 1) continue; putchar('a' + i); } return 0; }") ≡ Some None
unfolding outcome
accepted_41 = refl

accepted_42 : outcome (codes "int putchar(int); int main(void) { int n = 2; switch (7 % 4) { case 0: do { putchar('x'); case 3: putchar('x'); case 2: putchar('x'); case 1: putchar('x'); } while (--n > 0); } return 0; }") ≡ Some None
unfolding outcome
accepted_42 = refl

accepted_43 : outcome (codes "int main(void) { int k = 0; again: { int x; if (k) return x == 4; x = 4; k = 1; goto again; } }") ≡ Some None
unfolding outcome
accepted_43 = refl

accepted_44 : outcome (codes "typedef int T; int main(void) { int r; { int T = 6, x = 7; T * x; r = T * x; } { T * x = 0; return r + (x == 0); } }") ≡ Some None
unfolding outcome
accepted_44 = refl

accepted_45 : outcome (codes "int a[] = { [2] = 5, 1, [0] = 9 }; char s[3] = \"abc\"; int main(void) { return sizeof a / sizeof a[0] * 10 + a[0] + a[2] + a[3] + (s[2] == 'c'); }") ≡ Some None
unfolding outcome
accepted_45 = refl

accepted_46 : outcome (codes "int main(void) { int x = 1; return sizeof(x++) + x; }") ≡ Some None
unfolding outcome
accepted_46 = refl

accepted_47 : outcome (codes "int getchar(void); int putchar(int); int main(void) { int c; while ((c = getchar()) != -1) putchar(c); return 0; }") ≡ Some None
unfolding outcome
accepted_47 = refl

accepted_48 : outcome (codes "int putchar(int); int main(void) { putchar('a'); return 1 / 0; }") ≡ Some None
unfolding outcome
accepted_48 = refl

accepted_49 : outcome (codes "void exit(int); int main(void) { exit(-1); }") ≡ Some None
unfolding outcome
accepted_49 = refl

accepted_50 : outcome (codes "void abort(void); int main(void) { abort(); }") ≡ Some None
unfolding outcome
accepted_50 = refl

accepted_51 : outcome (codes "int main(int argc, char **argv) { return argc * 16 + argv[1][0] - 'a'; }") ≡ Some None
unfolding outcome
accepted_51 = refl

accepted_52 : outcome (codes "void *malloc(unsigned long); int main(void) { return malloc(67108865) == 0; }") ≡ Some None
unfolding outcome
accepted_52 = refl

accepted_53 : outcome (codes "int main(void) { int x = 1; { int x = 2; if (x) x = 3; } return x; }") ≡ Some None
unfolding outcome
accepted_53 = refl

accepted_54 : outcome (codes "int main(void) { return (-1 < 1u) + 6; }") ≡ Some None
unfolding outcome
accepted_54 = refl

accepted_55 : outcome (codes "struct s { int a; union { int b; char c; }; }; int main(void) { struct s x = { 1, { 258 } }; return x.c + x.a; }") ≡ Some None
unfolding outcome
accepted_55 = refl

accepted_56 : outcome (codes "typedef int T; typedef int T; T x;") ≡ Some None
unfolding outcome
accepted_56 = refl

accepted_57 : outcome (codes "char a[2147483647];") ≡ Some None
unfolding outcome
accepted_57 = refl

accepted_58 : outcome (codes "int a[1 || 0];") ≡ Some None
unfolding outcome
accepted_58 = refl

accepted_59 : outcome (codes "static int f(void); int x = 1;") ≡ Some None
unfolding outcome
accepted_59 = refl

accepted_60 : outcome (codes "struct s; struct s f(void); struct s *p;") ≡ Some None
unfolding outcome
accepted_60 = refl

accepted_61 : outcome (codes "int f(const int x); int f(int x) { return x; }") ≡ Some None
unfolding outcome
accepted_61 = refl

accepted_62 : outcome (codes "_Static_assert(-(unsigned char)1 < 0 && (unsigned short)1 - 2 < 0 && ~(_Bool)0 < 0 && ((unsigned char)1 << 0) - 2 < 0, \"\");") ≡ Some None
unfolding outcome
accepted_62 = refl

accepted_63 : outcome (codes "_Static_assert(-1 > 0u && -1L < 1u && !(-1 < 1ul) && -1LL > 0ul, \"\");") ≡ Some None
unfolding outcome
accepted_63 = refl

accepted_64 : outcome (codes "_Static_assert(sizeof(1 ? (char)1 : (short)1) == 4 && sizeof(1 ? 1 : 1L) == 8 && sizeof(-(char)1) == 4 && sizeof(+(char)1) == 4 && sizeof((char)1) == 1, \"\");") ≡ Some None
unfolding outcome
accepted_64 = refl

accepted_65 : outcome (codes "_Static_assert(sizeof((char)1 << 1L) == 4 && sizeof(1L << 1) == 8 && sizeof(1L < 2L) == 4 && sizeof(!1L) == 4 && sizeof(1L && 1L) == 4, \"\");") ≡ Some None
unfolding outcome
accepted_65 = refl

accepted_66 : outcome (codes "_Static_assert((char)200 == -56 && (unsigned char)-1 == 255 && (_Bool)0x100 == 1 && (short)65535 == -1 && (int)4294967295 == -1 && (unsigned)-1 == 4294967295, \"\");") ≡ Some None
unfolding outcome
accepted_66 = refl

accepted_67 : outcome (codes "_Static_assert(-7 / 2 == -3 && -7 % 2 == -1 && -8 >> 1 == -4 && (1u << 31) == 2147483648 && 7 / -2 == -3, \"\");") ≡ Some None
unfolding outcome
accepted_67 = refl

accepted_68 : outcome (codes "extern int a[3]; extern int a[]; _Static_assert(sizeof a == 12, \"\"); int f(void) { extern int a[]; return sizeof(char [sizeof a == 12 ? 1 : -1]); }") ≡ Some None
unfolding outcome
accepted_68 = refl

accepted_69 : outcome (codes "int (*f(void))[3]; int (*f())[]; _Static_assert(sizeof *f() == 12, \"\");") ≡ Some None
unfolding outcome
accepted_69 = refl

accepted_70 : outcome (codes "int i; int f(void) { for (long i = 0; ; ) break; return sizeof(char [sizeof i == 4 ? 1 : -1]); }") ≡ Some None
unfolding outcome
accepted_70 = refl

accepted_71 : outcome (codes "struct s { char c; short d[3]; union { char e; long f; }; struct { int g; char h; } k; }; _Static_assert(sizeof(struct s) == 24 && _Alignof(struct s) == 8, \"\");") ≡ Some None
unfolding outcome
accepted_71 = refl

accepted_72 : outcome (codes "static int f(void); int n = sizeof(int [1 ? 2 : f()]) + _Alignof(int [1 ? 2 : f()]);") ≡ Some None
unfolding outcome
accepted_72 = refl

model_0 : outcome_in Ilp32 (codes "_Static_assert(sizeof(long) == 4 && sizeof(char *) == 4 && sizeof(long long) == 8 && _Alignof(long long) == 8, \"\");") ≡ Some None
unfolding outcome_in
model_0 = refl

model_1 : outcome_in Ilp32 (codes "_Static_assert(sizeof(struct { char a; long b; }) == 8 && sizeof(struct { char a; long long b; }) == 16 && sizeof(struct { char a; int *b; char c; }) == 12, \"\");") ≡ Some None
unfolding outcome_in
model_1 = refl

model_2 : outcome_in Ilp32 (codes "_Static_assert(sizeof 2147483648 == 8 && sizeof 1L == 4 && sizeof 0xFFFFFFFF == 4 && sizeof 4294967295UL == 4 && sizeof 4294967296UL == 8, \"\");") ≡ Some None
unfolding outcome_in
model_2 = refl

model_3 : outcome_in Ilp32 (codes "_Static_assert(!(-1L < 1U) && -1L < 1 && 0xFFFFFFFFL > 0, \"\");") ≡ Some None
unfolding outcome_in
model_3 = refl

model_4 : outcome_in Ilp32 (codes "void *__builtin_memset(void *, int, unsigned long); void *malloc(unsigned long); unsigned long n = sizeof n; int a[2]; long d = 1; long f(int *p) { return p - a; }") ≡ Some None
unfolding outcome_in
model_4 = refl

-- long of eight bytes has the value that one of four has not
model_5 : outcome_in Lp64 (codes "enum { A = 2147483647L + 1 == 2147483648 };") ≡ Some None
unfolding outcome_in
model_5 = refl
