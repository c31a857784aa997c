-- Device: programs, given as the texts of units with words, an input and a bound, each with its outcome: rows that hold of every meaning of C. The statuses and outputs were compared with gcc's, where the order of evaluation is not own.
use Rattle.std.specs.Prelude.{ℕ, codes, List, [], ◌∷◌, Option, Some, map}
use Rattle.cil_base.specs.declared.runs.Outcome.{Outcome}
use Rattle.cil_base.specs.declared.runs.Outcome.TheVariants.{Exit, Running, Undefined}

pub record Program : Type 0 where
  pub texts : List (List ℕ)
  pub words : List (List ℕ)
  pub input : List ℕ
  pub bound : ℕ
  pub outcome : Outcome

abbrev pub units : List (List ℕ) → List (List ℕ) → List ℕ → ℕ → Outcome → Program
units texts words input bound outcome = record { texts = texts; words = words; input = input; bound = bound; outcome = outcome }

-- one unit, without words and input
abbrev pub one_unit : List ℕ → ℕ → Outcome → Program
one_unit text bound outcome = units (text ∷ []) [] [] bound outcome

-- what programs do by a meaning, which takes texts, words, an input and a bound
abbrev pub outcomes_by : (List (List ℕ) → List (List ℕ) → List ℕ → ℕ → Option Outcome) → List Program → List (Option Outcome)
outcomes_by meaning ps = map (λ (p : Program). meaning p.texts p.words p.input p.bound) ps

abbrev pub outcomes_of : List Program → List (Option Outcome)
outcomes_of ps = map (λ (p : Program). Some p.outcome) ps

-- what is computed, in which order
abbrev pub first_programs : List Program
first_programs =
    -- the first program
    one_unit (codes "int main(void) { return 2 + 3; }") 0 (Running [])
    ∷ one_unit (codes "int main(void) { return 2 + 3; }") 1 (Exit 5 [])
    -- signed overflow
    ∷ one_unit (codes "int main(void) { return 2147483647 + 1; }") 1 (Undefined [])
    -- promotion
    ∷ one_unit (codes "int main(void) { unsigned char c = 255; return (c + 1) == 256; }") 1 (Exit 1 [])
    -- order of evaluation
    ∷ one_unit (codes "int f(int *p) { *p = 5; return *p + 1; } int main(void) { int i = 0, a[2] = {7, 7}; a[i] = i++ + f(&i); return a[0] * 10 + a[1] + i; }") 9 (Exit 72 [])
    ∷ []

-- turns of loops, and jumps back into blocks
abbrev pub turns : List Program
turns =
    -- turns of a for
    one_unit (codes "int putchar(int); int main(void) { int i; for (i = 0; i < 3; i++) { if (i == 1) continue; putchar('a' + i); } return 0; }") 1 (Running [])
    ∷ one_unit (codes "int putchar(int); int main(void) { int i; for (i = 0; i < 3; i++) { if (i == 1) continue; putchar('a' + i); } return 0; }") 2 (Running (codes "a"))
    ∷ one_unit (codes "int putchar(int); int main(void) { int i; for (i = 0; i < 3; i++) { if (i == 1) continue; putchar('a' + i); } return 0; }") 3 (Running (codes "a"))
    ∷ one_unit (codes "int putchar(int); int main(void) { int i; for (i = 0; i < 3; i++) { if (i == 1) continue; putchar('a' + i); } return 0; }") 4 (Running (codes "ac"))
    ∷ one_unit (codes "int putchar(int); int main(void) { int i; for (i = 0; i < 3; i++) { if (i == 1) continue; putchar('a' + i); } return 0; }") 5 (Exit 0 (codes "ac"))
    -- cases in a loop
    ∷ one_unit (codes "int putchar(int); int main(void) { int n = 2; switch (7 % 4) { case 0: do { putchar('x'); case 3: putchar('x'); case 2: putchar('x'); case 1: putchar('x'); } while (--n > 0); } return 0; }") 1 (Running (codes "xxx"))
    ∷ one_unit (codes "int putchar(int); int main(void) { int n = 2; switch (7 % 4) { case 0: do { putchar('x'); case 3: putchar('x'); case 2: putchar('x'); case 1: putchar('x'); } while (--n > 0); } return 0; }") 2 (Exit 0 (codes "xxxxxxx"))
    -- a jump back into a block
    ∷ one_unit (codes "int main(void) { int k = 0; again: { int x; if (k) return x == 4; x = 4; k = 1; goto again; } }") 1 (Running [])
    ∷ one_unit (codes "int main(void) { int k = 0; again: { int x; if (k) return x == 4; x = 4; k = 1; goto again; } }") 2 (Undefined [])
    ∷ []

-- names, and how runs end
abbrev pub names_and_ends : List Program
names_and_ends =
    -- a name that is a type and an object
    one_unit (codes "typedef int T; int main(void) { int r; { int T = 6, x = 7; T * x; r = T * x; } { T * x = 0; return r + (x == 0); } }") 9 (Exit 43 [])
    -- designators
    ∷ one_unit (codes "int a[] = { [2] = 5, 1, [0] = 9 }; char s[3] = \"abc\"; int main(void) { return sizeof a / sizeof a[0] * 10 + a[0] + a[2] + a[3] + (s[2] == 'c'); }") 9 (Exit 56 [])
    -- an operand that is not evaluated
    ∷ one_unit (codes "int main(void) { int x = 1; return sizeof(x++) + x; }") 9 (Exit 5 [])
    -- output before undefined behaviour
    ∷ one_unit (codes "int putchar(int); int main(void) { putchar('a'); return 1 / 0; }") 9 (Undefined (codes "a"))
    -- statuses
    ∷ one_unit (codes "int main(void) { return 258; }") 9 (Exit 2 [])
    -- exit
    ∷ one_unit (codes "void exit(int); int main(void) { exit(-1); }") 9 (Exit 255 [])
    -- abort
    ∷ one_unit (codes "void abort(void); int main(void) { abort(); }") 9 (Exit 134 [])
    -- malloc beyond its limit
    ∷ one_unit (codes "void *malloc(unsigned long); int main(void) { return malloc(67108865) == 0; }") 9 (Exit 1 [])
    -- scopes
    ∷ one_unit (codes "int main(void) { int x = 1; { int x = 2; if (x) x = 3; } return x; }") 9 (Exit 1 [])
    ∷ []

-- operands, members and aggregates as values
abbrev pub expressions : List Program
expressions =
    -- short circuits
    one_unit (codes "int main(void) { int a = 0; return (a && 1 / a) + (a ? 1 / a : 6) + (-1 < 1u); }") 9 (Exit 6 [])
    -- anonymous members
    ∷ one_unit (codes "struct s { int a; union { int b; char c; }; }; int main(void) { struct s x = { 1, { 258 } }; return x.c + x.a; }") 9 (Exit 3 [])
    -- a left operand is read first
    ∷ one_unit (codes "int main(void) { int x = 1; return x + (x = 3); }") 9 (Exit 4 [])
    -- compound assignment reads first
    ∷ one_unit (codes "int x = 1; int f(void) { x = 10; return 2; } int main(void) { x += f(); return x; }") 9 (Exit 3 [])
    -- struct results
    ∷ one_unit (codes "struct s { int a[2]; int b; }; struct s f(int n) { struct s x = { { n, n + 1 }, n + 2 }; return x; } int main(void) { return f(1).b + f(4).a[1]; }") 9 (Exit 8 [])
    -- an array in a value lives as long as its block
    ∷ one_unit (codes "struct s { int a[2]; }; struct s f(void) { struct s x = { { 3, 4 } }; return x; } int main(void) { int *p; { p = f().a; p[1] = p[1] + p[0]; if (p[1] != 7) return 1; } return *p; }") 9 (Undefined [])
    ∷ []

-- compound literals, static objects, and what may not be changed
abbrev pub literals_and_statics : List Program
literals_and_statics =
    -- compound literals
    one_unit (codes "int main(void) { int *p = (int []){ 1, 2, 3 }; p[1] = 5; return p[0] + p[1] + p[2]; }") 9 (Exit 9 [])
    -- a compound literal lives as long as its block
    ∷ one_unit (codes "int main(void) { int *p; { p = &(int){ 4 }; } return *p; }") 9 (Undefined [])
    -- a compound literal is initialised each time
    ∷ one_unit (codes "int main(void) { int s = 0; for (int i = 0; i < 3; i++) { int *p = &(int){ 1 }; s += (*p)++; } return s; }") 9 (Exit 3 [])
    -- statics
    ∷ one_unit (codes "int next(void) { static int n = 3; return n++; } int main(void) { next(); next(); return next(); }") 9 (Exit 5 [])
    -- storing into a literal
    ∷ one_unit (codes "int main(void) { char *s = \"ab\"; s[0] = 99; return 0; }") 9 (Undefined [])
    -- compound literals outside functions may be changed
    ∷ one_unit (codes "int *p = (int [2]){ 1, 2 }; char *s = (char []){ \"ab\" }; int main(void) { p[1] = 5; s[0] = 3; return p[0] + p[1] + s[0]; }") 9 (Exit 9 [])
    -- storing into a const object
    ∷ one_unit (codes "int main(void) { const int x = 1; *(int *)&x = 2; return x; }") 9 (Undefined [])
    -- storing into a const object of the unit
    ∷ one_unit (codes "const int x = 1; int main(void) { *(int *)&x = 2; return x; }") 9 (Undefined [])
    -- a const object is initialised each time
    ∷ one_unit (codes "int main(void) { int s = 0; for (int i = 0; i < 3; i++) { const int x = i; s += x; } return s; }") 9 (Exit 3 [])
    ∷ []

-- gotos, and the objects of loops
abbrev pub jumps : List Program
jumps =
    -- labels in both directions
    one_unit (codes "int main(void) { int i = 0, s = 0; back: if (i == 3) goto out; s += i; i++; goto back; out: return s; }") 3 (Running [])
    ∷ one_unit (codes "int main(void) { int i = 0, s = 0; back: if (i == 3) goto out; s += i; i++; goto back; out: return s; }") 4 (Exit 3 [])
    -- a goto into a block
    ∷ one_unit (codes "int main(void) { int x = 1; goto in; { int y; y = 5; in: y = 7; x = y; } return x; }") 1 (Exit 7 [])
    -- a goto into the second side of an if
    ∷ one_unit (codes "int main(void) { int x = 2; if (x) { goto no; } else { x = 9; no: x = x + 1; } return x; }") 1 (Exit 3 [])
    -- a goto into the first side of an if
    ∷ one_unit (codes "int main(void) { int n = 0; if (n) { back: n = n + 5; } else { n = 1; goto back; } return n; }") 1 (Running [])
    ∷ one_unit (codes "int main(void) { int n = 0; if (n) { back: n = n + 5; } else { n = 1; goto back; } return n; }") 2 (Exit 6 [])
    -- a goto into a loop
    ∷ one_unit (codes "int main(void) { int n = 0; goto in; while (n < 3) { n = n + 1; in: n = n + 1; } return n; }") 2 (Running [])
    ∷ one_unit (codes "int main(void) { int n = 0; goto in; while (n < 3) { n = n + 1; in: n = n + 1; } return n; }") 3 (Exit 3 [])
    -- a goto out of loops
    ∷ one_unit (codes "int main(void) { for (int i = 0; ; i++) for (int j = 0; ; j++) if (i + j == 2) goto out; out: return 4; }") 9 (Exit 4 [])
    -- an object is made anew behind its declaration
    ∷ one_unit (codes "int main(void) { int n = 0; int *p = 0; while (n < 2) { int x; if (n == 1) return x; x = 7; n++; } return 0; }") 9 (Undefined [])
    -- an object of a for
    ∷ one_unit (codes "int main(void) { int s = 0; for (int i = 4; i; i--) s += i; return s; }") 9 (Exit 10 [])
    ∷ []

-- switch statements
abbrev pub switches : List Program
switches =
    -- a switch with a default
    one_unit (codes "int f(int x) { switch (x) { case 1: return 10; default: x = 20; break; case 3: x = 30; } return x; } int main(void) { return f(1) + f(2) + f(3); }") 9 (Exit 60 [])
    -- a switch in a switch
    ∷ one_unit (codes "int main(void) { int s = 0; switch (2) { case 1: s += 1; case 2: switch (1) { case 2: s += 10; case 1: s += 100; } s += 2; break; case 3: s += 4; } return s; }") 9 (Exit 102 [])
    -- a switch in a loop
    ∷ one_unit (codes "int main(void) { int s = 0; for (int i = 0; i < 4; i++) { switch (i) { case 1: continue; case 2: break; default: s += 1; } s += 10; } return s; }") 9 (Exit 32 [])
    -- do and continue
    ∷ one_unit (codes "int main(void) { int n = 0; do { n++; if (n == 2) continue; n += 10; } while (n < 20); return n; }") 9 (Exit 22 [])
    -- enumerators in expressions
    ∷ one_unit (codes "int main(void) { int n = sizeof(enum { A = 3, B }); return n + A + B; }") 9 (Exit 11 [])
    ∷ []

-- pointers, recursion and calls
abbrev pub pointers_and_calls : List Program
pointers_and_calls =
    -- a pointer into an array
    one_unit (codes "int a[4] = { 1, 2, 3, 4 }; int main(void) { int *p = a, *q = &a[4]; int s = 0; while (p < q) s += *p++; return s + (q - a); }") 9 (Exit 14 [])
    -- an address past the end is not read
    ∷ one_unit (codes "int a[4]; int main(void) { return *(a + 4); }") 9 (Undefined [])
    -- a pointer to an object that is dead
    ∷ one_unit (codes "int main(void) { int *p; { int x = 3; p = &x; } return *p; }") 9 (Undefined [])
    -- recursion
    ∷ one_unit (codes "int f(int n) { return n < 2 ? 1 : n * f(n - 1); } int main(void) { return f(5); }") 5 (Running [])
    ∷ one_unit (codes "int f(int n) { return n < 2 ? 1 : n * f(n - 1); } int main(void) { return f(5); }") 6 (Exit 120 [])
    -- calls through pointers
    ∷ one_unit (codes "int twice(int x) { return 2 * x; } int thrice(int x) { return 3 * x; } int (*t[2])(int) = { twice, &thrice }; int main(void) { return t[0](5) + (*t[1])(4); }") 9 (Exit 22 [])
    -- a call with other kinds
    ∷ one_unit (codes "long f(long x) { return x; } int main(void) { int (*g)(int) = (int (*)(int))f; return g(1); }") 9 (Undefined [])
    -- a function without a prototype
    ∷ one_unit (codes "int f(); int main(void) { return f(3, 4); } int f(int a, int b) { return a * 10 + b; }") 9 (Exit 34 [])
    -- no value is returned
    ∷ one_unit (codes "int f(void) { } int main(void) { return f() + 1; }") 9 (Undefined [])
    ∷ []

-- unions, initialisers and operators on bits
abbrev pub unions_and_bytes : List Program
unions_and_bytes =
    -- unions
    one_unit (codes "union u { int n; unsigned char b[4]; }; int main(void) { union u x; x.n = 258; return x.b[0] * 10 + x.b[1]; }") 9 (Exit 21 [])
    -- a union is made zero for another member
    ∷ one_unit (codes "union u { int n; struct { char a, b; } s; }; int main(void) { union u x = { .n = 65535, .s.b = 1 }; return x.s.a + x.s.b; }") 9 (Exit 1 [])
    -- assignment of structs
    ∷ one_unit (codes "struct s { int a, b; }; int main(void) { struct s x = { 1, 2 }, y, z; z = y = x; y.a = 9; return z.a * 10 + y.b + x.a; }") 9 (Exit 13 [])
    -- converted initialisers
    ∷ one_unit (codes "int main(void) { unsigned char a[3] = { 257, -1 }; _Bool b = 8; return a[0] + a[2] + b + (a[1] == 255); }") 9 (Exit 3 [])
    -- bits
    ∷ one_unit (codes "int main(void) { unsigned x = 0xF0; x >>= 4; x |= 1u << 5; x ^= 3; return ~~x & 63; }") 9 (Exit 44 [])
    -- characters
    ∷ one_unit (codes "int main(void) { return '\\n' + \"ab\\0c\"[3] - 'c' + sizeof \"xyz\"; }") 9 (Exit 14 [])
    -- a comma
    ∷ one_unit (codes "int main(void) { int x = 1; return (x = 5, x + 1); }") 9 (Exit 6 [])
    -- pointers as truth
    ∷ one_unit (codes "int main(void) { int x, *p = &x, *q = 0; return (p ? 1 : 0) + (!q) * 2 + (p && !q) * 4 + (p != q) * 8; }") 9 (Exit 15 [])
    ∷ []

-- conversions at assignments, arguments and operators
abbrev pub conversions : List Program
conversions =
    -- an argument is converted
    one_unit (codes "int f(_Bool b) { return b; } int main(void) { return f(8); }") 9 (Exit 1 [])
    -- an assigned value is converted
    ∷ one_unit (codes "int main(void) { _Bool b; int x; b = 8; x = b; b = &x; return x * 2 + b; }") 9 (Exit 3 [])
    -- a returned value is converted
    ∷ one_unit (codes "_Bool f(int x) { return x; } int main(void) { return f(8); }") 9 (Exit 1 [])
    -- a compound assignment is converted
    ∷ one_unit (codes "int main(void) { _Bool b = 1, c = 0; b += 3; c--; return b * 2 + c; }") 9 (Exit 3 [])
    -- the operands of a conditional are converted
    ∷ one_unit (codes "int main(void) { return ((1 ? -1 : 0u) > 0) + (_Bool)8; }") 9 (Exit 2 [])
    -- an argument without a parameter is promoted
    ∷ one_unit (codes "int f(); int main(void) { char c = 3; return f(c); } int f(int x) { return x; }") 9 (Exit 3 [])
    -- an array in a value is one for each place
    ∷ one_unit (codes "struct s { int a[1]; }; struct s f(int n) { struct s x = { { n } }; return x; } int main(void) { int *p = f(3).a, *q = f(4).a; return *p * 10 + *q; }") 9 (Exit 34 [])
    ∷ []

-- which objects live in which block
abbrev pub blocks : List Program
blocks =
    -- objects of a block that is entered again
    one_unit (codes "int main(void) { int n = 0, s = 0; again: { int x = n; s += x; if (n++ < 3) goto again; } return s; }") 9 (Exit 6 [])
    -- a jump out of a block ends its objects
    ∷ one_unit (codes "int main(void) { int *p; { int x = 5; p = &x; goto out; } out: return *p; }") 9 (Undefined [])
    -- a step of a for
    ∷ one_unit (codes "int main(void) { int i, s = 0; for (i = 0; i < 4; s += i, i++) ; return s * 10 + i; }") 9 (Exit 64 [])
    -- a condition with a compound literal
    ∷ one_unit (codes "int main(void) { int s = 0; while (s < *&(int){ 3 }) s++; do s++; while ((int []){ 5, 0 }[0] > s); return s; }") 9 (Exit 5 [])
    -- a compound literal in a substatement
    ∷ one_unit (codes "int main(void) { int s = 0; if (1) s = *&(int){ 4 }; while (s < 6) s += *(int []){ 1, 2 }; return s; }") 9 (Exit 6 [])
    -- a substatement is a block
    ∷ one_unit (codes "int main(void) { int *p; if (1) p = &(int){ 4 }; return *p; }") 9 (Undefined [])
    -- a declaration that is reached again
    ∷ one_unit (codes "int main(void) { int n = 0; back: ; int x; if (n++) return x; x = 7; goto back; }") 9 (Undefined [])
    -- a const object whose declaration is reached again
    ∷ one_unit (codes "int main(void) { int n = 0; back: ; const int x = n; if (n++ < 2) goto back; return x; }") 9 (Exit 2 [])
    -- without a main
    ∷ one_unit (codes "int f(void) { return 0; }") 0 (Undefined [])
    ∷ []

-- what initialisers leave out, bounds of tentative definitions, and promotions
abbrev pub initialisers_and_bounds : List Program
initialisers_and_bounds =
    -- what a brace list leaves out is zero
    one_unit (codes "int main(void) { int n = 9; { int a[3] = { 9, 9, 9 }; n = a[2]; } { int a[3] = { 1 }; struct { int x, y[2]; } s = { .y[1] = 3 }; return n + a[0] + a[1] + a[2] + s.x + s.y[0] + s.y[1]; } }") 1 (Exit 13 [])
    -- designators, and characters behind a literal
    ∷ one_unit (codes "int a[2][2] = { [1] = { 3 }, [0][1] = 4 }; int main(void) { struct { char s[4]; int n; } x = { \"ab\", .n = 5 }; return a[0][0] + a[0][1] * 10 + a[1][0] + a[1][1] + x.s[2] + x.s[3] + x.n; }") 1 (Exit 48 [])
    -- a tentative array takes the bound of another declaration
    ∷ one_unit (codes "int a[]; extern int a[3]; int main(void) { a[2] = 4; return a[2]; }") 1 (Exit 4 [])
    -- of a declaration in a block too (own)
    ∷ one_unit (codes "int a[]; int f(void) { extern int a[3]; a[2] = 4; return a[2]; } int main(void) { return f() + a[2]; }") 9 (Exit 8 [])
    -- else it has one element
    ∷ one_unit (codes "int a[]; int main(void) { return a[1]; }") 1 (Undefined [])
    -- narrow unsigned types are promoted to int
    ∷ one_unit (codes "int main(void) { unsigned char c = 255; unsigned short s = 1; return (-c < 0) + (s - 2 < 0) * 2 + (~c < 0) * 4; }") 1 (Exit 7 [])
    ∷ []

-- units that are linked
abbrev pub linked_units : List Program
linked_units =
    -- types of three units
    units (codes "struct node { struct node *next; struct list *owner; }; struct list { struct node *head; }; int count(struct list *l) { int n = 0; struct node *p; for (p = l->head; p; p = p->next) n++; return n; }" ∷ codes "struct list { struct node *head; }; struct node { struct node *next; struct list *owner; }; struct node one; void add(struct list *l) { one.next = l->head; one.owner = l; l->head = &one; }" ∷ codes "struct node; struct list { struct node *head; }; struct node { struct node *next; struct list *owner; }; int count(struct list *); void add(struct list *); static struct list all; int main(void) { add(&all); return count(&all); }" ∷ []) [] [] 9 (Exit 1 [])
    -- types of one tag that differ
    ∷ units (codes "struct s { int a; }; static struct s v; int main(void) { v.a = 3; return v.a; }" ∷ codes "struct s { long a; }; long g(struct s *p) { return p->a; }" ∷ []) [] [] 9 (Exit 3 [])
    -- a type that one unit leaves incomplete
    ∷ units (codes "struct s; struct s *make(void); int get(struct s *); int main(void) { return get(make()); }" ∷ codes "struct s { int a; }; static struct s one = { 9 }; struct s *make(void) { return &one; } int get(struct s *p) { return p->a; }" ∷ []) [] [] 9 (Exit 9 [])
    -- internal and external names
    ∷ units (codes "static int n = 1; int f(void) { return n; }" ∷ codes "static int n = 2; int g(void) { return n; }" ∷ codes "int n = 4; int f(void); int g(void); int main(void) { return f() + g() * 10 + n; }" ∷ []) [] [] 3 (Exit 25 [])
    -- a name that no unit defines
    ∷ units (codes "extern int x; int main(void) { return x; }" ∷ codes "int f(void) { return 0; }" ∷ []) [] [] 9 (Undefined [])
    -- an array whose bound one unit knows
    ∷ units (codes "extern int x[]; int *p(void) { return x; } int main(void) { return p()[1]; }" ∷ codes "int x[2] = { 1, 6 };" ∷ []) [] [] 9 (Exit 6 [])
    ∷ []

-- words, input and the host
abbrev pub environments : List Program
environments =
    -- input
    units (codes "int getchar(void); int putchar(int); int main(void) { int c; while ((c = getchar()) != -1) putchar(c); return 0; }" ∷ []) [] (codes "hi\n") 3 (Running (codes "hi"))
    ∷ units (codes "int getchar(void); int putchar(int); int main(void) { int c; while ((c = getchar()) != -1) putchar(c); return 0; }" ∷ []) [] (codes "hi\n") 4 (Running (codes "hi\n"))
    ∷ units (codes "int getchar(void); int putchar(int); int main(void) { int c; while ((c = getchar()) != -1) putchar(c); return 0; }" ∷ []) [] (codes "hi\n") 5 (Exit 0 (codes "hi\n"))
    -- words
    ∷ units (codes "int main(int argc, char **argv) { return argc * 16 + argv[1][0] - 'a'; }" ∷ []) (codes "p" ∷ codes "c" ∷ []) [] 9 (Exit 34 [])
    -- the words may be changed
    ∷ units (codes "int main(int argc, char *argv[]) { argv[0][0] = 7; return argv[0][0] + (argv[argc] == 0); }" ∷ []) (codes "ab" ∷ []) [] 9 (Exit 8 [])
    -- the fill of the host
    ∷ units (codes "void *__builtin_memset(void *, int, unsigned long); int main(void) { int a[2]; __builtin_memset(a, 1, sizeof a); return a[1] == 16843009; }" ∷ []) [] [] 9 (Exit 1 [])
    ∷ []

-- units of which tentative definitions are common
abbrev pub common_definitions : List Program
common_definitions =
    -- a tentative definition beside another one
    units (codes "int n = 7;" ∷ codes "int n; int main(void) { return n; }" ∷ []) [] [] 9 (Exit 7 [])
    -- tentative definitions alone
    ∷ units (codes "int n; void set(void) { n = 4; }" ∷ codes "int n; void set(void); int main(void) { set(); return n; }" ∷ []) [] [] 9 (Exit 4 [])
    -- the greatest of the sizes
    ∷ units (codes "int a[1]; int f(void) { return a[0]; }" ∷ codes "extern int a[]; int f(void); int main(void) { a[2] = 3; return a[2] + f(); }" ∷ codes "int a[3];" ∷ []) [] [] 9 (Exit 3 [])
    -- a definition is followed by zero bytes
    ∷ units (codes "int a[1] = { 5 };" ∷ codes "extern int a[]; int main(void) { return a[0] + a[2]; }" ∷ codes "int a[3];" ∷ []) [] [] 9 (Exit 5 [])
    -- of tentative definitions alone one is of a const object, first or last (own)
    ∷ units (codes "const int n;" ∷ codes "int n; int main(void) { n = 1; return n; }" ∷ []) [] [] 9 (Undefined [])
    ∷ units (codes "int n; int main(void) { n = 1; return n; }" ∷ codes "const int n;" ∷ []) [] [] 9 (Undefined [])
    -- beside another definition they do not count (own)
    ∷ units (codes "const int n;" ∷ codes "int n = 1; int main(void) { n = 2; return n; }" ∷ []) [] [] 9 (Exit 2 [])
    ∷ []

-- a unit, with its outcome where long and pointers have 8 bytes, and where they have 4
abbrev pub by_model : List ℕ → Outcome → Outcome → Program × Program
by_model text eight four = (one_unit text 9 eight, one_unit text 9 four)

abbrev pub where_eight : List (Program × Program) → List Program
where_eight ps = map (λ (x : Program × Program). x.0) ps

abbrev pub where_four : List (Program × Program) → List Program
where_four ps = map (λ (x : Program × Program). x.1) ps

-- what the data model decides; the statuses are those of gcc, and of gcc -m32 -malign-double
abbrev pub models : List (Program × Program)
models =
    -- sizes of long and of a pointer
    by_model (codes "int main(void) { return sizeof(long) * 10 + sizeof(char *); }") (Exit 88 []) (Exit 44 [])
    -- long of four bytes lacks values of unsigned int (6.3.1.8p1)
    ∷ by_model (codes "int main(void) { return -1L < 1U; }") (Exit 1 []) (Exit 0 [])
    -- long long is aligned to its size in both
    ∷ by_model (codes "int main(void) { return sizeof(struct { char a; long long b; }); }") (Exit 16 []) (Exit 16 [])
    -- the first type of a constant's list that has its value (6.4.4.1p5)
    ∷ by_model (codes "int main(void) { return sizeof(2147483648) * 10 + sizeof 1L; }") (Exit 88 []) (Exit 84 [])
    -- a constant that unsigned int has
    ∷ by_model (codes "int main(void) { return sizeof 4294967295 * 10 + sizeof 4294967295U; }") (Exit 84 []) (Exit 84 [])
    -- alignment of long
    ∷ by_model (codes "int main(void) { return _Alignof(long) * 10 + sizeof(struct { char a; long b; }); }") (Exit 96 []) (Exit 48 [])
    -- types that name each other
    ∷ by_model (codes "struct t; struct s { struct t *x; }; struct t { struct s (*p)[3]; }; int main(void) { return sizeof(struct t); }") (Exit 8 []) (Exit 4 [])
    -- pointers to arrays of structs
    ∷ by_model (codes "struct t; struct s { struct t *x; }; struct t { struct s (*p)[3]; char c; }; int main(void) { return sizeof(struct t); }") (Exit 16 []) (Exit 8 [])
    -- unsigned long is reduced
    ∷ by_model (codes "int main(void) { return 4294967295UL + 1 == 0; }") (Exit 0 []) (Exit 1 [])
    -- a shift within the width
    ∷ by_model (codes "int main(void) { return (1UL << 31) * 2 > 0; }") (Exit 1 []) (Exit 0 [])
    -- a difference has the type long (6.5.6p9)
    ∷ by_model (codes "int a[4]; int main(void) { return sizeof(&a[3] - &a[0]) * 10 + (&a[3] - &a[0]); }") (Exit 83 []) (Exit 43 [])
    -- long long beside unsigned long
    ∷ by_model (codes "int main(void) { long x = 2147483647; long long y = x; unsigned long z = -1; return (y + 1 > 0) + 2 * (z + 0LL == -1) + 4 * (z + 0LL > 0); }") (Exit 7 []) (Exit 5 [])
    -- an array of structs with pointers
    ∷ by_model (codes "struct s { int *p; char c; } v[2]; int main(void) { v[1].p = &(int){ 5 }; v[0] = v[1]; return *v[0].p * 10 + sizeof v / sizeof v[0].p; }") (Exit 54 []) (Exit 54 [])
    -- a pointer stays what it is in an integer type of its size alone (own)
    ∷ by_model (codes "int x = 3; int main(void) { int *p = &x; return *(int *)(int)p; }") (Undefined []) (Exit 3 [])
    -- a signed result that long has not is undefined (6.5p5)
    ∷ by_model (codes "int main(void) { return 2147483647L + 1 > 0; }") (Exit 1 []) (Undefined [])
    -- so is a shift by the width (6.5.7p3)
    ∷ by_model (codes "int main(void) { return (1UL << 32) != 0; }") (Exit 1 []) (Undefined [])
    -- the host takes an unsigned long
    ∷ by_model (codes "void *malloc(unsigned long); int main(void) { int *p = malloc(sizeof *p); *p = 7; return *p + sizeof p; }") (Exit 15 []) (Exit 11 [])
    -- so does the fill of the host
    ∷ by_model (codes "void *__builtin_memset(void *, int, unsigned long); int main(void) { long a[2]; __builtin_memset(a, 1, sizeof a); return a[1] == 16843009; }") (Exit 0 []) (Exit 1 [])
    ∷ []

-- words are pointers of either size
abbrev pub models_of_words : List (Program × Program)
models_of_words = (
  units (codes "int main(int argc, char **argv) { return argc * 10 + (argv[1][0] == 'c') + (argv[argc] == 0) + sizeof argv[0]; }" ∷ []) (codes "p" ∷ codes "c" ∷ []) [] 9 (Exit 30 []),
  units (codes "int main(int argc, char **argv) { return argc * 10 + (argv[1][0] == 'c') + (argv[argc] == 0) + sizeof argv[0]; }" ∷ []) (codes "p" ∷ codes "c" ∷ []) [] 9 (Exit 26 []),
)
    ∷ []
