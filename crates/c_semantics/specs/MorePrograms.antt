-- Device: more programs with their outcomes, as those of `Programs`: of values with arrays in them, of a sample's units, and one of great height.
use Rattle.std.specs.Prelude.{ℕ, zero, suc, codes, List, [], ◌∷◌, ◌++◌}
use Rattle.cil_base.specs.declared.runs.Outcome.TheVariants.{Exit, Running, Undefined}
use Rattle.c_semantics.specs.Programs.{Program, units, one_unit}

-- a value of which an array is asked for is an object: of its size, with the array at its offset
abbrev pub arrays_in_values : List Program
arrays_in_values =
    one_unit (codes "struct s { int n; int a[2]; }; struct s f(void) { struct s x = { 1, { 2, 3 } }; return x; } int main(void) { return f().a[0] * 10 + f().a[1]; }") 9 (Exit 23 [])
    -- misaligned in it
    ∷ one_unit (codes "struct s { int n; int a[2]; }; struct s f(void) { struct s x = { 1, { 2, 0 } }; return x; } int main(void) { return *(long long *)f().a; }") 9 (Undefined [])
    ∷ one_unit (codes "struct s { char n; char c[7]; }; struct s f(void) { struct s x = { 1, { 2 } }; return x; } int main(void) { return *(int *)f().c; }") 9 (Undefined [])
    -- misaligned in the outermost value, and past the member's end there
    ∷ one_unit (codes "struct t { int n; struct { int a[2]; } s; }; struct t f(void) { struct t x = { 1, { { 2, 0 } } }; return x; } int main(void) { return *(long long *)f().s.a; }") 9 (Undefined [])
    ∷ one_unit (codes "struct t { int n; struct { int a[2]; } s; }; struct t f(void) { struct t x = { 1, { { 2, 5 } } }; return x; } int main(void) { return f().s.a[0] + f().s.a[1]; }") 9 (Exit 7 [])
    ∷ one_unit (codes "struct t { int n; struct { int a[2]; }; }; struct t f(void) { struct t x = { 1, { { 2, 0 } } }; return x; } int main(void) { return *(long long *)f().a; }") 9 (Undefined [])
    -- an array without a bound
    ∷ one_unit (codes "struct s { int n; int a[]; }; struct s f(void) { struct s x; x.n = 1; return x; } int main(void) { int *p = f().a; return p != 0; }") 9 (Exit 1 [])
    ∷ []

-- compound literals in what is not asked for: in a bound, a case label and an enumerator, which are constant expressions, in an operand of `sizeof`, and in a bound in its type
abbrev pub unasked_literals : List Program
unasked_literals =
    one_unit (codes "int main(void) { int a[1 ? 2 : *(int []){ 3 }]; return sizeof a == 2 * sizeof(int); }") 9 (Exit 1 [])
    ∷ one_unit (codes "int main(void) { switch (2) { case 1 ? 2 : *(int []){ 3 }: return 4; } return 5; }") 9 (Exit 4 [])
    ∷ one_unit (codes "int main(void) { enum { E = 1 ? 6 : *(int []){ 3 } }; int x = *(int []){ E }; return x; }") 9 (Exit 6 [])
    ∷ one_unit (codes "int main(void) { int n = sizeof((int []){ 1, 2, 3 }) / sizeof(int); return n + sizeof(char [1 ? 4 : *(int []){ 3 }]) + *(int []){ 1 }; }") 9 (Exit 8 [])
    ∷ []

-- the units of a sample: the seed 1, two units

abbrev pub first_sample : List ℕ
first_sample = codes "struct node { struct node *next; struct list *owner; int value; };\nstruct list { struct node *head; int count; };\nextern struct list all;\nstatic struct node cell = { 0, &all, 38 };\nstatic int twist(int x) { return x * 8 + cell.value; }\nint work_0(int n) {\n  struct node *p; int i, s = 0;\n  cell.next = all.head; all.head = &cell; all.count++;\n  for (i = 0; i < n; i++) s = (s + twist(i)) & 1023;\n  for (p = all.head; p; p = p->next) s = (s + p->value) & 1023;\n  return s;\n}\nint work_0(int n);\nint work_1(int n);\nint putchar(int);\nstruct list all;\nstatic void put(int v) { if (v > 9) put(v / 10); putchar('0' + v % 10); }\nint main(void) {\n  int t = 0;\n  t = (t + work_0(10)) & 1023; put(t); putchar('\\n');\n  t = (t + work_1(10)) & 1023; put(t); putchar('\\n');\n  return all.count;\n}\n"

abbrev pub second_sample : List ℕ
second_sample = codes "struct list { struct node *head; int count; };\nstruct node { struct node *next; struct list *owner; int value; };\nextern struct list all;\nstatic struct node cell = { 0, &all, 13 };\nstatic int twist(int x) { return x * 2 + cell.value; }\nint work_1(int n) {\n  struct node *p; int i, s = 0;\n  cell.next = all.head; all.head = &cell; all.count++;\n  for (i = 0; i < n; i++) s = (s + twist(i)) & 1023;\n  for (p = all.head; p; p = p->next) s = (s + p->value) & 1023;\n  return s;\n}\n"

abbrev pub samples : List Program
samples =
    units (first_sample ∷ second_sample ∷ []) [] [] 54 (Running (codes "778\n"))
    ∷ units (first_sample ∷ second_sample ∷ []) [] [] 55 (Exit 2 (codes "778\n25\n"))
    ∷ []

-- a declaration of the greatest height

abbrev pub so_many : ℕ → ℕ → List ℕ
so_many zero byte = []
so_many (suc n) byte = byte ∷ so_many n byte

abbrev pub in_parentheses : ℕ → List ℕ
in_parentheses n = codes "int main(void) { return " ++ (so_many n 40 ++ (codes "0" ++ (so_many n 41 ++ codes "; }")))

abbrev pub highest : List Program
highest = one_unit (in_parentheses 508) 1 (Exit 0 []) ∷ []
