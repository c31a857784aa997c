-- A run of three units with a header's text in each, which count the words of ten lines, in either data model; the outcomes were compared with those of the units compiled by gcc, and by gcc -m32.
use Rattle.std.specs.Prelude.{◌≡◌, ℕ, refl, codes, Some, List, [], ◌∷◌}
use Rattle.cil_base.specs.declared.kinds.Abi.TheVariants.{Lp64, Ilp32}
use Rattle.cil_base.specs.declared.runs.Outcome.TheVariants.{Exit}
use Rattle.c_semantics.specs.Text.{runs_with}

abbrev main_text : List ℕ
main_text = codes "# 0 \"main.c\"\n# 0 \"<built-in>\"\n# 1 \"main.c\"\n# 1 \"host.h\" 1\n__extension__ typedef unsigned long size_t;\nextern int getchar (void);\nextern int putchar (int __c);\nextern void exit (int __status) __attribute__ ((__noreturn__));\nextern void abort (void) __attribute__ ((__noreturn__));\nextern void *malloc (size_t __size) __attribute__ ((__malloc__));\nextern void free (void *__ptr);\n# 2 \"main.c\" 2\n# 1 \"table.h\" 1\nstruct entry { struct entry *next; char *word; unsigned int count; };\nstruct table { struct entry *slot[8]; int used; };\ntypedef void (*visitor)(const struct entry *);\nextern unsigned int *look(struct table *t, const char *w);\nextern void visit(const struct table *t, visitor f);\nextern int word(char *buf, int room);\n# 3 \"main.c\" 2\nstatic struct table table;\nstatic int hash = 0;\nstatic void number(unsigned int n) {\n  if (n > 9) number(n / 10);\n  putchar('0' + (int)(n % 10));\n}\nstatic void show(const struct entry *e) {\n  const char *s = e->word;\n  while (*s) putchar(*s++);\n  putchar(' '); number(e->count); putchar('\\n');\n}\nint main(void) {\n  char buf[32];\n  while (word(buf, sizeof buf)) { hash++; ++*look(&table, buf); }\n  visit(&table, show);\n  return hash == 160 ? table.used : 1;\n}\n"

abbrev table_text : List ℕ
table_text = codes "# 0 \"table.c\"\n# 0 \"<built-in>\"\n# 1 \"table.c\"\n# 1 \"host.h\" 1\n__extension__ typedef unsigned long size_t;\nextern int getchar (void);\nextern int putchar (int __c);\nextern void exit (int __status) __attribute__ ((__noreturn__));\nextern void abort (void) __attribute__ ((__noreturn__));\nextern void *malloc (size_t __size) __attribute__ ((__malloc__));\nextern void free (void *__ptr);\n# 2 \"table.c\" 2\n# 1 \"table.h\" 1\nstruct entry { struct entry *next; char *word; unsigned int count; };\nstruct table { struct entry *slot[8]; int used; };\ntypedef void (*visitor)(const struct entry *);\nextern unsigned int *look(struct table *t, const char *w);\nextern void visit(const struct table *t, visitor f);\nextern int word(char *buf, int room);\n# 3 \"table.c\" 2\nstatic unsigned int hash(const char *s) {\n  unsigned int h = 0;\n  while (*s) h = h * 31 + (unsigned char)*s++;\n  return h & 7;\n}\nstatic char *copy(const char *s) {\n  size_t n = 0, i;\n  char *r;\n  while (s[n]) n++;\n  if (!(r = malloc(n + 1))) exit(2);\n  for (i = 0; i <= n; i++) r[i] = s[i];\n  return r;\n}\nstatic int same(const char *a, const char *b) {\n  while (*a && *a == *b) a++, b++;\n  return *a == *b;\n}\nunsigned int *look(struct table *t, const char *w) {\n  struct entry **p = &t->slot[hash(w)], *e;\n  for (e = *p; e; e = e->next)\n    if (same(e->word, w)) return &e->count;\n  e = malloc(sizeof *e);\n  if (!e) exit(2);\n  e->next = *p; e->word = copy(w); e->count = 0;\n  t->used++;\n  return (*p = e, &e->count);\n}\nvoid visit(const struct table *t, visitor f) {\n  int i;\n  const struct entry *e;\n  for (i = 0; i < 8; i++)\n    for (e = t->slot[i]; e; e = e->next) f(e);\n}\n"

abbrev words_text : List ℕ
words_text = codes "# 0 \"words.c\"\n# 0 \"<built-in>\"\n# 1 \"words.c\"\n# 1 \"host.h\" 1\n__extension__ typedef unsigned long size_t;\nextern int getchar (void);\nextern int putchar (int __c);\nextern void exit (int __status) __attribute__ ((__noreturn__));\nextern void abort (void) __attribute__ ((__noreturn__));\nextern void *malloc (size_t __size) __attribute__ ((__malloc__));\nextern void free (void *__ptr);\n# 2 \"words.c\" 2\n# 1 \"table.h\" 1\nstruct entry { struct entry *next; char *word; unsigned int count; };\nstruct table { struct entry *slot[8]; int used; };\ntypedef void (*visitor)(const struct entry *);\nextern unsigned int *look(struct table *t, const char *w);\nextern void visit(const struct table *t, visitor f);\nextern int word(char *buf, int room);\n# 3 \"words.c\" 2\nint word(char *buf, int room) {\n  int c, n = 0;\n  while ((c = getchar()) == ' ' || c == '\\n') ;\n  while (c != (-1) && c != ' ' && c != '\\n' && n < room - 1) {\n    buf[n++] = (char)c;\n    c = getchar();\n  }\n  buf[n] = 0;\n  return n;\n}\n"

abbrev ten_lines : List ℕ
ten_lines = codes "to be is to\nto be is to\nto be is to\nto be is to\nto be is to\nto be is to\nto be is to\nto be is to\nto be is to\nto be is to\n"

words_are_counted : runs_with Lp64 (main_text ∷ table_text ∷ words_text ∷ []) [] ten_lines 2000 ≡ Some (Exit 1 (codes "is 10\nbe 10\nto 20\n"))
unfolding runs_with
words_are_counted = refl

words_of_four_are_counted : runs_with Ilp32 (main_text ∷ table_text ∷ words_text ∷ []) [] ten_lines 2000 ≡ Some (Exit 1 (codes "is 10\nbe 10\nto 20\n"))
unfolding runs_with
words_of_four_are_counted = refl
