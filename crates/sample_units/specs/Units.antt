-- Definition: the translation units of a sample, and their files' names (own). Each puts a cell into one list, which is an object of the first unit, and sums over it.
use Rattle.std.specs.Prelude.{ℕ, zero, suc, ◌%◌, List, [], ◌∷◌, ◌++◌, map, codes, decimal, if◌then◌else◌, ◌==◌}
use Rattle.std.specs.List.{concat, range_with_len}
use Rattle.sample_units.specs.Draws.{cell_of, factor_of}

-- the two structs name each other
unfoldable pub node_line : List ℕ
node_line = codes "struct node { struct node *next; struct list *owner; int value; };\n"

unfoldable pub list_line : List ℕ
list_line = codes "struct list { struct node *head; int count; };\n"

-- they change places in each second unit
abbrev pub struct_lines : ℕ → List ℕ
struct_lines u = if u % 2 == 0 then concat (node_line ∷ list_line ∷ []) else concat (list_line ∷ node_line ∷ [])

-- the words of the cell, and of the function that puts it into the list, before and behind the numbers in them
unfoldable pub cell_words : List ℕ
cell_words = codes "extern struct list all;\nstatic struct node cell = { 0, &all, "

unfoldable pub factor_words : List ℕ
factor_words = codes " };\nstatic int twist(int x) { return x * "

unfoldable pub work_words : List ℕ
work_words = codes " + cell.value; }\nint work_"

unfoldable pub work_rest : List ℕ
work_rest = codes "(int n) {\n  struct node *p; int i, s = 0;\n  cell.next = all.head; all.head = &cell; all.count++;\n  for (i = 0; i < n; i++) s = (s + twist(i)) & 1023;\n  for (p = all.head; p; p = p->next) s = (s + p->value) & 1023;\n  return s;\n}\n"

-- the cell, and the function that puts it into the list
abbrev pub work_lines : (cell factor u : ℕ) → List ℕ
work_lines cell factor u = concat (cell_words ∷ decimal cell ∷ factor_words ∷ decimal factor ∷ work_words ∷ decimal u ∷ work_rest ∷ [])

-- the declaration of a unit's function, and its call
unfoldable pub declaration_words : List ℕ
declaration_words = codes "int work_"

unfoldable pub declaration_rest : List ℕ
declaration_rest = codes "(int n);\n"

abbrev pub declaration_line : ℕ → List ℕ
declaration_line u = concat (declaration_words ∷ decimal u ∷ declaration_rest ∷ [])

unfoldable pub call_words : List ℕ
call_words = codes "  t = (t + work_"

unfoldable pub call_rest : List ℕ
call_rest = codes "(10)) & 1023; put(t); putchar('\\n');\n"

abbrev pub call_line : ℕ → List ℕ
call_line u = concat (call_words ∷ decimal u ∷ call_rest ∷ [])

-- what stands in the first unit alone: the list, and a main that calls each unit's function
unfoldable pub main_begin : List ℕ
main_begin = codes "int putchar(int);\nstruct list all;\nstatic void put(int v) { if (v > 9) put(v / 10); putchar('0' + v % 10); }\nint main(void) {\n  int t = 0;\n"

unfoldable pub main_end : List ℕ
main_end = codes "  return all.count;\n}\n"

abbrev pub main_lines : ℕ → List ℕ
main_lines units = concat (map declaration_line (range_with_len 0 units)) ++ (main_begin ++ (concat (map call_line (range_with_len 0 units)) ++ main_end))

abbrev pub rest_lines : (units u : ℕ) → List ℕ
rest_lines units zero = main_lines units
rest_lines units (suc u) = []

-- the text of unit u of so many, and the name of its file
abbrev pub unit_text : (seed units u : ℕ) → List ℕ
unit_text seed units u = struct_lines u ++ (work_lines (cell_of seed u) (factor_of seed u) u ++ rest_lines units u)

abbrev pub file_name : ℕ → List ℕ
file_name u = concat (codes "sample-" ∷ decimal u ∷ codes ".c" ∷ [])

-- the texts of so many units, and the names of their files
abbrev pub unit_texts : (seed units : ℕ) → List (List ℕ)
unit_texts seed units = map (unit_text seed units) (range_with_len 0 units)

abbrev pub file_names : ℕ → List (List ℕ)
file_names units = map file_name (range_with_len 0 units)
