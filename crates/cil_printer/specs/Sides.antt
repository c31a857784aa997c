-- Device: the tokens of a declaration before and behind what it declares, and a table of their lengths.
use Rattle.std.specs.Prelude.{◌≡◌, ℕ, ◌||◌, Bool, true, if◌then◌else◌, List, [], ◌∷◌, ◌++◌, Some, codes, slice_get, length}
use Rattle.cil_base.specs.declared.numbers.TypeId.{TypeId}
use Rattle.type_graph.specs.Shapes.{Shape, VoidType, IntType, PtrType, ArrayType, FuncType, AggType, shape}
use Rattle.cil_tree.specs.Tree.{Program}
use Rattle.cil_tree.specs.Typing.{is_array, is_function}
use Rattle.cil_tree.specs.Lines.{Token}
use Rattle.cil_tree.specs.Declarators.{kind_words, aggregate_words, bound_tokens, in_parentheses, listed, all_declared, declared}
use Rattle.cil_tree.specs.Text.{in_brackets}
use Rattle.cil_printer.specs.declared.sides.Sides.{Sides}
use Rattle.cil_printer.specs.Spaced.{spaced}
use Rattle.cil_printer.specs.Output.{Output, counts, capped}

-- the type is an array or a function, before which a pointer's `*` stands in parentheses
abbrev pub is_grouped : Shape → Bool
is_grouped s = is_array s || is_function s

abbrev pub star : Shape → List Token
star s = if is_grouped s then codes "(" ∷ codes "*" ∷ [] else codes "*" ∷ []

abbrev pub star_end : Shape → List Token
star_end s = if is_grouped s then codes ")" ∷ [] else []

-- what stands before the declared
abbrev pub before : Program → Shape → List Token
before p VoidType = codes "void" ∷ []
before p (IntType kind) = kind_words kind
before p (PtrType q s) = before p s ++ star s
before p (ArrayType q s bound) = before p s
before p (FuncType ret params proto variadic) = before p ret
before p (AggType a) = aggregate_words p a

-- what stands behind it
abbrev pub after : Program → Shape → List Token
after p VoidType = []
after p (IntType kind) = []
after p (PtrType q s) = star_end s ++ after p s
after p (ArrayType q s bound) = in_brackets (bound_tokens bound) ++ after p s
after p (FuncType ret params proto variadic) = in_parentheses (listed proto variadic (all_declared p params)) ++ after p ret
after p (AggType a) = []

-- the parts of a list, each behind a comma
abbrev pub following : List (List Token) → List Token
following [] = []
following (part ∷ parts) = codes "," ∷ (part ++ following parts)

-- the entries are the lengths of the first types' tokens, each with its blank
pub record AreSides (sides : List Sides) (p : Program) : Type 0 where
  pub before : (t : ℕ) (x : Sides) → slice_get sides t ≡ Some x → x.before ≡ capped (length (spaced (before p (shape p.graph.nodes t))))
  pub after : (t : ℕ) (x : Sides) → slice_get sides t ≡ Some x → x.behind ≡ capped (length (spaced (after p (shape p.graph.nodes t))))

-- the declarations without names of types, as parameters are declared
abbrev pub type_parts : Program → List TypeId → List (List Token)
type_parts p [] = []
type_parts p (t ∷ ts) = declared p (shape p.graph.nodes t.0) [] ∷ type_parts p ts

-- what is known of an entry of the table where bytes are counted
pub record IsEntry (o : Output) (p : Program) (t : ℕ) (x : Sides) : Type 0 where
  pub counted : counts o ≡ true
  pub before : x.before ≡ capped (length (spaced (before p (shape p.graph.nodes t))))
  pub after : x.behind ≡ capped (length (spaced (after p (shape p.graph.nodes t))))

-- the entry has the lengths of a type's tokens
pub record IsSides (p : Program) (t : ℕ) (x : Sides) : Type 0 where
  pub before : x.before ≡ capped (length (spaced (before p (shape p.graph.nodes t))))
  pub after : x.behind ≡ capped (length (spaced (after p (shape p.graph.nodes t))))
