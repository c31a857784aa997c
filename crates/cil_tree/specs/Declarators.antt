-- Definition: how types and numbers are spelled (C11 6.4.4.1, 6.7.6, 6.7.7), as tokens.
use Rattle.std.specs.Prelude.{ℕ, suc, ◌||◌, Bool, true, false, if◌then◌else◌, nat_eq, List, [], ◌∷◌, ◌++◌, Option, Some, None, codes, decimal, slice_get, ℤ, pos, negsuc, unsigned_abs}
use Rattle.std.specs.Ordering.{int_eq}
use Rattle.cil_base.specs.declared.kinds.IntKind.{IntKind}
use Rattle.cil_base.specs.Integer.{words_of, suffix_of, least, greatest}
use Rattle.type_graph.specs.declared.aggregates.AggKind.{AggKind}
use Rattle.type_graph.specs.declared.aggregates.AggKind.TheVariants.{Struct, Union, Enum}
use Rattle.type_graph.specs.declared.aggregates.Aggregate.{Aggregate}
use Rattle.type_graph.specs.Shapes.{Shape, Shapes, VoidType, IntType, PtrType, ArrayType, FuncType, AggType, NoTypes, MoreTypes}
use Rattle.cil_tree.specs.Tree.{Program}
use Rattle.cil_tree.specs.Typing.{is_array, is_function}
use Rattle.cil_tree.specs.View.{text_at}
use Rattle.cil_tree.specs.Lines.{Token}

-- the words of bytes in which one blank stands between two
abbrev pub words_from : Token → List ℕ → List Token
words_from word [] = word ∷ []
words_from word (b ∷ bytes) = if nat_eq b 32 then word ∷ words_from [] bytes else words_from (word ++ b ∷ []) bytes

abbrev pub kind_words : IntKind → List Token
kind_words kind = words_from [] (words_of kind)

abbrev pub keyword_of : AggKind → Token
keyword_of Struct = codes "struct"
keyword_of Union = codes "union"
keyword_of Enum = codes "enum"

abbrev pub tag_text : Program → Aggregate → Token
tag_text p x = elim x.tag [ None ↦ [] | Some n ↦ text_at p.names n ]

-- a struct, union or enum by its tag (C11 6.7.2.3)
abbrev pub tagged : Program → Aggregate → List Token
tagged p x = keyword_of x.kind ∷ tag_text p x ∷ []

abbrev pub aggregate_words : Program → ℕ → List Token
aggregate_words p a = elim (slice_get p.graph.aggs a) [ None ↦ [] | Some x ↦ tagged p x ]

-- a pointer's `*` stands in parentheses before an array or a function (C11 6.7.6p3)
abbrev pub starred : Shape → List Token → List Token
starred s inner = if is_array s || is_function s then codes "(" ∷ codes "*" ∷ (inner ++ codes ")" ∷ []) else codes "*" ∷ inner

abbrev pub bound_tokens : Option ℕ → List Token
bound_tokens None = []
bound_tokens (Some n) = decimal n ∷ []

-- a list whose parts are separated by `,`
abbrev pub separated : List Token → List Token → List Token
separated first [] = first
separated first (token ∷ rest) = first ++ codes "," ∷ token ∷ rest

-- the parameters of a type with a prototype or without one (C11 6.7.6.3p10, p14), and `, ...` where more arguments may follow (p9)
abbrev pub ended : Bool → List Token → List Token
ended true tokens = tokens ++ codes "," ∷ codes "..." ∷ []
ended false tokens = tokens

abbrev pub listed : Bool → Bool → List Token → List Token
listed false variadic tokens = []
listed true variadic [] = codes "void" ∷ []
listed true variadic (token ∷ tokens) = ended variadic (token ∷ tokens)

abbrev pub in_parentheses : List Token → List Token
in_parentheses tokens = codes "(" ∷ (tokens ++ codes ")" ∷ [])

abbrev mutual
  -- a declaration of what the inner tokens are, which are a name, nothing, or a declarator around it
  pub declared : Program → Shape → List Token → List Token
  declared p VoidType inner = codes "void" ∷ inner
  declared p (IntType kind) inner = kind_words kind ++ inner
  declared p (PtrType q s) inner = declared p s (starred s inner)
  declared p (ArrayType q s bound) inner = declared p s (inner ++ codes "[" ∷ (bound_tokens bound ++ codes "]" ∷ []))
  declared p (FuncType ret params proto variadic) inner = declared p ret (inner ++ in_parentheses (listed proto variadic (all_declared p params)))
  declared p (AggType a) inner = aggregate_words p a ++ inner

  -- the parameters without names, separated by `,`
  pub all_declared : Program → Shapes → List Token
  all_declared p NoTypes = []
  all_declared p (MoreTypes s more) = separated (declared p s []) (all_declared p more)

-- a type, where there is one
abbrev pub type_tokens : Program → Option Shape → List Token → List Token
type_tokens p None inner = inner
type_tokens p (Some s) inner = declared p s inner

-- digits with the suffix of the kind (C11 6.4.4.1), in one token
abbrev pub digits : IntKind → ℕ → Token
digits kind n = decimal n ++ suffix_of kind

-- a value of a kind: a negative one is `-` and its absolute value's digits, and the least one, whose absolute value no constant has, is `- M - 1` with M the greatest
abbrev pub number : IntKind → ℤ → List Token
number kind (pos n) = digits kind n ∷ []
number kind (negsuc n) =
    if int_eq (negsuc n) (least kind)
    then codes "-" ∷ digits kind (unsigned_abs (greatest kind)) ∷ codes "-" ∷ codes "1" ∷ []
    else codes "-" ∷ digits kind (suc n) ∷ []
