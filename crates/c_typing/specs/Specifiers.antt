-- Definition: declaration specifiers (C11 6.7.1, 6.7.2, 6.7.3): which lists of them are a type, which storage classes stand where, and qualified types.
use Rattle.std.specs.Prelude.{ℕ, suc, Bool, true, false, not, ◌&&◌, ◌||◌, nat_eq, List, [], ◌∷◌, Option, Some, None, length, is_some, if◌then◌else◌}
use Rattle.std.specs.Option.{option_map}
use Rattle.cil_base.specs.declared.kinds.Abi.{Abi}
use Rattle.cil_base.specs.declared.kinds.IntKind.{IntKind}
use Rattle.cil_base.specs.declared.kinds.IntKind.TheVariants.{Bool as Boolean, Char, SChar, UChar, Short, UShort, Int, UInt, LLong, ULLong}
use Rattle.cil_base.specs.Integer.{long_of, ulong_of}
use Rattle.type_graph.specs.declared.nodes.Quals.{Quals}
use Rattle.type_graph.specs.Shapes.{Shape, VoidType, IntType, PtrType, ArrayType, FuncType}
use Rattle.c_tree.specs.declared.words.StorageClass.{StorageClass}
use Rattle.c_tree.specs.declared.words.StorageClass.TheVariants as class
use Rattle.c_tree.specs.declared.words.BasicType.{BasicType}
use Rattle.c_tree.specs.declared.words.BasicType.TheVariants as word
use Rattle.c_tree.specs.declared.words.Qualifier.{Qualifier}
use Rattle.c_tree.specs.declared.words.Qualifier.TheVariants as qualifier
use Rattle.c_tree.specs.declared.words.FunctionSpecifier.TheVariants as functional
use Rattle.c_tree.specs.Syntax.{SpecifierTree, Storage, Basic, Qualified, Functional, TypedefName, Tag, StructBody, EnumBody, SpecifierTrees, NoSpecifiers, MoreSpecifiers}
use Rattle.c_rules.specs.Types.{CType, plain, joined, is_object}

-- one word
abbrev pub same_word : BasicType → BasicType → Bool
same_word word.Void word.Void = true
same_word word.Char word.Char = true
same_word word.Short word.Short = true
same_word word.Int word.Int = true
same_word word.Long word.Long = true
same_word word.Signed word.Signed = true
same_word word.Unsigned word.Unsigned = true
same_word word.Bool word.Bool = true
same_word _ _ = false

-- the words without one
abbrev pub without : BasicType → List BasicType → Option (List BasicType)
without w [] = None
without w (v ∷ vs) = elim (same_word w v) [ true ↦ Some vs | false ↦ option_map (λ rest. v ∷ rest) (without w vs) ]

-- the same words in any order, each as often
abbrev pub same_words : List BasicType → List BasicType → Bool
same_words [] [] = true
same_words [] (v ∷ vs) = false
same_words (w ∷ ws) vs = elim (without w vs) [ None ↦ false | Some rest ↦ same_words ws rest ]

-- words, and the type that they name in each data model
pub record Row : Type 0 where
  pub words : List BasicType
  pub shape : Abi → Shape

abbrev pub row : List BasicType → IntKind → Row
row ws kind = record { words = ws; shape = λ abi. IntType kind }

-- a kind that the data model has
abbrev pub row_by : List BasicType → (Abi → IntKind) → Row
row_by ws kind = record { words = ws; shape = λ abi. IntType (kind abi) }

-- the lists of type specifiers (6.7.2p2)
abbrev pub rows : List Row
rows =
    record { words = word.Void ∷ []; shape = λ abi. VoidType }
    ∷ row (word.Char ∷ []) Char
    ∷ row (word.Signed ∷ word.Char ∷ []) SChar
    ∷ row (word.Unsigned ∷ word.Char ∷ []) UChar
    ∷ row (word.Short ∷ []) Short ∷ row (word.Signed ∷ word.Short ∷ []) Short ∷ row (word.Short ∷ word.Int ∷ []) Short ∷ row (word.Signed ∷ word.Short ∷ word.Int ∷ []) Short
    ∷ row (word.Unsigned ∷ word.Short ∷ []) UShort ∷ row (word.Unsigned ∷ word.Short ∷ word.Int ∷ []) UShort
    ∷ row (word.Int ∷ []) Int ∷ row (word.Signed ∷ []) Int ∷ row (word.Signed ∷ word.Int ∷ []) Int
    ∷ row (word.Unsigned ∷ []) UInt ∷ row (word.Unsigned ∷ word.Int ∷ []) UInt
    ∷ row_by (word.Long ∷ []) long_of ∷ row_by (word.Signed ∷ word.Long ∷ []) long_of ∷ row_by (word.Long ∷ word.Int ∷ []) long_of ∷ row_by (word.Signed ∷ word.Long ∷ word.Int ∷ []) long_of
    ∷ row_by (word.Unsigned ∷ word.Long ∷ []) ulong_of ∷ row_by (word.Unsigned ∷ word.Long ∷ word.Int ∷ []) ulong_of
    ∷ row (word.Long ∷ word.Long ∷ []) LLong ∷ row (word.Signed ∷ word.Long ∷ word.Long ∷ []) LLong ∷ row (word.Long ∷ word.Long ∷ word.Int ∷ []) LLong ∷ row (word.Signed ∷ word.Long ∷ word.Long ∷ word.Int ∷ []) LLong
    ∷ row (word.Unsigned ∷ word.Long ∷ word.Long ∷ []) ULLong ∷ row (word.Unsigned ∷ word.Long ∷ word.Long ∷ word.Int ∷ []) ULLong
    ∷ row (word.Bool ∷ []) Boolean
    ∷ []

abbrev pub row_of : List BasicType → List Row → Option (Abi → Shape)
row_of ws [] = None
row_of ws (r ∷ rs) = elim (same_words r.words ws) [ true ↦ Some r.shape | false ↦ row_of ws rs ]

-- the type that a list of words names in a data model
abbrev pub basic_shape : Abi → List BasicType → Option Shape
basic_shape abi ws = option_map (λ (of : Abi → Shape). of abi) (row_of ws rows)

-- what stands among some specifiers

abbrev pub words_in : SpecifierTrees → List BasicType
words_in NoSpecifiers = []
words_in (MoreSpecifiers (Basic at w) ss) = w ∷ words_in ss
words_in (MoreSpecifiers _ ss) = words_in ss

abbrev pub classes_in : SpecifierTrees → List StorageClass
classes_in NoSpecifiers = []
classes_in (MoreSpecifiers (Storage at c) ss) = c ∷ classes_in ss
classes_in (MoreSpecifiers _ ss) = classes_in ss

-- a typedef name, a tag or a body: a type specifier that is no word
abbrev pub is_named : SpecifierTree → Bool
is_named (Storage at c) = false
is_named (Basic at w) = false
is_named (Qualified at q) = false
is_named (Functional at f) = false
is_named (TypedefName at x) = true
is_named (Tag at kind x) = true
is_named (StructBody at kind tag ms) = true
is_named (EnumBody at tag es comma) = true

abbrev pub named_in : SpecifierTrees → ℕ
named_in NoSpecifiers = 0
named_in (MoreSpecifiers s ss) = if is_named s then suc (named_in ss) else named_in ss

abbrev pub count_specifiers : SpecifierTrees → ℕ
count_specifiers NoSpecifiers = 0
count_specifiers (MoreSpecifiers s ss) = suc (count_specifiers ss)

abbrev pub with_qualifier : Qualifier → Quals → Quals
with_qualifier qualifier.Const q = record { constant = true; restricted = q.restricted }
with_qualifier qualifier.Restrict q = record { constant = q.constant; restricted = true }

-- the qualifiers of a list; one that stands twice counts once (6.7.3p5)
abbrev pub qualifiers : List Qualifier → Quals
qualifiers [] = plain
qualifiers (q ∷ qs) = with_qualifier q (qualifiers qs)

abbrev pub qualifiers_in : SpecifierTrees → Quals
qualifiers_in NoSpecifiers = plain
qualifiers_in (MoreSpecifiers (Qualified at q) ss) = with_qualifier q (qualifiers_in ss)
qualifiers_in (MoreSpecifiers _ ss) = qualifiers_in ss

-- `inline` (6.7.4)
abbrev pub is_inline : SpecifierTrees → Bool
is_inline NoSpecifiers = false
is_inline (MoreSpecifiers (Functional at functional.Inline) ss) = true
is_inline (MoreSpecifiers _ ss) = is_inline ss

-- a structure or union body without a tag (6.7.2.1p13)
abbrev pub is_tagless_body : SpecifierTree → Bool
is_tagless_body (StructBody at kind None ms) = true
is_tagless_body _ = false

abbrev pub has_tagless_body : SpecifierTrees → Bool
has_tagless_body NoSpecifiers = false
has_tagless_body (MoreSpecifiers s ss) = is_tagless_body s || has_tagless_body ss

-- where some specifiers stand
pub data Position : Type 0 where
  AtFile : Position
  InBlock : Position
  -- the first clause of a `for`
  InFor : Position
  InParameter : Position
  -- a function definition
  Defining : Position
  -- a member or a type name
  NoStorage : Position

-- the storage classes that stand there (6.7.1p2, p7, 6.7.6.3p2, 6.8.5p3, 6.9p2, 6.9.1p4)
abbrev pub may_stand : Position → StorageClass → Bool
may_stand AtFile class.Typedef = true
may_stand AtFile class.Extern = true
may_stand AtFile class.Static = true
may_stand InBlock c = true
may_stand InFor class.Auto = true
may_stand InFor class.Register = true
may_stand InParameter class.Register = true
may_stand Defining class.Extern = true
may_stand Defining class.Static = true
may_stand _ _ = false

-- at most one storage class, and one that may stand there
abbrev pub are_classes : Position → List StorageClass → Bool
are_classes p [] = true
are_classes p (c ∷ []) = may_stand p c
are_classes p (c ∷ d ∷ cs) = false

-- one type specifier that is no word and no words, or a list of words of the table
abbrev pub are_types : SpecifierTrees → Bool
are_types ss = if nat_eq (named_in ss) 0 then is_some (row_of (words_in ss) rows) else nat_eq (named_in ss) 1 && nat_eq (length (words_in ss)) 0

-- the constraint on specifiers (6.7.1p2, 6.7.2p2)
abbrev pub are_specifiers : Position → SpecifierTrees → Bool
are_specifiers p ss = are_classes p (classes_in ss) && are_types ss

-- the storage class
abbrev pub class_of : SpecifierTrees → Option StorageClass
class_of ss = elim (classes_in ss) [ [] ↦ None | c ∷ cs ↦ Some c ]

-- qualified types (6.7.3)

-- `restrict` stands on a pointer to an object type (6.7.3p2), and on no array of such (own, where p9 would give it to the elements)
abbrev pub takes_restrict : Shape → Bool
takes_restrict (PtrType q s) = is_object s
takes_restrict _ = false

abbrev pub is_wrong_restrict : Quals → Shape → Bool
is_wrong_restrict q s = q.restricted && not (takes_restrict s)
