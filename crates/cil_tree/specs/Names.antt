-- Definition: which names a program may have (own, over C11 6.2.1, 6.2.3 and 6.4.1).
use Rattle.std.specs.Prelude.{◌≡◌, ℕ, ◌&&◌, ◌||◌, not, Bool, true, false, nat_eq, if◌then◌else◌, List, [], ◌∷◌, ◌++◌, Some, None, codes, map}
use Rattle.std.specs.List.{list_all, list_any}
use Rattle.std.specs.Str.{bytes_eq}
use Rattle.std.specs.Char.{is_ascii_digit, is_ascii_alphabetic}
use Rattle.cil_base.specs.declared.kinds.IntKind.TheVariants.{Int as int}
use Rattle.cil_base.specs.Integer.{ulong_of}
use Rattle.type_graph.specs.declared.aggregates.Aggregate.{Aggregate}
use Rattle.type_graph.specs.Shapes.{Shape, VoidType, IntType, FuncType, NoTypes, MoreTypes}
use Rattle.type_graph.specs.Arena.{Graph}
use Rattle.cil_tree.specs.Tree.{Local, Body, Definition, Declared, Function, GlobalDecl, Program}
use Rattle.cil_tree.specs.Typing.{is_type, is_enum, pointer_to}
use Rattle.cil_tree.specs.Declarators.{tag_text}
use Rattle.cil_tree.specs.Text.{member_name, concat_each}

-- the keywords of C11 (6.4.1p1)
abbrev pub keywords : List (List ℕ)
keywords =
    codes "auto" ∷ codes "break" ∷ codes "case" ∷ codes "char" ∷ codes "const" ∷ codes "continue" ∷ codes "default" ∷ codes "do" ∷ codes "double" ∷ codes "else" ∷ codes "enum"
    ∷ codes "extern" ∷ codes "float" ∷ codes "for" ∷ codes "goto" ∷ codes "if" ∷ codes "inline" ∷ codes "int" ∷ codes "long" ∷ codes "register" ∷ codes "restrict" ∷ codes "return"
    ∷ codes "short" ∷ codes "signed" ∷ codes "sizeof" ∷ codes "static" ∷ codes "struct" ∷ codes "switch" ∷ codes "typedef" ∷ codes "union" ∷ codes "unsigned" ∷ codes "void" ∷ codes "volatile"
    ∷ codes "while" ∷ codes "_Alignas" ∷ codes "_Alignof" ∷ codes "_Atomic" ∷ codes "_Bool" ∷ codes "_Complex" ∷ codes "_Generic" ∷ codes "_Imaginary" ∷ codes "_Noreturn" ∷ codes "_Static_assert" ∷ codes "_Thread_local" ∷ []

-- words outside C11's keywords that are ignored, are second spellings of keywords, or belong to forms this C leaves out (own)
abbrev pub other_words : List (List ℕ)
other_words =
    codes "__extension__" ∷ codes "__attribute__" ∷ codes "__attribute" ∷ codes "__restrict" ∷ codes "__restrict__" ∷ codes "__inline" ∷ codes "__inline__" ∷ codes "__const" ∷ codes "__signed__"
    ∷ codes "__volatile" ∷ codes "__volatile__" ∷ codes "__thread" ∷ codes "setjmp" ∷ codes "longjmp" ∷ codes "asm" ∷ codes "__asm" ∷ codes "__asm__"
    ∷ codes "__builtin_va_list" ∷ codes "__builtin_va_start" ∷ codes "__builtin_va_arg" ∷ codes "__builtin_va_end" ∷ codes "__builtin_va_copy"
    ∷ codes "__int128" ∷ codes "__int128_t" ∷ codes "__uint128_t" ∷ codes "__func__" ∷ codes "__FUNCTION__" ∷ codes "typeof" ∷ codes "__typeof" ∷ codes "__typeof__" ∷ codes "__auto_type" ∷ []

-- the functions of the host, whose names belong to file scope even where no unit declares them (own)
abbrev pub host_names : List (List ℕ)
host_names = codes "getchar" ∷ codes "putchar" ∷ codes "exit" ∷ codes "abort" ∷ codes "malloc" ∷ codes "free" ∷ codes "__builtin_memset" ∷ []

abbrev pub is_among : List (List ℕ) → List ℕ → Bool
is_among texts text = list_any (bytes_eq text) texts

-- no text stands twice
abbrev pub are_different : List (List ℕ) → Bool
are_different [] = true
are_different (text ∷ texts) = not (is_among texts text) && are_different texts

-- no text of the one list stands in the other
abbrev pub are_apart : List (List ℕ) → List (List ℕ) → Bool
are_apart texts others = not (list_any (is_among others) texts)

abbrev pub begins_word : ℕ → Bool
begins_word b = is_ascii_alphabetic b || nat_eq b 95

abbrev pub goes_on_word : ℕ → Bool
goes_on_word b = begins_word b || is_ascii_digit b

-- C11 6.4.2.1
abbrev pub is_identifier : List ℕ → Bool
is_identifier [] = false
is_identifier (b ∷ bytes) = begins_word b && list_all goes_on_word bytes

-- the second text begins with the first
abbrev pub begins : List ℕ → List ℕ → Bool
begins [] text = true
begins (b ∷ bytes) [] = false
begins (b ∷ bytes) (c ∷ text) = nat_eq b c && begins bytes text

abbrev pub is_builtin : List ℕ → Bool
is_builtin text = begins (codes "__builtin_") text

-- an identifier, no keyword, and no word that is skipped, respelled or excluded
abbrev pub is_name : List ℕ → Bool
is_name text = is_identifier text && (not (is_among keywords text) && not (is_among other_words text))

-- a name that does not begin with `__builtin_`
abbrev pub is_plain_name : List ℕ → Bool
is_plain_name text = is_name text && not (is_builtin text)

-- `void * ( void * , int , unsigned long )`
abbrev pub memset_type : Graph → Shape
memset_type g = FuncType (pointer_to VoidType) (MoreTypes (pointer_to VoidType) (MoreTypes (IntType int) (MoreTypes (IntType (ulong_of g.abi)) NoTypes))) true false

abbrev pub is_declared : Definition → Bool
is_declared Declared = true
is_declared _ = false

-- the one global whose name may begin with `__builtin_`
abbrev pub is_memset : Program → GlobalDecl → Bool
is_memset p x = bytes_eq x.name (codes "__builtin_memset") && (not x.internal && (is_declared x.definition && is_type x.type (memset_type p.graph)))

abbrev pub global_is_named : Program → GlobalDecl → Bool
global_is_named p x = is_name x.name && (not (is_builtin x.name) || is_memset p x)

abbrev pub member_names : Program → Aggregate → List (List ℕ)
member_names p x = elim x.members [ None ↦ [] | Some ms ↦ map (member_name p) ms ]

abbrev pub enumerators_of : Program → Aggregate → List (List ℕ)
enumerators_of p x = if is_enum x.kind then member_names p x else []

abbrev pub enumerators : Program → List (List ℕ)
enumerators p = concat_each (enumerators_of p) p.graph.aggs

abbrev pub global_name_of : GlobalDecl → List ℕ
global_name_of x = x.name

-- the ordinary names of file scope (C11 6.2.3)
abbrev pub file_names : Program → List (List ℕ)
file_names p = enumerators p ++ map global_name_of p.globals

-- a global that is internal has no name of the host
abbrev pub internal_is_apart : GlobalDecl → Bool
internal_is_apart x = not x.internal || not (is_among host_names x.name)

abbrev pub tags : Program → List (List ℕ)
tags p = map (tag_text p) p.graph.aggs

-- an aggregate's tag and members are named, and no two members alike (C11 6.2.3)
abbrev pub members_are_named : Program → Aggregate → Bool
members_are_named p x = is_plain_name (tag_text p x) && (list_all is_plain_name (member_names p x) && are_different (member_names p x))

abbrev pub local_name_of : Local → List ℕ
local_name_of x = x.name

-- a function's locals have names of their own, and so have its labels (C11 6.2.1p4, 6.2.3)
abbrev pub body_is_named : Program → Body → Bool
body_is_named p b =
    list_all is_plain_name (map local_name_of b.locals)
    && (are_different (map local_name_of b.locals)
    && (are_apart (map local_name_of b.locals) (file_names p)
    && (are_apart (map local_name_of b.locals) host_names
    && (list_all is_plain_name b.labels && are_different b.labels))))

abbrev pub definition_is_named : Program → Definition → Bool
definition_is_named p (Function body) = body_is_named p body
definition_is_named p _ = true

-- the rules of names
pub record AreNames (p : Program) : Type 0 where
  pub globals : list_all (global_is_named p) p.globals ≡ true
  pub enumerators : are_apart (enumerators p) host_names ≡ true
  pub internals : list_all internal_is_apart p.globals ≡ true
  pub file : are_different (file_names p) ≡ true
  pub tags : are_different (tags p) ≡ true
  pub members : list_all (members_are_named p) p.graph.aggs ≡ true
  pub bodies : list_all (λ (x : GlobalDecl). definition_is_named p x.definition) p.globals ≡ true
