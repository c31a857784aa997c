-- Device: the words that no name is, in groups.
use Rattle.std.specs.Prelude.{ℕ, List, [], ◌∷◌, codes}

abbrev pub words_1 : List (List ℕ)
words_1 = codes "auto" ∷ codes "break" ∷ codes "case" ∷ codes "char" ∷ codes "const" ∷ codes "continue" ∷ codes "default" ∷ codes "do" ∷ codes "double" ∷ codes "else" ∷ codes "enum" ∷ []

abbrev pub words_2 : List (List ℕ)
words_2 = codes "extern" ∷ codes "float" ∷ codes "for" ∷ codes "goto" ∷ codes "if" ∷ codes "inline" ∷ codes "int" ∷ codes "long" ∷ codes "register" ∷ codes "restrict" ∷ codes "return" ∷ []

abbrev pub words_3 : List (List ℕ)
words_3 = codes "short" ∷ codes "signed" ∷ codes "sizeof" ∷ codes "static" ∷ codes "struct" ∷ codes "switch" ∷ codes "typedef" ∷ codes "union" ∷ codes "unsigned" ∷ codes "void" ∷ codes "volatile" ∷ []

abbrev pub words_4 : List (List ℕ)
words_4 = codes "while" ∷ codes "_Alignas" ∷ codes "_Alignof" ∷ codes "_Atomic" ∷ codes "_Bool" ∷ codes "_Complex" ∷ codes "_Generic" ∷ codes "_Imaginary" ∷ codes "_Noreturn" ∷ codes "_Static_assert" ∷ codes "_Thread_local" ∷ []

abbrev pub words_5 : List (List ℕ)
words_5 = codes "__extension__" ∷ codes "__attribute__" ∷ codes "__attribute" ∷ codes "__restrict" ∷ codes "__restrict__" ∷ codes "__inline" ∷ codes "__inline__" ∷ codes "__const" ∷ codes "__signed__" ∷ []

abbrev pub words_6 : List (List ℕ)
words_6 = codes "__volatile" ∷ codes "__volatile__" ∷ codes "__thread" ∷ codes "setjmp" ∷ codes "longjmp" ∷ codes "asm" ∷ codes "__asm" ∷ codes "__asm__" ∷ []

abbrev pub words_7 : List (List ℕ)
words_7 = codes "__builtin_va_list" ∷ codes "__builtin_va_start" ∷ codes "__builtin_va_arg" ∷ codes "__builtin_va_end" ∷ codes "__builtin_va_copy" ∷ []

abbrev pub words_8 : List (List ℕ)
words_8 = codes "__int128" ∷ codes "__int128_t" ∷ codes "__uint128_t" ∷ codes "__func__" ∷ codes "__FUNCTION__" ∷ codes "typeof" ∷ codes "__typeof" ∷ codes "__typeof__" ∷ codes "__auto_type" ∷ []
