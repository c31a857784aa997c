-- Definition: the words that are not identifiers (C11 6.4.1; other spellings, exclusions and attributes are own).
use Rattle.std.specs.Prelude.{ℕ, Bool, true, false, ◌==◌, List, [], ◌∷◌, Option, Some, None, if◌then◌else◌, codes}
use Rattle.std.specs.Str.{bytes_eq}
use Rattle.cil_base.specs.declared.tokens.Keyword.TheVariants.{Alignof, Auto, Bool as BoolWord, Break, Case, Char, Const, Continue, Default, Do, Else, Enum, Extern, For, Goto, If, Inline, Int, Long, Noreturn, Register, Restrict, Return, Short, Signed, Sizeof, Static, StaticAssert, Struct, Switch, Typedef, Union, Unsigned, Void, While}
use Rattle.cil_base.specs.declared.faults.Feature.TheVariants.{Alignas, Assembly, Atomic, Complex, Floating, FuncName, Generic, Int128, Jump, ThreadLocal, Typeof, Varargs, Volatile}
use Rattle.cil_base.specs.Token.{keyword_spelling}
use Rattle.c_lexer.specs.declared.words.Spelled.{Spelled}
use Rattle.c_lexer.specs.declared.words.Spelled.TheVariants.{Keyword, UnderRestrict, UnderRestrictUnder, UnderInline, UnderInlineUnder, UnderConst, UnderSignedUnder, Float, Double, Volatile, UnderVolatile, UnderVolatileUnder, LowComplex, LowImaginary, LowAtomic, LowThreadLocal, UnderThread, LowAlignas, LowGeneric, Setjmp, Longjmp, Asm, UnderAsm, UnderAsmUnder, UnderBuiltinVaList, UnderBuiltinVaStart, UnderBuiltinVaArg, UnderBuiltinVaEnd, UnderBuiltinVaCopy, UnderInt128, UnderInt128T, UnderUint128T, UnderFuncUnder, UnderFunctionUpperUnder, Typeof, UnderTypeof, UnderTypeofUnder, UnderAutoType, UnderExtensionUnder, UnderAttributeUnder, UnderAttribute, NamedUnused, NamedUnderUnusedUnder, NamedNoreturn, NamedUnderNoreturnUnder, NamedUnderConstUnder, NamedPure, NamedUnderPureUnder, NamedNothrow, NamedUnderNothrowUnder, NamedLeaf, NamedUnderLeafUnder, NamedNonnull, NamedUnderNonnullUnder, NamedFormat, NamedUnderFormatUnder, NamedMalloc, NamedUnderMallocUnder, NamedWarnUnusedResult, NamedUnderWarnUnusedResultUnder, NamedDeprecated, NamedUnderDeprecatedUnder}
use Rattle.c_lexer.specs.declared.words.WordMeaning.{WordMeaning}
use Rattle.c_lexer.specs.declared.words.WordMeaning.TheVariants.{Keyword as IsKeyword, Excluded as IsExcluded, Skipped as IsSkipped, Attribute as IsAttribute, Name as IsName}

-- the words and the names of attributes as they are written
abbrev pub spelling : Spelled → List ℕ
spelling (Keyword keyword) = keyword_spelling keyword
spelling UnderRestrict = codes "__restrict"
spelling UnderRestrictUnder = codes "__restrict__"
spelling UnderInline = codes "__inline"
spelling UnderInlineUnder = codes "__inline__"
spelling UnderConst = codes "__const"
spelling UnderSignedUnder = codes "__signed__"
spelling Float = codes "float"
spelling Double = codes "double"
spelling Volatile = codes "volatile"
spelling UnderVolatile = codes "__volatile"
spelling UnderVolatileUnder = codes "__volatile__"
spelling LowComplex = codes "_Complex"
spelling LowImaginary = codes "_Imaginary"
spelling LowAtomic = codes "_Atomic"
spelling LowThreadLocal = codes "_Thread_local"
spelling UnderThread = codes "__thread"
spelling LowAlignas = codes "_Alignas"
spelling LowGeneric = codes "_Generic"
spelling Setjmp = codes "setjmp"
spelling Longjmp = codes "longjmp"
spelling Asm = codes "asm"
spelling UnderAsm = codes "__asm"
spelling UnderAsmUnder = codes "__asm__"
spelling UnderBuiltinVaList = codes "__builtin_va_list"
spelling UnderBuiltinVaStart = codes "__builtin_va_start"
spelling UnderBuiltinVaArg = codes "__builtin_va_arg"
spelling UnderBuiltinVaEnd = codes "__builtin_va_end"
spelling UnderBuiltinVaCopy = codes "__builtin_va_copy"
spelling UnderInt128 = codes "__int128"
spelling UnderInt128T = codes "__int128_t"
spelling UnderUint128T = codes "__uint128_t"
spelling UnderFuncUnder = codes "__func__"
spelling UnderFunctionUpperUnder = codes "__FUNCTION__"
spelling Typeof = codes "typeof"
spelling UnderTypeof = codes "__typeof"
spelling UnderTypeofUnder = codes "__typeof__"
spelling UnderAutoType = codes "__auto_type"
spelling UnderExtensionUnder = codes "__extension__"
spelling UnderAttributeUnder = codes "__attribute__"
spelling UnderAttribute = codes "__attribute"
spelling NamedUnused = codes "unused"
spelling NamedUnderUnusedUnder = codes "__unused__"
spelling NamedNoreturn = codes "noreturn"
spelling NamedUnderNoreturnUnder = codes "__noreturn__"
spelling NamedUnderConstUnder = codes "__const__"
spelling NamedPure = codes "pure"
spelling NamedUnderPureUnder = codes "__pure__"
spelling NamedNothrow = codes "nothrow"
spelling NamedUnderNothrowUnder = codes "__nothrow__"
spelling NamedLeaf = codes "leaf"
spelling NamedUnderLeafUnder = codes "__leaf__"
spelling NamedNonnull = codes "nonnull"
spelling NamedUnderNonnullUnder = codes "__nonnull__"
spelling NamedFormat = codes "format"
spelling NamedUnderFormatUnder = codes "__format__"
spelling NamedMalloc = codes "malloc"
spelling NamedUnderMallocUnder = codes "__malloc__"
spelling NamedWarnUnusedResult = codes "warn_unused_result"
spelling NamedUnderWarnUnusedResultUnder = codes "__warn_unused_result__"
spelling NamedDeprecated = codes "deprecated"
spelling NamedUnderDeprecatedUnder = codes "__deprecated__"

-- keywords and other spellings of them, words that are excluded, the one that is skipped and those that begin an attribute
abbrev pub spelled_meaning : Spelled → WordMeaning
spelled_meaning (Keyword keyword) = IsKeyword keyword
spelled_meaning UnderRestrict = IsKeyword Restrict
spelled_meaning UnderRestrictUnder = IsKeyword Restrict
spelled_meaning UnderInline = IsKeyword Inline
spelled_meaning UnderInlineUnder = IsKeyword Inline
spelled_meaning UnderConst = IsKeyword Const
spelled_meaning UnderSignedUnder = IsKeyword Signed
spelled_meaning Float = IsExcluded Floating
spelled_meaning Double = IsExcluded Floating
spelled_meaning Volatile = IsExcluded Volatile
spelled_meaning UnderVolatile = IsExcluded Volatile
spelled_meaning UnderVolatileUnder = IsExcluded Volatile
spelled_meaning LowComplex = IsExcluded Complex
spelled_meaning LowImaginary = IsExcluded Complex
spelled_meaning LowAtomic = IsExcluded Atomic
spelled_meaning LowThreadLocal = IsExcluded ThreadLocal
spelled_meaning UnderThread = IsExcluded ThreadLocal
spelled_meaning LowAlignas = IsExcluded Alignas
spelled_meaning LowGeneric = IsExcluded Generic
spelled_meaning Setjmp = IsExcluded Jump
spelled_meaning Longjmp = IsExcluded Jump
spelled_meaning Asm = IsExcluded Assembly
spelled_meaning UnderAsm = IsExcluded Assembly
spelled_meaning UnderAsmUnder = IsExcluded Assembly
spelled_meaning UnderBuiltinVaList = IsExcluded Varargs
spelled_meaning UnderBuiltinVaStart = IsExcluded Varargs
spelled_meaning UnderBuiltinVaArg = IsExcluded Varargs
spelled_meaning UnderBuiltinVaEnd = IsExcluded Varargs
spelled_meaning UnderBuiltinVaCopy = IsExcluded Varargs
spelled_meaning UnderInt128 = IsExcluded Int128
spelled_meaning UnderInt128T = IsExcluded Int128
spelled_meaning UnderUint128T = IsExcluded Int128
spelled_meaning UnderFuncUnder = IsExcluded FuncName
spelled_meaning UnderFunctionUpperUnder = IsExcluded FuncName
spelled_meaning Typeof = IsExcluded Typeof
spelled_meaning UnderTypeof = IsExcluded Typeof
spelled_meaning UnderTypeofUnder = IsExcluded Typeof
spelled_meaning UnderAutoType = IsExcluded Typeof
spelled_meaning UnderExtensionUnder = IsSkipped
spelled_meaning UnderAttributeUnder = IsAttribute
spelled_meaning UnderAttribute = IsAttribute
spelled_meaning _ = IsName

-- the words with a meaning, by their first byte
unfoldable pub words_with : ℕ → List Spelled
words_with first =
    if first == 95 then LowAlignas ∷ Keyword Alignof ∷ LowAtomic ∷ Keyword BoolWord ∷ LowComplex ∷ LowGeneric ∷ LowImaginary ∷ Keyword Noreturn ∷ Keyword StaticAssert ∷ LowThreadLocal ∷ UnderFunctionUpperUnder ∷ UnderAsm ∷ UnderAsmUnder ∷ UnderAttribute ∷ UnderAttributeUnder ∷ UnderAutoType ∷ UnderBuiltinVaArg ∷ UnderBuiltinVaCopy ∷ UnderBuiltinVaEnd ∷ UnderBuiltinVaList ∷ UnderBuiltinVaStart ∷ UnderConst ∷ UnderExtensionUnder ∷ UnderFuncUnder ∷ UnderInline ∷ UnderInlineUnder ∷ UnderInt128 ∷ UnderInt128T ∷ UnderRestrict ∷ UnderRestrictUnder ∷ UnderSignedUnder ∷ UnderThread ∷ UnderTypeof ∷ UnderTypeofUnder ∷ UnderUint128T ∷ UnderVolatile ∷ UnderVolatileUnder ∷ [] else
    (if first == 97 then Asm ∷ Keyword Auto ∷ [] else
    (if first == 98 then Keyword Break ∷ [] else
    (if first == 99 then Keyword Case ∷ Keyword Char ∷ Keyword Const ∷ Keyword Continue ∷ [] else
    (if first == 100 then Keyword Default ∷ Keyword Do ∷ Double ∷ [] else
    (if first == 101 then Keyword Else ∷ Keyword Enum ∷ Keyword Extern ∷ [] else
    (if first == 102 then Float ∷ Keyword For ∷ [] else
    (if first == 103 then Keyword Goto ∷ [] else
    (if first == 105 then Keyword If ∷ Keyword Inline ∷ Keyword Int ∷ [] else
    (if first == 108 then Keyword Long ∷ Longjmp ∷ [] else
    (if first == 114 then Keyword Register ∷ Keyword Restrict ∷ Keyword Return ∷ [] else
    (if first == 115 then Setjmp ∷ Keyword Short ∷ Keyword Signed ∷ Keyword Sizeof ∷ Keyword Static ∷ Keyword Struct ∷ Keyword Switch ∷ [] else
    (if first == 116 then Keyword Typedef ∷ Typeof ∷ [] else
    (if first == 117 then Keyword Union ∷ Keyword Unsigned ∷ [] else
    (if first == 118 then Keyword Void ∷ Volatile ∷ [] else
    (if first == 119 then Keyword While ∷ [] else
    [])))))))))))))))

-- the one of some words that is written so
abbrev pub found : List Spelled → List ℕ → Option Spelled
found [] text = None
found (w ∷ ws) text = if bytes_eq text (spelling w) then Some w else found ws text

abbrev pub meaning_found : Option Spelled → WordMeaning
meaning_found None = IsName
meaning_found (Some w) = spelled_meaning w

abbrev pub first_byte : List ℕ → ℕ
first_byte [] = 0
first_byte (b ∷ bs) = b

-- what a word is
unfoldable pub word_meaning : List ℕ → WordMeaning
word_meaning text = meaning_found (found (words_with (first_byte text)) text)

-- the names of attributes that are skipped
abbrev pub skipped_names : List Spelled
skipped_names = NamedUnused ∷ NamedUnderUnusedUnder ∷ NamedNoreturn ∷ NamedUnderNoreturnUnder ∷ Keyword Const ∷ NamedUnderConstUnder ∷ NamedPure ∷ NamedUnderPureUnder ∷ NamedNothrow ∷ NamedUnderNothrowUnder ∷ NamedLeaf ∷ NamedUnderLeafUnder ∷ NamedNonnull ∷ NamedUnderNonnullUnder ∷ NamedFormat ∷ NamedUnderFormatUnder ∷ NamedMalloc ∷ NamedUnderMallocUnder ∷ NamedWarnUnusedResult ∷ NamedUnderWarnUnusedResultUnder ∷ NamedDeprecated ∷ NamedUnderDeprecatedUnder ∷ []

abbrev pub is_found : Option Spelled → Bool
is_found None = false
is_found (Some w) = true

abbrev pub is_skipped_name : List ℕ → Bool
is_skipped_name text = is_found (found skipped_names text)
