-- Definition: the numbers and texts of faults, of what is excluded, of violated constraints and of limits (own).
use Rattle.std.specs.Prelude.{◌≡◌, ℕ, Bool, true, false, List, is_some, codes}
use Rattle.cil_base.specs.declared.faults.Fault.{Fault}
use Rattle.cil_base.specs.declared.faults.Fault.TheVariants.{Lexical, Excluded, Syntax, Constraint, Limit, Duplicate, Incompatible}
use Rattle.cil_base.specs.declared.faults.Refusal.{Refusal}
use Rattle.cil_base.specs.declared.faults.Feature.{Feature}
use Rattle.cil_base.specs.declared.faults.Feature.TheVariants.{Floating, Volatile, Complex, Atomic, ThreadLocal, Alignas, Generic, Jump, Assembly, Varargs, Prefixed, MultiChar, Universal, Pack, Int128, FuncName, Typeof, Attribute, BitField, VariableArray, IdentifierList, ExternalInline, VariadicDefinition, FlexibleInit}
use Rattle.cil_base.specs.declared.faults.Code.{Code}
use Rattle.cil_base.specs.declared.faults.Code.TheVariants.{IntegerRange, Undeclared, Label, Redeclared, Conflict, Specifiers, Tag, Incomplete, FunctionType, ArraySize, NotConstant, EnumRange, Assertion, Initialiser, NotLvalue, NotModifiable, Operand, Assignment, Member, Call, Cast, Return, Outside, Case, Condition, Reserved, Restrict, Register, Defined}
use Rattle.cil_base.specs.declared.faults.What.{What}
use Rattle.cil_base.specs.declared.faults.What.TheVariants.{UnitBytes, TotalBytes, NameBytes, ObjectSize, Locals, Scalars, PrintedBytes}

-- the kinds of faults
abbrev pub fault_number : Fault → ℕ
fault_number Lexical = 1
fault_number (Excluded feature) = 2
fault_number Syntax = 3
fault_number (Constraint code) = 4
fault_number (Limit what) = 5
fault_number Duplicate = 6
fault_number Incompatible = 7

-- a syntax fault has the token at which it begins and the one at which it is found; a duplicate or an incompatible
-- declaration has the later and the earlier one
abbrev pub has_two_places : Fault → Bool
has_two_places Syntax = true
has_two_places Duplicate = true
has_two_places Incompatible = true
has_two_places _ = false

-- a refusal with the places that its fault has
abbrev pub IsPlaced : Refusal → Type 0
IsPlaced refusal = is_some refusal.other ≡ has_two_places refusal.fault

-- of two features at one token the lower number comes first
abbrev pub feature_number : Feature → ℕ
feature_number Floating = 1
feature_number Volatile = 2
feature_number Complex = 3
feature_number Atomic = 4
feature_number ThreadLocal = 5
feature_number Alignas = 6
feature_number Generic = 7
feature_number Jump = 8
feature_number Assembly = 9
feature_number Varargs = 10
feature_number Prefixed = 11
feature_number MultiChar = 12
feature_number Universal = 13
feature_number Pack = 14
feature_number Int128 = 15
feature_number FuncName = 16
feature_number Typeof = 17
feature_number Attribute = 18
feature_number BitField = 19
feature_number VariableArray = 20
feature_number IdentifierList = 21
feature_number ExternalInline = 22
feature_number VariadicDefinition = 23
feature_number FlexibleInit = 24

abbrev pub feature_text : Feature → List ℕ
feature_text Floating = codes "floating"
feature_text Volatile = codes "volatile"
feature_text Complex = codes "complex"
feature_text Atomic = codes "atomic"
feature_text ThreadLocal = codes "thread local"
feature_text Alignas = codes "alignas"
feature_text Generic = codes "generic"
feature_text Jump = codes "setjmp"
feature_text Assembly = codes "assembly"
feature_text Varargs = codes "va_list"
feature_text Prefixed = codes "prefixed literal"
feature_text MultiChar = codes "multi-character constant"
feature_text Universal = codes "universal character name"
feature_text Pack = codes "pragma pack"
feature_text Int128 = codes "int128"
feature_text FuncName = codes "function name"
feature_text Typeof = codes "typeof"
feature_text Attribute = codes "attribute"
feature_text BitField = codes "bit-field"
feature_text VariableArray = codes "variable length array"
feature_text IdentifierList = codes "identifier list"
feature_text ExternalInline = codes "external inline"
feature_text VariadicDefinition = codes "variadic definition"
feature_text FlexibleInit = codes "flexible array initialiser"

-- at one node the lower number comes first
abbrev pub code_number : Code → ℕ
code_number IntegerRange = 1
code_number Undeclared = 2
code_number Label = 3
code_number Redeclared = 4
code_number Conflict = 5
code_number Specifiers = 6
code_number Tag = 7
code_number Incomplete = 8
code_number FunctionType = 9
code_number ArraySize = 10
code_number NotConstant = 11
code_number EnumRange = 12
code_number Assertion = 13
code_number Initialiser = 14
code_number NotLvalue = 15
code_number NotModifiable = 16
code_number Operand = 17
code_number Assignment = 18
code_number Member = 19
code_number Call = 20
code_number Cast = 21
code_number Return = 22
code_number Outside = 23
code_number Case = 24
code_number Condition = 25
code_number Reserved = 26
code_number Restrict = 27
code_number Register = 28
code_number Defined = 29

abbrev pub code_text : Code → List ℕ
code_text IntegerRange = codes "integer range"
code_text Undeclared = codes "undeclared"
code_text Label = codes "label"
code_text Redeclared = codes "redeclared"
code_text Conflict = codes "conflict"
code_text Specifiers = codes "specifiers"
code_text Tag = codes "tag"
code_text Incomplete = codes "incomplete"
code_text FunctionType = codes "function type"
code_text ArraySize = codes "array size"
code_text NotConstant = codes "not constant"
code_text EnumRange = codes "enumerator range"
code_text Assertion = codes "assertion"
code_text Initialiser = codes "initialiser"
code_text NotLvalue = codes "not an lvalue"
code_text NotModifiable = codes "not modifiable"
code_text Operand = codes "operand"
code_text Assignment = codes "assignment"
code_text Member = codes "member"
code_text Call = codes "call"
code_text Cast = codes "cast"
code_text Return = codes "return"
code_text Outside = codes "outside"
code_text Case = codes "case"
code_text Condition = codes "condition"
code_text Reserved = codes "reserved"
code_text Restrict = codes "restrict"
code_text Register = codes "register"
code_text Defined = codes "defined"

-- the limits, numbered in the order in which they are looked at (own)
abbrev pub what_number : What → ℕ
what_number UnitBytes = 1
what_number TotalBytes = 2
what_number NameBytes = 3
what_number ObjectSize = 4
what_number Locals = 5
what_number Scalars = 6
what_number PrintedBytes = 7

abbrev pub what_text : What → List ℕ
what_text UnitBytes = codes "unit bytes"
what_text TotalBytes = codes "total bytes"
what_text NameBytes = codes "name bytes"
what_text ObjectSize = codes "object size"
what_text Locals = codes "locals"
what_text Scalars = codes "scalars"
what_text PrintedBytes = codes "printed bytes"
