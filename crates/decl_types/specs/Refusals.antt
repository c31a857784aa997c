-- Definition: what each step of a declaration may be refused for. No other fault is one of that step.
use Rattle.std.specs.Prelude.{◌≡◌, Bool, true, false}
use Rattle.cil_base.specs.declared.faults.Code.TheVariants.{Redeclared, Conflict, Specifiers, Tag, Incomplete, FunctionType, ArraySize, EnumRange, Initialiser, Reserved, Restrict, Defined}
use Rattle.cil_base.specs.declared.faults.Feature.TheVariants.{IdentifierList, ExternalInline, VariadicDefinition}
use Rattle.cil_base.specs.declared.faults.What.TheVariants.{ObjectSize, Locals}
use Rattle.cil_base.specs.declared.faults.Fault.{Fault}
use Rattle.cil_base.specs.declared.faults.Fault.TheVariants.{Excluded, Constraint, Limit}
use Rattle.cil_base.specs.declared.faults.RuleStop.{RuleStop}
use Rattle.cil_base.specs.declared.faults.RuleStop.TheVariants.{Bad, Memory}

-- a refusal for one of these faults; nothing is said where memory is wanting
abbrev pub IsRefusal : (Fault → Bool) → RuleStop → Type 0
IsRefusal faults (Bad fault) = faults fault ≡ true
IsRefusal faults Memory = Unit {0}

-- a storage class that does not fit (6.7.1p2, 6.7.6.3p2, 6.8.5p3, 6.9p2, 6.9.1p4)
abbrev pub of_heading : Fault → Bool
of_heading (Constraint Specifiers) = true
of_heading _ = false

-- specifiers: the type that they name, their tag and their qualifiers (6.7.2, 6.7.2.3, 6.7.3p2)
abbrev pub of_specifiers : Fault → Bool
of_specifiers (Constraint Specifiers) = true
of_specifiers (Constraint Tag) = true
of_specifiers (Constraint Reserved) = true
of_specifiers (Constraint Restrict) = true
of_specifiers (Limit ObjectSize) = true
of_specifiers _ = false

-- a member (6.7.2.1p3, p13)
abbrev pub of_member : Fault → Bool
of_member (Constraint Redeclared) = true
of_member (Constraint Incomplete) = true
of_member (Constraint FunctionType) = true
of_member (Constraint Reserved) = true
of_member _ = false

-- an anonymous member (6.7.2.1p13)
abbrev pub of_anonymous : Fault → Bool
of_anonymous (Constraint Redeclared) = true
of_anonymous _ = false

-- an enumerator (6.7.2.2p2, 6.7p3)
abbrev pub of_enumerator : Fault → Bool
of_enumerator (Constraint Redeclared) = true
of_enumerator (Constraint EnumRange) = true
of_enumerator (Constraint Reserved) = true
of_enumerator (Limit ObjectSize) = true
of_enumerator _ = false

-- the end of a body (6.7.2.1p8), and the qualifiers beside it (6.7.3p2)
abbrev pub of_body : Fault → Bool
of_body (Constraint Incomplete) = true
of_body (Constraint Restrict) = true
of_body (Limit ObjectSize) = true
of_body _ = false

-- an array (6.7.6.2p1)
abbrev pub of_array : Fault → Bool
of_array (Constraint Incomplete) = true
of_array (Constraint FunctionType) = true
of_array (Constraint ArraySize) = true
of_array (Limit ObjectSize) = true
of_array _ = false

-- a function (6.7.6.3p1)
abbrev pub of_function : Fault → Bool
of_function (Constraint FunctionType) = true
of_function (Limit ObjectSize) = true
of_function _ = false

-- a declared name (6.2.2, 6.7, 6.9)
abbrev pub of_declaration : Fault → Bool
of_declaration (Constraint Redeclared) = true
of_declaration (Constraint Conflict) = true
of_declaration (Constraint Specifiers) = true
of_declaration (Constraint Incomplete) = true
of_declaration (Constraint FunctionType) = true
of_declaration (Constraint Initialiser) = true
of_declaration (Constraint Reserved) = true
of_declaration (Constraint Defined) = true
of_declaration (Excluded IdentifierList) = true
of_declaration (Excluded ExternalInline) = true
of_declaration (Excluded VariadicDefinition) = true
of_declaration (Limit ObjectSize) = true
of_declaration (Limit Locals) = true
of_declaration _ = false

-- a parameter of a function that is defined (6.9.1p7)
abbrev pub of_parameter : Fault → Bool
of_parameter (Constraint Incomplete) = true
of_parameter (Limit Locals) = true
of_parameter _ = false

-- the bound that an initialiser gives (6.7p4, 6.7.9p22)
abbrev pub of_bound : Fault → Bool
of_bound (Constraint Conflict) = true
of_bound (Limit ObjectSize) = true
of_bound _ = false

-- an automatic object, or a compound literal in a function (own)
abbrev pub of_local : Fault → Bool
of_local (Limit Locals) = true
of_local _ = false

-- an initialiser where none may stand (6.7.9p5)
abbrev pub of_initialiser : Fault → Bool
of_initialiser (Constraint Initialiser) = true
of_initialiser _ = false

-- qualifiers (6.7.3p2)
abbrev pub of_qualifiers : Fault → Bool
of_qualifiers (Constraint Restrict) = true
of_qualifiers (Limit ObjectSize) = true
of_qualifiers _ = false

-- the type of a parameter (6.7.6.3p4, p7, p8)
abbrev pub of_adjustment : Fault → Bool
of_adjustment (Constraint Incomplete) = true
of_adjustment (Limit ObjectSize) = true
of_adjustment _ = false

-- a type that is made of others (own)
abbrev pub of_types : Fault → Bool
of_types (Limit ObjectSize) = true
of_types _ = false
