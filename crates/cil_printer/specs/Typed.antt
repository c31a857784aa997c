-- Device: each expression and place of a statement has a type. It holds in well-formed bodies, and the text needs no more of them.
use Rattle.std.specs.Prelude.{Bool, true, ◌&&◌, is_some, List, [], ◌∷◌, Option, Some, None}
use Rattle.std.specs.Option.{option_and_then}
use Rattle.cil_tree.specs.Tree.{Exp, Lval, Callee, Direct, Through, Instr, Set, Call, Zero, Stmt, Do, If, Switch, Return}
use Rattle.cil_tree.specs.Typing.{Scope, pointed, type_of, place_type}

abbrev pub are_typed : Scope → List Exp → Bool
are_typed c [] = true
are_typed c (e ∷ es) = is_some (type_of c e) && are_typed c es

abbrev pub result_is_typed : Scope → Option Lval → Bool
result_is_typed c None = true
result_is_typed c (Some place) = is_some (place_type c place)

abbrev pub callee_is_typed : Scope → Callee → Bool
callee_is_typed c (Direct number) = true
callee_is_typed c (Through pointer) = is_some (option_and_then pointed (type_of c pointer))

abbrev pub instr_is_typed : Scope → Instr → Bool
instr_is_typed c (Set place value) = is_some (place_type c place) && is_some (type_of c value)
instr_is_typed c (Call result callee arguments) = result_is_typed c result && (callee_is_typed c callee && are_typed c arguments)
instr_is_typed c (Zero place) = is_some (place_type c place)

abbrev pub value_is_typed : Scope → Option Exp → Bool
value_is_typed c None = true
value_is_typed c (Some e) = is_some (type_of c e)

-- the statement's own expressions and places have types
abbrev pub stmt_is_typed : Scope → Stmt → Bool
stmt_is_typed c (Do instr) = instr_is_typed c instr
stmt_is_typed c (If test holds fails) = is_some (type_of c test)
stmt_is_typed c (Switch value body) = is_some (type_of c value)
stmt_is_typed c (Return value) = value_is_typed c value
stmt_is_typed c _ = true
