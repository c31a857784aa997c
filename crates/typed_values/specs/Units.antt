-- Definition: what programs and translation units share where they are linked: the values of constants (C11 6.6), and with which functions a program may begin (5.1.2.2.1p1).
use Rattle.std.specs.Prelude.{ℕ, Bool, true, false, List, Option, Some, slice_get, pos}
use Rattle.cil_base.specs.declared.constants.Constant.{Constant}
use Rattle.cil_base.specs.declared.constants.Constant.TheVariants.{Int as Number, Address, Function}
use Rattle.cil_base.specs.declared.kinds.IntKind.TheVariants.{Int as int, Char as char}
use Rattle.type_graph.specs.Shapes.{Shape, Shapes, IntType, PtrType, FuncType, NoTypes, MoreTypes}
use Rattle.byte_mem.specs.declared.pointers.ObjName.TheVariants.{Entity}
use Rattle.byte_mem.specs.declared.values.Value.{Value}
use Rattle.byte_mem.specs.declared.values.Value.TheVariants.{Int, Ptr}
use Rattle.byte_mem.specs.Steps.{◌>>=◌}
use Rattle.execution.specs.Calls.{Start, NotMain, WithoutWords, WithWords}

-- the value of a constant (C11 6.6p6, p9): an address is that of the run's entity
abbrev pub constant_value : List ℕ → Constant → Option Value
constant_value entities (Number kind v) = Some (Int v)
constant_value entities (Address object at) = slice_get entities object.0 >>= λ e. Some (Ptr (record { name = Entity (record { 0 = e }); offset = at }))
constant_value entities (Function function) = slice_get entities function.0 >>= λ e. Some (Ptr (record { name = Entity (record { 0 = e }); offset = pos 0 }))

-- C11 5.1.2.2.1p1: the types of a main; qualifiers do not count
abbrev pub words_start : Shapes → Start
words_start NoTypes = WithoutWords
words_start (MoreTypes (IntType int) (MoreTypes (PtrType p (PtrType q (IntType char))) NoTypes)) = WithWords
words_start _ = NotMain

abbrev pub start_by : Bool → Shapes → Start
start_by true params = NotMain
start_by false params = words_start params

abbrev pub start_of : Shape → Start
start_of (FuncType (IntType int) params proto variadic) = start_by variadic params
start_of _ = NotMain
