-- Device: what resolved expressions give where they are assigned, returned or passed.
use Rattle.std.specs.Prelude.{◌≡◌, ℕ, Bool, true, false, List, Option, Some, None, option_map}
use Rattle.cil_base.specs.declared.kinds.Abi.{Abi}
use Rattle.byte_mem.specs.Memory.{Memory}
use Rattle.type_graph.specs.Shapes.{Shape}
use Rattle.execution.specs.Data.{Kind, OfScalar, OfAggregate, Datum, Single, Bytes}
use Rattle.cil_tree.specs.Tree.{Exp, Value as ValueOf}
use Rattle.cil_tree.specs.Typing.{Scope, is_void, type_of}
use Rattle.cil_semantics.specs.Values.{kind_in, value}
use Rattle.cil_machine.specs.Terms.{term_value}
use Rattle.cil_machine.specs.Resolution.{activation}
use Rattle.cil_machine.specs.Instructions.{bytes_from}
use Rattle.cil_code.specs.declared.operands.Operand.{Operand}
use Rattle.cil_code.specs.declared.operands.Operand.TheVariants.{Single as OfTerm, Bytes as OfPlace, Wrong as NoOperand}

-- the expression reads a place
abbrev pub is_read : Exp → Bool
is_read (ValueOf p) = true
is_read e = false

abbrev pub operand_kind : Operand → Option Kind
operand_kind (OfTerm s e) = Some (OfScalar s)
operand_kind (OfPlace size p) = Some (OfAggregate size)
operand_kind NoOperand = None

abbrev pub operand_datum : Abi → Memory → ℕ → Operand → Option Datum
operand_datum abi m act (OfTerm s e) = option_map Single (term_value abi m act s e)
operand_datum abi m act (OfPlace size p) = option_map Bytes (bytes_from abi m act size p)
operand_datum abi m act NoOperand = None

-- where the expression has a type that is not void, the operand has its kind and its value
pub record IsOperand (c : Scope) (entities : List ℕ) (e : Exp) (o : Operand) : Type 0 where
  pub kind : (t : Shape) → type_of c e ≡ Some t → is_void t ≡ false → kind_in c.program.graph t ≡ operand_kind o
  pub datum : (t : Shape) → type_of c e ≡ Some t → is_void t ≡ false → (m : Memory) (act : ℕ) → operand_datum c.program.graph.abi m act o ≡ value (activation c entities act) m e
