-- Device: what resolved calls do.
use Rattle.std.specs.Prelude.{◌≡◌, ℕ, List, [], ◌∷◌, Option, Some, None, option_map}
use Rattle.cil_base.specs.declared.kinds.Abi.{Abi}
use Rattle.byte_mem.specs.declared.values.Scalar.TheVariants.{Ptr as OfPointer}
use Rattle.byte_mem.specs.declared.values.Value.{Value}
use Rattle.byte_mem.specs.Steps.{◌>>=◌}
use Rattle.byte_mem.specs.Memory.{Memory}
use Rattle.type_graph.specs.Shapes.{Shape}
use Rattle.execution.specs.States.{State, Result, Goes, bind, given}
use Rattle.execution.specs.Data as passed
use Rattle.execution.specs.Data.{OfVoid, OfScalar, OfAggregate, Datum, Argument, store_datum}
use Rattle.execution.specs.Jumps.{Signal, Normal}
use Rattle.execution.specs.Calls.{Enter}
use Rattle.cil_tree.specs.Tree.{Exp, Lval, Callee}
use Rattle.cil_tree.specs.Typing.{Scope, place_type}
use Rattle.cil_tree.specs.Bodies.{callee_type}
use Rattle.cil_semantics.specs.Values.{kind_in}
use Rattle.cil_semantics.specs.Statements.{written, callee_value, result_type}
use Rattle.cil_machine.specs.Terms.{term_value, spot_place}
use Rattle.cil_machine.specs.Resolution.{activation, MeansPlace}
use Rattle.cil_code.specs.declared.calls.Kind.{Kind}
use Rattle.cil_code.specs.declared.calls.Kind.TheVariants.{Void as NoValue, Single as OneScalar, Bytes as OneSize}
use Rattle.cil_code.specs.declared.calls.Receiver.{Receiver}
use Rattle.cil_code.specs.declared.calls.Called.{Called}
use Rattle.cil_code.specs.declared.calls.Call.{Call}
use Rattle.cil_code.specs.declared.operands.Operand.{Operand}
use Rattle.cil_code.specs.Passing.{operand_kind, operand_datum, IsOperand}

abbrev pub kind_of : Kind → passed.Kind
kind_of NoValue = OfVoid
kind_of (OneScalar s) = OfScalar s
kind_of (OneSize size) = OfAggregate size

abbrev pub kind_from : Option Kind → Option passed.Kind
kind_from k = option_map kind_of k

-- where the result goes
abbrev pub receiving : Abi → Memory → ℕ → Option Receiver → Option (Option Value)
receiving abi m act None = Some None
receiving abi m act (Some r) = option_map Some (spot_place abi m act r.place)

abbrev pub received_kind : Option Receiver → Option passed.Kind
received_kind None = None
received_kind (Some r) = kind_from r.kind

abbrev pub passing : Abi → Memory → ℕ → Operand → Option Argument
passing abi m act o = operand_datum abi m act o >>= λ d. Some (record { kind = operand_kind o; datum = d })

abbrev pub passing_all : Abi → Memory → ℕ → List Operand → Option (List Argument)
passing_all abi m act [] = Some []
passing_all abi m act (o ∷ os) = passing abi m act o >>= λ x. passing_all abi m act os >>= λ xs. Some (x ∷ xs)

abbrev pub kept : Abi → Option passed.Kind → Option Value → Datum → State → Result Signal
kept abi kind None d s = Goes Normal s
kept abi kind (Some at) d s = written s (kind >>= λ k. store_datum abi s.memory k at d)

-- the place of the result, what is called, the arguments, the call, the store
abbrev pub called_in : Abi → ℕ → Enter → Call → State → Result Signal
called_in abi act enter k s =
    given s (receiving abi s.memory act k.to) (λ at.
    given s (term_value abi s.memory act OfPointer k.callee) (λ v.
    given s (passing_all abi s.memory act k.arguments.items) (λ xs.
    bind (enter (record { abi = abi; callee = v; result = kind_from k.result; arguments = xs }) s) (λ d t. kept abi (received_kind k.to) at d t))))

pub record IsReceived (c : Scope) (entities : List ℕ) (p : Lval) (r : Receiver) : Type 0 where
  pub kind : kind_from r.kind ≡ (place_type c p >>= kind_in c.program.graph)
  pub place : MeansPlace c entities p r.place

abbrev pub IsReceiver : Scope → List ℕ → Option Lval → Option Receiver → Type 0
IsReceiver c entities None None = Unit {0}
IsReceiver c entities (Some p) (Some r) = IsReceived c entities p r
IsReceiver c entities None (Some r) = ⊥
IsReceiver c entities (Some p) None = ⊥

-- where the callee has a type, the term is a pointer to what is called
pub record IsCallee (c : Scope) (entities : List ℕ) (f : Callee) (r : Called) : Type 0 where
  pub kind : kind_from r.result ≡ (callee_type c f >>= result_type >>= kind_in c.program.graph)
  pub value : (t : Shape) → callee_type c f ≡ Some t → (m : Memory) (act : ℕ) → term_value c.program.graph.abi m act OfPointer r.pointer ≡ callee_value (activation c entities act) m f

abbrev pub AreOperands : Scope → List ℕ → List Exp → List Operand → Type 0
AreOperands c entities [] [] = Unit {0}
AreOperands c entities (e ∷ es) (o ∷ os) = IsOperand c entities e o × AreOperands c entities es os
AreOperands c entities [] (o ∷ os) = ⊥
AreOperands c entities (e ∷ es) [] = ⊥

pub record IsCall (c : Scope) (entities : List ℕ) (to : Option Lval) (f : Callee) (es : List Exp) (k : Call) : Type 0 where
  pub receiver : IsReceiver c entities to k.to
  pub callee : IsCallee c entities f (record { pointer = k.callee; result = k.result })
  pub arguments : AreOperands c entities es k.arguments.items
