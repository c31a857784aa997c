-- Definition: what a name of the program means once it is linked, and what a call does (C11 6.5.2.2, 6.9.1; own: kinds are compared, and the unit).
use Rattle.std.specs.Prelude.{ℕ, suc, Bool, true, false, ◌&&◌, List, [], ◌∷◌, map, Option, Some, None, slice_get, pos}
use Rattle.std.specs.Ordering.{int_eq}
use Rattle.cil_base.specs.declared.kinds.Abi.{Abi}
use Rattle.byte_mem.specs.declared.pointers.ObjName.{ObjName}
use Rattle.byte_mem.specs.declared.pointers.ObjName.TheVariants.{Entity}
use Rattle.byte_mem.specs.declared.values.Byte.{Byte}
use Rattle.byte_mem.specs.declared.values.Scalar.{Scalar}
use Rattle.byte_mem.specs.declared.values.Value.{Value}
use Rattle.byte_mem.specs.declared.values.Value.TheVariants.{Int}
use Rattle.byte_mem.specs.Steps.{◌>>=◌, only_if}
use Rattle.byte_mem.specs.Operator.{pointer_in}
use Rattle.host_calls.specs.declared.names.HostName.{HostName}
use Rattle.host_calls.specs.declared.names.HostName.TheVariants.{Getchar}
use Rattle.host_calls.specs.declared.calls.HostResult.{HostResult}
use Rattle.host_calls.specs.declared.calls.HostResult.TheVariants.{Value as Gives, Exit as Ends, Undefined as Breaks, NeedsInput, Memory as WantOfMemory}
use Rattle.host_calls.specs.Host.{HostState, Outcome, host}
use Rattle.execution.specs.States.{State, with_memory, Result, Goes, Exits, Undefined, bind, given, spend}
use Rattle.execution.specs.Unrolling.{Step, meaning}
use Rattle.execution.specs.Data.{Kind, OfVoid, OfScalar, Datum, Single, same_kind, unknown, Argument, with_arguments, Automatic, with_objects, without_objects}
use Rattle.execution.specs.Jumps.{Signal, Normal, Broken, Jumped, Returned}

-- a call whose parts are evaluated: the data model of the caller, what is called, the kind of the result that the caller's types ask for, and the arguments in order
pub record Call : Type 0 where
  pub abi : Abi
  pub callee : Value
  pub result : Option Kind
  pub arguments : List Argument

-- what calls do
abbrev pub Enter : Type 0
Enter = Call → State → Result Datum

-- how a program may begin with a function, by its type (C11 5.1.2.2.1p1): not at all, as `int main(void)` or `int main()`, or as `int main(int, char **)`
pub data Start : Type 0 where
  NotMain : Start
  WithoutWords : Start
  WithWords : Start

-- a function that a unit defines: its unit's data model, the kinds of its parameters and of its result, and what its body does in an activation, given what calls do
pub record Function : Type 0 where
  pub abi : Abi
  pub parameters : List (Option Kind)
  pub result : Option Kind
  pub start : Start
  pub body : Enter → ℕ → State → Result Datum

-- what a name means: an object with the bytes that it begins with, a function of a unit, or one of the host
pub data Meaning : Type 0 where
  Object : (read_only : Bool) (bytes : List Byte) → Meaning
  Code : (function : Function) → Meaning
  Host : (name : HostName) → Meaning

-- what each entity of a run means, by its number; none where no unit and no host defines it
abbrev pub Linked : Type 0
Linked = List (Option Meaning)

-- the objects of a block or of an activation live while that runs, however it is left (C11 6.2.4p6)
abbrev pub leaves : {A : Type 0} → ℕ → List ℕ → Result A → Result A
leaves act numbers r = bind r (λ a s. Goes a (with_memory s (without_objects act numbers s.memory)))

abbrev pub number_of : Automatic → ℕ
number_of x = x.number

abbrev pub scoped : {A : Type 0} → ℕ → List Automatic → (State → Result A) → State → Result A
scoped act objects go s = leaves act (map number_of objects) (go (with_memory s (with_objects act objects s.memory)))

-- what a function gives that ends without a value: main 0 (C11 5.1.2.2.3p1), another nothing that is known (own)
abbrev pub value_at_end : Bool → Option Kind → Datum
value_at_end true kind = Single (Int (pos 0))
value_at_end false (Some kind) = unknown kind
value_at_end false None = unknown OfVoid

abbrev pub returned : Datum → Signal → State → Result Datum
returned end Normal s = Goes end s
returned end (Returned (Some d)) s = Goes d s
returned end (Returned None) s = Goes end s
returned end Broken s = Undefined s
returned end (Jumped t) s = Undefined s

-- C11 6.8.6.4, 6.9.1p12: the end of a body returns too; no break or jump leaves a body (6.8.6.1p1, 6.8.6.3p1)
abbrev pub returns : Datum → Result Signal → Result Datum
returns end r = bind r (returned end)

abbrev pub numbers : ℕ → List Argument → List ℕ
numbers i [] = []
numbers i (a ∷ more) = i ∷ numbers (suc i) more

-- the activation has the next number, and the arguments are its first objects (C11 6.5.2.2p4)
abbrev pub begun : Abi → List Argument → State → State
begun abi arguments s = record s { next = suc s.next; memory = with_arguments abi s.next 0 arguments s.memory }

abbrev pub activated : Enter → Function → List Argument → State → Result Datum
activated enter f arguments s = leaves s.next (numbers 0 arguments) (f.body enter s.next (begun f.abi arguments s))

-- arguments as many as the parameters, and of their kinds
abbrev pub arguments_match : List (Option Kind) → List Argument → Bool
arguments_match [] [] = true
arguments_match (k ∷ kinds) (a ∷ more) = same_kind k a.kind && arguments_match kinds more
arguments_match [] (a ∷ more) = false
arguments_match (k ∷ kinds) [] = false

-- C11 6.5.2.2p6, p9 (own: the kinds decide, and not whether the types are compatible)
abbrev pub matches : Function → Call → Bool
matches f c = same_kind f.result c.result && arguments_match f.parameters c.arguments

-- a call of a unit's function: undefined where the kinds differ, else it spends a unit and one activation begins (own)
abbrev pub entered : Bool → Enter → Function → List Argument → State → Result Datum
entered true enter f arguments s = spend s (activated enter f arguments)
entered false enter f arguments s = Undefined s

abbrev pub function_called : Enter → Function → Call → State → Result Datum
function_called enter f c s = entered (matches f c) enter f c.arguments s

-- what the host sees of the input: its next byte, or its end
abbrev pub ready : List ℕ → Option (Option ℕ)
ready [] = Some None
ready (b ∷ input) = Some (Some b)

abbrev pub behind_first : List ℕ → List ℕ
behind_first [] = []
behind_first (b ∷ input) = input

-- the input that is left: the host has taken what is no longer ready
abbrev pub input_after : Option (Option ℕ) → List ℕ → List ℕ
input_after None input = behind_first input
input_after (Some next) input = input

-- C11 7.21.7.6, 7.21.7.1p3: a call of getchar that finds the end sets the end-of-file indicator
abbrev pub at_end_after : HostName → List ℕ → Bool → Bool
at_end_after Getchar [] at_end = true
at_end_after _ _ at_end = at_end

abbrev pub host_state : State → HostState
host_state s = record { memory = s.memory; ready = ready s.input; out = s.out; live = s.live; heap = s.heap }

abbrev pub after_host : HostName → State → HostState → State
after_host name s h =
    record { memory = h.memory; input = input_after h.ready s.input; at_end = at_end_after name s.input s.at_end; out = h.out; left = s.left; next = s.next; live = h.live; heap = h.heap }

-- all input is at hand, so that the host asks for none, and no memory is wanting here
abbrev pub host_gave : HostName → State → HostResult → HostState → Result Datum
host_gave name s (Gives v) h = Goes (Single v) (after_host name s h)
host_gave name s (Ends status) h = Exits status (after_host name s h)
host_gave name s Breaks h = Undefined s
host_gave name s NeedsInput h = Undefined s
host_gave name s WantOfMemory h = Undefined s

abbrev pub host_outcome : HostName → State → Outcome → Result Datum
host_outcome name s o = host_gave name s o.0 o.1

abbrev pub scalar_argument : Option Kind → Datum → Option (Scalar × Value)
scalar_argument (Some (OfScalar s)) (Single v) = Some (s, v)
scalar_argument _ _ = None

abbrev pub scalar_arguments : List Argument → Option (List (Scalar × Value))
scalar_arguments [] = Some []
scalar_arguments (a ∷ more) = scalar_argument a.kind a.datum >>= λ x. scalar_arguments more >>= λ xs. Some (x ∷ xs)

abbrev pub scalar_result : Option Kind → Option (Option Scalar)
scalar_result (Some OfVoid) = Some None
scalar_result (Some (OfScalar s)) = Some (Some s)
scalar_result _ = None

-- a call of a function of the host, which spends no unit; one with a struct or union is undefined (own)
abbrev pub host_called : HostName → Call → State → Result Datum
host_called name c s = given s (scalar_result c.result) (λ wanted. given s (scalar_arguments c.arguments) (λ args. host_outcome name s (host c.abi name wanted args (host_state s))))

-- C11 6.5.2.2p1, p5: what is called is a function; a call of anything else is undefined
abbrev pub called : Enter → Option Meaning → Call → State → Result Datum
called enter None c s = Undefined s
called enter (Some (Object read_only bytes)) c s = Undefined s
called enter (Some (Code f)) c s = function_called enter f c s
called enter (Some (Host name)) c s = host_called name c s

abbrev pub entity_named : ObjName → Option ℕ
entity_named (Entity e) = Some e.0
entity_named _ = None

-- the entity that a value points to
abbrev pub entity_at : Value → Option ℕ
entity_at v = pointer_in v >>= λ p. only_if (int_eq p.offset (pos 0)) p.name >>= entity_named

abbrev pub meant : Linked → Value → Option Meaning
meant link v = entity_at v >>= λ e. slice_get link e >>= λ m. m

abbrev pub call_step : Linked → Step Call Datum
call_step link enter c s = called enter (meant link c.callee) c s

-- what calls do in a linked program
abbrev pub calls : Linked → Enter
calls link = meaning (call_step link)
