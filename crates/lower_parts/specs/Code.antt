-- Definition: what a part on the left is read from, how a place is kept, what is computed and chosen, and the part of a local to which a path leads (C11 5.1.2.3, 6.5.2.4, 6.5.13, 6.5.14, 6.5.16, 6.7.9).
use Rattle.std.specs.Prelude.{◌≡◌, ◌++◌, ℕ, suc, if◌then◌else◌, Bool, true, false, not, ◌&&◌, ◌||◌, List, [], ◌∷◌, Some}
use Rattle.std.specs.declared.alloc.Global.{Global}
use Rattle.std.specs.declared.vec.Vec.{Vec}
use Rattle.cil_base.specs.declared.kinds.IntKind.TheVariants.{Int as int}
use Rattle.cil_base.specs.declared.numbers.LocalId.{LocalId}
use Rattle.cil_base.specs.declared.numbers.TypeId.{TypeId}
use Rattle.type_graph.specs.declared.nodes.Node.{Node}
use Rattle.typed_tree.specs.declared.expressions.Logic.{Logic}
use Rattle.typed_tree.specs.declared.expressions.Logic.TheVariants.{And, Or}
use Rattle.typed_tree.specs.declared.expressions.TypedExp.{TypedExp}
use Rattle.typed_tree.specs.declared.expressions.TypedNode.{TypedNode}
use Rattle.typed_tree.specs.declared.expressions.TypedNode.TheVariants.{Integer, Local, Literal', Entity, Load', Decay', Address', Indirect', Subscript', Member', Convert', Unary', Binary', Logical', Conditional', Comma', Assign', Compute', Step', Call'}
use Rattle.typed_tree.specs.declared.initialisers.Step.{Step}
use Rattle.typed_tree.specs.declared.initialisers.Step.TheVariants.{Field as ToField, Index as ToIndex}
use Rattle.cil_tree.specs.declared.expressions.Exp.{Exp}
use Rattle.cil_tree.specs.declared.expressions.Host.{Var}
use Rattle.cil_tree.specs.declared.expressions.Lval.{Lval}
use Rattle.cil_tree.specs.declared.statements.Callee.{Callee}
use Rattle.cil_tree.specs.declared.statements.Callee.TheVariants.{Through}
use Rattle.cil_tree.specs.declared.statements.Instr.TheVariants.{Set, Call, Zero}
use Rattle.cil_tree.specs.declared.statements.Stmt.{Stmt, Instr as Do}
use Rattle.cil_tree.specs.Tree as plain
use Rattle.cil_tree.specs.View.{exp_of, lval_of}
use Rattle.cil_nodes.specs.Built.{IsConst, IsValue, IsBin, IsCast, IsIf, IsField, part_of}
use Rattle.lower_parts.specs.declared.places.Kept.{Kept}
use Rattle.lower_parts.specs.declared.places.Kept.TheVariants.{Global as ToGlobal, Local as ToLocal, Behind}
use Rattle.lower_parts.specs.declared.results.Computing.{Computing}

-- code behind other code, which stays as it was
pub record Extends (old new : List Stmt) : Type 0 where
  pub more : List Stmt
  pub is : new ≡ old ++ more

-- a local as a whole
pub record IsVariable (n : LocalId) (place : Lval) : Type 0 where
  pub host : place.host ≡ Var n
  pub whole : place.offsets.items ≡ []

-- an assignment to a local behind code
pub record Saves (n : LocalId) (x : Exp) (old new : List Stmt) : Type 0 where
  pub place : Lval
  pub variable : IsVariable n place
  pub is : new ≡ old ++ Do (Set place x) ∷ []

-- an expression is the value of a local
pub record Reads (n : LocalId) (x : Exp) : Type 0 where
  pub place : Lval
  pub variable : IsVariable n place
  pub value : IsValue place x

-- the value of a part: itself where no part behind it in the same node has an effect, and else that of a local in which it is saved
abbrev pub IsLeft : Bool → Exp → List Stmt → List Stmt → Exp → Type 0
IsLeft false x old new y = (y ≡ x) × (new ≡ old)
IsLeft true x old new y = (n : LocalId) × Saves n x old new × Reads n y

-- whether an effect stands in one of these expressions
abbrev pub any_effect : List TypedExp → Bool
any_effect [] = false
any_effect (e ∷ more) = e.effect || any_effect more

-- how many of these arguments stand before the last one in which an effect stands
abbrev pub before_last : List TypedExp → ℕ
before_last [] = 0
before_last (e ∷ more) = if any_effect more then suc (before_last more) else 0

-- the function that a pointer points to, which is saved where an argument has an effect
abbrev pub IsCallee : Bool → Exp → List Stmt → List Stmt → Callee → Type 0
IsCallee later pointer old new callee = (x : Exp) × (callee ≡ Through x) × IsLeft later pointer old new x

-- a call behind code whose result is stored in a local
pub record CallsFor (n : LocalId) (callee : Callee) (arguments : Vec Exp Global) (old new : List Stmt) : Type 0 where
  pub place : Lval
  pub variable : IsVariable n place
  pub is : new ≡ old ++ Do (Call (Some place) callee arguments) ∷ []

-- a whole variable
abbrev pub is_variable : plain.Lval → Bool
is_variable (plain.Place (plain.Global n) plain.Here) = true
is_variable (plain.Place (plain.Var n) plain.Here) = true
is_variable other = false

-- the address of a place: that of what a pointer points to is the pointer (C11 6.5.3.2p3)
abbrev pub address : plain.Lval → plain.Exp
address (plain.Place (plain.At e) plain.Here) = e
address other = plain.AddrOf other

pub record IsAddressOf (place : Lval) (x : Exp) : Type 0 where
  pub at : (nodes : List Node) → exp_of nodes x ≡ address (lval_of nodes place)

-- the place that is kept
abbrev pub kept_place : Kept → plain.Lval
kept_place (ToGlobal n) = plain.Place (plain.Global n.0) plain.Here
kept_place (ToLocal n) = plain.Place (plain.Var n.0) plain.Here
kept_place (Behind n) = plain.Place (plain.At (plain.Value (plain.Place (plain.Var n.0) plain.Here))) plain.Here

pub record Names (kept : Kept) (place : Lval) : Type 0 where
  pub at : (nodes : List Node) → lval_of nodes place ≡ kept_place kept

-- a place that is no whole variable, whose address is saved behind code
pub record PutsAddress (n : LocalId) (place : Lval) (old new : List Stmt) : Type 0 where
  pub part : (nodes : List Node) → is_variable (lval_of nodes place) ≡ false
  pub pointer : Exp
  pub address : IsAddressOf place pointer
  pub saves : Saves n pointer old new

-- how a place is kept: a whole variable is named again, of any other the address goes into a local
abbrev pub Keeps : Kept → Lval → List Stmt → List Stmt → Type 0
Keeps (ToGlobal n) place old new = Names (ToGlobal n) place × (new ≡ old)
Keeps (ToLocal n) place old new = Names (ToLocal n) place × (new ≡ old)
Keeps (Behind n) place old new = PutsAddress n place old new

-- the place of a part: itself where no part behind it in the same node has an effect, and else kept
abbrev pub IsLeftPlace : Bool → Lval → List Stmt → List Stmt → Lval → Type 0
IsLeftPlace false place old new next = (next ≡ place) × (new ≡ old)
IsLeftPlace true place old new next = (kept : Kept) × Keeps kept place old new × Names kept next

-- whether the value of an expression stands where it was stored or found
abbrev pub is_found : TypedNode → Bool
is_found (Integer n) = false
is_found (Local n) = false
is_found (Literal' n k steps) = false
is_found (Entity n) = false
is_found (Load' t a p e) = false
is_found (Decay' t a p e) = false
is_found (Address' t a p e) = false
is_found (Indirect' t a p e) = false
is_found (Subscript' t a p e u b q f) = false
is_found (Member' t a p e g i) = false
is_found (Convert' t a p e) = false
is_found (Unary' op t a p e) = false
is_found (Binary' op t a p e u b q f) = false
is_found (Logical' op t a p e u b q f) = false
is_found (Conditional' t a p e s u b q f v c r g) = false
is_found (Comma' t a p e u b q f) = true
is_found (Assign' t a p e u b q f) = true
is_found (Compute' op at t a p e u b q f) = false
is_found (Step' form at t a p e) = false
is_found (Call' t a p e k es) = false

-- the value of a whole variable
abbrev pub is_variable_value : plain.Exp → Bool
is_variable_value (plain.Const kind value) = false
is_variable_value (plain.Value place) = is_variable place
is_variable_value (plain.Un op operand) = false
is_variable_value (plain.Bin op left right) = false
is_variable_value (plain.Cast to operand) = false
is_variable_value (plain.AddrOf place) = false
is_variable_value (plain.StartOf place) = false

-- the value whose member is read: what was stored or found is saved, but for a whole variable, since a struct may stand where no scalar of it is aligned (own)
pub record IsHeld (e : TypedExp) (x : Exp) (old new : List Stmt) (y : Exp) : Type 0 where
  pub at : (nodes : List Node) → IsLeft (is_found e.node.value && not (is_variable_value (exp_of nodes x))) x old new y

-- a member of the value that a place has
pub record IsMemberOf (x : Exp) (i : ℕ) (y : Exp) : Type 0 where
  pub place : Lval
  pub value : IsValue place x
  pub part : Lval
  pub member : IsField place i part
  pub read : IsValue part y

-- an expression of one type in another: cast where the types differ
pub record IsConverted (from to : TypeId) (x y : Exp) : Type 0 where
  pub same : from ≡ to → y ≡ x
  pub other : (from ≡ to → ⊥) → IsCast to x y

-- what is computed from two operands, converted to the type of a kept place, and stored there behind code (C11 6.5.16.2p3)
pub record Computes (c : Computing) (kept : Kept) (left right : Exp) (old new : List Stmt) : Type 0 where
  pub place : Lval
  pub named : Names kept place
  pub sum : Exp
  pub operands : IsBin c.op left right sum
  pub value : Exp
  pub converted : IsConverted c.at c.ty sum value
  pub is : new ≡ old ++ Do (Set place value) ∷ []

-- a choice behind code
pub record Chooses (test : Exp) (holds fails old new : List Stmt) : Type 0 where
  pub choice : Stmt
  pub made : IsIf test holds fails choice
  pub is : new ≡ old ++ choice ∷ []

-- code that stores a truth in a local
pub record IsTruth (n : LocalId) (truth : ℕ) (code : List Stmt) : Type 0 where
  pub value : Exp
  pub constant : IsConst int truth value
  pub saves : Saves n value [] code

-- whether a test holds is stored in a local
pub record Decides (n : LocalId) (test : Exp) (old new : List Stmt) : Type 0 where
  pub holds : List Stmt
  pub stores_one : IsTruth n 1 holds
  pub fails : List Stmt
  pub stores_zero : IsTruth n 0 fails
  pub chooses : Chooses test holds fails old new

-- the second operand is evaluated only where the first asks for it, which else decides (C11 6.5.13p4, 6.5.14p4)
abbrev pub IsShort : Logic → LocalId → Exp → List Stmt → List Stmt → List Stmt → Type 0
IsShort And n first second old new = (fails : List Stmt) × IsTruth n 0 fails × Chooses first second fails old new
IsShort Or n first second old new = (holds : List Stmt) × IsTruth n 1 holds × Chooses first holds second old new

-- the same for effects alone
abbrev pub IsShortEffect : Logic → Exp → List Stmt → List Stmt → List Stmt → Type 0
IsShortEffect And first second old new = Chooses first second [] old new
IsShortEffect Or first second old new = Chooses first [] second old new

-- the steps of a path, before others
abbrev pub step_before : Step → plain.Offsets → plain.Offsets
step_before (ToField i) more = plain.Field i more
step_before (ToIndex i) more = plain.Index (plain.Const int i) more

abbrev pub offsets_on : List Step → plain.Offsets
offsets_on [] = plain.Here
offsets_on (step ∷ path) = step_before step (offsets_on path)

-- a place with a step more
pub record IsStep (l : Lval) (step : Step) (m : Lval) : Type 0 where
  pub at : (nodes : List Node) (more : plain.Offsets) → part_of (lval_of nodes m) more ≡ part_of (lval_of nodes l) (step_before step more)

-- the part of a local to which a path leads
pub record IsPart (n : LocalId) (path : List Step) (place : Lval) : Type 0 where
  pub at : (nodes : List Node) → lval_of nodes place ≡ plain.Place (plain.Var n.0) (offsets_on path)

-- a value is stored in the part of a local to which a path leads, behind code
pub record StoresPart (n : LocalId) (path : List Step) (x : Exp) (old new : List Stmt) : Type 0 where
  pub place : Lval
  pub part : IsPart n path place
  pub is : new ≡ old ++ Do (Set place x) ∷ []

-- the part of a local to which a path leads is made zero, behind code
pub record Clears (n : LocalId) (path : List Step) (old new : List Stmt) : Type 0 where
  pub place : Lval
  pub part : IsPart n path place
  pub is : new ≡ old ++ Do (Zero place) ∷ []
