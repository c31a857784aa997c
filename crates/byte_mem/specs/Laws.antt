-- Definition: what memory promises over all states: an object keeps what is stored (C11 6.2.4p2), and what is known in a memory stays known in one that says more (own).
use Rattle.std.specs.Prelude.{◌≡◌, ◌≢◌, ℕ, Bool, true, false, List, length, Option, Some}
use Rattle.cil_base.specs.declared.kinds.Abi.{Abi}
use Rattle.cil_base.specs.declared.kinds.IntKind.{IntKind}
use Rattle.cil_base.specs.declared.operators.BinOp.{BinOp}
use Rattle.cil_base.specs.declared.operators.UnOp.{UnOp}
use Rattle.byte_mem.specs.declared.pointers.ObjName.{ObjName}
use Rattle.byte_mem.specs.declared.pointers.Pointer.{Pointer}
use Rattle.byte_mem.specs.declared.values.Byte.{Byte}
use Rattle.byte_mem.specs.declared.values.Scalar.{Scalar}
use Rattle.byte_mem.specs.declared.values.Value.{Value}
use Rattle.byte_mem.specs.Name.{same_name}
use Rattle.byte_mem.specs.Scalar.{IsValue, value_of, bytes_of}
use Rattle.byte_mem.specs.Object.{Held}
use Rattle.byte_mem.specs.Memory.{Memory, with_held, make, make_function, end_object, protect, load, load_bytes, store, store_bytes, fill}
use Rattle.byte_mem.specs.Operator.{converted, place_of, truth, compared, pointer_sum, pointer_less, pointer_difference, member_place, computed, unary}
use Rattle.byte_mem.specs.Below.{Names, IsOneToOne, moved, BelowByte, BelowBytes, BelowValue, Lift, Same, BelowMemory}

-- C11 6.2.4p2: an object retains its last-stored value; 6.2.6.1p4: the bytes of a value represent it
pub record IsRetained : Type 0 where
  pub represented : (abi : Abi) (s : Scalar) (v : Value) → IsValue abi s v → value_of abi s (bytes_of abi s v) ≡ v
  pub value : (abi : Abi) (m k : Memory) (p : Pointer) (s : Scalar) (v : Value) → IsValue abi s v → store abi m p s v ≡ Some k → load abi k p s ≡ Some v
  pub bytes : (m k : Memory) (p : Pointer) (new : List Byte) → store_bytes m p new ≡ Some k → load_bytes k p (length new) ≡ Some new
  pub others : (abi : Abi) (m k : Memory) (p q : Pointer) (s t : Scalar) (v : Value) → same_name p.name q.name ≡ false → store abi m p s v ≡ Some k → load abi k q t ≡ load abi m q t

-- memories: where the first memory says no more than the second, each change that is defined in the first is so in the second, and leaves them so
pub record MemoryKeepsOrder (f : Names) : Type 0 where
  pub make : (m n : Memory) (x : ObjName) (size : ℕ) (b c : Byte) (t u : Bool) → BelowMemory f m n → BelowByte f b c → (t ≡ false → u ≡ false) → BelowMemory f (make m x size b t) (make n (f x) size c u)
  pub make_function : (m n : Memory) (x : ObjName) → BelowMemory f m n → BelowMemory f (make_function m x) (make_function n (f x))
  pub end : (m n : Memory) (x : ObjName) → BelowMemory f m n → BelowMemory f (end_object m x) (end_object n (f x))
  pub end_first : (m n : Memory) (x : ObjName) → BelowMemory f m n → BelowMemory f (end_object m x) n
  -- the first memory may refuse more
  pub protect_first : (m n : Memory) (x : ObjName) → BelowMemory f m n → BelowMemory f (protect m x true) n
  pub protect : (m n : Memory) (x : ObjName) (t u : Bool) → BelowMemory f m n → (t ≡ false → u ≡ false) → BelowMemory f (protect m x t) (protect n (f x) u)
  -- what has no name in the first memory may be anything in the second
  pub second_alone : (m n : Memory) (y : ObjName) (o : Option Held) → ((x : ObjName) → f x ≢ y) → BelowMemory f m n → BelowMemory f m (with_held n y o)
  pub load : (abi : Abi) (m n : Memory) (p : Pointer) (s : Scalar) → BelowMemory f m n → Lift (BelowValue f) (load abi m p s) (load abi n (moved f p) s)
  pub load_bytes : (m n : Memory) (p : Pointer) (len : ℕ) → BelowMemory f m n → Lift (BelowBytes f) (load_bytes m p len) (load_bytes n (moved f p) len)
  pub store : (abi : Abi) (m n : Memory) (p : Pointer) (s : Scalar) (v w : Value) → BelowMemory f m n → BelowValue f v w → Lift (BelowMemory f) (store abi m p s v) (store abi n (moved f p) s w)
  pub store_bytes : (m n : Memory) (p : Pointer) (b c : List Byte) → BelowMemory f m n → BelowBytes f b c → Lift (BelowMemory f) (store_bytes m p b) (store_bytes n (moved f p) c)
  pub fill : (m n : Memory) (p : Pointer) (len b : ℕ) → BelowMemory f m n → Lift (BelowMemory f) (fill m p len b) (fill n (moved f p) len b)

-- operators: where the operands say no more than others, so does the result
pub record OperatorsKeepOrder (f : Names) : Type 0 where
  pub convert : (abi : Abi) (s : Scalar) (v w : Value) → BelowValue f v w → BelowValue f (converted abi s v) (converted abi s w)
  pub place : (v w : Value) → BelowValue f v w → Lift (BelowValue f) (place_of v) (place_of w)
  pub truth : (m n : Memory) (s : Scalar) (v w : Value) → BelowMemory f m n → BelowValue f v w → Lift Same (truth m s v) (truth n s w)
  pub compare : (m n : Memory) (op : BinOp) (v w a b : Value) → BelowMemory f m n → BelowValue f v a → BelowValue f w b → Lift Same (compared m op v w) (compared n op a b)
  pub sum : (m n : Memory) (v w i j : Value) (size : ℕ) → BelowMemory f m n → BelowValue f v w → BelowValue f i j → Lift (BelowValue f) (pointer_sum m v i size) (pointer_sum n w j size)
  pub less : (m n : Memory) (v w i j : Value) (size : ℕ) → BelowMemory f m n → BelowValue f v w → BelowValue f i j → Lift (BelowValue f) (pointer_less m v i size) (pointer_less n w j size)
  pub difference : (abi : Abi) (m n : Memory) (v w a b : Value) (size : ℕ) → BelowMemory f m n → BelowValue f v a → BelowValue f w b → Lift (BelowValue f) (pointer_difference abi m v w size) (pointer_difference abi n a b size)
  pub member : (m n : Memory) (v w : Value) (offset : ℕ) → BelowMemory f m n → BelowValue f v w → Lift (BelowValue f) (member_place m v offset) (member_place n w offset)
  pub compute : (op : BinOp) (kind : IntKind) (v w a b : Value) → BelowValue f v a → BelowValue f w b → Lift (BelowValue f) (computed op kind v w) (computed op kind a b)
  pub compute_unary : (op : UnOp) (kind : IntKind) (v w : Value) → BelowValue f v w → Lift (BelowValue f) (unary op kind v) (unary op kind w)

pub record IsKept : Type 0 where
  pub memory : (f : Names) → IsOneToOne f → MemoryKeepsOrder f
  pub operators : (f : Names) → IsOneToOne f → OperatorsKeepOrder f
