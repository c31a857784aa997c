-- Device: terms and places with their types.
use Rattle.std.specs.Prelude.{◌≡◌, ◌<◌, ℕ, List, IfSome, length, true, false}
use Rattle.cil_base.specs.declared.operators.BinOp.{BinOp}
use Rattle.cil_base.specs.declared.operators.BinOp.TheVariants.{Shl, Shr}
use Rattle.cil_base.specs.Arithmetic.{is_shift}
use Rattle.std.specs.Option.{option_and_then}
use Rattle.type_graph.specs.Shapes.{shape}
use Rattle.cil_tree.specs.Tree.{Exp, Host, Offsets, Lval}
use Rattle.cil_tree.specs.Typing.{Scope, type_of, place_type, host_type, part_type, is_comparison}
use Rattle.cil_check.specs.Seen.{IsThere, told, at}
use Rattle.cil_machine.specs.declared.resolution.Class.{Class}
use Rattle.cil_machine.specs.declared.resolution.Class.TheVariants.{Arithmetic, Shift, Comparison}
use Rattle.cil_machine.specs.declared.resolution.Typed.{Typed}
use Rattle.cil_machine.specs.declared.resolution.TypedSpot.{TypedSpot}
use Rattle.cil_machine.specs.Resolution.{Means, MeansPlace, MeansHost, IsPart}

-- the term of an expression, with its type
pub record IsTyped (c : Scope) (entities : List ℕ) (e : Exp) (r : Typed) : Type 0 where
  pub told : told c.program.graph r.ty ≡ type_of c e
  pub there : IfSome r.ty (IsThere c.program.graph)
  pub means : Means c entities e r.term

-- the place of an lvalue, with its type
pub record IsPlaced (c : Scope) (entities : List ℕ) (p : Lval) (r : TypedSpot) : Type 0 where
  pub told : at c.program.graph r.ty ≡ place_type c p
  pub there : IfSome r.ty (λ t. t.0 < length c.program.graph.nodes)
  pub means : MeansPlace c entities p r.spot

-- the place of a host, with its type
pub record IsHosted (c : Scope) (entities : List ℕ) (h : Host) (r : TypedSpot) : Type 0 where
  pub told : at c.program.graph r.ty ≡ host_type c h
  pub there : IfSome r.ty (λ t. t.0 < length c.program.graph.nodes)
  pub means : MeansHost c entities h r.spot

-- the class of an operator over integers
abbrev pub IsClass : BinOp → Class → Type 0
IsClass op Arithmetic = (is_shift op ≡ false) × (is_comparison op ≡ false)
IsClass op (Shift true) = op ≡ Shl
IsClass op (Shift false) = op ≡ Shr
IsClass op Comparison = is_comparison op ≡ true

-- what the steps up to here lead to, of an lvalue whose other steps are left: a place of a type, and none where the lvalue has no type
pub record IsOnWay (c : Scope) (entities : List ℕ) (whole : Lval) (rest : Offsets) (r : TypedSpot) : Type 0 where
  pub told : option_and_then (part_type c rest) (at c.program.graph r.ty) ≡ place_type c whole
  pub there : IfSome r.ty (λ t. t.0 < length c.program.graph.nodes)
  pub part : IfSome r.ty (λ t. IsPart c entities whole rest r.spot (shape c.program.graph.nodes t.0))
