-- Device: the types that words of declarations begin with.
use Rattle.std.specs.Prelude.{ℕ, ◌<◌, Bool, true, List}
use Rattle.cil_base.specs.declared.kinds.Abi.{Abi}
use Rattle.cil_base.specs.Integer.{has_kind}
use Rattle.type_graph.specs.Shapes.{Shape, VoidType, IntType, AggType}
use Rattle.cil_text.specs.ReadTypes.{Bases}
use Rattle.cil_declarators.specs.declared.bases.Base.{Base}
use Rattle.cil_declarators.specs.declared.bases.Base.TheVariants.{Void, Int, Agg}

abbrev pub base_shape : Base → Shape
base_shape Void = VoidType
base_shape (Int kind) = IntType kind
base_shape (Agg a) = AggType a.0

-- an aggregate is one of the first n
abbrev pub BaseBelow : ℕ → Base → Type 0
BaseBelow n Void = Unit {0}
BaseBelow n (Int kind) = Unit {0}
BaseBelow n (Agg a) = a.0 < n

-- an integer type has a kind of the data model
abbrev pub base_has_kind : Abi → Base → Bool
base_has_kind abi Void = true
base_has_kind abi (Int kind) = has_kind abi kind
base_has_kind abi (Agg a) = true

-- what base words are read by
abbrev pub bases_in : Abi → List (List ℕ) → Bases
bases_in abi tags = record { abi = abi; tags = tags }
