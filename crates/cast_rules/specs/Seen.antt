-- Device: the value and the pair that the code's own types tell.
use Rattle.std.specs.Prelude.{ℕ, ◌<◌, List, length}
use Rattle.type_graph.specs.declared.nodes.Node.{Node}
use Rattle.type_graph.specs.Shapes.{Shape, VoidType, PtrType, shape}
use Rattle.type_compat.specs.Composed.{composite_shape}
use Rattle.unit_types.specs.Normal.{joined, qualified}
use Rattle.cast_rules.specs.declared.operands.Sort.{Sort}
use Rattle.cast_rules.specs.declared.operands.Sort.TheVariants as sort
use Rattle.cast_rules.specs.declared.pairings.Pairing.{Pairing}
use Rattle.cast_rules.specs.declared.pairings.Pairing.TheVariants as pairing
use Rattle.cast_rules.specs.declared.pairings.Meeting.{Meeting}
use Rattle.cast_rules.specs.declared.pairings.Meeting.TheVariants as meeting
use Rattle.cast_rules.specs.Meetings.{pointer_to}
use Rattle.cast_rules.specs.Values.{Value, NoValue, Number, Pointer, Record', Paired, Numbers, PointerNumber, NumberPointer, Pointers, Others}

abbrev pub seen : List Node → Sort → Value
seen nodes sort.Void = NoValue
seen nodes (sort.Number kind) = Number kind
seen nodes (sort.Pointer q) = Pointer q.quals (shape nodes q.of.0)
seen nodes (sort.Record a) = Record' a.0

-- what a pointer points to is a type of the arena
abbrev pub IsThere : List Node → Sort → Type 0
IsThere nodes sort.Void = Unit {0}
IsThere nodes (sort.Number kind) = Unit {0}
IsThere nodes (sort.Pointer q) = q.of.0 < length nodes
IsThere nodes (sort.Record a) = Unit {0}

abbrev pub seen_pair : List Node → Pairing → Paired
seen_pair nodes (pairing.Numbers x y) = Numbers x y
seen_pair nodes (pairing.PointerNumber p) = PointerNumber p.quals (shape nodes p.of.0)
seen_pair nodes (pairing.NumberPointer q) = NumberPointer q.quals (shape nodes q.of.0)
seen_pair nodes (pairing.Pointers p q) = Pointers p.quals (shape nodes p.of.0) q.quals (shape nodes q.of.0)
seen_pair nodes pairing.Others = Others

abbrev pub AreThere : List Node → Pairing → Type 0
AreThere nodes (pairing.Numbers x y) = Unit {0}
AreThere nodes (pairing.PointerNumber p) = p.of.0 < length nodes
AreThere nodes (pairing.NumberPointer q) = q.of.0 < length nodes
AreThere nodes (pairing.Pointers p q) = (p.of.0 < length nodes) × (q.of.0 < length nodes)
AreThere nodes pairing.Others = Unit {0}

abbrev pub met : List Node → Meeting → Shape
met nodes (meeting.Composite p q) = pointer_to (qualified (joined p.quals q.quals) (composite_shape (shape nodes p.of.0) (shape nodes q.of.0)))
met nodes (meeting.Pointer to) = PtrType to.quals (shape nodes to.of.0)
met nodes (meeting.Void quals) = PtrType quals VoidType
