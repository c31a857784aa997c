-- Device: the marks and layers of a declarator as the code has them, and the readings of its parts by the code's steps.
use Rattle.std.specs.Prelude.{ℕ, Bool, true, false, if◌then◌else◌, List, [], ◌∷◌, Option, Some, None, map, reverse}
use Rattle.std.specs.Option.{option_map, option_and_then}
use Rattle.cil_base.specs.declared.operators.BinOp.TheVariants.{Mul}
use Rattle.type_graph.specs.Arena.{EachType}
use Rattle.type_graph.specs.declared.nodes.Node.{Node}
use Rattle.type_graph.specs.Shapes.{Shape, Shapes, NoTypes, MoreTypes, shape, shapes_of}
use Rattle.cil_text.specs.Words.{Word, LeftParen, Operator, RightParen, Comma}
use Rattle.cil_text.specs.ReadTypes.{Reading, Mark, Points, Group, Layer, Pointer, Elements, Called, Listed, built, is_ellipsis, is_star, closed, skip_one, read_decl, without_name, Named, Bases}
use Rattle.cil_declarators.specs.declared.declarators.Mark.{Mark as SeenMark}
use Rattle.cil_declarators.specs.declared.declarators.Mark.TheVariants as mark
use Rattle.cil_declarators.specs.declared.declarators.Suffix.{Suffix}
use Rattle.cil_declarators.specs.declared.declarators.Suffix.TheVariants as suffix
use Rattle.cil_declarators.specs.declared.declarators.Named.{Named as SeenNamed}
use Rattle.cil_scan.specs.Said.{all_said}
use Rattle.cil_declarators.specs.declared.declarators.Params.{Params}
use Rattle.cil_declarators.specs.declared.declarators.Follows.{Follows}
use Rattle.cil_declarators.specs.declared.declarators.Follows.TheVariants.{End, Variadic, Another}

abbrev pub mark_of : SeenMark → Mark
mark_of mark.Points = Points
mark_of mark.Group = Group

-- the nearest to the name stands last in the code
abbrev pub marks_of : List SeenMark → List Mark
marks_of marks = map mark_of (reverse marks)

-- a mark in front; a parenthesis counts only before `*`
abbrev pub head_of : List Word → Option Mark
head_of (Operator Mul ∷ ws) = Some Points
head_of (LeftParen ∷ ws) = if is_star ws then Some Group else None
head_of _ = None

abbrev pub layer_of : List Node → Suffix → Layer
layer_of nodes (suffix.Elements bound) = Elements bound
layer_of nodes (suffix.Called params proto variadic) = Called (shapes_of (shape nodes) params.items) proto variadic

-- the parameters' types are among the first n
abbrev pub LayerBelow : ℕ → Suffix → Type 0
LayerBelow n (suffix.Elements bound) = Unit {0}
LayerBelow n (suffix.Called params proto variadic) = EachType n params.items

-- a parameter's type
abbrev pub read_parameter : Bases → ℕ → List Word → Reading Shape
read_parameter bases n ws = option_map without_name (read_decl bases n ws)

abbrev pub built_from : Shape → List Layer × List Word → Shape × List Word
built_from s r = (built r.0 s, r.1)

-- what stands behind a parameter
abbrev pub behind_parameter : List Word → Option (Follows × List Word)
behind_parameter (RightParen ∷ ws) = Some (End, ws)
behind_parameter (Comma ∷ ws) = if is_ellipsis ws then closed Variadic (skip_one ws) else Some (Another, ws)
behind_parameter _ = None

abbrev pub joined : Shapes → Shapes → Shapes
joined NoTypes more = more
joined (MoreTypes s ss) more = MoreTypes s (joined ss more)

-- parameters behind others
abbrev pub listed_behind : Shapes → Listed × List Word → Listed × List Word
listed_behind before r = ((joined before r.0.0, r.0.1), r.1)

-- a layer around a type
abbrev pub wrapped : Layer → Shape → Shape
wrapped l s = built (l ∷ []) s

abbrev pub wrapped_from : Layer → Shape → List Layer × List Word → Shape × List Word
wrapped_from l s r = (wrapped l (built r.0 s), r.1)

-- what follows a parameter, where those up to it are known
abbrev pub more_behind : Shapes → (List Word → Reading Listed) → Option (Follows × List Word) → Reading Listed
more_behind before again None = None
more_behind before again (Some (End, ws)) = Some ((before, false), ws)
more_behind before again (Some (Variadic, ws)) = Some ((before, true), ws)
more_behind before again (Some (Another, ws)) = option_map (listed_behind before) (again ws)

-- a declared type and its name as the code has them
abbrev pub named_of : List Node → SeenNamed → Named
named_of nodes n = (shape nodes n.ty.0, option_map (λ t. t.now) n.name)

-- whether another parameter follows
abbrev pub is_another : Follows → Bool
is_another End = false
is_another Variadic = false
is_another Another = true

-- a parameter behind others, what follows it, and the words behind that
abbrev pub ParamRead : Type 0
ParamRead = Follows × (Shapes × List Word)

abbrev pub behind_those : Shapes → Follows × List Word → ParamRead
behind_those ss r = (r.0, (ss, r.1))

abbrev pub param_end : Shapes → Shape × List Word → Option ParamRead
param_end before r = option_map (behind_those (joined before (MoreTypes r.0 NoTypes))) (behind_parameter r.1)

abbrev pub param_more : Shapes → Reading Shape → Option ParamRead
param_more before o = option_and_then (param_end before) o

abbrev pub params_of : List Node → Params → ParamRead
params_of nodes x = (x.follows, (shapes_of (shape nodes) x.types.items, all_said x.rest.now))

-- the types of parameters, and those of the parameters in a layer
abbrev pub listed : Shapes → List Shape
listed NoTypes = []
listed (MoreTypes s ss) = s ∷ listed ss

abbrev pub layer_types : Layer → List Shape
layer_types Pointer = []
layer_types (Elements bound) = []
layer_types (Called params proto variadic) = listed params
