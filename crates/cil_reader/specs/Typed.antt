-- Device: a declarator that gives a type which is known.
use Rattle.std.specs.Prelude.{ℕ, if◌then◌else◌, List, Option, Some, None}
use Rattle.std.specs.Option.{option_and_then}
use Rattle.type_graph.specs.Shapes.{Shape}
use Rattle.cil_tree.specs.Typing.{same_shape}
use Rattle.cil_text.specs.Words.{Word}
use Rattle.cil_text.specs.ReadTypes.{Bases, Named, read_decl}

abbrev pub typed_as : Shape → Named × List Word → Option (List Word)
typed_as s r = if same_shape r.0.0 s then Some r.1 else None

-- what stands behind it
abbrev pub typed : Bases → ℕ → Shape → List Word → Option (List Word)
typed bases n s ws = option_and_then (typed_as s) (read_decl bases n ws)
