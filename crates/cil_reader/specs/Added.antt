-- Device: the types within the parts of declarators and in the lines of bodies, as lists.
use Rattle.std.specs.Prelude.{List, [], ◌∷◌, ◌++◌}
use Rattle.type_graph.specs.Shapes.{Shape}
use Rattle.cil_text.specs.ReadStmts.{Head, Whole, Tested, Turned, Looped, Opened, Otherwise, Closed}
use Rattle.cil_text.specs.TypesOf.{types_in_exp, types_in_stmt}

abbrev pub types_in_head : Head → List Shape
types_in_head (Whole s) = types_in_stmt s
types_in_head (Tested e) = types_in_exp e
types_in_head (Turned e) = types_in_exp e
types_in_head Looped = []
types_in_head Opened = []
types_in_head Otherwise = []
types_in_head Closed = []

abbrev pub types_in_heads : List Head → List Shape
types_in_heads [] = []
types_in_heads (h ∷ hs) = types_in_head h ++ types_in_heads hs
