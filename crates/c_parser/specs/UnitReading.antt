-- Device: the readings of each height, and of a whole unit.
use Rattle.std.specs.Prelude.{ℕ, zero, suc, List, [], ◌∷◌}
use Rattle.typedef_scopes.specs.Scopes.{Scope}
use Rattle.c_tree.specs.Units.{ExternalTree}
use Rattle.c_cursor.specs.Readers.{Reader, bind, many}
use Rattle.c_exprs.specs.Subs.{In, grow}
use Rattle.c_exprs.specs.Reading.{below}
use Rattle.c_exprs.specs.InitReading.{initialiser}
use Rattle.c_parser.specs.StatementWords.{token_ahead}
use Rattle.c_parser.specs.Externals.{file_scope, greatest_height}
use Rattle.c_parser.specs.Parts.{Parts, no_parts}
use Rattle.c_parser.specs.DeclarationReading.{declaration}
use Rattle.c_parser.specs.StatementReading.{statement, body}
use Rattle.c_parser.specs.ExternalReading.{external}

-- those of one height from those of the height below
abbrev pub parts_of : ℕ → Parts → Parts
parts_of h p = record {
  trees = below (suc h);
  init = λ ds. initialiser h (below h) ds;
  declaration = λ ds. declaration p ds;
  statement = λ ds. statement h p ds;
  body = λ ds. body h p ds;
}

-- the readings of trees that are lower than that height; trees of at most height h are read from `lower h`
unfoldable pub lower : ℕ → Parts
lower zero = no_parts
lower (suc h) = parts_of h (lower h)

-- an external declaration of at most that height
abbrev pub external_of : ℕ → List Scope → Reader (In ExternalTree)
external_of h ds = external (lower h) ds

-- external declarations up to the end of the tokens
abbrev pub more_externals : ℕ → In (List ExternalTree) → Reader (In (List ExternalTree))
more_externals h x = many (λ y. token_ahead) (grow (external_of h)) x

-- a translation unit: at least one of them
abbrev pub unit : Reader (In (List ExternalTree))
unit = bind (external_of greatest_height file_scope) (λ d. more_externals greatest_height (d.0 ∷ [], d.1))
