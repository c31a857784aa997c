-- Device: the readings of parts, which a reading of a declaration or statement takes from one height below.
use Rattle.std.specs.Prelude.{List}
use Rattle.typedef_scopes.specs.Scopes.{Scope}
use Rattle.c_tree.specs.Syntax.{InitTree}
use Rattle.c_tree.specs.Units.{DeclarationTree, StmtTree, BlockItems}
use Rattle.c_cursor.specs.Readers.{Reader, fail}
use Rattle.c_exprs.specs.Subs.{In, Subs, nothing}

pub record Parts : Type 0 where
  -- expressions, specifiers and declarators
  pub trees : Subs
  pub init : List Scope → Reader (In InitTree)
  pub declaration : List Scope → Reader (In DeclarationTree)
  pub statement : List Scope → Reader (In StmtTree)
  -- the braces and the items of a function's body, in the scope of its parameters
  pub body : List Scope → Reader BlockItems

-- no part can be so low
abbrev pub no_parts : Parts
no_parts = record { trees = nothing; init = λ ds. fail; declaration = λ ds. fail; statement = λ ds. fail; body = λ ds. fail }
