-- Definition: the grammatical declarations (C11 6.7), statements (6.8) and external declarations (6.9), each where it stands between others: `n` is the number of its first token, `scopes` are those in front of it, and `height` is the most that its height may be (own).
use Rattle.std.specs.Prelude.{ℕ, Bool, ◌&&◌, nat_le, List, [], ◌∷◌}
use Rattle.typedef_scopes.specs.Scopes.{Scope}
use Rattle.c_tree.specs.Units.{DeclarationTree, StmtTree, ExternalTree}
use Rattle.c_tree.specs.Height.{declaration_height, stmt_height, external_height}
use Rattle.c_tree.specs.Levels.{levelled_declaration, levelled_stmt, levelled_external}
use Rattle.c_tree.specs.Placed.{placed_declaration, placed_stmt, placed_external}
use Rattle.c_tree.specs.Scoped.{scoped_declaration, scoped_stmt, scoped_external}

-- a declaration (6.7), which may be a static assertion (6.7.10)
abbrev pub grammatical_declaration : List Scope → ℕ → ℕ → DeclarationTree → Bool
grammatical_declaration scopes height n d = levelled_declaration d && (placed_declaration n d && (scoped_declaration scopes d && nat_le (declaration_height d) height))

-- a statement (6.8)
abbrev pub grammatical_statement : List Scope → ℕ → ℕ → StmtTree → Bool
grammatical_statement scopes height n s = levelled_stmt s && (placed_stmt n s && (scoped_stmt scopes s && nat_le (stmt_height s) height))

-- an external declaration (6.9): a function definition or a declaration
abbrev pub grammatical_external : List Scope → ℕ → ℕ → ExternalTree → Bool
grammatical_external scopes height n d = levelled_external d && (placed_external n d && (scoped_external scopes d && nat_le (external_height d) height))

-- at its beginning a unit has one scope, the file's, with no typedef name (6.2.1p4)
abbrev pub file_scope : List Scope
file_scope = ([]) ∷ []

-- the most that the height of an external declaration may be (own)
abbrev pub greatest_height : ℕ
greatest_height = 512
