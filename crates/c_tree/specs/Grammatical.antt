-- Definition: the grammatical trees of C11 6.5 to 6.9: each part is what its production asks, has the number of its first token, is no higher than may be (own), and each identifier may stand where it does.
-- A unit is grammatical by itself. Any other tree stands between others: `n` is the number of its first token, `scopes` are those in front of it, and `height` is the most that its height may be.
use Rattle.std.specs.Prelude.{ℕ, Bool, true, false, not, ◌&&◌, nat_le, List, [], ◌∷◌}
use Rattle.typedef_scopes.specs.Scopes.{Scope}
use Rattle.c_tree.specs.declared.level.Level.{Level}
use Rattle.c_tree.specs.Syntax.{ExprTree, TypeNameTree, SpecifierTrees, DeclaratorTree, InitTree}
use Rattle.c_tree.specs.Units.{UnitTree}
use Rattle.c_tree.specs.Height.{expr_height, type_name_height, specifiers_height, declarator_height, init_height, external_height}
use Rattle.c_tree.specs.Levels.{is_within, has_specifier, declares, has_other_names, levelled, levelled_type_name, levelled_specifiers, levelled_declarator, levelled_init, levelled_unit}
use Rattle.c_tree.specs.Placed.{placed_expr, placed_type_name, placed_specifiers, placed_declarator, placed_init, placed_unit}
use Rattle.c_tree.specs.Scoped.{scoped_expr, scoped_type_name, scoped_specifiers, scoped_declarator, scoped_init, scoped_unit}

-- an expression that can stand where one of that level is asked
abbrev pub grammatical_expr : List Scope → Level → ℕ → ℕ → ExprTree → Bool
grammatical_expr scopes level height n e = (is_within level e && levelled e) && (placed_expr n e && (scoped_expr scopes e && nat_le (expr_height e) height))

-- a type name (6.7.7)
abbrev pub grammatical_type_name : List Scope → ℕ → ℕ → TypeNameTree → Bool
grammatical_type_name scopes height n t = levelled_type_name t && (placed_type_name n t && (scoped_type_name scopes t && nat_le (type_name_height t) height))

-- the specifiers of a declaration (6.7)
abbrev pub grammatical_specifiers : List Scope → ℕ → ℕ → SpecifierTrees → Bool
grammatical_specifiers scopes height n ss = (has_specifier ss && levelled_specifiers ss) && (placed_specifiers n ss && (scoped_specifiers false scopes ss && nat_le (specifiers_height ss) height))

-- a declarator of a declaration or of a function's definition (6.7.6, 6.9.1): it declares a name, and an identifier list that is not empty is its own
abbrev pub grammatical_declarator : List Scope → ℕ → ℕ → DeclaratorTree → Bool
grammatical_declarator scopes height n d =
    ((declares d && not (has_other_names d)) && levelled_declarator d) && (placed_declarator n d && (scoped_declarator scopes d && nat_le (declarator_height d) height))

-- an initialiser (6.7.9)
abbrev pub grammatical_init : List Scope → ℕ → ℕ → InitTree → Bool
grammatical_init scopes height n i = levelled_init i && (placed_init n i && (scoped_init scopes i && nat_le (init_height i) height))

-- no external declaration is higher than 512 (own)
abbrev pub low_unit : UnitTree → Bool
low_unit [] = true
low_unit (d ∷ ds) = nat_le (external_height d) 512 && low_unit ds

-- a translation unit (6.9)
abbrev pub is_grammatical : UnitTree → Bool
is_grammatical u = levelled_unit u && (placed_unit 0 u && (scoped_unit u && low_unit u))
