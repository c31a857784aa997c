-- Device: each number of a token in the unit that the tokens of a file spell is one of a token of the file.
use Rattle.std.proofs.Common.{◌≡◌, ◌&&◌, length, ap, ◌∙◌, arith}
use Rattle.std.proofs.lemmas.List.{length-map}
use Rattle.c_lexer.specs.Lexed.{Lexed}
use Rattle.c_cursor.specs.Lexemes.{lexeme_of}
use Rattle.c_tree.specs.Grammatical.{low_unit}
use Rattle.c_tree.specs.Levels.{has_some, levelled_externals, levelled_unit}
use Rattle.c_tree.specs.Placed.{placed_unit}
use Rattle.c_tree.specs.Scoped.{scoped_unit}
use Rattle.c_tree.specs.Units.{UnitTree}
use Rattle.c_tree.specs.UnitSpelling.{spell_unit}
use Rattle.c_places.specs.Below.{UnitBelow}
use Rattle.c_places.specs.Read.{IsUnitOf}
use Rattle.c_places.proofs.BelowLaws.{both, below_unit}

pub tokens_there : (t : Lexed) (u : UnitTree) → IsUnitOf t u → UnitBelow (length t.entries) u
tokens_there t u is =
    let parts = both (levelled_unit u) (placed_unit 0 u && (scoped_unit u && low_unit u)) is.grammatical in
    let rest = both (placed_unit 0 u) (scoped_unit u && low_unit u) parts.1 in
    let count : length (spell_unit u) ≡ length t.entries = ap length is.spelled ∙ length-map t.entries (lexeme_of t.source) in
    below_unit (length t.entries) 0 u rest.0 (both (has_some u) (levelled_externals u) parts.0).1 (omega (arith, count))
