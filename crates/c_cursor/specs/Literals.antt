-- Device: the reading of string literals that stand one behind the other (6.4.5).
use Rattle.std.specs.Prelude.{ℕ, List, [], ◌∷◌, ◌++◌}
use Rattle.c_cursor.specs.Readers.{Reader, pure, bind, one, many}
use Rattle.c_cursor.specs.Classes.{next_is, a_literal, is_literal}

abbrev pub one_literal : List (List ℕ) → Reader (List (List ℕ))
one_literal texts = bind (one a_literal) (λ t. pure (texts ++ t ∷ []))

abbrev pub more_literals : List (List ℕ) → Reader (List (List ℕ))
more_literals texts = many (λ ts o. next_is is_literal o) one_literal texts

abbrev pub some_literals : Reader (List (List ℕ))
some_literals = bind (one a_literal) (λ t. more_literals (t ∷ []))
