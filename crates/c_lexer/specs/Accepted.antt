-- Device: the kind of piece that a whole text is to the automaton.
use Rattle.std.specs.Prelude.{ℕ, Bool, List, [], ◌∷◌, Option, Some, None}
use Rattle.c_lexer.specs.declared.pieces.Kind.{Kind}
use Rattle.c_lexer.specs.declared.state.State.{State}
use Rattle.c_lexer.specs.Automaton.{begins, behind, accepts}

abbrev pub on_some : Option State → (State → Option Kind) → Option Kind
on_some None go = None
on_some (Some state) go = go state

-- from a state on
abbrev pub accepted : State → List ℕ → Option Kind
accepted s [] = accepts s
accepted s (b ∷ bs) = on_some (behind s b) (λ t. accepted t bs)

-- from the first byte on
abbrev pub kind_at : Bool → List ℕ → Option Kind
kind_at fresh [] = None
kind_at fresh (b ∷ bs) = accepted (begins fresh b) bs
