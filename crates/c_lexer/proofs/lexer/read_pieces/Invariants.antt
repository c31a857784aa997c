use Rattle.std.proofs.Common.{◌≡◌, ◌+◌, true, length}
use Rattle.c_lexer.specs.Automaton.{pieces}
use Rattle.c_lexer.specs.Tokens.{read, begun}
use Rattle.c_lexer.specs.Lexed.{Grows}
use Rattle.c_lexer.specs.ReaderView.{reading_of, IsBounded}
use Rattle.c_lexer.proofs.lexer.read_pieces.Given as goal

abbrev pub invariant-loop-rest : goal.invariant-loop-rest
invariant-loop-rest l =
    (read (pieces 0 l.fresh l.rest) (reading_of l.reader l.names) ≡ read (pieces 0 true l.bytes) (begun l.fn.unit l.fn.file l.fn.names))
    × (IsBounded (length l.bytes) l.reader)
    × (l.reader.spot.start + length l.rest ≡ length l.bytes)
    × (l.reader.unit ≡ l.fn.unit)
    × (Grows l.fn.names l.names)

abbrev pub decreases-loop-rest : goal.decreases-loop-rest
decreases-loop-rest l = length l.rest
