use Rattle.std.proofs.Common.{◌≡◌, map, take}
use Rattle.std.specs.List.{concat}
use Rattle.outside.specs.Moves.{Wrote}
use Rattle.cil_lines.proofs.lines.write_pieces.Given as goal

-- the pieces so far were written, and no write failed
abbrev pub invariant-loop-piece : goal.invariant-loop-piece
invariant-loop-piece g l =
    Wrote (g.E.Sink.taken l.fn.err) (g.E.Sink.taken l.err) (concat (map (λ piece. piece.now) (take l.piece-index l.pieces)))
    × (g.E.Sink.faults l.err ≡ g.E.Sink.faults l.fn.err)
