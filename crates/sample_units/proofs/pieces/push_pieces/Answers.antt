use Rattle.sample_units.proofs.Behind.{pieces_behind}
use Rattle.sample_units.proofs.pieces.push_pieces.Goals as goal

pub loop-piece-preserved : goal.loop-piece-preserved
loop-piece-preserved c = pieces_behind (λ piece. piece.now) c.args.pieces.now c.loop-piece.piece-index _ _ _ _ c.loop-piece-test.true c.loop-piece.invariant c.in_ok-extend_from_slice.ensures.items
