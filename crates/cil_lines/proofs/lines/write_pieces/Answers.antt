use Rattle.std.proofs.Common.{◌∙◌}
use Rattle.cil_lines.proofs.Fronts.{began_behind}
use Rattle.cil_lines.proofs.Pieces.{pieces_split, wrote_piece}
use Rattle.cil_lines.proofs.lines.write_pieces.Goals as goal

pub returns-in_err-write_all-clause-began : goal.returns-in_err-write_all-clause-began
returns-in_err-write_all-clause-began g c =
    began_behind _ _ _ _ _ _ _ c.loop-piece.invariant.0 c.write_all.ensures.began (pieces_split (λ piece. piece.now) c.args.pieces.now c.loop-piece.piece-index _ c.loop-piece-test.true)

pub loop-piece-preserved : goal.loop-piece-preserved
loop-piece-preserved g c = (
  wrote_piece (λ piece. piece.now) c.args.pieces.now c.loop-piece.piece-index _ _ _ _ c.loop-piece-test.true c.loop-piece.invariant.0 c.in_ok-write_all.ensures.ok,
  c.in_ok-write_all.ensures.count.stays ∙ c.loop-piece.invariant.1,
)
