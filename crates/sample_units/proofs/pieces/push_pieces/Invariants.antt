use Rattle.std.proofs.Common.{◌≡◌, ◌++◌, map, take}
use Rattle.std.specs.List.{concat}
use Rattle.sample_units.proofs.pieces.push_pieces.Given as goal

-- the pieces so far stand behind the text
abbrev pub invariant-loop-piece : goal.invariant-loop-piece
invariant-loop-piece l = l.out.items ≡ l.fn.out.items ++ concat (map (λ piece. piece.now) (take l.piece-index l.pieces))
