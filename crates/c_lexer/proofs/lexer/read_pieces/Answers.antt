use Rattle.std.proofs.Common.{◌≡◌, ◌≤◌, ◌∙◌, length, take, drop, ◌+◌, get_or, ap, sym, rules, arith}
use Rattle.c_lexer.specs.Automaton.{piece}
use Rattle.c_lexer.specs.Tokens.{Goes, piece_read}
use Rattle.c_lexer.specs.ReaderView.{reading_of}
use Rattle.c_lexer.proofs.Interning.{grows_on}
use Rattle.c_lexer.proofs.Cutting.{goes, rest_of}
use Rattle.c_lexer.proofs.lexer.read_pieces.Goals as goal

pub loop-rest-preserved : goal.loop-rest-preserved
loop-rest-preserved c =
    let some : 1 ≤ length c.loop-rest.rest.now = omega arith in
    let is : c.piece-raw.result ≡ piece c.loop-rest.fresh (get_or c.loop-rest.rest.now 0 0) (drop 1 c.loop-rest.rest.now) = c.piece-raw.ensures.reading ∙ ap (λ bs. piece c.loop-rest.fresh (get_or c.loop-rest.rest.now 0 0) bs) (rest_of c.loop-rest.rest.now) in
    let text : c.split_at.result.0.now ≡ take c.piece-raw.result.len c.loop-rest.rest.now = search rules in
    let more : c.split_at.result.1.now ≡ drop c.piece-raw.result.len c.loop-rest.rest.now = search rules in
    let follows : piece_read c.piece-raw.result.kind c.split_at.result.0.now (reading_of c.loop-rest.reader c.loop-rest.names) ≡ Goes (reading_of c.piece.new.self c.piece.new.names) = search rules in
    let step = goes c.loop-rest.fresh c.loop-rest.rest.now c.piece-raw.result (reading_of c.loop-rest.reader c.loop-rest.names) (reading_of c.piece.new.self c.piece.new.names) some is c.piece-raw.ensures.some (rw (sym text) follows) in
    let start : c.piece.new.self.spot.start ≡ c.loop-rest.reader.spot.start + length c.split_at.result.0.now = c.in_ok-piece.ensures.start in
    (rw (c.fresh_behind-fresh.ensures, more) (sym step ∙ c.loop-rest.invariant.0), search rules, omega arith, search rules, grows_on _ _ _ c.loop-rest.invariant.4 c.piece.ensures.pool)

pub returns-in_err-piece-clause-pool : goal.returns-in_err-piece-clause-pool
returns-in_err-piece-clause-pool c = grows_on _ _ _ c.loop-rest.invariant.4 c.piece.ensures.pool
