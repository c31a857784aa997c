use Rattle.std.proofs.Common.{◌≡◌, ◌≤◌, length, take, drop, [], ap, ◌∙◌, rules, vec_len, arith}
use Rattle.cil_streams.specs.Held.{AheadState}
use Rattle.cil_streams.proofs.Unread.{no_unread, all_taken, fill_fails, fill_gives}
use Rattle.cil_streams.proofs.ahead.Ahead.fill.Goals as goal

pub returns-in_err-n-clause-filled : goal.returns-in_err-n-clause-filled
returns-in_err-n-clause-filled g c =
    let none : drop c.self.inside.taken (take c.self.inside.filled c.self.inside.buffer.items) ≡ [] = search rules in
    let len : length c.self.inside.buffer.items ≡ vec_len c.self.inside.buffer = search rules in
    let fits : c.self.inside.filled ≤ length c.self.inside.buffer.items = omega (arith, c.self.invariant.1) in
    let all = all_taken c.self.inside.buffer.items c.self.inside.taken c.self.inside.filled c.self.invariant.0 fits none in
    fill_fails c.from_residual.result _ _ _ _ c.from_residual.ensures.0 c.requires (no_unread _ _ _ all) (ap (λ (a : AheadState). a.ended) c.self.view_is) c.in_err-n.ensures.failed

pub returns-clause-filled : goal.returns-clause-filled
returns-clause-filled g c =
    let len : length c.self.inside.buffer.items ≡ vec_len c.self.inside.buffer = search rules in
    let size : length c.self.inside.buffer.items ≡ 4096 = len ∙ c.self.invariant.2 in
    fill_gives _ _ _ _ c.self.inside.buffer.items _ c.in_ok-n.n c.in_ok-n.ensures.read c.read_into.ensures.len size
