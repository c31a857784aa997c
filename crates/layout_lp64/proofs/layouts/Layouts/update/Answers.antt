use Rattle.std.proofs.Common.{◌≡◌, length, subst, arith}
use Rattle.layout_lp64.specs.Tables.{FitsOrNew}
use Rattle.layout_lp64.proofs.UpdateLaws.{ok_from, updated, too_big}
use Rattle.layout_lp64.proofs.layouts.Layouts.update.Goals as goal

pub returns-in-None : goal.returns-in-None
returns-in-None c =
    let e : c.len-first.result ≡ length c.args.self.now.spans = omega (arith, c.len-first.ensures) in
    updated c.args.self.now c.extend.new.self c.args.g.now c.extend.ensures.arena c.requires (ok_from c.extend.result c.is_err.result c.is_err.ensures.value c.if-is_err.false c.extend.ensures.extended)
    (subst (λ n. FitsOrNew c.extend.new.self c.args.g.now n c.args.self.now.completed) e c.in-None.ensures)

pub returns-in-Some : goal.returns-in-Some
returns-in-Some c = too_big c.args.self.now c.extend.new.self c.args.g.now c.in-Some.t.0 c.extend.ensures.arena (ok_from c.extend.result c.is_err.result c.is_err.ensures.value c.if-is_err.false c.extend.ensures.extended) c.in-Some.ensures
