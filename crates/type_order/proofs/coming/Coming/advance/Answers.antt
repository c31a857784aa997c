use Rattle.std.proofs.Common.{Some, slice_get, ap, sym, ◌∙◌}
use Rattle.type_order.specs.Order.{needed_of}
use Rattle.type_order.proofs.ComingLaws.{on_ok, marks, advanced}
use Rattle.type_order.proofs.coming.Coming.advance.Goals as goal

pub returns : goal.returns
returns c = λ start p. on_ok c.release.result
    (λ r. advanced (needed_of c.args.needs.now) c.args.listed start c.args.order.now.items c.push.new.self.items c.args.x c.args.self.now c.mark.new.self c.release.new.self
    (ap (λ l. slice_get l c.args.x) (sym c.deref.ensures.value) ∙ c.in_ok-is_done.ensures ∙ ap Some c.if-branch.false) c.in_ok-push.ensures.items p c.in_ok-mark.ensures r)
    (c.release.ensures (marks (needed_of c.args.needs.now) c.args.listed c.args.x c.args.self.now c.mark.new.self p.coming c.in_ok-mark.ensures))
