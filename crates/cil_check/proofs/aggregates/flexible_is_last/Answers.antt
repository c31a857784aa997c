use Rattle.std.proofs.Common.{◌≡◌, ◌+◌, ℕ, suc, false, true, drop, get_or, pos, arith, ap, sym, ◌∙◌, subst, List}
use Rattle.type_graph.specs.declared.aggregates.Member.{Member}
use Rattle.type_graph.specs.Arena.{members_fit, is_struct}
use Rattle.cil_check.specs.Rules.{stands_here}
use Rattle.cil_check.proofs.TypeSteps.{fit_from, member_there, slice_from}
use Rattle.cil_check.proofs.BodySteps.{failed, passed}
use Rattle.cil_check.proofs.aggregates.flexible_is_last.Goals as goal

pub may_stand-requires-clause-there : goal.may_stand-requires-clause-there
may_stand-requires-clause-there c = member_there _ c.args.members.now c.loop-i.i _ c.requires.there c.loop-i-test.true

pub returns-then-not-may_stand : goal.returns-then-not-may_stand
returns-then-not-may_stand c =
    let g = c.args.g.now in
    let ms = c.args.members.now in
    let i : ℕ = c.loop-i.i in
    let m : Member = record { name = record { 0 = 0 }; anonymous = false; ty = record { quals = record { constant = false; restricted = false }; of = record { 0 = 0 } }; value = pos 0 } in
    let stands : c.may_stand.result ≡ stands_here g (is_struct c.args.kind) c.loop-i.behind (drop (suc i) ms) (get_or ms i m).ty.of.0
    = c.may_stand.ensures ∙ ap (λ (rest : List Member). stands_here g (is_struct c.args.kind) c.loop-i.behind rest (get_or ms i m).ty.of.0) (slice_from ms (i + 1) (suc i) (omega arith)) in
    failed _ _ (stands_here g (is_struct c.args.kind) c.loop-i.behind (drop (suc i) ms) (get_or ms i m).ty.of.0) (members_fit g c.args.kind true (drop (suc i) ms)) c.loop-i.invariant (fit_from g c.args.kind c.loop-i.behind ms i m c.loop-i-test.true) (sym stands ∙ c.if-not-may_stand.true)

pub loop-i-preserved : goal.loop-i-preserved
loop-i-preserved c =
    let g = c.args.g.now in
    let ms = c.args.members.now in
    let i : ℕ = c.loop-i.i in
    let m : Member = record { name = record { 0 = 0 }; anonymous = false; ty = record { quals = record { constant = false; restricted = false }; of = record { 0 = 0 } }; value = pos 0 } in
    let stands : c.may_stand.result ≡ stands_here g (is_struct c.args.kind) c.loop-i.behind (drop (suc i) ms) (get_or ms i m).ty.of.0
    = c.may_stand.ensures ∙ ap (λ (rest : List Member). stands_here g (is_struct c.args.kind) c.loop-i.behind rest (get_or ms i m).ty.of.0) (slice_from ms (i + 1) (suc i) (omega arith)) in
    let next : suc i ≡ i + 1 = omega arith in
    subst (λ (k : ℕ). members_fit g c.args.kind true (drop k ms) ≡ members_fit g c.args.kind false ms) next (passed _ _ (stands_here g (is_struct c.args.kind) c.loop-i.behind (drop (suc i) ms) (get_or ms i m).ty.of.0) (members_fit g c.args.kind true (drop (suc i) ms)) c.loop-i.invariant (fit_from g c.args.kind c.loop-i.behind ms i m c.loop-i-test.true) (sym stands ∙ c.if-not-may_stand.false))
