use Rattle.std.proofs.Common.{◌∙◌, subst, arith}
use Rattle.static_rename.specs.Within.{IsNamedWithin}
use Rattle.fresh_names.proofs.NamingLaws.{stays_twice}
use Rattle.static_rename.proofs.EachLaws.{each_of}
use Rattle.static_rename.proofs.BodyLaws.{within_next}
use Rattle.static_rename.proofs.bodies.name_bodies.Goals as goal

pub loop-e-preserved : goal.loop-e-preserved
loop-e-preserved c = (
  c.in_ok-name_within.ensures.kept ∙ c.loop-e.invariant.0,
  stays_twice c.args.names.now c.loop-e.names c.name_within.new.names c.loop-e.invariant.1 c.in_ok-name_within.ensures.stays,
  c.in_ok-name_within.ensures.table,
  within_next c.args.file.now.names.taken.keys c.loop-e.file.names.taken.keys c.loop-e.names c.name_within.new.names c.args.bases c.loop-e.e c.args.globals.now.items c.loop-e.globals.items c.index_mut.result.now c.name_within.new.global
      (omega (arith, c.loop-e-test.true, c.len-e-end.ensures)) c.loop-e.invariant.0 c.in_ok-name_within.ensures.stays c.loop-e.invariant.3
      (subst (λ x. IsNamedWithin c.loop-e.file.names.taken.keys c.name_within.new.names c.args.bases x c.name_within.new.global) c.index_mut.ensures.value c.in_ok-name_within.ensures.named),
)

pub returns-clause-named : goal.returns-clause-named
returns-clause-named c =
    each_of (IsNamedWithin c.args.file.now.names.taken.keys c.loop-e.names c.args.bases) c.loop-e.e c.args.globals.now.items c.loop-e.globals.items (omega (arith, c.loop-e-test.false, c.len-e-end.ensures)) c.loop-e.invariant.3
