use Rattle.std.proofs.Common.{refl}
use Rattle.type_iso.proofs.merging.clash.Goals as goal

pub returns : goal.returns
returns c = record {
  left = c.in_ok-type_of.field-0;
  right = c.in_ok-type_of-2.field-0;
  is = refl;
  first = c.in_ok-type_over.field-0;
  first_over = c.in_ok-type_over.ensures;
  first_at = c.in_ok-type_of.ensures;
  second = c.in_ok-type_over-2.field-0;
  second_over = c.in_ok-type_over-2.ensures;
  second_at = c.in_ok-type_of-2.ensures;
}
