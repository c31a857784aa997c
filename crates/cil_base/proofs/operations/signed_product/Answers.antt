use Rattle.std.proofs.Common.{◌^◌, ◌*ℤ◌, FitsSigned, lit<}
use Rattle.std.proofs.lemmas.Int.{fits_signed_mul, to_z-of_z}
use Rattle.std.specs.Int.{w128}
use Rattle.cil_base.proofs.operations.signed_product.Goals as goal

pub returns : goal.returns
returns c =
    let left : FitsSigned w128 c.args.a = c.ranges.a in
    let right : FitsSigned w128 c.args.b = c.ranges.b in
    let product : FitsSigned w128 (c.args.a *ℤ c.args.b) = fits_signed_mul w128 c.args.a c.args.b (2 ^ 63) (2 ^ 63) c.requires.left c.requires.right (lit< tt) in
    simp to_z-of_z
