use Rattle.std.proofs.Common.{ℤ, pos, w64, FitsSigned, sym, ◌∙◌, subst}
use Rattle.std.proofs.lemmas.Int.{to_z-of_z, fits_signed_from_abs}
use Rattle.byte_mem.specs.Store.{memory}
use Rattle.cil_start.proofs.Writings.{put_changed}
use Rattle.cil_start.proofs.images.put.Goals as goal

pub returns : goal.returns
returns c =
    let fits : FitsSigned w64 c.offset_of.result = subst (λ (z : ℤ). FitsSigned w64 z) (sym c.offset_of.ensures) (fits_signed_from_abs w64 (pos c.args.w.at) c.requires) in
    put_changed c.store.result c.args.mem.now c.store.new.self c.args.mem.now.abi (memory c.args.mem.now) c.args.e _ c.args.w (to_z-of_z w64 c.offset_of.result fits ∙ c.offset_of.ensures) c.store.ensures
