-- Device: a sample has as many files as units.
use Rattle.std.proofs.Common.{◌≡◌, ℕ, List, length, map, sym, ap, subst, ◌∙◌}
use Rattle.sample_units.specs.Units.{file_name, file_names}
use Rattle.std.proofs.lemmas.List.{length-map}
use Rattle.std.proofs.lemmas.List.FromFn.{length-map-range_with_len}

pub as_many : {A : Type 0} (bytes : A → List ℕ) (files : List A) (units : ℕ) → map bytes files ≡ file_names units → length files ≡ units
as_many bytes files units is = sym (length-map files bytes) ∙ (ap length is ∙ length-map-range_with_len file_name 0 units)

-- what is said of units and their files
pub of_both : (P : List (List ℕ) → List (List ℕ) → Type 0) (us vs fs gs : List (List ℕ)) → us ≡ vs → fs ≡ gs → P us fs → P vs gs
of_both P us vs fs gs units files says = subst (λ hs. P vs hs) files (subst (λ ws. P ws fs) units says)
