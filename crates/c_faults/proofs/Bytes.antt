-- Units of as many bytes as they may have, and of one more, whatever these are.
use Rattle.std.proofs.Common.{◌≡◌, ◌+◌, ap, ◌∙◌, ℕ, nat_lt, List, length}
use Rattle.cil_base.specs.Limits.{total_bytes, unit_bytes}
use Rattle.cil_base.specs.declared.kinds.Abi.{Abi}
use Rattle.cil_base.specs.declared.faults.What.TheVariants.{UnitBytes, TotalBytes}
use Rattle.c_faults.specs.Reading.{Source, over}
use Rattle.c_faults.specs.FirstRefusal.{IsRefused, after_tokens, tokens_of, within_unit, within_total, finding}

-- alone
largest_unit : (abi : Abi) (names : List (List ℕ)) (u : Source) → length u.bytes ≡ 4194304 → finding abi 0 names u ≡ after_tokens abi u (tokens_of names u)
largest_unit abi names u e = ap (λ n. within_unit abi 0 names u (nat_lt unit_bytes n)) e ∙ ap (λ n. within_total abi 0 names u (nat_lt total_bytes (0 + n))) e

large_unit : (abi : Abi) (total : ℕ) (names : List (List ℕ)) (u : Source) → length u.bytes ≡ 4194305 → finding abi total names u ≡ IsRefused (over UnitBytes u)
large_unit abi total names u e = ap (λ n. within_unit abi total names u (nat_lt unit_bytes n)) e

-- behind others
largest_total : (abi : Abi) (names : List (List ℕ)) (u : Source) → length u.bytes ≡ 4194304 → finding abi 12582912 names u ≡ after_tokens abi u (tokens_of names u)
largest_total abi names u e = ap (λ n. within_unit abi 12582912 names u (nat_lt unit_bytes n)) e ∙ ap (λ n. within_total abi 12582912 names u (nat_lt total_bytes (12582912 + n))) e

large_total : (abi : Abi) (names : List (List ℕ)) (u : Source) → length u.bytes ≡ 6 → finding abi 16777216 names u ≡ IsRefused (over TotalBytes u)
large_total abi names u e = ap (λ n. within_unit abi 16777216 names u (nat_lt unit_bytes n)) e ∙ ap (λ n. within_total abi 16777216 names u (nat_lt total_bytes (16777216 + n))) e
