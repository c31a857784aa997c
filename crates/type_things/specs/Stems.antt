-- Definition: what remains of a name without the suffixes that an earlier merge gave it (own).
use Rattle.std.specs.Prelude.{ℕ, zero, suc, ◌-◌, List, Option, Some, None, length, take, drop, reverse, nat_eq, codes, if◌then◌else◌}
use Rattle.std.specs.Char.{is_ascii_digit}
use Rattle.std.specs.List.{prefix_len}
use Rattle.std.specs.Str.{bytes_eq}

-- how many digits stand at the end of a text
abbrev pub digits_at_end : List ℕ → ℕ
digits_at_end text = prefix_len is_ascii_digit (reverse text)

-- a text without three underscores at its end
abbrev pub without_bars : List ℕ → Option (List ℕ)
without_bars text = if bytes_eq (drop (length text - 3) text) (codes "___") then Some (take (length text - 3) text) else None

-- a name without one suffix `___` with digits behind it, if it has one
abbrev pub without_suffix : List ℕ → Option (List ℕ)
without_suffix text = if nat_eq (digits_at_end text) 0 then None else without_bars (take (length text - digits_at_end text) text)

-- a name without at most k suffixes
abbrev pub stem_within : ℕ → List ℕ → List ℕ
stem_within zero text = text
stem_within (suc k) text = elim (without_suffix text) [ None ↦ text | Some front ↦ stem_within k front ]

-- a name without all its suffixes
abbrev pub stem_of : List ℕ → List ℕ
stem_of text = stem_within (length text) text
