-- Device: what stands behind so many words.
use Rattle.std.proofs.Common.{◌≡◌, ℕ, zero, suc, List, [], ◌∷◌, refl, ap, take, drop, length, ◌<◌, ◌-◌, arith, length-drop}
use Rattle.std.proofs.lemmas.List.{take_all}
use Rattle.cil_text.specs.ReadTypes.{skip_one}
use Rattle.cil_scan.specs.declared.words.Word.{Word as Seen}
use Rattle.cil_scan.specs.Said.{all_said}

pub said_behind : (at : ℕ) (ws : List Seen) → all_said (drop (suc at) ws) ≡ skip_one (all_said (drop at ws))
said_behind zero [] = refl
said_behind zero (w ∷ ws) = refl
said_behind (suc at) [] = refl
said_behind (suc at) (w ∷ ws) = said_behind at ws

-- `&words[at..]`
pub rest_of : (words : List Seen) (at : ℕ) → take (length words - at) (drop at words) ≡ drop at words
rest_of words at = take_all (length words - at) (drop at words) (omega (arith, length-drop at words))

pub rest_within : (words : List Seen) (at : ℕ) → 0 < length (take (length words - at) (drop at words)) → at < length words
rest_within words at h = let e = ap length (rest_of words at) in omega (arith, e, length-drop at words)
