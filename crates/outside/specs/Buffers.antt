-- Device: a step of a loop that fills a buffer behind what it holds already.
use Rattle.std.specs.Prelude.{◌≡◌, ℕ, ◌+◌, ◌≤◌, List, [], ◌++◌, length, take, drop, Option, IfSome}
use Rattle.std.specs.Option.{option_map}

-- n bytes went from the front of what was left into the buffer from a place on, none only at the end
pub record FillsFrom (place : ℕ) (left left' : Option (List ℕ)) (buf buf' : List ℕ) (n : ℕ) : Type 0 where
  pub fits : place + n ≤ length buf
  pub rest : left' ≡ option_map (λ bytes. drop n bytes) left
  pub bytes : IfSome left (λ bytes. (n ≤ length bytes) × (take (place + n) buf' ≡ take place buf ++ take n bytes))
  pub end : n ≡ 0 → IfSome left (λ bytes. bytes ≡ [])
