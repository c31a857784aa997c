-- Definition: which bytes a call moves. What an object has left or took is `None` where it does not tell.
use Rattle.std.specs.Prelude.{◌≡◌, ℕ, ◌<◌, ◌≤◌, List, [], ◌++◌, length, take, drop, Option, IfSome}
use Rattle.std.specs.Option.{option_map}

-- n bytes went from the front of what was left into the front of the buffer, none only at the end
pub record Reads (left left' : Option (List ℕ)) (buf buf' : List ℕ) (n : ℕ) : Type 0 where
  pub fits : n ≤ length buf
  pub rest : left' ≡ option_map (λ bytes. drop n bytes) left
  pub bytes : IfSome left (λ bytes. (n ≤ length bytes) × (buf' ≡ take n bytes ++ drop n buf))
  pub end : n ≡ 0 → 0 < length buf → IfSome left (λ bytes. bytes ≡ [])

-- the first n bytes of the piece were taken, at least one where there is one
pub record Writes (taken taken' : Option (List ℕ)) (piece : List ℕ) (n : ℕ) : Type 0 where
  pub fits : n ≤ length piece
  pub some : 0 < length piece → 0 < n
  pub after : taken' ≡ option_map (λ bytes. bytes ++ take n piece) taken

-- the whole text was taken, and nothing else
abbrev pub Wrote : Option (List ℕ) → Option (List ℕ) → List ℕ → Type 0
Wrote old new text = new ≡ option_map (λ taken. taken ++ text) old

-- a front of the text was taken, and nothing else
pub record Began (old new : Option (List ℕ)) (text : List ℕ) : Type 0 where
  pub part : List ℕ
  pub rest : List ℕ
  pub split : text ≡ part ++ rest
  pub wrote : Wrote old new part

-- the text was the front of what was left, and what stood behind it is left
abbrev pub WasRead : Option (List ℕ) → Option (List ℕ) → List ℕ → Type 0
WasRead old new text = old ≡ option_map (λ rest. text ++ rest) new

-- some front of what was left was read
pub record BeganToRead (old new : Option (List ℕ)) : Type 0 where
  pub part : List ℕ
  pub was_read : WasRead old new part

-- all that was left was read, or the first `limit` bytes of it where there are as many
pub record ReadsUpTo (limit : ℕ) (old new : Option (List ℕ)) (text : List ℕ) : Type 0 where
  pub was_read : WasRead old new text
  pub within : length text ≤ limit
  pub end : length text < limit → IfSome new (λ rest. rest ≡ [])
