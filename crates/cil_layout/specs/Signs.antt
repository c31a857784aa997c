-- Device: the punctuators of C11 6.4.6p1 by their bytes, in the order in which the code asks.
use Rattle.std.specs.Prelude.{ℕ, nat_eq, ◌&&◌, Bool, true, false, if◌then◌else◌, List, [], ◌∷◌}

-- one byte
unfoldable pub is_sign : ℕ → Bool
is_sign b =
    if nat_eq b 91 then true else (if nat_eq b 93 then true else (if nat_eq b 40 then true else (if nat_eq b 41 then true else (if nat_eq b 123 then true else (if nat_eq b 125 then true
    else (if nat_eq b 46 then true else (if nat_eq b 38 then true else (if nat_eq b 42 then true else (if nat_eq b 43 then true else (if nat_eq b 45 then true else (if nat_eq b 126 then true
    else (if nat_eq b 33 then true else (if nat_eq b 47 then true else (if nat_eq b 37 then true else (if nat_eq b 60 then true else (if nat_eq b 62 then true else (if nat_eq b 94 then true
    else (if nat_eq b 124 then true else (if nat_eq b 63 then true else (if nat_eq b 58 then true else (if nat_eq b 59 then true else (if nat_eq b 61 then true else (if nat_eq b 44 then true
    else nat_eq b 35)))))))))))))))))))))))

-- two bytes, by the one and the other
unfoldable pub is_pair : ℕ → ℕ → Bool
is_pair a b =
    if nat_eq a 45 && nat_eq b 62 then true else (if nat_eq a 43 && nat_eq b 43 then true else (if nat_eq a 45 && nat_eq b 45 then true else (if nat_eq a 60 && nat_eq b 60 then true else (if nat_eq a 62 && nat_eq b 62 then true else (if nat_eq a 60 && nat_eq b 61 then true else (
    if nat_eq a 62 && nat_eq b 61 then true else (if nat_eq a 61 && nat_eq b 61 then true else (if nat_eq a 33 && nat_eq b 61 then true else (if nat_eq a 38 && nat_eq b 38 then true else (if nat_eq a 124 && nat_eq b 124 then true else (if nat_eq a 42 && nat_eq b 61 then true else (
    if nat_eq a 47 && nat_eq b 61 then true else (if nat_eq a 37 && nat_eq b 61 then true else (if nat_eq a 43 && nat_eq b 61 then true else (if nat_eq a 45 && nat_eq b 61 then true else (if nat_eq a 38 && nat_eq b 61 then true else (if nat_eq a 94 && nat_eq b 61 then true else (
    if nat_eq a 124 && nat_eq b 61 then true else (if nat_eq a 35 && nat_eq b 35 then true else (if nat_eq a 60 && nat_eq b 58 then true else (if nat_eq a 58 && nat_eq b 62 then true else (if nat_eq a 60 && nat_eq b 37 then true else (if nat_eq a 37 && nat_eq b 62 then true else (
    nat_eq a 37 && nat_eq b 58))))))))))))))))))))))))

-- three and four bytes
unfoldable pub is_triple : ℕ → ℕ → ℕ → Bool
is_triple a b c =
    if nat_eq a 46 && (nat_eq b 46 && nat_eq c 46) then true else (if nat_eq a 60 && (nat_eq b 60 && nat_eq c 61) then true else nat_eq a 62 && (nat_eq b 62 && nat_eq c 61))

unfoldable pub is_quad : ℕ → ℕ → ℕ → ℕ → Bool
is_quad a b c d = nat_eq a 37 && (nat_eq b 58 && (nat_eq c 37 && nat_eq d 58))

-- a token that is a punctuator
abbrev pub is_punctuator : List ℕ → Bool
is_punctuator (a ∷ []) = is_sign a
is_punctuator (a ∷ b ∷ []) = is_pair a b
is_punctuator (a ∷ b ∷ c ∷ []) = is_triple a b c
is_punctuator (a ∷ b ∷ c ∷ d ∷ []) = is_quad a b c d
is_punctuator _ = false

-- a token that is one byte
abbrev pub is_only : ℕ → List ℕ → Bool
is_only byte (a ∷ []) = nat_eq a byte
is_only byte _ = false
