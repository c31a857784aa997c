-- Device: what several calls append one after the other.
use Rattle.std.proofs.Common.{◌≡◌, ℕ, zero, suc, ◌+◌, ◌-◌, ◌^◌, List, [], ◌∷◌, ◌++◌, length, replicate, take, codes, refl, sym, ap, ◌∙◌, append_assoc, append-nil, length-append, arith, ◌<◌, ◌≤◌, ◌*◌}
use Rattle.std.proofs.lemmas.List.{length-replicate, take_all}
use Rattle.cil_tree.specs.Lines.{Token}
use Rattle.cil_tree.specs.Declarators.{in_parentheses}
use Rattle.cil_printer.specs.Output.{Output, Counted, Written, put, puts, capped}
use Rattle.cil_printer.specs.Spaced.{spaced}
use Rattle.cil_printer.proofs.Rooms.{kept_twice, taken_blanks}

capped_twice : (a m n : ℕ) → capped (capped (a + m) + n) ≡ capped (a + (m + n))
capped_twice a m n = omega arith

pub put-put : (o : Output) (xs ys : List ℕ) → put (put o xs) ys ≡ put o (xs ++ ys)
unfolding put
put-put o [] ys = refl
put-put o (x ∷ xs) [] = ap (put o) (sym (append-nil (x ∷ xs)))
put-put (Counted n) (x ∷ xs) (y ∷ ys) = ap Counted (capped_twice n (length (x ∷ xs)) (length (y ∷ ys)) ∙ ap (λ k. capped (n + k)) (sym (length-append (x ∷ xs) (y ∷ ys))))
put-put (Written room text) (x ∷ xs) (y ∷ ys) = ap (Written room) (kept_twice (capped room) text (x ∷ xs) (y ∷ ys))

pub put_counted : (n : ℕ) (bytes : List ℕ) → n < 2 ^ 64 → put (Counted n) bytes ≡ Counted (capped (n + length bytes))
unfolding put
put_counted n [] h = ap Counted (omega (arith, h))
put_counted n (b ∷ bytes) h = refl

pub ended_counted : (n : ℕ) (bytes : List ℕ) (last : ℕ) → n < 2 ^ 64 → put (Counted n) (bytes ++ last ∷ []) ≡ Counted (capped (n + (length bytes + 1)))
ended_counted n bytes last h = put_counted n (bytes ++ last ∷ []) h ∙ ap (λ k. Counted (capped (n + k))) (length-append bytes (last ∷ []))

pub put_written : (room : ℕ) (text bytes : List ℕ) → room < 2 ^ 64 → put (Written room text) bytes ≡ Written room (text ++ take (room - length text) bytes)
unfolding put
put_written room text [] h = ap (Written room) (sym (append-nil text) ∙ ap (λ t. text ++ t) (sym (take_all (room - length text) [] (omega arith))))
put_written room text (b ∷ bytes) h = ap (λ k. Written room (text ++ take (k - length text) (b ∷ bytes))) (omega (arith, h))

-- where so many blanks follow that there is no room for more, it is the same how many
pub put_blanks : (o : Output) (j k : ℕ) (xs ys : List ℕ) → 2 ^ 64 ≤ suc j → 2 ^ 64 ≤ suc k → put o (replicate j 32 ++ xs) ≡ put o (replicate k 32 ++ ys)
unfolding put
put_blanks o zero k xs ys h g = absurd (omega (arith, h))
put_blanks o (suc j) zero xs ys h g = absurd (omega (arith, g))
put_blanks (Counted n) (suc j) (suc k) xs ys h g = ap Counted (omega (arith, h, g, length-append (replicate j 32) xs, length-append (replicate k 32) ys, length-replicate {A = ℕ} j 32, length-replicate {A = ℕ} k 32))
put_blanks (Written room text) (suc j) (suc k) xs ys h g = ap (λ t. Written room (text ++ t)) (taken_blanks (capped room - length text) (suc j) (suc k) xs ys (omega (arith, h)) (omega (arith, g)))

pub spaced-append : (xs ys : List Token) → spaced (xs ++ ys) ≡ spaced xs ++ spaced ys
spaced-append [] ys = refl
spaced-append (x ∷ xs) ys = ap (λ t. x ++ 32 ∷ t) (spaced-append xs ys) ∙ sym (append_assoc x (32 ∷ spaced xs) (spaced ys))

pub put_known : (k n : ℕ) (bytes : List ℕ) → n < 2 ^ 64 → k ≡ capped (length bytes) → put (Counted n) bytes ≡ Counted (capped (n + k))
put_known k n bytes h e = put_counted n bytes h ∙ ap Counted (omega (arith, e))

-- tokens behind tokens
pub puts-puts : (o : Output) (xs ys : List Token) → puts (puts o xs) ys ≡ puts o (xs ++ ys)
unfolding puts
puts-puts o xs ys = put-put o (spaced xs) (spaced ys) ∙ ap (put o) (sym (spaced-append xs ys))

pub token_pushed : (o a : Output) (token : Token) → a ≡ put o (token ++ 32 ∷ []) → a ≡ puts o (token ∷ [])
unfolding puts
token_pushed o a token e = e

pub constant_pushed : (o a b c : Output) (xs ys : List ℕ) → a ≡ put o xs → b ≡ put a ys → c ≡ put b (32 ∷ []) → c ≡ puts o ((xs ++ ys) ∷ [])
unfolding puts
constant_pushed o a b c xs ys ea eb ec = simp (ec, eb, ea, put-put, append_assoc)

pub two_pushed : (o a b : Output) (xs ys : List Token) → a ≡ puts o xs → b ≡ puts a ys → b ≡ puts o (xs ++ ys)
two_pushed o a b xs ys ea eb = simp (eb, ea, puts-puts)

pub pair_pushed : (o a b : Output) (x y : Token) → a ≡ puts o (x ∷ []) → b ≡ puts a (y ∷ []) → b ≡ puts o (x ∷ y ∷ [])
pair_pushed o a b x y ea eb = simp (eb, ea, puts-puts)

pub cons_pushed : (o a b : Output) (x : Token) (xs : List Token) → a ≡ puts o (x ∷ []) → b ≡ puts a xs → b ≡ puts o (x ∷ xs)
cons_pushed o a b x xs ea eb = simp (eb, ea, puts-puts)

pub three_pushed : (o a b c : Output) (xs ys zs : List Token) → a ≡ puts o xs → b ≡ puts a ys → c ≡ puts b zs → c ≡ puts o (xs ++ (ys ++ zs))
three_pushed o a b c xs ys zs ea eb ec = simp (ec, eb, ea, puts-puts, append_assoc)

pub nothing_pushed : (o : Output) → o ≡ puts o []
unfolding puts put
nothing_pushed o = refl

-- what stands in brackets or parentheses
pub enclosed : (o a b c : Output) (x y : Token) (xs : List Token) → a ≡ puts o (x ∷ []) → b ≡ puts a xs → c ≡ puts b (y ∷ []) → c ≡ puts o (x ∷ (xs ++ y ∷ []))
enclosed o a b c x y xs ea eb ec = simp (ec, eb, ea, puts-puts)

pub least_pushed : (o a b c d : Output) (x y z w : Token) → a ≡ puts o (x ∷ []) → b ≡ puts a (y ∷ []) → c ≡ puts b (z ∷ []) → d ≡ puts c (w ∷ []) → d ≡ puts o (x ∷ y ∷ z ∷ w ∷ [])
least_pushed o a b c d x y z w ea eb ec ed = simp (ed, ec, eb, ea, puts-puts)

pub binary : (o a b c d e : Output) (op : Token) (xs ys : List Token) →
    a ≡ puts o (codes "(" ∷ []) → b ≡ puts a xs → c ≡ puts b (op ∷ []) → d ≡ puts c ys → e ≡ puts d (codes ")" ∷ []) →
    e ≡ puts o (in_parentheses (xs ++ op ∷ ys))
binary o a b c d e op xs ys ea eb ec ed ee = simp (ee, ed, ec, eb, ea, puts-puts, append_assoc)

pub indented_more : (o a : Output) (depth i j : ℕ) → j ≡ suc i → i < depth → a ≡ put o (32 ∷ 32 ∷ []) → put a (replicate (2 * (depth - j)) 32) ≡ put o (replicate (2 * (depth - i)) 32)
indented_more o a depth i j e h ea = ap (λ x. put x (replicate (2 * (depth - j)) 32)) ea ∙ put-put o (32 ∷ 32 ∷ []) (replicate (2 * (depth - j)) 32) ∙ ap (λ k. put o (replicate k 32)) same
  where
    same : suc (suc (2 * (depth - j))) ≡ 2 * (depth - i)
    same = omega (arith, e, h)

pub indented_end : (o x : Output) (depth i : ℕ) → depth ≤ i → put o (replicate (2 * (depth - i)) 32) ≡ x → o ≡ x
unfolding put
indented_end o x depth i h e = ap (λ k. put o (replicate k 32)) none ∙ e
  where
    none : 0 ≡ 2 * (depth - i)
    none = omega (arith, h)

pub indent_known : (n k : ℕ) → k ≡ capped (n * 2) → k ≡ capped (length (replicate {A = ℕ} (2 * n) 32))
indent_known n k e = omega (arith, e, length-replicate {A = ℕ} (2 * n) 32)
