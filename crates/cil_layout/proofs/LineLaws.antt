-- Device: lines that are read from left to right are those that are laid out.
use Rattle.std.proofs.Common.{◌≡◌, ℕ, zero, suc, ◌+◌, ◌*◌, ◌-◌, ◌&&◌, nat_eq, nat_lt, Bool, true, false, cond, List, [], ◌∷◌, ◌++◌, length, codes, Option, Some, None, refl, sym, ap, ◌∙◌, append_assoc, append-nil, arith, length-append, eqb-true, lt-ltb}
use Rattle.std.specs.Prelude.{replicate}
use Rattle.std.specs.Option.{option_and_then}
use Rattle.std.specs.List.{list_all, join_with_byte}
use Rattle.std.specs.Str.{bytes_eq}
use Rattle.std.proofs.lemmas.Slice.Eq.{bytes_eq-Decides}
use Rattle.cil_tree.specs.Lines.{Token, opens, closes, open_behind, depth_of, line_bytes}
use Rattle.cil_tree.specs.Declarators.{words_from}
use Rattle.cil_tree.specs.LaidOut.{is_token, closes_open, without_last, without_blanks, pieces_of}
use Rattle.cil_layout.specs.Scan.{one_closed, read_words, blanks_of, seen_depth, read_line, line_state}

-- words

pub last_cut : (xs : List ℕ) (b : ℕ) → without_last (xs ++ b ∷ []) ≡ xs
last_cut [] b = refl
last_cut (x ∷ []) b = refl
last_cut (x ∷ y ∷ ys) b = ap (λ zs. x ∷ zs) (last_cut (y ∷ ys) b)

exclusive : (t : Token) → opens t ≡ true → closes t ≡ false
exclusive t e = let same : t ≡ codes "{" = (bytes_eq-Decides t (codes "{")).0 e in ap closes same

abbrev told : Bool → Bool → ℕ → Option ℕ
told tokens closed open_ = cond (tokens && closed) (Some open_) None

words_told : (braces : ℕ) (ts : List Token) → read_words braces ts ≡ told (list_all is_token ts) (closes_open braces ts) (open_behind braces ts)
words_told braces [] = refl
words_told braces (t ∷ ts) = by (is_token t) (opens t) (closes t) refl refl braces (λ b. words_told b ts) (exclusive t)
  where
    by : (a o c : Bool) → opens t ≡ o → closes t ≡ c → (b : ℕ) → ((k : ℕ) → read_words k ts ≡ told (list_all is_token ts) (closes_open k ts) (open_behind k ts)) → (opens t ≡ true → closes t ≡ false) →
        option_and_then (λ (k : ℕ). read_words k ts) (cond a (cond (opens t) (Some (suc b)) (cond (closes t) (one_closed b) (Some b))) None)
        ≡ told (a && list_all is_token ts) (cond (closes t) (nat_lt 0 b) true && closes_open (cond (opens t) (suc b) (cond (closes t) (b - 1) b)) ts) (cond (opens t) (open_behind (suc b) ts) (cond (closes t) (open_behind (b - 1) ts) (open_behind b ts)))
    by false o c p q b more x = refl
    by true true c p q b more x = rw (p, x p) (more (suc b))
    by true false false p q b more x = rw (p, q) (more b)
    by true false true p q zero more x = rw (p, q) (by_none (list_all is_token ts))
      where
        by_none : (v : Bool) → None ≡ told v (nat_lt 0 0 && closes_open (0 - 1) ts) (open_behind (0 - 1) ts)
        by_none true = refl
        by_none false = refl
    by true false true p q (suc b) more x =
        let minus : suc b - 1 ≡ b = omega arith in
        let some : nat_lt 0 (suc b) ≡ true = lt-ltb 0 (suc b) (omega arith) in
        rw (p, q, some, minus) (more b)

-- blanks

pub blanks_split : (text : List ℕ) → text ≡ replicate (blanks_of text) 32 ++ without_blanks text
blanks_split [] = refl
blanks_split (b ∷ bytes) = by (nat_eq b 32) refl (blanks_split bytes)
  where
    by : (v : Bool) → nat_eq b 32 ≡ v → bytes ≡ replicate (blanks_of bytes) 32 ++ without_blanks bytes → b ∷ bytes ≡ replicate (cond v (suc (blanks_of bytes)) 0) 32 ++ cond v (without_blanks bytes) (b ∷ bytes)
    by true e more = let same : b ≡ 32 = eqb-true b 32 e in ap (λ c. c ∷ bytes) same ∙ ap (λ bs. 32 ∷ bs) more
    by false e more = refl

blanks_twice : (text : List ℕ) → without_blanks (without_blanks text) ≡ without_blanks text
blanks_twice [] = refl
blanks_twice (b ∷ bytes) = by (nat_eq b 32) refl (blanks_twice bytes)
  where
    by : (v : Bool) → nat_eq b 32 ≡ v → without_blanks (without_blanks bytes) ≡ without_blanks bytes → without_blanks (cond v (without_blanks bytes) (b ∷ bytes)) ≡ cond v (without_blanks bytes) (b ∷ bytes)
    by true e more = more
    by false e more = ap (λ v. cond v (without_blanks bytes) (b ∷ bytes)) e

replicate_length : (k b : ℕ) → length (replicate k b) ≡ k
replicate_length zero b = refl
replicate_length (suc k) b = ap suc (replicate_length k b)

indented : (k m : ℕ) (rest : List ℕ) → bytes_eq (replicate k 32 ++ rest) (replicate m 32 ++ rest) ≡ nat_eq k m
indented k m rest = by (nat_eq k m) refl (bytes_eq (replicate k 32 ++ rest) (replicate m 32 ++ rest)) refl
  where
    by : (v : Bool) → nat_eq k m ≡ v → (w : Bool) → bytes_eq (replicate k 32 ++ rest) (replicate m 32 ++ rest) ≡ w → w ≡ v
    by true e true f = refl
    by false e false f = refl
    by true e false f =
        let same : k ≡ m = eqb-true k m e in
        let equal : bytes_eq (replicate k 32 ++ rest) (replicate m 32 ++ rest) ≡ true = (bytes_eq-Decides (replicate k 32 ++ rest) (replicate m 32 ++ rest)).1 (ap (λ (j : ℕ). replicate j 32 ++ rest) same) in
        sym f ∙ equal
    by false e true f =
        let same = ap length ((bytes_eq-Decides (replicate k 32 ++ rest) (replicate m 32 ++ rest)).0 f) in
        let equal : k ≡ m = omega (arith, same, length-append (replicate k 32) rest, length-append (replicate m 32) rest, replicate_length k 32, replicate_length m 32) in
        let r : nat_eq k m ≡ true = Rattle.std.proofs.Common.eq-eqb k m equal in
        sym r ∙ e

-- words, joined again

abbrev some_words : List Token → Bool
some_words [] = false
some_words (t ∷ ts) = true

words_some : (word bytes : List ℕ) → some_words (words_from word bytes) ≡ true
words_some word [] = refl
words_some word (b ∷ bytes) = by (nat_eq b 32) (words_some (word ++ b ∷ []) bytes)
  where
    by : (v : Bool) → some_words (words_from (word ++ b ∷ []) bytes) ≡ true → some_words (cond v (word ∷ words_from [] bytes) (words_from (word ++ b ∷ []) bytes)) ≡ true
    by true more = refl
    by false more = more

join_some : (t : Token) (ts : List Token) → some_words ts ≡ true → join_with_byte 32 (t ∷ ts) ≡ t ++ 32 ∷ join_with_byte 32 ts
join_some t [] e = absurd (Rattle.std.proofs.Common.true≢false (sym e))
join_some t (u ∷ ts) e = refl

words_joined : (word bytes : List ℕ) → join_with_byte 32 (words_from word bytes) ≡ word ++ bytes
words_joined word [] = sym (append-nil word)
words_joined word (b ∷ bytes) = by (nat_eq b 32) refl (words_joined [] bytes) (words_joined (word ++ b ∷ []) bytes)
  where
    by : (v : Bool) → nat_eq b 32 ≡ v → join_with_byte 32 (words_from [] bytes) ≡ bytes → join_with_byte 32 (words_from (word ++ b ∷ []) bytes) ≡ (word ++ b ∷ []) ++ bytes →
        join_with_byte 32 (cond v (word ∷ words_from [] bytes) (words_from (word ++ b ∷ []) bytes)) ≡ word ++ b ∷ bytes
    by true e one two =
        let same : b ≡ 32 = eqb-true b 32 e in
        join_some word (words_from [] bytes) (words_some [] bytes) ∙ ap (λ bs. word ++ 32 ∷ bs) one ∙ ap (λ c. word ++ c ∷ bytes) (sym same)
    by false e one two = two ∙ append_assoc word (b ∷ []) bytes

-- depth

no_close : (a b : ℕ) (word bytes : List ℕ) (braces : ℕ) → depth_of braces (words_from (a ∷ b ∷ word) bytes) ≡ braces
no_close a b word [] braces = by (nat_eq a 125)
  where
    by : (v : Bool) → cond (v && false) (braces - 1) braces ≡ braces
    by true = refl
    by false = refl
no_close a b word (c ∷ bytes) braces = by (nat_eq c 32) (nat_eq a 125) (no_close a b (word ++ c ∷ []) bytes braces)
  where
    inner : (w : Bool) → cond (w && false) (braces - 1) braces ≡ braces
    inner true = refl
    inner false = refl

    by : (v w : Bool) → depth_of braces (words_from (a ∷ b ∷ (word ++ c ∷ [])) bytes) ≡ braces → depth_of braces (cond v ((a ∷ b ∷ word) ∷ words_from [] bytes) (words_from (a ∷ b ∷ (word ++ c ∷ [])) bytes)) ≡ braces
    by true w more = inner (nat_eq a 125)
    by false w more = more

depth_seen : (braces : ℕ) (rest : List ℕ) → depth_of braces (words_from [] rest) ≡ seen_depth braces rest
depth_seen braces [] = refl
depth_seen braces (a ∷ []) = by (nat_eq a 32) refl
  where
    same : (v : Bool) → cond (v && true) (braces - 1) braces ≡ cond v (braces - 1) braces
    same true = refl
    same false = refl

    by : (v : Bool) → nat_eq a 32 ≡ v → depth_of braces (cond v ([] ∷ words_from [] []) (words_from (a ∷ []) [])) ≡ cond (nat_eq a 125) (braces - 1) braces
    by true e = let is : a ≡ 32 = eqb-true a 32 e in ap (λ c. cond (nat_eq c 125) (braces - 1) braces) (sym is)
    by false e = same (nat_eq a 125)
depth_seen braces (a ∷ b ∷ bytes) = by (nat_eq a 32) refl
  where
    one : (v w : Bool) → nat_eq b 32 ≡ w → cond (v && true) (braces - 1) braces ≡ cond (v && true) (braces - 1) braces
    one v w e = refl

    two : (w : Bool) → nat_eq b 32 ≡ w → depth_of braces (cond w ((a ∷ []) ∷ words_from [] bytes) (words_from (a ∷ b ∷ []) bytes)) ≡ cond (nat_eq a 125 && w) (braces - 1) braces
    two true e = refl
    two false e = no_close a b [] bytes braces ∙ never (nat_eq a 125)
      where
        never : (v : Bool) → braces ≡ cond (v && false) (braces - 1) braces
        never true = refl
        never false = refl

    by : (v : Bool) → nat_eq a 32 ≡ v → depth_of braces (cond v ([] ∷ words_from [] (b ∷ bytes)) (words_from (a ∷ []) (b ∷ bytes))) ≡ cond (nat_eq a 125 && nat_eq b 32) (braces - 1) braces
    by true e = let is : a ≡ 32 = eqb-true a 32 e in ap (λ c. cond (nat_eq c 125 && nat_eq b 32) (braces - 1) braces) (sym is)
    by false e = two (nat_eq b 32) refl

-- a line, and its line feed
pub line_is : (braces : ℕ) (text : List ℕ) → read_line braces text ≡ line_state braces (text ++ 10 ∷ [])
line_is braces text =
    let k = blanks_of text in
    let rest = without_blanks text in
    let ps = words_from [] rest in
    let pieces : pieces_of (text ++ 10 ∷ []) ≡ ps = ap (λ bytes. words_from [] (without_blanks bytes)) (last_cut text 10) in
    let line : text ++ 10 ∷ [] ≡ replicate k 32 ++ (rest ++ 10 ∷ []) = ap (λ bytes. bytes ++ 10 ∷ []) (blanks_split text) ∙ append_assoc (replicate k 32) rest (10 ∷ []) in
    let laid : bytes_eq (text ++ 10 ∷ []) (line_bytes braces ps) ≡ nat_eq k (2 * seen_depth braces rest) =
    ap (λ l. bytes_eq l (line_bytes braces ps)) line
    ∙ ap (λ bytes. bytes_eq (replicate k 32 ++ (rest ++ 10 ∷ [])) (replicate (2 * depth_of braces ps) 32 ++ (bytes ++ 10 ∷ []))) (words_joined [] rest)
    ∙ indented k (2 * depth_of braces ps) (rest ++ 10 ∷ [])
    ∙ ap (λ d. nat_eq k (2 * d)) (depth_seen braces rest) in
    ap (λ o. cond (nat_eq k (2 * seen_depth braces rest)) o None) (words_told braces ps)
    ∙ by (list_all is_token ps) (closes_open braces ps) (nat_eq k (2 * seen_depth braces rest)) (open_behind braces ps)
    ∙ ap (λ v. cond (list_all is_token ps && (closes_open braces ps && v)) (Some (open_behind braces ps)) None) (sym laid)
    ∙ ap (λ qs. cond (list_all is_token qs && (closes_open braces qs && bytes_eq (text ++ 10 ∷ []) (line_bytes braces qs))) (Some (open_behind braces qs)) None) (sym pieces)
  where
    by : (a c v : Bool) (o : ℕ) → cond v (told a c o) None ≡ cond (a && (c && v)) (Some o) None
    by true true true o = refl
    by true true false o = refl
    by true false true o = refl
    by true false false o = refl
    by false c true o = refl
    by false c false o = refl
