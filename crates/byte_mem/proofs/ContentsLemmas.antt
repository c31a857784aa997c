-- Device: laws of the cells and pointers that stand for bytes.
use Rattle.std.proofs.Common.{◌≡◌, ℕ, zero, suc, ◌+◌, ◌-◌, ◌<◌, ◌≤◌, Bool, true, false, cond, List, [], ◌∷◌, ◌++◌, length, get_or, set, replicate, Option, Some, None, ◌^◌, take, refl, sym, ap, ◌∙◌, arith, add-one}
use Rattle.std.proofs.lemmas.List.{get_or_default, length-replicate, length-append, length-set, length-take, take_all, append-nil}
use Rattle.std.proofs.lemmas.Bool.{false≢true}
use Rattle.std.specs.Prelude.{slice_get}
use Rattle.byte_mem.specs.declared.pointers.Pointer.{Pointer}
use Rattle.byte_mem.specs.declared.values.Byte.{Byte}
use Rattle.byte_mem.specs.declared.values.Byte.TheVariants.{Known, Unknown, Part}
use Rattle.byte_mem.specs.declared.contents.Cell.{Cell}
use Rattle.byte_mem.specs.declared.contents.Cell.TheVariants.{Plain, Blank, Piece}
use Rattle.byte_mem.specs.Contents.{byte_of, seen, has_pointer, is_covered, IsKept, cell_of, is_plain, grown, known_in}

pub length_seen : (cells : List Cell) (ps : List Pointer) → length (seen cells ps) ≡ length cells
length_seen [] ps = refl
length_seen (c ∷ cells) [] = ap suc (length_seen cells [])
length_seen (c ∷ cells) (p ∷ ps) = ap suc (length_seen cells ps)

get_seen : (cells : List Cell) (ps : List Pointer) (i : ℕ) → get_or (seen cells ps) i Unknown ≡ byte_of (get_or cells i Blank) (slice_get ps i)
get_seen [] ps i = refl
get_seen (c ∷ cells) [] zero = refl
get_seen (c ∷ cells) [] (suc i) = get_seen cells [] i
get_seen (c ∷ cells) (p ∷ ps) zero = refl
get_seen (c ∷ cells) (p ∷ ps) (suc i) = get_seen cells ps i

known_seen : (cells : List Cell) (ps : List Pointer) (i : ℕ) → known_in (get_or (seen cells ps) i Unknown) ≡ known_in (byte_of (get_or cells i Blank) None)
known_seen [] ps i = refl
known_seen (c ∷ cells) [] zero = refl
known_seen (c ∷ cells) [] (suc i) = known_seen cells [] i
known_seen (Plain b ∷ cells) (p ∷ ps) zero = refl
known_seen (Blank ∷ cells) (p ∷ ps) zero = refl
known_seen (Piece k ∷ cells) (p ∷ ps) zero = refl
known_seen (c ∷ cells) (p ∷ ps) (suc i) = known_seen cells ps i

if_covered : (t : Bool) (u v : Bool) → cond t u false ≡ true → (u ≡ true → v ≡ true) → cond t v false ≡ true
if_covered true u v h f = f h
if_covered false u v h f = h

plain_byte : (b : Byte) (p : Option Pointer) → is_plain b ≡ true → byte_of (cell_of b) p ≡ b
plain_byte (Known b) p h = refl
plain_byte Unknown p h = refl
plain_byte (Part q k) p h = absurd (false≢true h)

plain_has : (b : Byte) → is_plain b ≡ true → has_pointer (cell_of b) None ≡ true
plain_has (Known b) h = refl
plain_has Unknown h = refl
plain_has (Part q k) h = absurd (false≢true h)

seen_equal : (n : ℕ) (b : Byte) (ps : List Pointer) → is_plain b ≡ true → seen (replicate n (cell_of b)) ps ≡ replicate n b
seen_equal zero b ps h = refl
seen_equal (suc n) b [] h = ap (λ c. c ∷ seen (replicate n (cell_of b)) []) (plain_byte b None h) ∙ ap (λ bs. b ∷ bs) (seen_equal n b [] h)
seen_equal (suc n) b (p ∷ ps) h = ap (λ c. c ∷ seen (replicate n (cell_of b)) ps) (plain_byte b (Some p) h) ∙ ap (λ bs. b ∷ bs) (seen_equal n b ps h)

-- equal bytes at the end
pub seen_extended : (cells : List Cell) (ps : List Pointer) (n : ℕ) (b : Byte) → is_plain b ≡ true → seen (cells ++ replicate n (cell_of b)) ps ≡ seen cells ps ++ replicate n b
seen_extended [] ps n b h = seen_equal n b ps h
seen_extended (c ∷ cells) [] n b h = ap (λ bs. byte_of c None ∷ bs) (seen_extended cells [] n b h)
seen_extended (c ∷ cells) (p ∷ ps) n b h = ap (λ bs. byte_of c (Some p) ∷ bs) (seen_extended cells ps n b h)

covered_equal : (n : ℕ) (b : Byte) (ps : List Pointer) → is_plain b ≡ true → is_covered (replicate n (cell_of b)) ps ≡ true
covered_equal zero b ps h = refl
covered_equal (suc n) b [] h = rw (plain_has b h) (covered_equal n b [] h)
covered_equal (suc n) b (p ∷ ps) h = covered_equal n b ps h

covered_extended : (cells : List Cell) (ps : List Pointer) (n : ℕ) (b : Byte) → is_plain b ≡ true → is_covered cells ps ≡ true → is_covered (cells ++ replicate n (cell_of b)) ps ≡ true
covered_extended [] ps n b h g = covered_equal n b ps h
covered_extended (c ∷ cells) [] n b h g = if_covered (has_pointer c None) (is_covered cells []) (is_covered (cells ++ replicate n (cell_of b)) []) g (covered_extended cells [] n b h)
covered_extended (c ∷ cells) (p ∷ ps) n b h g = covered_extended cells ps n b h g

pub kept_extended : (cells : List Cell) (ps : List Pointer) (n room : ℕ) (b : Byte) → is_plain b ≡ true → is_covered cells ps ≡ true → length cells + n ≤ room → length cells + n < 2 ^ 32 → IsKept (cells ++ replicate n (cell_of b)) ps room
kept_extended cells ps n room b h g r s =
    let len : length (cells ++ replicate n (cell_of b)) ≡ length cells + n = length-append cells (replicate n (cell_of b)) ∙ ap (λ k. length cells + k) (length-replicate n (cell_of b)) in
    (covered_extended cells ps n b h g, rw len r, rw len s)

extended_is : (old new : List Cell) (n m : ℕ) (c : Cell) (b : Byte) → c ≡ cell_of b → m ≡ length old → new ≡ take (m + n) old ++ replicate (m + n - m) c → new ≡ old ++ replicate n (cell_of b)
extended_is old new n m c b d e f =
    let more : m + n - m ≡ n = omega arith in
    f ∙ ap (λ xs. xs ++ replicate (m + n - m) c) (take_all (m + n) old (omega arith)) ∙ ap (λ k. old ++ replicate k c) more ∙ ap (λ x. old ++ replicate n x) d

-- the same, step by step
pub extended_kept : (old new : List Cell) (ps : List Pointer) (n m room : ℕ) (c : Cell) (b : Byte) → is_plain b ≡ true → c ≡ cell_of b → m ≡ length old → new ≡ take (m + n) old ++ replicate (m + n - m) c → is_covered old ps ≡ true → m + n ≤ room → m + n < 2 ^ 32 → IsKept new ps room
extended_kept old new ps n m room c b h d e f k r s = rw (extended_is old new n m c b d e f) (kept_extended old ps n room b h k (omega arith) (omega arith))

pub extended_seen : (old new : List Cell) (ps : List Pointer) (n m : ℕ) (c : Cell) (b : Byte) → is_plain b ≡ true → c ≡ cell_of b → m ≡ length old → new ≡ take (m + n) old ++ replicate (m + n - m) c → seen new ps ≡ seen old ps ++ replicate n b
extended_seen old new ps n m c b h d e f = rw (extended_is old new n m c b d e f) (seen_extended old ps n b h)

-- bytes that are taken away
pub seen_taken : (n : ℕ) (cells : List Cell) (ps : List Pointer) → seen (take n cells) ps ≡ take n (seen cells ps)
seen_taken zero cells ps = refl
seen_taken (suc n) [] ps = refl
seen_taken (suc n) (c ∷ cells) [] = ap (λ bs. byte_of c None ∷ bs) (seen_taken n cells [])
seen_taken (suc n) (c ∷ cells) (p ∷ ps) = ap (λ bs. byte_of c (Some p) ∷ bs) (seen_taken n cells ps)

covered_taken : (n : ℕ) (cells : List Cell) (ps : List Pointer) → is_covered cells ps ≡ true → is_covered (take n cells) ps ≡ true
covered_taken zero cells ps h = refl
covered_taken (suc n) [] ps h = refl
covered_taken (suc n) (c ∷ cells) [] h = if_covered (has_pointer c None) (is_covered cells []) (is_covered (take n cells) []) h (covered_taken n cells [])
covered_taken (suc n) (c ∷ cells) (p ∷ ps) h = covered_taken n cells ps h

pub kept_taken : (n : ℕ) (cells : List Cell) (ps : List Pointer) (room : ℕ) → IsKept cells ps room → IsKept (take n cells) ps room
kept_taken n cells ps room h =
    (covered_taken n cells ps h.0, omega (arith, length-take n cells, h.1), omega (arith, length-take n cells, h.2))

-- what a read of a cell tells
pub byte_seen : (cells : List Cell) (ps : List Pointer) (i : ℕ) (c : Cell) → i < length cells → c ≡ get_or cells i c → get_or (seen cells ps) i Unknown ≡ byte_of c (slice_get ps i)
byte_seen cells ps i c h e = get_seen cells ps i ∙ ap (λ (x : Cell). byte_of x (slice_get ps i)) (get_or_default cells i Blank c h ∙ sym e)

pub number_seen : (cells : List Cell) (ps : List Pointer) (i : ℕ) (c : Cell) → i < length cells → c ≡ get_or cells i c → known_in (get_or (seen cells ps) i Unknown) ≡ known_in (byte_of c None)
number_seen cells ps i c h e = known_seen cells ps i ∙ ap (λ (x : Cell). known_in (byte_of x None)) (get_or_default cells i Blank c h ∙ sym e)

-- a plain cell in the place of another
pub seen_set_plain : (cells : List Cell) (ps : List Pointer) (i b : ℕ) → seen (set cells i (Plain b)) ps ≡ set (seen cells ps) i (Known b)
seen_set_plain [] ps i b = refl
seen_set_plain (c ∷ cells) [] zero b = refl
seen_set_plain (c ∷ cells) (p ∷ ps) zero b = refl
seen_set_plain (c ∷ cells) [] (suc i) b = ap (λ bs. byte_of c None ∷ bs) (seen_set_plain cells [] i b)
seen_set_plain (c ∷ cells) (p ∷ ps) (suc i) b = ap (λ bs. byte_of c (Some p) ∷ bs) (seen_set_plain cells ps i b)

pub seen_set_blank : (cells : List Cell) (ps : List Pointer) (i : ℕ) → seen (set cells i Blank) ps ≡ set (seen cells ps) i Unknown
seen_set_blank [] ps i = refl
seen_set_blank (c ∷ cells) [] zero = refl
seen_set_blank (c ∷ cells) (p ∷ ps) zero = refl
seen_set_blank (c ∷ cells) [] (suc i) = ap (λ bs. byte_of c None ∷ bs) (seen_set_blank cells [] i)
seen_set_blank (c ∷ cells) (p ∷ ps) (suc i) = ap (λ bs. byte_of c (Some p) ∷ bs) (seen_set_blank cells ps i)

covered_rest : (t u : Bool) → cond t u false ≡ true → u ≡ true
covered_rest true u h = h
covered_rest false u h = absurd (false≢true h)

covered_set : (x : Cell) → has_pointer x None ≡ true → (cells : List Cell) (ps : List Pointer) (i : ℕ) → is_covered cells ps ≡ true → is_covered (set cells i x) ps ≡ true
covered_set x e [] ps i h = h
covered_set x e (c ∷ cells) [] zero h = rw e (covered_rest (has_pointer c None) (is_covered cells []) h)
covered_set x e (c ∷ cells) (p ∷ ps) zero h = h
covered_set x e (c ∷ cells) [] (suc i) h = if_covered (has_pointer c None) (is_covered cells []) (is_covered (set cells i x) []) h (covered_set x e cells [] i)
covered_set x e (c ∷ cells) (p ∷ ps) (suc i) h = covered_set x e cells ps i h

kept_set : (x : Cell) → has_pointer x None ≡ true → (cells : List Cell) (ps : List Pointer) (i room : ℕ) → IsKept cells ps room → IsKept (set cells i x) ps room
kept_set x e cells ps i room h =
    let len : length (set cells i x) ≡ length cells = length-set cells i x in
    (covered_set x e cells ps i h.0, rw len h.1, rw len h.2)

pub kept_set_plain : (cells : List Cell) (ps : List Pointer) (i b room : ℕ) → IsKept cells ps room → IsKept (set cells i (Plain b)) ps room
kept_set_plain cells ps i b room h = kept_set (Plain b) refl cells ps i room h

pub kept_set_blank : (cells : List Cell) (ps : List Pointer) (i room : ℕ) → IsKept cells ps room → IsKept (set cells i Blank) ps room
kept_set_blank cells ps i room h = kept_set Blank refl cells ps i room h

-- a cell that has its pointer has the same byte beside any other
same_byte : (c : Cell) (p : Pointer) → has_pointer c None ≡ true → byte_of c None ≡ byte_of c (Some p)
same_byte (Plain b) p h = refl
same_byte Blank p h = refl
same_byte (Piece k) p h = absurd (false≢true h)

covered_first : (t u : Bool) → cond t u false ≡ true → t ≡ true
covered_first true u h = refl
covered_first false u h = absurd (false≢true h)

-- pointers behind the others change no byte
seen_grown : (cells : List Cell) (ps : List Pointer) (n : ℕ) (p : Pointer) → is_covered cells ps ≡ true → seen cells (ps ++ replicate n p) ≡ seen cells ps
seen_grown [] ps n p h = refl
seen_grown (c ∷ cells) [] zero p h = refl
seen_grown (c ∷ cells) [] (suc n) p h =
    ap (λ b. b ∷ seen cells (replicate n p)) (sym (same_byte c p (covered_first (has_pointer c None) (is_covered cells []) h)))
    ∙ ap (λ bs. byte_of c None ∷ bs) (seen_grown cells [] n p (covered_rest (has_pointer c None) (is_covered cells []) h))
seen_grown (c ∷ cells) (q ∷ ps) n p h = ap (λ bs. byte_of c (Some q) ∷ bs) (seen_grown cells ps n p h)

covered_grown : (cells : List Cell) (ps : List Pointer) (n : ℕ) (p : Pointer) → is_covered cells ps ≡ true → is_covered cells (ps ++ replicate n p) ≡ true
covered_grown [] ps n p h = refl
covered_grown (c ∷ cells) [] zero p h = h
covered_grown (c ∷ cells) [] (suc n) p h = covered_grown cells [] n p (covered_rest (has_pointer c None) (is_covered cells []) h)
covered_grown (c ∷ cells) (q ∷ ps) n p h = covered_grown cells ps n p h

-- a part in the place of another byte
seen_set_piece : (cells : List Cell) (ps : List Pointer) (i k : ℕ) (p : Pointer) → i < length ps → seen (set cells i (Piece k)) (set ps i p) ≡ set (seen cells ps) i (Part p k)
seen_set_piece [] ps i k p h = refl
seen_set_piece (c ∷ cells) [] i k p h = absurd (omega arith)
seen_set_piece (c ∷ cells) (q ∷ ps) zero k p h = refl
seen_set_piece (c ∷ cells) (q ∷ ps) (suc i) k p h = ap (λ bs. byte_of c (Some q) ∷ bs) (seen_set_piece cells ps i k p (omega arith))

covered_set_piece : (cells : List Cell) (ps : List Pointer) (i k : ℕ) (p : Pointer) → i < length ps → is_covered cells ps ≡ true → is_covered (set cells i (Piece k)) (set ps i p) ≡ true
covered_set_piece [] ps i k p h g = refl
covered_set_piece (c ∷ cells) [] i k p h g = absurd (omega arith)
covered_set_piece (c ∷ cells) (q ∷ ps) zero k p h g = g
covered_set_piece (c ∷ cells) (q ∷ ps) (suc i) k p h g = covered_set_piece cells ps i k p (omega arith) g

grown_long : (ps : List Pointer) (i : ℕ) (p : Pointer) → i < length (grown ps i p)
grown_long ps i p = omega (arith, length-append ps (replicate (suc i - length ps) p), length-replicate (suc i - length ps) p)

pub seen_put_part : (cells : List Cell) (ps : List Pointer) (i k : ℕ) (p : Pointer) → is_covered cells ps ≡ true → seen (set cells i (Piece k)) (set (grown ps i p) i p) ≡ set (seen cells ps) i (Part p k)
seen_put_part cells ps i k p h =
    seen_set_piece cells (grown ps i p) i k p (grown_long ps i p) ∙ ap (λ bs. set bs i (Part p k)) (seen_grown cells ps (suc i - length ps) p h)

pub kept_put_part : (cells : List Cell) (ps : List Pointer) (i k room more : ℕ) (p : Pointer) → IsKept cells ps room → room ≤ more → IsKept (set cells i (Piece k)) (set (grown ps i p) i p) more
kept_put_part cells ps i k room more p h g =
    let len : length (set cells i (Piece k)) ≡ length cells = length-set cells i (Piece k) in
    (covered_set_piece cells (grown ps i p) i k p (grown_long ps i p) (covered_grown cells ps (suc i - length ps) p h.0), omega arith, rw len h.2)

pub grown_is : (ps : List Pointer) (i : ℕ) (p : Pointer) → length ps ≤ i → take (i + 1) ps ++ replicate (i + 1 - length ps) p ≡ grown ps i p
grown_is ps i p h = rw (take_all (i + 1) ps (omega arith), add-one) refl

pub grown_same : (ps : List Pointer) (i : ℕ) (p : Pointer) → i < length ps → ps ≡ grown ps i p
grown_same ps i p h = let none : suc i - length ps ≡ 0 = omega arith in rw (none, append-nil) refl

pub grown_reaches : (ps : List Pointer) (i : ℕ) (p : Pointer) → i < length (grown ps i p)
grown_reaches ps i p = grown_long ps i p
