-- Device: the first piece of a text and the pieces behind it.
use Rattle.std.proofs.Common.{◌≡◌, ℕ, zero, suc, ◌-◌, ◌≤◌, Bool, List, [], ◌∷◌, length, take, drop, get_or, refl, sym, ap, ◌∙◌, length-drop, arith}
use Rattle.std.proofs.Math.Seq.{take-length}
use Rattle.cil_base.specs.declared.faults.Refusal.{Refusal}
use Rattle.c_lexer.specs.declared.pieces.Raw.{Raw}
use Rattle.c_lexer.specs.Longest.{Piece, fresh_behind}
use Rattle.c_lexer.specs.Automaton.{piece, pieces}
use Rattle.c_lexer.specs.Tokens.{Reading, Goes, Stops, Refused, on_outcome, piece_read, read}

pub pieces_skip : (k : ℕ) (fresh : Bool) (bs : List ℕ) → pieces k fresh bs ≡ pieces 0 fresh (drop k bs)
pieces_skip zero fresh [] = refl
pieces_skip zero fresh (b ∷ bs) = refl
pieces_skip (suc k) fresh [] = refl
pieces_skip (suc k) fresh (b ∷ bs) = pieces_skip k fresh bs

abbrev pub piece_of : Raw → List ℕ → Piece
piece_of raw rest = record { kind = raw.kind; text = take raw.len rest }

-- a length that is not zero, and bytes behind the first one
behind_first : (n : ℕ) (fresh : Bool) (b : ℕ) (bs : List ℕ) → 1 ≤ n → pieces (n - 1) fresh bs ≡ pieces 0 fresh (drop n (b ∷ bs))
behind_first zero fresh b bs some = absurd (omega arith)
behind_first (suc n) fresh b bs some = ap (λ (k : ℕ). pieces k fresh bs) (omega arith) ∙ pieces_skip n fresh bs

pub first_piece : (fresh : Bool) (rest : List ℕ) (raw : Raw) → 1 ≤ length rest → raw ≡ piece fresh (get_or rest 0 0) (drop 1 rest) → 1 ≤ raw.len
    → pieces 0 fresh rest ≡ piece_of raw rest ∷ pieces 0 (fresh_behind fresh raw.kind) (drop raw.len rest)
first_piece fresh [] raw some is long = absurd (omega arith)
first_piece fresh (b ∷ bs) raw some is long =
    ap (λ (r : Raw). piece_of r (b ∷ bs) ∷ pieces (r.len - 1) (fresh_behind fresh r.kind) bs) (sym is)
    ∙ ap (λ (ps : List Piece). piece_of raw (b ∷ bs) ∷ ps) (behind_first raw.len (fresh_behind fresh raw.kind) b bs long)

pub goes : (fresh : Bool) (rest : List ℕ) (raw : Raw) (r after : Reading) → 1 ≤ length rest → raw ≡ piece fresh (get_or rest 0 0) (drop 1 rest) → 1 ≤ raw.len
    → piece_read raw.kind (take raw.len rest) r ≡ Goes after
    → read (pieces 0 fresh rest) r ≡ read (pieces 0 (fresh_behind fresh raw.kind) (drop raw.len rest)) after
goes fresh rest raw r after some is long goes_on =
    ap (λ (ps : List Piece). read ps r) (first_piece fresh rest raw some is long)
    ∙ ap (λ o. on_outcome o (λ s. read (pieces 0 (fresh_behind fresh raw.kind) (drop raw.len rest)) s)) goes_on

pub stops : (fresh : Bool) (rest : List ℕ) (raw : Raw) (r : Reading) (refusal : Refusal) (names : List (List ℕ)) → 1 ≤ length rest → raw ≡ piece fresh (get_or rest 0 0) (drop 1 rest) → 1 ≤ raw.len
    → piece_read raw.kind (take raw.len rest) r ≡ Stops refusal names
    → read (pieces 0 fresh rest) r ≡ Refused refusal names
stops fresh rest raw r refusal names some is long stopped =
    ap (λ (ps : List Piece). read ps r) (first_piece fresh rest raw some is long)
    ∙ ap (λ o. on_outcome o (λ s. read (pieces 0 (fresh_behind fresh raw.kind) (drop raw.len rest)) s)) stopped

pub rest_of : (xs : List ℕ) → take (length xs - 1) (drop 1 xs) ≡ drop 1 xs
rest_of xs = ap (λ (n : ℕ). take n (drop 1 xs)) (sym (length-drop 1 xs)) ∙ take-length (drop 1 xs)
