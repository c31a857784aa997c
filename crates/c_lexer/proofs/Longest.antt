-- Device: the pieces that the automaton cuts are the longest ones, and a text is cut in no other way.
use Rattle.std.proofs.Common.{◌≡◌, ℕ, zero, suc, ◌≤◌, Bool, List, [], ◌∷◌, ◌++◌, length, take, drop, Some, refl, sym, ap, subst, ◌∙◌, true, take-append-drop, length-drop, arith}
use Rattle.std.proofs.lemmas.List.{length-take-le}
use Rattle.std.proofs.Math.Seq.{take-append_seam, drop-append_seam}
use Rattle.c_lexer.specs.declared.pieces.Kind.{Kind}
use Rattle.c_lexer.specs.declared.pieces.Raw.{Raw}
use Rattle.c_lexer.specs.Languages.{is_piece}
use Rattle.c_lexer.specs.Longest.{IsLongest, Piece, Cut, End, Next, fresh_behind}
use Rattle.c_lexer.specs.Automaton.{piece, pieces}
use Rattle.c_lexer.specs.Accepted.{kind_at}
use Rattle.c_lexer.proofs.Cutting.{piece_of, first_piece}
use Rattle.c_lexer.proofs.Munch.{IsMunched, munched}
use Rattle.c_lexer.proofs.Sound.{sound}
use Rattle.c_lexer.proofs.Complete.{complete}

text_sound : (fresh : Bool) (text : List ℕ) (k : Kind) → kind_at fresh text ≡ Some k → is_piece fresh k text ≡ true
text_sound fresh [] k is = cc
text_sound fresh (b ∷ bs) k is = sound fresh b bs k is

-- the piece that the automaton takes is the longest
pub piece_longest : (fresh : Bool) (b : ℕ) (bs : List ℕ) (raw : Raw) → raw ≡ piece fresh b bs → IsLongest fresh (b ∷ bs) raw.kind (take raw.len (b ∷ bs)) (drop raw.len (b ∷ bs))
piece_longest fresh b bs raw is =
    let m : IsMunched fresh b bs raw = subst (λ r. IsMunched fresh b bs r) (sym is) (munched fresh b bs) in
    let size : length (take raw.len (b ∷ bs)) ≡ raw.len = length-take-le raw.len (b ∷ bs) m.fits in
    record {
      parts = sym (take-append-drop raw.len (b ∷ bs));
      piece = text_sound fresh _ raw.kind m.whole;
      longest = λ other rest another same whole. (let far : length other ≤ raw.len = m.longest other rest another same (complete fresh another other whole) in omega arith);
    }

-- it has at least one byte
some_byte : (fresh : Bool) (n : ℕ) (b : ℕ) (bs : List ℕ) (k : Kind) → kind_at fresh (take n (b ∷ bs)) ≡ Some k → 1 ≤ n
some_byte fresh zero b bs k is = cc
some_byte fresh (suc n) b bs k is = omega arith

pub piece_some : (fresh : Bool) (b : ℕ) (bs : List ℕ) → 1 ≤ (piece fresh b bs).len
piece_some fresh b bs = some_byte fresh _ b bs _ (munched fresh b bs).whole

cut_upto : (n : ℕ) (fresh : Bool) (bytes : List ℕ) → length bytes ≤ n → Cut fresh bytes (pieces 0 fresh bytes)
cut_upto n fresh [] few = End fresh
cut_upto zero fresh (b ∷ bs) few = absurd (omega arith)
cut_upto (suc n) fresh (b ∷ bs) few =
    let raw : Raw = piece fresh b bs in
    let some : 1 ≤ raw.len = piece_some fresh b bs in
    let left : length (drop raw.len (b ∷ bs)) ≤ n = omega (arith, length-drop raw.len (b ∷ bs)) in
    subst (λ ps. Cut fresh (b ∷ bs) ps) (sym (first_piece fresh (b ∷ bs) raw (omega arith) refl some))
    (Next fresh (b ∷ bs) (take raw.len (b ∷ bs)) (drop raw.len (b ∷ bs)) raw.kind (pieces 0 (fresh_behind fresh raw.kind) (drop raw.len (b ∷ bs))) (piece_longest fresh b bs raw refl) (cut_upto n (fresh_behind fresh raw.kind) (drop raw.len (b ∷ bs)) left))

-- the pieces cut the text
pub cut : (fresh : Bool) (bytes : List ℕ) → Cut fresh bytes (pieces 0 fresh bytes)
cut fresh bytes = cut_upto (length bytes) fresh bytes (omega arith)

-- two longest pieces at one place are one
record IsSame (kind another : Kind) (text other rest behind : List ℕ) : Type 0 where
  kinds : kind ≡ another
  texts : text ≡ other
  rests : rest ≡ behind

same_front : (text other rest behind : List ℕ) → text ++ rest ≡ other ++ behind → length text ≡ length other → text ≡ other
same_front text other rest behind same size = sym (take-append_seam text rest) ∙ (ap (λ xs. take (length text) xs) same ∙ (ap (λ n. take n (other ++ behind)) size ∙ take-append_seam other behind))

same_back : (text other rest behind : List ℕ) → text ++ rest ≡ other ++ behind → length text ≡ length other → rest ≡ behind
same_back text other rest behind same size = sym (drop-append_seam text rest) ∙ (ap (λ xs. drop (length text) xs) same ∙ (ap (λ n. drop n (other ++ behind)) size ∙ drop-append_seam other behind))

one_longest : (fresh : Bool) (bytes : List ℕ) (kind another : Kind) (text other rest behind : List ℕ) → IsLongest fresh bytes kind text rest → IsLongest fresh bytes another other behind → IsSame kind another text other rest behind
one_longest fresh bytes kind another text other rest behind x y =
    let below : length text ≤ length other = y.longest text rest kind x.parts x.piece in
    let above : length other ≤ length text = x.longest other behind another y.parts y.piece in
    let size : length text ≡ length other = omega arith in
    let same : text ++ rest ≡ other ++ behind = sym x.parts ∙ y.parts in
    let texts : text ≡ other = same_front text other rest behind same size in
    let first : kind_at fresh text ≡ Some kind = complete fresh kind text x.piece in
    let second : kind_at fresh other ≡ Some another = complete fresh another other y.piece in
    let both : Some kind ≡ Some another = sym first ∙ (ap (λ t. kind_at fresh t) texts ∙ second) in
    record {
      kinds = cc;
      texts = texts;
      rests = same_back text other rest behind same size;
    }

not_empty : (fresh : Bool) (kind : Kind) (text rest : List ℕ) → IsLongest fresh [] kind text rest → ⊥
not_empty fresh kind [] rest is = let none : kind_at fresh [] ≡ Some kind = complete fresh kind [] is.piece in cc
not_empty fresh kind (b ∷ bs) rest is = let wrong : [] ≡ b ∷ (bs ++ rest) = is.parts in cc

-- and so is the way in which a text is cut
pub only_cut : (fresh : Bool) (bytes : List ℕ) (ps : List Piece) → Cut fresh bytes ps → ps ≡ pieces 0 fresh bytes
only_cut fresh _ _ (End _) = refl
only_cut fresh _ _ (Next _ bytes text rest kind more longest behind) = by bytes longest (only_cut (fresh_behind fresh kind) rest more behind)
  where
    by : (all : List ℕ) → IsLongest fresh all kind text rest → more ≡ pieces 0 (fresh_behind fresh kind) rest → record { kind = kind; text = text } ∷ more ≡ pieces 0 fresh all
    by [] is rests = absurd (not_empty fresh kind text rest is)
    by (b ∷ bs) is rests =
        let raw : Raw = piece fresh b bs in
        let same : IsSame kind raw.kind text (take raw.len (b ∷ bs)) rest (drop raw.len (b ∷ bs)) = one_longest fresh (b ∷ bs) kind raw.kind text (take raw.len (b ∷ bs)) rest (drop raw.len (b ∷ bs)) is (piece_longest fresh b bs raw refl) in
        let whole : pieces 0 fresh (b ∷ bs) ≡ piece_of raw (b ∷ bs) ∷ pieces 0 (fresh_behind fresh raw.kind) (drop raw.len (b ∷ bs)) = first_piece fresh (b ∷ bs) raw (omega arith) refl (piece_some fresh b bs) in
        cc (whole, rests, same.kinds, same.texts, same.rests)
