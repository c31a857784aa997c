-- Device: the piece that the automaton takes is the longest text that is a piece to it.
use Rattle.std.proofs.Common.{◌≡◌, ℕ, suc, ◌+◌, ◌≤◌, Bool, true, false, ◌||◌, ◌==◌, if◌then◌else◌, List, [], ◌∷◌, ◌++◌, length, take, Option, Some, None, refl, sym, ap, subst, ◌∙◌, arith}
use Rattle.std.proofs.lemmas.Bool.{cond_both}
use Rattle.cil_base.specs.declared.tokens.Punctuator.{Punctuator}
use Rattle.c_lexer.specs.declared.pieces.Raw.{Raw}
use Rattle.c_lexer.specs.declared.pieces.Kind.{Kind}
use Rattle.c_lexer.specs.declared.pieces.Kind.TheVariants.{Blank, LineEnd as LineEndPiece, Directive, Word as WordPiece, Number as NumberPiece, Sign as SignPiece, Broken}
use Rattle.c_lexer.specs.declared.pieces.Sign.TheVariants.{Read, Hash}
use Rattle.c_lexer.specs.declared.state.Mode.TheVariants.{Plain}
use Rattle.c_lexer.specs.declared.state.Quote.TheVariants.{Single, Double}
use Rattle.c_lexer.specs.declared.state.Prefix.TheVariants.{Letter, SmallU}
use Rattle.c_lexer.specs.declared.state.State.TheVariants.{Blanks, LineEnd, Line, Prefix, Word, Backslash, Number, Opened, Sign as InSign}
use Rattle.std.specs.Char.{is_ascii_digit}
use Rattle.c_lexer.specs.Bytes.{is_blank, is_nondigit}
use Rattle.c_lexer.specs.declared.state.State.{State}
use Rattle.c_lexer.specs.Automaton.{behind, accepts, longer, on_state, munch, sign_or_stray, one_byte_sign, begins_sign, begins, no_piece, piece}
use Rattle.c_lexer.specs.Accepted.{on_some, accepted, kind_at}

longer_high : (o : Option Kind) (len : ℕ) (last : Raw) → last.len ≤ len → (longer o (suc len) last).len ≤ suc len
longer_high None len last high = omega arith
longer_high (Some k) len last high = omega arith

longer_low : (o : Option Kind) (len : ℕ) (last : Raw) → last.len ≤ len → last.len ≤ (longer o (suc len) last).len
longer_low None len last high = omega arith
longer_low (Some k) len last high = omega arith

longer_takes : (o : Option Kind) (k : Kind) (len : ℕ) (last : Raw) → o ≡ Some k → suc len ≤ (longer o (suc len) last).len
longer_takes None k len last is = cc
longer_takes (Some j) k len last is = omega arith

-- the piece is not shorter than the one so far
munch_grows : (s : State) (last : Raw) (len : ℕ) (bs : List ℕ) → last.len ≤ len → last.len ≤ (munch s last len bs).len
munch_grows s last len [] high = omega arith
munch_grows s last len (b ∷ bs) high = by (λ t. munch_grows t (longer (accepts t) (suc len) last) (suc len) bs (longer_high (accepts t) len last high)) (behind s b)
  where
    by : ((t : State) → (longer (accepts t) (suc len) last).len ≤ (munch t (longer (accepts t) (suc len) last) (suc len) bs).len) → (o : Option State)
        → last.len ≤ (on_state o last (λ t. munch t (longer (accepts t) (suc len) last) (suc len) bs)).len
    by rest None = omega arith
    by rest (Some t) = let low : last.len ≤ (longer (accepts t) (suc len) last).len = longer_low (accepts t) len last high in let more = rest t in omega arith

-- nor than any beginning that is a piece
pub munch_longest : (s : State) (last : Raw) (len : ℕ) (bs os rest : List ℕ) (k : Kind) → last.len ≤ len → ((j : Kind) → accepts s ≡ Some j → len ≤ last.len) → bs ≡ os ++ rest → accepted s os ≡ Some k → len + length os ≤ (munch s last len bs).len
munch_longest s last len bs [] rest k high taken is whole = let low : len ≤ last.len = taken k whole in let more = munch_grows s last len bs high in omega arith
munch_longest s last len [] (o ∷ os) rest k high taken is whole = cc
munch_longest s last len (b ∷ bs) (o ∷ os) rest k high taken is whole =
    let same : b ≡ o = cc in
    let parts : bs ≡ os ++ rest = cc in
    by (λ t w. munch_longest t (longer (accepts t) (suc len) last) (suc len) bs os rest k (longer_high (accepts t) len last high) (λ j e. longer_takes (accepts t) j len last e) parts w) (behind s b)
    (subst (λ c. on_some (behind s c) (λ t. accepted t os) ≡ Some k) (sym same) whole)
  where
    by : ((t : State) → accepted t os ≡ Some k → suc len + length os ≤ (munch t (longer (accepts t) (suc len) last) (suc len) bs).len) → (p : Option State) → on_some p (λ t. accepted t os) ≡ Some k
        → len + suc (length os) ≤ (on_state p last (λ t. munch t (longer (accepts t) (suc len) last) (suc len) bs)).len
    by more None w = cc
    by more (Some t) w = let step = more t w in omega arith

-- it is the one so far, or a longer text that is a piece
pub data Taken (s : State) (last : Raw) (len : ℕ) (bs : List ℕ) (raw : Raw) : Type 0 where
  Last : raw.kind ≡ last.kind → raw.len ≡ last.len → Taken s last len bs raw
  More : (n : ℕ) → n ≤ length bs → raw.len ≡ len + n → accepted s (take n bs) ≡ Some raw.kind → Taken s last len bs raw

pub munch_taken : (s : State) (last : Raw) (len : ℕ) (bs : List ℕ) → Taken s last len bs (munch s last len bs)
munch_taken s last len [] = Last refl refl
munch_taken s last len (b ∷ bs) = by (λ t. munch_taken t (longer (accepts t) (suc len) last) (suc len) bs) (behind s b) refl
  where
    shifted : (t : State) (raw : Raw) → behind s b ≡ Some t → (o : Option Kind) → accepts t ≡ o → Taken t (longer o (suc len) last) (suc len) bs raw → Taken s last len (b ∷ bs) raw
    shifted t raw step None none (Last kind size) = Last kind size
    shifted t raw step (Some k) some (Last kind size) = More 1 (omega arith) (omega arith) (ap (λ p. on_some p (λ u. accepted u [])) step ∙ (some ∙ ap Some (sym kind)))
    shifted t raw step o is (More n fits size whole) = More (suc n) (omega arith) (omega arith) (ap (λ p. on_some p (λ u. accepted u (take n bs))) step ∙ whole)

    by : ((t : State) → Taken t (longer (accepts t) (suc len) last) (suc len) bs (munch t (longer (accepts t) (suc len) last) (suc len) bs)) → (p : Option State) → behind s b ≡ p
        → Taken s last len (b ∷ bs) (on_state p last (λ t. munch t (longer (accepts t) (suc len) last) (suc len) bs))
    by rest None none = Last refl refl
    by rest (Some t) some = shifted t _ some (accepts t) refl (rest t)

-- each byte begins a piece

pub record IsWhole (s : State) : Type 0 where
  pub kind : Kind
  pub is : accepts s ≡ Some kind

is_whole : (s : State) (k : Kind) → accepts s ≡ Some k → IsWhole s
is_whole s k is = record { kind = k; is = is }

sign_accepts : (o : Option Punctuator) → IsWhole (sign_or_stray o)
unfolding accepts
sign_accepts None = is_whole _ Broken refl
sign_accepts (Some p) = is_whole _ (SignPiece (Read p)) refl

hash_accepts : (fresh : Bool) → IsWhole (if fresh then Line else InSign Hash)
unfolding accepts
hash_accepts true = is_whole _ Directive refl
hash_accepts false = is_whole _ (SignPiece Hash) refl

pub begins_accepts : (fresh : Bool) (b : ℕ) → IsWhole (begins fresh b)
unfolding accepts begins begins_sign
begins_accepts fresh b =
    cond_both (is_blank b) _ _ IsWhole (λ _. is_whole Blanks Blank refl) (λ _.
    cond_both (b == 10) _ _ IsWhole (λ _. is_whole LineEnd LineEndPiece refl) (λ _.
    cond_both (b == 76 || b == 85) _ _ IsWhole (λ _. is_whole (Prefix Letter) WordPiece refl) (λ _.
    cond_both (b == 117) _ _ IsWhole (λ _. is_whole (Prefix SmallU) WordPiece refl) (λ _.
    cond_both (is_nondigit b) _ _ IsWhole (λ _. is_whole (Word Plain) WordPiece refl) (λ _.
    cond_both (is_ascii_digit b) _ _ IsWhole (λ _. is_whole (Number Plain false) NumberPiece refl) (λ _.
    cond_both (b == 39) _ _ IsWhole (λ _. is_whole (Opened Single) Broken refl) (λ _.
    cond_both (b == 34) _ _ IsWhole (λ _. is_whole (Opened Double) Broken refl) (λ _.
    cond_both (b == 92) _ _ IsWhole (λ _. is_whole Backslash Broken refl) (λ _.
    cond_both (b == 35) _ _ IsWhole (λ _. hash_accepts fresh) (λ _.
    sign_accepts (one_byte_sign b)))))))))))

-- the piece that is taken is one to the automaton, and no longer beginning is
pub record IsMunched (fresh : Bool) (b : ℕ) (bs : List ℕ) (raw : Raw) : Type 0 where
  pub fits : raw.len ≤ suc (length bs)
  pub whole : kind_at fresh (take raw.len (b ∷ bs)) ≡ Some raw.kind
  pub longest : (other rest : List ℕ) (k : Kind) → b ∷ bs ≡ other ++ rest → kind_at fresh other ≡ Some k → length other ≤ raw.len

first_raw : Bool → ℕ → Raw
first_raw fresh b = longer (accepts (begins fresh b)) 1 no_piece

first_len : (o : Option Kind) → (longer o 1 no_piece).len ≡ 1
first_len None = refl
first_len (Some k) = refl

first_kind : (o : Option Kind) (k : Kind) → o ≡ Some k → (longer o 1 no_piece).kind ≡ k
first_kind None k is = cc
first_kind (Some j) k is = cc

taken_whole : (fresh : Bool) (b : ℕ) (bs : List ℕ) (raw : Raw) → Taken (begins fresh b) (longer (accepts (begins fresh b)) 1 no_piece) 1 bs raw → (raw.len ≤ suc (length bs)) × (kind_at fresh (take raw.len (b ∷ bs)) ≡ Some raw.kind)
taken_whole fresh b bs raw (Last kind size) =
    let first : IsWhole (begins fresh b) = begins_accepts fresh b in
    let one : raw.len ≡ 1 = size ∙ first_len (accepts (begins fresh b)) in
    let same : raw.kind ≡ first.kind = kind ∙ first_kind (accepts (begins fresh b)) first.kind first.is in
    (omega arith, ap (λ (n : ℕ). kind_at fresh (take n (b ∷ bs))) one ∙ (first.is ∙ ap Some (sym same)))
taken_whole fresh b bs raw (More n fits size whole) =
    let more : raw.len ≡ suc n = omega arith in
    (omega arith, ap (λ (n : ℕ). kind_at fresh (take n (b ∷ bs))) more ∙ whole)

piece_longest : (fresh : Bool) (b : ℕ) (bs other rest : List ℕ) (k : Kind) → b ∷ bs ≡ other ++ rest → kind_at fresh other ≡ Some k → length other ≤ (munch (begins fresh b) (longer (accepts (begins fresh b)) 1 no_piece) 1 bs).len
piece_longest fresh b bs [] rest k is whole = cc
piece_longest fresh b bs (o ∷ os) rest k is whole =
    let same : b ≡ o = cc in
    let parts : bs ≡ os ++ rest = cc in
    let size = first_len (accepts (begins fresh b)) in
    let far = munch_longest (begins fresh b) (longer (accepts (begins fresh b)) 1 no_piece) 1 bs os rest k (omega arith) (λ j e. omega arith) parts (subst (λ c. accepted (begins fresh c) os ≡ Some k) (sym same) whole) in
    omega arith

pub munched : (fresh : Bool) (b : ℕ) (bs : List ℕ) → IsMunched fresh b bs (piece fresh b bs)
unfolding piece
munched fresh b bs =
    let taken = taken_whole fresh b bs _ (munch_taken (begins fresh b) (longer (accepts (begins fresh b)) 1 no_piece) 1 bs) in
    record {
      fits = taken.0;
      whole = taken.1;
      longest = λ other rest k is whole. piece_longest fresh b bs other rest k is whole;
    }

-- where the bytes did not end while the piece was read, more bytes change nothing

munch_stays : (s : State) (last : Raw) (len : ℕ) (bs more : List ℕ) → (munch s last len bs).at_end ≡ false → munch s last len (bs ++ more) ≡ munch s last len bs
munch_stays s last len [] more settled = cc
munch_stays s last len (b ∷ bs) more settled = by (λ t. munch_stays t (longer (accepts t) (suc len) last) (suc len) bs more) (behind s b) settled
  where
    by : ((t : State) → (munch t (longer (accepts t) (suc len) last) (suc len) bs).at_end ≡ false → munch t (longer (accepts t) (suc len) last) (suc len) (bs ++ more) ≡ munch t (longer (accepts t) (suc len) last) (suc len) bs) → (o : Option State)
        → (on_state o last (λ t. munch t (longer (accepts t) (suc len) last) (suc len) bs)).at_end ≡ false
        → on_state o last (λ t. munch t (longer (accepts t) (suc len) last) (suc len) (bs ++ more)) ≡ on_state o last (λ t. munch t (longer (accepts t) (suc len) last) (suc len) bs)
    by rest None e = refl
    by rest (Some t) e = rest t e

pub piece_stays : (fresh : Bool) (b : ℕ) (bs more : List ℕ) (raw : Raw) → raw ≡ piece fresh b bs → raw.at_end ≡ false → piece fresh b (bs ++ more) ≡ raw
unfolding piece
piece_stays fresh b bs more raw is settled = munch_stays (begins fresh b) (longer (accepts (begins fresh b)) 1 no_piece) 1 bs more (subst (λ (r : Raw). r.at_end ≡ false) is settled) ∙ sym is
