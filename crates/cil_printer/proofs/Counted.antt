-- Device: the lengths of types' declarations and of the whole text.
use Rattle.std.proofs.Common.{◌≡◌, ℕ, zero, suc, ◌-◌, ◌^◌, ◌<◌, ◌≤◌, true, false, List, [], ◌∷◌, ◌++◌, Some, length, take, slice_get, sym, ap, ◌∙◌, subst, arith}
use Rattle.std.proofs.lemmas.List.{take_all}
use Rattle.cil_base.specs.Limits.{text_bytes}
use Rattle.type_graph.specs.Arena.{Graph}
use Rattle.type_graph.specs.Shapes.{shape}
use Rattle.layout_lp64.specs.Tables.{IsLeastTooBig}
use Rattle.cil_tree.specs.Tree.{Program}
use Rattle.cil_tree.specs.Lines.{Token}
use Rattle.cil_tree.specs.Text.{Text, program_lines}
use Rattle.cil_tree.specs.WellFormedTypes.{TypesAreSmall}
use Rattle.cil_tree.specs.Programs.{IsProgram, IsTextOf}
use Rattle.cil_printer.specs.declared.sides.Sides.{Sides}
use Rattle.cil_printer.specs.Spaced.{spaced}
use Rattle.cil_printer.specs.Output.{Output, Counted, Written, put, puts, counts, capped, text_of}
use Rattle.cil_printer.specs.Sides.{before, after, AreSides, IsSides}
use Rattle.cil_printer.specs.Plain.{prints}
use Rattle.cil_printer.proofs.Puts.{put_counted, put_written}

number_of : Output → ℕ
number_of (Counted n) = n
number_of (Written room text) = 0

bytes_counted : (o : Output) (bytes : List ℕ) → o ≡ put (Counted 0) bytes → o ≡ Counted (capped (length bytes))
bytes_counted o bytes e = e ∙ put_counted 0 bytes (omega arith) ∙ ap (λ k. Counted (capped k)) (omega arith)

pub tokens_counted : (o : Output) (ts : List Token) → o ≡ puts (Counted 0) ts → counts o ≡ true
unfolding puts
tokens_counted o ts e = ap counts (bytes_counted o (spaced ts) e)

pub tokens_length : (o : Output) (n : ℕ) (ts : List Token) → o ≡ puts (Counted 0) ts → o ≡ Counted n → n ≡ capped (length (spaced ts))
unfolding puts number_of
tokens_length o n ts e h = ap number_of (sym h ∙ bytes_counted o (spaced ts) e)

text_put : (o a : Output) (p : Program) → a ≡ Counted 0 → o ≡ prints a 0 (program_lines p) → o ≡ Counted (capped (length (Text p)))
unfolding prints
text_put o a p k e = bytes_counted o (Text p) (e ∙ ap (λ y. put y (Text p)) k)

pub text_counted : (o a : Output) (p : Program) → a ≡ Counted 0 → o ≡ prints a 0 (program_lines p) → counts o ≡ true
text_counted o a p k e = ap counts (text_put o a p k e)

pub text_length : (o a : Output) (n : ℕ) (p : Program) → a ≡ Counted 0 → o ≡ prints a 0 (program_lines p) → o ≡ Counted n → n ≡ capped (length (Text p))
unfolding number_of
text_length o a n p k e h = ap number_of (sym h ∙ text_put o a p k e)

bytes_written : (o : Output) (n : ℕ) (bytes : List ℕ) → n < 2 ^ 64 → length bytes ≤ n → o ≡ put (Written n []) bytes → o ≡ Written n bytes
bytes_written o n bytes h fits e = e ∙ put_written n [] bytes h ∙ ap (λ k. Written n (take k bytes)) same ∙ ap (Written n) (take_all n bytes fits)
  where
    same : n - 0 ≡ n
    same = omega arith

text_held : (o a : Output) (n : ℕ) (p : Program) → n ≡ capped (length (Text p)) → n ≤ text_bytes → a ≡ Written n [] → o ≡ prints a 0 (program_lines p) → o ≡ Written n (Text p)
unfolding prints
text_held o a n p e h k f = bytes_written o n (Text p) (omega (arith, h)) (omega (arith, e, h)) (f ∙ ap (λ y. put y (Text p)) k)

pub text_kept : (o a : Output) (n : ℕ) (p : Program) → n ≡ capped (length (Text p)) → n ≤ text_bytes → a ≡ Written n [] → o ≡ prints a 0 (program_lines p) → counts o ≡ false
text_kept o a n p e h k f = ap counts (text_held o a n p e h k f)

pub text_written : (o a : Output) (n : ℕ) (p : Program) → n ≡ capped (length (Text p)) → n ≤ text_bytes → a ≡ Written n [] → o ≡ prints a 0 (program_lines p) → text_of o ≡ Text p
text_written o a n p e h k f = ap text_of (text_held o a n p e h k f)

pub is_text : (n : ℕ) (bytes : List ℕ) (p : Program) → IsProgram p → n ≡ capped (length (Text p)) → n ≤ text_bytes → bytes ≡ Text p → IsTextOf bytes p
is_text n bytes p is e h same = record { program = is; text = same; short = short (ap length same) }
  where
    short : length bytes ≡ length (Text p) → length bytes ≤ text_bytes
    short k = omega (arith, e, h, k)

pub is_long : (n : ℕ) (p : Program) → n ≡ capped (length (Text p)) → text_bytes < n → text_bytes < length (Text p)
is_long n p e h = omega (arith, e, h)

pub none_too_big : (g : Graph) (t : ℕ) → TypesAreSmall g → IsLeastTooBig g t → ⊥
none_too_big g t small big = omega (arith, small t big.large big.is, big.size)

-- one entry more
each_more : (P : ℕ → Sides → Type 0) (sides : List Sides) (x : Sides) → ((u : ℕ) (y : Sides) → slice_get sides u ≡ Some y → P u y) → P (length sides) x → (u : ℕ) (y : Sides) → slice_get (sides ++ x ∷ []) u ≡ Some y → P u y
each_more P [] x old new zero y e = let same : x ≡ y = cc in subst (P 0) same new
each_more P [] x old new (suc u) y e = absurd (cc e)
each_more P (s ∷ sides) x old new zero y e = old 0 y e
each_more P (s ∷ sides) x old new (suc u) y e = each_more (λ k z. P (suc k) z) sides x (λ k z h. old (suc k) z h) new u y e

pub no_sides : (p : Program) → AreSides [] p
no_sides p = record { before = λ t x e. absurd (cc e); after = λ t x e. absurd (cc e) }

pub sides_more : (sides : List Sides) (p : Program) (t : ℕ) (x : Sides) → AreSides sides p → t ≡ length sides → IsSides p t x → AreSides (sides ++ x ∷ []) p
sides_more sides p t x are k is = record {
  before = each_more (λ u y. y.before ≡ capped (length (spaced (before p (shape p.graph.nodes u))))) sides x are.before (subst (λ u. x.before ≡ capped (length (spaced (before p (shape p.graph.nodes u))))) k is.before);
  after = each_more (λ u y. y.behind ≡ capped (length (spaced (after p (shape p.graph.nodes u))))) sides x are.after (subst (λ u. x.behind ≡ capped (length (spaced (after p (shape p.graph.nodes u))))) k is.after);
}
