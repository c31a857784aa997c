-- Device: steps of telling lines apart.
use Rattle.std.proofs.Common.{◌≡◌, ◌≢◌, ℕ, zero, suc, ◌-◌, arith, get_or, length, Bool, true, false, cond, not, List, [], ◌∷◌, Option, Some, None, refl, sym, ap, ◌∙◌}
use Rattle.type_graph.specs.declared.aggregates.AggKind.{AggKind}
use Rattle.cil_text.specs.Words.{Word, TagWord, ExternWord, StaticWord}
use Rattle.cil_text.specs.ReadTypes.{skip_one}
use Rattle.cil_text.specs.ReadAggregates.{Lines}
use Rattle.cil_text.specs.ReadGlobals.{is_open_brace, ends_open, from_name, first_name, names_function, has_assign, declares_alone, declares}
use Rattle.cil_scan.specs.declared.words.Word.{Word as Seen}
use Rattle.cil_scan.specs.declared.words.Word.TheVariants as word
use Rattle.cil_scan.specs.Said.{said, all_said}
use Rattle.cil_forms.specs.LineKinds.{is_name, behind_word, is_assign, next_name, storage}

pub no_words : (ws : List Seen) → length ws ≡ 0 → false ≡ ends_open (all_said ws)
no_words [] e = refl
no_words (w ∷ ws) e = absurd (omega (arith, e))

last_from : (ws : List Seen) (k : ℕ) (d : Seen) → suc k ≡ length ws → is_open_brace (said (get_or ws k d)) ≡ ends_open (all_said ws)
last_from [] k d e = absurd (omega (arith, e))
last_from (w ∷ []) zero d e = refl
last_from (w ∷ []) (suc k) d e = absurd (omega (arith, e))
last_from (w ∷ v ∷ ws) zero d e = absurd (omega (arith, e))
last_from (w ∷ v ∷ ws) (suc k) d e = last_from (v ∷ ws) k d (omega (arith, e))

pub last_word : (ws : List Seen) (d : Seen) → length ws ≢ 0 → is_open_brace (said (get_or ws (length ws - 1) d)) ≡ ends_open (all_said ws)
last_word ws d h = last_from ws (length ws - 1) d (omega (arith, h))

pub from_here : (w : Seen) (ws : List Word) → is_name w ≡ true → said w ∷ ws ≡ from_name (said w ∷ ws)
from_here (word.Name text) ws e = refl
from_here w ws e = absurd (cc e)

tag_later : (kind : AggKind) (ws : List Word) → from_name (skip_one ws) ≡ from_name (TagWord kind ∷ ws)
tag_later kind [] = refl
tag_later kind (w ∷ ws) = refl

pub from_later : (w : Seen) (ws : List Word) → is_name w ≡ false → from_name (behind_word w ws) ≡ from_name (said w ∷ ws)
from_later (word.Name text) ws e = absurd (cc e)
from_later (word.TagWord kind) ws e = tag_later kind ws
from_later w ws e = refl

pub assign_here : (w : Seen) (ws : List Word) → is_assign w ≡ true → has_assign (said w ∷ ws) ≡ true
assign_here word.Assign ws e = refl
assign_here w ws e = absurd (cc e)

pub assign_later : (w : Seen) (ws : List Word) → is_assign w ≡ false → has_assign (said w ∷ ws) ≡ has_assign ws
assign_later word.Assign ws e = absurd (cc e)
assign_later w ws e = refl

pub declares_open : (ws : List Word) → ends_open ws ≡ true → declares ws ≡ false
declares_open ws e = ap (λ b. cond b false (declares_alone ws)) e

pub declares_shut : (ws : List Word) → ends_open ws ≡ false → declares ws ≡ declares_alone ws
declares_shut ws e = ap (λ b. cond b false (declares_alone ws)) e

pub next_open : (ws : List Word) (ls : Lines) → ends_open ws ≡ true → next_name (ws ∷ ls) ≡ None
next_open ws ls e = ap (λ b. cond b None (first_name ws)) e

pub next_shut : (ws : List Word) (ls : Lines) → ends_open ws ≡ false → next_name (ws ∷ ls) ≡ first_name ws
next_shut ws ls e = ap (λ b. cond b None (first_name ws)) e

abbrev alone_by : List Word → Option (Bool × List Word) → Bool
alone_by ws None = names_function ws
alone_by ws (Some (false, vs)) = true
alone_by ws (Some (true, vs)) = not (has_assign vs)

alone_is : (ws : List Word) → declares_alone ws ≡ alone_by ws (storage ws)
alone_is (ExternWord ∷ ws) = refl
alone_is (StaticWord ∷ ws) = refl
alone_is _ = refl

pub alone_external : (ws vs : List Word) → Some (false, vs) ≡ storage ws → declares_alone ws ≡ true
alone_external ws vs e = alone_is ws ∙ ap (alone_by ws) (sym e)

pub alone_internal : (ws vs : List Word) → Some (true, vs) ≡ storage ws → declares_alone ws ≡ not (has_assign vs)
alone_internal ws vs e = alone_is ws ∙ ap (alone_by ws) (sym e)

pub alone_named : (ws : List Word) → None ≡ storage ws → declares_alone ws ≡ names_function ws
alone_named ws e = alone_is ws ∙ ap (alone_by ws) (sym e)
