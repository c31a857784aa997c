-- Device: steps of the reading of functions with bodies.
use Rattle.std.proofs.Common.{◌≡◌, ℕ, zero, suc, ◌+◌, ◌-◌, ◌<◌, ◌≤◌, min, Bool, true, false, not, ◌&&◌, ◌||◌, cond, List, [], ◌∷◌, ◌++◌, length, take, drop, map, get_or, slice_get, Vec, Bor, Option, Some, None, refl, sym, ap, ◌∙◌, subst, append_assoc, append-nil, arith, lt-ltb}
use Rattle.std.specs.Str.{bytes_eq}
use Rattle.std.specs.Global.{Global}
use Rattle.std.proofs.Math.Nat.{min-le_left, min-le_right}
use Rattle.std.proofs.lemmas.List.{take_all, take_rest}
use Rattle.std.proofs.lemmas.Slice.Eq.{bytes_eq-Decides}
use Rattle.cil_base.specs.declared.numbers.NameId.{NameId}
use Rattle.cil_base.specs.declared.numbers.TypeId.{TypeId}
use Rattle.cil_base.specs.NamePool.{Interns}
use Rattle.type_graph.specs.declared.aggregates.AggKind.{AggKind}
use Rattle.type_graph.specs.declared.nodes.Node.{Node}
use Rattle.type_graph.specs.Shapes.{Shape, Shapes, NoTypes, MoreTypes, shape, shapes_of}
use Rattle.type_graph.specs.Arena.{Graph, EachType}
use Rattle.type_graph.specs.Growth.{Grows}
use Rattle.type_graph.proofs.ShapeLaws.{kept}
use Rattle.type_graph.proofs.GrowthLaws.{grows_twice}
use Rattle.cil_tree.specs.declared.globals.Local.{Local as SeenLocal}
use Rattle.cil_tree.specs.Tree.{Local}
use Rattle.cil_tree.specs.Names.{is_among, are_different, local_name_of}
use Rattle.cil_tree.specs.View.{type_at, text_at, local_of}
use Rattle.cil_text.specs.Allowed.{allowed}
use Rattle.cil_text.specs.Words.{Word, TagWord, Name}
use Rattle.cil_text.specs.ReadAggregates.{Lines, is_close}
use Rattle.cil_text.specs.ReadGlobals.{plain_names, ends_open, one_less, moved, line_first, split_block, param_locals}
use Rattle.cil_scan.specs.declared.words.Word.{Word as Seen}
use Rattle.cil_reader.specs.declared.names.Names.{Names}
use Rattle.cil_reader.specs.declared.bodies.Locals.{Locals}
use Rattle.cil_scan.specs.Said.{said, all_said, all_lines}
use Rattle.cil_reader.specs.Settings.{zipped, locals_of}
use Rattle.cil_declarators.specs.Fresh.{with_new}
use Rattle.cil_reader.specs.Pools.{KeepsNames}
use Rattle.cil_reader.specs.Globals.{behind_line}
use Rattle.cil_reader.specs.Bodies.{texts_of, TextsKnown, names_from, is_tag_word, tag_behind, name_in, names_here, next_names, still_open, closes, lines_before, named_local, apart, local_behind, LocalsKnown}
use Rattle.cil_declarators.proofs.LayersLaws.{no_fewer}
use Rattle.cil_reader.proofs.MemberLaws.{each_there, types_later}
use Rattle.cil_reader.proofs.SettingsLaws.{zipped_kept}
use Rattle.cil_reader.proofs.PoolLaws.{pool_twice, pool_asked, text_stays}

-- lists

pub one_more : (k : ℕ) → suc k ≡ k + 1
one_more k = omega arith

dropped_suc : {A : Type 0} (xs : List A) (i : ℕ) (d : A) → i < length xs → drop i xs ≡ get_or xs i d ∷ drop (suc i) xs
dropped_suc [] i d h = absurd (omega (arith, h))
dropped_suc (x ∷ xs) zero d h = refl
dropped_suc (x ∷ xs) (suc i) d h = dropped_suc xs i d (omega (arith, h))

pub dropped : {A : Type 0} (xs : List A) (i : ℕ) (d : A) → i < length xs → drop i xs ≡ get_or xs i d ∷ drop (i + 1) xs
dropped xs i d h = dropped_suc xs i d h ∙ ap (λ k. get_or xs i d ∷ drop k xs) (one_more i)

taken_suc : {A : Type 0} (xs : List A) (i : ℕ) (d : A) → i < length xs → take (suc i) xs ≡ take i xs ++ get_or xs i d ∷ []
taken_suc [] i d h = absurd (omega (arith, h))
taken_suc (x ∷ xs) zero d h = refl
taken_suc (x ∷ xs) (suc i) d h = ap (λ ys. x ∷ ys) (taken_suc xs i d (omega (arith, h)))

pub taken : {A : Type 0} (xs : List A) (i : ℕ) (d : A) → i < length xs → take (i + 1) xs ≡ take i xs ++ get_or xs i d ∷ []
taken xs i d h = ap (λ k. take k xs) (sym (one_more i)) ∙ taken_suc xs i d h

pub past : {A : Type 0} (xs : List A) (i : ℕ) → length xs ≤ i → drop i xs ≡ []
past [] zero h = refl
past [] (suc i) h = refl
past (x ∷ xs) zero h = absurd (omega (arith, h))
past (x ∷ xs) (suc i) h = past xs i (omega (arith, h))

pub lines_at : (lines : List (Vec Seen Global)) (i : ℕ) (d : Vec Seen Global) → i < length lines → all_lines (drop i lines) ≡ all_said (get_or lines i d).items ∷ all_lines (drop (i + 1) lines)
lines_at lines i d h = ap all_lines (dropped lines i d h)

-- names in a line

pub texts_more : (xs : List (Bor (List ℕ))) (t : Bor (List ℕ)) → texts_of (xs ++ t ∷ []) ≡ texts_of xs ++ t.now ∷ []
texts_more [] t = refl
texts_more (x ∷ xs) t = ap (λ ys. x.now ∷ ys) (texts_more xs t)

pub one_name : (xs ys : List (Bor (List ℕ))) (t : Bor (List ℕ)) (v : Bool) (o : Option (List ℕ)) → v ≡ false → Some t.now ≡ o → ys ≡ xs ++ t ∷ [] → Some (texts_of xs ++ names_here v o) ≡ Some (texts_of ys)
one_name xs ys t v o e f is = ap (λ b. Some (texts_of xs ++ names_here b o)) e ∙ ap (λ p. Some (texts_of xs ++ names_here false p)) (sym f) ∙ ap Some (sym (texts_more xs t)) ∙ ap (λ zs. Some (texts_of zs)) (sym is)

pub no_name : (xs : List (Bor (List ℕ))) (v : Bool) (o : Option (List ℕ)) → v ≡ false → None ≡ o → Some (texts_of xs ++ names_here v o) ≡ Some (texts_of xs)
no_name xs v o e f = ap (λ b. Some (texts_of xs ++ names_here b o)) e ∙ ap (λ p. Some (texts_of xs ++ names_here false p)) (sym f) ∙ ap Some (append-nil (texts_of xs))

pub tag_name : (xs : List (Bor (List ℕ))) (v : Bool) (o : Option (List ℕ)) → v ≡ true → Some (texts_of xs ++ names_here v o) ≡ Some (texts_of xs)
tag_name xs v o e = ap (λ b. Some (texts_of xs ++ names_here b o)) e ∙ ap Some (append-nil (texts_of xs))

behind_tag : (ws : List Word) (k : AggKind) → plain_names (TagWord k ∷ ws) ≡ names_from true ws
behind_tag [] k = refl
behind_tag (w ∷ ws) k = refl

names_split : (v : Bool) (w : Word) (ws : List Word) → names_from v (w ∷ ws) ≡ names_here v (name_in w) ++ names_from (not v && is_tag_word w) ws
names_split true w ws = refl
names_split false (TagWord k) ws = behind_tag ws k
names_split false (Name t) ws = refl
names_split false _ ws = refl

names_on : (words : List Seen) (i : ℕ) (d : Seen) (n m whole : List (List ℕ)) (v : Bool) → i < length words → n ++ names_from v (all_said (drop i words)) ≡ whole →
    Some (n ++ names_here v (name_in (said (get_or words i d)))) ≡ Some m → m ++ names_from (tag_behind v (said (get_or words i d))) (all_said (drop (i + 1) words)) ≡ whole
names_on words i d n m whole v less inv e =
    let same : n ++ names_here v (name_in (said (get_or words i d))) ≡ m = cc in
    let rest = names_from (not v && is_tag_word (said (get_or words i d))) (all_said (drop (i + 1) words)) in
    ap (λ x. x ++ rest) (sym same)
    ∙ append_assoc n (names_here v (name_in (said (get_or words i d)))) rest
    ∙ ap (λ x. n ++ x) (sym (names_split v (said (get_or words i d)) (all_said (drop (i + 1) words))))
    ∙ ap (λ x. n ++ names_from v (all_said x)) (sym (dropped words i d less))
    ∙ inv

pub names_next : (words : List Seen) (i : ℕ) (d : Seen) (n m whole : List (List ℕ)) (v u : Bool) → i < length words → n ++ names_from v (all_said (drop i words)) ≡ whole →
    Some (n ++ names_here v (name_in (said (get_or words i d)))) ≡ Some m → u ≡ tag_behind v (said (get_or words i d)) → m ++ names_from u (all_said (drop (i + 1) words)) ≡ whole
names_next words i d n m whole v u less inv e tag =
    ap (λ b. m ++ names_from b (all_said (drop (i + 1) words))) tag ∙ names_on words i d n m whole v less inv e

pub tag_shut : (v : Bool) (w : Word) → v ≡ true → false ≡ tag_behind v w
tag_shut v w e = ap (λ b. not b && is_tag_word w) (sym e)

pub tag_open : (v b : Bool) (w : Word) → v ≡ false → b ≡ is_tag_word w → b ≡ tag_behind v w
tag_open v b w e is = is ∙ ap (λ c. not c && is_tag_word w) (sym e)

names_none : (v : Bool) → names_from v [] ≡ []
names_none true = refl
names_none false = refl

pub names_end : (words : List Seen) (i : ℕ) (n whole : List (List ℕ)) (v : Bool) → length words ≤ i → n ++ names_from v (all_said (drop i words)) ≡ whole → Some whole ≡ Some n
names_end words i n whole v end inv = ap Some (sym inv ∙ ap (λ ws. n ++ names_from v (all_said ws)) (past words i end) ∙ ap (λ x. n ++ x) (names_none v) ∙ append-nil n)

pub header_open : (lines more : List (Vec Seen Global)) (line : Vec Seen Global) → lines ≡ line ∷ more → ends_open (all_said line.items) ≡ true → next_names (all_lines lines) ≡ plain_names (all_said line.items)
header_open lines more line is open_ = ap (λ ls. next_names (all_lines ls)) is ∙ ap (λ b. cond b (plain_names (all_said line.items)) []) open_

pub header_shut : (lines more : List (Vec Seen Global)) (line : Vec Seen Global) → lines ≡ line ∷ more → ends_open (all_said line.items) ≡ false → next_names (all_lines lines) ≡ []
header_shut lines more line is shut = ap (λ ls. next_names (all_lines ls)) is ∙ ap (λ b. cond b (plain_names (all_said line.items)) []) shut

-- lines of a block

pub still_shut : (ws : List Word) (d : ℕ) → is_close ws ≡ false → d ≡ still_open ws d
still_shut ws d e = ap (λ b. cond b (one_less d) d) (sym e)

one_less_is : (d : ℕ) → d - 1 ≡ one_less d
one_less_is zero = refl
one_less_is (suc d) = omega arith

pub still_less : (ws : List Word) (d : ℕ) → is_close ws ≡ true → d - 1 ≡ still_open ws d
still_less ws d e = one_less_is d ∙ ap (λ b. cond b (one_less d) d) (sym e)

pub still_none : (ws : List Word) (d : ℕ) → d ≡ 0 → 0 ≡ still_open ws d
still_none ws d e = by (is_close ws) ∙ ap (still_open ws) (sym e)
  where
    by : (b : Bool) → ◌≡◌ {A = ℕ} 0 (cond b 0 0)
    by true = refl
    by false = refl

pub moved_open : (ws : List Word) (d k : ℕ) → ends_open ws ≡ true → k ≡ still_open ws d → k + 1 ≡ moved ws d
moved_open ws d k e is = sym (one_more k) ∙ ap suc is ∙ ap (λ b. cond b (suc (still_open ws d)) (still_open ws d)) (sym e)

pub moved_shut : (ws : List Word) (d k : ℕ) → ends_open ws ≡ false → k ≡ still_open ws d → k ≡ moved ws d
moved_shut ws d k e is = is ∙ ap (λ b. cond b (suc (still_open ws d)) (still_open ws d)) (sym e)

lines_more : (lines : List (Vec Seen Global)) (v : Vec Seen Global) (r : Lines × Lines) → lines_before (all_lines lines) (line_first (all_said v.items) r) ≡ lines_before (all_lines (lines ++ v ∷ [])) r
lines_more [] v r = refl
lines_more (x ∷ lines) v r = let e = lines_more lines v r in ap (λ (q : Lines × Lines). (all_said x.items ∷ q.0, q.1)) e

split_at : (ws : List Word) (rest : Lines) (d : ℕ) → closes ws d ≡ false → split_block d (ws ∷ rest) ≡ line_first ws (split_block (moved ws d) rest)
split_at ws rest d e = ap (λ b. cond b ([], rest) (line_first ws (split_block (moved ws d) rest))) e

split_shut : (ws : List Word) (rest : Lines) (d : ℕ) → closes ws d ≡ true → split_block d (ws ∷ rest) ≡ ([], rest)
split_shut ws rest d e = ap (λ b. cond b ([], rest) (line_first ws (split_block (moved ws d) rest))) e

pub block_next : (lines : List (Vec Seen Global)) (i : ℕ) (v : Vec Seen Global) (d : ℕ) (whole : Lines × Lines) → i < length lines → false ≡ closes (all_said (get_or lines i v).items) d →
    whole ≡ lines_before (all_lines (take i lines)) (split_block d (all_lines (drop i lines))) →
    whole ≡ lines_before (all_lines (take (i + 1) lines)) (split_block (moved (all_said (get_or lines i v).items) d) (all_lines (drop (i + 1) lines)))
block_next lines i v d whole less shut inv =
    let ws = all_said (get_or lines i v).items in
    let rest = split_block (moved ws d) (all_lines (drop (i + 1) lines)) in
    inv
    ∙ ap (λ ls. lines_before (all_lines (take i lines)) (split_block d ls)) (lines_at lines i v less)
    ∙ ap (lines_before (all_lines (take i lines))) (split_at ws (all_lines (drop (i + 1) lines)) d (sym shut))
    ∙ lines_more (take i lines) (get_or lines i v) rest
    ∙ ap (λ ls. lines_before (all_lines ls) rest) (sym (taken_suc lines i v less) ∙ ap (λ k. take k lines) (one_more i))

pub block_closed : (lines : List (Vec Seen Global)) (i : ℕ) (v : Vec Seen Global) (d : ℕ) (whole : Lines × Lines) → i < length lines → true ≡ closes (all_said (get_or lines i v).items) d →
    whole ≡ lines_before (all_lines (take i lines)) (split_block d (all_lines (drop i lines))) → whole ≡ (all_lines (take i lines), behind_line (all_lines (drop i lines)))
block_closed lines i v d whole less shut inv =
    let ws = all_said (get_or lines i v).items in
    inv
    ∙ ap (λ ls. lines_before (all_lines (take i lines)) (split_block d ls)) (lines_at lines i v less)
    ∙ ap (lines_before (all_lines (take i lines))) (split_shut ws (all_lines (drop (i + 1) lines)) d (sym shut))
    ∙ ap (λ xs. (xs, all_lines (drop (i + 1) lines))) (append-nil (all_lines (take i lines)))
    ∙ ap (λ ls. (all_lines (take i lines), behind_line ls)) (sym (lines_at lines i v less))

pub block_end : (lines : List (Vec Seen Global)) (i : ℕ) (d : ℕ) (whole : Lines × Lines) → length lines ≤ i →
    whole ≡ lines_before (all_lines (take i lines)) (split_block d (all_lines (drop i lines))) → whole ≡ (all_lines (take (length lines) lines), behind_line (all_lines (drop (length lines) lines)))
block_end lines i d whole end inv =
    let all = length lines in
    inv
    ∙ ap (λ ls. lines_before (all_lines (take i lines)) (split_block d (all_lines ls))) (past lines i end)
    ∙ ap (λ xs. (xs, [])) (append-nil (all_lines (take i lines)))
    ∙ ap (λ ls. (all_lines ls, [])) (take_all i lines end ∙ sym (take_all all lines (omega arith)))
    ∙ ap (λ ls. (all_lines (take all lines), behind_line (all_lines ls))) (sym (past lines all (omega arith)))

pub all_behind : {A : Type 0} (xs : List A) (n : ℕ) → length xs < n → take (length xs - length xs) (drop (length xs) xs) ≡ drop n xs
all_behind xs n h = take_rest xs (length xs) ∙ past xs (length xs) (omega arith) ∙ sym (past xs n (omega (arith, h)))

pub some_behind : {A : Type 0} (xs : List A) (n : ℕ) → take (length xs - n) (drop n xs) ≡ drop n xs
some_behind xs n = take_rest xs n

-- texts with numbers

pub no_texts : (pool : List (List ℕ)) → TextsKnown pool [] []
no_texts pool = record { steady = λ later g. refl }

texts_at_end : (later : List (List ℕ)) (names : List NameId) (n : NameId) → map (text_at later) (names ++ n ∷ []) ≡ map (text_at later) names ++ text_at later n ∷ []
texts_at_end later [] n = refl
texts_at_end later (m ∷ names) n = ap (λ ys. text_at later m ∷ ys) (texts_at_end later names n)

pub texts_asked : (p q : List (List ℕ)) (names : List NameId) (texts : List (List ℕ)) (text : List ℕ) (n : NameId) → TextsKnown p names texts → Interns p q text n.0 → TextsKnown q (names ++ n ∷ []) (texts ++ text ∷ [])
texts_asked p q names texts text n k i = record {
  steady = λ later g.
      texts_at_end later names n
      ∙ ap (λ ys. ys ++ text_at later n ∷ []) (k.steady later (pool_twice p q later (pool_asked p q text n.0 i) g))
      ∙ ap (λ y. texts ++ y ∷ []) (text_stays q later n text i.number g);
}

pub texts_later : (p q : List (List ℕ)) (names : List NameId) (texts : List (List ℕ)) → TextsKnown p names texts → KeepsNames p q → TextsKnown q names texts
texts_later p q names texts k g = record { steady = λ later h. k.steady later (pool_twice p q later g h) }

-- names that differ

alike_back : (xs ys : List ℕ) → bytes_eq xs ys ≡ true → bytes_eq ys xs ≡ true
alike_back xs ys e = (bytes_eq-Decides ys xs).1 (sym ((bytes_eq-Decides xs ys).0 e))

unlike_back : (xs ys : List ℕ) → bytes_eq xs ys ≡ false → bytes_eq ys xs ≡ false
unlike_back xs ys e = by (bytes_eq ys xs) refl
  where
    by : (b : Bool) → bytes_eq ys xs ≡ b → b ≡ false
    by false f = refl
    by true f = sym (alike_back ys xs f) ∙ e

among_more : (ts us : List (List ℕ)) (t u : List ℕ) → bytes_eq u t ≡ true → is_among (ts ++ t ∷ us) u ≡ true
among_more [] us t u e = ap (λ b. b || is_among us u) e
among_more (x ∷ ts) us t u e = by (bytes_eq u x) (among_more ts us t u e)
  where
    by : (b : Bool) → is_among (ts ++ t ∷ us) u ≡ true → b || is_among (ts ++ t ∷ us) u ≡ true
    by true h = refl
    by false h = h

not_among_more : (ts : List (List ℕ)) (t u : List ℕ) → is_among ts u ≡ false → bytes_eq u t ≡ false → is_among (ts ++ t ∷ []) u ≡ false
not_among_more [] t u h e = ap (λ b. b || false) e
not_among_more (x ∷ ts) t u h e = by (bytes_eq u x) (λ g. not_among_more ts t u g e) h
  where
    by : (b : Bool) → (is_among ts u ≡ false → is_among (ts ++ t ∷ []) u ≡ false) → b || is_among ts u ≡ false → b || is_among (ts ++ t ∷ []) u ≡ false
    by true more g = absurd (cc g)
    by false more g = more g

both_true : (a b : Bool) → a && b ≡ true → (a ≡ true) × (b ≡ true)
both_true true b e = (refl, e)
both_true false b e = absurd (cc e)

either_false : (a b : Bool) → a || b ≡ false → (a ≡ false) × (b ≡ false)
either_false true b e = absurd (cc e)
either_false false b e = (refl, e)

not_false : (a : Bool) → not a ≡ true → a ≡ false
not_false true e = absurd (cc e)
not_false false e = refl

pub different_more : (ts : List (List ℕ)) (t : List ℕ) → are_different ts ≡ true → is_among ts t ≡ false → are_different (ts ++ t ∷ []) ≡ true
different_more [] t d h = refl
different_more (u ∷ ts) t d h =
    let a = both_true (not (is_among ts u)) (are_different ts) d in
    let b = either_false (bytes_eq t u) (is_among ts t) h in
    ap (λ x. not x && are_different (ts ++ t ∷ [])) (not_among_more ts t u (not_false (is_among ts u) a.0) (unlike_back t u b.0))
    ∙ different_more ts t a.1 b.1

pub not_different : (ts us : List (List ℕ)) (t : List ℕ) → is_among ts t ≡ true → are_different (ts ++ t ∷ us) ≡ false
not_different [] us t h = absurd (cc h)
not_different (u ∷ ts) us t h = by (bytes_eq t u) (λ g. not_different ts us t g) refl h
  where
    and_false : (b : Bool) → b && false ≡ false
    and_false true = refl
    and_false false = refl

    by : (b : Bool) → (is_among ts t ≡ true → are_different (ts ++ t ∷ us) ≡ false) → bytes_eq t u ≡ b → b || is_among ts t ≡ true → not (is_among (ts ++ t ∷ us) u) && are_different (ts ++ t ∷ us) ≡ false
    by true more e g = ap (λ x. not x && are_different (ts ++ t ∷ us)) (among_more ts us t u (alike_back t u e))
    by false more e g = ap (λ x. not (is_among (ts ++ t ∷ us) u) && x) (more g) ∙ and_false (not (is_among (ts ++ t ∷ us) u))

-- a text behind others

pub text_cases : (ts us : List (List ℕ)) (t : List ℕ) → with_new ts t ≡ Some us → (is_among ts t ≡ false) × (us ≡ ts ++ t ∷ [])
text_cases ts us t e = by (is_among ts t) refl e
  where
    by : (b : Bool) → is_among ts t ≡ b → cond b None (Some (ts ++ t ∷ [])) ≡ Some us → (is_among ts t ≡ false) × (us ≡ ts ++ t ∷ [])
    by true a f = absurd (cc f)
    by false a f = let same : us ≡ ts ++ t ∷ [] = cc in (a, same)

pub text_among : (ts : List (List ℕ)) (t : List ℕ) → with_new ts t ≡ None → is_among ts t ≡ true
text_among ts t e = by (is_among ts t) refl e
  where
    by : (b : Bool) → is_among ts t ≡ b → cond b None (Some (ts ++ t ∷ [])) ≡ None → is_among ts t ≡ true
    by true a f = a
    by false a f = absurd (cc f)

-- locals

names_zipped : (nodes : List Node) (ns : List (List ℕ)) (ts : List TypeId) → length ns ≡ length ts → map local_name_of (zipped nodes ns ts) ≡ ns
names_zipped nodes [] ts e = refl
names_zipped nodes (n ∷ ns) [] e = absurd (omega (arith, e))
names_zipped nodes (n ∷ ns) (t ∷ ts) e = ap (λ xs. n ∷ xs) (names_zipped nodes ns ts (omega (arith, e)))

zipped_more : (nodes : List Node) (ns : List (List ℕ)) (ts : List TypeId) (n : List ℕ) (t : TypeId) → length ns ≡ length ts → zipped nodes (ns ++ n ∷ []) (ts ++ t ∷ []) ≡ zipped nodes ns ts ++ named_local n (shape nodes t.0) ∷ []
zipped_more nodes [] [] n t e = refl
zipped_more nodes [] (u ∷ ts) n t e = absurd (omega (arith, e))
zipped_more nodes (m ∷ ns) [] n t e = absurd (omega (arith, e))
zipped_more nodes (m ∷ ns) (u ∷ ts) n t e = ap (λ xs. named_local m (shape nodes u.0) ∷ xs) (zipped_more nodes ns ts n t (omega (arith, e)))

locals_more : (nodes : List Node) (x y : Names) (text : List ℕ) (t : TypeId) → y.numbering ≡ x.numbering ++ text ∷ [] → y.types.items ≡ x.types.items ++ t ∷ [] → locals_of nodes y ≡ locals_of nodes x ++ named_local text (shape nodes t.0) ∷ []
locals_more nodes x y text t n e = ap (λ ns. zipped nodes ns y.types.items) n ∙ ap (zipped nodes (x.numbering ++ text ∷ [])) e ∙ zipped_more nodes x.numbering x.types.items text t x.paired

pub local_gives : (nodes : List Node) (x y : Names) (text : List ℕ) (t : TypeId) → with_new x.numbering text ≡ Some y.numbering → y.types.items ≡ x.types.items ++ t ∷ [] → local_behind (locals_of nodes x) (named_local text (shape nodes t.0)) ≡ Some (locals_of nodes y)
local_gives nodes x y text t e is =
    let c = text_cases x.numbering y.numbering text e in
    ap (λ b. cond b None (Some (locals_of nodes x ++ named_local text (shape nodes t.0) ∷ []))) (ap (λ ns. is_among ns text) (names_zipped nodes x.numbering x.types.items x.paired) ∙ c.0)
    ∙ ap Some (sym (locals_more nodes x y text t c.1 is))

pub local_fails : (nodes : List Node) (x : Names) (text : List ℕ) (s : Shape) → with_new x.numbering text ≡ None → local_behind (locals_of nodes x) (named_local text s) ≡ None
local_fails nodes x text s e =
    ap (λ b. cond b None (Some (locals_of nodes x ++ named_local text s ∷ []))) (ap (λ ns. is_among ns text) (names_zipped nodes x.numbering x.types.items x.paired) ∙ text_among x.numbering text e)

seen_more : (nodes : List Node) (pool : List (List ℕ)) (xs : List SeenLocal) (x : SeenLocal) → map (local_of nodes pool) (xs ++ x ∷ []) ≡ map (local_of nodes pool) xs ++ local_of nodes pool x ∷ []
seen_more nodes pool [] x = refl
seen_more nodes pool (y ∷ xs) x = ap (λ ys. local_of nodes pool y ∷ ys) (seen_more nodes pool xs x)

type_there : (nodes : List Node) (t : TypeId) → t.0 < length nodes → type_at nodes t ≡ Some (shape nodes t.0)
type_there nodes t h = ap (λ b. cond b (Some (shape nodes t.0)) None) (lt-ltb t.0 (length nodes) h)

local_seen : (g h : Graph) (q later : List (List ℕ)) (text : List ℕ) (n : NameId) (t : TypeId) → Grows g h → KeepsNames q later → slice_get q n.0 ≡ Some text → t.0 < length g.nodes → local_of h.nodes later (record { name = n; ty = t }) ≡ named_local text (shape g.nodes t.0)
local_seen g h q later text n t r p e less =
    ap (λ (x : List ℕ). record { name = x; type = type_at h.nodes t }) (text_stays q later n text e p)
    ∙ ap (λ (s : Option Shape). record { name = text; type = s }) (type_there h.nodes t (omega (arith, less, no_fewer g h r)) ∙ ap Some (kept g h t.0 r less))

pub local_known : (g : Graph) (p q : List (List ℕ)) (x y : Locals) (text : List ℕ) (n : NameId) (t : TypeId) → LocalsKnown g p x → t.0 < length g.nodes → Interns p q text n.0 → y.names.numbering ≡ x.names.numbering ++ text ∷ [] → y.names.types.items ≡ x.names.types.items ++ t ∷ [] →
    y.all.items ≡ x.all.items ++ record { name = n; ty = t } ∷ [] → LocalsKnown g q y
local_known g p q x y text n t k less i ns ts ls = record {
  each = subst (EachType (length g.nodes)) (sym ts) (each_there (length g.nodes) x.names.types.items t k.each less);
  steady = λ h later r l.
      ap (map (local_of h.nodes later)) ls
      ∙ seen_more h.nodes later x.all.items (record { name = n; ty = t })
      ∙ ap (λ zs. zs ++ local_of h.nodes later (record { name = n; ty = t }) ∷ []) (k.steady h later r (pool_twice p q later (pool_asked p q text n.0 i) l))
      ∙ ap (λ z. locals_of g.nodes x.names ++ z ∷ []) (local_seen g h q later text n t r l i.number less)
      ∙ sym (locals_more g.nodes x.names y.names text t ns ts);
}

pub no_locals : (g : Graph) (p : List (List ℕ)) (x : Locals) → x.names.numbering ≡ [] → x.names.types.items ≡ [] → x.all.items ≡ [] → LocalsKnown g p x
no_locals g p x ns ts ls = record {
  each = subst (EachType (length g.nodes)) (sym ts) tt;
  steady = λ h later r l. ap (map (local_of h.nodes later)) ls ∙ ap (λ us. zipped g.nodes us x.names.types.items) (sym ns);
}

pub locals_same : (g h : Graph) (p : List (List ℕ)) (x : Locals) → Grows g h → LocalsKnown g p x → locals_of h.nodes x.names ≡ locals_of g.nodes x.names
locals_same g h p x r k = zipped_kept g h x.names.numbering x.names.types.items r k.each

pub locals_later : (g h : Graph) (p q : List (List ℕ)) (x : Locals) → Grows g h → KeepsNames p q → LocalsKnown g p x → LocalsKnown h q x
locals_later g h p q x r l k = record {
  each = types_later g h x.names.types.items r k.each;
  steady = λ i later s m. k.steady i later (grows_twice g h i r s) (pool_twice p q later l m) ∙ sym (locals_same g h p x r k);
}

-- a local behind others

pub behind_cases : (ls ms : List Local) (x : Local) → local_behind ls x ≡ Some ms → (is_among (map local_name_of ls) x.name ≡ false) × (ms ≡ ls ++ x ∷ [])
behind_cases ls ms x e = by (is_among (map local_name_of ls) x.name) refl e
  where
    by : (b : Bool) → is_among (map local_name_of ls) x.name ≡ b → cond b None (Some (ls ++ x ∷ [])) ≡ Some ms → (is_among (map local_name_of ls) x.name ≡ false) × (ms ≡ ls ++ x ∷ [])
    by true a f = absurd (cc f)
    by false a f = let same : ms ≡ ls ++ x ∷ [] = cc in (a, same)

behind_among : (ls : List Local) (x : Local) → local_behind ls x ≡ None → is_among (map local_name_of ls) x.name ≡ true
behind_among ls x e = by (is_among (map local_name_of ls) x.name) refl e
  where
    by : (b : Bool) → is_among (map local_name_of ls) x.name ≡ b → cond b None (Some (ls ++ x ∷ [])) ≡ None → is_among (map local_name_of ls) x.name ≡ true
    by true a f = a
    by false a f = absurd (cc f)

pub named_more : (ls ms : List Local) → map local_name_of (ls ++ ms) ≡ map local_name_of ls ++ map local_name_of ms
named_more [] ms = refl
named_more (l ∷ ls) ms = ap (λ ns. l.name ∷ ns) (named_more ls ms)

pub apart_more : (ls ms : List Local) (x : Local) → apart ls ≡ true → local_behind ls x ≡ Some ms → apart ms ≡ true
apart_more ls ms x d e =
    let c = behind_cases ls ms x e in
    ap apart c.1 ∙ ap are_different (named_more ls (x ∷ [])) ∙ different_more (map local_name_of ls) x.name d c.0

pub not_apart : (ls more : List Local) (x : Local) → local_behind ls x ≡ None → apart (ls ++ x ∷ more) ≡ false
not_apart ls more x e = ap are_different (named_more ls (x ∷ more)) ∙ not_different (map local_name_of ls) (map local_name_of more) x.name (behind_among ls x e)

-- parameters

abbrev params_from : List Node → List TypeId → List (Bor (List ℕ)) → ℕ → List Local
params_from nodes ts xs i = param_locals (shapes_of (shape nodes) (drop i ts)) (texts_of (drop i xs))

params_at : (nodes : List Node) (ts : List TypeId) (xs : List (Bor (List ℕ))) (i : ℕ) (t : TypeId) (x : Bor (List ℕ)) → i < length ts → i < length xs →
    params_from nodes ts xs i ≡ named_local (get_or xs i x).now (shape nodes (get_or ts i t).0) ∷ params_from nodes ts xs (i + 1)
params_at nodes ts xs i t x h k = ap (λ us. param_locals (shapes_of (shape nodes) us) (texts_of (drop i xs))) (dropped ts i t h) ∙ ap (λ ys. param_locals (shapes_of (shape nodes) (get_or ts i t ∷ drop (i + 1) ts)) (texts_of ys)) (dropped xs i x k)

pub params_next : (nodes : List Node) (ts : List TypeId) (xs : List (Bor (List ℕ))) (i : ℕ) (t : TypeId) (x : Bor (List ℕ)) (ls ms whole : List Local) → i < min (length ts) (length xs) →
    ls ++ param_locals (shapes_of (shape nodes) (drop i ts)) (texts_of (drop i xs)) ≡ whole → local_behind ls (named_local (get_or xs i x).now (shape nodes (get_or ts i t).0)) ≡ Some ms →
    ms ++ param_locals (shapes_of (shape nodes) (drop (i + 1) ts)) (texts_of (drop (i + 1) xs)) ≡ whole
params_next nodes ts xs i t x ls ms whole h inv e =
    let y = named_local (get_or xs i x).now (shape nodes (get_or ts i t).0) in
    ap (λ zs. zs ++ params_from nodes ts xs (i + 1)) (behind_cases ls ms y e).1
    ∙ append_assoc ls (y ∷ []) (params_from nodes ts xs (i + 1))
    ∙ ap (λ zs. ls ++ zs) (sym (params_at nodes ts xs i t x (omega (arith, h, min-le_left (length ts) (length xs))) (omega (arith, h, min-le_right (length ts) (length xs)))))
    ∙ inv

pub params_fail : (nodes : List Node) (ts : List TypeId) (xs : List (Bor (List ℕ))) (i : ℕ) (t : TypeId) (x : Bor (List ℕ)) (ls whole : List Local) → i < min (length ts) (length xs) →
    ls ++ param_locals (shapes_of (shape nodes) (drop i ts)) (texts_of (drop i xs)) ≡ whole → local_behind ls (named_local (get_or xs i x).now (shape nodes (get_or ts i t).0)) ≡ None → allowed apart whole ≡ None
params_fail nodes ts xs i t x ls whole h inv e =
    let y = named_local (get_or xs i x).now (shape nodes (get_or ts i t).0) in
    ap (allowed apart) (sym inv ∙ ap (λ zs. ls ++ zs) (params_at nodes ts xs i t x (omega (arith, h, min-le_left (length ts) (length xs))) (omega (arith, h, min-le_right (length ts) (length xs)))))
    ∙ ap (λ b. cond b (Some (ls ++ y ∷ params_from nodes ts xs (i + 1))) None) (not_apart ls (params_from nodes ts xs (i + 1)) y e)

no_names_left : (s : Shapes) → param_locals s [] ≡ []
no_names_left NoTypes = refl
no_names_left (MoreTypes s ss) = refl

params_left : (nodes : List Node) (ts : List TypeId) (xs : List (Bor (List ℕ))) (i : ℕ) → min (length ts) (length xs) ≤ i → params_from nodes ts xs i ≡ []
params_left nodes [] xs i h = ap (λ us. param_locals (shapes_of (shape nodes) us) (texts_of (drop i xs))) (past {A = TypeId} [] i (omega arith))
params_left nodes (t ∷ ts) [] i h = ap (λ ys. param_locals (shapes_of (shape nodes) (drop i (t ∷ ts))) (texts_of ys)) (past {A = Bor (List ℕ)} [] i (omega arith)) ∙ no_names_left (shapes_of (shape nodes) (drop i (t ∷ ts)))
params_left nodes (t ∷ ts) (x ∷ xs) zero h = absurd (omega (arith, h))
params_left nodes (t ∷ ts) (x ∷ xs) (suc i) h = params_left nodes ts xs i (omega (arith, h))

pub params_end : (nodes : List Node) (ts : List TypeId) (xs : List (Bor (List ℕ))) (i : ℕ) (ls whole : List Local) → min (length ts) (length xs) ≤ i → apart ls ≡ true →
    ls ++ param_locals (shapes_of (shape nodes) (drop i ts)) (texts_of (drop i xs)) ≡ whole → allowed apart whole ≡ Some ls
params_end nodes ts xs i ls whole h d inv = ap (allowed apart) (sym inv ∙ ap (λ zs. ls ++ zs) (params_left nodes ts xs i h) ∙ append-nil ls) ∙ ap (λ b. cond b (Some ls) None) d
