-- Device: steps of the reading of a function's body, and of all bodies.
use Rattle.std.proofs.Common.{◌≡◌, ◌≢◌, ℕ, zero, suc, ◌+◌, ◌-◌, ◌<◌, ◌≤◌, Bool, true, false, not, ◌&&◌, ◌||◌, cond, List, [], ◌∷◌, ◌++◌, length, take, drop, map, get_or, Vec, Bor, Option, Some, None, refl, sym, ap, ◌∙◌, subst, append_assoc, append-nil, arith}
use Rattle.std.specs.Prelude.{reverse}
use Rattle.std.specs.Option.{option_map, option_and_then}
use Rattle.std.specs.Str.{bytes_eq}
use Rattle.std.specs.Global.{Global}
use Rattle.std.proofs.lemmas.List.{take_all, take_rest, reverse-reverse, length-map}
use Rattle.std.proofs.Math.ListN.{set}
use Rattle.cil_base.specs.declared.numbers.NameId.{NameId}
use Rattle.cil_base.specs.NamePool.{Interns}
use Rattle.type_graph.specs.declared.nodes.Node.{Node}
use Rattle.type_graph.specs.Shapes.{Shape}
use Rattle.type_graph.specs.Arena.{Graph}
use Rattle.type_graph.specs.Growth.{Grows}
use Rattle.type_graph.proofs.ShapeLaws.{kept}
use Rattle.type_graph.proofs.GrowthLaws.{grows_twice}
use Rattle.cil_tree.specs.declared.globals.Body.{Body as SeenBody}
use Rattle.cil_tree.specs.declared.globals.GlobalDecl.{GlobalDecl as SeenGlobal}
use Rattle.cil_tree.specs.declared.globals.GlobalDef.TheVariants as def
use Rattle.cil_tree.specs.declared.statements.Stmt.{Stmt as SeenStmt}
use Rattle.cil_tree.specs.Tree.{Stmts, Local, Body, Function, GlobalDecl}
use Rattle.cil_tree.specs.Names.{is_among, are_different, local_name_of}
use Rattle.cil_tree.specs.View.{text_at, local_of, stmts_of, body_of, global_of}
use Rattle.cil_text.specs.Allowed.{allowed}
use Rattle.cil_text.specs.Words.{Word, Semicolon}
use Rattle.cil_text.specs.ReadTypes.{Reading, Bases, Named, read_decl}
use Rattle.cil_text.specs.ReadExps.{Env, bases, is_base}
use Rattle.cil_text.specs.ReadStmts.{Head, Nested, is_label, label_text, read_heads, read_nested}
use Rattle.cil_text.specs.ReadAggregates.{Lines, LinesReading}
use Rattle.cil_text.specs.ReadGlobals.{Declaration, local_first, read_locals, params_of, labels_in, are_apart, body_with, read_stmts, read_body, Bodies, body_first, begins_with, behind_first, split_block, header_names, read_bodies}
use Rattle.cil_text.specs.ReadGlobals as reading
use Rattle.cil_reader.specs.declared.globals.Declaration.{Declaration as SeenDeclaration}
use Rattle.cil_reader.specs.declared.heads.Head.{Head as SeenHead}
use Rattle.cil_scan.specs.declared.words.Word.{Word as Seen}
use Rattle.cil_reader.specs.declared.bodies.Locals.{Locals}
use Rattle.cil_declarators.specs.declared.stop.Stop.{Stop}
use Rattle.cil_declarators.specs.declared.stop.Stop.TheVariants.{NotCil, WantOfMemory}
use Rattle.cil_declarators.specs.Gives.{Fails}
use Rattle.cil_scan.specs.Said.{all_said, all_lines}
use Rattle.cil_reader.specs.Settings.{locals_of, with_locals, outside}
use Rattle.cil_declarators.specs.Fresh.{with_new}
use Rattle.cil_forms.specs.Forms.{is_end}
use Rattle.cil_reader.specs.Heads.{heads_of, HeadsKnown}
use Rattle.cil_reader.specs.Nesting.{waiting, StmtsKnown, Carries}
use Rattle.cil_reader.specs.Pools.{KeepsNames}
use Rattle.cil_reader.specs.Globals.{EachDeclared, behind_line, declaration_of, declarations_of, globals_of, GlobalsKnown}
use Rattle.cil_reader.specs.Bodies.{texts_of, TextsKnown, next_names, named_local, apart, first_apart, local_behind, locals_behind, label_behind, LocalsKnown, whole_stmts, body_made, BodyKnown, Own, with_lines, own_body, with_body, with_bodies, bodies_from, bodied}
use Rattle.cil_reader.proofs.BodyLaws.{one_more, dropped, past, lines_at, texts_more, taken, texts_asked, different_more, not_different, text_cases, text_among, behind_cases, named_more, apart_more, not_apart}
use Rattle.cil_reader.proofs.CarryLaws.{turned_known}
use Rattle.cil_reader.proofs.GlobalLaws.{declared_there}
use Rattle.cil_reader.proofs.PoolLaws.{pool_same, pool_twice}

-- a line with a local

abbrev local_from : Shape → Option (List ℕ) → List Word → Option Local
local_from s None ws = None
local_from s (Some name) ws = cond (is_end ws) (Some (named_local name s)) None

local_is : (s : Shape) (n : Option (List ℕ)) (ws : List Word) → reading.local_of ((s, n), ws) ≡ local_from s n ws
local_is s (Some name) (Semicolon ∷ []) = refl
local_is s (Some name) (Semicolon ∷ w ∷ ws) = refl
local_is s (Some name) _ = refl
local_is s None _ = refl

pub one_taken : (o : Reading Named) (ls ms : List Local) (s : Shape) (n : Option (List ℕ)) (name : List ℕ) (ws : List Word) → o ≡ Some ((s, n), ws) → is_end ws ≡ true → n ≡ Some name → ms ≡ ls →
    option_and_then (local_behind ls) (option_and_then reading.local_of o) ≡ local_behind ms (named_local name s)
one_taken o ls ms s n name ws e end is same =
    ap (λ p. option_and_then (local_behind ls) (option_and_then reading.local_of p)) e
    ∙ ap (option_and_then (local_behind ls)) (local_is s n ws ∙ ap (λ m. local_from s m ws) is ∙ ap (λ b. cond b (Some (named_local name s)) None) end)
    ∙ ap (λ xs. local_behind xs (named_local name s)) (sym same)

never_ended : (s : Shape) (n : Option (List ℕ)) (ws : List Word) → is_end ws ≡ false → local_from s n ws ≡ None
never_ended s None ws e = refl
never_ended s (Some name) ws e = ap (λ b. cond b (Some (named_local name s)) None) e

pub one_open : (o : Reading Named) (ls : List Local) (s : Shape) (n : Option (List ℕ)) (ws : List Word) → o ≡ Some ((s, n), ws) → is_end ws ≡ false → option_and_then (local_behind ls) (option_and_then reading.local_of o) ≡ None
one_open o ls s n ws e end =
    ap (λ p. option_and_then (local_behind ls) (option_and_then reading.local_of p)) e ∙ ap (option_and_then (local_behind ls)) (local_is s n ws ∙ never_ended s n ws end)

pub one_nameless : (o : Reading Named) (ls : List Local) (s : Shape) (n : Option (List ℕ)) (ws : List Word) → o ≡ Some ((s, n), ws) → n ≡ None → option_and_then (local_behind ls) (option_and_then reading.local_of o) ≡ None
one_nameless o ls s n ws e is =
    ap (λ p. option_and_then (local_behind ls) (option_and_then reading.local_of p)) e ∙ ap (option_and_then (local_behind ls)) (local_is s n ws ∙ ap (λ m. local_from s m ws) is)

pub one_fails : (o : Reading Named) (ls : List Local) → o ≡ None → option_and_then (local_behind ls) (option_and_then reading.local_of o) ≡ None
one_fails o ls e = ap (λ p. option_and_then (local_behind ls) (option_and_then reading.local_of p)) e

-- locals behind others

abbrev local_line : Bases → ℕ → List Word → Option Local
local_line bases n ws = option_and_then reading.local_of (read_decl bases n ws)

abbrev locals_on : Bases → ℕ → Lines → Option Local → LinesReading (List Local)
locals_on bases n rest o = option_and_then (λ (x : Local). option_map (local_first x) (read_locals bases n rest)) o

locals_line : (bases : Bases) (n : ℕ) (ws : List Word) (rest : Lines) → is_base ws ≡ true → read_locals bases n (ws ∷ rest) ≡ locals_on bases n rest (local_line bases n ws)
locals_line bases n ws rest e = ap (λ b. cond b (locals_on bases n rest (local_line bases n ws)) (Some ([], ws ∷ rest))) e

no_local : (bases : Bases) (n : ℕ) (ws : List Word) (rest : Lines) → is_base ws ≡ false → read_locals bases n (ws ∷ rest) ≡ Some ([], ws ∷ rest)
no_local bases n ws rest e = ap (λ b. cond b (locals_on bases n rest (local_line bases n ws)) (Some ([], ws ∷ rest))) e

behind_first_local : (ls : List Local) (x : Local) (o : LinesReading (List Local)) → option_map (locals_behind ls) (option_map (local_first x) o) ≡ option_map (locals_behind (ls ++ x ∷ [])) o
behind_first_local ls x None = refl
behind_first_local ls x (Some r) = ap (λ (zs : List Local). Some (zs, r.1)) (sym (append_assoc ls (x ∷ []) r.0))

pub locals_next : (bases : Bases) (n : ℕ) (ls ms : List Local) (ws : List Word) (rest : Lines) (whole : LinesReading (List Local)) → is_base ws ≡ true →
    option_and_then (local_behind ls) (option_and_then reading.local_of (read_decl bases n ws)) ≡ Some ms → option_map (locals_behind ls) (read_locals bases n (ws ∷ rest)) ≡ whole → option_map (locals_behind ms) (read_locals bases n rest) ≡ whole
locals_next bases n ls ms ws rest whole base e inv = by (local_line bases n ws) refl e
  where
    by : (o : Option Local) → local_line bases n ws ≡ o → option_and_then (local_behind ls) o ≡ Some ms → option_map (locals_behind ms) (read_locals bases n rest) ≡ whole
    by None f g = absurd (cc g)
    by (Some x) f g =
        ap (λ zs. option_map (locals_behind zs) (read_locals bases n rest)) (behind_cases ls ms x g).1
        ∙ sym (behind_first_local ls x (read_locals bases n rest))
        ∙ sym (ap (option_map (locals_behind ls)) (locals_line bases n ws rest base ∙ ap (locals_on bases n rest) f))
        ∙ inv

pub apart_next : (ls ms : List Local) (o : Option Local) → apart ls ≡ true → option_and_then (local_behind ls) o ≡ Some ms → apart ms ≡ true
apart_next ls ms None d e = absurd (cc e)
apart_next ls ms (Some x) d e = apart_more ls ms x d e

abbrev told_apart : LinesReading (List Local) → LinesReading (List Local)
told_apart o = option_and_then (allowed first_apart) o

pub locals_fail : (bases : Bases) (n : ℕ) (ls : List Local) (ws : List Word) (rest : Lines) (whole : LinesReading (List Local)) → is_base ws ≡ true →
    option_and_then (local_behind ls) (option_and_then reading.local_of (read_decl bases n ws)) ≡ None → option_map (locals_behind ls) (read_locals bases n (ws ∷ rest)) ≡ whole → option_and_then (allowed first_apart) whole ≡ None
locals_fail bases n ls ws rest whole base e inv = ap told_apart (sym inv ∙ ap (option_map (locals_behind ls)) (locals_line bases n ws rest base)) ∙ by (local_line bases n ws) e
  where
    on : (x : Local) → local_behind ls x ≡ None → (o : LinesReading (List Local)) → told_apart (option_map (locals_behind ls) (option_map (local_first x) o)) ≡ None
    on x g None = refl
    on x g (Some r) = ap (λ b. cond b (Some (ls ++ x ∷ r.0, r.1)) None) (not_apart ls r.0 x g)

    by : (o : Option Local) → option_and_then (local_behind ls) o ≡ None → told_apart (option_map (locals_behind ls) (locals_on bases n rest o)) ≡ None
    by None g = refl
    by (Some x) g = on x g (read_locals bases n rest)

nothing_more : (ls : List Local) (rest : Lines) → apart ls ≡ true → told_apart (option_map (locals_behind ls) (Some ([], rest))) ≡ Some (ls, rest)
nothing_more ls rest d = ap (λ zs. told_apart (Some (zs, rest))) (append-nil ls) ∙ ap (λ b. cond b (Some (ls, rest)) None) d

pub locals_end : (bases : Bases) (n : ℕ) (ls : List Local) (ws : List Word) (rest : Lines) (whole : LinesReading (List Local)) → is_base ws ≡ false → apart ls ≡ true →
    option_map (locals_behind ls) (read_locals bases n (ws ∷ rest)) ≡ whole → option_and_then (allowed first_apart) whole ≡ Some (ls, ws ∷ rest)
locals_end bases n ls ws rest whole base d inv = ap told_apart (sym inv ∙ ap (option_map (locals_behind ls)) (no_local bases n ws rest base)) ∙ nothing_more ls (ws ∷ rest) d

pub locals_done : (bases : Bases) (n : ℕ) (ls : List Local) (lines : Lines) (whole : LinesReading (List Local)) → lines ≡ [] → apart ls ≡ true →
    option_map (locals_behind ls) (read_locals bases n lines) ≡ whole → option_and_then (allowed first_apart) whole ≡ Some (ls, lines)
locals_done bases n ls lines whole none d inv =
    ap told_apart (sym inv ∙ ap (λ zs. option_map (locals_behind ls) (read_locals bases n zs)) none) ∙ nothing_more ls [] d ∙ ap (λ zs. Some (ls, zs)) (sym none)

-- the same in the loop

pub locals_step : (env now : Env) (n : ℕ) (ls ms : List Local) (lines : List (Vec Seen Global)) (i : ℕ) (d : Vec Seen Global) (whole : LinesReading (List Local)) → i < length lines → now ≡ env → is_base (all_said (get_or lines i d).items) ≡ true →
    option_and_then (local_behind ls) (option_and_then reading.local_of (read_decl (bases now) n (all_said (get_or lines i d).items))) ≡ Some ms → option_map (locals_behind ls) (read_locals (bases env) n (all_lines (drop i lines))) ≡ whole →
    option_map (locals_behind ms) (read_locals (bases env) n (all_lines (drop (i + 1) lines))) ≡ whole
locals_step env now n ls ms lines i d whole less same base e inv =
    locals_next (bases env) n ls ms (all_said (get_or lines i d).items) (all_lines (drop (i + 1) lines)) whole base
    (ap (λ (v : Env). option_and_then (local_behind ls) (option_and_then reading.local_of (read_decl (bases v) n (all_said (get_or lines i d).items)))) (sym same) ∙ e)
    (ap (λ zs. option_map (locals_behind ls) (read_locals (bases env) n zs)) (sym (lines_at lines i d less)) ∙ inv)

pub locals_refused : (env now : Env) (n : ℕ) (ls : List Local) (lines : List (Vec Seen Global)) (i : ℕ) (d : Vec Seen Global) (whole : LinesReading (List Local)) → i < length lines → now ≡ env → is_base (all_said (get_or lines i d).items) ≡ true →
    option_and_then (local_behind ls) (option_and_then reading.local_of (read_decl (bases now) n (all_said (get_or lines i d).items))) ≡ None → option_map (locals_behind ls) (read_locals (bases env) n (all_lines (drop i lines))) ≡ whole →
    option_and_then (allowed first_apart) whole ≡ None
locals_refused env now n ls lines i d whole less same base e inv =
    locals_fail (bases env) n ls (all_said (get_or lines i d).items) (all_lines (drop (i + 1) lines)) whole base
    (ap (λ (v : Env). option_and_then (local_behind ls) (option_and_then reading.local_of (read_decl (bases v) n (all_said (get_or lines i d).items)))) (sym same) ∙ e)
    (ap (λ zs. option_map (locals_behind ls) (read_locals (bases env) n zs)) (sym (lines_at lines i d less)) ∙ inv)

pub locals_stop : (env : Env) (n : ℕ) (ls : List Local) (lines : List (Vec Seen Global)) (i : ℕ) (d : Vec Seen Global) (whole : LinesReading (List Local)) → i < length lines → is_base (all_said (get_or lines i d).items) ≡ false → apart ls ≡ true →
    option_map (locals_behind ls) (read_locals (bases env) n (all_lines (drop i lines))) ≡ whole → option_and_then (allowed first_apart) whole ≡ Some (ls, all_lines (take (length lines - i) (drop i lines)))
locals_stop env n ls lines i d whole less base apart_ inv =
    locals_end (bases env) n ls (all_said (get_or lines i d).items) (all_lines (drop (i + 1) lines)) whole base apart_ (ap (λ zs. option_map (locals_behind ls) (read_locals (bases env) n zs)) (sym (lines_at lines i d less)) ∙ inv)
    ∙ ap (λ (zs : Lines). Some (ls, zs)) (sym (lines_at lines i d less) ∙ ap all_lines (sym (take_rest lines i)))

pub locals_over : (env : Env) (n : ℕ) (ls : List Local) (lines : List (Vec Seen Global)) (i : ℕ) (whole : LinesReading (List Local)) → length lines ≤ i → apart ls ≡ true →
    option_map (locals_behind ls) (read_locals (bases env) n (all_lines (drop i lines))) ≡ whole → option_and_then (allowed first_apart) whole ≡ Some (ls, all_lines (take (length lines - length lines) (drop (length lines) lines)))
locals_over env n ls lines i whole end apart_ inv =
    locals_done (bases env) n ls (all_lines (drop i lines)) whole (ap all_lines (past lines i end)) apart_ inv
    ∙ ap (λ (zs : Lines). Some (ls, zs)) (ap all_lines (past lines i end ∙ sym (past lines (length lines) (omega arith)) ∙ sym (take_rest lines (length lines))))

-- labels

pub texts_added : (p q : List (List ℕ)) (names : List NameId) (ts us : List (List ℕ)) (text : List ℕ) (n : NameId) → TextsKnown p names ts → Interns p q text n.0 → with_new ts text ≡ Some us → TextsKnown q (names ++ n ∷ []) us
texts_added p q names ts us text n k i e = subst (TextsKnown q (names ++ n ∷ [])) (sym (text_cases ts us text e).1) (texts_asked p q names ts text n k i)

pub different_next : (ts us : List (List ℕ)) (t : List ℕ) → are_different ts ≡ true → with_new ts t ≡ Some us → are_different us ≡ true
different_next ts us t d e = let c = text_cases ts us t e in ap are_different c.1 ∙ different_more ts t d c.0

pub label_none : (ts : List (List ℕ)) (ws : List Word) → is_label ws ≡ false → label_behind ts ws ≡ Some ts
label_none ts ws e = ap (λ v. cond v (with_new ts (label_text ws)) (Some ts)) e

pub label_taken : (ts : List (List ℕ)) (t : List ℕ) (ws : List Word) → is_label ws ≡ true → t ≡ label_text ws → label_behind ts ws ≡ with_new ts t
label_taken ts t ws e is = ap (λ v. cond v (with_new ts (label_text ws)) (Some ts)) e ∙ ap (with_new ts) (sym is)

pub label_different : (ts us : List (List ℕ)) (ws : List Word) → are_different ts ≡ true → label_behind ts ws ≡ Some us → are_different us ≡ true
label_different ts us ws d e = by (is_label ws) e
  where
    by : (b : Bool) → cond b (with_new ts (label_text ws)) (Some ts) ≡ Some us → are_different us ≡ true
    by true f = different_next ts us (label_text ws) d f
    by false f = let same : us ≡ ts = cc in ap are_different same ∙ d

label_more : (ts us rest : List (List ℕ)) (ws : List Word) → label_behind ts ws ≡ Some us → us ++ rest ≡ ts ++ cond (is_label ws) (label_text ws ∷ rest) rest
label_more ts us rest ws e = by (is_label ws) e
  where
    by : (b : Bool) → cond b (with_new ts (label_text ws)) (Some ts) ≡ Some us → us ++ rest ≡ ts ++ cond b (label_text ws ∷ rest) rest
    by true f = ap (λ zs. zs ++ rest) (text_cases ts us (label_text ws) f).1 ∙ append_assoc ts (label_text ws ∷ []) rest
    by false f = let same : us ≡ ts = cc in ap (λ zs. zs ++ rest) same

label_differs : (ts rest : List (List ℕ)) (ws : List Word) → label_behind ts ws ≡ None → are_different (ts ++ cond (is_label ws) (label_text ws ∷ rest) rest) ≡ false
label_differs ts rest ws e = by (is_label ws) e
  where
    by : (b : Bool) → cond b (with_new ts (label_text ws)) (Some ts) ≡ None → are_different (ts ++ cond b (label_text ws ∷ rest) rest) ≡ false
    by true f = not_different ts rest (label_text ws) (text_among ts (label_text ws) f)
    by false f = absurd (cc f)

pub labels_step : (lines : List (Vec Seen Global)) (i : ℕ) (d : Vec Seen Global) (ts us whole : List (List ℕ)) → i < length lines → label_behind ts (all_said (get_or lines i d).items) ≡ Some us →
    ts ++ labels_in (all_lines (drop i lines)) ≡ whole → us ++ labels_in (all_lines (drop (i + 1) lines)) ≡ whole
labels_step lines i d ts us whole less e inv =
    label_more ts us (labels_in (all_lines (drop (i + 1) lines))) (all_said (get_or lines i d).items) e ∙ ap (λ zs. ts ++ labels_in zs) (sym (lines_at lines i d less)) ∙ inv

pub labels_fail : (lines : List (Vec Seen Global)) (i : ℕ) (d : Vec Seen Global) (ts whole : List (List ℕ)) → i < length lines → label_behind ts (all_said (get_or lines i d).items) ≡ None →
    ts ++ labels_in (all_lines (drop i lines)) ≡ whole → allowed are_different whole ≡ None
labels_fail lines i d ts whole less e inv =
    let ws = all_said (get_or lines i d).items in
    let rest = labels_in (all_lines (drop (i + 1) lines)) in
    let all = ts ++ cond (is_label ws) (label_text ws ∷ rest) rest in
    ap (allowed are_different) (sym inv ∙ ap (λ zs. ts ++ labels_in zs) (lines_at lines i d less))
    ∙ ap (λ b. cond b (Some all) None) (label_differs ts rest ws e)

pub labels_end : (lines : List (Vec Seen Global)) (i : ℕ) (ts whole : List (List ℕ)) → length lines ≤ i → are_different ts ≡ true → ts ++ labels_in (all_lines (drop i lines)) ≡ whole → allowed are_different whole ≡ Some ts
labels_end lines i ts whole end d inv =
    ap (allowed are_different) (sym inv ∙ ap (λ ls. ts ++ labels_in (all_lines ls)) (past lines i end) ∙ append-nil ts) ∙ ap (λ b. cond b (Some ts) None) d

-- names with numbers

pub texts_next : (p q : List (List ℕ)) (names : List NameId) (xs : List (Bor (List ℕ))) (i : ℕ) (d : Bor (List ℕ)) (n : NameId) → i < length xs → TextsKnown p names (texts_of (take i xs)) → Interns p q (get_or xs i d).now n.0 → TextsKnown q (names ++ n ∷ []) (texts_of (take (i + 1) xs))
texts_next p q names xs i d n less k j =
    subst (TextsKnown q (names ++ n ∷ [])) (sym (ap texts_of (taken xs i d less) ∙ texts_more (take i xs) (get_or xs i d))) (texts_asked p q names (texts_of (take i xs)) (get_or xs i d).now n k j)

pub texts_end : (p : List (List ℕ)) (names : List NameId) (xs : List (Bor (List ℕ))) (i : ℕ) → length xs ≤ i → TextsKnown p names (texts_of (take i xs)) → TextsKnown p names (texts_of xs)
texts_end p names xs i end k = subst (λ ys. TextsKnown p names (texts_of ys)) (take_all i xs end) k

pub texts_given : (p : List (List ℕ)) (names : List NameId) (ts : List (List ℕ)) → TextsKnown p names ts → Some ts ≡ Some (map (text_at p) names)
texts_given p names ts k = ap Some (sym (k.steady p (pool_same p)))

-- statements

nested_of : (nodes : List Node) (n : ℕ) (hs ks : List SeenHead) (o : Option (List Head)) → o ≡ Some (heads_of nodes hs) → ks ≡ reverse hs → option_and_then (read_nested n) o ≡ read_nested n (waiting nodes ks)
nested_of nodes n hs ks o e turned = ap (option_and_then (read_nested n)) e ∙ ap (λ js. read_nested n (heads_of nodes js)) (sym (reverse-reverse hs)) ∙ ap (λ js. read_nested n (waiting nodes js)) (sym turned)

pub stmts_give : (nodes : List Node) (n : ℕ) (hs ks js : List SeenHead) (o : Option (List Head)) (ss : Stmts) → o ≡ Some (heads_of nodes hs) → ks ≡ reverse hs → read_nested n (waiting nodes ks) ≡ Some (ss, waiting nodes js) → js ≡ [] →
    option_and_then whole_stmts (option_and_then (read_nested n) o) ≡ Some ss
stmts_give nodes n hs ks js o ss e turned is none = ap (option_and_then whole_stmts) (nested_of nodes n hs ks o e turned ∙ is) ∙ ap (λ zs. whole_stmts (ss, waiting nodes zs)) none

some_left : (nodes : List Node) (ss : Stmts) (js : List SeenHead) → js ≢ [] → whole_stmts (ss, waiting nodes js) ≡ None
some_left nodes ss js some = by (reverse js) refl
  where
    by : (ks : List SeenHead) → reverse js ≡ ks → whole_stmts (ss, heads_of nodes ks) ≡ None
    by [] e = absurd (some (sym (reverse-reverse js) ∙ ap reverse e))
    by (k ∷ ks) e = refl

pub stmts_open : (nodes : List Node) (n : ℕ) (hs ks js : List SeenHead) (o : Option (List Head)) (ss : Stmts) → o ≡ Some (heads_of nodes hs) → ks ≡ reverse hs → read_nested n (waiting nodes ks) ≡ Some (ss, waiting nodes js) → js ≢ [] →
    option_and_then whole_stmts (option_and_then (read_nested n) o) ≡ None
stmts_open nodes n hs ks js o ss e turned is some = ap (option_and_then whole_stmts) (nested_of nodes n hs ks o e turned ∙ is) ∙ some_left nodes ss js some

pub stmts_fail : (nodes : List Node) (n : ℕ) (hs ks : List SeenHead) (o : Option (List Head)) → o ≡ Some (heads_of nodes hs) → ks ≡ reverse hs → read_nested n (waiting nodes ks) ≡ None →
    option_and_then whole_stmts (option_and_then (read_nested n) o) ≡ None
stmts_fail nodes n hs ks o e turned is = ap (option_and_then whole_stmts) (nested_of nodes n hs ks o e turned ∙ is)

pub heads_fail : (n : ℕ) (o : Option (List Head)) → o ≡ None → option_and_then whole_stmts (option_and_then (read_nested n) o) ≡ None
heads_fail n o e = ap (λ p. option_and_then whole_stmts (option_and_then (read_nested n) p)) e

pub stmts_known : (g : Graph) (hs ks js : List SeenHead) (ss : List SeenStmt) → HeadsKnown g hs → ks ≡ reverse hs → Carries g ks js ss → StmtsKnown g ss
stmts_known g hs ks js ss k turned c = (c.on (subst (HeadsKnown g) (sym turned) (turned_known g hs k))).1

-- a body

abbrev body_from : List (List ℕ) → List Local → List (List ℕ) → Stmts → Option Body
body_from params ls labels ss = cond (are_apart ls labels) (Some (body_made params ls labels ss)) None

body_stmts : (params : List (List ℕ)) (ls : List Local) (labels : List (List ℕ)) (o : Nested) → option_and_then (body_with params ls labels) o ≡ option_and_then (body_from params ls labels) (option_and_then whole_stmts o)
body_stmts params ls labels None = refl
body_stmts params ls labels (Some (ss, [])) = refl
body_stmts params ls labels (Some (ss, h ∷ hs)) = refl

abbrev stmts_in : Env → ℕ → List Local → List (List ℕ) → Lines → Option Stmts
stmts_in env n ls labels rest = option_and_then whole_stmts (option_and_then (read_nested n) (read_heads (with_locals env ls) labels n rest))

abbrev body_of_locals : Env → ℕ → List (List ℕ) → List Local × Lines → Option Body
body_of_locals env n params l = option_and_then (body_from params l.0 (labels_in l.1)) (stmts_in env n l.0 (labels_in l.1) l.1)

abbrev body_by : Env → ℕ → Shape → List (List ℕ) → Lines → Option Body
body_by env n type params lines = option_and_then (body_of_locals env n params) (option_map (locals_behind (reading.param_locals (params_of type) params)) (read_locals (bases env) n lines))

body_on : (env : Env) (n : ℕ) (params : List (List ℕ)) (ps : List Local) (o : LinesReading (List Local)) →
    option_and_then (λ (l : List Local × Lines). read_stmts (outside env) n params (ps ++ l.0) l.1) o ≡ option_and_then (body_of_locals env n params) (option_map (locals_behind ps) o)
body_on env n params ps None = refl
body_on env n params ps (Some l) = body_stmts params (ps ++ l.0) (labels_in l.1) (option_and_then (read_nested n) (read_heads (with_locals env (ps ++ l.0)) (labels_in l.1) n l.1))

body_is : (env : Env) (n : ℕ) (type : Shape) (params : List (List ℕ)) (lines : Lines) → read_body (outside env) n type params lines ≡ body_by env n type params lines
body_is env n type params lines = body_on env n params (reading.param_locals (params_of type) params) (read_locals (bases env) n lines)

-- a body whose locals are not apart is none
not_apart_none : (env : Env) (n : ℕ) (params : List (List ℕ)) (l : List Local × Lines) → apart l.0 ≡ false → body_of_locals env n params l ≡ None
not_apart_none env n params l e = by (stmts_in env n l.0 (labels_in l.1) l.1)
  where
    by : (o : Option Stmts) → option_and_then (body_from params l.0 (labels_in l.1)) o ≡ None
    by None = refl
    by (Some ss) = ap (λ b. cond (b && are_different (labels_in l.1)) (Some (body_made params l.0 (labels_in l.1) ss)) None) e

apart_by : (env : Env) (n : ℕ) (params : List (List ℕ)) (o : LinesReading (List Local)) → option_and_then (body_of_locals env n params) o ≡ option_and_then (body_of_locals env n params) (told_apart o)
apart_by env n params None = refl
apart_by env n params (Some l) = by (apart l.0) refl
  where
    by : (b : Bool) → apart l.0 ≡ b → body_of_locals env n params l ≡ option_and_then (body_of_locals env n params) (cond b (Some l) None)
    by true e = refl
    by false e = not_apart_none env n params l e

allowed_is : {A : Type 0} (f : A → Bool) (x y : A) → allowed f x ≡ Some y → (f x ≡ true) × (y ≡ x)
allowed_is f x y e = by (f x) refl e
  where
    by : (b : Bool) → f x ≡ b → cond b (Some x) None ≡ Some y → (f x ≡ true) × (y ≡ x)
    by true a g = let same : y ≡ x = cc in (a, same)
    by false a g = absurd (cc g)

allowed_not : {A : Type 0} (f : A → Bool) (x : A) → allowed f x ≡ None → f x ≡ false
allowed_not f x e = by (f x) refl e
  where
    by : (b : Bool) → f x ≡ b → cond b (Some x) None ≡ None → f x ≡ false
    by true a g = absurd (cc g)
    by false a g = a

body_read : (env : Env) (n : ℕ) (type : Shape) (params : List (List ℕ)) (lines : Lines) (ps : List Local) → allowed apart (reading.param_locals (params_of type) params) ≡ Some ps →
    read_body (outside env) n type params lines ≡ option_and_then (body_of_locals env n params) (told_apart (option_map (locals_behind ps) (read_locals (bases env) n lines)))
body_read env n type params lines ps p =
    let same = (allowed_is apart (reading.param_locals (params_of type) params) ps p).1 in
    body_is env n type params lines
    ∙ ap (λ zs. option_and_then (body_of_locals env n params) (option_map (locals_behind zs) (read_locals (bases env) n lines))) (sym same)
    ∙ apart_by env n params (option_map (locals_behind ps) (read_locals (bases env) n lines))

told_first : (o : LinesReading (List Local)) (l : List Local × Lines) → told_apart o ≡ Some l → apart l.0 ≡ true
told_first None l e = absurd (cc e)
told_first (Some k) l e = let c = allowed_is first_apart k l e in ap first_apart c.1 ∙ c.0

pub body_gives : (env : Env) (n : ℕ) (type : Shape) (params labels : List (List ℕ)) (lines rest : Lines) (ps ls : List Local) (ss : Stmts) →
    allowed apart (reading.param_locals (params_of type) params) ≡ Some ps → option_and_then (allowed first_apart) (option_map (locals_behind ps) (read_locals (bases env) n lines)) ≡ Some (ls, rest) → allowed are_different (labels_in rest) ≡ Some labels →
    option_and_then whole_stmts (option_and_then (read_nested n) (read_heads (with_locals env ls) labels n rest)) ≡ Some ss →
    read_body (outside env) n type params lines ≡ Some (body_made params ls labels ss)
body_gives env n type params labels lines rest ps ls ss p l b s =
    let c = allowed_is are_different (labels_in rest) labels b in
    let d = told_first (option_map (locals_behind ps) (read_locals (bases env) n lines)) (ls, rest) l in
    body_read env n type params lines ps p
    ∙ ap (option_and_then (body_of_locals env n params)) l
    ∙ ap (λ ts. option_and_then (body_from params ls ts) (stmts_in env n ls ts rest)) (sym c.1)
    ∙ ap (option_and_then (body_from params ls labels)) s
    ∙ ap (λ v. cond (v && are_different labels) (Some (body_made params ls labels ss)) None) d
    ∙ ap (λ v. cond v (Some (body_made params ls labels ss)) None) (ap are_different c.1 ∙ c.0)

pub body_stmts_fail : (env : Env) (n : ℕ) (type : Shape) (params labels : List (List ℕ)) (lines rest : Lines) (ps ls : List Local) →
    allowed apart (reading.param_locals (params_of type) params) ≡ Some ps → option_and_then (allowed first_apart) (option_map (locals_behind ps) (read_locals (bases env) n lines)) ≡ Some (ls, rest) → allowed are_different (labels_in rest) ≡ Some labels →
    option_and_then whole_stmts (option_and_then (read_nested n) (read_heads (with_locals env ls) labels n rest)) ≡ None →
    read_body (outside env) n type params lines ≡ None
body_stmts_fail env n type params labels lines rest ps ls p l b s =
    let c = allowed_is are_different (labels_in rest) labels b in
    body_read env n type params lines ps p
    ∙ ap (option_and_then (body_of_locals env n params)) l
    ∙ ap (λ ts. option_and_then (body_from params ls ts) (stmts_in env n ls ts rest)) (sym c.1)
    ∙ ap (option_and_then (body_from params ls labels)) s

pub body_labels_fail : (env : Env) (n : ℕ) (type : Shape) (params : List (List ℕ)) (lines rest : Lines) (ps ls : List Local) →
    allowed apart (reading.param_locals (params_of type) params) ≡ Some ps → option_and_then (allowed first_apart) (option_map (locals_behind ps) (read_locals (bases env) n lines)) ≡ Some (ls, rest) → allowed are_different (labels_in rest) ≡ None →
    read_body (outside env) n type params lines ≡ None
body_labels_fail env n type params lines rest ps ls p l b =
    body_read env n type params lines ps p ∙ ap (option_and_then (body_of_locals env n params)) l ∙ by (stmts_in env n ls (labels_in rest) rest)
  where
    and_false : (v : Bool) → v && false ≡ false
    and_false true = refl
    and_false false = refl

    by : (o : Option Stmts) → option_and_then (body_from params ls (labels_in rest)) o ≡ None
    by None = refl
    by (Some ss) = ap (λ v. cond v (Some (body_made params ls (labels_in rest) ss)) None) (ap (λ v. apart ls && v) (allowed_not are_different (labels_in rest) b) ∙ and_false (apart ls))

pub body_locals_fail : (env : Env) (n : ℕ) (type : Shape) (params : List (List ℕ)) (lines : Lines) (ps : List Local) →
    allowed apart (reading.param_locals (params_of type) params) ≡ Some ps → option_and_then (allowed first_apart) (option_map (locals_behind ps) (read_locals (bases env) n lines)) ≡ None → read_body (outside env) n type params lines ≡ None
body_locals_fail env n type params lines ps p l = body_read env n type params lines ps p ∙ ap (option_and_then (body_of_locals env n params)) l

among_front : (ts us : List (List ℕ)) (t : List ℕ) → is_among ts t ≡ true → is_among (ts ++ us) t ≡ true
among_front [] us t e = absurd (cc e)
among_front (x ∷ ts) us t e = by (bytes_eq t x) (λ h. among_front ts us t h) e
  where
    by : (b : Bool) → (is_among ts t ≡ true → is_among (ts ++ us) t ≡ true) → b || is_among ts t ≡ true → b || is_among (ts ++ us) t ≡ true
    by true more h = refl
    by false more h = more h

texts_differ : (ts us : List (List ℕ)) → are_different ts ≡ false → are_different (ts ++ us) ≡ false
texts_differ [] us e = absurd (cc e)
texts_differ (t ∷ ts) us e = by (is_among ts t) (λ h. texts_differ ts us h) refl e
  where
    and_false : (v : Bool) → v && false ≡ false
    and_false true = refl
    and_false false = refl

    by : (b : Bool) → (are_different ts ≡ false → are_different (ts ++ us) ≡ false) → is_among ts t ≡ b → not b && are_different ts ≡ false → not (is_among (ts ++ us) t) && are_different (ts ++ us) ≡ false
    by true more h f = ap (λ v. not v && are_different (ts ++ us)) (among_front ts us t h)
    by false more h f = ap (λ v. not (is_among (ts ++ us) t) && v) (more f) ∙ and_false (not (is_among (ts ++ us) t))

front_differs : (ls ms : List Local) → apart ls ≡ false → apart (ls ++ ms) ≡ false
front_differs ls ms e = ap are_different (named_more ls ms) ∙ texts_differ (map local_name_of ls) (map local_name_of ms) e

never_apart : (env : Env) (n : ℕ) (params : List (List ℕ)) (ps : List Local) → apart ps ≡ false → (o : LinesReading (List Local)) → option_and_then (body_of_locals env n params) (option_map (locals_behind ps) o) ≡ None
never_apart env n params ps e None = refl
never_apart env n params ps e (Some l) = not_apart_none env n params (ps ++ l.0, l.1) (front_differs ps l.0 e)

pub body_params_fail : (env : Env) (n : ℕ) (type : Shape) (params : List (List ℕ)) (lines : Lines) → allowed apart (reading.param_locals (params_of type) params) ≡ None → read_body (outside env) n type params lines ≡ None
body_params_fail env n type params lines p =
    body_is env n type params lines
    ∙ never_apart env n params (reading.param_locals (params_of type) params) (allowed_not apart (reading.param_locals (params_of type) params) p) (read_locals (bases env) n lines)

-- a body that is seen as one tree

pub body_seen : (e g : Graph) (p q : List (List ℕ)) (b : SeenBody) (x : Locals) (params labels : List (List ℕ)) (ls : List Local) (ss : Stmts) → Grows e g → KeepsNames p q →
    LocalsKnown e p x → b.locals ≡ x.all → ls ≡ locals_of e.nodes x.names → TextsKnown q b.params.items params → TextsKnown q b.labels.items labels → ss ≡ stmts_of g.nodes b.stmts.items →
    Some (body_made params ls labels ss) ≡ Some (body_of g.nodes q b)
body_seen e g p q b x params labels ls ss r l known same seen ps ts is =
    ap (λ (zs : List (List ℕ)). Some (body_made zs ls labels ss)) (sym (ps.steady q (pool_same q)))
    ∙ ap (λ (zs : List Local). Some (body_made (map (text_at q) b.params.items) zs labels ss)) (seen ∙ sym (ap (λ v. map (local_of g.nodes q) v.items) same ∙ known.steady g q r l))
    ∙ ap (λ (zs : List (List ℕ)). Some (body_made (map (text_at q) b.params.items) (map (local_of g.nodes q) b.locals.items) zs ss)) (sym (ts.steady q (pool_same q)))
    ∙ ap (λ (zs : Stmts). Some (body_made (map (text_at q) b.params.items) (map (local_of g.nodes q) b.locals.items) (map (text_at q) b.labels.items) zs)) is

pub body_known : (e g : Graph) (p q : List (List ℕ)) (b : SeenBody) (x : Locals) (params labels : List (List ℕ)) → Grows e g → KeepsNames p q →
    LocalsKnown e p x → b.locals ≡ x.all → TextsKnown q b.params.items params → TextsKnown q b.labels.items labels → StmtsKnown g b.stmts.items → BodyKnown g q b
body_known e g p q b x params labels r l known same ps ts ss = record {
  steady = λ h later s m.
      ap (λ (zs : List (List ℕ)). body_made zs (map (local_of h.nodes later) b.locals.items) (map (text_at later) b.labels.items) (stmts_of h.nodes b.stmts.items)) (ps.steady later m ∙ sym (ps.steady q (pool_same q)))
      ∙ ap (λ (zs : List Local). body_made (map (text_at q) b.params.items) zs (map (text_at later) b.labels.items) (stmts_of h.nodes b.stmts.items))
      (ap (λ v. map (local_of h.nodes later) v.items) same ∙ known.steady h later (grows_twice e g h r s) (pool_twice p q later l m) ∙ sym (ap (λ v. map (local_of g.nodes q) v.items) same ∙ known.steady g q r l))
      ∙ ap (λ (zs : List (List ℕ)). body_made (map (text_at q) b.params.items) (map (local_of g.nodes q) b.locals.items) zs (stmts_of h.nodes b.stmts.items)) (ts.steady later m ∙ sym (ts.steady q (pool_same q)))
      ∙ ap (λ (zs : Stmts). body_made (map (text_at q) b.params.items) (map (local_of g.nodes q) b.locals.items) (map (text_at q) b.labels.items) zs) (ss.steady h s);
}

-- a body that is a function's own

pub own_gives : (env : Env) (n : ℕ) (d : Declaration) (header : List (List ℕ)) (lines xs ys : Lines) (b : Body) → begins_with header d.name ≡ true → split_block 0 (behind_line lines) ≡ (xs, ys) →
    read_body env n d.type (behind_first header) xs ≡ Some b → own_body env n d header lines ≡ Some (Some (b, ys))
own_gives env n d header lines xs ys b own split e =
    ap (λ v. cond v (option_map (with_lines (split_block 0 (behind_line lines)).1) (read_body env n d.type (behind_first header) (split_block 0 (behind_line lines)).0)) (Some None)) own
    ∙ ap (λ (r : Lines × Lines). option_map (with_lines r.1) (read_body env n d.type (behind_first header) r.0)) split
    ∙ ap (option_map (with_lines ys)) e

pub own_fails : (env : Env) (n : ℕ) (d : Declaration) (header : List (List ℕ)) (lines xs ys : Lines) → begins_with header d.name ≡ true → split_block 0 (behind_line lines) ≡ (xs, ys) →
    read_body env n d.type (behind_first header) xs ≡ None → own_body env n d header lines ≡ None
own_fails env n d header lines xs ys own split e =
    ap (λ v. cond v (option_map (with_lines (split_block 0 (behind_line lines)).1) (read_body env n d.type (behind_first header) (split_block 0 (behind_line lines)).0)) (Some None)) own
    ∙ ap (λ (r : Lines × Lines). option_map (with_lines r.1) (read_body env n d.type (behind_first header) r.0)) split
    ∙ ap (option_map (with_lines ys)) e

pub not_own : (env : Env) (n : ℕ) (d : Declaration) (header : List (List ℕ)) (lines : Lines) → begins_with header d.name ≡ false → own_body env n d header lines ≡ Some None
not_own env n d header lines own = ap (λ v. cond v (option_map (with_lines (split_block 0 (behind_line lines)).1) (read_body env n d.type (behind_first header) (split_block 0 (behind_line lines)).0)) (Some None)) own

pub own_step : (env : Env) (n : ℕ) (d : Declaration) (header params : List (List ℕ)) (lines inner : List (Vec Seen Global)) (count : ℕ) (b : Body) → begins_with header d.name ≡ true → all_lines inner ≡ behind_line (all_lines lines) → inner ≡ drop 1 lines →
    split_block 0 (all_lines inner) ≡ (all_lines (take count inner), behind_line (all_lines (drop count inner))) → params ≡ behind_first header → read_body env n d.type params (all_lines (take count inner)) ≡ Some b →
    own_body env n d header (all_lines lines) ≡ Some (Some (b, behind_line (all_lines (drop count (drop 1 lines)))))
own_step env n d header params lines inner count b own at is split names e =
    own_gives env n d header (all_lines lines) (all_lines (take count inner)) (behind_line (all_lines (drop count (drop 1 lines)))) b own
    (ap (split_block 0) (sym at) ∙ split ∙ ap (λ (ls : List (Vec Seen Global)). (all_lines (take count inner), behind_line (all_lines (drop count ls)))) is)
    (ap (λ ps. read_body env n d.type ps (all_lines (take count inner))) (sym names) ∙ e)

pub own_refused : (env : Env) (n : ℕ) (d : Declaration) (header params : List (List ℕ)) (lines inner : List (Vec Seen Global)) (count : ℕ) → begins_with header d.name ≡ true → all_lines inner ≡ behind_line (all_lines lines) →
    split_block 0 (all_lines inner) ≡ (all_lines (take count inner), behind_line (all_lines (drop count inner))) → params ≡ behind_first header → read_body env n d.type params (all_lines (take count inner)) ≡ None →
    own_body env n d header (all_lines lines) ≡ None
own_refused env n d header params lines inner count own at split names e =
    own_fails env n d header (all_lines lines) (all_lines (take count inner)) (behind_line (all_lines (drop count inner))) own (ap (split_block 0) (sym at) ∙ split)
    (ap (λ ps. read_body env n d.type ps (all_lines (take count inner))) (sym names) ∙ e)

pub begins_none : (hs : List (Bor (List ℕ))) (name : List ℕ) → length hs ≡ 0 → false ≡ begins_with (texts_of hs) name
begins_none [] name e = refl
begins_none (h ∷ hs) name e = absurd (omega (arith, e))

pub begins_other : (hs : List (Bor (List ℕ))) (h : Bor (List ℕ)) (name : List ℕ) → length hs ≢ 0 → bytes_eq (get_or hs 0 h).now name ≡ false → false ≡ begins_with (texts_of hs) name
begins_other [] h name some e = absurd (some refl)
begins_other (x ∷ hs) h name some e = sym e

pub begins_own : (hs : List (Bor (List ℕ))) (h : Bor (List ℕ)) (name : List ℕ) → length hs ≢ 0 → bytes_eq (get_or hs 0 h).now name ≡ true → true ≡ begins_with (texts_of hs) name
begins_own [] h name some e = absurd (some refl)
begins_own (x ∷ hs) h name some e = sym e

pub first_none : (hs : List (Bor (List ℕ))) → length hs ≡ 0 → texts_of hs ≡ behind_first (texts_of hs)
first_none [] e = refl
first_none (h ∷ hs) e = absurd (omega (arith, e))

pub first_some : (hs : List (Bor (List ℕ))) → length hs ≢ 0 → texts_of (take (length hs - 1) (drop 1 hs)) ≡ behind_first (texts_of hs)
first_some [] some = absurd (some refl)
first_some (h ∷ hs) some = ap texts_of (take_rest (h ∷ hs) 1)

-- all bodies

abbrev bodies_behind : Env → ℕ → List Declaration → Lines → Own → LinesReading Bodies
bodies_behind env n ds lines None = option_map (body_first None) (read_bodies env n ds lines)
bodies_behind env n ds lines (Some r) = option_map (body_first (Some r.0)) (read_bodies env n ds r.1)

own_on : (env : Env) (n : ℕ) (ds : List Declaration) (lines ys : Lines) (o : Option Body) →
    option_and_then (λ (b : Body). option_map (body_first (Some b)) (read_bodies env n ds ys)) o ≡ option_and_then (bodies_behind env n ds lines) (option_map (with_lines ys) o)
own_on env n ds lines ys None = refl
own_on env n ds lines ys (Some b) = refl

own_by : (env : Env) (n : ℕ) (ds : List Declaration) (lines ys : Lines) (o : Option Body) (v : Bool) →
    cond v (option_and_then (λ (b : Body). option_map (body_first (Some b)) (read_bodies env n ds ys)) o) (option_map (body_first None) (read_bodies env n ds lines))
    ≡ option_and_then (bodies_behind env n ds lines) (cond v (option_map (with_lines ys) o) (Some None))
own_by env n ds lines ys o true = own_on env n ds lines ys o
own_by env n ds lines ys o false = refl

bodies_is : (env : Env) (n : ℕ) (d : Declaration) (ds : List Declaration) (lines : Lines) → read_bodies env n (d ∷ ds) lines ≡ option_and_then (bodies_behind env n ds lines) (own_body env n d (next_names lines) lines)
bodies_is env n d ds [] = refl
bodies_is env n d ds (line ∷ lines) =
    own_by env n ds (line ∷ lines) (split_block 0 lines).1 (read_body env n d.type (behind_first (header_names line)) (split_block 0 lines).0) (begins_with (header_names line) d.name)

unchanged : (i : ℕ) (xs : List GlobalDecl) (bs : Bodies) → i < length xs → bodies_from i xs (None ∷ bs) ≡ bodies_from (suc i) xs bs
unchanged i [] bs h = absurd (omega (arith, h))
unchanged zero (x ∷ xs) bs h = refl
unchanged (suc i) (x ∷ xs) bs h = ap (λ ys. x ∷ ys) (unchanged i xs bs (omega (arith, h)))

changed : (i : ℕ) (xs : List GlobalDecl) (b : Body) (bs : Bodies) (d : GlobalDecl) → i < length xs → bodies_from i xs (Some b ∷ bs) ≡ bodies_from (suc i) (set xs i (with_body (get_or xs i d) (Some b))) bs
changed i [] b bs d h = absurd (omega (arith, h))
changed zero (x ∷ xs) b bs d h = refl
changed (suc i) (x ∷ xs) b bs d h = ap (λ ys. x ∷ ys) (changed i xs b bs d (omega (arith, h)))

none_bodied : (i : ℕ) (xs : List GlobalDecl) → i < length xs → (o : LinesReading Bodies) → option_map (bodied i xs) (option_map (body_first None) o) ≡ option_map (bodied (suc i) xs) o
none_bodied i xs h None = refl
none_bodied i xs h (Some r) = ap (λ (ys : List GlobalDecl). Some (ys, r.1)) (unchanged i xs r.0 h)

some_bodied : (i : ℕ) (xs : List GlobalDecl) (b : Body) (d : GlobalDecl) → i < length xs → (o : LinesReading Bodies) → option_map (bodied i xs) (option_map (body_first (Some b)) o) ≡ option_map (bodied (suc i) (set xs i (with_body (get_or xs i d) (Some b)))) o
some_bodied i xs b d h None = refl
some_bodied i xs b d h (Some r) = ap (λ (ys : List GlobalDecl). Some (ys, r.1)) (changed i xs b r.0 d h)

declared_at : (nodes : List Node) (ds : List SeenDeclaration) (i : ℕ) (d : SeenDeclaration) → i < length ds → declarations_of nodes (drop i ds) ≡ declaration_of nodes (get_or ds i d) ∷ declarations_of nodes (drop (i + 1) ds)
declared_at nodes ds i d h = ap (declarations_of nodes) (dropped ds i d h)

pub bodies_none : (env : Env) (n : ℕ) (nodes : List Node) (ds : List SeenDeclaration) (i : ℕ) (d : SeenDeclaration) (xs : List GlobalDecl) (lines : Lines) (header : List (List ℕ)) (whole : Option (List GlobalDecl × Lines)) → i < length ds → i < length xs → header ≡ next_names lines →
    own_body env n (declaration_of nodes (get_or ds i d)) header lines ≡ Some None → option_map (bodied i xs) (read_bodies env n (declarations_of nodes (drop i ds)) lines) ≡ whole →
    option_map (bodied (i + 1) xs) (read_bodies env n (declarations_of nodes (drop (i + 1) ds)) lines) ≡ whole
bodies_none env n nodes ds i d xs lines header whole h k names own inv =
    let x = declaration_of nodes (get_or ds i d) in
    let rest = declarations_of nodes (drop (i + 1) ds) in
    ap (λ j. option_map (bodied j xs) (read_bodies env n rest lines)) (sym (one_more i))
    ∙ sym (none_bodied i xs k (read_bodies env n rest lines))
    ∙ sym (ap (option_map (bodied i xs)) (ap (λ zs. read_bodies env n zs lines) (declared_at nodes ds i d h) ∙ bodies_is env n x rest lines ∙ ap (λ ns. option_and_then (bodies_behind env n rest lines) (own_body env n x ns lines)) (sym names) ∙ ap (option_and_then (bodies_behind env n rest lines)) own))
    ∙ inv

pub bodies_some : (env : Env) (n : ℕ) (nodes : List Node) (ds : List SeenDeclaration) (i : ℕ) (d : SeenDeclaration) (xs : List GlobalDecl) (y : GlobalDecl) (lines behind : Lines) (b : Body) (header : List (List ℕ)) (whole : Option (List GlobalDecl × Lines)) → i < length ds → i < length xs → header ≡ next_names lines →
    own_body env n (declaration_of nodes (get_or ds i d)) header lines ≡ Some (Some (b, behind)) → option_map (bodied i xs) (read_bodies env n (declarations_of nodes (drop i ds)) lines) ≡ whole →
    option_map (bodied (i + 1) (set xs i (with_body (get_or xs i y) (Some b)))) (read_bodies env n (declarations_of nodes (drop (i + 1) ds)) behind) ≡ whole
bodies_some env n nodes ds i d xs y lines behind b header whole h k names own inv =
    let x = declaration_of nodes (get_or ds i d) in
    let rest = declarations_of nodes (drop (i + 1) ds) in
    ap (λ j. option_map (bodied j (set xs i (with_body (get_or xs i y) (Some b)))) (read_bodies env n rest behind)) (sym (one_more i))
    ∙ sym (some_bodied i xs b y k (read_bodies env n rest behind))
    ∙ sym (ap (option_map (bodied i xs)) (ap (λ zs. read_bodies env n zs lines) (declared_at nodes ds i d h) ∙ bodies_is env n x rest lines ∙ ap (λ ns. option_and_then (bodies_behind env n rest lines) (own_body env n x ns lines)) (sym names) ∙ ap (option_and_then (bodies_behind env n rest lines)) own))
    ∙ inv

pub bodies_fail : (env : Env) (n : ℕ) (nodes : List Node) (ds : List SeenDeclaration) (i : ℕ) (d : SeenDeclaration) (xs : List GlobalDecl) (lines : Lines) (header : List (List ℕ)) (whole : Option (List GlobalDecl × Lines)) → i < length ds → header ≡ next_names lines →
    own_body env n (declaration_of nodes (get_or ds i d)) header lines ≡ None → option_map (bodied i xs) (read_bodies env n (declarations_of nodes (drop i ds)) lines) ≡ whole → whole ≡ None
bodies_fail env n nodes ds i d xs lines header whole h names own inv =
    let x = declaration_of nodes (get_or ds i d) in
    let rest = declarations_of nodes (drop (i + 1) ds) in
    sym inv
    ∙ ap (option_map (bodied i xs)) (ap (λ zs. read_bodies env n zs lines) (declared_at nodes ds i d h) ∙ bodies_is env n x rest lines ∙ ap (λ ns. option_and_then (bodies_behind env n rest lines) (own_body env n x ns lines)) (sym names) ∙ ap (option_and_then (bodies_behind env n rest lines)) own)

no_bodies : (xs : List GlobalDecl) → with_bodies xs [] ≡ xs
no_bodies [] = refl
no_bodies (x ∷ xs) = refl

none_left : (i : ℕ) (xs : List GlobalDecl) → bodies_from i xs [] ≡ xs
none_left zero xs = no_bodies xs
none_left (suc i) [] = refl
none_left (suc i) (x ∷ xs) = ap (λ ys. x ∷ ys) (none_left i xs)

pub bodies_end : (env : Env) (n : ℕ) (nodes : List Node) (ds : List SeenDeclaration) (i : ℕ) (xs : List GlobalDecl) (lines : Lines) (whole : Option (List GlobalDecl × Lines)) → length ds ≤ i →
    option_map (bodied i xs) (read_bodies env n (declarations_of nodes (drop i ds)) lines) ≡ whole → whole ≡ Some (xs, lines)
bodies_end env n nodes ds i xs lines whole h inv =
    sym inv ∙ ap (λ zs. option_map (bodied i xs) (read_bodies env n (declarations_of nodes zs) lines)) (past ds i h) ∙ ap (λ (ys : List GlobalDecl). Some (ys, lines)) (none_left i xs)

-- globals while bodies are read

pub globals_later : (g h : Graph) (p q : List (List ℕ)) (xs : List SeenGlobal) → Grows g h → KeepsNames p q → GlobalsKnown g p xs → GlobalsKnown h q xs
globals_later g h p q xs r l k = record { steady = λ i later s m. k.steady i later (grows_twice g h i r s) (pool_twice p q later l m) ∙ sym (k.steady h q r l) }

pub globals_same : (g h : Graph) (p q : List (List ℕ)) (xs : List SeenGlobal) → Grows g h → KeepsNames p q → GlobalsKnown g p xs → globals_of h.nodes q xs ≡ globals_of g.nodes p xs
globals_same g h p q xs r l k = k.steady h q r l

abbrev pub bodied_global : SeenGlobal → SeenBody → SeenGlobal
bodied_global x b = record x { def = def.Body b }

pub globals_set : (nodes : List Node) (pool : List (List ℕ)) (xs : List SeenGlobal) (i : ℕ) (d : SeenGlobal) (y : GlobalDecl) (b : SeenBody) → i < length xs →
    globals_of nodes pool (set xs i (bodied_global (get_or xs i d) b)) ≡ set (globals_of nodes pool xs) i (with_body (get_or (globals_of nodes pool xs) i y) (Some (body_of nodes pool b)))
globals_set nodes pool [] i d y b h = absurd (omega (arith, h))
globals_set nodes pool (x ∷ xs) zero d y b h = refl
globals_set nodes pool (x ∷ xs) (suc i) d y b h = ap (λ zs. global_of nodes pool x ∷ zs) (globals_set nodes pool xs i d y b (omega (arith, h)))

set_same : (g h : Graph) (p q : List (List ℕ)) (xs : List SeenGlobal) (i : ℕ) (d : SeenGlobal) (b : SeenBody) → globals_of h.nodes q xs ≡ globals_of g.nodes p xs → body_of h.nodes q b ≡ body_of g.nodes p b →
    globals_of h.nodes q (set xs i (bodied_global (get_or xs i d) b)) ≡ globals_of g.nodes p (set xs i (bodied_global (get_or xs i d) b))
set_same g h p q [] i d b e f = refl
set_same g h p q (x ∷ xs) zero d b e f =
    let first : global_of h.nodes q x ≡ global_of g.nodes p x = cc in
    let more : globals_of h.nodes q xs ≡ globals_of g.nodes p xs = cc in
    ap (λ (z : GlobalDecl). record z { definition = Function (body_of h.nodes q b) } ∷ globals_of h.nodes q xs) first
    ∙ ap (λ (c : Body). record (global_of g.nodes p x) { definition = Function c } ∷ globals_of h.nodes q xs) f
    ∙ ap (λ zs. record (global_of g.nodes p x) { definition = Function (body_of g.nodes p b) } ∷ zs) more
set_same g h p q (x ∷ xs) (suc i) d b e f =
    let first : global_of h.nodes q x ≡ global_of g.nodes p x = cc in
    let more : globals_of h.nodes q xs ≡ globals_of g.nodes p xs = cc in
    ap (λ z. z ∷ globals_of h.nodes q (set xs i (bodied_global (get_or xs i d) b))) first ∙ ap (λ zs. global_of g.nodes p x ∷ zs) (set_same g h p q xs i d b more f)

pub set_known : (g : Graph) (p : List (List ℕ)) (xs : List SeenGlobal) (i : ℕ) (d : SeenGlobal) (b : SeenBody) → GlobalsKnown g p xs → BodyKnown g p b → GlobalsKnown g p (set xs i (bodied_global (get_or xs i d) b))
set_known g p xs i d b k c = record { steady = λ h later r l. set_same g h p later xs i d b (k.steady h later r l) (c.steady h later r l) }

pub declared_same : (g h : Graph) (d : SeenDeclaration) → Grows g h → d.ty.0 < length g.nodes → declaration_of h.nodes d ≡ declaration_of g.nodes d
declared_same g h d r less = ap (λ (s : Shape). record { name = d.name.now; type = s; internal = d.internal }) (kept g h d.ty.0 r less)

pub declared_all : (g h : Graph) (ds : List SeenDeclaration) → Grows g h → EachDeclared (length g.nodes) ds → declarations_of h.nodes ds ≡ declarations_of g.nodes ds
declared_all g h [] r e = refl
declared_all g h (d ∷ ds) r e = ap (λ (x : Declaration). x ∷ declarations_of h.nodes ds) (declared_same g h d r e.0) ∙ ap (λ (xs : List Declaration). declaration_of g.nodes d ∷ xs) (declared_all g h ds r e.1)

pub fails_by : {A B : Type 0} (x : Stop) (o : Option A) (p : Option B) → (o ≡ None → p ≡ None) → Fails x o → Fails x p
fails_by NotCil o p f e = f e
fails_by WantOfMemory o p f e = tt

-- one declaration more in the loop

pub none_step : (e g h : Graph) (p q : List (List ℕ)) (env : Env) (n : ℕ) (ds : List SeenDeclaration) (i : ℕ) (d : SeenDeclaration) (xs : List SeenGlobal) (lines : Lines) (header : List (List ℕ)) (whole : Option (List GlobalDecl × Lines)) → i < length ds → length xs ≡ length ds →
    Grows e g → (get_or ds i d).ty.0 < length e.nodes → Grows g h → KeepsNames p q → GlobalsKnown g p xs → header ≡ next_names lines → own_body env n (declaration_of g.nodes (get_or ds i d)) header lines ≡ Some None →
    option_map (bodied i (globals_of g.nodes p xs)) (read_bodies env n (declarations_of e.nodes (drop i ds)) lines) ≡ whole →
    option_map (bodied (i + 1) (globals_of h.nodes q xs)) (read_bodies env n (declarations_of e.nodes (drop (i + 1) ds)) lines) ≡ whole
none_step e g h p q env n ds i d xs lines header whole less size r there s l k names own inv =
    ap (λ (ys : List GlobalDecl). option_map (bodied (i + 1) ys) (read_bodies env n (declarations_of e.nodes (drop (i + 1) ds)) lines)) (globals_same g h p q xs s l k)
    ∙ bodies_none env n e.nodes ds i d (globals_of g.nodes p xs) lines header whole less (omega (arith, less, size, length-map xs (global_of g.nodes p))) names
    (ap (λ (x : Declaration). own_body env n x header lines) (sym (declared_same e g (get_or ds i d) r there)) ∙ own) inv

pub some_step : (e g h : Graph) (p q : List (List ℕ)) (env : Env) (n : ℕ) (ds : List SeenDeclaration) (i : ℕ) (d : SeenDeclaration) (xs zs : List SeenGlobal) (y : SeenGlobal) (b : SeenBody) (lines behind : Lines) (header : List (List ℕ)) (whole : Option (List GlobalDecl × Lines)) → i < length ds → length xs ≡ length ds →
    Grows e g → (get_or ds i d).ty.0 < length e.nodes → Grows g h → KeepsNames p q → GlobalsKnown g p xs → header ≡ next_names lines → own_body env n (declaration_of g.nodes (get_or ds i d)) header lines ≡ Some (Some (body_of h.nodes q b, behind)) →
    zs ≡ set xs i (bodied_global (get_or xs i y) b) → option_map (bodied i (globals_of g.nodes p xs)) (read_bodies env n (declarations_of e.nodes (drop i ds)) lines) ≡ whole →
    option_map (bodied (i + 1) (globals_of h.nodes q zs)) (read_bodies env n (declarations_of e.nodes (drop (i + 1) ds)) behind) ≡ whole
some_step e g h p q env n ds i d xs zs y b lines behind header whole less size r there s l k names own is inv =
    let z : GlobalDecl = global_of g.nodes p y in
    let rest = read_bodies env n (declarations_of e.nodes (drop (i + 1) ds)) behind in
    ap (λ (ys : List SeenGlobal). option_map (bodied (i + 1) (globals_of h.nodes q ys)) rest) is
    ∙ ap (λ (ys : List GlobalDecl). option_map (bodied (i + 1) ys) rest) (globals_set h.nodes q xs i y z b (omega (arith, less, size)))
    ∙ ap (λ (ys : List GlobalDecl). option_map (bodied (i + 1) (set ys i (with_body (get_or ys i z) (Some (body_of h.nodes q b))))) rest) (globals_same g h p q xs s l k)
    ∙ bodies_some env n e.nodes ds i d (globals_of g.nodes p xs) z lines behind (body_of h.nodes q b) header whole less (omega (arith, less, size, length-map xs (global_of g.nodes p))) names
    (ap (λ (x : Declaration). own_body env n x header lines) (sym (declared_same e g (get_or ds i d) r there)) ∙ own) inv

pub some_known : (g h : Graph) (p q : List (List ℕ)) (xs zs : List SeenGlobal) (i : ℕ) (y : SeenGlobal) (b : SeenBody) → Grows g h → KeepsNames p q → GlobalsKnown g p xs → BodyKnown h q b → zs ≡ set xs i (bodied_global (get_or xs i y) b) → GlobalsKnown h q zs
some_known g h p q xs zs i y b r l k c is = subst (GlobalsKnown h q) (sym is) (set_known h q xs i y b (globals_later g h p q xs r l k) c)

pub fail_step : (e g : Graph) (env : Env) (n : ℕ) (ds : List SeenDeclaration) (i : ℕ) (d : SeenDeclaration) (xs : List GlobalDecl) (lines : Lines) (header : List (List ℕ)) (whole : Option (List GlobalDecl × Lines)) → i < length ds →
    Grows e g → (get_or ds i d).ty.0 < length e.nodes → header ≡ next_names lines → own_body env n (declaration_of g.nodes (get_or ds i d)) header lines ≡ None →
    option_map (bodied i xs) (read_bodies env n (declarations_of e.nodes (drop i ds)) lines) ≡ whole → whole ≡ None
fail_step e g env n ds i d xs lines header whole less r there names own inv =
    bodies_fail env n e.nodes ds i d xs lines header whole less names (ap (λ (x : Declaration). own_body env n x header lines) (sym (declared_same e g (get_or ds i d) r there)) ∙ own) inv

-- the same with what the code has at hand

pub none_all : (e g h : Graph) (p q : List (List ℕ)) (env now : Env) (n : ℕ) (ds : List SeenDeclaration) (i : ℕ) (d : SeenDeclaration) (xs : List SeenGlobal) (lines : Lines) (header : List (List ℕ)) (whole : Option (List GlobalDecl × Lines)) (f : SeenBody × ℕ → Body × Lines) (o : Option (SeenBody × ℕ)) →
    i < length ds → length xs ≡ length ds → Grows e g → EachDeclared (length e.nodes) ds → Grows g h → KeepsNames p q → GlobalsKnown g p xs → header ≡ next_names lines → now ≡ env → o ≡ None →
    own_body now n (declaration_of g.nodes (get_or ds i d)) header lines ≡ Some (option_map f o) → option_map (bodied i (globals_of g.nodes p xs)) (read_bodies env n (declarations_of e.nodes (drop i ds)) lines) ≡ whole →
    option_map (bodied (i + 1) (globals_of h.nodes q xs)) (read_bodies env n (declarations_of e.nodes (drop (i + 1) ds)) lines) ≡ whole
none_all e g h p q env now n ds i d xs lines header whole f o less size r each s l k names same none own inv =
    none_step e g h p q env n ds i d xs lines header whole less size r (declared_there (length e.nodes) ds i d each less) s l k names
    (ap (λ (v : Env). own_body v n (declaration_of g.nodes (get_or ds i d)) header lines) (sym same) ∙ own ∙ ap (λ (v : Option (SeenBody × ℕ)). Some (option_map f v)) none) inv

pub some_all : (e g h : Graph) (p q : List (List ℕ)) (env now : Env) (n : ℕ) (ds : List SeenDeclaration) (i : ℕ) (d : SeenDeclaration) (xs zs : List SeenGlobal) (y : SeenGlobal) (b : SeenBody) (m : ℕ) (lines behind : Lines) (header : List (List ℕ)) (whole : Option (List GlobalDecl × Lines)) (at : ℕ → Lines) (o : Option (SeenBody × ℕ)) →
    i < length ds → length xs ≡ length ds → Grows e g → EachDeclared (length e.nodes) ds → Grows g h → KeepsNames p q → GlobalsKnown g p xs → header ≡ next_names lines → now ≡ env → o ≡ Some (b, m) →
    own_body now n (declaration_of g.nodes (get_or ds i d)) header lines ≡ Some (option_map (λ (x : SeenBody × ℕ). (body_of h.nodes q x.0, at x.1)) o) → zs ≡ set xs i (bodied_global (get_or xs i y) b) → behind ≡ at m →
    option_map (bodied i (globals_of g.nodes p xs)) (read_bodies env n (declarations_of e.nodes (drop i ds)) lines) ≡ whole →
    option_map (bodied (i + 1) (globals_of h.nodes q zs)) (read_bodies env n (declarations_of e.nodes (drop (i + 1) ds)) behind) ≡ whole
some_all e g h p q env now n ds i d xs zs y b m lines behind header whole at o less size r each s l k names same some own is later inv =
    ap (λ (ls : Lines). option_map (bodied (i + 1) (globals_of h.nodes q zs)) (read_bodies env n (declarations_of e.nodes (drop (i + 1) ds)) ls)) later
    ∙ some_step e g h p q env n ds i d xs zs y b lines (at m) header whole less size r (declared_there (length e.nodes) ds i d each less) s l k names
    (ap (λ (v : Env). own_body v n (declaration_of g.nodes (get_or ds i d)) header lines) (sym same) ∙ own ∙ ap (λ (v : Option (SeenBody × ℕ)). Some (option_map (λ (x : SeenBody × ℕ). (body_of h.nodes q x.0, at x.1)) v)) some) is inv

pub fail_all : (e g : Graph) (env now : Env) (n : ℕ) (ds : List SeenDeclaration) (i : ℕ) (d : SeenDeclaration) (xs : List GlobalDecl) (lines : Lines) (header : List (List ℕ)) (whole : Option (List GlobalDecl × Lines)) (x : Stop) → i < length ds → Grows e g → EachDeclared (length e.nodes) ds →
    header ≡ next_names lines → now ≡ env → Fails x (own_body now n (declaration_of g.nodes (get_or ds i d)) header lines) → option_map (bodied i xs) (read_bodies env n (declarations_of e.nodes (drop i ds)) lines) ≡ whole → Fails x whole
fail_all e g env now n ds i d xs lines header whole x less r each names same own inv =
    fails_by x (own_body now n (declaration_of g.nodes (get_or ds i d)) header lines) whole
    (λ none. fail_step e g env n ds i d xs lines header whole less r (declared_there (length e.nodes) ds i d each less) names (ap (λ (v : Env). own_body v n (declaration_of g.nodes (get_or ds i d)) header lines) (sym same) ∙ none) inv) own

-- a list that was lent as a slice

pub written_back : {A : Type 0} (n : ℕ) (xs ys : List A) → length xs ≡ length ys → n ≡ length ys → take n (xs ++ drop (length xs) ys) ≡ xs
written_back n xs ys e f = ap (λ zs. take n (xs ++ zs)) (past ys (length xs) (omega (arith, e))) ∙ ap (take n) (append-nil xs) ∙ take_all n xs (omega (arith, e, f))

pub given_back : {A : Type 0} (a b : A) → Some a ≡ Some b → b ≡ a
given_back a b e = cc
