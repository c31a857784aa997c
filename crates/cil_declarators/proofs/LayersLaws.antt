-- Device: steps of the readings of declarators.
use Rattle.std.proofs.Common.{◌≡◌, ◌≢◌, ℕ, zero, suc, Bool, true, false, cond, List, [], ◌∷◌, ◌++◌, Option, Some, None, refl, sym, ap, ◌∙◌, map, take, drop, length, ◌<◌, ◌≤◌, ◌-◌, ◌+◌, arith, length-append}
use Rattle.std.specs.Option.{option_map, option_and_then}
use Rattle.std.proofs.lemmas.List.{reverse-append}
use Rattle.cil_base.specs.declared.numbers.TypeId.{TypeId}
use Rattle.cil_base.specs.declared.operators.BinOp.TheVariants.{Mul}
use Rattle.type_graph.specs.Shapes.{Shape, Shapes, NoTypes, MoreTypes, PtrType, shape, shapes_of}
use Rattle.type_graph.specs.Arena.{Graph, EachType}
use Rattle.type_graph.specs.Growth.{Grows}
use Rattle.type_graph.proofs.ShapeLaws.{kept, shapes_of-same}
use Rattle.cil_tree.specs.Typing.{unqualified}
use Rattle.cil_text.specs.Words.{Word, VoidWord, LeftParen, RightParen, Comma, Operator}
use Rattle.cil_text.specs.ReadTypes.{Reading, skip_one, Mark, Group, Layer, Pointer, Elements, Called, Listed, Named, heads, is_star, is_suffix, is_ellipsis, closed, read_base, read_name, read_decl, declared_as, named_as, tails, popped, layer_first, listed_first, read_suffix, read_called, read_params, read_more, called, without_name, Bases}
use Rattle.cil_declarators.specs.declared.declarators.Mark.{Mark as SeenMark}
use Rattle.cil_declarators.specs.declared.declarators.Suffix.{Suffix}
use Rattle.cil_declarators.specs.declared.declarators.Suffix.TheVariants as suffix
use Rattle.cil_declarators.specs.declared.declarators.Follows.{Follows}
use Rattle.cil_declarators.specs.declared.declarators.Follows.TheVariants.{End, Variadic, Another}
use Rattle.cil_declarators.specs.declared.stop.Stop.{Stop}
use Rattle.cil_declarators.specs.declared.stop.Stop.TheVariants.{NotCil, WantOfMemory}
use Rattle.cil_declarators.specs.Gives.{Fails}
use Rattle.cil_scan.specs.declared.words.Word.{Word as Seen}
use Rattle.cil_scan.specs.Said.{all_said}
use Rattle.cil_declarators.specs.Layers.{mark_of, marks_of, head_of, layer_of, LayerBelow, read_parameter, built_from, behind_parameter, joined, listed_behind, wrapped, wrapped_from, more_behind, is_another, ParamRead, behind_those, param_more}
use Rattle.cil_forms.proofs.FormLaws.{said_behind, rest_of}
use Rattle.cil_forms.specs.Forms.{closing, void_alone}

abbrev heads_by : List Mark → List Word → Option Mark → List Mark × List Word
heads_by marks ws None = (marks, ws)
heads_by marks ws (Some m) = heads (m ∷ marks) (skip_one ws)

heads_is : (marks : List Mark) (ws : List Word) → heads marks ws ≡ heads_by marks ws (head_of ws)
heads_is marks (Operator Mul ∷ ws) = refl
heads_is marks (LeftParen ∷ ws) = by (is_star ws)
  where
    by : (v : Bool) → cond v (heads (Group ∷ marks) ws) (marks, LeftParen ∷ ws) ≡ heads_by marks (LeftParen ∷ ws) (cond v (Some Group) None)
    by true = refl
    by false = refl
heads_is marks _ = refl

pub marks_more : (marks : List SeenMark) (m : SeenMark) → marks_of (marks ++ m ∷ []) ≡ mark_of m ∷ marks_of marks
marks_more marks m = ap (map mark_of) (reverse-append marks (m ∷ []))

pub head_on : (marks : List SeenMark) (m : SeenMark) (words : List Seen) (at : ℕ) → Some (mark_of m) ≡ head_of (all_said (take (length words - at) (drop at words))) →
    heads (marks_of (marks ++ m ∷ [])) (all_said (drop (at + 1) words)) ≡ heads (marks_of marks) (all_said (drop at words))
head_on marks m words at e =
    ap (λ k. heads (marks_of (marks ++ m ∷ [])) (all_said (drop k words))) (one at)
    ∙ ap (λ ms. heads ms (all_said (drop (suc at) words))) (marks_more marks m)
    ∙ ap (heads (mark_of m ∷ marks_of marks)) (said_behind at words)
    ∙ ap (heads_by (marks_of marks) (all_said (drop at words))) (e ∙ ap (λ ws. head_of (all_said ws)) (rest_of words at))
    ∙ sym (heads_is (marks_of marks) (all_said (drop at words)))
  where
    one : (k : ℕ) → k + 1 ≡ suc k
    one k = omega arith

pub head_end : (marks : List Mark) (words : List Seen) (at : ℕ) → None ≡ head_of (all_said (take (length words - at) (drop at words))) →
    heads marks (all_said (drop at words)) ≡ (marks, all_said (take (length words - at) (drop at words)))
head_end marks words at e =
    heads_is marks (all_said (drop at words))
    ∙ ap (heads_by marks (all_said (drop at words))) (sym (e ∙ ap (λ ws. head_of (all_said ws)) (rest_of words at)))
    ∙ ap (λ ws. (marks, all_said ws)) (sym (rest_of words at))

-- declarations

pub decl_none : (bases : Bases) (left : ℕ) (ws : List Word) → left ≡ 0 → read_decl bases left ws ≡ None
decl_none bases zero ws e = refl
decl_none bases (suc n) ws e = absurd (omega (arith, e))

decl_next : (bases : Bases) (left : ℕ) (ws : List Word) → left ≢ 0 → read_decl bases left ws ≡ option_and_then (declared_as (read_parameter bases (left - 1)) (left - 1)) (read_base bases ws)
decl_next bases zero ws h = absurd (h refl)
decl_next bases (suc n) ws h = let e : suc n - 1 ≡ n = omega arith in ap (λ k. option_and_then (declared_as (read_parameter bases k) k) (read_base bases ws)) (sym e)

pub decl_step : (bases : Bases) (left : ℕ) (ws vs : List Word) (s : Shape) → left ≢ 0 → read_base bases ws ≡ Some (s, vs) → read_decl bases left ws ≡ declared_as (read_parameter bases (left - 1)) (left - 1) (s, vs)
decl_step bases left ws vs s h e = decl_next bases left ws h ∙ ap (option_and_then (declared_as (read_parameter bases (left - 1)) (left - 1))) e

pub decl_fails : (bases : Bases) (left : ℕ) (ws : List Word) → left ≢ 0 → read_base bases ws ≡ None → read_decl bases left ws ≡ None
decl_fails bases left ws h e = decl_next bases left ws h ∙ ap (option_and_then (declared_as (read_parameter bases (left - 1)) (left - 1))) e

abbrev Built : Type 0
Built = Option (List Layer × List Word)

named_by : (s : Shape) (name : Option (List ℕ)) (o : Built) → option_map (named_as s name) o ≡ option_map (λ (r : Shape × List Word). ((r.0, name), r.1)) (option_map (built_from s) o)
named_by s name None = refl
named_by s name (Some r) = refl

abbrev behind_heads : (List Word → Reading Shape) → ℕ → Shape → List Mark × List Word → Reading Named
behind_heads sub k s h = option_map (named_as s (read_name h.1).0) (tails sub k h.0 (read_name h.1).1)

pub named_gives : (sub : List Word → Reading Shape) (k : ℕ) (s t : Shape) (ws vs us rs : List Word) (ms : List Mark) (name : Option (List ℕ)) →
    (ms, vs) ≡ heads [] ws → (name, us) ≡ read_name vs → option_map (built_from s) (tails sub k ms us) ≡ Some (t, rs) → declared_as sub k (s, ws) ≡ Some ((t, name), rs)
named_gives sub k s t ws vs us rs ms name h x e =
    ap (behind_heads sub k s) (sym h)
    ∙ ap (λ (y : Option (List ℕ) × List Word). option_map (named_as s y.0) (tails sub k ms y.1)) (sym x)
    ∙ named_by s name (tails sub k ms us)
    ∙ ap (option_map (λ (r : Shape × List Word). ((r.0, name), r.1))) e

pub named_fails : (sub : List Word → Reading Shape) (k : ℕ) (s : Shape) (ws vs us : List Word) (ms : List Mark) (name : Option (List ℕ)) →
    (ms, vs) ≡ heads [] ws → (name, us) ≡ read_name vs → option_map (built_from s) (tails sub k ms us) ≡ None → declared_as sub k (s, ws) ≡ None
named_fails sub k s ws vs us ms name h x e =
    ap (behind_heads sub k s) (sym h)
    ∙ ap (λ (y : Option (List ℕ) × List Word). option_map (named_as s y.0) (tails sub k ms y.1)) (sym x)
    ∙ named_by s name (tails sub k ms us)
    ∙ ap (option_map (λ (r : Shape × List Word). ((r.0, name), r.1))) e

-- behind the name

pub tails_none : (sub : List Word → Reading Shape) (k : ℕ) (s : Shape) (ms : List Mark) (ws : List Word) → k ≡ 0 → option_map (built_from s) (tails sub k ms ws) ≡ None
tails_none sub zero s ms ws e = refl
tails_none sub (suc k) s ms ws e = absurd (omega (arith, e))

tails_next : (sub : List Word → Reading Shape) (k : ℕ) (ms : List Mark) (ws : List Word) → k ≢ 0 → tails sub k ms ws ≡
    cond (is_suffix ws) (option_and_then (λ (r : Layer × List Word). option_map (layer_first r.0) (tails sub (k - 1) ms r.1)) (read_suffix sub (k - 1) ws)) (popped (tails sub (k - 1)) ms ws)
tails_next sub zero ms ws h = absurd (h refl)
tails_next sub (suc k) ms ws h = let e : suc k - 1 ≡ k = omega arith in
    ap (λ j. cond (is_suffix ws) (option_and_then (λ (r : Layer × List Word). option_map (layer_first r.0) (tails sub j ms r.1)) (read_suffix sub j ws)) (popped (tails sub j) ms ws)) (sym e)

pub tails_popped : (sub : List Word → Reading Shape) (k : ℕ) (s : Shape) (ms : List Mark) (ws : List Word) → k ≢ 0 → is_suffix ws ≡ false → option_map (built_from s) (tails sub k ms ws) ≡ option_map (built_from s) (popped (tails sub (k - 1)) ms ws)
tails_popped sub k s ms ws h e = ap (option_map (built_from s)) (tails_next sub k ms ws h ∙ ap (λ v. cond v (option_and_then (λ (r : Layer × List Word). option_map (layer_first r.0) (tails sub (k - 1) ms r.1)) (read_suffix sub (k - 1) ws)) (popped (tails sub (k - 1)) ms ws)) e)

first_built : (l : Layer) (s : Shape) (o : Built) → option_map (built_from s) (option_map (layer_first l) o) ≡ option_map (wrapped_from l s) o
first_built l s None = refl
first_built Pointer s (Some r) = refl
first_built (Elements bound) s (Some r) = refl
first_built (Called params proto variadic) s (Some r) = refl

pub tails_suffix : (sub : List Word → Reading Shape) (k : ℕ) (s : Shape) (ms : List Mark) (ws vs : List Word) (l : Layer) → k ≢ 0 → is_suffix ws ≡ true → read_suffix sub (k - 1) ws ≡ Some (l, vs) →
    option_map (built_from s) (tails sub k ms ws) ≡ option_map (wrapped_from l s) (tails sub (k - 1) ms vs)
tails_suffix sub k s ms ws vs l h e r =
    ap (option_map (built_from s)) (tails_next sub k ms ws h ∙ ap (λ v. cond v (option_and_then (λ (r : Layer × List Word). option_map (layer_first r.0) (tails sub (k - 1) ms r.1)) (read_suffix sub (k - 1) ws)) (popped (tails sub (k - 1)) ms ws)) e
    ∙ ap (option_and_then (λ (r : Layer × List Word). option_map (layer_first r.0) (tails sub (k - 1) ms r.1))) r)
    ∙ first_built l s (tails sub (k - 1) ms vs)

pub suffix_fails : (sub : List Word → Reading Shape) (k : ℕ) (s : Shape) (ms : List Mark) (ws : List Word) → k ≢ 0 → is_suffix ws ≡ true → read_suffix sub (k - 1) ws ≡ None → option_map (built_from s) (tails sub k ms ws) ≡ None
suffix_fails sub k s ms ws h e r =
    ap (option_map (built_from s)) (tails_next sub k ms ws h ∙ ap (λ v. cond v (option_and_then (λ (r : Layer × List Word). option_map (layer_first r.0) (tails sub (k - 1) ms r.1)) (read_suffix sub (k - 1) ws)) (popped (tails sub (k - 1)) ms ws)) e
    ∙ ap (option_and_then (λ (r : Layer × List Word). option_map (layer_first r.0) (tails sub (k - 1) ms r.1))) r)

wrapped_by : (l : Layer) (s : Shape) (o : Built) → option_map (wrapped_from l s) o ≡ option_map (λ (r : Shape × List Word). (wrapped l r.0, r.1)) (option_map (built_from s) o)
wrapped_by l s None = refl
wrapped_by l s (Some r) = refl

pub wrapped_gives : (l : Layer) (s t : Shape) (o : Built) (rs : List Word) → option_map (built_from s) o ≡ Some (t, rs) → option_map (wrapped_from l s) o ≡ Some (wrapped l t, rs)
wrapped_gives l s t o rs e = wrapped_by l s o ∙ ap (option_map (λ (r : Shape × List Word). (wrapped l r.0, r.1))) e

pub wrapped_fails : (l : Layer) (s : Shape) (o : Built) → option_map (built_from s) o ≡ None → option_map (wrapped_from l s) o ≡ None
wrapped_fails l s o e = wrapped_by l s o ∙ ap (option_map (λ (r : Shape × List Word). (wrapped l r.0, r.1))) e

pub pointer_gives : (s t : Shape) (o : Built) (rs : List Word) → option_map (built_from s) o ≡ Some (t, rs) → option_map (built_from s) (option_map (layer_first Pointer) o) ≡ Some (PtrType unqualified t, rs)
pointer_gives s t o rs e = first_built Pointer s o ∙ wrapped_gives Pointer s t o rs e

pub pointer_fails : (s : Shape) (o : Built) → option_map (built_from s) o ≡ None → option_map (built_from s) (option_map (layer_first Pointer) o) ≡ None
pointer_fails s o e = first_built Pointer s o ∙ wrapped_fails Pointer s o e

-- growth

pub each_below : (n m : ℕ) (ts : List TypeId) → n ≤ m → EachType n ts → EachType m ts
each_below n m [] h e = tt
each_below n m (t ∷ ts) h e = (omega (arith, e.0), each_below n m ts h e.1)

pub no_fewer : (g h : Graph) → Grows g h → length g.nodes ≤ length h.nodes
no_fewer g h e = omega (arith, ap length e.nodes.1, length-append g.nodes e.nodes.0)

pub layer_below : (g h : Graph) (l : Suffix) → Grows g h → LayerBelow (length g.nodes) l → LayerBelow (length h.nodes) l
layer_below g h (suffix.Elements bound) e b = tt
layer_below g h (suffix.Called params proto variadic) e b = each_below (length g.nodes) (length h.nodes) params.items (no_fewer g h e) b

pub layer_kept : (g h : Graph) (l : Suffix) → Grows g h → LayerBelow (length g.nodes) l → layer_of h.nodes l ≡ layer_of g.nodes l
layer_kept g h (suffix.Elements bound) e b = refl
layer_kept g h (suffix.Called params proto variadic) e b =
    ap (λ ss. Called ss proto variadic) (shapes_of-same (shape h.nodes) (shape g.nodes) (length g.nodes) params.items b (λ k less. kept g h k e less))

-- parameters

joined_twice : (a b c : Shapes) → joined (joined a b) c ≡ joined a (joined b c)
joined_twice NoTypes b c = refl
joined_twice (MoreTypes s a) b c = ap (MoreTypes s) (joined_twice a b c)

behind_first : (ss : Shapes) (s : Shape) (o : Reading Listed) → option_map (listed_behind ss) (option_map (listed_first s) o) ≡ option_map (listed_behind (joined ss (MoreTypes s NoTypes))) o
behind_first ss s None = refl
behind_first ss s (Some r) = ap (λ x. Some ((x, r.0.1), r.1)) (sym (joined_twice ss (MoreTypes s NoTypes) r.0.0))

more_is : (again : List Word → Reading Listed) (ss : Shapes) (s : Shape) (ws : List Word) →
    option_map (listed_behind ss) (read_more again s ws) ≡ more_behind (joined ss (MoreTypes s NoTypes)) again (behind_parameter ws)
more_is again ss s (RightParen ∷ ws) = refl
more_is again ss s (Comma ∷ ws) = by (is_ellipsis ws)
  where
    end : (vs : List Word) → option_map (listed_behind ss) (closed (MoreTypes s NoTypes, true) vs) ≡ more_behind (joined ss (MoreTypes s NoTypes)) again (closed Variadic vs)
    end (RightParen ∷ vs) = refl
    end _ = refl

    by : (v : Bool) → option_map (listed_behind ss) (cond v (closed (MoreTypes s NoTypes, true) (skip_one ws)) (option_map (listed_first s) (again ws)))
        ≡ more_behind (joined ss (MoreTypes s NoTypes)) again (cond v (closed Variadic (skip_one ws)) (Some (Another, ws)))
    by true = end (skip_one ws)
    by false = behind_first ss s (again ws)
more_is again ss s _ = refl

abbrev params_on : (List Word → Reading Shape) → ℕ → ParamRead → Reading Listed
params_on sub k r = more_behind r.1.0 (read_params sub k) (Some (r.0, r.1.1))

params_is : (sub : List Word → Reading Shape) (k : ℕ) (ss : Shapes) (ws : List Word) → option_map (listed_behind ss) (read_params sub (suc k) ws) ≡ option_and_then (params_on sub k) (param_more ss (sub ws))
params_is sub k ss ws = by (sub ws)
  where
    end : (ts : Shapes) (o : Option (Follows × List Word)) → more_behind ts (read_params sub k) o ≡ option_and_then (params_on sub k) (option_map (behind_those ts) o)
    end ts None = refl
    end ts (Some r) = refl

    by : (o : Reading Shape) → option_map (listed_behind ss) (option_and_then (λ (r : Shape × List Word). read_more (read_params sub k) r.0 r.1) o) ≡ option_and_then (params_on sub k) (param_more ss o)
    by None = refl
    by (Some r) = more_is (read_params sub k) ss r.0 r.1 ∙ end (joined ss (MoreTypes r.0 NoTypes)) (behind_parameter r.1)

-- the loop over parameters, of which k may be left

abbrev pub params_left : (List Word → Reading Shape) → ℕ → Follows → Shapes → List Word → Reading Listed
params_left sub k f ss ws = more_behind ss (read_params sub k) (Some (f, ws))

params_by : (sub : List Word → Reading Shape) (k : ℕ) (f : Follows) (ss : Shapes) (ws : List Word) → 0 < k → is_another f ≡ true → params_left sub k f ss ws ≡ option_and_then (params_on sub (k - 1)) (param_more ss (sub ws))
params_by sub k End ss ws some more = absurd (cc more)
params_by sub k Variadic ss ws some more = absurd (cc more)
params_by sub k Another ss ws some more = let e : k ≡ suc (k - 1) = omega (arith, some) in ap (λ j. option_map (listed_behind ss) (read_params sub j ws)) e ∙ params_is sub (k - 1) ss ws

pub params_next : (sub : List Word → Reading Shape) (k : ℕ) (f g : Follows) (ss ts : Shapes) (ws vs : List Word) (whole : Reading Listed) → 0 < k → is_another f ≡ true → param_more ss (sub ws) ≡ Some (g, (ts, vs)) →
    params_left sub k f ss ws ≡ whole → params_left sub (k - 1) g ts vs ≡ whole
params_next sub k f g ss ts ws vs whole some more e inv = sym (params_by sub k f ss ws some more ∙ ap (option_and_then (params_on sub (k - 1))) e) ∙ inv

pub params_stop : (sub : List Word → Reading Shape) (k : ℕ) (f : Follows) (ss : Shapes) (ws : List Word) (whole : Reading Listed) (x : Stop) → 0 < k → is_another f ≡ true → Fails x (param_more ss (sub ws)) → params_left sub k f ss ws ≡ whole → Fails x (option_map called whole)
params_stop sub k f ss ws whole NotCil some more none inv = ap (option_map called) (sym inv ∙ params_by sub k f ss ws some more ∙ ap (option_and_then (params_on sub (k - 1))) none)
params_stop sub k f ss ws whole WantOfMemory some more none inv = tt

pub params_over : (sub : List Word → Reading Shape) (k : ℕ) (f : Follows) (ss : Shapes) (ws : List Word) (whole : Reading Listed) → k ≡ 0 → f ≡ Another → params_left sub k f ss ws ≡ whole → option_map called whole ≡ None
params_over sub k f ss ws whole none another inv = ap (option_map called) (sym inv ∙ ap (λ g. params_left sub k g ss ws) another ∙ ap (λ j. params_left sub j Another ss ws) none)

pub params_end : (sub : List Word → Reading Shape) (k : ℕ) (f : Follows) (ss : Shapes) (ws : List Word) (whole : Reading Listed) → f ≡ End → params_left sub k f ss ws ≡ whole → option_map called whole ≡ Some (Called ss true false, ws)
params_end sub k f ss ws whole end inv = ap (option_map called) (sym inv ∙ ap (λ g. params_left sub k g ss ws) end)

pub params_variadic : (sub : List Word → Reading Shape) (k : ℕ) (f : Follows) (ss : Shapes) (ws : List Word) (whole : Reading Listed) → f ≡ Variadic → params_left sub k f ss ws ≡ whole → option_map called whole ≡ Some (Called ss true true, ws)
params_variadic sub k f ss ws whole end inv = ap (option_map called) (sym inv ∙ ap (λ g. params_left sub k g ss ws) end)

pub shapes_more : (at : ℕ → Shape) (ts : List TypeId) (t : TypeId) → shapes_of at (ts ++ t ∷ []) ≡ joined (shapes_of at ts) (MoreTypes (at t.0) NoTypes)
shapes_more at [] t = refl
shapes_more at (u ∷ ts) t = ap (MoreTypes (at u.0)) (shapes_more at ts t)

each_pushed : (n m : ℕ) (ts : List TypeId) (t : TypeId) → n ≤ m → EachType n ts → t.0 < m → EachType m (ts ++ t ∷ [])
each_pushed n m [] t h e less = (less, tt)
each_pushed n m (u ∷ ts) t h e less = (omega (arith, e.0), each_pushed n m ts t h e.1 less)

pub each_more : (g h : Graph) (ts : List TypeId) (t : TypeId) → Grows g h → EachType (length g.nodes) ts → t.0 < length h.nodes → EachType (length h.nodes) (ts ++ t ∷ [])
each_more g h ts t e each less = each_pushed (length g.nodes) (length h.nodes) ts t (no_fewer g h e) each less

pub param_gives : (bases : Bases) (left : ℕ) (g h : Graph) (ts : List TypeId) (t : TypeId) (name : Option (List ℕ)) (f : Follows) (ws vs us : List Word) → Grows g h → EachType (length g.nodes) ts →
    read_decl bases left ws ≡ Some ((shape h.nodes t.0, name), vs) → Some (f, us) ≡ behind_parameter vs → param_more (shapes_of (shape g.nodes) ts) (read_parameter bases left ws) ≡ Some (f, (shapes_of (shape h.nodes) (ts ++ t ∷ []), us))
param_gives bases left g h ts t name f ws vs us e each r end =
    ap (λ o. param_more (shapes_of (shape g.nodes) ts) (option_map without_name o)) r
    ∙ ap (option_map (behind_those (joined (shapes_of (shape g.nodes) ts) (MoreTypes (shape h.nodes t.0) NoTypes)))) (sym end)
    ∙ ap (λ ss. Some (f, (joined ss (MoreTypes (shape h.nodes t.0) NoTypes), us))) (sym (shapes_of-same (shape h.nodes) (shape g.nodes) (length g.nodes) ts each (λ i less. kept g h i e less)))
    ∙ ap (λ ss. Some (f, (ss, us))) (sym (shapes_more (shape h.nodes) ts t))

pub param_open : (bases : Bases) (left : ℕ) (ss : Shapes) (x : Named) (ws vs : List Word) → read_decl bases left ws ≡ Some (x, vs) → None ≡ behind_parameter vs → param_more ss (read_parameter bases left ws) ≡ None
param_open bases left ss x ws vs r end = ap (λ o. param_more ss (option_map without_name o)) r ∙ ap (option_map (behind_those (joined ss (MoreTypes x.0 NoTypes)))) (sym end)

pub param_fails : (bases : Bases) (left : ℕ) (ss : Shapes) (ws : List Word) → read_decl bases left ws ≡ None → param_more ss (read_parameter bases left ws) ≡ None
param_fails bases left ss ws r = ap (λ o. param_more ss (option_map without_name o)) r

abbrev called_by : Option (List Word) → Option (List Word) → Reading Layer → Reading Layer
called_by (Some vs) _ o = Some (Called NoTypes false false, vs)
called_by None (Some vs) o = Some (Called NoTypes true false, vs)
called_by None None o = o

called_is : (sub : List Word → Reading Shape) (k : ℕ) (ws : List Word) → read_called sub k ws ≡ called_by (closing ws) (void_alone ws) (option_map called (read_params sub k ws))
called_is sub k (RightParen ∷ ws) = refl
called_is sub k (VoidWord ∷ RightParen ∷ ws) = refl
called_is sub k (VoidWord ∷ _) = refl
called_is sub k _ = refl

pub called_closing : (sub : List Word → Reading Shape) (k : ℕ) (ws vs : List Word) → Some vs ≡ closing ws → read_called sub k ws ≡ Some (Called NoTypes false false, vs)
called_closing sub k ws vs e = called_is sub k ws ∙ ap (λ o. called_by o (void_alone ws) (option_map called (read_params sub k ws))) (sym e)

pub called_void : (sub : List Word → Reading Shape) (k : ℕ) (ws vs : List Word) → None ≡ closing ws → Some vs ≡ void_alone ws → read_called sub k ws ≡ Some (Called NoTypes true false, vs)
called_void sub k ws vs e f = called_is sub k ws ∙ ap (λ o. called_by o (void_alone ws) (option_map called (read_params sub k ws))) (sym e) ∙ ap (λ o. called_by None o (option_map called (read_params sub k ws))) (sym f)

pub called_next : (sub : List Word → Reading Shape) (k : ℕ) (ws : List Word) → None ≡ closing ws → None ≡ void_alone ws → read_called sub k ws ≡ option_map called (read_params sub k ws)
called_next sub k ws e f =
    called_is sub k ws
    ∙ ap (λ o. called_by o (void_alone ws) (option_map called (read_params sub k ws))) (sym e)
    ∙ ap (λ o. called_by None o (option_map called (read_params sub k ws))) (sym f)

all_listed : (o : Reading Listed) → option_map (listed_behind NoTypes) o ≡ o
all_listed None = refl
all_listed (Some r) = refl

pub params_start : (sub : List Word → Reading Shape) (k : ℕ) (at : ℕ → Shape) (ts : List TypeId) (ws : List Word) → ts ≡ [] → params_left sub k Another (shapes_of at ts) ws ≡ read_params sub k ws
params_start sub k at ts ws e = ap (λ us. option_map (listed_behind (shapes_of at us)) (read_params sub k ws)) e ∙ all_listed (read_params sub k ws)
