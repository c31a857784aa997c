-- Device: steps of the readings of expressions.
use Rattle.std.proofs.Common.{◌≡◌, ◌≢◌, ℕ, zero, suc, ◌-◌, ◌<◌, true, false, cond, List, ◌∷◌, Option, Some, None, refl, sym, ap, ◌∙◌, arith}
use Rattle.std.specs.Option.{option_map, option_and_then}
use Rattle.type_graph.specs.Shapes.{Shape}
use Rattle.cil_tree.specs.Tree.{Exp, Cast, Host, Offsets, Here, Field, Index, Lval, Place}
use Rattle.cil_tree.specs.Typing.{element_of}
use Rattle.cil_text.specs.Words.{Word, RightParen, RightBracket, LeftBracket, Dot, Name}
use Rattle.cil_text.specs.ReadTypes.{Reading, Named, closed}
use Rattle.cil_text.specs.ReadExps.{Env, enclosed, in_brackets, is_offset, read_step, read_offsets, read_host, read_place, place_from, type_at_host, chosen, chosen_from, read_chosen, read_right, read_binary, read_cast, read_exp, find_named, fields, type_of_named, field_first, index_first}
use Rattle.cil_declarators.specs.declared.stop.Stop.{Stop}
use Rattle.cil_declarators.specs.declared.stop.Stop.TheVariants.{NotCil, WantOfMemory}
use Rattle.cil_declarators.specs.Gives.{Fails}
use Rattle.cil_forms.specs.Forms.{closing, bracketed}
use Rattle.cil_nodes.specs.Built.{joined, part_of}
use Rattle.cil_reader.specs.Parts.{exp_within, part_behind, Part, to_field, to_element, one_step, offsets_left}

-- parentheses

closed_is : {A : Type 0} (x : A) (ws : List Word) → closed x ws ≡ option_map (λ (vs : List Word). (x, vs)) (closing ws)
closed_is x (RightParen ∷ ws) = refl
closed_is x _ = refl

pub enclosed_gives : {A B : Type 0} (f : A → B) (o : Reading A) (x : A) (ws vs : List Word) → o ≡ Some (x, ws) → Some vs ≡ closing ws → enclosed f o ≡ Some (f x, vs)
enclosed_gives {A} f o x ws vs e h = ap (option_and_then (λ (r : A × List Word). closed (f r.0) r.1)) e ∙ closed_is (f x) ws ∙ ap (option_map (λ (us : List Word). (f x, us))) (sym h)

pub enclosed_open : {A B : Type 0} (f : A → B) (o : Reading A) (x : A) (ws : List Word) → o ≡ Some (x, ws) → None ≡ closing ws → enclosed f o ≡ None
enclosed_open {A} f o x ws e h = ap (option_and_then (λ (r : A × List Word). closed (f r.0) r.1)) e ∙ closed_is (f x) ws ∙ ap (option_map (λ (us : List Word). (f x, us))) (sym h)

pub enclosed_fails : {A B : Type 0} (f : A → B) (o : Reading A) → o ≡ None → enclosed f o ≡ None
enclosed_fails {A} f o e = ap (option_and_then (λ (r : A × List Word). closed (f r.0) r.1)) e

-- expressions

pub exp_none : (env : Env) (left : ℕ) (ws : List Word) → left ≡ 0 → read_exp env left ws ≡ None
exp_none env zero ws e = refl
exp_none env (suc n) ws e = absurd (omega (arith, e))

pub exp_step : (env : Env) (left : ℕ) (ws : List Word) → left ≢ 0 → read_exp env left ws ≡ exp_within env (left - 1) ws
exp_step env zero ws h = absurd (h refl)
exp_step env (suc n) ws h = let e : suc n - 1 ≡ n = omega arith in ap (λ k. exp_within env k ws) (sym e)

pub chosen_gives : (env : Env) (exp : List Word → Reading Exp) (k : ℕ) (ws vs : List Word) (l : Lval) → read_place env exp k ws ≡ Some (l, vs) → read_chosen env exp k ws ≡ Some (chosen env l, vs)
chosen_gives env exp k ws vs l e = ap (option_map (chosen_from env)) e

pub chosen_fails : (env : Env) (exp : List Word → Reading Exp) (k : ℕ) (ws : List Word) → read_place env exp k ws ≡ None → read_chosen env exp k ws ≡ None
chosen_fails env exp k ws e = ap (option_map (chosen_from env)) e

pub binary_next : (exp : List Word → Reading Exp) (ws vs : List Word) (x : Exp) → exp ws ≡ Some (x, vs) → read_binary exp ws ≡ read_right exp x vs
binary_next exp ws vs x e = ap (option_and_then (λ (r : Exp × List Word). read_right exp r.0 r.1)) e

pub binary_fails : (exp : List Word → Reading Exp) (ws : List Word) → exp ws ≡ None → read_binary exp ws ≡ None
binary_fails exp ws e = ap (option_and_then (λ (r : Exp × List Word). read_right exp r.0 r.1)) e

pub cast_next : (exp : List Word → Reading Exp) (decl : List Word → Reading Named) (ws vs us : List Word) (s : Shape) (name : Option (List ℕ)) → decl ws ≡ Some ((s, name), vs) → Some us ≡ closing vs →
    read_cast exp decl ws ≡ enclosed (Cast (Some s)) (exp us)
cast_next exp decl ws vs us s name e h = ap (option_and_then (λ (r : Shape × List Word). enclosed (Cast (Some r.0)) (exp r.1))) (enclosed_gives (λ (x : Named). x.0) (decl ws) (s, name) vs us e h)

pub cast_open : (exp : List Word → Reading Exp) (decl : List Word → Reading Named) (ws vs : List Word) (x : Named) → decl ws ≡ Some (x, vs) → None ≡ closing vs → read_cast exp decl ws ≡ None
cast_open exp decl ws vs x e h = ap (option_and_then (λ (r : Shape × List Word). enclosed (Cast (Some r.0)) (exp r.1))) (enclosed_open (λ (y : Named). y.0) (decl ws) x vs e h)

pub cast_fails : (exp : List Word → Reading Exp) (decl : List Word → Reading Named) (ws : List Word) → decl ws ≡ None → read_cast exp decl ws ≡ None
cast_fails exp decl ws e = ap (option_and_then (λ (r : Shape × List Word). enclosed (Cast (Some r.0)) (exp r.1))) (enclosed_fails (λ (y : Named). y.0) (decl ws) e)

-- places

pub place_next : (env : Env) (exp : List Word → Reading Exp) (k : ℕ) (ws vs : List Word) (h : Host) → read_host env exp ws ≡ Some (h, vs) →
    read_place env exp k ws ≡ option_map (part_behind (Place h Here)) (read_offsets env exp k (type_at_host env h) vs)
place_next env exp k ws vs h e = ap (option_and_then (λ (r : Host × List Word). option_map (place_from r.0) (read_offsets env exp k (type_at_host env r.0) r.1))) e

pub place_fails : (env : Env) (exp : List Word → Reading Exp) (k : ℕ) (ws : List Word) → read_host env exp ws ≡ None → read_place env exp k ws ≡ None
place_fails env exp k ws e = ap (option_and_then (λ (r : Host × List Word). option_map (place_from r.0) (read_offsets env exp k (type_at_host env r.0) r.1))) e

joined_here : (os : Offsets) → joined os Here ≡ os
joined_here Here = refl
joined_here (Field n os) = ap (Field n) (joined_here os)
joined_here (Index e os) = ap (Index e) (joined_here os)

joined_twice : (a b c : Offsets) → joined (joined a b) c ≡ joined a (joined b c)
joined_twice Here b c = refl
joined_twice (Field n a) b c = ap (Field n) (joined_twice a b c)
joined_twice (Index e a) b c = ap (Index e) (joined_twice a b c)

part_here : (l : Lval) → part_of l Here ≡ l
part_here (Place h os) = ap (Place h) (joined_here os)

part_twice : (l : Lval) (a b : Offsets) → part_of (part_of l a) b ≡ part_of l (joined a b)
part_twice (Place h os) a b = ap (Place h) (joined_twice os a b)

behind_more : (l : Lval) (os : Offsets) (f : Offsets × List Word → Offsets × List Word) (o : Reading Offsets) → ((r : Offsets × List Word) → f r ≡ (joined os r.0, r.1)) →
    option_map (part_behind l) (option_map f o) ≡ option_map (part_behind (part_of l os)) o
behind_more l os f None h = refl
behind_more l os f (Some r) h = ap (λ (x : Offsets × List Word). Some (part_behind l x)) (h r) ∙ ap (λ m. Some (m, r.1)) (sym (part_twice l os r.0))

abbrev step_on : Env → (Option Shape → List Word → Reading Offsets) → Part × List Word → Reading Lval
step_on env again x = option_map (part_behind x.0.0) (again x.0.1 x.1)

step_is : (env : Env) (exp : List Word → Reading Exp) (again : Option Shape → List Word → Reading Offsets) (l : Lval) (s : Option Shape) (ws : List Word) →
    option_map (part_behind l) (read_step env exp again s ws) ≡ option_and_then (step_on env again) (one_step env exp l s ws)
step_is env exp again l s (Dot ∷ Name name ∷ ws) = by (find_named name (fields env s))
  where
    by : (o : Option ℕ) → option_map (part_behind l) (option_and_then (λ (n : ℕ). option_map (field_first n) (again (type_of_named (fields env s) n) ws)) o) ≡ option_and_then (step_on env again) (option_map (to_field l (fields env s) ws) o)
    by None = refl
    by (Some n) = behind_more l (Field n Here) (field_first n) (again (type_of_named (fields env s) n) ws) (λ r. refl)
step_is env exp again l s (LeftBracket ∷ ws) = by (option_and_then (λ (r : Exp × List Word). in_brackets r.0 r.1) (exp ws))
  where
    by : (o : Reading Exp) → option_map (part_behind l) (option_and_then (λ (r : Exp × List Word). option_map (index_first r.0) (again (option_and_then element_of s) r.1)) o)
        ≡ option_and_then (step_on env again) (option_map (to_element l s) o)
    by None = refl
    by (Some r) = behind_more l (Index r.0 Here) (index_first r.0) (again (option_and_then element_of s) r.1) (λ q. refl)
step_is env exp again l s (Dot ∷ _) = refl
step_is env exp again l s _ = refl

-- the loop over offsets, of which k may be left

one_less : (k : ℕ) → 0 < k → k ≡ suc (k - 1)
one_less k h = omega (arith, h)

pub offsets_end : (env : Env) (exp : List Word → Reading Exp) (k : ℕ) (l : Lval) (s : Option Shape) (ws : List Word) (whole : Reading Lval) → 0 < k → is_offset ws ≡ false → offsets_left env exp k l s ws ≡ whole → whole ≡ Some (l, ws)
offsets_end env exp k l s ws whole some e inv =
    sym inv
    ∙ ap (λ j. offsets_left env exp j l s ws) (one_less k some)
    ∙ ap (λ v. option_map (part_behind l) (cond v (read_step env exp (read_offsets env exp (k - 1)) s ws) (Some (Here, ws)))) e
    ∙ ap (λ y. Some (y, ws)) (part_here l)

offsets_by : (env now : Env) (n k : ℕ) (l : Lval) (s : Option Shape) (ws : List Word) → 0 < k → is_offset ws ≡ true → now ≡ env →
    offsets_left env (read_exp env n) k l s ws ≡ option_and_then (step_on env (read_offsets env (read_exp env n) (k - 1))) (one_step now (read_exp now n) l s ws)
offsets_by env now n k l s ws some e same =
    let exp = read_exp env n in
    let again = read_offsets env exp (k - 1) in
    ap (λ j. offsets_left env exp j l s ws) (one_less k some)
    ∙ ap (λ v. option_map (part_behind l) (cond v (read_step env exp again s ws) (Some (Here, ws)))) e
    ∙ step_is env exp again l s ws
    ∙ ap (λ (v : Env). option_and_then (step_on env again) (one_step v (read_exp v n) l s ws)) (sym same)

pub offsets_next : (env now : Env) (n k : ℕ) (l p : Lval) (s t : Option Shape) (ws vs : List Word) (whole : Reading Lval) → 0 < k → is_offset ws ≡ true → now ≡ env → one_step now (read_exp now n) l s ws ≡ Some ((p, t), vs) →
    offsets_left env (read_exp env n) k l s ws ≡ whole → offsets_left env (read_exp env n) (k - 1) p t vs ≡ whole
offsets_next env now n k l p s t ws vs whole some e same x inv =
    sym (offsets_by env now n k l s ws some e same ∙ ap (option_and_then (step_on env (read_offsets env (read_exp env n) (k - 1)))) x) ∙ inv

pub offsets_stop : (env now : Env) (n k : ℕ) (l : Lval) (s : Option Shape) (ws : List Word) (whole : Reading Lval) (x : Stop) → 0 < k → is_offset ws ≡ true → now ≡ env → Fails x (one_step now (read_exp now n) l s ws) →
    offsets_left env (read_exp env n) k l s ws ≡ whole → Fails x whole
offsets_stop env now n k l s ws whole NotCil some e same none inv =
    sym inv ∙ offsets_by env now n k l s ws some e same ∙ ap (option_and_then (step_on env (read_offsets env (read_exp env n) (k - 1)))) none
offsets_stop env now n k l s ws whole WantOfMemory some e same none inv = tt

pub offsets_over : (env : Env) (exp : List Word → Reading Exp) (k : ℕ) (l : Lval) (s : Option Shape) (ws : List Word) (whole : Reading Lval) → k ≡ 0 → offsets_left env exp k l s ws ≡ whole → whole ≡ None
offsets_over env exp k l s ws whole e inv = sym inv ∙ ap (λ j. offsets_left env exp j l s ws) e

-- elements

brackets_are : (x : Exp) (ws : List Word) → in_brackets x ws ≡ option_map (λ (vs : List Word). (x, vs)) (bracketed ws)
brackets_are x (RightBracket ∷ ws) = refl
brackets_are x _ = refl

pub element_gives : (l : Lval) (s : Option Shape) (o : Reading Exp) (x : Exp) (ws vs : List Word) → o ≡ Some (x, ws) → Some vs ≡ bracketed ws →
    option_map (to_element l s) (option_and_then (λ (r : Exp × List Word). in_brackets r.0 r.1) o) ≡ Some ((part_of l (Index x Here), option_and_then element_of s), vs)
element_gives l s o x ws vs e h =
    ap (λ y. option_map (to_element l s) (option_and_then (λ (r : Exp × List Word). in_brackets r.0 r.1) y)) e
    ∙ ap (option_map (to_element l s)) (brackets_are x ws ∙ ap (option_map (λ (us : List Word). (x, us))) (sym h))

pub element_open : (l : Lval) (s : Option Shape) (o : Reading Exp) (x : Exp) (ws : List Word) → o ≡ Some (x, ws) → None ≡ bracketed ws →
    option_map (to_element l s) (option_and_then (λ (r : Exp × List Word). in_brackets r.0 r.1) o) ≡ None
element_open l s o x ws e h =
    ap (λ y. option_map (to_element l s) (option_and_then (λ (r : Exp × List Word). in_brackets r.0 r.1) y)) e
    ∙ ap (option_map (to_element l s)) (brackets_are x ws ∙ ap (option_map (λ (us : List Word). (x, us))) (sym h))

pub element_fails : (l : Lval) (s : Option Shape) (o : Reading Exp) → o ≡ None → option_map (to_element l s) (option_and_then (λ (r : Exp × List Word). in_brackets r.0 r.1) o) ≡ None
element_fails l s o e = ap (λ y. option_map (to_element l s) (option_and_then (λ (r : Exp × List Word). in_brackets r.0 r.1) y)) e
