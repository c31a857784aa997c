-- Device: steps of the readings of initialised objects.
use Rattle.std.proofs.Common.{◌≡◌, ℕ, suc, ◌-◌, ◌+◌, ◌<◌, ◌≤◌, Bool, true, false, cond, List, [], ◌∷◌, ◌++◌, Option, Some, None, refl, sym, ap, ◌∙◌, map, arith, length, append_assoc, append-nil, Vec, ℤ, ◌<ℤ◌, int_le, ◌&&◌}
use Rattle.std.proofs.lemmas.Int.{ints}
use Rattle.std.specs.Option.{option_map, option_and_then}
use Rattle.std.specs.Global.{Global}
use Rattle.cil_base.specs.declared.numbers.EntityId.{EntityId}
use Rattle.cil_base.specs.declared.constants.Constant.{Constant}
use Rattle.cil_base.specs.declared.constants.Constant.TheVariants.{Address}
use Rattle.cil_base.specs.declared.kinds.Abi.{Abi}
use Rattle.cil_base.specs.declared.kinds.Abi.TheVariants.{Lp64, Ilp32}
use Rattle.cil_base.specs.declared.kinds.IntKind.{IntKind}
use Rattle.cil_base.specs.declared.kinds.IntKind.TheVariants.{Int as int, Long, Long4}
use Rattle.cil_base.specs.Integer.{least, greatest, long_of}
use Rattle.cil_base.specs.Arithmetic.{fits}
use Rattle.cil_base.specs.declared.numbers.TypeId.{TypeId}
use Rattle.type_graph.specs.Arena.{Graph}
use Rattle.type_graph.specs.Growth.{Grows}
use Rattle.type_graph.proofs.ShapeLaws.{kept}
use Rattle.type_graph.specs.Shapes.{Shape, shape, VoidType, IntType, PtrType, ArrayType, FuncType, AggType}
use Rattle.cil_tree.specs.declared.globals.Step.{Step as SeenStep}
use Rattle.cil_tree.specs.declared.globals.ImageItem.{ImageItem}
use Rattle.cil_tree.specs.Tree.{Step, ToField, Item}
use Rattle.cil_tree.specs.Typing.{same_shape}
use Rattle.cil_tree.specs.View.{step_of, item_of}
use Rattle.cil_text.specs.Words.{Word, RightParen, LeftBracket, RightBracket, RightBrace, Dot, Comma, Assign, Number, Name}
use Rattle.cil_text.specs.ReadTypes.{Reading, Named, skip_one, closed, read_decl}
use Rattle.cil_text.specs.ReadExps.{Env, bases, find_named, type_of_named, fields, enclosed}
use Rattle.cil_text.specs.ReadStmts.{Numbered, read_number}
use Rattle.cil_text.specs.ReadImages.{Path, step_first, read_path, integer_of, address_at, offset_at, read_pointer, converted_to, read_converted, read_constant, item_at, read_item, item_first, next_item, read_items, only_item, is_brace, read_image}
use Rattle.cil_reader.specs.declared.reader.Scalar.TheVariants.{Int, Pointer, Other}
use Rattle.cil_declarators.specs.declared.stop.Stop.{Stop}
use Rattle.cil_declarators.specs.declared.stop.Stop.TheVariants.{NotCil, WantOfMemory}
use Rattle.cil_declarators.specs.Gives.{Fails}
use Rattle.cil_forms.specs.Forms.{closing, assigned, behind_item}
use Rattle.cil_reader.specs.Images.{Stepped, to_member, path_step, path_behind, PathRead, path_moved, path_by, path_more, path_left, scalar_of, items_behind, Listed, listed_as, item_more, offset_in, converted_from}
use Rattle.cil_reader.specs.Typed.{typed_as, typed}

-- paths

abbrev path_on : Env → ℕ → Stepped × List Word → Reading Path
path_on env k r = option_map (step_first r.0.0) (read_path env k r.0.1 r.1)

abbrev path_from : Env → ℕ → Option Shape → Option (List Word) → Reading Stepped → Reading Path
path_from env k s (Some vs) o = Some (([], s), vs)
path_from env k s None o = option_and_then (path_on env k) o

path_is : (env : Env) (k : ℕ) (s : Option Shape) (ws : List Word) → read_path env (suc k) s ws ≡ path_from env k s (assigned ws) (path_step env s ws)
path_is env k s (Dot ∷ Name name ∷ ws) = by (find_named name (fields env s))
  where
    by : (o : Option ℕ) → option_and_then (λ (n : ℕ). option_map (step_first (ToField n)) (read_path env k (type_of_named (fields env s) n) ws)) o ≡ option_and_then (path_on env k) (option_map (to_member env s ws) o)
    by None = refl
    by (Some n) = refl
path_is env k s (LeftBracket ∷ Number kind i ∷ RightBracket ∷ ws) = refl
path_is env k s (Assign ∷ ws) = refl
path_is env k s (Dot ∷ _) = refl
path_is env k s (LeftBracket ∷ Number kind i ∷ _) = refl
path_is env k s (LeftBracket ∷ _) = refl
path_is env k s _ = refl

first_behind : (xs : List Step) (x : Step) (o : Reading Path) → option_map (path_behind xs) (option_map (step_first x) o) ≡ option_map (path_behind (xs ++ x ∷ [])) o
first_behind xs x None = refl
first_behind xs x (Some r) = ap (λ (ys : List Step). Some ((ys, r.0.1), r.1)) (sym (append_assoc xs (x ∷ []) r.0.0))

pub steps_more : (xs : List SeenStep) (x : SeenStep) → map step_of (xs ++ x ∷ []) ≡ map step_of xs ++ step_of x ∷ []
steps_more [] x = refl
steps_more (y ∷ xs) x = ap (λ zs. step_of y ∷ zs) (steps_more xs x)

pub path_ended : (env : Env) (xs : List Step) (s : Option Shape) (ws vs : List Word) → Some vs ≡ assigned ws → path_more env xs s ws ≡ Some (true, ((xs, s), vs))
path_ended env xs s ws vs e = ap (λ o. path_by xs s o (path_step env s ws)) (sym e)

pub path_open : (env : Env) (xs : List Step) (s : Option Shape) (ws : List Word) → None ≡ assigned ws → None ≡ path_step env s ws → path_more env xs s ws ≡ None
path_open env xs s ws e f = ap (λ o. path_by xs s o (path_step env s ws)) (sym e) ∙ ap (option_map (path_moved xs)) (sym f)

pub path_stepped : (env : Env) (xs ys : List SeenStep) (x : SeenStep) (s t : Option Shape) (ws vs : List Word) → None ≡ assigned ws → Some ((step_of x, t), vs) ≡ path_step env s ws → ys ≡ xs ++ x ∷ [] → path_more env (map step_of xs) s ws ≡ Some (false, ((map step_of ys, t), vs))
path_stepped env xs ys x s t ws vs e f is =
    ap (λ o. path_by (map step_of xs) s o (path_step env s ws)) (sym e)
    ∙ ap (option_map (path_moved (map step_of xs))) (sym f)
    ∙ ap (λ (zs : List Step). Some (false, ((zs, t), vs))) (sym (ap (map step_of) is ∙ steps_more xs x))

-- the loop over steps, of which k may be left

abbrev path_go : Env → ℕ → PathRead → Reading Path
path_go env k r = path_left env k r.0 r.1.0.0 r.1.0.1 r.1.1

path_once : (env : Env) (k : ℕ) (xs : List Step) (s : Option Shape) (ws : List Word) → path_left env (suc k) false xs s ws ≡ option_and_then (path_go env k) (path_more env xs s ws)
path_once env k xs s ws = ap (option_map (path_behind xs)) (path_is env k s ws) ∙ by (assigned ws) (path_step env s ws)
  where
    by : (o : Option (List Word)) (q : Reading Stepped) → option_map (path_behind xs) (path_from env k s o q) ≡ option_and_then (path_go env k) (path_by xs s o q)
    by (Some vs) q = ap (λ (ys : List Step). Some ((ys, s), vs)) (append-nil xs)
    by None None = refl
    by None (Some r) = first_behind xs r.0.0 (read_path env k r.0.1 r.1)

path_at : (env : Env) (k : ℕ) (b : Bool) (xs : List Step) (s : Option Shape) (ws : List Word) → 0 < k → b ≡ false → path_left env k b xs s ws ≡ option_and_then (path_go env (k - 1)) (path_more env xs s ws)
path_at env k b xs s ws some open_ = let e : k ≡ suc (k - 1) = omega (arith, some) in ap (λ v. path_left env k v xs s ws) open_ ∙ ap (λ j. path_left env j false xs s ws) e ∙ path_once env (k - 1) xs s ws

pub path_next : (env : Env) (k : ℕ) (b c : Bool) (xs ys : List Step) (s t : Option Shape) (ws vs : List Word) (whole : Reading Path) → 0 < k → b ≡ false → path_more env xs s ws ≡ Some (c, ((ys, t), vs)) → path_left env k b xs s ws ≡ whole → path_left env (k - 1) c ys t vs ≡ whole
path_next env k b c xs ys s t ws vs whole some open_ e inv = sym (path_at env k b xs s ws some open_ ∙ ap (option_and_then (path_go env (k - 1))) e) ∙ inv

pub path_stop : (env : Env) (k : ℕ) (b : Bool) (xs : List Step) (s : Option Shape) (ws : List Word) (whole : Reading Path) (x : Stop) → 0 < k → b ≡ false → Fails x (path_more env xs s ws) → path_left env k b xs s ws ≡ whole → Fails x whole
path_stop env k b xs s ws whole NotCil some open_ none inv = sym inv ∙ path_at env k b xs s ws some open_ ∙ ap (option_and_then (path_go env (k - 1))) none
path_stop env k b xs s ws whole WantOfMemory some open_ none inv = tt

pub path_over : (env : Env) (k : ℕ) (b : Bool) (xs : List Step) (s : Option Shape) (ws : List Word) (whole : Reading Path) → k ≡ 0 → b ≡ false → path_left env k b xs s ws ≡ whole → whole ≡ None
path_over env k b xs s ws whole none open_ inv = sym inv ∙ ap (λ v. path_left env k v xs s ws) open_ ∙ ap (λ j. path_left env j false xs s ws) none

pub path_closed : (env : Env) (k : ℕ) (b : Bool) (xs : List Step) (s : Option Shape) (ws : List Word) (whole : Reading Path) → b ≡ true → path_left env k b xs s ws ≡ whole → whole ≡ Some ((xs, s), ws)
path_closed env k b xs s ws whole last inv = sym inv ∙ ap (λ v. path_left env k v xs s ws) last

all_behind : (o : Reading Path) → option_map (path_behind []) o ≡ o
all_behind None = refl
all_behind (Some r) = refl

pub path_start : (env : Env) (k : ℕ) (xs : List SeenStep) (s : Option Shape) (ws : List Word) → xs ≡ [] → path_left env k false (map step_of xs) s ws ≡ read_path env k s ws
path_start env k xs s ws e = ap (λ ys. option_map (path_behind (map step_of ys)) (read_path env k s ws)) e ∙ all_behind (read_path env k s ws)

-- addresses

closed_is : {A : Type 0} (x : A) (ws : List Word) → closed x ws ≡ option_map (λ (vs : List Word). (x, vs)) (closing ws)
closed_is x (RightParen ∷ ws) = refl
closed_is x _ = refl

abbrev moved_to : ℕ → Numbered → List Word → ℤ → Constant × List Word
moved_to n x vs v = (Address (record { 0 = n }) v, vs)

offset_by : (abi : Abi) (n : ℕ) (x : Numbered) (ws : List Word) → offset_at abi n (x, ws) ≡ option_and_then (λ (v : ℤ). option_map (λ (vs : List Word). moved_to n x vs v) (closing ws)) (offset_in abi x.1)
offset_by abi n x ws = by (fits (long_of abi) x.1)
  where
    by : (b : Bool) → cond {A = Reading Constant} b (closed (address_at n x) ws) None ≡ option_and_then (λ (v : ℤ). option_map (λ (vs : List Word). moved_to n x vs v) (closing ws)) (cond {A = Option ℤ} b (Some x.1) None)
    by true = closed_is (address_at n x) ws
    by false = refl

abbrev offset_from : ℕ → Numbered → Option (List Word) → Option ℤ → Reading Constant
offset_from n x o p = option_and_then (λ (v : ℤ). option_map (λ (vs : List Word). moved_to n x vs v) o) p

pub address_gives : (abi : Abi) (e : EntityId) (o : Reading Numbered) (kind : IntKind) (v w : ℤ) (ws vs : List Word) → Some ((kind, v), ws) ≡ o → Some vs ≡ closing ws → Some w ≡ offset_in abi v → Some (Address e w, vs) ≡ option_and_then (offset_at abi e.0) o
address_gives abi e o kind v w ws vs h c p = sym (
    ap (option_and_then (offset_at abi e.0)) (sym h)
    ∙ offset_by abi e.0 (kind, v) ws
    ∙ ap (λ q. offset_from e.0 (kind, v) q (offset_in abi v)) (sym c)
    ∙ ap (offset_from e.0 (kind, v) (Some vs)) (sym p))

pub address_far : (abi : Abi) (e : EntityId) (o : Reading Numbered) (kind : IntKind) (v : ℤ) (ws : List Word) → Some ((kind, v), ws) ≡ o → None ≡ offset_in abi v → None ≡ option_and_then (offset_at abi e.0) o
address_far abi e o kind v ws h p = sym (ap (option_and_then (offset_at abi e.0)) (sym h) ∙ offset_by abi e.0 (kind, v) ws ∙ ap (offset_from e.0 (kind, v) (closing ws)) (sym p))

nowhere : (n : ℕ) (x : Numbered) (p : Option ℤ) → offset_from n x None p ≡ None
nowhere n x None = refl
nowhere n x (Some v) = refl

pub address_open : (abi : Abi) (e : EntityId) (o : Reading Numbered) (x : Numbered) (ws : List Word) → Some (x, ws) ≡ o → None ≡ closing ws → None ≡ option_and_then (offset_at abi e.0) o
address_open abi e o x ws h c = sym (
    ap (option_and_then (offset_at abi e.0)) (sym h)
    ∙ offset_by abi e.0 x ws
    ∙ ap (λ q. offset_from e.0 x q (offset_in abi x.1)) (sym c)
    ∙ nowhere e.0 x (offset_in abi x.1))

pub address_fails : (abi : Abi) (e : EntityId) (o : Reading Numbered) → None ≡ o → None ≡ option_and_then (offset_at abi e.0) o
address_fails abi e o h = sym (ap (option_and_then (offset_at abi e.0)) (sym h))

-- an offset is in 8 bytes, whatever bytes long has

not_least : (b c : Bool) (v : ℤ) → b ≡ false → None ≡ cond {A = Option ℤ} (b && c) (Some v) None
not_least true c v e = absurd (cc e)
not_least false c v e = refl

not_greatest : (b c : Bool) (v : ℤ) → c ≡ false → None ≡ cond {A = Option ℤ} (b && c) (Some v) None
not_greatest true true v e = absurd (cc e)
not_greatest true false v e = refl
not_greatest false c v e = refl

pub offset_below : (abi : Abi) (v : ℤ) → v <ℤ least Long → None ≡ offset_in abi v
offset_below Lp64 v h = not_least (int_le (least Long) v) (int_le v (greatest Long)) v (grind (arith, ints))
offset_below Ilp32 v h = not_least (int_le (least Long4) v) (int_le v (greatest Long4)) v (grind (arith, ints))

pub offset_above : (abi : Abi) (v : ℤ) → greatest Long <ℤ v → None ≡ offset_in abi v
offset_above Lp64 v h = not_greatest (int_le (least Long) v) (int_le v (greatest Long)) v (grind (arith, ints))
offset_above Ilp32 v h = not_greatest (int_le (least Long4) v) (int_le v (greatest Long4)) v (grind (arith, ints))

-- scalars

pub scalar_int : (env : Env) (n : ℕ) (s : Shape) (kind : IntKind) (ws : List Word) → scalar_of s ≡ Int kind → read_constant env n (Some s) ws ≡ option_map (integer_of kind) (read_number ws)
scalar_int env n VoidType kind ws e = absurd (cc e)
scalar_int env n (IntType k) kind ws e = let same : k ≡ kind = cc in ap (λ j. option_map (integer_of j) (read_number ws)) same
scalar_int env n (PtrType q s) kind ws e = absurd (cc e)
scalar_int env n (ArrayType q s b) kind ws e = absurd (cc e)
scalar_int env n (FuncType r ps p v) kind ws e = absurd (cc e)
scalar_int env n (AggType a) kind ws e = let same : int ≡ kind = cc in ap (λ j. option_map (integer_of j) (read_number ws)) same

pub scalar_pointer : (env : Env) (n : ℕ) (s : Shape) (ws : List Word) → scalar_of s ≡ Pointer → read_constant env n (Some s) ws ≡ read_converted env n s ws
scalar_pointer env n VoidType ws e = absurd (cc e)
scalar_pointer env n (IntType k) ws e = absurd (cc e)
scalar_pointer env n (PtrType q s) ws e = refl
scalar_pointer env n (ArrayType q s b) ws e = absurd (cc e)
scalar_pointer env n (FuncType r ps p v) ws e = absurd (cc e)
scalar_pointer env n (AggType a) ws e = absurd (cc e)

pub scalar_other : (env : Env) (n : ℕ) (s : Shape) (ws : List Word) → scalar_of s ≡ Other → read_constant env n (Some s) ws ≡ None
scalar_other env n VoidType ws e = refl
scalar_other env n (IntType k) ws e = absurd (cc e)
scalar_other env n (PtrType q s) ws e = absurd (cc e)
scalar_other env n (ArrayType q s b) ws e = refl
scalar_other env n (FuncType r ps p v) ws e = refl
scalar_other env n (AggType a) ws e = absurd (cc e)

-- conversions

abbrev behind_cast : Env → List Word → Reading Constant
behind_cast env vs = option_and_then (read_pointer env) (closing vs)

converted_is : (env : Env) (n : ℕ) (s : Shape) (ws : List Word) → converted_from env n s ws ≡ option_and_then (behind_cast env) (typed (bases env) n s ws)
converted_is env n s ws = by (read_decl (bases env) n ws)
  where
    both : (t : Shape) (o : Option (List Word)) (vs : List Word) (b : Bool) → o ≡ closing vs → same_shape t s ≡ b → option_and_then (converted_to env s) (option_map (λ (us : List Word). (t, us)) o) ≡ option_and_then (behind_cast env) (cond b (Some vs) None)
    both t None vs true e f = ap (option_and_then (read_pointer env)) e
    both t None vs false e f = refl
    both t (Some us) vs true e f = ap (λ b. cond b (read_pointer env us) None) f ∙ ap (option_and_then (read_pointer env)) e
    both t (Some us) vs false e f = ap (λ b. cond b (read_pointer env us) None) f

    by : (o : Reading Named) → option_and_then (converted_to env s) (enclosed (λ (x : Named). x.0) o) ≡ option_and_then (behind_cast env) (option_and_then (typed_as s) o)
    by None = refl
    by (Some r) = ap (option_and_then (converted_to env s)) (closed_is r.0.0 r.1) ∙ both r.0.0 (closing r.1) r.1 (same_shape r.0.0 s) refl refl

pub converted_next : (env : Env) (n : ℕ) (s : Shape) (ws vs us : List Word) → typed (bases env) n s ws ≡ Some vs → Some us ≡ closing vs → converted_from env n s ws ≡ read_pointer env us
converted_next env n s ws vs us e h = converted_is env n s ws ∙ ap (option_and_then (behind_cast env)) e ∙ ap (option_and_then (read_pointer env)) (sym h)

pub converted_open : (env : Env) (n : ℕ) (s : Shape) (ws vs : List Word) → typed (bases env) n s ws ≡ Some vs → None ≡ closing vs → converted_from env n s ws ≡ None
converted_open env n s ws vs e h = converted_is env n s ws ∙ ap (option_and_then (behind_cast env)) e ∙ ap (option_and_then (read_pointer env)) (sym h)

pub converted_fails : (env : Env) (n : ℕ) (s : Shape) (ws : List Word) → typed (bases env) n s ws ≡ None → converted_from env n s ws ≡ None
converted_fails env n s ws e = converted_is env n s ws ∙ ap (option_and_then (behind_cast env)) e

-- items

abbrev valued : Env → ℕ → Path × List Word → Reading Item
valued env n r = option_map (item_at r.0.0) (read_constant env n r.0.1 r.1)

pub item_gives : (env : Env) (n : ℕ) (s t : Option Shape) (xs : List Step) (c : Constant) (ws vs us : List Word) → read_path env n s ws ≡ Some ((xs, t), vs) → read_constant env n t vs ≡ Some (c, us) →
    read_item env n s ws ≡ Some (record { path = xs; value = c }, us)
item_gives env n s t xs c ws vs us e h = ap (option_and_then (valued env n)) e ∙ ap (option_map (item_at xs)) h

pub item_typeless : (env : Env) (n : ℕ) (s : Option Shape) (xs : List Step) (ws vs : List Word) → read_path env n s ws ≡ Some ((xs, None), vs) → read_item env n s ws ≡ None
item_typeless env n s xs ws vs e = ap (option_and_then (valued env n)) e

pub item_valueless : (env : Env) (n : ℕ) (s t : Option Shape) (xs : List Step) (ws vs : List Word) → read_path env n s ws ≡ Some ((xs, t), vs) → read_constant env n t vs ≡ None → read_item env n s ws ≡ None
item_valueless env n s t xs ws vs e h = ap (option_and_then (valued env n)) e ∙ ap (option_map (item_at xs)) h

pub item_fails : (env : Env) (n : ℕ) (s : Option Shape) (ws : List Word) → read_path env n s ws ≡ None → read_item env n s ws ≡ None
item_fails env n s ws e = ap (option_and_then (valued env n)) e

items_seen : (xs : List ImageItem) (x : ImageItem) → map item_of (xs ++ x ∷ []) ≡ map item_of xs ++ item_of x ∷ []
items_seen [] x = refl
items_seen (y ∷ xs) x = ap (λ zs. item_of y ∷ zs) (items_seen xs x)

pub item_end : (xs : List ImageItem) (x : ImageItem) (o : Reading Item) (b : Bool) (ws vs : List Word) → o ≡ Some (item_of x, ws) → Some (b, vs) ≡ behind_item ws → item_more (map item_of xs) o ≡ Some ((map item_of (xs ++ x ∷ []), b), vs)
item_end xs x o b ws vs e h =
    ap (item_more (map item_of xs)) e
    ∙ ap (option_map (listed_as (map item_of xs ++ item_of x ∷ []))) (sym h)
    ∙ ap (λ (ys : List Item). Some ((ys, b), vs)) (sym (items_seen xs x))

pub item_open : (xs : List Item) (x : Item) (o : Reading Item) (ws : List Word) → o ≡ Some (x, ws) → None ≡ behind_item ws → item_more xs o ≡ None
item_open xs x o ws e h = ap (item_more xs) e ∙ ap (option_map (listed_as (xs ++ x ∷ []))) (sym h)

pub item_none : (xs : List Item) (o : Reading Item) → o ≡ None → item_more xs o ≡ None
item_none xs o e = ap (item_more xs) e

first_item : (xs : List Item) (x : Item) (o : Reading (List Item)) → option_map (items_behind xs) (option_map (item_first x) o) ≡ option_map (items_behind (xs ++ x ∷ [])) o
first_item xs x None = refl
first_item xs x (Some r) = ap (λ (ys : List Item). Some (ys, r.1)) (sym (append_assoc xs (x ∷ []) r.0))

abbrev items_on : Env → ℕ → ℕ → Option Shape → Listed × List Word → Reading (List Item)
items_on env n k s ((xs, true), ws) = Some (xs, ws)
items_on env n k s ((xs, false), ws) = option_map (items_behind xs) (read_items env n k s ws)

next_is : (env : Env) (n k : ℕ) (s : Option Shape) (xs : List Item) (x : Item) (ws : List Word) → option_map (items_behind xs) (next_item (read_items env n k s) x ws) ≡ option_and_then (items_on env n k s) (option_map (listed_as (xs ++ x ∷ [])) (behind_item ws))
next_is env n k s xs x (RightBrace ∷ ws) = refl
next_is env n k s xs x (Comma ∷ ws) = first_item xs x (read_items env n k s ws)
next_is env n k s xs x _ = refl

items_is : (env : Env) (n k : ℕ) (s : Option Shape) (xs : List Item) (ws : List Word) → option_map (items_behind xs) (read_items env n (suc k) s ws) ≡ option_and_then (items_on env n k s) (item_more xs (read_item env n s ws))
items_is env n k s xs ws = by (read_item env n s ws)
  where
    by : (o : Reading Item) → option_map (items_behind xs) (option_and_then (λ (r : Item × List Word). next_item (read_items env n k s) r.0 r.1) o) ≡ option_and_then (items_on env n k s) (item_more xs o)
    by None = refl
    by (Some r) = next_is env n k s xs r.0 r.1

items_by : (env : Env) (n m i : ℕ) (s : Option Shape) (xs : List Item) (ws : List Word) → i < m → option_map (items_behind xs) (read_items env n (m - i) s ws) ≡ option_and_then (items_on env n (m - (i + 1)) s) (item_more xs (read_item env n s ws))
items_by env n m i s xs ws h = let e : m - i ≡ suc (m - (i + 1)) = omega (arith, h) in ap (λ j. option_map (items_behind xs) (read_items env n j s ws)) e ∙ items_is env n (m - (i + 1)) s xs ws

item_same : (g h : Graph) (env now : Env) (n : ℕ) (t : TypeId) (xs : List Item) (ws : List Word) → Grows g h → t.0 < length g.nodes → now ≡ env → item_more xs (read_item now n (Some (shape h.nodes t.0)) ws) ≡ item_more xs (read_item env n (Some (shape g.nodes t.0)) ws)
item_same g h env now n t xs ws r less same =
    ap (λ v. item_more xs (read_item v n (Some (shape h.nodes t.0)) ws)) same ∙ ap (λ v. item_more xs (read_item env n (Some v) ws)) (kept g h t.0 r less)

items_from : (g h : Graph) (env now : Env) (n m i : ℕ) (t : TypeId) (xs : List Item) (ws : List Word) (o : Reading Listed) → i < m → Grows g h → t.0 < length g.nodes → now ≡ env → item_more xs (read_item now n (Some (shape h.nodes t.0)) ws) ≡ o →
    option_map (items_behind xs) (read_items env n (m - i) (Some (shape g.nodes t.0)) ws) ≡ option_and_then (items_on env n (m - (i + 1)) (Some (shape g.nodes t.0))) o
items_from g h env now n m i t xs ws o less r there same e =
    items_by env n m i (Some (shape g.nodes t.0)) xs ws less
    ∙ ap (option_and_then (items_on env n (m - (i + 1)) (Some (shape g.nodes t.0)))) (sym (item_same g h env now n t xs ws r there same) ∙ e)

pub items_closed : (g h : Graph) (env now : Env) (n m i : ℕ) (t : TypeId) (xs ys : List Item) (b : Bool) (ws vs : List Word) (whole : Reading (List Item)) → i < m → Grows g h → t.0 < length g.nodes → now ≡ env →
    item_more xs (read_item now n (Some (shape h.nodes t.0)) ws) ≡ Some ((ys, b), vs) → b ≡ true → option_map (items_behind xs) (read_items env n (m - i) (Some (shape g.nodes t.0)) ws) ≡ whole → whole ≡ Some (ys, vs)
items_closed g h env now n m i t xs ys b ws vs whole less r there same e last inv =
    sym inv ∙ items_from g h env now n m i t xs ws (Some ((ys, b), vs)) less r there same e ∙ ap (λ c. items_on env n (m - (i + 1)) (Some (shape g.nodes t.0)) ((ys, c), vs)) last

pub items_next : (g h : Graph) (env now : Env) (n m i : ℕ) (t : TypeId) (xs ys : List Item) (b : Bool) (ws vs : List Word) (whole : Reading (List Item)) → i < m → Grows g h → t.0 < length g.nodes → now ≡ env →
    item_more xs (read_item now n (Some (shape h.nodes t.0)) ws) ≡ Some ((ys, b), vs) → b ≡ false → option_map (items_behind xs) (read_items env n (m - i) (Some (shape g.nodes t.0)) ws) ≡ whole →
    option_map (items_behind ys) (read_items env n (m - (i + 1)) (Some (shape g.nodes t.0)) vs) ≡ whole
items_next g h env now n m i t xs ys b ws vs whole less r there same e more inv =
    sym (items_from g h env now n m i t xs ws (Some ((ys, b), vs)) less r there same e ∙ ap (λ c. items_on env n (m - (i + 1)) (Some (shape g.nodes t.0)) ((ys, c), vs)) more) ∙ inv

pub items_fail : (g h : Graph) (env now : Env) (n m i : ℕ) (t : TypeId) (xs : List Item) (ws : List Word) (whole : Reading (List Item)) → i < m → Grows g h → t.0 < length g.nodes → now ≡ env → item_more xs (read_item now n (Some (shape h.nodes t.0)) ws) ≡ None →
    option_map (items_behind xs) (read_items env n (m - i) (Some (shape g.nodes t.0)) ws) ≡ whole → whole ≡ None
items_fail g h env now n m i t xs ws whole less r there same e inv = sym inv ∙ items_from g h env now n m i t xs ws None less r there same e

pub items_stop : (g h : Graph) (env now : Env) (n m i : ℕ) (t : TypeId) (xs : List Item) (ws : List Word) (whole : Reading (List Item)) (e : Stop) → i < m → Grows g h → t.0 < length g.nodes → now ≡ env →
    Fails e (item_more xs (read_item now n (Some (shape h.nodes t.0)) ws)) → option_map (items_behind xs) (read_items env n (m - i) (Some (shape g.nodes t.0)) ws) ≡ whole → Fails e whole
items_stop g h env now n m i t xs ws whole NotCil less r there same e inv = items_fail g h env now n m i t xs ws whole less r there same e inv
items_stop g h env now n m i t xs ws whole WantOfMemory less r there same e inv = tt

pub items_over : (env : Env) (n m i : ℕ) (s : Option Shape) (xs : List Item) (ws : List Word) (whole : Reading (List Item)) → m ≤ i → option_map (items_behind xs) (read_items env n (m - i) s ws) ≡ whole → whole ≡ None
items_over env n m i s xs ws whole h inv = let e : m - i ≡ 0 = omega (arith, h) in sym inv ∙ ap (λ j. option_map (items_behind xs) (read_items env n j s ws)) e

pub items_start : (env : Env) (n m : ℕ) (s : Option Shape) (xs : List ImageItem) (ws : List Word) → xs ≡ [] → option_map (items_behind (map item_of xs)) (read_items env n (m - 0) s ws) ≡ read_items env n m s ws
items_start env n m s xs ws e = let same : m - 0 ≡ m = omega arith in
    ap (λ ys. option_map (items_behind (map item_of ys)) (read_items env n (m - 0) s ws)) e
    ∙ by (read_items env n (m - 0) s ws)
    ∙ ap (λ j. read_items env n j s ws) same
  where
    by : (p : Reading (List Item)) → option_map (items_behind []) p ≡ p
    by None = refl
    by (Some r) = refl

pub only_gives : (o : Reading Constant) (p : Vec SeenStep Global) (c : Constant) (xs : List ImageItem) (ws : List Word) → o ≡ Some (c, ws) → p.items ≡ [] → xs ≡ [] → option_map only_item o ≡ Some (map item_of (xs ++ record { path = p; value = c } ∷ []), ws)
only_gives o p c xs ws e none start =
    ap (option_map only_item) e
    ∙ ap (λ (ps : List SeenStep). Some (record { path = map step_of ps; value = c } ∷ [], ws)) (sym none)
    ∙ ap (λ (ys : List ImageItem). Some (map item_of (ys ++ record { path = p; value = c } ∷ []), ws)) (sym start)

pub only_fails : (o : Reading Constant) → o ≡ None → option_map only_item o ≡ None
only_fails o e = ap (option_map only_item) e

pub image_braced : (env : Env) (n : ℕ) (s : Option Shape) (ws : List Word) → is_brace ws ≡ true → read_image env n s ws ≡ read_items env n n s (skip_one ws)
image_braced env n s ws e = ap (λ b. cond b (read_items env n n s (skip_one ws)) (option_map only_item (read_constant env n s ws))) e

pub image_single : (env : Env) (n : ℕ) (s : Option Shape) (ws : List Word) → is_brace ws ≡ false → read_image env n s ws ≡ option_map only_item (read_constant env n s ws)
image_single env n s ws e = ap (λ b. cond b (read_items env n n s (skip_one ws)) (option_map only_item (read_constant env n s ws))) e
