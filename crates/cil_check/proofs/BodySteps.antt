-- Device: steps of the loops over locals and parameters.
use Rattle.std.proofs.Common.{◌≡◌, ℕ, zero, suc, ◌+◌, ◌<◌, ◌≤◌, Bool, true, false, ◌&&◌, nat_eq, List, [], ◌∷◌, length, drop, map, get_or, refl, sym, ap, ◌∙◌, subst, arith}
use Rattle.std.specs.List.{list_all}
use Rattle.std.specs.Str.{bytes_eq}
use Rattle.cil_base.specs.declared.numbers.NameId.{NameId}
use Rattle.cil_base.specs.declared.numbers.TypeId.{TypeId}
use Rattle.type_graph.specs.declared.nodes.Node.{Node}
use Rattle.type_graph.specs.Shapes.{Shape, shapes_of}
use Rattle.cil_tree.specs.declared.globals.Local.{Local}
use Rattle.cil_tree.specs.View.{text_at, type_at, local_of}
use Rattle.cil_tree.specs.Typing.{is_type}
use Rattle.cil_tree.specs.Bodies.{parameters_fit}
use Rattle.cil_check.specs.Statements.{parameter_is}

-- a test of each, seen as something else, from one on
pub each_from : {A B : Type 0} (of : B → Bool) (see : A → B) (xs : List A) (i : ℕ) (d : A) → i < length xs → list_all of (map see (drop i xs)) ≡ of (see (get_or xs i d)) && list_all of (map see (drop (suc i) xs))
each_from of see [] i d h = absurd (omega arith)
each_from of see (x ∷ xs) zero d h = refl
each_from of see (x ∷ xs) (suc i) d h = each_from of see xs i d (omega arith)

joined : (p q r : Bool) → p && (q && r) ≡ (p && q) && r
joined true q r = refl
joined false q r = refl

-- parameters from one on that has a name and a local
pub parameter_next : (nodes : List Node) (texts : List (List ℕ)) (at : ℕ → Shape) (ts : List TypeId) (ns : List NameId) (ls : List Local) (i : ℕ) (t : TypeId) (n : NameId) (l : Local) → i < length ts → i < length ns → i < length ls →
    parameters_fit (shapes_of at (drop i ts)) (map (text_at texts) (drop i ns)) (map (local_of nodes texts) (drop i ls))
    ≡ parameter_is nodes texts (get_or ls i l) (get_or ns i n) (at (get_or ts i t).0) && parameters_fit (shapes_of at (drop (suc i) ts)) (map (text_at texts) (drop (suc i) ns)) (map (local_of nodes texts) (drop (suc i) ls))
unfolding parameter_is
parameter_next nodes texts at [] ns ls i t n l h j k = absurd (omega arith)
parameter_next nodes texts at (x ∷ ts) [] ls i t n l h j k = absurd (omega arith)
parameter_next nodes texts at (x ∷ ts) (y ∷ ns) [] i t n l h j k = absurd (omega arith)
parameter_next nodes texts at (x ∷ ts) (y ∷ ns) (z ∷ ls) zero t n l h j k = joined (bytes_eq (text_at texts z.name) (text_at texts y)) (is_type (type_at nodes z.ty) (at x.0)) (parameters_fit (shapes_of at ts) (map (text_at texts) ns) (map (local_of nodes texts) ls))
parameter_next nodes texts at (x ∷ ts) (y ∷ ns) (z ∷ ls) (suc i) t n l h j k = parameter_next nodes texts at ts ns ls i t n l (omega arith) (omega arith) (omega arith)

-- a parameter without a name
pub name_missing : (nodes : List Node) (texts : List (List ℕ)) (at : ℕ → Shape) (ts : List TypeId) (ns : List NameId) (ls : List Local) (i : ℕ) → i < length ts → length ns ≤ i → i ≤ length ls →
    parameters_fit (shapes_of at (drop i ts)) (map (text_at texts) (drop i ns)) (map (local_of nodes texts) (drop i ls)) ≡ false
name_missing nodes texts at [] ns ls i h j k = absurd (omega arith)
name_missing nodes texts at (x ∷ ts) [] ls zero h j k = refl
name_missing nodes texts at (x ∷ ts) [] [] (suc i) h j k = absurd (omega arith)
name_missing nodes texts at (x ∷ ts) [] (z ∷ ls) (suc i) h j k = none nodes texts at ts (map (local_of nodes texts) (drop i ls)) i (omega arith)
  where
    none : (nodes : List Node) (texts : List (List ℕ)) (at : ℕ → Shape) (ts : List TypeId) (ls : List _) (i : ℕ) → i < length ts → parameters_fit (shapes_of at (drop i ts)) [] ls ≡ false
    none nodes texts at [] ls i h = absurd (omega arith)
    none nodes texts at (x ∷ ts) ls zero h = refl
    none nodes texts at (x ∷ ts) ls (suc i) h = none nodes texts at ts ls i (omega arith)
name_missing nodes texts at (x ∷ ts) (y ∷ ns) ls zero h j k = absurd (omega arith)
name_missing nodes texts at (x ∷ ts) (y ∷ ns) [] (suc i) h j k = absurd (omega arith)
name_missing nodes texts at (x ∷ ts) (y ∷ ns) (z ∷ ls) (suc i) h j k = name_missing nodes texts at ts ns ls i (omega arith) (omega arith) (omega arith)

-- a parameter without a local
pub local_missing : (nodes : List Node) (texts : List (List ℕ)) (at : ℕ → Shape) (ts : List TypeId) (ns : List NameId) (ls : List Local) (i : ℕ) → i < length ts → i < length ns → length ls ≡ i →
    parameters_fit (shapes_of at (drop i ts)) (map (text_at texts) (drop i ns)) (map (local_of nodes texts) (drop i ls)) ≡ false
local_missing nodes texts at [] ns ls i h j k = absurd (omega arith)
local_missing nodes texts at (x ∷ ts) [] ls i h j k = absurd (omega arith)
local_missing nodes texts at (x ∷ ts) (y ∷ ns) [] zero h j k = refl
local_missing nodes texts at (x ∷ ts) (y ∷ ns) [] (suc i) h j k = absurd (omega (arith, k))
local_missing nodes texts at (x ∷ ts) (y ∷ ns) (z ∷ ls) zero h j k = absurd (omega (arith, k))
local_missing nodes texts at (x ∷ ts) (y ∷ ns) (z ∷ ls) (suc i) h j k = local_missing nodes texts at ts ns ls i (omega arith) (omega arith) (omega (arith, k))

-- behind the last parameter there is no name
pub past_names : (nodes : List Node) (texts : List (List ℕ)) (at : ℕ → Shape) (ts : List TypeId) (ns : List NameId) (ls : List Local) (i : ℕ) → i ≡ length ts → i ≤ length ns → i ≤ length ls →
    parameters_fit (shapes_of at (drop i ts)) (map (text_at texts) (drop i ns)) (map (local_of nodes texts) (drop i ls)) ≡ nat_eq (length ns) (length ts)
past_names nodes texts at [] [] ls zero h j k = refl
past_names nodes texts at [] (y ∷ ns) ls zero h j k = grind arith
past_names nodes texts at [] ns ls (suc i) h j k = absurd (omega (arith, h))
past_names nodes texts at (x ∷ ts) ns ls zero h j k = absurd (omega (arith, h))
past_names nodes texts at (x ∷ ts) [] ls (suc i) h j k = absurd (omega arith)
past_names nodes texts at (x ∷ ts) (y ∷ ns) [] (suc i) h j k = absurd (omega arith)
past_names nodes texts at (x ∷ ts) (y ∷ ns) (z ∷ ls) (suc i) h j k = past_names nodes texts at ts ns ls i (omega (arith, h)) (omega arith) (omega arith) ∙ same (length ns) (length ts)
  where
    same : (m n : ℕ) → nat_eq m n ≡ nat_eq (suc m) (suc n)
    same m n = grind arith

-- what a loop knows of the whole, where the test of this one fails or holds
pub failed : (w a p r : Bool) → a ≡ w → a ≡ p && r → p ≡ false → false ≡ w
failed w a p r h e f = sym (sym h ∙ e ∙ ap (λ b. b && r) f)

pub passed : (w a p r : Bool) → a ≡ w → a ≡ p && r → p ≡ true → r ≡ w
passed w a p r h e f = sym (e ∙ ap (λ b. b && r) f) ∙ h

-- the same for a test of the element that was read
pub failed_at : {A : Type 0} (from : ℕ → Bool) (of : A → Bool) (x y : A) (i : ℕ) (r : Bool) → from i ≡ from 0 → x ≡ y → from i ≡ of y && from (suc i) → r ≡ of x → r ≡ false → false ≡ from 0
failed_at from of x y i r h same e is fails = failed (from 0) (from i) (of y) (from (suc i)) h e (sym (is ∙ ap of same) ∙ fails)

pub passed_at : {A : Type 0} (from : ℕ → Bool) (of : A → Bool) (x y : A) (i : ℕ) (r : Bool) → from i ≡ from 0 → x ≡ y → from i ≡ of y && from (suc i) → r ≡ of x → r ≡ true → from (i + 1) ≡ from 0
passed_at from of x y i r h same e is holds =
    let next : suc i ≡ i + 1 = omega arith in
    subst (λ (k : ℕ). from k ≡ from 0) next (passed (from 0) (from i) (of y) (from (suc i)) h e (sym (is ∙ ap of same) ∙ holds))
