-- Device: steps of the loops over types.
use Rattle.std.proofs.Common.{◌≡◌, ℕ, zero, suc, ◌+◌, ◌-◌, ◌<◌, ◌≤◌, Bool, true, false, ◌&&◌, List, [], ◌∷◌, length, length-drop, take, drop, slice_get, get_or, Some, None, refl, sym, ap, ◌∙◌, subst, arith, not, eqb, ◌⊎◌, inl, inr}
use Rattle.std.proofs.lemmas.List.{take_all}
use Rattle.cil_base.specs.declared.numbers.TypeId.{TypeId}
use Rattle.type_graph.specs.declared.nodes.Node.{Node}
use Rattle.type_graph.specs.declared.nodes.Node.TheVariants.{Void, Int, Ptr, Array, Func, Agg}
use Rattle.type_graph.specs.Shapes.{Shape, shape, shape_of, shapes_of}
use Rattle.type_graph.specs.Arena.{Graph, EachType, NamesBelow, members_fit, is_struct}
use Rattle.type_graph.specs.declared.aggregates.AggKind.{AggKind}
use Rattle.type_graph.specs.declared.aggregates.Member.{Member}
use Rattle.std.specs.List.{list_all}
use Rattle.cil_check.specs.Rules.{node_rules, node_fits_at, AreThere, stands_here}
use Rattle.cil_tree.specs.WellFormedTypes.{is_parameter, are_parameters, has_parameter}

-- the parameters from one on are that one and those behind it
pub parameters_from : (at : ℕ → Shape) (ts : List TypeId) (i : ℕ) (d : TypeId) → i < length ts → are_parameters (shapes_of at (drop i ts)) ≡ is_parameter (at (get_or ts i d).0) && are_parameters (shapes_of at (drop (suc i) ts))
parameters_from at [] i d h = absurd (omega arith)
parameters_from at (t ∷ ts) zero d h = refl
parameters_from at (t ∷ ts) (suc i) d h = parameters_from at ts i d (omega arith)

pub type_at : (n : ℕ) (ts : List TypeId) (i : ℕ) (d : TypeId) → EachType n ts → i < length ts → (get_or ts i d).0 < n
type_at n [] i d e h = absurd (omega arith)
type_at n (t ∷ ts) zero d e h = e.0
type_at n (t ∷ ts) (suc i) d e h = type_at n ts i d e.1 (omega arith)

-- a list of types has a first one, if it is not empty
pub some_parameter : (at : ℕ → Shape) (ts : List TypeId) → has_parameter (shapes_of at ts) ≡ not (eqb (length ts) 0)
some_parameter at [] = refl
some_parameter at (t ∷ ts) = ap not (sym (suc_is_not_zero (length ts)))
  where
    suc_is_not_zero : (n : ℕ) → eqb (suc n) 0 ≡ false
    suc_is_not_zero n = grind arith

types_below_more : (k j : ℕ) (ts : List TypeId) → k ≤ j → EachType k ts → EachType j ts
types_below_more k j [] h e = tt
types_below_more k j (t ∷ ts) h e = (omega (arith, e.0), types_below_more k j ts h e.1)

-- what names types below one number names them below a greater one
names_below_more : (k j m : ℕ) (n : Node) → k ≤ j → NamesBelow k m n → NamesBelow j m n
names_below_more k j m Void h e = tt
names_below_more k j m (Int kind) h e = tt
names_below_more k j m (Ptr q) h e = omega (arith, e)
names_below_more k j m (Array q bound) h e = omega (arith, e)
names_below_more k j m (Func proto variadic ret params) h e = (omega (arith, e.0), types_below_more k j params h e.1)
names_below_more k j m (Agg a) h e = e

pub names_there : (k j m : ℕ) (n : Node) → NamesBelow k m n → k < j → NamesBelow j m n
names_there k j m n e h = names_below_more k j m n (omega (arith, h)) e

pub cases : (m n : ℕ) → (m ≤ n) ⊎ (n < m)
cases m n = grind arith

-- a rule of each number below one more
pub one_more : (of : ℕ → Bool) (n : ℕ) → ((k : ℕ) → k < n → of k ≡ true) → of n ≡ true → (k : ℕ) → k < n + 1 → of k ≡ true
one_more of n before this k h = split (cases n k)
  where
    split : (n ≤ k) ⊎ (k < n) → of k ≡ true
    split (inl l) = let e : n ≡ k = omega (arith, h, l) in subst (λ j. of j ≡ true) e this
    split (inr l) = before k l

pub node_fits_is : (g : Graph) (t : ℕ) (n : Node) → slice_get g.nodes t ≡ Some n → shape g.nodes t ≡ shape_of (shape g.nodes) n → node_rules g n (shape_of (shape g.nodes) n) ≡ node_fits_at g t
node_fits_is g t n there is = ap (node_rules g n) (sym is) ∙ ap (λ o. elim o [ None ↦ true | Some x ↦ node_rules g x (shape g.nodes t) ]) (sym there)

-- a test of each from one on is that of this one and of those behind it
pub all_from : {A : Type 0} (of : A → Bool) (xs : List A) (i : ℕ) (d : A) → i < length xs → list_all of (drop i xs) ≡ of (get_or xs i d) && list_all of (drop (suc i) xs)
all_from of [] i d h = absurd (omega arith)
all_from of (x ∷ xs) zero d h = refl
all_from of (x ∷ xs) (suc i) d h = all_from of xs i d (omega arith)

pub member_there : (n : ℕ) (ms : List Member) (i : ℕ) (d : Member) → AreThere n ms → i < length ms → (get_or ms i d).ty.of.0 < n
member_there n [] i d e h = absurd (omega arith)
member_there n (m ∷ ms) zero d e h = e.0
member_there n (m ∷ ms) (suc i) d e h = member_there n ms i d e.1 (omega arith)

-- members from one on fit where this one may stand and those behind it fit
pub fit_from : (g : Graph) (kind : AggKind) (behind : Bool) (ms : List Member) (i : ℕ) (d : Member) → i < length ms →
    members_fit g kind behind (drop i ms) ≡ stands_here g (is_struct kind) behind (drop (suc i) ms) (get_or ms i d).ty.of.0 && members_fit g kind true (drop (suc i) ms)
fit_from g kind behind [] i d h = absurd (omega arith)
fit_from g kind behind (m ∷ []) zero d h = refl
fit_from g kind behind (m ∷ n ∷ ms) zero d h = refl
fit_from g kind behind (m ∷ ms) (suc i) d h = fit_from g kind behind ms i d (omega arith)

-- the slice from a place on is what is behind it
pub slice_from : {A : Type 0} (xs : List A) (n m : ℕ) → n ≡ m → take (length xs - n) (drop n xs) ≡ drop m xs
slice_from xs n m same = take_all (length xs - n) (drop n xs) (omega (arith, length-drop n xs)) ∙ ap (λ k. drop k xs) same
