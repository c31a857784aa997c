-- Device: the steps of an initialiser are done by its expressions as they are done one behind another (6.7.9).
use Rattle.std.proofs.Common.{◌≡◌, ℕ, ◌+◌, Bool, true, false, List, [], ◌∷◌, ◌++◌, Some, option_map, refl, sym, ap, ◌∙◌, append_assoc, append-nil, max, zero-add, add-zero, add_assoc}
use Rattle.std.specs.Prelude.{if◌then◌else◌}
use Rattle.type_graph.specs.Shapes.{Shape}
use Rattle.typed_tree.specs.Tree.{Typed, Init, Zero, Scalar, Constant', Aggregate, Bytes, Inits, Convert, shape_in}
use Rattle.execution.specs.States.{Undefined}
use Rattle.execution.specs.Data.{Datum, Single}
use Rattle.execution.specs.Calls.{Enter}
use Rattle.c_rules.specs.Types.{Types}
use Rattle.c_rules.specs.Conversions.{Operand, same_effect, shape_of, alike, value_of as value_node, value_as}
use Rattle.c_typing.specs.Initialisers.{Path, Part, Filling, inits, is_other, member_of, unions_along, forgotten, with_step, at_union, at_unions, reached, with_whole}
use Rattle.c_typing.specs.Scopes.{Env}
use Rattle.c_semantics.specs.Values.{cast_value, as_type}
use Rattle.c_semantics.specs.Places.{Activation, Here, arrays_in_init, arrays_in_inits}
use Rattle.c_semantics.specs.Operations.{Action, ◌>>=◌, gives, known, Seen, used, taken, zero_part, fill_part, store_part, Object, Rest, zeroes, stores_value, next_step}
use Rattle.c_semantics.specs.Expressions.{of_lone}
use Rattle.typed_semantics.specs.Expressions.{value_of, stores, t_exp, t_inits}
use Rattle.c_elaboration.proofs.Actions.{then_then, then_gives, then_same}
use Rattle.c_elaboration.proofs.Shapes.{alike_itself}
use Rattle.c_elaboration.proofs.Operands.{shape_of_value}

-- bytes that become zero
abbrev pub IsZero : Init → Type 0
IsZero (Zero p) = Unit {0}
IsZero (Scalar p e) = ⊥
IsZero (Constant' p c) = ⊥
IsZero (Aggregate p e) = ⊥
IsZero (Bytes p bytes) = ⊥

abbrev pub AreZero : List Init → Type 0
AreZero [] = Unit {0}
AreZero (i ∷ is) = IsZero i × AreZero is

pub zero_append : (xs ys : List Init) → AreZero xs → AreZero ys → AreZero (xs ++ ys)
zero_append [] ys x y = y
zero_append (i ∷ xs) ys x y = (x.0, zero_append xs ys x.1 y)

pub zero_arrays : (xs : List Init) → AreZero xs → arrays_in_inits (inits xs) ≡ 0
zero_arrays [] z = refl
zero_arrays (Zero p ∷ xs) z = ap (λ n. 0 + n) (zero_arrays xs z.1)
zero_arrays (Scalar p e ∷ xs) z = absurd z.0
zero_arrays (Constant' p c ∷ xs) z = absurd z.0
zero_arrays (Aggregate p e ∷ xs) z = absurd z.0
zero_arrays (Bytes p bytes ∷ xs) z = absurd z.0

pub append_arrays : (xs ys : List Init) → arrays_in_inits (inits (xs ++ ys)) ≡ arrays_in_inits (inits xs) + arrays_in_inits (inits ys)
append_arrays [] ys = sym (zero-add (arrays_in_inits (inits ys)))
append_arrays (i ∷ xs) ys = ap (λ n. arrays_in_init i + n) (append_arrays xs ys) ∙ sym (add_assoc (arrays_in_init i) (arrays_in_inits (inits xs)) (arrays_in_inits (inits ys)))

-- before a part is initialised, unions may become zero
pub record Zeroed (before behind : List Init) : Type 0 where
  pub zeros : List Init
  pub are : AreZero zeros
  pub behind_is : behind ≡ before ++ zeros

abbrev stepping : Path × ℕ → Filling → Bool → Filling
stepping u f b = elim b [ true ↦ with_step (Zero u.0) (record f { members = u ∷ forgotten u.0 f.members }) | false ↦ record f { members = u ∷ f.members } ]

at_one : (u : Path × ℕ) (f : Filling) → Zeroed f.steps (at_union u f).steps
at_one u f = by (is_other u.1 (member_of u.0 f.members))
  where
    by : (b : Bool) → Zeroed f.steps (stepping u f b).steps
    by true = record { zeros = Zero u.0 ∷ []; are = (tt, tt); behind_is = refl }
    by false = record { zeros = []; are = tt; behind_is = sym (append-nil f.steps) }

at_all : (us : List (Path × ℕ)) (f : Filling) → Zeroed f.steps (at_unions us f).steps
at_all [] f = record { zeros = []; are = tt; behind_is = sym (append-nil f.steps) }
at_all (u ∷ us) f =
    let i = at_one u f in
    let j = at_all us (at_union u f) in
    record { zeros = i.zeros ++ j.zeros; are = zero_append i.zeros j.zeros i.are j.are; behind_is = j.behind_is ∙ (ap (λ xs. xs ++ j.zeros) i.behind_is ∙ append_assoc f.steps i.zeros j.zeros) }

pub whole_steps : (t : Types) (p : Part) (s : Init) (n : ℕ) (f : Filling) → (zs : List Init) × AreZero zs × ((with_whole t p s n f).steps ≡ f.steps ++ (zs ++ s ∷ []))
whole_steps t p s n f =
    let i = at_all (unions_along t [] f.root p.path) (record f { reach = max f.reach (reached p.path) }) in
    (i.zeros, i.are, ap (λ xs. xs ++ s ∷ []) i.behind_is ∙ append_assoc f.steps i.zeros (s ∷ []))

-- a value that is converted to the type of its node

abbrev turned : Shape → Typed → Bool → Typed
turned to e b = if b then e else same_effect to e (Convert e)

abbrev kept : Activation → Operand → Action Seen → Shape → Bool → Action Datum
kept a x go s b = used a x go >>= (λ d. known (elim b [ true ↦ Some d | false ↦ option_map Single (cast_value a.types s d) ]))

turned_taken : (a : Activation) (x : Operand) (to : Shape) (go : Action Seen) (b : Bool) → alike (shape_of x) to ≡ b → taken a x (shape_in (turned to (value_node x.typed) b)) go ≡ taken a x to go
turned_taken a x to go true e = ap (λ s. taken a x s go) (shape_of_value x) ∙ (ap (kept a x go (shape_of x)) (alike_itself (shape_of x)) ∙ sym (ap (kept a x go to) e))
turned_taken a x to go false e = refl

pub retaken : (a : Activation) (x : Operand) (to : Shape) (go : Action Seen) → taken a x (shape_in (value_as to x)) go ≡ taken a x to go
retaken a x to go = turned_taken a x to go (alike (shape_in (value_node x.typed)) to) (ap (λ (s : Shape). alike s to) (sym (shape_of_value x)))

pub taken_itself : (a : Activation) (x : Operand) (go : Action Seen) → taken a x (shape_in (value_node x.typed)) go ≡ used a x go
taken_itself a x go =
    ap (λ s. taken a x s go) (shape_of_value x)
    ∙ (then_same (used a x go) (λ d. known (as_type a.types (shape_of x) (shape_of x) d)) gives (λ (d : Datum). ap (λ b. known (elim b [ true ↦ Some d | false ↦ option_map Single (cast_value a.types (shape_of x) d) ])) (alike_itself (shape_of x)))
    ∙ then_gives (used a x go))

module _ (a : Activation) (enter : Enter) (o : Object) where
  -- the steps of typed initialisers
  abbrev pub doing : List Init → ℕ → Action (Unit {0})
  doing xs k = t_inits a enter o (inits xs) k

  abbrev pub one_does : Init → ℕ → Action (Unit {0})
  one_does (Zero p) k = zero_part a o p
  one_does (Scalar p e) k = stores a o p (value_of a e (t_exp a enter e k))
  one_does (Constant' p c) k = λ s. Undefined s
  one_does (Aggregate p e) k = stores a o p (value_of a e (t_exp a enter e k))
  one_does (Bytes p bytes) k = fill_part a o p bytes

  more_does : (i : Init) (xs : List Init) (k : ℕ) → doing (i ∷ xs) k ≡ (one_does i k >>= (λ u. doing xs (k + arrays_in_init i)))
  more_does (Zero p) xs k = ap (λ n. zero_part a o p >>= (λ u. doing xs n)) (sym (add-zero k))
  more_does (Scalar p e) xs k = refl
  more_does (Constant' p c) xs k = refl
  more_does (Aggregate p e) xs k = refl
  more_does (Bytes p bytes) xs k = ap (λ n. fill_part a o p bytes >>= (λ u. doing xs n)) (sym (add-zero k))

  pub append_does : (xs ys : List Init) (k : ℕ) → doing (xs ++ ys) k ≡ (doing xs k >>= (λ u. doing ys (k + arrays_in_inits (inits xs))))
  append_does [] ys k = ap (λ n. doing ys n) (sym (add-zero k))
  append_does (i ∷ xs) ys k =
      more_does i (xs ++ ys) k
      ∙ (ap (λ (go : Action (Unit {0})). one_does i k >>= (λ u. go)) (append_does xs ys (k + arrays_in_init i) ∙ ap (λ n. doing xs (k + arrays_in_init i) >>= (λ u. doing ys n)) (add_assoc k (arrays_in_init i) (arrays_in_inits (inits xs))))
      ∙ (sym (then_then (one_does i k) (λ u. doing xs (k + arrays_in_init i)) (λ u. doing ys (k + (arrays_in_init i + arrays_in_inits (inits xs)))))
      ∙ ap (λ (go : Action (Unit {0})). go >>= (λ u. doing ys (k + (arrays_in_init i + arrays_in_inits (inits xs))))) (sym (more_does i xs k))))

  -- the bytes that become zero before the next value
  pub zeroes_are : (zs xs : List Init) (k : ℕ) → AreZero zs → zeroes a o (inits (zs ++ xs)) ≡ (doing zs k >>= (λ u. zeroes a o (inits xs)))
  zeroes_are [] xs k z = refl
  zeroes_are (Zero p ∷ zs) xs k z =
      ap (λ (go : Action Inits). zero_part a o p >>= (λ u. go)) (zeroes_are zs xs k z.1) ∙ sym (then_then (zero_part a o p) (λ u. doing zs k) (λ u. zeroes a o (inits xs)))
  zeroes_are (Scalar p e ∷ zs) xs k z = absurd z.0
  zeroes_are (Constant' p c ∷ zs) xs k z = absurd z.0
  zeroes_are (Aggregate p e ∷ zs) xs k z = absurd z.0
  zeroes_are (Bytes p bytes ∷ zs) xs k z = absurd z.0

  -- what a tree does of the steps: those up to its last expression, with bytes left that are to become zero
  pub record Does (go : Action Rest) (all rest : List Init) (h : Here) (env : Env) : Type 0 where
    pub done : List Init
    pub left : List Init
    pub zeros : AreZero left
    pub parts : all ≡ done ++ left
    pub same : go ≡ (doing done h.arrays >>= (λ u. gives (record { steps = inits (left ++ rest); here = record h { env = env; arrays = h.arrays + arrays_in_inits (inits done) } })))

  abbrev pub rest_at : List Init → Here → Env → ℕ → Rest
  rest_at rest h env n = record { steps = inits rest; here = record h { env = env; arrays = h.arrays + n } }

  one_count : (zs : List Init) (i : Init) → AreZero zs → arrays_in_init i ≡ arrays_in_inits (inits (zs ++ i ∷ []))
  one_count zs i z = sym (append_arrays zs (i ∷ []) ∙ (ap (λ n. n + (arrays_in_init i + 0)) (zero_arrays zs z) ∙ (zero-add (arrays_in_init i + 0) ∙ add-zero (arrays_in_init i))))

  behind_one : (zs rest : List Init) (i : Init) (h : Here) (env : Env) → AreZero zs
      → (one_does i h.arrays >>= (λ u. gives (rest_at rest h env (arrays_in_init i)))) ≡ (doing (i ∷ []) h.arrays >>= (λ u. gives (rest_at rest h env (arrays_in_inits (inits (zs ++ i ∷ []))))))
  behind_one zs rest i h env z =
      ap (λ n. one_does i h.arrays >>= (λ u. gives (rest_at rest h env n))) (one_count zs i z)
      ∙ (sym (then_then (one_does i h.arrays) (λ u. gives tt) (λ u. gives (rest_at rest h env (arrays_in_inits (inits (zs ++ i ∷ []))))))
      ∙ ap (λ (go : Action (Unit {0})). go >>= (λ u. gives (rest_at rest h env (arrays_in_inits (inits (zs ++ i ∷ [])))))) (sym (more_does i [] h.arrays)))

  -- an expression of an initialiser does the step that is next (6.7.9p11, p13, p14)
  pub next_is : (zs rest : List Init) (i : Init) (h : Here) (env : Env) (value : Shape → Action (Datum × Here)) → AreZero zs
      → zeroes a o (inits (i ∷ rest)) ≡ gives (inits (i ∷ rest))
      → next_step a o h value (inits (i ∷ rest)) ≡ (one_does i h.arrays >>= (λ u. gives (record { steps = inits rest; here = record h { env = env; arrays = h.arrays + arrays_in_init i } })))
      → Does (of_lone a o (record { steps = inits (zs ++ (i ∷ rest)); here = h }) value) (zs ++ i ∷ []) rest h env
  next_is zs rest i h env value z stays step = record {
    done = zs ++ i ∷ [];
    left = [];
    zeros = tt;
    parts = sym (append-nil (zs ++ i ∷ []));
    same =
        ap (λ (go : Action Inits). go >>= next_step a o h value) (zeroes_are zs (i ∷ rest) h.arrays z ∙ ap (λ (go : Action Inits). doing zs h.arrays >>= (λ u. go)) stays)
        ∙ (then_then (doing zs h.arrays) (λ u. gives (inits (i ∷ rest))) (next_step a o h value)
        ∙ (ap (λ (go : Action Rest). doing zs h.arrays >>= (λ u. go)) (step ∙ behind_one zs rest i h env z)
        ∙ (sym (then_then (doing zs h.arrays) (λ u. doing (i ∷ []) h.arrays) (λ u. gives (rest_at rest h env (arrays_in_inits (inits (zs ++ i ∷ []))))))
        ∙ ap (λ (go : Action (Unit {0})). go >>= (λ u. gives (rest_at rest h env (arrays_in_inits (inits (zs ++ i ∷ [])))))) (sym (append_does zs (i ∷ []) h.arrays ∙ (ap (λ n. doing zs h.arrays >>= (λ u. doing (i ∷ []) (h.arrays + n))) (zero_arrays zs z) ∙ ap (λ n. doing zs h.arrays >>= (λ u. doing (i ∷ []) n)) (add-zero h.arrays)))))));
  }

  -- a value that is stored in a part, with the place behind it
  pub stored_is : (path : Path) (w : Typed) (n : ℕ) (k : Here) (rest : List Init) (value : Action (Datum × Here)) → value ≡ (value_of a w (t_exp a enter w n) >>= (λ d. gives (d, k)))
      → stores_value a o path (inits rest) value ≡ (stores a o path (value_of a w (t_exp a enter w n)) >>= (λ u. gives (record { steps = inits rest; here = k })))
  stored_is path w n k rest value e =
      ap (λ (go : Action (Datum × Here)). go >>= (λ x. store_part a o path x.0 >>= (λ u. gives (record { steps = inits rest; here = x.1 })))) e
      ∙ (then_then (value_of a w (t_exp a enter w n)) (λ d. gives (d, k)) (λ x. store_part a o path x.0 >>= (λ u. gives (record { steps = inits rest; here = x.1 })))
      ∙ sym (then_then (value_of a w (t_exp a enter w n)) (store_part a o path) (λ u. gives (record { steps = inits rest; here = k }))))
