-- Device: composites of functions and of their parameters.
use Rattle.std.proofs.Common.{◌≡◌, ℕ, zero, suc, ◌+◌, ◌<◌, ◌≤◌, Bool, true, false, List, [], ◌∷◌, ◌++◌, length, get_or, drop, Option, Some, None, Result, IfOk, refl, sym, ap, ◌∙◌, subst, arith, length-append, add-one}
use Rattle.cil_base.specs.declared.numbers.TypeId.{TypeId}
use Rattle.type_graph.specs.Shapes.{Shape, Shapes, VoidType, IntType, PtrType, ArrayType, FuncType, AggType, NoTypes, MoreTypes, shape, shapes_of}
use Rattle.type_graph.specs.Arena.{Graph, EachType}
use Rattle.type_graph.specs.Growth.{Grows}
use Rattle.type_graph.proofs.ShapeLaws.{kept, shapes_of-same}
use Rattle.type_compat.specs.declared.composites.Function.{Function}
use Rattle.type_compat.specs.Composed.{composite_shape, composite_shapes}
use Rattle.type_compat.specs.Functions.{is_function, IsFunction, PartsBelow, first_with, composite_with, then_types}
use Rattle.type_compat.proofs.Parameters.{each_more, dropped}

pub more_nodes : (g h : Graph) → Grows g h → length g.nodes ≤ length h.nodes
more_nodes g h e = omega (arith, ap length e.nodes.1, length-append g.nodes e.nodes.0)

pub kept_list : (g h : Graph) (ts : List TypeId) → Grows g h → EachType (length g.nodes) ts → shapes_of (shape h.nodes) ts ≡ shapes_of (shape g.nodes) ts
kept_list g h ts e each = shapes_of-same (shape h.nodes) (shape g.nodes) (length g.nodes) ts each (λ k l. kept g h k e l)

pub parts_at : (n : ℕ) (o : Option Function) (f : Function) → o ≡ Some f → PartsBelow n o → (f.ret.0 < n) × EachType n f.params.items
parts_at n o f e h = subst (PartsBelow n) e h

pub function_at : (at : ℕ → Shape) (o : Option Function) (f : Function) (s : Shape) → o ≡ Some f → IsFunction at o s → s ≡ FuncType (at f.ret.0) (shapes_of at f.params.items) f.proto f.variadic
function_at at o f s e h = subst (λ (x : Option Function). IsFunction at x s) e h

pub no_function : (at : ℕ → Shape) (o : Option Function) (s : Shape) → ((f : Function) → o ≡ Some f → ⊥) → IsFunction at o s → is_function s ≡ false
no_function at None s n h = h
no_function at (Some f) s n h = absurd (n f refl)

pub not_a_function : (s : Shape) (f : Shape) → is_function f ≡ true → is_function s ≡ false → f ≡ composite_shape f s
not_a_function s VoidType h e = refl
not_a_function s (IntType kind) h e = refl
not_a_function s (PtrType quals t) h e = cc
not_a_function s (ArrayType quals t bound) h e = cc
not_a_function s (AggType a) h e = refl
not_a_function VoidType (FuncType r ps true v) h e = refl
not_a_function (IntType kind) (FuncType r ps true v) h e = refl
not_a_function (PtrType quals s) (FuncType r ps true v) h e = refl
not_a_function (ArrayType quals s bound) (FuncType r ps true v) h e = refl
not_a_function (AggType a) (FuncType r ps true v) h e = refl
not_a_function (FuncType u qs sp w) (FuncType r ps true v) h e = cc
not_a_function VoidType (FuncType r ps false v) h e = refl
not_a_function (IntType kind) (FuncType r ps false v) h e = refl
not_a_function (PtrType quals s) (FuncType r ps false v) h e = refl
not_a_function (ArrayType quals s bound) (FuncType r ps false v) h e = refl
not_a_function (AggType a) (FuncType r ps false v) h e = refl
not_a_function (FuncType u qs sp w) (FuncType r ps false v) h e = cc

target_first : (r u : Shape) (ps qs : Shapes) (fp sp fv sv : Bool) → sp ≡ false → FuncType (composite_shape r u) ps fp fv ≡ composite_shape (FuncType r ps fp fv) (FuncType u qs sp sv)
target_first r u ps qs true true fv sv e = cc
target_first r u ps qs true false fv sv e = refl
target_first r u ps qs false true fv sv e = cc
target_first r u ps qs false false fv sv e = refl

target_second : (r u : Shape) (ps qs : Shapes) (fp sp fv sv : Bool) → fp ≡ false → sp ≡ true → FuncType (composite_shape r u) qs true sv ≡ composite_shape (FuncType r ps fp fv) (FuncType u qs sp sv)
target_second r u ps qs true sp fv sv d e = cc
target_second r u ps qs false true fv sv d e = refl
target_second r u ps qs false false fv sv d e = cc

target_both : (r u : Shape) (ps qs : Shapes) (fp sp fv sv : Bool) → fp ≡ true → sp ≡ true → FuncType (composite_shape r u) (composite_shapes ps qs) true fv ≡ composite_shape (FuncType r ps fp fv) (FuncType u qs sp sv)
target_both r u ps qs false sp fv sv d e = cc
target_both r u ps qs true true fv sv d e = refl
target_both r u ps qs true false fv sv d e = cc

-- an answer whose shape is equal to what was asked for
pub becomes : {E : Type 0} (r : Result TypeId E) (k : Graph) (s target : Shape) → s ≡ target → IfOk r (λ (t : TypeId). shape k.nodes t.0 ≡ s) → IfOk r (λ (t : TypeId). shape k.nodes t.0 ≡ target)
becomes r k s target e h = subst (λ (x : Shape). IfOk r (λ (t : TypeId). shape k.nodes t.0 ≡ x)) e h

func_same : (r s : Shape) (ps qs : Shapes) (p v : Bool) → r ≡ s → ps ≡ qs → FuncType r ps p v ≡ FuncType s qs p v
func_same r s ps qs p v e f = ap (λ (x : Shape). FuncType x ps p v) e ∙ ap (λ (xs : Shapes). FuncType s xs p v) f

module _ (g h : Graph) (e : Grows g h) (a b : ℕ) (f s : Function) (ret : TypeId)
    (first : shape g.nodes a ≡ FuncType (shape g.nodes f.ret.0) (shapes_of (shape g.nodes) f.params.items) f.proto f.variadic)
    (second : shape g.nodes b ≡ FuncType (shape g.nodes s.ret.0) (shapes_of (shape g.nodes) s.params.items) s.proto s.variadic)
    (is : shape h.nodes ret.0 ≡ composite_shape (shape g.nodes f.ret.0) (shape g.nodes s.ret.0)) where
  both_are : composite_shape (FuncType (shape g.nodes f.ret.0) (shapes_of (shape g.nodes) f.params.items) f.proto f.variadic) (FuncType (shape g.nodes s.ret.0) (shapes_of (shape g.nodes) s.params.items) s.proto s.variadic) ≡ composite_shape (shape g.nodes a) (shape g.nodes b)
  both_are = ap (λ (x : Shape). composite_shape x (FuncType (shape g.nodes s.ret.0) (shapes_of (shape g.nodes) s.params.items) s.proto s.variadic)) (sym first) ∙ ap (composite_shape (shape g.nodes a)) (sym second)

  pub keeps_first : EachType (length g.nodes) f.params.items → s.proto ≡ false → FuncType (shape h.nodes ret.0) (shapes_of (shape h.nodes) f.params.items) f.proto f.variadic ≡ composite_shape (shape g.nodes a) (shape g.nodes b)
  keeps_first each no_proto =
      func_same (shape h.nodes ret.0) (composite_shape (shape g.nodes f.ret.0) (shape g.nodes s.ret.0)) (shapes_of (shape h.nodes) f.params.items) (shapes_of (shape g.nodes) f.params.items) f.proto f.variadic is (kept_list g h f.params.items e each)
      ∙ target_first (shape g.nodes f.ret.0) (shape g.nodes s.ret.0) (shapes_of (shape g.nodes) f.params.items) (shapes_of (shape g.nodes) s.params.items) f.proto s.proto f.variadic s.variadic no_proto ∙ both_are

  pub takes_second : EachType (length g.nodes) s.params.items → f.proto ≡ false → s.proto ≡ true → FuncType (shape h.nodes ret.0) (shapes_of (shape h.nodes) s.params.items) true s.variadic ≡ composite_shape (shape g.nodes a) (shape g.nodes b)
  takes_second each no_proto proto =
      func_same (shape h.nodes ret.0) (composite_shape (shape g.nodes f.ret.0) (shape g.nodes s.ret.0)) (shapes_of (shape h.nodes) s.params.items) (shapes_of (shape g.nodes) s.params.items) true s.variadic is (kept_list g h s.params.items e each)
      ∙ target_second (shape g.nodes f.ret.0) (shape g.nodes s.ret.0) (shapes_of (shape g.nodes) f.params.items) (shapes_of (shape g.nodes) s.params.items) f.proto s.proto f.variadic s.variadic no_proto proto ∙ both_are

  pub joins_both : (k : Graph) → Grows h k → ret.0 < length h.nodes → EachType (length g.nodes) f.params.items → EachType (length g.nodes) s.params.items → f.proto ≡ true → s.proto ≡ true → (ps : List TypeId) → shapes_of (shape k.nodes) ps ≡ composite_shapes (shapes_of (shape h.nodes) f.params.items) (shapes_of (shape h.nodes) s.params.items) → FuncType (shape k.nodes ret.0) (shapes_of (shape k.nodes) ps) true f.variadic ≡ composite_shape (shape g.nodes a) (shape g.nodes b)
  joins_both k more there each other proto second_proto ps params =
      func_same (shape k.nodes ret.0) (composite_shape (shape g.nodes f.ret.0) (shape g.nodes s.ret.0)) (shapes_of (shape k.nodes) ps) (composite_shapes (shapes_of (shape g.nodes) f.params.items) (shapes_of (shape g.nodes) s.params.items)) true f.variadic
      (kept h k ret.0 more there ∙ is)
      (params ∙ ap (λ (xs : Shapes). composite_shapes xs (shapes_of (shape h.nodes) s.params.items)) (kept_list g h f.params.items e each) ∙ ap (composite_shapes (shapes_of (shape g.nodes) f.params.items)) (kept_list g h s.params.items e other))
      ∙ target_both (shape g.nodes f.ret.0) (shape g.nodes s.ret.0) (shapes_of (shape g.nodes) f.params.items) (shapes_of (shape g.nodes) s.params.items) f.proto s.proto f.variadic s.variadic proto second_proto ∙ both_are

-- parameters one by one
tail_of : List TypeId → List TypeId
tail_of [] = []
tail_of (q ∷ qs) = qs

drop_nil : (i : ℕ) → drop {A = TypeId} i [] ≡ []
drop_nil zero = refl
drop_nil (suc i) = refl

drop_tail : (qs : List TypeId) (i : ℕ) → drop (suc i) qs ≡ tail_of (drop i qs)
unfolding tail_of
drop_tail [] i = sym (ap tail_of (drop_nil i))
drop_tail (q ∷ qs) zero = refl
drop_tail (q ∷ qs) (suc i) = drop_tail qs i

none_more : (ss : Shapes) → composite_shapes ss NoTypes ≡ ss
none_more NoTypes = refl
none_more (MoreTypes s ss) = refl

comp_tail : (at : ℕ → Shape) (p : TypeId) (rest qs : List TypeId) → composite_shapes (shapes_of at (p ∷ rest)) (shapes_of at qs) ≡ MoreTypes (first_with at (at p.0) qs) (composite_shapes (shapes_of at rest) (shapes_of at (tail_of qs)))
unfolding tail_of
comp_tail at p rest [] = ap (MoreTypes (at p.0)) (sym (none_more (shapes_of at rest)))
comp_tail at p rest (q ∷ qs) = refl

comp_next : (at : ℕ → Shape) (ps qs : List TypeId) (i : ℕ) (d : TypeId) → i < length ps → composite_shapes (shapes_of at (drop i ps)) (shapes_of at (drop i qs)) ≡ MoreTypes (composite_with at (at (get_or ps i d).0) qs i) (composite_shapes (shapes_of at (drop (i + 1) ps)) (shapes_of at (drop (i + 1) qs)))
comp_next at ps qs i d h =
    ap (λ (ts : List TypeId). composite_shapes (shapes_of at ts) (shapes_of at (drop i qs))) (dropped ps i d h)
    ∙ comp_tail at (get_or ps i d) (drop (i + 1) ps) (drop i qs)
    ∙ ap (λ (ts : List TypeId). MoreTypes (composite_with at (at (get_or ps i d).0) qs i) (composite_shapes (shapes_of at (drop (i + 1) ps)) (shapes_of at ts))) (sym (drop_tail qs i) ∙ ap (λ k. drop k qs) (sym (add-one i)))

then_push : (at : ℕ → Shape) (done : List TypeId) (t : TypeId) (ss : Shapes) → then_types (shapes_of at (done ++ t ∷ [])) ss ≡ then_types (shapes_of at done) (MoreTypes (at t.0) ss)
then_push at [] t ss = refl
then_push at (x ∷ done) t ss = ap (MoreTypes (at x.0)) (then_push at done t ss)

pub then_none : (at : ℕ → Shape) (ts : List TypeId) → then_types (shapes_of at ts) NoTypes ≡ shapes_of at ts
then_none at [] = refl
then_none at (t ∷ ts) = ap (MoreTypes (at t.0)) (then_none at ts)

each_drop : (n : ℕ) (ts : List TypeId) (i : ℕ) → EachType n ts → EachType n (drop i ts)
each_drop n [] zero h = h
each_drop n [] (suc i) h = h
each_drop n (t ∷ ts) zero h = h
each_drop n (t ∷ ts) (suc i) h = each_drop n ts i h.1

first_same : (f g : ℕ → Shape) (n : ℕ) (r s : Shape) (qs : List TypeId) → EachType n qs → ((k : ℕ) → k < n → f k ≡ g k) → r ≡ s → first_with f r qs ≡ first_with g s qs
first_same f g n r s [] h e q = q
first_same f g n r s (x ∷ qs) h e q = ap (λ (y : Shape). composite_shape y (f x.0)) q ∙ ap (composite_shape s) (e x.0 h.0)

each_push : (n : ℕ) (ts : List TypeId) (t : TypeId) → EachType n ts → t.0 < n → EachType n (ts ++ t ∷ [])
each_push n [] t h l = (l, tt)
each_push n (x ∷ ts) t h l = (h.0, each_push n ts t h.1 l)

pub there_next : (g h : Graph) (done new : List TypeId) (t : TypeId) → Grows g h → EachType (length g.nodes) done → t.0 < length h.nodes → new ≡ done ++ t ∷ [] → EachType (length h.nodes) new
there_next g h done new t e each l q = subst (EachType (length h.nodes)) (sym q) (each_push (length h.nodes) done t (each_more (length g.nodes) (length h.nodes) done (more_nodes g h e) each) l)

pub is_next : (f g h : Graph) (ps qs done new : List TypeId) (i : ℕ) (d t : TypeId) (whole : Shapes) → Grows f g → Grows g h → EachType (length f.nodes) qs → i < length ps → (get_or ps i d).0 < length f.nodes → EachType (length g.nodes) done → new ≡ done ++ t ∷ []
    → shape h.nodes t.0 ≡ composite_with (shape g.nodes) (shape g.nodes (get_or ps i d).0) qs i
    → then_types (shapes_of (shape g.nodes) done) (composite_shapes (shapes_of (shape f.nodes) (drop i ps)) (shapes_of (shape f.nodes) (drop i qs))) ≡ whole
    → then_types (shapes_of (shape h.nodes) new) (composite_shapes (shapes_of (shape f.nodes) (drop (i + 1) ps)) (shapes_of (shape f.nodes) (drop (i + 1) qs))) ≡ whole
is_next f g h ps qs done new i d t whole first second each within param there q is before =
    ap (λ (ts : List TypeId). then_types (shapes_of (shape h.nodes) ts) (composite_shapes (shapes_of (shape f.nodes) (drop (i + 1) ps)) (shapes_of (shape f.nodes) (drop (i + 1) qs)))) q
    ∙ then_push (shape h.nodes) done t (composite_shapes (shapes_of (shape f.nodes) (drop (i + 1) ps)) (shapes_of (shape f.nodes) (drop (i + 1) qs)))
    ∙ ap (λ (ss : Shapes). then_types ss (MoreTypes (shape h.nodes t.0) (composite_shapes (shapes_of (shape f.nodes) (drop (i + 1) ps)) (shapes_of (shape f.nodes) (drop (i + 1) qs))))) (kept_list g h done second there)
    ∙ ap (λ (s : Shape). then_types (shapes_of (shape g.nodes) done) (MoreTypes s (composite_shapes (shapes_of (shape f.nodes) (drop (i + 1) ps)) (shapes_of (shape f.nodes) (drop (i + 1) qs))))) (is ∙ same)
    ∙ ap (then_types (shapes_of (shape g.nodes) done)) (sym (comp_next (shape f.nodes) ps qs i d within))
    ∙ before
  where
    same : composite_with (shape g.nodes) (shape g.nodes (get_or ps i d).0) qs i ≡ composite_with (shape f.nodes) (shape f.nodes (get_or ps i d).0) qs i
    same = first_same (shape g.nodes) (shape f.nodes) (length f.nodes) (shape g.nodes (get_or ps i d).0) (shape f.nodes (get_or ps i d).0) (drop i qs) (each_drop (length f.nodes) qs i each) (λ k l. kept f g k first l) (kept f g (get_or ps i d).0 first param)
