-- Device: what an arena gains where a type is made of parts.
use Rattle.std.proofs.Common.{◌≡◌, ℕ, ◌<◌, ◌≤◌, Bool, true, false, nat_lt, List, [], ◌∷◌, ◌++◌, length, Option, Result, Ok, Err, IfOk, refl, sym, ap, ◌∙◌, subst, ltb-false, length-append, arith}
use borrow.Author.Tests.{ltb-true}
use Rattle.cil_base.specs.declared.numbers.TypeId.{TypeId}
use Rattle.type_graph.specs.declared.nodes.QualType.{QualType}
use Rattle.type_graph.specs.declared.nodes.Node.TheVariants.{Ptr, Array}
use Rattle.type_graph.specs.Shapes.{Shape, Shapes, PtrType, ArrayType, FuncType, NoTypes, MoreTypes, shape, shapes_of}
use Rattle.type_graph.specs.Arena.{Graph, EachType}
use Rattle.type_graph.specs.Growth.{Grows, AddsNode, GainsOnly}
use Rattle.type_graph.proofs.GrowthLaws.{gains_one}
use Rattle.type_graph.proofs.ShapeLaws.{kept}
use Rattle.type_compat.specs.Parts.{IsPart, Itself, Pointee, Element, Returned, Parameter, IsAmong, First, Later, GainsParts, GainsAmong}
use Rattle.type_compat.proofs.Composing.{kept_list}

pub no_gain : (g : Graph) (s : Shape) → GainsParts g g s
no_gain g s = record { each = λ v past below. absurd (omega (arith, past, below)) }

pub none_gained : (g : Graph) (ss : Shapes) → GainsAmong g g ss
none_gained g ss = record { each = λ v past below. absurd (omega (arith, past, below)) }

-- a type is made, behind others of which each is a part of it
pub with_parts : (g h k : Graph) (t : ℕ) (s : Shape) → Grows h k → GainsOnly h k t → shape k.nodes t ≡ s → ((v : ℕ) → length g.nodes ≤ v → v < length h.nodes → IsPart (shape h.nodes v) s) → GainsParts g k (shape k.nodes t)
with_parts g h k t s grows only is parts = record { each = λ v past below. by v past below (nat_lt v (length h.nodes)) refl }
  where
    by : (v : ℕ) → length g.nodes ≤ v → v < length k.nodes → (b : Bool) → nat_lt v (length h.nodes) ≡ b → IsPart (shape k.nodes v) (shape k.nodes t)
    by v past below true old =
        subst (λ (x : Shape). IsPart (shape k.nodes v) x) (sym is)
        (subst (λ (x : Shape). IsPart x s) (sym (kept h k v grows (ltb-true _ _ old))) (parts v past (ltb-true _ _ old)))
    by v past below false new =
        subst (λ (u : ℕ). IsPart (shape k.nodes v) (shape k.nodes u)) (only.only v (ltb-false _ _ new) below) (Itself (shape k.nodes v))

pub pointer_made : {E : Type 0} (r : Result TypeId E) (g h k : Graph) (q : QualType) → GainsParts g h (shape h.nodes q.of.0) → Grows h k → IfOk r (λ (t : TypeId). AddsNode h k (Ptr q) t.0) → IfOk r (λ (t : TypeId). shape k.nodes t.0 ≡ PtrType q.quals (shape h.nodes q.of.0))
    → IfOk r (λ (t : TypeId). GainsParts g k (shape k.nodes t.0))
pointer_made (Ok t) g h k q gains grows adds is =
    with_parts g h k t.0 (PtrType q.quals (shape h.nodes q.of.0)) grows (gains_one h k (Ptr q) t.0 grows adds) is (λ v past below. Pointee (shape h.nodes v) (shape h.nodes q.of.0) q.quals (gains.each v past below))
pointer_made (Err e) g h k q gains grows adds is = adds

pub array_made : {E : Type 0} (r : Result TypeId E) (g h k : Graph) (q : QualType) (bound : Option ℕ) → GainsParts g h (shape h.nodes q.of.0) → Grows h k → IfOk r (λ (t : TypeId). AddsNode h k (Array q bound) t.0) → IfOk r (λ (t : TypeId). shape k.nodes t.0 ≡ ArrayType q.quals (shape h.nodes q.of.0) bound)
    → IfOk r (λ (t : TypeId). GainsParts g k (shape k.nodes t.0))
array_made (Ok t) g h k q bound gains grows adds is =
    with_parts g h k t.0 (ArrayType q.quals (shape h.nodes q.of.0) bound) grows (gains_one h k (Array q bound) t.0 grows adds) is (λ v past below. Element (shape h.nodes v) (shape h.nodes q.of.0) q.quals bound (gains.each v past below))
array_made (Err e) g h k q bound gains grows adds is = adds

pub function_gains : (g h k : Graph) (ret t : ℕ) (ps : Shapes) (proto variadic : Bool) → GainsParts g h (shape h.nodes ret) → Grows h k → GainsOnly h k t → shape k.nodes t ≡ FuncType (shape h.nodes ret) ps proto variadic → GainsParts g k (shape k.nodes t)
function_gains g h k ret t ps proto variadic gains grows only is =
    with_parts g h k t (FuncType (shape h.nodes ret) ps proto variadic) grows only is (λ v past below. Returned (shape h.nodes v) (shape h.nodes ret) ps proto variadic (gains.each v past below))

pub parameters_gain : (g h i k : Graph) (ret t : ℕ) (ps : Shapes) (proto variadic : Bool) → ret < length h.nodes → GainsParts g h (shape h.nodes ret) → Grows h i → GainsAmong h i ps → Grows i k → GainsOnly i k t
    → shape k.nodes t ≡ FuncType (shape i.nodes ret) ps proto variadic → GainsParts g k (shape k.nodes t)
parameters_gain g h i k ret t ps proto variadic there gains first among grows only is =
    with_parts g i k t (FuncType (shape i.nodes ret) ps proto variadic) grows only is (λ v past below. by v past below (nat_lt v (length h.nodes)) refl)
  where
    by : (v : ℕ) → length g.nodes ≤ v → v < length i.nodes → (b : Bool) → nat_lt v (length h.nodes) ≡ b → IsPart (shape i.nodes v) (FuncType (shape i.nodes ret) ps proto variadic)
    by v past below true old =
        let part : IsPart (shape i.nodes v) (shape h.nodes ret) = subst (λ (x : Shape). IsPart x (shape h.nodes ret)) (sym (kept h i v first (ltb-true _ _ old))) (gains.each v past (ltb-true _ _ old)) in
        Returned (shape i.nodes v) (shape i.nodes ret) ps proto variadic (subst (λ (x : Shape). IsPart (shape i.nodes v) x) (sym (kept h i ret first there)) part)
    by v past below false new = Parameter (shape i.nodes v) (shape i.nodes ret) ps proto variadic (among.each v (ltb-false _ _ new) below)

among_none : (s : Shape) (ss : Shapes) → IsAmong s ss → ss ≡ NoTypes → ⊥
among_none s ss (First _ t ts p) e = cc
among_none s ss (Later _ t ts p) e = cc

among_first : (at : ℕ → Shape) (s : Shape) (ts us : List TypeId) → IsAmong s (shapes_of at ts) → IsAmong s (shapes_of at (ts ++ us))
among_first at s [] us h = absurd (among_none s NoTypes h refl)
among_first at s (t ∷ ts) us (First _ _ _ p) = First s (at t.0) (shapes_of at (ts ++ us)) p
among_first at s (t ∷ ts) us (Later _ _ _ p) = Later s (at t.0) (shapes_of at (ts ++ us)) (among_first at s ts us p)

among_last : (at : ℕ → Shape) (s : Shape) (ts : List TypeId) (u : TypeId) → IsPart s (at u.0) → IsAmong s (shapes_of at (ts ++ u ∷ []))
among_last at s [] u p = First s (at u.0) (shapes_of at []) p
among_last at s (t ∷ ts) u p = Later s (at t.0) (shapes_of at (ts ++ u ∷ [])) (among_last at s ts u p)

-- one more parameter is composed
pub among_next : (g h k : Graph) (done new : List TypeId) (t : TypeId) → GainsAmong g h (shapes_of (shape h.nodes) done) → Grows h k → EachType (length h.nodes) done → GainsParts h k (shape k.nodes t.0) → new ≡ done ++ t ∷ [] → GainsAmong g k (shapes_of (shape k.nodes) new)
among_next g h k done new t among grows there gains pushed = subst (λ (ts : List TypeId). GainsAmong g k (shapes_of (shape k.nodes) ts)) (sym pushed) (record { each = λ v past below. by v past below (nat_lt v (length h.nodes)) refl })
  where
    by : (v : ℕ) → length g.nodes ≤ v → v < length k.nodes → (b : Bool) → nat_lt v (length h.nodes) ≡ b → IsAmong (shape k.nodes v) (shapes_of (shape k.nodes) (done ++ t ∷ []))
    by v past below true old =
        let was : IsAmong (shape k.nodes v) (shapes_of (shape h.nodes) done) = subst (λ (x : Shape). IsAmong x (shapes_of (shape h.nodes) done)) (sym (kept h k v grows (ltb-true _ _ old))) (among.each v past (ltb-true _ _ old)) in
        among_first (shape k.nodes) (shape k.nodes v) done (t ∷ []) (subst (λ (xs : Shapes). IsAmong (shape k.nodes v) xs) (sym (kept_list h k done grows there)) was)
    by v past below false new_one = among_last (shape k.nodes) (shape k.nodes v) done t (gains.each v (ltb-false _ _ new_one) below)
