-- Device: the arguments of a call, one by one, and the parameters of its function type.
use Rattle.std.proofs.Common.{◌≡◌, ℕ, zero, suc, ◌+◌, ◌<◌, ◌≤◌, Bool, true, false, ◌||◌, List, [], ◌∷◌, length, drop, get_or, slice_get, Option, Some, None, if◌then◌else◌, add-one, refl, sym, ap, ◌∙◌, subst, arith}
use Rattle.std.specs.Option.{option_map, option_and_then}
use Rattle.cil_base.specs.declared.numbers.TypeId.{TypeId}
use Rattle.type_graph.specs.declared.nodes.Node.{Node}
use Rattle.type_graph.specs.declared.nodes.Node.TheVariants as node
use Rattle.type_graph.specs.Arena.{Graph, IsArena}
use Rattle.type_graph.specs.Shapes.{Shape, Shapes, FuncType, NoTypes, MoreTypes, shape, shape_of as shape_of_node, shapes_of}
use Rattle.type_graph.proofs.Lists.{get_there}
use Rattle.type_graph.proofs.ShapeLaws.{shape_is}
use Rattle.unit_types.specs.declared.class.Class.TheVariants.{Func}
use Rattle.unit_types.specs.Classes.{Tells, param_of, params_of}
use Rattle.cast_rules.specs.declared.operands.Operand.{Operand}
use Rattle.cast_rules.specs.Called.{IsCallee}
use Rattle.cast_rules.specs.Calls.{shape_at, count_shapes, function_in, is_unassignable, first_from, is_any_unreadable}
use Rattle.cast_rules.specs.declared.calls.Callee.{Callee}
use Rattle.cast_rules.specs.Types.{is_unreadable}
use Rattle.cast_rules.specs.Values.{shape_of}
use Rattle.cast_rules.proofs.TypesThere.{function_there}

-- the argument at a place, and those behind it
from_at : (g : Graph) (ps : Shapes) (k i : ℕ) (es : List Operand) (d : Operand) → i < length es
    → first_from g ps k (drop i es) ≡ (if is_unassignable g (shape_at ps k) (get_or es i d) then Some k else first_from g ps (suc k) (drop (suc i) es))
from_at g ps k i [] d h = absurd (omega arith)
from_at g ps k zero (e ∷ es) d h = refl
from_at g ps k (suc i) (e ∷ es) d h = from_at g ps k i es d (omega arith)

pub wrong_here : (g : Graph) (ps : Shapes) (es : List Operand) (i : ℕ) (d : Operand) (b : Bool) → i < length es → b ≡ is_unassignable g (shape_at ps i) (get_or es i d) → b ≡ true
    → first_from g ps i (drop i es) ≡ first_from g ps 0 es → Some i ≡ first_from g ps 0 es
wrong_here g ps es i d b h e holds inv = sym (from_at g ps i i es d h ∙ ap (λ q. if q then Some i else first_from g ps (suc i) (drop (suc i) es)) (sym e ∙ holds)) ∙ inv

pub right_here : (g : Graph) (ps : Shapes) (es : List Operand) (i : ℕ) (d : Operand) (b : Bool) → i < length es → b ≡ is_unassignable g (shape_at ps i) (get_or es i d) → b ≡ false
    → first_from g ps i (drop i es) ≡ first_from g ps 0 es → first_from g ps (i + 1) (drop (i + 1) es) ≡ first_from g ps 0 es
right_here g ps es i d b h e fails inv =
    ap (λ k. first_from g ps k (drop k es)) (add-one i)
    ∙ sym (from_at g ps i i es d h ∙ ap (λ q. if q then Some i else first_from g ps (suc i) (drop (suc i) es)) (sym e ∙ fails)) ∙ inv

none_from : (g : Graph) (ps : Shapes) (k i : ℕ) (es : List Operand) → length es ≤ i → first_from g ps k (drop i es) ≡ None
none_from g ps k zero [] h = refl
none_from g ps k (suc i) [] h = refl
none_from g ps k zero (e ∷ es) h = absurd (omega arith)
none_from g ps k (suc i) (e ∷ es) h = none_from g ps k i es (omega arith)

pub all_right : (g : Graph) (ps : Shapes) (es : List Operand) (i : ℕ) → length es ≤ i → first_from g ps i (drop i es) ≡ first_from g ps 0 es → None ≡ first_from g ps 0 es
all_right g ps es i h inv = sym (none_from g ps i i es h) ∙ inv

-- the parameter at a place has the shape at that place
at_place : (at : ℕ → Shape) (params : List TypeId) (i : ℕ) → option_map (λ (p : TypeId). at p.0) (slice_get params i) ≡ shape_at (shapes_of at params) i
at_place at [] i = refl
at_place at (p ∷ params) zero = refl
at_place at (p ∷ params) (suc i) = at_place at params i

param_in : (nodes : List Node) (n : Node) (ret : Shape) (ps : Shapes) (proto variadic : Bool) (i : ℕ) → shape_of_node (shape nodes) n ≡ FuncType ret ps proto variadic
    → (params : List TypeId) × (params_of n ≡ Some params) × (shapes_of (shape nodes) params ≡ ps)
param_in nodes node.Void ret ps proto variadic i e = cc
param_in nodes (node.Int kind) ret ps proto variadic i e = cc
param_in nodes (node.Ptr q) ret ps proto variadic i e = cc
param_in nodes (node.Array q bound) ret ps proto variadic i e = cc
param_in nodes (node.Func p v r params) ret ps proto variadic i e = (params, refl, cc)
param_in nodes (node.Agg a) ret ps proto variadic i e = cc

-- a parameter of a function type, by its place
pub param_shape : (g : Graph) (t i : ℕ) (ret : Shape) (ps : Shapes) (proto variadic : Bool) → IsArena g → shape g.nodes t ≡ FuncType ret ps proto variadic → option_map (λ (p : TypeId). shape g.nodes p.0) (param_of g t i) ≡ shape_at ps i
param_shape g t i ret ps proto variadic arena is =
    let x = get_there g.nodes t (function_there g.nodes t ret ps proto variadic is) in
    let same : shape_of_node (shape g.nodes) x.0 ≡ FuncType ret ps proto variadic = sym (shape_is g.nodes t (length g.aggs) x.0 x.1 (arena.grounded t x.0 x.1)) ∙ is in
    let p = param_in g.nodes x.0 ret ps proto variadic i same in
    ap (λ (n : Option Node). option_map (λ (u : TypeId). shape g.nodes u.0) (option_and_then (λ us. slice_get us i) (option_and_then params_of n))) x.1
    ∙ ap (λ (o : Option (List TypeId)). option_map (λ (u : TypeId). shape g.nodes u.0) (option_and_then (λ us. slice_get us i) o)) p.1
    ∙ at_place (shape g.nodes) p.0 i
    ∙ ap (λ ss. shape_at ss i) p.2

-- whether one of them has no value

unreadable_at : (g : Graph) (i : ℕ) (es : List Operand) (d : Operand) → i < length es → is_any_unreadable g (drop i es) ≡ (is_unreadable g (shape_of g (get_or es i d)) || is_any_unreadable g (drop (suc i) es))
unreadable_at g i [] d h = absurd (omega arith)
unreadable_at g zero (e ∷ es) d h = refl
unreadable_at g (suc i) (e ∷ es) d h = unreadable_at g i es d (omega arith)

pub unreadable_here : (g : Graph) (es : List Operand) (i : ℕ) (d : Operand) (b : Bool) → i < length es → b ≡ is_unreadable g (shape_of g (get_or es i d)) → b ≡ true
    → is_any_unreadable g (drop i es) ≡ is_any_unreadable g es → true ≡ is_any_unreadable g es
unreadable_here g es i d b h e holds inv = sym (unreadable_at g i es d h ∙ ap (λ q. q || is_any_unreadable g (drop (suc i) es)) (sym e ∙ holds)) ∙ inv

pub readable_here : (g : Graph) (es : List Operand) (i : ℕ) (d : Operand) (b : Bool) → i < length es → b ≡ is_unreadable g (shape_of g (get_or es i d)) → b ≡ false
    → is_any_unreadable g (drop i es) ≡ is_any_unreadable g es → is_any_unreadable g (drop (i + 1) es) ≡ is_any_unreadable g es
readable_here g es i d b h e fails inv =
    ap (λ k. is_any_unreadable g (drop k es)) (add-one i)
    ∙ sym (unreadable_at g i es d h ∙ ap (λ q. q || is_any_unreadable g (drop (suc i) es)) (sym e ∙ fails)) ∙ inv

none_unreadable : (g : Graph) (i : ℕ) (es : List Operand) → length es ≤ i → is_any_unreadable g (drop i es) ≡ false
none_unreadable g zero [] h = refl
none_unreadable g (suc i) [] h = refl
none_unreadable g zero (e ∷ es) h = absurd (omega arith)
none_unreadable g (suc i) (e ∷ es) h = none_unreadable g i es (omega arith)

pub all_readable : (g : Graph) (es : List Operand) (i : ℕ) → length es ≤ i → is_any_unreadable g (drop i es) ≡ is_any_unreadable g es → false ≡ is_any_unreadable g es
all_readable g es i h inv = sym (none_unreadable g i es h) ∙ inv

count_of : (at : ℕ → Shape) (params : List TypeId) → count_shapes (shapes_of at params) ≡ length params
count_of at [] = refl
count_of at (p ∷ params) = ap suc (count_of at params)

-- what the class of a function type tells
pub callee_told : (g : Graph) (c : Callee) → Tells g c.of.0 (Func c.ret c.count c.proto c.variadic) → IsCallee g (function_in (shape g.nodes c.of.0)) (Some c)
callee_told g c told = subst (λ (s : Shape). IsCallee g (function_in s) (Some c)) (sym told.1) (record { of = told.1; ret = refl; count = count_of (shape g.nodes) told.0 ∙ told.2; proto = refl; variadic = refl })

-- an argument is tested against the parameter at its place
pub tested : (g : Graph) (f i : ℕ) (ret : Shape) (ps : Shapes) (proto variadic : Bool) (b : Bool) (o : Option TypeId) (es : List Operand) (e : Operand) → IsArena g → shape g.nodes f ≡ FuncType ret ps proto variadic → o ≡ param_of g f i → e ≡ get_or es i e
    → b ≡ is_unassignable g (option_map (λ (p : TypeId). shape g.nodes p.0) o) e → b ≡ is_unassignable g (shape_at ps i) (get_or es i e)
tested g f i ret ps proto variadic b o es e arena is found at test =
    test
    ∙ ap (λ (x : Option TypeId). is_unassignable g (option_map (λ (p : TypeId). shape g.nodes p.0) x) e) found
    ∙ ap (λ (s : Option Shape). is_unassignable g s e) (param_shape g f i ret ps proto variadic arena is)
    ∙ ap (λ (x : Operand). is_unassignable g (shape_at ps i) x) at
