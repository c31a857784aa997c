-- Device: what is put behind code, and places step by step.
use Rattle.std.proofs.Common.{◌≡◌, ℕ, zero, suc, append-nil, ◌<◌, ◌≤◌, Bool, true, false, not, ◌&&◌, List, [], ◌∷◌, ◌++◌, append_assoc, length, drop, take, take_all, if◌then◌else◌, get_or, Some, ◌||◌, Global as Alloc, refl, sym, ap, ◌∙◌, arith}
use Rattle.std.specs.declared.vec.Vec.{Vec}
use Rattle.cil_base.specs.declared.kinds.IntKind.TheVariants.{Int as int}
use Rattle.cil_base.specs.declared.numbers.EntityId.{EntityId}
use Rattle.cil_base.specs.declared.numbers.LocalId.{LocalId}
use Rattle.cil_base.specs.declared.numbers.TypeId.{TypeId}
use Rattle.type_graph.specs.declared.nodes.Node.{Node}
use Rattle.typed_tree.specs.declared.expressions.Logic.{Logic}
use Rattle.typed_tree.specs.declared.expressions.TypedExp.{TypedExp}
use Rattle.typed_tree.specs.declared.initialisers.Step.{Step}
use Rattle.typed_tree.specs.declared.initialisers.Step.TheVariants.{Field as ToField, Index as ToIndex}
use Rattle.cil_tree.specs.declared.expressions.Exp.{Exp}
use Rattle.cil_tree.specs.declared.expressions.Exp.TheViews as exps
use Rattle.cil_tree.specs.declared.expressions.Host.{Host, Global, Var, At'}
use Rattle.cil_tree.specs.declared.expressions.Lval.{Lval}
use Rattle.cil_tree.specs.declared.expressions.Offset.{Offset, Field, Index'}
use Rattle.cil_tree.specs.declared.statements.Callee.{Callee}
use Rattle.cil_tree.specs.declared.statements.Callee.TheVariants.{Through}
use Rattle.cil_tree.specs.declared.statements.Instr.TheVariants.{Set, Call, Zero}
use Rattle.cil_tree.specs.declared.statements.Stmt.{Stmt, Instr as Do}
use Rattle.cil_tree.specs.Tree as plain
use Rattle.cil_tree.specs.View.{exp_of, lval_of, host_of, offsets_of}
use Rattle.cil_tree.proofs.Views.{at_value, at_address, at_start}
use Rattle.cil_nodes.specs.Built.{IsConst, IsValue, IsBin, IsAddress, IsCast, IsAt, IsIf, IsField, IsElement, part_of, joined}
use Rattle.cil_nodes.proofs.Made.{field_is, element_is}
use Rattle.lower_parts.specs.declared.places.Kept.{Kept}
use Rattle.lower_parts.specs.declared.places.Kept.TheVariants.{Global as ToGlobal, Local as ToLocal, Behind}
use Rattle.lower_parts.specs.declared.results.Computing.{Computing}
use Rattle.lower_parts.specs.Code.{Extends, IsVariable, Saves, Reads, IsLeft, any_effect, before_last, IsCallee, CallsFor, is_variable, address, IsAddressOf, kept_place, Names, PutsAddress, Keeps, IsLeftPlace, is_found, is_variable_value, IsHeld, IsMemberOf, IsConverted, Computes, Chooses, IsTruth, Decides, step_before, offsets_on, IsStep, IsPart, StoresPart, Clears}
use Rattle.lower_parts.specs.Hosts.{IsHostAddress, IsWhole, is_behind}

pub extends_none : (old new : List Stmt) → new ≡ old → Extends old new
extends_none old new same = record { more = []; is = same ∙ sym (append-nil old) }

pub extends_one : (old new : List Stmt) (s : Stmt) → new ≡ old ++ s ∷ [] → Extends old new
extends_one old new s is = record { more = s ∷ []; is = is }

pub extends_twice : (one two three : List Stmt) → Extends one two → Extends two three → Extends one three
extends_twice one two three first second = record {
  more = first.more ++ second.more;
  is = second.is ∙ ap (λ xs. xs ++ second.more) first.is ∙ append_assoc one first.more second.more;
}

pub saves_in : (n : LocalId) (x : Exp) (place : Lval) (old new : List Stmt) → IsVariable n place → new ≡ old ++ Do (Set place x) ∷ [] → Saves n x old new
saves_in n x place old new variable is = record { place = place; variable = variable; is = is }

pub reads_from : (n : LocalId) (x : Exp) (place : Lval) → IsVariable n place → IsValue place x → Reads n x
reads_from n x place variable value = record { place = place; variable = variable; value = value }

pub left_stays : (b : Bool) (x y : Exp) (old new : List Stmt) → b ≡ false → y ≡ x → new ≡ old → IsLeft b x old new y
left_stays false x y old new e same none = (same, none)
left_stays true x y old new e same none = cc

pub left_saved : (b : Bool) (n : LocalId) (x y : Exp) (old new : List Stmt) → b ≡ true → Saves n x old new → Reads n y → IsLeft b x old new y
left_saved true n x y old new e saves reads = (n, saves, reads)
left_saved false n x y old new e saves reads = cc

-- kept places

variable_at : (nodes : List Node) (n : LocalId) (place : Lval) → IsVariable n place → lval_of nodes place ≡ plain.Place (plain.Var n.0) plain.Here
variable_at nodes n place v =
    ap (λ (h : Host). plain.Place (host_of nodes h) (offsets_of nodes place.offsets.items)) v.host
    ∙ ap (λ (os : List Offset). plain.Place (plain.Var n.0) (offsets_of nodes os)) v.whole

pub names_local : (n : LocalId) (place : Lval) → IsVariable n place → Names (ToLocal n) place
names_local n place v = record { at = λ nodes. variable_at nodes n place v }

pub names_global : (n : EntityId) (place : Lval) → place.host ≡ Global n → place.offsets.items ≡ [] → Names (ToGlobal n) place
names_global n place host whole = record {
  at = λ nodes.
      ap (λ (h : Host). plain.Place (host_of nodes h) (offsets_of nodes place.offsets.items)) host
      ∙ ap (λ (os : List Offset). plain.Place (plain.Global n.0) (offsets_of nodes os)) whole;
}

pub names_behind : (n : LocalId) (x : Exp) (h : Host) (place : Lval) → Reads n x → IsAt x h → place.host ≡ h → place.offsets.items ≡ [] → Names (Behind n) place
names_behind n x h place reads points host whole = record {
  at = λ nodes.
      ap (λ (k : Host). plain.Place (host_of nodes k) (offsets_of nodes place.offsets.items)) host
      ∙ ap (λ (os : List Offset). plain.Place (host_of nodes h) (offsets_of nodes os)) whole
      ∙ ap (λ k. plain.Place k plain.Here) (points.at nodes ∙ ap plain.At (reads.value.at nodes ∙ ap plain.Value (variable_at nodes n reads.place reads.variable)));
}

-- addresses

pub host_pointer : (host : Host) (x : Exp) → IsAt x host → IsHostAddress host x
host_pointer host x points = record { at = λ nodes. sym (ap (λ h. address (plain.Place h plain.Here)) (points.at nodes)) }

pub host_global : (n : EntityId) (place : Lval) (x : Exp) → place.host ≡ Global n → place.offsets.items ≡ [] → IsAddress place x → IsHostAddress (Global n) x
host_global n place x host whole is = record { at = λ nodes. is.at nodes ∙ ap plain.AddrOf ((names_global n place host whole).at nodes) }

pub host_local : (n : LocalId) (place : Lval) (x : Exp) → IsVariable n place → IsAddress place x → IsHostAddress (Var n) x
host_local n place x v is = record { at = λ nodes. is.at nodes ∙ ap plain.AddrOf (variable_at nodes n place v) }

nothing : (os : List Offset) → length os ≡ 0 → os ≡ []
nothing [] h = refl
nothing (o ∷ os) h = absurd (omega arith)

pub address_near : (place : Lval) (x : Exp) → length place.offsets.items ≡ 0 → IsHostAddress place.host x → IsAddressOf place x
address_near place x none is = record { at = λ nodes. is.at nodes ∙ sym (ap (λ (os : List Offset). address (plain.Place (host_of nodes place.host) (offsets_of nodes os))) (nothing place.offsets.items none)) }

far : (nodes : List Node) (h : plain.Host) (os : List Offset) → 0 < length os → address (plain.Place h (offsets_of nodes os)) ≡ plain.AddrOf (plain.Place h (offsets_of nodes os))
far nodes h [] more = absurd (omega arith)
far nodes (plain.Global n) (Field i ∷ os) more = refl
far nodes (plain.Var n) (Field i ∷ os) more = refl
far nodes (plain.At e) (Field i ∷ os) more = refl
far nodes (plain.Global n) (Index' p x ∷ os) more = refl
far nodes (plain.Var n) (Index' p x ∷ os) more = refl
far nodes (plain.At e) (Index' p x ∷ os) more = refl

pub address_far : (place : Lval) (x : Exp) → 0 < length place.offsets.items → IsAddress place x → IsAddressOf place x
address_far place x more is = record { at = λ nodes. is.at nodes ∙ sym (far nodes (host_of nodes place.host) place.offsets.items more) }

-- whole variables

pub whole_global : (n : EntityId) (place : Lval) → place.host ≡ Global n → length place.offsets.items ≡ 0 → IsWhole (ToGlobal n) place
whole_global n place host none = names_global n place host (nothing place.offsets.items none)

pub whole_local : (n : LocalId) (place : Lval) → place.host ≡ Var n → length place.offsets.items ≡ 0 → IsWhole (ToLocal n) place
whole_local n place host none = names_local n place (record { host = host; whole = nothing place.offsets.items none })

part_far : (nodes : List Node) (h : plain.Host) (os : List Offset) → 0 < length os → is_variable (plain.Place h (offsets_of nodes os)) ≡ false
part_far nodes h [] more = absurd (omega arith)
part_far nodes (plain.Global n) (Field i ∷ os) more = refl
part_far nodes (plain.Var n) (Field i ∷ os) more = refl
part_far nodes (plain.At e) (Field i ∷ os) more = refl
part_far nodes (plain.Global n) (Index' p x ∷ os) more = refl
part_far nodes (plain.Var n) (Index' p x ∷ os) more = refl
part_far nodes (plain.At e) (Index' p x ∷ os) more = refl

pub no_variable_far : (place : Lval) → 0 < length place.offsets.items → (nodes : List Node) → is_variable (lval_of nodes place) ≡ false
no_variable_far place more nodes = part_far nodes (host_of nodes place.host) place.offsets.items more

part_behind : (nodes : List Node) (h : Host) (os : plain.Offsets) → is_behind h ≡ true → is_variable (plain.Place (host_of nodes h) os) ≡ false
part_behind nodes (Global n) os e = cc
part_behind nodes (Var n) os e = cc
part_behind nodes (At' p x) plain.Here e = refl
part_behind nodes (At' p x) (plain.Field n os) e = refl
part_behind nodes (At' p x) (plain.Index i os) e = refl

pub no_variable_behind : (place : Lval) → is_behind place.host ≡ true → (nodes : List Node) → is_variable (lval_of nodes place) ≡ false
no_variable_behind place e nodes = part_behind nodes place.host (offsets_of nodes place.offsets.items) e

pub keeps_whole : (kept : Kept) (place : Lval) (old new : List Stmt) → IsWhole kept place → new ≡ old → Keeps kept place old new
keeps_whole (ToGlobal n) place old new whole same = (whole, same)
keeps_whole (ToLocal n) place old new whole same = (whole, same)
keeps_whole (Behind n) place old new whole same = absurd whole

whole_is_variable : (kept : Kept) (place : Lval) → IsWhole kept place → (nodes : List Node) → is_variable (lval_of nodes place) ≡ true
whole_is_variable (ToGlobal n) place whole nodes = ap is_variable (whole.at nodes)
whole_is_variable (ToLocal n) place whole nodes = ap is_variable (whole.at nodes)
whole_is_variable (Behind n) place whole nodes = absurd whole

pub keeps_behind : (n : LocalId) (place : Lval) (x : Exp) (old new : List Stmt) → ((nodes : List Node) → is_variable (lval_of nodes place) ≡ false) → IsAddressOf place x → Saves n x old new → Keeps (Behind n) place old new
keeps_behind n place x old new part address saves = record { part = part; pointer = x; address = address; saves = saves }

pub place_stays : (b : Bool) (place next : Lval) (old new : List Stmt) → b ≡ false → next ≡ place → new ≡ old → IsLeftPlace b place old new next
place_stays false place next old new e same none = (same, none)
place_stays true place next old new e same none = cc

pub place_kept : (b : Bool) (kept : Kept) (place next : Lval) (old new : List Stmt) → b ≡ true → Keeps kept place old new → Names kept next → IsLeftPlace b place old new next
place_kept true kept place next old new e keeps names = (kept, keeps, names)
place_kept false kept place next old new e keeps names = cc

-- members of values

pub value_whole : (x : Exp) (place : Lval) (kept : Kept) → x ≡ exps.Lval place → IsWhole kept place → (nodes : List Node) → is_variable_value (exp_of nodes x) ≡ true
value_whole x place kept is whole nodes = ap is_variable_value (at_value nodes x place is) ∙ whole_is_variable kept place whole nodes

pub value_far : (x : Exp) (place : Lval) → x ≡ exps.Lval place → ((nodes : List Node) → is_variable (lval_of nodes place) ≡ false) → (nodes : List Node) → is_variable_value (exp_of nodes x) ≡ false
value_far x place is far nodes = ap is_variable_value (at_value nodes x place is) ∙ far nodes

pub address_apart : (x : Exp) (place : Lval) → x ≡ exps.AddrOf place → (nodes : List Node) → is_variable_value (exp_of nodes x) ≡ false
address_apart x place is nodes = ap is_variable_value (at_address nodes x place is)

pub start_apart : (x : Exp) (place : Lval) → x ≡ exps.StartOf place → (nodes : List Node) → is_variable_value (exp_of nodes x) ≡ false
start_apart x place is nodes = ap is_variable_value (at_start nodes x place is)

pub held_apart : (e : TypedExp) (x y : Exp) (old new : List Stmt) → is_found e.node.value ≡ false → y ≡ x → new ≡ old → IsHeld e x old new y
held_apart e x y old new apart same none = record { at = λ nodes. left_stays (is_found e.node.value && not (is_variable_value (exp_of nodes x))) x y old new (ap (λ b. b && not (is_variable_value (exp_of nodes x))) apart) same none }

pub held_whole : (e : TypedExp) (x y : Exp) (old new : List Stmt) → ((nodes : List Node) → is_variable_value (exp_of nodes x) ≡ true) → y ≡ x → new ≡ old → IsHeld e x old new y
held_whole e x y old new whole same none = record { at = λ nodes. left_stays (is_found e.node.value && not (is_variable_value (exp_of nodes x))) x y old new (ap (λ b. is_found e.node.value && not b) (whole nodes) ∙ both (is_found e.node.value)) same none } where
  both : (b : Bool) → (b && false) ≡ false
  both false = refl
  both true = refl

pub held_saved : (e : TypedExp) (n : LocalId) (x y : Exp) (old new : List Stmt) → is_found e.node.value ≡ true → ((nodes : List Node) → is_variable_value (exp_of nodes x) ≡ false) → Saves n x old new → Reads n y → IsHeld e x old new y
held_saved e n x y old new found part saves reads = record { at = λ nodes. left_saved (is_found e.node.value && not (is_variable_value (exp_of nodes x))) n x y old new (ap (λ b. b && not (is_variable_value (exp_of nodes x))) found ∙ ap not (part nodes)) saves reads }

pub member_read : (x y : Exp) (place part : Lval) (i : ℕ) → x ≡ exps.Lval place → IsField place i part → IsValue part y → IsMemberOf x i y
member_read x y place part i is member value = record { place = place; value = record { at = λ nodes. at_value nodes x place is }; part = part; member = member; read = value }

-- calls

any_here : (all : List TypedExp) (i : ℕ) (d : TypedExp) → i < length all → any_effect (drop i all) ≡ ((get_or all i d).effect || any_effect (drop (suc i) all))
any_here [] i d h = absurd (omega arith)
any_here (x ∷ xs) zero d h = refl
any_here (x ∷ xs) (suc i) d h = any_here xs i d (omega arith)

pub any_next : (all : List TypedExp) (i : ℕ) (d : TypedExp) → i < length all → (get_or all i d).effect ≡ false → any_effect (drop i all) ≡ any_effect all → any_effect (drop (suc i) all) ≡ any_effect all
any_next all i d h none so = sym (any_here all i d h ∙ ap (λ b. b || any_effect (drop (suc i) all)) none) ∙ so

pub any_found : (all : List TypedExp) (i : ℕ) (d : TypedExp) → i < length all → (get_or all i d).effect ≡ true → any_effect (drop i all) ≡ any_effect all → any_effect all ≡ true
any_found all i d h found so = sym so ∙ any_here all i d h ∙ ap (λ b. b || any_effect (drop (suc i) all)) found

none_left : (all : List TypedExp) (i : ℕ) → length all ≤ i → any_effect (drop i all) ≡ false
none_left [] zero h = refl
none_left [] (suc i) h = refl
none_left (x ∷ xs) zero h = absurd (omega arith)
none_left (x ∷ xs) (suc i) h = none_left xs i (omega arith)

pub any_end : (all : List TypedExp) (i : ℕ) → length all ≤ i → any_effect (drop i all) ≡ any_effect all → any_effect all ≡ false
any_end all i h so = sym so ∙ none_left all i h

any_more : (all : List TypedExp) (i : ℕ) (d : TypedExp) → i < length all → any_effect (take (suc i) all) ≡ (any_effect (take i all) || (get_or all i d).effect)
any_more [] i d h = absurd (omega arith)
any_more (x ∷ xs) zero d h = either x.effect where
  either : (b : Bool) → (b || false) ≡ (false || b)
  either false = refl
  either true = refl
any_more (x ∷ xs) (suc i) d h = ap (λ b. x.effect || b) (any_more xs i d (omega arith)) ∙ sym (or_twice x.effect (any_effect (take i xs)) (get_or xs i d).effect) where
  or_twice : (a b c : Bool) → ((a || b) || c) ≡ (a || (b || c))
  or_twice false b c = refl
  or_twice true b c = refl

last_step : (a b : Bool) (n i : ℕ) → (if (a || b) then suc (if b then i else n) else 0) ≡ (if b then suc i else (if a then suc n else 0))
last_step false false n i = refl
last_step false true n i = refl
last_step true false n i = refl
last_step true true n i = refl

last_next : (all : List TypedExp) (i : ℕ) (d : TypedExp) → i < length all → before_last (take (suc i) all) ≡ (if (get_or all i d).effect then i else before_last (take i all))
last_next [] i d h = absurd (omega arith)
last_next (x ∷ xs) zero d h = either x.effect 0 where
  either : (b : Bool) (n : ℕ) → n ≡ (if b then n else n)
  either false n = refl
  either true n = refl
last_next (x ∷ xs) (suc i) d h =
    ap (λ b. if b then suc (before_last (take (suc i) xs)) else 0) (any_more xs i d (omega arith))
    ∙ ap (λ n. if (any_effect (take i xs) || (get_or xs i d).effect) then suc n else 0) (last_next xs i d (omega arith))
    ∙ last_step (any_effect (take i xs)) (get_or xs i d).effect (before_last (take i xs)) i

pub last_moves : (all : List TypedExp) (i j n m : ℕ) (x : TypedExp) (b : Bool) → i < length all → x ≡ get_or all i x → j ≡ suc i → b ≡ x.effect → m ≡ (if b then i else n) → n ≡ before_last (take i all) → m ≡ before_last (take j all)
last_moves all i j n m x b h at next effect is so =
    is ∙ ap (λ e. if e then i else n) (effect ∙ ap (λ (y : TypedExp). y.effect) at)
    ∙ ap (λ k. if (get_or all i x).effect then i else k) so ∙ sym (last_next all i x h) ∙ ap (λ k. before_last (take k all)) (sym next)

pub last_end : (all : List TypedExp) (i n : ℕ) → length all ≤ i → n ≡ before_last (take i all) → n ≡ before_last all
last_end all i n h so = so ∙ ap before_last (take_all i all h)

pub callee_stays : (b : Bool) (pointer : Exp) (old new : List Stmt) (callee : Callee) → b ≡ false → callee ≡ Through pointer → new ≡ old → IsCallee b pointer old new callee
callee_stays b pointer old new callee e is same = (pointer, is, left_stays b pointer pointer old new e refl same)

pub callee_saved : (b : Bool) (n : LocalId) (pointer x : Exp) (old new : List Stmt) (callee : Callee) → b ≡ true → callee ≡ Through x → Saves n pointer old new → Reads n x → IsCallee b pointer old new callee
callee_saved b n pointer x old new callee e is saves reads = (x, is, left_saved b n pointer x old new e saves reads)

pub calls_for : (n : LocalId) (place : Lval) (callee : Callee) (arguments : Vec Exp Alloc) (old new : List Stmt) → IsVariable n place → new ≡ old ++ Do (Call (Some place) callee arguments) ∷ [] → CallsFor n callee arguments old new
calls_for n place callee arguments old new variable is = record { place = place; variable = variable; is = is }

-- what is computed

pub converts_not : (from to : TypeId) (x y : Exp) → from ≡ to → y ≡ x → IsConverted from to x y
converts_not from to x y e same = record { same = λ _. same; other = λ n. absurd (n e) }

pub converts : (from to : TypeId) (x y : Exp) → (from ≡ to → ⊥) → IsCast to x y → IsConverted from to x y
converts from to x y n cast = record { same = λ e. absurd (n e); other = λ _. cast }

pub computes_from : (c : Computing) (kept : Kept) (left right sum value : Exp) (place : Lval) (old new : List Stmt) → Names kept place → IsBin c.op left right sum → IsConverted c.at c.ty sum value → new ≡ old ++ Do (Set place value) ∷ [] → Computes c kept left right old new
computes_from c kept left right sum value place old new names operands converted is = record { place = place; named = names; sum = sum; operands = operands; value = value; converted = converted; is = is }

pub decides_by : (n : LocalId) (test : Exp) (holds fails old new : List Stmt) → IsTruth n 1 holds → IsTruth n 0 fails → Chooses test holds fails old new → Decides n test old new
decides_by n test holds fails old new one none chooses = record { holds = holds; stores_one = one; fails = fails; stores_zero = none; chooses = chooses }

pub chooses_if : (test : Exp) (holds fails old new : List Stmt) (s : Stmt) → IsIf test holds fails s → new ≡ old ++ s ∷ [] → Chooses test holds fails old new
chooses_if test holds fails old new s made is = record { choice = s; made = made; is = is }

pub truth_in : (n : LocalId) (k : ℕ) (x : Exp) (code : List Stmt) → IsConst int k x → Saves n x [] code → IsTruth n k code
truth_in n k x code constant saves = record { value = x; constant = constant; saves = saves }

joined_twice : (xs ys zs : plain.Offsets) → joined (joined xs ys) zs ≡ joined xs (joined ys zs)
joined_twice plain.Here ys zs = refl
joined_twice (plain.Field n xs) ys zs = ap (plain.Field n) (joined_twice xs ys zs)
joined_twice (plain.Index e xs) ys zs = ap (plain.Index e) (joined_twice xs ys zs)

part_twice : (p : plain.Lval) (ys zs : plain.Offsets) → part_of (part_of p ys) zs ≡ part_of p (joined ys zs)
part_twice (plain.Place host os) ys zs = ap (plain.Place host) (joined_twice os ys zs)

pub field_step : (l m : Lval) (i : ℕ) → IsField l i m → IsStep l (ToField i) m
field_step l m i f = record { at = λ nodes more. ap (λ p. part_of p more) (f.at nodes) ∙ part_twice (lval_of nodes l) (plain.Field i plain.Here) more }

pub element_step : (l m : Lval) (i : ℕ) (e : Exp) → IsConst int i e → IsElement l e m → IsStep l (ToIndex i) m
element_step l m i e c f = record { at = λ nodes more. ap (λ p. part_of p more) (f.at nodes) ∙ part_twice (lval_of nodes l) (plain.Index (exp_of nodes e) plain.Here) more ∙ ap (λ x. part_of (lval_of nodes l) (plain.Index x more)) (c.at nodes) }

pub field_put : (l m : Lval) (i : ℕ) → m.host ≡ l.host → m.offsets.items ≡ l.offsets.items ++ Field i ∷ [] → IsStep l (ToField i) m
field_put l m i host is = field_step l m i (field_is l m i host is)

pub element_put : (l m : Lval) (i : ℕ) (e : Exp) (x : Offset) → IsConst int i e → ((nodes : List Node) → offsets_of nodes (x ∷ []) ≡ plain.Index (exp_of nodes e) plain.Here) → m.host ≡ l.host → m.offsets.items ≡ l.offsets.items ++ x ∷ [] → IsStep l (ToIndex i) m
element_put l m i e x c step host is = element_step l m i e c (element_is l m e x step host is)

-- the offsets from one on
on_next : (path : List Step) (i : ℕ) (d : Step) → i < length path → offsets_on (drop i path) ≡ step_before (get_or path i d) (offsets_on (drop (suc i) path))
on_next [] i d h = absurd (omega arith)
on_next (x ∷ path) zero d h = refl
on_next (x ∷ path) (suc i) d h = on_next path i d (omega arith)

on_end : (path : List Step) (i : ℕ) → length path ≤ i → offsets_on (drop i path) ≡ plain.Here
on_end [] zero h = refl
on_end [] (suc i) h = refl
on_end (x ∷ path) zero h = absurd (omega arith)
on_end (x ∷ path) (suc i) h = on_end path i (omega arith)

joined_end : (xs : plain.Offsets) → joined xs plain.Here ≡ xs
joined_end plain.Here = refl
joined_end (plain.Field n xs) = ap (plain.Field n) (joined_end xs)
joined_end (plain.Index e xs) = ap (plain.Index e) (joined_end xs)

part_end : (p : plain.Lval) → part_of p plain.Here ≡ p
part_end (plain.Place host os) = ap (plain.Place host) (joined_end os)

-- a place stands on the way to the part of a local
pub begins : (n : LocalId) (path : List Step) (l : Lval) → IsVariable n l → (nodes : List Node) → part_of (lval_of nodes l) (offsets_on path) ≡ plain.Place (plain.Var n.0) (offsets_on path)
begins n path l v nodes =
    ap (λ (os : List Offset). plain.Place (host_of nodes l.host) (joined (offsets_of nodes os) (offsets_on path))) v.whole
    ∙ ap (λ (h : Host). plain.Place (host_of nodes h) (offsets_on path)) v.host

pub steps : (n : LocalId) (path : List Step) (i : ℕ) (d : Step) (l m : Lval) → i < length path → IsStep l (get_or path i d) m → ((nodes : List Node) → part_of (lval_of nodes l) (offsets_on (drop i path)) ≡ plain.Place (plain.Var n.0) (offsets_on path))
    → (nodes : List Node) → part_of (lval_of nodes m) (offsets_on (drop (suc i) path)) ≡ plain.Place (plain.Var n.0) (offsets_on path)
steps n path i d l m h step way nodes =
    step.at nodes (offsets_on (drop (suc i) path)) ∙ sym (ap (part_of (lval_of nodes l)) (on_next path i d h)) ∙ way nodes

pub arrives : (n : LocalId) (path : List Step) (i : ℕ) (l : Lval) → length path ≤ i → ((nodes : List Node) → part_of (lval_of nodes l) (offsets_on (drop i path)) ≡ plain.Place (plain.Var n.0) (offsets_on path)) → IsPart n path l
arrives n path i l h way = record { at = λ nodes. sym (part_end (lval_of nodes l)) ∙ sym (ap (part_of (lval_of nodes l)) (on_end path i h)) ∙ way nodes }

pub stores_part : (n : LocalId) (path : List Step) (x : Exp) (place : Lval) (old new : List Stmt) → IsPart n path place → new ≡ old ++ Do (Set place x) ∷ [] → StoresPart n path x old new
stores_part n path x place old new part is = record { place = place; part = part; is = is }

pub clears_part : (n : LocalId) (path : List Step) (place : Lval) (old new : List Stmt) → IsPart n path place → new ≡ old ++ Do (Zero place) ∷ [] → Clears n path old new
clears_part n path place old new part is = record { place = place; part = part; is = is }
