-- Device: the steps to a member are taken by nodes as they are taken along a path.
use Rattle.std.proofs.Common.{◌≡◌, ℕ, suc, zero, ◌+◌, Bool, true, false, not, ◌&&◌, List, [], ◌∷◌, length, Option, Some, None, option_map, refl, sym, ap, ◌∙◌, subst, arith}
use Rattle.std.specs.Prelude.{if◌then◌else◌}
use Rattle.cil_base.specs.declared.numbers.NameId.{NameId}
use Rattle.type_graph.specs.Shapes.{Shape, VoidType, IntType, PtrType, ArrayType, FuncType, AggType}
use Rattle.execution.specs.Data.{Datum}
use Rattle.execution.specs.Calls.{Enter}
use Rattle.typed_tree.specs.Tree.{Typed, shape_in, quals_in}
use Rattle.typed_tree.specs.Places.{is_place}
use Rattle.c_rules.specs.Types.{CType, Types, Hop, Member, unqualified, is_aggregate, is_array, is_integer, members_of, hop_to, within_shape, from_member, from_members, path_within, member_path, same_name, qualified}
use Rattle.c_rules.specs.Conversions.{decays}
use Rattle.c_rules.specs.Nodes.{member_type, one_member, along as along_node}
use Rattle.c_semantics.specs.Places.{Activation, whole, part_of, outer_of, array_number, arrays_in, one_if}
use Rattle.c_semantics.specs.Operations.{Action, ◌>>=◌, Seen, Is, member, along}
use Rattle.typed_semantics.specs.Expressions.{hop, t_exp}
use Rattle.c_elaboration.proofs.Actions.{then_then, then_gives}
use Rattle.c_elaboration.proofs.Forms.{places, values, OfRecords, behind_place, behind_value}

-- a path goes through structures and unions (6.7.2.1p13)
abbrev pub Through : Shape → List Hop → Type 0
Through s [] = Unit {0}
Through s (h ∷ hs) = (is_aggregate s ≡ true) × Through h.member.type.shape hs

abbrev Found : Shape → Option (List Hop) → Type 0
Found s o = (hs : List Hop) → o ≡ Some hs → Through s hs

found_in : (look : ℕ → Option (List Hop)) → ((a : ℕ) → Found (AggType a) (look a)) → (s : Shape) → Found s (within_shape look s)
found_in look h (AggType a) hs e = h a hs e
found_in look h VoidType hs e = cc
found_in look h (IntType k) hs e = cc
found_in look h (PtrType q s) hs e = cc
found_in look h (ArrayType q s n) hs e = cc
found_in look h (FuncType r ss p v) hs e = cc

found_member : (look : ℕ → Option (List Hop)) → ((a : ℕ) → Found (AggType a) (look a)) → (x : NameId) (a i : ℕ) (m : Member) → Found (AggType a) (from_member look x a i m)
found_member look h x a i m = by m.name
  where
    one : (b : Bool) (hs : List Hop) → (if b then Some (hop_to a i m ∷ []) else None) ≡ Some hs → Through (AggType a) hs
    one true hs e = subst (Through (AggType a)) (same (hop_to a i m ∷ []) hs e) (refl, tt)
      where
        same : (p q : List Hop) → Some p ≡ Some q → p ≡ q
        same p q e = cc
    one false hs e = cc

    more : (o : Option (List Hop)) → Found m.type.shape o → (hs : List Hop) → option_map (λ hops. hop_to a i m ∷ hops) o ≡ Some hs → Through (AggType a) hs
    more None g hs e = cc
    more (Some ks) g hs e = subst (Through (AggType a)) (same (hop_to a i m ∷ ks) hs e) (refl, g ks refl)
      where
        same : (p q : List Hop) → Some p ≡ Some q → p ≡ q
        same p q e = cc

    by : (o : Option NameId) → Found (AggType a) (elim o [ Some y ↦ if same_name x y then Some (hop_to a i m ∷ []) else None | None ↦ option_map (λ hops. hop_to a i m ∷ hops) (within_shape look m.type.shape) ])
    by (Some y) hs e = one (same_name x y) hs e
    by None hs e = more (within_shape look m.type.shape) (found_in look h m.type.shape) hs e

found_members : (look : ℕ → Option (List Hop)) → ((a : ℕ) → Found (AggType a) (look a)) → (x : NameId) (a i : ℕ) (ms : List Member) → Found (AggType a) (from_members look x a i ms)
found_members look h x a i [] hs e = cc
found_members look h x a i (m ∷ ms) hs e = by (from_member look x a i m) (found_member look h x a i m) (found_members look h x a (suc i) ms) hs e
  where
    by : (o : Option (List Hop)) → Found (AggType a) o → Found (AggType a) (from_members look x a (suc i) ms) → Found (AggType a) (elim o [ Some hops ↦ Some hops | None ↦ from_members look x a (suc i) ms ])
    by (Some ks) g k hs e = g hs e
    by None g k hs e = k hs e

found_within : (depth : ℕ) (t : Types) (x : NameId) (a : ℕ) → Found (AggType a) (path_within depth t x a)
found_within zero t x a hs e = cc
found_within (suc depth) t x a hs e = by (members_of t a) (found_within depth t x) hs e
  where
    by : (o : Option (List Member)) → ((b : ℕ) → Found (AggType b) (path_within depth t x b)) → Found (AggType a) (elim o [ None ↦ None | Some ms ↦ from_members (path_within depth t x) x a 0 ms ])
    by None k hs e = cc
    by (Some ms) k hs e = found_members (path_within depth t x) k x a 0 ms hs e

pub found_path : (t : Types) (x : NameId) (s : Shape) (hs : List Hop) → member_path t x s ≡ Some hs → Through s hs
found_path t x (AggType a) hs e = by (is_integer t (AggType a)) hs e
  where
    by : (b : Bool) → Found (AggType a) (if b then None else path_within (length t.aggs) t x a)
    by true hs e = cc
    by false hs e = found_within (length t.aggs) t x a hs e
found_path t x VoidType hs e = cc
found_path t x (IntType k) hs e = cc
found_path t x (PtrType q s) hs e = cc
found_path t x (ArrayType q s n) hs e = cc
found_path t x (FuncType r ss p v) hs e = cc

aggregate_stays : (s : Shape) → is_aggregate s ≡ true → (decays s ≡ false) × (is_array s ≡ false)
aggregate_stays VoidType e = cc
aggregate_stays (IntType k) e = cc
aggregate_stays (PtrType q s) e = cc
aggregate_stays (ArrayType q s n) e = cc
aggregate_stays (FuncType r ss p v) e = cc
aggregate_stays (AggType a) e = (refl, refl)

-- a member of what is no lvalue has the member's type
member_shape : (e : Typed) (h : Hop) → is_place e ≡ false → shape_in (one_member e h) ≡ h.member.type.shape
member_shape e h i = ap (λ b. shape_of (if b then qualified (quals_in e) h.member.type else unqualified h.member.type.shape)) i
  where
    shape_of : CType → Shape
    shape_of c = c.shape

pub along_records : (e : Typed) (hs : List Hop) → OfRecords e → (is_place e ≡ false → Through (shape_in e) hs) → OfRecords (along_node e hs)
along_records e [] o g = o
along_records e (h ∷ hs) o g = along_records (one_member e h) hs (λ i. ((aggregate_stays (shape_in e) (g i).0).0, o)) (λ i. subst (λ s. Through s hs) (sym (member_shape e h i)) (g i).1)

module _ (a : Activation) (enter : Enter) (n : ℕ) where
  -- of an lvalue
  along_placed : (e : Typed) (hs : List Hop) (k : ℕ) (outer : Option (ℕ × ℕ)) → is_place e ≡ true → (t_exp a enter e k >>= along a (array_number a n) outer hs) ≡ t_exp a enter (along_node e hs) k
  along_placed e [] k outer h = then_gives (t_exp a enter e k)
  along_placed e (x ∷ hs) k outer h =
      sym (then_then (t_exp a enter e k) (member a (array_number a n) outer x) (along a (array_number a n) (part_of a.types outer x.aggregate x.index) hs))
      ∙ (ap (λ (go : Action Seen). go >>= along a (array_number a n) (part_of a.types outer x.aggregate x.index) hs)
      (behind_place (t_exp a enter e k) (member a (array_number a n) outer x) (member a (array_number a (k + arrays_in e)) (outer_of a.types e) (hop (member_type e x) x.aggregate x.index)) (places a enter e k h) (λ v. refl))
      ∙ along_placed (one_member e x) hs k (part_of a.types outer x.aggregate x.index) h)

  -- of a value
  along_valued : (e : Typed) (hs : List Hop) (k : ℕ) (outer : Option (ℕ × ℕ)) → is_place e ≡ false → OfRecords e → Through (shape_in e) hs → (is_array (shape_in e) ≡ false → n ≡ k + arrays_in e) → outer ≡ outer_of a.types e
      → (t_exp a enter e k >>= along a (array_number a n) outer hs) ≡ t_exp a enter (along_node e hs) k
  along_valued e [] k outer h o g i p = then_gives (t_exp a enter e k)
  along_valued e (x ∷ hs) k outer h o g i p =
      sym (then_then (t_exp a enter e k) (member a (array_number a n) outer x) (along a (array_number a n) (part_of a.types outer x.aggregate x.index) hs))
      ∙ (ap (λ (go : Action Seen). go >>= along a (array_number a n) (part_of a.types outer x.aggregate x.index) hs)
      (behind_value a (shape_in e) (t_exp a enter e k) (member a (array_number a n) outer x) (member a (array_number a (k + arrays_in e)) (outer_of a.types e) (hop (member_type e x) x.aggregate x.index)) (values a enter e k o h stays.0) same)
      ∙ along_valued (one_member e x) hs k (part_of a.types outer x.aggregate x.index) h (λ j. (stays.0, o)) (subst (λ s. Through s hs) (sym (member_shape e x h)) g.1) (λ j. i stays.1 ∙ counted j) further)
    where
      stays : (decays (shape_in e) ≡ false) × (is_array (shape_in e) ≡ false)
      stays = aggregate_stays (shape_in e) g.0

      same : (d : Datum) → member a (array_number a n) outer x (Is d) ≡ member a (array_number a (k + arrays_in e)) (outer_of a.types e) (hop (member_type e x) x.aggregate x.index) (Is d)
      same d =
          ap (λ (m : ℕ). member a (array_number a m) outer x (Is d)) (i stays.1)
          ∙ (ap (λ (z : Option (ℕ × ℕ)). member a (array_number a (k + arrays_in e)) z x (Is d)) p
          ∙ ap (λ (s : Shape). member a (array_number a (k + arrays_in e)) (outer_of a.types e) (hop (unqualified s) x.aggregate x.index) (Is d)) (sym (member_shape e x h)))

      further : part_of a.types outer x.aggregate x.index ≡ outer_of a.types (one_member e x)
      further =
          ap (λ (z : Option (ℕ × ℕ)). part_of a.types z x.aggregate x.index) p
          ∙ sym (ap (λ (b : Bool). elim b [ true ↦ whole a.types (member_type e x).shape | false ↦ part_of a.types (outer_of a.types e) x.aggregate x.index ]) h)

      counted : is_array (shape_in (one_member e x)) ≡ false → k + arrays_in e ≡ k + arrays_in (one_member e x)
      counted j =
          let none : arrays_in (one_member e x) ≡ arrays_in e + 0 = ap (λ b. arrays_in e + one_if (b && not (is_place e))) j in
          omega (arith, none)

  pub along_is : (e : Typed) (hs : List Hop) (k : ℕ) (outer : Option (ℕ × ℕ)) → OfRecords e → (is_place e ≡ false → Through (shape_in e) hs) → n ≡ k + arrays_in e → (is_place e ≡ false → outer ≡ outer_of a.types e) → (t_exp a enter e k >>= along a (array_number a n) outer hs) ≡ t_exp a enter (along_node e hs) k
  along_is e hs k outer o g i p = by (is_place e) refl
    where
      by : (b : Bool) → is_place e ≡ b → (t_exp a enter e k >>= along a (array_number a n) outer hs) ≡ t_exp a enter (along_node e hs) k
      by true h = along_placed e hs k outer h
      by false h = along_valued e hs k outer h o (g h) (λ j. i) (p h)
