-- Device: the types of units become those of a program one by one.
use Rattle.std.proofs.Common.{◌≡◌, ◌≢◌, ℕ, zero, suc, ◌+◌, ◌<◌, ◌≤◌, true, false, nat_eq, List, [], ◌∷◌, ◌++◌, Some, None, map, length, get_or, slice_get, refl, sym, ap, ◌∙◌, subst, length-append, ◌⊎◌, inl, inr, arith, Global}
use Rattle.std.specs.declared.vec.Vec.{Vec}
use Rattle.std.proofs.Math.ListN.{set, length-set}
use Rattle.std.proofs.lemmas.Bool.Decides.{eqb_tells}
use Rattle.std.specs.Option.{option_map}
use Rattle.std.proofs.lemmas.List.{map-append}
use Rattle.std.proofs.lemmas.Option.{slice_get-map}
use Rattle.cil_base.specs.declared.numbers.AggId.{AggId}
use Rattle.cil_base.specs.declared.numbers.TypeId.{TypeId}
use Rattle.cil_base.specs.declared.numbers.UnitNo.{UnitNo}
use Rattle.type_graph.specs.declared.aggregates.Aggregate.{Aggregate}
use Rattle.type_graph.specs.declared.aggregates.Member.{Member}
use Rattle.type_graph.specs.Arena.{Graph}
use Rattle.type_graph.specs.Growth.{Grows, with_members}
use Rattle.type_graph.proofs.GrowthLaws.{grows_none}
use Rattle.type_graph.proofs.Lists.{get_push, get_there, get_set_same, get_set_other}
use Rattle.map_graph.specs.Mapped.{number_in, Maps}
use Rattle.link_names.specs.declared.units.Fronted.{Fronted}
use Rattle.type_iso.specs.declared.class_table.Classes.{Classes}
use Rattle.type_iso.specs.Classes.{class_count, class_in, representative_in}
use Rattle.cil_merge.specs.Classes.{IsAggregate, IsMember, AreMembers, IsCompleted, StandsThere, AreClassesOf, AreTypesOf, AreTypes, HasTypes}
use Rattle.cil_merge.specs.Numbering.{GainsTypes, AreRepresentatives, IsBegun, AreBegun, IsOnWay, AreOnWay, Completes}
use Rattle.cil_merge.proofs.GainLaws.{maps_grown}

get_below : {K : Type 0} (xs : List K) (i : ℕ) (x : K) → slice_get xs i ≡ Some x → i < length xs
get_below [] i x e = cc
get_below (y ∷ xs) zero x e = omega arith
get_below (y ∷ xs) (suc i) x e = omega (arith, get_below xs i x e)

at_place : {K : Type 0} (xs : List K) (i : ℕ) (d : K) → i < length xs → slice_get xs i ≡ Some (get_or xs i d)
at_place [] i d h = absurd (omega arith)
at_place (x ∷ xs) zero d h = refl
at_place (x ∷ xs) (suc i) d h = at_place xs i d (omega arith)

-- what an item of a list is
found : {K : Type 0} (xs : List K) (i : ℕ) (x d : K) → i < length xs → x ≡ get_or xs i d → slice_get xs i ≡ Some x
found xs i x d less is = at_place xs i d less ∙ ap Some (sym is)

one_item : {K : Type 0} (xs : List K) (i : ℕ) (x y : K) → slice_get xs i ≡ Some x → slice_get xs i ≡ Some y → x ≡ y
one_item xs i x y e f = let same : Some x ≡ Some y = sym e ∙ f in cc

pub aggregate_is : (units : List Fronted) (u : UnitNo) (a : AggId) (f : Fronted) (x : Aggregate) → slice_get units u.0 ≡ Some f → slice_get f.cil.graph.aggs a.0 ≡ Some x → IsAggregate units (u, a) x
aggregate_is units u a f x e h = record { unit = f; unit_is = e; is = h }

one_aggregate : (units : List Fronted) (at : UnitNo × AggId) (x y : Aggregate) → IsAggregate units at x → IsAggregate units at y → x ≡ y
one_aggregate units at x y p q =
    let unit : p.unit ≡ q.unit = one_item units at.0.0 p.unit q.unit p.unit_is q.unit_is in
    one_item q.unit.cil.graph.aggs at.1.0 x y (sym (ap (λ (f : Fronted). slice_get f.cil.graph.aggs at.1.0) unit) ∙ p.is) q.is

-- what stands for the classes

pub none_stand : (c : Classes) (stands : List (UnitNo × AggId)) → stands ≡ [] → AreRepresentatives c 0 stands
none_stand c stands none = subst (AreRepresentatives c 0) (sym none) (record { so_many = refl; each = λ k at e. cc })

pub stand_next : (c : Classes) (count : ℕ) (old new : List (UnitNo × AggId)) (at : UnitNo × AggId) → AreRepresentatives c count old → representative_in c count ≡ Some at → new ≡ old ++ at ∷ [] → AreRepresentatives c (count + 1) new
stand_next c count old new at before is put = subst (AreRepresentatives c (count + 1)) (sym put) (record {
  so_many = length-append old (at ∷ []) ∙ ap (λ i. i + 1) before.so_many;
  each = λ k other e. by k other (get_push old at k other e);
})
  where
    by : (k : ℕ) (other : UnitNo × AggId) → (slice_get old k ≡ Some other) ⊎ ((k ≡ length old) × (at ≡ other)) → representative_in c k ≡ Some other
    by k other (inl there) = before.each k other there
    by k other (inr here) = ap (representative_in c) (here.0 ∙ before.so_many) ∙ is ∙ ap Some here.1

-- classes without members

pub none_begun : (units : List Fronted) (stands : List (UnitNo × AggId)) (aggs : List Aggregate) → aggs ≡ [] → AreBegun units stands 0 aggs
none_begun units stands aggs none = subst (AreBegun units stands 0) (sym none) (record { so_many = refl; each = λ k y e. cc })

pub begun_next : (units : List Fronted) (stands : List (UnitNo × AggId)) (k : ℕ) (aggs new : List Aggregate) (at d : UnitNo × AggId) (x fresh : Aggregate) → AreBegun units stands k aggs → k < length stands → at ≡ get_or stands k d → IsAggregate units at x
    → fresh ≡ record { kind = x.kind; tag = x.tag; members = None } → new ≡ aggs ++ fresh ∷ [] → AreBegun units stands (k + 1) new
begun_next units stands k aggs new at d x fresh before less is of made put = subst (AreBegun units stands (k + 1)) (sym put) (record {
  so_many = length-append aggs (fresh ∷ []) ∙ ap (λ i. i + 1) before.so_many;
  each = λ j y e. by j y (get_push aggs fresh j y e);
})
  where
    by : (j : ℕ) (y : Aggregate) → (slice_get aggs j ≡ Some y) ⊎ ((j ≡ length aggs) × (fresh ≡ y)) → IsBegun units stands j y
    by j y (inl there) = before.each j y there
    by j y (inr here) = record { at = at; x = x; at_is = ap (slice_get stands) (here.0 ∙ before.so_many) ∙ found stands k at d less is; is = of; new_is = sym here.1 ∙ made }

pub begun_all : (units : List Fronted) (stands : List (UnitNo × AggId)) (k : ℕ) (aggs : List Aggregate) → AreBegun units stands k aggs → k ≤ length stands → length stands ≤ k → AreBegun units stands (length stands) aggs
begun_all units stands k aggs before low high = let all : k ≡ length stands = omega (arith, low, high) in subst (λ i. AreBegun units stands i aggs) all before

pub begun_kept : (units : List Fronted) (stands first second : List (UnitNo × AggId)) (aggs later : List Aggregate) → first ≡ stands → second ≡ stands → later ≡ aggs → AreBegun units first (length first) aggs → AreBegun units second (length second) later
begun_kept units stands first second aggs later one two stay before =
    let same : first ≡ second = one ∙ sym two in
    subst (λ (s : List (UnitNo × AggId)). AreBegun units s (length s) later) same (subst (AreBegun units first (length first)) (sym stay) before)

-- types of units

abbrev tables : List (Vec TypeId Global) → List (List TypeId)
tables all = map (λ v. v.items) all

pub no_classes : (c : Classes) (u : ℕ) (numbers : List AggId) → numbers ≡ [] → AreClassesOf c u 0 numbers
no_classes c u numbers none = subst (AreClassesOf c u 0) (sym none) (record { so_many = refl; each = λ a k e. cc })

pub classes_next : (c : Classes) (u count : ℕ) (old new : List AggId) (k : AggId) → AreClassesOf c u count old → class_in c u count ≡ Some k.0 → new ≡ old ++ k ∷ [] → AreClassesOf c u (count + 1) new
classes_next c u count old new k before is put = subst (AreClassesOf c u (count + 1)) (sym put) (record {
  so_many = length-append old (k ∷ []) ∙ ap (λ i. i + 1) before.so_many;
  each = λ a j e. by a j (get_push old k a j e);
})
  where
    by : (a : ℕ) (j : AggId) → (slice_get old a ≡ Some j) ⊎ ((a ≡ length old) × (k ≡ j)) → class_in c u a ≡ Some j.0
    by a j (inl there) = before.each a j there
    by a j (inr here) = ap (class_in c u) (here.0 ∙ before.so_many) ∙ is ∙ ap (λ (i : AggId). Some i.0) here.1

pub none_mapped : (c : Classes) (units : List Fronted) (g : Graph) (all : List (Vec TypeId Global)) → all ≡ [] → AreTypes c units g (tables all) 0
none_mapped c units g all none = subst (λ (vs : List (Vec TypeId Global)). AreTypes c units g (tables vs) 0) (sym none) (record { so_many = refl; each = λ u f types e h. cc })

types_grown : (c : Classes) (u : ℕ) (unit g h : Graph) (types : List TypeId) → Grows g h → AreTypesOf c u unit g types → AreTypesOf c u unit h types
types_grown c u unit g h types grows t = record { classes = t.classes; are_classes = t.are_classes; each_type = t.each_type; maps = maps_grown unit g h (number_in t.classes) false types grows t.maps }

pub mapped_next : (c : Classes) (units : List Fronted) (g h : Graph) (all new : List (Vec TypeId Global)) (u : ℕ) (f d : Fronted) (classes : List AggId) (v : Vec TypeId Global) → AreTypes c units g (tables all) u → Grows g h → u < length units → f ≡ get_or units u d
    → AreClassesOf c u (length f.cil.graph.aggs) classes → length v.items ≡ length f.cil.graph.nodes → Maps f.cil.graph h (number_in classes) false v.items → new ≡ all ++ v ∷ [] → AreTypes c units h (tables new) (u + 1)
mapped_next c units g h all new u f d classes v before grows less is are_classes each_type maps put =
    subst (λ (vs : List (Vec TypeId Global)). AreTypes c units h (tables vs) (u + 1)) (sym put) (subst (λ (ts : List (List TypeId)). AreTypes c units h ts (u + 1)) (sym (map-append (λ (w : Vec TypeId Global). w.items) all (v ∷ []))) (record {
      so_many = length-append (tables all) (v.items ∷ []) ∙ ap (λ i. i + 1) before.so_many;
      each = λ w e ts at h. by w e ts at (get_push (tables all) v.items w ts h);
    }))
  where
    here : AreTypesOf c u f.cil.graph h v.items
    here = record { classes = classes; are_classes = are_classes; each_type = each_type; maps = maps }

    by : (w : ℕ) (e : Fronted) (ts : List TypeId) → slice_get units w ≡ Some e → (slice_get (tables all) w ≡ Some ts) ⊎ ((w ≡ length (tables all)) × (v.items ≡ ts)) → AreTypesOf c w e.cil.graph h ts
    by w e ts at (inl there) = types_grown c w e.cil.graph g h ts grows (before.each w e ts at there)
    by w e ts at (inr last) =
        let place : w ≡ u = last.0 ∙ before.so_many in
        let same : f ≡ e = one_item units u f e (found units u f d less is) (sym (ap (slice_get units) place) ∙ at) in
        subst (λ (i : ℕ). AreTypesOf c i e.cil.graph h ts) (sym place) (subst (λ (k : Fronted). AreTypesOf c u k.cil.graph h ts) same (subst (AreTypesOf c u f.cil.graph h) last.1 here))

pub table_is : (all : List (Vec TypeId Global)) (u : ℕ) (v : Vec TypeId Global) (ts : List TypeId) → slice_get all u ≡ Some v → ts ≡ v.items → slice_get (tables all) u ≡ Some ts
table_is all u v ts e is = slice_get-map (λ (w : Vec TypeId Global). w.items) all u ∙ ap (option_map (λ (w : Vec TypeId Global). w.items)) e ∙ ap Some (sym is)

pub mapped_all : (c : Classes) (units : List Fronted) (g : Graph) (ts : List (List TypeId)) (u : ℕ) → AreTypes c units g ts u → u ≤ length units → length units ≤ u → AreTypes c units g ts (length units)
mapped_all c units g ts u mapped low high = let all : u ≡ length units = omega (arith, low, high) in subst (AreTypes c units g ts) all mapped

-- members

pub member_is : (types : List TypeId) (m n : Member) (t : TypeId) → slice_get types m.ty.of.0 ≡ Some t → n ≡ record m { ty = record { quals = m.ty.quals; of = t } } → IsMember types m n
member_is types m n t e is =
    let of : t ≡ n.ty.of = sym (ap (λ (z : Member). z.ty.of) is) in
    record { type_is = e ∙ ap Some of; rest_stays = is ∙ ap (λ (u : TypeId). let z : Member = record m { ty = record { quals = m.ty.quals; of = u } } in z) of }

pub no_members : (types : List TypeId) (ms ns : List Member) → ns ≡ [] → AreMembers types ms ns 0
no_members types ms ns none = subst (λ (ks : List Member). AreMembers types ms ks 0) (sym none) (record { so_many = refl; each = λ i m n e h. cc })

pub members_next : (types : List TypeId) (ms ns new : List Member) (i : ℕ) (m n d : Member) → AreMembers types ms ns i → i < length ms → m ≡ get_or ms i d → IsMember types m n → new ≡ ns ++ n ∷ [] → AreMembers types ms new (i + 1)
members_next types ms ns new i m n d before less is one put = subst (λ (ks : List Member). AreMembers types ms ks (i + 1)) (sym put) (record {
  so_many = length-append ns (n ∷ []) ∙ ap (λ k. k + 1) before.so_many;
  each = λ j x y at h. by j x y at (get_push ns n j y h);
})
  where
    by : (j : ℕ) (x y : Member) → slice_get ms j ≡ Some x → (slice_get ns j ≡ Some y) ⊎ ((j ≡ length ns) × (n ≡ y)) → IsMember types x y
    by j x y at (inl there) = before.each j x y at there
    by j x y at (inr here) =
        let same : m ≡ x = one_item ms i m x (found ms i m d less is) (sym (ap (slice_get ms) (here.0 ∙ before.so_many)) ∙ at) in
        subst (IsMember types x) here.1 (subst (λ (z : Member). IsMember types z n) same one)

pub members_all : (types : List TypeId) (ms ns : List Member) (i : ℕ) → AreMembers types ms ns i → i ≤ length ms → length ms ≤ i → AreMembers types ms ns (length ms)
members_all types ms ns i before low high = let all : i ≡ length ms = omega (arith, low, high) in subst (AreMembers types ms ns) all before

-- classes get their members

pub completes_none : (units : List Fronted) (ts : List (List TypeId)) (at : UnitNo × AggId) (k : ℕ) (g : Graph) (x : Aggregate) → IsAggregate units at x → x.members ≡ None → Completes units ts at k g g
completes_none units ts at k g x is none = record {
  x = x;
  is = is;
  changes = λ y e out. (y, e, refl, refl, subst (λ o. IsCompleted ts at.0 o y.members) (sym none) out);
  others = λ j other. refl;
  so_many = refl;
  grows = grows_none g;
}

pub completes_members : (units : List Fronted) (ts : List (List TypeId)) (at : UnitNo × AggId) (k : ℕ) (a : AggId) (g h : Graph) (x : Aggregate) (types : List TypeId) (ms ns : List Member) → IsAggregate units at x → x.members ≡ Some ms → slice_get ts at.0.0 ≡ Some types → AreMembers types ms ns (length ms)
    → a.0 ≡ k → a.0 < length g.aggs → ((y : Aggregate) → slice_get g.aggs a.0 ≡ Some y → h ≡ with_members g a y ns) → Grows g h → Completes units ts at k g h
completes_members units ts at k a g h x types ms ns is has table are place there step grows = subst (λ j. Completes units ts at j g h) place (record {
  x = x;
  is = is;
  changes = λ y e out. (
    record y { members = Some ns },
    ap (λ (q : List Aggregate). slice_get q a.0) (put y e) ∙ get_set_same g.aggs a.0 y (record y { members = Some ns }) e,
    refl,
    refl,
    subst (λ o. IsCompleted ts at.0 o (Some ns)) (sym has) (types, ns, table, refl, are),
  );
  others = λ j other. let y = get_there g.aggs a.0 there in ap (λ (q : List Aggregate). slice_get q j) (put y.0 y.1) ∙ get_set_other g.aggs a.0 j (record y.0 { members = Some ns }) other;
  so_many = let y = get_there g.aggs a.0 there in ap length (put y.0 y.1) ∙ length-set g.aggs a.0 (record y.0 { members = Some ns });
  grows = grows;
})
  where
    put : (y : Aggregate) → slice_get g.aggs a.0 ≡ Some y → h.aggs ≡ set g.aggs a.0 (record y { members = Some ns })
    put y e = ap (λ (q : Graph). q.aggs) (step y e)

pub begun_on_way : (units : List Fronted) (ts : List (List TypeId)) (stands : List (UnitNo × AggId)) (aggs : List Aggregate) → AreBegun units stands (length stands) aggs → AreOnWay units ts stands 0 aggs
begun_on_way units ts stands aggs before = record { so_many = before.so_many; each = each }
  where
    each : (k : ℕ) (y : Aggregate) → slice_get aggs k ≡ Some y → IsOnWay units ts stands 0 k y
    each k y e =
        let b = before.each k y e in
        record {
          at = b.at;
          x = b.x;
          at_is = b.at_is;
          is = b.is;
          kind_is = ap (λ (z : Aggregate). z.kind) b.new_is;
          tag_is = ap (λ (z : Aggregate). z.tag) b.new_is;
          done = λ less. absurd (omega (arith, less));
          rest = λ past. ap (λ (z : Aggregate). z.members) b.new_is;
        }

pub on_way_next : (units : List Fronted) (ts : List (List TypeId)) (stands : List (UnitNo × AggId)) (k : ℕ) (g h : Graph) (at d : UnitNo × AggId) → AreOnWay units ts stands k g.aggs → k < length stands → at ≡ get_or stands k d → Completes units ts at k g h → AreOnWay units ts stands (k + 1) h.aggs
on_way_next units ts stands k g h at d before less at_is step = record { so_many = step.so_many ∙ before.so_many; each = λ j z e. by j z e (eqb_tells j k) }
  where
    at_found : slice_get stands k ≡ Some at
    at_found = found stands k at d less at_is

    by : (j : ℕ) (z : Aggregate) → slice_get h.aggs j ≡ Some z → ((nat_eq j k ≡ true) × (j ≡ k)) ⊎ ((nat_eq j k ≡ false) × (j ≢ k)) → IsOnWay units ts stands (k + 1) j z
    by j z e (inr other) =
        let b = before.each j z (sym (step.others j other.1) ∙ e) in
        let apart : j ≢ k = other.1 in
        record {
          at = b.at;
          x = b.x;
          at_is = b.at_is;
          is = b.is;
          kind_is = b.kind_is;
          tag_is = b.tag_is;
          done = λ before_next. b.done (omega (arith, before_next, apart));
          rest = λ past. b.rest (omega (arith, past));
        }
    by j z e (inl same) =
        let y = get_there g.aggs k (omega (arith, before.so_many, less)) in
        let b = before.each k y.0 y.1 in
        let c = step.changes y.0 y.1 (b.rest (omega arith)) in
        let new : z ≡ c.0 = one_item h.aggs k z c.0 (sym (ap (slice_get h.aggs) same.1) ∙ e) c.1 in
        let place : b.at ≡ at = one_item stands k b.at at b.at_is at_found in
        let of : b.x ≡ step.x = one_aggregate units at b.x step.x (subst (λ (p : UnitNo × AggId). IsAggregate units p b.x) place b.is) step.is in
        record {
          at = at;
          x = step.x;
          at_is = ap (slice_get stands) same.1 ∙ at_found;
          is = step.is;
          kind_is = ap (λ (w : Aggregate). w.kind) new ∙ c.2 ∙ b.kind_is ∙ ap (λ (w : Aggregate). w.kind) of;
          tag_is = ap (λ (w : Aggregate). w.tag) new ∙ c.3 ∙ b.tag_is ∙ ap (λ (w : Aggregate). w.tag) of;
          done = λ before_next. subst (λ (w : Aggregate). IsCompleted ts at.0 step.x.members w.members) (sym new) c.4;
          rest = λ past. absurd (omega (arith, past, same.1));
        }

pub on_way_all : (units : List Fronted) (ts : List (List TypeId)) (stands : List (UnitNo × AggId)) (k : ℕ) (aggs : List Aggregate) → AreOnWay units ts stands k aggs → k ≤ length stands → length stands ≤ k → AreOnWay units ts stands (length stands) aggs
on_way_all units ts stands k aggs way low high = let all : k ≡ length stands = omega (arith, low, high) in subst (λ i. AreOnWay units ts stands i aggs) all way

pub has_types : (c : Classes) (units : List Fronted) (g h : Graph) (first ts : List (List TypeId)) (stands : List (UnitNo × AggId)) → AreRepresentatives c (class_count c) stands → AreTypes c units g first (length units) → ts ≡ first → Grows g h → AreOnWay units ts stands (length stands) h.aggs → HasTypes c units h
has_types c units g h first ts stands all types same grows way = record {
  tables = ts;
  types = subst (λ (t : List (List TypeId)). AreTypes c units h t (length units)) (sym same) (record { so_many = types.so_many; each = λ u f t e d. types_grown c u f.cil.graph g h t grows (types.each u f t e d) });
  so_many = way.so_many ∙ all.so_many;
  each = each;
}
  where
    each : (k : ℕ) (at : UnitNo × AggId) (y : Aggregate) → representative_in c k ≡ Some at → slice_get h.aggs k ≡ Some y → StandsThere units ts at y
    each k at y e there =
        let less : k < length stands = omega (arith, get_below _ k at e, all.so_many) in
        let w = way.each k y there in
        let place : w.at ≡ at = one_item _ k w.at at (all.each k w.at w.at_is) e in
        record {
          x = w.x;
          is = subst (λ (p : UnitNo × AggId). IsAggregate units p w.x) place w.is;
          kind_is = w.kind_is;
          tag_is = w.tag_is;
          members_are = subst (λ (p : UnitNo × AggId). IsCompleted ts p.0 w.x.members y.members) place (w.done less);
        }

-- the types of a program grow, and its classes stay
pub types_gained : (c : Classes) (units : List Fronted) (g h : Graph) → HasTypes c units g → GainsTypes g h → HasTypes c units h
types_gained c units g h has gains = record {
  tables = has.tables;
  types = record { so_many = has.types.so_many; each = λ u f t e d. types_grown c u f.cil.graph g h t gains.grows (has.types.each u f t e d) };
  so_many = ap length gains.stay ∙ has.so_many;
  each = λ k at y e there. has.each k at y e (sym (ap (λ (q : List Aggregate). slice_get q k) gains.stay) ∙ there);
}
