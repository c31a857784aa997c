-- Device: steps of the reading of members.
use Rattle.std.proofs.Common.{◌≡◌, ℕ, zero, suc, ◌<◌, ◌≤◌, Bool, true, false, cond, not, ◌&&◌, ◌||◌, ℤ, pos, ◌<ℤ◌, ◌≤ℤ◌, int_le, List, [], ◌∷◌, ◌++◌, map, length, get_or, slice_get, slice_index_or, is_some, Option, Some, None, Result, Ok, Err, IsErr, IfErr, refl, sym, ap, ◌∙◌, arith, length-append, append_assoc, append-nil, subst, Vec}
use Rattle.std.proofs.lemmas.Int.{ints}
use Rattle.std.proofs.lemmas.List.Folds.{list_all-append}
use Rattle.std.specs.List.{list_all, list_any}
use Rattle.std.specs.Option.{option_map, option_and_then}
use Rattle.std.specs.Str.{bytes_eq}
use Rattle.std.specs.Global.{Global}
use Rattle.std.proofs.lemmas.Slice.Eq.{bytes_eq-Decides}
use Rattle.cil_base.specs.declared.kinds.IntKind.TheVariants.{Int as int}
use Rattle.cil_base.specs.declared.numbers.NameId.{NameId}
use Rattle.cil_base.specs.declared.numbers.TypeId.{TypeId}
use Rattle.cil_base.specs.Arithmetic.{fits}
use Rattle.cil_base.specs.Integer.{least, greatest}
use Rattle.cil_base.specs.NamePool.{Interns}
use Rattle.type_graph.specs.declared.aggregates.Aggregate.{Aggregate}
use Rattle.type_graph.specs.declared.aggregates.Member.{Member}
use Rattle.type_graph.specs.declared.nodes.Node.{Node}
use Rattle.type_graph.specs.declared.nodes.Quals.{Quals}
use Rattle.type_graph.specs.declared.nodes.Node.TheVariants.{Func}
use Rattle.type_graph.specs.Shapes.{Shape, IntType, shape}
use Rattle.type_graph.specs.Arena.{Graph, EachType, NamesBelow, members_fit}
use Rattle.type_graph.specs.Growth.{Grows, with_agg}
use Rattle.type_graph.proofs.GrowthLaws.{grows_none, grows_twice}
use Rattle.type_graph.proofs.ShapeLaws.{kept}
use Rattle.cil_tree.specs.WellFormedTypes.{is_unqualified}
use Rattle.cil_tree.specs.Names.{is_among, are_different}
use Rattle.cil_tree.specs.Programs.{SeenMember}
use Rattle.cil_text.specs.Words.{Word, Comma, Semicolon}
use Rattle.cil_text.specs.Allowed.{allowed, member_name_of}
use Rattle.cil_text.specs.ReadTypes.{Reading, Bases, read_decl}
use Rattle.cil_text.specs.ReadExps.{Env, bases}
use Rattle.cil_text.specs.ReadStmts.{Numbered}
use Rattle.cil_text.proofs.AggregatesBack.{other_way, neither}
use Rattle.cil_text.specs.ReadAggregates.{Lines, LinesReading, enumerator_at, read_enumerator, member_at, read_member, member_first, is_close, read_members}
use Rattle.cil_reader.specs.declared.names.Names.{Names}
use Rattle.cil_declarators.specs.declared.stop.Stop.{Stop}
use Rattle.cil_declarators.specs.declared.stop.Stop.TheVariants.{NotCil, WantOfMemory}
use Rattle.cil_declarators.specs.Gives.{Fails, Gives}
use Rattle.cil_reader.specs.declared.names.Known.{Known}
use Rattle.cil_reader.specs.Settings.{EachNames, KnownIn, Setting, env_in}
use Rattle.cil_forms.specs.Forms.{is_end, is_comma}
use Rattle.cil_declarators.specs.Fresh.{with_new}
use Rattle.cil_reader.specs.Pools.{KeepsNames}
use Rattle.cil_reader.specs.Members.{AreThere, may_hold, may_complete, IsMember, member_in, members_in, is_plain, MembersKnown, type_number, FieldsKnown, value_at, enumerator_with, member_with, with_member, enumerator_more, with_other, member_more, NextLine, line_of, next_line, members_behind, enumerators_from, enumerators_on, members_apart, members_from, members_on}
use Rattle.cil_declarators.proofs.LayersLaws.{no_fewer, each_below}
use Rattle.cil_reader.proofs.SettingsLaws.{known_kept}
use Rattle.cil_reader.proofs.PoolLaws.{pool_same, pool_twice}

pub none_there : (n : ℕ) → AreThere n []
none_there n = tt

pub one_there : (n : ℕ) (ms : List Member) (m : Member) → AreThere n ms → m.ty.of.0 < n → AreThere n (ms ++ m ∷ [])
one_there n [] m e h = (h, tt)
one_there n (x ∷ ms) m e h = (e.0, one_there n ms m e.1 h)

pub there_later : (g h : Graph) (ms : List Member) → Grows g h → AreThere (length g.nodes) ms → AreThere (length h.nodes) ms
there_later g h ms r e = by ms e
  where
    by : (xs : List Member) → AreThere (length g.nodes) xs → AreThere (length h.nodes) xs
    by [] b = tt
    by (x ∷ xs) b = (omega (arith, b.0, no_fewer g h r), by xs b.1)

pub each_there : (n : ℕ) (ts : List TypeId) (t : TypeId) → EachType n ts → t.0 < n → EachType n (ts ++ t ∷ [])
each_there n [] t e h = (h, tt)
each_there n (x ∷ ts) t e h = (e.0, each_there n ts t e.1 h)

pub types_later : (g h : Graph) (ts : List TypeId) → Grows g h → EachType (length g.nodes) ts → EachType (length h.nodes) ts
types_later g h ts r e = each_below (length g.nodes) (length h.nodes) ts (no_fewer g h r) e

-- what is known is in the graph

pub tag_known : (g h : Graph) (k : Known) (x : Aggregate) (ts : List (List ℕ)) (tag : List ℕ) → KnownIn g k → h ≡ with_agg g x → ts ≡ k.tags ++ tag ∷ [] → KnownIn h (record k { tags = ts })
tag_known g h k x ts tag known grown is = subst (λ (i : Graph). KnownIn i (record k { tags = ts })) (sym grown) (record {
  tags = omega (arith, known.tags, ap length is, length-append k.tags (tag ∷ []), length-append g.aggs (x ∷ []));
  members = known.members;
  globals = known.globals;
  locals = known.locals;
})

pub tag_same : (g h : Graph) (k : Known) (x : Aggregate) (ts : List (List ℕ)) → KnownIn g k → h ≡ with_agg g x → ts ≡ k.tags → KnownIn h (record k { tags = ts })
tag_same g h k x ts known grown is = subst (λ (i : Graph). KnownIn i (record k { tags = ts })) (sym grown) (record {
  tags = omega (arith, known.tags, ap length is, length-append g.aggs (x ∷ []));
  members = known.members;
  globals = known.globals;
  locals = known.locals;
})

pub new_known : (g : Graph) (k : Known) → k.tags ≡ [] → k.members.items ≡ [] → k.globals.types.items ≡ [] → k.locals.types.items ≡ [] → KnownIn g k
new_known g k tags members globals locals = record {
  tags = omega (arith, ap length tags);
  members = subst (EachNames (length g.nodes)) (sym members) tt;
  globals = subst (EachType (length g.nodes)) (sym globals) tt;
  locals = subst (EachType (length g.nodes)) (sym locals) tt;
}

each_more : (n : ℕ) (xs : List Names) (x : Names) → EachNames n xs → EachType n x.types.items → EachNames n (xs ++ x ∷ [])
each_more n [] x b e = (e, tt)
each_more n (y ∷ xs) x b e = (b.0, each_more n xs x b.1 e)

pub members_known : (g h : Graph) (k : Known) (v : Vec Names Global) (x : Names) → Grows g h → KnownIn g k → EachType (length g.nodes) x.types.items → v.items ≡ k.members.items ++ x ∷ [] → KnownIn h (record k { members = v })
members_known g h k v x r known each is =
    let later = known_kept g h k r known in record {
      tags = later.tags;
      members = subst (EachNames (length h.nodes)) (sym is) (each_more (length h.nodes) k.members.items x later.members (types_later g h x.types.items r each));
      globals = later.globals;
      locals = later.locals;
    }

pub members_same : (g h : Graph) (k : Known) (v : Vec Names Global) → Grows g h → KnownIn g k → v.items ≡ k.members.items → KnownIn h (record k { members = v })
members_same g h k v r known is = let later = known_kept g h k r known in record { tags = later.tags; members = subst (EachNames (length h.nodes)) (sym is) later.members; globals = later.globals; locals = later.locals }

pub nothing_known : (g : Graph) (k : Known) (v : Vec Names Global) (x : Names) → KnownIn g k → x.types.items ≡ [] → v.items ≡ k.members.items ++ x ∷ [] → KnownIn g (record k { members = v })
nothing_known g k v x known none is = record {
  tags = known.tags;
  members = subst (EachNames (length g.nodes)) (sym is) (each_more (length g.nodes) k.members.items x known.members (subst (EachType (length g.nodes)) (sym none) tt));
  globals = known.globals;
  locals = known.locals;
}

pub nothing_same : (g : Graph) (k : Known) (v : Vec Names Global) → KnownIn g k → v.items ≡ k.members.items → KnownIn g (record k { members = v })
nothing_same g k v known is = record { tags = known.tags; members = subst (EachNames (length g.nodes)) (sym is) known.members; globals = known.globals; locals = known.locals }

pub locals_known : (g : Graph) (k : Known) (x : Names) → KnownIn g k → EachType (length g.nodes) x.types.items → KnownIn g (record k { locals = x })
locals_known g k x known e = record { tags = known.tags; members = known.members; globals = known.globals; locals = e }

pub type_there : (n : ℕ) (ts : List TypeId) (i : ℕ) (d : TypeId) → EachType n ts → i < length ts → (get_or ts i d).0 < n
type_there n [] i d e h = absurd (omega arith)
type_there n (t ∷ ts) zero d e h = e.0
type_there n (t ∷ ts) (suc i) d e h = type_there n ts i d e.1 (omega arith)

-- the parameters of a type that the graph has
pub params_there : (n m k : ℕ) (x : Node) (proto variadic : Bool) (ret : TypeId) (params : List TypeId) → x ≡ Func proto variadic ret params → NamesBelow n m x → n < k → EachType k params
params_there n m k (Func v w r ps) proto variadic ret params e names less = let same : ps ≡ params = cc in subst (EachType k) same (each_below n k ps (omega (arith, less)) names.1)
params_there n m k _ proto variadic ret params e names less = absurd (cc e)

-- an aggregate that may have members

pub hold_past : (g : Graph) (a : ℕ) (ms : List Member) → length g.aggs ≤ a → may_complete g a ms ≡ false
hold_past g a ms h = ap (λ o. elim o as (λ _. Bool) [ None ↦ false | Some x ↦ may_hold g x ms ]) (past g.aggs a h)
  where
    past : (xs : List Aggregate) (i : ℕ) → length xs ≤ i → slice_get xs i ≡ None
    past [] i h = refl
    past (x ∷ xs) zero h = absurd (omega arith)
    past (x ∷ xs) (suc i) h = past xs i (omega arith)

pub hold_known : (g : Graph) (a : ℕ) (x : Aggregate) (ms : List Member) → slice_get g.aggs a ≡ Some x → is_some x.members ≡ true → may_complete g a ms ≡ false
hold_known g a x ms e h = ap (λ o. elim o as (λ _. Bool) [ None ↦ false | Some y ↦ may_hold g y ms ]) e ∙ ap (λ b. cond b false (members_fit g x.kind false ms)) h

pub hold_fits : (g : Graph) (a : ℕ) (x : Aggregate) (ms : List Member) → slice_get g.aggs a ≡ Some x → is_some x.members ≡ false → may_complete g a ms ≡ members_fit g x.kind false ms
hold_fits g a x ms e h = ap (λ o. elim o as (λ _. Bool) [ None ↦ false | Some y ↦ may_hold g y ms ]) e ∙ ap (λ b. cond b false (members_fit g x.kind false ms)) h

-- texts that differ

pub both_true : (b c : Bool) → b && c ≡ true → (b ≡ true) × (c ≡ true)
both_true true c e = (refl, e)
both_true false c e = absurd (cc e)

pub all_joined : {A : Type 0} (f : A → Bool) (xs : List A) (y : A) → list_all f xs ≡ true → f y ≡ true → list_all f (xs ++ y ∷ []) ≡ true
all_joined f xs y e g = list_all-append f xs (y ∷ []) ∙ ap (λ b. b && (f y && true)) e ∙ ap (λ b. b && true) g

not_true : (b : Bool) → not b ≡ true → b ≡ false
not_true true e = absurd (cc e)
not_true false e = refl

and_false : (b : Bool) → b && false ≡ false
and_false true = refl
and_false false = refl

or_true : (b : Bool) → b || true ≡ true
or_true true = refl
or_true false = refl

among_middle : (ts us : List (List ℕ)) (s t : List ℕ) → bytes_eq s t ≡ true → is_among (ts ++ t ∷ us) s ≡ true
among_middle [] us s t e = ap (λ b. b || list_any (bytes_eq s) us) e
among_middle (u ∷ ts) us s t e = ap (λ b. bytes_eq s u || b) (among_middle ts us s t e) ∙ or_true (bytes_eq s u)

among_front : (ts us : List (List ℕ)) (s : List ℕ) → is_among ts s ≡ true → is_among (ts ++ us) s ≡ true
among_front [] us s e = absurd (cc e)
among_front (u ∷ ts) us s e = by (bytes_eq s u) (among_front ts us s) e
  where
    by : (b : Bool) → (list_any (bytes_eq s) ts ≡ true → list_any (bytes_eq s) (ts ++ us) ≡ true) → b || list_any (bytes_eq s) ts ≡ true → b || list_any (bytes_eq s) (ts ++ us) ≡ true
    by true rest h = refl
    by false rest h = rest h

among_neither : (ts : List (List ℕ)) (s t : List ℕ) → is_among ts s ≡ false → bytes_eq s t ≡ false → is_among (ts ++ t ∷ []) s ≡ false
among_neither [] s t e f = ap (λ b. b || false) f
among_neither (u ∷ ts) s t e f =
    let h = neither (bytes_eq s u) (list_any (bytes_eq s) ts) e in
    ap (λ b. b || list_any (bytes_eq s) (ts ++ t ∷ [])) h.0 ∙ among_neither ts s t h.1 f

-- a text that stands among others does not differ from them
pub different_without : (ts us : List (List ℕ)) (t : List ℕ) → is_among ts t ≡ true → are_different (ts ++ t ∷ us) ≡ false
different_without [] us t e = absurd (cc e)
different_without (s ∷ ts) us t e = by (bytes_eq t s) refl e (different_without ts us t)
  where
    by : (b : Bool) → bytes_eq t s ≡ b → b || list_any (bytes_eq t) ts ≡ true → (is_among ts t ≡ true → are_different (ts ++ t ∷ us) ≡ false) → not (is_among (ts ++ t ∷ us) s) && are_different (ts ++ t ∷ us) ≡ false
    by true q h rest =
        let same : bytes_eq s t ≡ true = (bytes_eq-Decides s t).1 (sym ((bytes_eq-Decides t s).0 q)) in
        ap (λ b. not b && are_different (ts ++ t ∷ us)) (among_middle ts us s t same)
    by false q h rest = ap (λ b. not (is_among (ts ++ t ∷ us) s) && b) (rest h) ∙ and_false (not (is_among (ts ++ t ∷ us) s))

pub different_more : (ts : List (List ℕ)) (t : List ℕ) → are_different ts ≡ true → is_among ts t ≡ false → are_different (ts ++ t ∷ []) ≡ true
different_more [] t d e = refl
different_more (s ∷ ts) t d e =
    let h = both_true (not (is_among ts s)) (are_different ts) d in
    let f = neither (bytes_eq t s) (list_any (bytes_eq t) ts) e in
    ap (λ b. not b && are_different (ts ++ t ∷ [])) (among_neither ts s t (not_true (is_among ts s) h.0) (other_way t s f.0))
    ∙ different_more ts t h.1 f.1

pub different_front : (ts us : List (List ℕ)) → are_different ts ≡ false → are_different (ts ++ us) ≡ false
different_front [] us e = absurd (cc e)
different_front (s ∷ ts) us e = by (is_among ts s) refl e (different_front ts us)
  where
    by : (b : Bool) → is_among ts s ≡ b → not b && are_different ts ≡ false → (are_different ts ≡ false → are_different (ts ++ us) ≡ false) → not (is_among (ts ++ us) s) && are_different (ts ++ us) ≡ false
    by true q h rest = ap (λ b. not b && are_different (ts ++ us)) (among_front ts us s q)
    by false q h rest = ap (λ b. not (is_among (ts ++ us) s) && b) (rest h) ∙ and_false (not (is_among (ts ++ us) s))

new_by : (b : Bool) (ts us : List (List ℕ)) → cond b None (Some ts) ≡ Some us → (b ≡ false) × (us ≡ ts)
new_by true ts us e = absurd (cc e)
new_by false ts us e = (refl, cc)

-- one text more was taken
pub new_some : (ts us : List (List ℕ)) (t : List ℕ) → with_new ts t ≡ Some us → (is_among ts t ≡ false) × (us ≡ ts ++ t ∷ [])
new_some ts us t e = new_by (is_among ts t) (ts ++ t ∷ []) us e

pub new_none : (ts : List (List ℕ)) (t : List ℕ) → with_new ts t ≡ None → is_among ts t ≡ true
new_none ts t e = by (is_among ts t) e
  where
    by : (b : Bool) → cond {A = Option (List (List ℕ))} b None (Some (ts ++ t ∷ [])) ≡ None → b ≡ true
    by true h = refl
    by false h = absurd (cc h)

pub text_is : (names : List (List ℕ)) (i : ℕ) (text : List ℕ) → slice_get names i ≡ Some text → slice_index_or names i [] ≡ text
text_is [] i text e = absurd (cc e)
text_is (t ∷ names) zero text e = let same : t ≡ text = cc in same
text_is (t ∷ names) (suc i) text e = text_is names i text e

-- one member

pub is_member : (old names : List (List ℕ)) (text : List ℕ) (n : NameId) (q : Quals) (of : TypeId) (v : ℤ) (m : Member) → Interns old names text n.0 → m ≡ record { name = n; anonymous = false; ty = record { quals = q; of = of }; value = v } → is_unqualified q ≡ true → IsMember names text of v m
is_member old names text n q of v m i e plain = record {
  name = ap (λ (x : Member). slice_get names x.name.0) e ∙ i.number;
  type = ap (λ (x : Member). x.ty.of) e;
  number = ap (λ (x : Member). x.value) e;
  plain = ap (λ (x : Member). is_unqualified x.ty.quals) e ∙ plain;
}

abbrev seen_with : List ℕ → Shape → ℤ → SeenMember
seen_with name s v = record { name = name; type = s; value = v }

member_is : (nodes : List Node) (names : List (List ℕ)) (text : List ℕ) (of : TypeId) (v : ℤ) (m : Member) → IsMember names text of v m → member_in nodes names m ≡ seen_with text (shape nodes of.0) v
member_is nodes names text of v m k =
    ap (λ t. seen_with t (shape nodes m.ty.of.0) m.value) (text_is names m.name.0 text k.name)
    ∙ ap (λ (u : TypeId). seen_with text (shape nodes u.0) m.value) k.type
    ∙ ap (λ w. seen_with text (shape nodes of.0) w) k.number

is_later : (names later : List (List ℕ)) (text : List ℕ) (of : TypeId) (v : ℤ) (m : Member) → KeepsNames names later → IsMember names text of v m → IsMember later text of v m
is_later names later text of v m q k = record { name = q.at m.name.0 text k.name; type = k.type; number = k.number; plain = k.plain }

member_kept : (g h : Graph) (names later : List (List ℕ)) (text : List ℕ) (of : TypeId) (v : ℤ) (m : Member) → of.0 < length g.nodes → Grows g h → KeepsNames names later → IsMember names text of v m → member_in h.nodes later m ≡ member_in g.nodes names m
member_kept g h names later text of v m less r q k =
    member_is h.nodes later text of v m (is_later names later text of v m q k)
    ∙ ap (λ s. seen_with text s v) (kept g h of.0 r less)
    ∙ sym (member_is g.nodes names text of v m k)

all_more : (nodes : List Node) (names : List (List ℕ)) (ms : List Member) (m : Member) → members_in nodes names (ms ++ m ∷ []) ≡ members_in nodes names ms ++ member_in nodes names m ∷ []
unfolding members_in
all_more nodes names [] m = refl
all_more nodes names (x ∷ ms) m = ap (λ ys. member_in nodes names x ∷ ys) (all_more nodes names ms m)

pub none_known : (g : Graph) (names : List (List ℕ)) (ms : List Member) → ms ≡ [] → MembersKnown g names ms
unfolding members_in
none_known g names ms e = subst (MembersKnown g names) (sym e) (record { steady = λ h later r q. refl; plain = refl })

pub members_more : (g : Graph) (names later : List (List ℕ)) (text : List ℕ) (of : TypeId) (v : ℤ) (ms : List Member) (m : Member) → of.0 < length g.nodes → MembersKnown g names ms → KeepsNames names later → IsMember later text of v m → MembersKnown g later (ms ++ m ∷ [])
members_more g names later text of v ms m less k keeps is = record {
  steady = λ h last r q.
      all_more h.nodes last ms m
      ∙ ap (λ xs. xs ++ member_in h.nodes last m ∷ []) (k.steady h last r (pool_twice names later last keeps q) ∙ sym (k.steady g later (grows_none g) keeps))
      ∙ ap (λ x. members_in g.nodes later ms ++ x ∷ []) (member_kept g h later last text of v m less r q is)
      ∙ sym (all_more g.nodes later ms m);
  plain = all_joined is_plain ms m k.plain is.plain;
}

pub member_there : (n : ℕ) (names : List (List ℕ)) (text : List ℕ) (of : TypeId) (v : ℤ) (ms : List Member) (m : Member) → AreThere n ms → of.0 < n → IsMember names text of v m → AreThere n (ms ++ m ∷ [])
member_there n names text of v ms m e h k = one_there n ms m e (subst (λ (u : TypeId). u.0 < n) (sym k.type) h)

all_with : (g : Graph) (names later : List (List ℕ)) (text : List ℕ) (of : TypeId) (v : ℤ) (ms : List Member) (m : Member) → MembersKnown g names ms → KeepsNames names later → IsMember later text of v m →
    members_in g.nodes later (ms ++ m ∷ []) ≡ members_in g.nodes names ms ++ seen_with text (shape g.nodes of.0) v ∷ []
all_with g names later text of v ms m k keeps is =
    all_more g.nodes later ms m
    ∙ ap (λ xs. xs ++ member_in g.nodes later m ∷ []) (k.steady g later (grows_none g) keeps)
    ∙ ap (λ x. members_in g.nodes names ms ++ x ∷ []) (member_is g.nodes later text of v m is)

-- enumerators

pub value_below : (v : ℤ) → v <ℤ least int → None ≡ allowed (fits int) v
value_below v h = by (int_le (least int) v) (int_le v (greatest int)) (grind (arith, ints))
  where
    by : (b c : Bool) → b ≡ false → None ≡ cond (b && c) (Some v) None
    by true c e = absurd (cc e)
    by false c e = refl

pub value_above : (v : ℤ) → greatest int <ℤ v → None ≡ allowed (fits int) v
value_above v h = by (int_le (least int) v) (int_le v (greatest int)) (grind (arith, ints))
  where
    by : (b c : Bool) → c ≡ false → None ≡ cond (b && c) (Some v) None
    by true true e = absurd (cc e)
    by true false e = refl
    by false c e = refl

pub value_fits : (v : ℤ) → least int ≤ℤ v → v ≤ℤ greatest int → Some v ≡ allowed (fits int) v
value_fits v h k = by (int_le (least int) v) (int_le v (greatest int)) (grind (arith, ints)) (grind (arith, ints))
  where
    by : (b c : Bool) → b ≡ true → c ≡ true → Some v ≡ cond (b && c) (Some v) None
    by true true e f = refl
    by true false e f = absurd (cc f)
    by false c e f = absurd (cc e)

value_by : (x : Numbered) (ws : List Word) → value_at (x, ws) ≡ cond (is_comma ws) (allowed (fits int) x.1) None
value_by x (Comma ∷ []) = refl
value_by x (Comma ∷ w ∷ ws) = refl
value_by x _ = refl

pub value_gives : (o : Reading Numbered) (x : Numbered) (ws : List Word) (r : Option ℤ) → Some (x, ws) ≡ o → is_comma ws ≡ true → r ≡ allowed (fits int) x.1 → r ≡ option_and_then value_at o
value_gives o x ws r h end e = e ∙ sym (ap (option_and_then value_at) (sym h) ∙ value_by x ws ∙ ap (λ b. cond b (allowed (fits int) x.1) None) end)

pub value_open : (o : Reading Numbered) (x : Numbered) (ws : List Word) → Some (x, ws) ≡ o → is_comma ws ≡ false → None ≡ option_and_then value_at o
value_open o x ws h end = sym (ap (option_and_then value_at) (sym h) ∙ value_by x ws ∙ ap (λ b. cond b (allowed (fits int) x.1) None) end)

pub value_fails : (o : Reading Numbered) → None ≡ o → None ≡ option_and_then value_at o
value_fails o h = sym (ap (option_and_then value_at) (sym h))

named_value : (name : List ℕ) (r : Numbered × List Word) → enumerator_at name r ≡ option_map (enumerator_with name) (value_at r)
named_value name (x, Comma ∷ []) = by (fits int x.1)
  where
    by : (b : Bool) → cond b (Some (enumerator_with name x.1)) None ≡ option_map (enumerator_with name) (cond b (Some x.1) None)
    by true = refl
    by false = refl
named_value name (x, Comma ∷ w ∷ ws) = refl
named_value name (x, _) = refl

all_named : (name : List ℕ) (o : Reading Numbered) → option_and_then (enumerator_at name) o ≡ option_map (enumerator_with name) (option_and_then value_at o)
all_named name None = refl
all_named name (Some r) = named_value name r

pub enumerator_gives : (name : List ℕ) (o : Reading Numbered) (v : ℤ) → Some v ≡ option_and_then value_at o → Some (enumerator_with name v) ≡ option_and_then (enumerator_at name) o
enumerator_gives name o v e = sym (all_named name o ∙ ap (option_map (enumerator_with name)) (sym e))

pub enumerator_fails : (name : List ℕ) (o : Reading Numbered) → None ≡ option_and_then value_at o → None ≡ option_and_then (enumerator_at name) o
enumerator_fails name o e = sym (all_named name o ∙ ap (option_map (enumerator_with name)) (sym e))

pub enumerator_added : (g : Graph) (names later : List (List ℕ)) (name : List ℕ) (of : TypeId) (v : ℤ) (ms : List Member) (m : Member) (ws : List Word) → MembersKnown g names ms → shape g.nodes of.0 ≡ IntType int → KeepsNames names later → IsMember later name of v m →
    Some (enumerator_with name v) ≡ read_enumerator ws → enumerator_more (members_in g.nodes names ms) ws ≡ Some (members_in g.nodes later (ms ++ m ∷ []))
enumerator_added g names later name of v ms m ws k s keeps is e =
    ap (option_map (with_member (members_in g.nodes names ms))) (sym e)
    ∙ ap Some (sym (all_with g names later name of v ms m k keeps is ∙ ap (λ t. members_in g.nodes names ms ++ seen_with name t v ∷ []) s))

pub enumerator_none : (ms : List SeenMember) (ws : List Word) → None ≡ read_enumerator ws → enumerator_more ms ws ≡ None
enumerator_none ms ws e = ap (option_map (with_member ms)) (sym e)

-- lines

pub line_closed : (more : List Word → Option (List SeenMember)) (ms : List SeenMember) (line : List Word) (lines : Lines) → is_close line ≡ true → next_line more ms (line ∷ lines) ≡ Some (false, (ms, lines))
line_closed more ms line lines e = ap (λ b. cond {A = Option NextLine} b (Some (false, (ms, lines))) (option_map (line_of lines) (more line))) e

pub line_read : (more : List Word → Option (List SeenMember)) (ms ns : List SeenMember) (line : List Word) (lines : Lines) → is_close line ≡ false → more line ≡ Some ns → next_line more ms (line ∷ lines) ≡ Some (true, (ns, lines))
line_read more ms ns line lines e h = ap (λ b. cond {A = Option NextLine} b (Some (false, (ms, lines))) (option_map (line_of lines) (more line))) e ∙ ap (option_map (line_of lines)) h

pub line_fails : (more : List Word → Option (List SeenMember)) (ms : List SeenMember) (line : List Word) (lines : Lines) → is_close line ≡ false → more line ≡ None → next_line more ms (line ∷ lines) ≡ None
line_fails more ms line lines e h = ap (λ b. cond {A = Option NextLine} b (Some (false, (ms, lines))) (option_map (line_of lines) (more line))) e ∙ ap (option_map (line_of lines)) h

first_behind : (ms : List SeenMember) (m : SeenMember) (o : LinesReading (List SeenMember)) → option_map (members_behind ms) (option_map (member_first m) o) ≡ option_map (members_behind (ms ++ m ∷ [])) o
first_behind ms m None = refl
first_behind ms m (Some r) = ap (λ xs. Some (xs, r.1)) (sym (append_assoc ms (m ∷ []) r.0))

enumerators_by : (ms : List SeenMember) (ls : Lines) → enumerators_from ms ls ≡ option_and_then enumerators_on (next_line (enumerator_more ms) ms ls)
unfolding enumerators_from
enumerators_by ms [] = refl
enumerators_by ms (line ∷ ls) = by (is_close line) (read_enumerator line)
  where
    by : (b : Bool) (o : Option SeenMember) → option_map (members_behind ms) (cond {A = LinesReading (List SeenMember)} b (Some ([], ls)) (option_and_then (λ (m : SeenMember). option_map (member_first m) (read_members read_enumerator ls)) o))
        ≡ option_and_then enumerators_on (cond {A = Option NextLine} b (Some (false, (ms, ls))) (option_map (line_of ls) (option_map (with_member ms) o)))
    by true o = ap (λ xs. Some (xs, ls)) (append-nil ms)
    by false None = refl
    by false (Some m) = first_behind ms m (read_members read_enumerator ls)

pub enumerators_begin : (nodes : List Node) (names : List (List ℕ)) (xs : List Member) (b : Bool) (ns : List SeenMember) (ls vs : Lines) → xs ≡ [] → next_line (enumerator_more (members_in nodes names xs)) (members_in nodes names xs) ls ≡ Some (b, (ns, vs)) →
    enumerators_on (b, (ns, vs)) ≡ enumerators_from [] ls
unfolding members_in
enumerators_begin nodes names xs b ns ls vs e f = sym (enumerators_by [] ls ∙ ap (option_and_then enumerators_on) (ap (λ ys. next_line (enumerator_more (map (member_in nodes names) ys)) (map (member_in nodes names) ys) ls) (sym e) ∙ f))

pub enumerators_none : (nodes : List Node) (names : List (List ℕ)) (xs : List Member) (ls : Lines) → xs ≡ [] → next_line (enumerator_more (members_in nodes names xs)) (members_in nodes names xs) ls ≡ None → enumerators_from [] ls ≡ None
unfolding members_in
enumerators_none nodes names xs ls e f = enumerators_by [] ls ∙ ap (option_and_then enumerators_on) (ap (λ ys. next_line (enumerator_more (map (member_in nodes names) ys)) (map (member_in nodes names) ys) ls) (sym e) ∙ f)

pub enumerators_next : (m b : Bool) (ms ns : List SeenMember) (ls vs : Lines) (whole : LinesReading (List SeenMember)) → m ≡ true → next_line (enumerator_more ms) ms ls ≡ Some (b, (ns, vs)) → enumerators_on (m, (ms, ls)) ≡ whole → enumerators_on (b, (ns, vs)) ≡ whole
enumerators_next m b ms ns ls vs whole h e inv = sym (ap (λ c. enumerators_on (c, (ms, ls))) h ∙ enumerators_by ms ls ∙ ap (option_and_then enumerators_on) e) ∙ inv

pub enumerators_end : (m : Bool) (ms : List SeenMember) (ls : Lines) (whole : LinesReading (List SeenMember)) → m ≡ false → enumerators_on (m, (ms, ls)) ≡ whole → whole ≡ Some (ms, ls)
enumerators_end m ms ls whole h inv = sym inv ∙ ap (λ c. enumerators_on (c, (ms, ls))) h

pub enumerators_fail : (m : Bool) (ms : List SeenMember) (ls : Lines) (whole : LinesReading (List SeenMember)) → m ≡ true → next_line (enumerator_more ms) ms ls ≡ None → enumerators_on (m, (ms, ls)) ≡ whole → whole ≡ None
enumerators_fail m ms ls whole h e inv = sym inv ∙ ap (λ c. enumerators_on (c, (ms, ls))) h ∙ enumerators_by ms ls ∙ ap (option_and_then enumerators_on) e

-- members

ends_by : (s : Shape) (name : List ℕ) (ws : List Word) → member_at ((s, Some name), ws) ≡ cond (is_end ws) (Some (member_with name s)) None
ends_by s name (Semicolon ∷ []) = refl
ends_by s name (Semicolon ∷ w ∷ ws) = refl
ends_by s name _ = refl

pub declared_gives : (bases : Bases) (n : ℕ) (ws rs : List Word) (s : Shape) (text : List ℕ) → read_decl bases n ws ≡ Some ((s, Some text), rs) → is_end rs ≡ true → read_member bases n ws ≡ Some (member_with text s)
declared_gives bases n ws rs s text e end = ap (option_and_then member_at) e ∙ ends_by s text rs ∙ ap (λ b. cond b (Some (member_with text s)) None) end

pub declared_open : (bases : Bases) (n : ℕ) (ws rs : List Word) (s : Shape) (text : List ℕ) → read_decl bases n ws ≡ Some ((s, Some text), rs) → is_end rs ≡ false → read_member bases n ws ≡ None
declared_open bases n ws rs s text e end = ap (option_and_then member_at) e ∙ ends_by s text rs ∙ ap (λ b. cond b (Some (member_with text s)) None) end

pub declared_nameless : (bases : Bases) (n : ℕ) (ws rs : List Word) (s : Shape) → read_decl bases n ws ≡ Some ((s, None), rs) → read_member bases n ws ≡ None
declared_nameless bases n ws rs s e = ap (option_and_then member_at) e

pub declared_fails : (bases : Bases) (n : ℕ) (ws : List Word) → read_decl bases n ws ≡ None → read_member bases n ws ≡ None
declared_fails bases n ws e = ap (option_and_then member_at) e

others_by : (b : Bool) (ms : List SeenMember) (m : SeenMember) → b ≡ false → cond b None (Some (ms ++ m ∷ [])) ≡ Some (ms ++ m ∷ [])
others_by true ms m e = absurd (cc e)
others_by false ms m e = refl

pub other_gives : (g : Graph) (names later : List (List ℕ)) (ms : List Member) (x : Names) (text : List ℕ) (ty : TypeId) (m : Member) (ts : List (List ℕ)) → FieldsKnown g names ms x → KeepsNames names later → IsMember later text ty (pos 0) m → with_new x.numbering text ≡ Some ts →
    with_other (members_in g.nodes names ms) (member_with text (shape g.nodes ty.0)) ≡ Some (members_in g.nodes later (ms ++ m ∷ []))
other_gives g names later ms x text ty m ts k keeps is e =
    others_by (is_among (map member_name_of (members_in g.nodes names ms)) text) (members_in g.nodes names ms) (member_with text (shape g.nodes ty.0)) (ap (λ us. is_among us text) (sym k.named) ∙ (new_some x.numbering ts text e).0)
    ∙ ap Some (sym (all_with g names later text ty (pos 0) ms m k.members keeps is))

pub other_refused : (g : Graph) (names : List (List ℕ)) (ms : List Member) (x : Names) (text : List ℕ) (s : Shape) → FieldsKnown g names ms x → with_new x.numbering text ≡ None → with_other (members_in g.nodes names ms) (member_with text s) ≡ None
other_refused g names ms x text s k e = ap (λ b. cond b None (Some (members_in g.nodes names ms ++ member_with text s ∷ []))) (ap (λ us. is_among us text) (sym k.named) ∙ new_none x.numbering text e)

types_more : (ms : List Member) (m : Member) → map type_number (ms ++ m ∷ []) ≡ map type_number ms ++ m.ty.of ∷ []
types_more [] m = refl
types_more (x ∷ ms) m = ap (λ ts. x.ty.of ∷ ts) (types_more ms m)

names_more : (xs : List SeenMember) (m : SeenMember) → map member_name_of (xs ++ m ∷ []) ≡ map member_name_of xs ++ m.name ∷ []
names_more [] m = refl
names_more (x ∷ xs) m = ap (λ ts. x.name ∷ ts) (names_more xs m)

pub fields_more : (g : Graph) (names later : List (List ℕ)) (ms : List Member) (x y : Names) (text : List ℕ) (ty : TypeId) (m : Member) → ty.0 < length g.nodes → FieldsKnown g names ms x → KeepsNames names later → IsMember later text ty (pos 0) m →
    with_new x.numbering text ≡ Some y.numbering → y.types.items ≡ x.types.items ++ ty ∷ [] → FieldsKnown g later (ms ++ m ∷ []) y
fields_more g names later ms x y text ty m less k keeps is e types = let new = new_some x.numbering y.numbering text e in record {
  members = members_more g names later text ty (pos 0) ms m less k.members keeps is;
  there = member_there (length g.nodes) later text ty (pos 0) ms m k.there less is;
  named =
      new.1
      ∙ ap (λ ts. ts ++ text ∷ []) k.named
      ∙ sym (names_more (members_in g.nodes names ms) (seen_with text (shape g.nodes ty.0) (pos 0)))
      ∙ ap (map member_name_of) (sym (all_with g names later text ty (pos 0) ms m k.members keeps is));
  typed = types ∙ ap (λ ts. ts ++ ty ∷ []) k.typed ∙ ap (λ t. map type_number ms ++ t ∷ []) (sym is.type) ∙ sym (types_more ms m);
  apart = ap are_different new.1 ∙ different_more x.numbering text k.apart new.0;
}

pub fields_later : (g h : Graph) (names : List (List ℕ)) (ms : List Member) (x : Names) → Grows g h → FieldsKnown g names ms x → FieldsKnown h names ms x
fields_later g h names ms x e k = record {
  members = record { steady = λ i last r q. k.members.steady i last (grows_twice g h i e r) q ∙ sym (k.members.steady h names e (pool_same names)); plain = k.members.plain };
  there = there_later g h ms e k.there;
  named = k.named ∙ ap (map member_name_of) (sym (k.members.steady h names e (pool_same names)));
  typed = k.typed;
  apart = k.apart;
}

pub more_gives : (g h : Graph) (names : List (List ℕ)) (ms : List Member) (x : Names) (bases : Bases) (n : ℕ) (ws : List Word) (m : SeenMember) (ns : List SeenMember) → FieldsKnown g names ms x → Grows g h → read_member bases n ws ≡ Some m →
    with_other (members_in h.nodes names ms) m ≡ Some ns → member_more (read_member bases n) (members_in g.nodes names ms) ws ≡ Some ns
more_gives g h names ms x bases n ws m ns k r e f = ap (option_and_then (with_other (members_in g.nodes names ms))) e ∙ ap (λ xs. with_other xs m) (sym (k.members.steady h names r (pool_same names))) ∙ f

pub more_refused : (g h : Graph) (names : List (List ℕ)) (ms : List Member) (x : Names) (bases : Bases) (n : ℕ) (ws : List Word) (m : SeenMember) → FieldsKnown g names ms x → Grows g h → read_member bases n ws ≡ Some m →
    with_other (members_in h.nodes names ms) m ≡ None → member_more (read_member bases n) (members_in g.nodes names ms) ws ≡ None
more_refused g h names ms x bases n ws m k r e f = ap (option_and_then (with_other (members_in g.nodes names ms))) e ∙ ap (λ xs. with_other xs m) (sym (k.members.steady h names r (pool_same names))) ∙ f

pub more_fails : (bases : Bases) (n : ℕ) (ms : List SeenMember) (ws : List Word) → read_member bases n ws ≡ None → member_more (read_member bases n) ms ws ≡ None
more_fails bases n ms ws e = ap (option_and_then (with_other ms)) e

pub no_fields : (g : Graph) (names : List (List ℕ)) (ms : List Member) (x : Names) → ms ≡ [] → x.numbering ≡ [] → x.types.items ≡ [] → FieldsKnown g names ms x
unfolding members_in
no_fields g names ms x e n t = subst (λ ns. FieldsKnown g names ns x) (sym e) (record {
  members = none_known g names [] refl;
  there = tt;
  named = n;
  typed = t;
  apart = ap are_different n;
})

apart_by : (ms : List SeenMember) (ls : Lines) (b : Bool) → b ≡ true → cond {A = LinesReading (List SeenMember)} b (Some (ms, ls)) None ≡ Some (ms, ls)
apart_by ms ls true e = refl
apart_by ms ls false e = absurd (cc e)

alike_by : {A : Type 0} (b : Bool) (o : Option A) → b ≡ false → cond b o None ≡ None
alike_by true o e = absurd (cc e)
alike_by false o e = refl

names_behind : (xs ys : List SeenMember) (m : SeenMember) → map member_name_of (xs ++ m ∷ ys) ≡ map member_name_of xs ++ m.name ∷ map member_name_of ys
names_behind [] ys m = refl
names_behind (x ∷ xs) ys m = ap (λ ts. x.name ∷ ts) (names_behind xs ys m)

-- one more whose name is one of theirs
named_twice : (ms : List SeenMember) (m : SeenMember) (o : LinesReading (List SeenMember)) → is_among (map member_name_of ms) m.name ≡ true → option_and_then members_apart (option_map (members_behind ms) (option_map (member_first m) o)) ≡ None
named_twice ms m None e = refl
named_twice ms m (Some r) e = alike_by (are_different (map member_name_of (ms ++ m ∷ r.0))) (Some (ms ++ m ∷ r.0, r.1)) (ap are_different (names_behind ms r.0 m) ∙ different_without (map member_name_of ms) (map member_name_of r.0) m.name e)

members_by : (of : List Word → Option SeenMember) (ms : List SeenMember) (ls : Lines) → are_different (map member_name_of ms) ≡ true → members_from of ms ls ≡ option_and_then (members_on of) (next_line (member_more of ms) ms ls)
unfolding members_from
members_by of ms [] d = refl
members_by of ms (line ∷ ls) d = by (is_close line) (of line)
  where
    one : (m : SeenMember) (b : Bool) → is_among (map member_name_of ms) m.name ≡ b → option_and_then members_apart (option_map (members_behind ms) (option_map (member_first m) (read_members of ls)))
        ≡ option_and_then (members_on of) (option_map (line_of ls) (cond b None (Some (ms ++ m ∷ []))))
    one m true e = named_twice ms m (read_members of ls) e
    one m false e = ap (option_and_then members_apart) (first_behind ms m (read_members of ls))

    by : (b : Bool) (o : Option SeenMember) → option_and_then members_apart (option_map (members_behind ms) (cond {A = LinesReading (List SeenMember)} b (Some ([], ls)) (option_and_then (λ (m : SeenMember). option_map (member_first m) (read_members of ls)) o)))
        ≡ option_and_then (members_on of) (cond {A = Option NextLine} b (Some (false, (ms, ls))) (option_map (line_of ls) (option_and_then (with_other ms) o)))
    by true o = ap (λ xs. members_apart (xs, ls)) (append-nil ms) ∙ apart_by ms ls (are_different (map member_name_of ms)) d
    by false None = refl
    by false (Some m) = one m (is_among (map member_name_of ms) m.name) refl

apart_of : (g : Graph) (names : List (List ℕ)) (ms : List Member) (x : Names) → FieldsKnown g names ms x → are_different (map member_name_of (members_in g.nodes names ms)) ≡ true
apart_of g names ms x k = ap are_different (sym k.named) ∙ k.apart

pub members_begin : (bases : Bases) (n : ℕ) (nodes : List Node) (names : List (List ℕ)) (xs : List Member) (b : Bool) (ns : List SeenMember) (ls vs : Lines) → xs ≡ [] →
    next_line (member_more (read_member bases n) (members_in nodes names xs)) (members_in nodes names xs) ls ≡ Some (b, (ns, vs)) → members_on (read_member bases n) (b, (ns, vs)) ≡ members_from (read_member bases n) [] ls
unfolding members_in
members_begin bases n nodes names xs b ns ls vs e f =
    let of = read_member bases n in
    sym (members_by of [] ls refl ∙ ap (option_and_then (members_on of)) (ap (λ ys. next_line (member_more of (map (member_in nodes names) ys)) (map (member_in nodes names) ys) ls) (sym e) ∙ f))

pub members_none : (bases : Bases) (n : ℕ) (nodes : List Node) (names : List (List ℕ)) (xs : List Member) (ls : Lines) → xs ≡ [] → next_line (member_more (read_member bases n) (members_in nodes names xs)) (members_in nodes names xs) ls ≡ None → members_from (read_member bases n) [] ls ≡ None
unfolding members_in
members_none bases n nodes names xs ls e f =
    let of = read_member bases n in
    members_by of [] ls refl ∙ ap (option_and_then (members_on of)) (ap (λ ys. next_line (member_more of (map (member_in nodes names) ys)) (map (member_in nodes names) ys) ls) (sym e) ∙ f)

pub members_next : (s r : Setting) (n : ℕ) (names : List (List ℕ)) (xs : List Member) (x : Names) (m b : Bool) (ns : List SeenMember) (ls vs : Lines) (whole : LinesReading (List SeenMember)) → FieldsKnown r.graph names xs x → env_in r ≡ env_in s → m ≡ true →
    next_line (member_more (read_member (bases (env_in r)) n) (members_in r.graph.nodes names xs)) (members_in r.graph.nodes names xs) ls ≡ Some (b, (ns, vs)) →
    members_on (read_member (bases (env_in s)) n) (m, (members_in r.graph.nodes names xs, ls)) ≡ whole → members_on (read_member (bases (env_in s)) n) (b, (ns, vs)) ≡ whole
members_next s r n names xs x m b ns ls vs whole k same h e inv =
    let ms = members_in r.graph.nodes names xs in
    let of = read_member (bases (env_in s)) n in
    let f : next_line (member_more of ms) ms ls ≡ Some (b, (ns, vs)) = ap (λ (v : Env). next_line (member_more (read_member (bases v) n) ms) ms ls) (sym same) ∙ e in
    sym (ap (λ c. members_on of (c, (ms, ls))) h ∙ members_by of ms ls (apart_of r.graph names xs x k) ∙ ap (option_and_then (members_on of)) f) ∙ inv

pub members_end : (bases : Bases) (n : ℕ) (m : Bool) (ms : List SeenMember) (ls : Lines) (whole : LinesReading (List SeenMember)) → m ≡ false → members_on (read_member bases n) (m, (ms, ls)) ≡ whole → whole ≡ Some (ms, ls)
members_end bases n m ms ls whole h inv = sym inv ∙ ap (λ c. members_on (read_member bases n) (c, (ms, ls))) h

pub members_fail : (s r : Setting) (g : Graph) (n : ℕ) (names : List (List ℕ)) (xs : List Member) (x : Names) (m : Bool) (ls : Lines) (whole : LinesReading (List SeenMember)) → FieldsKnown g names xs x → env_in r ≡ env_in s → m ≡ true →
    next_line (member_more (read_member (bases (env_in r)) n) (members_in g.nodes names xs)) (members_in g.nodes names xs) ls ≡ None →
    members_on (read_member (bases (env_in s)) n) (m, (members_in g.nodes names xs, ls)) ≡ whole → whole ≡ None
members_fail s r g n names xs x m ls whole k same h e inv =
    let ms = members_in g.nodes names xs in
    let of = read_member (bases (env_in s)) n in
    let f : next_line (member_more of ms) ms ls ≡ None = ap (λ (v : Env). next_line (member_more (read_member (bases v) n) ms) ms ls) (sym same) ∙ e in
    sym inv ∙ ap (λ c. members_on of (c, (ms, ls))) h ∙ members_by of ms ls (apart_of g names xs x k) ∙ ap (option_and_then (members_on of)) f

fails_so : {A B : Type 0} (e : Stop) (o : Option A) (p : Option B) → (o ≡ None → p ≡ None) → Fails e o → Fails e p
fails_so NotCil o p h f = h f
fails_so WantOfMemory o p h f = tt

-- a stop that comes from a part
pub stops_so : {A B C : Type 0} (seen : A → B) (r : Result A Stop) (o : Option C) (p : Option B) → IsErr r → IfErr r (λ e. Fails e o) → (o ≡ None → p ≡ None) → Gives seen r p
stops_so seen (Ok x) o p e f h = absurd (cc e)
stops_so seen (Err e) o p _ f h = fails_so e o p h f
