-- Device: what is known stays while the graph grows.
use Rattle.std.proofs.Common.{◌≡◌, ℕ, zero, suc, ◌<◌, ◌≤◌, List, [], ◌∷◌, Option, Some, None, refl, sym, ap, ◌∙◌, map, length, arith, slice_get, get_or, subst}
use Rattle.cil_base.specs.declared.kinds.Abi.{Abi}
use Rattle.cil_base.specs.declared.kinds.IntKind.{IntKind}
use Rattle.cil_base.specs.declared.numbers.TypeId.{TypeId}
use Rattle.cil_base.specs.Integer.{kind_in, long_of}
use Rattle.type_graph.specs.declared.nodes.Node.{Node}
use Rattle.type_graph.specs.Shapes.{Shape, shape, AggType}
use Rattle.type_graph.specs.Arena.{Graph, EachType}
use Rattle.type_graph.specs.Growth.{Grows}
use Rattle.type_graph.proofs.ShapeLaws.{kept}
use Rattle.cil_tree.specs.Tree.{Local, Global, Var}
use Rattle.std.specs.Prelude.{IfSome}
use Rattle.std.specs.Option.{option_map}
use Rattle.cil_tree.specs.Names.{local_name_of}
use Rattle.cil_tree.specs.declared.expressions.Host.{Global as SeenGlobal, Var as SeenVar}
use Rattle.cil_text.specs.ReadTypes.{find}
use Rattle.cil_text.specs.ReadExps.{Env, find_named, type_of_named, host_named, host_or_global, fields, fields_of, members_at}
use Rattle.cil_reader.specs.Parts.{HostKnown}
use Rattle.cil_reader.specs.declared.names.Names.{Names}
use Rattle.cil_reader.specs.declared.names.Known.{Known}
use Rattle.cil_reader.specs.Settings.{zipped, locals_of, env_of, EachNames, KnownIn, Setting, env_in, FoundIn, FoundAmong, type_in}
use Rattle.cil_declarators.proofs.LayersLaws.{no_fewer, each_below}

pub zipped_kept : (g h : Graph) (ns : List (List ℕ)) (ts : List TypeId) → Grows g h → EachType (length g.nodes) ts → zipped h.nodes ns ts ≡ zipped g.nodes ns ts
zipped_kept g h [] ts e b = refl
zipped_kept g h (n ∷ ns) [] e b = refl
zipped_kept g h (n ∷ ns) (t ∷ ts) e b =
    ap (λ (s : Shape). record { name = n; type = Some s } ∷ zipped h.nodes ns ts) (kept g h t.0 e b.0)
    ∙ ap (λ (xs : List Local). record { name = n; type = Some (shape g.nodes t.0) } ∷ xs) (zipped_kept g h ns ts e b.1)

all_kept : (g h : Graph) (xs : List Names) → Grows g h → EachNames (length g.nodes) xs → map (locals_of h.nodes) xs ≡ map (locals_of g.nodes) xs
all_kept g h [] e b = refl
all_kept g h (x ∷ xs) e b =
    ap (λ (l : List Local). l ∷ map (locals_of h.nodes) xs) (zipped_kept g h x.numbering x.types.items e b.0)
    ∙ ap (λ (ls : List (List Local)). locals_of g.nodes x ∷ ls) (all_kept g h xs e b.1)

env_with : Abi → List (List ℕ) → List (List Local) → List Local → List Local → Env
env_with abi ts ms gs ls = record { abi = abi; tags = ts; members = ms; globals = gs; locals = ls }

env_kept : (g h : Graph) (k : Known) → Grows g h → KnownIn g k → env_of h k ≡ env_of g k
unfolding env_of env_with
env_kept g h k e known =
    ap (λ abi. env_with abi k.tags (map (locals_of h.nodes) k.members.items) (locals_of h.nodes k.globals) (locals_of h.nodes k.locals)) e.abi
    ∙ ap (λ ms. env_with g.abi k.tags ms (locals_of h.nodes k.globals) (locals_of h.nodes k.locals)) (all_kept g h k.members.items e known.members)
    ∙ ap (λ gs. env_with g.abi k.tags (map (locals_of g.nodes) k.members.items) gs (locals_of h.nodes k.locals)) (zipped_kept g h k.globals.numbering k.globals.types.items e known.globals)
    ∙ ap (λ ls. env_with g.abi k.tags (map (locals_of g.nodes) k.members.items) (locals_of g.nodes k.globals) ls) (zipped_kept g h k.locals.numbering k.locals.types.items e known.locals)

each_later : (n m : ℕ) (xs : List Names) → n ≤ m → EachNames n xs → EachNames m xs
each_later n m [] h b = tt
each_later n m (x ∷ xs) h b = (each_below n m x.types.items h b.0, each_later n m xs h b.1)

pub known_kept : (g h : Graph) (k : Known) → Grows g h → KnownIn g k → KnownIn h k
known_kept g h k e known = let more = no_fewer g h e in record {
  tags = omega (arith, known.tags, e.more_aggs);
  members = each_later (length g.nodes) (length h.nodes) k.members.items more known.members;
  globals = each_below (length g.nodes) (length h.nodes) k.globals.types.items more known.globals;
  locals = each_below (length g.nodes) (length h.nodes) k.locals.types.items more known.locals;
}

pub setting_tags : (s : Setting) → (env_in s).tags ≡ s.known.tags
unfolding env_in env_of
setting_tags s = refl

pub setting_model : (s : Setting) → (env_in s).abi ≡ s.graph.abi
unfolding env_in env_of
setting_model s = refl

pub setting_kept : (s t : Setting) → Grows s.graph t.graph → KnownIn s.graph s.known → t.known ≡ s.known → env_in t ≡ env_in s
unfolding env_in
setting_kept s t e known same = ap (env_of t.graph) same ∙ env_kept s.graph t.graph s.known e known

-- names

names_zipped : (nodes : List Node) (ns : List (List ℕ)) (ts : List TypeId) → length ns ≡ length ts → map local_name_of (zipped nodes ns ts) ≡ ns
names_zipped nodes [] ts e = refl
names_zipped nodes (n ∷ ns) [] e = absurd (omega (arith, e))
names_zipped nodes (n ∷ ns) (t ∷ ts) e = ap (λ xs. n ∷ xs) (names_zipped nodes ns ts (omega (arith, e)))

typed_zipped : (nodes : List Node) (ns : List (List ℕ)) (ts : List TypeId) (i : ℕ) (t : TypeId) → length ns ≡ length ts → slice_get ts i ≡ Some t → type_of_named (zipped nodes ns ts) i ≡ Some (shape nodes t.0)
typed_zipped nodes [] [] i t e f = absurd (cc f)
typed_zipped nodes [] (u ∷ ts) i t e f = absurd (omega (arith, e))
typed_zipped nodes (n ∷ ns) [] i t e f = absurd (omega (arith, e))
typed_zipped nodes (n ∷ ns) (u ∷ ts) zero t e f = let same : u ≡ t = cc in ap (λ (v : TypeId). Some (shape nodes v.0)) same
typed_zipped nodes (n ∷ ns) (u ∷ ts) (suc i) t e f = typed_zipped nodes ns ts i t (omega (arith, e)) f

below_at : (n : ℕ) (ts : List TypeId) (i : ℕ) (t : TypeId) → slice_get ts i ≡ Some t → EachType n ts → t.0 < n
below_at n [] i t f b = absurd (cc f)
below_at n (u ∷ ts) zero t f b = let same : u ≡ t = cc in subst (λ (v : TypeId). v.0 < n) same b.0
below_at n (u ∷ ts) (suc i) t f b = below_at n ts i t f b.1

pub got : (ts : List TypeId) (i : ℕ) (t : TypeId) → i < length ts → t ≡ get_or ts i t → slice_get ts i ≡ Some t
got [] i t h e = absurd (omega (arith, h))
got (u ∷ ts) zero t h e = ap Some (sym e)
got (u ∷ ts) (suc i) t h e = got ts i t (omega (arith, h)) e

pub found_in : (name : List ℕ) (x : Names) (i : ℕ) (t : TypeId) → length x.numbering ≡ length x.types.items → Some i ≡ find name x.numbering → slice_get x.types.items i ≡ Some t → FoundIn name x (Some (i, t))
found_in name x i t paired e f = record {
  at = λ nodes. e ∙ ap (find name) (sym (names_zipped nodes x.numbering x.types.items paired));
  typed = λ nodes. typed_zipped nodes x.numbering x.types.items i t paired f;
  below = λ n b. below_at n x.types.items i t f b;
}

pub found_none : (name : List ℕ) (x : Names) → length x.numbering ≡ length x.types.items → None ≡ find name x.numbering → FoundIn name x None
found_none name x paired e = record {
  at = λ nodes. e ∙ ap (find name) (sym (names_zipped nodes x.numbering x.types.items paired));
  typed = λ nodes. tt;
  below = λ n b. tt;
}

pub host_local : (s : Setting) (name : List ℕ) (n : ℕ) (t : TypeId) → FoundIn name s.known.locals (Some (n, t)) → host_named (env_in s) name ≡ Some (Var n)
unfolding env_in env_of
host_local s name n t f = ap (λ o. host_or_global o (find_named name (locals_of s.graph.nodes s.known.globals))) (sym (f.at s.graph.nodes))

pub host_global : (s : Setting) (name : List ℕ) (o : Option ℕ) → FoundIn name s.known.locals None → o ≡ find_named name (env_in s).globals → host_named (env_in s) name ≡ option_map Global o
unfolding env_in env_of
host_global s name o f e = ap (λ p. host_or_global p (find_named name (locals_of s.graph.nodes s.known.globals))) (sym (f.at s.graph.nodes)) ∙ ap (option_map Global) (sym e)

pub global_number : (s : Setting) (name : List ℕ) (r : Option (ℕ × TypeId)) → FoundIn name s.known.globals r → option_map (λ (p : ℕ × TypeId). p.0) r ≡ find_named name (env_in s).globals
unfolding env_in env_of
global_number s name r f = f.at s.graph.nodes

abbrev setting : Graph → Known → Setting
setting g k = record { graph = g; known = k }

pub local_known : (g : Graph) (k : Known) (s : Setting) (name : List ℕ) (p : ℕ × TypeId) → setting g k ≡ s → KnownIn g k → FoundIn name k.locals (Some p) → HostKnown s.graph (env_in s) (SeenVar (record { 0 = p.0 })) (Some p.1)
unfolding env_in env_of
local_known g k s name p is known f = subst (λ v. HostKnown v.graph (env_in v) (SeenVar (record { 0 = p.0 })) (Some p.1)) is (record {
  steady = λ h r. refl;
  typed = sym (f.typed g.nodes);
  below = f.below (length g.nodes) known.locals;
})

pub global_known : (g : Graph) (k : Known) (s : Setting) (name : List ℕ) (p : ℕ × TypeId) → setting g k ≡ s → KnownIn g k → FoundIn name k.globals (Some p) → HostKnown s.graph (env_in s) (SeenGlobal (record { 0 = p.0 })) (Some p.1)
unfolding env_in env_of
global_known g k s name p is known f = subst (λ v. HostKnown v.graph (env_in v) (SeenGlobal (record { 0 = p.0 })) (Some p.1)) is (record {
  steady = λ h r. refl;
  typed = sym (f.typed g.nodes);
  below = f.below (length g.nodes) known.globals;
})

-- the kinds of the data model

pub setting_kind : (g : Graph) (k : Known) (s : Setting) (written : IntKind) → setting g k ≡ s → kind_in g.abi written ≡ kind_in (env_in s).abi written
unfolding env_in env_of
setting_kind g k s written is = ap (λ (v : Setting). kind_in (env_in v).abi written) is

pub setting_long : (g : Graph) (k : Known) (s : Setting) → setting g k ≡ s → long_of g.abi ≡ long_of (env_in s).abi
unfolding env_in env_of
setting_long g k s is = ap (λ (v : Setting). long_of (env_in v).abi) is

-- members

members_at_of : (nodes : List Node) (xs : List Names) (a : ℕ) (x : Names) → slice_get xs a ≡ Some x → slice_get (map (locals_of nodes) xs) a ≡ Some (locals_of nodes x)
members_at_of nodes [] a x e = absurd (cc e)
members_at_of nodes (y ∷ xs) zero x e = let same : y ≡ x = cc in ap (λ z. Some (locals_of nodes z)) same
members_at_of nodes (y ∷ xs) (suc a) x e = members_at_of nodes xs a x e

no_members_at : (nodes : List Node) (xs : List Names) (a : ℕ) → slice_get xs a ≡ None → slice_get (map (locals_of nodes) xs) a ≡ None
no_members_at nodes [] a e = refl
no_members_at nodes (y ∷ xs) zero e = absurd (cc e)
no_members_at nodes (y ∷ xs) (suc a) e = no_members_at nodes xs a e

each_at : (n : ℕ) (xs : List Names) (a : ℕ) (x : Names) → slice_get xs a ≡ Some x → EachNames n xs → EachType n x.types.items
each_at n [] a x e b = absurd (cc e)
each_at n (y ∷ xs) zero x e b = let same : y ≡ x = cc in subst (λ (z : Names). EachType n z.types.items) same b.0
each_at n (y ∷ xs) (suc a) x e b = each_at n xs a x e b.1

abbrev locals_at : List Node → Option Names → List Local
locals_at nodes None = []
locals_at nodes (Some x) = locals_of nodes x

fields_at : (g : Graph) (k : Known) (a : ℕ) → fields_of (env_of g k) (AggType a) ≡ locals_at g.nodes (slice_get k.members.items a)
unfolding env_of
fields_at g k a = by (slice_get k.members.items a) refl
  where
    by : (o : Option Names) → slice_get k.members.items a ≡ o → members_at (slice_get (map (locals_of g.nodes) k.members.items) a) ≡ locals_at g.nodes o
    by None e = ap members_at (no_members_at g.nodes k.members.items a e)
    by (Some x) e = ap members_at (members_at_of g.nodes k.members.items a x e)

number_among : (nodes : List Node) (name : List ℕ) (o : Option Names) (r : Option (ℕ × TypeId)) → FoundAmong name o r → option_map (λ (p : ℕ × TypeId). p.0) r ≡ find_named name (locals_at nodes o)
number_among nodes name None r f = ap (option_map (λ (p : ℕ × TypeId). p.0)) f
number_among nodes name (Some x) r f = f.at nodes

typed_among : (nodes : List Node) (name : List ℕ) (o : Option Names) (r : Option (ℕ × TypeId)) → FoundAmong name o r → IfSome r (λ (p : ℕ × TypeId). type_of_named (locals_at nodes o) p.0 ≡ Some (shape nodes p.1.0))
typed_among nodes name None r f = subst (λ v. IfSome v (λ (p : ℕ × TypeId). type_of_named [] p.0 ≡ Some (shape nodes p.1.0))) (sym f) tt
typed_among nodes name (Some x) r f = f.typed nodes

below_among : (n : ℕ) (name : List ℕ) (xs : List Names) (a : ℕ) (o : Option Names) (r : Option (ℕ × TypeId)) → slice_get xs a ≡ o → EachNames n xs → FoundAmong name o r → IfSome r (λ (p : ℕ × TypeId). p.1.0 < n)
below_among n name xs a None r e b f = subst (λ v. IfSome v (λ (p : ℕ × TypeId). p.1.0 < n)) (sym f) tt
below_among n name xs a (Some x) r e b f = f.below n (each_at n xs a x e b)

pub field_number : (g : Graph) (k : Known) (s : Setting) (name : List ℕ) (o : Option TypeId) (t : TypeId) (a : ℕ) (r : Option (ℕ × TypeId)) → setting g k ≡ s → o ≡ Some t → shape g.nodes t.0 ≡ AggType a → FoundAmong name (slice_get k.members.items a) r →
    option_map (λ (p : ℕ × TypeId). p.0) r ≡ find_named name (fields (env_in s) (type_in s.graph.nodes o))
unfolding env_in
field_number g k s name o t a r is some agg f =
    number_among g.nodes name (slice_get k.members.items a) r f
    ∙ ap (find_named name) (sym (fields_at g k a) ∙ ap (fields_of (env_of g k)) (sym agg) ∙ ap (λ (v : Option TypeId). fields (env_of g k) (type_in g.nodes v)) (sym some) ∙ ap (λ (v : Setting). fields (env_in v) (type_in v.graph.nodes o)) is)

pub field_typed : (g : Graph) (k : Known) (s : Setting) (name : List ℕ) (o : Option TypeId) (t : TypeId) (a : ℕ) (r : Option (ℕ × TypeId)) → setting g k ≡ s → o ≡ Some t → shape g.nodes t.0 ≡ AggType a → FoundAmong name (slice_get k.members.items a) r →
    IfSome r (λ (p : ℕ × TypeId). type_of_named (fields (env_in s) (type_in s.graph.nodes o)) p.0 ≡ Some (shape s.graph.nodes p.1.0))
unfolding env_in
field_typed g k s name o t a r is some agg f =
    subst (λ (v : Setting). IfSome r (λ (p : ℕ × TypeId). type_of_named (fields (env_in v) (type_in v.graph.nodes o)) p.0 ≡ Some (shape v.graph.nodes p.1.0))) is
    (subst (λ (v : Option TypeId). IfSome r (λ (p : ℕ × TypeId). type_of_named (fields (env_of g k) (type_in g.nodes v)) p.0 ≡ Some (shape g.nodes p.1.0))) (sym some)
    (subst (λ ls. IfSome r (λ (p : ℕ × TypeId). type_of_named ls p.0 ≡ Some (shape g.nodes p.1.0))) (sym (fields_at g k a) ∙ ap (fields_of (env_of g k)) (sym agg)) (typed_among g.nodes name (slice_get k.members.items a) r f)))

pub field_below : (g : Graph) (k : Known) (s : Setting) (name : List ℕ) (a : ℕ) (r : Option (ℕ × TypeId)) → setting g k ≡ s → KnownIn g k → FoundAmong name (slice_get k.members.items a) r → IfSome r (λ (p : ℕ × TypeId). p.1.0 < length s.graph.nodes)
field_below g k s name a r is known f = subst (λ (v : Setting). IfSome r (λ (p : ℕ × TypeId). p.1.0 < length v.graph.nodes)) is (below_among (length g.nodes) name k.members.items a (slice_get k.members.items a) r refl known.members f)
