-- Device: the steps by which the things of units are added, over plain values.
use Rattle.std.proofs.Common.{◌≡◌, ℕ, zero, suc, ◌+◌, ◌<◌, ◌≤◌, List, [], ◌∷◌, ◌++◌, Option, Some, None, Bor, map, length, take, get_or, slice_get, subst, refl, sym, ap, ◌∙◌, arith}
use Rattle.std.specs.Option.{option_map}
use Rattle.std.proofs.lemmas.List.{map-append}
use Rattle.type_graph.specs.declared.aggregates.Aggregate.{Aggregate}
use Rattle.type_graph.specs.declared.aggregates.Member.{Member}
use Rattle.type_graph.specs.Arena.{Graph, IsArena}
use Rattle.type_things.specs.declared.stems.StemId.{StemId}
use Rattle.type_things.specs.declared.web.Head.TheVariants.{Tagged}
use Rattle.type_things.specs.declared.web.First.{First}
use Rattle.type_things.specs.declared.web.Head.{Head}
use Rattle.type_things.specs.declared.web.Label.{Label}
use Rattle.type_things.specs.declared.web.Stored.{Stored}
use Rattle.type_things.specs.declared.web.Web.{Web}
use Rattle.type_things.specs.Things.{Thing, inside_of}
use Rattle.type_things.specs.Heads.{parts_of}
use Rattle.type_things.specs.Units.{tag_stem, member_part, aggregate_thing, type_thing, aggregates_from, types_from, aggregate_count, firsts_from}
use Rattle.type_things.specs.Webs.{things_in, first_pair, first_pairs}
use Rattle.type_things.specs.Weaving.{Spanned, IsSpanned, Adds, AllArenas, IsWoven, type_count}
use Rattle.type_things.proofs.WeaveLaws.{adds_nothing, adds_then}
use Rattle.type_things.proofs.WovenLaws.{take_none, aggregates_next, types_next, count_next, type_count_next, firsts_next, arenas_next}

next_is : (n : ℕ) → n + 1 ≡ suc n
next_is n = omega arith

some_map : {X Y : Type 0} (f : X → Y) (xs : List X) (i : ℕ) (x : X) → slice_get xs i ≡ Some x → slice_get (map f xs) i ≡ Some (f x)
some_map f [] i x e = (let bad : ⊥ = cc in absurd bad)
some_map f (y ∷ xs) zero x e = (let h : y ≡ x = cc in ap (λ z. Some (f z)) h)
some_map f (y ∷ xs) (suc i) x e = some_map f xs i x e

got : {X : Type 0} (xs : List X) (i : ℕ) (d : X) → i < length xs → slice_get xs i ≡ Some (get_or xs i d)
got [] i d h = absurd (omega (arith, h))
got (x ∷ xs) zero d h = refl
got (x ∷ xs) (suc i) d h = got xs i d (omega (arith, h))

take_over : {X : Type 0} (xs : List X) (n : ℕ) → length xs ≤ n → take n xs ≡ xs
take_over [] zero h = refl
take_over [] (suc n) h = refl
take_over (x ∷ xs) zero h = absurd (omega (arith, h))
take_over (x ∷ xs) (suc n) h = ap (λ l. x ∷ l) (take_over xs n (omega (arith, h)))

take_more : {X : Type 0} (xs : List X) (i : ℕ) (x : X) → slice_get xs i ≡ Some x → take (i + 1) xs ≡ take i xs ++ x ∷ []
take_more {X} xs i x e = ap (λ n. take n xs) (next_is i) ∙ by xs i e
  where
    by : (ys : List X) (j : ℕ) → slice_get ys j ≡ Some x → take (suc j) ys ≡ take j ys ++ x ∷ []
    by [] j q = (let bad : ⊥ = cc in absurd bad)
    by (y ∷ ys) zero q = (let s : y ≡ x = cc in ap (λ z. z ∷ []) s)
    by (y ∷ ys) (suc j) q = ap (λ l. y ∷ l) (by ys j q)

map_length : {X Y : Type 0} (f : X → Y) (xs : List X) → length (map f xs) ≡ length xs
map_length f [] = refl
map_length f (x ∷ xs) = ap suc (map_length f xs)

-- the graph of a unit
pub graph_at : {U : Type 0} (f : U → Graph) (us : List U) (u : ℕ) (d : U) (g : Graph) → u < length us → g ≡ f (get_or us u d) → slice_get (map f us) u ≡ Some g
graph_at f us u d g h e = some_map f us u (get_or us u d) (got us u d h) ∙ ap Some (sym e)

pub take_end : {U : Type 0} (f : U → Graph) (us : List U) (u : ℕ) → length us ≤ u → take u (map f us) ≡ map f us
take_end f us u h = take_over (map f us) u (let l = map_length f us in omega (arith, h, l))

-- things that are added one by one
pub adds_start : {X : Type 0} (f : X → Thing Head Label) (xs : List X) (w : Web) → IsSpanned w → Adds w w (map f (take 0 xs))
adds_start f xs w h = subst (λ l. Adds w w (map f l)) (sym (take_none xs)) (adds_nothing w h)

pub adds_next : {X : Type 0} (f : X → Thing Head Label) (xs : List X) (i : ℕ) (x : X) (old loop new : Web) → slice_get xs i ≡ Some x → Adds old loop (map f (take i xs)) → Adds loop new (f x ∷ []) → Adds old new (map f (take (i + 1) xs))
adds_next f xs i x old loop new e a b = subst (Adds old new) (sym (ap (map f) (take_more xs i x e) ∙ map-append f (take i xs) (x ∷ []))) (adds_then old loop new (map f (take i xs)) (f x ∷ []) a b)

pub adds_end : {X : Type 0} (f : X → Thing Head Label) (xs : List X) (i : ℕ) (old new : Web) → length xs ≤ i → Adds old new (map f (take i xs)) → Adds old new (map f xs)
adds_end f xs i old new h a = subst (λ l. Adds old new (map f l)) (take_over xs i h) a

-- counts
pub count_start : (gs : List Graph) → 0 ≡ aggregate_count (take 0 gs)
count_start gs = sym (ap aggregate_count (take_none gs))

pub arenas_start : (gs : List Graph) → AllArenas (take 0 gs)
arenas_start gs = subst AllArenas (sym (take_none gs)) tt

pub count_step : (gs : List Graph) (u n a c : ℕ) (g : Graph) → slice_get gs u ≡ Some g → n ≡ aggregate_count (take u gs) → a ≡ length g.aggs → c ≡ n + a → c ≡ aggregate_count (take (u + 1) gs)
count_step gs u n a c g e hn ha hc =
    let next = count_next gs u g e in
    let same : aggregate_count (take (u + 1) gs) ≡ aggregate_count (take (suc u) gs) = ap (λ k. aggregate_count (take k gs)) (next_is u) in
    omega (arith, hn, ha, hc, next, same)

pub arenas_step : (gs : List Graph) (u : ℕ) (g : Graph) → slice_get gs u ≡ Some g → IsArena g → AllArenas (take u gs) → AllArenas (take (u + 1) gs)
arenas_step gs u g e a h = subst (λ k. AllArenas (take k gs)) (sym (next_is u)) (arenas_next gs u g e a h)

pub types_start : (gs : List Graph) (t : ℕ) → t ≡ t + type_count (take 0 gs)
types_start gs t = (let e = ap type_count (take_none gs) in omega (arith, e))

pub types_count_step : (gs : List Graph) (u t n a c : ℕ) (g : Graph) → slice_get gs u ≡ Some g → n ≡ t + type_count (take u gs) → a ≡ length g.nodes → c ≡ n + a → c ≡ t + type_count (take (u + 1) gs)
types_count_step gs u t n a c g e hn ha hc =
    let next = type_count_next gs u g e in
    let same : type_count (take (u + 1) gs) ≡ type_count (take (suc u) gs) = ap (λ k. type_count (take k gs)) (next_is u) in
    omega (arith, hn, ha, hc, next, same)

pub firsts_start : (gs : List Graph) (t : ℕ) → [] ≡ firsts_from 0 t (take 0 gs)
firsts_start gs t = sym (ap (firsts_from 0 t) (take_none gs))

pub firsts_step : (gs : List Graph) (u t x y : ℕ) (fs more : List First) (f : First) (g : Graph) → slice_get gs u ≡ Some g → more ≡ fs ++ f ∷ [] → f.aggregate ≡ x → f.ty ≡ y → x ≡ aggregate_count (take u gs) → y ≡ t + type_count (take u gs)
    → map first_pair fs ≡ firsts_from 0 t (take u gs) → map first_pair more ≡ firsts_from 0 t (take (u + 1) gs)
firsts_step gs u t x y fs more f g e em ex ey hx hy h =
    let a : f.aggregate ≡ 0 + aggregate_count (take u gs) = omega (arith, ex, hx) in
    ap (map first_pair) em ∙ map-append first_pair fs (f ∷ []) ∙ ap (λ l. l ++ first_pair f ∷ []) h
    ∙ ap (λ n. firsts_from 0 t (take u gs) ++ (n, f.ty) ∷ []) a ∙ ap (λ n. firsts_from 0 t (take u gs) ++ (0 + aggregate_count (take u gs), n) ∷ []) (ey ∙ hy)
    ∙ sym (ap (λ k. firsts_from 0 t (take k gs)) (next_is u) ∙ firsts_next 0 t gs u g e)

-- the things of one unit more
first_there : (gs : List Graph) (types u n : ℕ) (old loop : Web) (f : First) (ts : List (Thing Head Label)) → n ≡ u → slice_get loop.firsts.items n ≡ Some f → first_pairs old ≡ firsts_from 0 types gs → Adds old loop ts → slice_get (firsts_from 0 types gs) u ≡ Some (f.aggregate, f.ty)
first_there gs types u n old loop f ts en at firsts a =
    sym (ap (λ l. slice_get l u) (ap (λ v. map first_pair v.items) a.firsts ∙ firsts))
    ∙ ap (slice_get (first_pairs loop)) (sym en) ∙ some_map first_pair loop.firsts.items n f at

pub aggregates_start : (names : List (List ℕ)) (types : ℕ) (gs : List Graph) (w : Web) → IsSpanned w → Adds w w (aggregates_from names types (take 0 gs))
aggregates_start names types gs w h = subst (λ l. Adds w w (aggregates_from names types l)) (sym (take_none gs)) (adds_nothing w h)

pub aggregates_step : (names : List (List ℕ)) (gs : List Graph) (types u n : ℕ) (old loop new : Web) (f : First) (g : Graph) → n ≡ u → slice_get loop.firsts.items n ≡ Some f → slice_get gs u ≡ Some g → first_pairs old ≡ firsts_from 0 types gs
    → Adds old loop (aggregates_from names types (take u gs)) → Adds loop new (map (aggregate_thing names f.ty) g.aggs) → Adds old new (aggregates_from names types (take (u + 1) gs))
aggregates_step names gs types u n old loop new f g en at e firsts a b = subst (Adds old new)
    (sym (ap (λ k. aggregates_from names types (take k gs)) (next_is u) ∙ aggregates_next names 0 types gs u f.aggregate f.ty g (first_there gs types u n old loop f (aggregates_from names types (take u gs)) en at firsts a) e))
    (adds_then old loop new (aggregates_from names types (take u gs)) (map (aggregate_thing names f.ty) g.aggs) a b)

pub all_types_start : (types : ℕ) (gs : List Graph) (w : Web) → IsSpanned w → Adds w w (types_from 0 types (take 0 gs))
all_types_start types gs w h = subst (λ l. Adds w w (types_from 0 types l)) (sym (take_none gs)) (adds_nothing w h)

pub types_step : (gs : List Graph) (types u n : ℕ) (old loop new : Web) (f : First) (g : Graph) → n ≡ u → slice_get loop.firsts.items n ≡ Some f → slice_get gs u ≡ Some g → first_pairs old ≡ firsts_from 0 types gs
    → Adds old loop (types_from 0 types (take u gs)) → Adds loop new (map (type_thing f.aggregate f.ty) g.nodes) → Adds old new (types_from 0 types (take (u + 1) gs))
types_step gs types u n old loop new f g en at e firsts a b = subst (Adds old new)
    (sym (ap (λ k. types_from 0 types (take k gs)) (next_is u) ∙ types_next 0 types gs u f.aggregate f.ty g (first_there gs types u n old loop f (types_from 0 types (take u gs)) en at firsts a) e))
    (adds_then old loop new (types_from 0 types (take u gs)) (map (type_thing f.aggregate f.ty) g.nodes) a b)

pub woven : (names : List (List ℕ)) (gs : List Graph) (a b w : Web) (m : ℕ) → m ≡ aggregate_count gs → a.things.items ≡ [] → a.aggregates ≡ m → first_pairs a ≡ firsts_from 0 m gs → Adds a b (aggregates_from names m gs) → Adds b w (types_from 0 m gs) → AllArenas gs → IsWoven names gs w
woven names gs a b w m em none count firsts f g arenas = record {
  things = g.things ∙ ap (λ l. l ++ types_from 0 m gs) f.things ∙ ap (λ l. (l ++ aggregates_from names m gs) ++ types_from 0 m gs) (ap (things_in a.parts.items) none)
      ∙ ap (λ n. aggregates_from names n gs ++ types_from 0 n gs) em;
  firsts = ap (λ v. map first_pair v.items) (g.firsts ∙ f.firsts) ∙ firsts ∙ ap (λ n. firsts_from 0 n gs) em;
  aggregates = g.aggregates ∙ f.aggregates ∙ count ∙ em;
  arenas = arenas;
}

pub spanned_none : (k : ℕ) (ss : List Stored) → ss ≡ [] → Spanned k ss
spanned_none k [] e = tt
spanned_none k (s ∷ ss) e = (let bad : ⊥ = cc in absurd bad)

-- parts of a thing
pub parts_full : (ts : List (Thing Head Label)) (x : ℕ) (o : Option (Bor (List (Label × ℕ)))) (l : Bor (List (Label × ℕ))) → inside_of ts x ≡ option_map (λ z. z.now) o → o ≡ Some l → l.now ≡ parts_of ts x
parts_full ts x o l e f = sym (ap (λ (p : Option (List (Label × ℕ))). elim p [ None ↦ [] | Some qs ↦ qs ]) (e ∙ ap (option_map (λ z. z.now)) f))

pub parts_none : (ts : List (Thing Head Label)) (x : ℕ) (o : Option (Bor (List (Label × ℕ)))) → inside_of ts x ≡ option_map (λ z. z.now) o → o ≡ None → [] ≡ parts_of ts x
parts_none ts x o e f = sym (ap (λ (p : Option (List (Label × ℕ))). elim p [ None ↦ [] | Some qs ↦ qs ]) (e ∙ ap (option_map (λ z. z.now)) f))

-- an aggregate as a thing
pub full_aggregate : (names : List (List ℕ)) (types : ℕ) (x : Aggregate) (s : StemId) (ms : List Member) → s ≡ tag_stem names x.tag → x.members ≡ Some ms
    → (let t : Thing Head Label = record { head = Tagged x.kind s; inside = Some (map (member_part names x.kind types) ms) } in t) ≡ aggregate_thing names types x
full_aggregate names types x s ms e f =
    let g : StemId → Option (List Member) → Thing Head Label = λ z o. record { head = Tagged x.kind z; inside = option_map (map (member_part names x.kind types)) o } in
    ap (λ z. g z (Some ms)) e ∙ ap (g (tag_stem names x.tag)) (sym f)

pub bare_aggregate : (names : List (List ℕ)) (types : ℕ) (x : Aggregate) (s : StemId) → s ≡ tag_stem names x.tag → x.members ≡ None
    → (let t : Thing Head Label = record { head = Tagged x.kind s; inside = None } in t) ≡ aggregate_thing names types x
bare_aggregate names types x s e f =
    let g : StemId → Option (List Member) → Thing Head Label = λ z o. record { head = Tagged x.kind z; inside = option_map (map (member_part names x.kind types)) o } in
    ap (λ z. g z None) e ∙ ap (g (tag_stem names x.tag)) (sym f)
