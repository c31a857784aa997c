-- Device: what units name at file scope is found and named one by one.
use Rattle.std.proofs.Common.{◌≡◌, ℕ, zero, suc, ◌+◌, ◌<◌, Bool, true, false, cond, ◌||◌, List, [], ◌∷◌, ◌++◌, map, length, drop, take, get_or, slice_set, nat_eq, refl, sym, ap, ◌∙◌, add-one, subst, arith, Global}
use Rattle.std.specs.declared.vec.Vec.{Vec}
use Rattle.std.specs.List.{list_any}
use Rattle.std.proofs.lemmas.Bool.{eqb-true}
use Rattle.std.proofs.lemmas.List.{append_assoc, append-nil, map-append}
use Rattle.std.proofs.lemmas.List.Folds.{list_any-append}
use Rattle.cil_base.specs.declared.names.Bases.{Bases}
use Rattle.cil_base.specs.declared.numbers.AggId.{AggId}
use Rattle.cil_base.specs.declared.numbers.EntityId.{EntityId}
use Rattle.cil_base.specs.declared.numbers.NameId.{NameId}
use Rattle.cil_tree.specs.declared.globals.GlobalDecl.{GlobalDecl}
use Rattle.typed_tree.specs.declared.units.Ordinary.{Ordinary}
use Rattle.typed_tree.specs.declared.units.Ordinary.TheVariants.{Static, Enumerator}
use Rattle.link_names.specs.declared.units.Fronted.{Fronted}
use Rattle.static_rename.specs.declared.files.Filed.{Filed}
use Rattle.static_rename.specs.Files.{is_object, has_linkage, unlinked_at, unlinked_from, named_in, things_in, wish_at, wishes_of, renamed_at}
use Rattle.static_rename.specs.Filing.{same_entity, Links, AreLinked, names_of, Files, FilesAll}
use Rattle.fresh_names.specs.Giving.{AreTakenBelow, GivesAll}
use Rattle.fresh_names.proofs.NamingLaws.{all_start, all_twice}

pub drop_at : {T : Type 0} (xs : List T) (i : ℕ) (d : T) → i < length xs → drop i xs ≡ get_or xs i d ∷ drop (suc i) xs
drop_at [] i d h = absurd (omega arith)
drop_at (x ∷ xs) zero d h = refl
drop_at (x ∷ xs) (suc i) d h = drop_at xs i d (omega arith)

pub take_at : {T : Type 0} (xs : List T) (i : ℕ) (d : T) → i < length xs → take (suc i) xs ≡ take i xs ++ get_or xs i d ∷ []
take_at [] i d h = absurd (omega arith)
take_at (x ∷ xs) zero d h = refl
take_at (x ∷ xs) (suc i) d h = ap (λ ys. x ∷ ys) (take_at xs i d (omega arith))

-- objects and functions with internal linkage

or_left : (a : Bool) → (a || false) ≡ a
or_left true = refl
or_left false = refl

or_true : (a : Bool) → (a || true) ≡ true
or_true true = refl
or_true false = refl

entity_is : (a b : EntityId) → same_entity a b ≡ true → a ≡ b
entity_is a b e = ap (λ (k : ℕ). let m : EntityId = record { 0 = k } in m) (eqb-true a.0 b.0 e)

pub object_linked : (old new : List EntityId) (d : EntityId) → new ≡ cond (list_any (same_entity d) old) old (old ++ d ∷ []) → Links old new (Static d)
object_linked old new d is e = ap (list_any (same_entity e)) is ∙ by (list_any (same_entity d) old) refl
  where
    here : (c : Bool) → same_entity e d ≡ c → list_any (same_entity d) old ≡ true → list_any (same_entity e) old ≡ (list_any (same_entity e) old || c)
    here true f known = let found : list_any (same_entity e) old ≡ true = subst (λ m. list_any (same_entity m) old ≡ true) (sym (entity_is e d f)) known in found ∙ sym (or_true (list_any (same_entity e) old))
    here false f known = sym (or_left (list_any (same_entity e) old))

    by : (b : Bool) → list_any (same_entity d) old ≡ b → list_any (same_entity e) (cond b old (old ++ d ∷ [])) ≡ (list_any (same_entity e) old || nat_eq e.0 d.0)
    by true f = here (same_entity e d) refl f
    by false f = list_any-append (same_entity e) old (d ∷ []) ∙ ap (λ b. list_any (same_entity e) old || b) (or_left (same_entity e d))

pub nothing_linked : (old : List EntityId) (a : AggId) (i : ℕ) → Links old old (Enumerator a i)
nothing_linked old a i e = sym (or_left (list_any (same_entity e) old))

pub linked_next : (old new : List EntityId) (os : List Ordinary) (o : Ordinary) → AreLinked old os → Links old new o → AreLinked new (os ++ o ∷ [])
linked_next old new os o all one e = one e ∙ ap (λ b. b || is_object e o) (all e) ∙ ap (λ b. has_linkage os e || b) (sym (or_left (is_object e o))) ∙ sym (list_any-append (is_object e) os (o ∷ []))

-- objects without linkage

entity_at : (n : EntityId) (u : ℕ) → n.0 ≡ u → n ≡ record { 0 = u }
entity_at n u e = ap (λ (k : ℕ). let m : EntityId = record { 0 = k } in m) e

unlinked_split : (i : ℕ) (os : List Ordinary) (g : GlobalDecl) (gs : List GlobalDecl) → unlinked_from i os (g ∷ gs) ≡ unlinked_at (record { 0 = i }) (has_linkage os (record { 0 = i })) g ++ unlinked_from (suc i) os gs
unlinked_split i os g gs = refl

pub unlinked_next : (set : List EntityId) (os : List Ordinary) (gs : List GlobalDecl) (i : ℕ) (n : EntityId) (g : GlobalDecl) (before after start : List Ordinary)
    → AreLinked set os → i < length gs → n.0 ≡ i → g ≡ get_or gs i g → after ≡ before ++ unlinked_at n (list_any (same_entity n) set) g
    → before ++ unlinked_from i os (drop i gs) ≡ start → after ++ unlinked_from (i + 1) os (drop (i + 1) gs) ≡ start
unlinked_next set os gs i n g before after start linked less number is step inv =
    let rest : List Ordinary = unlinked_from (suc i) os (drop (suc i) gs) in
    let it : EntityId = record { 0 = i } in
    let here : unlinked_at n (list_any (same_entity n) set) g ≡ unlinked_at it (has_linkage os it) g =
    ap (λ b. unlinked_at n b g) (linked n) ∙ ap (λ m. unlinked_at m (has_linkage os m) g) (entity_at n i number) in
    let split : unlinked_from i os (drop i gs) ≡ unlinked_at it (has_linkage os it) g ++ rest =
    ap (unlinked_from i os) (drop_at gs i g less) ∙ unlinked_split i os (get_or gs i g) (drop (suc i) gs) ∙ ap (λ h. unlinked_at it (has_linkage os it) h ++ rest) (sym is) in
    ap (λ k. after ++ unlinked_from k os (drop k gs)) (add-one i)
    ∙ ap (λ xs. xs ++ rest) (step ∙ ap (λ xs. before ++ xs) here)
    ∙ append_assoc before (unlinked_at it (has_linkage os it) g) rest
    ∙ ap (λ xs. before ++ xs) (sym split) ∙ inv

-- globals get names

pub renamed_set : (gs : List GlobalDecl) (i : ℕ) (n : NameId) (g d : GlobalDecl) → i < length gs → g ≡ record (get_or gs i d) { name = n } → slice_set gs i g ≡ renamed_at i n gs
renamed_set [] i n g d less is = absurd (omega arith)
renamed_set (h ∷ gs) zero n g d less is = ap (λ k. k ∷ gs) is
renamed_set (h ∷ gs) (suc i) n g d less is = ap (λ hs. h ∷ hs) (renamed_set gs i n g d (omega arith) is)

-- units one after another

abbrev flags : List (Vec Bool Global) → List (List Bool)
flags ss = map (λ s. s.items) ss

wishes_next : (b : Bases) (ss : List (Vec Bool Global)) (fs : List Fronted) (u : ℕ) (s : Vec Bool Global) (f : Fronted) → u < length ss → u < length fs
    → wishes_of b (flags (take (suc u) ss)) (take (suc u) fs) ≡ wishes_of b (flags (take u ss)) (take u fs) ++ map (wish_at b (get_or fs u f)) (named_in (get_or ss u s).items (get_or fs u f))
wishes_next b [] fs u s f few less = absurd (omega arith)
wishes_next b (x ∷ ss) [] u s f few less = absurd (omega arith)
wishes_next b (x ∷ ss) (g ∷ fs) zero s f few less = append-nil (map (wish_at b g) (named_in x.items g))
wishes_next b (x ∷ ss) (g ∷ fs) (suc u) s f few less =
    ap (λ ws. map (wish_at b g) (named_in x.items g) ++ ws) (wishes_next b ss fs u s f (omega arith) (omega arith))
    ∙ sym (append_assoc (map (wish_at b g) (named_in x.items g)) (wishes_of b (flags (take u ss)) (take u fs)) (map (wish_at b (get_or fs u f)) (named_in (get_or ss u s).items (get_or fs u f))))

things_next : (ss : List (Vec Bool Global)) (fs : List Fronted) (u : ℕ) (s : Vec Bool Global) (f : Fronted) → u < length ss → u < length fs
    → things_in (flags (take (suc u) ss)) (take (suc u) fs) ≡ things_in (flags (take u ss)) (take u fs) ++ named_in (get_or ss u s).items (get_or fs u f) ∷ []
things_next [] fs u s f few less = absurd (omega arith)
things_next (x ∷ ss) [] u s f few less = absurd (omega arith)
things_next (x ∷ ss) (g ∷ fs) zero s f few less = refl
things_next (x ∷ ss) (g ∷ fs) (suc u) s f few less = ap (λ ts. named_in x.items g ∷ ts) (things_next ss fs u s f (omega arith) (omega arith))

names_behind : (done : List Filed) (x : Filed) → names_of (done ++ x ∷ []) ≡ names_of done ++ x.names.items
names_behind [] x = append-nil x.names.items
names_behind (d ∷ done) x = ap (λ ns. d.names.items ++ ns) (names_behind done x) ∙ sym (append_assoc d.names.items (names_of done) x.names.items)

pub files_start : (b : Bases) (before : List NameId) (next : List (NameId × ℕ)) (p : List (List ℕ)) → AreTakenBelow before p next → FilesAll b [] [] before before next p p []
files_start b before next p below = record { things = refl; names = all_start before next p below }

pub files_next : (b : Bases) (ss : List (Vec Bool Global)) (fs : List Fronted) (u : ℕ) (s : Vec Bool Global) (bs : List Bool) (f : Fronted) (before mid after : List NameId) (next later : List (NameId × ℕ)) (p q r : List (List ℕ)) (done more : List Filed) (x : Filed)
    → u < length ss → u < length fs → s ≡ get_or ss u s → bs ≡ s.items → f ≡ get_or fs u f
    → FilesAll b (flags (take u ss)) (take u fs) before mid next p q done → Files b bs f mid after later q r x → more ≡ done ++ x ∷ []
    → FilesAll b (flags (take (u + 1) ss)) (take (u + 1) fs) before after later p r more
files_next b ss fs u s bs f before mid after next later p q r done more x few less is items unit all one put =
    let here : named_in bs f ≡ named_in (get_or ss u s).items (get_or fs u f) =
    ap (λ c. named_in c f) (items ∙ ap (λ (v : Vec Bool Global). v.items) is) ∙ ap (named_in (get_or ss u s).items) unit in
    let asked : map (wish_at b f) (named_in bs f) ≡ map (wish_at b (get_or fs u f)) (named_in (get_or ss u s).items (get_or fs u f)) =
    ap (map (wish_at b f)) here ∙ ap (λ g. map (wish_at b g) (named_in (get_or ss u s).items (get_or fs u f))) unit in
    let wishes : wishes_of b (flags (take u ss)) (take u fs) ++ map (wish_at b f) (named_in bs f) ≡ wishes_of b (flags (take (u + 1) ss)) (take (u + 1) fs) =
    ap (λ ws. wishes_of b (flags (take u ss)) (take u fs) ++ ws) asked ∙ sym (wishes_next b ss fs u s f few less) ∙ ap (λ k. wishes_of b (flags (take k ss)) (take k fs)) (sym (add-one u)) in
    subst (FilesAll b (flags (take (u + 1) ss)) (take (u + 1) fs) before after later p r) (sym put) (record {
      things = map-append (λ (d : Filed). d.things.items) done (x ∷ []) ∙ ap (λ ts. ts ++ x.things.items ∷ []) all.things ∙ ap (λ t. things_in (flags (take u ss)) (take u fs) ++ t ∷ []) (one.things ∙ here)
          ∙ sym (things_next ss fs u s f few less) ∙ ap (λ k. things_in (flags (take k ss)) (take k fs)) (sym (add-one u));
      names = subst (GivesAll before after later p r (wishes_of b (flags (take (u + 1) ss)) (take (u + 1) fs))) (sym (names_behind done x))
          (subst (λ ws. GivesAll before after later p r ws (names_of done ++ x.names.items)) wishes (all_twice before mid after next later p q r _ _ (names_of done) x.names.items all.names one.names));
    })
