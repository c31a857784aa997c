-- Device: names of functions are new to the file and to the function.
use Rattle.std.proofs.Common.{◌≡◌, ℕ, ◌+◌, ◌<◌, ◌≤◌, Bool, true, false, cond, ◌||◌, ◌&&◌, List, [], ◌∷◌, ◌++◌, Some, length, take, get_or, nat_lt, nat_eq, refl, sym, ap, ◌∙◌, subst, arith}
use Rattle.std.specs.Map.{lookup}
use Rattle.std.proofs.lemmas.Bool.{ltb-true, ltb-false, eqb-true}
use Rattle.std.proofs.lemmas.List.{append_assoc}
use Rattle.std.proofs.lemmas.List.Folds.{list_any-append}
use Rattle.indexmap.specs.IndexMap.{insert_entry}
use Rattle.cil_base.specs.declared.numbers.NameId.{NameId}
use Rattle.fresh_names.specs.declared.fresh.Wish.{Wish}
use Rattle.fresh_names.specs.declared.fresh.Wish.TheVariants.{Asked, Made}
use Rattle.static_rename.specs.declared.locals.Start.{Start}
use Rattle.cil_base.specs.NamePool.{Stays}
use Rattle.fresh_names.specs.Naming.{same_name, is_taken, with_name, IsSuffixTaken, IsLeast, IsAnswer, AreNamed}
use Rattle.fresh_names.specs.Giving.{start_of, IsLeastFrom, AreTakenBelow, Gives, GivesAll}
use Rattle.static_rename.specs.Local.{AreFree}
use Rattle.fresh_names.proofs.NamingLaws.{suffixed_stays, stays_taken, suffix_kept, least_given, all_next}

abbrev pub same_start : Start → Start → Bool
same_start a b = same_name a.base b.base && nat_eq a.from b.from

both : (a b : Bool) → (a && b) ≡ true → (a ≡ true) × (b ≡ true)
both true b e = (refl, e)
both false b e = cc

start_is : (a b : Start) → same_start a b ≡ true → a ≡ b
start_is a b e =
    let (bases, froms) = both (same_name a.base b.base) (nat_eq a.from b.from) e in
    ap (λ (k : ℕ). let s : Start = record { base = record { 0 = k }; from = a.from } in s) (eqb-true a.base.0 b.base.0 bases)
    ∙ ap (λ (k : ℕ). let s : Start = record { base = b.base; from = k } in s) (eqb-true a.from b.from froms)

put : (file : List NameId) (pool : List (List ℕ)) (es : List (Start × (NameId × ℕ))) (s : Start) (name : NameId) (number : ℕ) → AreFree file pool es → IsLeastFrom file pool s.base s.from name number → AreFree file pool (insert_entry same_start es s (name, number))
put file pool [] s name number all found = (found, tt)
put file pool (e ∷ es) s name number all found = by (put file pool es s name number all.1 found) (same_start s e.0) refl
  where
    by : AreFree file pool (insert_entry same_start es s (name, number)) → (b : Bool) → same_start s e.0 ≡ b → AreFree file pool (cond b ((e.0, (name, number)) ∷ es) (e ∷ insert_entry same_start es s (name, number)))
    by rest true f = (subst (λ (t : Start). IsLeastFrom file pool t.base t.from name number) (start_is s e.0 f) found, all.1)
    by rest false f = (all.0, rest)

pub table_next : (file : List NameId) (pool : List (List ℕ)) (es later : List (Start × (NameId × ℕ))) (s : Start) (name : NameId) (number : ℕ) → AreFree file pool es → IsLeastFrom file pool s.base s.from name number
    → later ≡ insert_entry same_start es s (name, number) → AreFree file pool later
table_next file pool es later s name number all found is = subst (AreFree file pool) (sym is) (put file pool es s name number all found)

least_from_stays : (file : List NameId) (p q : List (List ℕ)) (base : NameId) (from : ℕ) (name : NameId) (k : ℕ) → Stays p q → IsLeastFrom file p base from name k → IsLeastFrom file q base from name k
least_from_stays file p q base from name k h found = record {
  name_is = suffixed_stays p q base name k h found.name_is;
  new = found.new;
  above = found.above;
  before = λ j a b. stays_taken file p q base j h (found.before j a b);
}

pub table_stays : (file : List NameId) (p q : List (List ℕ)) (es : List (Start × (NameId × ℕ))) → Stays p q → AreFree file p es → AreFree file q es
table_stays file p q [] h all = tt
table_stays file p q (e ∷ es) h all = (least_from_stays file p q e.0.base e.0.from e.1.0 e.1.1 h all.0, table_stays file p q es h all.1)

pub found_in : (file : List NameId) (pool : List (List ℕ)) (es : List (Start × (NameId × ℕ))) (s : Start) (found : NameId × ℕ) → AreFree file pool es → Some found ≡ lookup (same_start s) es → IsLeastFrom file pool s.base s.from found.0 found.1
found_in file pool [] s found all e = cc
found_in file pool (x ∷ es) s found all e = by (found_in file pool es s found all.1) (same_start s x.0) refl e
  where
    by : (Some found ≡ lookup (same_start s) es → IsLeastFrom file pool s.base s.from found.0 found.1) → (b : Bool) → same_start s x.0 ≡ b → Some found ≡ cond b (Some x.1) (lookup (same_start s) es) → IsLeastFrom file pool s.base s.from found.0 found.1
    by rest true f g =
        let it : found ≡ x.1 = cc in
        subst (λ (r : NameId × ℕ). IsLeastFrom file pool s.base s.from r.0 r.1) (sym it) (subst (λ (t : Start). IsLeastFrom file pool t.base t.from x.1.0 x.1.1) (sym (start_is s x.0 f)) all.0)
    by rest false f g = rest g

-- names of the file and of the function together

or_right : (a b : Bool) → b ≡ true → (a || b) ≡ true
or_right true b e = refl
or_right false b e = e

neither : (a b : Bool) → a ≡ false → b ≡ false → (a || b) ≡ false
neither true b e f = cc
neither false b e f = f

second_false : (a b : Bool) → (a || b) ≡ false → b ≡ false
second_false true b e = cc
second_false false b e = e

pub taken_both : (file given : List NameId) (n : NameId) → is_taken (file ++ given) n ≡ (is_taken file n || is_taken given n)
taken_both file given n = list_any-append (same_name n) file given

in_file : (file given : List NameId) (n : NameId) → is_taken file n ≡ true → is_taken (file ++ given) n ≡ true
in_file file given n e = taken_both file given n ∙ ap (λ b. b || is_taken given n) e

pub free_found : (file given : List NameId) (p q : List (List ℕ)) (base name : NameId) (from k : ℕ) → Stays p q → ((j : ℕ) → j < from → IsSuffixTaken (file ++ given) p base j) → IsLeastFrom file q base from name k → is_taken given name ≡ false
    → IsLeast (file ++ given) q base name k
free_found file given p q base name from k h below found new = record { name_is = found.name_is; new = taken_both file given name ∙ neither (is_taken file name) (is_taken given name) found.new new; least = λ j less. by j less (nat_lt j from) refl }
  where
    by : (j : ℕ) → j < k → (b : Bool) → nat_lt j from ≡ b → IsSuffixTaken (file ++ given) q base j
    by j less true e = stays_taken (file ++ given) p q base j h (below j (ltb-true j from e))
    by j less false e = suffix_kept file (file ++ given) q q base j (λ i text f. f) (in_file file given) (found.before j (ltb-false j from e) less)

pub free_next : (file given : List NameId) (p q : List (List ℕ)) (base name : NameId) (from k : ℕ) → Stays p q → ((j : ℕ) → j < from → IsSuffixTaken (file ++ given) p base j) → IsLeastFrom file q base from name k → is_taken given name ≡ true
    → (j : ℕ) → j < k + 1 → IsSuffixTaken (file ++ given) q base j
free_next file given p q base name from k h below found taken j less = by (nat_lt j from) refl
  where
    here : (b : Bool) → nat_lt j k ≡ b → from ≤ j → IsSuffixTaken (file ++ given) q base j
    here true e low = suffix_kept file (file ++ given) q q base j (λ i text f. f) (in_file file given) (found.before j low (ltb-true j k e))
    here false e low = let high : k ≤ j = ltb-false j k e in let same : k ≡ j = omega (arith, high, less) in subst (IsSuffixTaken (file ++ given) q base) same (name, found.name_is, taken_both file given name ∙ or_right (is_taken file name) (is_taken given name) taken)

    by : (b : Bool) → nat_lt j from ≡ b → IsSuffixTaken (file ++ given) q base j
    by true e = stays_taken (file ++ given) p q base j h (below j (ltb-true j from e))
    by false e = here (nat_lt j k) refl (ltb-false j from e)

behind_both : (file given after : List NameId) (name : NameId) → is_taken (file ++ given) name ≡ false → after ≡ with_name given name → file ++ after ≡ (file ++ given) ++ name ∷ []
behind_both file given after name new is =
    let fresh : is_taken given name ≡ false = second_false (is_taken file name) (is_taken given name) (sym (taken_both file given name) ∙ new) in
    ap (λ ns. file ++ ns) (is ∙ ap (λ b. cond b given (given ++ name ∷ [])) fresh) ∙ sym (append_assoc file given (name ∷ []))

pub local_made : (file given after : List NameId) (next later : List (NameId × ℕ)) (p q : List (List ℕ)) (base name : NameId) (k : ℕ) → AreTakenBelow (file ++ given) p next → Stays p q → IsLeast (file ++ given) q base name k
    → after ≡ with_name given name → later ≡ insert_entry same_name next base (k + 1) → Gives (file ++ given) (file ++ after) later p q (Made base) name
local_made file given after next later p q base name k below h least is entries =
    least_given (file ++ given) (file ++ after) next later p q base name k below h least (behind_both file given after name least.new is) entries

pub local_kept : (file given after : List NameId) (next later : List (NameId × ℕ)) (p : List (List ℕ)) (name : NameId) → AreTakenBelow (file ++ given) p next → is_taken (file ++ given) name ≡ false
    → after ≡ with_name given name → later ≡ next → Gives (file ++ given) (file ++ after) later p p (Asked name) name
local_kept file given after next later p name below new is entries =
    let behind = behind_both file given after name new is in
    record {
      named = subst (λ b. IsAnswer b (file ++ given) p name name) (sym new) refl;
      taken = behind;
      stays = λ i text f. f;
      below = subst (λ ns. AreTakenBelow ns p later) (sym behind) (subst (AreTakenBelow ((file ++ given) ++ name ∷ []) p) (sym entries) (λ b j less. suffix_kept (file ++ given) ((file ++ given) ++ name ∷ []) p p b j (λ i text f. f) (in_file (file ++ given) (name ∷ [])) (below b j less)));
    }

pub none_below : (file given : List NameId) (p : List (List ℕ)) (base : NameId) (next : List (NameId × ℕ)) (start : ℕ) → AreTakenBelow (file ++ given) p next → start ≡ start_of next base → (j : ℕ) → j < start → IsSuffixTaken (file ++ given) p base j
none_below file given p base next start below is j less = below base j (subst (λ k. j < k) is less)

-- the locals of a function one after another

pub locals_start : (file : List NameId) (none : List NameId) (next : List (NameId × ℕ)) (p : List (List ℕ)) → none ≡ [] → next ≡ [] → GivesAll file (file ++ none) next p p [] []
locals_start file none next p is first = record {
  named = tt;
  taken = ap (λ ns. file ++ ns) is;
  stays = λ i text e. e;
  below = λ base j less. let nothing : j < 0 = subst (λ es. j < start_of es base) first less in absurd (omega (arith, nothing));
}

pub locals_next : (before file given after : List NameId) (next later : List (NameId × ℕ)) (p q r : List (List ℕ)) (ws : List Wish) (i : ℕ) (d : Wish) (ns ms : List NameId) (n : NameId) → i < length ws → file ≡ before
    → GivesAll before (before ++ given) next p q (take i ws) ns → Gives (file ++ given) (file ++ after) later q r (get_or ws i d) n → ms ≡ ns ++ n ∷ [] → GivesAll before (before ++ after) later p r (take (i + 1) ws) ms
locals_next before file given after next later p q r ws i d ns ms n less same all one is =
    all_next before (before ++ given) (before ++ after) next later p q r ws i d ns ms n less all (subst (λ f. Gives (f ++ given) (f ++ after) later q r (get_or ws i d) n) same one) is

pub locals_named : (before after : List NameId) (next : List (NameId × ℕ)) (p q : List (List ℕ)) (ws : List Wish) (ns : List NameId) → GivesAll before after next p q ws ns → AreNamed before q ws ns
locals_named before after next p q ws ns all = all.named
