-- Device: names that are given one by one are distinct and have the least numbers.
use Rattle.std.proofs.Common.{◌≡◌, ℕ, ◌+◌, ◌<◌, ◌≤◌, Bool, true, false, cond, ◌||◌, List, [], ◌∷◌, ◌++◌, Option, Some, None, zero, suc, length, take, get_or, nat_lt, refl, sym, ap, ◌∙◌, add-one, subst, arith}
use Rattle.std.specs.List.{list_any}
use Rattle.std.specs.Map.{lookup}
use Rattle.std.proofs.lemmas.Bool.{ltb-true, ltb-false, eqb-true, eq-eqb}
use Rattle.std.proofs.lemmas.List.{append_assoc, append-nil}
use Rattle.std.proofs.lemmas.List.Folds.{list_any-append}
use Rattle.indexmap.specs.IndexMap.{insert_entry}
use Rattle.cil_base.specs.declared.numbers.NameId.{NameId}
use Rattle.fresh_names.specs.declared.fresh.Wish.{Wish}
use Rattle.fresh_names.specs.declared.fresh.Wish.TheVariants.{Asked, Made}
use Rattle.cil_base.specs.NamePool.{Stays}
use Rattle.fresh_names.specs.Naming.{same_name, is_taken, with_name, suffixed_text, IsSuffixed, IsSuffixTaken, IsLeast, IsAnswer, IsNamed, AreNamed, AreNew}
use Rattle.fresh_names.specs.Giving.{start_of, IsLeastFrom, AreTakenBelow, Gives, GivesAll}

name_is : (a b : NameId) → same_name a b ≡ true → a ≡ b
name_is a b e = ap (λ (k : ℕ). let m : NameId = record { 0 = k } in m) (eqb-true a.0 b.0 e)

never : {X : Type 0} (b : Bool) → b ≡ true → b ≡ false → X
never true e f = cc
never false e f = cc

or_right : (a b : Bool) → b ≡ true → (a || b) ≡ true
or_right true b e = refl
or_right false b e = e

-- names that are taken

pub taken_more : (taken : List NameId) (n m : NameId) → is_taken taken m ≡ true → is_taken (taken ++ n ∷ []) m ≡ true
taken_more taken n m e = list_any-append (same_name m) taken (n ∷ []) ∙ ap (λ b. b || list_any (same_name m) (n ∷ [])) e

pub taken_itself : (taken : List NameId) (n : NameId) → is_taken (taken ++ n ∷ []) n ≡ true
taken_itself taken n = list_any-append (same_name n) taken (n ∷ []) ∙ or_right (is_taken taken n) (same_name n n || false) (ap (λ b. b || false) (eq-eqb n.0 n.0 refl))

pub put_behind : (taken after : List NameId) (n : NameId) → is_taken taken n ≡ false → after ≡ with_name taken n → after ≡ taken ++ n ∷ []
put_behind taken after n new e = e ∙ ap (λ b. cond b taken (taken ++ n ∷ [])) new

-- suffixed names that are taken stay so

pub suffix_kept : (taken after : List NameId) (p q : List (List ℕ)) (base : NameId) (k : ℕ) → Stays p q → ((n : NameId) → is_taken taken n ≡ true → is_taken after n ≡ true)
    → IsSuffixTaken taken p base k → IsSuffixTaken after q base k
suffix_kept taken after p q base k h more (n, (stem, b, t), is) = (n, (stem, h base.0 stem b, h n.0 (suffixed_text stem k) t), more n is)

pub stays_taken : (taken : List NameId) (p q : List (List ℕ)) (base : NameId) (k : ℕ) → Stays p q → IsSuffixTaken taken p base k → IsSuffixTaken taken q base k
stays_taken taken p q base k h = suffix_kept taken taken p q base k h (λ n e. e)

-- suffixed names are looked for one by one

pub next_taken : (taken : List NameId) (p q : List (List ℕ)) (base n : NameId) (from k : ℕ) → Stays p q → ((j : ℕ) → from ≤ j → j < k → IsSuffixTaken taken p base j) → IsSuffixed q base n k → is_taken taken n ≡ true
    → (j : ℕ) → from ≤ j → j < k + 1 → IsSuffixTaken taken q base j
next_taken taken p q base n from k h inv text is j low high = by (nat_lt j k) refl
  where
    by : (b : Bool) → nat_lt j k ≡ b → IsSuffixTaken taken q base j
    by true e = stays_taken taken p q base j h (inv j low (ltb-true j k e))
    by false e = let low : k ≤ j = ltb-false j k e in let same : k ≡ j = omega (arith, low, high) in subst (IsSuffixTaken taken q base) same (n, text, is)

pub least_found : (taken : List NameId) (p q : List (List ℕ)) (base n : NameId) (from k : ℕ) → Stays p q → ((j : ℕ) → from ≤ j → j < k → IsSuffixTaken taken p base j) → IsSuffixed q base n k → is_taken taken n ≡ false → from ≤ k
    → IsLeastFrom taken q base from n k
least_found taken p q base n from k h inv text is low = record { name_is = text; new = is; above = low; before = λ j a b. stays_taken taken p q base j h (inv j a b) }

pub suffixed_stays : (p q : List (List ℕ)) (base name : NameId) (k : ℕ) → Stays p q → IsSuffixed p base name k → IsSuffixed q base name k
suffixed_stays p q base name k h (stem, b, t) = (stem, h base.0 stem b, h name.0 (suffixed_text stem k) t)

least_stays : (taken : List NameId) (p q : List (List ℕ)) (base name : NameId) (k : ℕ) → Stays p q → IsLeast taken p base name k → IsLeast taken q base name k
least_stays taken p q base name k h found = record { name_is = suffixed_stays p q base name k h found.name_is; new = found.new; least = λ j less. stays_taken taken p q base j h (found.least j less) }

pub stays_twice : (p q r : List (List ℕ)) → Stays p q → Stays q r → Stays p r
stays_twice p q r h k i text e = k i text (h i text e)

-- where all below a number are taken, the least from it on is the least of all
pub least_of_all : (taken : List NameId) (pool : List (List ℕ)) (base name : NameId) (start k : ℕ) → ((j : ℕ) → j < start → IsSuffixTaken taken pool base j) → IsLeastFrom taken pool base start name k → IsLeast taken pool base name k
least_of_all taken pool base name start k below h = record { name_is = h.name_is; new = h.new; least = least }
  where
    by : (j : ℕ) → j < k → (b : Bool) → nat_lt j start ≡ b → IsSuffixTaken taken pool base j
    by j less true e = below j (ltb-true j start e)
    by j less false e = h.before j (ltb-false j start e) less

    least : (j : ℕ) → j < k → IsSuffixTaken taken pool base j
    least j less = by j less (nat_lt j start) refl

-- the number that is remembered for a base

abbrev value : Option ℕ → ℕ
value o = elim o [ None ↦ 0 | Some n ↦ n ]

value_at : (b : Bool) (v : ℕ) → value (cond b (Some v) None) ≡ cond b v 0
value_at true v = refl
value_at false v = refl

start_insert : (next : List (NameId × ℕ)) (k q : NameId) (v : ℕ) → start_of (insert_entry same_name next k v) q ≡ cond (same_name q k) v (start_of next q)
start_insert [] k q v = value_at (same_name q k) v
start_insert (e ∷ es) k q v = by (start_insert es k q v) (same_name k e.0) refl
  where
    apart : (c : Bool) → same_name q k ≡ c → same_name q e.0 ≡ true → same_name k e.0 ≡ false → e.1 ≡ cond c v e.1
    apart true h f g = never (same_name k e.0) (subst (λ m. same_name m e.0 ≡ true) (name_is q k h) f) g
    apart false h f g = refl

    passed : (start_of (insert_entry same_name es k v) q ≡ cond (same_name q k) v (start_of es q)) → (b : Bool) → same_name q e.0 ≡ b → same_name k e.0 ≡ false
        → value (cond b (Some e.1) (lookup (same_name q) (insert_entry same_name es k v))) ≡ cond (same_name q k) v (value (cond b (Some e.1) (lookup (same_name q) es)))
    passed rest true f g = apart (same_name q k) refl f g
    passed rest false f g = rest

    found : (b : Bool) → value (cond b (Some v) (lookup (same_name q) es)) ≡ cond b v (value (cond b (Some e.1) (lookup (same_name q) es)))
    found true = refl
    found false = refl

    by : (start_of (insert_entry same_name es k v) q ≡ cond (same_name q k) v (start_of es q)) → (b : Bool) → same_name k e.0 ≡ b → start_of (cond b ((e.0, v) ∷ es) (e ∷ insert_entry same_name es k v)) q ≡ cond (same_name q k) v (start_of (e ∷ es) q)
    by rest true f = subst (λ (m : NameId). value (cond (same_name q e.0) (Some v) (lookup (same_name q) es)) ≡ cond (same_name q m) v (value (cond (same_name q e.0) (Some e.1) (lookup (same_name q) es)))) (sym (name_is k e.0 f)) (found (same_name q e.0))
    by rest false f = passed rest (same_name q e.0) refl f

-- a name that is put behind those that are taken

kept_below : (taken : List NameId) (n : NameId) (p q : List (List ℕ)) (next : List (NameId × ℕ)) → Stays p q → AreTakenBelow taken p next → AreTakenBelow (taken ++ n ∷ []) q next
kept_below taken n p q next h below base j less = suffix_kept taken (taken ++ n ∷ []) p q base j h (taken_more taken n) (below base j less)

made_below : (taken : List NameId) (p q : List (List ℕ)) (base name : NameId) (k : ℕ) (next : List (NameId × ℕ)) → Stays p q → AreTakenBelow taken p next → IsLeast taken q base name k
    → AreTakenBelow (taken ++ name ∷ []) q (insert_entry same_name next base (k + 1))
made_below taken p q base name k next h below least other j less = by (same_name other base) refl (subst (λ m. j < m) (start_insert next base other (k + 1)) less)
  where
    here : (b : Bool) → nat_lt j k ≡ b → j < k + 1 → IsSuffixTaken (taken ++ name ∷ []) q base j
    here true e low = suffix_kept taken (taken ++ name ∷ []) q q base j (λ i text f. f) (taken_more taken name) (least.least j (ltb-true j k e))
    here false e low =
        let high : k ≤ j = ltb-false j k e in let same : k ≡ j = omega (arith, low, high) in subst (IsSuffixTaken (taken ++ name ∷ []) q base) same (name, least.name_is, taken_itself taken name)

    by : (b : Bool) → same_name other base ≡ b → j < cond b (k + 1) (start_of next other) → IsSuffixTaken (taken ++ name ∷ []) q other j
    by true e low = subst (λ m. IsSuffixTaken (taken ++ name ∷ []) q m j) (sym (name_is other base e)) (here (nat_lt j k) refl low)
    by false e low = kept_below taken name p q next h below other j low

pub least_given : (before after : List NameId) (next later : List (NameId × ℕ)) (p q : List (List ℕ)) (base name : NameId) (k : ℕ) → AreTakenBelow before p next → Stays p q → IsLeast before q base name k
    → after ≡ before ++ name ∷ [] → later ≡ insert_entry same_name next base (k + 1) → Gives before after later p q (Made base) name
least_given before after next later p q base name k below h least behind entries = record {
  named = (k, least);
  taken = behind;
  stays = h;
  below = subst (λ ns. AreTakenBelow ns q later) (sym behind) (subst (AreTakenBelow (before ++ name ∷ []) q) (sym entries) (made_below before p q base name k next h below least));
}

pub made_given : (before after : List NameId) (next later : List (NameId × ℕ)) (p q : List (List ℕ)) (base name : NameId) (k : ℕ) → AreTakenBelow before p next → Stays p q → IsLeastFrom before q base (start_of next base) name k
    → after ≡ with_name before name → later ≡ insert_entry same_name next base (k + 1) → Gives before after later p q (Made base) name
made_given before after next later p q base name k below h found taken entries =
    let least = least_of_all before q base name (start_of next base) k (λ j less. stays_taken before p q base j h (below base j less)) found in
    least_given before after next later p q base name k below h least (put_behind before after name found.new taken) entries

-- a name that is asked for

pub again_given : (before after : List NameId) (later : List (NameId × ℕ)) (p q : List (List ℕ)) (asked name : NameId) → is_taken before asked ≡ true → Gives before after later p q (Made asked) name → Gives before after later p q (Asked asked) name
again_given before after later p q asked name e g = record { named = subst (λ b. IsAnswer b before q asked name) (sym e) g.named; taken = g.taken; stays = g.stays; below = g.below }

pub kept_given : (before after : List NameId) (next later : List (NameId × ℕ)) (p : List (List ℕ)) (asked : NameId) → is_taken before asked ≡ false → AreTakenBelow before p next → after ≡ with_name before asked → later ≡ next → Gives before after later p p (Asked asked) asked
kept_given before after next later p asked e below taken entries =
    let behind = put_behind before after asked e taken in
    record {
      named = subst (λ b. IsAnswer b before p asked asked) (sym e) refl;
      taken = behind;
      stays = λ i text f. f;
      below = subst (λ ns. AreTakenBelow ns p later) (sym behind) (subst (AreTakenBelow (before ++ asked ∷ []) p) (sym entries) (kept_below before asked p p next (λ i text f. f) below));
    }

-- names that are given one after another

answer_stays : (b : Bool) (taken : List NameId) (p q : List (List ℕ)) (asked name : NameId) → Stays p q → IsAnswer b taken p asked name → IsAnswer b taken q asked name
answer_stays true taken p q asked name h (k, least) = (k, least_stays taken p q asked name k h least)
answer_stays false taken p q asked name h is = is

named_stays : (taken : List NameId) (p q : List (List ℕ)) (w : Wish) (name : NameId) → Stays p q → IsNamed taken p w name → IsNamed taken q w name
named_stays taken p q (Asked asked) name h is = answer_stays (is_taken taken asked) taken p q asked name h is
named_stays taken p q (Made base) name h (k, least) = (k, least_stays taken p q base name k h least)

pub are_named_stay : (taken : List NameId) (p q : List (List ℕ)) (ws : List Wish) (ns : List NameId) → Stays p q → AreNamed taken p ws ns → AreNamed taken q ws ns
are_named_stay taken p q [] [] h all = tt
are_named_stay taken p q [] (n ∷ ns) h all = absurd all
are_named_stay taken p q (w ∷ ws) [] h all = absurd all
are_named_stay taken p q (w ∷ ws) (n ∷ ns) h all = (named_stays taken p q w n h all.0, are_named_stay (taken ++ n ∷ []) p q ws ns h all.1)

are_named_next : (taken : List NameId) (q : List (List ℕ)) (ws vs : List Wish) (ns ms : List NameId) → AreNamed taken q ws ns → AreNamed (taken ++ ns) q vs ms → AreNamed taken q (ws ++ vs) (ns ++ ms)
are_named_next taken q [] vs [] ms first second = subst (λ ts. AreNamed ts q vs ms) (append-nil taken) second
are_named_next taken q [] vs (n ∷ ns) ms first second = absurd first
are_named_next taken q (w ∷ ws) vs [] ms first second = absurd first
are_named_next taken q (w ∷ ws) vs (n ∷ ns) ms first second = (first.0, are_named_next (taken ++ n ∷ []) q ws vs ns ms first.1 (subst (λ ts. AreNamed ts q vs ms) (sym (append_assoc taken (n ∷ []) ns)) second))

pub all_start : (before : List NameId) (next : List (NameId × ℕ)) (p : List (List ℕ)) → AreTakenBelow before p next → GivesAll before before next p p [] []
all_start before next p below = record { named = tt; taken = sym (append-nil before); stays = λ i text f. f; below = below }

all_behind : (before mid after : List NameId) (next later : List (NameId × ℕ)) (p q r : List (List ℕ)) (ws : List Wish) (ns : List NameId) (w : Wish) (n : NameId)
    → GivesAll before mid next p q ws ns → Gives mid after later q r w n → GivesAll before after later p r (ws ++ w ∷ []) (ns ++ n ∷ [])
all_behind before mid after next later p q r ws ns w n all one = record {
  named = are_named_next before r ws (w ∷ []) ns (n ∷ []) (are_named_stay before q r ws ns one.stays all.named) (subst (λ ts. IsNamed ts r w n) all.taken one.named, tt);
  taken = one.taken ∙ ap (λ ts. ts ++ n ∷ []) all.taken ∙ append_assoc before ns (n ∷ []);
  stays = stays_twice p q r all.stays one.stays;
  below = one.below;
}

take_at : {T : Type 0} (xs : List T) (i : ℕ) (d : T) → i < length xs → take (suc i) xs ≡ take i xs ++ get_or xs i d ∷ []
take_at [] i d h = absurd (omega arith)
take_at (x ∷ xs) zero d h = refl
take_at (x ∷ xs) (suc i) d h = ap (λ ys. x ∷ ys) (take_at xs i d (omega arith))

pub all_next : (before mid after : List NameId) (next later : List (NameId × ℕ)) (p q r : List (List ℕ)) (ws : List Wish) (i : ℕ) (d : Wish) (ns ms : List NameId) (n : NameId) → i < length ws
    → GivesAll before mid next p q (take i ws) ns → Gives mid after later q r (get_or ws i d) n → ms ≡ ns ++ n ∷ [] → GivesAll before after later p r (take (i + 1) ws) ms
all_next before mid after next later p q r ws i d ns ms n less all one is =
    subst (GivesAll before after later p r (take (i + 1) ws)) (sym is)
    (subst (λ k. GivesAll before after later p r (take k ws) (ns ++ n ∷ [])) (sym (add-one i))
    (subst (λ vs. GivesAll before after later p r vs (ns ++ n ∷ [])) (sym (take_at ws i d less)) (all_behind before mid after next later p q r (take i ws) ns (get_or ws i d) n all one)))

-- the same for many names at a time
pub all_twice : (before mid after : List NameId) (next later : List (NameId × ℕ)) (p q r : List (List ℕ)) (ws vs : List Wish) (ns ms : List NameId)
    → GivesAll before mid next p q ws ns → GivesAll mid after later q r vs ms → GivesAll before after later p r (ws ++ vs) (ns ++ ms)
all_twice before mid after next later p q r ws vs ns ms first second = record {
  named = are_named_next before r ws vs ns ms (are_named_stay before q r ws ns second.stays first.named) (subst (λ ts. AreNamed ts r vs ms) first.taken second.named);
  taken = second.taken ∙ ap (λ ts. ts ++ ms) first.taken ∙ append_assoc before ns ms;
  stays = stays_twice p q r first.stays second.stays;
  below = second.below;
}

-- names that are given are distinct, and none is one that was taken before

answer_new : (b : Bool) (taken : List NameId) (pool : List (List ℕ)) (asked name : NameId) → is_taken taken asked ≡ b → IsAnswer b taken pool asked name → is_taken taken name ≡ false
answer_new true taken pool asked name e (k, found) = found.new
answer_new false taken pool asked name e is = ap (is_taken taken) is ∙ e

named_new : (taken : List NameId) (pool : List (List ℕ)) (w : Wish) (name : NameId) → IsNamed taken pool w name → is_taken taken name ≡ false
named_new taken pool (Asked asked) name is = answer_new (is_taken taken asked) taken pool asked name refl is
named_new taken pool (Made base) name (k, found) = found.new

pub are_new : (taken : List NameId) (pool : List (List ℕ)) (ws : List Wish) (ns : List NameId) → AreNamed taken pool ws ns → AreNew taken ns
are_new taken pool [] [] all = tt
are_new taken pool [] (n ∷ ns) all = absurd all
are_new taken pool (w ∷ ws) [] all = absurd all
are_new taken pool (w ∷ ws) (n ∷ ns) all = (named_new taken pool w n all.0, are_new (taken ++ n ∷ []) pool ws ns all.1)
