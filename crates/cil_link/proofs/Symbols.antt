-- Device: places of symbols in a table, and the table as it grows.
use Rattle.std.proofs.Common.{◌≡◌, ℕ, suc, ◌<◌, Bool, true, false, ◌||◌, cond, nat_eq, List, [], ◌∷◌, ◌++◌, length, slice_get, Some, None, refl, sym, ap, ◌∙◌, subst, arith, append_assoc, append-nil, eqb-true, eq-eqb}
use Rattle.std.specs.List.{list_any}
use Rattle.std.proofs.lemmas.Slice.Eq.{bytes_eq-Decides}
use Rattle.std.proofs.lemmas.List.Folds.{list_any-append}
use Rattle.execution.specs.Linking.{Symbol, External, Internal, same_symbol, symbol_of, rank_after, is_known, numbered, numbered_all, place_in}
use Rattle.cil_link.specs.Meeting.{AreOnce, NoneFrom}

pub or_false : (a b : Bool) → a || b ≡ false → (a ≡ false) × (b ≡ false)
or_false true b e = cc
or_false false b e = (refl, e)

pub neither : (a b : Bool) → a ≡ false → b ≡ false → a || b ≡ false
neither a b e f = ap (λ c. c || b) e ∙ f

pub same_is : (x y : Symbol) → same_symbol x y ≡ true → x ≡ y
same_is (External a) (External b) e = ap External ((bytes_eq-Decides a b).0 e)
same_is (External a) (Internal j) e = cc
same_is (Internal i) (External b) e = cc
same_is (Internal i) (Internal j) e = ap Internal (eqb-true i j e)

pub same_self : (x : Symbol) → same_symbol x x ≡ true
same_self (External a) = (bytes_eq-Decides a a).1 refl
same_self (Internal i) = eq-eqb i i refl

pub same_back : (x y : Symbol) → same_symbol x y ≡ false → same_symbol y x ≡ false
same_back x y e = by (same_symbol y x) refl
  where
    by : (b : Bool) → same_symbol y x ≡ b → b ≡ false
    by false f = refl
    by true f = sym (subst (λ z. same_symbol x z ≡ true) (sym (same_is y x f)) (same_self x)) ∙ e

-- a symbol is among those of a table with one more
pub among_more : (T : List Symbol) (s y : Symbol) → list_any (same_symbol y) (T ++ s ∷ []) ≡ list_any (same_symbol y) T || same_symbol y s
among_more T s y = list_any-append (same_symbol y) T (s ∷ []) ∙ by (list_any (same_symbol y) T) (same_symbol y s)
  where
    by : (a b : Bool) → a || (b || false) ≡ a || b
    by true b = refl
    by false true = refl
    by false false = refl

pub absent_more : (T : List Symbol) (s y : Symbol) → list_any (same_symbol y) T ≡ false → same_symbol y s ≡ false → list_any (same_symbol y) (T ++ s ∷ []) ≡ false
absent_more T s y e f = among_more T s y ∙ neither (list_any (same_symbol y) T) (same_symbol y s) e f

-- an external symbol that has a number, and a new one
pub numbered_known : (T : List Symbol) (s : Symbol) → is_known T s ≡ true → numbered T s ≡ T
numbered_known T s e = ap (λ b. cond b T (T ++ s ∷ [])) e

pub numbered_new : (T : List Symbol) (s : Symbol) → is_known T s ≡ false → numbered T s ≡ T ++ s ∷ []
numbered_new T s e = ap (λ b. cond b T (T ++ s ∷ [])) e

pub known_among : (T : List Symbol) (s : Symbol) → is_known T s ≡ true → list_any (same_symbol s) T ≡ true
known_among T (External name) e = e
known_among T (Internal rank) e = cc

pub among_numbered : (T : List Symbol) (s : Symbol) → list_any (same_symbol s) (numbered T s) ≡ true
among_numbered T s = by (is_known T s) refl
  where
    second : (a b : Bool) → b ≡ true → a || b ≡ true
    second true b e = refl
    second false b e = e

    by : (b : Bool) → is_known T s ≡ b → list_any (same_symbol s) (cond b T (T ++ s ∷ [])) ≡ true
    by true e = known_among T s e
    by false e = among_more T s s ∙ second (list_any (same_symbol s) T) (same_symbol s s) (same_self s)

pub not_numbered : (T : List Symbol) (x s : Symbol) → list_any (same_symbol s) T ≡ false → same_symbol s x ≡ false → list_any (same_symbol s) (numbered T x) ≡ false
not_numbered T x s t apart = by (is_known T x)
  where
    by : (b : Bool) → list_any (same_symbol s) (cond b T (T ++ x ∷ [])) ≡ false
    by true = t
    by false = absent_more T x s t apart

-- the place of a symbol that is there is its own, and stays; that of another is past the end
pub place_there : (T : List Symbol) (x : Symbol) → list_any (same_symbol x) T ≡ true → slice_get T (place_in T x) ≡ Some x
place_there [] x e = cc
place_there (y ∷ T) x e = by (same_symbol x y) refl e (place_there T x)
  where
    by : (b : Bool) → same_symbol x y ≡ b → b || list_any (same_symbol x) T ≡ true → (list_any (same_symbol x) T ≡ true → slice_get T (place_in T x) ≡ Some x) → slice_get (y ∷ T) (cond b 0 (suc (place_in T x))) ≡ Some x
    by true s e rest = ap Some (sym (same_is x y s))
    by false s e rest = rest e

pub place_past : (T : List Symbol) (x : Symbol) → list_any (same_symbol x) T ≡ false → slice_get T (place_in T x) ≡ None
place_past [] x e = refl
place_past (y ∷ T) x e =
    let h = or_false (same_symbol x y) (list_any (same_symbol x) T) e in
    ap (λ b. slice_get (y ∷ T) (cond b 0 (suc (place_in T x)))) h.0 ∙ place_past T x h.1

pub place_stays : (T zs : List Symbol) (x : Symbol) → list_any (same_symbol x) T ≡ true → place_in (T ++ zs) x ≡ place_in T x
place_stays [] zs x e = cc
place_stays (y ∷ T) zs x e = by (same_symbol x y) e (place_stays T zs x)
  where
    by : (b : Bool) → b || list_any (same_symbol x) T ≡ true → (list_any (same_symbol x) T ≡ true → place_in (T ++ zs) x ≡ place_in T x) → cond b 0 (suc (place_in (T ++ zs) x)) ≡ cond b 0 (suc (place_in T x))
    by true e rest = refl
    by false e rest = ap suc (rest e)

pub place_last : (T : List Symbol) (x : Symbol) → list_any (same_symbol x) T ≡ false → place_in (T ++ x ∷ []) x ≡ length T
place_last [] x e = ap (λ b. cond b 0 1) (same_self x)
place_last (y ∷ T) x e =
    let h = or_false (same_symbol x y) (list_any (same_symbol x) T) e in
    ap (λ b. cond b 0 (suc (place_in (T ++ x ∷ []) x))) h.0 ∙ ap suc (place_last T x h.1)

pub place_low : (T : List Symbol) (x : Symbol) → list_any (same_symbol x) T ≡ true → place_in T x < length T
place_low [] x e = cc
place_low (y ∷ T) x e = by (same_symbol x y) e (place_low T x)
  where
    by : (b : Bool) → b || list_any (same_symbol x) T ≡ true → (list_any (same_symbol x) T ≡ true → place_in T x < length T) → cond b 0 (suc (place_in T x)) < suc (length T)
    by true e rest = omega arith
    by false e rest = let h : place_in T x < length T = rest e in omega (arith, h)

-- a table grows at its end alone
grow_one : (T : List Symbol) (x : Symbol) → (zs : List Symbol) × (numbered T x ≡ T ++ zs)
grow_one T x = by (is_known T x)
  where
    by : (b : Bool) → (zs : List Symbol) × (cond b T (T ++ x ∷ []) ≡ T ++ zs)
    by true = ([], sym (append-nil T))
    by false = (x ∷ [], refl)

pub grows : (T xs : List Symbol) → (zs : List Symbol) × (numbered_all T xs ≡ T ++ zs)
grows T [] = ([], sym (append-nil T))
grows T (x ∷ xs) =
    let a = grow_one T x in
    let b = grows (numbered T x) xs in
    (a.0 ++ b.0, b.1 ∙ ap (λ (t : List Symbol). t ++ b.0) a.1 ∙ append_assoc T a.0 b.0)

pub numbered_joined : (T xs ys : List Symbol) → numbered_all T (xs ++ ys) ≡ numbered_all (numbered_all T xs) ys
numbered_joined T [] ys = refl
numbered_joined T (x ∷ xs) ys = numbered_joined (numbered T x) xs ys

-- the place that a symbol gets is that in the whole table
pub place_whole : (T : List Symbol) (s : Symbol) (xs : List Symbol) → place_in (numbered_all (numbered T s) xs) s ≡ place_in (numbered T s) s
place_whole T s xs =
    let g = grows (numbered T s) xs in
    ap (λ (t : List Symbol). place_in t s) g.1 ∙ place_stays (numbered T s) g.0 s (among_numbered T s)

-- a symbol that is not there stays the only one of its name
pub once_more : (T : List Symbol) (s : Symbol) → list_any (same_symbol s) T ≡ false → AreOnce T → AreOnce (T ++ s ∷ [])
once_more [] s e h = (refl, tt)
once_more (y ∷ T) s e h =
    let p = or_false (same_symbol s y) (list_any (same_symbol s) T) e in
    (absent_more T s y h.0 (same_back s y p.0), once_more T s p.1 h.1)

-- internal symbols are met in the order of their ranks
pub ranks_more : (internal : Bool) (name : List ℕ) (rank : ℕ) (T : List Symbol) → NoneFrom rank T → NoneFrom (rank_after internal rank) (T ++ symbol_of internal name rank ∷ [])
ranks_more true name rank T n r h =
    let apart : nat_eq r rank ≡ false = grind arith in
    absent_more T (Internal rank) (Internal r) (n r (omega arith)) apart
ranks_more false name rank T n r h = absent_more T (External name) (Internal r) (n r h) refl

-- a symbol that has no number is not there
pub new_absent : (internal : Bool) (name : List ℕ) (rank : ℕ) (T : List Symbol) → NoneFrom rank T → is_known T (symbol_of internal name rank) ≡ false → list_any (same_symbol (symbol_of internal name rank)) T ≡ false
new_absent true name rank T n e = n rank (omega arith)
new_absent false name rank T n e = e
