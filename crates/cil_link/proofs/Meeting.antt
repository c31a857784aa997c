-- Device: what is found of the entities of a run stays what there is to find, as a further global is met.
use Rattle.std.proofs.Common.{◌≡◌, ℕ, zero, suc, Bool, true, false, ◌&&◌, ◌||◌, cond, List, [], ◌∷◌, ◌++◌, length, map, set, get_or, slice_get, Option, Some, None, refl, sym, ap, ◌∙◌, subst, arith}
use Rattle.std.specs.List.{list_any}
use Rattle.std.specs.Str.{bytes_eq}
use Rattle.std.proofs.lemmas.Slice.Eq.{bytes_eq-Decides}
use Rattle.std.proofs.lemmas.List.{map-append}
use Rattle.byte_mem.specs.Steps.{◌>>=◌, only_if}
use Rattle.cil_base.specs.NamePool.{IsOnceEach}
use Rattle.execution.specs.Calls.{Meaning}
use Rattle.execution.specs.Linking.{Symbol, External, Internal, same_symbol, place_in, Row, first_of, said, defined, declared_function, host_meaning, meaning_in}
use Rattle.cil_link.specs.declared.entities.Definer.{Definer}
use Rattle.cil_link.specs.declared.entities.Definer.TheVariants.{Nothing, Global, Host as OfHost}
use Rattle.cil_link.specs.Entities.{InRun, meant, IsOne}
use Rattle.cil_link.specs.Definers.{first_definer}
use Rattle.cil_link.specs.Meeting.{known_in, hosted, IsSo, AreSo, AreOnce, symbol_in}
use Rattle.cil_link.proofs.Symbols.{or_false, same_is, same_self, same_back, among_more, place_stays, place_last}

or_none : (a : Bool) → a || false ≡ a
or_none true = refl
or_none false = refl

-- the numbers of names, once a symbol is added
known_kept : (T : List Symbol) (s : Symbol) (name : List ℕ) → same_symbol (External name) s ≡ false → known_in (T ++ s ∷ []) name ≡ known_in T name
known_kept T s name e =
    ap (λ b. only_if b (place_in (T ++ s ∷ []) (External name))) (among_more T s (External name) ∙ ap (λ b. list_any (same_symbol (External name)) T || b) e ∙ or_none (list_any (same_symbol (External name)) T))
    ∙ by (list_any (same_symbol (External name)) T) refl
  where
    by : (b : Bool) → list_any (same_symbol (External name)) T ≡ b → only_if b (place_in (T ++ s ∷ []) (External name)) ≡ only_if b (place_in T (External name))
    by true f = ap Some (place_stays T (s ∷ []) (External name) f)
    by false f = refl

pub known_internal : (T : List Symbol) (rank : ℕ) (names : List (List ℕ)) → map (known_in (T ++ Internal rank ∷ [])) names ≡ map (known_in T) names
known_internal T rank [] = refl
known_internal T rank (name ∷ names) =
    ap (λ o. o ∷ map (known_in (T ++ Internal rank ∷ [])) names) (known_kept T (Internal rank) name refl)
    ∙ ap (λ os. known_in T name ∷ os) (known_internal T rank names)

others_kept : (T : List Symbol) (name : List ℕ) (names : List (List ℕ)) → ((j : ℕ) → slice_get names j ≡ Some name → ⊥) → map (known_in (T ++ External name ∷ [])) names ≡ map (known_in T) names
others_kept T name [] h = refl
others_kept T name (y ∷ names) h =
    ap (λ o. o ∷ map (known_in (T ++ External name ∷ [])) names) (known_kept T (External name) y (apart (bytes_eq y name) refl))
    ∙ ap (λ os. known_in T y ∷ os) (others_kept T name names (λ j e. h (suc j) e))
  where
    apart : (b : Bool) → bytes_eq y name ≡ b → b ≡ false
    apart true e = absurd (h 0 (ap Some ((bytes_eq-Decides y name).0 e)))
    apart false e = refl

known_here : (T : List Symbol) (name : List ℕ) → list_any (same_symbol (External name)) T ≡ false → known_in (T ++ External name ∷ []) name ≡ Some (length T)
known_here T name e =
    ap (λ b. only_if b (place_in (T ++ External name ∷ []) (External name))) (among_more T (External name) (External name) ∙ ap (λ b. b || same_symbol (External name) (External name)) e ∙ same_self (External name))
    ∙ ap Some (place_last T (External name) e)

known_set : (T : List Symbol) (name : List ℕ) (names : List (List ℕ)) (n : ℕ) → ((j : ℕ) → slice_get names j ≡ Some name → j ≡ n) → slice_get names n ≡ Some name → list_any (same_symbol (External name)) T ≡ false
    → map (known_in (T ++ External name ∷ [])) names ≡ set (map (known_in T) names) n (Some (length T))
known_set T name [] zero once at e = cc
known_set T name [] (suc n) once at e = cc
known_set T name (y ∷ names) zero once at e =
    let same : y ≡ name = cc in
    ap (λ o. o ∷ map (known_in (T ++ External name ∷ [])) names) (ap (known_in (T ++ External name ∷ [])) same ∙ known_here T name e)
    ∙ ap (λ os. Some (length T) ∷ os) (others_kept T name names (λ j f. not_zero j (once (suc j) f)))
  where
    not_zero : (j : ℕ) → suc j ≡ 0 → ⊥
    not_zero j f = omega (arith, f)
known_set T name (y ∷ names) (suc n) once at e =
    ap (λ o. o ∷ map (known_in (T ++ External name ∷ [])) names) (known_kept T (External name) y (apart (bytes_eq y name) refl))
    ∙ ap (λ os. known_in T y ∷ os) (known_set T name names n (λ j f. let g : suc j ≡ suc n = once (suc j) f in omega (arith, g)) at e)
  where
    not_zero : 0 ≡ suc n → ⊥
    not_zero f = omega (arith, f)

    apart : (b : Bool) → bytes_eq y name ≡ b → b ≡ false
    apart true f = absurd (not_zero (once 0 (ap Some ((bytes_eq-Decides y name).0 f))))
    apart false f = refl

pub known_external : (T : List Symbol) (name : List ℕ) (names : List (List ℕ)) (n : ℕ) → IsOnceEach names → slice_get names n ≡ Some name → list_any (same_symbol (External name)) T ≡ false
    → map (known_in (T ++ External name ∷ [])) names ≡ set (map (known_in T) names) n (Some (length T))
known_external T name names n once at e = known_set T name names n (λ j f. once.once j n name f at) at e

-- what a further row says of a symbol
first_none : (m : Option Meaning) → first_of m None ≡ m
first_none None = refl
first_none (Some m) = refl

first_assoc : (a b c : Option Meaning) → first_of (first_of a b) c ≡ first_of a (first_of b c)
first_assoc None b c = refl
first_assoc (Some a) b c = refl

defined_more : (rows : List Row) (r : Row) (x : Symbol) → defined (rows ++ r ∷ []) x ≡ first_of (defined rows x) (said x r)
defined_more [] r x = first_none (said x r)
defined_more (q ∷ rows) r x = ap (first_of (said x q)) (defined_more rows r x) ∙ sym (first_assoc (said x q) (defined rows x) (said x r))

not_defined : (rows : List Row) (x : Symbol) → list_any (same_symbol x) (map symbol_in rows) ≡ false → defined rows x ≡ None
not_defined [] x e = refl
not_defined (r ∷ rows) x e =
    let h = or_false (same_symbol x r.symbol) (list_any (same_symbol x) (map symbol_in rows)) e in
    ap (λ b. first_of (only_if b r.meaning >>= λ (m : Option Meaning). m) (defined rows x)) h.0 ∙ not_defined rows x h.1

or_assoc : (a b c : Bool) → a || (b || c) ≡ (a || b) || c
or_assoc true b c = refl
or_assoc false b c = refl

-- whether a row declares a symbol as a function
abbrev declares : Symbol → Row → Bool
declares x r = same_symbol x r.symbol && r.function

declared_more : (rows : List Row) (r : Row) (x : Symbol) → declared_function (rows ++ r ∷ []) x ≡ declared_function rows x || declares x r
declared_more [] r x = or_none (declares x r)
declared_more (q ∷ rows) r x = ap (λ b. declares x q || b) (declared_more rows r x) ∙ or_assoc (declares x q) (declared_function rows x) (declares x r)

declared_other : (rows : List Row) (r : Row) (x : Symbol) → same_symbol x r.symbol ≡ false → declared_function (rows ++ r ∷ []) x ≡ declared_function rows x
declared_other rows r x e = declared_more rows r x ∙ ap (λ b. declared_function rows x || (b && r.function)) e ∙ or_none (declared_function rows x)

not_declared : (rows : List Row) (x : Symbol) → list_any (same_symbol x) (map symbol_in rows) ≡ false → declared_function rows x ≡ false
not_declared [] x e = refl
not_declared (q ∷ rows) x e =
    let h = or_false (same_symbol x q.symbol) (list_any (same_symbol x) (map symbol_in rows)) e in
    ap (λ b. (b && q.function) || declared_function rows x) h.0 ∙ not_declared rows x h.1

declared_first : (rows : List Row) (r : Row) → list_any (same_symbol r.symbol) (map symbol_in rows) ≡ false → declared_function (rows ++ r ∷ []) r.symbol ≡ r.function
declared_first rows r e = declared_more rows r r.symbol ∙ ap (λ b. b || declares r.symbol r) (not_declared rows r.symbol e) ∙ ap (λ b. b && r.function) (same_self r.symbol)

-- what the host means by a symbol, by the rows before and by a further one
hosted_more : (rows : List Row) (r : Row) → hosted (rows ++ r ∷ []) r.symbol ≡ first_of (hosted rows r.symbol) (only_if r.function r.symbol >>= host_meaning)
hosted_more rows r = ap (λ b. only_if b r.symbol >>= host_meaning) (declared_more rows r r.symbol ∙ ap (λ b. declared_function rows r.symbol || (b && r.function)) (same_self r.symbol)) ∙ by (declared_function rows r.symbol) r.function
  where
    by : (a b : Bool) → (only_if (a || b) r.symbol >>= host_meaning) ≡ first_of (only_if a r.symbol >>= host_meaning) (only_if b r.symbol >>= host_meaning)
    by true true = sym (twice (host_meaning r.symbol))
      where
        twice : (m : Option Meaning) → first_of m m ≡ m
        twice None = refl
        twice (Some m) = refl
    by true false = sym (first_none (host_meaning r.symbol))
    by false b = refl

pub spoken_more : (rows : List Row) (r : Row) (x : Symbol) → list_any (same_symbol x) (map symbol_in (rows ++ r ∷ [])) ≡ list_any (same_symbol x) (map symbol_in rows) || same_symbol x r.symbol
spoken_more rows r x = ap (list_any (same_symbol x)) (map-append symbol_in rows (r ∷ [])) ∙ among_more (map symbol_in rows) r.symbol x

-- what an entity means is what its symbol does
pub so_meant : (units : List InRun) (definition host : Option Meaning) (d : Definer) → IsSo units definition host d → first_of definition host ≡ meant units d
so_meant units definition host Nothing h = ap (λ m. first_of m host) h.0 ∙ h.1
so_meant units None host (Global unit e) h = let wrong : false ≡ true = h.2 in cc
so_meant units (Some m) host (Global unit e) h = h.1
so_meant units definition host (OfHost name) h = ap (λ m. first_of m host) h.0 ∙ h.1

pub so_one : (units : List InRun) (definition host : Option Meaning) (d : Definer) → IsSo units definition host d → IsOne units d
so_one units definition host Nothing h = tt
so_one units definition host (Global unit e) h = h.0
so_one units definition host (OfHost name) h = tt

-- the first definition counts, and what one of them is by the host
so_first : (units : List InRun) (a b host other : Option Meaning) (old new : Definer) → IsSo units a host old → IsSo units b other new → IsSo units (first_of a b) (first_of host other) (first_definer old new)
so_first units None b host other (Global unit e) new h k = let wrong : false ≡ true = h.2 in cc
so_first units (Some a) b host other (Global unit e) new h k = h
so_first units a b host other Nothing new h k = subst (λ m. IsSo units (first_of m b) (first_of host other) new) (sym h.0) (subst (λ m. IsSo units b (first_of m other) new) (sym h.1) k)
so_first units a b host other (OfHost name) (Global unit e) h k = subst (λ m. IsSo units (first_of m b) (first_of host other) (Global unit e)) (sym h.0) k
so_first units a b host other (OfHost name) Nothing h k = (ap (λ m. first_of m b) h.0 ∙ k.0, ap (λ m. first_of m other) h.1)
so_first units a b host other (OfHost name) (OfHost o) h k = (ap (λ m. first_of m b) h.0 ∙ k.0, ap (λ m. first_of m other) h.1)

module _ (units : List InRun) (rows : List Row) (r : Row) where
  abbrev more : List Row
  more = rows ++ r ∷ []

  -- what another symbol's row says changes nothing
  so_other : (x : Symbol) (d : Definer) → same_symbol x r.symbol ≡ false → IsSo units (defined rows x) (hosted rows x) d → IsSo units (defined more x) (hosted more x) d
  so_other x d e h =
      let defined_is : defined more x ≡ defined rows x = defined_more rows r x ∙ ap (λ b. first_of (defined rows x) (only_if b r.meaning >>= λ (m : Option Meaning). m)) e ∙ first_none (defined rows x) in
      let hosted_is : hosted more x ≡ hosted rows x = ap (λ b. only_if b x >>= host_meaning) (declared_other rows r x e) in
      subst (λ m. IsSo units m (hosted more x) d) (sym defined_is) (subst (λ m. IsSo units (defined rows x) m d) (sym hosted_is) h)

  others_so : (T : List Symbol) (ds : List Definer) → list_any (same_symbol r.symbol) T ≡ false → AreSo units rows T ds → AreSo units more T ds
  others_so [] [] e h = tt
  others_so [] (d ∷ ds) e h = h
  others_so (x ∷ T) [] e h = h
  others_so (x ∷ T) (d ∷ ds) e h =
      let p = or_false (same_symbol r.symbol x) (list_any (same_symbol r.symbol) T) e in
      (so_other x d (same_back r.symbol x p.0) h.0, others_so T ds p.1 h.1)

  -- a symbol that was met
  so_met : (d new : Definer) → IsSo units (defined rows r.symbol) (hosted rows r.symbol) d → IsSo units r.meaning (only_if r.function r.symbol >>= host_meaning) new → IsSo units (defined more r.symbol) (hosted more r.symbol) (first_definer d new)
  so_met d new h k =
      let defined_is : defined more r.symbol ≡ first_of (defined rows r.symbol) r.meaning =
      defined_more rows r r.symbol ∙ ap (λ b. first_of (defined rows r.symbol) (only_if b r.meaning >>= λ (m : Option Meaning). m)) (same_self r.symbol) in
      subst (λ m. IsSo units m (hosted more r.symbol) (first_definer d new)) (sym defined_is)
      (subst (λ m. IsSo units (first_of (defined rows r.symbol) r.meaning) m (first_definer d new)) (sym (hosted_more rows r))
      (so_first units (defined rows r.symbol) r.meaning (hosted rows r.symbol) (only_if r.function r.symbol >>= host_meaning) d new h k))

  -- a new one
  so_new : (new : Definer) → list_any (same_symbol r.symbol) (map symbol_in rows) ≡ false → IsSo units r.meaning (only_if r.function r.symbol >>= host_meaning) new → IsSo units (defined more r.symbol) (hosted more r.symbol) new
  so_new new e k =
      let defined_is : defined more r.symbol ≡ r.meaning =
      defined_more rows r r.symbol ∙ ap (λ b. first_of (defined rows r.symbol) (only_if b r.meaning >>= λ (m : Option Meaning). m)) (same_self r.symbol) ∙ ap (λ (m : Option Meaning). first_of m r.meaning) (not_defined rows r.symbol e) in
      let hosted_is : hosted more r.symbol ≡ (only_if r.function r.symbol >>= host_meaning) = ap (λ b. only_if b r.symbol >>= host_meaning) (declared_first rows r e) in
      subst (λ m. IsSo units m (hosted more r.symbol) new) (sym defined_is) (subst (λ m. IsSo units r.meaning m new) (sym hosted_is) k)

  -- the table with a symbol that was met
  pub all_met : (T : List Symbol) (ds : List Definer) (none new : Definer) → list_any (same_symbol r.symbol) T ≡ true → AreOnce T → AreSo units rows T ds
      → IsSo units r.meaning (only_if r.function r.symbol >>= host_meaning) new → AreSo units more T (set ds (place_in T r.symbol) (first_definer (get_or ds (place_in T r.symbol) none) new))
  all_met [] ds none new among once h k = cc
  all_met (x ∷ T) [] none new among once h k = absurd h
  all_met (x ∷ T) (d ∷ ds) none new among once h k = by (same_symbol r.symbol x) refl among (all_met T ds none new)
    where
      by : (b : Bool) → same_symbol r.symbol x ≡ b → b || list_any (same_symbol r.symbol) T ≡ true
          → (list_any (same_symbol r.symbol) T ≡ true → AreOnce T → AreSo units rows T ds → IsSo units r.meaning (only_if r.function r.symbol >>= host_meaning) new
          → AreSo units more T (set ds (place_in T r.symbol) (first_definer (get_or ds (place_in T r.symbol) none) new)))
          → AreSo units more (x ∷ T) (set (d ∷ ds) (cond b 0 (suc (place_in T r.symbol))) (first_definer (get_or (d ∷ ds) (cond b 0 (suc (place_in T r.symbol))) none) new))
      by true e a rest =
          let same : r.symbol ≡ x = same_is r.symbol x e in (
            subst (λ y. IsSo units (defined more y) (hosted more y) (first_definer d new)) same (so_met d new (subst (λ y. IsSo units (defined rows y) (hosted rows y) d) (sym same) h.0) k),
            others_so T ds (subst (λ y. list_any (same_symbol y) T ≡ false) (sym same) once.0) h.1,
          )
      by false e a rest = (so_other x d (same_back r.symbol x e) h.0, rest a once.1 h.1 k)

  -- and with a new one
  pub all_new : (T : List Symbol) (ds : List Definer) (new : Definer) → list_any (same_symbol r.symbol) (map symbol_in rows) ≡ false → list_any (same_symbol r.symbol) T ≡ false → AreSo units rows T ds
      → IsSo units r.meaning (only_if r.function r.symbol >>= host_meaning) new → AreSo units more (T ++ r.symbol ∷ []) (ds ++ new ∷ [])
  all_new [] [] new spoken among h k = (so_new new spoken k, tt)
  all_new [] (d ∷ ds) new spoken among h k = absurd h
  all_new (x ∷ T) [] new spoken among h k = absurd h
  all_new (x ∷ T) (d ∷ ds) new spoken among h k =
      let p = or_false (same_symbol r.symbol x) (list_any (same_symbol r.symbol) T) among in
      (so_other x d (same_back r.symbol x p.0) h.0, all_new T ds new spoken p.1 h.1 k)

-- as many entities as symbols
pub so_many : (units : List InRun) (rows : List Row) (T : List Symbol) (ds : List Definer) → AreSo units rows T ds → length ds ≡ length T
so_many units rows [] [] h = refl
so_many units rows [] (d ∷ ds) h = absurd h
so_many units rows (x ∷ T) [] h = absurd h
so_many units rows (x ∷ T) (d ∷ ds) h = ap suc (so_many units rows T ds h.1)

-- and they mean what the symbols do
pub all_meant : (units : List InRun) (rows : List Row) (T : List Symbol) (ds : List Definer) → AreSo units rows T ds → map (meaning_in false rows) T ≡ map (meant units) ds
all_meant units rows [] [] h = refl
all_meant units rows [] (d ∷ ds) h = absurd h
all_meant units rows (x ∷ T) [] h = absurd h
all_meant units rows (x ∷ T) (d ∷ ds) h =
    ap (λ (m : Option Meaning). m ∷ map (meaning_in false rows) T) (so_meant units (defined rows x) (hosted rows x) d h.0)
    ∙ ap (λ (ms : List (Option Meaning)). meant units d ∷ ms) (all_meant units rows T ds h.1)
