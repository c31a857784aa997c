-- Device: the entity that a run begins with, found among the globals of its programs.
use Rattle.std.proofs.Common.{◌≡◌, ℕ, zero, suc, ◌+◌, ◌<◌, ◌≤◌, Bool, true, false, ◌&&◌, ◌||◌, not, cond, List, [], ◌∷◌, ◌++◌, map, drop, length, slice_get, get_or, is_some, Option, Some, None, option_map, refl, sym, ap, ◌∙◌, subst, arith}
use Rattle.std.specs.Prelude.{codes}
use Rattle.std.specs.List.{list_any}
use Rattle.std.specs.Str.{bytes_eq}
use Rattle.std.proofs.lemmas.Slice.Eq.{bytes_eq-Decides}
use Rattle.std.proofs.lemmas.List.{length-map}
use Rattle.std.proofs.lemmas.List.Folds.{list_any-append}
use Rattle.std.proofs.lemmas.Option.{slice_get-map}
use Rattle.byte_mem.specs.Steps.{◌>>=◌}
use Rattle.execution.specs.Calls.{Meaning}
use Rattle.execution.specs.Linking.{Symbol, External, same_symbol, symbol_of, rank_after, rank_behind, symbols_of, all_symbols, memset_symbol, numbered, numbered_all, place_in, table_of, entities_of, main_entity, rows_in, first_of, meaning_in}
use Rattle.execution.specs.Runs.{code_in}
use Rattle.cil_tree.specs.declared.globals.GlobalDecl as code
use Rattle.cil_tree.specs.Tree.{GlobalDecl, Program}
use Rattle.cil_semantics.specs.Runs.{linkable, linkables, is_main}
use Rattle.cil_link.specs.declared.entities.Definer.{Definer}
use Rattle.cil_link.specs.declared.mains.Main.{Main}
use Rattle.cil_link.specs.Entities.{InRun, in_run_from, in_run, linked_in, meant, IsTable}
use Rattle.cil_link.specs.Mains.{BeginsWith}
use Rattle.cil_link.specs.MainGlobals.{main_number, main_among, called_with, Begun}
use Rattle.cil_link.proofs.Symbols.{or_false, same_is, among_numbered, not_numbered, place_past, place_low, grows}
use Rattle.cil_link.proofs.EntityLaws.{drop_at}

abbrev main_name : List ℕ
main_name = codes "main"

abbrev main_symbol : Symbol
main_symbol = External main_name

bytes_same : (a b : List ℕ) → bytes_eq a b ≡ bytes_eq b a
bytes_same a b = by (bytes_eq a b) (bytes_eq b a) refl refl
  where
    by : (c d : Bool) → bytes_eq a b ≡ c → bytes_eq b a ≡ d → c ≡ d
    by true true e f = refl
    by false false e f = refl
    by true false e f = sym ((bytes_eq-Decides b a).1 (sym ((bytes_eq-Decides a b).0 e))) ∙ f
    by false true e f = sym e ∙ (bytes_eq-Decides a b).1 (sym ((bytes_eq-Decides b a).0 f))

-- the symbol of main is that of a global that is external and named so
same_main : (internal : Bool) (name : List ℕ) (rank : ℕ) → same_symbol main_symbol (symbol_of internal name rank) ≡ not internal && bytes_eq name main_name
same_main true name rank = refl
same_main false name rank = bytes_same main_name name

-- the globals of a unit, one after another
pub number_here : (see : code.GlobalDecl → GlobalDecl) (xs : List code.GlobalDecl) (ns : List ℕ) (i : ℕ) (r : code.GlobalDecl) → i < length xs → length ns ≡ length xs → r ≡ get_or xs i r
    → main_number (drop i ns) (map see (drop i xs)) ≡ cond (is_main (see r)) (Some (get_or ns i 0)) (main_number (drop (i + 1) ns) (map see (drop (i + 1) xs)))
number_here see xs ns i r h many at = by xs ns i h many at ∙ ap (λ k. cond (is_main (see r)) (Some (get_or ns i 0)) (main_number (drop k ns) (map see (drop k xs)))) (let one : suc i ≡ i + 1 = omega arith in one)
  where
    by : (xs : List code.GlobalDecl) (ns : List ℕ) (i : ℕ) → i < length xs → length ns ≡ length xs → r ≡ get_or xs i r
        → main_number (drop i ns) (map see (drop i xs)) ≡ cond (is_main (see r)) (Some (get_or ns i 0)) (main_number (drop (suc i) ns) (map see (drop (suc i) xs)))
    by [] ns i h many at = absurd (omega (arith, h))
    by (x ∷ xs) [] i h many at = absurd (let wrong : 0 ≡ suc (length xs) = many in omega (arith, wrong))
    by (x ∷ xs) (n ∷ ns) zero h many at = ap (λ (y : code.GlobalDecl). cond (is_main (see y)) (Some n) (main_number ns (map see xs))) (sym at)
    by (x ∷ xs) (n ∷ ns) (suc i) h many at = by xs ns i (omega (arith, h)) (let e : suc (length ns) ≡ suc (length xs) = many in omega (arith, e)) at

pub number_past : (see : code.GlobalDecl → GlobalDecl) (xs : List code.GlobalDecl) (ns : List ℕ) (i : ℕ) → length xs ≤ i → main_number (drop i ns) (map see (drop i xs)) ≡ None
number_past see xs ns i h = ap (λ (ys : List code.GlobalDecl). main_number (drop i ns) (map see ys)) (past xs i h) ∙ none (drop i ns)
  where
    past : (ys : List code.GlobalDecl) (i : ℕ) → length ys ≤ i → drop i ys ≡ []
    past [] zero h = refl
    past [] (suc i) h = refl
    past (y ∷ ys) zero h = absurd (omega (arith, h))
    past (y ∷ ys) (suc i) h = past ys i (omega (arith, h))

    none : (ns : List ℕ) → main_number ns [] ≡ None
    none [] = refl
    none (n ∷ ns) = refl

-- the units, one after another
pub among_here : (us : List InRun) (k : ℕ) (u : InRun) → slice_get us k ≡ Some u → main_among (drop k us) ≡ first_of (main_number u.entities u.program.globals) (main_among (drop (k + 1) us))
among_here us k u at =
    ap main_among (drop_at us k u at) ∙ ap (λ n. first_of (main_number u.entities u.program.globals) (main_among (drop n us))) (let one : suc k ≡ k + 1 = omega arith in one)

pub among_past : (us : List InRun) (k : ℕ) → length us ≤ k → main_among (drop k us) ≡ None
among_past [] zero h = refl
among_past [] (suc k) h = refl
among_past (u ∷ us) zero h = absurd (omega (arith, h))
among_past (u ∷ us) (suc k) h = among_past us k (omega (arith, h))

-- the number of main is its place
numbered_main : (p : Program) (table : List Symbol) (rank : ℕ) (xs : List GlobalDecl) (e : ℕ) → main_number (map (place_in table) (symbols_of rank (map (linkable p) xs))) xs ≡ Some e → place_in table main_symbol ≡ e
numbered_main p table rank [] e h = cc
numbered_main p table rank (x ∷ xs) e h = by (is_main x) refl h (numbered_main p table (rank_after x.internal rank) xs e)
  where
    by : (b : Bool) → is_main x ≡ b
        → cond b (Some (place_in table (symbol_of x.internal x.name rank))) (main_number (map (place_in table) (symbols_of (rank_after x.internal rank) (map (linkable p) xs))) xs) ≡ Some e
        → (main_number (map (place_in table) (symbols_of (rank_after x.internal rank) (map (linkable p) xs))) xs ≡ Some e → place_in table main_symbol ≡ e) → place_in table main_symbol ≡ e
    by true m h rest =
        let here : place_in table (symbol_of x.internal x.name rank) ≡ e = cc in
        ap (place_in table) (same_is main_symbol (symbol_of x.internal x.name rank) (same_main x.internal x.name rank ∙ m)) ∙ here
    by false m h rest = rest h

among_main : (table : List Symbol) (rank : ℕ) (programs : List Program) (e : ℕ) → main_among (in_run_from table rank programs) ≡ Some e → place_in table main_symbol ≡ e
among_main table rank [] e h = cc
among_main table rank (p ∷ programs) e h = by (main_number (entities_of table rank (linkables p)) p.globals) refl h (among_main table (rank_behind rank (linkables p)) programs e)
  where
    by : (o : Option ℕ) → main_number (entities_of table rank (linkables p)) p.globals ≡ o → first_of o (main_among (in_run_from table (rank_behind rank (linkables p)) programs)) ≡ Some e
        → (main_among (in_run_from table (rank_behind rank (linkables p)) programs) ≡ Some e → place_in table main_symbol ≡ e) → place_in table main_symbol ≡ e
    by None m h rest = rest h
    by (Some n) m h rest = numbered_main p table rank p.globals e (m ∙ h)

-- a global is main where its symbol is there
is_there : (p : Program) (table : List Symbol) (rank : ℕ) (xs : List GlobalDecl) → list_any (same_symbol main_symbol) (symbols_of rank (map (linkable p) xs)) ≡ is_some (main_number (map (place_in table) (symbols_of rank (map (linkable p) xs))) xs)
is_there p table rank [] = refl
is_there p table rank (x ∷ xs) =
    ap (λ b. b || list_any (same_symbol main_symbol) (symbols_of (rank_after x.internal rank) (map (linkable p) xs))) (same_main x.internal x.name rank)
    ∙ ap (λ b. is_main x || b) (is_there p table (rank_after x.internal rank) xs)
    ∙ by (is_main x)
  where
    by : (b : Bool) → b || is_some (main_number (map (place_in table) (symbols_of (rank_after x.internal rank) (map (linkable p) xs))) xs)
        ≡ is_some (cond b (Some (place_in table (symbol_of x.internal x.name rank))) (main_number (map (place_in table) (symbols_of (rank_after x.internal rank) (map (linkable p) xs))) xs))
    by true = refl
    by false = refl

are_there : (table : List Symbol) (rank : ℕ) (programs : List Program) → list_any (same_symbol main_symbol) (all_symbols rank (map linkables programs)) ≡ is_some (main_among (in_run_from table rank programs))
are_there table rank [] = refl
are_there table rank (p ∷ programs) =
    list_any-append (same_symbol main_symbol) (symbols_of rank (linkables p)) (all_symbols (rank_behind rank (linkables p)) (map linkables programs))
    ∙ ap (λ b. b || list_any (same_symbol main_symbol) (all_symbols (rank_behind rank (linkables p)) (map linkables programs))) (is_there p table rank p.globals)
    ∙ ap (λ b. is_some (main_number (entities_of table rank (linkables p)) p.globals) || b) (are_there table (rank_behind rank (linkables p)) programs)
    ∙ by (main_number (entities_of table rank (linkables p)) p.globals)
  where
    by : (o : Option ℕ) → is_some o || is_some (main_among (in_run_from table (rank_behind rank (linkables p)) programs)) ≡ is_some (first_of o (main_among (in_run_from table (rank_behind rank (linkables p)) programs)))
    by None = refl
    by (Some n) = refl

-- a symbol is in the table where it is among those that are numbered
stays_there : (T zs : List Symbol) (s : Symbol) → list_any (same_symbol s) T ≡ true → list_any (same_symbol s) (T ++ zs) ≡ true
stays_there T zs s e = list_any-append (same_symbol s) T zs ∙ ap (λ b. b || list_any (same_symbol s) zs) e

in_table : (T xs : List Symbol) (s : Symbol) → list_any (same_symbol s) xs ≡ true → list_any (same_symbol s) (numbered_all T xs) ≡ true
in_table T [] s e = cc
in_table T (x ∷ xs) s e = by (same_symbol s x) refl e (in_table (numbered T x) xs s)
  where
    by : (b : Bool) → same_symbol s x ≡ b → b || list_any (same_symbol s) xs ≡ true → (list_any (same_symbol s) xs ≡ true → list_any (same_symbol s) (numbered_all (numbered T x) xs) ≡ true) → list_any (same_symbol s) (numbered_all (numbered T x) xs) ≡ true
    by true m e rest =
        let g = grows (numbered T x) xs in
        ap (list_any (same_symbol s)) g.1 ∙ stays_there (numbered T x) g.0 s (subst (λ y. list_any (same_symbol s) (numbered T y) ≡ true) (same_is s x m) (among_numbered T s))
    by false m e rest = rest e

not_in_table : (T xs : List Symbol) (s : Symbol) → list_any (same_symbol s) T ≡ false → list_any (same_symbol s) xs ≡ false → list_any (same_symbol s) (numbered_all T xs) ≡ false
not_in_table T [] s t e = t
not_in_table T (x ∷ xs) s t e =
    let h = or_false (same_symbol s x) (list_any (same_symbol s) xs) e in
    not_in_table (numbered T x) xs s (not_numbered T x s t h.0) h.1

module _ (programs : List Program) where
  abbrev table : List Symbol
  table = table_of (map linkables programs)

  -- the entity of main, if a unit names it
  pub entity_is : (e : ℕ) → main_among (in_run programs) ≡ Some e → main_entity (map linkables programs) ≡ e
  entity_is e h = among_main table 0 programs e h

  pub entity_low : (definers : List Definer) (e : ℕ) → IsTable programs definers → main_among (in_run programs) ≡ Some e → e < length definers
  entity_low definers e is h =
      let there : list_any (same_symbol main_symbol) table ≡ true = in_table (memset_symbol ∷ []) (all_symbols 0 (map linkables programs)) main_symbol (are_there table 0 programs ∙ ap is_some h) in
      let many : length table ≡ length definers = sym (length-map table (meaning_in false (rows_in (map linkables programs)))) ∙ ap length is.means ∙ length-map definers (meant (in_run programs)) in
      subst (λ n. e < n) many (subst (λ n. n < length table) (entity_is e h) (place_low table main_symbol there))

  -- none where no unit does
  none_means : main_among (in_run programs) ≡ None → slice_get (linked_in programs) (main_entity (map linkables programs)) ≡ None
  none_means h =
      slice_get-map (meaning_in false (rows_in (map linkables programs))) table (main_entity (map linkables programs))
      ∙ ap (option_map (meaning_in false (rows_in (map linkables programs)))) (place_past table main_symbol (not_in_table (memset_symbol ∷ []) (all_symbols 0 (map linkables programs)) main_symbol refl (are_there table 0 programs ∙ ap is_some h)))

  pub begins_nothing : main_among (in_run programs) ≡ None → BeginsWith programs None
  begins_nothing h words = ap (λ (o : Option (Option Meaning)). o >>= code_in >>= called_with words) (none_means h)

  entity_means : (definers : List Definer) (e : ℕ) (d : Definer) → IsTable programs definers → slice_get definers e ≡ Some d → slice_get (linked_in programs) e ≡ Some (meant (in_run programs) d)
  entity_means definers e d is at = ap (λ ms. slice_get ms e) is.means ∙ slice_get-map (meant (in_run programs)) definers e ∙ ap (option_map (meant (in_run programs))) at

  pub begins : (definers : List Definer) (e : ℕ) (d : Definer) (o : Option Main) → IsTable programs definers → main_among (in_run programs) ≡ Some e → slice_get definers e ≡ Some d → Begun (meant (in_run programs) d) e o → BeginsWith programs o
  begins definers e d None is h at b = λ words.
      ap (λ n. slice_get (linked_in programs) n >>= code_in >>= called_with words) (entity_is e h)
      ∙ ap (λ (o : Option (Option Meaning)). o >>= code_in >>= called_with words) (entity_means definers e d is at)
      ∙ b words
  begins definers e d (Some m) is h at b = record {
    entity = entity_is e h ∙ sym b.3;
    function = b.0;
    means = ap (slice_get (linked_in programs)) b.3 ∙ entity_means definers e d is at ∙ ap Some b.1;
    start = b.2;
  }

-- a unit that names main, and one that does not
pub met_unit : (us : List InRun) (k : ℕ) (u : InRun) (o : Option ℕ) → slice_get us k ≡ Some u → o ≡ main_number u.entities u.program.globals → is_some o ≡ true → main_among (drop k us) ≡ main_among us → o ≡ main_among us
met_unit us k u o at is there inv = by o is there ∙ sym (among_here us k u at) ∙ inv
  where
    by : (o : Option ℕ) → o ≡ main_number u.entities u.program.globals → is_some o ≡ true → o ≡ first_of (main_number u.entities u.program.globals) (main_among (drop (k + 1) us))
    by None is e = cc
    by (Some n) is e = ap (λ (p : Option ℕ). first_of p (main_among (drop (k + 1) us))) is

pub next_unit : (us : List InRun) (k : ℕ) (u : InRun) (o : Option ℕ) → slice_get us k ≡ Some u → o ≡ main_number u.entities u.program.globals → is_some o ≡ false → main_among (drop k us) ≡ main_among us → main_among (drop (k + 1) us) ≡ main_among us
next_unit us k u o at is none inv = by o is none ∙ sym (among_here us k u at) ∙ inv
  where
    by : (o : Option ℕ) → o ≡ main_number u.entities u.program.globals → is_some o ≡ false → main_among (drop (k + 1) us) ≡ first_of (main_number u.entities u.program.globals) (main_among (drop (k + 1) us))
    by None is e = ap (λ (p : Option ℕ). first_of p (main_among (drop (k + 1) us))) is
    by (Some n) is e = cc
