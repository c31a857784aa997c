-- Device: meeting all globals of a run finds the run's entities.
use Rattle.std.proofs.Common.{◌≡◌, ℕ, zero, suc, ◌+◌, ◌<◌, ◌≤◌, ◌^◌, Bool, true, false, ◌||◌, cond, List, [], ◌∷◌, ◌++◌, length, map, set, get_or, take, drop, slice_get, All, IfSome, IfOk, OnOk, Result, Ok, Err, Option, Some, None, option_map, refl, sym, ap, ◌∙◌, subst, arith, append_assoc, append-nil, length-append}
use Rattle.std.specs.List.{list_any}
use Rattle.std.specs.Str.{bytes_eq}
use Rattle.std.proofs.lemmas.List.{length-set, length-map, map-append}
use Rattle.std.proofs.lemmas.Option.{slice_get-map, slice_get_read, slice_get-get_or}
use Rattle.std.proofs.lemmas.List.Elements.{All-set, All-weaker}
use Rattle.byte_mem.specs.Steps.{◌>>=◌, only_if}
use Rattle.cil_base.specs.declared.numbers.UnitNo.{UnitNo}
use Rattle.cil_base.specs.NamePool.{IsOnceEach}
use Rattle.host_calls.specs.declared.names.HostName.TheVariants.{Memset}
use Rattle.host_calls.specs.Host.{text_of}
use Rattle.execution.specs.Linking.{Linkable, Symbol, External, same_symbol, symbol_of, rank_after, rank_behind, symbols_of, all_symbols, memset_symbol, memset_row, is_known, numbered, numbered_all, place_in, table_of, entities_of, rows_of, rows_from, rows_in, host_meaning}
use Rattle.cil_tree.specs.declared.globals.CilUnit.{CilUnit}
use Rattle.cil_tree.specs.declared.globals.GlobalDecl.{GlobalDecl}
use Rattle.cil_tree.specs.Tree.{Program}
use Rattle.cil_tree.specs.View.{global_of, program_of}
use Rattle.cil_semantics.specs.Units.{IsUnit}
use Rattle.cil_semantics.specs.Runs.{linkable, linkables}
use Rattle.cil_link.specs.declared.entities.Definer.{Definer}
use Rattle.cil_link.specs.declared.entities.Definer.TheVariants.{Nothing, Host as OfHost}
use Rattle.cil_link.specs.declared.entities.Found.{Found}
use Rattle.cil_link.specs.declared.entities.Site.{Site}
use Rattle.cil_link.specs.Entities.{InRun, in_run_from, in_run, IsOne, entities_in, IsTable}
use Rattle.cil_link.specs.Definers.{definer_of, first_definer}
use Rattle.cil_link.specs.Meeting.{Met, nothing_met, symbol_at, row_of, meet, meet_all, meet_units, numbers_from, numbers_of, known_in, IsSo, AreSo, AreOnce, NoneFrom, Finds, Meets, MeetsAll, IsFound, IsGlobalOf, link_of, IsUnitOf, FindingIn, Finding}
use Rattle.cil_link.proofs.Symbols.{same_is, numbered_known, numbered_new, known_among, new_absent, place_last, place_low, place_whole, numbered_joined, once_more, ranks_more, among_more}
use Rattle.cil_link.proofs.Programs.{global_so, global_there}
use Rattle.cil_link.proofs.Meeting.{known_internal, known_external, spoken_more, so_one, all_met, all_new, so_many, all_meant}

-- the number of a name before any global is met
pub first_number : (b : Bool) (name : List ℕ) (o : Option ℕ) → b ≡ bytes_eq name (text_of Memset) → o ≡ cond {A = Option ℕ} b (Some 0) None → o ≡ known_in (memset_symbol ∷ []) name
first_number b name o e f = f ∙ ap (λ c. cond {A = Option ℕ} c (Some 0) None) e ∙ by (bytes_eq name (text_of Memset))
  where
    by : (c : Bool) → cond {A = Option ℕ} c (Some 0) None ≡ only_if (c || false) (cond {A = ℕ} c 0 1)
    by true = refl
    by false = refl

pub finds_nothing : (units : List InRun) (names : List (List ℕ)) (f : Found) → f.known.items ≡ map (known_in (memset_symbol ∷ [])) names → f.definers.items ≡ OfHost Memset ∷ [] → Finds units names nothing_met f
finds_nothing units names f known definers = record {
  known = known;
  definers = subst (λ (ds : List Definer). AreSo units (memset_row ∷ []) (memset_symbol ∷ []) ds) (sym definers) ((refl, refl), tt);
  few = let one : length f.definers.items ≡ 1 = ap length definers in omega (arith, one);
  once = (refl, tt);
  ranks = λ r h. refl;
  speaks = λ x. refl;
}

-- each number that was given is that of an entity
pub found_from : (units : List InRun) (names : List (List ℕ)) (m : Met) (f : Found) → IsOnceEach names → Finds units names m f → IsFound names f
found_from units names m f once finds = record {
  once = once;
  places = ap length finds.known ∙ length-map names (known_in m.table);
  numbers = subst (λ (os : List (Option ℕ)). All (λ o. IfSome o (λ e. e < length f.definers.items)) os) (sym finds.known) (each names);
}
  where
    many : length f.definers.items ≡ length m.table
    many = so_many units m.rows m.table f.definers.items finds.definers

    low : (name : List ℕ) (b : Bool) → is_known m.table (External name) ≡ b → IfSome (only_if b (place_in m.table (External name))) (λ e. e < length f.definers.items)
    low name true e = let h : place_in m.table (External name) < length m.table = place_low m.table (External name) e in omega (arith, h, many)
    low name false e = tt

    each : (ns : List (List ℕ)) → All (λ o. IfSome o (λ e. e < length f.definers.items)) (map (known_in m.table) ns)
    each [] k d h = absurd (omega (arith, h))
    each (y ∷ ns) zero d h = low y (is_known m.table (External y)) refl
    each (y ∷ ns) (suc k) d h = each ns k d (omega (arith, h))

abbrev Below : ℕ → Option ℕ → Type 0
Below n o = IfSome o (λ e. e < n)

below_more : (n k : ℕ) (o : Option ℕ) → n ≤ k → Below n o → Below k o
below_more n k None h b = tt
below_more n k (Some e) h b = let c : e < n = b in omega (arith, c, h)

pub found_added : (names : List (List ℕ)) (f g : Found) (new : Definer) (internal : Bool) (n : ℕ) → IsFound names f → g.definers.items ≡ f.definers.items ++ new ∷ []
    → g.known.items ≡ cond internal f.known.items (set f.known.items n (Some (length f.definers.items))) → IsFound names g
found_added names f g new internal n is added kept = record { once = is.once; places = ap length kept ∙ places internal ∙ is.places; numbers = subst (All (Below (length g.definers.items))) (sym kept) (numbers internal) }
  where
    one_more : length g.definers.items ≡ length f.definers.items + 1
    one_more = ap length added ∙ length-append f.definers.items (new ∷ [])

    places : (b : Bool) → length (cond b f.known.items (set f.known.items n (Some (length f.definers.items)))) ≡ length f.known.items
    places true = refl
    places false = length-set f.known.items n (Some (length f.definers.items))

    before : All (Below (length g.definers.items)) f.known.items
    before = All-weaker (Below (length f.definers.items)) (Below (length g.definers.items)) (λ o b. below_more (length f.definers.items) (length g.definers.items) o (omega (arith, one_more)) b) f.known.items is.numbers

    numbers : (b : Bool) → All (Below (length g.definers.items)) (cond b f.known.items (set f.known.items n (Some (length f.definers.items))))
    numbers true = before
    numbers false = All-set (Below (length g.definers.items)) f.known.items n (Some (length f.definers.items)) (let h : length f.definers.items < length g.definers.items = omega (arith, one_more) in h) before

pub found_improved : (names : List (List ℕ)) (f g : Found) (e : ℕ) (d : Definer) → IsFound names f → g.known.items ≡ f.known.items → g.definers.items ≡ set f.definers.items e d → IsFound names g
found_improved names f g e d is same improved = record {
  once = is.once;
  places = ap length same ∙ is.places;
  numbers = subst (λ n. All (Below n) g.known.items) (sym (ap length improved ∙ length-set f.definers.items e d)) (subst (All (Below (length f.definers.items))) (sym same) is.numbers);
}

-- the number of a name that was met
pub number_is : (T : List Symbol) (names : List (List ℕ)) (n rank : ℕ) (internal : Bool) (name : List ℕ) (known : List (Option ℕ)) → known ≡ map (known_in T) names → slice_get names n ≡ Some name
    → cond internal None (get_or known n None) ≡ only_if (is_known T (symbol_of internal name rank)) (place_in T (symbol_of internal name rank))
number_is T names n rank true name known e at = refl
number_is T names n rank false name known e at = ap (λ (os : List (Option ℕ)). get_or os n None) e ∙ by names n at
  where
    by : (xs : List (List ℕ)) (n : ℕ) → slice_get xs n ≡ Some name → get_or (map (known_in T) xs) n None ≡ known_in T name
    by [] zero at = cc
    by [] (suc n) at = cc
    by (x ∷ xs) zero at = let same : x ≡ name = cc in ap (known_in T) same
    by (x ∷ xs) (suc n) at = by xs n at

pub is_none : {A : Type 0} (b : Bool) (a : A) → None ≡ only_if b a → b ≡ false
is_none true a e = cc
is_none false a e = refl

pub is_some_of : {A : Type 0} (b : Bool) (a c : A) → Some c ≡ only_if b a → (b ≡ true) × (c ≡ a)
is_some_of true a c e = let same : c ≡ a = cc in (refl, same)
is_some_of false a c e = cc

external_known : (internal : Bool) (name : List ℕ) (rank : ℕ) (T : List Symbol) → is_known T (symbol_of internal name rank) ≡ true → rank_after internal rank ≡ rank
external_known true name rank T e = cc
external_known false name rank T e = refl

module _ (units : List InRun) (names : List (List ℕ)) (entities : List ℕ) (m : Met) (x : Linkable) (f g : Found) (new : Definer) (finds : Finds units names m f)
    (so : IsSo units (x.means entities) (only_if x.function (symbol_at m.rank x) >>= host_meaning) new) where
  abbrev s : Symbol
  s = symbol_at m.rank x

  among_met : list_any (same_symbol s) m.table ≡ true → (y : Symbol) → list_any (same_symbol y) m.table || same_symbol y s ≡ list_any (same_symbol y) m.table
  among_met e y = by (same_symbol y s) refl
    where
      or_none : (a : Bool) → a || false ≡ a
      or_none true = refl
      or_none false = refl

      or_some : (a : Bool) → a || true ≡ true
      or_some true = refl
      or_some false = refl

      by : (b : Bool) → same_symbol y s ≡ b → list_any (same_symbol y) m.table || b ≡ list_any (same_symbol y) m.table
      by true h = or_some (list_any (same_symbol y) m.table) ∙ sym (subst (λ z. list_any (same_symbol z) m.table ≡ true) (sym (same_is y s h)) e)
      by false h = or_none (list_any (same_symbol y) m.table)

  -- a global whose entity was met
  pub met_again : (e : ℕ) → is_known m.table s ≡ true → e ≡ place_in m.table s → g.known.items ≡ f.known.items → g.definers.items ≡ set f.definers.items e (first_definer (get_or f.definers.items e Nothing) new) → Meets units names entities m x e g
  met_again e known number same improved =
      let table : m.table ≡ numbered m.table s = sym (numbered_known m.table s known) in
      let among = known_among m.table s known in
      let improved_is : set f.definers.items (place_in m.table s) (first_definer (get_or f.definers.items (place_in m.table s) Nothing) new) ≡ g.definers.items =
      ap (λ n. set f.definers.items n (first_definer (get_or f.definers.items n Nothing) new)) (sym number) ∙ sym improved in
      record {
        number = number ∙ ap (λ (T : List Symbol). place_in T s) table;
        finds = record {
          known = same ∙ finds.known ∙ ap (λ (T : List Symbol). map (known_in T) names) table;
          definers =
              subst (λ (T : List Symbol). AreSo units (m.rows ++ row_of entities m.rank x ∷ []) T g.definers.items) table
              (subst (λ (ds : List Definer). AreSo units (m.rows ++ row_of entities m.rank x ∷ []) m.table ds) improved_is
              (all_met units m.rows (row_of entities m.rank x) m.table f.definers.items Nothing new among finds.once finds.definers so));
          few = subst (λ n. n < 2 ^ 32) (sym (ap length improved ∙ length-set f.definers.items e (first_definer (get_or f.definers.items e Nothing) new))) finds.few;
          once = subst AreOnce table finds.once;
          ranks = subst (λ (T : List Symbol). NoneFrom (rank_after x.internal m.rank) T) table (subst (λ r. NoneFrom r m.table) (sym (external_known x.internal x.name m.rank m.table known)) finds.ranks);
          speaks = λ y.
              spoken_more m.rows (row_of entities m.rank x) y ∙ ap (λ b. b || same_symbol y s) (finds.speaks y) ∙ among_met among y ∙ ap (λ (T : List Symbol). list_any (same_symbol y) T) table;
        };
      }

  names_known : (internal : Bool) (n : ℕ) (known : List (Option ℕ)) → IsOnceEach names → slice_get names n ≡ Some x.name → list_any (same_symbol (symbol_of internal x.name m.rank)) m.table ≡ false
      → known ≡ cond internal f.known.items (set f.known.items n (Some (length f.definers.items))) → known ≡ map (known_in (m.table ++ symbol_of internal x.name m.rank ∷ [])) names
  names_known true n known once at absent e = e ∙ finds.known ∙ sym (known_internal m.table m.rank names)
  names_known false n known once at absent e =
      e ∙ ap (λ (os : List (Option ℕ)). set os n (Some (length f.definers.items))) finds.known ∙ ap (λ k. set (map (known_in m.table) names) n (Some k)) (so_many units m.rows m.table f.definers.items finds.definers)
      ∙ sym (known_external m.table x.name names n once at absent)

  -- a global whose entity is new
  pub met_first : (e n : ℕ) → IsOnceEach names → slice_get names n ≡ Some x.name → is_known m.table s ≡ false → e ≡ length f.definers.items → length g.definers.items < 2 ^ 32 → g.definers.items ≡ f.definers.items ++ new ∷ []
      → g.known.items ≡ cond x.internal f.known.items (set f.known.items n (Some (length f.definers.items))) → Meets units names entities m x e g
  met_first e n once at known number few added kept =
      let table : m.table ++ s ∷ [] ≡ numbered m.table s = sym (numbered_new m.table s known) in
      let absent = new_absent x.internal x.name m.rank m.table finds.ranks known in
      record {
        number = number ∙ so_many units m.rows m.table f.definers.items finds.definers ∙ sym (place_last m.table s absent) ∙ ap (λ (T : List Symbol). place_in T s) table;
        finds = record {
          known = names_known x.internal n g.known.items once at absent kept ∙ ap (λ (T : List Symbol). map (known_in T) names) table;
          definers =
              subst (λ (T : List Symbol). AreSo units (m.rows ++ row_of entities m.rank x ∷ []) T g.definers.items) table
              (subst (λ (ds : List Definer). AreSo units (m.rows ++ row_of entities m.rank x ∷ []) (m.table ++ s ∷ []) ds) (sym added)
              (all_new units m.rows (row_of entities m.rank x) m.table f.definers.items new (finds.speaks s ∙ absent) absent finds.definers so));
          few = few;
          once = subst AreOnce table (once_more m.table s absent finds.once);
          ranks = subst (λ (T : List Symbol). NoneFrom (rank_after x.internal m.rank) T) table (ranks_more x.internal x.name m.rank m.table finds.ranks);
          speaks = λ y.
              spoken_more m.rows (row_of entities m.rank x) y ∙ ap (λ b. b || same_symbol y s) (finds.speaks y) ∙ sym (among_more m.table s y) ∙ ap (λ (T : List Symbol). list_any (same_symbol y) T) table;
        };
      }

-- all globals of a unit give its rows
pub unit_met : (entities : List ℕ) (m : Met) (xs : List Linkable) → meet_all entities m xs ≡ record { table = numbered_all m.table (symbols_of m.rank xs); rank = rank_behind m.rank xs; rows = m.rows ++ rows_of entities m.rank xs }
unit_met entities m [] = ap (λ rows. let n : Met = record { table = m.table; rank = m.rank; rows = rows } in n) (sym (append-nil m.rows))
unit_met entities m (x ∷ xs) =
    unit_met entities (meet entities m x) xs
    ∙ ap (λ rows. let n : Met = record { table = numbered_all (numbered m.table (symbol_at m.rank x)) (symbols_of (rank_after x.internal m.rank) xs); rank = rank_behind (rank_after x.internal m.rank) xs; rows = rows } in n)
    (append_assoc m.rows (row_of entities m.rank x ∷ []) (rows_of entities (rank_after x.internal m.rank) xs))

-- and all units give theirs
pub units_met : (table : List Symbol) (m : Met) (programs : List Program)
    → ((meet_units m (in_run_from table m.rank programs)).table ≡ numbered_all m.table (all_symbols m.rank (map linkables programs)))
    × ((meet_units m (in_run_from table m.rank programs)).rows ≡ m.rows ++ rows_from table m.rank (map linkables programs))
units_met table m [] = (refl, sym (append-nil m.rows))
units_met table m (p ∷ programs) =
    let u = linkables p in
    let es = entities_of table m.rank u in
    let n : Met = record { table = numbered_all m.table (symbols_of m.rank u); rank = rank_behind m.rank u; rows = m.rows ++ rows_of es m.rank u } in
    let here : meet_all es m u ≡ n = unit_met es m u in
    let rest = units_met table n programs in (
      ap (λ (k : Met). (meet_units k (in_run_from table (rank_behind m.rank u) programs)).table) here ∙ rest.0 ∙ sym (numbered_joined m.table (symbols_of m.rank u) (all_symbols (rank_behind m.rank u) (map linkables programs))),
      ap (λ (k : Met). (meet_units k (in_run_from table (rank_behind m.rank u) programs)).rows) here ∙ rest.1 ∙ append_assoc m.rows (rows_of es m.rank u) (rows_from table (rank_behind m.rank u) (map linkables programs)),
    )

-- the numbers of a unit are its places in the whole table
numbers_are : (T : List Symbol) (rank : ℕ) (xs : List Linkable) (later : List Symbol) → numbers_from T rank xs ≡ map (place_in (numbered_all T (symbols_of rank xs ++ later))) (symbols_of rank xs)
numbers_are T rank [] later = refl
numbers_are T rank (x ∷ xs) later =
    let s = symbol_at rank x in
    ap (λ n. n ∷ numbers_from (numbered T s) (rank_after x.internal rank) xs) (sym (place_whole T s (symbols_of (rank_after x.internal rank) xs ++ later)))
    ∙ ap (λ ns. place_in (numbered_all (numbered T s) (symbols_of (rank_after x.internal rank) xs ++ later)) s ∷ ns) (numbers_are (numbered T s) (rank_after x.internal rank) xs later)

pub numbers_met : (m : Met) (programs : List Program) (table : List Symbol) → table ≡ numbered_all m.table (all_symbols m.rank (map linkables programs)) → numbers_of m (in_run_from table m.rank programs) ≡ map entities_in (in_run_from table m.rank programs)
numbers_met m [] table e = refl
numbers_met m (p ∷ programs) table e =
    let u = linkables p in
    let later = all_symbols (rank_behind m.rank u) (map linkables programs) in
    let es = entities_of table m.rank u in
    let n : Met = record { table = numbered_all m.table (symbols_of m.rank u); rank = rank_behind m.rank u; rows = m.rows ++ rows_of es m.rank u } in
    let here : meet_all es m u ≡ n = unit_met es m u in
    ap (λ (k : Met). numbers_from m.table m.rank u ∷ numbers_of k (in_run_from table (rank_behind m.rank u) programs)) here
    ∙ ap (λ ns. ns ∷ numbers_of n (in_run_from table (rank_behind m.rank u) programs)) (numbers_are m.table m.rank u later ∙ ap (λ (T : List Symbol). map (place_in T) (symbols_of m.rank u)) (sym e))
    ∙ ap (λ nss. es ∷ nss) (numbers_met n programs table (e ∙ numbered_joined m.table (symbols_of m.rank u) later))

-- what was found when all globals are met is the table of the run
pub table_is_found : (programs : List Program) (names : List (List ℕ)) (f : Found) → Finds (in_run programs) names (meet_units nothing_met (in_run programs)) f → IsTable programs f.definers.items
table_is_found programs names f finds =
    let met = units_met (table_of (map linkables programs)) nothing_met programs in
    let all : AreSo (in_run programs) (rows_in (map linkables programs)) (table_of (map linkables programs)) f.definers.items =
    subst (λ (T : List Symbol). AreSo (in_run programs) (rows_in (map linkables programs)) T f.definers.items) met.0
    (subst (λ rows. AreSo (in_run programs) rows (meet_units nothing_met (in_run programs)).table f.definers.items) met.1 finds.definers) in
    record {
      means = all_meant (in_run programs) (rows_in (map linkables programs)) (table_of (map linkables programs)) f.definers.items all;
      all = each_one (rows_in (map linkables programs)) (table_of (map linkables programs)) f.definers.items all;
      few = finds.few;
    }
  where
    each_one : (rows : _) (T : List Symbol) (ds : List Definer) → AreSo (in_run programs) rows T ds → All (IsOne (in_run programs)) ds
    each_one rows T [] h k d low = absurd (omega (arith, low))
    each_one rows [] (d ∷ ds) h k e low = absurd h
    each_one rows (x ∷ T) (d ∷ ds) h zero e low = so_one (in_run programs) _ _ d h.0
    each_one rows (x ∷ T) (d ∷ ds) h (suc k) e low = each_one rows T ds h.1 k e (omega (arith, low))

-- the globals of a unit, one after another
module _ (units : List InRun) (names : List (List ℕ)) (entities : List ℕ) (first : Met) (all : List Linkable) where
  pub unit_begins : (f : Found) → Finds units names first f → FindingIn units names entities first all all f []
  unit_begins f finds = record { met = first; finds = finds; whole = refl; counted = refl }

  pub unit_next : (x : Linkable) (rest now next : List Linkable) (f g : Found) (numbers more : List ℕ) (e : ℕ) → now ≡ x ∷ rest → next ≡ rest → more ≡ numbers ++ e ∷ [] → (k : FindingIn units names entities first all now f numbers)
      → Meets units names entities k.met x e g → FindingIn units names entities first all next g more
  unit_next x rest now next f g numbers more e here behind push k meets = record {
    met = meet entities k.met x;
    finds = meets.finds;
    whole = ap (meet_all entities (meet entities k.met x)) behind ∙ sym (ap (meet_all entities k.met) here) ∙ k.whole;
    counted =
        ap (λ ns. ns ++ numbers_from (numbered k.met.table (symbol_at k.met.rank x)) (rank_after x.internal k.met.rank) next) push
        ∙ append_assoc numbers (e ∷ []) (numbers_from (numbered k.met.table (symbol_at k.met.rank x)) (rank_after x.internal k.met.rank) next)
        ∙ ap (λ n. numbers ++ n ∷ numbers_from (numbered k.met.table (symbol_at k.met.rank x)) (rank_after x.internal k.met.rank) next) meets.number
        ∙ ap (λ xs. numbers ++ place_in (numbered k.met.table (symbol_at k.met.rank x)) (symbol_at k.met.rank x) ∷ numbers_from (numbered k.met.table (symbol_at k.met.rank x)) (rank_after x.internal k.met.rank) xs) behind
        ∙ sym (ap (λ xs. numbers ++ numbers_from k.met.table k.met.rank xs) here) ∙ k.counted;
  }

  pub unit_ends : (rest : List Linkable) (f : Found) (numbers : List ℕ) → rest ≡ [] → FindingIn units names entities first all rest f numbers → MeetsAll units names entities first all numbers f
  unit_ends rest f numbers none k = record {
    numbers_are = sym (append-nil numbers) ∙ sym (ap (λ xs. numbers ++ numbers_from k.met.table k.met.rank xs) none) ∙ k.counted;
    finds = subst (λ (m : Met). Finds units names m f) (sym (ap (meet_all entities k.met) none) ∙ k.whole) k.finds;
  }

-- a program of a run by its number
pub record UnitAt (programs : List Program) (i : ℕ) (p : Program) : Type 0 where
  pub entities : List ℕ
  pub unit_is : slice_get (in_run programs) i ≡ Some (record { program = p; entities = entities })
  pub many : length entities ≡ length p.globals

symbols_count : (rank : ℕ) (xs : List Linkable) → length (symbols_of rank xs) ≡ length xs
symbols_count rank [] = refl
symbols_count rank (x ∷ xs) = ap suc (symbols_count (rank_after x.internal rank) xs)

pub unit_at : (programs : List Program) (i : ℕ) (p : Program) → slice_get programs i ≡ Some p → UnitAt programs i p
unit_at programs i p at =
    let r = by (table_of (map linkables programs)) 0 programs i at in
    record { entities = r.0; unit_is = r.1; many = r.2 }
  where
    by : (table : List Symbol) (rank : ℕ) (ps : List Program) (i : ℕ) → slice_get ps i ≡ Some p → (es : List ℕ) × (slice_get (in_run_from table rank ps) i ≡ Some (let u : InRun = record { program = p; entities = es } in u)) × (length es ≡ length p.globals)
    by table rank [] zero e = cc
    by table rank [] (suc i) e = cc
    by table rank (q ∷ ps) zero e =
        let same : q ≡ p = cc in
        let es = entities_of table rank (linkables q) in (
          es,
          ap (λ (r : Program). Some (let u : InRun = record { program = r; entities = es } in u)) same,
          length-map (symbols_of rank (linkables q)) (place_in table) ∙ symbols_count rank (linkables q) ∙ length-map q.globals (linkable q) ∙ ap (λ (r : Program). length r.globals) same,
        )
    by table rank (q ∷ ps) (suc i) e = by table (rank_behind rank (linkables q)) ps i e

pub drop_at : {A : Type 0} (xs : List A) (i : ℕ) (x : A) → slice_get xs i ≡ Some x → drop i xs ≡ x ∷ drop (suc i) xs
drop_at [] zero x e = cc
drop_at [] (suc i) x e = cc
drop_at (y ∷ xs) zero x e = let same : y ≡ x = cc in ap (λ z. z ∷ xs) same
drop_at (y ∷ xs) (suc i) x e = drop_at xs i x e

drop_past : {A : Type 0} (xs : List A) (i : ℕ) → length xs ≤ i → drop i xs ≡ []
drop_past [] zero h = refl
drop_past [] (suc i) h = refl
drop_past (x ∷ xs) zero h = absurd (omega arith)
drop_past (x ∷ xs) (suc i) h = drop_past xs i (omega arith)

pub units_count : (table : List Symbol) (rank : ℕ) (programs : List Program) → length (in_run_from table rank programs) ≡ length programs
units_count table rank [] = refl
units_count table rank (p ∷ programs) = ap suc (units_count table (rank_behind rank (linkables p)) programs)

-- all units, one after another
module _ (programs : List Program) (names : List (List ℕ)) where
  pub units_begin : (f : Found) → Finds (in_run programs) names nothing_met f → Finding programs names (in_run programs) f []
  units_begin f finds = record { met = nothing_met; finds = finds; whole = refl; counted = refl }

  pub units_next : (i j : ℕ) (p : Program) (u : UnitAt programs i p) (f g : Found) (numbers more : List (List ℕ)) (ns : List ℕ) → j ≡ suc i → more ≡ numbers ++ ns ∷ [] → (k : Finding programs names (drop i (in_run programs)) f numbers)
      → MeetsAll (in_run programs) names u.entities k.met (linkables p) ns g → Finding programs names (drop j (in_run programs)) g more
  units_next i j p u f g numbers more ns next push k meets =
      let v : InRun = record { program = p; entities = u.entities } in
      let here : drop i (in_run programs) ≡ v ∷ drop (suc i) (in_run programs) = drop_at (in_run programs) i v u.unit_is in
      let behind : drop j (in_run programs) ≡ drop (suc i) (in_run programs) = ap (λ n. drop n (in_run programs)) next in
      record {
        met = meet_all u.entities k.met (linkables p);
        finds = meets.finds;
        whole = ap (meet_units (meet_all u.entities k.met (linkables p))) behind ∙ sym (ap (meet_units k.met) here) ∙ k.whole;
        counted =
            ap (λ nss. nss ++ numbers_of (meet_all u.entities k.met (linkables p)) (drop j (in_run programs))) push
            ∙ append_assoc numbers (ns ∷ []) (numbers_of (meet_all u.entities k.met (linkables p)) (drop j (in_run programs)))
            ∙ ap (λ n. numbers ++ n ∷ numbers_of (meet_all u.entities k.met (linkables p)) (drop j (in_run programs))) meets.numbers_are
            ∙ ap (λ us. numbers ++ numbers_from k.met.table k.met.rank (linkables p) ∷ numbers_of (meet_all u.entities k.met (linkables p)) us) behind
            ∙ sym (ap (λ us. numbers ++ numbers_of k.met us) here) ∙ k.counted;
      }

  pub units_end : (i : ℕ) (f : Found) (numbers : List (List ℕ)) → length programs ≤ i → Finding programs names (drop i (in_run programs)) f numbers → (numbers ≡ map entities_in (in_run programs)) × IsTable programs f.definers.items
  units_end i f numbers h k =
      let none : drop i (in_run programs) ≡ [] = drop_past (in_run programs) i (omega (arith, h, units_count (table_of (map linkables programs)) 0 programs)) in (
        sym (append-nil numbers) ∙ sym (ap (λ us. numbers ++ numbers_of k.met us) none) ∙ k.counted ∙ numbers_met nothing_met programs (table_of (map linkables programs)) refl,
        table_is_found programs names f (subst (λ (m : Met). Finds (in_run programs) names m f) (sym (ap (meet_units k.met) none) ∙ k.whole) k.finds),
      )

-- the names of a pool, one after another
pub first_next : (names : List (List ℕ)) (n : ℕ) (text : List ℕ) (old new : List (Option ℕ)) (o : Option ℕ) → slice_get names n ≡ Some text → o ≡ known_in (memset_symbol ∷ []) text → new ≡ old ++ o ∷ []
    → old ≡ map (known_in (memset_symbol ∷ [])) (take n names) → new ≡ map (known_in (memset_symbol ∷ [])) (take (n + 1) names)
first_next names n text old new o at is push inv =
    push ∙ ap (λ xs. xs ++ o ∷ []) inv ∙ ap (λ (p : Option ℕ). map (known_in (memset_symbol ∷ [])) (take n names) ++ p ∷ []) is
    ∙ sym (map-append (known_in (memset_symbol ∷ [])) (take n names) (text ∷ [])) ∙ ap (map (known_in (memset_symbol ∷ []))) (sym (more names n at) ∙ ap (λ k. take k names) (let one : suc n ≡ n + 1 = omega arith in one))
  where
    more : (xs : List (List ℕ)) (n : ℕ) → slice_get xs n ≡ Some text → take (suc n) xs ≡ take n xs ++ text ∷ []
    more [] zero e = cc
    more [] (suc n) e = cc
    more (x ∷ xs) zero e = let same : x ≡ text = cc in ap (λ y. y ∷ []) same
    more (x ∷ xs) (suc n) e = ap (λ ys. x ∷ ys) (more xs n e)

-- a global of the code
module _ (units : List InRun) (u : CilUnit) (names : List (List ℕ)) (entities : List ℕ) (m : Met) (at : Site) (r : GlobalDecl) (f g : Found) (is : IsGlobalOf units u names entities at r) (finds : Finds units names m f) where
  abbrev link : Linkable
  link = link_of names u r

  named : r.name.0 < length names → slice_get names r.name.0 ≡ Some link.name
  named low = slice_get-get_or names r.name.0 [] low

  number : r.name.0 < length names → cond r.internal None (get_or f.known.items r.name.0 None) ≡ only_if (is_known m.table (symbol_at m.rank link)) (place_in m.table (symbol_at m.rank link))
  number low = number_is m.table names r.name.0 m.rank r.internal link.name f.known.items finds.known (named low)

  pub global_again : (e : ℕ) (d : Definer) → r.name.0 < length names → Some e ≡ cond r.internal None (get_or f.known.items r.name.0 None) → d ≡ definer_of at.unit at.global (global_of u.graph.nodes names r)
      → g.known.items ≡ f.known.items → g.definers.items ≡ set f.definers.items e (first_definer (get_or f.definers.items e Nothing) d) → Meets units names entities m link e g
  global_again e d low known definer same improved =
      let h = is_some_of (is_known m.table (symbol_at m.rank link)) (place_in m.table (symbol_at m.rank link)) e (known ∙ number low) in
      met_again units names entities m link f g d finds (subst (IsSo units (link.means entities) (only_if link.function (symbol_at m.rank link) >>= host_meaning)) (sym definer) (global_so units u names entities at r m.rank is)) e h.0 h.1 same improved

  pub global_first : (e : ℕ) (d : Definer) → r.name.0 < length names → IsOnceEach names → None ≡ cond r.internal None (get_or f.known.items r.name.0 None) → d ≡ definer_of at.unit at.global (global_of u.graph.nodes names r)
      → e ≡ length f.definers.items → length g.definers.items < 2 ^ 32 → g.definers.items ≡ f.definers.items ++ d ∷ [] → g.known.items ≡ cond r.internal f.known.items (set f.known.items r.name.0 (Some (length f.definers.items))) → Meets units names entities m link e g
  global_first e d low once known definer next few added kept =
      let h = is_none (is_known m.table (symbol_at m.rank link)) (place_in m.table (symbol_at m.rank link)) (known ∙ number low) in
      met_first units names entities m link f g d finds (subst (IsSo units (link.means entities) (only_if link.function (symbol_at m.rank link) >>= host_meaning)) (sym definer) (global_so units u names entities at r m.rank is)) e r.name.0 once (named low) h next few added kept

  pub global_added : {E : Type 0} (res : Result ℕ E) (d : Definer) → r.name.0 < length names → IsOnceEach names → None ≡ cond r.internal None (get_or f.known.items r.name.0 None) → d ≡ definer_of at.unit at.global (global_of u.graph.nodes names r)
      → IfOk res (λ e. e ≡ length f.definers.items) → OnOk res (length g.definers.items < 2 ^ 32) → OnOk res (g.definers.items ≡ f.definers.items ++ d ∷ []) → OnOk res (g.known.items ≡ cond r.internal f.known.items (set f.known.items r.name.0 (Some (length f.definers.items))))
      → IfOk res (λ e. Meets units names entities m link e g)
  global_added (Ok e) d low once known definer next few added kept = global_first e d low once known definer next few added kept
  global_added (Err x) d low once known definer next few added kept = tt

-- a global of a unit by its number
pub global_of_unit : (units : List InRun) (u : CilUnit) (names : List (List ℕ)) (entities : List ℕ) (unit : UnitNo) (i : ℕ) (r : GlobalDecl) → IsUnit (program_of names u) → IsUnitOf units u names entities unit → i < length u.globals.items → r ≡ get_or u.globals.items i r
    → IsGlobalOf units u names entities (record { unit = unit; global = record { 0 = i } }) r
global_of_unit units u names entities unit i r program is low at = record { program = program; unit = is.unit_is; global = global_there u names i r low at; numbers = is.numbers }

-- a unit of the code by its number
pub unit_read : (names : List (List ℕ)) (units : List CilUnit) (i : ℕ) (u : CilUnit) → i < length units → u ≡ get_or units i u → slice_get (map (program_of names) units) i ≡ Some (program_of names u)
unit_read names units i u low at = slice_get-map (program_of names) units i ∙ ap (option_map (program_of names)) (slice_get_read units (length units) i u refl low at)

pub unit_of_run : (names : List (List ℕ)) (programs : List Program) (i : ℕ) (u : CilUnit) (k : UnitAt programs i (program_of names u)) → IsUnitOf (in_run programs) u names k.entities (record { 0 = i })
unit_of_run names programs i u k = record { unit_is = k.unit_is; numbers = k.many }
