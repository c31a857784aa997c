-- Device: units that link alike start alike.
use Rattle.std.proofs.Common.{◌≡◌, ℕ, zero, suc, ◌-◌, Bool, true, false, not, ◌&&◌, ◌||◌, List, [], ◌∷◌, ◌++◌, length, map, Option, Some, None, slice_get, codes, refl, sym, ap, ap₂, ◌∙◌, subst}
use Rattle.std.specs.Prelude.{max, replicate}
use Rattle.cil_base.specs.declared.kinds.Abi.{Abi}
use Rattle.byte_mem.specs.declared.pointers.ObjName.TheVariants.{Entity, Local, Literal, Heap, Argument}
use Rattle.byte_mem.specs.declared.values.Byte.{Byte}
use Rattle.byte_mem.specs.declared.values.Byte.TheVariants.{Known, Unknown as Blank, Part as Fragment}
use Rattle.byte_mem.specs.declared.values.Value.{Value}
use Rattle.byte_mem.specs.declared.values.Value.TheVariants.{Int, Ptr, Unknown, Part}
use Rattle.byte_mem.specs.Steps.{◌>>=◌, only_if}
use Rattle.byte_mem.specs.Object.{Held}
use Rattle.byte_mem.specs.Layers.{slot}
use Rattle.byte_mem.specs.Below.{BelowBytes, BelowValue, Lift, BelowHeld, BelowMemory}
use Rattle.byte_mem.proofs.BelowLemmas.{length_below}
use Rattle.host_calls.specs.declared.names.HostName.{HostName}
use Rattle.execution.specs.Calls.{Function, Meaning, Object, Code, Host, Linked, entity_at, meant}
use Rattle.execution.specs.Linking.{Linkable, Symbol, External, Internal, same_symbol, symbol_of, rank_after, symbols_of, rank_behind, all_symbols, table_of, numbered_all, memset_symbol, place_in, entities_of, Row, rows_of, rows_from, rows_in, first_of, said, defined, firmly_said, firmly_defined, object_size, greatest_size, grown, is_read_only, any_read_only, with_read_only, shared, defined_in, declared_function, host_names, named_among, host_meaning, meaning_in, linked}
use Rattle.execution.specs.Runs.{entity_held, words_held, memory_of}
use Rattle.execution.specs.Likeness.{Past, Computes, LikeMeaning}
use Rattle.simulation_laws.specs.Changes.{itself}
use Rattle.simulation_laws.specs.Starts.{AlikeOption, AlikeUnit, AlikeUnits, AlikeLinked, StartAlike}

-- what is known is known under its own name

bytes_itself : (bytes : List Byte) → BelowBytes itself bytes bytes
bytes_itself [] = tt
bytes_itself (Known b ∷ bytes) = (refl, bytes_itself bytes)
bytes_itself (Blank ∷ bytes) = (tt, bytes_itself bytes)
bytes_itself (Fragment p k ∷ bytes) = (refl, bytes_itself bytes)

-- zero bytes behind both
behind : (zs bs cs : List Byte) → BelowBytes itself bs cs → BelowBytes itself (bs ++ zs) (cs ++ zs)
behind zs [] [] h = bytes_itself zs
behind zs [] (c ∷ cs) h = absurd h
behind zs (b ∷ bs) [] h = absurd h
behind zs (b ∷ bs) (c ∷ cs) h = (h.0, behind zs bs cs h.1)

held_itself : (o : Option Held) → Lift (BelowHeld itself) o o
held_itself None = tt
held_itself (Some h) = record { function = refl; writable = λ e. e; bytes = bytes_itself h.bytes }

module _ (P : Function → Function → Type 0) where
  -- symbols and entities are the same

  symbols_same : (rank : ℕ) (u v : List Linkable) → AlikeUnit P u v → symbols_of rank v ≡ symbols_of rank u
  symbols_same rank [] [] h = refl
  symbols_same rank [] (y ∷ ys) h = absurd h
  symbols_same rank (x ∷ xs) [] h = absurd h
  symbols_same rank (x ∷ xs) (y ∷ ys) h =
      ap₂ (λ (b : Bool) (name : List ℕ). symbol_of b name rank ∷ symbols_of (rank_after b rank) ys) h.0.internal h.0.name
      ∙ ap (λ ss. symbol_of x.internal x.name rank ∷ ss) (symbols_same (rank_after x.internal rank) xs ys h.1)

  rank_same : (rank : ℕ) (u v : List Linkable) → AlikeUnit P u v → rank_behind rank v ≡ rank_behind rank u
  rank_same rank [] [] h = refl
  rank_same rank [] (y ∷ ys) h = absurd h
  rank_same rank (x ∷ xs) [] h = absurd h
  rank_same rank (x ∷ xs) (y ∷ ys) h = ap (λ (b : Bool). rank_behind (rank_after b rank) ys) h.0.internal ∙ rank_same (rank_after x.internal rank) xs ys h.1

  all_same : (rank : ℕ) (us vs : List (List Linkable)) → AlikeUnits P us vs → all_symbols rank vs ≡ all_symbols rank us
  all_same rank [] [] h = refl
  all_same rank [] (v ∷ vs) h = absurd h
  all_same rank (u ∷ us) [] h = absurd h
  all_same rank (u ∷ us) (v ∷ vs) h =
      ap₂ (λ (ss : List Symbol) (r : ℕ). ss ++ all_symbols r vs) (symbols_same rank u v h.0) (rank_same rank u v h.0) ∙ ap (λ ss. symbols_of rank u ++ ss) (all_same (rank_behind rank u) us vs h.1)

  table_same : (us vs : List (List Linkable)) → AlikeUnits P us vs → table_of vs ≡ table_of us
  table_same us vs h = ap (numbered_all (memset_symbol ∷ [])) (all_same 0 us vs h)

  -- rows that are alike

  record AlikeRow (r q : Row) : Type 0 where
    symbol : q.symbol ≡ r.symbol
    function : q.function ≡ r.function
    tentative : q.tentative ≡ r.tentative
    meaning : AlikeOption P r.meaning q.meaning

  AlikeRows : List Row → List Row → Type 0
  AlikeRows [] [] = Unit {0}
  AlikeRows [] (q ∷ qs) = ⊥
  AlikeRows (r ∷ rs) [] = ⊥
  AlikeRows (r ∷ rs) (q ∷ qs) = AlikeRow r q × AlikeRows rs qs

  joined : (rs qs xs ys : List Row) → AlikeRows rs qs → AlikeRows xs ys → AlikeRows (rs ++ xs) (qs ++ ys)
  unfolding AlikeRows
  joined [] [] xs ys h k = k
  joined [] (q ∷ qs) xs ys h k = absurd h
  joined (r ∷ rs) [] xs ys h k = absurd h
  joined (r ∷ rs) (q ∷ qs) xs ys h k = (h.0, joined rs qs xs ys h.1 k)

  rows_alike : (entities : List ℕ) (rank : ℕ) (u v : List Linkable) → AlikeUnit P u v → AlikeRows (rows_of entities rank u) (rows_of entities rank v)
  unfolding AlikeRows
  rows_alike entities rank [] [] h = tt
  rows_alike entities rank [] (y ∷ ys) h = absurd h
  rows_alike entities rank (x ∷ xs) [] h = absurd h
  rows_alike entities rank (x ∷ xs) (y ∷ ys) h = (
    record { symbol = ap₂ (λ (b : Bool) (name : List ℕ). symbol_of b name rank) h.0.internal h.0.name; function = h.0.function; tentative = h.0.tentative; meaning = h.0.means entities },
    subst (λ (b : Bool). AlikeRows (rows_of entities (rank_after x.internal rank) xs) (rows_of entities (rank_after b rank) ys)) (sym h.0.internal) (rows_alike entities (rank_after x.internal rank) xs ys h.1),
  )

  from_alike : (table : List Symbol) (rank : ℕ) (us vs : List (List Linkable)) → AlikeUnits P us vs → AlikeRows (rows_from table rank us) (rows_from table rank vs)
  unfolding AlikeRows
  from_alike table rank [] [] h = tt
  from_alike table rank [] (v ∷ vs) h = absurd h
  from_alike table rank (u ∷ us) [] h = absurd h
  from_alike table rank (u ∷ us) (v ∷ vs) h =
      joined (rows_of (entities_of table rank u) rank u) (rows_of (entities_of table rank v) rank v) (rows_from table (rank_behind rank u) us) (rows_from table (rank_behind rank v) vs)
      (subst (λ (es : List ℕ). AlikeRows (rows_of (entities_of table rank u) rank u) (rows_of es rank v)) (sym (ap (map (place_in table)) (symbols_same rank u v h.0))) (rows_alike (entities_of table rank u) rank u v h.0))
      (subst (λ (r : ℕ). AlikeRows (rows_from table (rank_behind rank u) us) (rows_from table r vs)) (sym (rank_same rank u v h.0)) (from_alike table (rank_behind rank u) us vs h.1))

  -- what a symbol means

  first_alike : (m n a b : Option Meaning) → AlikeOption P m n → AlikeOption P a b → AlikeOption P (first_of m a) (first_of n b)
  first_alike None None a b h k = k
  first_alike None (Some n) a b h k = absurd h
  first_alike (Some m) None a b h k = absurd h
  first_alike (Some m) (Some n) a b h k = h

  only_alike : (c : Bool) (m n : Option Meaning) → AlikeOption P m n → AlikeOption P (only_if c m >>= λ x. x) (only_if c n >>= λ x. x)
  only_alike true m n h = h
  only_alike false m n h = tt

  said_alike : (r q : Row) (x : Symbol) → AlikeRow r q → AlikeOption P (said x r) (said x q)
  said_alike r q x h = subst (λ (s : Symbol). AlikeOption P (said x r) (only_if (same_symbol x s) q.meaning >>= λ m. m)) (sym h.symbol) (only_alike (same_symbol x r.symbol) r.meaning q.meaning h.meaning)

  firmly_alike : (r q : Row) (x : Symbol) → AlikeRow r q → AlikeOption P (firmly_said x r) (firmly_said x q)
  firmly_alike r q x h =
      subst (λ (c : Bool). AlikeOption P (firmly_said x r) (only_if c q.meaning >>= λ m. m)) (sym (ap₂ (λ (s : Symbol) (b : Bool). same_symbol x s && not b) h.symbol h.tentative))
      (only_alike (same_symbol x r.symbol && not r.tentative) r.meaning q.meaning h.meaning)

  defined_alike : (rs qs : List Row) (x : Symbol) → AlikeRows rs qs → AlikeOption P (defined rs x) (defined qs x)
  unfolding AlikeRows
  defined_alike [] [] x h = tt
  defined_alike [] (q ∷ qs) x h = absurd h
  defined_alike (r ∷ rs) [] x h = absurd h
  defined_alike (r ∷ rs) (q ∷ qs) x h = first_alike (said x r) (said x q) (defined rs x) (defined qs x) (said_alike r q x h.0) (defined_alike rs qs x h.1)

  all_firmly_alike : (rs qs : List Row) (x : Symbol) → AlikeRows rs qs → AlikeOption P (firmly_defined rs x) (firmly_defined qs x)
  unfolding AlikeRows
  all_firmly_alike [] [] x h = tt
  all_firmly_alike [] (q ∷ qs) x h = absurd h
  all_firmly_alike (r ∷ rs) [] x h = absurd h
  all_firmly_alike (r ∷ rs) (q ∷ qs) x h = first_alike (firmly_said x r) (firmly_said x q) (firmly_defined rs x) (firmly_defined qs x) (firmly_alike r q x h.0) (all_firmly_alike rs qs x h.1)

  -- an object has the size of the other

  size_same : (m n : Option Meaning) → AlikeOption P m n → object_size n ≡ object_size m
  size_same None None h = refl
  size_same None (Some n) h = absurd h
  size_same (Some m) None h = absurd h
  size_same (Some (Object r bs)) (Some (Object q cs)) h = length_below itself bs cs h.1
  size_same (Some (Object r bs)) (Some (Code g)) h = absurd h
  size_same (Some (Object r bs)) (Some (Host b)) h = absurd h
  size_same (Some (Code f)) (Some (Object q cs)) h = absurd h
  size_same (Some (Code f)) (Some (Code g)) h = refl
  size_same (Some (Code f)) (Some (Host b)) h = absurd h
  size_same (Some (Host a)) (Some (Object q cs)) h = absurd h
  size_same (Some (Host a)) (Some (Code g)) h = absurd h
  size_same (Some (Host a)) (Some (Host b)) h = refl

  greatest_same : (rs qs : List Row) (x : Symbol) → AlikeRows rs qs → greatest_size qs x ≡ greatest_size rs x
  unfolding AlikeRows
  greatest_same [] [] x h = refl
  greatest_same [] (q ∷ qs) x h = absurd h
  greatest_same (r ∷ rs) [] x h = absurd h
  greatest_same (r ∷ rs) (q ∷ qs) x h = ap₂ max (size_same (said x r) (said x q) (said_alike r q x h.0)) (greatest_same rs qs x h.1)

  grown_alike : (size : ℕ) (m n : Option Meaning) → AlikeOption P m n → AlikeOption P (grown size m) (grown size n)
  grown_alike size None None h = tt
  grown_alike size None (Some n) h = absurd h
  grown_alike size (Some m) None h = absurd h
  grown_alike size (Some (Object r bs)) (Some (Object q cs)) h =
      (h.0, subst (λ (n : ℕ). BelowBytes itself (bs ++ replicate (size - length bs) (Known 0)) (cs ++ replicate (size - n) (Known 0))) (sym (length_below itself bs cs h.1)) (behind (replicate (size - length bs) (Known 0)) bs cs h.1))
  grown_alike size (Some (Object r bs)) (Some (Code g)) h = absurd h
  grown_alike size (Some (Object r bs)) (Some (Host b)) h = absurd h
  grown_alike size (Some (Code f)) (Some (Object q cs)) h = absurd h
  grown_alike size (Some (Code f)) (Some (Code g)) h = h
  grown_alike size (Some (Code f)) (Some (Host b)) h = absurd h
  grown_alike size (Some (Host a)) (Some (Object q cs)) h = absurd h
  grown_alike size (Some (Host a)) (Some (Code g)) h = absurd h
  grown_alike size (Some (Host a)) (Some (Host b)) h = h

  -- the second is read-only nowhere where the first is not

  writable_alike : (m n : Option Meaning) → AlikeOption P m n → is_read_only m ≡ false → is_read_only n ≡ false
  writable_alike None None h e = refl
  writable_alike None (Some n) h e = absurd h
  writable_alike (Some m) None h e = absurd h
  writable_alike (Some (Object r bs)) (Some (Object q cs)) h e = h.0 e
  writable_alike (Some (Object r bs)) (Some (Code g)) h e = absurd h
  writable_alike (Some (Object r bs)) (Some (Host b)) h e = absurd h
  writable_alike (Some (Code f)) (Some (Object q cs)) h e = absurd h
  writable_alike (Some (Code f)) (Some (Code g)) h e = refl
  writable_alike (Some (Code f)) (Some (Host b)) h e = absurd h
  writable_alike (Some (Host a)) (Some (Object q cs)) h e = absurd h
  writable_alike (Some (Host a)) (Some (Code g)) h e = absurd h
  writable_alike (Some (Host a)) (Some (Host b)) h e = refl

  both_false : (a b : Bool) → (a || b) ≡ false → (a ≡ false) × (b ≡ false)
  both_false true b e = absurd (cc)
  both_false false b e = (refl, e)

  neither : (a b : Bool) → a ≡ false → b ≡ false → (a || b) ≡ false
  neither true b e h = absurd (cc)
  neither false b e h = h

  all_writable_alike : (rs qs : List Row) (x : Symbol) → AlikeRows rs qs → any_read_only rs x ≡ false → any_read_only qs x ≡ false
  unfolding AlikeRows
  all_writable_alike [] [] x h e = refl
  all_writable_alike [] (q ∷ qs) x h e = absurd h
  all_writable_alike (r ∷ rs) [] x h e = absurd h
  all_writable_alike (r ∷ rs) (q ∷ qs) x h e =
      let each : (is_read_only (said x r) ≡ false) × (any_read_only rs x ≡ false) = both_false (is_read_only (said x r)) (any_read_only rs x) e in
      neither (is_read_only (said x q)) (any_read_only qs x) (writable_alike (said x r) (said x q) (said_alike r q x h.0) each.0) (all_writable_alike rs qs x h.1 each.1)

  as_read_only_alike : (a b : Bool) (m n : Option Meaning) → (a ≡ false → b ≡ false) → AlikeOption P m n → AlikeOption P (with_read_only a m) (with_read_only b n)
  as_read_only_alike a b None None k h = tt
  as_read_only_alike a b None (Some n) k h = absurd h
  as_read_only_alike a b (Some m) None k h = absurd h
  as_read_only_alike a b (Some (Object r bs)) (Some (Object q cs)) k h = (k, h.1)
  as_read_only_alike a b (Some (Object r bs)) (Some (Code g)) k h = absurd h
  as_read_only_alike a b (Some (Object r bs)) (Some (Host c)) k h = absurd h
  as_read_only_alike a b (Some (Code f)) (Some (Object q cs)) k h = absurd h
  as_read_only_alike a b (Some (Code f)) (Some (Code g)) k h = h
  as_read_only_alike a b (Some (Code f)) (Some (Host c)) k h = absurd h
  as_read_only_alike a b (Some (Host c)) (Some (Object q cs)) k h = absurd h
  as_read_only_alike a b (Some (Host c)) (Some (Code g)) k h = absurd h
  as_read_only_alike a b (Some (Host c)) (Some (Host d)) k h = h

  tentative : List Row → Symbol → Option Meaning
  tentative rs x = with_read_only (any_read_only rs x) (defined rs x)

  chosen_alike : (common : Bool) (rs qs : List Row) (x : Symbol) → AlikeRows rs qs → AlikeOption P (defined_in common rs x) (defined_in common qs x)
  unfolding tentative
  chosen_alike false rs qs x h = defined_alike rs qs x h
  chosen_alike true rs qs x h =
      subst (λ (n : ℕ). AlikeOption P (shared rs x) (grown n (first_of (firmly_defined qs x) (tentative qs x)))) (sym (greatest_same rs qs x h))
      (grown_alike (greatest_size rs x) (first_of (firmly_defined rs x) (tentative rs x)) (first_of (firmly_defined qs x) (tentative qs x))
      (first_alike (firmly_defined rs x) (firmly_defined qs x) (tentative rs x) (tentative qs x) (all_firmly_alike rs qs x h)
      (as_read_only_alike (any_read_only rs x) (any_read_only qs x) (defined rs x) (defined qs x) (all_writable_alike rs qs x h) (defined_alike rs qs x h))))

  function_same : (rs qs : List Row) (x : Symbol) → AlikeRows rs qs → declared_function qs x ≡ declared_function rs x
  unfolding AlikeRows
  function_same [] [] x h = refl
  function_same [] (q ∷ qs) x h = absurd h
  function_same (r ∷ rs) [] x h = absurd h
  function_same (r ∷ rs) (q ∷ qs) x h =
      ap₂ (λ (s : Symbol) (f : Bool). (same_symbol x s && f) || declared_function qs x) h.0.symbol h.0.function ∙ ap (λ b. (same_symbol x r.symbol && r.function) || b) (function_same rs qs x h.1)

  host_alike : (b : Bool) (x : Symbol) → AlikeOption P (only_if b x >>= host_meaning) (only_if b x >>= host_meaning)
  host_alike false x = tt
  host_alike true (Internal rank) = tt
  host_alike true (External name) = named (named_among host_names name)
    where
      named : (o : Option HostName) → AlikeOption P (o >>= λ h. Some (Host h)) (o >>= λ h. Some (Host h))
      named None = tt
      named (Some h) = refl

  meaning_alike : (common : Bool) (rs qs : List Row) (x : Symbol) → AlikeRows rs qs → AlikeOption P (meaning_in common rs x) (meaning_in common qs x)
  meaning_alike common rs qs x h =
      first_alike (defined_in common rs x) (defined_in common qs x) (only_if (declared_function rs x) x >>= host_meaning) (only_if (declared_function qs x) x >>= host_meaning) (chosen_alike common rs qs x h)
      (subst (λ (b : Bool). AlikeOption P (only_if (declared_function rs x) x >>= host_meaning) (only_if b x >>= host_meaning)) (sym (function_same rs qs x h)) (host_alike (declared_function rs x) x))

  table_alike : (common : Bool) (rs qs : List Row) (table : List Symbol) → AlikeRows rs qs → AlikeLinked P (map (meaning_in common rs) table) (map (meaning_in common qs) table)
  table_alike common rs qs [] h = tt
  table_alike common rs qs (x ∷ table) h = (meaning_alike common rs qs x h, table_alike common rs qs table h)

  all_rows : (us vs : List (List Linkable)) → AlikeUnits P us vs → AlikeRows (rows_in us) (rows_in vs)
  unfolding AlikeRows
  all_rows us vs h = (
    record { symbol = refl; function = refl; tentative = refl; meaning = tt },
    subst (λ (t : List Symbol). AlikeRows (rows_from (table_of us) 0 us) (rows_from t 0 vs)) (sym (table_same us vs h)) (from_alike (table_of us) 0 us vs h),
  )

  linked_alike : (common : Bool) (us vs : List (List Linkable)) → AlikeUnits P us vs → AlikeLinked P (linked common us) (linked common vs)
  linked_alike common us vs h =
      subst (λ (t : List Symbol). AlikeLinked P (linked common us) (map (meaning_in common (rows_in vs)) t)) (sym (table_same us vs h)) (table_alike common (rows_in us) (rows_in vs) (table_of us) (all_rows us vs h))

  -- what a pointer to a function or object means

  like_option : (m n : Option Meaning) → AlikeOption P m n → Computes Past (LikeMeaning P) m n
  like_option None n h = tt
  like_option (Some m) None h = absurd h
  like_option (Some (Object r bs)) (Some (Object q cs)) h = (Object q cs, tt, refl)
  like_option (Some (Object r bs)) (Some (Code g)) h = absurd h
  like_option (Some (Object r bs)) (Some (Host b)) h = absurd h
  like_option (Some (Code f)) (Some (Object q cs)) h = absurd h
  like_option (Some (Code f)) (Some (Code g)) h = (Code g, h, refl)
  like_option (Some (Code f)) (Some (Host b)) h = absurd h
  like_option (Some (Host a)) (Some (Object q cs)) h = absurd h
  like_option (Some (Host a)) (Some (Code g)) h = absurd h
  like_option (Some (Host a)) (Some (Host b)) h = (Host b, h, refl)

  at_place : (ms ns : Linked) (e : ℕ) → AlikeLinked P ms ns → Computes Past (LikeMeaning P) (slice_get ms e >>= λ m. m) (slice_get ns e >>= λ m. m)
  at_place [] ns e h = tt
  at_place (m ∷ ms) [] e h = absurd h
  at_place (m ∷ ms) (n ∷ ns) zero h = like_option m n h.0
  at_place (m ∷ ms) (n ∷ ns) (suc e) h = at_place ms ns e h.1

  meant_alike : (ms ns : Linked) (v w : Value) → AlikeLinked P ms ns → BelowValue itself v w → Computes Past (LikeMeaning P) (meant ms v) (meant ns w)
  meant_alike ms ns (Int k) w h r = tt
  meant_alike ms ns Unknown w h r = tt
  meant_alike ms ns (Part p k) w h r = tt
  meant_alike ms ns (Ptr p) w h r = subst (λ (x : Value). Computes Past (LikeMeaning P) (meant ms (Ptr p)) (meant ns x)) (sym r) (by (entity_at (Ptr p)))
    where
      by : (o : Option ℕ) → Computes Past (LikeMeaning P) (o >>= λ e. slice_get ms e >>= λ m. m) (o >>= λ e. slice_get ns e >>= λ m. m)
      by None = tt
      by (Some e) = at_place ms ns e h

  -- memory at the start

  entity_alike : (m n : Option Meaning) → AlikeOption P m n → Lift (BelowHeld itself) (entity_held m) (entity_held n)
  entity_alike None n h = tt
  entity_alike (Some m) None h = absurd h
  entity_alike (Some (Object r bs)) (Some (Object q cs)) h = record { function = refl; writable = h.0; bytes = h.1 }
  entity_alike (Some (Object r bs)) (Some (Code g)) h = absurd h
  entity_alike (Some (Object r bs)) (Some (Host b)) h = absurd h
  entity_alike (Some (Code f)) (Some (Object q cs)) h = absurd h
  entity_alike (Some (Code f)) (Some (Code g)) h = held_itself (entity_held (Some (Code f)))
  entity_alike (Some (Code f)) (Some (Host b)) h = absurd h
  entity_alike (Some (Host a)) (Some (Object q cs)) h = absurd h
  entity_alike (Some (Host a)) (Some (Code g)) h = absurd h
  entity_alike (Some (Host a)) (Some (Host b)) h = held_itself (entity_held (Some (Host a)))

  slot_alike : (ms ns : Linked) (e : ℕ) → AlikeLinked P ms ns → Lift (BelowHeld itself) (slot (map entity_held ms) e) (slot (map entity_held ns) e)
  slot_alike [] ns e h = tt
  slot_alike (m ∷ ms) [] e h = absurd h
  slot_alike (m ∷ ms) (n ∷ ns) zero h = entity_alike m n h.0
  slot_alike (m ∷ ms) (n ∷ ns) (suc e) h = slot_alike ms ns e h.1

  memory_alike : (ms ns : Linked) (abi : Abi) (words : List (List ℕ)) → AlikeLinked P ms ns → BelowMemory itself (memory_of (map entity_held ms) (words_held abi words)) (memory_of (map entity_held ns) (words_held abi words))
  memory_alike ms ns abi words h (Entity e) = slot_alike ms ns e.0 h
  memory_alike ms ns abi words h (Argument i) = held_itself (slot (words_held abi words) i)
  memory_alike ms ns abi words h (Local act i) = tt
  memory_alike ms ns abi words h (Literal i) = tt
  memory_alike ms ns abi words h (Heap i) = tt

  pub starts_alike : (common : Bool) (us vs : List (List Linkable)) → AlikeUnits P us vs → StartAlike P common us vs
  starts_alike common us vs h = record {
    linked = linked_alike common us vs h;
    main = ap (λ t. place_in t (External (codes "main"))) (table_same us vs h);
    named = λ v w r. meant_alike (linked common us) (linked common vs) v w (linked_alike common us vs h) r;
    memory = λ abi words input n. memory_alike (linked common us) (linked common vs) abi words (linked_alike common us vs h);
  }
