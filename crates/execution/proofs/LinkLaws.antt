-- Device: what is linked from tame units is tame.
use Rattle.std.proofs.Common.{ℕ, Bool, true, false, not, ◌&&◌, List, [], ◌∷◌, ◌++◌, map, Option, Some, None}
use Rattle.byte_mem.specs.Steps.{◌>>=◌, only_if}
use Rattle.host_calls.specs.declared.names.HostName.{HostName}
use Rattle.execution.specs.Calls.{Meaning, Object, Code, Host}
use Rattle.execution.specs.Linking.{Linkable, Symbol, External, Internal, same_symbol, rank_after, rank_behind, table_of, entities_of, Row, rows_of, rows_from, rows_in, first_of, said, defined, firmly_said, firmly_defined, greatest_size, grown, any_read_only, with_read_only, defined_in, declared_function, named_among, host_names, host_meaning, meaning_in, linked}
use Rattle.execution.specs.Bounds.{IsTame, AllTame, TameUnit, TameUnits}

abbrev TameRows : List Row → Type 0
TameRows [] = Unit {0}
TameRows (r ∷ rows) = IsTame r.meaning × TameRows rows

rows_tame : (entities : List ℕ) (rank : ℕ) (u : List Linkable) → TameUnit u → TameRows (rows_of entities rank u)
rows_tame entities rank [] h = tt
rows_tame entities rank (x ∷ xs) h = (h.0 entities, rows_tame entities (rank_after x.internal rank) xs h.1)

rows_joined : (rs qs : List Row) → TameRows rs → TameRows qs → TameRows (rs ++ qs)
rows_joined [] qs h k = k
rows_joined (r ∷ rs) qs h k = (h.0, rows_joined rs qs h.1 k)

all_rows_tame : (table : List Symbol) (rank : ℕ) (us : List (List Linkable)) → TameUnits us → TameRows (rows_from table rank us)
all_rows_tame table rank [] h = tt
all_rows_tame table rank (u ∷ us) h =
    rows_joined (rows_of (entities_of table rank u) rank u) (rows_from table (rank_behind rank u) us) (rows_tame (entities_of table rank u) rank u h.0) (all_rows_tame table (rank_behind rank u) us h.1)

first_tame : (m n : Option Meaning) → IsTame m → IsTame n → IsTame (first_of m n)
first_tame None n h k = k
first_tame (Some m) n h k = h

only_tame : (b : Bool) (m : Option Meaning) → IsTame m → IsTame (only_if b m >>= λ m. m)
only_tame true m h = h
only_tame false m h = tt

defined_tame : (rows : List Row) (x : Symbol) → TameRows rows → IsTame (defined rows x)
defined_tame [] x h = tt
defined_tame (r ∷ rows) x h = first_tame (said x r) (defined rows x) (only_tame (same_symbol x r.symbol) r.meaning h.0) (defined_tame rows x h.1)

firmly_tame : (rows : List Row) (x : Symbol) → TameRows rows → IsTame (firmly_defined rows x)
firmly_tame [] x h = tt
firmly_tame (r ∷ rows) x h = first_tame (firmly_said x r) (firmly_defined rows x) (only_tame (same_symbol x r.symbol && not r.tentative) r.meaning h.0) (firmly_tame rows x h.1)

grown_tame : (size : ℕ) (m : Option Meaning) → IsTame m → IsTame (grown size m)
grown_tame size None h = tt
grown_tame size (Some (Object read_only bytes)) h = tt
grown_tame size (Some (Code f)) h = h
grown_tame size (Some (Host name)) h = tt

as_read_only_tame : (b : Bool) (m : Option Meaning) → IsTame m → IsTame (with_read_only b m)
as_read_only_tame b None h = tt
as_read_only_tame b (Some (Object read_only bytes)) h = tt
as_read_only_tame b (Some (Code f)) h = h
as_read_only_tame b (Some (Host name)) h = tt

chosen_tame : (common : Bool) (rows : List Row) (x : Symbol) → TameRows rows → IsTame (defined_in common rows x)
chosen_tame true rows x h =
    grown_tame (greatest_size rows x) (first_of (firmly_defined rows x) (with_read_only (any_read_only rows x) (defined rows x)))
    (first_tame (firmly_defined rows x) (with_read_only (any_read_only rows x) (defined rows x)) (firmly_tame rows x h) (as_read_only_tame (any_read_only rows x) (defined rows x) (defined_tame rows x h)))
chosen_tame false rows x h = defined_tame rows x h

named_tame : (o : Option HostName) → IsTame (o >>= λ h. Some (Host h))
named_tame None = tt
named_tame (Some h) = tt

host_tame : (x : Symbol) → IsTame (host_meaning x)
host_tame (External name) = named_tame (named_among host_names name)
host_tame (Internal rank) = tt

offered_tame : (b : Bool) (x : Symbol) → IsTame (only_if b x >>= host_meaning)
offered_tame true x = host_tame x
offered_tame false x = tt

meanings_tame : (common : Bool) (rows : List Row) (table : List Symbol) → TameRows rows → AllTame (map (meaning_in common rows) table)
meanings_tame common rows [] h = tt
meanings_tame common rows (x ∷ table) h = (
  first_tame (defined_in common rows x) (only_if (declared_function rows x) x >>= host_meaning) (chosen_tame common rows x h) (offered_tame (declared_function rows x) x),
  meanings_tame common rows table h,
)

pub linked_tame : (common : Bool) (us : List (List Linkable)) → TameUnits us → AllTame (linked common us)
linked_tame common us h = meanings_tame common (rows_in us) (table_of us) (tt, all_rows_tame (table_of us) 0 us h)
