-- Definition: linking (C11 6.2.2p2, 5.1.1.2p1 phase 8): an external name denotes one entity in all units of a run, an internal one an entity of its unit alone. What is linked are meanings, so that units of any language link.
use Rattle.std.specs.Prelude.{ℕ, suc, ◌-◌, ◌≤◌, max, Bool, true, false, not, ◌&&◌, ◌||◌, if◌then◌else◌, nat_eq, List, [], ◌∷◌, ◌++◌, length, map, replicate, codes, Option, Some, None, is_some}
use Rattle.std.specs.List.{list_any}
use Rattle.std.specs.Str.{bytes_eq}
use Rattle.byte_mem.specs.declared.values.Byte.TheVariants.{Known}
use Rattle.byte_mem.specs.Steps.{◌>>=◌, only_if}
use Rattle.host_calls.specs.declared.names.HostName.{HostName}
use Rattle.host_calls.specs.declared.names.HostName.TheVariants.{Getchar, Putchar, Exit, Abort, Malloc, Free, Memset}
use Rattle.host_calls.specs.Host.{text_of}
use Rattle.execution.specs.Calls.{Meaning, Object, Code, Host, Linked}

-- an object or function of a unit, for linking: its linkage, its name, whether it is a function, whether tentative definitions alone define it in its unit (C11 6.9.2p2),
-- and what its definition means, once it is known which entities the unit's own numbers are; none where the unit only declares it
pub record Linkable : Type 0 where
  pub internal : Bool
  pub name : List ℕ
  pub function : Bool
  pub tentative : Bool
  pub means : List ℕ → Option Meaning

-- what names one entity over all units: an external name, or the rank among all internal ones
pub data Symbol : Type 0 where
  External : (name : List ℕ) → Symbol
  Internal : (rank : ℕ) → Symbol

abbrev pub same_symbol : Symbol → Symbol → Bool
same_symbol (External a) (External b) = bytes_eq a b
same_symbol (Internal i) (Internal j) = nat_eq i j
same_symbol _ _ = false

-- the symbol where so many internal ones stand before
abbrev pub symbol_of : Bool → List ℕ → ℕ → Symbol
symbol_of true name rank = Internal rank
symbol_of false name rank = External name

abbrev pub rank_after : Bool → ℕ → ℕ
rank_after true rank = suc rank
rank_after false rank = rank

-- a unit's symbols in order
abbrev pub symbols_of : ℕ → List Linkable → List Symbol
symbols_of rank [] = []
symbols_of rank (x ∷ xs) = symbol_of x.internal x.name rank ∷ symbols_of (rank_after x.internal rank) xs

abbrev pub rank_behind : ℕ → List Linkable → ℕ
rank_behind rank [] = rank
rank_behind rank (x ∷ xs) = rank_behind (rank_after x.internal rank) xs

-- those of all units
abbrev pub all_symbols : ℕ → List (List Linkable) → List Symbol
all_symbols rank [] = []
all_symbols rank (u ∷ us) = symbols_of rank u ++ all_symbols (rank_behind rank u) us

-- whether a symbol has a number; an internal one is met once
abbrev pub is_known : List Symbol → Symbol → Bool
is_known table (External name) = list_any (same_symbol (External name)) table
is_known table (Internal rank) = false

-- a symbol that is new gets the next number
abbrev pub numbered : List Symbol → Symbol → List Symbol
numbered table x = if is_known table x then table else table ++ x ∷ []

abbrev pub numbered_all : List Symbol → List Symbol → List Symbol
numbered_all table [] = table
numbered_all table (x ∷ xs) = numbered_all (numbered table x) xs

-- the function of the host that every unit may use without declaring it (own)
abbrev pub memset_symbol : Symbol
memset_symbol = External (text_of Memset)

-- the entities of a run, in the order in which they appear; an entity's number is its place
abbrev pub table_of : List (List Linkable) → List Symbol
table_of units = numbered_all (memset_symbol ∷ []) (all_symbols 0 units)

abbrev pub place_in : List Symbol → Symbol → ℕ
place_in [] x = 0
place_in (y ∷ table) x = if same_symbol x y then 0 else suc (place_in table x)

-- a unit's numbers followed to the run's
abbrev pub entities_of : List Symbol → ℕ → List Linkable → List ℕ
entities_of table rank u = map (place_in table) (symbols_of rank u)

-- what a unit says of a symbol
pub record Row : Type 0 where
  pub symbol : Symbol
  pub function : Bool
  pub tentative : Bool
  pub meaning : Option Meaning

abbrev pub rows_of : List ℕ → ℕ → List Linkable → List Row
rows_of entities rank [] = []
rows_of entities rank (x ∷ xs) = record { symbol = symbol_of x.internal x.name rank; function = x.function; tentative = x.tentative; meaning = x.means entities } ∷ rows_of entities (rank_after x.internal rank) xs

abbrev pub rows_from : List Symbol → ℕ → List (List Linkable) → List Row
rows_from table rank [] = []
rows_from table rank (u ∷ us) = rows_of (entities_of table rank u) rank u ++ rows_from table (rank_behind rank u) us

abbrev pub memset_row : Row
memset_row = record { symbol = memset_symbol; function = true; tentative = false; meaning = None }

abbrev pub rows_in : List (List Linkable) → List Row
rows_in units = memset_row ∷ rows_from (table_of units) 0 units

abbrev pub first_of : {A : Type 0} → Option A → Option A → Option A
first_of (Some a) b = Some a
first_of None b = b

-- what a row says of a symbol's definition
abbrev pub said : Symbol → Row → Option Meaning
said x r = only_if (same_symbol x r.symbol) r.meaning >>= λ m. m

-- the first definition of a symbol (C11 6.9p5: there is at most one)
abbrev pub defined : List Row → Symbol → Option Meaning
defined [] x = None
defined (r ∷ rows) x = first_of (said x r) (defined rows x)

-- the first one that is not by tentative definitions alone
abbrev pub firmly_said : Symbol → Row → Option Meaning
firmly_said x r = only_if (same_symbol x r.symbol && not r.tentative) r.meaning >>= λ m. m

abbrev pub firmly_defined : List Row → Symbol → Option Meaning
firmly_defined [] x = None
firmly_defined (r ∷ rows) x = first_of (firmly_said x r) (firmly_defined rows x)

-- the size of an object that is defined
abbrev pub object_size : Option Meaning → ℕ
object_size None = 0
object_size (Some (Object read_only bytes)) = length bytes
object_size (Some (Code f)) = 0
object_size (Some (Host name)) = 0

-- the greatest size with which a symbol is defined
abbrev pub greatest_size : List Row → Symbol → ℕ
greatest_size [] x = 0
greatest_size (r ∷ rows) x = max (object_size (said x r)) (greatest_size rows x)

-- an object of that size at least, with zero bytes behind its own
abbrev pub grown : ℕ → Option Meaning → Option Meaning
grown size None = None
grown size (Some (Object read_only bytes)) = Some (Object read_only (bytes ++ replicate (size - length bytes) (Known 0)))
grown size (Some (Code f)) = Some (Code f)
grown size (Some (Host name)) = Some (Host name)

-- whether what is defined is read-only
abbrev pub is_read_only : Option Meaning → Bool
is_read_only None = false
is_read_only (Some (Object read_only bytes)) = read_only
is_read_only (Some (Code f)) = false
is_read_only (Some (Host name)) = false

-- whether any definition of a symbol is of an object with a const type (C11 6.7.3p6)
abbrev pub any_read_only : List Row → Symbol → Bool
any_read_only [] x = false
any_read_only (r ∷ rows) x = is_read_only (said x r) || any_read_only rows x

abbrev pub with_read_only : Bool → Option Meaning → Option Meaning
with_read_only read_only None = None
with_read_only read_only (Some (Object one bytes)) = Some (Object read_only bytes)
with_read_only read_only (Some (Code f)) = Some (Code f)
with_read_only read_only (Some (Host name)) = Some (Host name)

-- definitions of one name in several units as one definition (C11 J.5.11, 6.9.2p2): the one that is not by tentative definitions alone, if there is one; of tentative definitions alone the object is read-only where any of them is (own), so that no order of the units counts; an object has the greatest of all their sizes
abbrev pub shared : List Row → Symbol → Option Meaning
shared rows x = grown (greatest_size rows x) (first_of (firmly_defined rows x) (with_read_only (any_read_only rows x) (defined rows x)))

-- the definition of a symbol, as tentative definitions of several units are common or not
abbrev pub defined_in : Bool → List Row → Symbol → Option Meaning
defined_in true rows x = shared rows x
defined_in false rows x = defined rows x

-- whether a declaration of a symbol is that of a function, in whichever unit (C11 6.2.7p2: so are all of them)
abbrev pub declared_function : List Row → Symbol → Bool
declared_function [] x = false
declared_function (r ∷ rows) x = (same_symbol x r.symbol && r.function) || declared_function rows x

abbrev pub host_names : List HostName
host_names = Getchar ∷ Putchar ∷ Exit ∷ Abort ∷ Malloc ∷ Free ∷ Memset ∷ []

abbrev pub named_among : List HostName → List ℕ → Option HostName
named_among [] name = None
named_among (h ∷ names) name = first_of (only_if (bytes_eq name (text_of h)) h) (named_among names name)

abbrev pub host_meaning : Symbol → Option Meaning
host_meaning (External name) = named_among host_names name >>= λ h. Some (Host h)
host_meaning (Internal rank) = None

-- a unit's definition counts before the host's function of that name (own)
abbrev pub meaning_in : Bool → List Row → Symbol → Option Meaning
meaning_in common rows x = first_of (defined_in common rows x) (only_if (declared_function rows x) x >>= host_meaning)

-- what each entity of the run means, as tentative definitions of several units are common or not
abbrev pub linked : Bool → List (List Linkable) → Linked
linked common units = map (meaning_in common (rows_in units)) (table_of units)

-- how many definitions a symbol has
abbrev pub definitions : List Row → Symbol → ℕ
definitions [] x = 0
definitions (r ∷ rows) x = if is_some (said x r) then suc (definitions rows x) else definitions rows x

-- no more than one, as C11 6.9p5 asks
abbrev pub AreDefinedOnce : List (List Linkable) → Type 0
AreDefinedOnce units = (x : Symbol) → definitions (rows_in units) x ≤ 1

-- C11 5.1.2.2.1p1: the function that is called at program startup is named main, and it has external linkage
abbrev pub main_entity : List (List Linkable) → ℕ
main_entity units = place_in (table_of units) (External (codes "main"))
