-- Device: where each name has at most one definition, it does not count whether tentative definitions are common.
use Rattle.std.proofs.Common.{◌≡◌, ℕ, suc, ◌-◌, ◌≤◌, Bool, true, false, not, ◌&&◌, ◌||◌, List, [], ◌∷◌, ◌++◌, length, map, Option, Some, None, refl, ap, ap₂, ◌∙◌, arith, append-nil}
use Rattle.std.specs.Prelude.{max, replicate, is_some, if◌then◌else◌}
use Rattle.byte_mem.specs.declared.values.Byte.{Byte}
use Rattle.byte_mem.specs.declared.values.Byte.TheVariants.{Known}
use Rattle.byte_mem.specs.Steps.{◌>>=◌, only_if}
use Rattle.execution.specs.Calls.{Meaning, Object, Code, Host}
use Rattle.execution.specs.Linking.{Linkable, Symbol, same_symbol, table_of, Row, rows_in, first_of, defined, firmly_defined, object_size, greatest_size, grown, is_read_only, any_read_only, with_read_only, shared, defined_in, declared_function, host_meaning, meaning_in, linked, definitions, AreDefinedOnce}

-- an object of its own size
own_size : (m : Meaning) → grown (max (object_size (Some m)) 0) (Some m) ≡ Some m
own_size (Object read_only bytes) = ap (λ n. Some (Object read_only (bytes ++ replicate n (Known 0)))) none ∙ ap (λ (bs : List Byte). Some (Object read_only bs)) (append-nil bytes)
  where
    none : max (length bytes) 0 - length bytes ≡ 0
    none = omega arith
own_size (Code f) = refl
own_size (Host name) = refl

no_less : (n : ℕ) → max 0 n ≡ n
no_less n = omega arith

-- an object that is read-only as it is
own_read_only : (m : Meaning) → with_read_only (is_read_only (Some m) || false) (Some m) ≡ Some m
own_read_only (Object true bytes) = refl
own_read_only (Object false bytes) = refl
own_read_only (Code f) = refl
own_read_only (Host name) = refl

-- nothing is there of a symbol that has no definition
abbrev IsMissing : Option Meaning → Option Meaning → ℕ → Bool → Type 0
IsMissing first firm size read_only = (first ≡ None) × (firm ≡ None) × (size ≡ 0) × (read_only ≡ false)

missing : (rows : List Row) (x : Symbol) → definitions rows x ≡ 0 → IsMissing (defined rows x) (firmly_defined rows x) (greatest_size rows x) (any_read_only rows x)
missing [] x e = (refl, refl, refl, refl)
missing (r ∷ rows) x e = by (same_symbol x r.symbol) r.tentative r.meaning e (missing rows x)
  where
    other : (definitions rows x ≡ 0 → IsMissing (defined rows x) (firmly_defined rows x) (greatest_size rows x) (any_read_only rows x)) → definitions rows x ≡ 0
        → IsMissing (defined rows x) (firmly_defined rows x) (max 0 (greatest_size rows x)) (any_read_only rows x)
    other rest e = let h = rest e in (h.0, h.1, no_less (greatest_size rows x) ∙ h.2, h.3)

    by : (b t : Bool) (m : Option Meaning) → (if is_some (only_if b m >>= λ m. m) then suc (definitions rows x) else definitions rows x) ≡ 0
        → (definitions rows x ≡ 0 → IsMissing (defined rows x) (firmly_defined rows x) (greatest_size rows x) (any_read_only rows x))
        → IsMissing (first_of (only_if b m >>= λ m. m) (defined rows x)) (first_of (only_if (b && not t) m >>= λ m. m) (firmly_defined rows x)) (max (object_size (only_if b m >>= λ m. m)) (greatest_size rows x)) (is_read_only (only_if b m >>= λ m. m) || any_read_only rows x)
    by false t m e rest = other rest e
    by true true None e rest = other rest e
    by true false None e rest = other rest e
    by true t (Some m) e rest = absurd (omega (arith, e))

-- what a symbol is by a row and those behind it
abbrev joined : List Row → Symbol → ℕ → Bool → Option Meaning → Option Meaning → Option Meaning
joined rows x size read_only firm first =
    grown (max size (greatest_size rows x)) (first_of (first_of firm (firmly_defined rows x)) (with_read_only (read_only || any_read_only rows x) (first_of first (defined rows x))))

-- the only definition is what all of them are
once : (rows : List Row) (x : Symbol) → definitions rows x ≤ 1 → shared rows x ≡ defined rows x
once [] x h = refl
once (r ∷ rows) x h = by (same_symbol x r.symbol) r.tentative r.meaning h (once rows x) (missing rows x)
  where
    other : (definitions rows x ≤ 1 → shared rows x ≡ defined rows x) → definitions rows x ≤ 1 → joined rows x 0 false None None ≡ defined rows x
    other rest h = ap (λ n. grown n (first_of (firmly_defined rows x) (with_read_only (any_read_only rows x) (defined rows x)))) (no_less (greatest_size rows x)) ∙ rest h

    by : (b t : Bool) (m : Option Meaning) → (if is_some (only_if b m >>= λ m. m) then suc (definitions rows x) else definitions rows x) ≤ 1 → (definitions rows x ≤ 1 → shared rows x ≡ defined rows x)
        → (definitions rows x ≡ 0 → IsMissing (defined rows x) (firmly_defined rows x) (greatest_size rows x) (any_read_only rows x))
        → joined rows x (object_size (only_if b m >>= λ m. m)) (is_read_only (only_if b m >>= λ m. m)) (only_if (b && not t) m >>= λ m. m) (only_if b m >>= λ m. m) ≡ first_of (only_if b m >>= λ m. m) (defined rows x)
    by false t m h rest none = other rest h
    by true true None h rest none = other rest h
    by true false None h rest none = other rest h
    by true true (Some m) h rest none =
        let no = none (omega (arith, h)) in
        ap₂ (λ (n : ℕ) (firm : Option Meaning). grown (max (object_size (Some m)) n) (first_of firm (with_read_only (is_read_only (Some m) || any_read_only rows x) (Some m)))) no.2 no.1
        ∙ (ap (λ b. grown (max (object_size (Some m)) 0) (with_read_only (is_read_only (Some m) || b) (Some m))) no.3
        ∙ (ap (grown (max (object_size (Some m)) 0)) (own_read_only m) ∙ own_size m))
    by true false (Some m) h rest none =
        let no = none (omega (arith, h)) in
        ap (λ n. grown (max (object_size (Some m)) n) (Some m)) no.2 ∙ own_size m

chosen : (common : Bool) (rows : List Row) (x : Symbol) → definitions rows x ≤ 1 → defined_in common rows x ≡ defined rows x
chosen true rows x h = once rows x h
chosen false rows x h = refl

meant_once : (common : Bool) (rows : List Row) (table : List Symbol) → ((x : Symbol) → definitions rows x ≤ 1) → map (meaning_in common rows) table ≡ map (meaning_in false rows) table
meant_once common rows [] h = refl
meant_once common rows (x ∷ table) h =
    ap₂ (λ (m : Option Meaning) (ms : List (Option Meaning)). first_of m (only_if (declared_function rows x) x >>= host_meaning) ∷ ms) (chosen common rows x (h x)) (meant_once common rows table h)

pub linked_once : (common : Bool) (us : List (List Linkable)) → AreDefinedOnce us → linked common us ≡ linked false us
linked_once common us h = meant_once common (rows_in us) (table_of us) h
