-- Device: units are read one by one.
use Rattle.std.proofs.Common.{◌≡◌, ◌≢◌, ℕ, ◌+◌, nat_lt, Bool, true, false, List, [], ◌∷◌, ◌++◌, length, Option, Some, None, IfSome, refl, sym, ap, ◌∙◌, subst, append_assoc, append-nil, length-append, if◌then◌else◌, Result, Ok, Err, arith}
use Rattle.std.proofs.lemmas.Bool.{lt-ltb, ltb-true, ltb-false}
use Rattle.std.proofs.lemmas.Option.{same_Some}
use Rattle.std.specs.Option.{option_and_then, option_map}
use Rattle.cil_base.specs.declared.faults.What.{What}
use Rattle.cil_base.specs.declared.faults.What.TheVariants.{UnitBytes, TotalBytes}
use Rattle.outside.specs.declared.transfer.ReadStop.{ReadStop}
use Rattle.outside.specs.declared.transfer.ReadStop.TheVariants.{Failed}
use Rattle.outside.specs.Named.{Told, find_file, names_of}
use Rattle.cil_sources.specs.Files.{bytes_under, found_all, all_under, IsFrontOf}
use Rattle.cil_sources.specs.Units.{Kept, kept, kept_by, unit_fault}
use Rattle.cil_sources.specs.Steps.{State, with_unit, unit_by, with_unit_by, resumed, resumed_by}

-- one more unit that was read changes nothing of what is kept of all

abbrev behind : List (List ℕ) → Kept → Kept
behind units k = record { units = units ++ k.units; over = k.over }

added : (w : Option What) (s : State) (bytes : List ℕ) (more : List (List ℕ)) → behind s.units (kept_by w bytes (kept (s.total + length bytes) more)) ≡ resumed (unit_by w s bytes) more
added (Some what) s bytes more = ap (λ us. (let k : Kept = record { units = us; over = Some what } in k)) (append-nil s.units)
added None s bytes more = ap (λ us. (let k : Kept = record { units = us; over = (kept (s.total + length bytes) more).over } in k)) (sym (append_assoc s.units (bytes ∷ []) (kept (s.total + length bytes) more).units))

resumed_with : (o : Option What) (s : State) (bytes : List ℕ) (more : List (List ℕ)) → s.over ≡ o → resumed_by o s (bytes ∷ more) ≡ resumed (with_unit_by o s bytes) more
resumed_with (Some what) s bytes more is = sym (ap (λ o. resumed_by o s more) is)
resumed_with None s bytes more is = added (unit_fault s.total (length bytes)) s bytes more

resumed_next : (s : State) (bytes : List ℕ) (more : List (List ℕ)) → resumed s (bytes ∷ more) ≡ resumed (with_unit s bytes) more
resumed_next s bytes more = resumed_with s.over s bytes more refl

-- a unit of which too much was read is not kept, whatever it is

too_large : (total size : ℕ) → nat_lt 4194304 size ≡ true → unit_fault total size ≡ Some UnitBytes
too_large total size large = ap (λ b. if b then Some UnitBytes else (if nat_lt 16777216 (total + size) then Some TotalBytes else None)) large

same_unit : (o : Option What) (s : State) (bytes file : List ℕ) → IsFrontOf 4194305 bytes file → with_unit_by o s bytes ≡ with_unit_by o s file
same_unit (Some what) s bytes file front = refl
same_unit None s bytes file front = by (nat_lt 4194304 (length bytes)) refl
  where
    by : (b : Bool) → nat_lt 4194304 (length bytes) ≡ b → unit_by (unit_fault s.total (length bytes)) s bytes ≡ unit_by (unit_fault s.total (length file)) s file
    by true long =
        ap (λ w. unit_by w s bytes) (too_large s.total (length bytes) long)
        ∙ sym (ap (λ w. unit_by w s file) (too_large s.total (length file) (lt-ltb 4194304 (length file) (omega (arith, ltb-true 4194304 (length bytes) long, ap length front.parts, length-append bytes front.rest)))))
    by false short = ap (λ b. unit_by (unit_fault s.total (length b)) s b) (sym (front.parts ∙ (ap (λ r. bytes ++ r) (front.end (omega (arith, ltb-false 4194304 (length bytes) short))) ∙ append-nil bytes)))

-- what was read of all the files, and which are left

pub record Reading (told : Option Told) (all rest : List (List ℕ)) (s : State) : Type 0 where
  pub found : (units : List (List ℕ)) → all_under told all ≡ Some units → (more : List (List ℕ)) × (all_under told rest ≡ Some more) × (resumed s more ≡ kept 0 units)
  pub lost : IfSome told (λ t. found_all t.names all ≡ None → found_all t.names rest ≡ None)

pub nothing_read : (told : Option Told) (all : List (List ℕ)) → Reading told all all (record { units = []; over = None; total = 0 })
nothing_read told all = record { found = λ units is. (units, is, refl); lost = itself told }
  where
    itself : (o : Option Told) → IfSome o (λ t. found_all t.names all ≡ None → found_all t.names all ≡ None)
    itself None = tt
    itself (Some t) = λ h. h

-- the bytes of the first of some names, and of the others

first_found : (files : List (List ℕ × List ℕ)) (name : List ℕ) (names units : List (List ℕ)) → found_all files (name ∷ names) ≡ Some units
    → (bytes : List ℕ) × (more : List (List ℕ)) × (find_file name files ≡ Some bytes) × (found_all files names ≡ Some more) × (units ≡ bytes ∷ more)
first_found files name names units is = one (find_file name files) refl is
  where
    two : (bytes : List ℕ) → find_file name files ≡ Some bytes → (o : Option (List (List ℕ))) → found_all files names ≡ o → option_map (λ more. bytes ∷ more) o ≡ Some units
        → (b : List ℕ) × (more : List (List ℕ)) × (find_file name files ≡ Some b) × (found_all files names ≡ Some more) × (units ≡ b ∷ more)
    two bytes at None rest is = cc
    two bytes at (Some more) rest is = (bytes, more, at, rest, cc)

    one : (o : Option (List ℕ)) → find_file name files ≡ o → option_and_then (λ bytes. option_map (λ more. bytes ∷ more) (found_all files names)) o ≡ Some units
        → (b : List ℕ) × (more : List (List ℕ)) × (find_file name files ≡ Some b) × (found_all files names ≡ Some more) × (units ≡ b ∷ more)
    one None at is = cc
    one (Some bytes) at is = two bytes at (found_all files names) refl is

first_under : (told : Option Told) (name : List ℕ) (names units : List (List ℕ)) → all_under told (name ∷ names) ≡ Some units
    → (bytes : List ℕ) × (more : List (List ℕ)) × (bytes_under told name ≡ Some bytes) × (all_under told names ≡ Some more) × (units ≡ bytes ∷ more)
first_under None name names units is = cc
first_under (Some t) name names units is = first_found t.names name names units is

-- what is under a name depends on the names alone
same_under : (one two : Option Told) (name : List ℕ) → names_of one ≡ names_of two → bytes_under one name ≡ bytes_under two name
same_under None None name same = refl
same_under None (Some u) name same = cc
same_under (Some t) None name same = cc
same_under (Some t) (Some u) name same = ap (λ o. option_and_then (find_file name) o) same

said : {A : Type 0} (o : Option A) (P : A → Type 0) (a : A) → IfSome o P → o ≡ Some a → P a
said None P a says is = cc
said (Some b) P a says is = subst (λ u. IfSome u P) is says

-- a name that is not there is not among those that are
still_lost : (told now : Option Told) (name : List ℕ) (names all : List (List ℕ)) → names_of now ≡ names_of told → IfSome now (λ t. find_file name t.names ≢ None)
    → IfSome told (λ t. found_all t.names all ≡ None → found_all t.names (name ∷ names) ≡ None) → IfSome told (λ t. found_all t.names all ≡ None → found_all t.names names ≡ None)
still_lost None now name names all same there lost = tt
still_lost (Some t) None name names all same there lost = cc
still_lost (Some t) (Some u) name names all same there lost = λ none. by (find_file name t.names) refl (lost none)
  where
    files : u.names ≡ t.names
    files = same_Some u.names t.names same

    rest : (bytes : List ℕ) (o : Option (List (List ℕ))) → option_map (λ more. bytes ∷ more) o ≡ None → o ≡ None
    rest bytes None is = refl
    rest bytes (Some more) is = cc

    by : (o : Option (List ℕ)) → find_file name t.names ≡ o → option_and_then (λ bytes. option_map (λ more. bytes ∷ more) (found_all t.names names)) o ≡ None → found_all t.names names ≡ None
    by None at is = absurd (there (ap (find_file name) files ∙ at))
    by (Some bytes) at is = rest bytes (found_all t.names names) is

-- one file more is read
pub reading_next : (told now : Option Told) (all names : List (List ℕ)) (name unit : List ℕ) (s u : State) → names_of now ≡ names_of told → Reading told all (name ∷ names) s
    → IfSome (bytes_under now name) (IsFrontOf 4194305 unit) → IfSome now (λ t. find_file name t.names ≢ None) → u ≡ with_unit s unit → Reading told all names u
reading_next told now all names name unit s u same reading front there is = record {
  found = λ units asked.
      let before = reading.found units asked in
      let first = first_under told name names before.0 before.1 in
      let of_file = said (bytes_under now name) (IsFrontOf 4194305 unit) first.0 front (same_under now told name same ∙ first.2) in (
        first.1,
        first.3,
        ap (λ v. resumed v first.1) (is ∙ same_unit s.over s unit first.0 of_file)
            ∙ (sym (resumed_next s first.0 first.1) ∙ (ap (resumed s) (sym first.4) ∙ before.2)),
      );
  lost = still_lost told now name names all same there reading.lost;
}

-- strays are as before where every name is there
pub strays_next : (told now : Option Told) (all names : List (List ℕ)) (name : List ℕ) (s : State) (before between after : ℕ) → names_of now ≡ names_of told → Reading told all (name ∷ names) s
    → IfSome (all_under told all) (λ _. between ≡ before) → IfSome (bytes_under now name) (λ _. after ≡ between) → IfSome (all_under told all) (λ _. after ≡ before)
strays_next told now all names name s before between after same reading first stays = by (all_under told all) refl first
  where
    by : (o : Option (List (List ℕ))) → all_under told all ≡ o → IfSome o (λ _. between ≡ before) → IfSome o (λ _. after ≡ before)
    by None asked first = tt
    by (Some units) asked first =
        let found = reading.found units asked in
        let one = first_under told name names found.0 found.1 in
        said (bytes_under now name) (λ _. after ≡ between) one.0 stays (same_under now told name same ∙ one.2) ∙ first

-- a file that was read is there
pub was_there : {A : Type 0} (o : Option Told) (name : List ℕ) (result : Result A ReadStop) (value : A) → IfSome o (λ t. find_file name t.names ≡ None → result ≡ Err Failed) → result ≡ Ok value → IfSome o (λ t. find_file name t.names ≢ None)
was_there None name result value missing is = tt
was_there {A} (Some t) name result value missing is = λ none. (let clash : (let r : Result A ReadStop = Ok value in r) ≡ Err Failed = sym is ∙ missing none in cc)
