-- Device: the links of units are looked at behind all units, and before a text is printed.
use Rattle.std.proofs.Common.{◌≡◌, ◌≢◌, ℕ, zero, suc, ◌+◌, Bool, List, [], ◌∷◌, ◌++◌, length, Option, Some, None, Result, Ok, Err, slice_get, ◌⊎◌, inl, inr, refl, ap, sym, subst, ◌∙◌}
use Rattle.std.proofs.lemmas.Option.{same_Some}
use Rattle.std.proofs.lemmas.List.{length-append}
use Rattle.cil_base.specs.declared.faults.Fault.{Fault}
use Rattle.cil_base.specs.declared.faults.Fault.TheVariants.{Lexical, Excluded, Syntax, Constraint, Limit, Duplicate, Incompatible}
use Rattle.cil_base.specs.declared.numbers.NameId.{NameId}
use Rattle.cil_base.specs.declared.faults.What.{What}
use Rattle.cil_base.specs.declared.faults.What.TheVariants.{UnitBytes, TotalBytes, NameBytes, ObjectSize, Locals, Scalars, PrintedBytes}
use Rattle.cil_base.specs.declared.faults.Place.{Place}
use Rattle.cil_base.specs.declared.faults.Refusal.{Refusal}
use Rattle.cil_base.specs.declared.faults.Stop.{Stop}
use Rattle.cil_base.specs.declared.faults.Stop.TheVariants as stops
use Rattle.type_graph.specs.Arena.{Graph}
use Rattle.c_lexer.specs.Lexed.{IfRefused}
use Rattle.link_names.specs.declared.units.Fronted.{Fronted}
use Rattle.link_names.specs.Linking.{Linked, first_twice}
use Rattle.cil_base.specs.NamePool.{Stays}
use Rattle.cil_base.proofs.PoolLemmas.{stays_then}
use Rattle.unit_front.specs.Refusals.{IsFrontFault}
use Rattle.cil_merge.specs.Merging.{graphs_of, Correspond, IsRefusal}
use Rattle.merge_refusals.specs.Refusals.{IfRefusal, IsLateFault, PrintedIfLong}
use Rattle.unit_merger.specs.Units.{over_limit, AreMerged, IsRefusedAmong, Behind}
use Rattle.unit_merger.specs.Linking.{IsFrontedAt, AreFronted, names_in, AreNamedAmong, AreLinked, AreLong, IsUnlinked, LinkSays, LateSays, SaysOfLinks, SaysFirst}
use Rattle.unit_merger.proofs.InOrder.{stopped}
use Rattle.unit_merger.proofs.Named.{are_named, are_placed}

pub none_fronted : (units files pool : List (List ℕ)) (fs : List Fronted) → fs ≡ [] → AreFronted units files pool 0 fs
none_fronted units files pool fs none = record { so_many = ap length none; each = λ i f there. by i f (sym (ap (λ (gs : List Fronted). slice_get gs i) none) ∙ there) }
  where
    by : (i : ℕ) (f : Fronted) → slice_get [] i ≡ Some f → IsFrontedAt units files pool i f
    by zero f there = cc
    by (suc i) f there = cc

there_or_last : (fs : List Fronted) (last f : Fronted) (i : ℕ) → slice_get (fs ++ last ∷ []) i ≡ Some f → (slice_get fs i ≡ Some f) ⊎ ((length fs ≡ i) × (last ≡ f))
there_or_last [] last f zero is = inr (refl, same_Some last f is)
there_or_last [] last f (suc i) is = cc
there_or_last (first ∷ fs) last f zero is = inl is
there_or_last (first ∷ fs) last f (suc i) is = by (there_or_last fs last f i is)
  where
    by : (slice_get fs i ≡ Some f) ⊎ ((length fs ≡ i) × (last ≡ f)) → (slice_get fs i ≡ Some f) ⊎ ((suc (length fs) ≡ suc i) × (last ≡ f))
    by (inl there) = inl there
    by (inr end) = inr (ap suc end.0, end.1)

fronted_later : (units files p q : List (List ℕ)) (i : ℕ) (f : Fronted) → Stays p q → IsFrontedAt units files p i f → IsFrontedAt units files q i f
fronted_later units files p q i f stays at = record {
  source = at.source;
  number = at.number;
  stands = at.stands;
  externals = at.externals;
  declared = record { tokens = at.declared.tokens; are = at.declared.are; within = at.declared.within; stays = stays_then at.declared.are.names p q at.declared.stays stays; declared = at.declared.declared };
}

pub fronted_next : (units files p q : List (List ℕ)) (fs new : List Fronted) (last : Fronted) (i : ℕ) → AreFronted units files p i fs → Stays p q → IsFrontedAt units files q i last → new ≡ fs ++ last ∷ [] → AreFronted units files q (i + 1) new
fronted_next units files p q fs new last i before stays at put =
    subst (AreFronted units files q (i + 1)) (sym put) (record { so_many = length-append fs (last ∷ []) ∙ ap (λ n. n + 1) before.so_many; each = λ j f there. by j f (there_or_last fs last f j there) })
  where
    by : (j : ℕ) (f : Fronted) → (slice_get fs j ≡ Some f) ⊎ ((length fs ≡ j) × (last ≡ f)) → IsFrontedAt units files q j f
    by j f (inl there) = fronted_later units files p q j f stays (before.each j f there)
    by j f (inr end) = subst (IsFrontedAt units files q j) end.1 (subst (λ k. IsFrontedAt units files q k last) (sym before.so_many ∙ end.0) at)

pub linked : (common : Bool) (units files : List (List ℕ)) (fs : List Fronted) (names pool : List (List ℕ)) → AreFronted units files names (length units) fs → Stays names pool → first_twice common (names_in fs) ≡ None → Correspond names (graphs_of fs) (names_in fs)
    → AreLinked common units files pool
linked common units files fs names pool are stays once correspond = record { fronted = fs; names = names; are = are; stays = stays; once = once; correspond = correspond }

pub linked_later : (common : Bool) (units files p q : List (List ℕ)) → Stays p q → AreLinked common units files p → AreLinked common units files q
linked_later common units files p q stays are = record { fronted = are.fronted; names = are.names; are = are.are; stays = stays_then are.names p q are.stays stays; once = are.once; correspond = are.correspond }

-- the refusal of a merge is one of links

link_fault : (o : Option (Place × Place)) (names : List (List ℕ)) (gs : List Graph) (ls : List Linked) (refusal : Refusal) → IsRefusal o names gs ls refusal → (refusal.fault ≡ Duplicate) ⊎ (refusal.fault ≡ Incompatible)
link_fault (Some places) names gs ls refusal is = inl (ap (λ (r : Refusal). r.fault) is)
link_fault None names gs ls refusal is = inr is.refused.fault_is

says_of_fault : (common : Bool) (units files pool : List (List ℕ)) (refusal : Refusal) → IsUnlinked common units files pool refusal → (refusal.fault ≡ Duplicate) ⊎ (refusal.fault ≡ Incompatible) → LinkSays common units files pool refusal refusal.fault
says_of_fault common units files pool refusal is (inl fault) = subst (LinkSays common units files pool refusal) (sym fault) is
says_of_fault common units files pool refusal is (inr fault) = subst (LinkSays common units files pool refusal) (sym fault) is

pub of_merge : (A : Type 0) (stop : Stop) (common : Bool) (units files : List (List ℕ)) (fs : List Fronted) (names pool : List (List ℕ)) (refusal : Refusal) → AreFronted units files names (length units) fs → Stays names pool
    → IsRefusal (first_twice common (names_in fs)) names (graphs_of fs) (names_in fs) refusal → IfRefusal stop (λ r. r ≡ refusal) → SaysFirst common units files pool (stopped A stop)
of_merge A (stops.Refused r) common units files fs names pool refusal are stays is same =
    let named = are_named common units files names pool (length units) (graphs_of fs) fs refusal are stays is in
    let says = says_of_fault common units files pool refusal (record { fronted = fs; names = names; are = are; stays = stays; refused = is; named = named }) (link_fault (first_twice common (names_in fs)) names (graphs_of fs) (names_in fs) refusal is) in
    subst (λ (k : Refusal). LinkSays common units files pool k k.fault) (sym same) says
of_merge A stops.Memory common units files fs names pool refusal are stays is same = tt

pub merge_cause : (A : Type 0) (stop : Stop) (common : Bool) (over : Option What) (units files : List (List ℕ)) (fs : List Fronted) (names pool : List (List ℕ)) (refusal : Refusal) → AreMerged units over files → AreFronted units files names (length units) fs → Stays names pool
    → IsRefusal (first_twice common (names_in fs)) names (graphs_of fs) (names_in fs) refusal → IfRefusal stop (λ r. r ≡ refusal) → IfRefusal stop (λ r. IsLateFault r.fault) → IfRefused (stopped A stop) (IsRefusedAmong units over files pool)
merge_cause A (stops.Refused r) common over units files fs names pool refusal merged are stays is same late =
    let named = are_named common units files names pool (length units) (graphs_of fs) fs refusal are stays is in
    Behind r merged.none merged.grammatical late (are_placed units files pool r (subst (AreNamedAmong units files pool) (sym same) named))
merge_cause A stops.Memory common over units files fs names pool refusal merged are stays is same late = tt

-- a unit is refused for no link

no_link : (common : Bool) (units files pool : List (List ℕ)) (refusal : Refusal) (fault : Fault) → IsFrontFault fault → LinkSays common units files pool refusal fault
no_link common units files pool refusal Lexical is = tt
no_link common units files pool refusal (Excluded feature) is = tt
no_link common units files pool refusal Syntax is = tt
no_link common units files pool refusal (Constraint code) is = tt
no_link common units files pool refusal (Limit what) is = tt
no_link common units files pool refusal Duplicate is = absurd is
no_link common units files pool refusal Incompatible is = absurd is

pub of_front : (A B : Type 0) (stop : Stop) (common : Bool) (units files pool : List (List ℕ)) → IfRefused (stopped A stop) (λ r. IsFrontFault r.fault) → SaysFirst common units files pool (stopped B stop)
of_front A B (stops.Refused refusal) common units files pool is = no_link common units files pool refusal refusal.fault is
of_front A B stops.Memory common units files pool is = tt

pub over_early : (A : Type 0) (stop : Stop) (limit : What) (unit : ℕ) (file : NameId) → IfRefusal stop (λ refusal. refusal ≡ over_limit limit unit file) → IfRefused (stopped A stop) (λ r. IsFrontFault r.fault)
over_early A (stops.Refused refusal) limit unit file is = subst (λ (r : Refusal). IsFrontFault r.fault) (sym is) tt
over_early A stops.Memory limit unit file is = tt

-- before a program is printed no text is too long

before_printing : (common : Bool) (units files pool : List (List ℕ)) (refusal : Refusal) (fault : Fault) → fault ≢ Limit PrintedBytes → LinkSays common units files pool refusal fault → LateSays common units files pool refusal fault
before_printing common units files pool refusal (Limit PrintedBytes) short says = absurd (short refl)
before_printing common units files pool refusal (Limit UnitBytes) short says = says
before_printing common units files pool refusal (Limit TotalBytes) short says = says
before_printing common units files pool refusal (Limit NameBytes) short says = says
before_printing common units files pool refusal (Limit ObjectSize) short says = says
before_printing common units files pool refusal (Limit Locals) short says = says
before_printing common units files pool refusal (Limit Scalars) short says = says
before_printing common units files pool refusal Lexical short says = says
before_printing common units files pool refusal (Excluded feature) short says = says
before_printing common units files pool refusal Syntax short says = says
before_printing common units files pool refusal (Constraint code) short says = says
before_printing common units files pool refusal Duplicate short says = says
before_printing common units files pool refusal Incompatible short says = says

pub of_first_stop : (A : Type 0) (stop : Stop) (refusal : Refusal) (common : Bool) (units files pool : List (List ℕ)) → LinkSays common units files pool refusal refusal.fault → IfRefusal stop (λ r. r ≡ refusal) → IfRefusal stop (λ r. r.fault ≢ Limit PrintedBytes) → SaysOfLinks common units files pool (stopped A stop)
of_first_stop A (stops.Refused r) refusal common units files pool says same short = before_printing common units files pool r r.fault short (subst (λ (k : Refusal). LinkSays common units files pool k k.fault) (sym same) says)
of_first_stop A stops.Memory refusal common units files pool says same short = tt

-- printed, or too long

pub of_printing : {A : Type 0} (r : Result A Stop) (common : Bool) (units files p q : List (List ℕ)) → AreLinked common units files p → Stays p q → IfRefused r (λ refusal. refusal.fault ≡ Limit PrintedBytes) → IfRefused r (λ refusal. AreLong common units files q) → IfRefused r PrintedIfLong → SaysOfLinks common units files q r
of_printing (Ok a) common units files p q are stays fault long printed = linked_later common units files p q stays are
of_printing (Err (stops.Refused refusal)) common units files p q are stays fault long printed = subst (LateSays common units files q refusal) (sym fault) (record { long = long; first = printed fault })
of_printing (Err stops.Memory) common units files p q are stays fault long printed = tt

pub of_long : (A B : Type 0) (stop : Stop) (common : Bool) (units files pool : List (List ℕ)) → IfRefused (stopped A stop) (λ refusal. refusal.fault ≡ Limit PrintedBytes) → IfRefused (stopped A stop) (λ refusal. AreLong common units files pool) → IfRefused (stopped A stop) PrintedIfLong → SaysOfLinks common units files pool (stopped B stop)
of_long A B (stops.Refused refusal) common units files pool fault long printed = subst (LateSays common units files pool refusal) (sym fault) (record { long = long; first = printed fault })
of_long A B stops.Memory common units files pool fault long printed = tt
