-- Device: a table of entries is what the linked programs mean.
use Rattle.std.proofs.Common.{false, ◌≡◌, ℕ, zero, suc, ◌<◌, ◌≤◌, List, [], ◌∷◌, ◌++◌, length, map, take, get_or, slice_get, Option, Some, None, Result, Ok, Err, IfOk, refl, sym, ap, subst, arith, append_assoc}
use Rattle.cil_base.specs.declared.kinds.Abi.{Abi}
use Rattle.cil_base.specs.declared.numbers.EntityId.{EntityId}
use Rattle.cil_base.specs.declared.numbers.UnitNo.{UnitNo}
use Rattle.byte_mem.specs.Steps.{◌>>=◌}
use Rattle.execution.specs.Calls.{Enter, Linked, Meaning, Object, Code, Host}
use Rattle.execution.proofs.CallLaws.{calls_are}
use Rattle.execution.proofs.LinkLaws.{linked_tame}
use Rattle.cil_tree.specs.Tree.{GlobalDecl, Program}
use Rattle.cil_tree.specs.Typing.{global_at}
use Rattle.cil_semantics.specs.Runs.{linkables, global_meaning}
use Rattle.cil_semantics.specs.Laws.{calls_in}
use Rattle.cil_semantics.proofs.ProgramLaws.{programs_tame}
use Rattle.cil_semantics.specs.Modes.{HaveModel, HaveOneModel}
use Rattle.cil_control.specs.Remains.{Remains}
use Rattle.cil_frames.specs.declared.frames.Function.{Function}
use Rattle.cil_frames.specs.declared.frames.Entity.{Entity}
use Rattle.cil_frames.specs.declared.frames.Entity.TheVariants.{Program as OfProgram}
use Rattle.cil_code.specs.Leading.{LeadOn}
use Rattle.cil_frames.specs.Frames.{IsEntity, IsTable, AllLead}
use Rattle.cil_link.specs.declared.entities.Definer.{Definer}
use Rattle.cil_link.specs.declared.entities.Definer.TheVariants.{Global}
use Rattle.cil_link.specs.Entities as linking
use Rattle.cil_link.specs.Entities.{InRun, in_run, linked_in, global_meant, meant}
use Rattle.cil_start.proofs.UnitLaws.{model_at}
use Rattle.cil_table.specs.Courses.{global_course, unit_course, entity_course, courses_in}
use Rattle.cil_table.specs.Entries.{IsGlobalEntry, IsEntry, AreEntries, IsLoadedTable}

-- the entry of a unit's global with a number is that of an entity that it defines
pub numbered_entry : {E : Type 0} (programs : List Program) (unit : UnitNo) (n : EntityId) (u : InRun) (x : GlobalDecl) (r : Result (Option Entity) E) → slice_get (in_run programs) unit.0 ≡ Some u → global_at u.program n.0 ≡ Some x
    → IfOk r (IsGlobalEntry u x) → IfOk r (IsEntry programs (Global unit n))
numbered_entry programs unit n u x (Err e) at there h = tt
numbered_entry programs unit n u x (Ok e) at there h = λ abi model.
    subst (λ (o : Option InRun). IsEntity abi (calls_in programs) (unit_course programs o n) (o >>= λ v. global_meant v n.0) e) (sym at)
    (subst (λ (o : Option GlobalDecl). IsEntity abi (calls_in programs) (global_course programs u o) (o >>= λ y. global_meaning u.program y u.entities) e) (sym there)
    (subst (λ (a : Abi). IsEntity a (calls_in programs) (global_course programs u (Some x)) (global_meaning u.program x u.entities) e) (model_at abi programs unit.0 u model at) (h programs)))

entries_push : (programs : List Program) (ds : List Definer) (es : List (Option Entity)) (d : Definer) (e : Option Entity) → AreEntries programs ds es → IsEntry programs d e → AreEntries programs (ds ++ d ∷ []) (es ++ e ∷ [])
entries_push programs [] [] d e h k = (k, tt)
entries_push programs [] (y ∷ es) d e h k = absurd h
entries_push programs (x ∷ ds) [] d e h k = absurd h
entries_push programs (x ∷ ds) (y ∷ es) d e h k = (h.0, entries_push programs ds es d e h.1 k)

taken_next : (xs : List Definer) (i : ℕ) (d : Definer) → i < length xs → take (suc i) xs ≡ take i xs ++ get_or xs i d ∷ []
taken_next [] i d h = absurd (omega arith)
taken_next (x ∷ xs) zero d h = refl
taken_next (x ∷ xs) (suc i) d h = ap (λ ys. x ∷ ys) (taken_next xs i d (omega arith))

taken_all : (xs : List Definer) (i : ℕ) → length xs ≤ i → take i xs ≡ xs
taken_all [] zero h = refl
taken_all [] (suc i) h = refl
taken_all (x ∷ xs) zero h = absurd (omega arith)
taken_all (x ∷ xs) (suc i) h = ap (λ ys. x ∷ ys) (taken_all xs i (omega arith))

-- the next entry
pub entries_next : (programs : List Program) (xs : List Definer) (i j : ℕ) (d : Definer) (old new : List (Option Entity)) (e : Option Entity) → i < length xs → j ≡ suc i → AreEntries programs (take i xs) old → IsEntry programs (get_or xs i d) e → new ≡ old ++ e ∷ []
    → AreEntries programs (take j xs) new
entries_next programs xs i j d old new e h next all one push =
    subst (λ j. AreEntries programs (take j xs) new) (sym next)
    (subst (λ ys. AreEntries programs ys new) (sym (taken_next xs i d h))
    (subst (λ zs. AreEntries programs (take i xs ++ get_or xs i d ∷ []) zs) (sym push) (entries_push programs (take i xs) old (get_or xs i d) e all one)))

pub entries_end : (programs : List Program) (xs : List Definer) (i : ℕ) (table : List (Option Entity)) → length xs ≤ i → AreEntries programs (take i xs) table → AreEntries programs xs table
entries_end programs xs i table h all = subst (λ ys. AreEntries programs ys table) (taken_all xs i h) all

here : (before : List Definer) (d : Definer) (more : List Definer) → slice_get (before ++ d ∷ more) (length before) ≡ Some d
here [] d more = refl
here (x ∷ before) d more = here before d more

-- entries one by one are a table
table_from : (abi : Abi) (programs : List Program) (before ds : List Definer) (es : List (Option Entity)) → HaveModel abi programs → AreEntries programs ds es
    → IsTable abi (calls_in programs) (courses_in programs (before ++ ds)) (length before) (map (meant (in_run programs)) ds) es
table_from abi programs before [] [] model h = tt
table_from abi programs before [] (e ∷ es) model h = absurd h
table_from abi programs before (d ∷ ds) [] model h = absurd h
table_from abi programs before (d ∷ ds) (e ∷ es) model h = (
  subst (λ (o : Option Definer). IsEntity abi (calls_in programs) (entity_course programs o) (meant (in_run programs) d) e) (sym (here before d ds)) (h.0 abi model),
  subst (λ (n : ℕ). IsTable abi (calls_in programs) (courses_in programs (before ++ d ∷ ds)) n (map (meant (in_run programs)) ds) es) (one_longer before)
      (subst (λ (xs : List Definer). IsTable abi (calls_in programs) (courses_in programs xs) (length (before ++ d ∷ [])) (map (meant (in_run programs)) ds) es) (append_assoc before (d ∷ []) ds) (table_from abi programs (before ++ d ∷ []) ds es model h.1)),
)
  where
    one_longer : (xs : List Definer) → length (xs ++ d ∷ []) ≡ suc (length xs)
    one_longer [] = refl
    one_longer (x ∷ xs) = ap suc (one_longer xs)

-- the table of linked programs
pub table_is : (programs : List Program) (definers : List Definer) (table : List (Option Entity)) → linking.IsTable programs definers → AreEntries programs definers table → IsLoadedTable programs definers table
table_is programs definers table is all = λ abi model. record {
  step = λ c s. calls_are (linked_in programs) (linked_tame false (map linkables programs) (programs_tame programs)) c s;
  entries = subst (λ (link : Linked). IsTable abi (calls_in programs) (courses_in programs definers) 0 link table) (sym is.means) (table_from abi programs [] definers table model all);
}

-- a function of a table leads on
leads_there : (abi : Abi) (enter : Enter) (at : ℕ → ℕ → Remains) (m : Option Meaning) (f : Function) → IsEntity abi enter at m (Some (OfProgram f)) → LeadOn f.code.items × (0 < length f.code.items)
leads_there abi enter at None f h = cc
leads_there abi enter at (Some (Object read_only bytes)) f h = cc
leads_there abi enter at (Some (Code g)) f h = (h.leads, h.there)
leads_there abi enter at (Some (Host name)) f h = cc

pub all_lead : (programs : List Program) (definers : List Definer) (table : List (Option Entity)) → HaveOneModel programs → AreEntries programs definers table → AllLead table
all_lead programs [] [] one h zero f e = cc
all_lead programs [] [] one h (suc n) f e = cc
all_lead programs [] (x ∷ table) one h n f e = absurd h
all_lead programs (d ∷ ds) [] one h n f e = absurd h
all_lead programs (d ∷ ds) (x ∷ table) one h zero f e =
    let same : x ≡ Some (OfProgram f) = cc in
    leads_there one.model (calls_in programs) (entity_course programs (Some d)) (meant (in_run programs) d) f (subst (λ (y : Option Entity). IsEntry programs d y) same h.0 one.model one.each)
all_lead programs (d ∷ ds) (x ∷ table) one h (suc n) f e = all_lead programs ds table one h.1 n f e
