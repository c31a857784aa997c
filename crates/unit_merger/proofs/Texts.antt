-- Device: what is printed is the text of the program that units become, and it is too long where that is.
use Rattle.std.proofs.Common.{◌≡◌, ◌<◌, ◌≤◌, ◌∷◌, [], ℕ, Bool, false, None, List, length, Result, Ok, Err, IfOk, subst}
use Rattle.cil_base.specs.Limits.{text_bytes}
use Rattle.cil_base.specs.NamePool.{Stays}
use Rattle.cil_base.proofs.PoolLemmas.{stays_then}
use Rattle.cil_base.specs.declared.faults.Stop.{Stop}
use Rattle.cil_base.specs.declared.faults.Stop.TheVariants as stops
use Rattle.cil_base.specs.declared.kinds.Abi.TheVariants.{Lp64}
use Rattle.c_lexer.specs.Lexed.{Lexed, IfRefused}
use Rattle.cil_tree.specs.declared.globals.CilUnit.{CilUnit}
use Rattle.cil_tree.specs.View.{program_of}
use Rattle.cil_tree.specs.Text.{Text}
use Rattle.cil_tree.specs.Tree.{Program}
use Rattle.cil_tree.specs.Programs.{IsProgram, IsTextOf}
use Rattle.link_names.specs.declared.units.Fronted.{Fronted}
use Rattle.link_names.specs.Linking.{first_twice}
use Rattle.unit_lower.specs.Externals.{HasExternals}
use Rattle.unit_front.specs.Identifiers.{AreDeclared}
use Rattle.cil_merge.specs.Merging.{graphs_of, Correspond}
use Rattle.cil_merge.specs.Merged.{IsMerged}
use Rattle.unit_merger.specs.Linking.{AreFronted, names_in, IsProgramOf, IsTextOfUnits, AreLong}
use Rattle.unit_merger.specs.Programs.{IsProgramOfUnit, IsTextOfUnit}
use Rattle.unit_merger.proofs.InOrder.{stopped}

-- one unit

pub made_alone : (t : Lexed) (before names pool : List (List ℕ)) (fs : List Fronted) (f : Fronted) (u : CilUnit) → fs ≡ f ∷ [] → Stays before names → Stays names pool → HasExternals f → AreDeclared t f → IsMerged false names pool fs u → u.graph.abi ≡ Lp64 → IsProgramOfUnit t before pool u
made_alone t before names pool fs f u one stays keeps externals declared merged model =
    record { fronted = f; names = names; stays = stays; keeps = keeps; externals = externals; declared = declared; merged = subst (λ (us : List Fronted). IsMerged false names pool us u) one merged; model = model }

pub text_alone : (r : Result (List ℕ) Stop) (t : Lexed) (before pool : List (List ℕ)) (u : CilUnit) → IfOk r (λ b. IsTextOf b (program_of pool u)) → IsProgramOfUnit t before pool u → IfOk r (IsTextOfUnit t before)
text_alone (Ok b) t before pool u text of = record { pool = pool; program = u; of = of; text = text }
text_alone (Err stop) t before pool u text of = tt

-- several

pub short_text : (bytes : List ℕ) (p : Program) → IsTextOf bytes p → length (Text p) ≤ text_bytes
short_text bytes p is = subst (λ (text : List ℕ). length text ≤ text_bytes) is.text is.short

pub made : (common : Bool) (units files : List (List ℕ)) (fs : List Fronted) (names pool : List (List ℕ)) (u : CilUnit) → AreFronted units files names (length units) fs → Stays names pool → first_twice common (names_in fs) ≡ None → Correspond names (graphs_of fs) (names_in fs)
    → IsMerged common names pool fs u → u.graph.abi ≡ Lp64 → IsProgramOf common units files pool u
made common units files fs names pool u are stays once correspond merged model =
    record { linked = record { fronted = fs; names = names; are = are; stays = stays; once = once; correspond = correspond }; named = pool; behind = stays; stays = λ i text there. there; merged = merged; model = model }

pub made_later : (common : Bool) (units files p q : List (List ℕ)) (u : CilUnit) → Stays p q → IsProgramOf common units files p u → IsProgramOf common units files q u
made_later common units files p q u stays of =
    record {
      linked = record { fronted = of.linked.fronted; names = of.linked.names; are = of.linked.are; stays = stays_then of.linked.names p q of.linked.stays stays; once = of.linked.once; correspond = of.linked.correspond };
      named = of.named;
      behind = of.behind;
      stays = stays_then of.named p q of.stays stays;
      merged = of.merged;
      model = of.model;
    }

pub text_of_units : (r : Result (List ℕ) Stop) (common : Bool) (units files p q : List (List ℕ)) (u : CilUnit) → IfOk r (λ b. IsTextOf b (program_of q u)) → IsProgramOf common units files p u → Stays p q → IfOk r (IsTextOfUnits common units files q)
text_of_units (Ok b) common units files p q u text of stays = record { program = u; of = made_later common units files p q u stays of; text = text }
text_of_units (Err stop) common units files p q u text of stays = tt

pub are_long : (A : Type 0) (stop : Stop) (common : Bool) (units files p q : List (List ℕ)) (u : CilUnit) → IsProgramOf common units files p u → Stays p q → IsProgram (program_of p u) → text_bytes < length (Text (program_of p u))
    → IfRefused (stopped A stop) (λ r. AreLong common units files q)
are_long A (stops.Refused refusal) common units files p q u of stays formed long = record { names = p; stays = stays; program = u; of = of; formed = formed; long = long }
are_long A stops.Memory common units files p q u of stays formed long = tt
