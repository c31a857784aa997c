-- Device: what is known of parts of instructions, and steps of their readings.
use Rattle.std.proofs.Common.{◌≡◌, ◌≢◌, ℕ, suc, ◌-◌, ◌<◌, Bool, true, false, cond, List, [], ◌∷◌, ◌++◌, Option, Some, None, refl, sym, ap, ◌∙◌, arith, append_assoc, Box, Global as heap}
use Rattle.std.specs.Option.{option_map, option_and_then}
use Rattle.cil_base.specs.declared.numbers.EntityId.{EntityId}
use Rattle.cil_base.specs.declared.numbers.LocalId.{LocalId}
use Rattle.cil_base.specs.declared.numbers.TypeId.{TypeId}
use Rattle.type_graph.specs.declared.nodes.Node.{Node}
use Rattle.type_graph.specs.Arena.{Graph}
use Rattle.type_graph.specs.Growth.{Grows}
use Rattle.type_graph.proofs.GrowthLaws.{grows_twice}
use Rattle.cil_tree.specs.declared.expressions.Exp.{Exp as SeenExp}
use Rattle.cil_tree.specs.declared.expressions.Exp.TheViews as exps
use Rattle.cil_tree.specs.declared.expressions.Host.{Host as SeenHost, Global as SeenGlobal, Var as SeenVar}
use Rattle.cil_tree.specs.declared.expressions.Offset.{Offset as SeenOffset, Field as SeenField, Index'}
use Rattle.cil_tree.specs.declared.expressions.Lval.{Lval as SeenLval}
use Rattle.cil_tree.specs.declared.statements.Instr.{Instr as SeenInstr}
use Rattle.cil_tree.specs.declared.statements.Instr.TheVariants as instr
use Rattle.cil_tree.specs.Tree.{Exp, Host, Global, Var, At, Offsets, Here, Field, Index, Lval, Place, Callee, Instr, Set, Call, Zero}
use Rattle.cil_tree.specs.View.{exp_of, host_of, lval_of, offsets_of, instr_of}
use Rattle.cil_tree.proofs.Views.{at_value}
use Rattle.cil_text.specs.Words.{Word, RightParen, Comma, Semicolon}
use Rattle.cil_text.specs.ReadTypes.{Reading}
use Rattle.cil_text.specs.ReadExps.{Env, read_exp, read_place}
use Rattle.cil_text.specs.ReadStmts.{callee_of, called_place, line_end, read_args, read_list, read_next, argument_first, read_call, read_effect, read_assigned, read_instr, zero_from, is_zero, behind_address}
use Rattle.cil_declarators.specs.declared.stop.Stop.{Stop}
use Rattle.cil_declarators.specs.declared.stop.Stop.TheVariants.{NotCil, WantOfMemory}
use Rattle.cil_declarators.specs.Gives.{Fails}
use Rattle.cil_forms.specs.Forms.{closing, is_end, behind_argument}
use Rattle.cil_reader.specs.Parts.{ExpKnown, PlaceKnown}
use Rattle.cil_reader.specs.declared.instructions.Called.{Called}
use Rattle.cil_reader.specs.declared.instructions.Called.TheVariants as called
use Rattle.cil_reader.specs.Instructions.{args_of, called_seen, result_of, ArgsKnown, ResultKnown, CalleeKnown, InstrKnown, IsCallee, IsCalled, list_behind, Listed, listed_as, argument_more, list_left, list_from}

-- arguments

pub no_args : (g : Graph) (xs : List SeenExp) → xs ≡ [] → ArgsKnown g xs
no_args g xs e = record { steady = λ h r. ap (args_of h.nodes) e ∙ sym (ap (args_of g.nodes) e) }

pub map_more : (nodes : List Node) (xs : List SeenExp) (x : SeenExp) → args_of nodes (xs ++ x ∷ []) ≡ args_of nodes xs ++ exp_of nodes x ∷ []
map_more nodes [] x = refl
map_more nodes (y ∷ xs) x = ap (λ zs. exp_of nodes y ∷ zs) (map_more nodes xs x)

pub args_more : (g h : Graph) (env : Env) (xs : List SeenExp) (x : SeenExp) (t : Option TypeId) → ArgsKnown g xs → Grows g h → ExpKnown h env x t → ArgsKnown h (xs ++ x ∷ [])
args_more g h env xs x t k r e = record {
  steady = λ i q.
      map_more i.nodes xs x
      ∙ ap (λ zs. zs ++ exp_of i.nodes x ∷ []) (k.steady i (grows_twice g h i r q) ∙ sym (k.steady h r))
      ∙ ap (λ z. args_of h.nodes xs ++ z ∷ []) (e.steady i q)
      ∙ sym (map_more h.nodes xs x);
}

pub argument_gives : (g h : Graph) (xs : List SeenExp) (x : SeenExp) (o : Reading Exp) (b : Bool) (ws vs : List Word) → ArgsKnown g xs → Grows g h → o ≡ Some (exp_of h.nodes x, ws) → Some (b, vs) ≡ behind_argument ws →
    argument_more (args_of g.nodes xs) o ≡ Some (b, (args_of h.nodes (xs ++ x ∷ []), vs))
argument_gives g h xs x o b ws vs k r e end =
    ap (argument_more (args_of g.nodes xs)) e
    ∙ ap (option_map (listed_as (args_of g.nodes xs ++ exp_of h.nodes x ∷ []))) (sym end)
    ∙ ap (λ zs. Some (b, (zs ++ exp_of h.nodes x ∷ [], vs))) (sym (k.steady h r))
    ∙ ap (λ zs. Some (b, (zs, vs))) (sym (map_more h.nodes xs x))

pub argument_open : (xs : List Exp) (x : Exp) (o : Reading Exp) (ws : List Word) → o ≡ Some (x, ws) → None ≡ behind_argument ws → argument_more xs o ≡ None
argument_open xs x o ws e none = ap (argument_more xs) e ∙ ap (option_map (listed_as (xs ++ x ∷ []))) (sym none)

pub argument_fails : (xs : List Exp) (o : Reading Exp) → o ≡ None → argument_more xs o ≡ None
argument_fails xs o e = ap (argument_more xs) e

first_behind : (xs : List Exp) (e : Exp) (o : Reading (List Exp)) → option_map (list_behind xs) (option_map (argument_first e) o) ≡ option_map (list_behind (xs ++ e ∷ [])) o
first_behind xs e None = refl
first_behind xs e (Some r) = ap (λ zs. Some (zs, r.1)) (sym (append_assoc xs (e ∷ []) r.0))

abbrev list_on : (List Word → Reading Exp) → ℕ → Listed → Reading (List Exp)
list_on exp k (true, r) = Some r
list_on exp k (false, r) = list_left exp k r.0 r.1

next_is : (exp : List Word → Reading Exp) (k : ℕ) (xs : List Exp) (e : Exp) (ws : List Word) → option_map (list_behind xs) (read_next (read_list exp k) e ws) ≡ option_and_then (list_on exp k) (option_map (listed_as (xs ++ e ∷ [])) (behind_argument ws))
next_is exp k xs e (RightParen ∷ ws) = refl
next_is exp k xs e (Comma ∷ ws) = first_behind xs e (read_list exp k ws)
next_is exp k xs e _ = refl

list_is : (exp : List Word → Reading Exp) (k : ℕ) (xs : List Exp) (ws : List Word) → list_left exp (suc k) xs ws ≡ option_and_then (list_on exp k) (argument_more xs (exp ws))
list_is exp k xs ws = by (exp ws)
  where
    by : (o : Reading Exp) → option_map (list_behind xs) (option_and_then (λ (r : Exp × List Word). read_next (read_list exp k) r.0 r.1) o) ≡ option_and_then (list_on exp k) (argument_more xs o)
    by None = refl
    by (Some r) = next_is exp k xs r.0 r.1

all_behind : (o : Reading (List Exp)) → option_map (list_behind []) o ≡ o
all_behind None = refl
all_behind (Some r) = refl

-- the loop over arguments, of which k may be left

list_by : (env now : Env) (n k : ℕ) (xs : List Exp) (ws : List Word) → 0 < k → now ≡ env → list_left (read_exp env n) k xs ws ≡ option_and_then (list_on (read_exp env n) (k - 1)) (argument_more xs (read_exp now n ws))
list_by env now n k xs ws some same =
    let e : k ≡ suc (k - 1) = omega (arith, some) in
    ap (λ j. list_left (read_exp env n) j xs ws) e
    ∙ list_is (read_exp env n) (k - 1) xs ws
    ∙ ap (λ (v : Env). option_and_then (list_on (read_exp env n) (k - 1)) (argument_more xs (read_exp v n ws))) (sym same)

pub list_next : (env now : Env) (n k : ℕ) (xs ys : List Exp) (b c : Bool) (ws vs : List Word) (whole : Reading (List Exp)) → 0 < k → now ≡ env → argument_more xs (read_exp now n ws) ≡ Some (b, (ys, vs)) → c ≡ false →
    list_from (read_exp env n) k c xs ws ≡ whole → list_from (read_exp env n) (k - 1) b ys vs ≡ whole
list_next env now n k xs ys b c ws vs whole some same e more inv = by b ∙ (sym (list_by env now n k xs ws some same ∙ ap (option_and_then (list_on (read_exp env n) (k - 1))) e) ∙ ap (λ v. list_from (read_exp env n) k v xs ws) (sym more) ∙ inv)
  where
    by : (v : Bool) → list_from (read_exp env n) (k - 1) v ys vs ≡ list_on (read_exp env n) (k - 1) (v, (ys, vs))
    by true = refl
    by false = refl

pub list_stop : (env now : Env) (n k : ℕ) (xs : List Exp) (c : Bool) (ws : List Word) (whole : Reading (List Exp)) (x : Stop) → 0 < k → now ≡ env → c ≡ false → Fails x (argument_more xs (read_exp now n ws)) → list_from (read_exp env n) k c xs ws ≡ whole → Fails x whole
list_stop env now n k xs c ws whole NotCil some same more none inv =
    sym inv ∙ ap (λ v. list_from (read_exp env n) k v xs ws) more ∙ list_by env now n k xs ws some same ∙ ap (option_and_then (list_on (read_exp env n) (k - 1))) none
list_stop env now n k xs c ws whole WantOfMemory some same more none inv = tt

pub list_over : (exp : List Word → Reading Exp) (k : ℕ) (xs : List Exp) (c : Bool) (ws : List Word) (whole : Reading (List Exp)) → k ≡ 0 → c ≡ false → list_from exp k c xs ws ≡ whole → whole ≡ None
list_over exp k xs c ws whole none more inv = sym inv ∙ ap (λ v. list_from exp k v xs ws) more ∙ ap (λ j. list_left exp j xs ws) none

pub list_closed : (exp : List Word → Reading Exp) (k : ℕ) (xs : List Exp) (c : Bool) (ws : List Word) (whole : Reading (List Exp)) → c ≡ true → list_from exp k c xs ws ≡ whole → whole ≡ Some (xs, ws)
list_closed exp k xs c ws whole last inv = sym inv ∙ ap (λ v. list_from exp k v xs ws) last

pub list_start : (exp : List Word → Reading Exp) (m : ℕ) (nodes : List Node) (xs : List SeenExp) (ws : List Word) → xs ≡ [] → list_from exp m false (args_of nodes xs) ws ≡ read_list exp m ws
list_start exp m nodes xs ws e = ap (λ ys. list_left exp m (args_of nodes ys) ws) e ∙ all_behind (read_list exp m ws)

abbrev args_by : Option (List Word) → Reading (List Exp) → Reading (List Exp)
args_by (Some vs) o = Some ([], vs)
args_by None o = o

args_is : (exp : List Word → Reading Exp) (k : ℕ) (ws : List Word) → read_args exp k ws ≡ args_by (closing ws) (read_list exp k ws)
args_is exp k (RightParen ∷ ws) = refl
args_is exp k _ = refl

pub args_closing : (exp : List Word → Reading Exp) (k : ℕ) (ws vs : List Word) → Some vs ≡ closing ws → read_args exp k ws ≡ Some ([], vs)
args_closing exp k ws vs e = args_is exp k ws ∙ ap (λ o. args_by o (read_list exp k ws)) (sym e)

pub args_next : (exp : List Word → Reading Exp) (k : ℕ) (ws : List Word) → None ≡ closing ws → read_args exp k ws ≡ read_list exp k ws
args_next exp k ws e = args_is exp k ws ∙ ap (λ o. args_by o (read_list exp k ws)) (sym e)

-- what is called

pub direct_is : (l : SeenLval) (e : EntityId) → l.offsets.items ≡ [] → l.host ≡ SeenGlobal e → IsCallee l (Some (called.Direct e))
direct_is l e none host = record { at = λ nodes. sym (ap (λ xs. callee_of (Place (host_of nodes l.host) (offsets_of nodes xs))) none ∙ ap (λ h. callee_of (Place (host_of nodes h) Here)) host) }

pub through_is : (l : SeenLval) (h : SeenHost) (b : Box SeenExp heap) → ((nodes : List Node) → host_of nodes h ≡ At (exp_of nodes b.value)) → l.offsets.items ≡ [] → l.host ≡ h → IsCallee l (Some (called.Through b))
through_is l h b is none host = record {
  at = λ nodes. sym (
      ap (λ xs. callee_of (Place (host_of nodes l.host) (offsets_of nodes xs))) none
      ∙ ap (λ y. callee_of (Place (host_of nodes y) Here)) host
      ∙ ap (λ y. callee_of (Place y Here)) (is nodes));
}

pub var_is : (l : SeenLval) (n : LocalId) → l.offsets.items ≡ [] → l.host ≡ SeenVar n → IsCallee l None
var_is l n none host = record { at = λ nodes. sym (ap (λ xs. callee_of (Place (host_of nodes l.host) (offsets_of nodes xs))) none ∙ ap (λ h. callee_of (Place (host_of nodes h) Here)) host) }

of_field : (h : Host) (n : ℕ) (os : Offsets) → callee_of (Place h (Field n os)) ≡ None
of_field (Global e) n os = refl
of_field (Var e) n os = refl
of_field (At p) n os = refl

of_element : (h : Host) (e : Exp) (os : Offsets) → callee_of (Place h (Index e os)) ≡ None
of_element (Global n) e os = refl
of_element (Var n) e os = refl
of_element (At p) e os = refl

of_part : (nodes : List Node) (h : Host) (xs : List SeenOffset) → xs ≢ [] → callee_of (Place h (offsets_of nodes xs)) ≡ None
of_part nodes h [] some = absurd (some refl)
of_part nodes h (SeenField n ∷ xs) some = of_field h n (offsets_of nodes xs)
of_part nodes h (Index' p e ∷ xs) some = of_element h (exp_of nodes e) (offsets_of nodes xs)

pub part_is : (l : SeenLval) → l.offsets.items ≢ [] → IsCallee l None
part_is l some = record { at = λ nodes. sym (of_part nodes (host_of nodes l.host) l.offsets.items some) }

pub called_is : (l : SeenLval) (c : Option Called) → IsCallee l c → IsCalled (exps.Lval l) c
called_is l c is = record { at = λ nodes. is.at nodes ∙ sym (ap called_place (at_value nodes (exps.Lval l) l refl)) }

pub callee_known : (g : Graph) (env : Env) (l : SeenLval) (t : Option TypeId) (c : Called) → IsCallee l (Some c) → PlaceKnown g env l t → CalleeKnown g c
callee_known g env l t c is k = record { steady = λ h r. let e : Some (called_seen h.nodes c) ≡ Some (called_seen g.nodes c) = is.at h.nodes ∙ ap callee_of (k.steady h r) ∙ sym (is.at g.nodes) in cc }

pub called_known : (g : Graph) (env : Env) (x : SeenExp) (t : Option TypeId) (c : Called) → IsCalled x (Some c) → ExpKnown g env x t → CalleeKnown g c
called_known g env x t c is k = record { steady = λ h r. let e : Some (called_seen h.nodes c) ≡ Some (called_seen g.nodes c) = is.at h.nodes ∙ ap called_place (k.steady h r) ∙ sym (is.at g.nodes) in cc }

pub no_result : (g : Graph) → ResultKnown g None
no_result g = record { steady = λ h r. refl }

pub result_known : (g : Graph) (env : Env) (l : SeenLval) (t : Option TypeId) → PlaceKnown g env l t → ResultKnown g (Some l)
result_known g env l t k = record { steady = λ h r. ap Some (k.steady h r) }

pub set_known : (g : Graph) (env : Env) (l : SeenLval) (t u : Option TypeId) (x : SeenExp) → PlaceKnown g env l t → ExpKnown g env x u → InstrKnown g (instr.Set l x)
set_known g env l t u x k e = record { steady = λ h r. ap (λ y. Set y (exp_of h.nodes x)) (k.steady h r) ∙ ap (Set (lval_of g.nodes l)) (e.steady h r) }

pub zero_known : (g : Graph) (env : Env) (l : SeenLval) (t : Option TypeId) → PlaceKnown g env l t → InstrKnown g (instr.Zero l)
zero_known g env l t k = record { steady = λ h r. ap Zero (k.steady h r) }

-- ends of lines

ends_by : {A : Type 0} (x : A) (ws : List Word) → line_end x ws ≡ cond (is_end ws) (Some x) None
ends_by x (Semicolon ∷ []) = refl
ends_by x (Semicolon ∷ w ∷ ws) = refl
ends_by x _ = refl

pub ended : {A : Type 0} (x : A) (ws : List Word) → is_end ws ≡ true → line_end x ws ≡ Some x
ended x ws e = ends_by x ws ∙ ap (λ v. cond v (Some x) None) e

pub unended : {A : Type 0} (x : A) (ws : List Word) → is_end ws ≡ false → line_end x ws ≡ None
unended x ws e = ends_by x ws ∙ ap (λ v. cond v (Some x) None) e

-- calls

abbrev call_from : Option Lval → Callee → List Exp × List Word → Option Instr
call_from o c r = line_end (Call o c r.0) r.1

pub call_gives : (g h : Graph) (exp : List Word → Reading Exp) (k : ℕ) (o : Option SeenLval) (c : Called) (xs : List Exp) (ws vs : List Word) → ResultKnown g o → CalleeKnown g c → Grows g h → read_args exp k ws ≡ Some (xs, vs) → is_end vs ≡ true →
    read_call exp k (result_of g.nodes o) (called_seen g.nodes c) ws ≡ Some (Call (result_of h.nodes o) (called_seen h.nodes c) xs)
call_gives g h exp k o c xs ws vs p q r e end =
    ap (option_and_then (call_from (result_of g.nodes o) (called_seen g.nodes c))) e
    ∙ ended (Call (result_of g.nodes o) (called_seen g.nodes c) xs) vs end
    ∙ ap (λ y. Some (Call y (called_seen g.nodes c) xs)) (sym (p.steady h r))
    ∙ ap (λ y. Some (Call (result_of h.nodes o) y xs)) (sym (q.steady h r))

pub call_open : (exp : List Word → Reading Exp) (k : ℕ) (o : Option Lval) (c : Callee) (xs : List Exp) (ws vs : List Word) → read_args exp k ws ≡ Some (xs, vs) → is_end vs ≡ false → read_call exp k o c ws ≡ None
call_open exp k o c xs ws vs e end = ap (option_and_then (call_from o c)) e ∙ unended (Call o c xs) vs end

pub call_fails : (exp : List Word → Reading Exp) (k : ℕ) (o : Option Lval) (c : Callee) (ws : List Word) → read_args exp k ws ≡ None → read_call exp k o c ws ≡ None
call_fails exp k o c ws e = ap (option_and_then (call_from o c)) e

pub call_known : (g h : Graph) (o : Option SeenLval) (c : Called) (i : SeenInstr) (xs : List SeenExp) → ((nodes : List Node) → instr_of nodes i ≡ Call (result_of nodes o) (called_seen nodes c) (args_of nodes xs)) →
    ResultKnown g o → CalleeKnown g c → ArgsKnown h xs → Grows g h → InstrKnown h i
call_known g h o c i xs is p q k r = record {
  steady = λ j s.
      is j.nodes
      ∙ ap (λ y. Call y (called_seen j.nodes c) (args_of j.nodes xs)) (p.steady j (grows_twice g h j r s) ∙ sym (p.steady h r))
      ∙ ap (λ y. Call (result_of h.nodes o) y (args_of j.nodes xs)) (q.steady j (grows_twice g h j r s) ∙ sym (q.steady h r))
      ∙ ap (Call (result_of h.nodes o) (called_seen h.nodes c)) (k.steady j s)
      ∙ sym (is h.nodes);
}

pub called_next : (nodes : List Node) (exp : List Word → Reading Exp) (k : ℕ) (o : Option Lval) (x : SeenExp) (c : Called) (ws : List Word) → IsCalled x (Some c) →
    option_and_then (λ (f : Callee). read_call exp k o f ws) (called_place (exp_of nodes x)) ≡ read_call exp k o (called_seen nodes c) ws
called_next nodes exp k o x c ws is = ap (option_and_then (λ (f : Callee). read_call exp k o f ws)) (sym (is.at nodes))

pub called_none : (nodes : List Node) (exp : List Word → Reading Exp) (k : ℕ) (o : Option Lval) (x : SeenExp) (ws : List Word) → IsCalled x None → option_and_then (λ (f : Callee). read_call exp k o f ws) (called_place (exp_of nodes x)) ≡ None
called_none nodes exp k o x ws is = ap (option_and_then (λ (f : Callee). read_call exp k o f ws)) (sym (is.at nodes))

pub callee_next : (nodes : List Node) (exp : List Word → Reading Exp) (k : ℕ) (o : Option Lval) (l : SeenLval) (c : Called) (ws : List Word) → IsCallee l (Some c) →
    option_and_then (λ (f : Callee). read_call exp k o f ws) (callee_of (lval_of nodes l)) ≡ read_call exp k o (called_seen nodes c) ws
callee_next nodes exp k o l c ws is = ap (option_and_then (λ (f : Callee). read_call exp k o f ws)) (sym (is.at nodes))

pub callee_none : (nodes : List Node) (exp : List Word → Reading Exp) (k : ℕ) (o : Option Lval) (l : SeenLval) (ws : List Word) → IsCallee l None → option_and_then (λ (f : Callee). read_call exp k o f ws) (callee_of (lval_of nodes l)) ≡ None
callee_none nodes exp k o l ws is = ap (option_and_then (λ (f : Callee). read_call exp k o f ws)) (sym (is.at nodes))

-- lines

pub assigned_later : (env now : Env) (k : ℕ) (l m : Lval) (x : Exp) (ws vs : List Word) → now ≡ env → m ≡ l → read_exp env k ws ≡ Some (x, vs) →
    option_and_then (λ (r : Exp × List Word). read_assigned (read_exp env k) k l r.0 r.1) (read_exp env k ws) ≡ read_assigned (read_exp now k) k m x vs
assigned_later env now k l m x ws vs same place e =
    ap (option_and_then (λ (r : Exp × List Word). read_assigned (read_exp env k) k l r.0 r.1)) e
    ∙ ap (λ (v : Env). read_assigned (read_exp v k) k l x vs) (sym same)
    ∙ ap (λ (y : Lval). read_assigned (read_exp now k) k y x vs) (sym place)

pub assigned_fails : (exp : List Word → Reading Exp) (k : ℕ) (l : Lval) (o : Reading Exp) → o ≡ None → option_and_then (λ (r : Exp × List Word). read_assigned exp k l r.0 r.1) o ≡ None
assigned_fails exp k l o e = ap (option_and_then (λ (r : Exp × List Word). read_assigned exp k l r.0 r.1)) e

pub zero_gives : (o : Reading Lval) (l : Lval) (ws : List Word) → o ≡ Some (l, ws) → option_and_then zero_from o ≡ Some (Zero l)
zero_gives o l ws e = ap (option_and_then zero_from) e

pub zero_fails : (o : Reading Lval) → o ≡ None → option_and_then zero_from o ≡ None
zero_fails o e = ap (option_and_then zero_from) e

abbrev effect_from : Env → ℕ → Lval × List Word → Option Instr
effect_from env n r = read_effect (read_exp env n) n r.0 r.1

pub instr_zero : (env : Env) (n : ℕ) (ws : List Word) → is_zero ws ≡ true → read_instr env n ws ≡ option_and_then zero_from (read_place env (read_exp env n) n (behind_address ws))
instr_zero env n ws e = ap (λ v. cond v (option_and_then zero_from (read_place env (read_exp env n) n (behind_address ws))) (option_and_then (effect_from env n) (read_place env (read_exp env n) n ws))) e

pub instr_next : (env : Env) (n : ℕ) (ws vs : List Word) (l : Lval) → is_zero ws ≡ false → read_place env (read_exp env n) n ws ≡ Some (l, vs) → read_instr env n ws ≡ read_effect (read_exp env n) n l vs
instr_next env n ws vs l e h =
    ap (λ v. cond v (option_and_then zero_from (read_place env (read_exp env n) n (behind_address ws))) (option_and_then (effect_from env n) (read_place env (read_exp env n) n ws))) e ∙ ap (option_and_then (effect_from env n)) h

pub instr_fails : (env : Env) (n : ℕ) (ws : List Word) → is_zero ws ≡ false → read_place env (read_exp env n) n ws ≡ None → read_instr env n ws ≡ None
instr_fails env n ws e h =
    ap (λ v. cond v (option_and_then zero_from (read_place env (read_exp env n) n (behind_address ws))) (option_and_then (effect_from env n) (read_place env (read_exp env n) n ws))) e ∙ ap (option_and_then (effect_from env n)) h
