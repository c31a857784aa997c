-- Device: what remains at a step of each kind is what the step does.
use Rattle.std.proofs.Common.{◌≡◌, ℕ, suc, ◌+◌, ◌≤◌, inl, inr, Bool, true, false, List, length, Option, Some, None, refl, sym, ap, ◌∙◌, arith, ℤ}
use Rattle.std.proofs.lemmas.Bool.{lt-ltb, le-ltb}
use Rattle.byte_mem.specs.declared.values.Value.{Value}
use Rattle.byte_mem.specs.Memory.{Memory}
use Rattle.byte_mem.specs.Steps.{◌>>=◌}
use Rattle.byte_mem.specs.Operator.{number_in}
use Rattle.execution.specs.States.{State, Result, Goes, Exits, Running, Undefined, bind, given, pure, spend, with_memory}
use Rattle.execution.specs.Data.{Kind, Datum, store_datum, zero_from}
use Rattle.execution.specs.Jumps.{Target, Entry, Signal, Normal, Broken, Jumped, Returned, caught, after, jumping, spending, turned, turn_ends, turn, broken_off, chosen, switched, case_for}
use Rattle.execution.specs.Calls.{Enter, returned}
use Rattle.execution.proofs.Quiet.{caught_once}
use Rattle.cil_tree.specs.Tree as tree
use Rattle.cil_tree.specs.Tree.{Exp, Lval, Instr, Set, Zero, Stmt, Do, If, Switch, Loop, Block, Label, Case, Default, Goto, Break, Return, Stmts, Done, Seq}
use Rattle.cil_semantics.specs.Values.{Activation, size_in, value, place, scalar_value, holds_of, abi_of}
use Rattle.cil_tree.specs.Typing.{place_type}
use Rattle.cil_semantics.specs.Statements.{has, has_in, kind_of_place, written, instr, result_place, callee_value, result_kind, arguments, stored, kind_of_result, return, stmt, stmts}
use Rattle.cil_control.specs.Remains.{Rest, Remains, in_construct, in_first, in_switch, in_turn, remains_in, steps_in, place_in}
use Rattle.cil_control.specs.Flat.{Act, Test, Choose, Leave, jump, jump_by, break_to, place_by, place_for, taken}
use Rattle.cil_control.specs.Courses.{Course, IsSteady, Agrees, after_break, Leads}
use Rattle.cil_control.proofs.Entries.{bind_bind, bind_twice, starts_in, enters_in, counted_in, within_in}
use Rattle.cil_control.proofs.Courses.{bind_spend, spend_same, starting, entering}

-- an instruction ends normally, if at all
written_goes : (s : State) (o : Option Memory) (K : Rest) (f : Remains) → ((t : State) → K Normal t ≡ f t) → bind (written s o) K ≡ bind (written s o) (λ g. f)
written_goes s None K f e = refl
written_goes s (Some m) K f e = e (with_memory s m)

stored_goes : (a : Activation) (kind : Option Kind) (at : Option Value) (d : Datum) (s : State) (K : Rest) (f : Remains) → ((t : State) → K Normal t ≡ f t) → bind (stored a kind at d s) K ≡ bind (stored a kind at d s) (λ g. f)
stored_goes a kind None d s K f e = e s
stored_goes a kind (Some at) d s K f e = written_goes s (kind >>= λ k. store_datum (abi_of a) s.memory k at d) K f e

result_goes : (a : Activation) (kind : Option Kind) (at : Option Value) (r : Result Datum) (K : Rest) (f : Remains) → ((t : State) → K Normal t ≡ f t)
    → bind (bind r (λ d t. stored a kind at d t)) K ≡ bind (bind r (λ d t. stored a kind at d t)) (λ g. f)
result_goes a kind at (Goes d s) K f e = stored_goes a kind at d s K f e
result_goes a kind at (Exits status s) K f e = refl
result_goes a kind at (Running s) K f e = refl
result_goes a kind at (Undefined s) K f e = refl

given_goes : {A : Type 0} (s : State) (o : Option A) (next : A → Result Signal) (K : Rest) (f : Remains) → ((x : A) → bind (next x) K ≡ bind (next x) (λ g. f)) → bind (given s o next) K ≡ bind (given s o next) (λ g. f)
given_goes s None next K f e = refl
given_goes s (Some x) next K f e = e x

instr_goes : (a : Activation) (enter : Enter) (i : Instr) (s : State) (K : Rest) (f : Remains) → ((t : State) → K Normal t ≡ f t) → bind (instr a enter i s) K ≡ bind (instr a enter i s) (λ g. f)
instr_goes a enter (Set p e) s K f h = written_goes s (kind_of_place a p >>= λ k. place a s.memory p >>= λ at. value a s.memory e >>= store_datum (abi_of a) s.memory k at) K f h
instr_goes a enter (tree.Call result x es) s K f h =
    given_goes s (result_place a s.memory result) _ K f (λ at.
    given_goes s (callee_value a s.memory x) _ K f (λ v.
    given_goes s (arguments a s.memory es) _ K f (λ xs.
    result_goes a (kind_of_result a result) at (enter (record { abi = abi_of a; callee = v; result = result_kind a x; arguments = xs }) s) K f h)))
instr_goes a enter (Zero p) s K f h = written_goes s (place_type a.scope p >>= size_in a.scope.program.graph >>= λ n. place a s.memory p >>= zero_from s.memory n) K f h

pub act_taken : (c : Course) (i : Instr) (K : Rest) (p : ℕ) → ((s : State) → c.at p s ≡ bind (instr c.activation c.enter i s) K) → ((s : State) → K Normal s ≡ c.at (suc p) s) → (s : State) → c.at p s ≡ taken c.activation c.enter c.end c.at p (Act i) s
act_taken c i K p h k s = h s ∙ instr_goes c.activation c.enter i s K (c.at (suc p)) k

-- a jump from p
pub jump_taken : (c : Course) (o : Option ℕ) (p : ℕ) (r : Remains) → Leads c o p (suc p) r → (s : State) → r s ≡ taken c.activation c.enter c.end c.at p (jump p o) s
jump_taken c None p r l s = l s
jump_taken c (Some q) p r (inl l) s = l.1 s ∙ ap (λ b. taken c.activation c.enter c.end c.at p (jump_by b q) s) (sym (lt-ltb p q (let far : suc p ≤ q = l.0 in omega arith)))
jump_taken c (Some q) p r (inr l) s = l.1 s ∙ ap (λ b. taken c.activation c.enter c.end c.at p (jump_by b q) s) (sym (le-ltb p q l.0))

pub break_taken : (c : Course) (b : Option ℕ) (p : ℕ) (s : State) → after_break c b s ≡ taken c.activation c.enter c.end c.at p (break_to b) s
break_taken c None p s = refl
break_taken c (Some q) p s = refl

return_goes : (a : Activation) (e : Option Exp) (s : State) (K : Rest) (end : Datum) → ((v : Option Datum) (t : State) → K (Returned v) t ≡ returned end (Returned v) t) → bind (return a e s) K ≡ bind (return a e s) (returned end)
return_goes a None s K end k = k None s
return_goes a (Some e) s K end k = by (value a s.memory e)
  where
    by : (o : Option Datum) → bind (given s o (λ d. Goes (Returned (Some d)) s)) K ≡ bind (given s o (λ d. Goes (Returned (Some d)) s)) (returned end)
    by None = refl
    by (Some d) = k (Some d) s

pub leave_taken : (c : Course) (e : Option Exp) (K : Rest) (p : ℕ) → ((s : State) → c.at p s ≡ bind (return c.activation e s) K) → ((v : Option Datum) (t : State) → K (Returned v) t ≡ returned c.end (Returned v) t) → (s : State) → c.at p s ≡ taken c.activation c.enter c.end c.at p (Leave e) s
leave_taken c e K p h k s = h s ∙ return_goes c.activation e s K c.end k

-- the test of an if: its first side begins at the next place, and the second at l
pub test_taken : (c : Course) (e : Exp) (holds fails : Stmts) (K : Rest) (p m l q : ℕ)
    → ((s : State) → c.at p s ≡ bind (stmt c.activation c.enter c.again (If e holds fails) None s) K)
    → Agrees c (suc p) (remains_in c.activation c.enter c.again holds (in_first c.activation c.enter c.again (If e holds fails) fails K)) → suc p + steps_in holds ≡ m → ((s : State) → K Normal s ≡ c.at m s)
    → Agrees c l (remains_in c.activation c.enter c.again fails (in_construct c.again (If e holds fails) K)) → l + steps_in fails ≡ q → ((s : State) → K Normal s ≡ c.at q s)
    → (s : State) → c.at p s ≡ taken c.activation c.enter c.end c.at p (Test e l) s
test_taken c e holds fails K p m l q h first one k second two n s = h s ∙ by (holds_of c.activation s.memory e)
  where
    by : (o : Option Bool)
        → bind (caught (has (If e holds fails)) (bind (pure s o) (λ v t. chosen v (has_in fails) (stmts c.activation c.enter c.again holds) (stmts c.activation c.enter c.again fails) None t)) (c.again (If e holds fails))) K
        ≡ bind (pure s o) (λ v. c.at (place_by v (suc p) l))
    by None = refl
    by (Some true) =
        sym (bind_twice (stmts c.activation c.enter c.again holds None s) (after (has_in fails) (jumping (stmts c.activation c.enter c.again fails))) (after (has (If e holds fails)) (spending (c.again (If e holds fails)))) K)
        ∙ (sym (starts_in c.activation c.enter c.again holds (in_first c.activation c.enter c.again (If e holds fails) fails K) s)
        ∙ starting c (remains_in c.activation c.enter c.again holds (in_first c.activation c.enter c.again (If e holds fails) fails K)) (K Normal) (suc p) m
        (let all : length (remains_in c.activation c.enter c.again holds (in_first c.activation c.enter c.again (If e holds fails) fails K)) ≡ steps_in holds = counted_in c.activation c.enter c.again holds (in_first c.activation c.enter c.again (If e holds fails) fails K) in omega arith) first k s)
    by (Some false) =
        bind_bind (stmts c.activation c.enter c.again fails None s) (after (has (If e holds fails)) (spending (c.again (If e holds fails)))) K
        ∙ (sym (starts_in c.activation c.enter c.again fails (in_construct c.again (If e holds fails) K) s)
        ∙ starting c (remains_in c.activation c.enter c.again fails (in_construct c.again (If e holds fails) K)) (K Normal) l q
        (let all : length (remains_in c.activation c.enter c.again fails (in_construct c.again (If e holds fails) K)) ≡ steps_in fails = counted_in c.activation c.enter c.again fails (in_construct c.again (If e holds fails) K) in omega arith) second n s)

-- where the value of a switch leads to, whose body begins at p and ends at q
abbrev pub entry_place : ℕ → ℕ → Stmts → Entry → ℕ
entry_place p q body None = q
entry_place p q body (Some t) = p + place_in t body

-- a case or default within
abbrev pub IsWithin : Stmts → Entry → Type 0
IsWithin body None = Unit {0}
IsWithin body (Some t) = has_in body t ≡ true

pub choose_taken : (c : Course) (e : Exp) (body : Stmts) (K : Rest) (p q : ℕ) (table : List (ℤ × ℕ)) (other : ℕ)
    → ((s : State) → c.at p s ≡ bind (stmt c.activation c.enter c.again (Switch e body) None s) K)
    → Agrees c (suc p) (remains_in c.activation c.enter c.again body (in_switch c.again (Switch e body) K)) → suc p + steps_in body ≡ q → ((s : State) → K Normal s ≡ c.at q s)
    → ((v : ℤ) → IsWithin body (case_for (has_in body) v)) → ((v : ℤ) → entry_place (suc p) q body (case_for (has_in body) v) ≡ place_for v table other)
    → (s : State) → c.at p s ≡ taken c.activation c.enter c.end c.at p (Choose e table other) s
choose_taken c e body K p q table other h inner count k there same s = h s ∙ by (scalar_value c.activation s.memory e >>= number_in)
  where
    short : (t : Target) → place_in t body ≤ length (remains_in c.activation c.enter c.again body (in_switch c.again (Switch e body) K))
    short t =
        let all : length (remains_in c.activation c.enter c.again body (in_switch c.again (Switch e body) K)) ≡ steps_in body = counted_in c.activation c.enter c.again body (in_switch c.again (Switch e body) K) in
        let some : place_in t body ≤ steps_in body = within_in t body in
        omega arith

    whole : suc p + length (remains_in c.activation c.enter c.again body (in_switch c.again (Switch e body) K)) ≡ q
    whole = let all : length (remains_in c.activation c.enter c.again body (in_switch c.again (Switch e body) K)) ≡ steps_in body = counted_in c.activation c.enter c.again body (in_switch c.again (Switch e body) K) in omega arith

    at_entry : (en : Entry) → IsWithin body en → bind (caught (has (Switch e body)) (switched en (stmts c.activation c.enter c.again body) s) (c.again (Switch e body))) K ≡ c.at (entry_place (suc p) q body en) s
    at_entry None w = k s
    at_entry (Some t) w =
        sym (bind_twice (stmts c.activation c.enter c.again body (Some t) s) broken_off (after (has (Switch e body)) (spending (c.again (Switch e body)))) K)
        ∙ (sym (enters_in c.activation c.enter c.again t body (in_switch c.again (Switch e body) K) s w)
        ∙ entering c (remains_in c.activation c.enter c.again body (in_switch c.again (Switch e body) K)) (in_switch c.again (Switch e body) K Normal) (suc p) q (place_in t body) (suc p + place_in t body) whole refl (short t) inner k s)

    by : (o : Option ℤ) → bind (caught (has (Switch e body)) (bind (pure s o) (λ v t. switched (case_for (has_in body) v) (stmts c.activation c.enter c.again body) t)) (c.again (Switch e body))) K ≡ bind (pure s o) (λ v. c.at (place_for v table other))
    by None = refl
    by (Some v) = at_entry (case_for (has_in body) v) (there v) ∙ ap (λ i. c.at i s) (same v)

-- where a turn of a loop begins, a unit is spent
pub turn_taken : (c : Course) → IsSteady c → (body : Stmts) (K : Rest) (p m : ℕ)
    → Agrees c (suc p) (remains_in c.activation c.enter c.again body (in_turn c.again (Loop body) (turn (c.again (Loop body) None) (stmts c.activation c.enter c.again body)) K)) → suc p + steps_in body ≡ m
    → ((s : State) → in_turn c.again (Loop body) (turn (c.again (Loop body) None) (stmts c.activation c.enter c.again body)) K Normal s ≡ c.at m s)
    → (s : State) → bind (caught (has (Loop body)) (turn (c.again (Loop body) None) (stmts c.activation c.enter c.again body) s) (c.again (Loop body))) K ≡ spend s (c.at (suc p))
turn_taken c steady body K p m inner count k s =
    ap (λ r. bind r K) (bind_spend s (λ t. turn_ends (stmts c.activation c.enter c.again body None t) (c.again (Loop body) None)) (after (has (Loop body)) (spending (c.again (Loop body)))))
    ∙ (bind_spend s (λ t. caught (has (Loop body)) (turn_ends (stmts c.activation c.enter c.again body None t) (c.again (Loop body) None)) (c.again (Loop body))) K
    ∙ spend_same s (λ t. bind (caught (has (Loop body)) (turn_ends (stmts c.activation c.enter c.again body None t) (c.again (Loop body) None)) (c.again (Loop body))) K) (c.at (suc p)) (λ t.
    next_turn (stmts c.activation c.enter c.again body None t)
    ∙ (sym (bind_twice (stmts c.activation c.enter c.again body None t) (turned (turn (c.again (Loop body) None) (stmts c.activation c.enter c.again body))) (after (has (Loop body)) (spending (c.again (Loop body)))) K)
    ∙ (sym (starts_in c.activation c.enter c.again body (in_turn c.again (Loop body) (turn (c.again (Loop body) None) (stmts c.activation c.enter c.again body)) K) t)
    ∙ starting c (remains_in c.activation c.enter c.again body (in_turn c.again (Loop body) (turn (c.again (Loop body) None) (stmts c.activation c.enter c.again body)) K))
    (in_turn c.again (Loop body) (turn (c.again (Loop body) None) (stmts c.activation c.enter c.again body)) K Normal) (suc p) m whole inner k t))))
  where
    whole : suc p + length (remains_in c.activation c.enter c.again body (in_turn c.again (Loop body) (turn (c.again (Loop body) None) (stmts c.activation c.enter c.again body)) K)) ≡ m
    whole =
        let all : length (remains_in c.activation c.enter c.again body (in_turn c.again (Loop body) (turn (c.again (Loop body) None) (stmts c.activation c.enter c.again body)) K)) ≡ steps_in body =
        counted_in c.activation c.enter c.again body (in_turn c.again (Loop body) (turn (c.again (Loop body) None) (stmts c.activation c.enter c.again body)) K) in
        omega arith

    -- the next turn is the loop again, which catches the jumps into itself already
    next_turn : (r : Result Signal) → bind (caught (has (Loop body)) (turn_ends r (c.again (Loop body) None)) (c.again (Loop body))) K
        ≡ bind (caught (has (Loop body)) (turn_ends r (turn (c.again (Loop body) None) (stmts c.activation c.enter c.again body))) (c.again (Loop body))) K
    next_turn (Goes Normal t) = ap (λ r. bind r K) (caught_once (has (Loop body)) (c.again (Loop body) None t) (c.again (Loop body)) (steady.quiet (Loop body) None t) ∙ steady.fixed (Loop body) None t)
    next_turn (Goes Broken t) = refl
    next_turn (Goes (Jumped x) t) = refl
    next_turn (Goes (Returned v) t) = refl
    next_turn (Exits status t) = refl
    next_turn (Running t) = refl
    next_turn (Undefined t) = refl
