-- Device: statements of C are matched where calls are, and where what comes behind a spent unit is.
use Rattle.std.proofs.Common.{ℕ, ◌<◌, ◌≤◌, true, false, ◌||◌, List, [], ◌∷◌, ◌++◌, Option, Some, None, arith}
use Rattle.std.specs.Prelude.{slice_get}
use Rattle.byte_mem.specs.declared.values.Byte.TheVariants.{Unknown as Blank}
use Rattle.byte_mem.specs.Memory.{make}
use Rattle.byte_mem.specs.Operator.{number_in}
use Rattle.byte_mem.specs.declared.values.Value.{Value}
use Rattle.execution.specs.States.{State, Result, Goes, last}
use Rattle.execution.specs.Data.{Datum, Automatic}
use Rattle.execution.specs.Jumps.{ToLabel, ToContinue, Entry, Signal, Normal, Broken, Jumped, Returned, Goer}
use Rattle.execution.specs.Loops.{nowhere, at_end, asked, asked_first, Entered, Body, Iterations}
use Rattle.execution.specs.Calls.{Enter, scoped}
use Rattle.execution.specs.Likeness.{Later, Needs}
use Rattle.execution.specs.Bounds.{cut_at}
use Rattle.typed_tree.specs.Tree.{Inits}
use Rattle.typed_tree.specs.Statements as typed
use Rattle.typed_tree.specs.Statements.{Stmt}
use Rattle.typed_tree.specs.Units.{Local as LocalObject}
use Rattle.c_tree.specs.Syntax.{ExprTree, SpecifierTrees, DeclaratorTree, InitTree}
use Rattle.c_tree.specs.Units.{DeclarationTree, Declares, Asserts, ForStart, StartExpr, StartDeclaration, StmtTree, Labelled, Case, Default, Compound, Expression, If, IfElse, Switch, While, Do, For, Goto, Continue, Break, Return, BlockItem, Declaring, Doing, BlockItems, NoItems, MoreItems}
use Rattle.c_rules.specs.Types.{size_in}
use Rattle.c_rules.specs.Conversions.{promoted_shape, shape_of}
use Rattle.c_typing.specs.Specifiers.{Position, InBlock, InFor}
use Rattle.c_typing.specs.Steps.{Base, base_with}
use Rattle.c_typing.specs.Walk.{expr, named}
use Rattle.c_typing.specs.Statements.{in_a_loop, labels, number_or_none, default_label, maybe, effect, test, selector, start_of, statement, declarator, is_alone}
use Rattle.typed_values.specs.Values.{single_in}
use Rattle.c_semantics.specs.Places.{Activation, Here, entered, local_of, objects_between, arrays_between, in_block, literals_in, literals_in_maybe, own_literals_in, literal_objects}
use Rattle.c_semantics.specs.Walks.{declared, item, substatement, case_label}
use Rattle.c_semantics.specs.Operations.{Action}
use Rattle.c_semantics.specs.Statements.{made_anew, object_of, initialises, arrives, c_declarators, c_declaration, ended, c_effect, c_maybe_effect, c_test, c_maybe_test, c_selector, c_return, c_start, within_loop, opens, labelled, cased, defaulted, has, has_in, has_item, has_inside, passing, nothing, Part, Again, block_items, block, own_block, whole, sub_of, iterated, c_entered, c_items, c_item, c_part, item_objects}
use Rattle.c_semantics.proofs.Matched.{Matched, Ready, gives_matched, undefined_matched, known_matched, changes_matched, bind_matched, leaves_matched, scoped_matched}
use Rattle.c_semantics.proofs.Nodes.{used_m, taken_m, tested_m, initialised_m, steps_of_m}
use Rattle.c_semantics.proofs.ExpressionsMatch.{parts_m, operand_m, typed_m, maybe_m, stmts_m, exp_m, init_m}
use Rattle.c_semantics.proofs.Control.{MatchedGoer, caught_m, seq_m, if_m, switch_m, loop_m, at_end_m, asked_m, asked_first_m, started_m, ended_m}

-- declarations

made_anew_m : {n more : ℕ} {base : List ℕ} (a : Activation) (i : ℕ) (l : LocalObject) → Matched n more base (made_anew a i l) (made_anew a i l)
made_anew_m a i l = bind_matched {A = ℕ} (known_matched (size_in a.types l.shape)) (λ size. changes_matched (λ m. Some (make m (local_of a i) size Blank false)))

initialises_m : {n more : ℕ} {base : List ℕ} (a : Activation) {enter also : Enter} → Ready n more base enter also → (i : ℕ) (l : LocalObject) (x : Option InitTree) (is : Inits) (h : Here)
    → Matched n more base (initialises a enter (object_of a i l) x is h) (initialises a also (object_of a i l) x is h)
initialises_m a r i l None is h = undefined_matched
initialises_m a r i l (Some x) is h = initialised_m (object_of a i l) (steps_of_m a (object_of a i l) is h (λ o q. init_m a r o x q))

arrives_m : {n more : ℕ} {base : List ℕ} (a : Activation) {enter also : Enter} → Ready n more base enter also → (ss : SpecifierTrees) (b : Base) (x : DeclaratorTree × Option InitTree) (ds : List Stmt) (h k : Here)
    → Matched n more base (arrives a enter ss b x ds h k) (arrives a also ss b x ds h k)
arrives_m a r ss b x [] h k = gives_matched tt
arrives_m a r ss b x (typed.Declare i None ∷ ds) h k = bind_matched {A = LocalObject} (known_matched (slice_get k.env.locals i)) (λ l. made_anew_m a i l)
arrives_m a r ss b x (typed.Declare i (Some is) ∷ ds) h k = parts_m (declared ss b x.0) h (λ m j. bind_matched {A = LocalObject} (known_matched (slice_get k.env.locals i)) (λ l. initialises_m a r i l x.1 is j))
arrives_m a r ss b x (typed.Expr e ∷ ds) h k = gives_matched tt
arrives_m a r ss b x (typed.Block qs ∷ ds) h k = gives_matched tt
arrives_m a r ss b x (typed.If e qs rs ∷ ds) h k = gives_matched tt
arrives_m a r ss b x (typed.Switch e qs ∷ ds) h k = gives_matched tt
arrives_m a r ss b x (typed.While e qs ∷ ds) h k = gives_matched tt
arrives_m a r ss b x (typed.Do qs e ∷ ds) h k = gives_matched tt
arrives_m a r ss b x (typed.For qs e f rs ∷ ds) h k = gives_matched tt
arrives_m a r ss b x (typed.Label i ∷ ds) h k = gives_matched tt
arrives_m a r ss b x (typed.Case kind v ∷ ds) h k = gives_matched tt
arrives_m a r ss b x (typed.Default ∷ ds) h k = gives_matched tt
arrives_m a r ss b x (typed.Goto i ∷ ds) h k = gives_matched tt
arrives_m a r ss b x (typed.Break ∷ ds) h k = gives_matched tt
arrives_m a r ss b x (typed.Continue ∷ ds) h k = gives_matched tt
arrives_m a r ss b x (typed.Return e ∷ ds) h k = gives_matched tt

declarators_m : {n more : ℕ} {base : List ℕ} (a : Activation) {enter also : Enter} → Ready n more base enter also → (ss : SpecifierTrees) (b : Base) (xs : List (DeclaratorTree × Option InitTree)) (h : Here)
    → Matched n more base (c_declarators a enter ss b xs h) (c_declarators a also ss b xs h)
declarators_m a r ss b [] h = gives_matched tt
declarators_m a r ss b (x ∷ xs) h = stmts_m (declarator ss b x) h (λ ds k. bind_matched {A = Unit {0}} (arrives_m a r ss b x ds h k) (λ u. declarators_m a r ss b xs k))

declaration_m : {n more : ℕ} {base : List ℕ} (a : Activation) {enter also : Enter} → Ready n more base enter also → (p : Position) (d : DeclarationTree) (h : Here) → Matched n more base (c_declaration a enter p d h) (c_declaration a also p d h)
declaration_m a r p (Declares at ss xs) h = parts_m (base_with p ss (named (is_alone ss xs) ss)) h (λ b k. declarators_m a r ss b xs k)
declaration_m a r p (Asserts at c message_at message) h = gives_matched tt

-- expressions in statements

effect_m : {n more : ℕ} {base : List ℕ} (a : Activation) {enter also : Enter} → Ready n more base enter also → (e : ExprTree) (h : Here) → Matched n more base (c_effect a enter e h) (c_effect a also e h)
effect_m a r e h = operand_m (expr e) h (λ x k. bind_matched {A = Datum} (used_m a x (exp_m a r e h)) (λ d. gives_matched tt))

maybe_effect_m : {n more : ℕ} {base : List ℕ} (a : Activation) {enter also : Enter} → Ready n more base enter also → (e : Option ExprTree) (h : Here) → Matched n more base (c_maybe_effect a enter e h) (c_maybe_effect a also e h)
maybe_effect_m a r None h = gives_matched tt
maybe_effect_m a r (Some e) h = effect_m a r e h

test_m : {n more : ℕ} {base : List ℕ} (a : Activation) {enter also : Enter} → Ready n more base enter also → (c : ExprTree) (h : Here) → Matched n more base (c_test a enter c h) (c_test a also c h)
test_m a r c h = operand_m (expr c) h (λ x k. tested_m a x (exp_m a r c h))

maybe_test_m : {n more : ℕ} {base : List ℕ} (a : Activation) {enter also : Enter} → Ready n more base enter also → (c : Option ExprTree) (h : Here) → Matched n more base (c_maybe_test a enter c h) (c_maybe_test a also c h)
maybe_test_m a r None h = gives_matched true
maybe_test_m a r (Some c) h = test_m a r c h

selector_m : {n more : ℕ} {base : List ℕ} (a : Activation) {enter also : Enter} → Ready n more base enter also → (e : ExprTree) (h : Here) → Matched n more base (c_selector a enter e h) (c_selector a also e h)
selector_m a r e h = operand_m (expr e) h (λ x k. bind_matched {A = Datum} (taken_m a x (promoted_shape k.env.types (shape_of x)) (exp_m a r e h)) (λ d. bind_matched {A = Value} (known_matched (single_in d)) (λ v. known_matched (number_in v))))

return_m : {n more : ℕ} {base : List ℕ} (a : Activation) {enter also : Enter} → Ready n more base enter also → (e : Option ExprTree) (h : Here) → Matched n more base (c_return a enter e h) (c_return a also e h)
return_m a r None h = gives_matched (Returned None)
return_m a r (Some e) h = operand_m (expr e) h (λ x k. bind_matched {A = Datum} (taken_m a x h.place.result (exp_m a r e h)) (λ d. gives_matched (Returned (Some d))))

start_m : {n more : ℕ} {base : List ℕ} (a : Activation) {enter also : Enter} → Ready n more base enter also → (start : ForStart) (h : Here) → Matched n more base (c_start a enter start h) (c_start a also start h)
start_m a r (StartExpr e) h = maybe_effect_m a r e h
start_m a r (StartDeclaration d) h = declaration_m a r InFor d h

-- blocks

in_block_m : {n more : ℕ} {base : List ℕ} (a : Activation) (objects : List Automatic) (arrays : List ℕ) (go to : Action Signal) → Matched n more base go to → Matched n more base (in_block a objects arrays go) (in_block a objects arrays to)
in_block_m a objects arrays go to m = leaves_matched a.number arrays {go = scoped a.number objects go} {to = scoped a.number objects to} (scoped_matched a.number objects m)

block_items_m : {n more : ℕ} {base : List ℕ} (a : Activation) (is : BlockItems) (h : Here) (go to : List Automatic → Here → State → Result Signal) → ((xs : List Automatic) (k : Here) → Matched n more base (go xs k) (to xs k)) → Matched n more base (block_items a is h go) (block_items a is h to)
block_items_m a NoItems h go to m = m [] h
block_items_m a (MoreItems i is) h go to m = stmts_m (item h.place i) h (λ ss k. block_items_m a is k (λ xs end. go (item_objects a i ss h k ++ xs) end) (λ xs end. to (item_objects a i ss h k ++ xs) end) (λ xs end. m (item_objects a i ss h k ++ xs) end))

pub block_m : {n more : ℕ} {base : List ℕ} (a : Activation) (is : BlockItems) (h : Here) (go to : Action Signal) → Matched n more base go to → Matched n more base (block a is h go) (block a is h to)
block_m a is h go to m = block_items_m a is h (λ xs end. in_block a xs (arrays_between a h end) go) (λ xs end. in_block a xs (arrays_between a h end) to) (λ xs end. in_block_m a xs (arrays_between a h end) go to m)

own_block_m : {n more : ℕ} {base : List ℕ} (a : Activation) (h k : Here) (literals : List ℕ) (go to : Action Signal) → Matched n more base go to → Matched n more base (own_block a h k literals go) (own_block a h k literals to)
own_block_m a h k literals go to m = in_block_m a (objects_between a h k literals) (arrays_between a h k) go to m

whole_m : {n more : ℕ} {base : List ℕ} (a : Activation) (x : StmtTree) (go to : Here → Goer) → ((k : Here) → MatchedGoer n more base (go k) (to k)) → (h : Here) → MatchedGoer n more base (whole a go x h) (whole a to x h)
whole_m a (Labelled at x y) go to m h en = m h en
whole_m a (Case at e y) go to m h en = m h en
whole_m a (Default at y) go to m h en = m h en
whole_m a (Compound at is) go to m h en = block_m a is (entered h) (go (entered h) en) (to (entered h) en) (m (entered h) en)
whole_m a (Expression at e) go to m h en = m h en
whole_m a (If at c y) go to m h en = typed_m (test c) (entered h) (λ e k. own_block_m a (entered h) k (literals_in e) (go (entered h) en) (to (entered h) en) (m (entered h) en))
whole_m a (IfElse at c y z) go to m h en = typed_m (test c) (entered h) (λ e k. own_block_m a (entered h) k (literals_in e) (go (entered h) en) (to (entered h) en) (m (entered h) en))
whole_m a (Switch at e y) go to m h en = typed_m (selector e) (entered h) (λ x k. own_block_m a (entered h) k (literals_in x) (go (entered h) en) (to (entered h) en) (m (entered h) en))
whole_m a (While at c y) go to m h en = typed_m (test c) (entered h) (λ e k. own_block_m a (entered h) k (literals_in e) (go (entered h) en) (to (entered h) en) (m (entered h) en))
whole_m a (Do at y c) go to m h en = stmts_m (substatement (in_a_loop h.place) y) (entered h) (λ ss k. typed_m (test c) k (λ e j. own_block_m a k j (literals_in e) (go (entered h) en) (to (entered h) en) (m (entered h) en)))
whole_m a (For at start c step y) go to m h en = stmts_m (start_of start) (entered h) (λ ss k. maybe_m (maybe test c) k (λ e j. maybe_m (maybe effect step) j (λ f i. own_block_m a (entered h) i (own_literals_in ss ++ (literals_in_maybe e ++ literals_in_maybe f)) (go (entered h) en) (to (entered h) en) (m (entered h) en))))
whole_m a (Goto at x) go to m h en = m h en
whole_m a (Continue at) go to m h en = m h en
whole_m a (Break at) go to m h en = m h en
whole_m a (Return at e) go to m h en = m h en

-- what is known where at most so many units are left
pub record Within (n more : ℕ) (base : List ℕ) (enter also : Enter) (again once : Again) : Type 0 where
  pub calls : (m : ℕ) → m ≤ n → Ready m more base enter also
  pub behind : (m : ℕ) → m < n → (x : Part) → MatchedGoer m more base (again x) (once x)
  pub grows : (x : Part) (en : Entry) → Needs (cut_at more) ((t : State) → Later t (last (once x en t)))

lower : {n more : ℕ} {base : List ℕ} {enter also : Enter} {again once : Again} (m : ℕ) → m ≤ n → Within n more base enter also again once → Within m more base enter also again once
lower m l w = record { calls = λ k j. w.calls k (omega (arith, l, j)); behind = λ k j. w.behind k (omega (arith, l, j)); grows = w.grows }

now : {n more : ℕ} {base : List ℕ} {enter also : Enter} {again once : Again} → Within n more base enter also again once → Ready n more base enter also
now {n} w = w.calls n (omega arith)

sub_m : {n more : ℕ} {base : List ℕ} (a : Activation) {enter also : Enter} {again once : Again} → Within n more base enter also again once → (x : StmtTree) (go to : Here → Goer) → ((k : Here) → MatchedGoer n more base (go k) (to k)) → (h : Here)
    → MatchedGoer n more base (sub_of a again x go h) (sub_of a once x to h)
sub_m a {again = again} {once = once} w x go to m h en = stmts_m (statement h.place x) h (λ ss k. in_block_m a (literal_objects a k.env.literals (own_literals_in ss)) (arrays_between a h k) _ _
    (caught_m (has x h) (whole a go x h en) (whole a to x h en) (again (Body x h)) (once (Body x h)) (whole_m a x go to m h en) (λ i l. w.behind i l (Body x h)) (w.grows (Body x h))))

iterated_m : {n more : ℕ} {base : List ℕ} (a : Activation) {enter also : Enter} {again once : Again} → Within n more base enter also again once → (c step : Option ExprTree) (y : StmtTree) (go to : Here → Goer)
    → ((m : ℕ) → m ≤ n → (k : Here) → MatchedGoer m more base (go k) (to k)) → (h : Here) → MatchedGoer n more base (iterated a enter again c step y go h) (iterated a also once c step y to h)
iterated_m a {enter} {also} {again} {once} w c step y go to m h en = maybe_m (maybe test c) h (λ e k. maybe_m (maybe effect step) k (λ f j.
    loop_m (again (Iterations c step y h) None) (once (Iterations c step y h) None)
    (asked_first (c_maybe_test a enter c h) (at_end (ended (c_maybe_effect a enter step k)) (go (entered (within_loop j))))) (asked_first (c_maybe_test a also c h) (at_end (ended (c_maybe_effect a also step k)) (to (entered (within_loop j)))))
    (λ i l. w.behind i l (Iterations c step y h) None)
    (λ i l. asked_first_m (c_maybe_test a enter c h) (c_maybe_test a also c h) (at_end (ended (c_maybe_effect a enter step k)) (go (entered (within_loop j)))) (at_end (ended (c_maybe_effect a also step k)) (to (entered (within_loop j))))
    (maybe_test_m a (w.calls i l) c h) (at_end_m (ended (c_maybe_effect a enter step k)) (ended (c_maybe_effect a also step k)) (go (entered (within_loop j))) (to (entered (within_loop j))) (ended_m (c_maybe_effect a enter step k) (c_maybe_effect a also step k) (maybe_effect_m a (w.calls i l) step k)) (m i l (entered (within_loop j)))))
    (w.grows (Iterations c step y h) None) en))

mutual
  pub entered_m : {more : ℕ} {base : List ℕ} (a : Activation) {enter also : Enter} {again once : Again} (x : StmtTree) (n : ℕ) → Within n more base enter also again once → (h : Here) → MatchedGoer n more base (c_entered a enter again x h) (c_entered a also once x h)
  entered_m a {enter} {also} {again} {once} (Labelled at x y) n w h en = parts_m (labels at x) h (λ u k. whole_m a y (c_entered a enter again y) (c_entered a also once y) (λ j. entered_m a y n w j) k (passing (labelled (number_or_none h.place x)) en))
  entered_m a {enter} {also} {again} {once} (Case at e y) n w h en = parts_m (case_label at e) h (λ c k. whole_m a y (c_entered a enter again y) (c_entered a also once y) (λ j. entered_m a y n w j) k (passing (cased c) en))
  entered_m a {enter} {also} {again} {once} (Default at y) n w h en = parts_m (default_label at) h (λ c k. whole_m a y (c_entered a enter again y) (c_entered a also once y) (λ j. entered_m a y n w j) k (passing defaulted en))
  entered_m a {enter} {also} {again} {once} (Compound at is) n w h en = caught_m (has_in is h) (c_items a enter again is h en) (c_items a also once is h en) (again (Entered (Compound at is) h)) (once (Entered (Compound at is) h)) (items_m a is n w h en) (λ i l. w.behind i l (Entered (Compound at is) h)) (w.grows (Entered (Compound at is) h))
  entered_m a (Expression at e) n w h en = ended_m _ _ (maybe_effect_m a (now w) e h)
  entered_m a {enter} {also} {again} {once} (If at c y) n w h en = typed_m (test c) h (λ e k. caught_m (has y (entered k)) _ _ (again (Entered (If at c y) h)) (once (Entered (If at c y) h))
      (if_m (c_test a enter c h) (c_test a also c h) (has y (entered k)) nowhere (sub_of a again y (c_entered a enter again y) (entered k)) (sub_of a once y (c_entered a also once y) (entered k)) nothing nothing
      (test_m a (now w) c h) (sub_m a w y (c_entered a enter again y) (c_entered a also once y) (λ j. entered_m a y n w j) (entered k)) (λ en. gives_matched Normal) en)
      (λ i l. w.behind i l (Entered (If at c y) h)) (w.grows (Entered (If at c y) h)))
  entered_m a {enter} {also} {again} {once} (IfElse at c y z) n w h en = typed_m (test c) h (λ e k. stmts_m (substatement k.place y) k (λ ss j. caught_m (λ x. has y (entered k) x || has z (entered j) x) _ _ (again (Entered (IfElse at c y z) h)) (once (Entered (IfElse at c y z) h))
      (if_m (c_test a enter c h) (c_test a also c h) (has y (entered k)) (has z (entered j)) (sub_of a again y (c_entered a enter again y) (entered k)) (sub_of a once y (c_entered a also once y) (entered k)) (sub_of a again z (c_entered a enter again z) (entered j)) (sub_of a once z (c_entered a also once z) (entered j))
      (test_m a (now w) c h) (sub_m a w y (c_entered a enter again y) (c_entered a also once y) (λ i. entered_m a y n w i) (entered k)) (sub_m a w z (c_entered a enter again z) (c_entered a also once z) (λ i. entered_m a z n w i) (entered j)) en)
      (λ i l. w.behind i l (Entered (IfElse at c y z) h)) (w.grows (Entered (IfElse at c y z) h))))
  entered_m a {enter} {also} {again} {once} (Switch at e y) n w h en = typed_m (selector e) h (λ x k. caught_m (has_inside y (entered (opens x h k))) _ _ (again (Entered (Switch at e y) h)) (once (Entered (Switch at e y) h))
      (switch_m (c_selector a enter e h) (c_selector a also e h) (has y (entered (opens x h k))) (sub_of a again y (c_entered a enter again y) (entered (opens x h k))) (sub_of a once y (c_entered a also once y) (entered (opens x h k)))
      (selector_m a (now w) e h) (sub_m a w y (c_entered a enter again y) (c_entered a also once y) (λ j. entered_m a y n w j) (entered (opens x h k))) en)
      (λ i l. w.behind i l (Entered (Switch at e y) h)) (w.grows (Entered (Switch at e y) h)))
  entered_m a {enter} {also} {again} {once} (While at c y) n w h en = typed_m (test c) h (λ e k. caught_m (has y (entered (within_loop k))) _ _ (again (Entered (While at c y) h)) (once (Entered (While at c y) h))
      (loop_m (again (Entered (While at c y) h) None) (once (Entered (While at c y) h) None)
      (asked_first (c_test a enter c h) (at_end (Goes Normal) (sub_of a again y (c_entered a enter again y) (entered (within_loop k))))) (asked_first (c_test a also c h) (at_end (Goes Normal) (sub_of a once y (c_entered a also once y) (entered (within_loop k)))))
      (λ i l. w.behind i l (Entered (While at c y) h) None)
      (λ i l. asked_first_m (c_test a enter c h) (c_test a also c h) _ _ (test_m a (w.calls i l) c h) (at_end_m (Goes Normal) (Goes Normal) (sub_of a again y (c_entered a enter again y) (entered (within_loop k))) (sub_of a once y (c_entered a also once y) (entered (within_loop k))) (gives_matched Normal)
      (sub_m a (lower i l w) y (c_entered a enter again y) (c_entered a also once y) (λ j. entered_m a y i (lower i l w) j) (entered (within_loop k)))))
      (w.grows (Entered (While at c y) h) None) en)
      (λ i l. w.behind i l (Entered (While at c y) h)) (w.grows (Entered (While at c y) h)))
  entered_m a {enter} {also} {again} {once} (Do at y c) n w h en = stmts_m (substatement (in_a_loop h.place) y) h (λ ss k. caught_m (has y (entered (within_loop h))) _ _ (again (Entered (Do at y c) h)) (once (Entered (Do at y c) h))
      (loop_m (again (Entered (Do at y c) h) None) (once (Entered (Do at y c) h) None)
      (at_end (asked (c_test a enter c k) (Goes Normal)) (sub_of a again y (c_entered a enter again y) (entered (within_loop h)))) (at_end (asked (c_test a also c k) (Goes Normal)) (sub_of a once y (c_entered a also once y) (entered (within_loop h))))
      (λ i l. w.behind i l (Entered (Do at y c) h) None)
      (λ i l. at_end_m (asked (c_test a enter c k) (Goes Normal)) (asked (c_test a also c k) (Goes Normal)) (sub_of a again y (c_entered a enter again y) (entered (within_loop h))) (sub_of a once y (c_entered a also once y) (entered (within_loop h)))
      (asked_m (c_test a enter c k) (c_test a also c k) (Goes Normal) (Goes Normal) (test_m a (w.calls i l) c k) (gives_matched Normal))
      (sub_m a (lower i l w) y (c_entered a enter again y) (c_entered a also once y) (λ j. entered_m a y i (lower i l w) j) (entered (within_loop h))))
      (w.grows (Entered (Do at y c) h) None) en)
      (λ i l. w.behind i l (Entered (Do at y c) h)) (w.grows (Entered (Do at y c) h)))
  entered_m a {enter} {also} {again} {once} (For at start c step y) n w h en = stmts_m (start_of start) h (λ ss k. caught_m (has (For at start c step y) h) _ _ (again (Entered (For at start c step y) h)) (once (Entered (For at start c step y) h))
      (started_m (λ e. ended (c_start a enter start h)) (λ e. ended (c_start a also start h)) (iterated a enter again c step y (sub_of a again y (c_entered a enter again y)) k) (iterated a also once c step y (sub_of a once y (c_entered a also once y)) k)
      (ended_m (c_start a enter start h) (c_start a also start h) (start_m a (now w) start h)) (iterated_m a w c step y (sub_of a again y (c_entered a enter again y)) (sub_of a once y (c_entered a also once y))
      (λ i l j. sub_m a (lower i l w) y (c_entered a enter again y) (c_entered a also once y) (λ q. entered_m a y i (lower i l w) q) j) k) en)
      (λ i l. w.behind i l (Entered (For at start c step y) h)) (w.grows (Entered (For at start c step y) h)))
  entered_m a (Goto at x) n w h en = gives_matched (Jumped (ToLabel (number_or_none h.place x)))
  entered_m a (Continue at) n w h en = gives_matched (Jumped ToContinue)
  entered_m a (Break at) n w h en = gives_matched Broken
  entered_m a (Return at e) n w h en = return_m a (now w) e h

  items_m : {more : ℕ} {base : List ℕ} (a : Activation) {enter also : Enter} {again once : Again} (is : BlockItems) (n : ℕ) → Within n more base enter also again once → (h : Here) → MatchedGoer n more base (c_items a enter again is h) (c_items a also once is h)
  items_m a NoItems n w h en = gives_matched Normal
  items_m a {enter} {also} {again} {once} (MoreItems i is) n w h en = stmts_m (item h.place i) h (λ ss k. seq_m (has_item i h) (has_in is k) (c_item a enter again i h) (c_item a also once i h) (c_items a enter again is k) (c_items a also once is k) (item_m a i n w h) (items_m a is n w k) en)

  item_m : {more : ℕ} {base : List ℕ} (a : Activation) {enter also : Enter} {again once : Again} (i : BlockItem) (n : ℕ) → Within n more base enter also again once → (h : Here) → MatchedGoer n more base (c_item a enter again i h) (c_item a also once i h)
  item_m a (Declaring d) n w h en = ended_m _ _ (declaration_m a (now w) InBlock d h)
  item_m a {enter} {also} {again} {once} (Doing y) n w h en = whole_m a y (c_entered a enter again y) (c_entered a also once y) (λ j. entered_m a y n w j) h en

-- one step of the meaning
pub part_m : {more : ℕ} {base : List ℕ} (a : Activation) {enter also : Enter} {again once : Again} (x : Part) (n : ℕ) → Within n more base enter also again once → MatchedGoer n more base (c_part a enter again x) (c_part a also once x)
part_m a (Entered x h) n w en = entered_m a x n w h en
part_m a {enter} {also} {again} {once} (Body x h) n w en = caught_m (has x h) (whole a (c_entered a enter again x) x h en) (whole a (c_entered a also once x) x h en) (again (Body x h)) (once (Body x h))
    (whole_m a x (c_entered a enter again x) (c_entered a also once x) (λ j. entered_m a x n w j) h en) (λ i l. w.behind i l (Body x h)) (w.grows (Body x h))
part_m a {enter} {also} {again} {once} (Iterations c step y h) n w en = iterated_m a w c step y (sub_of a again y (c_entered a enter again y)) (sub_of a once y (c_entered a also once y))
    (λ i l j. sub_m a (lower i l w) y (c_entered a enter again y) (c_entered a also once y) (λ q. entered_m a y i (lower i l w) q) j) h en
