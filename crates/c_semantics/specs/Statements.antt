-- Definition: what statements of C do (C11 6.7, 6.8); the constructs are those of all languages here. A statement is entered at its start, or at a label or case in it, and its objects live while its block runs.
use Rattle.std.specs.Prelude.{ℕ, Bool, true, false, ◌&&◌, ◌||◌, nat_eq, List, [], ◌∷◌, ◌++◌, Option, Some, None, slice_get, ℤ}
use Rattle.std.specs.Ordering.{int_eq}
use Rattle.byte_mem.specs.declared.values.Byte.TheVariants.{Unknown as Blank}
use Rattle.byte_mem.specs.Memory.{make}
use Rattle.byte_mem.specs.Operator.{number_in}
use Rattle.execution.specs.States.{State, Result, Goes, Undefined, bind}
use Rattle.execution.specs.Unrolling.{Step, meaning}
use Rattle.execution.specs.Data.{Automatic}
use Rattle.execution.specs.Jumps.{Target, ToLabel, ToCase, ToDefault, ToContinue, Entry, Signal, Normal, Broken, Jumped, Returned, Has, Goer, caught, seq_from, if_from, switch_from, loop_from}
use Rattle.execution.specs.Loops.{nowhere, at_end, asked, asked_first, started, PartOf, Entered, Body, Iterations}
use Rattle.execution.specs.Calls.{Enter}
use Rattle.typed_tree.specs.Tree.{Typed, Inits}
use Rattle.typed_tree.specs.Statements.{Stmt, Declare, Case as When, Expr as AnExpression, Block as ABlock, If as AnIf, Switch as ASwitch, While as AWhile, Do as ADo, For as AFor, Label as ALabel, Goto as AGoto, Break as ABreak, Continue as AContinue, Return as AReturn, Default as ADefault}
use Rattle.typed_tree.specs.Units.{Local as LocalObject}
use Rattle.c_tree.specs.Syntax.{ExprTree, SpecifierTrees, DeclaratorTree, InitTree}
use Rattle.c_tree.specs.Units.{DeclarationTree, Declares, Asserts, ForStart, StartExpr, StartDeclaration, StmtTree, Labelled, Case, Default, Compound, Expression, If, IfElse, Switch, While, Do, For, Goto, Continue, Break, Return, BlockItem, Declaring, Doing, BlockItems, NoItems, MoreItems}
use Rattle.c_rules.specs.Types.{any_of, size_in}
use Rattle.c_rules.specs.Conversions.{promoted_shape, shape_of}
use Rattle.c_typing.specs.Specifiers.{Position, InBlock, InFor}
use Rattle.c_typing.specs.Steps.{Base, base_with}
use Rattle.c_typing.specs.Walk.{expr, named}
use Rattle.c_typing.specs.Statements.{in_a_loop, in_a_switch, labels, labels_in, labels_in_items, number_or_none, kind_or_int, default_label, maybe, effect, test, selector, start_of, statement, declarator, is_alone}
use Rattle.c_semantics.specs.Places.{Activation, Here, undefined, with_walk, with_parts, with_operand, with_typed, with_maybe, with_stmts, entered, local_of, objects_between, arrays_between, in_block, literals_in, literals_in_maybe, own_literals_in, literal_objects}
use Rattle.c_semantics.specs.Walks.{declared, item, substatement, case_label}
use Rattle.c_semantics.specs.Operations.{Action, ◌>>=◌, gives, known, changes, used, taken, tested, single, Object, initialised, steps_of}
use Rattle.c_semantics.specs.Expressions.{c_exp, c_init}

-- declarations (6.7, 6.2.4p6, 6.8p3)

-- the bytes of an object become unknown where its declaration without an initialiser is reached (6.2.4p6, 6.8p3)
abbrev pub made_anew : Activation → ℕ → LocalObject → Action (Unit {0})
made_anew a n l = do
  size ← known (size_in a.types l.shape)
  changes (λ m. Some (make m (local_of a n) size Blank false))

abbrev pub object_of : Activation → ℕ → LocalObject → Object
object_of a n l = record { name = local_of a n; type = record { quals = l.quals; shape = l.shape } }

-- an object is declared with an initialiser, whose expressions stand at that place
abbrev pub initialises : Activation → Enter → Object → Option InitTree → Inits → Here → Action (Unit {0})
initialises a enter o None is h = λ s. Undefined s
initialises a enter o (Some i) is h = initialised o (steps_of a o is h (λ p. c_init a enter p i))

-- what the walk finds that a declarator declares: nothing that is done here, or an automatic object
abbrev pub arrives : Activation → Enter → SpecifierTrees → Base → DeclaratorTree × Option InitTree → List Stmt → Here → Here → Action (Unit {0})
arrives a enter ss b x (Declare n None ∷ more) h k = do
  l ← known (slice_get k.env.locals n)
  made_anew a n l
arrives a enter ss b x (Declare n (Some is) ∷ more) h k = with_parts (declared ss b x.0) h (λ m j. do
  l ← known (slice_get k.env.locals n)
  initialises a enter (object_of a n l) x.1 is j)
arrives a enter ss b x [] h k = gives tt
arrives a enter ss b x (AnExpression e ∷ more) h k = gives tt
arrives a enter ss b x (ABlock is ∷ more) h k = gives tt
arrives a enter ss b x (AnIf e ys ns ∷ more) h k = gives tt
arrives a enter ss b x (ASwitch e is ∷ more) h k = gives tt
arrives a enter ss b x (AWhile e is ∷ more) h k = gives tt
arrives a enter ss b x (ADo is e ∷ more) h k = gives tt
arrives a enter ss b x (AFor is t u js ∷ more) h k = gives tt
arrives a enter ss b x (ALabel n ∷ more) h k = gives tt
arrives a enter ss b x (When kind v ∷ more) h k = gives tt
arrives a enter ss b x (ADefault ∷ more) h k = gives tt
arrives a enter ss b x (AGoto n ∷ more) h k = gives tt
arrives a enter ss b x (ABreak ∷ more) h k = gives tt
arrives a enter ss b x (AContinue ∷ more) h k = gives tt
arrives a enter ss b x (AReturn e ∷ more) h k = gives tt

-- declarators in the order in which they appear (6.8p3)
abbrev pub c_declarators : Activation → Enter → SpecifierTrees → Base → List (DeclaratorTree × Option InitTree) → Here → State → Result (Unit {0})
c_declarators a enter ss b [] h s = Goes tt s
c_declarators a enter ss b (x ∷ xs) h s = with_stmts undefined (declarator ss b x) h (λ ds k. do
  _ ← arrives a enter ss b x ds h k
  c_declarators a enter ss b xs k) s

abbrev pub c_declaration : Activation → Enter → Position → DeclarationTree → Here → State → Result (Unit {0})
c_declaration a enter p (Declares at ss xs) h s = with_parts (base_with p ss (named (is_alone ss xs) ss)) h (λ b k. c_declarators a enter ss b xs k) s
c_declaration a enter p (Asserts at c message_at message) h s = Goes tt s

-- expressions in statements (6.8.3, 6.8.4.1p2, 6.8.4.2p5, 6.8.6.4)

abbrev pub ended : Action (Unit {0}) → State → Result Signal
ended go s = bind (go s) (λ u. Goes Normal)

-- the value is not used (6.8.3p2)
abbrev pub c_effect : Activation → Enter → ExprTree → Here → State → Result (Unit {0})
c_effect a enter e h s = with_operand (expr e) h (λ x k. do
  _ ← used a x (c_exp a enter e h)
  gives tt) s

abbrev pub c_maybe_effect : Activation → Enter → Option ExprTree → Here → Action (Unit {0})
c_maybe_effect a enter None h = gives tt
c_maybe_effect a enter (Some e) h = c_effect a enter e h

abbrev pub c_test : Activation → Enter → ExprTree → Here → State → Result Bool
c_test a enter c h s = with_operand (expr c) h (λ x k. tested a x (c_exp a enter c h)) s

-- a condition that is left out is a nonzero constant (6.8.5.3p2)
abbrev pub c_maybe_test : Activation → Enter → Option ExprTree → Here → State → Result Bool
c_maybe_test a enter None h s = Goes true s
c_maybe_test a enter (Some c) h s = c_test a enter c h s

-- the value of a switch counts as a test (own), so that one that is no number is undefined
abbrev pub c_selector : Activation → Enter → ExprTree → Here → State → Result ℤ
c_selector a enter e h s = with_operand (expr e) h (λ x k. do
  d ← taken a x (promoted_shape k.env.types (shape_of x)) (c_exp a enter e h)
  v ← single d
  known (number_in v)) s

abbrev pub c_return : Activation → Enter → Option ExprTree → Here → State → Result Signal
c_return a enter None h s = Goes (Returned None) s
c_return a enter (Some e) h s = with_operand (expr e) h (λ x k. do
  d ← taken a x h.place.result (c_exp a enter e h)
  gives (Returned (Some d))) s

abbrev pub c_start : Activation → Enter → ForStart → Here → Action (Unit {0})
c_start a enter (StartExpr e) h = c_maybe_effect a enter e h
c_start a enter (StartDeclaration d) h = c_declaration a enter InFor d h

-- places in statements

abbrev pub within_loop : Here → Here
within_loop h = record h { place = in_a_loop h.place }

abbrev pub within_switch : Here → Here
within_switch h = record h { place = in_a_switch h.place }

abbrev pub opens : Typed → Here → Here → Here
opens e h k = within_switch (record k { env = record k.env { switches = record { kind = kind_or_int k.env.types e; values = []; has_default = false } ∷ k.env.switches } })

-- labels and cases (6.8.1, 6.8.4.2p3)

abbrev pub is_label : Target → Bool
is_label (ToLabel n) = true
is_label (ToCase v) = false
is_label ToDefault = false
is_label ToContinue = false

abbrev pub is_case_of : ℤ → Stmt → Bool
is_case_of v (When kind w) = int_eq v w
is_case_of v (Declare n init) = false
is_case_of v (AnExpression e) = false
is_case_of v (ABlock is) = false
is_case_of v (AnIf e ys ns) = false
is_case_of v (ASwitch e is) = false
is_case_of v (AWhile e is) = false
is_case_of v (ADo is e) = false
is_case_of v (AFor is t u js) = false
is_case_of v (ALabel n) = false
is_case_of v (AGoto n) = false
is_case_of v ABreak = false
is_case_of v AContinue = false
is_case_of v (AReturn e) = false
is_case_of v ADefault = false

abbrev pub labelled : ℕ → Target → Bool
labelled n (ToLabel m) = nat_eq n m
labelled n (ToCase v) = false
labelled n ToDefault = false
labelled n ToContinue = false

abbrev pub cased : Stmt → Target → Bool
cased c (ToLabel m) = false
cased c (ToCase v) = is_case_of v c
cased c ToDefault = false
cased c ToContinue = false

abbrev pub defaulted : Target → Bool
defaulted (ToLabel m) = false
defaulted (ToCase v) = false
defaulted ToDefault = true
defaulted ToContinue = false

-- whether a statement has the default of the switch around it
abbrev mutual
  pub has_default : StmtTree → Bool
  has_default (Labelled at x s) = has_default s
  has_default (Case at e s) = has_default s
  has_default (Default at s) = true
  has_default (Compound at is) = has_default_in is
  has_default (Expression at e) = false
  has_default (If at c y) = has_default y
  has_default (IfElse at c y n) = has_default y || has_default n
  has_default (Switch at e s) = false
  has_default (While at c s) = has_default s
  has_default (Do at s c) = has_default s
  has_default (For at start c step s) = has_default s
  has_default (Goto at x) = false
  has_default (Continue at) = false
  has_default (Break at) = false
  has_default (Return at e) = false

  has_default_item : BlockItem → Bool
  has_default_item (Declaring d) = false
  has_default_item (Doing s) = has_default s

  pub has_default_in : BlockItems → Bool
  has_default_in NoItems = false
  has_default_in (MoreItems i is) = has_default_item i || has_default_in is

-- whether a statement has a case of the switch around it with that value, which goes by what is declared where it stands
abbrev mutual
  pub has_case : ℤ → StmtTree → Here → Bool
  has_case v (Labelled at x s) h = has_case v s h
  has_case v (Case at e s) h = with_walk false (case_label at e) h (λ c k. is_case_of v c || has_case v s k)
  has_case v (Default at s) h = has_case v s h
  has_case v (Compound at is) h = has_case_in v is (entered h)
  has_case v (Expression at e) h = false
  has_case v (If at c y) h = with_walk false (test c) (entered h) (λ e k. has_case v y (entered k))
  has_case v (IfElse at c y n) h = with_walk false (test c) (entered h) (λ e k. has_case v y (entered k) || with_walk false (substatement k.place y) k (λ ss j. has_case v n (entered j)))
  has_case v (Switch at e s) h = false
  has_case v (While at c s) h = with_walk false (test c) (entered h) (λ e k. has_case v s (entered (within_loop k)))
  has_case v (Do at s c) h = has_case v s (entered (within_loop (entered h)))
  has_case v (For at start c step s) h = with_walk false (start_of start) (entered h) (λ ss k. with_walk false (maybe test c) k (λ e j. with_walk false (maybe effect step) j (λ e i. has_case v s (entered (within_loop i)))))
  has_case v (Goto at x) h = false
  has_case v (Continue at) h = false
  has_case v (Break at) h = false
  has_case v (Return at e) h = false

  has_case_item : ℤ → BlockItem → Here → Bool
  has_case_item v (Declaring d) h = false
  has_case_item v (Doing s) h = has_case v s h

  pub has_case_in : ℤ → BlockItems → Here → Bool
  has_case_in v NoItems h = false
  has_case_in v (MoreItems i is) h = has_case_item v i h || with_walk false (item h.place i) h (λ ss k. has_case_in v is k)

-- the labels, cases and defaults that stand in a statement; those of a switch in it are that switch's own
abbrev pub has : StmtTree → Here → Has
has x h (ToLabel n) = any_of (λ y. nat_eq n (number_or_none h.place y)) (labels_in x)
has x h (ToCase v) = has_case v x h
has x h ToDefault = has_default x
has x h ToContinue = false

abbrev pub has_in : BlockItems → Here → Has
has_in is h (ToLabel n) = any_of (λ y. nat_eq n (number_or_none h.place y)) (labels_in_items is)
has_in is h (ToCase v) = has_case_in v is h
has_in is h ToDefault = has_default_in is
has_in is h ToContinue = false

abbrev pub has_item : BlockItem → Here → Has
has_item (Declaring d) h t = false
has_item (Doing x) h t = has x h t

-- the labels that stand in the body of a switch
abbrev pub has_inside : StmtTree → Here → Has
has_inside x h t = is_label t && has x h t

-- entering

-- behind a label that is reached a statement is entered at its start
abbrev pub passing : (Target → Bool) → Entry → Entry
passing reached None = None
passing reached (Some t) = elim (reached t) [ true ↦ None | false ↦ Some t ]

-- a substatement that is not there
abbrev pub nothing : Goer
nothing en s = Goes Normal s

-- blocks (6.8.2, 6.8.4p3, 6.8.5p5)

-- what of a function may be entered again behind a spent unit: a statement, a substatement, whose scope is open, or a `for` behind its start
abbrev pub Part : Type 0
Part = PartOf StmtTree StmtTree ExprTree Here

abbrev pub Again : Type 0
Again = Part → Goer

-- the objects of a block item that are the block's own
abbrev pub item_objects : Activation → BlockItem → List Stmt → Here → Here → List Automatic
item_objects a (Declaring d) ss h k = objects_between a h k (own_literals_in ss)
item_objects a (Doing x) ss h k = literal_objects a k.env.literals (own_literals_in ss)

-- a block's objects, and the place at its end
abbrev pub block_items : Activation → BlockItems → Here → (List Automatic → Here → State → Result Signal) → State → Result Signal
block_items a NoItems h next = next [] h
block_items a (MoreItems i is) h next = with_stmts undefined (item h.place i) h (λ ss k. block_items a is k (λ objects end. next (item_objects a i ss h k ++ objects) end))

abbrev pub block : Activation → BlockItems → Here → (State → Result Signal) → State → Result Signal
block a is h go s = block_items a is h (λ objects end. in_block a objects (arrays_between a h end) go) s

-- a substatement is a block (6.8.4p3, 6.8.5p5)
abbrev pub substatement_block : Activation → (Here → Goer) → Again → StmtTree → Here → Goer
substatement_block a go again x h en s = with_stmts undefined (statement h.place x) h (λ ss k.
    in_block a (literal_objects a k.env.literals (own_literals_in ss)) (arrays_between a h k) (λ t. caught (has x h) (go h en t) (again (Body x h)))) s

-- a selection or iteration statement is a block, whose objects are those of its own expressions and declarations; the parts that stand in it have theirs
abbrev pub own_block : Activation → Here → Here → List ℕ → (State → Result Signal) → State → Result Signal
own_block a h k literals go s = in_block a (objects_between a h k literals) (arrays_between a h k) go s

-- a whole statement, where `go` is what the statement does as a block that is entered
abbrev pub whole : Activation → (Here → Goer) → StmtTree → Here → Goer
whole a go (Labelled at x y) h en s = go h en s
whole a go (Case at e y) h en s = go h en s
whole a go (Default at y) h en s = go h en s
whole a go (Compound at is) h en s = block a is (entered h) (go (entered h) en) s
whole a go (Expression at e) h en s = go h en s
whole a go (If at c y) h en s = with_typed (test c) (entered h) (λ e k. own_block a (entered h) k (literals_in e) (go (entered h) en)) s
whole a go (IfElse at c y n) h en s = with_typed (test c) (entered h) (λ e k. own_block a (entered h) k (literals_in e) (go (entered h) en)) s
whole a go (Switch at e y) h en s = with_typed (selector e) (entered h) (λ x k. own_block a (entered h) k (literals_in x) (go (entered h) en)) s
whole a go (While at c y) h en s = with_typed (test c) (entered h) (λ e k. own_block a (entered h) k (literals_in e) (go (entered h) en)) s
whole a go (Do at y c) h en s = with_stmts undefined (substatement (in_a_loop h.place) y) (entered h) (λ ss k. with_typed (test c) k (λ e j. own_block a k j (literals_in e) (go (entered h) en))) s
whole a go (For at start c step y) h en s =
    with_stmts undefined (start_of start) (entered h) (λ ss k. with_maybe (maybe test c) k (λ e j. with_maybe (maybe effect step) j (λ f i. own_block a (entered h) i (own_literals_in ss ++ (literals_in_maybe e ++ literals_in_maybe f)) (go (entered h) en)))) s
whole a go (Goto at x) h en s = go h en s
whole a go (Continue at) h en s = go h en s
whole a go (Break at) h en s = go h en s
whole a go (Return at e) h en s = go h en s

-- a substatement, whose scope is open
abbrev pub sub_of : Activation → Again → StmtTree → (Here → Goer) → Here → Goer
sub_of a again y go h = substatement_block a (whole a go y) again y h

-- the iterations of a `for`, where its start is behind; `body` is what its substatement does at a place
abbrev pub iterated : Activation → Enter → Again → Option ExprTree → Option ExprTree → StmtTree → (Here → Goer) → Here → Goer
iterated a enter again c step y body h en s = with_maybe (maybe test c) h (λ e k. with_maybe (maybe effect step) k (λ f j.
    loop_from (again (Iterations c step y h) None) (asked_first (c_maybe_test a enter c h) (at_end (ended (c_maybe_effect a enter step k)) (body (entered (within_loop j))))) en)) s

abbrev mutual
  -- what a statement does from an entry, given what calls do and what comes behind a spent unit; if it is a block, the block is entered already
  pub c_entered : Activation → Enter → Again → StmtTree → Here → Goer
  c_entered a enter again (Labelled at x y) h en s = with_parts (labels at x) h (λ u k. whole a (c_entered a enter again y) y k (passing (labelled (number_or_none h.place x)) en)) s
  c_entered a enter again (Case at e y) h en s = with_parts (case_label at e) h (λ c k. whole a (c_entered a enter again y) y k (passing (cased c) en)) s
  c_entered a enter again (Default at y) h en s = with_parts (default_label at) h (λ c k. whole a (c_entered a enter again y) y k (passing defaulted en)) s
  c_entered a enter again (Compound at is) h en s = caught (has_in is h) (c_items a enter again is h en s) (again (Entered (Compound at is) h))
  c_entered a enter again (Expression at e) h en s = ended (c_maybe_effect a enter e h) s
  c_entered a enter again (If at c y) h en s = with_typed (test c) h (λ e k t.
      caught (has y (entered k)) (if_from (c_test a enter c h) (has y (entered k)) nowhere (sub_of a again y (c_entered a enter again y) (entered k)) nothing en t) (again (Entered (If at c y) h))) s
  c_entered a enter again (IfElse at c y n) h en s = with_typed (test c) h (λ e k. with_stmts undefined (substatement k.place y) k (λ ss j t.
      caught (λ x. has y (entered k) x || has n (entered j) x)
      (if_from (c_test a enter c h) (has y (entered k)) (has n (entered j)) (sub_of a again y (c_entered a enter again y) (entered k)) (sub_of a again n (c_entered a enter again n) (entered j)) en t)
      (again (Entered (IfElse at c y n) h)))) s
  c_entered a enter again (Switch at e y) h en s = with_typed (selector e) h (λ x k t.
      caught (has_inside y (entered (opens x h k)))
      (switch_from (c_selector a enter e h) (has y (entered (opens x h k))) (sub_of a again y (c_entered a enter again y) (entered (opens x h k))) en t)
      (again (Entered (Switch at e y) h))) s
  c_entered a enter again (While at c y) h en s = with_typed (test c) h (λ e k t.
      caught (has y (entered (within_loop k)))
      (loop_from (again (Entered (While at c y) h) None) (asked_first (c_test a enter c h) (at_end (Goes Normal) (sub_of a again y (c_entered a enter again y) (entered (within_loop k))))) en t)
      (again (Entered (While at c y) h))) s
  c_entered a enter again (Do at y c) h en s = with_stmts undefined (substatement (in_a_loop h.place) y) h (λ ss k t.
      caught (has y (entered (within_loop h)))
      (loop_from (again (Entered (Do at y c) h) None) (at_end (asked (c_test a enter c k) (Goes Normal)) (sub_of a again y (c_entered a enter again y) (entered (within_loop h)))) en t)
      (again (Entered (Do at y c) h))) s
  c_entered a enter again (For at start c step y) h en s = with_stmts undefined (start_of start) h (λ ss k t.
      caught (has (For at start c step y) h) (started (λ e. ended (c_start a enter start h)) (iterated a enter again c step y (sub_of a again y (c_entered a enter again y)) k) en t) (again (Entered (For at start c step y) h))) s
  c_entered a enter again (Goto at x) h en s = Goes (Jumped (ToLabel (number_or_none h.place x))) s
  c_entered a enter again (Continue at) h en s = Goes (Jumped ToContinue) s
  c_entered a enter again (Break at) h en s = Goes Broken s
  c_entered a enter again (Return at e) h en s = c_return a enter e h s

  pub c_items : Activation → Enter → Again → BlockItems → Here → Goer
  c_items a enter again NoItems h en s = Goes Normal s
  c_items a enter again (MoreItems i is) h en s = with_stmts undefined (item h.place i) h (λ ss k. seq_from (has_item i h) (has_in is k) (c_item a enter again i h) (c_items a enter again is k) en) s

  pub c_item : Activation → Enter → Again → BlockItem → Here → Goer
  c_item a enter again (Declaring d) h en s = ended (c_declaration a enter InBlock d h) s
  c_item a enter again (Doing y) h en s = whole a (c_entered a enter again y) y h en s

-- one step of the meaning: a part of a function from an entry
abbrev pub c_part : Activation → Enter → Again → Part → Goer
c_part a enter again (Entered x h) en s = c_entered a enter again x h en s
c_part a enter again (Body x h) en s = caught (has x h) (whole a (c_entered a enter again x) x h en s) (again (Body x h))
c_part a enter again (Iterations c step y h) en s = iterated a enter again c step y (sub_of a again y (c_entered a enter again y)) h en s

-- a part of a function and where it is entered
abbrev pub EnteredPart : Type 0
EnteredPart = Part × Entry

abbrev pub part_step : Activation → Enter → Step EnteredPart Signal
part_step a enter again x s = c_part a enter (λ y en. again (y, en)) x.0 x.1 s

-- what a part of a function does, given what calls do
abbrev pub c_meaning : Activation → Enter → Part → Goer
c_meaning a enter x en s = meaning (part_step a enter) (x, en) s
