-- Device: the reading of statements (6.8), each of one height from the readings of parts below it.
use Rattle.std.specs.Prelude.{ℕ, nat_le, List, [], ◌∷◌, Option, Some, None}
use Rattle.cil_base.specs.declared.tokens.Punctuator.{Punctuator}
use Rattle.cil_base.specs.declared.tokens.Punctuator.TheVariants.{LeftParen, RightParen, LeftBrace, RightBrace, Colon, Semicolon}
use Rattle.typedef_scopes.specs.Scopes.{Scope}
use Rattle.c_tree.specs.declared.level.Level.TheVariants.{Conditional as ConditionalLevel, Comma as CommaLevel}
use Rattle.c_tree.specs.Syntax.{ExprTree}
use Rattle.c_tree.specs.Units.{ForStart, StartExpr, StartDeclaration, StmtTree, Labelled, Case, Default, Compound, Expression, If, IfElse, Switch, While, Do, For, Goto, Continue, Break, Return, BlockItem, Declaring, Doing, BlockItems, NoItems, MoreItems}
use Rattle.c_tree.specs.Scoped.{entered}
use Rattle.c_cursor.specs.Readers.{Reader, pure, fail, here, one, bind, when, guard, many}
use Rattle.c_cursor.specs.Classes.{is_sign, next_is, next_is_not, take, a_name}
use Rattle.c_exprs.specs.Subs.{In, grow}
use Rattle.c_parser.specs.declared.words.StatementWord.{StatementWord}
use Rattle.c_parser.specs.declared.words.StatementWord.TheVariants.{Case as CaseStart, Default as DefaultStart, Block as BlockStart, If as IfStart, Switch as SwitchStart, While as WhileStart, Do as DoStart, For as ForBegin, Goto as GotoStart, Continue as ContinueStart, Break as BreakStart, Return as ReturnStart}
use Rattle.c_parser.specs.StatementWords.{a_statement_word, begins_by_word, is_while_word, name_ahead, type_ahead, begins_declaration, when_label}
use Rattle.c_parser.specs.UnitForms.{is_else_word}
use Rattle.c_parser.specs.Parts.{Parts}

-- an expression or none, and the punctuator behind it

abbrev pub maybe_expr : Parts → Punctuator → List Scope → Reader (In (Option ExprTree))
maybe_expr p end ds = when (next_is (is_sign end)) (pure (None, ds)) (bind (p.trees.expr CommaLevel ds) (λ e. pure (Some e.0, e.1)))

abbrev pub maybe_closed : Parts → Punctuator → List Scope → Reader (In (Option ExprTree))
maybe_closed p end ds = bind (maybe_expr p end ds) (λ e. bind (take (is_sign end)) (λ c. pure e))

-- `( e )`
abbrev pub condition : Parts → List Scope → Reader (In ExprTree)
condition p ds = bind (take (is_sign LeftParen)) (λ c. bind (p.trees.expr CommaLevel ds) (λ e. bind (take (is_sign RightParen)) (λ c. pure e)))

-- `( e ) s`, of which both are blocks (6.8.4p3, 6.8.5p5)

abbrev pub controls : Parts → In ExprTree → Reader (In ExprTree × StmtTree)
controls p e = bind (p.statement (entered e.1)) (λ s. pure (e, s.0))

abbrev pub controlled : Parts → List Scope → Reader (In ExprTree × StmtTree)
controlled p ds = bind (condition p (entered ds)) (λ e. controls p e)

-- labelled statements (6.8.1)

abbrev pub behind_colon : Parts → (StmtTree → StmtTree) → List Scope → Reader (In StmtTree)
behind_colon p node ds = bind (take (is_sign Colon)) (λ c. bind (p.statement ds) (λ s. pure (node s.0, s.1)))

abbrev pub labelled : Parts → List Scope → ℕ → Reader (In StmtTree)
labelled p ds at = bind (one a_name) (λ n. behind_colon p (Labelled at n) ds)

abbrev pub case_behind : Parts → List Scope → ℕ → Reader (In StmtTree)
case_behind p ds at = bind (p.trees.expr ConditionalLevel ds) (λ e. behind_colon p (Case at e.0) e.1)

-- selection statements (6.8.4); an else belongs to the nearest if

abbrev pub else_behind : Parts → List Scope → ℕ → In ExprTree × StmtTree → Reader (In StmtTree)
else_behind p ds at x = bind (take is_else_word) (λ c. bind (p.statement (entered x.0.1)) (λ u. pure (IfElse at x.0.0 x.1 u.0, ds)))

abbrev pub if_rest : Parts → List Scope → ℕ → In ExprTree × StmtTree → Reader (In StmtTree)
if_rest p ds at x = when (next_is is_else_word) (else_behind p ds at x) (pure (If at x.0.0 x.1, ds))

abbrev pub if_behind : Parts → List Scope → ℕ → Reader (In StmtTree)
if_behind p ds at = bind (controlled p ds) (λ x. if_rest p ds at x)

abbrev pub switch_behind : Parts → List Scope → ℕ → Reader (In StmtTree)
switch_behind p ds at = bind (controlled p ds) (λ x. pure (Switch at x.0.0 x.1, ds))

-- iteration statements (6.8.5)

abbrev pub while_behind : Parts → List Scope → ℕ → Reader (In StmtTree)
while_behind p ds at = bind (controlled p ds) (λ x. pure (While at x.0.0 x.1, ds))

-- `while ( e ) ;`
abbrev pub do_rest : Parts → List Scope → ℕ → In StmtTree → Reader (In StmtTree)
do_rest p ds at s = bind (take is_while_word) (λ c. bind (condition p (entered ds)) (λ e. bind (take (is_sign Semicolon)) (λ c. pure (Do at s.0 e.0, ds))))

abbrev pub do_behind : Parts → List Scope → ℕ → Reader (In StmtTree)
do_behind p ds at = bind (p.statement (entered (entered ds))) (λ s. do_rest p ds at s)

abbrev pub for_start : Parts → List Scope → Reader (In ForStart)
for_start p ds = when (next_is (begins_declaration ds)) (bind (p.declaration ds) (λ d. pure (StartDeclaration d.0, d.1))) (bind (maybe_closed p Semicolon ds) (λ e. pure (StartExpr e.0, e.1)))

abbrev pub for_body : Parts → List Scope → ℕ → ForStart → Option ExprTree → In (Option ExprTree) → Reader (In StmtTree)
for_body p ds at start c step = bind (p.statement (entered step.1)) (λ s. pure (For at start c step.0 s.0, ds))

abbrev pub for_step : Parts → List Scope → ℕ → ForStart → In (Option ExprTree) → Reader (In StmtTree)
for_step p ds at start c = bind (maybe_closed p RightParen c.1) (λ step. for_body p ds at start c.0 step)

abbrev pub for_rest : Parts → List Scope → ℕ → In ForStart → Reader (In StmtTree)
for_rest p ds at start = bind (maybe_closed p Semicolon start.1) (λ c. for_step p ds at start.0 c)

abbrev pub for_behind : Parts → List Scope → ℕ → Reader (In StmtTree)
for_behind p ds at = bind (take (is_sign LeftParen)) (λ c. bind (for_start p (entered ds)) (λ start. for_rest p ds at start))

-- jump statements (6.8.6)

abbrev pub goto_behind : ℕ → List Scope → ℕ → Reader (In StmtTree)
goto_behind h ds at = guard (nat_le 2 h) (bind (one a_name) (λ n. bind (take (is_sign Semicolon)) (λ c. pure (Goto at n, ds))))

abbrev pub jump_behind : StmtTree → List Scope → Reader (In StmtTree)
jump_behind s ds = bind (take (is_sign Semicolon)) (λ c. pure (s, ds))

abbrev pub return_behind : Parts → List Scope → ℕ → Reader (In StmtTree)
return_behind p ds at = bind (maybe_closed p Semicolon ds) (λ e. pure (Return at e.0, e.1))

-- blocks (6.8.2)

abbrev pub declaring : Parts → List Scope → Reader (In BlockItem)
declaring p ds = bind (p.declaration ds) (λ d. pure (Declaring d.0, d.1))

abbrev pub doing : Parts → List Scope → Reader (In BlockItem)
doing p ds = bind (p.statement ds) (λ s. pure (Doing s.0, s.1))

-- a typedef name begins a declaration, but for a label
abbrev pub typed_item : ℕ → Parts → List Scope → Reader (In BlockItem)
typed_item h p ds = guard (nat_le 3 h) (when_label (doing p ds) (declaring p ds))

abbrev pub untyped_item : Parts → List Scope → Reader (In BlockItem)
untyped_item p ds = when (next_is (begins_declaration ds)) (declaring p ds) (doing p ds)

abbrev pub item : ℕ → Parts → List Scope → Reader (In BlockItem)
item h p ds = when (type_ahead ds) (typed_item h p ds) (untyped_item p ds)

abbrev pub block_items : List BlockItem → BlockItems
block_items [] = NoItems
block_items (i ∷ is) = MoreItems i (block_items is)

abbrev pub items : ℕ → Parts → List Scope → Reader (In (List BlockItem))
items h p ds = many (λ y. next_is_not RightBrace) (grow (item h p)) ([], ds)

-- `items }`
abbrev pub items_closed : ℕ → Parts → List Scope → Reader BlockItems
items_closed h p ds = bind (items h p ds) (λ x. bind (take (is_sign RightBrace)) (λ c. pure (block_items x.0)))

abbrev pub block_behind : ℕ → Parts → List Scope → ℕ → Reader (In StmtTree)
block_behind h p ds at = bind (items_closed h p (entered ds)) (λ b. pure (Compound at b, ds))

-- the body of a function
abbrev pub body : ℕ → Parts → List Scope → Reader BlockItems
body h p ds = guard (nat_le 1 h) (bind (take (is_sign LeftBrace)) (λ c. items_closed h p ds))

-- behind its first word

abbrev pub behind_word : ℕ → Parts → List Scope → ℕ → StatementWord → Reader (In StmtTree)
behind_word h p ds at CaseStart = case_behind p ds at
behind_word h p ds at DefaultStart = behind_colon p (Default at) ds
behind_word h p ds at BlockStart = block_behind h p ds at
behind_word h p ds at IfStart = if_behind p ds at
behind_word h p ds at SwitchStart = switch_behind p ds at
behind_word h p ds at WhileStart = while_behind p ds at
behind_word h p ds at DoStart = do_behind p ds at
behind_word h p ds at ForBegin = for_behind p ds at
behind_word h p ds at GotoStart = goto_behind h ds at
behind_word h p ds at ContinueStart = jump_behind (Continue at) ds
behind_word h p ds at BreakStart = jump_behind (Break at) ds
behind_word h p ds at ReturnStart = return_behind p ds at

abbrev pub worded : ℕ → Parts → List Scope → ℕ → Reader (In StmtTree)
worded h p ds at = bind (one a_statement_word) (λ w. behind_word h p ds at w)

-- `e ;`, `;` (6.8.3)
abbrev pub expressing : Parts → List Scope → ℕ → Reader (In StmtTree)
expressing p ds at = bind (maybe_closed p Semicolon ds) (λ e. pure (Expression at e.0, e.1))

-- a typedef name that is no label: nothing can follow it
abbrev pub mistaken : Reader (In StmtTree)
mistaken = bind (one a_name) (λ n. fail)

abbrev pub unlabelled : Parts → List Scope → ℕ → Reader (In StmtTree)
unlabelled p ds at = when (type_ahead ds) mistaken (expressing p ds at)

-- behind an identifier that stands next
abbrev pub named : ℕ → Parts → List Scope → ℕ → Reader (In StmtTree)
named h p ds at = guard (nat_le 2 h) (when_label (labelled p ds at) (unlabelled p ds at))

abbrev pub unnamed : ℕ → Parts → List Scope → ℕ → Reader (In StmtTree)
unnamed h p ds at = when (next_is begins_by_word) (worded h p ds at) (expressing p ds at)

abbrev pub statement_at : ℕ → Parts → List Scope → ℕ → Reader (In StmtTree)
statement_at h p ds at = when name_ahead (named h p ds at) (unnamed h p ds at)

abbrev pub statement : ℕ → Parts → List Scope → Reader (In StmtTree)
statement h p ds = guard (nat_le 1 h) (bind here (λ at. statement_at h p ds at))
