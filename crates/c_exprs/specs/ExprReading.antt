-- Device: the reading of expressions (6.5), each of one height from the readings of parts below it.
use Rattle.std.specs.Prelude.{ℕ, ◌+◌, max, Bool, nat_le, nat_lt, List, [], ◌∷◌, Option}
use Rattle.cil_base.specs.declared.tokens.Punctuator.TheVariants.{LeftParen, RightParen, LeftBrace, RightBrace, RightBracket, Colon}
use Rattle.typedef_scopes.specs.Scopes.{Scope}
use Rattle.c_tree.specs.declared.words.StepOp.{StepOp}
use Rattle.c_tree.specs.declared.words.UnaryOp.{UnaryOp}
use Rattle.c_tree.specs.declared.words.UnaryOp.TheVariants.{Indirection}
use Rattle.c_tree.specs.declared.level.Level.{Level}
use Rattle.c_tree.specs.declared.level.Level.TheVariants.{Unary as UnaryLevel, Cast as CastLevel, Conditional as ConditionalLevel, Assignment, Comma as CommaLevel}
use Rattle.c_tree.specs.Syntax.{ExprTree, Name, Integer, Character, Literals, Parentheses, Index, Call, Member, Arrow, Postfix, CompoundLiteral, Prefix, Unary, SizeofExpr, SizeofType, AlignofType, Cast, Conditional, ExprTrees, NoExprs, MoreExprs, TypeName, SpecifierTrees, DeclaratorTree, ItemTrees}
use Rattle.c_tree.specs.Spelling.{Lexeme}
use Rattle.c_tree.specs.Levels.{rank}
use Rattle.c_tree.specs.Height.{specifiers_height, declarator_height}
use Rattle.c_tree.specs.Scoped.{has_type_specifier}
use Rattle.c_exprs.specs.declared.words.Start.{Start}
use Rattle.c_exprs.specs.declared.words.Start.TheVariants.{Name as NameStart, Integer as IntegerStart, Character as CharacterStart, Literal as LiteralStart, Parenthesis as ParenthesisStart, Step as StepStart, Unary as UnaryStart, Sizeof as SizeofStart, Alignof as AlignofStart}
use Rattle.c_exprs.specs.declared.words.Joint.{Joint}
use Rattle.c_exprs.specs.declared.words.Operator.{Operator}
use Rattle.c_exprs.specs.declared.words.Operator.TheVariants.{Index as ToIndex, Call as ToCall, Member as ToMember, Arrow as ToArrow, Step as ToStep, Conditional as ToChoose, Join as ToJoin}
use Rattle.c_exprs.specs.declared.words.SpecifierForm.TheVariants.{TypeName as InTypeName}
use Rattle.c_exprs.specs.declared.words.DeclaratorForm.TheVariants.{Abstract as InAbstract}
use Rattle.c_cursor.specs.Readers.{Reader, pure, here, one, bind, when, guard, many}
use Rattle.c_cursor.specs.Classes.{is_sign, next_is, take, a_name}
use Rattle.c_exprs.specs.Classes.{start_of, joint_right, joint_node, operator_for, begins_type_name}
use Rattle.c_exprs.specs.GoesOn.{goes_on_expr, goes_on_type_name}
use Rattle.c_cursor.specs.Literals.{more_literals}
use Rattle.c_exprs.specs.Subs.{In, Subs, stopped, listed}

-- specifiers and qualifiers, and an abstract declarator (6.7.7)

abbrev pub typed_declarator : Subs → In SpecifierTrees → Reader (In (SpecifierTrees × DeclaratorTree))
typed_declarator sub ss = bind (sub.declarator InAbstract ss.1) (λ d. stopped (goes_on_type_name (has_type_specifier ss.0) d.1) ((ss.0, d.0), d.1))

abbrev pub type_name : Subs → List Scope → Reader (In (SpecifierTrees × DeclaratorTree))
type_name sub ds = bind (sub.specifiers InTypeName ds) (λ ss. typed_declarator sub ss)

abbrev pub type_name_closed : Subs → List Scope → Reader (In (SpecifierTrees × DeclaratorTree))
type_name_closed sub ds = bind (type_name sub ds) (λ t. bind (take (is_sign RightParen)) (λ c. pure t))

abbrev pub next_is_type : List Scope → Option Lexeme → Bool
next_is_type ds o = next_is (begins_type_name ds) o

-- `{ items }`, for which the brace stands next
abbrev pub braced : Subs → List Scope → Reader (In (ItemTrees × Bool))
braced sub ds = bind (take (is_sign LeftBrace)) (λ c. bind (sub.items ds) (λ x. bind (take (is_sign RightBrace)) (λ c. pure x)))

-- operands

-- `e )`
abbrev pub in_parentheses : Subs → ℕ → List Scope → Reader (In ExprTree)
in_parentheses sub at ds = bind (sub.expr CommaLevel ds) (λ e. bind (take (is_sign RightParen)) (λ c. pure (Parentheses at e.0, e.1)))

-- behind `( type-name )`
abbrev pub compound : Subs → ℕ → In (SpecifierTrees × DeclaratorTree) → Reader (In ExprTree)
compound sub at t = bind (braced sub t.1) (λ x. pure (CompoundLiteral at (TypeName t.0.0 t.0.1) x.0.0 x.0.1, x.1))

abbrev pub cast : Subs → ℕ → In (SpecifierTrees × DeclaratorTree) → Reader (In ExprTree)
cast sub at t = bind (sub.expr CastLevel t.1) (λ e. pure (Cast at (TypeName t.0.0 t.0.1) e.0, e.1))

abbrev pub behind_type_name : Subs → ℕ → Level → In (SpecifierTrees × DeclaratorTree) → Reader (In ExprTree)
behind_type_name sub at level t = when (next_is (is_sign LeftBrace)) (compound sub at t) (guard (nat_le 3 (rank level)) (cast sub at t))

-- `type-name )` and what follows, in an expression of that level
abbrev pub typed : Subs → ℕ → Level → List Scope → Reader (In ExprTree)
typed sub at level ds = guard (nat_le 1 (rank level)) (bind (type_name_closed sub ds) (λ t. behind_type_name sub at level t))

abbrev pub behind_parenthesis : Subs → ℕ → Level → List Scope → Reader (In ExprTree)
behind_parenthesis sub at level ds = when (next_is_type ds) (typed sub at level ds) (in_parentheses sub at ds)

abbrev pub prefixed : Subs → ℕ → StepOp → List Scope → Reader (In ExprTree)
prefixed sub at op ds = bind (sub.expr UnaryLevel ds) (λ e. pure (Prefix at op e.0, e.1))

abbrev pub signed : Subs → ℕ → UnaryOp → List Scope → Reader (In ExprTree)
signed sub at op ds = bind (sub.expr CastLevel ds) (λ e. pure (Unary at op e.0, e.1))

-- behind `sizeof`, and behind `sizeof (`

abbrev pub sizeof_typed : Subs → ℕ → In (SpecifierTrees × DeclaratorTree) → Reader (In ExprTree)
sizeof_typed sub at t = when (next_is (is_sign LeftBrace)) (bind (sub.literal (at + 1) t) (λ e. pure (SizeofExpr at e.0, e.1))) (pure (SizeofType at (TypeName t.0.0 t.0.1), t.1))

abbrev pub sizeof_type : Subs → ℕ → List Scope → Reader (In ExprTree)
sizeof_type sub at ds = bind (type_name_closed sub ds) (λ t. sizeof_typed sub at t)

abbrev pub sizeof_parenthesised : Subs → ℕ → List Scope → Reader (In ExprTree)
sizeof_parenthesised sub at ds = bind (sub.parenthesised (at + 1) ds) (λ e. pure (SizeofExpr at e.0, e.1))

abbrev pub sizeof_behind : Subs → ℕ → List Scope → Reader (In ExprTree)
sizeof_behind sub at ds = bind (take (is_sign LeftParen)) (λ c. when (next_is_type ds) (sizeof_type sub at ds) (sizeof_parenthesised sub at ds))

abbrev pub sizeof_plain : Subs → ℕ → List Scope → Reader (In ExprTree)
sizeof_plain sub at ds = bind (sub.expr UnaryLevel ds) (λ e. pure (SizeofExpr at e.0, e.1))

abbrev pub sizeof_operand : Subs → ℕ → List Scope → Reader (In ExprTree)
sizeof_operand sub at ds = when (next_is (is_sign LeftParen)) (sizeof_behind sub at ds) (sizeof_plain sub at ds)

-- behind `_Alignof`
abbrev pub alignof_operand : Subs → ℕ → List Scope → Reader (In ExprTree)
alignof_operand sub at ds = bind (take (is_sign LeftParen)) (λ c. bind (type_name_closed sub ds) (λ t. pure (AlignofType at (TypeName t.0.0 t.0.1), t.1)))

abbrev pub literals_from : ℕ → List ℕ → List Scope → Reader (In ExprTree)
literals_from at text ds = bind (more_literals (text ∷ [])) (λ texts. pure (Literals at texts, ds))

-- what no operator behind it is part of, behind its first token
abbrev pub operand : Subs → ℕ → Level → List Scope → Start → List ℕ → Reader (In ExprTree)
operand sub at level ds (NameStart n) text = pure (Name at n, ds)
operand sub at level ds IntegerStart text = pure (Integer at text, ds)
operand sub at level ds CharacterStart text = pure (Character at text, ds)
operand sub at level ds LiteralStart text = literals_from at text ds
operand sub at level ds ParenthesisStart text = behind_parenthesis sub at level ds
operand sub at level ds (StepStart op) text = prefixed sub at op ds
operand sub at level ds (UnaryStart op) text = signed sub at op ds
operand sub at level ds SizeofStart text = sizeof_operand sub at ds
operand sub at level ds AlignofStart text = alignof_operand sub at ds

-- operators behind an operand

-- `index ]`
abbrev pub to_index : Subs → ℕ → In ExprTree → Reader (In ExprTree)
to_index sub at x = bind (sub.expr CommaLevel x.1) (λ i. bind (take (is_sign RightBracket)) (λ c. pure (Index at x.0 i.0, i.1)))

abbrev pub expr_trees : List ExprTree → ExprTrees
expr_trees [] = NoExprs
expr_trees (e ∷ es) = MoreExprs e (expr_trees es)

abbrev pub some_arguments : Subs → List Scope → Reader (In (List ExprTree))
some_arguments sub ds = listed (sub.expr Assignment) ds

abbrev pub arguments : Subs → List Scope → Reader (In (List ExprTree))
arguments sub ds = when (next_is (is_sign RightParen)) (pure ([], ds)) (some_arguments sub ds)

-- `arguments )`
abbrev pub to_call : Subs → ℕ → In ExprTree → Reader (In ExprTree)
to_call sub at x = bind (arguments sub x.1) (λ es. bind (take (is_sign RightParen)) (λ c. pure (Call at x.0 (expr_trees es.0), es.1)))

abbrev pub to_member : ℕ → In ExprTree → Reader (In ExprTree)
to_member at x = bind (one a_name) (λ n. pure (Member at x.0 n, x.1))

abbrev pub to_arrow : ℕ → In ExprTree → Reader (In ExprTree)
to_arrow at x = bind (one a_name) (λ n. pure (Arrow at x.0 n, x.1))

-- `e : e`

abbrev pub to_choose_last : Subs → ℕ → In ExprTree → In ExprTree → Reader (In ExprTree)
to_choose_last sub at x a = bind (take (is_sign Colon)) (λ c. bind (sub.expr ConditionalLevel a.1) (λ b. pure (Conditional at x.0 a.0 b.0, b.1)))

abbrev pub to_choose : Subs → ℕ → In ExprTree → Reader (In ExprTree)
to_choose sub at x = bind (sub.expr CommaLevel x.1) (λ a. to_choose_last sub at x a)

-- the right operand
abbrev pub to_join : Subs → ℕ → Joint → In ExprTree → Reader (In ExprTree)
to_join sub at j x = bind (sub.expr (joint_right j) x.1) (λ r. pure (joint_node at j x.0 r.0, r.1))

-- behind an operator
abbrev pub behind_operator : Subs → ℕ → In ExprTree → Operator → Reader (In ExprTree)
behind_operator sub at x ToIndex = to_index sub at x
behind_operator sub at x ToCall = to_call sub at x
behind_operator sub at x ToMember = to_member at x
behind_operator sub at x ToArrow = to_arrow at x
behind_operator sub at x (ToStep op) = pure (Postfix at x.0 op, x.1)
behind_operator sub at x ToChoose = to_choose sub at x
behind_operator sub at x (ToJoin j) = to_join sub at j x

-- one operator behind what was read so far
abbrev pub rise : ℕ → Subs → ℕ → Level → In ExprTree → Reader (In ExprTree)
rise h sub at level x = bind (one (operator_for h level x.0)) (λ op. behind_operator sub at x op)

-- all operators behind an operand, in an expression of that level
abbrev pub rises : ℕ → Subs → ℕ → Level → In ExprTree → Reader (In ExprTree)
rises h sub at level x = many (λ y. goes_on_expr level) (rise h sub at level) x

-- an expression of that level
abbrev pub expression_from : ℕ → Subs → Level → List Scope → ℕ → Reader (In ExprTree)
expression_from h sub level ds at = bind (one (start_of h level ds)) (λ s. bind (operand sub at level ds s.0 s.1) (λ x. rises h sub at level x))

abbrev pub expression : ℕ → Subs → Level → List Scope → Reader (In ExprTree)
expression h sub level ds = bind here (λ at. expression_from h sub level ds at)

-- those that begin with what was taken already

abbrev pub parenthesised : ℕ → Subs → ℕ → List Scope → Reader (In ExprTree)
parenthesised h sub at ds = bind (in_parentheses sub at ds) (λ x. rises h sub at UnaryLevel x)

abbrev pub starred : ℕ → Subs → ℕ → List Scope → Reader (In ExprTree)
starred h sub at ds = bind (signed sub at Indirection ds) (λ x. rises h sub at Assignment x)

abbrev pub literal_of : ℕ → Subs → ℕ → In (SpecifierTrees × DeclaratorTree) → Reader (In ExprTree)
literal_of h sub at t = guard (nat_lt (max (specifiers_height t.0.0) (declarator_height t.0.1)) h) (bind (compound sub at t) (λ x. rises h sub at UnaryLevel x))
