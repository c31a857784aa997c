-- Device: the definitions on worked rows.
use Rattle.std.proofs.Common.{◌≡◌, refl, ℕ, zero, suc, ◌+◌, length, Bool, true, false, List, [], ◌∷◌, map, Some, None, codes}
use Rattle.cil_base.specs.declared.numbers.NameId.{NameId}
use Rattle.cil_base.specs.declared.operators.BinOp.TheVariants.{Add, Sub, Mul, Lt}
use Rattle.cil_base.specs.declared.tokens.Keyword.TheVariants.{Int as IntWord, Void as VoidWord, Return as ReturnWord, Sizeof as SizeofWord, Struct as StructWord, Enum as EnumWord, Static as StaticWord, Const as ConstWord, StaticAssert as StaticAssertWord, For as ForWord, Do as DoWord, While as WhileWord, Switch as SwitchWord, Case as CaseWord, Default as DefaultWord, Break as BreakWord}
use Rattle.cil_base.specs.declared.tokens.Punctuator.TheVariants.{LeftParen, RightParen, LeftBrace, RightBrace, LeftBracket, RightBracket, Plus, PlusPlus, Star as StarSign, Less, Colon, Semicolon, Ellipsis, Equal, Dot, Comma as CommaSign}
use Rattle.c_tree.specs.declared.words.BasicType.TheVariants.{Void, Int}
use Rattle.c_tree.specs.declared.words.StructKind.TheVariants.{Struct}
use Rattle.c_tree.specs.declared.words.Qualifier.{Qualifier}
use Rattle.c_tree.specs.declared.words.Qualifier.TheVariants.{Const}
use Rattle.c_tree.specs.declared.words.UnaryOp.TheVariants.{Indirection}
use Rattle.c_tree.specs.declared.words.StorageClass.TheVariants.{Static}
use Rattle.c_tree.specs.declared.words.TagKind.TheVariants.{Struct as StructTag}
use Rattle.c_tree.specs.declared.words.StepOp.TheVariants.{Increment}
use Rattle.c_tree.specs.Syntax as t
use Rattle.c_tree.specs.Units as u
use Rattle.c_tree.specs.Spelling.{word, sign, named, integer, literal, spell_expr, spell_specifier, spell_declarator}
use Rattle.c_tree.specs.UnitSpelling.{spell_stmt, spell_unit}
use Rattle.c_tree.specs.Height.{expr_height, stmt_height, external_height}
use Rattle.c_tree.specs.Levels.{levelled, levelled_specifier, levelled_stmt, levelled_unit, levelled_declarator}
use Rattle.c_tree.specs.Placed.{placed_expr, placed_specifier, placed_unit, placed_stmt, placed_declarator}

abbrev name : ℕ → NameId
name i = record { 0 = i }

abbrev int_at : ℕ → t.SpecifierTrees
int_at at = t.MoreSpecifiers (t.Basic at Int) t.NoSpecifiers

-- `int main ( void ) { return e ; }`, where the expression begins with token 7
abbrev returning : t.ExprTree → u.ExternalTree
returning e = u.Definition 0 (int_at 0)
    (t.Function 1 (t.Declared 1 (name 0)) (t.MoreParameters (t.Parameter (t.MoreSpecifiers (t.Basic 3 Void) t.NoSpecifiers) (t.Absent 4)) t.NoParameters) false) [] 5
    (u.MoreItems (u.Doing (u.Return 6 (Some e))) u.NoItems)

abbrev sum : t.ExprTree
sum = t.Binary 7 Add (t.Integer 7 (codes "2")) (t.Integer 9 (codes "3"))

first_unit : spell_unit (returning sum ∷ [])
    ≡ word IntWord ∷ named (name 0) ∷ sign LeftParen ∷ word VoidWord ∷ sign RightParen ∷ sign LeftBrace ∷ word ReturnWord ∷ integer (codes "2") ∷ sign Plus ∷ integer (codes "3") ∷ sign Semicolon ∷ sign RightBrace ∷ []
first_unit = refl

first_numbers : placed_unit 0 (returning sum ∷ []) ≡ true
first_numbers = refl

first_levels : levelled_unit (returning sum ∷ []) ≡ true
first_levels = refl

-- a unit has an external declaration
empty_unit : levelled_unit [] ≡ false
empty_unit = refl

-- the constant 0 in pairs of parentheses
abbrev nested : ℕ → ℕ → t.ExprTree
nested at zero = t.Integer at (codes "0")
nested at (suc pairs) = t.Parentheses at (nested (suc at) pairs)

deepest : map (λ pairs. external_height (returning (nested 7 pairs))) (508 ∷ 509 ∷ []) ≡ 512 ∷ 513 ∷ []
deepest = refl

abbrev a : ℕ → t.ExprTree
a at = t.Name at (name 1)

-- `a - b - c` groups from the left, `a = b = c` from the right, and a sum is no operand of a product
associates : map levelled
    (t.Binary 0 Sub (t.Binary 0 Sub (a 0) (a 2)) (a 4) ∷ t.Binary 0 Sub (a 0) (t.Binary 2 Sub (a 2) (a 4))
    ∷ t.Assign 0 None (a 0) (t.Assign 2 None (a 2) (a 4)) ∷ t.Assign 0 None (t.Assign 0 None (a 0) (a 2)) (a 4)
    ∷ t.Binary 0 Mul (t.Binary 0 Add (a 0) (a 2)) (a 4) ∷ t.Binary 0 Mul (t.Parentheses 0 (t.Binary 1 Add (a 1) (a 3))) (a 6) ∷ [])
    ≡ true ∷ false ∷ true ∷ false ∷ false ∷ true ∷ []
associates = refl

-- `a + b = c`, `( int ) a = b` and `a ? b : c = d` are none; `( a + b ) = c`, `* a = b` and `a ? b , c : d` are; a comparison assigns nothing
assigns : map levelled
    (t.Assign 0 None (t.Binary 0 Add (a 0) (a 2)) (a 4) ∷ t.Assign 0 None (t.Cast 0 (t.TypeName (int_at 1) (t.Absent 2)) (a 3)) (a 5) ∷ t.Assign 0 None (t.Conditional 0 (a 0) (a 2) (a 4)) (a 6)
    ∷ t.Assign 0 None (t.Parentheses 0 (t.Binary 1 Add (a 1) (a 3))) (a 6) ∷ t.Assign 0 None (t.Unary 0 Indirection (a 1)) (a 3) ∷ t.Conditional 0 (a 0) (t.Comma 2 (a 2) (a 4)) (a 6)
    ∷ t.Assign 0 (Some Lt) (a 0) (a 2) ∷ t.Assign 0 (Some Mul) (a 0) (a 2) ∷ [])
    ≡ false ∷ false ∷ false ∷ true ∷ true ∷ true ∷ false ∷ true ∷ []
assigns = refl

-- `sizeof ( int ) * a` is a product, since a cast is no operand of sizeof
sizes : map levelled (t.Binary 0 Mul (t.SizeofType 0 (t.TypeName (int_at 2) (t.Absent 3))) (a 5) ∷ t.SizeofExpr 0 (t.Cast 1 (t.TypeName (int_at 2) (t.Absent 3)) (t.Unary 4 Indirection (a 5))) ∷ []) ≡ true ∷ false ∷ []
sizes = refl

sizes_spelled : spell_expr (t.Binary 0 Mul (t.SizeofType 0 (t.TypeName (int_at 2) (t.Absent 3))) (a 5)) ≡ word SizeofWord ∷ sign LeftParen ∷ word IntWord ∷ sign RightParen ∷ sign StarSign ∷ named (name 1) ∷ []
sizes_spelled = refl

-- an argument is an assignment expression, so `f ( a , b )` has two
calls : map levelled (t.Call 0 (a 0) (t.MoreExprs (a 2) (t.MoreExprs (a 4) t.NoExprs)) ∷ t.Call 0 (a 0) (t.MoreExprs (t.Comma 2 (a 2) (a 4)) t.NoExprs) ∷ []) ≡ true ∷ false ∷ []
calls = refl

calls_spelled : spell_expr (t.Call 0 (a 0) (t.MoreExprs (a 2) (t.MoreExprs (a 4) t.NoExprs))) ≡ named (name 1) ∷ sign LeftParen ∷ named (name 1) ∷ sign CommaSign ∷ named (name 1) ∷ sign RightParen ∷ []
calls_spelled = refl

-- `( int ) { [ 0 ] . a = 1 , }`
abbrev compound : t.ExprTree
compound = t.CompoundLiteral 0 (t.TypeName (int_at 1) (t.Absent 2))
    (t.MoreItems (t.Item (t.MoreDesignators (t.AtIndex 4 (t.Integer 5 (codes "0"))) (t.MoreDesignators (t.AtMember 7 (name 1)) t.NoDesignators)) (t.Single (t.Integer 10 (codes "1")))) t.NoItems) true

compound_spelled : spell_expr compound
    ≡ sign LeftParen ∷ word IntWord ∷ sign RightParen ∷ sign LeftBrace ∷ sign LeftBracket ∷ integer (codes "0") ∷ sign RightBracket ∷ sign Dot ∷ named (name 1) ∷ sign Equal ∷ integer (codes "1") ∷ sign CommaSign ∷ sign RightBrace ∷ []
compound_spelled = refl

compound_numbers : map (λ n. placed_expr n compound) (0 ∷ 1 ∷ []) ≡ true ∷ false ∷ []
compound_numbers = refl

compound_heights : map expr_height (compound ∷ t.SizeofType 0 (t.TypeName (int_at 2) (t.Absent 3)) ∷ a 0 ∷ t.Member 0 (t.Member 0 (a 0) (name 2)) (name 3) ∷ []) ≡ 2 ∷ 2 ∷ 1 ∷ 3 ∷ []
compound_heights = refl

-- `( * a ) [ const * ]`, and a pointer where a direct declarator is asked; `( )` stands for no declarator in parentheses; `[ const * ]` stands in no abstract declarator
declarators : map levelled_declarator
    (t.Array 0 (t.Grouped 0 (t.Pointer 1 [] (t.Declared 2 (name 1)))) (t.Star 4 (Const ∷ [])) ∷ t.Array 0 (t.Pointer 0 [] (t.Declared 1 (name 1))) (t.Unspecified 2 [])
    ∷ t.Grouped 0 (t.Absent 1) ∷ t.Unprototyped 0 (t.Absent 0) [] ∷ t.Array 0 (t.Absent 0) (t.Star 0 (Const ∷ [])) ∷ t.Array 0 (t.Absent 0) (t.Star 0 []) ∷ [])
    ≡ true ∷ false ∷ false ∷ true ∷ false ∷ true ∷ []
declarators = refl

declarators_spelled : spell_declarator (t.Array 0 (t.Grouped 0 (t.Pointer 1 [] (t.Declared 2 (name 1)))) (t.Size 4 [] (t.Integer 5 (codes "3"))))
    ≡ sign LeftParen ∷ sign StarSign ∷ named (name 1) ∷ sign RightParen ∷ sign LeftBracket ∷ integer (codes "3") ∷ sign RightBracket ∷ []
declarators_spelled = refl

declarators_placed : placed_declarator 0 (t.Array 0 (t.Grouped 0 (t.Pointer 1 [] (t.Declared 2 (name 1)))) (t.Size 4 [] (t.Integer 5 (codes "3")))) ≡ true
declarators_placed = refl

-- the else of `if ( a ) if ( a ) ; else ;` belongs to the inner if
abbrev inner_else : u.StmtTree
inner_else = u.If 0 (a 2) (u.IfElse 4 (a 6) (u.Expression 8 None) (u.Expression 10 None))

abbrev outer_else : u.StmtTree
outer_else = u.IfElse 0 (a 2) (u.If 4 (a 6) (u.Expression 8 None)) (u.Expression 10 None)

one_text : spell_stmt inner_else ≡ spell_stmt outer_else
one_text = refl

else_of_the_nearest : map levelled_stmt (inner_else ∷ outer_else ∷ []) ≡ true ∷ false ∷ []
else_of_the_nearest = refl

else_numbers : map (placed_stmt 0) (inner_else ∷ outer_else ∷ []) ≡ true ∷ true ∷ []
else_numbers = refl

-- `T * x = 0 ;` as a declaration and `T * x ;` as an expression
abbrev declares_pointer : u.StmtTree
declares_pointer = u.Compound 0 (u.MoreItems (u.Declaring (u.Declares 1 (t.MoreSpecifiers (t.TypedefName 1 (name 1)) t.NoSpecifiers) ((t.Pointer 2 [] (t.Declared 3 (name 2)), Some (t.Single (t.Integer 5 (codes "0")))) ∷ []))) u.NoItems)

abbrev multiplies : u.StmtTree
multiplies = u.Compound 0 (u.MoreItems (u.Doing (u.Expression 1 (Some (t.Binary 1 Mul (t.Name 1 (name 1)) (t.Name 3 (name 2)))))) u.NoItems)

two_readings : map spell_stmt (declares_pointer ∷ multiplies ∷ [])
    ≡ (sign LeftBrace ∷ named (name 1) ∷ sign StarSign ∷ named (name 2) ∷ sign Equal ∷ integer (codes "0") ∷ sign Semicolon ∷ sign RightBrace ∷ [])
    ∷ (sign LeftBrace ∷ named (name 1) ∷ sign StarSign ∷ named (name 2) ∷ sign Semicolon ∷ sign RightBrace ∷ []) ∷ []
two_readings = refl

both_stand : (map levelled_stmt (declares_pointer ∷ multiplies ∷ []) ≡ true ∷ true ∷ []) × (map (placed_stmt 0) (declares_pointer ∷ multiplies ∷ []) ≡ true ∷ true ∷ [])
both_stand = (refl, refl)

-- `struct a { int a ; }`
struct_spelled : spell_specifier (t.StructBody 0 Struct (Some (name 1)) (t.MoreMembers (t.MemberLine (int_at 3) (t.MoreMemberDeclarators (t.Plain (t.Declared 4 (name 1))) t.NoMemberDeclarators)) t.NoMembers))
    ≡ word StructWord ∷ named (name 1) ∷ sign LeftBrace ∷ word IntWord ∷ named (name 1) ∷ sign Semicolon ∷ sign RightBrace ∷ []
struct_spelled = refl

abbrev declared : ℕ → ℕ → t.DeclaratorTree
declared at i = t.Declared at (name i)

-- `( * name )`, from its parenthesis
abbrev pointer : ℕ → ℕ → t.DeclaratorTree
pointer at i = t.Grouped at (t.Pointer (at + 1) [] (declared (at + 2) i))

abbrev one_parameter : t.SpecifierTrees → t.DeclaratorTree → t.ParameterTrees
one_parameter ss d = t.MoreParameters (t.Parameter ss d) t.NoParameters

abbrev one_member : t.SpecifierTrees → t.MemberDeclaratorTree → t.MemberTrees
one_member ss d = t.MoreMembers (t.MemberLine ss (t.MoreMemberDeclarators d t.NoMemberDeclarators)) t.NoMembers

-- `int d ;`
abbrev line : ℕ → t.DeclaratorTree → u.DeclarationTree
line at d = u.Declares at (int_at at) ((d, None) ∷ [])

-- `specifier ;`
abbrev alone : t.SpecifierTree → u.ExternalTree
alone s = u.External (u.Declares 0 (t.MoreSpecifiers s t.NoSpecifiers) [])

-- `int d declarations { }`, from the number of the brace
abbrev defining : t.DeclaratorTree → List u.DeclarationTree → ℕ → u.ExternalTree
defining d ds body_at = u.Definition 0 (int_at 0) d ds body_at u.NoItems

abbrev levels : List u.ExternalTree → List Bool
levels = map (λ d. levelled_unit (d ∷ []))

abbrev numbers : List u.ExternalTree → List Bool
numbers = map (λ d. placed_unit 0 (d ∷ []))

-- `int f ( a , b ) int a ; int b ; { return 0 ; }`
abbrev listed : u.ExternalTree
listed = u.Definition 0 (int_at 0) (t.Unprototyped 1 (declared 1 0) (name 1 ∷ name 2 ∷ [])) (line 7 (declared 8 1) ∷ line 10 (declared 11 2) ∷ []) 13
    (u.MoreItems (u.Doing (u.Return 14 (Some (t.Integer 15 (codes "0"))))) u.NoItems)

listed_spelled : spell_unit (listed ∷ [])
    ≡ word IntWord ∷ named (name 0) ∷ sign LeftParen ∷ named (name 1) ∷ sign CommaSign ∷ named (name 2) ∷ sign RightParen ∷ word IntWord ∷ named (name 1) ∷ sign Semicolon ∷ word IntWord ∷ named (name 2) ∷ sign Semicolon
    ∷ sign LeftBrace ∷ word ReturnWord ∷ integer (codes "0") ∷ sign Semicolon ∷ sign RightBrace ∷ []
listed_spelled = refl

listed_stands : (levels (listed ∷ []) ≡ true ∷ []) × (numbers (listed ∷ []) ≡ true ∷ [])
listed_stands = (refl, refl)

-- where an identifier list is no part of the function's definition: `int f ( names ) ;`, `struct { int ( * p ) ( names ) ; } ;`, `int f ( int ( * g ) ( names ) ) { }`,
-- `int ( * f ( ) ) ( names ) { }`, `int ( * f ) ( names ) { }`, `int f ( ) { int g ( names ) ; }`, `struct { int ( p ) ( names ) : 1 ; } ;`, `int x [ sizeof ( int ( * ) ( names ) ) ] ;`
abbrev elsewhere : List NameId → List u.ExternalTree
elsewhere names =
    u.External (line 0 (t.Unprototyped 1 (declared 1 0) names))
    ∷ alone (t.StructBody 0 Struct None (one_member (int_at 2) (t.Plain (t.Unprototyped 3 (pointer 3 3) names))))
    ∷ defining (t.Function 1 (declared 1 0) (one_parameter (int_at 3) (t.Unprototyped 4 (pointer 4 4) names)) false) [] (length names + 11)
    ∷ defining (t.Unprototyped 1 (t.Grouped 1 (t.Pointer 2 [] (t.Unprototyped 3 (declared 3 0) []))) names) [] (length names + 9)
    ∷ defining (t.Unprototyped 1 (pointer 1 0) names) [] (length names + 7)
    ∷ u.Definition 0 (int_at 0) (t.Unprototyped 1 (declared 1 0) []) [] 4 (u.MoreItems (u.Declaring (line 5 (t.Unprototyped 6 (declared 6 5) names))) u.NoItems)
    ∷ alone (t.StructBody 0 Struct None (one_member (int_at 2) (t.BitField (t.Unprototyped 3 (t.Grouped 3 (declared 4 3)) names) (t.Integer (length names + 9) (codes "1")))))
    ∷ u.External (line 0 (t.Array 1 (declared 1 6) (t.Size 2 [] (t.SizeofType 3 (t.TypeName (int_at 5) (t.Unprototyped 6 (t.Grouped 6 (t.Pointer 7 [] (t.Absent 8))) names))))))
    ∷ []

names_elsewhere : levels (elsewhere (name 1 ∷ [])) ≡ false ∷ false ∷ false ∷ false ∷ false ∷ false ∷ false ∷ false ∷ []
names_elsewhere = refl

no_names_elsewhere : levels (elsewhere []) ≡ true ∷ true ∷ true ∷ true ∷ true ∷ true ∷ true ∷ true ∷ []
no_names_elsewhere = refl

elsewhere_numbers : numbers (elsewhere (name 1 ∷ [])) ≡ true ∷ true ∷ true ∷ true ∷ true ∷ true ∷ true ∷ true ∷ []
elsewhere_numbers = refl

-- declarations behind a declarator without an identifier list of its own: `int x int y ; { }`, `int f ( void ) int y ; { }`, `int f ( ) int y ; { }`, `int ( * f ) ( a ) int a ; { }`
declarations_without_a_list : levels
    (defining (declared 1 3) (line 2 (declared 3 4) ∷ []) 5
    ∷ defining (t.Function 1 (declared 1 0) (one_parameter (t.MoreSpecifiers (t.Basic 3 Void) t.NoSpecifiers) (t.Absent 4)) false) (line 5 (declared 6 4) ∷ []) 8
    ∷ defining (t.Unprototyped 1 (declared 1 0) []) (line 4 (declared 5 4) ∷ []) 7
    ∷ defining (t.Unprototyped 1 (pointer 1 0) (name 1 ∷ [])) (line 8 (declared 9 1) ∷ []) 11 ∷ [])
    ≡ false ∷ false ∷ false ∷ false ∷ []
declarations_without_a_list = refl

-- `int f ( a ) { }`, `int ( f ) ( a ) int a ; { }`, `int ( * f ( a ) ) ( ) int a ; { }` have their own list; `int f ( a ) int a ( b ) ; { }` has another in a declaration
own_list : levels
    (defining (t.Unprototyped 1 (declared 1 0) (name 1 ∷ [])) [] 5
    ∷ defining (t.Unprototyped 1 (t.Grouped 1 (declared 2 0)) (name 1 ∷ [])) (line 7 (declared 8 1) ∷ []) 10
    ∷ defining (t.Unprototyped 1 (t.Grouped 1 (t.Pointer 2 [] (t.Unprototyped 3 (declared 3 0) (name 1 ∷ [])))) []) (line 10 (declared 11 1) ∷ []) 13
    ∷ defining (t.Unprototyped 1 (declared 1 0) (name 1 ∷ [])) (line 5 (t.Unprototyped 6 (declared 6 1) (name 2 ∷ [])) ∷ []) 11 ∷ [])
    ≡ true ∷ true ∷ true ∷ false ∷ []
own_list = refl

-- `for ( int i = 0 ; i < 3 ; i ++ ) ;`, where the declaration holds the first semicolon, and `for ( ; ; ) ;`
abbrev counting : u.StmtTree
counting = u.For 0 (u.StartDeclaration (u.Declares 2 (int_at 2) ((declared 3 2, Some (t.Single (t.Integer 5 (codes "0")))) ∷ []))) (Some (t.Binary 7 Lt (t.Name 7 (name 2)) (t.Integer 9 (codes "3"))))
    (Some (t.Postfix 11 (t.Name 11 (name 2)) Increment)) (u.Expression 14 None)

abbrev forever : u.StmtTree
forever = u.For 0 (u.StartExpr None) None None (u.Expression 5 None)

for_spelled : map spell_stmt (counting ∷ forever ∷ [])
    ≡ (word ForWord ∷ sign LeftParen ∷ word IntWord ∷ named (name 2) ∷ sign Equal ∷ integer (codes "0") ∷ sign Semicolon ∷ named (name 2) ∷ sign Less ∷ integer (codes "3") ∷ sign Semicolon ∷ named (name 2) ∷ sign PlusPlus ∷ sign RightParen ∷ sign Semicolon ∷ [])
    ∷ (word ForWord ∷ sign LeftParen ∷ sign Semicolon ∷ sign Semicolon ∷ sign RightParen ∷ sign Semicolon ∷ []) ∷ []
for_spelled = refl

-- `do ; while ( a ) ;`
abbrev once : u.StmtTree
once = u.Do 0 (u.Expression 1 None) (a 4)

do_spelled : spell_stmt once ≡ word DoWord ∷ sign Semicolon ∷ word WhileWord ∷ sign LeftParen ∷ named (name 1) ∷ sign RightParen ∷ sign Semicolon ∷ []
do_spelled = refl

-- `switch ( a ) { case value : default : break ; }` with a value of one token
abbrev switching : t.ExprTree → u.StmtTree
switching value = u.Switch 0 (a 2) (u.Compound 4 (u.MoreItems (u.Doing (u.Case 5 value (u.Default 8 (u.Break 10)))) u.NoItems))

switch_spelled : spell_stmt (switching (t.Integer 6 (codes "1")))
    ≡ word SwitchWord ∷ sign LeftParen ∷ named (name 1) ∷ sign RightParen ∷ sign LeftBrace ∷ word CaseWord ∷ integer (codes "1") ∷ sign Colon ∷ word DefaultWord ∷ sign Colon ∷ word BreakWord ∷ sign Semicolon ∷ sign RightBrace ∷ []
switch_spelled = refl

statement_numbers : map (placed_stmt 0) (counting ∷ forever ∷ once ∷ switching (t.Integer 6 (codes "1")) ∷ []) ≡ true ∷ true ∷ true ∷ true ∷ []
statement_numbers = refl

-- a label of a case is a constant expression, and so no assignment
statement_levels : map levelled_stmt (counting ∷ forever ∷ once ∷ switching (t.Integer 6 (codes "1")) ∷ switching (t.Assign 6 None (a 6) (a 8)) ∷ []) ≡ true ∷ true ∷ true ∷ true ∷ false ∷ []
statement_levels = refl

-- with `goto a ;`, `a : ;` and `break ;`
statement_heights : map stmt_height (counting ∷ forever ∷ once ∷ switching (t.Integer 6 (codes "1")) ∷ u.Goto 0 (name 1) ∷ u.Labelled 0 (name 1) (u.Expression 2 None) ∷ u.Break 0 ∷ []) ≡ 3 ∷ 2 ∷ 2 ∷ 5 ∷ 2 ∷ 2 ∷ 1 ∷ []
statement_heights = refl

-- `enum e { a , b = value , }`
abbrev enumerating : t.ExprTree → t.SpecifierTree
enumerating value = t.EnumBody 0 (Some (name 7)) (t.MoreEnumerators (t.Enumerates 3 (name 1) t.NoExpr) (t.MoreEnumerators (t.Enumerates 5 (name 2) (t.SomeExpr value)) t.NoEnumerators)) true

enum_spelled : spell_specifier (enumerating (t.Integer 7 (codes "1")))
    ≡ word EnumWord ∷ named (name 7) ∷ sign LeftBrace ∷ named (name 1) ∷ sign CommaSign ∷ named (name 2) ∷ sign Equal ∷ integer (codes "1") ∷ sign CommaSign ∷ sign RightBrace ∷ []
enum_spelled = refl

-- `struct { int a : 1 , : 2 ; _Static_assert ( 1 , "s" ) ; }`
abbrev with_bit_fields : t.SpecifierTree
with_bit_fields = t.StructBody 0 Struct None
    (t.MoreMembers (t.MemberLine (int_at 2) (t.MoreMemberDeclarators (t.BitField (declared 3 1) (t.Integer 5 (codes "1"))) (t.MoreMemberDeclarators (t.BitField (t.Absent 7) (t.Integer 8 (codes "2"))) t.NoMemberDeclarators)))
    (t.MoreMembers (t.MemberAssert 10 (t.Integer 12 (codes "1")) 14 (codes "\"s\"" ∷ [])) t.NoMembers))

members_spelled : spell_specifier with_bit_fields
    ≡ word StructWord ∷ sign LeftBrace ∷ word IntWord ∷ named (name 1) ∷ sign Colon ∷ integer (codes "1") ∷ sign CommaSign ∷ sign Colon ∷ integer (codes "2") ∷ sign Semicolon
    ∷ word StaticAssertWord ∷ sign LeftParen ∷ integer (codes "1") ∷ sign CommaSign ∷ literal (codes "\"s\"") ∷ sign RightParen ∷ sign Semicolon ∷ sign RightBrace ∷ []
members_spelled = refl

body_numbers : map (placed_specifier 0) (enumerating (t.Integer 7 (codes "1")) ∷ with_bit_fields ∷ []) ≡ true ∷ true ∷ []
body_numbers = refl

-- refused are an enumerator's assignment, `enum { }`, `struct { }`, a member without declarator beside a comma, `struct { static int a ; }` and an assertion without message
body_levels : map levelled_specifier
    (enumerating (t.Integer 7 (codes "1")) ∷ with_bit_fields
    ∷ enumerating (t.Assign 7 None (a 7) (a 9)) ∷ t.EnumBody 0 None t.NoEnumerators false ∷ t.StructBody 0 Struct None t.NoMembers ∷ t.StructBody 0 Struct None (one_member (int_at 2) (t.Plain (t.Absent 3)))
    ∷ t.StructBody 0 Struct None (one_member (t.MoreSpecifiers (t.Storage 2 Static) (int_at 3)) (t.Plain (declared 4 1))) ∷ t.StructBody 0 Struct None (t.MoreMembers (t.MemberAssert 2 (a 4) 6 []) t.NoMembers) ∷ [])
    ≡ true ∷ true ∷ false ∷ false ∷ false ∷ false ∷ false ∷ false ∷ []
body_levels = refl

-- `f ( int , ... )`; a parameter stands before the ellipsis
abbrev variadic : t.ParameterTrees → t.DeclaratorTree
variadic ps = t.Function 0 (declared 0 0) ps true

-- `a [ static const 3 ]` and `a [ qualifiers static 3 ]`
abbrev static_first : t.DeclaratorTree
static_first = t.Array 0 (declared 0 1) (t.StaticSize 1 (Const ∷ []) (t.Integer 4 (codes "3")))

abbrev static_last : List Qualifier → t.DeclaratorTree
static_last qs = t.Array 0 (declared 0 1) (t.SizeStatic 1 qs (t.Integer (length qs + 3) (codes "3")))

parameters_spelled : map spell_declarator (variadic (one_parameter (int_at 2) (t.Absent 3)) ∷ static_first ∷ static_last (Const ∷ []) ∷ [])
    ≡ (named (name 0) ∷ sign LeftParen ∷ word IntWord ∷ sign CommaSign ∷ sign Ellipsis ∷ sign RightParen ∷ [])
    ∷ (named (name 1) ∷ sign LeftBracket ∷ word StaticWord ∷ word ConstWord ∷ integer (codes "3") ∷ sign RightBracket ∷ [])
    ∷ (named (name 1) ∷ sign LeftBracket ∷ word ConstWord ∷ word StaticWord ∷ integer (codes "3") ∷ sign RightBracket ∷ []) ∷ []
parameters_spelled = refl

parameters_placed : map (placed_declarator 0) (variadic (one_parameter (int_at 2) (t.Absent 3)) ∷ static_first ∷ static_last (Const ∷ []) ∷ []) ≡ true ∷ true ∷ true ∷ []
parameters_placed = refl

-- without a qualifier `static 3` is the other form, so that `[ static 3 ]` has one tree; a size is no comma expression
parameters_levels : map levelled_declarator
    (variadic (one_parameter (int_at 2) (t.Absent 3)) ∷ static_first ∷ static_last (Const ∷ []) ∷ variadic t.NoParameters ∷ static_last [] ∷ t.Array 0 (declared 0 1) (t.Size 1 [] (t.Comma 2 (a 2) (a 4))) ∷ [])
    ≡ true ∷ true ∷ true ∷ false ∷ false ∷ false ∷ []
parameters_levels = refl

-- `int ;`, `T ;`, `struct s ;`, `struct { int ; } ;`, `struct s { int ; } ;`, `struct { int a ; } ;`, `enum e { a , b = 1 , } ;`, `_Static_assert ( 1 , "s" ) ;`
specifier_heights : map external_height
    (alone (t.Basic 0 Int) ∷ alone (t.TypedefName 0 (name 1)) ∷ alone (t.Tag 0 StructTag (name 1)) ∷ alone (t.StructBody 0 Struct None (t.MoreMembers (t.MemberLine (int_at 2) t.NoMemberDeclarators) t.NoMembers))
    ∷ alone (t.StructBody 0 Struct (Some (name 1)) (t.MoreMembers (t.MemberLine (int_at 3) t.NoMemberDeclarators) t.NoMembers)) ∷ alone (t.StructBody 0 Struct None (one_member (int_at 2) (t.Plain (declared 3 1))))
    ∷ alone (enumerating (t.Integer 7 (codes "1"))) ∷ u.External (u.Asserts 0 (t.Integer 2 (codes "1")) 4 (codes "\"s\"" ∷ [])) ∷ [])
    ≡ 1 ∷ 2 ∷ 2 ∷ 2 ∷ 3 ∷ 3 ∷ 3 ∷ 2 ∷ []
specifier_heights = refl

-- `int x d ;` as far as the declarator and its initialiser say: none, `* * x`, `( x )`, `x [ ]`, `x [ a + a ]`, `x ( int )`, `x = a`, `x = { a }`, `x = { { a } }`, `x = { . b = a }`
abbrev one_item : t.DesignatorTrees → t.InitTree → t.InitTree
one_item ds i = t.Braces 3 (t.MoreItems (t.Item ds i) t.NoItems) false

declaration_heights : map (λ d. external_height (u.External (u.Declares 0 (int_at 0) (d ∷ []))))
    ((declared 1 2, None) ∷ (t.Pointer 1 [] (t.Pointer 2 [] (declared 3 2)), None) ∷ (t.Grouped 1 (declared 2 2), None) ∷ (t.Array 1 (declared 1 2) (t.Unspecified 2 []), None)
    ∷ (t.Array 1 (declared 1 2) (t.Size 2 [] (t.Binary 3 Add (a 3) (a 5))), None) ∷ (t.Function 1 (declared 1 2) (one_parameter (int_at 3) (t.Absent 4)) false, None) ∷ (declared 1 2, Some (t.Single (a 3)))
    ∷ (declared 1 2, Some (one_item t.NoDesignators (t.Single (a 4)))) ∷ (declared 1 2, Some (one_item t.NoDesignators (one_item t.NoDesignators (t.Single (a 5)))))
    ∷ (declared 1 2, Some (one_item (t.MoreDesignators (t.AtMember 4 (name 2)) t.NoDesignators) (t.Single (a 7)))) ∷ [])
    ≡ 2 ∷ 4 ∷ 3 ∷ 3 ∷ 4 ∷ 3 ∷ 2 ∷ 3 ∷ 4 ∷ 3 ∷ []
declaration_heights = refl

definition_height : external_height listed ≡ 4
definition_height = refl
