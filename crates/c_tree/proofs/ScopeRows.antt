-- Device: typedef names by scope on worked rows. The name 1 is `T`, 2 is `x`, 3 is `r`, 4 is `f`, 5 is `Q`, 0 is `main`.
use Rattle.std.proofs.Common.{◌≡◌, refl, ℕ, ◌+◌, Bool, true, false, List, [], ◌∷◌, map, Option, Some, None, codes}
use Rattle.cil_base.specs.declared.numbers.NameId.{NameId}
use Rattle.cil_base.specs.declared.operators.BinOp.TheVariants.{Add, Mul, Eq}
use Rattle.c_tree.specs.declared.words.BasicType.TheVariants.{Void, Int, Unsigned}
use Rattle.c_tree.specs.declared.words.StructKind.TheVariants.{Struct}
use Rattle.c_tree.specs.declared.words.Qualifier.TheVariants.{Const}
use Rattle.c_tree.specs.declared.words.StorageClass.TheVariants.{Typedef, Static}
use Rattle.c_tree.specs.Syntax as t
use Rattle.c_tree.specs.Units as u
use Rattle.c_tree.specs.UnitSpelling.{spell_unit}
use Rattle.c_tree.specs.Levels.{levelled_unit}
use Rattle.c_tree.specs.Placed.{placed_unit}
use Rattle.c_tree.specs.Scoped.{scoped_unit}
use Rattle.c_tree.specs.Grammatical.{low_unit, is_grammatical}

abbrev name : ℕ → NameId
name i = record { 0 = i }

abbrev word : ℕ → ℕ → t.ExprTree
word at i = t.Name at (name i)

abbrev declared : ℕ → ℕ → t.DeclaratorTree
declared at i = t.Declared at (name i)

abbrev one : t.SpecifierTree → t.SpecifierTrees
one s = t.MoreSpecifiers s t.NoSpecifiers

abbrev two : t.SpecifierTree → t.SpecifierTree → t.SpecifierTrees
two s z = t.MoreSpecifiers s (one z)

abbrev int : ℕ → t.SpecifierTrees
int at = one (t.Basic at Int)

abbrev type_T : ℕ → t.SpecifierTrees
type_T at = one (t.TypedefName at (name 1))

abbrev block : List u.BlockItem → u.BlockItems
block [] = u.NoItems
block (i ∷ is) = u.MoreItems i (block is)

abbrev parameters : List (t.SpecifierTrees × t.DeclaratorTree) → t.ParameterTrees
parameters [] = t.NoParameters
parameters (p ∷ ps) = t.MoreParameters (t.Parameter p.0 p.1) (parameters ps)

-- `specifiers declarator ;`
abbrev line : ℕ → t.SpecifierTrees → t.DeclaratorTree → u.DeclarationTree
line at ss d = u.Declares at ss ((d, None) ∷ [])

-- `typedef int T ;`, four tokens
abbrev typedef_T : u.ExternalTree
typedef_T = u.External (line 0 (two (t.Storage 0 Typedef) (t.Basic 1 Int)) (declared 2 1))

-- behind it
abbrev behind : List u.ExternalTree → u.UnitTree
behind ds = typedef_T ∷ ds

-- the levels, the numbers, the scopes and the heights
abbrev stands : u.UnitTree → List Bool
stands unit = levelled_unit unit ∷ placed_unit 0 unit ∷ scoped_unit unit ∷ low_unit unit ∷ []

abbrev good : List Bool
good = true ∷ true ∷ true ∷ true ∷ []

-- all but the scopes
abbrev misread : List Bool
misread = true ∷ true ∷ false ∷ true ∷ []

-- `int main ( void ) { items }` behind `typedef int T ;`; its items begin with token 10
abbrev main_of : List u.BlockItem → u.UnitTree
main_of is = behind (u.Definition 4 (int 4) (t.Function 5 (declared 5 0) (parameters ((one (t.Basic 7 Void), t.Absent 8) ∷ [])) false) [] 9 (block is) ∷ [])

-- `T * x ;` and `T * x = 0 ;` as expression and as declaration
abbrev product : ℕ → u.BlockItem
product at = u.Doing (u.Expression at (Some (t.Binary at Mul (word at 1) (word (at + 2) 2))))

abbrev pointer : ℕ → Option t.InitTree → u.BlockItem
pointer at i = u.Declaring (u.Declares at (type_T at) ((t.Pointer (at + 1) [] (declared (at + 2) 2), i) ∷ []))

-- `int r ; { int T = 6 , x = 7 ; T * x ; r = T * x ; } { T * x = 0 ; return r + ( x == 0 ) ; }`, with the first `T * x ;` and `T * x = 0 ;` to be read
abbrev two_blocks : u.BlockItem → u.BlockItem → u.UnitTree
two_blocks first second = main_of
    (u.Declaring (line 10 (int 10) (declared 11 3))
    ∷ u.Doing (u.Compound 13 (block
    (u.Declaring (u.Declares 14 (int 14) ((declared 15 1, Some (t.Single (t.Integer 17 (codes "6")))) ∷ (declared 19 2, Some (t.Single (t.Integer 21 (codes "7")))) ∷ []))
    ∷ first ∷ u.Doing (u.Expression 27 (Some (t.Assign 27 None (word 27 3) (t.Binary 29 Mul (word 29 1) (word 31 2))))) ∷ [])))
    ∷ u.Doing (u.Compound 34 (block
    (second ∷ u.Doing (u.Return 41 (Some (t.Binary 42 Add (word 42 3) (t.Parentheses 44 (t.Binary 45 Eq (word 45 2) (t.Integer 47 (codes "0"))))))) ∷ [])))
    ∷ [])

abbrev zeroed : Option t.InitTree
zeroed = Some (t.Single (t.Integer 39 (codes "0")))

-- an object named T hides the typedef name in the first block alone
block_by_block : is_grammatical (two_blocks (product 23) (pointer 35 zeroed)) ≡ true
block_by_block = refl

first_block : (stands (two_blocks (pointer 23 None) (pointer 35 zeroed)) ≡ misread) × (spell_unit (two_blocks (pointer 23 None) (pointer 35 zeroed)) ≡ spell_unit (two_blocks (product 23) (pointer 35 zeroed)))
first_block = (refl, refl)

-- in the second block `T * x ;` would be a declaration too
second_block : map (λ i. scoped_unit (two_blocks (product 23) i)) (pointer 35 None ∷ product 35 ∷ []) ≡ true ∷ false ∷ []
second_block = refl

-- `int f ( int ( T ) ) ;` behind the typedef: a function with a parameter of function type; T could be the parameter's name
abbrev prototype : t.DeclaratorTree → u.UnitTree
prototype d = behind (u.External (line 4 (int 4) (t.Function 5 (declared 5 4) (parameters ((int 7, d) ∷ [])) false)) ∷ [])

abbrev takes_T : t.DeclaratorTree → t.DeclaratorTree
takes_T d = t.Function 8 d (parameters ((type_T 9, t.Absent 10) ∷ [])) false

in_parentheses : (map stands (prototype (takes_T (t.Absent 8)) ∷ prototype (t.Grouped 8 (declared 9 1)) ∷ []) ≡ good ∷ misread ∷ [])
    × (spell_unit (prototype (takes_T (t.Absent 8))) ≡ spell_unit (prototype (t.Grouped 8 (declared 9 1))))
in_parentheses = (refl, refl)

-- deeper: `( * ( T ) )`, `( ( T ) )`, `( T [ ] )`, `( T ( int ) )`; without parentheses directly before it T is the parameter's name, as in `* T` and `( * T )`
deeper : map (λ d. scoped_unit (prototype d))
    (t.Grouped 8 (t.Pointer 9 [] (t.Grouped 10 (declared 11 1))) ∷ t.Grouped 8 (t.Grouped 9 (declared 10 1)) ∷ t.Grouped 8 (t.Array 9 (declared 9 1) (t.Unspecified 10 []))
    ∷ t.Grouped 8 (t.Function 9 (declared 9 1) (parameters ((int 11, t.Absent 12) ∷ [])) false)
    ∷ declared 8 1 ∷ t.Pointer 8 [] (declared 9 1) ∷ t.Grouped 8 (t.Pointer 9 [] (declared 10 1)) ∷ t.Grouped 8 (declared 9 2) ∷ [])
    ≡ false ∷ false ∷ false ∷ false ∷ true ∷ true ∷ true ∷ true ∷ []
deeper = refl

-- `int ( T ) ;` is no parameter, and redeclares T, in a block as an object: `int ( T ) ; T = 1 ;`
redeclared : is_grammatical (main_of (u.Declaring (line 10 (int 10) (t.Grouped 11 (declared 12 1))) ∷ u.Doing (u.Expression 15 (Some (t.Assign 15 None (word 15 1) (t.Integer 17 (codes "1"))))) ∷ [])) ≡ true
redeclared = refl

-- `const T ;` declares nothing: T is one more specifier; `const T x ;` and `unsigned T ;` declare x and T
abbrev const_T : List u.UnitTree
const_T = map (λ d. behind (u.External d ∷ []))
    (u.Declares 4 (two (t.Qualified 4 Const) (t.TypedefName 5 (name 1))) [] ∷ line 4 (one (t.Qualified 4 Const)) (declared 5 1)
    ∷ line 4 (two (t.Qualified 4 Const) (t.TypedefName 5 (name 1))) (declared 6 2) ∷ line 4 (one (t.Basic 4 Unsigned)) (declared 5 1) ∷ u.Declares 4 (two (t.Basic 4 Unsigned) (t.TypedefName 5 (name 1))) [] ∷ [])

one_more_specifier : map stands const_T ≡ good ∷ misread ∷ good ∷ good ∷ misread ∷ []
one_more_specifier = refl

-- the same of a member, of a bit-field, of a parameter and of a definition: `struct { const T ; } ;`, `struct { const T : 1 ; } ;`, `int f ( const T ) ;`, `static T ( x ) { }`
abbrev holding : t.SpecifierTrees → t.MemberDeclaratorTrees → u.UnitTree
holding ss ds = behind (u.External (u.Declares 4 (one (t.StructBody 4 Struct None (t.MoreMembers (t.MemberLine ss ds) t.NoMembers))) []) ∷ [])

abbrev const_at : ℕ → t.SpecifierTrees
const_at at = one (t.Qualified at Const)

abbrev const_T_at : ℕ → t.SpecifierTrees
const_T_at at = two (t.Qualified at Const) (t.TypedefName (at + 1) (name 1))

abbrev one_member : t.MemberDeclaratorTree → t.MemberDeclaratorTrees
one_member d = t.MoreMemberDeclarators d t.NoMemberDeclarators

abbrev taking : t.SpecifierTrees → t.DeclaratorTree → u.UnitTree
taking ss d = behind (u.External (line 4 (int 4) (t.Function 5 (declared 5 4) (parameters ((ss, d) ∷ [])) false)) ∷ [])

one_more_elsewhere : map stands
    (holding (const_T_at 6) t.NoMemberDeclarators ∷ holding (const_at 6) (one_member (t.Plain (declared 7 1)))
    ∷ holding (const_T_at 6) (one_member (t.BitField (t.Absent 8) (t.Integer 9 (codes "1")))) ∷ holding (const_at 6) (one_member (t.BitField (declared 7 1) (t.Integer 9 (codes "1"))))
    ∷ taking (const_T_at 7) (t.Absent 9) ∷ taking (const_at 7) (declared 8 1)
    ∷ behind (u.Definition 4 (two (t.Storage 4 Static) (t.TypedefName 5 (name 1))) (t.Grouped 6 (declared 7 2)) [] 9 u.NoItems ∷ [])
    ∷ behind (u.Definition 4 (one (t.Storage 4 Static)) (t.Unprototyped 5 (declared 5 1) (name 2 ∷ [])) [] 9 u.NoItems ∷ []) ∷ [])
    ≡ good ∷ misread ∷ good ∷ misread ∷ good ∷ misread ∷ good ∷ misread ∷ []
one_more_elsewhere = refl

-- members, tags, labels and designators named T: `struct T { int T ; } r = { . T = 1 } ; int main ( void ) { r . T ; T : goto T ; struct T x ; }`
abbrev free_names : u.UnitTree
free_names = behind
    (u.External (u.Declares 4 (one (t.StructBody 4 Struct (Some (name 1)) (t.MoreMembers (t.MemberLine (int 7) (one_member (t.Plain (declared 8 1)))) t.NoMembers)))
    ((declared 11 3, Some (t.Braces 13 (t.MoreItems (t.Item (t.MoreDesignators (t.AtMember 14 (name 1)) t.NoDesignators) (t.Single (t.Integer 17 (codes "1")))) t.NoItems) false)) ∷ []))
    ∷ u.Definition 20 (int 20) (t.Unprototyped 21 (declared 21 0) []) [] 24
    (block (u.Doing (u.Expression 25 (Some (t.Member 25 (word 25 3) (name 1)))) ∷ u.Doing (u.Labelled 29 (name 1) (u.Goto 31 (name 1))) ∷ [])) ∷ [])

free : is_grammatical free_names ≡ true
free = refl

-- `T ( x ) ;` behind the typedef is a declaration, and behind `int T ;` in the block a call
abbrev call : ℕ → u.BlockItem
call at = u.Doing (u.Expression at (Some (t.Call at (word at 1) (t.MoreExprs (word (at + 2) 2) t.NoExprs))))

abbrev grouped : ℕ → u.BlockItem
grouped at = u.Declaring (line at (type_T at) (t.Grouped (at + 1) (declared (at + 2) 2)))

abbrev int_T : u.BlockItem
int_T = u.Declaring (line 10 (int 10) (declared 11 1))

calls_and_declarations : map stands (main_of (grouped 10 ∷ []) ∷ main_of (call 10 ∷ []) ∷ main_of (int_T ∷ call 13 ∷ []) ∷ main_of (int_T ∷ grouped 13 ∷ []) ∷ []) ≡ good ∷ misread ∷ good ∷ misread ∷ []
calls_and_declarations = refl

-- a parameter named T is no typedef name behind it in the list and in the body: `int f ( int T , int x [ T ] ) { return T ; }`; `int f ( int T , T x ) { }` is none, and nor is `int f ( int T ) { T x ; }`
abbrev function : t.ParameterTrees → ℕ → List u.BlockItem → u.UnitTree
function ps body_at is = behind (u.Definition 4 (int 4) (t.Function 5 (declared 5 4) ps false) [] body_at (block is) ∷ [])

abbrev int_T_and : t.SpecifierTrees → t.DeclaratorTree → t.ParameterTrees
int_T_and ss d = parameters ((int 7, declared 8 1) ∷ (ss, d) ∷ [])

parameter_hides : map stands
    (function (int_T_and (int 10) (t.Array 11 (declared 11 2) (t.Size 12 [] (word 13 1)))) 16 (u.Doing (u.Return 17 (Some (word 18 1))) ∷ [])
    ∷ function (int_T_and (type_T 10) (declared 11 2)) 13 []
    ∷ function (parameters ((int 7, declared 8 1) ∷ [])) 10 (u.Declaring (line 11 (type_T 11) (declared 12 2)) ∷ []) ∷ [])
    ≡ good ∷ misread ∷ misread ∷ []
parameter_hides = refl

-- a prototype is left at its end: `int f ( int T ) ; T x ;`; of `int ( * f ( int T ) ) ( T x ) { T ; }` the own list alone is open in the body
prototype_left : stands (behind (u.External (line 4 (int 4) (t.Function 5 (declared 5 4) (parameters ((int 7, declared 8 1) ∷ [])) false)) ∷ u.External (line 11 (type_T 11) (declared 12 2)) ∷ [])) ≡ good
prototype_left = refl

abbrev gives_function : List u.BlockItem → u.UnitTree
gives_function is = behind (u.Definition 4 (int 4)
    (t.Function 5 (t.Grouped 5 (t.Pointer 6 [] (t.Function 7 (declared 7 4) (parameters ((int 9, declared 10 1) ∷ [])) false))) (parameters ((type_T 14, declared 15 2) ∷ [])) false) [] 17 (block is) ∷ [])

own_list_open : map stands (gives_function (u.Doing (u.Expression 18 (Some (word 18 1))) ∷ []) ∷ gives_function (u.Declaring (line 18 (type_T 18) (declared 19 2)) ∷ []) ∷ []) ≡ good ∷ misread ∷ []
own_list_open = refl

-- `int f ( x ) T x ; { return x ; }` with the typedef, and `int f ( T ) { }` as an identifier list, which it is not: T is a parameter's type
abbrev listed : List NameId → List u.DeclarationTree → ℕ → u.UnitTree
listed names ds body_at = behind (u.Definition 4 (int 4) (t.Unprototyped 5 (declared 5 4) names) ds body_at u.NoItems ∷ [])

identifier_lists : map stands
    (listed (name 2 ∷ []) (line 9 (type_T 9) (declared 10 2) ∷ []) 12 ∷ listed (name 1 ∷ []) [] 9 ∷ function (parameters ((type_T 7, t.Absent 8) ∷ [])) 9 []
    ∷ listed (name 2 ∷ []) (line 9 (int 9) (declared 10 1) ∷ line 12 (type_T 12) (declared 13 2) ∷ []) 15 ∷ [])
    ≡ good ∷ misread ∷ good ∷ misread ∷ []
identifier_lists = refl

-- an enumerator T hides the typedef name behind its own value: `{ enum { T = sizeof ( T ) , x = T } ; }`; and `if ( sizeof ( enum { T } ) ) T ; T x ;`, where it is left with the statement
abbrev valued : t.ExprTree → t.ExprTree → u.BlockItem
valued e o = u.Declaring (u.Declares 10 (one (t.EnumBody 10 None (t.MoreEnumerators (t.Enumerates 12 (name 1) (t.SomeExpr e)) (t.MoreEnumerators (t.Enumerates 19 (name 2) (t.SomeExpr o)) t.NoEnumerators)) false)) [])

abbrev size_T : ℕ → t.ExprTree
size_T at = t.SizeofType at (t.TypeName (type_T (at + 2)) (t.Absent (at + 3)))

own_value : map stands (main_of (valued (size_T 14) (word 21 1) ∷ []) ∷ main_of (valued (size_T 14) (size_T 21) ∷ []) ∷ main_of (valued (t.SizeofExpr 14 (t.Parentheses 15 (word 16 1))) (word 21 1) ∷ []) ∷ [])
    ≡ good ∷ misread ∷ misread ∷ []
own_value = refl

abbrev enumerates_T : ℕ → t.ExprTree
enumerates_T at = t.SizeofType at (t.TypeName (one (t.EnumBody (at + 2) None (t.MoreEnumerators (t.Enumerates (at + 4) (name 1) t.NoExpr) t.NoEnumerators) false)) (t.Absent (at + 6)))

abbrev branching : u.BlockItem → u.UnitTree
branching next = main_of (u.Doing (u.If 10 (enumerates_T 12) (u.Expression 20 (Some (word 20 1)))) ∷ next ∷ [])

left_with_if : map stands (branching (u.Declaring (line 22 (type_T 22) (declared 23 2))) ∷ branching (u.Doing (u.Expression 22 (Some (word 22 1)))) ∷ []) ≡ good ∷ misread ∷ []
left_with_if = refl

-- without a block the enumerator stays: `sizeof ( enum { T } ) ; T ;`
stays : map stands (main_of (u.Doing (u.Expression 10 (Some (enumerates_T 10))) ∷ u.Doing (u.Expression 18 (Some (word 18 1))) ∷ []) ∷ main_of (u.Doing (u.Expression 10 (Some (enumerates_T 10))) ∷ u.Declaring (line 18 (type_T 18) (declared 19 2)) ∷ []) ∷ [])
    ≡ good ∷ misread ∷ []
stays = refl

-- the body of a do is a block, left before the condition: `do sizeof ( enum { T } ) ; while ( sizeof ( T ) ) ;`
body_of_do : map stands (main_of (u.Doing (u.Do 10 (u.Expression 11 (Some (enumerates_T 11))) (size_T 21)) ∷ []) ∷ main_of (u.Doing (u.Do 10 (u.Expression 11 (Some (enumerates_T 11))) (word 21 1)) ∷ []) ∷ [])
    ≡ good ∷ misread ∷ []
body_of_do = refl

-- the declaration of a for is left with the statement: `for ( int T ; T ; T ) T ; T x ;`
for_scope : stands (main_of (u.Doing (u.For 10 (u.StartDeclaration (line 12 (int 12) (declared 13 1))) (Some (word 15 1)) (Some (word 17 1)) (u.Expression 19 (Some (word 19 1)))) ∷ u.Declaring (line 21 (type_T 21) (declared 22 2)) ∷ [])) ≡ good
for_scope = refl

-- a declared name's scope begins before its initialiser: in a block `int T = sizeof ( T ) ;` asks for the size of the object
initialiser_behind : map (λ e. stands (main_of (u.Declaring (u.Declares 10 (int 10) ((declared 11 1, Some (t.Single e)) ∷ [])) ∷ []))) (t.SizeofExpr 13 (t.Parentheses 14 (word 15 1)) ∷ size_T 13 ∷ []) ≡ good ∷ misread ∷ []
initialiser_behind = refl
