-- Device: the readings on worked rows. The name 1 is `T`, 2 is `x`, 3 is `f`, 4 is `a`, 5 is `b`.
use Rattle.std.proofs.Common.{◌≡◌, refl, ℕ, true, false, List, [], ◌∷◌, ◌++◌, Option, Some, None, Result, Ok, Err, codes}
use Rattle.cil_base.specs.declared.numbers.NameId.{NameId}
use Rattle.cil_base.specs.declared.operators.BinOp.TheVariants.{Mul, Lt}
use Rattle.cil_base.specs.declared.tokens.Keyword.TheVariants as k
use Rattle.cil_base.specs.declared.tokens.Punctuator.TheVariants as p
use Rattle.typedef_scopes.specs.Scopes.{Scope}
use Rattle.c_tree.specs.declared.words.BasicType.TheVariants.{Void, Int}
use Rattle.c_tree.specs.declared.words.StorageClass.TheVariants.{Typedef}
use Rattle.c_tree.specs.declared.words.StructKind.TheVariants.{Struct}
use Rattle.c_tree.specs.declared.words.StepOp.TheVariants.{Increment}
use Rattle.c_tree.specs.Syntax as t
use Rattle.c_tree.specs.Units as u
use Rattle.c_tree.specs.Spelling.{Lexeme, word, sign, named, integer}
use Rattle.c_cursor.specs.Readers.{Input, input}
use Rattle.c_exprs.specs.Subs.{In}
use Rattle.c_exprs.specs.Reading.{below}
use Rattle.c_parser.specs.Externals.{file_scope}
use Rattle.c_parser.specs.StatementReading.{statement}
use Rattle.c_parser.specs.UnitReading.{lower, external_of, more_externals, unit}

abbrev name : ℕ → NameId
name i = record { 0 = i }

-- tokens

abbrev an : ℕ → Lexeme
an i = named (name i)

abbrev one : Lexeme
one = integer (codes "1")

abbrev semicolon : Lexeme
semicolon = sign p.Semicolon

abbrev in_parens : Lexeme → List Lexeme → List Lexeme
in_parens u us = sign p.LeftParen ∷ u ∷ sign p.RightParen ∷ us

-- trees

abbrev int : ℕ → t.SpecifierTrees
int at = t.MoreSpecifiers (t.Basic at Int) t.NoSpecifiers

abbrev type_T : ℕ → t.SpecifierTrees
type_T at = t.MoreSpecifiers (t.TypedefName at (name 1)) t.NoSpecifiers

abbrev line : ℕ → t.SpecifierTrees → t.DeclaratorTree → u.DeclarationTree
line at ss d = u.Declares at ss ((d, None) ∷ [])

abbrev block : List u.BlockItem → u.BlockItems
block [] = u.NoItems
block (i ∷ is) = u.MoreItems i (block is)

abbrev number : ℕ → t.ExprTree
number at = t.Integer at (codes "1")

abbrev null : ℕ → u.StmtTree
null at = u.Expression at None

-- T is a typedef name
abbrev with_T : List Scope
with_T = ((name 1, true) ∷ []) ∷ []

abbrev stmt : List Scope → ℕ → List Lexeme → Result (In u.StmtTree × Input) Input
stmt ds n ts = statement 20 (lower 20) ds (input n ts)

abbrev ext : List Scope → ℕ → List Lexeme → Result (In u.ExternalTree × Input) Input
ext ds n ts = external_of 20 ds (input n ts)

-- statements

-- `if ( 1 ) if ( 1 ) ; else ;`: the else belongs to the inner if (6.8.4.1p3)
dangling : stmt file_scope 0 (word k.If ∷ in_parens one (word k.If ∷ in_parens one (semicolon ∷ word k.Else ∷ semicolon ∷ [])))
    ≡ Ok ((u.If 0 (number 2) (u.IfElse 4 (number 6) (null 8) (null 10)), file_scope), input 11 [])
unfolding lower below
dangling = refl

-- `if ( 1 ) else ;`: no statement stands between the two
no_branch : stmt file_scope 6 (word k.If ∷ in_parens one (word k.Else ∷ semicolon ∷ [])) ≡ Err (input 10 (word k.Else ∷ semicolon ∷ []))
unfolding lower below
no_branch = refl

-- `for ( int a = 1 ; a < 1 ; a ++ ) continue ;`: a's scope is the statement (6.8.5p5)
for_declared : stmt with_T 0 (word k.For ∷ sign p.LeftParen ∷ word k.Int ∷ an 1 ∷ sign p.Equal ∷ one ∷ semicolon ∷ an 1 ∷ sign p.Less ∷ one ∷ semicolon ∷ an 1 ∷ sign p.PlusPlus ∷ sign p.RightParen ∷ word k.Continue ∷ semicolon ∷ an 1 ∷ [])
    ≡ Ok (
      (
        u.For 0 (u.StartDeclaration (u.Declares 2 (int 2) ((t.Declared 3 (name 1), Some (t.Single (number 5))) ∷ []))) (Some (t.Binary 7 Lt (t.Name 7 (name 1)) (number 9))) (Some (t.Postfix 11 (t.Name 11 (name 1)) Increment)) (u.Continue 14),
        with_T,
      ),
      input 16 (an 1 ∷ []),
    )
unfolding lower below
for_declared = refl

-- `do ; while ( 1 ) ;` and what stands behind it
do_while : stmt file_scope 0 (word k.Do ∷ semicolon ∷ word k.While ∷ in_parens one (semicolon ∷ word k.Else ∷ [])) ≡ Ok ((u.Do 0 (null 1) (number 4), file_scope), input 7 (word k.Else ∷ []))
unfolding lower below
do_while = refl

-- `switch ( 1 ) { case 1 : default : break ; }`
switched : stmt file_scope 0 (word k.Switch ∷ in_parens one (sign p.LeftBrace ∷ word k.Case ∷ one ∷ sign p.Colon ∷ word k.Default ∷ sign p.Colon ∷ word k.Break ∷ semicolon ∷ sign p.RightBrace ∷ []))
    ≡ Ok ((u.Switch 0 (number 2) (u.Compound 4 (block (u.Doing (u.Case 5 (number 6) (u.Default 8 (u.Break 10))) ∷ []))), file_scope), input 13 [])
unfolding lower below
switched = refl

-- labels have a name space of their own (6.2.3): `{ T : ; T x ; T * x ; goto T ; }`
labels : stmt with_T 0 (sign p.LeftBrace ∷ an 1 ∷ sign p.Colon ∷ semicolon ∷ an 1 ∷ an 2 ∷ semicolon ∷ an 1 ∷ sign p.Star ∷ an 2 ∷ semicolon ∷ word k.Goto ∷ an 1 ∷ semicolon ∷ sign p.RightBrace ∷ [])
    ≡ Ok (
      (
        u.Compound 0 (block (u.Doing (u.Labelled 1 (name 1) (null 3)) ∷ u.Declaring (line 4 (type_T 4) (t.Declared 5 (name 2))) ∷ u.Declaring (line 7 (type_T 7) (t.Pointer 8 [] (t.Declared 9 (name 2)))) ∷ u.Doing (u.Goto 11 (name 1)) ∷ [])),
        with_T,
      ),
      input 15 [],
    )
unfolding lower below
labels = refl

-- `{ int T ; T * x ; }`: T is an object there, and `T * x` a product
hidden : stmt with_T 0 (sign p.LeftBrace ∷ word k.Int ∷ an 1 ∷ semicolon ∷ an 1 ∷ sign p.Star ∷ an 2 ∷ semicolon ∷ sign p.RightBrace ∷ an 1 ∷ [])
    ≡ Ok (
      (u.Compound 0 (block (u.Declaring (line 1 (int 1) (t.Declared 2 (name 1))) ∷ u.Doing (u.Expression 4 (Some (t.Binary 4 Mul (t.Name 4 (name 1)) (t.Name 6 (name 2))))) ∷ [])), with_T),
      input 9 (an 1 ∷ []),
    )
unfolding lower below
hidden = refl

-- `if ( 1 ) T x ;`: a declaration is no statement, and T could be a label there: the fault is behind it
no_label : stmt with_T 0 (word k.If ∷ in_parens one (an 1 ∷ an 2 ∷ semicolon ∷ [])) ≡ Err (input 5 (an 2 ∷ semicolon ∷ []))
unfolding lower below
no_label = refl

-- external declarations

-- `int a ; int b c ;`: the second begins at 3, and c stops it
abbrev three_names : List Lexeme
three_names = word k.Int ∷ an 5 ∷ an 2 ∷ semicolon ∷ []

stopped : more_externals 20 ([], file_scope) (input 0 (word k.Int ∷ an 4 ∷ semicolon ∷ three_names)) ≡ Err (input 5 (an 2 ∷ semicolon ∷ []))
unfolding lower below
stopped = refl

first_of_two : ext file_scope 0 (word k.Int ∷ an 4 ∷ semicolon ∷ three_names) ≡ Ok ((u.External (line 0 (int 0) (t.Declared 1 (name 4))), ((name 4, false) ∷ []) ∷ []), input 3 three_names)
unfolding lower below
first_of_two = refl

-- `int T ; T x ;`: T is no typedef name
no_type : more_externals 20 ([], file_scope) (input 0 (word k.Int ∷ an 1 ∷ semicolon ∷ an 1 ∷ an 2 ∷ semicolon ∷ [])) ≡ Err (input 3 (an 1 ∷ an 2 ∷ semicolon ∷ []))
unfolding lower below
no_type = refl

-- `int f ( void ) { return 1 ;`: the end stops it
unfinished : ext file_scope 0 (word k.Int ∷ an 3 ∷ sign p.LeftParen ∷ word k.Void ∷ sign p.RightParen ∷ sign p.LeftBrace ∷ word k.Return ∷ one ∷ semicolon ∷ []) ≡ Err (input 9 [])
unfolding lower below
unfinished = refl

-- no token at all
empty : unit (input 0 []) ≡ Err (input 0 [])
unfolding lower below
empty = refl

-- `int f ( a ) typedef int a ; { a * b ; }`: behind the declarations of its list a is a typedef name, and `a * b ;` declares b (6.9.1p6, 6.2.1p4)
identifiers : ext file_scope 0 (word k.Int ∷ an 3 ∷ sign p.LeftParen ∷ an 4 ∷ sign p.RightParen ∷ word k.Typedef ∷ word k.Int ∷ an 4 ∷ semicolon ∷ sign p.LeftBrace ∷ an 4 ∷ sign p.Star ∷ an 5 ∷ semicolon ∷ sign p.RightBrace ∷ [])
    ≡ Ok (
      (
        u.Definition 0 (int 0) (t.Unprototyped 1 (t.Declared 1 (name 3)) (name 4 ∷ [])) (line 5 (t.MoreSpecifiers (t.Storage 5 Typedef) (t.MoreSpecifiers (t.Basic 6 Int) t.NoSpecifiers)) (t.Declared 7 (name 4)) ∷ []) 9
            (block (u.Declaring (line 10 (t.MoreSpecifiers (t.TypedefName 10 (name 4)) t.NoSpecifiers) (t.Pointer 11 [] (t.Declared 12 (name 5)))) ∷ [])),
        ((name 3, false) ∷ []) ∷ [],
      ),
      input 15 [],
    )
unfolding lower below
identifiers = refl

-- behind an identifier list only declarations and the body stand: `int f ( a ) ;` has its fault at the semicolon (6.7.6.3p3)
no_definition : ext file_scope 0 (word k.Int ∷ an 3 ∷ sign p.LeftParen ∷ an 4 ∷ sign p.RightParen ∷ semicolon ∷ []) ≡ Err (input 5 (semicolon ∷ []))
unfolding lower below
no_definition = refl

-- `int f ( int T ) { T * x ; }`: a parameter hides the typedef name in the body
parameter_hides : ext with_T 0 (word k.Int ∷ an 3 ∷ sign p.LeftParen ∷ word k.Int ∷ an 1 ∷ sign p.RightParen ∷ sign p.LeftBrace ∷ an 1 ∷ sign p.Star ∷ an 2 ∷ semicolon ∷ sign p.RightBrace ∷ an 1 ∷ [])
    ≡ Ok (
      (
        u.Definition 0 (int 0) (t.Function 1 (t.Declared 1 (name 3)) (t.MoreParameters (t.Parameter (int 3) (t.Declared 4 (name 1))) t.NoParameters) false) [] 6
            (block (u.Doing (u.Expression 7 (Some (t.Binary 7 Mul (t.Name 7 (name 1)) (t.Name 9 (name 2))))) ∷ [])),
        ((name 1, true) ∷ (name 3, false) ∷ []) ∷ [],
      ),
      input 12 (an 1 ∷ []),
    )
unfolding lower below
parameter_hides = refl

-- `struct T { T T ; } T ;`: a tag and a member may have the typedef name's name (6.2.3), and the last T hides it
tags_members : ext with_T 0 (word k.Struct ∷ an 1 ∷ sign p.LeftBrace ∷ an 1 ∷ an 1 ∷ semicolon ∷ sign p.RightBrace ∷ an 1 ∷ semicolon ∷ [])
    ≡ Ok (
      (
        u.External (line 0 (t.MoreSpecifiers (t.StructBody 0 Struct (Some (name 1)) (t.MoreMembers (t.MemberLine (type_T 3) (t.MoreMemberDeclarators (t.Plain (t.Declared 4 (name 1))) t.NoMemberDeclarators)) t.NoMembers)) t.NoSpecifiers) (t.Declared 7 (name 1))),
        ((name 1, true) ∷ (name 1, false) ∷ []) ∷ [],
      ),
      input 9 [],
    )
unfolding lower below
tags_members = refl

-- a body of that height: `int f ( void ) { ; }` has 3
low_body : external_of 3 file_scope (input 0 (word k.Int ∷ an 3 ∷ sign p.LeftParen ∷ word k.Void ∷ sign p.RightParen ∷ sign p.LeftBrace ∷ semicolon ∷ sign p.RightBrace ∷ []))
    ≡ Ok (
      (u.Definition 0 (int 0) (t.Function 1 (t.Declared 1 (name 3)) (t.MoreParameters (t.Parameter (t.MoreSpecifiers (t.Basic 3 Void) t.NoSpecifiers) (t.Absent 4)) t.NoParameters) false) [] 5 (block (u.Doing (null 6) ∷ [])), ((name 3, false) ∷ []) ∷ []),
      input 8 [],
    )
unfolding lower below
low_body = refl

high_body : external_of 2 file_scope (input 0 (word k.Int ∷ an 3 ∷ semicolon ∷ word k.Int ∷ [])) ≡ Ok ((u.External (line 0 (int 0) (t.Declared 1 (name 3))), ((name 3, false) ∷ []) ∷ []), input 3 (word k.Int ∷ []))
unfolding lower below
high_body = refl

higher_body : external_of 2 file_scope (input 0 (word k.Int ∷ an 3 ∷ sign p.LeftParen ∷ word k.Void ∷ sign p.RightParen ∷ [])) ≡ Err (input 2 (sign p.LeftParen ∷ word k.Void ∷ sign p.RightParen ∷ []))
unfolding lower below
higher_body = refl
