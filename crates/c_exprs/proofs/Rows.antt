-- Device: the readings on worked rows.
use Rattle.std.proofs.Common.{◌≡◌, refl, ℕ, true, false, List, [], ◌∷◌, None, Ok, Err, codes}
use Rattle.cil_base.specs.declared.numbers.NameId.{NameId}
use Rattle.cil_base.specs.declared.operators.BinOp.TheVariants.{Mul}
use Rattle.cil_base.specs.declared.tokens.Keyword.TheVariants.{Const as ConstWord, Sizeof as SizeofWord, Enum as EnumWord, Static as StaticWord}
use Rattle.cil_base.specs.declared.tokens.Punctuator.TheVariants.{LeftParen, RightParen, LeftBrace, RightBrace, LeftBracket, RightBracket, Plus, Star as StarSign, Equal, Semicolon, Comma as CommaSign}
use Rattle.typedef_scopes.specs.Scopes.{Scope}
use Rattle.c_tree.specs.declared.level.Level.TheVariants.{Comma as CommaLevel}
use Rattle.c_tree.specs.declared.words.Qualifier.TheVariants.{Const}
use Rattle.c_tree.specs.declared.words.UnaryOp.TheVariants.{Indirection}
use Rattle.c_tree.specs.Syntax as t
use Rattle.c_tree.specs.Spelling.{word, sign, named, integer}
use Rattle.c_exprs.specs.declared.words.DeclaratorForm.TheVariants.{Definition as InDefinition, Parameter as InParameter}
use Rattle.c_cursor.specs.Readers.{input}
use Rattle.c_exprs.specs.Reading.{below}

abbrev name : ℕ → NameId
name i = record { 0 = i }

abbrev one_scope : List Scope
one_scope = [] ∷ []

-- T is a typedef name
abbrev with_type : List Scope
with_type = ((name 0, true) ∷ []) ∷ []

-- `( T ) { 1 } ;` behind sizeof is a compound literal, `( T ) * p` a product
sizeof_literal : (below 9).expr CommaLevel with_type (input 5 (word SizeofWord ∷ sign LeftParen ∷ named (name 0) ∷ sign RightParen ∷ sign LeftBrace ∷ integer (codes "1") ∷ sign RightBrace ∷ sign Semicolon ∷ []))
    ≡ Ok (
      (t.SizeofExpr 5 (t.CompoundLiteral 6 (t.TypeName (t.MoreSpecifiers (t.TypedefName 7 (name 0)) t.NoSpecifiers) (t.Absent 8)) (t.MoreItems (t.Item t.NoDesignators (t.Single (t.Integer 10 (codes "1")))) t.NoItems) false), with_type),
      input 12 (sign Semicolon ∷ []),
    )
unfolding below
sizeof_literal = refl

sizeof_product : (below 9).expr CommaLevel with_type (input 5 (word SizeofWord ∷ sign LeftParen ∷ named (name 0) ∷ sign RightParen ∷ sign StarSign ∷ named (name 1) ∷ sign Semicolon ∷ []))
    ≡ Ok ((t.Binary 5 Mul (t.SizeofType 5 (t.TypeName (t.MoreSpecifiers (t.TypedefName 7 (name 0)) t.NoSpecifiers) (t.Absent 8))) (t.Name 10 (name 1)), with_type), input 11 (sign Semicolon ∷ []))
unfolding below
sizeof_product = refl

-- a sum is no left side of an assignment: the fault is at the `=`
sum_assigned : (below 9).expr CommaLevel one_scope (input 0 (named (name 1) ∷ sign Plus ∷ named (name 2) ∷ sign Equal ∷ named (name 3) ∷ [])) ≡ Err (input 3 (sign Equal ∷ named (name 3) ∷ []))
unfolding below
sum_assigned = refl

-- an enumerator is declared behind its value
enumerated : (below 9).expr CommaLevel one_scope (input 0 (word SizeofWord ∷ sign LeftParen ∷ word EnumWord ∷ sign LeftBrace ∷ named (name 4) ∷ sign RightBrace ∷ sign RightParen ∷ []))
    ≡ Ok ((t.SizeofType 0 (t.TypeName (t.MoreSpecifiers (t.EnumBody 2 None (t.MoreEnumerators (t.Enumerates 4 (name 4) t.NoExpr) t.NoEnumerators) false) t.NoSpecifiers) (t.Absent 6)), ((name 4, false) ∷ []) ∷ []), input 7 [])
unfolding below
enumerated = refl

-- a typedef name in the parentheses of a parameter's declarator begins a parameter list
parameter_of_type : (below 9).declarator InParameter with_type (input 0 (sign LeftParen ∷ named (name 0) ∷ sign RightParen ∷ []))
    ≡ Ok ((t.Function 0 (t.Absent 0) (t.MoreParameters (t.Parameter (t.MoreSpecifiers (t.TypedefName 1 (name 0)) t.NoSpecifiers) (t.Absent 2)) t.NoParameters) false, with_type), input 3 [])
unfolding below
parameter_of_type = refl

-- a definition's own identifier list
old_style : (below 9).declarator InDefinition one_scope (input 0 (named (name 1) ∷ sign LeftParen ∷ named (name 2) ∷ sign CommaSign ∷ named (name 3) ∷ sign RightParen ∷ []))
    ≡ Ok ((t.Unprototyped 0 (t.Declared 0 (name 1)) (name 2 ∷ name 3 ∷ []), one_scope), input 6 [])
unfolding below
old_style = refl

-- bounds
bounds : (below 9).declarator InParameter one_scope (input 0 (named (name 1) ∷ sign LeftBracket ∷ word ConstWord ∷ word StaticWord ∷ sign StarSign ∷ named (name 2) ∷ sign RightBracket ∷ sign LeftBracket ∷ sign StarSign ∷ sign RightBracket ∷ []))
    ≡ Ok ((t.Array 0 (t.Array 0 (t.Declared 0 (name 1)) (t.SizeStatic 1 (Const ∷ []) (t.Unary 4 Indirection (t.Name 5 (name 2))))) (t.Star 7 []), one_scope), input 10 [])
unfolding below
bounds = refl
