-- Device: worked rows of the executable reading.
use Rattle.std.proofs.Common.{◌≡◌, true, false, [], ◌∷◌, Some, None, refl}
use Rattle.std.specs.Prelude.{codes}
use Rattle.cil_base.specs.declared.kinds.Abi.TheVariants.{Lp64, Ilp32}
use Rattle.cil_base.specs.declared.kinds.IntKind.TheVariants as kind
use Rattle.cil_base.specs.declared.operators.BinOp.TheVariants as op
use Rattle.type_graph.specs.Shapes.{IntType, PtrType, ArrayType, FuncType, NoTypes, MoreTypes}
use Rattle.cil_tree.specs.Tree.{Const, Bin, Return, Done, Seq, Zeros, Function}
use Rattle.cil_tree.specs.Typing.{unqualified}
use Rattle.cil_text.specs.Words.{Semicolon, word_of}
use Rattle.cil_text.specs.ReadTypes.{Bases, read_decl}
use Rattle.cil_text.specs.ReadText.{line_words, read_text}

abbrev lp64 : Bases
lp64 = record { abi = Lp64; tags = [] }

abbrev ilp32 : Bases
ilp32 = record { abi = Ilp32; tags = [] }

-- int ( * x ) [ 3 ]: a pointer to an array
pointer_to_array : read_decl lp64 9 (line_words (codes "int ( * x ) [ 3 ] ;\n")) ≡ Some ((PtrType unqualified (ArrayType unqualified (IntType kind.Int) (Some 3)), Some (codes "x")), Semicolon ∷ [])
unfolding word_of
pointer_to_array = refl

-- unsigned char * f ( int , ... ): a function that returns a pointer
function_with_more : read_decl lp64 9 (line_words (codes "unsigned char * f ( int , ... ) ;\n")) ≡ Some ((FuncType (PtrType unqualified (IntType kind.UChar)) (MoreTypes (IntType kind.Int) NoTypes) true true, Some (codes "f")), Semicolon ∷ [])
unfolding word_of
function_with_more = refl

-- long and unsigned long are the data model's kinds
long_of_eight : read_decl lp64 9 (line_words (codes "long f ( unsigned long , long long ) ;\n")) ≡ Some ((FuncType (IntType kind.Long) (MoreTypes (IntType kind.ULong) (MoreTypes (IntType kind.LLong) NoTypes)) true false, Some (codes "f")), Semicolon ∷ [])
unfolding word_of
long_of_eight = refl

long_of_four : read_decl ilp32 9 (line_words (codes "long f ( unsigned long , long long ) ;\n")) ≡ Some ((FuncType (IntType kind.Long4) (MoreTypes (IntType kind.ULong4) (MoreTypes (IntType kind.LLong) NoTypes)) true false, Some (codes "f")), Semicolon ∷ [])
unfolding word_of
long_of_four = refl

-- so are the suffixes
suffix_of_four : read_text Ilp32 12 (codes "long f ( void ) ;\nlong f ( void ) {\n  return ( 2L + 3UL ) ;\n}\n")
    ≡ Some (
      [],
      record {
        name = codes "f";
        type = Some (FuncType (IntType kind.Long4) NoTypes true false);
        internal = false;
        definition = Function (record { params = []; locals = []; labels = []; stmts = Seq (Return (Some (Bin op.Add (Const kind.Long4 2) (Const kind.ULong4 3)))) Done });
      } ∷ [],
    )
unfolding word_of
suffix_of_four = refl

-- a program with one function and an object
whole_text : read_text Lp64 12 (codes "int main ( void ) ;\nstatic int x ;\nint main ( void ) {\n  return ( 2 + 3 ) ;\n}\n")
    ≡ Some (
      [],
      record {
        name = codes "main";
        type = Some (FuncType (IntType kind.Int) NoTypes true false);
        internal = false;
        definition = Function (record { params = []; locals = []; labels = []; stmts = Seq (Return (Some (Bin op.Add (Const kind.Int 2) (Const kind.Int 3)))) Done });
      }
          ∷ record { name = codes "x"; type = Some (IntType kind.Int); internal = true; definition = Zeros } ∷ [],
    )
unfolding word_of
whole_text = refl

-- bytes that no reading takes
no_text : read_text Lp64 12 (codes "return 1 ;\n") ≡ None
unfolding word_of
no_text = refl
