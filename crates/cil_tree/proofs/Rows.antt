-- Device: worked rows of the definitions: texts of programs, and for each rule of well-formedness a tree that breaks it alone.
use Rattle.std.proofs.Common.{◌≡◌, ℕ, Bool, true, false, List, [], ◌∷◌, ◌++◌, Option, Some, None, refl}
use Rattle.std.specs.Prelude.{ℤ, pos, negsuc, codes, map, replicate}
use Rattle.std.specs.Fmt.{digits}
use Rattle.cil_base.specs.declared.kinds.Abi.{Abi}
use Rattle.cil_base.specs.declared.kinds.Abi.TheVariants.{Lp64, Ilp32}
use Rattle.cil_base.specs.declared.kinds.IntKind.{IntKind}
use Rattle.cil_base.specs.declared.kinds.IntKind.TheVariants as kind
use Rattle.cil_base.specs.declared.constants.Constant.{Constant}
use Rattle.cil_base.specs.declared.constants.Constant.TheVariants as constant
use Rattle.std.specs.List.{list_all}
use Rattle.cil_base.specs.declared.operators.BinOp.TheVariants as op
use Rattle.cil_base.specs.declared.operators.UnOp.TheVariants as unop
use Rattle.type_graph.specs.declared.aggregates.AggKind.{AggKind}
use Rattle.type_graph.specs.declared.aggregates.AggKind.TheVariants.{Struct, Union, Enum}
use Rattle.type_graph.specs.declared.aggregates.Member.{Member}
use Rattle.type_graph.specs.declared.aggregates.Aggregate.{Aggregate}
use Rattle.type_graph.specs.declared.nodes.QualType.{QualType}
use Rattle.type_graph.specs.declared.nodes.Node.TheVariants.{Int, Ptr, Array, Agg}
use Rattle.type_graph.specs.Shapes.{Shape, VoidType, IntType, PtrType, ArrayType, FuncType, AggType, NoTypes, MoreTypes, shape}
use Rattle.type_graph.specs.Arena.{Graph, empty_graph}
use Rattle.type_graph.specs.Layouts.{agg_layout}
use Rattle.cil_tree.specs.Tree.{Exp, Const, Value, Un, Bin, Cast, AddrOf, StartOf, Global, Var, At, Here, Field, Index, Lval, Place, Direct, Through, Set, Call, Zero, Stmt, Do, If, Switch, Loop, Block, Label, Case, Default, Goto, Break, Return, Stmts, Done, Seq, Step, ToField, ToIndex, Item, Local, Definition, Declared, Zeros, Image, Function, GlobalDecl, Program}
use Rattle.cil_tree.specs.Typing.{Scope, unqualified}
use Rattle.cil_tree.specs.Lines.{lines_bytes}
use Rattle.cil_tree.specs.Text.{Text, lines_of}
use Rattle.cil_tree.specs.Bodies.{stmts_fit}
use Rattle.cil_tree.specs.Globals.{global_fits, image_fits}

abbrev pub int : Shape
int = IntType kind.Int

abbrev pub a_local : List ℕ → Shape → Local
a_local name s = record { name = name; type = Some s }

-- `int main(void)` with locals and statements
abbrev main_type : Shape
main_type = FuncType int NoTypes true false

abbrev main_of : List Local → List (List ℕ) → Stmts → GlobalDecl
main_of locals labels stmts = record { name = codes "main"; type = Some main_type; internal = false; definition = Function (record { params = []; locals = locals; labels = labels; stmts = stmts }) }

abbrev pub program : List GlobalDecl → Program
program globals = record { graph = empty_graph Lp64; names = []; globals = globals }

abbrev number_of : ℕ → Exp
number_of n = Const kind.Int n

abbrev local_place : ℕ → Lval
local_place n = Place (Var n) Here

abbrev var : ℕ → Exp
var n = Value (local_place n)

abbrev sum_program : Program
sum_program = program (main_of [] [] (Seq (Return (Some (Bin op.Add (number_of 2) (number_of 3)))) Done) ∷ [])

-- int main(void) { return 2 + 3; }
sum_text : Text sum_program ≡ codes "int main ( void ) ;\nint main ( void ) {\n  return ( 2 + 3 ) ;\n}\n"
unfolding digits
sum_text = refl

-- int main(void) { unsigned char c = 255; return (c + 1) == 256; }
abbrev char_program : Program
char_program = program (main_of (a_local (codes "c") (IntType kind.UChar) ∷ []) []
    (Seq (Do (Set (local_place 0) (Cast (Some (IntType kind.UChar)) (number_of 255))))
    (Seq (Return (Some (Bin op.Eq (Bin op.Add (Cast (Some int) (var 0)) (number_of 1)) (number_of 256)))) Done)) ∷ [])

char_text : Text char_program ≡ codes "int main ( void ) ;\nint main ( void ) {\n  unsigned char c ;\n  c = ( ( unsigned char ) 255 ) ;\n  return ( ( ( ( int ) c ) + 1 ) == 256 ) ;\n}\n"
unfolding digits
char_text = refl

-- int main(void) { int x = 1; { int x = 2; if (x) x = 3; } return x; }
abbrev block_program : Program
block_program = program (main_of (a_local (codes "x") int ∷ a_local (codes "x___0") int ∷ []) []
    (Seq (Do (Set (local_place 0) (number_of 1)))
    (Seq (Block (Seq (Do (Set (local_place 1) (number_of 2))) (Seq (If (var 1) (Seq (Do (Set (local_place 1) (number_of 3))) Done) Done) Done)))
    (Seq (Return (Some (var 0))) Done))) ∷ [])

block_text : Text block_program
    ≡ codes "int main ( void ) ;\nint main ( void ) {\n  int x ;\n  int x___0 ;\n  x = 1 ;\n  {\n    x___0 = 2 ;\n    if ( x___0 ) {\n      x___0 = 3 ;\n    } else {\n    }\n  }\n  return x ;\n}\n"
unfolding digits
block_text = refl

abbrev all_fit : Program → Bool
all_fit p = list_all (global_fits p) p.globals

-- their globals fit
fit : map all_fit (sum_program ∷ char_program ∷ block_program ∷ []) ≡ true ∷ true ∷ true ∷ []
fit = refl

-- the empty program has the empty text
empty_text : Text (program []) ≡ []
empty_text = refl

-- types: node 0 is int, 1 char, 2 struct node, 3 a pointer to it, 4 enum color, 5 union pair, 6 int [ 4 ], 7 struct hidden
abbrev pub plain : ℕ → QualType
plain t = record { quals = unqualified; of = record { 0 = t } }

abbrev pub member : ℕ → ℕ → ℤ → Member
member name t value = record { name = record { 0 = name }; anonymous = false; ty = plain t; value = value }

abbrev pub aggregate : AggKind → ℕ → Option (List Member) → Aggregate
aggregate kind tag members = record { kind = kind; tag = Some (record { 0 = tag }); members = members }

abbrev pub names : List (List ℕ)
names = codes "color" ∷ codes "red" ∷ codes "least" ∷ codes "node" ∷ codes "next" ∷ codes "value" ∷ codes "pair" ∷ codes "i" ∷ codes "n" ∷ codes "hidden" ∷ []

abbrev pub graph : Graph
graph = record {
  abi = Lp64;
  nodes = Int kind.Int ∷ Int kind.Char ∷ Agg (record { 0 = 1 }) ∷ Ptr (plain 2) ∷ Agg (record { 0 = 0 }) ∷ Agg (record { 0 = 2 }) ∷ Array (plain 0) (Some 4) ∷ Agg (record { 0 = 3 }) ∷ [];
  aggs = aggregate Enum 0 (Some (member 1 0 (pos 0) ∷ member 2 0 (negsuc 2147483647) ∷ []))
      ∷ aggregate Struct 3 (Some (member 4 3 (pos 0) ∷ member 5 6 (pos 0) ∷ []))
      ∷ aggregate Union 6 (Some (member 7 0 (pos 0) ∷ member 8 2 (pos 0) ∷ []))
      ∷ aggregate Struct 9 None ∷ [];
  completed = record { 0 = 0 } ∷ record { 0 = 1 } ∷ record { 0 = 2 } ∷ [];
}

abbrev pub node : Shape
node = AggType 1

abbrev pair : Shape
pair = AggType 2

abbrev pub four : Shape
four = ArrayType unqualified int (Some 4)

abbrev pub pointer : Shape → Shape
pointer s = PtrType unqualified s

abbrev pub object : List ℕ → Shape → Bool → Definition → GlobalDecl
object name s internal definition = record { name = name; type = Some s; internal = internal; definition = definition }

abbrev item : List Step → Constant → Item
item path value = record { path = path; value = value }

abbrev pub full : Program
full = record {
  graph = graph;
  names = names;
  globals =
      object (codes "a") four false (Image (item (ToIndex 0 ∷ []) (constant.Int kind.Int (pos 9)) ∷ item (ToIndex 2 ∷ []) (constant.Int kind.Int (pos 5)) ∷ item (ToIndex 3 ∷ []) (constant.Int kind.Int (pos 1)) ∷ []))
      ∷ object (codes "first") node true (Image (item (ToField 0 ∷ []) (constant.Address (record { 0 = 1 }) (pos 0)) ∷ item (ToField 1 ∷ ToIndex 1 ∷ []) (constant.Int kind.Int (negsuc 2)) ∷ []))
      ∷ object (codes "p") (pointer node) false (Image (item [] (constant.Address (record { 0 = 1 }) (pos 8)) ∷ []))
      ∷ object (codes "w") pair false Zeros
      ∷ object (codes "s") node true Zeros
      ∷ object (codes "h") (pointer (AggType 3)) false Declared
      ∷ object (codes "c") (IntType kind.Char) false (Image (item [] (constant.Int kind.Char (negsuc 127)) ∷ []))
      ∷ object (codes "call") (FuncType int NoTypes false false) false Declared
      ∷ object (codes "g") (pointer (FuncType int NoTypes false false)) false (Image (item [] (constant.Function (record { 0 = 7 })) ∷ []))
      ∷ object (codes "raw") (pointer VoidType) false (Image (item [] (constant.Int kind.ULong (pos 16)) ∷ []))
      ∷ object (codes "print") (FuncType int (MoreTypes (pointer (IntType kind.Char)) NoTypes) true true) false Declared
      ∷ object (codes "color") (AggType 0) false (Image (item [] (constant.Int kind.Int (pos 1)) ∷ []))
      ∷ [];
}

full_text : Text full ≡ codes "enum color {\n  red = 0 ,\n  least = - 2147483647 - 1 ,\n} ;\nstruct node ;\nunion pair ;\nstruct hidden ;\nstruct node {\n  struct node * next ;\n  int value [ 4 ] ;\n} ;\nunion pair {\n  int i ;\n  struct node n ;\n} ;\nextern int a [ 4 ] ;\nstatic struct node first ;\nextern struct node * p ;\nextern union pair w ;\nstatic struct node s ;\nextern struct hidden * h ;\nextern char c ;\nint call ( ) ;\nextern int ( * g ) ( ) ;\nextern void * raw ;\nint print ( char * , ... ) ;\nextern enum color color ;\nint a [ 4 ] = { [ 0 ] = 9 , [ 2 ] = 5 , [ 3 ] = 1 } ;\nstatic struct node first = { . next = ( struct node * ) ( ( char * ) & first + 0L ) , . value [ 1 ] = - 3 } ;\nstruct node * p = ( struct node * ) ( ( char * ) & first + 8L ) ;\nunion pair w ;\nchar c = - 127 - 1 ;\nint ( * g ) ( ) = ( int ( * ) ( ) ) & call ;\nvoid * raw = ( void * ) 16UL ;\nenum color color = 1 ;\n"
unfolding digits shape agg_layout
full_text = refl

full_fits : all_fit full ≡ true
unfolding shape agg_layout
full_fits = refl

-- the same text but for a size and a least value in either data model, with its kinds of long
abbrev modelled : Abi → IntKind → IntKind → Program
modelled abi long ulong = record {
  graph = record { abi = abi; nodes = Int kind.Int ∷ Agg (record { 0 = 0 }) ∷ Ptr (plain 1) ∷ []; aggs = aggregate Struct 3 (Some (member 4 2 (pos 0) ∷ [])) ∷ []; completed = record { 0 = 0 } ∷ [] };
  names = names;
  globals =
      object (codes "first") (AggType 0) false Zeros
      ∷ object (codes "p") (pointer (AggType 0)) false (Image (item [] (constant.Address (record { 0 = 0 }) (pos 0)) ∷ []))
      ∷ object (codes "raw") (pointer VoidType) false (Image (item [] (constant.Int ulong (pos 16)) ∷ []))
      ∷ object (codes "low") (IntType long) false (Image (item [] (constant.Int long (negsuc 2147483647)) ∷ []))
      ∷ object (codes "f") (FuncType (IntType long) (MoreTypes (IntType ulong) NoTypes) true false) false (Function (record {
        params = codes "x" ∷ [];
        locals = a_local (codes "x") (IntType ulong) ∷ [];
        labels = [];
        stmts = Seq (Do (Zero (Place (Global 0) Here))) (Seq (Switch (var 0) (Seq (Case ulong (pos 1)) Done)) (Seq (Return (Some (Bin op.Add (Const long 2) (Const long 3)))) Done));
      }))
      ∷ [];
}

text_of_eight : Text (modelled Lp64 kind.Long kind.ULong)
    ≡ codes "struct node ;\nstruct node {\n  struct node * next ;\n} ;\nextern struct node first ;\nextern struct node * p ;\nextern void * raw ;\nextern long low ;\nlong f ( unsigned long ) ;\nstruct node first ;\nstruct node * p = ( struct node * ) ( ( char * ) & first + 0L ) ;\nvoid * raw = ( void * ) 16UL ;\nlong low = - 2147483648L ;\nlong f ( unsigned long x ) {\n  __builtin_memset ( ( & first ) , 0 , 8UL ) ;\n  switch ( x ) {\n    case 1UL : ;\n  }\n  return ( 2L + 3L ) ;\n}\n"
unfolding digits shape agg_layout
text_of_eight = refl

text_of_four : Text (modelled Ilp32 kind.Long4 kind.ULong4)
    ≡ codes "struct node ;\nstruct node {\n  struct node * next ;\n} ;\nextern struct node first ;\nextern struct node * p ;\nextern void * raw ;\nextern long low ;\nlong f ( unsigned long ) ;\nstruct node first ;\nstruct node * p = ( struct node * ) ( ( char * ) & first + 0L ) ;\nvoid * raw = ( void * ) 16UL ;\nlong low = - 2147483647L - 1 ;\nlong f ( unsigned long x ) {\n  __builtin_memset ( ( & first ) , 0 , 4UL ) ;\n  switch ( x ) {\n    case 1UL : ;\n  }\n  return ( 2L + 3L ) ;\n}\n"
unfolding digits shape agg_layout
text_of_four = refl

-- its globals fit with the kinds of its model alone
models_fit : map all_fit (modelled Lp64 kind.Long kind.ULong ∷ modelled Ilp32 kind.Long4 kind.ULong4 ∷ modelled Lp64 kind.Long4 kind.ULong4 ∷ modelled Ilp32 kind.Long kind.ULong ∷ []) ≡ true ∷ true ∷ false ∷ false ∷ []
unfolding shape agg_layout
models_fit = refl

-- statements and expressions of each kind, in a function of the full program
abbrev scope : Scope
scope = record { program = full; locals = a_local (codes "x") int ∷ a_local (codes "q") (pointer node) ∷ a_local (codes "y") (IntType kind.ULong) ∷ a_local (codes "u") pair ∷ a_local (codes "z") (pointer node) ∷ a_local (codes "t") (pointer main_type) ∷ a_local (codes "e") (AggType 0) ∷ []; labels = codes "again" ∷ [] }

abbrev next_place : Lval
next_place = Place (At (var 1)) (Field 0 Here)

abbrev value_place : Lval
value_place = Place (At (var 1)) (Field 1 (Index (var 0) Here))

abbrev statements : Stmts
statements =
    Seq (Label 0)
    (Seq (Do (Set next_place (AddrOf (Place (Global 1) Here))))
    (Seq (Do (Set value_place (Un unop.Neg (Value (Place (Global 0) (Index (number_of 1) Here))))))
    (Seq (Do (Zero (Place (Var 3) Here)))
    (Seq (Do (Call (Some (local_place 0)) (Direct 7) (number_of 1 ∷ var 1 ∷ [])))
    (Seq (Do (Call None (Through (var 5)) []))
    (Seq (Loop (Seq (If (Un unop.Not (var 1)) (Seq Break Done) Done) Done))
    (Seq (Switch (Bin op.Add (var 0) (number_of 1)) (Seq (Case kind.Int (negsuc 0)) (Seq (Do (Set (local_place 1) (Bin op.Add (var 1) (Const kind.Long 1)))) (Seq Default Done))))
    (Seq (Goto 0)
    (Seq (Do (Set (Place (Var 3) (Field 1 (Field 1 (Index (number_of 0) Here)))) (Cast (Some int) (StartOf (Place (Global 0) Here)))))
    (Seq (Return (Some (Bin op.Lt (var 1) (var 4)))) Done))))))))))

abbrev statements_program : Program
statements_program = record { graph = graph; names = names; globals = full.globals ++ main_of scope.locals scope.labels statements ∷ [] }

statements_text : lines_bytes 1 (lines_of scope statements)
    ≡ codes "  again : ;\n  ( * q ) . next = ( & first ) ;\n  ( * q ) . value [ x ] = ( - a [ 1 ] ) ;\n  __builtin_memset ( ( & u ) , 0 , 24UL ) ;\n  x = call ( 1 , q ) ;\n  ( * t ) ( ) ;\n  while ( 1 ) {\n    if ( ( ! q ) ) {\n      break ;\n    } else {\n    }\n  }\n  switch ( ( x + 1 ) ) {\n    case - 1 : ;\n    q = ( q + 1L ) ;\n    default : ;\n  }\n  goto again ;\n  u . n . value [ 0 ] = ( ( int ) a ) ;\n  return ( q < z ) ;\n"
unfolding digits shape agg_layout
statements_text = refl

statements_fit : all_fit statements_program ≡ true
unfolding shape agg_layout
statements_fit = refl

-- a function with these locals and no label, whose result is int
abbrev fits_here : Stmts → Bool
fits_here ss = stmts_fit (record scope { labels = [] }) int ss

abbrev fits_labelled : Stmts → Bool
fits_labelled ss = stmts_fit scope int ss

abbrev one : Stmt → Stmts
one s = Seq s Done

abbrev set : Lval → Exp → Stmts
set l e = one (Do (Set l e))

refused : map fits_here (
    -- an incomplete place, a place of another type, a constant that does not fit, one of a narrow kind
    one (Do (Zero (Place (At (Value (Place (Global 5) Here))) Here)))
    ∷ set (local_place 2) (number_of 1)
    ∷ set (local_place 0) (Const kind.Int 2147483648)
    ∷ set (local_place 0) (Const kind.Char 1)
    -- operands of two kinds, an enum as operand, a pointer's index of a narrow kind, pointers of two types
    ∷ set (local_place 2) (Bin op.Add (var 2) (number_of 1))
    ∷ set (local_place 0) (Bin op.Add (var 6) (var 6))
    ∷ set (local_place 1) (Bin op.Add (var 1) (Cast (Some (IntType kind.Char)) (number_of 1)))
    ∷ set (local_place 0) (Bin op.Eq (var 1) (var 5))
    -- a cast of an aggregate, one to an aggregate, a type that is not there
    ∷ set (local_place 0) (Cast (Some int) (var 3))
    ∷ set (local_place 3) (Cast (Some pair) (var 0))
    ∷ set (local_place 0) (Cast None (var 0))
    -- an array and a function that are read, the start of no array, the address of void
    ∷ one (If (Value (Place (Global 0) Here)) Done Done)
    ∷ one (If (Value (Place (Global 7) Here)) Done Done)
    ∷ set (local_place 1) (StartOf (local_place 0))
    ∷ one (If (AddrOf (Place (At (Value (Place (Global 9) Here))) Here)) Done Done)
    -- a test and an operand of `!` that are no scalars, a switch over a pointer
    ∷ one (If (var 3) Done Done)
    ∷ set (local_place 0) (Un unop.Not (var 3))
    ∷ one (Switch (var 1) Done)
    -- an argument too few, one too many, of another type, not promoted; a stored result of another type; a call of an object
    ∷ one (Do (Call None (Direct 10) []))
    ∷ one (Do (Call None (Through (var 5)) (number_of 1 ∷ [])))
    ∷ one (Do (Call None (Direct 10) (number_of 1 ∷ [])))
    ∷ one (Do (Call None (Direct 7) (var 6 ∷ [])))
    ∷ one (Do (Call (Some (local_place 2)) (Direct 7) []))
    ∷ one (Do (Call None (Direct 0) []))
    -- a global, a local, a member that is not there
    ∷ one (If (Value (Place (Global 99) Here)) Done Done)
    ∷ one (If (var 99) Done Done)
    ∷ one (If (Value (Place (Var 3) (Field 2 Here))) Done Done)
    -- a case and a default outside a switch, a case of another kind, a value that its kind has not, a value twice, two defaults
    ∷ one (Case kind.Int (pos 1))
    ∷ one Default
    ∷ one (Switch (var 0) (one (Case kind.Long (pos 1))))
    ∷ one (Switch (var 0) (one (Case kind.Int (pos 2147483648))))
    ∷ one (Switch (var 0) (Seq (Case kind.Int (pos 1)) (one (Loop (one (Case kind.Int (pos 1)))))))
    ∷ one (Switch (var 0) (Seq Default (one (Block (one Default)))))
    -- a break outside loops and switches; a return without value, of another type, and of a void expression
    ∷ one (Block (one Break))
    ∷ one (Return None)
    ∷ one (Return (Some (var 2)))
    ∷ one (Return (Some (Cast (Some VoidType) (var 0))))
    ∷ [])
    ≡ replicate 37 false
unfolding shape agg_layout
refused = refl

-- trees beside those, which fit
accepted : map fits_here (
    set (local_place 2) (Const kind.ULong 18446744073709551615)
    ∷ set (local_place 0) (Const kind.Int 2147483647)
    ∷ set (local_place 1) (Bin op.Add (number_of 1) (var 1))
    ∷ set (local_place 0) (Bin op.Eq (var 1) (var 4))
    ∷ set (local_place 0) (Bin op.Shl (var 0) (var 2))
    ∷ one (If (Bin op.Sub (var 1) (var 4)) Done Done)
    ∷ one (If (var 6) Done Done)
    ∷ one (If (AddrOf (Place (Global 7) Here)) Done Done)
    ∷ set (local_place 3) (var 3)
    ∷ one (Do (Call None (Direct 7) (var 3 ∷ [])))
    ∷ one (Switch (var 0) (Seq (Case kind.Int (pos 1)) (Seq (Switch (var 2) (Seq (Case kind.ULong (pos 1)) (one Default))) (Seq Default (one Break)))))
    ∷ one (Return (Some (var 0)))
    ∷ [])
    ≡ replicate 12 true
unfolding shape agg_layout
accepted = refl

-- labels: none is set, one is set twice, a goto names none; and what fits
labelled : map fits_labelled (Done ∷ Seq (Label 0) (one (Label 0)) ∷ Seq (Label 0) (one (Goto 1)) ∷ one (Label 1) ∷ Seq (Goto 0) (one (Block (one (Label 0)))) ∷ [])
    ≡ false ∷ false ∷ false ∷ false ∷ true ∷ []
labelled = refl

-- a function whose result is void returns no value
void_returns : stmts_fit (record scope { labels = [] }) VoidType (one (Return None)) ∷ stmts_fit (record scope { labels = [] }) VoidType (one (Return (Some (Cast (Some VoidType) (var 0))))) ∷ [] ≡ true ∷ false ∷ []
void_returns = refl

abbrev image_fits_here : Shape → List Item → Bool
image_fits_here s items = image_fits full s items

abbrev as_int : ℤ → Constant
as_int v = constant.Int kind.Int v

-- images that fit: an address at the limit, one member of a union
images_accepted :
    image_fits_here (pointer node) (item [] (constant.Address (record { 0 = 1 }) (pos 2147483647)) ∷ [])
    ∷ image_fits_here pair (item (ToField 1 ∷ ToField 0 ∷ []) (constant.Int kind.ULong (pos 1)) ∷ item (ToField 1 ∷ ToField 1 ∷ ToIndex 3 ∷ []) (as_int (pos 1)) ∷ [])
    ∷ [] ≡ true ∷ true ∷ []
unfolding shape agg_layout
images_accepted = refl

images_refused :
    -- no item, a path to an aggregate, an index at the bound, an item that is not behind the one before
    image_fits_here four []
    ∷ image_fits_here node (item (ToField 1 ∷ []) (as_int (pos 1)) ∷ [])
    ∷ image_fits_here four (item (ToIndex 4 ∷ []) (as_int (pos 1)) ∷ [])
    ∷ image_fits_here four (item (ToIndex 1 ∷ []) (as_int (pos 1)) ∷ item (ToIndex 1 ∷ []) (as_int (pos 2)) ∷ [])
    -- a constant of another kind, one that does not fit, a zero, a null pointer
    ∷ image_fits_here four (item (ToIndex 0 ∷ []) (constant.Int kind.Long (pos 1)) ∷ [])
    ∷ image_fits_here four (item (ToIndex 0 ∷ []) (as_int (pos 2147483648)) ∷ [])
    ∷ image_fits_here four (item (ToIndex 0 ∷ []) (as_int (pos 0)) ∷ [])
    ∷ image_fits_here (pointer node) (item [] (constant.Int kind.ULong (pos 0)) ∷ [])
    -- two members of a union
    ∷ image_fits_here pair (item (ToField 0 ∷ []) (as_int (pos 1)) ∷ item (ToField 1 ∷ ToField 1 ∷ ToIndex 0 ∷ []) (as_int (pos 1)) ∷ [])
    -- an address of a function, one below its object, one past the limit; a function that is an object; an address in an integer
    ∷ image_fits_here (pointer node) (item [] (constant.Address (record { 0 = 7 }) (pos 0)) ∷ [])
    ∷ image_fits_here (pointer node) (item [] (constant.Address (record { 0 = 1 }) (negsuc 0)) ∷ [])
    ∷ image_fits_here (pointer node) (item [] (constant.Address (record { 0 = 1 }) (pos 2147483648)) ∷ [])
    ∷ image_fits_here (pointer node) (item [] (constant.Function (record { 0 = 1 })) ∷ [])
    ∷ image_fits_here int (item [] (constant.Address (record { 0 = 1 }) (pos 0)) ∷ [])
    ∷ [] ≡ replicate 14 false
unfolding shape agg_layout
images_refused = refl

abbrev declared_fits : Shape → Bool → Definition → Bool
declared_fits s internal definition = global_fits full (object (codes "d") s internal definition)

-- a function that is zero, an object with a body, one of type void, an internal one that is declared alone, an incomplete one that is defined
globals_refused :
    declared_fits main_type false Zeros
    ∷ declared_fits int false (Function (record { params = []; locals = []; labels = []; stmts = Done }))
    ∷ declared_fits VoidType false Declared
    ∷ declared_fits int true Declared
    ∷ declared_fits (AggType 3) false Zeros
    ∷ declared_fits (FuncType int (MoreTypes int NoTypes) true true) false (Function (record { params = codes "x" ∷ []; locals = a_local (codes "x") int ∷ []; labels = []; stmts = Done }))
    ∷ declared_fits (FuncType (AggType 3) NoTypes true false) false (Function (record { params = []; locals = []; labels = []; stmts = Done }))
    ∷ declared_fits main_type false (Function (record { params = []; locals = a_local (codes "x") (AggType 3) ∷ []; labels = []; stmts = Done }))
    ∷ declared_fits (FuncType int (MoreTypes int NoTypes) true false) false (Function (record { params = codes "x" ∷ []; locals = a_local (codes "y") int ∷ []; labels = []; stmts = Done }))
    ∷ declared_fits (FuncType int (MoreTypes int NoTypes) true false) false (Function (record { params = codes "x" ∷ []; locals = a_local (codes "x") (IntType kind.Long) ∷ []; labels = []; stmts = Done }))
    ∷ [] ≡ replicate 10 false
unfolding shape agg_layout
globals_refused = refl

-- an incomplete object and a function are declared; parameters are the first locals
globals_accepted :
    declared_fits (AggType 3) false Declared
    ∷ declared_fits (FuncType (AggType 3) NoTypes true false) false Declared
    ∷ declared_fits (FuncType int (MoreTypes int NoTypes) true false) false (Function (record { params = codes "x" ∷ []; locals = a_local (codes "x") int ∷ a_local (codes "y") int ∷ []; labels = []; stmts = Done }))
    ∷ [] ≡ replicate 3 true
unfolding shape agg_layout
globals_accepted = refl
