-- Device: worked rows of declarators, numbers, the rules of types and the rules of names.
use Rattle.std.proofs.Common.{◌≡◌, ◌≤◌, ℕ, Bool, true, false, List, [], ◌∷◌, ◌++◌, Some, None, refl, arith}
use Rattle.std.specs.Option.{option_map}
use Rattle.cil_base.specs.declared.kinds.Abi.TheVariants.{Lp64}
use Rattle.std.specs.Prelude.{pos, negsuc, codes, map, replicate}
use Rattle.std.specs.Fmt.{digits}
use Rattle.std.specs.List.{list_all, join_with_byte}
use Rattle.cil_base.specs.declared.kinds.IntKind.TheVariants as kind
use Rattle.type_graph.specs.declared.aggregates.AggKind.TheVariants.{Struct, Union, Enum}
use Rattle.type_graph.specs.declared.nodes.Node.TheVariants.{Int, Ptr, Array, Func}
use Rattle.type_graph.specs.Shapes.{Shape, VoidType, IntType, ArrayType, FuncType, AggType, NoTypes, MoreTypes, shape}
use Rattle.type_graph.specs.Arena.{Graph}
use Rattle.type_graph.specs.Layouts.{AggLayout, layout, agg_layout}
use Rattle.cil_tree.specs.Tree.{Done, Local, Definition, Declared, Zeros, Function, GlobalDecl}
use Rattle.cil_tree.specs.Typing.{unqualified}
use Rattle.cil_tree.specs.Declarators.{declared, number}
use Rattle.cil_tree.specs.WellFormedTypes.{node_is_unqualified, members_are_unqualified, has_tag, enum_is_complete, members_have_kind, has_member, flexible_is_last, enums_first, all_stand_after, array_fits, function_fits, prototype_fits, AggregatesAreSmall}
use Rattle.cil_tree.specs.Names.{is_plain_name, global_is_named, internal_is_apart, members_are_named, definition_is_named, file_names, tags, enumerators, are_different, are_apart, host_names, memset_type}
use Rattle.cil_tree.proofs.Rows.{int, pointer, node, four, plain, member, aggregate, graph, full, object, a_local}

-- a declarator's bytes
abbrev bytes : Shape → List ℕ
bytes s = join_with_byte 32 (declared full s (codes "x" ∷ []))

abbrev three_ints : Shape
three_ints = ArrayType unqualified int (Some 3)

abbrev no_parameters : Shape → Shape
no_parameters s = FuncType s NoTypes true false

declarators : map bytes (
    int
    ∷ pointer (pointer VoidType)
    ∷ pointer three_ints
    ∷ ArrayType unqualified (pointer int) None
    ∷ no_parameters (pointer three_ints)
    ∷ pointer (FuncType int NoTypes false false)
    ∷ ArrayType unqualified (ArrayType unqualified (IntType kind.ULLong) (Some 3)) (Some 2)
    ∷ FuncType VoidType (MoreTypes (pointer (no_parameters VoidType)) (MoreTypes (pointer node) NoTypes)) true true
    ∷ pointer (FuncType (pointer (no_parameters int)) (MoreTypes (pointer four) NoTypes) true false)
    ∷ IntType kind.Long4
    ∷ IntType kind.ULong4
    ∷ [])
    ≡ codes "int x" ∷ codes "void * * x" ∷ codes "int ( * x ) [ 3 ]" ∷ codes "int * x [ ]" ∷ codes "int ( * x ( void ) ) [ 3 ]" ∷ codes "int ( * x ) ( )"
    ∷ codes "unsigned long long x [ 2 ] [ 3 ]" ∷ codes "void x ( void ( * ) ( void ) , struct node * , ... )" ∷ codes "int ( * ( * x ) ( int ( * ) [ 4 ] ) ) ( void )" ∷ codes "long x" ∷ codes "unsigned long x" ∷ []
unfolding digits
declarators = refl

numbers : map (join_with_byte 32) (
    number kind.Int (pos 0) ∷ number kind.Int (negsuc 0) ∷ number kind.Int (negsuc 2147483647) ∷ number kind.Char (negsuc 127) ∷ number kind.Short (negsuc 32766)
    ∷ number kind.UInt (pos 4294967295) ∷ number kind.Long (negsuc 9223372036854775807) ∷ number kind.LLong (negsuc 4) ∷ number kind.ULong (pos 1) ∷ number kind.ULLong (pos 18446744073709551615) ∷ number kind.Bool (pos 1)
    ∷ number kind.Long4 (negsuc 2147483647) ∷ number kind.ULong4 (pos 1) ∷ [])
    ≡ codes "0" ∷ codes "- 1" ∷ codes "- 2147483647 - 1" ∷ codes "- 127 - 1" ∷ codes "- 32767"
    ∷ codes "4294967295U" ∷ codes "- 9223372036854775807L - 1" ∷ codes "- 5LL" ∷ codes "1UL" ∷ codes "18446744073709551615ULL" ∷ codes "1"
    ∷ codes "- 2147483647L - 1" ∷ codes "1UL" ∷ []
unfolding digits
numbers = refl

-- each rule of types over the sample's graph
types_fit :
    list_all node_is_unqualified graph.nodes ∷ list_all members_are_unqualified graph.aggs ∷ list_all has_tag graph.aggs ∷ list_all enum_is_complete graph.aggs
    ∷ list_all (members_have_kind graph) graph.aggs ∷ list_all has_member graph.aggs ∷ list_all (flexible_is_last graph) graph.aggs ∷ enums_first graph.aggs
    ∷ all_stand_after graph 0 graph.aggs ∷ list_all (array_fits graph) graph.nodes
    ∷ list_all function_fits (map (shape graph.nodes) (0 ∷ 1 ∷ 2 ∷ 3 ∷ 4 ∷ 5 ∷ 6 ∷ 7 ∷ [])) ∷ [] ≡ replicate 11 true
unfolding shape
types_fit = refl

-- what each refuses: a qualified pointer and member; no tag; an incomplete enum; an enumerator of type char, a member with a value, enumerators of 10 ^ 12 and - 2 ^ 31 - 1;
-- no member; a flexible array alone, first or in a union; an enum behind a struct; an aggregate before one that it holds, before an element of an array behind a pointer;
-- an array of an incomplete aggregate, of functions, of bound 0
abbrev wider : Graph
wider = record graph {
  nodes = graph.nodes ++ Array (plain 0) None ∷ Ptr (record { quals = record { constant = true; restricted = false }; of = record { 0 = 0 } }) ∷ Array (plain 2) (Some 3) ∷ Ptr (plain 10) ∷ Array (plain 7) (Some 1) ∷ Func true false (record { 0 = 0 }) [] ∷ Array (plain 13) (Some 1) ∷ Array (plain 0) (Some 0) ∷ [];
}

types_refused :
    list_all node_is_unqualified wider.nodes
    ∷ members_are_unqualified (aggregate Struct 3 (Some (record { name = record { 0 = 5 }; anonymous = false; ty = record { quals = record { constant = false; restricted = true }; of = record { 0 = 3 } }; value = pos 0 } ∷ [])))
    ∷ has_tag (record { kind = Struct; tag = None; members = None })
    ∷ enum_is_complete (aggregate Enum 0 None)
    ∷ members_have_kind graph (aggregate Enum 0 (Some (member 1 1 (pos 0) ∷ [])))
    ∷ members_have_kind graph (aggregate Struct 0 (Some (member 1 1 (pos 1) ∷ [])))
    ∷ members_have_kind graph (aggregate Enum 0 (Some (member 1 0 (pos 1000000000000) ∷ [])))
    ∷ members_have_kind graph (aggregate Enum 0 (Some (member 1 0 (negsuc 2147483648) ∷ [])))
    ∷ has_member (aggregate Struct 0 (Some []))
    ∷ flexible_is_last wider (aggregate Struct 0 (Some (member 1 8 (pos 0) ∷ [])))
    ∷ flexible_is_last wider (aggregate Struct 0 (Some (member 1 0 (pos 0) ∷ member 1 8 (pos 0) ∷ member 1 0 (pos 0) ∷ [])))
    ∷ flexible_is_last wider (aggregate Union 0 (Some (member 1 0 (pos 0) ∷ member 1 8 (pos 0) ∷ [])))
    ∷ enums_first (aggregate Struct 0 None ∷ aggregate Enum 1 None ∷ [])
    ∷ all_stand_after graph 0 (aggregate Struct 0 None ∷ aggregate Struct 3 (Some (member 4 2 (pos 0) ∷ [])) ∷ [])
    ∷ all_stand_after wider 1 (aggregate Struct 3 (Some (member 4 11 (pos 0) ∷ [])) ∷ [])
    ∷ array_fits wider (Array (plain 7) (Some 1))
    ∷ array_fits wider (Array (plain 13) (Some 1))
    ∷ array_fits wider (Array (plain 0) (Some 0))
    ∷ [] ≡ replicate 18 false
unfolding shape
types_refused = refl

-- a pointer may lead forward; a flexible array may stand last
types_accepted :
    all_stand_after wider 0 (aggregate Struct 3 (Some (member 4 3 (pos 0) ∷ [])) ∷ [])
    ∷ all_stand_after wider 2 (aggregate Struct 3 (Some (member 4 11 (pos 0) ∷ [])) ∷ [])
    ∷ flexible_is_last wider (aggregate Struct 0 (Some (member 1 0 (pos 0) ∷ member 1 8 (pos 0) ∷ [])))
    ∷ [] ≡ replicate 3 true
unfolding shape
types_accepted = refl

-- struct { char a[2147483647]; char b; }, which no type names: each type has few enough bytes, and the aggregate has one too many
abbrev large : Graph
large = record {
  abi = Lp64;
  nodes = Int kind.Char ∷ Array (plain 0) (Some 2147483647) ∷ [];
  aggs = aggregate Struct 3 (Some (member 4 1 (pos 0) ∷ member 5 0 (pos 0) ∷ [])) ∷ [];
  completed = record { 0 = 0 } ∷ [];
}

large_sizes : layout large 0 ∷ layout large 1 ∷ option_map (λ (l : AggLayout). l.whole) (agg_layout large 0) ∷ []
    ≡ Some (record { size = 1; align = 1 }) ∷ Some (record { size = 2147483647; align = 1 }) ∷ Some (record { size = 2147483648; align = 1 }) ∷ []
unfolding shape agg_layout
large_sizes = refl

large_refused : AggregatesAreSmall large → ⊥
unfolding shape agg_layout
large_refused small =
    let h : 2147483648 ≤ 2147483647 = small 0 (record { whole = record { size = 2147483648; align = 1 }; offsets = 0 ∷ 2147483647 ∷ [] }) refl in
    omega (arith, h)

-- functions: a result that is a function or an array, a parameter that is void, a function or an array; without prototype parameters or `...`; `...` alone
functions_refused :
    map function_fits (no_parameters (no_parameters int) ∷ no_parameters four ∷ FuncType int (MoreTypes VoidType NoTypes) true false ∷ FuncType int (MoreTypes (no_parameters int) NoTypes) true false ∷ FuncType int (MoreTypes four NoTypes) true false ∷ [])
    ++ map prototype_fits (FuncType int (MoreTypes int NoTypes) false false ∷ FuncType int NoTypes false true ∷ FuncType int NoTypes true true ∷ []) ≡ replicate 8 false
functions_refused = refl

functions_accepted :
    map function_fits (no_parameters VoidType ∷ FuncType int (MoreTypes (AggType 3) NoTypes) true false ∷ [])
    ++ map prototype_fits (FuncType int NoTypes false false ∷ FuncType int (MoreTypes int NoTypes) true true ∷ no_parameters int ∷ []) ≡ replicate 5 true
functions_accepted = refl

-- words that are names, and words that are none
words : map is_plain_name (codes "x" ∷ codes "_" ∷ codes "hash___0" ∷ codes "__t___1" ∷ codes "getchar" ∷ codes "inlined" ∷ []) ++ map is_plain_name ([] ∷ codes "0x" ∷ codes "a b" ∷ codes "a$" ∷ codes "int" ∷ codes "double" ∷ codes "_Generic" ∷ codes "__extension__" ∷ codes "__inline" ∷ codes "setjmp" ∷ codes "__builtin_x" ∷ [])
    ≡ replicate 6 true ++ replicate 11 false
words = refl

abbrev body_of : List Local → List (List ℕ) → Definition
body_of locals labels = Function (record { params = []; locals = locals; labels = labels; stmts = Done })

abbrev memset_as : Bool → Definition → Shape → GlobalDecl
memset_as internal definition s = object (codes "__builtin_memset") s internal definition

-- the one builtin is external, declared, and of its type
memset_named : map (global_is_named full) (memset_as false Declared (memset_type graph) ∷ memset_as true Declared (memset_type graph) ∷ memset_as false (body_of [] []) (memset_type graph) ∷ memset_as false Declared (no_parameters VoidType) ∷ object (codes "__builtin_memcpy") (memset_type graph) false Declared ∷ [])
    ≡ true ∷ false ∷ false ∷ false ∷ false ∷ []
memset_named = refl

names_fit :
    list_all (global_is_named full) full.globals ∷ are_apart (enumerators full) host_names ∷ list_all internal_is_apart full.globals ∷ are_different (file_names full) ∷ are_different (tags full) ∷ list_all (members_are_named full) graph.aggs
    ∷ definition_is_named full (body_of (a_local (codes "x") int ∷ a_local (codes "y") int ∷ []) (codes "x" ∷ codes "out" ∷ [])) ∷ [] ≡ replicate 7 true
names_fit = refl

-- two globals, an enumerator and a global, two tags, two members of one name; an internal global with a name of the host;
-- two locals, a local and a global, a local and an enumerator, a local and a host function, two labels of one name
names_refused :
    are_different (file_names (record full { globals = object (codes "d") int false Zeros ∷ object (codes "d") int true Zeros ∷ [] }))
    ∷ are_different (file_names (record full { globals = object (codes "red") int false Zeros ∷ [] }))
    ∷ are_different (tags (record full { graph = record graph { aggs = aggregate Struct 3 None ∷ aggregate Union 3 None ∷ [] } }))
    ∷ members_are_named full (aggregate Struct 3 (Some (member 4 0 (pos 0) ∷ member 4 0 (pos 0) ∷ [])))
    ∷ members_are_named full (aggregate Struct 99 None)
    ∷ internal_is_apart (object (codes "exit") (no_parameters VoidType) true (body_of [] []))
    ∷ definition_is_named full (body_of (a_local (codes "x") int ∷ a_local (codes "x") int ∷ []) [])
    ∷ definition_is_named full (body_of (a_local (codes "w") int ∷ []) [])
    ∷ definition_is_named full (body_of (a_local (codes "red") int ∷ []) [])
    ∷ definition_is_named full (body_of (a_local (codes "free") int ∷ []) [])
    ∷ definition_is_named full (body_of [] (codes "out" ∷ codes "out" ∷ []))
    ∷ definition_is_named full (body_of [] (codes "while" ∷ []))
    ∷ [] ≡ replicate 12 false
names_refused = refl
