-- Device: worked rows of the layout in both data models: sizes, alignments and offsets that gcc gives on x86-64 and on x86 with -malign-double too.
use Rattle.std.proofs.Common.{◌≡◌, ℕ, true, false, List, [], ◌∷◌, Some, None, refl}
use Rattle.cil_base.specs.declared.kinds.Abi.TheVariants.{Lp64, Ilp32}
use Rattle.cil_base.specs.declared.kinds.IntKind.TheVariants as kind
use Rattle.type_graph.specs.declared.aggregates.AggKind.{AggKind}
use Rattle.type_graph.specs.declared.aggregates.AggKind.TheVariants.{Struct, Union}
use Rattle.type_graph.specs.declared.aggregates.Member.{Member}
use Rattle.type_graph.specs.declared.aggregates.Aggregate.{Aggregate}
use Rattle.type_graph.specs.declared.nodes.QualType.{QualType}
use Rattle.type_graph.specs.declared.nodes.Node.TheVariants.{Void, Int, Ptr, Array, Agg}
use Rattle.type_graph.specs.Shapes.{shape}
use Rattle.type_graph.specs.Arena.{Graph, complete, members_fit}
use Rattle.type_graph.specs.Layouts.{agg_layout, layout, offset}
use Rattle.std.specs.Prelude.{pos}

plain : ℕ → QualType
plain t = record { quals = record { constant = false; restricted = false }; of = record { 0 = t } }

member : ℕ → Member
member t = record { name = record { 0 = t }; anonymous = false; ty = plain t; value = pos 0 }

aggregate : AggKind → List Member → Aggregate
aggregate kind members = record { kind = kind; tag = None; members = Some members }

-- char, int, short, long, char[3], char[5], long *, int[], and five aggregates:
-- struct { char a; int b; short c; }, struct { char a; long b; char c[3]; }, union { int a; char b[5]; },
-- struct { char b; long *c; }, struct { short a; struct { char b; long *c; } d; } and struct { char a; int b[]; }
sample : Graph
sample = record {
  abi = Lp64;
  nodes = Int kind.Char ∷ Int kind.Int ∷ Int kind.Short ∷ Int kind.Long ∷ Array (plain 0) (Some 3) ∷ Array (plain 0) (Some 5) ∷ Ptr (plain 3) ∷ Array (plain 1) None
      ∷ Agg (record { 0 = 0 }) ∷ Agg (record { 0 = 1 }) ∷ Agg (record { 0 = 2 }) ∷ Agg (record { 0 = 3 }) ∷ Agg (record { 0 = 4 }) ∷ Agg (record { 0 = 5 }) ∷ Array (plain 0) (Some 2147483648) ∷ Void ∷ [];
  aggs = aggregate Struct (member 0 ∷ member 1 ∷ member 2 ∷ [])
      ∷ aggregate Struct (member 0 ∷ member 3 ∷ member 4 ∷ [])
      ∷ aggregate Union (member 1 ∷ member 5 ∷ [])
      ∷ aggregate Struct (member 0 ∷ member 6 ∷ [])
      ∷ aggregate Struct (member 2 ∷ member 11 ∷ [])
      ∷ aggregate Struct (member 0 ∷ member 7 ∷ []) ∷ [];
  completed = record { 0 = 0 } ∷ record { 0 = 1 } ∷ record { 0 = 2 } ∷ record { 0 = 3 } ∷ record { 0 = 4 } ∷ record { 0 = 5 } ∷ [];
}

char_int_short : layout sample 8 ≡ Some (record { size = 12; align = 4 })
unfolding sample plain member aggregate shape agg_layout
char_int_short = refl

char_int_short_offsets : offset sample 0 0 ∷ offset sample 0 1 ∷ offset sample 0 2 ∷ [] ≡ Some 0 ∷ Some 4 ∷ Some 8 ∷ []
unfolding sample plain member aggregate shape agg_layout
char_int_short_offsets = refl

char_long_array : layout sample 9 ≡ Some (record { size = 24; align = 8 })
unfolding sample plain member aggregate shape agg_layout
char_long_array = refl

char_long_array_offsets : offset sample 1 0 ∷ offset sample 1 1 ∷ offset sample 1 2 ∷ [] ≡ Some 0 ∷ Some 8 ∷ Some 16 ∷ []
unfolding sample plain member aggregate shape agg_layout
char_long_array_offsets = refl

a_union : layout sample 10 ≡ Some (record { size = 8; align = 4 })
unfolding sample plain member aggregate shape agg_layout
a_union = refl

a_union_offsets : offset sample 2 0 ∷ offset sample 2 1 ∷ [] ≡ Some 0 ∷ Some 0 ∷ []
unfolding sample plain member aggregate shape agg_layout
a_union_offsets = refl

nested_struct : layout sample 12 ≡ Some (record { size = 24; align = 8 })
unfolding sample plain member aggregate shape agg_layout
nested_struct = refl

nested_struct_offsets : offset sample 4 0 ∷ offset sample 4 1 ∷ [] ≡ Some 0 ∷ Some 8 ∷ []
unfolding sample plain member aggregate shape agg_layout
nested_struct_offsets = refl

flexible_array : layout sample 13 ≡ Some (record { size = 4; align = 4 })
unfolding sample plain member aggregate shape agg_layout
flexible_array = refl

flexible_array_offsets : offset sample 5 1 ≡ Some 4
unfolding sample plain member aggregate shape agg_layout
flexible_array_offsets = refl

-- a flexible array stands last in a struct behind another member, and nowhere else
flexible_array_fits : members_fit sample Struct false (member 0 ∷ member 7 ∷ []) ∷ members_fit sample Struct false (member 7 ∷ []) ∷ members_fit sample Struct false (member 0 ∷ member 7 ∷ member 0 ∷ []) ∷ members_fit sample Union false (member 0 ∷ member 7 ∷ []) ∷ [] ≡ true ∷ false ∷ false ∷ false ∷ []
unfolding sample plain member aggregate shape agg_layout
flexible_array_fits = refl

large_array : layout sample 14 ≡ Some (record { size = 2147483648; align = 1 })
unfolding sample plain member aggregate shape agg_layout
large_array = refl

no_void : layout sample 15 ≡ None
unfolding sample plain member aggregate shape agg_layout
no_void = refl

completeness : complete sample 0 ∷ complete sample 7 ∷ complete sample 8 ∷ complete sample 15 ∷ [] ≡ true ∷ false ∷ true ∷ false ∷ []
unfolding sample plain member aggregate shape agg_layout
completeness = refl

-- ILP32, in which long and pointers have 4 bytes: long, long *, struct { char a; long b; char c[3]; }, struct { char a; long *b; },
-- struct { char a; long long b; }, struct { short a; struct { char a; long *b; } d; }
small : Graph
small = record {
  abi = Ilp32;
  nodes = Int kind.Char ∷ Int kind.Short ∷ Int kind.Long4 ∷ Int kind.LLong ∷ Ptr (plain 2) ∷ Array (plain 0) (Some 3) ∷ Int kind.ULong4
      ∷ Agg (record { 0 = 0 }) ∷ Agg (record { 0 = 1 }) ∷ Agg (record { 0 = 2 }) ∷ Agg (record { 0 = 3 }) ∷ [];
  aggs = aggregate Struct (member 0 ∷ member 2 ∷ member 5 ∷ [])
      ∷ aggregate Struct (member 0 ∷ member 4 ∷ [])
      ∷ aggregate Struct (member 0 ∷ member 3 ∷ [])
      ∷ aggregate Struct (member 1 ∷ member 8 ∷ []) ∷ [];
  completed = record { 0 = 0 } ∷ record { 0 = 1 } ∷ record { 0 = 2 } ∷ record { 0 = 3 } ∷ [];
}

small_scalars : layout small 2 ∷ layout small 3 ∷ layout small 4 ∷ layout small 6 ∷ []
    ≡ Some (record { size = 4; align = 4 }) ∷ Some (record { size = 8; align = 8 }) ∷ Some (record { size = 4; align = 4 }) ∷ Some (record { size = 4; align = 4 }) ∷ []
unfolding small plain member aggregate shape agg_layout
small_scalars = refl

small_structs : layout small 7 ∷ layout small 8 ∷ layout small 9 ∷ layout small 10 ∷ []
    ≡ Some (record { size = 12; align = 4 }) ∷ Some (record { size = 8; align = 4 }) ∷ Some (record { size = 16; align = 8 }) ∷ Some (record { size = 12; align = 4 }) ∷ []
unfolding small plain member aggregate shape agg_layout
small_structs = refl

small_offsets : offset small 0 1 ∷ offset small 0 2 ∷ offset small 1 1 ∷ offset small 2 1 ∷ offset small 3 1 ∷ [] ≡ Some 4 ∷ Some 8 ∷ Some 4 ∷ Some 8 ∷ Some 4 ∷ []
unfolding small plain member aggregate shape agg_layout
small_offsets = refl
