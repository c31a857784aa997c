-- Units whose declarations of each name correspond: they are accepted, as it is defined.
use Rattle.std.proofs.Common.{◌≡◌, refl, sym, subst, codes, ℕ, true, false, List, [], ◌∷◌, map, Some, None, pos}
use Rattle.cil_base.specs.declared.kinds.Abi.TheVariants.{Lp64}
use Rattle.cil_base.specs.declared.kinds.IntKind.TheVariants.{Int as int}
use Rattle.type_graph.specs.declared.aggregates.AggKind.TheVariants.{Struct}
use Rattle.type_things.specs.declared.web.Head.{Head}
use Rattle.type_things.specs.declared.web.Head.TheVariants as head
use Rattle.type_things.specs.declared.web.Label.{Label}
use Rattle.type_things.specs.Things.{Thing, Joint}
use Rattle.type_things.specs.Units.{things}
use Rattle.type_links.specs.declared.linking.Side.{Side}
use Rattle.type_links.specs.Links.{links_of}
use Rattle.c_faults.specs.Reading.{Read}
use Rattle.c_faults.specs.Corresponding.{all_names, graphs_of, groups, sides, AreApart, AreAccepted}
use Rattle.c_faults.specs.Text.{sources, found_by}
use Rattle.c_faults.proofs.FirstLaws.{whole_is_accepted}
use Rattle.c_faults.proofs.ApartLaws.{joint_together}
use Rattle.c_faults.proofs.ApartRows.{files, reads_in, of_type, incomplete, side}
use Rattle.c_faults.proofs.Joints.{joined, alike_by, alike_incomplete, joint_of}

-- a structure that one unit leaves incomplete
abbrev made : List (List ℕ)
made =
    codes "struct s; struct s *make(void); int get(struct s *); int main(void) { return get(make()); }"
    ∷ codes "struct s { int a; }; static struct s one = { 9 }; struct s *make(void) { return &one; } int get(struct s *p) { return p->a; }" ∷ []

abbrev made_reads : List Read
made_reads = reads_in (found_by Lp64 made)

abbrev made_things : List (Thing Head Label)
made_things =
    incomplete ∷ record { head = head.Tagged Struct (record { 0 = 4 }); inside = Some ((record { name = 7; value = pos 0 }, 11) ∷ []) }
    ∷ of_type head.Agg (0 ∷ []) ∷ of_type head.Ptr (2 ∷ []) ∷ of_type (head.Func true false) (3 ∷ [])
    ∷ of_type (head.Int int) [] ∷ of_type head.Agg (0 ∷ []) ∷ of_type head.Ptr (6 ∷ []) ∷ of_type (head.Func true false) (5 ∷ 7 ∷ [])
    ∷ of_type (head.Int int) [] ∷ of_type (head.Func true false) (9 ∷ [])
    ∷ of_type (head.Int int) [] ∷ of_type head.Agg (1 ∷ []) ∷ of_type head.Ptr (12 ∷ []) ∷ of_type (head.Func true false) (13 ∷ [])
    ∷ of_type (head.Int int) [] ∷ of_type head.Agg (1 ∷ []) ∷ of_type head.Ptr (16 ∷ []) ∷ of_type (head.Func true false) (15 ∷ 17 ∷ []) ∷ []

made_are : things (all_names made_reads) (graphs_of made_reads) ≡ made_things
unfolding found_by
made_are = refl

abbrev made_groups : List (List Side)
made_groups = (side 4 ∷ side 14 ∷ []) ∷ (side 8 ∷ side 18 ∷ []) ∷ (side 10 ∷ []) ∷ []

made_sides : map sides (groups made_reads) ≡ made_groups
unfolding found_by
made_sides = refl

abbrev made_pairs : List (ℕ × ℕ)
made_pairs = (14, 4) ∷ (13, 3) ∷ (12, 2) ∷ (18, 8) ∷ (17, 7) ∷ (16, 6) ∷ (15, 5) ∷ (0, 1) ∷ []

made_joint : Joint made_things (links_of made_things made_groups)
made_joint = joint_of made_things made_pairs ((4, 14) ∷ (8, 18) ∷ []) (
  (refl, (refl, (refl, (refl, (refl, (refl, (refl, tt))))))),
  (
    (refl, (refl, (refl, (refl, (refl, (refl, tt)))))),
    (
      (refl, (refl, (refl, (refl, (refl, tt))))),
      (
        (refl, (refl, (refl, (refl, tt)))),
        (
          (refl, (refl, (refl, tt))),
          (
            (refl, (refl, tt)),
            ((refl, tt), (tt, tt)),
          ),
        ),
      ),
    ),
  ),
) (
  alike_by made_things (joined made_pairs) 14 4 _ _ refl refl refl refl,
  (
    alike_by made_things (joined made_pairs) 13 3 _ _ refl refl refl refl,
    (
      alike_by made_things (joined made_pairs) 12 2 _ _ refl refl refl refl,
      (
        alike_by made_things (joined made_pairs) 18 8 _ _ refl refl refl refl,
        (
          alike_by made_things (joined made_pairs) 17 7 _ _ refl refl refl refl,
          (
            alike_by made_things (joined made_pairs) 16 6 _ _ refl refl refl refl,
            (
              alike_by made_things (joined made_pairs) 15 5 _ _ refl refl refl refl,
              (alike_incomplete made_things (joined made_pairs) 0 1 refl refl, tt),
            ),
          ),
        ),
      ),
    ),
  ),
)
    (refl, (refl, tt))

made_are_accepted : AreAccepted (record { common = false; abi = Lp64 }) files (sources 0 made)
unfolding found_by
made_are_accepted = whole_is_accepted AreApart (record { common = false; abi = Lp64 }) files (sources 0 made) made_reads refl refl
    (joint_together made_reads (subst (λ gs. Joint (things (all_names made_reads) (graphs_of made_reads)) (links_of (things (all_names made_reads) (graphs_of made_reads)) gs)) (sym made_sides)
    (subst (λ ts. Joint ts (links_of ts made_groups)) (sym made_are) made_joint)))

-- an array without a bound and one with, a function without a prototype and one with
abbrev wider : List (List ℕ)
wider = codes "extern int v[]; int f(); int main(void) { return f(2) + v[1]; }" ∷ codes "int v[2] = { 1, 2 }; int f(int x) { return x; }" ∷ []

abbrev wider_reads : List Read
wider_reads = reads_in (found_by Lp64 wider)

abbrev wider_things : List (Thing Head Label)
wider_things =
    of_type (head.Int int) [] ∷ of_type (head.Array None) (0 ∷ []) ∷ of_type (head.Int int) [] ∷ of_type (head.Func false false) (2 ∷ [])
    ∷ of_type (head.Int int) [] ∷ of_type (head.Func true false) (4 ∷ [])
    ∷ of_type (head.Int int) [] ∷ of_type (head.Array (Some 2)) (6 ∷ []) ∷ of_type (head.Int int) [] ∷ of_type (head.Int int) [] ∷ of_type (head.Func true false) (8 ∷ 9 ∷ []) ∷ []

wider_are : things (all_names wider_reads) (graphs_of wider_reads) ≡ wider_things
unfolding found_by
wider_are = refl

abbrev wider_groups : List (List Side)
wider_groups = (side 1 ∷ side 7 ∷ []) ∷ (side 3 ∷ side 10 ∷ []) ∷ (side 5 ∷ []) ∷ []

wider_sides : map sides (groups wider_reads) ≡ wider_groups
unfolding found_by
wider_sides = refl

abbrev wider_pairs : List (ℕ × ℕ)
wider_pairs = (6, 0) ∷ (8, 2) ∷ []

wider_joint : Joint wider_things (links_of wider_things wider_groups)
wider_joint = joint_of wider_things wider_pairs ((0, 6) ∷ (2, 8) ∷ []) ((refl, tt), (tt, tt))
    (alike_by wider_things (joined wider_pairs) 6 0 _ _ refl refl refl refl, (alike_by wider_things (joined wider_pairs) 8 2 _ _ refl refl refl refl, tt)) (refl, (refl, tt))

wider_are_accepted : AreAccepted (record { common = false; abi = Lp64 }) files (sources 0 wider)
unfolding found_by
wider_are_accepted = whole_is_accepted AreApart (record { common = false; abi = Lp64 }) files (sources 0 wider) wider_reads refl refl
    (joint_together wider_reads (subst (λ gs. Joint (things (all_names wider_reads) (graphs_of wider_reads)) (links_of (things (all_names wider_reads) (graphs_of wider_reads)) gs)) (sym wider_sides)
    (subst (λ ts. Joint ts (links_of ts wider_groups)) (sym wider_are) wider_joint)))
