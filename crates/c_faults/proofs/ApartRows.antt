-- Units whose declarations of one name do not correspond: what they are refused for, as it is defined.
use Rattle.std.proofs.Common.{◌≡◌, refl, sym, ◌∙◌, subst, codes, ℕ, true, false, List, [], ◌∷◌, map, Some, None, arith, pos}
use Rattle.cil_base.specs.declared.faults.Fault.TheVariants.{Incompatible}
use Rattle.cil_base.specs.declared.faults.Refusal.{Refusal}
use Rattle.cil_base.specs.declared.kinds.Abi.TheVariants.{Lp64}
use Rattle.cil_base.specs.declared.kinds.IntKind.TheVariants.{Int as int, Long as long}
use Rattle.type_graph.specs.declared.aggregates.AggKind.TheVariants.{Struct}
use Rattle.type_things.specs.declared.web.Head.{Head}
use Rattle.type_things.specs.declared.web.Head.TheVariants as head
use Rattle.type_things.specs.declared.web.Label.{Label}
use Rattle.type_things.specs.Things.{Thing, HoldsPairs, IsClosed, Joint, Forced}
use Rattle.type_things.specs.Units.{things, plain}
use Rattle.type_links.specs.declared.linking.Side.{Side}
use Rattle.type_links.specs.Links.{FailsFirst}
use Rattle.c_faults.specs.Reading.{Read}
use Rattle.c_faults.specs.Definitions.{first_twice}
use Rattle.c_faults.specs.Acceptance.{FaultAt, Apart}
use Rattle.c_faults.specs.Corresponding.{all_names, graphs_of, groups, sides, place_in, AreApart, IsRefusal}
use Rattle.c_faults.specs.FirstRefusal.{Findings, AllWhole, OneRefused, OneStops, OneLost}
use Rattle.c_faults.specs.Text.{sources, found_by}
use Rattle.c_faults.proofs.Expected.{place}
use Rattle.c_faults.proofs.FirstLaws.{all_are_read}
use Rattle.c_faults.proofs.Joints.{joined, AreFree, alike_by, alike_incomplete, joint_none, joint_of, part_forced, differ_by}

abbrev pub files : List (List ℕ)
files = codes "a.c" ∷ codes "b.c" ∷ codes "c.c" ∷ []

abbrev pub reads_in : Findings → List Read
reads_in (AllWhole reads) = reads
reads_in (OneRefused refusal) = []
reads_in (OneStops t start stop refusal) = []
reads_in OneLost = []

abbrev incompatible : ℕ → ℕ → ℕ → ℕ → Refusal
incompatible unit token other other_token = record { fault = Incompatible; at = place unit token unit 1; other = Some (place other other_token other 1) }

-- the only types of things here
abbrev pub of_type : Head → List ℕ → Thing Head Label
of_type h parts = record { head = h; inside = Some (map (λ n. (plain, n)) parts) }

-- the structure `s`, with one member `a` or incomplete
abbrev structure : ℕ → Thing Head Label
structure member = record { head = head.Tagged Struct (record { 0 = 4 }); inside = Some ((record { name = 4; value = pos 0 }, member) ∷ []) }

abbrev pub incomplete : Thing Head Label
incomplete = record { head = head.Tagged Struct (record { 0 = 4 }); inside = None }

abbrev pub side : ℕ → Side
side n = record { ty = n; bare = false }

int_is_not_long : head.Int int ≡ head.Int long → ⊥
int_is_not_long e = cc

-- two structures of one tag, to which one pointer points
abbrev pointed : List (List ℕ)
pointed = codes "struct s { int a; }; extern struct s *p;" ∷ codes "struct s { long a; }; struct s *p;" ∷ []

abbrev pointed_reads : List Read
pointed_reads = reads_in (found_by Lp64 pointed)

abbrev pointed_things : List (Thing Head Label)
pointed_things =
    structure 2 ∷ structure 5
    ∷ of_type (head.Int int) [] ∷ of_type head.Agg (0 ∷ []) ∷ of_type head.Ptr (3 ∷ [])
    ∷ of_type (head.Int long) [] ∷ of_type head.Agg (1 ∷ []) ∷ of_type head.Ptr (6 ∷ []) ∷ []

pointed_are : things (all_names pointed_reads) (graphs_of pointed_reads) ≡ pointed_things
unfolding found_by
pointed_are = refl

pointed_sides : map sides (groups pointed_reads) ≡ (side 4 ∷ side 7 ∷ []) ∷ []
unfolding found_by
pointed_sides = refl

pointed_forced : Forced pointed_things ((4, 7) ∷ []) 2 5
pointed_forced e holds closed =
    part_forced pointed_things e closed 0 1 2 5 _ refl refl refl
    (part_forced pointed_things e closed 3 6 0 1 _ refl refl refl
    (part_forced pointed_things e closed 4 7 3 6 _ refl refl refl holds.0))

pointed_fails : FailsFirst pointed_things ((side 4 ∷ side 7 ∷ []) ∷ []) 0 0 1 (2, 5)
pointed_fails = record {
  sides = side 4 ∷ side 7 ∷ [];
  a = side 4;
  b = side 7;
  name = refl;
  first = refl;
  second = refl;
  order = omega arith;
  joint = joint_none pointed_things;
  clash = record { forced = pointed_forced; differ = differ_by pointed_things 2 5 (head.Int int) (head.Int long) refl refl int_is_not_long };
}

pointed_apart : AreApart pointed_reads (incompatible 1 11 0 12)
unfolding found_by
pointed_apart = record {
  name = 0;
  earlier = 0;
  later = 1;
  pair = (2, 5);
  other = place 0 12 0 1;
  fails = subst (λ gs. FailsFirst (things (all_names pointed_reads) (graphs_of pointed_reads)) gs 0 0 1 (2, 5)) (sym pointed_sides) (subst (λ ts. FailsFirst ts ((side 4 ∷ side 7 ∷ []) ∷ []) 0 0 1 (2, 5)) (sym pointed_are) pointed_fails);
  fault = refl;
  at = refl;
  beside = refl;
  told = refl;
}

pointed_are_refused : IsRefusal (record { common = false; abi = Lp64 }) files (sources 0 pointed) (incompatible 1 11 0 12)
unfolding found_by
pointed_are_refused = Apart (incompatible 1 11 0 12) pointed_reads (all_are_read Lp64 files (sources 0 pointed) pointed_reads refl) refl pointed_apart

-- three structures of one tag, of which the second is incomplete: the second link fails
abbrev returned : List (List ℕ)
returned =
    codes "struct s { int a; }; struct s *f(void) { return 0; }" ∷ codes "struct s; extern struct s *f(void); extern struct s *g(void);"
    ∷ codes "struct s { long a; }; struct s *g(void) { return 0; }" ∷ []

abbrev returned_reads : List Read
returned_reads = reads_in (found_by Lp64 returned)

abbrev returned_things : List (Thing Head Label)
returned_things =
    structure 3 ∷ incomplete ∷ structure 13
    ∷ of_type (head.Int int) [] ∷ of_type head.Agg (0 ∷ []) ∷ of_type head.Ptr (4 ∷ []) ∷ of_type (head.Func true false) (5 ∷ [])
    ∷ of_type head.Agg (1 ∷ []) ∷ of_type head.Ptr (7 ∷ []) ∷ of_type (head.Func true false) (8 ∷ [])
    ∷ of_type head.Agg (1 ∷ []) ∷ of_type head.Ptr (10 ∷ []) ∷ of_type (head.Func true false) (11 ∷ [])
    ∷ of_type (head.Int long) [] ∷ of_type head.Agg (2 ∷ []) ∷ of_type head.Ptr (14 ∷ []) ∷ of_type (head.Func true false) (15 ∷ []) ∷ []

returned_are : things (all_names returned_reads) (graphs_of returned_reads) ≡ returned_things
unfolding found_by
returned_are = refl

abbrev returned_groups : List (List Side)
returned_groups = (side 6 ∷ side 9 ∷ []) ∷ (side 12 ∷ side 16 ∷ []) ∷ []

returned_sides : map sides (groups returned_reads) ≡ returned_groups
unfolding found_by
returned_sides = refl

-- the first link is held by an equivalence
abbrev returned_pairs : List (ℕ × ℕ)
returned_pairs = (9, 6) ∷ (8, 5) ∷ (7, 4) ∷ (1, 0) ∷ []

returned_joint : Joint returned_things ((6, 9) ∷ [])
returned_joint = joint_of returned_things returned_pairs ((6, 9) ∷ []) ((refl, (refl, (refl, tt))), ((refl, (refl, tt)), ((refl, tt), (tt, tt)))) (
  alike_by returned_things (joined returned_pairs) 9 6 _ _ refl refl refl refl,
  (
    alike_by returned_things (joined returned_pairs) 8 5 _ _ refl refl refl refl,
    (
      alike_by returned_things (joined returned_pairs) 7 4 _ _ refl refl refl refl,
      (alike_incomplete returned_things (joined returned_pairs) 1 0 refl refl, tt),
    ),
  ),
)
    (refl, tt)

-- both links make the members of the first and of the third structure one
returned_forced : Forced returned_things ((6, 9) ∷ (12, 16) ∷ []) 3 13
returned_forced e holds closed =
    let first : e 0 ≡ e 1 =
    part_forced returned_things e closed 4 7 0 1 _ refl refl refl (part_forced returned_things e closed 5 8 4 7 _ refl refl refl (part_forced returned_things e closed 6 9 5 8 _ refl refl refl holds.0)) in
    let second : e 1 ≡ e 2 =
    part_forced returned_things e closed 10 14 1 2 _ refl refl refl (part_forced returned_things e closed 11 15 10 14 _ refl refl refl (part_forced returned_things e closed 12 16 11 15 _ refl refl refl holds.1.0)) in
    part_forced returned_things e closed 0 2 3 13 _ refl refl refl (first ∙ second)

returned_fails : FailsFirst returned_things returned_groups 1 0 1 (3, 13)
returned_fails = record {
  sides = side 12 ∷ side 16 ∷ [];
  a = side 12;
  b = side 16;
  name = refl;
  first = refl;
  second = refl;
  order = omega arith;
  joint = returned_joint;
  clash = record { forced = returned_forced; differ = differ_by returned_things 3 13 (head.Int int) (head.Int long) refl refl int_is_not_long };
}

returned_apart : AreApart returned_reads (incompatible 2 11 1 16)
unfolding found_by
returned_apart = record {
  name = 1;
  earlier = 0;
  later = 1;
  pair = (3, 13);
  other = place 1 16 1 1;
  fails = subst (λ gs. FailsFirst (things (all_names returned_reads) (graphs_of returned_reads)) gs 1 0 1 (3, 13)) (sym returned_sides) (subst (λ ts. FailsFirst ts returned_groups 1 0 1 (3, 13)) (sym returned_are) returned_fails);
  fault = refl;
  at = refl;
  beside = refl;
  told = refl;
}

returned_are_refused : IsRefusal (record { common = false; abi = Lp64 }) files (sources 0 returned) (incompatible 2 11 1 16)
unfolding found_by
returned_are_refused = Apart (incompatible 2 11 1 16) returned_reads (all_are_read Lp64 files (sources 0 returned) returned_reads refl) refl returned_apart
