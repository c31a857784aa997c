-- Definition: CIL units as linking takes them (own, over C11 5.1.1.2p1 phase 8).
use Rattle.std.specs.Prelude.{◌≡◌, ℕ, Bool, true, false, List, [], ◌∷◌}
use Rattle.std.specs.List.{list_all}
use Rattle.type_graph.specs.Arena.{IsArena}
use Rattle.cil_tree.specs.declared.globals.CilUnit.{CilUnit}
use Rattle.cil_tree.specs.Tree.{GlobalDecl, Program}
use Rattle.cil_tree.specs.View.{program_of}
use Rattle.cil_tree.specs.WellFormedTypes.{TypesFit}
use Rattle.cil_tree.specs.Globals.{global_fits}

abbrev pub is_nonempty : List ℕ → Bool
is_nonempty [] = false
is_nonempty (b ∷ bytes) = true

-- the empty text is no name, and a number that the names have not stands for it
abbrev pub has_name : GlobalDecl → Bool
has_name x = is_nonempty x.name

-- a program that is well-formed but for its names, missing tags and the order of its aggregates, of which no run asks; of names no more is asked than that each global has one, by which it is linked (C11 6.2.2)
pub record IsUnit (p : Program) : Type 0 where
  pub arena : IsArena p.graph
  pub unit : CilUnit
  pub seen : program_of p.names unit ≡ p
  pub types : TypesFit p.graph
  pub named : list_all has_name p.globals ≡ true
  pub globals : list_all (global_fits p) p.globals ≡ true
