-- Definition: what a program has to which units are merged (C11 5.1.1.1): its objects and functions in order, and its types.
use Rattle.std.specs.Prelude.{◌≡◌, ℕ, Bool, List, map}
use Rattle.cil_base.specs.declared.numbers.NameId.{NameId}
use Rattle.cil_tree.specs.declared.globals.CilUnit.{CilUnit}
use Rattle.link_names.specs.declared.names.Links.{Links}
use Rattle.link_names.specs.declared.units.Fronted.{Fronted}
use Rattle.link_names.specs.Linked.{AreLinks}
use Rattle.link_names.specs.Linking.{Linked, declared_from, grouped}
use Rattle.type_iso.specs.declared.class_table.Classes.{Classes}
use Rattle.type_iso.specs.Classes.{AreClasses}
use Rattle.static_rename.specs.Renamed.{AreRenamed}
use Rattle.cil_merge.specs.Listing.{mark, once_each, marks_of}
use Rattle.cil_merge.specs.Classes.{HasTypes}
use Rattle.cil_merge.specs.Merging.{graphs_of}

-- units whose names are distinct become a program; their structs, unions and enums have these classes
pub record IsJoined (c : Classes) (units : List Fronted) (program : CilUnit) : Type 0 where
  pub order : map mark program.globals.items ≡ once_each (marks_of units)
  pub types : HasTypes c units program.graph

-- units become a program: all that they declare gets its name first, their structs, unions and enums by these classes
pub record IsNamedAndJoined (externals : List NameId) (pool : List (List ℕ)) (c : Classes) (units : List Fronted) (program : CilUnit) : Type 0 where
  pub renamed : List Fronted
  pub names : AreRenamed c externals pool units renamed
  pub joined : IsJoined c renamed program

-- units become a program by their links and the classes of their structs, unions and enums; names are the texts of all names before anything gets a name, and pool those behind that
pub record IsMerged (common : Bool) (names pool : List (List ℕ)) (units : List Fronted) (program : CilUnit) : Type 0 where
  pub links : Links
  pub classes : Classes
  pub are_links : AreLinks (grouped (declared_from 0 units)) common links
  pub are_classes : AreClasses names (graphs_of units) links.groups.items classes
  pub program_is : IsNamedAndJoined (map (λ (l : Linked). l.0) (grouped (declared_from 0 units))) pool classes units program
