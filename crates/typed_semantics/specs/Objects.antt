-- Definition: the objects that live while a block runs (C11 6.2.4p5, p6): of the declarations that stand in it and of the compound literals in its own expressions; those of the blocks in it are their own.
use Rattle.std.specs.Prelude.{ℕ, List, [], ◌∷◌, ◌++◌, Option, Some, None, slice_get}
use Rattle.execution.specs.Data.{Automatic}
use Rattle.typed_tree.specs.Tree.{Typed}
use Rattle.typed_tree.specs.Statements.{Stmt, Declare, Stmts, Done, Seq}
use Rattle.typed_tree.specs.Units.{Function, Local as LocalObject}
use Rattle.c_rules.specs.Types.{size_in}
use Rattle.c_semantics.specs.Places.{Activation, sized, literal_objects, literals_in, literals_in_maybe, own_literals}

-- an object with its size
abbrev pub local_in : Activation → ℕ → Option LocalObject → List Automatic
local_in a n None = []
local_in a n (Some l) = sized (size_in a.types l.shape) n []

abbrev pub objects_in : Activation → Function → Typed → List Automatic
objects_in a f e = literal_objects a f.literals (literals_in e)

abbrev pub objects_in_maybe : Activation → Function → Option Typed → List Automatic
objects_in_maybe a f e = literal_objects a f.literals (literals_in_maybe e)

abbrev pub declared_in : Activation → Function → Stmt → List Automatic
declared_in a f (Declare n init) = local_in a n (slice_get f.locals n)
declared_in a f _ = []

abbrev pub own_in : Activation → Function → Stmt → List Automatic
own_in a f s = declared_in a f s ++ literal_objects a f.literals (own_literals s)

abbrev pub own_objects : Activation → Function → Stmts → List Automatic
own_objects a f Done = []
own_objects a f (Seq s ss) = own_in a f s ++ own_objects a f ss
