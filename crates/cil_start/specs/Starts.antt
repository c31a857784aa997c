-- Definition: what is known of the store in which the run of linked programs starts (C11 5.1.2p1, 5.1.2.2.1p2).
use Rattle.std.specs.Prelude.{◌≡◌, ℕ, List}
use Rattle.byte_mem.specs.declared.stores.Store.{Store}
use Rattle.byte_mem.specs.Store.{memory}
use Rattle.execution.specs.Runs.{start_state}
use Rattle.cil_tree.specs.Tree.{Program}
use Rattle.cil_semantics.specs.Modes.{HaveModel}
use Rattle.cil_link.specs.Entities.{linked_in}

-- the store has the memory in which the run of the programs starts with those words, and their data model
pub record Starts (s : Store) (programs : List Program) (words : List (List ℕ)) : Type 0 where
  pub memory : (input : List ℕ) (units : ℕ) → memory s ≡ (start_state s.abi (linked_in programs) words input units).memory
  pub model : HaveModel s.abi programs
