pub mod UndoLemmas
