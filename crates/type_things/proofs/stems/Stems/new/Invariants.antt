use Rattle.std.proofs.Common.{◌≡◌, ◌<◌, ℕ, ◌∷◌, [], map, Some, codes, length, take, get_or, slice_get, slice_index_or}
use Rattle.cil_base.specs.NamePool.{IsOnceEach, interned_all}
use Rattle.type_things.specs.Stems.{stem_of}
use Rattle.type_things.proofs.stems.Stems.new.Given as goal

abbrev pub invariant-loop-n : goal.invariant-loop-n
invariant-loop-n l = record {
  once : IsOnceEach l.stems;
  pool : l.stems ≡ interned_all [] (codes "__anon" ∷ map stem_of (take l.n l.names));
  tagless : slice_get l.stems l.tagless.0 ≡ Some (codes "__anon");
  count : length l.of.items ≡ l.n;
  stems : (k d : ℕ) → k < l.n → slice_get l.stems (get_or l.of.items k d) ≡ Some (stem_of (slice_index_or l.names k []));
}
