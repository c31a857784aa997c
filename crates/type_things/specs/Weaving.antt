-- Device: a web while things are added to it.
use Rattle.std.specs.Prelude.{◌≡◌, ℕ, ◌<◌, get_or, codes, Some, ◌+◌, ◌≤◌, List, [], ◌∷◌, ◌++◌, length, MatchOption}
use Rattle.type_graph.specs.Arena.{Graph, IsArena}
use Rattle.type_things.specs.declared.web.Head.{Head}
use Rattle.type_things.specs.declared.web.Label.{Label}
use Rattle.type_things.specs.declared.web.Span.{Span}
use Rattle.type_things.specs.declared.web.Stored.{Stored}
use Rattle.type_things.specs.declared.stems.Stems.{Stems}
use Rattle.type_things.specs.Units.{stem_number, name_stem, aggregate_count, firsts_from, things as all_things}
use Rattle.type_things.specs.declared.web.Web.{Web}
use Rattle.type_things.specs.Things.{Thing}
use Rattle.type_things.specs.Webs.{things_of, first_pairs}

-- what things have within them stands among the first k parts
abbrev pub Spanned : ℕ → List Stored → Type 0
Spanned k [] = Unit {0}
Spanned k (t ∷ ts) = MatchOption t.inside (Unit {0}) (λ s. s.first + s.count ≤ k) × Spanned k ts

abbrev pub IsSpanned : Web → Type 0
IsSpanned w = Spanned (length w.parts.items) w.things.items

-- things are added behind the others
pub record Adds (old new : Web) (ts : List (Thing Head Label)) : Type 0 where
  pub spanned : IsSpanned new
  pub things : things_of new ≡ things_of old ++ ts
  pub firsts : new.firsts ≡ old.firsts
  pub aggregates : new.aggregates ≡ old.aggregates

abbrev pub AllArenas : List Graph → Type 0
AllArenas [] = Unit {0}
AllArenas (g ∷ gs) = IsArena g × AllArenas gs

abbrev pub type_count : List Graph → ℕ
type_count [] = 0
type_count (g ∷ gs) = length g.nodes + type_count gs

-- a thing is added whose parts are those from a place on
pub record Closes (old new : Web) (h : Head) (first : ℕ) : Type 0 where
  pub span : Span
  pub things : new.things.items ≡ old.things.items ++ (record { head = h; inside = Some span }) ∷ []
  pub begin : span.first ≡ first
  pub end : span.first + span.count ≡ length old.parts.items
  pub parts : new.parts ≡ old.parts
  pub firsts : new.firsts ≡ old.firsts
  pub aggregates : new.aggregates ≡ old.aggregates

-- the stems of the names of a pool
pub record AreStems (names : List (List ℕ)) (s : Stems) : Type 0 where
  pub each : (n : ℕ) → n < length s.of.items → (d : ℕ) → get_or s.of.items n d ≡ (name_stem names (record { 0 = n })).0
  pub tagless : s.tagless ≡ stem_number names (codes "__anon")

-- a web holds the things of units, and the first numbers of each
pub record IsWoven (names : List (List ℕ)) (gs : List Graph) (w : Web) : Type 0 where
  pub things : things_of w ≡ all_things names gs
  pub firsts : first_pairs w ≡ firsts_from 0 (aggregate_count gs) gs
  pub aggregates : w.aggregates ≡ aggregate_count gs
  pub arenas : AllArenas gs

abbrev pub AreSomeStems : Stems → Type 0
AreSomeStems s = (names : List (List ℕ)) × AreStems names s
