-- Definition: a pool of names is the list of its texts in first-seen order; a name's number is the place of its text.
use Rattle.std.specs.Prelude.{◌≡◌, ℕ, List, [], ◌∷◌, ◌++◌, Some, if◌then◌else◌, codes, slice_get}
use Rattle.std.specs.List.{list_any}
use Rattle.std.specs.Str.{bytes_eq}
use Rattle.cil_base.specs.declared.names.Bases.{Bases}

-- no text has two numbers
pub record IsOnceEach (texts : List (List ℕ)) : Type 0 where
  pub once : (i j : ℕ) (text : List ℕ) → slice_get texts i ≡ Some text → slice_get texts j ≡ Some text → i ≡ j

-- the texts after one is asked for: a new one goes last
abbrev pub interned : List (List ℕ) → List ℕ → List (List ℕ)
interned texts text = if list_any (bytes_eq text) texts then texts else texts ++ text ∷ []

-- the texts after each of some is asked for in turn
abbrev pub interned_all : List (List ℕ) → List (List ℕ) → List (List ℕ)
interned_all texts [] = texts
interned_all texts (asked ∷ more) = interned_all (interned texts asked) more

-- old became new when the text was asked for, whose number is n
pub record Interns (old new : List (List ℕ)) (text : List ℕ) (n : ℕ) : Type 0 where
  pub after : new ≡ interned old text
  pub number : slice_get new n ≡ Some text

-- the base texts of made names (own): of string literals and of compound literals outside functions, of aggregates without a tag, of temporaries and of labels
abbrev pub base_texts : List (List ℕ)
base_texts = codes "__str" ∷ codes "__anon" ∷ codes "__t" ∷ codes "__l" ∷ []

-- these are the numbers of the base texts
pub record NumbersBases (texts : List (List ℕ)) (bases : Bases) : Type 0 where
  pub literal : slice_get texts bases.literal.0 ≡ Some (codes "__str")
  pub tagless : slice_get texts bases.tagless.0 ≡ Some (codes "__anon")
  pub temporary : slice_get texts bases.temporary.0 ≡ Some (codes "__t")
  pub label : slice_get texts bases.label.0 ≡ Some (codes "__l")

-- each name keeps its text
abbrev pub Stays : List (List ℕ) → List (List ℕ) → Type 0
Stays old new = (i : ℕ) (text : List ℕ) → slice_get old i ≡ Some text → slice_get new i ≡ Some text
