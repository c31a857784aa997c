-- Units that are not grammatical, as it is defined: no unit, and one that is higher than any may be; the tokens in front of the second place begin an external declaration.
use Rattle.std.proofs.Common.{◌≡◌, refl, sym, ◌∙◌, arith, codes, ℕ, ◌+◌, true, false, List, [], ◌∷◌, ◌++◌, take, drop, length, Some, None, take-append-drop}
use Rattle.cil_base.specs.declared.faults.Fault.TheVariants.{Syntax}
use Rattle.cil_base.specs.declared.faults.Refusal.{Refusal}
use Rattle.cil_base.specs.declared.kinds.Abi.TheVariants.{Lp64}
use Rattle.c_tree.specs.declared.words.BasicType.TheVariants.{Int as IntWord}
use Rattle.c_tree.specs.Syntax.{Basic, NoSpecifiers, MoreSpecifiers, Declared}
use Rattle.c_tree.specs.Units.{ExternalTree, Declares, External, UnitTree}
use Rattle.c_tree.specs.Spelling.{Lexeme}
use Rattle.c_tree.specs.UnitSpelling.{spell_external}
use Rattle.c_tree.specs.Scoped.{after_external}
use Rattle.c_parser.specs.Externals.{file_scope, grammatical_external}
use Rattle.c_faults.specs.Reading.{Read, Begins}
use Rattle.c_faults.specs.Corresponding.{AreApart, IsRefusal}
use Rattle.c_faults.specs.Text.{sources, found_by, refusals_in}
use Rattle.c_faults.proofs.Expected.{place, refused, both, so_many}
use Rattle.c_faults.proofs.FirstLaws.{refusal_is_first}
use Rattle.c_faults.proofs.ApartRows.{files, reads_in}

zero_more : (k : ℕ) → k ≡ 0 + k
zero_more k = omega arith

-- an external declaration that begins with the tokens up to that number
begins_with : (ts : List Lexeme) (stop height : ℕ) (x : ExternalTree) → stop ≡ length (take stop ts) → grammatical_external file_scope height 0 x ≡ true → take stop ts ++ drop stop (spell_external x) ≡ spell_external x → Begins ts 0 stop
begins_with ts stop height x e g s = record {
  before = [];
  scopes = file_scope;
  front = [];
  middle = take stop ts;
  rest = drop stop ts;
  parts = sym (take-append-drop stop ts);
  number = refl;
  length_of = e ∙ zero_more (length (take stop ts));
  whole = (refl, refl);
  external = x;
  after = after_external file_scope x;
  height = height;
  more = drop stop (spell_external x);
  is = record { grammatical = g; after = refl; spelled = s };
}

abbrev syntax_at : ℕ → ℕ → Refusal
syntax_at start stop = record { fault = Syntax; at = place 0 start 0 1; other = Some (place 0 stop 0 1) }

-- `int a;`
abbrev a_declaration : ExternalTree
a_declaration = External (Declares 0 (MoreSpecifiers (Basic 0 IntWord) NoSpecifiers) ((Declared 1 (record { 0 = 0 }), None) ∷ []))

nothing_is_refused : IsRefusal (record { common = false; abi = Lp64 }) files (sources 0 ([] ∷ [])) (syntax_at 0 0)
unfolding found_by
nothing_is_refused = refusal_is_first AreApart (record { common = false; abi = Lp64 }) files (sources 0 ([] ∷ [])) (syntax_at 0 0) refl (begins_with [] 0 512 a_declaration refl refl refl)

-- so many pairs of parentheses: 508 are of the greatest height
abbrev in_parentheses : ℕ → List ℕ
in_parentheses n = codes "int main(void) { return " ++ (so_many n 40 ++ (codes "0" ++ (so_many n 41 ++ codes "; }")))

too_high : refusals_in false (in_parentheses 509 ∷ []) ≡ both (refused Syntax (place 0 0 0 1) (Some (place 0 515 0 1)))
unfolding refusals_in
too_high = refl

abbrev first_of : UnitTree → ExternalTree
first_of [] = a_declaration
first_of (x ∷ xs) = x

abbrev first_tree : List Read → ExternalTree
first_tree [] = a_declaration
first_tree (r ∷ rs) = first_of r.tree

-- one pair less begins with the tokens in front of the last parenthesis
too_high_is_refused : IsRefusal (record { common = false; abi = Lp64 }) files (sources 0 (in_parentheses 509 ∷ [])) (syntax_at 0 515)
unfolding found_by
too_high_is_refused =
    refusal_is_first AreApart (record { common = false; abi = Lp64 }) files (sources 0 (in_parentheses 509 ∷ [])) (syntax_at 0 515) refl
    (begins_with _ 515 512 (first_tree (reads_in (found_by Lp64 (in_parentheses 508 ∷ [])))) refl refl refl)
