use Rattle.std.proofs.Common.{◌≡◌, ℕ, Vec, Global, List, ◌∙◌, ap, map, length, arith}
use Rattle.std.proofs.lemmas.List.{length-map}
use Rattle.cil_text.specs.ReadTypes.{find}
use Rattle.cil_declarators.proofs.NumberingLaws.{found_place}
use Rattle.cil_declarators.proofs.numbering.Numbering.find.Goals as goal

text_of : Vec ℕ Global → List ℕ
text_of v = v.items

pub returns-in_err-index-clause-found : goal.returns-in_err-index-clause-found
unfolding text_of
returns-in_err-index-clause-found c =
    c.from_residual.ensures ∙ (c.in_err-index.ensures.index ∙ (found_place text_of c.args.text.now c.self.inside.texts.keys ∙ ap (find c.args.text.now) c.self.view_is))

pub returns-clause-found : goal.returns-clause-found
unfolding text_of
returns-clause-found c = c.in_ok-index.ensures.index ∙ (found_place text_of c.args.text.now c.self.inside.texts.keys ∙ ap (find c.args.text.now) c.self.view_is)

pub returns-clause-within : goal.returns-clause-within
unfolding text_of
returns-clause-within c = let size : length (map text_of c.self.inside.texts.keys) ≡ length c.args.self.now = ap length c.self.view_is in omega (arith, c.in_ok-index.ensures.within, size, length-map c.self.inside.texts.keys text_of)
