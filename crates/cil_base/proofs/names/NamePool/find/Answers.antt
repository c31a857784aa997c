use Rattle.std.proofs.Common.{◌≡◌, ℕ, Vec, Global, List, false, ◌∙◌, sym, ap, subst, MatchOption, slice_get, Some}
use Rattle.std.specs.List.{list_any}
use Rattle.std.specs.Str.{bytes_eq}
use Rattle.cil_base.specs.declared.numbers.NameId.{NameId}
use Rattle.cil_base.proofs.PoolLemmas.{list_any-map, found_text}
use Rattle.cil_base.proofs.names.NamePool.find.Goals as goal

text_of : Vec ℕ Global → List ℕ
text_of v = v.items

pub returns-in_err-index-clause-found : goal.returns-in_err-index-clause-found
unfolding text_of
returns-in_err-index-clause-found c =
    let absent : list_any (bytes_eq c.args.text.now) c.args.self.now ≡ false =
    ap (list_any (bytes_eq c.args.text.now)) (sym c.self.view_is) ∙ list_any-map text_of (bytes_eq c.args.text.now) c.self.inside.texts.keys ∙ sym c.in_err-index.ensures.found in
    subst (λ r. MatchOption r (list_any (bytes_eq c.args.text.now) c.args.self.now ≡ false) (λ (n : NameId). slice_get c.args.self.now n.0 ≡ Some c.args.text.now)) (sym c.from_residual.ensures) absent

pub returns-clause-found : goal.returns-clause-found
unfolding text_of
returns-clause-found c =
    ap (λ (texts : List (List ℕ)). slice_get texts c.in_ok-index.index) (sym c.self.view_is) ∙ found_text text_of c.args.text.now c.self.inside.texts.keys c.in_ok-index.index c.in_ok-index.ensures.index
