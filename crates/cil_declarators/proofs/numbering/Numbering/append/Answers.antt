use Rattle.std.proofs.Common.{ℕ, Vec, Global, List, Some, ap, sym}
use Rattle.cil_base.proofs.PoolLemmas.{map-insert_new}
use Rattle.cil_declarators.proofs.NumberingLaws.{none_any}
use Rattle.cil_declarators.proofs.numbering.Numbering.append.Goals as goal

abbrev text_of : Vec ℕ Global → List ℕ
text_of v = v.items

pub returns-clause-ok : goal.returns-clause-ok
returns-clause-ok c =
    map-insert_new text_of c.self.inside.texts.keys c.insert.new.self.keys c.in_ok-owned.owned c.args.self.now c.args.text.now c.self.view_is (c.in_ok-owned.ensures.items_if_clones_equal (λ x y e. e)) (none_any c.args.text.now c.args.self.now c.requires) c.in_ok-insert.ensures.keys

pub returns-clause-gives : goal.returns-clause-gives
returns-clause-gives c = ap Some (sym (returns-clause-ok c))
