use Rattle.std.proofs.Common.{◌≡◌, ℕ, Vec, Global, List, [], ◌∷◌, ◌++◌, length, map, sym, ap, subst, arith, length-append}
use Rattle.std.proofs.lemmas.List.{length-map}
use Rattle.cil_base.specs.NamePool.{IsOnceEach}
use Rattle.cil_base.proofs.PoolLemmas.{map-insert_new, IsOnceEach-push}
use Rattle.cil_base.proofs.names.NamePool.append.Goals as goal

abbrev text_of : Vec ℕ Global → List ℕ
text_of v = v.items

-- the texts after the insertion
grown : (c : goal.In_ok-insert) → map text_of c.insert.new.self.keys ≡ c.args.self.now ++ c.args.text.now ∷ []
grown c = map-insert_new text_of c.self.inside.texts.keys c.insert.new.self.keys c.in_ok-owned.owned c.args.self.now c.args.text.now c.self.view_is (c.in_ok-owned.ensures.items_if_clones_equal (λ x y e. e)) c.requires c.in_ok-insert.ensures.keys

once : (c : goal.In_ok-insert) → IsOnceEach (map text_of c.insert.new.self.keys)
once c = subst IsOnceEach (sym (grown c)) (IsOnceEach-push c.args.self.now c.args.text.now c.len-index.ensures.once c.requires)

pub invariant_of-self-2 : goal.invariant_of-self-2
invariant_of-self-2 c = (omega (arith, ap length (grown c), length-map c.insert.new.self.keys text_of, length-append c.args.self.now (c.args.text.now ∷ [])), once c)

pub returns-clause-ok : goal.returns-clause-ok
returns-clause-ok c = (grown c, c.len-index.ensures.count)

pub returns-clause-once : goal.returns-clause-once
returns-clause-once c = once c
