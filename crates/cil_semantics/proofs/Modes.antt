-- Device: a program alone has its data model.
use Rattle.std.proofs.Common.{◌≡◌, [], ◌∷◌}
use Rattle.std.proofs.lemmas.List.Elements.{All-nil, All-cons}
use Rattle.cil_base.specs.declared.kinds.Abi.{Abi}
use Rattle.cil_tree.specs.Tree.{Program}
use Rattle.cil_semantics.specs.Modes.{HaveModel}

pub one_has : (abi : Abi) (p : Program) → p.graph.abi ≡ abi → HaveModel abi (p ∷ [])
one_has abi p is =
    let alike = λ (q : Program). q.graph.abi ≡ abi in
    All-cons alike p [] is (All-nil alike)
