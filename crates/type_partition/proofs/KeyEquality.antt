-- Device: the derived comparison tells whether keys are equal.
use Rattle.std.proofs.Common.{◌≡◌, true, refl, ap, ◌∙◌, eqb-true, eq-eqb}
use Rattle.type_things.specs.declared.web.Label.{Label}
use Rattle.type_things.proofs.HeadLaws.{joined, both, eq_tells, eq_same, label_tells, label_same}
use Rattle.type_partition.specs.declared.refining.Key.{Key}
use Rattle.type_partition.specs.declared.refining.Key.TheVariants.{Start, Part, Alone}
use Rattle.type_partition.specs.contracts.refining.KeyPartialEq.TheImpl.{ghosts as key_ghosts}

pub key_tells : (x y : Key) → key_ghosts.eq x y ≡ true → x ≡ y
key_tells (Start h) (Start k) e = ap Start (eq_tells h k e)
key_tells (Part m l p) (Part n k q) e =
    let h = both _ _ e in
    let i = both _ _ h.1 in
    ap (λ z. Part z l p) (eqb-true _ _ h.0) ∙ ap (λ (z : Label). Part n z p) (label_tells l k i.0) ∙ ap (Part n k) (eqb-true _ _ i.1)
key_tells (Alone a) (Alone b) e = ap Alone (eqb-true a b e)
key_tells x y e = cc

pub key_same : (x : Key) → key_ghosts.eq x x ≡ true
key_same (Start h) = eq_same h
key_same (Part m l p) = joined _ _ (eq-eqb m m refl) (joined _ _ (label_same l) (eq-eqb p p refl))
key_same (Alone a) = eq-eqb a a refl
