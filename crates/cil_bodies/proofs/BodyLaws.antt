-- Device: names of locals, one by one.
use Rattle.std.proofs.Common.{◌≡◌, ℕ, zero, suc, ◌+◌, ◌<◌, ◌≤◌, List, [], ◌∷◌, ◌++◌, length, take, get_or, refl, sym, ap, ◌∙◌, add-one, arith}
use Rattle.cil_base.specs.declared.numbers.NameId.{NameId}
use Rattle.cil_tree.specs.declared.globals.Local.{Local}
use Rattle.cil_bodies.specs.Bodies.{names_of}

pub names_start : (ls : List Local) → [] ≡ names_of (take 0 ls)
names_start ls = refl

one_more : (ls : List Local) (i : ℕ) (d : Local) → i < length ls → names_of (take (suc i) ls) ≡ names_of (take i ls) ++ (get_or ls i d).name ∷ []
one_more [] i d less = absurd (omega arith)
one_more (l ∷ ls) zero d less = refl
one_more (l ∷ ls) (suc i) d less = ap (◌∷◌ l.name) (one_more ls i d (omega arith))

pub names_next : (ls : List Local) (i : ℕ) (d : Local) (old new : List NameId) → i < length ls → old ≡ names_of (take i ls) → new ≡ old ++ (get_or ls i d).name ∷ [] → new ≡ names_of (take (i + 1) ls)
names_next ls i d old new less before is = is ∙ ap (λ ns. ns ++ (get_or ls i d).name ∷ []) before ∙ sym (one_more ls i d less) ∙ ap (λ k. names_of (take k ls)) (sym (add-one i))

all : (ls : List Local) (i : ℕ) → length ls ≤ i → names_of (take i ls) ≡ names_of ls
all [] zero past = refl
all [] (suc i) past = refl
all (l ∷ ls) zero past = absurd (omega arith)
all (l ∷ ls) (suc i) past = ap (◌∷◌ l.name) (all ls i (omega arith))

pub names_end : (ls : List Local) (i : ℕ) (ns : List NameId) → length ls ≤ i → ns ≡ names_of (take i ls) → ns ≡ names_of ls
names_end ls i ns past is = is ∙ all ls i past
