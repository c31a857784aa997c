-- Device: the parts of a loaded function, one after another.
use Rattle.std.proofs.Common.{◌≡◌, ℕ, zero, suc, ◌<◌, ◌≤◌, Bool, List, [], ◌∷◌, ◌++◌, length, map, drop, get_or, Option, Some, None, refl, sym, ap, ◌∙◌, arith, append_assoc, append-nil}
use Rattle.std.proofs.lemmas.List.{map-append, length-map}
use Rattle.cil_base.specs.declared.numbers.LocalId.{LocalId}
use Rattle.cil_base.specs.declared.numbers.TypeId.{TypeId}
use Rattle.type_graph.specs.Shapes.{Shape, shapes_of}
use Rattle.type_graph.specs.Arena.{Graph}
use Rattle.execution.specs.Data as passed
use Rattle.execution.specs.Calls.{value_at_end}
use Rattle.cil_tree.specs.Tree as plain
use Rattle.cil_semantics.specs.Values.{kind_in}
use Rattle.cil_semantics.specs.Runs.{kinds_of, with_object, objects_from}
use Rattle.cil_code.specs.declared.calls.Kind.{Kind}
use Rattle.cil_code.specs.declared.taking.Datum.{Datum}
use Rattle.cil_code.specs.Calling.{kind_from}
use Rattle.cil_code.specs.Taking.{datum_of}
use Rattle.cil_frames.specs.declared.activations.Automatic.{Automatic}
use Rattle.cil_frames.specs.Entering.{automatic_of, objects_of}

-- one more in front of what remains
one_more : {A B : Type 0} (f : A → B) (old new : List A) (x : A) (y : B) (rest : List B) → new ≡ old ++ x ∷ [] → f x ≡ y → map f new ++ rest ≡ map f old ++ y ∷ rest
one_more f old new x y rest is same =
    ap (λ xs. map f xs ++ rest) is
    ∙ (ap (λ ys. ys ++ rest) (map-append f old (x ∷ []))
    ∙ (append_assoc (map f old) (f x ∷ []) rest
    ∙ ap (λ z. map f old ++ z ∷ rest) same))

kinds_here : (g : Graph) (at : ℕ → Shape) (ts : List TypeId) (i : ℕ) (d : TypeId) → i < length ts → kinds_of g (shapes_of at (drop i ts)) ≡ kind_in g (at (get_or ts i d).0) ∷ kinds_of g (shapes_of at (drop (suc i) ts))
kinds_here g at [] i d h = absurd (omega arith)
kinds_here g at (t ∷ ts) zero d h = refl
kinds_here g at (t ∷ ts) (suc i) d h = kinds_here g at ts i d (omega arith)

kinds_past : (g : Graph) (at : ℕ → Shape) (ts : List TypeId) (i : ℕ) → length ts ≤ i → kinds_of g (shapes_of at (drop i ts)) ≡ []
kinds_past g at [] zero h = refl
kinds_past g at [] (suc i) h = refl
kinds_past g at (t ∷ ts) zero h = absurd (omega arith)
kinds_past g at (t ∷ ts) (suc i) h = kinds_past g at ts i (omega arith)

-- the kind of the next parameter
pub kinds_next : (g : Graph) (at : ℕ → Shape) (ts : List TypeId) (i j : ℕ) (d : TypeId) (old new : List (Option Kind)) (k : Option Kind) (whole : List (Option passed.Kind)) → i < length ts → j ≡ suc i
    → map kind_from old ++ kinds_of g (shapes_of at (drop i ts)) ≡ whole → kind_from k ≡ kind_in g (at (get_or ts i d).0) → new ≡ old ++ k ∷ [] → map kind_from new ++ kinds_of g (shapes_of at (drop j ts)) ≡ whole
kinds_next g at ts i j d old new k whole h next inv is push =
    ap (λ j. map kind_from new ++ kinds_of g (shapes_of at (drop j ts))) next
    ∙ (one_more kind_from old new k (kind_in g (at (get_or ts i d).0)) (kinds_of g (shapes_of at (drop (suc i) ts))) push is
    ∙ (ap (λ rest. map kind_from old ++ rest) (sym (kinds_here g at ts i d h)) ∙ inv))

pub kinds_end : (g : Graph) (at : ℕ → Shape) (ts : List TypeId) (i : ℕ) (done : List (Option Kind)) (whole : List (Option passed.Kind)) → length ts ≤ i
    → map kind_from done ++ kinds_of g (shapes_of at (drop i ts)) ≡ whole → map kind_from done ≡ whole
kinds_end g at ts i done whole h inv = sym (append-nil (map kind_from done)) ∙ (ap (λ rest. map kind_from done ++ rest) (sym (kinds_past g at ts i h)) ∙ inv)

-- a local of incomplete type is no object
pub object_skipped : (i : ℕ) (o : Option ℕ) (done : List Automatic) (more : List passed.Automatic) → None ≡ o → objects_of done ++ more ≡ objects_of done ++ with_object i o more
object_skipped i o done more e = ap (λ o. objects_of done ++ with_object i o more) e

pub object_pushed : (i size : ℕ) (o : Option ℕ) (l : LocalId) (old new : List Automatic) (more : List passed.Automatic) → Some size ≡ o → l.0 ≡ i → new ≡ old ++ record { number = l; size = size } ∷ []
    → objects_of new ++ more ≡ objects_of old ++ with_object i o more
object_pushed i size o l old new more e number push =
    one_more automatic_of old new (record { number = l; size = size }) (record { number = i; size = size }) more push (ap (λ n. automatic_at n size) number)
    ∙ ap (λ o. objects_of old ++ with_object i o more) e
  where
    automatic_at : ℕ → ℕ → passed.Automatic
    automatic_at n size = record { number = n; size = size }

module _ {A : Type 0} (g : Graph) (see : A → plain.Local) where
  objects_here : (xs : List A) (n i : ℕ) (d : A) → i < length xs → objects_from g n (drop i (map see xs)) ≡ objects_from g n (see (get_or xs i d) ∷ drop (suc i) (map see xs))
  objects_here [] n i d h = absurd (omega arith)
  objects_here (x ∷ xs) n zero d h = refl
  objects_here (x ∷ xs) n (suc i) d h = objects_here xs n i d (omega arith)

  objects_past : (xs : List A) (n i : ℕ) → length xs ≤ i → objects_from g n (drop i (map see xs)) ≡ []
  objects_past [] n zero h = refl
  objects_past [] n (suc i) h = refl
  objects_past (x ∷ xs) n zero h = absurd (omega arith)
  objects_past (x ∷ xs) n (suc i) h = objects_past xs n i (omega arith)

  -- the objects from the first local behind the parameters on
  pub objects_begin : {B : Type 0} {C : Type 0} (f : B → C) (ps : List B) (xs : List A) (n : ℕ) → n ≡ length ps → objects_of [] ++ objects_from g n (drop n (map see xs)) ≡ objects_from g (length (map f ps)) (drop (length (map f ps)) (map see xs))
  objects_begin f ps xs n is = ap (λ k. objects_from g k (drop k (map see xs))) (is ∙ sym (length-map ps f))

  pub objects_next : (xs : List A) (i j : ℕ) (x : A) (old new : List Automatic) (whole : List passed.Automatic) → i < length xs → x ≡ get_or xs i x → j ≡ suc i → objects_of old ++ objects_from g i (drop i (map see xs)) ≡ whole
      → ((rest : List plain.Local) → objects_of new ++ objects_from g (suc i) rest ≡ objects_of old ++ objects_from g i (see x ∷ rest)) → objects_of new ++ objects_from g j (drop j (map see xs)) ≡ whole
  objects_next xs i j x old new whole h is next inv push =
      ap (λ j. objects_of new ++ objects_from g j (drop j (map see xs))) next
      ∙ (push (drop (suc i) (map see xs)) ∙ (ap (λ (y : A). objects_of old ++ objects_from g i (see y ∷ drop (suc i) (map see xs))) is ∙ (ap (λ rest. objects_of old ++ rest) (sym (objects_here xs i i x h)) ∙ inv)))

  pub objects_end : (xs : List A) (i : ℕ) (done : List Automatic) (whole : List passed.Automatic) → length xs ≤ i → objects_of done ++ objects_from g i (drop i (map see xs)) ≡ whole → objects_of done ≡ whole
  objects_end xs i done whole h inv = sym (append-nil (objects_of done)) ∙ (ap (λ rest. objects_of done ++ rest) (sym (objects_past xs i i h)) ∙ inv)

-- the value at the end, by the kind of the result
pub end_is : (main : Bool) (k : Option Kind) (o : Option passed.Kind) (d : Datum) → datum_of d ≡ value_at_end main (kind_from k) → kind_from k ≡ o → datum_of d ≡ value_at_end main o
end_is main k o d is same = is ∙ ap (value_at_end main) same
