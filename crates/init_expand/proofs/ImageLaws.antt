-- Device: an image gains scalars one by one, at rising offsets.
use Rattle.std.proofs.Common.{◌≡◌, ℕ, suc, ◌+◌, subst, add-one, ◌≤◌, nat_lt, List, [], ◌∷◌, ◌++◌, Bool, false, true, ◌&&◌, Option, Some, None, map, refl, sym, ap, ◌∙◌, arith}
use Rattle.type_graph.specs.Shapes.{Shape}
use Rattle.type_graph.specs.Arena.{Graph}
use Rattle.cil_tree.specs.declared.globals.ImageItem.{ImageItem}
use Rattle.cil_tree.specs.View.{item_of, step_of}
use Rattle.cil_tree.specs.Globals.{Part, path_part, item_offset, is_below, are_rising}
use Rattle.cil_tree.specs.declared.globals.Step.{Step}
use Rattle.std.specs.List.{list_all}
use Rattle.std.specs.Option.{option_map}
use Rattle.cil_tree.specs.Typing.{is_scalar}
use Rattle.cil_check.specs.Paths.{leads_to_scalar, ScalarsRise}
use Rattle.init_expand.specs.Images.{is_zero, HasNoZero, IsRising, AreScalars}
use Rattle.init_expand.specs.Spots.{RisesTo}

pub none_pushed : (xs : List ImageItem) (x : ImageItem) → HasNoZero xs → is_zero x.value ≡ false → HasNoZero (xs ++ x ∷ [])
none_pushed [] x none h = (h, tt)
none_pushed (y ∷ xs) x none h = (none.0, none_pushed xs x none.1 h)

pub rises_pushed : (g : Graph) (s : Shape) (m n k : ℕ) (xs : List ImageItem) (x : ImageItem) → RisesTo g s m xs n → item_offset g s (item_of x) ≡ Some k → n ≤ k → RisesTo g s m (xs ++ x ∷ []) (suc k)
rises_pushed g s m n k [] x rises at h = (k, at, omega (arith, rises, h), omega arith)
rises_pushed g s m n k (y ∷ xs) x rises at h = (rises.0, rises.1, rises.2, rises_pushed g s (suc rises.0) n k xs x rises.3 at h)

pub rising_from : (g : Graph) (s : Shape) (m n : ℕ) (xs : List ImageItem) → RisesTo g s m xs n → IsRising g s xs
rising_from g s m n [] rises = refl
rising_from g s m n (x ∷ []) rises = refl
rising_from g s m n (x ∷ y ∷ more) rises =
    let below : nat_lt rises.0 rises.3.0 ≡ true = grind (arith, rises.3.2) in
    ap (λ o. is_below o (item_offset g s (item_of y)) && are_rising (map (item_offset g s) (map item_of (y ∷ more)))) rises.1
    ∙ ap (λ o. is_below (Some rises.0) o && are_rising (map (item_offset g s) (map item_of (y ∷ more)))) rises.3.1
    ∙ ap (λ b. b && are_rising (map (item_offset g s) (map item_of (y ∷ more)))) below
    ∙ rising_from g s (suc rises.0) n (y ∷ more) rises.3

-- an image gains a scalar whose part was found
pub rises_with : (g : Graph) (s t : Shape) (n k least : ℕ) (xs ys : List ImageItem) (x : ImageItem) (path : List Step) → path ≡ x.path.items → path_part g (map step_of path) (s, 0) ≡ Some (t, k) → n ≤ k → least ≡ k + 1 → ys ≡ xs ++ x ∷ []
    → RisesTo g s 0 xs n → RisesTo g s 0 ys least
rises_with g s t n k least xs ys x path same found high next is rises =
    let at : item_offset g s (item_of x) ≡ Some k = ap (λ (p : List Step). option_map (λ (part : Part). part.1) (path_part g (map step_of p) (s, 0))) (sym same) ∙ ap (option_map (λ (part : Part). part.1)) found in
    subst (λ (m : ℕ). RisesTo g s 0 ys m) (sym (next ∙ add-one k)) (subst (λ (zs : List ImageItem). RisesTo g s 0 zs (suc k)) (sym is) (rises_pushed g s 0 n k xs x rises at (omega (arith, high))))

both_hold : (b p q : Bool) → b && p ≡ true → (p ≡ true → q ≡ true) → b && q ≡ true
both_hold true p q e next = next e
both_hold false p q e next = cc

scalars_pushed : (g : Graph) (s : Shape) (xs : List ImageItem) (x : ImageItem) → AreScalars g s xs → leads_to_scalar g s (item_of x) ≡ true → AreScalars g s (xs ++ x ∷ [])
scalars_pushed g s [] x all leads = ap (λ b. b && true) leads
scalars_pushed g s (y ∷ xs) x all leads =
    both_hold (leads_to_scalar g s (item_of y)) (list_all (leads_to_scalar g s) (map item_of xs)) (list_all (leads_to_scalar g s) (map item_of (xs ++ x ∷ []))) all (λ rest. scalars_pushed g s xs x rest leads)

-- an image gains a scalar whose part was found
pub scalars_with : (g : Graph) (s t : Shape) (k : ℕ) (xs ys : List ImageItem) (x : ImageItem) (path : List Step) → path ≡ x.path.items → path_part g (map step_of path) (s, 0) ≡ Some (t, k) → is_scalar g t ≡ true → ys ≡ xs ++ x ∷ []
    → AreScalars g s xs → AreScalars g s ys
scalars_with g s t k xs ys x path same found scalar is all =
    let leads : leads_to_scalar g s (item_of x) ≡ true =
    ap (λ (p : List Step). elim (path_part g (map step_of p) (s, 0)) [ None ↦ false | Some part ↦ is_scalar g part.0 ]) (sym same)
    ∙ ap (λ (o : Option Part). elim o [ None ↦ false | Some part ↦ is_scalar g part.0 ]) found ∙ scalar in
    subst (AreScalars g s) (sym is) (scalars_pushed g s xs x all leads)

pub scalars_rise : (g : Graph) (s : Shape) (xs : List ImageItem) → AreScalars g s xs → IsRising g s xs → ScalarsRise g s (map item_of xs)
scalars_rise g s xs scalars rising = record { scalars = scalars; rising = rising }
