-- Device: steps of the loops over images.
use Rattle.std.proofs.Common.{◌≡◌, ℕ, zero, suc, ◌+◌, ◌<◌, ◌≤◌, true, false, ◌&&◌, Option, Some, None, List, [], ◌∷◌, length, drop, map, get_or, ℤ, refl, sym, ap, subst, arith}
use Rattle.std.specs.Option.{option_map}
use Rattle.cil_base.specs.declared.numbers.EntityId.{EntityId}
use Rattle.cil_base.specs.declared.constants.Constant.TheVariants as constant
use Rattle.type_graph.specs.Shapes.{Shape, VoidType, IntType, PtrType, ArrayType, FuncType, AggType}
use Rattle.type_graph.specs.Arena.{Graph}
use Rattle.cil_tree.specs.declared.globals.ImageItem.{ImageItem}
use Rattle.cil_tree.specs.Tree.{Item, Program}
use Rattle.cil_tree.specs.View.{item_of}
use Rattle.cil_tree.specs.Text.{is_function_type}
use Rattle.cil_tree.specs.Typing.{global_type}
use Rattle.cil_tree.specs.Globals.{Part, address_fits, constant_fits, path_part, item_fits, item_offset, is_below, are_rising}
use Rattle.cil_check.specs.Paths.{is_pointer, scalar_has}

-- an address or a function is the constant of a pointer alone
pub address_is : (p : Program) (s : Shape) (object : EntityId) (at : ℤ) → constant_fits p s (constant.Address object at) ≡ is_pointer s && address_fits p object.0 at
address_is p VoidType object at = refl
address_is p (IntType kind) object at = refl
address_is p (PtrType q s) object at = refl
address_is p (ArrayType q s bound) object at = refl
address_is p (FuncType ret params proto variadic) object at = refl
address_is p (AggType a) object at = refl

pub code_is : (p : Program) (s : Shape) (function : EntityId) → constant_fits p s (constant.Function function) ≡ is_pointer s && is_function_type (global_type p function.0)
code_is p VoidType function = refl
code_is p (IntType kind) function = refl
code_is p (PtrType q s) function = refl
code_is p (ArrayType q s bound) function = refl
code_is p (FuncType ret params proto variadic) function = refl
code_is p (AggType a) function = refl

-- an item whose path leads nowhere, or to a part
pub item_none : (p : Program) (s : Shape) (x : Item) → None ≡ path_part p.graph x.path (s, 0) → false ≡ item_fits p s x
item_none p s x e = ap (λ o. elim o [ None ↦ false | Some part ↦ scalar_has p part.0 x.value ]) e

pub item_some : (p : Program) (s t : Shape) (at : ℕ) (x : Item) → Some (t, at) ≡ path_part p.graph x.path (s, 0) → scalar_has p t x.value ≡ item_fits p s x
item_some p s t at x e = ap (λ o. elim o [ None ↦ false | Some part ↦ scalar_has p part.0 x.value ]) e

pub offset_none : (g : Graph) (s : Shape) (x : Item) → None ≡ path_part g x.path (s, 0) → None ≡ item_offset g s x
offset_none g s x e = ap (option_map (λ (part : Part). part.1)) e

pub offset_some : (g : Graph) (s t : Shape) (at : ℕ) (x : Item) → Some (t, at) ≡ path_part g x.path (s, 0) → Some at ≡ item_offset g s x
offset_some g s t at x e = ap (option_map (λ (part : Part). part.1)) e

-- offsets from one on that is not the last
next_rises : (f : Item → Option ℕ) (xs : List ImageItem) (i j : ℕ) (d e : ImageItem) → j ≡ suc i → j < length xs →
    are_rising (map f (map item_of (drop i xs))) ≡ is_below (f (item_of (get_or xs i d))) (f (item_of (get_or xs j e))) && are_rising (map f (map item_of (drop j xs)))
next_rises f [] i j d e k h = absurd (omega arith)
next_rises f (x ∷ []) i j d e k h = absurd (omega (arith, k))
next_rises f (x ∷ y ∷ xs) i zero d e k h = absurd (omega (arith, k))
next_rises f (x ∷ y ∷ xs) zero (suc zero) d e k h = refl
next_rises f (x ∷ y ∷ xs) zero (suc (suc j)) d e k h = absurd (omega (arith, k))
next_rises f (x ∷ y ∷ xs) (suc i) (suc j) d e k h = next_rises f (y ∷ xs) i j d e (omega (arith, k)) (omega arith)

pub rising_next : (f : Item → Option ℕ) (xs : List ImageItem) (i : ℕ) (d e : ImageItem) → i + 1 < length xs →
    are_rising (map f (map item_of (drop i xs))) ≡ is_below (f (item_of (get_or xs i d))) (f (item_of (get_or xs (i + 1) e))) && are_rising (map f (map item_of (drop (i + 1) xs)))
rising_next f xs i d e h = next_rises f xs i (i + 1) d e (omega arith) h

-- behind the last one
last_rises : (f : Item → Option ℕ) (xs : List ImageItem) (i j : ℕ) → j ≡ suc i → j ≡ length xs → are_rising (map f (map item_of (drop i xs))) ≡ are_rising (map f (map item_of (drop j xs)))
last_rises f [] i j k h = absurd (omega (arith, k, h))
last_rises f (x ∷ []) i zero k h = absurd (omega (arith, k))
last_rises f (x ∷ []) zero (suc j) k h = let z : j ≡ 0 = omega (arith, k) in subst (λ (n : ℕ). true ≡ are_rising (map f (map item_of (drop (suc n) (x ∷ []))))) (sym z) refl
last_rises f (x ∷ []) (suc i) (suc j) k h = absurd (omega (arith, k, h))
last_rises f (x ∷ y ∷ xs) i zero k h = absurd (omega (arith, k))
last_rises f (x ∷ y ∷ xs) zero (suc j) k h = absurd (omega (arith, k, h))
last_rises f (x ∷ y ∷ xs) (suc i) (suc j) k h = last_rises f (y ∷ xs) i j (omega (arith, k)) (omega (arith, h))

pub rising_last : (f : Item → Option ℕ) (xs : List ImageItem) (i : ℕ) → i < length xs → length xs ≤ i + 1 → are_rising (map f (map item_of (drop i xs))) ≡ are_rising (map f (map item_of (drop (i + 1) xs)))
rising_last f xs i h k = last_rises f xs i (i + 1) (omega arith) (omega arith)
