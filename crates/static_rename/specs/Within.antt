-- Definition: the names that the parameters, objects and labels of functions get (C11 6.2.1p4, 6.2.3; the order is own).
use Rattle.std.specs.Prelude.{◌≡◌, ℕ, suc, Bool, true, false, not, if◌then◌else◌, List, [], ◌∷◌, ◌++◌, Some, None, map, slice_get, slice_set}
use Rattle.cil_base.specs.declared.names.Bases.{Bases}
use Rattle.cil_base.specs.declared.numbers.NameId.{NameId}
use Rattle.cil_tree.specs.declared.globals.Body.{Body as SeenBody}
use Rattle.cil_tree.specs.declared.globals.Local.{Local}
use Rattle.cil_tree.specs.declared.globals.GlobalDecl.{GlobalDecl}
use Rattle.cil_tree.specs.declared.globals.GlobalDef.{GlobalDef}
use Rattle.cil_tree.specs.declared.globals.GlobalDef.TheVariants.{Declared, Zero, Image, Body}
use Rattle.fresh_names.specs.declared.fresh.Wish.{Wish}
use Rattle.fresh_names.specs.declared.fresh.Wish.TheVariants.{Made}
use Rattle.fresh_names.specs.Naming.{same_name, wish_of, AreNamed}

-- locals with names
abbrev pub named_locals : List Local → List NameId → List Local
named_locals [] ns = []
named_locals (l ∷ ls) [] = l ∷ ls
named_locals (l ∷ ls) (n ∷ ns) = record l { name = n } ∷ named_locals ls ns

-- parameters with the names of the first locals
abbrev pub named_params : List NameId → List NameId → List NameId
named_params [] ns = []
named_params (p ∷ ps) [] = p ∷ ps
named_params (p ∷ ps) (n ∷ ns) = n ∷ named_params ps ns

-- what locals ask for, in the order of their numbers: parameters, declared objects, temporaries
abbrev pub local_wishes : NameId → List Local → List Wish
local_wishes base ls = map (λ l. wish_of base l.name) ls

-- a label is made, or is one of the source
abbrev pub is_sought : Bool → NameId → NameId → Bool
is_sought made base l = if made then same_name l base else not (same_name l base)

-- the places of the labels that are made, or of those of the source, from a place on
abbrev pub labels_from : Bool → NameId → ℕ → List NameId → List ℕ
labels_from made base n [] = []
labels_from made base n (l ∷ ls) = if is_sought made base l then n ∷ labels_from made base (suc n) ls else labels_from made base (suc n) ls

-- the labels of a function in the order in which they are named: those of the source, then made ones
abbrev pub label_order : NameId → List NameId → List ℕ
label_order base ls = labels_from false base 0 ls ++ labels_from true base 0 ls

abbrev pub label_wish : NameId → List NameId → ℕ → Wish
label_wish base ls i = elim (slice_get ls i) [ None ↦ Made base | Some l ↦ wish_of base l ]

-- labels once those at places have their names
abbrev pub with_labels : List ℕ → List NameId → List NameId → List NameId
with_labels [] ns ls = ls
with_labels (i ∷ is) [] ls = ls
with_labels (i ∷ is) (n ∷ ns) ls = with_labels is ns (slice_set ls i n)

-- labels get names that are none of each other
pub record AreNamedLabels (pool : List (List ℕ)) (base : NameId) (old new : List NameId) : Type 0 where
  pub names : List NameId
  pub given : AreNamed [] pool (map (label_wish base old) (label_order base old)) names
  pub labels_are : new ≡ with_labels (label_order base old) names old

-- a body's locals get names that are none at file scope and none of each other, its parameters are the first of them, and its labels get names; all else stays
pub record IsNamedBody (file : List NameId) (pool : List (List ℕ)) (bases : Bases) (old new : SeenBody) : Type 0 where
  pub names : List NameId
  pub given : AreNamed file pool (local_wishes bases.temporary old.locals.items) names
  pub locals_are : new.locals.items ≡ named_locals old.locals.items names
  pub params_are : new.params.items ≡ named_params old.params.items names
  pub labels_are : AreNamedLabels pool bases.label old.labels.items new.labels.items
  pub stmts_stay : new.stmts ≡ old.stmts

abbrev pub IsNamedDefinition : List NameId → List (List ℕ) → Bases → GlobalDef → GlobalDef → Type 0
IsNamedDefinition file pool bases Declared d = d ≡ Declared
IsNamedDefinition file pool bases Zero d = d ≡ Zero
IsNamedDefinition file pool bases (Image items) d = d ≡ Image items
IsNamedDefinition file pool bases (Body old) d = (new : SeenBody) × (d ≡ Body new) × IsNamedBody file pool bases old new

-- an object or function whose body gets its names; all else stays
pub record IsNamedWithin (file : List NameId) (pool : List (List ℕ)) (bases : Bases) (old new : GlobalDecl) : Type 0 where
  pub name_stays : new.name ≡ old.name
  pub type_stays : new.ty ≡ old.ty
  pub linkage_stays : new.internal ≡ old.internal
  pub definition : IsNamedDefinition file pool bases old.def new.def

-- a relation holds between the items of two lists, place by place
abbrev pub Each : {T : Type 0} → (T → T → Type 0) → List T → List T → Type 0
Each P [] [] = Unit {0}
Each P [] (y ∷ ys) = ⊥
Each P (x ∷ xs) [] = ⊥
Each P (x ∷ xs) (y ∷ ys) = P x y × Each P xs ys
