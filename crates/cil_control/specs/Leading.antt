-- Device: which places the steps of a list lead to: each further on in the list, but for a jump that spends a unit.
use Rattle.std.specs.Prelude.{◌≡◌, ℕ, suc, ◌<◌, Bool, true, ◌&&◌, nat_lt, List, [], ◌∷◌, length, slice_get, ℤ}
use Rattle.cil_tree.specs.Tree.{Stmts}
use Rattle.cil_control.specs.Flat.{Step, Act, Test, Choose, Forward, Back, Leave, Stuck, body_steps, labels_from}

-- a place behind p in a list of n steps
abbrev pub further : ℕ → ℕ → ℕ → Bool
further n p q = nat_lt p q && nat_lt q n

-- the places of a table of values are such
abbrev pub table_leads : ℕ → ℕ → List (ℤ × ℕ) → Bool
table_leads n p [] = true
table_leads n p (x ∷ table) = further n p x.1 && table_leads n p table

-- where the step at p leads to, in a list of n steps
abbrev pub leads : ℕ → ℕ → Step → Bool
leads n p (Act i) = further n p (suc p)
leads n p (Test e q) = further n p (suc p) && further n p q
leads n p (Choose e table other) = table_leads n p table && further n p other
leads n p (Forward q) = further n p q
leads n p (Back q) = nat_lt q n
leads n p (Leave e) = true
leads n p Stuck = true

-- the steps from p on lead to places in a list of n steps
abbrev pub lead_from : ℕ → ℕ → List Step → Bool
lead_from n p [] = true
lead_from n p (x ∷ xs) = leads n p x && lead_from n (suc p) xs

-- there is a first step, and each leads to places of the list, and further on but by a spent unit
pub record LeadsOn (xs : List Step) : Type 0 where
  pub first : 0 < length xs
  pub each : lead_from (length xs) 0 xs ≡ true

-- the steps of each body lead on
abbrev pub BodiesLeadOn : Type 0
BodiesLeadOn = (body : Stmts) → LeadsOn (body_steps (slice_get (labels_from 0 body)) body)
