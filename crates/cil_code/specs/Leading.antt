-- Device: which places the steps of a list lead to: each further on in the list, but for a jump that spends a unit.
use Rattle.std.specs.Prelude.{◌≡◌, ℕ, suc, Bool, true, ◌&&◌, nat_lt, List, [], ◌∷◌, length}
use Rattle.cil_control.specs.Leading.{further, table_leads}
use Rattle.cil_code.specs.declared.steps.Step.{Step}
use Rattle.cil_code.specs.declared.steps.Step.TheVariants.{Set, Zero, Call, Test, Choose, Forward, Back, Leave, Stuck}

-- where the step at p leads to, in a list of n steps
abbrev pub leads : ℕ → ℕ → Step → Bool
leads n p (Set place o) = further n p (suc p)
leads n p (Zero size place) = further n p (suc p)
leads n p (Call k) = further n p (suc p)
leads n p (Test t e q) = further n p (suc p) && further n p q
leads n p (Choose kind e cases other) = table_leads n p cases && further n p other
leads n p (Forward q) = further n p q
leads n p (Back q) = nat_lt q n
leads n p (Leave o) = true
leads n p Stuck = true

-- the steps from p on lead to places in a list of n steps
abbrev pub lead_from : ℕ → ℕ → List Step → Bool
lead_from n p [] = true
lead_from n p (y ∷ ys) = leads n p y && lead_from n (suc p) ys

abbrev pub lead_on : List Step → Bool
lead_on code = lead_from (length code) 0 code

-- each step leads to places of the list, and further on but by a spent unit
abbrev pub LeadOn : List Step → Type 0
LeadOn code = lead_on code ≡ true
