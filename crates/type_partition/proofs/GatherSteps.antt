-- Device: the steps of the functions that gather isomorphic things, over plain values.
use Rattle.std.proofs.Common.{◌≡◌, inl, inr, ℕ, suc, ◌<◌, List, [], length, get_or, Result, Ok, Err, IfOk, Vec, subst, refl, sym}
use mathlib.Core.Path.{fun_ext}
use Rattle.std.specs.declared.alloc.Global.{Global}
use Rattle.type_things.specs.declared.web.Head.{Head}
use Rattle.type_things.specs.declared.web.Label.{Label}
use Rattle.type_things.specs.Things.{Thing}
use Rattle.type_things.proofs.NumberLaws.{beyond}
use Rattle.type_joins.specs.Forests.{root, IsForest}
use Rattle.type_joins.specs.Joined.{IsJoining}
use Rattle.type_joins.proofs.ForestLaws.{root_root, root_below}
use Rattle.type_partition.specs.Partition.{AreNumbers, AreFirsts, IsGathering}
use Rattle.type_partition.specs.Keys.{num_at}
use Rattle.type_partition.specs.Gathered.{IsUnion, AreGathered}
use Rattle.type_partition.proofs.GatheredLaws.{gathers, gathered, gathered_same, gathered_joined}

module _ (ts : List (Thing Head Label)) where
  -- one thing more is joined to the one that stands for its number
  pub gather_step : (i r l g q : ℕ → ℕ) (k : ℕ) → AreNumbers ts i → AreFirsts i l → IsUnion k (l k) g q → IsGathering ts r l g k → IsGathering ts r l q (suc k)
  gather_step i r l g q k num fs (inl h) j = subst (λ z. IsGathering ts r l z (suc k)) (fun_ext (λ y. sym (h.1 y))) (gathered_same ts r l g k (sym h.0) j)
  gather_step i r l g q k num fs (inr (inl h)) j = subst (λ z. IsGathering ts r l z (suc k)) (fun_ext (λ y. sym (h.1 y))) (gathered_joined ts i r l g k (l k) k num fs (sym (fs.same k)) h.0 (inl (refl, refl)) j)
  gather_step i r l g q k num fs (inr (inr h)) j = subst (λ z. IsGathering ts r l z (suc k)) (fun_ext (λ y. sym (h.1 y))) (gathered_joined ts i r l g (l k) k k num fs (fs.same k) h.0 (inr (refl, refl)) j)

module _ (ts : List (Thing Head Label)) where
  if_both : {T E : Type 0} {P Q R : T → Type 0} (z : Result T E) → ((x : T) → P x → Q x → R x) → IfOk z P → IfOk z Q → IfOk z R
  if_both (Ok x) f a b = f x a b
  if_both (Err e) f a b = a

  -- the classes are those of the roots, once all things are joined to the first of their numbers
  pub gather_end : {E : Type 0} (z : Result (Vec ℕ Global) E) (done : List (ℕ × ℕ)) (st ps qs numbers others ds : List ℕ) (k : ℕ) → ds ≡ others → length others ≡ length numbers → k ≡ length numbers → IsForest qs → IsJoining ts done (root ps) st [] → AreNumbers ts (num_at numbers)
      → AreFirsts (num_at numbers) (λ x. get_or others x x) → (AreNumbers ts (num_at numbers) → AreFirsts (num_at numbers) (λ x. get_or ds x x) → IsGathering ts (root ps) (λ x. get_or ds x x) (root ps) 0 → IsGathering ts (root ps) (λ x. get_or ds x x) (root qs) (length ds))
      → IfOk z (λ v. length v.items ≡ k) → IfOk z (λ v. (x : ℕ) → x < k → get_or v.items x x ≡ root qs x) → IfOk z (λ v. AreGathered ts done v.items)
  gather_end z done st ps qs numbers others ds k ed count ek forest j num fs all = if_both z (λ v len at.
      let firsts : AreFirsts (num_at numbers) (λ x. get_or ds x x) = subst (λ l. AreFirsts (num_at numbers) (λ x. get_or l x x)) (sym ed) fs in
      let m = all num firsts (gathers ts done (root ps) (λ x. get_or ds x x) st j) in
      record {
        by_class = root qs;
        partition = gathered ts done (num_at numbers) (root ps) (λ x. get_or ds x x) (root qs) st (length ds) j num firsts (λ x h. beyond ds x x h) m;
        least = root_root qs forest;
        below = root_below qs forest;
        listed = λ x h. at x (subst (λ n. x < n) len h);
      })
