-- Device: a pool keeps the names that it has, whatever is asked for.
use Rattle.std.proofs.Common.{◌≡◌, ℕ, List, [], Some, slice_get, sym, subst}
use Rattle.std.proofs.lemmas.Option.{get_or_from_slice_get}
use Rattle.cil_base.specs.declared.numbers.NameId.{NameId}
use Rattle.cil_base.specs.NamePool.{Interns}
use Rattle.cil_base.proofs.PoolLemmas.{Interns-stays}
use Rattle.cil_tree.specs.View.{text_at}
use Rattle.cil_reader.specs.Pools.{KeepsNames}

pub pool_same : (p : List (List ℕ)) → KeepsNames p p
pool_same p = record { at = λ n text e. e }

pub pool_by : (p q : List (List ℕ)) → q ≡ p → KeepsNames p q
pool_by p q e = subst (KeepsNames p) (sym e) (pool_same p)

pub pool_twice : (p q r : List (List ℕ)) → KeepsNames p q → KeepsNames q r → KeepsNames p r
pool_twice p q r a b = record { at = λ n text e. b.at n text (a.at n text e) }

pub pool_asked : (p q : List (List ℕ)) (text : List ℕ) (n : ℕ) → Interns p q text n → KeepsNames p q
pool_asked p q text n h = record { at = λ i u e. Interns-stays p q text n i u h e }

pub text_stays : (p q : List (List ℕ)) (n : NameId) (text : List ℕ) → slice_get p n.0 ≡ Some text → KeepsNames p q → text_at q n ≡ text
text_stays p q n text e k = get_or_from_slice_get q n.0 text [] (k.at n.0 text e)

pub name_known : (p q : List (List ℕ)) (text : List ℕ) (n : NameId) → Interns p q text n.0 → (later : List (List ℕ)) → KeepsNames q later → text_at later n ≡ text
name_known p q text n i later k = text_stays q later n text i.number k
