-- Device: actions that go on in the same way are equal.
use Rattle.std.proofs.Common.{◌≡◌, refl, ap}
use Rattle.std.proofs.Math.Path.{fun_ext}
use Rattle.execution.specs.States.{State, Result, Goes, Exits, Running, Undefined, bind}
use Rattle.c_semantics.specs.Operations.{Action, ◌>>=◌, gives}

bind_behind : {A B C : Type 0} (r : Result A) (f : A → State → Result B) (g : B → State → Result C) → bind (bind r f) g ≡ bind r (λ a s. bind (f a s) g)
bind_behind (Goes a s) f g = refl
bind_behind (Exits n s) f g = refl
bind_behind (Running s) f g = refl
bind_behind (Undefined s) f g = refl

bind_goes : {A : Type 0} (r : Result A) → bind r Goes ≡ r
bind_goes (Goes a s) = refl
bind_goes (Exits n s) = refl
bind_goes (Running s) = refl
bind_goes (Undefined s) = refl

pub then_then : {A B C : Type 0} (go : Action A) (f : A → Action B) (g : B → Action C) → ((go >>= f) >>= g) ≡ (go >>= (λ a. f a >>= g))
then_then go f g = fun_ext (λ s. bind_behind (go s) f g)

pub then_gives : {A : Type 0} (go : Action A) → (go >>= gives) ≡ go
then_gives go = fun_ext (λ s. bind_goes (go s))

pub then_same : {A B : Type 0} (go : Action A) (f g : A → Action B) → ((a : A) → f a ≡ g a) → (go >>= f) ≡ (go >>= g)
then_same {A} {B} go f g h = ap (λ (k : A → Action B). go >>= k) (fun_ext h)
