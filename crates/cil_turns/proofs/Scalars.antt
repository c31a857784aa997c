-- Device: the arguments of a call of the host, one by one.
use Rattle.std.proofs.Common.{◌≡◌, ℕ, zero, suc, ◌<◌, ◌≤◌, List, [], ◌∷◌, ◌++◌, length, drop, get_or, Option, Some, None, refl, sym, ap, ◌∙◌, arith, append_assoc}
use Rattle.std.proofs.lemmas.List.{append-nil}
use Rattle.byte_mem.specs.declared.values.Scalar.{Scalar}
use Rattle.byte_mem.specs.declared.values.Value.{Value}
use Rattle.byte_mem.specs.Steps.{◌>>=◌}
use Rattle.execution.specs.Calls.{scalar_argument, scalar_arguments}
use Rattle.cil_frames.specs.declared.activations.Argument.{Argument}
use Rattle.cil_frames.specs.Entering.{argument_of, arguments_of}

-- the scalars so far, and then the others
abbrev pub scalars_on : List (Scalar × Value) → Option (List (Scalar × Value)) → Option (List (Scalar × Value))
scalars_on done rest = rest >>= λ xs. Some (done ++ xs)

step : (xs : List Argument) (i : ℕ) (a : Argument) → i < length xs → a ≡ get_or xs i a → scalar_arguments (arguments_of (drop i xs))
    ≡ (scalar_argument (argument_of a).kind (argument_of a).datum >>= λ x. scalar_arguments (arguments_of (drop (suc i) xs)) >>= λ ys. Some (x ∷ ys))
step [] i a h e = absurd (omega arith)
step (x ∷ xs) zero a h e = ap (λ (a : Argument). scalar_argument (argument_of a).kind (argument_of a).datum >>= λ x. scalar_arguments (arguments_of xs) >>= λ ys. Some (x ∷ ys)) (sym e)
step (x ∷ xs) (suc i) a h e = step xs i a (omega arith) e

joined : (done : List (Scalar × Value)) (x : Scalar × Value) (o : Option (List (Scalar × Value))) → scalars_on (done ++ x ∷ []) o ≡ scalars_on done (o >>= λ ys. Some (x ∷ ys))
joined done x None = refl
joined done x (Some ys) = ap Some (append_assoc done (x ∷ []) ys)

pub scalars_next : (done more : List (Scalar × Value)) (xs : List Argument) (i j : ℕ) (a : Argument) (x : Scalar × Value) → i < length xs → a ≡ get_or xs i a → j ≡ suc i → Some x ≡ scalar_argument (argument_of a).kind (argument_of a).datum → more ≡ done ++ x ∷ []
    → scalars_on done (scalar_arguments (arguments_of (drop i xs))) ≡ scalar_arguments (arguments_of xs) → scalars_on more (scalar_arguments (arguments_of (drop j xs))) ≡ scalar_arguments (arguments_of xs)
scalars_next done more xs i j a x h e next one all same =
    ap (λ j. scalars_on more (scalar_arguments (arguments_of (drop j xs)))) next
    ∙ (ap (λ ds. scalars_on ds (scalar_arguments (arguments_of (drop (suc i) xs)))) all
    ∙ (joined done x (scalar_arguments (arguments_of (drop (suc i) xs)))
    ∙ (ap (λ o. scalars_on done (o >>= λ x. scalar_arguments (arguments_of (drop (suc i) xs)) >>= λ ys. Some (x ∷ ys))) one
    ∙ (ap (scalars_on done) (sym (step xs i a h e)) ∙ same))))

pub scalars_nothing : (done : List (Scalar × Value)) (xs : List Argument) (i : ℕ) (a : Argument) → i < length xs → a ≡ get_or xs i a → None ≡ scalar_argument (argument_of a).kind (argument_of a).datum
    → scalars_on done (scalar_arguments (arguments_of (drop i xs))) ≡ scalar_arguments (arguments_of xs) → None ≡ scalar_arguments (arguments_of xs)
scalars_nothing done xs i a h e one same =
    ap (λ o. scalars_on done (o >>= λ x. scalar_arguments (arguments_of (drop (suc i) xs)) >>= λ ys. Some (x ∷ ys))) one ∙ (ap (scalars_on done) (sym (step xs i a h e)) ∙ same)

none_left : (xs : List Argument) (i : ℕ) → length xs ≤ i → drop i xs ≡ []
none_left [] zero h = refl
none_left [] (suc i) h = refl
none_left (x ∷ xs) zero h = absurd (omega arith)
none_left (x ∷ xs) (suc i) h = none_left xs i (omega arith)

pub scalars_all : (done : List (Scalar × Value)) (xs : List Argument) (i : ℕ) → length xs ≤ i → scalars_on done (scalar_arguments (arguments_of (drop i xs))) ≡ scalar_arguments (arguments_of xs) → Some done ≡ scalar_arguments (arguments_of xs)
scalars_all done xs i h same = ap Some (sym (append-nil done)) ∙ (ap (λ ys. scalars_on done (scalar_arguments (arguments_of ys))) (sym (none_left xs i h)) ∙ same)
