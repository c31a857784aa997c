-- Device: the texts of the host's functions differ.
use Rattle.std.proofs.Common.{◌≡◌, ◌≢◌, ℕ, true, cond, List, [], ◌∷◌, map, Some, None, ◌↔◌, refl, sym, ap, ◌∙◌}
use Rattle.std.specs.Str.{bytes_eq}
use Rattle.std.proofs.lemmas.Option.{none-some}
use Rattle.cil_base.specs.HostNames.{called_names, is_host_name}
use Rattle.host_calls.specs.declared.names.HostName.{HostName}
use Rattle.host_calls.specs.declared.names.HostName.TheVariants.{Getchar, Putchar, Exit, Abort, Malloc, Free, Memset}
use Rattle.host_calls.specs.Host.{text_of}

-- each row has a name of the host, and each name whose calls have a meaning has a row
pub rows_have_host_names : (r : HostName) → is_host_name (text_of r) ≡ true
rows_have_host_names Getchar = refl
rows_have_host_names Putchar = refl
rows_have_host_names Exit = refl
rows_have_host_names Abort = refl
rows_have_host_names Malloc = refl
rows_have_host_names Free = refl
rows_have_host_names Memset = refl

pub called_names_have_rows : map text_of (Getchar ∷ Putchar ∷ Exit ∷ Abort ∷ Malloc ∷ Free ∷ Memset ∷ []) ≡ called_names
called_names_have_rows = refl

-- the function whose text it is
abbrev named : List ℕ → HostName
named text =
    cond (bytes_eq text (text_of Getchar)) Getchar
    (cond (bytes_eq text (text_of Putchar)) Putchar
    (cond (bytes_eq text (text_of Exit)) Exit
    (cond (bytes_eq text (text_of Abort)) Abort (cond (bytes_eq text (text_of Malloc)) Malloc (cond (bytes_eq text (text_of Free)) Free Memset)))))

named-text_of : (r : HostName) → named (text_of r) ≡ r
named-text_of Getchar = refl
named-text_of Putchar = refl
named-text_of Exit = refl
named-text_of Abort = refl
named-text_of Malloc = refl
named-text_of Free = refl
named-text_of Memset = refl

some_same : (r q : HostName) → Some r ≡ Some q → r ≡ q
some_same r q e = cc

pub row_is : (text : List ℕ) (r : HostName) → text ≡ text_of r → (q : HostName) → (Some r ≡ Some q) ↔ (text ≡ text_of q)
row_is text r e q = (λ d. e ∙ ap text_of (some_same r q d), λ d. ap Some (sym (named-text_of r) ∙ ap named (sym e ∙ d) ∙ named-text_of q))

pub none_is : (text : List ℕ) → text ≢ text_of Getchar → text ≢ text_of Putchar → text ≢ text_of Exit → text ≢ text_of Abort → text ≢ text_of Malloc → text ≢ text_of Free → text ≢ text_of Memset
    → (q : HostName) → (None ≡ Some q) ↔ (text ≡ text_of q)
none_is text a b c d e f g q = (λ h. absurd (none-some q h), λ h. absurd (at q h))
  where
    at : (q : HostName) → text ≡ text_of q → ⊥
    at Getchar h = a h
    at Putchar h = b h
    at Exit h = c h
    at Abort h = d h
    at Malloc h = e h
    at Free h = f h
    at Memset h = g h
