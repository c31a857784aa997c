-- Device: the function of the host with a name is found among all.
use Rattle.std.proofs.Common.{◌≡◌, ◌↔◌, Bool, true, false, List, [], ◌∷◌, ℕ, Option, Some, None, refl, sym, ap, ◌∙◌}
use Rattle.std.specs.Str.{bytes_eq}
use Rattle.std.proofs.lemmas.Slice.Eq.{bytes_eq-Decides}
use Rattle.byte_mem.specs.Steps.{only_if}
use Rattle.host_calls.specs.declared.names.HostName.{HostName}
use Rattle.host_calls.specs.declared.names.HostName.TheVariants.{Getchar, Putchar, Exit, Abort, Malloc, Free, Memset}
use Rattle.host_calls.specs.Host.{text_of}
use Rattle.execution.specs.Linking.{first_of, host_names, named_among}

found : (hs : List HostName) (name : List ℕ) (h : HostName) → named_among hs name ≡ Some h → name ≡ text_of h
found [] name h e = cc
found (k ∷ hs) name h e = by (bytes_eq name (text_of k)) refl e (found hs name h)
  where
    by : (b : Bool) → bytes_eq name (text_of k) ≡ b → first_of (only_if b k) (named_among hs name) ≡ Some h → (named_among hs name ≡ Some h → name ≡ text_of h) → name ≡ text_of h
    by true s q rest = let same : k ≡ h = cc in (bytes_eq-Decides name (text_of k)).0 s ∙ ap text_of same
    by false s q rest = rest q

each_found : (h : HostName) → named_among host_names (text_of h) ≡ Some h
each_found h = elim h as (λ k. named_among host_names (text_of k) ≡ Some k) [ Getchar ↦ refl | Putchar ↦ refl | Exit ↦ refl | Abort ↦ refl | Malloc ↦ refl | Free ↦ refl | Memset ↦ refl ]

pub named_is : (o : Option HostName) (name : List ℕ) → ((h : HostName) → (o ≡ Some h) ↔ (name ≡ text_of h)) → o ≡ named_among host_names name
named_is None name is = by (named_among host_names name) refl
  where
    by : (o : Option HostName) → named_among host_names name ≡ o → None ≡ o
    by None e = refl
    by (Some h) e = let wrong : None ≡ Some h = (is h).1 (found host_names name h e) in wrong
named_is (Some h) name is = sym (ap (named_among host_names) ((is h).0 refl) ∙ each_found h)
