-- Device: what is said of the bytes that are read of a file holds of all of them, also where there are too many.
use Rattle.std.proofs.Common.{◌≡◌, ℕ, ◌<◌, ◌≤◌, List, [], ◌++◌, length, ◌⊎◌, inl, inr, sym, ap, subst, ◌∙◌, arith, Option, Some, None, IfSome, append-nil, length-append, lt-ltb, cond}
use Rattle.cil_base.specs.Limits.{text_bytes}
use Rattle.cil_base.specs.declared.kinds.Abi.TheVariants.{Lp64}
use Rattle.cil_tree.specs.LaidOut.{bad_place, first_bad, lines_from}
use Rattle.cil_reader.specs.Stops.{IsNoText}
use Rattle.cil_sources.specs.Files.{IsFrontOf}
use Rattle.cil_commands.specs.Execute.{Ran, RunSays}
use Rattle.cil_lines.specs.declared.status.Status.{Status}
use Rattle.cil_lines.specs.declared.status.Status.TheVariants.{Done, Exited, StillRunning, WentUndefined, Usage, Refused, NotCil, ReadFault, WriteFault, Memory}

-- too many bytes are no text, and are refused at the limit
pub too_long : (bytes : List ℕ) → text_bytes < length bytes → (text_bytes ≡ bad_place bytes) × IsNoText Lp64 bytes
too_long bytes long = (
  ap (λ long_one. cond long_one text_bytes (first_bad 0 0 (lines_from [] bytes))) (sym (lt-ltb text_bytes (length bytes) long)),
  λ p own is. absurd (omega (arith, long, is.short)),
)

-- below the limit the whole file was read
all_read : (bytes file : List ℕ) → IsFrontOf 268435457 bytes file → length bytes ≤ text_bytes → file ≡ bytes
all_read bytes file front short = front.parts ∙ (ap (λ rest. bytes ++ rest) (front.end (omega arith)) ∙ append-nil bytes)

at_least : (bytes file : List ℕ) → IsFrontOf 268435457 bytes file → length bytes ≤ length file
at_least bytes file front = omega (arith, ap length front.parts, length-append bytes front.rest)

refused_front : (bytes file : List ℕ) (byte : ℕ) → IsFrontOf 268435457 bytes file → byte ≡ bad_place bytes → IsNoText Lp64 bytes → (length bytes ≤ text_bytes) ⊎ (text_bytes < length bytes) → (byte ≡ bad_place file) × IsNoText Lp64 file
refused_front bytes file byte front place none (inl short) = subst (λ bs. (byte ≡ bad_place bs) × IsNoText Lp64 bs) (sym (all_read bytes file front short)) (place, none)
refused_front bytes file byte front place none (inr long) =
    let file_long = too_long file (omega (arith, at_least bytes file front)) in
    (place ∙ (sym (too_long bytes long).0 ∙ file_long.0), file_long.1)

-- bytes that are refused are refused where they are read of a file
refused_of_front : (bytes file : List ℕ) (byte : ℕ) → IsFrontOf 268435457 bytes file → byte ≡ bad_place bytes → IsNoText Lp64 bytes → (byte ≡ bad_place file) × IsNoText Lp64 file
refused_of_front bytes file byte front place none = refused_front bytes file byte front place none (cases (length bytes) text_bytes)
  where
    cases : (m n : ℕ) → (m ≤ n) ⊎ (n < m)
    cases m n = grind arith

refused_asked : (asked : Option (List ℕ)) (bytes : List ℕ) (byte : ℕ) → IfSome asked (IsFrontOf 268435457 bytes) → (byte ≡ bad_place bytes) × IsNoText Lp64 bytes → IfSome asked (λ file. (byte ≡ bad_place file) × IsNoText Lp64 file)
refused_asked None bytes byte front says = tt
refused_asked (Some file) bytes byte front says = refused_of_front bytes file byte front says.0 says.1

-- a program whose text was read is that of the whole file
is_file : (asked : Option (List ℕ)) (bytes text : List ℕ) → IfSome asked (IsFrontOf 268435457 bytes) → bytes ≡ text → length text ≤ text_bytes → IfSome asked (λ file. file ≡ text)
is_file None bytes text front same short = tt
is_file (Some file) bytes text front same short = all_read bytes file front (subst (λ bs. length bs ≤ text_bytes) (sym same) short) ∙ same

ran_file : (asked : Option (List ℕ)) (bytes : List ℕ) (words : List (List ℕ)) (steps : ℕ) (status : Status) (left left' taken taken' : Option (List ℕ)) → IfSome asked (IsFrontOf 268435457 bytes)
    → Ran (Some bytes) words steps status left left' taken taken' → Ran asked words steps status left left' taken taken'
ran_file asked bytes words steps status left left' taken taken' front ran = record {
  program = ran.program;
  bytes = ran.bytes;
  file = is_file asked bytes ran.bytes front ran.file ran.text.short;
  model = ran.model;
  text = ran.text;
  run = ran.run;
}

-- of a file that may not be told
pub says_file : (idle unread failed failed' : Type 0) (asked : Option (List ℕ)) (bytes : List ℕ) (words : List (List ℕ)) (steps : ℕ) (status : Status) (left left' taken taken' : Option (List ℕ)) → IfSome asked (IsFrontOf 268435457 bytes) → (failed → failed')
    → RunSays idle ⊥ failed (Some bytes) words steps status left left' taken taken' → RunSays idle unread failed' asked words steps status left left' taken taken'
says_file idle unread failed failed' asked bytes words steps (Exited s) left left' taken taken' front carry says = ran_file asked bytes words steps (Exited s) left left' taken taken' front says
says_file idle unread failed failed' asked bytes words steps StillRunning left left' taken taken' front carry says = ran_file asked bytes words steps StillRunning left left' taken taken' front says
says_file idle unread failed failed' asked bytes words steps WentUndefined left left' taken taken' front carry says = ran_file asked bytes words steps WentUndefined left left' taken taken' front says
says_file idle unread failed failed' asked bytes words steps (NotCil k) left left' taken taken' front carry says = (says.0, refused_asked asked bytes k front says.1)
says_file idle unread failed failed' asked bytes words steps ReadFault left left' taken taken' front carry (inl says) = absurd says.0
says_file idle unread failed failed' asked bytes words steps ReadFault left left' taken taken' front carry (inr says) = inr (carry says.0, ran_file asked bytes words steps ReadFault left left' taken taken' front says.1)
says_file idle unread failed failed' asked bytes words steps WriteFault left left' taken taken' front carry says = ran_file asked bytes words steps WriteFault left left' taken taken' front says
says_file idle unread failed failed' asked bytes words steps Memory left left' taken taken' front carry (inl says) = inl says
says_file idle unread failed failed' asked bytes words steps Memory left left' taken taken' front carry (inr says) = inr (ran_file asked bytes words steps Memory left left' taken taken' front says)
says_file idle unread failed failed' asked bytes words steps Done left left' taken taken' front carry says = absurd says
says_file idle unread failed failed' asked bytes words steps Usage left left' taken taken' front carry says = absurd says
says_file idle unread failed failed' asked bytes words steps (Refused r) left left' taken taken' front carry says = absurd says
