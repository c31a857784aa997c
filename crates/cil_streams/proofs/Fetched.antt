-- The ways in which a getchar over a source ends.
use Rattle.std.proofs.Common.{◌≡◌, ℕ, inl, inr, Bool, true, false, List, [], ◌∷◌, ◌++◌, Option, Ok, Err, refl, ap, sym, ◌∙◌}
use Rattle.std.proofs.lemmas.List.{append-nil}
use Rattle.byte_mem.specs.declared.values.Value as values
use Rattle.host_calls.specs.declared.calls.Io.{Io}
use Rattle.outside.specs.Moves.{Wrote, Began}
use Rattle.execution.specs.Calls.{behind_first}
use Rattle.cil_streams.specs.declared.ends.HostEnd.TheVariants.{Value, ReadFault, WriteFault}
use Rattle.cil_streams.specs.Held.{AheadState, held_by}
use Rattle.cil_streams.specs.Fetching.{character, ended_by, ended_after, Fills, Fetches}
use Rattle.cil_streams.proofs.Means.{none_read, none_wrote}

-- nothing was read, since a byte is at hand or the source has given its end
ended_still : (bytes : List ℕ) (ended : Bool) → ((bytes ≡ []) × (ended ≡ false) → ⊥) → ended ≡ ended_after bytes ended
ended_still [] true some = refl
ended_still [] false some = absurd (some (refl, refl))
ended_still (b ∷ bytes) ended some = refl

-- a source gives its end where it gives nothing
none_by : (bytes : List ℕ) → ended_by bytes ≡ true → bytes ≡ []
none_by [] e = refl
none_by (b ∷ bytes) e = absurd (cc)

ended_after_more : (bytes : List ℕ) → ended_by bytes ≡ ended_after bytes false
ended_after_more [] = refl
ended_after_more (b ∷ bytes) = refl

not_both : (x : Bool) → x ≡ false → x ≡ true → ⊥
not_both true f t = cc
not_both false f t = cc

module _ (io : Io) (ahead : AheadState) where
  pub taken_at_hand : (v : values.Value) (ahead' : AheadState) (left taken : Option (List ℕ)) → ((ahead.unread ≡ []) × (ahead.ended ≡ false) → ⊥) → v ≡ character ahead.unread → ahead'.unread ≡ behind_first ahead.unread → ahead'.ended ≡ ahead.ended
      → Fetches (Value v) (held_by io ahead) (held_by io ahead') left left taken taken
  taken_at_hand v ahead' left taken some is unread ended = record {
    got = [];
    sent = [];
    read = none_read left left refl;
    sends = none_wrote taken taken refl;
    split = refl;
    asked = inl (refl, ended);
    stays = λ e. (ended ∙ e, refl);
    finds = λ more e. absurd (not_both ahead'.ended (ended ∙ more) e);
    live = refl;
    heap = refl;
    gives = rw (append-nil ahead.unread) (is, unread, ended ∙ ended_still ahead.unread ahead.ended some);
  }

  module _ (io' : Io) (same : io' ≡ record io { out = [] }) where
    pub not_written : (left taken taken' : Option (List ℕ)) → Began taken taken' io.out → Fetches WriteFault (held_by io ahead) (held_by io' ahead) left left taken taken'
    not_written left taken taken' began = record {
      got = [];
      sent = io.out;
      read = none_read left left refl;
      sends = began;
      split = sym (ap (λ (i : Io). io.out ++ i.out) same ∙ append-nil io.out);
      asked = inl (refl, refl);
      stays = λ e. (e, refl);
      finds = λ more e. absurd (not_both ahead.ended more e);
      live = ap (λ (i : Io). i.live) same;
      heap = ap (λ (i : Io). i.heap) same;
      gives = ap (λ (i : Io). i.out) same;
    }

    pub not_read : {A E : Type 0} (e : E) (ahead' : AheadState) (left left' taken taken' : Option (List ℕ)) → ahead.unread ≡ [] → ahead.ended ≡ false → Fills {A = A} {E = E} (Err e) ahead ahead' left left' → Wrote taken taken' io.out
        → Fetches ReadFault (held_by io ahead) (held_by io' ahead') left left' taken taken'
    not_read e ahead' left left' taken taken' none more fills wrote =
        let stays : ahead'.ended ≡ ahead.ended = ap (λ (a : AheadState). a.ended) fills.failed in
        let unread : ahead'.unread ≡ [] = ap (λ (a : AheadState). a.unread) fills.failed ∙ none in
        let got : fills.got ≡ [] = sym fills.now ∙ unread in
        record {
          got = fills.got;
          sent = io.out;
          read = fills.read;
          sends = wrote;
          split = sym (ap (λ (i : Io). io.out ++ i.out) same ∙ append-nil io.out);
          asked = inl (got, stays);
          stays = λ e. (stays ∙ e, got);
          finds = λ more e. absurd (not_both ahead'.ended (stays ∙ more) e);
          live = ap (λ (i : Io). i.live) same;
          heap = ap (λ (i : Io). i.heap) same;
          gives = (ap (λ bytes. bytes ++ fills.got) none ∙ got, unread, ap (λ (i : Io). i.out) same, stays ∙ more);
        }

    pub taken_of_read : {A E : Type 0} (x : A) (v : values.Value) (ahead₁ ahead' : AheadState) (left left' taken taken' : Option (List ℕ)) → ahead.unread ≡ [] → ahead.ended ≡ false
        → Fills {A = A} {E = E} (Ok x) ahead ahead₁ left left' → Wrote taken taken' io.out
        → v ≡ character ahead₁.unread → ahead'.unread ≡ behind_first ahead₁.unread → ahead'.ended ≡ ahead₁.ended
        → Fetches (Value v) (held_by io ahead) (held_by io' ahead') left left' taken taken'
    taken_of_read x v ahead₁ ahead' left left' taken taken' none more fills wrote is unread ended =
        let bytes : ahead.unread ++ fills.got ≡ fills.got = ap (λ bytes. bytes ++ fills.got) none in
        record {
          got = fills.got;
          sent = io.out;
          read = fills.read;
          sends = wrote;
          split = sym (ap (λ (i : Io). io.out ++ i.out) same ∙ append-nil io.out);
          asked = inr (record {
            used_up = record { none = none; more = more };
            few = fills.few;
            some = λ empty. ended ∙ (fills.filled ∙ ap ended_by empty);
            end = λ e. none_by fills.got (sym fills.filled ∙ (sym ended ∙ e));
          });
          stays = λ e. absurd (not_both ahead.ended more e);
          finds = λ more e. fills.finds (sym ended ∙ e);
          live = ap (λ (i : Io). i.live) same;
          heap = ap (λ (i : Io). i.heap) same;
          gives = rw bytes (is ∙ ap character fills.now, unread ∙ ap behind_first fills.now, ended ∙ fills.filled ∙ ended_after_more fills.got ∙ ap (ended_after fills.got) (sym more));
        }
