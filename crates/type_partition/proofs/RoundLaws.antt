-- Device: classes are split by the numbers of parts until none splits.
use Rattle.std.proofs.Common.{◌≡◌, inl, inr, ℕ, zero, suc, ◌+◌, ◌<◌, ◌≤◌, Bool, true, List, [], ◌∷◌, refl, sym, ap, ◌∙◌, arith}
use Rattle.type_things.proofs.NumberLaws.{less_or}
use Rattle.type_things.specs.Things.{Thing, AllHeld, read, IsLocal}
use Rattle.type_partition.specs.Partition.{AreNumbers}
use Rattle.type_things.specs.Webs.{AllBelow, IsWeb}
use Rattle.type_partition.specs.Rounds.{AreRead, AreSplit, IsCoarse}

module _ {H L : Type 0} (ts : List (Thing H L)) (m : ℕ) where
  held_read : (R : ℕ → ℕ → Bool) (num : ℕ → ℕ) (k : ℕ) (ps qs : List (L × ℕ)) → ((x y : ℕ) → x < k → y < k → R x y ≡ true → num x ≡ num y) → AllBelow k ps → AllBelow k qs → AllHeld R ps qs → read num ps ≡ read num qs
  held_read R num k [] [] w a b h = refl
  held_read R num k [] (q ∷ qs) w a b h = absurd h
  held_read R num k (p ∷ ps) [] w a b h = absurd h
  held_read R num k (p ∷ ps) (q ∷ qs) w a b h =
      ap (λ z. (z, num p.1) ∷ read num ps) h.0
      ∙ ap (λ z. (q.0, z) ∷ read num ps) (elim h.1 [ inl e ↦ ap num e | inr e ↦ w p.1 q.1 a.0 b.0 e ])
      ∙ ap (λ z. (q.0, num q.1) ∷ z) (held_read R num k ps qs w a.1 b.1 h.2)

  below_more : (k j : ℕ) (ps : List (L × ℕ)) → k ≤ j → AllBelow k ps → AllBelow j ps
  below_more k j [] h a = tt
  below_more k j (p ∷ ps) h a = (omega (arith, h, a.0), below_more k j ps h a.1)

  -- numbers hold what a local relation holds, where classes do
  pub coarse_below : IsWeb ts m → (R : ℕ → ℕ → Bool) (c num : ℕ → ℕ) → IsLocal ts R → AreRead ts m c num → IsCoarse m R c → (k x y : ℕ) → x < k → y < k → R x y ≡ true → num x ≡ num y
  coarse_below web R c num local read coarse zero x y hx hy e = absurd (omega (arith, hx))
  coarse_below web R c num local read coarse (suc k) x y hx hy e = elim (less_or x m) [
    | inl a ↦ read.classes x a ∙ coarse x y a (web.sorted x y (local x y e).heads a) e ∙ sym (read.classes y (web.sorted x y (local x y e).heads a))
    | inr a ↦ elim (less_or y m) [
      | inl b ↦ (let bad = web.sorted y x (sym (local x y e).heads) b in absurd (omega (arith, a, bad)))
      | inr b ↦ (let t = local x y e in read.twins x y a b (record {
        heads = t.heads;
        left = t.left;
        right = t.right;
        inside_left = t.inside_left;
        inside_right = t.inside_right;
        parts = held_read R num k t.left t.right (coarse_below web R c num local read coarse k)
            (below_more x k t.left (omega (arith, hx)) (web.grounded x t.left a t.inside_left))
            (below_more y k t.right (omega (arith, hy)) (web.grounded y t.right b t.inside_right)) t.parts;
      }))
    ]
  ]

  pub coarse_all : IsWeb ts m → (R : ℕ → ℕ → Bool) (c num : ℕ → ℕ) → IsLocal ts R → AreRead ts m c num → IsCoarse m R c → (x y : ℕ) → R x y ≡ true → num x ≡ num y
  coarse_all web R c num local read coarse x y e = coarse_below web R c num local read coarse (suc (x + y)) x y (omega arith) (omega arith) e

  held_all : (R : ℕ → ℕ → Bool) (num : ℕ → ℕ) (ps qs : List (L × ℕ)) → ((x y : ℕ) → R x y ≡ true → num x ≡ num y) → AllHeld R ps qs → read num ps ≡ read num qs
  held_all R num [] [] w h = refl
  held_all R num [] (q ∷ qs) w h = absurd h
  held_all R num (p ∷ ps) [] w h = absurd h
  held_all R num (p ∷ ps) (q ∷ qs) w h =
      ap (λ z. (z, num p.1) ∷ read num ps) h.0
      ∙ ap (λ z. (q.0, z) ∷ read num ps) (elim h.1 [ inl e ↦ ap num e | inr e ↦ w p.1 q.1 e ])
      ∙ ap (λ z. (q.0, num q.1) ∷ z) (held_all R num ps qs w h.2)

  pub coarse_next : IsWeb ts m → (R : ℕ → ℕ → Bool) (c num d : ℕ → ℕ) → IsLocal ts R → AreRead ts m c num → AreSplit ts m num d → IsCoarse m R c → IsCoarse m R d
  coarse_next web R c num d local read split coarse x y hx hy e =
      let t = local x y e in
      split.twins x y hx hy (record { heads = t.heads; left = t.left; right = t.right; inside_left = t.inside_left; inside_right = t.inside_right; parts = held_all R num t.left t.right (coarse_all web R c num local read coarse) t.parts })

  -- classes that are not split any more
  pub settled : IsWeb ts m → (c num d : ℕ → ℕ) → ((R : ℕ → ℕ → Bool) → IsLocal ts R → IsCoarse m R c) → AreRead ts m c num → AreSplit ts m num d → ((x : ℕ) → x < m → d x ≡ c x) → AreNumbers ts num
  settled web c num d coarse read split same = record {
    alike = λ x y e. elim (less_or x m) [
      | inl a ↦ elim (less_or y m) [
        | inl b ↦ split.alike x y a b (same x a ∙ sym (read.classes x a) ∙ e ∙ read.classes y b ∙ sym (same y b))
        | inr b ↦ absurd (read.apart x y a b e)
      ]
      | inr a ↦ elim (less_or y m) [
        | inl b ↦ absurd (read.apart y x b a (sym e))
        | inr b ↦ read.alike x y a b e
      ]
    ];
    coarse = λ x y h. elim h [ inl e ↦ ap num e | inr f ↦ coarse_all web f.0 c num f.1 read (coarse f.0 f.1) x y f.2 ];
  }
