-- The search, the trail to a link and the leftmost path, one node at a time.
use Rattle.std.specs.Prelude.{◌≡◌, List, [], ◌∷◌, true, false, cond, eqb}
use Rattle.std.proofs.Math.Path.{refl}
use borrow.Author.Tests.{eq-eqb, ne_eqb}
use native.Mathlib.Omega.{arith}
use Prim.Native.Nat.{ℕ, zero, suc, ◌-◌}
use Rattle.datatypes.specs.declared.Side.TheVariants.{L}
use Rattle.datatypes.specs.declared.Link.{Link}
use Rattle.datatypes.specs.declared.Link.TheVariants.{Left}
use Rattle.datatypes.specs.declared.Place.TheVariants.{Held, Empty, TooDeep}
use Rattle.datatypes.specs.Side.{link_at}
use Rattle.spec.specs.Pool.{word, child, key_word}
use Rattle.spec.specs.Search.{towards, seek, same_link, trail, leftmost}

pub seek-empty : (p : List ℕ) (k a : ℕ) (l : Link) (n : ℕ) → n ≡ 0 → seek p k a l n ≡ Empty l
unfolding seek
seek-empty p k zero l n e = rw (eq-eqb n 0 e)
seek-empty p k (suc a) l n e = rw (eq-eqb n 0 e)

pub seek-deep : (p : List ℕ) (k a : ℕ) (l : Link) (n : ℕ) → (n ≡ 0 → ⊥) → a ≡ 0 → seek p k a l n ≡ TooDeep
unfolding seek
seek-deep p k zero l n d e = rw (ne_eqb n 0 d)
seek-deep p k (suc a) l n d e = absurd (let z : ⊥ = omega arith in z)

pub seek-step : (p : List ℕ) (k a : ℕ) (l : Link) (n : ℕ) → (n ≡ 0 → ⊥) → (a ≡ 0 → ⊥)
    → seek p k a l n ≡ cond (eqb k (word p n key_word)) (Held l n) (seek p k (a - 1) (link_at (towards p k n) n) (child p (towards p k n) n))
unfolding seek
seek-step p k zero l n d f = absurd (f refl)
seek-step p k (suc a) l n d f =
    let e : suc a - 1 ≡ a = omega arith in
    rw (ne_eqb n 0 d, e)

-- The trail.
module _ (p : List ℕ) (k : ℕ) (t : Link) (l : Link) (n : ℕ) (up : List Link) where
  pub trail-here : (a : ℕ) → same_link l t ≡ true → trail p k t a l n up ≡ l ∷ up
  unfolding trail
  trail-here zero e = rw e
  trail-here (suc a) e = rw e

  pub trail-end : (a : ℕ) → same_link l t ≡ false → n ≡ 0 → trail p k t a l n up ≡ []
  unfolding trail
  trail-end zero e z = rw e
  trail-end (suc a) e z = rw (e, eq-eqb n 0 z)

  pub trail-deep : (a : ℕ) → same_link l t ≡ false → a ≡ 0 → trail p k t a l n up ≡ []
  unfolding trail
  trail-deep zero e z = rw e
  trail-deep (suc a) e z = absurd (let f : ⊥ = omega arith in f)

  pub trail-step : (a b : ℕ) → same_link l t ≡ false → (n ≡ 0 → ⊥) → a ≡ suc b
      → trail p k t a l n up ≡ trail p k t b (link_at (towards p k n) n) (child p (towards p k n) n) (l ∷ up)
  unfolding trail
  trail-step zero b e d z = absurd (let f : ⊥ = omega arith in f)
  trail-step (suc a) b e d z =
      let i : a ≡ b = omega arith in
      rw (e, ne_eqb n 0 d, i)

-- The leftmost path.
module _ (p : List ℕ) (n : ℕ) (up : List Link) where
  pub leftmost-deep : (a : ℕ) → a ≡ 0 → leftmost p a n up ≡ []
  unfolding leftmost
  leftmost-deep zero z = refl
  leftmost-deep (suc a) z = absurd (let f : ⊥ = omega arith in f)

  pub leftmost-here : (a : ℕ) → (a ≡ 0 → ⊥) → child p L n ≡ 0 → leftmost p a n up ≡ up
  unfolding leftmost
  leftmost-here zero d z = absurd (d refl)
  leftmost-here (suc a) d z = rw (eq-eqb (child p L n) 0 z)

  pub leftmost-step : (a b : ℕ) → a ≡ suc b → (child p L n ≡ 0 → ⊥) → leftmost p a n up ≡ leftmost p b (child p L n) (Left n ∷ up)
  unfolding leftmost
  leftmost-step zero b z d = absurd (let f : ⊥ = omega arith in f)
  leftmost-step (suc a) b z d =
      let i : a ≡ b = omega arith in
      rw (ne_eqb (child p L n) 0 d, i)
