-- The most links of a path; the descent by a key, with the links still allowed in place of the nodes.
use Rattle.std.specs.Prelude.{◌≡◌, refl, List, [], ◌∷◌, true, false, ℕ, zero, suc, ◌+◌}
use Rattle.std.proofs.Common.{arith}
use Rattle.datatypes.specs.declared.Link.{Link}
use Rattle.datatypes.specs.Side.{link_at}
use Rattle.spec.specs.Numbers.{path_bound}
use Rattle.spec.specs.Pool.{child}
use Rattle.spec.specs.Search.{towards, same_link, trail}
use Rattle.laws.specs.Descend.{trail-here, trail-end, trail-deep, trail-step}

-- the most links of a path: of 64 nodes one more, and the right link below it
abbrev pub most_links : ℕ
most_links = path_bound + 2

-- The descent by the key k to the link t from the link l, which holds node n, with so many links still allowed, l with them.
abbrev pub further : List ℕ → ℕ → Link → ℕ → Link → ℕ → List Link → List Link
further p k t zero l n up = []
further p k t (suc a) l n up = trail p k t a l n up

module _ (p : List ℕ) (k : ℕ) (t : Link) (l : Link) (n : ℕ) (up : List Link) where
  pub further_here : (a : ℕ) → (a ≡ 0 → ⊥) → same_link l t ≡ true → further p k t a l n up ≡ l ∷ up
  further_here zero d e = absurd (d refl)
  further_here (suc a) d e = trail-here p k t l n up a e

  pub further_end : (a : ℕ) → same_link l t ≡ false → n ≡ 0 → further p k t a l n up ≡ []
  further_end zero e z = refl
  further_end (suc a) e z = trail-end p k t l n up a e z

  pub further_none : (a : ℕ) → a ≡ 0 → further p k t a l n up ≡ []
  further_none zero z = refl
  further_none (suc a) z = absurd (let f : ⊥ = omega arith in f)

  pub further_step : (a b : ℕ) → same_link l t ≡ false → (n ≡ 0 → ⊥) → a ≡ suc b
      → further p k t a l n up ≡ further p k t b (link_at (towards p k n) n) (child p (towards p k n) n) (l ∷ up)
  further_step zero b e d z = absurd (let f : ⊥ = omega arith in f)
  further_step (suc zero) zero e d z = trail-deep p k t l n up 0 e refl
  further_step (suc zero) (suc b) e d z = absurd (let f : ⊥ = omega arith in f)
  further_step (suc (suc a)) zero e d z = absurd (let f : ⊥ = omega arith in f)
  further_step (suc (suc a)) (suc b) e d z =
      let i : a ≡ b = omega arith in
      rw i (trail-step p k t l n up (suc b) b e d refl)
