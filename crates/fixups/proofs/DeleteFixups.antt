-- The delete fix-up along any path, one level at a time. Nothing cites it; it says what a level does.
use Rattle.std.specs.Prelude.{◌≡◌, refl, List, [], ◌∷◌, true, false, drop, length, ℕ, zero, suc, ◌+◌, ◌≤◌}
use Rattle.std.proofs.Common.{eq-eqb, ne_eqb, arith}
use Rattle.datatypes.specs.declared.Link.{Link}
use Rattle.datatypes.specs.declared.Ending.TheVariants.{Balanced, Blacken, Rotate, Missing}
use Rattle.datatypes.specs.Side.{other, owner, side_of}
use Rattle.spec.specs.Pool.{child, is_red, paint, red_colour}
use Rattle.spec.specs.Plan.{fixup_result, delete_fixup, red_sibling, red_child, black_sibling as black_sibling_of, paint_delete_levels}
use Rattle.fixups.specs.Levels.{delete_fixup_red, paint_delete_levels_level}
use Rattle.fixups.proofs.InsertFixups.{link_in}

module _ (p : List ℕ) (m x : ℕ) (path : List Link) where
  pub delete_fixup-red : is_red p x ≡ true → delete_fixup p m x path ≡ fixup_result m Blacken
  delete_fixup-red = delete_fixup_red p m x path

  abbrev pub sibling : ℕ
  sibling = child p (other (side_of (link_in path 0))) (owner (link_in path 0))

-- a path of no link; one of the root's link alone
pub delete_fixup-none : (p : List ℕ) (m x : ℕ) (path : List Link) → is_red p x ≡ false → length path ≡ 0 → delete_fixup p m x path ≡ fixup_result m Missing
unfolding delete_fixup
delete_fixup-none p m x [] e z = rw e
delete_fixup-none p m x (l ∷ up) e z = absurd (let f : ⊥ = omega arith in f)

pub delete_fixup-root : (p : List ℕ) (m x : ℕ) (path : List Link) → is_red p x ≡ false → length path ≡ 1 → delete_fixup p m x path ≡ fixup_result m Balanced
unfolding delete_fixup
delete_fixup-root p m x [] e z = absurd (let f : ⊥ = omega arith in f)
delete_fixup-root p m x (l ∷ []) e z = rw e
delete_fixup-root p m x (l ∷ above ∷ up) e z = absurd (let f : ⊥ = omega arith in f)

-- no sibling; a red one; a black one with a red child; a black one without
pub delete_fixup-missing : (p : List ℕ) (m x : ℕ) (path : List Link) → is_red p x ≡ false → 2 ≤ length path → sibling p m x path ≡ 0
    → delete_fixup p m x path ≡ fixup_result m Missing
unfolding delete_fixup
delete_fixup-missing p m x [] e h z = absurd (let f : ⊥ = omega arith in f)
delete_fixup-missing p m x (l ∷ []) e h z = absurd (let f : ⊥ = omega arith in f)
delete_fixup-missing p m x (l ∷ above ∷ up) e h z = rw (e, eq-eqb (sibling p m x (l ∷ above ∷ up)) 0 z)

pub delete_fixup-sibling : (p : List ℕ) (m x : ℕ) (path : List Link) → is_red p x ≡ false → 2 ≤ length path
    → (sibling p m x path ≡ 0 → ⊥) → is_red p (sibling p m x path) ≡ true
    → delete_fixup p m x path ≡ fixup_result m (red_sibling p (link_in path 1) (other (side_of (link_in path 0))) (sibling p m x path))
unfolding delete_fixup
delete_fixup-sibling p m x [] e h d r = absurd (let f : ⊥ = omega arith in f)
delete_fixup-sibling p m x (l ∷ []) e h d r = absurd (let f : ⊥ = omega arith in f)
delete_fixup-sibling p m x (l ∷ above ∷ up) e h d r = rw (e, ne_eqb (sibling p m x (l ∷ above ∷ up)) 0 d, r)

pub delete_fixup-black_sibling : (p : List ℕ) (m x : ℕ) (path : List Link) → is_red p x ≡ false → 2 ≤ length path
    → (sibling p m x path ≡ 0 → ⊥) → is_red p (sibling p m x path) ≡ false → red_child p (sibling p m x path) ≡ true
    → delete_fixup p m x path ≡ fixup_result m (Rotate (black_sibling_of p (link_in path 1) (other (side_of (link_in path 0))) (sibling p m x path)))
unfolding delete_fixup
delete_fixup-black_sibling p m x [] e h d r t = absurd (let f : ⊥ = omega arith in f)
delete_fixup-black_sibling p m x (l ∷ []) e h d r t = absurd (let f : ⊥ = omega arith in f)
delete_fixup-black_sibling p m x (l ∷ above ∷ up) e h d r t = rw (e, ne_eqb (sibling p m x (l ∷ above ∷ up)) 0 d, r, t)

pub delete_fixup-on : (p : List ℕ) (m x : ℕ) (path : List Link) → is_red p x ≡ false → 2 ≤ length path
    → (sibling p m x path ≡ 0 → ⊥) → is_red p (sibling p m x path) ≡ false → red_child p (sibling p m x path) ≡ false
    → delete_fixup p m x path ≡ delete_fixup p (m + 1) (owner (link_in path 0)) (drop 1 path)
unfolding delete_fixup
delete_fixup-on p m x [] e h d r t = absurd (let z : ⊥ = omega arith in z)
delete_fixup-on p m x (l ∷ []) e h d r t = absurd (let z : ⊥ = omega arith in z)
delete_fixup-on p m x (l ∷ above ∷ up) e h d r t = rw (e, ne_eqb (sibling p m x (l ∷ above ∷ up)) 0 d, r, t)

-- the colours of no level, past a path's end, and of one level
pub paint-delete_fixup-done : (m : ℕ) (path : List Link) (p : List ℕ) → m ≡ 0 → paint_delete_levels m path p ≡ p
unfolding paint_delete_levels
paint-delete_fixup-done zero path p e = refl
paint-delete_fixup-done (suc m) path p e = absurd (let z : ⊥ = omega arith in z)

pub paint-delete_fixup-out : (m : ℕ) (p : List ℕ) (path : List Link) → length path ≡ 0 → paint_delete_levels m path p ≡ p
unfolding paint_delete_levels
paint-delete_fixup-out zero p path h = refl
paint-delete_fixup-out (suc m) p [] h = refl
paint-delete_fixup-out (suc m) p (l ∷ up) h = absurd (let z : ⊥ = omega arith in z)

pub paint-delete_fixup-level : (m n : ℕ) (p : List ℕ) (path : List Link) → m ≡ suc n → 1 ≤ length path
    → paint_delete_levels m path p ≡ paint_delete_levels n (drop 1 path) (paint p (child p (other (side_of (link_in path 0))) (owner (link_in path 0))) red_colour)
paint-delete_fixup-level m n p [] e h = absurd (let z : ⊥ = omega arith in z)
paint-delete_fixup-level m n p (l ∷ up) e h = paint_delete_levels_level m n l up p (omega arith)
