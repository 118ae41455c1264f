-- The insert fix-up along any path, one level at a time. Nothing cites it but DeleteFixups; it says what a level does.
use Rattle.std.specs.Prelude.{◌≡◌, refl, List, [], ◌∷◌, true, false, cond, drop, get_or, length, ℕ, zero, suc, ◌+◌, ◌<◌, ◌≤◌}
use Rattle.std.proofs.Common.{arith}
use Rattle.datatypes.specs.declared.Link.{Link}
use Rattle.datatypes.specs.declared.Link.TheVariants.{Root}
use Rattle.datatypes.specs.declared.Form.TheVariants.{Diag, Zig}
use Rattle.datatypes.specs.declared.Purpose.TheVariants.{ForInsert}
use Rattle.datatypes.specs.declared.Ending.TheVariants.{Balanced, Rotate, Missing}
use Rattle.datatypes.specs.Side.{other, same_side, owner, side_of}
use Rattle.spec.specs.Pool.{child, is_red, paint, black_colour, red_colour}
use Rattle.spec.specs.Plan.{fixup_result, rotation, insert_fixup, paint_insert_fixup}
use Rattle.fixups.specs.Levels.{insert_fixup_on, paint_insert_fixup_level}

-- the i-th link of a path, the nearest first
abbrev pub link_in : List Link → ℕ → Link
link_in path i = get_or path i Root

-- a path of no link; one of the root's link alone; a black parent; a red one under the root's link
pub insert_fixup-none : (p : List ℕ) (m : ℕ) (path : List Link) → length path ≡ 0 → insert_fixup p m path ≡ fixup_result m Missing
unfolding insert_fixup
insert_fixup-none p m [] e = refl
insert_fixup-none p m (x ∷ up) e = absurd (let z : ⊥ = omega arith in z)

pub insert_fixup-root : (p : List ℕ) (m : ℕ) (path : List Link) → length path ≡ 1 → insert_fixup p m path ≡ fixup_result m Balanced
unfolding insert_fixup
insert_fixup-root p m [] e = absurd (let z : ⊥ = omega arith in z)
insert_fixup-root p m (x ∷ []) e = refl
insert_fixup-root p m (x ∷ y ∷ up) e = absurd (let z : ⊥ = omega arith in z)

pub insert_fixup-balanced : (p : List ℕ) (m : ℕ) (path : List Link) → 2 ≤ length path → is_red p (owner (link_in path 0)) ≡ false
    → insert_fixup p m path ≡ fixup_result m Balanced
unfolding insert_fixup
insert_fixup-balanced p m [] h e = absurd (let z : ⊥ = omega arith in z)
insert_fixup-balanced p m (x ∷ []) h e = absurd (let z : ⊥ = omega arith in z)
insert_fixup-balanced p m (x ∷ y ∷ []) h e = rw e
insert_fixup-balanced p m (x ∷ y ∷ z ∷ up) h e = rw e

pub insert_fixup-top : (p : List ℕ) (m : ℕ) (path : List Link) → length path ≡ 2 → is_red p (owner (link_in path 0)) ≡ true
    → insert_fixup p m path ≡ fixup_result m Missing
unfolding insert_fixup
insert_fixup-top p m [] h e = absurd (let z : ⊥ = omega arith in z)
insert_fixup-top p m (x ∷ []) h e = absurd (let z : ⊥ = omega arith in z)
insert_fixup-top p m (x ∷ y ∷ []) h e = rw e
insert_fixup-top p m (x ∷ y ∷ z ∷ up) h e = absurd (let f : ⊥ = omega arith in f)

module _ (p : List ℕ) (m : ℕ) (path : List Link) where
  pub insert_fixup-turn : 3 ≤ length path → is_red p (owner (link_in path 0)) ≡ true
      → is_red p (child p (other (side_of (link_in path 1))) (owner (link_in path 1))) ≡ false
      → insert_fixup p m path
      ≡ fixup_result m (Rotate (rotation (link_in path 2) (cond (same_side (side_of (link_in path 0)) (side_of (link_in path 1))) Diag Zig)
      (side_of (link_in path 1)) ForInsert))
  unfolding insert_fixup
  insert_fixup-turn h e f = go path h e f
    where
      go : (path : List Link) → 3 ≤ length path → is_red p (owner (link_in path 0)) ≡ true
          → is_red p (child p (other (side_of (link_in path 1))) (owner (link_in path 1))) ≡ false
          → insert_fixup p m path
          ≡ fixup_result m (Rotate (rotation (link_in path 2) (cond (same_side (side_of (link_in path 0)) (side_of (link_in path 1))) Diag Zig)
          (side_of (link_in path 1)) ForInsert))
      go [] h e f = absurd (let z : ⊥ = omega arith in z)
      go (x ∷ []) h e f = absurd (let z : ⊥ = omega arith in z)
      go (x ∷ y ∷ []) h e f = absurd (let z : ⊥ = omega arith in z)
      go (x ∷ y ∷ z ∷ up) h e f = rw (e, f)

  pub insert_fixup-on : 3 ≤ length path → is_red p (owner (link_in path 0)) ≡ true
      → is_red p (child p (other (side_of (link_in path 1))) (owner (link_in path 1))) ≡ true
      → insert_fixup p m path ≡ insert_fixup p (m + 1) (drop 2 path)
  insert_fixup-on = insert_fixup_on p m path

-- the colours of no level, past a path's end, and of one level
pub paint-insert_fixup-done : (m : ℕ) (path : List Link) (p : List ℕ) → m ≡ 0 → paint_insert_fixup m path p ≡ p
unfolding paint_insert_fixup
paint-insert_fixup-done zero path p e = refl
paint-insert_fixup-done (suc m) path p e = absurd (let z : ⊥ = omega arith in z)

pub paint-insert_fixup-out : (m : ℕ) (p : List ℕ) (path : List Link) → length path < 2 → paint_insert_fixup m path p ≡ p
unfolding paint_insert_fixup
paint-insert_fixup-out zero p path h = refl
paint-insert_fixup-out (suc m) p [] h = refl
paint-insert_fixup-out (suc m) p (x ∷ []) h = refl
paint-insert_fixup-out (suc m) p (x ∷ y ∷ up) h = absurd (let z : ⊥ = omega arith in z)

pub paint-insert_fixup-level : (m n : ℕ) (p : List ℕ) (path : List Link) → m ≡ suc n → 2 ≤ length path
    → paint_insert_fixup m path p
    ≡ (let aunt = child p (other (side_of (link_in path 1))) (owner (link_in path 1)) in
    paint_insert_fixup n (drop 2 path) (paint (paint (paint p (owner (link_in path 0)) black_colour) aunt black_colour) (owner (link_in path 1)) red_colour))
paint-insert_fixup-level m n p path = paint_insert_fixup_level m n path p
