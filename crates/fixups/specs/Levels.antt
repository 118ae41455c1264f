-- One level of a fix-up, by the links of a path.
use Rattle.std.specs.Prelude.{◌≡◌, refl, List, [], ◌∷◌, true, drop, get_or, length, take, ℕ, zero, suc, ◌+◌, ◌-◌, ◌≤◌}
use Rattle.std.proofs.Common.{arith}
use Rattle.std.proofs.lemmas.List.{take_all, length-drop}
use Rattle.datatypes.specs.declared.Link.{Link}
use Rattle.datatypes.specs.declared.Link.TheVariants.{Root}
use Rattle.datatypes.specs.declared.Ending.TheVariants.{Blacken}
use Rattle.datatypes.specs.Side.{other, owner, side_of}
use Rattle.spec.specs.Pool.{child, is_red, paint, black_colour, red_colour}
use Rattle.spec.specs.Plan.{fixup_result, insert_fixup, paint_insert_fixup, delete_fixup, paint_delete_levels}

-- the links above the first n
pub above : (path : List Link) (n : ℕ) → take (length path - n) (drop n path) ≡ drop n path
above path n = take_all (length path - n) (drop n path) (rw length-drop (omega arith))

module _ (p : List ℕ) (path : List Link) where
  abbrev first : Link
  first = get_or path 0 Root

  abbrev second : Link
  second = get_or path 1 Root

  abbrev aunt : ℕ
  aunt = child p (other (side_of second)) (owner second)

pub insert_fixup_on : (p : List ℕ) (m : ℕ) (path : List Link) → 3 ≤ length path → is_red p (owner (first p path)) ≡ true → is_red p (aunt p path) ≡ true
    → insert_fixup p m path ≡ insert_fixup p (m + 1) (drop 2 path)
unfolding insert_fixup
insert_fixup_on p m [] h e f = absurd (let z : ⊥ = omega arith in z)
insert_fixup_on p m (x ∷ []) h e f = absurd (let z : ⊥ = omega arith in z)
insert_fixup_on p m (x ∷ y ∷ []) h e f = absurd (let z : ⊥ = omega arith in z)
insert_fixup_on p m (x ∷ y ∷ z ∷ up) h e f = rw (e, f)

pub paint_insert_fixup_level : (m n : ℕ) (path : List Link) (p : List ℕ) → m ≡ suc n → 2 ≤ length path
    → paint_insert_fixup m path p
    ≡ paint_insert_fixup n (drop 2 path) (paint (paint (paint p (owner (first p path)) black_colour) (aunt p path) black_colour) (owner (second p path)) red_colour)
unfolding paint_insert_fixup
paint_insert_fixup_level zero n path p e h = absurd (let z : ⊥ = omega arith in z)
paint_insert_fixup_level (suc m) n [] p e h = absurd (let z : ⊥ = omega arith in z)
paint_insert_fixup_level (suc m) n (x ∷ []) p e h = absurd (let z : ⊥ = omega arith in z)
paint_insert_fixup_level (suc m) n (x ∷ y ∷ up) p e h =
    let i : m ≡ n = omega arith in
    rw i

pub delete_fixup_red : (p : List ℕ) (m x : ℕ) (path : List Link) → is_red p x ≡ true → delete_fixup p m x path ≡ fixup_result m Blacken
unfolding delete_fixup
delete_fixup_red p m x [] e = rw e
delete_fixup_red p m x (l ∷ []) e = rw e
delete_fixup_red p m x (l ∷ above ∷ up) e = rw e

pub paint_delete_levels_none : (m : ℕ) (path : List Link) (p : List ℕ) → (1 ≤ m → length path ≡ 0) → paint_delete_levels m path p ≡ p
unfolding paint_delete_levels
paint_delete_levels_none zero path p h = refl
paint_delete_levels_none (suc m) [] p h = refl
paint_delete_levels_none (suc m) (l ∷ up) p h = absurd (let i = h (omega arith) in let z : ⊥ = omega arith in z)

pub paint_delete_levels_level : (m n : ℕ) (l : Link) (up : List Link) (p : List ℕ) → n + 1 ≡ m
    → paint_delete_levels m (l ∷ up) p ≡ paint_delete_levels n up (paint p (child p (other (side_of l)) (owner l)) red_colour)
unfolding paint_delete_levels
paint_delete_levels_level zero n l up p e = absurd (let z : ⊥ = omega arith in z)
paint_delete_levels_level (suc m) n l up p e =
    let i : m ≡ n = omega arith in
    rw i
