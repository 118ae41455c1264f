-- A test of each element of a list, as a walk over its places.
use Rattle.std.specs.Prelude.{◌≡◌, refl, Bool, true, false, ◌&&◌, ℕ, suc, ◌+◌, List, [], ◌∷◌, length, get_or}
use Rattle.std.specs.List.{list_all}
use Rattle.base.specs.Walk.{all_from, all_in}
use Rattle.std.proofs.Common.{sym, add-zero, zero-add, cond, arith}
use Rattle.std.proofs.Math.Nat.{sub-zero}

and-cond : (a b : Bool) → (a && b) ≡ cond a b false
and-cond true b = refl
and-cond false b = refl

-- a test of each element of a list is a test of each of its places
all-list : {A : Type 0} (p : A → Bool) (f : ℕ → Bool) (d : A) (xs : List A) (n : ℕ) → ((i : ℕ) → p (get_or xs i d) ≡ f (n + i)) → list_all p xs ≡ all_from f (length xs) n
unfolding all_from
all-list p f d [] n h = refl
all-list p f d (x ∷ xs) n h =
    let a : f n ≡ p x = rw (add-zero n) at (sym (h 0)) in
    let b : list_all p xs ≡ all_from f (length xs) (n + 1) = all-list p f d xs (n + 1) (λ i. let e : n + 1 + i ≡ n + suc i = omega arith in rw e (h (suc i))) in
    rw (a, b) (and-cond (p x) (all_from f (length xs) (n + 1)))

pub list-in : {A : Type 0} (p : A → Bool) (f : ℕ → Bool) (d : A) (xs : List A) (e : ℕ) → length xs ≡ e → ((i : ℕ) → p (get_or xs i d) ≡ f i) → list_all p xs ≡ all_in f 0 e
unfolding all_in
list-in p f d xs e l h = rw (sub-zero, sym l) (all-list p f d xs 0 (λ i. let z = zero-add i in rw z (h i)))
