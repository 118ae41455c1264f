-- The order of keys seen from a side, and the places that a key can have among one, two or three keys.
-- Each case split hands over the equations that make `rel` compute. Used by every proof about lookups.
use Rattle.std.specs.Prelude.{ℕ, ◌≡◌, refl, Bool, true, false, ltb}
use Rattle.std.proofs.Common.{sym, arith, ltb-true, ltb-false}
use Rattle.datatypes.specs.declared.Side.{Side}
use Rattle.datatypes.specs.declared.Side.TheVariants.{L, R}
use Rattle.datatypes.specs.Side.{other}
use Rattle.sequential.specs.Tree.{near, here, far, rel}
use Rattle.sequential.specs.Proper.{Ord}

pub ord-trans : (s : Side) (a b c : ℕ) → Ord s a b → Ord s b c → Ord s a c
ord-trans L a b c h k = omega arith
ord-trans R a b c h k = omega arith

pub ord-other : (s : Side) (a b : ℕ) → Ord s a b → Ord (other s) b a
ord-other L a b h = h
ord-other R a b h = h

pub other-ord : (s : Side) (a b : ℕ) → Ord (other s) b a → Ord s a b
other-ord L a b h = h
other-ord R a b h = h

pub ord-anti : (s : Side) (a b : ℕ) → Ord s a b → ¬ (Ord s b a)
ord-anti L a b h k = omega arith
ord-anti R a b h k = omega arith

pub ord-apart : (s : Side) (a b : ℕ) → Ord s a b → ¬ (a ≡ b)
ord-apart L a b h k = omega arith
ord-apart R a b h k = omega arith

-- what is not before k comes after each j that is
pub ord-past : (s : Side) (j k r : ℕ) → Ord s j k → ¬ (Ord s r k) → Ord s j r
ord-past L j k r h n = omega arith
ord-past R j k r h n = omega arith

-- the three places of q at one key
pub data Tri (s : Side) (q k : ℕ) : Type 0 where
  tri-near : Ord s q k → rel s q k ≡ near → Tri s q k
  tri-here : q ≡ k → rel s q k ≡ here → Tri s q k
  tri-far : Ord s k q → rel s q k ≡ far → Tri s q k

pub tri : (s : Side) (q k : ℕ) → Tri s q k
unfolding rel
tri s q k = go s (ltb q k) refl (ltb k q) refl
  where
    go : (s : Side) (x : Bool) → ltb q k ≡ x → (y : Bool) → ltb k q ≡ y → Tri s q k
    go L true e y f = tri-near (ltb-true q k e) (rw (e, rel))
    go L false e true f = tri-far (ltb-true k q f) (rw (e, f, rel))
    go L false e false f = tri-here (let a = ltb-false q k e in let b = ltb-false k q f in omega arith) (rw (e, f, rel))
    go R true e y f = tri-far (ltb-true q k e) (rw (e, rel))
    go R false e true f = tri-near (ltb-true k q f) (rw (e, f, rel))
    go R false e false f = tri-here (let a = ltb-false q k e in let b = ltb-false k q f in omega arith) (rw (e, f, rel))

pub tri-case {ℓ} : {A : Type ℓ} (s : Side) (q k : ℕ) → (Ord s q k → rel s q k ≡ near → A) → (q ≡ k → rel s q k ≡ here → A)
    → (Ord s k q → rel s q k ≡ far → A) → A
tri-case {A} s q k f g h = go (tri s q k)
  where
    go : Tri s q k → A
    go (tri-near o e) = f o e
    go (tri-here o e) = g o e
    go (tri-far o e) = h o e

pub near_of : (s : Side) (q k : ℕ) → Ord s q k → rel s q k ≡ near
near_of s q k o = tri-case s q k (λ h e. e) (λ h e. absurd (ord-apart s q k o h)) (λ h e. absurd (ord-anti s q k o h))

pub far-of : (s : Side) (q k : ℕ) → Ord s k q → rel s q k ≡ far
far-of s q k o = tri-case s q k (λ h e. absurd (ord-anti s q k h o)) (λ h e. absurd (ord-apart s k q o (sym h))) (λ h e. e)

pub here_of : (s : Side) (q k : ℕ) → q ≡ k → rel s q k ≡ here
here_of s q k o = tri-case s q k (λ h e. absurd (ord-apart s q k h o)) (λ h e. e) (λ h e. absurd (ord-apart s k q h (sym o)))

-- two keys in order: the five places of q
pub cut-case {ℓ} : {A : Type ℓ} (s : Side) (a b q : ℕ) → Ord s a b → (rel s q a ≡ near → rel s q b ≡ near → A)
    → (rel s q a ≡ here → rel s q b ≡ near → A) → (rel s q a ≡ far → rel s q b ≡ near → A)
    → (rel s q a ≡ far → rel s q b ≡ here → A) → (rel s q a ≡ far → rel s q b ≡ far → A) → A
cut-case s a b q o f1 f2 f3 f4 f5 =
    tri-case s q a
    (λ h e. f1 e (near_of s q b (ord-trans s q a b h o)))
    (λ h e. f2 e (near_of s q b (rw h o)))
    (λ h e. tri-case s q b (λ _ f. f3 e f) (λ _ f. f4 e f) (λ _ f. f5 e f))

-- three keys in order: the seven places of q
pub cut3-case {ℓ} : {A : Type ℓ} (s : Side) (a b c q : ℕ) → Ord s a b → Ord s b c → (rel s q a ≡ near → rel s q b ≡ near → rel s q c ≡ near → A)
    → (rel s q a ≡ here → rel s q b ≡ near → rel s q c ≡ near → A) → (rel s q a ≡ far → rel s q b ≡ near → rel s q c ≡ near → A)
    → (rel s q a ≡ far → rel s q b ≡ here → rel s q c ≡ near → A) → (rel s q a ≡ far → rel s q b ≡ far → rel s q c ≡ near → A)
    → (rel s q a ≡ far → rel s q b ≡ far → rel s q c ≡ here → A) → (rel s q a ≡ far → rel s q b ≡ far → rel s q c ≡ far → A) → A
cut3-case s a b c q o p f1 f2 f3 f4 f5 f6 f7 =
    tri-case s q b
    (λ h e. let f = near_of s q c (ord-trans s q b c h p) in tri-case s q a (λ _ g. f1 g e f) (λ _ g. f2 g e f) (λ _ g. f3 g e f))
    (λ h e. f4 (far-of s q a (rw h o)) e (near_of s q c (rw h p)))
    (λ h e. let g = far-of s q a (ord-trans s a b q o h) in tri-case s q c (λ _ f. f5 g e f) (λ _ f. f6 g e f) (λ _ f. f7 g e f))
