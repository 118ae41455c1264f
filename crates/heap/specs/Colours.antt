-- Colours read off the pool, and the coloured tree: what painting does to it.
use Rattle.std.specs.Prelude.{ℕ, ◌<◌, ◌≡◌, refl, ◌≢◌, Bool, true, false, List, [], ◌∷◌, eqb}
use Rattle.std.proofs.Common.{sym, ap, ◌∙◌, subst, inl, inr, arith}
use Rattle.datatypes.specs.declared.Link.{Link}
use Rattle.datatypes.specs.declared.Link.TheVariants.{Root, Left, Right}
use Rattle.spec.specs.Pool.{word, set_word, is_red, paint, colour_word, red_colour, left_word, right_word}
use Rattle.spec.specs.Register.{State, set_link}
use Rattle.spec.specs.FreeQueue.{InPool}
use Rattle.laws.specs.Words.{word_same, word-other, word_none, set-none}
use Rattle.sequential.specs.Tree as Seq
use Rattle.sequential.specs.Tree.{Colour, red, black, colour_of}
use Rattle.tree.specs.Linked.{Linked, nil, cell, nodes}
use Rattle.tree.specs.Zipper.{Frame, hole}
use Rattle.tree.specs.Erase.{erase, erase_way, erase-agree}
use Rattle.tree.specs.Occurs.{one_same, occ, in-occ, occ_way, occ-apart}
use Rattle.heap.specs.Rep.{Rep, Alike, alike_set, not-below, up_to_links, up_to_colour}

abbrev pub hue_of : Bool → Colour
hue_of true = red
hue_of false = black

abbrev pub redly : Colour → Bool
redly red = true
redly black = false

abbrev pub hue : ℕ → Colour
hue w = hue_of (eqb w red_colour)

unfoldable pub colours : List ℕ → ℕ → Colour
colours p n = hue (word p n colour_word)

redly-hue : (b : Bool) → b ≡ redly (hue_of b)
redly-hue true = refl
redly-hue false = refl

pub red-is : (p : List ℕ) (n : ℕ) → is_red p n ≡ redly (colours p n)
unfolding colours
red-is p n = redly-hue (is_red p n)

pub colours-word : (p q : List ℕ) (n : ℕ) → word q n colour_word ≡ word p n colour_word → colours q n ≡ colours p n
unfolding colours
colours-word p q n e = ap hue e

pub colours-is : (p : List ℕ) (n c : ℕ) → word p n colour_word ≡ c → colours p n ≡ hue c
unfolding colours
colours-is p n c e = ap hue e

pub colours-alike : {p q : List ℕ} → Alike up_to_colour p q → (n : ℕ) → colours q n ≡ colours p n
colours-alike {p} {q} a n = colours-word p q n (a.words n colour_word (omega arith))

pub colours-none : (p : List ℕ) → colours p 0 ≡ black
colours-none p = colours-is p 0 0 (word_none p colour_word)

-- a word that is not the colour
pub colours-set : (p : List ℕ) (d f v n : ℕ) → f < colour_word → colours (set_word p d f v) n ≡ colours p n
colours-set p d f v n h = colours-word p (set_word p d f v) n (word-other p d n f colour_word v (omega arith) (omega arith) (inr (omega arith)))

pub colours-link : (st : State) (l : Link) (v n : ℕ) → colours (set_link st l v).pool n ≡ colours st.pool n
unfolding set_link
colours-link st Root v n = refl
colours-link st (Left m) v n = colours-set st.pool m left_word v n (omega arith)
colours-link st (Right m) v n = colours-set st.pool m right_word v n (omega arith)

-- a painted node
pub paint-alike : (p : List ℕ) (n c : ℕ) → Alike up_to_links p (paint p n c)
paint-alike p n c = alike_set up_to_links p n colour_word c (omega arith) (omega arith)

pub paint-none : (p : List ℕ) (c : ℕ) → paint p 0 c ≡ p
paint-none p c = set-none p colour_word c

pub paint-other : (p : List ℕ) (n c m : ℕ) → n ≢ m → colours (paint p n c) m ≡ colours p m
paint-other p n c m d = colours-word p (paint p n c) m (word-other p n m colour_word colour_word c (omega arith) (omega arith) (inl d))

pub paint-same : (p : List ℕ) (n c : ℕ) → InPool p n → colours (paint p n c) n ≡ hue c
paint-same p n c w = colours-is (paint p n c) n c (word_same p n colour_word c w (omega arith))

-- The coloured tree depends on the colours of its nodes alone.
pub erase-occ : (f g : ℕ → Colour) (t : Linked) → ((n : ℕ) → 0 < occ n (nodes t) → g n ≡ f n) → erase g t ≡ erase f t
erase-occ f g t h = erase-agree g f t (λ n i. h n (in-occ n (nodes t) i))

pub way-occ : (f g : ℕ → Colour) (fs : List Frame) → ((n : ℕ) → 0 < occ_way n fs → g n ≡ f n) → erase_way g fs ≡ erase_way f fs
way-occ f g [] h = refl
way-occ f g (hole s N y ∷ fs) h =
    let a = h N.num (let x = one_same N.num in omega arith) in
    let b = erase-occ f g y (λ n i. h n (omega arith)) in
    let c = way-occ f g fs (λ n i. h n (omega arith)) in
    rw (a, b, c)

pub erase-paint : (p : List ℕ) (n c : ℕ) (t : Linked) → occ n (nodes t) ≡ 0 → erase (colours (paint p n c)) t ≡ erase (colours p) t
erase-paint p n c t o = erase-occ (colours p) (colours (paint p n c)) t (λ m i. paint-other p n c m (occ-apart n m (nodes t) o i))

-- the top of a tree painted
pub erase-top : (p : List ℕ) (a c : ℕ) (t : Linked) → Rep p a t → erase (colours (paint p a c)) t ≡ Seq.paint (hue c) (erase (colours p) t)
erase-top p a c nil h = refl
erase-top p a c (cell N l r) h =
    let b = not-below p a N l r h in
    let e = erase-paint p N.num c l b.0 in
    let f = erase-paint p N.num c r b.1 in
    let g = paint-same p N.num c h.0.within in
    subst (λ n. erase (colours (paint p n c)) (cell N l r) ≡ Seq.paint (hue c) (erase (colours p) (cell N l r))) (sym h.0.is) (rw (e, f, g))

-- what a test of a link's node says of the tree there
pub red-tree : (p : List ℕ) (a : ℕ) (t : Linked) → Rep p a t → is_red p a ≡ redly (colour_of (erase (colours p) t))
red-tree p a nil h = rw h (red-is p 0 ∙ ap redly (colours-none p))
red-tree p a (cell N l r) h = let i = h.0.is in rw i (red-is p N.num)
