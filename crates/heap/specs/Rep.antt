-- The linked tree that a link of the pool unfolds to, and what changes of the pool leave it as it is. A link unfolds to one tree, and no
-- node stands below itself. Nothing is assumed: unfoldings may repeat a node.
use Rattle.std.specs.Prelude.{ℕ, ◌+◌, ◌<◌, ◌≤◌, ◌≡◌, refl, ◌≢◌, ◌↔◌, List, length}
use Rattle.std.proofs.Common.{sym, ap, ◌∙◌, inl, inr, length-append, arith}
use Rattle.datatypes.specs.declared.Side.{Side}
use Rattle.datatypes.specs.declared.Side.TheVariants.{L, R}
use Rattle.datatypes.specs.Side.{other}
use Rattle.spec.specs.Numbers.{node_words}
use Rattle.spec.specs.Pool.{word, set_word, child, key_word, record_at, link_word, right_word, colour_word}
use Rattle.spec.specs.FreeQueue.{InPool}
use Rattle.laws.specs.Words.{length-set_word, word-other}
use Rattle.laws.specs.Records.{record-kept}
use Rattle.laws.specs.Queue.{link-low}
use Rattle.tree.specs.Linked.{Node, Linked, nil, cell, at, nodes}
use Rattle.tree.specs.Occurs.{one_same, one-other, occ, occ-append, occ-apart}

-- a is the node N, whose words the pool has
pub record Words (p : List ℕ) (a : ℕ) (N : Node) : Type 0 where
  pub is : a ≡ N.num
  pub within : InPool p N.num
  pub key-is : word p N.num key_word ≡ N.key
  pub val_is : record_at p N.num ≡ N.val

-- the link value a unfolds to the tree
abbrev pub Rep : List ℕ → ℕ → Linked → Type 0
Rep p a nil = a ≡ 0
Rep p a (cell N l r) = Words p a N × Rep p (child p L N.num) l × Rep p (child p R N.num) r

pub rep_at : (p : List ℕ) (a : ℕ) (s : Side) (N : Node) (x y : Linked)
    → Rep p a (at s N x y) ↔ (Words p a N × Rep p (child p s N.num) x × Rep p (child p (other s) N.num) y)
rep_at p a L N x y = (λ h. h, λ h. h)
rep_at p a R N x y = (λ h. (h.0, h.2, h.1), λ h. (h.0, h.2, h.1))

-- how many words of a node: key, record and links; the colour too
abbrev pub up_to_links : ℕ
up_to_links = right_word + 1

abbrev pub up_to_colour : ℕ
up_to_colour = colour_word + 1

-- key, record and links of node n are the same in q
pub record Agree (p q : List ℕ) (n : ℕ) : Type 0 where
  pub key : word q n key_word ≡ word p n key_word
  pub value : record_at q n ≡ record_at p n
  pub links : (s : Side) → child q s n ≡ child p s n

pub agree-words : (p q : List ℕ) (n : ℕ) → ((f : ℕ) → f < up_to_links → word q n f ≡ word p n f) → Agree p q n
agree-words p q n h = record {
  key = h key_word (omega arith);
  value = record-kept p q n (λ f l. h f (omega arith));
  links = λ s. h (link_word s) (link-low s);
}

pub words-agree : (p q : List ℕ) {a : ℕ} {N : Node} → length q ≡ length p → Agree p q N.num → Words p a N → Words q a N
words-agree p q e h w = record {
  is = w.is;
  within = record { low = w.within.low; high = rw e w.within.high };
  key-is = h.key ∙ w.key-is;
  val_is = h.value ∙ w.val_is;
}

-- a pool that agrees at the tree's nodes has the tree
pub rep-agree : (p q : List ℕ) → length q ≡ length p → (t : Linked) (a : ℕ) → ((n : ℕ) → 0 < occ n (nodes t) → Agree p q n) → Rep p a t → Rep q a t
rep-agree p q e nil a h r = r
rep-agree p q e (cell N l r) a h w =
    let top = h N.num (let x = one_same N.num in omega arith) in (
      words-agree p q e top w.0,
      rw (top.links L) (rep-agree p q e l _ (λ n i. h n (let x = occ-append n (nodes l) (nodes r) in omega arith)) w.1),
      rw (top.links R) (rep-agree p q e r _ (λ n i. h n (let x = occ-append n (nodes l) (nodes r) in omega arith)) w.2),
    )

-- q has the same words below the k-th of each node
pub record Alike (k : ℕ) (p q : List ℕ) : Type 0 where
  pub size : length q ≡ length p
  pub words : (n f : ℕ) → f < k → word q n f ≡ word p n f

pub alike_refl : (k : ℕ) (p : List ℕ) → Alike k p p
alike_refl k p = record { size = refl; words = λ n f h. refl }

pub alike-trans : {k : ℕ} {p q r : List ℕ} → Alike k p q → Alike k q r → Alike k p r
alike-trans a b = record { size = b.size ∙ a.size; words = λ n f h. b.words n f h ∙ a.words n f h }

pub alike-less : {k : ℕ} (j : ℕ) {p q : List ℕ} → j ≤ k → Alike k p q → Alike j p q
alike-less j l a = record { size = a.size; words = λ n f h. a.words n f (omega arith) }

pub alike_set : (k : ℕ) (p : List ℕ) (n f v : ℕ) → k ≤ f → f < node_words → Alike k p (set_word p n f v)
alike_set k p n f v l h = record { size = length-set_word p n f v; words = λ m g i. word-other p n m f g v h (omega arith) (inr (omega arith)) }

pub rep-alike : {p q : List ℕ} → Alike up_to_links p q → (t : Linked) (a : ℕ) → Rep p a t → Rep q a t
rep-alike {p} {q} h t a r = rep-agree p q h.size t a (λ n _. agree-words p q n (h.words n)) r

-- a change of a node that does not occur
pub set-elsewhere : (p : List ℕ) (d f v n : ℕ) → f < node_words → d ≢ n → Agree p (set_word p d f v) n
set-elsewhere p d f v n h e = agree-words p (set_word p d f v) n (λ g i. word-other p d n f g v h (omega arith) (inl e))

pub rep-elsewhere : (p : List ℕ) (d f v : ℕ) → f < node_words → (t : Linked) (a : ℕ) → occ d (nodes t) ≡ 0 → Rep p a t → Rep (set_word p d f v) a t
rep-elsewhere p d f v h t a o r = rep-agree p (set_word p d f v) (length-set_word p d f v) t a (λ n i. set-elsewhere p d f v n h (occ-apart d n (nodes t) o i)) r

-- A link unfolds to one tree.
same-node : (p : List ℕ) (a b : ℕ) (N M : Node) → a ≡ b → Words p a N → Words p b M → N ≡ M
same-node p a b N M e w x =
    let n : N.num ≡ M.num = sym w.is ∙ e ∙ x.is in
    let k : N.key ≡ M.key = sym w.key-is ∙ ap (λ m. word p m key_word) n ∙ x.key-is in
    let v : N.val ≡ M.val = sym w.val_is ∙ ap (λ m. record_at p m) n ∙ x.val_is in
    λ i. record { num = n i; key = k i; val = v i }

pub rep-unique : (p : List ℕ) (t u : Linked) (a b : ℕ) → a ≡ b → Rep p a t → Rep p b u → t ≡ u
rep-unique p nil nil a b e h g = refl
rep-unique p nil (cell M x y) a b e h (w, _, _) = absurd (let i = w.is in let l = w.within.low in omega arith)
rep-unique p (cell N l r) nil a b e (w, _, _) g = absurd (let i = w.is in let l = w.within.low in omega arith)
rep-unique p (cell N l r) (cell M x y) a b e (w, hl, hr) (w', hx, hy) =
    let m = same-node p a b N M e w w' in
    let el = rep-unique p l x (child p L N.num) (child p L M.num) (rw m) hl hx in
    let er = rep-unique p r y (child p R N.num) (child p R M.num) (rw m) hr hy in
    cc (m, el, er)

-- No node stands below itself.
small-free : (p : List ℕ) (d : ℕ) (big : Linked) → Rep p d big → (t : Linked) (a : ℕ) → Rep p a t → length (nodes t) < length (nodes big) → occ d (nodes t) ≡ 0
small-free p d big hb nil a h s = refl
small-free p d big hb (cell N l r) a (w, hl, hr) s =
    let len = length-append (nodes l) (nodes r) in
    let apart : d ≢ N.num = λ e. let x = ap (λ t. length (nodes t)) (rep-unique p (cell N l r) big a d (w.is ∙ sym e) (w, hl, hr) hb) in omega arith in
    let x = small-free p d big hb l _ hl (omega arith) in
    let y = small-free p d big hb r _ hr (omega arith) in
    let z = one-other d N.num apart in
    let s = occ-append d (nodes l) (nodes r) in
    omega arith

pub not-below : (p : List ℕ) (a : ℕ) (N : Node) (l r : Linked) → Rep p a (cell N l r) → (occ N.num (nodes l) ≡ 0) × (occ N.num (nodes r) ≡ 0)
not-below p a N l r h =
    let i = h.0.is in
    let top : Rep p N.num (cell N l r) = rw i at h in
    let len = length-append (nodes l) (nodes r) in
    (small-free p N.num (cell N l r) top l (child p L N.num) h.1 (omega arith), small-free p N.num (cell N l r) top r (child p R N.num) h.2 (omega arith))

pub not-below-at : (p : List ℕ) (a : ℕ) (s : Side) (N : Node) (x y : Linked) → Rep p a (at s N x y) → (occ N.num (nodes x) ≡ 0) × (occ N.num (nodes y) ≡ 0)
not-below-at p a L N x y h = not-below p a N x y h
not-below-at p a R N x y h = let i = not-below p a N y x h in (i.1, i.0)
