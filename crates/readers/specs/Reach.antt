-- What a slot can reach is kept for it: each child of a linked node is linked; each child of a retired node is linked, or retired with at
-- least the same holders. So from a node that is linked, or retired with the slot's bit, links lead to such nodes alone.
-- Kept by the end of a reading, and by any store of which it is known what becomes of each node (`NodeChange`).
use Rattle.std.specs.Prelude.{ℕ, ◌+◌, ◌<◌, ◌≡◌, Bool, true, false, cond, List, ◌≢◌, ◌⊎◌}
use Rattle.std.proofs.Common.{sym, ◌∙◌, subst, inl, inr, ⊎_elim, arith, eq-eqb, ne_eqb}
use Rattle.std.proofs.lemmas.Bool.{false≢true}
use Rattle.base.specs.Lists.{◌∈◌, in-append}
use Rattle.datatypes.specs.declared.Side.{Side}
use Rattle.datatypes.specs.declared.Side.TheVariants.{L, R}
use Rattle.spec.specs.Numbers.{slots}
use Rattle.spec.specs.Pool.{word, child, link_word, nodes, standing_word, holders_word, standing_free, standing_linked, standing_retired, standing_apart}
use Rattle.spec.specs.Register.{State, has_slot, drop_slot}
use Rattle.spec.specs.Free.{end_reading}
use Rattle.spec.specs.FreeQueue.{InPool, Whole}
use Rattle.laws.specs.Slots.{drop-same, drop-other}
use Rattle.tree.specs.Linked.{Linked, nil, cell, nodes as tree_nodes}
use Rattle.heap.specs.Rep.{Rep}
use Rattle.promise.specs.Demands.{Leads, arrived, onward}
use Rattle.laws.specs.Slots.{no-bit}
use Rattle.readers.specs.Words.{node-high, node-length, whole-kept, stands-node}
use Rattle.readers.specs.QueueExact.{QueueExact}
use Rattle.readers.specs.Release.{freed_by, end-released}

abbrev pub HasStanding : List ℕ → ℕ → ℕ → Type 0
HasStanding p n a = word p n standing_word ≡ a

-- node m is linked, or retired with the bit of slot s
abbrev pub Kept : List ℕ → ℕ → ℕ → Type 0
Kept p s m = HasStanding p m standing_linked ⊎ (HasStanding p m standing_retired × (has_slot (word p m holders_word) s ≡ true))

abbrev pub LinkedClosed : List ℕ → Type 0
LinkedClosed p = (n : ℕ) (z : Side) → HasStanding p n standing_linked → child p z n ≢ 0 → HasStanding p (child p z n) standing_linked

pub record Closed (p : List ℕ) : Type 0 where
  pub linked : LinkedClosed p
  pub retired : (n : ℕ) (z : Side) → HasStanding p n standing_retired → child p z n ≢ 0 → (s : ℕ) → s < slots → has_slot (word p n holders_word) s ≡ true → Kept p s (child p z n)

-- a kept node is linked or retired, so it does not stand free
abbrev pub InUse : List ℕ → ℕ → Type 0
InUse p m = HasStanding p m standing_linked ⊎ HasStanding p m standing_retired

pub kept-use : (p : List ℕ) (s m : ℕ) → Kept p s m → InUse p m
kept-use p s m (inl e) = inl e
kept-use p s m (inr e) = inr e.0

pub kept-stands : (p : List ℕ) (s m : ℕ) → Kept p s m → word p m standing_word ≢ standing_free
kept-stands p s m (inl e) z = omega arith
kept-stands p s m (inr e) z = let a = e.0 in omega arith

pub kept-not-apart : (p : List ℕ) (s m : ℕ) → Kept p s m → word p m standing_word ≢ standing_apart
kept-not-apart p s m (inl e) z = omega arith
kept-not-apart p s m (inr e) z = let a = e.0 in omega arith

pub kept-child : (p : List ℕ) (s n : ℕ) (z : Side) → s < slots → Closed p → Kept p s n → child p z n ≢ 0 → Kept p s (child p z n)
kept-child p s n z u c (inl e) d = inl (c.linked n z e d)
kept-child p s n z u c (inr e) d = c.retired n z e.0 d s u e.1

pub leads-there : (p : List ℕ) (n m : ℕ) → Leads p n m → n ≢ 0
leads-there p n m (arrived a d) = d
leads-there p n m (onward a b z d l) = d

-- all that a slot reaches is kept for it
pub kept-reach : (p : List ℕ) (s n m : ℕ) → s < slots → Closed p → Kept p s n → Leads p n m → Kept p s m
kept-reach p s n m u c k (arrived a d) = k
kept-reach p s n m u c k (onward a b z d l) = kept-reach p s (child p z n) m u c (kept-child p s n z u c k (leads-there p (child p z n) m l)) l

-- links lead on to a child
pub leads-on : (p : List ℕ) (a n : ℕ) (z : Side) → Leads p a n → child p z n ≢ 0 → Leads p a (child p z n)
leads-on p a n z (arrived m d) c = onward n (child p z n) z d (arrived (child p z n) c)
leads-on p a n z (onward b m s d l) c = onward a (child p z n) s d (leads-on p (child p s a) n z l c)

-- Links lead from a link to just the nodes of its tree.
pub leads-in : (p : List ℕ) (T : Linked) (a n : ℕ) → Rep p a T → Leads p a n → n ∈ tree_nodes T
leads-in p nil a n h (arrived m d) = absurd (d h)
leads-in p nil a n h (onward b m s d l) = absurd (d h)
leads-in p (cell N x y) a n h (arrived m d) = inl h.0.is
leads-in p (cell N x y) a n h (onward b m L d l) = inr ((in-append n (tree_nodes x) (tree_nodes y)).1 (inl (leads-in p x (child p L a) n (rw h.0.is h.1) l)))
leads-in p (cell N x y) a n h (onward b m R d l) = inr ((in-append n (tree_nodes x) (tree_nodes y)).1 (inr (leads-in p y (child p R a) n (rw h.0.is h.2) l)))

pub in-leads : (p : List ℕ) (T : Linked) (a n : ℕ) → Rep p a T → n ∈ tree_nodes T → Leads p a n
in-leads p nil a n h i = absurd i
in-leads p (cell N x y) a n h i =
    let e = h.0.is in
    let d : a ≢ 0 = (let z = h.0.within.low in omega arith) in
    ⊎_elim (λ z. subst (λ m. Leads p a m) (e ∙ sym z) (arrived a d))
    (λ z. ⊎_elim (λ j. onward a n L d (in-leads p x (child p L a) n (rw e h.1) j))
    (λ j. onward a n R d (in-leads p y (child p R a) n (rw e h.2) j)) ((in-append n (tree_nodes x) (tree_nodes y)).0 z)) i

-- The end of slot s's reading: for other slots every kept node stays kept, and children stay so.
module _ (st : State) (s : ℕ) (l : List ℕ) (w : Whole st.pool) (h : QueueExact st l) where
  abbrev before : List ℕ
  before = st.pool

  abbrev after : List ℕ
  after = (end_reading st s).pool

  within : (n : ℕ) → InPool before n → n < nodes before + 1
  within n hn = let a = node-high before n hn in omega arith

  after-child : (n : ℕ) (z : Side) → child after z n ≡ child before z n
  after-child n L = (end-released st s l h).words n (link_word L) (omega arith)
  after-child n R = (end-released st s l h).words n (link_word R) (omega arith)

  -- linked nodes stay, and no other comes
  pub end-linked : (n : ℕ) → HasStanding before n standing_linked → HasStanding after n standing_linked
  end-linked n e =
      let hn = stands-node before n standing_word w (omega arith) (omega arith) in
      (end-released st s l h).standing n (within n hn) ∙ rw e

  after-node : (n : ℕ) → word after n standing_word ≢ standing_free → InPool before n
  after-node n d =
      let e = (end-released st s l h).size in
      node-length after before n (sym e) (stands-node after n standing_word (whole-kept before after e w) (omega arith) d)

  pub end-apart : (n : ℕ) → HasStanding before n standing_apart → HasStanding after n standing_apart
  end-apart n e =
      let hn = stands-node before n standing_word w (omega arith) (omega arith) in
      (end-released st s l h).standing n (within n hn) ∙ rw e

  pub apart-end : (n : ℕ) → HasStanding after n standing_apart → HasStanding before n standing_apart
  apart-end n e =
      let hn = after-node n (omega arith) in
      go (freed_by before s n) (sym ((end-released st s l h).standing n (within n hn)) ∙ e)
    where
      go : (b : Bool) → cond b standing_free (word before n standing_word) ≡ standing_apart → HasStanding before n standing_apart
      go true e = absurd (omega arith)
      go false e = e

  pub linked-end : (n : ℕ) → HasStanding after n standing_linked → HasStanding before n standing_linked
  linked-end n e =
      let hn = after-node n (omega arith) in
      go (freed_by before s n) (sym ((end-released st s l h).standing n (within n hn)) ∙ e)
    where
      go : (b : Bool) → cond b standing_free (word before n standing_word) ≡ standing_linked → HasStanding before n standing_linked
      go true e = absurd (omega arith)
      go false e = e

  -- a retired node was retired, and each of its holders but s is left
  pub retired-end : (n : ℕ) → HasStanding after n standing_retired → HasStanding before n standing_retired × (word after n holders_word ≡ drop_slot (word before n holders_word) s)
  retired-end n e =
      let hn = after-node n (omega arith) in
      let r = end-released st s l h in
      let i = go (freed_by before s n) (sym (r.standing n (within n hn)) ∙ e) in
      (i, r.holders n (within n hn) ∙ rw (eq-eqb (word before n standing_word) standing_retired i))
    where
      go : (b : Bool) → cond b standing_free (word before n standing_word) ≡ standing_retired → HasStanding before n standing_retired
      go true e = absurd (omega arith)
      go false e = e

  pub kept-end : (t n : ℕ) → s ≢ t → Kept before t n → Kept after t n
  kept-end t n d (inl e) = inl (end-linked n e)
  kept-end t n d (inr e) =
      let i = e.0 in
      let hn = stands-node before n standing_word w (omega arith) (omega arith) in
      let r = end-released st s l h in
      let m = word before n holders_word in
      let bit : has_slot (drop_slot m s) t ≡ true = drop-other m s t d ∙ e.1 in
      let some : drop_slot m s ≢ 0 = λ z. false≢true (sym (no-bit t) ∙ subst (λ x. has_slot x t ≡ true) z bit) in
      let yes-retired = eq-eqb (word before n standing_word) standing_retired i in
      inr (r.standing n (within n hn) ∙ rw (yes-retired, ne_eqb (drop_slot m s) 0 some) i, rw (r.holders n (within n hn), yes-retired) bit)

  pub closed-end : Closed before → Closed after
  closed-end c = record {
    linked = λ n z e d. rw (after-child n z) (end-linked (child before z n) (c.linked n z (linked-end n e) (λ i. d (after-child n z ∙ i))));
    retired = λ n z e d t u i. (
        let o = retired-end n e in
        let m = word before n holders_word in
        let j : has_slot (drop_slot m s) t ≡ true = subst (λ x. has_slot x t ≡ true) o.1 i in
        let a : s ≢ t = λ x. false≢true (sym (drop-same m s) ∙ subst (λ y. has_slot (drop_slot m s) y ≡ true) (sym x) j) in
        rw (after-child n z) (kept-end t (child before z n) a (c.retired n z o.0 (λ x. d (after-child n z ∙ x)) t u (sym (drop-other m s t a) ∙ j)))
        );
  }

-- A store. What becomes of a node from one pool to the next, with W the slots that are reading.
pub data NodeChange (p q : List ℕ) (W : ℕ → Type 0) (n : ℕ) : Type 0 where
  -- it was free, made apart or linked and is linked now
  comes : word p n standing_word ≢ standing_retired → HasStanding q n standing_linked → NodeChange p q W n
  -- it was linked and is retired with all that are reading, its links as they were
  leaves : HasStanding p n standing_linked → HasStanding q n standing_retired → ((s : ℕ) → s < slots → W s → has_slot (word q n holders_word) s ≡ true)
      → ((z : Side) → child q z n ≡ child p z n) → NodeChange p q W n
  -- it was retired, and no word of it that matters has changed
  rests : HasStanding p n standing_retired → HasStanding q n standing_retired → word q n holders_word ≡ word p n holders_word → ((z : Side) → child q z n ≡ child p z n) → NodeChange p q W n
  -- it is free; if it was linked none is reading
  goes : word p n standing_word ≢ standing_retired → HasStanding q n standing_free → (HasStanding p n standing_linked → (s : ℕ) → s < slots → ¬ (W s)) → NodeChange p q W n

module _ (p q : List ℕ) (W : ℕ → Type 0) (change : (n : ℕ) → NodeChange p q W n) where
  -- for a reading slot every kept node stays kept
  pub kept_store : (s m : ℕ) → s < slots → W s → Kept p s m → Kept q s m
  kept_store s m u r k = go (change m) k
    where
      go : NodeChange p q W m → Kept p s m → Kept q s m
      go (comes a e) k = inl e
      go (leaves a e bits same) k = inr (e, bits s u r)
      go (rests a e same links) (inl i) = absurd (omega arith)
      go (rests a e same links) (inr i) = inr (e, rw same i.1)
      go (goes a e none) (inl i) = absurd (none i s u r)
      go (goes a e none) (inr i) = absurd (a i.0)

  -- a node that was retired is not linked again
  pub not-again : (m : ℕ) → InUse p m → word p m standing_word ≢ standing_linked → word q m standing_word ≢ standing_linked
  not-again m a b = go (change m)
    where
      go : NodeChange p q W m → word q m standing_word ≢ standing_linked
      go (comes c e) z = ⊎_elim b c a
      go (leaves c e bits same) z = absurd (b c)
      go (rests c e same links) z = omega arith
      go (goes c e none) z = omega arith

  -- children stay kept, if those of linked nodes are linked
  pub closed-store : Closed p → LinkedClosed q → ((n s : ℕ) → HasStanding q n standing_retired → s < slots → has_slot (word q n holders_word) s ≡ true → W s) → Closed q
  closed-store c linked reads = record { linked = linked; retired = λ n z e d s u i. go n z (change n) e d s u i }
    where
      go : (n : ℕ) (z : Side) → NodeChange p q W n → HasStanding q n standing_retired → child q z n ≢ 0 → (s : ℕ) → s < slots → has_slot (word q n holders_word) s ≡ true → Kept q s (child q z n)
      go n z (comes a b) e d s u i = absurd (omega arith)
      go n z (leaves a b bits same) e d s u i =
          rw (same z) (kept_store s (child p z n) u (reads n s e u i) (inl (c.linked n z a (λ x. d (same z ∙ x)))))
      go n z (rests a b hold same) e d s u i =
          rw (same z) (kept_store s (child p z n) u (reads n s e u i) (c.retired n z a (λ x. d (same z ∙ x)) s u (subst (λ x. has_slot x s ≡ true) hold i)))
      go n z (goes a b none) e d s u i = absurd (omega arith)
