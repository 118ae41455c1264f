-- What a slot has seen: the nodes that it has compared so far, in order, by its kind of search. Each is kept for it, and with those still to come
-- none stands twice; so they are at most as many as the pool has nodes (02, C-17). This holds of awaited slots too.
use Rattle.std.specs.Prelude.{ℕ, ◌≤◌, ◌≡◌, refl, List, [], ◌∷◌, ◌++◌, ◌≢◌, length}
use Rattle.std.proofs.Common.{sym, subst, ⊎_elim, arith}
use Rattle.std.proofs.Math.Decide.{ℕ_discrete}
use Rattle.datatypes.specs.declared.Kind.{Kind}
use Rattle.spec.specs.FreeQueue.{Whole}
use Rattle.spec.specs.Pool.{child, standing_word, nodes}
use Rattle.spec.specs.Search.{towards}
use Rattle.base.specs.Lists.{◌∈◌, in-append, Distinct, pigeonhole}
use Rattle.tree.specs.Linked.{Linked}
use Rattle.heap.specs.Rep.{Rep, rep-unique}
use Rattle.readers.specs.Words.{node-high, stands-node}
use Rattle.readers.specs.Reach.{Kept, kept-stands}
use Rattle.readers.specs.Once.{GoesOn, SeenOnce, seen_none, seen_here, seen-turn}

-- slot s is at node n, 0 before its first turn, on its way to the key k
pub record Seen (κ : Kind) (p : List ℕ) (s n k : ℕ) (seen : List ℕ) : Type 0 where
  pub kept : (m : ℕ) → m ∈ seen → Kept p s m
  pub none : n ≡ 0 → seen ≡ []
  pub once : SeenOnce κ p seen n k

pub seen_nothing : (κ : Kind) (p : List ℕ) (s n k : ℕ) → Seen κ p s n k []
seen_nothing κ p s n k = record { kept = λ m i. absurd i; none = λ _. refl; once = seen_none κ p n k }

module _ (κ : Kind) (p : List ℕ) (s n k : ℕ) (seen : List ℕ) (h : Seen κ p s n k seen) where
  -- with its node
  kept_here : Kept p s n → (m : ℕ) → m ∈ (seen ++ n ∷ []) → Kept p s m
  kept_here here m i = ⊎_elim (h.kept m) (λ j. ⊎_elim (λ e. subst (λ y. Kept p s y) (sym e) here) (λ z. absurd z) j) ((in-append m seen (n ∷ [])).0 i)

  -- the slot loads the child
  pub seen-child : (t : Linked) → n ≢ 0 → GoesOn κ p n k → Rep p n t → Kept p s n → child p (towards p k n) n ≢ 0 → Seen κ p s (child p (towards p k n) n) k (seen ++ n ∷ [])
  seen-child t d e r here c = record { kept = kept_here here; none = λ z. absurd (c z); once = seen-turn κ p seen n k t d e r h.once }

  -- the pool becomes q
  pub seen-through : (q : List ℕ) → ((m : ℕ) → Kept p s m → Kept q s m) → (n ≢ 0 → SeenOnce κ q seen n k) → Seen κ q s n k seen
  seen-through q stays on = record {
    kept = λ m i. stays m (h.kept m i);
    none = h.none;
    once = elim (ℕ_discrete n 0) [ yes e ↦ rw (h.none e) (seen_none κ q n k) | no d ↦ on d ];
  }

  -- what its node unfolds to stays
  pub seen-carried : (q : List ℕ) → ((m : ℕ) → Kept p s m → Kept q s m) → (n ≢ 0 → (t : Linked) × Rep p n t × Rep q n t) → Seen κ q s n k seen
  seen-carried q stays both = seen-through q stays (λ d t r. (let b = both d in h.once t (subst (λ u. Rep p n u) (rep-unique q b.0 t n n refl b.2 r) b.1)))

-- nodes kept for a slot, none twice, are at most N
pub kept-few : (p : List ℕ) (s : ℕ) (xs : List ℕ) → Whole p → Distinct xs → ((m : ℕ) → m ∈ xs → Kept p s m) → length xs ≤ nodes p
kept-few p s xs w d kept =
    pigeonhole (nodes p) xs d (λ m i. (let node = stands-node p m standing_word w (omega arith) (kept-stands p s m (kept m i)) in (node.low, node-high p m node)))

-- a slot that is at a node: that node and those seen
pub seen_few : (κ : Kind) (p : List ℕ) (s n k : ℕ) (seen : List ℕ) (t : Linked) → Whole p → n ≢ 0 → Rep p n t → Kept p s n → Seen κ p s n k seen
    → Distinct (seen ++ n ∷ []) × (length (seen ++ n ∷ []) ≤ nodes p)
seen_few κ p s n k seen t w d r here h =
    let once = seen_here κ p seen n k t d r h.once in
    (once, kept-few p s (seen ++ n ∷ []) w once (kept_here κ p s n k seen h here))
