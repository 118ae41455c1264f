-- The fresh pool word by word, by one law over node and word.
use Rattle.std.specs.Prelude.{◌≡◌, refl, List, ◌++◌, Bool, true, false, cond, not, ◌&&◌, eqb, ltb, length, get_or, set, replicate, ℕ, zero, suc, ◌+◌, ◌*◌, ◌/◌, ◌%◌, ◌<◌}
use Rattle.std.proofs.Common.{sym, ap, ◌∙◌, length-append, get_or-set_same, get_or-set_other, get_or-append-add, ext_get_or, lt-ltb, le-ltb, ne_eqb, arith}
use Rattle.std.proofs.lemmas.List.{get_or-replicate}
use Rattle.std.proofs.Math.ListN.{get_or-append}
use Rattle.std.proofs.Math.Decide.{dec_lt, ℕ_discrete}
use Rattle.spec.specs.Numbers.{node_words}
use Rattle.spec.specs.Pool.{next_word, fresh_node, fresh_nodes, fresh_pool}

pub fresh-length : (k n : ℕ) → length (fresh_nodes k n) ≡ k * node_words
unfolding fresh_nodes
fresh-length zero n = refl
fresh-length (suc k) n =
    let h = fresh-length k (n + 1) in
    length-append (fresh_node (cond (eqb k 0) 0 (n + 1))) (fresh_nodes k (n + 1)) ∙ omega arith

-- a word of the first node, and one of the nodes after it
first_word : (x f : ℕ) (l : List ℕ) → f < node_words → get_or (fresh_node x ++ l) f 0 ≡ cond (eqb f next_word) x 0
first_word x f l h =
    get_or-append (fresh_node x) l 0 f h
    ∙ (elim (ℕ_discrete f next_word) [
      | yes e ↦ rw e
      | no d ↦ rw (ne_eqb f next_word d) (get_or-set_other (replicate node_words 0) next_word f x 0 d ∙ get_or-replicate node_words f 0 0 h)
    ])

later-word : (x j : ℕ) (l : List ℕ) → get_or (fresh_node x ++ l) (node_words + j) 0 ≡ get_or l j 0
later-word x j l = get_or-append-add (fresh_node x) l j 0

-- there is a next node unless this is the last
choice : (b c : Bool) (x : ℕ) → cond b (cond c 0 x) 0 ≡ cond (b && not c) x 0
choice true true x = refl
choice true false x = refl
choice false c x = refl

more : (k : ℕ) → not (eqb k 0) ≡ ltb 1 (suc k)
more zero = refl
more (suc k) = rw (ne_eqb (suc k) 0 (omega arith), lt-ltb 1 (suc (suc k)) (omega arith))

less-suc : (x y : ℕ) → ltb x y ≡ ltb (suc x) (suc y)
less-suc x y =
    elim (dec_lt x y) [
      | yes h ↦ lt-ltb x y h ∙ sym (lt-ltb (suc x) (suc y) (omega arith))
      | no h ↦ le-ltb x y (omega arith) ∙ sym (le-ltb (suc x) (suc y) (omega arith))
    ]

-- Word f of the i-th of k nodes from n on, counted from 0: next free is the node after, but of the last node 0; every other word is 0.
abbrev pub fresh_word : ℕ → ℕ → ℕ → ℕ → ℕ
fresh_word k n i f = cond (eqb f next_word && ltb (suc i) k) (n + suc i) 0

pub fresh-word : (k n i f : ℕ) → i < k → f < node_words → get_or (fresh_nodes k n) (i * node_words + f) 0 ≡ fresh_word k n i f
unfolding fresh_nodes
fresh-word zero n i f a b = absurd (omega arith)
fresh-word (suc k) n zero f a b =
    let e : 0 * node_words + f ≡ f = omega arith in
    rw (e, first_word (cond (eqb k 0) 0 (n + 1)) f (fresh_nodes k (n + 1)) b, choice (eqb f next_word) (eqb k 0) (n + 1), more k)
fresh-word (suc k) n (suc i) f a b =
    let e : suc i * node_words + f ≡ node_words + (i * node_words + f) = omega arith in
    let m : n + 1 + suc i ≡ n + suc (suc i) = omega arith in
    rw (e, later-word (cond (eqb k 0) 0 (n + 1)) (i * node_words + f) (fresh_nodes k (n + 1)), fresh-word k (n + 1) i f (omega arith) b, less-suc (suc i) k, m)

-- the same by a word's place in the pool
abbrev pub fresh_at : ℕ → ℕ → ℕ
fresh_at k j = fresh_word k 1 (j / node_words) (j % node_words)

-- a list filled word by word
pub fill-next : (p : List ℕ) (f : ℕ → ℕ) (j v : ℕ) → j < length p → v ≡ f j → ((i : ℕ) → i < j → get_or p i 0 ≡ f i) → (i : ℕ) → i < j + 1
    → get_or (set p j v) i 0 ≡ f i
fill-next p f j v h e old i l =
    elim (ℕ_discrete i j) [
      | yes d ↦ rw d (get_or-set_same p j v 0 h ∙ e)
      | no d ↦ get_or-set_other p j i v 0 d ∙ old i (omega arith)
    ]

pub filled : (p : List ℕ) (k : ℕ) → length p ≡ k * node_words → ((j : ℕ) → j < length p → get_or p j 0 ≡ fresh_at k j) → p ≡ fresh_pool k
unfolding fresh_pool
filled p k e h =
    ext_get_or 0 p (fresh_nodes k 1) (e ∙ sym (fresh-length k 1)) (λ j l.
    let b : j < k * node_words = rw e at l in
    let whole : j / node_words * node_words + j % node_words ≡ j = omega arith in
    h j l ∙ (sym (fresh-word k 1 (j / node_words) (j % node_words) (omega arith) (omega arith)) ∙ ap (λ x. get_or (fresh_nodes k 1) x 0) whole))
