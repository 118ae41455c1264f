-- A reader's own turn: what it loads, that R1 and R2 go on with the child, that its answer is right; and that turn after turn on one state
-- it comes to what the tree holds.
use Rattle.std.specs.Prelude.{ℕ, ◌≡◌, ◌≢◌, true, false, List, [], ◌∷◌, ◌++◌, ltb, length}
use Rattle.std.proofs.Math.Path.{refl}
use Rattle.std.proofs.Common.{sym, ap, ◌∙◌, subst, append_assoc, arith, length-set}
use Rattle.std.proofs.Math.Option.{Option, none, some}
use borrow.Author.Tests.{eq-eqb, ne_eqb, lt-ltb, le-ltb}
use Rattle.datatypes.specs.declared.Side.TheVariants.{L}
use Rattle.datatypes.specs.declared.Kind.TheVariants as kind
use Rattle.datatypes.specs.declared.Reader.{Reader}
use Rattle.spec.specs.Numbers.{slots}
use Rattle.spec.specs.Pool.{word, child, key_word, record_at}
use Rattle.spec.specs.Register.{State, state, reader_of, with_reader, begun_reader, moved_reader, counting}
use Rattle.spec.specs.Free.{end_reading}
use Rattle.spec.specs.Search.{towards}
use Rattle.spec.specs.Calls.{Answer, go, found, outcome, empty_answer, loaded, child_for, after_comparing, reader_step}
use Rattle.tree.specs.Order.{tri-case}
use Rattle.tree.specs.Thin.{Thin}
use Rattle.tree.specs.Linked.{Linked, nil, cell, find, path}
use Rattle.heap.specs.Rep.{Rep}
use Rattle.promise.specs.Demands.{turn_of, Going, ends, goes, answer_of}
use Rattle.laws.specs.Reading.{reader-same}
use Rattle.readers.specs.Lookups.{Unlinked, Finds, OnWay}

-- What a reader's step is: before any node; in a lookup at a node with the key and at another node; in a search for the next ticket at a node.
module _ (st : State) (s : ℕ) (x : Reader) (at : reader_of st.register s ≡ x) where
  pub step-root : x.node ≡ 0 → reader_step st s ≡ loaded st s x st.register.root
  unfolding reader_step
  step-root e = rw (at, e)

  pub step-found : x.kind ≡ kind.Lookup → x.node ≢ 0 → x.key ≡ word st.pool x.node key_word
      → reader_step st s ≡ outcome (found (record_at st.pool x.node)) (end_reading st s)
  unfolding reader_step
  step-found κ d e = rw (at, κ, ne_eqb x.node 0 d, eq-eqb x.key (word st.pool x.node key_word) e)

  pub step-child : x.kind ≡ kind.Lookup → x.node ≢ 0 → x.key ≢ word st.pool x.node key_word
      → reader_step st s ≡ loaded st s (counting x) (child_for st.pool x)
  unfolding reader_step
  step-child κ d e = rw (at, κ, ne_eqb x.node 0 d, ne_eqb x.key (word st.pool x.node key_word) e)

  pub step-next : x.kind ≡ kind.Next → x.node ≢ 0
      → reader_step st s ≡ loaded st s (after_comparing st.pool (counting x)) (child_for st.pool x)
  unfolding reader_step
  step-next κ d = rw (at, κ, ne_eqb x.node 0 d)

-- what a loaded link answers
pub load-none : (st : State) (s : ℕ) (x : Reader) (n : ℕ) → n ≡ 0 → loaded st s x n ≡ outcome (empty_answer x.kind x) (end_reading st s)
load-none st s x n e = rw (eq-eqb n 0 e)

pub load-some : (st : State) (s : ℕ) (x : Reader) (n : ℕ) → n ≢ 0
    → loaded st s x n ≡ outcome go (state st.pool (with_reader st.register s (moved_reader x n)))
load-some st s x n d = rw (ne_eqb n 0 d)

-- At a node that unfolds to t: the key is there with its record, or the child loaded has what t has, and the way is one node shorter.
pub data Compared (p : List ℕ) (n k : ℕ) (t : Linked) : Type 0 where
  met : k ≡ word p n key_word → find t k ≡ some (record_at p n) → Compared p n k t
  on : k ≢ word p n key_word → (u : Linked) → Rep p (child p (towards p k n) n) u → find u k ≡ find t k → path t k ≡ n ∷ path u k → Compared p n k t

pub compared_at : (p : List ℕ) (n k : ℕ) (t : Linked) → n ≢ 0 → Rep p n t → Compared p n k t
compared_at p n k nil d h = absurd (d h)
compared_at p n k (cell N l r) d h =
    let w = h.0 in
    let key : word p n key_word ≡ N.key = rw w.is w.key-is in
    tri-case L k N.key
    (λ o e. on (omega arith) l (rw (lt-ltb k (word p n key_word) (omega arith), w.is) h.1) (rw e) (rw (e, w.is)))
    (λ o e. met (omega arith) (rw (e, w.is, w.val_is)))
    (λ o e. on (omega arith) r (rw (le-ltb k (word p n key_word) (omega arith), w.is) h.2) (rw e) (rw (e, w.is)))

-- R1 and R2 go on.
pub turn-finds : (p : List ℕ) (A : Option ℕ → Type 0) (n k : ℕ) → n ≢ 0 → k ≢ word p n key_word → Finds p A n k → Finds p A (child p (towards p k n) n) k
turn-finds p A n k d e f = case (compared_at p n k f.tree d f.unfolds)
  where
    case : Compared p n k f.tree → Finds p A (child p (towards p k n) n) k
    case (met i j) = absurd (e i)
    case (on i u r a b) = record { tree = u; unfolds = r; answer = subst A (sym a) f.answer }

pub turn-way : (p : List ℕ) (root : ℕ) (seen : List ℕ) (n k : ℕ) → n ≢ 0 → k ≢ word p n key_word → OnWay p root seen n k
    → OnWay p root (seen ++ n ∷ []) (child p (towards p k n) n) k
turn-way p root seen n k d e w = case (compared_at p n k w.tree d w.unfolds)
  where
    case : Compared p n k w.tree → OnWay p root (seen ++ n ∷ []) (child p (towards p k n) n) k
    case (met i j) = absurd (e i)
    case (on i u r a b) = record {
      tree = u;
      whole = w.whole;
      unfolds = r;
      rooted = w.rooted;
      follows = rw (append_assoc seen (n ∷ []) (path u k)) (subst (λ xs. Thin (Unlinked p) (seen ++ xs) (path w.whole k)) b w.follows);
    }

-- The answer is right: one of those possible so far.
pub turn-found : (p : List ℕ) (A : Option ℕ → Type 0) (n k : ℕ) → n ≢ 0 → k ≡ word p n key_word → Finds p A n k → A (some (record_at p n))
turn-found p A n k d e f = case (compared_at p n k f.tree d f.unfolds)
  where
    case : Compared p n k f.tree → A (some (record_at p n))
    case (met i j) = subst A j f.answer
    case (on i u r a b) = absurd (i e)

pub turn-absent : (p : List ℕ) (A : Option ℕ → Type 0) (k n : ℕ) → n ≡ 0 → Finds p A n k → A none
turn-absent p A k n e f = case f.tree f.unfolds f.answer
  where
    case : (t : Linked) → Rep p n t → A (find t k) → A none
    case nil h a = a
    case (cell N l r) h a = let i = h.0.is in let j = h.0.within.low in absurd (omega arith)

-- Turn after turn on one state, by a reader in slot 0.
module _ (st : State) (per_slot : length st.register.readers ≡ slots) where
  abbrev pub posed : Reader → State
  posed x = state st.pool (with_reader st.register 0 x)

  pub there : (x : Reader) → reader_of (posed x).register 0 ≡ x
  there x = reader-same st.register 0 x (rw per_slot (omega arith))

  again : (x y : Reader) → reader_of (with_reader (posed x).register 0 y) 0 ≡ y
  unfolding with_reader
  again x y = reader-same (posed x).register 0 y (rw (length-set st.register.readers 0 x, per_slot) (omega arith))

  -- a turn that loads node c, going by the record y: none answers, and any other goes on from there
  pub going-none : (x y : Reader) (c : ℕ) → turn_of st x ≡ loaded (posed x) 0 y c → c ≡ 0 → Going st x (empty_answer y.kind y)
  going-none x y c e z = ends x _ (ap (λ o. o.answer) (e ∙ load-none (posed x) 0 y c z))

  pub going-some : (x y : Reader) (c : ℕ) (a : Answer) → turn_of st x ≡ loaded (posed x) 0 y c → c ≢ 0 → Going st (moved_reader y c) a → Going st x a
  going-some x y c a e d g =
      let o = e ∙ load-some (posed x) 0 y c d in
      goes x a (ap (λ o. o.answer) o) (subst (λ z. Going st z a) (sym (ap (λ o. reader_of o.after.register 0) o ∙ again x (moved_reader y c))) g)

  -- A lookup of the key k, whatever its record counts.
  module _ (k : ℕ) where
    record Looking (x : Reader) : Type 0 where
      kind : x.kind ≡ kind.Lookup
      key : x.key ≡ k

    -- a link is loaded that unfolds to t, by the record y
    going-load : (x y : Reader) (c : ℕ) (t : Linked) → Looking y → turn_of st x ≡ loaded (posed x) 0 y c → Rep st.pool c t
        → (c ≢ 0 → Going st (moved_reader y c) (answer_of (find t k))) → Going st x (answer_of (find t k))
    going-load x y c nil i e r next = subst (λ κ. Going st x (empty_answer κ y)) i.kind (going-none x y c e r)
    going-load x y c (cell N l r) i e h next =
        let d : c ≢ 0 = (let i = h.0.is in let j = h.0.within.low in omega arith) in
        going-some x y c (answer_of (find (cell N l r) k)) e d (next d)

    going : (t : Linked) (x : Reader) → Looking x → Rep st.pool x.node t → x.node ≢ 0 → Going st x (answer_of (find t k))
    going nil x i h d = absurd (d h)
    going (cell N l r) x i h d =
        let p = st.pool in
        let n = x.node in
        let c = child_for p x in
        let w = h.0 in
        let key : word p n key_word ≡ N.key = rw w.is w.key-is in
        let val : record_at p n ≡ N.val = rw w.is w.val_is in
        let wanted : x.key ≡ k = i.key in
        let on : Looking (counting x) = record { kind = i.kind; key = i.key } in
        let moved : Looking (moved_reader (counting x) c) = record { kind = i.kind; key = i.key } in
        let step : x.key ≢ word p n key_word → turn_of st x ≡ loaded (posed x) 0 (counting x) c = λ e. step-child (posed x) 0 x (there x) i.kind d e in
        let left : ltb x.key (word p n key_word) ≡ true → Rep p c l = λ e. rw (e, w.is) h.1 in
        let right : ltb x.key (word p n key_word) ≡ false → Rep p c r = λ e. rw (e, w.is) h.2 in
        tri-case L k N.key
        (λ o e. let u = left (lt-ltb x.key (word p n key_word) (omega arith)) in
        rw e (going-load x (counting x) c l on (step (omega arith)) u (going l (moved_reader (counting x) c) moved u)))
        (λ o e. rw e (ends x (found N.val) (ap (λ y. y.answer) (step-found (posed x) 0 x (there x) i.kind d (omega arith)) ∙ ap found val)))
        (λ o e. let u = right (le-ltb x.key (word p n key_word) (omega arith)) in
        rw e (going-load x (counting x) c r on (step (omega arith)) u (going r (moved_reader (counting x) c) moved u)))

    -- from the root: what the whole tree has
    pub going-root : (T : Linked) → Rep st.pool st.register.root T → Going st (begun_reader kind.Lookup k) (answer_of (find T k))
    unfolding with_reader
    going-root T h =
        let x = begun_reader kind.Lookup k in
        let c = st.register.root in
        going-load x x c T (record { kind = refl; key = refl }) (step-root (posed x) 0 x (there x) refl) h
        (λ d. going T (moved_reader x c) (record { kind = refl; key = refl }) h d)
