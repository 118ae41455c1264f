-- A node taken and filled: it unfolds to its tree, and every other node is as it was. Retiring and freeing leave links, keys, records and
-- colours as they were.
use Rattle.std.specs.Prelude.{ℕ, ◌*◌, ◌<◌, ◌≡◌, refl, ◌≢◌, cond, List, length, eqb, ltb}
use Rattle.std.proofs.Common.{◌∙◌, le-leb, lt-ltb, ne_eqb, eq-eqb, arith}
use Rattle.datatypes.specs.declared.Side.{Side}
use Rattle.datatypes.specs.declared.Side.TheVariants.{L, R}
use Rattle.datatypes.specs.declared.Register.{Register}
use Rattle.datatypes.specs.Side.{other}
use Rattle.base.specs.Walk.{cond_both}
use Rattle.spec.specs.Numbers.{node_words}
use Rattle.spec.specs.Pool.{word, set_word, child, key_word, record_at, colour_word, standing_word, holders_word, next_word, standing_free, standing_linked, standing_retired}
use Rattle.spec.specs.Register.{State, with_queue, reading_slots}
use Rattle.spec.specs.Free.{queue_empty, take_free, fill_node, take_node, free_node, retire, retire_two, fill_as, take_as}
use Rattle.spec.specs.FreeQueue.{InPool}
use Rattle.laws.specs.Words.{length-set_word, word_set}
use Rattle.laws.specs.Records.{two-words}
use Rattle.tree.specs.Linked.{Linked, at, nodes}
use Rattle.tree.specs.Occurs.{occ, occ-apart}
use Rattle.heap.specs.Rep.{Rep, rep_at, Agree, agree-words, rep-agree, Alike, alike-trans, alike_set, up_to_colour}
use Rattle.heap.specs.Colours.{hue, colours, colours-word, colours-is}

-- q is p with node n filled
pub record Filled (p q : List ℕ) (n k v : ℕ) (s : Side) (x y c : ℕ) : Type 0 where
  pub size : length q ≡ length p
  pub others : (m f : ℕ) → n ≢ m → f < node_words → word q m f ≡ word p m f
  pub key-is : word q n key_word ≡ k
  pub val_is : record_at q n ≡ v
  pub near-is : child q s n ≡ x
  pub far-is : child q (other s) n ≡ y
  pub colour-is : colours q n ≡ hue c

pub fill-as : (t : ℕ) (p : List ℕ) (n k v : ℕ) (s : Side) (x y c : ℕ) → InPool p n → Filled p (fill_as t p n k v s x y c) n k v s x y c
unfolding fill_as record_at
fill-as t p n k v L x y c w =
    let a = le-leb 1 n w.low in
    let b = le-leb (n * node_words) (length p) w.high in
    let e = eq-eqb n n refl in
    record {
      size = simp length-set_word;
      others = λ m f d h. simp (word_set, length-set_word, a, b, ne_eqb n m d, lt-ltb f node_words h);
      key-is = simp (word_set, length-set_word, a, b, e);
      val_is = simp (word_set, length-set_word, a, b, e) (two-words v);
      near-is = simp (word_set, length-set_word, a, b, e);
      far-is = simp (word_set, length-set_word, a, b, e);
      colour-is = colours-is _ n c (simp (word_set, length-set_word, a, b, e));
    }
fill-as t p n k v R x y c w =
    let a = le-leb 1 n w.low in
    let b = le-leb (n * node_words) (length p) w.high in
    let e = eq-eqb n n refl in
    record {
      size = simp length-set_word;
      others = λ m f d h. simp (word_set, length-set_word, a, b, ne_eqb n m d, lt-ltb f node_words h);
      key-is = simp (word_set, length-set_word, a, b, e);
      val_is = simp (word_set, length-set_word, a, b, e) (two-words v);
      near-is = simp (word_set, length-set_word, a, b, e);
      far-is = simp (word_set, length-set_word, a, b, e);
      colour-is = colours-is _ n c (simp (word_set, length-set_word, a, b, e));
    }

pub fill-node : (p : List ℕ) (n k v : ℕ) (s : Side) (x y c : ℕ) → InPool p n → Filled p (fill_node p n k v s x y c) n k v s x y c
fill-node = fill-as standing_linked

module _ {p q : List ℕ} {n k v : ℕ} {s : Side} {x y c : ℕ} (h : Filled p q n k v s x y c) where
  -- trees without the new node stay
  pub filled-agree : (m : ℕ) → n ≢ m → Agree p q m
  filled-agree m d = agree-words p q m (λ f l. h.others m f d (omega arith))

  pub filled_keeps : (t : Linked) (a : ℕ) → occ n (nodes t) ≡ 0 → Rep p a t → Rep q a t
  filled_keeps t a o r = rep-agree p q h.size t a (λ m i. filled-agree m (occ-apart n m (nodes t) o i)) r

  pub filled-colours : (m : ℕ) → n ≢ m → colours q m ≡ colours p m
  filled-colours m d = colours-word p q m (h.others m colour_word d (omega arith))

  -- the new node unfolds to its tree
  pub filled-rep : (X Y : Linked) → InPool p n → occ n (nodes X) ≡ 0 → occ n (nodes Y) ≡ 0 → Rep p x X → Rep p y Y
      → Rep q n (at s (record { num = n; key = k; val = v }) X Y)
  filled-rep X Y w ox oy rx ry =
      (rep_at q n s (record { num = n; key = k; val = v }) X Y).1 (
        record { is = refl; within = record { low = w.low; high = rw h.size w.high }; key-is = h.key-is; val_is = h.val_is },
        rw h.near-is (filled_keeps X x ox rx),
        rw h.far-is (filled_keeps Y y oy ry),
      )

-- the register after a node is taken: only the queue's fields change
pub take-pool : (st : State) (k v : ℕ) (s : Side) (x y c : ℕ) → (take_node st k v s x y c).pool ≡ fill_node st.pool st.register.first k v s x y c
unfolding take_as take_free
take-pool st k v s x y c = refl

pub record Queued (r q : Register) : Type 0 where
  pub root : q.root ≡ r.root
  pub held : q.held ≡ r.held
  pub readers : q.readers ≡ r.readers
  pub awaited : q.awaited ≡ r.awaited
  pub write : q.write ≡ r.write

pub queued-trans : {r q u : Register} → Queued r q → Queued q u → Queued r u
queued-trans a b = record {
  root = b.root ∙ a.root;
  held = b.held ∙ a.held;
  readers = b.readers ∙ a.readers;
  awaited = b.awaited ∙ a.awaited;
  write = b.write ∙ a.write;
}

queued-refl : (r : Register) → Queued r r
queued-refl r = record { root = refl; held = refl; readers = refl; awaited = refl; write = refl }

pub take-register : (st : State) (k v : ℕ) (s : Side) (x y c : ℕ) → Queued st.register (take_node st k v s x y c).register
unfolding take_as take_free with_queue
take-register st k v s x y c = record { root = refl; held = refl; readers = refl; awaited = refl; write = refl }

-- Retiring and freeing.
pub record Quiet (st after : State) : Type 0 where
  pub words : Alike up_to_colour st.pool after.pool
  pub fields : Queued st.register after.register

pub quiet-trans : {a b c : State} → Quiet a b → Quiet b c → Quiet a c
quiet-trans x y = record { words = alike-trans x.words y.words; fields = queued-trans x.fields y.fields }

pub free-quiet : (st : State) (n : ℕ) → Quiet st (free_node st n)
unfolding free_node with_queue
free-quiet st n =
    let p = st.pool in
    let a = set_word p n standing_word standing_free in
    let b = set_word a n holders_word 0 in
    let d = set_word b st.register.last next_word n in
    let one = alike-trans (alike_set up_to_colour p n standing_word standing_free (omega arith) (omega arith)) (alike_set up_to_colour a n holders_word 0 (omega arith) (omega arith)) in
    let queued = alike-trans one (alike_set up_to_colour b st.register.last next_word n (omega arith) (omega arith)) in
    let two : Alike up_to_colour p (cond (queue_empty st) b d) = cond_both (λ q. Alike up_to_colour p q) (queue_empty st) one queued in
    record {
      words = alike-trans two (alike_set up_to_colour (cond (queue_empty st) b d) n next_word 0 (omega arith) (omega arith));
      fields = record { root = refl; held = refl; readers = refl; awaited = refl; write = refl };
    }

pub retire-quiet : (st : State) (n : ℕ) → Quiet st (retire st n)
unfolding retire
retire-quiet st n =
    let p = st.pool in
    let a = set_word p n standing_word standing_retired in
    cond_both (λ x. Quiet st x) (eqb (reading_slots st.register) 0) (free-quiet st n) record {
      words = alike-trans (alike_set up_to_colour p n standing_word standing_retired (omega arith) (omega arith))
          (alike_set up_to_colour a n holders_word (reading_slots st.register) (omega arith) (omega arith));
      fields = queued-refl st.register;
    }

pub retire_two-quiet : (st : State) (a c : ℕ) → Quiet st (retire_two st a c)
unfolding retire_two
retire_two-quiet st a c =
    let least = cond (ltb a c) a c in
    let most = cond (ltb a c) c a in
    cond_both (λ x. Quiet st x) (eqb a c) (retire-quiet st a) (quiet-trans (retire-quiet st least) (retire-quiet (retire st least) most))
