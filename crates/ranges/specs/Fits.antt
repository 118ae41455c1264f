-- The ranges of 01's 'Pool and register', word by word, and that each change a call is made of stays within them.
use Rattle.std.specs.Prelude.{ℕ, zero, suc, ◌+◌, ◌/◌, ◌<◌, ◌≤◌, ◌≡◌, refl, Bool, true, false, cond, List, [], ◌∷◌, ◌⊎◌, eqb, ltb, length, get_or, set}
use Rattle.std.proofs.Common.{sym, ap, ◌∙◌, subst, inl, inr, arith, length-set, get_or-set_same, get_or-set_other, lt-ltb, le-ltb}
use Rattle.std.proofs.Math.Decide.{ℕ_discrete, dec_lt}
use Rattle.base.specs.Lists.{get_d_past}
use Rattle.base.specs.Walk.{cond_both, fold-keeps}
use Rattle.datatypes.specs.declared.Side.{Side}
use Rattle.datatypes.specs.declared.Side.TheVariants.{L, R}
use Rattle.datatypes.specs.declared.Link.{Link}
use Rattle.datatypes.specs.declared.Link.TheVariants.{Root, Left, Right}
use Rattle.datatypes.specs.declared.Reader.{Reader}
use Rattle.datatypes.specs.declared.Write.{Write}
use Rattle.datatypes.specs.Side.{other}
use Rattle.spec.specs.Numbers.{node_words}
use Rattle.spec.specs.Pool.{place, word, set_word, child, paint, nodes, record_high_word, left_word, right_word, link_word, red_colour, standing_retired}
use Rattle.spec.specs.Pool.{colour_word, standing_word, holders_word, next_word, standing_free, standing_linked, standing_retired, standing_apart}
use Rattle.spec.specs.Register.{State, state, no_reader, reader_of, with_root, with_queue, with_held, with_reader, with_awaited, with_write, count_up}
use Rattle.spec.specs.Register.{count_down, node_at, link_node, set_link, drop_slot, reading_slots}
use Rattle.spec.specs.Free.{queue_empty, take_free, take_node, free_node, retire, retire_two, release, end_reading, take_as}
use Rattle.laws.specs.Words.{length-set_word, set-none, word_at, set_at, word-other}
use Rattle.laws.specs.Queue.{fill-as-keeps}
use Rattle.readers.specs.Words.{fill-as-length}

-- word f may be v; the capacity is N
pub record WordOk (capacity f v : ℕ) : Type 0 where
  pub left : f ≡ left_word → v ≤ capacity
  pub right : f ≡ right_word → v ≤ capacity
  pub colour : f ≡ colour_word → v ≤ red_colour
  pub standing : f ≡ standing_word → v ≤ standing_apart
  pub next : f ≡ next_word → v ≤ capacity

abbrev pub PoolOk : ℕ → List ℕ → Type 0
PoolOk capacity p = (n f : ℕ) → f < node_words → WordOk capacity f (word p n f)

pub fit-zero : (capacity f : ℕ) → WordOk capacity f 0
fit-zero capacity f = omega arith

-- a word after a set: the old one, the new one, or 0 past the end
pub set_cases : (p : List ℕ) (d m f g v : ℕ) → f < node_words → g < node_words
    → (word (set_word p d f v) m g ≡ word p m g) ⊎ (((f ≡ g) × (word (set_word p d f v) m g ≡ v)) ⊎ (word (set_word p d f v) m g ≡ 0))
set_cases p d m f g v hf hg = elim (ℕ_discrete d m) [
  | no e ↦ inl (word-other p d m f g v hf hg (inl e))
  | yes e ↦ elim (ℕ_discrete f g) [
    | no i ↦ inl (word-other p d m f g v hf hg (inr i))
    | yes i ↦ elim (ℕ_discrete d 0) [
      | yes z ↦ inl (rw (z, set-none p f v))
      | no z ↦ rw (← e, ← i, word_at (set_word p d f v) d f (omega arith), set_at p d f v (omega arith)) (elim (dec_lt (place d f) (length p)) [
        | yes u ↦ inr (inl (refl, get_or-set_same p (place d f) v 0 u))
        | no u ↦ inr (inr (get_d_past 0 (set p (place d f) v) (place d f) (rw (length-set p (place d f) v) (omega arith))))
      ])
    ]
  ]
]

pub fits-set : (capacity : ℕ) (p : List ℕ) (d f v : ℕ) → f < node_words → WordOk capacity f v → PoolOk capacity p → PoolOk capacity (set_word p d f v)
fits-set capacity p d f v hf fit h m g hg = go (set_cases p d m f g v hf hg)
  where
    go : (word (set_word p d f v) m g ≡ word p m g) ⊎ (((f ≡ g) × (word (set_word p d f v) m g ≡ v)) ⊎ (word (set_word p d f v) m g ≡ 0)) → WordOk capacity g (word (set_word p d f v) m g)
    go (inl e) = rw e (h m g hg)
    go (inr (inl e)) = rw e.1 (subst (λ x. WordOk capacity x v) e.0 fit)
    go (inr (inr e)) = rw e (fit-zero capacity g)

-- values that fit: of key and record any
fit-ticket : (capacity f v : ℕ) → f ≤ record_high_word → WordOk capacity f v
fit-ticket capacity f v h = omega arith

fit-link : (capacity : ℕ) (s : Side) (v : ℕ) → v ≤ capacity → WordOk capacity (link_word s) v
fit-link capacity L v h = omega arith
fit-link capacity R v h = omega arith

fit-colour : (capacity v : ℕ) → v ≤ 1 → WordOk capacity colour_word v
fit-colour capacity v h = omega arith

pub fit-standing : (capacity v : ℕ) → v ≤ standing_apart → WordOk capacity standing_word v
fit-standing capacity v h = omega arith

fit-holders : (capacity v : ℕ) → WordOk capacity holders_word v
fit-holders capacity v = omega arith

pub fit_next : (capacity v : ℕ) → v ≤ capacity → WordOk capacity next_word v
fit_next capacity v h = omega arith

-- words read off the pool fit
pub child_fits : (capacity : ℕ) (p : List ℕ) (s : Side) (n : ℕ) → PoolOk capacity p → child p s n ≤ capacity
child_fits capacity p L n h = (h n left_word (omega arith)).left refl
child_fits capacity p R n h = (h n right_word (omega arith)).right refl

pub colour-fits : (capacity : ℕ) (p : List ℕ) (n : ℕ) → PoolOk capacity p → word p n colour_word ≤ red_colour
colour-fits capacity p n h = (h n colour_word (omega arith)).colour refl

next_fits : (capacity : ℕ) (p : List ℕ) (n : ℕ) → PoolOk capacity p → word p n next_word ≤ capacity
next_fits capacity p n h = (h n next_word (omega arith)).next refl

-- The register but for the write in hand, with the pool; the pool has N nodes.
pub record Within (capacity : ℕ) (st : State) : Type 0 where
  pub size : nodes st.pool ≡ capacity
  pub fits : PoolOk capacity st.pool
  pub root : st.register.root ≤ capacity
  pub first : st.register.first ≤ capacity
  pub last : st.register.last ≤ capacity
  pub free : st.register.free ≤ capacity
  pub held : st.register.held ≤ capacity
  pub readers : (s : ℕ) → (reader_of st.register s).node ≤ capacity

-- another pool of the same size
pub within-pool : (capacity : ℕ) (st : State) (q : List ℕ) → length q ≡ length st.pool → PoolOk capacity q → Within capacity st → Within capacity (state q st.register)
within-pool capacity st q e f h = record {
  size = ap (λ n. n / node_words) e ∙ h.size;
  fits = f;
  root = h.root;
  first = h.first;
  last = h.last;
  free = h.free;
  held = h.held;
  readers = h.readers;
}

cond-le : (b : Bool) (x y capacity : ℕ) → x ≤ capacity → y ≤ capacity → cond b x y ≤ capacity
cond-le true x y capacity a b = a
cond-le false x y capacity a b = b

count-up : (capacity n : ℕ) → n ≤ capacity → count_up capacity n ≤ capacity
count-up capacity n h = elim (dec_lt n capacity) [ yes u ↦ rw (lt-ltb n capacity u) (omega arith) | no u ↦ rw (le-ltb n capacity (omega arith)) h ]

-- Take.
pub within-take-as : (t capacity : ℕ) (st : State) (k v : ℕ) (s : Side) (x y c : ℕ) → t ≤ standing_apart → x ≤ capacity → y ≤ capacity → c ≤ 1 → Within capacity st
    → Within capacity (take_as t st k v s x y c)
unfolding take_as take_free with_queue
within-take-as t capacity st k v s x y c ht hx hy hc h =
    let p = st.pool in
    let n = st.register.first in
    let next = word p n next_word in
    record {
      size = ap (λ m. m / node_words) (fill-as-length t p n k v s x y c) ∙ h.size;
      fits = fill-as-keeps t (PoolOk capacity) p n k v s x y c (WordOk capacity) (λ q f u. fits-set capacity q n f u) record {
        key = fit-ticket capacity _ k (omega arith);
        low = fit-ticket capacity _ _ (omega arith);
        high = fit-ticket capacity _ _ (omega arith);
        near = fit-link capacity s x hx;
        far = fit-link capacity (other s) y hy;
        colour = fit-colour capacity c hc;
        standing = fit-standing capacity t ht;
        zero = fit-zero capacity;
      } h.fits;
      root = h.root;
      first = next_fits capacity p n h.fits;
      last = cond-le (eqb next 0) 0 st.register.last capacity (omega arith) h.last;
      free = let a = h.free in omega arith;
      held = h.held;
      readers = h.readers;
    }

pub within-take : (capacity : ℕ) (st : State) (k v : ℕ) (s : Side) (x y c : ℕ) → x ≤ capacity → y ≤ capacity → c ≤ 1 → Within capacity st → Within capacity (take_node st k v s x y c)
within-take capacity st k v s x y c hx hy hc h = within-take-as standing_linked capacity st k v s x y c (omega arith) hx hy hc h

-- Free, retire, release.
pub within-free : (capacity : ℕ) (st : State) (n : ℕ) → n ≤ capacity → Within capacity st → Within capacity (free_node st n)
unfolding free_node with_queue
within-free capacity st n hn h =
    let p = st.pool in
    let a = set_word p n standing_word standing_free in
    let b = set_word a n holders_word 0 in
    let d = set_word b st.register.last next_word n in
    let fb : PoolOk capacity b
    = fits-set capacity a n holders_word 0 (omega arith) (fit-zero capacity holders_word) (fits-set capacity p n standing_word standing_free (omega arith) (fit-zero capacity standing_word) h.fits) in
    let fd : PoolOk capacity d = fits-set capacity b st.register.last next_word n (omega arith) (fit_next capacity n hn) fb in
    let lb : length b ≡ length p = length-set_word a n holders_word 0 ∙ length-set_word p n standing_word standing_free in
    let ld : length d ≡ length p = length-set_word b st.register.last next_word n ∙ lb in
    let le : length (cond (queue_empty st) b d) ≡ length p = cond_both {A = List ℕ} (λ q. length q ≡ length p) (queue_empty st) lb ld in
    record {
      size = ap (λ m. m / node_words) (length-set_word (cond (queue_empty st) b d) n next_word 0 ∙ le) ∙ h.size;
      fits = fits-set capacity (cond (queue_empty st) b d) n next_word 0 (omega arith) (fit-zero capacity next_word) (cond_both (λ q. PoolOk capacity q) (queue_empty st) fb fd);
      root = h.root;
      first = cond-le (queue_empty st) n st.register.first capacity hn h.first;
      last = hn;
      free = rw h.size (count-up capacity st.register.free h.free);
      held = h.held;
      readers = h.readers;
    }

pub within-retire : (capacity : ℕ) (st : State) (n : ℕ) → n ≤ capacity → Within capacity st → Within capacity (retire st n)
unfolding retire
within-retire capacity st n hn h =
    let p = st.pool in
    let m = reading_slots st.register in
    let a = set_word p n standing_word standing_retired in
    cond_both (λ x. Within capacity x) (eqb m 0) (within-free capacity st n hn h)
    (within-pool capacity st (set_word a n holders_word m) (length-set_word a n holders_word m ∙ length-set_word p n standing_word standing_retired)
    (fits-set capacity a n holders_word m (omega arith) (fit-holders capacity m)
    (fits-set capacity p n standing_word standing_retired (omega arith) (fit-standing capacity standing_retired (omega arith)) h.fits)) h)

pub within-retire_two : (capacity : ℕ) (st : State) (a c : ℕ) → a ≤ capacity → c ≤ capacity → Within capacity st → Within capacity (retire_two st a c)
unfolding retire_two
within-retire_two capacity st a c ha hc h =
    cond_both (λ x. Within capacity x) (eqb a c) (within-retire capacity st a ha h)
    (within-retire capacity _ (cond (ltb a c) c a) (cond-le (ltb a c) c a capacity hc ha) (within-retire capacity st (cond (ltb a c) a c) (cond-le (ltb a c) a c capacity ha hc) h))

within-release : (capacity s : ℕ) (st : State) (n : ℕ) → n ≤ capacity → Within capacity st → Within capacity (release s st n)
unfolding release
within-release capacity s st n hn h =
    let p = st.pool in
    let d = drop_slot (word p n holders_word) s in
    cond_both (λ x. Within capacity x) (eqb (word p n standing_word) standing_retired)
    (cond_both (λ x. Within capacity x) (eqb d 0) (within-free capacity st n hn h)
    (within-pool capacity st (set_word p n holders_word d) (length-set_word p n holders_word d) (fits-set capacity p n holders_word d (omega arith) (fit-holders capacity d) h.fits) h))
    h

past-reader : (l : List Reader) (i : ℕ) → length l ≤ i → get_or l i no_reader ≡ no_reader
past-reader [] i h = refl
past-reader (x ∷ l) zero h = absurd (omega arith)
past-reader (x ∷ l) (suc i) h = past-reader l i (omega arith)

-- a reader's record
pub within-reader : (capacity : ℕ) (st : State) (s : ℕ) (x : Reader) → x.node ≤ capacity → Within capacity st → Within capacity (state st.pool (with_reader st.register s x))
unfolding with_reader
within-reader capacity st s x hx h = record {
  size = h.size;
  fits = h.fits;
  root = h.root;
  first = h.first;
  last = h.last;
  free = h.free;
  held = h.held;
  readers = λ t. elim (ℕ_discrete s t) [
    | no d ↦ subst (λ y. y.node ≤ capacity) (sym (get_or-set_other st.register.readers s t x no_reader (λ e. d (sym e)))) (h.readers t)
    | yes e ↦ elim (dec_lt s (length st.register.readers)) [
      | yes u ↦ subst (λ m. (get_or (set st.register.readers s x) m no_reader).node ≤ capacity) e (subst (λ y. y.node ≤ capacity) (sym (get_or-set_same st.register.readers s x no_reader u)) hx)
      | no u ↦ subst (λ m. (get_or (set st.register.readers s x) m no_reader).node ≤ capacity) e
          (subst (λ y. y.node ≤ capacity) (sym (past-reader (set st.register.readers s x) s (rw (length-set st.register.readers s x) (omega arith)))) (omega arith))
    ]
  ];
}

pub within-awaited : (capacity : ℕ) (st : State) (m : ℕ) → Within capacity st → Within capacity (state st.pool (with_awaited st.register m))
unfolding with_awaited
within-awaited capacity st m h = record { size = h.size; fits = h.fits; root = h.root; first = h.first; last = h.last; free = h.free; held = h.held; readers = h.readers }

-- the end of a reading
pub within_end : (capacity : ℕ) (st : State) (s : ℕ) → Within capacity st → Within capacity (end_reading st s)
unfolding end_reading
within_end capacity st s h =
    let r = with_reader st.register s no_reader in
    let a = within-reader capacity st s no_reader (omega arith) h in
    let z = h.size in
    fold-keeps (release s) (λ x. Within capacity x) 1 (nodes st.pool + 1) (state st.pool (with_awaited r (drop_slot r.awaited s)))
    (λ x i u v w. within-release capacity s x i (omega arith) w)
    (within-awaited capacity (state st.pool r) (drop_slot r.awaited s) a)

-- the write in hand is not looked at
pub within-write : (capacity : ℕ) (st : State) (w : Write) → Within capacity st → Within capacity (state st.pool (with_write st.register w))
unfolding with_write
within-write capacity st w h = record { size = h.size; fits = h.fits; root = h.root; first = h.first; last = h.last; free = h.free; held = h.held; readers = h.readers }

-- Links, colours, keys held.
pub within-link : (capacity : ℕ) (st : State) (l : Link) (v : ℕ) → v ≤ capacity → Within capacity st → Within capacity (set_link st l v)
unfolding set_link with_root
within-link capacity st Root v hv h = record { size = h.size; fits = h.fits; root = hv; first = h.first; last = h.last; free = h.free; held = h.held; readers = h.readers }
within-link capacity st (Left n) v hv h = within-pool capacity st (set_word st.pool n left_word v) (length-set_word st.pool n left_word v)
    (fits-set capacity st.pool n left_word v (omega arith) (fit-link capacity L v hv) h.fits) h
within-link capacity st (Right n) v hv h = within-pool capacity st (set_word st.pool n right_word v) (length-set_word st.pool n right_word v)
    (fits-set capacity st.pool n right_word v (omega arith) (fit-link capacity R v hv) h.fits) h

pub fits-paint : (capacity : ℕ) (p : List ℕ) (n c : ℕ) → c ≤ 1 → PoolOk capacity p → PoolOk capacity (paint p n c)
fits-paint capacity p n c hc h = fits-set capacity p n colour_word c (omega arith) (fit-colour capacity c hc) h

pub within_held : (capacity : ℕ) (st : State) (n : ℕ) → n ≤ capacity → Within capacity st → Within capacity (state st.pool (with_held st.register n))
unfolding with_held
within_held capacity st n hn h = record { size = h.size; fits = h.fits; root = h.root; first = h.first; last = h.last; free = h.free; held = hn; readers = h.readers }

pub within_more : (capacity : ℕ) (st : State) → Within capacity st → Within capacity (state st.pool (with_held st.register (count_up (nodes st.pool) st.register.held)))
within_more capacity st h = within_held capacity st _ (rw h.size (count-up capacity st.register.held h.held)) h

pub within-less : (capacity : ℕ) (st : State) → Within capacity st → Within capacity (state st.pool (with_held st.register (count_down st.register.held)))
within-less capacity st h = within_held capacity st _ (let a = h.held in omega arith) h

pub node-fits : (capacity : ℕ) (st : State) (l : Link) → Within capacity st → link_node st l ≤ capacity
unfolding node_at
node-fits capacity st Root h = h.root
node-fits capacity st (Left n) h = child_fits capacity st.pool L n h.fits
node-fits capacity st (Right n) h = child_fits capacity st.pool R n h.fits
