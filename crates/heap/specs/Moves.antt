-- What every store of the writer is made of: a node may be taken and filled, one link is stored, nodes are painted, nodes are retired.
-- The tree at the place after the store, the colours, and the register's other fields.
use Rattle.std.specs.Prelude.{ℕ, ◌<◌, ◌≤◌, ◌≡◌, refl, ◌≢◌, List, [], ◌∷◌, length}
use Rattle.std.proofs.Common.{sym, ap, ◌∙◌, arith}
use Rattle.datatypes.specs.declared.Side.{Side}
use Rattle.datatypes.specs.declared.Link.{Link}
use Rattle.datatypes.specs.declared.Link.TheVariants.{Root, Left, Right}
use Rattle.datatypes.specs.declared.Register.{Register}
use Rattle.spec.specs.Pool.{black_colour, left_word, right_word}
use Rattle.spec.specs.Register.{State, set_link, with_root, with_held}
use Rattle.spec.specs.Free.{take_node}
use Rattle.spec.specs.Turn.{painted, black_root}
use Rattle.spec.specs.FreeQueue.{InPool}
use Rattle.laws.specs.Words.{length-set_word}
use Rattle.sequential.specs.Tree as Seq
use Rattle.sequential.specs.Tree.{black}
use Rattle.tree.specs.Linked.{Linked, at, nodes}
use Rattle.tree.specs.Zipper.{Frame, hole, plug}
use Rattle.tree.specs.Erase.{erase}
use Rattle.tree.specs.Occurs.{one, one_same, one-other, one-case, occ, occ_way, occ-plug, occ-apart}
use Rattle.heap.specs.Rep.{Rep, Alike, alike-less, up_to_links}
use Rattle.heap.specs.Sites.{link_to, Site, of-site, site-agree, site-alike, Clear, site-store}
use Rattle.heap.specs.Colours.{hue, colours, colours-alike, colours-link, paint-alike, erase-occ, erase-top}
use Rattle.heap.specs.Fill.{Filled, fill-node, filled-agree, filled-colours, filled-rep, take-pool, take-register, Queued, Quiet}

-- in a state the way leads to the tree
abbrev pub At : State → List Frame → Linked → Type 0
At st fs t = Site st.pool st.register.root fs t

-- the node that a step takes: one of the pool's that does not stand in the tree
pub record Fresh (st : State) (T : Linked) : Type 0 where
  pub within : InPool st.pool st.register.first
  pub new : occ st.register.first (nodes T) ≡ 0

-- each node stands at most once in the tree
abbrev pub Once : Linked → Type 0
Once t = (i : ℕ) → occ i (nodes t) ≤ 1

-- a new node is none of a tree's
pub new_apart : (i n : ℕ) (xs : List ℕ) → occ n xs ≡ 0 → 0 < occ i xs → one i n ≡ 0
new_apart i n xs z h = one-other i n (λ e. let x : occ i xs ≡ occ n xs = rw e in omega arith)

pub apart-one : (i n : ℕ) → one i n ≡ 0 → i ≢ n
apart-one i n z e = let x : one i n ≡ one n n = rw e in let y = one_same n in omega arith

pub one-swap : (i n : ℕ) → one i n ≡ one n i
one-swap i n = one-case i n (λ e z. z ∙ sym (rw e (one_same n))) (λ d z. z ∙ sym (one-other n i (λ e. d (sym e))))

-- the register but for root, queue and keys held
pub record Fields (r q : Register) : Type 0 where
  pub readers : q.readers ≡ r.readers
  pub awaited : q.awaited ≡ r.awaited
  pub write : q.write ≡ r.write

pub fields-trans : {r q u : Register} → Fields r q → Fields q u → Fields r u
fields-trans a b = record { readers = b.readers ∙ a.readers; awaited = b.awaited ∙ a.awaited; write = b.write ∙ a.write }

pub fields-queued : {r q : Register} → Queued r q → Fields r q
fields-queued a = record { readers = a.readers; awaited = a.awaited; write = a.write }

pub held-fields : (r : Register) (h : ℕ) → Fields r (with_held r h)
unfolding with_held
held-fields r h = record { readers = refl; awaited = refl; write = refl }

pub same-fields : {r q : Register} → q ≡ r → Fields r q
same-fields e = record { readers = ap (λ x. x.readers) e; awaited = ap (λ x. x.awaited) e; write = ap (λ x. x.write) e }

pub link-fields : (st : State) (l : Link) (v : ℕ) → Fields st.register (set_link st l v).register
unfolding set_link with_root
link-fields st Root v = record { readers = refl; awaited = refl; write = refl }
link-fields st (Left n) v = record { readers = refl; awaited = refl; write = refl }
link-fields st (Right n) v = record { readers = refl; awaited = refl; write = refl }

pub link-held : (st : State) (l : Link) (v : ℕ) → (set_link st l v).register.held ≡ st.register.held
unfolding set_link with_root
link-held st Root v = refl
link-held st (Left n) v = refl
link-held st (Right n) v = refl

pub link-size : (st : State) (l : Link) (v : ℕ) → length (set_link st l v).pool ≡ length st.pool
unfolding set_link
link-size st Root v = refl
link-size st (Left n) v = length-set_word st.pool n left_word v
link-size st (Right n) v = length-set_word st.pool n right_word v

pub taken-filled : (st : State) (k v : ℕ) (s : Side) (x y c : ℕ) → InPool st.pool st.register.first
    → Filled st.pool (take_node st k v s x y c).pool st.register.first k v s x y c
taken-filled st k v s x y c w = rw (take-pool st k v s x y c) (fill-node st.pool st.register.first k v s x y c w)

-- A node is taken, filled and linked at the hole.
pub record LinkedIn (st after : State) (gs : List Frame) (u : Linked) (c : ℕ) : Type 0 where
  pub site : At after gs u
  pub new-colour : colours after.pool st.register.first ≡ hue c
  pub old-colours : (m : ℕ) → st.register.first ≢ m → colours after.pool m ≡ colours st.pool m
  pub size : length after.pool ≡ length st.pool
  pub fields : Fields st.register after.register
  pub held : after.register.held ≡ st.register.held

pub link-in : (st : State) (gs : List Frame) (t : Linked) (k v : ℕ) (s : Side) (x y c : ℕ) (X Y : Linked) → Fresh st (plug gs t) → At st gs t
    → Rep st.pool x X → Rep st.pool y Y → occ st.register.first (nodes X) ≡ 0 → occ st.register.first (nodes Y) ≡ 0
    → Clear gs (at s (record { num = st.register.first; key = k; val = v }) X Y)
    → LinkedIn st (set_link (take_node st k v s x y c) (link_to gs) st.register.first) gs (at s (record { num = st.register.first; key = k; val = v }) X Y) c
link-in st gs t k v s x y c X Y fresh h rx ry ox oy clear =
    let n = st.register.first in
    let base = take_node st k v s x y c in
    let fill = taken-filled st k v s x y c fresh.within in
    let reg = take-register st k v s x y c in
    let kept : At base gs t = rw reg.root
    (site-agree st.pool base.pool st.register.root fill.size gs t (λ m i. filled-agree fill m (occ-apart n m (nodes (plug gs t)) fresh.new i)) h) in
    record {
      site = site-store base gs t (at s (record { num = n; key = k; val = v }) X Y) n clear kept (filled-rep fill X Y fresh.within ox oy rx ry);
      new-colour = colours-link base (link_to gs) n n ∙ fill.colour-is;
      old-colours = λ m d. colours-link base (link_to gs) n m ∙ filled-colours fill m d;
      size = link-size base (link_to gs) n ∙ fill.size;
      fields = fields-trans (fields-queued reg) (link-fields base (link_to gs) n);
      held = link-held base (link_to gs) n ∙ reg.held;
    }

-- Painting and retiring keep the place.
pub at-alike : (st after : State) → Alike up_to_links st.pool after.pool → after.register.root ≡ st.register.root → (fs : List Frame) (t : Linked) → At st fs t → At after fs t
at-alike st after a e fs t h = rw e (site-alike a st.register.root fs t h)

pub at-quiet : {st after : State} → Quiet st after → (fs : List Frame) (t : Linked) → At st fs t → At after fs t
at-quiet {st} {after} q fs t h = at-alike st after (alike-less up_to_links (omega arith) q.words) q.fields.root fs t h

pub quiet-erase : {st after : State} → Quiet st after → (t : Linked) → erase (colours after.pool) t ≡ erase (colours st.pool) t
quiet-erase {st} {after} q t = erase-occ (colours st.pool) (colours after.pool) t (λ n _. colours-alike q.words n)

pub at-painted : (st : State) (n c : ℕ) (fs : List Frame) (t : Linked) → At st fs t → At (painted st n c) fs t
at-painted st n c fs t h = site-alike (paint-alike st.pool n c) st.register.root fs t h

-- the root painted black
pub black-root : (st : State) (fs : List Frame) (t : Linked) → At st fs t → erase (colours (black_root st).pool) (plug fs t) ≡ Seq.paint black (erase (colours st.pool) (plug fs t))
black-root st fs t h = erase-top st.pool st.register.root black_colour (plug fs t) (of-site st.pool st.register.root fs t h)

-- the link at the hole is stored above a tree that has no node of the way
pub clear_of : (fs : List Frame) (t u : Linked) → Once (plug fs t) → ((i : ℕ) → 0 < occ_way i fs → occ i (nodes u) ≡ 0) → Clear fs u
clear_of [] t u o h = tt
clear_of (hole s N y ∷ fs) t u o h =
    let a = o N.num in
    let b = one_same N.num in
    let e = occ-plug (hole s N y ∷ fs) t N.num in
    (omega arith, omega arith, h N.num (omega arith))
