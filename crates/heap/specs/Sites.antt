-- A place in the pool's tree: the way from the root link down to a link, as a zipper, and what that link unfolds to. A store of that link
-- changes what is at the place and nothing else, if the link's node occurs nowhere else.
use Rattle.std.specs.Prelude.{ℕ, ◌<◌, ◌≡◌, refl, ◌≢◌, List, [], ◌∷◌, length}
use Rattle.std.proofs.Common.{◌∙◌, inr, arith}
use Rattle.datatypes.specs.declared.Side.{Side}
use Rattle.datatypes.specs.declared.Side.TheVariants.{L, R}
use Rattle.datatypes.specs.declared.Link.{Link}
use Rattle.datatypes.specs.declared.Link.TheVariants.{Root}
use Rattle.datatypes.specs.Side.{other, link_at}
use Rattle.spec.specs.Numbers.{node_words}
use Rattle.spec.specs.Pool.{set_word, child, link_word}
use Rattle.spec.specs.Register.{State, state, node_at, set_link, with_root}
use Rattle.laws.specs.Words.{length-set_word, word_same, word-other}
use Rattle.laws.specs.Queue.{link-low, key-link, record-link}
use Rattle.tree.specs.Linked.{Node, Linked, at, nodes}
use Rattle.tree.specs.Zipper.{Frame, hole, plug}
use Rattle.tree.specs.Occurs.{one_same, occ, occ_way, occ-plug}
use Rattle.heap.specs.Rep.{Words, Rep, rep_at, Agree, agree-words, words-agree, rep-agree, Alike, set-elsewhere, rep-elsewhere, up_to_links}

-- the link at the hole, and the path of links from it up to the root link
abbrev pub link_to : List Frame → Link
link_to [] = Root
link_to (hole s N y ∷ fs) = link_at s N.num

abbrev pub links_above : List Frame → List Link
links_above [] = []
links_above (hole s N y ∷ fs) = link_to fs ∷ links_above fs

abbrev pub links : List Frame → List Link
links fs = link_to fs ∷ links_above fs

pub node_at_lem : (p : List ℕ) (root : ℕ) (s : Side) (n : ℕ) → node_at p root (link_at s n) ≡ child p s n
unfolding node_at
node_at_lem p root L n = refl
node_at_lem p root R n = refl

pub node-root : (p : List ℕ) (root : ℕ) → node_at p root Root ≡ root
unfolding node_at
node-root p root = refl

-- the pool has the way, with the subtrees beside it
abbrev pub Way : List ℕ → ℕ → List Frame → Type 0
Way p root [] = Unit {0}
Way p root (hole s N y ∷ fs) = Words p (node_at p root (link_to fs)) N × Rep p (child p (other s) N.num) y × Way p root fs

-- and the tree t at its end
pub record Site (p : List ℕ) (root : ℕ) (fs : List Frame) (t : Linked) : Type 0 where
  pub way : Way p root fs
  pub sub : Rep p (node_at p root (link_to fs)) t

pub site-of : (p : List ℕ) (root : ℕ) (fs : List Frame) (t : Linked) → Rep p root (plug fs t) → Site p root fs t
site-of p root [] t h = record { way = tt; sub = rw node-root h }
site-of p root (hole s N y ∷ fs) t h =
    let i = site-of p root fs (at s N t y) h in
    let m = (rep_at p (node_at p root (link_to fs)) s N t y).0 i.sub in
    record { way = (m.0, m.2, i.way); sub = rw (node_at_lem p root s N.num) m.1 }

pub of-site : (p : List ℕ) (root : ℕ) (fs : List Frame) (t : Linked) → Site p root fs t → Rep p root (plug fs t)
of-site p root [] t h = rw node-root at h.sub
of-site p root (hole s N y ∷ fs) t h =
    let w = h.way in
    let m = (rep_at p (node_at p root (link_to fs)) s N t y).1 (w.0, rw (node_at_lem p root s N.num) at h.sub, w.1) in
    of-site p root fs (at s N t y) (record { way = w.2; sub = m })

-- a longer way: one node more
pub site-down : (p : List ℕ) (root : ℕ) (fs : List Frame) (s : Side) (N : Node) (x y : Linked) → Site p root fs (at s N x y) → Site p root (hole s N y ∷ fs) x
site-down p root fs s N x y h =
    let m = (rep_at p (node_at p root (link_to fs)) s N x y).0 h.sub in
    record { way = (m.0, m.2, h.way); sub = rw (node_at_lem p root s N.num) m.1 }

pub site-up : (p : List ℕ) (root : ℕ) (fs : List Frame) (s : Side) (N : Node) (x y : Linked) → Site p root (hole s N y ∷ fs) x → Site p root fs (at s N x y)
site-up p root fs s N x y h =
    let w = h.way in
    record { way = w.2; sub = (rep_at p (node_at p root (link_to fs)) s N x y).1 (w.0, rw (node_at_lem p root s N.num) at h.sub, w.1) }

-- Pools that agree at the nodes of a way.
pub links-apart : (s : Side) → link_word s ≢ link_word (other s)
links-apart L = omega arith
links-apart R = omega arith

pub link_to-agree : (p q : List ℕ) (root : ℕ) (fs : List Frame) → ((n : ℕ) → 0 < occ_way n fs → Agree p q n) → node_at q root (link_to fs) ≡ node_at p root (link_to fs)
link_to-agree p q root [] h = rw (node-root p root, node-root q root)
link_to-agree p q root (hole s N y ∷ fs) h =
    rw (node_at_lem p root s N.num, node_at_lem q root s N.num) ((h N.num (let x = one_same N.num in omega arith)).links s)

pub way-agree : (p q : List ℕ) (root : ℕ) → length q ≡ length p → (fs : List Frame) → ((n : ℕ) → 0 < occ_way n fs → Agree p q n) → Way p root fs → Way q root fs
way-agree p q root e [] h w = tt
way-agree p q root e (hole s N y ∷ fs) h w =
    let top = h N.num (let x = one_same N.num in omega arith) in (
      rw (link_to-agree p q root fs (λ n i. h n (omega arith))) (words-agree p q e top w.0),
      rw (top.links (other s)) (rep-agree p q e y _ (λ n i. h n (omega arith)) w.1),
      way-agree p q root e fs (λ n i. h n (omega arith)) w.2,
    )

pub site-agree : (p q : List ℕ) (root : ℕ) → length q ≡ length p → (fs : List Frame) (t : Linked) → ((n : ℕ) → 0 < occ n (nodes (plug fs t)) → Agree p q n) → Site p root fs t → Site q root fs t
site-agree p q root e fs t h i = record {
  way = way-agree p q root e fs (λ n j. h n (let x = occ-plug fs t n in omega arith)) i.way;
  sub = rw (link_to-agree p q root fs (λ n j. h n (let x = occ-plug fs t n in omega arith)))
      (rep-agree p q e t _ (λ n j. h n (let x = occ-plug fs t n in omega arith)) i.sub);
}

pub site-alike : {p q : List ℕ} → Alike up_to_links p q → (root : ℕ) (fs : List Frame) (t : Linked) → Site p root fs t → Site q root fs t
site-alike {p} {q} a root fs t h = site-agree p q root a.size fs t (λ n _. agree-words p q n (a.words n)) h

-- A store of the link at the hole. Its node stands nowhere else on the way or in the new subtree.
abbrev pub Clear : List Frame → Linked → Type 0
Clear [] u = Unit {0}
Clear (hole s N y ∷ fs) u = (occ N.num (nodes y) ≡ 0) × (occ_way N.num fs ≡ 0) × (occ N.num (nodes u) ≡ 0)

pub set_link_lem : (st : State) (s : Side) (n v : ℕ) → set_link st (link_at s n) v ≡ state (set_word st.pool n (link_word s) v) st.register
unfolding set_link
set_link_lem st L n v = refl
set_link_lem st R n v = refl

pub set-root : (st : State) (v : ℕ) → set_link st Root v ≡ state st.pool (with_root st.register v)
unfolding set_link
set-root st v = refl

apart-way : (d n : ℕ) (fs : List Frame) → occ_way d fs ≡ 0 → 0 < occ_way n fs → d ≢ n
apart-way d n fs z h e = let x : occ_way d fs ≡ occ_way n fs = rw e in omega arith

redirect : (p : List ℕ) (root : ℕ) (s : Side) (D : Node) (y : Linked) (fs : List Frame) (t u : Linked) (b : ℕ) → Clear (hole s D y ∷ fs) u
    → Site p root (hole s D y ∷ fs) t → Rep p b u → Site (set_word p D.num (link_word s) b) root (hole s D y ∷ fs) u
redirect p root s D y fs t u b c i r =
    let d = D.num in
    let q = set_word p d (link_word s) b in
    let low : link_word s < node_words = omega (arith, link-low s) in
    let len = length-set_word p d (link_word s) b in
    let agree : (n : ℕ) → 0 < occ_way n fs → Agree p q n = λ n h. set-elsewhere p d (link_word s) b n low (apart-way d n fs c.1 h) in
    let w = i.way in
    let top : Words q (node_at p root (link_to fs)) D = record {
      is = w.0.is;
      within = record { low = w.0.within.low; high = rw len w.0.within.high };
      key-is = key-link p d d s b ∙ w.0.key-is;
      val_is = record-link p d d s b ∙ w.0.val_is;
    } in
    let other-kept : child q (other s) d ≡ child p (other s) d = word-other p d d (link_word s) (link_word (other s)) b low (omega (arith, link-low (other s))) (inr (links-apart s)) in
    record {
      way = (
        rw (link_to-agree p q root fs agree) top,
        rw other-kept (rep-elsewhere p d (link_word s) b low y _ c.0 w.1),
        way-agree p q root len fs agree w.2,
      );
      sub = rw (node_at_lem q root s d, word_same p d (link_word s) b w.0.within low) (rep-elsewhere p d (link_word s) b low u b c.2 r);
    }

pub site-store : (st : State) (fs : List Frame) (t u : Linked) (b : ℕ) → Clear fs u → Site st.pool st.register.root fs t → Rep st.pool b u
    → Site (set_link st (link_to fs) b).pool (set_link st (link_to fs) b).register.root fs u
unfolding with_root
site-store st [] t u b c i r = rw (set-root st b) (record { way = tt; sub = rw node-root r })
site-store st (hole s D y ∷ fs) t u b c i r = rw (set_link_lem st s D.num b) (redirect st.pool st.register.root s D y fs t u b c i r)
