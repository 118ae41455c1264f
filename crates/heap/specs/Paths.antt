-- The search and the paths of the writer's colour work, in a pool that has a way: the search comes down the way that the key goes, and the
-- path is the list of the way's links, its own first and the root link last.
use Rattle.std.specs.Prelude.{ℕ, suc, ◌+◌, ◌-◌, ◌<◌, ◌≤◌, max, ◌≡◌, refl, ◌≢◌, true, false, cond, List, [], ◌∷◌, ◌++◌, length, eqb, ltb}
use Rattle.std.proofs.Common.{sym, ap, ◌∙◌, lt-ltb, le-ltb, ne_eqb, eq-eqb, arith}
use Rattle.datatypes.specs.declared.Side.{Side}
use Rattle.datatypes.specs.declared.Side.TheVariants.{L, R}
use Rattle.datatypes.specs.declared.Link.{Link}
use Rattle.datatypes.specs.declared.Link.TheVariants.{Root}
use Rattle.datatypes.specs.declared.Place.{Place}
use Rattle.datatypes.specs.declared.Place.TheVariants.{Held, Empty}
use Rattle.datatypes.specs.Side.{link_at}
use Rattle.spec.specs.Numbers.{path_bound}
use Rattle.spec.specs.Pool.{child}
use Rattle.spec.specs.Register.{node_at}
use Rattle.spec.specs.Search.{towards, seek, same_link, trail, path_to, leftmost}
use Rattle.spec.specs.Plan.{successor_path}
use Rattle.laws.specs.Descend.{seek-empty, seek-step, trail-here, trail-step, leftmost-here, leftmost-step}
use Rattle.sequential.specs.Tree.{Colour}
use Rattle.sequential.specs.Proper.{Ord}
use Rattle.tree.specs.Order.{ord-apart, tri-case}
use Rattle.tree.specs.Height.{height, height-mk}
use Rattle.tree.specs.Linked.{Node, Linked, nil, cell, at}
use Rattle.tree.specs.Zipper.{Frame, hole, plug, Into, Along}
use Rattle.tree.specs.Erase.{erase, erase-at}
use Rattle.tree.specs.Occurs.{one, one_same, occ_way}
use Rattle.heap.specs.Rep.{Words}
use Rattle.heap.specs.Sites.{link_to, links_above, links, node_at_lem, node-root, Way, Site}

-- the key k goes to the side s at the node N
goes : (k j : ℕ) (s : Side) → Ord s k j → cond (ltb k j) L R ≡ s
goes k j L o = rw (lt-ltb k j o)
goes k j R o = rw (le-ltb k j (omega arith))

pub towards-of : (p : List ℕ) (k a : ℕ) (N : Node) (s : Side) → Words p a N → Ord s k N.key → towards p k N.num ≡ s
towards-of p k a N s w o = rw w.key-is (goes k N.key s o)

there : {p : List ℕ} {a : ℕ} {N : Node} → Words p a N → ¬ (N.num ≡ 0)
there w = let l = w.within.low in omega arith

pred : (a : ℕ) → suc a - 1 ≡ a
pred a = omega arith

-- Search (laws: Descend): one node down, the key's node.
seek-node : (p : List ℕ) (k a : ℕ) (l : Link) (n : ℕ) (N : Node) → Words p n N
    → seek p k (suc a) l n ≡ cond (eqb k N.key) (Held l N.num) (seek p k a (link_at (towards p k N.num) N.num) (child p (towards p k N.num) N.num))
seek-node p k a l n N w = rw w.is (seek-step p k (suc a) l N.num (there w) (omega arith) ∙ rw (w.key-is, pred a))

seek-down : (p : List ℕ) (k a : ℕ) (l : Link) (n : ℕ) (N : Node) (s : Side) → Words p n N → Ord s k N.key
    → seek p k (suc a) l n ≡ seek p k a (link_at s N.num) (child p s N.num)
seek-down p k a l n N s w o = seek-node p k a l n N w ∙ rw (ne_eqb k N.key (ord-apart s k N.key o), towards-of p k n N s w o)

seek-skip : (p : List ℕ) (root k : ℕ) (fs : List Frame) (a b : ℕ) → b ≡ a + length fs → Into k fs → Way p root fs
    → seek p k b Root root ≡ seek p k a (link_to fs) (node_at p root (link_to fs))
seek-skip p root k [] a b e i w = let z : b ≡ a = omega arith in rw (z, node-root p root)
seek-skip p root k (hole s N y ∷ fs) a b e i w =
    seek-skip p root k fs (suc a) b (omega arith) i.1 w.2
    ∙ seek-down p k a (link_to fs) (node_at p root (link_to fs)) N s w.0 i.0
    ∙ rw (node_at_lem p root s N.num)

seek-held : (p : List ℕ) (k a : ℕ) (l : Link) (n : ℕ) (N : Node) → Words p n N → k ≡ N.key → seek p k (suc a) l n ≡ Held l N.num
seek-held p k a l n N w e = seek-node p k a l n N w ∙ rw (eq-eqb k N.key e)

-- where the search ends
abbrev pub place_at : List Frame → Linked → Place
place_at fs nil = Empty (link_to fs)
place_at fs (cell N l r) = Held (link_to fs) N.num

-- the place of the key k: an empty one, or its node's
abbrev pub HasKey : ℕ → Linked → Type 0
HasKey k nil = Unit {0}
HasKey k (cell N l r) = k ≡ N.key

pub seek-place : (p : List ℕ) (root k : ℕ) (fs : List Frame) (t : Linked) → Into k fs → HasKey k t → length fs < path_bound → Site p root fs t
    → seek p k path_bound Root root ≡ place_at fs t
seek-place p root k fs nil i h l x =
    seek-skip p root k fs (path_bound - length fs) path_bound (omega arith) i x.way ∙ seek-empty p k (path_bound - length fs) (link_to fs) _ x.sub
seek-place p root k fs (cell N a b) i h l x =
    seek-skip p root k fs (suc (path_bound - 1 - length fs)) path_bound (omega arith) i x.way ∙ seek-held p k (path_bound - 1 - length fs) (link_to fs) (node_at p root (link_to fs)) N x.sub.0 h

-- Every key has a place in every tree.
pub record Located (T : Linked) (k : ℕ) : Type 0 where
  pub way : List Frame
  pub tree : Linked
  pub whole : plug way tree ≡ T
  pub into : Into k way
  pub has : HasKey k tree

locate : (t : Linked) (k : ℕ) (fs : List Frame) → Into k fs → Located (plug fs t) k
locate nil k fs i = record { way = fs; tree = nil; whole = refl; into = i; has = tt }
locate (cell N l r) k fs i =
    tri-case L k N.key
    (λ o _. locate l k (hole L N r ∷ fs) (o, i))
    (λ o _. record { way = fs; tree = cell N l r; whole = refl; into = i; has = o })
    (λ o _. locate r k (hole R N l ∷ fs) (o, i))

pub located : (T : Linked) (k : ℕ) → Located T k
located T k = locate T k [] tt

-- a way is no longer than the tree is high
pub depth : (f : ℕ → Colour) (fs : List Frame) (t : Linked) → length fs + height (erase f t) ≤ height (erase f (plug fs t))
depth f [] t = omega arith
depth f (hole s N y ∷ fs) t =
    let a = depth f fs (at s N t y) in
    let b : height (erase f (at s N t y)) ≡ suc (max (height (erase f t)) (height (erase f y))) = rw (erase-at f s N t y) (height-mk s _ _ _ _ _) in
    omega arith

-- Paths: one node down.
trail-down : (p : List ℕ) (k : ℕ) (t : Link) (a : ℕ) (l : Link) (n : ℕ) (up : List Link) (N : Node) (s : Side) → same_link l t ≡ false → Words p n N → Ord s k N.key
    → trail p k t (suc a) l n up ≡ trail p k t a (link_at s N.num) (child p s N.num) (l ∷ up)
trail-down p k t a l n up N s m w o = rw w.is (trail-step p k t l N.num up (suc a) a m (there w) refl ∙ rw (towards-of p k n N s w o))

-- no link above the hole is the link t
abbrev Misses : Link → List Frame → Type 0
Misses t [] = Unit {0}
Misses t (hole s N y ∷ fs) = (same_link (link_to fs) t ≡ false) × Misses t fs

trail-skip : (p : List ℕ) (root k : ℕ) (t : Link) (fs : List Frame) (a b : ℕ) → b ≡ a + length fs → Misses t fs → Into k fs → Way p root fs
    → trail p k t b Root root [] ≡ trail p k t a (link_to fs) (node_at p root (link_to fs)) (links_above fs)
trail-skip p root k t [] a b e m i w = let z : b ≡ a = omega arith in rw (z, node-root p root)
trail-skip p root k t (hole s N y ∷ fs) a b e m i w =
    trail-skip p root k t fs (suc a) b (omega arith) m.1 i.1 w.2
    ∙ trail-down p k t a (link_to fs) (node_at p root (link_to fs)) (links_above fs) N s m.0 w.0 i.0
    ∙ rw (node_at_lem p root s N.num)

other-link : (s z : Side) (m n : ℕ) → m ≢ n → same_link (link_at s m) (link_at z n) ≡ false
other-link L L m n d = ne_eqb m n d
other-link L R m n d = refl
other-link R L m n d = refl
other-link R R m n d = ne_eqb m n d

root-link : (z : Side) (n : ℕ) → same_link Root (link_at z n) ≡ false
root-link L n = refl
root-link R n = refl

same-link : (z : Side) (n : ℕ) → same_link (link_at z n) (link_at z n) ≡ true
same-link L n = eq-eqb n n refl
same-link R n = eq-eqb n n refl

other_way : (z : Side) (n : ℕ) (fs : List Frame) → occ_way n fs ≡ 0 → same_link (link_to fs) (link_at z n) ≡ false
other_way z n [] o = root-link z n
other_way z n (hole s N y ∷ fs) o = other-link s z N.num n (λ e. let x = one_same n in let h : one n N.num ≡ one n n = rw e in omega arith)

misses : (z : Side) (n : ℕ) (fs : List Frame) → occ_way n fs ≡ 0 → Misses (link_at z n) fs
misses z n [] o = tt
misses z n (hole s N y ∷ fs) o = (other_way z n fs (omega arith), misses z n fs (omega arith))

-- the nodes of the way are distinct
abbrev pub OnceWay : List Frame → Type 0
OnceWay fs = (i : ℕ) → occ_way i fs ≤ 1

pub path-to : (p : List ℕ) (root k : ℕ) (fs : List Frame) → Into k fs → OnceWay fs → length fs ≤ path_bound → Way p root fs → path_to p root k (link_to fs) ≡ links fs
path-to p root k [] i o l w = trail-here p k Root Root root [] path_bound refl
path-to p root k (hole s N y ∷ fs) i o l w =
    let once : occ_way N.num fs ≡ 0 = (let a = o N.num in let b = one_same N.num in omega arith) in
    let t = link_at s N.num in
    trail-skip p root k t (hole s N y ∷ fs) (path_bound - 1 - length fs) path_bound (omega arith) (other_way s N.num fs once, misses s N.num fs once) i w
    ∙ trail-here p k t t (node_at p root t) (links fs) (path_bound - 1 - length fs) (same-link s N.num)

-- The successor: leftmost below a link.
leftmost-skip : (p : List ℕ) (root : ℕ) (gs bs : List Frame) (a b : ℕ) → b ≡ a + length gs → Along L gs → Way p root (gs ++ bs) → node_at p root (link_to (gs ++ bs)) ≢ 0
    → leftmost p b (node_at p root (link_to bs)) (links bs) ≡ leftmost p a (node_at p root (link_to (gs ++ bs))) (links (gs ++ bs))
leftmost-skip p root [] bs a b e h w d = let z : b ≡ a = omega arith in rw z
leftmost-skip p root (hole R N y ∷ gs) bs a b e h w d = let e = h.0 in let z : ◌≡◌ {A = ℕ} 0 1 = cc in absurd (omega arith)
leftmost-skip p root (hole L N y ∷ gs) bs a b e h w d =
    let n = w.0.is in
    let c = node_at_lem p root L N.num in
    leftmost-skip p root gs bs (suc a) b (omega arith) h.1 w.2 (let l = w.0.within.low in omega arith)
    ∙ rw (n, c) (leftmost-step p N.num (links (gs ++ bs)) (suc a) a refl (rw c at d))

links-length : (fs : List Frame) → length (links fs) ≡ suc (length fs)
links-length [] = refl
links-length (hole s N y ∷ fs) = ap suc (links-length fs)

pub successor-path : (p : List ℕ) (root : ℕ) (gs fs : List Frame) (B C : Node) (l y : Linked) → Along L gs → length gs + length fs + 2 ≤ path_bound
    → Site p root (gs ++ (hole R B l ∷ fs)) (cell C nil y) → successor_path p B.num (links fs) ≡ links (gs ++ (hole R B l ∷ fs))
successor-path p root gs fs B C l y h d x =
    let bs = hole R B l ∷ fs in
    let n = x.sub.0.is in
    let low = x.sub.0.within.low in
    let len = links-length fs in
    rw (len, sym (node_at_lem p root R B.num))
    (leftmost-skip p root gs bs (suc (path_bound - 2 - length fs - length gs)) (path_bound - suc (length fs)) (omega arith) h x.way (omega arith)
    ∙ leftmost-here p (node_at p root (link_to (gs ++ bs))) (links (gs ++ bs)) (suc (path_bound - 2 - length fs - length gs)) (omega arith) (rw n x.sub.1))
