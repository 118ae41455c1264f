-- Why a lookup is right. Of a node and a key, not of a slot:
-- (R1) what a lookup of the key from the node finds is one of the answers possible so far;
-- (R2) the nodes compared so far and those still to come, but for the ones that are linked no longer, stand in this order on the root's
-- own way to the key.
-- A store redirects one link of a linked node, or the root. One lemma for all stores: a lookup that does not pass that link keeps its
-- answer; one that passes it passes its node, which by R2 is on the root's way, so afterwards it finds what the root's way finds.
use Rattle.std.specs.Prelude.{ℕ, ◌≡◌, refl, ◌≢◌, ◌⊎◌, List, [], ◌∷◌, ◌++◌}
use Rattle.std.proofs.Common.{sym, ap, ◌∙◌, subst, inl, inr, ⊎_elim, append_assoc}
use Rattle.std.proofs.Math.Option.{Option}
use Rattle.datatypes.specs.declared.Side.{Side}
use Rattle.datatypes.specs.declared.Side.TheVariants.{L}
use Rattle.spec.specs.Pool.{word, key_word, standing_word, standing_linked}
use Rattle.base.specs.Lists.{◌∈◌, in-append, Distinct}
use Rattle.tree.specs.Thin.{Thin, thin-refl, thin-trans, thin-stays}
use Rattle.tree.specs.Linked.{Linked, find, path}
use Rattle.tree.specs.Graft.{graft, All, all-path, Keyed, Passes, apart, through, passes}
use Rattle.heap.specs.Rep.{Rep, rep-unique}
use Rattle.readers.specs.Thinner.{thin-members, thin-end, thin-cut, path-once, once-there}
use Rattle.readers.specs.Graft.{Redirects, rep-same, rep-graft, rep-keyed}

-- R2 of trees: t where the lookup is, T the whole tree; P are the nodes that are linked no longer
abbrev pub Follows : (ℕ → Type 0) → List ℕ → Linked → Linked → ℕ → Type 0
Follows P seen t T k = Thin P (seen ++ path t k) (path T k)

-- The tree lemma. The link on the side s of node d, whose key is j, becomes b in both trees.
module _ (d : ℕ) (s : Side) (j : ℕ) (b t T : Linked) (k : ℕ) (seen : List ℕ) (P : ℕ → Type 0) (stays : ¬ (P d)) (ht : Keyed d j t) (h_t : Keyed d j T)
    (way : Follows P seen t T k) where
  abbrev t' : Linked
  t' = graft d s b t

  abbrev T' : Linked
  T' = graft d s b T

  met : (pre rest : List ℕ) → path t k ≡ pre ++ d ∷ rest → d ∈ path T k
  met pre rest e = thin-stays way d stays ((in-append d seen (path t k)).1 (inr (subst (λ l. d ∈ l) (sym e) ((in-append d pre (d ∷ rest)).1 (inr (inl refl))))))

  -- the answer is the old one, or what the root's way finds now
  pub find-after : (find t' k ≡ find t k) ⊎ (find t' k ≡ find T' k)
  find-after = go (passes d s j b k t ht) (passes d s j b k T h_t)
    where
      go : Passes d s j b t k → Passes d s j b T k → (find t' k ≡ find t k) ⊎ (find t' k ≡ find T' k)
      go (apart c f g) w = inl f
      go (through pre rest e g f n) (apart c f' g') = absurd (c (met pre rest e, n))
      go (through pre rest e g f n) (through pre' rest' e' g' f' n') = inr (f ∙ sym f')

  -- and R2 goes on by S2
  pub follows-after : (Q : ℕ → Type 0) → ((n : ℕ) → n ∈ (seen ++ path t k) → P n → Q n) → Distinct (path T k) → Thin Q (path T k) (path T' k)
      → Follows Q seen t' T' k
  follows-after Q weaken once thins = go (passes d s j b k t ht) (passes d s j b k T h_t)
    where
      go : Passes d s j b t k → Passes d s j b T k → Follows Q seen t' T' k
      go (apart c f g) w = rw g (thin-trans (thin-members weaken way) thins)
      go (through pre rest e g f n) (apart c f' g') = absurd (c (met pre rest e, n))
      go (through pre rest e g f n) (through pre' rest' e' g' f' n') =
          let single = once-there d pre' rest' (subst Distinct e' once) in
          let whole : seen ++ path t k ≡ (seen ++ pre) ++ d ∷ rest = ap (seen ++◌) e ∙ sym (append_assoc seen pre (d ∷ rest)) in
          let before = thin-cut way d stays (seen ++ pre) rest pre' rest' whole e' single.0 single.1 in
          let inside : (m : ℕ) → m ∈ (seen ++ pre) → m ∈ (seen ++ path t k) = λ m i. subst (λ l. m ∈ l) (sym whole) ((in-append m (seen ++ pre) (d ∷ rest)).1 (inl i)) in
          rw (g, g', ← append_assoc seen pre (d ∷ path b k)) (thin-end (d ∷ path b k) (thin-members (λ m i. weaken m (inside m i)) before))

-- R1 and R2 of a node and a key in a pool. A: the answers possible so far.
abbrev pub Unlinked : List ℕ → ℕ → Type 0
Unlinked p n = word p n standing_word ≢ standing_linked

pub record Finds (p : List ℕ) (A : Option ℕ → Type 0) (n k : ℕ) : Type 0 where
  pub tree : Linked
  pub unfolds : Rep p n tree
  pub answer : A (find tree k)

pub record OnWay (p : List ℕ) (root : ℕ) (seen : List ℕ) (n k : ℕ) : Type 0 where
  pub tree : Linked
  pub whole : Linked
  pub unfolds : Rep p n tree
  pub rooted : Rep p root whole
  pub follows : Follows (Unlinked p) seen tree whole k

-- A store of the link on the side s of the linked node d, from pool p to pool q; U are the nodes that stood linked or retired. T and T' are
-- the whole trees before and after, tb what the link unfolds to now.
pub record Store (p q : List ℕ) (U : ℕ → Type 0) (d : ℕ) (s : Side) (b root : ℕ) (T T' : Linked) : Type 0 where
  pub words : Redirects p q U d s b
  pub linked : word p d standing_word ≡ standing_linked
  pub below : Linked
  pub unfolds : Rep q b below
  pub before : Rep p root T
  pub after : Rep q root T'
  pub all : All U T

module _ {p q : List ℕ} {U : ℕ → Type 0} {d : ℕ} {s : Side} {b root : ℕ} {T T' : Linked} (h : Store p q U d s b root T T') where
  abbrev pub new : Linked → Linked
  new t = graft d s h.below t

  pub whole-after : new T ≡ T'
  whole-after = rep-unique q (new T) T' root root refl (rep-graft p q U d s b h.below h.words h.unfolds T root h.all h.before) h.after

  pub unfolds-after : (n : ℕ) (t : Linked) → All U t → Rep p n t → Rep q n (new t)
  unfolds-after n t u r = rep-graft p q U d s b h.below h.words h.unfolds t n u r

  -- R1 is kept: with A' the answers possible now, which has all of A and what the whole tree has now
  pub store-finds : (A A' : Option ℕ → Type 0) → ((o : Option ℕ) → A o → A' o) → (n k : ℕ) (seen : List ℕ) → A' (find T' k)
      → (f : Finds p A n k) → All U f.tree → OnWay p root seen n k → Finds q A' n k
  store-finds A A' more n k seen now f u w =
      let t = f.tree in
      let same : w.tree ≡ t = rep-unique p w.tree t n n refl w.unfolds f.unfolds in
      let same_whole : w.whole ≡ T = rep-unique p w.whole T root root refl w.rooted h.before in
      let way : Follows (Unlinked p) seen t T k = rw (same, same_whole) at w.follows in
      let key = word p d key_word in
      let case = find-after d s key h.below t T k seen (Unlinked p) (λ x. x h.linked) (rep-keyed p d t n f.unfolds) (rep-keyed p d T root h.before) way in
      record {
        tree = new t;
        unfolds = unfolds-after n t u f.unfolds;
        answer = ⊎_elim (λ e. rw e (more _ f.answer)) (λ e. subst A' (ap (λ x. find x k) (sym whole-after) ∙ sym e) now) case;
      }

  -- R2 is kept by a store with S2
  pub store-way : (n k : ℕ) (seen : List ℕ) → ((m : ℕ) → U m → Unlinked p m → Unlinked q m) → ((m : ℕ) → m ∈ seen → U m) → Thin (Unlinked q) (path T k) (path T' k)
      → (w : OnWay p root seen n k) → All U w.tree → OnWay q root seen n k
  store-way n k seen gone usable thins w u =
      let t = w.tree in
      let same_whole : w.whole ≡ T = rep-unique p w.whole T root root refl w.rooted h.before in
      let way : Follows (Unlinked p) seen t T k = rw same_whole at w.follows in
      let key = word p d key_word in
      let member : (m : ℕ) → m ∈ (seen ++ path t k) → U m = λ m i. ⊎_elim (usable m) (all-path U t k m u) ((in-append m seen (path t k)).0 i) in
      record {
        tree = new t;
        whole = new T;
        unfolds = unfolds-after n t u w.unfolds;
        rooted = unfolds-after root T h.all h.before;
        follows = follows-after d s key h.below t T k seen (Unlinked p) (λ x. x h.linked) (rep-keyed p d t n w.unfolds) (rep-keyed p d T root h.before) way
            (Unlinked q) (λ m i. gone m (member m i)) (path-once p T root k h.before) (subst (λ x. Thin (Unlinked q) (path T k) (path x k)) (sym whole-after) thins);
      }

-- A store of the root link: no link of a node changes. A lookup that has loaded a node keeps its answer; its way goes on by S2.
pub record Anew (p q : List ℕ) (U : ℕ → Type 0) (root root' : ℕ) (T T' : Linked) : Type 0 where
  pub words : Redirects p q U 0 L 0
  pub before : Rep p root T
  pub after : Rep q root' T'

module _ {p q : List ℕ} {U : ℕ → Type 0} {root root' : ℕ} {T T' : Linked} (h : Anew p q U root root' T T') where
  pub unfolds-same : (t : Linked) (n : ℕ) → All U t → Rep p n t → Rep q n t
  unfolds-same t n u r = rep-same p q U h.words t n u r

  pub anew-finds : (A A' : Option ℕ → Type 0) → ((o : Option ℕ) → A o → A' o) → (n k : ℕ) → (f : Finds p A n k) → All U f.tree → Finds q A' n k
  anew-finds A A' more n k f u = record { tree = f.tree; unfolds = unfolds-same f.tree n u f.unfolds; answer = more _ f.answer }

  pub anew-way : (n k : ℕ) (seen : List ℕ) → ((m : ℕ) → U m → Unlinked p m → Unlinked q m) → ((m : ℕ) → m ∈ seen → U m) → Thin (Unlinked q) (path T k) (path T' k)
      → (w : OnWay p root seen n k) → All U w.tree → OnWay q root' seen n k
  anew-way n k seen gone usable thins w u =
      let t = w.tree in
      let same_whole : w.whole ≡ T = rep-unique p w.whole T root root refl w.rooted h.before in
      let way : Follows (Unlinked p) seen t T k = rw same_whole at w.follows in
      let member : (m : ℕ) → m ∈ (seen ++ path t k) → U m = λ m i. ⊎_elim (usable m) (all-path U t k m u) ((in-append m seen (path t k)).0 i) in
      record {
        tree = t;
        whole = T';
        unfolds = unfolds-same t n u w.unfolds;
        rooted = h.after;
        follows = thin-trans (thin-members (λ m i. gone m (member m i)) way) thins;
      }

-- from the root itself: before its first turn a lookup is on its way with nothing seen
pub root-way : (p : List ℕ) (root k : ℕ) (T : Linked) → Rep p root T → OnWay p root [] root k
root-way p root k T r = record { tree = T; whole = T; unfolds = r; rooted = r; follows = thin-refl (path T k) }
