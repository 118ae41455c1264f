-- A link store of the writer before anything is retired: a node may have been taken and filled, one link is stored, colours may change.
-- What every word of the other nodes is then; no node goes missing.
use Rattle.std.specs.Prelude.{ℕ, ◌+◌, ◌<◌, ◌≤◌, ◌≡◌, refl, Bool, true, false, cond, List, [], ◌∷◌, eqb, length}
use Rattle.std.proofs.Common.{sym, ap, ◌∙◌, subst, inl, inr, arith, eqb-true}
use Rattle.std.proofs.lemmas.Bool.{eqb-false}
use Rattle.datatypes.specs.declared.Side.{Side}
use Rattle.datatypes.specs.declared.Side.TheVariants.{L, R}
use Rattle.datatypes.specs.declared.Link.{Link}
use Rattle.datatypes.specs.declared.Link.TheVariants.{Root, Left, Right}
use Rattle.datatypes.specs.declared.Register.{Register}
use Rattle.datatypes.specs.Side.{same_side}
use Rattle.spec.specs.Numbers.{node_words, slots}
use Rattle.spec.specs.Pool.{word, set_word, child, key_word, record_at, left_word, right_word, link_word, colour_word, standing_word, holders_word, standing_free, standing_linked}
use Rattle.spec.specs.Register.{State, state, with_root, with_queue, set_link}
use Rattle.spec.specs.Free.{take_free, take_node, take_as}
use Rattle.base.specs.Lists.{◌∈◌}
use Rattle.spec.specs.FreeQueue.{InPool, Whole}
use Rattle.laws.specs.Words.{length-set_word, word_same, word-other}
use Rattle.laws.specs.Records.{record-kept}
use Rattle.laws.specs.Queue.{link-low, key-link, record-link}
use Rattle.laws.specs.Reading.{ReadingOnly}
use Rattle.promise.specs.Demands.{TreeLink}
use Rattle.readers.specs.Words.{whole-kept, stands-node, fill-length, fill-other, fill-standing}
use Rattle.readers.specs.QueueExact.{field-exact}
use Rattle.readers.specs.Owned.{Owned, own-word, own-take}
use Rattle.readers.specs.Reach.{HasStanding}
use Rattle.tree.specs.Graft.{hits}

-- the link stored, among a node's links; the root after it
abbrev pub hits_link : Link → ℕ → Side → Bool
hits_link Root n z = false
hits_link (Left d) n z = hits d L n z
hits_link (Right d) n z = hits d R n z

abbrev pub root_after : Link → ℕ → ℕ → ℕ
root_after Root v r = v
root_after (Left d) v r = r
root_after (Right d) v r = r

-- The link l := v, with the nodes `came` taken.
pub record Stored (st mid : State) (came : List ℕ) (l : Link) (v : ℕ) : Type 0 where
  pub size : length mid.pool ≡ length st.pool
  pub standing : (n : ℕ) → ¬ (n ∈ came) → word mid.pool n standing_word ≡ word st.pool n standing_word
  pub holders : (n : ℕ) → ¬ (n ∈ came) → word mid.pool n holders_word ≡ word st.pool n holders_word
  pub keys : (n : ℕ) → ¬ (n ∈ came) → word mid.pool n key_word ≡ word st.pool n key_word
  pub records : (n : ℕ) → ¬ (n ∈ came) → record_at mid.pool n ≡ record_at st.pool n
  pub links : (n : ℕ) (z : Side) → ¬ (n ∈ came) → child mid.pool z n ≡ cond (hits_link l n z) v (child st.pool z n)
  pub new : (n : ℕ) → n ∈ came → HasStanding st.pool n standing_free × HasStanding mid.pool n standing_linked
  pub root : mid.register.root ≡ root_after l v st.register.root
  pub readers : mid.register.readers ≡ st.register.readers
  pub free : st.register.free ≤ mid.register.free + length came
  pub queue : List ℕ
  pub owned : Owned mid queue

-- a link of a node after a link is set
pub child-set : (p : List ℕ) (d : ℕ) (s : Side) (v n : ℕ) (z : Side) → InPool p d → child (set_word p d (link_word s) v) z n ≡ cond (hits d s n z) v (child p z n)
child-set p d s v n z hd = go (eqb d n) refl s z
  where
    go : (x : Bool) → eqb d n ≡ x → (s z : Side) → child (set_word p d (link_word s) v) z n ≡ cond (cond (same_side s z) x false) v (child p z n)
    go true e L L = rw (← eqb-true d n e) (word_same p d left_word v hd (omega arith))
    go true e R R = rw (← eqb-true d n e) (word_same p d right_word v hd (omega arith))
    go true e L R = word-other p d n left_word right_word v (omega arith) (omega arith) (inr (omega arith))
    go true e R L = word-other p d n right_word left_word v (omega arith) (omega arith) (inr (omega arith))
    go false e L L = word-other p d n left_word left_word v (omega arith) (omega arith) (inl (eqb-false d n e))
    go false e R R = word-other p d n right_word right_word v (omega arith) (omega arith) (inl (eqb-false d n e))
    go false e L R = word-other p d n left_word right_word v (omega arith) (omega arith) (inl (eqb-false d n e))
    go false e R L = word-other p d n right_word left_word v (omega arith) (omega arith) (inl (eqb-false d n e))

-- fields of the register that no node's standing goes by
pub own-fields : (p : List ℕ) (r q : Register) (l : List ℕ) → q.first ≡ r.first → q.last ≡ r.last → q.free ≡ r.free → q.readers ≡ r.readers
    → ReadingOnly slots q.readers q.awaited → Owned (state p r) l → Owned (state p q) l
own-fields p r q l a b c e w h = record {
  exact = field-exact p r q l a b c h.exact;
  good = λ n hn. rw e (h.good n hn);
  awaited = w;
  per_slot = ap length e ∙ h.per_slot;
}

-- a link of a linked node
side-stored : (st : State) (q : List ℕ) (d : ℕ) (s : Side) (v : ℕ) (l : Link) → ((n : ℕ) (z : Side) → hits_link l n z ≡ hits d s n z) → root_after l v st.register.root ≡ st.register.root
    → InPool st.pool d → Owned st q → Stored st (state (set_word st.pool d (link_word s) v) st.register) [] l v
side-stored st q d s v l same keep hd h =
    let p = st.pool in
    let u = link-low s in
    let high : (n f : ℕ) → colour_word < f → f < node_words → word (set_word p d (link_word s) v) n f ≡ word p n f =
    λ n f a b. word-other p d n (link_word s) f v (omega arith) b (inr (omega arith)) in
    record {
      size = length-set_word p d (link_word s) v;
      standing = λ n _. high n standing_word (omega arith) (omega arith);
      holders = λ n _. high n holders_word (omega arith) (omega arith);
      keys = λ n _. key-link p d n s v;
      records = λ n _. record-link p d n s v;
      links = λ n z _. rw (same n z) (child-set p d s v n z hd);
      new = λ n i. absurd i;
      root = sym keep;
      readers = refl;
      free = omega arith;
      queue = q;
      owned = own-word st q d (link_word s) v (omega arith) h;
    }

pub link-stored : (st : State) (q : List ℕ) (l : Link) (v : ℕ) → Whole st.pool → TreeLink st.pool l → Owned st q → Stored st (set_link st l v) [] l v
unfolding set_link with_root
link-stored st q Root v w o h = record {
  size = refl;
  standing = λ n _. refl;
  holders = λ n _. refl;
  keys = λ n _. refl;
  records = λ n _. refl;
  links = λ n z _. refl;
  new = λ n i. absurd i;
  root = refl;
  readers = refl;
  free = omega arith;
  queue = q;
  owned = own-fields st.pool st.register (with_root st.register v) q refl refl refl refl h.awaited h;
}
link-stored st q (Left d) v w o h = side-stored st q d L v (Left d) (λ n z. refl) refl (stands-node st.pool d standing_word w (omega arith) (omega arith)) h
link-stored st q (Right d) v w o h = side-stored st q d R v (Right d) (λ n z. refl) refl (stands-node st.pool d standing_word w (omega arith) (omega arith)) h

-- and with the first free node taken and filled before
pub taking-stored : (st : State) (n : ℕ) (q : List ℕ) (k w : ℕ) (s : Side) (x y c : ℕ) (l : Link) (v : ℕ) → Whole st.pool → TreeLink st.pool l → Owned st (n ∷ q)
    → Stored st (set_link (take_node st k w s x y c) l v) (n ∷ []) l v
unfolding take_as take_free with_queue
taking-stored st n q k w s x y c l v whole o h =
    let p = st.pool in
    let a = st.register.first in
    let first : a ≡ n = h.exact.queued.chain.0 in
    let here = (h.exact.standing n).0 (inl refl) in
    let ha : InPool p a = rw first here.0 in
    let base = take_node st k w s x y c in
    let out : (m f : ℕ) → f < node_words → ¬ (m ∈ (n ∷ [])) → word base.pool m f ≡ word p m f =
    λ m f u i. fill-other p a k w s x y c m f u (λ e. i (inl (sym e ∙ first))) in
    let g = link-stored base q l v (whole-kept p base.pool (fill-length p a k w s x y c) whole) (owner l o (λ m e. out m standing_word (omega arith) e) here.1)
    (own-take st n q k w s x y c h) in
    record {
      size = g.size ∙ fill-length p a k w s x y c;
      standing = λ m i. g.standing m (λ z. z) ∙ out m standing_word (omega arith) i;
      holders = λ m i. g.holders m (λ z. z) ∙ out m holders_word (omega arith) i;
      keys = λ m i. g.keys m (λ z. z) ∙ out m key_word (omega arith) i;
      records = λ m i. g.records m (λ z. z) ∙ record-kept p base.pool m (λ f u. out m f (omega arith) i);
      links = λ m z i. g.links m z (λ z. z) ∙ ap (cond (hits_link l m z) v) (out m (link_word z) (let u = link-low z in omega arith) i);
      new = λ m i. only m i (here.1, g.standing n (λ z. z) ∙ subst (λ i. HasStanding base.pool i standing_linked) first (fill-standing p a k w s x y c ha));
      root = g.root;
      readers = g.readers;
      free = let a = g.free in omega arith;
      queue = g.queue;
      owned = g.owned;
    }
  where
    only : (m : ℕ) → m ∈ (n ∷ []) → HasStanding st.pool n standing_free × HasStanding (set_link (take_node st k w s x y c) l v).pool n standing_linked
        → HasStanding st.pool m standing_free × HasStanding (set_link (take_node st k w s x y c) l v).pool m standing_linked
    only m (inl e) z = rw e z
    only m (inr i) z = absurd i

    apart : (d : ℕ) → HasStanding st.pool d standing_linked → HasStanding st.pool n standing_free → ¬ (d ∈ (n ∷ []))
    apart d a b (inl e) = let z = subst (λ m. HasStanding st.pool m standing_linked) e a in absurd (omega arith)
    apart d a b (inr i) = i

    owner : (l : Link) → TreeLink st.pool l → ((m : ℕ) → ¬ (m ∈ (n ∷ [])) → word (take_node st k w s x y c).pool m standing_word ≡ word st.pool m standing_word)
        → HasStanding st.pool n standing_free → TreeLink (take_node st k w s x y c).pool l
    owner Root o f z = tt
    owner (Left d) o f z = f d (apart d o z) ∙ o
    owner (Right d) o f z = f d (apart d o z) ∙ o
