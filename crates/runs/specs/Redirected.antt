-- A turn of the writer as a slot meets it, for whichever search the slot makes: one link redirected, the root's or that of a node of the tree.
use Rattle.std.specs.Prelude.{ℕ, ◌<◌, ◌≡◌, refl, cond, List, ◌≢◌, ◌↔◌}
use Rattle.std.proofs.Common.{ap, ◌∙◌, subst, inl, inr, ⊎_elim, arith, ne_eqb}
use Rattle.datatypes.specs.declared.Side.{Side}
use Rattle.datatypes.specs.declared.Side.TheVariants.{L, R}
use Rattle.datatypes.specs.declared.Link.{Link}
use Rattle.datatypes.specs.declared.Link.TheVariants.{Root, Left, Right}
use Rattle.datatypes.specs.Side.{link_at}
use Rattle.spec.specs.Numbers.{slots}
use Rattle.spec.specs.Pool.{word, child, standing_word, standing_free, standing_linked}
use Rattle.spec.specs.Register.{State}
use Rattle.laws.specs.Words.{word_none}
use Rattle.base.specs.Lists.{◌∈◌, in-append}
use Rattle.tree.specs.Linked.{Linked, nil, cell, nodes}
use Rattle.tree.specs.Graft.{All, all_map, hits}
use Rattle.heap.specs.Rep.{Rep}
use Rattle.readers.specs.Reach.{HasStanding, Kept, Closed, InUse, kept-use, kept-child}
use Rattle.readers.specs.Graft.{Redirects}
use Rattle.readers.specs.Lookups.{Store, Anew}
use Rattle.promise.specs.Demands.{TreeLink}
use Rattle.readers.specs.Stored.{hits_link}
use Rattle.readers.specs.Turns.{Turn}

-- All of a tree below a kept node is kept.
all-kept : (p : List ℕ) (s : ℕ) → s < slots → Closed p → (t : Linked) (a : ℕ) → Rep p a t → (a ≢ 0 → Kept p s a) → All (Kept p s) t
all-kept p s u c nil a h k = tt
all-kept p s u c (cell N l r) a h k =
    let d : a ≢ 0 = (let i = h.0.is in let j = h.0.within.low in omega arith) in
    let kept_top : Kept p s N.num = subst (λ n. Kept p s n) h.0.is (k d) in
    (kept_top, all-kept p s u c l _ h.1 (λ z. kept-child p s N.num L u c kept_top z), all-kept p s u c r _ h.2 (λ z. kept-child p s N.num R u c kept_top z))

abbrev pub NotFree : List ℕ → ℕ → Type 0
NotFree p n = InUse p n

all-nodes : (U : ℕ → Type 0) (t : Linked) → ((n : ℕ) → n ∈ nodes t → U n) → All U t
all-nodes U nil h = tt
all-nodes U (cell N l r) h =
    (h N.num (inl refl), all-nodes U l (λ n i. h n (inr ((in-append n (nodes l) (nodes r)).1 (inl i)))), all-nodes U r (λ n i. h n (inr ((in-append n (nodes l) (nodes r)).1 (inr i)))))

-- all of the tree that a slot's node unfolds to has left the free nodes
pub all-below : (p : List ℕ) (s n : ℕ) → s < slots → Closed p → Kept p s n → (t : Linked) → Rep p n t → All (NotFree p) t
all-below p s n u closed here t h = all_map (Kept p s) (NotFree p) (λ i. kept-use p s i) t (all-kept p s u closed t n h (λ _. here))

hits_at : (d : ℕ) (z : Side) (n : ℕ) (y : Side) → hits_link (link_at z d) n y ≡ hits d z n y
hits_at d L n L = refl
hits_at d L n R = refl
hits_at d R n L = refl
hits_at d R n R = refl

module _ (st after : State) (came gone : List ℕ) (v : ℕ) where
  not-came : (l : Link) → Turn st after came gone l v → (n : ℕ) → NotFree st.pool n → ¬ (n ∈ came)
  not-came l t n u i = ⊎_elim (λ a. ⊎_elim (λ e. absurd (omega arith)) (λ e. absurd (omega arith)) u) (λ a. ⊎_elim (λ e. absurd (omega arith)) (λ e. absurd (omega arith)) u) (t.new n i)

  redirects-node : (d : ℕ) (z : Side) → Turn st after came gone (link_at z d) v → Redirects st.pool after.pool (NotFree st.pool) d z v
  redirects-node d z t = record {
    size = t.size;
    keys = λ n u. t.keys n (not-came (link_at z d) t n u);
    records = λ n u. t.records n (not-came (link_at z d) t n u);
    links = λ n y u. t.links n y (not-came (link_at z d) t n u) ∙ ap (λ b. cond b v (child st.pool y n)) (hits_at d z n y);
  }

  redirects-root : Turn st after came gone Root v → Redirects st.pool after.pool (NotFree st.pool) 0 L 0
  redirects-root t = record {
    size = t.size;
    keys = λ n u. t.keys n (not-came Root t n u);
    records = λ n u. t.records n (not-came Root t n u);
    links = λ n z u. t.links n z (not-came Root t n u) ∙ none n z u;
  }
    where
      none : (n : ℕ) (z : Side) → NotFree st.pool n → child st.pool z n ≡ cond (hits 0 L n z) 0 (child st.pool z n)
      none n L u = rw (ne_eqb 0 n (λ e. let z = subst (λ m. word st.pool m standing_word ≡ standing_free) e (word_none st.pool standing_word) in ⊎_elim (λ a. absurd (omega arith)) (λ a. absurd (omega arith)) u))
      none n R u = refl

-- A store of the writer as one of the root link or of the link of a node of T.
module _ (st after : State) (came gone : List ℕ) (v : ℕ) (T T' below : Linked) (before : Rep st.pool st.register.root T)
    (linked : (n : ℕ) → HasStanding st.pool n standing_linked ↔ (n ∈ nodes T)) (unfolds : Rep after.pool v below) (then : Rep after.pool after.register.root T') where
  abbrev p : List ℕ
  p = st.pool

  abbrev q : List ℕ
  q = after.pool

  abbrev U : ℕ → Type 0
  U = NotFree st.pool

  pub data Redirected : Type 0 where
    anew : Anew p q U st.register.root after.register.root T T' → Redirected
    below-node : (d : ℕ) (z : Side) → Store p q U d z v st.register.root T T' → d ∈ nodes T → after.register.root ≡ st.register.root → Redirected

  node-link : (d : ℕ) (z : Side) → Redirects p q U d z v → HasStanding p d standing_linked → after.register.root ≡ st.register.root → Redirected
  node-link d z h o e = below-node d z
      (record {
        words = h;
        linked = o;
        below = below;
        unfolds = unfolds;
        before = before;
        after = rw e at then;
        all = all-nodes U T (λ m i. inl ((linked m).1 i));
      })
      ((linked d).0 o) e

  pub redirected : (l : Link) → Turn st after came gone l v → TreeLink p l → Redirected
  redirected Root t o = anew (record { words = redirects-root st after came gone v t; before = before; after = then })
  redirected (Left d) t o = node-link d L (redirects-node st after came gone v d L t) o t.root
  redirected (Right d) t o = node-link d R (redirects-node st after came gone v d R t) o t.root
