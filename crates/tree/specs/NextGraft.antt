-- A link of one node redirected (Graft), met by a search for the next ticket: it never passes that link, and then nothing changes for it; or
-- it passes the node and goes on in the new subtree with what it remembers there. And the lemma for all stores: by (c) what it remembers
-- at that node is at most what the root's own way remembers there, so it ends at most where that way ends.
use Rattle.std.specs.Prelude.{ℕ, ◌≡◌, ◌⊎◌, false, cond, eqb}
use Rattle.std.proofs.Math.Path.{refl}
use Rattle.std.proofs.Common.{sym, ap, ◌∙◌, subst, inl, inr, ⊎_elim}
use Rattle.std.proofs.Math.Bool.{true}
use mathlib.Core.List.{List, [], ◌∷◌, ◌++◌, append_assoc}
use Rattle.std.proofs.Math.Option.{Option, none, some}
use Rattle.std.proofs.Math.Decide.{ℕ_discrete}
use borrow.Author.Tests.{eq-eqb, ne_eqb}
use Rattle.datatypes.specs.declared.Side.{Side}
use Rattle.datatypes.specs.declared.Side.TheVariants.{L, R}
use Rattle.datatypes.specs.Side.{other, same_side}
use Rattle.base.specs.Walk.{cond_both}
use Rattle.base.specs.Lists.{◌∈◌, in-append, Distinct}
use Rattle.tree.specs.Linked.{Node, Linked, nil, cell, nodes}
use Rattle.tree.specs.Marked.{◌≼◌, Mark, met, nums, nums-append, middle, ThinM, thin_m-trans, thin_m-stays, thin_m-members, thin_m-both, thin_m-cut, keep}
use Rattle.tree.specs.NextWay.{Goes, goes, noted, goes_case, goes-not, way, above, way_at, above_at, noted-mono, above-mono, way-mono}
use Rattle.tree.specs.Graft.{hits, graft, All, Keyed, kid, cell_at, graft-at, kid-both}
use Rattle.tree.specs.Tickets.{Tickets, tickets-at}

-- The search for what follows g, with m remembered, and the link on the side s of the node d, whose key is k.
pub data Meets (d : ℕ) (s : Side) (k : ℕ) (b t : Linked) (g : ℕ) (m : Option ℕ) : Type 0 where
  apart : ¬ ((d ∈ nums (way t g m)) × Goes s g k) → above (graft d s b t) g m ≡ above t g m → way (graft d s b t) g m ≡ way t g m → Meets d s k b t g m
  through : (pre rest : List Mark) (a : Option ℕ) → way t g m ≡ pre ++ met d a ∷ rest → way (graft d s b t) g m ≡ pre ++ met d a ∷ way b g (noted s k a)
      → above (graft d s b t) g m ≡ above b g (noted s k a) → Goes s g k → Meets d s k b t g m

module _ (d : ℕ) (s : Side) (k : ℕ) (b : Linked) (g : ℕ) where
  abbrev grafted : Linked → Linked
  grafted t = graft d s b t

  -- the search goes on from node n of t in u, remembering a, and does not pass the link at n
  up : (n : ℕ) (t u : Linked) (m a : Option ℕ) → way t g m ≡ met n m ∷ way u g a → above t g m ≡ above u g a → way (grafted t) g m ≡ met n m ∷ way (grafted u) g a
      → above (grafted t) g m ≡ above (grafted u) g a → ((d ≡ n) → ¬ (Goes s g k)) → Meets d s k b u g a → Meets d s k b t g m
  up n t u m a wt at wg ag out (apart c f h) = apart (λ i. go (subst (λ xs. d ∈ nums xs) wt i.0) i.1) (ag ∙ f ∙ sym at) (wg ∙ ap (met n m ∷◌) h ∙ sym wt)
    where
      go : d ∈ (n ∷ nums (way u g a)) → ¬ (Goes s g k)
      go (inl e) x = out e x
      go (inr i) x = c (i, x)
  up n t u m a wt at wg ag out (through pre rest x e f h i) = through (met n m ∷ pre) rest x (wt ∙ ap (met n m ∷◌) e) (wg ∙ ap (met n m ∷◌) f) (ag ∙ h) i

  module _ (N : Node) (l r : Linked) (m : Option ℕ) where
    abbrev near : Option ℕ
    near = noted s N.key m

    abbrev far : Option ℕ
    far = noted (other s) N.key m

    abbrev on : Linked
    on = cond (eqb d N.num) b (grafted (kid s l r))

    way-cell : way (cell N l r) g m ≡ met N.num m ∷ cond (goes s g N.key) (way (kid s l r) g near) (way (kid (other s) l r) g far)
    way-cell = ap (λ t. way t g m) (cell_at s N l r) ∙ way_at s N (kid s l r) (kid (other s) l r) g m

    above-cell : above (cell N l r) g m ≡ cond (goes s g N.key) (above (kid s l r) g near) (above (kid (other s) l r) g far)
    above-cell = ap (λ t. above t g m) (cell_at s N l r) ∙ above_at s N (kid s l r) (kid (other s) l r) g m

    way-graft : way (grafted (cell N l r)) g m ≡ met N.num m ∷ cond (goes s g N.key) (way on g near) (way (grafted (kid (other s) l r)) g far)
    way-graft = ap (λ t. way t g m) (graft-at d s b N l r) ∙ way_at s N on (grafted (kid (other s) l r)) g m

    above-graft : above (grafted (cell N l r)) g m ≡ cond (goes s g N.key) (above on g near) (above (grafted (kid (other s) l r)) g far)
    above-graft = ap (λ t. above t g m) (graft-at d s b N l r) ∙ above_at s N on (grafted (kid (other s) l r)) g m

  pub meets : (t : Linked) (m : Option ℕ) → Keyed d k t → Meets d s k b t g m
  unfolding way above
  meets nil m h = apart (λ i. i.0) refl refl
  meets (cell N l r) m h =
      node (kid-both (λ t. (a : Option ℕ) → Meets d s k b t g a) s l r (λ a. meets l a h.1) (λ a. meets r a h.2))
      (kid-both (λ t. (a : Option ℕ) → Meets d s k b t g a) (other s) l r (λ a. meets l a h.1) (λ a. meets r a h.2))
    where
      turn : ((a : Option ℕ) → Meets d s k b (kid s l r) g a) → Goes s g N.key → goes s g N.key ≡ true → Dec (d ≡ N.num) → Meets d s k b (cell N l r) g m
      turn w o e (yes i) =
          let z = eq-eqb d N.num i in
          let q = h.0 i in
          through [] (way (kid s l r) g (noted s N.key m)) m (way-cell N l r m ∙ rw (e, i)) (way-graft N l r m ∙ rw (e, z, ← q, i))
          (above-graft N l r m ∙ rw (e, z, ← q)) (rw (← q) o)
      turn w o e (no c) =
          let z = ne_eqb d N.num c in
          up N.num (cell N l r) (kid s l r) m (noted s N.key m) (way-cell N l r m ∙ rw e) (above-cell N l r m ∙ rw e) (way-graft N l r m ∙ rw (e, z))
          (above-graft N l r m ∙ rw (e, z)) (λ i. absurd (c i)) (w (noted s N.key m))

      node : ((a : Option ℕ) → Meets d s k b (kid s l r) g a) → ((a : Option ℕ) → Meets d s k b (kid (other s) l r) g a) → Meets d s k b (cell N l r) g m
      node w v =
          goes_case s g N.key
          (λ o e. turn w o e (ℕ_discrete d N.num))
          (λ o e. up N.num (cell N l r) (kid (other s) l r) m (noted (other s) N.key m) (way-cell N l r m ∙ rw e) (above-cell N l r m ∙ rw e)
          (way-graft N l r m ∙ rw e) (above-graft N l r m ∙ rw e) (λ i x. goes-not s g k x (rw (← (h.0 i)) o)) (v (noted (other s) N.key m)))

-- a fact of each node's number holds of those on the way
pub all-way : (U : ℕ → Type 0) (t : Linked) (g : ℕ) (a : Option ℕ) (m : ℕ) → All U t → m ∈ nums (way t g a) → U m
unfolding way
all-way U nil g a m u i = absurd i
all-way U (cell N l r) g a m u (inl e) = rw e u.0
all-way U (cell N l r) g a m u (inr i) =
    goes_case L g N.key (λ _ e. all-way U l g (some N.key) m u.1 (rw e at i)) (λ _ e. all-way U r g a m u.2 (rw e at i))

-- Tickets: those of the tree and of what the link holds now; what hangs on a link of a node of the tree is of the tree.
pub graft-tickets : (Q : ℕ → ℕ → Type 0) (d : ℕ) (s : Side) (b t : Linked) → Tickets Q b → Tickets Q t → Tickets Q (graft d s b t)
graft-tickets Q d s b nil hb h = tt
graft-tickets Q d s b (cell N l r) hb h = (
  h.0,
  cond_both (λ t. Tickets Q t) (hits d s N.num L) hb (graft-tickets Q d s b l hb h.1),
  cond_both (λ t. Tickets Q t) (hits d s N.num R) hb (graft-tickets Q d s b r hb h.2),
)

pub graft-has : (Q : ℕ → ℕ → Type 0) (d : ℕ) (s : Side) (b t : Linked) → d ∈ nodes t → Tickets Q (graft d s b t) → Tickets Q b
graft-has Q d s b nil i h = absurd i
graft-has Q d s b (cell N l r) i h = elim (ℕ_discrete d N.num) [
  | yes e ↦
      (let on = cond (eqb d N.num) b (graft d s b (kid s l r)) in
      let k : Tickets Q on = ((tickets-at Q s N on (graft d s b (kid (other s) l r))).0 (subst (Tickets Q) (graft-at d s b N l r) h)).1 in
      rw (eq-eqb d N.num e) at k)
  | no c ↦
      (let out : (z : Side) → hits d s N.num z ≡ false = λ z. cond_both (λ x. x ≡ false) (same_side s z) (ne_eqb d N.num c) refl in
      ⊎_elim (λ e. absurd (c e))
      (λ j. ⊎_elim (λ k. graft-has Q d s b l k (rw (out L) at h.1)) (λ k. graft-has Q d s b r k (rw (out R) at h.2)) ((in-append d (nodes l) (nodes r)).0 j)) i)
]

-- a node that stands once stands neither before itself nor after
once-there : (d : ℕ) (a : Option ℕ) (xs ys : List Mark) → Distinct (nums (xs ++ met d a ∷ ys)) → (¬ (d ∈ nums xs)) × (¬ (d ∈ nums ys))
once-there d a [] ys h = (λ i. i, h.0)
once-there d a (met n c ∷ xs) ys h =
    let r = once-there d a xs ys h.1 in
    (λ i. ⊎_elim (λ e. h.0 (subst (λ z. z ∈ nums (xs ++ met d a ∷ ys)) e (middle d a xs ys))) r.0 i, r.1)

-- (c) of trees: t where the search is, with m remembered, T the whole tree; P are the nodes that are linked no longer
abbrev pub Trails : (ℕ → Type 0) → List Mark → Linked → Option ℕ → Linked → ℕ → Type 0
Trails P seen t m T g = ThinM P (seen ++ way t g m) (way T g none)

-- The tree lemma. The link on the side s of node d, whose key is k, becomes b in both trees.
module _ (d : ℕ) (s : Side) (k : ℕ) (b t T : Linked) (g : ℕ) (m : Option ℕ) (seen : List Mark) (P : ℕ → Type 0) (stays : ¬ (P d)) (ht : Keyed d k t) (h_t : Keyed d k T)
    (once : Distinct (nums (way T g none))) (trail : Trails P seen t m T g) where
  abbrev t' : Linked
  t' = graft d s b t

  abbrev T' : Linked
  T' = graft d s b T

  encountered : (pre rest : List Mark) (a : Option ℕ) → way t g m ≡ pre ++ met d a ∷ rest → d ∈ nums (way T g none)
  encountered pre rest a e =
      thin_m-stays trail d stays
      (rw (nums-append seen (way t g m)) ((in-append d (nums seen) (nums (way t g m))).1 (inr (subst (λ l. d ∈ nums l) (sym e) (middle d a pre rest)))))

  within : (x : ℕ) (pre rest : List Mark) (a : Option ℕ) → way t g m ≡ pre ++ met d a ∷ rest → x ∈ nums (seen ++ pre) → x ∈ nums (seen ++ way t g m)
  within x pre rest a e i =
      let whole : seen ++ way t g m ≡ (seen ++ pre) ++ met d a ∷ rest = ap (seen ++◌) e ∙ sym (append_assoc seen pre (met d a ∷ rest)) in
      rw (whole, nums-append (seen ++ pre) (met d a ∷ rest)) ((in-append x (nums (seen ++ pre)) (d ∷ nums rest)).1 (inl i))

  -- where both pass d: what they remember there, and the ways up to it
  meeting : (pre rest pre' rest' : List Mark) (a a' : Option ℕ) → way t g m ≡ pre ++ met d a ∷ rest → way T g none ≡ pre' ++ met d a' ∷ rest'
      → ThinM P (seen ++ pre) pre' × (a ≼ a')
  meeting pre rest pre' rest' a a' e e' =
      let single = once-there d a' pre' rest' (subst (λ l. Distinct (nums l)) e' once) in
      let whole : seen ++ way t g m ≡ (seen ++ pre) ++ met d a ∷ rest = ap (seen ++◌) e ∙ sym (append_assoc seen pre (met d a ∷ rest)) in
      thin_m-cut trail d stays a a' (seen ++ pre) rest pre' rest' whole e' single.0 single.1

  -- the end is the old one, or at most what the root's way ends with now
  pub above-after : (above t' g m ≡ above t g m) ⊎ (above t' g m ≼ above T' g none)
  above-after = go (meets d s k b g t m ht) (meets d s k b g T none h_t)
    where
      go : Meets d s k b t g m → Meets d s k b T g none → (above t' g m ≡ above t g m) ⊎ (above t' g m ≼ above T' g none)
      go (apart c f h) w = inl f
      go (through pre rest a e h f n) (apart c f' h') = absurd (c (encountered pre rest a e, n))
      go (through pre rest a e h f n) (through pre' rest' a' e' h' f' n') =
          let r = meeting pre rest pre' rest' a a' e e' in
          inr (rw (f, f') (above-mono b g (noted s k a) (noted s k a') (noted-mono s k a a' r.1)))

  -- and (c) goes on by S3
  pub trails-after : (Q : ℕ → Type 0) → ((n : ℕ) → n ∈ nums (seen ++ way t g m) → P n → Q n) → ThinM Q (way T g none) (way T' g none) → Trails Q seen t' m T' g
  trails-after Q weaken thins = go (meets d s k b g t m ht) (meets d s k b g T none h_t)
    where
      go : Meets d s k b t g m → Meets d s k b T g none → Trails Q seen t' m T' g
      go (apart c f h) w = rw h (thin_m-trans (thin_m-members weaken trail) thins)
      go (through pre rest a e h f n) (apart c f' h') = absurd (c (encountered pre rest a e, n))
      go (through pre rest a e h f n) (through pre' rest' a' e' h' f' n') =
          let r = meeting pre rest pre' rest' a a' e e' in
          let inside : (x : ℕ) → x ∈ nums (seen ++ pre) → x ∈ nums (seen ++ way t g m) = λ x i. within x pre rest a e i in
          let tail : ThinM Q (met d a ∷ way b g (noted s k a)) (met d a' ∷ way b g (noted s k a')) =
          keep r.1 (way-mono b g (noted s k a) (noted s k a') (noted-mono s k a a' r.1)) in
          rw (h, h', ← append_assoc seen pre (met d a ∷ way b g (noted s k a))) (thin_m-both (thin_m-members (λ x i. weaken x (inside x i)) r.0) tail)
