-- No node is compared twice: the nodes seen so far and those still to come are distinct, through a store too. Asked is the way on the root's
-- before the store (R2, (c)), not what the store does to it: so it outlives a publish and holds of awaited slots. Of both kinds of search, for C-17.
use Rattle.std.specs.Prelude.{ℕ, ◌≡◌, refl, ◌≢◌, ◌↔◌, List, [], ◌∷◌, ◌++◌}
use Rattle.std.proofs.Common.{sym, ap, ◌∙◌, subst, inl, inr, ⊎_elim, append_assoc}
use Rattle.std.proofs.Math.Option.{Option, none}
use Rattle.base.specs.Lists.{◌∈◌, in-append, Distinct}
use Rattle.datatypes.specs.declared.Side.{Side}
use Rattle.datatypes.specs.declared.Kind.{Kind}
use Rattle.datatypes.specs.declared.Kind.TheVariants as kind
use Rattle.spec.specs.Pool.{word, child, key_word, standing_word, standing_linked}
use Rattle.spec.specs.Search.{towards}
use Rattle.tree.specs.Thin.{Thin, thin-in, thin-stays}
use Rattle.tree.specs.Linked.{Linked, nil, cell, path, nodes, path-nodes}
use Rattle.tree.specs.Marked.{Mark, nums, nums-append, thin_m-thin, thin_m-stays}
use Rattle.tree.specs.Marked as Marked
use Rattle.tree.specs.NextWay.{way, way-cell, way-nodes, way-nums, noted}
use Rattle.tree.specs.NextGraft as Next
use Rattle.tree.specs.NextGraft.{Meets, meets, Trails}
use Rattle.tree.specs.Graft.{graft, All, all-path, Keyed, Passes, apart, through, passes}
use Rattle.heap.specs.Rep.{Rep, rep-unique}
use Rattle.readers.specs.Thinner.{thin-cut, path-once, once-there}
use Rattle.readers.specs.Graft.{rep-keyed}
use Rattle.readers.specs.Lookups.{Follows, Unlinked, OnWay, Store, new, whole-after, unfolds-after, Anew, unfolds-same}
use Rattle.readers.specs.Descends.{Compared, met, on, compared_at}
use Rattle.readers.specs.NextSearches.{OnTrail, member, way-once, visits-next}

-- two lists in one
pub distinct_append : (xs ys : List ℕ) → Distinct (xs ++ ys) ↔ (Distinct xs × Distinct ys × ((n : ℕ) → n ∈ xs → ¬ (n ∈ ys)))
distinct_append [] ys = (λ h. (tt, h, λ n i. absurd i), λ h. h.1)
distinct_append (x ∷ xs) ys =
    let r = distinct_append xs ys in (
      λ h. (let t = r.0 h.1 in
          ((λ i. h.0 ((in-append x xs ys).1 (inl i)), t.0), t.1, λ n i j. ⊎_elim (λ e. h.0 ((in-append x xs ys).1 (inr (subst (λ z. z ∈ ys) e j)))) (λ k. t.2 n k j) i)),
      λ h. (λ i. ⊎_elim h.0.0 (λ j. h.2 x (inl refl) j) ((in-append x xs ys).0 i), r.1 (h.0.1, h.1, λ n i. h.2 n (inr i))),
    )

-- The old way zs passes d, as the root's own way ws does; the new ones, zs' and ws', go on from there in ys.
module _ {P : ℕ → Type 0} (d : ℕ) (stays : ¬ (P d)) (xs rest pre rest' ys : List ℕ) where
  once-on : Thin P (xs ++ d ∷ rest) (pre ++ d ∷ rest') → Distinct (xs ++ d ∷ rest) → Distinct (pre ++ d ∷ rest') → Distinct (pre ++ d ∷ ys)
      → ((n : ℕ) → n ∈ (xs ++ d ∷ rest) → P n → ¬ (n ∈ (pre ++ d ∷ ys))) → Distinct (xs ++ d ∷ ys)
  once-on thin old root new out =
      let a = (distinct_append xs (d ∷ rest)).0 old in
      let b = (distinct_append pre (d ∷ ys)).0 new in
      let once = once-there d pre rest' root in
      let before : Thin P xs pre = thin-cut thin d stays xs rest pre rest' refl refl once.0 once.1 in
      (distinct_append xs (d ∷ ys)).1 (
        a.0,
        b.1,
        λ n i j. ⊎_elim (λ e. a.2 n i (inl e))
            (λ k. ⊎_elim (λ p. out n ((in-append n xs (d ∷ rest)).1 (inl i)) p ((in-append n pre (d ∷ ys)).1 (inr (inr k)))) (λ q. b.2 n q (inr k)) (thin-in before n i)) j,
      )

  once-through : (zs ws zs' ws' : List ℕ) → zs ≡ xs ++ d ∷ rest → ws ≡ pre ++ d ∷ rest' → zs' ≡ xs ++ d ∷ ys → ws' ≡ pre ++ d ∷ ys → Thin P zs ws → Distinct zs → Distinct ws → Distinct ws'
      → ((n : ℕ) → n ∈ zs → P n → ¬ (n ∈ ws')) → Distinct zs'
  once-through zs ws zs' ws' e f e' f' thin old root new out = rw e' (once-on (rw (e, f) at thin) (rw e at old) (rw f at root) (rw f' at new) (rw (e, f') at out))

-- A lookup. The link on the side s of node d, whose key is j, becomes b in both trees; what is linked no longer is not on the root's new way.
module _ (d : ℕ) (s : Side) (j : ℕ) (b t T : Linked) (k : ℕ) (seen : List ℕ) (P : ℕ → Type 0) (stays : ¬ (P d)) (ht : Keyed d j t) (h_t : Keyed d j T)
    (follows : Follows P seen t T k) where
  pub path-distinct : Distinct (seen ++ path t k) → Distinct (path T k) → Distinct (path (graft d s b T) k) → ((n : ℕ) → n ∈ (seen ++ path t k) → P n → ¬ (n ∈ path (graft d s b T) k))
      → Distinct (seen ++ path (graft d s b t) k)
  path-distinct old root new out = go (passes d s j b k t ht) (passes d s j b k T h_t)
    where
      go : Passes d s j b t k → Passes d s j b T k → Distinct (seen ++ path (graft d s b t) k)
      go (apart c f g) w = rw g old
      go (through pre rest e g f n) (apart c f' g') =
          absurd (c (thin-stays follows d stays ((in-append d seen (path t k)).1 (inr (subst (λ l. d ∈ l) (sym e) ((in-append d pre (d ∷ rest)).1 (inr (inl refl)))))), n))
      go (through pre rest e g f n) (through pre' rest' e' g' f' n') =
          once-through d stays (seen ++ pre) rest pre' rest' (path b k) (seen ++ path t k) (path T k) (seen ++ path (graft d s b t) k) (path (graft d s b T) k)
          (ap (seen ++◌) e ∙ sym (append_assoc seen pre (d ∷ rest))) e' (ap (seen ++◌) g ∙ sym (append_assoc seen pre (d ∷ path b k))) g' follows old root new out

-- A search for what follows g, with m remembered.
module _ (d : ℕ) (s : Side) (k : ℕ) (b t T : Linked) (g : ℕ) (m : Option ℕ) (seen : List Mark) (P : ℕ → Type 0) (stays : ¬ (P d)) (ht : Keyed d k t) (h_t : Keyed d k T)
    (trail : Trails P seen t m T g) where
  split : (pre rest : List Mark) (a : Option ℕ) (u : Linked) → way u g m ≡ pre ++ Marked.met d a ∷ rest → nums (seen ++ way u g m) ≡ nums (seen ++ pre) ++ d ∷ nums rest
  split pre rest a u e = ap (λ l. nums (seen ++ l)) e ∙ ap nums (sym (append_assoc seen pre (Marked.met d a ∷ rest))) ∙ nums-append (seen ++ pre) (Marked.met d a ∷ rest)

  pub way-distinct : Distinct (nums (seen ++ way t g m)) → Distinct (nums (way T g none)) → Distinct (nums (way (graft d s b T) g none))
      → ((n : ℕ) → n ∈ nums (seen ++ way t g m) → P n → ¬ (n ∈ nums (way (graft d s b T) g none))) → Distinct (nums (seen ++ way (graft d s b t) g m))
  way-distinct old root new out = go (meets d s k b g t m ht) (meets d s k b g T none h_t)
    where
      go : Meets d s k b t g m → Meets d s k b T g none → Distinct (nums (seen ++ way (graft d s b t) g m))
      go (Next.apart c f h) w = rw h old
      go (Next.through pre rest a e h f n) (Next.apart c f' h') =
          absurd (c (thin_m-stays trail d stays (subst (λ l. d ∈ l) (sym (split pre rest a t e)) ((in-append d (nums (seen ++ pre)) (d ∷ nums rest)).1 (inr (inl refl)))), n))
      go (Next.through pre rest a e h f n) (Next.through pre' rest' a' e' h' f' n') =
          let same = way-nums b g (noted s k a') (noted s k a) in
          once-through d stays (nums (seen ++ pre)) (nums rest) (nums pre') (nums rest') (nums (way b g (noted s k a))) (nums (seen ++ way t g m)) (nums (way T g none))
          (nums (seen ++ way (graft d s b t) g m)) (nums (way (graft d s b T) g none)) (split pre rest a t e) (ap nums e' ∙ nums-append pre' (Marked.met d a' ∷ rest'))
          (split pre (way b g (noted s k a)) a (graft d s b t) h) (ap nums h' ∙ nums-append pre' (Marked.met d a' ∷ way b g (noted s k a')) ∙ ap (λ l. nums pre' ++ d ∷ l) same)
          (thin_m-thin trail) old root new out

-- the nodes that a search visits from the top of a tree, by its kind and key
abbrev pub visits : Kind → ℕ → Linked → List ℕ
visits kind.Lookup k t = path t k
visits kind.Next k t = nums (way t k none)

-- a search goes on from node n: a lookup's key is another
abbrev pub GoesOn : Kind → List ℕ → ℕ → ℕ → Type 0
GoesOn kind.Lookup p n k = k ≢ word p n key_word
GoesOn kind.Next p n k = Unit {0}

headed : (x n : ℕ) (xs : List ℕ) → n ≡ x → (rest : List ℕ) × (x ∷ xs ≡ n ∷ rest)
headed x n xs e = (xs, ap (◌∷ xs) (sym e))

-- at a node: it comes first; and if the search goes on, then those from the child on
visits-first : (κ : Kind) (p : List ℕ) (n k : ℕ) (t : Linked) → n ≢ 0 → Rep p n t → (rest : List ℕ) × (visits κ k t ≡ n ∷ rest)
visits-first κ p n k nil d h = absurd (d h)
visits-first kind.Lookup p n k (cell N l r) d h = headed N.num n _ h.0.is
visits-first kind.Next p n k (cell N l r) d h = subst (λ l. (rest : List ℕ) × (nums l ≡ n ∷ rest)) (sym (way-cell N l r k none)) (headed N.num n _ h.0.is)

visits-on : (κ : Kind) (p : List ℕ) (n k : ℕ) (t u : Linked) → n ≢ 0 → GoesOn κ p n k → Rep p n t → Rep p (child p (towards p k n) n) u → visits κ k t ≡ n ∷ visits κ k u
visits-on kind.Lookup p n k t u d e r i = go (compared_at p n k t d r)
  where
    go : Compared p n k t → path t k ≡ n ∷ path u k
    go (met a b) = absurd (e a)
    go (on a w j b c) = c ∙ ap (λ x. n ∷ path x k) (rep-unique p w u _ _ refl j i)
visits-on kind.Next p n k t u d e r i = visits-next p n k t u d r i

-- The same of a node in a pool: whatever tree it unfolds to.
abbrev pub SeenOnce : Kind → List ℕ → List ℕ → ℕ → ℕ → Type 0
SeenOnce κ p seen n k = (t : Linked) → Rep p n t → Distinct (seen ++ visits κ k t)

-- nothing seen
pub seen_none : (κ : Kind) (p : List ℕ) (n k : ℕ) → SeenOnce κ p [] n k
seen_none kind.Lookup p n k t r = path-once p t n k r
seen_none kind.Next p n k t r = way-once p t n k none r

-- the node that it is at is not among those seen
pub seen_here : (κ : Kind) (p seen : List ℕ) (n k : ℕ) (t : Linked) → n ≢ 0 → Rep p n t → SeenOnce κ p seen n k → Distinct (seen ++ n ∷ [])
seen_here κ p seen n k t d r h =
    let f = visits-first κ p n k t d r in
    let all = (distinct_append seen (n ∷ f.0)).0 (subst (λ l. Distinct (seen ++ l)) f.1 (h t r)) in
    (distinct_append seen (n ∷ [])).1 (all.0, (λ i. i, tt), λ m i j. ⊎_elim (λ e. all.2 m i (inl e)) (λ z. absurd z) j)

-- a turn: the node has been compared, and its child is loaded
pub seen-turn : (κ : Kind) (p seen : List ℕ) (n k : ℕ) (t : Linked) → n ≢ 0 → GoesOn κ p n k → Rep p n t → SeenOnce κ p seen n k
    → SeenOnce κ p (seen ++ n ∷ []) (child p (towards p k n) n) k
seen-turn κ p seen n k t d e r h u i = rw (append_assoc seen (n ∷ []) (visits κ k u)) (subst (λ l. Distinct (seen ++ l)) (visits-on κ p n k t u d e r i) (h t r))

-- A store: T' is the whole tree after it, whose nodes stand linked.
module _ {p q : List ℕ} {U : ℕ → Type 0} {d : ℕ} {s : Side} {b root : ℕ} {T T' : Linked} (h : Store p q U d s b root T T') (gone : (m : ℕ) → U m → Unlinked p m → Unlinked q m)
    (linked : (m : ℕ) → m ∈ nodes T' → word q m standing_word ≡ standing_linked) where
  pub seen-store : (n k : ℕ) (seen : List ℕ) → ((m : ℕ) → m ∈ seen → U m) → (w : OnWay p root seen n k) → All U w.tree → SeenOnce kind.Lookup p seen n k
      → SeenOnce kind.Lookup q seen n k
  seen-store n k seen usable w u old t' r =
      let t = w.tree in
      let same_whole : w.whole ≡ T = rep-unique p w.whole T root root refl w.rooted h.before in
      let way : Follows (Unlinked p) seen t T k = rw same_whole at w.follows in
      let now : new h t ≡ t' = rep-unique q (new h t) t' n n refl (unfolds-after h n t u w.unfolds) r in
      let member : (m : ℕ) → m ∈ (seen ++ path t k) → U m = λ m i. ⊎_elim (usable m) (all-path U t k m u) ((in-append m seen (path t k)).0 i) in
      let whole = whole-after h in
      subst (λ x. Distinct (seen ++ path x k)) now
      (path-distinct d s (word p d key_word) h.below t T k seen (Unlinked p) (λ x. x h.linked) (rep-keyed p d t n w.unfolds) (rep-keyed p d T root h.before) way
      (old t w.unfolds) (path-once p T root k h.before) (subst (λ x. Distinct (path x k)) (sym whole) (path-once q T' root k h.after))
      (λ m i x j. gone m (member m i) x (linked m (path-nodes T' k m (subst (λ y. m ∈ path y k) whole j)))))

  -- of a search for what follows g, with a remembered
  pub seen-store-next : (n g : ℕ) (a : Option ℕ) (seen : List Mark) → ((m : ℕ) → m ∈ nums seen → U m) → (w : OnTrail p root seen n g a) → All U w.tree
      → SeenOnce kind.Next p (nums seen) n g → SeenOnce kind.Next q (nums seen) n g
  seen-store-next n g a seen usable w u old t' r =
      let t = w.tree in
      let same_whole : w.whole ≡ T = rep-unique p w.whole T root root refl w.rooted h.before in
      let trail : Trails (Unlinked p) seen t a T g = rw same_whole at w.trails in
      let now : new h t ≡ t' = rep-unique q (new h t) t' n n refl (unfolds-after h n t u w.unfolds) r in
      let all : (x : Linked) → nums (seen ++ way x g a) ≡ nums seen ++ nums (way x g none) = λ x. nums-append seen (way x g a) ∙ ap (nums seen ++◌) (way-nums x g a none) in
      let whole = whole-after h in
      subst Distinct (all (new h t) ∙ ap (λ x. nums seen ++ nums (way x g none)) now)
      (way-distinct d s (word p d key_word) h.below t T g a seen (Unlinked p) (λ x. x h.linked) (rep-keyed p d t n w.unfolds) (rep-keyed p d T root h.before) trail
      (subst Distinct (sym (all t)) (old t w.unfolds)) (way-once p T root g none h.before) (subst (λ x. Distinct (nums (way x g none))) (sym whole) (way-once q T' root g none h.after))
      (λ m i x j. gone m (member U seen t g a usable u m i) x (linked m (way-nodes T' g none m (subst (λ y. m ∈ nums (way y g none)) whole j)))))

-- a store of the root link changes no node's tree
module _ {p q : List ℕ} {U : ℕ → Type 0} {root root' : ℕ} {T T' : Linked} (h : Anew p q U root root' T T') where
  pub seen-anew : (κ : Kind) (n k : ℕ) (seen : List ℕ) (t : Linked) → Rep p n t → All U t → SeenOnce κ p seen n k → SeenOnce κ q seen n k
  seen-anew κ n k seen t r u old t' i = subst (λ x. Distinct (seen ++ visits κ k x)) (rep-unique q t t' n n refl (unfolds-same h t n u r) i) (old t r)
