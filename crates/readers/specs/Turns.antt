-- A turn of the writer as readers meet it: one link stored, perhaps a node that came, perhaps nodes that went and are retired. What
-- becomes of each node, which nodes are linked afterwards, and the words that lookups go by.
use Rattle.std.specs.Prelude.{ℕ, ◌+◌, ◌≤◌, ◌≡◌, refl, true, false, cond, List, [], ◌∷◌, ◌≢◌, ◌⊎◌, ◌↔◌, length}
use Rattle.std.proofs.Common.{sym, ap, ◌∙◌, subst, inl, inr, ⊎_elim, arith}
use Rattle.std.proofs.Math.Decide.{ℕ_discrete}
use borrow.Author.Tests.{eq-eqb, ne_eqb}
use Rattle.datatypes.specs.declared.Side.{Side}
use Rattle.datatypes.specs.declared.Side.TheVariants.{L, R}
use Rattle.datatypes.specs.declared.Link.{Link}
use Rattle.datatypes.specs.declared.Link.TheVariants.{Root, Left, Right}
use Rattle.datatypes.specs.declared.Write.{Write}
use Rattle.datatypes.specs.Side.{link_at, owner, owner_at}
use Rattle.spec.specs.Pool.{word, child, link_word, key_word, record_at, standing_word, holders_word, standing_free, standing_linked, standing_retired, standing_apart}
use Rattle.spec.specs.Register.{State, state, node_at, link_node, with_write}
use Rattle.spec.specs.Free.{retire, retire_two}
use Rattle.base.specs.Lists.{◌∈◌}
use Rattle.spec.specs.FreeQueue.{InPool, Whole}
use Rattle.laws.specs.Queue.{link-low}
use Rattle.laws.specs.Words.{word_none}
use Rattle.laws.specs.Records.{record-kept}
use Rattle.laws.specs.Reading.{reading_in}
use Rattle.promise.specs.Run.{Reads}
use Rattle.promise.specs.Demands.{TreeLink, StoresOne}
use Rattle.heap.specs.Rep.{alike_refl, up_to_colour}
use Rattle.heap.specs.Fill.{Quiet, retire-quiet, retire_two-quiet}
use Rattle.readers.specs.Words.{whole-kept, stands-node}
use Rattle.readers.specs.Owned.{Owned, own-retire}
use Rattle.readers.specs.Reach.{HasStanding, NodeChange, comes, leaves, goes}
use Rattle.readers.specs.NodeChanges.{ranked, change-same, Retires, stays, out, off, retire-other, retire-retires, retire-gone, retire-free}
use Rattle.readers.specs.NodeChanges.{retire_two-free, retire_two-retires, retire_two-owned, retire_two-gone, retire_two-other}
use Rattle.readers.specs.Stored.{hits_link, root_after, Stored, own-fields}

-- whether a number is in a list
pub in-dec : (n : ℕ) (l : List ℕ) → Dec (n ∈ l)
in-dec n [] = no (λ i. i)
in-dec n (m ∷ l) = go (ℕ_discrete n m) (in-dec n l)
  where
    go : Dec (n ≡ m) → Dec (n ∈ l) → Dec (n ∈ (m ∷ l))
    go (yes e) d = yes (inl e)
    go (no c) (yes i) = yes (inr i)
    go (no c) (no j) = no (⊎_elim c j)

pub record Turn (st after : State) (came gone : List ℕ) (l : Link) (v : ℕ) : Type 0 where
  pub size : length after.pool ≡ length st.pool
  pub change : (n : ℕ) → NodeChange st.pool after.pool (Reads st) n
  -- those linked afterwards: those that were or came, and did not go
  pub linked : (n : ℕ) → HasStanding after.pool n standing_linked ↔ ((HasStanding st.pool n standing_linked ⊎ (n ∈ came)) × (¬ (n ∈ gone)))
  -- who came was free or made apart
  pub new : (n : ℕ) → n ∈ came → HasStanding st.pool n standing_free ⊎ HasStanding st.pool n standing_apart
  pub keys : (n : ℕ) → ¬ (n ∈ came) → word after.pool n key_word ≡ word st.pool n key_word
  pub records : (n : ℕ) → ¬ (n ∈ came) → record_at after.pool n ≡ record_at st.pool n
  pub links : (n : ℕ) (z : Side) → ¬ (n ∈ came) → child after.pool z n ≡ cond (hits_link l n z) v (child st.pool z n)
  pub root : after.register.root ≡ root_after l v st.register.root
  pub readers : after.register.readers ≡ st.register.readers
  pub free : st.register.free ≤ after.register.free + length came
  pub queue : List ℕ
  pub owned : Owned after queue

-- another link is not the one stored, so no link of a node that is not its owner
other-link : (l : Link) (n : ℕ) (z : Side) → link_at z n ≢ l → hits_link l n z ≡ false
other-link Root n z d = refl
other-link (Left m) n L d = ne_eqb m n (λ e. d (ap Left (sym e)))
other-link (Left m) n R d = refl
other-link (Right m) n L d = refl
other-link (Right m) n R d = ne_eqb m n (λ e. d (ap Right (sym e)))

other-root : (l : Link) (v r : ℕ) → Root ≢ l → root_after l v r ≡ r
other-root Root v r d = absurd (d refl)
other-root (Left n) v r d = refl
other-root (Right n) v r d = refl

not-hit : (l : Link) (n : ℕ) (z : Side) → owner l ≢ n → hits_link l n z ≡ false
not-hit l n z d = other-link l n z (λ e. d (ap owner (sym e) ∙ owner_at z n))

pub owner-linked : (p : List ℕ) (l : Link) (n : ℕ) → n ≢ 0 → TreeLink p l → ¬ (HasStanding p n standing_linked) → owner l ≢ n
owner-linked p Root n z o d e = z (sym e)
owner-linked p (Left m) n z o d e = d (subst (λ i. HasStanding p i standing_linked) e o)
owner-linked p (Right m) n z o d e = d (subst (λ i. HasStanding p i standing_linked) e o)

-- who came was free: a linked node did not come
linked-stays : {st mid : State} {came : List ℕ} {l : Link} {v : ℕ} → Stored st mid came l v → (n : ℕ) → HasStanding st.pool n standing_linked → ¬ (n ∈ came)
linked-stays s n e i = let z = (s.new n i).0 in absurd (omega arith)

-- What was stored, then the nodes of `gone` retired.
module _ (st mid after : State) (q came gone : List ℕ) (l : Link) (v : ℕ) (w : Whole st.pool) (o : TreeLink st.pool l) (h : Owned st q) (none : (n : ℕ) → word st.pool n standing_word ≢ standing_apart) (s : Stored st mid came l v)
    (quiet : Quiet mid after) (each : (n : ℕ) → Retires mid.pool after.pool (Reads mid) n)
    (was-linked : (n : ℕ) → n ∈ gone → HasStanding st.pool n standing_linked × (owner l ≢ n) × (word after.pool n standing_word ≢ standing_linked))
    (kept : (n : ℕ) → ¬ (n ∈ gone) → word after.pool n standing_word ≡ word mid.pool n standing_word)
    (grows : mid.register.free ≤ after.register.free) (l' : List ℕ) (owned : Owned after l') where
  same-link : (n : ℕ) (z : Side) → child after.pool z n ≡ child mid.pool z n
  same-link n z = quiet.words.words n (link_word z) (let u = link-low z in omega arith)

  links-stay : (n : ℕ) (z : Side) → ¬ (n ∈ came) → owner l ≢ n → child after.pool z n ≡ child st.pool z n
  links-stay n z i d = same-link n z ∙ s.links n z i ∙ rw (not-hit l n z d)

  change-of : (n : ℕ) → NodeChange st.pool after.pool (Reads st) n
  change-of n = go (each n) (in-dec n gone) (in-dec n came)
    where
      plain : ¬ (n ∈ came) → word after.pool n standing_word ≡ word mid.pool n standing_word → word after.pool n holders_word ≡ word mid.pool n holders_word
          → NodeChange st.pool after.pool (Reads st) n
      plain i a b = change-same st.pool after.pool (Reads st) n (let r = ranked st q w h n in let d = none n in omega arith) (a ∙ s.standing n i)
          (λ e. (
            b ∙ s.holders n i,
            λ z. links-stay n z i (owner-linked st.pool l n
                (λ x. let y = subst (λ m. HasStanding st.pool m standing_retired) x e in let k = word_none st.pool standing_word in omega arith) o (λ x. let y = x in omega arith)),
          ))

      go : Retires mid.pool after.pool (Reads mid) n → Dec (n ∈ gone) → Dec (n ∈ came) → NodeChange st.pool after.pool (Reads st) n
      go (stays a b) g (yes i) = comes (let f = (s.new n i).0 in omega arith) (a ∙ (s.new n i).1)
      go (stays a b) g (no i) = plain i a b
      go (out a b bits) (no j) c = absurd (let z = kept n j in omega arith)
      go (out a b bits) (yes j) c =
          let e = was-linked n j in
          leaves e.0 b (λ t u r. bits t u (subst (λ xs. reading_in xs t ≡ true) (sym s.readers) r)) (λ z. links-stay n z (linked-stays s n e.0) e.1)
      go (off a b no_one) (no j) c = absurd (let z = kept n j in omega arith)
      go (off a b no_one) (yes j) c =
          let e = (was-linked n j).0 in
          goes (omega arith) b (λ _ t u r. no_one t u (subst (λ xs. reading_in xs t ≡ true) (sym s.readers) r))

  linked_of : (n : ℕ) → HasStanding after.pool n standing_linked ↔ ((HasStanding st.pool n standing_linked ⊎ (n ∈ came)) × (¬ (n ∈ gone)))
  linked_of n = (there (in-dec n gone) (in-dec n came), λ x. back x.1 x.0)
    where
      there : Dec (n ∈ gone) → Dec (n ∈ came) → HasStanding after.pool n standing_linked → (HasStanding st.pool n standing_linked ⊎ (n ∈ came)) × (¬ (n ∈ gone))
      there (yes j) c e = absurd ((was-linked n j).2 e)
      there (no j) (yes i) e = (inr i, j)
      there (no j) (no i) e = (inl (sym (s.standing n i) ∙ sym (kept n j) ∙ e), j)

      back : ¬ (n ∈ gone) → HasStanding st.pool n standing_linked ⊎ (n ∈ came) → HasStanding after.pool n standing_linked
      back j (inl e) = kept n j ∙ s.standing n (linked-stays s n e) ∙ e
      back j (inr i) = kept n j ∙ (s.new n i).1

  turn-of : Turn st after came gone l v
  turn-of = record {
    size = quiet.words.size ∙ s.size;
    change = change-of;
    linked = linked_of;
    new = λ n i. inl (s.new n i).0;
    keys = λ n i. quiet.words.words n key_word (omega arith) ∙ s.keys n i;
    records = λ n i. record-kept mid.pool after.pool n (λ f u. quiet.words.words n f (omega arith)) ∙ s.records n i;
    links = λ n z i. same-link n z ∙ s.links n z i;
    root = quiet.fields.root ∙ s.root;
    readers = quiet.fields.readers ∙ s.readers;
    free = let a = s.free in omega arith;
    queue = l';
    owned = owned;
  }

module _ (st mid : State) (q came : List ℕ) (l : Link) (v : ℕ) (w : Whole st.pool) (o : TreeLink st.pool l) (h : Owned st q) (none : (n : ℕ) → word st.pool n standing_word ≢ standing_apart)
    (s : Stored st mid came l v) where
  linked-mid : (n : ℕ) → HasStanding st.pool n standing_linked → HasStanding mid.pool n standing_linked
  linked-mid n e = s.standing n (linked-stays s n e) ∙ e

  node-mid : (n : ℕ) → HasStanding st.pool n standing_linked → InPool mid.pool n
  node-mid n e = let i = linked-mid n e in stands-node mid.pool n standing_word (whole-kept st.pool mid.pool s.size w) (omega arith) (omega arith)

  -- none retired
  pub turn-none : Turn st mid came [] l v
  turn-none =
      turn-of st mid mid q came [] l v w o h none s
      (record { words = alike_refl up_to_colour mid.pool; fields = record { root = refl; held = refl; readers = refl; awaited = refl; write = refl } })
      (λ n. stays refl refl) (λ n i. absurd i) (λ n i. refl) (omega arith) s.queue s.owned

  -- one
  pub turn_one : (c : ℕ) → HasStanding st.pool c standing_linked → owner l ≢ c → Turn st (retire mid c) came (c ∷ []) l v
  turn_one c e d =
      turn-of st mid (retire mid c) q came (c ∷ []) l v w o h none s (retire-quiet mid c)
      (λ n. retire-retires mid c n (node-mid c e) (linked-mid c e))
      (λ n. only n)
      (λ n i. retire-other mid c n standing_word (λ x. i (inl (sym x))) (omega arith))
      (retire-free mid c)
      _
      (own-retire mid s.queue c s.owned (node-mid c e) (let x = linked-mid c e in omega arith))
    where
      only : (n : ℕ) → n ∈ (c ∷ []) → HasStanding st.pool n standing_linked × (owner l ≢ n) × (word (retire mid c).pool n standing_word ≢ standing_linked)
      only n (inl x) = rw x (e, d, retire-gone mid c (node-mid c e))
      only n (inr x) = absurd x

  -- two
  pub turn_two : (a c : ℕ) → a ≢ c → HasStanding st.pool a standing_linked → HasStanding st.pool c standing_linked → owner l ≢ a → owner l ≢ c → Turn st (retire_two mid a c) came (a ∷ c ∷ []) l v
  turn_two a c apart ea ec da dc =
      let all = retire_two-owned mid a c apart (node-mid a ea) (node-mid c ec) (linked-mid a ea) (linked-mid c ec) s.queue s.owned in
      turn-of st mid (retire_two mid a c) q came (a ∷ c ∷ []) l v w o h none s (retire_two-quiet mid a c)
      (retire_two-retires mid a c apart (node-mid a ea) (node-mid c ec) (linked-mid a ea) (linked-mid c ec))
      (λ n. both n)
      (λ n i. retire_two-other mid a c apart (node-mid a ea) (node-mid c ec) (linked-mid a ea) (linked-mid c ec) n (λ x. i (inl (sym x))) (λ x. i (inr (inl (sym x)))))
      (retire_two-free mid a c)
      all.0
      all.1
    where
      gone : (word (retire_two mid a c).pool a standing_word ≢ standing_linked) × (word (retire_two mid a c).pool c standing_word ≢ standing_linked)
      gone = retire_two-gone mid a c apart (node-mid a ea) (node-mid c ec) (linked-mid a ea) (linked-mid c ec)

      both : (n : ℕ) → n ∈ (a ∷ c ∷ []) → HasStanding st.pool n standing_linked × (owner l ≢ n) × (word (retire_two mid a c).pool n standing_word ≢ standing_linked)
      both n (inl x) = rw x (ea, da, gone.0)
      both n (inr (inl x)) = rw x (ec, dc, gone.1)
      both n (inr (inr x)) = absurd x

-- what is left of the write in hand, and the like
pub turn-write : (st a : State) (came gone : List ℕ) (l : Link) (v : ℕ) (x : Write) → Turn st a came gone l v → Turn st (state a.pool (with_write a.register x)) came gone l v
unfolding with_write
turn-write st a came gone l v x t = record {
  size = t.size;
  change = t.change;
  linked = t.linked;
  new = t.new;
  keys = t.keys;
  records = t.records;
  links = t.links;
  root = t.root;
  readers = t.readers;
  free = t.free;
  queue = t.queue;
  owned = own-fields a.pool a.register (with_write a.register x) t.queue refl refl refl refl t.owned.awaited t.owned;
}

-- Such a turn makes one store (promise: StoresOne), if it changes the link, and the node that comes, if any, is its new node.
module _ (st after : State) (came gone : List ℕ) (l : Link) (v : ℕ) (t : Turn st after came gone l v) where
  not-came : (n : ℕ) → HasStanding st.pool n standing_linked → ¬ (n ∈ came)
  not-came n e i = ⊎_elim (λ z. absurd (omega arith)) (λ z. absurd (omega arith)) (t.new n i)

  link-holds : (m : Link) → m ≡ l → TreeLink st.pool m → link_node after m ≡ v
  unfolding node_at
  link-holds Root e o = t.root ∙ rw (← e)
  link-holds (Left n) e o = t.links n L (not-came n o) ∙ rw (← e, eq-eqb n n refl)
  link-holds (Right n) e o = t.links n R (not-came n o) ∙ rw (← e, eq-eqb n n refl)

  link_stays : (m : Link) → m ≢ l → TreeLink st.pool m → link_node after m ≡ link_node st m
  unfolding node_at
  link_stays Root d o = t.root ∙ other-root l v st.register.root d
  link_stays (Left n) d o = t.links n L (not-came n o) ∙ rw (other-link l n L d)
  link_stays (Right n) d o = t.links n R (not-came n o) ∙ rw (other-link l n R d)

  pub turn-stores : TreeLink st.pool l → link_node st l ≢ v → ((n : ℕ) → n ∈ came → (n ≡ v) ⊎ HasStanding st.pool n standing_apart)
      → ((n : ℕ) → HasStanding st.pool n standing_apart → (n ∈ came) × (¬ (n ∈ gone))) → StoresOne st after l v
  turn-stores o d f all = record {
    own = o;
    moved = d;
    holds = link-holds l refl o;
    others = link_stays;
    tickets = λ n e. (t.keys n (not-came n e), t.records n (not-came n e));
    comes = λ n d e. ⊎_elim (λ i. absurd (d i)) (f n) ((t.linked n).0 e).0;
    apart = λ n e. (let a = all n e in (t.linked n).1 (inr a.0, a.1));
  }
