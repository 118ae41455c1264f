-- Colour work and the count of keys held touch no word or field that readers go by.
use Rattle.std.specs.Prelude.{ℕ, ◌≡◌, refl, List, [], ◌∷◌, length}
use Rattle.std.proofs.Common.{sym, ap, ◌∙◌, arith}
use Rattle.datatypes.specs.declared.Link.{Link}
use Rattle.spec.specs.Pool.{word, key_word, link_word, standing_word, holders_word, next_word}
use Rattle.spec.specs.Register.{State, state}
use Rattle.spec.specs.FreeQueue.{Chain}
use Rattle.laws.specs.Records.{record-kept}
use Rattle.laws.specs.Queue.{link-low}
use Rattle.heap.specs.ColourWork.{ColoursOnly}
use Rattle.readers.specs.Words.{node-length}
use Rattle.readers.specs.QueueExact.{pool-exact, field-exact}
use Rattle.readers.specs.Owned.{Owned}
use Rattle.readers.specs.Stored.{Stored}

-- Only colours differ (heap: ColourWork), and keys held.
pub record Recoloured (a b : State) : Type 0 where
  pub only : ColoursOnly a.pool b.pool
  pub root : b.register.root ≡ a.register.root
  pub first : b.register.first ≡ a.register.first
  pub last : b.register.last ≡ a.register.last
  pub free : b.register.free ≡ a.register.free
  pub readers : b.register.readers ≡ a.register.readers
  pub awaited : b.register.awaited ≡ a.register.awaited

-- another pool that differs in colours alone, under the same register
pub recoloured-pool : (st : State) (q : List ℕ) → ColoursOnly st.pool q → Recoloured st (state q st.register)
recoloured-pool st q t = record { only = t; root = refl; first = refl; last = refl; free = refl; readers = refl; awaited = refl }

-- Who has which node stays.
chain_same : (p q : List ℕ) → length q ≡ length p → ((n : ℕ) → word q n next_word ≡ word p n next_word) → (a : ℕ) (l : List ℕ) → Chain p a l → Chain q a l
chain_same p q e same a [] h = h
chain_same p q e same a (m ∷ l) h = (h.0, node-length p q m e h.1, rw (same m) (chain_same p q e same (word p m next_word) l h.2))

pub own-recoloured : (a b : State) (l : List ℕ) → Recoloured a b → Owned a l → Owned b l
own-recoloured a b l t h =
    let p = a.pool in
    let q = b.pool in
    let r = a.register in
    record {
      exact = field-exact q r b.register l t.first t.last t.free
          (pool-exact p q r l t.only.size (chain_same p q t.only.size (λ n. t.only.words n next_word (omega arith) (omega arith)) r.first l h.exact.queued.chain)
          (λ m hm. rw (t.only.words m standing_word (omega arith) (omega arith)) (λ z. z, λ z. z)) h.exact);
      good = λ n hn. rw (t.readers, t.only.words n standing_word (omega arith) (omega arith), t.only.words n holders_word (omega arith) (omega arith))
          (h.good n (node-length q p n (sym t.only.size) hn));
      awaited = rw (t.readers, t.awaited) h.awaited;
      per_slot = ap length t.readers ∙ h.per_slot;
    }

pub stored-recoloured : (st a b : State) (came : List ℕ) (l : Link) (v : ℕ) → Recoloured a b → Stored st a came l v → Stored st b came l v
stored-recoloured st a b came l v t h = record {
  size = t.only.size ∙ h.size;
  standing = λ n i. t.only.words n standing_word (omega arith) (omega arith) ∙ h.standing n i;
  holders = λ n i. t.only.words n holders_word (omega arith) (omega arith) ∙ h.holders n i;
  keys = λ n i. t.only.words n key_word (omega arith) (omega arith) ∙ h.keys n i;
  records = λ n i. record-kept a.pool b.pool n (λ f u. t.only.words n f (omega arith) (omega arith)) ∙ h.records n i;
  links = λ n z i. t.only.words n (link_word z) (let u = link-low z in omega arith) (let u = link-low z in omega arith) ∙ h.links n z i;
  new = λ n i. (let e = h.new n i in (e.0, t.only.words n standing_word (omega arith) (omega arith) ∙ e.1));
  root = t.root ∙ h.root;
  readers = t.readers ∙ h.readers;
  free = let a = h.free in let b = t.free in omega arith;
  queue = h.queue;
  owned = own-recoloured a b h.queue t h.owned;
}
