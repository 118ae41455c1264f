-- A step of a phase, from its parts (heap: Parts, Shift), as readers meet it (readers: Turns).
use Rattle.std.specs.Prelude.{ℕ, ◌<◌, ◌≤◌, ◌≡◌, refl, ◌≢◌, Bool, List, [], ◌∷◌, length}
use Rattle.std.proofs.Common.{sym, ap, ◌∙◌, inl, inr, arith}
use Rattle.datatypes.specs.declared.Link.{Link}
use Rattle.datatypes.specs.declared.Register.{Register}
use Rattle.datatypes.specs.Side.{owner}
use Rattle.spec.specs.Numbers.{slots}
use Rattle.spec.specs.Pool.{word, standing_word, standing_linked, standing_apart}
use Rattle.spec.specs.Register.{State, state, set_link}
use Rattle.spec.specs.Turn.{Made}
use Rattle.laws.specs.Reading.{ReadingOnly}
use Rattle.base.specs.Lists.{◌∈◌}
use Rattle.tree.specs.Linked.{Linked, nodes}
use Rattle.tree.specs.Occurs.{occ}
use Rattle.heap.specs.Rep.{Rep}
use Rattle.heap.specs.Fill.{retire-quiet, retire_two-quiet}
use Rattle.heap.specs.Parts.{Based, unchanged, filled, SameQueue, retire_all, Parts}
use Rattle.heap.specs.Shift.{Shift}
use Rattle.promise.specs.Demands.{TreeLink}
use Rattle.readers.specs.Owned.{Owned}
use Rattle.readers.specs.Reach.{HasStanding}
use Rattle.readers.specs.Stored.{Stored, own-fields, link-stored, taking-stored}
use Rattle.readers.specs.ColourWork.{recoloured-pool, stored-recoloured}
use Rattle.readers.specs.Turns.{Turn, turn-none, turn_one, turn_two}
use Rattle.readers.specs.Safe.{Safe}
use Rattle.theorem.specs.Ways.{shift-owner, shift-gone, shift_two, shift-few}

-- for a step that takes a node the queue has one
abbrev pub QueueHas : State → List ℕ → Type 0
QueueHas st [] = Unit {0}
QueueHas st (n ∷ l) = (q : List ℕ) × Owned st (st.register.first ∷ q)

base-stored : (st base : State) (came : List ℕ) (k : Link) (v : ℕ) → Safe st → Based st came base → QueueHas st came → TreeLink st.pool k → Stored st (set_link base k v) came k v
base-stored st base came k v safe unchanged q o = link-stored st safe.queue k v safe.whole o safe.owned
base-stored st base came k v safe (filled j w s x y c) q o = taking-stored st st.register.first q.0 j w s x y c k v safe.whole o q.1

-- other awaited slots, which are reading, and other fields than the queue's
stored-fields : (st a : State) (r : Register) (came : List ℕ) (k : Link) (v : ℕ) → SameQueue a.register r → ReadingOnly slots r.readers r.awaited → Stored st a came k v
    → Stored st (state a.pool r) came k v
stored-fields st a r came k v e z h = record {
  size = h.size;
  standing = h.standing;
  holders = h.holders;
  keys = h.keys;
  records = h.records;
  links = h.links;
  new = h.new;
  root = e.root ∙ h.root;
  readers = e.readers ∙ h.readers;
  free = let x = h.free in let y = e.free in omega arith;
  queue = h.queue;
  owned = own-fields a.pool a.register r h.queue e.first e.last e.free e.readers z h.owned;
}

-- what retiring leaves of the register
all-awaited : (mid : State) (gone : List ℕ) → (retire_all mid gone).register.awaited ≡ mid.register.awaited
all-awaited mid [] = refl
all-awaited mid (a ∷ []) = (retire-quiet mid a).fields.awaited
all-awaited mid (a ∷ c ∷ l) = (retire_two-quiet mid a c).fields.awaited

pub parts-turn : (st : State) (T T' : Linked) (m : Made) (came gone : List ℕ) (b w : Bool) → Safe st → Rep st.pool st.register.root T
    → ((n : ℕ) → 0 < occ n (nodes T) → HasStanding st.pool n standing_linked) → Shift T T' m.link m.node came gone b w → Parts st m came gone → QueueHas st came
    → ReadingOnly slots st.register.readers m.after.register.awaited → ((n : ℕ) → word st.pool n standing_word ≢ standing_apart) → Turn st m.after came gone m.link m.node
parts-turn st T T' m came gone b w safe rep lk sh ps q aw none = rw ps.retired (go gone (shift-few sh) sh ps.retired)
  where
    k : Link
    k = m.link

    v : ℕ
    v = m.node

    own : TreeLink st.pool m.link
    own = shift-owner st.pool st.register.root sh lk

    base : Stored st (set_link ps.base m.link m.node) came m.link m.node
    base = base-stored st ps.base came m.link m.node safe ps.based q own

    coloured-store : Stored st (state ps.mid.pool (set_link ps.base m.link m.node).register) came m.link m.node
    coloured-store = stored-recoloured st (set_link ps.base m.link m.node) _ came m.link m.node
        (recoloured-pool (set_link ps.base m.link m.node) ps.mid.pool ps.only) base

    reading : ReadingOnly slots ps.mid.register.readers ps.mid.register.awaited
    reading = rw (ps.queue.readers ∙ base.readers, sym (all-awaited ps.mid gone) ∙ ap (λ s. s.register.awaited) (sym ps.retired)) aw

    mid : Stored st ps.mid came m.link m.node
    mid = stored-fields st (state ps.mid.pool (set_link ps.base m.link m.node).register) ps.mid.register came m.link m.node ps.queue reading coloured-store

    goes : (g : List ℕ) → Shift T T' m.link m.node came g b w → (i : ℕ) → i ∈ g → HasStanding st.pool i standing_linked × (owner m.link ≢ i)
    goes g s i j = let a = shift-gone st.pool st.register.root s rep i j in (lk i a.0, a.1)

    go : (g : List ℕ) → length g ≤ 2 → Shift T T' m.link m.node came g b w → m.after ≡ retire_all ps.mid gone → Turn st (retire_all ps.mid g) came g m.link m.node
    go [] u s e = turn-none st ps.mid safe.queue came m.link m.node safe.whole own safe.owned none mid
    go (c ∷ []) u s e = let x = goes (c ∷ []) s c (inl refl) in turn_one st ps.mid safe.queue came m.link m.node safe.whole own safe.owned none mid c x.0 x.1
    go (a ∷ c ∷ []) u s e =
        let x = goes (a ∷ c ∷ []) s a (inl refl) in
        let y = goes (a ∷ c ∷ []) s c (inr (inl refl)) in
        turn_two st ps.mid safe.queue came m.link m.node safe.whole own safe.owned none mid a c (shift_two st.pool st.register.root s rep) x.0 y.0 x.1 y.1
    go (a ∷ c ∷ d ∷ l) u s e = absurd (omega arith)
