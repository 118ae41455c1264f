-- Turn after turn on one state, a search for the next ticket comes to the next ticket. A: of each key the one answer that the plain list has.
use Rattle.std.specs.Prelude.{ℕ, ◌≡◌, ◌≢◌, Bool, true, false, List, ltb, length}
use Rattle.std.proofs.Math.Path.{refl}
use Rattle.std.proofs.Common.{sym, ◌∙◌, subst}
use Rattle.std.proofs.Math.Option.{Option}
use Rattle.std.proofs.Math.Decide.{ℕ_discrete}
use Rattle.datatypes.specs.declared.Kind.TheVariants as kind
use Rattle.datatypes.specs.declared.Reader.{Reader}
use Rattle.spec.specs.Numbers.{slots}
use Rattle.spec.specs.Pool.{word, key_word}
use Rattle.spec.specs.Register.{State, begun_reader, moved_reader, counting, with_reader}
use Rattle.spec.specs.Calls.{Answer, absent, next, empty_answer, loaded, child_for, after_comparing}
use Rattle.spec.specs.PlainList.{Ticket as Listed, record_for}
use Rattle.promise.specs.Demands.{turn_of, Going, NextTicket, is_next, no_next}
use Rattle.tree.specs.Linked.{Linked, nil, cell, find}
use Rattle.tree.specs.Tickets.{True}
use Rattle.tree.specs.Steady.{Sure}
use Rattle.heap.specs.Rep.{Rep}
use Rattle.readers.specs.Descends.{step-root, step-next, posed, there, going-none, going-some}
use Rattle.readers.specs.NextSearches.{Remembered, nothing, ticket, remembered_by, key_in, RememberedHeld, comparing-notes, comparing-fields}
use Rattle.readers.specs.NextSearches.{Closes, root-closes, turn-closes, turn-remembers, Answered, turn-answers}

-- what is remembered, as an answer
abbrev told : Remembered → Answer
told nothing = absent
told (ticket k v) = next k v

empty-told : (y : Reader) → y.kind ≡ kind.Next → empty_answer y.kind y ≡ told (remembered_by y)
empty-told y e = rw e (go y.remembers refl)
  where
    go : (b : Bool) → y.remembers ≡ b → empty_answer kind.Next y ≡ told (remembered_by y)
    go true i = rw i
    go false i = rw i

module _ (st : State) (per_slot : length st.register.readers ≡ slots) (g : ℕ) (A : ℕ → Option ℕ → Type 0) where
  -- the turns of a reader with the record x end with a right answer
  record Comes (x : Reader) : Type 0 where
    answer : Remembered
    right : Answered A g answer
    going : Going st x (told answer)

  load-comes : (x y : Reader) (c : ℕ) → turn_of st x ≡ loaded (posed st per_slot x) 0 y c → y.kind ≡ kind.Next → (c ≡ 0 → Answered A g (remembered_by y))
      → (c ≢ 0 → Comes (moved_reader y c)) → Comes x
  load-comes x y c e i f on = elim (ℕ_discrete c 0) [
    | yes z ↦ record { answer = remembered_by y; right = f z; going = subst (λ a. Going st x a) (empty-told y i) (going-none st per_slot x y c e z) }
    | no d ↦ (let h = on d in record { answer = h.answer; right = h.right; going = going-some st per_slot x y c (told h.answer) e d h.going })
  ]

  -- of a search at a node that unfolds to t: (a) and (b)
  record At (x : Reader) (t : Linked) : Type 0 where
    unfolds : Rep st.pool x.node t
    kind : x.kind ≡ kind.Next
    key : x.key ≡ g
    closes : Closes st.pool A x.node g (key_in (remembered_by x))
    remembers : RememberedHeld A g (remembered_by x)

  -- it has compared its node and loads the child, which unfolds to u
  on : (x : Reader) (t u : Linked) → x.node ≢ 0 → At x t → Rep st.pool (child_for st.pool x) u → At (moved_reader (after_comparing st.pool (counting x)) (child_for st.pool x)) u
  on x t u d a h = record {
    unfolds = h;
    kind = (comparing-fields st.pool (counting x)).0 ∙ a.kind;
    key = (comparing-fields st.pool (counting x)).1 ∙ a.key;
    closes = rw (comparing-notes st.pool (counting x), a.key) (turn-closes st.pool A x.node g (remembered_by x) d a.closes);
    remembers = rw (comparing-notes st.pool (counting x), a.key) (turn-remembers st.pool A x.node g (remembered_by x) d a.closes a.remembers);
  }

  node-comes : (x : Reader) (t u : Linked) → x.node ≢ 0 → At x t → Rep st.pool (child_for st.pool x) u → ((y : Reader) → y.node ≢ 0 → At y u → Comes y) → Comes x
  node-comes x t u d a h further =
      let p = st.pool in
      let c = child_for p x in
      let y = after_comparing p (counting x) in
      let b = on x t u d a h in
      load-comes x y c (step-next (posed st per_slot x) 0 x (there st per_slot x) a.kind d) b.kind
      (λ z. turn-answers p A c g (remembered_by y) z b.closes b.remembers) (λ z. further (moved_reader y c) z b)

  comes : (t : Linked) (x : Reader) → x.node ≢ 0 → At x t → Comes x
  comes nil x d a = absurd (d a.unfolds)
  comes (cell N l r) x d a = go (ltb x.key (word st.pool x.node key_word)) refl (comes l) (comes r)
    where
      go : (b : Bool) → ltb x.key (word st.pool x.node key_word) ≡ b → ((y : Reader) → y.node ≢ 0 → At y l → Comes y)
          → ((y : Reader) → y.node ≢ 0 → At y r → Comes y) → Comes x
      go true e left right = node-comes x (cell N l r) l d a (rw (e, a.unfolds.0.is) a.unfolds.1) left
      go false e left right = node-comes x (cell N l r) r d a (rw (e, a.unfolds.0.is) a.unfolds.2) right

  -- from the root
  comes-root : (T : Linked) → Rep st.pool st.register.root T → Sure T → True T → ((q : ℕ) → A q (find T q)) → Comes (begun_reader kind.Next g)
  unfolding with_reader
  comes-root T h sure listed now =
      let x = begun_reader kind.Next g in
      let c = st.register.root in
      let f = root-closes st.pool A c g T h sure listed now in
      load-comes x x c (step-root (posed st per_slot x) 0 x (there st per_slot x) refl) refl (λ z. turn-answers st.pool A c g nothing z f tt)
      (λ d. comes T (moved_reader x c) d (record { unfolds = h; kind = refl; key = refl; closes = f; remembers = tt }))

-- the plain list's next ticket
answered-next : (ts : List Listed) (g : ℕ) (m : Remembered) → Answered (λ q o. record_for q ts ≡ o) g m → NextTicket ts g (told m)
answered-next ts g nothing h = no_next h
answered-next ts g (ticket k v) h = is_next k v h.0 h.1 h.2

pub going_next : (st : State) → length st.register.readers ≡ slots → (T : Linked) → Rep st.pool st.register.root T → Sure T → True T → (ts : List Listed)
    → ((q : ℕ) → find T q ≡ record_for q ts) → (g : ℕ) → (a : Answer) × NextTicket ts g a × Going st (begun_reader kind.Next g) a
going_next st per_slot T h sure listed ts finds g =
    let c = comes-root st per_slot g (λ q o. record_for q ts ≡ o) T h sure listed (λ q. sym (finds q)) in
    (told c.answer, answered-next ts g c.answer c.right, c.going)
