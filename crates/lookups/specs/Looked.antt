-- A reader's turn by its parts: where it looks, what it answers and leaves in its record, and what the end of its reading leaves.
use Rattle.std.specs.Prelude.{◌≡◌, List, Bool, true, false, cond, eqb, ℕ}
use Rattle.std.proofs.Common.{sym, ap, ◌∙◌, arith}
use Rattle.datatypes.specs.declared.Kind.{Kind}
use Rattle.datatypes.specs.declared.Kind.TheVariants as kind
use Rattle.datatypes.specs.declared.Head.{Head}
use Rattle.datatypes.specs.declared.Reader.{Reader}
use Rattle.datatypes.specs.declared.Register.{Register}
use Rattle.spec.specs.Pool.{word, record_at, key_word}
use Rattle.spec.specs.Register.{moved_reader, counting, State, state, no_reader, reader_of, with_reader}
use Rattle.spec.specs.Free.{end_reading}
use Rattle.spec.specs.Calls.{Answer, go, found, reader_says, Outcome, outcome, empty_answer, child_for, after_comparing, reader_step, compared_by}
use Rattle.heads.specs.Head.{at, head_of, with_head}
use Rattle.lookups.specs.declared.Looked.{Looked}

-- what a turn answers; the reader's record then, all 0 where its reading ended; and how many nodes the reading has compared
pub record Look : Type 0 where
  pub answer : Answer
  pub reader : Reader
  pub compared : ℕ

abbrev pub look : Answer → Reader → ℕ → Look
look a x n = record { answer = a; reader = x; compared = n }

abbrev pub look_of : Looked → Look
look_of r = look (reader_says r.answer) r.reader r.compared

abbrev pub load : Reader → ℕ → Look
load x n = cond (eqb n 0) (look (empty_answer x.kind x) no_reader x.compared) (look go (moved_reader x n) x.compared)

-- the turn of the reader x at a node, by its kind of search; and at a node or before any
abbrev pub look_at : Kind → List ℕ → Reader → Look
look_at kind.Lookup p x =
    cond (eqb x.key (word p x.node key_word))
    (look (found (record_at p x.node)) no_reader x.compared)
    (load x (child_for p x))
look_at kind.Next p x = load (after_comparing p x) (child_for p x)

abbrev pub look_from : List ℕ → ℕ → Reader → Look
look_from p root x = cond (eqb x.node 0) (load x root) (look_at x.kind p (counting x))

-- what slot s leaves after a turn
abbrev pub look_state : State → ℕ → Look → State
look_state st s l = cond l.reader.reading (state st.pool (with_reader st.register s l.reader)) (end_reading st s)

abbrev pub Leaves : ℕ → Bool → List ℕ → Head → List ℕ → Head → Type 0
Leaves s reads p h p' h' =
    (reads ≡ false → (q : Register) → at p' h' (with_reader q s no_reader) ≡ end_reading (at p h q) s)
    × (reads ≡ true → (p' ≡ p) × (h' ≡ h))

abbrev out : State → ℕ → Look → Outcome
out st s l = outcome l.answer (look_state st s l)

-- the turn, by where it looks
pub looks : (st : State) (s : ℕ) → reader_step st s ≡ out st s (look_from st.pool st.register.root (reader_of st.register s))
unfolding reader_step
looks st s = grind arith

-- A reader's record after a turn reads, or is all 0.
abbrev Kept : Look → Type 0
Kept l = l.reader.reading ≡ false → l.reader ≡ no_reader

look-kept : (p : List ℕ) (root : ℕ) (x : Reader) → Kept (look_from p root x)
look-kept p root x = grind arith

-- The count is the record's, one more where a node is compared; a search that remembers a ticket keeps it.
look-count : (p : List ℕ) (root : ℕ) (x : Reader) → (look_from p root x).compared ≡ compared_by x
look-count p root x = grind arith

-- the register put together
left-state : (p p' : List ℕ) (reg : Register) (h : Head) (s : ℕ) (l : Look) → Kept l → Leaves s l.reader.reading p (head_of reg) p' h
    → state p' (with_reader (with_head reg h) s l.reader) ≡ look_state (state p reg) s l
unfolding with_reader
left-state p p' reg h s l k f = grind (arith, f.0, f.1, k)

-- A turn that passed its tests, from what its parts leave; i is the slot's place, l what the turn shows.
module _ (p p' : List ℕ) (reg : Register) (h : Head) (s i : ℕ) (l : Look) where
  abbrev Looks : ℕ → Type 0
  Looks j = l ≡ look_from p reg.root (reader_of reg j)

  pub turn-looked : i ≡ s → Looks i → Leaves s l.reader.reading p (head_of reg) p' h
      → (l.answer ≡ (reader_step (state p reg) s).answer) × (state p' (with_reader (with_head reg h) i l.reader) ≡ (reader_step (state p reg) s).after)
      × (l.compared ≡ compared_by (reader_of reg s))
  turn-looked j k f =
      let e : Looks s = rw j at k in
      let same : out (state p reg) s l ≡ reader_step (state p reg) s = ap (λ (y : Look). out (state p reg) s y) e ∙ sym (looks (state p reg) s) in
      let kept : Kept l = rw e (look-kept p reg.root (reader_of reg s)) in (
        ap (λ (o : Outcome). o.answer) same,
        rw j (left-state p p' reg h s l kept f ∙ ap (λ (o : Outcome). o.after) same),
        ap (λ (y : Look). y.compared) e ∙ look-count p reg.root (reader_of reg s),
      )
