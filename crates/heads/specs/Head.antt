-- The register's head, and what a function over a head does: it is told of every register with this head. The rest of the register
-- (readers, the write in hand) is any register's.
use Rattle.std.specs.Prelude.{◌≡◌, refl, List, true, false, not, eqb, ℕ, Option, Some, None}
use Rattle.std.proofs.Common.{eqb-true}
use Rattle.std.proofs.lemmas.Bool.{false≢true, not-false}
use Rattle.datatypes.specs.declared.Head.{Head}
use Rattle.datatypes.specs.declared.Reader.{Reader}
use Rattle.datatypes.specs.declared.Register.{Register}
use Rattle.datatypes.specs.declared.Write.{Write}
use Rattle.datatypes.specs.declared.Stored.{Stored}
use Rattle.datatypes.specs.declared.Link.{Link}
use Rattle.datatypes.specs.declared.Step.{Step}
use Rattle.spec.specs.Register.{State, state, count_down, reading_slots}
use Rattle.spec.specs.Turn.{Made, made, step_finds, step_made}

abbrev pub head_of : Register → Head
head_of r = record { root = r.root; first = r.first; last = r.last; free = r.free; held = r.held; awaited = r.awaited }

-- a register of a head and the rest; one with another head
abbrev pub register_of : Head → List Reader → Write → Register
register_of h readers write =
    record { root = h.root; first = h.first; last = h.last; free = h.free; held = h.held; readers = readers; awaited = h.awaited; write = write }

abbrev pub with_head : Register → Head → Register
with_head q h = register_of h q.readers q.write

-- a pool with a register of the head h and of the rest of q
abbrev pub at : List ℕ → Head → Register → State
at p h q = state p (with_head q h)

-- one key less is held, all reading slots are awaited
abbrev pub awaiting : Head → ℕ → Head
awaiting h m = record { root = h.root; first = h.first; last = h.last; free = h.free; held = count_down h.held; awaited = m }

-- the reading slots are those of the rest
pub same-reading : (q : Register) (h : Head) → reading_slots (with_head q h) ≡ reading_slots q
unfolding reading_slots
same-reading q h = refl

-- From pool p and head h to p' and h' as f does, whatever the rest is; and where just the slots m read.
abbrev pub Follows : (State → State) → List ℕ → Head → List ℕ → Head → Type 0
Follows f p h p' h' = (q : Register) → at p' h' q ≡ f (at p h q)

abbrev pub FollowsReading : ℕ → (State → State) → List ℕ → Head → List ℕ → Head → Type 0
FollowsReading m f p h p' h' = (q : Register) → reading_slots q ≡ m → at p' h' q ≡ f (at p h q)

-- What a step stored leaves, with the pool and the rest of the register.
abbrev pub left : List ℕ → Stored → Register → Made
left p t q = made (at p t.head q) t.link t.node

-- The answer, with the pool p and the rest q that it leaves, is that of the step x tried on st: what it stored if it finds every node that it
-- names, and none with the pool as it was otherwise.
abbrev pub Tells : State → Link → Step → List ℕ → Option Stored → Register → Type 0
Tells st l x p None q = (step_finds st l x ≡ false) × (p ≡ st.pool)
Tells st l x p (Some t) q = (step_finds st l x ≡ true) × (left p t q ≡ step_made st l x)

abbrev pub Tries : Link → Step → List ℕ → Head → List ℕ → Option Stored → Type 0
Tries l x p h p' t = (q : Register) → Tells (at p h q) l x p' t q

abbrev pub TriesReading : ℕ → Link → Step → List ℕ → Head → List ℕ → Option Stored → Type 0
TriesReading m l x p h p' t = (q : Register) → reading_slots q ≡ m → Tells (at p h q) l x p' t q

-- The answer of a step that misses a node, and of one that finds all. Nothing cites it; it says what `Tells` asks of each.
module _ (p : List ℕ) (h : Head) (l : Link) (x : Step) (q : Register) where
  pub tells-missed : step_finds (at p h q) l x ≡ false → Tells (at p h q) l x p None q
  tells-missed e = (e, refl)

  pub tells-made : (p' : List ℕ) (t : Stored) → step_finds (at p h q) l x ≡ true → left p' t q ≡ step_made (at p h q) l x
      → Tells (at p h q) l x p' (Some t) q
  tells-made p' t e m = (e, m)

-- whether some slot is awaited
pub some-awaited : (a : ℕ) → not (eqb a 0) ≡ true → a ≡ 0 → ⊥
some-awaited a e z = absurd (false≢true (rw z at e))

pub none-awaited : (a : ℕ) → not (eqb a 0) ≡ false → a ≡ 0
none-awaited a e = eqb-true a 0 (not-false (eqb a 0) e)
