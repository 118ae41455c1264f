-- 01, 'What demand 3 speaks of': a list of calls, made one after the other from a start. What stands after each of them, what each call
-- answered, and the plain list beside it; what a lookup is, and a search for the next ticket (02, C-11); and which nodes are compared in them
-- (02, C-17). 01's runs start on a pool of any N just set up, with any arguments.
use Rattle.std.specs.Prelude.{ℕ, zero, suc, ◌<◌, ◌≡◌, ◌⊎◌, true, cond, List, [], ◌∷◌, ◌++◌, eqb, ltb}
use Rattle.std.proofs.Math.Option.{Option, none, some}
use Rattle.datatypes.specs.declared.Kind.{Kind}
use Rattle.datatypes.specs.declared.Kind.TheVariants as kind
use Rattle.datatypes.specs.declared.Reader.{Reader}
use Rattle.sequential.specs.Tree.{Tree, leaf}
use Rattle.spec.specs.Pool.{nodes}
use Rattle.spec.specs.Register.{State, fresh, reader_of}
use Rattle.spec.specs.Calls.{Answer, ok, absent, found, next, Call, inserting, deleting, writing, beginning, turning, giving_up, inserting_list, call, reading, set_up}
use Rattle.spec.specs.PlainList.{Ticket, Plain, none_accepted, Notice, turned_down, waited, carried_out, notice_of, feed}

-- Where a run starts: N, pool and register, the sequential tree that stands there, and the plain list's tickets. 01's own start is `just_set_up N`.
pub record Start : Type 0 where
  pub size : ℕ
  pub index : State
  pub tree : Tree
  pub tickets : List Ticket

-- a pool of N nodes just set up: no ticket, the tree `leaf`
abbrev pub just_set_up : ℕ → Start
just_set_up N = record { size = N; index = fresh N; tree = leaf; tickets = [] }

-- the start that set up leaves of a pool and register; on a pool of N nodes it is `just_set_up N` (crate theorem: `set-up`)
abbrev pub after_set_up : State → Start
after_set_up st = record { size = nodes st.pool; index = (set_up st).after; tree = leaf; tickets = [] }

-- Pool and register as the calls leave them, and the plain list, which is fed of each call only its arguments, whether it was refused,
-- and of a writer's turn whether it answered wait.
pub record Moment : Type 0 where
  pub index : State
  pub plain : Plain

abbrev pub outset : Start → Moment
outset S = record { index = S.index; plain = none_accepted S.tree S.tickets }

abbrev pub then_call : Moment → Call → Moment
then_call m c =
    let o = call m.index c in
    record { index = o.after; plain = feed m.plain c (notice_of o.answer) }

-- call j of a list, counted from 0, if there is one
abbrev pub call_at : List Call → ℕ → Option Call
call_at [] j = none
call_at (c ∷ cs) zero = some c
call_at (c ∷ cs) (suc j) = call_at cs j

-- past the end of the list nothing happens
abbrev pub then_perhaps : Moment → Option Call → Moment
then_perhaps m none = m
then_perhaps m (some c) = then_call m c

-- slot s is reading
abbrev pub Reads : State → ℕ → Type 0
Reads st s = reading st s ≡ true

-- 02, C-17: the nodes compared for slot s up to a call and by it; `before` are those up to it, x is the slot's record when the call comes. A turn
-- of the slot that isn't refused compares the node that the record names, if it names one; no other call compares for it.
abbrev pub with_named : List ℕ → Reader → List ℕ
with_named before x = cond (eqb x.node 0) before (before ++ x.node ∷ [])

abbrev pub then_compared : List ℕ → ℕ → Reader → Notice → Call → List ℕ
then_compared before s x turned_down c = before
then_compared before s x waited c = before
then_compared before s x carried_out (turning t) = cond (eqb t s) (with_named before x) before
then_compared before s x carried_out (inserting k v) = before
then_compared before s x carried_out (deleting k) = before
then_compared before s x carried_out writing = before
then_compared before s x carried_out (beginning κ t k) = before
then_compared before s x carried_out (giving_up t) = before
then_compared before s x carried_out (inserting_list ks vs) = before

abbrev pub perhaps_compared : List ℕ → ℕ → State → Option Call → List ℕ
perhaps_compared before s st none = before
perhaps_compared before s st (some c) = then_compared before s (reader_of st.register s) (notice_of (call st c).answer) c

-- The run of a list of calls from a start.
module _ (S : Start) (cs : List Call) where
  -- what stands after j calls
  unfoldable pub after : ℕ → Moment
  after zero = outset S
  after (suc j) = then_perhaps (after j) (call_at cs j)

  abbrev pub index_after : ℕ → State
  index_after j = (after j).index

  abbrev pub plain_after : ℕ → Plain
  plain_after j = (after j).plain

  abbrev pub tickets_after : ℕ → List Ticket
  tickets_after j = (after j).plain.tickets

  -- call j is c and answers a
  abbrev pub Gives : ℕ → Call → Answer → Type 0
  Gives j c a = (call_at cs j ≡ some c) × ((call (index_after j) c).answer ≡ a)

  -- Call i is an accepted begin of slot s, of this kind, with the key k.
  abbrev pub Begins : Kind → ℕ → ℕ → ℕ → Type 0
  Begins κ s k i = Gives i (beginning κ s k) ok

  -- Call j is a turn of slot s and answers a.
  abbrev pub Turns : ℕ → ℕ → Answer → Type 0
  Turns s j a = Gives j (turning s) a

  -- Call j ends the reading of slot s: its turn that answers found, the next ticket or absent, or its accepted give up.
  abbrev pub Ends : ℕ → ℕ → Type 0
  Ends s j = Turns s j absent ⊎ (((v : ℕ) × Turns s j (found v)) ⊎ (((k : ℕ) × (v : ℕ) × Turns s j (next k v)) ⊎ Gives j (giving_up s) ok))

  -- Call i begins a reading of slot s, of this kind, with the key k, which has not ended when call j comes. So its moments up to then are
  -- those after i + 1, i + 2, .. j calls; and if call j ends it, that after j + 1 calls too.
  pub record Reading (κ : Kind) (s k i j : ℕ) : Type 0 where
    pub begins : Begins κ s k i
    pub later : i < j
    pub lasts : (t : ℕ) → i < t → t < j → ¬ (Ends s t)

  -- 'Lookup': a slot's, from an accepted begin to that slot's turn that answers found or absent, or to its accepted give up. Here up to
  -- call j; that call j ends it, and with which answer, stands beside it (Demands: when_found, when_absent). 02, C-11: a search for the next
  -- ticket likewise, after the key g (Demands: when_next, when_none).
  abbrev pub Lookup : ℕ → ℕ → ℕ → ℕ → Type 0
  Lookup s k i j = Reading kind.Lookup s k i j

  abbrev pub NextSearch : ℕ → ℕ → ℕ → ℕ → Type 0
  NextSearch s g i j = Reading kind.Next s g i j

  -- 02, C-17: the nodes compared for slot s by the calls after call i and before call j, in order
  unfoldable pub compared_in : ℕ → ℕ → ℕ → List ℕ
  compared_in s i zero = []
  compared_in s i (suc j) = cond (ltb i j) (perhaps_compared (compared_in s i j) s (index_after j) (call_at cs j)) []
