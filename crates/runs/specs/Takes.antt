-- What a call takes stands free: the queue's first node in a writer's turn, its first ones in the call that accepts a list (02, C-24).
use Rattle.std.specs.Prelude.{ℕ, ◌<◌, ◌≡◌, refl, List, [], ◌∷◌, length}
use Rattle.std.proofs.Common.{sym, ap, ◌∙◌, subst, inl, inr, arith}
use Rattle.spec.specs.Pool.{word, standing_word, standing_free}
use Rattle.spec.specs.Bulk.{next_free, free_after}
use Rattle.spec.specs.Register.{State}
use Rattle.spec.specs.Calls.{Call, inserting, deleting, writing, beginning, turning, giving_up, inserting_list, Outcome, call}
use Rattle.spec.specs.PlainList.{Notice, turned_down, waited, carried_out, notice_of}
use Rattle.laws.specs.Words.{word_none}
use Rattle.promise.specs.Demands.{Takes}
use Rattle.readers.specs.Reach.{HasStanding}
use Rattle.readers.specs.Apart.{list-passes, free-after}
use Rattle.readers.specs.QueueExact.{QueueExact}
use Rattle.readers.specs.CallCase.{CallCase, call-case, refuses, plans_insert, plans_delete, plans_list, waits, stores, begins, loads, misses, meets, finds, leaves}
use Rattle.readers.specs.Safe.{Safe}
use Rattle.runs.specs.Answers.{kind_of}

-- how many keys a list has; a notice as a number
abbrev keys_of : Call → ℕ
keys_of (inserting k v) = 0
keys_of (deleting k) = 0
keys_of writing = 0
keys_of (beginning κ s k) = 0
keys_of (turning s) = 0
keys_of (giving_up s) = 0
keys_of (inserting_list ks vs) = length ks

abbrev notice_number : Notice → ℕ
notice_number turned_down = 0
notice_number waited = 1
notice_number carried_out = 2

-- no node's standing is 0 too
first-stands : (st : State) (m : ℕ) (l : List ℕ) → QueueExact st l → st.register.first ≡ m → word st.pool m standing_word ≡ standing_free
first-stands st m [] z e = rw (sym e ∙ z.queued.chain) (word_none st.pool standing_word)
first-stands st m (n ∷ l) z e = rw (sym e ∙ z.queued.chain.0) ((z.standing n).0 (inl refl)).1

list-stands : (st : State) (c : Call) (o : Outcome) (m : ℕ) → Safe st → CallCase st c o → notice_of o.answer ≡ carried_out → (ks vs : List ℕ) → c ≡ inserting_list ks vs
    → (i : ℕ) → i < length ks → free_after (next_free st.pool) st.register.first i ≡ m → HasStanding st.pool m standing_free
list-stands st c o m h (refuses d n) w ks vs e i u f = absurd (let z = ap notice_number w in omega arith)
list-stands st c o m h (plans_insert j v g) w ks vs e i u f = absurd (let z = ap kind_of e in omega arith)
list-stands st c o m h (plans_delete j g) w ks vs e i u f = absurd (let z = ap kind_of e in omega arith)
list-stands st c o m h (plans_list js us g) w ks vs e i u f =
    let same : length js ≡ length ks = ap keys_of e in
    let enough = (list-passes st js us h g).enough in
    let a = free-after st i h (omega arith) in
    subst (λ n. HasStanding st.pool n standing_free) f a.1
list-stands st c o m h (waits d) w ks vs e i u f = absurd (let z = ap kind_of e in omega arith)
list-stands st c o m h (stores a g j) w ks vs e i u f = absurd (let z = ap kind_of e in omega arith)
list-stands st c o m h (begins κ t j v g) w ks vs e i u f = absurd (let z = ap kind_of e in omega arith)
list-stands st c o m h (loads t y n p l d) w ks vs e i u f = absurd (let z = ap kind_of e in omega arith)
list-stands st c o m h (misses t y n p l d g) w ks vs e i u f = absurd (let z = ap kind_of e in omega arith)
list-stands st c o m h (meets t y n p l d g j) w ks vs e i u f = absurd (let z = ap kind_of e in omega arith)
list-stands st c o m h (finds t p κ d g) w ks vs e i u f = absurd (let z = ap kind_of e in omega arith)
list-stands st c o m h (leaves t p) w ks vs e i u f = absurd (let z = ap kind_of e in omega arith)

pub taken-stands : (st : State) (c : Call) (m : ℕ) → Safe st → Takes st c m → word st.pool m standing_word ≡ standing_free
taken-stands st c m h (inl x) = first-stands st m h.queue h.owned.exact x.first
taken-stands st c m h (inr x) = list-stands st c (call st c) m h (call-case st c) x.makes x.keys x.records x.list x.place x.below x.node
