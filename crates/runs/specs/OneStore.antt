-- A writer's turn that answers more or done has made the first store of the write in hand, and no more (promise: StoresOne).
use Rattle.std.specs.Prelude.{ℕ, ◌<◌, ◌≡◌, refl, true, ◌≢◌, ◌⊎◌, eqb}
use Rattle.std.proofs.Common.{sym, ap, ◌∙◌, subst, inl, inr, ⊎_elim, arith}
use Rattle.base.specs.Walk.{cond_both}
use Rattle.datatypes.specs.declared.Link.{Link}
use Rattle.datatypes.specs.declared.Link.TheVariants.{Root}
use Rattle.spec.specs.Register.{State, store_of, less_first}
use Rattle.spec.specs.Turn.{Made, step_finds}
use Rattle.spec.specs.Calls.{Answer, ok, go, absent, wait, found, next, more, done, refused, Outcome, stored, write_in_hand, Call}
use Rattle.spec.specs.PlainList.{Plain}
use Rattle.tree.specs.Linked.{Linked}
use Rattle.promise.specs.Demands.{StoresOne}
use Rattle.readers.specs.Turns.{turn-stores}
use Rattle.readers.specs.CallCase.{CallCase, refuses, plans_insert, plans_delete, plans_list, waits, stores, begins, loads, misses, meets, finds, leaves}
use Rattle.runs.specs.Writer.{Writer, first_made, after_store}
use Rattle.runs.specs.Sound.{Sound}
use Rattle.runs.specs.Answers.{told_of}
use Rattle.runs.specs.Rest.{left, stored-told}

-- the one case of a call that answers so
record Storing (st : State) (o : Outcome) : Type 0 where
  unawaited : st.register.awaited ≡ 0
  in_hand : write_in_hand st ≡ true
  finds-all : step_finds st (store_of st.register 0).link (store_of st.register 0).step ≡ true
  is : o ≡ stored (first_made st)

abbrev TellsStore : Answer → Type 0
TellsStore a = (4 < told_of a) × (told_of a < 7)

storing : (st : State) (c : Call) (o : Outcome) → CallCase st c o → TellsStore o.answer → Storing st o
storing st c o (refuses d f) e = absurd (let z = e.1 in omega arith)
storing st c o (plans_insert j v f) e = absurd (let z = e.0 in omega arith)
storing st c o (plans_delete j f) e = absurd (let z = e.0 in omega arith)
storing st c o (plans_list ks vs f) e = absurd (let z = e.0 in omega arith)
storing st c o (waits d) e = absurd (let z = e.0 in omega arith)
storing st c o (stores a w f) e = record { unawaited = a; in_hand = w; finds-all = f; is = refl }
storing st c o (begins κ t j u f) e = absurd (let z = e.0 in omega arith)
storing st c o (loads t r i p k f) e = absurd (let z = e.0 in omega arith)
storing st c o (misses t r i p k f g) e = absurd (let z = e.0 in omega arith)
storing st c o (meets t r i p k f g h) e = absurd (let z = e.0 in omega arith)
storing st c o (finds t p κ d f) e = absurd (let z = e.0 in omega arith)
storing st c o (leaves t p) e = absurd (let z = e.0 in omega arith)

-- more leaves stores to come, done none
module _ (st : State) (c : Call) (o : Outcome) (l : Link) (n : ℕ) (k : CallCase st c o) where
  pub more_left : o.answer ≡ more l n → left o.after ≢ 0
  more_left e =
      let a = ap told_of e in
      let s = (storing st c o k (omega arith, omega arith)).is in
      let b = ap (λ x. told_of x.answer) s in
      subst (λ x. left x.after ≢ 0) (sym s) (⊎_elim (λ x. let y = x.0 in absurd (omega arith)) (λ x. x.1) (stored-told (first_made st)))

  pub done-left : o.answer ≡ done l n → left o.after ≡ 0
  done-left e =
      let a = ap told_of e in
      let s = (storing st c o k (omega arith, omega arith)).is in
      let b = ap (λ x. told_of x.answer) s in
      subst (λ x. left x.after ≡ 0) (sym s) (⊎_elim (λ x. x.1) (λ x. let y = x.0 in absurd (omega arith)) (stored-told (first_made st)))

-- the link and the node that an answer names
abbrev link_in : Answer → Link
link_in ok = Root
link_in go = Root
link_in absent = Root
link_in wait = Root
link_in (found v) = Root
link_in (next k v) = Root
link_in (more l n) = l
link_in (done l n) = l
link_in (refused n) = Root

abbrev node_in : Answer → ℕ
node_in ok = 0
node_in go = 0
node_in absent = 0
node_in wait = 0
node_in (found v) = 0
node_in (next k v) = 0
node_in (more l n) = n
node_in (done l n) = n
node_in (refused n) = 0

-- a store's answer is more or done, with its link and its node
abbrev pub Tells : Answer → Link → ℕ → Type 0
Tells a l n = (a ≡ more l n) ⊎ (a ≡ done l n)

tells-store : (a : Answer) (l : Link) (n : ℕ) → Tells a l n → TellsStore a × (link_in a ≡ l) × (node_in a ≡ n)
tells-store a l n (inl e) = rw e ((omega arith, omega arith), refl, refl)
tells-store a l n (inr e) = rw e ((omega arith, omega arith), refl, refl)

stored-tells : (m : Made) → (link_in (stored m).answer ≡ m.link) × (node_in (stored m).answer ≡ m.node)
unfolding stored
stored-tells m =
    cond_both (λ a. (link_in a ≡ m.link) × (node_in a ≡ m.node)) (eqb (less_first m.after.register.write).count 0) (refl, refl) (refl, refl)

pub store-one : (W : State → Plain → Linked → Type 0) (writer : Writer W) (st : State) (x : Plain) (c : Call) (o : Outcome) (l : Link) (n : ℕ) → CallCase st c o
    → Sound W writer st x → Tells o.answer l n → StoresOne st o.after l n
store-one W writer st x c o l n k h e =
    let t = tells-store o.answer l n e in
    let s = storing st c o k t.0 in
    let m = first_made st in
    let z = writer.store st x h.tree h.safe h.holds s.unawaited s.in_hand s.finds-all in
    let one = turn-stores st (after_store st) z.came z.gone m.link m.node z.turn z.owner z.moved z.new z.apart in
    let link : m.link ≡ l = sym (stored-tells m).0 ∙ ap (λ y. link_in y.answer) (sym s.is) ∙ t.1 in
    let node : m.node ≡ n = sym (stored-tells m).1 ∙ ap (λ y. node_in y.answer) (sym s.is) ∙ t.2 in
    subst (λ y. StoresOne st y.after l n) (sym s.is) (rw (link, node) at one)
