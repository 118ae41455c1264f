-- The plain list's tickets: one for a key at most; what a list store makes of them; they are as many as the keys of the tree that holds them.
use Rattle.std.specs.Prelude.{ℕ, suc, ◌+◌, ◌≡◌, refl, ◌≢◌, Bool, true, false, cond, List, [], ◌∷◌, eqb, length}
use Rattle.std.proofs.Common.{sym, ap, ◌∙◌, subst, arith, eqb-true, eq-eqb, ne_eqb}
use Rattle.std.proofs.Math.Option.{Option, none, some}
use Rattle.std.proofs.Math.Decide.{ℕ_discrete}
use Rattle.std.proofs.lemmas.Bool.{eqb-false}
use Rattle.datatypes.specs.declared.Side.TheVariants.{L}
use Rattle.sequential.specs.Tree.{Tree, leaf, node, find}
use Rattle.sequential.specs.Delete.{deletion, delete}
use Rattle.sequential.specs.Proper.{Proper}
use Rattle.spec.specs.PlainList.{Ticket, without, record_for, Unique}
use Rattle.tree.specs.Order.{here_of}
use Rattle.tree.specs.Sorted.{size}
use Rattle.tree.specs.Changes.{changed-proper, find-delete, find-delete-other, size-changed}

pub none-some : (v : ℕ) → ¬ (◌≡◌ {A = Option ℕ} none (some v))
none-some v e = let z : ◌≡◌ {A = ℕ} 0 1 = cc in absurd (omega arith)

pub without-same : (k : ℕ) (ts : List Ticket) → record_for k (without k ts) ≡ none
without-same k [] = refl
without-same k (t ∷ ts) = go (eqb t.key k) refl (without-same k ts)
  where
    go : (b : Bool) → eqb t.key k ≡ b → record_for k (without k ts) ≡ none → record_for k (cond b (without k ts) (t ∷ without k ts)) ≡ none
    go true e h = h
    go false e h = rw e h

pub without_other : (k q : ℕ) (ts : List Ticket) → q ≢ k → record_for q (without k ts) ≡ record_for q ts
without_other k q [] d = refl
without_other k q (t ∷ ts) d = go (eqb t.key k) refl (without_other k q ts d)
  where
    go : (b : Bool) → eqb t.key k ≡ b → record_for q (without k ts) ≡ record_for q ts → record_for q (cond b (without k ts) (t ∷ without k ts)) ≡ record_for q (t ∷ ts)
    go true e h = let z = ne_eqb t.key q (λ x. d (sym x ∙ eqb-true t.key k e)) in rw z h
    go false e h = rw h

pub unique-without : (k : ℕ) (ts : List Ticket) → Unique ts → Unique (without k ts)
unique-without k [] h = tt
unique-without k (t ∷ ts) h = go (eqb t.key k) refl (unique-without k ts h.1)
  where
    go : (b : Bool) → eqb t.key k ≡ b → Unique (without k ts) → Unique (cond b (without k ts) (t ∷ without k ts))
    go true e u = u
    go false e u = (without_other k t.key ts (eqb-false t.key k e) ∙ h.0, u)

pub without-none : (k : ℕ) (ts : List Ticket) → record_for k ts ≡ none → length (without k ts) ≡ length ts
without-none k [] h = refl
without-none k (t ∷ ts) h = go (eqb t.key k) refl h (λ x. without-none k ts x)
  where
    go : (b : Bool) → eqb t.key k ≡ b → cond b (some t.value) (record_for k ts) ≡ none → (record_for k ts ≡ none → length (without k ts) ≡ length ts)
        → length (cond b (without k ts) (t ∷ without k ts)) ≡ suc (length ts)
    go true e x f = absurd (none-some t.value (sym x))
    go false e x f = ap suc (f x)

pub without-some : (k v : ℕ) (ts : List Ticket) → Unique ts → record_for k ts ≡ some v → suc (length (without k ts)) ≡ length ts
without-some k v [] u h = absurd (none-some v h)
without-some k v (t ∷ ts) u h = go (eqb t.key k) refl h (λ x. without-some k v ts u.1 x)
  where
    go : (b : Bool) → eqb t.key k ≡ b → cond b (some t.value) (record_for k ts) ≡ some v → (record_for k ts ≡ some v → suc (length (without k ts)) ≡ length ts)
        → suc (length (cond b (without k ts) (t ∷ without k ts))) ≡ suc (length ts)
    go true e x f = ap suc (without-none k ts (subst (λ m. record_for m ts ≡ none) (eqb-true t.key k e) u.0))
    go false e x f = ap suc (f x)

-- The tree that holds just these tickets has as many keys: delete them one by one.
pub tickets-size : (ts : List Ticket) (t : Tree) → Proper t → Unique ts → ((q : ℕ) → find t q ≡ record_for q ts) → size t ≡ length ts
tickets-size [] leaf p u h = refl
tickets-size [] (node c k v l r) p u h = absurd (none-some v (sym (h k) ∙ rw (here_of L k k refl)))
tickets-size (x ∷ ts) t p u h =
    let k = x.key in
    let o = p.ordered in
    let less = size-changed t (deletion k) tt o in
    let was : find t k ≡ some x.value = h k ∙ rw (eq-eqb k k refl) in
    let is = find-delete t k o in
    let rest = tickets-size ts (delete t k) (changed-proper t (deletion k) p) u.1 (λ q. elim (ℕ_discrete q k) [
      | yes e ↦ rw e (is ∙ sym u.0)
      | no d ↦ find-delete-other t k q o d ∙ h q ∙ rw (ne_eqb k q (λ e. d (sym e)))
    ]) in
    let few : size (delete t k) + 1 ≡ size t + 0 = rw (was, is) at less in
    omega arith
