-- The range of the write in hand: at most seven stores to come, which name nodes from 1 to N; the others are vacant.
use Rattle.std.specs.Prelude.{ℕ, zero, suc, ◌<◌, ◌≤◌, ◌≡◌, refl, List, [], ◌∷◌, ◌++◌, map, eqb, length, get_or, take, drop, replicate}
use Rattle.std.proofs.Common.{ap, ◌∙◌, arith, length-take, get_or-take}
use Rattle.std.proofs.Math.Decide.{dec_lt}
use Rattle.std.proofs.Math.ListN.{get_or-map}
use Rattle.base.specs.Lists.{get_d_past, get_d-same}
use Rattle.base.specs.Walk.{cond_both}
use Rattle.datatypes.specs.declared.Link.{Link}
use Rattle.datatypes.specs.declared.Link.TheVariants.{Root, Left, Right}
use Rattle.datatypes.specs.declared.Step.{Step}
use Rattle.datatypes.specs.declared.Step.TheVariants.{Vacant, Insert, Replace, DiagLower, DiagRaise, ZigLowerA, ZigLowerC, ZigRaise, Unlink, Adopt, Promote, Publish, Detach, LinkAll}
use Rattle.datatypes.specs.declared.Store.{Store}
use Rattle.datatypes.specs.declared.Write.{Write}
use Rattle.spec.specs.Numbers.{most_stores}
use Rattle.spec.specs.Register.{vacant, no_write, write_of, less_first}
use Rattle.spec.specs.Turn.{moved_link, moved_store, moved_write}

-- a node's number
pub record Number (capacity n : ℕ) : Type 0 where
  pub low : 1 ≤ n
  pub high : n ≤ capacity

abbrev pub LinkOk : ℕ → Link → Type 0
LinkOk capacity Root = Unit {0}
LinkOk capacity (Left n) = Number capacity n
LinkOk capacity (Right n) = Number capacity n

abbrev pub StepOk : ℕ → Step → Type 0
StepOk capacity Vacant = ⊥
StepOk capacity (Insert k v) = Unit {0}
StepOk capacity (Replace v) = Unit {0}
StepOk capacity (DiagLower s c) = Unit {0}
StepOk capacity (DiagRaise s c) = Unit {0}
StepOk capacity (ZigLowerA s c) = Unit {0}
StepOk capacity (ZigLowerC s c) = Unit {0}
StepOk capacity (ZigRaise s c) = Unit {0}
StepOk capacity Unlink = Unit {0}
StepOk capacity Adopt = Unit {0}
StepOk capacity Promote = Unit {0}
StepOk capacity (Publish n) = Number capacity n
StepOk capacity (Detach k) = Unit {0}
StepOk capacity (LinkAll m n) = (m ≤ capacity) × Number capacity n

abbrev pub StoreOk : ℕ → Store → Type 0
StoreOk capacity x = LinkOk capacity x.link × StepOk capacity x.step

abbrev pub StoresOk : ℕ → List Store → Type 0
StoresOk capacity [] = Unit {0}
StoresOk capacity (x ∷ l) = StoreOk capacity x × StoresOk capacity l

pub stores-append : (capacity : ℕ) (l m : List Store) → StoresOk capacity l → StoresOk capacity m → StoresOk capacity (l ++ m)
stores-append capacity [] m a b = b
stores-append capacity (x ∷ l) m a b = (a.0, stores-append capacity l m a.1 b)

stores_at : (capacity : ℕ) (l : List Store) (i : ℕ) → StoresOk capacity l → i < length l → StoreOk capacity (get_or l i vacant)
stores_at capacity [] i h u = absurd (omega arith)
stores_at capacity (x ∷ l) zero h u = h.0
stores_at capacity (x ∷ l) (suc i) h u = stores_at capacity l i h.1 (omega arith)

pub record WriteOk (capacity : ℕ) (w : Write) : Type 0 where
  pub few : w.count ≤ most_stores
  pub come : (i : ℕ) → i < w.count → StoreOk capacity (get_or w.stores i vacant)
  pub others : (i : ℕ) → w.count ≤ i → get_or w.stores i vacant ≡ vacant

pub write-none : (capacity : ℕ) → WriteOk capacity no_write
write-none capacity = record { few = omega arith; come = λ i u. absurd (omega arith); others = λ i u. get_d-same vacant most_stores i }

-- Planned. Vacant stores after a list change none of what stands in it.
pub padded-at : (l : List Store) (k i : ℕ) → get_or (l ++ replicate k vacant) i vacant ≡ get_or l i vacant
padded-at [] k i = get_d-same vacant k i
padded-at (x ∷ l) k zero = refl
padded-at (x ∷ l) k (suc i) = padded-at l k i

pub write-of : (capacity : ℕ) (l : List Store) → StoresOk capacity l → length l ≤ most_stores → WriteOk capacity (write_of l)
unfolding write_of
write-of capacity l h u =
    let xs = l ++ replicate most_stores vacant in
    record {
      few = u;
      come = λ i v. rw (get_or-take most_stores xs i vacant (omega arith), padded-at l most_stores i) (stores_at capacity l i h v);
      others = λ i v. elim (dec_lt i most_stores) [
        | yes a ↦ get_or-take most_stores xs i vacant a ∙ padded-at l most_stores i ∙ get_d_past vacant l i v
        | no a ↦ get_d_past vacant (take most_stores xs) i (let e = length-take most_stores xs in omega arith)
      ];
    }

-- The first made: each store after it moves up by one.
pub moved_up : (l : List Store) (i : ℕ) → get_or (drop 1 l ++ vacant ∷ []) i vacant ≡ get_or l (suc i) vacant
moved_up [] i = padded-at [] 1 i
moved_up (x ∷ l) i = padded-at l 1 i

pub write-less : (capacity : ℕ) (w : Write) → WriteOk capacity w → WriteOk capacity (less_first w)
unfolding less_first
write-less capacity w h = record {
  few = let a = h.few in omega arith;
  come = λ i u. rw (moved_up w.stores i) (h.come (suc i) (omega arith));
  others = λ i u. moved_up w.stores i ∙ h.others (suc i) (omega arith);
}

-- moved to another node
moved-link : (capacity b n : ℕ) (l : Link) → Number capacity n → LinkOk capacity l → LinkOk capacity (moved_link b n l)
moved-link capacity b n Root h k = tt
moved-link capacity b n (Left m) h k = k
moved-link capacity b n (Right m) h k = cond_both (λ x. Number capacity x) (eqb m b) h k

pub write-moved : (capacity b n : ℕ) (w : Write) → Number capacity n → WriteOk capacity w → WriteOk capacity (moved_write b n w)
unfolding moved_write
write-moved capacity b n w h k =
    let at : (i : ℕ) → get_or (map (moved_store b n) w.stores) i vacant ≡ moved_store b n (get_or w.stores i vacant) = λ i. get_or-map (moved_store b n) w.stores i vacant in
    record {
      few = k.few;
      come = λ i u. rw (at i) (let a = k.come i u in (moved-link capacity b n (get_or w.stores i vacant).link h a.0, a.1));
      others = λ i u. at i ∙ ap (moved_store b n) (k.others i u);
    }
