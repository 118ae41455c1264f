-- No call leaves the ranges: refusal 2 is never met once they hold.
use Prim.Native.Nat.{ℕ, suc, ◌+◌, ◌-◌, ◌/◌, ◌%◌, ◌^◌, ◌<◌, ◌≤◌}
use Rattle.std.specs.Prelude.{◌≡◌, refl, Bool, true, false, cond, not, ◌&&◌, get_or, eqb, leb}
use Rattle.std.proofs.Common.{sym, ap, le-leb, lt-ltb, le-ltb, eq-eqb, leb-true, ltb-false}
use Rattle.std.proofs.Math.Path.{subst}
use Rattle.std.proofs.lemmas.Bool.{false≢true, not-false}
use mathlib.Core.List.{List, [], ◌∷◌}
use native.Mathlib.Omega.{arith}
use Rattle.std.proofs.Math.Decide.{ℕ_discrete, dec_lt}
use Rattle.std.proofs.Math.ListN.{length}
use Rattle.base.specs.Walk.{in_all}
use Rattle.datatypes.specs.declared.Link.{Link}
use Rattle.datatypes.specs.declared.Link.TheVariants.{Root, Left, Right}
use Rattle.datatypes.specs.declared.Place.{Place}
use Rattle.datatypes.specs.declared.Place.TheVariants.{Held, Empty, TooDeep}
use Rattle.datatypes.specs.declared.Step.{Step}
use Rattle.datatypes.specs.declared.Step.TheVariants.{Vacant, Insert, Replace, DiagLower, DiagRaise, ZigLowerA, ZigLowerC, ZigRaise, Unlink, Adopt, Promote, Publish, Detach, LinkAll}
use Rattle.datatypes.specs.declared.Write.{Write}
use Rattle.datatypes.specs.declared.Reader.{Reader}
use Rattle.datatypes.specs.declared.Side.TheVariants.{L}
use Rattle.spec.specs.Numbers.{slots, path_bound, most_stores, most_levels, least_nodes, most_nodes, node_words, reserve}
use Rattle.spec.specs.Pool.{word, left_word, right_word, colour_word, standing_word, next_word, nodes, node_in_range, pool_in_range, length_right, black_colour, red_colour, standing_apart}
use Rattle.spec.specs.Register.{State, state, vacant, reader_of, store_of, with_reader, with_write, link_in_range, node_number, step_in_range}
use Rattle.spec.specs.Register.{store_in_range, reader_in_range, register_in_range, write_of, less_first}
use Rattle.spec.specs.Free.{end_reading}
use Rattle.spec.specs.Search.{towards}
use Rattle.spec.specs.Plan.{Plan, store}
use Rattle.spec.specs.Turn.{step_finds, step_made}
use Rattle.spec.specs.Calls.{Outcome, out_of_range, named_node, named_out_of_range, place_of, insert_at, delete_at, stored, Call, child_for}
use Rattle.readers.specs.CallCase.{CallCase, tests-pass, refuses, plans_insert, plans_delete, plans_list, waits, stores, begins, loads, misses, meets, finds, leaves, Loads, at_root, looking_up, searching}
use Rattle.spec.specs.Calls.{list_tests, accepted_list}
use Rattle.spec.specs.FreeQueue.{InPool}
use Rattle.spec.specs.Bulk.{grown_in, grown_tree}
use Rattle.sequential.specs.Balanced.{Range, all, lower, black_levels, list_right}
use Rattle.tree.specs.Balanced.{list_right_lem}
use Rattle.laws.specs.Takings.{runs-first}
use Rattle.laws.specs.Lists.{grown-sides}
use Rattle.heap.specs.Grows.{Lasts, grow-each, lasts-taken, lasts-joined}
use Rattle.laws.specs.Tests.{and_right}
use Rattle.ranges.specs.Fits.{PoolOk, child_fits, Within, within-reader, within_end, within-write, within-take-as, within-link}
use Rattle.ranges.specs.Stores.{step-within}
use Rattle.ranges.specs.Writes.{Number, LinkOk, StepOk, WriteOk, write-of, write-less}
use Rattle.ranges.specs.Plans.{PlaceOk, seek_ok, PlanOk, insert-ok, delete-ok}
use Rattle.ranges.specs.Kept.{hand_end, step-hand}

pub record Ranged (capacity : ℕ) (st : State) : Type 0 where
  pub within : Within capacity st
  pub write : WriteOk capacity st.register.write

-- As 01 tests them.
number-true : (capacity n : ℕ) → Number capacity n → node_number capacity n ≡ true
number-true capacity n h = rw (le-leb 1 n h.low, le-leb n capacity h.high)

link-true : (capacity : ℕ) (l : Link) → LinkOk capacity l → link_in_range capacity l ≡ true
link-true capacity Root h = refl
link-true capacity (Left n) h = number-true capacity n h
link-true capacity (Right n) h = number-true capacity n h

step-true : (capacity : ℕ) (x : Step) → StepOk capacity x → step_in_range capacity x ≡ true
step-true capacity Vacant h = absurd h
step-true capacity (Insert k v) h = refl
step-true capacity (Replace v) h = refl
step-true capacity (DiagLower s c) h = refl
step-true capacity (DiagRaise s c) h = refl
step-true capacity (ZigLowerA s c) h = refl
step-true capacity (ZigLowerC s c) h = refl
step-true capacity (ZigRaise s c) h = refl
step-true capacity Unlink h = refl
step-true capacity Adopt h = refl
step-true capacity Promote h = refl
step-true capacity (Publish n) h = number-true capacity n h
step-true capacity (Detach k) h = refl
step-true capacity (LinkAll m n) h = rw (le-leb m capacity h.0, number-true capacity n h.1)

store_true : (capacity : ℕ) (w : Write) (i : ℕ) → WriteOk capacity w → store_in_range capacity w i ≡ true
unfolding store_in_range
store_true capacity w i h = elim (dec_lt i w.count) [
  | yes u ↦ (let a = h.come i u in rw (lt-ltb i w.count u, link-true capacity (get_or w.stores i vacant).link a.0, step-true capacity (get_or w.stores i vacant).step a.1))
  | no u ↦ rw (le-ltb i w.count (omega arith), h.others i (omega arith))
]

node-true : (capacity : ℕ) (p : List ℕ) (n : ℕ) → PoolOk capacity p → node_in_range p capacity n ≡ true
unfolding node_in_range
node-true capacity p n h =
    rw (
      le-leb (word p n left_word) capacity ((h n left_word (omega arith)).left refl),
      le-leb (word p n right_word) capacity ((h n right_word (omega arith)).right refl),
      le-leb (word p n colour_word) 1 ((h n colour_word (omega arith)).colour refl),
      le-leb (word p n standing_word) 3 ((h n standing_word (omega arith)).standing refl),
      le-leb (word p n next_word) capacity ((h n next_word (omega arith)).next refl),
    )

pool-true : (capacity : ℕ) (st : State) → Within capacity st → pool_in_range st.pool ≡ true
unfolding pool_in_range
pool-true capacity st h = rw h.size (in_all (node_in_range st.pool capacity) 1 (capacity + 1) (λ i a b. node-true capacity st.pool i h.fits))

register-true : (capacity : ℕ) (st : State) → Ranged capacity st → register_in_range capacity st.register ≡ true
unfolding register_in_range
register-true capacity st g =
    let h = g.within in
    let r = st.register in
    rw (
      le-leb r.root capacity h.root,
      le-leb r.first capacity h.first,
      le-leb r.last capacity h.last,
      le-leb r.free capacity h.free,
      le-leb r.held capacity h.held,
      le-leb r.write.count most_stores g.write.few,
      in_all (reader_in_range capacity r) 0 slots (λ s a b. le-leb (reader_of r s).node capacity (h.readers s)),
      in_all (store_in_range capacity r.write) 0 most_stores (λ i a b. store_true capacity r.write i g.write),
    )

pub ranged-in : (capacity : ℕ) (st : State) → Ranged capacity st → out_of_range st ≡ false
ranged-in capacity st h = rw (pool-true capacity st h.within, h.within.size, register-true capacity st h)

pub named_in : (capacity : ℕ) (st : State) (s : ℕ) → Ranged capacity st → named_out_of_range st s ≡ false
named_in capacity st s h = rw (h.within.size, node-true capacity st.pool (named_node st s) h.within.fits, register-true capacity st h)

-- Plans.
insert-at : (capacity : ℕ) (st : State) (k v : ℕ) → Within capacity st → (x : Place) → PlaceOk capacity x → PlanOk capacity (insert_at st k v x)
insert-at capacity st k v h (Held l n) o = record { stores = ((o.0, tt), tt); few = omega arith }
insert-at capacity st k v h (Empty l) o = insert-ok capacity st h k v l o
insert-at capacity st k v h TooDeep o = record { stores = tt; few = omega arith }

delete-at : (capacity : ℕ) (st : State) → Within capacity st → (x : Place) → PlaceOk capacity x → PlanOk capacity (delete_at st x)
delete-at capacity st h (Held l n) o = delete-ok capacity st h l n o.0 o.1
delete-at capacity st h (Empty l) o = record { stores = tt; few = omega arith }
delete-at capacity st h TooDeep o = record { stores = tt; few = omega arith }

place_ok : (capacity : ℕ) (st : State) (k : ℕ) → Within capacity st → PlaceOk capacity (place_of st k)
place_ok capacity st k h = seek_ok capacity st.pool h.fits k path_bound Root st.register.root tt h.root

ranged-plan : (capacity : ℕ) (st : State) (w : Plan) → Within capacity st → PlanOk capacity w → Ranged capacity (state st.pool (with_write st.register (write_of w.stores)))
unfolding with_write
ranged-plan capacity st w h o = record { within = within-write capacity st (write_of w.stores) h; write = write-of capacity w.stores o.stores o.few }

-- An accepted list: what each node taken and each link set keeps. Its queue lasts, so each node taken is one.
abbrev Growing : ℕ → ℕ → State → Type 0
Growing capacity k x = Within capacity x × Lasts k x

first-node : (capacity k : ℕ) (x : State) → Growing capacity (suc k) x → Number capacity x.register.first
first-node capacity k x g = let d = runs-first _ x.register.first k g.1 in let u = g.0.first in omega arith

in-pool : (capacity n : ℕ) (x : State) → Within capacity x → Number capacity n → InPool x.pool n
in-pool capacity n x w u = let e = w.size in omega arith

colour-low : (b : Bool) → cond b black_colour red_colour ≤ 1
colour-low true = omega arith
colour-low false = omega arith

module _ (capacity : ℕ) (ks vs : List ℕ) where
  abbrev low-levels : ℕ
  low-levels = black_levels (length ks)

  growing : (f k : ℕ) (r : Range) (st : State) → r.size < 2 ^ f → Growing capacity (r.size + k) st
      → Growing capacity k (grown_in ks vs low-levels f r st).after × ((grown_in ks vs low-levels f r st).top ≤ capacity)
  growing = grow-each ks vs low-levels (Growing capacity) (λ n. n ≤ capacity) (omega arith) (λ k x g. g.0.first)
      (λ k x i level n u g. (
        within-take-as standing_apart capacity x _ _ L n 0 _ (omega arith) u (omega arith) (colour-low (leb level low-levels)) g.0,
        lasts-taken standing_apart x _ _ n 0 _ k (in-pool capacity x.register.first x g.0 (first-node capacity k x g)) g.1,
      ))
      (λ k x n v a u g. (within-link capacity x (Right n) v u g.0, lasts-joined x n v k g.1))

  list-within : (st : State) → 1 ≤ length ks → length ks ≤ most_nodes → Growing capacity (length ks) st
      → Within capacity (grown_tree st ks vs).after × Number capacity (grown_tree st ks vs).top
  unfolding grown_tree
  list-within st some few g =
      let r = all (length ks) in
      let e : length ks ≡ length ks + 0 = omega arith in
      let h : length ks ≡ length ks / 2 + suc (length ks - length ks / 2 - 1) = omega arith in
      let low = growing 9 (suc (length ks - length ks / 2 - 1)) (lower r) st (omega arith) (subst (λ n. Growing capacity n st) h g) in (
        (growing most_levels 0 r st (omega arith) (subst (λ n. Growing capacity n st) e g)).0.0,
        subst (Number capacity) (sym (ap (λ x. x.top) (grown-sides ks vs low-levels 9 r st (omega arith)))) (first-node capacity _ _ low.0),
      )

  ranged-list : (st : State) → Ranged capacity st → 1 ≤ length ks → length ks ≤ most_nodes → length ks ≤ capacity → Lasts (length ks) st
      → Ranged capacity (accepted_list (grown_tree st ks vs) (length ks)).after
  unfolding with_write
  ranged-list st h some few low lasts =
      let g = list-within st some few (h.within, lasts) in
      let stores = store Root (LinkAll (length ks) (grown_tree st ks vs).top) ∷ [] in
      record { within = within-write capacity (grown_tree st ks vs).after (write_of stores) g.0; write = write-of capacity stores ((tt, (low, g.1)), tt) (omega arith) }

ranged-store : (capacity : ℕ) (st : State) (l : Link) (x : Step) → Ranged capacity st → StepOk capacity x → step_finds st l x ≡ true → Ranged capacity (stored (step_made st l x)).after
unfolding stored with_write
ranged-store capacity st l x h ok f =
    let m = step_made st l x in
    record {
      within = within-write capacity m.after (less_first m.after.register.write) (step-within capacity st h.within l x ok);
      write = write-less capacity m.after.register.write (step-hand capacity st h.within h.write l x f);
    }

ranged-reader : (capacity : ℕ) (st : State) (s : ℕ) (x : Reader) → x.node ≤ capacity → Ranged capacity st → Ranged capacity (state st.pool (with_reader st.register s x))
unfolding with_reader
ranged-reader capacity st s x u h = record { within = within-reader capacity st s x u h.within; write = h.write }

ranged-end : (capacity : ℕ) (st : State) (s : ℕ) → Ranged capacity st → Ranged capacity (end_reading st s)
ranged-end capacity st s h = record { within = within_end capacity st s h.within; write = rw (hand_end st s) h.write }

child-loaded-fits : (capacity : ℕ) (st : State) (x : Reader) → Within capacity st → child_for st.pool x ≤ capacity
child-loaded-fits capacity st x h = child_fits capacity st.pool (towards st.pool x.key x.node) x.node h.fits

load_fits : (capacity : ℕ) (st : State) (s : ℕ) (y : Reader) (n : ℕ) → Within capacity st → Loads st s y n → n ≤ capacity
load_fits capacity st s y n h (at_root a e f) = rw f h.root
load_fits capacity st s y n h (looking_up κ a b e f) = rw f (child-loaded-fits capacity st (reader_of st.register s) h)
load_fits capacity st s y n h (searching κ a e f) = rw f (child-loaded-fits capacity st (reader_of st.register s) h)

in-hand : (n : ℕ) → not (eqb n 0) ≡ true → 0 < n
in-hand n e = elim (ℕ_discrete n 0) [ yes z ↦ absurd (false≢true (rw (eq-eqb n 0 z) at e)) | no d ↦ omega arith ]

pub length_most : (p : List ℕ) → length_right p ≡ true → nodes p ≤ most_nodes
unfolding length_right
length_most p e = leb-true (nodes p) most_nodes (and_right (eqb (length p % node_words) 0 && leb least_nodes (nodes p)) (leb (nodes p) most_nodes) e)

pub ranged-next : (capacity : ℕ) (st : State) (c : Call) (o : Outcome) → CallCase st c o → Ranged capacity st → Ranged capacity o.after
ranged-next capacity st c o (refuses d x) h = h
ranged-next capacity st c o (plans_insert k v e) h =
    ranged-plan capacity st (insert_at st k v (place_of st k)) h.within (insert-at capacity st k v h.within (place_of st k) (place_ok capacity st k h.within))
ranged-next capacity st c o (plans_delete k e) h =
    ranged-plan capacity st (delete_at st (place_of st k)) h.within (delete-at capacity st h.within (place_of st k) (place_ok capacity st k h.within))
ranged-next capacity st c o (plans_list ks vs e) h =
    let t = tests-pass (list_tests st ks vs) (omega arith, (omega arith, (omega arith, (omega arith, (omega arith, (omega arith, (omega arith, (omega arith, tt)))))))) e in
    let few = ltb-false (nodes st.pool - reserve) (length ks) t.1.1.1.1.1.0 in
    let size = h.within.size in
    let most = length_most st.pool (not-false (length_right st.pool) t.0) in
    let some = (list_right_lem ks vs (not-false (list_right ks vs) t.1.1.1.0)).some in
    ranged-list capacity ks vs st h some (omega arith) (omega arith) t.1.1.1.1.1.1.1.0
ranged-next capacity st c o (waits d) h = h
ranged-next capacity st c o (stores a w f) h =
    ranged-store capacity st (store_of st.register 0).link (store_of st.register 0).step h (h.write.come 0 (in-hand st.register.write.count w)).1 f
ranged-next capacity st c o (begins κ s k u e) h = ranged-reader capacity st s _ (omega arith) h
ranged-next capacity st c o (loads s y n p l d) h = ranged-reader capacity st s _ (load_fits capacity st s y n h.within l) h
ranged-next capacity st c o (misses s y n p l e f) h = ranged-end capacity st s h
ranged-next capacity st c o (meets s y n p l e f g) h = ranged-end capacity st s h
ranged-next capacity st c o (finds s p κ d e) h = ranged-end capacity st s h
ranged-next capacity st c o (leaves s p) h = ranged-end capacity st s h
