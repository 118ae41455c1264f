-- The theorem: demands 2 and 3, that 1, 2 and 12 are never met, that a reader's turn is the one that tests every word (C-12), and how many nodes a
-- lookup reads (C-17), of every list of calls on a pool of any N from 8 to 1,023 just set up; and from every other sound start (promise: Starts).
use Rattle.std.specs.Prelude.{ℕ, ◌*◌, ◌<◌, ◌≤◌, ◌≡◌, refl, false, List, [], length}
use Rattle.std.proofs.Common.{sym, ap, ◌∙◌, subst, inl, inr, ⊎_elim, arith, add-one, eq-eqb, ne_eqb}
use Rattle.std.proofs.Math.Logic.{⊎_map}
use Rattle.std.proofs.Math.Option.{Option, none, some}
use Rattle.base.specs.Lists.{◌∈◌}
use Rattle.datatypes.specs.declared.Link.TheVariants.{Root}
use Rattle.datatypes.specs.declared.Step.TheVariants.{LinkAll}
use Rattle.spec.specs.Plan.{store}
use Rattle.sequential.specs.Balanced.{balanced_tree}
use Rattle.sequential.specs.Delete.{Change, insertion, deletion, list_insertion}
use Rattle.tree.specs.Steady.{Sure}
use Rattle.tree.specs.Tickets.{True}
use Rattle.readers.specs.Apart.{list-passes}
use Rattle.theorem.specs.Lists.{HandSide, side-first, list-busy, list-leaves_tree, list-accepted, list-store, list-finds, list-few, store-side, side-count}
use Rattle.std.proofs.lemmas.Bool.{false≢true}
use Rattle.std.proofs.Math.Decide.{ℕ_discrete}
use Rattle.datatypes.specs.declared.Kind.{Kind}
use Rattle.datatypes.specs.declared.Register.{Register}
use Rattle.spec.specs.Numbers.{node_words, least_nodes, most_nodes}
use Rattle.spec.specs.Pool.{nodes as pool_nodes, word, colour_word, standing_word, red_colour, standing_linked}
use Rattle.spec.specs.Register.{State, state}
use Rattle.spec.specs.Calls.{ok, outcome, set_up, Call, call, write_in_hand, first_of, insert_tests, delete_tests}
use Rattle.spec.specs.PlainList.{Plain, record_for, store_made}
use Rattle.readers.specs.CallCase.{call-case, tests-pass}
use Rattle.tree.specs.Linked.{Linked, nil, cell, find, nodes}
use Rattle.tree.specs.Occurs.{occ-distinct, nodes-size}
use Rattle.tree.specs.Erase.{erase, erase-find, erase-height}
use Rattle.tree.specs.Height.{height_bound}
use Rattle.tree.specs.Sorted.{size}
use Rattle.heap.specs.Rep.{Rep}
use Rattle.heap.specs.Colours.{hue, colours}
use Rattle.heap.specs.Phase.{phase-rep}
use Rattle.heap.specs.Writes.{write-count}
use Rattle.heap.specs.Accept.{searched, insert-possible, delete-possible}
use Rattle.promise.specs.Run.{Start, just_set_up, after_set_up, index_after, Reading}
use Rattle.promise.specs.Demands.{colour_number, Stands, ApartRight, NoEight, PromiseFrom, Promise}
use Rattle.readers.specs.Words.{node-high}
use Rattle.readers.specs.Reach.{Kept, leads-in, in-leads}
use Rattle.runs.specs.Writer.{Writer, first_made}
use Rattle.runs.specs.Sound.{Starts}
use Rattle.promise.specs.Starts.{SoundStart}
use Rattle.runs.specs.Starts.{ranged-start, safe-start}
use Rattle.runs.specs.Begin.{sound-fresh}
use Rattle.runs.specs.Rest.{length-right, Completes, refused-by, not_eight}
use Rattle.runs.specs.Facts as Facts
use Rattle.runs.specs.Facts.{TicketAt}
use Rattle.runs.specs.Whole as Whole
use Rattle.theorem.specs.Tickets.{tickets-size}
use Rattle.theorem.specs.WriterSide.{WriterSide, writer_side-store, writer_side-finds}
use Rattle.theorem.specs.Rests.{writer_side-leaves_tree, resting, some_of, writer_side-insert}
use Rattle.theorem.specs.Deletes.{writer_side-delete}
use Rattle.theorem.specs.Truth.{phase-sure, phase-true}
use Rattle.theorem.specs.Starts.{writer_side-start}

-- a colour word of 0 or 1 is its colour's number
hue-number : (w : ℕ) → w ≤ 1 → w ≡ colour_number (hue w)
hue-number w h = elim (ℕ_discrete w red_colour) [
  | yes e ↦ rw (eq-eqb w red_colour e) e
  | no d ↦ rw (ne_eqb w red_colour d) (omega arith)
]

colour-number : (p : List ℕ) (n : ℕ) → word p n colour_word ≤ 1 → word p n colour_word ≡ colour_number (colours p n)
unfolding colours
colour-number p n h = hue-number (word p n colour_word) h

-- the pool's tree is the coloured one
stands : (p : List ℕ) (t : Linked) (a : ℕ) → ((n : ℕ) → word p n colour_word ≤ 1) → Rep p a t → Stands p a (erase (colours p) t)
stands p nil a c h = h
stands p (cell N l r) a c h =
    let w = h.0 in
    let e = w.is in
    rw e (w.within.low, node-high p N.num w.within, w.key-is, w.val_is, colour-number p N.num (c N.num), stands p l _ c h.1, stands p r _ c h.2)

-- the empty tree
sure-nil : Sure nil
sure-nil g q l u = refl

insert-idle : (st : State) (k v : ℕ) → first_of (insert_tests st k v) ≡ 0 → write_in_hand st ≡ false
insert-idle st k v e = (tests-pass (insert_tests st k v) (omega arith, (omega arith, (omega arith, (omega arith, (omega arith, (omega arith, (omega arith, tt))))))) e).1.1.0

delete-idle : (st : State) (k : ℕ) → first_of (delete_tests st k) ≡ 0 → write_in_hand st ≡ false
delete-idle st k e = (tests-pass (delete_tests st k) (omega arith, (omega arith, (omega arith, (omega arith, (omega arith, (omega arith, (omega arith, tt))))))) e).1.1.0

pub writer : Writer HandSide
writer = record {
  unfolds = λ st x T h. ⊎_elim (λ h. phase-rep h.hand.phase) (λ h. subst (λ t. Rep st.pool st.register.root t) (sym h.empty) h.rootless) h;
  linked = λ st x T h. ⊎_elim (λ h. h.linked) (λ h n. (λ e. absurd (h.unlinked n e), λ i. absurd (subst (λ t. n ∈ nodes t) h.empty i))) h;
  finds = λ st x T h. ⊎_elim (λ h. h.finds) (λ h k. ap (λ t. find t k) h.empty ∙ ap (record_for k) (sym h.tickets)) h;
  sure = λ st x T h. ⊎_elim (λ h. phase-sure h.hand.phase) (λ h. subst Sure (sym h.empty) sure-nil) h;
  told = λ st x T h. ⊎_elim (λ h. phase-true h.hand.phase) (λ h. subst True (sym h.empty) tt) h;
  held = λ st x T h. ⊎_elim (λ h. h.held) (λ h. h.held ∙ ap length (sym h.tickets)) h;
  leaves_tree = λ st after x T h s. ⊎_map (λ h. writer_side-leaves_tree st after x s T h) (λ h. list-leaves_tree st after x T h s) h;
  insert = λ st x T k v safe h e. ⊎_elim (λ h. inl (writer_side-insert st x T k v safe h e)) (λ h. list-busy h (insert-idle st k v e)) h;
  delete = λ st x T k safe h e. ⊎_elim (λ h. inl (writer_side-delete st x T k safe h e)) (λ h. list-busy h (delete-idle st k e)) h;
  list = λ st x T ks vs safe h e. ⊎_elim (λ h. inr (list-accepted st x T ks vs safe h e)) (λ h. list-busy h (list-passes st ks vs safe e).idle) h;
  store = λ st x T safe h a w f. store-side st (first_made st) (store_made x x.in_hand) T (⊎_elim (λ h. writer_side-store st x T safe h w) (λ h. list-store st x T safe h) h);
}

-- at rest the tree has as many keys as are held
rest-size : (st : State) (x : Plain) (T : Linked) → WriterSide st x T → write_in_hand st ≡ false → size (erase (colours st.pool) T) ≡ st.register.held
rest-size st x T h e =
    let c = colours st.pool in
    tickets-size x.tickets (erase c T) (resting st x T h e).rest.sound.proper h.unique (λ q. erase-find c T q ∙ h.finds q) ∙ sym h.held

-- at rest no list is in hand
pub rest-side : (st : State) (x : Plain) (T : Linked) → HandSide st x T → write_in_hand st ≡ false → WriterSide st x T
rest-side st x T (inl h) e = h
rest-side st x T (inr h) e = list-busy h e

-- 02, C-24: what stands apart
abbrev list_keys : Option Change → List ℕ
list_keys none = []
list_keys (some (insertion k v)) = []
list_keys (some (deletion k)) = []
list_keys (some (list_insertion ks vs)) = ks

abbrev list_records : Option Change → List ℕ
list_records none = []
list_records (some (insertion k v)) = []
list_records (some (deletion k)) = []
list_records (some (list_insertion ks vs)) = vs

side-apart : (st : State) (x : Plain) (T : Linked) → HandSide st x T → ((n : ℕ) → word st.pool n colour_word ≤ 1) → ApartRight st x
side-apart st x T (inl h) c = record { waiting = λ ks vs i. (let a = h.listed ks vs i.0 in let b = i.1 in absurd (omega arith)); otherwise = λ n e. absurd (h.unapart n e) }
side-apart st x T (inr h) c = record {
  waiting = λ ks vs i. (
      let e = ap list_keys (sym h.in_hand ∙ i.0) in
      let f = ap list_records (sym h.in_hand ∙ i.0) in
      let r = subst (λ t. Stands st.pool h.top t) h.shape (stands st.pool h.tree h.top c h.rep) in
      record {
        in_hand = side-count h;
        top = h.top;
        store = side-first h ∙ ap (λ l. store Root (LinkAll (length l) h.top)) e;
        tree = subst (λ us. Stands st.pool h.top (balanced_tree ks us)) f (subst (λ js. Stands st.pool h.top (balanced_tree js h.vs)) e r);
        nodes = λ n. (λ a. in-leads st.pool h.tree h.top n h.rep ((h.apart n).0 a), λ l. (h.apart n).1 (leads-in st.pool h.tree h.top n h.rep l));
      }
      );
  otherwise = λ n e. (h.ks, h.vs, (h.in_hand, h.made));
}

pub completes : Completes HandSide
completes = record {
  rest = λ st x T h c e. (let f = resting st x T (rest-side st x T h e) e in subst (λ t. Stands st.pool st.register.root t) f.tree (stands st.pool T st.register.root c f.rest.rep));
  counts = λ st x T h e. (let r = rest-side st x T h e in (occ-distinct (nodes T) (resting st x T r e).rest.sound.once, nodes-size (colours st.pool) T ∙ rest-size st x T r e));
  low = λ st x T h e. (
      let r = rest-side st x T h e in
      let c = colours st.pool in
      let low = height_bound (erase c T) (resting st x T r e).rest.sound.proper.redblack in
      rw (add-one st.register.held) (rw (rest-size st x T r e, erase-height c T) at low)
      );
  apart = side-apart;
  unapart = λ st x T h e. (rest-side st x T h e).unapart;
  few = λ st x T h e. ⊎_elim (λ h. (let a = h.few in rw (h.hand.write, write-count h.stores) a)) (λ h. list-few h) h;
  insert_goes = λ st x T k v safe h e. (
      let f = resting st x T (rest-side st x T h e) e in
      let s = searched st T k f.rest in
      (s.not-deep, λ _. (insert-possible st T k v f.rest).possible)
      );
  delete_goes = λ st x T k safe h e. (
      let f = resting st x T (rest-side st x T h e) e in
      let s = searched st T k f.rest in
      (s.not-deep, λ n _. (let o = some_of (find T k) (sym s.is-held ∙ n) in (delete-possible st T k o.0 f.rest o.1).possible))
      );
  step_goes = λ st x T safe h a w. ⊎_elim (λ h. writer_side-finds st x T safe h w) (λ h. list-finds st x T safe h) h;
}

-- a sound start
pub starts-sound : (S : Start) → SoundStart S → Starts HandSide writer S
starts-sound S h =
    let j = writer_side-start S h in
    record {
      least = h.least;
      most = h.most;
      sound = record { safe = safe-start S h; tree = j.0; holds = inl j.1 };
      ranged = ranged-start S h;
      quiet = λ s u e. false≢true (sym (h.quiet s u) ∙ e);
    }

-- THE THEOREM. Every list of calls from a sound start,
pub promise-from : (S : Start) → SoundStart S → (cs : List Call) → PromiseFrom S cs
promise-from S h cs = Whole.promise HandSide writer completes S (starts-sound S h) cs

-- and so, as 01's demands have it, on a pool of N nodes just set up
pub promise : (N : ℕ) → least_nodes ≤ N → N ≤ most_nodes → (cs : List Call) → Promise N cs
promise N lo hi cs = promise-from (just_set_up N) (sound-fresh N lo hi) cs

-- 02, C-13: no call on any pool and register answers 8.
pub no-eight : NoEight
no-eight st c e = not_eight st c (refused-by st c (call st c) 8 (omega arith) (call-case st c) e)

-- Set up on a pool of N nodes, whatever its words and the register are, leaves that start; so the promise holds of every list of calls after it.
module _ (p : List ℕ) (r : Register) (N : ℕ) (lo : least_nodes ≤ N) (hi : N ≤ most_nodes) (size : length p ≡ N * node_words) where
  nodes-is : pool_nodes p ≡ N
  nodes-is = omega arith

  pub set-up : set_up (state p r) ≡ outcome ok (just_set_up N).index
  unfolding set_up
  set-up = rw (length-right (state p r) N lo hi (omega arith) nodes-is, nodes-is)

  pub promise-after-set-up : (cs : List Call) → PromiseFrom (after_set_up (state p r)) cs
  promise-after-set-up cs = rw (nodes-is, set-up) (promise N lo hi cs)

-- Two facts of every run from a sound start (runs: Facts), between the stores of a write too. With C-13: a slot at a replaced node is at a record
-- that was the plain list's at a moment of its reading.
-- each linked node has its ticket in the plain list
pub linked-ticket : (S : Start) → SoundStart S → (cs : List Call) (j m : ℕ) → word (index_after S cs j).pool m standing_word ≡ standing_linked → TicketAt S cs j m j
linked-ticket S h cs j m e = Facts.linked-ticket HandSide writer S (starts-sound S h) cs j m e

-- each node kept for a slot (linked, or retired with its bit) had its ticket at a moment of that slot's reading
pub kept-ticket : (S : Start) → SoundStart S → (cs : List Call) (κ : Kind) (s k i j m : ℕ) → Reading S cs κ s k i j → Kept (index_after S cs j).pool s m
    → (t : ℕ) × (i < t) × (t ≤ j) × TicketAt S cs j m t
kept-ticket S h cs κ s k i j m l e = Facts.kept-ticket HandSide writer S (starts-sound S h) cs κ s k i j m l e
