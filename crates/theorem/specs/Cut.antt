-- A run may be cut where it rests: with no write in hand and no slot reading, what stands there is a sound start again. So `SoundStart` asks
-- no more than every such moment has. For C-19 (an index given to another line) and C-22 (runs from equal starts).
use Rattle.std.specs.Prelude.{ℕ, ◌<◌, ◌≡◌, false, not, List, [], ◌∷◌, eqb, length}
use Rattle.std.proofs.Common.{sym, ap, ◌∙◌, arith, ne_eqb}
use Rattle.std.proofs.lemmas.Bool.{false≢true}
use Rattle.datatypes.specs.declared.Store.{Store}
use Rattle.sequential.specs.Tree as Seq
use Rattle.sequential.specs.Delete.{changed_by}
use Rattle.spec.specs.Numbers.{slots}
use Rattle.spec.specs.Register.{State, no_write}
use Rattle.spec.specs.Calls.{Call, reading, write_in_hand}
use Rattle.spec.specs.PlainList.{Plain, accepted_writes}
use Rattle.tree.specs.Changes.{changed_by-proper}
use Rattle.tree.specs.Linked.{Linked}
use Rattle.tree.specs.Erase.{erase-find}
use Rattle.heap.specs.Colours.{colours}
use Rattle.heap.specs.Writes.{InHand, write-count}
use Rattle.promise.specs.Run.{Start, index_after, plain_after, tickets_after}
use Rattle.ranges.specs.Calls.{ranged-in}
use Rattle.promise.specs.Starts.{SoundStart}
use Rattle.runs.specs.Rest.{none-awaited}
use Rattle.runs.specs.Standings.{none-retired}
use Rattle.runs.specs.Theorem.{sound-at}
use Rattle.runs.specs.Whole as Whole
use Rattle.theorem.specs.WriterSide.{seq_of, WriterSide}
use Rattle.theorem.specs.Rests.{resting}
use Rattle.theorem.specs.Starts.{none-in-hand}
use Rattle.theorem.specs.Lists.{HandSide}
use Rattle.theorem.specs.Theorem.{writer, completes, rest-side, starts-sound, promise-from}

no_write_lem : (st : State) (x : Plain) (T : Linked) → WriterSide st x T → write_in_hand st ≡ false → st.register.write ≡ no_write
no_write_lem st x T h e = go h.stores h.hand
  where
    go : (l : List Store) → InHand st (seq_of x) T l → st.register.write ≡ no_write
    go [] i = i.write ∙ none-in-hand
    go (a ∷ l) i =
        absurd (let z : not (eqb (length (a ∷ l)) 0) ≡ false = rw (i.write, write-count (a ∷ l)) at e in false≢true (sym (rw (ne_eqb (length (a ∷ l)) 0 (omega arith)) at z)))

module _ (S : Start) (h : SoundStart S) (cs : List Call) (j : ℕ) where
  -- what stands after j calls
  abbrev pub cut_at : Start
  cut_at = record { size = S.size; index = index_after S cs j; tree = changed_by S.tree (accepted_writes (plain_after S cs j)); tickets = tickets_after S cs j }

  pub sound-cut : write_in_hand (index_after S cs j) ≡ false → ((s : ℕ) → s < slots → reading (index_after S cs j) s ≡ false) → SoundStart cut_at
  sound-cut idle quiet =
      let st = index_after S cs j in
      let x = plain_after S cs j in
      let sound = sound-at HandSide writer S (starts-sound S h) cs j in
      let ranged = Whole.ranged HandSide writer completes S (starts-sound S h) cs j in
      let safe = sound.safe in
      let T = sound.tree in
      let k = rest-side st x T sound.holds idle in
      let same : seq_of x ≡ changed_by S.tree (accepted_writes x) = ap (λ t. changed_by t (accepted_writes x)) (Whole.started HandSide writer completes S (starts-sound S h) cs j) in
      let all = (promise-from S h cs).demand2 in
      record {
        least = h.least;
        most = h.most;
        words = let a = safe.whole in let b = ranged.within.size in omega arith;
        in_range = ranged-in S.size st ranged;
        per_slot = safe.owned.per_slot;
        quiet = quiet;
        unawaited = none-awaited st safe (λ s u e. quiet s u);
        idle = no_write_lem st x T k idle;
        stands = all.at_rest j idle;
        proper = changed_by-proper S.tree (accepted_writes x) h.proper;
        linked = all.linked j;
        unretired = none-retired st safe quiet k.unapart;
        unapart = k.unapart;
        free = all.free j;
        told = λ q. sym (k.finds q) ∙ sym (erase-find (colours st.pool) T q) ∙ ap (λ t. Seq.find t q) ((resting st x T k idle).tree ∙ same);
        once = k.unique;
        held = k.held;
      }
