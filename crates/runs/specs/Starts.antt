-- A sound start (promise: Starts) has the readers' side of the invariant and is in range.
use Rattle.std.specs.Prelude.{ℕ, ◌≡◌, refl, List}
use Rattle.std.proofs.Common.{sym, ◌∙◌, arith}
use Rattle.std.proofs.lemmas.Bool.{false≢true}
use Rattle.spec.specs.Numbers.{slots}
use Rattle.spec.specs.Pool.{nodes, word, child, standing_word, holders_word}
use Rattle.spec.specs.Register.{State}
use Rattle.spec.specs.FreeQueue.{InPool, Whole}
use Rattle.promise.specs.Run.{Start}
use Rattle.promise.specs.Starts.{SoundStart}
use Rattle.promise.specs.Demands.{arrived, FreeRight}
use Rattle.laws.specs.Reading.{ReadingOnly, only_none}
use Rattle.readers.specs.Words.{node_in_lem, node-high}
use Rattle.readers.specs.QueueExact.{QueueExact}
use Rattle.readers.specs.Reach.{leads-on}
use Rattle.readers.specs.Owned.{Good}
use Rattle.readers.specs.Safe.{Safe}
use Rattle.ranges.specs.Calls.{Ranged}
use Rattle.ranges.specs.Tests.{ranged-of}

-- The free queue, as the statements and as the invariant say it.
pub exact-right : (st : State) (l : List ℕ) → QueueExact st l → FreeRight st
exact-right st l z = record {
  queue = l;
  queued = z.queued;
  once = z.once;
  standing = λ n. (
    λ i. (let a = (z.standing n).0 i in (a.0.low, node-high st.pool n a.0, a.1)),
    λ a. (z.standing n).1 (node_in_lem st.pool n a.0 a.1, a.2),
  );
  counted = z.counted;
}

right-exact : (st : State) (h : FreeRight st) → QueueExact st h.queue
right-exact st h = record {
  queued = h.queued;
  once = h.once;
  standing = λ n. (
    λ i. (let a = (h.standing n).0 i in (node_in_lem st.pool n a.0 a.1, a.2)),
    λ a. (h.standing n).1 (a.0.low, node-high st.pool n a.0, a.1),
  );
  counted = h.counted;
}

module _ (S : Start) (h : SoundStart S) where
  abbrev p : List ℕ
  p = S.index.pool

  size : nodes p ≡ S.size
  size = let a = h.words in omega arith

  whole : Whole p
  whole = let a = h.words in let b = size in omega arith

  pub ranged-start : Ranged S.size S.index
  ranged-start = ranged-of S.size S.index size whole h.per_slot h.idle h.in_range

  good : (n : ℕ) → InPool p n → Good S.index.register.readers (word p n standing_word) (word p n holders_word)
  good n hn =
      let a = (ranged-start.within.fits n standing_word (omega arith)).standing refl in
      record { rank = a; holder = λ e. absurd (h.unretired n e); held = λ e. absurd (h.unretired n e) }

  awaited : ReadingOnly slots S.index.register.readers S.index.register.awaited
  awaited = rw h.unawaited (only_none slots S.index.register.readers)

  pub safe-start : Safe S.index
  safe-start = record {
    whole = whole;
    queue = h.free.queue;
    owned = record { exact = right-exact S.index h.free; good = good; awaited = awaited; per_slot = h.per_slot };
    closed = record {
      linked = λ n z e d. (h.linked (child p z n)).1 (leads-on p S.index.register.root n z ((h.linked n).0 e) d);
      retired = λ n z e. absurd (h.unretired n e);
    };
    root = λ d. (h.linked S.index.register.root).1 (arrived S.index.register.root d);
    at = λ s u e d. absurd (false≢true (sym (h.quiet s u) ∙ e));
  }
