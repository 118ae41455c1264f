-- An index just set up is a sound start: every node stands free and is queued in order, the tree is empty.
use Prim.Native.Nat.{ℕ, zero, suc, ◌+◌, ◌-◌, ◌*◌, ◌<◌, ◌≤◌}
use Rattle.std.specs.Prelude.{◌≡◌, refl, List, length, get_or, replicate}
use Rattle.std.proofs.Math.Path.{sym, ap, subst}
use Rattle.std.proofs.Common.{◌∙◌, ne_eqb, lt-ltb, le-ltb}
use native.Mathlib.Omega.{arith}
use Rattle.std.proofs.Math.Decide.{ℕ_discrete, dec_le, dec_lt}
use Rattle.base.specs.Lists.{numbers_from, numbers-length, numbers-in, numbers-distinct, get_d_past, get_d-same}
use Rattle.spec.specs.Numbers.{node_words, least_nodes, most_nodes, slots}
use Rattle.spec.specs.Pool.{place, word, next_word, standing_word, fresh_pool}
use Rattle.spec.specs.Register.{no_reader, fresh, fresh_register}
use Rattle.tree.specs.Changes.{proper-leaf}
use Rattle.promise.specs.Run.{just_set_up}
use Rattle.promise.specs.Demands.{Leads}
use Rattle.laws.specs.Words.{word_at, word_none}
use Rattle.laws.specs.Fresh.{fresh_word, fresh-length, fresh-word}
use Rattle.spec.specs.FreeQueue.{Chain, last_of}
use Rattle.readers.specs.Words.{node_in_lem, node-high}
use Rattle.readers.specs.QueueExact.{QueueExact}
use Rattle.readers.specs.Reach.{leads-there}
use Rattle.ranges.specs.Fits.{WordOk, PoolOk, fit-zero, fit_next}
use Rattle.ranges.specs.Writes.{write-none}
use Rattle.ranges.specs.Calls.{Ranged, ranged-in}
use Rattle.promise.specs.Starts.{SoundStart}
use Rattle.runs.specs.Starts.{exact-right}

numbers-last : (k n : ℕ) → last_of (numbers_from (suc k) n) ≡ n + k
numbers-last zero n = omega arith
numbers-last (suc k) n = numbers-last k (n + 1) ∙ omega arith

module _ (N : ℕ) (lo : least_nodes ≤ N) where
  abbrev pub p : List ℕ
  p = fresh_pool N

  size : length p ≡ N * node_words
  unfolding fresh_pool
  size = fresh-length N 1

  -- word f of node n
  node-word : (n f : ℕ) → 1 ≤ n → n ≤ N → f < node_words → word p n f ≡ fresh_word N 1 (n - 1) f
  unfolding fresh_pool
  node-word n f a b u =
      let e : place n f ≡ (n - 1) * node_words + f = omega arith in
      word_at p n f a ∙ rw e (fresh-word N 1 (n - 1) f (omega arith) u)

  past-last : (n f : ℕ) → N < n → word p n f ≡ 0
  past-last n f u = word_at p n f (omega arith) ∙ get_d_past 0 p (place n f) (let z = size in omega arith)

  pub word_low : (n f : ℕ) → f < next_word → word p n f ≡ 0
  word_low n f u = elim (ℕ_discrete n 0) [
    | yes e ↦ rw (e, word_none p f)
    | no d ↦ elim (dec_le n N) [
      | yes v ↦ node-word n f (omega arith) v (omega arith) ∙ rw (ne_eqb f next_word (omega arith))
      | no v ↦ past-last n f (omega arith)
    ]
  ]

  word_next : (n : ℕ) → 1 ≤ n → n < N → word p n next_word ≡ n + 1
  word_next n a b = node-word n next_word a (omega arith) (omega arith) ∙ rw (lt-ltb (suc (n - 1)) N (omega arith)) (omega arith)

  word-last : word p N next_word ≡ 0
  word-last = node-word N next_word (omega arith) (omega arith) (omega arith) ∙ rw (le-ltb (suc (N - 1)) N (omega arith))

  chain-numbers : (k n : ℕ) → 1 ≤ n → n + k ≡ N → Chain p n (numbers_from (suc k) n)
  chain-numbers zero n a e = (refl, node_in_lem p n a (let z = size in omega arith), (let i : n ≡ N = omega arith in rw i word-last))
  chain-numbers (suc k) n a e = (refl, node_in_lem p n a (let z = size in omega arith), rw (word_next n a (omega arith)) (chain-numbers k (n + 1) (omega arith) (omega arith)))

  exact : QueueExact (fresh N) (numbers_from N 1)
  unfolding fresh fresh_register
  exact =
      let z = size in
      let i : suc (N - 1) ≡ N = omega arith in
      record {
        queued = record {
          chain = subst (λ m. Chain p 1 (numbers_from m 1)) i (chain-numbers (N - 1) 1 (omega arith) (omega arith));
          last = sym (subst (λ m. last_of (numbers_from m 1) ≡ N) i (numbers-last (N - 1) 1 ∙ omega arith));
        };
        once = numbers-distinct N 1;
        standing = λ n. (
          λ j. (let a = (numbers-in N 1 n).0 j in (node_in_lem p n a.0 (let b = a.1 in omega arith), word_low n standing_word (omega arith))),
          λ a. (numbers-in N 1 n).1 (a.0.low, (let b = node-high p n a.0 in omega arith)),
        );
        counted = sym (numbers-length N 1);
      }

  quiet : (s : ℕ) → get_or (replicate slots no_reader) s no_reader ≡ no_reader
  quiet s = get_d-same no_reader slots s

  -- it is in range
  next_low : (n : ℕ) → word p n next_word ≤ N
  next_low n = elim (ℕ_discrete n 0) [
    | yes e ↦ rw (e, word_none p next_word) (omega arith)
    | no d ↦ elim (ℕ_discrete n N) [
      | yes e ↦ rw (e, word-last) (omega arith)
      | no c ↦ elim (dec_lt n N) [
        | yes u ↦ rw (word_next n (omega arith) u) (omega arith)
        | no u ↦ rw (past-last n next_word (omega arith)) (omega arith)
      ]
    ]
  ]

  fits : PoolOk N p
  fits n f u = elim (dec_lt f next_word) [
    | yes v ↦ rw (word_low n f v) (fit-zero N f)
    | no v ↦ (let e : next_word ≡ f = omega arith in subst (λ g. WordOk N g (word p n g)) e (fit_next N (word p n next_word) (next_low n)))
  ]

  ranged-fresh : Ranged N (fresh N)
  unfolding fresh fresh_register
  ranged-fresh = record {
    within = record {
      size = (let z = size in omega arith);
      fits = fits;
      root = omega arith;
      first = omega arith;
      last = omega arith;
      free = omega arith;
      held = omega arith;
      readers = λ s. rw (ap (λ x. x.node) (quiet s)) (omega arith);
    };
    write = write-none N;
  }

  -- no node is reached from the root, and none stands linked or retired
  unreached : (n : ℕ) → ¬ (Leads p 0 n)
  unreached n l = leads-there p 0 n l refl

  pub sound-fresh : N ≤ most_nodes → SoundStart (just_set_up N)
  unfolding fresh fresh_register
  sound-fresh hi = record {
    least = lo;
    most = hi;
    words = size;
    in_range = ranged-in N (fresh N) ranged-fresh;
    per_slot = refl;
    quiet = λ s u. ap (λ x. x.reading) (quiet s);
    unawaited = refl;
    idle = refl;
    stands = refl;
    proper = proper-leaf;
    linked = λ n. (λ e. (let a = word_low n standing_word (omega arith) in absurd (omega arith)), λ l. absurd (unreached n l));
    unretired = λ n e. (let a = word_low n standing_word (omega arith) in omega arith);
    unapart = λ n e. (let a = word_low n standing_word (omega arith) in omega arith);
    free = exact-right (fresh N) (numbers_from N 1) exact;
    told = λ k. refl;
    once = tt;
    held = refl;
  }
