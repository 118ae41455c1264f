-- An index with no write in hand that passes test 2 is in range, word by word: the other way than `ranged-in`. Used for a run's start.
use Rattle.std.specs.Prelude.{ℕ, ◌+◌, ◌≡◌, Bool, true, false, ◌&&◌, List, leb, length}
use Rattle.std.proofs.Common.{subst, arith, leb-true}
use Rattle.std.proofs.Math.Decide.{ℕ_discrete, dec_le, dec_lt}
use Rattle.std.proofs.lemmas.Bool.{not-false}
use Rattle.base.specs.Lists.{get_d_past}
use Rattle.base.specs.Walk.{all_in, all_in_lem}
use Rattle.spec.specs.FreeQueue.{Whole}
use Rattle.spec.specs.Numbers.{slots, most_stores}
use Rattle.spec.specs.Pool.{place, word, nodes, left_word, right_word, colour_word, standing_word, node_in_range, pool_in_range}
use Rattle.spec.specs.Register.{State, no_reader, no_write, reader_in_range, register_in_range}
use Rattle.spec.specs.Calls.{out_of_range}
use Rattle.laws.specs.Words.{word_none, word_at}
use Rattle.laws.specs.Tests.{and_left, and_right}
use Rattle.ranges.specs.Fits.{WordOk, PoolOk, fit-zero}
use Rattle.ranges.specs.Writes.{write-none}
use Rattle.ranges.specs.Calls.{Ranged}

both : (a b : Bool) → (a && b) ≡ true → (a ≡ true) × (b ≡ true)
both a b e = (and_left a b e, and_right a b e)

-- a node's words
node-fits : (N : ℕ) (p : List ℕ) (n f : ℕ) → node_in_range p N n ≡ true → WordOk N f (word p n f)
unfolding node_in_range
node-fits N p n f e =
    let a = both (leb (word p n left_word) N && leb (word p n right_word) N && (leb (word p n colour_word) 1 && leb (word p n standing_word) 3)) _ e in
    let b = both (leb (word p n left_word) N && leb (word p n right_word) N) _ a.0 in
    let c = both (leb (word p n left_word) N) _ b.0 in
    let d = both (leb (word p n colour_word) 1) _ b.1 in
    record {
      left = λ i. rw i (leb-true _ N c.0);
      right = λ i. rw i (leb-true _ N c.1);
      colour = λ i. rw i (leb-true _ 1 d.0);
      standing = λ i. rw i (leb-true _ 3 d.1);
      next = λ i. rw i (leb-true _ N a.1);
    }

-- no node, and nodes past the last, have words 0
pool-fits : (p : List ℕ) → Whole p → pool_in_range p ≡ true → PoolOk (nodes p) p
unfolding pool_in_range
pool-fits p w e n f u = elim (ℕ_discrete n 0) [
  | yes z ↦ rw (z, word_none p f) (fit-zero (nodes p) f)
  | no d ↦ elim (dec_le n (nodes p)) [
    | yes v ↦ node-fits (nodes p) p n f (all_in_lem (node_in_range p (nodes p)) 1 (nodes p + 1) e n (omega arith) (omega arith))
    | no v ↦ rw (word_at p n f (omega arith), get_d_past 0 p (place n f) (omega arith)) (fit-zero (nodes p) f)
  ]
]

pub ranged-of : (N : ℕ) (st : State) → nodes st.pool ≡ N → Whole st.pool → length st.register.readers ≡ slots → st.register.write ≡ no_write
    → out_of_range st ≡ false → Ranged N st
unfolding register_in_range
ranged-of N st size whole per_slot idle e =
    let r = st.register in
    let h = both (pool_in_range st.pool) _ (not-false _ e) in
    let g = rw size at h.1 in
    let a = both (leb r.root N && leb r.first N && leb r.last N && (leb r.free N && leb r.held N)) _ g in
    let b = both (leb r.root N && leb r.first N && leb r.last N) _ a.0 in
    let c = both (leb r.root N && leb r.first N) _ b.0 in
    let d = both (leb r.root N) _ c.0 in
    let k = both (leb r.free N) _ b.1 in
    let l = both (leb r.write.count most_stores && all_in (reader_in_range N r) 0 slots) _ a.1 in
    let m = both (leb r.write.count most_stores) _ l.0 in
    record {
      within = record {
        size = size;
        fits = subst (λ n. PoolOk n st.pool) size (pool-fits st.pool whole h.0);
        root = leb-true _ N d.0;
        first = leb-true _ N d.1;
        last = leb-true _ N c.1;
        free = leb-true _ N k.0;
        held = leb-true _ N k.1;
        readers = λ s. elim (dec_lt s slots) [
          | yes u ↦ leb-true _ N (all_in_lem (reader_in_range N r) 0 slots m.1 s (omega arith) u)
          | no u ↦ rw (get_d_past no_reader r.readers s (omega arith)) (omega arith)
        ];
      };
      write = rw idle (write-none N);
    }
