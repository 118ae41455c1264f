-- A pool of 1,023 nodes, the largest: each word at its largest, and one word past its range. The pool test of crate spec looks for each word from
-- the pool's start, which is too long to compute here; a test that goes over the words once is proved equal to it.
use Rattle.std.specs.Prelude.{ℕ, zero, suc, ◌+◌, ◌-◌, ◌*◌, ◌≡◌, refl, Bool, true, false, cond, ◌&&◌, List, [], ◌∷◌, ◌++◌, get_or, drop, replicate, eqb, leb}
use Rattle.std.proofs.Common.{arith, ne_eqb, get_or-drop, drop-drop}
use Rattle.base.specs.Walk.{all_from, all_in}
use Rattle.datatypes.specs.declared.Kind.TheVariants as kind
use Rattle.datatypes.specs.declared.Register.{Register}
use Rattle.spec.specs.Numbers.{node_words}
use Rattle.spec.specs.Pool.{word, nodes, node_in_range, pool_in_range, length_right, red_colour, standing_apart}
use Rattle.spec.specs.Pool.{left_word, right_word, colour_word, standing_word, next_word}
use Rattle.spec.specs.Register.{state, register_in_range, store_in_range}
use Rattle.spec.specs.Search.{seek}
use Rattle.spec.specs.Plan.{insert_plan, fixup_after_insert}
use Rattle.spec.specs.Calls.{Answer, ok, absent, refused, Call, inserting, deleting, writing, beginning, turning, giving_up, call}
use Rattle.spec.specs.Calls.{insert, delete, writer_turn, begin, reader_turn, reader_step, give_up}
use Rattle.table.specs.Picture.{reads, idle, none}

-- p begins with a node in range, of a pool of so many nodes
abbrev head_in_range : ℕ → List ℕ → Bool
head_in_range capacity p =
    leb (get_or p left_word 0) capacity && leb (get_or p right_word 0) capacity
    && (leb (get_or p colour_word 0) red_colour && leb (get_or p standing_word 0) standing_apart)
    && leb (get_or p next_word 0) capacity

-- and so do the k nodes that it begins with
unfoldable pub words_in_range : ℕ → ℕ → List ℕ → Bool
words_in_range capacity zero p = true
words_in_range capacity (suc k) p = cond (head_in_range capacity p) (words_in_range capacity k (drop node_words p)) false

-- node n + 1 begins after the words of n nodes
head-right : (p : List ℕ) (capacity n : ℕ) → node_in_range p capacity (n + 1) ≡ head_in_range capacity (drop (n * node_words) p)
unfolding node_in_range word
head-right p capacity n =
    let a : (n + 1) * node_words - node_words ≡ n * node_words = omega arith in
    let b : eqb (n + 1) 0 ≡ false = ne_eqb (n + 1) 0 (omega arith) in
    rw (b, a) (simp get_or-drop)

words_right : (p : List ℕ) (capacity k n : ℕ) → all_from (node_in_range p capacity) k (n + 1) ≡ words_in_range capacity k (drop (n * node_words) p)
unfolding all_from words_in_range
words_right p capacity zero n = refl
words_right p capacity (suc k) n =
    let a : n * node_words + node_words ≡ (n + 1) * node_words = omega arith in
    rw (head-right p capacity n, words_right p capacity k (n + 1), drop-drop node_words (n * node_words) p, a)

pub pool-right : (p : List ℕ) → pool_in_range p ≡ words_in_range (nodes p) (nodes p) p
unfolding pool_in_range all_in
pool-right p =
    let a : nodes p + 1 - 1 ≡ nodes p = omega arith in
    rw a (words_right p (nodes p) (nodes p) 0)

-- 1,023 nodes with every word at its largest, but that the next free of the last node is as given
abbrev node : ℕ → List ℕ
node next = 4294967295 ∷ 4294967295 ∷ 4294967295 ∷ 1023 ∷ 1023 ∷ 1 ∷ 3 ∷ 4294967295 ∷ next ∷ []

abbrev nodes_before : ℕ → List ℕ → List ℕ
nodes_before zero p = p
nodes_before (suc k) p = node 1023 ++ nodes_before k p

unfoldable pub large_pool : ℕ → List ℕ
large_pool next = nodes_before 1022 (node next)

-- an empty tree, every other number of the register at its largest; slot 31 reads and has loaded no node
abbrev pub large_register : Register
large_register =
    record {
      root = 0;
      first = 1023;
      last = 1023;
      free = 1023;
      held = 1018;
      readers = replicate 31 (idle 5 1023) ++ reads 5 0 ∷ [];
      awaited = 4294967295;
      write = record { stores = replicate 7 none; count = 0 };
    }

pool-length : (next : ℕ) → length_right (large_pool next) ≡ true
unfolding length_right large_pool
pool-length next = refl

pool-nodes : (next : ℕ) → nodes (large_pool next) ≡ 1023
unfolding large_pool
pool-nodes next = refl

fits : pool_in_range (large_pool 1023) ≡ true
unfolding large_pool words_in_range
fits = pool-right (large_pool 1023)

fails : pool_in_range (large_pool 1024) ≡ false
unfolding large_pool words_in_range
fails = pool-right (large_pool 1024)

-- the last node, which slot 0 names, is in range or not; no node is
last_fits : node_in_range (large_pool 1023) 1023 1023 ≡ true
unfolding large_pool
last_fits = head-right (large_pool 1023) 1023 1022

last-fails : node_in_range (large_pool 1024) 1023 1023 ≡ false
unfolding large_pool
last-fails = head-right (large_pool 1024) 1023 1022

none-fits : (p : List ℕ) → node_in_range p 1023 0 ≡ true
unfolding node_in_range word
none-fits p = refl

-- the seven calls that test the pool, a reader's turn twice, each on this register, and their answers
abbrev pub eight_calls : List Call
eight_calls = inserting 5 50 ∷ deleting 5 ∷ writing ∷ beginning kind.Lookup 0 5 ∷ beginning kind.Next 0 5 ∷ turning 31 ∷ turning 0 ∷ giving_up 31 ∷ []

abbrev pub answers_on : List ℕ → List Call → List Answer
answers_on p [] = []
answers_on p (c ∷ cs) = (call (state p large_register) c).answer ∷ answers_on p cs

abbrev pub when_fit : List Answer
when_fit = ok ∷ refused 9 ∷ refused 7 ∷ ok ∷ ok ∷ absent ∷ refused 5 ∷ ok ∷ []

abbrev pub when_past : List Answer
when_past = refused 2 ∷ refused 2 ∷ refused 2 ∷ refused 2 ∷ refused 2 ∷ absent ∷ refused 2 ∷ refused 2 ∷ []

answers-fit : (p : List ℕ) → length_right p ≡ true → pool_in_range p ≡ true → nodes p ≡ 1023 → node_in_range p 1023 1023 ≡ true → answers_on p eight_calls ≡ when_fit
unfolding register_in_range store_in_range all_from all_in seek insert_plan fixup_after_insert word insert delete writer_turn begin reader_turn reader_step give_up
answers-fit p a b c d = rw (a, b, c, d, none-fits p)

answers-past : (p : List ℕ) → length_right p ≡ true → pool_in_range p ≡ false → nodes p ≡ 1023 → node_in_range p 1023 1023 ≡ false → answers_on p eight_calls ≡ when_past
unfolding register_in_range store_in_range all_from all_in insert delete writer_turn begin reader_turn reader_step give_up
answers-past p a b c d = rw (a, b, c, d, none-fits p)

-- every word at its largest is accepted; one past it gives 2, but for the turn of a slot that names no node
pub record LargePasses : Type 0 where
  pub largest : answers_on (large_pool 1023) eight_calls ≡ when_fit
  pub past : answers_on (large_pool 1024) eight_calls ≡ when_past

pub large-passes : LargePasses
large-passes =
    record {
      largest = answers-fit (large_pool 1023) (pool-length 1023) fits (pool-nodes 1023) last_fits;
      past = answers-past (large_pool 1024) (pool-length 1024) fails (pool-nodes 1024) last-fails;
    }
