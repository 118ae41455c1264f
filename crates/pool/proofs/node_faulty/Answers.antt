use Prim.Native.Nat.{ℕ, ◌+◌, ◌-◌, ◌*◌}
use lib.ListN.{get_or}
use Rattle.pool.specs.Faults.{five}
use Rattle.laws.specs.Words.{word_at}
use Rattle.spec.specs.Numbers.{node_words}
use Rattle.spec.specs.Pool.{node_in_range, left_word, right_word, colour_word, standing_word, next_word, red_colour, standing_apart}
use Rattle.pool.proofs.node_faulty.Goals as goal

pub returns : goal.returns
unfolding node_in_range
returns c =
    let l = c.requires.low in
    let g : ℕ → ℕ = λ f. get_or c.args.pool.now (c.args.n * node_words - node_words + f) 0 in
    let top = c.args.capacity in
    rw (word_at _ _ left_word l, word_at _ _ right_word l, word_at _ _ colour_word l, word_at _ _ standing_word l, word_at _ _ next_word l)
    (five (g left_word) (g right_word) (g colour_word) (g standing_word) (g next_word) top top red_colour standing_apart top)
