-- 02, C-24: a node made apart is linked, by its place in the pool; any other is left as it is. Nothing cites it; it says which word changes.
use Rattle.std.specs.Prelude.{ℕ, ◌≤◌, ◌≡◌, ◌≢◌, List, get_or, set}
use Rattle.std.proofs.Common.{sym, ◌∙◌, eq-eqb, ne_eqb}
use Rattle.spec.specs.Pool.{place, word, standing_word, standing_linked, standing_apart}
use Rattle.spec.specs.Bulk.{link_apart}
use Rattle.laws.specs.Words.{word_at, set_at}

pub apart-linked : (p : List ℕ) (n : ℕ) → 1 ≤ n → get_or p (place n standing_word) 0 ≡ standing_apart → link_apart p n ≡ set p (place n standing_word) standing_linked
unfolding link_apart
apart-linked p n h e = rw (eq-eqb (word p n standing_word) standing_apart (word_at p n standing_word h ∙ e)) (set_at p n standing_word standing_linked h)

pub apart-kept : (p : List ℕ) (n : ℕ) → 1 ≤ n → get_or p (place n standing_word) 0 ≢ standing_apart → link_apart p n ≡ p
unfolding link_apart
apart-kept p n h d = rw (ne_eqb (word p n standing_word) standing_apart (λ e. d (sym (word_at p n standing_word h) ∙ e)))
