-- A text put a byte at a time. Nothing cites it; it says that the whole text is put so.
use Rattle.std.specs.Prelude.{ℕ, ◌+◌, ◌<◌, ◌≤◌, ◌≡◌, List, length, take, get_or, set}
use Rattle.std.proofs.Common.{add-one, arith, take-suc, take_all}
use Rattle.texts.specs.Put.{Put, put_as, put_both, put_byte}

-- one byte more; all
module _ (a : List ℕ) (i : ℕ) (s b : List ℕ) (k : ℕ) where
  pub put_next : k < length s → i + k < length b → Put a i (take k s) b (i + k)
      → Put a i (take (k + 1) s) (set b (i + k) (get_or s k 0)) (i + (k + 1))
  put_next g h p =
      let e : i + (k + 1) ≡ i + k + 1 = omega arith in
      rw (e, add-one k, take-suc s k 0 g) (put_both p (put_byte b (i + k) (get_or s k 0) h))

  pub put_all : length s ≤ k → Put a i (take k s) b (i + k) → Put a i s b (i + k)
  put_all h p = put_as (take_all k s h) p
