-- 02, C-13: a replacing store is the list store; and the sequential tree overwrites the record, with shape, keys and colours as they were. It holds
-- records whole (C-18: `wide`); 4,294,967,316 is 20 with the high word 1.
use Rattle.std.specs.Prelude.{ℕ, ◌≡◌, refl, true}
use Rattle.datatypes.specs.declared.Step.TheVariants.{Replace}
use Rattle.sequential.specs.Tree.{Colour, red, black, Tree, leaf, node, rel}
use Rattle.sequential.specs.Insert.{insert}
use Rattle.sequential.specs.Delete.{delete}
use Rattle.spec.specs.Turn.{profile, is_listed}

-- a node without children; keys 2 over 1 and 3; keys 2 over 1 and 4, which is red, over 3 and 5
abbrev one : Colour → ℕ → ℕ → Tree
one c k v = node c k v leaf leaf

abbrev three : ℕ → ℕ → ℕ → Tree
three u v w = node black 2 v (one red 1 u) (one red 3 w)

abbrev five : ℕ → ℕ → Tree
five v w = node black 2 20 (one black 1 10) (node red 4 v (one black 3 30) (one black 5 w))

-- keys 2 over 1 and 4, which is over two red ones, 3 and 5
abbrev nephews : ℕ → Tree
nephews v = node black 2 20 (one black 1 10) (node black 4 40 (one red 3 v) (one red 5 50))

pub record Overwrites : Type 0 where
  pub listed : is_listed (profile (Replace 5)).listing ≡ true
  pub only_key : insert (one black 2 20) 2 21 ≡ one black 2 21
  pub root : insert (three 10 20 30) 2 21 ≡ three 10 21 30
  pub left_leaf : insert (three 10 20 30) 1 11 ≡ three 11 20 30
  pub right_leaf : insert (three 10 20 30) 3 31 ≡ three 10 20 31
  pub red_inside : insert (five 40 50) 4 41 ≡ five 41 50
  pub third_level : insert (five 40 50) 5 51 ≡ five 40 51
  pub smaller_record : insert (three 10 20 30) 2 19 ≡ three 10 19 30
  pub right_child_only : insert (node black 1 10 leaf (one red 2 20)) 1 11 ≡ node black 1 11 leaf (one red 2 20)
  pub same_record : insert (three 10 20 30) 1 10 ≡ three 10 20 30
  pub red_root : insert (node red 2 20 (one red 1 10) leaf) 2 21 ≡ node red 2 21 (one red 1 10) leaf
  pub below_red_root : insert (node red 2 20 (one red 1 10) leaf) 1 11 ≡ node red 2 20 (one red 1 11) leaf
  pub wide_listed : is_listed (profile (Replace 4294967296)).listing ≡ true
  pub wide_first : insert leaf 2 18446744073709551615 ≡ one black 2 18446744073709551615
  pub wide_leaf : insert (one black 2 20) 1 4294967296 ≡ node black 2 20 (one red 1 4294967296) leaf
  pub wide_root : insert (three 10 20 30) 2 4294967316 ≡ three 10 4294967316 30
  pub wide_narrow : insert (three 10 4294967316 30) 2 20 ≡ three 10 20 30
  pub wide_left : insert (three 4294967306 4294967316 4294967326) 1 8589934602 ≡ three 8589934602 4294967316 4294967326
  pub wide_diag : insert (node black 2 4294967316 (one red 1 8589934602) leaf) 0 12884901888
      ≡ node black 1 8589934602 (one red 0 12884901888) (one red 2 4294967316)
  pub wide_zig : insert (node black 2 4294967316 (one red 0 8589934592) leaf) 1 12884901898
      ≡ node black 1 12884901898 (one red 0 8589934592) (one red 2 4294967316)
  pub wide_delete : delete (three 4294967306 4294967316 4294967326) 2 ≡ node black 3 4294967326 (one red 1 4294967306) leaf
  pub deep_delete : delete (nephews 4294967326) 2 ≡ node black 3 4294967326 (one black 1 10) (node black 4 40 leaf (one red 5 50))
  pub low_bits : insert (one black 10 100) 65546 101 ≡ node black 10 100 leaf (one red 65546 101)
  pub outer_first : delete (nephews 30) 1 ≡ node black 4 40 (node black 2 20 leaf (one red 3 30)) (one black 5 50)

pub overwrites : Overwrites
unfolding rel
overwrites =
    record {
      listed = refl;
      only_key = refl;
      root = refl;
      left_leaf = refl;
      right_leaf = refl;
      red_inside = refl;
      third_level = refl;
      smaller_record = refl;
      right_child_only = refl;
      same_record = refl;
      red_root = refl;
      below_red_root = refl;
      wide_listed = refl;
      wide_first = refl;
      wide_leaf = refl;
      wide_root = refl;
      wide_narrow = refl;
      wide_left = refl;
      wide_diag = refl;
      wide_zig = refl;
      wide_delete = refl;
      deep_delete = refl;
      low_bits = refl;
      outer_first = refl;
    }
