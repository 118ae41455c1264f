-- 01, 'Examples': the lines that T adds.
use Rattle.std.specs.Prelude.{ℕ, zero, suc, ◌≡◌, cond, List, [], ◌∷◌, ◌++◌, map, eqb}
use Rattle.std.proofs.Common.{append_assoc}
use Rattle.spec.specs.Pool.{word, key_word, record_at, colour_word, left_word, right_word, standing_word, standing_linked, nodes}
use Rattle.texts.specs.Ascii.{tab, text}
use Rattle.texts.specs.Decimal.{digits, decimal, twenty-digits}
use Rattle.texts.specs.Line.{line}
use Rattle.texts.specs.Put.{Put, put_as, put_both}

-- T's line of a node of the pool: node, key, record, colour, left, right
unfoldable pub node_line : List ℕ → ℕ → List ℕ
node_line p n =
    line (map decimal (n ∷ word p n key_word ∷ record_at p n ∷ word p n colour_word ∷ word p n left_word ∷ word p n right_word ∷ []))

-- a line for each linked node
unfoldable pub node_shown : List ℕ → ℕ → List ℕ
node_shown p n = cond (eqb (word p n standing_word) standing_linked) (node_line p n) []

-- those of k nodes, from node n on
unfoldable pub shown_from : List ℕ → (n k : ℕ) → List ℕ
shown_from p n zero = []
shown_from p n (suc k) = node_shown p n ++ shown_from p (suc n) k

-- T's lines: 'a line for each linked node in rising number'
unfoldable pub nodes_shown : List ℕ → List ℕ
nodes_shown p = shown_from p 1 (nodes p)

-- Worked lines, checked by computation: a node with a record of each word alone and of both (02, C-18), a free one, a retired one and one made
-- apart (C-24).
abbrev node : (key low high left right colour standing : ℕ) → List ℕ
node k v w l r c s = k ∷ v ∷ w ∷ l ∷ r ∷ c ∷ s ∷ 0 ∷ 0 ∷ []

wide-lines :
    nodes_shown (node 7 8 0 2 3 0 1 ++ (node 5 0 1 0 0 1 1 ++ (node 9 4294967295 4294967295 1 4 1 1 ++ (node 1 2 3 0 0 0 0 ++ (node 1 2 3 0 0 0 2 ++ node 1 2 3 0 0 0 3)))))
    ≡ text "1\t7\t8\t0\t2\t3\n2\t5\t4294967296\t1\t0\t0\n3\t9\t18446744073709551615\t1\t1\t4\n"
unfolding word record_at digits node_line node_shown shown_from nodes_shown
wide-lines = simp twenty-digits

-- six fields, three at a time
pub put_six : (f g h : List ℕ) {a b c t : List ℕ} {i j k : ℕ}
    → Put a i (f ++ (tab ∷ (g ++ (tab ∷ (h ++ (tab ∷ [])))))) b j → Put b j t c k → Put a i (f ++ (tab ∷ (g ++ (tab ∷ (h ++ (tab ∷ t)))))) c k
put_six f g h p q = put_as (simp append_assoc) (put_both p q)
