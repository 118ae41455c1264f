-- Worked pages, checked by computation.
use Rattle.std.specs.Prelude.{ℕ, zero, suc, ◌+◌, ◌*◌, ◌≡◌, refl, List, [], ◌∷◌, ◌++◌, take, drop, replicate}
use Rattle.spec.specs.Pool.{word, record_at, fresh_nodes, fresh_pool}
use Rattle.texts.specs.Ascii.{text}
use Rattle.texts.specs.Decimal.{digits, decimal, twenty-digits}
use Rattle.texts.specs.Column.{right_in}
use Rattle.page_order.specs.Listed.{before, with_node, listed_to, listed}
use Rattle.page_order.specs.Large.{large_pool}
use Rattle.page_order.proofs.Large.{large-listed}
use Rattle.page.specs.Page.{column, columns, head_line, page_line, page_lines, page}

head : List ℕ
head = text "node         key                record  c  left  righ\n"

-- a node of the pool by the two words of its record, low and high, with holders and next free 0; and with the high word 0
abbrev wide : (key low high left right colour standing : ℕ) → List ℕ
wide k v w l r c s = k ∷ v ∷ w ∷ l ∷ r ∷ c ∷ s ∷ 0 ∷ 0 ∷ []

abbrev node : (key value left right colour standing : ℕ) → List ℕ
node k v l r c s = wide k v 0 l r c s

free : List ℕ
free = node 0 0 0 0 0 0

-- an empty index: the head alone
empty-page : page (fresh_pool 8) ≡ head
unfolding head word record_at fresh_nodes fresh_pool listed_to listed right_in column columns head_line page_lines page
empty-page = refl

-- 01's worked example after call 14: three nodes
three : List ℕ
three = free ++ (free ++ (node 2 20 4 5 0 1 ++ (node 1 10 0 0 1 1 ++ (node 3 30 0 0 1 1 ++ (free ++ (free ++ free))))))

three-page : page three
    ≡ head
    ++ (text "   4           1                    10  R     0     0\n"
    ++ (text "   3           2                    20  B     4     5\n"
    ++ text "   5           3                    30  R     0     0\n"))
unfolding head free three word record_at digits decimal before with_node listed_to listed right_in column columns head_line page_line page_lines page
three-page = refl

-- keys rise, whatever the nodes' numbers; retired and free nodes and those made apart have no line; red nodes with children, on one side and on both
mixed-page : page (node 7 1 4 0 1 1 ++ (node 5 2 0 0 0 2 ++ (node 6 3 0 0 0 0 ++ (node 4 4 1 5 1 1 ++ (node 9 5 0 1 0 1 ++ node 8 6 0 0 0 3)))))
    ≡ head
    ++ (text "   4           4                     4  R     1     5\n"
    ++ (text "   1           7                     1  R     4     0\n"
    ++ text "   5           9                     5  B     0     1\n"))
unfolding head word record_at digits decimal before with_node listed_to listed right_in column columns head_line page_line page_lines page
mixed-page = refl

-- equal keys stand in rising node, whatever record and colour
equal-page : page (node 8 3 0 0 0 1 ++ (node 8 7 0 0 1 1 ++ (node 5 2 0 0 0 1 ++ (node 8 1 0 0 0 1 ++ node 2 7 0 0 0 1))))
    ≡ head
    ++ (text "   5           2                     7  B     0     0\n"
    ++ (text "   3           5                     2  B     0     0\n"
    ++ (text "   1           8                     3  B     0     0\n"
    ++ (text "   2           8                     7  R     0     0\n"
    ++ text "   4           8                     1  B     0     0\n"))))
unfolding head word record_at digits decimal before with_node listed_to listed right_in column columns head_line page_line page_lines page
equal-page = refl

-- the narrowest values and the widest
wide-page : page (node 0 0 0 0 0 1 ++ wide 4294967295 4294967295 4294967295 1023 1022 1 1)
    ≡ head
    ++ (text "   1           0                     0  B     0     0\n"
    ++ text "   2  4294967295  18446744073709551615  R  1023  1022\n")
unfolding head word record_at digits before with_node listed_to listed right_in column columns head_line page_line page_lines page
wide-page = simp twenty-digits

-- every width between
each-page : page (node 9 10 1 12 0 1 ++ (node 99 100 123 999 0 1 ++ (node 999 1000 1000 9 0 1 ++ (node 9999 10000 10 99 0 1 ++ (node 99999 100000 100 1 0 1
    ++ (node 999999 1000000 0 0 0 1 ++ (node 9999999 10000000 0 0 0 1 ++ (node 99999999 100000000 0 0 0 1 ++ (node 999999999 1000000000 0 0 0 1
    ++ node 1000000000 999999999 0 0 0 1)))))))))
    ≡ head
    ++ (text "   1           9                    10  B     1    12\n"
    ++ (text "   2          99                   100  B   123   999\n"
    ++ (text "   3         999                  1000  B  1000     9\n"
    ++ (text "   4        9999                 10000  B    10    99\n"
    ++ (text "   5       99999                100000  B   100     1\n"
    ++ (text "   6      999999               1000000  B     0     0\n"
    ++ (text "   7     9999999              10000000  B     0     0\n"
    ++ (text "   8    99999999             100000000  B     0     0\n"
    ++ (text "   9   999999999            1000000000  B     0     0\n"
    ++ text "  10  1000000000             999999999  B     0     0\n")))))))))
unfolding head word record_at digits before with_node listed_to listed right_in column columns head_line page_line page_lines page
each-page = simp twenty-digits

-- a record of each width from 10 to 20
each-record : page (wide 1 4294967295 0 0 0 0 1 ++ (wide 2 1215752191 23 0 0 0 1 ++ (wide 3 1215752192 23 0 0 0 1 ++ (wide 4 3567587328 232 0 0 0 1
    ++ (wide 5 1316134912 2328 0 0 0 1 ++ (wide 6 276447232 23283 0 0 0 1 ++ (wide 7 2764472320 232830 0 0 0 1 ++ (wide 8 1874919424 2328306 0 0 0 1
    ++ (wide 9 1569325056 23283064 0 0 0 1 ++ (wide 10 2808348672 232830643 0 0 0 1 ++ (wide 11 2313682944 2328306436 0 0 0 1
    ++ wide 12 0 1 0 0 0 1)))))))))))
    ≡ head
    ++ (text "   1           1            4294967295  B     0     0\n"
    ++ (text "   2           2           99999999999  B     0     0\n"
    ++ (text "   3           3          100000000000  B     0     0\n"
    ++ (text "   4           4         1000000000000  B     0     0\n"
    ++ (text "   5           5        10000000000000  B     0     0\n"
    ++ (text "   6           6       100000000000000  B     0     0\n"
    ++ (text "   7           7      1000000000000000  B     0     0\n"
    ++ (text "   8           8     10000000000000000  B     0     0\n"
    ++ (text "   9           9    100000000000000000  B     0     0\n"
    ++ (text "  10          10   1000000000000000000  B     0     0\n"
    ++ (text "  11          11  10000000000000000000  B     0     0\n"
    ++ text "  12          12            4294967296  B     0     0\n")))))))))))
unfolding head word record_at digits before with_node listed_to listed right_in column columns head_line page_line page_lines page
each-record = simp twenty-digits

-- nodes of one digit to four, in a pool of 1,023
large-page : page large_pool
    ≡ head
    ++ (text "1023           0                     0  B     0     0\n"
    ++ (text " 255           3                     0  B     0     0\n"
    ++ (text "   9           7                     0  B     0     0\n"
    ++ (text "  10           7                     0  B     0     0\n"
    ++ (text "  99           7                     0  B     0     0\n"
    ++ (text " 100           7                     0  B     0     0\n"
    ++ (text " 256           7                     0  B     0     0\n"
    ++ (text " 999           7                     0  B     0     0\n"
    ++ (text "1000           7                     0  B     0     0\n"
    ++ text "   1           9                     0  B     0     0\n")))))))))
unfolding head large_pool word record_at digits decimal right_in column columns head_line page_line page_lines page
large-page = rw large-listed refl

-- Sheets. A line and its newline are 54 bytes, a form feed is byte 12.
-- k nodes after a free one, with keys that fall to 1,001: line i is that of key 1,000 + i
fall : ℕ → List ℕ
fall zero = []
fall (suc k) = node (1001 + k) 0 0 0 0 1 ++ fall k

-- 60 lines: from the last line on
sixty-page : drop (60 * 54) (page (free ++ fall 60)) ≡ text "   2        1060                     0  B     0     0\n"
unfolding free fall word record_at digits decimal before with_node listed_to listed right_in column columns head_line page_line page_lines page
sixty-page = refl

-- 61: from line 60 on; line 61 stands on a second sheet
sixty-one-page : drop (60 * 54) (page (free ++ fall 61))
    ≡ text "   3        1060                     0  B     0     0\n" ++ (12 ∷ (head ++ text "   2        1061                     0  B     0     0\n"))
unfolding head free fall word record_at digits decimal before with_node listed_to listed right_in column columns head_line page_line page_lines page
sixty-one-page = refl

-- 120: the last line of the second sheet
second-full-page : drop (121 * 54 + 1) (page (free ++ fall 120)) ≡ text "   2        1120                     0  B     0     0\n"
unfolding free fall word record_at digits decimal before with_node listed_to listed right_in column columns head_line page_line page_lines page
second-full-page = refl

-- 121: from line 120 on; line 121 stands on a third sheet
third-page : drop (121 * 54 + 1) (page (free ++ fall 121))
    ≡ text "   3        1120                     0  B     0     0\n" ++ (12 ∷ (head ++ text "   2        1121                     0  B     0     0\n"))
unfolding head free fall word record_at digits decimal before with_node listed_to listed right_in column columns head_line page_line page_lines page
third-page = refl

-- The most lines: those of nodes 1 to 1,023, of a pool without words, so that each word reads as 0. Of sheets 2 to 17 the form feed and the head, and then
-- the last sheet.
up_from : (n count : ℕ) → List ℕ
up_from n zero = []
up_from n (suc k) = n ∷ up_from (suc n) k

sheets_of : ℕ → List ℕ → List (List ℕ)
sheets_of zero t = t ∷ []
sheets_of (suc k) t = take 55 t ∷ sheets_of k (drop (61 * 54 + 1) t)

most-lines : sheets_of 16 (drop (60 * 54) (page_lines [] 60 (up_from 1 1023)))
    ≡ replicate 16 (12 ∷ head)
    ++ ((12 ∷ (head
    ++ (text "1021           0                     0  B     0     0\n"
    ++ (text "1022           0                     0  B     0     0\n"
    ++ text "1023           0                     0  B     0     0\n"))))
    ∷ [])
unfolding head up_from sheets_of word record_at digits decimal right_in column columns head_line page_line page_lines
most-lines = refl
