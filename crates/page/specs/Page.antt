-- 02, C-16 and C-18: the foreman's page of a pool, as bytes.
use Rattle.std.specs.Prelude.{ℕ, zero, suc, ◌-◌, cond, List, [], ◌∷◌, ◌++◌, replicate}
use Prim.Native.Char.{code}
use Rattle.datatypes.specs.declared.Side.TheVariants.{L, R}
use Rattle.spec.specs.Pool.{word, key_word, record_at, child, is_red}
use Rattle.texts.specs.Ascii.{text, blank, newline}
use Rattle.texts.specs.Decimal.{decimal}
use Rattle.texts.specs.Column.{right_in}
use Rattle.page_order.specs.Listed.{listed}

-- 'node 4, key 10, record 10, colour 1 (B or R), left 4, right 4': the columns' widths; 02, C-18: the record's is 20
abbrev pub node_width : ℕ
node_width = 4

abbrev pub key_width : ℕ
key_width = 10

abbrev pub record_width : ℕ
record_width = 20

abbrev pub colour_width : ℕ
colour_width = 1

abbrev pub link_width : ℕ
link_width = 4

-- 'right-aligned, two blanks between': a column after the first
abbrev pub gap_width : ℕ
gap_width = 2

unfoldable pub column : (width : ℕ) → List ℕ → List ℕ
column width t = replicate gap_width blank ++ right_in width t

-- a line of six texts
unfoldable pub columns : (node key value colour left right : List ℕ) → List ℕ
columns node key value colour left right =
    right_in node_width node ++ (column key_width key ++ (column record_width value ++ (column colour_width colour
    ++ (column link_width left ++ (column link_width right ++ (newline ∷ []))))))

-- 'A head line with the names node, key, record, c, left, righ, in the same widths and alignment.'
unfoldable pub head_line : List ℕ
head_line = columns (text "node") (text "key") (text "record") (text "c") (text "left") (text "righ")

-- a node's line
abbrev pub colour_letter : List ℕ → ℕ → ℕ
colour_letter p n = cond (is_red p n) (code "R") (code "B")

unfoldable pub page_line : List ℕ → ℕ → List ℕ
page_line p n =
    columns (decimal n) (decimal (word p n key_word)) (decimal (record_at p n)) (colour_letter p n ∷ []) (decimal (child p L n)) (decimal (child p R n))

-- 'After each 60 node lines, if more follow, comes a form feed byte directly before the head again.'
abbrev pub sheet_lines : ℕ
sheet_lines = 60

abbrev pub form_feed : ℕ
form_feed = 12

-- the lines of these nodes, the first `room` of them on the sheet that has begun
unfoldable pub page_lines : List ℕ → (room : ℕ) → List ℕ → List ℕ
page_lines p room [] = []
page_lines p zero (n ∷ ns) = form_feed ∷ (head_line ++ (page_line p n ++ page_lines p (sheet_lines - 1) ns))
page_lines p (suc room) (n ∷ ns) = page_line p n ++ page_lines p room ns

-- the page of a pool
unfoldable pub page : List ℕ → List ℕ
page p = head_line ++ page_lines p sheet_lines (listed p)
