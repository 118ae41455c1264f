-- The page in sheets: a head and up to 60 lines; all but the first begin with the form feed. The code puts them one at a time.
use Prim.Native.Nat.{ℕ, zero, suc, ◌+◌, ◌-◌, ◌*◌, ◌/◌, ◌<◌, ◌≤◌}
use Rattle.std.specs.Prelude.{◌≡◌, refl, cond, ◌≢◌, List, [], ◌∷◌, ◌++◌, map, eqb, take, drop, get_or, replicate}
use Rattle.std.proofs.Common.{sym, ap, ◌∙◌, inl, append_assoc, append-nil, add-one, length-append, length-take, length-drop}
use native.Mathlib.Omega.{arith}
use Rattle.std.proofs.Math.ListN.{length}
use Rattle.std.proofs.lemmas.List.{length-map}
use borrow.Author.Tests.{ne_eqb}
use Rattle.base.specs.Walk.{cond_both}
use Rattle.spec.specs.Numbers.{pool_limit}
use Rattle.datatypes.specs.declared.Side.TheVariants.{L, R}
use Rattle.spec.specs.Pool.{word, key_word, record_at, child, nodes}
use Rattle.texts.specs.Ascii.{blank, newline}
use Rattle.texts.specs.Column.{right_in}
use Rattle.texts.proofs.Column.{right-length}
use Rattle.texts.specs.Decimal.{decimal}
use Rattle.texts.specs.Put.{Put, PutPart, put_as, put_both, part_none, part-put, part-all}
use Rattle.page_order.specs.Listed.{listed}
use Rattle.page_order.specs.Ranks.{rank_base, node_of, Rising, ranks_after}
use Rattle.page_order.specs.Laws.{last_or, last-least, lines-most}
use Rattle.page_order.proofs.Laws.{after-rising, after_next, ranks-listed}
use Rattle.page.specs.Page.{node_width, key_width, record_width, colour_width, link_width, gap_width, column, columns, head_line, colour_letter, page_line, sheet_lines, form_feed, page_lines, page}

-- the lines of these nodes
unfoldable pub lines_of : List ℕ → List ℕ → List ℕ
lines_of p [] = []
lines_of p (n ∷ ns) = page_line p n ++ lines_of p ns

-- what a sheet begins with: a form feed, but on the first sheet, which comes after no line; the head
unfoldable pub sheet_feed : (last : ℕ) → List ℕ
sheet_feed last = cond (eqb last 0) [] (form_feed ∷ [])

unfoldable pub sheet_head : (last : ℕ) → List ℕ
sheet_head last = sheet_feed last ++ head_line

-- the sheet after the line of rank `last`, and the rank of its own last line
abbrev pub on_sheet : List ℕ → (last : ℕ) → List ℕ
on_sheet p last = take sheet_lines (ranks_after p last)

unfoldable pub sheet_after : List ℕ → (last : ℕ) → List ℕ
sheet_after p last = sheet_head last ++ lines_of p (map node_of (on_sheet p last))

unfoldable pub last_after : List ℕ → (last : ℕ) → ℕ
last_after p last = last_or last (on_sheet p last)

-- so many sheets, from the one after `last` on
unfoldable pub sheets_after : List ℕ → (count last : ℕ) → List ℕ
sheets_after p zero last = []
sheets_after p (suc k) last = sheet_after p last ++ sheets_after p k (last_after p last)

-- how many sheets the page has
unfoldable pub sheets : List ℕ → ℕ
sheets p = suc ((length (listed p) - 1) / sheet_lines)

-- A line in two parts: node, key and record; colour, left and right.
unfoldable pub ticket_columns : (node key value : List ℕ) → List ℕ
ticket_columns node key value = right_in node_width node ++ (column key_width key ++ column record_width value)

unfoldable pub link_columns : (colour left right : List ℕ) → List ℕ
link_columns colour left right = column colour_width colour ++ (column link_width left ++ (column link_width right ++ (newline ∷ [])))

columns-parts : (a b c d e f : List ℕ) → ticket_columns a b c ++ link_columns d e f ≡ columns a b c d e f
unfolding columns ticket_columns link_columns
columns-parts a b c d e f = simp append_assoc

-- Every line has 53 columns and its newline.
abbrev pub ticket_bytes : ℕ
ticket_bytes = node_width + (gap_width + key_width) + (gap_width + record_width)

abbrev pub link_bytes : ℕ
link_bytes = gap_width + colour_width + (gap_width + link_width) + (gap_width + link_width) + 1

abbrev pub line_bytes : ℕ
line_bytes = 54

column-length : (w : ℕ) (t : List ℕ) → length (column w t) ≡ gap_width + w
unfolding column
column-length w t = length-append (replicate gap_width blank) (right_in w t) ∙ rw (right-length w t)

columns-length : (a b c d e f : List ℕ) → length (columns a b c d e f) ≡ line_bytes
unfolding columns
columns-length a b c d e f = simp (length-append, right-length, column-length)

pub head-length : length head_line ≡ line_bytes
unfolding head_line
head-length = columns-length _ _ _ _ _ _

pub line-length : (p : List ℕ) (n : ℕ) → length (page_line p n) ≡ line_bytes
unfolding page_line
line-length p n = columns-length _ _ _ _ _ _

-- a line put in its two parts
pub put-parts : (p : List ℕ) (n : ℕ) {a b c : List ℕ} {i j k : ℕ}
    → Put a i (ticket_columns (decimal n) (decimal (word p n key_word)) (decimal (record_at p n))) b j
    → Put b j (link_columns (colour_letter p n ∷ []) (decimal (child p L n)) (decimal (child p R n))) c k
    → Put a i (page_line p n) c k
unfolding page_line
put-parts p n s t = put_as (columns-parts _ _ _ _ _ _) (put_both s t)

pub lines-length : (p ns : List ℕ) → length (lines_of p ns) ≡ length ns * line_bytes
unfolding lines_of
lines-length p [] = refl
lines-length p (n ∷ ns) = length-append (page_line p n) (lines_of p ns) ∙ rw (line-length p n, lines-length p ns) (omega arith)

-- What is left of a sheet is filled; the lines after that stand on further ones, the first of which begins with the form feed.
lines_split : (p : List ℕ) (room : ℕ) (ns : List ℕ) → page_lines p room ns ≡ lines_of p (take room ns) ++ page_lines p 0 (drop room ns)
unfolding page_lines lines_of
lines_split p zero ns = refl
lines_split p (suc room) [] = refl
lines_split p (suc room) (n ∷ ns) = rw (lines_split p room ns) (sym (append_assoc (page_line p n) (lines_of p (take room ns)) (page_lines p 0 (drop room ns))))

next-sheet : (p : List ℕ) (ns : List ℕ) → 0 < length ns
    → page_lines p 0 ns ≡ (form_feed ∷ head_line) ++ (lines_of p (take sheet_lines ns) ++ page_lines p 0 (drop sheet_lines ns))
unfolding page_lines
next-sheet p [] h = absurd (let z : ⊥ = omega arith in z)
next-sheet p (n ∷ ns) h = ap (λ t. form_feed ∷ (head_line ++ t)) (lines_split p sheet_lines (n ∷ ns))

take-map : (f : ℕ → ℕ) (m : ℕ) (xs : List ℕ) → take m (map f xs) ≡ map f (take m xs)
take-map f zero xs = refl
take-map f (suc m) [] = refl
take-map f (suc m) (x ∷ xs) = ap (f x ∷◌) (take-map f m xs)

drop-map : (f : ℕ → ℕ) (m : ℕ) (xs : List ℕ) → drop m (map f xs) ≡ map f (drop m xs)
drop-map f zero xs = refl
drop-map f (suc m) [] = refl
drop-map f (suc m) (x ∷ xs) = drop-map f m xs

none_left : (xs : List ℕ) → length xs ≡ 0 → xs ≡ []
none_left [] h = refl
none_left (x ∷ xs) h = absurd (let z : ⊥ = omega (arith, h) in z)

last_more : (d m : ℕ) (xs : List ℕ) → Rising (d ∷ xs) → 0 < length xs → d < last_or d (take (suc m) xs)
last_more d m [] r h = absurd (let z : ⊥ = omega arith in z)
last_more d m (x ∷ xs) r h = let a = r.0 x (inl refl) in let b = last-least x m xs r.1 in omega arith

-- The sheets put together are the page.
module _ (p : List ℕ) (small : nodes p < rank_base) where
  -- what stands on the sheets after `last`
  abbrev rest : (last : ℕ) → List ℕ
  rest last = page_lines p 0 (map node_of (ranks_after p last))

  rest-next : (last : ℕ) → page_lines p 0 (drop sheet_lines (map node_of (ranks_after p last))) ≡ rest (last_after p last)
  unfolding last_after
  rest-next last = rw (after_next p small last sheet_lines, drop-map node_of sheet_lines (ranks_after p last))

  -- a sheet and what comes after it
  sheet-rest : (last : ℕ) → 0 < last → 0 < length (ranks_after p last) → rest last ≡ sheet_after p last ++ rest (last_after p last)
  unfolding sheet_after sheet_feed sheet_head
  sheet-rest last h g =
      let xs = ranks_after p last in
      let t = lines_of p (map node_of (take sheet_lines xs)) in
      next-sheet p (map node_of xs) (rw (length-map xs node_of) g)
      ∙ rw (rest-next last, take-map node_of sheet_lines xs, ne_eqb last 0 (λ e. omega (arith, e, h))) (sym (append_assoc (form_feed ∷ head_line) t (rest (last_after p last))))

  -- the sheets after `last` are as many as its lines fill
  abbrev Filled : (k last : ℕ) → Type 0
  Filled k last = k ≡ (length (ranks_after p last) + (sheet_lines - 1)) / sheet_lines

  next-length : (last : ℕ) → length (ranks_after p (last_after p last)) ≡ length (ranks_after p last) - sheet_lines
  unfolding last_after
  next-length last = rw (after_next p small last sheet_lines) (length-drop sheet_lines (ranks_after p last))

  later : (last : ℕ) → 0 < length (ranks_after p last) → last < last_after p last
  unfolding last_after
  later last h = last_more last (sheet_lines - 1) (ranks_after p last) (after-rising p small last) h

  sheets-rest : (k last : ℕ) → (0 < length (ranks_after p last) → 0 < last) → Filled k last → sheets_after p k last ≡ rest last
  unfolding sheets_after page_lines
  sheets-rest zero last h e = rw (none_left (ranks_after p last) (omega arith))
  sheets-rest (suc k) last h e =
      let g : 0 < length (ranks_after p last) = omega arith in
      let n = next-length last in
      let l = later last g in
      rw (sheet-rest last (h g) g) (ap (λ t. sheet_after p last ++ t) (sheets-rest k (last_after p last) (λ z. omega arith) (omega arith)))

  pub page-sheets : page p ≡ sheets_after p (sheets p) 0
  unfolding page sheets sheets_after sheet_after sheet_feed sheet_head
  page-sheets =
      let xs = ranks_after p 0 in
      let e = ranks-listed p small in
      let n = next-length 0 in
      let m : length (listed p) ≡ length xs = rw (sym e) (length-map xs node_of) in
      let t = lines_of p (map node_of (take sheet_lines xs)) in
      let first : page_lines p sheet_lines (listed p) ≡ t ++ rest (last_after p 0) =
      rw (sym e, lines_split p sheet_lines (map node_of xs), rest-next 0, take-map node_of sheet_lines xs) in
      let others : sheets_after p ((length (listed p) - 1) / sheet_lines) (last_after p 0) ≡ rest (last_after p 0) =
      sheets-rest ((length (listed p) - 1) / sheet_lines) (last_after p 0) (λ z. let l = later 0 (omega arith) in omega arith) (omega arith) in
      rw (first, others) (sym (append_assoc head_line t (rest (last_after p 0))))

-- room enough for any sheet
abbrev pub sheet_room : ℕ
sheet_room = 1 + line_bytes + sheet_lines * line_bytes

feed-room : (last : ℕ) → length (sheet_feed last) ≤ 1
unfolding sheet_feed
feed-room last = cond_both (λ (l : List ℕ). length l ≤ 1) (eqb last 0) (omega arith) (omega arith)

pub sheet-head : (last : ℕ) → length (sheet_head last) ≡ length (sheet_feed last) + line_bytes
unfolding sheet_head
sheet-head last = length-append (sheet_feed last) head_line ∙ rw head-length

pub sheet-length : (p : List ℕ) (last : ℕ) → length (sheet_after p last) ≡ length (sheet_head last) + length (on_sheet p last) * line_bytes
unfolding sheet_after
sheet-length p last =
    length-append (sheet_head last) (lines_of p (map node_of (on_sheet p last)))
    ∙ rw (lines-length p (map node_of (on_sheet p last)), length-map (on_sheet p last) node_of)

pub sheet-room : (p : List ℕ) (last : ℕ) → length (sheet_after p last) ≤ sheet_room
sheet-room p last =
    let a = feed-room last in
    let h = sheet-head last in
    let b = length-take sheet_lines (ranks_after p last) in
    rw (sheet-length p last) (omega arith)

-- the most sheets that a pool has
abbrev pub most_sheets : ℕ
most_sheets = 18

pub sheets-most : (p : List ℕ) → length p ≤ pool_limit → sheets p ≤ most_sheets
unfolding sheets
sheets-most p h = let a = lines-most p in omega arith

-- and room enough for any page
abbrev pub page_room : ℕ
page_room = most_sheets * sheet_room

sheets-room : (p : List ℕ) (k last : ℕ) → length (sheets_after p k last) ≤ k * sheet_room
unfolding sheets_after
sheets-room p zero last = omega arith
sheets-room p (suc k) last =
    let a = sheet-room p last in
    let b = sheets-room p k (last_after p last) in
    rw (length-append (sheet_after p last) (sheets_after p k (last_after p last))) (omega arith)

pub page-room : (p : List ℕ) → length p ≤ pool_limit → length (page p) ≤ page_room
page-room p h =
    let a = sheets-room p (sheets p) 0 in
    let b = sheets-most p h in
    rw (page-sheets p (omega arith)) (omega arith)

-- the last rank by its place
pub last_none : (d : ℕ) (xs : List ℕ) → length xs ≡ 0 → d ≡ last_or d xs
last_none d [] h = refl
last_none d (x ∷ xs) h = absurd (let z : ⊥ = omega (arith, h) in z)

pub last-at : (d : ℕ) (xs : List ℕ) → length xs ≢ 0 → get_or xs (length xs - 1) 0 ≡ last_or d xs
last-at d [] h = absurd (h refl)
last-at d (x ∷ []) h = refl
last-at d (x ∷ (y ∷ ys)) h = let e : length (x ∷ (y ∷ ys)) - 1 ≡ suc (length (y ∷ ys) - 1) = omega arith in rw e (last-at x (y ∷ ys) (λ z. omega (arith, z)))

-- the first lines and one more
lines_more : (p xs : List ℕ) (i : ℕ) → i < length xs
    → lines_of p (map node_of (take (suc i) xs)) ≡ lines_of p (map node_of (take i xs)) ++ page_line p (node_of (get_or xs i 0))
unfolding lines_of
lines_more p [] i h = absurd (let z : ⊥ = omega arith in z)
lines_more p (x ∷ xs) zero h = append-nil (page_line p (node_of x))
lines_more p (x ∷ xs) (suc i) h =
    rw (lines_more p xs i (omega arith)) (sym (append_assoc (page_line p (node_of x)) (lines_of p (map node_of (take i xs))) (page_line p (node_of (get_or xs i 0)))))

pub lines_next : (p xs : List ℕ) (i : ℕ) → i < length xs
    → lines_of p (map node_of (take (i + 1) xs)) ≡ lines_of p (map node_of (take i xs)) ++ page_line p (node_of (get_or xs i 0))
lines_next p xs i h = rw (add-one i) (lines_more p xs i h)

-- A page put sheet by sheet.
next-sheets : (p : List ℕ) (k last : ℕ) → sheets_after p (suc k) last ≡ sheet_after p last ++ sheets_after p k (last_after p last)
unfolding sheets_after
next-sheets p k last = refl

one_more_lem : (p : List ℕ) (left last : ℕ) → 0 < left → sheets_after p left last ≡ sheet_after p last ++ sheets_after p (left - 1) (last_after p last)
one_more_lem p left last h = let e : left ≡ suc (left - 1) = omega arith in ap (λ k. sheets_after p k last) e ∙ next-sheets p (left - 1) last

pub sheet-part : (p : List ℕ) (left last : ℕ) {i j : ℕ} {a b : List ℕ} → 0 < left → Put a i (sheet_after p last) b j
    → PutPart a i (sheets_after p left last) b j (sheets_after p (left - 1) (last_after p last))
sheet-part p left last h q = rw (one_more_lem p left last h) (part-put (sheets_after p (left - 1) (last_after p last)) q)

module _ (p a : List ℕ) (at : ℕ) where
  pub page-start : length p ≤ pool_limit → at ≤ length a → PutPart a at (page p) a at (sheets_after p (sheets p) 0)
  page-start h g = rw (sym (page-sheets p (omega arith))) (part_none a at (page p) g)

  module _ (left last : ℕ) {next : ℕ} {b : List ℕ} (t : PutPart a at (page p) b next (sheets_after p left last)) where
    pub sheet-fits : length b ≡ length a → 0 < left → at + length (page p) ≤ length a → next + length (sheet_after p last) ≤ length b
    sheet-fits e h g =
        let rest = sheets_after p (left - 1) (last_after p last) in
        let m : length (page p) ≡ length t.written + (length (sheet_after p last) + length rest) =
        rw (sym t.whole, one_more_lem p left last h, length-append t.written (sheet_after p last ++ rest), length-append (sheet_after p last) rest) in
        omega (arith, m, e, t.put.ends)

    pub page-end : left ≤ 0 → Put a at (page p) b next
    unfolding sheets_after
    page-end h = let e : left ≡ 0 = omega arith in part-all (rw e at t)
