-- Laws of a run of trace: each step puts what is due, and less work is left.
use Rattle.std.specs.Prelude.{ℕ, suc, ◌+◌, ◌-◌, ◌*◌, ◌≤◌, ◌<◌, ◌≡◌, refl, Bool, true, false, cond, List, [], ◌∷◌, ◌++◌, ◌⊎◌, Option, None, Some, eqb, length, take}
use Rattle.std.proofs.Common.{sym, ap, ◌∙◌, append-nil, append_assoc, inl, inr, ⊎_elim, arith, drop-drop, length-take-le}
use Rattle.std.proofs.lemmas.Bool.{false≢true}
use Rattle.std.proofs.Math.ListN.{drop}
use Rattle.base.specs.Walk.{cond_both}
use Rattle.datatypes.specs.declared.Register.{Register}
use Rattle.spec.specs.Numbers.{pool_limit}
use Rattle.spec.specs.Pool.{nodes}
use Rattle.texts.specs.Ascii.{newline}
use Rattle.texts.specs.Line.{room}
use Rattle.texts.specs.Put.{Put, PutPart, part_none, part-put, part-both, part-before}
use Rattle.command_fields.specs.declared.Command.{Command}
use Rattle.command_fields.specs.Commands.{is_ill}
use Rattle.command_lines.specs.declared.Reading.{Reading}
use Rattle.command_lines.specs.declared.Reading.TheVariants.{Fresh}
use Rattle.command_lines.specs.declared.Piece.{Piece}
use Rattle.command_lines.specs.declared.Piece.TheVariants.{Whole, Part}
use Rattle.command_lines.specs.declared.Scanned.{Scanned}
use Rattle.command_lines.specs.Machine.{taken}
use Rattle.command_lines.specs.Cut.{cut, cut_from, cut-after, cut-within}
use Rattle.answer_lines.specs.Text.{letter_of, line_of, bad_line}
use Rattle.node_lines.specs.Shown.{node_shown, shown_from, nodes_shown}
use Rattle.page.specs.Sheets.{sheets_after}
use Rattle.session.specs.declared.Rest.{Rest}
use Rattle.session.specs.declared.Rest.TheVariants.{Nothing, Nodes, Sheets}
use Rattle.session.specs.declared.Session.{Session}
use Rattle.session.specs.Output.{Kept, next_number, answer_to, added, call_output, line_output, output_from, line_after}
use Rattle.session.specs.Steps.{pieces, Fits, Sound, rest_of, kept_of, due, due_on, Prints, line_work, work_left, with_rest, part_read, to_come, LineRead, Stepped, Answered}

-- the pool has as many words as are lent
pub lent_length : (words : List ℕ) (lent : ℕ) → lent ≤ pool_limit → length words ≡ pool_limit → length (take lent words) ≡ lent
lent_length words lent h e = length-take-le lent words (omega (arith, h, e))

-- with no piece nothing is still to be written
pub rest-none : (p : List ℕ) (r : Rest) → pieces r ≤ 0 → rest_of p r ≡ []
unfolding shown_from sheets_after
rest-none p Nothing h = refl
rest-none p (Nodes k) h = let e : k ≡ 0 = omega arith in rw e
rest-none p (Sheets k last) h = let e : k ≡ 0 = omega arith in rw e

-- T begins with all nodes of the pool
pub rest-nodes : (p : List ℕ) (k : ℕ) → k ≡ nodes p → rest_of p (Nodes k) ≡ nodes_shown p
unfolding nodes_shown
rest-nodes p k e = let d : nodes p + 1 - nodes p ≡ 1 = omega arith in rw (e, d)

-- the line of a node put, of those still to be shown
shown-next : (p : List ℕ) (n k : ℕ) → 0 < k → shown_from p n k ≡ node_shown p n ++ shown_from p (suc n) (k - 1)
unfolding shown_from
shown-next p n k h = let e : k ≡ suc (k - 1) = omega arith in ap (shown_from p n) e

pub node-part : (p : List ℕ) (k n : ℕ) {a b : List ℕ} {i j : ℕ} → Put a i (node_shown p n) b j → 0 < k → k ≤ nodes p → n ≡ nodes p + 1 - k
    → PutPart a i (rest_of p (Nodes k)) b j (rest_of p (Nodes (k - 1)))
node-part p k n q h g e =
    let d : nodes p + 1 - (k - 1) ≡ suc n = omega arith in
    rw (d, sym e, shown-next p n k h) (part-put (shown_from p (suc n) (k - 1)) q)

-- Of the work w₀ at position at₀ of the output some is done, or nothing yet.
abbrev pub Done : (w₀ at₀ w at : ℕ) → Type 0
Done w₀ at₀ w at = (w < w₀) ⊎ ((at ≡ at₀) × (w ≡ w₀))

pub done_more : {w₀ at₀ w at : ℕ} (v to : ℕ) → v < w → Done w₀ at₀ w at → Done w₀ at₀ v to
done_more v to h d = inl (⊎_elim (λ l. omega (arith, l, h)) (λ r. omega (arith, r.1, h)) d)

-- the array's words are those of 1,024 nodes, and a page has fewer sheets
pieces-bound : (lent : ℕ) (r : Rest) → lent ≤ pool_limit → Fits lent r → pieces r < line_work
pieces-bound lent Nothing h g = omega arith
pieces-bound lent (Nodes k) h g = omega (arith, h, g)
pieces-bound lent (Sheets k last) h g = omega (arith, g)

-- a line read: less work is left, whatever its command adds
pub line-less : (s t : Session) (input : ℕ) → s.ended ≡ false → Sound t → s.from < t.from → t.from ≤ input → work_left t input < work_left s input
line-less s t input e h a b =
    let p = pieces-bound t.lent t.rest h.lent h.rest in
    let x = (input - t.from) * line_work in
    let c : cond t.ended 0 x ≤ x = cond_both (λ y. y ≤ x) t.ended (omega arith) (omega arith) in
    rw e (omega (arith, p, c, a, b))

-- the session after a whole line; after an ill-formed one
abbrev pub line_over : Session → (next : ℕ) → Session
line_over s next =
    record { lent = s.lent; number = s.number; reading = s.reading; rest = s.rest; ended = s.ended; from = next; at = s.at }

abbrev pub stopped : Session → (next at : ℕ) → Session
stopped s next at =
    record { lent = s.lent; number = s.number; reading = s.reading; rest = s.rest; ended = true; from = next; at = at }

pub line-over : (s : Session) (c : Option Command) (next : ℕ) {out : List ℕ} → is_ill c ≡ false → s.at + room ≤ length out
    → LineRead out s c next out (line_over s next)
unfolding to_come
line-over s c next {out} i h =
    let l : s.at ≤ length out = omega (arith, h) in
    record { lent = refl; rest = refl; from = refl; within = l; fits = λ z. h; puts = λ words register later. rw i (part_none out s.at _ l) }

pub line-bad : (s : Session) (c : Option Command) (next : ℕ) {out out' : List ℕ} {at : ℕ} → is_ill c ≡ true → pieces s.rest ≤ 0
    → Put out s.at (bad_line (next_number s.number)) out' at → LineRead out s c next out' (stopped s next at)
unfolding to_come due line_output
line-bad s (Some c) next i h p = absurd (false≢true i)
line-bad s None next i h p =
    let bad = bad_line (next_number s.number) in
    record {
      lent = refl;
      rest = refl;
      from = refl;
      within = p.within;
      fits = λ z. absurd (false≢true (sym z));
      puts = λ words register later. rw (rest-none (take s.lent words) s.rest h) (rw (append-nil bad) at (part-put [] p));
    }

-- what a line read prints is what the bytes up to its end print
abbrev pub piece_output : Kept → Piece → (later : List ℕ) → List ℕ
piece_output k (Whole c) later = line_after k c later
piece_output k (Part r) later = output_from k r later

output-cut : (k : Kept) (input later bs : List ℕ) (i : ℕ) (r : Reading) → drop i input ≡ bs
    → output_from k r (bs ++ later) ≡ piece_output k (cut r i bs).piece (drop (cut r i bs).next input ++ later)
unfolding cut output_from
output-cut k input later [] i r e = rw e
output-cut k input later (b ∷ bs) i r e = split (eqb b newline) refl (output-cut k input later bs (i + 1) (taken r b) after)
  where
    after : drop (i + 1) input ≡ bs
    after = sym (drop-drop 1 i input) ∙ ap (drop 1) e

    split : (t : Bool) → eqb b newline ≡ t
        → output_from k (taken r b) (bs ++ later) ≡ piece_output k (cut (taken r b) (i + 1) bs).piece (drop (cut (taken r b) (i + 1) bs).next input ++ later)
        → output_from k r (b ∷ (bs ++ later)) ≡ piece_output k (cut r i (b ∷ bs)).piece (drop (cut r i (b ∷ bs)).next input ++ later)
    split true h f = rw (h, after)
    split false h f = rw h f

-- with no piece what is due is what the bytes print
due-lines : (words : List ℕ) (register : Register) (s : Session) → pieces s.rest ≤ 0 → s.ended ≡ false → (later : List ℕ)
    → due words register s later ≡ output_from (kept_of words register s) s.reading later
unfolding due
due-lines words register s h g later = rw (rest-none (take s.lent words) s.rest h, g)

-- the step that reads: a whole line, and bytes that end none
module _ (input words : List ℕ) (s : Session) (z : Scanned) (sound : Sound s) (e : z ≡ cut_from input s.from s.reading)
    (h : pieces s.rest ≤ 0) (g : s.ended ≡ false) (l : s.from < length input) where
  due-cut : (register : Register) (later : List ℕ)
      → due_on input words register s later ≡ piece_output (kept_of words register s) z.piece (drop z.next input ++ later)
  unfolding cut_from
  due-cut register later =
      due-lines words register s h g (drop s.from input ++ later)
      ∙ rw e (output-cut (kept_of words register s) input later (drop s.from input) s.from s.reading refl)

  after_first : s.from < z.next
  after_first = rw e (cut-after input s.from s.reading l)

  within-input : z.next ≤ length input
  within-input = rw e (cut-within input s.from s.reading (omega arith))

  pub whole-step : (c : Option Command) {out out' : List ℕ} (t : Session) → z.piece ≡ Whole c → LineRead out s c z.next out' t
      → Stepped input words out s out' t c
  whole-step c t p w =
      let f = w.from in
      let a : s.from < t.from = rw f after_first in
      let b : t.from ≤ length input = rw f within-input in
      let d : Sound t = record { lent = rw w.lent sound.lent; rest = rw (w.lent, w.rest) sound.rest } in
      record {
        sound = d;
        within = w.within;
        inside = b;
        less = λ i. line-less s t (length input) g d a b;
        line = λ i. (g, a, w.fits i);
        puts = λ register later. rw (due-cut register later, p, sym f) (w.puts words register (drop t.from input ++ later));
      }

  pub part_step : (reading : Reading) {out : List ℕ} → z.piece ≡ Part reading → s.at ≤ length out
      → Stepped input words out s out (part_read s reading z.next) None
  unfolding to_come
  part_step reading {out} p w =
      let t = part_read s reading z.next in
      let d : Sound t = record { lent = sound.lent; rest = sound.rest } in
      record {
        sound = d;
        within = w;
        inside = within-input;
        less = λ i. line-less s t (length input) g d after_first within-input;
        line = λ i. absurd (false≢true (sym i));
        puts = λ register later.
            (let rest = drop z.next input ++ later in
            rw (due-cut register later, p, due-lines words register t h g rest) (part_none out s.at (output_from (kept_of words register s) reading rest) w));
      }

-- the step that writes a piece
pub piece-step : (input words : List ℕ) (s : Session) (rest : Rest) {out out' : List ℕ} {at : ℕ} → Sound s → Fits s.lent rest
    → 0 < pieces s.rest → pieces rest ≡ pieces s.rest - 1 → s.from ≤ length input
    → PutPart out s.at (rest_of (take s.lent words) s.rest) out' at (rest_of (take s.lent words) rest)
    → Stepped input words out s out' (with_rest s at rest) None
unfolding to_come due
piece-step input words s rest sound f h e l p =
    record {
      sound = record { lent = sound.lent; rest = f };
      within = p.put.within;
      inside = l;
      less = λ i. omega (arith, h, e);
      line = λ i. absurd (false≢true (sym i));
      puts = λ register later. part-before _ p;
    }

-- a command's line and what is due after it
pub answer-puts : (words : List ℕ) (register : Register) (s : Session) (c : Command) (words' : List ℕ) (register' : Register) (t : Session) {out out' : List ℕ}
    → Answered words out register s c words' out' register' t
    → (later : List ℕ) → PutPart out s.at (line_after (kept_of words register s) (Some c) later) out' t.at (due words' register' t later)
unfolding due line_output call_output
answer-puts words register s c words' register' t a later =
    let answer = answer_to (kept_of words register s) c in
    let head = line_of (next_number s.number) (letter_of c) answer in
    let more = added (take t.lent words') c answer in
    let rest = output_from (kept_of words' register' t) Fresh later in
    rw (a.going, a.reading, a.adds, sym a.kept, append_assoc head more rest) (part-put (more ++ rest) a.line)

-- a step with no command to call, and one with its call
pub step-prints : (input words : List ℕ) (register : Register) (s t : Session) (c : Option Command) {out out' : List ℕ}
    → is_ill c ≡ true → Stepped input words out s out' t c → Prints input words out register s words out' register t
unfolding to_come
step-prints input words register s t c i w later = rw i at (w.puts register later)

pub call-prints : (input words : List ℕ) (register : Register) (s t : Session) (c : Command) (words' : List ℕ) (register' : Register) (u : Session)
    {out out' out'' : List ℕ} → Stepped input words out s out' t (Some c) → Answered words out' register t c words' out'' register' u
    → u.from ≡ t.from → Prints input words out register s words' out'' register' u
unfolding to_come
call-prints input words register s t c words' register' u w a f later =
    let rest = drop t.from input ++ later in
    let e : drop u.from input ++ later ≡ rest = ap (λ (n : ℕ). drop n input ++ later) f in
    let p : PutPart _ s.at (due_on input words register s later) _ t.at (line_after (kept_of words register t) (Some c) rest) = w.puts register later in
    rw e (part-both p (answer-puts words register t c words' register' u a rest))

-- What `advance` keeps: from the session s it has come to t.
pub record Running (input words out : List ℕ) (register : Register) (s : Session) (words' out' : List ℕ) (register' : Register) (t : Session) : Type 0 where
  pub sound : Sound t
  pub within : t.at ≤ length out'
  pub inside : t.from ≤ length input
  pub array : length words' ≡ length words
  pub buffer : length out' ≡ length out
  pub done : Done (work_left s (length input)) s.at (work_left t (length input)) t.at
  pub prints : Prints input words out register s words' out' register' t

module _ (input words : List ℕ) (register : Register) (s : Session) {out : List ℕ} where
  pub run-start : Sound s → s.at ≤ length out → s.from ≤ length input → Running input words out register s words out register s
  run-start a b c =
      record {
        sound = a;
        within = b;
        inside = c;
        array = refl;
        buffer = refl;
        done = inr (refl, refl);
        prints = λ later. part_none out s.at (due_on input words register s later) b;
      }

  module _ (words' : List ℕ) (register' : Register) (t : Session) {out' : List ℕ} (r : Running input words out register s words' out' register' t)
      (u : Session) {out'' : List ℕ} where
    pub run_step : Stepped input words' out' t out'' u None → length out'' ≡ length out' → Running input words out register s words' out'' register' u
    run_step w e =
        record {
          sound = w.sound;
          within = w.within;
          inside = w.inside;
          array = r.array;
          buffer = e ∙ r.buffer;
          done = done_more _ _ (w.less refl) r.done;
          prints = λ later. part-both (r.prints later) (step-prints input words' register' t u None refl w later);
        }

    module _ (c : Command) (w : Stepped input words' out' t out'' u (Some c)) where
      pub call-less : (v : Session) → Sound v → v.from ≡ u.from → work_left v (length input) < work_left t (length input)
      call-less v a f =
          let l = w.line refl in
          let h = w.inside in line-less t v (length input) l.0 a (omega (arith, f, l.1)) (omega (arith, f, h))

      pub run_call : (words'' : List ℕ) (register'' : Register) (v : Session) {out''' : List ℕ} → Sound v → v.from ≡ u.from
          → Answered words' out'' register' u c words'' out''' register'' v → length words'' ≡ length words' → length out''' ≡ length out'
          → Running input words out register s words'' out''' register'' v
      run_call words'' register'' v a f q e g =
          let h = w.inside in
          record {
            sound = a;
            within = q.line.within;
            inside = omega (arith, f, h);
            array = e ∙ r.array;
            buffer = g ∙ r.buffer;
            done = done_more _ _ (call-less v a f) r.done;
            prints = λ later. part-both (r.prints later) (call-prints input words' register' t u c words'' register'' v w q f later);
          }

-- A command is not ill-formed. Nothing cites it; it says that `None` alone is.
pub not-ill : (c : Option Command) → (c ≡ None → ⊥) → is_ill c ≡ false
not-ill None h = absurd (h refl)
not-ill (Some c) h = refl
