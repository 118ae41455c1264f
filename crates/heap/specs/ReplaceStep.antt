-- The store of an insert of a held key, replace, from phase to phase. After it the write is done: the tree is at rest, with another node in B's
-- place and all else as it was.
use Rattle.std.specs.Prelude.{ℕ, ◌<◌, ◌≡◌, refl, true, List, [], ◌∷◌}
use Rattle.std.proofs.Common.{sym, ◌∙◌, arith}
use Rattle.datatypes.specs.declared.Side.TheVariants.{L}
use Rattle.datatypes.specs.declared.Step.TheVariants.{Replace}
use Rattle.spec.specs.Register.{State}
use Rattle.spec.specs.Free.{retire}
use Rattle.spec.specs.Plan.{store}
use Rattle.spec.specs.Turn.{made, colour_of as colour_word_of, replace_store, step_finds}
use Rattle.sequential.specs.Tree.{Colour, Tree}
use Rattle.sequential.specs.Delete.{insertion}
use Rattle.tree.specs.Linked.{Node, replacement, Linked, cell, nodes}
use Rattle.tree.specs.LinkedOrder.{ordered-bare, into-top}
use Rattle.tree.specs.Zipper.{Frame, plug}
use Rattle.tree.specs.Erase.{erase, erase-plug}
use Rattle.tree.specs.Forms.{replace-linked}
use Rattle.tree.specs.Changes.{changed-proper}
use Rattle.tree.specs.Occurs.{occ, turnover-plug, replace-turnover}
use Rattle.heap.specs.Sites.{link_to, site-of, of-site}
use Rattle.heap.specs.Colours.{colours, colours-alike, erase-occ, way-occ}
use Rattle.heap.specs.Fill.{retire-quiet}
use Rattle.heap.specs.Moves.{At, Fresh, LinkedIn, at-quiet, fields-trans, fields-queued}
use Rattle.heap.specs.Lowers.{is-node, not-empty, Top, top_of}
use Rattle.heap.specs.InPlace.{taken, linked, place-count, in_place, old-kept, new-as-old}
use Rattle.heap.specs.ColourWork.{colours_only-refl}
use Rattle.heap.specs.Parts.{filled, same_queue, parts-of}
use Rattle.heap.specs.Phase.{ReplacePlan, Phase, at_rest_lem}
use Rattle.heap.specs.Shift.{by-replace, Next, once-turnover}

module _ (st : State) (G : Tree) (v : ℕ) (fs : List Frame) (B : Node) (l r : Linked) (h : At st fs (cell B l r)) (plan : ReplacePlan (colours st.pool) G v fs B l r)
    (fresh : Fresh st (plug fs (cell B l r))) where
  open plan use {sound as good, goal}

  abbrev f : ℕ → Colour
  f = colours st.pool

  abbrev n : ℕ
  n = st.register.first

  abbrev T : Linked
  T = plug fs (cell B l r)

  abbrev N : Node
  N = replacement B n v

  abbrev U : Linked
  U = plug fs (cell N l r)

  top : Top st fs L B l r
  top = top_of st fs L B l r h

  abbrev stored : State
  stored = linked st fs B l r B.key v

  abbrev after : State
  after = retire stored B.num

  replace-is : replace_store st (link_to fs) v ≡ made after (link_to fs) n
  unfolding replace_store
  replace-is = rw (top.is, top.words.key-is)

  in_tree : LinkedIn st stored fs (cell N l r) (colour_word_of st B.num)
  in_tree = in_place st fs B l r B.key v h good.once fresh

  abbrev g : ℕ → Colour
  g = colours after.pool

  quiet-colour : (i : ℕ) → g i ≡ colours stored.pool i
  quiet-colour i = colours-alike (retire-quiet stored B.num).words i

  kept : (i : ℕ) → 0 < occ i (nodes T) → g i ≡ f i
  kept = old-kept st fs B l r B.key v h good.once fresh g quiet-colour

  -- the tree with its colours is the sequential one
  erased : erase g U ≡ G
  erased =
      let count = place-count fs B l r in
      let way = way-occ f g fs (λ i w. kept i (let a = count i in omega arith)) in
      let left = erase-occ f g l (λ i w. kept i (let a = count i in omega arith)) in
      let right = erase-occ f g r (λ i w. kept i (let a = count i in omega arith)) in
      let new-colour = new-as-old st fs B l r B.key v h good.once fresh g quiet-colour in
      let into = into-top fs L B l r (ordered-bare f _ T good.proper.ordered) in
      erase-plug g fs (cell N l r) ∙ rw (way, left, right, new-colour) (sym (goal ∙ replace-linked f fs B l r v into))

  phase : Phase after.pool after.register.root G U []
  phase =
      let rep = of-site after.pool after.register.root fs (cell N l r) (at-quiet {st = stored} {after = after} (retire-quiet stored B.num) fs (cell N l r) in_tree.site) in
      let once = once-turnover (B.num ∷ []) n T U (turnover-plug fs (B.num ∷ []) (n ∷ []) (cell B l r) (cell N l r) (replace-turnover B n v l r)) good.once fresh.new in
      at_rest_lem U (site-of after.pool after.register.root [] U rep)
      (record { once = once; proper = rw (erased, goal) (changed-proper (erase f T) (insertion B.key v) good.proper) }) erased

  pub replace-0-next : Next st G T (replace_store st (link_to fs) v) (store (link_to fs) (Replace v)) []
  replace-0-next =
      let q = retire-quiet stored B.num in
      let a = fields-trans in_tree.fields (fields-queued q.fields) in
      rw replace-is record {
        tree = U;
        gone = B.num ∷ [];
        shift = by-replace fs B n v l r good.once fresh.new;
        phase = phase;
        parts = parts-of st (taken st fs B l r B.key v) stored _ (link_to fs) n (n ∷ []) (B.num ∷ [])
            (filled B.key v L _ _ (colour_word_of st B.num)) (colours_only-refl _) (same_queue refl) refl;
        size = q.words.size ∙ in_tree.size;
        held = q.fields.held ∙ in_tree.held;
        fields = record { readers = a.readers; awaited = a.awaited; write = a.write };
      }

  pub replace-0-finds : step_finds st (link_to fs) (Replace v) ≡ true
  unfolding step_finds
  replace-0-finds = rw (top.is, is-node B.num top.words.within.low, not-empty st T fresh)
