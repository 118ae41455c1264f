-- A new node in B's place, with B's links and colour, another number and its own ticket: what the stores of a replace and of a publish share. The
-- tree at the place, and the colours.
use Rattle.std.specs.Prelude.{ℕ, ◌+◌, ◌<◌, ◌≡◌, refl, List}
use Rattle.std.proofs.Common.{sym, ◌∙◌, arith}
use Rattle.datatypes.specs.declared.Side.TheVariants.{L, R}
use Rattle.spec.specs.Pool.{child}
use Rattle.spec.specs.Register.{State, set_link}
use Rattle.spec.specs.Free.{take_node}
use Rattle.spec.specs.Turn.{colour_of as colour_word_of}
use Rattle.sequential.specs.Tree.{Colour}
use Rattle.tree.specs.Linked.{Node, Linked, cell, nodes}
use Rattle.tree.specs.Zipper.{Frame, plug}
use Rattle.tree.specs.Occurs.{one, occ, occ-at, occ_way, occ-plug}
use Rattle.heap.specs.Sites.{link_to}
use Rattle.heap.specs.Colours.{colours, colours-is}
use Rattle.heap.specs.Moves.{At, Fresh, Once, new_apart, LinkedIn, link-in, clear_of}
use Rattle.heap.specs.Lowers.{top_of}

pub place-count : (fs : List Frame) (B : Node) (l r : Linked) (i : ℕ) → occ i (nodes (plug fs (cell B l r))) ≡ one i B.num + occ i (nodes l) + occ i (nodes r) + occ_way i fs
place-count fs B l r i = let a = occ-plug fs (cell B l r) i in let b = occ-at L B l r i in omega arith

module _ (st : State) (fs : List Frame) (B : Node) (l r : Linked) (k v : ℕ) where
  abbrev p : List ℕ
  p = st.pool

  abbrev n : ℕ
  n = st.register.first

  abbrev T : Linked
  T = plug fs (cell B l r)

  -- with the node taken, and with it in B's link from above
  abbrev pub taken : State
  taken = take_node st k v L (child st.pool L B.num) (child st.pool R B.num) (colour_word_of st B.num)

  abbrev pub linked : State
  linked = set_link taken (link_to fs) st.register.first

  module _ (h : At st fs (cell B l r)) (once : Once (plug fs (cell B l r))) (fresh : Fresh st (plug fs (cell B l r))) where
    pub in_place : LinkedIn st linked fs (cell (record { num = st.register.first; key = k; val = v }) l r) (colour_word_of st B.num)
    in_place =
        let N : Node = record { num = n; key = k; val = v } in
        let top = top_of st fs L B l r h in
        let z = fresh.new in
        let c = place-count fs B l r n in
        link-in st fs (cell B l r) k v L (child p L B.num) (child p R B.num) (colour_word_of st B.num) l r fresh h top.near top.far (omega arith) (omega arith)
        (clear_of fs (cell B l r) (cell N l r) once
        (λ i w. let a = once i in let b = place-count fs B l r i in let d = new_apart i n (nodes T) fresh.new (omega arith) in let e = occ-at L N l r i in omega arith))

    -- The colours, after work that leaves them: the old nodes keep theirs, the new one has B's.
    module _ (g : ℕ → Colour) (same : (i : ℕ) → g i ≡ colours linked.pool i) where
      pub old-kept : (i : ℕ) → 0 < occ i (nodes (plug fs (cell B l r))) → g i ≡ colours st.pool i
      old-kept i m = same i ∙ in_place.old-colours i (λ e. let q : occ n (nodes T) ≡ occ i (nodes T) = rw e in let a = fresh.new in omega arith)

      pub new-as-old : g st.register.first ≡ colours st.pool B.num
      new-as-old = same n ∙ in_place.new-colour ∙ sym (colours-is p B.num (colour_word_of st B.num) refl)
