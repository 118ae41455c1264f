-- The first store of delete's second form, adopt, from phase to phase.
use Rattle.std.specs.Prelude.{ℕ, ◌+◌, ◌≡◌, refl, true, List, [], ◌∷◌}
use Rattle.std.proofs.Math.Path.{fun_ext}
use Rattle.std.proofs.Common.{arith}
use Rattle.datatypes.specs.declared.Side.TheVariants.{L, R}
use Rattle.datatypes.specs.declared.Link.TheVariants.{Left}
use Rattle.datatypes.specs.declared.Step.TheVariants.{Adopt, Promote}
use Rattle.spec.specs.Pool.{child}
use Rattle.spec.specs.Register.{State, set_link}
use Rattle.spec.specs.Plan.{store}
use Rattle.spec.specs.Turn.{made, adopt_store, step_finds}
use Rattle.sequential.specs.Tree.{Colour, Tree}
use Rattle.tree.specs.Linked.{Node, Linked, nil, cell, at, nodes}
use Rattle.tree.specs.LinkedOrder.{ordered-bare}
use Rattle.tree.specs.Zipper.{Frame, hole, plug}
use Rattle.tree.specs.Occurs.{one, one_same, occ, occ-at, occ_way, occ-plug}
use Rattle.heap.specs.Sites.{link_to, site-up}
use Rattle.heap.specs.Colours.{colours, colours-link}
use Rattle.heap.specs.Moves.{At}
use Rattle.heap.specs.Lowers.{is-node, Top, top_of, near_down, far-down, below-is}
use Rattle.heap.specs.Raises.{Raised, raised-link}
use Rattle.heap.specs.Parts.{unchanged, copied}
use Rattle.heap.specs.Places.{Double, double_top, double_tree, adopted, way_to_c}
use Rattle.heap.specs.Phase.{promote-0, DoublePlan, removal_stores}
use Rattle.heap.specs.Shift.{by-adopt, Next}
use Rattle.heap.specs.Fixups.{rep-num}

pub form-count : (fs : List Frame) (B C : Node) (l x y : Linked) (i : ℕ)
    → occ i (nodes (plug fs (at L B l (at L C x y)))) ≡ one i B.num + occ i (nodes l) + (one i C.num + occ i (nodes x) + occ i (nodes y)) + occ_way i fs
form-count fs B C l x y i =
    let a = occ-plug fs (at L B l (at L C x y)) i in
    let b = occ-at L B l (at L C x y) i in
    let c = occ-at L C x y i in
    omega arith

module _ (st : State) (G : Tree) (d : Double) (h : At st d.way (double_top d [])) (plan : DoublePlan (colours st.pool) G d []) where
  open d use {way as fs, B, C, left as l, right as y}
  open plan use {left_there, sound as good}

  abbrev f : ℕ → Colour
  f = colours st.pool

  abbrev n : ℕ
  n = child st.pool L B.num

  top : Top st fs L B l (at L C nil y)
  top = top_of st fs L B l (at L C nil y) h

  low : Top st (hole R B l ∷ fs) L C nil y
  low = top_of st (hole R B l ∷ fs) L C nil y (far-down st fs L B l (at L C nil y) h)

  c-is : child st.pool R B.num ≡ C.num
  c-is = below-is st R L B.num C nil y top.far

  adopt-is : adopt_store st (link_to fs) ≡ made (set_link st (Left C.num) n) (Left C.num) n
  unfolding adopt_store
  adopt-is = rw (top.is, c-is)

  raised : Raised st (set_link st (Left C.num) n) (hole L C y ∷ hole R B l ∷ fs) l
  raised =
      let a = good.once C.num in
      let b = form-count fs B C l nil y C.num in
      let c = one_same C.num in
      raised-link st (hole L C y ∷ hole R B l ∷ fs) nil l n (omega arith, omega arith, omega arith)
      (near_down st (hole R B l ∷ fs) L C nil y (far-down st fs L B l (at L C nil y) h)) top.near

  pub adopt-0-next : Next st G (double_tree d []) (adopt_store st (link_to fs)) (store (link_to fs) Adopt) (store (link_to fs) Promote ∷ removal_stores f C y (way_to_c d []))
  adopt-0-next =
      let after = set_link st (Left C.num) n in
      let e : colours after.pool ≡ f = fun_ext (colours-link st (Left C.num) n) in
      let site = site-up after.pool after.register.root fs R B (cell C l y) l (site-up after.pool after.register.root (hole R B l ∷ fs) L C l y raised.site) in
      rw adopt-is record {
        tree = plug fs (adopted d);
        gone = [];
        shift = rw (rep-num st.pool n l top.near) (by-adopt fs B C l y left_there (ordered-bare f _ (double_tree d []) good.proper.ordered) good.once);
        phase = rw e (promote-0 d site plan);
        parts = copied st st _ (Left C.num) n [] unchanged refl;
        size = raised.size;
        held = raised.held;
        fields = record { readers = raised.fields.readers; awaited = raised.fields.awaited; write = raised.fields.write };
      }

  pub adopt-0-finds : step_finds st (link_to fs) Adopt ≡ true
  unfolding step_finds
  adopt-0-finds = rw (top.is, c-is, is-node C.num low.words.within.low)
