-- Two ways that differ in one node on the right, as B's and C's in a promote: a fix-up's ending, its levels and its colours are the same
-- where the erased ways are.
use Rattle.std.specs.Prelude.{ℕ, zero, suc, ◌<◌, ◌≡◌, refl, ◌≢◌, List, [], ◌∷◌}
use Rattle.std.proofs.Common.{ap, inl, arith}
use Rattle.datatypes.specs.declared.Side.{Side}
use Rattle.datatypes.specs.declared.Side.TheVariants.{L, R}
use Rattle.spec.specs.Numbers.{node_words}
use Rattle.spec.specs.Pool.{child, link_word}
use Rattle.spec.specs.Register.{State, set_link}
use Rattle.laws.specs.Words.{word-other}
use Rattle.sequential.specs.Tree as Seq
use Rattle.sequential.specs.Tree.{Colour, Tree}
use Rattle.tree.specs.Linked.{Node, Linked}
use Rattle.tree.specs.Zipper.{Frame, hole}
use Rattle.tree.specs.Erase.{erase, erase_way}
use Rattle.tree.specs.Occurs.{one, one_same, occ_way}
use Rattle.tree.specs.Recolour.{DeleteColours}
use Rattle.tree.specs.DeleteFixup.{frames_up, DeleteFixupEnd, darken, at_black_sibling, at_red_sibling}
use Rattle.heap.specs.Sites.{link_to, set_link_lem, set-root}
use Rattle.heap.specs.Fixups.{tip, delete_fixup_ending}

-- the tip's colour is seen in the erased way
pub tip_of : Colour → ℕ → List Seq.Frame → Colour
tip_of c zero fs = c
tip_of c (suc m) [] = c
tip_of c (suc m) (Seq.frame s d k v y ∷ fs) = tip_of d m fs

pub tip-way : (f : ℕ → Colour) (c : Colour) (m : ℕ) (fs : List Frame) → tip f c m fs ≡ tip_of c m (erase_way f fs)
unfolding tip_of
tip-way f c zero fs = refl
tip-way f c (suc m) [] = refl
tip-way f c (suc m) (hole s N y ∷ fs) = tip-way f (f N.num) m fs

-- a frame's node matters neither to the ending nor, but for its colour, to the levels
module _ (M N : Node) (l : Linked) (fs : List Frame) where
  pub ending-swap : (e : DeleteFixupEnd) (c : Colour) (m : ℕ) → delete_fixup_ending e c (frames_up m (hole R M l ∷ fs)) ≡ delete_fixup_ending e c (frames_up m (hole R N l ∷ fs))
  ending-swap darken c zero = refl
  ending-swap (at_black_sibling b) c zero = refl
  ending-swap (at_red_sibling o) c zero = refl
  ending-swap e c (suc m) = refl

  pub up-swap : (m : ℕ) → m ≢ 0 → frames_up m (hole R M l ∷ fs) ≡ frames_up m (hole R N l ∷ fs)
  up-swap zero d = absurd (d refl)
  up-swap (suc m) d = refl

  pub up_way : (f g : ℕ → Colour) (m : ℕ) → erase_way g (hole R N l ∷ fs) ≡ erase_way f (hole R M l ∷ fs) → erase_way g (frames_up m (hole R N l ∷ fs)) ≡ erase_way f (frames_up m (hole R M l ∷ fs))
  up_way f g zero h = h
  up_way f g (suc m) h = over m fs (ap tail_of h)
    where
      tail_of : List Seq.Frame → List Seq.Frame
      tail_of [] = []
      tail_of (x ∷ xs) = xs

      over : (m : ℕ) (fs : List Frame) → erase_way g fs ≡ erase_way f fs → erase_way g (frames_up m fs) ≡ erase_way f (frames_up m fs)
      over zero fs h = h
      over (suc m) [] h = refl
      over (suc m) (hole s P y ∷ fs) h = over m fs (ap tail_of h)

  pub delete_fixup-swap : (m : ℕ) (f g : ℕ → Colour) → g N.num ≡ f N.num → DeleteColours m f g (hole R M l ∷ fs) → DeleteColours m f g (hole R N l ∷ fs)
  delete_fixup-swap zero f g e h =
      let a : erase g l ≡ erase f l = ap tree_of h in
      let b : erase_way g fs ≡ erase_way f fs = ap tail_of h in
      rw (e, a, b)
    where
      tail_of : List Seq.Frame → List Seq.Frame
      tail_of [] = []
      tail_of (x ∷ xs) = xs

      tree_of : List Seq.Frame → Tree
      tree_of [] = Seq.leaf
      tree_of (Seq.frame s c k v y ∷ xs) = y
  delete_fixup-swap (suc m) f g e h = (e, h.1, h.2)

-- a link of another node, and a colour, leave a node's links
pub link-else : (st : State) (fs : List Frame) (v b : ℕ) (s : Side) → occ_way b fs ≡ 0 → child (set_link st (link_to fs) v).pool s b ≡ child st.pool s b
link-else st [] v b s o = rw (set-root st v)
link-else st (hole z D y ∷ fs) v b s o =
    let apart : D.num ≢ b = λ e. let x = one_same b in let k : one b D.num ≡ one b b = rw e in omega arith in
    rw (set_link_lem st z D.num v) (word-other st.pool D.num b (link_word z) (link_word s) v (fits z) (fits s) (inl apart))
  where
    fits : (s : Side) → link_word s < node_words
    fits L = omega arith
    fits R = omega arith
