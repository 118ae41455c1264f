-- The store of delete's first form, unlink, from phase to phase.
use Rattle.std.specs.Prelude.{ℕ, ◌≡◌, refl, true, List, [], ◌∷◌}
use Rattle.std.proofs.Common.{sym, ap, ◌∙◌, subst, ne_eqb, eq-eqb, arith}
use Rattle.std.proofs.Math.Path.{fun_ext}
use Rattle.std.proofs.Math.Decide.{ℕ_discrete}
use Rattle.datatypes.specs.declared.Side.{Side}
use Rattle.datatypes.specs.declared.Side.TheVariants.{L, R}
use Rattle.datatypes.specs.declared.Step.TheVariants.{Unlink}
use Rattle.datatypes.specs.Side.{other}
use Rattle.spec.specs.Pool.{child, is_red}
use Rattle.spec.specs.Register.{State, set_link}
use Rattle.spec.specs.Free.{retire}
use Rattle.spec.specs.Search.{path_to}
use Rattle.spec.specs.Plan.{only_child, fixup_after_removal, paint_delete_fixup, store}
use Rattle.spec.specs.Turn.{made, one_less, unlink_store, step_finds}
use Rattle.sequential.specs.Tree.{Colour, black, Tree, colour_of}
use Rattle.tree.specs.Linked.{Linked, nil, at}
use Rattle.tree.specs.LinkedOrder.{ordered-bare, ordered-within, into-top}
use Rattle.tree.specs.Zipper.{plug, Into, same_but-lift}
use Rattle.tree.specs.Stores.{unlink-order, unlink-find}
use Rattle.tree.specs.Forms.{delete-first}
use Rattle.tree.specs.Erase.{erase, erase_way, erase-at, erase-plug, erase-find}
use Rattle.tree.specs.Ways.{first-fixup-finds}
use Rattle.tree.specs.Occurs.{occ-at, occ-plug, turnover-plug, unlink-turnover}
use Rattle.tree.specs.Phases.{writes-whole, unlink-writes}
use Rattle.tree.specs.DeleteFixup.{DeleteFixupFinds}
use Rattle.heap.specs.Rep.{Rep}
use Rattle.heap.specs.Sites.{link_to, links}
use Rattle.heap.specs.Colours.{redly, colours, colours-link, red-tree}
use Rattle.heap.specs.Fill.{retire-quiet}
use Rattle.heap.specs.Paths.{path-to}
use Rattle.heap.specs.Fixups.{Sides, way-sides, rep-num}
use Rattle.heap.specs.Moves.{At, clear_of, link-size, link-held, fields-trans, fields-queued, held-fields, same-fields}
use Rattle.heap.specs.Lowers.{is-node, Top, top_of}
use Rattle.heap.specs.Raises.{Raised, raised-link}
use Rattle.heap.specs.ColourWork.{colours_only-removal}
use Rattle.heap.specs.Parts.{unchanged, same_queue, queue-trans, held-queue, parts-of}
use Rattle.heap.specs.Tolds.{told-delete}
use Rattle.heap.specs.Places.{Single, single_top, single_tree}
use Rattle.heap.specs.Phase.{Lined, Phase, phase-alike, UnlinkPlan, removal_stores}
use Rattle.heap.specs.Shift.{by-unlink, Next, once-less}
use Rattle.heap.specs.Inserts.{Small, way-short, once-way}
use Rattle.heap.specs.InsertStep.{held-root, held-is}
use Rattle.heap.specs.RemovalFixup.{removal-phase, removal-there, removal-alike, removal-register}

-- the child that there is, or 0
pub only-is : (p : List ℕ) (s : Side) (b : ℕ) → child p (other s) b ≡ 0 → only_child p b ≡ child p s b
only-is p L b e = elim (ℕ_discrete (child p L b) 0) [ yes z ↦ rw (eq-eqb (child p L b) 0 z, e, z) | no d ↦ rw (ne_eqb (child p L b) 0 d) ]
only-is p R b e = rw (eq-eqb (child p L b) 0 e)

module _ (st : State) (G : Tree) (d : Single) (h : At st d.way (single_top d)) (plan : UnlinkPlan (colours st.pool) G d) (small : Small st.pool) where
  open d use {way as fs, side as s, B, only as x}
  open plan use {sound as good, proper, goal}

  abbrev p : List ℕ
  p = st.pool

  abbrev f : ℕ → Colour
  f = colours st.pool

  abbrev T : Linked
  T = single_tree d

  abbrev n : ℕ
  n = child st.pool s B.num

  top : Top st fs s B x nil
  top = top_of st fs s B x nil h

  into : Into B.key fs
  into = into-top fs s B x nil (ordered-bare f _ T good.proper.ordered)

  path-is : path_to p st.register.root B.key (link_to fs) ≡ links fs
  path-is =
      let a = way-short p st.register.root fs (at s B x nil) small h good in
      path-to p st.register.root B.key fs into (once-way fs (at s B x nil) good.once) (omega arith) h.way

  abbrev linked : State
  linked = one_less (set_link st (link_to fs) n)

  abbrev coloured : State
  coloured = paint_delete_fixup linked (fixup_after_removal p B.num n (links fs)) n (links fs)

  unlink-is : unlink_store st (link_to fs) ≡ made (retire coloured B.num) (link_to fs) n
  unfolding unlink_store
  unlink-is = rw (top.is, top.words.key-is, only-is p s B.num top.far, path-is)

  raised : Raised st (set_link st (link_to fs) n) fs x
  raised =
      raised-link st fs (at s B x nil) x n
      (clear_of fs (at s B x nil) x good.once (λ i w. let a = good.once i in let b = occ-plug fs (at s B x nil) i in let c = occ-at s B x nil i in omega arith)) h top.near

  site : At linked fs x
  site = rw (held-root (set_link st (link_to fs) n).register _) raised.site

  lined : Lined G (plug fs x)
  lined = record {
    once = once-less (B.num ∷ []) T (plug fs x) (turnover-plug fs (B.num ∷ []) [] (at s B x nil) x (unlink-turnover s B x)) good.once;
    ordered = (writes-whole fs (at s B x nil) x into (unlink-writes s B x)).ordered (ordered-bare f _ T good.proper.ordered);
    told = told-delete G (erase f T) B.key T (plug fs x) (goal ∙ sym (delete-first f fs s B x into)) good.proper.ordered (erase-find f T)
        (same_but-lift fs into (unlink-find s B x (unlink-order s B x (ordered-within fs (at s B x nil) (ordered-bare f _ T good.proper.ordered)))));
  }

  fixup-finds : f B.num ≡ black → DeleteFixupFinds (colour_of (erase f x)) (erase_way f fs)
  fixup-finds e = first-fixup-finds s (erase_way f fs) B.key B.val (erase f x) (colour_of (erase f x)) (rw (erase-plug f fs (at s B x nil), erase-at f s B x nil, e) at good.proper.redblack)

  is-red : is_red p n ≡ redly (colour_of (erase f x))
  is-red = red-tree p n x top.near

  sides : Sides p fs
  sides = way-sides p st.register.root fs h.way

  rep-after : Rep linked.pool n x
  rep-after = let a = rep-num linked.pool _ x site.sub in let b = rep-num p n x top.near in subst (λ i. Rep linked.pool i x) (a ∙ sym b) site.sub

  phase : Phase (retire coloured B.num).pool (retire coloured B.num).register.root G (plug fs x) (removal_stores f B x fs)
  phase =
      let q = retire-quiet coloured B.num in
      rw q.fields.root (phase-alike q.words coloured.register.root G
      (removal-phase st linked G fs x n B.num (fun_ext (colours-link st (link_to fs) n)) site rep-after is-red sides lined proper (f B.num) refl fixup-finds goal))

  pub unlink-0-next : Next st G T (unlink_store st (link_to fs)) (store (link_to fs) Unlink) (removal_stores f B x fs)
  unlink-0-next =
      let q = retire-quiet coloured B.num in
      let c = fixup_after_removal p B.num n (links fs) in
      let a = fields-trans raised.fields
      (fields-trans (held-fields (set_link st (link_to fs) n).register _) (fields-trans (same-fields (removal-register linked c n (links fs))) (fields-queued q.fields))) in
      rw unlink-is record {
        tree = plug fs x;
        gone = B.num ∷ [];
        shift = rw (rep-num p n x top.near) (by-unlink fs s B x (ordered-bare f _ T good.proper.ordered) good.once);
        phase = phase;
        parts = parts-of st st coloured _ (link_to fs) n [] (B.num ∷ []) unchanged (colours_only-removal linked c n (links fs))
            (queue-trans (held-queue (set_link st (link_to fs) n).register _) (same_queue (removal-register linked c n (links fs)))) refl;
        size = q.words.size ∙ (removal-alike linked c n (links fs)).size ∙ link-size st (link_to fs) n;
        held = q.fields.held ∙ ap (λ r. r.held) (removal-register linked c n (links fs)) ∙ held-is (set_link st (link_to fs) n).register _ ∙ rw (link-held st (link_to fs) n);
        fields = record { readers = a.readers; awaited = a.awaited; write = a.write };
      }

  pub unlink-0-finds : step_finds st (link_to fs) Unlink ≡ true
  unfolding step_finds
  unlink-0-finds =
      rw (
        top.is,
        top.words.key-is,
        only-is p s B.num top.far,
        path-is,
        is-node B.num top.words.within.low,
        removal-there p B.num n (colour_of (erase f x)) fs is-red sides fixup-finds,
      )
