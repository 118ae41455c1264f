-- A sound start has the writer's side of the invariant: the root unfolds to a linked tree, which is the start's with numbers; its nodes are
-- distinct, since its keys are.
use Rattle.std.specs.Prelude.{ℕ, ◌<◌, ◌≡◌, refl, List, []}
use Rattle.std.proofs.Common.{sym, ap, ◌∙◌, inl, inr, ⊎_elim, arith}
use Rattle.std.proofs.Math.Option.{Option, none, some}
use Rattle.sequential.specs.Delete.{Change, list_insertion}
use Rattle.std.proofs.Math.Decide.{dec_le}
use Rattle.base.specs.Lists.{◌∈◌, in-append}
use Rattle.datatypes.specs.declared.Side.{Side}
use Rattle.datatypes.specs.declared.Side.TheVariants.{L, R}
use Rattle.sequential.specs.Tree as Seq
use Rattle.sequential.specs.Proper.{Ord, Below, Ordered, Proper}
use Rattle.sequential.specs.Tree.{Colour, red, black, Tree, leaf, node}
use Rattle.spec.specs.Pool.{word, child, key_word}
use Rattle.spec.specs.Register.{no_write, write_of}
use Rattle.tree.specs.Linked.{Linked, nil, cell, nodes}
use Rattle.tree.specs.Occurs.{one-case, occ, occ-append, occ-in}
use Rattle.tree.specs.Erase.{erase, erase-find}
use Rattle.heap.specs.Rep.{Rep}
use Rattle.heap.specs.Sites.{site-of}
use Rattle.heap.specs.Colours.{hue, colours, colours-is}
use Rattle.heap.specs.Moves.{Once}
use Rattle.heap.specs.Phase.{at_rest_lem}
use Rattle.promise.specs.Run.{Start, outset}
use Rattle.promise.specs.Demands.{colour_number, Stands}
use Rattle.readers.specs.Words.{node_in_lem}
use Rattle.readers.specs.Reach.{leads-in, in-leads}
use Rattle.promise.specs.Starts.{SoundStart}
use Rattle.theorem.specs.WriterSide.{over, WriterSide}

hue-of : (c : Colour) → hue (colour_number c) ≡ c
hue-of red = refl
hue-of black = refl

-- the linked tree of a link that stands for a tree
record Drawn (p : List ℕ) (a : ℕ) (t : Tree) : Type 0 where
  drawn : Linked
  rep : Rep p a drawn
  same : erase (colours p) drawn ≡ t

draw : (p : List ℕ) (t : Tree) (a : ℕ) → Stands p a t → Drawn p a t
draw p leaf a h = record { drawn = nil; rep = h; same = refl }
draw p (node c k v l r) a h =
    let x = draw p l (child p L a) h.5 in
    let y = draw p r (child p R a) h.6 in
    let e : colours p a ≡ c = colours-is p a (colour_number c) h.4 ∙ hue-of c in
    let i = x.same in
    let j = y.same in
    record {
      drawn = cell (record { num = a; key = k; val = v }) x.drawn y.drawn;
      rep = (record { is = refl; within = node_in_lem p a h.0 h.1; key-is = h.2; val_is = h.3 }, x.rep, y.rep);
      same = cc;
    }

-- A node's key is the pool's: so no node stands twice in a tree of rising keys.
key_below : (p : List ℕ) (s : Side) (k : ℕ) (T : Linked) (a n : ℕ) → Rep p a T → Below s k (erase (colours p) T) → n ∈ nodes T → Ord s (word p n key_word) k
key_below p s k nil a n h b i = absurd i
key_below p s k (cell N x y) a n h b (inl e) = rw (e, h.0.key-is) b.0
key_below p s k (cell N x y) a n h b (inr i) =
    ⊎_elim (λ j. key_below p s k x _ n h.1 b.1 j) (λ j. key_below p s k y _ n h.2 b.2 j) ((in-append n (nodes x) (nodes y)).0 i)

pub once-ordered : (p : List ℕ) (T : Linked) (a : ℕ) → Rep p a T → Ordered (erase (colours p) T) → Once T
once-ordered p nil a h o n = omega arith
once-ordered p (cell N x y) a h o n =
    let split = occ-append n (nodes x) (nodes y) in
    let l = once-ordered p x _ h.1 o.2 n in
    let r = once-ordered p y _ h.2 o.3 n in
    let f : 0 < occ n (nodes x) → word p n key_word < N.key = λ u. key_below p L N.key x _ n h.1 o.0 (occ-in n (nodes x) u) in
    let g : 0 < occ n (nodes y) → N.key < word p n key_word = λ u. key_below p R N.key y _ n h.2 o.1 (occ-in n (nodes y) u) in
    one-case n N.num
    (λ e i. (let t : word p n key_word ≡ N.key = rw e h.0.key-is in
    let u : ¬ (0 < occ n (nodes x)) = λ z. (let w = f z in omega arith) in
    let v : ¬ (0 < occ n (nodes y)) = λ z. (let w = g z in omega arith) in
    omega arith))
    (λ d i. elim (dec_le 1 (occ n (nodes x))) [
      | yes u ↦ (let w = f u in let v : ¬ (0 < occ n (nodes y)) = λ z. (let q = g z in omega arith) in omega arith)
      | no u ↦ omega arith
    ])

pub none-in-hand : write_of [] ≡ no_write
unfolding write_of
none-in-hand = refl

none-change : (c : Change) → ¬ (◌≡◌ {A = Option Change} none (some c))
none-change c e = let z : ◌≡◌ {A = ℕ} 0 1 = cc in absurd (omega arith)

pub writer_side-start : (S : Start) → SoundStart S → (T : Linked) × WriterSide S.index (outset S).plain T
writer_side-start S h =
    let p = S.index.pool in
    let root = S.index.register.root in
    let d = draw p S.tree root h.stands in
    let T = d.drawn in
    let ordered : Ordered (erase (colours p) T) = rw d.same h.proper.ordered in
    let proper : Proper (erase (colours p) T) = rw d.same h.proper in (
      T,
      record {
        stores = [];
        hand = record {
          phase = at_rest_lem T (site-of p root [] T d.rep) (record { once = once-ordered p T root d.rep ordered; proper = proper }) d.same;
          write = h.idle ∙ sym none-in-hand;
          room = omega arith;
          small = (let a = h.words in let b = h.most in omega arith);
        };
        linked = λ n. (λ e. leads-in p T root n d.rep ((h.linked n).0 e), λ i. (h.linked n).1 (in-leads p T root n d.rep i));
        finds = λ k. sym (erase-find (colours p) T k) ∙ ap (λ t. Seq.find t k) d.same ∙ sym (h.told k);
        held = h.held;
        unique = h.once;
        takes = omega arith;
        timing = over [] tt tt;
        unapart = h.unapart;
        listed = λ ks vs e. absurd (none-change (list_insertion ks vs) e);
        few = omega arith;
        started = h.proper;
      },
    )
