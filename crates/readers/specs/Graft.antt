-- A store of one link seen from any link of the pool: every tree there is grafted (tree: Graft). For the trees of readers, which may stand
-- anywhere, also at nodes that left the tree.
use Rattle.std.specs.Prelude.{ℕ, ◌≡◌, Bool, true, false, cond, List, length}
use Rattle.std.proofs.Common.{sym, ap, ◌∙◌, arith, ne_eqb}
use Rattle.datatypes.specs.declared.Side.{Side}
use Rattle.datatypes.specs.declared.Side.TheVariants.{L, R}
use Rattle.spec.specs.Pool.{word, child, key_word, record_at}
use Rattle.tree.specs.Linked.{Linked, nil, cell}
use Rattle.tree.specs.Graft.{hits, graft, All, Keyed}
use Rattle.heap.specs.Rep.{Rep}

-- Pools p and q: of the nodes that matter (U), q has p's words but for d's link on the side s, which is b.
pub record Redirects (p q : List ℕ) (U : ℕ → Type 0) (d : ℕ) (s : Side) (b : ℕ) : Type 0 where
  pub size : length q ≡ length p
  pub keys : (n : ℕ) → U n → word q n key_word ≡ word p n key_word
  pub records : (n : ℕ) → U n → record_at q n ≡ record_at p n
  pub links : (n : ℕ) (z : Side) → U n → child q z n ≡ cond (hits d s n z) b (child p z n)

module _ (p q : List ℕ) (U : ℕ → Type 0) (d : ℕ) (s : Side) (b : ℕ) (tb : Linked) (h : Redirects p q U d s b) (hb : Rep q b tb) where
  either : (x : Bool) (t : Linked) (a : ℕ) → Rep q a t → Rep q (cond x b a) (cond x tb t)
  either true t a r = hb
  either false t a r = r

  pub rep-graft : (t : Linked) (a : ℕ) → All U t → Rep p a t → Rep q a (graft d s tb t)
  rep-graft nil a u r = r
  rep-graft (cell N l r) a u w = (
    record {
      is = w.0.is;
      within = record { low = w.0.within.low; high = rw h.size w.0.within.high };
      key-is = h.keys N.num u.0 ∙ w.0.key-is;
      val_is = h.records N.num u.0 ∙ w.0.val_is;
    },
    rw (h.links N.num L u.0) (either (hits d s N.num L) (graft d s tb l) (child p L N.num) (rep-graft l _ u.1 w.1)),
    rw (h.links N.num R u.0) (either (hits d s N.num R) (graft d s tb r) (child p R N.num) (rep-graft r _ u.2 w.2)),
  )

-- with no node's link redirected (0 is no node) the trees are the same
pub rep-same : (p q : List ℕ) (U : ℕ → Type 0) → Redirects p q U 0 L 0 → (t : Linked) (a : ℕ) → All U t → Rep p a t → Rep q a t
rep-same p q U h nil a u r = r
rep-same p q U h (cell N l r) a u w =
    let z = ne_eqb 0 N.num (let x = w.0.within.low in omega arith) in (
      record {
        is = w.0.is;
        within = record { low = w.0.within.low; high = rw h.size w.0.within.high };
        key-is = h.keys N.num u.0 ∙ w.0.key-is;
        val_is = h.records N.num u.0 ∙ w.0.val_is;
      },
      rw (h.links N.num L u.0, z) (rep-same p q U h l _ u.1 w.1),
      rw (h.links N.num R u.0) (rep-same p q U h r _ u.2 w.2),
    )

-- every occurrence of d has the pool's key
pub rep-keyed : (p : List ℕ) (d : ℕ) (t : Linked) (a : ℕ) → Rep p a t → Keyed d (word p d key_word) t
rep-keyed p d nil a h = tt
rep-keyed p d (cell N l r) a h = (λ e. sym h.0.key-is ∙ ap (λ n. word p n key_word) (sym e), rep-keyed p d l _ h.1, rep-keyed p d r _ h.2)
