-- A write in hand filled store by store, and how many stores a fix-up's ending plans.
use Rattle.std.specs.Prelude.{◌≡◌, refl, List, [], ◌∷◌, ◌++◌, cond, length, set, take, replicate, eqb, map, get_or, ℕ, ◌+◌, ◌-◌, ◌<◌, ◌≤◌}
use Rattle.std.proofs.Common.{sym, ap, ◌∙◌, append-nil, append_assoc, length-append, arith}
use Rattle.std.proofs.Math.Seq.{take-set-lt, set-append_seam}
use Rattle.std.proofs.lemmas.List.{take-append-le, take_more, length-map, length-take-le, map-append}
use Rattle.datatypes.specs.declared.Link.{Link}
use Rattle.datatypes.specs.declared.Side.{Side}
use Rattle.datatypes.specs.declared.Form.{Form}
use Rattle.datatypes.specs.declared.Form.TheVariants.{Diag, Zig}
use Rattle.datatypes.specs.declared.Step.{Step}
use Rattle.datatypes.specs.declared.Store.{Store}
use Rattle.datatypes.specs.declared.Write.{Write}
use Rattle.datatypes.specs.declared.Fixup.{Fixup}
use Rattle.datatypes.specs.declared.Purpose.TheVariants.{ForInsert, RedSibling}
use Rattle.datatypes.specs.declared.Ending.{Ending}
use Rattle.datatypes.specs.declared.Rotation.{Rotation}
use Rattle.datatypes.specs.Side.{other, same_side, link_at, owner, side_of}
use Rattle.base.specs.Walk.{cond_both}
use Rattle.spec.specs.Numbers.{most_stores}
use Rattle.spec.specs.Pool.{child, is_red}
use Rattle.spec.specs.Register.{no_write, vacant, write_of}
use Rattle.spec.specs.Plan.{store, rotation_stores, turn_stores, ending_stores, rotation, insert_fixup}
use Rattle.spec.specs.Plan.{red_child, black_sibling as black_sibling_of, red_sibling, delete_fixup, fixup_after_removal}

-- a write of no store
pub no_stores : write_of [] ≡ no_write
unfolding write_of
no_stores = refl

abbrev pub pushed : Write → Store → Write
pushed w x = record { stores = set w.stores w.count x; count = w.count + 1 }

abbrev pub push_all : Write → List Store → Write
push_all w [] = w
push_all w (x ∷ xs) = push_all (pushed w x) xs

others : List Store
others = replicate (most_stores - 1) vacant

push-one : (a : List Store) (x : Store) → length a < most_stores → pushed (write_of a) x ≡ write_of (a ++ x ∷ [])
unfolding write_of others
push-one a x h =
    let e : set (take most_stores (a ++ vacant ∷ others)) (length a) x ≡ take most_stores ((a ++ x ∷ []) ++ replicate most_stores vacant) =
    sym (take-set-lt most_stores (a ++ vacant ∷ others) (length a) x h)
    ∙ (ap (take most_stores) (set-append_seam a vacant others x)
    ∙ (sym (take-append-le most_stores (a ++ x ∷ others) (vacant ∷ []) (rw length-append (omega arith)))
    ∙ ap (take most_stores) (append_assoc a (x ∷ others) (vacant ∷ []) ∙ sym (append_assoc a (x ∷ []) (replicate most_stores vacant))))) in
    let n : length a + 1 ≡ length (a ++ x ∷ []) = sym (length-append a (x ∷ [])) in
    λ i. record { stores = e i; count = n i }

pub push_write : (a b : List Store) → length a + length b ≤ most_stores → push_all (write_of a) b ≡ write_of (a ++ b)
push_write a [] h = ap write_of (sym (append-nil a))
push_write a (x ∷ b) h =
    ap (λ (w : Write). push_all w b) (push-one a x (omega arith))
    ∙ (push_write (a ++ x ∷ []) b (rw length-append (omega arith)) ∙ ap write_of (append_assoc a (x ∷ []) b))

pub push-write : (a b : List Store) → length a + length b ≤ most_stores → push_all (write_of a) b ≡ write_of (a ++ b)
push-write = push_write

-- a write of one store
pub one_store : (x : Store) → pushed no_write x ≡ write_of (x ∷ [])
one_store x = ap (λ (w : Write). pushed w x) (sym no_stores) ∙ push-one [] x (omega arith)

-- the stores of the first steps at a link, and of one step more
pub steps_one : (l : Link) (steps : List Step) (i : ℕ) (d : Step) → i < length steps → i < most_stores
    → pushed (write_of (map (store l) (take i steps))) (store l (get_or steps i d)) ≡ write_of (map (store l) (take (i + 1) steps))
steps_one l steps i d h b =
    let n : length (map (store l) (take i steps)) ≡ i = length-map (take i steps) (store l) ∙ length-take-le i steps (omega arith) in
    push-one (map (store l) (take i steps)) (store l (get_or steps i d)) (omega arith)
    ∙ ap write_of (sym (map-append (store l) (take i steps) (get_or steps i d ∷ [])) ∙ ap (map (store l)) (sym (take_more steps i d h)))

-- one rotation plans at most three stores
pub rotation-short : (t : Rotation) → length (rotation_stores t) ≤ 3
rotation-short t = by t.form
  where
    by : (f : Form) → length (turn_stores f t.link t.side t.purpose) ≤ 3
    by Diag = omega arith
    by Zig = omega arith

abbrev pub Few : ℕ → Ending → Type 0
Few n e = length (ending_stores e) ≤ n

abbrev pub Short : ℕ → Fixup → Type 0
Short n c = Few n c.ending

-- an insert's ending plans at most three; the check sees it in the cases, and `insert-short` (proofs/) alone cites it
pub insert_fixup-short : (p : List ℕ) (m : ℕ) (path : List Link) → Short 3 (insert_fixup p m path)
unfolding insert_fixup
insert_fixup-short p m [] = omega arith
insert_fixup-short p m (x ∷ []) = omega arith
insert_fixup-short p m (x ∷ y ∷ []) = cond_both (Few 3) (is_red p (owner x)) (omega arith) (omega arith)
insert_fixup-short p m (x ∷ y ∷ z ∷ up) =
    let s = side_of y in
    let form = cond (same_side (side_of x) s) Diag Zig in
    cond_both (Short 3) (is_red p (owner x))
    (cond_both (Short 3) (is_red p (child p (other s) (owner y))) (insert_fixup-short p (m + 1) (z ∷ up)) (rotation-short (rotation z form s ForInsert)))
    (omega arith)

-- a black sibling's three at most, after a red sibling's two
sibling-short : (p : List ℕ) (l : Link) (z : Side) (w : ℕ) → Few 5 (red_sibling p l z w)
unfolding red_sibling
sibling-short p l z w =
    let s = other z in
    let inner = child p s w in
    let first = rotation l Diag z RedSibling in
    let second = black_sibling_of p (link_at s w) z inner in
    cond_both (Few 5) (eqb inner 0)
    (omega arith)
    (cond_both (Few 5) (red_child p inner)
    (rw (length-append (rotation_stores first) (rotation_stores second)) (let h = rotation-short second in omega arith))
    (omega arith))

delete_fixup-short : (p : List ℕ) (m x : ℕ) (path : List Link) → Short 5 (delete_fixup p m x path)
unfolding delete_fixup
delete_fixup-short p m x [] = cond_both (Few 5) (is_red p x) (omega arith) (omega arith)
delete_fixup-short p m x (l ∷ []) = cond_both (Few 5) (is_red p x) (omega arith) (omega arith)
delete_fixup-short p m x (l ∷ above ∷ up) =
    let z = other (side_of l) in
    let w = child p z (owner l) in
    cond_both (Short 5) (is_red p x)
    (omega arith)
    (cond_both (Short 5) (eqb w 0)
    (omega arith)
    (cond_both (Short 5) (is_red p w)
    (sibling-short p above z w)
    (cond_both (Short 5) (red_child p w) (let h = rotation-short (black_sibling_of p above z w) in omega arith) (delete_fixup-short p (m + 1) (owner l) (above ∷ up)))))

pub removal_short : (p : List ℕ) (n x : ℕ) (path : List Link) → Short 5 (fixup_after_removal p n x path)
unfolding fixup_after_removal
removal_short p n x path = cond_both (Short 5) (is_red p n) (omega arith) (delete_fixup-short p 0 x path)

pub removal-short : (p : List ℕ) (n x : ℕ) (path : List Link) → Short 5 (fixup_after_removal p n x path)
removal-short = removal_short
