-- The stores still to come after a step: how many nodes they take; and what a store that is no list store leaves as it was.
use Rattle.std.specs.Prelude.{ℕ, ◌+◌, ◌≡◌, refl, Bool, true, false, List, [], ◌∷◌, map, length}
use Rattle.std.proofs.Common.{sym, ap}
use Rattle.std.proofs.lemmas.Bool.{false≢true}
use Rattle.base.specs.Walk.{cond_both}
use Rattle.datatypes.specs.declared.Link.{Link}
use Rattle.datatypes.specs.declared.Step.{Step}
use Rattle.datatypes.specs.declared.Step.TheVariants.{Vacant, Insert, Replace, DiagLower, DiagRaise, ZigLowerA, ZigLowerC, ZigRaise, Unlink, Adopt, Promote, Publish, Detach, LinkAll}
use Rattle.datatypes.specs.declared.Store.{Store}
use Rattle.spec.specs.Register.{State, link_node}
use Rattle.spec.specs.Turn.{moved_store, Listing, unlisted, key_comes, key_stays, key_goes, keys_come, profile, is_listed, counted_by}
use Rattle.heap.specs.Shift.{is_list_store, taken_if, taken_by, held_after, later}

-- how many nodes the stores to come take
abbrev pub takes_all : List Store → ℕ
takes_all [] = 0
takes_all (s ∷ l) = length (taken_by s.step 0) + takes_all l

-- A store that is no list store renames nothing, by the table of profiles,
plain-keeps : (x : Step) → is_list_store x ≡ false → (profile x).renames ≡ false
plain-keeps Vacant e = refl
plain-keeps (Insert k v) e = refl
plain-keeps (Replace v) e = refl
plain-keeps (DiagLower s c) e = refl
plain-keeps (DiagRaise s c) e = refl
plain-keeps (ZigLowerA s c) e = refl
plain-keeps (ZigLowerC s c) e = refl
plain-keeps (ZigRaise s c) e = refl
plain-keeps Unlink e = refl
plain-keeps Adopt e = refl
plain-keeps Promote e = refl
plain-keeps (Publish c) e = absurd (false≢true (sym e))
plain-keeps (Detach k) e = refl
plain-keeps (LinkAll m n) e = refl

pub later-plain : (st : State) (l : Link) (x : Step) (w : List Store) → is_list_store x ≡ false → later st l x w ≡ w
later-plain st l x w e = rw (plain-keeps x e)

-- and counts nothing
unlisted-count : (a : Listing) (capacity h : ℕ) → is_listed a ≡ false → counted_by a capacity h ≡ h
unlisted-count unlisted capacity h e = refl
unlisted-count key_comes capacity h e = absurd (false≢true (sym e))
unlisted-count key_stays capacity h e = refl
unlisted-count key_goes capacity h e = absurd (false≢true (sym e))
unlisted-count (keys_come m) capacity h e = absurd (false≢true (sym e))

pub held_plain : (x : Step) (capacity h : ℕ) → is_list_store x ≡ false → held_after x capacity h ≡ h
held_plain x capacity h e = unlisted-count (profile x).listing capacity h e

map-takes : (b n : ℕ) (l : List Store) → takes_all (map (moved_store b n) l) ≡ takes_all l
map-takes b n [] = refl
map-takes b n (s ∷ l) = ap (λ m. length (taken_by s.step 0) + m) (map-takes b n l)

pub later-takes : (st : State) (l : Link) (x : Step) (w : List Store) → takes_all (later st l x w) ≡ takes_all w
later-takes st l x w = cond_both (λ v. takes_all v ≡ takes_all w) (profile x).renames (map-takes (link_node st l) st.register.first w) refl

taken_if-length : (b : Bool) (n m : ℕ) → length (taken_if b n) ≡ length (taken_if b m)
taken_if-length true n m = refl
taken_if-length false n m = refl

pub taken-length : (x : Step) (n m : ℕ) → length (taken_by x n) ≡ length (taken_by x m)
taken-length x n m = taken_if-length (profile x).takes n m
