-- 01, 'Calls': the search, and the paths that the writer's colour work goes by.
use Rattle.std.specs.Prelude.{ℕ, zero, suc, Bool, true, false, cond, List, [], ◌∷◌, eqb, ltb}
use Rattle.datatypes.specs.declared.Side.{Side}
use Rattle.datatypes.specs.declared.Side.TheVariants.{L, R}
use Rattle.datatypes.specs.declared.Link.{Link}
use Rattle.datatypes.specs.declared.Link.TheVariants.{Root, Left, Right}
use Rattle.datatypes.specs.declared.Place.{Place}
use Rattle.datatypes.specs.declared.Place.TheVariants.{Held, Empty, TooDeep}
use Rattle.datatypes.specs.Side.{link_at}
use Rattle.spec.specs.Numbers.{path_bound}
use Rattle.spec.specs.Pool.{word, child, key_word}

-- a smaller key lies left
abbrev pub towards : List ℕ → ℕ → ℕ → Side
towards p k n = cond (ltb k (word p n key_word)) L R

-- The search for the key k from node n, which the link l holds, with so many nodes still allowed. 64 nodes and then a link 0 is an
-- empty place; the 65th node is past the bound even if it has the key.
unfoldable pub seek : List ℕ → ℕ → ℕ → Link → ℕ → Place
seek p k zero l n = cond (eqb n 0) (Empty l) TooDeep
seek p k (suc a) l n =
    let s = towards p k n in
    let deeper = seek p k a (link_at s n) (child p s n) in
    cond (eqb n 0) (Empty l) (cond (eqb k (word p n key_word)) (Held l n) deeper)

abbrev pub same_link : Link → Link → Bool
same_link Root Root = true
same_link Root (Left n) = false
same_link Root (Right n) = false
same_link (Left m) Root = false
same_link (Left m) (Left n) = eqb m n
same_link (Left m) (Right n) = false
same_link (Right m) Root = false
same_link (Right m) (Left n) = false
same_link (Right m) (Right n) = eqb m n

-- A path: the links from a place up to the root, the place's own link first and the root last. Sides go by the path taken.
-- From the link l, which holds node n and has the path `up` above it, down by the key k to the link t; an equal key goes right.
-- Empty if the path comes to an end or has passed 64 nodes before it meets t.
unfoldable pub trail : List ℕ → ℕ → Link → ℕ → Link → ℕ → List Link → List Link
trail p k t zero l n up = cond (same_link l t) (l ∷ up) []
trail p k t (suc a) l n up =
    let s = towards p k n in
    let deeper = trail p k t a (link_at s n) (child p s n) (l ∷ up) in
    cond (same_link l t) (l ∷ up) (cond (eqb n 0) [] deeper)

-- the path from the link t up to the root link, which holds node n
abbrev pub path_to : List ℕ → ℕ → ℕ → Link → List Link
path_to p n k t = trail p k t path_bound Root n []

-- The path to the leftmost node at or below node n, which has the path `up`, its own link first; empty past the nodes allowed.
unfoldable pub leftmost : List ℕ → ℕ → ℕ → List Link → List Link
leftmost p zero n up = []
leftmost p (suc a) n up =
    let deeper = leftmost p a (child p L n) (Left n ∷ up) in
    cond (eqb (child p L n) 0) up deeper
