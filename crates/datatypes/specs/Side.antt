-- Sides and links. 01, 'Pool and register': in a store a link is the root, a node's left or a node's right.
use Rattle.std.specs.Prelude.{ℕ, ◌≡◌, refl, Bool, true, false}
use Rattle.datatypes.specs.declared.Side.{Side}
use Rattle.datatypes.specs.declared.Side.TheVariants.{L, R}
use Rattle.datatypes.specs.declared.Link.{Link}
use Rattle.datatypes.specs.declared.Link.TheVariants.{Root, Left, Right}

abbrev pub other : Side → Side
other L = R
other R = L

abbrev pub same_side : Side → Side → Bool
same_side L L = true
same_side L R = false
same_side R L = false
same_side R R = true

-- a node's link on a side
abbrev pub link_at : Side → ℕ → Link
link_at L n = Left n
link_at R n = Right n

-- the node whose link it is; the root link is no node's
abbrev pub owner : Link → ℕ
owner Root = 0
owner (Left n) = n
owner (Right n) = n

-- the side of a node's link
abbrev pub side_of : Link → Side
side_of Root = L
side_of (Left n) = L
side_of (Right n) = R

pub other-other : (s : Side) → other (other s) ≡ s
other-other L = refl
other-other R = refl

pub owner_at : (s : Side) (n : ℕ) → owner (link_at s n) ≡ n
owner_at L n = refl
owner_at R n = refl
