-- Worked calls of T and L, checked by computation: they answer ok and change nothing, or are refused by tests 1 and 2 alone.
use Rattle.std.specs.Prelude.{ℕ, ◌/◌, ◌%◌, ◌≡◌, refl, true, List, [], ◌∷◌, ◌++◌, replicate}
use Rattle.base.specs.Walk.{all_from, all_in}
use Rattle.datatypes.specs.declared.Link.TheVariants.{Left}
use Rattle.datatypes.specs.declared.Step.TheVariants.{Insert}
use Rattle.datatypes.specs.declared.Kind.TheVariants as kind
use Rattle.datatypes.specs.declared.Register.{Register}
use Rattle.spec.specs.Numbers.{word_limit}
use Rattle.spec.specs.Pool.{word, node_in_range, pool_in_range, length_right, fresh_nodes, fresh_pool}
use Rattle.spec.specs.Register.{State, state, no_reader, vacant, store_in_range, register_in_range, fresh_register, fresh}
use Rattle.spec.specs.Calls.{Answer, ok, refused, Outcome, outcome}
use Rattle.command_fields.specs.declared.Command.TheVariants as command
use Rattle.commands.specs.Performed.{shown, called, performed}

-- what T and L do, and that both answer so and change nothing
abbrev both : State → List Outcome
both st = called st command.Show ∷ called st command.Page ∷ []

abbrev unchanged : Answer → State → List Outcome
unchanged a st = outcome a st ∷ outcome a st ∷ []

-- Slot 0 reads and is awaited, a write is in hand, two nodes are free; nodes 3 and 4 are retired, with words at their largest.
abbrev node : (key value left right colour standing holders next : ℕ) → List ℕ
node k v l r c s h n = k ∷ v % word_limit ∷ v / word_limit ∷ l ∷ r ∷ c ∷ s ∷ h ∷ n ∷ []

abbrev six_nodes : List ℕ
six_nodes =
    node 3 30 2 5 0 1 0 0 ++ (node 1 10 0 0 1 1 0 0 ++ (node 2 20 8 8 1 2 1 8 ++ (node 4294967295 18446744073709551615 8 8 1 2 4294967295 8
    ++ (node 7 70 0 6 0 1 0 0 ++ node 9 90 0 0 1 1 0 0))))

-- with the colour of node 8
abbrev pool : ℕ → List ℕ
pool colour = six_nodes ++ (node 0 0 0 0 0 0 0 8 ++ node 0 0 0 0 colour 0 0 0)

-- with the root
abbrev register : ℕ → Register
register root =
    record {
      root = root;
      first = 7;
      last = 8;
      free = 2;
      held = 4;
      readers = record { reading = true; kind = kind.Lookup; remembers = true; key = 1; node = 2; best = 3; value = 30; compared = 2 } ∷ replicate 31 no_reader;
      awaited = 1;
      write = record { stores = record { link = Left 2; step = Insert 0 5 } ∷ replicate 6 vacant; count = 1 };
    }

busy-shown : both (state (pool 1) (register 1)) ≡ unchanged ok (state (pool 1) (register 1))
unfolding all_from all_in word node_in_range pool_in_range length_right store_in_range register_in_range shown
busy-shown = refl

-- an empty index
empty-shown : both (fresh 8) ≡ unchanged ok (fresh 8)
unfolding all_from all_in word node_in_range pool_in_range length_right fresh_nodes fresh_pool store_in_range register_in_range fresh_register fresh shown
empty-shown = refl

-- 1 before P, and with seven nodes, one word more than eight nodes have, a word and a register out of range
none-shown : both (state [] (register 0)) ≡ unchanged (refused 1) (state [] (register 0))
unfolding all_from all_in word node_in_range pool_in_range length_right store_in_range register_in_range shown
none-shown = refl

seven-shown : both (state (six_nodes ++ node 0 0 0 0 2 0 0 0) (register 9)) ≡ unchanged (refused 1) (state (six_nodes ++ node 0 0 0 0 2 0 0 0) (register 9))
unfolding all_from all_in word node_in_range pool_in_range length_right store_in_range register_in_range shown
seven-shown = refl

long-shown : both (state (pool 2 ++ 0 ∷ []) (register 1)) ≡ unchanged (refused 1) (state (pool 2 ++ 0 ∷ []) (register 1))
unfolding all_from all_in word node_in_range pool_in_range length_right store_in_range register_in_range shown
long-shown = refl

-- 2 for a word of a node that no slot names, and for a field of the register
word-shown : both (state (pool 2) (register 1)) ≡ unchanged (refused 2) (state (pool 2) (register 1))
unfolding all_from all_in word node_in_range pool_in_range length_right store_in_range register_in_range shown
word-shown = refl

field-shown : both (state (pool 1) (register 9)) ≡ unchanged (refused 2) (state (pool 1) (register 9))
unfolding all_from all_in word node_in_range pool_in_range length_right store_in_range register_in_range shown
field-shown = refl

-- The words after those lent are not looked at; before P none is lent.
abbrev both_of : (words : List ℕ) (lent : ℕ) → Register → List Outcome
both_of words lent r = performed words lent r command.Show ∷ performed words lent r command.Page ∷ []

lent-shown : both_of (pool 1 ++ node 9 9 9 9 9 9 9 9) 72 (register 1) ≡ unchanged ok (state (pool 1) (register 1))
unfolding all_from all_in word node_in_range pool_in_range length_right store_in_range register_in_range shown performed
lent-shown = refl

unlent-shown : both_of (pool 1) 0 (register 1) ≡ unchanged (refused 1) (state [] (register 1))
unfolding all_from all_in word node_in_range pool_in_range length_right store_in_range register_in_range shown performed
unlent-shown = refl
