-- What a turn's step is made of, in order: a node may be taken and filled, one link is stored, colours change, the nodes that leave are
-- retired. So a reader's side can follow standings, holders and the queue without the trees.
use Rattle.std.specs.Prelude.{ℕ, ◌≡◌, refl, List, [], ◌∷◌}
use Rattle.std.proofs.Common.{ap, ◌∙◌}
use Rattle.datatypes.specs.declared.Side.{Side}
use Rattle.datatypes.specs.declared.Link.{Link}
use Rattle.datatypes.specs.declared.Register.{Register}
use Rattle.datatypes.specs.declared.Write.{Write}
use Rattle.spec.specs.Register.{State, set_link, with_held, with_awaited, with_write}
use Rattle.spec.specs.Free.{take_node, retire, retire_two}
use Rattle.spec.specs.Turn.{Made, made}
use Rattle.heap.specs.ColourWork.{ColoursOnly, colours_only-refl}

-- before the store: the state itself, or with the first free node taken
pub data Based (st : State) : List ℕ → State → Type 0 where
  unchanged : Based st [] st
  filled : (k v : ℕ) (s : Side) (x y c : ℕ) → Based st (st.register.first ∷ []) (take_node st k v s x y c)

-- root, queue and readers
pub record SameQueue (r q : Register) : Type 0 where
  pub root : q.root ≡ r.root
  pub first : q.first ≡ r.first
  pub last : q.last ≡ r.last
  pub free : q.free ≡ r.free
  pub readers : q.readers ≡ r.readers

pub same_queue : {r q : Register} → q ≡ r → SameQueue r q
same_queue e = record {
  root = ap (λ x. x.root) e;
  first = ap (λ x. x.first) e;
  last = ap (λ x. x.last) e;
  free = ap (λ x. x.free) e;
  readers = ap (λ x. x.readers) e;
}

pub queue-trans : {r q u : Register} → SameQueue r q → SameQueue q u → SameQueue r u
queue-trans a b = record {
  root = b.root ∙ a.root;
  first = b.first ∙ a.first;
  last = b.last ∙ a.last;
  free = b.free ∙ a.free;
  readers = b.readers ∙ a.readers;
}

pub held-queue : (r : Register) (h : ℕ) → SameQueue r (with_held r h)
unfolding with_held
held-queue r h = record { root = refl; first = refl; last = refl; free = refl; readers = refl }

pub await-queue : (r : Register) (a : ℕ) (w : Write) → SameQueue r (with_write (with_awaited r a) w)
unfolding with_write with_awaited
await-queue r a w = record { root = refl; first = refl; last = refl; free = refl; readers = refl }

-- the nodes that leave, one or two
abbrev pub retire_all : State → List ℕ → State
retire_all st [] = st
retire_all st (a ∷ []) = retire st a
retire_all st (a ∷ c ∷ l) = retire_two st a c

pub record Parts (st : State) (m : Made) (new gone : List ℕ) : Type 0 where
  pub base : State
  pub based : Based st new base
  pub mid : State
  pub only : ColoursOnly (set_link base m.link m.node).pool mid.pool
  pub queue : SameQueue (set_link base m.link m.node).register mid.register
  pub retired : m.after ≡ retire_all mid gone

-- a copying store: nothing is painted or retired
pub copied : (st base : State) (m : Made) (l : Link) (n : ℕ) (new : List ℕ) → Based st new base → m ≡ made (set_link base l n) l n → Parts st m new []
copied st base m l n new b e = rw e record { base = base; based = b; mid = set_link base l n; only = colours_only-refl _; queue = same_queue refl; retired = refl }

-- any store, from its parts
pub parts-of : (st base mid : State) (m : Made) (l : Link) (n : ℕ) (new gone : List ℕ) → Based st new base → ColoursOnly (set_link base l n).pool mid.pool
    → SameQueue (set_link base l n).register mid.register → m ≡ made (retire_all mid gone) l n → Parts st m new gone
parts-of st base mid m l n new gone b t q e = rw e record { base = base; based = b; mid = mid; only = t; queue = q; retired = refl }
