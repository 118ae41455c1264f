-- An entry of the tables of examples: the pool and register lent, calls with the answers that they must give, looks at what stands in
-- between; and the computed test that an entry passes. What stands is compared as numbers.
use Rattle.std.specs.Prelude.{ℕ, zero, suc, ◌+◌, ◌/◌, Bool, true, false, cond, not, ◌&&◌, ◌||◌, List, [], ◌∷◌, ◌++◌, length, get_or, take, drop, replicate, eqb}
use Prim.Native.String.{String}
use Rattle.datatypes.specs.declared.Side.{Side}
use Rattle.datatypes.specs.declared.Side.TheVariants as side
use Rattle.datatypes.specs.declared.Link.{Link}
use Rattle.datatypes.specs.declared.Link.TheVariants.{Root, Left, Right}
use Rattle.datatypes.specs.declared.Purpose.{Purpose}
use Rattle.datatypes.specs.declared.Purpose.TheVariants.{ForInsert, RedSibling, BlackSibling}
use Rattle.datatypes.specs.declared.Step.{Step}
use Rattle.datatypes.specs.declared.Step.TheVariants.{Vacant, Insert, Replace, DiagLower, DiagRaise, ZigLowerA, ZigLowerC, ZigRaise, Unlink, Adopt}
use Rattle.datatypes.specs.declared.Step.TheVariants.{Promote, Publish, Detach, LinkAll}
use Rattle.datatypes.specs.declared.Store.{Store}
use Rattle.datatypes.specs.declared.Kind.{Kind}
use Rattle.datatypes.specs.declared.Kind.TheVariants as kind
use Rattle.datatypes.specs.declared.Reader.{Reader}
use Rattle.datatypes.specs.declared.Register.{Register}
use Rattle.spec.specs.Register.{State}
use Rattle.spec.specs.Turn.{Profile, profile, counted_by}
use Rattle.spec.specs.Calls.{Answer, ok, go, absent, wait, found, next, more, done, refused, Outcome, Call, inserting, deleting, writing}
use Rattle.spec.specs.Calls.{beginning, turning, giving_up, inserting_list, call, set_up, turn_count}
use Rattle.table.specs.Picture.{Row, Picture, Change, node_words, row_words, words_before, node_in, drawn, none, ◌on◌, left, right, standing, ◌but◌}

-- The calls by the letters of trace: P set up, I insert, D delete, W writer's turn, B begin, S begin a search for the next ticket, R reader's
-- turn, E give up.
pub data Request : Type 0 where
  P : Request
  calls : (c : Call) → Request

abbrev pub I : ℕ → ℕ → Request
I k v = calls (inserting k v)

abbrev pub D : ℕ → Request
D k = calls (deleting k)

abbrev pub W : Request
W = calls writing

abbrev pub B : ℕ → ℕ → Request
B s k = calls (beginning kind.Lookup s k)

abbrev pub S : ℕ → ℕ → Request
S s g = calls (beginning kind.Next s g)

abbrev pub R : ℕ → Request
R s = calls (turning s)

abbrev pub E : ℕ → Request
E s = calls (giving_up s)

-- A line of an entry. A call with its answer: one that is refused or answers wait must leave every word and field as it was, and a store must
-- have done what its step's profile says. counted: a reader's turn, with the count that its reply says (02, C-17).
-- stands: what stands now is this picture. still: a node has these words, whatever it stands as. holds: a node has just these nine words.
-- leaves: what stands now is what was lent with these changes, every word and field.
infix 70 ◌⇒◌
infix 70 ◌⇒◌counted◌
infix 70 ◌holds◌
pub data Line : Type 0 where
  ◌⇒◌ : (r : Request) (a : Answer) → Line
  ◌⇒◌counted◌ : (r : Request) (a : Answer) (h : ℕ) → Line
  stands : Picture → Line
  still : Row → Line
  ◌holds◌ : (n : ℕ) (ws : List ℕ) → Line
  leaves : List Change → Line

pub record Entry : Type 0 where
  pub title : String
  pub lent : State
  pub lines : List Line

abbrev pub entry : String → State → List Line → Entry
entry title lent lines = record { title = title; lent = lent; lines = lines }

-- a writer's turn that is refused by 12
abbrev pub gives12 : String → State → Entry
gives12 title lent = entry title lent (W ⇒ refused 12 ∷ [])

-- so many slots from s on begin a lookup of the key k
abbrev pub begins : ℕ → ℕ → ℕ → List Line
begins zero s k = []
begins (suc m) s k = B s k ⇒ ok ∷ begins m (s + 1) k

-- Answers, registers and states as numbers: equal numbers are equal things. One number for the kind, then its values.
abbrev link_numbers : Link → List ℕ
link_numbers Root = 0 ∷ 0 ∷ []
link_numbers (Left n) = 1 ∷ n ∷ []
link_numbers (Right n) = 2 ∷ n ∷ []

abbrev answer_numbers : Answer → List ℕ
answer_numbers ok = 0 ∷ []
answer_numbers go = 1 ∷ []
answer_numbers absent = 2 ∷ []
answer_numbers wait = 3 ∷ []
answer_numbers (found v) = 4 ∷ v ∷ []
answer_numbers (more l n) = 5 ∷ n ∷ link_numbers l
answer_numbers (done l n) = 6 ∷ n ∷ link_numbers l
answer_numbers (refused n) = 7 ∷ n ∷ []
answer_numbers (next k v) = 8 ∷ k ∷ v ∷ []

abbrev side_number : Side → ℕ
side_number side.L = 0
side_number side.R = 1

abbrev purpose_number : Purpose → ℕ
purpose_number ForInsert = 0
purpose_number RedSibling = 1
purpose_number BlackSibling = 2

-- three numbers each
abbrev step_numbers : Step → List ℕ
step_numbers Vacant = 0 ∷ 0 ∷ 0 ∷ []
step_numbers (Insert k v) = 1 ∷ k ∷ v ∷ []
step_numbers (DiagLower s purpose) = 2 ∷ side_number s ∷ purpose_number purpose ∷ []
step_numbers (DiagRaise s purpose) = 3 ∷ side_number s ∷ purpose_number purpose ∷ []
step_numbers (ZigLowerA s purpose) = 4 ∷ side_number s ∷ purpose_number purpose ∷ []
step_numbers (ZigLowerC s purpose) = 5 ∷ side_number s ∷ purpose_number purpose ∷ []
step_numbers (ZigRaise s purpose) = 6 ∷ side_number s ∷ purpose_number purpose ∷ []
step_numbers Unlink = 7 ∷ 0 ∷ 0 ∷ []
step_numbers Adopt = 8 ∷ 0 ∷ 0 ∷ []
step_numbers Promote = 9 ∷ 0 ∷ 0 ∷ []
step_numbers (Publish n) = 10 ∷ n ∷ 0 ∷ []
step_numbers (Detach k) = 11 ∷ k ∷ 0 ∷ []
step_numbers (Replace v) = 12 ∷ v ∷ 0 ∷ []
step_numbers (LinkAll m n) = 13 ∷ m ∷ n ∷ []

abbrev stores_numbers : List Store → List ℕ
stores_numbers [] = []
stores_numbers (x ∷ xs) = link_numbers x.link ++ step_numbers x.step ++ stores_numbers xs

abbrev kind_number : Kind → ℕ
kind_number kind.Lookup = 0
kind_number kind.Next = 1

abbrev readers_numbers : List Reader → List ℕ
readers_numbers [] = []
readers_numbers (x ∷ xs) =
    cond x.reading 1 0 ∷ kind_number x.kind ∷ cond x.remembers 1 0 ∷ x.key ∷ x.node ∷ x.best ∷ x.value ∷ x.compared ∷ readers_numbers xs

abbrev head_numbers : Register → List ℕ
head_numbers r = r.root ∷ r.first ∷ r.last ∷ r.free ∷ r.held ∷ r.awaited ∷ r.write.count ∷ readers_numbers r.readers

abbrev same_numbers : List ℕ → List ℕ → Bool
same_numbers [] [] = true
same_numbers [] (b ∷ ys) = false
same_numbers (a ∷ xs) [] = false
same_numbers (a ∷ xs) (b ∷ ys) = eqb a b && same_numbers xs ys

abbrev same_state : State → State → Bool
same_state x y =
    same_numbers (head_numbers x.register) (head_numbers y.register)
    && same_numbers (stores_numbers x.register.write.stores) (stores_numbers y.register.write.stores)
    && same_numbers x.pool y.pool

-- The k nodes from n on are as a picture shows them: p is the pool from node n on. Of a free node the words from standing on count.
abbrev nodes_shown : Picture → ℕ → ℕ → List ℕ → Bool
nodes_shown x zero n p = same_numbers p []
nodes_shown x (suc k) n p =
    let words = node_in x n in
    let from = cond (eqb (get_or words standing 0) 0) standing 0 in
    same_numbers (drop from (take node_words p)) (drop from words) && nodes_shown x k (n + 1) (drop node_words p)

abbrev is_shown : State → Picture → Bool
is_shown st x =
    let N = length x.linked + length x.retired + length x.queue in
    let shown = drawn 0 x (replicate x.numbers.stores none) in
    same_numbers (head_numbers st.register) (head_numbers shown.register) && nodes_shown x N 1 st.pool

abbrev is_still : List ℕ → Row → Bool
is_still p r = same_numbers (take standing (drop (words_before r.node) p)) (take standing (row_words r 0 0))

abbrev same_bool : Bool → Bool → Bool
same_bool true b = b
same_bool false b = not b

abbrev any_reads : List Reader → Bool
any_reads [] = false
any_reads (x ∷ xs) = x.reading || any_reads xs

-- The node that a link holds; the stores to come with B's right link as the copy's.
abbrev node_on : State → Link → ℕ
node_on st Root = st.register.root
node_on st (Left n) = get_or st.pool (words_before n + left) 0
node_on st (Right n) = get_or st.pool (words_before n + right) 0

abbrev on_copy : ℕ → ℕ → Link → Link
on_copy b copy Root = Root
on_copy b copy (Left n) = Left n
on_copy b copy (Right n) = Right (cond (eqb n b) copy n)

abbrev renamed : ℕ → ℕ → List Store → List Store
renamed b copy [] = []
renamed b copy (x ∷ xs) = (x.step on on_copy b copy x.link) ∷ renamed b copy xs

-- What a turn that made a store did is what its step's profile says (spec, Turn). It takes a node just if the queue's first moves on; keys held
-- are counted by its listing; slots are awaited after it just if it awaits and some read; the stores to come are those that followed, renamed
-- just if it renames them.
abbrev as_profiled : Profile → State → State → Bool
as_profiled x before after =
    let r = before.register in
    let q = after.register in
    let later = drop 1 r.write.stores ++ none ∷ [] in
    let b = node_on before (get_or r.write.stores 0 none).link in
    (eqb r.first 0 || same_bool x.takes (not (eqb r.first q.first)))
    && eqb q.held (counted_by x.listing (length before.pool / node_words) r.held)
    && same_bool (not (eqb q.awaited 0)) (x.awaits && any_reads r.readers)
    && same_numbers (stores_numbers q.write.stores) (stores_numbers (cond x.renames (renamed b r.first later) later))

abbrev first_step : State → Step
first_step st = (get_or st.register.write.stores 0 none).step

-- What an answer says of the state before and after: a call that is refused or answers wait leaves pool and register as they were.
abbrev agrees : Answer → State → State → Bool
agrees ok x y = true
agrees go x y = true
agrees absent x y = true
agrees wait x y = same_state x y
agrees (found v) x y = true
agrees (next k v) x y = true
agrees (more l n) x y = as_profiled (profile (first_step x)) x y
agrees (done l n) x y = as_profiled (profile (first_step x)) x y
agrees (refused n) x y = same_state x y

abbrev outcome_of : State → Request → Outcome
outcome_of st P = set_up st
outcome_of st (calls c) = call st c

-- the reply of a reader's turn says this count; no other call says one
abbrev says_count : State → Request → ℕ → Bool
says_count st P h = false
says_count st (calls (turning s)) h = eqb (turn_count st s) h
says_count st (calls (inserting k v)) h = false
says_count st (calls (deleting k)) h = false
says_count st (calls writing) h = false
says_count st (calls (beginning κ s k)) h = false
says_count st (calls (giving_up s)) h = false
says_count st (calls (inserting_list ks vs)) h = false

-- every line holds of the state st that stands before it; lent is where the entry began
abbrev pub holds_from : State → State → List Line → Bool
holds_from lent st [] = true
holds_from lent st ((r ⇒ a) ∷ later) =
    let o = outcome_of st r in
    same_numbers (answer_numbers o.answer) (answer_numbers a) && agrees a st o.after && holds_from lent o.after later
holds_from lent st ((r ⇒ a counted h) ∷ later) =
    let o = outcome_of st r in
    same_numbers (answer_numbers o.answer) (answer_numbers a) && says_count st r h && agrees a st o.after && holds_from lent o.after later
holds_from lent st (stands x ∷ later) = is_shown st x && holds_from lent st later
holds_from lent st (still r ∷ later) = is_still st.pool r && holds_from lent st later
holds_from lent st ((n holds ws) ∷ later) = same_numbers (take node_words (drop (words_before n) st.pool)) ws && holds_from lent st later
holds_from lent st (leaves cs ∷ later) = same_state st (lent but cs) && holds_from lent st later

abbrev pub passes : Entry → Bool
passes e = holds_from e.lent e.lent e.lines

abbrev pub all_pass : List Entry → Bool
all_pass [] = true
all_pass (e ∷ es) = passes e && all_pass es
