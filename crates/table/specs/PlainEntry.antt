-- An entry of the plain list's tables (01, 'Plain list'): what it is fed, and the tickets that it has then; and the computed test that an entry passes.
use Rattle.std.specs.Prelude.{ℕ, Bool, true, false, ◌&&◌, List, [], ◌∷◌, length, eqb}
use Prim.Native.String.{String}
use Rattle.std.proofs.Math.Option.{Option, none, some}
use Rattle.sequential.specs.Tree.{Tree, leaf}
use Rattle.spec.specs.Calls.{Answer, Call}
use Rattle.spec.specs.PlainList.{Ticket, Plain, none_accepted, notice_of, record_for, feed}

-- a key and its record
infix 70 ◌is◌
pub data Listed : Type 0 where
  ◌is◌ : (k v : ℕ) → Listed

-- A line: a call with what it answered, or the tickets that stand, each named.
infix 70 ◌gave◌
pub data Line : Type 0 where
  ◌gave◌ : (c : Call) (a : Answer) → Line
  lists : List Listed → Line

pub record Entry : Type 0 where
  pub title : String
  pub start : Plain
  pub lines : List Line

-- it starts as on an index just set up, or with a tree and its tickets
abbrev pub entry : String → List Line → Entry
entry title lines = record { title = title; start = none_accepted leaf []; lines = lines }

abbrev pub entry_from : String → Tree → List Ticket → List Line → Entry
entry_from title t ts lines = record { title = title; start = none_accepted t ts; lines = lines }

abbrev is_record : Option ℕ → ℕ → Bool
is_record none v = false
is_record (some w) v = eqb w v

abbrev has_all : Plain → List Listed → Bool
has_all x [] = true
has_all x ((k is v) ∷ ts) = is_record (record_for k x.tickets) v && has_all x ts

abbrev holds_from : Plain → List Line → Bool
holds_from x [] = true
holds_from x ((c gave a) ∷ later) = holds_from (feed x c (notice_of a)) later
holds_from x (lists ts ∷ later) = has_all x ts && eqb (length x.tickets) (length ts) && holds_from x later

abbrev pub all_listed : List Entry → Bool
all_listed [] = true
all_listed (e ∷ es) = holds_from e.start e.lines && all_listed es
