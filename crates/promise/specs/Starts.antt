-- The starts that a run may have: an index at rest, with no slot reading, that holds a red-black tree of rising keys. An index just set up is
-- one (runs: Begin), and so is every moment at rest with no slot reading (theorem: Cut); one built of handed-over bytes (C-19) will be.
use Rattle.std.specs.Prelude.{ℕ, ◌*◌, ◌≤◌, ◌<◌, ◌≡◌, false, ◌≢◌, ◌↔◌, length}
use Rattle.sequential.specs.Tree.{find}
use Rattle.sequential.specs.Proper.{Proper}
use Rattle.spec.specs.Numbers.{node_words, least_nodes, most_nodes, slots}
use Rattle.spec.specs.Pool.{standing_linked, standing_retired, standing_apart}
use Rattle.spec.specs.Register.{no_write}
use Rattle.spec.specs.Calls.{out_of_range, reading}
use Rattle.spec.specs.PlainList.{record_for, Unique}
use Rattle.promise.specs.Run.{Start}
use Rattle.promise.specs.Demands.{Leads, standing_at, Stands, FreeRight}

pub record SoundStart (S : Start) : Type 0 where
  -- tests 1 and 2 pass: N is from the least to the largest, the length N times a node's words, no word or field is outside its range
  pub least : least_nodes ≤ S.size
  pub most : S.size ≤ most_nodes
  pub words : length S.index.pool ≡ S.size * node_words
  pub in_range : out_of_range S.index ≡ false
  -- each slot has a record; none is reading or awaited; no write is in hand
  pub per_slot : length S.index.register.readers ≡ slots
  pub quiet : (s : ℕ) → s < slots → reading S.index s ≡ false
  pub unawaited : S.index.register.awaited ≡ 0
  pub idle : S.index.register.write ≡ no_write
  -- the root's tree is the start's, red-black with rising keys; the nodes that stand linked are its nodes
  pub stands : Stands S.index.pool S.index.register.root S.tree
  pub proper : Proper S.tree
  pub linked : (n : ℕ) → (standing_at S.index n ≡ standing_linked) ↔ Leads S.index.pool S.index.register.root n
  -- all others stand free and are queued
  pub unretired : (n : ℕ) → standing_at S.index n ≢ standing_retired
  pub unapart : (n : ℕ) → standing_at S.index n ≢ standing_apart
  pub free : FreeRight S.index
  -- the plain list has the tree's tickets, one for a key; keys held is their number
  pub told : (k : ℕ) → record_for k S.tickets ≡ find S.tree k
  pub once : Unique S.tickets
  pub held : S.index.register.held ≡ length S.tickets
