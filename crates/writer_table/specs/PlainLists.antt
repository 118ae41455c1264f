-- 01, 'Plain list': what it is fed, and the tickets that it has then.
use Rattle.std.specs.Prelude.{◌≡◌, refl, ℕ, true, List, [], ◌∷◌, ◌++◌}
use Rattle.sequential.specs.Tree.{red, black, leaf, node, rel}
use Rattle.spec.specs.Calls.{Answer, ok, go, wait, absent, found, next, done, more, refused, inserting, deleting, writing, beginning, turning, giving_up}
use Rattle.datatypes.specs.declared.Kind.TheVariants as kind
use Rattle.datatypes.specs.declared.Link.TheVariants.{Root}
use Rattle.spec.specs.PlainList.{Ticket}
use Rattle.table.specs.PlainEntry.{◌is◌, Line, ◌gave◌, lists, Entry, entry, entry_from, all_listed}

-- an answer of a turn that made a store; which link it was does not matter
abbrev stored : Answer
stored = more Root 1

abbrev ticket : ℕ → ℕ → Ticket
ticket k v = record { key = k; value = v }

abbrev insert_of : ℕ → ℕ → List Line
insert_of k v = inserting k v gave ok ∷ writing gave done Root 1 ∷ []

abbrev pub plain_lists : List Entry
plain_lists =
    entry "plain list: an insert is listed at its first store, and stays through the others"
    (lists []
    ∷ inserting 3 30 gave ok
    ∷ lists []
    ∷ writing gave stored
    ∷ lists (3 is 30 ∷ [])
    ∷ writing gave stored
    ∷ writing gave done Root 3
    ∷ lists (3 is 30 ∷ [])
    ∷ [])
    ∷ entry "plain list: an insert puts its record in place of any there"
    (insert_of 3 30 ++ insert_of 4 40 ++ insert_of 3 31 ++ lists (3 is 31 ∷ 4 is 40 ∷ []) ∷ [])
    ∷ entry "plain list: a delete of a key without two children takes it out at its first store"
    (insert_of 2 20 ++ insert_of 1 10 ++ deleting 1 gave ok ∷ lists (1 is 10 ∷ 2 is 20 ∷ []) ∷ writing gave done Root 1 ∷ lists (2 is 20 ∷ []) ∷ [])
    ∷ entry "plain list: two children, the right one without left child: at the second store"
    (insert_of 2 20
    ++ insert_of 1 10
    ++ insert_of 3 30
    ++ deleting 2 gave ok
    ∷ writing gave stored
    ∷ lists (1 is 10 ∷ 2 is 20 ∷ 3 is 30 ∷ [])
    ∷ writing gave wait
    ∷ lists (1 is 10 ∷ 2 is 20 ∷ 3 is 30 ∷ [])
    ∷ writing gave done Root 1
    ∷ lists (1 is 10 ∷ 3 is 30 ∷ [])
    ∷ [])
    ∷ entry "plain list: two children, the right one with a left child: at the first store"
    (insert_of 3 30
    ++ insert_of 1 10
    ++ insert_of 2 20
    ++ insert_of 4 40
    ++ insert_of 5 50
    ++ deleting 2 gave ok
    ∷ writing gave stored
    ∷ lists (1 is 10 ∷ 3 is 30 ∷ 4 is 40 ∷ 5 is 50 ∷ [])
    ∷ writing gave wait
    ∷ writing gave done Root 1
    ∷ lists (1 is 10 ∷ 3 is 30 ∷ 4 is 40 ∷ 5 is 50 ∷ [])
    ∷ [])
    ∷ entry "plain list: wait, refused calls, begin of either kind, reader's turn and give up change nothing"
    (insert_of 3 30
    ++ inserting 4 40 gave ok
    ∷ inserting 5 50 gave refused 6
    ∷ deleting 3 gave refused 6
    ∷ writing gave refused 12
    ∷ writing gave wait
    ∷ beginning kind.Lookup 0 4 gave ok
    ∷ turning 0 gave go
    ∷ giving_up 0 gave ok
    ∷ beginning kind.Lookup 32 4 gave refused 3
    ∷ beginning kind.Next 0 1 gave ok
    ∷ turning 0 gave go
    ∷ turning 0 gave next 3 30
    ∷ beginning kind.Next 0 3 gave ok
    ∷ turning 0 gave absent
    ∷ beginning kind.Next 32 4 gave refused 3
    ∷ lists (3 is 30 ∷ [])
    ∷ writing gave done Root 1
    ∷ lists (3 is 30 ∷ 4 is 40 ∷ [])
    ∷ writing gave refused 7
    ∷ inserting 4 41 gave refused 11
    ∷ writing gave refused 7
    ∷ lists (3 is 30 ∷ 4 is 40 ∷ [])
    ∷ inserting 4 41 gave ok
    ∷ lists (3 is 30 ∷ 4 is 40 ∷ [])
    ∷ writing gave done Root 1
    ∷ lists (3 is 30 ∷ 4 is 41 ∷ [])
    ∷ [])
    ∷ entry "plain list: what is neither wait nor a refusal is heard as carried out, the next ticket too"
    (inserting 3 30 gave ok ∷ writing gave next 1 10 ∷ lists (3 is 30 ∷ []) ∷ [])
    ∷ entry "plain list: found, absent, go and ok are heard as carried out too"
    (inserting 3 30 gave ok ∷ writing gave found 7 ∷ lists (3 is 30 ∷ []) ∷ inserting 4 40 gave ok ∷ writing gave absent ∷ lists (3 is 30 ∷ 4 is 40 ∷ [])
    ∷ inserting 5 50 gave ok ∷ writing gave go ∷ inserting 6 60 gave ok ∷ writing gave ok ∷ lists (3 is 30 ∷ 4 is 40 ∷ 5 is 50 ∷ 6 is 60 ∷ []) ∷ [])
    ∷ entry "plain list: a delete of a key with a left child only takes it out at its first store"
    (insert_of 2 20 ++ insert_of 1 10 ++ deleting 2 gave ok ∷ lists (1 is 10 ∷ 2 is 20 ∷ []) ∷ writing gave done Root 1 ∷ lists (1 is 10 ∷ []) ∷ [])
    ∷ entry "plain list: a delete of a key with a right child only takes it out at its first store"
    (insert_of 1 10 ++ insert_of 2 20 ++ deleting 1 gave ok ∷ lists (1 is 10 ∷ 2 is 20 ∷ []) ∷ writing gave done Root 1 ∷ lists (2 is 20 ∷ []) ∷ [])
    ∷ entry "plain list: the deleted key's children count, not the root's: first store"
    (insert_of 2 20 ++ insert_of 1 10 ++ insert_of 3 30 ++ deleting 3 gave ok ∷ writing gave done Root 1 ∷ lists (1 is 10 ∷ 2 is 20 ∷ []) ∷ [])
    ∷ entry "plain list: the deleted key's children count, not the root's: second store"
    (insert_of 3 30
    ++ insert_of 1 10
    ++ insert_of 2 20
    ++ insert_of 4 40
    ++ insert_of 5 50
    ++ deleting 4 gave ok
    ∷ writing gave stored
    ∷ lists (1 is 10 ∷ 2 is 20 ∷ 3 is 30 ∷ 4 is 40 ∷ 5 is 50 ∷ [])
    ∷ writing gave done Root 1
    ∷ lists (1 is 10 ∷ 2 is 20 ∷ 3 is 30 ∷ 5 is 50 ∷ [])
    ∷ [])
    ∷ entry "plain list: an insert of a held key replaces its record at its first store and not before"
    (insert_of 2 20
    ++ insert_of 1 10
    ++ insert_of 3 30
    ++ inserting 2 21 gave ok
    ∷ lists (1 is 10 ∷ 2 is 20 ∷ 3 is 30 ∷ [])
    ∷ writing gave wait
    ∷ writing gave refused 12
    ∷ inserting 2 22 gave refused 6
    ∷ lists (1 is 10 ∷ 2 is 20 ∷ 3 is 30 ∷ [])
    ∷ writing gave done Root 1
    ∷ lists (1 is 10 ∷ 2 is 21 ∷ 3 is 30 ∷ [])
    ∷ inserting 3 30 gave ok
    ∷ writing gave done Root 1
    ∷ lists (1 is 10 ∷ 2 is 21 ∷ 3 is 30 ∷ [])
    ∷ [])
    ∷ entry "plain list: a smaller record too, and of a key with a left child only"
    (insert_of 2 20 ++ insert_of 1 10 ++ insert_of 2 19 ++ lists (1 is 10 ∷ 2 is 19 ∷ []) ∷ [])
    ∷ entry "plain list: after it a delete's list store is where it would have been: the second"
    (insert_of 2 20
    ++ insert_of 1 10
    ++ insert_of 3 30
    ++ insert_of 2 21
    ++ insert_of 3 31
    ++ deleting 2 gave ok
    ∷ writing gave stored
    ∷ lists (1 is 10 ∷ 2 is 21 ∷ 3 is 31 ∷ [])
    ∷ writing gave done Root 1
    ∷ lists (1 is 10 ∷ 3 is 31 ∷ [])
    ∷ [])
    ∷ entry "plain list: after it a delete's list store is where it would have been: the first"
    (insert_of 3 30
    ++ insert_of 1 10
    ++ insert_of 2 20
    ++ insert_of 4 40
    ++ insert_of 5 50
    ++ insert_of 3 31
    ++ insert_of 4 41
    ++ deleting 2 gave ok
    ∷ writing gave stored
    ∷ lists (1 is 10 ∷ 3 is 31 ∷ 4 is 41 ∷ 5 is 50 ∷ [])
    ∷ [])
    ∷ entry "plain list: keys equal in their low 16 or 31 bits are different keys"
    (insert_of 5 50
    ++ insert_of 65541 51
    ++ insert_of 2147483653 52
    ++ lists (5 is 50 ∷ 65541 is 51 ∷ 2147483653 is 52 ∷ [])
    ∷ deleting 5 gave ok
    ∷ writing gave done Root 1
    ∷ lists (65541 is 51 ∷ 2147483653 is 52 ∷ [])
    ∷ [])
    ∷ entry_from "plain list: started with a tree: the list store goes by it, and by the writes after it"
    (node black 2 20 (node red 1 10 leaf leaf) (node red 3 30 leaf leaf)) (ticket 1 10 ∷ ticket 2 20 ∷ ticket 3 30 ∷ [])
    (lists (1 is 10 ∷ 2 is 20 ∷ 3 is 30 ∷ [])
    ∷ deleting 2 gave ok
    ∷ writing gave stored
    ∷ lists (1 is 10 ∷ 2 is 20 ∷ 3 is 30 ∷ [])
    ∷ writing gave done Root 1
    ∷ lists (1 is 10 ∷ 3 is 30 ∷ [])
    ∷ insert_of 4 40
    ++ deleting 3 gave ok
    ∷ writing gave stored
    ∷ lists (1 is 10 ∷ 3 is 30 ∷ 4 is 40 ∷ [])
    ∷ writing gave done Root 1
    ∷ lists (1 is 10 ∷ 4 is 40 ∷ [])
    ∷ [])
    -- 02, C-18: wide records
    ∷ entry "wide: plain list: an insert lists its whole record"
    (insert_of 3 4294967296
    ++ insert_of 4 4294967295
    ++ inserting 5 18446744073709551615 gave ok
    ∷ lists (3 is 4294967296 ∷ 4 is 4294967295 ∷ [])
    ∷ writing gave done Root 1
    ∷ lists (3 is 4294967296 ∷ 4 is 4294967295 ∷ 5 is 18446744073709551615 ∷ [])
    ∷ [])
    ∷ entry "wide: plain list: a record replaced by one with another high word, by a narrow one, by a wide one again"
    (insert_of 3 30
    ++ insert_of 3 4294967326
    ++ lists (3 is 4294967326 ∷ [])
    ∷ insert_of 3 8589934622
    ++ lists (3 is 8589934622 ∷ [])
    ∷ insert_of 3 30
    ++ lists (3 is 30 ∷ [])
    ∷ insert_of 3 18446744069414584320
    ++ lists (3 is 18446744069414584320 ∷ [])
    ∷ [])
    ∷ entry "wide: plain list: a delete takes out a key with a wide record, and leaves the others'"
    (insert_of 2 8589934612 ++ insert_of 1 4294967306 ++ deleting 2 gave ok ∷ writing gave done Root 1 ∷ lists (1 is 4294967306 ∷ []) ∷ [])
    ∷ entry "wide: plain list: a search's wide answer changes nothing"
    (insert_of 3 12884901918 ++ beginning kind.Next 0 1 gave ok ∷ turning 0 gave go ∷ turning 0 gave next 3 12884901918 ∷ lists (3 is 12884901918 ∷ []) ∷ [])
    ∷ []

pub lists-pass : all_listed plain_lists ≡ true
unfolding rel
lists-pass = refl
