-- Every entry of the tables of counts passes, computed over the definitions of crate spec as those of crate table are.
use Rattle.std.proofs.Common.{◌≡◌, refl, true}
use Rattle.base.specs.Walk.{all_from, all_in, fold_from, fold_in}
use Rattle.spec.specs.Pool.{word, set_word, record_at, node_in_range, pool_in_range, length_right, fresh_nodes, fresh_pool}
use Rattle.spec.specs.Register.{with_root, with_queue, with_held, with_reader, with_awaited, with_write, node_at, set_link}
use Rattle.spec.specs.Register.{put_slot, drop_slot, reading_slots, store_in_range, register_in_range, fresh_register, fresh, write_of, less_first}
use Rattle.spec.specs.Free.{take_free, fill_as, take_as, free_node, retire, retire_two, release, end_reading}
use Rattle.spec.specs.Search.{seek, trail, leftmost}
use Rattle.spec.specs.Plan.{insert_fixup, fixup_after_insert, paint_insert_fixup, red_sibling, delete_fixup, fixup_after_removal, paint_delete_levels}
use Rattle.spec.specs.Plan.{paint_delete_fixup, insert_plan, unlink_plan, delete_plan}
use Rattle.spec.specs.Turn.{insert_store, replace_store, diag_lower, diag_raise, zig_lower_a, zig_lower_c, zig_raise, unlink_store, adopt_store, promote_store}
use Rattle.spec.specs.Turn.{moved_write, publish_store, detach_store, step_finds, link_all_store, step_made}
use Rattle.spec.specs.Calls.{set_up, insert, delete, stored, writer_turn, begin, reader_step, reader_turn, give_up, turn_count}
use Rattle.spec.specs.Tally.{tallied}
use Rattle.table.specs.Entry.{all_pass}
use Rattle.count_table.specs.Counts.{counts}
use Rattle.count_table.specs.Tallies.{sums, all_add}

pub counts-pass : all_pass counts ≡ true
unfolding all_from all_in fold_from fold_in word set_word record_at node_in_range pool_in_range length_right fresh_nodes fresh_pool with_root with_queue with_held with_reader
    with_awaited with_write node_at set_link put_slot drop_slot reading_slots store_in_range register_in_range fresh_register fresh write_of less_first take_free
    fill_as take_as free_node retire retire_two release end_reading seek trail leftmost insert_fixup fixup_after_insert paint_insert_fixup red_sibling
    delete_fixup fixup_after_removal paint_delete_levels paint_delete_fixup insert_plan unlink_plan delete_plan insert_store replace_store diag_lower diag_raise
    zig_lower_a zig_lower_c zig_raise unlink_store adopt_store promote_store moved_write publish_store detach_store link_all_store step_finds step_made set_up insert delete stored
    writer_turn begin reader_step reader_turn give_up turn_count
counts-pass = refl

pub tallies-add : all_add sums ≡ true
unfolding all_from all_in fold_from fold_in word set_word record_at node_in_range pool_in_range length_right fresh_nodes fresh_pool with_root with_queue with_held with_reader
    with_awaited with_write node_at set_link put_slot drop_slot reading_slots store_in_range register_in_range fresh_register fresh write_of less_first take_free
    fill_as take_as free_node retire retire_two release end_reading seek trail leftmost insert_fixup fixup_after_insert paint_insert_fixup red_sibling
    delete_fixup fixup_after_removal paint_delete_levels paint_delete_fixup insert_plan unlink_plan delete_plan insert_store replace_store diag_lower diag_raise
    zig_lower_a zig_lower_c zig_raise unlink_store adopt_store promote_store moved_write publish_store detach_store step_finds step_made set_up insert delete stored
    writer_turn begin reader_step reader_turn give_up turn_count tallied
tallies-add = refl
