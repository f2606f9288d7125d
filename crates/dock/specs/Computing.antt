-- For theorems by computation: a declaration that says `unfolding computing` sees through every definition that a call on the dock goes by.
use Rattle.arithmetic.specs.Rounding.{fits, is_multiple, round_down, round_up, sum_of, up_of}
use Rattle.arithmetic.specs.Refusals.{number_of}
use Rattle.arithmetic.specs.Loops.{any_below}
use Rattle.arithmetic.specs.Settings.{is_alignment, alignments_fit, length_align, bounce_fits, settings_fit, buffers_fit, opening_of}
use Rattle.arithmetic.specs.Settings.{profiles, profile_of}
use Rattle.arithmetic.specs.Padding.{padded_start, rounded_end, padded_length, padding_fits, span_of, padded_of, padding_of}
use Rattle.arithmetic.specs.Padding.{is_direct, transfer_of, reads_of, is_read}
use Rattle.arithmetic.specs.Zeroes.{cut_fits, has_middle, cut_of, zero_cut_of, discard_cut_of, chunk_length, chunk_of}
use Rattle.vectors.specs.Vectors.{size_of, lies_in, all_segments, any_segment, segments_fit, vector_of, is_valid, put, bytes_of, scatter_of}
use Rattle.vectors.specs.Vectors.{copies, shares, overlap_of, self_overlap_of, all_aligned, is_aligned_of, alignment_of}
use Rattle.blockers.specs.Blockers.{overlaps, conflict, notes, notes_of, no_blockers, entered_of, forgetting, left_of, waits_of}
use Rattle.stages.specs.Stages.{direct_stage, padded_stage, first_phase, read_plan, write_plan, zeroes_plan, zero_plan, discard_plan}
use Rattle.stages.specs.Stages.{chunk_next, tail_next, head_next, told_of, request_of, lies_in as liesInBounce, is_sound}
use Rattle.dock.specs.Dock.{vacant, fresh, open_of, open_profile_of, lent_fits, lent_of, is_out_by, is_out}
use Rattle.dock.specs.Dock.{meets_of, meets_at, overlaps_of, first_free}
use Rattle.dock.specs.Begin.{source_of, source_fits, merged_at, filled, blockers_with, enter_at, begin_of}
use Rattle.dock.specs.Next.{next_of, is_sound_in, is_sound_of, piece_of, part_of}
use Rattle.dock.specs.Tell.{blockers_without, copied_at, handed, ends_at, enters_at, answered_of, told_at, tell_of, collect_of}

unfoldable pub computing : Unit {0}
unfolding number_of fits is_multiple round_down round_up sum_of up_of any_below
    is_alignment alignments_fit length_align bounce_fits settings_fit buffers_fit opening_of profiles profile_of
    padded_start rounded_end padded_length padding_fits span_of padded_of padding_of is_direct transfer_of reads_of is_read
    cut_fits has_middle cut_of zero_cut_of discard_cut_of chunk_length chunk_of
    size_of lies_in all_segments any_segment segments_fit vector_of is_valid put bytes_of scatter_of
    copies shares overlap_of self_overlap_of all_aligned is_aligned_of alignment_of
    overlaps conflict notes notes_of no_blockers entered_of forgetting left_of waits_of
    direct_stage padded_stage first_phase read_plan write_plan zeroes_plan zero_plan discard_plan
    chunk_next tail_next head_next told_of request_of liesInBounce is_sound
    vacant fresh open_of open_profile_of lent_fits lent_of is_out_by is_out meets_of meets_at overlaps_of first_free
    source_of source_fits merged_at filled blockers_with enter_at begin_of
    next_of is_sound_in is_sound_of piece_of part_of
    blockers_without copied_at handed ends_at enters_at answered_of told_at tell_of collect_of
computing = tt
