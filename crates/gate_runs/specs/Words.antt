-- The words of this crate, from one place.
pub use Rattle.gate_runs.specs.Form.{IsInForm}
pub use Rattle.gate_runs.specs.Journal.{moment, read_entry, write_entry, since, with_mark}
pub use Rattle.gate_runs.specs.Journal.{journal}
pub use Rattle.gate_runs.specs.Marks.{Mark, History, calls, HasHistory, Extends}
pub use Rattle.gate_runs.specs.Next.{Asked, asked, Upcoming, where_due, most_writes, ask, or_more}
pub use Rattle.gate_runs.specs.Next.{first_ask, visit, pair_limit, most_live, accepted_count}
pub use Rattle.gate_runs.specs.Next.{without, unless_gone, live_pairs, turns_begun, has_moved}
pub use Rattle.gate_runs.specs.Next.{out_of_memory_count, finish_of, Point, stage_of}
pub use Rattle.gate_runs.specs.Next.{after_accept, after_put, after_shut, after, point, is_done}
pub use Rattle.gate_runs.specs.Next.{begin, rest, round, may_accept, beyond, first_open, closing}
pub use Rattle.gate_runs.specs.Next.{ahead, next}
pub use Rattle.gate_runs.specs.Report.{pair_line, memory_line, closed_line, count_line, last_line}
pub use Rattle.gate_runs.specs.Report.{closed_lines, shut_lines, lines_of, call_lines, mark_lines}
pub use Rattle.gate_runs.specs.Report.{Lines, all_lines, lines_before, lines_so_far, report}
pub use Rattle.gate_runs.specs.Serving.{Answered, RunsOutAt, RefusesAt, IsCallLast, EndsBy}
pub use Rattle.gate_runs.specs.Serving.{is_ended, Follows, HoldsReport, HoldsFront, is_shutting}
pub use Rattle.gate_runs.specs.Serving.{OutFailed, HoldsAll, IsTold, Keeps, KeepsFront, LosesCall}
pub use Rattle.gate_runs.specs.Serving.{is_sink_fault, IsKept, counted, IsServed}
pub use Rattle.gate_runs.specs.Stages.{lap_end, lap_after, Stage, later, shuttings, stages_from}
pub use Rattle.gate_runs.specs.Stages.{writing_at, one_more, at_running_out}
