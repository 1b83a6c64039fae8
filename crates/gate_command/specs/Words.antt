-- The words of this crate, from one place.
pub use Rattle.gate_command.specs.Command.{Setting, option_of, option_text, route_text}
pub use Rattle.gate_command.specs.Command.{routes_text, has_mark, IsPlain, value_text, IsSettable}
pub use Rattle.gate_command.specs.Command.{Given, setting_of, spelling, begins_with_minus}
pub use Rattle.gate_command.specs.Command.{IsInForm, Settings, nothing_given, with_setting}
pub use Rattle.gate_command.specs.Command.{AreDistinct, settings_with, limits_of, setup_of}
pub use Rattle.gate_command.specs.Command.{asked_of, AreInForm, text_of, IsService, format_text}
pub use Rattle.gate_command.specs.Command.{shown_as, IsCommand, words_of, has_line_feed, IsWithin}
pub use Rattle.gate_command.specs.Command.{Asks, Begins, CanStand, CeasesAt}
pub use Rattle.gate_command.specs.Input.{Reads, IsOver, AddsDrawn, IsWhole, IsTooLong, IsInput}
pub use Rattle.gate_command.specs.Listings.{IsStreamBy, IsStream, IsStreamOf, HasUnits}
pub use Rattle.gate_command.specs.Listings.{IsStreamListing}
pub use Rattle.gate_command.specs.Outcome.{number_of, status_of, usage_line, lost_line, Tells}
pub use Rattle.gate_command.specs.Outcome.{Around, around, IsMisread, with_kept, unrecorded}
pub use Rattle.gate_command.specs.Outcome.{without_record, AreCounted, Ran, AsksToServe}
pub use Rattle.gate_command.specs.Outcome.{MayAccept, IsRun, BeginsAndRuns, FailsToBegin}
pub use Rattle.gate_command.specs.Outcome.{IsCapturedRun, IsUnread, WithoutInput, IsReplaying}
pub use Rattle.gate_command.specs.Outcome.{IsShowing, format_of, IsShowingUnits, Outcome}
pub use Rattle.gate_command.specs.Reading.{State, is_free, cut, option_named, is_numeral}
pub use Rattle.gate_command.specs.Reading.{number_in, text_in, short_in, name_in, host_in}
pub use Rattle.gate_command.specs.Reading.{route_of, routes_of, is_sized, is_route, are_routes}
pub use Rattle.gate_command.specs.Reading.{routes_in, setting_in, set_in, opened, option_in, step}
pub use Rattle.gate_command.specs.Reading.{word_in, ended, words_in, Request, asked_by, last_in}
pub use Rattle.gate_command.specs.Reading.{format_named, format_in, shown_in, served_in}
pub use Rattle.gate_command.specs.Reading.{after_first, command_in}
pub use Rattle.gate_command.specs.Recorded.{counted_line, fault_text, bad_line, long_line}
pub use Rattle.gate_command.specs.Recorded.{same_line, differs_line, meant_of, line_of, Says}
pub use Rattle.gate_command.specs.Recorded.{ServesBy, AsksFor, IsOf, IsVerdict, IsReplayed}
pub use Rattle.gate_command.specs.Recorded.{IsShown, IsShownOf, HasLines, IsReplay, IsListing}
pub use Rattle.gate_command.specs.Replaying.{RerunState, anew, no_call, told_over, Parts, Agrees}
pub use Rattle.gate_command.specs.Replaying.{IsNoted, Answers, IsRerun, GoesApart, IsOther}
pub use Rattle.gate_command.specs.Replaying.{Replays}
pub use Rattle.gate_command.specs.Runs.{IsRunOf}
pub use Rattle.gate_command.specs.View.{settings_of, state_of, answer_of, request_of, reply_of}
