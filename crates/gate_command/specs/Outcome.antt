-- What the top call does with its words, its ports, its input, out and the sink for a capture.
use Rattle.std.specs.Prelude.{◌≡◌, ℕ, ◌≤◌, ◌⊎◌, List, ◌++◌, Option, None, Some, codes, decimal}
use Rattle.gate_outside.specs.declared.log.LogEntry.{LogEntry}
use Rattle.gate_outside.specs.declared.ports.Ports as ports
use Rattle.gate_outside.specs.declared.streams.Sink as sink
use Rattle.gate_outside.specs.Counts.{Rose}
use Rattle.gate_outside.specs.Streams.{Appends, AppendsFront}
use Rattle.gate_capture.specs.Captures.{start}
use Rattle.gate_model.specs.Setup.{SetupText}
use Rattle.gate_runs.specs.declared.limits.Limits.{Limits}
use Rattle.gate_runs.specs.declared.served.Served.{Served}
use Rattle.gate_runs.specs.declared.served.Served.TheVariants as served
use Rattle.gate_runs.specs.declared.served.Outside.TheVariants as outside
use Rattle.gate_runs.specs.Marks.{HasHistory}
use Rattle.gate_runs.specs.Next.{pair_limit}
use Rattle.gate_command.specs.declared.top_call.Status.{Status}
use Rattle.gate_command.specs.declared.top_call.Status.TheVariants as status
use Rattle.gate_command.specs.declared.words.Asked.TheVariants.{Serve, Replay, ShowCapture}
use Rattle.gate_command.specs.declared.words.Format.{Format}
use Rattle.gate_command.specs.declared.words.Format.TheVariants as format
use Rattle.gate_listing.specs.declared.listing.Dialect.{Dialect}
use Rattle.gate_listing.specs.declared.listing.Dialect.TheVariants.{Amqp091, Amqp10}
use Rattle.gate_command.specs.declared.words.Misplaced.{Misplaced}
use Rattle.gate_command.specs.declared.words.Misplaced.TheVariants.{Word, End}
use Rattle.gate_command.specs.Command.{Asks, CeasesAt, shown_as, text_of}
use Rattle.gate_command.specs.Listings.{IsStreamListing}
use Rattle.gate_command.specs.Recorded.{IsReplay, IsListing, Says}
use Rattle.gate_command.specs.Runs.{IsRunOf}

-- the number of a status
abbrev pub number_of : Status → ℕ
number_of status.Ok = 0
number_of status.Differs = 1
number_of status.Usage = 2
number_of status.BadInput = 3
number_of status.Outside = 4
number_of status.Memory = 5
number_of status.TurnLimit = 6

-- the status of a run of the service
abbrev pub status_of : Served → Status
status_of served.Stopped = status.Ok
status_of served.PairsDone = status.Ok
status_of served.TurnLimit = status.TurnLimit
status_of (served.Fault what) = status.Outside
status_of served.Memory = status.Memory

-- the line for words that aren't a command line
abbrev pub usage_line : Misplaced → List ℕ
usage_line (Word k) = codes "usage at word " ++ (decimal k ++ codes "\n")
usage_line End = codes "usage at end\n"

-- the line for a capture whose start was not taken
abbrev pub lost_line : List ℕ
lost_line = codes "fault: capture\n"

-- a line was taken, or the sink failed at it
abbrev pub Tells : ℕ → ℕ → Option (List ℕ) → Option (List ℕ) → List ℕ → Type 0
Tells faults faults' held held' line =
    Appends held held' line ⊎ (Rose faults faults' × AppendsFront held held' line)

-- what stands around the call, before it or after it
pub record Around : Type 0 where
  -- of the ports: the count of the pairs accepted, that of faults, and the calls
  pub pairs : ℕ
  pub port_faults : ℕ
  pub log : Option (List LogEntry)
  -- of out: the count of faults, and what it holds
  pub faults : ℕ
  pub held : Option (List ℕ)
  -- of the sink for a capture: the count of faults, and what it holds
  pub capture_faults : ℕ
  pub kept : Option (List ℕ)

-- of these ports, out, and the sink for a capture
abbrev pub around : {P K C : Type 0} → ports.Ghosts P → sink.Ghosts K → sink.Ghosts C → P → K → C
    → Around
around p k c at out capture =
    record {
      pairs = p.pairs at;
      port_faults = p.faults at;
      log = p.log at;
      faults = k.faults out;
      held = k.held out;
      capture_faults = c.faults capture;
      kept = c.held capture;
    }

-- the words aren't a command line, and the place was told; or out failed at that. Nothing else was
-- done
pub record IsMisread (words : List (List ℕ)) (answer : Status) (old new : Around) : Type 0 where
  pub misplaced : Misplaced
  pub place : CeasesAt words misplaced
  pub told : Says status.Usage (usage_line misplaced) answer old.held new.held
  pub unrecorded : new.kept ≡ old.kept
  pub silent : new.log ≡ old.log

-- the same, of a record of calls that holds this
abbrev pub with_kept : Option (List ℕ) → Around → Around
with_kept kept a =
    record {
      pairs = a.pairs;
      port_faults = a.port_faults;
      log = a.log;
      faults = a.faults;
      held = a.held;
      capture_faults = a.capture_faults;
      kept = kept;
    }

-- of these ports and out, where no record of calls is kept
abbrev pub unrecorded : {P K : Type 0} → ports.Ghosts P → sink.Ghosts K → P → K → Around
unrecorded p k at out =
    record {
      pairs = p.pairs at;
      port_faults = p.faults at;
      log = p.log at;
      faults = k.faults out;
      held = k.held out;
      capture_faults = 0;
      kept = None;
    }

abbrev pub without_record : Around → Around
without_record a =
    record {
      pairs = a.pairs;
      port_faults = a.port_faults;
      log = a.log;
      faults = a.faults;
      held = a.held;
      capture_faults = 0;
      kept = None;
    }

-- what the counts say of a run that ended so and in which so many pairs ran out of memory, also
-- where its calls aren't told
pub record AreCounted (c : Limits) (how : Served) (ran_out : ℕ) (old new : Around) : Type 0 where
  -- at most as many pairs were accepted as may be, and so many where the service ended for that
  pub limit : new.pairs ≤ pair_limit c
  pub all : how ≡ served.PairsDone → new.pairs ≡ pair_limit c
  -- each is counted at most once
  pub count : ran_out ≤ new.pairs
  -- what failed had its count of faults rise
  pub accept : how ≡ served.Fault outside.Accept → Rose old.port_faults new.port_faults
  pub report : how ≡ served.Fault outside.Out → Rose old.faults new.faults
  pub capture : how ≡ served.Fault outside.Capture → Rose old.capture_faults new.capture_faults

-- a run of the service was made whose pairs share s, and this is its status
pub record Ran (s : SetupText) (c : Limits) (answer : Status) (old new : Around) : Type 0 where
  pub how : Served
  -- how many pairs ran out of memory
  pub count : ℕ
  pub status : answer ≡ status_of how
  pub counted : AreCounted c how count old new
  pub served : (base : List LogEntry) → old.log ≡ Some base → HasHistory base new.log
      (IsRunOf s c how count old.held new.held old.kept new.kept)

-- the words ask for a run of the service with these limits, whose pairs share s, and for its
-- capture where a path is given
abbrev pub AsksToServe : List (List ℕ) → Limits → SetupText → Option (List ℕ) → Type 0
AsksToServe words c s path =
    (listen : List ℕ) × (upstream : List ℕ) × Asks words (Serve c s listen upstream path)

-- so many pairs may be accepted in each run of the service that the words ask for
abbrev pub MayAccept : List (List ℕ) → ℕ → Type 0
MayAccept words n =
    (c : Limits) (s : SetupText) (path : Option (List ℕ)) → AsksToServe words c s path
    → n ≤ pair_limit c

-- the words ask for a run of the service of which no record is kept, and it was made
pub record IsRun (words : List (List ℕ)) (answer : Status) (old new : Around) : Type 0 where
  pub limits : Limits
  pub setup : SetupText
  pub listen : List ℕ
  pub upstream : List ℕ
  pub asks : Asks words (Serve limits setup listen upstream None)
  pub ran : Ran setup limits answer (without_record old) (without_record new)
  pub unrecorded : new.kept ≡ old.kept

-- the start of a capture with this text of the words was written, and behind it the calls of a run
-- of the service
pub record BeginsAndRuns (text : List ℕ) (s : SetupText) (c : Limits) (answer : Status)
    (old new : Around) : Type 0 where
  pub begun : Option (List ℕ)
  pub start : Appends old.kept begun (start text)
  pub ran : Ran s c answer (with_kept begun old) new

-- the start was not taken, which out was told. Nothing was asked of the ports
pub record FailsToBegin (text : List ℕ) (answer : Status) (old new : Around) : Type 0 where
  pub status : answer ≡ status.Outside
  pub front : AppendsFront old.kept new.kept (start text)
  pub told : Tells old.faults new.faults old.held new.held lost_line
  pub silent : new.log ≡ old.log

-- the words ask for a run of the service and a capture of its calls
pub record IsCapturedRun (words : List (List ℕ)) (answer : Status) (old new : Around) : Type 0 where
  pub limits : Limits
  pub setup : SetupText
  pub listen : List ℕ
  pub upstream : List ℕ
  pub path : List ℕ
  pub asks : Asks words (Serve limits setup listen upstream (Some path))
  pub run : BeginsAndRuns (text_of words) setup limits answer old new ⊎ FailsToBegin
      (text_of words) answer old new

-- there was no memory for the words, and nothing was done
pub record IsUnread (answer : Status) (old new : Around) : Type 0 where
  pub status : answer ≡ status.Memory
  pub unwritten : new.held ≡ old.held
  pub unrecorded : new.kept ≡ old.kept
  pub silent : new.log ≡ old.log

-- one of these, none of which reads the input
abbrev pub WithoutInput : List (List ℕ) → Status → Around → Around → Type 0
WithoutInput words answer old new =
    IsMisread words answer old new ⊎ IsRun words answer old new ⊎ IsCapturedRun words answer old new ⊎ IsUnread answer old new

-- the words ask to make the run of a capture again. Of the input there is told what it had left
-- before and after
pub record IsReplaying (words : List (List ℕ)) (answer : Status) (old new : Around)
    (left left' : Option (List ℕ)) : Type 0 where
  pub asks : Asks words Replay
  pub replay : IsReplay answer left left' old.held new.held
  pub unrecorded : new.kept ≡ old.kept
  pub silent : new.log ≡ old.log

-- the words ask to list a capture
pub record IsShowing (words : List (List ℕ)) (answer : Status) (old new : Around)
    (left left' : Option (List ℕ)) : Type 0 where
  pub asks : Asks words ShowCapture
  pub listing : IsListing answer left left' old.held new.held
  pub unrecorded : new.kept ≡ old.kept
  pub silent : new.log ≡ old.log

-- the format of a byte stream
abbrev pub format_of : Dialect → Format
format_of Amqp091 = format.Amqp091
format_of Amqp10 = format.Amqp10

-- the words ask to list a byte stream of one of the protocols
pub record IsShowingUnits (words : List (List ℕ)) (answer : Status) (old new : Around)
    (left left' : Option (List ℕ)) : Type 0 where
  pub dialect : Dialect
  pub asks : Asks words (shown_as (format_of dialect))
  pub listing : IsStreamListing dialect answer left left' old.held new.held
  pub unrecorded : new.kept ≡ old.kept
  pub silent : new.log ≡ old.log

unfoldable pub Outcome : List (List ℕ) → Status → Around → Around → Option (List ℕ)
    → Option (List ℕ) → Type 0
Outcome words answer old new left left' =
    ((left' ≡ left)
    × WithoutInput words answer old new) ⊎ IsReplaying words answer old new left left' ⊎ IsShowing words answer old new left left'
    ⊎ IsShowingUnits words answer old new left left'
