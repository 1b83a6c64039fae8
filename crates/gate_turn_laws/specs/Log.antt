-- The calls alone: where no pair ran out of memory and no sink failed, the calls determine the run.
-- All lists are newest first.
use Rattle.std.specs.Prelude.{◌≡◌, ℕ, zero, suc, ◌+◌, Bool, true, false, List, [], ◌∷◌, length}
use Rattle.std.specs.Prelude.{Option, None, Some, unwrap_or}
use Rattle.std.specs.Option.{option_map}
use Rattle.gate_outside.specs.declared.log.LogEntry.{LogEntry}
use Rattle.gate_relay.specs.RelayWords.{RelayWords}
use Rattle.gate_runs.specs.declared.limits.Limits.{Limits}
use Rattle.gate_runs.specs.declared.served.Served.{Served}
use Rattle.gate_runs.specs.declared.served.Served.TheVariants.{Stopped, PairsDone, TurnLimit, Fault}
use Rattle.gate_runs.specs.declared.served.Served.TheVariants.{Memory}
use Rattle.gate_runs.specs.declared.served.Outside.TheVariants as outside
use Rattle.gate_runs.specs.Marks.{Mark, History, Call, TakeUp, Finish}
use Rattle.gate_runs.specs.Next.{Asked, asked, Upcoming, Do, Settle, EndBy, Done, live_pairs}
use Rattle.gate_runs.specs.Next.{out_of_memory_count, finish_of, next}

-- what comes next without a call: a take-up, or the end of the service
abbrev pub mark_between : Upcoming → Option Mark
mark_between (Do a) = None
mark_between (Settle p) = Some (TakeUp p)
mark_between (EndBy how) = Some (Finish how)
mark_between Done = None

-- with the marks that come next without a call, at most so many
abbrev pub go_on : RelayWords → Limits → ℕ → History → History
go_on w c zero m = m
go_on w c (suc k) m =
    unwrap_or (option_map (λ x. go_on w c k (x ∷ m)) (mark_between (next w c m))) m

-- between two calls at most one mark comes for each live pair, and the end of the service
abbrev pub with_marks : RelayWords → Limits → History → History
with_marks w c m = go_on w c (length (live_pairs m) + 1) m

-- the run of these calls
abbrev pub run_of : RelayWords → Limits → List LogEntry → History
run_of w c [] = with_marks w c []
run_of w c (entry ∷ log) = with_marks w c (Call entry ∷ run_of w c log)

abbrev pub call_of : Upcoming → Option Asked
call_of (Do a) = Some a
call_of (Settle p) = None
call_of (EndBy how) = None
call_of Done = None

-- the call that comes after these calls, where one does
abbrev pub next_call : RelayWords → Limits → List LogEntry → Option Asked
next_call w c log = call_of (next w c (run_of w c log))

-- each call is the next one after the calls before it
abbrev pub FollowsLog : RelayWords → Limits → List LogEntry → Type 0
FollowsLog w c [] = Unit {0}
FollowsLog w c (entry ∷ log) = (next_call w c log ≡ Some (asked entry)) × FollowsLog w c log

-- the service did not end for want of memory, nor because a sink failed
abbrev pub is_plain_end : Option Served → Bool
is_plain_end None = true
is_plain_end (Some Stopped) = true
is_plain_end (Some PairsDone) = true
is_plain_end (Some TurnLimit) = true
is_plain_end (Some (Fault outside.Accept)) = true
is_plain_end (Some (Fault outside.Out)) = false
is_plain_end (Some (Fault outside.Capture)) = false
is_plain_end (Some Memory) = false

-- no pair ran out of memory, and no sink failed
pub record IsPlain (m : History) : Type 0 where
  pub calm : out_of_memory_count m ≡ 0
  pub ended : is_plain_end (finish_of m) ≡ true

-- a call comes next, or nothing more
abbrev pub Rests : RelayWords → Limits → History → Type 0
Rests w c m = mark_between (next w c m) ≡ None

-- these calls are a whole run: each is the next one after those before it, and none comes after the
-- last
pub record IsWholeRun (w : RelayWords) (c : Limits) (log : List LogEntry) : Type 0 where
  pub each : FollowsLog w c log
  pub last : next_call w c log ≡ None
