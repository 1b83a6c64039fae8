-- Ports that answer from a log: what they hold, and how each call is answered.
use Rattle.std.specs.Prelude.{ℕ, ◌==◌, Bool, true, false, not, ◌&&◌, if◌then◌else◌, nat_le, List}
use Rattle.std.specs.Prelude.{[], ◌∷◌, ◌++◌, length, take, drop, reverse, bytes_eq, Option, None}
use Rattle.std.specs.Prelude.{Some, option_and_then, slice_get, unwrap_or, is_some}
use Rattle.gate_outside.specs.declared.ports.End.{End}
use Rattle.gate_outside.specs.declared.ports.Accepted.{Accepted}
use Rattle.gate_outside.specs.declared.ports.Accepted.TheVariants as accepted
use Rattle.gate_outside.specs.declared.ports.Linked.{Linked}
use Rattle.gate_outside.specs.declared.ports.Linked.TheVariants as linked
use Rattle.gate_outside.specs.declared.ports.Got.{Got}
use Rattle.gate_outside.specs.declared.ports.Got.TheVariants as got
use Rattle.gate_outside.specs.declared.ports.Put.{Put}
use Rattle.gate_outside.specs.declared.ports.Put.TheVariants as put
use Rattle.gate_outside.specs.declared.ports.Next.{Next}
use Rattle.gate_outside.specs.declared.ports.Next.TheVariants as next
use Rattle.gate_outside.specs.declared.log.LogEntry.{LogEntry}
use Rattle.gate_outside.specs.declared.log.LogEntry.TheVariants as entry
use Rattle.gate_outside.specs.CallCounts.{one_more}
use Rattle.gate_outside.specs.Ends.{is_end, pairs_after, ends_accepted, ends_linked, closed}

-- a log that calls use up: the entries that are left, and those that were used, the newest first
pub record Recorded : Type 0 where
  pub left : List LogEntry
  pub used : List LogEntry

-- one entry more was used
abbrev pub step : Recorded → Recorded
step log = record { left = drop 1 log.left; used = take 1 log.left ++ log.used }

-- the log in the order of its calls
abbrev pub whole : Recorded → List LogEntry
whole log = reverse log.used ++ log.left

-- the log, whether a call was another than its entry, and what ports tell
pub record ReplayState : Type 0 where
  pub log : Recorded
  pub differs : Bool
  pub faults : ℕ
  pub pairs : ℕ
  pub ends : List (ℕ × End)
  pub last : ℕ

-- before the first call
abbrev pub begun : List LogEntry → ReplayState
begun entries =
    record { log = record { left = entries; used = [] }; differs = false; faults = 0; pairs = 0; ends = []; last = 0 }

-- the calls, the newest first, while each was its entry
abbrev pub told : ReplayState → Option (List LogEntry)
told replay = if replay.differs then None else Some replay.log.used

abbrev pub is_nothing : List LogEntry → Bool
is_nothing [] = true
is_nothing (entry ∷ entries) = false

-- the number of the first call that is another than its entry, or for which there is none, or of
-- the first entry that is left
abbrev pub difference : ReplayState → Option ℕ
difference replay =
    if not replay.differs && is_nothing replay.log.left then None else Some (length replay.log.used)

-- the entry of the next call, while each was its entry
abbrev pub coming : ReplayState → Option LogEntry
coming replay = if replay.differs then None else slice_get replay.log.left 0

-- a call that is its entry uses it, and another differs
abbrev pub answered : Bool → ReplayState → ReplayState
answered is replay =
    record replay { log = if is then step replay.log else replay.log; differs = not is }

-- ---- the answer that an entry records of a call, if it is that call

-- pairs are numbered in order
abbrev pub is_in_order : ℕ → Accepted → Bool
is_in_order pairs (accepted.Pair pair) = pair == pairs
is_in_order pairs accepted.NotYet = true
is_in_order pairs accepted.Failed = true

abbrev pub accept_in : ℕ → LogEntry → Option Accepted
accept_in pairs (entry.Accept answer) = if is_in_order pairs answer then Some answer else None
accept_in pairs (entry.Connect p answer) = None
accept_in pairs (entry.Read p e room answer bytes) = None
accept_in pairs (entry.Write p e bytes answer) = None
accept_in pairs (entry.Shut p e) = None
accept_in pairs (entry.Idle answer) = None
accept_in pairs (entry.Now ms) = None

abbrev pub connect_in : ℕ → LogEntry → Option Linked
connect_in pair (entry.Accept answer) = None
connect_in pair (entry.Connect p answer) = if p == pair then Some answer else None
connect_in pair (entry.Read p e room answer bytes) = None
connect_in pair (entry.Write p e bytes answer) = None
connect_in pair (entry.Shut p e) = None
connect_in pair (entry.Idle answer) = None
connect_in pair (entry.Now ms) = None

-- with the bytes that came
abbrev pub read_in : ℕ → End → ℕ → LogEntry → Option (Got × List ℕ)
read_in pair end room (entry.Accept answer) = None
read_in pair end room (entry.Connect p answer) = None
read_in pair end room (entry.Read p e r answer bytes) =
    if is_end pair end (p, e) && (r == room) then Some (answer, bytes) else None
read_in pair end room (entry.Write p e bytes answer) = None
read_in pair end room (entry.Shut p e) = None
read_in pair end room (entry.Idle answer) = None
read_in pair end room (entry.Now ms) = None

abbrev pub write_in : ℕ → End → List ℕ → LogEntry → Option Put
write_in pair end offered (entry.Accept answer) = None
write_in pair end offered (entry.Connect p answer) = None
write_in pair end offered (entry.Read p e room answer bytes) = None
write_in pair end offered (entry.Write p e bytes answer) =
    if is_end pair end (p, e) && bytes_eq bytes offered then Some answer else None
write_in pair end offered (entry.Shut p e) = None
write_in pair end offered (entry.Idle answer) = None
write_in pair end offered (entry.Now ms) = None

abbrev pub is_shut : ℕ → End → LogEntry → Bool
is_shut pair end (entry.Accept answer) = false
is_shut pair end (entry.Connect p answer) = false
is_shut pair end (entry.Read p e room answer bytes) = false
is_shut pair end (entry.Write p e bytes answer) = false
is_shut pair end (entry.Shut p e) = is_end pair end (p, e)
is_shut pair end (entry.Idle answer) = false
is_shut pair end (entry.Now ms) = false

abbrev pub idle_in : LogEntry → Option Next
idle_in (entry.Accept answer) = None
idle_in (entry.Connect p answer) = None
idle_in (entry.Read p e room answer bytes) = None
idle_in (entry.Write p e bytes answer) = None
idle_in (entry.Shut p e) = None
idle_in (entry.Idle answer) = Some answer
idle_in (entry.Now ms) = None

-- a moment doesn't fall
abbrev pub now_in : ℕ → LogEntry → Option ℕ
now_in last (entry.Accept answer) = None
now_in last (entry.Connect p answer) = None
now_in last (entry.Read p e room answer bytes) = None
now_in last (entry.Write p e bytes answer) = None
now_in last (entry.Shut p e) = None
now_in last (entry.Idle answer) = None
now_in last (entry.Now ms) = if nat_le last ms then Some ms else None

-- ---- calls: the answer of the entry, or else NotYet, Failed, Stop and the last moment

abbrev pub recorded_accept : ReplayState → Option Accepted
recorded_accept replay = option_and_then (accept_in replay.pairs) (coming replay)

abbrev pub accept_answer : ReplayState → Accepted
accept_answer replay = unwrap_or (recorded_accept replay) accepted.NotYet

abbrev pub accept_faults : Accepted → ℕ → ℕ
accept_faults (accepted.Pair pair) faults = faults
accept_faults accepted.NotYet faults = faults
accept_faults accepted.Failed faults = one_more faults

abbrev pub after_accept : ReplayState → ReplayState
after_accept replay =
    let answer = accept_answer replay in
    record (answered (is_some (recorded_accept replay)) replay) {
      faults = accept_faults answer replay.faults;
      pairs = pairs_after answer replay.pairs;
      ends = ends_accepted answer replay.ends;
    }

abbrev pub recorded_connect : ℕ → ReplayState → Option Linked
recorded_connect pair replay = option_and_then (connect_in pair) (coming replay)

abbrev pub connect_answer : ℕ → ReplayState → Linked
connect_answer pair replay = unwrap_or (recorded_connect pair replay) linked.Failed

abbrev pub connect_faults : Linked → ℕ → ℕ
connect_faults linked.Ok faults = faults
connect_faults linked.Failed faults = one_more faults

abbrev pub after_connect : ℕ → ReplayState → ReplayState
after_connect pair replay =
    let answer = connect_answer pair replay in
    record (answered (is_some (recorded_connect pair replay)) replay) {
      faults = connect_faults answer replay.faults;
      ends = ends_linked answer pair replay.ends;
    }

abbrev pub recorded_read : ℕ → End → ℕ → ReplayState → Option (Got × List ℕ)
recorded_read pair end room replay = option_and_then (read_in pair end room) (coming replay)

-- the answer, and the bytes that come
abbrev pub read_answer : ℕ → End → ℕ → ReplayState → Got × List ℕ
read_answer pair end room replay = unwrap_or (recorded_read pair end room replay) (got.NotYet, [])

abbrev pub read_faults : Got → ℕ → ℕ
read_faults (got.Bytes n) faults = faults
read_faults got.NotYet faults = faults
read_faults got.Ended faults = faults
read_faults got.Failed faults = one_more faults

abbrev pub after_read : ℕ → End → ℕ → ReplayState → ReplayState
after_read pair end room replay =
    record (answered (is_some (recorded_read pair end room replay)) replay) {
      faults = read_faults (read_answer pair end room replay).0 replay.faults;
    }

abbrev pub recorded_write : ℕ → End → List ℕ → ReplayState → Option Put
recorded_write pair end bytes replay = option_and_then (write_in pair end bytes) (coming replay)

abbrev pub write_answer : ℕ → End → List ℕ → ReplayState → Put
write_answer pair end bytes replay = unwrap_or (recorded_write pair end bytes replay) put.NotYet

abbrev pub write_faults : Put → ℕ → ℕ
write_faults (put.Took n) faults = faults
write_faults put.NotYet faults = faults
write_faults put.Failed faults = one_more faults

abbrev pub after_write : ℕ → End → List ℕ → ReplayState → ReplayState
after_write pair end bytes replay =
    record (answered (is_some (recorded_write pair end bytes replay)) replay) {
      faults = write_faults (write_answer pair end bytes replay) replay.faults;
    }

abbrev pub is_shut_next : ℕ → End → Option LogEntry → Bool
is_shut_next pair end None = false
is_shut_next pair end (Some entry) = is_shut pair end entry

abbrev pub after_shut : ℕ → End → ReplayState → ReplayState
after_shut pair end replay =
    record (answered (is_shut_next pair end
    (coming replay)) replay) { ends = closed pair end replay.ends }

abbrev pub recorded_idle : ReplayState → Option Next
recorded_idle replay = option_and_then idle_in (coming replay)

abbrev pub idle_answer : ReplayState → Next
idle_answer replay = unwrap_or (recorded_idle replay) next.Stop

abbrev pub after_idle : ReplayState → ReplayState
after_idle replay = answered (is_some (recorded_idle replay)) replay

abbrev pub recorded_now : ReplayState → Option ℕ
recorded_now replay = option_and_then (now_in replay.last) (coming replay)

abbrev pub now_answer : ReplayState → ℕ
now_answer replay = unwrap_or (recorded_now replay) replay.last

abbrev pub after_now : ReplayState → ReplayState
after_now replay =
    record (answered (is_some (recorded_now replay)) replay) { last = now_answer replay }
