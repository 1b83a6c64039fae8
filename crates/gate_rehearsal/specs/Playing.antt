-- How the ports of a rehearsal answer.
use Rattle.std.specs.Prelude.{◌≡◌, ◌≤◌, min, Bool, List, length}
use Rattle.gate_outside.specs.declared.ports.Accepted.{Accepted}
use Rattle.gate_outside.specs.declared.ports.Accepted.TheVariants as accepted
use Rattle.gate_outside.specs.declared.ports.Got.{Got}
use Rattle.gate_outside.specs.declared.ports.Got.TheVariants as got
use Rattle.gate_outside.specs.declared.ports.Linked.TheVariants as linked
use Rattle.gate_outside.specs.declared.ports.Next.TheVariants as next
use Rattle.gate_outside.specs.declared.ports.Put.TheVariants as put
use Rattle.gate_outside.specs.declared.log.LogEntry.{LogEntry}
use Rattle.gate_outside.specs.declared.log.LogEntry.TheVariants as entry

-- an accept gives the one pair or none yet
abbrev pub GivesOne : Accepted → Type 0
GivesOne (accepted.Pair p) = p ≡ 0
GivesOne accepted.NotYet = Unit {0}
GivesOne accepted.Failed = ⊥

-- a read gives at most 1,021 bytes, or none yet; no end ends or fails
abbrev pub GivesFew : Got → Type 0
GivesFew (got.Bytes n) = n ≤ 1021
GivesFew got.NotYet = Unit {0}
GivesFew got.Ended = ⊥
GivesFew got.Failed = ⊥

-- a call that was answered as in a rehearsal: no call fails, a write takes at most 509 bytes and no
-- fewer than that or all, the service is asked to end where nothing can be done, and the moment is
-- always 0
abbrev pub IsPlayed : LogEntry → Type 0
IsPlayed (entry.Accept answer) = GivesOne answer
IsPlayed (entry.Connect pair answer) = answer ≡ linked.Ok
IsPlayed (entry.Read pair end room answer bytes) = GivesFew answer
IsPlayed (entry.Write pair end bytes answer) = answer ≡ put.Took (min (length bytes) 509)
IsPlayed (entry.Shut pair end) = Unit {0}
IsPlayed (entry.Idle answer) = answer ≡ next.Stop
IsPlayed (entry.Now ms) = ms ≡ 0

-- the calls of a rehearsal, and whether all are told
pub record StoryState : Type 0 where
  pub entries : List LogEntry
  pub tells : Bool
