-- The journal of a pair: its entries in a history. All lists are newest first.
use Rattle.std.specs.Prelude.{ℕ, ◌==◌, if◌then◌else◌, List, [], ◌∷◌}
use Rattle.gate_outside.specs.declared.ports.End.{End}
use Rattle.gate_outside.specs.declared.ports.Accepted.TheVariants as accepted
use Rattle.gate_outside.specs.declared.ports.Got.{Got}
use Rattle.gate_outside.specs.declared.ports.Got.TheVariants as got
use Rattle.gate_outside.specs.declared.ports.Put.{Put}
use Rattle.gate_outside.specs.declared.ports.Put.TheVariants as put
use Rattle.gate_outside.specs.declared.log.LogEntry.TheVariants.{Accept, Connect, Read, Write, Shut}
use Rattle.gate_outside.specs.declared.log.LogEntry.TheVariants.{Idle, Now}
use Rattle.gate_relay.specs.declared.loss.Loss.TheVariants as loss
use Rattle.gate_relay.specs.Entries.{Entry, Began, Refused, Moment, Came, Dry, Settled, Joined}
use Rattle.gate_relay.specs.Entries.{Took, Stuck, Lost, OutOfMemory, Over}
use Rattle.gate_runs.specs.Marks.{Mark, History, Call, Refuse, TakeUp, RunOut, Finish}

-- the last moment that was given
abbrev pub moment : History → ℕ
moment [] = 0
moment (Call (Now ms) ∷ m) = ms
moment (x ∷ m) = moment m

-- what a read says
abbrev pub read_entry : End → Got → List ℕ → Entry
read_entry end (got.Bytes n) bytes = Came end bytes
read_entry end got.NotYet bytes = Dry end
read_entry end got.Ended bytes = Lost end loss.Ended
read_entry end got.Failed bytes = Lost end loss.Failed

-- what a write says
abbrev pub write_entry : End → List ℕ → Put → Entry
write_entry end bytes (put.Took n) = Took end bytes n
write_entry end bytes put.NotYet = Stuck end bytes
write_entry end bytes put.Failed = Lost end loss.Failed

-- one entry more in a journal that has begun
abbrev pub since : Entry → List Entry → List Entry
since e [] = []
since e (x ∷ h) = e ∷ x ∷ h

-- what a mark adds to the journal of p
abbrev pub with_mark : ℕ → ℕ → Mark → List Entry → List Entry
with_mark p ms (Call (Accept (accepted.Pair q))) h = if q == p then Began p ms ∷ [] else h
with_mark p ms (Call (Accept accepted.NotYet)) h = h
with_mark p ms (Call (Accept accepted.Failed)) h = h
with_mark p ms (Call (Connect q answer)) h = if q == p then Joined answer ∷ h else h
with_mark p ms (Call (Read q end room answer bytes)) h =
    if q == p then read_entry end answer bytes ∷ h else h
with_mark p ms (Call (Write q end bytes answer)) h =
    if q == p then write_entry end bytes answer ∷ h else h
with_mark p ms (Call (Shut q end)) h = if q == p then Lost end loss.Shut ∷ h else h
with_mark p ms (Call (Idle answer)) h = h
with_mark p ms (Call (Now now)) h = since (Moment now) h
with_mark p ms (Refuse q) h = if q == p then Refused ∷ h else h
with_mark p ms (TakeUp q) h = if q == p then Settled ∷ h else h
with_mark p ms (RunOut q s cut) h = if q == p then OutOfMemory cut ∷ h else h
with_mark p ms (Finish how) h = since Over h

abbrev pub journal : ℕ → History → List Entry
journal p [] = []
journal p (x ∷ m) = with_mark p (moment m) x (journal p m)
