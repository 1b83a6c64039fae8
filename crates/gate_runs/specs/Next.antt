-- The marks of a run are determined: each is a function of those before it and of what the words of
-- its pairs' journals say. All histories are newest first.
use Rattle.std.specs.Prelude.{ℕ, ◌+◌, ◌==◌, nat_lt, Bool, true, false, not, ◌&&◌, if◌then◌else◌}
use Rattle.std.specs.Prelude.{List, [], ◌∷◌, ◌++◌, length, filter, Option, None, Some, unwrap_or}
use Rattle.std.specs.Option.{option_map}
use Rattle.gate_outside.specs.declared.ports.End.{End}
use Rattle.gate_outside.specs.declared.ports.End.TheVariants.{Client, Up}
use Rattle.gate_outside.specs.declared.ports.Accepted.{Accepted}
use Rattle.gate_outside.specs.declared.ports.Accepted.TheVariants as accepted
use Rattle.gate_outside.specs.declared.ports.Got.TheVariants as got
use Rattle.gate_outside.specs.declared.ports.Put.{Put}
use Rattle.gate_outside.specs.declared.ports.Put.TheVariants as put
use Rattle.gate_outside.specs.declared.ports.Next.TheVariants.{Go, Stop}
use Rattle.gate_outside.specs.declared.log.LogEntry.{LogEntry}
use Rattle.gate_outside.specs.declared.log.LogEntry.TheVariants.{Accept, Connect, Read, Write, Shut}
use Rattle.gate_outside.specs.declared.log.LogEntry.TheVariants.{Idle, Now}
use Rattle.gate_relay.specs.Entries.{Entry, is_empty}
use Rattle.gate_relay.specs.Guards.{reads, takes_up, connects, offers, shuts}
use Rattle.gate_relay.specs.Relayed.{read_room}
use Rattle.gate_relay.specs.RelayWords.{RelayWords}
use Rattle.gate_relay.specs.Sides.{sides, side_of, is_open_side, has_end}
use Rattle.gate_runs.specs.declared.limits.Limits.{Limits}
use Rattle.gate_runs.specs.declared.served.Served.{Served}
use Rattle.gate_runs.specs.declared.served.Served.TheVariants.{Stopped, PairsDone, TurnLimit, Fault}
use Rattle.gate_runs.specs.declared.served.Outside.TheVariants as outside
use Rattle.gate_runs.specs.Journal.{journal}
use Rattle.gate_runs.specs.Marks.{History, Call, Refuse, TakeUp, RunOut, Finish}
use Rattle.gate_runs.specs.Stages.{Stage, Reading, Taking, Linking, Writing, Shutting, Past, later}
use Rattle.gate_runs.specs.Stages.{stages_from, writing_at, one_more, lap_end}

-- ---- what comes next

-- a call without its answer
pub data Asked : Type 0 where
  AskAccept : Asked
  AskConnect : ℕ → Asked
  -- the last is the room
  AskRead : ℕ → End → ℕ → Asked
  AskWrite : ℕ → End → List ℕ → Asked
  AskShut : ℕ → End → Asked
  AskIdle : Asked
  AskNow : Asked

abbrev pub asked : LogEntry → Asked
asked (Accept answer) = AskAccept
asked (Connect p answer) = AskConnect p
asked (Read p end room answer bytes) = AskRead p end room
asked (Write p end bytes answer) = AskWrite p end bytes
asked (Shut p end) = AskShut p end
asked (Idle answer) = AskIdle
asked (Now ms) = AskNow

-- a call, the taking up of what came of a pair, the end of the service, or nothing more
pub data Upcoming : Type 0 where
  Do : Asked → Upcoming
  Settle : ℕ → Upcoming
  EndBy : Served → Upcoming
  Done : Upcoming

-- ---- a pair's part of a turn

abbrev pub where_due : Bool → Upcoming → Option Upcoming
where_due true up = Some up
where_due false up = None

-- an end is written to at most 4,096 times in a turn
abbrev pub most_writes : ℕ
most_writes = 4096

-- what a stage asks
abbrev pub ask : RelayWords → ℕ → Stage → List Entry → Option Upcoming
ask w p (Reading end) h = where_due (reads w end h) (Do (AskRead p end read_room))
ask w p Taking h = where_due (takes_up w h) (Settle p)
ask w p Linking h = where_due (connects w h) (Do (AskConnect p))
ask w p (Writing lap k) h =
    if nat_lt k most_writes then option_map (λ bytes. Do (AskWrite p (lap_end lap) bytes))
    (offers w (lap_end lap) h) else None
ask w p (Shutting end) h = where_due (shuts w end h) (Do (AskShut p end))
ask w p Past h = None

abbrev pub or_more : Option Upcoming → Upcoming → Upcoming
or_more (Some up) more = up
or_more None more = more

abbrev pub first_ask : RelayWords → ℕ → List Stage → List Entry → Upcoming → Upcoming
first_ask w p [] h more = more
first_ask w p (s ∷ ss) h more = or_more (ask w p s h) (first_ask w p ss h more)

-- the first of the stages from one on that asks something
abbrev pub visit : RelayWords → ℕ → Stage → List Entry → Upcoming → Upcoming
visit w p s h more = first_ask w p (stages_from s) h more

-- ---- what a history amounts to

-- the pairs that may be accepted: an absent count stands for 4,294,967,295
abbrev pub pair_limit : Limits → ℕ
pair_limit c = unwrap_or c.pairs 4294967295

-- at most 256 pairs live
abbrev pub most_live : ℕ
most_live = 256

-- the pairs accepted
abbrev pub accepted_count : History → ℕ
accepted_count [] = 0
accepted_count (Call (Accept (accepted.Pair p)) ∷ m) = accepted_count m + 1
accepted_count (x ∷ m) = accepted_count m

abbrev pub without : ℕ → List ℕ → List ℕ
without p ps = filter (λ q. not (q == p)) ps

abbrev pub unless_gone : Bool → ℕ → List ℕ → List ℕ
unless_gone true p ps = ps
unless_gone false p ps = without p ps

-- the pairs accepted that have an open end, in the order of their accepts
abbrev pub live_pairs : History → List ℕ
live_pairs [] = []
live_pairs (Call (Accept (accepted.Pair p)) ∷ m) = live_pairs m ++ p ∷ []
live_pairs (Call (Shut p end) ∷ m) =
    unless_gone (has_end (sides (journal p (Call (Shut p end) ∷ m)))) p (live_pairs m)
live_pairs (x ∷ m) = live_pairs m

-- the turns begun: each begins with the clock
abbrev pub turns_begun : History → ℕ
turns_begun [] = 0
turns_begun (Call (Now ms) ∷ m) = turns_begun m + 1
turns_begun (x ∷ m) = turns_begun m

-- in this turn a pair was accepted, a byte was read or taken, an end ended or failed, or one was
-- shut
abbrev pub has_moved : History → Bool
has_moved [] = false
has_moved (Call (Now ms) ∷ m) = false
has_moved (Call (Accept (accepted.Pair p)) ∷ m) = true
has_moved (Call (Read p end room (got.Bytes n) bytes) ∷ m) = true
has_moved (Call (Read p end room got.Ended bytes) ∷ m) = true
has_moved (Call (Read p end room got.Failed bytes) ∷ m) = true
has_moved (Call (Write p end bytes (put.Took n)) ∷ m) = true
has_moved (Call (Write p end bytes put.Failed) ∷ m) = true
has_moved (Call (Shut p end) ∷ m) = true
has_moved (x ∷ m) = has_moved m

-- the pairs that ran out of memory
abbrev pub out_of_memory_count : History → ℕ
out_of_memory_count [] = 0
out_of_memory_count (Refuse p ∷ m) = out_of_memory_count m + 1
out_of_memory_count (RunOut p s cut ∷ m) = out_of_memory_count m + 1
out_of_memory_count (x ∷ m) = out_of_memory_count m

-- how the service ended
abbrev pub finish_of : History → Option Served
finish_of [] = None
finish_of (Finish how ∷ m) = Some how
finish_of (x ∷ m) = finish_of m

-- ---- the point in a turn

pub data Point : Type 0 where
  BetweenTurns : Point
  ClockRead : Point
  -- before the first of the live pairs
  BeforePairs : Point
  -- there was no memory for a pair at its accept
  Refusing : ℕ → Point
  -- at a stage of a pair's part of the turn
  InPair : ℕ → Stage → Point
  -- the service is to end so
  Ending : Served → Point
  -- the service has ended
  Ended : Point

-- the stage of a pair at a point
abbrev pub stage_of : ℕ → Point → Stage
stage_of p (InPair q s) = if q == p then s else Reading Up
stage_of p x = Reading Up

abbrev pub after_accept : Accepted → Point
after_accept (accepted.Pair p) = BeforePairs
after_accept accepted.NotYet = BeforePairs
after_accept accepted.Failed = Ending (Fault outside.Accept)

abbrev pub after_put : Put → Stage → Stage
after_put (put.Took n) s = one_more s
after_put put.NotYet s = later s
after_put put.Failed s = later s

abbrev pub after_shut : ℕ → End → Point → Point
after_shut p end (Refusing q) = BeforePairs
after_shut p end Ended = Ended
after_shut p end x = InPair p (later (Shutting end))

-- the point after a call
abbrev pub after : LogEntry → Point → Point
after (Now ms) x = ClockRead
after (Accept answer) x = after_accept answer
after (Connect p answer) x = InPair p (later Linking)
after (Read p end room answer bytes) x = InPair p (later (Reading end))
after (Write p end bytes answer) x = InPair p (after_put answer (writing_at end (stage_of p x)))
after (Shut p end) x = after_shut p end x
after (Idle Go) x = BetweenTurns
after (Idle Stop) x = Ending Stopped

abbrev pub point : History → Point
point [] = BetweenTurns
point (Call entry ∷ m) = after entry (point m)
point (Refuse p ∷ m) = Refusing p
point (TakeUp p ∷ m) = InPair p (later Taking)
point (RunOut p s cut ∷ m) = InPair p s
point (Finish how ∷ m) = Ended

-- ---- the rules of the turn

-- the pairs asked for were accepted and have closed
abbrev pub is_done : Limits → History → Bool
is_done c m = (accepted_count m == pair_limit c) && is_empty (live_pairs m)

-- after a turn
abbrev pub begin : Limits → History → Upcoming
begin c m =
    if is_done c m then EndBy PairsDone else (if turns_begun m == c.turns
    then EndBy TurnLimit else Do AskNow)

-- after the last pair: idle, where nothing moved
abbrev pub rest : Limits → History → Upcoming
rest c m = if has_moved m then begin c m else Do AskIdle

-- the live pairs that are left, in rising number
abbrev pub round : RelayWords → Limits → History → List ℕ → Upcoming
round w c m [] = rest c m
round w c m (p ∷ ps) = visit w p (Reading Up) (journal p m) (round w c m ps)

-- fewer than 256 pairs live, and fewer than may be were accepted
abbrev pub may_accept : Limits → History → Bool
may_accept c m =
    nat_lt (length (live_pairs m)) most_live && nat_lt (accepted_count m) (pair_limit c)

-- the pairs behind p
abbrev pub beyond : ℕ → List ℕ → List ℕ
beyond p ps = filter (λ q. nat_lt p q) ps

-- at the end each open end of each live pair is shut, upstream first
abbrev pub first_open : List Entry → End
first_open h = if is_open_side (side_of Up (sides h)) then Up else Client

abbrev pub closing : History → List ℕ → Upcoming
closing m [] = Done
closing m (p ∷ ps) = Do (AskShut p (first_open (journal p m)))

abbrev pub ahead : RelayWords → Limits → History → Point → Upcoming
ahead w c m BetweenTurns = begin c m
ahead w c m ClockRead = if may_accept c m then Do AskAccept else round w c m (live_pairs m)
ahead w c m BeforePairs = round w c m (live_pairs m)
ahead w c m (Refusing p) = Do (AskShut p Client)
ahead w c m (InPair p s) = visit w p s (journal p m) (round w c m (beyond p (live_pairs m)))
ahead w c m (Ending how) = EndBy how
ahead w c m Ended = closing m (live_pairs m)

-- what comes after a history
abbrev pub next : RelayWords → Limits → History → Upcoming
next w c m = ahead w c m (point m)
