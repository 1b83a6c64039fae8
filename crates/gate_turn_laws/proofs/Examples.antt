-- A run of words that satisfy what the laws want of them: premises that hold, and what is said of a quiet pair.
use Rattle.std.proofs.Common.{◌≡◌, ◌≤◌, Bool, true, false, List, [], ◌∷◌, None, Some, refl, arith}
use Rattle.gate_outside.specs.declared.ports.End.TheVariants.{Client, Up}
use Rattle.gate_outside.specs.declared.ports.Accepted.TheVariants as accepted
use Rattle.gate_outside.specs.declared.ports.Got.TheVariants as got
use Rattle.gate_outside.specs.declared.ports.Linked.TheVariants as linked
use Rattle.gate_outside.specs.declared.ports.Put.TheVariants as put
use Rattle.gate_outside.specs.declared.ports.Next.TheVariants.{Stop}
use Rattle.gate_outside.specs.declared.log.LogEntry.TheVariants.{Accept, Connect, Read, Write, Shut}
use Rattle.gate_outside.specs.declared.log.LogEntry.TheVariants.{Idle, Now}
use Rattle.gate_relay.specs.Entries.{Entry, Came}
use Rattle.gate_relay.specs.Relayed.{read_room}
use Rattle.gate_relay.specs.RelayWords.{RelayWords}
use Rattle.gate_runs.specs.declared.limits.Limits.{Limits}
use Rattle.gate_runs.specs.declared.served.Served.TheVariants.{Stopped, TurnLimit}
use Rattle.gate_runs.specs.Marks.{History, Call, TakeUp, RunOut, Finish, calls}
use Rattle.gate_runs.specs.declared.lap.Lap.TheVariants.{ToClientLate}
use Rattle.gate_runs.specs.Stages.{Writing}
use Rattle.gate_runs.specs.Next.{Done, next}
use Rattle.gate_runs.specs.Serving.{AtWrite, Follows}
use Rattle.gate_turn_laws.specs.Log.{run_of}
use Rattle.gate_turn_laws.specs.Quiet.{IsSteady, WakesNone}
use Rattle.wire_base.proofs.Bytes.{IsBytes-one}

-- the client's end is read, and seven is offered to it
abbrev words : RelayWords
words = record {
  awaits = λ end h. true;
  takes_up = λ h. false;
  connects = λ h. false;
  offer = λ end h. Some (7 ∷ []);
  takes_memory = λ end h. false;
  shut_due = λ end h. false;
  lines = λ h. [];
}

abbrev limits : Limits
limits = record { pairs = None; turns = 9 }

-- one pair comes, gives nothing and takes nothing; then idle says stop, and its end is shut
abbrev run : History
run = Call (Shut 0 Client) ∷ Finish Stopped ∷ Call (Idle Stop)
    ∷ Call (Write 0 Client (7 ∷ []) put.NotYet) ∷ Call (Read 0 Client read_room got.NotYet []) ∷ Call (Accept accepted.NotYet) ∷ Call (Now 9)
    ∷ Call (Write 0 Client (7 ∷ []) put.NotYet) ∷ Call (Read 0 Client read_room got.NotYet []) ∷ Call (Accept (accepted.Pair 0)) ∷ Call (Now 5) ∷ []

pub steady : IsSteady words
steady = record {
  dry_awaits = λ end dry h. refl;
  awaits = λ end stuck bytes h. refl;
  takes = λ stuck bytes h. refl;
  connects = λ stuck bytes h. refl;
  offer = λ end stuck bytes h. refl;
  settled = λ h calm. refl;
}

pub wakes_none : WakesNone words
wakes_none = record { settled = λ h r e. e; client = λ h e. e; takes = λ h e. e }

pub follows : Follows words limits run
follows = (
  refl,
  tt,
  (
    refl,
    refl,
    (
      refl,
      tt,
      (
        refl,
        tt,
        (
          refl,
          tt,
          (
            refl,
            tt,
            (
              refl,
              omega arith,
              (refl, tt, (refl, tt, (refl, refl, (refl, omega arith, tt)))),
            ),
          ),
        ),
      ),
    ),
  ),
)

pub over : next words limits run ≡ Done
over = refl

-- the calls alone give the run
pub alone : run_of words limits (calls run) ≡ run
alone = refl

-- ---- both ends, and a pair that runs out of memory in its writes to the client

abbrev came_last : List Entry → Bool
came_last (Came end bytes ∷ h) = true
came_last h = false

abbrev both_words : RelayWords
both_words = record {
  awaits = λ end h. true;
  takes_up = came_last;
  connects = λ h. true;
  offer = λ end h. Some (7 ∷ []);
  takes_memory = λ end h. true;
  shut_due = λ end h. false;
  lines = λ h. [];
}

abbrev one_turn : Limits
one_turn = record { pairs = None; turns = 1 }

abbrev joined : History
joined = Call (Write 0 Up (7 ∷ []) put.NotYet) ∷ Call (Connect 0 linked.Ok) ∷ TakeUp 0 ∷ Call (Read 0 Client read_room (got.Bytes 1) (9 ∷ []))
    ∷ Call (Accept (accepted.Pair 0)) ∷ Call (Now 5) ∷ []

-- upstream is written to once more, and at the end both ends are shut, upstream first
abbrev out_run : History
out_run = Call (Shut 0 Client) ∷ Call (Shut 0 Up) ∷ Finish TurnLimit
    ∷ Call (Write 0 Up (7 ∷ []) put.NotYet) ∷ Call (Write 0 Client (7 ∷ []) put.NotYet) ∷ RunOut 0 (Writing ToClientLate 0) 0 ∷ joined

read_fits : 1 ≤ read_room
unfolding read_room
read_fits = omega arith

pub out_follows : Follows both_words one_turn out_run
out_follows = (
  refl,
  tt,
  (
    refl,
    tt,
    (
      refl,
      refl,
      (
        refl,
        tt,
        (
          refl,
          tt,
          (
            refl,
            AtWrite Client (7 ∷ []) joined refl refl,
            (refl, tt, (refl, tt, (refl, (refl, (omega arith, read_fits, refl, IsBytes-one 9 (omega arith)), (refl, refl, (refl, omega arith, tt)))))),
          ),
        ),
      ),
    ),
  ),
)

pub out_over : next both_words one_turn out_run ≡ Done
out_over = refl
