-- What was sent to a client answers what it sent.
use Rattle.std.specs.Prelude.{◌≡◌, Bool, true, false, List, [], ◌∷◌, ◌++◌, filter}
use Rattle.machine_091.specs.declared.state.Phase91.{Phase91}
use Rattle.machine_091.specs.declared.state.Phase91.TheVariants as phase
use Rattle.machine_091.specs.declared.unit.Refusal.{Refusal}
use Rattle.gate_model.specs.declared.reply.Reply.{Reply}
use Rattle.gate_model.specs.declared.reply.Reply.TheVariants as reply
use Rattle.gate_model.specs.State.{Step, before, has_left}
use Rattle.gate_model.specs.Due.{rows}
use Rattle.gate_model.specs.Folds.{answers_of, connection, ran_out_in, replies, sent, sent_since}
use Rattle.gate_model.specs.Folds.{until_memory}

-- replies, but for a close of the gateway of which no byte was sent when the client closed, or when
-- its end was taken up
pub data AreReplies (all said : List Reply) (left : Bool) : Type 0 where
  All : said ≡ all → AreReplies all said left
  Overtaken : (front : List Reply) (r : Refusal) → said ≡ front ++ reply.CloseOk ∷ []
      → all ≡ front ++ reply.Close r ∷ reply.CloseOk ∷ [] → AreReplies all said left
  TakenBack : (r : Refusal) → left ≡ true → all ≡ said ++ reply.Close r ∷ []
      → AreReplies all said left

abbrev pub is_close : Reply → Bool
is_close reply.Protocol = false
is_close reply.Start = false
is_close reply.Tune = false
is_close reply.OpenOk = false
is_close reply.CloseOk = false
is_close (reply.Close r) = true
is_close reply.NoMemory = false
is_close reply.Heartbeat = false
is_close (reply.ChannelOpenOk n) = false
is_close (reply.OnChannel n u) = false
is_close (reply.ChannelCloseOk n) = false
is_close (reply.CrossedOk n) = false
is_close (reply.ChannelClose n r) = false

abbrev pub is_close_ok : Reply → Bool
is_close_ok reply.Protocol = false
is_close_ok reply.Start = false
is_close_ok reply.Tune = false
is_close_ok reply.OpenOk = false
is_close_ok reply.CloseOk = true
is_close_ok (reply.Close r) = false
is_close_ok reply.NoMemory = false
is_close_ok reply.Heartbeat = false
is_close_ok (reply.ChannelOpenOk n) = false
is_close_ok (reply.OnChannel n u) = false
is_close_ok (reply.ChannelCloseOk n) = false
is_close_ok (reply.CrossedOk n) = false
is_close_ok (reply.ChannelClose n r) = false

-- the units that are due once the pair ran out of memory, by the connection and the units that were
-- due before: nothing before the client's header, then a close for that; once the gateway closed,
-- its own close, and once the client did, close-ok
abbrev pub last_units : Phase91 → List Reply → List Reply
last_units phase.Header us = []
last_units phase.Start us = reply.NoMemory ∷ []
last_units phase.Tune us = reply.NoMemory ∷ []
last_units phase.Open us = reply.NoMemory ∷ []
last_units phase.Running us = reply.NoMemory ∷ []
last_units phase.Closing us = filter is_close us
last_units phase.Closed us = filter is_close_ok us

-- what was sent without heartbeats, and what is due, are the replies to the client's units; after
-- the pair ran out of memory what was sent since, and what is due, are the last units
pub record AreAnswered (h : List Step) : Type 0 where
  pub all : ran_out_in h ≡ false
      → AreReplies (replies h) (answers_of (sent h) ++ rows (before h).pending)
      (has_left (connection h).stream)
  pub last : ran_out_in h ≡ true → let g : List Step = until_memory h in
      answers_of (sent_since h) ++ rows (before h).pending
      ≡ last_units (connection g).phase (rows (before g).pending)
