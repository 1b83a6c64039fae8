-- What a unit changes of a path, and which units may go.
use Rattle.std.specs.Prelude.{◌≡◌, ◌≤◌, ℕ, Bool, true, false, List, length, Option, Some, None}
use Rattle.publish_path.specs.Offers.{next_frame_of, rest_of}
use Rattle.session_path.specs.Due.{next_confirm, next_deliver, next_return, partial_on}
use Rattle.session_path.specs.Path.{PathState, answer_came, attach_came, began, closed, consumed}
use Rattle.session_path.specs.Path.{detach_came, failed, flow_came, taking}
use Rattle.session_path.specs.Path.{lost, outcome_came, owed, selected}
use Rattle.session_path.specs.declared.path.PathOk.TheVariants.{Recover, Select}
use Rattle.gate_model.specs.Lives.{life_at}
use Rattle.gate_model.specs.Paths.{path_at}
use Rattle.gate_model.specs.State.{State, answered_if, recovered}
use Rattle.gate_model.specs.declared.channel.ChannelUnit.{ChannelUnit}
use Rattle.gate_model.specs.declared.channel.ChannelUnit.TheVariants as to_client
use Rattle.gate_model.specs.declared.channel.SessionUnit.{SessionUnit}
use Rattle.gate_model.specs.declared.channel.SessionUnit.TheVariants as unit
use Rattle.gate_model.specs.declared.life.SessionState.{SessionState}
use Rattle.gate_model.specs.declared.outgoing.Outgoing.{Outgoing}
use Rattle.gate_model.specs.declared.outgoing.Outgoing.TheVariants.{ToClient, ToUp}
use Rattle.gate_model.specs.declared.outgoing.UpUnit.{UpUnit}
use Rattle.gate_model.specs.declared.outgoing.UpUnit.TheVariants as up
use Rattle.gate_model.specs.declared.reply.Reply.{Reply}
use Rattle.gate_model.specs.declared.reply.Reply.TheVariants as reply
use Rattle.bridge_core.specs.declared.paths.Consume.{Consume}
use Rattle.bridge_core.specs.declared.paths.PathChange.{PathChange}
use Rattle.bridge_core.specs.declared.paths.PathChange.TheVariants as change

abbrev pub path_changed : PathChange → PathState → PathState
path_changed (change.Owed ok) s = owed ok s
path_changed (change.Selected no_wait) s = answered_if no_wait Select (selected s)
path_changed (change.Began handle_max) s = began handle_max s
path_changed (change.Answered tag multiple settle) s = answer_came tag multiple settle s
path_changed change.Recovered s = owed Recover (recovered s)
path_changed (change.Attached attach) s = attach_came attach s
path_changed (change.Flowed peer flow) s =
    flow_came peer flow.count flow.credit flow.drain flow.echo s
path_changed (change.Detached peer not_found) s = detach_came peer not_found s
path_changed (change.Outcome ids outcome settled) s =
    outcome_came ids.first ids.last outcome settled s
path_changed (change.Failed peer fault) s = failed peer fault s
path_changed change.Closed s = closed s
path_changed change.Lost s = lost s

-- there may be none
abbrev pub with_change : Option PathChange → PathState → PathState
with_change None s = s
with_change (Some c) s = path_changed c s

-- which may run out of memory
abbrev pub takes_memory_to : PathChange → Bool
takes_memory_to (change.Owed ok) = true
takes_memory_to (change.Selected no_wait) = true
takes_memory_to (change.Began handle_max) = false
takes_memory_to (change.Answered tag multiple settle) = false
takes_memory_to change.Recovered = true
takes_memory_to (change.Attached attach) = true
takes_memory_to (change.Flowed peer flow) = true
takes_memory_to (change.Detached peer not_found) = false
takes_memory_to (change.Outcome ids outcome settled) = true
takes_memory_to (change.Failed peer fault) = false
takes_memory_to change.Closed = false
takes_memory_to change.Lost = false

abbrev pub consumed_by : Consume → PathState → PathState
consumed_by c s = consumed c.queue c.tag c.no_ack c.no_wait s

-- the payload of the delivery under a handle of the container, so far
abbrev pub partial_in : ℕ → PathState → List ℕ
partial_in peer s = partial_on (taking peer s) s.deliveries

abbrev pub is_deliver : ChannelUnit → Bool
is_deliver (to_client.Ok x) = false
is_deliver (to_client.Deliver d) = true
is_deliver (to_client.Content c) = false
is_deliver (to_client.Confirm c) = false
is_deliver (to_client.Return r) = false

abbrev pub is_deliver_reply : Reply → Bool
is_deliver_reply (reply.OnChannel n u) = is_deliver u
is_deliver_reply u = false

-- a frame that goes is the one that is due, with bytes of its payload that are left
abbrev pub MayGive : SessionUnit → PathState → Type 0
MayGive (unit.Attach a) s = Unit {0}
MayGive (unit.Flow f) s = Unit {0}
MayGive (unit.Transfer t) s =
    (next_frame_of s.links.sending s.publishes.list ≡ Some t.frame)
    × (t.bytes ≤ length (rest_of t.frame.publish s.publishes.list))
MayGive (unit.Dispose x) s = Unit {0}
MayGive (unit.Settle x) s = Unit {0}
MayGive (unit.Detach link handle why) s = Unit {0}

-- and the session has room for one
abbrev pub HasWindow : SessionUnit → SessionState → Type 0
HasWindow (unit.Attach a) x = Unit {0}
HasWindow (unit.Flow f) x = Unit {0}
HasWindow (unit.Transfer t) x = 1 ≤ x.windows.window
HasWindow (unit.Dispose y) x = Unit {0}
HasWindow (unit.Settle y) x = Unit {0}
HasWindow (unit.Detach link handle why) x = Unit {0}

-- a deliver and a confirm that go are those that are due, and so is a frame of a return
abbrev pub MayTell : ChannelUnit → PathState → Type 0
MayTell (to_client.Ok x) s = Unit {0}
MayTell (to_client.Deliver d) s = next_deliver s ≡ Some d
MayTell (to_client.Content c) s = Unit {0}
MayTell (to_client.Confirm c) s = next_confirm s ≡ Some c
MayTell (to_client.Return r) s = next_return s ≡ Some r

-- units of a state
abbrev pub MayGoUp : State → UpUnit → Type 0
MayGoUp w (up.OnSession n u) =
    HasWindow u (life_at w.lives n).session × MayGive u (path_at w.paths n)
MayGoUp w u = Unit {0}

abbrev pub MayReply : State → Reply → Type 0
MayReply w (reply.OnChannel n u) = MayTell u (path_at w.paths n)
MayReply w u = Unit {0}

abbrev pub MayGo : State → Outgoing → Type 0
MayGo w (ToClient u) = MayReply w u
MayGo w (ToUp u) = MayGoUp w u
