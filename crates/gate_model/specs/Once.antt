-- Each request on a channel is answered at most once (AMQP 0-9-1 1.5.1).
use Rattle.std.specs.Prelude.{ℕ, ◌+◌, ◌==◌, ◌≤◌, Bool, true, false, ◌&&◌, if◌then◌else◌, List, []}
use Rattle.std.specs.Prelude.{◌∷◌}
use Rattle.machine_091.specs.declared.unit.Want91.{Want91}
use Rattle.machine_091.specs.declared.unit.Want91.TheVariants as want
use Rattle.methods_091.specs.declared.method.Method91.{Method91}
use Rattle.methods_091.specs.declared.method.Method91.TheVariants as method
use Rattle.gate_model.specs.declared.outgoing.Outgoing.TheVariants.{ToClient}
use Rattle.gate_model.specs.declared.channel.ChannelUnit.{ChannelUnit}
use Rattle.gate_model.specs.declared.channel.ChannelUnit.TheVariants as unit
use Rattle.session_path.specs.declared.path.PathOk.TheVariants as ok
use Rattle.gate_model.specs.declared.reply.Reply.{Reply}
use Rattle.gate_model.specs.declared.reply.Reply.TheVariants as reply
use Rattle.gate_model.specs.Folds.{routes_in}
use Rattle.gate_model.specs.Folds.{connection, paths_in, ran_out_in}
use Rattle.gate_model.specs.State.{Came, Gave, Step, want_in}

abbrev pub one_if : Bool → ℕ
one_if true = 1
one_if false = 0

-- how many units of the client that were taken up want what passes a test
abbrev pub wanted_in : (Want91 → Bool) → List Step → ℕ
wanted_in t [] = 0
wanted_in t (Came u ∷ h) =
    if ran_out_in h then wanted_in t h
    else wanted_in t h + one_if (t (want_in (routes_in h) (paths_in h) (connection h) u))
wanted_in t (s ∷ h) = wanted_in t h

-- how many units to it, of which the first byte was sent, pass one
abbrev pub went_in : (Reply → Bool) → List Step → ℕ
went_in t [] = 0
went_in t (Gave (ToClient u) text ∷ h) = went_in t h + one_if (t u)
went_in t (s ∷ h) = went_in t h

-- ---- requests

abbrev pub is_channel_open : Method91 → Bool
is_channel_open method.ChannelOpen = true
is_channel_open m = false

abbrev pub is_channel_flow : Method91 → Bool
is_channel_flow (method.ChannelFlow active) = true
is_channel_flow m = false

abbrev pub is_channel_close : Method91 → Bool
is_channel_close (method.ChannelClose code text class id) = true
is_channel_close m = false

-- a method of a channel that passes a test
abbrev pub is_method_on : (Method91 → Bool) → ℕ → Want91 → Bool
is_method_on t n want.Nothing = false
is_method_on t n want.Start = false
is_method_on t n (want.Login mechanism response) = false
is_method_on t n want.Tuned = false
is_method_on t n want.OpenUp = false
is_method_on t n (want.Method k m) = k == n && t m
is_method_on t n (want.Publish k m c) = false
is_method_on t n (want.ChannelCloseOk k) = false
is_method_on t n want.Close = false
is_method_on t n want.CloseOk = false
is_method_on t n (want.Refuse r) = false

-- ---- answers

abbrev pub is_open_ok_on : ℕ → Reply → Bool
is_open_ok_on n reply.Protocol = false
is_open_ok_on n reply.Start = false
is_open_ok_on n reply.Tune = false
is_open_ok_on n reply.OpenOk = false
is_open_ok_on n reply.CloseOk = false
is_open_ok_on n (reply.Close r) = false
is_open_ok_on n reply.NoMemory = false
is_open_ok_on n reply.Heartbeat = false
is_open_ok_on n (reply.ChannelOpenOk k) = k == n
is_open_ok_on n (reply.OnChannel k u) = false
is_open_ok_on n (reply.ChannelCloseOk k) = false
is_open_ok_on n (reply.CrossedOk k) = false
is_open_ok_on n (reply.ChannelClose k r) = false

abbrev pub is_flow_ok : ChannelUnit → Bool
is_flow_ok (unit.Ok ok.Flow) = true
is_flow_ok (unit.Ok ok.Declare) = false
is_flow_ok (unit.Ok ok.Select) = false
is_flow_ok (unit.Ok (ok.Consume link)) = false
is_flow_ok (unit.Ok (ok.Qos count global)) = false
is_flow_ok (unit.Ok ok.Cancel) = false
is_flow_ok (unit.Ok ok.Queue) = false
is_flow_ok (unit.Ok ok.Get) = false
is_flow_ok (unit.Ok (ok.Empty link)) = false
is_flow_ok (unit.Ok ok.Recover) = false
is_flow_ok (unit.Deliver d) = false
is_flow_ok (unit.Content c) = false
is_flow_ok (unit.Confirm c) = false
is_flow_ok (unit.Return r) = false

abbrev pub is_flow_ok_on : ℕ → Reply → Bool
is_flow_ok_on n reply.Protocol = false
is_flow_ok_on n reply.Start = false
is_flow_ok_on n reply.Tune = false
is_flow_ok_on n reply.OpenOk = false
is_flow_ok_on n reply.CloseOk = false
is_flow_ok_on n (reply.Close r) = false
is_flow_ok_on n reply.NoMemory = false
is_flow_ok_on n reply.Heartbeat = false
is_flow_ok_on n (reply.ChannelOpenOk k) = false
is_flow_ok_on n (reply.OnChannel k u) = k == n && is_flow_ok u
is_flow_ok_on n (reply.ChannelCloseOk k) = false
is_flow_ok_on n (reply.CrossedOk k) = false
is_flow_ok_on n (reply.ChannelClose k r) = false

-- channel.close-ok, also to a channel.close that crossed the gateway's
abbrev pub is_close_ok_on : ℕ → Reply → Bool
is_close_ok_on n reply.Protocol = false
is_close_ok_on n reply.Start = false
is_close_ok_on n reply.Tune = false
is_close_ok_on n reply.OpenOk = false
is_close_ok_on n reply.CloseOk = false
is_close_ok_on n (reply.Close r) = false
is_close_ok_on n reply.NoMemory = false
is_close_ok_on n reply.Heartbeat = false
is_close_ok_on n (reply.ChannelOpenOk k) = false
is_close_ok_on n (reply.OnChannel k u) = false
is_close_ok_on n (reply.ChannelCloseOk k) = k == n
is_close_ok_on n (reply.CrossedOk k) = k == n
is_close_ok_on n (reply.ChannelClose k r) = false

-- on each channel no more answers of a kind went than requests of that kind were taken up
pub record AnswersOnce (h : List Step) : Type 0 where
  pub opens : (n : ℕ)
      → went_in (is_open_ok_on n) h ≤ wanted_in (is_method_on is_channel_open n) h
  pub flows : (n : ℕ)
      → went_in (is_flow_ok_on n) h ≤ wanted_in (is_method_on is_channel_flow n) h
  pub closes : (n : ℕ)
      → went_in (is_close_ok_on n) h ≤ wanted_in (is_method_on is_channel_close n) h
