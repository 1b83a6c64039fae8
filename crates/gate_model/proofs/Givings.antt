-- What holds of each event but those of a session's units holds of those of a step that gives none.
use Rattle.std.proofs.Common.{◌≡◌, ℕ, ◌==◌, not, ◌&&◌, Bool, true, false, if◌then◌else◌, List, [], ◌∷◌, ◌++◌, Option, None, Some, refl}
use Rattle.std.specs.List.{AllByRecursion}
use Rattle.close_translate.specs.declared.conditions.Scope.{Scope}
use Rattle.close_translate.specs.declared.conditions.Scope.TheVariants as scope
use Rattle.consume_path.specs.declared.receiving.TransferFault.{TransferFault}
use Rattle.gate_outside.specs.declared.ports.End.TheVariants.{Client, Up}
use Rattle.gate_outside.specs.declared.ports.Linked.TheVariants as link
use Rattle.gate_relay.specs.declared.loss.Loss.TheVariants as loss
use Rattle.machine_091.specs.State.{is_open}
use Rattle.machine_091.specs.declared.state.Connection.{Connection}
use Rattle.machine_091.specs.declared.unit.Want91.{Want91}
use Rattle.machine_091.specs.declared.unit.Want91.TheVariants as want
use Rattle.machine_10.specs.Parts.{Parts}
use Rattle.machine_10.specs.Reading.{field, number_at, number_in}
use Rattle.machine_10.specs.Transitions as ten
use Rattle.machine_10.specs.Transitions.{Meaning}
use Rattle.methods_091.specs.declared.method.Method91.{Method91}
use Rattle.methods_091.specs.declared.method.Method91.TheVariants as method
use Rattle.session_path.specs.Events as event
use Rattle.session_path.specs.Events.{PathEvent}
use Rattle.session_path.specs.Path.{PathState}
use Rattle.session_path.specs.declared.path.PathOk.TheVariants as ok
use Rattle.types_10.specs.Tree.{Tree}
use Rattle.gate_model.specs.Folds.{Peers, connection, container, going_in, leaving_in, paths_in, peers, ran_out_in, routes_in, scope_in}
use Rattle.gate_model.specs.Lives.{is_of_channel}
use Rattle.gate_model.specs.Paths.{fault_in, is_outcome, name_in, outcome_in, part_in, path_at, text_of}
use Rattle.gate_model.specs.Publishing.{attach_events, closed_if, closing, ending, heard_events, meaning_events, method_events}
use Rattle.gate_model.specs.Publishing.{owed_unless, reply_events, session_events, step_events}
use Rattle.gate_model.specs.Publishing.{told_event, transfer_event, up_events, want_events, wrote_event, wrote_events}
use Rattle.gate_model.specs.Session.{is_of_session, is_true}
use Rattle.gate_model.specs.State.{Came, Fed, Gave, Heard, Joined, LinesTold, Lost, Moment, OutOfMemory, Silent, Step, TakenUp, Whole}
use Rattle.gate_model.specs.State.{closing_code, conn_step, want_in}
use Rattle.gate_model.specs.Upstream.{meaning_by}
use Rattle.gate_model.specs.declared.channel.ChannelUnit.{ChannelUnit}
use Rattle.gate_model.specs.declared.channel.ChannelUnit.TheVariants as to_client
use Rattle.gate_model.specs.declared.outgoing.Outgoing.TheVariants.{ToClient, ToUp}
use Rattle.gate_model.specs.declared.outgoing.UpUnit.TheVariants as up
use Rattle.gate_model.specs.declared.reply.Reply.{Reply}
use Rattle.gate_model.specs.declared.reply.Reply.TheVariants as reply
use Rattle.gate_model.specs.declared.setup.Route.{Route}
use Rattle.performatives_10.specs.declared.condition.Condition.{Condition}
use Rattle.gate_model.proofs.Basics.{all_both}

-- it tells of a unit of a session's links that goes
abbrev pub is_given : PathEvent → Bool
is_given (event.AttachSent name) = true
is_given event.LinkFlowSent = true
is_given (event.TransferSent frame count) = true
is_given (event.SettleSent settling) = true
is_given event.DisposeSent = true
is_given event.DetachSent = true
is_given x = false

-- or of a link's attach or flow that comes
abbrev pub is_answer : PathEvent → Bool
is_answer (event.AttachCame attach) = true
is_answer (event.FlowCame peer count credit drain echo) = true
is_answer (event.DetachCame peer not_found) = true
is_answer x = false

-- a step that gives the container a unit
abbrev pub gives_up : Step → Bool
gives_up (Gave (ToUp u) text) = true
gives_up s = false

-- or hears one of it
abbrev pub hears : Step → Bool
hears (Heard u) = true
hears s = false

module _ (P : PathEvent → Type 0) (each : (x : PathEvent) → is_given x ≡ false → is_answer x ≡ false → P x) where
  abbrev All : List PathEvent → Type 0
  All xs = AllByRecursion P xs

  both : (xs ys : List PathEvent) → All xs → All ys → All (xs ++ ys)
  both xs ys p q = all_both P xs ys p q

  if_all : (b : Bool) (xs ys : List PathEvent) → All xs → All ys → All (if b then xs else ys)
  if_all true xs ys p q = p
  if_all false xs ys p q = q

  closed_all : (b : Bool) → All (closed_if b)
  closed_all true = (each _ refl refl, tt)
  closed_all false = tt

  ending_all : (c : Connection) (k : ℕ) → All (ending c k)
  ending_all c k = both (closed_if (is_open c k)) _ (closed_all (is_open c k)) (each _ refl refl, tt)

  pub closing_all : (o : Option ℕ) (c : Connection) (k : ℕ) → All (closing o c k)
  closing_all None c k = tt
  closing_all (Some code) c k = closed_all (is_open c k)

  pub method_all : (m : Method91) → All (method_events m)
  method_all (method.ExchangeDeclare name kind passive durable deletes internal no_wait arguments) = by no_wait
    where
      by : (b : Bool) → All (owed_unless b (event.Owed ok.Declare))
      by true = tt
      by false = (each _ refl refl, tt)
  method_all (method.ConfirmSelect no_wait) = by no_wait
    where
      by : (b : Bool) → All (owed_unless b (event.Owed ok.Select) ++ event.Selected ∷ [])
      by true = (each _ refl refl, tt)
      by false = (each _ refl refl, (each _ refl refl, tt))
  method_all (method.ChannelFlow active) = (each _ refl refl, tt)
  method_all (method.BasicConsume queue tag no_local no_ack exclusive no_wait arguments) = (each _ refl refl, tt)
  method_all (method.QueueDeclare queue passive durable exclusive deletes no_wait arguments) = (each _ refl refl, tt)
  method_all (method.BasicGet queue no_ack) = (each _ refl refl, tt)
  method_all (method.BasicCancel tag no_wait) = (each _ refl refl, tt)
  method_all (method.BasicQos size count global) = (each _ refl refl, tt)
  method_all (method.BasicAck tag multiple) = (each _ refl refl, tt)
  method_all (method.BasicReject tag requeue) = (each _ refl refl, tt)
  method_all (method.BasicNack tag multiple requeue) = (each _ refl refl, tt)
  method_all (method.BasicRecover requeue) = (each _ refl refl, (each _ refl refl, tt))
  method_all (method.BasicRecoverAsync requeue) = (each _ refl refl, tt)
  method_all (method.ChannelClose code text class id) = (each _ refl refl, tt)
  method_all m = tt

  want_all : (rs : List Route) (limit n : ℕ) (x : Want91) → All (want_events rs limit n x)
  want_all rs limit n (want.Method k m) = if_all (k == n) _ _ (method_all m) tt
  want_all rs limit n (want.Publish k m c) = if_all (k == n) _ _ (each _ refl refl, tt) tt
  want_all rs limit n want.Close = (each _ refl refl, tt)
  want_all rs limit n (want.Refuse r) = if_all (is_of_channel r) _ _ (if_all (r.channel == n) _ _ (each _ refl refl, tt) tt) (each _ refl refl, tt)
  want_all rs limit n x = tt

  pub transfer_all : (o : Option TransferFault) (limit n peer : ℕ) (x : Parts) (payload : List ℕ) (s : PathState)
      → All (transfer_event o limit n peer (part_in x.1) payload s ∷ [])
  transfer_all None limit n peer x payload s = (each _ refl refl, tt)
  transfer_all (Some fault) limit n peer x payload s = (each _ refl refl, tt)

  pub outcome_all : (x : Parts)
      → All (if is_outcome x.1 then event.DispositionCame (number_at x.1 1) (number_in (field x.1 2)) (outcome_in (field x.1 4)) (is_true (field x.1 3)) ∷ [] else [])
  outcome_all x = if_all (is_outcome x.1) _ _ (each _ refl refl, tt) tt

  pub lost_all : (b : Bool) → All (if b then event.SessionLost ∷ [] else [])
  lost_all b = if_all b _ _ (each _ refl refl, tt) tt

  reply_all : (n : ℕ) (u : Reply) → All (reply_events n u)
  reply_all n (reply.OnChannel k u) = if_all (k == n) _ _ (told u, tt) tt
    where
      told : (u : ChannelUnit) → P (told_event u)
      told (to_client.Ok x) = each _ refl refl
      told (to_client.Deliver d) = each _ refl refl
      told (to_client.Content c) = each _ refl refl
      told (to_client.Confirm c) = each _ refl refl
      told (to_client.Return r) = each _ refl refl
  reply_all n u = tt

  wrote_all : (n : ℕ) (o : Option Reply) → All (wrote_events n o)
  wrote_all n (Some (reply.OnChannel k u)) = if_all (k == n) _ _ (wrote u) tt
    where
      wrote : (u : ChannelUnit) → All (wrote_event u)
      wrote (to_client.Content c) = if_all c.last _ _ (each _ refl refl, tt) tt
      wrote u = tt
  wrote_all n o = tt

  pub other_all : (n : ℕ) (h : List Step) (s : Step) → gives_up s ≡ false → hears s ≡ false → All (step_events n h s)
  other_all n h (Moment ms) e f = (each _ refl refl, tt)
  other_all n h (Fed end) e f = (each _ refl refl, tt)
  other_all n h (Silent Client) e f = (each _ refl refl, tt)
  other_all n h (Silent Up) e f = (each _ refl refl, tt)
  other_all n h (Came u) e f =
      if_all (ran_out_in h) _ _ tt
      (want_all (routes_in h) (conn_step (routes_in h) (paths_in h) (connection h) u).limits.frame_max n (want_in (routes_in h) (paths_in h) (connection h) u))
  other_all n h TakenUp e f = closed_all (not (ran_out_in h) && leaving_in h)
  other_all n h (Heard u) e f = absurd cc
  other_all n h (Joined link.Ok) e f = (each _ refl refl, tt)
  other_all n h (Joined link.Failed) e f = (each _ refl refl, (each _ refl refl, tt))
  other_all n h (Lost Up loss.Ended) e f = (each _ refl refl, (each _ refl refl, (each _ refl refl, tt)))
  other_all n h (Lost Up loss.Failed) e f = (each _ refl refl, (each _ refl refl, (each _ refl refl, tt)))
  other_all n h (Lost Up loss.Shut) e f = (each _ refl refl, (each _ refl refl, tt))
  other_all n h (Gave (ToClient u) text) e f = reply_all n u
  other_all n h (Gave (ToUp u) text) e f = absurd cc
  other_all n h (Whole Client) e f = wrote_all n (going_in h)
  other_all n h LinesTold e f = (each _ refl refl, tt)
  other_all n h OutOfMemory e f = (each _ refl refl, tt)
  other_all n h s e f = tt

  -- the gateway's end of a session
  pub ends_all : (later : Bool) (n k : ℕ) (why : Option Condition) → All (up_events later n (up.End k why))
  ends_all later n k why = if_all (not later && k == n) _ _ (each _ refl refl, (each _ refl refl, tt)) (each _ refl refl, tt)

  module _ (came : (x : PathEvent) → is_answer x ≡ true → P x) where
    attach_all : (o : Option ℕ) (ts : List Tree) → All (attach_events o ts)
    attach_all None ts = tt
    attach_all (Some name) ts = (came _ refl, tt)

    heard_all : (limit n : ℕ) (x : Parts) (payload : List ℕ) (s : PathState) → All (heard_events limit n x payload s)
    heard_all limit n x payload s =
        if_all (x.0 == 17) _ _ (each _ refl refl, tt)
        (if_all (x.0 == 18) _ _ (attach_all (name_in (text_of (field x.1 0))) x.1)
        (if_all (x.0 == 19 && not (is_of_session x.1)) _ _ (came _ refl, tt)
        (if_all (x.0 == 20) _ _ (transfer_all (fault_in x.1 payload s) limit n (number_at x.1 0) x payload s)
        (if_all (x.0 == 21) _ _ (outcome_all x) (if_all (x.0 == 22) _ _ (came _ refl, tt) (lost_all (x.0 == 23)))))))

    session_all : (c : Connection) (o : Option Scope) (n k : ℕ) (x : Parts) (payload : List ℕ) (s : PathState) → All (session_events c o n k x payload s)
    session_all c None n k x payload s =
        if_all (k == n) _ _
        (both (if x.0 == 17 then [] else closing (closing_code x payload s) c k) (heard_events c.limits.frame_max k x payload s)
        (if_all (x.0 == 17) _ _ tt (closing_all (closing_code x payload s) c k)) (heard_all c.limits.frame_max k x payload s)) tt
    session_all c (Some scope.Connection) n k x payload s = (each _ refl refl, tt)
    session_all c (Some scope.Channel) n k x payload s = if_all (k == n) _ _ (ending_all c k) tt

    meaning_all : (o : Peers) (n : ℕ) (m : Meaning) → All (meaning_events o n m)
    meaning_all o n (ten.OfSession k x payload) = session_all o.client (scope_in o k x payload) n k x payload (path_at o.paths k)
    meaning_all o n (ten.Closed e) = (each _ refl refl, tt)
    meaning_all o n ten.Refused = (each _ refl refl, tt)
    meaning_all o n (ten.Violation why) = (each _ refl refl, tt)
    meaning_all o n x = tt

    pub each_all : (n : ℕ) (h : List Step) (s : Step) → gives_up s ≡ false → All (step_events n h s)
    each_all n h (Heard u) e = if_all (ran_out_in h) _ _ tt (meaning_all (peers h) n (meaning_by (container h) u))
    each_all n h (Gave (ToUp u) text) e = absurd cc
    each_all n h s e = other_all n h s refl refl

ungiven : (x : PathEvent) → is_answer x ≡ true → is_given x ≡ false
ungiven (event.AttachCame attach) e = refl
ungiven (event.FlowCame peer count credit drain echo) e = refl
ungiven (event.DetachCame peer not_found) e = refl
ungiven x e = absurd cc

pub step_all : (P : PathEvent → Type 0) → ((x : PathEvent) → is_given x ≡ false → P x) → (n : ℕ) (h : List Step) (s : Step) → gives_up s ≡ false
    → AllByRecursion P (step_events n h s)
step_all P each = each_all P (λ x g a. each x g) (λ x a. each x (ungiven x a))

pub end_all : (P : PathEvent → Type 0) → ((x : PathEvent) → is_given x ≡ false → P x) → (later : Bool) (n k : ℕ) (why : Option Condition)
    → AllByRecursion P (up_events later n (up.End k why))
end_all P each = ends_all P (λ x g a. each x g)
