-- The names that a client's units hold are short strings: routing keys, and names of queues.
use Rattle.std.proofs.Common.{◌≡◌, ℕ, ◌≤◌, ◌==◌, ◌&&◌, not, eqb, Bool, true, false, cond, if◌then◌else◌, List, [], ◌∷◌, length, Option, None, Some}
use Rattle.std.proofs.Common.{Ok, Err, refl, sym, ap, ◌∙◌, subst, arith}
use Rattle.std.proofs.lemmas.Bool.{eqb-true}
use Rattle.content_091.specs.declared.assembly.Content.{Content}
use Rattle.content_091.specs.declared.assembly.Step.TheVariants as content_step
use Rattle.frames_091.specs.declared.frame.Kind91.{Kind91}
use Rattle.frames_091.specs.declared.frame.Kind91.TheVariants as frame
use Rattle.gate_outside.specs.declared.ports.End.TheVariants.{Client, Up}
use Rattle.gate_outside.specs.declared.ports.Linked.TheVariants as link
use Rattle.gate_relay.specs.declared.loss.Loss.TheVariants as loss
use Rattle.close_translate.specs.declared.conditions.Scope.TheVariants as scope
use Rattle.machine_091.specs.Calls.{after_opened}
use Rattle.machine_091.specs.Contents.{Taking, begun, taken}
use Rattle.machine_091.specs.Ids.{is_of_kind}
use Rattle.machine_091.specs.Methods.{ack_of, cancel_of, close_of, consume_of, declare_of, flow_of, get_of, nack_of, publish_of, qos_of}
use Rattle.machine_091.specs.Methods.{queue_declare_of, recover_async_of, recover_of, reject_of, select_of, text_at}
use Rattle.machine_091.specs.Refusals.{unit_ruling}
use Rattle.machine_091.specs.State.{channel_at, content_at, is_opening, is_running, with_channel, with_content}
use Rattle.machine_091.specs.Transitions as machine
use Rattle.machine_091.specs.Transitions.{channel_effect, closed_by, closed_step, content_effect, frame_effect, header_step, is_unit_of}
use Rattle.machine_091.specs.Transitions.{method_effect, opening_effect, ruled_step, step_in, unit_step, with_stream}
use Rattle.machine_091.specs.Writable.{AreBytes, CanPutBack, CanPutContents}
use Rattle.machine_091.specs.declared.contents.Incoming.{Incoming}
use Rattle.machine_091.specs.declared.state.Channel91.TheVariants as channel
use Rattle.machine_091.specs.declared.state.Connection.{Connection}
use Rattle.machine_091.specs.declared.state.Phase91.{Phase91}
use Rattle.machine_091.specs.declared.state.Phase91.TheVariants as phase
use Rattle.machine_091.specs.declared.state.Stream91.TheVariants as stream
use Rattle.machine_091.specs.declared.unit.Refusal.{Refusal}
use Rattle.machine_091.specs.declared.unit.Ruling.{Ruling}
use Rattle.machine_091.specs.declared.unit.Ruling.TheVariants as ruling
use Rattle.machine_091.specs.declared.unit.Unit91.{Unit91}
use Rattle.machine_091.specs.declared.unit.Unit91.TheVariants as unit
use Rattle.machine_091.specs.declared.unit.Want91.{Want91}
use Rattle.machine_091.specs.declared.unit.Want91.TheVariants as want
use Rattle.machine_091.proofs.IdLaws.{told_is}
use Rattle.machine_091.proofs.Writable.{closing_puts, ended_puts, freed_puts, new_puts, step_puts, told_puts}
use Rattle.methods_091.specs.Arguments.{Arg}
use Rattle.methods_091.specs.Arguments as arg
use Rattle.methods_091.specs.Grammar.{IsArgs, IsPayload}
use Rattle.methods_091.specs.Reading.{Read, method_in}
use Rattle.methods_091.specs.Reading as methods
use Rattle.methods_091.specs.Rows.{Kind, class_of, id_of, shape}
use Rattle.methods_091.specs.Rows as rows_of
use Rattle.methods_091.specs.View.{kind_of}
use Rattle.methods_091.specs.Writing.{CanPut}
use Rattle.methods_091.specs.declared.method.Method91.{Method91}
use Rattle.methods_091.specs.declared.method.Method91.TheVariants as method
use Rattle.methods_091.proofs.KindLaws.{kinds_apart}
use Rattle.methods_091.proofs.MethodLaws as method_laws
use Rattle.machine_10.specs.Transitions as ten
use Rattle.machine_10.specs.Transitions.{Meaning}
use Rattle.wire_base.specs.Bytes.{IsBytes}
use Rattle.gate_model.specs.Folds.{Peers, accepted_in, connection, container, leaving_in, paths_in, peers, peers_by, peers_came, peers_heard}
use Rattle.gate_model.specs.Folds.{peers_left, ran_out_in, routes_in}
use Rattle.gate_model.specs.Frames.{AreGiven}
use Rattle.gate_model.specs.Requests.{message_of, refusal_of_want, refused_by}
use Rattle.gate_model.specs.State.{Began, Came, Gave, Heard, Joined, Lost, Moment, OutOfMemory, Silent, Step, TakenUp, Whole}
use Rattle.gate_model.specs.State.{close_if, is_limit_reached}
use Rattle.gate_model.specs.Upstream.{channel_max_in, meaning_by}
use Rattle.gate_model.specs.declared.outgoing.Outgoing.TheVariants.{ToClient}
use Rattle.gate_model.specs.declared.reply.Reply.TheVariants as reply
use Rattle.gate_model.proofs.Sessions.{conn_cases}

-- ---- a basic.get

abbrev gets : Kind
gets = kind_of (get_of [])

gets_are : (k : Kind) → is_of_kind (class_of gets, id_of gets) k ≡ true → k ≡ gets
gets_are k e =
    kinds_apart k gets (first (eqb (class_of k) (class_of gets)) refl e)
    (second (eqb (class_of k) (class_of gets)) (eqb (id_of k) (id_of gets)) refl e)
  where
    first : (b : Bool) → eqb (class_of k) (class_of gets) ≡ b → (b && eqb (id_of k) (id_of gets)) ≡ true → class_of k ≡ class_of gets
    first true z e = eqb-true (class_of k) (class_of gets) z
    first false z e = absurd cc

    second : (b d : Bool) → eqb (id_of k) (id_of gets) ≡ d → (b && d) ≡ true → id_of k ≡ id_of gets
    second true true z e = eqb-true (id_of k) (id_of gets) z
    second true false z e = absurd cc
    second false d z e = absurd cc

queue_named : (args : List Arg) (text : List ℕ) → IsArgs (shape gets) args text → length (text_at 1 args) ≤ 255
queue_named args text (x, e, (f, b, (y, r, s), (x2, e2, (f2, b2, (y2, r2, s2), others, t2)), t)) =
    let is : args ≡ arg.reserved rows_of.short ∷ arg.shortstr y2 ∷ x2.1 =
    e ∙ ap (λ (a : Arg). a ∷ x.1) r ∙ ap (λ (xs : List Arg). arg.reserved rows_of.short ∷ xs) (e2 ∙ ap (λ (a : Arg). a ∷ x2.1) r2) in
    subst (λ (xs : List Arg). length (text_at 1 xs) ≤ 255) (sym is) (omega (arith, s2.0))

get_short : (bytes : List ℕ) (k : Kind) (args : List Arg) → IsBytes bytes → method_in bytes ≡ Ok (k, args)
    → is_of_kind (class_of gets, id_of gets) k ≡ true → length (text_at 1 args) ≤ 255
get_short bytes k args fits e is =
    let read : methods.payload_in bytes ≡ Ok (Some (k, args)) = told_is (methods.payload_in bytes) (k, args) e in
    let spelled : IsPayload (gets, args) bytes =
    subst (λ (i : Kind). IsPayload (i, args) bytes) (gets_are k is) (method_laws.read_is_spelled bytes (k, args) fits read) in
    queue_named args spelled.0 spelled.1

-- ---- the queue of each that is passed on

abbrev is_get : Want91 → Bool
is_get (want.Method n (method.BasicGet queue no_ack)) = true
is_get x = false

-- what holds of a basic.get with a short name of a queue, and of all else, holds of each step
module _ (P : machine.Step → Type 0) (other : (d : Connection) (x : Want91) → is_get x ≡ false → P (d, x))
    (short : (c : Connection) (n : ℕ) (args : List Arg) → length (text_at 1 args) ≤ 255 → P (c, want.Method n (get_of args))) where
  pick : (b : Bool) {x y : machine.Step} → (b ≡ true → P x) → P y → P (cond {A = machine.Step} b x y)
  pick true this rest = this refl
  pick false this rest = rest

  channel_step : (c : Connection) (n : ℕ) (bytes : List ℕ) (k : Kind) (args : List Arg) → IsBytes bytes → method_in bytes ≡ Ok (k, args)
      → P (channel_effect c n k args)
  channel_step c n bytes k args fits read =
      pick (is_of_kind (20, 10) k) (λ e. other (with_channel c n channel.Open) (want.Method n method.ChannelOpen) refl)
      (pick (is_of_kind (20, 40) k) (λ e. other (with_channel c n (closed_by (channel_at c n))) (want.Method n (close_of args)) refl)
      (pick (is_of_kind (20, 20) k) (λ e. other (c) (want.Method n (flow_of args)) refl)
      (pick (is_of_kind (40, 10) k) (λ e. other (c) (want.Method n (declare_of args)) refl)
      (pick (is_of_kind (50, 10) k) (λ e. other (c) (want.Method n (queue_declare_of args)) refl)
      (pick (is_of_kind (85, 10) k) (λ e. other (c) (want.Method n (select_of args)) refl)
      (pick (is_of_kind (60, 20) k) (λ e. other (c) (want.Method n (consume_of args)) refl)
      (pick (is_of_kind (class_of gets, id_of gets) k) (λ e. short c n args (get_short bytes k args fits read e))
      (pick (is_of_kind (60, 80) k) (λ e. other (c) (want.Method n (ack_of args)) refl)
      (pick (is_of_kind (60, 90) k) (λ e. other (c) (want.Method n (reject_of args)) refl)
      (pick (is_of_kind (60, 120) k) (λ e. other (c) (want.Method n (nack_of args)) refl)
      (pick (is_of_kind (60, 10) k) (λ e. other (c) (want.Method n (qos_of args)) refl)
      (pick (is_of_kind (60, 30) k) (λ e. other (c) (want.Method n (cancel_of args)) refl)
      (pick (is_of_kind (60, 110) k) (λ e. other (c) (want.Method n (recover_of args)) refl)
      (pick (is_of_kind (60, 100) k) (λ e. other (c) (want.Method n (recover_async_of args)) refl)
      (pick (is_of_kind (60, 40) k) (λ e. other (with_content c n (Some (begun (publish_of args)))) (want.Nothing) refl)
      (other (with_channel c n channel.Free) (want.ChannelCloseOk n) refl))))))))))))))))

  opening_step : (c : Connection) (args : List Arg) (p : Phase91) → P (opening_effect c args p)
  opening_step c args phase.Header = other _ _ refl
  opening_step c args x = other _ _ refl

  method_step : (c : Connection) (n : ℕ) (bytes : List ℕ) (r : Read) → IsBytes bytes → method_in bytes ≡ r → P (method_effect c n r)
  method_step c n bytes (Err e) fits read = other _ _ refl
  method_step c n bytes (Ok m) fits read =
      pick (is_running c.phase) (λ e. pick (n == 0) (λ f. other _ _ refl) (channel_step c n bytes m.0 m.1 fits read)) (opening_step c m.1 c.phase)

  content_any : (c : Connection) (n : ℕ) (o : Option Incoming) (t : Taking) → P (content_effect c n o t)
  content_any c n None t = other _ _ refl
  content_any c n (Some i) (Err e) = other _ _ refl
  content_any c n (Some i) (Ok (a, content_step.More)) = other _ _ refl
  content_any c n (Some i) (Ok (a, content_step.Whole d)) = other _ _ refl

  frame_step : (c : Connection) (n : ℕ) (bytes : List ℕ) (k : Kind91) → IsBytes bytes → P (frame_effect c n bytes k)
  frame_step c n bytes frame.Method fits = method_step c n bytes (method_in bytes) fits refl
  frame_step c n bytes frame.Header fits = content_any c n (content_at c n) (taken frame.Header bytes (content_at c n))
  frame_step c n bytes frame.Body fits = content_any c n (content_at c n) (taken frame.Body bytes (content_at c n))
  frame_step c n bytes frame.Heartbeat fits = other _ _ refl

  ruled : (c : Connection) (u : Unit91) (o : Option Ruling) → AreBytes u → P (ruled_step c u o)
  ruled c unit.Protocol None fits = other _ _ refl
  ruled c (unit.Frame f) None fits = frame_step c f.channel f.payload f.kind fits
  ruled c (unit.Bad code) None fits = other _ _ refl
  ruled c u (Some ruling.PassedOver) fits = other _ _ refl
  ruled c u (Some (ruling.Refused code)) fits = other _ _ refl
  ruled c u (Some (ruling.MethodRefused code)) fits = other _ _ refl
  ruled c u (Some (ruling.ChannelRefused code)) fits = other _ _ refl

  header : (c : Connection) (u : Unit91) → P (header_step c u)
  header c unit.Protocol = other _ _ refl
  header c (unit.Frame f) = other _ _ refl
  header c (unit.Bad code) = other _ _ refl

  closed : (c : Connection) (u : Unit91) → P (closed_step c u)
  closed c u =
      pick (is_unit_of (10, 51) u) (λ e. other (record c { phase = phase.Closed; stream = stream.Answered }) want.CloseOk refl)
      (other (with_stream u c) want.Nothing refl)

  each_step : (c : Connection) (u : Unit91) → AreBytes u → P (unit_step c u)
  each_step c u fits = by c.phase
    where
      by : (p : Phase91) → P (step_in p c u)
      by phase.Header = header c u
      by phase.Closing = pick (is_unit_of (10, 50) u) (λ e. other (record c { phase = phase.Closed }) want.Close refl) (closed c u)
      by phase.Closed = closed c u
      by x = ruled c u (unit_ruling c u) fits

abbrev GetShort : Want91 → Type 0
GetShort (want.Method n (method.BasicGet queue no_ack)) = length queue ≤ 255
GetShort x = Unit {0}

no_get : (x : Want91) → is_get x ≡ false → GetShort x
no_get (want.Method n (method.BasicGet queue no_ack)) e = absurd cc
no_get x e = tt

step_get : (c : Connection) (u : Unit91) → AreBytes u → GetShort (unit_step c u).1
step_get c u fits = each_step (λ (x : machine.Step). GetShort x.1) (λ d x e. no_get x e) (λ d n args s. s) c u fits

-- ---- the names of each unit

abbrev pub NamesShort : Method91 → Type 0
NamesShort (method.QueueDeclare queue passive durable exclusive deletes no_wait arguments) = length queue ≤ 255
NamesShort (method.BasicConsume queue tag no_local no_ack exclusive no_wait arguments) = length queue ≤ 255
NamesShort (method.BasicGet queue no_ack) = length queue ≤ 255
NamesShort m = Unit {0}

abbrev pub WantsShort : Want91 → Type 0
WantsShort (want.Method n m) = NamesShort m
WantsShort (want.Publish n m c) = length (message_of m c).key ≤ 255
WantsShort x = Unit {0}

key_short : (m : Method91) (c : Content) → CanPut m → length (message_of m c).key ≤ 255
key_short (method.BasicPublish exchange key mandatory immediate) c p = p.1.0
key_short m c p = omega arith

wants_short : (x : Want91) → CanPutBack x → GetShort x → WantsShort x
wants_short (want.Method n (method.QueueDeclare queue passive durable exclusive deletes no_wait arguments)) p g = p
wants_short (want.Method n (method.BasicConsume queue tag no_local no_ack exclusive no_wait arguments)) p g = p.0
wants_short (want.Method n (method.BasicGet queue no_ack)) p g = g
wants_short (want.Publish n m d) p g = key_short m d p.1
wants_short x p g = tt

-- ---- contents in progress

puts_if : (b : Bool) (p q : Peers) → CanPutContents p.client → CanPutContents q.client → CanPutContents (if b then p else q).client
puts_if true p q a e = a
puts_if false p q a e = e

close_puts : (b : Bool) (c : Connection) → CanPutContents c → CanPutContents (close_if b c)
close_puts true c a = closing_puts scope.Connection 0 c a
close_puts false c a = a

refused_puts : (x : machine.Step) (o : Option Refusal) → CanPutContents x.0 → CanPutContents (refused_by o x).0
refused_puts x None a = a
refused_puts x (Some r) a = closing_puts r.scope r.channel x.0 a

meaning_puts : (m : Meaning) (x : Peers) → CanPutContents x.client → CanPutContents (peers_by m x).client
meaning_puts ten.Nothing x a = a
meaning_puts ten.Init x a = a
meaning_puts ten.AmqpHeader x a = a
meaning_puts ten.Opened x a = by (is_opening x.client)
  where
    by : (b : Bool) → CanPutContents (if b then after_opened (channel_max_in x.container) x.client else x.client)
    by true = a
    by false = a
meaning_puts (ten.OfSession g q payload) x a =
    conn_cases CanPutContents g q payload x a (closing_puts scope.Connection 0 x.client a) (closing_puts scope.Channel g x.client a)
meaning_puts (ten.Closed e) x a = closing_puts scope.Connection 0 x.client a
meaning_puts ten.Refused x a = closing_puts scope.Connection 0 x.client a
meaning_puts (ten.Violation why) x a = closing_puts scope.Connection 0 x.client a

puts : (h : List Step) → AreGiven h → CanPutContents (connection h)
puts [] r = new_puts []
puts (Began site n ms ∷ h) r = new_puts site.vhost
puts (Moment ms ∷ h) r = close_puts (is_limit_reached (connection h) (accepted_in h) ms) (connection h) (puts h r)
puts (Silent Client ∷ h) r = ended_puts (connection h)
puts (Silent Up ∷ h) r = closing_puts scope.Connection 0 (connection h) (puts h r)
puts (Came u ∷ h) r =
    puts_if (ran_out_in h) (peers h) (peers_came (peers h) u) (puts h r.1)
    (refused_puts (unit_step (connection h) u) (refusal_of_want (routes_in h) (paths_in h) (unit_step (connection h) u).1)
    (step_puts (connection h) u r.0 (puts h r.1)).0)
puts (TakenUp ∷ h) r = puts_if (not (ran_out_in h) && leaving_in h) (peers_left (peers h)) (peers h) (ended_puts (connection h)) (puts h r)
puts (Heard u ∷ h) r =
    puts_if (ran_out_in h) (peers h) (peers_heard (peers h) u) (puts h r) (meaning_puts (meaning_by (container h) u) _ (puts h r))
puts (Joined link.Failed ∷ h) r = closing_puts scope.Connection 0 (connection h) (puts h r)
puts (Lost Up loss.Ended ∷ h) r = closing_puts scope.Connection 0 (connection h) (puts h r)
puts (Lost Up loss.Failed ∷ h) r = closing_puts scope.Connection 0 (connection h) (puts h r)
puts (Gave (ToClient (reply.ChannelCloseOk n)) text ∷ h) r = freed_puts n (connection h) (puts h r)
puts (Gave (ToClient (reply.ChannelClose n x)) text ∷ h) r = told_puts n (connection h) (puts h r)
puts (Whole Client ∷ h) r = puts h r
puts (OutOfMemory ∷ h) r = closing_puts scope.Connection 0 (connection h) (puts h r)
puts (s ∷ h) r = puts h r

pub unit_short : (h : List Step) (u : Unit91) → AreGiven h → AreBytes u → WantsShort (unit_step (connection h) u).1
unit_short h u r fits = wants_short (unit_step (connection h) u).1 (step_puts (connection h) u fits (puts h r)).1 (step_get (connection h) u fits)
