-- What holds of each kind of event, with those behind it, holds of the events of a step.
use Rattle.std.proofs.Common.{◌≡◌, ℕ, ◌==◌, not, ◌&&◌, Bool, true, false, if◌then◌else◌, List, [], ◌∷◌, ◌++◌, Option, None, Some}
use Rattle.std.proofs.Common.{refl, sym, ap, subst, arith}
use Rattle.std.proofs.lemmas.Bool.Decides.{nat_tests}
use Rattle.std.specs.List.{AllByRecursion}
use Rattle.close_translate.specs.declared.conditions.Scope.{Scope}
use Rattle.close_translate.specs.declared.conditions.Scope.TheVariants as scope
use Rattle.consume_path.specs.declared.receiving.TransferFault.{TransferFault}
use Rattle.gate_outside.specs.declared.ports.End.TheVariants.{Client, Up}
use Rattle.gate_outside.specs.declared.ports.Linked.TheVariants as link
use Rattle.gate_relay.specs.declared.loss.Loss.TheVariants as loss
use Rattle.machine_091.specs.State.{is_open}
use Rattle.machine_091.specs.declared.state.Connection.{Connection}
use Rattle.machine_091.specs.declared.unit.Refusal.{Refusal}
use Rattle.machine_091.specs.declared.unit.Unit91.{Unit91}
use Rattle.machine_091.specs.declared.unit.Want91.{Want91}
use Rattle.machine_091.specs.declared.unit.Want91.TheVariants as want
use Rattle.machine_10.specs.Parts.{Parts}
use Rattle.machine_10.specs.Reading.{field, number_at}
use Rattle.machine_10.specs.Transitions as ten
use Rattle.machine_10.specs.Transitions.{Meaning}
use Rattle.methods_091.specs.declared.method.Method91.{Method91}
use Rattle.methods_091.specs.declared.method.Method91.TheVariants as method
use Rattle.session_path.specs.Events as event
use Rattle.session_path.specs.Events.{PathEvent}
use Rattle.session_path.specs.declared.path.PathOk.{PathOk}
use Rattle.session_path.specs.declared.path.PathOk.TheVariants as ok
use Rattle.types_10.specs.Tree.{Tree}
use Rattle.gate_model.specs.Folds.{connection, container, leaving_in, paths_in, peers, ran_out_in, routes_in, scope_in}
use Rattle.gate_model.specs.Lives.{is_of_channel}
use Rattle.gate_model.specs.Paths.{fault_in, is_outcome, name_in, part_in, path_at, text_of}
use Rattle.gate_model.specs.Publishing.{arrival_event, attach_events, closed_if, closing, failing, ending, fine_events, given_event, heard_events}
use Rattle.gate_model.specs.Publishing.{meaning_events, method_events, owed_unless, path_events, refusal_events, reply_events, session_events}
use Rattle.gate_model.specs.Publishing.{step_events, told_event, transfer_event, up_events, want_events, wrote_event, wrote_events}
use Rattle.gate_model.specs.Session.{is_of_session}
use Rattle.gate_model.specs.State.{Came, Fed, Gave, Heard, Joined, LinesTold, Lost, Moment, OutOfMemory, Silent, Step, TakenUp, Whole}
use Rattle.gate_model.specs.State.{closing_code, conn_step, is_later, want_in}
use Rattle.gate_model.specs.Upstream.{meaning_by}
use Rattle.gate_model.specs.declared.channel.ChannelUnit.{ChannelUnit}
use Rattle.gate_model.specs.declared.channel.ChannelUnit.TheVariants as to_client
use Rattle.gate_model.specs.declared.channel.SessionUnit.{SessionUnit}
use Rattle.gate_model.specs.declared.channel.SessionUnit.TheVariants as unit
use Rattle.gate_model.specs.declared.channel.TransferOut.{TransferOut}
use Rattle.gate_model.specs.declared.outgoing.Outgoing.TheVariants.{ToClient, ToUp}
use Rattle.gate_model.specs.declared.outgoing.UpUnit.{UpUnit}
use Rattle.gate_model.specs.declared.outgoing.UpUnit.TheVariants as up
use Rattle.gate_model.specs.declared.reply.Reply.{Reply}
use Rattle.gate_model.specs.declared.reply.Reply.TheVariants as reply
use Rattle.gate_model.specs.declared.setup.Route.{Route}

-- ---- kinds of events and of steps

-- it tells of what goes to the client
abbrev pub is_told : PathEvent → Bool
is_told (event.ConfirmWent c) = true
is_told (event.ReturnWent number) = true
is_told (event.DeliverSent d) = true
is_told event.ContentSent = true
is_told (event.ContentWhole tag) = true
is_told (event.OkSent x) = true
is_told x = false

-- an answer that is due once its request is taken up
abbrev pub is_asked_ok : PathOk → Bool
is_asked_ok ok.Flow = true
is_asked_ok ok.Declare = true
is_asked_ok ok.Select = true
is_asked_ok (ok.Qos count global) = true
is_asked_ok ok.Recover = true
is_asked_ok x = false

-- nor is it a request by a name, a publish, a transfer, or an answer that waits for the container
abbrev pub is_quiet : PathEvent → Bool
is_quiet (event.Owed x) = is_asked_ok x
is_quiet (event.Published address payload back) = false
is_quiet (event.Consumed address tag no_ack no_wait) = false
is_quiet (event.CancelCame tag no_wait) = false
is_quiet (event.Declared queue no_wait) = false
is_quiet (event.GetAsked queue no_ack) = false
is_quiet (event.TransferCame peer part payload image again) = false
is_quiet (event.TransferSent frame count) = false
is_quiet x = not (is_told x)

abbrev pub is_request : PathEvent → Bool
is_request (event.Consumed address tag no_ack no_wait) = true
is_request (event.CancelCame tag no_wait) = true
is_request (event.Declared queue no_wait) = true
is_request (event.GetAsked queue no_ack) = true
is_request x = false

-- it asks for a link, or ends one, by a name
abbrev pub names : Method91 → Bool
names (method.BasicConsume queue tag no_local no_ack exclusive no_wait arguments) = true
names (method.BasicCancel tag no_wait) = true
names (method.QueueDeclare queue passive durable exclusive deletes no_wait arguments) = true
names (method.BasicGet queue no_ack) = true
names m = false

-- these give something to the client, or its last byte
abbrev pub is_apart : Step → Bool
is_apart (Gave (ToClient u) text) = true
is_apart (Whole Client) = true
is_apart s = false

-- these have events that are not quiet, by their unit
abbrev pub has_unit : Step → Bool
has_unit (Came u) = true
has_unit (Gave u text) = true
has_unit (Whole Client) = true
has_unit s = false

-- ---- lists of quiet events

abbrev AreQuiet : List PathEvent → Type 0
AreQuiet xs = AllByRecursion (λ (x : PathEvent). is_quiet x ≡ true) xs

both_quiet : (xs ys : List PathEvent) → AreQuiet xs → AreQuiet ys → AreQuiet (xs ++ ys)
both_quiet [] ys p q = q
both_quiet (x ∷ xs) ys p q = (p.0, both_quiet xs ys p.1 q)

if_quiet : (b : Bool) (xs ys : List PathEvent) → AreQuiet xs → AreQuiet ys → AreQuiet (if b then xs else ys)
if_quiet true xs ys p q = p
if_quiet false xs ys p q = q

closed_quiet : (b : Bool) → AreQuiet (closed_if b)
closed_quiet true = (refl, tt)
closed_quiet false = tt

ending_quiet : (c : Connection) (j : ℕ) → AreQuiet (ending c j)
ending_quiet c j = both_quiet (closed_if (is_open c j)) _ (closed_quiet (is_open c j)) (refl, tt)

closing_quiet : (o : Option ℕ) (j : ℕ) (h : List Step) → AreQuiet (closing o (connection h) j)
closing_quiet None j h = tt
closing_quiet (Some code) j h = closed_quiet (is_open (connection h) j)

attach_quiet : (o : Option ℕ) (ts : List Tree) → AreQuiet (attach_events o ts)
attach_quiet None ts = tt
attach_quiet (Some name) ts = (refl, tt)

owed_quiet : (no_wait : Bool) (x : PathOk) → is_asked_ok x ≡ true → AreQuiet (owed_unless no_wait (event.Owed x))
owed_quiet true x e = tt
owed_quiet false x e = (e, tt)

-- ---- what holds of a step's events

-- this holds of each of them, with those behind it
abbrev pub AllOn : (List PathEvent → PathEvent → Type 0) → List PathEvent → List PathEvent → Type 0
AllOn Q es [] = Unit {0}
AllOn Q es (x ∷ xs) = Q (xs ++ es) x × AllOn Q es xs

-- of each quiet one
abbrev pub OfQuiet : (List PathEvent → PathEvent → Type 0) → Type 0
OfQuiet Q = (b : List PathEvent) (x : PathEvent) → is_quiet x ≡ true → Q b x

-- of a transfer that comes on channel n after these steps
abbrev pub OfArrivals : (List PathEvent → PathEvent → Type 0) → ℕ → List Step → Type 0
OfArrivals Q n h =
    (ts : List Tree) (payload : List ℕ) → fault_in ts payload (path_at (paths_in h) n) ≡ None
    → Q (path_events h n) (arrival_event (connection h).limits.frame_max n (number_at ts 0) (part_in ts) payload (path_at (paths_in h) n))

module _ (Q : List PathEvent → PathEvent → Type 0) (n : ℕ) (h : List Step) (each : OfQuiet Q) where
  abbrev es : List PathEvent
  es = path_events h n

  abbrev On : List PathEvent → Type 0
  On xs = AllOn Q es xs

  if_on : (b : Bool) (xs ys : List PathEvent) → On xs → On ys → On (if b then xs else ys)
  if_on true xs ys a b = a
  if_on false xs ys a b = b

  quiet_on : (xs ys : List PathEvent) → AreQuiet xs → On ys → On (xs ++ ys)
  quiet_on [] ys r a = a
  quiet_on (x ∷ xs) ys r a = (each ((xs ++ ys) ++ es) x r.0, quiet_on xs ys r.1 a)

  quiet : (xs : List PathEvent) → AreQuiet xs → On xs
  quiet [] r = tt
  quiet (x ∷ xs) r = (each (xs ++ es) x r.0, quiet xs r.1)

  -- what a client asks for
  pub method_on : (m : Method91) → (names m ≡ true → On (method_events m)) → On (method_events m)
  method_on (method.ChannelFlow active) on = (each _ _ refl, tt)
  method_on (method.ExchangeDeclare name kind passive durable deletes internal no_wait arguments) on = quiet _ (owed_quiet no_wait ok.Declare refl)
  method_on (method.ConfirmSelect no_wait) on =
      quiet _ (both_quiet (owed_unless no_wait (event.Owed ok.Select)) _ (owed_quiet no_wait ok.Select refl) (refl, tt))
  method_on (method.BasicConsume queue tag no_local no_ack exclusive no_wait arguments) on = on refl
  method_on (method.QueueDeclare queue passive durable exclusive deletes no_wait arguments) on = on refl
  method_on (method.BasicGet queue no_ack) on = on refl
  method_on (method.BasicCancel tag no_wait) on = on refl
  method_on (method.BasicQos size count global) on = (each _ _ refl, tt)
  method_on (method.BasicAck tag multiple) on = (each _ _ refl, tt)
  method_on (method.BasicReject tag requeue) on = (each _ _ refl, tt)
  method_on (method.BasicNack tag multiple requeue) on = (each _ _ refl, tt)
  method_on (method.BasicRecover requeue) on = (each _ _ refl, (each _ _ refl, tt))
  method_on (method.BasicRecoverAsync requeue) on = (each _ _ refl, tt)
  method_on (method.ChannelClose code text class id) on = (each _ _ refl, tt)
  method_on m on = tt

  pub refusal_on : (r : Refusal) → On (refusal_events n r)
  refusal_on r = quiet _ (if_quiet (is_of_channel r) _ _ (if_quiet (r.channel == n) _ _ (refl, tt) tt) (refl, tt))

  pub want_on : (rs : List Route) (limit : ℕ) (x : Want91) → ((m : Method91) → x ≡ want.Method n m → names m ≡ true → On (method_events m))
      → ((address payload : List ℕ) (back : List (List ℕ)) → Q es (event.Published address payload back)) → On (want_events rs limit n x)
  want_on rs limit (want.Method j m) on taken = by (j == n) refl
    where
      by : (b : Bool) → (j == n) ≡ b → On (if b then method_events m else [])
      by true e = method_on m (on m (let same : j ≡ n = grind (arith, nat_tests, e) in ap (λ (i : ℕ). want.Method i m) same))
      by false e = tt
  want_on rs limit (want.Publish j m c) on taken = if_on (j == n) _ _ (taken _ _ _, tt) tt
  want_on rs limit want.Close on taken = (each _ _ refl, tt)
  want_on rs limit (want.Refuse r) on taken = refusal_on r
  want_on rs limit x on taken = tt

  -- what goes
  given_on : (u : SessionUnit) → ((t : TransferOut) → u ≡ unit.Transfer t → Q es (event.TransferSent t.frame t.bytes)) → Q es (given_event u)
  given_on (unit.Transfer t) sent = sent t refl
  given_on u sent = each es (given_event u) refl

  pub up_on : (later : Bool) (u : UpUnit) → ((j : ℕ) (t : TransferOut) → u ≡ up.OnSession j (unit.Transfer t) → Q es (event.TransferSent t.frame t.bytes))
      → On (up_events later n u)
  up_on later (up.OnSession j u) sent = if_on (j == n) _ _ (given_on u (λ t e. sent j t (ap (λ (v : SessionUnit). up.OnSession j v) e)), tt) tt
  up_on later (up.End j why) sent = quiet _ (if_quiet (not later && j == n) _ _ (refl, (refl, tt)) (refl, tt))
  up_on later u sent = tt

  pub reply_on : (u : Reply) → ((u : ChannelUnit) → Q es (told_event u)) → On (reply_events n u)
  reply_on (reply.OnChannel j u) told = if_on (j == n) _ _ (told u, tt) tt
  reply_on u told = tt

  wrote_on : (u : ChannelUnit) → ((tag : ℕ) → Q es (event.ContentWhole tag)) → On (wrote_event u)
  wrote_on (to_client.Content c) whole = if_on c.last _ _ (whole c.tag, tt) tt
  wrote_on u whole = tt

  pub whole_on : (o : Option Reply) → ((tag : ℕ) → Q es (event.ContentWhole tag)) → On (wrote_events n o)
  whole_on (Some (reply.OnChannel j u)) whole = if_on (j == n) _ _ (wrote_on u whole) tt
  whole_on o whole = tt

  pub came_on : (u : Unit91)
      → ((m : Method91) → want_in (routes_in h) (paths_in h) (connection h) u ≡ want.Method n m → names m ≡ true → On (method_events m))
      → ((address payload : List ℕ) (back : List (List ℕ)) → Q es (event.Published address payload back)) → On (step_events n h (Came u))
  came_on u on taken =
      if_on (ran_out_in h) [] _ tt
      (want_on (routes_in h) (conn_step (routes_in h) (paths_in h) (connection h) u).limits.frame_max (want_in (routes_in h) (paths_in h) (connection h) u) on taken)

  -- what the container sends
  module _ (arrives : OfArrivals Q n h) where
    transfer_on : (o : Option TransferFault) (ts : List Tree) (payload : List ℕ) → fault_in ts payload (path_at (paths_in h) n) ≡ o
        → On (transfer_event o (connection h).limits.frame_max n (number_at ts 0) (part_in ts) payload (path_at (paths_in h) n) ∷ [])
    transfer_on None ts payload e = (arrives ts payload e, tt)
    transfer_on (Some fault) ts payload e = (each _ _ refl, tt)

    heard_on : (x : Parts) (payload : List ℕ) → On (heard_events (connection h).limits.frame_max n x payload (path_at (paths_in h) n))
    heard_on x payload =
        if_on (x.0 == 17) _ _ (each _ _ refl, tt)
        (if_on (x.0 == 18) _ _ (quiet _ (attach_quiet (name_in (text_of (field x.1 0))) x.1))
        (if_on (x.0 == 19 && not (is_of_session x.1)) _ _ (each _ _ refl, tt)
        (if_on (x.0 == 20) _ _ (transfer_on (fault_in x.1 payload (path_at (paths_in h) n)) x.1 payload refl)
        (if_on (x.0 == 21) _ _ (quiet _ (if_quiet (is_outcome x.1) _ _ (refl, tt) tt))
        (if_on (x.0 == 22) _ _ (each _ _ refl, tt) (quiet _ (if_quiet (x.0 == 23) _ _ (refl, tt) tt)))))))

    session_on : (o : Option Scope) (j : ℕ) (x : Parts) (payload : List ℕ) → On (session_events (connection h) o n j x payload (path_at (paths_in h) j))
    session_on None j x payload = by (j == n) refl
      where
        by : (b : Bool) → (j == n) ≡ b → On (if b then fine_events (connection h) j x payload (path_at (paths_in h) j) else [])
        by true e =
            let same : j ≡ n = grind (arith, nat_tests, e) in
            subst (λ (i : ℕ). On (fine_events (connection h) i x payload (path_at (paths_in h) i))) (sym same)
            (quiet_on _ _ (if_quiet (x.0 == 17) _ _ tt (closing_quiet (closing_code x payload (path_at (paths_in h) n)) n h)) (heard_on x payload))
        by false e = tt
    session_on (Some scope.Connection) j x payload = quiet failing (refl, tt)
    session_on (Some scope.Channel) j x payload = quiet _ (if_quiet (j == n) _ _ (ending_quiet (connection h) j) tt)

    meaning_on : (m : Meaning) → On (meaning_events (peers h) n m)
    meaning_on (ten.OfSession j x payload) = session_on (scope_in (peers h) j x payload) j x payload
    meaning_on (ten.Closed e) = quiet failing (refl, tt)
    meaning_on ten.Refused = quiet failing (refl, tt)
    meaning_on (ten.Violation why) = quiet failing (refl, tt)
    meaning_on x = tt

    -- a step with quiet events, and transfers of the container
    pub quiet_step : (s : Step) → has_unit s ≡ false → On (step_events n h s)
    quiet_step (Came u) e = absurd cc
    quiet_step (Gave u text) e = absurd cc
    quiet_step (Whole Client) e = absurd cc
    quiet_step (Moment ms) e = (each _ _ refl, tt)
    quiet_step (Fed end) e = (each _ _ refl, tt)
    quiet_step (Silent Client) e = (each _ _ refl, tt)
    quiet_step (Silent Up) e = (each _ _ refl, tt)
    quiet_step TakenUp e = quiet _ (closed_quiet (not (ran_out_in h) && leaving_in h))
    quiet_step (Heard u) e = if_on (ran_out_in h) [] _ tt (meaning_on (meaning_by (container h) u))
    quiet_step (Joined link.Ok) e = (each _ _ refl, tt)
    quiet_step (Joined link.Failed) e = (each _ _ refl, (each _ _ refl, tt))
    quiet_step (Lost Up loss.Ended) e = (each _ _ refl, (each _ _ refl, (each _ _ refl, tt)))
    quiet_step (Lost Up loss.Failed) e = (each _ _ refl, (each _ _ refl, (each _ _ refl, tt)))
    quiet_step (Lost Up loss.Shut) e = (each _ _ refl, (each _ _ refl, tt))
    quiet_step LinesTold e = (each _ _ refl, tt)
    quiet_step OutOfMemory e = (each _ _ refl, tt)
    quiet_step s e = tt

-- ---- what holds of all of a kind, whatever is behind it

request_untold : (x : PathEvent) → is_request x ≡ true → is_told x ≡ false
request_untold (event.Consumed address tag no_ack no_wait) e = refl
request_untold (event.CancelCame tag no_wait) e = refl
request_untold (event.Declared queue no_wait) e = refl
request_untold (event.GetAsked queue no_ack) e = refl
request_untold x e = absurd cc

pub flat : (P : PathEvent → Type 0) (es xs : List PathEvent) → AllOn (λ (b : List PathEvent). P) es xs → AllByRecursion P xs
flat P behind [] a = tt
flat P behind (x ∷ xs) a = (a.0, flat P behind xs a.1)

not_told : (x : PathEvent) → is_quiet x ≡ true → is_told x ≡ false
not_told (event.ConfirmWent c) e = absurd cc
not_told (event.ReturnWent number) e = absurd cc
not_told (event.DeliverSent d) e = absurd cc
not_told event.ContentSent e = absurd cc
not_told (event.ContentWhole tag) e = absurd cc
not_told (event.OkSent x) e = absurd cc
not_told x e = refl

-- of the requests by a name
pub named_all : (P : PathEvent → Type 0) (es : List PathEvent) → ((x : PathEvent) → is_request x ≡ true → P x) → (m : Method91) → names m ≡ true
    → AllOn (λ (b : List PathEvent). P) es (method_events m)
named_all P es each (method.BasicConsume queue tag no_local no_ack exclusive no_wait arguments) e = (each _ refl, tt)
named_all P es each (method.BasicCancel tag no_wait) e = (each _ refl, tt)
named_all P es each (method.QueueDeclare queue passive durable exclusive deletes no_wait arguments) e = (each _ refl, tt)
named_all P es each (method.BasicGet queue no_ack) e = (each _ refl, tt)
named_all P es each m e = absurd cc

pub step_all : (P : PathEvent → Type 0) → ((x : PathEvent) → is_told x ≡ false → P x) → (n : ℕ) (h : List Step) (s : Step) → is_apart s ≡ false
    → AllByRecursion P (step_events n h s)
step_all P each n h s e = flat P (path_events h n) (step_events n h s) (by s e)
  where
    quiet : OfQuiet (λ (b : List PathEvent). P)
    quiet b x q = each x (not_told x q)

    by : (s : Step) → is_apart s ≡ false → AllOn (λ (b : List PathEvent). P) (path_events h n) (step_events n h s)
    by (Came u) f = came_on (λ (b : List PathEvent). P) n h quiet u (λ m is. named_all P (path_events h n) (λ x r. each x (request_untold x r)) m) (λ address payload back. each _ refl)
    by (Gave (ToUp u) text) f = up_on (λ (b : List PathEvent). P) n h quiet (is_later (connection h) u) u (λ j t is. each _ refl)
    by (Gave (ToClient u) text) f = absurd cc
    by (Whole Client) f = absurd cc
    by s f = quiet_step (λ (b : List PathEvent). P) n h quiet (λ ts payload g. each _ refl) s refl
