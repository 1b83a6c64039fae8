-- What a client names is short in each event of its channels, and so are the addresses of attaches.
use Rattle.std.proofs.Common.{◌≡◌, ℕ, ◌≤◌, ◌==◌, ◌&&◌, not, Bool, true, false, if◌then◌else◌, List, [], ◌∷◌, ◌++◌, length, find, Option, None, Some}
use Rattle.std.proofs.Common.{refl, sym, ap, subst, arith}
use Rattle.std.specs.List.{AllByRecursion}
use Rattle.std.specs.Option.{option_map}
use Rattle.std.specs.Prelude.{unwrap_or}
use Rattle.close_translate.specs.declared.conditions.Scope.{Scope}
use Rattle.close_translate.specs.declared.conditions.Scope.TheVariants as scope
use Rattle.consume_path.specs.declared.receiving.TransferFault.{TransferFault}
use Rattle.consume_path.specs.declared.receiving.Part.{Part}
use Rattle.gate_outside.specs.declared.ports.End.TheVariants.{Client, Up}
use Rattle.gate_outside.specs.declared.ports.Linked.TheVariants as link
use Rattle.gate_relay.specs.declared.loss.Loss.TheVariants as loss
use Rattle.machine_091.specs.State.{is_open}
use Rattle.machine_091.specs.Transitions as machine
use Rattle.machine_091.specs.Transitions.{unit_step}
use Rattle.machine_091.specs.declared.state.Connection.{Connection}
use Rattle.machine_091.specs.declared.unit.Refusal.{Refusal}
use Rattle.machine_091.specs.declared.unit.Want91.{Want91}
use Rattle.machine_091.specs.declared.unit.Want91.TheVariants as want
use Rattle.machine_10.specs.Parts.{Parts}
use Rattle.machine_10.specs.Reading.{field, number_at}
use Rattle.machine_10.specs.Transitions as ten
use Rattle.machine_10.specs.Transitions.{Meaning}
use Rattle.methods_091.specs.declared.method.Method91.{Method91}
use Rattle.methods_091.specs.declared.method.Method91.TheVariants as method
use Rattle.property_map.specs.declared.message.Message091.{Message091}
use Rattle.session_path.specs.Due.{address_at}
use Rattle.session_path.specs.Events as event
use Rattle.session_path.specs.Events.{PathEvent, after_events}
use Rattle.session_path.specs.Path.{PathState}
use Rattle.session_path.specs.declared.path.AttachDue.{AttachDue}
use Rattle.session_path.specs.declared.path.PathOk.{PathOk}
use Rattle.session_path.specs.declared.path.PathOk.TheVariants as ok
use Rattle.types_10.specs.Tree.{Tree}
use Rattle.gate_model.specs.Folds.{Peers, carried_on, connection, container, going_in, leaving_in, paths_in, peers, peers_by, peers_came, peers_heard}
use Rattle.gate_model.specs.Folds.{peers_left, ran_out_in, routes_in, scope_in}
use Rattle.gate_model.specs.Frames.{AreGiven}
use Rattle.gate_model.specs.Lives.{is_of_channel}
use Rattle.gate_model.specs.Paths.{fault_in, is_outcome, name_in, or_no_path, part_in, path_at, slot_at, text_of}
use Rattle.gate_model.specs.Picks.{ArePicks}
use Rattle.gate_model.specs.Publishing.{attach_events, closed_if, closing, ending, given_event, heard_events, meaning_events, method_events}
use Rattle.gate_model.specs.Publishing.{opens_channel}
use Rattle.gate_model.specs.Publishing.{owed_unless, path_events, reply_events, session_events, step_events, told_event, transfer_event, up_events}
use Rattle.gate_model.specs.Publishing.{want_events, wrote_event, wrote_events}
use Rattle.gate_model.specs.Requests.{address_of, message_of, refusal_of_want, refused_by}
use Rattle.gate_model.specs.Session.{is_of_session}
use Rattle.gate_model.specs.Setup.{IsRoute, is_named, route_to}
use Rattle.gate_model.specs.State.{Began, Came, Gave, Heard, Joined, Lost, Queued, Silent, Step, TakenUp, Whole}
use Rattle.gate_model.specs.State.{before, closing_code, conn_step, is_later}
use Rattle.gate_model.specs.Upstream.{meaning_by}
use Rattle.gate_model.specs.declared.channel.ChannelUnit.{ChannelUnit}
use Rattle.gate_model.specs.declared.channel.ChannelUnit.TheVariants as to_client
use Rattle.gate_model.specs.declared.channel.SessionUnit.{SessionUnit}
use Rattle.gate_model.specs.declared.channel.SessionUnit.TheVariants as unit
use Rattle.gate_model.specs.declared.outgoing.Outgoing.TheVariants.{ToClient, ToUp}
use Rattle.gate_model.specs.declared.outgoing.UpUnit.{UpUnit}
use Rattle.gate_model.specs.declared.outgoing.UpUnit.TheVariants as up
use Rattle.gate_model.specs.declared.reply.Reply.{Reply}
use Rattle.gate_model.specs.declared.reply.Reply.TheVariants as reply
use Rattle.gate_model.specs.declared.setup.Route.{Route}
use Rattle.gate_model.proofs.Basics.{all_both}
use Rattle.gate_model.proofs.Consumers.{IfThere, all_found}
use Rattle.gate_model.proofs.Addresses.{IsShort, address_short}
use Rattle.gate_model.proofs.Fates.{IsLived, lived}
use Rattle.gate_model.proofs.Sessions.{only_scoped}
use Rattle.gate_model.proofs.Strings.{NamesShort, WantsShort, unit_short}

abbrev AllShort : List PathEvent → Type 0
AllShort xs = AllByRecursion IsShort xs

if_short : (b : Bool) (xs ys : List PathEvent) → AllShort xs → AllShort ys → AllShort (if b then xs else ys)
if_short true xs ys p q = p
if_short false xs ys p q = q

both_short : (xs ys : List PathEvent) → AllShort xs → AllShort ys → AllShort (xs ++ ys)
both_short xs ys p q = all_both IsShort xs ys p q

-- ---- the exchanges

abbrev AreRoutesShort : List Route → Type 0
AreRoutesShort rs = AllByRecursion IsRoute rs

kept_routes : (m : Meaning) (x : Peers) → (peers_by m x).routes ≡ x.routes
kept_routes (ten.OfSession g q payload) x =
    ap (λ (y : Peers). y.routes) (only_scoped (scope_in x g q payload) g q payload (record x { carried = carried_on g q x.carried }))
kept_routes m x = refl

routes_if : (b : Bool) (p q : Peers) → AreRoutesShort p.routes → AreRoutesShort q.routes → AreRoutesShort (if b then p else q).routes
routes_if true p q a e = a
routes_if false p q a e = e

routes_short : (h : List Step) → AreGiven h → AreRoutesShort (routes_in h)
routes_short [] r = tt
routes_short (Began site n ms ∷ h) r = r.0.each
routes_short (Came u ∷ h) r = routes_if (ran_out_in h) (peers h) (peers_came (peers h) u) (routes_short h r.1) (routes_short h r.1)
routes_short (TakenUp ∷ h) r = routes_if (not (ran_out_in h) && leaving_in h) (peers_left (peers h)) (peers h) (routes_short h r) (routes_short h r)
routes_short (Heard u ∷ h) r =
    routes_if (ran_out_in h) (peers h) (peers_heard (peers h) u) (routes_short h r)
    (subst AreRoutesShort (sym (kept_routes (meaning_by (container h) u) _)) (routes_short h r))
routes_short (Joined link.Ok ∷ h) r = routes_short h r
routes_short (Joined link.Failed ∷ h) r = routes_short h r
routes_short (Lost Client how ∷ h) r = routes_short h r
routes_short (Lost Up loss.Ended ∷ h) r = routes_short h r
routes_short (Lost Up loss.Failed ∷ h) r = routes_short h r
routes_short (Lost Up loss.Shut ∷ h) r = routes_short h r
routes_short (Silent Client ∷ h) r = routes_short h r
routes_short (Silent Up ∷ h) r = routes_short h r
routes_short (Gave (ToClient u) text ∷ h) r = routes_short h r
routes_short (Gave (ToUp u) text ∷ h) r = routes_short h r
routes_short (Whole Client ∷ h) r = routes_short h r
routes_short (Whole Up ∷ h) r = routes_short h r
routes_short (s ∷ h) r = routes_short h r

route_short : (o : Option Route) → IfThere IsRoute o → length (unwrap_or (option_map (λ r. r.address) o) []) ≤ 255
route_short None a = omega arith
route_short (Some r) a = a.brief

address_few : (rs : List Route) (m : Message091) → AreRoutesShort rs → length m.key ≤ 255 → length (address_of rs m) ≤ 255
address_few rs m a short = by (length m.exchange == 0) (length m.key == 0)
  where
    by : (b c : Bool) → length (unwrap_or (if b then (if c then None else Some m.key) else route_to rs m.exchange) []) ≤ 255
    by true true = omega arith
    by true false = short
    by false c = route_short (find (is_named m.exchange) rs) (all_found IsRoute (is_named m.exchange) rs a)

-- ---- what a client asks for

owed_short : (b : Bool) (x : PathOk) → AllShort (owed_unless b (event.Owed x))
owed_short true x = tt
owed_short false x = (tt, tt)

method_short : (m : Method91) → NamesShort m → AllShort (method_events m)
method_short (method.ChannelFlow active) s = (tt, tt)
method_short (method.ExchangeDeclare name kind passive durable deletes internal no_wait arguments) s = owed_short no_wait ok.Declare
method_short (method.ConfirmSelect no_wait) s = both_short (owed_unless no_wait (event.Owed ok.Select)) _ (owed_short no_wait ok.Select) (tt, tt)
method_short (method.BasicConsume queue tag no_local no_ack exclusive no_wait arguments) s = (s, tt)
method_short (method.QueueDeclare queue passive durable exclusive deletes no_wait arguments) s = (s, tt)
method_short (method.BasicGet queue no_ack) s = (s, tt)
method_short (method.BasicCancel tag no_wait) s = (tt, tt)
method_short (method.BasicQos size count global) s = (tt, tt)
method_short (method.BasicAck tag multiple) s = (tt, tt)
method_short (method.BasicReject tag requeue) s = (tt, tt)
method_short (method.BasicNack tag multiple requeue) s = (tt, tt)
method_short (method.BasicRecover requeue) s = (tt, (tt, tt))
method_short (method.BasicRecoverAsync requeue) s = (tt, tt)
method_short (method.ChannelClose code text class id) s = (tt, tt)
method_short m s = tt

want_short : (rs : List Route) (limit n : ℕ) (x : Want91) → AreRoutesShort rs → WantsShort x → AllShort (want_events rs limit n x)
want_short rs limit n (want.Method j m) a s = if_short (j == n) _ _ (method_short m s) tt
want_short rs limit n (want.Publish j m c) a s = if_short (j == n) _ _ (address_few rs (message_of m c) a s, tt) tt
want_short rs limit n want.Close a s = (tt, tt)
want_short rs limit n (want.Refuse r) a s = if_short (is_of_channel r) _ _ (if_short (r.channel == n) _ _ (tt, tt) tt) (tt, tt)
want_short rs limit n x a s = tt

refused_short : (x : machine.Step) (o : Option Refusal) → WantsShort x.1 → WantsShort (refused_by o x).1
refused_short x None s = s
refused_short x (Some r) s = tt

-- ---- what the container sends

closed_short : (b : Bool) → AllShort (closed_if b)
closed_short true = (tt, tt)
closed_short false = tt

attach_short : (o : Option ℕ) (ts : List Tree) → AllShort (attach_events o ts)
attach_short None ts = tt
attach_short (Some name) ts = (tt, tt)

transfer_short : (o : Option TransferFault) (limit n peer : ℕ) (part : Part) (payload : List ℕ) (s : PathState)
    → IsShort (transfer_event o limit n peer part payload s)
transfer_short None limit n peer part payload s = tt
transfer_short (Some fault) limit n peer part payload s = tt

heard_short : (limit n : ℕ) (q : Parts) (payload : List ℕ) (s : PathState) → AllShort (heard_events limit n q payload s)
heard_short limit n q payload s =
    if_short (q.0 == 17) _ _ (tt, tt)
    (if_short (q.0 == 18) _ _ (attach_short (name_in (text_of (field q.1 0))) q.1)
    (if_short (q.0 == 19 && not (is_of_session q.1)) _ _ (tt, tt)
    (if_short (q.0 == 20) _ _ (transfer_short (fault_in q.1 payload s) limit n (number_at q.1 0) (part_in q.1) payload s, tt)
    (if_short (q.0 == 21) _ _ (if_short (is_outcome q.1) _ _ (tt, tt) tt)
    (if_short (q.0 == 22) _ _ (tt, tt) (if_short (q.0 == 23) _ _ (tt, tt) tt))))))

closing_short : (o : Option ℕ) (c : Connection) (j : ℕ) → AllShort (closing o c j)
closing_short None c j = tt
closing_short (Some code) c j = closed_short (is_open c j)

ending_short : (c : Connection) (j : ℕ) → AllShort (ending c j)
ending_short c j = both_short (closed_if (is_open c j)) _ (closed_short (is_open c j)) (tt, tt)

session_short : (c : Connection) (o : Option Scope) (n j : ℕ) (q : Parts) (payload : List ℕ) (s : PathState) → AllShort (session_events c o n j q payload s)
session_short c None n j q payload s =
    if_short (j == n) _ _
    (both_short _ _ (if_short (q.0 == 17) _ _ tt (closing_short (closing_code q payload s) c j)) (heard_short c.limits.frame_max j q payload s)) tt
session_short c (Some scope.Connection) n j q payload s = (tt, tt)
session_short c (Some scope.Channel) n j q payload s = if_short (j == n) _ _ (ending_short c j) tt

meaning_short : (o : Peers) (n : ℕ) (m : Meaning) → AllShort (meaning_events o n m)
meaning_short o n (ten.OfSession j q payload) = session_short o.client (scope_in o j q payload) n j q payload (path_at o.paths j)
meaning_short o n (ten.Closed e) = (tt, tt)
meaning_short o n ten.Refused = (tt, tt)
meaning_short o n (ten.Violation why) = (tt, tt)
meaning_short o n m = tt

-- ---- what goes

told_short : (u : ChannelUnit) → IsShort (told_event u)
told_short (to_client.Ok x) = tt
told_short x = tt

reply_short : (n : ℕ) (u : Reply) → AllShort (reply_events n u)
reply_short n (reply.OnChannel j u) = if_short (j == n) _ _ (told_short u, tt) tt
reply_short n u = tt

given_short : (u : SessionUnit) → IsShort (given_event u)
given_short (unit.Attach a) = tt
given_short x = tt

up_short : (later : Bool) (n : ℕ) (u : UpUnit) → AllShort (up_events later n u)
up_short later n (up.OnSession j u) = if_short (j == n) _ _ (given_short u, tt) tt
up_short later n (up.End j why) = if_short (not later && j == n) _ _ (tt, (tt, tt)) (tt, tt)
up_short later n u = tt

wrote_short : (u : ChannelUnit) → AllShort (wrote_event u)
wrote_short (to_client.Content c) = if_short c.last _ _ (tt, tt) tt
wrote_short u = tt

whole_short : (n : ℕ) (o : Option Reply) → AllShort (wrote_events n o)
whole_short n (Some (reply.OnChannel j u)) = if_short (j == n) _ _ (wrote_short u) tt
whole_short n o = tt

-- ---- all steps

step_short : (n : ℕ) (h : List Step) (s : Step) → AreGiven (s ∷ h) → AllShort (step_events n h s)
step_short n h (Began site number ms) r = tt
step_short n h (Silent Client) r = (tt, tt)
step_short n h (Silent Up) r = (tt, tt)
step_short n h (Queued u) r = tt
step_short n h (Came u) r =
    if_short (ran_out_in h) _ _ tt
    (want_short (routes_in h) (conn_step (routes_in h) (paths_in h) (connection h) u).limits.frame_max n _ (routes_short h r.1)
    (refused_short (unit_step (connection h) u) (refusal_of_want (routes_in h) (paths_in h) (unit_step (connection h) u).1) (unit_short h u r.1 r.0)))
step_short n h TakenUp r = closed_short (not (ran_out_in h) && leaving_in h)
step_short n h (Heard u) r = if_short (ran_out_in h) _ _ tt (meaning_short (peers h) n (meaning_by (container h) u))
step_short n h (Joined link.Ok) r = (tt, tt)
step_short n h (Joined link.Failed) r = (tt, (tt, tt))
step_short n h (Lost Client how) r = tt
step_short n h (Lost Up loss.Ended) r = (tt, (tt, (tt, tt)))
step_short n h (Lost Up loss.Failed) r = (tt, (tt, (tt, tt)))
step_short n h (Lost Up loss.Shut) r = (tt, (tt, tt))
step_short n h (Gave (ToClient u) text) r = reply_short n u
step_short n h (Gave (ToUp u) text) r = up_short (is_later (connection h) u) n u
step_short n h (Whole Client) r = whole_short n (going_in h)
step_short n h (Whole Up) r = tt
step_short n h x r = (tt, tt)

short_before : (s : Step) (h : List Step) → AreGiven (s ∷ h) → AreGiven h
short_before (Began site n ms) h r = r.1
short_before (Came u) h r = r.1
short_before s h r = r

path_short : (n : ℕ) (h : List Step) → AreGiven h → AllShort (path_events h n)
path_short n [] r = tt
path_short n (s ∷ h) r =
    if_short (opens_channel n h s) [] (step_events n h s ++ path_events h n) tt
    (both_short (step_events n h s) (path_events h n) (step_short n h s r) (path_short n h (short_before s h r)))

pub addresses_short : (h : List Step) (n : ℕ) (a : AttachDue) → ArePicks h → AreGiven h → length (address_at a (path_at (before h).paths n)) ≤ 255
addresses_short h n a p r = by (slot_at (before h).paths n) refl
  where
    on : (life : ℕ) → length (address_at a (after_events life (path_events h n))) ≤ 255
    on life = address_short a life (path_events h n) (path_short n h r)

    living : (s : PathState) → IsLived h n s → length (address_at a s) ≤ 255
    living s l = subst (λ (x : PathState). length (address_at a x) ≤ 255) (sym l.is) (on l.life)

    by : (o : Option PathState) → slot_at (before h).paths n ≡ o → length (address_at a (or_no_path o)) ≤ 255
    by None e = address_short a 0 [] tt
    by (Some s) e = living s (lived h n s p e)
