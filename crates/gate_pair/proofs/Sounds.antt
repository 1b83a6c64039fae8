-- What holds of a pair's bridge holds after each step: the login that is due to the container is known, so that what is offered has bytes.
use Rattle.std.proofs.Common.{drop, ◌≡◌, ◌∙◌, ℕ, ◌<◌, Bool, true, false, not, ◌&&◌, ◌||◌, map}
use Rattle.std.proofs.Common.{if◌then◌else◌, List, [], ◌∷◌, ◌++◌, length, Option, None, Some, refl}
use Rattle.std.proofs.Common.{sym, ap, subst, arith}
use Rattle.std.specs.Prelude.{is_some}
use Rattle.std.specs.Option.{option_map}
use Rattle.gate_outside.specs.declared.ports.End.{End}
use Rattle.gate_outside.specs.declared.ports.End.TheVariants.{Client, Up}
use Rattle.gate_outside.specs.declared.ports.Linked.{Linked}
use Rattle.gate_outside.specs.declared.ports.Linked.TheVariants as link
use Rattle.gate_relay.specs.declared.loss.Loss.{Loss}
use Rattle.gate_relay.specs.declared.loss.Loss.TheVariants as loss
use Rattle.gate_relay.specs.declared.sides.Side.TheVariants as side
use Rattle.gate_relay.specs.declared.sides.Side.{Side}
use Rattle.machine_091.specs.State.{is_closing, is_opening}
use Rattle.machine_091.specs.declared.unit.Want91.{Want91}
use Rattle.machine_091.specs.declared.unit.Want91.TheVariants as want
use Rattle.machine_091.specs.declared.unit.Unit91.{Unit91}
use Rattle.machine_10.specs.Transitions as ten
use Rattle.machine_10.specs.Transitions.{Meaning}
use Rattle.machine_10.specs.declared.state.Upstream.{Upstream}
use Rattle.machine_10.specs.declared.unit.Unit10.{Unit10}
use Rattle.performatives_10.specs.declared.condition.Condition.{Condition}
use Rattle.frames_10.specs.Frames as frames_10
use Rattle.frames_10.specs.Frames.{text_behind}
use Rattle.frames_10.specs.declared.frame.Frame10.{Frame10}
use Rattle.gate_model.specs.declared.outgoing.Outgoing.{Outgoing}
use Rattle.gate_model.specs.declared.outgoing.Outgoing.TheVariants.{ToClient, ToUp}
use Rattle.gate_model.specs.declared.outgoing.UpUnit.{UpUnit}
use Rattle.gate_model.specs.declared.outgoing.UpUnit.TheVariants as unit
use Rattle.gate_model.specs.declared.reply.Reply.{Reply}
use Rattle.gate_model.specs.declared.channel.SessionUnit.{SessionUnit}
use Rattle.gate_model.specs.declared.channel.SessionUnit.TheVariants as session
use Rattle.gate_model.specs.Due.{carries_up, client_rows, is_busy, pick, up_rows}
use Rattle.gate_model.specs.Paths.{told_paths}
use Rattle.gate_model.specs.Setup.{SetupText}
use Rattle.gate_model.specs.Spelling.{context_of, init_text, spell_on}
use Rattle.gate_model.specs.Requests.{client_step}
use Rattle.gate_model.specs.State as state
use Rattle.gate_model.specs.State.{State, Step, condition_by, fail, failed, heard, keep_login, sessions_lost}
use Rattle.gate_model.specs.State.{lost_up, next_unit, paths_lost, runs, step, windowed}
use Rattle.gate_model.specs.State.{with_meaning}
use Rattle.gate_model.specs.Upstream.{UpState, closing_with, container_given, ended_in, first}
use Rattle.gate_model.specs.Upstream.{heard_up, lost_by, meaning_by, shut_by, when_up, without_up}
use Rattle.gate_model.proofs.Sessions.{session_cases}
use Rattle.gate_model.proofs.Ups.{Begins, Closing, Ends, Flows, Opening, Picked, Telling, goes_up}
use Rattle.gate_model.proofs.Ups as ups
use Rattle.bridge_core.specs.Offers.{BridgeState, FindsBytes, Keeps, advanced, bytes_of}
use Rattle.bridge_core.specs.Offers.{client_bytes, moved}
use Rattle.bridge_core.specs.Offers.{peeked, with_next}
use Rattle.gate_pair.specs.Meaning.{offered, spelled_in}
use Rattle.gate_pair.specs.PairStates.{IsSound, KnowsLogin, StaysSound, ready_at}
use Rattle.gate_pair.proofs.Lacks.{begins_lack, ends_lack, flows_lack}

-- ---- the login

closing_knows : (b : Bool) (why : Option Condition) (s : UpState) → KnowsLogin s → KnowsLogin (closing_with b why s)
closing_knows true why s k = k
closing_knows false why s k = k

keeping_knows : (x : Want91) (s : UpState) → KnowsLogin s → KnowsLogin (keep_login x s)
keeping_knows want.Nothing s k = k
keeping_knows want.Start s k = k
keeping_knows (want.Login a b) s k = λ e. refl
keeping_knows want.Tuned s k = k
keeping_knows want.OpenUp s k = k
keeping_knows (want.Method n m) s k = k
keeping_knows (want.Publish n m c) s k = k
keeping_knows (want.ChannelCloseOk n) s k = k
keeping_knows want.Close s k = k
keeping_knows want.CloseOk s k = k
keeping_knows (want.Refuse r) s k = k

fail_knows : (code : ℕ) (why : Option Condition) (w : State) → KnowsLogin w.up → KnowsLogin (fail code why w).up
fail_knows code why w k = by (is_closing w.conn)
  where
    by : (b : Bool) → KnowsLogin (if b then sessions_lost w else failed code why w).up
    by true = k
    by false = k

-- a unit of the container leaves the login, and one wants it where it is known
fail_container : (code : ℕ) (why : Option Condition) (w : State) → (fail code why w).up.container ≡ w.up.container
fail_container code why w = by (is_closing w.conn)
  where
    by : (b : Bool) → (if b then sessions_lost w else failed code why w).up.container ≡ w.up.container
    by true = refl
    by false = refl

meaning_container : (m : Meaning) (w : State) → (with_meaning m w).up.container ≡ w.up.container
meaning_container ten.Nothing w = refl
meaning_container ten.Init w = refl
meaning_container ten.AmqpHeader w = refl
meaning_container ten.Opened w = by (is_opening w.conn)
  where
    by : (b : Bool) → (if b then runs w else w).up.container ≡ w.up.container
    by true = refl
    by false = refl
meaning_container (ten.OfSession g p payload) w = session_cases (λ (v : State). v.up.container ≡ w.up.container) g p payload w (record {
  begins = refl;
  stays = refl;
  ends = λ code why. refl;
  parts = refl;
  drops = λ code why. refl;
  fails = λ why. fail_container _ why (windowed g p w);
})
meaning_container (ten.Closed e) w = fail_container _ None w
meaning_container ten.Refused w = fail_container _ None w
meaning_container (ten.Violation c) w = fail_container _ (Some c) w

heard_knows : (w : State) (u : Unit10) → KnowsLogin w.up → KnowsLogin (heard w u).up
heard_knows w u k = by w.up.container k
  where
    by : (c : Option Upstream) → (w.up.pending.init ≡ true → is_some c ≡ true)
        → KnowsLogin (with_meaning (meaning_by c u) (record w { up = heard_up u (record w.up { container = c }) })).up
    by None k = k
    by (Some c) k = λ e. ap is_some (meaning_container (meaning_by (Some c) u) (record w { up = heard_up u (record w.up { container = Some c }) }))

up_knows : (x : Side) (w : State) → KnowsLogin w.up → KnowsLogin (lost_up x w).up
up_knows x w k = fail_knows _ None (record w { up = lost_by x w.up; paths = paths_lost w.paths }) (ended w.up.container k)
  where
    ended : (c : Option Upstream) → (w.up.pending.init ≡ true → is_some c ≡ true) → w.up.pending.init ≡ true → is_some (ended_in c) ≡ true
    ended None k = k
    ended (Some c) k = k

lost_knows : (w : State) (end : End) (how : Loss) → KnowsLogin w.up → KnowsLogin (step w (state.Lost end how)).up
lost_knows w Client loss.Ended k = k
lost_knows w Client loss.Failed k = k
lost_knows w Client loss.Shut k = k
lost_knows w Up loss.Ended k = up_knows side.Ended w k
lost_knows w Up loss.Failed k = up_knows side.Failed w k
lost_knows w Up loss.Shut k = k

joined_knows : (w : State) (answer : Linked) → KnowsLogin w.up → KnowsLogin (step w (state.Joined answer)).up
joined_knows w link.Ok k = λ e. absurd cc
joined_knows w link.Failed k = fail_knows _ None (record w { up = shut_by w.up; paths = told_paths w.paths }) k

given_some : (u : UpUnit) (c : Option Upstream) → is_some c ≡ true → is_some (container_given u c) ≡ true
given_some u None e = absurd cc
given_some u (Some c) e = refl

begun_knows : (u : UpUnit) (s : UpState) → KnowsLogin s → (without_up u s.pending).init ≡ true → is_some (container_given u s.container) ≡ true
begun_knows unit.SaslHeader s k = λ e. given_some unit.SaslHeader s.container (k e)
begun_knows unit.SaslInit s k = λ e. absurd cc
begun_knows unit.AmqpHeader s k = λ e. given_some unit.AmqpHeader s.container (k e)
begun_knows unit.Open s k = λ e. given_some unit.Open s.container (k e)
begun_knows (unit.Close c) s k = λ e. given_some (unit.Close c) s.container (k e)
begun_knows unit.Empty s k = λ e. given_some unit.Empty s.container (k e)
begun_knows (unit.OnSession n u) s k = λ e. given_some (unit.OnSession n u) s.container (k e)
begun_knows (unit.Flow n i o) s k = λ e. given_some (unit.Flow n i o) s.container (k e)
begun_knows (unit.Begin n) s k = λ e. given_some (unit.Begin n) s.container (k e)
begun_knows (unit.End n why) s k = λ e. given_some (unit.End n why) s.container (k e)

pub step_knows : (s : Step) (w : State) → KnowsLogin w.up → KnowsLogin (step w s).up
step_knows (state.Began site n ms) w k = k
step_knows (state.Moment ms) w k = k
step_knows (state.Fed Client) w k = k
step_knows (state.Fed Up) w k = k
step_knows (state.Silent Client) w k = closing_knows (is_closing w.conn) None w.up k
step_knows (state.Silent Up) w k = fail_knows _ _ (record w { up = record w.up { silent = true } }) k
step_knows (state.Queued u) w k = by w.out_of_memory
  where
    by : (b : Bool) → KnowsLogin (if b then w else record w { queue = w.queue ++ u ∷ [] }).up
    by true = k
    by false = k
step_knows (state.Came u) w k = by w.out_of_memory
  where
    by : (b : Bool) → KnowsLogin (if b then w else state.came (state.dequeued w) u).up
    by true = k
    by false =
        closing_knows (is_closing w.conn) (condition_by (client_step w.routes w.paths w.conn u).1) (keep_login (client_step w.routes w.paths w.conn u).1 w.up)
        (keeping_knows (client_step w.routes w.paths w.conn u).1 w.up k)
step_knows state.TakenUp w k = by (not w.out_of_memory && w.leaving)
  where
    by : (b : Bool) → KnowsLogin (if b then state.left w else w).up
    by true = closing_knows (is_closing w.conn) None w.up k
    by false = k
step_knows (state.Heard u) w k = by w.out_of_memory
  where
    by : (b : Bool) → KnowsLogin (if b then w else heard w u).up
    by true = k
    by false = heard_knows w u k
step_knows (state.Joined answer) w k = joined_knows w answer k
step_knows (state.Lost end how) w k = lost_knows w end how k
step_knows (state.Gave (ToClient u) text) w k = k
step_knows (state.Gave (ToUp u) text) w k = begun_knows u w.up k
step_knows (state.Whole Client) w k = k
step_knows (state.Whole Up) w k = k
step_knows state.LinesTold w k = k
step_knows state.OutOfMemory w k = closing_knows (is_closing w.conn) _ w.up k

-- ---- what is offered

-- a unit to each end is one of its own
client_first : (us : List Reply) (u : UpUnit) → first (map ToClient us) ≡ Some (ToUp u) → ⊥
client_first [] u e = absurd cc
client_first (v ∷ us) u e = absurd cc

up_first_is : (us : List UpUnit) (u : Reply) → first (map ToUp us) ≡ Some (ToClient u) → ⊥
up_first_is [] u e = absurd cc
up_first_is (v ∷ us) u e = absurd cc

pub client_picks : (w : State) (u : UpUnit) → pick w Client ≡ Some (ToUp u) → ⊥
client_picks w u e = client_first (client_rows w) u e

pub up_picks : (w : State) (u : Reply) → pick w Up ≡ Some (ToClient u) → ⊥
up_picks w u e = up_first_is (up_rows w) u e

-- the login goes where it is due
opening_due : (sasl_header init amqp_header own : Bool)
    → first (when_up sasl_header unit.SaslHeader ++ (when_up init unit.SaslInit ++ (when_up amqp_header unit.AmqpHeader ++ when_up own unit.Open))) ≡ Some unit.SaslInit → init ≡ true
opening_due true i a o e = absurd cc
opening_due false true a o e = refl
opening_due false false true o e = absurd cc
opening_due false false false true e = absurd cc
opening_due false false false false e = absurd cc

login_due : (w : State) → pick w Up ≡ Some (ToUp unit.SaslInit) → w.up.pending.init ≡ true
login_due w e = by (goes_up w unit.SaslInit e).why
  where
    by : Picked (w.out_of_memory || is_closing w.conn) w unit.SaslInit → w.up.pending.init ≡ true
    by (Closing k n o f) = absurd cc
    by (Opening k f) = opening_due w.up.pending.sasl_header w.up.pending.init w.up.pending.amqp_header w.up.pending.«open» f
    by (Begins k f) = absurd (begins_lack unit.SaslInit w refl f)
    by (Flows f) = absurd (flows_lack unit.SaslInit w refl f)
    by (ups.Linked l) = let wrong = l.is in absurd cc
    by (Ends f) = absurd (ends_lack unit.SaslInit (w.out_of_memory || is_closing w.conn) w refl f)
    by (Telling i f) = absurd cc

frame_some : (f : Frame10) → 0 < length (frames_10.frame_text f)
unfolding text_behind
frame_some f = omega arith

init_some : (c : Option Upstream) → is_some c ≡ true → 0 < length (init_text c)
init_some None e = absurd cc
init_some (Some c) e = frame_some _

-- what goes next has bytes
session_some : (n : ℕ) (u : SessionUnit) (text : List ℕ) → 0 < length (spell_on n u text)
session_some n (session.Attach a) text = frame_some _
session_some n (session.Flow f) text = frame_some _
session_some n (session.Transfer t) text = frame_some _
session_some n (session.Dispose x) text = frame_some _
session_some n (session.Settle x) text = frame_some _
session_some n (session.Detach link handle why) text = frame_some _

picked_some : (s : SetupText) (w : State) (u : UpUnit) → KnowsLogin w.up → pick w Up ≡ Some (ToUp u) → 0 < length (spelled_in s w (ToUp u))
picked_some s w unit.SaslHeader k e = omega arith
picked_some s w unit.SaslInit k e = init_some w.up.container (k (login_due w e))
picked_some s w unit.AmqpHeader k e = omega arith
picked_some s w unit.Open k e = frame_some _
picked_some s w (unit.Close c) k e = frame_some _
picked_some s w unit.Empty k e = frame_some _
picked_some s w (unit.OnSession n u) k e = session_some n u (carries_up w (unit.OnSession n u))
picked_some s w (unit.Flow n i o) k e = frame_some _
picked_some s w (unit.Begin n) k e = frame_some _
picked_some s w (unit.End n why) k e = frame_some _

-- ---- steps

clash : {A : Type 0} (b : Bool) → b ≡ false → b ≡ true → A
clash b f t = absurd cc

-- a step takes offers back
pub moved_sound : (s : Step) (b d : BridgeState) (client up : ℕ) → IsSound b client up → d ≡ moved s b → Keeps b d → IsSound d client up
moved_sound s b d client up x is k = record {
  login = subst (λ (v : BridgeState). KnowsLogin v.state.up) (sym is) (step_knows s b.state x.login);
  client_left = λ e. subst (λ (bytes : List ℕ). client < length bytes) (sym k.client) (x.client_left (ap (λ (o : Option Reply). is_some (option_map ToClient o)) (sym k.going) ∙ e));
  up_left = λ e. subst (λ (bytes : List ℕ). up < length bytes) (sym k.up) (x.up_left (ap (λ (o : Option UpUnit). is_some (option_map ToUp o)) (sym k.going_up) ∙ e));
  client_bytes = λ e. clash d.client.ready (ap (λ (v : BridgeState). v.client.ready) is) e;
  up_bytes = λ e. clash d.up.ready (ap (λ (v : BridgeState). v.up.ready) is) e;
}

pub sound_more : (b c d : BridgeState) → StaysSound b c → StaysSound c d → StaysSound b d
sound_more b c d x y = λ client up s. y client up (x client up s)

pub moved_stays : (s : Step) (b d : BridgeState) → d ≡ moved s b → Keeps b d → StaysSound b d
moved_stays s b d is k = λ client up x. moved_sound s b d client up x is k

-- a unit that is taken up, if there is one
next_knows : (o : Option Unit91) (w : State) → KnowsLogin w.up → KnowsLogin (with_next o w).up
next_knows None w k = k
next_knows (Some u) w k = step_knows (state.Came u) w k

pub advanced_stays : (b d : BridgeState) → d ≡ advanced b → Keeps b d → StaysSound b d
advanced_stays b d is k = λ client up x. record {
  login = subst (λ (v : BridgeState). KnowsLogin v.state.up) (sym is) (next_knows (next_unit b.state) b.state x.login);
  client_left = λ e. subst (λ (bytes : List ℕ). client < length bytes) (sym k.client) (x.client_left (ap (λ (o : Option Reply). is_some (option_map ToClient o)) (sym k.going) ∙ e));
  up_left = λ e. subst (λ (bytes : List ℕ). up < length bytes) (sym k.up) (x.up_left (ap (λ (o : Option UpUnit). is_some (option_map ToUp o)) (sym k.going_up) ∙ e));
  client_bytes = λ e. clash d.client.ready (ap (λ (v : BridgeState). v.client.ready) is) e;
  up_bytes = λ e. clash d.up.ready (ap (λ (v : BridgeState). v.up.ready) is) e;
}

-- ---- looks

pub looked_stays : (s : SetupText) (end : End) (b : BridgeState) (any : Bool) → any ≡ is_some (pick b.state end) → FindsBytes end any (peeked s end b)
    → is_busy b.state end ≡ false → StaysSound b (peeked s end b)
looked_stays s Client b any found bytes free = λ client up x. record {
  login = x.login;
  client_left = λ e. clash (is_busy b.state Client) free e;
  up_left = x.up_left;
  client_bytes = λ e. bytes (found ∙ e);
  up_bytes = x.up_bytes;
}
looked_stays s Up b any found bytes free = λ client up x. record {
  login = x.login;
  client_left = x.client_left;
  up_left = λ e. clash (is_busy b.state Up) free e;
  client_bytes = x.client_bytes;
  up_bytes = by (λ u p. picked_some s b.state u x.login p) (pick b.state Up) refl;
}
  where
    by : ((u : UpUnit) → pick b.state Up ≡ Some (ToUp u) → 0 < length (spelled_in s b.state (ToUp u)))
        → (o : Option Outgoing) → pick b.state Up ≡ o → is_some o ≡ true → 0 < length (bytes_of (context_of s b.state) b.state o b.up.bytes)
    by some None p e = absurd cc
    by some (Some (ToUp u)) p e = some u p
    by some (Some (ToClient u)) p e = absurd (up_picks b.state u p)

-- what a look found is what is offered
pub looked_ready : (s : SetupText) (end : End) (b : BridgeState) (at : ℕ) (rest : List ℕ) → is_busy b.state end ≡ false
    → ready_at end at (peeked s end b) ≡ offered s end b.state rest
looked_ready s Client b at rest free = by (is_busy b.state Client) (pick b.state Client) refl free
  where
    by : (busy : Bool) (o : Option Outgoing) → pick b.state Client ≡ o → busy ≡ false
        → (if busy then Some (drop at (client_bytes b.state o b.client.bytes)) else if is_some o then Some (client_bytes b.state o b.client.bytes) else None)
        ≡ (if busy then Some rest else option_map (spelled_in s b.state) o)
    by true o p f = absurd cc
    by false None p f = refl
    by false (Some (ToClient u)) p f = refl
    by false (Some (ToUp u)) p f = absurd (client_picks b.state u p)
looked_ready s Up b at rest free = by (is_busy b.state Up) (pick b.state Up) free
  where
    by : (busy : Bool) (o : Option Outgoing) → busy ≡ false
        → (if busy then Some (drop at (bytes_of (context_of s b.state) b.state o b.up.bytes)) else if is_some o then Some (bytes_of (context_of s b.state) b.state o b.up.bytes) else None)
        ≡ (if busy then Some rest else option_map (spelled_in s b.state) o)
    by true o f = absurd cc
    by false None f = refl
    by false (Some u) f = refl
