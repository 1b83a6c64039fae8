-- Which channels are open after a unit of the client, and after what closes one.
use Rattle.std.proofs.Common.{◌≡◌, ℕ, zero, suc, ◌==◌, ◌<◌, ◌&&◌, not, eqb, nat_lt, cond, Bool, true, false}
use Rattle.std.proofs.Common.{if◌then◌else◌, List, [], ◌∷◌, length, Option, None, Some, Ok, Err, refl}
use Rattle.std.proofs.Common.{sym, ap, ◌∙◌, subst, arith}
use Rattle.std.proofs.lemmas.Bool.Decides.{nat_tests}
use Rattle.std.specs.Prelude.{slice_get, slice_set}
use Rattle.close_translate.specs.declared.conditions.Scope.{Scope}
use Rattle.close_translate.specs.declared.conditions.Scope.TheVariants as scope
use Rattle.content_091.specs.declared.assembly.Step.TheVariants as step
use Rattle.frames_091.specs.declared.frame.Frame91.{Frame91}
use Rattle.frames_091.specs.declared.frame.Kind91.{Kind91}
use Rattle.frames_091.specs.declared.frame.Kind91.TheVariants as frame
use Rattle.machine_091.specs.Calls.{after_closing, closing_channel}
use Rattle.machine_091.specs.Contents.{Taking}
use Rattle.machine_091.specs.Ids.{is_of_kind}
use Rattle.machine_091.specs.Methods.{close_of, flag, flags_at, number_at, text_at}
use Rattle.machine_091.specs.Refusals.{channel_of, channel_place, closing_place, content_place}
use Rattle.machine_091.specs.Refusals.{order_place, places, publish_refusal, reading_place, refusal_by}
use Rattle.machine_091.specs.Refusals.{refusal_of, state_place, unit_ruling}
use Rattle.machine_091.specs.RefusalsFrames.{first, refused}
use Rattle.machine_091.specs.RefusalsOpening.{opening_refusal}
use Rattle.machine_091.specs.RefusalsRunning.{answer_order, is_done, is_servers, running_refusal}
use Rattle.machine_091.specs.RefusalsRunning.{carried_order, running_state}
use Rattle.machine_091.specs.Transitions.{opening_effect}
use Rattle.machine_091.specs.Contents.{no_contents}
use Rattle.close_translate.specs.declared.codes.TheConstants.{COMMAND_INVALID}
use Rattle.close_translate.specs.declared.codes.TheConstants.{NOT_IMPLEMENTED}
use Rattle.machine_091.specs.State.{channel_at, is_closing_phase, is_open, is_open_channel}
use Rattle.machine_091.specs.State.{is_running, or_free, with_channel}
use Rattle.machine_091.specs.Transitions.{channel_effect, closed_by, content_effect, frame_effect}
use Rattle.machine_091.specs.Transitions.{method_effect, ordered_step, ruled_step, running_effect}
use Rattle.machine_091.specs.Transitions.{step_in, unit_effect, unit_step}
use Rattle.machine_091.specs.Transitions as machine
use Rattle.machine_091.specs.declared.contents.Incoming.{Incoming}
use Rattle.machine_091.specs.declared.ids.TheConstants.{BASIC_ACK, BASIC_CANCEL, BASIC_CONSUME, BASIC_GET}
use Rattle.machine_091.specs.declared.ids.TheConstants.{BASIC_NACK, BASIC_PUBLISH, BASIC_QOS, BASIC_RECOVER}
use Rattle.machine_091.specs.declared.ids.TheConstants.{BASIC_RECOVER_ASYNC, BASIC_REJECT, CHANNEL_CLOSE}
use Rattle.machine_091.specs.declared.ids.TheConstants.{CHANNEL_CLOSE_OK, CHANNEL_FLOW, CHANNEL_OPEN}
use Rattle.machine_091.specs.declared.ids.TheConstants.{CONFIRM_SELECT, CONNECTION_CLOSE, EXCHANGE_DECLARE, QUEUE_DECLARE}
use Rattle.machine_091.specs.declared.ids.TheConstants.{CONNECTION}
use Rattle.machine_091.specs.declared.state.Channel91.{Channel91}
use Rattle.machine_091.specs.declared.state.Channel91.TheVariants as channel
use Rattle.machine_091.specs.declared.state.Connection.{Connection}
use Rattle.machine_091.specs.declared.state.Phase91.{Phase91}
use Rattle.machine_091.specs.declared.state.Phase91.TheVariants as phase
use Rattle.machine_091.specs.declared.unit.Refusal.{Refusal}
use Rattle.machine_091.specs.declared.unit.Ruling.{Ruling}
use Rattle.machine_091.specs.declared.unit.Ruling.TheVariants as ruling
use Rattle.machine_091.specs.declared.unit.Unit91.{Unit91}
use Rattle.machine_091.specs.declared.unit.Unit91.TheVariants as unit
use Rattle.machine_091.specs.declared.unit.Want91.{Want91}
use Rattle.machine_091.specs.declared.unit.Want91.TheVariants as want
use Rattle.machine_091.proofs.Places.{first_none, none_of_method, rest_none}
use Rattle.machine_091.proofs.StepCases.{step_rows}
use Rattle.methods_091.specs.Arguments.{Arg}
use Rattle.methods_091.specs.Reading.{Read, method_in}
use Rattle.methods_091.specs.Rows.{Kind, class_of}
use Rattle.methods_091.specs.declared.method.Method91.{Method91}
use Rattle.methods_091.specs.declared.method.Method91.TheVariants as method

-- ---- channels by their numbers

pub set_long : (cs : List Channel91) (k : ℕ) (s : Channel91) → length (slice_set cs k s) ≡ length cs
set_long [] k s = refl
set_long (x ∷ cs) zero s = refl
set_long (x ∷ cs) (suc k) s = ap suc (set_long cs k s)

set_elsewhere : (cs : List Channel91) (k n : ℕ) (s : Channel91) → (k == n) ≡ false → or_free (slice_get (slice_set cs k s) n) ≡ or_free (slice_get cs n)
set_elsewhere [] k n s d = refl
set_elsewhere (x ∷ cs) zero zero s d = absurd cc
set_elsewhere (x ∷ cs) zero (suc n) s d = refl
set_elsewhere (x ∷ cs) (suc k) zero s d = refl
set_elsewhere (x ∷ cs) (suc k) (suc n) s d = set_elsewhere cs k n s (let less : (k == n) ≡ false = grind (arith, nat_tests, d) in less)

set_here : (cs : List Channel91) (n : ℕ) (s : Channel91) → n < length cs → or_free (slice_get (slice_set cs n s) n) ≡ s
set_here [] n s e = absurd (omega (arith, e))
set_here (x ∷ cs) zero s e = refl
set_here (x ∷ cs) (suc n) s e = set_here cs n s (omega (arith, e))

-- a channel in another state
with_opens : (k n : ℕ) (c : Connection) (s : Channel91) → n < length c.channels
    → is_open (with_channel c k s) n ≡ (if k == n then is_running c.phase && is_open_channel s else is_open c n)
with_opens k n c s less = by (k == n) refl
  where
    by : (b : Bool) → (k == n) ≡ b → is_open (with_channel c k s) n ≡ (if b then is_running c.phase && is_open_channel s else is_open c n)
    by true e =
        let same : k ≡ n = grind (arith, nat_tests, e) in
        ap (λ (x : Channel91). is_running c.phase && is_open_channel x)
        (subst (λ (m : ℕ). or_free (slice_get (slice_set c.channels m s) n) ≡ s) (sym same) (set_here c.channels n s less))
    by false e = ap (λ (x : Channel91). is_running c.phase && is_open_channel x) (set_elsewhere c.channels k n s e)

both_false : (a b : Bool) → b ≡ false → (a && b) ≡ false
both_false true b e = e
both_false false b e = refl

-- one that wasn't open, and isn't
pub stays_shut : (k n : ℕ) (c : Connection) (s : Channel91) → n < length c.channels → is_open_channel (channel_at c k) ≡ false → is_open_channel s ≡ false
    → is_open (with_channel c k s) n ≡ is_open c n
stays_shut k n c s less was is = with_opens k n c s less ∙ by (k == n) refl
  where
    by : (b : Bool) → (k == n) ≡ b → (if b then is_running c.phase && is_open_channel s else is_open c n) ≡ is_open c n
    by true e =
        let same : k ≡ n = grind (arith, nat_tests, e) in
        both_false (is_running c.phase) (is_open_channel s) is
        ∙ sym (both_false (is_running c.phase) _ (subst (λ (m : ℕ). is_open_channel (channel_at c m) ≡ false) same was))
    by false e = refl

-- one that closes
pub closing_opens : (k n : ℕ) (c : Connection) → n < length c.channels → is_open (after_closing scope.Channel k c) n ≡ (if k == n then false else is_open c n)
closing_opens k n c less = by (channel_at c k) refl
  where
    shut : is_open_channel (channel_at c k) ≡ false → is_open c n ≡ (if k == n then false else is_open c n)
    shut e = at (k == n) refl
      where
        at : (b : Bool) → (k == n) ≡ b → is_open c n ≡ (if b then false else is_open c n)
        at true f =
            let same : k ≡ n = grind (arith, nat_tests, f) in
            both_false (is_running c.phase) _ (subst (λ (m : ℕ). is_open_channel (channel_at c m) ≡ false) same e)
        at false f = refl

    by : (s : Channel91) → channel_at c k ≡ s → is_open (closing_channel s k c) n ≡ (if k == n then false else is_open c n)
    by channel.Free e = shut (ap is_open_channel e)
    by channel.Open e =
        with_opens k n c channel.Closing less
        ∙ ap (λ (b : Bool). if k == n then b else is_open c n) (both_false (is_running c.phase) false refl)
    by channel.Closing e = shut (ap is_open_channel e)
    by channel.Told e = shut (ap is_open_channel e)

pub closing_long : (k : ℕ) (c : Connection) → length (after_closing scope.Channel k c).channels ≡ length c.channels
closing_long k c = by (channel_at c k)
  where
    by : (s : Channel91) → length (closing_channel s k c).channels ≡ length c.channels
    by channel.Free = refl
    by channel.Open = set_long c.channels k channel.Closing
    by channel.Closing = refl
    by channel.Told = refl

-- ---- a unit of the client

-- a refusal closes its channel alone
abbrev pub is_channel : Scope → Bool
is_channel scope.Channel = true
is_channel scope.Connection = false

abbrev pub is_of_channel : Refusal → Bool
is_of_channel r = is_channel r.scope

abbrev pub method_opens : Method91 → Bool → Bool
method_opens method.ChannelOpen b = true
method_opens (method.ChannelClose code text class id) b = false
method_opens m b = b

-- channel n is open after what a unit wants, or not
abbrev pub opens_by : ℕ → Want91 → Bool → Bool
opens_by n want.Nothing b = b
opens_by n want.Start b = b
opens_by n (want.Login mechanism response) b = b
opens_by n want.Tuned b = b
opens_by n want.OpenUp b = b
opens_by n (want.Method k m) b = if k == n then method_opens m b else b
opens_by n (want.Publish k m c) b = b
opens_by n (want.ChannelCloseOk k) b = b
opens_by n want.Close b = false
opens_by n want.CloseOk b = b
opens_by n (want.Refuse r) b = if is_of_channel r then (if r.channel == n then false else b) else false

pub record Opens (n : ℕ) (c : Connection) (x : machine.Step) : Type 0 where
  pub long : length x.0.channels ≡ length c.channels
  pub is : n < length c.channels → is_open x.0 n ≡ opens_by n x.1 (is_open c n)

same : (n : ℕ) (c : Connection) (x : Want91) → ((b : Bool) → opens_by n x b ≡ b) → Opens n c (c, x)
same n c x keeps = record { long = refl; is = λ less. sym (keeps (is_open c n)) }

-- before a connection runs, and once it closes, none is
idle : (n : ℕ) (c d : Connection) (x : Want91) → is_running c.phase ≡ false → is_running d.phase ≡ false → length d.channels ≡ length c.channels
    → opens_by n x false ≡ false → Opens n c (d, x)
idle n c d x was is long none = record {
  long = long;
  is = λ less. ap (λ (b : Bool). b && is_open_channel (channel_at d n)) is ∙ sym none
      ∙ ap (opens_by n x) (sym (ap (λ (b : Bool). b && is_open_channel (channel_at c n)) was));
}

-- the connection closes
pub shuts : (n : ℕ) (c d : Connection) (x : Want91) → is_running d.phase ≡ false → length d.channels ≡ length c.channels
    → ((b : Bool) → opens_by n x b ≡ false) → Opens n c (d, x)
shuts n c d x is long none =
    record { long = long; is = λ less. ap (λ (b : Bool). b && is_open_channel (channel_at d n)) is ∙ sym (none (is_open c n)) }

abbrev RunsNot : Connection → Type 0
RunsNot c = is_running c.phase ≡ false

against : {A : Type 0} (c : Connection) → is_running c.phase ≡ true → RunsNot c → A
against c e f = let wrong : true ≡ false = sym e ∙ f in absurd cc

early_phase : (p q : Phase91) → p ≡ q → is_running q ≡ false → is_running p ≡ false
early_phase p q e f = ap is_running e ∙ f

pub closing_early : (p : Phase91) → is_closing_phase p ≡ true → is_running p ≡ false
closing_early phase.Header e = absurd cc
closing_early phase.Start e = absurd cc
closing_early phase.Tune e = absurd cc
closing_early phase.Open e = absurd cc
closing_early phase.Running e = absurd cc
closing_early phase.Closing e = refl
closing_early phase.Closed e = refl

refuses_all : (n : ℕ) (r : Refusal) → is_of_channel r ≡ false → (b : Bool) → opens_by n (want.Refuse r) b ≡ false
refuses_all n r e b = ap (λ (x : Bool). if x then (if r.channel == n then false else b) else false) e

-- the order of refusals names a connection for all but what a channel's content is refused for
of_unit : (code : ℕ) (u : Unit91) → is_of_channel (refusal_of code u) ≡ false
of_unit code unit.Protocol = refl
of_unit code (unit.Bad c) = refl
of_unit code (unit.Frame f) = by f.kind
  where
    by : (k : Kind91) → is_of_channel (refusal_by k code f.payload) ≡ false
    by frame.Method = refl
    by frame.Header = refl
    by frame.Body = refl
    by frame.Heartbeat = refl

-- a connection that doesn't run
idle_opens : (n : ℕ) (c : Connection) (u : Unit91) → RunsNot c → Opens n c (unit_step c u)
idle_opens n c u not = step_rows (λ (x : machine.Step). Opens n c x) c u (record {
  greeted = λ e. idle n c _ want.Start not refl refl refl;
  foreign = λ e. idle n c _ want.Nothing not refl refl refl;
  refused = λ code e ruled. shuts n c _ _ refl refl (refuses_all n (refusal_of code u) (of_unit code u));
  publish_refused = λ code e ruled. shuts n c _ _ refl refl (refuses_all n (publish_refusal code) refl);
  channel_refused = λ code on large ruled. against c on.runs not;
  nothing = λ idle. same n c want.Nothing (λ b. refl);
  login = λ a b e l. idle n c _ (want.Login a b) not refl refl refl;
  tuned = λ channels size heartbeat e l. idle n c _ want.Tuned not refl refl refl;
  asked = λ e. idle n c _ want.OpenUp not not refl refl;
  closed = λ runs. against c runs not;
  opened = λ k m of. against c of.runs not;
  ended = λ k m of. against c of.runs not;
  passed_on = λ k m of. against c of.runs not;
  begun = λ f k args is. against c is.on.runs not;
  grown = λ f i a is. against c is.on.runs not;
  published = λ f i a d is at_once. against c is.on.runs not;
  freed = λ k of. against c of.runs not;
  crossed = λ e. idle n c _ want.Close not refl refl refl;
  answered = λ e. idle n c _ want.CloseOk not refl refl refl;
  passed = λ e. idle n c _ want.Nothing not not refl refl;
})

-- ---- a method of a channel of a connection that runs

last_is : (flow queue qos recover again close ok exchange consume get cancel publish ack reject nack select x y z w v : Bool)
    → (if flow then x else if queue then y else if qos then z else if recover then w else if again then v else if close then true else if ok then true else if exchange then true else if consume then true else if get then true else if cancel then true else if publish then true else if ack then true else if reject then true else if nack then true else select) ≡ true
    → flow ≡ false → queue ≡ false → qos ≡ false → recover ≡ false → again ≡ false → close ≡ false → exchange ≡ false → consume ≡ false → get ≡ false → cancel ≡ false → publish ≡ false → ack ≡ false → reject ≡ false → nack ≡ false → select ≡ false → ok ≡ true
last_is true queue qos recover again close ok exchange consume get cancel publish ack reject nack select x y z w v e p0 p1 p2 p3 p4 p5 p6 p7 p8 p9 p10 p11 p12 p13 p14 = absurd cc
last_is false true qos recover again close ok exchange consume get cancel publish ack reject nack select x y z w v e p0 p1 p2 p3 p4 p5 p6 p7 p8 p9 p10 p11 p12 p13 p14 = absurd cc
last_is false false true recover again close ok exchange consume get cancel publish ack reject nack select x y z w v e p0 p1 p2 p3 p4 p5 p6 p7 p8 p9 p10 p11 p12 p13 p14 = absurd cc
last_is false false false true again close ok exchange consume get cancel publish ack reject nack select x y z w v e p0 p1 p2 p3 p4 p5 p6 p7 p8 p9 p10 p11 p12 p13 p14 = absurd cc
last_is false false false false true close ok exchange consume get cancel publish ack reject nack select x y z w v e p0 p1 p2 p3 p4 p5 p6 p7 p8 p9 p10 p11 p12 p13 p14 = absurd cc
last_is false false false false false true ok exchange consume get cancel publish ack reject nack select x y z w v e p0 p1 p2 p3 p4 p5 p6 p7 p8 p9 p10 p11 p12 p13 p14 = absurd cc
last_is false false false false false false ok true consume get cancel publish ack reject nack select x y z w v e p0 p1 p2 p3 p4 p5 p6 p7 p8 p9 p10 p11 p12 p13 p14 = absurd cc
last_is false false false false false false ok false true get cancel publish ack reject nack select x y z w v e p0 p1 p2 p3 p4 p5 p6 p7 p8 p9 p10 p11 p12 p13 p14 = absurd cc
last_is false false false false false false ok false false true cancel publish ack reject nack select x y z w v e p0 p1 p2 p3 p4 p5 p6 p7 p8 p9 p10 p11 p12 p13 p14 = absurd cc
last_is false false false false false false ok false false false true publish ack reject nack select x y z w v e p0 p1 p2 p3 p4 p5 p6 p7 p8 p9 p10 p11 p12 p13 p14 = absurd cc
last_is false false false false false false ok false false false false true ack reject nack select x y z w v e p0 p1 p2 p3 p4 p5 p6 p7 p8 p9 p10 p11 p12 p13 p14 = absurd cc
last_is false false false false false false ok false false false false false true reject nack select x y z w v e p0 p1 p2 p3 p4 p5 p6 p7 p8 p9 p10 p11 p12 p13 p14 = absurd cc
last_is false false false false false false ok false false false false false false true nack select x y z w v e p0 p1 p2 p3 p4 p5 p6 p7 p8 p9 p10 p11 p12 p13 p14 = absurd cc
last_is false false false false false false ok false false false false false false false true select x y z w v e p0 p1 p2 p3 p4 p5 p6 p7 p8 p9 p10 p11 p12 p13 p14 = absurd cc
last_is false false false false false false ok false false false false false false false false true x y z w v e p0 p1 p2 p3 p4 p5 p6 p7 p8 p9 p10 p11 p12 p13 p14 = absurd cc
last_is false false false false false false true false false false false false false false false false x y z w v e p0 p1 p2 p3 p4 p5 p6 p7 p8 p9 p10 p11 p12 p13 p14 = refl
last_is false false false false false false false false false false false false false false false false x y z w v e p0 p1 p2 p3 p4 p5 p6 p7 p8 p9 p10 p11 p12 p13 p14 = absurd cc

-- what is neither passed on nor opens, ends or begins anything is a channel.close-ok
is_answer : (k : Kind) (args : List Arg) → is_done k args ≡ true
    → is_of_kind CHANNEL_FLOW k ≡ false → is_of_kind QUEUE_DECLARE k ≡ false → is_of_kind BASIC_QOS k ≡ false → is_of_kind BASIC_RECOVER k ≡ false → is_of_kind BASIC_RECOVER_ASYNC k ≡ false → is_of_kind CHANNEL_CLOSE k ≡ false → is_of_kind EXCHANGE_DECLARE k ≡ false → is_of_kind BASIC_CONSUME k ≡ false → is_of_kind BASIC_GET k ≡ false → is_of_kind BASIC_CANCEL k ≡ false → is_of_kind BASIC_PUBLISH k ≡ false → is_of_kind BASIC_ACK k ≡ false → is_of_kind BASIC_REJECT k ≡ false → is_of_kind BASIC_NACK k ≡ false → is_of_kind CONFIRM_SELECT k ≡ false
    → is_of_kind CHANNEL_CLOSE_OK k ≡ true
is_answer k args =
    last_is (is_of_kind CHANNEL_FLOW k) (is_of_kind QUEUE_DECLARE k) (is_of_kind BASIC_QOS k) (is_of_kind BASIC_RECOVER k) (is_of_kind BASIC_RECOVER_ASYNC k) (is_of_kind CHANNEL_CLOSE k) (is_of_kind CHANNEL_CLOSE_OK k) (is_of_kind EXCHANGE_DECLARE k) (is_of_kind BASIC_CONSUME k) (is_of_kind BASIC_GET k) (is_of_kind BASIC_CANCEL k) (is_of_kind BASIC_PUBLISH k) (is_of_kind BASIC_ACK k) (is_of_kind BASIC_REJECT k) (is_of_kind BASIC_NACK k) (is_of_kind CONFIRM_SELECT k)
    (flag 0 (flags_at 0 args)) (nat_lt 0 (length (text_at 1 args))) (number_at 0 args == 0) (flag 0 (flags_at 0 args)) (flag 0 (flags_at 0 args))

-- a channel.close-ok counts on a channel that is closing
answers_shut : (s : Channel91) → answer_order s ≡ None → is_open_channel s ≡ false
answers_shut channel.Free e = absurd cc
answers_shut channel.Open e = absurd cc
answers_shut channel.Closing e = refl
answers_shut channel.Told e = refl

answer_shut : (s : Channel91) (m : ℕ) (k : Kind) → eqb m 0 ≡ false → is_of_kind CHANNEL_CLOSE_OK k ≡ true → running_state s m k ≡ None → is_open_channel s ≡ false
answer_shut s m k z ok e = at (eqb m 0) (eqb (class_of k) CONNECTION) (is_of_kind CHANNEL_CLOSE_OK k) z ok e
  where
    client : Option Ruling
    client = cond {A = Option Ruling} (is_servers k) (refused COMMAND_INVALID) None

    other : Option Ruling
    other = cond {A = Option Ruling} (is_of_kind CONNECTION_CLOSE k) None (refused COMMAND_INVALID)

    at : (a b d : Bool) → a ≡ false → d ≡ true
        → cond {A = Option Ruling} a other (cond {A = Option Ruling} b (refused COMMAND_INVALID) (cond {A = Option Ruling} d (answer_order s) client)) ≡ None
        → is_open_channel s ≡ false
    at true b d x y f = absurd cc
    at false true d x y f = absurd cc
    at false false true x y f = answers_shut s f
    at false false false x y f = absurd cc

closed_shut : (s : Channel91) → is_open_channel (closed_by s) ≡ false
closed_shut channel.Free = refl
closed_shut channel.Open = refl
closed_shut channel.Closing = refl
closed_shut channel.Told = refl

same_if : (b x : Bool) → x ≡ (if b then x else x)
same_if true x = refl
same_if false x = refl

-- a request that is passed on changes no channel
plain : (n k : ℕ) (c : Connection) (m : Method91) → ((b : Bool) → method_opens m b ≡ b) → Opens n c (c, want.Method k m)
plain n k c m keeps = record {
  long = refl;
  is = λ less. same_if (k == n) (is_open c n) ∙ ap (λ (x : Bool). if k == n then x else is_open c n) (sym (keeps (is_open c n)));
}

channel_opens : (n k : ℕ) (c : Connection) (q : Kind) (args : List Arg) → is_running c.phase ≡ true
    → (is_of_kind CHANNEL_OPEN q ≡ false → is_done q args ≡ true) → (is_of_kind CHANNEL_CLOSE_OK q ≡ true → is_open_channel (channel_at c k) ≡ false)
    → Opens n c (channel_effect c k q args)
channel_opens n k c q args runs done answers =
    pick (is_of_kind CHANNEL_OPEN q) opened (λ opens.
    pick (is_of_kind CHANNEL_CLOSE q) ended (λ close.
    pick (is_of_kind CHANNEL_FLOW q) (plain n k c _ (λ b. refl)) (λ flow.
    pick (is_of_kind EXCHANGE_DECLARE q) (plain n k c _ (λ b. refl)) (λ exchange.
    pick (is_of_kind QUEUE_DECLARE q) (plain n k c _ (λ b. refl)) (λ queue.
    pick (is_of_kind CONFIRM_SELECT q) (plain n k c _ (λ b. refl)) (λ select.
    pick (is_of_kind BASIC_CONSUME q) (plain n k c _ (λ b. refl)) (λ consume.
    pick (is_of_kind BASIC_GET q) (plain n k c _ (λ b. refl)) (λ get.
    pick (is_of_kind BASIC_ACK q) (plain n k c _ (λ b. refl)) (λ ack.
    pick (is_of_kind BASIC_REJECT q) (plain n k c _ (λ b. refl)) (λ reject.
    pick (is_of_kind BASIC_NACK q) (plain n k c _ (λ b. refl)) (λ nack.
    pick (is_of_kind BASIC_QOS q) (plain n k c _ (λ b. refl)) (λ qos.
    pick (is_of_kind BASIC_CANCEL q) (plain n k c _ (λ b. refl)) (λ cancel.
    pick (is_of_kind BASIC_RECOVER q) (plain n k c _ (λ b. refl)) (λ recover.
    pick (is_of_kind BASIC_RECOVER_ASYNC q) (plain n k c _ (λ b. refl)) (λ again.
    pick (is_of_kind BASIC_PUBLISH q) (record { long = refl; is = λ less. refl }) (λ publish.
    freed (is_answer q args (done opens) flow queue qos recover again close exchange consume get cancel publish ack reject nack select)))))))))))))))))
  where
    pick : (b : Bool) {x y : machine.Step} → Opens n c x → (b ≡ false → Opens n c y) → Opens n c (cond {A = machine.Step} b x y)
    pick true this other = this
    pick false this other = other refl

    opened : Opens n c (with_channel c k channel.Open, want.Method k method.ChannelOpen)
    opened = record {
      long = set_long c.channels k channel.Open;
      is = λ less. with_opens k n c channel.Open less ∙ ap (λ (b : Bool). if k == n then b && true else is_open c n) runs;
    }

    ended : Opens n c (with_channel c k (closed_by (channel_at c k)), want.Method k (close_of args))
    ended = record {
      long = set_long c.channels k _;
      is = λ less. with_opens k n c _ less
          ∙ ap (λ (b : Bool). if k == n then b else is_open c n) (both_false (is_running c.phase) _ (closed_shut (channel_at c k)));
    }

    freed : is_of_kind CHANNEL_CLOSE_OK q ≡ true → Opens n c (with_channel c k channel.Free, want.ChannelCloseOk k)
    freed ok = record { long = set_long c.channels k _; is = λ less. stays_shut k n c channel.Free less (answers ok) refl }

-- ---- any frame of a connection that runs

state_none : (c : Connection) (f : Frame91) (read : Read) → first (places c f read frame.Method) ≡ None → state_place c f.channel read frame.Method ≡ None
state_none c f read e =
    let a = rest_none (order_place c f read frame.Method) _ e in
    let b = rest_none (channel_place c f frame.Method) _ a in
    let d = rest_none (closing_place c f frame.Method) _ b in
    let g = rest_none (content_place c f frame.Method) _ d in
    let h = rest_none (reading_place c f read frame.Method) _ g in
    first_none _ _ h

method_opens_by : (n : ℕ) (c : Connection) (f : Frame91) (read : Read) → is_running c.phase ≡ true → first (places c f read frame.Method) ≡ None
    → Opens n c (method_effect c f.channel read)
method_opens_by n c f (Err e) runs none = record { long = refl; is = λ less. refl }
method_opens_by n c f (Ok m) runs none =
    subst (λ (b : Bool). Opens n c (cond {A = machine.Step} b (running_effect c f.channel m.0 m.1) (opening_effect c m.1 c.phase))) (sym runs) (by (eqb f.channel 0) refl)
  where
    state : running_state (channel_at c f.channel) f.channel m.0 ≡ None
    state = sym (ap (λ (b : Bool). cond {A = Option Ruling} b (running_state (channel_at c f.channel) f.channel m.0) None) runs) ∙ state_none c f (Ok m) none

    own : running_refusal c.carried_max f.channel m.0 m.1 ≡ None
    own =
        sym (ap (λ (b : Bool). cond {A = Option Ruling} b (running_refusal c.carried_max f.channel m.0 m.1) (opening_refusal c m.1)) runs)
        ∙ (none_of_method c f (Ok m) none).own

    done : eqb f.channel 0 ≡ false → is_of_kind CHANNEL_OPEN m.0 ≡ false → is_done m.0 m.1 ≡ true
    done z e = at (eqb f.channel 0) (is_of_kind CHANNEL_OPEN m.0) (is_done m.0 m.1) z e own
      where
        at : (a b d : Bool) → a ≡ false → b ≡ false
            → cond {A = Option Ruling} a None (cond {A = Option Ruling} b (carried_order c.carried_max f.channel) (cond {A = Option Ruling} d None (refused NOT_IMPLEMENTED))) ≡ None → d ≡ true
        at true b d x y g = absurd cc
        at false true d x y g = absurd cc
        at false false true x y g = refl
        at false false false x y g = absurd cc

    by : (b : Bool) → eqb f.channel 0 ≡ b
        → Opens n c (cond {A = machine.Step} b (record c { phase = phase.Closed; contents = no_contents }, want.Close) (channel_effect c f.channel m.0 m.1))
    by true z = shuts n c _ want.Close refl refl (λ b. refl)
    by false z = channel_opens n f.channel c m.0 m.1 runs (done z) (λ ok. answer_shut (channel_at c f.channel) f.channel m.0 z ok state)

content_opens : (n k : ℕ) (c : Connection) (o : Option Incoming) (t : Taking) → Opens n c (content_effect c k o t)
content_opens n k c None t = record { long = refl; is = λ less. refl }
content_opens n k c (Some i) (Err e) = record { long = refl; is = λ less. refl }
content_opens n k c (Some i) (Ok (a, step.More)) = record { long = refl; is = λ less. refl }
content_opens n k c (Some i) (Ok (a, step.Whole d)) = record { long = refl; is = λ less. refl }

frame_opens : (n : ℕ) (c : Connection) (f : Frame91) → is_running c.phase ≡ true → unit_ruling c (unit.Frame f) ≡ None → Opens n c (unit_effect c (unit.Frame f))
frame_opens n c f runs none = by f.kind none
  where
    by : (k : Kind91) → first (places c f (method_in f.payload) k) ≡ None → Opens n c (frame_effect c f.channel f.payload k)
    by frame.Method e = method_opens_by n c f (method_in f.payload) runs e
    by frame.Header e = content_opens n f.channel c _ _
    by frame.Body e = content_opens n f.channel c _ _
    by frame.Heartbeat e = record { long = refl; is = λ less. refl }

ordered_opens : (n : ℕ) (c : Connection) (u : Unit91) → is_running c.phase ≡ true → Opens n c (ordered_step c u)
ordered_opens n c u runs = by (unit_ruling c u) refl
  where
    effect : (u : Unit91) → unit_ruling c u ≡ None → Opens n c (unit_effect c u)
    effect unit.Protocol e = absurd cc
    effect (unit.Bad code) e = absurd cc
    effect (unit.Frame f) e = frame_opens n c f runs e

    by : (r : Option Ruling) → unit_ruling c u ≡ r → Opens n c (ruled_step c u r)
    by None e = effect u e
    by (Some ruling.PassedOver) e = record { long = refl; is = λ less. refl }
    by (Some (ruling.Refused code)) e = shuts n c _ _ refl refl (refuses_all n (refusal_of code u) (of_unit code u))
    by (Some (ruling.MethodRefused code)) e = shuts n c _ _ refl refl (refuses_all n (publish_refusal code) refl)
    by (Some (ruling.ChannelRefused code)) e =
        record { long = closing_long (channel_of u) c; is = λ less. closing_opens (channel_of u) n c less }

pub unit_opens : (n : ℕ) (c : Connection) (u : Unit91) → Opens n c (unit_step c u)
unit_opens n c u = by (is_running c.phase) refl
  where
    runs_phase : (p : Phase91) → is_running p ≡ true → p ≡ phase.Running
    runs_phase phase.Header e = absurd cc
    runs_phase phase.Start e = absurd cc
    runs_phase phase.Tune e = absurd cc
    runs_phase phase.Open e = absurd cc
    runs_phase phase.Running e = refl
    runs_phase phase.Closing e = absurd cc
    runs_phase phase.Closed e = absurd cc

    by : (b : Bool) → is_running c.phase ≡ b → Opens n c (unit_step c u)
    by false e = idle_opens n c u e
    by true e = subst (λ (p : Phase91). Opens n c (step_in p c u)) (sym (runs_phase c.phase e)) (ordered_opens n c u e)
