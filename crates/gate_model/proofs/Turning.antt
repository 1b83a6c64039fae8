-- What a unit of the client makes of the state of a channel; and one that opens a channel finds it free.
use Rattle.std.proofs.Common.{◌≡◌, ◌≢◌, ◌⊎◌, inl, inr, ℕ, zero, suc, ◌==◌, ◌<◌, ◌&&◌, ◌||◌, cond, eqb, nat_lt, Bool, true, false, if◌then◌else◌}
use Rattle.std.proofs.Common.{List, [], ◌∷◌, length, Option, None, Some, Ok, Err, refl, sym, ap, ◌∙◌, subst, arith}
use Rattle.std.proofs.lemmas.Bool.{eqb-true}
use Rattle.std.proofs.lemmas.Bool.Decides.{nat_tests}
use Rattle.std.specs.Prelude.{slice_get, slice_set}
use Rattle.close_translate.specs.declared.codes.TheConstants.{CHANNEL_ERROR, NOT_ALLOWED}
use Rattle.close_translate.specs.declared.conditions.Scope.TheVariants as scope
use Rattle.content_091.specs.declared.assembly.Step.TheVariants as step
use Rattle.frames_091.specs.declared.frame.Frame91.{Frame91}
use Rattle.frames_091.specs.declared.frame.Kind91.{Kind91}
use Rattle.frames_091.specs.declared.frame.Kind91.TheVariants as frame
use Rattle.machine_091.specs.Calls.{after_closing, closing_channel}
use Rattle.machine_091.specs.Contents.{Taking, begun, no_contents}
use Rattle.machine_091.specs.Ids.{class_in, has_ids, id_in, is_in, is_of_kind}
use Rattle.machine_091.specs.Methods.{ack_of, cancel_of, close_of, consume_of, declare_of, flow_of, get_of, nack_of, publish_of, qos_of, queue_declare_of}
use Rattle.machine_091.specs.Methods.{recover_async_of, recover_of, reject_of, select_of}
use Rattle.machine_091.specs.Refusals.{places, publish_refusal, refusal_of, refusal_with, unit_ruling}
use Rattle.machine_091.specs.Refusals as machine_refusals
use Rattle.machine_091.specs.RefusalsFrames.{channel_order, closing_order, first, passed_over, refused, state_order}
use Rattle.machine_091.specs.State.{channel_at, is_running, or_free, with_channel, with_content}
use Rattle.machine_091.specs.Transitions.{channel_effect, closed_by, closed_step, content_effect, frame_effect, header_step, is_unit_of, method_effect}
use Rattle.machine_091.specs.Transitions.{opening_effect, ordered_step, ruled_step, step_in, unit_effect, unit_step, with_stream}
use Rattle.machine_091.specs.Transitions as machine
use Rattle.machine_091.specs.declared.contents.Incoming.{Incoming}
use Rattle.machine_091.specs.declared.state.Channel91.{Channel91}
use Rattle.machine_091.specs.declared.state.Channel91.TheVariants as channel
use Rattle.machine_091.specs.declared.state.Connection.{Connection}
use Rattle.machine_091.specs.declared.state.Phase91.{Phase91}
use Rattle.machine_091.specs.declared.state.Phase91.TheVariants as phase
use Rattle.machine_091.specs.declared.state.Stream91.TheVariants as stream
use Rattle.machine_091.specs.declared.unit.Refusal.{Refusal}
use Rattle.machine_091.specs.declared.unit.Ruling.{Ruling}
use Rattle.machine_091.specs.declared.unit.Ruling.TheVariants as ruling
use Rattle.machine_091.specs.declared.unit.Unit91.{Unit91}
use Rattle.machine_091.specs.declared.unit.Unit91.TheVariants as unit
use Rattle.machine_091.specs.declared.unit.Want91.{Want91}
use Rattle.machine_091.specs.declared.unit.Want91.TheVariants as want
use Rattle.machine_091.proofs.IdLaws.{ids_known}
use Rattle.machine_091.proofs.Places.{NoneOfMethod, none_of_method}
use Rattle.methods_091.specs.Arguments.{Arg}
use Rattle.methods_091.specs.Reading.{Read, method_in}
use Rattle.methods_091.specs.Rows.{Kind, class_of, id_of}
use Rattle.methods_091.specs.View.{kind_of}
use Rattle.methods_091.specs.declared.method.Method91.{Method91}
use Rattle.methods_091.specs.declared.method.Method91.TheVariants as method
use Rattle.session_path.specs.Path.{PathState}
use Rattle.gate_model.specs.Lives.{is_of_channel}
use Rattle.gate_model.specs.Once.{is_channel_open, is_method_on}
use Rattle.gate_model.specs.Paths.{path_at}
use Rattle.gate_model.specs.Queue.{channel_of, is_beat, waits_for_all}
use Rattle.gate_model.specs.Requests.{client_step, message_of, method_fault, publish_fault, refusal_of_want, refused_by, refused_for}
use Rattle.gate_model.specs.declared.setup.Route.{Route}
use Rattle.gate_model.proofs.Basics.{and_left, and_right}
use Rattle.gate_model.proofs.Outcomes.{of_unit}
use Rattle.gate_model.proofs.Places.{isnt, itself, same_or_not}

-- ---- the states of channels

abbrev pub method_turns : Method91 → Channel91 → Channel91
method_turns method.ChannelOpen s = channel.Open
method_turns (method.ChannelClose code text class id) s = closed_by s
method_turns m s = s

-- a refusal closes one that is open
abbrev pub refused_turns : Channel91 → Channel91
refused_turns channel.Free = channel.Free
refused_turns channel.Open = channel.Closing
refused_turns channel.Closing = channel.Closing
refused_turns channel.Told = channel.Told

-- that of channel n after what a unit wants
abbrev pub turned_by : ℕ → Want91 → Channel91 → Channel91
turned_by n (want.Method k m) s = if k == n then method_turns m s else s
turned_by n (want.ChannelCloseOk k) s = if k == n then channel.Free else s
turned_by n (want.Refuse r) s = if is_of_channel r then (if r.channel == n then refused_turns s else s) else s
turned_by n x s = s

pub with_turns : (k n : ℕ) (c : Connection) (s : Channel91) → n < length c.channels → channel_at (with_channel c k s) n ≡ (if k == n then s else channel_at c n)
with_turns k n c s less = by (same_or_not k n)
  where
    here : (cs : List Channel91) (m : ℕ) → m < length cs → or_free (slice_get (slice_set cs m s) m) ≡ s
    here [] m e = absurd (omega (arith, e))
    here (x ∷ cs) zero e = refl
    here (x ∷ cs) (suc m) e = here cs m (omega (arith, e))

    elsewhere : (cs : List Channel91) (i m : ℕ) → i ≢ m → or_free (slice_get (slice_set cs i s) m) ≡ or_free (slice_get cs m)
    elsewhere [] i m d = refl
    elsewhere (x ∷ cs) zero zero d = absurd (d refl)
    elsewhere (x ∷ cs) zero (suc m) d = refl
    elsewhere (x ∷ cs) (suc i) zero d = refl
    elsewhere (x ∷ cs) (suc i) (suc m) d = elsewhere cs i m (λ e. d (ap suc e))

    by : (k ≡ n) ⊎ (k ≢ n) → channel_at (with_channel c k s) n ≡ (if k == n then s else channel_at c n)
    by (inl e) =
        ap (λ (i : ℕ). or_free (slice_get (slice_set c.channels i s) n)) e ∙ here c.channels n less
        ∙ sym (ap (λ (b : Bool). if b then s else channel_at c n) (ap (λ (i : ℕ). i == n) e ∙ itself n))
    by (inr d) = elsewhere c.channels k n d ∙ sym (ap (λ (b : Bool). if b then s else channel_at c n) (isnt k n d))

-- where the test of the numbers decides
if_here : (k n : ℕ) (x y z : Channel91) → (k ≡ n → x ≡ y) → (if k == n then x else z) ≡ (if k == n then y else z)
if_here k n x y z f = by (k == n) refl
  where
    by : (b : Bool) → (k == n) ≡ b → (if b then x else z) ≡ (if b then y else z)
    by true e = f (let same : k ≡ n = grind (arith, nat_tests, e) in same)
    by false e = refl

if_same : (b : Bool) (x : Channel91) → x ≡ (if b then x else x)
if_same true x = refl
if_same false x = refl

pub closing_turns : (k n : ℕ) (c : Connection) → n < length c.channels
    → channel_at (after_closing scope.Channel k c) n ≡ (if k == n then refused_turns (channel_at c n) else channel_at c n)
closing_turns k n c less = by (channel_at c k) refl
  where
    other : (s : Channel91) → channel_at c k ≡ s → refused_turns s ≡ s → channel_at c n ≡ (if k == n then refused_turns (channel_at c n) else channel_at c n)
    other s e f =
        if_same (k == n) (channel_at c n)
        ∙ if_here k n (channel_at c n) (refused_turns (channel_at c n)) (channel_at c n)
        (λ i. let is : channel_at c n ≡ s = ap (channel_at c) (sym i) ∙ e in is ∙ sym f ∙ sym (ap refused_turns is))

    by : (s : Channel91) → channel_at c k ≡ s → channel_at (closing_channel s k c) n ≡ (if k == n then refused_turns (channel_at c n) else channel_at c n)
    by channel.Free e = other channel.Free e refl
    by channel.Open e =
        with_turns k n c channel.Closing less
        ∙ if_here k n channel.Closing (refused_turns (channel_at c n)) (channel_at c n) (λ i. sym (ap refused_turns (ap (channel_at c) (sym i) ∙ e)))
    by channel.Closing e = other channel.Closing e refl
    by channel.Told e = other channel.Told e refl

-- ---- a unit

-- the ids of methods (AMQP 0-9-1 1.4 and 1.5)
abbrev Ids : Type 0
Ids = ℕ × ℕ

abbrev connection_close : Ids
connection_close = (10, 50)

abbrev connection_close_ok : Ids
connection_close_ok = (10, 51)

abbrev channel_open : Ids
channel_open = (20, 10)

abbrev channel_close : Ids
channel_close = (20, 40)

abbrev channel_close_ok : Ids
channel_close_ok = (20, 41)

-- a channel.open is a frame of its channel, which is free, and the connection runs
pub record Finds (c : Connection) (u : Unit91) (n : ℕ) : Type 0 where
  pub of : channel_of u ≡ n
  pub alone : waits_for_all u ≡ false
  pub runs : is_running c.phase ≡ true
  pub free : channel_at c n ≡ channel.Free

pub record Turns (n : ℕ) (c : Connection) (u : Unit91) (x : machine.Step) : Type 0 where
  pub long : length x.0.channels ≡ length c.channels
  pub is : n < length c.channels → channel_at x.0 n ≡ turned_by n x.1 (channel_at c n)
  pub opens : is_method_on is_channel_open n x.1 ≡ true → Finds c u n

-- what leaves the channels
quiet : (n : ℕ) (c d : Connection) (u : Unit91) (y : Want91) → d.channels ≡ c.channels → ((s : Channel91) → turned_by n y s ≡ s) → is_method_on is_channel_open n y ≡ false
    → Turns n c u (d, y)
quiet n c d u y e keeps none = record {
  long = ap length e;
  is = λ less. ap (λ (cs : List Channel91). or_free (slice_get cs n)) e ∙ sym (keeps (channel_at c n));
  opens = λ f. absurd (let wrong : true ≡ false = sym f ∙ none in cc);
}

set_long : (cs : List Channel91) (k : ℕ) (s : Channel91) → length (slice_set cs k s) ≡ length cs
set_long [] k s = refl
set_long (x ∷ cs) zero s = refl
set_long (x ∷ cs) (suc k) s = ap suc (set_long cs k s)

closing_long : (k : ℕ) (c : Connection) → length (after_closing scope.Channel k c).channels ≡ length c.channels
closing_long k c = by (channel_at c k)
  where
    by : (s : Channel91) → length (closing_channel s k c).channels ≡ length c.channels
    by channel.Free = refl
    by channel.Open = set_long c.channels k channel.Closing
    by channel.Closing = refl
    by channel.Told = refl

no_open : (a : Bool) → (a && false) ≡ false
no_open true = refl
no_open false = refl

-- a method that neither opens nor ends its channel
plain : (n k : ℕ) (c : Connection) (u : Unit91) (m : Method91) → ((s : Channel91) → method_turns m s ≡ s) → is_channel_open m ≡ false → Turns n c u (c, want.Method k m)
plain n k c u m keeps none =
    quiet n c c u (want.Method k m) refl
    (λ s. ap (λ (t : Channel91). if k == n then t else s) (keeps s) ∙ sym (if_same (k == n) s))
    (ap (λ (b : Bool). k == n && b) none ∙ no_open (k == n))

-- a channel.open counts on a channel that is free
free_here : (c : Connection) (n : ℕ) → eqb n 0 ≡ false → channel_order c n true ≡ None → closing_order c n false false ≡ None → channel_at c n ≡ channel.Free
free_here c n z e k = by (eqb n 0) (nat_lt c.limits.channel_max n) (channel_at c n) z e k
  where
    by : (zero above : Bool) (s : Channel91) → zero ≡ false
        → cond {A = Option Ruling} zero None (cond {A = Option Ruling} above (refused CHANNEL_ERROR) (state_order s true)) ≡ None
        → cond {A = Option Ruling} zero None (passed_over s false false) ≡ None → s ≡ channel.Free
    by true above s z e k = absurd cc
    by false true s z e k = absurd cc
    by false false channel.Free z e k = refl
    by false false channel.Open z e k = absurd cc
    by false false channel.Closing z e k = absurd cc
    by false false channel.Told z e k = absurd cc

of_kind : (q : Ids) (k : Kind) → is_of_kind q k ≡ true → (class_of k ≡ q.0) × (id_of k ≡ q.1)
of_kind q k e =
    (eqb-true (class_of k) q.0 (and_left (eqb (class_of k) q.0) _ e), eqb-true (id_of k) q.1 (and_right (eqb (class_of k) q.0) _ e))

finds : (c : Connection) (f : Frame91) (k : Kind) (args : List Arg) → is_running c.phase ≡ true → f.kind ≡ frame.Method → eqb f.channel 0 ≡ false
    → method_in f.payload ≡ Ok (k, args) → NoneOfMethod c f (Ok (k, args)) → is_of_kind channel_open k ≡ true → Finds c (unit.Frame f) f.channel
finds c f k args runs kind z read none e = record {
  of = refl;
  alone = ap (λ (b : Bool). b || is_beat f.kind) z ∙ ap is_beat kind;
  runs = runs;
  free = free_here c f.channel z
      (ap (channel_order c f.channel) (sym (named channel_open)) ∙ none.channel)
      (ap (λ (b : Bool). closing_order c f.channel b false) (sym (named channel_close))
      ∙ ap (closing_order c f.channel (is_in channel_close f.payload)) (sym (named channel_close_ok)) ∙ none.closing);
}
  where
    ids : (class_in f.payload ≡ class_of k) × (id_in f.payload ≡ id_of k)
    ids = ids_known f.payload k args read

    named : (q : Ids) → is_in q f.payload ≡ has_ids q 20 10
    named q =
        ap (λ (x : ℕ). has_ids q x (id_in f.payload)) (ids.0 ∙ (of_kind channel_open k e).0)
        ∙ ap (has_ids q 20) (ids.1 ∙ (of_kind channel_open k e).1)

channel_turns : (n : ℕ) (c : Connection) (u : Unit91) (k : ℕ) (q : Kind) (args : List Arg) → (is_of_kind channel_open q ≡ true → Finds c u k) → Turns n c u (channel_effect c k q args)
channel_turns n c u k q args found =
    pick (is_of_kind channel_open q) opened
    (pick (is_of_kind channel_close q) (λ e. ended)
    (pick (is_of_kind (20, 20) q) (λ e. plain n k c u (flow_of args) (λ s. refl) refl)
    (pick (is_of_kind (40, 10) q) (λ e. plain n k c u (declare_of args) (λ s. refl) refl)
    (pick (is_of_kind (50, 10) q) (λ e. plain n k c u (queue_declare_of args) (λ s. refl) refl)
    (pick (is_of_kind (85, 10) q) (λ e. plain n k c u (select_of args) (λ s. refl) refl)
    (pick (is_of_kind (60, 20) q) (λ e. plain n k c u (consume_of args) (λ s. refl) refl)
    (pick (is_of_kind (60, 70) q) (λ e. plain n k c u (get_of args) (λ s. refl) refl)
    (pick (is_of_kind (60, 80) q) (λ e. plain n k c u (ack_of args) (λ s. refl) refl)
    (pick (is_of_kind (60, 90) q) (λ e. plain n k c u (reject_of args) (λ s. refl) refl)
    (pick (is_of_kind (60, 120) q) (λ e. plain n k c u (nack_of args) (λ s. refl) refl)
    (pick (is_of_kind (60, 10) q) (λ e. plain n k c u (qos_of args) (λ s. refl) refl)
    (pick (is_of_kind (60, 30) q) (λ e. plain n k c u (cancel_of args) (λ s. refl) refl)
    (pick (is_of_kind (60, 110) q) (λ e. plain n k c u (recover_of args) (λ s. refl) refl)
    (pick (is_of_kind (60, 100) q) (λ e. plain n k c u (recover_async_of args) (λ s. refl) refl)
    (pick (is_of_kind (60, 40) q) (λ e. quiet n c (with_content c k (Some (begun (publish_of args)))) u want.Nothing refl (λ s. refl) refl) freed)))))))))))))))
  where
    pick : (b : Bool) {x y : machine.Step} → (b ≡ true → Turns n c u x) → Turns n c u y → Turns n c u (cond {A = machine.Step} b x y)
    pick true this other = this refl
    pick false this other = other

    opened : is_of_kind channel_open q ≡ true → Turns n c u (with_channel c k channel.Open, want.Method k method.ChannelOpen)
    opened e = record {
      long = set_long c.channels k channel.Open;
      is = λ less. with_turns k n c channel.Open less;
      opens = λ f. let here : (k == n) ≡ true = and_left (k == n) _ f in
          let same : k ≡ n = grind (arith, nat_tests, here) in subst (Finds c u) same (found e);
    }

    ended : Turns n c u (with_channel c k (closed_by (channel_at c k)), want.Method k (close_of args))
    ended = record {
      long = set_long c.channels k _;
      is = λ less. with_turns k n c (closed_by (channel_at c k)) less
          ∙ if_here k n (closed_by (channel_at c k)) (closed_by (channel_at c n)) (channel_at c n) (λ i. ap (λ (j : ℕ). closed_by (channel_at c j)) i);
      opens = λ f. absurd (let wrong : true ≡ false = sym f ∙ no_open (k == n) in cc);
    }

    freed : Turns n c u (with_channel c k channel.Free, want.ChannelCloseOk k)
    freed = record { long = set_long c.channels k _; is = λ less. with_turns k n c channel.Free less; opens = λ f. absurd cc }

opening_turns : (n : ℕ) (c : Connection) (u : Unit91) (args : List Arg) (p : Phase91) → Turns n c u (opening_effect c args p)
opening_turns n c u args phase.Header = quiet n c _ u _ refl (λ s. refl) refl
opening_turns n c u args phase.Start = quiet n c _ u _ refl (λ s. refl) refl
opening_turns n c u args phase.Tune = quiet n c _ u _ refl (λ s. refl) refl
opening_turns n c u args phase.Open = quiet n c _ u _ refl (λ s. refl) refl
opening_turns n c u args phase.Running = quiet n c _ u _ refl (λ s. refl) refl
opening_turns n c u args phase.Closing = quiet n c _ u _ refl (λ s. refl) refl
opening_turns n c u args phase.Closed = quiet n c _ u _ refl (λ s. refl) refl

method_turned : (n : ℕ) (c : Connection) (f : Frame91) (read : Read) → f.kind ≡ frame.Method → method_in f.payload ≡ read → first (places c f read frame.Method) ≡ None
    → Turns n c (unit.Frame f) (method_effect c f.channel read)
method_turned n c f (Err e) kind same none = quiet n c _ _ _ refl (λ s. refl) refl
method_turned n c f (Ok (k, args)) kind same none = by (is_running c.phase) refl (eqb f.channel 0) refl
  where
    by : (b : Bool) → is_running c.phase ≡ b → (z : Bool) → eqb f.channel 0 ≡ z
        → Turns n c (unit.Frame f) (cond b (cond z (record c { phase = phase.Closed; contents = no_contents }, want.Close) (channel_effect c f.channel k args)) (opening_effect c args c.phase))
    by true runs true z = quiet n c _ _ _ refl (λ s. refl) refl
    by true runs false z = channel_turns n c (unit.Frame f) f.channel k args (finds c f k args runs kind z same (none_of_method c f (Ok (k, args)) none))
    by false runs z y = opening_turns n c (unit.Frame f) args c.phase

content_turns : (n : ℕ) (c : Connection) (u : Unit91) (k : ℕ) (o : Option Incoming) (t : Taking) → Turns n c u (content_effect c k o t)
content_turns n c u k None t = quiet n c _ u _ refl (λ s. refl) refl
content_turns n c u k (Some i) (Err x) = quiet n c _ u _ refl (λ s. refl) refl
content_turns n c u k (Some i) (Ok (x, step.More)) = quiet n c _ u _ refl (λ s. refl) refl
content_turns n c u k (Some i) (Ok (x, step.Whole d)) = quiet n c _ u _ refl (λ s. refl) refl

frame_turns : (n : ℕ) (c : Connection) (f : Frame91) → unit_ruling c (unit.Frame f) ≡ None → Turns n c (unit.Frame f) (unit_effect c (unit.Frame f))
frame_turns n c f none = by f.kind refl none
  where
    by : (k : Kind91) → f.kind ≡ k → first (places c f (method_in f.payload) k) ≡ None → Turns n c (unit.Frame f) (frame_effect c f.channel f.payload k)
    by frame.Method kind e = method_turned n c f (method_in f.payload) kind refl e
    by frame.Header kind e = content_turns n c (unit.Frame f) f.channel _ _
    by frame.Body kind e = content_turns n c (unit.Frame f) f.channel _ _
    by frame.Heartbeat kind e = quiet n c _ _ _ refl (λ s. refl) refl

-- a refusal of the connection
refuses_all : (n : ℕ) (r : Refusal) → is_of_channel r ≡ false → (s : Channel91) → turned_by n (want.Refuse r) s ≡ s
refuses_all n r e s = ap (λ (b : Bool). if b then (if r.channel == n then refused_turns s else s) else s) e

ordered_turns : (n : ℕ) (c : Connection) (u : Unit91) → Turns n c u (ordered_step c u)
ordered_turns n c u = by (unit_ruling c u) refl
  where
    effect : (v : Unit91) → unit_ruling c v ≡ None → Turns n c v (unit_effect c v)
    effect unit.Protocol e = absurd cc
    effect (unit.Bad code) e = absurd cc
    effect (unit.Frame f) e = frame_turns n c f e

    by : (r : Option Ruling) → unit_ruling c u ≡ r → Turns n c u (ruled_step c u r)
    by None e = effect u e
    by (Some ruling.PassedOver) e = quiet n c _ u _ refl (λ s. refl) refl
    by (Some (ruling.Refused code)) e = quiet n c _ u (want.Refuse (refusal_of code u)) refl (refuses_all n (refusal_of code u) (of_unit code u)) refl
    by (Some (ruling.MethodRefused code)) e = quiet n c _ u (want.Refuse (publish_refusal code)) refl (refuses_all n (publish_refusal code) refl) refl
    by (Some (ruling.ChannelRefused code)) e = record {
      long = closing_long (machine_refusals.channel_of u) c;
      is = λ less. closing_turns (machine_refusals.channel_of u) n c less;
      opens = λ f. absurd cc;
    }

closed_turns : (n : ℕ) (c : Connection) (u : Unit91) → Turns n c u (closed_step c u)
closed_turns n c u = by (is_unit_of connection_close_ok u)
  where
    by : (b : Bool) → Turns n c u (cond {A = machine.Step} b (record c { phase = phase.Closed; stream = stream.Answered }, want.CloseOk) (with_stream u c, want.Nothing))
    by true = quiet n c _ u _ refl (λ s. refl) refl
    by false = quiet n c _ u _ refl (λ s. refl) refl

unit_turns : (n : ℕ) (c : Connection) (u : Unit91) → Turns n c u (unit_step c u)
unit_turns n c u = by c.phase
  where
    header : (v : Unit91) → Turns n c v (header_step c v)
    header unit.Protocol = quiet n c _ _ _ refl (λ s. refl) refl
    header (unit.Frame f) = quiet n c _ _ _ refl (λ s. refl) refl
    header (unit.Bad code) = quiet n c _ _ _ refl (λ s. refl) refl

    closing : (b : Bool) → Turns n c u (cond {A = machine.Step} b (record c { phase = phase.Closed }, want.Close) (closed_step c u))
    closing true = quiet n c _ u _ refl (λ s. refl) refl
    closing false = closed_turns n c u

    by : (p : Phase91) → Turns n c u (step_in p c u)
    by phase.Header = header u
    by phase.Start = ordered_turns n c u
    by phase.Tune = ordered_turns n c u
    by phase.Open = ordered_turns n c u
    by phase.Running = ordered_turns n c u
    by phase.Closing = closing (is_unit_of connection_close u)
    by phase.Closed = closed_turns n c u

-- ---- and where the gateway refuses it

-- a request with a fault leaves its channel open until it is refused
refused_request : (n : ℕ) (c d : Connection) (u : Unit91) (k : ℕ) (m : Method91) (y : Want91) (o : Option ℕ) → ((s : Channel91) → turned_by n y s ≡ s)
    → Turns n c u (d, y) → Turns n c u (refused_by (refused_for k m o) (d, y))
refused_request n c d u k m y None keeps t = t
refused_request n c d u k m y (Some code) keeps t = by (code == NOT_ALLOWED)
  where
    same : n < length c.channels → channel_at d n ≡ channel_at c n
    same less = t.is less ∙ keeps (channel_at c n)

    by : (b : Bool) → Turns n c u (refused_by (Some (if b then refusal_with code (class_of (kind_of m)) (id_of (kind_of m)) else record {
      code = code;
      scope = scope.Channel;
      channel = k;
      class = class_of (kind_of m);
      method = id_of (kind_of m);
    })) (d, y))
    by true = record { long = t.long; is = same; opens = λ f. absurd cc }
    by false = record {
      long = closing_long k d ∙ t.long;
      is = λ less. closing_turns k n d (subst (λ (l : ℕ). n < l) (sym t.long) less)
          ∙ ap (λ (s : Channel91). if k == n then refused_turns s else s) (same less);
      opens = λ f. absurd cc;
    }

pub client_turns : (n : ℕ) (rs : List Route) (ps : List (Option PathState)) (c : Connection) (u : Unit91) → Turns n c u (client_step rs ps c u)
client_turns n rs ps c u = by (unit_step c u) (unit_turns n c u)
  where
    kept : (k : ℕ) (s : Channel91) → (if k == n then s else s) ≡ s
    kept k s = sym (if_same (k == n) s)

    by : (x : machine.Step) → Turns n c u x → Turns n c u (refused_by (refusal_of_want rs ps x.1) x)
    by (d, want.Method k method.ChannelOpen) t = t
    by (d, want.Method k (method.ChannelClose code text class id)) t = t
    by (d, want.Method k m) t = refused_request n c d u k m (want.Method k m) (method_fault rs (path_at ps k) m) (kept k) t
    by (d, want.Publish k m b) t = refused_request n c d u k m (want.Publish k m b) (publish_fault rs (message_of m b)) (λ s. refl) t
    by (d, y) t = t
