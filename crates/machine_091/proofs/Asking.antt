-- A request is passed on where its channel is open.
use Rattle.std.proofs.Common.{◌≡◌, ℕ, ◌==◌, ◌&&◌, eqb, cond, if◌then◌else◌, Bool, true, false, List}
use Rattle.std.proofs.Common.{[], ◌∷◌, Option, None, Some, Ok, Err, refl, sym, ap, ◌∙◌, subst}
use Rattle.std.proofs.lemmas.Bool.{eqb-true}
use Rattle.close_translate.specs.declared.codes.TheConstants.{CHANNEL_ERROR}
use Rattle.content_091.specs.declared.assembly.Step.TheVariants as step
use Rattle.frames_091.specs.declared.frame.Frame91.{Frame91}
use Rattle.frames_091.specs.declared.frame.Kind91.{Kind91}
use Rattle.frames_091.specs.declared.frame.Kind91.TheVariants as frame
use Rattle.machine_091.specs.Contents.{Taking, no_contents, taken}
use Rattle.machine_091.specs.Ids.{class_in, has_ids, id_in, is_in, is_of_kind}
use Rattle.machine_091.specs.Methods.{ack_of, cancel_of, close_of, consume_of, declare_of, flow_of}
use Rattle.machine_091.specs.Methods.{get_of, nack_of, qos_of, queue_declare_of, recover_async_of}
use Rattle.machine_091.specs.Methods.{recover_of, reject_of, select_of}
use Rattle.machine_091.specs.Refusals.{places, unit_ruling}
use Rattle.machine_091.specs.RefusalsFrames.{channel_order, closing_order, content_order, first}
use Rattle.machine_091.specs.RefusalsFrames.{is_closing, refused}
use Rattle.machine_091.specs.State.{content_at, is_open, is_running}
use Rattle.machine_091.specs.Transitions.{channel_effect, closed_step, closing_step, content_effect}
use Rattle.machine_091.specs.Transitions.{frame_effect, header_step, is_unit_of, method_effect}
use Rattle.machine_091.specs.Transitions.{opening_effect, ordered_step, ruled_step}
use Rattle.machine_091.specs.Transitions.{step_in, unit_effect, unit_step}
use Rattle.machine_091.specs.Transitions as machine
use Rattle.machine_091.specs.declared.contents.Incoming.{Incoming}
use Rattle.machine_091.specs.declared.ids.TheConstants.{BASIC_ACK, BASIC_CANCEL, BASIC_CONSUME}
use Rattle.machine_091.specs.declared.ids.TheConstants.{BASIC_GET, BASIC_NACK, BASIC_PUBLISH}
use Rattle.machine_091.specs.declared.ids.TheConstants.{BASIC_QOS, BASIC_RECOVER}
use Rattle.machine_091.specs.declared.ids.TheConstants.{BASIC_RECOVER_ASYNC, BASIC_REJECT}
use Rattle.machine_091.specs.declared.ids.TheConstants.{CHANNEL_CLOSE, CHANNEL_CLOSE_OK}
use Rattle.machine_091.specs.declared.ids.TheConstants.{CHANNEL_FLOW, CHANNEL_OPEN}
use Rattle.machine_091.specs.declared.ids.TheConstants.{CONFIRM_SELECT, CONNECTION_CLOSE}
use Rattle.machine_091.specs.declared.ids.TheConstants.{CONNECTION_CLOSE_OK, EXCHANGE_DECLARE}
use Rattle.machine_091.specs.declared.ids.TheConstants.{QUEUE_DECLARE}
use Rattle.machine_091.specs.declared.state.Connection.{Connection}
use Rattle.machine_091.specs.declared.state.Phase91.{Phase91}
use Rattle.machine_091.specs.declared.state.Phase91.TheVariants as phase
use Rattle.machine_091.specs.declared.unit.Ruling.{Ruling}
use Rattle.machine_091.specs.declared.unit.Ruling.TheVariants as ruling
use Rattle.machine_091.specs.declared.unit.Unit91.{Unit91}
use Rattle.machine_091.specs.declared.unit.Unit91.TheVariants as unit
use Rattle.machine_091.specs.declared.unit.Want91.{Want91}
use Rattle.machine_091.specs.declared.unit.Want91.TheVariants as want
use Rattle.machine_091.proofs.IdLaws.{ids_known}
use Rattle.machine_091.proofs.Places.{IsOnOpen, NoneOfMethod, content_open, none_of_method}
use Rattle.methods_091.specs.Arguments.{Arg}
use Rattle.methods_091.specs.Reading.{Read, method_in}
use Rattle.methods_091.specs.Rows.{Kind, class_of, id_of}
use Rattle.methods_091.specs.declared.method.Method91.{Method91}
use Rattle.methods_091.specs.declared.method.Method91.TheVariants as method

-- a method of another class than those of channels and the connection
abbrev pub is_request : Method91 → Bool
is_request (method.ExchangeDeclare name kind passive durable deletes internal no_wait arguments) = true
is_request (method.QueueDeclare queue passive durable exclusive deletes no_wait arguments) = true
is_request (method.ConfirmSelect no_wait) = true
is_request (method.BasicConsume queue tag no_local no_ack exclusive no_wait arguments) = true
is_request (method.BasicGet queue no_ack) = true
is_request (method.BasicCancel tag no_wait) = true
is_request (method.BasicQos size count global) = true
is_request (method.BasicAck tag multiple) = true
is_request (method.BasicReject tag requeue) = true
is_request (method.BasicNack tag multiple requeue) = true
is_request (method.BasicRecover requeue) = true
is_request (method.BasicRecoverAsync requeue) = true
is_request m = false

no_clash : (b : Bool) → b ≡ true → b ≡ false → ⊥
no_clash b e f = cc

-- requests are passed on for open channels alone
pub record IsOnTime (c : Connection) (x : machine.Step) : Type 0 where
  pub holds : (n : ℕ) (m : Method91) → x.1 ≡ want.Method n m → is_request m ≡ true → is_open c n ≡ true

abbrev pub is_method : Want91 → Bool
is_method want.Nothing = false
is_method want.Start = false
is_method (want.Login mechanism response) = false
is_method want.Tuned = false
is_method want.OpenUp = false
is_method (want.Method n m) = true
is_method (want.Publish n m d) = false
is_method (want.ChannelCloseOk n) = false
is_method want.Close = false
is_method want.CloseOk = false
is_method (want.Refuse r) = false

-- what is no method of a channel; a method that is no request; and one on an open channel
pub quiet : (c : Connection) (x : machine.Step) → is_method x.1 ≡ false → IsOnTime c x
quiet c x e = record { holds = λ n m f a. absurd (no_clash (is_method x.1) (ap is_method f) e) }

other : (c d : Connection) (k : ℕ) (m : Method91) → is_request m ≡ false → IsOnTime c (d, want.Method k m)
other c d k m e = record { holds = λ n j f a. let same : m ≡ j = cc in absurd (no_clash (is_request j) a (sym (ap is_request same) ∙ e)) }

asked : (c : Connection) (k : ℕ) (m : Method91) → is_open c k ≡ true → IsOnTime c (c, want.Method k m)
asked c k m o = record { holds = λ n j f a. let same : k ≡ n = cc in subst (λ (i : ℕ). is_open c i ≡ true) same o }

-- ---- a method of a channel

both_true : (a b : Bool) → a ≡ true → b ≡ true → (a && b) ≡ true
both_true a b e f = cc

-- one of another class than that of channels counts where its channel is open
class_open : (c : Connection) (f : Frame91) (k : Kind) (args : List Arg) (class : ℕ) → is_running c.phase ≡ true → eqb f.channel 0 ≡ false
    → method_in f.payload ≡ Ok (k, args) → NoneOfMethod c f (Ok (k, args)) → class_of k ≡ class → eqb class 20 ≡ false → is_open c f.channel ≡ true
class_open c f k args class runs z read none is differs =
    let on : IsOnOpen c f.channel = content_open c f [] (all_none _ _ _ stands opens closes) in
    both_true (is_running c.phase) _ on.runs on.opened
  where
    all_none : (a b d : Option Ruling) → a ≡ None → b ≡ None → d ≡ None → first (a ∷ b ∷ d ∷ []) ≡ None
    all_none a b d p q r = ap (λ (x : Option Ruling). first (x ∷ b ∷ d ∷ [])) p ∙ ap (λ (x : Option Ruling). first (x ∷ d ∷ [])) q ∙ ap (λ (x : Option Ruling). first (x ∷ [])) r

    apart : (q : ℕ × ℕ) → eqb class q.0 ≡ false → is_in q f.payload ≡ false
    apart q e =
        ap (λ (x : ℕ). has_ids q x (id_in f.payload)) ((ids_known f.payload k args read).0 ∙ is)
        ∙ ap (λ (b : Bool). b && eqb (id_in f.payload) q.1) e

    stands : content_order (is_running c.phase) f.channel ≡ None
    stands = ap (λ (b : Bool). content_order b f.channel) runs ∙ ap (λ (b : Bool). if b then refused CHANNEL_ERROR else None) z

    opens : channel_order c f.channel false ≡ None
    opens = ap (channel_order c f.channel) (sym (apart CHANNEL_OPEN differs)) ∙ none.channel

    closes : closing_order c f.channel false false ≡ None
    closes =
        ap (λ (b : Bool). closing_order c f.channel b false) (sym (apart CHANNEL_CLOSE differs))
        ∙ ap (closing_order c f.channel (is_closing f.payload)) (sym (apart CHANNEL_CLOSE_OK differs)) ∙ none.closing

kind_class : (q : ℕ × ℕ) (k : Kind) → is_of_kind q k ≡ true → class_of k ≡ q.0
kind_class q k e = by (eqb (class_of k) q.0) refl e
  where
    by : (b : Bool) → eqb (class_of k) q.0 ≡ b → (b && eqb (id_of k) q.1) ≡ true → class_of k ≡ q.0
    by true f g = eqb-true (class_of k) q.0 f
    by false f g = absurd cc

-- the first row that applies
pick : (c : Connection) (b : Bool) {x y : machine.Step} → (b ≡ true → IsOnTime c x) → IsOnTime c y → IsOnTime c (cond b x y)
pick c true this rest = this refl
pick c false this rest = rest

channel_on_time : (c : Connection) (f : Frame91) (k : Kind) (args : List Arg) → is_running c.phase ≡ true → eqb f.channel 0 ≡ false
    → method_in f.payload ≡ Ok (k, args) → NoneOfMethod c f (Ok (k, args)) → IsOnTime c (channel_effect c f.channel k args)
channel_on_time c f k args runs z read none =
    pick c (is_of_kind CHANNEL_OPEN k) (λ e. other c _ n method.ChannelOpen refl)
    (pick c (is_of_kind CHANNEL_CLOSE k) (λ e. other c _ n (close_of args) refl)
    (pick c (is_of_kind CHANNEL_FLOW k) (λ e. other c _ n (flow_of args) refl)
    (pick c (is_of_kind EXCHANGE_DECLARE k) (λ e. asked c n (declare_of args) (class_open c f k args 40 runs z read none (kind_class EXCHANGE_DECLARE k e) refl))
    (pick c (is_of_kind QUEUE_DECLARE k) (λ e. asked c n (queue_declare_of args) (class_open c f k args 50 runs z read none (kind_class QUEUE_DECLARE k e) refl))
    (pick c (is_of_kind CONFIRM_SELECT k) (λ e. asked c n (select_of args) (class_open c f k args 85 runs z read none (kind_class CONFIRM_SELECT k e) refl))
    (pick c (is_of_kind BASIC_CONSUME k) (λ e. asked c n (consume_of args) (class_open c f k args 60 runs z read none (kind_class BASIC_CONSUME k e) refl))
    (pick c (is_of_kind BASIC_GET k) (λ e. asked c n (get_of args) (class_open c f k args 60 runs z read none (kind_class BASIC_GET k e) refl))
    (pick c (is_of_kind BASIC_ACK k) (λ e. asked c n (ack_of args) (class_open c f k args 60 runs z read none (kind_class BASIC_ACK k e) refl))
    (pick c (is_of_kind BASIC_REJECT k) (λ e. asked c n (reject_of args) (class_open c f k args 60 runs z read none (kind_class BASIC_REJECT k e) refl))
    (pick c (is_of_kind BASIC_NACK k) (λ e. asked c n (nack_of args) (class_open c f k args 60 runs z read none (kind_class BASIC_NACK k e) refl))
    (pick c (is_of_kind BASIC_QOS k) (λ e. asked c n (qos_of args) (class_open c f k args 60 runs z read none (kind_class BASIC_QOS k e) refl))
    (pick c (is_of_kind BASIC_CANCEL k) (λ e. asked c n (cancel_of args) (class_open c f k args 60 runs z read none (kind_class BASIC_CANCEL k e) refl))
    (pick c (is_of_kind BASIC_RECOVER k) (λ e. asked c n (recover_of args) (class_open c f k args 60 runs z read none (kind_class BASIC_RECOVER k e) refl))
    (pick c (is_of_kind BASIC_RECOVER_ASYNC k) (λ e. asked c n (recover_async_of args) (class_open c f k args 60 runs z read none (kind_class BASIC_RECOVER_ASYNC k e) refl))
    (pick c (is_of_kind BASIC_PUBLISH k) (λ e. quiet c _ refl) (quiet c _ refl))))))))))))))))
  where
    n : ℕ
    n = f.channel

-- ---- any unit

opening_on_time : (c : Connection) (args : List Arg) (p : Phase91) → IsOnTime c (opening_effect c args p)
opening_on_time c args phase.Header = quiet c _ refl
opening_on_time c args phase.Start = quiet c _ refl
opening_on_time c args phase.Tune = quiet c _ refl
opening_on_time c args phase.Open = quiet c _ refl
opening_on_time c args phase.Running = quiet c _ refl
opening_on_time c args phase.Closing = quiet c _ refl
opening_on_time c args phase.Closed = quiet c _ refl

method_on_time : (c : Connection) (f : Frame91) (read : Read) → method_in f.payload ≡ read → first (places c f read frame.Method) ≡ None
    → IsOnTime c (method_effect c f.channel read)
method_on_time c f (Err e) same none = quiet c _ refl
method_on_time c f (Ok (k, args)) same none = by (is_running c.phase) refl (eqb f.channel 0) refl
  where
    by : (b : Bool) → is_running c.phase ≡ b → (z : Bool) → eqb f.channel 0 ≡ z
        → IsOnTime c (cond b (cond z (record c { phase = phase.Closed; contents = no_contents }, want.Close) (channel_effect c f.channel k args)) (opening_effect c args c.phase))
    by true runs true z = quiet c _ refl
    by true runs false z = channel_on_time c f k args runs z same (none_of_method c f (Ok (k, args)) none)
    by false runs b z = opening_on_time c args c.phase

content_on_time : (c : Connection) (n : ℕ) (o : Option Incoming) (t : Taking) → IsOnTime c (content_effect c n o t)
content_on_time c n None t = quiet c _ refl
content_on_time c n (Some i) (Err x) = quiet c _ refl
content_on_time c n (Some i) (Ok (x, step.More)) = quiet c _ refl
content_on_time c n (Some i) (Ok (x, step.Whole d)) = quiet c _ refl

frame_on_time : (c : Connection) (f : Frame91) (k : Kind91) → first (places c f (method_in f.payload) k) ≡ None → IsOnTime c (frame_effect c f.channel f.payload k)
frame_on_time c f frame.Method none = method_on_time c f (method_in f.payload) refl none
frame_on_time c f frame.Header none = content_on_time c f.channel (content_at c f.channel) (taken frame.Header f.payload (content_at c f.channel))
frame_on_time c f frame.Body none = content_on_time c f.channel (content_at c f.channel) (taken frame.Body f.payload (content_at c f.channel))
frame_on_time c f frame.Heartbeat none = quiet c _ refl

ordered_on_time : (c : Connection) (u : Unit91) → IsOnTime c (ordered_step c u)
ordered_on_time c u = by (unit_ruling c u) refl
  where
    effect : (v : Unit91) → unit_ruling c v ≡ None → IsOnTime c (unit_effect c v)
    effect unit.Protocol e = quiet c _ refl
    effect (unit.Bad code) e = quiet c _ refl
    effect (unit.Frame f) e = frame_on_time c f f.kind e

    by : (o : Option Ruling) → unit_ruling c u ≡ o → IsOnTime c (ruled_step c u o)
    by None e = effect u e
    by (Some ruling.PassedOver) e = quiet c _ refl
    by (Some (ruling.Refused code)) e = quiet c _ refl
    by (Some (ruling.MethodRefused code)) e = quiet c _ refl
    by (Some (ruling.ChannelRefused code)) e = quiet c _ refl

closed_on_time : (c : Connection) (u : Unit91) → IsOnTime c (closed_step c u)
closed_on_time c u = pick c (is_unit_of CONNECTION_CLOSE_OK u) (λ e. quiet c _ refl) (quiet c _ refl)

pub unit_on_time : (c : Connection) (u : Unit91) → IsOnTime c (unit_step c u)
unit_on_time c u = by c.phase
  where
    header : (v : Unit91) → IsOnTime c (header_step c v)
    header unit.Protocol = quiet c _ refl
    header (unit.Frame f) = quiet c _ refl
    header (unit.Bad code) = quiet c _ refl

    by : (p : Phase91) → IsOnTime c (step_in p c u)
    by phase.Header = header u
    by phase.Start = ordered_on_time c u
    by phase.Tune = ordered_on_time c u
    by phase.Open = ordered_on_time c u
    by phase.Running = ordered_on_time c u
    by phase.Closing = pick c (is_unit_of CONNECTION_CLOSE u) (λ e. quiet c _ refl) (closed_on_time c u)
    by phase.Closed = closed_on_time c u
