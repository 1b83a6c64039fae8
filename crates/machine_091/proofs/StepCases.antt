-- The rows of the table of transitions: what holds of each row holds of each step.
use Rattle.std.proofs.Common.{◌≡◌, ℕ, ◌≤◌, Bool, true, false, cond, eqb, ◌&&◌, List, [], ◌∷◌, ◌++◌}
use Rattle.std.proofs.Common.{length, Option, None, Some, Ok, Err, refl, sym, ap, subst, ◌∙◌}
use Rattle.std.proofs.lemmas.Bool.{eqb-true}
use Rattle.close_translate.specs.declared.codes.TheConstants.{CONTENT_TOO_LARGE, FRAME_ERROR}
use Rattle.close_translate.specs.declared.codes.TheConstants.{NOT_ALLOWED, NOT_IMPLEMENTED}
use Rattle.close_translate.specs.declared.conditions.Scope.TheVariants as scope
use Rattle.content_091.specs.declared.assembly.Assembly.{Assembly}
use Rattle.content_091.specs.declared.assembly.Content.{Content}
use Rattle.content_091.specs.declared.assembly.ContentFault.{ContentFault}
use Rattle.content_091.specs.declared.assembly.ContentFault.TheVariants as fault
use Rattle.content_091.specs.declared.assembly.Step as content
use Rattle.content_091.specs.declared.assembly.Step.TheVariants as step
use Rattle.frames_091.specs.declared.frame.Frame91.{Frame91}
use Rattle.frames_091.specs.declared.frame.Kind91.{Kind91}
use Rattle.frames_091.specs.declared.frame.Kind91.TheVariants as frame
use Rattle.methods_091.specs.Rows.{Kind}
use Rattle.methods_091.specs.Arguments.{Arg}
use Rattle.methods_091.specs.Reading.{Read, method_in}
use Rattle.methods_091.specs.declared.method.Method91.{Method91}
use Rattle.methods_091.specs.declared.method.Method91.TheVariants as method
use Rattle.machine_091.specs.Calls.{after_closing}
use Rattle.machine_091.specs.Contents.{IsOfContent, Taking, is_immediate, no_contents, taken}
use Rattle.machine_091.specs.Contents as contents
use Rattle.machine_091.specs.Ids.{is_of_kind}
use Rattle.machine_091.specs.Limits.{is_agreed, agreed_limits}
use Rattle.machine_091.specs.Methods.{text_at, number_at, close_of, flow_of, declare_of, publish_of}
use Rattle.machine_091.specs.Methods.{select_of, consume_of, ack_of, reject_of, nack_of, qos_of}
use Rattle.machine_091.specs.Methods.{cancel_of, recover_of, recover_async_of, queue_declare_of}
use Rattle.machine_091.specs.Methods.{get_of}
use Rattle.machine_091.specs.Refusals.{places, channel_place, closing_place, reading_place}
use Rattle.machine_091.specs.Refusals.{taken_by, unit_ruling, refusal_of, publish_refusal}
use Rattle.machine_091.specs.Refusals.{channel_refusal, channel_of}
use Rattle.machine_091.specs.RefusalsFrames.{first, content_order, channel_order, closing_order}
use Rattle.machine_091.specs.RefusalsFrames.{is_opening, refused}
use Rattle.machine_091.specs.RefusalsOpening.{is_login, opening_refusal, opening_refusal_in}
use Rattle.machine_091.specs.RefusalsRunning.{running_refusal}
use Rattle.machine_091.specs.State.{is_running, is_closing_phase, is_open_channel, is_open}
use Rattle.machine_091.specs.State.{with_channel, channel_at, with_content, content_at}
use Rattle.machine_091.specs.Transitions.{Step, closed_by, header_step, stream_after}
use Rattle.machine_091.specs.Transitions.{opening_effect, channel_effect, running_effect}
use Rattle.machine_091.specs.Transitions.{method_effect, content_effect, frame_effect, unit_effect}
use Rattle.machine_091.specs.Transitions.{ruled_step, ordered_step, is_unit_of, closed_step}
use Rattle.machine_091.specs.Transitions.{closing_step, step_in, unit_step}
use Rattle.machine_091.specs.Transitions as machine
use Rattle.machine_091.specs.Writable.{AreBytes, HasShortNames}
use Rattle.machine_091.specs.declared.contents.Incoming.{Incoming}
use Rattle.machine_091.specs.declared.ids.TheConstants.{CONNECTION_CLOSE, CONNECTION_CLOSE_OK}
use Rattle.machine_091.specs.declared.ids.TheConstants.{CHANNEL_OPEN, CHANNEL_CLOSE, CHANNEL_FLOW}
use Rattle.machine_091.specs.declared.ids.TheConstants.{EXCHANGE_DECLARE, BASIC_PUBLISH}
use Rattle.machine_091.specs.declared.ids.TheConstants.{CONFIRM_SELECT, BASIC_CONSUME, BASIC_ACK}
use Rattle.machine_091.specs.declared.ids.TheConstants.{BASIC_REJECT, BASIC_NACK, BASIC_QOS}
use Rattle.machine_091.specs.declared.ids.TheConstants.{BASIC_CANCEL, BASIC_RECOVER}
use Rattle.machine_091.specs.declared.ids.TheConstants.{BASIC_GET, BASIC_RECOVER_ASYNC}
use Rattle.machine_091.specs.declared.ids.TheConstants.{QUEUE_DECLARE}
use Rattle.machine_091.specs.declared.state.Channel91.TheVariants as channel
use Rattle.machine_091.specs.declared.state.Connection.{Connection}
use Rattle.machine_091.specs.declared.state.Phase91.{Phase91}
use Rattle.machine_091.specs.declared.state.Phase91.TheVariants as phase
use Rattle.machine_091.specs.declared.state.Stream91.TheVariants as stream
use Rattle.machine_091.specs.declared.unit.Ruling.{Ruling}
use Rattle.machine_091.specs.declared.unit.Ruling.TheVariants as ruling
use Rattle.machine_091.specs.declared.unit.Unit91.{Unit91}
use Rattle.machine_091.specs.declared.unit.Unit91.TheVariants as unit
use Rattle.machine_091.specs.declared.unit.Want91.TheVariants as want
use Rattle.machine_091.proofs.ContentSteps.{content_places, taking_places, order_is, effect_is}
use Rattle.machine_091.proofs.Places.{IsOnOpen, NoneOfMethod, none_of_method, none_within}
use Rattle.machine_091.proofs.Places.{rest_none, first_none, within, not_zero, content_open}
use Rattle.machine_091.proofs.Places.{method_apart, content_apart, over_closed, publish_open}
use Rattle.machine_091.proofs.Spelled.{cancel_short, consume_short, declare_short}

-- ---- what is known where a frame counts

-- a method of a channel on which no content is in progress
pub record IsOfChannel (c : Connection) (u : Unit91) (n : ℕ) : Type 0 where
  pub of : channel_of u ≡ n
  pub runs : is_running c.phase ≡ true
  pub min : 1 ≤ n
  pub max : n ≤ c.limits.channel_max
  pub none : content_at c n ≡ None

-- one that is passed on
pub record IsPassedOn (c : Connection) (u : Unit91) (n : ℕ) (m : Method91) : Type 0 where
  pub of : channel_of u ≡ n
  pub runs : is_running c.phase ≡ true
  pub min : 1 ≤ n
  pub max : n ≤ c.limits.channel_max
  pub none : content_at c n ≡ None
  pub short : AreBytes u → HasShortNames m

-- a unit of no open channel
abbrev pub IsIdle : Connection → Unit91 → Type 0
IsIdle c u = is_open c (channel_of u) ≡ true → channel_of u ≡ 0

-- a frame of a content that is taken, with what it came to
pub record IsTaken (c : Connection) (u : Unit91) (f : Frame91) (i : Incoming) (a : Assembly) (s : content.Step) : Type 0 where
  pub unit : u ≡ unit.Frame f
  pub on : IsOnOpen c f.channel
  pub kind : IsOfContent f.kind
  pub at : content_at c f.channel ≡ Some i
  pub is : taken f.kind f.payload (Some i) ≡ Ok (a, s)

-- a basic.publish that counts
pub record IsBeginning (c : Connection) (u : Unit91) (f : Frame91) (k : Kind) (args : List Arg) : Type 0 where
  pub unit : u ≡ unit.Frame f
  pub on : IsOnOpen c f.channel
  pub kind : f.kind ≡ frame.Method
  pub none : content_at c f.channel ≡ None
  pub read : method_in f.payload ≡ Ok (k, args)
  pub publish : is_of_kind BASIC_PUBLISH k ≡ true

-- ---- the rows

-- a predicate of steps holds of each row of the table for a unit
pub record HoldsByRow (P : Step → Type 0) (c : Connection) (u : Unit91) : Type 0 where
  pub greeted : c.phase ≡ phase.Header → P (record c { phase = phase.Start; stream = stream.Frames }, want.Start)
  pub foreign : c.phase ≡ phase.Header → P (record c { phase = phase.Closed; stream = stream.Foreign }, want.Nothing)
  pub refused : (code : ℕ) → is_closing_phase c.phase ≡ false → unit_ruling c u ≡ Some (ruling.Refused code)
      → P (machine.refused c u code, want.Refuse (refusal_of code u))
  pub publish_refused : (code : ℕ) → is_closing_phase c.phase ≡ false → unit_ruling c u ≡ Some (ruling.MethodRefused code)
      → P (machine.refused c u code, want.Refuse (publish_refusal code))
  pub channel_refused : (code : ℕ) → IsOnOpen c (channel_of u) → code ≡ CONTENT_TOO_LARGE → unit_ruling c u ≡ Some (ruling.ChannelRefused code)
      → P (after_closing scope.Channel (channel_of u) c, want.Refuse (channel_refusal code (channel_of u)))
  pub nothing : IsIdle c u → P (c, want.Nothing)
  pub login : (a b : List ℕ) → c.phase ≡ phase.Start → is_login a b ≡ true → P (record c { phase = phase.Tune }, want.Login a b)
  pub tuned : (channels size heartbeat : ℕ) → c.phase ≡ phase.Tune → is_agreed channels size ≡ true
      → P (record c { phase = phase.Open; limits = agreed_limits channels size heartbeat }, want.Tuned)
  pub asked : c.phase ≡ phase.Open → P (record c { asked = true }, want.OpenUp)
  pub closed : is_running c.phase ≡ true → P (record c { phase = phase.Closed; contents = no_contents }, want.Close)
  pub opened : (n : ℕ) (m : Method91) → IsPassedOn c u n m → P (with_channel c n channel.Open, want.Method n m)
  pub ended : (n : ℕ) (m : Method91) → IsPassedOn c u n m → P (with_channel c n (closed_by (channel_at c n)), want.Method n m)
  pub passed_on : (n : ℕ) (m : Method91) → IsPassedOn c u n m → P (c, want.Method n m)
  pub begun : (f : Frame91) (k : Kind) (args : List Arg) → IsBeginning c u f k args
      → P (with_content c f.channel (Some (contents.begun (publish_of args))), want.Nothing)
  pub grown : (f : Frame91) (i : Incoming) (a : Assembly) → IsTaken c u f i a step.More
      → P (with_content c f.channel (Some (record i { assembly = a })), want.Nothing)
  pub published : (f : Frame91) (i : Incoming) (a : Assembly) (d : Content) → IsTaken c u f i a (step.Whole d) → is_immediate i.method ≡ false
      → P (with_content c f.channel None, want.Publish f.channel i.method d)
  pub freed : (n : ℕ) → IsOfChannel c u n → P (with_channel c n channel.Free, want.ChannelCloseOk n)
  pub crossed : c.phase ≡ phase.Closing → P (record c { phase = phase.Closed }, want.Close)
  pub answered : is_closing_phase c.phase ≡ true
      → P (record c { phase = phase.Closed; stream = stream.Answered }, want.CloseOk)
  pub passed : is_closing_phase c.phase ≡ true → P (record c { stream = stream_after u c.stream }, want.Nothing)

-- ---- the rows

-- limits that a tune-ok agrees to
tuned_agreed : (vhost : List ℕ) (args : List Arg) → opening_refusal_in vhost args phase.Tune ≡ None → is_agreed (number_at 0 args) (number_at 1 args) ≡ true
tuned_agreed vhost args e = by (is_agreed (number_at 0 args) (number_at 1 args)) e
  where
    by : (b : Bool) → cond {A = Option Ruling} b None (refused NOT_ALLOWED) ≡ None → b ≡ true
    by true e = refl
    by false e = absurd cc

-- a login that a start-ok tells
login_taken : (vhost : List ℕ) (args : List Arg) → opening_refusal_in vhost args phase.Start ≡ None → is_login (text_at 1 args) (text_at 2 args) ≡ true
login_taken vhost args e = by (is_login (text_at 1 args) (text_at 2 args)) e
  where
    by : (b : Bool) → cond {A = Option Ruling} b None (refused NOT_ALLOWED) ≡ None → b ≡ true
    by true e = refl
    by false e = absurd cc

-- before the connection runs no channel is open
early : (c : Connection) (u : Unit91) → is_running c.phase ≡ false → IsIdle c u
early c u e opened =
    let none : is_open c (channel_of u) ≡ false = ap (λ (b : Bool). b && is_open_channel (channel_at c (channel_of u))) e in
    absurd cc

opening_rows : (P : Step → Type 0) (c : Connection) (u : Unit91) (args : List Arg) → HoldsByRow P c u → is_running c.phase ≡ false
    → opening_refusal c args ≡ None → P (opening_effect c args c.phase)
opening_rows P c u args rows e none = by c.phase refl none
  where
    by : (p : Phase91) → c.phase ≡ p → opening_refusal_in c.vhost args p ≡ None → P (opening_effect c args p)
    by phase.Header k none = rows.nothing (early c u e)
    by phase.Start k none = rows.login (text_at 1 args) (text_at 2 args) k (login_taken c.vhost args none)
    by phase.Tune k none = rows.tuned (number_at 0 args) (number_at 1 args) (number_at 2 args) k (tuned_agreed c.vhost args none)
    by phase.Open k none = rows.asked k
    by phase.Running k none = rows.nothing (early c u e)
    by phase.Closing k none = rows.nothing (early c u e)
    by phase.Closed k none = rows.nothing (early c u e)

channel_rows : (P : Step → Type 0) (c : Connection) (u : Unit91) (f : Frame91) (k : Kind) (args : List Arg) → HoldsByRow P c u → u ≡ unit.Frame f
    → f.kind ≡ frame.Method → method_in f.payload ≡ Ok (k, args) → is_running c.phase ≡ true → eqb f.channel 0 ≡ false → channel_place c f frame.Method ≡ None
    → closing_place c f frame.Method ≡ None → content_at c f.channel ≡ None → P (channel_effect c f.channel k args)
channel_rows P c u f k args rows is kind read runs z uses closes none =
    pick (is_of_kind CHANNEL_OPEN k) (λ e. rows.opened f.channel method.ChannelOpen (passes method.ChannelOpen (λ b. tt)))
    (pick (is_of_kind CHANNEL_CLOSE k) (λ e. rows.ended f.channel (close_of args) (passes (close_of args) (λ b. tt)))
    (pick (is_of_kind CHANNEL_FLOW k) (λ e. rows.passed_on f.channel (flow_of args) (passes (flow_of args) (λ b. tt)))
    (pick (is_of_kind EXCHANGE_DECLARE k) (λ e. rows.passed_on f.channel (declare_of args) (passes (declare_of args) (λ b. tt)))
    (pick (is_of_kind QUEUE_DECLARE k) (λ e. rows.passed_on f.channel (queue_declare_of args) (passes (queue_declare_of args) (λ b. declare_short f.payload k args (subst AreBytes is b) read e)))
    (pick (is_of_kind CONFIRM_SELECT k) (λ e. rows.passed_on f.channel (select_of args) (passes (select_of args) (λ b. tt)))
    (pick (is_of_kind BASIC_CONSUME k) (λ e. rows.passed_on f.channel (consume_of args) (passes (consume_of args) (λ b. consume_short f.payload k args (subst AreBytes is b) read e)))
    (pick (is_of_kind BASIC_GET k) (λ e. rows.passed_on f.channel (get_of args) (passes (get_of args) (λ b. tt)))
    (pick (is_of_kind BASIC_ACK k) (λ e. rows.passed_on f.channel (ack_of args) (passes (ack_of args) (λ b. tt)))
    (pick (is_of_kind BASIC_REJECT k) (λ e. rows.passed_on f.channel (reject_of args) (passes (reject_of args) (λ b. tt)))
    (pick (is_of_kind BASIC_NACK k) (λ e. rows.passed_on f.channel (nack_of args) (passes (nack_of args) (λ b. tt)))
    (pick (is_of_kind BASIC_QOS k) (λ e. rows.passed_on f.channel (qos_of args) (passes (qos_of args) (λ b. tt)))
    (pick (is_of_kind BASIC_CANCEL k) (λ e. rows.passed_on f.channel (cancel_of args) (passes (cancel_of args) (λ b. cancel_short f.payload k args (subst AreBytes is b) read e)))
    (pick (is_of_kind BASIC_RECOVER k) (λ e. rows.passed_on f.channel (recover_of args) (passes (recover_of args) (λ b. tt)))
    (pick (is_of_kind BASIC_RECOVER_ASYNC k) (λ e. rows.passed_on f.channel (recover_async_of args) (passes (recover_async_of args) (λ b. tt)))
    (pick (is_of_kind BASIC_PUBLISH k) begins (rows.freed f.channel of))))))))))))))))
  where
    of : IsOfChannel c u f.channel
    of = record { of = ap channel_of is; runs = runs; min = not_zero f.channel z; max = within c f.channel (is_opening f.payload) z uses; none = none }

    passes : (m : Method91) → (AreBytes u → HasShortNames m) → IsPassedOn c u f.channel m
    passes m short = record { of = of.of; runs = of.runs; min = of.min; max = of.max; none = of.none; short = short }

    begins : is_of_kind BASIC_PUBLISH k ≡ true → P (with_content c f.channel (Some (contents.begun (publish_of args))), want.Nothing)
    begins e =
        rows.begun f k args (record {
          unit = is;
          on = publish_open c f k args runs z read e uses closes;
          kind = kind;
          none = none;
          read = read;
          publish = e;
        })

    -- the first row that applies
    pick : (b : Bool) {x y : Step} → (b ≡ true → P x) → P y → P (cond {A = Step} b x y)
    pick true this other = this refl
    pick false this other = other

running_rows : (P : Step → Type 0) (c : Connection) (u : Unit91) (f : Frame91) (k : Kind) (args : List Arg) → HoldsByRow P c u → u ≡ unit.Frame f
    → f.kind ≡ frame.Method → method_in f.payload ≡ Ok (k, args) → is_running c.phase ≡ true → channel_place c f frame.Method ≡ None
    → closing_place c f frame.Method ≡ None → content_at c f.channel ≡ None → P (running_effect c f.channel k args)
running_rows P c u f k args rows is kind read runs channel closing none = by (eqb f.channel 0) refl
  where
    by : (b : Bool) → eqb f.channel 0 ≡ b
        → P (cond {A = Step} b (record c { phase = phase.Closed; contents = no_contents }, want.Close) (channel_effect c f.channel k args))
    by true e = rows.closed runs
    by false e = channel_rows P c u f k args rows is kind read runs e channel closing none

method_rows : (P : Step → Type 0) (c : Connection) (u : Unit91) (f : Frame91) (read : Read) → HoldsByRow P c u → u ≡ unit.Frame f
    → f.kind ≡ frame.Method → method_in f.payload ≡ read → first (places c f read frame.Method) ≡ None → P (method_effect c f.channel read)
method_rows P c u f (Err e) rows is kind same none =
    let read : reading_place c f (Err e) frame.Method ≡ None = (none_of_method c f (Err e) none).reading in absurd cc
method_rows P c u f (Ok m) rows is kind same none = by (is_running c.phase) refl all.own
  where
    all : NoneOfMethod c f (Ok m)
    all = none_of_method c f (Ok m) none

    by : (b : Bool) → is_running c.phase ≡ b
        → cond {A = Option Ruling} b (running_refusal c.carried_max f.channel m.0 m.1) (opening_refusal c m.1) ≡ None
        → P (cond {A = Step} b (running_effect c f.channel m.0 m.1) (opening_effect c m.1 c.phase))
    by true e own = running_rows P c u f m.0 m.1 rows is kind same e all.channel all.closing (none_within (content_at c f.channel) all.within)
    by false e own = opening_rows P c u m.1 rows e own

-- a frame of a content
content_rows : (P : Step → Type 0) (c : Connection) (u : Unit91) (f : Frame91) → HoldsByRow P c u → u ≡ unit.Frame f → IsOfContent f.kind
    → first (content_places c f ++ taking_places (content_at c f.channel) (taken_by c f f.kind)) ≡ None
    → P (content_effect c f.channel (content_at c f.channel) (taken_by c f f.kind))
content_rows P c u f rows is of none = by (content_at c f.channel) refl (taken f.kind f.payload (content_at c f.channel)) refl none
  where
    on : (o : Option Incoming) (t : Taking) → first (content_places c f ++ taking_places o t) ≡ None → IsOnOpen c f.channel
    on o t none = content_open c f (taking_places o t) none

    own : (o : Option Incoming) (t : Taking) → first (content_places c f ++ taking_places o t) ≡ None → first (taking_places o t) ≡ None
    own o t none =
        rest_none (closing_order c f.channel false false) _
        (rest_none (channel_order c f.channel false) _ (rest_none (content_order (is_running c.phase) f.channel) _ none))

    -- a frame without a content in progress isn't awaited
    nowhere : (k : Kind91) (x : Assembly × content.Step) → IsOfContent k → taken k f.payload None ≡ Ok x → ⊥
    nowhere frame.Method x of e = absurd of
    nowhere frame.Header x of e = absurd cc
    nowhere frame.Body x of e = absurd cc
    nowhere frame.Heartbeat x of e = absurd of

    -- each fault has its place
    refuses : (o : Option Incoming) (x : ContentFault) → first (taking_places o (Err x)) ≡ None → ⊥
    refuses o fault.Unexpected e = absurd cc
    refuses o (fault.Header x) e = absurd cc
    refuses o fault.TooLarge e = absurd cc
    refuses o fault.Overrun e = absurd cc

    later : (b : Bool) → first (cond {A = Option Ruling} b (Some (ruling.MethodRefused NOT_IMPLEMENTED)) None ∷ []) ≡ None → b ≡ false
    later true e = absurd cc
    later false e = refl

    by : (o : Option Incoming) → content_at c f.channel ≡ o → (t : Taking) → taken f.kind f.payload o ≡ t
        → first (content_places c f ++ taking_places o t) ≡ None → P (content_effect c f.channel o t)
    by None e (Ok x) same none = absurd (nowhere f.kind x of same)
    by None e (Err x) same none = absurd (refuses None x (own None (Err x) none))
    by (Some i) e (Err x) same none = absurd (refuses (Some i) x (own (Some i) (Err x) none))
    by (Some i) e (Ok (a, step.More)) same none =
        rows.grown f i a (record { unit = is; on = on (Some i) (Ok (a, step.More)) none; kind = of; at = e; is = same })
    by (Some i) e (Ok (a, step.Whole d)) same none =
        rows.published f i a d (record { unit = is; on = on (Some i) (Ok (a, step.Whole d)) none; kind = of; at = e; is = same })
        (later (is_immediate i.method) (own (Some i) (Ok (a, step.Whole d)) none))

frame_rows : (P : Step → Type 0) (c : Connection) (u : Unit91) (f : Frame91) → HoldsByRow P c u → u ≡ unit.Frame f
    → first (places c f (method_in f.payload) f.kind) ≡ None → P (frame_effect c f.channel f.payload f.kind)
frame_rows P c u f rows is none = by f.kind refl none
  where
    of_content : IsOfContent f.kind → P (frame_effect c f.channel f.payload f.kind)
    of_content of =
        subst P (sym (effect_is c f.channel f.payload f.kind of))
        (content_rows P c u f rows is of (sym (order_is c f (method_in f.payload) f.kind of) ∙ none))

    by : (k : Kind91) → f.kind ≡ k → first (places c f (method_in f.payload) k) ≡ None → P (frame_effect c f.channel f.payload k)
    by frame.Method e none = method_rows P c u f (method_in f.payload) rows is e refl none
    by frame.Header e none = subst (λ (k : Kind91). P (frame_effect c f.channel f.payload k)) e (of_content (subst IsOfContent (sym e) tt))
    by frame.Body e none = subst (λ (k : Kind91). P (frame_effect c f.channel f.payload k)) e (of_content (subst IsOfContent (sym e) tt))
    by frame.Heartbeat e none = rows.nothing (λ opened. ap channel_of is ∙ beat (eqb f.channel 0) refl (first_none _ _ none))
      where
        beat : (zero : Bool) → eqb f.channel 0 ≡ zero → cond {A = Option Ruling} (zero && eqb (length f.payload) 0) None (refused FRAME_ERROR) ≡ None
            → f.channel ≡ 0
        beat true z e = eqb-true f.channel 0 z
        beat false z e = absurd cc

-- a channel that is refused
refused_rows : (P : Step → Type 0) (c : Connection) (u : Unit91) (code : ℕ) → HoldsByRow P c u → unit_ruling c u ≡ Some (ruling.ChannelRefused code)
    → P (after_closing scope.Channel (channel_of u) c, want.Refuse (channel_refusal code (channel_of u)))
refused_rows P c unit.Protocol code rows e = absurd cc
refused_rows P c (unit.Bad x) code rows e = absurd cc
refused_rows P c (unit.Frame f) code rows e = by f.kind refl e
  where
    of_content : IsOfContent f.kind → P (after_closing scope.Channel f.channel c, want.Refuse (channel_refusal code f.channel))
    of_content of =
        let h = content_apart c f (content_at c f.channel) (taken_by c f f.kind) code (sym (order_is c f (method_in f.payload) f.kind of) ∙ e) in
        rows.channel_refused code h.0 h.1 e

    beat : (b : Bool)
        → first (cond {A = Option Ruling} b None (refused FRAME_ERROR) ∷ None ∷ None ∷ None ∷ None ∷ None ∷ None ∷ None ∷ []) ≡ Some (ruling.ChannelRefused code) → ⊥
    beat true e = absurd cc
    beat false e = absurd cc

    by : (k : Kind91) → f.kind ≡ k → first (places c f (method_in f.payload) k) ≡ Some (ruling.ChannelRefused code)
        → P (after_closing scope.Channel f.channel c, want.Refuse (channel_refusal code f.channel))
    by frame.Method k e = absurd (method_apart c f (method_in f.payload) code e)
    by frame.Header k e = of_content (subst IsOfContent (sym k) tt)
    by frame.Body k e = of_content (subst IsOfContent (sym k) tt)
    by frame.Heartbeat k e = absurd (beat (eqb f.channel 0 && eqb (length f.payload) 0) e)

-- what is passed over stands on a closing channel
passed_rows : (P : Step → Type 0) (c : Connection) (u : Unit91) → HoldsByRow P c u → unit_ruling c u ≡ Some ruling.PassedOver → P (c, want.Nothing)
passed_rows P c unit.Protocol rows e = absurd cc
passed_rows P c (unit.Bad x) rows e = absurd cc
passed_rows P c (unit.Frame f) rows e = rows.nothing (λ opened. absurd (over_closed c f e opened))

ordered_rows : (P : Step → Type 0) (c : Connection) (u : Unit91) → HoldsByRow P c u → is_closing_phase c.phase ≡ false
    → P (ordered_step c u)
ordered_rows P c u rows none = by (unit_ruling c u) refl
  where
    effect : (u : Unit91) → HoldsByRow P c u → unit_ruling c u ≡ None → P (unit_effect c u)
    effect unit.Protocol rows e = absurd cc
    effect (unit.Bad code) rows e = absurd cc
    effect (unit.Frame f) rows e = frame_rows P c (unit.Frame f) f rows refl e

    by : (r : Option Ruling) → unit_ruling c u ≡ r → P (ruled_step c u r)
    by None e = effect u rows e
    by (Some ruling.PassedOver) e = passed_rows P c u rows e
    by (Some (ruling.Refused code)) e = rows.refused code none e
    by (Some (ruling.MethodRefused code)) e = rows.publish_refused code none e
    by (Some (ruling.ChannelRefused code)) e = refused_rows P c u code rows e

closed_rows : (P : Step → Type 0) (c : Connection) (u : Unit91) → HoldsByRow P c u → is_closing_phase c.phase ≡ true
    → P (closed_step c u)
closed_rows P c u rows closing = by (is_unit_of CONNECTION_CLOSE_OK u)
  where
    by : (b : Bool) → P (cond {A = Step} b (record c { phase = phase.Closed; stream = stream.Answered }, want.CloseOk) (record c { stream = stream_after u c.stream }, want.Nothing))
    by true = rows.answered closing
    by false = rows.passed closing

closing_rows : (P : Step → Type 0) (c : Connection) (u : Unit91) → HoldsByRow P c u → c.phase ≡ phase.Closing → P (closing_step c u)
closing_rows P c u rows e = by (is_unit_of CONNECTION_CLOSE u)
  where
    by : (b : Bool) → P (cond {A = Step} b (record c { phase = phase.Closed }, want.Close) (closed_step c u))
    by true = rows.crossed e
    by false = closed_rows P c u rows (ap is_closing_phase e)

-- what holds of each row holds of the step
pub step_rows : (P : Step → Type 0) (c : Connection) (u : Unit91) → HoldsByRow P c u → P (unit_step c u)
step_rows P c u rows = by c.phase refl
  where
    header : (u : Unit91) → HoldsByRow P c u → c.phase ≡ phase.Header → P (header_step c u)
    header unit.Protocol rows e = rows.greeted e
    header (unit.Frame f) rows e = rows.foreign e
    header (unit.Bad code) rows e = rows.foreign e

    by : (p : Phase91) → c.phase ≡ p → P (step_in p c u)
    by phase.Header e = header u rows e
    by phase.Start e = ordered_rows P c u rows (ap is_closing_phase e)
    by phase.Tune e = ordered_rows P c u rows (ap is_closing_phase e)
    by phase.Open e = ordered_rows P c u rows (ap is_closing_phase e)
    by phase.Running e = ordered_rows P c u rows (ap is_closing_phase e)
    by phase.Closing e = closing_rows P c u rows e
    by phase.Closed e = closed_rows P c u rows (ap is_closing_phase e)
