-- A channel.close-ok of the client counts where the gateway's channel.close went.
use Rattle.std.proofs.Common.{◌≡◌, ◌∙◌, ℕ, ◌==◌, cond, eqb, if◌then◌else◌, nat_lt, Bool, true, false, List, Option, None, Some, Ok, Err, refl, sym, ap, subst}
use Rattle.close_translate.specs.declared.codes.TheConstants.{CHANNEL_ERROR, NOT_ALLOWED}
use Rattle.close_translate.specs.declared.conditions.Scope.TheVariants as scope
use Rattle.content_091.specs.declared.assembly.Step.TheVariants as step
use Rattle.frames_091.specs.declared.frame.Frame91.{Frame91}
use Rattle.frames_091.specs.declared.frame.Kind91.{Kind91}
use Rattle.frames_091.specs.declared.frame.Kind91.TheVariants as frame
use Rattle.machine_091.specs.Contents.{Taking, no_contents}
use Rattle.machine_091.specs.Ids.{class_in, has_ids, id_in, is_in, is_of_kind}
use Rattle.machine_091.specs.Refusals.{places, refusal_with, unit_ruling}
use Rattle.machine_091.specs.RefusalsFrames.{channel_order, closing_order, first, passed_over, refused, state_order}
use Rattle.machine_091.specs.State.{channel_at, is_running}
use Rattle.machine_091.specs.Transitions.{channel_effect, closed_step, content_effect, frame_effect, header_step, is_unit_of, method_effect}
use Rattle.machine_091.specs.Transitions.{opening_effect, ordered_step, ruled_step, step_in, unit_effect, unit_step, with_stream}
use Rattle.machine_091.specs.Transitions as machine
use Rattle.machine_091.specs.declared.contents.Incoming.{Incoming}
use Rattle.machine_091.specs.declared.state.Channel91.{Channel91}
use Rattle.machine_091.specs.declared.state.Channel91.TheVariants as channel
use Rattle.machine_091.specs.declared.state.Connection.{Connection}
use Rattle.machine_091.specs.declared.state.Phase91.{Phase91}
use Rattle.machine_091.specs.declared.state.Phase91.TheVariants as phase
use Rattle.machine_091.specs.declared.unit.Ruling.{Ruling}
use Rattle.machine_091.specs.declared.unit.Ruling.TheVariants as ruling
use Rattle.machine_091.specs.declared.unit.Unit91.{Unit91}
use Rattle.machine_091.specs.declared.unit.Unit91.TheVariants as unit
use Rattle.machine_091.specs.declared.unit.Want91.{Want91}
use Rattle.machine_091.specs.declared.unit.Want91.TheVariants as want
use Rattle.machine_091.proofs.IdLaws.{ids_known}
use Rattle.machine_091.proofs.Places.{NoneOfMethod, none_of_method}
use Rattle.methods_091.specs.Arguments.{Arg}
use Rattle.methods_091.specs.Reading.{Read, method_in}
use Rattle.methods_091.specs.Rows.{Kind, class_of, id_of}
use Rattle.methods_091.specs.View.{kind_of}
use Rattle.methods_091.specs.declared.method.Method91.{Method91}
use Rattle.session_path.specs.Path.{PathState}
use Rattle.gate_model.specs.Paths.{path_at}
use Rattle.gate_model.specs.Requests.{client_step, message_of, method_fault, publish_fault, refusal_of_want, refused_by, refused_for}
use Rattle.gate_model.specs.declared.setup.Route.{Route}

-- the ids of methods (AMQP 0-9-1 1.4 and 1.5)
abbrev connection_close : ℕ × ℕ
connection_close = (10, 50)

abbrev connection_close_ok : ℕ × ℕ
connection_close_ok = (10, 51)

abbrev channel_open : ℕ × ℕ
channel_open = (20, 10)

abbrev channel_close : ℕ × ℕ
channel_close = (20, 40)

abbrev channel_close_ok : ℕ × ℕ
channel_close_ok = (20, 41)

-- the connection runs, and the channel is told that it closes, or open
pub record IsAnswered (c : Connection) (n : ℕ) : Type 0 where
  pub runs : is_running c.phase ≡ true
  pub told : (channel_at c n ≡ channel.Open → ⊥) → channel_at c n ≡ channel.Told

-- a channel.close-ok that counts is one of such a channel
pub record Frees (c : Connection) (x : machine.Step) : Type 0 where
  pub holds : (n : ℕ) → x.1 ≡ want.ChannelCloseOk n → IsAnswered c n

abbrev frees_none : Want91 → Bool
frees_none (want.ChannelCloseOk n) = false
frees_none x = true

none : (c : Connection) (x : machine.Step) → frees_none x.1 ≡ true → Frees c x
none c x e = record { holds = λ n f. absurd (let no : false ≡ true = sym (ap frees_none f) ∙ e in cc) }

answers : (c : Connection) (k n : ℕ) → IsAnswered c k → want.ChannelCloseOk k ≡ want.ChannelCloseOk n → IsAnswered c n
answers c k n a e = let same : k ≡ n = cc in subst (IsAnswered c) same a

freed : (c : Connection) (k : ℕ) (d : Connection) → IsAnswered c k → Frees c (d, want.ChannelCloseOk k)
freed c k d a = record { holds = λ n e. answers c k n a e }

pick : (c : Connection) (b : Bool) {x y : machine.Step} → (b ≡ true → Frees c x) → (b ≡ false → Frees c y) → Frees c (cond {A = machine.Step} b x y)
pick c true this rest = this refl
pick c false this rest = rest refl

told_by : (c : Connection) (n : ℕ) (answers : Bool) → eqb n 0 ≡ false → channel_order c n false ≡ None → closing_order c n false answers ≡ None
    → (channel_at c n ≡ channel.Open → ⊥) → channel_at c n ≡ channel.Told
told_by c n answers z e k off = by (eqb n 0) (nat_lt c.limits.channel_max n) (channel_at c n) z e k off
  where
    by : (zero above : Bool) (s : Channel91) → zero ≡ false
        → cond {A = Option Ruling} zero None (cond {A = Option Ruling} above (refused CHANNEL_ERROR) (state_order s false)) ≡ None
        → cond {A = Option Ruling} zero None (passed_over s false answers) ≡ None → (s ≡ channel.Open → ⊥) → s ≡ channel.Told
    by true above s z e k off = absurd cc
    by false true s z e k off = absurd cc
    by false false channel.Free z e k off = absurd cc
    by false false channel.Open z e k off = absurd (off refl)
    by false false channel.Closing z e k off = absurd cc
    by false false channel.Told z e k off = refl

answered : (c : Connection) (f : Frame91) (k : Kind) (args : List Arg) → is_running c.phase ≡ true → eqb f.channel 0 ≡ false → method_in f.payload ≡ Ok (k, args)
    → NoneOfMethod c f (Ok (k, args)) → is_of_kind channel_open k ≡ false → is_of_kind channel_close k ≡ false → IsAnswered c f.channel
answered c f k args runs z read places opens closes = record {
  runs = runs;
  told = told_by c f.channel (is_in channel_close_ok f.payload) z (ap (channel_order c f.channel) (sym (named channel_open opens)) ∙ places.channel)
      (ap (λ (b : Bool). closing_order c f.channel b (is_in channel_close_ok f.payload)) (sym (named channel_close closes)) ∙ places.closing);
}
  where
    ids : (class_in f.payload ≡ class_of k) × (id_in f.payload ≡ id_of k)
    ids = ids_known f.payload k args read

    named : (q : ℕ × ℕ) → is_of_kind q k ≡ false → is_in q f.payload ≡ false
    named q e = ap (λ (x : ℕ). has_ids q x (id_in f.payload)) ids.0 ∙ ap (has_ids q (class_of k)) ids.1 ∙ e

channel_frees : (c : Connection) (f : Frame91) (k : Kind) (args : List Arg) → is_running c.phase ≡ true → eqb f.channel 0 ≡ false → method_in f.payload ≡ Ok (k, args)
    → NoneOfMethod c f (Ok (k, args)) → Frees c (channel_effect c f.channel k args)
channel_frees c f k args runs z read rest =
    pick c (is_of_kind channel_open k) (λ e. none c _ refl) (λ opens.
    pick c (is_of_kind channel_close k) (λ e. none c _ refl) (λ closes.
    pick c (is_of_kind (20, 20) k) (λ e. none c _ refl) (λ e.
    pick c (is_of_kind (40, 10) k) (λ e. none c _ refl) (λ e.
    pick c (is_of_kind (50, 10) k) (λ e. none c _ refl) (λ e.
    pick c (is_of_kind (85, 10) k) (λ e. none c _ refl) (λ e.
    pick c (is_of_kind (60, 20) k) (λ e. none c _ refl) (λ e.
    pick c (is_of_kind (60, 70) k) (λ e. none c _ refl) (λ e.
    pick c (is_of_kind (60, 80) k) (λ e. none c _ refl) (λ e.
    pick c (is_of_kind (60, 90) k) (λ e. none c _ refl) (λ e.
    pick c (is_of_kind (60, 120) k) (λ e. none c _ refl) (λ e.
    pick c (is_of_kind (60, 10) k) (λ e. none c _ refl) (λ e.
    pick c (is_of_kind (60, 30) k) (λ e. none c _ refl) (λ e.
    pick c (is_of_kind (60, 110) k) (λ e. none c _ refl) (λ e.
    pick c (is_of_kind (60, 100) k) (λ e. none c _ refl) (λ e.
    pick c (is_of_kind (60, 40) k) (λ e. none c _ refl) (λ e. freed c f.channel _ (answered c f k args runs z read rest opens closes)))))))))))))))))

opening_frees : (c : Connection) (args : List Arg) (p : Phase91) → Frees c (opening_effect c args p)
opening_frees c args phase.Header = none c _ refl
opening_frees c args phase.Start = none c _ refl
opening_frees c args phase.Tune = none c _ refl
opening_frees c args phase.Open = none c _ refl
opening_frees c args phase.Running = none c _ refl
opening_frees c args phase.Closing = none c _ refl
opening_frees c args phase.Closed = none c _ refl

method_frees : (c : Connection) (f : Frame91) (read : Read) → method_in f.payload ≡ read → first (places c f read frame.Method) ≡ None → Frees c (method_effect c f.channel read)
method_frees c f (Err e) same p = none c _ refl
method_frees c f (Ok (k, args)) same p = by (is_running c.phase) refl (eqb f.channel 0) refl
  where
    by : (b : Bool) → is_running c.phase ≡ b → (z : Bool) → eqb f.channel 0 ≡ z
        → Frees c (cond b (cond z (record c { phase = phase.Closed; contents = no_contents }, want.Close) (channel_effect c f.channel k args)) (opening_effect c args c.phase))
    by true runs true z = none c _ refl
    by true runs false z = channel_frees c f k args runs z same (none_of_method c f (Ok (k, args)) p)
    by false runs b z = opening_frees c args c.phase

content_frees : (c : Connection) (n : ℕ) (o : Option Incoming) (t : Taking) → Frees c (content_effect c n o t)
content_frees c n None t = none c _ refl
content_frees c n (Some i) (Err x) = none c _ refl
content_frees c n (Some i) (Ok (x, step.More)) = none c _ refl
content_frees c n (Some i) (Ok (x, step.Whole d)) = none c _ refl

frame_frees : (c : Connection) (f : Frame91) (k : Kind91) → first (places c f (method_in f.payload) k) ≡ None → Frees c (frame_effect c f.channel f.payload k)
frame_frees c f frame.Method p = method_frees c f (method_in f.payload) refl p
frame_frees c f frame.Header p = content_frees c f.channel _ _
frame_frees c f frame.Body p = content_frees c f.channel _ _
frame_frees c f frame.Heartbeat p = none c _ refl

ordered_frees : (c : Connection) (u : Unit91) → Frees c (ordered_step c u)
ordered_frees c u = by (unit_ruling c u) refl
  where
    effect : (v : Unit91) → unit_ruling c v ≡ None → Frees c (unit_effect c v)
    effect unit.Protocol e = none c _ refl
    effect (unit.Bad code) e = none c _ refl
    effect (unit.Frame f) e = frame_frees c f f.kind e

    by : (o : Option Ruling) → unit_ruling c u ≡ o → Frees c (ruled_step c u o)
    by None e = effect u e
    by (Some ruling.PassedOver) e = none c _ refl
    by (Some (ruling.Refused code)) e = none c _ refl
    by (Some (ruling.MethodRefused code)) e = none c _ refl
    by (Some (ruling.ChannelRefused code)) e = none c _ refl

closed_frees : (c : Connection) (u : Unit91) → Frees c (closed_step c u)
closed_frees c u = pick c (is_unit_of connection_close_ok u) (λ e. none c _ refl) (λ e. none c _ refl)

unit_frees : (c : Connection) (u : Unit91) → Frees c (unit_step c u)
unit_frees c u = by c.phase
  where
    header : (v : Unit91) → Frees c (header_step c v)
    header unit.Protocol = none c _ refl
    header (unit.Frame f) = none c _ refl
    header (unit.Bad code) = none c _ refl

    by : (p : Phase91) → Frees c (step_in p c u)
    by phase.Header = header u
    by phase.Start = ordered_frees c u
    by phase.Tune = ordered_frees c u
    by phase.Open = ordered_frees c u
    by phase.Running = ordered_frees c u
    by phase.Closing = pick c (is_unit_of connection_close u) (λ e. none c _ refl) (λ e. closed_frees c u)
    by phase.Closed = closed_frees c u

-- and where the gateway refuses it
pub client_frees : (rs : List Route) (ps : List (Option PathState)) (c : Connection) (u : Unit91) → Frees c (client_step rs ps c u)
client_frees rs ps c u = by (unit_step c u) (unit_frees c u)
  where
    request : (d : Connection) (k : ℕ) (m : Method91) (x : Want91) (o : Option ℕ) → frees_none x ≡ true → Frees c (refused_by (refused_for k m o) (d, x))
    request d k m x None e = none c (d, x) e
    request d k m x (Some code) e = at (code == NOT_ALLOWED)
      where
        at : (b : Bool) → Frees c (refused_by (Some (if b then refusal_with code (class_of (kind_of m)) (id_of (kind_of m)) else record {
          code = code;
          scope = scope.Channel;
          channel = k;
          class = class_of (kind_of m);
          method = id_of (kind_of m);
        })) (d, x))
        at true = none c _ refl
        at false = none c _ refl

    by : (x : machine.Step) → Frees c x → Frees c (refused_by (refusal_of_want rs ps x.1) x)
    by (d, want.Method k m) t = request d k m (want.Method k m) (method_fault rs (path_at ps k) m) refl
    by (d, want.Publish k m b) t = request d k m (want.Publish k m b) (publish_fault rs (message_of m b)) refl
    by (d, y) t = t
