-- A content that is published is that of the last frames of its channel.
use Rattle.std.proofs.Common.{◌≡◌, Option, ℕ, ◌≤◌, Bool, true, false, ◌&&◌, cond, eqb, List, []}
use Rattle.std.proofs.Common.{◌∷◌, ◌++◌, None, Some, refl, sym, ap, subst, ◌∙◌, arith}
use Rattle.std.proofs.lemmas.Bool.{eqb-true}
use Rattle.std.proofs.lemmas.Bool.Decides.{nat_tests}
use Rattle.std.proofs.lemmas.List.{append-nil, append_assoc}
use Rattle.std.specs.Prelude.{is_some}
use Rattle.close_translate.specs.declared.conditions.Scope.TheVariants as scope
use Rattle.wire_base.specs.Bytes.{IsBytes}
use Rattle.frames_091.specs.declared.frame.Frame91.{Frame91}
use Rattle.frames_091.specs.declared.frame.Kind91.TheVariants as frame
use Rattle.methods_091.specs.Arguments.{Arg}
use Rattle.methods_091.specs.Grammar.{IsMethod}
use Rattle.methods_091.specs.Rows.{Kind}
use Rattle.methods_091.specs.View.{kind_of}
use Rattle.methods_091.specs.declared.method.Method91.{Method91}
use Rattle.content_091.specs.declared.assembly.Assembly.{Assembly}
use Rattle.content_091.specs.declared.assembly.Content.{Content}
use Rattle.content_091.specs.declared.assembly.Step.TheVariants as step
use Rattle.machine_091.specs.Calls.{closing_channel, closing_contents, after_closing, told_channel}
use Rattle.machine_091.specs.Calls.{after_told, freed_channel, after_closed}
use Rattle.machine_091.specs.Contents.{no_contents, begun, is_immediate}
use Rattle.machine_091.specs.Ids.{is_of_kind}
use Rattle.machine_091.specs.Laws.{Call91, Take, Opened, Closing, Told, Closed, Ended, after_call}
use Rattle.machine_091.specs.Laws.{after_calls, frames_on, frame_of, unit_frames, call_frames}
use Rattle.machine_091.specs.Laws.{is_used, IsPublished}
use Rattle.machine_091.specs.Methods.{publish_of}
use Rattle.machine_091.specs.Refusals.{channel_of}
use Rattle.machine_091.specs.State.{new_connection, is_running, is_open_channel, is_open}
use Rattle.machine_091.specs.State.{channel_at, content_at, with_channel}
use Rattle.machine_091.specs.Transitions.{Step, unit_step}
use Rattle.machine_091.specs.Transitions as machine
use Rattle.machine_091.specs.declared.contents.Incoming.{Incoming}
use Rattle.machine_091.specs.declared.ids.TheConstants.{BASIC_PUBLISH}
use Rattle.machine_091.specs.declared.state.Channel91.{Channel91}
use Rattle.machine_091.specs.declared.state.Channel91.TheVariants as channel
use Rattle.machine_091.specs.declared.state.Connection.{Connection}
use Rattle.machine_091.specs.declared.state.Phase91.{Phase91}
use Rattle.machine_091.specs.declared.state.Phase91.TheVariants as phase
use Rattle.machine_091.specs.declared.unit.Unit91.{Unit91}
use Rattle.machine_091.specs.declared.unit.Unit91.TheVariants as unit
use Rattle.machine_091.specs.declared.unit.Want91.{Want91}
use Rattle.machine_091.specs.declared.unit.Want91.TheVariants as want
use Rattle.machine_091.proofs.CallLaws.{channels_hold}
use Rattle.machine_091.proofs.ContentLaws.{IsSet, Here, There, content_set, nothing_at}
use Rattle.machine_091.proofs.ContentLaws.{closing_stopped, sound_contents}
use Rattle.machine_091.proofs.Joining.{Progress, Alone, frame_is, frame_goes}
use Rattle.machine_091.proofs.Spelled.{publish_spelled}
use Rattle.machine_091.proofs.StepCases.{IsBeginning, IsTaken, step_rows}

-- ---- the frames of a channel since the method of its content

record IsSince (frames : List Frame91) (n : ℕ) (i : Incoming) : Type 0 where
  before : List Frame91
  publish : List ℕ
  rest : List Frame91
  parts : frames ≡ before ++ frame_of frame.Method n publish ∷ rest
  kind : is_of_kind BASIC_PUBLISH (kind_of i.method) ≡ true
  method : IsBytes publish → IsMethod i.method publish
  progress : Progress rest n i

-- so it is on each channel
abbrev Since : List Call91 → Connection → Type 0
Since h c = (n : ℕ) (i : Incoming) → content_at c n ≡ Some i → IsSince (frames_on n h) n i

-- ---- the frames of a unit

other_frames : (u : Unit91) (n : ℕ) → (channel_of u ≡ n → ⊥) → unit_frames n u ≡ []
other_frames unit.Protocol n apart = refl
other_frames (unit.Bad code) n apart = refl
other_frames (unit.Frame f) n apart = by (eqb f.channel n) refl
  where
    by : (b : Bool) → eqb f.channel n ≡ b → cond {A = List Frame91} b (f ∷ []) [] ≡ []
    by true e = absurd (apart (eqb-true f.channel n e))
    by false e = refl

own_frames : (f : Frame91) (n : ℕ) → f.channel ≡ n → unit_frames n (unit.Frame f) ≡ f ∷ []
own_frames f n same = by (eqb f.channel n) refl
  where
    by : (b : Bool) → eqb f.channel n ≡ b → cond {A = List Frame91} b (f ∷ []) [] ≡ f ∷ []
    by true e = refl
    by false e = absurd (grind (arith, nat_tests, same, e))

-- ---- nothing came on the channel

same_frames : (frames : List Frame91) (n : ℕ) (i : Incoming) → IsSince frames n i → IsSince (frames ++ []) n i
same_frames frames n i s = subst (λ (fs : List Frame91). IsSince fs n i) (sym (append-nil frames)) s

kept : (h : List Call91) (c : Connection) (u : Unit91) (n : ℕ) (i : Incoming) → Since h c → content_at c n ≡ Some i → (channel_of u ≡ n → ⊥)
    → IsSince (frames_on n h ++ unit_frames n u) n i
kept h c u n i s e apart =
    subst (λ (fs : List Frame91). IsSince (frames_on n h ++ fs) n i) (sym (other_frames u n apart)) (same_frames (frames_on n h) n i (s n i e))

-- ---- a frame of the content came

-- one frame more
more_parts : (frames before rest : List Frame91) (g f : Frame91) → frames ≡ before ++ g ∷ rest → frames ++ f ∷ [] ≡ before ++ g ∷ (rest ++ f ∷ [])
more_parts frames before rest g f is = ap (λ (fs : List Frame91). fs ++ f ∷ []) is ∙ append_assoc before (g ∷ rest) (f ∷ [])

-- a method began it
begins : (h : List Call91) (c : Connection) (u : Unit91) (f : Frame91) (k : Kind) (args : List Arg) → IsBeginning c u f k args
    → IsSince (frames_on f.channel h ++ unit_frames f.channel u) f.channel (begun (publish_of args))
begins h c u f k args b = record {
  before = frames_on f.channel h;
  publish = f.payload;
  rest = [];
  parts =
      ap (λ (v : Unit91). frames_on f.channel h ++ unit_frames f.channel v) b.unit
      ∙ ap (λ (fs : List Frame91). frames_on f.channel h ++ fs) (own_frames f f.channel refl)
      ∙ ap (λ (g : Frame91). frames_on f.channel h ++ g ∷ []) (frame_is f frame.Method f.channel b.kind refl);
  kind = refl;
  method = λ fits. publish_spelled f.payload k args fits b.read b.publish;
  progress = Alone refl refl;
}

-- the frames with the one that was taken
taken_frames : (h : List Call91) (c : Connection) (u : Unit91) (f : Frame91) (i : Incoming) (a : Assembly) (s : _) → IsTaken c u f i a s
    → frames_on f.channel h ++ unit_frames f.channel u ≡ frames_on f.channel h ++ f ∷ []
taken_frames h c u f i a s t =
    ap (λ (v : Unit91). frames_on f.channel h ++ unit_frames f.channel v) t.unit
    ∙ ap (λ (fs : List Frame91). frames_on f.channel h ++ fs) (own_frames f f.channel refl)

grows : (h : List Call91) (c : Connection) (u : Unit91) (f : Frame91) (i : Incoming) (a : Assembly) → Since h c → IsTaken c u f i a step.More
    → IsSince (frames_on f.channel h ++ unit_frames f.channel u) f.channel (record i { assembly = a })
grows h c u f i a s t =
    let b = s f.channel i t.at in
    record {
      before = b.before;
      publish = b.publish;
      rest = b.rest ++ f ∷ [];
      parts = taken_frames h c u f i a step.More t ∙ more_parts (frames_on f.channel h) b.before b.rest (frame_of frame.Method f.channel b.publish) f b.parts;
      kind = b.kind;
      method = b.method;
      progress = frame_goes b.rest f f.channel i a step.More refl t.kind t.is b.progress;
    }

-- the content is whole
whole_is : (h : List Call91) (c : Connection) (u : Unit91) (f : Frame91) (i : Incoming) (a : Assembly) (d : Content) → Since h c
    → IsTaken c u f i a (step.Whole d) → is_immediate i.method ≡ false → IsPublished (frames_on f.channel h ++ unit_frames f.channel u) f.channel i.method d
whole_is h c u f i a d s t later =
    let b = s f.channel i t.at in
    let g = frame_goes b.rest f f.channel i a (step.Whole d) refl t.kind t.is b.progress in
    record {
      before = b.before;
      publish = b.publish;
      header = g.0;
      payloads = g.1;
      parts =
          taken_frames h c u f i a (step.Whole d) t
          ∙ more_parts (frames_on f.channel h) b.before b.rest (frame_of frame.Method f.channel b.publish) f b.parts
          ∙ ap (λ (fs : List Frame91). b.before ++ frame_of frame.Method f.channel b.publish ∷ fs) g.2;
      kind = b.kind;
      immediate = later;
      method = b.method;
      content = g.3;
    }

-- ---- each unit

-- an open channel has a number from 1
open_min : (vhost : List ℕ) (h : List Call91) (n : ℕ) → is_open (after_calls vhost h) n ≡ true → 1 ≤ n
open_min vhost h n e = (channels_hold vhost h).min n (by (is_running (after_calls vhost h).phase) (channel_at (after_calls vhost h) n) e)
  where
    by : (b : Bool) (s : Channel91) → (b && is_open_channel s) ≡ true → is_used s ≡ true
    by true channel.Free e = absurd cc
    by true channel.Open e = refl
    by true channel.Closing e = absurd cc
    by true channel.Told e = absurd cc
    by false s e = absurd cc

since_unit : (vhost : List ℕ) (h : List Call91) (u : Unit91) → Since h (after_calls vhost h)
    → (n : ℕ) (i : Incoming) → content_at (unit_step (after_calls vhost h) u).0 n ≡ Some i → IsSince (frames_on n h ++ unit_frames n u) n i
since_unit vhost h u s n i = step_rows (λ (x : Step). content_at x.0 n ≡ Some i → Goal) c u (record {
  greeted = λ e k. never (none (ap is_running e)) k;
  foreign = λ e k. never (none (ap is_running e)) k;
  refused = λ code e ruled k. cleared (machine.refused c u code) refl k;
  publish_refused = λ code e ruled k. cleared (machine.refused c u code) refl k;
  channel_refused = λ code on large ruled k. closes (channel_of u) refl (channel_at c (channel_of u)) on.opened k;
  nothing = λ idle k. kept h c u n i s k (apart_idle idle k);
  login = λ a b e named k. never (none (ap is_running e)) k;
  tuned = λ channels size heartbeat e agreed k. never (none (ap is_running e)) k;
  asked = λ e k. never (none (ap is_running e)) k;
  closed = λ e k. cleared (record c { phase = phase.Closed; contents = no_contents }) refl k;
  opened = λ m x o k. kept h c u n i s k (apart_none m o.of o.none k);
  ended = λ m x o k. kept h c u n i s k (apart_none m o.of o.none k);
  passed_on = λ m x o k. kept h c u n i s k (apart_none m o.of o.none k);
  begun = λ f kind args b k. on_begun f kind args b (content_set c f.channel n (Some (begun (publish_of args))) i k);
  grown = λ f j a t k. on_grown f j a t (content_set c f.channel n (Some (record j { assembly = a })) i k);
  published = λ f j a d t later k. on_none f (ap channel_of t.unit) (content_set c f.channel n None i k);
  freed = λ m o k. kept h c u n i s k (apart_none m o.of o.none k);
  crossed = λ e k. never (none (ap is_running e)) k;
  answered = λ e k. never (none (closing_stopped c.phase e)) k;
  passed = λ e k. never (none (closing_stopped c.phase e)) k;
})
  where
    c : Connection
    c = after_calls vhost h

    Goal : Type 0
    Goal = IsSince (frames_on n h ++ unit_frames n u) n i

    none : is_running c.phase ≡ false → c.contents ≡ no_contents
    none = (sound_contents vhost h).none

    never : c.contents ≡ no_contents → content_at c n ≡ Some i → Goal
    never e k = let l : content_at c n ≡ None = nothing_at c n e in absurd cc

    cleared : (e : Connection) → e.contents ≡ no_contents → content_at e n ≡ Some i → Goal
    cleared e none k = let l : content_at e n ≡ None = nothing_at e n none in absurd cc

    -- a unit of no open channel
    apart_idle : (is_open c (channel_of u) ≡ true → channel_of u ≡ 0) → content_at c n ≡ Some i → channel_of u ≡ n → ⊥
    apart_idle idle k same =
        let opened : is_open c n ≡ true = (sound_contents vhost h).on_open n (ap is_some k) in
        let min : 1 ≤ n = open_min vhost h n opened in
        let zero : channel_of u ≡ 0 = idle (ap (is_open c) same ∙ opened) in
        omega (arith, min, zero, same)

    -- a unit of a channel without one
    apart_none : (m : ℕ) → channel_of u ≡ m → content_at c m ≡ None → content_at c n ≡ Some i → channel_of u ≡ n → ⊥
    apart_none m of empty k same =
        let l : content_at c n ≡ None = ap (content_at c) (sym same ∙ of) ∙ empty in absurd cc

    on_none : (f : Frame91) → channel_of u ≡ f.channel → IsSet c f.channel None n i → Goal
    on_none f of (Here same is) = absurd cc
    on_none f of (There apart is) = kept h c u n i s is (λ k. apart (sym k ∙ of))

    closes : (m : ℕ) → channel_of u ≡ m → (x : Channel91) → is_open_channel x ≡ true → content_at (closing_channel x m c) n ≡ Some i → Goal
    closes m of channel.Free opened k = absurd cc
    closes m of channel.Open opened k = by (content_set (with_channel c m channel.Closing) m n None i k)
      where
        by : IsSet (with_channel c m channel.Closing) m None n i → Goal
        by (Here same is) = absurd cc
        by (There apart is) = kept h c u n i s is (λ k. apart (sym k ∙ of))
    closes m of channel.Closing opened k = absurd cc
    closes m of channel.Told opened k = absurd cc

    on_begun : (f : Frame91) (kind : Kind) (args : List Arg) → IsBeginning c u f kind args → IsSet c f.channel (Some (begun (publish_of args))) n i → Goal
    on_begun f kind args b (Here same is) =
        let j : begun (publish_of args) ≡ i = some_same (begun (publish_of args)) is in
        subst (λ (m : ℕ). IsSince (frames_on m h ++ unit_frames m u) m i) (sym same)
        (subst (λ (x : Incoming). IsSince (frames_on f.channel h ++ unit_frames f.channel u) f.channel x) j (begins h c u f kind args b))
      where
        some_same : (x : Incoming) → Some x ≡ Some i → x ≡ i
        some_same x e = cc
    on_begun f kind args b (There apart is) = kept h c u n i s is (λ k. apart (sym k ∙ ap channel_of b.unit))

    on_grown : (f : Frame91) (j : Incoming) (a : Assembly) → IsTaken c u f j a step.More → IsSet c f.channel (Some (record j { assembly = a })) n i → Goal
    on_grown f j a t (Here same is) =
        let k : record j { assembly = a } ≡ i = some_same (record j { assembly = a }) is in
        subst (λ (m : ℕ). IsSince (frames_on m h ++ unit_frames m u) m i) (sym same)
        (subst (λ (x : Incoming). IsSince (frames_on f.channel h ++ unit_frames f.channel u) f.channel x) k (grows h c u f j a s t))
      where
        some_same : (x : Incoming) → Some x ≡ Some i → x ≡ i
        some_same x e = cc
    on_grown f j a t (There apart is) = kept h c u n i s is (λ k. apart (sym k ∙ ap channel_of t.unit))

-- ---- the other calls

-- none of them puts one in progress
closed_before : (m n : ℕ) (c : Connection) (i : Incoming) → content_at (after_closing scope.Channel m c) n ≡ Some i → content_at c n ≡ Some i
closed_before m n c i k = by (channel_at c m) k
  where
    set : IsSet (with_channel c m channel.Closing) m None n i → content_at c n ≡ Some i
    set (Here same is) = absurd cc
    set (There apart is) = is

    by : (x : Channel91) → content_at (closing_channel x m c) n ≡ Some i → content_at c n ≡ Some i
    by channel.Free k = k
    by channel.Open k = set (content_set (with_channel c m channel.Closing) m n None i k)
    by channel.Closing k = k
    by channel.Told k = k

told_before : (m n : ℕ) (c : Connection) (i : Incoming) → content_at (after_told m c) n ≡ Some i → content_at c n ≡ Some i
told_before m n c i k = by (channel_at c m) k
  where
    by : (x : Channel91) → content_at (told_channel x m c) n ≡ Some i → content_at c n ≡ Some i
    by channel.Free k = k
    by channel.Open k = k
    by channel.Closing k = k
    by channel.Told k = k

freed_before : (m n : ℕ) (c : Connection) (i : Incoming) → content_at (after_closed m c) n ≡ Some i → content_at c n ≡ Some i
freed_before m n c i k = by (channel_at c m) k
  where
    by : (x : Channel91) → content_at (freed_channel x m c) n ≡ Some i → content_at c n ≡ Some i
    by channel.Free k = k
    by channel.Open k = k
    by channel.Closing k = k
    by channel.Told k = k

dropped_before : (m n : ℕ) (c : Connection) (i : Incoming)
    → content_at (after_closing scope.Connection m c) n ≡ Some i → content_at c n ≡ Some i
dropped_before m n c i k = by c.phase k
  where
    at : Phase91 → Option Incoming
    at p = content_at (record c { contents = closing_contents p c.contents }) n

    none : (k : at phase.Header ≡ Some i) → content_at c n ≡ Some i
    none k = let l : at phase.Header ≡ None = nothing_at (record c { contents = no_contents }) n refl in absurd cc

    by : (p : Phase91) → at p ≡ Some i → content_at c n ≡ Some i
    by phase.Header k = none k
    by phase.Start k = none k
    by phase.Tune k = none k
    by phase.Open k = none k
    by phase.Running k = none k
    by phase.Closing k = k
    by phase.Closed k = k

since_call : (vhost : List ℕ) (h : List Call91) (x : Call91) → Since h (after_calls vhost h) → Since (x ∷ h) (after_call x (after_calls vhost h))
since_call vhost h x s n i e = by x e
  where
    c : Connection
    c = after_calls vhost h

    same : content_at c n ≡ Some i → IsSince (frames_on n h ++ []) n i
    same k = same_frames (frames_on n h) n i (s n i k)

    by : (x : Call91) → content_at (after_call x c) n ≡ Some i → IsSince (frames_on n h ++ call_frames n x) n i
    by (Take u) k = since_unit vhost h u s n i k
    by (Opened most) k = same k
    by (Closing scope.Connection m) k = same (dropped_before m n c i k)
    by (Closing scope.Channel m) k = same (closed_before m n c i k)
    by (Told m) k = same (told_before m n c i k)
    by (Closed m) k = same (freed_before m n c i k)
    by Ended k = let l : content_at (after_call Ended c) n ≡ None = nothing_at (after_call Ended c) n refl in absurd cc

since_calls : (vhost : List ℕ) (h : List Call91) → Since h (after_calls vhost h)
since_calls vhost [] n i e = let l : content_at (new_connection vhost) n ≡ None = nothing_at (new_connection vhost) n refl in absurd cc
since_calls vhost (x ∷ h) n i e = since_call vhost h x (since_calls vhost h) n i e

-- ---- what is published

abbrev channel_told : Want91 → ℕ
channel_told (want.Publish n m d) = n
channel_told x = 0

abbrev method_told : Method91 → Want91 → Method91
method_told m (want.Publish n x d) = x
method_told m x = m

abbrev content_told : Content → Want91 → Content
content_told d (want.Publish n m x) = x
content_told d x = d

pub publishes_last : (vhost : List ℕ) (h : List Call91) (u : Unit91) (n : ℕ) (m : Method91) (d : Content)
    → (unit_step (after_calls vhost h) u).1 ≡ want.Publish n m d → IsPublished (frames_on n (Take u ∷ h)) n m d
publishes_last vhost h u n m d = step_rows (λ (x : Step). x.1 ≡ want.Publish n m d → IsPublished (frames_on n (Take u ∷ h)) n m d) (after_calls vhost h) u (record {
  greeted = λ e k. absurd cc;
  foreign = λ e k. absurd cc;
  refused = λ code e ruled k. absurd cc;
  publish_refused = λ code e ruled k. absurd cc;
  channel_refused = λ code on large ruled k. absurd cc;
  nothing = λ idle k. absurd cc;
  login = λ a b e named k. absurd cc;
  tuned = λ channels size heartbeat e agreed k. absurd cc;
  asked = λ e k. absurd cc;
  closed = λ e k. absurd cc;
  opened = λ x y o k. absurd cc;
  ended = λ x y o k. absurd cc;
  passed_on = λ x y o k. absurd cc;
  begun = λ f kind args b k. absurd cc;
  grown = λ f i a t k. absurd cc;
  published = λ f i a x t later k.
      subst (λ (y : ℕ). IsPublished (frames_on y (Take u ∷ h)) y m d) (ap channel_told k)
      (subst (λ (y : Method91). IsPublished (frames_on f.channel (Take u ∷ h)) f.channel y d) (ap (method_told i.method) k)
      (subst (λ (y : Content). IsPublished (frames_on f.channel (Take u ∷ h)) f.channel i.method y) (ap (content_told x) k)
      (whole_is h (after_calls vhost h) u f i a x (since_calls vhost h) t later)));
  freed = λ x o k. absurd cc;
  crossed = λ e k. absurd cc;
  answered = λ e k. absurd cc;
  passed = λ e k. absurd cc;
})
