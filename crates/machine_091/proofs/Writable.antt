-- What a client publishes can be written again: each step of a connection keeps it so of the
-- contents in progress, and hands no other content out.
use Rattle.std.proofs.Common.{◌≡◌, ℕ, List, [], Option, None, Some, Result, Ok, Err, IfOk, OnOk}
use Rattle.std.proofs.Common.{OnErr, refl, sym, subst}
use Rattle.close_translate.specs.declared.conditions.Scope.{Scope}
use Rattle.close_translate.specs.declared.conditions.Scope.TheVariants as scope
use Rattle.wire_base.specs.Bytes.{IsBytes}
use Rattle.wire_base.specs.declared.memory.Memory.{Memory}
use Rattle.frames_091.specs.declared.frame.Kind91.{Kind91}
use Rattle.frames_091.specs.declared.frame.Kind91.TheVariants as frame
use Rattle.methods_091.specs.Arguments.{Arg}
use Rattle.methods_091.specs.Rows.{Kind}
use Rattle.methods_091.specs.Writing.{CanPut}
use Rattle.methods_091.proofs.Writable.{method_writable}
use Rattle.content_091.specs.Assembling.{Adds, Joins}
use Rattle.content_091.specs.View.{props_of}
use Rattle.content_091.specs.Writing.{CanPutAll}
use Rattle.content_091.specs.declared.assembly.Assembly.{Assembly}
use Rattle.content_091.specs.declared.assembly.Content.{Content}
use Rattle.content_091.specs.declared.assembly.Partial.{Partial}
use Rattle.content_091.specs.declared.assembly.Step as content
use Rattle.content_091.specs.declared.assembly.Step.TheVariants as step
use Rattle.content_091.proofs.Written.{header_writable}
use Rattle.frames_091.specs.declared.frame.Frame91.{Frame91}
use Rattle.machine_091.specs.Calls.{closing_phase, closing_contents, closing_channel, after_closing}
use Rattle.machine_091.specs.Calls.{told_channel, after_told, freed_channel, after_closed}
use Rattle.machine_091.specs.Calls.{after_ended}
use Rattle.machine_091.specs.Contents.{no_contents, begun, taken}
use Rattle.machine_091.specs.Methods.{publish_of}
use Rattle.machine_091.specs.Refusals.{channel_of}
use Rattle.machine_091.specs.State.{new_connection, channel_at, with_channel, with_content}
use Rattle.machine_091.specs.Transitions.{Step, unit_step}
use Rattle.machine_091.specs.Transitions as machine
use Rattle.machine_091.specs.Writable.{CanPutBack, CanPutStage, CanPutStep, CanPutContents, AreBytes}
use Rattle.machine_091.specs.declared.contents.Incoming.{Incoming}
use Rattle.machine_091.specs.declared.state.Channel91.{Channel91}
use Rattle.machine_091.specs.declared.state.Channel91.TheVariants as channel
use Rattle.machine_091.specs.declared.state.Connection.{Connection}
use Rattle.machine_091.specs.declared.state.Phase91.{Phase91}
use Rattle.machine_091.specs.declared.state.Phase91.TheVariants as phase
use Rattle.machine_091.specs.declared.unit.Unit91.{Unit91}
use Rattle.machine_091.specs.declared.unit.Want91.{Want91}
use Rattle.machine_091.proofs.ContentLaws.{IsSet, Here, There, content_set, nothing_at}
use Rattle.machine_091.proofs.Joining.{header_joins, body_made}
use Rattle.machine_091.proofs.Spelled.{publish_spelled}
use Rattle.machine_091.proofs.StepCases.{IsBeginning, IsTaken, step_rows}

-- ---- a frame of a content

-- what a frame leaves of a content, and what is whole with it
abbrev Puts : Assembly → content.Step → Type 0
Puts a s = CanPutStage a.stage × CanPutStep s

joins_put : (a : Assembly) (payload : List ℕ) (s : content.Step) → Joins a payload [] s → Puts a s
joins_put a payload step.More (c, left, missing, some, spelled, none, few) =
    (subst CanPutStage (sym missing) (header_writable _ payload spelled), tt)
joins_put a payload (step.Whole d) (whole, (spelled, none, few)) =
    (subst CanPutStage (sym whole) tt, header_writable _ payload spelled)

-- a payload leaves the properties
adds_put : (p : Partial) (payload : List ℕ) (a : Assembly) (s : content.Step) → Adds p payload a s → CanPutAll (props_of p.content.props) → Puts a s
adds_put p payload a step.More (less, missing) puts = (subst CanPutStage (sym missing) puts, tt)
adds_put p payload a (step.Whole d) (all, whole, is) puts =
    (subst CanPutStage (sym whole) tt, subst (λ (c : Content). CanPutAll (props_of c.props)) (sym is) puts)

taken_puts : (k : Kind91) (payload : List ℕ) (i : Incoming) (a : Assembly) (s : content.Step) → IsBytes payload → CanPutStage i.assembly.stage
    → taken k payload (Some i) ≡ Ok (a, s) → Puts a s
taken_puts frame.Method payload i a s fits puts e = absurd cc
taken_puts frame.Header payload i a s fits puts e = joins_put a payload s (header_joins payload i.assembly.stage a s e fits)
taken_puts frame.Body payload i a s fits puts e =
    let b = body_made payload i.assembly.stage a s e in
    adds_put b.partial payload a s b.adds (subst CanPutStage b.there puts)
taken_puts frame.Heartbeat payload i a s fits puts e = absurd cc

-- ---- the contents in progress

abbrev PutsOne : Incoming → Type 0
PutsOne i = CanPutStage i.assembly.stage × CanPut i.method

one_is : (i j : Incoming) → Some i ≡ Some j → PutsOne i → PutsOne j
one_is i j e puts = let same : i ≡ j = cc in subst PutsOne same puts

none_puts : (c : Connection) → c.contents ≡ no_contents → CanPutContents c
none_puts c none n i e = let k = nothing_at c n none in absurd cc

set_puts : (c : Connection) (n : ℕ) (o : Option Incoming) → CanPutContents c
    → ((i : Incoming) → o ≡ Some i → PutsOne i) → CanPutContents (with_content c n o)
set_puts c n o h own m i e = by (content_set c n m o i e)
  where
    by : IsSet c n o m i → PutsOne i
    by (Here same is) = own i is
    by (There apart is) = h m i is

-- no call but `take` begins one
pub closing_puts : (s : Scope) (n : ℕ) (c : Connection) → CanPutContents c → CanPutContents (after_closing s n c)
closing_puts scope.Connection n c h = by c.phase
  where
    dropped : Connection
    dropped = record c { phase = phase.Closing; contents = no_contents }

    by : (p : Phase91) → CanPutContents (record c { phase = closing_phase p; contents = closing_contents p c.contents })
    by phase.Header = none_puts dropped refl
    by phase.Start = none_puts dropped refl
    by phase.Tune = none_puts dropped refl
    by phase.Open = none_puts dropped refl
    by phase.Running = none_puts dropped refl
    by phase.Closing = h
    by phase.Closed = h
closing_puts scope.Channel n c h = by (channel_at c n)
  where
    by : (x : Channel91) → CanPutContents (closing_channel x n c)
    by channel.Free = h
    by channel.Open = set_puts (with_channel c n channel.Closing) n None h (λ i e. absurd cc)
    by channel.Closing = h
    by channel.Told = h

pub told_puts : (n : ℕ) (c : Connection) → CanPutContents c → CanPutContents (after_told n c)
told_puts n c h = by (channel_at c n)
  where
    by : (x : Channel91) → CanPutContents (told_channel x n c)
    by channel.Free = h
    by channel.Open = h
    by channel.Closing = h
    by channel.Told = h

pub freed_puts : (n : ℕ) (c : Connection) → CanPutContents c → CanPutContents (after_closed n c)
freed_puts n c h = by (channel_at c n)
  where
    by : (x : Channel91) → CanPutContents (freed_channel x n c)
    by channel.Free = h
    by channel.Open = h
    by channel.Closing = h
    by channel.Told = h

pub new_puts : (vhost : List ℕ) → CanPutContents (new_connection vhost)
new_puts vhost = none_puts (new_connection vhost) refl

pub ended_puts : (c : Connection) → CanPutContents (after_ended c)
ended_puts c = none_puts (after_ended c) refl

-- ---- a unit

begun_puts : (c : Connection) (u : Unit91) (f : Frame91) (k : Kind) (args : List Arg) → AreBytes u → IsBeginning c u f k args → CanPut (publish_of args)
begun_puts c u f k args fits b =
    method_writable (publish_of args) f.payload (publish_spelled f.payload k args (subst AreBytes b.unit fits) b.read b.publish)

frame_puts : (c : Connection) (u : Unit91) (f : Frame91) (i : Incoming) (a : Assembly) (s : content.Step) → AreBytes u → CanPutContents c → IsTaken c u f i a s → Puts a s
frame_puts c u f i a s fits h t = taken_puts f.kind f.payload i a s (subst AreBytes t.unit fits) (h f.channel i t.at).0 t.is

pub step_puts : (c : Connection) (u : Unit91) → AreBytes u → CanPutContents c → CanPutContents (unit_step c u).0 × CanPutBack (unit_step c u).1
step_puts c u fits h = step_rows (λ (x : Step). CanPutContents x.0 × CanPutBack x.1) c u (record {
  greeted = λ e. (h, tt);
  foreign = λ e. (h, tt);
  refused = λ code e ruled. (none_puts (machine.refused c u code) refl, tt);
  publish_refused = λ code e ruled. (none_puts (machine.refused c u code) refl, tt);
  channel_refused = λ code on large ruled. (closing_puts scope.Channel (channel_of u) c h, tt);
  nothing = λ idle. (h, tt);
  login = λ a b e named. (h, tt);
  tuned = λ channels size heartbeat e agreed. (h, tt);
  asked = λ e. (h, tt);
  closed = λ e. (none_puts (record c { phase = phase.Closed; contents = no_contents }) refl, tt);
  opened = λ n m o. (h, o.short fits);
  ended = λ n m o. (h, o.short fits);
  passed_on = λ n m o. (h, o.short fits);
  begun = λ f k args b. (
    set_puts c f.channel (Some (begun (publish_of args))) h (λ j e. one_is (begun (publish_of args)) j e (tt, begun_puts c u f k args fits b)),
    tt,
  );
  grown = λ f i a t. (
    set_puts c f.channel (Some (record i { assembly = a })) h
        (λ j e. one_is (record i { assembly = a }) j e ((frame_puts c u f i a step.More fits h t).0, (h f.channel i t.at).1)),
    tt,
  );
  published = λ f i a d t later. (
    set_puts c f.channel None h (λ j e. absurd cc),
    ((frame_puts c u f i a (step.Whole d) fits h t).1, (h f.channel i t.at).1),
  );
  freed = λ n o. (h, tt);
  crossed = λ e. (h, tt);
  answered = λ e. (h, tt);
  passed = λ e. (h, tt);
})

-- ---- the clauses, of what `take` answers

-- what holds before and after a unit holds also where memory ran out
pub kept_by : (P : Connection → Type 0) (answer : Result Want91 Memory) (c after : Connection) (u : Unit91) → OnOk answer (after ≡ (unit_step c u).0)
    → OnErr answer (after ≡ c) → P (unit_step c u).0 → P c → P after
kept_by P (Ok w) c after u ok err stays h = subst P (sym ok) stays
kept_by P (Err m) c after u ok err stays h = subst P (sym err) h

pub want_puts : (answer : Result Want91 Memory) (c : Connection) (u : Unit91) → AreBytes u → CanPutContents c → IfOk answer (λ w. w ≡ (unit_step c u).1)
    → IfOk answer CanPutBack
want_puts (Ok w) c u fits h is = subst CanPutBack (sym is) (step_puts c u fits h).1
want_puts (Err m) c u fits h is = tt
