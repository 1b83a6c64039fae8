-- What a unit may do to a client's connection.
use Rattle.std.proofs.Common.{◌≡◌, ℕ, zero, suc, ◌∙◌, replicate, ◌∷◌, ◌==◌, Bool, true, false, ◌&&◌}
use Rattle.std.proofs.Common.{◌||◌, List, Option, None, Some, ap, refl}
use Rattle.std.specs.Prelude.{slice_set, if◌then◌else◌}
use Rattle.close_translate.specs.declared.codes.TheConstants.{NOT_ALLOWED}
use Rattle.close_translate.specs.declared.conditions.Scope.TheVariants as scope
use Rattle.machine_091.specs.Calls.{after_closing, closing_channel}
use Rattle.frames_091.specs.declared.frame.Kind91.{Kind91}
use Rattle.frames_091.specs.declared.frame.Kind91.TheVariants as frame
use Rattle.machine_091.specs.Contents.{no_contents}
use Rattle.machine_091.specs.Refusals.{channel_of, refusal_by, refusal_of, refusal_with}
use Rattle.machine_091.specs.State.{channel_at, is_closing, is_open_phase, is_running, with_channel, with_content}
use Rattle.machine_091.specs.Transitions.{asked_by, stream_after, with_stream}
use Rattle.machine_091.specs.Transitions as machine
use Rattle.machine_091.specs.declared.contents.Incoming.{Incoming}
use Rattle.machine_091.specs.declared.limits.Limits.{Limits}
use Rattle.machine_091.specs.declared.state.Channel91.{Channel91}
use Rattle.machine_091.specs.declared.state.Channel91.TheVariants as channel
use Rattle.machine_091.specs.declared.state.Connection.{Connection}
use Rattle.machine_091.specs.declared.state.Phase91.TheVariants as phase
use Rattle.machine_091.specs.declared.state.Stream91.TheVariants as stream
use Rattle.machine_091.specs.declared.unit.Refusal.{Refusal}
use Rattle.machine_091.specs.declared.unit.Unit91.{Unit91}
use Rattle.machine_091.specs.declared.unit.Unit91.TheVariants as unit
use Rattle.machine_091.specs.declared.unit.Want91.TheVariants as want
use Rattle.machine_091.proofs.StepCases.{step_rows}
use Rattle.methods_091.specs.declared.method.Method91.{Method91}
use Rattle.gate_model.specs.Lives.{is_of_channel}
use Rattle.content_091.specs.declared.assembly.Content.{Content}
use Rattle.machine_091.specs.declared.unit.Want91.{Want91}
use Rattle.methods_091.specs.Rows.{class_of, id_of}
use Rattle.methods_091.specs.View.{kind_of}
use Rattle.session_path.specs.Path.{PathState}
use Rattle.gate_model.specs.Paths.{path_at}
use Rattle.gate_model.specs.Requests.{client_step, message_of, method_fault, publish_fault, refusal_of_want, refused_by, refused_for}
use Rattle.gate_model.specs.declared.setup.Route.{Route}
use Rattle.gate_model.specs.State.{close}

-- no content is in progress still, where none is set
set_none : (count n : ℕ) → slice_set (replicate {A = Option Incoming} count None) n None ≡ replicate count None
set_none zero n = refl
set_none (suc count) zero = refl
set_none (suc count) (suc n) = ap (λ (xs : List (Option Incoming)). None ∷ xs) (set_none count n)

still_none : (xs : List (Option Incoming)) (n : ℕ) → xs ≡ no_contents → slice_set xs n None ≡ no_contents
unfolding no_contents
still_none xs n none = ap (λ (ys : List (Option Incoming)). slice_set ys n None) none ∙ set_none 256 n

-- nothing but the channels and their contents differ, and no content begins
pub record OnlyChannels (c d : Connection) : Type 0 where
  pub channels : List Channel91
  pub contents : List (Option Incoming)
  pub none : c.contents ≡ no_contents → contents ≡ no_contents
  pub same : d ≡ record c { channels = channels; contents = contents }

pub none_differ : (c : Connection) → OnlyChannels c c
none_differ c = record { channels = c.channels; contents = c.contents; none = λ e. e; same = refl }

pub one_differs : (c : Connection) (n : ℕ) (s : Channel91) → OnlyChannels c (with_channel c n s)
one_differs c n s =
    record { channels = slice_set c.channels n s; contents = c.contents; none = λ e. e; same = refl }

content_dropped : (c : Connection) (n : ℕ) → OnlyChannels c (with_content c n None)
content_dropped c n = record {
  channels = c.channels;
  contents = slice_set c.contents n None;
  none = still_none c.contents n;
  same = refl;
}

pub only_closing : (n : ℕ) (c : Connection) → OnlyChannels c (after_closing scope.Channel n c)
only_closing n c = by (channel_at c n)
  where
    by : (s : Channel91) → OnlyChannels c (closing_channel s n c)
    by channel.Free = none_differ c
    by channel.Open = record {
      channels = slice_set c.channels n channel.Closing;
      contents = slice_set c.contents n None;
      none = still_none c.contents n;
      same = refl;
    }
    by channel.Closing = none_differ c
    by channel.Told = none_differ c

only_both : {c d e : Connection} → OnlyChannels c d → OnlyChannels d e → OnlyChannels c e
only_both {c} {d} {e} f g = record {
  channels = g.channels;
  contents = g.contents;
  none = λ x. g.none (ap (λ (y : Connection). y.contents) f.same ∙ f.none x);
  same = g.same ∙ ap (λ (y : Connection). record y { channels = g.channels; contents = g.contents }) f.same;
}

-- each unit does one of these
pub data Outcome (c : Connection) (u : Unit91) : machine.Step → Type 0 where
  Greets : c.phase ≡ phase.Header → Outcome c u (record c { phase = phase.Start; stream = stream.Frames }, want.Start)
  Parts : c.phase ≡ phase.Header → Outcome c u (record c { phase = phase.Closed; stream = stream.Foreign }, want.Nothing)
  LogsIn : (mechanism response : List ℕ) → c.phase ≡ phase.Start → Outcome c u (record c { phase = phase.Tune }, want.Login mechanism response)
  Tunes : (limits : Limits) → c.phase ≡ phase.Tune → Outcome c u (record c { phase = phase.Open; limits = limits }, want.Tuned)
  Asks : c.phase ≡ phase.Open → Outcome c u (record c { asked = true }, want.OpenUp)
  Passes : Outcome c u (c, want.Nothing)
  Refuses : (r : Refusal) (asked : Bool) → (c.asked ≡ true → asked ≡ true) → is_closing c ≡ false → is_of_channel r ≡ false
      → Outcome c u (record c { phase = phase.Closing; stream = stream_after u c.stream; asked = asked; contents = no_contents }, want.Refuse r)
  Declines : (r : Refusal) (d : Connection) → OnlyChannels c d → is_running c.phase ≡ true → is_of_channel r ≡ false
      → Outcome c u (close d, want.Refuse r)
  Drops : (r : Refusal) (d : Connection) → OnlyChannels c d → is_running c.phase ≡ true → is_of_channel r ≡ true
      → Outcome c u (d, want.Refuse r)
  Parting : is_running c.phase ≡ true → Outcome c u (record c { phase = phase.Closed; contents = no_contents }, want.Close)
  Calls : (n : ℕ) (s : Channel91) (m : Method91) → is_running c.phase ≡ true → Outcome c u (with_channel c n s, want.Method n m)
  Asking : (n : ℕ) (m : Method91) → is_running c.phase ≡ true → Outcome c u (c, want.Method n m)
  Publishes : (n : ℕ) (m : Method91) (d : Content) → is_running c.phase ≡ true → Outcome c u (with_content c n None, want.Publish n m d)
  Fills : (n : ℕ) (i : Option Incoming) → is_running c.phase ≡ true → Outcome c u (with_content c n i, want.Nothing)
  Frees : (n : ℕ) → is_running c.phase ≡ true → Outcome c u (with_channel c n channel.Free, want.ChannelCloseOk n)
  Closes : c.phase ≡ phase.Closing → Outcome c u (record c { phase = phase.Closed }, want.Close)
  Answers : is_closing c ≡ true → Outcome c u (record c { phase = phase.Closed; stream = stream.Answered }, want.CloseOk)
  Ignores : is_closing c ≡ true → Outcome c u (with_stream u c, want.Nothing)

-- the order of refusals names a connection for all but what a channel's content is refused for
pub of_unit : (code : ℕ) (u : Unit91) → is_of_channel (refusal_of code u) ≡ false
of_unit code unit.Protocol = refl
of_unit code (unit.Bad c) = refl
of_unit code (unit.Frame f) = by f.kind
  where
    by : (k : Kind91) → is_of_channel (refusal_by k code f.payload) ≡ false
    by frame.Method = refl
    by x = refl

-- so is what its refusals of requests make of it
abbrev Told : (rs : List Route) (ps : List (Option PathState)) (c : Connection) (u : Unit91) → machine.Step → Type 0
Told rs ps c u x = Outcome c u (refused_by (refusal_of_want rs ps x.1) x)

-- a request of a channel, which is met or refused
met_or_refused : (c d : Connection) (u : Unit91) (n : ℕ) (m : Method91) (x : Want91) (o : Option ℕ) → OnlyChannels c d → is_running c.phase ≡ true
    → Outcome c u (d, x) → Outcome c u (refused_by (refused_for n m o) (d, x))
met_or_refused c d u n m x None only e met = met
met_or_refused c d u n m x (Some code) only e met = by (code == NOT_ALLOWED)
  where
    refusal : Bool → Refusal
    refusal b = if b then refusal_with code (class_of (kind_of m)) (id_of (kind_of m)) else record {
      code = code;
      scope = scope.Channel;
      channel = n;
      class = class_of (kind_of m);
      method = id_of (kind_of m);
    }

    by : (b : Bool) → Outcome c u (after_closing (refusal b).scope (refusal b).channel d, want.Refuse (refusal b))
    by true = Declines (refusal true) d only e refl
    by false = Drops (refusal false) (after_closing scope.Channel n d) (only_both only (only_closing n d)) e refl

called : (rs : List Route) (ps : List (Option PathState)) (c d : Connection) (u : Unit91) (n : ℕ) (m : Method91) → OnlyChannels c d → is_running c.phase ≡ true
    → Outcome c u (d, want.Method n m) → Told rs ps c u (d, want.Method n m)
called rs ps c d u n m only e calls = met_or_refused c d u n m (want.Method n m) (method_fault rs (path_at ps n) m) only e calls

pub outcome : (rs : List Route) (ps : List (Option PathState)) (c : Connection) (u : Unit91) → Outcome c u (client_step rs ps c u)
outcome rs ps c u = step_rows (Told rs ps c u) c u (record {
  greeted = λ e. Greets e;
  foreign = λ e. Parts e;
  refused = λ code e ruled. Refuses _ (asked_by c code) (λ k. ap (λ (b : Bool). b || (is_open_phase c.phase && code == NOT_ALLOWED)) k) e (of_unit code u);
  publish_refused = λ code e ruled. Refuses _ (asked_by c code) (λ k. ap (λ (b : Bool). b || (is_open_phase c.phase && code == NOT_ALLOWED)) k) e refl;
  channel_refused = λ code on large ruled. Drops _ _ (only_closing (channel_of u) c) on.runs refl;
  nothing = λ idle. Passes;
  login = λ a b e l. LogsIn a b e;
  tuned = λ channels size heartbeat e l. Tunes _ e;
  asked = λ e. Asks e;
  closed = λ e. Parting e;
  opened = λ n m of. called rs ps c _ u n m (one_differs c n _) of.runs (Calls n _ m of.runs);
  ended = λ n m of. called rs ps c _ u n m (one_differs c n _) of.runs (Calls n _ m of.runs);
  passed_on = λ n m of. called rs ps c _ u n m (none_differ c) of.runs (Asking n m of.runs);
  begun = λ f k args is. Fills _ _ is.on.runs;
  grown = λ f i a is. Fills _ _ is.on.runs;
  published = λ f i a d is at_once. met_or_refused c _ u f.channel i.method (want.Publish f.channel i.method d)
      (publish_fault rs (message_of i.method d)) (content_dropped c f.channel) is.on.runs
      (Publishes f.channel i.method d is.on.runs);
  freed = λ n of. Frees n of.runs;
  crossed = λ e. Closes e;
  answered = λ e. Answers e;
  passed = λ e. Ignores e;
})
