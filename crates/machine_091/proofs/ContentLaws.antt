-- What holds of the contents in progress: where they are after any calls.
use Rattle.std.proofs.Common.{◌≡◌, ℕ, zero, suc, Bool, true, false, ◌&&◌, eqb, ◌⊎◌, inl, inr, List}
use Rattle.std.proofs.Common.{[], ◌∷◌, replicate, Option, None, Some, refl, sym, ◌∙◌, ap, subst}
use Rattle.std.proofs.Common.{arith}
use Rattle.std.proofs.lemmas.Bool.{eqb-true}
use Rattle.std.proofs.lemmas.Bool.Decides.{nat_tests}
use Rattle.std.specs.Prelude.{is_some, slice_get, slice_set}
use Rattle.close_translate.specs.declared.conditions.Scope.TheVariants as scope
use Rattle.machine_091.specs.Calls.{opened_phase, after_opened, closing_contents, closing_channel}
use Rattle.machine_091.specs.Calls.{after_closing, told_channel, after_told, freed_channel}
use Rattle.machine_091.specs.Calls.{after_closed}
use Rattle.machine_091.specs.Contents.{no_contents, begun}
use Rattle.machine_091.specs.Laws.{Call91, Take, Opened, Closing, Told, Closed, Ended, after_call}
use Rattle.machine_091.specs.Laws.{after_calls, HasNone, AreOnOpen}
use Rattle.machine_091.specs.Limits.{agreed_limits}
use Rattle.machine_091.specs.Methods.{publish_of}
use Rattle.machine_091.specs.Refusals.{channel_of}
use Rattle.machine_091.specs.State.{new_connection, is_running, is_closing_phase, is_open_channel}
use Rattle.machine_091.specs.State.{is_open, channel_at, or_free, with_channel, content_at}
use Rattle.machine_091.specs.State.{or_no_content, with_content}
use Rattle.machine_091.specs.Transitions.{Step, closed_by, unit_step}
use Rattle.machine_091.specs.Transitions as machine
use Rattle.machine_091.specs.declared.contents.Incoming.{Incoming}
use Rattle.machine_091.specs.declared.state.Channel91.{Channel91}
use Rattle.machine_091.specs.declared.state.Channel91.TheVariants as channel
use Rattle.machine_091.specs.declared.state.Connection.{Connection}
use Rattle.machine_091.specs.declared.state.Phase91.{Phase91}
use Rattle.machine_091.specs.declared.state.Phase91.TheVariants as phase
use Rattle.machine_091.specs.declared.state.Stream91.TheVariants as stream
use Rattle.machine_091.specs.declared.unit.Unit91.{Unit91}
use Rattle.machine_091.proofs.StepCases.{step_rows}
use Rattle.machine_091.proofs.StepLaws.{is_open_by}

-- ---- an item of a list that was set

pub get_set : {A : Type 0} (xs : List A) (n m : ℕ) (s : A) → (m ≡ n) ⊎ (slice_get (slice_set xs n s) m ≡ slice_get xs m)
get_set [] n m s = inr refl
get_set (x ∷ xs) zero zero s = inl refl
get_set (x ∷ xs) zero (suc m) s = inr refl
get_set (x ∷ xs) (suc n) zero s = inr refl
get_set (x ∷ xs) (suc n) (suc m) s = by (get_set xs n m s)
  where
    by : (m ≡ n) ⊎ (slice_get (slice_set xs n s) m ≡ slice_get xs m)
        → (suc m ≡ suc n) ⊎ (slice_get (slice_set xs n s) m ≡ slice_get xs m)
    by (inl e) = inl (ap suc e)
    by (inr e) = inr e

-- ---- the content in progress on a channel

-- the content in progress that was set, where the list goes as far
get_content : (xs : List (Option Incoming)) (n : ℕ) (o : Option Incoming) (i : Incoming) → or_no_content (slice_get (slice_set xs n o) n) ≡ Some i → o ≡ Some i
get_content [] n o i e = absurd cc
get_content (x ∷ xs) zero o i e = e
get_content (x ∷ xs) (suc n) o i e = get_content xs n o i e

-- what is in progress after one was set
pub data IsSet (c : Connection) (n : ℕ) (o : Option Incoming) (m : ℕ) (i : Incoming) : Type 0 where
  Here : m ≡ n → o ≡ Some i → IsSet c n o m i
  There : (m ≡ n → ⊥) → content_at c m ≡ Some i → IsSet c n o m i

pub content_set : (c : Connection) (n m : ℕ) (o : Option Incoming) (i : Incoming) → content_at (with_content c n o) m ≡ Some i → IsSet c n o m i
content_set c n m o i e = by (eqb m n) refl
  where
    here : m ≡ n → o ≡ Some i
    here same = get_content c.contents n o i (subst (λ (k : ℕ). content_at (with_content c n o) k ≡ Some i) same e)

    there : (m ≡ n → ⊥) → (m ≡ n) ⊎ (slice_get (slice_set c.contents n o) m ≡ slice_get c.contents m) → content_at c m ≡ Some i
    there apart (inl same) = absurd (apart same)
    there apart (inr same) = ap or_no_content (sym same) ∙ e

    by : (b : Bool) → eqb m n ≡ b → IsSet c n o m i
    by true same = Here (eqb-true m n same) (here (eqb-true m n same))
    by false other = There (λ same. absurd (grind (arith, nat_tests, other, same))) (there (λ same. absurd (grind (arith, nat_tests, other, same))) (get_set c.contents n m o))

-- none is in progress
none_at : (count n : ℕ) → or_no_content (slice_get (replicate {A = Option Incoming} count None) n) ≡ None
none_at zero n = refl
none_at (suc count) zero = refl
none_at (suc count) (suc n) = none_at count n

pub nothing_at : (c : Connection) (n : ℕ) → c.contents ≡ no_contents → content_at c n ≡ None
unfolding no_contents
nothing_at c n none = ap (λ (xs : List (Option Incoming)). or_no_content (slice_get xs n)) none ∙ none_at 256 n

-- none is in progress still, where none is set
set_none : (count n : ℕ) → slice_set (replicate {A = Option Incoming} count None) n None ≡ replicate count None
set_none zero n = refl
set_none (suc count) zero = refl
set_none (suc count) (suc n) = ap (λ (xs : List (Option Incoming)). None ∷ xs) (set_none count n)

still_none : (xs : List (Option Incoming)) (n : ℕ) → xs ≡ no_contents → slice_set xs n None ≡ no_contents
unfolding no_contents
still_none xs n none = ap (λ (ys : List (Option Incoming)). slice_set ys n None) none ∙ set_none 256 n

-- where something is in progress
some_is : (o : Option Incoming) → is_some o ≡ true → (i : Incoming) × (o ≡ Some i)
some_is None e = absurd cc
some_is (Some i) e = (i, refl)

-- ---- contents on open channels

none_open : (c : Connection) → c.contents ≡ no_contents → AreOnOpen c
none_open c none n e = let k = some_is (content_at c n) e in let l = nothing_at c n none in absurd cc

-- a channel whose content is none is set
channel_open : (c : Connection) (n : ℕ) (s : Channel91) → content_at c n ≡ None → AreOnOpen c → AreOnOpen (with_channel c n s)
channel_open c n s none h m e = by (get_set c.channels n m s)
  where
    by : (m ≡ n) ⊎ (slice_get (slice_set c.channels n s) m ≡ slice_get c.channels m) → is_open (with_channel c n s) m ≡ true
    by (inl same) = let k : is_some (content_at c n) ≡ true = ap (λ (j : ℕ). is_some (content_at c j)) (sym same) ∙ e in absurd cc
    by (inr same) = ap (λ (o : Option Channel91). is_running c.phase && is_open_channel (or_free o)) same ∙ h m e

-- a channel that isn't open has none
shut_none : (c : Connection) (n : ℕ) → is_open_channel (channel_at c n) ≡ false → AreOnOpen c → content_at c n ≡ None
shut_none c n shut h = by (content_at c n) refl
  where
    by : (o : Option Incoming) → content_at c n ≡ o → o ≡ None
    by None e = refl
    by (Some i) e =
        let k : is_open c n ≡ true = h n (ap is_some e) in
        let wrong : is_open c n ≡ false = ap (λ (b : Bool). is_running c.phase && b) shut ∙ never (is_running c.phase) in
        absurd cc
      where
        never : (b : Bool) → (b && false) ≡ false
        never true = refl
        never false = refl

-- a content is set on an open channel, or none is
content_open : (c : Connection) (n : ℕ) (o : Option Incoming) → is_open c n ≡ true → AreOnOpen c → AreOnOpen (with_content c n o)
content_open c n o opened h m e = let k = some_is (content_at (with_content c n o) m) e in by k.0 (content_set c n m o k.0 k.1)
  where
    by : (i : Incoming) → IsSet c n o m i → is_open c m ≡ true
    by i (Here same is) = ap (is_open c) same ∙ opened
    by i (There apart is) = h m (ap is_some is)

-- a channel closes, and its content is dropped
closing_open : (c : Connection) (n : ℕ) → AreOnOpen c → AreOnOpen (with_content (with_channel c n channel.Closing) n None)
closing_open c n h m e = let k = some_is (content_at (with_content (with_channel c n channel.Closing) n None) m) e in
    by k.0 (content_set (with_channel c n channel.Closing) n m None k.0 k.1)
  where
    there : (i : Incoming) → (m ≡ n → ⊥) → content_at c m ≡ Some i → (m ≡ n) ⊎ (slice_get (slice_set c.channels n channel.Closing) m ≡ slice_get c.channels m)
        → is_open (with_channel c n channel.Closing) m ≡ true
    there i apart is (inl same) = absurd (apart same)
    there i apart is (inr same) =
        ap (λ (o : Option Channel91). is_running c.phase && is_open_channel (or_free o)) same ∙ h m (ap is_some is)

    by : (i : Incoming) → IsSet (with_channel c n channel.Closing) n None m i → is_open (with_channel c n channel.Closing) m ≡ true
    by i (Here same is) = absurd cc
    by i (There apart is) = there i apart is (get_set c.channels n m channel.Closing)

-- the closing event of a channel
channel_closing : (n : ℕ) (c : Connection) → AreOnOpen c → AreOnOpen (after_closing scope.Channel n c)
channel_closing n c h = by (channel_at c n)
  where
    by : (s : Channel91) → AreOnOpen (closing_channel s n c)
    by channel.Free = h
    by channel.Open = closing_open c n h
    by channel.Closing = h
    by channel.Told = h

-- ---- none, where the connection doesn't run

pub closing_stopped : (p : Phase91) → is_closing_phase p ≡ true → is_running p ≡ false
closing_stopped phase.Header e = refl
closing_stopped phase.Start e = refl
closing_stopped phase.Tune e = refl
closing_stopped phase.Open e = refl
closing_stopped phase.Running e = absurd cc
closing_stopped phase.Closing e = refl
closing_stopped phase.Closed e = refl

-- a connection that runs has any
running_none : (c : Connection) → is_running c.phase ≡ true → HasNone c
running_none c runs r = absurd cc

closing_none : (n : ℕ) (c : Connection) → HasNone c → HasNone (after_closing scope.Channel n c)
closing_none n c h = by (channel_at c n)
  where
    by : (s : Channel91) → HasNone (closing_channel s n c)
    by channel.Free = h
    by channel.Open = λ r. still_none c.contents n (h r)
    by channel.Closing = h
    by channel.Told = h

none_step : (c : Connection) (u : Unit91) → HasNone c → HasNone (unit_step c u).0
none_step c u h = step_rows (λ (x : Step). HasNone x.0) c u (record {
  greeted = λ e r. h (ap is_running e);
  foreign = λ e r. h (ap is_running e);
  refused = λ code e ruled r. refl;
  publish_refused = λ code e ruled r. refl;
  channel_refused = λ code on large ruled. closing_none (channel_of u) c h;
  nothing = λ idle. h;
  login = λ a b e named r. h (ap is_running e);
  tuned = λ channels size heartbeat e agreed r. h (ap is_running e);
  asked = λ e. h;
  closed = λ e r. refl;
  opened = λ n m o. h;
  ended = λ n m o. h;
  passed_on = λ n m o. h;
  begun = λ f k args b. running_none (with_content c f.channel (Some (begun (publish_of args)))) b.on.runs;
  grown = λ f i a t. running_none (with_content c f.channel (Some (record i { assembly = a }))) t.on.runs;
  published = λ f i a d t later. running_none (with_content c f.channel None) t.on.runs;
  freed = λ n o. h;
  crossed = λ e r. h (ap is_running e);
  answered = λ e r. h (closing_stopped c.phase e);
  passed = λ e. h;
})

opened_none : (most : ℕ) (c : Connection) → HasNone c → HasNone (after_opened most c)
opened_none most c h = λ r. h (by c.asked c.phase r)
  where
    by : (asked : Bool) (p : Phase91) → is_running (opened_phase asked p) ≡ false → is_running p ≡ false
    by asked phase.Header r = refl
    by asked phase.Start r = refl
    by asked phase.Tune r = refl
    by asked phase.Open r = refl
    by asked phase.Running r = absurd cc
    by asked phase.Closing r = refl
    by asked phase.Closed r = refl

told_none : (n : ℕ) (c : Connection) → HasNone c → HasNone (after_told n c)
told_none n c h = by (channel_at c n)
  where
    by : (s : Channel91) → HasNone (told_channel s n c)
    by channel.Free = h
    by channel.Open = h
    by channel.Closing = h
    by channel.Told = h

freed_none : (n : ℕ) (c : Connection) → HasNone c → HasNone (after_closed n c)
freed_none n c h = by (channel_at c n)
  where
    by : (s : Channel91) → HasNone (freed_channel s n c)
    by channel.Free = h
    by channel.Open = h
    by channel.Closing = h
    by channel.Told = h

-- the closing event of the connection
dropped_or_kept : (p : Phase91) (xs : List (Option Incoming)) → (is_running p ≡ false → xs ≡ no_contents)
    → closing_contents p xs ≡ no_contents
dropped_or_kept phase.Header xs h = refl
dropped_or_kept phase.Start xs h = refl
dropped_or_kept phase.Tune xs h = refl
dropped_or_kept phase.Open xs h = refl
dropped_or_kept phase.Running xs h = refl
dropped_or_kept phase.Closing xs h = h refl
dropped_or_kept phase.Closed xs h = h refl

connection_none : (n : ℕ) (c : Connection) → HasNone c → HasNone (after_closing scope.Connection n c)
connection_none n c h = λ r. dropped_or_kept c.phase c.contents h

-- no call leaves one in progress where the connection doesn't run
pub none_call : (c : Connection) (x : Call91) → HasNone c → HasNone (after_call x c)
none_call c (Take u) h = none_step c u h
none_call c (Opened most) h = opened_none most c h
none_call c (Closing scope.Channel n) h = closing_none n c h
none_call c (Closing scope.Connection n) h = connection_none n c h
none_call c (Told n) h = told_none n c h
none_call c (Closed n) h = freed_none n c h
none_call c Ended h = λ r. refl

-- ---- on open channels, after any calls

-- both together
pub record AreSound (c : Connection) : Type 0 where
  pub on_open : AreOnOpen c
  pub none : HasNone c

open_step : (c : Connection) (u : Unit91) → AreSound c → AreOnOpen (unit_step c u).0
open_step c u h = step_rows (λ (x : Step). AreOnOpen x.0) c u (record {
  greeted = λ e. none_open (record c { phase = phase.Start; stream = stream.Frames }) (h.none (ap is_running e));
  foreign = λ e. none_open (record c { phase = phase.Closed; stream = stream.Foreign }) (h.none (ap is_running e));
  refused = λ code e ruled. none_open (machine.refused c u code) refl;
  publish_refused = λ code e ruled. none_open (machine.refused c u code) refl;
  channel_refused = λ code on large ruled. channel_closing (channel_of u) c h.on_open;
  nothing = λ idle. h.on_open;
  login = λ a b e named. none_open (record c { phase = phase.Tune }) (h.none (ap is_running e));
  tuned = λ channels size heartbeat e agreed.
      none_open (record c { phase = phase.Open; limits = agreed_limits channels size heartbeat }) (h.none (ap is_running e));
  asked = λ e. h.on_open;
  closed = λ e. none_open (record c { phase = phase.Closed; contents = no_contents }) refl;
  opened = λ n m o. channel_open c n channel.Open o.none h.on_open;
  ended = λ n m o. channel_open c n (closed_by (channel_at c n)) o.none h.on_open;
  passed_on = λ n m o. h.on_open;
  begun = λ f k args b. content_open c f.channel (Some (begun (publish_of args))) (is_open_by c f.channel b.on.runs b.on.opened) h.on_open;
  grown = λ f i a t. content_open c f.channel (Some (record i { assembly = a })) (is_open_by c f.channel t.on.runs t.on.opened) h.on_open;
  published = λ f i a d t later. content_open c f.channel None (is_open_by c f.channel t.on.runs t.on.opened) h.on_open;
  freed = λ n o. channel_open c n channel.Free o.none h.on_open;
  crossed = λ e. none_open (record c { phase = phase.Closed }) (h.none (ap is_running e));
  answered = λ e. none_open (record c { phase = phase.Closed; stream = stream.Answered }) (h.none (closing_stopped c.phase e));
  passed = λ e. h.on_open;
})

opened_open : (most : ℕ) (c : Connection) → AreOnOpen c → AreOnOpen (after_opened most c)
opened_open most c h n e = by c.asked c.phase (channel_at c n) (h n e)
  where
    by : (asked : Bool) (p : Phase91) (s : Channel91) → (is_running p && is_open_channel s) ≡ true → (is_running (opened_phase asked p) && is_open_channel s) ≡ true
    by asked phase.Header s r = absurd cc
    by asked phase.Start s r = absurd cc
    by asked phase.Tune s r = absurd cc
    by asked phase.Open s r = absurd cc
    by asked phase.Running s r = r
    by asked phase.Closing s r = absurd cc
    by asked phase.Closed s r = absurd cc

told_open : (n : ℕ) (c : Connection) → AreOnOpen c → AreOnOpen (after_told n c)
told_open n c h = by (channel_at c n) refl
  where
    by : (s : Channel91) → channel_at c n ≡ s → AreOnOpen (told_channel s n c)
    by channel.Free e = h
    by channel.Open e = h
    by channel.Closing e = channel_open c n channel.Told (shut_none c n (ap is_open_channel e) h) h
    by channel.Told e = h

freed_open : (n : ℕ) (c : Connection) → AreOnOpen c → AreOnOpen (after_closed n c)
freed_open n c h = by (channel_at c n) refl
  where
    by : (s : Channel91) → channel_at c n ≡ s → AreOnOpen (freed_channel s n c)
    by channel.Free e = h
    by channel.Open e = h
    by channel.Closing e = channel_open c n channel.Free (shut_none c n (ap is_open_channel e) h) h
    by channel.Told e = h

open_call : (c : Connection) (x : Call91) → AreSound c → AreOnOpen (after_call x c)
open_call c (Take u) h = open_step c u h
open_call c (Opened most) h = opened_open most c h.on_open
open_call c (Closing scope.Channel n) h = channel_closing n c h.on_open
open_call c (Closing scope.Connection n) h =
    none_open (after_closing scope.Connection n c) (dropped_or_kept c.phase c.contents h.none)
open_call c (Told n) h = told_open n c h.on_open
open_call c (Closed n) h = freed_open n c h.on_open
open_call c Ended h = none_open (after_call Ended c) refl

pub sound_contents : (vhost : List ℕ) (h : List Call91) → AreSound (after_calls vhost h)
sound_contents vhost [] = record { on_open = none_open (new_connection vhost) refl; none = λ r. refl }
sound_contents vhost (x ∷ h) =
    let s = sound_contents vhost h in
    record { on_open = open_call (after_calls vhost h) x s; none = none_call (after_calls vhost h) x s.none }

-- after any calls contents are in progress on open channels alone
pub open_contents : (vhost : List ℕ) (h : List Call91) → AreOnOpen (after_calls vhost h)
open_contents vhost h = (sound_contents vhost h).on_open
