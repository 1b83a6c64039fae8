-- What holds of a connection after any calls: its limits, and which channels are used.
use Rattle.std.proofs.Common.{◌≡◌, ℕ, zero, suc, ◌≤◌, ◌<◌, ◌+◌, Bool, true, false, cond, ◌⊎◌, inl}
use Rattle.std.proofs.Common.{inr, List, [], ◌∷◌, replicate, Option, None, Some, refl, sym, ◌∙◌, ap}
use Rattle.std.proofs.Common.{subst, arith}
use Rattle.std.proofs.lemmas.List.Sums.{sum_by-cons}
use Rattle.std.specs.Prelude.{slice_get, slice_set, count_by}
use Rattle.close_translate.specs.declared.conditions.Scope.{Scope}
use Rattle.close_translate.specs.declared.conditions.Scope.TheVariants as scope
use Rattle.machine_091.specs.Contents.{begun}
use Rattle.machine_091.specs.Calls.{opened_phase, after_opened, closing_channel, closing_phase}
use Rattle.machine_091.specs.Calls.{after_closing, told_channel, after_told, freed_channel}
use Rattle.machine_091.specs.Calls.{after_closed}
use Rattle.machine_091.specs.Laws.{Call91, Take, Opened, Closing, Told, Closed, Ended, after_call}
use Rattle.machine_091.specs.Laws.{after_calls, is_used, AreInRange}
use Rattle.machine_091.specs.Limits.{AreWithin}
use Rattle.machine_091.specs.Methods.{publish_of}
use Rattle.machine_091.specs.Refusals.{channel_of}
use Rattle.machine_091.specs.State.{no_channels, new_connection, is_running, is_closing_phase}
use Rattle.machine_091.specs.State.{channel_at, or_free, with_channel}
use Rattle.machine_091.specs.Transitions.{Step, closed_by, unit_step}
use Rattle.machine_091.specs.declared.contents.Incoming.{Incoming}
use Rattle.machine_091.specs.declared.state.Channel91.{Channel91}
use Rattle.machine_091.specs.declared.state.Channel91.TheVariants as channel
use Rattle.machine_091.specs.declared.state.Connection.{Connection}
use Rattle.machine_091.specs.declared.state.Phase91.{Phase91}
use Rattle.machine_091.specs.declared.state.Phase91.TheVariants as phase
use Rattle.machine_091.specs.declared.unit.Unit91.{Unit91}
use Rattle.machine_091.proofs.ContentLaws.{get_set}
use Rattle.machine_091.proofs.StepCases.{step_rows}
use Rattle.machine_091.proofs.StepLaws.{agreed_within}

-- ---- a channel in another state

-- what holds of the number that was set, and of the numbers of used channels before, holds of those after
used_after : (P : ℕ → Type 0) (c : Connection) (n : ℕ) (s : Channel91) → P n
    → ((m : ℕ) → is_used (channel_at c m) ≡ true → P m) → (m : ℕ) → is_used (channel_at (with_channel c n s) m) ≡ true → P m
used_after P c n s set before m used = by (get_set c.channels n m s)
  where
    by : (m ≡ n) ⊎ (slice_get (slice_set c.channels n s) m ≡ slice_get c.channels m) → P m
    by (inl e) = subst P (sym e) set
    by (inr e) = before m (ap (λ (o : Option Channel91). is_used (or_free o)) (sym e) ∙ used)

-- ---- the invariant

-- limits in their range; used channels have numbers from 1 to the greatest; none is used before the connection runs
record Sound (c : Connection) : Type 0 where
  within : AreWithin c.limits
  min : (n : ℕ) → is_used (channel_at c n) ≡ true → 1 ≤ n
  max : (n : ℕ) → is_used (channel_at c n) ≡ true → n ≤ c.limits.channel_max
  fresh : is_running c.phase ≡ false → is_closing_phase c.phase ≡ false → (n : ℕ) → is_used (channel_at c n) ≡ false

-- a channel whose number is in range is set, once the connection runs
sound_set : (c : Connection) (n : ℕ) (s : Channel91) → Sound c
    → (is_running c.phase ≡ false → is_closing_phase c.phase ≡ false → (m : ℕ) → is_used (channel_at (with_channel c n s) m) ≡ false)
    → 1 ≤ n → n ≤ c.limits.channel_max → Sound (with_channel c n s)
sound_set c n s h fresh min max = record {
  within = h.within;
  min = used_after (λ (m : ℕ). 1 ≤ m) c n s min h.min;
  max = used_after (λ (m : ℕ). m ≤ c.limits.channel_max) c n s max h.max;
  fresh = fresh;
}

running_set : (c : Connection) (n : ℕ) (s : Channel91) → Sound c → is_running c.phase ≡ true → 1 ≤ n → n ≤ c.limits.channel_max
    → Sound (with_channel c n s)
running_set c n s h runs min max = sound_set c n s h (λ r k m. absurd cc) min max

-- a used channel is set
used_set : (c : Connection) (n : ℕ) (s : Channel91) → Sound c → is_used (channel_at c n) ≡ true → Sound (with_channel c n s)
used_set c n s h used = sound_set c n s h none (h.min n used) (h.max n used)
  where
    none : is_running c.phase ≡ false → is_closing_phase c.phase ≡ false → (m : ℕ) → is_used (channel_at (with_channel c n s) m) ≡ false
    none r k m = let clash : is_used (channel_at c n) ≡ false = h.fresh r k n in absurd cc

-- nothing of it asks for contents
with_contents : (c : Connection) (xs : List (Option Incoming)) → Sound c → Sound (record c { contents = xs })
with_contents c xs h = record { within = h.within; min = h.min; max = h.max; fresh = h.fresh }

-- ---- a closing event

always_closing : (p : Phase91) → is_closing_phase (closing_phase p) ≡ true
always_closing phase.Header = refl
always_closing phase.Start = refl
always_closing phase.Tune = refl
always_closing phase.Open = refl
always_closing phase.Running = refl
always_closing phase.Closing = refl
always_closing phase.Closed = refl

sound_closing : (s : Scope) (n : ℕ) (c : Connection) → Sound c → Sound (after_closing s n c)
sound_closing scope.Connection n c h = record {
  within = h.within;
  min = h.min;
  max = h.max;
  fresh = λ r k. let closing : is_closing_phase (closing_phase c.phase) ≡ true = always_closing c.phase in absurd cc;
}
sound_closing scope.Channel n c h = by (channel_at c n) refl
  where
    by : (x : Channel91) → channel_at c n ≡ x → Sound (closing_channel x n c)
    by channel.Free e = h
    by channel.Open e = with_contents (with_channel c n channel.Closing) (slice_set c.contents n None) (used_set c n channel.Closing h (ap is_used e))
    by channel.Closing e = h
    by channel.Told e = h

-- ---- a unit

sound_step : (c : Connection) (u : Unit91) → Sound c → Sound (unit_step c u).0
sound_step c u h = step_rows (λ (x : Step). Sound x.0) c u (record {
  greeted = λ e. record { within = h.within; min = h.min; max = h.max; fresh = λ r k. h.fresh (ap is_running e) (ap is_closing_phase e) };
  foreign = λ e. record { within = h.within; min = h.min; max = h.max; fresh = λ r k. absurd cc };
  refused = λ code e ruled. record { within = h.within; min = h.min; max = h.max; fresh = λ r k. absurd cc };
  publish_refused = λ code e ruled. record { within = h.within; min = h.min; max = h.max; fresh = λ r k. absurd cc };
  channel_refused = λ code on large ruled. sound_closing scope.Channel (channel_of u) c h;
  nothing = λ idle. h;
  login = λ a b e named. record { within = h.within; min = h.min; max = h.max; fresh = λ r k. h.fresh (ap is_running e) (ap is_closing_phase e) };
  tuned = λ channels size heartbeat e agreed.
      let none : (n : ℕ) → is_used (channel_at c n) ≡ false = h.fresh (ap is_running e) (ap is_closing_phase e) in
      record {
        within = agreed_within channels size heartbeat agreed;
        min = h.min;
        max = λ n used. let k : is_used (channel_at c n) ≡ false = none n in absurd cc;
        fresh = λ r k. none;
      };
  asked = λ e. record { within = h.within; min = h.min; max = h.max; fresh = h.fresh };
  closed = λ e. record { within = h.within; min = h.min; max = h.max; fresh = λ r k. absurd cc };
  opened = λ n m o. running_set c n channel.Open h o.runs o.min o.max;
  ended = λ n m o. running_set c n (closed_by (channel_at c n)) h o.runs o.min o.max;
  passed_on = λ n m o. h;
  begun = λ f k args b. with_contents c (slice_set c.contents f.channel (Some (begun (publish_of args)))) h;
  grown = λ f i a t. with_contents c (slice_set c.contents f.channel (Some (record i { assembly = a }))) h;
  published = λ f i a d t later. with_contents c (slice_set c.contents f.channel None) h;
  freed = λ n o. running_set c n channel.Free h o.runs o.min o.max;
  crossed = λ e. record { within = h.within; min = h.min; max = h.max; fresh = λ r k. absurd cc };
  answered = λ e. record { within = h.within; min = h.min; max = h.max; fresh = λ r k. absurd cc };
  passed = λ e. record { within = h.within; min = h.min; max = h.max; fresh = h.fresh };
})

-- ---- the other calls

sound_opened : (most : ℕ) (c : Connection) → Sound c → Sound (after_opened most c)
sound_opened most c h = by c.phase refl
  where
    by : (p : Phase91) → c.phase ≡ p → Sound (record c { phase = opened_phase c.asked p; carried_max = most })
    by phase.Header e = record { within = h.within; min = h.min; max = h.max; fresh = λ r k. h.fresh (ap is_running e) (ap is_closing_phase e) }
    by phase.Start e = record { within = h.within; min = h.min; max = h.max; fresh = λ r k. h.fresh (ap is_running e) (ap is_closing_phase e) }
    by phase.Tune e = record { within = h.within; min = h.min; max = h.max; fresh = λ r k. h.fresh (ap is_running e) (ap is_closing_phase e) }
    by phase.Open e = record { within = h.within; min = h.min; max = h.max; fresh = λ r k. h.fresh (ap is_running e) (ap is_closing_phase e) }
    by phase.Running e = record { within = h.within; min = h.min; max = h.max; fresh = λ r k. absurd cc }
    by phase.Closing e = record { within = h.within; min = h.min; max = h.max; fresh = λ r k. absurd cc }
    by phase.Closed e = record { within = h.within; min = h.min; max = h.max; fresh = λ r k. absurd cc }

sound_told : (n : ℕ) (c : Connection) → Sound c → Sound (after_told n c)
sound_told n c h = by (channel_at c n) refl
  where
    by : (x : Channel91) → channel_at c n ≡ x → Sound (told_channel x n c)
    by channel.Free e = h
    by channel.Open e = h
    by channel.Closing e = used_set c n channel.Told h (ap is_used e)
    by channel.Told e = h

sound_closed : (n : ℕ) (c : Connection) → Sound c → Sound (after_closed n c)
sound_closed n c h = by (channel_at c n) refl
  where
    by : (x : Channel91) → channel_at c n ≡ x → Sound (freed_channel x n c)
    by channel.Free e = h
    by channel.Open e = h
    by channel.Closing e = used_set c n channel.Free h (ap is_used e)
    by channel.Told e = h

sound_call : (x : Call91) (c : Connection) → Sound c → Sound (after_call x c)
sound_call (Take u) c h = sound_step c u h
sound_call (Opened most) c h = sound_opened most c h
sound_call (Closing s n) c h = sound_closing s n c h
sound_call (Told n) c h = sound_told n c h
sound_call (Closed n) c h = sound_closed n c h
sound_call Ended c h = record { within = h.within; min = h.min; max = h.max; fresh = λ r k. absurd cc }

none_used : (count n : ℕ) → is_used (or_free (slice_get (replicate count channel.Free) n)) ≡ false
none_used zero n = refl
none_used (suc count) zero = refl
none_used (suc count) (suc n) = none_used count n

sound_new : (vhost : List ℕ) → Sound (new_connection vhost)
unfolding no_channels
sound_new vhost = record {
  within = record { frame_min = omega arith; frame_max = omega arith; channel_min = omega arith; channel_max = omega arith };
  min = λ n used. let k : is_used (channel_at (new_connection vhost) n) ≡ false = none_used 256 n in absurd cc;
  max = λ n used. let k : is_used (channel_at (new_connection vhost) n) ≡ false = none_used 256 n in absurd cc;
  fresh = λ r k n. none_used 256 n;
}

sound_calls : (vhost : List ℕ) (h : List Call91) → Sound (after_calls vhost h)
sound_calls vhost [] = sound_new vhost
sound_calls vhost (x ∷ h) = sound_call x (after_calls vhost h) (sound_calls vhost h)

-- ---- how many are used

used_below : (xs : List Channel91) (k : ℕ) → ((m : ℕ) → is_used (or_free (slice_get xs m)) ≡ true → m < k) → count_by is_used xs ≤ k
used_below [] k below = omega arith
used_below (x ∷ xs) k below =
    subst (λ (count : ℕ). count ≤ k) (sym (sum_by-cons (λ (y : Channel91). cond (is_used y) 1 0) x xs)) (by k (used_below xs) below (is_used x) refl)
  where
    by : (k : ℕ) → ((j : ℕ) → ((m : ℕ) → is_used (or_free (slice_get xs m)) ≡ true → m < j) → count_by is_used xs ≤ j)
        → ((m : ℕ) → is_used (or_free (slice_get (x ∷ xs) m)) ≡ true → m < k) → (b : Bool) → is_used x ≡ b
        → cond b 1 0 + count_by is_used xs ≤ k
    by zero most below true e = let none : 0 < 0 = below 0 e in omega (arith, none)
    by zero most below false e =
        let rest : count_by is_used xs ≤ 0 = most 0 (λ m used. let more : suc m < 0 = below (suc m) used in omega (arith, more)) in
        omega (arith, rest)
    by (suc k) most below true e =
        let rest : count_by is_used xs ≤ k = most k (λ m used. let more : suc m < suc k = below (suc m) used in omega (arith, more)) in
        omega (arith, rest)
    by (suc k) most below false e =
        let rest : count_by is_used xs ≤ k = most k (λ m used. let more : suc m < suc k = below (suc m) used in omega (arith, more)) in
        omega (arith, rest)

used_to : (xs : List Channel91) (k : ℕ) → ((m : ℕ) → is_used (or_free (slice_get xs m)) ≡ true → 1 ≤ m)
    → ((m : ℕ) → is_used (or_free (slice_get xs m)) ≡ true → m ≤ k) → count_by is_used xs ≤ k
used_to [] k min max = omega arith
used_to (x ∷ xs) k min max =
    subst (λ (count : ℕ). count ≤ k) (sym (sum_by-cons (λ (y : Channel91). cond (is_used y) 1 0) x xs)) (by (is_used x) refl)
  where
    by : (b : Bool) → is_used x ≡ b → cond b 1 0 + count_by is_used xs ≤ k
    by true e = let none : 1 ≤ 0 = min 0 e in omega (arith, none)
    by false e =
        let rest : count_by is_used xs ≤ k = used_below xs k (λ m used. let more : suc m ≤ k = max (suc m) used in omega (arith, more)) in
        omega (arith, rest)

-- ---- the laws

pub limits_hold : (vhost : List ℕ) (h : List Call91) → AreWithin (after_calls vhost h).limits
limits_hold vhost h = (sound_calls vhost h).within

pub channels_hold : (vhost : List ℕ) (h : List Call91) → AreInRange (after_calls vhost h)
channels_hold vhost h =
    let s = sound_calls vhost h in
    record { min = s.min; max = s.max; count = used_to (after_calls vhost h).channels (after_calls vhost h).limits.channel_max s.min s.max }
