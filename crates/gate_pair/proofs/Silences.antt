-- An end that is to be given up is at the moment at which that becomes due.
use Rattle.std.proofs.Common.{◌≡◌, ◌∙◌, ℕ, ◌-◌, ◌*◌, ◌==◌, ◌<◌, nat_le, Bool, true, false, not}
use Rattle.std.proofs.Common.{◌&&◌, ◌||◌, if◌then◌else◌, List, [], ◌∷◌, ◌++◌, Option, Some, refl}
use Rattle.std.proofs.Common.{ap, arith, sym}
use Rattle.std.specs.List.{list_any}
use Rattle.std.proofs.lemmas.Bool.Decides.{nat_tests}
use Rattle.close_translate.specs.declared.codes.TheConstants.{CONNECTION_FORCED}
use Rattle.gate_outside.specs.declared.ports.End.{End}
use Rattle.gate_outside.specs.declared.ports.End.TheVariants.{Client, Up}
use Rattle.gate_relay.specs.Entries as entry
use Rattle.gate_relay.specs.Entries.{Entry}
use Rattle.gate_relay.specs.Relayed.{IsRelayed}
use Rattle.gate_relay.specs.Sides.{is_readable}
use Rattle.machine_091.specs.State.{awaits, is_closing, is_opening}
use Rattle.performatives_10.specs.declared.condition.Condition.{Condition}
use Rattle.performatives_10.specs.declared.condition.Condition.TheVariants.{ResourceLimitExceeded}
use Rattle.gate_model.specs.declared.timers.TheConstants.{SILENCE_PER_SECOND, UP_SILENCE}
use Rattle.gate_model.specs.Due.{is_awaited, is_silent, is_silent_by}
use Rattle.gate_model.specs.Paths.{is_laden}
use Rattle.gate_model.specs.Picks.{ArePicks}
use Rattle.gate_model.specs.Queue.{is_bad_unit, is_full}
use Rattle.gate_model.specs.Setup.{SetupText}
use Rattle.gate_model.specs.Silence.{SilentAtOnce, SilentWhenDue}
use Rattle.gate_model.specs.State.{State, Step, Moment, Silent, before, close, close_if}
use Rattle.gate_model.specs.State.{close_waits, fail, failed, fed_by, is_held, is_limit_reached, sessions_lost}
use Rattle.gate_model.specs.State.{silenced, told}
use Rattle.gate_model.proofs.Connections.{close_closes, opening_early}
use Rattle.gate_pair.specs.Meaning.{given_up, pair_words, state_of, steps_of}
use Rattle.gate_pair.specs.Silence.{GivesUp, NoneIsSilent}
use Rattle.gate_pair.proofs.Lines.{laden_told}
use Rattle.gate_pair.proofs.Picks.{picks}

-- ---- a client that is held counts from now

or_right : (a b : Bool) → b ≡ true → (a || b) ≡ true
or_right true b e = refl
or_right false b e = e

abbrev held_if : Bool → Bool → State → Bool
held_if opening laden w = opening || (close_waits w || (list_any is_bad_unit w.queue || (is_full w.queue || laden)))

-- the limit of the opening holds no client
held_before : (late : Bool) (w : State) → held_if (is_opening (close_if late w.conn)) (is_laden w.paths) w ≡ true → is_held w ≡ true
held_before false w e = e
held_before true w e = by (is_opening (close w.conn)) refl e
  where
    by : (b : Bool) → is_opening (close w.conn) ≡ b → held_if b (is_laden w.paths) w ≡ true → is_held w ≡ true
    by true f e = absurd (opening_early (close w.conn) f (close_closes w.conn.phase))
    by false f e = or_right (is_opening w.conn) _ e

held_now : (w : State) (ms : ℕ) → is_held (told w ms) ≡ true → (told w ms).fed_at ≡ ms
held_now w ms e =
    let late : Bool = is_limit_reached w.conn w.accepted_at ms in
    ap (λ (b : Bool). fed_by b ms w.fed_at)
    (held_before late w (sym (ap (λ (laden : Bool). held_if (is_opening (close_if late w.conn)) laden w) (laden_told w.paths)) ∙ e))

not_long : (interval ms : ℕ) → is_silent_by interval ms ms ≡ false
not_long interval ms = by (interval == 0) refl
  where
    by : (b : Bool) → (interval == 0) ≡ b → (not b && nat_le (SILENCE_PER_SECOND * interval) (ms - ms)) ≡ false
    by true e = refl
    by false e =
        let some : 0 < interval = grind (arith, nat_tests, e) in
        let much : 0 < SILENCE_PER_SECOND * interval = omega (arith, some) in
        over (SILENCE_PER_SECOND * interval) much
      where
        over : (n : ℕ) → 0 < n → nat_le n (ms - ms) ≡ false
        over n much = grind (arith, nat_tests, much)

-- ---- a client that isn't to be given up

none_by : (a b : Bool) → (a && (false && b)) ≡ false
none_by true b = refl
none_by false b = refl

-- one that was isn't again
once_given : (w : State) → w.given_up ≡ true → is_silent w Client ≡ false
once_given w e =
    by (is_awaited (awaits w.conn)) (is_held w) w.given_up e
  where
    by : (a h g : Bool) → g ≡ true → (((a || g) && not h) && (not (g || (w.gone || (w.leaving || w.out_of_memory))) && is_silent_by w.conn.limits.heartbeat w.moment w.fed_at)) ≡ false
    by a h true e = none_by ((a || true) && not h) (is_silent_by w.conn.limits.heartbeat w.moment w.fed_at)
    by a h false e = absurd cc

-- one that is held no more isn't yet
unheld : (a held now n long : Bool) → (held ≡ true → long ≡ false) → ((a && not held) && (n && long)) ≡ false → ((a && not now) && (n && long)) ≡ false
unheld false held now n long f e = refl
unheld true held true n long f e = refl
unheld true false false n long f e = e
unheld true true false false long f e = refl
unheld true true false true long f e = f refl

given_fail : (code : ℕ) (why : Option Condition) (w : State) → (fail code why w).given_up ≡ w.given_up
given_fail code why w = by (is_closing w.conn)
  where
    by : (b : Bool) → (if b then sessions_lost w else failed code why w).given_up ≡ w.given_up
    by true = refl
    by false = refl

abbrev UpGone : State → State
UpGone w = record w { up = record w.up { silent = true } }

none_left : (w : State) → (is_held w ≡ true → is_silent_by w.conn.limits.heartbeat w.moment w.fed_at ≡ false) → is_silent w Client ≡ false → is_silent (silenced w Up) Client ≡ false
none_left w f e = by (is_closing w.conn)
  where
    by : (b : Bool) → is_silent (if b then sessions_lost (UpGone w) else failed CONNECTION_FORCED (Some ResourceLimitExceeded) (UpGone w)) Client ≡ false
    by true = unheld (is_awaited (awaits w.conn) || w.given_up) (is_held w) (is_held (sessions_lost (UpGone w))) (not (w.given_up || (w.gone || (w.leaving || w.out_of_memory)))) _ f e
    by false =
        unheld (is_awaited (awaits w.conn) || w.given_up) (is_held w) (is_held (failed CONNECTION_FORCED (Some ResourceLimitExceeded) (UpGone w)))
        (not (w.given_up || (w.gone || (w.leaving || w.out_of_memory)))) _ f e

-- ---- a container that isn't

up_fail : (code : ℕ) (why : Option Condition) (w : State) → (fail code why w).up.silent ≡ w.up.silent
up_fail code why w = by (is_closing w.conn)
  where
    by : (b : Bool) → (if b then sessions_lost w else failed code why w).up.silent ≡ w.up.silent
    by true = refl
    by false = refl

once_silent : (w : State) → w.up.silent ≡ true → is_silent w Up ≡ false
once_silent w e = by (is_readable w.up.side) w.up.silent e
  where
    by : (r x : Bool) → x ≡ true → (r && (not x && nat_le UP_SILENCE (w.moment - w.up.fed_at))) ≡ false
    by r true e = none_by r (nat_le UP_SILENCE (w.moment - w.up.fed_at))
    by r false e = absurd cc

-- ---- behind a moment

-- what the watch of both ends makes of a state
abbrev watched_up : List Step → State
watched_up g = before (given_up Up (before g) ++ g)

up_none : (g : List Step) → is_silent (watched_up g) Up ≡ false
up_none g = by (is_silent (before g) Up) refl
  where
    by : (b : Bool) → is_silent (before g) Up ≡ b → is_silent (before ((if b then Silent Up ∷ [] else []) ++ g)) Up ≡ false
    by true e = once_silent (silenced (before g) Up) (up_fail _ _ (UpGone (before g)))
    by false e = e

stays_given : (g : List Step) → (before g).given_up ≡ true → is_silent (watched_up g) Client ≡ false
stays_given g e = by (is_silent (before g) Up)
  where
    by : (b : Bool) → is_silent (before ((if b then Silent Up ∷ [] else []) ++ g)) Client ≡ false
    by true = once_given (silenced (before g) Up) (given_fail _ _ (UpGone (before g)) ∙ e)
    by false = once_given (before g) e

stays_none : (g : List Step) → (is_held (before g) ≡ true → is_silent_by (before g).conn.limits.heartbeat (before g).moment (before g).fed_at ≡ false) → is_silent (before g) Client ≡ false
    → is_silent (watched_up g) Client ≡ false
stays_none g f e = by (is_silent (before g) Up)
  where
    by : (b : Bool) → is_silent (before ((if b then Silent Up ∷ [] else []) ++ g)) Client ≡ false
    by true = none_left (before g) f e
    by false = e

client_none : (ms : ℕ) (g : List Step) → is_silent (watched_up (given_up Client (before (Moment ms ∷ g)) ++ Moment ms ∷ g)) Client ≡ false
client_none ms g = by (is_silent w Client) refl
  where
    w : State
    w = before (Moment ms ∷ g)

    now : is_held w ≡ true → is_silent_by w.conn.limits.heartbeat w.moment w.fed_at ≡ false
    now e = ap (is_silent_by w.conn.limits.heartbeat ms) (held_now (before g) ms e) ∙ not_long w.conn.limits.heartbeat ms

    by : (b : Bool) → is_silent w Client ≡ b → is_silent (watched_up ((if b then Silent Client ∷ [] else []) ++ Moment ms ∷ g)) Client ≡ false
    by true e = stays_given (Silent Client ∷ Moment ms ∷ g) refl
    by false e = stays_none (Moment ms ∷ g) now e

none_at : (s : SetupText) (ms : ℕ) (h : List Entry) (end : End) → is_silent (state_of s (entry.Moment ms ∷ h)) end ≡ false
none_at s ms h Client = client_none ms (steps_of s h)
none_at s ms h Up = up_none (given_up Client (before (Moment ms ∷ steps_of s h)) ++ Moment ms ∷ steps_of s h)

none_is_silent : (s : SetupText) (h : List Entry) → NoneIsSilent s h
none_is_silent s [] = tt
none_is_silent s (entry.Moment ms ∷ h) = (none_at s ms h, none_is_silent s h)
none_is_silent s (entry.Began p ms ∷ h) = none_is_silent s h
none_is_silent s (entry.Refused ∷ h) = none_is_silent s h
none_is_silent s (entry.Came end bytes ∷ h) = none_is_silent s h
none_is_silent s (entry.Dry end ∷ h) = none_is_silent s h
none_is_silent s (entry.Settled ∷ h) = none_is_silent s h
none_is_silent s (entry.Joined answer ∷ h) = none_is_silent s h
none_is_silent s (entry.Took end bytes n ∷ h) = none_is_silent s h
none_is_silent s (entry.Stuck end bytes ∷ h) = none_is_silent s h
none_is_silent s (entry.Lost end how ∷ h) = none_is_silent s h
none_is_silent s (entry.OutOfMemory cut ∷ h) = none_is_silent s h
none_is_silent s (entry.Over ∷ h) = none_is_silent s h

-- what the lower crate says of silence
pub record AreGivenUp : Type 0 where
  pub due : (g : List Step) → ArePicks g → SilentWhenDue g
  pub at_once : (g : List Step) → ArePicks g → SilentAtOnce g

pub gives_up : AreGivenUp → (s : SetupText) (h : List Entry) → IsRelayed (pair_words s) h → GivesUp s h
gives_up x s h r = record {
  due = x.due (steps_of s h) (picks s h r);
  at_once = x.at_once (steps_of s h) (picks s h r);
  at_moments = none_is_silent s h;
}
