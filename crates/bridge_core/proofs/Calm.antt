-- A unit of the container never leaves a pair out of memory that was not so before.
use Rattle.std.proofs.Common.{◌≡◌, ℕ, ◌==◌, not, ◌&&◌, ◌||◌, Bool, true, false, if◌then◌else◌, List}
use Rattle.std.proofs.Common.{[], ◌∷◌, map, Option, None, Some, refl, sym, ◌∙◌}
use Rattle.gate_outside.specs.declared.ports.End.TheVariants.{Client, Up}
use Rattle.gate_relay.specs.Sides.{is_readable}
use Rattle.close_translate.specs.declared.conditions.Scope.{Scope}
use Rattle.close_translate.specs.declared.conditions.Scope.TheVariants as scope
use Rattle.machine_091.specs.State.{is_closing, is_open, is_opening}
use Rattle.machine_10.specs.Parts.{Parts}
use Rattle.machine_10.specs.Transitions.{Meaning}
use Rattle.machine_10.specs.Transitions as means
use Rattle.machine_10.specs.declared.unit.Unit10.{Unit10}
use Rattle.performatives_10.specs.declared.condition.Condition.{Condition}
use Rattle.gate_model.specs.declared.reply.Reason.{Reason}
use Rattle.gate_model.specs.declared.channel.SessionUnit.{SessionUnit}
use Rattle.gate_model.specs.declared.outgoing.Outgoing.TheVariants.{ToClient, ToUp}
use Rattle.gate_model.specs.declared.outgoing.UpUnit.{UpUnit}
use Rattle.gate_model.specs.declared.outgoing.UpUnit.TheVariants as up
use Rattle.gate_model.specs.Due.{answers, carried_rows, close_behind, detaches, disposals, ends}
use Rattle.gate_model.specs.Due.{is_end_due, none_left, writings}
use Rattle.gate_model.specs.Due.{pick, row_on, rows_in, session_rows, settlings, takes_memory}
use Rattle.gate_model.specs.Due.{takes_memory_on, takes_memory_up, unless_out, up_rows}
use Rattle.gate_model.specs.Due.{channel_closes, channel_oks, client_rows, client_units, close_oks}
use Rattle.gate_model.specs.Due.{closes, confirm_on, confirms, contents, if_so, is_beat_due}
use Rattle.gate_model.specs.Due.{last_closes, may_answer, may_confirm, may_confirm_all, may_confirm_some, may_end, may_go}
use Rattle.gate_model.specs.Due.{may_return}
use Rattle.gate_model.specs.Due.{may_tell, openings, refused_on}
use Rattle.gate_model.specs.Due.{may_idle, other_rows, return_on, takes_memory_back, when}
use Rattle.gate_model.specs.Lives.{is_carried, life_at, session_in}
use Rattle.gate_model.specs.Paths.{closed_path, path_at}
use Rattle.gate_model.specs.State.{is_channel_settled, is_settled}
use Rattle.gate_model.specs.State.{State, Heard, begun_session, carried, closed_for, fail}
use Rattle.gate_model.specs.State.{fail_life, heard, session_lost}
use Rattle.gate_model.specs.State.{link_scope, met_session, scoped, step, windowed, with_meaning}
use Rattle.gate_model.specs.State.{with_session}
use Rattle.gate_model.specs.Upstream.{first, heard_up, meaning_by}
use Rattle.gate_model.specs.declared.reply.Pending.{Pending}
use Rattle.gate_model.specs.declared.reply.Reply.{Reply}
use Rattle.gate_model.specs.declared.reply.Reply.TheVariants as reply
use Rattle.machine_091.specs.declared.unit.Refusal.{Refusal}
use Rattle.publish_path.specs.declared.publish.Confirm.{Confirm}
use Rattle.publish_path.specs.declared.publish.NextReturn.{NextReturn}
use Rattle.session_path.specs.Due.{next_confirm, next_return}
use Rattle.session_path.specs.Path.{PathState}
use Rattle.bridge_core.proofs.FirstOf.{FirstIs, both_are, each_is, when_is, when_up_is}

either : (b : Bool) (v w : State) → v.out_of_memory ≡ false → w.out_of_memory ≡ false → (if b then v else w).out_of_memory ≡ false
either true v w d e = d
either false v w d e = e

fail_calm : (code : ℕ) (why : Option Condition) (w : State) → w.out_of_memory ≡ false → (fail code why w).out_of_memory ≡ false
fail_calm code why w e = either (is_closing w.conn) _ _ e e

life_calm : (n code : ℕ) (why : Option Condition) (f : PathState → PathState) (w : State) → w.out_of_memory ≡ false → (fail_life n code why f w).out_of_memory ≡ false
life_calm n code why f w e = either (is_open w.conn n) _ w e e

closed_calm : (n : ℕ) (code : Option ℕ) (w : State) → w.out_of_memory ≡ false → (closed_for n code w).out_of_memory ≡ false
closed_calm n None w e = e
closed_calm n (Some code) w e = life_calm n code None closed_path w e

met_calm : (n : ℕ) (p : Parts) (code : Option ℕ) (w : State) → w.out_of_memory ≡ false → (met_session n p code w).out_of_memory ≡ false
met_calm n p code w e = either (p.0 == 17) (begun_session n w) _ e (closed_calm n code w e)

scoped_calm : (o : Option Scope) (n : ℕ) (p : Parts) (payload : List ℕ) (w : State) → w.out_of_memory ≡ false → (scoped o n p payload w).out_of_memory ≡ false
scoped_calm None n p payload w e = met_calm n p _ (carried n p payload w) e
scoped_calm (Some scope.Connection) n p payload w e = fail_calm _ _ (windowed n p w) e
scoped_calm (Some scope.Channel) n p payload w e = life_calm n _ _ _ (session_lost n (windowed n p w)) e

session_calm : (n : ℕ) (p : Parts) (payload : List ℕ) (w : State) → w.out_of_memory ≡ false → (with_session n p payload w).out_of_memory ≡ false
session_calm n p payload w e = scoped_calm (link_scope p payload (life_at w.lives n).session (path_at w.paths n)) n p payload w e

meaning_calm : (m : Meaning) (w : State) → w.out_of_memory ≡ false → (with_meaning m w).out_of_memory ≡ false
meaning_calm means.Nothing w e = e
meaning_calm means.Init w e = e
meaning_calm means.AmqpHeader w e = e
meaning_calm means.Opened w e = either (is_opening w.conn) _ w e e
meaning_calm (means.OfSession g p payload) w e = session_calm g p payload w e
meaning_calm (means.Closed t) w e = fail_calm _ _ w e
meaning_calm means.Refused w e = fail_calm _ _ w e
meaning_calm (means.Violation c) w e = fail_calm _ _ w e

pub heard_calm : (w : State) (u : Unit10) → w.out_of_memory ≡ false → (step w (Heard u)).out_of_memory ≡ false
heard_calm w u e =
    either w.out_of_memory w (heard w u) e (meaning_calm (meaning_by w.up.container u) (record w { up = heard_up u w.up }) e)

-- ---- what a pair that ran out of memory offers takes none

abbrev IsFree : UpUnit → Type 0
IsFree u = takes_memory_up u ≡ false

row_free : {A : Type 0} (w : State) (n : ℕ) (o : Option A) (f : A → SessionUnit) → ((x : A) → takes_memory_on (f x) ≡ false) → FirstIs IsFree (row_on w.up.container n o f)
row_free w n None f free = tt
row_free w n (Some x) f free = when_up_is IsFree (is_carried (session_in w.up.container n)) (up.OnSession n (f x)) (free x)

sessions_free : (w : State) → w.out_of_memory ≡ true → FirstIs IsFree (session_rows w)
sessions_free w m =
    both_are IsFree (unless_out w.out_of_memory (carried_rows w)) _ (by w.out_of_memory m)
    (both_are IsFree (disposals w) _ (each_is IsFree _ w.lives (λ n. row_free w n _ _ (λ x. refl)))
    (both_are IsFree (settlings w) (detaches w) (each_is IsFree _ w.lives (λ n. row_free w n _ _ (λ x. refl)))
    (each_is IsFree _ w.lives (λ n. row_free w n _ _ (λ x. refl)))))
  where
    by : (b : Bool) → b ≡ true → FirstIs IsFree (unless_out b (carried_rows w))
    by true e = tt
    by false e = absurd cc

others_free : (k : Bool) (w : State) → k ≡ true → w.out_of_memory ≡ true → FirstIs IsFree (other_rows k w)
others_free true w e m =
    both_are IsFree (session_rows w) _ (sessions_free w m)
    (both_are IsFree (ends true w) (close_behind w) (each_is IsFree _ w.lives (λ n. when_up_is IsFree (is_end_due true w n) _ refl))
    (when_up_is IsFree (none_left w && w.up.sent.«open») _ refl))
others_free false w e m = absurd cc

rows_free : (k : Bool) (w : State) → k ≡ true → w.out_of_memory ≡ true → FirstIs IsFree (rows_in k w)
rows_free k w e m = both_are IsFree (other_rows k w) _ (others_free k w e m) (when_up_is IsFree (may_idle w) up.Empty refl)

up_free : (w : State) → w.out_of_memory ≡ true → FirstIs IsFree (up_rows w)
up_free w m = by (is_readable w.up.side && not w.up.sent.close)
  where
    late : (b k : Bool) → b ≡ true → (b || k) ≡ true
    late true k f = refl
    late false k f = absurd cc

    by : (b : Bool) → FirstIs IsFree (if b then rows_in (w.out_of_memory || is_closing w.conn) w else [])
    by true = rows_free (w.out_of_memory || is_closing w.conn) w (late w.out_of_memory (is_closing w.conn) m) m
    by false = tt

first_free : (us : List UpUnit) → FirstIs IsFree us → takes_memory (first (map ToUp us)) ≡ false
first_free [] free = refl
first_free (u ∷ us) free = free

pub calm_pick : (w : State) → takes_memory (pick w Up) ≡ true → w.out_of_memory ≡ false
calm_pick w e = by w.out_of_memory refl
  where
    by : (m : Bool) → w.out_of_memory ≡ m → m ≡ false
    by false f = refl
    by true f = let wrong : true ≡ false = sym e ∙ first_free (up_rows w) (up_free w f) in absurd cc

-- ---- nor does what it offers to the client

abbrev IsLight : Reply → Type 0
IsLight u = takes_memory_back u ≡ false

none_so : (b : Bool) (us : List Reply) → b ≡ false → FirstIs IsLight (if_so b us)
none_so true us e = absurd cc
none_so false us e = tt

if_light : (b : Bool) (us : List Reply) → (b ≡ true → FirstIs IsLight us) → FirstIs IsLight (if_so b us)
if_light true us light = light refl
if_light false us light = tt

confirm_light : (n : ℕ) (may : Bool) (o : Option Confirm) → FirstIs IsLight (confirm_on may n o)
confirm_light n may None = tt
confirm_light n may (Some c) = when_is IsLight may _ refl

-- none begins
return_light : (n : ℕ) (may : Bool) (o : Option NextReturn) → may ≡ false → FirstIs IsLight (return_on may n o)
return_light n may None e = tt
return_light n true (Some r) e = absurd cc
return_light n false (Some r) e = tt

refused_light : (n : ℕ) (settled : Bool) (o : Option Reason) → FirstIs IsLight (refused_on settled n o)
refused_light n settled None = tt
refused_light n settled (Some r) = when_is IsLight settled _ refl

close_light : (o : Option Refusal) → FirstIs IsLight (closes o)
close_light None = tt
close_light (Some r) = refl

opening_light : (p : Pending) → FirstIs IsLight (openings p)
opening_light p =
    both_are IsLight _ _ (when_is IsLight p.protocol reply.Protocol refl)
    (both_are IsLight _ _ (when_is IsLight p.start reply.Start refl)
    (both_are IsLight _ _ (when_is IsLight p.tune reply.Tune refl) (when_is IsLight p.open_ok reply.OpenOk refl)))

none_out : (b c : Bool) → b ≡ true → (not b && c) ≡ false
none_out true c e = refl
none_out false c e = absurd cc

none_answers : (b c : Bool) → b ≡ true → not (b || c) ≡ false
none_answers true c e = refl
none_answers false c e = absurd cc

client_light : (w : State) → w.out_of_memory ≡ true → FirstIs IsLight (client_rows w)
client_light w m =
    both_are IsLight (client_units w) _
    (both_are IsLight (if_so (may_return w) (contents w)) _ (none_so (may_return w) (contents w) (none_out w.out_of_memory _ m))
    (both_are IsLight (if_so (may_answer w) (writings w)) _ (none_so (may_answer w) (writings w) (none_answers w.out_of_memory (is_closing w.conn) m))
    (both_are IsLight (openings p) _ (opening_light p)
    (both_are IsLight (if_so (may_answer w) (answers w)) _ (none_so (may_answer w) (answers w) (none_answers w.out_of_memory (is_closing w.conn) m))
    (both_are IsLight (if_so (may_confirm_some w) (confirms w)) _ (if_light (may_confirm_some w) (confirms w) (λ e. confirming))
    (both_are IsLight (close_oks p) _ (when_is IsLight p.close_ok reply.CloseOk refl)
    (both_are IsLight (if_so (may_end w) (channel_oks w)) _ (if_light (may_end w) (channel_oks w) (λ e. ended))
    (both_are IsLight (last_closes p) _ (both_are IsLight (closes p.close) _ (close_light p.close) (when_is IsLight p.no_memory reply.NoMemory refl))
    (if_light (may_tell w) (channel_closes w) (λ e. each_is IsLight _ w.lives (λ n. refused_light n (is_channel_settled w n) (life_at w.lives n).close)))))))))))
    (when_is IsLight (is_beat_due w) reply.Heartbeat refl)
  where
    p : Pending
    p = may_go (is_settled w) w.pending

    confirming : FirstIs IsLight (confirms w)
    confirming = each_is IsLight _ w.lives (λ n. both_are IsLight (return_on (not w.out_of_memory && may_confirm (may_confirm_all w) (life_at w.lives n)) n (next_return (path_at w.paths n))) _
        (return_light n (not w.out_of_memory && may_confirm (may_confirm_all w) (life_at w.lives n)) (next_return (path_at w.paths n)) (none_out w.out_of_memory _ m))
        (confirm_light n (may_confirm (may_confirm_all w) (life_at w.lives n)) (next_confirm (path_at w.paths n))))

    ended : FirstIs IsLight (channel_oks w)
    ended = each_is IsLight _ w.lives (λ n. both_are IsLight (when (life_at w.lives n).crossed_ok (reply.CrossedOk n)) _
        (when_is IsLight (life_at w.lives n).crossed_ok (reply.CrossedOk n) refl)
        (when_is IsLight ((life_at w.lives n).close_ok && is_channel_settled w n) (reply.ChannelCloseOk n) refl))

first_light : (us : List Reply) → FirstIs IsLight us → takes_memory (first (map ToClient us)) ≡ false
first_light [] light = refl
first_light (u ∷ us) light = light

pub calm_client : (w : State) → takes_memory (pick w Client) ≡ true → w.out_of_memory ≡ false
calm_client w e = by w.out_of_memory refl
  where
    by : (m : Bool) → w.out_of_memory ≡ m → m ≡ false
    by false f = refl
    by true f = let wrong : true ≡ false = sym e ∙ first_light (client_rows w) (client_light w f) in absurd cc
