-- There are 256 lives.
use Rattle.property_map.specs.declared.told.Told.{Told}
use Rattle.std.proofs.Common.{◌≡◌, ℕ, zero, suc, Bool, true, false, if◌then◌else◌, List, [], ◌∷◌, Option, Some, refl, ap, ◌∙◌, length}
use Rattle.gate_outside.specs.declared.ports.End.TheVariants.{Client, Up}
use Rattle.gate_outside.specs.declared.ports.Linked.TheVariants as link
use Rattle.gate_relay.specs.declared.loss.Loss.TheVariants as loss
use Rattle.machine_091.specs.State.{is_closing, is_opening}
use Rattle.machine_091.specs.declared.unit.Unit91.{Unit91}
use Rattle.machine_091.specs.declared.unit.Want91.{Want91}
use Rattle.machine_091.specs.declared.unit.Want91.TheVariants as want
use Rattle.machine_10.specs.Transitions as ten
use Rattle.machine_10.specs.Transitions.{Meaning}
use Rattle.machine_10.specs.declared.unit.Unit10.{Unit10}
use Rattle.performatives_10.specs.declared.condition.Condition.{Condition}
use Rattle.close_translate.specs.Conditions.{condition_of}
use Rattle.gate_model.specs.declared.life.Life.{Life}
use Rattle.gate_model.specs.declared.outgoing.Outgoing.TheVariants.{ToClient, ToUp}
use Rattle.gate_model.specs.declared.outgoing.UpUnit.{UpUnit}
use Rattle.gate_model.specs.declared.outgoing.UpUnit.TheVariants as up
use Rattle.gate_model.specs.declared.reply.Reply.{Reply}
use Rattle.gate_model.specs.declared.reply.Reply.TheVariants as reply
use Rattle.gate_model.specs.Lives.{failed_life, lives_by, no_lives, with_life, life_at, reason_of, is_of_channel}
use Rattle.gate_model.specs.Picks.{ArePicks}
use Rattle.gate_model.specs.Requests.{client_step, client_told}
use Rattle.gate_model.specs.State.{Came, Fed, Gave, Heard, Joined, Lost, Queued, Silent, State, Step, TakenUp, Whole, before, came}
use Rattle.gate_model.specs.State.{carried, dequeued, fail, failed, heard, left, runs, sessions_lost, windowed, with_meaning, without_begin, without_life}
use Rattle.gate_model.specs.Upstream.{heard_up, meaning_by}
use Rattle.gate_model.proofs.Sessions.{session_cases}

pub set_all : (ls : List Life) (n : ℕ) (l : Life) → length (with_life n l ls) ≡ length ls
set_all [] n l = refl
set_all (x ∷ ls) zero l = refl
set_all (x ∷ ls) (suc n) l = ap suc (set_all ls n l)

abbrev All : List Life → Type 0
All ls = length ls ≡ 256

after_set : (ls : List Life) (n : ℕ) (l : Life) → All ls → All (with_life n l ls)
after_set ls n l e = set_all ls n l ∙ e

new_all : All no_lives
unfolding no_lives
new_all = refl

want_all : (ms : ℕ) (told : Option Told) (x : Want91) (ls : List Life) → All ls → All (lives_by ms told x ls)
want_all ms told (want.Method n m) ls e = after_set ls n _ e
want_all ms told (want.ChannelCloseOk n) ls e = after_set ls n _ e
want_all ms told (want.Refuse r) ls e = by (is_of_channel r)
  where
    by : (b : Bool) → All (if b then with_life r.channel (failed_life false ms (reason_of told r) (Some (condition_of r.code)) (life_at ls r.channel)) ls else ls)
    by true = after_set ls r.channel _ e
    by false = e
want_all ms told x ls e = e

fail_all : (code : ℕ) (why : Option Condition) (w : State) → All w.lives → All (fail code why w).lives
fail_all code why w e = by (is_closing w.conn)
  where
    by : (b : Bool) → All (if b then sessions_lost w else failed code why w).lives
    by true = e
    by false = e

meaning_all : (m : Meaning) (w : State) → All w.lives → All (with_meaning m w).lives
meaning_all ten.Nothing w e = e
meaning_all ten.Init w e = e
meaning_all ten.AmqpHeader w e = e
meaning_all ten.Opened w e = by (is_opening w.conn)
  where
    by : (b : Bool) → All (if b then runs w else w).lives
    by true = e
    by false = e
meaning_all (ten.OfSession g p payload) w e =
    let kept : All (carried g p payload w).lives = after_set w.lives g _ e in
    session_cases (λ (v : State). All v.lives) g p payload w (record {
      begins = after_set _ g _ kept;
      stays = kept;
      ends = λ code why. after_set _ g _ kept;
      parts = kept;
      drops = λ code why. after_set _ g _ kept;
      fails = λ why. fail_all _ why (windowed g p w) kept;
    })
meaning_all (ten.Closed x) w e = fail_all _ _ w e
meaning_all ten.Refused w e = fail_all _ _ w e
meaning_all (ten.Violation c) w e = fail_all _ _ w e

given_all : (u : Reply) (ls : List Life) → All ls → All (without_life u ls)
given_all (reply.ChannelOpenOk n) ls e = after_set ls n _ e
given_all (reply.ChannelCloseOk n) ls e = after_set ls n _ e
given_all (reply.CrossedOk n) ls e = after_set ls n _ e
given_all (reply.ChannelClose n r) ls e = after_set ls n _ e
given_all x ls e = e

begun_all : (u : UpUnit) (ls : List Life) → All ls → All (without_begin u ls)
begun_all (up.OnSession n u) ls e = after_set ls n _ e
begun_all (up.Flow n i o) ls e = after_set ls n _ e
begun_all (up.Begin n) ls e = after_set ls n _ e
begun_all (up.End n why) ls e = after_set ls n _ e
begun_all x ls e = e

came_all : (w : State) (u : Unit91) → All w.lives → All (if w.out_of_memory then w else came (dequeued w) u).lives
came_all w u e = by w.out_of_memory
  where
    by : (b : Bool) → All (if b then w else came (dequeued w) u).lives
    by true = e
    by false = want_all w.moment (client_told w.routes w.conn u) (client_step w.routes w.paths w.conn u).1 w.lives e

heard_all : (w : State) (u : Unit10) → All w.lives → All (if w.out_of_memory then w else heard w u).lives
heard_all w u e = by w.out_of_memory
  where
    by : (b : Bool) → All (if b then w else heard w u).lives
    by true = e
    by false = meaning_all (meaning_by w.up.container u) (record w { up = heard_up u w.up }) e

queued_all : (w : State) (us : List Unit91) → All w.lives → All (if w.out_of_memory then w else record w { queue = us }).lives
queued_all w us e = by w.out_of_memory
  where
    by : (b : Bool) → All (if b then w else record w { queue = us }).lives
    by true = e
    by false = e

left_all : (w : State) (b : Bool) → All w.lives → All (if b then left w else w).lives
left_all w true e = e
left_all w false e = e

pub lives_all : (h : List Step) → ArePicks h → length (before h).lives ≡ 256
lives_all [] p = new_all
lives_all (Fed Client ∷ h) p = lives_all h p.1
lives_all (Silent Up ∷ h) p = fail_all _ _ _ (lives_all h p.1)
lives_all (Queued u ∷ h) p = queued_all (before h) _ (lives_all h p.1)
lives_all (Came u ∷ h) p = came_all (before h) u (lives_all h p.1)
lives_all (TakenUp ∷ h) p = left_all (before h) _ (lives_all h p.1)
lives_all (Heard u ∷ h) p = heard_all (before h) u (lives_all h p.1)
lives_all (Joined link.Failed ∷ h) p = fail_all _ _ _ (lives_all h p.1)
lives_all (Lost Client loss.Ended ∷ h) p = lives_all h p.1
lives_all (Lost Up loss.Ended ∷ h) p = fail_all _ _ _ (lives_all h p.1)
lives_all (Lost Up loss.Failed ∷ h) p = fail_all _ _ _ (lives_all h p.1)
lives_all (Gave (ToClient u) text ∷ h) p = given_all u (before h).lives (lives_all h p.1)
lives_all (Gave (ToUp u) text ∷ h) p = begun_all u (before h).lives (lives_all h p.1)
lives_all (Whole Client ∷ h) p = lives_all h p.1
lives_all (s ∷ h) p = lives_all h p.1
