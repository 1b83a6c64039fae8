-- Before the client's login no end is open upstream, and after it no unit of the client changes which login the container is
-- asked for.
use Rattle.std.proofs.Common.{◌≡◌, ◌∙◌, ℕ, Bool, true, false, not, ◌&&◌, if◌then◌else◌, List, []}
use Rattle.std.proofs.Common.{◌∷◌, Option, refl, ap, sym}
use Rattle.gate_outside.specs.declared.ports.End.TheVariants.{Client, Up}
use Rattle.gate_outside.specs.declared.ports.Linked.TheVariants as link
use Rattle.gate_relay.specs.declared.loss.Loss.TheVariants as loss
use Rattle.gate_relay.specs.Sides.{is_absent, is_readable}
use Rattle.close_translate.specs.declared.conditions.Scope.TheVariants as scope
use Rattle.machine_091.specs.Calls.{after_closing, after_opened, closing_phase}
use Rattle.machine_091.specs.Calls.{opened_phase}
use Rattle.machine_091.specs.State.{is_open_phase, is_opening}
use Rattle.machine_091.specs.Transitions as machine
use Rattle.machine_091.specs.declared.state.Connection.{Connection}
use Rattle.machine_091.specs.declared.state.Phase91.{Phase91}
use Rattle.machine_091.specs.declared.state.Phase91.TheVariants as phase
use Rattle.machine_091.specs.declared.unit.Unit91.{Unit91}
use Rattle.machine_10.specs.Transitions as ten
use Rattle.machine_10.specs.Transitions.{Meaning}
use Rattle.machine_10.specs.declared.state.Upstream.{Upstream}
use Rattle.gate_model.specs.declared.outgoing.Outgoing.TheVariants.{ToClient, ToUp}
use Rattle.gate_model.specs.Folds.{Peers, accepted_in, connection, container, container_kept}
use Rattle.gate_model.specs.Folds.{leaving_in, peers, peers_by, peers_came, peers_heard, peers_left}
use Rattle.gate_model.specs.Folds.{ran_out_in, side_in}
use Rattle.session_path.specs.Path.{PathState}
use Rattle.gate_model.specs.Picks.{ArePicks}
use Rattle.gate_model.specs.declared.setup.Route.{Route}
use Rattle.gate_model.specs.Requests.{client_step}
use Rattle.gate_model.specs.State.{Step, Began, Moment, Fed, Silent, Queued, Came, TakenUp, Heard}
use Rattle.gate_model.specs.State.{Joined, LinesTold, Lost, Gave, Whole, OutOfMemory, before}
use Rattle.gate_model.specs.State.{close_if}
use Rattle.gate_model.specs.State.{conn_step, is_limit_reached}
use Rattle.gate_model.specs.Upstream.{channel_max_in, container_by, meaning_by}
use Rattle.gate_model.proofs.Connections.{clash, only_given, phase_only}
use Rattle.gate_model.proofs.Outcomes.{only_closing}
use Rattle.gate_model.proofs.Known.{conn_is, known}
use Rattle.gate_model.proofs.Outcomes.{Outcome, Greets, Parts, LogsIn, Tunes, Asks, Passes, Refuses}
use Rattle.gate_model.proofs.Outcomes.{Declines, Drops, Parting, Calls, Asking, Publishes, Fills}
use Rattle.gate_model.proofs.Outcomes.{Frees, Closes, Answers, Ignores, outcome}
use Rattle.gate_model.proofs.Sessions.{conn_cases}
use Rattle.gate_model.proofs.Ups.{is_early}
use Rattle.gate_turn_laws.proofs.Lists.{and_parts}

-- ---- no phase leads back to one before the login

closing_late : (p : Phase91) → is_early (closing_phase p) ≡ false
closing_late phase.Header = refl
closing_late phase.Start = refl
closing_late phase.Tune = refl
closing_late phase.Open = refl
closing_late phase.Running = refl
closing_late phase.Closing = refl
closing_late phase.Closed = refl

pub unit_late : (rs : List Route) (ps : List (Option PathState)) (c : Connection) (u : Unit91) → is_early c.phase ≡ false → is_early (conn_step rs ps c u).phase ≡ false
unit_late rs ps c u late = by (client_step rs ps c u) (outcome rs ps c u)
  where
    by : (x : machine.Step) → Outcome c u x → is_early x.0.phase ≡ false
    by _ (Greets e) = absurd (clash _ (ap is_early e) late)
    by _ (Parts e) = refl
    by _ (LogsIn m r e) = refl
    by _ (Tunes l e) = refl
    by _ (Asks e) = late
    by _ Passes = late
    by _ (Refuses r a f e g) = refl
    by _ (Declines r d o e g) = closing_late d.phase
    by _ (Drops r d o e g) = ap is_early (phase_only o) ∙ late
    by _ (Parting e) = refl
    by _ (Calls n s m e) = late
    by _ (Asking n m e) = late
    by _ (Publishes n m x e) = late
    by _ (Fills n i e) = late
    by _ (Frees n e) = late
    by _ (Closes e) = refl
    by _ (Answers e) = refl
    by _ (Ignores e) = late

-- the login is the one unit that tells a container
pub login_late : (rs : List Route) (ps : List (Option PathState)) (c : Connection) (u : Unit91) (o : Option Upstream) → is_early c.phase ≡ false
    → container_kept o (client_step rs ps c u).1 ≡ o
login_late rs ps c u o late = by (client_step rs ps c u) (outcome rs ps c u)
  where
    by : (x : machine.Step) → Outcome c u x → container_kept o x.1 ≡ o
    by _ (Greets e) = refl
    by _ (Parts e) = refl
    by _ (LogsIn m r e) = absurd (clash _ (ap is_early e) late)
    by _ (Tunes l e) = refl
    by _ (Asks e) = refl
    by _ Passes = refl
    by _ (Refuses r a f e g) = refl
    by _ (Declines r d o e g) = refl
    by _ (Drops r d o e g) = refl
    by _ (Parting e) = refl
    by _ (Calls n s m e) = refl
    by _ (Asking n m e) = refl
    by _ (Publishes n m x e) = refl
    by _ (Fills n i e) = refl
    by _ (Frees n e) = refl
    by _ (Closes e) = refl
    by _ (Answers e) = refl
    by _ (Ignores e) = refl

opened_late : (asked : Bool) (p : Phase91) → is_early p ≡ false → is_early (opened_phase asked p) ≡ false
opened_late asked phase.Header late = absurd cc
opened_late asked phase.Start late = absurd cc
opened_late asked phase.Tune late = refl
opened_late true phase.Open late = refl
opened_late false phase.Open late = refl
opened_late asked phase.Running late = refl
opened_late asked phase.Closing late = refl
opened_late asked phase.Closed late = refl

channel_late : (n : ℕ) (c : Connection) → is_early c.phase ≡ false → is_early (after_closing scope.Channel n c).phase ≡ false
channel_late n c late = ap is_early (phase_only (only_closing n c)) ∙ late

meaning_late : (m : Meaning) (x : Peers) → is_early x.client.phase ≡ false → is_early (peers_by m x).client.phase ≡ false
meaning_late ten.Nothing x late = late
meaning_late ten.Init x late = late
meaning_late ten.AmqpHeader x late = late
meaning_late ten.Opened x late = by (is_opening x.client)
  where
    by : (b : Bool) → is_early (if b then after_opened (channel_max_in x.container) x.client else x.client).phase ≡ false
    by true = opened_late x.client.asked x.client.phase late
    by false = late
meaning_late (ten.OfSession n q payload) x late =
    conn_cases (λ (c : Connection). is_early c.phase ≡ false) n q payload x late (closing_late x.client.phase) (channel_late n x.client late)
meaning_late (ten.Closed e) x late = closing_late x.client.phase
meaning_late ten.Refused x late = closing_late x.client.phase
meaning_late (ten.Violation why) x late = closing_late x.client.phase

limit_late : (b : Bool) (c : Connection) → is_early c.phase ≡ false → is_early (close_if b c).phase ≡ false
limit_late true c late = closing_late c.phase
limit_late false c late = late

opening_late : (p : Phase91) (asked : Bool) → (is_open_phase p && asked) ≡ true → is_early p ≡ false
opening_late phase.Header asked e = absurd cc
opening_late phase.Start asked e = absurd cc
opening_late phase.Tune asked e = absurd cc
opening_late phase.Open asked e = refl
opening_late phase.Running asked e = absurd cc
opening_late phase.Closing asked e = absurd cc
opening_late phase.Closed asked e = absurd cc

-- ---- an end is asked for after the login

was_early : (x y : Bool) → (x ≡ false → y ≡ false) → y ≡ true → x ≡ true
was_early true y f e = refl
was_early false y f e = absurd (clash y e (f refl))

-- one of two connections is early, so this one was
either_early : (b : Bool) (p q : Peers) → (is_early p.client.phase ≡ false → is_early q.client.phase ≡ false) → is_early (if b then p else q).client.phase ≡ true
    → is_early p.client.phase ≡ true
either_early true p q f e = e
either_early false p q f e = was_early (is_early p.client.phase) (is_early q.client.phase) f e

pub unreached : (h : List Step) → ArePicks h → is_early (connection h).phase ≡ true → is_readable (side_in h) ≡ false
unreached [] p e = refl
unreached (Began site n ms ∷ h) p e = ap (λ (g : List Step). is_readable (side_in g)) p.0
unreached (Moment ms ∷ h) p e =
    unreached h p.1
    (was_early (is_early (connection h).phase) (is_early (close_if (is_limit_reached (connection h) (accepted_in h) ms) (connection h)).phase)
    (limit_late (is_limit_reached (connection h) (accepted_in h) ms) (connection h)) e)
unreached (Fed Client ∷ h) p e = unreached h p.1 e
unreached (Fed Up ∷ h) p e = unreached h p.1 e
unreached (Silent Client ∷ h) p e = absurd cc
unreached (Silent Up ∷ h) p e = absurd (clash _ e (closing_late (connection h).phase))
unreached (Queued u ∷ h) p e = unreached h p.1 e
unreached (Came u ∷ h) p e = unreached h p.1 (either_early (ran_out_in h) (peers h) (peers_came (peers h) u) (unit_late (peers h).routes (peers h).paths (connection h) u) e)
unreached (TakenUp ∷ h) p e = unreached h p.1 (by (not (ran_out_in h) && leaving_in h) e)
  where
    by : (b : Bool) → is_early (if b then peers_left (peers h) else peers h).client.phase ≡ true
        → is_early (connection h).phase ≡ true
    by true e = absurd cc
    by false e = e
unreached (Heard u ∷ h) p e =
    unreached h p.1
    (either_early (ran_out_in h) (peers h) (peers_heard (peers h) u)
    (meaning_late (meaning_by (container h) u) (record (peers h) { container = container_by (container h) u })) e)
unreached (Joined link.Ok ∷ h) p e =
    let opening : is_opening (before h).conn ≡ true = (and_parts (is_opening (before h).conn) (is_absent (before h).up.side) p.0).0 in
    let late : is_early (before h).conn.phase ≡ false = opening_late (before h).conn.phase (before h).conn.asked opening in
    absurd (clash _ e (ap (λ (c : Connection). is_early c.phase) (sym (conn_is (known h p.1))) ∙ late))
unreached (Joined link.Failed ∷ h) p e = refl
unreached (Lost Client how ∷ h) p e = unreached h p.1 e
unreached (Lost Up loss.Ended ∷ h) p e = refl
unreached (Lost Up loss.Failed ∷ h) p e = refl
unreached (Lost Up loss.Shut ∷ h) p e = refl
unreached (Gave (ToClient u) text ∷ h) p e = unreached h p.1 (sym (ap is_early (phase_only (only_given u (connection h)))) ∙ e)
unreached (Gave (ToUp u) text ∷ h) p e = unreached h p.1 e
unreached (Whole Client ∷ h) p e = unreached h p.1 e
unreached (Whole Up ∷ h) p e = unreached h p.1 e
unreached (LinesTold ∷ h) p e = unreached h p.1 e
unreached (OutOfMemory ∷ h) p e = absurd (clash _ e (closing_late (connection h).phase))
