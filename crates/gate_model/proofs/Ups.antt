-- What the state knows of the units to a container, by the folds.
use Rattle.std.proofs.Common.{◌≡◌, ℕ, ◌⊎◌, inl, inr, Bool, true, false, not, ◌&&◌, ◌||◌}
use Rattle.std.proofs.Common.{if◌then◌else◌, List, [], ◌∷◌, ◌++◌, Option, None, Some, append-nil, refl, sym, ap, ◌∙◌, subst}
use Rattle.std.specs.Prelude.{is_some, map}
use Rattle.std.specs.List.{list_any}
use Rattle.std.specs.Option.{option_map, option_to_list}
use Rattle.std.proofs.lemmas.List.Folds.{list_any-append}
use Rattle.gate_outside.specs.declared.ports.End.TheVariants.{Client, Up}
use Rattle.gate_outside.specs.declared.ports.Linked.TheVariants as link
use Rattle.gate_relay.specs.Sides.{is_absent, is_readable}
use Rattle.gate_relay.specs.declared.loss.Loss.TheVariants as loss
use Rattle.gate_relay.specs.declared.sides.Side.{Side}
use Rattle.gate_relay.specs.declared.sides.Side.TheVariants as side
use Rattle.machine_091.specs.Calls.{after_opened, closing_phase, opened_phase}
use Rattle.machine_091.specs.State.{is_closing, is_opening}
use Rattle.machine_091.specs.Transitions as machine
use Rattle.machine_091.specs.declared.state.Connection.{Connection}
use Rattle.machine_091.specs.declared.state.Phase91.{Phase91}
use Rattle.machine_091.specs.declared.state.Phase91.TheVariants as phase
use Rattle.machine_091.specs.declared.unit.Unit91.{Unit91}
use Rattle.machine_10.specs.Transitions as ten
use Rattle.machine_10.specs.Transitions.{Meaning}
use Rattle.machine_10.specs.declared.state.Phase10.{Phase10}
use Rattle.machine_10.specs.declared.state.Upstream.{Upstream}
use Rattle.machine_10.specs.declared.unit.Unit10.{Unit10}
use Rattle.performatives_10.specs.declared.condition.Condition.{Condition}
use Rattle.session_path.specs.Path.{PathState}
use Rattle.gate_model.specs.declared.channel.SessionUnit.{SessionUnit}
use Rattle.gate_model.specs.declared.outgoing.Outgoing.TheVariants.{ToClient, ToUp}
use Rattle.gate_model.specs.declared.outgoing.UpPending.{UpPending}
use Rattle.gate_model.specs.declared.outgoing.UpSent.{UpSent}
use Rattle.gate_model.specs.declared.outgoing.UpUnit.{UpUnit}
use Rattle.gate_model.specs.declared.outgoing.UpUnit.TheVariants as up
use Rattle.gate_model.specs.Asked.{called, called_by, called_from, is_opening_unit, is_up_close, is_up_open, sent_up_whole}
use Rattle.gate_model.specs.Due.{attaches, begins, carried_rows, close_behind, detaches, disposals, ends, may_idle, other_rows}
use Rattle.gate_model.specs.Due.{flows_on, is_end_due, link_flows, none_left, pick, row_on, rows_in}
use Rattle.gate_model.specs.Due.{session_flows, session_rows, settlings, transfers, unless_out, up_rows}
use Rattle.gate_model.specs.Session.{is_flow_owed}
use Rattle.gate_model.specs.Folds.{Peers, accepted_in, connection, container, container_kept}
use Rattle.gate_model.specs.Folds.{carried_on, leaving_in, moment_in, peers, peers_by, peers_came}
use Rattle.gate_model.specs.Folds.{peers_heard, peers_left, ran_out_in, scope_in, sent_up, sent_up_at}
use Rattle.gate_model.specs.Picks.{ArePicks}
use Rattle.gate_model.specs.Requests.{client_step}
use Rattle.gate_model.specs.State.{Began, Came, Fed, Gave, Heard, Joined, Lost, Moment, OutOfMemory}
use Rattle.gate_model.specs.State.{Queued, Silent, State, Step, TakenUp, Whole, before, came}
use Rattle.gate_model.specs.State.{close_if, dequeued, fail, failed, heard, is_limit_reached, left, runs, sessions_lost, windowed, with_meaning, paths_lost}
use Rattle.gate_model.specs.Lives.{is_carried, is_free, session_in}
use Rattle.gate_model.specs.declared.life.Life.{Life}
use Rattle.machine_10.specs.Calls.{asked, left as left_session, may_begin}
use Rattle.machine_10.specs.State.{session_at}
use Rattle.machine_10.specs.declared.state.Session.{Session}
use Rattle.machine_10.specs.declared.state.Session.TheVariants as session
use Rattle.gate_model.specs.Upstream.{UpState, begun, channel_max_in, closing_with, container_by, container_given, ended_in, first, heard_up}
use Rattle.gate_model.specs.Upstream.{meaning_by, no_end, nothing_due, opening_rows, when_up, with_begun, with_whole, without_up}
use Rattle.gate_model.proofs.Basics.{and_right, both_true, or_false, or_one, or_true}
use Rattle.gate_model.proofs.Connections.{clash, only_given, phase_only}
use Rattle.gate_model.proofs.Outcomes.{only_closing, Outcome, Greets, Parts, LogsIn, Tunes, Refuses, Declines, Drops, Parting}
use Rattle.gate_model.proofs.Rows.{first_each}
use Rattle.gate_model.proofs.Sessions.{conn_cases, only_scoped, session_cases}
use Rattle.gate_model.proofs.Known.{Known, conn_is, container_is, keep_is, known, memory_is, moment_is}
use Rattle.gate_model.proofs.Openings.{UpTo, Ups, is_opening_first, phase_in, up_to_closed, ups_gone, ups_heard, ups_other}
use Rattle.gate_model.proofs.Outcomes.{Closes, Answers, outcome}
use Rattle.gate_model.specs.declared.setup.Route.{Route}

-- ---- before the login there is no container

abbrev pub is_early : Phase91 → Bool
is_early phase.Header = true
is_early phase.Start = true
is_early x = false

abbrev pub Early : Peers → Type 0
Early p = is_early p.client.phase ≡ true → p.container ≡ None

closing_late : (p : Phase91) → is_early (closing_phase p) ≡ false
closing_late phase.Header = refl
closing_late x = refl

early_came : (p : Peers) (u : Unit91) → Early p → Early (peers_came p u)
early_came p u f = by (client_step p.routes p.paths p.client u) (outcome p.routes p.paths p.client u)
  where
    c : Connection
    c = p.client

    by : (x : machine.Step) → Outcome c u x → is_early (x.0).phase ≡ true → container_kept p.container x.1 ≡ None
    by _ (Greets e) k = f (ap is_early e)
    by _ (Parts e) k = absurd cc
    by _ (LogsIn m r e) k = absurd cc
    by _ (Tunes l e) k = absurd cc
    by _ (Refuses r a f e g) k = absurd cc
    by _ (Declines r d o e g) k = let late = closing_late d.phase in absurd cc
    by _ (Drops r d o e g) k = f (sym (ap is_early (phase_only o)) ∙ k)
    by _ (Parting e) k = absurd cc
    by _ (Closes e) k = absurd cc
    by _ (Answers e) k = absurd cc
    by _ x k = f k

early_opened : (asked : Bool) (p : Phase91) → is_early (opened_phase asked p) ≡ true → is_early p ≡ true
early_opened asked phase.Header e = refl
early_opened asked phase.Start e = refl
early_opened true phase.Open e = absurd cc
early_opened false phase.Open e = absurd cc
early_opened asked x e = absurd cc

early_meaning : (m : Meaning) (x : Peers) → is_early (peers_by m x).client.phase ≡ true → is_early x.client.phase ≡ true
early_meaning ten.Nothing x e = e
early_meaning ten.Init x e = e
early_meaning ten.AmqpHeader x e = e
early_meaning ten.Opened x e = by (is_opening x.client) e
  where
    by : (b : Bool) → is_early (if b then after_opened (channel_max_in x.container) x.client else x.client).phase ≡ true → is_early x.client.phase ≡ true
    by true e = early_opened x.client.asked x.client.phase e
    by false e = e
early_meaning (ten.OfSession g q payload) x e =
    conn_cases (λ (d : Connection). is_early d.phase ≡ true → is_early x.client.phase ≡ true) g q payload x (λ y. y) (λ y. absurd (clash _ y (closing_late x.client.phase)))
    (λ y. sym (ap is_early (phase_only (only_closing g x.client))) ∙ y) e
early_meaning (ten.Closed t) x e = absurd (clash _ e (closing_late x.client.phase))
early_meaning ten.Refused x e = absurd (clash _ e (closing_late x.client.phase))
early_meaning (ten.Violation why) x e = absurd (clash _ e (closing_late x.client.phase))

-- what a unit of the container means leaves the container
pub kept_container : (m : Meaning) (x : Peers) → (peers_by m x).container ≡ x.container
kept_container (ten.OfSession g q payload) x =
    ap (λ (y : Peers). y.container) (only_scoped (scope_in x g q payload) g q payload (record x { carried = carried_on g q x.carried }))
kept_container m x = refl

early_if : (b : Bool) (p q : Peers) → Early p → Early q → Early (if b then p else q)
early_if true p q f g = f
early_if false p q f g = g

early_close : (b : Bool) (c : Connection) → is_early (close_if b c).phase ≡ true → is_early c.phase ≡ true
early_close true c e = absurd (clash _ e (closing_late c.phase))
early_close false c e = e

pub early : (h : List Step) → Early (peers h)
early [] e = refl
early (Began site n ms ∷ h) e = refl
early (Moment ms ∷ h) e = early h (early_close (is_limit_reached (connection h) (accepted_in h) ms) (connection h) e)
early (Fed Client ∷ h) e = early h e
early (Silent Client ∷ h) e = absurd cc
early (Silent Up ∷ h) e = absurd (clash _ e (closing_late (connection h).phase))
early (Came u ∷ h) e = early_if (ran_out_in h) (peers h) (peers_came (peers h) u) (early h) (early_came (peers h) u (early h)) e
early (TakenUp ∷ h) e = early_if (not (ran_out_in h) && leaving_in h) (peers_left (peers h)) (peers h) (λ x. absurd cc) (early h) e
early (Heard u ∷ h) e =
    early_if (ran_out_in h) (peers h) (peers_heard (peers h) u) (early h)
    (λ x. kept_container (meaning_by (container h) u) (record (peers h) { container = container_by (container h) u })
    ∙ ap (λ (o : Option Upstream). container_by o u) (early h (early_meaning (meaning_by (container h) u) (record (peers h) { container = container_by (container h) u }) x))) e
early (Joined link.Failed ∷ h) e = absurd (clash _ e (closing_late (connection h).phase))
early (Lost Up loss.Ended ∷ h) e = absurd (clash _ e (closing_late (connection h).phase))
early (Lost Up loss.Failed ∷ h) e = absurd (clash _ e (closing_late (connection h).phase))
early (Gave (ToClient u) text ∷ h) e = early h (sym (ap is_early (phase_only (only_given u (connection h)))) ∙ e)
early (Gave (ToUp u) text ∷ h) e = ap (container_given u) (early h e)
early (Whole Client ∷ h) e = early h e
early (OutOfMemory ∷ h) e = absurd (clash _ e (closing_late (connection h).phase))
early (s ∷ h) e = early h e

-- ---- what counts of the state

pub record Part : Type 0 where
  pub pending : UpPending
  pub at : Phase10
  pub going : Option UpUnit
  pub sent : UpSent
  pub last_sent_at : ℕ
  pub absent : Bool

abbrev pub part : UpState → Part
part s = record {
  pending = s.pending;
  at = phase_in s.container;
  going = s.in_progress;
  sent = s.sent;
  last_sent_at = s.last_sent_at;
  absent = is_absent s.side;
}

pub record UpSaysIn (s : Part) (went whole : List UpUnit) (at : ℕ) (q : UpPending) : Type 0 where
  pub ups : Ups s.pending q s.at went
  pub going_is : went ≡ whole ++ option_to_list s.going
  pub open_is : s.sent.«open» ≡ list_any is_up_open went
  pub close_is : s.sent.close ≡ list_any is_up_close went
  pub whole_is : s.sent.whole_close ≡ list_any is_up_close whole
  pub at_is : s.last_sent_at ≡ at
  pub fresh : s.absent ≡ true → went ≡ []

abbrev pub UpSays : List Step → Type 0
UpSays h = UpSaysIn (part (before h).up) (sent_up h) (sent_up_whole h) (sent_up_at h) (called h)

-- ---- steps that change none of that, or little

kept_phase : (rs : List Route) (ps : List (Option PathState)) (c : Connection) (u : Unit91) (o : Option Upstream) → (is_early c.phase ≡ true → o ≡ None)
    → phase_in (container_kept o (client_step rs ps c u).1) ≡ phase_in o
kept_phase rs ps c u o f = by (client_step rs ps c u) (outcome rs ps c u)
  where
    by : (x : machine.Step) → Outcome c u x → phase_in (container_kept o x.1) ≡ phase_in o
    by _ (LogsIn m r e) = sym (ap phase_in (f (ap is_early e)))
    by _ x = refl

part_closing : (b : Bool) (why : Option Condition) (s : UpState) → part (closing_with b why s) ≡ part s
part_closing true why s = refl
part_closing false why s = refl

part_queued : (w : State) (u : Unit91) → part (if w.out_of_memory then w else record w { queue = w.queue ++ u ∷ [] }).up ≡ part w.up
part_queued w u = by w.out_of_memory
  where
    by : (b : Bool) → part (if b then w else record w { queue = w.queue ++ u ∷ [] }).up ≡ part w.up
    by true = refl
    by false = refl

part_came : (w : State) (u : Unit91) → (is_early w.conn.phase ≡ true → w.up.container ≡ None) → part (if w.out_of_memory then w else came (dequeued w) u).up ≡ part w.up
part_came w u f = by w.out_of_memory
  where
    by : (b : Bool) → part (if b then w else came (dequeued w) u).up ≡ part w.up
    by true = refl
    by false =
        part_closing (is_closing w.conn) _ _ ∙ ap part (keep_is (client_step w.routes w.paths w.conn u).1 w.up)
        ∙ ap (λ (x : Phase10). record (part w.up) { at = x }) (kept_phase w.routes w.paths w.conn u w.up.container f)

part_taken : (w : State) (b : Bool) → part (if b then left w else w).up ≡ part w.up
part_taken w true = part_closing (is_closing w.conn) None w.up
part_taken w false = refl

part_fail : (code : ℕ) (why : Option Condition) (w : State) → part (fail code why w).up ≡ part w.up
part_fail code why w = by (is_closing w.conn)
  where
    by : (b : Bool) → part (if b then sessions_lost w else failed code why w).up ≡ part w.up
    by true = refl
    by false = refl

abbrev with_called : Meaning → Part → Part
with_called m s = record s { pending = called_by m s.pending }

part_meaning : (m : Meaning) (w : State) → part (with_meaning m w).up ≡ with_called m (part w.up)
part_meaning ten.Nothing w = refl
part_meaning ten.Init w = refl
part_meaning ten.AmqpHeader w = refl
part_meaning ten.Opened w = by (is_opening w.conn)
  where
    by : (b : Bool) → part (if b then runs w else w).up ≡ part w.up
    by true = refl
    by false = refl
part_meaning (ten.OfSession g p payload) w = session_cases (λ (v : State). part v.up ≡ part w.up) g p payload w (record {
  begins = refl;
  stays = refl;
  ends = λ code why. refl;
  parts = refl;
  drops = λ code why. refl;
  fails = λ why. part_fail _ why (windowed g p w);
})
part_meaning (ten.Closed x) w = part_fail _ None w
part_meaning ten.Refused w = part_fail _ None w
part_meaning (ten.Violation why) w = part_fail _ (Some why) w

-- a unit of the container
up_heard : (w : State) (u : Unit10) (b : Bool) (o : Option Upstream) (went whole : List UpUnit) (at : ℕ) (q : UpPending)
    → w.out_of_memory ≡ b → w.up.container ≡ o → UpSaysIn (part w.up) went whole at q
    → UpSaysIn (part (if w.out_of_memory then w else heard w u).up) went whole at (if b then q else called_from o u q)
up_heard w u b o went whole at q m e s =
    subst (λ (x : Bool). UpSaysIn (part (if x then w else heard w u).up) went whole at (if b then q else called_from o u q)) (sym m)
    (subst (λ (x : Option Upstream). UpSaysIn (part (if b then w else heard w u).up) went whole at (if b then q else called_from x u q)) e (by b))
  where
    by : (b : Bool) → UpSaysIn (part (if b then w else heard w u).up) went whole at (if b then q else called_from w.up.container u q)
    by true = s
    by false =
        subst (λ (x : Part). UpSaysIn x went whole at (called_from w.up.container u q))
        (sym (part_meaning (meaning_by w.up.container u) (record w { up = heard_up u w.up })))
        (record {
          ups = ups_heard w.up.container u w.up.pending q went s.ups;
          going_is = s.going_is;
          open_is = s.open_is;
          close_is = s.close_is;
          whole_is = s.whole_is;
          at_is = s.at_is;
          fresh = s.fresh;
        })

-- the end is there no more
up_gone : (s : Part) (went whole : List UpUnit) (at : ℕ) (q : UpPending) → UpSaysIn s went whole at q → UpSaysIn (record s { absent = false }) went whole at q
up_gone s went whole at q k = record {
  ups = k.ups;
  going_is = k.going_is;
  open_is = k.open_is;
  close_is = k.close_is;
  whole_is = k.whole_is;
  at_is = k.at_is;
  fresh = λ e. absurd (clash false e refl);
}

ups_ended : (o : Option Upstream) (p q : UpPending) (went : List UpUnit) → Ups p q (phase_in o) went → Ups p q (phase_in (ended_in o)) went
ups_ended None p q went s = s
ups_ended (Some c) p q went s = record { same = s.same; mine = up_to_closed p; theirs = up_to_closed q }

up_lost : (x : Side) (w : State) (code : ℕ) (went whole : List UpUnit) (at : ℕ) (q : UpPending) → is_absent x ≡ false → UpSaysIn (part w.up) went whole at q
    → UpSaysIn (part (fail code None (record w { up = record w.up { side = x; container = ended_in w.up.container } })).up) went whole at q
up_lost x w code went whole at q e k =
    subst (λ (y : Part). UpSaysIn y went whole at q) (sym (part_fail code None _))
    (record {
      ups = ups_ended w.up.container w.up.pending q went k.ups;
      going_is = k.going_is;
      open_is = k.open_is;
      close_is = k.close_is;
      whole_is = k.whole_is;
      at_is = k.at_is;
      fresh = λ f. absurd (clash _ f e);
    })

-- ---- the unit that goes

-- a unit of a session's links, on one that is carried
pub record IsLinked (w : State) (u : UpUnit) : Type 0 where
  pub number : ℕ
  pub unit : SessionUnit
  pub is : u ≡ up.OnSession number unit
  pub carried : is_carried (session_in w.up.container number) ≡ true

pub data Picked (closing : Bool) (w : State) (u : UpUnit) : Type 0 where
  Closing : closing ≡ true → none_left w ≡ true → w.up.sent.«open» ≡ true → u ≡ up.Close w.up.condition → Picked closing w u
  Opening : closing ≡ false → first (opening_rows w.up.pending) ≡ Some u → Picked closing w u
  Begins : closing ≡ false → first (begins w) ≡ Some u → Picked closing w u
  Flows : first (session_flows w) ≡ Some u → Picked closing w u
  Linked : IsLinked w u → Picked closing w u
  Ends : first (ends closing w) ≡ Some u → Picked closing w u
  Telling : may_idle w ≡ true → u ≡ up.Empty → Picked closing w u

pub record GoesUp (closing : Bool) (w : State) (u : UpUnit) : Type 0 where
  pub readable : is_readable w.up.side ≡ true
  pub unclosed : w.up.sent.close ≡ false
  pub why : Picked closing w u

-- of two lists the first that has one
either : (xs ys : List UpUnit) (u : UpUnit) → first (xs ++ ys) ≡ Some u → (first xs ≡ Some u) ⊎ ((xs ≡ []) × (first ys ≡ Some u))
either [] ys u e = inr (refl, e)
either (x ∷ xs) ys u e = inl e

row_is : {A : Type 0} (w : State) (n : ℕ) (o : Option A) (f : A → SessionUnit) (v : UpUnit) → first (row_on w.up.container n o f) ≡ Some v → IsLinked w v
row_is w n None f v e = absurd cc
row_is w n (Some x) f v e = by (is_carried (session_in w.up.container n)) refl e
  where
    by : (b : Bool) → is_carried (session_in w.up.container n) ≡ b → first (when_up b (up.OnSession n (f x))) ≡ Some v → IsLinked w v
    by true c e = let here : up.OnSession n (f x) ≡ v = cc in record { number = n; unit = f x; is = sym here; carried = c }
    by false c e = absurd cc

attach_is : (w : State) (u : UpUnit) → first (attaches w) ≡ Some u → IsLinked w u
attach_is w u e = first_each (IsLinked w) _ 0 w.lives u (λ k l v f. row_is w k _ _ v f) e

link_flow_is : (w : State) (u : UpUnit) → first (link_flows w) ≡ Some u → IsLinked w u
link_flow_is w u e = first_each (IsLinked w) _ 0 w.lives u (λ k l v f. row_is w k _ _ v f) e

transfer_is : (w : State) (u : UpUnit) → first (transfers w) ≡ Some u → IsLinked w u
transfer_is w u e = first_each (IsLinked w) _ 0 w.lives u (λ k l v f. row_is w k _ _ v f) e

disposal_is : (w : State) (u : UpUnit) → first (disposals w) ≡ Some u → IsLinked w u
disposal_is w u e = first_each (IsLinked w) _ 0 w.lives u (λ k l v f. row_is w k _ _ v f) e

settling_is : (w : State) (u : UpUnit) → first (settlings w) ≡ Some u → IsLinked w u
settling_is w u e = first_each (IsLinked w) _ 0 w.lives u (λ k l v f. row_is w k _ _ v f) e

detach_is : (w : State) (u : UpUnit) → first (detaches w) ≡ Some u → IsLinked w u
detach_is w u e = first_each (IsLinked w) _ 0 w.lives u (λ k l v f. row_is w k _ _ v f) e

abbrev Found : List UpUnit → List UpUnit → UpUnit → Type 0
Found xs ys u = (first xs ≡ Some u) ⊎ ((xs ≡ []) × (first ys ≡ Some u))

carried_picked : (closing : Bool) (w : State) (u : UpUnit) → first (carried_rows w) ≡ Some u → Picked closing w u
carried_picked closing w u e = first_row (either (attaches w) _ u e)
  where
    third_row : Found (session_flows w) (transfers w) u → Picked closing w u
    third_row (inl f) = Flows f
    third_row (inr f) = Linked (transfer_is w u f.1)

    second_row : Found (link_flows w) (session_flows w ++ transfers w) u → Picked closing w u
    second_row (inl f) = Linked (link_flow_is w u f)
    second_row (inr f) = third_row (either (session_flows w) (transfers w) u f.1)

    first_row : Found (attaches w) (link_flows w ++ (session_flows w ++ transfers w)) u → Picked closing w u
    first_row (inl f) = Linked (attach_is w u f)
    first_row (inr f) = second_row (either (link_flows w) _ u f.1)

-- what goes still after the pair ran out of memory
abbrev last_rows : State → List UpUnit
last_rows w = disposals w ++ (settlings w ++ detaches w)

settled_picked : (closing : Bool) (w : State) (u : UpUnit) → first (last_rows w) ≡ Some u → Picked closing w u
settled_picked closing w u e = first_row (either (disposals w) (settlings w ++ detaches w) u e)
  where
    second_row : Found (settlings w) (detaches w) u → Picked closing w u
    second_row (inl f) = Linked (settling_is w u f)
    second_row (inr f) = Linked (detach_is w u f.1)

    first_row : Found (disposals w) (settlings w ++ detaches w) u → Picked closing w u
    first_row (inl f) = Linked (disposal_is w u f)
    first_row (inr f) = second_row (either (settlings w) (detaches w) u f.1)

on_session : (closing : Bool) (w : State) (u : UpUnit) → first (session_rows w) ≡ Some u → Picked closing w u
on_session closing w u e = by w.out_of_memory e
  where
    some : Found (carried_rows w) (last_rows w) u → Picked closing w u
    some (inl f) = carried_picked closing w u f
    some (inr f) = settled_picked closing w u f.1

    by : (b : Bool) → first (unless_out b (carried_rows w) ++ last_rows w) ≡ Some u → Picked closing w u
    by true f = settled_picked closing w u f
    by false f = some (either (carried_rows w) (last_rows w) u f)

last_is : (b : Bool) (x u : UpUnit) → first (when_up b x) ≡ Some u → (b ≡ true) × (u ≡ x)
last_is true x u e = (refl, (let here : x ≡ u = cc in sym here))
last_is false x u e = absurd cc

picked_other : (closing : Bool) (w : State) (u : UpUnit) → first (other_rows closing w) ≡ Some u → Picked closing w u
picked_other true w u e = by (either (session_rows w) (ends true w ++ close_behind w) u e)
  where
    parting : (first (ends true w) ≡ Some u) ⊎ ((ends true w ≡ []) × (first (close_behind w) ≡ Some u)) → Picked true w u
    parting (inl f) = Ends f
    parting (inr f) =
        let l = last_is (none_left w && w.up.sent.«open») (up.Close w.up.condition) u f.1 in
        let b = both_true (none_left w) w.up.sent.«open» l.0 in
        Closing refl b.0 b.1 l.1

    by : (first (session_rows w) ≡ Some u) ⊎ ((session_rows w ≡ []) × (first (ends true w ++ close_behind w) ≡ Some u)) → Picked true w u
    by (inl f) = on_session true w u f
    by (inr f) = parting (either (ends true w) (close_behind w) u f.1)
picked_other false w u e = opening (either (opening_rows w.up.pending) (begins w ++ rest) u e)
  where
    rest : List UpUnit
    rest = session_rows w ++ ends false w

    session : (first (session_rows w) ≡ Some u) ⊎ ((session_rows w ≡ []) × (first (ends false w) ≡ Some u)) → Picked false w u
    session (inl f) = on_session false w u f
    session (inr f) = Ends f.1

    beginning : (first (begins w) ≡ Some u) ⊎ ((begins w ≡ []) × (first rest ≡ Some u)) → Picked false w u
    beginning (inl f) = Begins refl f
    beginning (inr f) = session (either (session_rows w) (ends false w) u f.1)

    opening : (first (opening_rows w.up.pending) ≡ Some u) ⊎ ((opening_rows w.up.pending ≡ []) × (first (begins w ++ rest) ≡ Some u)) → Picked false w u
    opening (inl f) = Opening refl f
    opening (inr f) = beginning (either (begins w) rest u f.1)

picked_in : (closing : Bool) (w : State) (u : UpUnit) → first (rows_in closing w) ≡ Some u → Picked closing w u
picked_in closing w u e = by (either (other_rows closing w) (when_up (may_idle w) up.Empty) u e)
  where
    by : Found (other_rows closing w) (when_up (may_idle w) up.Empty) u → Picked closing w u
    by (inl f) = picked_other closing w u f
    by (inr f) = let l = last_is (may_idle w) up.Empty u f.1 in Telling l.0 l.1

goes_by : (w : State) (u : UpUnit) → first (up_rows w) ≡ Some u → GoesUp (w.out_of_memory || is_closing w.conn) w u
goes_by w u e = by (is_readable w.up.side) w.up.sent.close refl refl e
  where
    by : (r c : Bool) → is_readable w.up.side ≡ r → w.up.sent.close ≡ c
        → first (if r && not c then rows_in (w.out_of_memory || is_closing w.conn) w else []) ≡ Some u → GoesUp (w.out_of_memory || is_closing w.conn) w u
    by true false f g e = record { readable = f; unclosed = g; why = picked_in (w.out_of_memory || is_closing w.conn) w u e }
    by true true f g e = absurd cc
    by false c f g e = absurd cc

unmap : (us : List UpUnit) (u : UpUnit) → first (map ToUp us) ≡ Some (ToUp u) → first us ≡ Some u
unmap [] u e = absurd cc
unmap (x ∷ us) u e = let here : x ≡ u = cc in ap Some here

pub goes_up : (w : State) (u : UpUnit) → pick w Up ≡ Some (ToUp u) → GoesUp (w.out_of_memory || is_closing w.conn) w u
goes_up w u e = goes_by w u (unmap (up_rows w) u e)

-- the begins and the ends are what they are called
record IsBegin (w : State) (u : UpUnit) : Type 0 where
  number : ℕ
  is : u ≡ up.Begin number

begin_is : (w : State) (u : UpUnit) → first (begins w) ≡ Some u → IsBegin w u
begin_is w u e = first_each (IsBegin w) _ 0 w.lives u one e
  where
    one : (k : ℕ) (l : Life) (v : UpUnit) → first (when_up (l.begin && is_free (session_in w.up.container k)) (up.Begin k)) ≡ Some v → IsBegin w v
    one k l v e = by (l.begin && is_free (session_in w.up.container k)) e
      where
        by : (b : Bool) → first (when_up b (up.Begin k)) ≡ Some v → IsBegin w v
        by true e = let here : up.Begin k ≡ v = cc in record { number = k; is = sym here }
        by false e = absurd cc

record IsFlow (w : State) (u : UpUnit) : Type 0 where
  number : ℕ
  incoming : ℕ
  outgoing : ℕ
  is : u ≡ up.Flow number incoming outgoing

flow_is : (w : State) (u : UpUnit) → first (session_flows w) ≡ Some u → IsFlow w u
flow_is w u e = first_each (IsFlow w) _ 0 w.lives u one e
  where
    one : (k : ℕ) (l : Life) (v : UpUnit) → first (flows_on w.up.container k l) ≡ Some v → IsFlow w v
    one k l v e = by (is_carried (session_in w.up.container k) && is_flow_owed l.session) e
      where
        by : (b : Bool) → first (when_up b (up.Flow k l.session.windows.next_incoming l.session.windows.next_outgoing)) ≡ Some v → IsFlow w v
        by true e = let here : up.Flow k l.session.windows.next_incoming l.session.windows.next_outgoing ≡ v = cc in record { number = k; incoming = _; outgoing = _; is = sym here }
        by false e = absurd cc

record IsEnd (w : State) (u : UpUnit) : Type 0 where
  number : ℕ
  why : Option Condition
  is : u ≡ up.End number why

end_is : (closing : Bool) (w : State) (u : UpUnit) → first (ends closing w) ≡ Some u → IsEnd w u
end_is closing w u e = first_each (IsEnd w) _ 0 w.lives u one e
  where
    one : (k : ℕ) (l : Life) (v : UpUnit) → first (when_up (is_end_due closing w k) (up.End k l.why)) ≡ Some v → IsEnd w v
    one k l v e = by (is_end_due closing w k) e
      where
        by : (b : Bool) → first (when_up b (up.End k l.why)) ≡ Some v → IsEnd w v
        by true e = let here : up.End k l.why ≡ v = cc in record { number = k; why = l.why; is = sym here }
        by false e = absurd cc

isnt_opening : (w : State) (closing : Bool) (u : UpUnit) → Picked closing w u → (is_opening_unit u ≡ false) ⊎ (first (opening_rows w.up.pending) ≡ Some u)
isnt_opening w closing u (Closing k n o e) = inl (ap is_opening_unit e)
isnt_opening w closing u (Opening k e) = inr e
isnt_opening w closing u (Begins k e) = inl (ap is_opening_unit (begin_is w u e).is)
isnt_opening w closing u (Flows e) = inl (ap is_opening_unit (flow_is w u e).is)
isnt_opening w closing u (Linked l) = inl (ap is_opening_unit l.is)
isnt_opening w closing u (Ends e) = inl (ap is_opening_unit (end_is closing w u e).is)
isnt_opening w closing u (Telling i e) = inl (ap is_opening_unit e)

opening_closes : (u : UpUnit) → is_opening_unit u ≡ true → is_up_close u ≡ false
opening_closes up.SaslHeader e = refl
opening_closes up.SaslInit e = refl
opening_closes up.AmqpHeader e = refl
opening_closes up.Open e = refl
opening_closes x e = absurd cc

-- a close goes to a connection that closes
pub is_a_close : {closing : Bool} {w : State} {u : UpUnit} → Picked closing w u → (is_up_close u ≡ false) ⊎ (closing ≡ true)
is_a_close (Closing k n o e) = inr k
is_a_close {closing} {w} {u} (Opening k e) = inl (opening_closes u (is_opening_first w.up.pending u e))
is_a_close {closing} {w} {u} (Begins k e) = inl (ap is_up_close (begin_is w u e).is)
is_a_close {closing} {w} {u} (Flows e) = inl (ap is_up_close (flow_is w u e).is)
is_a_close {closing} {w} {u} (Linked l) = inl (ap is_up_close l.is)
is_a_close {closing} {w} {u} (Ends e) = inl (ap is_up_close (end_is closing w u e).is)
is_a_close (Telling i e) = inl (ap is_up_close e)

ups_begun : (w : State) (closing : Bool) (u : UpUnit) (q : UpPending) (at : Phase10) (went : List UpUnit) → Picked closing w u → Ups w.up.pending q at went
    → Ups (without_up u w.up.pending) q at (went ++ u ∷ [])
ups_begun w closing u q at went p x = by (isnt_opening w closing u p)
  where
    by : (is_opening_unit u ≡ false) ⊎ (first (opening_rows w.up.pending) ≡ Some u) → Ups (without_up u w.up.pending) q at (went ++ u ∷ [])
    by (inl e) = ups_other w.up.pending q at went u e x
    by (inr e) = ups_gone w.up.pending q at went u e x

-- ---- what was sent

open_after : (u : UpUnit) (s : UpSent) → (with_begun u s).«open» ≡ (s.«open» || is_up_open u)
open_after up.Open s = or_true s.«open»
open_after x s = or_false s.«open»

close_after : (u : UpUnit) (s : UpSent) → (with_begun u s).close ≡ (s.close || is_up_close u)
close_after (up.Close c) s = or_true s.close
close_after x s = or_false s.close

whole_begun : (u : UpUnit) (s : UpSent) → (with_begun u s).whole_close ≡ s.whole_close
whole_begun up.SaslHeader s = refl
whole_begun x s = refl

whole_after : (u : UpUnit) (s : UpSent) → (with_whole (Some u) s).whole_close ≡ (s.whole_close || is_up_close u)
whole_after (up.Close c) s = or_true s.whole_close
whole_after x s = or_false s.whole_close

open_whole : (u : UpUnit) (s : UpSent) → (with_whole (Some u) s).«open» ≡ s.«open»
open_whole up.SaslHeader s = refl
open_whole x s = refl

close_whole : (u : UpUnit) (s : UpSent) → (with_whole (Some u) s).close ≡ s.close
close_whole up.SaslHeader s = refl
close_whole x s = refl

any_more : (test : UpUnit → Bool) (went : List UpUnit) (u : UpUnit) (old new : Bool) → old ≡ list_any test went → new ≡ (old || test u)
    → new ≡ list_any test (went ++ u ∷ [])
any_more test went u old new e f =
    f ∙ ap (λ x. x || test u) e ∙ sym (list_any-append test went (u ∷ []) ∙ ap (λ x. list_any test went || x) (or_one (test u)))

free : (o : Option UpUnit) → is_some (option_map ToUp o) ≡ false → o ≡ None
free None e = refl
free (Some u) e = absurd cc

-- the first byte of a unit
-- sessions don't change how far the container's connection is
phase_given : (u : UpUnit) (o : Option Upstream) → phase_in (container_given u o) ≡ phase_in o
phase_given u None = refl
phase_given up.SaslHeader (Some c) = refl
phase_given up.SaslInit (Some c) = refl
phase_given up.AmqpHeader (Some c) = refl
phase_given up.Open (Some c) = refl
phase_given (up.Close why) (Some c) = refl
phase_given up.Empty (Some c) = refl
phase_given (up.OnSession n u) (Some c) = refl
phase_given (up.Flow n i o) (Some c) = refl
phase_given (up.Begin n) (Some c) = by (may_begin c n) (session_at c n)
  where
    by : (b : Bool) (x : Session) → (if b then asked x n c else c).phase ≡ c.phase
    by true session.Free = refl
    by true session.Asked = refl
    by true session.Left = refl
    by true (session.Open m) = refl
    by true (session.Leaving m) = refl
    by true (session.Ended m) = refl
    by false x = refl
phase_given (up.End n why) (Some c) = by (session_at c n)
  where
    by : (x : Session) → (left_session x n c).phase ≡ c.phase
    by session.Free = refl
    by x = refl

up_begun : (w : State) (closing : Bool) (u : UpUnit) (went whole : List UpUnit) (at : ℕ) (q : UpPending)
    → is_some (option_map ToUp w.up.in_progress) ≡ false → GoesUp closing w u → UpSaysIn (part w.up) went whole at q
    → UpSaysIn (part (begun u w.up)) (went ++ u ∷ []) whole at q
up_begun w closing u went whole at q e g k = let s : UpState = w.up in record {
  ups = subst (λ (x : Phase10). Ups (without_up u s.pending) q x (went ++ u ∷ [])) (sym (phase_given u s.container))
      (ups_begun w closing u q (phase_in s.container) went g.why k.ups);
  going_is = ap (λ (x : List UpUnit). x ++ u ∷ []) (k.going_is ∙ ap (λ (o : Option UpUnit). whole ++ option_to_list o) (free s.in_progress e) ∙ append-nil whole);
  open_is = any_more is_up_open went u s.sent.«open» _ k.open_is (open_after u s.sent);
  close_is = any_more is_up_close went u s.sent.close _ k.close_is (close_after u s.sent);
  whole_is = whole_begun u s.sent ∙ k.whole_is;
  at_is = k.at_is;
  fresh = λ x. absurd (clash _ x (absent_not s.side g.readable));
}
  where
    absent_not : (x : Side) → is_readable x ≡ true → is_absent x ≡ false
    absent_not side.Open f = refl
    absent_not x f = absurd cc

-- and its last
up_whole : (s : Part) (o : Option UpUnit) (went whole : List UpUnit) (at ms ms' : ℕ) (q : UpPending) → s.going ≡ o → is_some (option_map ToUp o) ≡ true → ms ≡ ms'
    → UpSaysIn s went whole at q → UpSaysIn (record s { going = None; sent = with_whole o s.sent; last_sent_at = ms }) went went ms' q
up_whole s None went whole at ms ms' q g e m k = absurd cc
up_whole s (Some u) went whole at ms ms' q g e m k =
    let all : whole ++ u ∷ [] ≡ went = sym (k.going_is ∙ ap (λ (o : Option UpUnit). whole ++ option_to_list o) g) in
    record {
      ups = k.ups;
      going_is = sym (append-nil went);
      open_is = open_whole u s.sent ∙ k.open_is;
      close_is = close_whole u s.sent ∙ k.close_is;
      whole_is = any_more is_up_close whole u s.sent.whole_close _ k.whole_is (whole_after u s.sent) ∙ ap (list_any is_up_close) all;
      at_is = m;
      fresh = k.fresh;
    }

-- the connection upstream is there
up_linked : (s : UpState) (went whole : List UpUnit) (at ms ms' : ℕ) (q : UpPending) → is_absent s.side ≡ true → ms ≡ ms' → UpSaysIn (part s) went whole at q
    → UpSaysIn (part (record s { side = side.Open; pending = record nothing_due { sasl_header = true }; last_sent_at = ms })) went whole ms'
    (record nothing_due { sasl_header = true })
up_linked s went whole at ms ms' q e m k = record {
  ups = subst (λ (x : List UpUnit). Ups (record nothing_due { sasl_header = true }) (record nothing_due { sasl_header = true }) (phase_in s.container) x) (sym (k.fresh e))
      (record { same = refl; mine = none; theirs = none });
  going_is = k.going_is;
  open_is = k.open_is;
  close_is = k.close_is;
  whole_is = k.whole_is;
  at_is = m;
  fresh = λ f. absurd (clash false f refl);
}
  where
    none : UpTo (phase_in s.container) (record nothing_due { sasl_header = true })
    none = record { init = λ x. refl; amqp = λ x. refl; own = λ x. refl }

-- ---- all steps

up_none : UpSaysIn (part no_end) [] [] 0 nothing_due
up_none = record {
  ups = record { same = refl; mine = record { init = λ x. refl; amqp = λ x. refl; own = λ x. refl }; theirs = record { init = λ x. refl; amqp = λ x. refl; own = λ x. refl } };
  going_is = refl;
  open_is = refl;
  close_is = refl;
  whole_is = refl;
  at_is = refl;
  fresh = λ x. refl;
}

early_now : {h : List Step} → Known h → is_early (before h).conn.phase ≡ true → (before h).up.container ≡ None
early_now {h} k e = container_is k ∙ early h (ap (λ (c : Connection). is_early c.phase) (sym (conn_is k)) ∙ e)

pub up_says : (h : List Step) → ArePicks h → UpSays h
up_says [] p = up_none
up_says (Began site n ms ∷ h) p = subst (λ (x : List Step). UpSays (Began site n ms ∷ x)) (sym p.0) up_none
up_says (Fed Client ∷ h) p = up_says h p.1
up_says (Silent Client ∷ h) p =
    subst (λ (x : Part). UpSaysIn x (sent_up h) (sent_up_whole h) (sent_up_at h) (called h)) (sym (part_closing (is_closing (before h).conn) None (before h).up)) (up_says h p.1)
up_says (Silent Up ∷ h) p =
    subst (λ (x : Part). UpSaysIn x (sent_up h) (sent_up_whole h) (sent_up_at h) (called h)) (sym (part_fail _ _ _)) (up_says h p.1)
up_says (Queued u ∷ h) p =
    subst (λ (x : Part). UpSaysIn x (sent_up h) (sent_up_whole h) (sent_up_at h) (called h)) (sym (part_queued (before h) u)) (up_says h p.1)
up_says (Came u ∷ h) p =
    subst (λ (x : Part). UpSaysIn x (sent_up h) (sent_up_whole h) (sent_up_at h) (called h)) (sym (part_came (before h) u (early_now (known h p.1)))) (up_says h p.1)
up_says (TakenUp ∷ h) p =
    subst (λ (x : Part). UpSaysIn x (sent_up h) (sent_up_whole h) (sent_up_at h) (called h)) (sym (part_taken (before h) _)) (up_says h p.1)
up_says (Heard u ∷ h) p =
    let k : Known h = known h p.1 in
    up_heard (before h) u (ran_out_in h) (container h) (sent_up h) (sent_up_whole h) (sent_up_at h) (called h) (memory_is k) (container_is k) (up_says h p.1)
up_says (Joined link.Ok ∷ h) p =
    up_linked (before h).up (sent_up h) (sent_up_whole h) (sent_up_at h) (before h).moment _ (called h) (and_right (is_opening (before h).conn) _ p.0)
    (moment_is (known h p.1)) (up_says h p.1)
up_says (Joined link.Failed ∷ h) p =
    subst (λ (x : Part). UpSaysIn x (sent_up h) (sent_up_whole h) (sent_up_at h) (called h)) (sym (part_fail _ None _))
    (up_gone (part (before h).up) (sent_up h) (sent_up_whole h) (sent_up_at h) (called h) (up_says h p.1))
up_says (Lost Client loss.Ended ∷ h) p = up_says h p.1
up_says (Lost Up loss.Ended ∷ h) p = up_lost side.Ended (record (before h) { paths = paths_lost (before h).paths }) _ (sent_up h) (sent_up_whole h) (sent_up_at h) (called h) refl (up_says h p.1)
up_says (Lost Up loss.Failed ∷ h) p = up_lost side.Failed (record (before h) { paths = paths_lost (before h).paths }) _ (sent_up h) (sent_up_whole h) (sent_up_at h) (called h) refl (up_says h p.1)
up_says (Lost Up loss.Shut ∷ h) p = up_gone (part (before h).up) (sent_up h) (sent_up_whole h) (sent_up_at h) (called h) (up_says h p.1)
up_says (Gave (ToUp u) text ∷ h) p =
    up_begun (before h) _ u (sent_up h) (sent_up_whole h) (sent_up_at h) (called h) p.0.0 (goes_up (before h) u p.0.1) (up_says h p.1)
up_says (Whole Up ∷ h) p =
    up_whole (part (before h).up) (before h).up.in_progress (sent_up h) (sent_up_whole h) (sent_up_at h) (before h).moment (moment_in h) (called h) refl p.0
    (moment_is (known h p.1)) (up_says h p.1)
up_says (OutOfMemory ∷ h) p =
    subst (λ (x : Part). UpSaysIn x (sent_up h) (sent_up_whole h) (sent_up_at h) (called h)) (sym (part_closing (is_closing (before h).conn) _ (before h).up)) (up_says h p.1)
up_says (s ∷ h) p = up_says h p.1
