-- What goes to a container, and when its end is shut, is what the folds say.
use Rattle.std.proofs.Common.{suc, zero, Bool, List, None, Option, Some, [], ap, append_assoc, arith, false}
use Rattle.std.proofs.Common.{if◌then◌else◌, inl, inr, length, nat_le, not, refl, subst, sym}
use Rattle.std.proofs.Common.{true, ℕ, ◌&&◌, ◌++◌, ◌+◌, ◌-◌, ◌/◌, ◌<◌, ◌==◌, ◌||◌, ◌∙◌, ◌∷◌, ◌≡◌, ◌≤◌}
use Rattle.std.specs.List.{list_any}
use Rattle.std.proofs.lemmas.Bool.Decides.{nat_tests}
use Rattle.std.proofs.lemmas.List.Elements.{filter-append}
use Rattle.gate_outside.specs.declared.ports.End.TheVariants.{Up}
use Rattle.gate_relay.specs.Sides.{is_readable}
use Rattle.gate_relay.specs.declared.sides.Side.{Side}
use Rattle.gate_relay.specs.declared.sides.Side.TheVariants as side
use Rattle.machine_091.specs.State.{is_closing, is_open}
use Rattle.machine_10.specs.declared.state.Upstream.{Upstream}
use Rattle.gate_model.specs.declared.channel.SessionUnit.{SessionUnit}
use Rattle.gate_model.specs.declared.life.SessionState.{SessionState}
use Rattle.gate_model.specs.Session.{is_flow_owed}
use Rattle.gate_model.specs.declared.outgoing.Outgoing.TheVariants.{ToUp}
use Rattle.gate_model.specs.declared.outgoing.UpUnit.{UpUnit}
use Rattle.gate_model.specs.declared.outgoing.UpUnit.TheVariants as up
use Rattle.gate_model.specs.declared.timers.TheConstants.{CLOSING_LIMIT}
use Rattle.gate_model.specs.Asked.{Answers, AreCalledFor, Closed, ClosedBad, ClosedLast, Ended}
use Rattle.gate_model.specs.Asked.{Failed, Goes, GoesWhenDue, Leaves, MayEnd, MayFlow, MayGo}
use Rattle.gate_model.specs.Asked.{MayTell, Overdue, ShutUpFor, ShutsUpAtOnce, Unopened, due_up}
use Rattle.gate_model.specs.Asked.{is_opening_unit, is_up_close, openings_of, sent_up_whole}
use Rattle.gate_model.specs.Due.{begins, ends, flows_on, has_ended, has_failed, is_end_due}
use Rattle.gate_model.specs.Due.{is_lingered, is_overdue, is_shut_due, none_left, pick, rows_in}
use Rattle.gate_model.specs.Due.{session_flows, session_rows, carried_rows, row_on, attaches}
use Rattle.gate_model.specs.Due.{disposals, may_idle, unless_out, link_flows, settlings}
use Rattle.gate_model.specs.Lives.{any_life, each, is_begun, is_carried, is_ended, is_free, life_at, session_in}
use Rattle.gate_model.specs.declared.life.Life.{Life}
use Rattle.machine_091.specs.declared.state.Connection.{Connection}
use Rattle.gate_model.specs.Folds.{carrying, closed_in, connection, container, moment_in, sent_up, sent_up_at, side_in}
use Rattle.gate_model.specs.Picks.{ArePicks}
use Rattle.gate_model.specs.State.{Gave, State, Step, before}
use Rattle.gate_model.specs.Upstream.{first, has_closed, has_gone_bad, idle_in, is_bad_stream}
use Rattle.gate_model.specs.Upstream.{is_closed_stream, is_idle_by, is_idle_due, opening_rows, stream_in, when_up}
use Rattle.gate_model.proofs.Basics.{and_both, and_left, and_right, left_false, not_true, or_left, or_right, right_false}
use Rattle.gate_model.proofs.Rows.{first_at, first_each}
use Rattle.gate_model.proofs.Carrying.{carries}
use Rattle.gate_model.proofs.Closings.{closes_sent, closing_now, condition_is}
use Rattle.gate_model.proofs.Connections.{clash}
use Rattle.gate_model.proofs.Known.{Known, closed_is, conn_is, container_is, known, memory_is, moment_is, side_is}
use Rattle.gate_model.proofs.Lives.{lives_all}
use Rattle.gate_model.proofs.Openings.{is_opening_first, no_empty, openings_due}
use Rattle.gate_model.proofs.Times.{Either, OnLeft, OnRight, either, overdue_is}
use Rattle.gate_model.proofs.Ups.{GoesUp, Picked, Begins, Closing, Ends, Flows, Linked, Opening, Telling, UpSays, goes_up, up_says}

-- ---- the opening

-- the connection isn't closing, so neither is it in the state
unclosed_now : (h : List Step) → ArePicks h → is_closing (connection h) ≡ false → ((before h).out_of_memory || is_closing (before h).conn) ≡ false
unclosed_now h p e = by ((before h).out_of_memory || is_closing (before h).conn) refl
  where
    by : (b : Bool) → ((before h).out_of_memory || is_closing (before h).conn) ≡ b → b ≡ false
    by true f = absurd (clash _ (closing_now h true p f) e)
    by false f = refl

no_close_sent : (h : List Step) → ArePicks h → is_closing (connection h) ≡ false → (before h).up.sent.close ≡ false
no_close_sent h p e = by (before h).up.sent.close refl
  where
    by : (b : Bool) → (before h).up.sent.close ≡ b → b ≡ false
    by true f = absurd (clash _ (closes_sent h p (sym (up_says h p).close_is ∙ f)) e)
    by false f = refl

-- what is due but for the opening
abbrev others : State → List UpUnit
others w = (begins w ++ (session_rows w ++ ends false w)) ++ when_up (may_idle w) up.Empty

rows_while : (h : List Step) → ArePicks h → is_closing (connection h) ≡ false → is_readable (side_in h) ≡ true
    → due_up (before h) ≡ opening_rows (before h).up.pending ++ others (before h)
rows_while h p e f =
    by _ _ _ (ap is_readable (side_is (known h p)) ∙ f) (no_close_sent h p e) (unclosed_now h p e)
    ∙ append_assoc (opening_rows (before h).up.pending) (begins (before h) ++ (session_rows (before h) ++ ends false (before h))) (when_up (may_idle (before h)) up.Empty)
  where
    by : (r c k : Bool) → r ≡ true → c ≡ false → k ≡ false → (if r && not c then rows_in k (before h) else []) ≡ rows_in false (before h)
    by true false false a b c = refl
    by true false true a b c = absurd cc
    by true true k a b c = absurd cc
    by false b k a c d = absurd cc

no_opening : (f : ℕ → Life → List UpUnit) (n : ℕ) (ls : List Life) → ((k : ℕ) (l : Life) → openings_of (f k l) ≡ []) → openings_of (each f n ls) ≡ []
no_opening f n [] none = refl
no_opening f n (l ∷ ls) none =
    filter-append is_opening_unit (f n l) (each f (n + 1) ls) ∙ ap (λ (x : List UpUnit). x ++ openings_of (each f (n + 1) ls)) (none n l)
    ∙ no_opening f (n + 1) ls none

when_none : (b : Bool) (u : UpUnit) → is_opening_unit u ≡ false → openings_of (when_up b u) ≡ []
when_none true u e = ap (λ (x : Bool). if x then u ∷ [] else []) e
when_none false u e = refl

row_none : {A : Type 0} (c : Option Upstream) (n : ℕ) (o : Option A) (f : A → SessionUnit) → openings_of (row_on c n o f) ≡ []
row_none c n None f = refl
row_none c n (Some x) f = when_none (is_carried (session_in c n)) (up.OnSession n (f x)) refl

none_more : (us vs : List UpUnit) → openings_of us ≡ [] → openings_of (us ++ vs) ≡ openings_of vs
none_more us vs e = filter-append is_opening_unit us vs ∙ ap (λ (x : List UpUnit). x ++ openings_of vs) e

carried_none : (w : State) → openings_of (carried_rows w) ≡ []
carried_none w =
    none_more (attaches w) _ (no_opening _ 0 w.lives (λ k l. row_none w.up.container k _ _))
    ∙ none_more (link_flows w) _ (no_opening _ 0 w.lives (λ k l. row_none w.up.container k _ _))
    ∙ none_more (session_flows w) _
    (no_opening _ 0 w.lives (λ k l. when_none (is_carried (session_in w.up.container k) && is_flow_owed l.session) (up.Flow k _ _) refl))
    ∙ no_opening _ 0 w.lives (λ k l. row_none w.up.container k _ _)

rows_none : (w : State) → openings_of (session_rows w) ≡ []
rows_none w =
    none_more (unless_out w.out_of_memory (carried_rows w)) _ (by w.out_of_memory)
    ∙ none_more (disposals w) _ (no_opening _ 0 w.lives (λ k l. row_none w.up.container k _ _))
    ∙ none_more (settlings w) _ (no_opening _ 0 w.lives (λ k l. row_none w.up.container k _ _))
    ∙ no_opening _ 0 w.lives (λ k l. row_none w.up.container k _ _)
  where
    by : (b : Bool) → openings_of (unless_out b (carried_rows w)) ≡ []
    by true = refl
    by false = carried_none w

others_none : (w : State) → openings_of (others w) ≡ []
others_none w =
    none_more (begins w ++ (session_rows w ++ ends false w)) _
    (none_more (begins w) _ (no_opening _ 0 w.lives (λ k l. when_none (l.begin && is_free (session_in w.up.container k)) (up.Begin k) refl))
    ∙ none_more (session_rows w) _ (rows_none w)
    ∙ no_opening _ 0 w.lives (λ k l. when_none (is_end_due false w k) (up.End k l.why) refl))
    ∙ no_empty (may_idle w)

pub are_called_for : (h : List Step) → ArePicks h → AreCalledFor h
are_called_for h p =
    let s : UpSays h = up_says h p in
    record {
      all = s.ups.same;
      due = λ e f. ap (λ (x : List UpUnit). openings_of (sent_up h) ++ openings_of x) (rows_while h p e f)
          ∙ ap (λ (x : List UpUnit). openings_of (sent_up h) ++ x) (openings_due (before h).up.pending (others (before h)) (others_none (before h))) ∙ s.ups.same;
    }

-- ---- each unit

some_idle : (n : ℕ) → not (n == 0) ≡ true → 0 < n
some_idle n e = grind (arith, nat_tests)

half_some : (n : ℕ) → 0 < n → 0 < (n + 1) / 2
half_some n e = omega (arith, e)

long_quiet : (n ms last : ℕ) → 0 < n → nat_le n (ms - last) ≡ true → last + n ≤ ms
long_quiet n ms last e f = grind (arith, nat_tests, e)

record Tells (idle ms last : ℕ) : Type 0 where
  stated : 0 < idle
  quiet : last + (idle + 1) / 2 ≤ ms

tells_by : (idle ms last : ℕ) → is_idle_by idle ms last ≡ true → Tells idle ms last
tells_by idle ms last e =
    let some : 0 < idle = some_idle idle (and_left (not (idle == 0)) _ e) in
    record { stated = some; quiet = long_quiet ((idle + 1) / 2) ms last (half_some idle some) (and_right (not (idle == 0)) _ e) }

may_tell : (h : List Step) → ArePicks h → may_idle (before h) ≡ true → MayTell h
may_tell h p m =
    let x : Known h = known h p in
    let s : UpSays h = up_says h p in
    let e : is_idle_due (before h).up (before h).moment ≡ true = and_right (not (before h).out_of_memory) _ m in
    let t : Tells (idle_in (before h).up.container) (before h).moment (before h).up.last_sent_at = tells_by _ _ _ (and_right (before h).up.sent.«open» _ e) in
    record {
      calm = sym (memory_is x) ∙ not_true (before h).out_of_memory (and_left (not (before h).out_of_memory) _ m);
      stated = subst (λ (o : Option Upstream). 0 < idle_in o) (container_is x) t.stated;
      opened = sym s.open_is ∙ and_left (before h).up.sent.«open» _ e;
      quiet = subst (λ (n : ℕ). sent_up_at h + (idle_in (container h) + 1) / 2 ≤ n) (moment_is x)
          (subst (λ (n : ℕ). n + (idle_in (container h) + 1) / 2 ≤ (before h).moment) s.at_is
          (subst (λ (o : Option Upstream). (before h).up.last_sent_at + (idle_in o + 1) / 2 ≤ (before h).moment) (container_is x) t.quiet));
    }

opening_goes : (h : List Step) (u : UpUnit) → is_opening_unit u ≡ true → is_closing (connection h) ≡ false → MayGo h u
opening_goes h up.SaslHeader e k = k
opening_goes h up.SaslInit e k = k
opening_goes h up.AmqpHeader e k = k
opening_goes h up.Open e k = k
opening_goes h x e k = absurd cc

-- ---- sessions

-- a begin goes for a life of which it is due, where no session is
may_begin : (h : List Step) (u : UpUnit) → ArePicks h → is_closing (connection h) ≡ false → first (begins (before h)) ≡ Some u → MayGo h u
may_begin h u p k e = first_each (MayGo h) _ 0 (before h).lives u one e
  where
    one : (n : ℕ) (l : Life) (v : UpUnit) → first (when_up (l.begin && is_free (session_in (before h).up.container n)) (up.Begin n)) ≡ Some v → MayGo h v
    one n l v e = by (l.begin && is_free (session_in (before h).up.container n)) refl e
      where
        by : (b : Bool) → (l.begin && is_free (session_in (before h).up.container n)) ≡ b → first (when_up b (up.Begin n)) ≡ Some v → MayGo h v
        by true f e =
            let here : up.Begin n ≡ v = cc in
            subst (MayGo h) here (record {
              running = k;
              free = ap (λ (o : Option Upstream). is_free (session_in o n)) (sym (container_is (known h p))) ∙ and_right l.begin _ f;
            })
        by false f e = absurd cc

-- a flow goes for a session that is carried, of which one is owed
may_flow : (h : List Step) (u : UpUnit) → ArePicks h → first (session_flows (before h)) ≡ Some u → MayGo h u
may_flow h u p e = first_at (MayGo h) (flows_on (before h).up.container) (before h).lives u one e
  where
    here : (n : ℕ) → (life_at (before h).lives n).session ≡ carrying n h → is_carried (session_in (before h).up.container n) ≡ true
        → is_flow_owed (life_at (before h).lives n).session ≡ true
        → MayFlow h n (life_at (before h).lives n).session.windows.next_incoming (life_at (before h).lives n).session.windows.next_outgoing
    here n s c o = record {
      carried = ap (λ (x : Option Upstream). is_carried (session_in x n)) (sym (container_is (known h p))) ∙ c;
      owed = sym (ap is_flow_owed s) ∙ o;
      incoming = ap (λ (x : SessionState). x.windows.next_incoming) s;
      outgoing = ap (λ (x : SessionState). x.windows.next_outgoing) s;
    }

    one : (n : ℕ) (v : UpUnit) → first (flows_on (before h).up.container n (life_at (before h).lives n)) ≡ Some v → MayGo h v
    one n v e = by (is_carried (session_in (before h).up.container n) && is_flow_owed (life_at (before h).lives n).session) refl e
      where
        by : (b : Bool) → (is_carried (session_in (before h).up.container n) && is_flow_owed (life_at (before h).lives n).session) ≡ b
            → first (when_up b (up.Flow n (life_at (before h).lives n).session.windows.next_incoming (life_at (before h).lives n).session.windows.next_outgoing)) ≡ Some v → MayGo h v
        by true f e =
            let at : up.Flow n _ _ ≡ v = cc in
            let owed : is_flow_owed (life_at (before h).lives n).session ≡ true = and_right (is_carried (session_in (before h).up.container n)) _ f in
            subst (MayGo h) at (here n (carries h p n owed) (and_left _ _ f) owed)
        by false f e = absurd cc

-- what makes an end due, the folds say
may_end : (h : List Step) (n : ℕ) (closing : Bool) → ArePicks h → ((before h).out_of_memory || is_closing (before h).conn) ≡ closing
    → is_end_due closing (before h) n ≡ true → MayEnd h n
may_end h n closing p c e = by (either _ _ e)
  where
    k : Known h
    k = known h p

    session_is : session_in (before h).up.container n ≡ session_in (container h) n
    session_is = ap (λ (o : Option Upstream). session_in o n) (container_is k)

    leaves : is_begun (session_in (before h).up.container n) ≡ true → Either closing (not (is_open (before h).conn n)) → MayEnd h n
    leaves b (OnLeft x) = Leaves (ap is_begun (sym session_is) ∙ b) (inl (closing_now h true p (c ∙ x)))
    leaves b (OnRight x) = Leaves (ap is_begun (sym session_is) ∙ b) (inr (ap (λ (d : Connection). is_open d n) (sym (conn_is k)) ∙ not_true _ x))

    by : Either (is_ended (session_in (before h).up.container n))
        (is_begun (session_in (before h).up.container n) && ((closing || not (is_open (before h).conn n)) && is_lingered (before h) n)) → MayEnd h n
    by (OnLeft x) = Answers (ap is_ended (sym session_is) ∙ x)
    by (OnRight x) = leaves (and_left _ _ x) (either _ _ (and_left _ (is_lingered (before h) n) (and_right (is_begun (session_in (before h).up.container n)) _ x)))

may_ends : (h : List Step) (u : UpUnit) (closing : Bool) → ArePicks h → ((before h).out_of_memory || is_closing (before h).conn) ≡ closing
    → first (ends closing (before h)) ≡ Some u → MayGo h u
may_ends h u closing p c e = first_each (MayGo h) _ 0 (before h).lives u one e
  where
    one : (n : ℕ) (l : Life) (v : UpUnit) → first (when_up (is_end_due closing (before h) n) (up.End n l.why)) ≡ Some v → MayGo h v
    one n l v e = by (is_end_due closing (before h) n) refl e
      where
        by : (b : Bool) → is_end_due closing (before h) n ≡ b → first (when_up b (up.End n l.why)) ≡ Some v → MayGo h v
        by true f e = let here : up.End n l.why ≡ v = cc in subst (MayGo h) here (may_end h n closing p c f)
        by false f e = absurd cc

-- where none is left that began and has no end, no session is
pub none_any : (t : ℕ → Life → Bool) (n : ℕ) (ls : List Life) (k : ℕ) → k < length ls → any_life t n ls ≡ false → t (n + k) (life_at ls k) ≡ false
none_any t n [] k lt e = absurd (none lt)
  where
    none : k < 0 → ⊥
    none x = omega (arith, x)
none_any t n (l ∷ ls) zero lt e = ap (λ (m : ℕ). t m l) (omega arith) ∙ left_false (t n l) (any_life t (n + 1) ls) e
none_any t n (l ∷ ls) (suc k) lt e =
    let rest : t ((n + 1) + k) (life_at ls k) ≡ false = none_any t (n + 1) ls k (omega (arith, lt)) (right_false (t n l) (any_life t (n + 1) ls) e) in
    ap (λ (m : ℕ). t m (life_at ls k)) (omega arith) ∙ rest

no_session_left : (w : State) (n : ℕ) → n < length w.lives → none_left w ≡ true
    → (is_ended (session_in w.up.container n) || is_begun (session_in w.up.container n)) ≡ false
no_session_left w n lt e =
    ap (λ (k : ℕ). is_ended (session_in w.up.container k) || is_begun (session_in w.up.container k)) (omega arith)
    ∙ none_any (λ (k : ℕ) (l : Life). is_ended (session_in w.up.container k) || is_begun (session_in w.up.container k)) 0 w.lives n lt (not_true _ e)

may_go_up : (h : List Step) (u : UpUnit) → ArePicks h → Picked ((before h).out_of_memory || is_closing (before h).conn) (before h) u → MayGo h u
may_go_up h u p (Closing k n o e) =
    subst (λ (x : UpUnit). MayGo h x) (sym e)
    (record {
      opened = sym (up_says h p).open_is ∙ o;
      closing = closing_now h true p k;
      why_is = condition_is h p;
      ended = λ m lt. ap (λ (c : Option Upstream). is_ended (session_in c m) || is_begun (session_in c m)) (sym (container_is (known h p)))
          ∙ no_session_left (before h) m (subst (λ (x : ℕ). m < x) (sym (lives_all h p)) lt) n;
    })
may_go_up h u p (Opening k e) = opening_goes h u (is_opening_first (before h).up.pending u e) (closing_now h false p k)
may_go_up h u p (Begins k e) = may_begin h u p (closing_now h false p k) e
may_go_up h u p (Flows e) = may_flow h u p e
may_go_up h u p (Linked l) = subst (MayGo h) (sym l.is) (ap (λ (c : Option Upstream). is_carried (session_in c l.number)) (sym (container_is (known h p))) ∙ l.carried)
may_go_up h u p (Ends e) = may_ends h u _ p refl e
may_go_up h u p (Telling i e) = subst (λ (x : UpUnit). MayGo h x) (sym e) (may_tell h p i)

goes : (h : List Step) (u : UpUnit) → ArePicks h → pick (before h) Up ≡ Some (ToUp u) → Goes h u
goes h u p e =
    let g : GoesUp ((before h).out_of_memory || is_closing (before h).conn) (before h) u = goes_up (before h) u e in
    record {
      may = may_go_up h u p g.why;
      open_end = ap is_readable (sym (side_is (known h p))) ∙ g.readable;
      unclosed = sym (up_says h p).close_is ∙ g.unclosed;
    }

pub goes_when_due : (h : List Step) → ArePicks h → GoesWhenDue h
goes_when_due [] p = tt
goes_when_due (Gave (ToUp u) text ∷ h) p = (goes h u p.1 p.0.1, goes_when_due h p.1)
goes_when_due (s ∷ h) p = goes_when_due h p.1

-- ---- shutting

failed_by : (s : Side) → has_failed s ≡ true → s ≡ side.Failed
failed_by side.Failed e = refl
failed_by x e = absurd cc

ended_by : (s : Side) → has_ended s ≡ true → s ≡ side.Ended
ended_by side.Ended e = refl
ended_by x e = absurd cc

overdue_by : (h : List Step) (o : Option ℕ) (ms : ℕ) → o ≡ closed_in h → ms ≡ moment_in h → is_overdue o ms ≡ true → ShutUpFor h
overdue_by h None ms e m x = absurd cc
overdue_by h (Some at) ms e m x =
    let long : at + CLOSING_LIMIT ≤ ms = grind (arith, nat_tests) in
    Overdue at (sym e) (subst (λ (n : ℕ). at + CLOSING_LIMIT ≤ n) m long)

shut_up_for : (h : List Step) → ArePicks h → is_shut_due (before h) Up ≡ true → ShutUpFor h
shut_up_for h p e = one (either _ _ e)
  where
    w : State
    w = before h

    k : Known h
    k = known h p

    s : UpSays h
    s = up_says h p

    closed : w.up.sent.whole_close ≡ true → Either (has_closed w.up) (has_gone_bad w.up || w.out_of_memory) → ShutUpFor h
    closed x (OnLeft y) = Closed (sym s.whole_is ∙ x) (ap (λ (o : Option Upstream). is_closed_stream (stream_in o)) (sym (container_is k)) ∙ y)
    closed x (OnRight y) = last (either _ _ y)
      where
        last : Either (has_gone_bad w.up) w.out_of_memory → ShutUpFor h
        last (OnLeft z) = ClosedBad (sym s.whole_is ∙ x) (ap (λ (o : Option Upstream). is_bad_stream (stream_in o)) (sym (container_is k)) ∙ z)
        last (OnRight z) = ClosedLast (sym s.whole_is ∙ x) (sym (memory_is k) ∙ z)

    unopened : (b : Bool) → w.up.sent.«open» ≡ b → not b ≡ true → is_closing w.conn ≡ true → ShutUpFor h
    unopened true f x y = absurd cc
    unopened false f x y = Unopened (sym (ap is_closing (conn_is k)) ∙ y) (sym s.open_is ∙ f)

    four : Either (w.up.sent.whole_close && (has_closed w.up || (has_gone_bad w.up || w.out_of_memory))) (is_closing w.conn && not w.up.sent.«open») → ShutUpFor h
    four (OnLeft x) = closed (and_left w.up.sent.whole_close _ x) (either _ _ (and_right w.up.sent.whole_close _ x))
    four (OnRight x) = unopened w.up.sent.«open» refl (and_right (is_closing w.conn) _ x) (and_left (is_closing w.conn) _ x)

    three : Either (is_overdue w.closed_at w.moment) ((w.up.sent.whole_close && (has_closed w.up || (has_gone_bad w.up || w.out_of_memory))) || (is_closing w.conn && not w.up.sent.«open»)) → ShutUpFor h
    three (OnLeft x) = overdue_by h w.closed_at w.moment (closed_is k) (moment_is k) x
    three (OnRight x) = four (either _ _ x)

    two : Either (has_ended w.up.side) (is_overdue w.closed_at w.moment || ((w.up.sent.whole_close && (has_closed w.up || (has_gone_bad w.up || w.out_of_memory))) || (is_closing w.conn && not w.up.sent.«open»))) → ShutUpFor h
    two (OnLeft x) = Ended (sym (side_is k) ∙ ended_by w.up.side x)
    two (OnRight x) = three (either _ _ x)

    one : Either (has_failed w.up.side) (has_ended w.up.side || (is_overdue w.closed_at w.moment || ((w.up.sent.whole_close && (has_closed w.up || (has_gone_bad w.up || w.out_of_memory))) || (is_closing w.conn && not w.up.sent.«open»)))) → ShutUpFor h
    one (OnLeft x) = Failed (sym (side_is k) ∙ failed_by w.up.side x)
    one (OnRight x) = two (either _ _ x)

shut_up_now : (h : List Step) → ArePicks h → ShutUpFor h → is_shut_due (before h) Up ≡ true
shut_up_now h p f = by f
  where
    w : State
    w = before h

    k : Known h
    k = known h p

    s : UpSays h
    s = up_says h p

    behind : ((w.up.sent.whole_close && (has_closed w.up || (has_gone_bad w.up || w.out_of_memory))) || (is_closing w.conn && not w.up.sent.«open»)) ≡ true → is_shut_due w Up ≡ true
    behind e = or_right (has_failed w.up.side) _ (or_right (has_ended w.up.side) _ (or_right (is_overdue w.closed_at w.moment) _ e))

    closed : list_any is_up_close (sent_up_whole h) ≡ true → (has_closed w.up || (has_gone_bad w.up || w.out_of_memory)) ≡ true → is_shut_due w Up ≡ true
    closed e f = behind (or_left _ _ (and_both w.up.sent.whole_close _ (s.whole_is ∙ e) f))

    by : ShutUpFor h → is_shut_due w Up ≡ true
    by (Failed e) = or_left _ _ (ap has_failed (side_is k ∙ e))
    by (Ended e) = or_right (has_failed w.up.side) _ (or_left _ _ (ap has_ended (side_is k ∙ e)))
    by (Overdue at e le) =
        or_right (has_failed w.up.side) _ (or_right (has_ended w.up.side) _ (or_left _ _ (overdue_is h at w.closed_at w.moment (closed_is k) (moment_is k) e le)))
    by (Closed e f) = closed e (or_left _ _ (ap (λ (o : Option Upstream). is_closed_stream (stream_in o)) (container_is k) ∙ f))
    by (ClosedBad e f) =
        closed e (or_right (has_closed w.up) _ (or_left _ _ (ap (λ (o : Option Upstream). is_bad_stream (stream_in o)) (container_is k) ∙ f)))
    by (ClosedLast e f) = closed e (or_right (has_closed w.up) _ (or_right (has_gone_bad w.up) _ (memory_is k ∙ f)))
    by (Unopened e f) =
        behind (or_right (w.up.sent.whole_close && (has_closed w.up || (has_gone_bad w.up || w.out_of_memory))) _
        (and_both (is_closing w.conn) _ (ap is_closing (conn_is k) ∙ e) (ap not (s.open_is ∙ f))))

pub shuts_up_at_once : (h : List Step) → ArePicks h → ShutsUpAtOnce h
shuts_up_at_once h p = (shut_up_for h p, shut_up_now h p)
