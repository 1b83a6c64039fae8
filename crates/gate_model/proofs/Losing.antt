-- Once the container closed, was lost or failed each publish is over, and none is taken up any more.
use Rattle.std.proofs.Common.{◌≡◌, ◌∙◌, ℕ, ◌+◌, ◌==◌, ◌≤◌, nat_lt, not, ◌&&◌, ◌||◌, Bool, true, false, if◌then◌else◌, List, [], ◌∷◌, ◌++◌}
use Rattle.std.proofs.Common.{Option, None, Some, length, refl, sym, ap, subst, arith}
use Rattle.std.proofs.lemmas.Bool.Decides.{nat_tests}
use Rattle.std.proofs.lemmas.List.{length-append}
use Rattle.std.specs.Option.{option_or}
use Rattle.std.specs.Prelude.{is_some}
use Rattle.close_translate.specs.declared.conditions.Scope.{Scope}
use Rattle.close_translate.specs.declared.conditions.Scope.TheVariants as scope
use Rattle.gate_outside.specs.declared.ports.End.TheVariants.{Up}
use Rattle.gate_outside.specs.declared.ports.Linked.TheVariants as link
use Rattle.gate_relay.specs.declared.loss.Loss.TheVariants as loss
use Rattle.machine_091.specs.State.{is_closing, is_running}
use Rattle.machine_091.specs.Transitions as machine
use Rattle.machine_091.specs.declared.state.Connection.{Connection}
use Rattle.machine_091.specs.declared.state.Phase91.{Phase91}
use Rattle.machine_091.specs.declared.state.Phase91.TheVariants as phase
use Rattle.machine_091.specs.declared.unit.Unit91.{Unit91}
use Rattle.machine_10.specs.Transitions as ten
use Rattle.machine_10.specs.Transitions.{Meaning}
use Rattle.machine_10.specs.declared.state.Upstream.{Upstream}
use Rattle.machine_10.specs.declared.unit.Unit10.{Unit10}
use Rattle.publish_path.specs.Journal.{Fate, IsTaken, decided, fate_of, has_rest, is_to_go, numbers_of, takes_up}
use Rattle.publish_path.specs.Publishes.{ConfirmSent, FrameSent, LinesTold, LinkGone, OutcomeCame, PublishEvent, ReturnSent, TakenUp}
use Rattle.session_path.specs.Events as event
use Rattle.session_path.specs.Events.{PathEvent, after_events, publish_events, publishes_of}
use Rattle.gate_model.specs.Folds.{Peers, closes_connection, connection, container, paths_in, peers, carried_on, peers_by, peers_heard, peers_scoped, ran_out_in, routes_in, scope_in}
use Rattle.gate_model.specs.Linger.{AreOver, IsOver}
use Rattle.gate_model.specs.Losses.{LosesPublishes, ends_by, is_lost_up}
use Rattle.gate_model.specs.Paths.{path_at}
use Rattle.gate_model.specs.Picks.{ArePicks}
use Rattle.gate_model.specs.Publishing.{failing, meaning_events, opens_channel, path_events, path_life, session_events, step_events, want_events}
use Rattle.gate_model.specs.Requests.{client_step}
use Rattle.gate_model.specs.State.{Came, Heard, Joined, Lost, Silent, Step, conn_step, want_in}
use Rattle.gate_model.specs.Upstream.{container_by, meaning_by}
use Rattle.gate_model.proofs.Basics.{and_left, and_right, not_true}
use Rattle.gate_model.proofs.Closings.{closes_on}
use Rattle.gate_model.proofs.Connections.{close_closes}
use Rattle.gate_model.proofs.Held.{NoneTaken}
use Rattle.gate_model.proofs.Holding.{AreOther, is_publish_want, none_up, step_other, want_other}
use Rattle.gate_model.proofs.Outcomes.{Outcome, Publishes, outcome}

-- ---- one publish

-- all links are lost
cut_is : (c : Bool) (f : Fate) → is_to_go (record f { cut = c || true }) ≡ false
cut_is true f = refl
cut_is false f = refl

gone_over : (ds : List PublishEvent) (not_found : Bool) (k : ℕ) → IsOver (LinkGone None not_found ∷ ds) k
gone_over ds not_found k = record { sent = cut_is (fate_of k ds).cut (fate_of k ds); decided = by (fate_of k ds).outcome }
  where
    by : (o : Option Bool) → (not (is_some (option_or o (Some false))) && not (fate_of k ds).answered) ≡ false
    by None = refl
    by (Some x) = refl

-- one that is over stays so
no_more : (cut begun more : Bool) (here : Bool) (more' : Bool) → (more ≡ false → more' ≡ false) → ((not cut && not begun) || (not cut && begun && more)) ≡ false
    → ((not cut && not (begun || here)) || (not cut && (begun || here) && more')) ≡ false
no_more true begun more here more' f e = refl
no_more false false more here more' f e = absurd cc
no_more false true true here more' f e = absurd cc
no_more false true false here more' f e = f refl

pub less_rest : (here : Bool) (sent part payload : List ℕ) → nat_lt (length sent) (length payload) ≡ false → nat_lt (length (if here then sent ++ part else sent)) (length payload) ≡ false
less_rest true sent part payload e =
    let most : length payload ≤ length sent = grind (arith, nat_tests, e) in
    let more : length (sent ++ part) ≡ length sent + length part = length-append sent part in
    let long : length payload ≤ length (sent ++ part) = omega (arith, most, more) in
    grind (arith, nat_tests, long)
less_rest false sent part payload e = e

still_cut : (cut on begun more : Bool) → ((not cut && not begun) || (not cut && begun && more)) ≡ false → ((not (cut || on) && not begun) || (not (cut || on) && begun && more)) ≡ false
still_cut true on begun more e = refl
still_cut false true begun more e = refl
still_cut false false begun more e = e

still_decided : (test accepted : Bool) (o : Option Bool) (answered : Bool) → (not (is_some o) && not answered) ≡ false → (not (is_some (decided test accepted o)) && not answered) ≡ false
still_decided false accepted o answered e = e
still_decided true accepted None answered e = refl
still_decided true accepted (Some x) answered e = refl

still_answered : (some answered covers : Bool) → (not some && not answered) ≡ false → (not some && not (answered || covers)) ≡ false
still_answered true answered covers e = refl
still_answered false true covers e = refl
still_answered false false covers e = absurd cc

stays_over : (k : ℕ) (ds : List PublishEvent) (y : PublishEvent) → takes_up y ≡ false → IsOver ds k → IsOver (y ∷ ds) k
stays_over k ds (TakenUp link confirm payload back) e o = absurd cc
stays_over k ds (FrameSent number first part) e o =
    let f : Fate = fate_of k ds in
    record {
      sent = no_more f.cut f.begun (has_rest f) (k == number) _ (less_rest (k == number) f.sent part f.payload) o.sent;
      decided = o.decided;
    }
stays_over k ds (OutcomeCame first last outcome) e o =
    let f : Fate = fate_of k ds in record { sent = o.sent; decided = still_decided _ _ f.outcome f.answered o.decided }
stays_over k ds (LinkGone link not_found) e o =
    let f : Fate = fate_of k ds in
    record { sent = still_cut f.cut _ f.begun (has_rest f) o.sent; decided = still_decided _ false f.outcome f.answered o.decided }
stays_over k ds (ReturnSent number) e o = record { sent = o.sent; decided = o.decided }
stays_over k ds (ConfirmSent c) e o =
    let f : Fate = fate_of k ds in record { sent = o.sent; decided = still_answered (is_some f.outcome) f.answered _ o.decided }
stays_over k ds LinesTold e o = record { sent = o.sent; decided = o.decided }

-- ---- all of a life

abbrev AllOver : List PublishEvent → Type 0
AllOver ds = (k : ℕ) → IsTaken ds k → IsOver ds k

all_stay : (ys ds : List PublishEvent) → NoneTaken ys → AllOver ds → AllOver (ys ++ ds)
all_stay [] ds a o = o
all_stay (y ∷ ys) ds a o = λ k t. stays_over k (ys ++ ds) y a.0 (all_stay ys ds a.1 o k (t.0, subst (λ (b : Bool). k ≤ (if b then numbers_of (ys ++ ds) + 1 else numbers_of (ys ++ ds))) a.0 t.1))

events_stay : (life : ℕ) (xs es : List PathEvent) → AreOther xs → AllOver (publishes_of life es) → AllOver (publishes_of life (xs ++ es))
events_stay life [] es a o = o
events_stay life (x ∷ xs) es a o =
    all_stay (publish_events (after_events life (xs ++ es)) x) (publishes_of life (xs ++ es)) (none_up (after_events life (xs ++ es)) x a.0) (events_stay life xs es a.1 o)

none_taken : (k : ℕ) → IsTaken [] k → ⊥
none_taken k t = let from : 1 ≤ k = t.0 in let most : k ≤ 0 = t.1 in omega (arith, from, most)

-- ---- steps

running_open : (c : Connection) → is_running c.phase ≡ true → is_closing c ≡ true → ⊥
running_open c r e = by c.phase r e
  where
    by : (p : Phase91) → is_running p ≡ true → is_closing (record c { phase = p }) ≡ true → ⊥
    by phase.Running r e = cc
    by p r e = absurd cc

-- none is taken up once the connection closes
none_wanted : (h : List Step) (u : Unit91) → is_closing (connection h) ≡ true → is_publish_want (want_in (routes_in h) (paths_in h) (connection h) u) ≡ false
none_wanted h u e = by (client_step (routes_in h) (paths_in h) (connection h) u) (outcome (routes_in h) (paths_in h) (connection h) u)
  where
    by : (x : machine.Step) → Outcome (connection h) u x → is_publish_want x.1 ≡ false
    by _ (Publishes n m d r) = absurd (running_open (connection h) r e)
    by _ o = refl

others : (n : ℕ) (h : List Step) (s : Step) → is_closing (connection h) ≡ true → AreOther (step_events n h s)
others n h (Came u) e = by (ran_out_in h)
  where
    limit : ℕ
    limit = (conn_step (routes_in h) (paths_in h) (connection h) u).limits.frame_max

    by : (b : Bool) → AreOther (if b then [] else want_events (routes_in h) limit n (want_in (routes_in h) (paths_in h) (connection h) u))
    by true = tt
    by false = want_other (routes_in h) limit n (want_in (routes_in h) (paths_in h) (connection h) u) (none_wanted h u e)
others n h s e = step_other n h s refl

record IsFallen (h : List Step) : Type 0 where
  closing : is_closing (connection h) ≡ true
  over : (n : ℕ) → AreOver h n

kept : (s : Step) (h : List Step) → ArePicks (s ∷ h) → IsFallen h → IsFallen (s ∷ h)
kept s h p f = record { closing = closes_on s h p f.closing; over = λ n life k l t. by n life k (opens_channel n h s) l t }
  where
    by : (n life k : ℕ) (b : Bool) → (if b then Some ((peers h).opened + 1) else path_life h n) ≡ Some life
        → IsTaken (publishes_of life (if b then [] else step_events n h s ++ path_events h n)) k
        → IsOver (publishes_of life (if b then [] else step_events n h s ++ path_events h n)) k
    by n life k true l t = absurd (none_taken k t)
    by n life k false l t = events_stay life (step_events n h s) (path_events h n) (others n h s f.closing) (λ j. f.over n life j l) k t

-- the sessions are lost
record Fails (s : Step) (h : List Step) : Type 0 where
  closing : is_closing (connection (s ∷ h)) ≡ true
  rest : ℕ → List PathEvent
  is : (n : ℕ) → step_events n h s ≡ event.SessionEnded ∷ rest n

fallen_by : (s : Step) (h : List Step) → Fails s h → IsFallen (s ∷ h)
fallen_by s h f = record { closing = f.closing; over = λ n life k l t. by n life k (opens_channel n h s) t }
  where
    by : (n life k : ℕ) (b : Bool) → IsTaken (publishes_of life (if b then [] else step_events n h s ++ path_events h n)) k
        → IsOver (publishes_of life (if b then [] else step_events n h s ++ path_events h n)) k
    by n life k true t = absurd (none_taken k t)
    by n life k false t = subst (λ (xs : List PathEvent). IsOver (publishes_of life (xs ++ path_events h n)) k) (sym (f.is n)) (gone_over (publishes_of life (f.rest n ++ path_events h n)) false k)

-- by a unit of the container
record FailsBy (p x : Peers) (m : Meaning) : Type 0 where
  closing : is_closing (peers_by m x).client ≡ true
  is : (n : ℕ) → meaning_events p n m ≡ failing

fails_by : (p : Peers) (o : Option Upstream) (m : Meaning) → ends_by p m ≡ true → FailsBy p (record p { container = o }) m
fails_by p o (ten.OfSession k q payload) e = let r = by (scope_in p k q payload) e in record { closing = r.0; is = r.1 }
  where
    by : (z : Option Scope) → closes_connection z ≡ true
        → (is_closing (peers_scoped z k q payload (record p { container = o; carried = carried_on k q p.carried })).client ≡ true)
        × ((n : ℕ) → session_events p.client z n k q payload (path_at p.paths k) ≡ failing)
    by (Some scope.Connection) f = (close_closes p.client.phase, λ n. refl)
    by (Some scope.Channel) f = absurd cc
    by None f = absurd cc
fails_by p o (ten.Closed t) e = record { closing = close_closes p.client.phase; is = λ n. refl }
fails_by p o ten.Refused e = record { closing = close_closes p.client.phase; is = λ n. refl }
fails_by p o (ten.Violation why) e = record { closing = close_closes p.client.phase; is = λ n. refl }
fails_by p o m e = absurd cc

heard_fails : (h : List Step) (u : Unit10) → ran_out_in h ≡ false → ends_by (peers h) (meaning_by (container h) u) ≡ true → Fails (Heard u) h
heard_fails h u ran e =
    let r = fails_by (peers h) (container_by (container h) u) (meaning_by (container h) u) e in
    record {
      closing = ap (λ (b : Bool). is_closing (if b then peers h else peers_heard (peers h) u).client) ran ∙ r.closing;
      rest = λ n. [];
      is = λ n. ap (λ (b : Bool). if b then [] else meaning_events (peers h) n (meaning_by (container h) u)) ran ∙ r.is n;
    }

-- ---- so at all times

fallen : (h : List Step) → ArePicks h → is_lost_up h ≡ true → IsFallen h
fallen [] p e = absurd cc
fallen (Heard u ∷ h) p e = by (is_lost_up h) refl e (fallen h p.1)
  where
    by : (b : Bool) → is_lost_up h ≡ b → (b || (not (ran_out_in h) && ends_by (peers h) (meaning_by (container h) u))) ≡ true
        → (is_lost_up h ≡ true → IsFallen h) → IsFallen (Heard u ∷ h)
    by true f g old = kept (Heard u) h p (old f)
    by false f g old = fallen_by (Heard u) h (heard_fails h u (not_true _ (and_left _ _ g)) (and_right _ _ g))
fallen (Joined link.Failed ∷ h) p e =
    fallen_by (Joined link.Failed) h (record { closing = close_closes (connection h).phase; rest = λ n. event.LinesWent ∷ []; is = λ n. refl })
fallen (Lost Up loss.Ended ∷ h) p e =
    fallen_by (Lost Up loss.Ended) h (record { closing = close_closes (connection h).phase; rest = λ n. event.UpLost ∷ event.LinesWent ∷ []; is = λ n. refl })
fallen (Lost Up loss.Failed ∷ h) p e =
    fallen_by (Lost Up loss.Failed) h (record { closing = close_closes (connection h).phase; rest = λ n. event.UpLost ∷ event.LinesWent ∷ []; is = λ n. refl })
fallen (Silent Up ∷ h) p e = fallen_by (Silent Up) h (record { closing = close_closes (connection h).phase; rest = λ n. []; is = λ n. refl })
fallen (s ∷ h) p e = kept s h p (fallen h p.1 e)

pub loses : (h : List Step) → ArePicks h → LosesPublishes h
loses h p e = (fallen h p e).over
