-- Nothing waits behind the client's end.
use Rattle.std.proofs.Common.{◌≡◌, ℕ, Bool, true, false, not, ◌&&◌, if◌then◌else◌, List, [], ◌∷◌}
use Rattle.std.proofs.Common.{◌++◌, Option, None, Some, refl, sym, ap, ◌∙◌, subst}
use Rattle.gate_outside.specs.declared.ports.End.TheVariants.{Client, Up}
use Rattle.gate_outside.specs.declared.ports.Linked.TheVariants as link
use Rattle.gate_relay.specs.declared.loss.Loss.TheVariants as loss
use Rattle.machine_091.specs.State.{awaits, is_closing, is_opening}
use Rattle.machine_091.specs.declared.unit.Unit91.{Unit91}
use Rattle.machine_10.specs.Parts.{Parts}
use Rattle.machine_10.specs.Transitions as ten
use Rattle.machine_10.specs.Transitions.{Meaning}
use Rattle.machine_10.specs.declared.unit.Unit10.{Unit10}
use Rattle.performatives_10.specs.declared.condition.Condition.{Condition}
use Rattle.close_translate.specs.declared.codes.TheConstants.{INTERNAL_ERROR}
use Rattle.gate_model.specs.declared.outgoing.Outgoing.TheVariants.{ToClient}
use Rattle.gate_model.specs.Due.{can_leave}
use Rattle.gate_model.specs.Picks.{ArePicks, MayComeAs}
use Rattle.gate_model.specs.Queue.{is_empty, place_in, unit_at}
use Rattle.gate_model.specs.State.{Began, Came, Fed, Gave, Heard, Joined, Lost, Moment, OutOfMemory}
use Rattle.gate_model.specs.State.{Queued, Silent, State, Step, TakenUp, Whole, before, came}
use Rattle.gate_model.specs.State.{dequeued, fail, failed, has_left, heard, left, next_unit, runs, sessions_lost}
use Rattle.gate_model.specs.State.{waits, windowed, with_meaning, with_session}
use Rattle.gate_model.specs.Upstream.{heard_up, meaning_by}
use Rattle.gate_model.proofs.Connections.{none_comes, only_given, step_here, stream_if, stream_only}
use Rattle.gate_model.proofs.Outcomes.{only_closing}
use Rattle.gate_model.proofs.Sessions.{session_cases}
use Rattle.gate_model.specs.Paths.{is_laden}

-- ---- what no unit of the client changes

pub record Rests (w v : State) : Type 0 where
  pub stream : v.conn.stream ≡ w.conn.stream
  pub queue : v.queue ≡ w.queue

rests : (w : State) → Rests w w
rests w = record { stream = refl; queue = refl }

pub rests_fail : (code : ℕ) (why : Option Condition) (w : State) → Rests w (fail code why w)
rests_fail code why w = by (is_closing w.conn)
  where
    by : (b : Bool) → Rests w (if b then sessions_lost w else failed code why w)
    by true = record { stream = refl; queue = refl }
    by false = record { stream = refl; queue = refl }

rests_session : (n : ℕ) (p : Parts) (payload : List ℕ) (w : State) → Rests w (with_session n p payload w)
rests_session n p payload w =
    session_cases (Rests w) n p payload w (record {
      begins = record { stream = refl; queue = refl };
      stays = record { stream = refl; queue = refl };
      ends = λ code why. record { stream = stream_only (only_closing n w.conn); queue = refl };
      parts = record { stream = refl; queue = refl };
      drops = λ code why. record { stream = stream_only (only_closing n w.conn); queue = refl };
      fails = λ why. let f : Rests (windowed n p w) (fail INTERNAL_ERROR why (windowed n p w)) = rests_fail _ why (windowed n p w) in
          record { stream = f.stream; queue = f.queue };
    })

rests_meaning : (m : Meaning) (w : State) → Rests w (with_meaning m w)
rests_meaning ten.Nothing w = rests w
rests_meaning ten.Init w = record { stream = refl; queue = refl }
rests_meaning ten.AmqpHeader w = record { stream = refl; queue = refl }
rests_meaning ten.Opened w = by (is_opening w.conn)
  where
    by : (b : Bool) → Rests w (if b then runs w else w)
    by true = record { stream = refl; queue = refl }
    by false = rests w
rests_meaning (ten.OfSession g p payload) w = rests_session g p payload w
rests_meaning (ten.Closed e) w = rests_fail _ None w
rests_meaning ten.Refused w = rests_fail _ None w
rests_meaning (ten.Violation c) w = rests_fail _ (Some c) w

pub rests_heard : (w : State) (u : Unit10) → Rests w (if w.out_of_memory then w else heard w u)
rests_heard w u = by w.out_of_memory
  where
    by : (b : Bool) → Rests w (if b then w else heard w u)
    by true = rests w
    by false =
        let r : Rests (record w { up = heard_up u w.up }) (heard w u) = rests_meaning (meaning_by w.up.container u) (record w { up = heard_up u w.up }) in
        record { stream = r.stream; queue = r.queue }

-- ---- nothing waits behind the client's end

abbrev NoneLeft : State → Type 0
NoneLeft w = has_left w.conn.stream ≡ true → w.queue ≡ []

none_after : (w v : State) → Rests w v → NoneLeft w → NoneLeft v
none_after w v r f e = r.queue ∙ f (sym (ap has_left r.stream) ∙ e)

-- so no unit is taken up then
pub none_next : (w : State) (u : Unit91) → w.queue ≡ [] → next_unit w ≡ Some u → ⊥
none_next w u e f = by (is_laden w.paths) f
  where
    by : (b : Bool) → unit_at (if b then None else place_in (waits w) w.queue) w.queue ≡ Some u → ⊥
    by true g = cc
    by false g = let wrong : None ≡ Some u = sym (ap (λ (us : List Unit91). unit_at (place_in (waits w) us) us) e) ∙ g in cc

pub empty_is : (us : List Unit91) → is_empty us ≡ true → us ≡ []
empty_is [] e = refl
empty_is (u ∷ us) e = absurd cc

leaves_empty : (w : State) → can_leave w ≡ true → w.queue ≡ []
leaves_empty w e = by w.leaving w.out_of_memory (is_empty w.queue) (not (waits w).some && not (is_laden w.paths)) refl e
  where
    by : (a b c d : Bool) → is_empty w.queue ≡ c → (a && (not b && (c && d))) ≡ true → w.queue ≡ []
    by true false true d f e = empty_is w.queue f
    by true false false d f e = absurd cc
    by true true c d f e = absurd cc
    by false b c d f e = absurd cc

none_queued : (w : State) (u : Unit91) → MayComeAs (awaits w.conn) u → NoneLeft w → NoneLeft (if w.out_of_memory then w else record w { queue = w.queue ++ u ∷ [] })
none_queued w u may f = by w.out_of_memory
  where
    by : (b : Bool) → NoneLeft (if b then w else record w { queue = w.queue ++ u ∷ [] })
    by true = f
    by false = λ e. absurd (none_comes w.conn u e may)

none_came : (w : State) (u : Unit91) → next_unit w ≡ Some u → NoneLeft w → NoneLeft (if w.out_of_memory then w else came (dequeued w) u)
none_came w u may f = by w.out_of_memory
  where
    by : (b : Bool) → NoneLeft (if b then w else came (dequeued w) u)
    by true = f
    by false = λ e. absurd (none_next w u (f (step_here w.routes w.paths w.conn u e)) may)

none_taken : (w : State) → w.queue ≡ [] → NoneLeft (if not w.out_of_memory && w.leaving then left w else w)
none_taken w e = by (not w.out_of_memory && w.leaving)
  where
    by : (b : Bool) → NoneLeft (if b then left w else w)
    by true = λ x. e
    by false = λ x. e

pub none_left : (h : List Step) → ArePicks h → NoneLeft (before h)
none_left [] p = λ e. refl
none_left (Began site n ms ∷ h) p = subst (λ (x : List Step). NoneLeft (before (Began site n ms ∷ x))) (sym p.0) (λ e. refl)
none_left (Moment ms ∷ h) p = none_after (before h) (before (Moment ms ∷ h)) (record { stream = stream_if _ (before h).conn; queue = refl }) (none_left h p.1)
none_left (Fed Client ∷ h) p = none_left h p.1
none_left (Silent Client ∷ h) p = λ e. refl
none_left (Silent Up ∷ h) p =
    let r = rests_fail _ _ _ in none_after (before h) (before (Silent Up ∷ h)) (record { stream = r.stream; queue = r.queue }) (none_left h p.1)
none_left (Queued u ∷ h) p = none_queued (before h) u p.0.0 (none_left h p.1)
none_left (Came u ∷ h) p = none_came (before h) u p.0 (none_left h p.1)
none_left (TakenUp ∷ h) p = none_taken (before h) (leaves_empty (before h) p.0)
none_left (Heard u ∷ h) p = none_after (before h) (before (Heard u ∷ h)) (rests_heard (before h) u) (none_left h p.1)
none_left (Joined link.Failed ∷ h) p =
    let r = rests_fail _ None _ in none_after (before h) (before (Joined link.Failed ∷ h)) (record { stream = r.stream; queue = r.queue }) (none_left h p.1)
none_left (Lost Client loss.Ended ∷ h) p = none_left h p.1
none_left (Lost Up loss.Ended ∷ h) p =
    let r = rests_fail _ None _ in none_after (before h) (before (Lost Up loss.Ended ∷ h)) (record { stream = r.stream; queue = r.queue }) (none_left h p.1)
none_left (Lost Up loss.Failed ∷ h) p =
    let r = rests_fail _ None _ in none_after (before h) (before (Lost Up loss.Failed ∷ h)) (record { stream = r.stream; queue = r.queue }) (none_left h p.1)
none_left (Gave (ToClient u) text ∷ h) p =
    none_after (before h) (before (Gave (ToClient u) text ∷ h)) (record { stream = stream_only (only_given u (before h).conn); queue = refl }) (none_left h p.1)
none_left (Whole Client ∷ h) p = none_left h p.1
none_left (OutOfMemory ∷ h) p = λ e. refl
none_left (s ∷ h) p = none_left h p.1
