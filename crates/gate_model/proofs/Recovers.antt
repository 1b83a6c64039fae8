-- A recover makes each delivery that its client has go back, and changes no other.
use Rattle.std.proofs.Common.{◌≡◌, ◌∙◌, ℕ, ◌+◌, ◌==◌, ◌≤◌, nat_le, not, ◌&&◌, ◌||◌, Bool, true, false, if◌then◌else◌, List, [], ◌∷◌, ◌++◌}
use Rattle.std.proofs.Common.{Option, None, Some, is_some, refl, sym, ap, subst, arith}
use Rattle.std.proofs.lemmas.Bool.Decides.{nat_tests}
use Rattle.machine_091.specs.declared.unit.Want91.{Want91}
use Rattle.machine_091.specs.declared.unit.Want91.TheVariants as want
use Rattle.methods_091.specs.declared.method.Method91.{Method91}
use Rattle.methods_091.specs.declared.method.Method91.TheVariants as method
use Rattle.consume_path.specs.Deliveries as on
use Rattle.consume_path.specs.Deliveries.{DeliveryEvent}
use Rattle.consume_path.specs.Items.{in_tag, is_no_ack}
use Rattle.consume_path.specs.Journal.{Fate, caused, fate_of, is_closed, new_fate, numbers_of, passes}
use Rattle.consume_path.specs.Laws.{is_taken}
use Rattle.consume_path.specs.declared.delivery.Settle.{Settle}
use Rattle.consume_path.specs.declared.delivery.Settle.TheVariants.{Released}
use Rattle.session_path.specs.Events.{PathEvent, after_events, deliveries_of, delivery_events}
use Rattle.gate_model.specs.Folds.{connection, paths_in, peers, ran_out_in, routes_in}
use Rattle.gate_model.specs.Once.{is_channel_open, is_method_on}
use Rattle.gate_model.specs.Publishing.{method_events, opens_channel, path_events, path_life, step_events, want_events}
use Rattle.gate_model.specs.Recovers.{GoBack, GoBeforeLeaving, LeavesOthers, MayLeave, is_recover, is_recovered, is_with, is_with_client, recovers}
use Rattle.gate_model.specs.Releases.{MayPart, Releases}
use Rattle.gate_model.specs.State.{Came, Gave, Step, conn_step, want_in}
use Rattle.gate_model.specs.declared.channel.SessionUnit.TheVariants as unit
use Rattle.gate_model.specs.declared.outgoing.Outgoing.TheVariants.{ToUp}
use Rattle.gate_model.specs.declared.outgoing.UpUnit.{UpUnit}
use Rattle.gate_model.specs.declared.outgoing.UpUnit.TheVariants as up
use Rattle.gate_model.specs.declared.setup.Route.{Route}
use Rattle.gate_model.proofs.Basics.{and_left, and_right}
use Rattle.gate_model.proofs.Leaving.{covers_all}

-- ---- a delivery that is to go back stays so

-- it came, and is owed released
record Goes (ds : List DeliveryEvent) (k : ℕ) : Type 0 where
  positive : 1 ≤ k
  taken : k ≤ numbers_of ds
  due : (fate_of k ds).due ≡ Some Released

first_counts : (b : Bool) (x : Settle) (due : Option Settle) → due ≡ Some Released → caused b x due ≡ Some Released
first_counts b x (Some y) e = by b
  where
    by : (b : Bool) → caused b x (Some y) ≡ Some Released
    by true = e
    by false = e
first_counts b x None e = absurd cc

one_more : (y : DeliveryEvent) (ds : List DeliveryEvent) (k : ℕ) → Goes ds k → Goes (y ∷ ds) k
one_more (on.Arrived a content again) ds k g = record { positive = g.positive; taken = (let t : k ≤ numbers_of ds = g.taken in omega (arith, t)); due = by (k == numbers_of ds + 1) refl }
  where
    by : (b : Bool) → (k == numbers_of ds + 1) ≡ b → (if b then new_fate (is_closed ds) a content again else fate_of k ds).due ≡ Some Released
    by true e = let t : k ≤ numbers_of ds = g.taken in let same : k ≡ numbers_of ds + 1 = grind (arith, nat_tests, e) in absurd (omega (arith, t, same))
    by false e = g.due
one_more (on.Written tag) ds k g = record { positive = g.positive; taken = g.taken; due = first_counts _ _ _ g.due }
one_more (on.Answered tag multiple x) ds k g = record { positive = g.positive; taken = g.taken; due = first_counts _ _ _ g.due }
one_more (on.Cancelled link) ds k g = record { positive = g.positive; taken = g.taken; due = first_counts _ _ _ g.due }
one_more on.Closed ds k g = record { positive = g.positive; taken = g.taken; due = first_counts true Released _ g.due }
one_more y ds k g = record { positive = g.positive; taken = g.taken; due = g.due }

more : (ys ds : List DeliveryEvent) (k : ℕ) → Goes ds k → Goes (ys ++ ds) k
more [] ds k g = g
more (y ∷ ys) ds k g = one_more y (ys ++ ds) k (more ys ds k g)

stays : (life : ℕ) (xs es : List PathEvent) (k : ℕ) → Goes (deliveries_of life es) k → Goes (deliveries_of life (xs ++ es)) k
stays life [] es k g = g
stays life (x ∷ xs) es k g = more (delivery_events (after_events life (xs ++ es)) x) (deliveries_of life (xs ++ es)) k (stays life xs es k g)

-- ---- a recover

all_tags : (t : ℕ) → in_tag 0 true t ≡ true
all_tags t = by (t == 0)
  where
    by : (b : Bool) → (b || true) ≡ true
    by true = refl
    by false = refl

with_due : (tag : Option ℕ) (no_ack : Bool) (due : Option Settle) → (is_some tag && (not no_ack && not (is_some due))) ≡ true
    → caused (not no_ack && passes (in_tag 0 true) tag) Released due ≡ Some Released
with_due None no_ack due e = absurd cc
with_due (Some t) true due e = absurd cc
with_due (Some t) false (Some x) e = absurd cc
with_due (Some t) false None e = ap (λ (b : Bool). caused b Released None) (all_tags t)

same_due : (tag : Option ℕ) (no_ack : Bool) (due : Option Settle) → (is_some tag && (not no_ack && not (is_some due))) ≡ false
    → caused (not no_ack && passes (in_tag 0 true) tag) Released due ≡ due
same_due None true due e = refl
same_due None false due e = refl
same_due (Some t) true due e = refl
same_due (Some t) false None e = absurd cc
same_due (Some t) false (Some x) e = by (in_tag 0 true t)
  where
    by : (b : Bool) → caused b Released (Some x) ≡ Some x
    by true = refl
    by false = refl

abbrev recover : DeliveryEvent
recover = on.Answered 0 true Released

others : (k : ℕ) (ds : List DeliveryEvent) → is_with_client (fate_of k ds) ≡ false → fate_of k (recover ∷ ds) ≡ fate_of k ds
others k ds e = ap (λ (due : Option Settle). record (fate_of k ds) { due = due }) (same_due (fate_of k ds).tag (is_no_ack (fate_of k ds).taker) (fate_of k ds).due e)

-- its events
module _ (n : ℕ) (h : List Step) (life : ℕ) where
  method_met : (b : Bool) (m : Method91) → (b && is_recover m) ≡ true
      → deliveries_of life ((if b then method_events m else []) ++ path_events h n) ≡ recover ∷ deliveries_of life (path_events h n)
  method_met true (method.BasicRecover requeue) e = refl
  method_met true (method.BasicRecoverAsync requeue) e = refl
  method_met true m e = absurd cc
  method_met false m e = absurd cc

  want_met : (r : Bool) (rs : List Route) (limit : ℕ) (x : Want91) → (not r && is_method_on is_recover n x) ≡ true
      → deliveries_of life ((if r then [] else want_events rs limit n x) ++ path_events h n) ≡ recover ∷ deliveries_of life (path_events h n)
  want_met true rs limit x e = absurd cc
  want_met false rs limit (want.Method j m) e = method_met (j == n) m e
  want_met false rs limit x e = absurd cc

  met : (s : Step) → recovers n h s ≡ true → deliveries_of life (step_events n h s ++ path_events h n) ≡ recover ∷ deliveries_of life (path_events h n)
  met (Came u) e =
      want_met (ran_out_in h) (routes_in h) (conn_step (routes_in h) (paths_in h) (connection h) u).limits.frame_max (want_in (routes_in h) (paths_in h) (connection h) u) e
  met s e = absurd cc

-- it opens no channel
opens_none : (n : ℕ) (h : List Step) (s : Step) → recovers n h s ≡ true → opens_channel n h s ≡ false
opens_none n h (Came u) e = by (ran_out_in h) (want_in (routes_in h) (paths_in h) (connection h) u) e
  where
    method_by : (b : Bool) (m : Method91) → (b && is_recover m) ≡ true → (b && is_channel_open m) ≡ false
    method_by true (method.BasicRecover requeue) f = refl
    method_by true (method.BasicRecoverAsync requeue) f = refl
    method_by true m f = absurd cc
    method_by false m f = refl

    by : (r : Bool) (x : Want91) → (not r && is_method_on is_recover n x) ≡ true → (not r && is_method_on is_channel_open n x) ≡ false
    by true x f = refl
    by false (want.Method j m) f = method_by (j == n) m f
    by false x f = absurd cc
opens_none n h s e = absurd cc

-- ---- all steps

met_goes : (n : ℕ) (h : List Step) (life k : ℕ) (s : Step) → path_life h n ≡ Some life → recovers n h s ≡ true → is_with (path_events h n) (path_life h n) k ≡ true
    → Goes (deliveries_of life (step_events n h s ++ path_events h n)) k
met_goes n h life k s l r w =
    subst (λ (ds : List DeliveryEvent). Goes ds k) (sym (met n h life s r))
    (goes (subst (λ (o : Option ℕ). is_with (path_events h n) o k ≡ true) l w))
  where
    goes : is_with (path_events h n) (Some life) k ≡ true → Goes (recover ∷ deliveries_of life (path_events h n)) k
    goes e =
        let ds : List DeliveryEvent = deliveries_of life (path_events h n) in
        let f : Fate = fate_of k ds in
        let came : is_taken k ds ≡ true = and_left (is_taken k ds) (is_with_client f) e in
        record {
          positive = most 1 k (and_left (nat_le 1 k) (nat_le k (numbers_of ds)) came);
          taken = most k (numbers_of ds) (and_right (nat_le 1 k) (nat_le k (numbers_of ds)) came);
          due = with_due f.tag (is_no_ack f.taker) f.due (and_right (is_taken k ds) (is_with_client f) e);
        }
      where
        most : (i m : ℕ) → nat_le i m ≡ true → i ≤ m
        most i m g = grind (arith, nat_tests, g)

all_go : (h : List Step) (n k life : ℕ) → path_life h n ≡ Some life → is_recovered n k h ≡ true → Goes (deliveries_of life (path_events h n)) k
all_go [] n k life l r = absurd cc
all_go (s ∷ h) n k life l r = by (opens_channel n h s) l r (all_go h n k life)
  where
    either : path_life h n ≡ Some life → (a b : Bool) → is_recovered n k h ≡ a → (recovers n h s && is_with (path_events h n) (path_life h n) k) ≡ b → (a || b) ≡ true → (path_life h n ≡ Some life → is_recovered n k h ≡ true → Goes (deliveries_of life (path_events h n)) k)
        → Goes (deliveries_of life (step_events n h s ++ path_events h n)) k
    either f true b x y e old = stays life (step_events n h s) (path_events h n) k (old f x)
    either f false b x y e old =
        met_goes n h life k s f (and_left (recovers n h s) (is_with (path_events h n) (path_life h n) k) (y ∙ e))
        (and_right (recovers n h s) (is_with (path_events h n) (path_life h n) k) (y ∙ e))

    by : (b : Bool) → (if b then Some ((peers h).opened + 1) else path_life h n) ≡ Some life
        → (if b then false else is_recovered n k h || (recovers n h s && is_with (path_events h n) (path_life h n) k)) ≡ true → (path_life h n ≡ Some life → is_recovered n k h ≡ true → Goes (deliveries_of life (path_events h n)) k)
        → Goes (deliveries_of life (if b then [] else step_events n h s ++ path_events h n)) k
    by true f e old = absurd cc
    by false f e old = either f _ _ refl refl e old

pub go_back : (h : List Step) → GoBack h
go_back h n k life l r = (all_go h n k life l r).due

-- ---- before a session or a link goes

part_back : (h : List Step) (u : UpUnit) → MayPart h u → MayLeave h u
part_back h (up.End n why) r = λ life k l is. let g = all_go h n k life l is in r.returned life k l (g.positive, g.taken)
part_back h (up.OnSession n (unit.Detach link handle why)) r = λ life k l lives found receives here is.
    let g = all_go h n k life lives is in
    second _ _ here (covers_all link (deliveries_of life (path_events h n)) (r life l lives found receives) k (g.positive, g.taken))
  where
    second : (a b : Bool) → a ≡ true → (a && b) ≡ false → b ≡ false
    second true b e f = f
    second false b e f = absurd cc
part_back h (up.OnSession n (unit.Attach a)) r = tt
part_back h (up.OnSession n (unit.Flow f)) r = tt
part_back h (up.OnSession n (unit.Transfer t)) r = tt
part_back h (up.OnSession n (unit.Dispose x)) r = tt
part_back h (up.OnSession n (unit.Settle x)) r = tt
part_back h u r = tt

pub go_before_leaving : (h : List Step) → Releases h → GoBeforeLeaving h
go_before_leaving [] r = tt
go_before_leaving (Gave (ToUp u) text ∷ h) r = (part_back h u r.0, go_before_leaving h r.1)
go_before_leaving (s ∷ h) r = go_before_leaving h r

pub leaves_others : (h : List Step) → LeavesOthers h
leaves_others [] = tt
leaves_others (s ∷ h) = (one, leaves_others h)
  where
    one : (n k life : ℕ) → path_life h n ≡ Some life → recovers n h s ≡ true → is_with_client (fate_of k (deliveries_of life (path_events h n))) ≡ false
        → fate_of k (deliveries_of life (path_events (s ∷ h) n)) ≡ fate_of k (deliveries_of life (path_events h n))
    one n k life l r e =
        ap (λ (b : Bool). fate_of k (deliveries_of life (if b then [] else step_events n h s ++ path_events h n))) (opens_none n h s r)
        ∙ ap (λ (ds : List DeliveryEvent). fate_of k ds) (met n h life s r)
        ∙ others k (deliveries_of life (path_events h n)) e
