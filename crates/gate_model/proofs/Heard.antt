-- What holds of each event of a life, by the steps. So they are heard: a link is asked for before the closing event alone, and no transfer told of is at fault.
use Rattle.std.proofs.Common.{◌≡◌, ℕ, ◌+◌, ◌%◌, ◌^◌, ◌<◌, ◌≤◌, Bool, true, false, if◌then◌else◌, List, [], ◌∷◌, ◌++◌, Option, None, Some}
use Rattle.std.proofs.Common.{option_map, refl, sym, ap, ◌∙◌, subst, arith}
use Rattle.std.proofs.Math.Nat.{mod-lt}
use Rattle.consume_path.specs.Deliveries.{DeliveryEvent, DeliveryState}
use Rattle.consume_path.specs.Deliveries.{after_events as deliveries_after}
use Rattle.consume_path.specs.Journal.{closes, is_closed}
use Rattle.consume_path.specs.Links.{id_or}
use Rattle.gate_outside.specs.declared.ports.End.TheVariants.{Client, Up}
use Rattle.gate_outside.specs.declared.ports.Linked.TheVariants as link
use Rattle.gate_relay.specs.declared.loss.Loss.TheVariants as loss
use Rattle.gate_relay.specs.Sides.{is_absent}
use Rattle.gate_relay.specs.declared.sides.Side.{Side}
use Rattle.gate_relay.specs.declared.sides.Side.TheVariants as side
use Rattle.machine_091.specs.State.{is_open, is_opening}
use Rattle.machine_091.specs.Transitions.{unit_step}
use Rattle.machine_091.specs.Transitions as machine
use Rattle.machine_091.specs.declared.limits.TheConstants.{CHANNEL_MAX}
use Rattle.machine_091.specs.declared.state.Connection.{Connection}
use Rattle.machine_091.specs.declared.unit.Refusal.{Refusal}
use Rattle.machine_091.specs.declared.unit.Unit91.{Unit91}
use Rattle.machine_091.proofs.Asking.{IsOnTime, is_request, quiet, unit_on_time}
use Rattle.machine_10.specs.Reading.{field, number_at, number_in}
use Rattle.methods_091.specs.declared.method.Method91.{Method91}
use Rattle.methods_091.specs.declared.method.Method91.TheVariants as method
use Rattle.session_path.specs.Events as event
use Rattle.session_path.specs.Events.{PathEvent, after_events, deliveries_of, delivery_events}
use Rattle.session_path.specs.Laws.{AreHeard, IsHeard}
use Rattle.session_path.specs.Path.{PathState}
use Rattle.types_10.specs.Tree.{Tree}
use Rattle.gate_model.specs.Folds.{connection, going_in, paths_in, peers, routes_in, side_in}
use Rattle.gate_model.specs.Paths.{fault_in, or_no_path, part_in, path_at}
use Rattle.gate_model.specs.Picks.{ArePicks}
use Rattle.gate_model.specs.Publishing.{told_event, arrival_event, method_events, opens_channel, path_events, path_life, step_events}
use Rattle.gate_model.specs.Requests.{client_step, refusal_of_want, refused_by}
use Rattle.gate_model.specs.State.{is_later, Came, Gave, Joined, Lost, Step, Whole, before}
use Rattle.gate_model.specs.declared.channel.ChannelUnit.{ChannelUnit}
use Rattle.gate_model.specs.declared.channel.ChannelUnit.TheVariants as to_client
use Rattle.gate_model.specs.declared.outgoing.Outgoing.TheVariants.{ToClient, ToUp}
use Rattle.gate_model.specs.declared.setup.Route.{Route}
use Rattle.gate_model.proofs.Basics.{and_right, right_false}
use Rattle.gate_model.proofs.Connections.{clash}
use Rattle.gate_model.proofs.Granting.{DeliveriesAre}
use Rattle.gate_model.proofs.Known.{known, side_is}
use Rattle.gate_model.proofs.Quiet.{AllOn, OfArrivals, OfQuiet, came_on, is_quiet, names, quiet_step, reply_on, up_on, whole_on}
use Rattle.gate_model.proofs.Publishing.{tells}

-- ---- events on top of others

-- this holds of each of them, with the state before it
abbrev pub AllHold : (PathState → PathEvent → Type 0) → ℕ → List PathEvent → Type 0
AllHold Q life [] = Unit {0}
AllHold Q life (x ∷ es) = Q (after_events life es) x × AllHold Q life es

-- and of those behind es
abbrev pub HoldOn : (PathState → PathEvent → Type 0) → ℕ → List PathEvent → List PathEvent → Type 0
HoldOn Q life es xs = AllOn (λ (b : List PathEvent). Q (after_events life b)) es xs

pub all_on : (Q : PathState → PathEvent → Type 0) (life : ℕ) (es xs : List PathEvent) → HoldOn Q life es xs → AllHold Q life es → AllHold Q life (xs ++ es)
all_on Q life es [] a b = b
all_on Q life es (x ∷ xs) a b = (a.0, all_on Q life es xs a.1 b)

-- ---- the events of a step

-- a link is asked for
abbrev pub asks : PathEvent → Bool
asks (event.Consumed queue tag no_ack no_wait) = true
asks (event.Declared queue no_wait) = true
asks (event.GetAsked queue no_ack) = true
asks x = false

-- an event neither asks for a link nor is a transfer
abbrev pub IsPlain : PathEvent → Type 0
IsPlain (event.Consumed queue tag no_ack no_wait) = ⊥
IsPlain (event.Declared queue no_wait) = ⊥
IsPlain (event.GetAsked queue no_ack) = ⊥
IsPlain (event.TransferCame peer part payload image again) = ⊥
IsPlain x = Unit {0}

quiet_plain : (x : PathEvent) → is_quiet x ≡ true → IsPlain x
quiet_plain (event.Consumed queue tag no_ack no_wait) e = absurd cc
quiet_plain (event.Declared queue no_wait) e = absurd cc
quiet_plain (event.GetAsked queue no_ack) e = absurd cc
quiet_plain (event.TransferCame peer part payload image again) e = absurd cc
quiet_plain x e = tt

told_plain : (u : ChannelUnit) → IsPlain (told_event u)
told_plain (to_client.Ok x) = tt
told_plain x = tt

-- what makes Q hold of each event of this life of channel n, where K holds of the steps so far
pub record Holds (Q : PathState → PathEvent → Type 0) (n life : ℕ) (K : List Step → Type 0) : Type 0 where
  pub goes_back : (h : List Step) (s : Step) → ArePicks (s ∷ h) → path_life h n ≡ Some life → opens_channel n h s ≡ false → K (s ∷ h) → K h
  pub plain : (s : PathState) (x : PathEvent) → IsPlain x → Q s x
  pub asked : (h : List Step) (x : PathEvent) → ArePicks h → path_life h n ≡ Some life → K h → is_open (connection h) n ≡ true → asks x ≡ true
      → Q (after_events life (path_events h n)) x
  pub arrives : (h : List Step) (ts : List Tree) (payload : List ℕ) → ArePicks h → path_life h n ≡ Some life → K h
      → fault_in ts payload (after_events life (path_events h n)) ≡ None
      → Q (after_events life (path_events h n))
      (arrival_event (connection h).limits.frame_max n (number_at ts 0) (part_in ts) payload (after_events life (path_events h n)))

-- it asks for a link on a channel that is open, whether the gateway refuses it or not
asks_on_time : (rs : List Route) (ps : List (Option PathState)) (c : Connection) (u : Unit91) → IsOnTime c (client_step rs ps c u)
asks_on_time rs ps c u = by (refusal_of_want rs ps (unit_step c u).1) (unit_step c u) (unit_on_time c u)
  where
    by : (o : Option Refusal) (x : machine.Step) → IsOnTime c x → IsOnTime c (refused_by o x)
    by None x is = is
    by (Some r) x is = quiet c _ refl

module _ (Q : PathState → PathEvent → Type 0) (n life : ℕ) (K : List Step → Type 0) (below : n ≤ CHANNEL_MAX) (q : Holds Q n life K)
    (h : List Step) (p : ArePicks h) (l : path_life h n ≡ Some life) (k : K h) where
  abbrev es : List PathEvent
  es = path_events h n

  abbrev On : List PathEvent → Type 0
  On xs = HoldOn Q life es xs

  -- the path of a channel with a life
  there : path_at (paths_in h) n ≡ after_events life es
  there = ap or_no_path ((tells n h p).slot below) ∙ ap (λ (o : Option ℕ). or_no_path (option_map (λ (j : ℕ). after_events j es) o)) l

  still : OfQuiet (λ (b : List PathEvent). Q (after_events life b))
  still b x e = q.plain (after_events life b) x (quiet_plain x e)

  arrives : OfArrivals (λ (b : List PathEvent). Q (after_events life b)) n h
  arrives ts payload =
      subst (λ (s : PathState). fault_in ts payload s ≡ None
      → Q (after_events life es) (arrival_event (connection h).limits.frame_max n (number_at ts 0) (part_in ts) payload s)) (sym there)
      (q.arrives h ts payload p l k)

  named_on : (m : Method91) → (is_request m ≡ true → is_open (connection h) n ≡ true) → names m ≡ true → On (method_events m)
  named_on (method.BasicConsume queue tag no_local no_ack exclusive no_wait arguments) on e =
      (q.asked h (event.Consumed queue tag no_ack no_wait) p l k (on refl) refl, tt)
  named_on (method.BasicGet queue no_ack) on e = (q.asked h (event.GetAsked queue no_ack) p l k (on refl) refl, tt)
  named_on (method.BasicCancel tag no_wait) on e = (q.plain _ _ tt, tt)
  named_on (method.QueueDeclare queue passive durable exclusive deletes no_wait arguments) on e =
      (q.asked h (event.Declared queue no_wait) p l k (on refl) refl, tt)
  named_on m on e = absurd cc

  step_on : (s : Step) → On (step_events n h s)
  step_on (Came u) =
      came_on (λ (b : List PathEvent). Q (after_events life b)) n h still u
      (λ m is. named_on m ((asks_on_time (routes_in h) (paths_in h) (connection h) u).holds n m is)) (λ address payload back. q.plain _ _ tt)
  step_on (Gave (ToClient u) text) =
      reply_on (λ (b : List PathEvent). Q (after_events life b)) n h still u (λ u. q.plain (after_events life es) (told_event u) (told_plain u))
  step_on (Gave (ToUp u) text) = up_on (λ (b : List PathEvent). Q (after_events life b)) n h still (is_later (connection h) u) u (λ j t is. q.plain _ _ tt)
  step_on (Whole Client) = whole_on (λ (b : List PathEvent). Q (after_events life b)) n h still (going_in h) (λ tag. q.plain _ _ tt)
  step_on s = quiet_step (λ (b : List PathEvent). Q (after_events life b)) n h still arrives s refl

-- ---- all steps

grown : (Q : PathState → PathEvent → Type 0) (n life : ℕ) (K : List Step → Type 0) → n ≤ CHANNEL_MAX → Holds Q n life K → (s : Step) (h : List Step)
    → ArePicks (s ∷ h) → (path_life h n ≡ Some life → K h → AllHold Q life (path_events h n)) → path_life (s ∷ h) n ≡ Some life → K (s ∷ h)
    → AllHold Q life (path_events (s ∷ h) n)
grown Q n life K below q s h p old l k = by (opens_channel n h s) refl l
  where
    by : (b : Bool) → opens_channel n h s ≡ b → (if b then Some ((peers h).opened + 1) else path_life h n) ≡ Some life
        → AllHold Q life (if b then [] else step_events n h s ++ path_events h n)
    by true e f = tt
    by false e f =
        let before : K h = q.goes_back h s p f e k in
        all_on Q life (path_events h n) (step_events n h s) (step_on Q n life K below q h p.1 f before s) (old f before)

pub all_hold : (Q : PathState → PathEvent → Type 0) (n life : ℕ) (K : List Step → Type 0) → n ≤ CHANNEL_MAX → Holds Q n life K → (h : List Step)
    → ArePicks h → path_life h n ≡ Some life → K h → AllHold Q life (path_events h n)
all_hold Q n life K below q [] p l k = tt
all_hold Q n life K below q (s ∷ h) p l k = grown Q n life K below q s h p (all_hold Q n life K below q h p.1) l k

-- ---- they are heard

-- a delivery-id has 32 bits
id_is_short : (ts : List Tree) → id_or 0 (part_in ts).id < 2 ^ 32
id_is_short ts = by (number_in (field ts 1))
  where
    by : (o : Option ℕ) → id_or 0 (option_map (λ (id : ℕ). id % 2 ^ 32) o) < 2 ^ 32
    by None = omega arith
    by (Some id) = mod-lt id (omega arith)

heard_plain : (s : PathState) (x : PathEvent) → IsPlain x → IsHeard s x
heard_plain s (event.Consumed queue tag no_ack no_wait) e = absurd e
heard_plain s (event.Declared queue no_wait) e = absurd e
heard_plain s (event.GetAsked queue no_ack) e = absurd e
heard_plain s (event.TransferCame peer part payload image again) e = absurd e
heard_plain s x e = tt

heard_asked : (s : PathState) (x : PathEvent) → asks x ≡ true → s.deliveries.closed ≡ false → IsHeard s x
heard_asked s (event.Consumed queue tag no_ack no_wait) e f = f
heard_asked s (event.Declared queue no_wait) e f = f
heard_asked s (event.GetAsked queue no_ack) e f = f
heard_asked s x e f = absurd cc

all_heard : (life : ℕ) (es : List PathEvent) → AllHold IsHeard life es → AreHeard life es
all_heard life [] a = tt
all_heard life (x ∷ es) a = (a.0, all_heard life es a.1)

-- the upstream end wasn't lost
abbrev pub is_kept : Side → Bool
is_kept side.Absent = true
is_kept side.Open = true
is_kept side.Ended = false
is_kept side.Failed = false
is_kept side.Gone = false

-- meanwhile the life of a channel that is open isn't closed
abbrev pub OpenGoesOn : Type 0
OpenGoesOn = (h : List Step) (n life : ℕ) → ArePicks h → n ≤ CHANNEL_MAX → path_life h n ≡ Some life → is_kept (side_in h) ≡ true
    → is_open (connection h) n ≡ true → (after_events life (path_events h n)).deliveries.closed ≡ false

-- it is connected once, where none was before
joined_late : (h : List Step) → ArePicks (Joined link.Ok ∷ h) → is_kept (side_in h) ≡ true
joined_late h p = by (side_in h) (and_right (is_opening (before h).conn) _ p.0) (side_is (known h p.1))
  where
    by : (x : Side) → is_absent (before h).up.side ≡ true → (before h).up.side ≡ x → is_kept x ≡ true
    by side.Absent e f = refl
    by side.Open e f = refl
    by side.Ended e f = let is : is_absent (before h).up.side ≡ false = ap is_absent f in absurd (clash (is_absent (before h).up.side) e is)
    by side.Failed e f = let is : is_absent (before h).up.side ≡ false = ap is_absent f in absurd (clash (is_absent (before h).up.side) e is)
    by side.Gone e f = let is : is_absent (before h).up.side ≡ false = ap is_absent f in absurd (clash (is_absent (before h).up.side) e is)

pub kept_before : (h : List Step) (s : Step) → ArePicks (s ∷ h) → is_kept (side_in (s ∷ h)) ≡ true → is_kept (side_in h) ≡ true
kept_before h (Joined link.Ok) p k = joined_late h p
kept_before h (Joined link.Failed) p k = absurd cc
kept_before h (Lost Up loss.Ended) p k = absurd cc
kept_before h (Lost Up loss.Failed) p k = absurd cc
kept_before h (Lost Up loss.Shut) p k = absurd cc
kept_before h s p k = k

pub are_heard : OpenGoesOn → (h : List Step) (n life : ℕ) → ArePicks h → n ≤ CHANNEL_MAX → is_kept (side_in h) ≡ true → path_life h n ≡ Some life
    → AreHeard life (path_events h n)
are_heard open_on h n life p below kept l =
    all_heard life (path_events h n) (all_hold IsHeard n life (λ (g : List Step). is_kept (side_in g) ≡ true) below (record {
      goes_back = λ g s q m e k. kept_before g s q k;
      plain = heard_plain;
      asked = λ g x q m k o a. heard_asked (after_events life (path_events g n)) x a (open_on g n life q below m k o);
      arrives = λ g ts payload q m k e. (id_is_short ts, e);
    }) h p l kept)

-- ---- while their life goes on

abbrev pub ClosedAre : Type 0
ClosedAre = (life : ℕ) (h : List DeliveryEvent) → (deliveries_after life h).closed ≡ is_closed h

open_before : (xs ys : List DeliveryEvent) → is_closed (xs ++ ys) ≡ false → is_closed ys ≡ false
open_before [] ys e = e
open_before (x ∷ xs) ys e = open_before xs ys (right_false (closes x) _ e)

pub events_open : (life : ℕ) (xs ys : List PathEvent) → is_closed (deliveries_of life (xs ++ ys)) ≡ false → is_closed (deliveries_of life ys) ≡ false
events_open life [] ys e = e
events_open life (x ∷ xs) ys e = events_open life xs ys (open_before (delivery_events (after_events life (xs ++ ys)) x) _ e)

-- a life that goes on went on before
pub goes_on_before : (h : List Step) (s : Step) (n life : ℕ) → opens_channel n h s ≡ false → is_closed (deliveries_of life (path_events (s ∷ h) n)) ≡ false
    → is_closed (deliveries_of life (path_events h n)) ≡ false
goes_on_before h s n life e k =
    events_open life (step_events n h s) (path_events h n)
    (subst (λ (b : Bool). is_closed (deliveries_of life (if b then [] else step_events n h s ++ path_events h n)) ≡ false) e k)

pub open_heard : DeliveriesAre → ClosedAre → (h : List Step) (n life : ℕ) → ArePicks h → n ≤ CHANNEL_MAX → path_life h n ≡ Some life
    → is_closed (deliveries_of life (path_events h n)) ≡ false → AreHeard life (path_events h n)
open_heard arrives closed h n life p below l on =
    all_heard life (path_events h n) (all_hold IsHeard n life (λ (g : List Step). is_closed (deliveries_of life (path_events g n)) ≡ false) below (record {
      goes_back = λ g s q m e k. goes_on_before g s n life e k;
      plain = heard_plain;
      asked = λ g x q m k o a. heard_asked (after_events life (path_events g n)) x a
          (ap (λ (d : DeliveryState). d.closed) (arrives life (path_events g n)) ∙ closed life (deliveries_of life (path_events g n)) ∙ k);
      arrives = λ g ts payload q m k e. (id_is_short ts, e);
    }) h p l on)
