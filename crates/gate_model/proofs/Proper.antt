-- What goes to the client of a life was the next that was due, and no link is asked for while a request waits for one.
use Rattle.std.proofs.Common.{◌≡◌, ◌∙◌, ℕ, ◌+◌, ◌==◌, Bool, true, false, if◌then◌else◌, List, [], ◌∷◌, ◌++◌, Option, None, Some, refl, sym, ap, subst, arith}
use Rattle.std.proofs.lemmas.Bool.Decides.{nat_tests}
use Rattle.std.specs.Prelude.{is_some}
use Rattle.machine_091.specs.Refusals as refusals
use Rattle.machine_091.specs.State.{is_closing, is_closing_phase, is_running}
use Rattle.machine_091.specs.Transitions.{unit_step}
use Rattle.machine_091.specs.Transitions as machine
use Rattle.machine_091.specs.declared.state.Connection.{Connection}
use Rattle.machine_091.specs.declared.state.Phase91.{Phase91}
use Rattle.machine_091.specs.declared.state.Phase91.TheVariants as phase
use Rattle.machine_091.specs.declared.unit.Refusal.{Refusal}
use Rattle.machine_091.specs.declared.unit.Unit91.{Unit91}
use Rattle.machine_091.specs.declared.unit.Unit91.TheVariants as unit
use Rattle.machine_091.specs.declared.unit.Want91.TheVariants as want
use Rattle.machine_091.proofs.Asking.{is_method}
use Rattle.machine_091.proofs.StepCases.{IsPassedOn, step_rows}
use Rattle.methods_091.specs.declared.method.Method91.{Method91}
use Rattle.methods_091.specs.declared.method.Method91.TheVariants as method
use Rattle.session_path.specs.Due.{is_get_awaited, is_waiting, next_deliver, next_ok}
use Rattle.session_path.specs.Events as event
use Rattle.session_path.specs.Events.{PathEvent, after_events}
use Rattle.session_path.specs.Path.{PathState}
use Rattle.session_path.specs.declared.path.Awaited.{Awaited}
use Rattle.gate_model.specs.declared.channel.ChannelUnit.{ChannelUnit}
use Rattle.gate_model.specs.declared.channel.ChannelUnit.TheVariants as to_client
use Rattle.gate_model.specs.declared.outgoing.Outgoing.TheVariants.{ToClient, ToUp}
use Rattle.gate_model.specs.declared.reply.Reply.{Reply}
use Rattle.gate_model.specs.declared.reply.Reply.TheVariants as reply
use Rattle.gate_model.specs.declared.setup.Route.{Route}
use Rattle.gate_outside.specs.declared.ports.End.TheVariants.{Client}
use Rattle.gate_model.specs.Folds.{connection, going_in, paths_in, peers, routes_in}
use Rattle.gate_model.specs.Paths.{path_at}
use Rattle.gate_model.specs.Picks.{ArePicks}
use Rattle.gate_model.specs.Publishing.{method_events, opens_channel, path_events, path_life, reply_events, step_events, told_event}
use Rattle.gate_model.specs.Queue.{channel_of}
use Rattle.gate_model.specs.Requests.{client_step, refusal_of_want, refused_by}
use Rattle.gate_model.specs.State.{Came, Gave, Step, Whole, before, is_later, want_in}
use Rattle.gate_model.specs.Takes.{MayTake}
use Rattle.gate_model.proofs.Basics.{left_false}
use Rattle.gate_model.proofs.Connections.{clash}
use Rattle.gate_model.proofs.Fates.{IsNext, is_next, path_of}
use Rattle.gate_model.proofs.Firsts.{OfChannel, goes_as}
use Rattle.gate_model.proofs.Heard.{AllHold, HoldOn, all_on}
use Rattle.gate_model.proofs.Quiet.{OfQuiet, came_on, is_asked_ok, is_quiet, names, quiet_step, up_on, whole_on}
use Rattle.gate_model.proofs.Rests.{LivesBelow}
use Rattle.gate_model.proofs.Takes.{takes_in_turn}

-- ---- a method is one of its unit's channel, on a connection that runs

record IsOwn (c : Connection) (u : Unit91) (x : machine.Step) : Type 0 where
  holds : (n : ℕ) (m : Method91) → x.1 ≡ want.Method n m → (refusals.channel_of u ≡ n) × (is_running c.phase ≡ true)

no_method : (c : Connection) (u : Unit91) (x : machine.Step) → is_method x.1 ≡ false → IsOwn c u x
no_method c u x e = record { holds = λ n m f. absurd (clash (is_method x.1) (ap is_method f) e) }

passes : (c d : Connection) (u : Unit91) (n : ℕ) (m : Method91) → IsPassedOn c u n m → IsOwn c u (d, want.Method n m)
passes c d u n m of = record { holds = λ k j f. let same : n ≡ k = cc in (of.of ∙ same, of.runs) }

own : (c : Connection) (u : Unit91) → IsOwn c u (unit_step c u)
own c u = step_rows (IsOwn c u) c u (record {
  greeted = λ e. no_method c u _ refl;
  foreign = λ e. no_method c u _ refl;
  refused = λ code e ruled. no_method c u _ refl;
  publish_refused = λ code e ruled. no_method c u _ refl;
  channel_refused = λ code on large ruled. no_method c u _ refl;
  nothing = λ idle. no_method c u _ refl;
  login = λ a b e l. no_method c u _ refl;
  tuned = λ channels size heartbeat e l. no_method c u _ refl;
  asked = λ e. no_method c u _ refl;
  closed = λ e. no_method c u _ refl;
  opened = λ n m of. passes c _ u n m of;
  ended = λ n m of. passes c _ u n m of;
  passed_on = λ n m of. passes c _ u n m of;
  begun = λ f k args is. no_method c u _ refl;
  grown = λ f i a is. no_method c u _ refl;
  published = λ f i a d is at_once. no_method c u _ refl;
  freed = λ n of. no_method c u _ refl;
  crossed = λ e. no_method c u _ refl;
  answered = λ e. no_method c u _ refl;
  passed = λ e. no_method c u _ refl;
})

client_own : (rs : List Route) (ps : List (Option PathState)) (c : Connection) (u : Unit91) → IsOwn c u (client_step rs ps c u)
client_own rs ps c u = by (refusal_of_want rs ps (unit_step c u).1) (unit_step c u) (own c u)
  where
    by : (o : Option Refusal) (x : machine.Step) → IsOwn c u x → IsOwn c u (refused_by o x)
    by None x is = is
    by (Some r) x is = no_method c u _ refl

same_channel : (u : Unit91) → refusals.channel_of u ≡ channel_of u
same_channel unit.Protocol = refl
same_channel (unit.Frame f) = refl
same_channel (unit.Bad code) = refl

runs_on : (c : Connection) → is_running c.phase ≡ true → is_closing c ≡ false
runs_on c = by c.phase
  where
    by : (p : Phase91) → is_running p ≡ true → is_closing_phase p ≡ false
    by phase.Running e = refl
    by x e = absurd cc

-- ---- the events of a life

abbrev pub IsProper : PathState → PathEvent → Type 0
IsProper s (event.Owed x) = is_asked_ok x ≡ true
IsProper s (event.Consumed queue tag no_ack no_wait) = s.awaited ≡ None
IsProper s (event.Declared queue no_wait) = s.awaited ≡ None
IsProper s (event.DeliverSent d) = next_deliver s ≡ Some d
IsProper s (event.OkSent x) = next_ok s ≡ Some x
IsProper s x = Unit {0}

quiet_proper : (s : PathState) (x : PathEvent) → is_quiet x ≡ true → IsProper s x
quiet_proper s (event.Owed x) e = e
quiet_proper s (event.Consumed queue tag no_ack no_wait) e = absurd cc
quiet_proper s (event.Declared queue no_wait) e = absurd cc
quiet_proper s (event.DeliverSent d) e = absurd cc
quiet_proper s (event.OkSent x) e = absurd cc
quiet_proper s x e = tt

pub no_request : (s : PathState) → is_waiting s ≡ false → s.awaited ≡ None
no_request s e = by s.awaited (left_false (is_some s.awaited) (is_get_awaited s.deliveries) e)
  where
    by : (o : Option Awaited) → is_some o ≡ false → o ≡ None
    by None f = refl
    by (Some a) f = absurd cc

module _ (below : LivesBelow) (n life : ℕ) (h : List Step) (l : path_life h n ≡ Some life) where
  abbrev es : List PathEvent
  es = path_events h n

  abbrev On : List PathEvent → Type 0
  On xs = HoldOn IsProper life es xs

  still : OfQuiet (λ (b : List PathEvent). IsProper (after_events life b))
  still b x e = quiet_proper (after_events life b) x e

  -- what is taken up comes while no request waits
  pub none_waits : (u : Unit91) (m : Method91) → MayTake h u → want_in (routes_in h) (paths_in h) (connection h) u ≡ want.Method n m → is_waiting (after_events life es) ≡ false
  none_waits u m t is =
      let o = (client_own (routes_in h) (paths_in h) (connection h) u).holds n m is in
      let here : channel_of u ≡ n = sym (same_channel u) ∙ o.0 in
      let none = t.own life (runs_on (connection h) o.1) (ap (path_life h) here ∙ l) in
      subst (λ (k : ℕ). is_waiting (after_events life (path_events h k)) ≡ false) here (none.asks life (ap (path_life h) here ∙ l))

  free : (u : Unit91) (m : Method91) → MayTake h u → want_in (routes_in h) (paths_in h) (connection h) u ≡ want.Method n m → (after_events life es).awaited ≡ None
  free u m t is = no_request (after_events life es) (none_waits u m t is)

  named : (m : Method91) → (after_events life es).awaited ≡ None → names m ≡ true → On (method_events m)
  named (method.BasicConsume queue tag no_local no_ack exclusive no_wait arguments) f e = (f, tt)
  named (method.QueueDeclare queue passive durable exclusive deletes no_wait arguments) f e = (f, tt)
  named (method.BasicGet queue no_ack) f e = (tt, tt)
  named (method.BasicCancel tag no_wait) f e = (tt, tt)
  named m f e = absurd cc

  -- what goes
  module _ (p : ArePicks h) where
    told : (u : Reply) → OfChannel (IsNext (before h)) u → On (reply_events n u)
    told (reply.OnChannel k u) g = by (k == n) refl
      where
        there : path_at (before h).paths n ≡ after_events life es
        there = path_of h n life p (below h n life l) l

        one : (u : ChannelUnit) → IsNext (before h) n u → IsProper (after_events life es) (told_event u)
        one (to_client.Ok x) f = ap next_ok (sym there) ∙ f
        one (to_client.Deliver d) f = ap next_deliver (sym there) ∙ f
        one (to_client.Content c) f = tt
        one (to_client.Confirm c) f = tt
        one (to_client.Return r) f = tt

        by : (b : Bool) → (k == n) ≡ b → On (if b then told_event u ∷ [] else [])
        by true e = let same : k ≡ n = grind (arith, nat_tests, e) in (one u (subst (λ (i : ℕ). IsNext (before h) i u) same g), tt)
        by false e = tt
    told u g = tt

  step_on : (s : Step) → ArePicks (s ∷ h) → On (step_events n h s)
  step_on (Came u) p =
      came_on (λ (b : List PathEvent). IsProper (after_events life b)) n h still u (λ m is. named m (free u m (takes_in_turn below (Came u ∷ h) p).0 is)) (λ address payload back. tt)
  step_on (Gave (ToClient u) text) p = told p.1 u (goes_as (IsNext (before h)) (before h) u is_next p.0.1)
  step_on (Gave (ToUp u) text) p = up_on (λ (b : List PathEvent). IsProper (after_events life b)) n h still (is_later (connection h) u) u (λ j t is. tt)
  step_on (Whole Client) p = whole_on (λ (b : List PathEvent). IsProper (after_events life b)) n h still (going_in h) (λ tag. tt)
  step_on s p = quiet_step (λ (b : List PathEvent). IsProper (after_events life b)) n h still (λ ts payload g. tt) s refl

pub are_proper : LivesBelow → (h : List Step) (n life : ℕ) → ArePicks h → path_life h n ≡ Some life → AllHold IsProper life (path_events h n)
are_proper below [] n life p l = tt
are_proper below (s ∷ h) n life p l = by (opens_channel n h s) l (are_proper below h n life p.1)
  where
    by : (b : Bool) → (if b then Some ((peers h).opened + 1) else path_life h n) ≡ Some life → (path_life h n ≡ Some life → AllHold IsProper life (path_events h n))
        → AllHold IsProper life (if b then [] else step_events n h s ++ path_events h n)
    by true f old = tt
    by false f old = all_on IsProper life (path_events h n) (step_events n h s) (step_on below n life h f s p) (old f)
