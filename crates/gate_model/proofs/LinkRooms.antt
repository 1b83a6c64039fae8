-- By the steps: a sending link that is asked for gets the number of none of the deliveries, until the upstream end is lost.
use Rattle.std.proofs.Common.{◌≡◌, ◌∙◌, ℕ, ◌+◌, ◌==◌, ◌≤◌, Bool, true, false, if◌then◌else◌, List, [], ◌∷◌, ◌++◌, Some, None, refl, ap, subst, arith}
use Rattle.std.proofs.lemmas.Bool.Decides.{nat_tests}
use Rattle.consume_path.specs.Deliveries.{DeliveryState}
use Rattle.consume_path.specs.Links.{link_of}
use Rattle.gate_outside.specs.declared.ports.End.TheVariants.{Client}
use Rattle.machine_091.specs.State.{is_open}
use Rattle.machine_091.specs.declared.limits.TheConstants.{CHANNEL_MAX}
use Rattle.machine_091.specs.declared.unit.Unit91.{Unit91}
use Rattle.machine_091.specs.declared.unit.Want91.{Want91}
use Rattle.machine_091.specs.declared.unit.Want91.TheVariants as want
use Rattle.methods_091.specs.declared.method.Method91.{Method91}
use Rattle.methods_091.specs.declared.method.Method91.TheVariants as method
use Rattle.session_path.specs.Events as event
use Rattle.session_path.specs.Events.{PathEvent, after_events}
use Rattle.session_path.specs.Laws.{AreHeard}
use Rattle.session_path.specs.Links.{free_number}
use Rattle.gate_model.specs.Folds.{connection, going_in, paths_in, peers, ran_out_in, routes_in, side_in}
use Rattle.gate_model.specs.Picks.{ArePicks}
use Rattle.gate_model.specs.Publishing.{method_events, opens_channel, path_events, path_life, step_events, told_event, want_events}
use Rattle.gate_model.specs.State.{Came, Gave, Step, Whole, conn_step, is_later, want_in}
use Rattle.gate_model.specs.declared.channel.ChannelUnit.{ChannelUnit}
use Rattle.gate_model.specs.declared.channel.ChannelUnit.TheVariants as to_client
use Rattle.gate_model.specs.declared.outgoing.Outgoing.TheVariants.{ToClient, ToUp}
use Rattle.gate_model.specs.declared.setup.Route.{Route}
use Rattle.gate_model.proofs.Granting.{DeliveriesAre}
use Rattle.gate_model.proofs.Heard.{AllHold, ClosedAre, HoldOn, all_on, are_heard, is_kept, kept_before}
use Rattle.gate_model.proofs.LinkRoles.{HasRoom}
use Rattle.gate_model.proofs.Quiet.{OfArrivals, OfQuiet, is_quiet, method_on, names, quiet_step, refusal_on, reply_on, up_on, whole_on}
use Rattle.gate_model.proofs.Refusing.{StandsOpen, client_stands}
use Rattle.gate_model.proofs.Settles.{CallsAre, open_goes_on}

-- other events ask for none
quiet_room : (es : List PathEvent) (life : ℕ) (x : PathEvent) → is_quiet x ≡ true → HasRoom (after_events life es) x
quiet_room es life (event.Published address payload back) e = absurd cc
quiet_room es life x e = tt

told_room : (es : List PathEvent) (life : ℕ) (u : ChannelUnit) → HasRoom (after_events life es) (told_event u)
told_room es life (to_client.Ok x) = tt
told_room es life (to_client.Deliver d) = tt
told_room es life (to_client.Content c) = tt
told_room es life (to_client.Confirm c) = tt
told_room es life (to_client.Return r) = tt

module _ (arrives : DeliveriesAre) (closed : ClosedAre) (calls : CallsAre) (n life : ℕ) (below : n ≤ CHANNEL_MAX) where
  module _ (h : List Step) (p : ArePicks h) (l : path_life h n ≡ Some life) (kept : is_kept (side_in h) ≡ true) where
    abbrev es : List PathEvent
    es = path_events h n

    abbrev Q : List PathEvent → PathEvent → Type 0
    Q b x = HasRoom (after_events life b) x

    abbrev On : List PathEvent → Type 0
    On xs = HoldOn HasRoom life es xs

    still : OfQuiet Q
    still b x e = quiet_room b life x e

    arrived : OfArrivals Q n h
    arrived ts payload e = tt

    -- the number is that of a receiving link that might be asked for now
    room : is_open (connection h) n ≡ true → link_of (after_events life es).deliveries.links (free_number (after_events life es).links.links) ≡ None
    room o =
        let goes_on : (after_events life es).deliveries.closed ≡ false = open_goes_on arrives closed h n life p below l kept o in
        let heard : AreHeard life es = are_heard (open_goes_on arrives closed) h n life p below kept l in
        ap (λ (d : DeliveryState). link_of d.links (free_number (after_events life es).links.links)) (arrives life es)
        ∙ (calls life (event.Consumed [] [] false false ∷ es) (goes_on, heard)).0

    named_room : (m : Method91) → names m ≡ true → On (method_events m)
    named_room (method.BasicConsume queue tag no_local no_ack exclusive no_wait arguments) e = (tt, tt)
    named_room (method.BasicGet queue no_ack) e = (tt, tt)
    named_room (method.BasicCancel tag no_wait) e = (tt, tt)
    named_room (method.QueueDeclare queue passive durable exclusive deletes no_wait arguments) e = (tt, tt)
    named_room m e = absurd cc

    want_room : (rs : List Route) (limit : ℕ) (x : Want91) → StandsOpen (connection h) x → On (want_events rs limit n x)
    want_room rs limit (want.Method j m) stands = by (j == n)
      where
        by : (b : Bool) → On (if b then method_events m else [])
        by true = method_on Q n h still m (named_room m)
        by false = tt
    want_room rs limit (want.Publish j m c) stands = by _ _ _ (j == n) refl
      where
        by : (address payload : List ℕ) (back : List (List ℕ)) (b : Bool) → (j == n) ≡ b → On (if b then event.Published address payload back ∷ [] else [])
        by address payload back true e = let same : j ≡ n = grind (arith, nat_tests, e) in (room (subst (λ (k : ℕ). is_open (connection h) k ≡ true) same stands), tt)
        by address payload back false e = tt
    want_room rs limit want.Close stands = (tt, tt)
    want_room rs limit (want.Refuse r) stands = refusal_on Q n h still r
    want_room rs limit x stands = tt

    came_room : (u : Unit91) → On (step_events n h (Came u))
    came_room u = by (ran_out_in h)
      where
        x : Want91
        x = want_in (routes_in h) (paths_in h) (connection h) u

        limit : ℕ
        limit = (conn_step (routes_in h) (paths_in h) (connection h) u).limits.frame_max

        by : (b : Bool) → On (if b then [] else want_events (routes_in h) limit n x)
        by true = tt
        by false = want_room (routes_in h) limit x (client_stands (routes_in h) (paths_in h) (connection h) u)

    step_room : (s : Step) → On (step_events n h s)
    step_room (Came u) = came_room u
    step_room (Gave (ToClient u) text) = reply_on Q n h still u (told_room es life)
    step_room (Gave (ToUp u) text) = up_on Q n h still (is_later (connection h) u) u (λ j t is. tt)
    step_room (Whole Client) = whole_on Q n h still (going_in h) (λ tag. tt)
    step_room s = quiet_step Q n h still arrived s refl

  pub have_room : (h : List Step) → ArePicks h → path_life h n ≡ Some life → is_kept (side_in h) ≡ true → AllHold HasRoom life (path_events h n)
  have_room [] p l kept = tt
  have_room (s ∷ h) p l kept = by (opens_channel n h s) l (λ f. have_room h p.1 f (kept_before h s p kept))
    where
      by : (b : Bool) → (if b then Some ((peers h).opened + 1) else path_life h n) ≡ Some life → (path_life h n ≡ Some life → AllHold HasRoom life (path_events h n))
          → AllHold HasRoom life (if b then [] else step_events n h s ++ path_events h n)
      by true f old = tt
      by false f old = all_on HasRoom life (path_events h n) (step_events n h s) (step_room h p.1 f (kept_before h s p kept) s) (old f)
