-- The answers of a channel met the first of what its requests wish for.
use Rattle.std.proofs.Common.{◌≡◌, ◌∙◌, ℕ, ◌+◌, ◌==◌, Bool, true, false, if◌then◌else◌, List, [], ◌∷◌, ◌++◌}
use Rattle.std.proofs.Common.{Option, Some, refl, sym, ap, subst, append_assoc, append-nil}
use Rattle.std.specs.List.{AllByRecursion}
use Rattle.consume_path.specs.Deliveries as on
use Rattle.consume_path.specs.Deliveries.{DeliveryState}
use Rattle.consume_path.specs.declared.delivery.Settle.TheVariants.{Released}
use Rattle.machine_091.specs.declared.unit.Unit91.{Unit91}
use Rattle.machine_091.specs.declared.unit.Want91.{Want91}
use Rattle.machine_091.specs.declared.unit.Want91.TheVariants as want
use Rattle.methods_091.specs.declared.method.Method91.{Method91}
use Rattle.methods_091.specs.declared.method.Method91.TheVariants as method
use Rattle.session_path.specs.Due.{is_waiting, next_name}
use Rattle.session_path.specs.Events as event
use Rattle.session_path.specs.Events.{PathEvent, after_events, deliveries_of}
use Rattle.session_path.specs.Path.{PathState, answer_came, closes_at}
use Rattle.session_path.specs.declared.path.PathOk.{PathOk}
use Rattle.session_path.specs.declared.path.PathOk.TheVariants as ok
use Rattle.session_path.proofs.Ties.{eq_of}
use Rattle.gate_outside.specs.declared.ports.End.TheVariants.{Client}
use Rattle.gate_model.specs.Due.{carries_back, carries_ok}
use Rattle.gate_model.specs.Folds.{connection, going_in, paths_in, peers, ran_out_in, routes_in}
use Rattle.gate_model.specs.Lives.{is_of_channel}
use Rattle.gate_model.specs.Picks.{ArePicks}
use Rattle.gate_model.specs.Publishing.{method_events, opens_channel, owed_unless, path_events, path_life, reply_events, step_events, told_event, want_events, wrote_event, wrote_events}
use Rattle.gate_model.specs.State.{Came, Gave, Step, Whole, before, conn_step, want_in}
use Rattle.gate_model.specs.Wishes.{AreMet, MeetsWishes, Wish, met_by, met_in, met_on, wish_of}
use Rattle.gate_model.specs.declared.channel.ChannelUnit.{ChannelUnit}
use Rattle.gate_model.specs.declared.channel.ChannelUnit.TheVariants as to_client
use Rattle.gate_model.specs.declared.outgoing.Outgoing.TheVariants.{ToClient}
use Rattle.gate_model.specs.declared.reply.Reply.{Reply}
use Rattle.gate_model.specs.declared.reply.Reply.TheVariants as reply
use Rattle.gate_model.specs.declared.setup.Route.{Route}
use Rattle.gate_model.proofs.Fates.{path_of}
use Rattle.gate_model.proofs.Granting.{DeliveriesAre}
use Rattle.gate_model.proofs.Heard.{ClosedAre, open_heard}
use Rattle.gate_model.proofs.Proper.{are_proper, none_waits}
use Rattle.gate_model.proofs.Quiet.{is_apart, is_told, step_all}
use Rattle.gate_model.proofs.Receivers.{LinksAre}
use Rattle.gate_model.proofs.Rests.{LivesBelow}
use Rattle.gate_model.proofs.Settles.{CallsAre}
use Rattle.gate_model.proofs.Sources.{QueuesAre}
use Rattle.gate_model.proofs.Takes.{takes_in_turn}
use Rattle.gate_model.proofs.WaitingGets.{same_event}
use Rattle.gate_model.proofs.Walks.{behind_steps, is_free}
use Rattle.gate_model.proofs.Wishing.{Fit, IsOpen, MayStand, Rests, Stands, frees, grows, met_of, none_yet, owed, rests, shut, told}

-- ---- a client's unit is taken up

module _ (deliveries : DeliveriesAre) (closed : ClosedAre) (calls : CallsAre) (queues : QueuesAre) (tied : LinksAre) (life : ℕ) where
  abbrev May : List PathEvent → Type 0
  May es = MayStand life es

  grow : (x : PathEvent) (es : List PathEvent) → (IsOpen life es → Fit (after_events life es) x) → May es → May (x ∷ es)
  grow = grows deliveries closed calls queues tied life

  free : (x : PathEvent) (es : List PathEvent) → is_free x ≡ true → May es → May (x ∷ es)
  free = frees deliveries closed calls queues tied life

  -- while the life goes on
  rests_now : (es : List PathEvent) → is_waiting (after_events life es) ≡ false → IsOpen life es → Rests (after_events life es)
  rests_now es e o = rests (after_events life es) e (ap (λ (d : DeliveryState). d.closed) (deliveries life es) ∙ closed life (deliveries_of life es) ∙ o)

  module _ (es : List PathEvent) (old : May es) where
    asked_now : (x : PathEvent) → (Rests (after_events life es) → Fit (after_events life es) x) → is_waiting (after_events life es) ≡ false → May (x ∷ es)
    asked_now x fit e = grow x es (λ o. fit (rests_now es e o)) old

    owed_if : (b : Bool) (y : PathOk) → is_waiting (after_events life es) ≡ false → May (owed_unless b (event.Owed y) ++ es)
    owed_if true y e = old
    owed_if false y e = asked_now (event.Owed y) (λ r. r) e

    recovers : is_waiting (after_events life es) ≡ false → May (event.Owed ok.Recover ∷ event.AnswerCame 0 true Released ∷ es)
    recovers e =
        grow (event.Owed ok.Recover) (event.AnswerCame 0 true Released ∷ es)
        (λ o. again (rests_now es e o))
        (free (event.AnswerCame 0 true Released) es refl old)
      where
        again : Rests (after_events life es) → Rests (answer_came 0 true Released (after_events life es))
        again r = record { awaited = r.awaited; gets = λ k. (same_event (on.Answered 0 true Released) (after_events life es).deliveries refl).waits k ∙ r.gets k }

    method_stands : (m : Method91) → is_waiting (after_events life es) ≡ false → May (method_events m ++ es)
    method_stands (method.ChannelFlow active) e = asked_now (event.Owed ok.Flow) (λ r. r) e
    method_stands (method.ExchangeDeclare name kind passive durable deletes internal no_wait arguments) e = owed_if no_wait ok.Declare e
    method_stands (method.ConfirmSelect no_wait) e = selects no_wait
      where
        selected : May (event.Selected ∷ es)
        selected = free event.Selected es refl old

        selects : (b : Bool) → May ((owed_unless b (event.Owed ok.Select) ++ event.Selected ∷ []) ++ es)
        selects true = selected
        selects false =
            grow (event.Owed ok.Select) (event.Selected ∷ es)
            (λ o. again (rests_now es e o)) selected
          where
            again : Rests (after_events life es) → Rests (after_events life (event.Selected ∷ es))
            again r = record { awaited = r.awaited; gets = r.gets }
    method_stands (method.BasicConsume queue tag no_local no_ack exclusive no_wait arguments) e = asked_now (event.Consumed queue tag no_ack no_wait) (λ r. r) e
    method_stands (method.QueueDeclare queue passive durable exclusive deletes no_wait arguments) e = asked_now (event.Declared queue no_wait) (λ r. r) e
    method_stands (method.BasicGet queue no_ack) e = asked_now (event.GetAsked queue no_ack) (λ r. r) e
    method_stands (method.BasicCancel tag no_wait) e = asked_now (event.CancelCame tag no_wait) (λ r. r) e
    method_stands (method.BasicQos size count global) e = asked_now (event.Owed (ok.Qos count global)) (λ r. r) e
    method_stands (method.BasicAck tag multiple) e = free (event.AnswerCame _ _ _) es refl old
    method_stands (method.BasicReject tag requeue) e = free (event.AnswerCame _ _ _) es refl old
    method_stands (method.BasicNack tag multiple requeue) e = free (event.AnswerCame _ _ _) es refl old
    method_stands (method.BasicRecover requeue) e = recovers e
    method_stands (method.BasicRecoverAsync requeue) e = free (event.AnswerCame _ _ _) es refl old
    method_stands (method.ChannelClose code text class id) e = free event.LifeClosed es refl old
    method_stands m e = old

  want_stands : (es : List PathEvent) → May es → (rs : List Route) (limit n : ℕ) (x : Want91)
      → ((m : Method91) → x ≡ want.Method n m → is_waiting (after_events life es) ≡ false) → May (want_events rs limit n x ++ es)
  want_stands es old rs limit n (want.Method k m) waits = by (k == n) refl
    where
      by : (b : Bool) → (k == n) ≡ b → May ((if b then method_events m else []) ++ es)
      by true e = method_stands es old m (waits m (ap (λ (i : ℕ). want.Method i m) (eq_of k n e)))
      by false e = old
  want_stands es old rs limit n (want.Publish k m c) waits = by (k == n) _ _ _
    where
      by : (b : Bool) (address payload : List ℕ) (back : List (List ℕ)) → May ((if b then event.Published address payload back ∷ [] else []) ++ es)
      by true address payload back = free (event.Published address payload back) es refl old
      by false address payload back = old
  want_stands es old rs limit n want.Close waits = free event.LifeClosed es refl old
  want_stands es old rs limit n (want.Refuse r) waits = by (is_of_channel r) (r.channel == n)
    where
      by : (b c : Bool) → May ((if b then (if c then event.LifeClosed ∷ [] else []) else event.LifeClosed ∷ []) ++ es)
      by true true = free event.LifeClosed es refl old
      by true false = old
      by false c = free event.LifeClosed es refl old
  want_stands es old rs limit n x waits = old

  -- ---- behind each step

  module _ (below : LivesBelow) where
    came : (n : ℕ) (h : List Step) (u : Unit91) → ArePicks (Came u ∷ h) → path_life h n ≡ Some life → May (path_events h n)
        → May (step_events n h (Came u) ++ path_events h n)
    came n h u p l old = by (ran_out_in h)
      where
        wants : List PathEvent
        wants = want_events (routes_in h) (conn_step (routes_in h) (paths_in h) (connection h) u).limits.frame_max n (want_in (routes_in h) (paths_in h) (connection h) u)

        by : (b : Bool) → May ((if b then [] else wants) ++ path_events h n)
        by true = old
        by false =
            want_stands (path_events h n) old (routes_in h) (conn_step (routes_in h) (paths_in h) (connection h) u).limits.frame_max n
            (want_in (routes_in h) (paths_in h) (connection h) u) (λ m is. none_waits below n life h l u m (takes_in_turn below (Came u ∷ h) p).0 is)

    detaches : (peer : ℕ) (not_found : Bool) (es : List PathEvent) → closes_at peer (after_events life es) ≡ false → May es → May (event.DetachCame peer not_found ∷ es)
    detaches peer not_found es e old = grow (event.DetachCame peer not_found) es (λ o. e) old

    stands : (h : List Step) (n : ℕ) → ArePicks h → path_life h n ≡ Some life → IsOpen life (path_events h n) → Stands life (path_events h n)
    stands h n p l open_yet =
        behind_steps life May (shut life) free detaches n (below h n life l) (none_yet life) (came n) h p l
        (open_heard deliveries closed h n life p (below h n life l) l open_yet) (are_proper below h n life p l) open_yet

-- ---- what went is what was met

silent : (life : ℕ) (xs es : List PathEvent) → AllByRecursion (λ (x : PathEvent). (s : PathState) → told s x ≡ []) xs → met_of life (xs ++ es) ≡ met_of life es
silent life [] es a = refl
silent life (x ∷ xs) es a = ap (λ (ws : List Wish). met_of life (xs ++ es) ++ ws) (a.0 (after_events life (xs ++ es))) ∙ append-nil (met_of life (xs ++ es)) ∙ silent life xs es a.1

told_none : (x : PathEvent) → is_told x ≡ false → (s : PathState) → told s x ≡ []
told_none (event.OkSent y) e s = absurd cc
told_none (event.DeliverSent d) e s = absurd cc
told_none x e s = refl

wrote_none : (n : ℕ) (o : Option Reply) → AllByRecursion (λ (x : PathEvent). (s : PathState) → told s x ≡ []) (wrote_events n o)
wrote_none n (Some (reply.OnChannel k u)) = by (k == n)
  where
    one : (u : ChannelUnit) → AllByRecursion (λ (x : PathEvent). (s : PathState) → told s x ≡ []) (wrote_event u)
    one (to_client.Content c) = at c.last
      where
        at : (b : Bool) → AllByRecursion (λ (x : PathEvent). (s : PathState) → told s x ≡ []) (if b then event.ContentWhole c.tag ∷ [] else [])
        at true = (λ s. refl, tt)
        at false = tt
    one u = tt

    by : (b : Bool) → AllByRecursion (λ (x : PathEvent). (s : PathState) → told s x ≡ []) (if b then wrote_event u else [])
    by true = one u
    by false = tt
wrote_none n o = tt

-- an answer carries the name that it gives back
text_is : (s : PathState) (x : PathOk) → wish_of x (carries_ok s x) ≡ wish_of x (next_name s)
text_is s (ok.Consume k) = refl
text_is s ok.Cancel = refl
text_is s ok.Queue = refl
text_is s x = refl

module _ (below : LivesBelow) where
  gave : (h : List Step) (n life : ℕ) (u : Reply) (text : List ℕ) → ArePicks h → path_life h n ≡ Some life → text ≡ carries_back (before h) u → met_in n h ≡ met_of life (path_events h n)
      → met_in n h ++ met_on n u text ≡ met_of life (reply_events n u ++ path_events h n)
  gave h n life (reply.OnChannel k u) text p l e old = by (k == n) refl
    where
      s : PathState
      s = after_events life (path_events h n)

      one : (u : ChannelUnit) → text ≡ carries_back (before h) (reply.OnChannel n u) → met_by u text ≡ told s (told_event u)
      one (to_client.Ok x) f =
          ap (λ (ws : Wish). ws ∷ []) (ap (wish_of x) (f ∙ ap (λ (t : PathState). carries_ok t x) (path_of h n life p (below h n life l) l)) ∙ text_is s x)
      one (to_client.Deliver d) f = refl
      one (to_client.Content c) f = refl
      one (to_client.Confirm c) f = refl
      one (to_client.Return r) f = refl

      by : (b : Bool) → (k == n) ≡ b → met_in n h ++ (if b then met_by u text else []) ≡ met_of life ((if b then told_event u ∷ [] else []) ++ path_events h n)
      by true i =
          ap (λ (ws : List Wish). ws ++ met_by u text) old
          ∙ ap (λ (ws : List Wish). met_of life (path_events h n) ++ ws) (one u (subst (λ (j : ℕ). text ≡ carries_back (before h) (reply.OnChannel j u)) (eq_of k n i) e))
      by false i = append-nil (met_in n h) ∙ old
  gave h n life u text p l e old = append-nil (met_in n h) ∙ old

  quietly : (h : List Step) (n life : ℕ) (s : Step) → is_apart s ≡ false → path_life (s ∷ h) n ≡ Some life → (path_life h n ≡ Some life → met_in n h ≡ met_of life (path_events h n))
      → (if opens_channel n h s then [] else met_in n h) ≡ met_of life (path_events (s ∷ h) n)
  quietly h n life s apart l old = by (opens_channel n h s) l
    where
      by : (b : Bool) → (if b then Some ((peers h).opened + 1) else path_life h n) ≡ Some life
          → (if b then [] else met_in n h) ≡ met_of life (if b then [] else step_events n h s ++ path_events h n)
      by true e = refl
      by false e = old e ∙ sym (silent life (step_events n h s) (path_events h n) (step_all (λ (x : PathEvent). (t : PathState) → told t x ≡ []) told_none n h s apart))

  met_is : (h : List Step) (n life : ℕ) → ArePicks h → path_life h n ≡ Some life → met_in n h ≡ met_of life (path_events h n)
  met_is [] n life p l = refl
  met_is (Gave (ToClient u) text ∷ h) n life p l = gave h n life u text p.1 l p.0.2 (met_is h n life p.1 l)
  met_is (Whole Client ∷ h) n life p l = met_is h n life p.1 l ∙ sym (silent life (wrote_events n (going_in h)) (path_events h n) (wrote_none n (going_in h)))
  met_is (s ∷ h) n life p l = quietly h n life s refl l (met_is h n life p.1)

-- ---- the law

module _ (deliveries : DeliveriesAre) (closed : ClosedAre) (calls : CallsAre) (queues : QueuesAre) (tied : LinksAre) (below : LivesBelow) where
  are_met : (h : List Step) → ArePicks h → AreMet h
  are_met h p n life l open_yet =
      let s = stands deliveries closed calls queues tied life below h n p l open_yet in
      let due_now : List Wish = owed (after_events life (path_events h n)) in (
        due_now ++ s.wait,
        ap (λ (ws : List Wish). ws ++ (due_now ++ s.wait)) (met_is below h n life p l) ∙ sym (append_assoc (met_of life (path_events h n)) due_now s.wait) ∙ s.is,
      )

  pub meets_wishes : (h : List Step) → ArePicks h → MeetsWishes h
  meets_wishes [] p = tt
  meets_wishes (s ∷ h) p = (are_met (s ∷ h) p, meets_wishes h p.1)
