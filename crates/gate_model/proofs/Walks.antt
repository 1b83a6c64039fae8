-- What no event of a life takes away holds behind each step; a client's requests, and a detach that closes no channel, are told apart.
use Rattle.std.proofs.Common.{◌≡◌, ℕ, ◌+◌, ◌==◌, ◌≤◌, not, ◌&&◌, Bool, true, false, if◌then◌else◌, List, [], ◌∷◌, ◌++◌, Option, None, Some}
use Rattle.std.proofs.Common.{option_map, refl, sym, ap, ◌∙◌, subst, arith, is_some}
use Rattle.std.proofs.lemmas.Bool.Decides.{nat_tests}
use Rattle.std.specs.List.{AllByRecursion}
use Rattle.close_translate.specs.declared.conditions.Scope.{Scope}
use Rattle.close_translate.specs.declared.conditions.Scope.TheVariants as scope
use Rattle.consume_path.specs.Deliveries.{DeliveryEvent}
use Rattle.consume_path.specs.Journal.{closes, is_closed}
use Rattle.consume_path.specs.declared.receiving.TransferFault.{TransferFault}
use Rattle.gate_outside.specs.declared.ports.End.TheVariants.{Client, Up}
use Rattle.gate_outside.specs.declared.ports.Linked.TheVariants as link
use Rattle.gate_relay.specs.declared.loss.Loss.TheVariants as loss
use Rattle.machine_091.specs.State.{is_open}
use Rattle.machine_091.specs.declared.limits.TheConstants.{CHANNEL_MAX}
use Rattle.machine_091.specs.declared.state.Connection.{Connection}
use Rattle.machine_091.specs.declared.unit.Unit91.{Unit91}
use Rattle.machine_10.specs.Parts.{Parts}
use Rattle.machine_10.specs.Reading.{field, number_at}
use Rattle.machine_10.specs.Transitions as ten
use Rattle.machine_10.specs.Transitions.{Meaning}
use Rattle.session_path.specs.Events as event
use Rattle.session_path.specs.Events.{PathEvent, after_events, deliveries_of, delivery_events}
use Rattle.session_path.specs.Path.{PathState, closes_at}
use Rattle.types_10.specs.Tree.{Tree}
use Rattle.gate_model.specs.Folds.{connection, container, going_in, leaving_in, paths_in, peers, ran_out_in, scope_in}
use Rattle.gate_model.specs.Paths.{fault_in, is_not_found, is_outcome, name_in, or_no_path, part_in, path_at, text_of}
use Rattle.gate_model.specs.Picks.{ArePicks}
use Rattle.gate_model.specs.Publishing.{arrival_event, attach_events, closed_if, closing, ending, failing, fine_events, given_event, heard_events, losing, losing_up, meaning_events}
use Rattle.gate_model.specs.Publishing.{opens_channel, path_events, path_life, reply_events, session_events, step_events, told_event, transfer_event, up_events, wrote_event, wrote_events}
use Rattle.gate_model.specs.Session.{is_of_session}
use Rattle.gate_model.specs.State.{Began, Came, Fed, Gave, Heard, Joined, LinesTold, Lost, Moment, OutOfMemory, Queued, Silent, Step, TakenUp, Whole, closing_code, is_later}
use Rattle.gate_model.specs.Upstream.{condition_in, meaning_by}
use Rattle.gate_model.specs.declared.channel.ChannelUnit.{ChannelUnit}
use Rattle.gate_model.specs.declared.channel.ChannelUnit.TheVariants as to_client
use Rattle.gate_model.specs.declared.channel.SessionUnit.{SessionUnit}
use Rattle.gate_model.specs.declared.channel.SessionUnit.TheVariants as unit
use Rattle.gate_model.specs.declared.outgoing.Outgoing.TheVariants.{ToClient, ToUp}
use Rattle.gate_model.specs.declared.outgoing.UpUnit.{UpUnit}
use Rattle.gate_model.specs.declared.outgoing.UpUnit.TheVariants as up
use Rattle.gate_model.specs.declared.reply.Reply.{Reply}
use Rattle.gate_model.specs.declared.reply.Reply.TheVariants as reply
use Rattle.gate_model.proofs.Basics.{or_right}
use Rattle.gate_model.proofs.Closed.{closed_path_is}
use Rattle.gate_model.proofs.Publishing.{tells}

-- ---- events that no client asks for, by which no link is to part

abbrev pub is_free : PathEvent → Bool
is_free (event.Owed x) = false
is_free (event.Consumed queue tag no_ack no_wait) = false
is_free (event.CancelCame tag no_wait) = false
is_free (event.Declared queue no_wait) = false
is_free (event.GetAsked queue no_ack) = false
is_free (event.DetachCame peer not_found) = false
is_free (event.LinkFailed peer fault) = false
is_free x = true

abbrev AreFree : List PathEvent → Type 0
AreFree xs = AllByRecursion (λ x. is_free x ≡ true) xs

if_free : (b : Bool) (xs ys : List PathEvent) → AreFree xs → AreFree ys → AreFree (if b then xs else ys)
if_free true xs ys p q = p
if_free false xs ys p q = q

closed_free : (b : Bool) → AreFree (closed_if b)
closed_free true = (refl, tt)
closed_free false = tt

ending_free : (c : Connection) (j : ℕ) → AreFree (ending c j)
ending_free c j = by (is_open c j)
  where
    by : (b : Bool) → AreFree (closed_if b ++ event.SessionLost ∷ [])
    by true = (refl, (refl, tt))
    by false = (refl, tt)

told_free : (u : ChannelUnit) → is_free (told_event u) ≡ true
told_free (to_client.Ok x) = refl
told_free x = refl

reply_free : (n : ℕ) (u : Reply) → AreFree (reply_events n u)
reply_free n (reply.OnChannel k u) = if_free (k == n) _ _ (told_free u, tt) tt
reply_free n u = tt

wrote_free : (n : ℕ) (o : Option Reply) → AreFree (wrote_events n o)
wrote_free n (Some (reply.OnChannel k u)) = if_free (k == n) _ _ (one u) tt
  where
    one : (u : ChannelUnit) → AreFree (wrote_event u)
    one (to_client.Content c) = if_free c.last _ _ (refl, tt) tt
    one u = tt
wrote_free n o = tt

given_free : (u : SessionUnit) → is_free (given_event u) ≡ true
given_free (unit.Attach a) = refl
given_free x = refl

up_free : (later : Bool) (n : ℕ) (u : UpUnit) → AreFree (up_events later n u)
up_free later n (up.OnSession k u) = if_free (k == n) _ _ (given_free u, tt) tt
up_free later n (up.End k why) = if_free (not later && k == n) _ _ (refl, (refl, tt)) (refl, tt)
up_free later n u = tt

attach_free : (o : Option ℕ) (ts : List Tree) → AreFree (attach_events o ts)
attach_free None ts = tt
attach_free (Some name) ts = (refl, tt)

-- ---- a life that is closed

closed_more : (xs ys : List DeliveryEvent) → is_closed ys ≡ true → is_closed (xs ++ ys) ≡ true
closed_more [] ys e = e
closed_more (x ∷ xs) ys e = or_right (closes x) _ (closed_more xs ys e)

pub closed_since : (life : ℕ) (xs es : List PathEvent) → is_closed (deliveries_of life es) ≡ true → is_closed (deliveries_of life (xs ++ es)) ≡ true
closed_since life [] es e = e
closed_since life (x ∷ xs) es e = closed_more (delivery_events (after_events life (xs ++ es)) x) (deliveries_of life (xs ++ es)) (closed_since life xs es e)

-- ---- steps

module _ (life : ℕ) (J : List PathEvent → Type 0) (shut : (es : List PathEvent) → is_closed (deliveries_of life es) ≡ true → J es)
    (free : (x : PathEvent) (es : List PathEvent) → is_free x ≡ true → J es → J (x ∷ es))
    (detach : (peer : ℕ) (not_found : Bool) (es : List PathEvent) → closes_at peer (after_events life es) ≡ false → J es → J (event.DetachCame peer not_found ∷ es)) where
  all_free : (xs es : List PathEvent) → AreFree xs → J es → J (xs ++ es)
  all_free [] es p j = j
  all_free (x ∷ xs) es p j = free x (xs ++ es) p.0 (all_free xs es p.1 j)

  -- what the container sends
  module _ (es : List PathEvent) (j : J es) where
    abbrev s : PathState
    s = after_events life es

    abbrev Now : List PathEvent → Type 0
    Now xs = J (xs ++ es)

    if_now : (b : Bool) (xs ys : List PathEvent) → (b ≡ true → Now xs) → Now ys → Now (if b then xs else ys)
    if_now true xs ys p q = p refl
    if_now false xs ys p q = q

    transferred : (o : Option TransferFault) (limit n : ℕ) (ts : List Tree) (payload : List ℕ) → o ≡ None
        → Now (transfer_event o limit n (number_at ts 0) (part_in ts) payload s ∷ [])
    transferred None limit n ts payload e = free (arrival_event limit n (number_at ts 0) (part_in ts) payload s) es refl j
    transferred (Some fault) limit n ts payload e = absurd cc

    heard : (limit n : ℕ) (q : Parts) (payload : List ℕ) → ((q.0 == 22) ≡ true → closes_at (number_at q.1 0) s ≡ false)
        → ((q.0 == 20) ≡ true → fault_in q.1 payload s ≡ None) → Now (heard_events limit n q payload s)
    heard limit n q payload detaches transfer =
        if_now (q.0 == 17) _ _ (λ e. free (event.Began (number_at q.1 4)) es refl j)
        (if_now (q.0 == 18) _ _ (λ e. all_free _ es (attach_free (name_in (text_of (field q.1 0))) q.1) j)
        (if_now (q.0 == 19 && not (is_of_session q.1)) _ _ (λ e. free (event.FlowCame _ _ _ _ _) es refl j)
        (if_now (q.0 == 20) _ _ (λ e. transferred (fault_in q.1 payload s) limit n q.1 payload (transfer e))
        (if_now (q.0 == 21) _ _ (λ e. all_free _ es (if_free (is_outcome q.1) (event.DispositionCame _ _ _ _ ∷ []) [] (refl, tt) tt) j)
        (if_now (q.0 == 22) _ _ (λ e. detach (number_at q.1 0) (is_not_found (condition_in (field q.1 2))) es (detaches e) j)
        (all_free _ es (if_free (q.0 == 23) (event.SessionLost ∷ []) [] (refl, tt) tt) j))))))

    fine : (c : Connection) (n : ℕ) (q : Parts) (payload : List ℕ) → (is_open c n ≡ false → is_closed (deliveries_of life es) ≡ true)
        → Now (fine_events c n q payload s)
    fine c n q payload ends = by (q.0 == 17) refl (closing_code q payload s) refl
      where
        xs : List PathEvent
        xs = heard_events c.limits.frame_max n q payload s

        -- it closes the channel, or that is closed
        closes_it : (code : ℕ) → Now (closing (Some code) c n ++ xs)
        closes_it code = at (is_open c n) refl
          where
            at : (b : Bool) → is_open c n ≡ b → Now (closed_if b ++ xs)
            at true e = shut (event.LifeClosed ∷ xs ++ es) refl
            at false e = shut (xs ++ es) (closed_since life xs es (ends e))

        no_detach : (a b c : Bool) (x y z : ℕ) → (if a then Some x else if b then Some y else if c then Some z else None) ≡ None → b ≡ false
        no_detach true b c x y z e = absurd cc
        no_detach false true c x y z e = absurd cc
        no_detach false false c x y z e = refl

        no_fault : (a b c : Bool) (x y z : ℕ) → (if a then Some x else if b then Some y else if c then Some z else None) ≡ None → c ≡ false
        no_fault true b c x y z e = absurd cc
        no_fault false true c x y z e = absurd cc
        no_fault false false true x y z e = absurd cc
        no_fault false false false x y z e = refl

        rest : (a b : Bool) → (a && b) ≡ false → a ≡ true → b ≡ false
        rest true b e f = e
        rest false b e f = absurd cc

        none : (o : Option TransferFault) → is_some o ≡ false → o ≡ None
        none None e = refl
        none (Some x) e = absurd cc

        goes_on : closing_code q payload s ≡ None → Now xs
        goes_on e =
            let closes : Bool = closes_at (number_at q.1 0) s in
            let fault : Option TransferFault = fault_in q.1 payload s in
            heard c.limits.frame_max n q payload
            (rest (q.0 == 22) closes (no_detach (q.0 == 23) ((q.0 == 22) && closes) ((q.0 == 20) && is_some fault) _ _ _ e))
            (λ f. none fault (rest (q.0 == 20) (is_some fault) (no_fault (q.0 == 23) ((q.0 == 22) && closes) ((q.0 == 20) && is_some fault) _ _ _ e) f))

        by : (a : Bool) → (q.0 == 17) ≡ a → (code : Option ℕ) → closing_code q payload s ≡ code → Now ((if a then [] else closing code c n) ++ xs)
        by true e code f =
            heard c.limits.frame_max n q payload (λ g. absurd (grind (arith, nat_tests, e, g))) (λ g. absurd (grind (arith, nat_tests, e, g)))
        by false e None f = goes_on f
        by false e (Some code) f = closes_it code

  module _ (n : ℕ) (below : n ≤ CHANNEL_MAX) where
    module _ (h : List Step) (p : ArePicks h) (l : path_life h n ≡ Some life) (j : J (path_events h n)) where
      abbrev es : List PathEvent
      es = path_events h n

      abbrev On : List PathEvent → Type 0
      On xs = J (xs ++ es)

      quiet : (xs : List PathEvent) → AreFree xs → On xs
      quiet xs a = all_free xs es a j

      session_on : (o : Option Scope) (i : ℕ) (q : Parts) (payload : List ℕ) (t : PathState) → (i ≡ n → t ≡ after_events life es)
          → On (session_events (connection h) o n i q payload t)
      session_on None i q payload t same = by (i == n) refl
        where
          by : (b : Bool) → (i == n) ≡ b → On (if b then fine_events (connection h) i q payload t else [])
          by true e =
              let here : i ≡ n = grind (arith, nat_tests, e) in
              subst (λ (i : ℕ). On (fine_events (connection h) i q payload t)) (sym here)
              (subst (λ (z : PathState). On (fine_events (connection h) n q payload z)) (sym (same here))
              (fine es j (connection h) n q payload (closed_path_is h n life p below l)))
          by false e = j
      session_on (Some scope.Connection) i q payload t same = quiet failing (refl, tt)
      session_on (Some scope.Channel) i q payload t same = quiet _ (if_free (i == n) _ _ (ending_free (connection h) i) tt)

      there : path_at (paths_in h) n ≡ after_events life es
      there = ap or_no_path ((tells n h p).slot below) ∙ ap (λ (o : Option ℕ). or_no_path (option_map (λ (j : ℕ). after_events j es) o)) l

      meaning_on : (m : Meaning) → On (meaning_events (peers h) n m)
      meaning_on (ten.OfSession i q payload) =
          session_on (scope_in (peers h) i q payload) i q payload (path_at (paths_in h) i) (λ e. ap (path_at (paths_in h)) e ∙ there)
      meaning_on (ten.Closed e) = quiet failing (refl, tt)
      meaning_on ten.Refused = quiet failing (refl, tt)
      meaning_on (ten.Violation why) = quiet failing (refl, tt)
      meaning_on x = j

      heard_on : (b : Bool) (m : Meaning) → On (if b then [] else meaning_events (peers h) n m)
      heard_on true m = j
      heard_on false m = meaning_on m

      step_on : (x : Step) → ((u : Unit91) → x ≡ Came u → On (step_events n h (Came u))) → On (step_events n h x)
      step_on (Began site number ms) came = j
      step_on (Moment ms) came = quiet (event.LinesWent ∷ []) (refl, tt)
      step_on (Fed end) came = quiet (event.LinesWent ∷ []) (refl, tt)
      step_on (Silent Client) came = quiet (event.LifeClosed ∷ []) (refl, tt)
      step_on (Silent Up) came = quiet failing (refl, tt)
      step_on (Queued u) came = j
      step_on (Came u) came = came u refl
      step_on TakenUp came = quiet _ (closed_free (not (ran_out_in h) && leaving_in h))
      step_on (Heard u) came = heard_on (ran_out_in h) (meaning_by (container h) u)
      step_on (Joined link.Ok) came = quiet (event.LinesWent ∷ []) (refl, tt)
      step_on (Joined link.Failed) came = quiet losing (refl, (refl, tt))
      step_on (Lost Client how) came = j
      step_on (Lost Up loss.Ended) came = quiet (failing ++ losing_up) (refl, (refl, (refl, tt)))
      step_on (Lost Up loss.Failed) came = quiet (failing ++ losing_up) (refl, (refl, (refl, tt)))
      step_on (Lost Up loss.Shut) came = quiet losing_up (refl, (refl, tt))
      step_on (Gave (ToClient u) text) came = quiet _ (reply_free n u)
      step_on (Gave (ToUp u) text) came = quiet _ (up_free (is_later (connection h) u) n u)
      step_on (Whole Client) came = quiet _ (wrote_free n (going_in h))
      step_on (Whole Up) came = j
      step_on LinesTold came = quiet (event.LinesWent ∷ []) (refl, tt)
      step_on OutOfMemory came = quiet (event.LifeClosed ∷ []) (refl, tt)

    -- so at all times, where it holds of a client's units
    pub behind_steps : J [] → ((h : List Step) (u : Unit91) → ArePicks (Came u ∷ h) → path_life h n ≡ Some life → J (path_events h n) → J (step_events n h (Came u) ++ path_events h n))
        → (h : List Step) → ArePicks h → path_life h n ≡ Some life → J (path_events h n)
    behind_steps none came [] p l = none
    behind_steps none came (x ∷ h) p l = by (opens_channel n h x) l (behind_steps none came h p.1)
      where
        by : (b : Bool) → (if b then Some ((peers h).opened + 1) else path_life h n) ≡ Some life → (path_life h n ≡ Some life → J (path_events h n))
            → J (if b then [] else step_events n h x ++ path_events h n)
        by true e old = none
        by false e old = step_on h p.1 e (old e) x (λ u is. came h u (subst (λ (s : Step). ArePicks (s ∷ h)) is p) e (old e))
