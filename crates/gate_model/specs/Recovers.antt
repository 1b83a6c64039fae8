-- A basic.recover gives back all that its client has (AMQP 0-9-1 1.8.3.15, 1.8.3.16): told by the
-- events of the life in progress, over the fates of its deliveries, which know no state.
use Rattle.std.specs.Prelude.{◌≡◌, ℕ, Bool, true, false, not, ◌&&◌, ◌||◌, if◌then◌else◌, List, []}
use Rattle.std.specs.Prelude.{◌∷◌, Option, None, Some, find, is_some}
use Rattle.methods_091.specs.declared.method.Method91.{Method91}
use Rattle.methods_091.specs.declared.method.Method91.TheVariants as method
use Rattle.consume_path.specs.Items.{is_no_ack, is_on}
use Rattle.consume_path.specs.Journal.{Fate, fate_of, is_uncovered}
use Rattle.consume_path.specs.Laws.{is_taken}
use Rattle.consume_path.specs.declared.delivery.Settle.TheVariants.{Released}
use Rattle.session_path.specs.Events.{PathEvent, after_events, deliveries_of}
use Rattle.session_path.specs.Links.{has_number}
use Rattle.session_path.specs.declared.path.PathLink.{PathLink}
use Rattle.gate_model.specs.Folds.{connection, paths_in, ran_out_in, routes_in}
use Rattle.gate_model.specs.Once.{is_method_on}
use Rattle.gate_model.specs.Publishing.{opens_channel, path_events, path_life}
use Rattle.gate_model.specs.State.{Came, Gave, Step, want_in}
use Rattle.gate_model.specs.declared.channel.SessionUnit.TheVariants as unit
use Rattle.gate_model.specs.declared.outgoing.Outgoing.TheVariants.{ToUp}
use Rattle.gate_model.specs.declared.outgoing.UpUnit.{UpUnit}
use Rattle.gate_model.specs.declared.outgoing.UpUnit.TheVariants as up

abbrev pub is_recover : Method91 → Bool
is_recover (method.BasicRecover requeue) = true
is_recover (method.BasicRecoverAsync requeue) = true
is_recover m = false

-- one is taken up on channel n
abbrev pub recovers : ℕ → List Step → Step → Bool
recovers n h (Came u) =
    not (ran_out_in h)
    && is_method_on is_recover n (want_in (routes_in h) (paths_in h) (connection h) u)
recovers n h s = false

-- its deliver or get-ok went to a client that acknowledges it, and nothing settled it
abbrev pub is_with_client : Fate → Bool
is_with_client f = is_some f.tag && (not (is_no_ack f.taker) && not (is_some f.due))

-- it is delivery k of the life in progress on channel n
abbrev pub is_with : List PathEvent → Option ℕ → ℕ → Bool
is_with es None k = false
is_with es (Some life) k =
    is_taken k (deliveries_of life es) && is_with_client (fate_of k (deliveries_of life es))

-- a recover was taken up in the life in progress while the client had delivery k
abbrev pub is_recovered : ℕ → ℕ → List Step → Bool
is_recovered n k [] = false
is_recovered n k (s ∷ h) =
    if opens_channel n h s then false
    else is_recovered n k h || (recovers n h s && is_with (path_events h n) (path_life h n) k)

-- each such delivery is owed `released` from then on, or its disposition said that (AMQP 1.0 3.4.4)
abbrev pub GoBack : List Step → Type 0
GoBack h =
    (n k life : ℕ) → path_life h n ≡ Some life → is_recovered n k h ≡ true
    → (fate_of k (deliveries_of life (path_events h n))).due ≡ Some Released

-- before the gateway's end of the session, and its detach of the link, each such delivery of that
-- which didn't come settled had its disposition (AMQP 1.0 2.6.6, 2.7.6)
abbrev pub HasGone : List Step → ℕ → ℕ → ℕ → Type 0
HasGone h n life k =
    is_recovered n k h ≡ true
    → is_uncovered (fate_of k (deliveries_of life (path_events h n))) ≡ false

abbrev pub MayLeave : List Step → UpUnit → Type 0
MayLeave h (up.End n why) = (life k : ℕ) → path_life h n ≡ Some life → HasGone h n life k
MayLeave h (up.OnSession n (unit.Detach link handle why)) =
    (life k : ℕ) (l : PathLink) → path_life h n ≡ Some life
    → find (has_number link) (after_events life (path_events h n)).links.links ≡ Some l
    → l.receives ≡ true
    → is_on link (fate_of k (deliveries_of life (path_events h n))).link ≡ true
    → HasGone h n life k
MayLeave h u = Unit {0}

abbrev pub GoBeforeLeaving : List Step → Type 0
GoBeforeLeaving [] = Unit {0}
GoBeforeLeaving (Gave (ToUp u) text ∷ h) = MayLeave h u × GoBeforeLeaving h
GoBeforeLeaving (s ∷ h) = GoBeforeLeaving h

-- a recover changes nothing of any other
abbrev pub LeavesOthers : List Step → Type 0
LeavesOthers [] = Unit {0}
LeavesOthers (s ∷ h) =
    ((n k life : ℕ) → path_life h n ≡ Some life → recovers n h s ≡ true
    → is_with_client (fate_of k (deliveries_of life (path_events h n))) ≡ false
    → fate_of k (deliveries_of life (path_events (s ∷ h) n))
    ≡ fate_of k (deliveries_of life (path_events h n))) × LeavesOthers h
