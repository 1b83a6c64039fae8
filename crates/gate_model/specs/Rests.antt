-- What is owed to an end to which nothing goes: nothing. Told by the events of the life in progress,
-- over the fates of its publishes and deliveries.
use Rattle.std.specs.Prelude.{◌≡◌, ◌⊎◌, ℕ, ◌≤◌, ◌<◌, true, false, List, None, Some}
use Rattle.std.specs.List.{list_any}
use Rattle.consume_path.specs.Journal.{global_of, tags_of}
use Rattle.consume_path.specs.Laws.{IsOwed, deliver_by}
use Rattle.consume_path.specs.Offers.{serves_gets}
use Rattle.consume_path.specs.declared.delivery.NextDeliver.{NextDeliver}
use Rattle.gate_outside.specs.declared.ports.End.TheVariants.{Client, Up}
use Rattle.gate_relay.specs.Sides.{is_readable}
use Rattle.machine_091.specs.State.{is_closing, is_open}
use Rattle.publish_path.specs.Laws.{IsOwedConfirm, frame_by, return_by}
use Rattle.session_path.specs.Due.{most_tags, next_attach, next_detach, next_flow, next_settle}
use Rattle.session_path.specs.Events.{after_events, deliveries_of, publishes_of}
use Rattle.session_path.specs.Path.{first_of}
use Rattle.session_path.specs.declared.path.PathOk.{PathOk}
use Rattle.session_path.specs.declared.path.PathOk.TheVariants as ok
use Rattle.gate_model.specs.Asked.{is_up_close}
use Rattle.gate_model.specs.Closes.{closes_since}
use Rattle.gate_model.specs.Contents.{IsBegun}
use Rattle.gate_model.specs.Due.{pick}
use Rattle.gate_model.specs.Folds.{carrying, connection, container, ran_out_in, sent_up, side_in}
use Rattle.gate_model.specs.Lives.{is_carried, session_in}
use Rattle.gate_model.specs.Owes.{MayEnd}
use Rattle.gate_model.specs.Parting.{IsCalledFor, ended_by_container}
use Rattle.gate_model.specs.Publishing.{path_events, path_life}
use Rattle.gate_model.specs.State.{Step, before}

-- ---- to the client

pub record IsServed (h : List Step) (n life : ℕ) : Type 0 where
  -- no publish that waits for its confirm has an outcome, and none is to go back
  pub confirms : (k : ℕ) → IsOwedConfirm (publishes_of life (path_events h n)) k → ⊥
  pub returns : return_by (publishes_of life (path_events h n)) ≡ None
  -- no content is begun, and no delivery to a consumer may go
  pub contents : IsBegun h n → ⊥
  pub delivers : (d : NextDeliver) → tags_of (deliveries_of life (path_events h n)) < most_tags
      → deliver_by (global_of (deliveries_of life (path_events h n)))
      (deliveries_of life (path_events h n)) ≡ Some d
      → serves_gets d.link (after_events life (path_events h n)).deliveries.links ≡ true
  -- each request whose answer is due was answered, but for one that waits for its get-ok
  pub answers : (x : PathOk) → first_of (after_events life (path_events h n)).oks ≡ Some x
      → x ≡ ok.Get

-- what is owed for publishes goes on a channel that its container closed too, until the gateway's
-- channel.close goes (AMQP 0-9-1 1.5.2.5): while the pair has memory, and the connection goes on,
-- its container closed that, or no connection.close and no close-ok was sent whole
pub record IsToTell (h : List Step) (n : ℕ) : Type 0 where
  pub called : IsCalledFor h n
  pub unclosed : closes_since n h ≡ 0
  pub connection : (is_closing (connection h) ≡ false) ⊎ ((ended_by_container h ≡ true) ⊎ MayEnd h)
  pub memory : ran_out_in h ≡ false

-- no publish that waits for its confirm has an outcome, and none is to go back
pub record IsTold (h : List Step) (n life : ℕ) : Type 0 where
  pub confirms : (k : ℕ) → IsOwedConfirm (publishes_of life (path_events h n)) k → ⊥
  pub returns : return_by (publishes_of life (path_events h n)) ≡ None

-- where nothing goes to the client, nothing is owed on a channel that is open, and no confirm and no
-- return on one that its container closed
abbrev pub ServesClients : List Step → Type 0
ServesClients h =
    pick (before h) Client ≡ None → (n life : ℕ) → path_life h n ≡ Some life
    → (is_open (connection h) n ≡ true → IsServed h n life)
    × (IsToTell h n → IsTold h n life)

-- ---- to the container

pub record IsSupplied (h : List Step) (n life : ℕ) : Type 0 where
  -- no delivery is owed a disposition, and no disposition of the container an answer; and no link
  -- is to be detached
  pub settles : (k : ℕ) → IsOwed (deliveries_of life (path_events h n)) k → ⊥
  pub settlings : next_settle (after_events life (path_events h n)) ≡ None
  pub detaches : next_detach (after_events life (path_events h n)) ≡ None
  -- while the pair has memory, no publish may be transferred, no credit is to be stated, and no
  -- link to be attached
  pub transfers : ran_out_in h ≡ false → 1 ≤ (carrying n h).windows.window
      → frame_by (after_events life (path_events h n)).links.sending
      (publishes_of life (path_events h n)) ≡ None
  pub flows : ran_out_in h ≡ false → next_flow (after_events life (path_events h n)) ≡ None
  pub attaches : ran_out_in h ≡ false → next_attach (after_events life (path_events h n)) ≡ None

-- where nothing goes to a container whose end is open, before the gateway's close, nothing is owed
-- on a session between the container's begin and the gateway's end
abbrev pub SuppliesContainers : List Step → Type 0
SuppliesContainers h =
    pick (before h) Up ≡ None → is_readable (side_in h) ≡ true
    → list_any is_up_close (sent_up h) ≡ false → (n life : ℕ) → path_life h n ≡ Some life
    → is_carried (session_in (container h) n) ≡ true → IsSupplied h n life
