-- What else is owed to a client to which nothing goes: channel.open-ok, channel.close and its
-- close-ok, and the replies of its connection (AMQP 0-9-1 1.4.2, 1.5.2). Told by the steps alone.
use Rattle.std.specs.Prelude.{◌≡◌, ◌⊎◌, ℕ, ◌<◌, ◌==◌, Bool, true, false, not, ◌&&◌, ◌||◌, if◌then◌else◌}
use Rattle.std.specs.Prelude.{List, [], ◌∷◌, ◌++◌, None, is_some}
use Rattle.std.specs.List.{AllByRecursion, list_any}
use Rattle.gate_outside.specs.declared.ports.End.TheVariants.{Client}
use Rattle.machine_091.specs.State.{is_closing, is_open}
use Rattle.gate_model.specs.Answers.{AreReplies, is_close_ok, last_units}
use Rattle.gate_model.specs.Begins.{has_begun}
use Rattle.gate_model.specs.Closes.{closes_since, tells_close}
use Rattle.gate_model.specs.Contents.{IsReturned}
use Rattle.gate_model.specs.Due.{is_closed_phase, pick}
use Rattle.gate_model.specs.Folds.{answers_of, connection, paths_in, ran_out_in, replies, routes_in}
use Rattle.gate_model.specs.Folds.{sent, sent_since, until_memory}
use Rattle.gate_model.specs.Once.{is_channel_close, is_method_on, is_open_ok_on}
use Rattle.gate_model.specs.Parting.{by_container, ended_by_container}
use Rattle.gate_model.specs.Publishing.{opens_channel}
use Rattle.gate_model.specs.Reasons.{reason_at}
use Rattle.gate_model.specs.Shuts.{frees_channel}
use Rattle.gate_model.specs.State.{Came, Gave, Step, before, has_left, want_in}
use Rattle.gate_model.specs.Times.{is_any_close, sent_whole}
use Rattle.gate_model.specs.Waiting.{Settled, SettledOn, is_ending}
use Rattle.gate_model.specs.declared.outgoing.Outgoing.TheVariants.{ToClient}
use Rattle.gate_model.specs.declared.reply.Reply.{Reply}
use Rattle.gate_model.specs.declared.reply.Reply.TheVariants as reply

-- a unit to the client that passes a test goes
abbrev pub tells : (Reply → Bool) → Step → Bool
tells t (Gave (ToClient u) text) = t u
tells t s = false

-- ---- channel.open-ok

-- it went since the channel.open
abbrev pub has_opened : ℕ → List Step → Bool
has_opened n [] = false
has_opened n (s ∷ h) =
    if opens_channel n h s then false else tells (is_open_ok_on n) s || has_opened n h

-- ---- channel.close-ok

-- a channel.close-ok, and one to a channel.close that crossed the gateway's
abbrev pub is_own_ok : ℕ → Reply → Bool
is_own_ok n (reply.ChannelCloseOk k) = k == n
is_own_ok n u = false

abbrev pub is_crossed_ok : ℕ → Reply → Bool
is_crossed_ok n (reply.CrossedOk k) = k == n
is_crossed_ok n u = false

-- the client's channel.close is taken up
abbrev pub closes_channel : ℕ → List Step → Step → Bool
closes_channel n h (Came u) =
    not (ran_out_in h)
    && is_method_on is_channel_close n (want_in (routes_in h) (paths_in h) (connection h) u)
closes_channel n h s = false

-- it was, and since then neither its close-ok went, nor did the client answer the gateway's
-- channel.close
abbrev pub is_to_answer : ℕ → List Step → Bool
is_to_answer n [] = false
is_to_answer n (s ∷ h) =
    if closes_channel n h s then true
    else if frees_channel n h s || tells (is_own_ok n) s then false
    else is_to_answer n h

-- the client answered that while its own, which crossed it, had no close-ok, and none went since
abbrev pub is_to_cross : ℕ → List Step → Bool
is_to_cross n [] = false
is_to_cross n (s ∷ h) =
    if frees_channel n h s then is_to_answer n h || is_to_cross n h
    else not (tells (is_crossed_ok n) s) && is_to_cross n h

-- ---- channel.close

-- a step had a reason to close channel n, and since then neither the gateway's channel.close went,
-- nor was the client's, or its channel.close-ok, taken up
abbrev pub is_to_close : ℕ → List Step → Bool
is_to_close n [] = false
is_to_close n (s ∷ h) =
    if is_some (reason_at n h s) then true
    else if closes_channel n h s || (frees_channel n h s || tells_close n s) then false
    else is_to_close n h

-- ---- what a channel is owed

-- what ends channels goes while the pair has memory, until a connection.close of the gateway or its
-- close-ok was sent whole
pub record MayEnd (h : List Step) : Type 0 where
  pub memory : ran_out_in h ≡ false
  pub unclosed : list_any is_any_close (sent_whole h) ≡ false
  pub unanswered : list_any is_close_ok (sent_whole h) ≡ false

pub record OwesNone (h : List Step) (n : ℕ) : Type 0 where
  -- a channel that is open, and whose session the container began, had its open-ok (1.5.2.2)
  pub opens : is_open (connection h) n ≡ true → has_begun n h ≡ true → has_opened n h ≡ true
  -- where nothing of the container is waited for on it, the client's channel.close had its close-ok
  -- (1.5.2.6); and one that crossed the gateway's had it in any case
  pub closes : MayEnd h → SettledOn h n → is_to_answer n h ≡ false
  pub crosses : MayEnd h → is_to_cross n h ≡ false
  -- and what closed it had its channel.close, until the client closed the connection (1.5.2.5)
  pub reasons : MayEnd h → SettledOn h n → is_closed_phase (connection h).phase ≡ false
      → is_to_close n h ≡ false

-- ---- what the connection is owed

-- the replies to what came went, but for these
pub record AllBut (h : List Step) (rest : List Reply) : Type 0 where
  pub are : AreReplies (replies h) (answers_of (sent h) ++ rest) (has_left (connection h).stream)

-- of those that are left each is a connection.close of the gateway or a close-ok
pub record LeavesEnds (h : List Step) : Type 0 where
  pub rest : List Reply
  pub ends : AllByRecursion (λ (u : Reply). is_ending u ≡ true) rest
  pub all_but : AllBut h rest

-- once the pair ran out of memory the last units went, by the connection before and by what was
-- left then
pub record HadLast (h g : List Step) : Type 0 where
  pub rest : List Reply
  pub all_but : AllBut g rest
  pub last : answers_of (sent_since h) ≡ last_units (connection g).phase rest

-- start, tune and open-ok went; close and close-ok too where nothing of the upstream end is waited
-- for (1.4.2)
pub record IsReplied (h : List Step) : Type 0 where
  pub opening : ran_out_in h ≡ false → LeavesEnds h
  pub all : ran_out_in h ≡ false → Settled h → AllBut h []
  pub last : ran_out_in h ≡ true → HadLast h (until_memory h)

-- ---- the law

-- where nothing goes to the client, none of that is owed; nor the rest of a return that is begun, on
-- a channel that closed too, while the pair has memory and the connection isn't closing or its
-- container closed it; or, on one that its container closed, until a connection.close or its
-- close-ok was sent whole (4.2.6)
pub record AreThrough (h : List Step) : Type 0 where
  pub channels : (n : ℕ) → n < 256 → OwesNone h n
  pub returns : ran_out_in h ≡ false
      → (is_closing (connection h) ≡ false) ⊎ (ended_by_container h ≡ true)
      → (n number : ℕ) → IsReturned h n number → ⊥
  pub parted : MayEnd h → (n number : ℕ) → by_container h n ≡ true → closes_since n h ≡ 0
      → IsReturned h n number → ⊥
  pub connection : IsReplied h

abbrev pub EndsClients : List Step → Type 0
EndsClients h = pick (before h) Client ≡ None → AreThrough h
