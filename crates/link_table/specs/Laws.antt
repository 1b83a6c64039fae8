-- What holds after any events of a session's handles, newest first.
use Rattle.std.specs.Prelude.{◌≡◌, ◌↔◌, ℕ, true, List, [], ◌∷◌, Some, None}
use Rattle.link_table.specs.Table.{HandleTable, new_table, state_of, free_of, named_by, is_named}
use Rattle.link_table.specs.Table.{is_asked, is_unsent, is_unread, after_limit, after_attach}
use Rattle.link_table.specs.Table.{after_attached, after_detach_sent, after_detach_read}

pub data HandleEvent : Type 0 where
  -- the greatest handle that the container takes is known
  Limited : ℕ → HandleEvent
  -- the gateway's attach, with its handle
  Attach : ℕ → HandleEvent
  -- the container's attach: the gateway's handle for the link, and its own
  PeerAttach : ℕ → ℕ → HandleEvent
  Detach : ℕ → HandleEvent
  PeerDetach : ℕ → HandleEvent

abbrev pub after_event : HandleEvent → HandleTable → HandleTable
after_event (Limited most) t = after_limit most t
after_event (Attach handle) t = after_attach handle t
after_event (PeerAttach handle peer) t = after_attached handle peer t
after_event (Detach handle) t = after_detach_sent handle t
after_event (PeerDetach handle) t = after_detach_read handle t

abbrev pub after_events : ℕ → List HandleEvent → HandleTable
after_events most [] = new_table most
after_events most (x ∷ h) = after_event x (after_events most h)

-- an attach takes the lowest free handle; the container's attach answers one of the gateway, under
-- a handle that names no link; each end detaches what is attached, once
abbrev pub IsEvent : HandleEvent → HandleTable → Type 0
IsEvent (Limited most) t = Unit {0}
IsEvent (Attach handle) t = free_of t ≡ Some handle
IsEvent (PeerAttach handle peer) t =
    (is_asked (state_of t handle) ≡ true) × (named_by t peer ≡ None)
IsEvent (Detach handle) t = is_unsent (state_of t handle) ≡ true
IsEvent (PeerDetach handle) t = is_unread (state_of t handle) ≡ true

abbrev pub AreEvents : ℕ → List HandleEvent → Type 0
AreEvents most [] = Unit {0}
AreEvents most (x ∷ h) = IsEvent x (after_events most h) × AreEvents most h

-- a handle of the container names exactly the link that is attached under it
abbrev pub NamesLinks : HandleTable → Type 0
NamesLinks t =
    (handle peer : ℕ) → named_by t peer ≡ Some handle ↔ is_named peer (state_of t handle) ≡ true
