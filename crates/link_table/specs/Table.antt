-- The handles of a session's links (AMQP 1.0 2.6.2), by number: before any event, and after each.
use Rattle.std.specs.Prelude.{ℕ, ◌+◌, ◌==◌, nat_le, if◌then◌else◌, Bool, true, false, not, ◌&&◌}
use Rattle.std.specs.Prelude.{List, position, replicate, set, slice_index_or, Option, Some, None}
use Rattle.link_table.specs.declared.handles.Attachment.{Attachment}
use Rattle.link_table.specs.declared.handles.HandleState.{HandleState}
use Rattle.link_table.specs.declared.handles.HandleState.TheVariants.{Free, Asked, Attached}

pub record HandleTable : Type 0 where
  -- of handle 0, 1, 2 ..
  pub states : List HandleState
  -- the greatest handle that may be attached
  pub most : ℕ

abbrev pub is_free : HandleState → Bool
is_free Free = true
is_free Asked = false
is_free (Attached a) = false

abbrev pub is_asked : HandleState → Bool
is_asked Free = false
is_asked Asked = true
is_asked (Attached a) = false

-- attached, and the gateway's detach wasn't sent
abbrev pub is_unsent : HandleState → Bool
is_unsent Free = false
is_unsent Asked = false
is_unsent (Attached a) = not a.detach_sent

-- attached, and the container's detach wasn't read
abbrev pub is_unread : HandleState → Bool
is_unread Free = false
is_unread Asked = false
is_unread (Attached a) = not a.detach_read

-- this handle of the container stands for the link
abbrev pub is_named : ℕ → HandleState → Bool
is_named peer Free = false
is_named peer Asked = false
is_named peer (Attached a) = a.peer == peer

abbrev pub state_of : HandleTable → ℕ → HandleState
state_of t handle = slice_index_or t.states handle Free

abbrev pub up_to : ℕ → Option ℕ → Option ℕ
up_to most None = None
up_to most (Some handle) = if nat_le handle most then Some handle else None

-- the lowest free handle, where it may be attached
abbrev pub free_of : HandleTable → Option ℕ
free_of t = up_to t.most (position is_free t.states)

-- the handle that a handle of the container names
abbrev pub named_by : HandleTable → ℕ → Option ℕ
named_by t peer = position (is_named peer) t.states

-- handles 0 to most, all free
abbrev pub new_table : ℕ → HandleTable
new_table most = record { states = replicate (most + 1) Free; most = most }

abbrev pub with_state : ℕ → HandleState → HandleTable → HandleTable
with_state handle state t = record t { states = set t.states handle state }

-- from now on no handle above this one is attached
abbrev pub after_limit : ℕ → HandleTable → HandleTable
after_limit most t = record t { most = most }

-- the gateway's attach was sent
abbrev pub after_attach : ℕ → HandleTable → HandleTable
after_attach handle t = with_state handle Asked t

-- the container's attach was read
abbrev pub after_attached : ℕ → ℕ → HandleTable → HandleTable
after_attached handle peer t =
    with_state handle (Attached
    (record { peer = peer; detach_sent = false; detach_read = false })) t

-- a handle is free once both ends detached
abbrev pub detached : Attachment → HandleState
detached a = if a.detach_sent && a.detach_read then Free else Attached a

abbrev pub with_sent : HandleState → HandleState
with_sent Free = Free
with_sent Asked = Asked
with_sent (Attached a) = detached (record a { detach_sent = true })

abbrev pub with_read : HandleState → HandleState
with_read Free = Free
with_read Asked = Asked
with_read (Attached a) = detached (record a { detach_read = true })

-- the gateway's detach was sent
abbrev pub after_detach_sent : ℕ → HandleTable → HandleTable
after_detach_sent handle t = with_state handle (with_sent (state_of t handle)) t

-- the container's detach was read
abbrev pub after_detach_read : ℕ → HandleTable → HandleTable
after_detach_read handle t = with_state handle (with_read (state_of t handle)) t
