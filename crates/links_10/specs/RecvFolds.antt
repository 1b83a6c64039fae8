-- The delivery-count, the link-credit and the delivery-limit of a receiving link as the standard
-- defines them (AMQP 1.0 2.6.7): over all that was sent and came, newest first. Here no number goes
-- round.
use Rattle.std.specs.Prelude.{◌≡◌, ℕ, ◌+◌, ◌-◌, ◌%◌, ◌^◌, ◌<◌, nat_lt, if◌then◌else◌, List, []}
use Rattle.std.specs.Prelude.{◌∷◌}
use Rattle.links_10.specs.Send.{past}
use Rattle.links_10.specs.Recv.{new_recv, after_attach, after_peer_flow, after_grant}
use Rattle.links_10.specs.Recv.{after_arrival, recounted, after_cancel, greater}
use Rattle.links_10.specs.declared.recv.Receiving.{Receiving}

-- an event of a receiving link
pub data RecvEvent : Type 0 where
  -- the container's attach, with its initial delivery-count
  Attached : (count : ℕ) → RecvEvent
  -- a flow of the container, with its delivery-count
  PeerFlowed : (count : ℕ) → RecvEvent
  -- a flow of the gateway, with its link-credit
  Granted : (credit : ℕ) → RecvEvent
  -- the first transfer of a delivery
  Arrived : RecvEvent
  -- so many of its deliveries count now
  Counted : (counted : ℕ) → RecvEvent
  -- no credit is due any more
  Cancelled : RecvEvent

abbrev pub after_event : RecvEvent → Receiving → Receiving
after_event (Attached count) s = after_attach count s
after_event (PeerFlowed count) s = after_peer_flow count s
after_event (Granted credit) s = after_grant credit s
after_event Arrived s = after_arrival s
after_event (Counted counted) s = recounted counted s
after_event Cancelled s = after_cancel s

-- a link with this quota after these events
abbrev pub after_events : ℕ → List RecvEvent → Receiving
after_events quota [] = new_recv quota
after_events quota (x ∷ h) = after_event x (after_events quota h)

-- the container's delivery-count at its attach
abbrev pub initial_of : List RecvEvent → ℕ
initial_of [] = 0
initial_of (Attached count ∷ h) = count
initial_of (PeerFlowed count ∷ h) = initial_of h
initial_of (Granted credit ∷ h) = initial_of h
initial_of (Arrived ∷ h) = initial_of h
initial_of (Counted counted ∷ h) = initial_of h
initial_of (Cancelled ∷ h) = initial_of h

-- what the standard reckons with, from the attach on
pub record Reckoning : Type 0 where
  -- how many deliveries the link went through, those that the container gave up counted
  pub passed : ℕ
  -- the delivery-limit that the gateway stated last: what had passed then, and its link-credit
  pub limit : ℕ
  -- the greatest limit that it stated
  pub greatest : ℕ

-- the container gave up all but x of what is left
abbrev pub given_up : ℕ → Reckoning → Reckoning
given_up x r =
    if nat_lt x (r.limit - r.passed) then record r {
      passed = r.passed + ((r.limit - r.passed)
          - x);
    } else r

abbrev pub reckoned : List RecvEvent → Reckoning
reckoned [] = record { passed = 0; limit = 0; greatest = 0 }
reckoned (Attached count ∷ h) = record { passed = 0; limit = 0; greatest = 0 }
reckoned (PeerFlowed count ∷ h) = let r = reckoned h in
    given_up (past ((initial_of h + (r.passed + (r.limit - r.passed))) % 2 ^ 32) count) r
reckoned (Granted credit ∷ h) = let r = reckoned h in
    record r {
      limit = r.passed + credit;
      greatest = greater r.greatest (r.passed + credit);
    }
reckoned (Arrived ∷ h) = let r = reckoned h in record r { passed = r.passed + 1 }
reckoned (Counted counted ∷ h) = reckoned h
reckoned (Cancelled ∷ h) = reckoned h

-- fields have 32 bits
abbrev pub IsEvent : RecvEvent → Type 0
IsEvent (Attached count) = count < 2 ^ 32
IsEvent (PeerFlowed count) = count < 2 ^ 32
IsEvent (Granted credit) = credit < 2 ^ 32
IsEvent Arrived = Unit {0}
IsEvent (Counted counted) = Unit {0}
IsEvent Cancelled = Unit {0}

abbrev pub AreEvents : List RecvEvent → Type 0
AreEvents [] = Unit {0}
AreEvents (x ∷ h) = IsEvent x × AreEvents h

-- the state of the code is what the standard says
pub record IsRecvFold (h : List RecvEvent) (s : Receiving) : Type 0 where
  pub count : s.count ≡ (initial_of h + (reckoned h).passed) % 2 ^ 32
  -- what is left of the last limit
  pub credit : s.credit ≡ (reckoned h).limit - (reckoned h).passed
  -- and of the greatest one
  pub limit_left : s.limit_left ≡ (reckoned h).greatest - (reckoned h).passed
