-- The delivery-count and the link-credit of a sending link as the standard defines them (AMQP 1.0
-- 2.6.7): over all that was sent and came, newest first.
use Rattle.std.specs.Prelude.{◌≡◌, ℕ, ◌^◌, ◌≤◌, ◌<◌, List, [], ◌∷◌, Option}
use Rattle.links_10.specs.Send.{advanced, left_of, or_initial, new_link, after_flow, after_begun}
use Rattle.links_10.specs.Send.{after_drain}
use Rattle.links_10.specs.declared.send.Sending.{Sending}

-- an event of a sending link
pub data SendEvent : Type 0 where
  -- a flow of the container, with its delivery-count and link-credit
  Flowed : Option ℕ → ℕ → SendEvent
  -- the first frame of a transfer of the gateway
  Begun : SendEvent
  -- a flow of the gateway that answers a drain
  Drained : SendEvent

abbrev pub after_event : SendEvent → Sending → Sending
after_event (Flowed count credit) s = after_flow count credit s
after_event Begun s = after_begun s
after_event Drained s = after_drain s

-- a link after these events
abbrev pub after_events : List SendEvent → Sending
after_events [] = new_link
after_events (x ∷ h) = after_event x (after_events h)

-- the count and the credit that the container stated last
abbrev pub stated_last : List SendEvent → ℕ × ℕ
stated_last [] = (0, 0)
stated_last (Flowed count credit ∷ h) = (or_initial count, credit)
stated_last (Begun ∷ h) = stated_last h
stated_last (Drained ∷ h) = stated_last h

-- what is left of that credit at a count
abbrev pub left_at : ℕ → List SendEvent → ℕ
left_at count h = left_of (stated_last h).0 (stated_last h).1 count

-- each delivery counts, and each that a drain gave up
abbrev pub count_of : List SendEvent → ℕ
count_of [] = 0
count_of (Flowed count credit ∷ h) = count_of h
count_of (Begun ∷ h) = advanced (count_of h) 1
count_of (Drained ∷ h) = advanced (count_of h) (left_at (count_of h) h)

-- fields have 32 bits, and no transfer begins without credit
abbrev pub IsEvent : SendEvent → Sending → Type 0
IsEvent (Flowed count credit) s = (or_initial count < 2 ^ 32) × (credit < 2 ^ 32)
IsEvent Begun s = 1 ≤ s.credit
IsEvent Drained s = Unit {0}

abbrev pub AreEvents : List SendEvent → Type 0
AreEvents [] = Unit {0}
AreEvents (x ∷ h) = IsEvent x (after_events h) × AreEvents h

-- the state of the code is what the standard says
pub record IsFold (h : List SendEvent) (s : Sending) : Type 0 where
  pub count : s.count ≡ count_of h
  pub credit : s.credit ≡ left_at (count_of h) h
