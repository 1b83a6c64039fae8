-- The delivery-count and the link-credit of a sending link (AMQP 1.0 2.6.7): before any event, and
-- after each.
use Rattle.std.specs.Prelude.{ℕ, ◌+◌, ◌-◌, ◌%◌, ◌^◌, Option, Some, None}
use Rattle.links_10.specs.declared.send.Sending.{Sending}

-- counts go round after 2^32 - 1
abbrev pub advanced : ℕ → ℕ → ℕ
advanced count by = (count + by) % 2 ^ 32

-- how far a count is past another one
abbrev pub past : ℕ → ℕ → ℕ
past count stated = (count + (2 ^ 32 - stated)) % 2 ^ 32

-- what is left of a credit that was stated at a count: the receiver's delivery-count, with its
-- link-credit, less the sender's delivery-count
abbrev pub left_of : ℕ → ℕ → ℕ → ℕ
left_of stated credit count = credit - past count stated

-- an absent count is that of the gateway's attach, which is 0
abbrev pub or_initial : Option ℕ → ℕ
or_initial None = 0
or_initial (Some count) = count

-- an attach gives no credit
abbrev pub new_link : Sending
new_link = record { count = 0; credit = 0 }

-- a flow of the container: its credit takes the place of the old one
abbrev pub after_flow : Option ℕ → ℕ → Sending → Sending
after_flow stated credit s = record s { credit = left_of (or_initial stated) credit s.count }

-- the first frame of a transfer was sent
abbrev pub after_begun : Sending → Sending
after_begun s = record s { count = advanced s.count 1; credit = s.credit - 1 }

-- the credit left was given up
abbrev pub after_drain : Sending → Sending
after_drain s = record s { count = advanced s.count s.credit; credit = 0 }
