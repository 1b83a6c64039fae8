-- The delivery-count and the link-credit of a receiving link (AMQP 1.0 2.6.7), and how much of its
-- quota is in use: before any event, and after each.
use Rattle.std.specs.Prelude.{ℕ, Bool, true, false, ◌+◌, ◌-◌, ◌*◌, ◌&&◌, nat_lt, nat_le}
use Rattle.std.specs.Prelude.{if◌then◌else◌, Option, Some, None}
use Rattle.links_10.specs.Send.{advanced, past}
use Rattle.links_10.specs.declared.recv.Receiving.{Receiving}
use Rattle.links_10.specs.declared.recv.Granting.{Granting}
use Rattle.links_10.specs.declared.recv.Granting.TheVariants.{Unattached, Live, Ended}

-- a link with this quota; it has no credit before its attach is answered
abbrev pub new_recv : ℕ → Receiving
new_recv quota = record {
  quota = quota;
  granting = Unattached;
  count = 0;
  credit = 0;
  limit_left = 0;
  counted = 0;
}

-- a link whose credit is stated only when it is asked for one delivery
abbrev pub asked_recv : Receiving
asked_recv = record (new_recv 1) { granting = Ended }

abbrev pub is_live : Granting → Bool
is_live Unattached = false
is_live Live = true
is_live Ended = false

abbrev pub once_attached : Granting → Granting
once_attached Unattached = Live
once_attached Live = Live
once_attached Ended = Ended

-- the container's attach: its initial delivery-count
abbrev pub after_attach : ℕ → Receiving → Receiving
after_attach count s = record s {
  granting = once_attached s.granting;
  count = count;
  credit = 0;
  limit_left = 0;
}

-- so much of the credit is left where the container states this delivery-count
abbrev pub left_by : ℕ → Receiving → ℕ
left_by stated s = past (advanced s.count s.credit) stated

-- it gave up credit: the count passes what it gave up
abbrev pub gave_up : ℕ → Receiving → Receiving
gave_up left s = record s {
  count = advanced s.count (s.credit - left);
  credit = left;
  limit_left = s.limit_left - (s.credit - left);
}

-- a flow of the container with a delivery-count
abbrev pub after_peer_flow : ℕ → Receiving → Receiving
after_peer_flow stated s =
    if nat_lt (left_by stated s) s.credit then gave_up (left_by stated s) s else s

abbrev pub greater : ℕ → ℕ → ℕ
greater a b = if nat_lt a b then b else a

-- a flow of the gateway that states this credit
abbrev pub after_grant : ℕ → Receiving → Receiving
after_grant credit s = record s { credit = credit; limit_left = greater s.limit_left credit }

-- the first transfer of a delivery
abbrev pub after_arrival : Receiving → Receiving
after_arrival s = record s {
  count = advanced s.count 1;
  credit = s.credit - 1;
  limit_left = s.limit_left - 1;
}

-- so many of its deliveries count in the quota
abbrev pub recounted : ℕ → Receiving → Receiving
recounted counted s = record s { counted = counted }

-- no credit is due any more
abbrev pub after_cancel : Receiving → Receiving
after_cancel s = record s { granting = Ended }

-- the credit that fills credit and counted deliveries to the quota, where at most half is in use
abbrev pub grant_of : Receiving → Option ℕ
grant_of s =
    if is_live s.granting && nat_le (2 * (s.credit + s.counted)) s.quota then Some (s.quota
    - s.counted) else None
