-- What is kept beside the publishes of a life, so that a call visits few of them.
use Rattle.std.specs.Prelude.{◌≡◌, ℕ, ◌+◌, ◌-◌, ◌%◌, ◌≤◌, ◌<◌, ◌^◌, ◌&&◌, Bool, not, List, [], ◌∷◌}
use Rattle.std.specs.Prelude.{filter, map, count_by, Option, Some, None, false}
use Rattle.std.specs.Prelude.{nat_lt, is_some, if◌then◌else◌}
use Rattle.std.specs.List.{AllByRecursion}
use Rattle.open_items.specs.Places.{AllFrom}
use Rattle.open_items.proofs.Numbered.{Rising}
use Rattle.publish_path.specs.declared.publish.Publish.{Publish}
use Rattle.publish_path.specs.declared.publish.Confirm.{Confirm}
use Rattle.publish_path.specs.declared.counts.Counts.{Counts}
use Rattle.publish_path.specs.Publishes.{PublishState, is_settled, is_sending, is_open, owes_return}
use Rattle.publish_path.specs.Publishes.{framed}
use Rattle.publish_path.specs.Offers.{is_owed, is_held, held_count, held_size, held_bytes}
use Rattle.publish_path.specs.Offers.{return_count, number_or}
use Rattle.publish_path.specs.Laws.{one_if}

-- the numbers

abbrev pub number_of : Publish → ℕ
number_of p = p.number

abbrev pub Above : ℕ → Option ℕ → Type 0
Above low None = Unit {0}
Above low (Some k) = low < k

-- the confirm numbers rise from above low, and the greatest is at most high
abbrev pub Climbs : ℕ → ℕ → List Publish → Type 0
Climbs low high [] = low ≤ high
Climbs low high (p ∷ ps) = Above low p.confirm × Climbs (number_or low p.confirm) high ps

-- a confirm covers no number from this one on
abbrev pub is_past : Confirm → Option ℕ → Bool
is_past c None = false
is_past c (Some number) = nat_lt c.number number

abbrev pub passed_by : Confirm → Publish → Bool
passed_by c p = is_past c p.confirm

-- the places

abbrev pub is_unsent : Publish → Bool
is_unsent p = is_sending p.place

abbrev pub is_unsettled : Publish → Bool
is_unsettled p = not (is_settled p.answer)

-- the end of what an outcome may tell, from the first place that it tells: the next place, where no
-- other publish has its delivery-id
abbrev pub end_at : Bool → ℕ → ℕ → ℕ
end_at alone place end = if alone && nat_lt place end then place + 1 else end

-- the delivery-ids

abbrev pub IsBelow : ℕ → Option ℕ → Type 0
IsBelow next None = Unit {0}
IsBelow next (Some id) = id < next

abbrev pub IsOther : Option ℕ → Option ℕ → Type 0
IsOther None k = Unit {0}
IsOther (Some id) None = Unit {0}
IsOther (Some id) (Some other) = id ≡ other → ⊥

-- each is below the next, and no two are the same
abbrev pub AreApart : ℕ → List Publish → Type 0
AreApart next [] = Unit {0}
AreApart next (p ∷ ps) =
    IsBelow next p.id × AllByRecursion (λ q. IsOther p.id q.id) ps × AreApart next ps

pub record HaveIds (next : ℕ) (items : List Publish) : Type 0 where
  pub bound : next < 2 ^ 32
  pub apart : AreApart next items

-- the counts

abbrev pub owes : Publish → Bool
owes p = is_owed p.answer

abbrev pub has_line : Publish → Bool
has_line p = is_some p.line

abbrev pub count_of : Publish → Counts
count_of p = record {
  held = one_if (is_held p);
  bytes = held_size p;
  owed = one_if (owes p);
  returns = one_if (owes_return p);
  lines = one_if (has_line p);
}

abbrev pub counts_of : List Publish → Counts
counts_of items = record {
  held = held_count items;
  bytes = held_bytes items;
  owed = count_by owes items;
  returns = return_count items;
  lines = count_by has_line items;
}

-- what one publish gave is taken from the counts, and what it gives now is added
abbrev pub exchanged : Counts → Counts → Counts → Counts
exchanged counts before after = record {
  held = counts.held - before.held + after.held;
  bytes = counts.bytes - before.bytes + after.bytes;
  owed = counts.owed - before.owed + after.owed;
  returns = counts.returns - before.returns + after.returns;
  lines = counts.lines - before.lines + after.lines;
}

-- it was among what is counted, no more is held, and the counts stay in their types
pub record CanExchange (counts before after : Counts) : Type 0 where
  pub held : before.held ≤ counts.held
  pub bytes : before.bytes ≤ counts.bytes
  pub owed : before.owed ≤ counts.owed
  pub returns : before.returns ≤ counts.returns
  pub lines : before.lines ≤ counts.lines
  pub held_falls : after.held ≤ before.held
  pub bytes_fall : after.bytes ≤ before.bytes
  pub owed_fits : counts.owed - before.owed + after.owed < 2 ^ 64
  pub returns_fit : counts.returns - before.returns + after.returns < 2 ^ 64
  pub lines_fit : counts.lines - before.lines + after.lines < 2 ^ 64

-- after a frame: the frames of one publish, and the delivery-id of the next transfer
abbrev pub after_frame : ℕ → Bool → ℕ → PublishState → PublishState
after_frame number first count s = record s {
  list = filter is_open (map (framed number first s.next_id count) s.list);
  next_id = if first then (s.next_id + 1) % 2 ^ 32 else s.next_id;
}

-- all of it
pub record IsKept (items : List Publish) (numbers confirms : ℕ) (counts : Counts)
    (front settled : ℕ) : Type 0 where
  -- so many numbers were given, and so many confirm numbers
  pub rising : Rising number_of 0 items
  pub given : AllByRecursion (λ p. p.number ≤ numbers) items
  pub climbs : Climbs 0 confirms items
  pub fewer : confirms ≤ numbers
  pub counted : counts ≡ counts_of items
  -- no frame of one before front is still to go, and each before settled is settled
  pub ahead : AllFrom is_unsent front items
  pub open_still : AllFrom is_unsettled settled items
