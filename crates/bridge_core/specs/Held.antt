-- Which channels are held by units that wait: a unit of a channel waits for those before it of that
-- channel and of channel 0.
use Rattle.std.specs.Prelude.{◌≡◌, ◌==◌, ℕ, ◌+◌, ◌-◌, ◌^◌, ◌<◌, ◌≤◌, Bool, count_by, false, length}
use Rattle.std.specs.Prelude.{[], List, min, nat_lt, if◌then◌else◌, map, slice_get, slice_index_or, Some}
use Rattle.std.specs.Prelude.{take, true, ◌⊎◌}
use Rattle.std.specs.BTreeSet.{BTreeSet, contains}
use Rattle.std.specs.List.{list_any, position_or_len}
use Rattle.std.specs.Ordering.{nat_cmp}
use Rattle.machine_091.specs.declared.unit.Unit91.{Unit91}
use Rattle.gate_model.specs.Queue.{Waits, can_take, channel_of, holds, waits_for_all}

-- of each channel of a client, whether one of these units holds it
abbrev pub AreHeld : List Unit91 → List Bool → Type 0
AreHeld units held = (n : ℕ) → n < 256 → slice_index_or held n false ≡ list_any (holds n) units

-- ---- how many wait on each channel

-- each channel of a client has a place among the counts, and all above share the last
abbrev pub place_of : Unit91 → ℕ
place_of u = min (channel_of u) 256

abbrev pub is_counted_at : ℕ → Unit91 → Bool
is_counted_at n u = place_of u == n

abbrev pub AreCounted : List Unit91 → List ℕ → Type 0
AreCounted units counts =
    (n : ℕ) → n < 257 → slice_index_or counts n 0 ≡ count_by (is_counted_at n) units

-- of each channel that has some, the place of the first, where so many went from the front
abbrev pub AreFirst : List Unit91 → ℕ → List ℕ → Type 0
AreFirst units gone firsts =
    (gone + length units < 2 ^ 64)
    × ((n : ℕ) → n < 257 → position_or_len (is_counted_at n) units < length units
    → slice_index_or firsts n 0 ≡ gone + position_or_len (is_counted_at n) units)

-- a place, once the unit at another went
abbrev pub moved_up : ℕ → ℕ → ℕ
moved_up at first = if nat_lt at first then first - 1 else first

-- how many went from the front, and the places of the first units, once the one at a place went
abbrev pub gone_after : ℕ → ℕ → ℕ
gone_after at gone = if at == 0 then gone + 1 else gone

abbrev pub firsts_after : ℕ → ℕ → List ℕ → List ℕ
firsts_after at gone firsts = if at == 0 then firsts else map (moved_up (gone + at)) firsts

-- a unit stands behind another of its channel
abbrev pub IsBehindOwn : List Unit91 → ℕ → Unit91 → Type 0
IsBehindOwn us j u =
    (i : ℕ) × (v : Unit91) × (i < j) × (slice_get us i ≡ Some v) × (channel_of v ≡ channel_of u)

-- of the channels above those of a client, each unit waits for all before it, or for another of its
-- channel
abbrev pub AreAboveHeld : List Unit91 → Type 0
AreAboveHeld us =
    (j : ℕ) (u : Unit91) → slice_get us j ≡ Some u → place_of u ≡ 256
    → (waits_for_all u ≡ true) ⊎ IsBehindOwn us j u

-- it is of a channel
abbrev pub is_on : ℕ → Unit91 → Bool
is_on n u = channel_of u == n

-- so many units at the front were passed: on channels above those of a client each of these waits as
-- above, and these are such channels that they are of
abbrev pub ArePassed : List Unit91 → ℕ → BTreeSet ℕ → Type 0
ArePassed us passed channels =
    (passed ≤ length us) × AreAboveHeld (take passed us)
    × ((n : ℕ) → 256 ≤ n → contains nat_cmp channels n ≡ list_any (is_on n) (take passed us))

-- a unit waits neither for all before it nor for another of its channel
abbrev pub IsFreeAbove : List Unit91 → ℕ → Unit91 → Type 0
IsFreeAbove us i u = (waits_for_all u ≡ false) × (list_any (is_on (channel_of u)) (take i us) ≡ false)

-- ---- which can be taken up

-- the first unit of a queue can't be
abbrev pub FrontWaits : Waits → List Unit91 → Type 0
FrontWaits q us = (u : Unit91) → slice_get us 0 ≡ Some u → can_take q [] u ≡ false

-- none before a place can be, of those of the channels below a number
abbrev pub NoneBefore : Waits → List Unit91 → ℕ → ℕ → Type 0
NoneBefore q us i m =
    (j : ℕ) (u : Unit91) → slice_get us j ≡ Some u → j < m → place_of u < i → can_take q (take j us) u ≡ false

-- none before it can be, of those of a channel
abbrev pub NoneOn : Waits → List Unit91 → ℕ → ℕ → Type 0
NoneOn q us n m =
    (j : ℕ) (u : Unit91) → slice_get us j ≡ Some u → j < m → place_of u ≡ n
    → can_take q (take j us) u ≡ false

-- a unit of a channel is its first, and waits neither for all before it nor for a request
abbrev pub IsFree : Waits → List Unit91 → ℕ → ℕ → Unit91 → Type 0
IsFree q us n i u =
    (i ≡ position_or_len (is_counted_at n) us) × (place_of u ≡ n) × (waits_for_all u ≡ false)
    × (q.channel (channel_of u) ≡ false)
