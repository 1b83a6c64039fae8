-- What is kept beside the deliveries of a life, so that a call visits few of them.
use Rattle.std.specs.Prelude.{◌≡◌, ℕ, Bool, ◌+◌, ◌-◌, ◌≤◌, ◌==◌, ◌&&◌, true, false, if◌then◌else◌}
use Rattle.std.specs.Prelude.{List, count_by}
use Rattle.std.specs.Prelude.{Option, None, Some, IfSome, is_some, nat_lt, nat_le}
use Rattle.std.specs.List.{AllByRecursion}
use Rattle.std.specs.Option.{option_map}
use Rattle.links_10.specs.Recv.{recounted}
use Rattle.open_items.specs.Places.{AllFrom}
use Rattle.open_items.proofs.Numbered.{Rising}
use Rattle.consume_path.specs.declared.changes.Change.{Change}
use Rattle.consume_path.specs.declared.changes.Change.TheVariants.{Delivered, Written, Answered}
use Rattle.consume_path.specs.declared.changes.Change.TheVariants.{Cancelled, Closed, EndLost}
use Rattle.consume_path.specs.declared.changes.Change.TheVariants.{SettleSent, LinkDropped}
use Rattle.consume_path.specs.declared.changes.Change.TheVariants.{Reported}
use Rattle.consume_path.specs.declared.delivery.Delivery.{Delivery}
use Rattle.consume_path.specs.declared.delivery.NextSettle.{NextSettle}
use Rattle.consume_path.specs.declared.delivery.Settle.{Settle}
use Rattle.consume_path.specs.declared.receiving.Part.{Part}
use Rattle.consume_path.specs.declared.receiving.ReceivingLink.{ReceivingLink}
use Rattle.consume_path.specs.declared.searches.Ranked.{Ranked}
use Rattle.consume_path.specs.declared.tallies.Tally.{Tally}
use Rattle.consume_path.specs.declared.tallies.Counts.{Counts}
use Rattle.consume_path.specs.declared.places.Visit.{Visit}
use Rattle.consume_path.specs.declared.delivery.Taker.{Taker}
use Rattle.consume_path.specs.declared.delivery.Taker.TheVariants.{Nobody, Getter, Consumer}
use Rattle.consume_path.specs.Items.{owes, owed_settle, is_held, is_on, needs_content, trimmed}
use Rattle.consume_path.specs.Links.{one_if, one_more, counts, counted_on, on, taken_from}
use Rattle.consume_path.specs.Links.{transfer_came}
use Rattle.consume_path.specs.Deliveries.{DeliveryState, with_list}
use Rattle.consume_path.specs.Offers.{is_unsettled}

abbrev pub has_line : Delivery → Bool
has_line d = is_some d.line

abbrev pub is_writing : Delivery → Bool
is_writing d = d.writing

abbrev pub is_owing : Delivery → Bool
is_owing d = owes d.place

abbrev pub is_getter : Taker → Bool
is_getter Nobody = false
is_getter (Getter number no_ack) = true
is_getter (Consumer no_ack limit) = false

-- it waits for its get-ok
abbrev pub is_waiting : Delivery → Bool
is_waiting d = is_held d.place && is_getter d.taker

abbrev pub number_of : Delivery → ℕ
number_of d = d.number

abbrev pub is_numbered : ℕ → Delivery → Bool
is_numbered number d = d.number == number

abbrev pub is_tagged : ℕ → Delivery → Bool
is_tagged tag d = d.tag == tag

-- it begins a deliver, with a tag
abbrev pub begins : Change → Bool
begins (Delivered number tag) = true
begins (Written tag) = false
begins (Answered tag multiple settle) = false
begins (Cancelled link) = false
begins Closed = false
begins EndLost = false
begins (SettleSent settle) = false
begins (LinkDropped link) = false
begins Reported = false

-- a delivery is there, and passes
abbrev pub is_there : (Delivery → Bool) → Option Delivery → Bool
is_there passes None = false
is_there passes (Some d) = passes d

-- the places that a change visits: that of one delivery where it is there, or else each
abbrev pub visit_at : Bool → ℕ → ℕ → Visit
visit_at here place end =
    if here && nat_lt place end then record { from = place; to = place + 1 }
    else record { from = 0; to = end }

-- the disposition of one delivery by itself
abbrev pub settle_alone : ℕ → Settle → NextSettle
settle_alone id settle = record { first = id; last = id; settle = settle }

abbrev pub alone_of : Delivery → Option NextSettle
alone_of d = option_map (settle_alone d.id) (owed_settle d.place)

-- the disposition of the one that is owed one, where it is found
abbrev pub only_settle : ℕ → Option Delivery → Option NextSettle
only_settle owed None = None
only_settle owed (Some d) = if owed == 1 then alone_of d else None

-- what one delivery adds to the counts
abbrev pub tally_of : Delivery → Tally
tally_of d = record {
  link = d.link;
  counts = counts d;
  line = is_some d.line;
  writing = d.writing;
  owed = owes d.place;
  unsettled = is_unsettled d;
  waiting = is_waiting d;
}

abbrev pub no_tally : Tally
no_tally = record {
  link = None;
  counts = false;
  line = false;
  writing = false;
  owed = false;
  unsettled = false;
  waiting = false;
}

-- it counts on this link
abbrev pub tally_on : ℕ → Tally → Bool
tally_on link t = is_on link t.link && t.counts

-- a number of them, once one of them changed
abbrev pub exchanged : Bool → Bool → ℕ → ℕ
exchanged before after n = if after then one_more (n - one_if before) else n - one_if before

abbrev pub counts_of : List Delivery → Counts
counts_of items = record {
  lines = count_by has_line items;
  writing = count_by is_writing items;
  owed = count_by is_owing items;
  unsettled = count_by is_unsettled items;
  waiting = count_by is_waiting items;
}

abbrev pub counts_after : Tally → Tally → Counts → Counts
counts_after before after c = record {
  lines = exchanged before.line after.line c.lines;
  writing = exchanged before.writing after.writing c.writing;
  owed = exchanged before.owed after.owed c.owed;
  unsettled = exchanged before.unsettled after.unsettled c.unsettled;
  waiting = exchanged before.waiting after.waiting c.waiting;
}

-- what counts on a link, once one delivery changed
abbrev pub tallied : Tally → Tally → ReceivingLink → ReceivingLink
tallied before after l = record l {
  state = recounted
      (exchanged (tally_on l.link before) (tally_on l.link after) l.state.counted) l.state;
}

-- a begun delivery counts on its link too: once its whole delivery was taken, and after a transfer
abbrev pub taken_counted : ℕ → Bool → ReceivingLink → ReceivingLink
taken_counted link image l = record (taken_from link image l) {
  state = recounted (on link l (l.state.counted - one_if (is_some l.partial)) l.state.counted)
      l.state;
}

abbrev pub came_counted : Part → List ℕ → ReceivingLink → ReceivingLink
came_counted part payload l = record (transfer_came part payload l) {
  state = recounted (exchanged (is_some l.partial)
      (is_some (transfer_came part payload l).partial) l.state.counted)
      (transfer_came part payload l).state;
}

-- a life with each link counted anew
abbrev pub counted_anew : DeliveryState → DeliveryState
counted_anew s = with_list s.list s

-- the link's state says how many count on it
abbrev pub IsCounted : List Delivery → ReceivingLink → Type 0
IsCounted items l = l.state.counted ≡ counted_on items l

-- no content is kept that isn't needed
abbrev pub IsTrim : Delivery → Type 0
IsTrim d = trimmed d ≡ d

-- its delivery-id isn't above this one
abbrev pub IsUpTo : ℕ → Delivery → Type 0
IsUpTo top d = d.id ≤ top

-- the number of its link isn't below this one
abbrev pub IsLinkFrom : ℕ → Delivery → Type 0
IsLinkFrom low d = IfSome d.link (λ link. low ≤ link)

-- the offer of the link with this number, or of one below it
abbrev pub is_least : ℕ → Option Ranked → Bool
is_least low None = false
is_least low (Some r) = nat_le r.rank low

-- all of it
pub record IsKept (links : List ReceivingLink) (items : List Delivery) (counts : Counts)
    (arrived tags front top low : ℕ) : Type 0 where
  pub counted : AllByRecursion (IsCounted items) links
  pub counts_are : counts ≡ counts_of items
  pub trim : AllByRecursion IsTrim items
  -- so many numbers were given, and they rise
  pub rising : Rising number_of 0 items
  pub given : AllByRecursion (λ d. d.number ≤ arrived) items
  -- so many tags were given, each to one delivery
  pub tagged : AllByRecursion (λ d. d.tag ≤ tags) items
  pub once : (tag : ℕ) → count_by (is_tagged (tag + 1)) items ≤ 1
  -- no delivery-id is above top
  pub topped : AllByRecursion (IsUpTo top) items
  -- no number of a link is below low
  pub linked : AllByRecursion (IsLinkFrom low) items
  -- no content of one before front is needed
  pub ahead : AllFrom needs_content front items
