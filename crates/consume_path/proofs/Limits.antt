-- Bounds: what all links have unsettled bounds what one of them has, and an id all ids.
use Rattle.std.proofs.Common.{◌≡◌, ◌∙◌, ℕ, ◌≤◌, ◌<◌, List, [], ◌∷◌, Bool, true, false, refl, sym, subst}
use Rattle.std.proofs.Common.{arith, drop, cond, Option, Some, None}
use Rattle.std.specs.Prelude.{IfSome, count_by, ◌&&◌, ◌==◌, nat_lt, nat_le}
use Rattle.std.specs.List.{AllByRecursion, list_any}
use Rattle.std.proofs.lemmas.Bool.Decides.{nat_tests}
use Rattle.std.proofs.lemmas.List.{map-id}
use Rattle.open_items.proofs.Filtered.{all_drop}
use Rattle.open_items.proofs.Places.{count_fewer}
use Rattle.consume_path.specs.declared.delivery.Delivery.{Delivery}
use Rattle.consume_path.specs.declared.searches.Ranked.{Ranked}
use Rattle.consume_path.specs.Items.{is_held, is_on}
use Rattle.consume_path.specs.Offers.{has_open_id, has_room, is_unsettled, unsettled_on}
use Rattle.consume_path.specs.Offers.{sooner, soonest, rank_of, consumes, is_within, consuming, on_link}
use Rattle.consume_path.specs.Offers.{deliver_of, consumer_offer}
use Rattle.consume_path.specs.Kept.{IsLinkFrom, IsUpTo, is_least}

fewer_on : (link : ℕ) (items : List Delivery) → count_by (unsettled_on link) items ≤ count_by is_unsettled items
fewer_on link items =
    subst (λ ds. count_by (unsettled_on link) ds ≤ count_by is_unsettled items) (map-id items) (count_fewer (unsettled_on link) is_unsettled (λ d. d) (λ d. d ≡ d) (λ d same is. right (is_on link d.link) (is_unsettled d) is) items (each items))
  where
    right : (b c : Bool) → (b && c) ≡ true → c ≡ true
    right true c e = e
    right false c e = absurd (cc)

    each : (ds : List Delivery) → AllByRecursion (λ d. d ≡ d) ds
    each [] = tt
    each (d ∷ ds) = (refl, each ds)

fewer_fit : (limit : Option ℕ) (m n : ℕ) → m ≤ n → has_room limit n ≡ true → has_room limit m ≡ true
fewer_fit None m n le e = refl
fewer_fit (Some most) m n le e = grind (arith, nat_tests)

pub has_room_of_all : (limit : Option ℕ) (link n : ℕ) (items : List Delivery) → n ≡ count_by is_unsettled items → has_room limit n ≡ true → has_room limit (count_by (unsettled_on link) items) ≡ true
has_room_of_all limit link n items is room =
    let fewer : count_by (unsettled_on link) items ≤ count_by is_unsettled items = fewer_on link items in
    fewer_fit limit (count_by (unsettled_on link) items) n (omega arith) room

-- no delivery has an id above the greatest
pub none_above : (top id : ℕ) (items : List Delivery) → AllByRecursion (IsUpTo top) items → top < id → nat_le id top ≡ list_any (has_open_id id) items
none_above top id items a lt = more ∙ sym (each items a)
  where
    more : nat_le id top ≡ false
    more = grind (arith, nat_tests)

    other : (i : ℕ) → i ≤ top → (i == id) ≡ false
    other i le = grind (arith, nat_tests)

    each : (ds : List Delivery) → AllByRecursion (IsUpTo top) ds → list_any (has_open_id id) ds ≡ false
    each [] a = refl
    each (d ∷ ds) a = rw (other d.id a.0) (each ds a.1)

-- no link has a number below the least

abbrev IsRankFrom : ℕ → Option Ranked → Type 0
IsRankFrom low o = IfSome o (λ r. low ≤ r.rank)

offers_from : (low : ℕ) (free : Bool) (list : List Delivery) (d : Delivery) → IsLinkFrom low d → IsRankFrom low (consumer_offer free list d)
offers_from low free list d le = held (is_held d.place) d.link le
  where
    held : (b : Bool) (own : Option ℕ) → IfSome own (λ link. low ≤ link) → IsRankFrom low (cond b (on_link own (λ link. consuming free (count_by (unsettled_on link) list) d.taker (deliver_of link d))) None)
    held false own le = tt
    held true None le = tt
    held true (Some link) le = room (consumes d.taker && is_within free (count_by (unsettled_on link) list) d.taker)
      where
        room : (b : Bool) → IsRankFrom low (cond b (Some (record { rank = link; next = deliver_of link d })) None)
        room true = le
        room false = tt

soonest_from : (low : ℕ) (free : Bool) (list ds : List Delivery) → AllByRecursion (IsLinkFrom low) ds → IsRankFrom low (soonest rank_of (consumer_offer free list) ds)
soonest_from low free list [] a = tt
soonest_from low free list (d ∷ ds) a = both (consumer_offer free list d) (soonest rank_of (consumer_offer free list) ds) (offers_from low free list d a.0) (soonest_from low free list ds a.1)
  where
    both : (o p : Option Ranked) → IsRankFrom low o → IsRankFrom low p → IsRankFrom low (sooner rank_of o p)
    both None p m n = n
    both (Some q) None m n = m
    both (Some q) (Some r) m n = pick (nat_lt r.rank q.rank)
      where
        pick : (b : Bool) → IsRankFrom low (cond b (Some r) (Some q))
        pick true = n
        pick false = m

-- none of the rest comes before one of the least link
pub least_first : (low : ℕ) (free : Bool) (list : List Delivery) (best : Option Ranked) (n : ℕ) (rest : List Delivery) → is_least low best ≡ true → AllByRecursion (IsLinkFrom low) rest → sooner rank_of best (soonest rank_of (consumer_offer free list) (drop n rest)) ≡ best
least_first low free list best n rest least a = by best (soonest rank_of (consumer_offer free list) (drop n rest)) least (soonest_from low free list (drop n rest) (all_drop (IsLinkFrom low) n rest a))
  where
    by : (o p : Option Ranked) → is_least low o ≡ true → IsRankFrom low p → sooner rank_of o p ≡ o
    by None p e le = absurd (cc)
    by (Some q) None e le = refl
    by (Some q) (Some r) e le = let no : nat_lt r.rank q.rank ≡ false = grind (arith, nat_tests) in rw no refl
