-- What is kept beside the deliveries stays true, whatever happens to them.
use Rattle.std.proofs.Common.{◌≡◌, ◌∙◌, ℕ, ◌+◌, ◌-◌, ◌^◌, ◌≤◌, ◌<◌, List, [], ◌∷◌, ◌++◌, Bool, true}
use Rattle.std.proofs.Common.{false, refl, sym, ap, subst, arith, cond, map, length, Option, Some, None}
use Rattle.std.specs.Prelude.{IfSome, filter, find, count_by, is_some, ◌==◌, not, ◌&&◌, ◌||◌, nat_lt}
use Rattle.std.specs.List.{AllByRecursion, slice_get}
use Rattle.std.proofs.Math.Bool.{and-false, or-false}
use Rattle.std.proofs.lemmas.Grind.{common_steps}
use Rattle.std.proofs.lemmas.Bool.Decides.{nat_tests}
use Rattle.std.proofs.lemmas.List.Recursion.{is_count_by}
use Rattle.std.proofs.lemmas.List.Sums.{count_by-le-length, sum_by_push}
use Rattle.links_10.specs.Recv.{recounted, after_attach, after_peer_flow, after_grant, after_cancel}
use Rattle.links_10.specs.Recv.{after_arrival}
use Rattle.links_10.specs.declared.recv.Receiving.{Receiving}
use Rattle.open_items.proofs.Filtered.{all_map, all_filter, all_weaker, all_push, count_by-filter}
use Rattle.open_items.specs.Places.{AllFrom, place_from}
use Rattle.open_items.proofs.Numbered.{Rising, rising_push, rising_map, rising_filter}
use Rattle.open_items.proofs.Places.{none_counted, count_open, count_fewer, from_start, from_on}
use Rattle.open_items.proofs.Places.{from_map, from_push, IsBetween}
use Rattle.open_items.specs.declared.lost.LostKind.{LostKind}
use Rattle.consume_path.specs.declared.changes.Change.{Change}
use Rattle.consume_path.specs.declared.changes.Change.TheVariants.{Delivered, Written, Answered}
use Rattle.consume_path.specs.declared.changes.Change.TheVariants.{Cancelled as GoesBack, Closed}
use Rattle.consume_path.specs.declared.changes.Change.TheVariants.{EndLost, SettleSent}
use Rattle.consume_path.specs.declared.changes.Change.TheVariants.{LinkDropped, Reported}
use Rattle.consume_path.specs.declared.delivery.Arriving.{Arriving}
use Rattle.consume_path.specs.declared.delivery.Content.{Content}
use Rattle.consume_path.specs.declared.delivery.Delivery.{Delivery}
use Rattle.consume_path.specs.declared.delivery.Place.{Place}
use Rattle.consume_path.specs.declared.delivery.Place.TheVariants.{Held, Out, Owed, Settled}
use Rattle.consume_path.specs.declared.delivery.NextSettle.{NextSettle}
use Rattle.consume_path.specs.declared.delivery.Settle.{Settle}
use Rattle.consume_path.specs.declared.delivery.Settle.TheVariants.{Accepted}
use Rattle.consume_path.specs.declared.link_changes.LinkChange.{LinkChange}
use Rattle.consume_path.specs.declared.link_changes.LinkChange.TheVariants.{Attached, Flowed, Echoed}
use Rattle.consume_path.specs.declared.link_changes.LinkChange.TheVariants.{Waits, Cancelled}
use Rattle.consume_path.specs.declared.link_changes.LinkChange.TheVariants.{FlowSent, Emptied}
use Rattle.consume_path.specs.declared.receiving.Part.{Part}
use Rattle.consume_path.specs.declared.receiving.ReceivingLink.{ReceivingLink}
use Rattle.consume_path.specs.declared.tallies.Counts.{Counts}
use Rattle.consume_path.specs.Items.{is_on, is_open, is_held, is_out, owes, owes_as, in_range, is_no_ack}
use Rattle.consume_path.specs.Items.{needs_content, trimmed}
use Rattle.consume_path.specs.Items.{delivers, is_outstanding, owed_place, new_delivery, moved, changed}
use Rattle.consume_path.specs.Links.{has_number, change_first, begun, transfer_came, taken_from}
use Rattle.consume_path.specs.Links.{link_changed, link_closed, without, counts_on, one_if}
use Rattle.consume_path.specs.Links.{recount}
use Rattle.consume_path.specs.Deliveries.{DeliveryState, LinesTold, with_list, after_event}
use Rattle.consume_path.specs.Kept.{number_of, is_numbered, is_tagged, begins, is_there, visit_at}
use Rattle.consume_path.specs.Kept.{is_owing, is_waiting, has_line, is_writing, tally_of, no_tally, exchanged, counts_of}
use Rattle.consume_path.specs.Kept.{counts_after, tallied, taken_counted, came_counted, IsCounted}
use Rattle.consume_path.specs.Kept.{IsTrim, IsUpTo, IsLinkFrom, IsKept, counted_anew}
use Rattle.consume_path.specs.Offers.{added, settle_from, next_settle_of, is_unsettled, lines_of}
use Rattle.consume_path.proofs.Passing.{numbered_once, visit_between}
use Rattle.consume_path.proofs.Steps.{counts_on_closed, recounts_seen, changed_seen, open_open, add_seen}
use Rattle.consume_path.proofs.Steps.{settle_seen, unsettled_closed}
use Rattle.consume_path.proofs.Visited.{exchange_is, at_most_one, all_same, counts_push, tallied_push}

-- counting anew

-- where each link is counted, it changes nothing
pub recount_same : (items : List Delivery) (links : List ReceivingLink) → AllByRecursion (IsCounted items) links → map (recount items) links ≡ links
recount_same items [] a = refl
recount_same items (l ∷ ls) a =
    ap (λ n. record l { state = recounted n l.state } ∷ map (recount items) ls) (sym a.0) ∙ ap (λ xs. l ∷ xs) (recount_same items ls a.1)

-- each is counted then
pub recount_counts : (items : List Delivery) (links : List ReceivingLink) → AllByRecursion (IsCounted items) (map (recount items) links)
recount_counts items [] = tt
recount_counts items (l ∷ ls) = (refl, recount_counts items ls)

-- no content is kept that isn't needed

trim_twice : (d : Delivery) → IsTrim (trimmed d)
trim_twice d = ap (λ c. record d { content = c }) (by (needs_content d))
  where
    by : (b : Bool) → cond b (cond b d.content None) None ≡ cond b d.content None
    by true = refl
    by false = refl

all_trim : (change : Change) (items : List Delivery) → AllByRecursion IsTrim (map (changed change) items)
all_trim change [] = tt
all_trim change (d ∷ ds) = (trim_twice (moved change d), all_trim change ds)

-- each delivery is changed

same_number : (change : Change) (d : Delivery) → (changed change d).number ≡ d.number
same_number (Delivered number tag) d = refl
same_number (Written tag) d = refl
same_number (Answered tag multiple settle) d = refl
same_number (GoesBack link) d = refl
same_number Closed d = refl
same_number EndLost d = refl
same_number (SettleSent settle) d = refl
same_number (LinkDropped link) d = refl
same_number Reported d = refl

same_id : (change : Change) (d : Delivery) → (changed change d).id ≡ d.id
same_id (Delivered number tag) d = refl
same_id (Written tag) d = refl
same_id (Answered tag multiple settle) d = refl
same_id (GoesBack link) d = refl
same_id Closed d = refl
same_id EndLost d = refl
same_id (SettleSent settle) d = refl
same_id (LinkDropped link) d = refl
same_id Reported d = refl

stays_from : (low : ℕ) (change : Change) (d : Delivery) → IsLinkFrom low d → IsLinkFrom low (changed change d)
stays_from low (Delivered number tag) d le = le
stays_from low (Written tag) d le = le
stays_from low (Answered tag multiple settle) d le = le
stays_from low (GoesBack link) d le = le
stays_from low Closed d le = le
stays_from low EndLost d le = le
stays_from low (SettleSent settle) d le = le
stays_from low (LinkDropped link) d le = by (is_on link d.link)
  where
    by : (b : Bool) → IfSome (cond b None d.link) (λ own. low ≤ own)
    by true = tt
    by false = le
stays_from low Reported d le = le

same_tag : (change : Change) → begins change ≡ false → (d : Delivery) → (changed change d).tag ≡ d.tag
same_tag (Delivered number tag) none d = absurd (cc)
same_tag (Written tag) none d = refl
same_tag (Answered tag multiple settle) none d = refl
same_tag (GoesBack link) none d = refl
same_tag Closed none d = refl
same_tag EndLost none d = refl
same_tag (SettleSent settle) none d = refl
same_tag (LinkDropped link) none d = refl
same_tag Reported none d = refl

stays_without : (change : Change) (d : Delivery) → needs_content d ≡ false → needs_content (changed change d) ≡ false
stays_without (Delivered number tag) d e = grind (arith, common_steps)
stays_without (Written tag) d e = grind (arith, common_steps)
stays_without (Answered tag multiple settle) d e = grind (arith, common_steps)
stays_without (GoesBack link) d e = grind (arith, common_steps)
stays_without Closed d e = grind (arith, common_steps)
stays_without EndLost d e = grind (arith, common_steps)
stays_without (SettleSent settle) d e = grind (arith, common_steps)
stays_without (LinkDropped link) d e = e
stays_without Reported d e = e

-- the place goes on
pub kept_front : {links : List ReceivingLink} {items : List Delivery} {counts : Counts} {n m f u w : ℕ} → IsKept links items counts n m f u w → {place : ℕ} → place ≡ place_from needs_content f items → IsKept links items counts n m place u w
kept_front {links} {items} {counts} {n} {m} {f} {u} {w} k {place} e = record {
  counted = k.counted;
  counts_are = k.counts_are;
  trim = k.trim;
  rising = k.rising;
  given = k.given;
  tagged = k.tagged;
  once = k.once;
  topped = k.topped;
  linked = k.linked;
  ahead = subst (λ i. AllFrom needs_content i items) (sym e) (from_on needs_content f items k.ahead);
}

-- other bounds hold too
pub kept_bounds : {links : List ReceivingLink} {items : List Delivery} {counts : Counts} {n m f u w : ℕ} → IsKept links items counts n m f u w → {top low : ℕ} → AllByRecursion (IsUpTo top) items → AllByRecursion (IsLinkFrom low) items → IsKept links items counts n m f top low
kept_bounds {links} {items} {counts} {n} {m} {f} {u} {w} k {top} {low} topped linked =
    record { counted = k.counted; counts_are = k.counts_are; trim = k.trim; rising = k.rising; given = k.given; tagged = k.tagged; once = k.once; topped = topped; linked = linked; ahead = k.ahead }

-- what is kept of the tags
abbrev HaveTags : List Delivery → ℕ → Type 0
HaveTags items m = AllByRecursion (λ d. d.tag ≤ m) items × ((tag : ℕ) → count_by (is_tagged (tag + 1)) items ≤ 1)

changed_kept : {links : List ReceivingLink} {items : List Delivery} {counts : Counts} {n m f u w : ℕ} → IsKept links items counts n m f u w → (change : Change) → {after : List ReceivingLink} {now : List Delivery} {later : Counts} {high : ℕ} → now ≡ map (changed change) items → after ≡ map (recount now) links → later ≡ counts_of now
    → HaveTags (map (changed change) items) high → IsKept after now later n high f u w
changed_kept {links} {items} {counts} {n} {m} {f} {u} {w} k change {after} {now} {later} {high} e g counted tags = record {
  counted = subst (AllByRecursion (IsCounted now)) (sym g) (recount_counts now links);
  counts_are = counted;
  trim = subst (AllByRecursion IsTrim) (sym e) (all_trim change items);
  rising = subst (Rising number_of 0) (sym e) (rising_map number_of (changed change) (same_number change) 0 items k.rising);
  given = subst (AllByRecursion (λ d. d.number ≤ n)) (sym e) (all_map (changed change) _ _ (λ d le. subst (λ i. i ≤ n) (sym (same_number change d)) le) items k.given);
  tagged = subst (AllByRecursion (λ d. d.tag ≤ high)) (sym e) tags.0;
  once = λ tag. subst (λ ds. count_by (is_tagged (tag + 1)) ds ≤ 1) (sym e) (tags.1 tag);
  topped = subst (AllByRecursion (IsUpTo u)) (sym e) (all_map (changed change) _ _ (λ d le. subst (λ i. i ≤ u) (sym (same_id change d)) le) items k.topped);
  linked = subst (AllByRecursion (IsLinkFrom w)) (sym e) (all_map (changed change) (IsLinkFrom w) (IsLinkFrom w) (stays_from w change) items k.linked);
  ahead = subst (AllFrom needs_content f) (sym e) (from_map needs_content (changed change) f items (stays_without change) k.ahead);
}

pub kept_change : {links : List ReceivingLink} {items : List Delivery} {counts : Counts} {n m f u w : ℕ} → IsKept links items counts n m f u w → (change : Change) → begins change ≡ false → {after : List ReceivingLink} {now : List Delivery} {later : Counts} → now ≡ map (changed change) items → after ≡ map (recount now) links → later ≡ counts_of now → IsKept after now later n m f u w
kept_change {links} {items} {counts} {n} {m} {f} {u} {w} k change none {after} {now} {later} e g counted = changed_kept k change e g counted (
  all_map (changed change) _ _ (λ d le. subst (λ t. t ≤ m) (sym (same_tag change none d)) le) items k.tagged,
  λ tag. let before : count_by (is_tagged (tag + 1)) items ≤ 1 = k.once tag in
      let fewer : count_by (is_tagged (tag + 1)) (map (changed change) items) ≤ count_by (is_tagged (tag + 1)) items = count_fewer (is_tagged (tag + 1)) (is_tagged (tag + 1)) (changed change) (λ d. d.tag ≤ m) (λ d le is. ap (λ t. t == tag + 1) (sym (same_tag change none d)) ∙ is) items k.tagged in
      omega arith,
)

-- a deliver begins, with the next tag
pub kept_delivered : {links : List ReceivingLink} {items : List Delivery} {counts : Counts} {n m f u w : ℕ} → IsKept links items counts n m f u w → (number : ℕ) → {after : List ReceivingLink} {now : List Delivery} {later : Counts} → now ≡ map (changed (Delivered number (m + 1))) items → after ≡ map (recount now) links → later ≡ counts_of now → IsKept after now later n (m + 1) f u w
kept_delivered {links} {items} {counts} {n} {m} {f} {u} {w} k number {after} {now} {later} e g counted = changed_kept k (Delivered number (m + 1)) e g counted (all_map step _ _ (λ d le. more d le (delivers number d)) items k.tagged, λ tag. by tag (tag == m) refl)
  where
    step : Delivery → Delivery
    step = changed (Delivered number (m + 1))

    more : (d : Delivery) → d.tag ≤ m → (b : Bool) → cond b (m + 1) d.tag ≤ m + 1
    more d le true = omega arith
    more d le false = omega arith

    equal : (i j : ℕ) → (i == j) ≡ true → i ≡ j
    equal i j e = grind (arith, nat_tests)

    other : (i j : ℕ) → (i == j) ≡ false → (i ≡ j → ⊥)
    other i j e is = grind (arith, nat_tests)

    left : (b c : Bool) → (b && c) ≡ true → b ≡ true
    left true c e = refl
    left false c e = absurd (cc)

    -- the new tag is that of the one with the number
    new : (d : Delivery) (b : Bool) → delivers number d ≡ b → d.tag ≤ m → (cond b (m + 1) d.tag == m + 1) ≡ true → is_numbered number d ≡ true
    new d true is le e = left (is_numbered number d) (is_held d.place) is
    new d false is le e = absurd (let same : d.tag ≡ m + 1 = equal d.tag (m + 1) e in omega arith)

    old : (tag : ℕ) → (tag == m) ≡ false → (d : Delivery) (b : Bool) → (cond b (m + 1) d.tag == tag + 1) ≡ true → is_tagged (tag + 1) d ≡ true
    old tag none d true e = absurd (let same : m + 1 ≡ tag + 1 = equal (m + 1) (tag + 1) e in other tag m none (omega arith))
    old tag none d false e = e

    by : (tag : ℕ) (b : Bool) → (tag == m) ≡ b → count_by (is_tagged (tag + 1)) (map step items) ≤ 1
    by tag true e =
        let same : m ≡ tag = sym (equal tag m e) in
        let one : count_by (is_numbered number) items ≤ 1 = numbered_once number 0 items k.rising in
        let fewer : count_by (is_tagged (m + 1)) (map step items) ≤ count_by (is_numbered number) items = count_fewer (is_tagged (m + 1)) (is_numbered number) step (λ d. d.tag ≤ m) (λ d le is. new d (delivers number d) refl le is) items k.tagged in
        subst (λ t. count_by (is_tagged (t + 1)) (map step items) ≤ 1) same (omega arith)
    by tag false e =
        let one : count_by (is_tagged (tag + 1)) items ≤ 1 = k.once tag in
        let fewer : count_by (is_tagged (tag + 1)) (map step items) ≤ count_by (is_tagged (tag + 1)) items = count_fewer (is_tagged (tag + 1)) (is_tagged (tag + 1)) step (λ d. d.tag ≤ m) (λ d le is. old tag e d (delivers number d) is) items k.tagged in
        omega arith

-- what contracts see of it
pub change_view : {v s : DeliveryState} → v ≡ s → (change : Change) → (links : List ReceivingLink) (items : List Delivery) → v.links ≡ links → v.list ≡ filter is_open items → {after : List ReceivingLink} {now : List Delivery} → now ≡ map (changed change) items → after ≡ map (recount now) links
    → record v { links = after; list = filter is_open now } ≡ with_list (filter is_open (map (changed change) s.list)) s
change_view {v} {s} view change links items same seen {after} {now} e g =
    ap (λ (ls : List ReceivingLink). record v { links = ls; list = filter is_open now }) links_are
    ∙ ap (λ (ds : List Delivery). record v { links = map (recount (list v)) v.links; list = ds }) list_is
    ∙ ap (λ (t : DeliveryState). with_list (list t) t) view
  where
    list : DeliveryState → List Delivery
    list t = filter is_open (map (changed change) t.list)

    list_is : filter is_open now ≡ list v
    list_is = ap (filter is_open) e ∙ changed_seen change items ∙ ap (λ ds. filter is_open (map (changed change) ds)) (sym seen)

    links_are : after ≡ map (recount (list v)) v.links
    links_are = g ∙ sym (recounts_seen now links) ∙ ap (λ ds. map (recount ds) links) list_is ∙ ap (map (recount (list v))) (sym same)

-- the closed ones are left out

open_counted : (items : List Delivery) (links : List ReceivingLink) → AllByRecursion (IsCounted items) links → AllByRecursion (IsCounted (filter is_open items)) links
open_counted items [] a = tt
open_counted items (l ∷ ls) a =
    (a.0 ∙ ap (λ n. n + one_if (is_some l.partial)) (sym (count_by-filter is_open (counts_on l.link) (counts_on_closed l.link) items)), open_counted items ls a.1)

counts_seen : (items : List Delivery) → counts_of (filter is_open items) ≡ counts_of items
counts_seen items =
    all_same (count_by-filter is_open has_line (λ d e. grind (arith, common_steps)) items) (count_by-filter is_open is_writing (λ d e. grind (arith, common_steps)) items) (count_by-filter is_open is_owing (λ d e. grind (arith, common_steps)) items)
    (count_by-filter is_open is_unsettled unsettled_closed items) (count_by-filter is_open is_waiting (λ d e. grind (arith, common_steps)) items)

pub kept_open : {links : List ReceivingLink} {items : List Delivery} {counts : Counts} {n m f u w : ℕ} → IsKept links items counts n m f u w → {now : List Delivery} → now ≡ filter is_open items → IsKept links now counts n m 0 u w
kept_open {links} {items} {counts} {n} {m} {f} {u} {w} k {now} e = subst (λ ds. IsKept links ds counts n m 0 u w) (sym e) (record {
  counted = open_counted items links k.counted;
  counts_are = k.counts_are ∙ sym (counts_seen items);
  trim = all_filter is_open IsTrim items k.trim;
  rising = rising_filter number_of is_open 0 items k.rising;
  given = all_filter is_open _ items k.given;
  topped = all_filter is_open (IsUpTo u) items k.topped;
  linked = all_filter is_open (IsLinkFrom w) items k.linked;
  ahead = from_start needs_content (filter is_open items);
  tagged = all_filter is_open _ items k.tagged;
  once = λ tag. let one : count_by (is_tagged (tag + 1)) items ≤ 1 = k.once tag in let fewer : count_by (is_tagged (tag + 1)) (filter is_open items) ≤ count_by (is_tagged (tag + 1)) items = count_open (is_tagged (tag + 1)) is_open items in omega arith;
})

-- one is added

-- it counts on its link
pub push_seen : {links : List ReceivingLink} {items : List Delivery} {counts : Counts} {n m f u w : ℕ} → IsKept links items counts n m f u w → length items < 2 ^ 63 → (d : Delivery) → map (tallied no_tally (tally_of d)) links ≡ map (recount (items ++ d ∷ [])) links
push_seen {links} {items} {counts} {n} {m} {f} {u} {w} k long d = ap (map (tallied no_tally (tally_of d))) (sym (recount_same items links k.counted)) ∙ tallied_push items d long links

pub kept_push : {links : List ReceivingLink} {items : List Delivery} {counts : Counts} {n m f u w : ℕ} → IsKept links items counts n m f u w → length items < 2 ^ 63 → (closed : Bool) (a : Arriving) (content : Option Content) (again : Bool)
    → {after : List ReceivingLink} {now : List Delivery} {later : Counts} {v x : ℕ} → (d : Delivery) → d ≡ new_delivery closed (n + 1) a content again → now ≡ items ++ d ∷ [] → after ≡ map (tallied no_tally (tally_of d)) links → later ≡ counts_after no_tally (tally_of d) counts → u ≤ v → a.id ≤ v → x ≤ w → x ≤ a.link → IsKept after now later (n + 1) m f v x
kept_push {links} {items} {counts} {n} {m} {f} {u} {w} k long closed a content again {after} {now} {later} {v} {x} d is e g counted most least before own = subst (λ ds. IsKept after ds later (n + 1) m f v x) (sym e) (record {
  counted = subst (AllByRecursion (IsCounted (items ++ d ∷ []))) (sym (g ∙ push_seen k long d)) (recount_counts (items ++ d ∷ []) links);
  counts_are = counted ∙ counts_push items d long counts k.counts_are;
  trim = all_push IsTrim items d k.trim (subst IsTrim (sym is) (trim_twice _));
  rising = rising_push number_of 0 n items d (omega arith) k.given number k.rising;
  given = all_push _ items d (all_weaker (λ d. d.number ≤ n) _ (λ d le. omega arith) items k.given) (omega (arith, number));
  topped = all_push (IsUpTo v) items d (all_weaker (IsUpTo u) (IsUpTo v) (λ d le. omega arith) items k.topped) (subst (λ i. i ≤ v) (sym (ap (λ (x : Delivery). x.id) is)) least);
  linked = all_push (IsLinkFrom x) items d (all_weaker (IsLinkFrom w) (IsLinkFrom x) (λ d le. lower d.link le) items k.linked) (subst (λ o. IfSome o (λ link. x ≤ link)) (sym (ap (λ (y : Delivery). y.link) is)) own);
  ahead = from_push needs_content f items d k.ahead;
  tagged = all_push _ items d k.tagged (omega (arith, untagged));
  once = λ tag.
      let one : count_by (is_tagged (tag + 1)) items ≤ 1 = k.once tag in
      let more : count_by (is_tagged (tag + 1)) (items ++ d ∷ []) ≡ count_by (is_tagged (tag + 1)) items + cond (is_tagged (tag + 1) d) 1 0 = sum_by_push (λ x. cond (is_tagged (tag + 1) x) 1 0) items d in
      let none : cond {A = ℕ} (is_tagged (tag + 1) d) 1 0 ≡ 0 = ap (λ (b : Bool). cond {A = ℕ} b 1 0) (ap (λ (t : ℕ). t == tag + 1) untagged ∙ never tag) in
      omega (arith, one, more, none);
})
  where
    lower : (own : Option ℕ) → IfSome own (λ link. w ≤ link) → IfSome own (λ link. x ≤ link)
    lower None le = tt
    lower (Some link) le = omega arith

    untagged : d.tag ≡ 0
    untagged = ap (λ (x : Delivery). x.tag) is

    never : (t : ℕ) → (0 == t + 1) ≡ false
    never t = grind (arith, nat_tests)

    number : d.number ≡ n + 1
    number = ap (λ (x : Delivery). x.number) is

-- what contracts see of it
pub push_view : {links : List ReceivingLink} {items : List Delivery} {counts : Counts} {n m f u w : ℕ} → IsKept links items counts n m f u w → length items < 2 ^ 63 → {v s : DeliveryState} → v ≡ s → v.links ≡ links → v.list ≡ filter is_open items
    → (a : Arriving) (content : Option Content) (again : Bool) → {after : List ReceivingLink} {now : List Delivery} → (d : Delivery) → d ≡ new_delivery v.closed (v.arrived + 1) a content again → now ≡ items ++ d ∷ [] → after ≡ map (tallied no_tally (tally_of d)) links
    → record v { links = after; list = filter is_open now; arrived = v.arrived + 1 } ≡ counted_anew (added a content again s)
push_view {links} {items} {counts} {n} {m} {f} {u} {w} k long {v} {s} view same seen a content again {after} {now} d is e g =
    ap (λ ls. record v { links = ls; list = filter is_open now; arrived = v.arrived + 1 }) links_are
    ∙ ap (λ ds. record v { links = map (recount list) v.links; list = ds; arrived = v.arrived + 1 }) list_is
    ∙ ap (λ t. counted_anew (added a content again t)) view
  where
    new : Delivery
    new = new_delivery v.closed (v.arrived + 1) a content again

    list : List Delivery
    list = v.list ++ new ∷ []

    list_is : filter is_open now ≡ list
    list_is = ap (filter is_open) (e ∙ ap (λ x. items ++ x ∷ []) is) ∙ add_seen items v.closed (v.arrived + 1) a content again ∙ ap (λ ds. ds ++ new ∷ []) (sym seen)

    links_are : after ≡ map (recount list) v.links
    links_are = g ∙ push_seen k long d ∙ ap (λ ds. map (recount ds) links) (sym e) ∙ sym (recounts_seen now links) ∙ ap (λ ds. map (recount ds) links) list_is ∙ ap (map (recount list)) (sym same)

-- each link is changed

pub with_links : {v s : DeliveryState} → v ≡ s → (f : DeliveryState → List ReceivingLink) → {links : List ReceivingLink} → links ≡ f v → record v { links = links } ≡ record s { links = f s }
with_links {v} {s} e f {links} is = ap (λ (ls : List ReceivingLink). record v { links = ls }) is ∙ ap (λ (t : DeliveryState). record t { links = f t }) e

pub kept_links : {links : List ReceivingLink} {items : List Delivery} {counts : Counts} {n m f u w : ℕ} → IsKept links items counts n m f u w → {after : List ReceivingLink} → AllByRecursion (IsCounted items) after → IsKept after items counts n m f u w
kept_links {links} {items} {counts} {n} {m} {f} {u} {w} k {after} counted = record { counted = counted; counts_are = k.counts_are; trim = k.trim; rising = k.rising; given = k.given; tagged = k.tagged; once = k.once; topped = k.topped; linked = k.linked; ahead = k.ahead }

same_counted : (b : Bool) (s t : Receiving) → t.counted ≡ s.counted → (cond b t s).counted ≡ s.counted
same_counted true s t e = e
same_counted false s t e = refl

flow_counted : (count : ℕ) (s : Receiving) → (after_peer_flow count s).counted ≡ s.counted
flow_counted count s = same_counted _ s _ refl

link_counted : (link : ℕ) (change : LinkChange) (items : List Delivery) (l : ReceivingLink) → IsCounted items l → IsCounted items (link_changed link change l)
link_counted link (Attached count) items l e = same_counted (has_number link l) l.state (after_attach count l.state) refl ∙ e
link_counted link (Flowed count) items l e = same_counted (has_number link l) l.state (after_peer_flow count l.state) (flow_counted count l.state) ∙ e
link_counted link Echoed items l e = e
link_counted link (Waits number no_ack) items l e = e
link_counted link Cancelled items l e = same_counted (has_number link l) l.state (after_cancel l.state) refl ∙ e
link_counted link (FlowSent credit cause) items l e = same_counted (has_number link l) l.state (after_grant credit l.state) refl ∙ e
link_counted link Emptied items l e = e

pub kept_link : {links : List ReceivingLink} {items : List Delivery} {counts : Counts} {n m f u w : ℕ} → IsKept links items counts n m f u w → (link : ℕ) (change : LinkChange) → {after : List ReceivingLink} → after ≡ map (link_changed link change) links → IsKept after items counts n m f u w
kept_link {links} {items} {counts} {n} {m} {f} {u} {w} k link change {after} e = kept_links k (subst (AllByRecursion (IsCounted items)) (sym e) (all_map (link_changed link change) _ _ (link_counted link change items) links k.counted))

pub kept_closed : {links : List ReceivingLink} {items : List Delivery} {counts : Counts} {n m f u w : ℕ} → IsKept links items counts n m f u w → {after : List ReceivingLink} → after ≡ map link_closed links → IsKept after items counts n m f u w
kept_closed {links} {items} {counts} {n} {m} {f} {u} {w} k {after} e = kept_links k (subst (AllByRecursion (IsCounted items)) (sym e) (all_map link_closed _ _ (λ l is. is) links k.counted))

pub kept_without : {links : List ReceivingLink} {items : List Delivery} {counts : Counts} {n m f u w : ℕ} → IsKept links items counts n m f u w → (link : ℕ) → {after : List ReceivingLink} → after ≡ without link links → IsKept after items counts n m f u w
kept_without {links} {items} {counts} {n} {m} {f} {u} {w} k link {after} e = kept_links k (subst (AllByRecursion (IsCounted items)) (sym e) (all_filter (λ l. not (has_number link l)) (IsCounted items) links k.counted))

pub kept_begun : {links : List ReceivingLink} {items : List Delivery} {counts : Counts} {n m f u w : ℕ} → IsKept links items counts n m f u w → (link : ℕ) → {after : List ReceivingLink} → after ≡ change_first (has_number link) begun links → IsKept after items counts n m f u w
kept_begun {links} {items} {counts} {n} {m} {f} {u} {w} k link {after} e = kept_links k (subst (AllByRecursion (IsCounted items)) (sym e) (each links k.counted))
  where
    begins : (l : ReceivingLink) → IsCounted items l → IsCounted items (begun l)
    begins l e = same_counted (not (is_some l.partial)) l.state (after_arrival l.state) refl ∙ e

    each : (ls : List ReceivingLink) → AllByRecursion (IsCounted items) ls → AllByRecursion (IsCounted items) (change_first (has_number link) begun ls)
    each [] a = tt
    each (l ∷ ls) a = by (has_number link l) (each ls a.1)
      where
        by : (b : Bool) → AllByRecursion (IsCounted items) (change_first (has_number link) begun ls) → AllByRecursion (IsCounted items) (cond b (begun l ∷ ls) (l ∷ change_first (has_number link) begun ls))
        by true ih = (begins l a.0, a.1)
        by false ih = (a.0, ih)

-- what is counted anew

pub kept_anew : {links : List ReceivingLink} {items : List Delivery} {counts : Counts} {n m f u w : ℕ} → IsKept links items counts n m f u w → (later : List ReceivingLink) → {after : List ReceivingLink} → after ≡ map (recount (filter is_open items)) later → IsKept after items counts n m f u w
kept_anew {links} {items} {counts} {n} {m} {f} {u} {w} k later {after} e = kept_links k (subst (AllByRecursion (IsCounted items)) (sym (e ∙ recounts_seen items later)) (recount_counts items later))

-- a link is added
pub link_added : {links : List ReceivingLink} {items : List Delivery} {counts : Counts} {n m f u w : ℕ} → IsKept links items counts n m f u w → (l : ReceivingLink) → links ++ recount items l ∷ [] ≡ map (recount (filter is_open items)) (links ++ l ∷ [])
link_added {links} {items} {counts} {n} {m} {f} {u} {w} k l = each links k.counted ∙ sym (recounts_seen items (links ++ l ∷ []))
  where
    each : (ls : List ReceivingLink) → AllByRecursion (IsCounted items) ls → ls ++ recount items l ∷ [] ≡ map (recount items) (ls ++ l ∷ [])
    each [] a = refl
    each (m ∷ ls) a =
        ap (λ xs. m ∷ xs) (each ls a.1) ∙ ap (λ n. record m { state = recounted n m.state } ∷ map (recount items) (ls ++ l ∷ [])) a.0

-- its whole delivery is taken
pub taken_seen : {links : List ReceivingLink} {items : List Delivery} {counts : Counts} {n m f u w : ℕ} → IsKept links items counts n m f u w → (link : ℕ) (image : Bool) → map (taken_counted link image) links ≡ map (recount (filter is_open items)) (map (taken_from link image) links)
taken_seen {links} {items} {counts} {n} {m} {f} {u} {w} k link image = each links k.counted ∙ sym (recounts_seen items (map (taken_from link image) links))
  where
    none_more : (n p : ℕ) → n + p - p ≡ n + 0
    none_more n p = omega arith

    one : (l : ReceivingLink) → IsCounted items l → (b : Bool) → cond b (l.state.counted - one_if (is_some l.partial)) l.state.counted ≡ count_by (counts_on l.link) items + one_if (is_some (cond b None l.partial))
    one l e true = ap (λ n. n - one_if (is_some l.partial)) e ∙ none_more (count_by (counts_on l.link) items) (one_if (is_some l.partial))
    one l e false = e

    each : (ls : List ReceivingLink) → AllByRecursion (IsCounted items) ls → map (taken_counted link image) ls ≡ map (recount items) (map (taken_from link image) ls)
    each [] a = refl
    each (l ∷ ls) a =
        ap (λ n. record (taken_from link image l) { state = recounted n l.state } ∷ map (taken_counted link image) ls) (one l a.0 (has_number link l))
        ∙ ap (λ xs. recount items (taken_from link image l) ∷ xs) (each ls a.1)

-- a transfer comes
pub came_seen : {links : List ReceivingLink} {items : List Delivery} {counts : Counts} {n m f u w : ℕ} → IsKept links items counts n m f u w → length items < 2 ^ 63 → (link : ℕ) (part : Part) (payload : List ℕ)
    → change_first (has_number link) (came_counted part payload) links ≡ map (recount (filter is_open items)) (change_first (has_number link) (transfer_came part payload) links)
came_seen {links} {items} {counts} {n} {m} {f} {u} {w} k long link part payload = each links k.counted ∙ sym (recounts_seen items (change_first (has_number link) (transfer_came part payload) links))
  where
    came : ReceivingLink → ReceivingLink
    came = transfer_came part payload

    here : (l : ReceivingLink) → IsCounted items l → came_counted part payload l ≡ recount items (came l)
    here l e =
        let n : ℕ = count_by (counts_on l.link) items in
        let most : n ≤ length items = count_by-le-length (counts_on l.link) items in
        let before : one_if (is_some l.partial) ≤ 1 = at_most_one (is_some l.partial) in
        ap (λ m. record (came l) { state = recounted (exchanged (is_some l.partial) (is_some (came l).partial) m) (came l).state }) e
        ∙ ap (λ m. record (came l) { state = recounted m (came l).state }) (exchange_is (is_some l.partial) (is_some (came l).partial) (n + one_if (is_some l.partial)) (n + one_if (is_some (came l).partial)) (omega arith) (omega arith) (omega arith))

    each : (ls : List ReceivingLink) → AllByRecursion (IsCounted items) ls → change_first (has_number link) (came_counted part payload) ls ≡ map (recount items) (change_first (has_number link) came ls)
    each [] a = refl
    each (l ∷ ls) a = by (has_number link l) (each ls a.1)
      where
        by : (b : Bool) → change_first (has_number link) (came_counted part payload) ls ≡ map (recount items) (change_first (has_number link) came ls)
            → cond b (came_counted part payload l ∷ ls) (l ∷ change_first (has_number link) (came_counted part payload) ls) ≡ map (recount items) (cond b (came l ∷ ls) (l ∷ change_first (has_number link) came ls))
        by true ih = ap (λ x. x ∷ ls) (here l a.0) ∙ ap (λ xs. recount items (came l) ∷ xs) (sym (recount_same items ls a.1))
        by false ih =
            ap (λ xs. l ∷ xs) ih ∙ ap (λ n. record l { state = recounted n l.state } ∷ map (recount items) (change_first (has_number link) came ls)) a.0

-- changes of one delivery

undelivered : (number tag : ℕ) (d : Delivery) → IsTrim d → is_numbered number d ≡ false → changed (Delivered number tag) d ≡ d
undelivered number tag d trim e =
    ap (λ b. trimmed (record d { tag = cond b tag d.tag; place = cond b Out d.place; writing = d.writing || b })) (ap (λ b. b && is_held d.place) e)
    ∙ ap (λ w. trimmed (record d { writing = w })) (or-false d.writing) ∙ trim

unwritten : (tag : ℕ) (d : Delivery) → IsTrim d → is_writing d ≡ false → changed (Written tag) d ≡ d
unwritten tag d trim e =
    ap (λ b. trimmed (record d { place = cond (b && is_out d.place && is_no_ack d.taker) (owed_place d.settled Accepted) d.place; writing = d.writing && not b; at_risk = d.at_risk && not b })) (ap (λ w. d.tag == tag && w) e ∙ and-false (d.tag == tag))
    ∙ ap (λ w. trimmed (record d { writing = w; at_risk = d.at_risk && true })) (same d.writing)
    ∙ ap (λ r. trimmed (record d { at_risk = r })) (same d.at_risk) ∙ trim
  where
    same : (b : Bool) → (b && true) ≡ b
    same true = refl
    same false = refl

unsettled : (s : NextSettle) (d : Delivery) → IsTrim d → is_owing d ≡ false → changed (SettleSent s) d ≡ d
unsettled s d trim e = ap (λ b. trimmed (record d { place = cond b Settled d.place })) (ap (λ b. b && in_range s.first s.last d.id) (none d.place e)) ∙ trim
  where
    none : (place : Place) → owes place ≡ false → owes_as s.settle place ≡ false
    none Held e = refl
    none Out e = refl
    none (Owed t) e = absurd (cc)
    none Settled e = refl

unanswered : (tag : ℕ) (s : Settle) (d : Delivery) → IsTrim d → is_tagged tag d ≡ false → changed (Answered tag false s) d ≡ d
unanswered tag s d trim e =
    ap (λ b. trimmed (record d { place = cond (is_outstanding d && (b || false)) (owed_place d.settled s) d.place })) e
    ∙ ap (λ b. trimmed (record d { place = cond b (owed_place d.settled s) d.place })) (and-false (is_outstanding d)) ∙ trim

pub delivered_between : {links : List ReceivingLink} {items : List Delivery} {counts : Counts} {n m f u w : ℕ} → IsKept links items counts n m f u w → (number tag : ℕ) (here : Bool) (place end : ℕ) → end ≡ length items → here ≡ is_there (is_numbered number) (slice_get items place)
    → IsBetween (changed (Delivered number tag)) (visit_at here place end).from (visit_at here place end).to items
delivered_between {links} {items} {counts} {n} {m} {f} {u} {w} k number tag here place end long is =
    visit_between (is_numbered number) (changed (Delivered number tag)) IsTrim (undelivered number tag) items k.trim here place end long (λ e. (numbered_once number 0 items k.rising, sym is ∙ e))

one : (m : ℕ) → (m == 1) ≡ true → m ≤ 1
one m e = grind (arith, nat_tests)

pub written_between : {links : List ReceivingLink} {items : List Delivery} {counts : Counts} {n m f u w : ℕ} → IsKept links items counts n m f u w → (tag : ℕ) (here : Bool) (place end : ℕ) → end ≡ length items → here ≡ ((counts.writing == 1) && is_there is_writing (slice_get items place))
    → IsBetween (changed (Written tag)) (visit_at here place end).from (visit_at here place end).to items
written_between {links} {items} {counts} {n} {m} {f} {u} {w} k tag here place end long is =
    visit_between is_writing (changed (Written tag)) IsTrim (unwritten tag) items k.trim here place end long (λ e. both (counts.writing == 1) (is_there is_writing (slice_get items place)) refl (sym is ∙ e))
  where
    both : (a b : Bool) → (counts.writing == 1) ≡ a → (a && b) ≡ true → (count_by is_writing items ≤ 1) × (b ≡ true)
    both true b e f = (subst (λ m. m ≤ 1) (ap (λ (c : Counts). c.writing) k.counts_are) (one counts.writing e), f)
    both false b e f = absurd (cc)

pub settled_between : {links : List ReceivingLink} {items : List Delivery} {counts : Counts} {n m f u w : ℕ} → IsKept links items counts n m f u w → (s : NextSettle) (here : Bool) (place end : ℕ) → end ≡ length items → here ≡ ((counts.owed == 1) && is_there is_owing (slice_get items place))
    → IsBetween (changed (SettleSent s)) (visit_at here place end).from (visit_at here place end).to items
settled_between {links} {items} {counts} {n} {m} {f} {u} {w} k s here place end long is =
    visit_between is_owing (changed (SettleSent s)) IsTrim (unsettled s) items k.trim here place end long (λ e. both (counts.owed == 1) (is_there is_owing (slice_get items place)) refl (sym is ∙ e))
  where
    both : (a b : Bool) → (counts.owed == 1) ≡ a → (a && b) ≡ true → (count_by is_owing items ≤ 1) × (b ≡ true)
    both true b e f = (subst (λ m. m ≤ 1) (ap (λ (c : Counts). c.owed) k.counts_are) (one counts.owed e), f)
    both false b e f = absurd (cc)

pub answered_between : {links : List ReceivingLink} {items : List Delivery} {counts : Counts} {n m f u w : ℕ} → IsKept links items counts n m f u w → (tag : ℕ) (multiple : Bool) (s : Settle) (here : Bool) (place end : ℕ) → end ≡ length items
    → here ≡ (not multiple && (nat_lt 0 tag && is_there (is_tagged tag) (slice_get items place))) → IsBetween (changed (Answered tag multiple s)) (visit_at here place end).from (visit_at here place end).to items
answered_between {links} {items} {counts} {n} {m} {f} {u} {w} k tag true s here place end long is =
    visit_between (λ d. true) (changed (Answered tag true s)) IsTrim (λ d trim e. absurd (cc)) items k.trim here place end long (λ e. absurd (let no : false ≡ true = sym is ∙ e in cc))
answered_between {links} {items} {counts} {n} {m} {f} {u} {w} k tag false s here place end long is =
    visit_between (is_tagged tag) (changed (Answered tag false s)) IsTrim (unanswered tag s) items k.trim here place end long (λ e. both (nat_lt 0 tag) (is_there (is_tagged tag) (slice_get items place)) refl (sym is ∙ e))
  where
    positive : (t : ℕ) → nat_lt 0 t ≡ true → 0 < t
    positive t e = grind (arith, nat_tests)

    both : (a b : Bool) → nat_lt 0 tag ≡ a → (a && b) ≡ true → (count_by (is_tagged tag) items ≤ 1) × (b ≡ true)
    both true b e f = (let up : 0 < tag = positive tag e in subst (λ t. count_by (is_tagged t) items ≤ 1) (omega arith) (k.once (tag - 1)), f)
    both false b e f = absurd (cc)

-- where none is owed a disposition, none is due
pub none_owed : {links : List ReceivingLink} {items : List Delivery} {counts : Counts} {n m f u w : ℕ} → IsKept links items counts n m f u w → counts.owed ≡ 0 → next_settle_of (filter is_open items) ≡ None
none_owed {links} {items} {counts} {n} {m} {f} {u} {w} k none = settle_seen items ∙ ap (settle_from items) (each items (none_counted is_owing items (sym (ap (λ (c : Counts). c.owed) k.counts_are) ∙ none)))
  where
    each : (ds : List Delivery) → AllByRecursion (λ d. is_owing d ≡ false) ds → find (λ d. owes d.place) ds ≡ None
    each [] a = refl
    each (d ∷ ds) a = rw a.0 (each ds a.1)

-- lines

-- a line is owed of so many
pub lines_counted : (life : ℕ) (ds : List Delivery) → length (lines_of life (filter is_open ds)) ≡ count_by has_line ds
lines_counted life = is_count_by (λ ds. length (lines_of life (filter is_open ds))) has_line refl (λ d ds. each d ds (is_open d) d.line refl)
  where
    each : (d : Delivery) (ds : List Delivery) (b : Bool) (o : Option LostKind)
        → (is_held d.place || is_out d.place || owes d.place || d.writing || d.at_risk || is_some o) ≡ b
        → length (lines_of life (cond b (record d { line = o } ∷ filter is_open ds) (filter is_open ds)))
        ≡ cond (is_some o) (1 + length (lines_of life (filter is_open ds))) (length (lines_of life (filter is_open ds)))
    each d ds true None e = refl
    each d ds false None e = refl
    each d ds true (Some kind) e = omega arith
    each d ds false (Some kind) e = absurd (closed (is_held d.place || is_out d.place || owes d.place || d.writing || d.at_risk) e)
      where
        closed : (a : Bool) → (a || true) ≡ false → ⊥
        closed true e = absurd (cc)
        closed false e = absurd (cc)

-- where no line is owed, none is reported
none_reported : {links : List ReceivingLink} {items : List Delivery} {counts : Counts} {n m f u w : ℕ} → IsKept links items counts n m f u w → counts.lines ≡ 0 → filter is_open (map (changed Reported) (filter is_open items)) ≡ filter is_open items
none_reported {links} {items} {counts} {n} {m} {f} {u} {w} k none = ap (filter is_open) (each (filter is_open items) (all_filter is_open IsTrim items k.trim) (all_filter is_open _ items (none_counted has_line items (sym (ap (λ (c : Counts). c.lines) k.counts_are) ∙ none)))) ∙ open_open items
  where
    empty : {A : Type 0} (o : Option A) → is_some o ≡ false → None ≡ o
    empty None e = refl
    empty (Some x) e = absurd (cc)

    each : (ds : List Delivery) → AllByRecursion IsTrim ds → AllByRecursion (λ d. has_line d ≡ false) ds → map (changed Reported) ds ≡ ds
    each [] a b = refl
    each (d ∷ ds) a b = ap (λ x. x ∷ map (changed Reported) ds) (ap (λ l. trimmed (record d { line = l })) (empty d.line b.0) ∙ a.0) ∙ ap (λ xs. d ∷ xs) (each ds a.1 b.1)

pub none_told : {links : List ReceivingLink} {items : List Delivery} {counts : Counts} {n m f u w : ℕ} → IsKept links items counts n m f u w → counts.lines ≡ 0 → (s : DeliveryState) → s.links ≡ links → s.list ≡ filter is_open items → s ≡ after_event LinesTold s
none_told {links} {items} {counts} {n} {m} {f} {u} {w} k none s same seen =
    sym (ap (λ list. record s { list = list; links = map (recount list) s.links }) (ap (λ ds. filter is_open (map (changed Reported) ds)) seen ∙ none_reported k none ∙ sym seen)
    ∙ ap (λ ls. record s { links = ls }) (ap (λ list. map (recount list) s.links) seen ∙ recounts_seen items s.links ∙ recount_same items s.links (subst (AllByRecursion (IsCounted items)) (sym same) k.counted)))
