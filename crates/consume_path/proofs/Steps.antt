-- What the open deliveries and the links offer and count is what all of them do.
use Rattle.std.proofs.Common.{◌≡◌, ◌∙◌, ℕ, zero, suc, ◌+◌, ◌-◌, ◌<◌, List, [], ◌∷◌, ◌++◌, Bool}
use Rattle.std.proofs.Common.{true}
use Rattle.std.proofs.Common.{false, refl, sym, ap, arith, cond, map, length, take, drop, set}
use Rattle.std.proofs.Common.{get_or, Option, Some, None}
use Rattle.std.specs.Prelude.{not, ◌&&◌, ◌||◌, ◌==◌, nat_lt, filter, find, count_by, is_some}
use Rattle.std.specs.List.{list_any}
use Rattle.std.specs.Option.{option_map, option_or}
use Rattle.std.proofs.lemmas.Grind.{common_steps}
use Rattle.std.proofs.lemmas.List.{drop_more, take-append-drop, take-set, drop-set}
use Rattle.links_10.specs.Recv.{recounted}
use Rattle.links_10.specs.Send.{advanced}
use Rattle.open_items.specs.declared.lost.LostKind.TheVariants.{DeliveryLost}
use Rattle.open_items.proofs.Filtered.{filter-map-filter, filter-filter, filter-push, find-filter}
use Rattle.open_items.proofs.Filtered.{count_by-filter, list_any-filter}
use Rattle.consume_path.specs.declared.changes.Change.{Change}
use Rattle.consume_path.specs.declared.changes.Change.TheVariants.{Delivered, Written, Answered}
use Rattle.consume_path.specs.declared.changes.Change.TheVariants.{Cancelled, Closed, EndLost}
use Rattle.consume_path.specs.declared.changes.Change.TheVariants.{SettleSent, LinkDropped}
use Rattle.consume_path.specs.declared.changes.Change.TheVariants.{Reported}
use Rattle.consume_path.specs.declared.delivery.Arriving.{Arriving}
use Rattle.consume_path.specs.declared.delivery.Content.{Content}
use Rattle.consume_path.specs.declared.delivery.Delivery.{Delivery}
use Rattle.consume_path.specs.declared.delivery.Place.{Place}
use Rattle.consume_path.specs.declared.delivery.Place.TheVariants.{Held, Out, Owed, Settled}
use Rattle.consume_path.specs.declared.delivery.Settle.{Settle}
use Rattle.consume_path.specs.declared.delivery.Taker.{Taker}
use Rattle.consume_path.specs.declared.delivery.Taker.TheVariants.{Nobody, Getter, Consumer}
use Rattle.consume_path.specs.declared.receiving.Part.{Part}
use Rattle.consume_path.specs.declared.receiving.ReceivingLink.{ReceivingLink}
use Rattle.consume_path.specs.declared.receiving.TransferFault.TheVariants.{InvalidField}
use Rattle.consume_path.specs.declared.receiving.TransferFault.TheVariants.{LimitExceeded}
use Rattle.consume_path.specs.declared.receiving.TransferFault.TheVariants.{SizeExceeded}
use Rattle.consume_path.specs.Items.{is_held, is_out, owes, owes_as, owed_settle}
use Rattle.consume_path.specs.Items.{is_on, is_open, is_covered, first_place, new_delivery, moved}
use Rattle.consume_path.specs.Items.{changed}
use Rattle.consume_path.specs.Links.{change_first, is_between, id_or, bytes_in, counts, counts_on}
use Rattle.consume_path.specs.Links.{one_if, recount}
use Rattle.consume_path.specs.Offers.{has_open_id, has_begun_id, is_open_id, most_bytes}
use Rattle.consume_path.specs.Offers.{lacks_field}
use Rattle.consume_path.specs.Offers.{is_other, fault_of, is_unsettled, unsettled_on}
use Rattle.consume_path.specs.Offers.{has_global_room, deliver_of, consuming, on_link}
use Rattle.consume_path.specs.Offers.{get_offer, consumer_offer, rank_of, next_deliver_of}
use Rattle.consume_path.specs.Offers.{has_content}
use Rattle.consume_path.specs.Offers.{content_in, content_of, is_known, owes_of, owes_id, run_to}
use Rattle.consume_path.specs.Offers.{settle_in, settle_from, next_settle_of, is_uncovered}
use Rattle.consume_path.specs.Offers.{holds, is_held_on}
use Rattle.consume_path.specs.Offers.{soonest}
use Rattle.consume_path.proofs.Least.{soonest_filter}

-- the first item that passes is changed in place
pub first_here : {X : Type 0} (here : X → Bool) (f : X → X) (xs : List X) (k : ℕ) (x y : X) → k < length xs → x ≡ get_or xs k x → here x ≡ true → y ≡ f x
    → change_first here f xs ≡ take k xs ++ change_first here f (drop k xs) → set xs k y ≡ change_first here f xs
first_here {X} here f xs k x y lt read is new so_far =
    let cons : drop k xs ≡ x ∷ drop (k + 1) xs = drop_more xs k x lt ∙ ap (λ z. z ∷ drop (k + 1) xs) (sym read) in
    let this : change_first here f (x ∷ drop (k + 1) xs) ≡ f x ∷ drop (k + 1) xs = ap (λ b. cond b (f x ∷ drop (k + 1) xs) (x ∷ change_first here f (drop (k + 1) xs))) is in
    ap (set xs k) new ∙ sym (take-append-drop k (set xs k (f x))) ∙ ap (λ front. front ++ drop k (set xs k (f x))) (take-set xs k (f x))
    ∙ ap (λ back. take k xs ++ back) (drop-set xs k (f x) lt ∙ sym this ∙ ap (change_first here f) (sym cons)) ∙ sym so_far

-- a run goes on
pub run_more : (n k : ℕ) (s : Settle) (list : List Delivery) (last : ℕ) → k < n → list_any (owes_id s (advanced last 1)) list ≡ true → run_to (n - (k + 1)) s list (advanced last 1) ≡ run_to (n - k) s list last
run_more n k s list last lt is =
    let less : suc (n - (k + 1)) ≡ n - k = omega arith in
    sym (ap (λ b. cond b (run_to (n - (k + 1)) s list (advanced last 1)) last) is) ∙ ap (λ m. run_to m s list last) less

-- what is closed has nothing to offer

pub open_open : (items : List Delivery) → filter is_open (filter is_open items) ≡ filter is_open items
open_open items = filter-filter is_open items

pub uncovered_seen : (link : ℕ) (items : List Delivery) → list_any (is_uncovered link) (filter is_open items) ≡ list_any (is_uncovered link) items
uncovered_seen link items = list_any-filter is_open (is_uncovered link) (λ d e. grind (arith, common_steps)) items

pub holds_seen : (link : ℕ) (items : List Delivery) → holds link (filter is_open items) ≡ holds link items
holds_seen link items = list_any-filter is_open (is_held_on link) (λ d e. grind (arith, common_steps)) items

pub covered_seen : (tag : ℕ) (multiple : Bool) (items : List Delivery) → list_any (is_covered tag multiple) (filter is_open items) ≡ list_any (is_covered tag multiple) items
covered_seen tag multiple items = list_any-filter is_open (is_covered tag multiple) (λ d e. grind (arith, common_steps)) items

pub known_seen : (tag : ℕ) (multiple : Bool) (items : List Delivery) → is_known tag multiple (filter is_open items) ≡ is_known tag multiple items
known_seen tag multiple items = ap (λ b. (multiple && (tag == 0)) || b) (covered_seen tag false items)

open_id_closed : (id : ℕ) (d : Delivery) → is_open d ≡ false → has_open_id id d ≡ false
open_id_closed id d e = grind (arith, common_steps)

open_ids_seen : (id : ℕ) (items : List Delivery) → list_any (has_open_id id) (filter is_open items) ≡ list_any (has_open_id id) items
open_ids_seen id items = list_any-filter is_open (has_open_id id) (open_id_closed id) items

pub open_id_seen : (id : ℕ) (links : List ReceivingLink) (items : List Delivery) → is_open_id id links (filter is_open items) ≡ is_open_id id links items
open_id_seen id links items = ap (λ b. list_any (has_begun_id id) links || b) (open_ids_seen id items)

pub fault_seen : (part : Part) (size : ℕ) (l : ReceivingLink) (links : List ReceivingLink) (items : List Delivery) → fault_of part size l links (filter is_open items) ≡ fault_of part size l links items
fault_seen part size l links items =
    ap (λ b. cond (lacks_field (is_between l) part || (is_between l && b) || is_other l.partial part.id) (Some InvalidField) (cond (is_between l && (l.state.limit_left == 0)) (Some LimitExceeded) (cond (nat_lt most_bytes (length (bytes_in l.partial) + size)) (Some SizeExceeded) None)))
    (open_id_seen (id_or 0 part.id) links items)

pub content_seen : (id : ℕ) (items : List Delivery) → content_of id (filter is_open items) ≡ content_of id items
content_seen id items = ap content_in (find-filter is_open (has_content id) (λ d e. grind (arith, common_steps)) items)

-- delivers

pub unsettled_closed : (d : Delivery) → is_open d ≡ false → is_unsettled d ≡ false
unsettled_closed d e = grind (arith, common_steps)

unsettled_on_closed : (link : ℕ) (d : Delivery) → is_open d ≡ false → unsettled_on link d ≡ false
unsettled_on_closed link d e = rw (unsettled_closed d e) (none (is_on link d.link))
  where
    none : (b : Bool) → (b && false) ≡ false
    none true = refl
    none false = refl

pub global_seen : (global : ℕ) (items : List Delivery) → has_global_room global (filter is_open items) ≡ has_global_room global items
global_seen global items = ap (λ n. global == 0 || nat_lt n global) (count_by-filter is_open is_unsettled unsettled_closed items)

get_closed : (d : Delivery) → is_open d ≡ false → get_offer d ≡ None
get_closed d e = let no : is_held d.place ≡ false = grind (arith, common_steps) in rw no refl

gets_seen : (items : List Delivery) → soonest rank_of get_offer (filter is_open items) ≡ soonest rank_of get_offer items
gets_seen items = soonest_filter rank_of is_open get_offer get_offer (λ d. refl) get_closed items

consumer_same : (free : Bool) (items : List Delivery) (d : Delivery) → consumer_offer free (filter is_open items) d ≡ consumer_offer free items d
consumer_same free items d = ap (λ o. cond (is_held d.place) o None) (by d.link)
  where
    by : (own : Option ℕ) → on_link own (λ link. consuming free (count_by (unsettled_on link) (filter is_open items)) d.taker (deliver_of link d)) ≡ on_link own (λ link. consuming free (count_by (unsettled_on link) items) d.taker (deliver_of link d))
    by None = refl
    by (Some link) = ap (λ n. consuming free n d.taker (deliver_of link d)) (count_by-filter is_open (unsettled_on link) (unsettled_on_closed link) items)

consumer_closed : (free : Bool) (items : List Delivery) (d : Delivery) → is_open d ≡ false → consumer_offer free items d ≡ None
consumer_closed free items d e = let no : is_held d.place ≡ false = grind (arith, common_steps) in rw no refl

pub deliver_seen : (global : ℕ) (items : List Delivery) → next_deliver_of global (filter is_open items) ≡ next_deliver_of global items
deliver_seen global items =
    ap (λ g. option_map (λ r. r.next) (option_or g (soonest rank_of (consumer_offer (has_global_room global (filter is_open items)) (filter is_open items)) (filter is_open items)))) (gets_seen items)
    ∙ ap (λ b. option_map (λ r. r.next) (option_or (soonest rank_of get_offer items) (soonest rank_of (consumer_offer b (filter is_open items)) (filter is_open items)))) (global_seen global items)
    ∙ ap (λ c. option_map (λ r. r.next) (option_or (soonest rank_of get_offer items) c))
    (soonest_filter rank_of is_open (consumer_offer free (filter is_open items)) (consumer_offer free items) (consumer_same free items) (consumer_closed free items) items)
  where
    free : Bool
    free = has_global_room global items

-- dispositions

owes_of_closed : (s : Settle) (d : Delivery) → is_open d ≡ false → owes_of s d ≡ false
owes_of_closed s d e = by d.place e
  where
    by : (place : Place) → (is_held place || is_out place || owes place || d.writing || d.at_risk || is_some d.line) ≡ false → owes_as s place ≡ false
    by Held e = refl
    by Out e = refl
    by (Owed t) e = absurd (cc)
    by Settled e = refl

owes_id_closed : (s : Settle) (id : ℕ) (d : Delivery) → is_open d ≡ false → owes_id s id d ≡ false
owes_id_closed s id d e = rw (owes_of_closed s d e) refl

run_seen : (n : ℕ) (s : Settle) (items : List Delivery) (last : ℕ) → run_to n s (filter is_open items) last ≡ run_to n s items last
run_seen zero s items last = refl
run_seen (suc n) s items last =
    ap (λ b. cond b (run_to n s (filter is_open items) (advanced last 1)) last) (list_any-filter is_open (owes_id s (advanced last 1)) (owes_id_closed s (advanced last 1)) items)
    ∙ ap (λ m. cond (list_any (owes_id s (advanced last 1)) items) m last) (run_seen n s items (advanced last 1))

settle_same : (items : List Delivery) (o : Option Delivery) → settle_from (filter is_open items) o ≡ settle_from items o
settle_same items None = refl
settle_same items (Some d) = by (owed_settle d.place)
  where
    by : (s : Option Settle) → settle_in (filter is_open items) s d.id ≡ settle_in items s d.id
    by None = refl
    by (Some s) = ap (λ last. Some (record { first = d.id; last = last; settle = s }))
        (ap (λ n. run_to n s (filter is_open items) d.id) (count_by-filter is_open (owes_of s) (owes_of_closed s) items) ∙ run_seen (count_by (owes_of s) items) s items d.id)

pub settle_seen : (items : List Delivery) → next_settle_of (filter is_open items) ≡ next_settle_of items
settle_seen items = settle_same items (find (λ d. owes d.place) (filter is_open items)) ∙ ap (settle_from items) (find-filter is_open (λ d. owes d.place) (λ d e. grind (arith, common_steps)) items)

-- changes

pub counts_on_closed : (link : ℕ) (d : Delivery) → is_open d ≡ false → counts_on link d ≡ false
counts_on_closed link d e = let no : counts d ≡ false = grind (arith, common_steps) in rw no (none (is_on link d.link))
  where
    none : (b : Bool) → (b && false) ≡ false
    none true = refl
    none false = refl

recount_seen : (items : List Delivery) (l : ReceivingLink) → recount (filter is_open items) l ≡ recount items l
recount_seen items l = ap (λ n. record l { state = recounted (n + one_if (is_some l.partial)) l.state }) (count_by-filter is_open (counts_on l.link) (counts_on_closed l.link) items)

pub recounts_seen : (items : List Delivery) (links : List ReceivingLink) → map (recount (filter is_open items)) links ≡ map (recount items) links
recounts_seen items [] = refl
recounts_seen items (l ∷ ls) = ap (λ x. x ∷ map (recount (filter is_open items)) ls) (recount_seen items l) ∙ ap (λ xs. recount items l ∷ xs) (recounts_seen items ls)

moved_stays : (change : Change) (d : Delivery) → is_open d ≡ false → is_open (moved change d) ≡ false
moved_stays (Delivered number tag) d e = grind (arith, common_steps)
moved_stays (Written tag) d e = grind (arith, common_steps)
moved_stays (Answered tag multiple settle) d e = grind (arith, common_steps)
moved_stays (Cancelled link) d e = grind (arith, common_steps)
moved_stays Closed d e = grind (arith, common_steps)
moved_stays EndLost d e = grind (arith, common_steps)
moved_stays (SettleSent settle) d e = grind (arith, common_steps)
moved_stays (LinkDropped link) d e = e
moved_stays Reported d e = grind (arith, common_steps)

pub changed_seen : (change : Change) (items : List Delivery) → filter is_open (map (changed change) items) ≡ filter is_open (map (changed change) (filter is_open items))
changed_seen change items = filter-map-filter is_open (changed change) (moved_stays change) items

-- an arrival

new_open : (closed : Bool) (number : ℕ) (a : Arriving) (content : Option Content) (again : Bool) → is_open (new_delivery closed number a content again) ≡ true
new_open closed number a content again = by closed (is_some content) a.settled a.taker
  where
    by : (closed image settled : Bool) (taker : Taker)
        → (is_held (first_place closed image settled taker) || is_out (first_place closed image settled taker) || owes (first_place closed image settled taker) || false || (settled && not closed)
        || is_some (cond (settled && closed) (Some DeliveryLost) None)) ≡ true
    by closed false false taker = refl
    by true false true taker = refl
    by false false true taker = refl
    by true true false taker = refl
    by true true true taker = refl
    by false true false Nobody = refl
    by false true true Nobody = refl
    by false true settled (Getter n no_ack) = refl
    by false true settled (Consumer no_ack limit) = refl

pub add_seen : (items : List Delivery) (closed : Bool) (number : ℕ) (a : Arriving) (content : Option Content) (again : Bool) → filter is_open (items ++ new_delivery closed number a content again ∷ []) ≡ filter is_open items ++ new_delivery closed number a content again ∷ []
add_seen items closed number a content again = filter-push is_open items (new_delivery closed number a content again) (new_open closed number a content again)
