-- The deliver or get-ok that is offered is the one that the journal makes due.
use Rattle.std.proofs.Common.{◌≡◌, ◌∙◌, ℕ, ◌<◌, List, [], ◌∷◌, Bool, true, false, refl, sym}
use Rattle.std.proofs.Common.{ap, subst, arith, Option, Some, None, cond, map, inl, inr}
use Rattle.std.specs.Prelude.{not, ◌&&◌, ◌||◌, ◌==◌, nat_lt, filter, find, count_by, is_some, IfSome}
use Rattle.std.specs.Option.{option_map, option_or}
use Rattle.std.specs.List.{AllByRecursion, list_any}
use Rattle.std.proofs.lemmas.Bool.Decides.{nat_tests}
use Rattle.open_items.proofs.Filtered.{all_find, all_both}
use Rattle.open_items.proofs.Numbered.{Has, all_has}
use Rattle.open_items.proofs.Counted.{numbers_passing, how_many_passing}
use Rattle.consume_path.specs.declared.delivery.Delivery.{Delivery}
use Rattle.consume_path.specs.declared.delivery.NextDeliver.{NextDeliver}
use Rattle.consume_path.specs.declared.delivery.Taker.{Taker}
use Rattle.consume_path.specs.declared.delivery.Taker.TheVariants.{Nobody, Getter, Consumer}
use Rattle.consume_path.specs.declared.searches.Ranked.{Ranked}
use Rattle.consume_path.specs.Items.{is_held, is_no_ack, limit_of, is_on, is_left}
use Rattle.consume_path.specs.Items.{is_covered}
use Rattle.consume_path.specs.Deliveries.{DeliveryEvent, after_events}
use Rattle.consume_path.specs.Offers.{sooner, soonest, has_open_id, consumes, has_room, has_global_room}
use Rattle.consume_path.specs.Offers.{is_unsettled as is_unsettled_open, unsettled_on as unsettled_open}
use Rattle.consume_path.specs.Offers.{is_within, deliver_of, getting, consuming, on_link, get_offer}
use Rattle.consume_path.specs.Offers.{consumer_offer, rank_of, next_deliver_of, has_content}
use Rattle.consume_path.specs.Offers.{content_in, content_of, is_known}
use Rattle.consume_path.specs.Journal.{Fate, fate_of, numbers_of, IsTaken, is_pending, waits, is_written}
use Rattle.consume_path.specs.Journal.{is_uncovered, is_to_come, is_outstanding, passes}
use Rattle.consume_path.specs.Laws.{holds_id, AreFresh, has_id, is_id_open, has_tag, is_tag_known}
use Rattle.consume_path.specs.Laws.{is_unsettled, is_unsettled_on, unsettled_on, unsettled}
use Rattle.consume_path.specs.Laws.{has_room_of_all, next_of, get_at, consumer_at, held, deliver_by}
use Rattle.consume_path.specs.Laws.{IsLawfulDeliver, needs_content}
use Rattle.consume_path.proofs.Least.{soonest_filter, soonest_first}
use Rattle.consume_path.proofs.Matching.{Core, Matches, tag_or, waits_test, out_test, left_test}
use Rattle.consume_path.proofs.Keeping.{number_of, follows, Stands, stand, over_comes, written_comes}
use Rattle.consume_path.proofs.Keeping.{or_into, and_one, and_two}
use Rattle.consume_path.proofs.Fates.{sound, unique, needed_holds}
use Rattle.consume_path.proofs.Settling.{any_passing, uncovered_comes}

-- counts

pending_over : (d l x : Bool) → (not d && not l) ≡ true → not (l || (d && x)) ≡ true
pending_over true l x e = absurd (cc)
pending_over false true x e = absurd (cc)
pending_over false false x e = refl

pub pending_comes : (f : Fate) → is_pending f ≡ true → is_to_come f ≡ true
pending_comes f e = over_comes f (pending_over (is_some f.due) f.left (f.settled || f.sent) e)

pub waits_comes : (f : Fate) → waits f ≡ true → is_to_come f ≡ true
waits_comes f e = pending_comes f (and_one (is_pending f) (not (is_some f.tag)) e)

out_and : (p t n : Bool) → ((p && t) && n) ≡ (p && (t && n))
out_and true t n = refl
out_and false t n = refl

pub unsettled_test : (d : Delivery) (f : Fate) → Matches d f → is_unsettled_open d ≡ is_unsettled f
unsettled_test d f m =
    ap (λ b. consumes d.taker && (b && not (is_no_ack d.taker))) (out_test d f m.core)
    ∙ ap (λ t. consumes t && ((is_pending f && is_some f.tag) && not (is_no_ack t))) m.core.taker
    ∙ ap (λ b. consumes f.taker && b) (out_and (is_pending f) (is_some f.tag) (not (is_no_ack f.taker)))

unsettled_comes : (f : Fate) → is_unsettled f ≡ true → is_to_come f ≡ true
unsettled_comes f e = pending_comes f (and_one (is_pending f) _ (and_two (consumes f.taker) (is_outstanding f) e))

unsettled_is : (life : ℕ) (h : List DeliveryEvent) → count_by is_unsettled_open (after_events life h).list ≡ unsettled h
unsettled_is life h = how_many_passing number_of Matches is_to_come is_unsettled_open is_unsettled (λ n. fate_of n h) (numbers_of h) (after_events life h).list unsettled_test unsettled_comes (follows life h)

unsettled_on_is : (life : ℕ) (h : List DeliveryEvent) (link : ℕ) → count_by (unsettled_open link) (after_events life h).list ≡ unsettled_on link h
unsettled_on_is life h link =
    how_many_passing number_of Matches is_to_come (unsettled_open link) (is_unsettled_on link) (λ n. fate_of n h) (numbers_of h) (after_events life h).list
    (λ d f m. ap (λ l. is_on link l && is_unsettled_open d) m.core.link ∙ ap (λ b. is_on link f.link && b) (unsettled_test d f m))
    (λ f e. unsettled_comes f (and_two (is_on link f.link) (is_unsettled f) e)) (follows life h)

global_is : (life global : ℕ) (h : List DeliveryEvent) → has_global_room global (after_events life h).list ≡ has_room_of_all global h
global_is life global h = ap (λ n. global == 0 || nat_lt n global) (unsettled_is life h)

-- offers

abbrev is_held_one : Delivery → Bool
is_held_one d = is_held d.place

module _ {R : Type 0} (key : R → ℕ) (h : List DeliveryEvent) (offer : Delivery → Option R) (by_number : ℕ → Option R) (same : (d : Delivery) → Stands h d → is_held_one d ≡ true → offer d ≡ by_number d.number) where
  numbered : (list : List Delivery) → AllByRecursion (Stands h) list → soonest key offer (filter is_held_one list) ≡ soonest key by_number (map number_of (filter is_held_one list))
  numbered [] a = refl
  numbered (d ∷ ds) a = pick (is_held_one d) refl (numbered ds a.1)
    where
      rest : List Delivery
      rest = filter is_held_one ds

      pick : (b : Bool) → is_held_one d ≡ b → soonest key offer rest ≡ soonest key by_number (map number_of rest) → soonest key offer (cond b (d ∷ rest) rest) ≡ soonest key by_number (map number_of (cond b (d ∷ rest) rest))
      pick true e ih = ap (λ o. sooner key o (soonest key offer rest)) (same d a.0 e) ∙ ap (sooner key (by_number d.number)) ih
      pick false e ih = ih

  pub soonest_is : (life : ℕ) → ((d : Delivery) → is_held_one d ≡ false → offer d ≡ None) → AllByRecursion (Stands h) (after_events life h).list → soonest key offer (after_events life h).list ≡ soonest key by_number (held h)
  soonest_is life only a =
      sym (soonest_filter key is_held_one offer offer (λ d. refl) only (after_events life h).list)
      ∙ numbered (after_events life h).list a
      ∙ ap (soonest key by_number) (numbers_passing number_of Matches is_to_come is_held_one waits (λ n. fate_of n h) (numbers_of h) (after_events life h).list (λ d f m. waits_test d f m.core) waits_comes (follows life h))

next_is : (h : List DeliveryEvent) (d : Delivery) (link : ℕ) → Stands h d → deliver_of link d ≡ next_of link d.number (fate_of d.number h)
next_is h d link s =
    ap (λ i. record { number = d.number; link = link; id = i; again = d.again }) s.matches.core.id
    ∙ ap (λ a. record { number = d.number; link = link; id = (fate_of d.number h).id; again = a }) s.matches.core.again

get_is : (h : List DeliveryEvent) (d : Delivery) → Stands h d → is_held_one d ≡ true → get_offer d ≡ get_at h d.number
get_is h d s e =
    ap (λ b. cond b (on_link d.link (λ link. getting d.taker (deliver_of link d))) None) e
    ∙ ap (λ l. on_link l (λ link. getting d.taker (deliver_of link d))) s.matches.core.link
    ∙ ap (λ t. on_link (fate_of d.number h).link (λ link. getting t (deliver_of link d))) s.matches.core.taker ∙ by (fate_of d.number h).link
  where
    by : (l : Option ℕ) → on_link l (λ link. getting (fate_of d.number h).taker (deliver_of link d)) ≡ on_link l (λ link. getting (fate_of d.number h).taker (next_of link d.number (fate_of d.number h)))
    by None = refl
    by (Some link) = ap (getting (fate_of d.number h).taker) (next_is h d link s)

none_held : {A : Type 0} (b : Bool) (o : Option A) → b ≡ false → cond b o None ≡ None
none_held true o e = absurd (cc)
none_held false o e = refl

consumer_is : (life : ℕ) (free : Bool) (h : List DeliveryEvent) (d : Delivery) → Stands h d → is_held_one d ≡ true → consumer_offer free (after_events life h).list d ≡ consumer_at free h d.number
consumer_is life free h d s e =
    ap (λ b. cond b (on_link d.link (λ link. consuming free (count link) d.taker (deliver_of link d))) None) e
    ∙ ap (λ l. on_link l (λ link. consuming free (count link) d.taker (deliver_of link d))) s.matches.core.link
    ∙ ap (λ t. on_link (fate_of d.number h).link (λ link. consuming free (count link) t (deliver_of link d))) s.matches.core.taker ∙ by (fate_of d.number h).link
  where
    count : ℕ → ℕ
    count link = count_by (unsettled_open link) (after_events life h).list

    by : (l : Option ℕ) → on_link l (λ link. consuming free (count link) (fate_of d.number h).taker (deliver_of link d)) ≡ on_link l (λ link. consuming free (unsettled_on link h) (fate_of d.number h).taker (next_of link d.number (fate_of d.number h)))
    by None = refl
    by (Some link) =
        ap (λ n. consuming free n (fate_of d.number h).taker (deliver_of link d)) (unsettled_on_is life h link)
        ∙ ap (consuming free (unsettled_on link h) (fate_of d.number h).taker) (next_is h d link s)

pub deliver_is : (life global : ℕ) (h : List DeliveryEvent) → next_deliver_of global (after_events life h).list ≡ deliver_by global h
deliver_is life global h =
    ap (λ g. option_map (λ r. r.next) (option_or g (soonest rank_of (consumer_offer (has_global_room global list) list) list)))
    (soonest_is rank_of h get_offer (get_at h) (get_is h) life (λ d e. none_held (is_held_one d) _ e) (stand life h))
    ∙ ap (λ b. option_map (λ r. r.next) (option_or (soonest rank_of (get_at h) (held h)) (soonest rank_of (consumer_offer b list) list))) (global_is life global h)
    ∙ ap (λ c. option_map (λ r. r.next) (option_or (soonest rank_of (get_at h) (held h)) c))
    (soonest_is rank_of h (consumer_offer free list) (consumer_at free h) (consumer_is life free h) life (λ d e. none_held (is_held_one d) _ e) (stand life h))
  where
    list : List Delivery
    list = (after_events life h).list

    free : Bool
    free = has_room_of_all global h

-- what is offered

record Offered (d : Delivery) (r : Ranked) : Type 0 where
  waiting : is_held d.place ≡ true
  link : d.link ≡ Some r.next.link
  next : r.next ≡ deliver_of r.next.link d

get_next : (taker : Taker) (next : NextDeliver) (r : Ranked) → getting taker next ≡ Some r → (r.next ≡ next) × (consumes taker ≡ false)
get_next Nobody next r e = absurd (cc)
get_next (Getter number no_ack) next r e = (cc, refl)
get_next (Consumer no_ack limit) next r e = absurd (cc)

consumer_next : (free : Bool) (count : ℕ) (taker : Taker) (next : NextDeliver) (r : Ranked) → consuming free count taker next ≡ Some r → (r.next ≡ next) × (is_within free count taker ≡ true) × (r.rank ≡ next.link)
consumer_next free count taker next r e = by (consumes taker) (is_within free count taker) refl e
  where
    by : (a b : Bool) → is_within free count taker ≡ b → cond (a && b) (Some (record { rank = next.link; next = next })) None ≡ Some r → (r.next ≡ next) × (is_within free count taker ≡ true) × (r.rank ≡ next.link)
    by true true is e = (cc, is, cc)
    by true false is e = absurd (cc)
    by false b is e = absurd (cc)

offered_at : (d : Delivery) (link : ℕ) (r : Ranked) → is_held d.place ≡ true → d.link ≡ Some link → r.next ≡ deliver_of link d → Offered d r
offered_at d link r is at e = record {
  waiting = is;
  link = at ∙ ap Some (sym here);
  next = subst (λ l. r.next ≡ deliver_of l d) (sym here) e;
}
  where
    here : r.next.link ≡ link
    here = ap (λ (n : NextDeliver). n.link) e

-- from an offer of one that is held, on its link
from_offer : {Q : Type 0} (d : Delivery) (r : Ranked) (offer : ℕ → Option Ranked) → cond (is_held d.place) (on_link d.link offer) None ≡ Some r → ((link : ℕ) → is_held d.place ≡ true → d.link ≡ Some link → offer link ≡ Some r → Q) → Q
from_offer {Q} d r offer e use_it = by (is_held d.place) d.link refl refl e
  where
    by : (b : Bool) (l : Option ℕ) → is_held d.place ≡ b → d.link ≡ l → cond b (on_link l offer) None ≡ Some r → Q
    by false l is at e = absurd (cc)
    by true None is at e = absurd (cc)
    by true (Some link) is at e = use_it link is at e

get_offered : (d : Delivery) (r : Ranked) → get_offer d ≡ Some r → Offered d r × (consumes d.taker ≡ false)
get_offered d r e = from_offer d r (λ link. getting d.taker (deliver_of link d)) e (λ link is at o. let g = get_next d.taker (deliver_of link d) r o in (offered_at d link r is at g.0, g.1))

consumer_offered : (free : Bool) (list : List Delivery) (d : Delivery) (r : Ranked) → consumer_offer free list d ≡ Some r → Offered d r × (is_within free (count_by (unsettled_open r.next.link) list) d.taker ≡ true)
consumer_offered free list d r e =
    from_offer d r (λ link. consuming free (count_by (unsettled_open link) list) d.taker (deliver_of link d)) e
    (λ link is at o.
    let g = consumer_next free (count_by (unsettled_open link) list) d.taker (deliver_of link d) r o in
    (offered_at d link r is at g.0, subst (λ l. is_within free (count_by (unsettled_open l) list) d.taker ≡ true) (sym (ap (λ (n : NextDeliver). n.link) g.0)) g.1))

-- one that goes the same way is offered with the same rank

get_rank : (taker : Taker) (a b : NextDeliver) (r : Ranked) → getting taker a ≡ Some r → (q : Ranked) × (getting taker b ≡ Some q) × (q.rank ≡ r.rank)
get_rank Nobody a b r e = absurd (cc)
get_rank (Getter number no_ack) a b r e = (record { rank = number; next = b }, refl, cc)
get_rank (Consumer no_ack limit) a b r e = absurd (cc)

consumer_rank : (free : Bool) (count : ℕ) (taker : Taker) (a b : NextDeliver) (r : Ranked) → a.link ≡ b.link → consuming free count taker a ≡ Some r → (q : Ranked) × (consuming free count taker b ≡ Some q) × (q.rank ≡ r.rank)
consumer_rank free count taker a b r same e = by (consumes taker && is_within free count taker) e
  where
    by : (t : Bool) → cond t (Some (record { rank = a.link; next = a })) None ≡ Some r → (q : Ranked) × (cond t (Some (record { rank = b.link; next = b })) None ≡ Some q) × (q.rank ≡ r.rank)
    by true e = (record { rank = b.link; next = b }, refl, sym same ∙ cc)
    by false e = absurd (cc)

same_way : (d e : Delivery) (r : Ranked) (offer : Taker → ℕ → NextDeliver → Option Ranked)
    → ((taker : Taker) (link : ℕ) (a b : NextDeliver) → a.link ≡ b.link → offer taker link a ≡ Some r → (q : Ranked) × (offer taker link b ≡ Some q) × (q.rank ≡ r.rank))
    → is_held e.place ≡ true → e.link ≡ d.link → e.taker ≡ d.taker → cond (is_held d.place) (on_link d.link (λ link. offer d.taker link (deliver_of link d))) None ≡ Some r
    → (q : Ranked) × (cond (is_held e.place) (on_link e.link (λ link. offer e.taker link (deliver_of link e))) None ≡ Some q) × (q.rank ≡ r.rank)
same_way d e r offer alike is l t o =
    from_offer d r (λ link. offer d.taker link (deliver_of link d)) o
    (λ link held at given.
    let q = alike d.taker link (deliver_of link d) (deliver_of link e) refl given in
    (q.0, rw (is, l, at, t) q.1, q.2))

not_some : (o : Bool) (l t : Bool) → ((not o && not l) && not t) ≡ true → o ≡ false
not_some true l t e = absurd (cc)
not_some false l t e = refl

-- an earlier one that goes the same way isn't held
earlier : (life : ℕ) (h : List DeliveryEvent) (d : Delivery) (r : Ranked) (offer : Taker → ℕ → NextDeliver → Option Ranked)
    → ((taker : Taker) (link : ℕ) (a b : NextDeliver) → a.link ≡ b.link → offer taker link a ≡ Some r → (q : Ranked) × (offer taker link b ≡ Some q) × (q.rank ≡ r.rank))
    → Stands h d → cond (is_held d.place) (on_link d.link (λ link. offer d.taker link (deliver_of link d))) None ≡ Some r
    → AllByRecursion (λ y. y.number < d.number → (q : Ranked) → cond (is_held y.place) (on_link y.link (λ link. offer y.taker link (deliver_of link y))) None ≡ Some q → r.rank < q.rank) (after_events life h).list
    → (m : ℕ) → IsTaken h m → m < d.number → (fate_of m h).link ≡ (fate_of d.number h).link → (fate_of m h).taker ≡ (fate_of d.number h).taker → waits (fate_of m h) ≡ false
earlier life h d r offer alike s given order m taken below l t = by (waits (fate_of m h)) refl
  where
    at_all : waits (fate_of m h) ≡ true → ⊥
    at_all is =
        let found = all_has number_of _ m (after_events life h).list (all_both (Stands h) _ (after_events life h).list (stand life h) order) ((follows life h).complete m taken.0 taken.1 (waits_comes (fate_of m h) is)) in
        let y = found.0 in
        let same : y.number ≡ m = found.1 in
        let stands : Stands h y = found.2.0 in
        let held_y : is_held y.place ≡ true = waits_test y (fate_of y.number h) stands.matches.core ∙ ap (λ i. waits (fate_of i h)) same ∙ is in
        let link_y : y.link ≡ d.link = stands.matches.core.link ∙ ap (λ i. (fate_of i h).link) same ∙ l ∙ sym s.matches.core.link in
        let taker_y : y.taker ≡ d.taker = stands.matches.core.taker ∙ ap (λ i. (fate_of i h).taker) same ∙ t ∙ sym s.matches.core.taker in
        let q = same_way d y r offer alike held_y link_y taker_y given in
        let under : r.rank < (q.0).rank = found.2.1 (subst (λ i. i < d.number) (sym same) below) q.0 q.1 in
        let level : (q.0).rank ≡ r.rank = q.2 in
        absurd (omega arith)

    by : (b : Bool) → waits (fate_of m h) ≡ b → waits (fate_of m h) ≡ false
    by false e = e
    by true e = absurd (at_all e)

room_of : (no_ack free room : Bool) → no_ack ≡ false → (no_ack || (free && room)) ≡ true → (free ≡ true) × (room ≡ true)
room_of true free room e f = absurd (cc)
room_of false true true e f = (refl, refl)
room_of false true false e f = absurd (cc)
room_of false false room e f = absurd (cc)

lawful_from : (life global : ℕ) (h : List DeliveryEvent) (d : Delivery) (r : Ranked) → Stands h d → Offered d r
    → (consumes d.taker ≡ true → is_no_ack d.taker ≡ false → (has_room_of_all global h ≡ true) × (has_room (limit_of d.taker) (unsettled_on r.next.link h) ≡ true))
    → ((m : ℕ) → IsTaken h m → m < d.number → (fate_of m h).link ≡ (fate_of d.number h).link → (fate_of m h).taker ≡ (fate_of d.number h).taker → waits (fate_of m h) ≡ false)
    → IsLawfulDeliver global h r.next
lawful_from life global h d r s o room order =
    let core = s.matches.core in
    let waiting : waits (fate_of d.number h) ≡ true = sym (waits_test d (fate_of d.number h) core) ∙ o.waiting in
    let rooms : consumes (fate_of d.number h).taker ≡ true → is_no_ack (fate_of d.number h).taker ≡ false → (has_room_of_all global h ≡ true) × (has_room (limit_of (fate_of d.number h).taker) (unsettled_on r.next.link h) ≡ true) =
    subst (λ t. consumes t ≡ true → is_no_ack t ≡ false → (has_room_of_all global h ≡ true) × (has_room (limit_of t) (unsettled_on r.next.link h) ≡ true)) core.taker room in
    subst (IsLawfulDeliver global h) (sym o.next) (record {
      taken = (s.positive, s.taken);
      waiting = waiting;
      image = (sound h d.number (s.positive, s.taken)).image (not_some (is_some (fate_of d.number h).due) (fate_of d.number h).left (is_some (fate_of d.number h).tag) waiting);
      link = sym core.link ∙ o.link;
      id = sym core.id;
      again = sym core.again;
      limit = λ c a. (rooms c a).1;
      of_all = λ c a. (rooms c a).0;
      order = order;
    })

pub deliver_is_lawful : (life global : ℕ) (h : List DeliveryEvent) → IfSome (next_deliver_of global (after_events life h).list) (IsLawfulDeliver global h)
deliver_is_lawful life global h = by (soonest rank_of get_offer list) (soonest rank_of (consumer_offer free list) list) refl refl
  where
    list : List Delivery
    list = (after_events life h).list

    free : Bool
    free = has_global_room global list

    by : (a b : Option Ranked) → soonest rank_of get_offer list ≡ a → soonest rank_of (consumer_offer free list) list ≡ b → IfSome (option_map (λ (r : Ranked). r.next) (option_or a b)) (IsLawfulDeliver global h)
    by None None e f = tt
    by (Some r) b e f =
        let found = soonest_first rank_of number_of (Stands h) get_offer 0 list r (follows life h).rising (stand life h) e in
        let o = get_offered found.0 r found.2 in
        lawful_from life global h found.0 r found.1 o.0 (λ c a. absurd (let no : consumes (found.0).taker ≡ false = o.1 in cc))
        (earlier life h found.0 r (λ taker link next. getting taker next) (λ taker link x y same given. get_rank taker x y r given) found.1 found.2 found.3)
    by None (Some r) e f =
        let found = soonest_first rank_of number_of (Stands h) (consumer_offer free list) 0 list r (follows life h).rising (stand life h) f in
        let o = consumer_offered free list found.0 r found.2 in
        lawful_from life global h found.0 r found.1 o.0
        (λ c a.
        let rooms = room_of (is_no_ack (found.0).taker) free _ a o.1 in
        (sym (global_is life global h) ∙ rooms.0, ap (has_room (limit_of (found.0).taker)) (sym (unsettled_on_is life h r.next.link)) ∙ rooms.1))
        (earlier life h found.0 r (λ taker link next. consuming free (count_by (unsettled_open link) list) taker next) (λ taker link x y same given. consumer_rank free (count_by (unsettled_open link) list) taker x y r same given) found.1 found.2 found.3)

-- delivery-ids

needs_comes : (f : Fate) → needs_content f ≡ true → is_to_come f ≡ true
needs_comes f e = or_into (waits f) (is_written f) (is_to_come f) (waits_comes f) (written_comes f) e

holds_comes : (f : Fate) → holds_id f ≡ true → is_to_come f ≡ true
holds_comes f e = or_into (waits f || is_written f) (is_uncovered f) (is_to_come f) (needs_comes f) (uncovered_comes f) e

pub open_id_is : (life id : ℕ) (h : List DeliveryEvent) → list_any (has_open_id id) (after_events life h).list ≡ is_id_open id h
open_id_is life id h = any_passing life h (has_open_id id) (has_id id) same (λ f e. holds_comes f (and_two (f.id == id) (holds_id f) e))
  where
    same : (d : Delivery) (f : Fate) → Matches d f → has_open_id id d ≡ has_id id f
    same d f m =
        ap (λ i. i == id && (is_held d.place || d.writing || is_left d)) m.core.id ∙ ap (λ b. f.id == id && (b || d.writing || is_left d)) (waits_test d f m.core)
        ∙ ap (λ b. f.id == id && (waits f || b || is_left d)) m.core.writing ∙ ap (λ b. f.id == id && (waits f || is_written f || b)) (left_test d f m.core)

has_passing : {X : Type 0} (number : X → ℕ) (P : X → Type 0) (c : X → Bool) (n : ℕ) (xs : List X) → AllByRecursion P xs → ((x : X) → P x → number x ≡ n → c x ≡ true) → Has number n xs → (x : X) × (find c xs ≡ Some x)
has_passing number P c n [] a passes_it has = elim has [ ]
has_passing {X} number P c n (x ∷ xs) a passes_it has = by (c x) refl has (λ later. has_passing number P c n xs a.1 passes_it later)
  where
    by : (b : Bool) → c x ≡ b → Has number n (x ∷ xs) → (Has number n xs → (y : X) × (find c xs ≡ Some y)) → (y : X) × (cond b (Some x) (find c xs) ≡ Some y)
    by true e has rec = (x, refl)
    by false e (inl at) rec = absurd (let yes : c x ≡ true = passes_it x a.0 at in cc)
    by false e (inr later) rec = rec later

-- the content of a delivery is found by its id while it is needed
pub content_is : (life : ℕ) (h : List DeliveryEvent) → AreFresh h → (n : ℕ) → IsTaken h n → needs_content (fate_of n h) ≡ true → content_of (fate_of n h).id (after_events life h).list ≡ (fate_of n h).content
content_is life h fresh n taken needed =
    let found = has_passing number_of (Stands h) (has_content id) n list (stand life h) there ((follows life h).complete n taken.0 taken.1 (needs_comes (fate_of n h) needed)) in
    let at = all_find (Stands h) (has_content id) list found.0 (stand life h) found.1 in
    ap content_in found.1 ∙ content_at found.0 at.0 at.1
  where
    list : List Delivery
    list = (after_events life h).list

    id : ℕ
    id = (fate_of n h).id

    needs_is : (d : Delivery) → Stands h d → (is_held d.place || d.writing) ≡ needs_content (fate_of d.number h)
    needs_is d s = ap (λ b. b || d.writing) (waits_test d (fate_of d.number h) s.matches.core) ∙ ap (λ b. waits (fate_of d.number h) || b) s.matches.core.writing

    equal : (i j : ℕ) → i ≡ j → (i == j) ≡ true
    equal i j e = grind (arith, nat_tests)

    equal_is : (i j : ℕ) → (i == j) ≡ true → i ≡ j
    equal_is i j e = grind (arith, nat_tests)

    both : (a b : Bool) → a ≡ true → b ≡ true → (a && b) ≡ true
    both a b e f = rw (e, f) refl

    there : (d : Delivery) → Stands h d → number_of d ≡ n → has_content id d ≡ true
    there d s at = both (d.id == id) _ (equal d.id id (s.matches.core.id ∙ ap (λ i. (fate_of i h).id) at)) (needs_is d s ∙ ap (λ i. needs_content (fate_of i h)) at ∙ needed)

    content_at : (d : Delivery) → Stands h d → has_content id d ≡ true → d.content ≡ (fate_of n h).content
    content_at d s is =
        let named : d.id ≡ id = equal_is d.id id (and_one (d.id == id) _ is) in
        let need : needs_content (fate_of d.number h) ≡ true = sym (needs_is d s) ∙ and_two (d.id == id) _ is in
        let same : d.number ≡ n = unique h fresh d.number n (s.positive, s.taken) taken (needed_holds (fate_of d.number h) need) (needed_holds (fate_of n h) needed) (sym s.matches.core.id ∙ named) in
        s.matches.content ∙ ap (λ b. cond b (fate_of d.number h).content None) need ∙ ap (λ i. (fate_of i h).content) same

-- tags

pub known_is : (life tag : ℕ) (multiple : Bool) (h : List DeliveryEvent) → is_known tag multiple (after_events life h).list ≡ is_tag_known tag multiple h
known_is life tag multiple h =
    ap (λ b. (multiple && (tag == 0)) || b)
    (any_passing life h (is_covered tag false) (has_tag tag) (λ d f m. same d f m.core) (λ f e. pending_comes f (and_one (is_pending f) _ (and_one (is_outstanding f) _ e))))
  where
    or_none : (b : Bool) → (b || false) ≡ b
    or_none true = refl
    or_none false = refl

    tag_same : (p n : Bool) (t : Option ℕ) → (((p && is_some t) && not n) && (tag_or t == tag || false)) ≡ ((p && (is_some t && not n)) && passes (λ i. i == tag) t)
    tag_same true n None = refl
    tag_same false n None = refl
    tag_same true n (Some i) = ap (λ b. not n && b) (or_none (i == tag))
    tag_same false n (Some i) = refl

    same : (d : Delivery) (f : Fate) → Core d f → is_covered tag false d ≡ has_tag tag f
    same d f m =
        ap (λ b. (b && not (is_no_ack d.taker)) && (d.tag == tag || false)) (out_test d f m)
        ∙ ap (λ t. ((is_pending f && is_some f.tag) && not (is_no_ack t)) && (d.tag == tag || false)) m.taker
        ∙ ap (λ t. ((is_pending f && is_some f.tag) && not (is_no_ack f.taker)) && (t == tag || false)) m.tag ∙ tag_same (is_pending f) (is_no_ack f.taker) f.tag
