-- What counts on each link, and the delivery tags.
use Rattle.std.proofs.Common.{◌≡◌, ◌∙◌, ℕ, ◌+◌, ◌≤◌, List, [], ◌∷◌, Bool, true, false, refl}
use Rattle.std.proofs.Common.{sym, ap, arith, Some, cond, map}
use Rattle.std.specs.Prelude.{not, ◌&&◌, ◌||◌, ◌==◌, nat_lt, count_by, is_some}
use Rattle.std.specs.List.{AllByRecursion}
use Rattle.std.proofs.lemmas.Bool.Decides.{nat_tests}
use Rattle.links_10.specs.Recv.{after_attach, after_peer_flow, after_grant, gave_up, left_by}
use Rattle.links_10.specs.declared.recv.Receiving.{Receiving}
use Rattle.open_items.proofs.Filtered.{all_map}
use Rattle.open_items.proofs.Counted.{how_many_passing}
use Rattle.consume_path.specs.declared.delivery.Delivery.{Delivery}
use Rattle.consume_path.specs.declared.receiving.ReceivingLink.{ReceivingLink}
use Rattle.consume_path.specs.Items.{is_out, limit_of, is_on}
use Rattle.consume_path.specs.Links.{has_number, counts, counts_on, recount}
use Rattle.consume_path.specs.Links.{one_if, link_attached, link_flowed, link_echoed, link_waits}
use Rattle.consume_path.specs.Links.{flow_sent, get_emptied}
use Rattle.consume_path.specs.Deliveries.{DeliveryEvent, LinkAdded, LinkAttached, LinkFlowed}
use Rattle.consume_path.specs.Deliveries.{LinkEchoed, GetCame, TransferCame, Arrived, LinkDropped}
use Rattle.consume_path.specs.Deliveries.{Delivered, Written, Answered, Cancelled, Closed, EndLost}
use Rattle.consume_path.specs.Deliveries.{PrefetchSet, GlobalSet, SettleSent, GrantSent, Emptied}
use Rattle.consume_path.specs.Deliveries.{LinesTold, after_events}
use Rattle.consume_path.specs.Journal.{Fate, new_fate, fate_of, numbers_of, tags_of, is_closed}
use Rattle.consume_path.specs.Journal.{is_pending, waits, is_counted, is_to_come}
use Rattle.consume_path.specs.Laws.{is_counted_on, counted_on, IsCounted}
use Rattle.consume_path.proofs.Matching.{Matches, waits_test, out_test}
use Rattle.consume_path.proofs.Keeping.{number_of, follows, and_one, and_two}
use Rattle.consume_path.proofs.Delivering.{pending_comes}

-- what counts

counts_is : (p t l : Bool) → ((p && not t) || ((p && t) && l)) ≡ (p && (not t || l))
counts_is true true l = refl
counts_is true false l = refl
counts_is false t l = refl

counts_test : (d : Delivery) (f : Fate) → Matches d f → counts d ≡ is_counted f
counts_test d f m =
    ap (λ b. b || (is_out d.place && is_some (limit_of d.taker))) (waits_test d f m.core)
    ∙ ap (λ b. waits f || (b && is_some (limit_of d.taker))) (out_test d f m.core)
    ∙ ap (λ t. waits f || ((is_pending f && is_some f.tag) && is_some (limit_of t))) m.core.taker
    ∙ counts_is (is_pending f) (is_some f.tag) (is_some (limit_of f.taker))

counted_is : (life : ℕ) (h : List DeliveryEvent) (link : ℕ) → count_by (counts_on link) (after_events life h).list ≡ counted_on link h
counted_is life h link =
    how_many_passing number_of Matches is_to_come (counts_on link) (is_counted_on link) (λ n. fate_of n h) (numbers_of h) (after_events life h).list
    (λ d f m. ap (λ l. is_on link l && counts d) m.core.link ∙ ap (λ b. is_on link f.link && b) (counts_test d f m))
    (λ f e. pending_comes f (and_one (is_pending f) _ (and_two (is_on link f.link) (is_counted f) e))) (follows life h)

-- an event that counts anew
recounted_all : (life : ℕ) (h : List DeliveryEvent) (ls : List ReceivingLink) → AllByRecursion (IsCounted h) (map (recount (after_events life h).list) ls)
recounted_all life h [] = tt
recounted_all life h (l ∷ ls) = (ap (λ n. n + one_if (is_some l.partial)) (counted_is life h l.link), recounted_all life h ls)

attach_counts : (b : Bool) (count : ℕ) (s : Receiving) → (cond b (after_attach count s) s).counted ≡ s.counted
attach_counts true count s = refl
attach_counts false count s = refl

flow_counts : (count : ℕ) (s : Receiving) → (after_peer_flow count s).counted ≡ s.counted
flow_counts count s = by (nat_lt (left_by count s) s.credit)
  where
    by : (b : Bool) → (cond b (gave_up (left_by count s) s) s).counted ≡ s.counted
    by true = refl
    by false = refl

peer_counts : (b : Bool) (count : ℕ) (s : Receiving) → (cond b (after_peer_flow count s) s).counted ≡ s.counted
peer_counts true count s = flow_counts count s
peer_counts false count s = refl

grant_counts : (b : Bool) (credit : ℕ) (s : Receiving) → (cond b (after_grant credit s) s).counted ≡ s.counted
grant_counts true credit s = refl
grant_counts false credit s = refl

pub counted : (life : ℕ) (h : List DeliveryEvent) → AllByRecursion (IsCounted h) (after_events life h).links
counted life [] = tt
counted life (LinkAdded link kind ∷ h) = recounted_all life (LinkAdded link kind ∷ h) _
counted life (LinkAttached link count ∷ h) = all_map (link_attached link count) (IsCounted h) (IsCounted (LinkAttached link count ∷ h)) (λ l e. attach_counts (has_number link l) count l.state ∙ e) (after_events life h).links (counted life h)
counted life (LinkFlowed link count ∷ h) = all_map (link_flowed link count) (IsCounted h) (IsCounted (LinkFlowed link count ∷ h)) (λ l e. peer_counts (has_number link l) count l.state ∙ e) (after_events life h).links (counted life h)
counted life (LinkEchoed link ∷ h) = all_map (link_echoed link) (IsCounted h) (IsCounted (LinkEchoed link ∷ h)) (λ l e. e) (after_events life h).links (counted life h)
counted life (GetCame link no_ack ∷ h) = all_map (link_waits link ((after_events life h).gets + 1) no_ack) (IsCounted h) (IsCounted (GetCame link no_ack ∷ h)) (λ l e. e) (after_events life h).links (counted life h)
counted life (TransferCame link part payload ∷ h) = recounted_all life (TransferCame link part payload ∷ h) _
counted life (Arrived a content again ∷ h) = recounted_all life (Arrived a content again ∷ h) _
counted life (LinkDropped link ∷ h) = recounted_all life (LinkDropped link ∷ h) _
counted life (Delivered number ∷ h) = recounted_all life (Delivered number ∷ h) _
counted life (Written tag ∷ h) = recounted_all life (Written tag ∷ h) _
counted life (Answered tag multiple s ∷ h) = recounted_all life (Answered tag multiple s ∷ h) _
counted life (Cancelled link ∷ h) = recounted_all life (Cancelled link ∷ h) _
counted life (Closed ∷ h) = recounted_all life (Closed ∷ h) _
counted life (EndLost ∷ h) = recounted_all life (EndLost ∷ h) _
counted life (PrefetchSet count ∷ h) = counted life h
counted life (GlobalSet count ∷ h) = counted life h
counted life (SettleSent s ∷ h) = recounted_all life (SettleSent s ∷ h) _
counted life (GrantSent g ∷ h) = all_map (flow_sent g.link g.credit g.cause) (IsCounted h) (IsCounted (GrantSent g ∷ h)) (λ l e. grant_counts (has_number g.link l) g.credit l.state ∙ e) (after_events life h).links (counted life h)
counted life (Emptied link ∷ h) = all_map (get_emptied link) (IsCounted h) (IsCounted (Emptied link ∷ h)) (λ l e. e) (after_events life h).links (counted life h)
counted life (LinesTold ∷ h) = recounted_all life (LinesTold ∷ h) _

-- tags

abbrev Tagged : List DeliveryEvent → ℕ → Type 0
Tagged h n = (t : ℕ) → (fate_of n h).tag ≡ Some t → (1 ≤ t) × (t ≤ tags_of h)

some_is : (i j : ℕ) → Some i ≡ Some j → i ≡ j
some_is i j e = cc

pub tagged : (h : List DeliveryEvent) (n : ℕ) → Tagged h n
tagged [] n t e = absurd (cc)
tagged (LinkAdded link kind ∷ h) n t e = tagged h n t e
tagged (LinkAttached link count ∷ h) n t e = tagged h n t e
tagged (LinkFlowed link count ∷ h) n t e = tagged h n t e
tagged (LinkEchoed link ∷ h) n t e = tagged h n t e
tagged (GetCame link no_ack ∷ h) n t e = tagged h n t e
tagged (TransferCame link part payload ∷ h) n t e = tagged h n t e
tagged (Arrived a content again ∷ h) n t e = by (n == numbers_of h + 1) e (tagged h n t)
  where
    by : (b : Bool) → (cond b (new_fate (is_closed h) a content again) (fate_of n h)).tag ≡ Some t → ((fate_of n h).tag ≡ Some t → (1 ≤ t) × (t ≤ tags_of h)) → (1 ≤ t) × (t ≤ tags_of h)
    by true e ih = absurd (cc)
    by false e ih = ih e
tagged (LinkDropped link ∷ h) n t e = tagged h n t e
tagged (Delivered number ∷ h) n t e = by ((n == number) && waits (fate_of n h)) e (tagged h n t)
  where
    by : (b : Bool) → cond b (Some (tags_of h + 1)) (fate_of n h).tag ≡ Some t → ((fate_of n h).tag ≡ Some t → (1 ≤ t) × (t ≤ tags_of h)) → (1 ≤ t) × (t ≤ tags_of h + 1)
    by true e ih = let same : tags_of h + 1 ≡ t = some_is (tags_of h + 1) t e in (omega arith, omega arith)
    by false e ih = let r = ih e in let low : 1 ≤ t = r.0 in let high : t ≤ tags_of h = r.1 in (omega arith, omega arith)
tagged (Written tag ∷ h) n t e = tagged h n t e
tagged (Answered tag multiple s ∷ h) n t e = tagged h n t e
tagged (Cancelled link ∷ h) n t e = tagged h n t e
tagged (Closed ∷ h) n t e = tagged h n t e
tagged (EndLost ∷ h) n t e = tagged h n t e
tagged (PrefetchSet count ∷ h) n t e = tagged h n t e
tagged (GlobalSet count ∷ h) n t e = tagged h n t e
tagged (SettleSent s ∷ h) n t e = tagged h n t e
tagged (GrantSent g ∷ h) n t e = tagged h n t e
tagged (Emptied link ∷ h) n t e = tagged h n t e
tagged (LinesTold ∷ h) n t e = tagged h n t e

number_is : (m n : ℕ) (b : Bool) → ((m == n) && b) ≡ true → m ≡ n
number_is m n b e = let is : (m == n) ≡ true = and_one (m == n) b e in grind (arith, nat_tests)

-- no two have one tag
pub tags_differ : (h : List DeliveryEvent) (m n t : ℕ) → (fate_of m h).tag ≡ Some t → (fate_of n h).tag ≡ Some t → m ≡ n
tags_differ [] m n t e f = absurd (cc)
tags_differ (LinkAdded link kind ∷ h) m n t e f = tags_differ h m n t e f
tags_differ (LinkAttached link count ∷ h) m n t e f = tags_differ h m n t e f
tags_differ (LinkFlowed link count ∷ h) m n t e f = tags_differ h m n t e f
tags_differ (LinkEchoed link ∷ h) m n t e f = tags_differ h m n t e f
tags_differ (GetCame link no_ack ∷ h) m n t e f = tags_differ h m n t e f
tags_differ (TransferCame link part payload ∷ h) m n t e f = tags_differ h m n t e f
tags_differ (Arrived a content again ∷ h) m n t e f = by (m == numbers_of h + 1) (n == numbers_of h + 1) e f (tags_differ h m n t)
  where
    new : Fate
    new = new_fate (is_closed h) a content again

    by : (b c : Bool) → (cond b new (fate_of m h)).tag ≡ Some t → (cond c new (fate_of n h)).tag ≡ Some t → ((fate_of m h).tag ≡ Some t → (fate_of n h).tag ≡ Some t → m ≡ n) → m ≡ n
    by true c e f ih = absurd (cc)
    by false true e f ih = absurd (cc)
    by false false e f ih = ih e f
tags_differ (LinkDropped link ∷ h) m n t e f = tags_differ h m n t e f
tags_differ (Delivered number ∷ h) m n t e f = by ((m == number) && waits (fate_of m h)) ((n == number) && waits (fate_of n h)) refl refl e f (tags_differ h m n t)
  where
    over : (k : ℕ) → Some (tags_of h + 1) ≡ Some t → (fate_of k h).tag ≡ Some t → ⊥
    over k e f = let same : tags_of h + 1 ≡ t = some_is (tags_of h + 1) t e in let high : t ≤ tags_of h = (tagged h k t f).1 in absurd (omega arith)

    by : (b c : Bool) → ((m == number) && waits (fate_of m h)) ≡ b → ((n == number) && waits (fate_of n h)) ≡ c → cond b (Some (tags_of h + 1)) (fate_of m h).tag ≡ Some t → cond c (Some (tags_of h + 1)) (fate_of n h).tag ≡ Some t
        → ((fate_of m h).tag ≡ Some t → (fate_of n h).tag ≡ Some t → m ≡ n) → m ≡ n
    by true true x y e f ih = number_is m number (waits (fate_of m h)) x ∙ sym (number_is n number (waits (fate_of n h)) y)
    by true false x y e f ih = absurd (over n e f)
    by false true x y e f ih = absurd (over m f e)
    by false false x y e f ih = ih e f
tags_differ (Written tag ∷ h) m n t e f = tags_differ h m n t e f
tags_differ (Answered tag multiple s ∷ h) m n t e f = tags_differ h m n t e f
tags_differ (Cancelled link ∷ h) m n t e f = tags_differ h m n t e f
tags_differ (Closed ∷ h) m n t e f = tags_differ h m n t e f
tags_differ (EndLost ∷ h) m n t e f = tags_differ h m n t e f
tags_differ (PrefetchSet count ∷ h) m n t e f = tags_differ h m n t e f
tags_differ (GlobalSet count ∷ h) m n t e f = tags_differ h m n t e f
tags_differ (SettleSent s ∷ h) m n t e f = tags_differ h m n t e f
tags_differ (GrantSent g ∷ h) m n t e f = tags_differ h m n t e f
tags_differ (Emptied link ∷ h) m n t e f = tags_differ h m n t e f
tags_differ (LinesTold ∷ h) m n t e f = tags_differ h m n t e f
