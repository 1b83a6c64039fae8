-- The delivery of a link is the one that its transfers make.
use Rattle.std.proofs.Common.{◌≡◌, ◌∙◌, ℕ, ◌+◌, List, [], ◌∷◌, ◌++◌, Bool, true, false, refl, sym, ap}
use Rattle.std.proofs.Common.{subst, arith, Option, Some, None, cond, map}
use Rattle.std.specs.Prelude.{◌==◌, IfSome, is_some}
use Rattle.std.specs.Option.{option_map, option_or}
use Rattle.std.proofs.lemmas.Bool.Decides.{nat_tests}
use Rattle.consume_path.specs.declared.delivery.Delivery.{Delivery}
use Rattle.consume_path.specs.declared.receiving.Part.{Part}
use Rattle.consume_path.specs.declared.receiving.ReceivingLink.{ReceivingLink}
use Rattle.consume_path.specs.declared.receiving.RecvKind.{RecvKind}
use Rattle.consume_path.specs.Links.{link_of, has_number, joined, new_link, without, link_attached}
use Rattle.consume_path.specs.Links.{link_flowed, link_echoed, link_waits, transfer_came, change_first}
use Rattle.consume_path.specs.Links.{taken_from, link_cancelled, link_closed, flow_sent, get_emptied}
use Rattle.consume_path.specs.Links.{recount}
use Rattle.consume_path.specs.Deliveries.{DeliveryEvent, LinkAdded, LinkAttached}
use Rattle.consume_path.specs.Deliveries.{LinkFlowed, LinkEchoed, GetCame, TransferCame, Arrived}
use Rattle.consume_path.specs.Deliveries.{LinkDropped, Delivered, Written, Answered, Cancelled}
use Rattle.consume_path.specs.Deliveries.{Closed, EndLost, PrefetchSet, GlobalSet, SettleSent}
use Rattle.consume_path.specs.Deliveries.{GrantSent, Emptied, LinesTold, after_events}
use Rattle.consume_path.specs.Laws.{AreCalls, Piece, pieces_of, joined_of}
use Rattle.consume_path.proofs.Finding.{find_map, find_push, find_without, find_change, found_number}
use Rattle.consume_path.proofs.Granting.{equal}

abbrev Has : List Piece → ReceivingLink → Type 0
Has ps l = l.partial ≡ joined_of ps

abbrev Joins : List ReceivingLink → ℕ → List Piece → Type 0
Joins links k ps = IfSome (link_of links k) (Has ps)

joined_more : (part : Part) (payload : List ℕ) (ps : List Piece) → part.aborted ≡ false → joined part payload (joined_of ps) ≡ joined_of (record { part = part; payload = payload } ∷ ps)
joined_more part payload [] e = rw e refl
joined_more part payload (p ∷ ps) e = rw e refl

-- a change that leaves the delivery
joins_map : (g : ReceivingLink → ReceivingLink) → ((l : ReceivingLink) → (g l).link ≡ l.link) → ((l : ReceivingLink) → (g l).partial ≡ l.partial) → (links : List ReceivingLink) (k : ℕ) (ps : List Piece) → Joins links k ps → Joins (map g links) k ps
joins_map g same keeps links k ps j = subst (λ o. IfSome o (Has ps)) (sym (find_map g same links k)) (by (link_of links k) j)
  where
    by : (o : Option ReceivingLink) → IfSome o (Has ps) → IfSome (option_map g o) (Has ps)
    by None j = tt
    by (Some l) j = keeps l ∙ j

joins_count : (list : List Delivery) (links : List ReceivingLink) (k : ℕ) (ps : List Piece) → Joins links k ps → Joins (map (recount list) links) k ps
joins_count list = joins_map (recount list) (λ l. refl) (λ l. refl)

same_number : (i j : ℕ) → (i == j) ≡ true → (j == i) ≡ true
same_number i j e = grind (arith, nat_tests)

other_number : (i j : ℕ) → (i == j) ≡ false → (j == i) ≡ false
other_number i j e = grind (arith, nat_tests)

joins_added : (links : List ReceivingLink) (link : ℕ) (kind : RecvKind) (prefetch k : ℕ) (ps : List Piece) → link_of links link ≡ None → Joins links k ps → Joins (links ++ new_link link kind prefetch ∷ []) k (cond (link == k) [] ps)
joins_added links link kind prefetch k ps none j = subst (λ o. IfSome o (Has (cond (link == k) [] ps))) (sym (find_push links (new_link link kind prefetch) k)) (by (link == k) refl (link_of links k) refl j)
  where
    by : (b : Bool) → (link == k) ≡ b → (o : Option ReceivingLink) → link_of links k ≡ o → IfSome o (Has ps) → IfSome (option_or o (cond b (Some (new_link link kind prefetch)) None)) (Has (cond b [] ps))
    by true e None f j = refl
    by true e (Some l) f j = absurd (let no_link : link_of links k ≡ None = ap (link_of links) (sym (equal link k e)) ∙ none in cc)
    by false e None f j = tt
    by false e (Some l) f j = j

joins_transfer : (links : List ReceivingLink) (link : ℕ) (part : Part) (payload : List ℕ) (k : ℕ) (ps : List Piece) → Joins links k ps
    → Joins (change_first (has_number link) (transfer_came part payload) links) k (cond (link == k) (cond part.aborted [] (record { part = part; payload = payload } ∷ ps)) ps)
joins_transfer links link part payload k ps j =
    subst (λ o. IfSome o (Has (cond (link == k) (cond part.aborted [] (record { part = part; payload = payload } ∷ ps)) ps))) (sym (find_change (transfer_came part payload) (λ l. refl) link k links))
    (by (link == k) (k == link) refl refl (link_of links k) j)
  where
    more : (a : Bool) (l : ReceivingLink) → part.aborted ≡ a → Has ps l → joined part payload l.partial ≡ joined_of (cond a [] (record { part = part; payload = payload } ∷ ps))
    more true l e j = rw e refl
    more false l e j = ap (joined part payload) j ∙ joined_more part payload ps e

    by : (b c : Bool) → (link == k) ≡ b → (k == link) ≡ c → (o : Option ReceivingLink) → IfSome o (Has ps)
        → IfSome (cond c (option_map (transfer_came part payload) o) o) (Has (cond b (cond part.aborted [] (record { part = part; payload = payload } ∷ ps)) ps))
    by true true e f None j = tt
    by true true e f (Some l) j = more part.aborted l refl j
    by true false e f o j = absurd (let yes : (k == link) ≡ true = same_number link k e in cc)
    by false true e f o j = absurd (let no_match : (k == link) ≡ false = other_number link k e in cc)
    by false false e f o j = j

joins_taken : (links : List ReceivingLink) (link : ℕ) (image : Bool) (k : ℕ) (ps : List Piece) → Joins links k ps → Joins (map (taken_from link image) links) k (cond (link == k) [] ps)
joins_taken links link image k ps j = subst (λ o. IfSome o (Has (cond (link == k) [] ps))) (sym (find_map (taken_from link image) (λ l. refl) links k)) (by (link == k) refl (link_of links k) refl j)
  where
    taken : (l : ReceivingLink) (b : Bool) → (l.link == link) ≡ b → (taken_from link image l).partial ≡ cond b None l.partial
    taken l b e = ap (λ t. cond t None l.partial) e

    by : (b : Bool) → (link == k) ≡ b → (o : Option ReceivingLink) → link_of links k ≡ o → IfSome o (Has ps) → IfSome (option_map (taken_from link image) o) (Has (cond b [] ps))
    by b e None f j = tt
    by true e (Some l) f j = taken l true (ap (λ i. i == link) (found_number links k l f) ∙ same_number link k e)
    by false e (Some l) f j = taken l false (ap (λ i. i == link) (found_number links k l f) ∙ other_number link k e) ∙ j

joins_dropped : (links : List ReceivingLink) (link k : ℕ) (ps : List Piece) → Joins links k ps → Joins (without link links) k ps
joins_dropped links link k ps j = subst (λ o. IfSome o (Has ps)) (sym (find_without link k links)) (by (k == link))
  where
    by : (b : Bool) → IfSome (cond b None (link_of links k)) (Has ps)
    by true = tt
    by false = j

pub joins : (life : ℕ) (h : List DeliveryEvent) (k : ℕ) → AreCalls life h → Joins (after_events life h).links k (pieces_of k h)
joins life [] k c = tt
joins life (LinkAdded link kind ∷ h) k c = let s = after_events life h in joins_count s.list _ k _ (joins_added s.links link kind s.prefetch k (pieces_of k h) c.0 (joins life h k c.1))
joins life (LinkAttached link count ∷ h) k c = joins_map (link_attached link count) (λ l. refl) (λ l. refl) (after_events life h).links k (pieces_of k h) (joins life h k c.1)
joins life (LinkFlowed link count ∷ h) k c = joins_map (link_flowed link count) (λ l. refl) (λ l. refl) (after_events life h).links k (pieces_of k h) (joins life h k c.1)
joins life (LinkEchoed link ∷ h) k c = joins_map (link_echoed link) (λ l. refl) (λ l. refl) (after_events life h).links k (pieces_of k h) (joins life h k c.1)
joins life (GetCame link no_ack ∷ h) k c = joins_map (link_waits link ((after_events life h).gets + 1) no_ack) (λ l. refl) (λ l. refl) (after_events life h).links k (pieces_of k h) (joins life h k c.1)
joins life (TransferCame link part payload ∷ h) k c = let s = after_events life h in joins_count s.list _ k _ (joins_transfer s.links link part payload k (pieces_of k h) (joins life h k c.1))
joins life (Arrived a content again ∷ h) k c = joins_count (after_events life (Arrived a content again ∷ h)).list _ k _ (joins_taken (after_events life h).links a.link (is_some content) k (pieces_of k h) (joins life h k c.1))
joins life (LinkDropped link ∷ h) k c = joins_count (after_events life (LinkDropped link ∷ h)).list _ k _ (joins_dropped (after_events life h).links link k (pieces_of k h) (joins life h k c.1))
joins life (Delivered number ∷ h) k c = joins_count (after_events life (Delivered number ∷ h)).list _ k _ (joins life h k c.1)
joins life (Written tag ∷ h) k c = joins_count (after_events life (Written tag ∷ h)).list _ k _ (joins life h k c.1)
joins life (Answered tag multiple settle ∷ h) k c = joins_count (after_events life (Answered tag multiple settle ∷ h)).list _ k _ (joins life h k c.1)
joins life (Cancelled link ∷ h) k c = joins_count (after_events life (Cancelled link ∷ h)).list _ k _ (joins_map (link_cancelled link) (λ l. refl) (λ l. refl) (after_events life h).links k (pieces_of k h) (joins life h k c.1))
joins life (Closed ∷ h) k c = joins_count (after_events life (Closed ∷ h)).list _ k _ (joins_map link_closed (λ l. refl) (λ l. refl) (after_events life h).links k (pieces_of k h) (joins life h k c.1))
joins life (EndLost ∷ h) k c = joins_count (after_events life (EndLost ∷ h)).list _ k _ (joins life h k c.1)
joins life (PrefetchSet count ∷ h) k c = joins life h k c.1
joins life (GlobalSet count ∷ h) k c = joins life h k c.1
joins life (SettleSent settle ∷ h) k c = joins_count (after_events life (SettleSent settle ∷ h)).list _ k _ (joins life h k c.1)
joins life (GrantSent g ∷ h) k c = joins_map (flow_sent g.link g.credit g.cause) (λ l. refl) (λ l. refl) (after_events life h).links k (pieces_of k h) (joins life h k c.1)
joins life (Emptied link ∷ h) k c = joins_map (get_emptied link) (λ l. refl) (λ l. refl) (after_events life h).links k (pieces_of k h) (joins life h k c.1)
joins life (LinesTold ∷ h) k c = joins_count (after_events life (LinesTold ∷ h)).list _ k _ (joins life h k c.1)
