-- Where each event is that of a call, no two open deliveries came under one delivery-id.
use Rattle.std.proofs.Common.{◌≡◌, ◌∙◌, ℕ, ◌+◌, ◌^◌, ◌≤◌, ◌<◌, List, [], ◌∷◌, ◌++◌, Bool, true, false}
use Rattle.std.proofs.Common.{refl, sym, ap, subst, arith, Option, Some, None, cond, map}
use Rattle.std.proofs.Common.{inl, inr}
use Rattle.std.specs.Prelude.{not, ◌&&◌, ◌||◌, ◌==◌, ◌⊎◌, nat_lt, is_some, length}
use Rattle.std.specs.Option.{option_map, option_or}
use Rattle.std.specs.List.{list_any}
use Rattle.std.proofs.lemmas.Bool.Decides.{nat_tests}
use Rattle.open_items.proofs.Counted.{least_none}
use Rattle.consume_path.specs.declared.delivery.Arriving.{Arriving}
use Rattle.consume_path.specs.declared.delivery.Content.{Content}
use Rattle.consume_path.specs.declared.delivery.Delivery.{Delivery}
use Rattle.consume_path.specs.declared.receiving.Part.{Part}
use Rattle.consume_path.specs.declared.receiving.Partial.{Partial}
use Rattle.consume_path.specs.declared.receiving.ReceivingLink.{ReceivingLink}
use Rattle.consume_path.specs.declared.receiving.RecvKind.{RecvKind}
use Rattle.consume_path.specs.declared.receiving.TransferFault.TheVariants.{InvalidField}
use Rattle.consume_path.specs.declared.receiving.TransferFault.TheVariants.{LimitExceeded}
use Rattle.consume_path.specs.declared.receiving.TransferFault.TheVariants.{SizeExceeded}
use Rattle.consume_path.specs.Links.{has_number, link_of, in_link, is_between, id_or, id_in, bytes_in}
use Rattle.consume_path.specs.Links.{settled_in}
use Rattle.consume_path.specs.Links.{is_whole, new_link, without, link_attached, link_flowed}
use Rattle.consume_path.specs.Links.{link_echoed, link_waits, transfer_came, change_first, taken_from}
use Rattle.consume_path.specs.Links.{link_cancelled, link_closed, flow_sent, get_emptied, recount}
use Rattle.consume_path.specs.Deliveries.{DeliveryEvent, LinkAdded, LinkAttached}
use Rattle.consume_path.specs.Deliveries.{LinkFlowed, LinkEchoed, GetCame, TransferCame, Arrived}
use Rattle.consume_path.specs.Deliveries.{LinkDropped, Delivered, Written, Answered, Cancelled}
use Rattle.consume_path.specs.Deliveries.{Closed, EndLost, PrefetchSet, GlobalSet, SettleSent}
use Rattle.consume_path.specs.Deliveries.{GrantSent, Emptied, LinesTold, after_events}
use Rattle.consume_path.specs.Offers.{has_open_id, has_begun_id, is_partial, is_open_id, most_bytes}
use Rattle.consume_path.specs.Offers.{lacks_field, is_other, fault_of, fault_in, arriving_in}
use Rattle.consume_path.specs.Journal.{fate_of, new_fate, numbers_of, is_closed, IsTaken}
use Rattle.consume_path.specs.Laws.{holds_id, AreFresh, has_id, is_id_open, AreCalls}
use Rattle.consume_path.proofs.Finding.{find_map, find_push, find_without, find_change, found_number}
use Rattle.consume_path.proofs.Granting.{equal}
use Rattle.consume_path.proofs.Delivering.{open_id_is}
use Rattle.consume_path.proofs.Fates.{Keeps, keeps_delivered, keeps_written, keeps_answered}
use Rattle.consume_path.proofs.Fates.{keeps_cancelled, keeps_closed, keeps_lost, keeps_sent, taken_before}

-- the id of the delivery that is begun on a link

abbrev partial_id : Option Partial → Option ℕ
partial_id None = None
partial_id (Some p) = Some p.id

abbrev id_on : Option ReceivingLink → Option ℕ
id_on None = None
id_on (Some l) = partial_id l.partial

abbrev id_at : List ReceivingLink → ℕ → Option ℕ
id_at links k = id_on (link_of links k)

-- no open delivery has an id
abbrev Free : List DeliveryEvent → ℕ → Type 0
Free h i = (n : ℕ) → IsTaken h n → holds_id (fate_of n h) ≡ true → (fate_of n h).id ≡ i → ⊥

-- a delivery that is begun has 32 bits of id, which no open one has, and no other that is begun
pub record Begun (h : List DeliveryEvent) (links : List ReceivingLink) : Type 0 where
  pub range : (k i : ℕ) → id_at links k ≡ Some i → i < 2 ^ 32
  pub free : (k i : ℕ) → id_at links k ≡ Some i → Free h i
  pub apart : (j k i : ℕ) → id_at links j ≡ Some i → id_at links k ≡ Some i → j ≡ k

-- where no more are begun
less_begun : (h later : List DeliveryEvent) (links new : List ReceivingLink) → ((k i : ℕ) → id_at new k ≡ Some i → id_at links k ≡ Some i) → ((i : ℕ) → Free h i → Free later i) → Begun h links → Begun later new
less_begun h later links new before free b = record {
  range = λ k i e. b.range k i (before k i e);
  free = λ k i e. free i (b.free k i (before k i e));
  apart = λ j k i e f. b.apart j k i (before j i e) (before k i f);
}

-- a change of each link that leaves what is begun
same_ids : (f : ReceivingLink → ReceivingLink) → ((l : ReceivingLink) → (f l).link ≡ l.link) → ((l : ReceivingLink) → (f l).partial ≡ l.partial) → (links : List ReceivingLink) (k : ℕ) → id_at (map f links) k ≡ id_at links k
same_ids f same keeps links k = ap id_on (find_map f same links k) ∙ by (link_of links k)
  where
    by : (o : Option ReceivingLink) → id_on (option_map f o) ≡ id_on o
    by None = refl
    by (Some l) = ap partial_id (keeps l)

map_begun : (h later : List DeliveryEvent) (links : List ReceivingLink) (f : ReceivingLink → ReceivingLink) → ((l : ReceivingLink) → (f l).link ≡ l.link) → ((l : ReceivingLink) → (f l).partial ≡ l.partial) → ((i : ℕ) → Free h i → Free later i) → Begun h links → Begun later (map f links)
map_begun h later links f same keeps free b = less_begun h later links (map f links) (λ k i e. sym (same_ids f same keeps links k) ∙ e) free b

keep_free : (h : List DeliveryEvent) (x : DeliveryEvent) → Keeps h x → (i : ℕ) → Free h i → Free (x ∷ h) i
keep_free h x k i free n taken holds e = free n (taken.0, subst (λ m. n ≤ m) k.count taken.1) (k.less n (fate_of n h) holds) (sym (k.id n (fate_of n h)) ∙ e)

-- a link that is added, or goes

added_begun : (h : List DeliveryEvent) (links : List ReceivingLink) (link : ℕ) (kind : RecvKind) (prefetch : ℕ) → Begun h links → Begun (LinkAdded link kind ∷ h) (links ++ new_link link kind prefetch ∷ [])
added_begun h links link kind prefetch b = less_begun h (LinkAdded link kind ∷ h) links (links ++ new_link link kind prefetch ∷ []) (λ k i e. by k i (link_of links k) (link == k) (ap id_on (sym (find_push links (new_link link kind prefetch) k)) ∙ e)) (λ i f. f) b
  where
    by : (k i : ℕ) (o : Option ReceivingLink) (c : Bool) → id_on (option_or o (cond c (Some (new_link link kind prefetch)) None)) ≡ Some i → id_on o ≡ Some i
    by k i None true e = absurd (cc)
    by k i None false e = absurd (cc)
    by k i (Some l) c e = e

dropped_begun : (h : List DeliveryEvent) (links : List ReceivingLink) (link : ℕ) → Begun h links → Begun (LinkDropped link ∷ h) (without link links)
dropped_begun h links link b = less_begun h (LinkDropped link ∷ h) links (without link links) (λ k i e. by i (link_of links k) (k == link) (ap id_on (sym (find_without link k links)) ∙ e)) (λ i f. f) b
  where
    by : (i : ℕ) (o : Option ReceivingLink) (c : Bool) → id_on (cond c None o) ≡ Some i → id_on o ≡ Some i
    by i o true e = absurd (cc)
    by i o false e = e

-- a transfer

found_any : (t : ReceivingLink → Bool) (links : List ReceivingLink) (k : ℕ) (l : ReceivingLink) → link_of links k ≡ Some l → t l ≡ true → list_any t links ≡ true
found_any t [] k l e is = absurd (cc)
found_any t (x ∷ xs) k l e is = by (x.link == k) e (found_any t xs k l)
  where
    or_right : (b : Bool) → (b || true) ≡ true
    or_right true = refl
    or_right false = refl

    by : (b : Bool) → cond b (Some x) (link_of xs k) ≡ Some l → (link_of xs k ≡ Some l → t l ≡ true → list_any t xs ≡ true) → (t x || list_any t xs) ≡ true
    by true e rec = let same : x ≡ l = cc in ap (λ b. b || list_any t xs) (ap t same ∙ is)
    by false e rec = rw (rec e is) (or_right (t x))

or_parts : (a b : Bool) → (a || b) ≡ false → (a ≡ false) × (b ≡ false)
or_parts true b e = absurd (cc)
or_parts false b e = (refl, e)

and_rest : (a b : Bool) → a ≡ true → (a && b) ≡ false → b ≡ false
and_rest true b e f = f
and_rest false b e f = absurd (cc)

-- the id of a first transfer that isn't at fault is that of no open delivery
first_open : (part : Part) (size : ℕ) (l : ReceivingLink) (links : List ReceivingLink) (list : List Delivery) → fault_of part size l links list ≡ None → is_between l ≡ true → is_open_id (id_or 0 part.id) links list ≡ false
first_open part size l links list e between = by (lacks_field (is_between l) part) (is_between l && is_open_id (id_or 0 part.id) links list) (is_other l.partial part.id) refl e
  where
    by : (a c d : Bool) → (is_between l && is_open_id (id_or 0 part.id) links list) ≡ c
        → cond ((a || c) || d) (Some InvalidField) (cond (is_between l && (l.state.limit_left == 0)) (Some LimitExceeded) (cond (nat_lt most_bytes (length (bytes_in l.partial) + size)) (Some SizeExceeded) None)) ≡ None → is_open_id (id_or 0 part.id) links list ≡ false
    by true c d is e = absurd (cc)
    by false true d is e = absurd (cc)
    by false false d is e = and_rest (is_between l) _ between is

abbrev FreshId : List DeliveryEvent → List ReceivingLink → ℕ → Type 0
FreshId h links i = Free h i × ((j : ℕ) → id_at links j ≡ Some i → ⊥)

none_of : (o : Option ℕ) → is_some o ≡ false → o ≡ None
none_of None e = refl
none_of (Some i) e = absurd (cc)

same_test : (i j : ℕ) → i ≡ j → (i == j) ≡ true
same_test i j e = grind (arith, nat_tests)

fresh_id : (life : ℕ) (h : List DeliveryEvent) (i : ℕ) → is_open_id i (after_events life h).links (after_events life h).list ≡ false → FreshId h (after_events life h).links i
fresh_id life h i e = (free, none_begun)
  where
    links : List ReceivingLink
    links = (after_events life h).links

    parts : (list_any (has_begun_id i) (after_events life h).links ≡ false) × (list_any (has_open_id i) (after_events life h).list ≡ false)
    parts = or_parts (list_any (has_begun_id i) (after_events life h).links) _ e

    free : Free h i
    free n taken holds at =
        let none : is_id_open i h ≡ false = sym (open_id_is life i h) ∙ parts.1 in
        let not_it : has_id i (fate_of n h) ≡ false = least_none (λ m. has_id i (fate_of m h)) (numbers_of h) (none_of _ none) n taken.0 taken.1 in
        let it : has_id i (fate_of n h) ≡ true = rw (same_test (fate_of n h).id i at) holds in
        cc

    none_begun : (j : ℕ) → id_at (after_events life h).links j ≡ Some i → ⊥
    none_begun j at = by (link_of (after_events life h).links j) refl at
      where
        here : (p : Option Partial) → partial_id p ≡ Some i → is_partial i p ≡ true
        here None e = absurd (cc)
        here (Some p) e = same_test p.id i (cc)

        by : (o : Option ReceivingLink) → link_of (after_events life h).links j ≡ o → id_on o ≡ Some i → ⊥
        by None is e = cc
        by (Some l) is e = let yes : list_any (has_begun_id i) (after_events life h).links ≡ true = found_any (has_begun_id i) (after_events life h).links j l is (here l.partial e) in let no_match : list_any (has_begun_id i) (after_events life h).links ≡ false = parts.0 in cc

-- what is begun after a transfer was begun before, or begins with it
abbrev After : List DeliveryEvent → List ReceivingLink → ℕ → ℕ → ℕ → ℕ → Type 0
After h links link first k i = (id_at links k ≡ Some i) ⊎ ((k ≡ link) × (i ≡ first) × FreshId h links i)

some_same : (i j : ℕ) → Some i ≡ Some j → i ≡ j
some_same i j e = cc

after_transfer : (life : ℕ) (h : List DeliveryEvent) (link : ℕ) (part : Part) (payload : List ℕ) → fault_in part (length payload) (link_of (after_events life h).links link) (after_events life h).links (after_events life h).list ≡ None
    → (k i : ℕ) → id_at (change_first (has_number link) (transfer_came part payload) (after_events life h).links) k ≡ Some i → After h (after_events life h).links link (id_or 0 part.id) k i
after_transfer life h link part payload fine k i e = by (k == link) refl (link_of links k) refl (ap id_on (sym (find_change (transfer_came part payload) (λ l. refl) link k links)) ∙ e)
  where
    links : List ReceivingLink
    links = (after_events life h).links

    new : (l : ReceivingLink) → link_of (after_events life h).links link ≡ Some l → is_between l ≡ true → FreshId h (after_events life h).links (id_or 0 part.id)
    new l is between =
        fresh_id life h (id_or 0 part.id) (first_open part (length payload) l (after_events life h).links (after_events life h).list (ap (λ o. fault_in part (length payload) o (after_events life h).links (after_events life h).list) (sym is) ∙ fine) between)

    on_it : (l : ReceivingLink) (p : Option Partial) (a : Bool) → link_of (after_events life h).links k ≡ Some l → l.partial ≡ p → part.aborted ≡ a → k ≡ link
        → partial_id (cond a None (Some (record { id = id_in p part.id; settled = settled_in p || part.settled; bytes = bytes_in p ++ payload; whole = not part.more }))) ≡ Some i → After h (after_events life h).links link (id_or 0 part.id) k i
    on_it l p true is at ab same e = absurd (cc)
    on_it l None false is at ab same e =
        let first : i ≡ id_or 0 part.id = sym (some_same (id_or 0 part.id) i e) in
        inr (same, first, subst (FreshId h (after_events life h).links) (sym first) (new l (ap (link_of (after_events life h).links) (sym same) ∙ is) (ap (λ o. not (is_some o)) at)))
    on_it l (Some p) false is at ab same e = inl (ap id_on is ∙ ap partial_id at ∙ e)

    by : (b : Bool) → (k == link) ≡ b → (o : Option ReceivingLink) → link_of (after_events life h).links k ≡ o → id_on (cond b (option_map (transfer_came part payload) o) o) ≡ Some i → After h (after_events life h).links link (id_or 0 part.id) k i
    by true is None f e = absurd (cc)
    by true is (Some l) f e = on_it l l.partial part.aborted f refl refl (equal k link is) e
    by false is o f e = inl (ap id_on f ∙ e)

transfer_begun : (life : ℕ) (h : List DeliveryEvent) (link : ℕ) (part : Part) (payload : List ℕ) → id_or 0 part.id < 2 ^ 32 → fault_in part (length payload) (link_of (after_events life h).links link) (after_events life h).links (after_events life h).list ≡ None
    → Begun h (after_events life h).links → Begun (TransferCame link part payload ∷ h) (change_first (has_number link) (transfer_came part payload) (after_events life h).links)
transfer_begun life h link part payload lt fine b = record {
  range = λ k i e. ranged (after k i e);
  free = λ k i e. freed (after k i e);
  apart = λ j k i e f. parted (after j i e) (after k i f);
}
  where
    after : (k i : ℕ) → id_at (change_first (has_number link) (transfer_came part payload) (after_events life h).links) k ≡ Some i → After h (after_events life h).links link (id_or 0 part.id) k i
    after = after_transfer life h link part payload fine

    ranged : {k i : ℕ} → After h (after_events life h).links link (id_or 0 part.id) k i → i < 2 ^ 32
    ranged {k} {i} (inl e) = b.range k i e
    ranged (inr f) = subst (λ n. n < 2 ^ 32) (sym f.1) lt

    freed : {k i : ℕ} → After h (after_events life h).links link (id_or 0 part.id) k i → Free (TransferCame link part payload ∷ h) i
    freed {k} {i} (inl e) = b.free k i e
    freed (inr f) = f.2.0

    parted : {j k i : ℕ} → After h (after_events life h).links link (id_or 0 part.id) j i → After h (after_events life h).links link (id_or 0 part.id) k i → j ≡ k
    parted {j} {k} {i} (inl e) (inl f) = b.apart j k i e f
    parted {j} {k} {i} (inl e) (inr f) = absurd (f.2.1 j e)
    parted {j} {k} {i} (inr e) (inl f) = absurd (e.2.1 k f)
    parted (inr e) (inr f) = e.0 ∙ sym f.0

-- an arrival

begun_at : (links : List ReceivingLink) (a : Arriving) → in_link (λ l. is_whole l.partial) (link_of links a.link) ≡ true → a ≡ arriving_in a.link (link_of links a.link) → id_at links a.link ≡ Some a.id
begun_at links a whole at = by (link_of links a.link) refl whole (ap (λ (x : Arriving). x.id) at)
  where
    by : (o : Option ReceivingLink) → link_of links a.link ≡ o → in_link (λ l. is_whole l.partial) o ≡ true → a.id ≡ (arriving_in a.link o).id → id_on o ≡ Some a.id
    by None is w e = absurd (cc)
    by (Some l) is w e = pick l.partial refl w e
      where
        pick : (p : Option Partial) → l.partial ≡ p → is_whole p ≡ true → a.id ≡ id_in p None → partial_id p ≡ Some a.id
        pick None f w e = absurd (cc)
        pick (Some p) f w e = ap Some (sym e)

arrived_begun : (h : List DeliveryEvent) (links : List ReceivingLink) (a : Arriving) (content : Option Content) (again : Bool) → id_at links a.link ≡ Some a.id → Begun h links → Begun (Arrived a content again ∷ h) (map (taken_from a.link (is_some content)) links)
arrived_begun h links a content again here b = record {
  range = λ k i e. b.range k i (before k i e).0;
  free = λ k i e. free k i (before k i e);
  apart = λ j k i e f. b.apart j k i (before j i e).0 (before k i f).0;
}
  where
    -- begun before, on another link
    before : (k i : ℕ) → id_at (map (taken_from a.link (is_some content)) links) k ≡ Some i → (id_at links k ≡ Some i) × (k ≡ a.link → ⊥)
    before k i e = by (link_of links k) refl (ap id_on (sym (find_map (taken_from a.link (is_some content)) (λ l. refl) links k)) ∙ e)
      where
        by : (o : Option ReceivingLink) → link_of links k ≡ o → id_on (option_map (taken_from a.link (is_some content)) o) ≡ Some i → (id_on o ≡ Some i) × (k ≡ a.link → ⊥)
        by None f e = absurd (cc)
        by (Some l) f e = pick (l.link == a.link) refl e
          where
            pick : (c : Bool) → (l.link == a.link) ≡ c → partial_id (cond c None l.partial) ≡ Some i → (partial_id l.partial ≡ Some i) × (k ≡ a.link → ⊥)
            pick true g e = absurd (cc)
            pick false g e = (e, λ same. let yes : (l.link == a.link) ≡ true = same_test l.link a.link (found_number links k l f ∙ same) in cc)

    free : (k i : ℕ) → (id_at links k ≡ Some i) × (k ≡ a.link → ⊥) → Free (Arrived a content again ∷ h) i
    free k i e n taken = by (n == numbers_of h + 1) refl
      where
        by : (c : Bool) → (n == numbers_of h + 1) ≡ c → holds_id (cond c (new_fate (is_closed h) a content again) (fate_of n h)) ≡ true → (cond c (new_fate (is_closed h) a content again) (fate_of n h)).id ≡ i → ⊥
        by true is holds same = e.1 (b.apart k a.link i e.0 (here ∙ ap Some same))
        by false is holds same = b.free k i e.0 n (taken.0, taken_before n (numbers_of h) taken.1 is) holds same

-- counted anew
count_begun : (h : List DeliveryEvent) (list : List Delivery) (links : List ReceivingLink) → Begun h links → Begun h (map (recount list) links)
count_begun h list links b = map_begun h h links (recount list) (λ l. refl) (λ l. refl) (λ i f. f) b

begun : (life : ℕ) (h : List DeliveryEvent) → AreCalls life h → Begun h (after_events life h).links
begun life [] c = record { range = λ k i e. absurd (cc); free = λ k i e. absurd (cc); apart = λ j k i e f. absurd (cc) }
begun life (LinkAdded link kind ∷ h) c = let s = after_events life h in count_begun _ s.list _ (added_begun h s.links link kind s.prefetch (begun life h c.1))
begun life (LinkAttached link count ∷ h) c = map_begun h (LinkAttached link count ∷ h) (after_events life h).links (link_attached link count) (λ l. refl) (λ l. refl) (λ i f. f) (begun life h c.1)
begun life (LinkFlowed link count ∷ h) c = map_begun h (LinkFlowed link count ∷ h) (after_events life h).links (link_flowed link count) (λ l. refl) (λ l. refl) (λ i f. f) (begun life h c.1)
begun life (LinkEchoed link ∷ h) c = map_begun h (LinkEchoed link ∷ h) (after_events life h).links (link_echoed link) (λ l. refl) (λ l. refl) (λ i f. f) (begun life h c.1)
begun life (GetCame link no_ack ∷ h) c = map_begun h (GetCame link no_ack ∷ h) (after_events life h).links (link_waits link ((after_events life h).gets + 1) no_ack) (λ l. refl) (λ l. refl) (λ i f. f) (begun life h c.1)
begun life (TransferCame link part payload ∷ h) c = let s = after_events life h in count_begun _ s.list _ (transfer_begun life h link part payload c.0.0 c.0.1 (begun life h c.1))
begun life (Arrived a content again ∷ h) c =
    let s = after_events life h in
    count_begun _ (after_events life (Arrived a content again ∷ h)).list _ (arrived_begun h s.links a content again (begun_at s.links a c.0.0 c.0.1) (begun life h c.1))
begun life (LinkDropped link ∷ h) c = count_begun _ (after_events life (LinkDropped link ∷ h)).list _ (dropped_begun h (after_events life h).links link (begun life h c.1))
begun life (Delivered number ∷ h) c = map_begun h (Delivered number ∷ h) (after_events life h).links (recount (after_events life (Delivered number ∷ h)).list) (λ l. refl) (λ l. refl) (keep_free h (Delivered number) (keeps_delivered h number)) (begun life h c.1)
begun life (Written tag ∷ h) c = map_begun h (Written tag ∷ h) (after_events life h).links (recount (after_events life (Written tag ∷ h)).list) (λ l. refl) (λ l. refl) (keep_free h (Written tag) (keeps_written h tag)) (begun life h c.1)
begun life (Answered tag multiple s ∷ h) c = map_begun h (Answered tag multiple s ∷ h) (after_events life h).links (recount (after_events life (Answered tag multiple s ∷ h)).list) (λ l. refl) (λ l. refl) (keep_free h (Answered tag multiple s) (keeps_answered h tag multiple s)) (begun life h c.1)
begun life (Cancelled link ∷ h) c = count_begun _ (after_events life (Cancelled link ∷ h)).list _ (map_begun h (Cancelled link ∷ h) (after_events life h).links (link_cancelled link) (λ l. refl) (λ l. refl) (keep_free h (Cancelled link) (keeps_cancelled h link)) (begun life h c.1))
begun life (Closed ∷ h) c = count_begun _ (after_events life (Closed ∷ h)).list _ (map_begun h (Closed ∷ h) (after_events life h).links link_closed (λ l. refl) (λ l. refl) (keep_free h Closed (keeps_closed h)) (begun life h c.1))
begun life (EndLost ∷ h) c = map_begun h (EndLost ∷ h) (after_events life h).links (recount (after_events life (EndLost ∷ h)).list) (λ l. refl) (λ l. refl) (keep_free h EndLost (keeps_lost h)) (begun life h c.1)
begun life (PrefetchSet count ∷ h) c = less_begun h (PrefetchSet count ∷ h) _ _ (λ k i e. e) (λ i f. f) (begun life h c.1)
begun life (GlobalSet count ∷ h) c = less_begun h (GlobalSet count ∷ h) _ _ (λ k i e. e) (λ i f. f) (begun life h c.1)
begun life (SettleSent s ∷ h) c = map_begun h (SettleSent s ∷ h) (after_events life h).links (recount (after_events life (SettleSent s ∷ h)).list) (λ l. refl) (λ l. refl) (keep_free h (SettleSent s) (keeps_sent h s)) (begun life h c.1)
begun life (GrantSent g ∷ h) c = map_begun h (GrantSent g ∷ h) (after_events life h).links (flow_sent g.link g.credit g.cause) (λ l. refl) (λ l. refl) (λ i f. f) (begun life h c.1)
begun life (Emptied link ∷ h) c = map_begun h (Emptied link ∷ h) (after_events life h).links (get_emptied link) (λ l. refl) (λ l. refl) (λ i f. f) (begun life h c.1)
begun life (LinesTold ∷ h) c = map_begun h (LinesTold ∷ h) (after_events life h).links (recount (after_events life (LinesTold ∷ h)).list) (λ l. refl) (λ l. refl) (λ i f. f) (begun life h c.1)

pub fresh : (life : ℕ) (h : List DeliveryEvent) → AreCalls life h → AreFresh h
fresh life [] c = tt
fresh life (LinkAdded link kind ∷ h) c = (tt, fresh life h c.1)
fresh life (LinkAttached link count ∷ h) c = (tt, fresh life h c.1)
fresh life (LinkFlowed link count ∷ h) c = (tt, fresh life h c.1)
fresh life (LinkEchoed link ∷ h) c = (tt, fresh life h c.1)
fresh life (GetCame link no_ack ∷ h) c = (tt, fresh life h c.1)
fresh life (TransferCame link part payload ∷ h) c = (tt, fresh life h c.1)
fresh life (Arrived a content again ∷ h) c =
    let s = after_events life h in
    let b : Begun h s.links = begun life h c.1 in
    let at = begun_at s.links a c.0.0 c.0.1 in
    ((b.range a.link a.id at, b.free a.link a.id at), fresh life h c.1)
fresh life (LinkDropped link ∷ h) c = (tt, fresh life h c.1)
fresh life (Delivered number ∷ h) c = (tt, fresh life h c.1)
fresh life (Written tag ∷ h) c = (tt, fresh life h c.1)
fresh life (Answered tag multiple s ∷ h) c = (tt, fresh life h c.1)
fresh life (Cancelled link ∷ h) c = (tt, fresh life h c.1)
fresh life (Closed ∷ h) c = (tt, fresh life h c.1)
fresh life (EndLost ∷ h) c = (tt, fresh life h c.1)
fresh life (PrefetchSet count ∷ h) c = (tt, fresh life h c.1)
fresh life (GlobalSet count ∷ h) c = (tt, fresh life h c.1)
fresh life (SettleSent s ∷ h) c = (tt, fresh life h c.1)
fresh life (GrantSent g ∷ h) c = (tt, fresh life h c.1)
fresh life (Emptied link ∷ h) c = (tt, fresh life h c.1)
fresh life (LinesTold ∷ h) c = (tt, fresh life h c.1)
