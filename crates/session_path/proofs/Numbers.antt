-- The numbers of receiving links: of those of a path that the gateway didn't detach, and of those of
-- its deliveries.
use Rattle.std.proofs.Common.{◌≡◌, ◌∙◌, ℕ, ◌+◌, List, [], ◌∷◌, ◌++◌, Bool, true, false, Some}
use Rattle.std.proofs.Common.{None, refl, sym, ap, cond, map, inl, inr}
use Rattle.std.specs.Prelude.{◌⊎◌, ◌==◌, ◌&&◌, ◌||◌, not, find, filter, is_some}
use Rattle.std.specs.List.{list_any, AllByRecursion}
use Rattle.std.proofs.lemmas.List.Folds.{list_any-append}
use Rattle.std.proofs.lemmas.Map.Views.{any-filter_same}
use Rattle.open_items.proofs.Filtered.{all_weaker}
use Rattle.consume_path.specs.Deliveries.{DeliveryEvent, DeliveryState, LinkAdded, LinkAttached}
use Rattle.consume_path.specs.Deliveries.{LinkFlowed, LinkEchoed, GetCame, TransferCame, Arrived}
use Rattle.consume_path.specs.Deliveries.{LinkDropped, Delivered, Written, Answered, Cancelled}
use Rattle.consume_path.specs.Deliveries.{Closed, EndLost, PrefetchSet, GlobalSet, SettleSent}
use Rattle.consume_path.specs.Deliveries.{GrantSent, Emptied, LinesTold, after_event}
use Rattle.consume_path.specs.Deliveries.{each, each_link, with_list}
use Rattle.consume_path.specs.Items.{answered, cancelled, closed, delivered, end_lost, is_open}
use Rattle.consume_path.specs.Items.{link_dropped, new_delivery, reported, settle_sent, trimmed}
use Rattle.consume_path.specs.Items.{written}
use Rattle.consume_path.specs.Links.{change_first, link_cancelled, recount, without}
use Rattle.consume_path.specs.Links.{get_emptied, link_attached, link_closed, link_echoed}
use Rattle.consume_path.specs.Links.{flow_sent, link_flowed, link_waits, new_link, taken_from}
use Rattle.consume_path.specs.Links.{transfer_came}
use Rattle.consume_path.specs.Links.{has_number as is_numbered}
use Rattle.consume_path.specs.declared.delivery.Delivery.{Delivery}
use Rattle.consume_path.specs.declared.receiving.RecvKind.{RecvKind}
use Rattle.consume_path.specs.declared.receiving.ReceivingLink.{ReceivingLink}
use Rattle.session_path.specs.declared.path.PathLink.{PathLink}
use Rattle.session_path.specs.Links.{Rises, free_number, has_number, is_given, put, put_for}
use Rattle.session_path.specs.Links.{wanted_link, with_wanted}
use Rattle.session_path.proofs.Ties.{dropped, eq_of, eq_to, ne_to, no_clash, or_left, or_right}
use Rattle.session_path.proofs.Ties.{or_true, unique}
use Rattle.session_path.proofs.Wanted.{any_insert, nowhere}

-- tests of lists

any_map : {X : Type 0} (p q : X → Bool) (f : X → X) (b : Bool) (xs : List X) → AllByRecursion (λ x. q (f x) ≡ (b && p x)) xs → list_any q (map f xs) ≡ (b && list_any p xs)
any_map p q f true [] a = refl
any_map p q f false [] a = refl
any_map p q f true (x ∷ xs) a = ap (λ c. c || list_any q (map f xs)) a.0 ∙ ap (λ c. p x || c) (any_map p q f true xs a.1)
any_map p q f false (x ∷ xs) a = ap (λ c. c || list_any q (map f xs)) a.0 ∙ any_map p q f false xs a.1

any_same : {X : Type 0} (p : X → Bool) (f : X → X) → ((x : X) → p (f x) ≡ p x) → (xs : List X) → list_any p (map f xs) ≡ list_any p xs
any_same p f same [] = refl
any_same p f same (x ∷ xs) = ap (λ c. c || list_any p (map f xs)) (same x) ∙ ap (λ c. p x || c) (any_same p f same xs)

any_change : {X : Type 0} (p here : X → Bool) (f : X → X) → ((x : X) → p (f x) ≡ p x) → (xs : List X) → list_any p (change_first here f xs) ≡ list_any p xs
any_change p here f same [] = refl
any_change p here f same (x ∷ xs) = by (here x) (any_change p here f same xs)
  where
    by : (b : Bool) → list_any p (change_first here f xs) ≡ list_any p xs → list_any p (cond b (f x ∷ xs) (x ∷ change_first here f xs)) ≡ (p x || list_any p xs)
    by true ih = ap (λ c. c || list_any p xs) (same x)
    by false ih = ap (λ c. p x || c) ih

pub any_less : {X : Type 0} (p o : X → Bool) (xs : List X) → list_any p (filter o xs) ≡ true → list_any p xs ≡ true
any_less p o [] e = e
any_less p o (x ∷ xs) e = by (o x) (any_less p o xs) e
  where
    either : (list_any p (filter o xs) ≡ true → list_any p xs ≡ true) → (p x ≡ true) ⊎ (list_any p (filter o xs) ≡ true) → (p x || list_any p xs) ≡ true
    either ih (inl h) = or_left _ _ h
    either ih (inr h) = or_right (p x) _ (ih h)

    by : (b : Bool) → (list_any p (filter o xs) ≡ true → list_any p xs ≡ true) → list_any p (cond b (x ∷ filter o xs) (filter o xs)) ≡ true → (p x || list_any p xs) ≡ true
    by true ih e = either ih (or_true (p x) (list_any p (filter o xs)) e)
    by false ih e = or_right (p x) _ (ih e)

any_none : {X : Type 0} (p : X → Bool) (xs : List X) → AllByRecursion (λ x. p x ≡ false) xs → list_any p xs ≡ false
any_none p [] a = refl
any_none p (x ∷ xs) a = ap (λ c. c || list_any p xs) a.0 ∙ any_none p xs a.1

pub find_none : {X : Type 0} (p : X → Bool) (xs : List X) → list_any p xs ≡ false → find p xs ≡ None
find_none p [] e = refl
find_none p (x ∷ xs) e = by (p x) (find_none p xs) e
  where
    by : (b : Bool) → (list_any p xs ≡ false → find p xs ≡ None) → (b || list_any p xs) ≡ false → cond b (Some x) (find p xs) ≡ None
    by true ih e = absurd (cc)
    by false ih e = ih e

pub any_found : {X : Type 0} (p q : X → Bool) (xs : List X) (x : X) → find p xs ≡ Some x → q x ≡ true → list_any q xs ≡ true
any_found p q [] x e is = absurd (cc)
any_found p q (y ∷ ys) x e is = by (p y) (λ f. any_found p q ys x f is) e
  where
    by : (b : Bool) → (find p ys ≡ Some x → list_any q ys ≡ true) → cond b (Some y) (find p ys) ≡ Some x → (q y || list_any q ys) ≡ true
    by true ih e = let same : y ≡ x = cc in or_left _ _ (ap q same ∙ is)
    by false ih e = or_right (q y) _ (ih e)

pub and_none : (a b : Bool) → b ≡ false → (a && b) ≡ false
and_none true b e = e
and_none false b e = refl

-- the path's links: it receives, and the gateway didn't detach it

abbrev pub is_taking : PathLink → Bool
is_taking l = l.receives && not (is_given l)

abbrev pub takes_one : ℕ → PathLink → Bool
takes_one n l = has_number n l && is_taking l

abbrev pub takes : ℕ → List PathLink → Bool
takes n ls = list_any (takes_one n) ls

pub takes_itself : (l : PathLink) → is_taking l ≡ true → takes_one l.link l ≡ true
takes_itself l is = ap (λ b. b && is_taking l) (eq_to l.link l.link refl) ∙ is

-- a link that is wanted, with the lowest number that is free
pub free_takes : (ls : List PathLink) → Rises 0 ls → takes (free_number ls) ls ≡ false
free_takes ls r = any_none (takes_one (free_number ls)) ls (all_weaker (λ k. (k.link == free_number ls) ≡ false) _ (λ k no. ap (λ b. b && is_taking k) no) ls (nowhere ls r))

pub wanted_takes : (n m : ℕ) (ls : List PathLink) → takes n (with_wanted m true ls) ≡ (((m == n) && true) || takes n ls)
wanted_takes n m ls = any_insert (takes_one n) ls m (wanted_link m true)

pub sender_takes : (n m : ℕ) (ls : List PathLink) → takes n (with_wanted m false ls) ≡ takes n ls
sender_takes n m ls = any_insert (takes_one n) ls m (wanted_link m false) ∙ ap (λ b. b || takes n ls) (and_none (m == n) false refl)

-- a link in the place of the one that is found
pub put_alike : (p : PathLink → Bool) (n : ℕ) (ls : List PathLink) (l x : PathLink) → Rises 0 ls → find p ls ≡ Some l → x.link ≡ l.link → takes_one n x ≡ takes_one n l
    → takes n (put x ls) ≡ takes n ls
put_alike p n ls l x r e number same =
    any_map (takes_one n) (takes_one n) (put_for x) true ls (all_weaker (λ k. (k.link == l.link) ≡ true → k ≡ l) _ (λ k only. one k (k.link == x.link) refl only) ls (unique p ls l r e))
  where
    one : (k : PathLink) (b : Bool) → (k.link == x.link) ≡ b → ((k.link == l.link) ≡ true → k ≡ l) → takes_one n (cond b x k) ≡ takes_one n k
    one k true f only = same ∙ ap (takes_one n) (sym (only (ap (λ m. k.link == m) (sym number) ∙ f)))
    one k false f only = refl

-- a link with another number than m, and one with this number
apart_one : (n m : ℕ) (k : PathLink) → (k.link == m) ≡ false → takes_one n k ≡ (not (n == m) && takes_one n k)
apart_one n m k off = by (n == m) refl
  where
    by : (b : Bool) → (n == m) ≡ b → takes_one n k ≡ (not b && takes_one n k)
    by true is = ap (λ b. b && is_taking k) (ap (λ i. k.link == i) (eq_of n m is) ∙ off)
    by false is = refl

same_one : (n m : ℕ) (k : PathLink) → (k.link == m) ≡ true → (not (n == m) && takes_one n k) ≡ false
same_one n m k on = by (n == m) refl
  where
    by : (b : Bool) → (n == m) ≡ b → (not b && takes_one n k) ≡ false
    by true is = refl
    by false is = ap (λ b. b && is_taking k) (ne_to k.link n (λ e. no_clash (n == m) (eq_to n m (sym e ∙ eq_of k.link m on)) is))

-- the gateway detached it
pub given_takes : (n : ℕ) (ls : List PathLink) (x : PathLink) → is_taking x ≡ false → takes n (put x ls) ≡ (not (n == x.link) && takes n ls)
given_takes n ls x off = any_map (takes_one n) (takes_one n) (put_for x) (not (n == x.link)) ls (every ls)
  where
    one : (k : PathLink) (b : Bool) → (k.link == x.link) ≡ b → takes_one n (cond b x k) ≡ (not (n == x.link) && takes_one n k)
    one k true f = and_none (x.link == n) (is_taking x) off ∙ sym (same_one n x.link k f)
    one k false f = apart_one n x.link k f

    every : (ks : List PathLink) → AllByRecursion (λ k. takes_one n (put_for x k) ≡ (not (n == x.link) && takes_one n k)) ks
    every [] = tt
    every (k ∷ ks) = (one k (k.link == x.link) refl, every ks)

-- it is no more
pub dropped_takes : (n m : ℕ) (ls : List PathLink) → takes n (dropped m ls) ≡ (not (n == m) && takes n ls)
dropped_takes n m ls = any-filter_same (takes_one n) (λ k. not (has_number m k)) (not (n == m)) (λ k e. ap (λ i. not (i == m)) (eq_of k.link n (first (has_number n k) (is_taking k) e))) ls
  where
    first : (a b : Bool) → (a && b) ≡ true → a ≡ true
    first true b e = refl
    first false b e = e

-- and it took none before
pub other_takes : (p : PathLink → Bool) (n : ℕ) (ls : List PathLink) (l : PathLink) → Rises 0 ls → find p ls ≡ Some l → is_taking l ≡ false → (not (n == l.link) && takes n ls) ≡ takes n ls
other_takes p n ls l r e off = by (n == l.link) refl
  where
    none : takes l.link ls ≡ false
    none = any_none (takes_one l.link) ls (all_weaker (λ k. (k.link == l.link) ≡ true → k ≡ l) _ (λ k only. one k (k.link == l.link) refl only) ls (unique p ls l r e))
      where
        one : (k : PathLink) (b : Bool) → (k.link == l.link) ≡ b → ((k.link == l.link) ≡ true → k ≡ l) → takes_one l.link k ≡ false
        one k true f only = and_none (k.link == l.link) (is_taking k) (ap is_taking (only f) ∙ off)
        one k false f only = ap (λ b. b && is_taking k) f

    by : (b : Bool) → (n == l.link) ≡ b → (not b && takes n ls) ≡ takes n ls
    by true is = sym (ap (λ i. takes i ls) (eq_of n l.link is) ∙ none)
    by false is = refl

-- the links of the deliveries

abbrev pub knows : ℕ → List ReceivingLink → Bool
knows n links = list_any (is_numbered n) links

-- with another list of deliveries
list_knows : (n : ℕ) (list : List Delivery) (d : DeliveryState) → knows n (with_list list d).links ≡ knows n d.links
list_knows n list d = any_same (is_numbered n) (recount list) (λ l. refl) d.links

each_knows : (n : ℕ) (f : Delivery → Delivery) (d : DeliveryState) → knows n (each f d).links ≡ knows n d.links
each_knows n f d = list_knows n (filter is_open (map (λ x. trimmed (f x)) d.list)) d

pub added_knows : (n m : ℕ) (kind : RecvKind) (d : DeliveryState) → knows n (after_event (LinkAdded m kind) d).links ≡ (knows n d.links || ((m == n) || false))
added_knows n m kind d =
    let new = d.links ++ new_link m kind d.prefetch ∷ [] in
    list_knows n d.list (record d { links = new }) ∙ list_any-append (is_numbered n) d.links (new_link m kind d.prefetch ∷ [])

pub dropped_knows : (n m : ℕ) (d : DeliveryState) → knows n (after_event (LinkDropped m) d).links ≡ (not (n == m) && knows n d.links)
dropped_knows n m d =
    each_knows n (link_dropped m) (record d { links = without m d.links })
    ∙ any-filter_same (is_numbered n) (λ l. not (is_numbered m l)) (not (n == m)) (λ l e. ap (λ i. not (i == m)) (eq_of l.link n e)) d.links

-- other events leave them
abbrev pub moves : DeliveryEvent → Bool
moves (LinkAdded link kind) = true
moves (LinkDropped link) = true
moves x = false

link_knows : (n : ℕ) (f : ReceivingLink → ReceivingLink) → ((l : ReceivingLink) → (f l).link ≡ l.link) → (links : List ReceivingLink) → knows n (map f links) ≡ knows n links
link_knows n f same links = any_same (is_numbered n) f (λ l. ap (λ i. i == n) (same l)) links

pub same_knows : (x : DeliveryEvent) → moves x ≡ false → (n : ℕ) (d : DeliveryState) → knows n (after_event x d).links ≡ knows n d.links
same_knows (LinkAdded link kind) e n d = absurd (cc)
same_knows (LinkAttached link count) e n d = link_knows n (link_attached link count) (λ l. refl) d.links
same_knows (LinkFlowed link count) e n d = link_knows n (link_flowed link count) (λ l. refl) d.links
same_knows (LinkEchoed link) e n d = link_knows n (link_echoed link) (λ l. refl) d.links
same_knows (GetCame link no_ack) e n d = link_knows n (link_waits link (d.gets + 1) no_ack) (λ l. refl) d.links
same_knows (TransferCame link part payload) e n d =
    list_knows n d.list (record d { links = change_first (is_numbered link) (transfer_came part payload) d.links })
    ∙ any_change (is_numbered n) (is_numbered link) (transfer_came part payload) (λ l. refl) d.links
same_knows (Arrived a content again) e n d =
    list_knows n (d.list ++ new_delivery d.closed (d.arrived + 1) a content again ∷ []) (each_link (taken_from a.link (is_some content)) (record d { arrived = d.arrived + 1 }))
    ∙ link_knows n (taken_from a.link (is_some content)) (λ l. refl) d.links
same_knows (LinkDropped link) e n d = absurd (cc)
same_knows (Delivered number) e n d = each_knows n (delivered number (d.tags + 1)) (record d { tags = d.tags + 1 })
same_knows (Written tag) e n d = each_knows n (written tag) d
same_knows (Answered tag multiple settle) e n d = each_knows n (answered tag multiple settle) d
same_knows (Cancelled link) e n d = each_knows n (cancelled link) (each_link (link_cancelled link) d) ∙ link_knows n (link_cancelled link) (λ l. refl) d.links
same_knows Closed e n d = each_knows n closed (each_link link_closed (record d { closed = true })) ∙ link_knows n link_closed (λ l. refl) d.links
same_knows EndLost e n d = each_knows n end_lost d
same_knows (PrefetchSet count) e n d = refl
same_knows (GlobalSet count) e n d = refl
same_knows (SettleSent settle) e n d = each_knows n (settle_sent settle) d
same_knows (GrantSent grant) e n d = link_knows n (flow_sent grant.link grant.credit grant.cause) (λ l. refl) d.links
same_knows (Emptied link) e n d = link_knows n (get_emptied link) (λ l. refl) d.links
same_knows LinesTold e n d = each_knows n reported d

-- a life that isn't closed wasn't before
pub closed_before : (x : DeliveryEvent) (d : DeliveryState) → (after_event x d).closed ≡ false → d.closed ≡ false
closed_before Closed d e = absurd (cc)
closed_before x d e = e
