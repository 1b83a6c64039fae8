-- A receiving link is found by its number after each event of the deliveries; no two have one number.
use Rattle.std.proofs.Common.{◌≡◌, ◌∙◌, ℕ, ◌+◌, ◌==◌, nat_lt, not, Bool, true, false, if◌then◌else◌, cond, List, [], ◌∷◌, ◌++◌, map, Option}
use Rattle.std.proofs.Common.{None, Some, refl, sym, ap, subst, arith}
use Rattle.std.specs.List.{AllByRecursion}
use Rattle.std.specs.Option.{option_map, option_or}
use Rattle.std.specs.Prelude.{filter, is_some}
use Rattle.std.proofs.lemmas.Bool.Decides.{nat_tests}
use Rattle.consume_path.specs.Deliveries as on
use Rattle.consume_path.specs.Deliveries.{DeliveryEvent, DeliveryState}
use Rattle.consume_path.specs.Laws.{AreCalls, IsCall}
use Rattle.consume_path.specs.Links.{change_first, flow_sent, get_emptied, has_number, link_attached, link_cancelled, link_closed, link_echoed, link_flowed}
use Rattle.consume_path.specs.Links.{link_of, link_waits, new_link, recount, taken_from, transfer_came, without}
use Rattle.consume_path.specs.Offers.{flow_of, grant_link, next_grant_of, sooner}
use Rattle.consume_path.specs.declared.delivery.Delivery.{Delivery}
use Rattle.consume_path.specs.declared.receiving.NextGrant.{NextGrant}
use Rattle.consume_path.specs.declared.receiving.ReceivingLink.{ReceivingLink}
use Rattle.session_path.proofs.Ties.{eq_to}
use Rattle.gate_model.proofs.Granting.{offer_is}

-- ---- one link

equal : (i j : ℕ) → (i == j) ≡ true → i ≡ j
equal i j e = grind (arith, nat_tests, e)

pub find_map : (f : ReceivingLink → ReceivingLink) → ((l : ReceivingLink) → (f l).link ≡ l.link) → (links : List ReceivingLink) (k : ℕ)
    → link_of (map f links) k ≡ option_map f (link_of links k)
find_map f same [] k = refl
find_map f same (l ∷ ls) k = ap (λ (i : ℕ). cond (i == k) (Some (f l)) (link_of (map f ls) k)) (same l) ∙ by (l.link == k) (find_map f same ls k)
  where
    by : (b : Bool) → link_of (map f ls) k ≡ option_map f (link_of ls k) → cond b (Some (f l)) (link_of (map f ls) k) ≡ option_map f (cond b (Some l) (link_of ls k))
    by true ih = refl
    by false ih = ih

find_push : (links : List ReceivingLink) (l : ReceivingLink) (k : ℕ) → link_of (links ++ l ∷ []) k ≡ option_or (link_of links k) (cond (l.link == k) (Some l) None)
find_push [] l k = refl
find_push (x ∷ xs) l k = by (x.link == k) (find_push xs l k)
  where
    by : (b : Bool) → link_of (xs ++ l ∷ []) k ≡ option_or (link_of xs k) (cond (l.link == k) (Some l) None)
        → cond b (Some x) (link_of (xs ++ l ∷ []) k) ≡ option_or (cond b (Some x) (link_of xs k)) (cond (l.link == k) (Some l) None)
    by true ih = refl
    by false ih = ih

find_without : (j k : ℕ) (links : List ReceivingLink) → link_of (without j links) k ≡ cond (k == j) None (link_of links k)
find_without j k [] = by (k == j)
  where
    by : (b : Bool) → link_of [] k ≡ cond b None (link_of [] k)
    by true = refl
    by false = refl
find_without j k (l ∷ ls) = by (l.link == j) (l.link == k) (k == j) refl refl refl (find_without j k ls)
  where
    twice : (l.link == j) ≡ true → (l.link == k) ≡ true → (k == j) ≡ true
    twice e f = let at_j : l.link ≡ j = equal l.link j e in let at_k : l.link ≡ k = equal l.link k f in grind (arith, nat_tests, at_j, at_k)

    apart : (l.link == k) ≡ true → (l.link == j) ≡ false → (k == j) ≡ false
    apart e f = let at_k : l.link ≡ k = equal l.link k e in grind (arith, nat_tests, at_k, f)

    by : (a b c : Bool) → (l.link == j) ≡ a → (l.link == k) ≡ b → (k == j) ≡ c → link_of (without j ls) k ≡ cond c None (link_of ls k)
        → link_of (cond (not a) (l ∷ without j ls) (without j ls)) k ≡ cond c None (cond b (Some l) (link_of ls k))
    by true true true e f g ih = ih
    by true true false e f g ih = absurd (let yes : (k == j) ≡ true = twice e f in cc)
    by true false c e f g ih = ih
    by false true true e f g ih = absurd (let no : (k == j) ≡ false = apart f e in cc)
    by false true false e f g ih = ap (λ (b : Bool). cond b (Some l) (link_of (without j ls) k)) f
    by false false c e f g ih = ap (λ (b : Bool). cond b (Some l) (link_of (without j ls) k)) f ∙ ih

find_change : (f : ReceivingLink → ReceivingLink) → ((l : ReceivingLink) → (f l).link ≡ l.link) → (j k : ℕ) (links : List ReceivingLink)
    → link_of (change_first (has_number j) f links) k ≡ cond (k == j) (option_map f (link_of links k)) (link_of links k)
find_change f same j k [] = by (k == j)
  where
    by : (b : Bool) → link_of [] k ≡ cond b (option_map f (link_of [] k)) (link_of [] k)
    by true = refl
    by false = refl
find_change f same j k (l ∷ ls) = by (l.link == j) (l.link == k) (k == j) refl refl refl (find_change f same j k ls)
  where
    twice : (l.link == j) ≡ true → (l.link == k) ≡ true → (k == j) ≡ true
    twice e f = let at_j : l.link ≡ j = equal l.link j e in let at_k : l.link ≡ k = equal l.link k f in grind (arith, nat_tests, at_j, at_k)

    other : (l.link == j) ≡ true → (l.link == k) ≡ false → (k == j) ≡ false
    other e f = let at_j : l.link ≡ j = equal l.link j e in grind (arith, nat_tests, at_j, f)

    apart : (l.link == k) ≡ true → (l.link == j) ≡ false → (k == j) ≡ false
    apart e f = let at_k : l.link ≡ k = equal l.link k e in grind (arith, nat_tests, at_k, f)

    number : (b : Bool) → (l.link == k) ≡ b → ((f l).link == k) ≡ b
    number b e = ap (λ (i : ℕ). i == k) (same l) ∙ e

    by : (a b c : Bool) → (l.link == j) ≡ a → (l.link == k) ≡ b → (k == j) ≡ c
        → link_of (change_first (has_number j) f ls) k ≡ cond c (option_map f (link_of ls k)) (link_of ls k)
        → link_of (cond a (f l ∷ ls) (l ∷ change_first (has_number j) f ls)) k ≡ cond c (option_map f (cond b (Some l) (link_of ls k))) (cond b (Some l) (link_of ls k))
    by true true true e g i ih = ap (λ (b : Bool). cond b (Some (f l)) (link_of ls k)) (number true g)
    by true true false e g i ih = absurd (let yes : (k == j) ≡ true = twice e g in cc)
    by true false true e g i ih = absurd (let no : (k == j) ≡ false = other e g in cc)
    by true false false e g i ih = ap (λ (b : Bool). cond b (Some (f l)) (link_of ls k)) (number false g)
    by false true true e g i ih = absurd (let no : (k == j) ≡ false = apart g e in cc)
    by false true false e g i ih = ap (λ (b : Bool). cond b (Some l) (link_of (change_first (has_number j) f ls) k)) g
    by false false c e g i ih = ap (λ (b : Bool). cond b (Some l) (link_of (change_first (has_number j) f ls) k)) g ∙ ih

-- ---- after an event

-- what an event makes of the link with number k, but for what it counts
abbrev pub link_after : DeliveryEvent → DeliveryState → ℕ → Option ReceivingLink → Option ReceivingLink
link_after (on.LinkAdded link kind) s k o = option_or o (if link == k then Some (new_link link kind s.prefetch) else None)
link_after (on.LinkAttached link count) s k o = option_map (link_attached link count) o
link_after (on.LinkFlowed link count) s k o = option_map (link_flowed link count) o
link_after (on.LinkEchoed link) s k o = option_map (link_echoed link) o
link_after (on.GetCame link no_ack) s k o = option_map (link_waits link (s.gets + 1) no_ack) o
link_after (on.TransferCame link part payload) s k o = if k == link then option_map (transfer_came part payload) o else o
link_after (on.Arrived a content again) s k o = option_map (taken_from a.link (is_some content)) o
link_after (on.LinkDropped link) s k o = if k == link then None else o
link_after (on.Cancelled link) s k o = option_map (link_cancelled link) o
link_after on.Closed s k o = option_map link_closed o
link_after (on.GrantSent grant) s k o = option_map (flow_sent grant.link grant.credit grant.cause) o
link_after (on.Emptied link) s k o = option_map (get_emptied link) o
link_after x s k o = o

-- it counts anew, or doesn't
abbrev pub recounts : DeliveryEvent → Bool
recounts (on.LinkAttached link count) = false
recounts (on.LinkFlowed link count) = false
recounts (on.LinkEchoed link) = false
recounts (on.GetCame link no_ack) = false
recounts (on.PrefetchSet count) = false
recounts (on.GlobalSet count) = false
recounts (on.GrantSent grant) = false
recounts (on.Emptied link) = false
recounts x = true

abbrev pub counted_anew : Bool → DeliveryState → Option ReceivingLink → Option ReceivingLink
counted_anew true s o = option_map (recount s.list) o
counted_anew false s o = o

pub linked : (x : DeliveryEvent) (s : DeliveryState) (k : ℕ)
    → link_of (on.after_event x s).links k ≡ counted_anew (recounts x) (on.after_event x s) (link_after x s k (link_of s.links k))
linked (on.LinkAdded link kind) s k =
    find_map (recount s.list) (λ l. refl) (s.links ++ new_link link kind s.prefetch ∷ []) k
    ∙ ap (option_map (recount s.list)) (find_push s.links (new_link link kind s.prefetch) k)
linked (on.LinkAttached link count) s k = find_map (link_attached link count) (λ l. refl) s.links k
linked (on.LinkFlowed link count) s k = find_map (link_flowed link count) (λ l. refl) s.links k
linked (on.LinkEchoed link) s k = find_map (link_echoed link) (λ l. refl) s.links k
linked (on.GetCame link no_ack) s k = find_map (link_waits link (s.gets + 1) no_ack) (λ l. refl) s.links k
linked (on.TransferCame link part payload) s k =
    find_map (recount s.list) (λ l. refl) (change_first (has_number link) (transfer_came part payload) s.links) k
    ∙ ap (option_map (recount s.list)) (find_change (transfer_came part payload) (λ l. refl) link k s.links)
linked (on.Arrived a content again) s k =
    find_map (recount (on.after_event (on.Arrived a content again) s).list) (λ l. refl) (map (taken_from a.link (is_some content)) s.links) k
    ∙ ap (option_map (recount (on.after_event (on.Arrived a content again) s).list)) (find_map (taken_from a.link (is_some content)) (λ l. refl) s.links k)
linked (on.LinkDropped link) s k =
    find_map (recount (on.after_event (on.LinkDropped link) s).list) (λ l. refl) (without link s.links) k
    ∙ ap (option_map (recount (on.after_event (on.LinkDropped link) s).list)) (find_without link k s.links)
linked (on.Delivered number) s k = find_map (recount (on.after_event (on.Delivered number) s).list) (λ l. refl) s.links k
linked (on.Written tag) s k = find_map (recount (on.after_event (on.Written tag) s).list) (λ l. refl) s.links k
linked (on.Answered tag multiple settle) s k = find_map (recount (on.after_event (on.Answered tag multiple settle) s).list) (λ l. refl) s.links k
linked (on.Cancelled link) s k =
    find_map (recount (on.after_event (on.Cancelled link) s).list) (λ l. refl) (map (link_cancelled link) s.links) k
    ∙ ap (option_map (recount (on.after_event (on.Cancelled link) s).list)) (find_map (link_cancelled link) (λ l. refl) s.links k)
linked on.Closed s k =
    find_map (recount (on.after_event on.Closed s).list) (λ l. refl) (map link_closed s.links) k
    ∙ ap (option_map (recount (on.after_event on.Closed s).list)) (find_map link_closed (λ l. refl) s.links k)
linked on.EndLost s k = find_map (recount (on.after_event on.EndLost s).list) (λ l. refl) s.links k
linked (on.PrefetchSet count) s k = refl
linked (on.GlobalSet count) s k = refl
linked (on.SettleSent settle) s k = find_map (recount (on.after_event (on.SettleSent settle) s).list) (λ l. refl) s.links k
linked (on.GrantSent grant) s k = find_map (flow_sent grant.link grant.credit grant.cause) (λ l. refl) s.links k
linked (on.Emptied link) s k = find_map (get_emptied link) (λ l. refl) s.links k
linked on.LinesTold s k = find_map (recount (on.after_event on.LinesTold s).list) (λ l. refl) s.links k

-- ---- no two have one number

abbrev numbers : List ReceivingLink → List ℕ
numbers ls = map (λ (l : ReceivingLink). l.link) ls

abbrev Apart : List ℕ → Type 0
Apart [] = Unit {0}
Apart (n ∷ ns) = AllByRecursion (λ (m : ℕ). (n == m) ≡ false) ns × Apart ns

abbrev pub AreApart : List ReceivingLink → Type 0
AreApart ls = Apart (numbers ls)

numbers_map : (f : ReceivingLink → ReceivingLink) → ((l : ReceivingLink) → (f l).link ≡ l.link) → (ls : List ReceivingLink) → AreApart ls → AreApart (map f ls)
numbers_map f same ls a = subst Apart (by ls) a
  where
    by : (ls : List ReceivingLink) → numbers ls ≡ numbers (map f ls)
    by [] = refl
    by (l ∷ ls) = ap (λ (i : ℕ). i ∷ numbers ls) (sym (same l)) ∙ ap (λ (is : List ℕ). (f l).link ∷ is) (by ls)

numbers_change : (j : ℕ) (f : ReceivingLink → ReceivingLink) → ((l : ReceivingLink) → (f l).link ≡ l.link) → (ls : List ReceivingLink) → AreApart ls
    → AreApart (change_first (has_number j) f ls)
numbers_change j f same ls a = subst Apart (by ls) a
  where
    by : (ls : List ReceivingLink) → numbers ls ≡ numbers (change_first (has_number j) f ls)
    by [] = refl
    by (l ∷ ls) = pick (l.link == j) (by ls)
      where
        pick : (b : Bool) → numbers ls ≡ numbers (change_first (has_number j) f ls) → l.link ∷ numbers ls ≡ numbers (cond b (f l ∷ ls) (l ∷ change_first (has_number j) f ls))
        pick true ih = ap (λ (i : ℕ). i ∷ numbers ls) (sym (same l))
        pick false ih = ap (λ (is : List ℕ). l.link ∷ is) ih

numbers_push : (ls : List ReceivingLink) (x : ReceivingLink) → link_of ls x.link ≡ None → AreApart ls → AreApart (ls ++ x ∷ [])
numbers_push [] x none a = (tt, tt)
numbers_push (l ∷ ls) x none a = by (l.link == x.link) refl none (λ f. numbers_push ls x f a.1)
  where
    more : (ms : List ReceivingLink) → (l.link == x.link) ≡ false → AllByRecursion (λ (m : ℕ). (l.link == m) ≡ false) (numbers ms)
        → AllByRecursion (λ (m : ℕ). (l.link == m) ≡ false) (numbers (ms ++ x ∷ []))
    more [] e b = (e, tt)
    more (m ∷ ms) e b = (b.0, more ms e b.1)

    by : (b : Bool) → (l.link == x.link) ≡ b → cond b (Some l) (link_of ls x.link) ≡ None → (link_of ls x.link ≡ None → AreApart (ls ++ x ∷ [])) → AreApart (l ∷ ls ++ x ∷ [])
    by true e f rest = absurd cc
    by false e f rest = (more ls e a.0, rest f)

numbers_filter : (t : ReceivingLink → Bool) (ls : List ReceivingLink) → AreApart ls → AreApart (filter t ls)
numbers_filter t [] a = tt
numbers_filter t (l ∷ ls) a = by (t l) (numbers_filter t ls a.1)
  where
    less : (ms : List ReceivingLink) → AllByRecursion (λ (m : ℕ). (l.link == m) ≡ false) (numbers ms) → AllByRecursion (λ (m : ℕ). (l.link == m) ≡ false) (numbers (filter t ms))
    less [] b = tt
    less (m ∷ ms) b = pick (t m) (less ms b.1)
      where
        pick : (c : Bool) → AllByRecursion (λ (m : ℕ). (l.link == m) ≡ false) (numbers (filter t ms))
            → AllByRecursion (λ (m : ℕ). (l.link == m) ≡ false) (numbers (cond c (m ∷ filter t ms) (filter t ms)))
        pick true rest = (b.0, rest)
        pick false rest = rest

    by : (b : Bool) → AreApart (filter t ls) → AreApart (cond b (l ∷ filter t ls) (filter t ls))
    by true rest = (less ls a.0, rest)
    by false rest = rest

recounted : (list : List Delivery) (ls : List ReceivingLink) → AreApart ls → AreApart (map (recount list) ls)
recounted list ls a = numbers_map (recount list) (λ l. refl) ls a

pub apart : (life : ℕ) (h : List DeliveryEvent) → AreCalls life h → AreApart (on.after_events life h).links
apart life [] c = tt
apart life (x ∷ h) c = by x c.0 (apart life h c.1)
  where
    s : DeliveryState
    s = on.after_events life h

    by : (x : DeliveryEvent) → IsCall s x → AreApart s.links → AreApart (on.after_event x s).links
    by (on.LinkAdded link kind) e a = recounted s.list (s.links ++ new_link link kind s.prefetch ∷ []) (numbers_push s.links (new_link link kind s.prefetch) e a)
    by (on.LinkAttached link count) e a = numbers_map (link_attached link count) (λ l. refl) s.links a
    by (on.LinkFlowed link count) e a = numbers_map (link_flowed link count) (λ l. refl) s.links a
    by (on.LinkEchoed link) e a = numbers_map (link_echoed link) (λ l. refl) s.links a
    by (on.GetCame link no_ack) e a = numbers_map (link_waits link (s.gets + 1) no_ack) (λ l. refl) s.links a
    by (on.TransferCame link part payload) e a = recounted s.list (change_first (has_number link) (transfer_came part payload) s.links) (numbers_change link (transfer_came part payload) (λ l. refl) s.links a)
    by (on.Arrived k content again) e a = recounted (on.after_event (on.Arrived k content again) s).list (map (taken_from k.link (is_some content)) s.links) (numbers_map (taken_from k.link (is_some content)) (λ l. refl) s.links a)
    by (on.LinkDropped link) e a = recounted (on.after_event (on.LinkDropped link) s).list (without link s.links) (numbers_filter (λ l. not (has_number link l)) s.links a)
    by (on.Cancelled link) e a = recounted (on.after_event (on.Cancelled link) s).list (map (link_cancelled link) s.links) (numbers_map (link_cancelled link) (λ l. refl) s.links a)
    by on.Closed e a = recounted (on.after_event on.Closed s).list (map link_closed s.links) (numbers_map link_closed (λ l. refl) s.links a)
    by (on.PrefetchSet count) e a = a
    by (on.GlobalSet count) e a = a
    by (on.GrantSent grant) e a = numbers_map (flow_sent grant.link grant.credit grant.cause) (λ l. refl) s.links a
    by (on.Emptied link) e a = numbers_map (get_emptied link) (λ l. refl) s.links a
    by x e a = recounted (on.after_event x s).list s.links a

-- ---- the flow that is due is that of its link

pub record Source (closed : Bool) (links : List ReceivingLink) (g : NextGrant) : Type 0 where
  pub link : ReceivingLink
  pub is : link_of links g.link ≡ Some link
  pub offers : flow_of closed link ≡ Some g

pub not_first : (n k : ℕ) (ls : List ReceivingLink) (l : ReceivingLink) → AllByRecursion (λ (m : ℕ). (n == m) ≡ false) (numbers ls) → link_of ls k ≡ Some l → (n == k) ≡ false
not_first n k [] l a e = absurd cc
not_first n k (m ∷ ms) l a e = by (m.link == k) refl e (λ f. not_first n k ms l a.1 f)
  where
    by : (b : Bool) → (m.link == k) ≡ b → cond b (Some m) (link_of ms k) ≡ Some l → (link_of ms k ≡ Some l → (n == k) ≡ false) → (n == k) ≡ false
    by true f g rest = subst (λ (i : ℕ). (n == i) ≡ false) (equal m.link k f) a.0
    by false f g rest = rest g

pub source : (closed : Bool) (links : List ReceivingLink) (g : NextGrant) → AreApart links → next_grant_of closed links ≡ Some g → Source closed links g
source closed [] g a e = absurd cc
source closed (x ∷ links) g a e = by (flow_of closed x) (next_grant_of closed links) refl (source closed links g a.1) e
  where
    here : flow_of closed x ≡ Some g → Source closed (x ∷ links) g
    here f = record { link = x; is = ap (λ (b : Bool). cond b (Some x) (link_of links g.link)) (eq_to x.link g.link (sym (offer_is closed x g f))); offers = f }

    later : Source closed links g → Source closed (x ∷ links) g
    later t = record { link = t.link; is = ap (λ (b : Bool). cond b (Some x) (link_of links g.link)) (not_first x.link g.link links t.link a.0 t.is) ∙ t.is; offers = t.offers }

    by : (o p : Option NextGrant) → flow_of closed x ≡ o → (p ≡ Some g → Source closed links g) → sooner grant_link o p ≡ Some g → Source closed (x ∷ links) g
    by None p is more f = later (more f)
    by (Some b) None is more f = here (is ∙ f)
    by (Some b) (Some c) is more f = either (nat_lt (grant_link c) (grant_link b)) f
      where
        either : (t : Bool) → cond t (Some c) (Some b) ≡ Some g → Source closed (x ∷ links) g
        either true k = later (more k)
        either false k = here (is ∙ k)
