-- Where each event is that of a call, each link keeps within its quota, and so does the credit that
-- its flows state.
use Rattle.std.proofs.Common.{◌≡◌, ◌∙◌, ℕ, ◌+◌, ◌-◌, ◌*◌, ◌≤◌, ◌<◌, List, [], ◌∷◌, ◌++◌, Bool, true, false}
use Rattle.std.proofs.Common.{refl, sym, ap, subst, arith, Option, Some, None, cond, map}
use Rattle.std.specs.Prelude.{not, ◌&&◌, ◌||◌, ◌==◌, nat_lt, nat_le, filter, count_by, is_some}
use Rattle.std.specs.Prelude.{MatchOption, length}
use Rattle.std.specs.Option.{option_map, option_or}
use Rattle.std.proofs.lemmas.Grind.{common_steps}
use Rattle.std.proofs.lemmas.Bool.Decides.{nat_tests}
use Rattle.std.proofs.lemmas.List.Sums.{length-filter, sum_by_push}
use Rattle.links_10.specs.Recv.{is_live, once_attached, after_attach, after_peer_flow, after_grant}
use Rattle.links_10.specs.Recv.{after_arrival, after_cancel, grant_of, gave_up, left_by, greater}
use Rattle.links_10.specs.declared.recv.Granting.{Granting}
use Rattle.links_10.specs.declared.recv.Granting.TheVariants.{Ended}
use Rattle.links_10.specs.declared.recv.Receiving.{Receiving}
use Rattle.open_items.proofs.Filtered.{count_by-filter, count_by-map-le}
use Rattle.consume_path.specs.declared.changes.Change.{Change}
use Rattle.consume_path.specs.declared.changes.Change.TheVariants.{Delivered as ToDelivered}
use Rattle.consume_path.specs.declared.changes.Change.TheVariants.{Written as ToWritten}
use Rattle.consume_path.specs.declared.changes.Change.TheVariants.{Answered as ToAnswered}
use Rattle.consume_path.specs.declared.changes.Change.TheVariants.{Cancelled as ToCancelled}
use Rattle.consume_path.specs.declared.changes.Change.TheVariants.{Closed as ToClosed}
use Rattle.consume_path.specs.declared.changes.Change.TheVariants.{EndLost as ToEndLost}
use Rattle.consume_path.specs.declared.changes.Change.TheVariants.{SettleSent as ToSettleSent}
use Rattle.consume_path.specs.declared.changes.Change.TheVariants.{LinkDropped as ToLinkDropped}
use Rattle.consume_path.specs.declared.changes.Change.TheVariants.{Reported}
use Rattle.consume_path.specs.declared.delivery.Delivery.{Delivery}
use Rattle.consume_path.specs.declared.receiving.Cause.{Cause}
use Rattle.consume_path.specs.declared.receiving.Cause.TheVariants.{Refill, Stop, Get as Asks, Echo}
use Rattle.consume_path.specs.declared.receiving.NextGrant.{NextGrant}
use Rattle.consume_path.specs.declared.receiving.Part.{Part}
use Rattle.consume_path.specs.declared.receiving.Partial.{Partial}
use Rattle.consume_path.specs.declared.receiving.ReceivingLink.{ReceivingLink}
use Rattle.consume_path.specs.declared.receiving.RecvKind.{RecvKind}
use Rattle.consume_path.specs.declared.receiving.RecvKind.TheVariants.{Consumer, Get, Probe}
use Rattle.consume_path.specs.declared.receiving.WaitingGet.{WaitingGet}
use Rattle.consume_path.specs.declared.receiving.TransferFault.TheVariants.{InvalidField}
use Rattle.consume_path.specs.declared.receiving.TransferFault.TheVariants.{LimitExceeded}
use Rattle.consume_path.specs.declared.receiving.TransferFault.TheVariants.{SizeExceeded}
use Rattle.consume_path.specs.Items.{is_open, is_on, without_link, changed}
use Rattle.consume_path.specs.Links.{link_of, counts, counts_on, counted_on, one_if, recount}
use Rattle.consume_path.specs.Links.{has_number, is_to_ask, new_link, without, is_between, bytes_in}
use Rattle.consume_path.specs.Links.{is_whole, in_link, joined, was_asked, found_empty, served}
use Rattle.consume_path.specs.Links.{transfer_came, change_first, taken_from}
use Rattle.consume_path.specs.Links.{flow_sent, is_stop, is_ask, is_echo}
use Rattle.consume_path.specs.Offers.{most_bytes, names_wrongly, fault_of, fault_in, is_for_gets}
use Rattle.consume_path.specs.Offers.{echo_credit, grant_as, flow_of, grant_link, next_grant_of}
use Rattle.consume_path.specs.Laws.{IsLawfulCredit}
use Rattle.consume_path.proofs.Finding.{find_map, find_push, find_without, find_change, found_number}
use Rattle.consume_path.proofs.Finding.{Distinct, distinct_map, distinct_filter, distinct_change}
use Rattle.consume_path.proofs.Finding.{distinct_push, each_found}
use Rattle.consume_path.proofs.Least.{soonest_found}
use Rattle.consume_path.proofs.Steps.{counts_on_closed}

-- what a link keeps to

abbrev ByKind : RecvKind → List Delivery → ReceivingLink → Type 0
ByKind (Consumer tag no_ack) list l = l.state.limit_left + counted_on list l ≤ l.state.quota
ByKind Get list l = (l.state.limit_left ≤ 1) × (l.state.granting ≡ Ended)
ByKind Probe list l = (l.state.limit_left ≡ 0) × (l.state.granting ≡ Ended)

pub record Within (list : List Delivery) (l : ReceivingLink) : Type 0 where
  pub counted : l.state.counted ≡ counted_on list l
  pub low : l.state.credit ≤ l.state.limit_left
  pub kind : ByKind l.kind list l
  pub stopped : l.cancelled ≡ true → l.state.granting ≡ Ended
  pub gets : is_some l.get ≡ true → is_for_gets l.kind ≡ true

-- the credit that a flow states

quota_left : (counted quota credit : ℕ) → nat_le (2 * (credit + counted)) quota ≡ true → (quota - counted) + counted ≤ quota
quota_left counted quota credit e = let le : 2 * (credit + counted) ≤ quota = grind (arith, nat_tests) in omega arith

not_live : (g : Granting) → g ≡ Ended → is_live g ≡ false
not_live g e = ap is_live e

ended_grant : (s : Receiving) (c : ℕ) → s.granting ≡ Ended → grant_of s ≡ Some c → ⊥
ended_grant s c e is = by (is_live s.granting) (nat_le (2 * (s.credit + s.counted)) s.quota) (not_live s.granting e) is
  where
    by : (a b : Bool) → a ≡ false → cond (a && b) (Some (s.quota - s.counted)) None ≡ Some c → ⊥
    by true b e is = cc
    by false b e is = cc

grant_is : (s : Receiving) (c : ℕ) → grant_of s ≡ Some c → c + s.counted ≤ s.quota
grant_is s c is = by (is_live s.granting) (nat_le (2 * (s.credit + s.counted)) s.quota) refl is
  where
    by : (a b : Bool) → nat_le (2 * (s.credit + s.counted)) s.quota ≡ b → cond (a && b) (Some (s.quota - s.counted)) None ≡ Some c → c + s.counted ≤ s.quota
    by true true e is = let same : s.quota - s.counted ≡ c = cc in subst (λ n. n + s.counted ≤ s.quota) same (quota_left s.counted s.quota s.credit e)
    by true false e is = absurd (cc)
    by false b e is = absurd (cc)

module _ (list : List Delivery) (l : ReceivingLink) (w : Within list l) where
  refill_lawful : (c : ℕ) → grant_of l.state ≡ Some c → IsLawfulCredit l.kind c l
  refill_lawful c is = by l.kind w.kind
    where
      by : (kind : RecvKind) → ByKind kind list l → IsLawfulCredit kind c l
      by (Consumer tag no_ack) k = (grant_is l.state c is, λ e. absurd (ended_grant l.state c (w.stopped e) is))
      by Get k = absurd (ended_grant l.state c k.1 is)
      by Probe k = absurd (ended_grant l.state c k.1 is)

  zero_lawful : IsLawfulCredit l.kind 0 l
  zero_lawful = by l.kind w.kind
    where
      by : (kind : RecvKind) → ByKind kind list l → IsLawfulCredit kind 0 l
      by (Consumer tag no_ack) k = (omega (arith, w.counted, k), λ e. refl)
      by Get k = omega arith
      by Probe k = refl

  ask_lawful : is_some l.get ≡ true → IsLawfulCredit l.kind 1 l
  ask_lawful e = by l.kind (w.gets e)
    where
      by : (kind : RecvKind) → is_for_gets kind ≡ true → IsLawfulCredit kind 1 l
      by (Consumer tag no_ack) k = absurd (cc)
      by Get k = omega arith
      by Probe k = absurd (cc)

  left_lawful : l.cancelled ≡ false → IsLawfulCredit l.kind l.state.credit l
  left_lawful e = by l.kind w.kind
    where
      by : (kind : RecvKind) → ByKind kind list l → IsLawfulCredit kind l.state.credit l
      by (Consumer tag no_ack) k = (omega (arith, w.counted, w.low, k), λ is. absurd (cc))
      by Get k = omega (arith, w.low, k.0)
      by Probe k = omega (arith, w.low, k.0)

  echo_lawful : (shut : Bool) → IsLawfulCredit l.kind (echo_credit shut l) l
  echo_lawful shut = by l.cancelled (shut && is_for_gets l.kind) refl
    where
      by : (a b : Bool) → l.cancelled ≡ a → IsLawfulCredit l.kind (cond (a || b) 0 l.state.credit) l
      by true b e = zero_lawful
      by false true e = zero_lawful
      by false false e = left_lawful e

  asks_some : (g : Option WaitingGet) → is_to_ask g ≡ true → is_some g ≡ true
  asks_some None e = absurd (cc)
  asks_some (Some g) e = refl

  credit_lawful : (shut : Bool) (g : NextGrant) → flow_of shut l ≡ Some g → (g.link ≡ l.link) × IsLawfulCredit l.kind g.credit l
  credit_lawful shut g e = by l.attached (grant_of l.state) l.stopping (is_to_ask l.get && not shut) (nat_lt 0 l.echoes) refl refl e
    where
      same : (c : ℕ) (h : NextGrant) → h ≡ g → h.link ≡ l.link → h.credit ≡ c → IsLawfulCredit l.kind c l → (g.link ≡ l.link) × IsLawfulCredit l.kind g.credit l
      same c h e at is ok = (ap (λ (x : NextGrant). x.link) (sym e) ∙ at, subst (λ n. IsLawfulCredit l.kind n l) (sym is ∙ ap (λ (x : NextGrant). x.credit) e) ok)

      asks : (a b : Bool) → (a && b) ≡ true → a ≡ true
      asks true b e = refl
      asks false b e = absurd (cc)

      some_is : (a b : NextGrant) → Some a ≡ Some b → a ≡ b
      some_is a b e = cc

      by : (attached : Bool) (grant : Option ℕ) (stop ask echo : Bool) → grant_of l.state ≡ grant → (is_to_ask l.get && not shut) ≡ ask
          → cond attached (option_or (option_map (grant_as l Refill) grant) (option_or (cond stop (Some (grant_as l Stop 0)) None) (option_or (cond ask (Some (grant_as l Asks 1)) None) (cond echo (Some (grant_as l Echo (echo_credit shut l))) None)))) None ≡ Some g
          → (g.link ≡ l.link) × IsLawfulCredit l.kind g.credit l
      by false grant stop ask echo f a e = absurd (cc)
      by true (Some c) stop ask echo f a e = same c (grant_as l Refill c) (some_is _ g e) refl refl (refill_lawful c f)
      by true None true ask echo f a e = same 0 (grant_as l Stop 0) (some_is _ g e) refl refl zero_lawful
      by true None false true echo f a e = same 1 (grant_as l Asks 1) (some_is _ g e) refl refl (ask_lawful (asks_some l.get (asks (is_to_ask l.get) (not shut) a)))
      by true None false false true f a e = same (echo_credit shut l) (grant_as l Echo (echo_credit shut l)) (some_is _ g e) refl refl (echo_lawful shut)
      by true None false false false f a e = absurd (cc)

-- no more count after a change

counts_before : (change : Change) (k : ℕ) (d : Delivery) → counts_on k (changed change d) ≡ true → counts_on k d ≡ true
counts_before (ToDelivered number tag) k d e = grind (arith, common_steps)
counts_before (ToWritten tag) k d e = grind (arith, common_steps)
counts_before (ToAnswered tag multiple settle) k d e = grind (arith, common_steps)
counts_before (ToCancelled link) k d e = grind (arith, common_steps)
counts_before ToClosed k d e = grind (arith, common_steps)
counts_before ToEndLost k d e = grind (arith, common_steps)
counts_before (ToSettleSent settle) k d e = grind (arith, common_steps)
counts_before (ToLinkDropped link) k d e = by d.link e
  where
    never : (b : Bool) → (b && counts d) ≡ true → (b && counts d) ≡ true
    never b e = e

    by : (own : Option ℕ) → (is_on k (without_link link own) && counts d) ≡ true → (is_on k own && counts d) ≡ true
    by None e = e
    by (Some own) e = pick (own == link) e
      where
        pick : (b : Bool) → (is_on k (cond b None (Some own)) && counts d) ≡ true → ((own == k) && counts d) ≡ true
        pick true e = absurd (cc)
        pick false e = e
counts_before Reported k d e = e

fewer : (change : Change) (k : ℕ) (list : List Delivery) → count_by (counts_on k) (filter is_open (map (changed change) list)) ≤ count_by (counts_on k) list
fewer change k list =
    let all : count_by (counts_on k) (filter is_open (map (changed change) list)) ≡ count_by (counts_on k) (map (changed change) list) = count_by-filter is_open (counts_on k) (counts_on_closed k) (map (changed change) list) in
    let less : count_by (counts_on k) (map (changed change) list) ≤ count_by (counts_on k) list = count_by-map-le (counts_on k) (changed change) (counts_before change k) list in
    omega (arith, all, less)

-- a link's state that has no more

pub record Less (s t : Receiving) : Type 0 where
  pub quota : t.quota ≡ s.quota
  pub limit : t.limit_left ≤ s.limit_left
  pub low : s.credit ≤ s.limit_left → t.credit ≤ t.limit_left
  pub ended : s.granting ≡ Ended → t.granting ≡ Ended
  pub counted : t.counted ≡ s.counted

pub less_same : (s : Receiving) → Less s s
less_same s = record { quota = refl; limit = omega arith; low = λ e. e; ended = λ e. e; counted = refl }

pub less_if : (b : Bool) (s t : Receiving) → Less s t → Less s (cond b t s)
less_if true s t less = less
less_if false s t less = less_same s

pub attach_less : (count : ℕ) (s : Receiving) → Less s (after_attach count s)
attach_less count s = record { quota = refl; limit = omega arith; low = λ e. omega arith; ended = λ e. ap once_attached e; counted = refl }

pub flow_less : (count : ℕ) (s : Receiving) → Less s (after_peer_flow count s)
flow_less count s = by (nat_lt (left_by count s) s.credit) refl
  where
    by : (b : Bool) → nat_lt (left_by count s) s.credit ≡ b → Less s (cond b (gave_up (left_by count s) s) s)
    by true e =
        let under : left_by count s < s.credit = grind (arith, nat_tests) in
        record { quota = refl; limit = omega arith; low = λ e. omega arith; ended = λ e. e; counted = refl }
    by false e = less_same s

pub cancel_less : (s : Receiving) → Less s (after_cancel s)
cancel_less s = record { quota = refl; limit = omega arith; low = λ e. e; ended = λ e. refl; counted = refl }

kind_less : (kind : RecvKind) (list later : List Delivery) (l m : ReceivingLink) → counted_on later m ≤ counted_on list l → Less l.state m.state → ByKind kind list l → ByKind kind later m
kind_less (Consumer tag no_ack) list later l m count less k = omega (arith, count, less.quota, less.limit, k)
kind_less Get list later l m count less k = (omega (arith, less.limit, k.0), less.ended k.1)
kind_less Probe list later l m count less k = (omega (arith, less.limit, k.0), less.ended k.1)

-- a change of the link alone, that leaves its kind and its delivery
pub within_less : (list : List Delivery) (l m : ReceivingLink) → m.link ≡ l.link → m.partial ≡ l.partial → m.kind ≡ l.kind → Less l.state m.state → (m.cancelled ≡ true → m.state.granting ≡ Ended) → (is_some m.get ≡ true → is_for_gets l.kind ≡ true) → Within list l → Within list m
within_less list l m link partial kind less stopped gets w = record {
  counted = less.counted ∙ w.counted ∙ sym count;
  low = less.low w.low;
  kind = subst (λ k. ByKind k list m) (sym kind) (kind_less l.kind list list l m (omega (arith, count)) less w.kind);
  stopped = stopped;
  gets = λ e. ap is_for_gets kind ∙ gets e;
}
  where
    count : counted_on list m ≡ counted_on list l
    count = ap (λ k. count_by (counts_on k) list + one_if (is_some m.partial)) link ∙ ap (λ p. count_by (counts_on l.link) list + one_if (is_some p)) partial

-- a change of the deliveries by which no more count
within_list : (list later : List Delivery) (l : ReceivingLink) → count_by (counts_on l.link) later ≤ count_by (counts_on l.link) list → Within list l → Within later (recount later l)
within_list list later l le w = record {
  counted = refl;
  low = w.low;
  kind = by l.kind w.kind;
  stopped = w.stopped;
  gets = w.gets;
}
  where
    by : (kind : RecvKind) → ByKind kind list l → ByKind kind later (recount later l)
    by (Consumer tag no_ack) k = omega (arith, le, k)
    by Get k = k
    by Probe k = k

-- the link with each number

abbrev pub At : List Delivery → List ReceivingLink → ℕ → Type 0
At list links k = MatchOption (link_of links k) (count_by (counts_on k) list ≡ 0) (Within list)

at_map : (list later : List Delivery) (f : ReceivingLink → ReceivingLink) → ((l : ReceivingLink) → (f l).link ≡ l.link) → (links : List ReceivingLink) (k : ℕ)
    → (link_of links k ≡ None → count_by (counts_on k) list ≡ 0 → count_by (counts_on k) later ≡ 0) → ((l : ReceivingLink) → link_of links k ≡ Some l → Within list l → Within later (f l)) → At list links k → At later (map f links) k
at_map list later f same links k none some a = subst (λ o. MatchOption o (count_by (counts_on k) later ≡ 0) (Within later)) (sym (find_map f same links k)) (by (link_of links k) refl a)
  where
    by : (o : Option ReceivingLink) → link_of links k ≡ o → MatchOption o (count_by (counts_on k) list ≡ 0) (Within list) → MatchOption (option_map f o) (count_by (counts_on k) later ≡ 0) (Within later)
    by None e a = none e a
    by (Some l) e a = some l e a

zero_stays : (m n : ℕ) → m ≤ n → n ≡ 0 → m ≡ 0
zero_stays m n le e = omega arith

-- counted anew
at_list : (list later : List Delivery) (links : List ReceivingLink) (k : ℕ) → count_by (counts_on k) later ≤ count_by (counts_on k) list → At list links k → At later (map (recount later) links) k
at_list list later links k le a =
    at_map list later (recount later) (λ l. refl) links k (λ e zero_count. zero_stays _ _ le zero_count)
    (λ l e w. within_list list later l (subst (λ i. count_by (counts_on i) later ≤ count_by (counts_on i) list) (sym (found_number links k l e)) le) w) a

pub record Sane (list : List Delivery) (links : List ReceivingLink) : Type 0 where
  pub distinct : Distinct links
  pub each : (k : ℕ) → At list links k

-- a change of each link
pub map_sane : (list : List Delivery) (links : List ReceivingLink) (f : ReceivingLink → ReceivingLink) → ((l : ReceivingLink) → (f l).link ≡ l.link) → ((k : ℕ) (l : ReceivingLink) → link_of links k ≡ Some l → Within list l → Within list (f l)) → Sane list links → Sane list (map f links)
map_sane list links f same step s = record { distinct = distinct_map f same links s.distinct; each = λ k. at_map list list f same links k (λ e z. z) (step k) (s.each k) }

-- and of each delivery
pub each_sane : (change : Change) (list : List Delivery) (links : List ReceivingLink) → Sane list links → Sane (filter is_open (map (changed change) list)) (map (recount (filter is_open (map (changed change) list))) links)
each_sane change list links s = record {
  distinct = distinct_map (recount (filter is_open (map (changed change) list))) (λ l. refl) links s.distinct;
  each = λ k. at_list list (filter is_open (map (changed change) list)) links k (fewer change k list) (s.each k);
}

-- a link that is added

new_within : (list : List Delivery) (link : ℕ) (kind : RecvKind) (prefetch : ℕ) → count_by (counts_on link) list ≡ 0 → Within list (new_link link kind prefetch)
new_within list link (Consumer tag no_ack) prefetch none = record { counted = omega (arith, none); low = omega arith; kind = omega (arith, none); stopped = λ e. absurd (cc); gets = λ e. absurd (cc) }
new_within list link Get prefetch none = record { counted = omega (arith, none); low = omega arith; kind = (omega arith, refl); stopped = λ e. absurd (cc); gets = λ e. absurd (cc) }
new_within list link Probe prefetch none = record { counted = omega (arith, none); low = omega arith; kind = (refl, refl); stopped = λ e. absurd (cc); gets = λ e. absurd (cc) }

pub equal : (i j : ℕ) → (i == j) ≡ true → i ≡ j
equal i j e = grind (arith, nat_tests)

at_push : (list : List Delivery) (links : List ReceivingLink) (l : ReceivingLink) (k : ℕ) → (count_by (counts_on l.link) list ≡ 0 → Within list l) → At list links k → At list (links ++ l ∷ []) k
at_push list links l k new a = subst (λ o. MatchOption o (count_by (counts_on k) list ≡ 0) (Within list)) (sym (find_push links l k)) (by (link_of links k) a)
  where
    by : (o : Option ReceivingLink) → MatchOption o (count_by (counts_on k) list ≡ 0) (Within list) → MatchOption (option_or o (cond (l.link == k) (Some l) None)) (count_by (counts_on k) list ≡ 0) (Within list)
    by (Some m) a = a
    by None a = pick (l.link == k) refl
      where
        pick : (b : Bool) → (l.link == k) ≡ b → MatchOption (cond b (Some l) None) (count_by (counts_on k) list ≡ 0) (Within list)
        pick true e = new (subst (λ i. count_by (counts_on i) list ≡ 0) (sym (equal l.link k e)) a)
        pick false e = a

recount_sane : (list : List Delivery) (links : List ReceivingLink) → Sane list links → Sane list (map (recount list) links)
recount_sane list links s = record { distinct = distinct_map (recount list) (λ l. refl) links s.distinct; each = λ k. at_list list list links k (omega arith) (s.each k) }

pub added_sane : (list : List Delivery) (links : List ReceivingLink) (link : ℕ) (kind : RecvKind) (prefetch : ℕ) → link_of links link ≡ None → Sane list links → Sane list (map (recount list) (links ++ new_link link kind prefetch ∷ []))
added_sane list links link kind prefetch none s = recount_sane list (links ++ new_link link kind prefetch ∷ []) (record {
  distinct = distinct_push links (new_link link kind prefetch) none s.distinct;
  each = λ k. at_push list links (new_link link kind prefetch) k (new_within list link kind prefetch) (s.each k);
})

-- its get

pub empty_some : (b : Bool) (g : Option WaitingGet) → is_some (cond b (found_empty g) g) ≡ true → is_some g ≡ true
empty_some true None e = absurd (cc)
empty_some true (Some g) e = refl
empty_some false g e = e

asked_some : (b : Bool) (g : Option WaitingGet) → is_some (cond b (was_asked g) g) ≡ true → is_some g ≡ true
asked_some true None e = absurd (cc)
asked_some true (Some g) e = refl
asked_some false g e = e

pub none_some : (b : Bool) (g : Option WaitingGet) → is_some (cond b None g) ≡ true → is_some g ≡ true
none_some true g e = absurd (cc)
none_some false g e = e

served_some : (b image : Bool) (g : Option WaitingGet) → is_some (cond b (cond image (served g) (found_empty g)) g) ≡ true → is_some g ≡ true
served_some false image g e = e
served_some true false None e = absurd (cc)
served_some true true None e = absurd (cc)
served_some true image (Some g) e = refl

-- a transfer

between_limit : (part : Part) (size : ℕ) (l : ReceivingLink) (links : List ReceivingLink) (list : List Delivery) → fault_of part size l links list ≡ None → is_between l ≡ true → 1 ≤ l.state.limit_left
between_limit part size l links list e b = by (names_wrongly part l links list) (is_between l) (l.state.limit_left == 0) b refl e
  where
    by : (n t z : Bool) → t ≡ true → (l.state.limit_left == 0) ≡ z → cond n (Some InvalidField) (cond (t && z) (Some LimitExceeded) (cond (nat_lt most_bytes (length (bytes_in l.partial) + size)) (Some SizeExceeded) None)) ≡ None → 1 ≤ l.state.limit_left
    by true t z u f e = absurd (cc)
    by false true true u f e = absurd (cc)
    by false true false u f e = grind (arith, nat_tests)
    by false false z u f e = absurd (cc)

one_most : (b : Bool) → one_if b ≤ 1
one_most true = omega arith
one_most false = omega arith

transfer_within : (list : List Delivery) (part : Part) (payload : List ℕ) (l : ReceivingLink) → (is_between l ≡ true → 1 ≤ l.state.limit_left) → Within list l → Within list (recount list (transfer_came part payload l))
transfer_within list part payload l limit w = by (is_some l.partial) refl (one_most (is_some (joined part payload l.partial)))
  where
    by : (o : Bool) → is_some l.partial ≡ o → one_if (is_some (joined part payload l.partial)) ≤ 1 → Within list (recount list (transfer_came part payload l))
    by true e most = record {
      counted = refl;
      low = rw e w.low;
      kind = rw e (keeps l.kind w.kind);
      stopped = λ c. rw e (w.stopped c);
      gets = λ g. w.gets (empty_some part.aborted l.get g);
    }
      where
        keeps : (kind : RecvKind) → ByKind kind list l → ByKind kind list (record l { state = record l.state { counted = counted_on list (transfer_came part payload l) }; partial = joined part payload l.partial; get = (transfer_came part payload l).get })
        keeps (Consumer tag no_ack) k = let was : one_if (is_some l.partial) ≡ 1 = ap one_if e in omega (arith, was, most, k)
        keeps Get k = k
        keeps Probe k = k
    by false e most =
        let room : 1 ≤ l.state.limit_left = limit (ap not e) in
        record {
          counted = refl;
          low = rw e (let low = w.low in omega arith);
          kind = rw e (keeps room l.kind w.kind);
          stopped = λ c. rw e (w.stopped c);
          gets = λ g. w.gets (empty_some part.aborted l.get g);
        }
      where
        keeps : 1 ≤ l.state.limit_left → (kind : RecvKind) → ByKind kind list l → ByKind kind list (record l { state = record (after_arrival l.state) { counted = counted_on list (transfer_came part payload l) }; partial = joined part payload l.partial; get = (transfer_came part payload l).get })
        keeps room (Consumer tag no_ack) k = omega (arith, room, most, k)
        keeps room Get k = (omega (arith, k.0), k.1)
        keeps room Probe k = (omega (arith, k.0), k.1)

pub transferred_sane : (list : List Delivery) (links : List ReceivingLink) (link : ℕ) (part : Part) (payload : List ℕ) → fault_in part (length payload) (link_of links link) links list ≡ None → Sane list links
    → Sane list (map (recount list) (change_first (has_number link) (transfer_came part payload) links))
transferred_sane list links link part payload fine s = record {
  distinct = distinct_map (recount list) (λ l. refl) _ (distinct_change link (transfer_came part payload) (λ l. refl) links s.distinct);
  each = λ k. subst (λ o. MatchOption o (count_by (counts_on k) list ≡ 0) (Within list)) (sym (find_map (recount list) (λ l. refl) (change_first (has_number link) (transfer_came part payload) links) k ∙ ap (option_map (recount list)) (find_change (transfer_came part payload) (λ l. refl) link k links)))
      (by k (k == link) refl (link_of links k) refl (s.each k));
}
  where
    fits : (l : ReceivingLink) → link_of links link ≡ Some l → is_between l ≡ true → 1 ≤ l.state.limit_left
    fits l e = between_limit part (length payload) l links list (ap (λ o. fault_in part (length payload) o links list) (sym e) ∙ fine)

    by : (k : ℕ) (b : Bool) → (k == link) ≡ b → (o : Option ReceivingLink) → link_of links k ≡ o → MatchOption o (count_by (counts_on k) list ≡ 0) (Within list)
        → MatchOption (option_map (recount list) (cond b (option_map (transfer_came part payload) o) o)) (count_by (counts_on k) list ≡ 0) (Within list)
    by k true e None f a = a
    by k false e None f a = a
    by k true e (Some l) f w = transfer_within list part payload l (fits l (ap (link_of links) (sym (equal k link e)) ∙ f)) w
    by k false e (Some l) f w = within_list list list l (omega arith) w

-- an arrival

count_push : (p : Delivery → Bool) (list : List Delivery) (d : Delivery) → count_by p (list ++ d ∷ []) ≡ count_by p list + one_if (p d)
count_push p list d = sum_by_push (λ x. cond (p x) 1 0) list d

taken_within : (list : List Delivery) (d : Delivery) (link : ℕ) (image : Bool) (l : ReceivingLink) → ((l.link == link) ≡ true → is_some l.partial ≡ true) → ((l.link == link) ≡ false → counts_on l.link d ≡ false) → Within list l
    → Within (list ++ d ∷ []) (recount (list ++ d ∷ []) (taken_from link image l))
taken_within list d link image l begun other w = record {
  counted = refl;
  low = w.low;
  kind = keeps l.kind w.kind;
  stopped = w.stopped;
  gets = λ e. w.gets (served_some (l.link == link) image l.get e);
}
  where
    count : count_by (counts_on l.link) (list ++ d ∷ []) + one_if (is_some (cond (l.link == link) None l.partial)) ≤ count_by (counts_on l.link) list + one_if (is_some l.partial)
    count = by (l.link == link) refl
      where
        by : (b : Bool) → (l.link == link) ≡ b → count_by (counts_on l.link) (list ++ d ∷ []) + one_if (is_some (cond b None l.partial)) ≤ count_by (counts_on l.link) list + one_if (is_some l.partial)
        by true e = let was : one_if (is_some l.partial) ≡ 1 = ap one_if (begun e) in let most : one_if (counts_on l.link d) ≤ 1 = one_most (counts_on l.link d) in omega (arith, was, most, count_push (counts_on l.link) list d)
        by false e = let none : one_if (counts_on l.link d) ≡ 0 = ap one_if (other e) in omega (arith, none, count_push (counts_on l.link) list d)

    keeps : (kind : RecvKind) → ByKind kind list l → ByKind kind (list ++ d ∷ []) (recount (list ++ d ∷ []) (taken_from link image l))
    keeps (Consumer tag no_ack) k = omega (arith, count, k)
    keeps Get k = k
    keeps Probe k = k

whole_some : (p : Option Partial) → is_whole p ≡ true → is_some p ≡ true
whole_some None e = absurd (cc)
whole_some (Some p) e = refl

pub arrived_sane : (list : List Delivery) (links : List ReceivingLink) (link : ℕ) (image : Bool) (d : Delivery) → d.link ≡ Some link → in_link (λ l. is_whole l.partial) (link_of links link) ≡ true → Sane list links
    → Sane (list ++ d ∷ []) (map (recount (list ++ d ∷ [])) (map (taken_from link image) links))
arrived_sane list links link image d at whole s = record {
  distinct = distinct_map (recount later) (λ l. refl) _ (distinct_map (taken_from link image) (λ l. refl) links s.distinct);
  each = λ k. subst (λ o. MatchOption o (count_by (counts_on k) later ≡ 0) (Within later)) (sym (find_map (recount later) (λ l. refl) (map (taken_from link image) links) k ∙ ap (option_map (recount later)) (find_map (taken_from link image) (λ l. refl) links k)))
      (by k (link_of links k) refl (s.each k));
}
  where
    later : List Delivery
    later = list ++ d ∷ []

    off : (k : ℕ) → (link == k) ≡ false → counts_on k d ≡ false
    off k e = ap (λ own. is_on k own && counts d) at ∙ ap (λ b. b && counts d) e

    there : (l : ReceivingLink) → link_of links link ≡ Some l → is_some l.partial ≡ true
    there l e = whole_some l.partial (ap (in_link (λ (m : ReceivingLink). is_whole m.partial)) (sym e) ∙ whole)

    not_there : link_of links link ≡ None → ⊥
    not_there e = let no_link : false ≡ true = ap (in_link (λ (m : ReceivingLink). is_whole m.partial)) (sym e) ∙ whole in cc

    flip : (i j : ℕ) → (i == j) ≡ false → (j == i) ≡ false
    flip i j e = grind (arith, nat_tests)

    by : (k : ℕ) (o : Option ReceivingLink) → link_of links k ≡ o → MatchOption o (count_by (counts_on k) list ≡ 0) (Within list) → MatchOption (option_map (recount later) (option_map (taken_from link image) o)) (count_by (counts_on k) later ≡ 0) (Within later)
    by k None e none = pick (link == k) refl
      where
        pick : (b : Bool) → (link == k) ≡ b → count_by (counts_on k) later ≡ 0
        pick true is = absurd (not_there (ap (link_of links) (equal link k is) ∙ e))
        pick false is = let no_more : one_if (counts_on k d) ≡ 0 = ap one_if (off k is) in omega (arith, none, no_more, count_push (counts_on k) list d)
    by k (Some l) e w =
        let number : l.link ≡ k = found_number links k l e in
        taken_within list d link image l (λ is. there l (ap (link_of links) (sym (equal l.link link is) ∙ number) ∙ e)) (λ is. off l.link (flip l.link link is)) w

-- a link that goes

none_count : (p : Delivery → Bool) (f : Delivery → Delivery) → ((d : Delivery) → p (f d) ≡ false) → (list : List Delivery) → count_by p (map f list) ≡ 0
none_count p f none list = sym (length-filter p (map f list)) ∙ by list
  where
    by : (ds : List Delivery) → length (filter p (map f ds)) ≡ 0
    by [] = refl
    by (d ∷ ds) = ap (λ b. length (cond b (f d ∷ filter p (map f ds)) (filter p (map f ds)))) (none d) ∙ by ds

dropped_none : (link : ℕ) (list : List Delivery) → count_by (counts_on link) (filter is_open (map (changed (ToLinkDropped link)) list)) ≡ 0
dropped_none link list =
    count_by-filter is_open (counts_on link) (counts_on_closed link) (map (changed (ToLinkDropped link)) list)
    ∙ none_count (counts_on link) (changed (ToLinkDropped link)) (λ d. by d.link (counts d)) list
  where
    by : (own : Option ℕ) (b : Bool) → (is_on link (without_link link own) && b) ≡ false
    by None b = refl
    by (Some own) b = pick (own == link) refl
      where
        pick : (c : Bool) → (own == link) ≡ c → (is_on link (cond c None (Some own)) && b) ≡ false
        pick true e = refl
        pick false e = ap (λ t. t && b) e

pub dropped_sane : (list : List Delivery) (links : List ReceivingLink) (link : ℕ) → Sane list links
    → Sane (filter is_open (map (changed (ToLinkDropped link)) list)) (map (recount (filter is_open (map (changed (ToLinkDropped link)) list))) (without link links))
dropped_sane list links link s = record {
  distinct = distinct_map (recount later) (λ l. refl) _ (distinct_filter (λ l. not (has_number link l)) links s.distinct);
  each = λ k. subst (λ o. MatchOption o (count_by (counts_on k) later ≡ 0) (Within later)) (sym (find_map (recount later) (λ l. refl) (without link links) k ∙ ap (option_map (recount later)) (find_without link k links)))
      (by k (k == link) refl (link_of links k) refl (s.each k));
}
  where
    later : List Delivery
    later = filter is_open (map (changed (ToLinkDropped link)) list)

    by : (k : ℕ) (b : Bool) → (k == link) ≡ b → (o : Option ReceivingLink) → link_of links k ≡ o → MatchOption o (count_by (counts_on k) list ≡ 0) (Within list) → MatchOption (option_map (recount later) (cond b None o)) (count_by (counts_on k) later ≡ 0) (Within later)
    by k true e o f a = ap (λ i. count_by (counts_on i) later) (equal k link e) ∙ dropped_none link list
    by k false e None f none = zero_stays _ _ (fewer (ToLinkDropped link) k list) none
    by k false e (Some l) f w =
        within_list list later l (subst (λ i. count_by (counts_on i) later ≤ count_by (counts_on i) list) (sym (found_number links k l f)) (fewer (ToLinkDropped link) k list)) w

-- a flow that goes

-- the same link, with what it is still to send
abbrev with_flow : ReceivingLink → Receiving → Bool → Option WaitingGet → ℕ → ReceivingLink
with_flow l state stopping get echoes = record l { state = state; stopping = stopping; get = get; echoes = echoes }

grant_kind : (list : List Delivery) (c : ℕ) (l : ReceivingLink) (stopping : Bool) (get : Option WaitingGet) (echoes : ℕ) (kind : RecvKind) → l.state.counted ≡ counted_on list l → ByKind kind list l → IsLawfulCredit kind c l → ByKind kind list (with_flow l (after_grant c l.state) stopping get echoes)
grant_kind list c l stopping get echoes (Consumer tag no_ack) counted k o = pick (nat_lt l.state.limit_left c)
  where
    pick : (b : Bool) → cond b c l.state.limit_left + counted_on list l ≤ l.state.quota
    pick true = omega (arith, counted, o.0)
    pick false = k
grant_kind list c l stopping get echoes Get counted k o = (pick (nat_lt l.state.limit_left c), k.1)
  where
    pick : (b : Bool) → cond b c l.state.limit_left ≤ 1
    pick true = o
    pick false = k.0
grant_kind list c l stopping get echoes Probe counted k o = (pick (nat_lt l.state.limit_left c), k.1)
  where
    pick : (b : Bool) → cond b c l.state.limit_left ≡ 0
    pick true = o
    pick false = k.0

same_kind : (list : List Delivery) (l : ReceivingLink) (stopping : Bool) (get : Option WaitingGet) (echoes : ℕ) (kind : RecvKind) → ByKind kind list l → ByKind kind list (with_flow l l.state stopping get echoes)
same_kind list l stopping get echoes (Consumer tag no_ack) k = k
same_kind list l stopping get echoes Get k = k
same_kind list l stopping get echoes Probe k = k

credit_low : (limit c : ℕ) → c ≤ greater limit c
credit_low limit c = by (nat_lt limit c) refl
  where
    by : (b : Bool) → nat_lt limit c ≡ b → c ≤ cond b c limit
    by true e = omega arith
    by false e = grind (arith, nat_tests)

grant_within : (list : List Delivery) (link c : ℕ) (cause : Cause) (l : ReceivingLink) → IsLawfulCredit l.kind c l → Within list l → Within list (flow_sent link c cause l)
grant_within list link c cause l ok w = by (l.link == link)
  where
    by : (b : Bool) → Within list (with_flow l (cond b (after_grant c l.state) l.state) (cond (b && is_stop cause) false l.stopping) (cond (b && is_ask cause) (was_asked l.get) l.get) (cond (b && is_echo cause) (l.echoes - 1) l.echoes))
    by true = record {
      counted = w.counted;
      low = credit_low l.state.limit_left c;
      kind = grant_kind list c l _ _ _ l.kind w.counted w.kind ok;
      stopped = w.stopped;
      gets = λ e. w.gets (asked_some (is_ask cause) l.get e);
    }
    by false = record { counted = w.counted; low = w.low; kind = same_kind list l _ _ _ l.kind w.kind; stopped = w.stopped; gets = w.gets }

-- the link of the flow that is due
pub record Source (links : List ReceivingLink) (list : List Delivery) (g : NextGrant) : Type 0 where
  pub link : ReceivingLink
  pub found : link_of links g.link ≡ Some link
  pub within : Within list link
  pub lawful : IsLawfulCredit link.kind g.credit link

pub source_of : (shut : Bool) (list : List Delivery) (links : List ReceivingLink) (g : NextGrant) → Sane list links → next_grant_of shut links ≡ Some g → Source links list g
source_of shut list links g s e =
    let found = soonest_found grant_link (λ l. link_of links l.link ≡ Some l) (flow_of shut) links g (each_found links s.distinct) e in
    let l = found.0 in
    let w : Within list l = within_found l found.1 (s.each l.link) in
    let ok = credit_lawful list l w shut g found.2 in
    record { link = l; found = ap (link_of links) ok.0 ∙ found.1; within = w; lawful = ok.1 }
  where
    within_found : (l : ReceivingLink) → link_of links l.link ≡ Some l → At list links l.link → Within list l
    within_found l is a = subst (λ o. MatchOption o (count_by (counts_on l.link) list ≡ 0) (Within list)) is a

pub granted_sane : (shut : Bool) (list : List Delivery) (links : List ReceivingLink) (g : NextGrant) → next_grant_of shut links ≡ Some g → Sane list links → Sane list (map (flow_sent g.link g.credit g.cause) links)
granted_sane shut list links g due s = map_sane list links (flow_sent g.link g.credit g.cause) (λ l. refl) step s
  where
    some_is : (a b : ReceivingLink) → Some a ≡ Some b → a ≡ b
    some_is a b e = cc

    step : (k : ℕ) (l : ReceivingLink) → link_of links k ≡ Some l → Within list l → Within list (flow_sent g.link g.credit g.cause l)
    step k l e w = by (l.link == g.link) refl
      where
        by : (b : Bool) → (l.link == g.link) ≡ b → Within list (flow_sent g.link g.credit g.cause l)
        by true is =
            let source = source_of shut list links g s due in
            let same : source.link ≡ l = some_is source.link l (sym source.found ∙ ap (link_of links) (sym (equal l.link g.link is) ∙ found_number links k l e) ∙ e) in
            grant_within list g.link g.credit g.cause l (subst (λ (m : ReceivingLink). IsLawfulCredit m.kind g.credit m) same source.lawful) w
        by false is = rw is (record { counted = w.counted; low = w.low; kind = same_kind list l _ _ _ l.kind w.kind; stopped = w.stopped; gets = w.gets })
