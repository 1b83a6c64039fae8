-- The tags of consumers are short, and what goes to a client of deliveries fits it: of each channel whose life is in progress, by its events.
use Rattle.std.proofs.Common.{◌≡◌, ℕ, zero, suc, ◌+◌, ◌==◌, ◌≤◌, ◌&&◌, not, Bool, true, false}
use Rattle.std.proofs.Common.{if◌then◌else◌, cond, List, [], ◌∷◌, ◌++◌, filter, find, length, map, codes, decimal, Option, None}
use Rattle.std.proofs.Common.{Some, refl, sym, subst, arith}
use Rattle.std.proofs.lemmas.List.{length-append}
use Rattle.std.specs.Fmt.{digit_glyph, digits, digits_onto}
use Rattle.std.specs.List.{AllByRecursion}
use Rattle.std.specs.Prelude.{is_some, ◌/◌, ◌%◌}
use Rattle.open_items.specs.declared.lost.LostKind.TheVariants.{DeliveryLost}
use Rattle.consume_path.specs.Deliveries as on
use Rattle.consume_path.specs.Deliveries.{DeliveryEvent, DeliveryState}
use Rattle.consume_path.specs.Items as items
use Rattle.consume_path.specs.Items.{needs_content, new_delivery, trimmed}
use Rattle.consume_path.specs.Links as links
use Rattle.consume_path.specs.Links.{has_number, link_of, new_link, recount, tag_in}
use Rattle.consume_path.specs.Offers.{content_in, content_of as content_at, has_content}
use Rattle.consume_path.specs.declared.delivery.Arriving.{Arriving}
use Rattle.consume_path.specs.declared.delivery.Content.{Content}
use Rattle.consume_path.specs.declared.delivery.Delivery.{Delivery}
use Rattle.consume_path.specs.declared.receiving.ReceivingLink.{ReceivingLink}
use Rattle.consume_path.specs.declared.receiving.RecvKind.{RecvKind}
use Rattle.consume_path.specs.declared.receiving.RecvKind.TheVariants as kind
use Rattle.session_path.specs.Due.{next_name, or_no_name}
use Rattle.session_path.specs.Events as event
use Rattle.session_path.specs.Events.{PathEvent, after_events, deliveries_of, delivery_events, gets}
use Rattle.session_path.specs.Laws.{IsBackOf, begun_names, named_by, names_owed, queue_in}
use Rattle.session_path.specs.Path.{is_answered, name_in, PathState, first_of, free_from, numbered_tag, tag_for}
use Rattle.session_path.specs.declared.path.Awaited.{Awaited}
use Rattle.session_path.specs.Links.{asked_by}
use Rattle.session_path.specs.declared.path.AttachHeard.{AttachHeard}
use Rattle.session_path.specs.declared.path.PathLink.{PathLink}
use Rattle.gate_model.proofs.Basics.{all_both}
use Rattle.gate_model.proofs.Brought.{OfEvent, event_all, is_mild}
use Rattle.gate_model.proofs.Fitting.{AreFit, fit_more}
use Rattle.gate_model.proofs.Reports.{DeliveriesAre}

-- ---- of all of a list

all_mapped : {A B : Type 0} (P : A → Type 0) (Q : B → Type 0) (f : A → B) (xs : List A) → ((x : A) → P x → Q (f x)) → AllByRecursion P xs → AllByRecursion Q (map f xs)
all_mapped P Q f [] is a = tt
all_mapped P Q f (x ∷ xs) is a = (is x a.0, all_mapped P Q f xs is a.1)

pub all_left : {A : Type 0} (P : A → Type 0) (t : A → Bool) (xs : List A) → AllByRecursion P xs → AllByRecursion P (filter t xs)
all_left P t [] a = tt
all_left P t (x ∷ xs) a = by (t x) (all_left P t xs a.1)
  where
    by : (b : Bool) → AllByRecursion P (filter t xs) → AllByRecursion P (cond b (x ∷ filter t xs) (filter t xs))
    by true rest = (a.0, rest)
    by false rest = rest

all_changed : {A : Type 0} (P : A → Type 0) (t : A → Bool) (f : A → A) (xs : List A) → ((x : A) → P x → P (f x)) → AllByRecursion P xs
    → AllByRecursion P (links.change_first t f xs)
all_changed P t f [] is a = tt
all_changed P t f (x ∷ xs) is a = by (t x) (all_changed P t f xs is a.1)
  where
    by : (b : Bool) → AllByRecursion P (links.change_first t f xs) → AllByRecursion P (if b then f x ∷ xs else x ∷ links.change_first t f xs)
    by true rest = (is x a.0, a.1)
    by false rest = (a.0, rest)

-- what is found
abbrev pub IfThere : {A : Type 0} → (A → Type 0) → Option A → Type 0
IfThere P None = Unit {0}
IfThere P (Some x) = P x

pub all_found : {A : Type 0} (P : A → Type 0) (t : A → Bool) (xs : List A) → AllByRecursion P xs → IfThere P (find t xs)
all_found P t [] a = tt
all_found P t (x ∷ xs) a = by (t x) (all_found P t xs a.1)
  where
    by : (b : Bool) → IfThere P (find t xs) → IfThere P (cond b (Some x) (find t xs))
    by true rest = a.0
    by false rest = rest

all_more : {A : Type 0} (P Q : A → Type 0) (xs : List A) → ((x : A) → P x → Q x) → AllByRecursion P xs → AllByRecursion Q xs
all_more P Q [] is a = tt
all_more P Q (x ∷ xs) is a = (is x a.0, all_more P Q xs is a.1)

-- ---- deliveries

-- a content has short names, and frames within a limit
pub record IsFit (l : ℕ) (c : Content) : Type 0 where
  pub exchange : length c.exchange ≤ 255
  pub key : length c.key ≤ 255
  pub frames : AreFit l c.frames

abbrev pub IfFit : ℕ → Option Content → Type 0
IfFit l None = Unit {0}
IfFit l (Some c) = IsFit l c

abbrev pub IsShort : RecvKind → Type 0
IsShort (kind.Consumer tag no_ack) = length tag ≤ 255
IsShort kind.Get = Unit {0}
IsShort kind.Probe = Unit {0}

abbrev HasShort : ReceivingLink → Type 0
HasShort l = IsShort l.kind

abbrev HasFit : ℕ → Delivery → Type 0
HasFit l d = IfFit l d.content

pub record AreDeliverable (l : ℕ) (s : DeliveryState) : Type 0 where
  pub links : AllByRecursion HasShort s.links
  pub list : AllByRecursion (HasFit l) s.list

trimmed_fits : (l : ℕ) (d : Delivery) → HasFit l d → HasFit l (trimmed d)
trimmed_fits l d f = by (needs_content d)
  where
    by : (b : Bool) → IfFit l (if b then d.content else None)
    by true = f
    by false = tt

counted : (list : List Delivery) (ls : List ReceivingLink) → AllByRecursion HasShort ls → AllByRecursion HasShort (map (recount list) ls)
counted list ls a = all_mapped HasShort HasShort (recount list) ls (λ k x. x) a

-- each link changes, and keeps its kind
abbrev KeepsKind : (ReceivingLink → ReceivingLink) → Type 0
KeepsKind f = (k : ReceivingLink) → IsShort k.kind → IsShort (f k).kind

linked : (f : ReceivingLink → ReceivingLink) (ls : List ReceivingLink) → KeepsKind f → AllByRecursion HasShort ls → AllByRecursion HasShort (map f ls)
linked f ls is a = all_mapped HasShort HasShort f ls is a

-- each delivery changes, and keeps its content
abbrev KeepsContent : (Delivery → Delivery) → Type 0
KeepsContent f = (l : ℕ) (d : Delivery) → HasFit l d → HasFit l (f d)

delivers : (l : ℕ) (f : Delivery → Delivery) (s : DeliveryState) → KeepsContent f → AreDeliverable l s → AreDeliverable l (on.each f s)
delivers l f s is a = record {
  links = counted (filter items.is_open (map (λ d. trimmed (f d)) s.list)) s.links a.links;
  list = all_left (HasFit l) items.is_open (map (λ d. trimmed (f d)) s.list)
      (all_mapped (HasFit l) (HasFit l) (λ d. trimmed (f d)) s.list (λ d x. trimmed_fits l (f d) (is l d x)) a.list);
}

on_links : (l : ℕ) (f : ReceivingLink → ReceivingLink) (s : DeliveryState) → KeepsKind f → AreDeliverable l s → AreDeliverable l (on.each_link f s)
on_links l f s is a = record { links = linked f s.links is a.links; list = a.list }

-- an event that brings neither a long tag nor a frame past the limit
abbrev pub IsGoodOn : ℕ → DeliveryEvent → Type 0
IsGoodOn l (on.LinkAdded link k) = IsShort k
IsGoodOn l (on.Arrived arriving content again) = IfFit l content
IsGoodOn l x = Unit {0}

-- one that arrived, with its content
abbrev arrived_as : Bool → ℕ → Arriving → Option Content → Bool → Delivery
arrived_as closed number a content again = record {
  number = number;
  link = Some a.link;
  id = a.id;
  settled = a.settled;
  again = again;
  content = content;
  taker = a.taker;
  tag = 0;
  place = items.first_place closed (is_some content) a.settled a.taker;
  writing = false;
  at_risk = a.settled && not closed;
  line = if a.settled && closed then Some DeliveryLost else None;
}

arrived_fits : (l : ℕ) (closed : Bool) (number : ℕ) (a : Arriving) (content : Option Content) (again : Bool) → IfFit l content
    → HasFit l (new_delivery closed number a content again)
arrived_fits l closed number a content again f = trimmed_fits l (arrived_as closed number a content again) f

stays_good : (l : ℕ) (x : DeliveryEvent) (s : DeliveryState) → IsGoodOn l x → AreDeliverable l s → AreDeliverable l (on.after_event x s)
stays_good l (on.LinkAdded link k) s g a = record {
  links = counted s.list _ (all_both HasShort s.links (new_link link k s.prefetch ∷ []) a.links (g, tt));
  list = a.list;
}
stays_good l (on.LinkAttached link count) s g a = on_links l (links.link_attached link count) s (λ k x. x) a
stays_good l (on.LinkFlowed link count) s g a = on_links l (links.link_flowed link count) s (λ k x. x) a
stays_good l (on.LinkEchoed link) s g a = on_links l (links.link_echoed link) s (λ k x. x) a
stays_good l (on.GetCame link no_ack) s g a =
    on_links l (links.link_waits link (s.gets + 1) no_ack) (record s { gets = s.gets + 1 }) (λ k x. x) (record { links = a.links; list = a.list })
stays_good l (on.TransferCame link part payload) s g a = record {
  links = counted s.list _ (all_changed HasShort (has_number link) (links.transfer_came part payload) s.links (λ k x. x) a.links);
  list = a.list;
}
stays_good l (on.Arrived arriving content again) s g a = record {
  links = counted (s.list ++ new_delivery s.closed (s.arrived + 1) arriving content again ∷ []) _
      (linked (links.taken_from arriving.link (is_some content)) s.links (λ k x. x) a.links);
  list = all_both (HasFit l) s.list (new_delivery s.closed (s.arrived + 1) arriving content again ∷ []) a.list
      (arrived_fits l s.closed (s.arrived + 1) arriving content again g, tt);
}
stays_good l (on.LinkDropped link) s g a =
    delivers l (items.link_dropped link) (record s { links = links.without link s.links }) (λ m d x. x)
    (record { links = all_left HasShort _ s.links a.links; list = a.list })
stays_good l (on.Delivered number) s g a =
    delivers l (items.delivered number (s.tags + 1)) (record s { tags = s.tags + 1 }) (λ m d x. x) (record { links = a.links; list = a.list })
stays_good l (on.Written tag) s g a = delivers l (items.written tag) s (λ m d x. x) a
stays_good l (on.Answered tag multiple settle) s g a = delivers l (items.answered tag multiple settle) s (λ m d x. x) a
stays_good l (on.Cancelled link) s g a =
    delivers l (items.cancelled link) (on.each_link (links.link_cancelled link) s) (λ m d x. x) (on_links l (links.link_cancelled link) s (λ k x. x) a)
stays_good l on.Closed s g a =
    delivers l items.closed (on.each_link links.link_closed (record s { closed = true })) (λ m d x. x)
    (on_links l links.link_closed (record s { closed = true }) (λ k x. x) (record { links = a.links; list = a.list }))
stays_good l on.EndLost s g a = delivers l items.end_lost s (λ m d x. x) a
stays_good l (on.PrefetchSet count) s g a = record { links = a.links; list = a.list }
stays_good l (on.GlobalSet count) s g a = record { links = a.links; list = a.list }
stays_good l (on.SettleSent settle) s g a = delivers l (items.settle_sent settle) s (λ m d x. x) a
stays_good l (on.GrantSent grant) s g a = on_links l (links.flow_sent grant.link grant.credit grant.cause) s (λ k x. x) a
stays_good l (on.Emptied link) s g a = on_links l (links.get_emptied link) s (λ k x. x) a
stays_good l on.LinesTold s g a = delivers l items.reported s (λ m d x. x) a

good_after : (l life : ℕ) (h : List DeliveryEvent) → AllByRecursion (IsGoodOn l) h → AreDeliverable l (on.after_events life h)
good_after l life [] a = record { links = tt; list = tt }
good_after l life (x ∷ h) a = stays_good l x (on.after_events life h) a.0 (good_after l life h a.1)

-- ---- events of the channel

-- of which each tag that a client asks for is short, and each content that arrives fits
abbrev pub IsGood : ℕ → PathEvent → Type 0
IsGood l (event.Consumed address tag no_ack no_wait) = length tag ≤ 255
IsGood l (event.CancelCame tag no_wait) = length tag ≤ 255
IsGood l (event.Declared queue no_wait) = length queue ≤ 255
IsGood l (event.TransferCame peer part payload image again) = IfFit l image
IsGood l x = Unit {0}

fit_still : (l m : ℕ) (o : Option Content) → l ≤ m → IfFit l o → IfFit m o
fit_still l m None le f = tt
fit_still l m (Some c) le f = record { exchange = f.exchange; key = f.key; frames = fit_more l m c.frames le f.frames }

good_still : (l m : ℕ) (x : PathEvent) → l ≤ m → IsGood l x → IsGood m x
good_still l m (event.Consumed address tag no_ack no_wait) le g = g
good_still l m (event.CancelCame tag no_wait) le g = g
good_still l m (event.Declared queue no_wait) le g = g
good_still l m (event.TransferCame peer part payload image again) le g = fit_still l m image le g
good_still l m x le g = tt

pub all_still : (l m : ℕ) (es : List PathEvent) → l ≤ m → AllByRecursion (IsGood l) es → AllByRecursion (IsGood m) es
all_still l m es le a = all_more (IsGood l) (IsGood m) es (λ x g. good_still l m x le g) a

-- a number has few digits
digits_few : (k base : ℕ) (upper : Bool) (n : ℕ) (acc : List ℕ) → length (digits_onto k base upper n acc) ≤ k + length acc
digits_few zero base upper n acc = omega arith
digits_few (suc k) base upper n acc = by (n / base == 0) (digits_few k base upper (n / base) (digit_glyph upper (n % base) ∷ acc))
  where
    by : (b : Bool) → length (digits_onto k base upper (n / base) (digit_glyph upper (n % base) ∷ acc)) ≤ k + length (digit_glyph upper (n % base) ∷ acc)
        → length (if b then digit_glyph upper (n % base) ∷ acc else digits_onto k base upper (n / base) (digit_glyph upper (n % base) ∷ acc)) ≤ suc k + length acc
    by true e = omega arith
    by false e = omega (arith, e)

pub decimal_few : (n : ℕ) → length (decimal n) ≤ 64
unfolding digits
decimal_few n = let few : length (digits_onto 64 10 false n []) ≤ 64 + 0 = digits_few 64 10 false n [] in omega (arith, few)

numbered_short : (n : ℕ) → length (numbered_tag n) ≤ 255
numbered_short n =
    let long : length (codes "ctag-" ++ decimal n) ≡ length (codes "ctag-") + length (decimal n) = length-append (codes "ctag-") (decimal n) in
    let five : length (codes "ctag-") ≡ 5 = refl in
    omega (arith, long, five, decimal_few n)

tag_short : (tag : List ℕ) (ls : List ReceivingLink) → length tag ≤ 255 → length (tag_for tag ls) ≤ 255
tag_short [] ls e = numbered_short (free_from (length ls) 1 ls)
tag_short (c ∷ tag) ls e = e

mild_good : (l : ℕ) (d : DeliveryEvent) → is_mild d ≡ true → IsGoodOn l d
mild_good l (on.LinkAdded link k) e = absurd cc
mild_good l (on.Arrived a content again) e = absurd cc
mild_good l d e = tt

others_good : (l : ℕ) (s : PathState) (x : PathEvent) → IsGood l x → OfEvent (IsGoodOn l) s x
others_good l s (event.Consumed address tag no_ack no_wait) g = tag_short tag s.deliveries.links g
others_good l s (event.TransferCame peer part payload image again) g = λ link d. g
others_good l s event.UpLost g = (tt, tt)
others_good l s x g = tt

events_good : (l life : ℕ) (es : List PathEvent) → AllByRecursion (IsGood l) es → AllByRecursion (IsGoodOn l) (deliveries_of life es)
events_good l life [] a = tt
events_good l life (x ∷ es) a =
    all_both (IsGoodOn l) (delivery_events (after_events life es) x) (deliveries_of life es) (event_all (IsGoodOn l) (mild_good l) (after_events life es) x (others_good l (after_events life es) x a.0)) (events_good l life es a.1)

-- so what a path has of deliveries can go
pub deliverable : DeliveriesAre → (l life : ℕ) (es : List PathEvent) → AllByRecursion (IsGood l) es → AreDeliverable l (after_events life es).deliveries
deliverable arrives l life es a = subst (AreDeliverable l) (sym (arrives life es)) (good_after l life (deliveries_of life es) (events_good l life es a))

-- ---- the tag of a consumer

link_short : (o : Option ReceivingLink) → IfThere HasShort o → length (tag_in o) ≤ 255
link_short None f = omega arith
link_short (Some k) f = by k.kind f
  where
    by : (x : RecvKind) → IsShort x → length (links.tag_by x) ≤ 255
    by (kind.Consumer tag no_ack) g = g
    by kind.Get g = omega arith
    by kind.Probe g = omega arith

pub consumer_short : (l link : ℕ) (s : DeliveryState) → AreDeliverable l s → length (tag_in (link_of s.links link)) ≤ 255
consumer_short l link s a = link_short (link_of s.links link) (all_found HasShort (has_number link) s.links a.links)

-- ---- the names that go back

-- with answers that wait to go
abbrev pub NamesGoBack : Type 0
NamesGoBack = (life : ℕ) (h : List PathEvent) → IsBackOf (after_events life h).names (names_owed life h)

abbrev IsName : List ℕ → Type 0
IsName name = length name ≤ 255

queue_short : (l : ℕ) (es : List PathEvent) → AllByRecursion (IsGood l) es → IsName (queue_in es)
queue_short l [] a = omega arith
queue_short l (event.Declared queue no_wait ∷ es) a = a.0
queue_short l (x ∷ es) a = queue_short l es a.1

name_in_short : (l : ℕ) (w : Option Awaited) (queue : List ℕ) (d : DeliveryState) → IsName queue → AreDeliverable l d → IsName (name_in w queue d)
name_in_short l None queue d q a = omega arith
name_in_short l (Some w) queue d q a = by w.declares
  where
    by : (b : Bool) → IsName (if b then queue else tag_in (link_of d.links w.link))
    by true = q
    by false = consumer_short l w.link d a

begun_short : (o : Option PathLink) (a : AttachHeard) (w : Option Awaited) (queue : List ℕ) (d : DeliveryState) → IsName (name_in w queue d)
    → AllByRecursion IsName (begun_names o a w queue d)
begun_short None a w queue d g = tt
begun_short (Some k) a w queue d g = by (k.receives && a.there) (is_answered k.link w)
  where
    by : (b c : Bool) → AllByRecursion IsName (if b then (if c then name_in w queue d ∷ [] else []) else [])
    by true true = (g, tt)
    by true false = tt
    by false c = tt

event_names : (l : ℕ) (s : PathState) (queue : List ℕ) (x : PathEvent) → IsName queue → AreDeliverable l s.deliveries → IsGood l x
    → AllByRecursion IsName (named_by s queue x)
event_names l s queue (event.CancelCame tag true) q d g = tt
event_names l s queue (event.CancelCame tag false) q d g = (g, tt)
event_names l s queue (event.AttachCame a) q d g =
    begun_short (asked_by a s.links) a s.awaited queue s.deliveries (name_in_short l s.awaited queue s.deliveries q d)
event_names l s queue x q d g = tt

names_short : DeliveriesAre → (l life : ℕ) (es : List PathEvent) → AllByRecursion (IsGood l) es → AllByRecursion IsName (names_owed life es)
names_short arrives l life [] a = tt
names_short arrives l life (x ∷ es) a =
    all_both IsName (names_owed life es) (named_by (after_events life es) (queue_in es) x) (names_short arrives l life es a.1)
    (event_names l (after_events life es) (queue_in es) x (queue_short l es a.1) (deliverable arrives l life es a.1) a.0)

all_behind : {A : Type 0} (P : A → Type 0) (xs ys : List A) → AllByRecursion P (xs ++ ys) → AllByRecursion P ys
all_behind P [] ys a = a
all_behind P (x ∷ xs) ys a = all_behind P xs ys a.1

first_short : (names : List (List ℕ)) → AllByRecursion IsName names → length (or_no_name (first_of names)) ≤ 255
first_short [] a = omega arith
first_short (name ∷ names) a = a.0

pub name_short : NamesGoBack → DeliveriesAre → (l life : ℕ) (es : List PathEvent) → AllByRecursion (IsGood l) es → length (next_name (after_events life es)) ≤ 255
name_short names arrives l life es a =
    let back : IsBackOf (after_events life es).names (names_owed life es) = names life es in
    first_short (after_events life es).names
    (all_behind IsName back.0 (after_events life es).names (subst (AllByRecursion IsName) (sym back.1) (names_short arrives l life es a)))

-- ---- what goes

found_fits : (l : ℕ) (o : Option Delivery) → IfThere (HasFit l) o → IfFit l (content_in o)
found_fits l None f = tt
found_fits l (Some d) f = f

pub content_fits : (l id : ℕ) (s : DeliveryState) → AreDeliverable l s → IfFit l (content_at id s.list)
content_fits l id s a = found_fits l (find (has_content id) s.list) (all_found (HasFit l) (has_content id) s.list a.list)
