-- What holds of each delivery in the journal alone.
use Rattle.std.proofs.Common.{◌≡◌, ◌∙◌, ℕ, ◌+◌, ◌^◌, ◌≤◌, ◌<◌, List, [], ◌∷◌, Bool, true, false}
use Rattle.std.proofs.Common.{refl, sym, ap, subst, arith, Option, Some, None, cond}
use Rattle.std.specs.Prelude.{not, ◌&&◌, ◌||◌, ◌==◌, is_some}
use Rattle.std.specs.Option.{option_or}
use Rattle.std.proofs.lemmas.Bool.Decides.{nat_tests}
use Rattle.consume_path.specs.declared.delivery.Arriving.{Arriving}
use Rattle.consume_path.specs.declared.delivery.Content.{Content}
use Rattle.consume_path.specs.declared.delivery.NextSettle.{NextSettle}
use Rattle.consume_path.specs.declared.delivery.Settle.{Settle}
use Rattle.consume_path.specs.declared.delivery.Settle.TheVariants.{Accepted, Rejected, Released}
use Rattle.consume_path.specs.Items.{is_nobody}
use Rattle.consume_path.specs.Deliveries.{DeliveryEvent, LinkAdded, LinkAttached, LinkFlowed}
use Rattle.consume_path.specs.Deliveries.{LinkEchoed, GetCame, TransferCame, Arrived, LinkDropped}
use Rattle.consume_path.specs.Deliveries.{Delivered, Written, Answered, Cancelled, Closed, EndLost}
use Rattle.consume_path.specs.Deliveries.{PrefetchSet, GlobalSet, SettleSent, GrantSent, Emptied}
use Rattle.consume_path.specs.Deliveries.{LinesTold}
use Rattle.consume_path.specs.Journal.{Fate, fate_step, fate_of, new_fate, numbers_of}
use Rattle.consume_path.specs.Journal.{is_closed, IsTaken, caused, waits, is_written, is_owed}
use Rattle.consume_path.specs.Journal.{is_uncovered}
use Rattle.consume_path.specs.Laws.{holds_id, AreFresh}
use Rattle.consume_path.proofs.Keeping.{or_into, or_one, or_two, caused_some, needs_caused}
use Rattle.consume_path.proofs.Keeping.{needs_delivered, needs_written, needs_lost}

-- its image, and its closing

pub record Sound (h : List DeliveryEvent) (f : Fate) : Type 0 where
  -- what nothing settles has an image
  pub image : is_some f.due ≡ false → is_some f.content ≡ true
  -- once the life closed, something settles it
  pub shut : is_closed h ≡ true → is_some f.due ≡ true

arrived_sound : (a : Arriving) (content : Option Content) (again : Bool) (h : List DeliveryEvent) → Sound (Arrived a content again ∷ h) (new_fate (is_closed h) a content again)
arrived_sound a content again h = record {
  image = pick (is_closed h) (is_some content) (is_nobody a.taker);
  shut = all (is_closed h) (is_some content) (is_nobody a.taker);
}
  where
    pick : (z i n : Bool) → is_some (cond i (cond (z || n) (Some Released) None) (Some Rejected)) ≡ false → i ≡ true
    pick z true n e = refl
    pick z false n e = absurd (cc)

    all : (z i n : Bool) → z ≡ true → is_some (cond i (cond (z || n) (Some Released) None) (Some Rejected)) ≡ true
    all true true n e = refl
    all true false n e = refl
    all false i n e = absurd (cc)

more_due : (on : Bool) (s : Settle) (h : List DeliveryEvent) (f later : Fate) → Sound h f → later.due ≡ caused on s f.due → later.content ≡ f.content → (x : DeliveryEvent) → is_closed (x ∷ h) ≡ is_closed h → Sound (x ∷ h) later
more_due on s h f later sd due content x same = record {
  image = λ none. ap is_some content ∙ sd.image (less on f.due (ap is_some (sym due) ∙ none));
  shut = λ is. ap is_some due ∙ caused_some on s f.due (sd.shut (sym same ∙ is));
}
  where
    less : (on : Bool) (o : Option Settle) → is_some (caused on s o) ≡ false → is_some o ≡ false
    less true None e = refl
    less true (Some t) e = e
    less false o e = e

closed_due : (due : Option Settle) → is_some (option_or due (Some Released)) ≡ true
closed_due None = refl
closed_due (Some s) = refl

pub taken_before : (n m : ℕ) → n ≤ m + 1 → (n == m + 1) ≡ false → n ≤ m
taken_before n m le other = grind (arith, nat_tests)

pub sound : (h : List DeliveryEvent) (n : ℕ) → IsTaken h n → Sound h (fate_of n h)
sound [] n taken = let low = taken.0 in let high = taken.1 in absurd (omega arith)
sound (LinkAdded link kind ∷ h) n taken = let s = sound h n taken in record { image = s.image; shut = s.shut }
sound (LinkAttached link count ∷ h) n taken = let s = sound h n taken in record { image = s.image; shut = s.shut }
sound (LinkFlowed link count ∷ h) n taken = let s = sound h n taken in record { image = s.image; shut = s.shut }
sound (LinkEchoed link ∷ h) n taken = let s = sound h n taken in record { image = s.image; shut = s.shut }
sound (GetCame link no_ack ∷ h) n taken = let s = sound h n taken in record { image = s.image; shut = s.shut }
sound (TransferCame link part payload ∷ h) n taken = let s = sound h n taken in record { image = s.image; shut = s.shut }
sound (Arrived a content again ∷ h) n taken = by (n == numbers_of h + 1) refl (λ before. sound h n before)
  where
    by : (b : Bool) → (n == numbers_of h + 1) ≡ b → (IsTaken h n → Sound h (fate_of n h)) → Sound (Arrived a content again ∷ h) (cond b (new_fate (is_closed h) a content again) (fate_of n h))
    by true e ih = arrived_sound a content again h
    by false e ih = let s = ih (taken.0, taken_before n (numbers_of h) taken.1 e) in record { image = s.image; shut = s.shut }
sound (LinkDropped link ∷ h) n taken = let s = sound h n taken in record { image = s.image; shut = s.shut }
sound (Delivered number ∷ h) n taken = let s = sound h n taken in record { image = s.image; shut = s.shut }
sound (Written tag ∷ h) n taken = more_due _ Accepted h (fate_of n h) _ (sound h n taken) refl refl (Written tag) refl
sound (Answered tag multiple s ∷ h) n taken = more_due _ s h (fate_of n h) _ (sound h n taken) refl refl (Answered tag multiple s) refl
sound (Cancelled link ∷ h) n taken = more_due _ Released h (fate_of n h) _ (sound h n taken) refl refl (Cancelled link) refl
sound (Closed ∷ h) n taken = record {
  image = λ none. absurd (let all : is_some (option_or (fate_of n h).due (Some Released)) ≡ true = closed_due (fate_of n h).due in cc);
  shut = λ is. closed_due (fate_of n h).due;
}
sound (EndLost ∷ h) n taken = let s = sound h n taken in record { image = s.image; shut = s.shut }
sound (PrefetchSet count ∷ h) n taken = let s = sound h n taken in record { image = s.image; shut = s.shut }
sound (GlobalSet count ∷ h) n taken = let s = sound h n taken in record { image = s.image; shut = s.shut }
sound (SettleSent s ∷ h) n taken = let sd = sound h n taken in record { image = sd.image; shut = sd.shut }
sound (GrantSent grant ∷ h) n taken = let s = sound h n taken in record { image = s.image; shut = s.shut }
sound (Emptied link ∷ h) n taken = let s = sound h n taken in record { image = s.image; shut = s.shut }
sound (LinesTold ∷ h) n taken = let s = sound h n taken in record { image = s.image; shut = s.shut }

-- delivery-ids

pub uncovered_holds : (f : Fate) → is_uncovered f ≡ true → holds_id f ≡ true
uncovered_holds f e = or_two (waits f || is_written f) (is_uncovered f) e

pub needed_holds : (f : Fate) → (waits f || is_written f) ≡ true → holds_id f ≡ true
needed_holds f e = or_one (waits f || is_written f) (is_uncovered f) e

pub owed_uncovered : (f : Fate) → is_owed f ≡ true → is_uncovered f ≡ true
owed_uncovered f e = by (is_some f.due) f.settled f.sent f.left e
  where
    by : (d s t l : Bool) → (((d && not s) && not t) && not l) ≡ true → ((not s && not t) && not l) ≡ true
    by true s t l e = e
    by false s t l e = absurd (cc)

-- an event by which no more hold their ids, and that changes none
pub record Keeps (h : List DeliveryEvent) (x : DeliveryEvent) : Type 0 where
  pub count : numbers_of (x ∷ h) ≡ numbers_of h
  pub id : (n : ℕ) (f : Fate) → (fate_step n h x f).id ≡ f.id
  pub less : (n : ℕ) (f : Fate) → holds_id (fate_step n h x f) ≡ true → holds_id f ≡ true

needs_less : (n : ℕ) (f later : Fate) → ((waits later || is_written later) ≡ true → (waits f || is_written f) ≡ true) → (is_uncovered later ≡ true → is_uncovered f ≡ true) → holds_id later ≡ true → holds_id f ≡ true
needs_less n f later needs uncovered e = or_into (waits later || is_written later) (is_uncovered later) (holds_id f) (λ a. needed_holds f (needs a)) (λ a. uncovered_holds f (uncovered a)) e

left_less : (s t l u : Bool) → ((not s && not t) && not (l || u)) ≡ true → ((not s && not t) && not l) ≡ true
left_less true t l u e = absurd (cc)
left_less false true l u e = absurd (cc)
left_less false false true u e = absurd (cc)
left_less false false false u e = refl

sent_less : (s t l u : Bool) → ((not s && not (t || u)) && not l) ≡ true → ((not s && not t) && not l) ≡ true
sent_less true t l u e = absurd (cc)
sent_less false true l u e = absurd (cc)
sent_less false false l true e = absurd (cc)
sent_less false false l false e = e

pub keeps_delivered : (h : List DeliveryEvent) (number : ℕ) → Keeps h (Delivered number)
keeps_delivered h number = record { count = refl; id = λ n f. refl; less = λ n f e. needs_less n f (fate_step n h (Delivered number) f) (needs_delivered number n h f) (λ a. a) e }

pub keeps_written : (h : List DeliveryEvent) (tag : ℕ) → Keeps h (Written tag)
keeps_written h tag = record { count = refl; id = λ n f. refl; less = λ n f e. needs_less n f (fate_step n h (Written tag) f) (needs_written tag n h f) (λ a. a) e }

pub keeps_answered : (h : List DeliveryEvent) (tag : ℕ) (multiple : Bool) (s : Settle) → Keeps h (Answered tag multiple s)
keeps_answered h tag multiple s = record { count = refl; id = λ n f. refl; less = λ n f e. needs_less n f (fate_step n h (Answered tag multiple s) f) (needs_caused _ s f) (λ a. a) e }

pub keeps_cancelled : (h : List DeliveryEvent) (link : ℕ) → Keeps h (Cancelled link)
keeps_cancelled h link = record { count = refl; id = λ n f. refl; less = λ n f e. needs_less n f (fate_step n h (Cancelled link) f) (needs_caused _ Released f) (λ a. a) e }

pub keeps_closed : (h : List DeliveryEvent) → Keeps h Closed
keeps_closed h = record { count = refl; id = λ n f. refl; less = λ n f e. needs_less n f (fate_step n h Closed f) (needs_caused true Released f) (λ a. a) e }

pub keeps_lost : (h : List DeliveryEvent) → Keeps h EndLost
keeps_lost h = record { count = refl; id = λ n f. refl; less = λ n f e. needs_less n f (fate_step n h EndLost f) (needs_lost n h f) (left_less f.settled f.sent f.left (is_uncovered f)) e }

pub keeps_sent : (h : List DeliveryEvent) (s : NextSettle) → Keeps h (SettleSent s)
keeps_sent h s = record { count = refl; id = λ n f. refl; less = λ n f e. needs_less n f (fate_step n h (SettleSent s) f) (λ a. a) (sent_less f.settled f.sent f.left _) e }

abbrev InRange : List DeliveryEvent → Type 0
InRange h = (n : ℕ) → IsTaken h n → (fate_of n h).id < 2 ^ 32

-- no two that hold it have one id
abbrev Unique : List DeliveryEvent → Type 0
Unique h = (m n : ℕ) → IsTaken h m → IsTaken h n → holds_id (fate_of m h) ≡ true → holds_id (fate_of n h) ≡ true → (fate_of m h).id ≡ (fate_of n h).id → m ≡ n

keep_range : (h : List DeliveryEvent) (x : DeliveryEvent) → Keeps h x → InRange h → InRange (x ∷ h)
keep_range h x k r n taken = subst (λ i. i < 2 ^ 32) (sym (k.id n (fate_of n h))) (r n (taken.0, subst (λ m. n ≤ m) k.count taken.1))

keep_unique : (h : List DeliveryEvent) (x : DeliveryEvent) → Keeps h x → Unique h → Unique (x ∷ h)
keep_unique h x k u m n a b e f same =
    u m n (a.0, subst (λ i. m ≤ i) k.count a.1) (b.0, subst (λ i. n ≤ i) k.count b.1) (k.less m (fate_of m h) e) (k.less n (fate_of n h) f)
    (sym (k.id m (fate_of m h)) ∙ same ∙ k.id n (fate_of n h))

equal : (i j : ℕ) → (i == j) ≡ true → i ≡ j
equal i j e = grind (arith, nat_tests)

arrived_range : (a : Arriving) (content : Option Content) (again : Bool) (h : List DeliveryEvent) → a.id < 2 ^ 32 → InRange h → InRange (Arrived a content again ∷ h)
arrived_range a content again h lt r n taken = by (n == numbers_of h + 1) refl
  where
    by : (b : Bool) → (n == numbers_of h + 1) ≡ b → (cond b (new_fate (is_closed h) a content again) (fate_of n h)).id < 2 ^ 32
    by true e = lt
    by false e = r n (taken.0, taken_before n (numbers_of h) taken.1 e)

arrived_unique : (a : Arriving) (content : Option Content) (again : Bool) (h : List DeliveryEvent) → ((n : ℕ) → IsTaken h n → holds_id (fate_of n h) ≡ true → (fate_of n h).id ≡ a.id → ⊥) → Unique h → Unique (Arrived a content again ∷ h)
arrived_unique a content again h fresh u m n s t = by (m == numbers_of h + 1) (n == numbers_of h + 1) refl refl
  where
    new : Fate
    new = new_fate (is_closed h) a content again

    by : (b c : Bool) → (m == numbers_of h + 1) ≡ b → (n == numbers_of h + 1) ≡ c → holds_id (cond b new (fate_of m h)) ≡ true → holds_id (cond c new (fate_of n h)) ≡ true → (cond b new (fate_of m h)).id ≡ (cond c new (fate_of n h)).id → m ≡ n
    by true true e f x y same = equal m (numbers_of h + 1) e ∙ sym (equal n (numbers_of h + 1) f)
    by true false e f x y same = absurd (fresh n (t.0, taken_before n (numbers_of h) t.1 f) y (sym same))
    by false true e f x y same = absurd (fresh m (s.0, taken_before m (numbers_of h) s.1 e) x same)
    by false false e f x y same = u m n (s.0, taken_before m (numbers_of h) s.1 e) (t.0, taken_before n (numbers_of h) t.1 f) x y same

-- both, at each event
record Ids (h : List DeliveryEvent) : Type 0 where
  range : InRange h
  one : Unique h

keep_ids : (h : List DeliveryEvent) (x : DeliveryEvent) → Keeps h x → Ids h → Ids (x ∷ h)
keep_ids h x k i = record { range = keep_range h x k i.range; one = keep_unique h x k i.one }

ids : (h : List DeliveryEvent) → AreFresh h → Ids h
ids [] fresh = record {
  range = λ n taken. let low = taken.0 in let high = taken.1 in absurd (omega arith);
  one = λ m n taken other e f same. let low = taken.0 in let high = taken.1 in absurd (omega arith);
}
ids (LinkAdded link kind ∷ h) fresh = let i = ids h fresh.1 in record { range = i.range; one = i.one }
ids (LinkAttached link count ∷ h) fresh = let i = ids h fresh.1 in record { range = i.range; one = i.one }
ids (LinkFlowed link count ∷ h) fresh = let i = ids h fresh.1 in record { range = i.range; one = i.one }
ids (LinkEchoed link ∷ h) fresh = let i = ids h fresh.1 in record { range = i.range; one = i.one }
ids (GetCame link no_ack ∷ h) fresh = let i = ids h fresh.1 in record { range = i.range; one = i.one }
ids (TransferCame link part payload ∷ h) fresh = let i = ids h fresh.1 in record { range = i.range; one = i.one }
ids (Arrived a content again ∷ h) fresh =
    let i = ids h fresh.1 in
    record { range = arrived_range a content again h fresh.0.0 i.range; one = arrived_unique a content again h fresh.0.1 i.one }
ids (LinkDropped link ∷ h) fresh = let i = ids h fresh.1 in record { range = i.range; one = i.one }
ids (Delivered number ∷ h) fresh = keep_ids h (Delivered number) (keeps_delivered h number) (ids h fresh.1)
ids (Written tag ∷ h) fresh = keep_ids h (Written tag) (keeps_written h tag) (ids h fresh.1)
ids (Answered tag multiple s ∷ h) fresh = keep_ids h (Answered tag multiple s) (keeps_answered h tag multiple s) (ids h fresh.1)
ids (Cancelled link ∷ h) fresh = keep_ids h (Cancelled link) (keeps_cancelled h link) (ids h fresh.1)
ids (Closed ∷ h) fresh = keep_ids h Closed (keeps_closed h) (ids h fresh.1)
ids (EndLost ∷ h) fresh = keep_ids h EndLost (keeps_lost h) (ids h fresh.1)
ids (PrefetchSet count ∷ h) fresh = let i = ids h fresh.1 in record { range = i.range; one = i.one }
ids (GlobalSet count ∷ h) fresh = let i = ids h fresh.1 in record { range = i.range; one = i.one }
ids (SettleSent s ∷ h) fresh = keep_ids h (SettleSent s) (keeps_sent h s) (ids h fresh.1)
ids (GrantSent grant ∷ h) fresh = let i = ids h fresh.1 in record { range = i.range; one = i.one }
ids (Emptied link ∷ h) fresh = let i = ids h fresh.1 in record { range = i.range; one = i.one }
ids (LinesTold ∷ h) fresh = let i = ids h fresh.1 in record { range = i.range; one = i.one }

pub ids_range : (h : List DeliveryEvent) → AreFresh h → (n : ℕ) → IsTaken h n → (fate_of n h).id < 2 ^ 32
ids_range h fresh = (ids h fresh).range

pub unique : (h : List DeliveryEvent) → AreFresh h → (m n : ℕ) → IsTaken h m → IsTaken h n → holds_id (fate_of m h) ≡ true → holds_id (fate_of n h) ≡ true → (fate_of m h).id ≡ (fate_of n h).id → m ≡ n
unique h fresh = (ids h fresh).one
