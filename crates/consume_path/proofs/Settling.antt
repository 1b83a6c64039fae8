-- The disposition that is offered is lawful, and one is offered wherever one is owed.
use Rattle.std.proofs.Common.{◌≡◌, ◌∙◌, ℕ, zero, suc, ◌+◌, ◌-◌, ◌^◌, ◌≤◌, ◌<◌, List, [], ◌∷◌}
use Rattle.std.proofs.Common.{Bool, true, false, refl, sym, ap, subst, arith, Option, Some, None, cond}
use Rattle.std.specs.Prelude.{not, ◌&&◌, ◌||◌, ◌==◌, find, is_some, IfSome, count_by}
use Rattle.std.specs.Option.{option_map}
use Rattle.std.specs.List.{list_any}
use Rattle.std.proofs.lemmas.Bool.{cases_eq}
use Rattle.std.proofs.lemmas.Bool.Decides.{nat_tests}
use Rattle.std.specs.Prelude.{◌⊎◌}
use Rattle.std.proofs.Common.{inl, inr}
use Rattle.links_10.specs.Send.{advanced, past}
use Rattle.open_items.specs.Numbers.{least}
use Rattle.open_items.proofs.Filtered.{all_find}
use Rattle.open_items.proofs.Counted.{least_passing, least_none}
use Rattle.consume_path.specs.declared.delivery.Delivery.{Delivery}
use Rattle.consume_path.specs.declared.delivery.NextSettle.{NextSettle}
use Rattle.consume_path.specs.declared.delivery.Settle.{Settle}
use Rattle.consume_path.specs.declared.delivery.Settle.TheVariants.{Accepted, Rejected, Released}
use Rattle.consume_path.specs.Items.{owes, owes_as, owed_settle, is_same, is_that, is_on, in_range, is_left}
use Rattle.consume_path.specs.Deliveries.{DeliveryEvent}
use Rattle.consume_path.specs.Deliveries.{after_events}
use Rattle.consume_path.specs.Offers.{owes_of, owes_id, run_to, run_from, settle_in, settle_from}
use Rattle.consume_path.specs.Offers.{next_settle_of, is_uncovered as uncovered_on, is_all_covered}
use Rattle.consume_path.specs.Journal.{Fate, fate_of, numbers_of}
use Rattle.consume_path.specs.Journal.{is_closed, IsTaken, is_owed}
use Rattle.consume_path.specs.Journal.{is_uncovered, is_to_come}
use Rattle.consume_path.specs.Laws.{AreFresh, IsOwed, IsLawfulSettle, first_owed}
use Rattle.consume_path.specs.Laws.{lacks_settle, are_covered}
use Rattle.consume_path.proofs.Matching.{Matches, owed_test, owed_cause, left_test}
use Rattle.consume_path.proofs.Fates.{ids_range, unique, sound, uncovered_holds, owed_uncovered}
use Rattle.consume_path.proofs.Keeping.{number_of, follows, Stands, stand, over_comes, and_two}
use Rattle.consume_path.proofs.Keeping.{and_one}

-- what some pass is found
pub any_found : {X : Type 0} (p : X → Bool) (xs : List X) → list_any p xs ≡ true → (x : X) × (find p xs ≡ Some x)
any_found p [] e = absurd (cc)
any_found {X} p (x ∷ xs) e = by (p x) refl e (any_found p xs)
  where
    by : (b : Bool) → p x ≡ b → (b || list_any p xs) ≡ true → (list_any p xs ≡ true → (y : X) × (find p xs ≡ Some y)) → (y : X) × (cond b (Some x) (find p xs) ≡ Some y)
    by true is e rec = (x, refl)
    by false is e rec = rec e

found_any : {X : Type 0} (p : X → Bool) (xs : List X) → list_any p xs ≡ is_some (find p xs)
found_any p [] = refl
found_any {X} p (x ∷ xs) = by (p x) (found_any p xs)
  where
    by : (b : Bool) → list_any p xs ≡ is_some (find p xs) → (b || list_any p xs) ≡ is_some (cond b (Some x) (find p xs))
    by true ih = refl
    by false ih = ih

some_map : {A B : Type 0} (f : A → B) (o : Option A) → is_some (option_map f o) ≡ is_some o
some_map f None = refl
some_map f (Some x) = refl

-- some open delivery passes where some fate does
pub any_passing : (life : ℕ) (h : List DeliveryEvent) (c : Delivery → Bool) (t : Fate → Bool) → ((d : Delivery) (f : Fate) → Matches d f → c d ≡ t f) → ((f : Fate) → t f ≡ true → is_to_come f ≡ true)
    → list_any c (after_events life h).list ≡ is_some (least (λ n. t (fate_of n h)) (numbers_of h))
any_passing life h c t same only =
    found_any c (after_events life h).list ∙ sym (some_map number_of (find c (after_events life h).list))
    ∙ ap is_some (least_passing number_of Matches is_to_come c t (λ n. fate_of n h) (numbers_of h) (after_events life h).list same only (follows life h))

-- what is owed is to come

owed_over : (d s t l : Bool) → (((d && not s) && not t) && not l) ≡ true → not (l || (d && (s || t))) ≡ true
owed_over false s t l e = absurd (cc)
owed_over true true t l e = absurd (cc)
owed_over true false true l e = absurd (cc)
owed_over true false false true e = absurd (cc)
owed_over true false false false e = refl

pub owed_comes : (f : Fate) → is_owed f ≡ true → is_to_come f ≡ true
owed_comes f e = over_comes f (owed_over (is_some f.due) f.settled f.sent f.left e)

uncovered_over : (d s t l : Bool) → ((not s && not t) && not l) ≡ true → not (l || (d && (s || t))) ≡ true
uncovered_over d true t l e = absurd (cc)
uncovered_over d false true l e = absurd (cc)
uncovered_over d false false true e = absurd (cc)
uncovered_over true false false false e = refl
uncovered_over false false false false e = refl

pub uncovered_comes : (f : Fate) → is_uncovered f ≡ true → is_to_come f ≡ true
uncovered_comes f e = over_comes f (uncovered_over (is_some f.due) f.settled f.sent f.left e)

-- the first one

settle_first : (list : List Delivery) (o : Option Delivery) → ((d : Delivery) → o ≡ Some d → owes d.place ≡ true) → option_map (λ (s : NextSettle). s.first) (settle_from list o) ≡ option_map (λ (d : Delivery). d.id) o
settle_first list None only = refl
settle_first list (Some d) only = by (owed_settle d.place) (only d refl)
  where
    by : (s : Option Settle) → is_some s ≡ true → option_map (λ (s : NextSettle). s.first) (settle_in list s d.id) ≡ Some d.id
    by None e = absurd (cc)
    by (Some s) e = refl

pub first_is : (life : ℕ) (h : List DeliveryEvent) → option_map (λ (s : NextSettle). s.first) (next_settle_of (after_events life h).list) ≡ first_owed h
first_is life h =
    settle_first list (find owing list) (λ d e. (all_find (Stands h) owing list d (stand life h) e).1)
    ∙ by (find owing list) refl
    ∙ ap (option_map (λ n. (fate_of n h).id)) (least_passing number_of Matches is_to_come owing is_owed (λ n. fate_of n h) (numbers_of h) list (λ d f m. owed_test d f m.core) owed_comes (follows life h))
  where
    owing : Delivery → Bool
    owing d = owes d.place

    list : List Delivery
    list = (after_events life h).list

    by : (o : Option Delivery) → find owing list ≡ o → option_map (λ (d : Delivery). d.id) o ≡ option_map (λ n. (fate_of n h).id) (option_map number_of o)
    by None e = refl
    by (Some d) e = ap Some (all_find (Stands h) owing list d (stand life h) e).0.matches.core.id

pub covered_is : (life link : ℕ) (h : List DeliveryEvent) → is_all_covered link (after_events life h).list ≡ are_covered link h
covered_is life link h = ap not (any_passing life h (uncovered_on link) (lacks_settle link) same (λ f e. uncovered_comes f (and_two (is_on link f.link) (is_uncovered f) e)))
  where
    same : (d : Delivery) (f : Fate) → Matches d f → uncovered_on link d ≡ lacks_settle link f
    same d f m = ap (λ l. is_on link l && is_left d) m.core.link ∙ ap (λ b. is_on link f.link && b) (left_test d f m.core)

-- the run

same_is : (s t : Settle) → is_same s t ≡ true → s ≡ t
same_is Accepted Accepted e = refl
same_is Accepted Rejected e = absurd (cc)
same_is Accepted Released e = absurd (cc)
same_is Rejected Accepted e = absurd (cc)
same_is Rejected Rejected e = refl
same_is Rejected Released e = absurd (cc)
same_is Released Accepted e = absurd (cc)
same_is Released Rejected e = absurd (cc)
same_is Released Released e = refl

that_is : (s : Settle) (o : Option Settle) → is_that s o ≡ true → o ≡ Some s
that_is s None e = absurd (cc)
that_is s (Some t) e = ap Some (sym (same_is s t e))

-- so many ids behind the first are owed this state
abbrev AllOwe : Settle → List Delivery → ℕ → ℕ → Type 0
AllOwe s list first m = (k : ℕ) → 1 ≤ k → k ≤ m → list_any (owes_id s (advanced first k)) list ≡ true

run_is : (n : ℕ) (s : Settle) (list : List Delivery) (first : ℕ) → first < 2 ^ 32 → (m : ℕ) × (run_to n s list first ≡ advanced first m) × AllOwe s list first m
run_is zero s list first lt = (0, omega arith, λ k up le. absurd (omega arith))
run_is (suc n) s list first lt = by (list_any (owes_id s (advanced first 1)) list) refl (run_is n s list (advanced first 1) (omega arith))
  where
    twice : (a k : ℕ) → advanced (advanced a 1) k ≡ advanced a (k + 1)
    twice a k = omega arith

    more : list_any (owes_id s (advanced first 1)) list ≡ true → (m : ℕ) → AllOwe s list (advanced first 1) m → AllOwe s list first (m + 1)
    more here m all k up le = split (cases_eq k 1)
      where
        split : ((k ≡ 1) ⊎ (k ≡ 1 → ⊥)) → list_any (owes_id s (advanced first k)) list ≡ true
        split (inl e) = subst (λ i. list_any (owes_id s (advanced first i)) list ≡ true) (sym e) here
        split (inr ne) =
            let back : advanced (advanced first 1) (k - 1) ≡ advanced first k = omega arith in
            subst (λ i. list_any (owes_id s i) list ≡ true) back (all (k - 1) (omega arith) (omega arith))

    by : (b : Bool) → list_any (owes_id s (advanced first 1)) list ≡ b → (m : ℕ) × (run_to n s list (advanced first 1) ≡ advanced (advanced first 1) m) × AllOwe s list (advanced first 1) m
        → (m : ℕ) × (cond b (run_to n s list (advanced first 1)) first ≡ advanced first m) × AllOwe s list first m
    by true is r = (r.0 + 1, r.1 ∙ twice first r.0, more is r.0 r.2)
    by false is r = (0, omega arith, λ k up le. absurd (omega arith))

-- an id in the range is some steps behind the first
steps_to : (first id m : ℕ) → first < 2 ^ 32 → id < 2 ^ 32 → in_range first (advanced first m) id ≡ true → (k : ℕ) × (id ≡ advanced first k) × (k ≤ m)
steps_to first id m lt within e =
    let le : past id first ≤ past (advanced first m) first = grind (arith, nat_tests) in
    (past id first, omega arith, omega arith)

-- a delivery that is owed a state, as the journal says
pub record OwedIs (h : List DeliveryEvent) (s : Settle) (id : ℕ) : Type 0 where
  pub number : ℕ
  pub owed : IsOwed h number
  pub named : (fate_of number h).id ≡ id
  pub due : (fate_of number h).due ≡ Some s

owed_from : (h : List DeliveryEvent) (s : Settle) (d : Delivery) → Stands h d → owes_as s d.place ≡ true → OwedIs h s d.id
owed_from h s d stands e = record {
  number = d.number;
  owed = ((stands.positive, stands.taken), sym (owed_test d (fate_of d.number h) stands.matches.core) ∙ owes_it);
  named = sym stands.matches.core.id;
  due = sym (owed_cause d (fate_of d.number h) stands.matches.core owes_it) ∙ that_is s (owed_settle d.place) e;
}
  where
    owes_it : owes d.place ≡ true
    owes_it = ap is_some (that_is s (owed_settle d.place) e)

number_is : (m n : ℕ) → (m == n) ≡ true → m ≡ n
number_is m n e = grind (arith, nat_tests)

any_owed : (life : ℕ) (h : List DeliveryEvent) (s : Settle) (id : ℕ) → list_any (owes_id s id) (after_events life h).list ≡ true → OwedIs h s id
any_owed life h s id e =
    let found = any_found (owes_id s id) (after_events life h).list e in
    let at = all_find (Stands h) (owes_id s id) (after_events life h).list found.0 (stand life h) found.1 in
    let d = found.0 in
    subst (OwedIs h s) (number_is d.id id (and_two (owes_as s d.place) (d.id == id) at.1)) (owed_from h s d at.0 (and_one (owes_as s d.place) (d.id == id) at.1))

-- each that is covered is owed this state, and no other is covered

range_first : (life : ℕ) (h : List DeliveryEvent) → AreFresh h → (d : Delivery) → Stands h d → d.id < 2 ^ 32
range_first life h fresh d stands = subst (λ i. i < 2 ^ 32) (sym stands.matches.core.id) (ids_range h fresh d.number (stands.positive, stands.taken))

lawful_run : (life : ℕ) (h : List DeliveryEvent) → AreFresh h → (s : Settle) (d : Delivery) → Stands h d → owed_settle d.place ≡ Some s → IsLawfulSettle h (run_from s (after_events life h).list d.id)
lawful_run life h fresh s d stands is = record {
  owed = λ id range within. let o = owed_at id range within in (o.number, o.owed, o.named, o.due);
  only = λ n taken uncovered within.
      let o = owed_at (fate_of n h).id (ids_range h fresh n taken) within in
      let same : o.number ≡ n = unique h fresh o.number n o.owed.0 taken (uncovered_holds (fate_of o.number h) (owed_uncovered (fate_of o.number h) o.owed.1)) (uncovered_holds (fate_of n h) uncovered) o.named in
      ap (λ i. (fate_of i h).due) (sym same) ∙ o.due;
}
  where
    list : List Delivery
    list = (after_events life h).list

    as_owed : owes_as s d.place ≡ true
    as_owed = ap (is_that s) is ∙ same_self s
      where
        same_self : (t : Settle) → is_same t t ≡ true
        same_self Accepted = refl
        same_self Rejected = refl
        same_self Released = refl

    owed_at : (id : ℕ) → id < 2 ^ 32 → in_range d.id (run_to (count_by (owes_of s) list) s list d.id) id ≡ true → OwedIs h s id
    owed_at id range within =
        let lt : d.id < 2 ^ 32 = range_first life h fresh d stands in
        let run = run_is (count_by (owes_of s) list) s list d.id lt in
        let step = steps_to d.id id run.0 lt range (subst (λ last. in_range d.id last id ≡ true) run.1 within) in
        split step.0 step.1 run.0 step.2 run.2 lt (cases_eq step.0 0)
      where
        split : (k : ℕ) → id ≡ advanced d.id k → (m : ℕ) → k ≤ m → AllOwe s list d.id m → d.id < 2 ^ 32 → ((k ≡ 0) ⊎ (k ≡ 0 → ⊥)) → OwedIs h s id
        split k at m le all lt (inl e) = let same : d.id ≡ id = omega arith in subst (OwedIs h s) same (owed_from h s d stands as_owed)
        split k at m le all lt (inr ne) = subst (OwedIs h s) (sym at) (any_owed life h s (advanced d.id k) (all k (omega arith) le))

pub settle_is_lawful : (life : ℕ) (h : List DeliveryEvent) → AreFresh h → IfSome (next_settle_of (after_events life h).list) (IsLawfulSettle h)
settle_is_lawful life h fresh = by (find owing list) refl
  where
    owing : Delivery → Bool
    owing d = owes d.place

    list : List Delivery
    list = (after_events life h).list

    by : (o : Option Delivery) → find owing list ≡ o → IfSome (settle_from list o) (IsLawfulSettle h)
    by None e = tt
    by (Some d) e = from (owed_settle d.place) refl
      where
        from : (o : Option Settle) → owed_settle d.place ≡ o → IfSome (settle_in list o d.id) (IsLawfulSettle h)
        from None is = tt
        from (Some s) is = lawful_run life h fresh s d (all_find (Stands h) owing list d (stand life h) e).0 is

-- once none is due, each was settled

pub released_is : (life : ℕ) (h : List DeliveryEvent) → is_closed h ≡ true → next_settle_of (after_events life h).list ≡ None → (n : ℕ) → IsTaken h n → is_uncovered (fate_of n h) ≡ false
released_is life h shut none n taken = by (is_uncovered (fate_of n h)) refl
  where
    owed_still : (d s t l : Bool) → d ≡ true → ((not s && not t) && not l) ≡ true → (((d && not s) && not t) && not l) ≡ true
    owed_still d s t l e u = rw e u

    nothing_first : first_owed h ≡ None
    nothing_first = sym (first_is life h) ∙ ap (option_map (λ (s : NextSettle). s.first)) none

    none_least : least (λ i. is_owed (fate_of i h)) (numbers_of h) ≡ None
    none_least = unmap (least (λ i. is_owed (fate_of i h)) (numbers_of h)) nothing_first
      where
        unmap : (o : Option ℕ) → option_map (λ i. (fate_of i h).id) o ≡ None → o ≡ None
        unmap None e = refl
        unmap (Some i) e = absurd (cc)

    by : (b : Bool) → is_uncovered (fate_of n h) ≡ b → is_uncovered (fate_of n h) ≡ false
    by false e = e
    by true e =
        let due : is_owed (fate_of n h) ≡ true = owed_still (is_some (fate_of n h).due) (fate_of n h).settled (fate_of n h).sent (fate_of n h).left ((sound h n taken).shut shut) e in
        let no : is_owed (fate_of n h) ≡ false = least_none (λ i. is_owed (fate_of i h)) (numbers_of h) none_least n taken.0 taken.1 in
        absurd (cc)
