-- A change of each publish, as the open ones see it.
use Rattle.std.proofs.Common.{◌≡◌, ◌∙◌, ℕ, suc, List, [], ◌∷◌, ◌++◌, Bool, true, false, Option}
use Rattle.std.proofs.Common.{Some, None, map, take, drop, refl, sym, subst, ap, arith, cond, ◌≤◌}
use Rattle.std.proofs.Common.{◌+◌, length}
use Rattle.std.specs.Prelude.{filter, find, not, ◌||◌, ◌&&◌, is_some, count_by, if◌then◌else◌}
use Rattle.std.specs.Option.{option_map, option_or}
use Rattle.std.specs.List.{list_any, AllByRecursion, take_while, prefix_len}
use Rattle.std.proofs.lemmas.Grind.{common_steps}
use Rattle.std.proofs.lemmas.List.{length-take-le}
use Rattle.std.proofs.Math.ListN.{drop_of_length-le}
use Rattle.publish_path.specs.declared.publish.NextFrame.{NextFrame}
use Rattle.publish_path.specs.Links.{link_of, can_send}
use Rattle.std.proofs.lemmas.List.Sums.{sum_by_push, sum_by-cons}
use Rattle.open_items.proofs.Filtered.{filter-map-filter, filter-filter, filter-push, find-filter}
use Rattle.open_items.proofs.Filtered.{filter-only, all_find, count_by-filter, sum_by-filter}
use Rattle.open_items.proofs.Filtered.{list_any-filter}
use Rattle.publish_path.specs.declared.publish.Publish.{Publish}
use Rattle.publish_path.specs.declared.send_links.SendingLink.{SendingLink}
use Rattle.publish_path.specs.declared.publish.Place.TheVariants.{Waiting}
use Rattle.publish_path.specs.declared.publish.Confirm.{Confirm}
use Rattle.publish_path.specs.declared.changes.Change.{Change}
use Rattle.publish_path.specs.declared.changes.Change.TheVariants.{Framed, Told, LinkLost}
use Rattle.publish_path.specs.declared.changes.Change.TheVariants.{Confirmed, Reported, Returned}
use Rattle.publish_path.specs.Publishes.{is_waiting, is_begun, is_sending, is_settled, is_open}
use Rattle.publish_path.specs.Publishes.{takes, is_told}
use Rattle.publish_path.specs.Publishes.{changed, has_no_outcome, owes_return, takes_return}
use Rattle.publish_path.specs.Searches.{run_from, found_confirm}
use Rattle.publish_path.specs.Offers.{can_begin, frame_of, next_frame_of, waits_on, is_pending}
use Rattle.publish_path.specs.Offers.{next_confirm_of, is_held, held_count, held_size, held_bytes}
use Rattle.publish_path.specs.Offers.{owed_ack, is_ack, is_owed, number_or, is_unanswered}
use Rattle.publish_path.specs.Offers.{alone, last_of, run_of, confirm_of, is_ready, readies}
use Rattle.publish_path.specs.Offers.{goes_on_returning, waits_return, next_return_of, return_count}
use Rattle.publish_path.specs.Offers.{return_of}
use Rattle.open_items.specs.Numbers.{has_any}

-- what is closed stays closed

changed_stays : (change : Change) (p : Publish) → is_open p ≡ false → is_open (changed change p) ≡ false
changed_stays (Framed number first id count) p e = grind (arith, common_steps)
changed_stays (Told first last outcome) p e = grind (arith, common_steps)
changed_stays (LinkLost link not_found) p e = grind (arith, common_steps)
changed_stays (Confirmed c) p e = grind (arith, common_steps)
changed_stays Reported p e = grind (arith, common_steps)
changed_stays (Returned number) p e = grind (arith, common_steps)

pub changed_seen : (change : Change) (items : List Publish) → filter is_open (map (changed change) items) ≡ filter is_open (map (changed change) (filter is_open items))
changed_seen change items = filter-map-filter is_open (changed change) (changed_stays change) items

-- no more are held

pub held_before : (change : Change) (p : Publish) → is_held (changed change p) ≡ true → is_held p ≡ true
held_before (Framed number first id count) p e = grind (arith, common_steps)
held_before (Told first last outcome) p e = grind (arith, common_steps)
held_before (LinkLost link not_found) p e = grind (arith, common_steps)
held_before (Confirmed c) p e = grind (arith, common_steps)
held_before Reported p e = e
held_before (Returned number) p e = grind (arith, common_steps)

same_size : (change : Change) (p : Publish) → (changed change p).size ≡ p.size
same_size (Framed number first id count) p = refl
same_size (Told first last outcome) p = refl
same_size (LinkLost link not_found) p = refl
same_size (Confirmed c) p = refl
same_size Reported p = refl
same_size (Returned number) p = refl

size_falls : (later held : Bool) (n m : ℕ) → m ≡ n → (later ≡ true → held ≡ true) → cond later m 0 ≤ cond held n 0
size_falls true true n m e f = omega arith
size_falls true false n m e f = absurd (let no = f refl in cc)
size_falls false held n m e f = omega arith

pub size_before : (change : Change) (p : Publish) → held_size (changed change p) ≤ held_size p
size_before change p = size_falls (is_held (changed change p)) (is_held p) p.size _ (same_size change p) (held_before change p)

-- confirms

-- of the unanswered ones, the first that has an outcome
pub find_due : (items : List Publish) → find is_ready (filter is_unanswered items) ≡ find (λ p. is_unanswered p && is_ready p) items
find_due [] = refl
find_due (p ∷ ps) = by (is_unanswered p) (find_due ps)
  where
    by : (b : Bool) → find is_ready (filter is_unanswered ps) ≡ find (λ p. is_unanswered p && is_ready p) ps
        → find is_ready (cond b (p ∷ filter is_unanswered ps) (filter is_unanswered ps)) ≡ cond (b && is_ready p) (Some p) (find (λ p. is_unanswered p && is_ready p) ps)
    by true ih = ap (cond (is_ready p) (Some p)) ih
    by false ih = ih

abbrev last_number : ℕ → List Publish → ℕ
last_number n [] = n
last_number n (p ∷ ps) = last_number (number_or 0 p.confirm) ps

last_is : (p : Publish) (ps : List Publish) → number_or 0 (last_of p ps).confirm ≡ last_number (number_or 0 p.confirm) ps
last_is p [] = refl
last_is p (q ∷ qs) = last_is q qs

front_more : (t : Publish → Bool) (p : Publish) (ps : List Publish) → t p ≡ true → take_while t (p ∷ ps) ≡ p ∷ take_while t ps
front_more t p ps e = ap (λ b. take (cond b (1 + prefix_len t ps) 0) (p ∷ ps)) e ∙ ap (λ k. take k (p ∷ ps)) (one_more (prefix_len t ps))
  where
    one_more : (n : ℕ) → 1 + n ≡ suc n
    one_more n = omega arith

front_none : (t : Publish → Bool) (p : Publish) (ps : List Publish) → t p ≡ false → take_while t (p ∷ ps) ≡ []
front_none t p ps e = ap (λ b. take (cond b (1 + prefix_len t ps) 0) (p ∷ ps)) e

run_from_is : (n : ℕ) (m ack : Bool) (ps : List Publish) → run_from n m ack ps ≡ record { number = last_number n (take_while (readies ack) ps); multiple = m || has_any (take_while (readies ack) ps); ack = ack }
run_from_is n true ack [] = refl
run_from_is n false ack [] = refl
run_from_is n m ack (p ∷ ps) = by (readies ack p) refl m (run_from_is (number_or 0 p.confirm) true ack ps)
  where
    gives_it : Publish → Bool
    gives_it q = readies ack q

    of_front : ℕ → Bool → List Publish → Confirm
    of_front k b qs = record { number = last_number k qs; multiple = b || has_any qs; ack = ack }

    or_true : (b : Bool) → (b || true) ≡ true
    or_true true = refl
    or_true false = refl

    or_false : (b : Bool) → (b || false) ≡ b
    or_false true = refl
    or_false false = refl

    by : (b : Bool) → readies ack p ≡ b → (m : Bool) → run_from (number_or 0 p.confirm) true ack ps ≡ of_front (number_or 0 p.confirm) true (take_while gives_it ps)
        → cond b (run_from (number_or 0 p.confirm) true ack ps) (record { number = n; multiple = m; ack = ack }) ≡ of_front n m (take_while gives_it (p ∷ ps))
    by true e m ih =
        ih ∙ ap (λ b. record { number = last_number (number_or 0 p.confirm) (take_while gives_it ps); multiple = b; ack = ack }) (sym (or_true m))
        ∙ ap (of_front n m) (sym (front_more gives_it p ps e))
    by false e m ih =
        ap (λ b. record { number = n; multiple = b; ack = ack }) (sym (or_false m)) ∙ ap (of_front n m) (sym (front_none gives_it p ps e))

-- the longest run is the one that the search finds
pub run_is : (p : Publish) (ps : List Publish) → run_of p (take_while (readies (is_ack p.answer)) ps) ≡ run_from (number_or 0 p.confirm) false (is_ack p.answer) ps
run_is p ps =
    ap (λ n. record { number = n; multiple = has_any (take_while (readies (is_ack p.answer)) ps); ack = is_ack p.answer }) (last_is p (take_while (readies (is_ack p.answer)) ps))
    ∙ sym (run_from_is (number_or 0 p.confirm) false (is_ack p.answer) ps)

confirm_is : (us : List Publish) → confirm_of us ≡ found_confirm us
confirm_is [] = refl
confirm_is (p ∷ ps) =
    ap (λ r. if is_owed p.answer then (if has_any p.back then None else Some r) else option_map alone (find is_ready ps)) (run_is p ps)

-- the run so far and what is left give the confirm of all
abbrev pub rest_confirm : Option Confirm → List Publish → Option Confirm
rest_confirm None ps = found_confirm ps
rest_confirm (Some c) ps = Some (run_from c.number c.multiple c.ack ps)

-- before a run, none had an outcome
abbrev pub rest_due : Option Confirm → List Publish → List Publish → Type 0
rest_due None ps all = find (λ p. is_unanswered p && is_ready p) ps ≡ find (λ p. is_unanswered p && is_ready p) all
rest_due (Some c) ps all = Unit {0}

-- the first unanswered one has no outcome: the first outcome goes alone
pub first_alone_is : (p : Publish) (ps all : List Publish) → is_unanswered p ≡ true → owed_ack p.answer ≡ None
    → found_confirm (filter is_unanswered (p ∷ ps)) ≡ found_confirm (filter is_unanswered all)
    → find (λ p. is_unanswered p && is_ready p) (p ∷ ps) ≡ find (λ p. is_unanswered p && is_ready p) all
    → option_map alone (find (λ p. is_unanswered p && is_ready p) all) ≡ found_confirm (filter is_unanswered all)
first_alone_is p ps all un none run due =
    let here : found_confirm (filter is_unanswered (p ∷ ps)) ≡ option_map alone (find is_ready (filter is_unanswered ps)) = rw (un, none) refl in
    let same : find (λ p. is_unanswered p && is_ready p) (p ∷ ps) ≡ find (λ p. is_unanswered p && is_ready p) ps = rw (un, none) refl in
    ap (option_map alone) (sym due ∙ same ∙ sym (find_due ps)) ∙ sym here ∙ run

-- what the open ones offer and count is what all do

closed_size : (p : Publish) → is_open p ≡ false → held_size p ≡ 0
closed_size p e = let no : is_held p ≡ false = grind (arith, common_steps) in ap (λ b. cond b p.size 0) no

pub held_seen : (items : List Publish) → held_count (filter is_open items) ≡ held_count items
held_seen items = count_by-filter is_open is_held (λ p e. grind (arith, common_steps)) items

pub bytes_seen : (items : List Publish) → held_bytes (filter is_open items) ≡ held_bytes items
bytes_seen items = sum_by-filter is_open held_size closed_size items

pub begun_seen : (items : List Publish) → find (λ p. is_begun p.place) (filter is_open items) ≡ find (λ p. is_begun p.place) items
begun_seen items = find-filter is_open (λ p. is_begun p.place) (λ p e. grind (arith, common_steps)) items

pub begins_seen : (links : List SendingLink) (items : List Publish) → find (can_begin links) (filter is_open items) ≡ find (can_begin links) items
begins_seen links items = find-filter is_open (can_begin links) (λ p e. grind (arith, common_steps)) items

pub taking_seen : (number : ℕ) (items : List Publish) → find (takes number) (filter is_open items) ≡ find (takes number) items
taking_seen number items = find-filter is_open (takes number) (λ p e. grind (arith, common_steps)) items

pub waiting_seen : (link : ℕ) (items : List Publish) → list_any (waits_on link) (filter is_open items) ≡ list_any (waits_on link) items
waiting_seen link items = list_any-filter is_open (waits_on link) (λ p e. grind (arith, common_steps)) items

pub pending_seen : (link : Option ℕ) (items : List Publish) → count_by (is_pending link) (filter is_open items) ≡ count_by (is_pending link) items
pending_seen link items = count_by-filter is_open (is_pending link) closed_pending items
  where
    closed_pending : (p : Publish) → is_open p ≡ false → is_pending link p ≡ false
    closed_pending p e = grind (arith, common_steps)

pub told_seen : (first last : ℕ) (items : List Publish) → list_any (is_told first last) (filter is_open items) ≡ list_any (is_told first last) items
told_seen first last items = list_any-filter is_open (is_told first last) (λ p e. grind (arith, common_steps)) items

pub confirm_seen : (items : List Publish) → next_confirm_of (filter is_open items) ≡ found_confirm (filter is_unanswered items)
confirm_seen items =
    ap confirm_of (filter-only is_open is_unanswered (λ p e. grind (arith, common_steps)) items) ∙ confirm_is (filter is_unanswered items)

pub returns_seen : (items : List Publish) → return_count (filter is_open items) ≡ return_count items
returns_seen items = count_by-filter is_open owes_return (λ p e. grind (arith, common_steps)) items

pub returning_seen : (items : List Publish) → find goes_on_returning (filter is_open items) ≡ find goes_on_returning items
returning_seen items = find-filter is_open goes_on_returning (λ p e. grind (arith, common_steps)) items

pub to_return_seen : (items : List Publish) → find waits_return (filter is_open items) ≡ find waits_return items
to_return_seen items = find-filter is_open waits_return (λ p e. grind (arith, common_steps)) items

pub return_seen : (number : ℕ) (items : List Publish) → find (takes_return number) (filter is_open items) ≡ find (takes_return number) items
return_seen number items = find-filter is_open (takes_return number) (λ p e. grind (arith, common_steps)) items

-- where none is to be returned, none is found
none_found : (t : Publish → Bool) (items : List Publish) → return_count items ≡ 0 → find (λ p. owes_return p && t p) items ≡ None
none_found t [] none = refl
none_found t (p ∷ ps) none =
    by (owes_return p) (none_found t ps) (sym (sum_by-cons (λ x. cond (owes_return x) 1 0) p ps) ∙ none)
  where
    by : (b : Bool) → (return_count ps ≡ 0 → find (λ p. owes_return p && t p) ps ≡ None) → cond b 1 0 + return_count ps ≡ 0 → cond (b && t p) (Some p) (find (λ p. owes_return p && t p) ps) ≡ None
    by true rec e = absurd (omega arith)
    by false rec e = rec (omega arith)

pub none_returns : (items : List Publish) → return_count items ≡ 0 → next_return_of items ≡ None
none_returns items none =
    ap (λ o. option_or (option_map (return_of false) o) (option_map (return_of true) (find waits_return items))) (none_found (λ p. p.returning) items none)
    ∙ ap (option_map (return_of true)) (none_found (λ p. not p.returning) items none)

-- a publish that is added

pub add_seen : (items : List Publish) (p : Publish) → p.place ≡ Waiting → filter is_open (filter is_open items ++ p ∷ []) ≡ filter is_open items ++ p ∷ []
add_seen items p e =
    filter-push is_open (filter is_open items) p (ap (λ w. is_sending w || not (is_settled p.answer) || is_some p.line || has_any p.back) e) ∙ ap (λ ys. ys ++ p ∷ []) (filter-filter is_open items)

pub add_count : (items : List Publish) (p : Publish) → p.place ≡ Waiting → held_count (items ++ p ∷ []) ≡ held_count items + 1
add_count items p e = sum_by_push (λ x. cond (is_held x) 1 0) items p ∙ ap (λ w. held_count items + cond (is_sending w || (has_no_outcome p.answer && has_any p.back)) 1 0) e

pub add_bytes : (items : List Publish) (p : Publish) → p.place ≡ Waiting → held_bytes (items ++ p ∷ []) ≡ held_bytes items + p.size
add_bytes items p e = sum_by_push held_size items p ∙ ap (λ w. held_bytes items + cond (is_sending w || (has_no_outcome p.answer && has_any p.back)) p.size 0) e

pub add_returns : (items : List Publish) (p : Publish) → has_no_outcome p.answer ≡ true → return_count (items ++ p ∷ []) ≡ return_count items
add_returns items p e =
    sum_by_push (λ x. cond (owes_return x) 1 0) items p ∙ ap (λ b. return_count items + cond (not b && has_any p.back) 1 0) e ∙ zero_more (return_count items)
  where
    zero_more : (n : ℕ) → n + 0 ≡ n
    zero_more n = omega arith

-- the front of what is left has the length that is asked for
pub length_part : (n : ℕ) (rest : List ℕ) → n ≤ length rest → length (take n rest) ≡ n
length_part n rest le = length-take-le n rest le

pub drop_past : (n : ℕ) (bytes : List ℕ) → length bytes ≤ n → drop n bytes ≡ []
drop_past n bytes le = drop_of_length-le bytes le

pub open_open : (items : List Publish) → filter is_open (filter is_open items) ≡ filter is_open items
open_open items = filter-filter is_open items

pub found_passes : (p : Publish → Bool) (items : List Publish) (x : Publish) → find p items ≡ Some x → p x ≡ true
found_passes p items x e = (all_find (λ _. Unit {0}) p items x (each items) e).1
  where
    each : (xs : List Publish) → AllByRecursion (λ _. Unit {0}) xs
    each [] = tt
    each (y ∷ ys) = (tt, each ys)

and_right : (a b : Bool) → (a && b) ≡ true → b ≡ true
and_right true b e = e
and_right false b e = absurd (cc)

-- a transfer begins on a link that is attached and has credit
pub first_can_send : (links : List SendingLink) (list : List Publish) (frame : NextFrame) → next_frame_of links list ≡ Some frame → frame.first ≡ true → can_send (link_of links frame.link) ≡ true
first_can_send links list frame e first = by (find (λ p. is_begun p.place) list) (find (can_begin links) list) refl e
  where
    by : (a b : Option Publish) → find (can_begin links) list ≡ b → option_or (option_map (frame_of false) a) (option_map (frame_of true) b) ≡ Some frame → can_send (link_of links frame.link) ≡ true
    by (Some p) b is e = absurd (let no : false ≡ frame.first = option_first e in cc)
      where
        option_first : Some (frame_of false p) ≡ Some frame → false ≡ frame.first
        option_first e = cc
    by None None is e = absurd (cc)
    by None (Some p) is e =
        let passes : can_begin links p ≡ true = found_passes (can_begin links) list p is in
        let same : frame_of true p ≡ frame = cc in
        subst (λ (f : NextFrame). can_send (link_of links f.link) ≡ true) same (and_right (is_waiting p.place) _ passes)
