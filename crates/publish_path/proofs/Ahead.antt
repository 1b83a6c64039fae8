-- What is found from the places that are kept is what the open publishes offer; and which publishes
-- a change leaves as they are.
use Rattle.std.proofs.Common.{◌≡◌, ◌∙◌, ℕ, ◌+◌, ◌-◌, ◌≤◌, ◌<◌, List, [], ◌∷◌, Bool, true, false}
use Rattle.std.proofs.Common.{refl, sym, ap, subst, arith, Option, Some, None, cond, map, take, drop}
use Rattle.std.proofs.Common.{length, get_or}
use Rattle.std.specs.Prelude.{filter, find, ◌==◌, ◌&&◌, ◌||◌, count_by, not, is_some, IsSome, nat_lt}
use Rattle.std.specs.List.{AllByRecursion, list_any, position_or_len}
use Rattle.std.specs.Option.{option_map, option_or}
use Rattle.std.proofs.lemmas.Grind.{common_steps}
use Rattle.std.proofs.lemmas.Bool.Decides.{nat_tests}
use Rattle.std.proofs.lemmas.List.{length-drop, get_or-drop}
use Rattle.std.proofs.lemmas.List.Recursion.{is_count_by}
use Rattle.std.proofs.lemmas.List.Sums.{passes_at_first, prefix_len-le-length}
use Rattle.std.proofs.Math.ListN.{drop_of_length-le}
use Rattle.open_items.proofs.Filtered.{all_filter}
use Rattle.open_items.proofs.Numbered.{Rising}
use Rattle.open_items.proofs.Places.{map_same, none_counted, place_is, any_found, found_before}
use Rattle.open_items.proofs.Places.{from_on, from_fewer, from_find, from_any, from_filter}
use Rattle.open_items.proofs.Places.{from_same, IsBetween}
use Rattle.publish_path.specs.declared.publish.Publish.{Publish}
use Rattle.publish_path.specs.declared.publish.Confirm.{Confirm}
use Rattle.publish_path.specs.declared.publish.NextFrame.{NextFrame}
use Rattle.publish_path.specs.declared.publish.NextReturn.{NextReturn}
use Rattle.publish_path.specs.declared.publish.Outcome.{Outcome}
use Rattle.publish_path.specs.declared.counts.Counts.{Counts}
use Rattle.publish_path.specs.declared.send_links.SendingLink.{SendingLink}
use Rattle.open_items.specs.Numbers.{has_any}
use Rattle.open_items.specs.Places.{AllFrom, place_from}
use Rattle.open_items.specs.declared.lost.LostKind.{LostKind}
use Rattle.publish_path.specs.Publishes.{is_open, is_begun, is_sending, is_settled, is_told, told, takes, framed}
use Rattle.publish_path.specs.Publishes.{takes_return, owes_return, returned, confirmed, reported}
use Rattle.publish_path.specs.Publishes.{new_publish}
use Rattle.publish_path.specs.Offers.{can_begin, frame_of, next_frame_of, waits_on, is_unanswered}
use Rattle.publish_path.specs.Offers.{lines_of, alone, next_confirm_of, goes_on_returning, waits_return}
use Rattle.publish_path.specs.Offers.{return_of, next_return_of, is_ready}
use Rattle.publish_path.specs.Searches.{found_confirm}
use Rattle.publish_path.specs.Kept.{number_of, Climbs, is_unsent, is_unsettled, owes, has_line}
use Rattle.publish_path.specs.Kept.{counts_of, passed_by}
use Rattle.publish_path.proofs.Ordered.{before_same, behind_same}
use Rattle.publish_path.proofs.Visited.{told_same, confirmed_same, past_same, framed_other}
use Rattle.publish_path.proofs.Visited.{returned_other, takes_number, returns_number}
use Rattle.publish_path.proofs.Steps.{taking_seen, told_seen}
use Rattle.publish_path.proofs.Steps.{confirm_seen, found_passes, return_seen, returning_seen}
use Rattle.publish_path.proofs.Steps.{to_return_seen, none_returns, open_open}

-- frames

pub begun_ahead : (place : ℕ) (items : List Publish) → AllFrom is_unsent place items → find (λ p. is_begun p.place) (drop place items) ≡ find (λ p. is_begun p.place) items
begun_ahead place items a = from_find is_unsent (λ p. is_begun p.place) place items (λ p e. grind (arith, common_steps)) a

pub begins_ahead : (links : List SendingLink) (place : ℕ) (items : List Publish) → AllFrom is_unsent place items → find (can_begin links) (drop place items) ≡ find (can_begin links) items
begins_ahead links place items a = from_find is_unsent (can_begin links) place items (λ p e. grind (arith, common_steps)) a

pub taking_ahead : (number place : ℕ) (items : List Publish) → AllFrom is_unsent place items → find (takes number) (drop place items) ≡ find (takes number) items
taking_ahead number place items a = from_find is_unsent (takes number) place items (λ p e. grind (arith, common_steps)) a

pub waiting_ahead : (link place : ℕ) (items : List Publish) → AllFrom is_unsent place items → list_any (waits_on link) (drop place items) ≡ list_any (waits_on link) items
waiting_ahead link place items a = from_any is_unsent (waits_on link) place items (λ p e. grind (arith, common_steps)) a

-- what another search found passes this one's test
found_other : (t u : Publish → Bool) (ps : List Publish) (p : Publish) → find t ps ≡ Some p → u p ≡ true → IsSome (find u ps)
found_other t u [] p e is = absurd (cc)
found_other t u (q ∷ qs) p e is = by (t q) e (found_other t u qs p)
  where
    more : IsSome (find u qs) → (b : Bool) → IsSome (cond b (Some q) (find u qs))
    more some true = refl
    more some false = some

    by : (b : Bool) → cond b (Some q) (find t qs) ≡ Some p → (find t qs ≡ Some p → u p ≡ true → IsSome (find u qs)) → IsSome (cond (u q) (Some q) (find u qs))
    by true e rec = let same : q ≡ p = cc in ap (λ b. is_some (cond b (Some q) (find u qs))) (ap u same ∙ is)
    by false e rec = more (rec e is) (u q)

named : (p : Publish) (number : ℕ) (b : Bool) → p.number ≡ number → b ≡ true → ((p.number == number) && b) ≡ true
named p number b e is = let same : (p.number == number) ≡ true = equal p.number number e in rw (same, is) refl
  where
    equal : (m n : ℕ) → m ≡ n → (m == n) ≡ true
    equal m n e = grind (arith, nat_tests)

-- the publish of the frame that goes next takes it
pub frame_there : (links : List SendingLink) (list : List Publish) (frame : NextFrame) → next_frame_of links list ≡ Some frame → IsSome (find (takes frame.publish) list)
frame_there links list frame e = by (find (λ p. is_begun p.place) list) (find (can_begin links) list) refl refl e
  where
    there : (t : Publish → Bool) (first : Bool) (p : Publish) → find t list ≡ Some p → is_sending p.place ≡ true → frame_of first p ≡ frame → IsSome (find (takes frame.publish) list)
    there t first p is sends same = found_other t (takes frame.publish) list p is (named p frame.publish (is_sending p.place) (ap (λ (f : NextFrame). f.publish) same) sends)

    begun_sends : (p : Publish) → is_begun p.place ≡ true → is_sending p.place ≡ true
    begun_sends p e = grind (arith, common_steps)

    begins_sends : (p : Publish) → can_begin links p ≡ true → is_sending p.place ≡ true
    begins_sends p e = grind (arith, common_steps)

    by : (a b : Option Publish) → find (λ p. is_begun p.place) list ≡ a → find (can_begin links) list ≡ b → option_or (option_map (frame_of false) a) (option_map (frame_of true) b) ≡ Some frame → IsSome (find (takes frame.publish) list)
    by (Some p) b isa isb e = there (λ p. is_begun p.place) false p isa (begun_sends p (found_passes (λ p. is_begun p.place) list p isa)) (cc)
    by None None isa isb e = absurd (cc)
    by None (Some p) isa isb e = there (can_begin links) true p isb (begins_sends p (found_passes (can_begin links) list p isb)) (cc)

-- returns

-- the publish that is returned next is to be returned
pub return_there : (list : List Publish) (next : NextReturn) → next_return_of list ≡ Some next → IsSome (find (takes_return next.publish) list)
return_there list next e = by (find goes_on_returning list) (find waits_return list) refl refl e
  where
    and_first : (a b : Bool) → (a && b) ≡ true → a ≡ true
    and_first true b e = refl
    and_first false b e = absurd (cc)

    there : (t : Publish → Bool) (first : Bool) (p : Publish) → find t list ≡ Some p → owes_return p ≡ true → return_of first p ≡ next → IsSome (find (takes_return next.publish) list)
    there t first p is owes same = found_other t (takes_return next.publish) list p is (named p next.publish (owes_return p) (ap (λ (n : NextReturn). n.publish) same) owes)

    by : (a b : Option Publish) → find goes_on_returning list ≡ a → find waits_return list ≡ b → option_or (option_map (return_of false) a) (option_map (return_of true) b) ≡ Some next → IsSome (find (takes_return next.publish) list)
    by (Some p) b isa isb e = there goes_on_returning false p isa (and_first (owes_return p) _ (found_passes goes_on_returning list p isa)) (cc)
    by None None isa isb e = absurd (cc)
    by None (Some p) isa isb e = there waits_return true p isb (and_first (owes_return p) _ (found_passes waits_return list p isb)) (cc)

pub none_return : (counts : Counts) (items : List Publish) → counts ≡ counts_of items → counts.returns ≡ 0 → next_return_of (filter is_open items) ≡ None
none_return counts items e none =
    ap (λ o. option_or (option_map (return_of false) o) (option_map (return_of true) (find waits_return (filter is_open items)))) (returning_seen items)
    ∙ ap (λ o. option_or (option_map (return_of false) (find goes_on_returning items)) (option_map (return_of true) o)) (to_return_seen items)
    ∙ none_returns items (sym (ap (λ (k : Counts). k.returns) e) ∙ none)

-- a change of one publish

pub record IsAlone (f : Publish → Publish) (place : ℕ) (items : List Publish) : Type 0 where
  pub within : place + 1 ≤ length items
  pub before : map f (take place items) ≡ take place items
  pub behind : map f (drop (place + 1) items) ≡ drop (place + 1) items

alone_at : (t : Publish → Bool) (f : Publish → Publish) (number from place : ℕ) (items seen : List Publish) → ((p : Publish) → t p ≡ true → p.number ≡ number) → ((p : Publish) → (p.number ≡ number → ⊥) → f p ≡ p)
    → Rising number_of 0 items → seen ≡ items → place ≡ place_from t from seen → from ≤ length items → IsSome (find t (drop from items)) → IsAlone f place items
alone_at t f number from place items seen is_it other rising same is le some =
    record { within = omega (arith, lt); before = before_same f number other 0 items place d rising lt has; behind = behind_same f number other 0 items place d rising lt has }
  where
    d : Publish
    d = new_publish 0 0 None [] []

    n : ℕ
    n = position_or_len t (drop from items)

    first : n < length (drop from items)
    first = found_before t (drop from items) some

    at : place ≡ from + n
    at = is ∙ ap (place_from t from) same ∙ place_is t from items le

    lt : place < length items
    lt = let long : length (drop from items) ≡ length items - from = length-drop from items in omega (arith, first, at)

    has : (get_or items place d).number ≡ number
    has = is_it (get_or items place d) (ap (λ k. t (get_or items k d)) at ∙ ap t (sym (get_or-drop from items n d)) ∙ passes_at_first t (drop from items) d first)

pub frame_alone : (number : ℕ) (first : Bool) (id count front place : ℕ) (items seen : List Publish) → Rising number_of 0 items → AllFrom is_unsent front items → IsSome (find (takes number) (filter is_open items)) → seen ≡ items → place ≡ place_from (takes number) front seen
    → IsAlone (framed number first id count) place items
frame_alone number first id count front place items seen rising ahead some same is =
    alone_at (takes number) (framed number first id count) number front place items seen (takes_number number) (framed_other number first id count) rising same is ahead.within
    (subst (λ o. IsSome o) (taking_seen number items ∙ sym (taking_ahead number front items ahead)) some)

pub return_alone : (number place : ℕ) (items seen : List Publish) → Rising number_of 0 items → IsSome (find (takes_return number) (filter is_open items)) → seen ≡ items → place ≡ place_from (takes_return number) 0 seen
    → IsAlone (returned number) place items
return_alone number place items seen rising some same is =
    alone_at (takes_return number) (returned number) number 0 place items seen (returns_number number) (returned_other number) rising same is (omega arith) (subst (λ o. IsSome o) (return_seen number items) some)

-- outcomes

told_ahead : (first last place settled : ℕ) (items : List Publish) → AllFrom is_unsettled settled items → place ≡ place_from (is_told first last) settled items → AllFrom (is_told first last) place items
told_ahead first last place settled items a e =
    subst (λ i. AllFrom (is_told first last) i items) (sym e)
    (from_on (is_told first last) settled items (from_fewer is_unsettled (is_told first last) settled items (λ p e. grind (arith, common_steps)) a))

pub record IsBehind (f : Publish → Publish) (place : ℕ) (items : List Publish) : Type 0 where
  pub within : place ≤ length items
  pub before : map f (take place items) ≡ take place items

pub told_behind : (first last : ℕ) (outcome : Outcome) (place settled : ℕ) (items seen : List Publish) → AllFrom is_unsettled settled items → seen ≡ items → place ≡ place_from (is_told first last) settled seen → IsBehind (told first last outcome) place items
told_behind first last outcome place settled items seen a same e =
    let from = told_ahead first last place settled items a (e ∙ ap (place_from (is_told first last) settled) same) in
    record { within = from.within; before = from_same (is_told first last) (told first last outcome) place items (told_same first last outcome) from }

pub any_told_ahead : (first last place settled : ℕ) (items seen : List Publish) → AllFrom is_unsettled settled items → seen ≡ items → place ≡ place_from (is_told first last) settled seen → nat_lt place (length items) ≡ list_any (is_told first last) (filter is_open items)
any_told_ahead first last place settled items seen a same e =
    let n = position_or_len (is_told first last) (drop settled items) in
    let at : place ≡ settled + n = e ∙ ap (place_from (is_told first last) settled) same ∙ place_is (is_told first last) settled items a.within in
    let within : settled ≤ length items = a.within in
    let long : length (drop settled items) ≡ length items - settled = length-drop settled items in
    less place n (length items) (length (drop settled items)) settled at long within
    ∙ sym (any_found (is_told first last) (drop settled items))
    ∙ from_any is_unsettled (is_told first last) settled items (λ p e. grind (arith, common_steps)) a
    ∙ sym (told_seen first last items)
  where
    less : (place n end rest settled : ℕ) → place ≡ settled + n → rest ≡ end - settled → settled ≤ end → nat_lt place end ≡ nat_lt n rest
    less place n end rest settled e f le = grind (arith, nat_tests)

-- confirms

pub confirm_ahead : (place : ℕ) (items : List Publish) → AllFrom is_unsettled place items → found_confirm (filter is_unanswered (drop place items)) ≡ found_confirm (filter is_unanswered items)
confirm_ahead place items a = ap found_confirm (from_filter is_unsettled is_unanswered place items (λ p e. grind (arith, common_steps)) a)

none_found : (ps : List Publish) → AllByRecursion (λ p. owes p ≡ false) ps → find is_ready ps ≡ None
none_found [] a = refl
none_found (p ∷ ps) a = rw a.0 (none_found ps a.1)

none_due : (ps : List Publish) → AllByRecursion (λ p. owes p ≡ false) ps → found_confirm ps ≡ None
none_due [] a = refl
none_due (p ∷ ps) a = rw a.0 (ap (option_map alone) (none_found ps a.1))

-- where none is owed a confirm, none is due
pub none_owed : (counts : Counts) (items : List Publish) → counts ≡ counts_of items → counts.owed ≡ 0 → next_confirm_of (filter is_open items) ≡ None
none_owed counts items e none =
    confirm_seen items ∙ none_due (filter is_unanswered items) (all_filter is_unanswered _ items (none_counted owes items (sym (ap (λ (k : Counts). k.owed) e) ∙ none)))

-- the publishes that a confirm may cover stand between these places
pub confirm_between : (c : Confirm) (high from to : ℕ) (items seen : List Publish) → AllFrom is_unsettled from items → Climbs 0 high items → seen ≡ items → to ≡ place_from (passed_by c) from seen → IsBetween (confirmed c) from to items
confirm_between c high from to items seen a climbs same e =
    record { order = omega (arith, at); within = omega (arith, at, most); before = from_same is_unsettled (confirmed c) from items (confirmed_same c) a; behind = by (nat_lt to (length items)) refl }
  where
    d : Publish
    d = new_publish 0 0 None [] []

    n : ℕ
    n = position_or_len (passed_by c) (drop from items)

    within : from ≤ length items
    within = a.within

    at : to ≡ from + n
    at = e ∙ ap (place_from (passed_by c) from) same ∙ place_is (passed_by c) from items within

    long : length (drop from items) ≡ length items - from
    long = length-drop from items

    most : from + n ≤ length items
    most = let within_rest : n ≤ length (drop from items) = prefix_len-le-length (λ p. not (passed_by c p)) (drop from items) in omega (arith, within, long)

    by : (b : Bool) → nat_lt to (length items) ≡ b → map (confirmed c) (drop to items) ≡ drop to items
    by true lt =
        let under : to < length items = less to (length items) lt in
        let first : n < length (drop from items) = omega (arith, at, long) in
        past_same c high items to d under (ap (λ k. passed_by c (get_or items k d)) at ∙ ap (passed_by c) (sym (get_or-drop from items n d)) ∙ passes_at_first (passed_by c) (drop from items) d first) climbs
      where
        less : (m n : ℕ) → nat_lt m n ≡ true → m < n
        less m n e = grind (arith, nat_tests)
    by false lt =
        let none : drop to items ≡ [] = drop_of_length-le items (over to (length items) lt) in
        ap (map (confirmed c)) none ∙ sym none
      where
        over : (m n : ℕ) → nat_lt m n ≡ false → n ≤ m
        over m n e = grind (arith, nat_tests)

-- lines

-- a line is owed of so many
pub lines_counted : (life : ℕ) (ps : List Publish) → length (lines_of life (filter is_open ps)) ≡ count_by has_line ps
lines_counted life = is_count_by (λ ps. length (lines_of life (filter is_open ps))) has_line refl (λ p ps. each p ps (is_open p) p.line refl)
  where
    each : (p : Publish) (ps : List Publish) (b : Bool) (o : Option LostKind)
        → (is_sending p.place || not (is_settled p.answer) || is_some o || has_any p.back) ≡ b
        → length (lines_of life (cond b (record p { line = o } ∷ filter is_open ps) (filter is_open ps)))
        ≡ cond (is_some o) (1 + length (lines_of life (filter is_open ps))) (length (lines_of life (filter is_open ps)))
    each p ps true None e = refl
    each p ps false None e = refl
    each p ps true (Some kind) e = omega arith
    each p ps false (Some kind) e = absurd (closed (is_sending p.place || not (is_settled p.answer)) (has_any p.back) e)
      where
        closed : (a c : Bool) → (a || true || c) ≡ false → ⊥
        closed true c e = absurd (cc)
        closed false c e = absurd (cc)

-- where no line is owed, none is reported
pub none_reported : (counts : Counts) (items : List Publish) → counts ≡ counts_of items → counts.lines ≡ 0 → filter is_open (map reported (filter is_open items)) ≡ filter is_open items
none_reported counts items e none =
    ap (filter is_open) (map_same reported (filter is_open items) (same (filter is_open items) (all_filter is_open _ items (none_counted has_line items (sym (ap (λ (k : Counts). k.lines) e) ∙ none)))))
    ∙ open_open items
  where
    no_line : (p : Publish) → has_line p ≡ false → reported p ≡ p
    no_line p e = ap (λ l. record p { line = l }) (empty p.line e)
      where
        empty : {A : Type 0} (o : Option A) → is_some o ≡ false → None ≡ o
        empty None e = refl
        empty (Some x) e = absurd (cc)

    same : (ps : List Publish) → AllByRecursion (λ p. has_line p ≡ false) ps → AllByRecursion (λ p. reported p ≡ p) ps
    same [] a = tt
    same (p ∷ ps) a = (no_line p a.0, same ps a.1)
