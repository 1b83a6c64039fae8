-- What is kept beside the publishes stays true, whatever happens to them.
use Rattle.std.proofs.Common.{◌≡◌, ◌∙◌, ℕ, ◌+◌, ◌≤◌, List, [], ◌∷◌, ◌++◌, Bool, true, false}
use Rattle.std.proofs.Common.{refl, sym, ap, subst, arith, Option, cond, map, length}
use Rattle.std.specs.Prelude.{filter, count_by}
use Rattle.std.specs.List.{AllByRecursion}
use Rattle.std.proofs.lemmas.Grind.{common_steps}
use Rattle.std.proofs.lemmas.List.Sums.{sum_by_push}
use Rattle.open_items.proofs.Filtered.{all_map, all_filter, all_weaker, all_push, count_by-filter}
use Rattle.open_items.specs.Places.{AllFrom, place_from}
use Rattle.open_items.proofs.Numbered.{Rising, rising_push, rising_map, rising_filter}
use Rattle.open_items.proofs.Places.{from_start, from_on, from_map, from_push}
use Rattle.publish_path.specs.declared.publish.Publish.{Publish}
use Rattle.publish_path.specs.declared.changes.Change.{Change}
use Rattle.publish_path.specs.declared.changes.Change.TheVariants.{Framed, Told, LinkLost}
use Rattle.publish_path.specs.declared.changes.Change.TheVariants.{Confirmed, Reported, Returned}
use Rattle.publish_path.specs.declared.counts.Counts.{Counts}
use Rattle.publish_path.specs.Publishes.{is_open, next_number, changed, new_publish}
use Rattle.publish_path.specs.Kept.{number_of, Climbs, IsKept, is_unsent, is_unsettled, owes, has_line}
use Rattle.publish_path.specs.Kept.{counts_of}
use Rattle.publish_path.proofs.Ordered.{climbs_map, climbs_filter, climbs_push}
use Rattle.publish_path.proofs.Steps.{held_seen, bytes_seen, returns_seen, add_count, add_bytes}
use Rattle.publish_path.proofs.Steps.{add_returns}
use Rattle.publish_path.proofs.Visited.{same_counts}

pub kept_none : {items : List Publish} {counts : Counts} → items ≡ [] → counts ≡ counts_of [] → IsKept items 0 0 counts 0 0
kept_none {items} {counts} e counted = subst (λ ps. IsKept ps 0 0 counts 0 0) (sym e) (record {
  rising = tt;
  given = tt;
  climbs = omega arith;
  fewer = omega arith;
  counted = counted;
  ahead = from_start is_unsent [];
  open_still = from_start is_unsettled [];
})

-- the places go on

pub kept_front : {items : List Publish} {n c f s : ℕ} {counts : Counts} → IsKept items n c counts f s → {place : ℕ} → place ≡ place_from is_unsent f items → IsKept items n c counts place s
kept_front {items} {n} {c} {f} {s} {counts} k {place} e = record {
  rising = k.rising;
  given = k.given;
  climbs = k.climbs;
  fewer = k.fewer;
  counted = k.counted;
  ahead = subst (λ i. AllFrom is_unsent i items) (sym e) (from_on is_unsent f items k.ahead);
  open_still = k.open_still;
}

pub kept_settled : {items : List Publish} {n c f s : ℕ} {counts : Counts} → IsKept items n c counts f s → {place : ℕ} → place ≡ place_from is_unsettled s items → IsKept items n c counts f place
kept_settled {items} {n} {c} {f} {s} {counts} k {place} e = record {
  rising = k.rising;
  given = k.given;
  climbs = k.climbs;
  fewer = k.fewer;
  counted = k.counted;
  ahead = k.ahead;
  open_still = subst (λ i. AllFrom is_unsettled i items) (sym e) (from_on is_unsettled s items k.open_still);
}

-- the closed ones are left out

counts_seen : (items : List Publish) → counts_of (filter is_open items) ≡ counts_of items
counts_seen items =
    same_counts (counts_of (filter is_open items)) (counts_of items) (held_seen items) (bytes_seen items)
    (count_by-filter is_open owes (λ p e. grind (arith, common_steps)) items) (returns_seen items) (count_by-filter is_open has_line (λ p e. grind (arith, common_steps)) items)

pub kept_open : {items : List Publish} {n c f s : ℕ} {counts : Counts} → IsKept items n c counts f s → {now : List Publish} → now ≡ filter is_open items → IsKept now n c counts 0 0
kept_open {items} {n} {c} {f} {s} {counts} k {now} e = subst (λ ps. IsKept ps n c counts 0 0) (sym e) (record {
  rising = rising_filter number_of is_open 0 items k.rising;
  given = all_filter is_open _ items k.given;
  climbs = climbs_filter is_open 0 c items k.climbs;
  fewer = k.fewer;
  counted = k.counted ∙ sym (counts_seen items);
  ahead = from_start is_unsent (filter is_open items);
  open_still = from_start is_unsettled (filter is_open items);
})

-- one is added

added : (counts : Counts) (link number : ℕ) (confirm : Option ℕ) (payload : List ℕ) (back : List (List ℕ)) (items : List Publish) → counts ≡ counts_of items
    → record { held = counts.held + 1; bytes = counts.bytes + length payload; owed = counts.owed; returns = counts.returns; lines = counts.lines } ≡ counts_of (items ++ new_publish number link confirm payload back ∷ [])
added counts link number confirm payload back items e =
    let p = new_publish number link confirm payload back in
    same_counts _ (counts_of (items ++ p ∷ []))
    (ap (λ (k : Counts). k.held + 1) e ∙ sym (add_count items p refl))
    (ap (λ (k : Counts). k.bytes + length payload) e ∙ sym (add_bytes items p refl))
    (ap (λ (k : Counts). k.owed) e ∙ sym (sum_by_push (λ x. cond (owes x) 1 0) items p ∙ none_more (count_by owes items)))
    (ap (λ (k : Counts). k.returns) e ∙ sym (add_returns items p refl))
    (ap (λ (k : Counts). k.lines) e ∙ sym (sum_by_push (λ x. cond (has_line x) 1 0) items p ∙ none_more (count_by has_line items)))
  where
    none_more : (n : ℕ) → n + 0 ≡ n
    none_more n = omega arith

pub kept_push : {items : List Publish} {n c f s : ℕ} {counts : Counts} → IsKept items n c counts f s → {now : List Publish} {m d : ℕ} {more : Counts} → (link number : ℕ) (confirm : Bool) (payload : List ℕ) (back : List (List ℕ))
    → now ≡ items ++ new_publish number link (next_number confirm c) payload back ∷ []
    → number ≡ n + 1 → m ≡ n + 1 → d ≡ cond confirm (c + 1) c
    → more ≡ record { held = counts.held + 1; bytes = counts.bytes + length payload; owed = counts.owed; returns = counts.returns; lines = counts.lines }
    → IsKept now m d more f s
kept_push {items} {n} {c} {f} {s} {counts} k {now} {m} {d} {more} link number confirm payload back e at em ed ec = subst (λ ps. IsKept ps m d more f s) (sym e) (record {
  rising = rising_push number_of 0 n items p (omega arith) k.given at k.rising;
  given = all_push _ items p (all_weaker (λ p. p.number ≤ n) _ (λ p le. omega arith) items k.given) (omega arith);
  climbs = subst (λ high. Climbs 0 high (items ++ p ∷ [])) (sym ed) (climbs_push confirm 0 c items p refl k.climbs);
  fewer = let fewer : c ≤ n = k.fewer in rw ed (still confirm fewer);
  counted = ec ∙ added counts link number (next_number confirm c) payload back items k.counted;
  ahead = from_push is_unsent f items p k.ahead;
  open_still = from_push is_unsettled s items p k.open_still;
})
  where
    p : Publish
    p = new_publish number link (next_number confirm c) payload back

    still : (confirm : Bool) → c ≤ n → cond confirm (c + 1) c ≤ m
    still true le = omega arith
    still false le = omega arith

-- each is changed

same_number : (change : Change) (p : Publish) → (changed change p).number ≡ p.number
same_number (Framed number first id count) p = refl
same_number (Told first last outcome) p = refl
same_number (LinkLost link not_found) p = refl
same_number (Confirmed c) p = refl
same_number Reported p = refl
same_number (Returned number) p = refl

same_confirm : (change : Change) (p : Publish) → (changed change p).confirm ≡ p.confirm
same_confirm (Framed number first id count) p = refl
same_confirm (Told first last outcome) p = refl
same_confirm (LinkLost link not_found) p = refl
same_confirm (Confirmed c) p = refl
same_confirm Reported p = refl
same_confirm (Returned number) p = refl

stays_sent : (change : Change) (p : Publish) → is_unsent p ≡ false → is_unsent (changed change p) ≡ false
stays_sent (Framed number first id count) p e = grind (arith, common_steps)
stays_sent (Told first last outcome) p e = e
stays_sent (LinkLost link not_found) p e = grind (arith, common_steps)
stays_sent (Confirmed c) p e = e
stays_sent Reported p e = e
stays_sent (Returned number) p e = e

stays_settled : (change : Change) (p : Publish) → is_unsettled p ≡ false → is_unsettled (changed change p) ≡ false
stays_settled (Framed number first id count) p e = e
stays_settled (Told first last outcome) p e = grind (arith, common_steps)
stays_settled (LinkLost link not_found) p e = grind (arith, common_steps)
stays_settled (Confirmed c) p e = grind (arith, common_steps)
stays_settled Reported p e = e
stays_settled (Returned number) p e = e

pub kept_change : {items : List Publish} {n c f s : ℕ} {counts : Counts} → IsKept items n c counts f s → (change : Change) → {now : List Publish} {later : Counts} → now ≡ map (changed change) items → later ≡ counts_of now → IsKept now n c later f s
kept_change {items} {n} {c} {f} {s} {counts} k change {now} {later} e counted = record {
  rising = subst (Rising number_of 0) (sym e) (rising_map number_of (changed change) (same_number change) 0 items k.rising);
  given = subst (AllByRecursion (λ p. p.number ≤ n)) (sym e) (all_map (changed change) _ _ (λ p le. subst (λ m. m ≤ n) (sym (same_number change p)) le) items k.given);
  climbs = subst (Climbs 0 c) (sym e) (climbs_map (changed change) (same_confirm change) 0 c items k.climbs);
  fewer = k.fewer;
  counted = counted;
  ahead = subst (AllFrom is_unsent f) (sym e) (from_map is_unsent (changed change) f items (stays_sent change) k.ahead);
  open_still = subst (AllFrom is_unsettled s) (sym e) (from_map is_unsettled (changed change) s items (stays_settled change) k.open_still);
}
