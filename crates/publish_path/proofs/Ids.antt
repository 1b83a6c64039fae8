-- The delivery-ids of the publishes: until they begin from 0 again, no two have the same.
use Rattle.std.proofs.Common.{◌≡◌, ◌∙◌, ℕ, zero, suc, ◌+◌, ◌-◌, ◌*◌, ◌%◌, ◌^◌, ◌≤◌, ◌<◌, List, [], ◌∷◌, ◌++◌}
use Rattle.std.proofs.Common.{Bool, true, false, refl, sym, ap, subst, arith, Option, Some, None, cond}
use Rattle.std.proofs.Common.{map, drop, length, get_or, inl, inr}
use Rattle.std.specs.Prelude.{filter, not, ◌&&◌, ◌||◌, ◌==◌, nat_le, nat_lt}
use Rattle.std.specs.List.{AllByRecursion, position_or_len}
use Rattle.std.specs.Option.{option_or}
use Rattle.std.proofs.lemmas.Bool.{cases_lt}
use Rattle.std.proofs.lemmas.Bool.Decides.{nat_tests}
use Rattle.std.proofs.lemmas.Nat.{mod-mul-add}
use Rattle.std.proofs.lemmas.List.{length-drop, get_or-drop}
use Rattle.std.proofs.lemmas.List.Sums.{passes_at_first}
use Rattle.std.proofs.Math.Nat.{mod-eq_of_lt}
use Rattle.std.proofs.Math.ListN.{drop_of_length-le}
use Rattle.links_10.specs.Send.{past}
use Rattle.open_items.specs.Places.{place_from}
use Rattle.open_items.proofs.Filtered.{all_filter, all_push, all_drop}
use Rattle.open_items.proofs.Numbered.{Rising}
use Rattle.open_items.proofs.Places.{place_is, map_same}
use Rattle.publish_path.specs.declared.publish.Publish.{Publish}
use Rattle.publish_path.specs.declared.publish.Outcome.{Outcome}
use Rattle.publish_path.specs.Publishes.{is_open, is_told, told, in_range, has_no_outcome, framed}
use Rattle.publish_path.specs.Publishes.{new_publish}
use Rattle.publish_path.specs.Kept.{number_of, IsBelow, IsOther, AreApart, HaveIds, end_at}
use Rattle.publish_path.proofs.Ordered.{all_at}
use Rattle.publish_path.proofs.Visited.{told_same}

-- what keeps the delivery-ids

pub ids_map : (f : Publish → Publish) → ((p : Publish) → (f p).id ≡ p.id) → (next : ℕ) {items now : List Publish} → now ≡ map f items → HaveIds next items → HaveIds next now
ids_map f same next {items} {now} e h = record { bound = h.bound; apart = subst (AreApart next) (sym e) (each items h.apart) }
  where
    others : (k : Option ℕ) (ps : List Publish) → AllByRecursion (λ q. IsOther k q.id) ps → AllByRecursion (λ q. IsOther k q.id) (map f ps)
    others k [] a = tt
    others k (q ∷ qs) a = (subst (IsOther k) (sym (same q)) a.0, others k qs a.1)

    each : (ps : List Publish) → AreApart next ps → AreApart next (map f ps)
    each [] a = tt
    each (p ∷ ps) a =
        (subst (IsBelow next) (sym (same p)) a.0, subst (λ k. AllByRecursion (λ q. IsOther k q.id) (map f ps)) (sym (same p)) (others p.id ps a.1), each ps a.2)

pub ids_open : (next : ℕ) {items now : List Publish} → now ≡ filter is_open items → HaveIds next items → HaveIds next now
ids_open next {items} {now} e h = record { bound = h.bound; apart = subst (AreApart next) (sym e) (each items h.apart) }
  where
    each : (ps : List Publish) → AreApart next ps → AreApart next (filter is_open ps)
    each [] a = tt
    each (p ∷ ps) a = by (is_open p) (each ps a.2)
      where
        by : (b : Bool) → AreApart next (filter is_open ps) → AreApart next (cond b (p ∷ filter is_open ps) (filter is_open ps))
        by true ih = (a.0, all_filter is_open _ ps a.1, ih)
        by false ih = ih

other_none : (k : Option ℕ) → IsOther k None
other_none None = tt
other_none (Some a) = tt

pub ids_push : (next number link : ℕ) (confirm : Option ℕ) (payload : List ℕ) (back : List (List ℕ)) {items now : List Publish} → now ≡ items ++ new_publish number link confirm payload back ∷ [] → HaveIds next items → HaveIds next now
ids_push next number link confirm payload back {items} {now} e h = record { bound = h.bound; apart = subst (AreApart next) (sym e) (each items h.apart) }
  where
    each : (ps : List Publish) → AreApart next ps → AreApart next (ps ++ new_publish number link confirm payload back ∷ [])
    each [] a = (tt, tt, tt)
    each (p ∷ ps) a = (a.0, all_push (λ q. IsOther p.id q.id) ps (new_publish number link confirm payload back) a.1 (other_none p.id), each ps a.2)

-- a transfer begins

below_more : (next : ℕ) (k : Option ℕ) → IsBelow next k → IsBelow (next + 1) k
below_more next None b = tt
below_more next (Some id) b = omega arith

apart_more : (next : ℕ) (ps : List Publish) → AreApart next ps → AreApart (next + 1) ps
apart_more next [] a = tt
apart_more next (p ∷ ps) a = (below_more next p.id a.0, a.1, apart_more next ps a.2)

taken_below : (next : ℕ) (k : Option ℕ) (on : Bool) → IsBelow next k → IsBelow (next + 1) (cond on (option_or k (Some next)) k)
taken_below next None true b = omega arith
taken_below next (Some id) true b = omega arith
taken_below next k false b = below_more next k b

-- the next one is another than each before it
taken_other : (next : ℕ) (k j : Option ℕ) (on : Bool) → IsBelow next k → IsOther k j → IsOther k (cond on (option_or j (Some next)) j)
taken_other next k j false b o = o
taken_other next None None true b o = tt
taken_other next None (Some j) true b o = tt
taken_other next (Some id) None true b o = λ e. let under : id < next = b in absurd (omega arith)
taken_other next (Some id) (Some j) true b o = o

from_other : (next : ℕ) (k j : Option ℕ) → IsBelow next j → IsOther k j → IsOther (option_or k (Some next)) j
from_other next None None b o = tt
from_other next None (Some j) b o = λ e. let under : j < next = b in absurd (omega arith)
from_other next (Some id) j b o = o

below_all : (next : ℕ) (ps : List Publish) → AreApart next ps → AllByRecursion (λ q. IsBelow next q.id) ps
below_all next [] a = tt
below_all next (p ∷ ps) a = (a.0, below_all next ps a.2)

module _ (number count next : ℕ) where
  abbrev begin : Publish → Publish
  begin = framed number true next count

  -- behind the publish with this number, none has it
  same_behind : (low : ℕ) (ps : List Publish) → number ≤ low → Rising number_of low ps → map begin ps ≡ ps
  same_behind low [] le r = refl
  same_behind low (p ∷ ps) le r =
      let up : low < p.number = r.0 in
      let other : (p.number == number) ≡ false = apart p.number number (omega arith) in
      ap (λ q. q ∷ map begin ps) (rw other refl) ∙ ap (λ qs. p ∷ qs) (same_behind p.number ps (omega arith) r.1)
    where
      apart : (m n : ℕ) → n < m → (m == n) ≡ false
      apart m n lt = grind (arith, nat_tests)

  others_begun : (k : Option ℕ) (ps : List Publish) → IsBelow next k → AllByRecursion (λ q. IsOther k q.id) ps → AllByRecursion (λ q. IsOther k q.id) (map begin ps)
  others_begun k [] b a = tt
  others_begun k (q ∷ qs) b a = (taken_other next k q.id (q.number == number && true) b a.0, others_begun k qs b a.1)

  from_begun : (k : Option ℕ) (ps : List Publish) → AllByRecursion (λ q. IsBelow next q.id) ps → AllByRecursion (λ q. IsOther k q.id) ps → AllByRecursion (λ q. IsOther (option_or k (Some next)) q.id) ps
  from_begun k [] b a = tt
  from_begun k (q ∷ qs) b a = (from_other next k q.id b.0 a.0, from_begun k qs b.1 a.1)

  apart_begun : (low : ℕ) (ps : List Publish) → Rising number_of low ps → AreApart next ps → AreApart (next + 1) (map begin ps)
  apart_begun low [] r a = tt
  apart_begun low (p ∷ ps) r a = (taken_below next p.id (p.number == number && true) a.0, by (p.number == number) refl, apart_begun p.number ps r.1 a.2)
    where
      equal : (m n : ℕ) → (m == n) ≡ true → n ≤ m
      equal m n e = grind (arith, nat_tests)

      by : (b : Bool) → (p.number == number) ≡ b → AllByRecursion (λ q. IsOther (cond (b && true) (option_or p.id (Some next)) p.id) q.id) (map begin ps)
      by true e = subst (λ qs. AllByRecursion (λ q. IsOther (option_or p.id (Some next)) q.id) qs) (sym (same_behind p.number ps (equal p.number number e) r.1)) (from_begun p.id ps (below_all next ps a.2) a.1)
      by false e = others_begun p.id ps a.0 a.1

-- the next one after a frame
not_again : (next : ℕ) → next < 2 ^ 32 → ((next + 1) % 2 ^ 32 == 0) ≡ false → (next + 1 < 2 ^ 32) × ((next + 1) % 2 ^ 32 ≡ next + 1)
not_again next lt e = elim (cases_lt (next + 1) (2 ^ 32)) [
  | inl less ↦ (less, mod-eq_of_lt less)
  | inr over ↦ absurd (let last : next + 1 ≡ 2 ^ 32 = omega arith in let again : ((next + 1) % 2 ^ 32 == 0) ≡ true = ap (λ n. n % 2 ^ 32 == 0) last in cc)
]

pub ids_framed : (number : ℕ) (first : Bool) (count next later : ℕ) {items now : List Publish} → Rising number_of 0 items → now ≡ map (framed number first next count) items → later ≡ cond first ((next + 1) % 2 ^ 32) next → (first && later == 0) ≡ false → HaveIds next items → HaveIds later now
ids_framed number false count next later {items} {now} rising e is again h =
    subst (λ n. HaveIds n now) (sym is) (ids_map (framed number false next count) same next e h)
  where
    none : (b : Bool) (k : Option ℕ) → cond (b && false) (option_or k (Some next)) k ≡ k
    none true k = refl
    none false k = refl

    same : (p : Publish) → (framed number false next count p).id ≡ p.id
    same p = none (p.number == number) p.id
ids_framed number true count next later {items} {now} rising e is again h =
    let next_is = not_again next h.bound (ap (λ n. n == 0) (sym is) ∙ again) in
    subst (λ n. HaveIds n now) (sym (is ∙ next_is.1))
    (record { bound = next_is.0; apart = subst (AreApart (next + 1)) (sym e) (apart_begun number count next 0 items rising h.apart) })

pub neither : (a b : Bool) → (a || b) ≡ false → (a ≡ false) × (b ≡ false)
neither true b e = absurd (cc)
neither false b e = (refl, e)

-- an outcome of one delivery-id

self_past : (first : ℕ) → first < 2 ^ 32 → past first first ≡ 0
self_past first within = let all : first + (2 ^ 32 - first) ≡ 2 ^ 32 = omega arith in ap (λ n. n % 2 ^ 32) all

none_past : (id first : ℕ) → id < 2 ^ 32 → first < 2 ^ 32 → past id first ≡ 0 → id ≡ first
none_past id first under within e = elim (cases_lt id first) [
  | inl less ↦ let lt : id + (2 ^ 32 - first) < 2 ^ 32 = omega arith in
      let is : id + (2 ^ 32 - first) ≡ 0 = sym (mod-eq_of_lt lt) ∙ e in
      absurd (omega arith)
  | inr over ↦ let rest : 1 * 2 ^ 32 + (id - first) ≡ id + (2 ^ 32 - first) = omega arith in
      let is : id - first ≡ 0 = sym (mod-mul-add 1 (2 ^ 32) (id - first) (omega arith)) ∙ ap (λ n. n % 2 ^ 32) rest ∙ e in
      omega arith
]

same_id : (id first : ℕ) → id < 2 ^ 32 → first < 2 ^ 32 → nat_le (past id first) (past first first) ≡ true → id ≡ first
same_id id first under within e = none_past id first under within (zero_of (past id first) (past first first) (self_past first within) e)
  where
    zero_of : (m n : ℕ) → n ≡ 0 → nat_le m n ≡ true → m ≡ 0
    zero_of m n is e = grind (arith, nat_tests)

and_false : (b : Bool) → (b && false) ≡ false
and_false true = refl
and_false false = refl

-- another transfer isn't told
told_other : (first next : ℕ) (p : Publish) → first < 2 ^ 32 → next < 2 ^ 32 → IsBelow next p.id → IsOther (Some first) p.id → is_told first first p ≡ false
told_other first next p within bound below other = by p.id refl below other
  where
    by : (k : Option ℕ) → p.id ≡ k → IsBelow next k → IsOther (Some first) k → is_told first first p ≡ false
    by None e b o = ap (λ i. has_no_outcome p.answer && in_range first first i) e ∙ and_false _
    by (Some id) e b o = ap (λ i. has_no_outcome p.answer && in_range first first i) e ∙ no (nat_le (past id first) (past first first)) refl
      where
        no : (t : Bool) → nat_le (past id first) (past first first) ≡ t → (has_no_outcome p.answer && t) ≡ false
        no true is = let under : id < next = b in absurd (o (sym (same_id id first (omega arith) within is)))
        no false is = and_false _

told_id : (first next : ℕ) (k : Option ℕ) (b : Bool) → first < 2 ^ 32 → next < 2 ^ 32 → IsBelow next k → (b && in_range first first k) ≡ true → k ≡ Some first
told_id first next None b within bound below e = absurd (let no : false ≡ true = sym (and_false b) ∙ e in cc)
told_id first next (Some id) true within bound below e = let under : id < next = below in ap Some (same_id id first (omega arith) within e)
told_id first next (Some id) false within bound below e = absurd (cc)

apart_at : (next : ℕ) (ps : List Publish) (i : ℕ) (d : Publish) → AreApart next ps → i < length ps → AllByRecursion (λ q. IsOther (get_or ps i d).id q.id) (drop (i + 1) ps)
apart_at next [] i d a lt = absurd (omega arith)
apart_at next (p ∷ ps) zero d a lt = a.1
apart_at next (p ∷ ps) (suc i) d a lt =
    let more : suc i + 1 ≡ suc (i + 1) = omega arith in
    subst (λ k. AllByRecursion (λ q. IsOther (get_or ps i d).id q.id) (drop k (p ∷ ps))) (sym more) (apart_at next ps i d a.2 (omega arith))

-- where the delivery-ids are apart, none behind the first that an outcome of one id tells
alone_told : (first : ℕ) (outcome : Outcome) (place next settled : ℕ) (items : List Publish) → first < 2 ^ 32 → HaveIds next items → settled ≤ length items → place ≡ place_from (is_told first first) settled items → place < length items → map (told first first outcome) (drop (place + 1) items) ≡ drop (place + 1) items
alone_told first outcome place next settled items within h le e lt =
    map_same (told first first outcome) (drop (place + 1) items)
    (same (drop (place + 1) items) (all_drop _ (place + 1) items (below_all next items h.apart)) (subst (λ k. AllByRecursion (λ q. IsOther k q.id) (drop (place + 1) items)) named (apart_at next items place d h.apart lt)))
  where
    d : Publish
    d = new_publish 0 0 None [] []

    n : ℕ
    n = position_or_len (is_told first first) (drop settled items)

    at : place ≡ settled + n
    at = e ∙ place_is (is_told first first) settled items le

    ahead : n < length (drop settled items)
    ahead = let long : length (drop settled items) ≡ length items - settled = length-drop settled items in omega (arith, at)

    tells : is_told first first (get_or items place d) ≡ true
    tells = ap (λ k. is_told first first (get_or items k d)) at ∙ ap (is_told first first) (sym (get_or-drop settled items n d)) ∙ passes_at_first (is_told first first) (drop settled items) d ahead

    named : (get_or items place d).id ≡ Some first
    named = told_id first next (get_or items place d).id (has_no_outcome (get_or items place d).answer) within h.bound (all_at (λ q. IsBelow next q.id) items place d (below_all next items h.apart) lt) tells

    same : (ps : List Publish) → AllByRecursion (λ q. IsBelow next q.id) ps → AllByRecursion (λ q. IsOther (Some first) q.id) ps → AllByRecursion (λ p. told first first outcome p ≡ p) ps
    same [] b o = tt
    same (p ∷ ps) b o = (told_same first first outcome p (told_other first next p within h.bound b.0 o.0), same ps b.1 o.1)

-- the publishes that an outcome may tell stand before this end
pub record IsEnd (f : Publish → Publish) (place end : ℕ) (items : List Publish) : Type 0 where
  pub order : place ≤ end
  pub within : end ≤ length items
  pub behind : map f (drop end items) ≡ drop end items

pub told_end : (first last : ℕ) (outcome : Outcome) (wrapped : Bool) (place end len next settled : ℕ) (items seen : List Publish) → first < 2 ^ 32 → (wrapped ≡ false → HaveIds next items) → settled ≤ length items → seen ≡ items → place ≡ place_from (is_told first last) settled seen → place ≤ length items → len ≡ length items
    → end ≡ end_at (first == last && not wrapped) place len → IsEnd (told first last outcome) place end items
told_end first last outcome wrapped place end len next settled items seen within ids le same e most long is = by (first == last) wrapped refl refl is
  where
    at : place ≡ place_from (is_told first last) settled items
    at = e ∙ ap (place_from (is_told first last) settled) same

    whole : end ≡ len → IsEnd (told first last outcome) place end items
    whole is =
        let none : drop end items ≡ [] = drop_of_length-le items (omega arith) in
        record { order = omega arith; within = omega arith; behind = ap (map (told first last outcome)) none ∙ sym none }

    equal : (m n : ℕ) → (m == n) ≡ true → m ≡ n
    equal m n e = grind (arith, nat_tests)

    less : (m n : ℕ) → nat_lt m n ≡ true → m < n
    less m n e = grind (arith, nat_tests)

    one : (first == last) ≡ true → HaveIds next items → (t : Bool) → nat_lt place len ≡ t → end ≡ cond t (place + 1) len → IsEnd (told first last outcome) place end items
    one is_one h true lt is =
        let under : place < len = less place len lt in
        let id : first ≡ last = equal first last is_one in
        record {
          order = omega arith;
          within = omega arith;
          behind = subst (λ k. map (told first last outcome) (drop k items) ≡ drop k items) (sym is)
              (subst (λ l. map (told first l outcome) (drop (place + 1) items) ≡ drop (place + 1) items) id
              (alone_told first outcome place next settled items within h le (at ∙ ap (λ l. place_from (is_told first l) settled items) (sym id)) (omega arith)));
        }
    one is_one h false lt is = whole is

    by : (b w : Bool) → (first == last) ≡ b → wrapped ≡ w → end ≡ end_at (b && not w) place len → IsEnd (told first last outcome) place end items
    by true false is_one not_wrapped is = one is_one (ids not_wrapped) (nat_lt place len) refl is
    by true true is_one not_wrapped is = whole is
    by false w is_one not_wrapped is = whole is
