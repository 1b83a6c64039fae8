-- The link whose detach is due: that of the lower number of one that is to part, and one that is
-- given up for its handle, the lowest among those on which nothing is under way.
use Rattle.std.proofs.Common.{◌≡◌, List, [], ◌∷◌, Bool, true, false, Option, Some}
use Rattle.std.proofs.Common.{None, refl, sym, ap, subst, cond, ◌∙◌, ℕ, ◌+◌, ◌<◌, arith, length}
use Rattle.std.proofs.Common.{drop, get_or}
use Rattle.std.proofs.lemmas.Bool.Decides.{nat_tests}
use Rattle.std.proofs.lemmas.List.{drop_more}
use Rattle.std.specs.Prelude.{filter, find, nat_lt, not, ◌&&◌, ◌||◌, IfSome}
use Rattle.std.specs.List.{AllByRecursion}
use Rattle.open_items.proofs.Filtered.{all_filter}
use Rattle.publish_path.specs.declared.publish.Publish.{Publish}
use Rattle.session_path.specs.declared.path.PathLink.{PathLink}
use Rattle.session_path.specs.declared.path.PathOk.{PathOk}
use Rattle.consume_path.specs.Deliveries.{DeliveryState}
use Rattle.consume_path.specs.Offers.{holds, is_over}
use Rattle.session_path.specs.Links.{LinksState, Rises, handle_of, has_number, is_failed, is_left}
use Rattle.session_path.specs.Links.{is_stage_failed, is_stage_open}
use Rattle.session_path.specs.Links.{is_wanting, lower, lower_if, lowest}
use Rattle.session_path.specs.Path.{IsThere, detaching_in, given_of, is_idle, lower_of, parts}
use Rattle.session_path.proofs.Ties.{and_left, found_passes, found_there, numbers_found, or_left}
use Rattle.session_path.proofs.Ties.{or_right}

-- it is one of them

lowest_has : (P : PathLink → Type 0) (ls : List PathLink) (l : PathLink) → AllByRecursion P ls → lowest ls ≡ Some l → P l
lowest_has P [] l a e = absurd (cc)
lowest_has P (y ∷ ys) l a e = by (lowest ys) (λ k f. lowest_has P ys k a.1 f) e
  where
    by : (o : Option PathLink) → ((k : PathLink) → o ≡ Some k → P k) → Some (lower y o) ≡ Some l → P l
    by None ih e = let same : y ≡ l = cc in subst P same a.0
    by (Some k) ih e = pick (nat_lt (handle_of k.stage) (handle_of y.stage)) e
      where
        pick : (b : Bool) → Some (cond b k y) ≡ Some l → P l
        pick true e = let same : k ≡ l = cc in subst P same (ih k refl)
        pick false e = let same : y ≡ l = cc in subst P same a.0

all_pass : (p : PathLink → Bool) (ls : List PathLink) → AllByRecursion (λ k. p k ≡ true) (filter p ls)
all_pass p [] = tt
all_pass p (l ∷ ls) = by (p l) refl (all_pass p ls)
  where
    by : (b : Bool) → p l ≡ b → AllByRecursion (λ k. p k ≡ true) (filter p ls) → AllByRecursion (λ k. p k ≡ true) (cond b (l ∷ filter p ls) (filter p ls))
    by true e ih = (e, ih)
    by false e ih = ih

lowest_found : (p : PathLink → Bool) (ls : List PathLink) (l : PathLink) → Rises 0 ls → lowest (filter p ls) ≡ Some l → find (has_number l.link) ls ≡ Some l
lowest_found p ls l r e = lowest_has (λ k. find (has_number k.link) ls ≡ Some k) (filter p ls) l (all_filter p _ ls (numbers_found 0 ls r)) e

lowest_passes : (p : PathLink → Bool) (ls : List PathLink) (l : PathLink) → lowest (filter p ls) ≡ Some l → p l ≡ true
lowest_passes p ls l e = lowest_has (λ k. p k ≡ true) (filter p ls) l (all_pass p ls) e

giving_there : (list : List Publish) (d : DeliveryState) (oks : List PathOk) (s : LinksState) → Rises 0 s.links → IfSome (given_of list d oks s) (IsThere s)
giving_there list d oks s r = by (is_wanting s)
  where
    one : (o : Option PathLink) → lowest (filter (is_idle list d oks) s.links) ≡ o → IfSome o (IsThere s)
    one None e = tt
    one (Some l) e = (lowest_found (is_idle list d oks) s.links l r e, λ off. or_left _ _ (and_left (is_stage_open l.stage) _ (lowest_passes (is_idle list d oks) s.links l e)))

    by : (b : Bool) → IfSome (cond b (lowest (filter (is_idle list d oks) s.links)) None) (IsThere s)
    by true = one (lowest (filter (is_idle list d oks) s.links)) refl
    by false = tt

-- what is to part, and the container didn't detach, is open or failed
parts_open : (left failed holds receives up over : Bool) → left ≡ false → (((left || failed) && not (receives && holds)) || ((receives && up) && over)) ≡ true → (up || failed) ≡ true
parts_open true failed holds receives up over off e = absurd cc
parts_open false true holds receives up over off e = or_right up true refl
parts_open false false holds true true over off e = refl
parts_open false false holds true false over off e = absurd cc
parts_open false false holds false up over off e = absurd cc

open_else : (d : DeliveryState) (l : PathLink) → parts d l ≡ true → is_left l ≡ false → (is_stage_open l.stage || is_stage_failed l.stage) ≡ true
open_else d l e off = parts_open (is_left l) (is_failed l) (holds l.link d.list) l.receives (is_stage_open l.stage) (is_over l.link d) off e

parting_there : (d : DeliveryState) (s : LinksState) → Rises 0 s.links → IfSome (find (parts d) s.links) (IsThere s)
parting_there d s r = by (find (parts d) s.links) refl (found_there (parts d) s.links (find (parts d) s.links) r refl)
  where
    by : (o : Option PathLink) → find (parts d) s.links ≡ o → IfSome o (λ l. find (has_number l.link) s.links ≡ Some l) → IfSome o (IsThere s)
    by None e f = tt
    by (Some l) e f = (f, open_else d l (found_passes (parts d) s.links l e))

-- the link whose detach is due is one of them
pub detaching_there : (list : List Publish) (d : DeliveryState) (oks : List PathOk) (s : LinksState) → Rises 0 s.links → IfSome (detaching_in list d oks s) (IsThere s)
detaching_there list d oks s r = either (find (parts d) s.links) (given_of list d oks s) (parting_there d s r) (giving_there list d oks s r)
  where
    either : (a b : Option PathLink) → IfSome a (IsThere s) → IfSome b (IsThere s) → IfSome (lower_of a b) (IsThere s)
    either None b x y = y
    either (Some l) None x y = x
    either (Some l) (Some k) x y = pick (nat_lt k.link l.link)
      where
        pick : (c : Bool) → IfSome (cond c (Some k) (Some l)) (IsThere s)
        pick true = y
        pick false = x

-- the search for it

-- the lowest so far, and of the rest
abbrev pub lowest_of : Option PathLink → Option PathLink → Option PathLink
lowest_of None o = o
lowest_of (Some k) o = Some (lower k o)

pub lowest_none : (best : Option PathLink) → lowest_of best None ≡ best
lowest_none None = refl
lowest_none (Some k) = refl

-- the lowest of three
best : (k m : PathLink) (o : Option PathLink) → lowest_of (cond (nat_lt (handle_of k.stage) (handle_of m.stage)) (Some k) (Some m)) o ≡ Some (lower m (Some (lower k o)))
best k m None = by (nat_lt (handle_of k.stage) (handle_of m.stage))
  where
    by : (b : Bool) → lowest_of (cond b (Some k) (Some m)) None ≡ Some (cond b k m)
    by true = refl
    by false = refl
best k m (Some j) =
    by (nat_lt (handle_of k.stage) (handle_of m.stage)) (nat_lt (handle_of j.stage) (handle_of k.stage)) (nat_lt (handle_of j.stage) (handle_of m.stage)) refl refl refl
  where
    by : (x y z : Bool) → nat_lt (handle_of k.stage) (handle_of m.stage) ≡ x → nat_lt (handle_of j.stage) (handle_of k.stage) ≡ y → nat_lt (handle_of j.stage) (handle_of m.stage) ≡ z
        → lowest_of (cond x (Some k) (Some m)) (Some j) ≡ Some (lower m (Some (cond y j k)))
    by true true true e f g = rw (f, g) refl
    by true true false e f g = absurd (grind (arith, nat_tests))
    by true false z e f g = rw (e, f) refl
    by false true z e f g = refl
    by false false true e f g = absurd (grind (arith, nat_tests))
    by false false false e f g = rw (e, g) refl

-- one more is looked at
taken : (counts : Bool) (k : PathLink) (m : Option PathLink) (ls : List PathLink) → lowest_of (lower_if counts m k) (lowest ls) ≡ lowest_of m (lowest (cond counts (k ∷ ls) ls))
taken false k m ls = refl
taken true k None ls = refl
taken true k (Some m) ls = best k m (lowest ls)

pub lowest_more : (p : PathLink → Bool) (ls : List PathLink) (i : ℕ) (l : PathLink) (b : Bool) (old new : Option PathLink) → i < length ls → b ≡ p (get_or ls i l) → new ≡ lower_if b old (get_or ls i l)
    → lowest_of new (lowest (filter p (drop (i + 1) ls))) ≡ lowest_of old (lowest (filter p (drop i ls)))
lowest_more p ls i l b old new lt counts is =
    ap (λ o. lowest_of o (lowest (filter p (drop (i + 1) ls)))) (is ∙ ap (λ c. lower_if c old (get_or ls i l)) counts)
    ∙ taken (p (get_or ls i l)) (get_or ls i l) old (filter p (drop (i + 1) ls))
    ∙ ap (λ ks. lowest_of old (lowest (filter p ks))) (sym (drop_more ls i l lt))
