-- The credit of the links that are wanted is left out, one link after another.
use Rattle.std.proofs.Common.{◌≡◌, ◌∙◌, ℕ, ◌+◌, ◌<◌, List, [], ◌∷◌, Bool, true, false, refl, sym, ap}
use Rattle.std.proofs.Common.{cond, not, length, drop, get_or, arith, Option, Some, None, ◌≤◌, inl, inr}
use Rattle.std.specs.Prelude.{◌==◌, ◌&&◌, ◌||◌, ◌⊎◌, filter, find}
use Rattle.std.specs.List.{AllByRecursion, list_any}
use Rattle.std.proofs.lemmas.Bool.Decides.{nat_tests}
use Rattle.std.proofs.lemmas.List.{drop_more}
use Rattle.open_items.proofs.Filtered.{all_filter, all_weaker}
use Rattle.publish_path.specs.declared.send_links.SendingLink.{SendingLink}
use Rattle.publish_path.specs.Links.{link_of, without}
use Rattle.session_path.specs.declared.path.PathLink.{PathLink}
use Rattle.session_path.specs.Links.{AreTied, LinksState, Rises, has_number, is_kept, is_parting, is_wanted}
use Rattle.session_path.specs.Links.{is_wanted_at, stands, without_wanted}
use Rattle.session_path.proofs.Ties.{apart_filter, eq_of, keeps, kept_filter, ne_to, none_at, rises_above, rises_filter}

module _ {X : Type 0} where
  pub filter_alike : (p q : X → Bool) → ((x : X) → p x ≡ q x) → (xs : List X) → filter p xs ≡ filter q xs
  filter_alike p q same [] = refl
  filter_alike p q same (x ∷ xs) =
      ap (λ b. cond b (x ∷ filter p xs) (filter p xs)) (same x)
      ∙ ap (λ ys. cond (q x) (x ∷ ys) ys) (filter_alike p q same xs)

  filter_twice : (p q : X → Bool) (xs : List X) → filter p (filter q xs) ≡ filter (λ x. q x && p x) xs
  filter_twice p q [] = refl
  filter_twice p q (x ∷ xs) = by (q x) (filter_twice p q xs)
    where
      by : (b : Bool) → filter p (filter q xs) ≡ filter (λ y. q y && p y) xs
          → filter p (cond b (x ∷ filter q xs) (filter q xs)) ≡ cond (b && p x) (x ∷ filter (λ y. q y && p y) xs) (filter (λ y. q y && p y) xs)
      by true ih = ap (λ ys. cond (p x) (x ∷ ys) ys) ih
      by false ih = ih

  all_pass : (xs : List X) → filter (λ x. true) xs ≡ xs
  all_pass [] = refl
  all_pass (x ∷ xs) = ap (λ ys. x ∷ ys) (all_pass xs)

-- those that none of these links is wanted for
abbrev pub left_of : List PathLink → List SendingLink → List SendingLink
left_of links sending = filter (λ x. not (is_wanted_at links x)) sending

pub none_left_out : (xs : List SendingLink) → left_of [] xs ≡ xs
none_left_out xs = all_pass xs

turned : (m n : ℕ) → (m == n) ≡ (n == m)
turned m n = grind (arith, nat_tests)

one : (l : PathLink) (ls : List PathLink) (xs : List SendingLink) → is_wanted l ≡ true → left_of ls (without l.link xs) ≡ left_of (l ∷ ls) xs
one l ls xs e = filter_twice _ _ xs ∙ filter_alike _ _ each xs
  where
    by : (a b c : Bool) → (not a && not c) ≡ not ((true && a) || c)
    by true b c = refl
    by false b c = refl

    each : (x : SendingLink) → (not (x.link == l.link) && not (is_wanted_at ls x)) ≡ not ((is_wanted l && has_number x.link l) || is_wanted_at ls x)
    each x =
        ap (λ b. not b && not (is_wanted_at ls x)) (turned x.link l.link)
        ∙ by (l.link == x.link) true (is_wanted_at ls x)
        ∙ ap (λ b. not ((b && has_number x.link l) || is_wanted_at ls x)) (sym e)

other : (l : PathLink) (ls : List PathLink) (xs : List SendingLink) → is_wanted l ≡ false → left_of ls xs ≡ left_of (l ∷ ls) xs
other l ls xs e = filter_alike _ _ (λ x. ap (λ b. not ((b && has_number x.link l) || is_wanted_at ls x)) (sym e)) xs

-- the step of the walk, at the i-th link
pub left_one : (ls : List PathLink) (i : ℕ) (l : PathLink) (xs ys : List SendingLink) → i < length ls → is_wanted (get_or ls i l) ≡ true → ys ≡ without (get_or ls i l).link xs
    → left_of (drop (i + 1) ls) ys ≡ left_of (drop i ls) xs
left_one ls i l xs ys lt e is =
    ap (left_of (drop (i + 1) ls)) is ∙ one (get_or ls i l) (drop (i + 1) ls) xs e
    ∙ ap (λ ks. left_of ks xs) (sym (drop_more ls i l lt))

pub left_other : (ls : List PathLink) (i : ℕ) (l : PathLink) (xs ys : List SendingLink) → i < length ls → is_wanted (get_or ls i l) ≡ false → ys ≡ xs
    → left_of (drop (i + 1) ls) ys ≡ left_of (drop i ls) xs
left_other ls i l xs ys lt e is =
    ap (left_of (drop (i + 1) ls)) is ∙ other (get_or ls i l) (drop (i + 1) ls) xs e
    ∙ ap (λ ks. left_of ks xs) (sym (drop_more ls i l lt))

or_none_right : (a b : Bool) → (a || b) ≡ false → b ≡ false
or_none_right true b e = absurd cc
or_none_right false b e = e

-- the credit of a link that isn't wanted is kept for a link that is left
wanted_not : (ls : List PathLink) (x : SendingLink) → is_wanted_at ls x ≡ false → AllByRecursion (λ k. not (is_wanted k) ≡ false → keeps x k ≡ false) ls
wanted_not [] x off = tt
wanted_not (l ∷ ls) x off = (by (is_wanted l) (has_number x.link l) (not (is_parting l)) (not l.receives) (is_wanted_at ls x) off, wanted_not ls x (or_none_right (is_wanted l && has_number x.link l) _ off))
  where
    by : (w a b c d : Bool) → ((w && a) || d) ≡ false → not w ≡ false → (a && b && c) ≡ false
    by true true b c d e f = absurd cc
    by true false b c d e f = refl
    by false a b c d e f = absurd cc

kept_left : (ls : List PathLink) (x : SendingLink) → is_kept ls x ≡ true → is_wanted_at ls x ≡ false → is_kept (filter (λ l. not (is_wanted l)) ls) x ≡ true
kept_left ls x e off = kept_filter (λ l. not (is_wanted l)) ls x (wanted_not ls x off) e

pub unwanted_tied : (s : LinksState) → AreTied s.sending s.links s.handles → AreTied (without_wanted s).sending (without_wanted s).links s.handles
unwanted_tied s tied = record {
  rising = rises_filter _ 0 s.links tied.rising;
  apart = apart_filter _ s.links tied.apart;
  standing = all_filter _ (λ k. stands s.handles k.stage ≡ true) s.links tied.standing;
  kept = all s.sending tied.kept;
}
  where
    all : (xs : List SendingLink) → AllByRecursion (λ x. is_kept s.links x ≡ true) xs → AllByRecursion (λ x. is_kept (filter (λ l. not (is_wanted l)) s.links) x ≡ true) (left_of s.links xs)
    all [] k = tt
    all (x ∷ xs) k = by (is_wanted_at s.links x) refl (all xs k.1)
      where
        by : (b : Bool) → is_wanted_at s.links x ≡ b → AllByRecursion (λ y. is_kept (filter (λ l. not (is_wanted l)) s.links) y ≡ true) (left_of s.links xs)
            → AllByRecursion (λ y. is_kept (filter (λ l. not (is_wanted l)) s.links) y ≡ true) (cond (not b) (x ∷ left_of s.links xs) (left_of s.links xs))
        by true e ih = ih
        by false e ih = (kept_left s.links x k.0 e, ih)

-- what is left under a number: nothing where a link with it is wanted, and else what was there

abbrev pub is_wanted_under : ℕ → List PathLink → Bool
is_wanted_under n ls = list_any (λ l. is_wanted l && has_number n l) ls

none_above : (n : ℕ) (ls : List PathLink) → AllByRecursion (λ k. n + 1 ≤ k.link) ls → is_wanted_under n ls ≡ false
none_above n [] above = refl
none_above n (l ∷ ls) above =
    ap (λ b. (is_wanted l && b) || is_wanted_under n ls) (ne_to l.link n (λ same. let a = above.0 in omega arith))
    ∙ either (is_wanted l) ∙ none_above n ls above.1
  where
    either : (b : Bool) → ((b && false) || is_wanted_under n ls) ≡ is_wanted_under n ls
    either true = refl
    either false = refl

link_left : (n m : ℕ) (ls : List PathLink) → Rises m ls → find (has_number n) (filter (λ l. not (is_wanted l)) ls) ≡ cond (is_wanted_under n ls) None (find (has_number n) ls)
link_left n m [] r = refl
link_left n m (l ∷ ls) r = by (is_wanted l) (l.link == n) refl (link_left n (l.link + 1) ls r.1)
  where
    F : Option PathLink
    F = find (has_number n) (filter (λ k. not (is_wanted k)) ls)

    over : l.link ≡ n → is_wanted_under n ls ≡ false
    over same = none_above n ls (all_weaker (λ k. l.link + 1 ≤ k.link) (λ k. n + 1 ≤ k.link) (λ k le. omega arith) ls (rises_above (l.link + 1) ls r.1))

    none_found : l.link ≡ n → F ≡ cond (is_wanted_under n ls) None (find (has_number n) ls) → F ≡ None
    none_found same ih = ih ∙ ap (λ b. cond b None (find (has_number n) ls)) (over same) ∙ none_at n ls (all_weaker (λ k. l.link + 1 ≤ k.link) (λ k. (k.link == n) ≡ false) (λ k le. ne_to k.link n (λ s. omega arith)) ls (rises_above (l.link + 1) ls r.1))

    by : (w b : Bool) → (l.link == n) ≡ b → F ≡ cond (is_wanted_under n ls) None (find (has_number n) ls)
        → find (has_number n) (cond (not w) (l ∷ filter (λ k. not (is_wanted k)) ls) (filter (λ k. not (is_wanted k)) ls))
        ≡ cond ((w && (l.link == n)) || is_wanted_under n ls) None (cond (l.link == n) (Some l) (find (has_number n) ls))
    by true true e ih = none_found (eq_of l.link n e) ih ∙ sym (ap (λ b. cond (b || is_wanted_under n ls) None (cond b (Some l) (find (has_number n) ls))) e)
    by true false e ih = ih ∙ sym (ap (λ b. cond (b || is_wanted_under n ls) None (cond b (Some l) (find (has_number n) ls))) e)
    by false true e ih =
        ap (λ b. cond b (Some l) F) e
        ∙ sym (ap (λ b. cond b None (cond (l.link == n) (Some l) (find (has_number n) ls))) (over (eq_of l.link n e)) ∙ ap (λ b. cond b (Some l) (find (has_number n) ls)) e)
    by false false e ih = ap (λ b. cond b (Some l) F) e ∙ ih ∙ sym (ap (λ b. cond (is_wanted_under n ls) None (cond b (Some l) (find (has_number n) ls))) e)

sender_left : (n : ℕ) (ls : List PathLink) (xs : List SendingLink) → link_of (left_of ls xs) n ≡ cond (is_wanted_under n ls) None (link_of xs n)
sender_left n ls [] = by (is_wanted_under n ls)
  where
    by : (b : Bool) → ◌≡◌ {A = Option SendingLink} None (cond b None None)
    by true = refl
    by false = refl
sender_left n ls (x ∷ xs) = by (is_wanted_at ls x) refl (x.link == n) refl (sender_left n ls xs)
  where
    same : x.link ≡ n → is_wanted_at ls x ≡ is_wanted_under n ls
    same e = ap (λ (k : ℕ). is_wanted_under k ls) e

    by : (w : Bool) → is_wanted_at ls x ≡ w → (b : Bool) → (x.link == n) ≡ b → link_of (left_of ls xs) n ≡ cond (is_wanted_under n ls) None (link_of xs n)
        → link_of (cond (not w) (x ∷ left_of ls xs) (left_of ls xs)) n ≡ cond (is_wanted_under n ls) None (cond b (Some x) (link_of xs n))
    by true is true e ih =
        let under : is_wanted_under n ls ≡ true = sym (same (eq_of x.link n e)) ∙ is in
        ih ∙ ap (λ b. cond b None (link_of xs n)) under ∙ sym (ap (λ b. cond b None (Some x)) under)
    by true is false e ih = ih
    by false is true e ih =
        let under : is_wanted_under n ls ≡ false = sym (same (eq_of x.link n e)) ∙ is in
        ap (λ b. cond b (Some x) (link_of (left_of ls xs) n)) e ∙ sym (ap (λ b. cond b None (Some x)) under)
    by false is false e ih = ap (λ b. cond b (Some x) (link_of (left_of ls xs) n)) e ∙ ih

-- none is left under a number, or what was there
abbrev pub AreLeft : ℕ → LinksState → Type 0
AreLeft n s =
    ((link_of (without_wanted s).sending n ≡ None) × (find (has_number n) (without_wanted s).links ≡ None))
    ⊎ ((link_of (without_wanted s).sending n ≡ link_of s.sending n) × (find (has_number n) (without_wanted s).links ≡ find (has_number n) s.links))

pub are_left : (n : ℕ) (s : LinksState) → Rises 0 s.links → AreLeft n s
are_left n s r = by (is_wanted_under n s.links) (sender_left n s.links s.sending) (link_left n 0 s.links r)
  where
    by : (b : Bool) → link_of (without_wanted s).sending n ≡ cond b None (link_of s.sending n)
        → find (has_number n) (without_wanted s).links ≡ cond b None (find (has_number n) s.links) → AreLeft n s
    by true e f = inl (e, f)
    by false e f = inr (e, f)
