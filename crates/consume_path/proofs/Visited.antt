-- Changes of some deliveries, where the others are left as they are, and what is counted then.
use Rattle.std.proofs.Common.{◌≡◌, ◌∙◌, ℕ, ◌+◌, ◌-◌, ◌^◌, ◌≤◌, ◌<◌, List, [], ◌∷◌, ◌++◌, Bool, true}
use Rattle.std.proofs.Common.{false, refl, sym, ap, subst, arith, map, length, get_or}
use Rattle.std.proofs.Common.{set}
use Rattle.std.specs.Prelude.{count_by, is_some, nat_lt}
use Rattle.std.proofs.lemmas.Bool.Decides.{nat_tests}
use Rattle.std.proofs.lemmas.List.Sums.{sum_by-set, sum_by_push, get_or-le-sum_by}
use Rattle.std.proofs.lemmas.List.Sums.{count_by-le-length}
use Rattle.links_10.specs.Recv.{recounted}
use Rattle.consume_path.specs.declared.delivery.Delivery.{Delivery}
use Rattle.consume_path.specs.declared.receiving.ReceivingLink.{ReceivingLink}
use Rattle.consume_path.specs.declared.tallies.Counts.{Counts}
use Rattle.consume_path.specs.Links.{counts_on, one_if, one_more, recount}
use Rattle.consume_path.specs.Kept.{has_line, is_writing, is_owing, is_waiting, tally_of, no_tally, exchanged}
use Rattle.consume_path.specs.Kept.{counts_of, counts_after, tallied}
use Rattle.consume_path.specs.Offers.{is_unsettled}

-- what is counted

-- one of so many passes, or another does
pub exchange_is : (before after : Bool) (n later : ℕ) → one_if before ≤ n → n + 1 < 2 ^ 64 → later + one_if before ≡ n + one_if after → exchanged before after n ≡ later
exchange_is before true n later le fits e = more (n - one_if before) (omega arith) ∙ omega arith
  where
    more : (k : ℕ) → k + 1 < 2 ^ 64 → one_more k ≡ k + 1
    more k lt = let is : nat_lt (k + 1) (2 ^ 64) ≡ true = grind (arith, nat_tests) in rw is refl
exchange_is before false n later le fits e = omega arith

none_more : (n : ℕ) → n ≡ n + 0
none_more n = omega arith

pub at_most_one : (b : Bool) → one_if b ≤ 1
at_most_one true = omega arith
at_most_one false = omega arith

-- all counts
abbrev pub counts_as : ℕ → ℕ → ℕ → ℕ → ℕ → Counts
counts_as lines writing owed unsettled waiting =
    record { lines = lines; writing = writing; owed = owed; unsettled = unsettled; waiting = waiting }

-- they are the same where each is
pub all_same : {a b c d e k l m n o : ℕ} → a ≡ k → b ≡ l → c ≡ m → d ≡ n → e ≡ o → counts_as a b c d e ≡ counts_as k l m n o
all_same {a} {b} {c} {d} {e} {k} {l} {m} {n} {o} lines writing owed unsettled waiting =
    ap (λ i. counts_as i b c d e) lines ∙ ap (λ i. counts_as k i c d e) writing ∙ ap (λ i. counts_as k l i d e) owed ∙ ap (λ i. counts_as k l m i e) unsettled
    ∙ ap (λ i. counts_as k l m n i) waiting

module _ (items : List Delivery) (i : ℕ) (x y : Delivery) (within : i < length items) (long : length items < 2 ^ 63) (here : x ≡ get_or items i x) where
  -- as many pass a test, once one delivery changed, beside p more
  count_is : (t : Delivery → Bool) (p : ℕ) → p ≤ 1 → exchanged (t x) (t y) (count_by t items + p) ≡ count_by t (set items i y) + p
  count_is t p one =
      let most : count_by t items ≤ length items = count_by-le-length t items in
      let gave : one_if (t x) ≤ count_by t items = subst (λ d. one_if (t d) ≤ count_by t items) (sym here) (get_or-le-sum_by (λ d. one_if (t d)) items i x within) in
      let sums : count_by t (set items i y) + one_if (t x) ≡ count_by t items + one_if (t y) = ap (λ d. count_by t (set items i y) + one_if (t d)) here ∙ sum_by-set (λ d. one_if (t d)) items i y x within in
      exchange_is (t x) (t y) _ _ (omega arith) (omega arith) (omega arith)

  pub counts_is : (counts : Counts) → counts ≡ counts_of items → counts_after (tally_of x) (tally_of y) counts ≡ counts_of (set items i y)
  counts_is counts e =
      ap (counts_after (tally_of x) (tally_of y)) e ∙ all_same (alone has_line) (alone is_writing) (alone is_owing) (alone is_unsettled) (alone is_waiting)
    where
      alone : (t : Delivery → Bool) → exchanged (t x) (t y) (count_by t items) ≡ count_by t (set items i y)
      alone t = ap (exchanged (t x) (t y)) (none_more (count_by t items)) ∙ count_is t 0 (omega arith) ∙ sym (none_more (count_by t (set items i y)))

  -- as many count on each link
  pub tallied_is : (links : List ReceivingLink) → map (tallied (tally_of x) (tally_of y)) (map (recount items) links) ≡ map (recount (set items i y)) links
  tallied_is [] = refl
  tallied_is (l ∷ ls) =
      ap (λ n. record l { state = recounted n l.state } ∷ map (tallied (tally_of x) (tally_of y)) (map (recount items) ls)) (count_is (counts_on l.link) (one_if (is_some l.partial)) (at_most_one (is_some l.partial)))
      ∙ ap (λ xs. recount (set items i y) l ∷ xs) (tallied_is ls)

module _ (items : List Delivery) (d : Delivery) (long : length items < 2 ^ 63) where
  one_added : (t : Delivery → Bool) (p : ℕ) → p ≤ 1 → exchanged false (t d) (count_by t items + p) ≡ count_by t (items ++ d ∷ []) + p
  one_added t p one =
      let most : count_by t items ≤ length items = count_by-le-length t items in
      let push : count_by t (items ++ d ∷ []) ≡ count_by t items + one_if (t d) = sum_by_push (λ x. one_if (t x)) items d in
      exchange_is false (t d) _ _ (omega arith) (omega arith) (omega arith)

  pub counts_push : (counts : Counts) → counts ≡ counts_of items → counts_after no_tally (tally_of d) counts ≡ counts_of (items ++ d ∷ [])
  counts_push counts e =
      ap (counts_after no_tally (tally_of d)) e ∙ all_same (alone has_line) (alone is_writing) (alone is_owing) (alone is_unsettled) (alone is_waiting)
    where
      alone : (t : Delivery → Bool) → exchanged false (t d) (count_by t items) ≡ count_by t (items ++ d ∷ [])
      alone t = ap (exchanged false (t d)) (none_more (count_by t items)) ∙ one_added t 0 (omega arith) ∙ sym (none_more (count_by t (items ++ d ∷ [])))

  pub tallied_push : (links : List ReceivingLink) → map (tallied no_tally (tally_of d)) (map (recount items) links) ≡ map (recount (items ++ d ∷ [])) links
  tallied_push [] = refl
  tallied_push (l ∷ ls) =
      ap (λ n. record l { state = recounted n l.state } ∷ map (tallied no_tally (tally_of d)) (map (recount items) ls)) (one_added (counts_on l.link) (one_if (is_some l.partial)) (at_most_one (is_some l.partial)))
      ∙ ap (λ xs. recount (items ++ d ∷ []) l ∷ xs) (tallied_push ls)
