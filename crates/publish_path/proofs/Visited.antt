-- Changes of some publishes, where the others are left as they are.
use Rattle.std.proofs.Common.{◌≡◌, ◌∙◌, ℕ, ◌+◌, ◌-◌, ◌^◌, ◌≤◌, ◌<◌, List, [], ◌∷◌, Bool, true}
use Rattle.std.proofs.Common.{false, refl, sym, ap, subst, arith, Option, Some, None, cond, map}
use Rattle.std.proofs.Common.{drop, length, get_or, set}
use Rattle.std.specs.Prelude.{not, ◌&&◌, ◌||◌, ◌==◌, nat_le, nat_lt}
use Rattle.std.specs.List.{AllByRecursion, sum_by}
use Rattle.std.proofs.lemmas.Grind.{common_steps}
use Rattle.std.proofs.lemmas.Bool.Decides.{nat_tests}
use Rattle.std.proofs.lemmas.List.{drop_more}
use Rattle.std.proofs.lemmas.List.Sums.{sum_by-set, get_or-le-sum_by, count_by-le-length}
use Rattle.open_items.proofs.Places.{map_same}
use Rattle.publish_path.specs.declared.publish.Publish.{Publish}
use Rattle.publish_path.specs.declared.publish.Confirm.{Confirm}
use Rattle.publish_path.specs.declared.publish.Outcome.{Outcome}
use Rattle.publish_path.specs.declared.publish.Answer.{Answer}
use Rattle.publish_path.specs.declared.publish.Answer.TheVariants.{Open, Owed, Settled}
use Rattle.publish_path.specs.declared.changes.Change.{Change}
use Rattle.publish_path.specs.declared.counts.Counts.{Counts}
use Rattle.publish_path.specs.Publishes.{framed, takes, is_settled, has_no_outcome, due_for, is_told}
use Rattle.publish_path.specs.Publishes.{told, covers, confirmed, returned, takes_return, owes_return}
use Rattle.publish_path.specs.Publishes.{is_accepted, is_released, changed}
use Rattle.publish_path.specs.Offers.{is_held, held_size}
use Rattle.publish_path.specs.Offers.{number_or}
use Rattle.publish_path.specs.Kept.{Above, Climbs, is_unsettled, owes, has_line, is_past, count_of}
use Rattle.publish_path.specs.Kept.{counts_of, exchanged, CanExchange}
use Rattle.publish_path.proofs.Ordered.{climbs_drop}
use Rattle.publish_path.proofs.Steps.{held_before, size_before}

-- what is left as it is

and_false : (b : Bool) → (b && false) ≡ false
and_false true = refl
and_false false = refl

pub told_same : (first last : ℕ) (outcome : Outcome) (p : Publish) → is_told first last p ≡ false → told first last outcome p ≡ p
told_same first last outcome p e =
    ap (λ b. record p { answer = cond b (due_for p.confirm (is_accepted outcome)) p.answer; back = cond (b && not (is_released outcome)) [] p.back }) e

settled_same : (c : Confirm) (p : Publish) (answer : Answer) → p.answer ≡ answer → not (is_settled answer) ≡ false → confirmed c p ≡ p
settled_same c p Open is e = absurd (cc)
settled_same c p (Owed ack) is e = absurd (cc)
settled_same c p Settled is e =
    ap (λ a. record p { answer = cond (covers c p.confirm) Settled a; back = cond (has_no_outcome a && covers c p.confirm) [] p.back }) is ∙ by (covers c p.confirm)
  where
    by : (b : Bool) → record p { answer = cond b Settled Settled } ≡ p
    by true = ap (λ a. record p { answer = a }) (sym is)
    by false = ap (λ a. record p { answer = a }) (sym is)

pub confirmed_same : (c : Confirm) (p : Publish) → is_unsettled p ≡ false → confirmed c p ≡ p
confirmed_same c p e = settled_same c p p.answer refl e

past_covers : (c : Confirm) (number : ℕ) → c.number < number → (number == c.number || (c.multiple && nat_le number c.number)) ≡ false
past_covers c number lt = grind (arith, nat_tests, common_steps)

uncovered : (c : Confirm) (p : Publish) → covers c p.confirm ≡ false → confirmed c p ≡ p
uncovered c p e =
    ap (λ b. record p { answer = cond b Settled p.answer; back = cond (has_no_outcome p.answer && b) [] p.back }) e
    ∙ ap (λ b. record p { back = cond b [] p.back }) (and_false (has_no_outcome p.answer))

-- behind a number that is past the confirm's, none is covered
past_all : (c : Confirm) (low high : ℕ) (ps : List Publish) → c.number ≤ low → Climbs low high ps → AllByRecursion (λ p. confirmed c p ≡ p) ps
past_all c low high [] le climbs = tt
past_all c low high (p ∷ ps) le climbs = by p.confirm refl climbs.0 climbs.1 (λ m within d. past_all c m high ps within d)
  where
    by : (k : Option ℕ) → p.confirm ≡ k → Above low k → Climbs (number_or low k) high ps → ((m : ℕ) → c.number ≤ m → Climbs m high ps → AllByRecursion (λ p. confirmed c p ≡ p) ps) → (confirmed c p ≡ p) × AllByRecursion (λ p. confirmed c p ≡ p) ps
    by None is a d rec = (uncovered c p (ap (covers c) is), rec low le d)
    by (Some k) is a d rec = (uncovered c p (ap (covers c) is ∙ past_covers c k (omega arith)), rec k (omega arith) d)

past_rest : (c : Confirm) (low high : ℕ) (p : Publish) (ps : List Publish) → is_past c p.confirm ≡ true → Climbs low high (p ∷ ps) → AllByRecursion (λ p. confirmed c p ≡ p) (p ∷ ps)
past_rest c low high p ps past climbs = by p.confirm refl past climbs.1
  where
    by : (k : Option ℕ) → p.confirm ≡ k → is_past c k ≡ true → Climbs (number_or low k) high ps → (confirmed c p ≡ p) × AllByRecursion (λ p. confirmed c p ≡ p) ps
    by None is past d = absurd (cc)
    by (Some k) is past d =
        let lt : c.number < k = above c.number k past in
        (uncovered c p (ap (covers c) is ∙ past_covers c k lt), past_all c k high ps (omega arith) d)
      where
        above : (m n : ℕ) → nat_lt m n ≡ true → m < n
        above m n e = grind (arith, nat_tests)

pub past_same : (c : Confirm) (high : ℕ) (items : List Publish) (place : ℕ) (d : Publish) → place < length items → is_past c (get_or items place d).confirm ≡ true → Climbs 0 high items → map (confirmed c) (drop place items) ≡ drop place items
past_same c high items place d lt past climbs =
    let x = get_or items place d in
    let more = climbs_drop 0 high items place climbs in
    let is : drop place items ≡ x ∷ drop (place + 1) items = drop_more items place d lt in
    map_same (confirmed c) (drop place items)
    (subst (λ ps. AllByRecursion (λ p. confirmed c p ≡ p) ps) (sym is)
    (past_rest c more.0 high x (drop (place + 1) items) past (subst (Climbs more.0 high) is more.2)))

other_number : (m n : ℕ) → (m ≡ n → ⊥) → (m == n) ≡ false
other_number m n ne = grind (arith, nat_tests)

pub framed_other : (number : ℕ) (first : Bool) (id count : ℕ) (p : Publish) → (p.number ≡ number → ⊥) → framed number first id count p ≡ p
framed_other number first id count p ne = let e : (p.number == number) ≡ false = other_number p.number number ne in rw e refl

pub returned_other : (number : ℕ) (p : Publish) → (p.number ≡ number → ⊥) → returned number p ≡ p
returned_other number p ne = let e : (p.number == number) ≡ false = other_number p.number number ne in rw e refl

pub takes_number : (number : ℕ) (p : Publish) → takes number p ≡ true → p.number ≡ number
takes_number number p e = grind (arith, nat_tests, common_steps)

pub returns_number : (number : ℕ) (p : Publish) → takes_return number p ≡ true → p.number ≡ number
returns_number number p e = grind (arith, nat_tests, common_steps)

-- what is counted

less_added : (n before after sum later : ℕ) → n ≡ sum → before ≤ sum → later + before ≡ sum + after → n - before + after ≡ later
less_added n before after sum later e le f = omega arith

pub same_counts : (a b : Counts) → a.held ≡ b.held → a.bytes ≡ b.bytes → a.owed ≡ b.owed → a.returns ≡ b.returns → a.lines ≡ b.lines → a ≡ b
same_counts a b held bytes owed returns lines =
    ap (λ n. record { held = n; bytes = a.bytes; owed = a.owed; returns = a.returns; lines = a.lines }) held
    ∙ ap (λ n. record { held = b.held; bytes = n; owed = a.owed; returns = a.returns; lines = a.lines }) bytes
    ∙ ap (λ n. record { held = b.held; bytes = b.bytes; owed = n; returns = a.returns; lines = a.lines }) owed
    ∙ ap (λ n. record { held = b.held; bytes = b.bytes; owed = b.owed; returns = n; lines = a.lines }) returns
    ∙ ap (λ n. record { held = b.held; bytes = b.bytes; owed = b.owed; returns = b.returns; lines = n }) lines

module _ (items : List Publish) (counts : Counts) (i : ℕ) (x : Publish) (within : i < length items) (here : x ≡ get_or items i x) (counted : counts ≡ counts_of items) where
  gave : (g : Publish → ℕ) → g x ≤ sum_by g items
  gave g = subst (λ p. g p ≤ sum_by g items) (sym here) (get_or-le-sum_by g items i x within)

  -- one that changes in its place
  pub exchanged_is : (y : Publish) → exchanged counts (count_of x) (count_of y) ≡ counts_of (set items i y)
  exchanged_is y =
      same_counts _ (counts_of (set items i y))
      (now (λ p. cond (is_held p) 1 0) counts.held (ap (λ (k : Counts). k.held) counted))
      (now held_size counts.bytes (ap (λ (k : Counts). k.bytes) counted))
      (now (λ p. cond (owes p) 1 0) counts.owed (ap (λ (k : Counts). k.owed) counted))
      (now (λ p. cond (owes_return p) 1 0) counts.returns (ap (λ (k : Counts). k.returns) counted))
      (now (λ p. cond (has_line p) 1 0) counts.lines (ap (λ (k : Counts). k.lines) counted))
    where
      now : (g : Publish → ℕ) (n : ℕ) → n ≡ sum_by g items → n - g x + g y ≡ sum_by g (set items i y)
      now g n e = less_added n (g x) (g y) (sum_by g items) _ e (gave g)
          (ap (λ p. sum_by g (set items i y) + g p) here ∙ sum_by-set g items i y x within)

  at_most_one : (b : Bool) → cond b 1 0 ≤ 1
  at_most_one true = omega arith
  at_most_one false = omega arith

  one_falls : (later before : Bool) → (later ≡ true → before ≡ true) → cond later 1 0 ≤ cond before 1 0
  one_falls true true f = omega arith
  one_falls true false f = absurd (let no = f refl in cc)
  one_falls false before f = omega arith

  pub can_exchange : (change : Change) → length items < 2 ^ 63 → CanExchange counts (count_of x) (count_of (changed change x))
  can_exchange change long = record {
    held = held;
    bytes = bytes;
    owed = owed;
    returns = returns;
    lines = lines;
    held_falls = one_falls (is_held (changed change x)) (is_held x) (held_before change x);
    bytes_fall = size_before change x;
    owed_fits = rises_in _ _ _ _ (ap (λ (k : Counts). k.owed) counted) (count_by-le-length owes items) (at_most_one (owes (changed change x)));
    returns_fit = rises_in _ _ _ _ (ap (λ (k : Counts). k.returns) counted) (count_by-le-length owes_return items) (at_most_one (owes_return (changed change x)));
    lines_fit = rises_in _ _ _ _ (ap (λ (k : Counts). k.lines) counted) (count_by-le-length has_line items) (at_most_one (has_line (changed change x)));
  }
    where
      held : cond (is_held x) 1 0 ≤ counts.held
      held = subst (λ n. cond (is_held x) 1 0 ≤ n) (sym (ap (λ (k : Counts). k.held) counted)) (gave (λ p. cond (is_held p) 1 0))

      bytes : held_size x ≤ counts.bytes
      bytes = subst (λ n. held_size x ≤ n) (sym (ap (λ (k : Counts). k.bytes) counted)) (gave held_size)

      owed : cond (owes x) 1 0 ≤ counts.owed
      owed = subst (λ n. cond (owes x) 1 0 ≤ n) (sym (ap (λ (k : Counts). k.owed) counted)) (gave (λ p. cond (owes p) 1 0))

      returns : cond (owes_return x) 1 0 ≤ counts.returns
      returns = subst (λ n. cond (owes_return x) 1 0 ≤ n) (sym (ap (λ (k : Counts). k.returns) counted)) (gave (λ p. cond (owes_return p) 1 0))

      lines : cond (has_line x) 1 0 ≤ counts.lines
      lines = subst (λ n. cond (has_line x) 1 0 ≤ n) (sym (ap (λ (k : Counts). k.lines) counted)) (gave (λ p. cond (has_line p) 1 0))

      rises_in : (n sum before after : ℕ) → n ≡ sum → sum ≤ length items → after ≤ 1 → n - before + after < 2 ^ 64
      rises_in n sum before after e le one = omega arith
