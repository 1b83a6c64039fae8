-- After any events, a handle of the container names the one link that is attached under it.
use Rattle.std.proofs.Common.{◌≡◌, ◌∙◌, ℕ, ◌+◌, ◌<◌, Bool, true, false, List, [], ◌∷◌, Option, Some}
use Rattle.std.proofs.Common.{None, refl, sym, ap, subst, arith, cond, length, get_or, set, inl}
use Rattle.std.proofs.Common.{inr}
use Rattle.std.specs.Prelude.{◌⊎◌, ◌↔◌, ◌==◌, ◌&&◌, position, replicate, slice_index_or, nat_lt}
use Rattle.std.proofs.lemmas.Bool.{cases_eq, cases_lt}
use Rattle.std.proofs.lemmas.Bool.Decides.{nat_tests}
use Rattle.std.specs.List.{position_or_len}
use Rattle.std.proofs.lemmas.List.Sums.{fails_before_first}
use Rattle.std.proofs.lemmas.List.{get_or-set_same, get_or-set_other, get_or_past, get_or-replicate}
use Rattle.std.proofs.lemmas.List.{length-replicate, length-set}
use Rattle.std.proofs.lemmas.List.Quantifiers.{position-Some}
use Rattle.link_table.specs.declared.handles.HandleState.{HandleState}
use Rattle.link_table.specs.declared.handles.HandleState.TheVariants.{Free, Asked, Attached}
use Rattle.link_table.specs.Table.{HandleTable, is_named, with_sent, with_read}
use Rattle.link_table.specs.Laws.{HandleEvent, Limited, Attach, PeerAttach, Detach, PeerDetach}
use Rattle.link_table.specs.Laws.{after_event, after_events, IsEvent, AreEvents, NamesLinks}

-- no two links are attached under one handle of the container
abbrev AreApart : List HandleState → Type 0
AreApart states = (i j peer : ℕ) → is_named peer (slice_index_or states i Free) ≡ true → is_named peer (slice_index_or states j Free) ≡ true → i ≡ j

at_most_length : (states : List HandleState) (i peer : ℕ) → is_named peer (get_or states i Free) ≡ true → i < length states
at_most_length states i peer is = elim (cases_lt i (length states)) [
  | inl lt ↦ lt
  | inr le ↦ absurd (let past : get_or states i Free ≡ Free = get_or_past states i Free le in let no : is_named peer Free ≡ true = subst (λ s. is_named peer s ≡ true) past is in cc)
]

-- what is attached under a handle is found by it
found : (states : List HandleState) (i peer : ℕ) → is_named peer (get_or states i Free) ≡ true → position (is_named peer) states ≡ None → ⊥
found states i peer is none = elim (cases_lt (position_or_len (is_named peer) states) (length states)) [
  | inl lt ↦ let some : position (is_named peer) states ≡ Some (position_or_len (is_named peer) states) = ap (λ b. cond b (Some (position_or_len (is_named peer) states)) None) (lt_true _ _ lt) in cc
  | inr le ↦ let within = at_most_length states i peer is in let no : is_named peer (get_or states i Free) ≡ false = fails_before_first (is_named peer) states i Free (omega arith) in cc
]
  where
    lt_true : (m n : ℕ) → m < n → nat_lt m n ≡ true
    lt_true m n lt = grind (arith, nat_tests)

-- one state is written, under whose handle no other link is attached
apart_set : (states : List HandleState) (k : ℕ) (s : HandleState) → AreApart states
    → ((peer j : ℕ) → is_named peer s ≡ true → is_named peer (get_or states j Free) ≡ true → j ≡ k)
    → AreApart (set states k s)
apart_set states k s apart alone i j peer hi hj = by (cases_eq i k) (cases_eq j k)
  where
    written : is_named peer (get_or (set states k s) k Free) ≡ true → is_named peer s ≡ true
    written is = elim (cases_lt k (length states)) [
      | inl lt ↦ subst (λ x. is_named peer x ≡ true) (get_or-set_same states k s Free lt) is
      | inr le ↦ absurd (let long : length (set states k s) ≡ length states = length-set states k s in let past : get_or (set states k s) k Free ≡ Free = get_or_past (set states k s) k Free (omega arith) in let no : is_named peer Free ≡ true = subst (λ x. is_named peer x ≡ true) past is in cc)
    ]

    at_k : (m : ℕ) → m ≡ k → is_named peer (get_or (set states k s) m Free) ≡ true → is_named peer s ≡ true
    at_k m e is = written (subst (λ n. is_named peer (get_or (set states k s) n Free) ≡ true) e is)

    other : (m : ℕ) → (m ≡ k → ⊥) → is_named peer (get_or (set states k s) m Free) ≡ true → is_named peer (get_or states m Free) ≡ true
    other m ne is = subst (λ x. is_named peer x ≡ true) (get_or-set_other states k m s Free ne) is

    by : ((i ≡ k) ⊎ (i ≡ k → ⊥)) → ((j ≡ k) ⊎ (j ≡ k → ⊥)) → i ≡ j
    by (inl a) (inl b) = a ∙ sym b
    by (inl a) (inr b) = a ∙ sym (alone peer j (at_k i a hi) (other j b hj))
    by (inr a) (inl b) = alone peer i (at_k j b hj) (other i a hi) ∙ sym b
    by (inr a) (inr b) = apart i j peer (other i a hi) (other j b hj)

sent_named : (s : HandleState) (peer : ℕ) → is_named peer (with_sent s) ≡ true → is_named peer s ≡ true
sent_named Free peer is = is
sent_named Asked peer is = is
sent_named (Attached a) peer is = by a.detach_read is
  where
    by : (b : Bool) → is_named peer (cond (true && b) Free (Attached (record a { detach_sent = true }))) ≡ true → (a.peer == peer) ≡ true
    by true is = absurd (cc)
    by false is = is

read_named : (s : HandleState) (peer : ℕ) → is_named peer (with_read s) ≡ true → is_named peer s ≡ true
read_named Free peer is = is
read_named Asked peer is = is
read_named (Attached a) peer is = by a.detach_sent is
  where
    by : (b : Bool) → is_named peer (cond (b && true) Free (Attached (record a { detach_read = true }))) ≡ true → (a.peer == peer) ≡ true
    by true is = absurd (cc)
    by false is = is

apart_step : (x : HandleEvent) (t : HandleTable) → IsEvent x t → AreApart t.states → AreApart (after_event x t).states
apart_step (Limited most) t e apart = apart
apart_step (Attach handle) t e apart = apart_set t.states handle Asked apart (λ peer j no is. absurd (cc))
apart_step (PeerAttach handle peer) t e apart =
    apart_set t.states handle _ apart (λ other j this is. absurd (found t.states j other is (subst (λ n. position (is_named n) t.states ≡ None) (same peer other this) e.1)))
  where
    same : (m n : ℕ) → (m == n) ≡ true → m ≡ n
    same m n is = grind (arith, nat_tests)
apart_step (Detach handle) t e apart =
    apart_set t.states handle _ apart (λ peer j this is. apart j handle peer is (sent_named (get_or t.states handle Free) peer this))
apart_step (PeerDetach handle) t e apart =
    apart_set t.states handle _ apart (λ peer j this is. apart j handle peer is (read_named (get_or t.states handle Free) peer this))

apart_after : (most : ℕ) (h : List HandleEvent) → AreEvents most h → AreApart (after_events most h).states
apart_after most [] e = λ i j peer hi hj. absurd (none i peer hi)
  where
    none : (m peer : ℕ) → is_named peer (get_or (replicate (most + 1) Free) m Free) ≡ true → ⊥
    none m peer is = elim (cases_lt m (most + 1)) [
      | inl lt ↦ let free : get_or (replicate (most + 1) Free) m Free ≡ Free = get_or-replicate (most + 1) m Free Free lt in let no : is_named peer Free ≡ true = subst (λ x. is_named peer x ≡ true) free is in cc
      | inr le ↦ let long : length (replicate (most + 1) Free) ≡ most + 1 = length-replicate (most + 1) Free in let free : get_or (replicate (most + 1) Free) m Free ≡ Free = get_or_past (replicate (most + 1) Free) m Free (omega arith) in let no : is_named peer Free ≡ true = subst (λ x. is_named peer x ≡ true) free is in cc
    ]
apart_after most (x ∷ h) e = apart_step x (after_events most h) e.0 (apart_after most h e.1)

names_one : (states : List HandleState) → AreApart states → (handle peer : ℕ) → position (is_named peer) states ≡ Some handle ↔ is_named peer (get_or states handle Free) ≡ true
names_one states apart handle peer = ((λ e. (position-Some (is_named peer) states handle Free e).1), (λ is. by (position (is_named peer) states) refl is))
  where
    by : (o : Option ℕ) → position (is_named peer) states ≡ o → is_named peer (get_or states handle Free) ≡ true → o ≡ Some handle
    by None e is = absurd (found states handle peer is e)
    by (Some j) e is = ap Some (apart j handle peer (position-Some (is_named peer) states j Free e).1 is)

pub names_links : (most : ℕ) (h : List HandleEvent) → AreEvents most h → NamesLinks (after_events most h)
names_links most h e handle peer = names_one (after_events most h).states (apart_after most h e) handle peer
