-- The live pairs stand in the order of their accepts.
use Rattle.std.proofs.Common.{◌≡◌, ℕ, ◌<◌, ◌==◌, Bool, true, false, not, List, [], ◌∷◌, ◌++◌}
use Rattle.std.proofs.Common.{filter, refl, sym, ap, ◌∙◌, subst, inl, inr, arith}
use Rattle.gate_outside.specs.declared.ports.End.{End}
use Rattle.gate_outside.specs.declared.ports.Accepted.TheVariants as accepted
use Rattle.gate_outside.specs.declared.log.LogEntry.TheVariants.{Accept, Connect, Read, Write, Shut}
use Rattle.gate_outside.specs.declared.log.LogEntry.TheVariants.{Idle, Now}
use Rattle.gate_relay.specs.RelayWords.{RelayWords}
use Rattle.gate_relay.specs.Sides.{sides, has_end}
use Rattle.gate_runs.specs.declared.limits.Limits.{Limits}
use Rattle.gate_runs.specs.Marks.{History, Call, Refuse, TakeUp, RunOut, Finish}
use Rattle.gate_runs.specs.Journal.{journal}
use Rattle.gate_runs.specs.Next.{live_pairs, accepted_count, unless_gone}
use Rattle.gate_runs.specs.Serving.{Follows}
use Rattle.gate_turn_laws.specs.Pairs.{is_among, IsRising, AreOrdered}
use Rattle.gate_turn_laws.proofs.Lists.{is_or_isnt, or_right, or_parts, is_equal, among_first}
use Rattle.gate_turn_laws.proofs.Lists.{among_push, among_filter}

-- a filter keeps the order
pub rising_filter : (t : ℕ → Bool) (ps : List ℕ) → IsRising ps → IsRising (filter t ps)
rising_filter t [] r = tt
rising_filter t (p ∷ ps) r = elim (is_or_isnt (t p)) [
  | inl kept ↦ rw kept ((λ q h. r.0 q (among_filter t q ps h)), rising_filter t ps r.1)
  | inr left ↦ rw left (rising_filter t ps r.1)
]

-- a number above all goes to the end
rising_push : (n : ℕ) (ps : List ℕ) → IsRising ps → ((p : ℕ) → is_among p ps ≡ true → p < n) → IsRising (ps ++ n ∷ [])
rising_push n [] r low = ((λ q h. absurd cc), tt)
rising_push n (p ∷ ps) r low = (
  (λ q h. elim (or_parts (is_among q ps) (n == q) (sym (among_push q n ps) ∙ h)) [
    | inl old ↦ r.0 q old
    | inr new ↦ subst (λ (x : ℕ). p < x) (is_equal n q new) (low p (among_first p ps))
  ]),
  rising_push n ps r.1 (λ q h. low q (or_right (p == q) (is_among q ps) h)),
)

-- the next pair comes behind all
ordered_push : (n : ℕ) (m : History) → n ≡ accepted_count m → AreOrdered m → AreOrdered (Call (Accept (accepted.Pair n)) ∷ m)
ordered_push n m e o = record {
  rising = rising_push n (live_pairs m) o.rising (λ p h. subst (λ (x : ℕ). p < x) (sym e) (o.below p h));
  below = λ p h. elim (or_parts (is_among p (live_pairs m)) (n == p) (sym (among_push p n (live_pairs m)) ∙ h)) [
    | inl old ↦ let low : p < accepted_count m = o.below p old in omega arith
    | inr new ↦ let same : n ≡ p = is_equal n p new in omega arith
  ];
}

rising_gone : (b : Bool) (p : ℕ) (ps : List ℕ) → IsRising ps → IsRising (unless_gone b p ps)
rising_gone true p ps r = r
rising_gone false p ps r = rising_filter (λ q. not (q == p)) ps r

-- no pair comes to live by a shut
pub among_gone : (b : Bool) (p q : ℕ) (ps : List ℕ) → is_among q (unless_gone b p ps) ≡ true → is_among q ps ≡ true
among_gone true p q ps h = h
among_gone false p q ps h = among_filter (λ r. not (r == p)) q ps h

ordered_shut : (p : ℕ) (end : End) (m : History) → AreOrdered m → AreOrdered (Call (Shut p end) ∷ m)
ordered_shut p end m o =
    let b : Bool = has_end (sides (journal p (Call (Shut p end) ∷ m))) in
    record {
      rising = rising_gone b p (live_pairs m) o.rising;
      below = λ q h. o.below q (among_gone b p q (live_pairs m) h);
    }

same_order : (m n : History) → live_pairs n ≡ live_pairs m → accepted_count n ≡ accepted_count m → AreOrdered m → AreOrdered n
same_order m n l a o = record {
  rising = subst IsRising (sym l) o.rising;
  below = λ p h. subst (λ (x : ℕ). p < x) (sym a) (o.below p (sym (ap (λ (ps : List ℕ). is_among p ps) l) ∙ h));
}

-- the live pairs stand in the order of their accepts
pub ordered : (w : RelayWords) (c : Limits) (m : History) → Follows w c m → AreOrdered m
ordered w c [] f = record { rising = tt; below = λ p h. absurd cc }
ordered w c (Call (Accept (accepted.Pair p)) ∷ m) f = ordered_push p m f.1 (ordered w c m f.2)
ordered w c (Call (Accept accepted.NotYet) ∷ m) f = same_order m _ refl refl (ordered w c m f.2)
ordered w c (Call (Accept accepted.Failed) ∷ m) f = same_order m _ refl refl (ordered w c m f.2)
ordered w c (Call (Connect p answer) ∷ m) f = same_order m _ refl refl (ordered w c m f.2)
ordered w c (Call (Read p end room answer bytes) ∷ m) f = same_order m _ refl refl (ordered w c m f.2)
ordered w c (Call (Write p end bytes answer) ∷ m) f = same_order m _ refl refl (ordered w c m f.2)
ordered w c (Call (Shut p end) ∷ m) f = ordered_shut p end m (ordered w c m f.2)
ordered w c (Call (Idle answer) ∷ m) f = same_order m _ refl refl (ordered w c m f.2)
ordered w c (Call (Now ms) ∷ m) f = same_order m _ refl refl (ordered w c m f.2)
ordered w c (Refuse p ∷ m) f = same_order m _ refl refl (ordered w c m f.1)
ordered w c (TakeUp p ∷ m) f = same_order m _ refl refl (ordered w c m f.1)
ordered w c (RunOut p s cut ∷ m) f = same_order m _ refl refl (ordered w c m f.2)
ordered w c (Finish how ∷ m) f = same_order m _ refl refl (ordered w c m f.2)
