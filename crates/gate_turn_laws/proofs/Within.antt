-- A run stays within its limits.
use Rattle.std.proofs.Common.{◌≡◌, ◌≢◌, ℕ, ◌+◌, ◌<◌, ◌≤◌, nat_lt, Bool, true, false, not, ◌==◌}
use Rattle.std.proofs.Common.{List, [], ◌∷◌, ◌++◌, length, filter, refl, sym, subst, arith}
use Rattle.std.proofs.lemmas.Bool.{ltb-true}
use Rattle.std.proofs.lemmas.List.{length-append}
use Rattle.std.proofs.lemmas.List.Sums.{length-filter, count_by-le-length}
use Rattle.gate_outside.specs.declared.ports.End.{End}
use Rattle.gate_outside.specs.declared.ports.Accepted.TheVariants as accepted
use Rattle.gate_outside.specs.declared.log.LogEntry.TheVariants.{Accept, Connect, Read, Write, Shut}
use Rattle.gate_outside.specs.declared.log.LogEntry.TheVariants.{Idle, Now}
use Rattle.gate_relay.specs.RelayWords.{RelayWords}
use Rattle.gate_relay.specs.Sides.{sides, has_end}
use Rattle.gate_runs.specs.declared.limits.Limits.{Limits}
use Rattle.gate_runs.specs.Marks.{History, Call, Refuse, TakeUp, RunOut, Finish}
use Rattle.gate_runs.specs.Journal.{journal}
use Rattle.gate_runs.specs.Next.{Do, AskAccept, AskNow, accepted_count, pair_limit, live_pairs}
use Rattle.gate_runs.specs.Next.{unless_gone, most_live, turns_begun, may_accept}
use Rattle.gate_runs.specs.Serving.{Follows}
use Rattle.gate_turn_laws.specs.Within.{IsWithin}
use Rattle.gate_turn_laws.proofs.Lists.{and_parts}
use Rattle.gate_turn_laws.proofs.Living.{Wanted, wanted}

within_accept : (c : Limits) (p : ℕ) (m : History) → may_accept c m ≡ true → IsWithin c m → IsWithin c (Call (Accept (accepted.Pair p)) ∷ m)
within_accept c p m e w =
    let parts : (nat_lt (length (live_pairs m)) most_live ≡ true) × (nat_lt (accepted_count m) (pair_limit c) ≡ true) =
    and_parts (nat_lt (length (live_pairs m)) most_live) (nat_lt (accepted_count m) (pair_limit c)) e in
    let few : length (live_pairs m) < 256 = ltb-true (length (live_pairs m)) 256 parts.0 in
    let low : accepted_count m < pair_limit c = ltb-true (accepted_count m) (pair_limit c) parts.1 in
    record { live = grown (live_pairs m) p few; accepted = more (accepted_count m) (pair_limit c) low; turns = w.turns }
  where
    grown : (ps : List ℕ) (p : ℕ) → length ps < 256 → length (ps ++ p ∷ []) ≤ 256
    grown ps p few = rw length-append (omega arith)

    more : (a b : ℕ) → a < b → a + 1 ≤ b
    more a b low = omega arith

fewer : (b : Bool) (p : ℕ) (ps : List ℕ) → length ps ≤ 256 → length (unless_gone b p ps) ≤ 256
fewer true p ps few = few
fewer false p ps few = least (λ q. not (q == p)) ps few
  where
    least : (t : ℕ → Bool) (ps : List ℕ) → length ps ≤ 256 → length (filter t ps) ≤ 256
    least t ps few = let most : length (filter t ps) ≤ length ps = rw length-filter (count_by-le-length t ps) in omega arith

within_shut : (c : Limits) (p : ℕ) (end : End) (m : History) → IsWithin c m → IsWithin c (Call (Shut p end) ∷ m)
within_shut c p end m w = record {
  live = fewer (has_end (sides (journal p (Call (Shut p end) ∷ m)))) p (live_pairs m) w.live;
  accepted = w.accepted;
  turns = w.turns;
}

within_now : (c : Limits) (ms : ℕ) (m : History) → turns_begun m ≢ c.turns → IsWithin c m → IsWithin c (Call (Now ms) ∷ m)
within_now c ms m ne w = record { live = w.live; accepted = w.accepted; turns = more (turns_begun m) c.turns w.turns ne }
  where
    more : (a b : ℕ) → a ≤ b → a ≢ b → a + 1 ≤ b
    more a b least ne = omega (arith, ne)

same_within : (c : Limits) (m n : History) → IsWithin c m → live_pairs n ≡ live_pairs m → accepted_count n ≡ accepted_count m → turns_begun n ≡ turns_begun m → IsWithin c n
same_within c m n w l a t = record {
  live = subst (λ (ps : List ℕ). length ps ≤ 256) (sym l) w.live;
  accepted = subst (λ (k : ℕ). k ≤ pair_limit c) (sym a) w.accepted;
  turns = subst (λ (k : ℕ). k ≤ c.turns) (sym t) w.turns;
}

pub within : (w : RelayWords) (c : Limits) (m : History) → Follows w c m → IsWithin c m
within w c [] f = record { live = omega arith; accepted = omega arith; turns = omega arith }
within w c (Call (Accept (accepted.Pair p)) ∷ m) f =
    let a : Wanted w c m (Do AskAccept) = wanted w c m (Do AskAccept) f.2 f.0 in within_accept c p m a.1 (within w c m f.2)
within w c (Call (Accept accepted.NotYet) ∷ m) f = same_within c m _ (within w c m f.2) refl refl refl
within w c (Call (Accept accepted.Failed) ∷ m) f = same_within c m _ (within w c m f.2) refl refl refl
within w c (Call (Connect p answer) ∷ m) f = same_within c m _ (within w c m f.2) refl refl refl
within w c (Call (Read p end room answer bytes) ∷ m) f = same_within c m _ (within w c m f.2) refl refl refl
within w c (Call (Write p end bytes answer) ∷ m) f = same_within c m _ (within w c m f.2) refl refl refl
within w c (Call (Shut p end) ∷ m) f = within_shut c p end m (within w c m f.2)
within w c (Call (Idle answer) ∷ m) f = same_within c m _ (within w c m f.2) refl refl refl
within w c (Call (Now ms) ∷ m) f = within_now c ms m (wanted w c m (Do AskNow) f.2 f.0) (within w c m f.2)
within w c (Refuse p ∷ m) f = same_within c m _ (within w c m f.1) refl refl refl
within w c (TakeUp p ∷ m) f = same_within c m _ (within w c m f.1) refl refl refl
within w c (RunOut p s cut ∷ m) f = same_within c m _ (within w c m f.2) refl refl refl
within w c (Finish how ∷ m) f = same_within c m _ (within w c m f.2) refl refl refl
