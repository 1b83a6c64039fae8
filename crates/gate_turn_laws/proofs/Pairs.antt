-- Each pair lives, or wasn't accepted yet, or was shut.
use Rattle.std.proofs.Common.{◌≡◌, ◌≢◌, ℕ, ◌+◌, ◌<◌, ◌≤◌, ◌==◌, nat_lt, Bool, true, false, ◌||◌}
use Rattle.std.proofs.Common.{if◌then◌else◌, List, [], ◌∷◌, refl, sym, ap, ◌∙◌, subst, inl, inr}
use Rattle.std.proofs.Common.{arith}
use Rattle.std.proofs.lemmas.Bool.{ltb-true, ltb-false}
use Rattle.std.proofs.lemmas.Bool.Decides.{eqb_tells}
use Rattle.gate_outside.specs.declared.ports.End.TheVariants.{Client, Up}
use Rattle.gate_outside.specs.declared.ports.Accepted.TheVariants as accepted
use Rattle.gate_outside.specs.declared.log.LogEntry.TheVariants.{Accept, Connect, Read, Write, Shut}
use Rattle.gate_outside.specs.declared.log.LogEntry.TheVariants.{Idle, Now}
use Rattle.gate_relay.specs.declared.loss.Loss.TheVariants as loss
use Rattle.gate_relay.specs.declared.sides.Side.{Side}
use Rattle.gate_relay.specs.declared.sides.Side.TheVariants as side
use Rattle.gate_relay.specs.Entries.{Entry, Began, Refused, Moment, Came, Dry, Settled, Joined}
use Rattle.gate_relay.specs.Entries.{Took, Stuck, Lost, OutOfMemory, Over}
use Rattle.gate_relay.specs.RelayWords.{RelayWords}
use Rattle.gate_relay.specs.Sides.{sides, is_open_side, is_absent, has_end}
use Rattle.gate_runs.specs.declared.limits.Limits.{Limits}
use Rattle.gate_runs.specs.Marks.{History, Call, Refuse, TakeUp, RunOut, Finish}
use Rattle.gate_runs.specs.Journal.{journal, moment, since, read_entry, write_entry}
use Rattle.gate_runs.specs.Next.{accepted_count}
use Rattle.gate_runs.specs.Serving.{Follows}
use Rattle.gate_turn_laws.specs.Pairs.{is_live, AreOrdered, LivesOrShut, Lives, NotCome, IsShut}
use Rattle.gate_turn_laws.specs.Begun.{IsOfPair}
use Rattle.gate_turn_laws.proofs.Lists.{is_or_isnt, if_other}
use Rattle.gate_turn_laws.proofs.Order.{ordered}
use Rattle.gate_turn_laws.proofs.Living.{lives}
use Rattle.gate_turn_laws.proofs.Asks.{asks_live}

-- no pair that lives is one that didn't come yet
live_other : (p q : ℕ) (m : History) → AreOrdered m → is_live q m ≡ true → accepted_count m ≤ p → q ≢ p
live_other p q m o live far = let low : q < accepted_count m = o.below q live in λ e. absurd (omega arith)

-- a pair that wasn't accepted has no journal
pub no_journal : (w : RelayWords) (c : Limits) (p : ℕ) (m : History) → Follows w c m → accepted_count m ≤ p → journal p m ≡ []
no_journal w c p [] f far = refl
no_journal w c p (Call (Accept (accepted.Pair q)) ∷ m) f far =
    let count : q ≡ accepted_count m = f.1 in let ne : q ≢ p = λ e. absurd (omega arith) in
    if_other q p (Began p (moment m) ∷ []) (journal p m) ne ∙ no_journal w c p m f.2 (omega arith)
no_journal w c p (Call (Accept accepted.NotYet) ∷ m) f far = no_journal w c p m f.2 far
no_journal w c p (Call (Accept accepted.Failed) ∷ m) f far = no_journal w c p m f.2 far
no_journal w c p (Call (Connect q answer) ∷ m) f far =
    if_other q p (Joined answer ∷ journal p m) (journal p m) (live_other p q m (ordered w c m f.2) (asks_live w c (Call (Connect q answer) ∷ m) f).0.0 far) ∙ no_journal w c p m f.2 far
no_journal w c p (Call (Read q end room answer bytes) ∷ m) f far =
    if_other q p (read_entry end answer bytes ∷ journal p m) (journal p m) (live_other p q m (ordered w c m f.2) (asks_live w c (Call (Read q end room answer bytes) ∷ m) f).0.0 far) ∙ no_journal w c p m f.2 far
no_journal w c p (Call (Write q end bytes answer) ∷ m) f far =
    if_other q p (write_entry end bytes answer ∷ journal p m) (journal p m) (live_other p q m (ordered w c m f.2) (asks_live w c (Call (Write q end bytes answer) ∷ m) f).0.0 far) ∙ no_journal w c p m f.2 far
no_journal w c p (Call (Shut q end) ∷ m) f far =
    if_other q p (Lost end loss.Shut ∷ journal p m) (journal p m) (live_other p q m (ordered w c m f.2) (asks_live w c (Call (Shut q end) ∷ m) f).0.0 far) ∙ no_journal w c p m f.2 far
no_journal w c p (Call (Idle answer) ∷ m) f far = no_journal w c p m f.2 far
no_journal w c p (Call (Now ms) ∷ m) f far = ap (λ (h : List Entry). since (Moment ms) h) (no_journal w c p m f.2 far)
no_journal w c p (Refuse q ∷ m) f far =
    if_other q p (Refused ∷ journal p m) (journal p m) (live_other p q m (ordered w c m f.1) (asks_live w c (Refuse q ∷ m) f).0 far) ∙ no_journal w c p m f.1 far
no_journal w c p (TakeUp q ∷ m) f far =
    if_other q p (Settled ∷ journal p m) (journal p m) (live_other p q m (ordered w c m f.1) (asks_live w c (TakeUp q ∷ m) f).0 far) ∙ no_journal w c p m f.1 far
no_journal w c p (RunOut q s cut ∷ m) f far =
    if_other q p (OutOfMemory cut ∷ journal p m) (journal p m) (live_other p q m (ordered w c m f.2) (asks_live w c (RunOut q s cut ∷ m) f).0 far) ∙ no_journal w c p m f.2 far
no_journal w c p (Finish how ∷ m) f far = ap (λ (h : List Entry). since Over h) (no_journal w c p m f.2 far)

-- the client's end came
abbrev HasCome : List Entry → Type 0
HasCome h = is_absent (sides h).client ≡ false

come_on : (e : Entry) (h : List Entry) → HasCome h → HasCome (e ∷ h)
come_on (Began p ms) h k = refl
come_on Refused h k = k
come_on (Moment ms) h k = k
come_on (Came end bytes) h k = k
come_on (Dry end) h k = k
come_on Settled h k = k
come_on (Joined answer) h k = k
come_on (Took end bytes n) h k = k
come_on (Stuck end bytes) h k = k
come_on (Lost Client loss.Ended) h k = refl
come_on (Lost Client loss.Failed) h k = refl
come_on (Lost Client loss.Shut) h k = refl
come_on (Lost Up how) h k = k
come_on (OutOfMemory cut) h k = k
come_on Over h k = k

come_one : (b : Bool) (e : Entry) (h : List Entry) → HasCome h → HasCome (if b then e ∷ h else h)
come_one true e h k = come_on e h k
come_one false e h k = k

come_since : (e : Entry) (h : List Entry) → HasCome h → HasCome (since e h)
come_since e [] k = k
come_since e (x ∷ h) k = come_on e (x ∷ h) k

has_come : (w : RelayWords) (c : Limits) (p : ℕ) (m : History) → Follows w c m → p < accepted_count m → HasCome (journal p m)
has_come w c p [] f low = absurd (omega (arith, low))
has_come w c p (Call (Accept (accepted.Pair q)) ∷ m) f low = elim (eqb_tells q p) [
  | inl t ↦ rw t.0 refl
  | inr n ↦
      let count : q ≡ accepted_count m = f.1 in
      let below : p < accepted_count m = before p q (accepted_count m) count n.1 low in rw n.0 (has_come w c p m f.2 below)
]
  where
    before : (p q k : ℕ) → q ≡ k → q ≢ p → p < k + 1 → p < k
    before p q k e ne low = omega (arith, e, ne, low)
has_come w c p (Call (Accept accepted.NotYet) ∷ m) f low = has_come w c p m f.2 low
has_come w c p (Call (Accept accepted.Failed) ∷ m) f low = has_come w c p m f.2 low
has_come w c p (Call (Connect q answer) ∷ m) f low = come_one (q == p) (Joined answer) (journal p m) (has_come w c p m f.2 low)
has_come w c p (Call (Read q end room answer bytes) ∷ m) f low = come_one (q == p) (read_entry end answer bytes) (journal p m) (has_come w c p m f.2 low)
has_come w c p (Call (Write q end bytes answer) ∷ m) f low = come_one (q == p) (write_entry end bytes answer) (journal p m) (has_come w c p m f.2 low)
has_come w c p (Call (Shut q end) ∷ m) f low = come_one (q == p) (Lost end loss.Shut) (journal p m) (has_come w c p m f.2 low)
has_come w c p (Call (Idle answer) ∷ m) f low = has_come w c p m f.2 low
has_come w c p (Call (Now ms) ∷ m) f low = come_since (Moment ms) (journal p m) (has_come w c p m f.2 low)
has_come w c p (Refuse q ∷ m) f low = come_one (q == p) Refused (journal p m) (has_come w c p m f.1 low)
has_come w c p (TakeUp q ∷ m) f low = come_one (q == p) Settled (journal p m) (has_come w c p m f.1 low)
has_come w c p (RunOut q s cut ∷ m) f low = come_one (q == p) (OutOfMemory cut) (journal p m) (has_come w c p m f.2 low)
has_come w c p (Finish how ∷ m) f low = come_since Over (journal p m) (has_come w c p m f.2 low)

gone_is : (x : Side) → is_open_side x ≡ false → is_absent x ≡ false → x ≡ side.Gone
gone_is side.Absent e a = absurd cc
gone_is side.Open e a = absurd cc
gone_is side.Ended e a = absurd cc
gone_is side.Failed e a = absurd cc
gone_is side.Gone e a = refl

neither : (a b : Bool) → (a || b) ≡ false → (a ≡ false) × (b ≡ false)
neither true b e = absurd cc
neither false b e = (refl, e)

pub lives_or_shut : (w : RelayWords) (c : Limits) (p : ℕ) (m : History) → Follows w c m → LivesOrShut p m
lives_or_shut w c p m f = elim (is_or_isnt (is_live p m)) [
  | inl live ↦ Lives live (sym ((lives w c m f).each p) ∙ live)
  | inr dead ↦ elim (is_or_isnt (nat_lt p (accepted_count m))) [
    | inl low ↦
        let none : (is_open_side (sides (journal p m)).client ≡ false) × (is_open_side (sides (journal p m)).up ≡ false) =
        neither (is_open_side (sides (journal p m)).client) (is_open_side (sides (journal p m)).up) (sym ((lives w c m f).each p) ∙ dead) in
        IsShut dead (gone_is (sides (journal p m)).client none.0 (has_come w c p m f (ltb-true p (accepted_count m) low))) none.1
    | inr high ↦ let far : accepted_count m ≤ p = ltb-false p (accepted_count m) high in NotCome far (no_journal w c p m f far)
  ]
]

-- ---- each journal begins with the accept of its pair

begun_on : (p : ℕ) (e : Entry) (h : List Entry) → has_end (sides h) ≡ true → IsOfPair p h → IsOfPair p (e ∷ h)
begun_on p e [] some k = absurd cc
begun_on p e (x ∷ h) some k = k

begun_one : (q p : ℕ) (e : Entry) (h : List Entry) → (q ≡ p → has_end (sides h) ≡ true) → IsOfPair p h → IsOfPair p (if q == p then e ∷ h else h)
begun_one q p e h some k = elim (eqb_tells q p) [ inl t ↦ rw t.0 (begun_on p e h (some t.1) k) | inr f ↦ rw f.0 k ]

begun_since : (p : ℕ) (e : Entry) (h : List Entry) → IsOfPair p h → IsOfPair p (since e h)
begun_since p e [] k = tt
begun_since p e (x ∷ h) k = k

begun_accept : (q p ms : ℕ) (h : List Entry) → IsOfPair p h → IsOfPair p (if q == p then Began p ms ∷ [] else h)
begun_accept q p ms h k = elim (eqb_tells q p) [ inl t ↦ rw t.0 (ms, refl) | inr f ↦ rw f.0 k ]

-- a pair that lives has an open end, whichever number it is named by
live_ends : (w : RelayWords) (c : Limits) (q p : ℕ) (m : History) → Follows w c m → is_live q m ≡ true → q ≡ p → has_end (sides (journal p m)) ≡ true
live_ends w c q p m f live e = subst (λ (x : ℕ). has_end (sides (journal x m)) ≡ true) e (sym ((lives w c m f).each q) ∙ live)

pub of_pair : (w : RelayWords) (c : Limits) (m : History) → Follows w c m → (p : ℕ) → IsOfPair p (journal p m)
of_pair w c [] f p = tt
of_pair w c (Call (Accept (accepted.Pair q)) ∷ m) f p = begun_accept q p (moment m) (journal p m) (of_pair w c m f.2 p)
of_pair w c (Call (Accept accepted.NotYet) ∷ m) f p = of_pair w c m f.2 p
of_pair w c (Call (Accept accepted.Failed) ∷ m) f p = of_pair w c m f.2 p
of_pair w c (Call (Connect q answer) ∷ m) f p = begun_one q p (Joined answer) (journal p m) (live_ends w c q p m f.2 (asks_live w c (Call (Connect q answer) ∷ m) f).0.0) (of_pair w c m f.2 p)
of_pair w c (Call (Read q end room answer bytes) ∷ m) f p =
    begun_one q p (read_entry end answer bytes) (journal p m) (live_ends w c q p m f.2 (asks_live w c (Call (Read q end room answer bytes) ∷ m) f).0.0) (of_pair w c m f.2 p)
of_pair w c (Call (Write q end bytes answer) ∷ m) f p =
    begun_one q p (write_entry end bytes answer) (journal p m) (live_ends w c q p m f.2 (asks_live w c (Call (Write q end bytes answer) ∷ m) f).0.0) (of_pair w c m f.2 p)
of_pair w c (Call (Shut q end) ∷ m) f p = begun_one q p (Lost end loss.Shut) (journal p m) (live_ends w c q p m f.2 (asks_live w c (Call (Shut q end) ∷ m) f).0.0) (of_pair w c m f.2 p)
of_pair w c (Call (Idle answer) ∷ m) f p = of_pair w c m f.2 p
of_pair w c (Call (Now ms) ∷ m) f p = begun_since p (Moment ms) (journal p m) (of_pair w c m f.2 p)
of_pair w c (Refuse q ∷ m) f p = begun_one q p Refused (journal p m) (live_ends w c q p m f.1 (asks_live w c (Refuse q ∷ m) f).0) (of_pair w c m f.1 p)
of_pair w c (TakeUp q ∷ m) f p = begun_one q p Settled (journal p m) (live_ends w c q p m f.1 (asks_live w c (TakeUp q ∷ m) f).0) (of_pair w c m f.1 p)
of_pair w c (RunOut q s cut ∷ m) f p = begun_one q p (OutOfMemory cut) (journal p m) (live_ends w c q p m f.2 (asks_live w c (RunOut q s cut ∷ m) f).0) (of_pair w c m f.2 p)
of_pair w c (Finish how ∷ m) f p = begun_since p Over (journal p m) (of_pair w c m f.2 p)
