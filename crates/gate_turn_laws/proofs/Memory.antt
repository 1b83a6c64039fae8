-- Each pair runs out of memory at most once.
use Rattle.std.proofs.Common.{◌≡◌, ◌≢◌, ℕ, zero, suc, ◌+◌, ◌<◌, ◌≤◌, ◌==◌, Bool, true, false}
use Rattle.std.proofs.Common.{if◌then◌else◌, List, [], ◌∷◌, refl, sym, ap, ◌∙◌, subst, inl, inr}
use Rattle.std.proofs.Common.{arith, add-one}
use Rattle.std.proofs.lemmas.Bool.Decides.{eqb_tells}
use Rattle.gate_outside.specs.declared.ports.End.{End}
use Rattle.gate_outside.specs.declared.ports.Accepted.TheVariants as accepted
use Rattle.gate_outside.specs.declared.ports.Got.{Got}
use Rattle.gate_outside.specs.declared.ports.Got.TheVariants as got
use Rattle.gate_outside.specs.declared.ports.Put.{Put}
use Rattle.gate_outside.specs.declared.ports.Put.TheVariants as put
use Rattle.gate_outside.specs.declared.log.LogEntry.{LogEntry}
use Rattle.gate_outside.specs.declared.log.LogEntry.TheVariants.{Accept, Connect, Read, Write, Shut}
use Rattle.gate_outside.specs.declared.log.LogEntry.TheVariants.{Idle, Now}
use Rattle.gate_relay.specs.declared.loss.Loss.TheVariants as loss
use Rattle.gate_relay.specs.Entries.{Entry, Began, Refused, Moment, Settled, Joined, Lost}
use Rattle.gate_relay.specs.Entries.{OutOfMemory, Over, is_out_of_memory}
use Rattle.gate_relay.specs.RelayWords.{RelayWords}
use Rattle.gate_runs.specs.declared.limits.Limits.{Limits}
use Rattle.gate_runs.specs.Marks.{History, Call, Refuse, TakeUp, RunOut, Finish}
use Rattle.gate_runs.specs.Journal.{journal, moment, since, read_entry, write_entry}
use Rattle.gate_runs.specs.Stages.{Stage}
use Rattle.gate_runs.specs.Next.{accepted_count, out_of_memory_count}
use Rattle.gate_runs.specs.Serving.{RefusesAt, Follows}
use Rattle.gate_turn_laws.specs.Memory.{one_if, has_run_out, run_outs_of, run_out_below}
use Rattle.gate_turn_laws.specs.Memory.{CountsRunOuts}
use Rattle.gate_turn_laws.proofs.Lists.{if_same, if_other}
use Rattle.gate_turn_laws.proofs.Order.{ordered}
use Rattle.gate_turn_laws.proofs.Asks.{asks_live}
use Rattle.gate_turn_laws.proofs.Pairs.{no_journal}

-- ---- marks by which no pair runs out of memory

-- the same pairs ran out of memory
abbrev IsCalm : History → History → Type 0
IsCalm m n = (p : ℕ) → has_run_out p n ≡ has_run_out p m

calm_one : (b : Bool) (e : Entry) (h : List Entry) → is_out_of_memory (e ∷ h) ≡ is_out_of_memory h → is_out_of_memory (if b then e ∷ h else h) ≡ is_out_of_memory h
calm_one true e h same = same
calm_one false e h same = refl

calm_since : (e : Entry) (h : List Entry) → is_out_of_memory (e ∷ h) ≡ is_out_of_memory h → is_out_of_memory (since e h) ≡ is_out_of_memory h
calm_since e [] same = refl
calm_since e (x ∷ h) same = same

calm_read : (end : End) (answer : Got) (bytes : List ℕ) (h : List Entry) → is_out_of_memory (read_entry end answer bytes ∷ h) ≡ is_out_of_memory h
calm_read end (got.Bytes n) bytes h = refl
calm_read end got.NotYet bytes h = refl
calm_read end got.Ended bytes h = refl
calm_read end got.Failed bytes h = refl

calm_write : (end : End) (bytes : List ℕ) (answer : Put) (h : List Entry) → is_out_of_memory (write_entry end bytes answer ∷ h) ≡ is_out_of_memory h
calm_write end bytes (put.Took n) h = refl
calm_write end bytes put.NotYet h = refl
calm_write end bytes put.Failed h = refl

-- the pair that comes had no journal
calm_accept : (w : RelayWords) (c : Limits) (q : ℕ) (m : History) → Follows w c (Call (Accept (accepted.Pair q)) ∷ m) → IsCalm m (Call (Accept (accepted.Pair q)) ∷ m)
calm_accept w c q m f p = elim (eqb_tells q p) [
  | inl t ↦
      let low : accepted_count m ≤ p = let here : q ≡ accepted_count m = f.1 in let same : q ≡ p = t.1 in omega arith in
      ap (λ (b : Bool). is_out_of_memory (if b then Began p (moment m) ∷ [] else journal p m)) t.0 ∙ sym (ap is_out_of_memory (no_journal w c p m f.2 low))
  | inr n ↦ ap is_out_of_memory (if_other q p (Began p (moment m) ∷ []) (journal p m) n.1)
]

-- ---- a mark by which q runs out of memory

run_out_own : (q : ℕ) (e : Entry) (h : List Entry) → is_out_of_memory (e ∷ h) ≡ true → is_out_of_memory (if q == q then e ∷ h else h) ≡ true
run_out_own q e h out = ap is_out_of_memory (if_same q (e ∷ h) h) ∙ out

run_out_other : (q p : ℕ) (e : Entry) (h : List Entry) → q ≢ p → is_out_of_memory (if q == p then e ∷ h else h) ≡ is_out_of_memory h
run_out_other q p e h ne = ap is_out_of_memory (if_other q p (e ∷ h) h ne)

-- q runs out of memory from m to n, and no other pair does
record RunsOutOnce (q : ℕ) (m n : History) : Type 0 where
  before : has_run_out q m ≡ false
  after : has_run_out q n ≡ true
  others : (p : ℕ) → q ≢ p → has_run_out p n ≡ has_run_out p m

new_calm : (p : ℕ) (m : History) → RefusesAt p m → has_run_out p m ≡ false
new_calm p (Call (Accept (accepted.Pair q)) ∷ m) r =
    subst (λ (x : ℕ). has_run_out p (Call (Accept (accepted.Pair x)) ∷ m) ≡ false) (sym r) (ap is_out_of_memory (if_same p (Began p (moment m) ∷ []) (journal p m)))
new_calm p m r = absurd r

by_refuse : (w : RelayWords) (c : Limits) (q : ℕ) (m : History) → Follows w c (Refuse q ∷ m) → RunsOutOnce q m (Refuse q ∷ m)
by_refuse w c q m f = record {
  before = new_calm q m f.0;
  after = run_out_own q Refused (journal q m) refl;
  others = λ p ne. run_out_other q p Refused (journal p m) ne;
}

by_run_out : (w : RelayWords) (c : Limits) (q : ℕ) (s : Stage) (cut : ℕ) (m : History) → Follows w c (RunOut q s cut ∷ m) → RunsOutOnce q m (RunOut q s cut ∷ m)
by_run_out w c q s cut m f = record {
  before = f.0;
  after = run_out_own q (OutOfMemory cut) (journal q m) refl;
  others = λ p ne. run_out_other q p (OutOfMemory cut) (journal p m) ne;
}

-- ---- once for a pair

once_more : (q p k : ℕ) (m n : History) → RunsOutOnce q m n → k ≡ one_if (has_run_out p m) → (if q == p then k + 1 else k) ≡ one_if (has_run_out p n)
once_more q p k m n r once = elim (eqb_tells q p) [
  | inl t ↦
      let none : k ≡ 0 = once ∙ ap one_if (subst (λ (x : ℕ). has_run_out x m ≡ false) t.1 r.before) in
      ap (λ (b : Bool). if b then k + 1 else k) t.0 ∙ ap (λ (i : ℕ). i + 1) none ∙ sym (ap one_if (subst (λ (x : ℕ). has_run_out x n ≡ true) t.1 r.after))
  | inr o ↦ ap (λ (b : Bool). if b then k + 1 else k) o.0 ∙ once ∙ sym (ap one_if (r.others p o.1))
]

calm_call : (w : RelayWords) (c : Limits) (entry : LogEntry) (m : History) → Follows w c (Call entry ∷ m) → IsCalm m (Call entry ∷ m)
calm_call w c (Accept (accepted.Pair q)) m f p = calm_accept w c q m f p
calm_call w c (Accept accepted.NotYet) m f p = refl
calm_call w c (Accept accepted.Failed) m f p = refl
calm_call w c (Connect q answer) m f p = calm_one (q == p) (Joined answer) (journal p m) refl
calm_call w c (Read q end room answer bytes) m f p = calm_one (q == p) (read_entry end answer bytes) (journal p m) (calm_read end answer bytes (journal p m))
calm_call w c (Write q end bytes answer) m f p = calm_one (q == p) (write_entry end bytes answer) (journal p m) (calm_write end bytes answer (journal p m))
calm_call w c (Shut q end) m f p = calm_one (q == p) (Lost end loss.Shut) (journal p m) refl
calm_call w c (Idle answer) m f p = refl
calm_call w c (Now ms) m f p = calm_since (Moment ms) (journal p m) refl

run_outs_once : (w : RelayWords) (c : Limits) (p : ℕ) (m : History) → Follows w c m → run_outs_of p m ≡ one_if (has_run_out p m)
run_outs_once w c p [] f = refl
run_outs_once w c p (Call entry ∷ m) f = run_outs_once w c p m f.2 ∙ sym (ap one_if (calm_call w c entry m f p))
run_outs_once w c p (Refuse q ∷ m) f = once_more q p (run_outs_of p m) m (Refuse q ∷ m) (by_refuse w c q m f) (run_outs_once w c p m f.1)
run_outs_once w c p (TakeUp q ∷ m) f = run_outs_once w c p m f.1 ∙ sym (ap one_if (calm_one (q == p) Settled (journal p m) refl))
run_outs_once w c p (RunOut q s cut ∷ m) f = once_more q p (run_outs_of p m) m (RunOut q s cut ∷ m) (by_run_out w c q s cut m f) (run_outs_once w c p m f.2)
run_outs_once w c p (Finish how ∷ m) f = run_outs_once w c p m f.2 ∙ sym (ap one_if (calm_since Over (journal p m) refl))

-- ---- the count

-- the counts of two histories in which the same pairs ran out of memory
same_below : (k : ℕ) (m n : History) → ((p : ℕ) → p < k → has_run_out p n ≡ has_run_out p m) → run_out_below k n ≡ run_out_below k m
same_below zero m n same = refl
same_below (suc p) m n same =
    ap (λ (i : ℕ). i + one_if (has_run_out p n)) (same_below p m n (λ q low. same q (omega arith)))
    ∙ ap (λ (b : Bool). run_out_below p m + one_if b) (same p (omega arith))

-- one pair more ran out of memory
one_below : (k q : ℕ) (m n : History) → RunsOutOnce q m n → q < k → run_out_below k n ≡ run_out_below k m + 1
one_below zero q m n r low = absurd (omega (arith, low))
one_below (suc p) q m n r low = elim (eqb_tells q p) [
  | inl t ↦
      let rest : run_out_below p n ≡ run_out_below p m = same_below p m n (λ i below. r.others i (λ e. let same : q ≡ p = t.1 in absurd (omega arith))) in
      let new : has_run_out p n ≡ true = subst (λ (x : ℕ). has_run_out x n ≡ true) t.1 r.after in
      let old : has_run_out p m ≡ false = subst (λ (x : ℕ). has_run_out x m ≡ false) t.1 r.before in
      add_one (run_out_below p n) (run_out_below p m) (one_if (has_run_out p n)) (one_if (has_run_out p m)) rest (ap one_if new) (ap one_if old)
  | inr o ↦
      let below : q < p = under q p low o.1 in
      add_rest (run_out_below p n) (run_out_below p m) (one_if (has_run_out p n)) (one_if (has_run_out p m))
      (one_below p q m n r below) (ap one_if (r.others p o.1))
]
  where
    add_one : (a b x y : ℕ) → a ≡ b → x ≡ 1 → y ≡ 0 → a + x ≡ (b + y) + 1
    add_one a b x y e f g = omega arith

    add_rest : (a b x y : ℕ) → a ≡ b + 1 → x ≡ y → a + x ≡ (b + y) + 1
    add_rest a b x y e f = omega arith

    under : (q p : ℕ) → q < suc p → q ≢ p → q < p
    under q p low ne = omega (arith, ne)

count_accept : (w : RelayWords) (c : Limits) (p : ℕ) (m : History) → Follows w c (Call (Accept (accepted.Pair p)) ∷ m)
    → out_of_memory_count m ≡ run_out_below (accepted_count m) m → out_of_memory_count m ≡ run_out_below (accepted_count m + 1) (Call (Accept (accepted.Pair p)) ∷ m)
count_accept w c p m f e =
    let none : has_run_out (accepted_count m) (Call (Accept (accepted.Pair p)) ∷ m) ≡ false =
    calm_call w c (Accept (accepted.Pair p)) m f (accepted_count m) ∙ ap is_out_of_memory (no_journal w c (accepted_count m) m f.2 (omega arith)) in
    let same : run_out_below (accepted_count m) (Call (Accept (accepted.Pair p)) ∷ m) ≡ run_out_below (accepted_count m) m =
    same_below (accepted_count m) m (Call (Accept (accepted.Pair p)) ∷ m) (λ q low. calm_call w c (Accept (accepted.Pair p)) m f q) in
    e ∙ add_none _ _ _ same (ap one_if none) ∙ sym (ap (λ (k : ℕ). run_out_below k (Call (Accept (accepted.Pair p)) ∷ m)) (add-one (accepted_count m)))
  where
    add_none : (a b x : ℕ) → a ≡ b → x ≡ 0 → b ≡ a + x
    add_none a b x e f = omega arith

count_call : (w : RelayWords) (c : Limits) (entry : LogEntry) (m : History) → Follows w c (Call entry ∷ m) → out_of_memory_count m ≡ run_out_below (accepted_count m) m
    → accepted_count (Call entry ∷ m) ≡ accepted_count m → out_of_memory_count m ≡ run_out_below (accepted_count (Call entry ∷ m)) (Call entry ∷ m)
count_call w c entry m f e a =
    e ∙ sym (ap (λ (k : ℕ). run_out_below k (Call entry ∷ m)) a ∙ same_below (accepted_count m) m (Call entry ∷ m) (λ q low. calm_call w c entry m f q))

run_outs_counted : (w : RelayWords) (c : Limits) (m : History) → Follows w c m → out_of_memory_count m ≡ run_out_below (accepted_count m) m
run_outs_counted w c [] f = refl
run_outs_counted w c (Call (Accept (accepted.Pair p)) ∷ m) f = count_accept w c p m f (run_outs_counted w c m f.2)
run_outs_counted w c (Call (Accept accepted.NotYet) ∷ m) f = count_call w c (Accept accepted.NotYet) m f (run_outs_counted w c m f.2) refl
run_outs_counted w c (Call (Accept accepted.Failed) ∷ m) f = count_call w c (Accept accepted.Failed) m f (run_outs_counted w c m f.2) refl
run_outs_counted w c (Call (Connect p answer) ∷ m) f = count_call w c (Connect p answer) m f (run_outs_counted w c m f.2) refl
run_outs_counted w c (Call (Read p end room answer bytes) ∷ m) f = count_call w c (Read p end room answer bytes) m f (run_outs_counted w c m f.2) refl
run_outs_counted w c (Call (Write p end bytes answer) ∷ m) f = count_call w c (Write p end bytes answer) m f (run_outs_counted w c m f.2) refl
run_outs_counted w c (Call (Shut p end) ∷ m) f = count_call w c (Shut p end) m f (run_outs_counted w c m f.2) refl
run_outs_counted w c (Call (Idle answer) ∷ m) f = count_call w c (Idle answer) m f (run_outs_counted w c m f.2) refl
run_outs_counted w c (Call (Now ms) ∷ m) f = count_call w c (Now ms) m f (run_outs_counted w c m f.2) refl
run_outs_counted w c (Refuse p ∷ m) f =
    ap (λ (n : ℕ). n + 1) (run_outs_counted w c m f.1)
    ∙ sym (one_below (accepted_count m) p m (Refuse p ∷ m) (by_refuse w c p m f) ((ordered w c m f.1).below p (asks_live w c (Refuse p ∷ m) f).0))
run_outs_counted w c (TakeUp p ∷ m) f =
    run_outs_counted w c m f.1 ∙ sym (same_below (accepted_count m) m (TakeUp p ∷ m) (λ q low. calm_one (p == q) Settled (journal q m) refl))
run_outs_counted w c (RunOut p s cut ∷ m) f =
    ap (λ (n : ℕ). n + 1) (run_outs_counted w c m f.2)
    ∙ sym (one_below (accepted_count m) p m (RunOut p s cut ∷ m) (by_run_out w c p s cut m f) ((ordered w c m f.2).below p (asks_live w c (RunOut p s cut ∷ m) f).0))
run_outs_counted w c (Finish how ∷ m) f =
    run_outs_counted w c m f.2 ∙ sym (same_below (accepted_count m) m (Finish how ∷ m) (λ q low. calm_since Over (journal q m) refl))

below_most : (k : ℕ) (m : History) → run_out_below k m ≤ k
below_most zero m = omega arith
below_most (suc p) m = at_most (run_out_below p m) p (has_run_out p m) (below_most p m)
  where
    at_most : (a p : ℕ) (b : Bool) → a ≤ p → a + one_if b ≤ suc p
    at_most a p true low = omega arith
    at_most a p false low = omega arith

pub counts_run_outs : (w : RelayWords) (c : Limits) (m : History) → Follows w c m → CountsRunOuts m
counts_run_outs w c m f = record {
  once = λ p. run_outs_once w c p m f;
  count = run_outs_counted w c m f;
  most = subst (λ (k : ℕ). k ≤ accepted_count m) (sym (run_outs_counted w c m f)) (below_most (accepted_count m) m);
}
