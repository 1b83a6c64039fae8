-- The entries of each journal are asked for.
use Rattle.std.proofs.Common.{◌≡◌, ℕ, ◌==◌, ◌≤◌, Bool, true, false, if◌then◌else◌, List, [], ◌∷◌}
use Rattle.std.proofs.Common.{length, Some, is_some, refl, sym, ap, ◌∙◌, subst, inl, inr, arith}
use Rattle.std.proofs.lemmas.Bool.Decides.{eqb_tells}
use Rattle.gate_outside.specs.declared.ports.End.{End}
use Rattle.gate_outside.specs.declared.ports.End.TheVariants.{Client}
use Rattle.gate_outside.specs.declared.ports.Accepted.TheVariants as accepted
use Rattle.gate_outside.specs.declared.ports.Got.{Got}
use Rattle.gate_outside.specs.declared.ports.Got.TheVariants as got
use Rattle.gate_outside.specs.declared.ports.Put.{Put}
use Rattle.gate_outside.specs.declared.ports.Put.TheVariants as put
use Rattle.gate_outside.specs.declared.log.LogEntry.{LogEntry}
use Rattle.gate_outside.specs.declared.log.LogEntry.TheVariants.{Accept, Connect, Read, Write, Shut}
use Rattle.gate_outside.specs.declared.log.LogEntry.TheVariants.{Idle, Now}
use Rattle.gate_relay.specs.declared.loss.Loss.TheVariants as loss
use Rattle.gate_relay.specs.Entries.{Entry, Began, Refused, Moment, Came, Settled, Joined, Lost}
use Rattle.gate_relay.specs.Entries.{OutOfMemory, Over, is_over, moment_of, is_out_of_memory}
use Rattle.gate_relay.specs.Guards.{reads, takes_up, connects, offers}
use Rattle.gate_relay.specs.Relayed.{read_room, RunsOut, AtRead as ReadRunsOut}
use Rattle.gate_relay.specs.Relayed.{AtTakeUp as TakeUpRunsOut, AtWrite as WriteRunsOut, is_new}
use Rattle.gate_relay.specs.Relayed.{ShutFor, WhereDue, AtTheEnd, AtRefusal, MayCome, MayComeAfter}
use Rattle.gate_relay.specs.Relayed.{IsRelayed}
use Rattle.gate_relay.specs.RelayWords.{RelayWords}
use Rattle.gate_relay.specs.Sides.{sides, has_end}
use Rattle.gate_runs.specs.declared.limits.Limits.{Limits}
use Rattle.gate_runs.specs.Marks.{History, Call, Refuse, TakeUp, RunOut, Finish}
use Rattle.gate_runs.specs.Journal.{journal, moment, since, read_entry, write_entry}
use Rattle.gate_runs.specs.Stages.{Stage}
use Rattle.gate_runs.specs.Next.{AskWrite, AskShut, Do, Point, point, after, after_shut, asked}
use Rattle.gate_runs.specs.Next.{next, live_pairs}
use Rattle.gate_runs.specs.Serving.{Answered, RunsOutAt, AtRead, AtTakeUp, AtWrite, RefusesAt}
use Rattle.gate_runs.specs.Serving.{is_ended, Follows}
use Rattle.gate_turn_laws.specs.Pairs.{is_live}
use Rattle.gate_turn_laws.proofs.Lists.{is_or_isnt, if_same}
use Rattle.gate_turn_laws.proofs.Points.{ended_is, after_runs, runs_still, closing_call}
use Rattle.gate_turn_laws.proofs.Points.{run_out_runs, refuse_runs}
use Rattle.gate_turn_laws.proofs.Order.{among_gone}
use Rattle.gate_turn_laws.proofs.Living.{Wanted, wanted, lives}

-- ---- the last moment of a journal

moment_read : (end : End) (answer : Got) (bytes : List ℕ) (h : List Entry) → moment_of (read_entry end answer bytes ∷ h) ≡ moment_of h
moment_read end (got.Bytes n) bytes h = refl
moment_read end got.NotYet bytes h = refl
moment_read end got.Ended bytes h = refl
moment_read end got.Failed bytes h = refl

moment_write : (end : End) (bytes : List ℕ) (answer : Put) (h : List Entry) → moment_of (write_entry end bytes answer ∷ h) ≡ moment_of h
moment_write end bytes (put.Took n) h = refl
moment_write end bytes put.NotYet h = refl
moment_write end bytes put.Failed h = refl

moment_one : (b : Bool) (ms : ℕ) (e : Entry) (h : List Entry) → moment_of (e ∷ h) ≡ moment_of h → moment_of h ≤ ms → moment_of (if b then e ∷ h else h) ≤ ms
moment_one true ms e h same k = subst (λ (x : ℕ). x ≤ ms) (sym same) k
moment_one false ms e h same k = k

moment_began : (b : Bool) (p ms : ℕ) (h : List Entry) → moment_of h ≤ ms → moment_of (if b then Began p ms ∷ [] else h) ≤ ms
moment_began true p ms h k = omega arith
moment_began false p ms h k = k

moment_now : (ms : ℕ) (h : List Entry) → moment_of (since (Moment ms) h) ≤ ms
moment_now ms [] = omega arith
moment_now ms (x ∷ h) = omega arith

moment_over : (ms : ℕ) (h : List Entry) → moment_of h ≤ ms → moment_of (since Over h) ≤ ms
moment_over ms [] k = k
moment_over ms (x ∷ h) k = k

-- no journal is ahead of the clock
moment_at : (p : ℕ) (m : History) → moment_of (journal p m) ≤ moment m
moment_at p [] = omega arith
moment_at p (Call (Accept (accepted.Pair q)) ∷ m) = moment_began (q == p) p (moment m) (journal p m) (moment_at p m)
moment_at p (Call (Accept accepted.NotYet) ∷ m) = moment_at p m
moment_at p (Call (Accept accepted.Failed) ∷ m) = moment_at p m
moment_at p (Call (Connect q answer) ∷ m) = moment_one (q == p) (moment m) (Joined answer) (journal p m) refl (moment_at p m)
moment_at p (Call (Read q end room answer bytes) ∷ m) =
    moment_one (q == p) (moment m) (read_entry end answer bytes) (journal p m) (moment_read end answer bytes (journal p m)) (moment_at p m)
moment_at p (Call (Write q end bytes answer) ∷ m) =
    moment_one (q == p) (moment m) (write_entry end bytes answer) (journal p m) (moment_write end bytes answer (journal p m)) (moment_at p m)
moment_at p (Call (Shut q end) ∷ m) = moment_one (q == p) (moment m) (Lost end loss.Shut) (journal p m) refl (moment_at p m)
moment_at p (Call (Idle answer) ∷ m) = moment_at p m
moment_at p (Call (Now ms) ∷ m) = moment_now ms (journal p m)
moment_at p (Refuse q ∷ m) = moment_one (q == p) (moment m) Refused (journal p m) refl (moment_at p m)
moment_at p (TakeUp q ∷ m) = moment_one (q == p) (moment m) Settled (journal p m) refl (moment_at p m)
moment_at p (RunOut q s cut ∷ m) = moment_one (q == p) (moment m) (OutOfMemory cut) (journal p m) refl (moment_at p m)
moment_at p (Finish how ∷ m) = moment_over (moment m) (journal p m) (moment_at p m)

-- ---- the end of the service in a journal

over_one : (b : Bool) (e : Entry) (h : List Entry) → is_over (e ∷ h) ≡ is_over h → is_over h ≡ false → is_over (if b then e ∷ h else h) ≡ false
over_one true e h same k = same ∙ k
over_one false e h same k = k

over_began : (b : Bool) (p ms : ℕ) (h : List Entry) → is_over h ≡ false → is_over (if b then Began p ms ∷ [] else h) ≡ false
over_began true p ms h k = refl
over_began false p ms h k = k

over_read : (end : End) (answer : Got) (bytes : List ℕ) (h : List Entry) → is_over (read_entry end answer bytes ∷ h) ≡ is_over h
over_read end (got.Bytes n) bytes h = refl
over_read end got.NotYet bytes h = refl
over_read end got.Ended bytes h = refl
over_read end got.Failed bytes h = refl

over_write : (end : End) (bytes : List ℕ) (answer : Put) (h : List Entry) → is_over (write_entry end bytes answer ∷ h) ≡ is_over h
over_write end bytes (put.Took n) h = refl
over_write end bytes put.NotYet h = refl
over_write end bytes put.Failed h = refl

over_moment : (ms : ℕ) (h : List Entry) → is_over h ≡ false → is_over (since (Moment ms) h) ≡ false
over_moment ms [] k = k
over_moment ms (x ∷ h) k = k

pub shut_ended : (p : ℕ) (end : End) (x : Point) → is_ended (after_shut p end x) ≡ false → is_ended x ≡ false
shut_ended p end x e = elim (is_or_isnt (is_ended x)) [
  | inl over ↦ let clash : false ≡ true = sym e ∙ ap (λ (y : Point). is_ended (after_shut p end y)) (ended_is x over) in absurd cc
  | inr runs ↦ runs
]

-- while the service runs no journal says that it ended
pub not_over : (w : RelayWords) (c : Limits) (m : History) → Follows w c m → is_ended (point m) ≡ false → (p : ℕ) → is_over (journal p m) ≡ false
not_over w c [] f runs p = refl
not_over w c (Call (Accept (accepted.Pair q)) ∷ m) f runs p =
    over_began (q == p) p (moment m) (journal p m) (not_over w c m f.2 (runs_still w c m _ f.0 refl) p)
not_over w c (Call (Accept accepted.NotYet) ∷ m) f runs p = not_over w c m f.2 (runs_still w c m _ f.0 refl) p
not_over w c (Call (Accept accepted.Failed) ∷ m) f runs p = not_over w c m f.2 (runs_still w c m _ f.0 refl) p
not_over w c (Call (Connect q answer) ∷ m) f runs p = over_one (q == p) (Joined answer) (journal p m) refl (not_over w c m f.2 (runs_still w c m _ f.0 refl) p)
not_over w c (Call (Read q end room answer bytes) ∷ m) f runs p =
    over_one (q == p) (read_entry end answer bytes) (journal p m) (over_read end answer bytes (journal p m)) (not_over w c m f.2 (runs_still w c m _ f.0 refl) p)
not_over w c (Call (Write q end bytes answer) ∷ m) f runs p =
    over_one (q == p) (write_entry end bytes answer) (journal p m) (over_write end bytes answer (journal p m)) (not_over w c m f.2 (runs_still w c m _ f.0 refl) p)
not_over w c (Call (Shut q end) ∷ m) f runs p =
    over_one (q == p) (Lost end loss.Shut) (journal p m) refl (not_over w c m f.2 (shut_ended q end (point m) runs) p)
not_over w c (Call (Idle answer) ∷ m) f runs p = not_over w c m f.2 (runs_still w c m _ f.0 refl) p
not_over w c (Call (Now ms) ∷ m) f runs p = over_moment ms (journal p m) (not_over w c m f.2 (runs_still w c m _ f.0 refl) p)
not_over w c (Refuse q ∷ m) f runs p = over_one (q == p) Refused (journal p m) refl (not_over w c m f.1 (refuse_runs q m f.0) p)
not_over w c (TakeUp q ∷ m) f runs p = over_one (q == p) Settled (journal p m) refl (not_over w c m f.1 (runs_still w c m _ f.0 refl) p)
not_over w c (RunOut q s cut ∷ m) f runs p = over_one (q == p) (OutOfMemory cut) (journal p m) refl (not_over w c m f.2 (run_out_runs w c q s cut m f.1) p)
not_over w c (Finish how ∷ m) f runs p = absurd cc

over_since : (h : List Entry) → has_end (sides h) ≡ true → is_over (since Over h) ≡ true
over_since [] some = absurd cc
over_since (x ∷ h) some = refl

over_stays : (b : Bool) (e : Entry) (h : List Entry) → is_over (e ∷ h) ≡ is_over h → is_over h ≡ true → is_over (if b then e ∷ h else h) ≡ true
over_stays true e h same k = same ∙ k
over_stays false e h same k = k

-- after the end of the service the journals of the pairs that live say so
pub closing_over : (w : RelayWords) (c : Limits) (m : History) → Follows w c m → is_ended (point m) ≡ true → (p : ℕ) → is_live p m ≡ true → is_over (journal p m) ≡ true
closing_over w c [] f over p l = absurd cc
closing_over w c (Call entry ∷ m) f over p l = elim (is_or_isnt (is_ended (point m))) [
  | inl before ↦
      let k : (q : ℕ) × (end : End) × (entry ≡ Shut q end) = closing_call w c m entry (ended_is (point m) before) f.0 in
      subst (λ (x : LogEntry). is_live p (Call x ∷ m) ≡ true → is_over (journal p (Call x ∷ m)) ≡ true) (sym k.2)
      (λ live. over_stays (k.0 == p) (Lost k.1 loss.Shut) (journal p m) refl
      (closing_over w c m f.2 before p (among_gone (has_end (sides (journal k.0 (Call (Shut k.0 k.1) ∷ m)))) k.0 p (live_pairs m) live))) l
  | inr runs ↦ let clash : false ≡ true = sym (after_runs entry (point m) runs) ∙ over in absurd cc
]
closing_over w c (Refuse q ∷ m) f over p l = absurd cc
closing_over w c (TakeUp q ∷ m) f over p l = absurd cc
closing_over w c (RunOut q s cut ∷ m) f over p l = absurd cc
closing_over w c (Finish how ∷ m) f over p l = over_since (journal p m) (sym ((lives w c m f.2).each p) ∙ l)

-- ---- each entry

runs_may : (e : Entry) (b : Bool) → b ≡ false → MayComeAfter b e
runs_may e b k = subst (λ (x : Bool). MayComeAfter x e) (sym k) tt

shut_may : (end : End) (b : Bool) → MayComeAfter b (Lost end loss.Shut)
shut_may end true = tt
shut_may end false = tt

-- an entry of this pair or of another
one_of : (w : RelayWords) (q p : ℕ) (e : Entry) (h : List Entry) → (q ≡ p → MayCome w h e) → MayComeAfter (is_over h) e → IsRelayed w h
    → IsRelayed w (if q == p then e ∷ h else h)
one_of w q p e h may after rest = elim (eqb_tells q p) [
  | inl t ↦ rw t.0 (may t.1, after, rest)
  | inr f ↦ rw f.0 rest
]

began_of : (w : RelayWords) (q p ms : ℕ) (h : List Entry) → IsRelayed w h → IsRelayed w (if q == p then Began p ms ∷ [] else h)
began_of w q p ms h rest = elim (eqb_tells q p) [ inl t ↦ rw t.0 (refl, tt, tt) | inr f ↦ rw f.0 rest ]

since_of : (w : RelayWords) (e : Entry) (h : List Entry) → MayCome w h e → MayComeAfter (is_over h) e → IsRelayed w h → IsRelayed w (since e h)
since_of w e [] may after rest = tt
since_of w e (x ∷ h) may after rest = (may, after, rest)

read_may : (w : RelayWords) (end : End) (answer : Got) (bytes : List ℕ) (h : List Entry) (m : History) (q room : ℕ) → room ≡ read_room → reads w end h ≡ true
    → Answered m (Read q end room answer bytes) → MayCome w h (read_entry end answer bytes)
read_may w end (got.Bytes n) bytes h m q room full r a = (r, subst (λ (k : ℕ). 1 ≤ k) (sym a.2) a.0, fits n (length bytes) room read_room a.2 a.1 full)
  where
    fits : (n k room most : ℕ) → k ≡ n → n ≤ room → room ≡ most → k ≤ most
    fits n k room most e within full = omega (arith, e, within, full)
read_may w end got.NotYet bytes h m q room full r a = r
read_may w end got.Ended bytes h m q room full r a = r
read_may w end got.Failed bytes h m q room full r a = inl r

write_may : (w : RelayWords) (end : End) (answer : Put) (bytes : List ℕ) (h : List Entry) (m : History) (q : ℕ) → offers w end h ≡ Some bytes
    → Answered m (Write q end bytes answer) → MayCome w h (write_entry end bytes answer)
write_may w end (put.Took n) bytes h m q o a = (o, a.0, a.1)
write_may w end put.NotYet bytes h m q o a = o
write_may w end put.Failed bytes h m q o a = inr (ap is_some o)

shut_for : (w : RelayWords) (c : Limits) (m : History) (p : ℕ) (end : End) → Follows w c m → Wanted w c m (Do (AskShut p end)) → ShutFor w end (journal p m)
shut_for w c m p end f a = elim a.2 [
  | inl due ↦ WhereDue end (journal p m) due
  | inr more ↦ elim more [
    | inl refused ↦ subst (λ (x : End). ShutFor w x (journal p m)) (sym refused.1)
        (subst (λ (h : List Entry). ShutFor w Client h) (sym refused.0.1) (AtRefusal (Began p refused.0.0 ∷ [])))
    | inr over ↦ AtTheEnd end (journal p m) (closing_over w c m f (ap is_ended over) p a.0)
  ]
]

runs_out : (w : RelayWords) (c : Limits) (p : ℕ) (s : Stage) (cut : ℕ) (m : History) → Follows w c m → RunsOutAt w c p s cut m → RunsOut w cut (journal p m)
runs_out w c p s k m f (AtRead cut end room n bytes old) =
    subst (λ (h : List Entry). RunsOut w cut h) (sym (if_same p (Came end bytes ∷ journal p old) (journal p old))) (ReadRunsOut cut end bytes (journal p old))
runs_out w c p s k m f (AtTakeUp cut old) =
    subst (λ (h : List Entry). RunsOut w cut h) (sym (if_same p (Settled ∷ journal p old) (journal p old))) (TakeUpRunsOut cut (journal p old))
runs_out w c p s k m f (AtWrite end bytes old e t) =
    let a : (is_live p old ≡ true) × (offers w end (journal p old) ≡ Some bytes) = wanted w c old (Do (AskWrite p end bytes)) f e in
    WriteRunsOut end (journal p old) (ap is_some a.1) t

refused_may : (w : RelayWords) (p : ℕ) (m : History) → RefusesAt p m → is_new (journal p m) ≡ true
refused_may w p (Call (Accept (accepted.Pair q)) ∷ m) r =
    subst (λ (x : ℕ). is_new (journal p (Call (Accept (accepted.Pair x)) ∷ m)) ≡ true) (sym r) (ap is_new (if_same p (Began p (moment m) ∷ []) (journal p m)))
refused_may w p m r = absurd r

call_relayed : (w : RelayWords) (c : Limits) (p : ℕ) (m : History) (entry : LogEntry) → Follows w c m → next w c m ≡ Do (asked entry) → Answered m entry → IsRelayed w (journal p m)
    → IsRelayed w (journal p (Call entry ∷ m))
call_relayed w c p m (Accept (accepted.Pair q)) f e a r = began_of w q p (moment m) (journal p m) r
call_relayed w c p m (Accept accepted.NotYet) f e a r = r
call_relayed w c p m (Accept accepted.Failed) f e a r = r
call_relayed w c p m (Connect q answer) f e a r =
    let n : (is_live q m ≡ true) × (connects w (journal q m) ≡ true) = wanted w c m _ f e in
    one_of w q p (Joined answer) (journal p m) (λ s. subst (λ (i : ℕ). connects w (journal i m) ≡ true) s n.1)
    (runs_may (Joined answer) (is_over (journal p m)) (not_over w c m f (runs_still w c m _ e refl) p)) r
call_relayed w c p m (Read q end room answer bytes) f e a r =
    let n : (is_live q m ≡ true) × (room ≡ read_room) × (reads w end (journal q m) ≡ true) = wanted w c m _ f e in
    one_of w q p (read_entry end answer bytes) (journal p m)
    (λ s. read_may w end answer bytes (journal p m) m q room n.1 (subst (λ (i : ℕ). reads w end (journal i m) ≡ true) s n.2) a)
    (runs_may (read_entry end answer bytes) (is_over (journal p m)) (not_over w c m f (runs_still w c m _ e refl) p)) r
call_relayed w c p m (Write q end bytes answer) f e a r =
    let n : (is_live q m ≡ true) × (offers w end (journal q m) ≡ Some bytes) = wanted w c m _ f e in
    one_of w q p (write_entry end bytes answer) (journal p m)
    (λ s. write_may w end answer bytes (journal p m) m q (subst (λ (i : ℕ). offers w end (journal i m) ≡ Some bytes) s n.1) a)
    (runs_may (write_entry end bytes answer) (is_over (journal p m)) (not_over w c m f (runs_still w c m _ e refl) p)) r
call_relayed w c p m (Shut q end) f e a r =
    one_of w q p (Lost end loss.Shut) (journal p m) (λ s. subst (λ (i : ℕ). ShutFor w end (journal i m)) s (shut_for w c m q end f (wanted w c m _ f e)))
    (shut_may end (is_over (journal p m))) r
call_relayed w c p m (Idle answer) f e a r = r
call_relayed w c p m (Now ms) f e a r =
    let low : moment_of (journal p m) ≤ moment m = moment_at p m in
    since_of w (Moment ms) (journal p m) (onward (moment_of (journal p m)) (moment m) ms low a)
    (runs_may (Moment ms) (is_over (journal p m)) (not_over w c m f (runs_still w c m _ e refl) p)) r
  where
    onward : (k n ms : ℕ) → k ≤ n → n ≤ ms → k ≤ ms
    onward k n ms low a = omega (arith, low, a)

pub relayed : (w : RelayWords) (c : Limits) (m : History) → Follows w c m → (p : ℕ) → IsRelayed w (journal p m)
relayed w c [] f p = tt
relayed w c (Call entry ∷ m) f p = call_relayed w c p m entry f.2 f.0 f.1 (relayed w c m f.2 p)
relayed w c (Refuse q ∷ m) f p =
    one_of w q p Refused (journal p m) (λ s. subst (λ (i : ℕ). is_new (journal i m) ≡ true) s (refused_may w q m f.0))
    (runs_may Refused (is_over (journal p m)) (not_over w c m f.1 (refuse_runs q m f.0) p)) (relayed w c m f.1 p)
relayed w c (TakeUp q ∷ m) f p =
    let n : (is_live q m ≡ true) × (takes_up w (journal q m) ≡ true) = wanted w c m _ f.1 f.0 in
    one_of w q p Settled (journal p m) (λ s. subst (λ (i : ℕ). takes_up w (journal i m) ≡ true) s n.1)
    (runs_may Settled (is_over (journal p m)) (not_over w c m f.1 (runs_still w c m _ f.0 refl) p)) (relayed w c m f.1 p)
relayed w c (RunOut q s cut ∷ m) f p =
    one_of w q p (OutOfMemory cut) (journal p m)
    (λ same. subst (λ (i : ℕ). (is_out_of_memory (journal i m) ≡ false) × RunsOut w cut (journal i m)) same (f.0, runs_out w c q s cut m f.2 f.1))
    (runs_may (OutOfMemory cut) (is_over (journal p m)) (not_over w c m f.2 (run_out_runs w c q s cut m f.1) p)) (relayed w c m f.2 p)
relayed w c (Finish how ∷ m) f p =
    let calm : is_over (journal p m) ≡ false = not_over w c m f.2 f.1 p in
    since_of w Over (journal p m) calm (runs_may Over (is_over (journal p m)) calm) (relayed w c m f.2 p)
