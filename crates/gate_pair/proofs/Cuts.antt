-- The loop of a read, over states alone.
use Rattle.std.proofs.Common.{◌≡◌, ◌∙◌, ℕ, zero, suc, ◌+◌, ◌-◌, ◌<◌, Bool, true, false, List, []}
use Rattle.std.proofs.Common.{◌∷◌, ◌++◌, refl, sym, ap, subst, arith, drop, length, append_assoc}
use Rattle.std.proofs.Common.{length-append}
use Rattle.std.proofs.Math.Seq.{drop-nil}
use Rattle.gate_outside.specs.declared.ports.End.{End}
use Rattle.gate_outside.specs.declared.ports.End.TheVariants.{Client, Up}
use Rattle.machine_091.specs.State.{awaits}
use Rattle.machine_091.specs.declared.state.Awaited91.{Awaited91}
use Rattle.machine_091.specs.declared.unit.Unit91.{Unit91}
use Rattle.machine_091.specs.declared.unit.Unit91.TheVariants as unit
use Rattle.machine_10.specs.declared.state.Awaited10.{Awaited10}
use Rattle.machine_10.specs.declared.unit.Unit10.{Unit10}
use Rattle.machine_10.specs.declared.unit.Unit10.TheVariants as unit_10
use Rattle.performatives_10.specs.declared.condition.Condition.{Condition}
use Rattle.frames_10.specs.FrameScan.{is_whole}
use Rattle.wire_base.specs.declared.scan.Scan.{Scan}
use Rattle.wire_base.specs.declared.scan.Scan.TheVariants.{Whole, More, Bad}
use Rattle.gate_model.specs.State.{State, Step, Queued, Heard, OutOfMemory, step}
use Rattle.gate_model.specs.Upstream.{awaited_of}
use Rattle.gate_pair.specs.Cutting.{Cut, after, as_step, behind, cut_all, cut_of, on_scan, read_end}
use Rattle.gate_pair.specs.Cutting.{settle, step_scan, unit_scan, up_scan}
use Rattle.gate_pair.specs.PairStates.{IsCut, IsRead, QueuesInPart, ReadsInPart, ReadsUpInPart}
use Rattle.gate_pair.specs.PairStates.{Settles, SettlesInPart}
use Rattle.gate_pair.proofs.Settlings.{Grows, grows_more, less_one, settled_grows}

pub drop_list : {A : Type 0} (n at : ℕ) (xs : List A) → drop n (drop at xs) ≡ drop (at + n) xs
drop_list n zero xs = ap (λ m. drop m xs) (let e : n ≡ 0 + n = omega arith in e)
drop_list n (suc at) [] = drop-nil n ∙ sym (drop-nil (suc at + n))
drop_list n (suc at) (x ∷ xs) =
    let e : suc (at + n) ≡ suc at + n = omega arith in
    drop_list n at xs ∙ ap (λ m. drop m (x ∷ xs)) e

-- what is left behind a unit of the bytes that were kept and those that came
pub drop_kept : (n at : ℕ) (kept bytes : List ℕ) → drop n kept ++ drop (at + (n - length kept)) bytes ≡ drop n (kept ++ drop at bytes)
drop_kept zero at [] bytes = ap (λ m. drop m bytes) (let e : at + 0 ≡ at = omega arith in e)
drop_kept (suc n) at [] bytes = ap (λ m. drop m bytes) (let e : at + (suc n - 0) ≡ at + suc n = omega arith in e) ∙ sym (drop_list (suc n) at bytes)
drop_kept zero at (x ∷ kept) bytes = ap (λ m. (x ∷ kept) ++ drop m bytes) (let e : at + (0 - suc (length kept)) ≡ at = omega arith in e)
drop_kept (suc n) at (x ∷ kept) bytes =
    ap (λ m. drop n kept ++ drop m bytes) (let e : at + (suc n - suc (length kept)) ≡ at + (n - length kept) = omega arith in e) ∙ drop_kept n at kept bytes

-- so far a read of an end made the steps k since the state old, and these bytes are left of it
pub record Reading (end : End) (old now : State) (bytes rest : List ℕ) (left : ℕ) : Type 0 where
  pub k : List Step
  pub here : now ≡ after k old
  pub same : read_end end old left k rest ≡ cut_all end old bytes

-- what can be taken up was, at the start and behind a unit
abbrev pub Follows : End → State → State → Type 0
Follows Client v next = Settles v next
Follows Up v next = next ≡ v

follows_is : (end : End) (old v next : State) (g : List Step) → v ≡ after g old → Follows end v next → next ≡ after (behind end old g) old
follows_is Client old v next g e f = f old g e
follows_is Up old v next g e f = f ∙ e

pub read_start : (end : End) (old now : State) (bytes : List ℕ) → Follows end old now → Reading end old now bytes bytes (length bytes)
read_start end old now bytes f = record { k = behind end old []; here = follows_is end old old now [] refl f; same = refl }

step_read : (end : End) (old now : State) (k : List Step) (f : ℕ) (rest : List ℕ) (x : Scan Step Step) → now ≡ after k old → step_scan end now rest ≡ x →
    read_end end old (suc f) k rest ≡ on_scan x (cut_of k rest) (λ s. cut_of (behind end old (s ∷ k)) []) (λ s n. read_end end old f (behind end old (s ∷ k)) (drop n rest))
step_read end old now k f rest x here e =
    ap (λ y. on_scan y (cut_of k rest) (λ s. cut_of (behind end old (s ∷ k)) []) (λ s n. read_end end old f (behind end old (s ∷ k)) (drop n rest)))
    (ap (λ (w : State). step_scan end w rest) (sym here) ∙ e)

left_at : (end : End) (old now : State) (bytes rest : List ℕ) (i : ℕ) → i < length bytes → Reading end old now bytes rest (length bytes - i)
    → Reading end old now bytes rest (suc (length bytes - (i + 1)))
left_at end old now bytes rest i lt r = subst (Reading end old now bytes rest) (less_one (length bytes) i lt) r

pub whole_at : (end : End) (old now next : State) (bytes rest more : List ℕ) (i n : ℕ) (s : Step) → i < length bytes → Reading end old now bytes rest (length bytes - i)
    → step_scan end now rest ≡ Whole s n → Follows end (step now s) next → more ≡ drop n rest → Reading end old next bytes more (length bytes - (i + 1))
whole_at end old now next bytes rest more i n s lt r e m is =
    let f = length bytes - (i + 1) in
    let x = left_at end old now bytes rest i lt r in
    record {
      k = behind end old (s ∷ x.k);
      here = follows_is end old (step now s) next (s ∷ x.k) (ap (λ (w : State). step w s) x.here) m;
      same = ap (read_end end old f (behind end old (s ∷ x.k))) is ∙ sym (step_read end old now x.k f rest (Whole s n) x.here e) ∙ x.same;
    }

pub more_at : (end : End) (old now : State) (bytes rest : List ℕ) (i : ℕ) → i < length bytes → Reading end old now bytes rest (length bytes - i)
    → step_scan end now rest ≡ More → IsRead old (cut_all end old bytes) now rest
more_at end old now bytes rest i lt r e =
    let x = left_at end old now bytes rest i lt r in
    let all = sym (step_read end old now x.k (length bytes - (i + 1)) rest More x.here e) ∙ x.same in
    record { now = x.here ∙ ap (λ (c : Cut). after c.fresh old) all; left = ap (λ (c : Cut). c.unread) all }

pub bad_at : (end : End) (old now next : State) (bytes rest none : List ℕ) (i : ℕ) (s : Step) → i < length bytes → Reading end old now bytes rest (length bytes - i)
    → step_scan end now rest ≡ Bad s → Follows end (step now s) next → none ≡ [] → IsRead old (cut_all end old bytes) next none
bad_at end old now next bytes rest none i s lt r e m is =
    let x = left_at end old now bytes rest i lt r in
    let all = sym (step_read end old now x.k (length bytes - (i + 1)) rest (Bad s) x.here e) ∙ x.same in
    record {
      now = follows_is end old (step now s) next (s ∷ x.k) (ap (λ (w : State). step w s) x.here) m ∙ ap (λ (c : Cut). after c.fresh old) all;
      left = is ∙ ap (λ (c : Cut). c.unread) all;
    }

-- as many units as there are bytes
pub all_at : (end : End) (old now : State) (bytes rest : List ℕ) → Reading end old now bytes rest 0 → IsRead old (cut_all end old bytes) now rest
all_at end old now bytes rest r =
    record { now = r.here ∙ ap (λ (c : Cut). after c.fresh old) r.same; left = ap (λ (c : Cut). c.unread) r.same }

-- a read adds steps in front
behind_grows : (end : End) (old : State) (k : List Step) → Grows k (behind end old k)
behind_grows Client old k = settled_grows old (length (after k old).queue) k
behind_grows Up old k = record { newer = []; parts = refl }

step_grows : (end : End) (old : State) (s : Step) (k : List Step) → Grows k (behind end old (s ∷ k))
step_grows end old s k = grows_more k (s ∷ k) (behind end old (s ∷ k)) (record { newer = s ∷ []; parts = refl }) (behind_grows end old (s ∷ k))

pub read_grows : (end : End) (old : State) (f : ℕ) (k : List Step) (bytes : List ℕ) → Grows k (read_end end old f k bytes).fresh
read_grows end old zero k bytes = record { newer = []; parts = refl }
read_grows end old (suc f) k bytes = by (step_scan end (after k old) bytes) (λ s n. read_grows end old f (behind end old (s ∷ k)) (drop n bytes))
  where
    by : (x : Scan Step Step) → ((s : Step) (n : ℕ) → Grows (behind end old (s ∷ k)) (read_end end old f (behind end old (s ∷ k)) (drop n bytes)).fresh)
        → Grows k (on_scan x (cut_of k bytes) (λ s. cut_of (behind end old (s ∷ k)) []) (λ s n. read_end end old f (behind end old (s ∷ k)) (drop n bytes))).fresh
    by More rec = record { newer = []; parts = refl }
    by (Bad s) rec = step_grows end old s k
    by (Whole s n) rec = grows_more k (behind end old (s ∷ k)) _ (step_grows end old s k) (rec s n)

-- the pair ran out of memory within a read: steps before that place count
cut_behind : (old next : State) (k all : List Step) → Grows k all → IsCut old next k → IsCut old next all
cut_behind old next k all g c = record {
  newer = g.newer ++ c.newer;
  older = c.older;
  parts = g.parts ∙ ap (λ (x : List Step). g.newer ++ x) c.parts ∙ sym (append_assoc g.newer c.newer c.older);
  now = c.now;
}

pub cut_at : (end : End) (old now next : State) (bytes rest : List ℕ) (left : ℕ) → Reading end old now bytes rest left → next ≡ step now OutOfMemory → ReadsInPart end bytes old next
cut_at end old now next bytes rest left r e =
    let g = read_grows end old left r.k rest in
    record {
      newer = g.newer;
      older = r.k;
      parts = sym (ap (λ (c : Cut). c.fresh) r.same) ∙ g.parts;
      now = e ∙ ap (λ (w : State). step w OutOfMemory) r.here;
    }

-- and behind it
pub cut_behind_read : (old now next : State) (c : Cut) (rest : List ℕ) → IsRead old c now rest → next ≡ step now OutOfMemory → IsCut old next c.fresh
cut_behind_read old now next c rest r e =
    record { newer = []; older = c.fresh; parts = refl; now = e ∙ ap (λ (w : State). step w OutOfMemory) r.now }

-- at a unit of the container: it doesn't count
abbrev pub is_found : Scan Step Step → Bool
is_found More = false
is_found (Bad s) = true
is_found (Whole s n) = true

found_grows : (old : State) (f : ℕ) (k : List Step) (rest : List ℕ) (x : Scan Step Step) → is_found x ≡ true → (all : List Step)
    → (on_scan x (cut_of k rest) (λ s. cut_of (s ∷ k) []) (λ s n. read_end Up old f (s ∷ k) (drop n rest))).fresh ≡ all
    → (s : Step) × Grows (s ∷ k) all
found_grows old f k rest More e all is = absurd cc
found_grows old f k rest (Bad s) e all is = (s, record { newer = []; parts = sym is })
found_grows old f k rest (Whole s n) e all is =
    let g = read_grows Up old f (s ∷ k) (drop n rest) in (s, record { newer = g.newer; parts = sym is ∙ g.parts })

pub found_cut_at : (old now next : State) (bytes rest : List ℕ) (i : ℕ) → i < length bytes → Reading Up old now bytes rest (length bytes - i)
    → is_found (step_scan Up now rest) ≡ true → next ≡ step now OutOfMemory → ReadsUpInPart bytes old next
found_cut_at old now next bytes rest i lt r found e =
    let f = length bytes - (i + 1) in
    let x = left_at Up old now bytes rest i lt r in
    let all = sym (step_read Up old now x.k f rest _ x.here refl) ∙ x.same in
    let g = found_grows old f x.k rest (step_scan Up now rest) found _ (ap (λ (c : Cut). c.fresh) all) in (
      record {
        newer = g.1.newer ++ g.0 ∷ [];
        older = x.k;
        parts = g.1.parts ∙ sym (append_assoc g.1.newer (g.0 ∷ []) x.k);
        now = e ∙ ap (λ (w : State). step w OutOfMemory) x.here;
      },
      omega (arith, length-append g.1.newer (g.0 ∷ [])),
    )

-- before it began
pub none_cut : (end : End) (old next : State) (bytes : List ℕ) → next ≡ step old OutOfMemory → ReadsInPart end bytes old next
none_cut end old next bytes e =
    let grown : Grows [] (cut_all end old bytes).fresh =
    grows_more [] (behind end old []) _ (behind_grows end old []) (read_grows end old (length bytes) (behind end old []) bytes) in
    record { newer = grown.newer; older = []; parts = grown.parts; now = e }

-- within what is taken up before its first unit, and behind one
pub start_cut_at : (old next : State) (bytes : List ℕ) → SettlesInPart old next → ReadsInPart Client bytes old next
start_cut_at old next bytes f =
    cut_behind old next (settle old []) _ (read_grows Client old (length bytes) (settle old []) bytes) (f old [] refl)

pub whole_cut_at : (old now next : State) (bytes rest : List ℕ) (i n : ℕ) (s : Step) → i < length bytes → Reading Client old now bytes rest (length bytes - i)
    → step_scan Client now rest ≡ Whole s n → QueuesInPart s now next → ReadsInPart Client bytes old next
whole_cut_at old now next bytes rest i n s lt r e f =
    let left = length bytes - (i + 1) in
    let x = left_at Client old now bytes rest i lt r in
    let k : List Step = settle old (s ∷ x.k) in
    let all = sym (step_read Client old now x.k left rest (Whole s n) x.here e) ∙ x.same in
    subst (λ (c : Cut). IsCut old next c.fresh) all
    (cut_behind old next k _ (read_grows Client old left k (drop n rest)) (f old x.k x.here))

pub bad_cut_at : (old now next : State) (bytes rest : List ℕ) (i : ℕ) (s : Step) → i < length bytes → Reading Client old now bytes rest (length bytes - i)
    → step_scan Client now rest ≡ Bad s → QueuesInPart s now next → ReadsInPart Client bytes old next
bad_cut_at old now next bytes rest i s lt r e f =
    let x = left_at Client old now bytes rest i lt r in
    let all = sym (step_read Client old now x.k (length bytes - (i + 1)) rest (Bad s) x.here e) ∙ x.same in
    subst (λ (c : Cut). IsCut old next c.fresh) all (f old x.k x.here)

-- a unit that is queued, and what is taken up behind it
pub queued_all : (now mid next : State) (s : Step) → mid ≡ step now s → Settles mid next → Settles (step now s) next
queued_all now mid next s e f w g is = f w g (e ∙ is)

pub cut_at_once : (now next : State) (s : Step) → next ≡ step now OutOfMemory → QueuesInPart s now next
cut_at_once now next s e w g is =
    let grown = step_grows Client w s g in
    record { newer = grown.newer; older = g; parts = grown.parts; now = e ∙ ap (λ (v : State). step v OutOfMemory) is }

pub cut_later : (now mid next : State) (s : Step) → mid ≡ step now s → SettlesInPart mid next → QueuesInPart s now next
cut_later now mid next s e f w g is = f w (s ∷ g) (e ∙ ap (λ (v : State). step v s) is)

-- ---- what a scan finds, as steps

pub scan_goes : (w : State) (a : Awaited91) (bytes rest : List ℕ) (x : Scan Unit91 ℕ) → a ≡ awaits w.conn → rest ≡ bytes → x ≡ unit_scan a rest
    → step_scan Client w bytes ≡ as_step Queued unit.Bad x
scan_goes w a bytes rest x e same is =
    ap (as_step Queued unit.Bad) (ap (λ (c : Awaited91). unit_scan c bytes) (sym e) ∙ ap (unit_scan a) (sym same) ∙ sym is)

pub scan_hears : (w : State) (a : Awaited10) (bytes rest : List ℕ) (x : Scan Unit10 Condition) → a ≡ awaited_of w.up.container → rest ≡ bytes → x ≡ up_scan a rest
    → step_scan Up w bytes ≡ as_step Heard unit_10.Bad x
scan_hears w a bytes rest x e same is =
    ap (as_step Heard unit_10.Bad) (ap (λ (c : Awaited10). up_scan c bytes) (sym e) ∙ ap (up_scan a) (sym same) ∙ sym is)

-- where memory ran out a unit is there
pub whole_found : (w : State) (a : Awaited10) (bytes rest : List ℕ) → a ≡ awaited_of w.up.container → rest ≡ bytes → is_whole (up_scan a rest) ≡ true
    → is_found (step_scan Up w bytes) ≡ true
whole_found w a bytes rest e same is =
    ap is_found (scan_hears w a bytes rest (up_scan a rest) e same refl) ∙ by (up_scan a rest) is
  where
    by : (x : Scan Unit10 Condition) → is_whole x ≡ true → is_found (as_step Heard unit_10.Bad x) ≡ true
    by (Whole u n) e = refl
    by More e = absurd cc
    by (Bad code) e = absurd cc
