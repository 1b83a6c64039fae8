-- The calls alone determine a run in which no pair ran out of memory and no sink failed.
use Rattle.std.proofs.Common.{◌≡◌, ℕ, zero, suc, ◌+◌, ◌<◌, ◌≤◌, ◌==◌, nat_lt, Bool, true, false}
use Rattle.std.proofs.Common.{List, [], ◌∷◌, length, filter, Option, None, Some, unwrap_or, ◌⊎◌}
use Rattle.std.proofs.Common.{refl, sym, ap, ◌∙◌, subst, inl, inr, arith}
use Rattle.std.specs.Option.{option_map}
use Rattle.std.proofs.lemmas.Bool.{lt-ltb, ltb-true}
use Rattle.std.proofs.lemmas.Bool.Decides.{nat_tests}
use Rattle.gate_outside.specs.declared.ports.End.TheVariants.{Client, Up}
use Rattle.gate_outside.specs.declared.log.LogEntry.{LogEntry}
use Rattle.gate_relay.specs.Entries.{Entry}
use Rattle.gate_relay.specs.Guards.{takes_up}
use Rattle.gate_relay.specs.RelayWords.{RelayWords}
use Rattle.gate_runs.specs.declared.lap.Lap.TheVariants.{ToUp, ToClient, ToClientLate, ToUpAgain}
use Rattle.gate_runs.specs.declared.limits.Limits.{Limits}
use Rattle.gate_runs.specs.declared.served.Served.{Served}
use Rattle.gate_runs.specs.declared.served.Served.TheVariants.{Stopped, PairsDone, TurnLimit, Fault}
use Rattle.gate_runs.specs.declared.served.Served.TheVariants.{Memory}
use Rattle.gate_runs.specs.declared.served.Outside.TheVariants as outside
use Rattle.gate_runs.specs.Marks.{Mark, History, Call, Refuse, TakeUp, RunOut, Finish, calls}
use Rattle.gate_runs.specs.Journal.{journal}
use Rattle.gate_runs.specs.Stages.{Stage, Reading, Taking, Linking, Writing, Shutting, Past, later}
use Rattle.gate_runs.specs.Stages.{stages_from}
use Rattle.gate_runs.specs.Next.{Upcoming, Do, Settle, EndBy, Done, Point, BetweenTurns, ClockRead}
use Rattle.gate_runs.specs.Next.{BeforePairs, Refusing, InPair, Ending, Ended, begin, beyond}
use Rattle.gate_runs.specs.Next.{closing, live_pairs, point, next}
use Rattle.gate_runs.specs.Serving.{is_ended, counted, EndsBy, Follows, is_sink_fault, IsServed}
use Rattle.gate_turn_laws.specs.Pairs.{is_among}
use Rattle.gate_turn_laws.specs.Log.{mark_between, go_on, with_marks, run_of, call_of, next_call}
use Rattle.gate_turn_laws.specs.Log.{FollowsLog, is_plain_end, IsPlain, Rests, IsWholeRun}
use Rattle.gate_turn_laws.proofs.Lists.{is_or_isnt, some_or_none, or_parts, is_equal, unlike}
use Rattle.gate_turn_laws.proofs.Points.{runs_still}
use Rattle.gate_turn_laws.proofs.Order.{ordered}
use Rattle.gate_turn_laws.proofs.Cover.{Asks, pairs_ahead, all_stages, of_pair, of_next, rests}
use Rattle.gate_turn_laws.proofs.Cover.{begins, accepts, refuses, stops, closes, cover_at, rest_at}
use Rattle.gate_turn_laws.proofs.Cover.{begin_at, asks_own}
use Rattle.gate_turn_laws.proofs.Living.{LivesAt, is_before_shut, lives}
use Rattle.gate_turn_laws.proofs.Stages.{chain_of, Found, found_by, among_passes}
use Rattle.gate_turn_laws.proofs.Ends.{lasts_at, never_next}

-- ---- how many marks may come without a call

shorter : (t : ℕ → Bool) (ps : List ℕ) → length (filter t ps) ≤ length ps
shorter t [] = omega arith
shorter t (p ∷ ps) = elim (is_or_isnt (t p)) [
  | inl kept ↦ rw kept (let more : length (filter t ps) ≤ length ps = shorter t ps in omega arith)
  | inr left ↦ rw left (let more : length (filter t ps) ≤ length ps = shorter t ps in omega arith)
]

-- a filter that leaves one out is shorter
one_shorter : (t : ℕ → Bool) (p : ℕ) (ps : List ℕ) → is_among p ps ≡ true → t p ≡ false → length (filter t ps) + 1 ≤ length ps
one_shorter t p [] here out = absurd cc
one_shorter t p (q ∷ ps) here out = elim (or_parts (q == p) (is_among p ps) here) [
  | inl same ↦
      let gone : t q ≡ false = ap t (is_equal q p same) ∙ out in rw gone (let more : length (filter t ps) ≤ length ps = shorter t ps in omega arith)
  | inr rest ↦
      let more : length (filter t ps) + 1 ≤ length ps = one_shorter t p ps rest out in elim (is_or_isnt (t q)) [
        | inl kept ↦ rw kept (omega arith)
        | inr left ↦ rw left (omega arith)
      ]
]

-- of two filters the narrower one is shorter
narrower : (t u : ℕ → Bool) (ps : List ℕ) → ((q : ℕ) → t q ≡ true → u q ≡ true) → length (filter t ps) ≤ length (filter u ps)
narrower t u [] within = omega arith
narrower t u (q ∷ ps) within =
    let more : length (filter t ps) ≤ length (filter u ps) = narrower t u ps within in elim (is_or_isnt (t q)) [
      | inl kept ↦ rw (kept, within q kept) (omega arith)
      | inr left ↦ elim (is_or_isnt (u q)) [ inl wide ↦ rw (left, wide) (omega arith) | inr out ↦ rw (left, out) more ]
    ]

one_narrower : (t u : ℕ → Bool) (p : ℕ) (ps : List ℕ) → ((q : ℕ) → t q ≡ true → u q ≡ true) → is_among p (filter u ps) ≡ true → t p ≡ false
    → length (filter t ps) + 1 ≤ length (filter u ps)
one_narrower t u p [] within here out = absurd cc
one_narrower t u p (q ∷ ps) within here out = elim (is_or_isnt (u q)) [
  | inl wide ↦ elim (or_parts (q == p) (is_among p (filter u ps)) (rw wide at here)) [
    | inl same ↦
        let gone : t q ≡ false = ap t (is_equal q p same) ∙ out in
        let more : length (filter t ps) ≤ length (filter u ps) = narrower t u ps within in rw (gone, wide) (omega arith)
    | inr rest ↦
        let more : length (filter t ps) + 1 ≤ length (filter u ps) = one_narrower t u p ps within rest out in elim (is_or_isnt (t q)) [
          | inl kept ↦ rw (kept, wide) (omega arith)
          | inr left ↦ rw (left, wide) (omega arith)
        ]
  ]
  | inr none ↦
      let more : length (filter t ps) + 1 ≤ length (filter u ps) = one_narrower t u p ps within (rw none at here) out in elim (is_or_isnt (t q)) [
        | inl kept ↦ let clash : false ≡ true = sym none ∙ within q kept in absurd cc
        | inr left ↦ rw (left, none) more
      ]
]

abbrev is_before_take : Stage → Bool
is_before_take (Reading end) = true
is_before_take Taking = true
is_before_take Linking = false
is_before_take (Writing lap k) = false
is_before_take (Shutting end) = false
is_before_take Past = false

abbrev one_if : Bool → ℕ
one_if true = 1
one_if false = 0

-- at most so many marks come without a call
abbrev left_at : History → Point → ℕ
left_at m BetweenTurns = 1
left_at m ClockRead = length (live_pairs m) + 1
left_at m BeforePairs = length (live_pairs m) + 1
left_at m (Refusing p) = 1
left_at m (InPair p s) = one_if (is_before_take s) + (length (beyond p (live_pairs m)) + 1)
left_at m (Ending how) = 1
left_at m Ended = 0

abbrev left : History → ℕ
left m = left_at m (point m)

not_below : (p : ℕ) → nat_lt p p ≡ false
not_below p = elim (is_or_isnt (nat_lt p p)) [ inl t ↦ let low : p < p = ltb-true p p t in absurd (omega arith) | inr f ↦ f ]

before_shut : (s : Stage) → is_before_take s ≡ true → is_before_shut s ≡ true
before_shut (Reading end) e = refl
before_shut Taking e = refl
before_shut Linking e = absurd cc
before_shut (Writing lap k) e = absurd cc
before_shut (Shutting end) e = absurd cc
before_shut Past e = absurd cc

within_live : (m : History) (x : Point) → LivesAt m x → left_at m x ≤ length (live_pairs m) + 1
within_live m BetweenTurns l = omega arith
within_live m ClockRead l = omega arith
within_live m BeforePairs l = omega arith
within_live m (Refusing p) l = omega arith
within_live m (InPair p s) l = elim (is_or_isnt (is_before_take s)) [
  | inl early ↦
      let less : length (filter (λ q. nat_lt p q) (live_pairs m)) + 1 ≤ length (live_pairs m) =
      one_shorter (λ q. nat_lt p q) p (live_pairs m) (l (before_shut s early)) (not_below p) in
      rw early (omega arith)
  | inr late ↦ let less : length (filter (λ q. nat_lt p q) (live_pairs m)) ≤ length (live_pairs m) = shorter (λ q. nat_lt p q) (live_pairs m) in rw late (omega arith)
]
within_live m (Ending how) l = omega arith
within_live m Ended l = omega arith

late_on : (s : Stage) → is_before_take s ≡ false → is_before_take (later s) ≡ false
late_on (Reading end) e = absurd cc
late_on Taking e = absurd cc
late_on Linking e = refl
late_on (Writing ToUp k) e = refl
late_on (Writing ToClient k) e = refl
late_on (Writing ToClientLate k) e = refl
late_on (Writing ToUpAgain k) e = refl
late_on (Shutting Up) e = refl
late_on (Shutting Client) e = refl
late_on Past e = refl

beyond_less : (p q : ℕ) (ps : List ℕ) → is_among p (beyond q ps) ≡ true → length (beyond p ps) + 1 ≤ length (beyond q ps)
beyond_less p q ps here =
    let low : q < p = ltb-true q p (among_passes (λ k. nat_lt q k) p ps here) in
    one_narrower (λ k. nat_lt p k) (λ k. nat_lt q k) p ps (λ r above. further q p r low above) here (not_below p)
  where
    further : (q p r : ℕ) → q < p → nat_lt p r ≡ true → nat_lt q r ≡ true
    further q p r low above = let high : p < r = ltb-true p r above in let far : q < r = omega arith in lt-ltb q r far

ahead_left : (m : History) (x : Point) (p : ℕ) → is_among p (pairs_ahead m x) ≡ true → length (beyond p (live_pairs m)) + 2 ≤ left_at m x
ahead_left m BetweenTurns p e = absurd cc
ahead_left m ClockRead p e =
    let less : length (filter (λ q. nat_lt p q) (live_pairs m)) + 1 ≤ length (live_pairs m) = one_shorter (λ q. nat_lt p q) p (live_pairs m) e (not_below p) in omega arith
ahead_left m BeforePairs p e =
    let less : length (filter (λ q. nat_lt p q) (live_pairs m)) + 1 ≤ length (live_pairs m) = one_shorter (λ q. nat_lt p q) p (live_pairs m) e (not_below p) in omega arith
ahead_left m (Refusing q) p e = absurd cc
ahead_left m (InPair q s) p e = let less : length (beyond p (live_pairs m)) + 1 ≤ length (beyond q (live_pairs m)) = beyond_less p q (live_pairs m) e in
    more (length (beyond p (live_pairs m))) (length (beyond q (live_pairs m))) (one_if (is_before_take s)) less
  where
    more : (a b k : ℕ) → a + 1 ≤ b → a + 2 ≤ k + (b + 1)
    more a b k low = omega (arith, low)
ahead_left m (Ending how) p e = absurd cc
ahead_left m Ended p e = absurd cc

own_late : (w : RelayWords) (p : ℕ) (s : Stage) (h : List Entry) (q : ℕ) → Found w p h (λ x. is_before_take x ≡ false) s (Settle q) → ⊥
own_late w p s h q k =
    let own : (p ≡ q) × (k.at ≡ Taking) = k.asks in
    let clash : false ≡ true = sym k.here ∙ ap is_before_take own.1 in cc

abbrev is_settle : Upcoming → Bool
is_settle (Do a) = false
is_settle (Settle p) = true
is_settle (EndBy how) = false
is_settle Done = false

not_begin : (c : Limits) (m : History) (up : Upcoming) → begin c m ≡ up → is_settle up ≡ true → ⊥
not_begin c m up e t = elim (begin_at c m up e) [
  | inl h ↦ unlike is_settle _ up h.1 refl t
  | inr g ↦ elim g [ inl h ↦ unlike is_settle _ up h.2 refl t | inr h ↦ unlike is_settle _ up h.1 refl t ]
]

not_closing : (m : History) (ps : List ℕ) (up : Upcoming) → closing m ps ≡ up → is_settle up ≡ true → ⊥
not_closing m [] up e t = unlike is_settle _ up e refl t
not_closing m (p ∷ ps) up e t = unlike is_settle _ up e refl t

pair_fewer : (w : RelayWords) (m : History) (p q : ℕ) (s : Stage) → Asks w p (stages_from s) (journal p m) (Settle q)
    → length (beyond q (live_pairs m)) + 2 ≤ left_at m (InPair p s)
pair_fewer w m p q s own = elim (is_or_isnt (is_before_take s)) [
  | inl early ↦ let same : (p ≡ q) × (takes_up w (journal p m) ≡ true) = asks_own w p (stages_from s) (journal p m) (Settle q) own in
      subst (λ (i : ℕ). length (beyond i (live_pairs m)) + 2 ≤ left_at m (InPair p s)) same.0 (rw early (omega arith))
  | inr late ↦ absurd (own_late w p s (journal p m) q
      (found_by w p (journal p m) (λ x. is_before_take x ≡ false) (λ x here none. late_on x here) s s (stages_from s) (Settle q) (chain_of s) late own))
]

settle_fewer : (w : RelayWords) (c : Limits) (m : History) (q : ℕ) → Follows w c m → next w c m ≡ Settle q → length (beyond q (live_pairs m)) + 2 ≤ left m
settle_fewer w c m q f e = elim (cover_at w c m (point m) (Settle q) (ordered w c m f).rising e) [
  | of_pair p s x own ↦ subst (λ (y : Point). length (beyond q (live_pairs m)) + 2 ≤ left_at m y) (sym x) (pair_fewer w m p q s own)
  | of_next p live ahead passed own ↦ let same : (p ≡ q) × (takes_up w (journal p m) ≡ true) = asks_own w p all_stages (journal p m) (Settle q) own in
      subst (λ (i : ℕ). length (beyond i (live_pairs m)) + 2 ≤ left m) same.0 (ahead_left m (point m) p ahead)
  | rests passed r ↦ elim (rest_at c m (Settle q) r) [ inl i ↦ absurd (unlike is_settle _ (Settle q) i.1 refl refl) | inr b ↦ absurd (not_begin c m (Settle q) b.1 refl) ]
  | begins x b ↦ absurd (not_begin c m (Settle q) b refl)
  | accepts x t a ↦ absurd (unlike is_settle _ (Settle q) a refl refl)
  | refuses p x a ↦ absurd (unlike is_settle _ (Settle q) a refl refl)
  | stops how x a ↦ absurd (unlike is_settle _ (Settle q) a refl refl)
  | closes x a ↦ absurd (not_closing m (live_pairs m) (Settle q) a refl)
]

some_left : (m : History) (x : Point) → is_ended x ≡ false → 1 ≤ left_at m x
some_left m BetweenTurns e = omega arith
some_left m ClockRead e = omega arith
some_left m BeforePairs e = omega arith
some_left m (Refusing p) e = omega arith
some_left m (InPair p s) e = omega arith
some_left m (Ending how) e = omega arith
some_left m Ended e = absurd cc

-- ---- going on without a call

-- the service ends as comes next, where it ends so
plain_ends_by : (w : RelayWords) (c : Limits) (how : Served) (m : History) → is_plain_end (Some how) ≡ true → EndsBy w c how m → next w c m ≡ EndBy how
plain_ends_by w c Stopped m t e = e
plain_ends_by w c PairsDone m t e = e
plain_ends_by w c TurnLimit m t e = e
plain_ends_by w c (Fault outside.Accept) m t e = e
plain_ends_by w c (Fault outside.Out) m t e = absurd cc
plain_ends_by w c (Fault outside.Capture) m t e = absurd cc
plain_ends_by w c Memory m t e = absurd cc

rests_on : (w : RelayWords) (c : Limits) (k : ℕ) (m : History) → Rests w c m → go_on w c k m ≡ m
rests_on w c zero m e = refl
rests_on w c (suc k) m e = ap (λ (x : Option Mark). unwrap_or (option_map (λ (y : Mark). go_on w c k (y ∷ m)) x) m) e

goes_on : (w : RelayWords) (c : Limits) (k : ℕ) (m : History) (x : Mark) → mark_between (next w c m) ≡ Some x → go_on w c (suc k) m ≡ go_on w c k (x ∷ m)
goes_on w c k m x e = ap (λ (y : Option Mark). unwrap_or (option_map (λ (z : Mark). go_on w c k (z ∷ m)) y) m) e

-- a mark that comes without a call is one that comes next, and leaves fewer to come
record Comes (w : RelayWords) (c : Limits) (m : History) (x : Mark) : Type 0 where
  follows : Follows w c (x ∷ m)
  fewer : left (x ∷ m) + 1 ≤ left m

ends_next : (w : RelayWords) (c : Limits) (m : History) (how : Served) → Follows w c m → next w c m ≡ EndBy how → EndsBy w c how m
ends_next w c m Stopped f e = e
ends_next w c m PairsDone f e = e
ends_next w c m TurnLimit f e = e
ends_next w c m (Fault outside.Accept) f e = e
ends_next w c m (Fault outside.Out) f e = absurd (never_next w c m (Fault outside.Out) f e refl)
ends_next w c m (Fault outside.Capture) f e = absurd (never_next w c m (Fault outside.Capture) f e refl)
ends_next w c m Memory f e = absurd (never_next w c m Memory f e refl)

comes_by : (w : RelayWords) (c : Limits) (m : History) (up : Upcoming) (x : Mark) → Follows w c m → next w c m ≡ up → mark_between up ≡ Some x → Comes w c m x
comes_by w c m (Do a) x f e u = absurd cc
comes_by w c m (Settle p) x f e u =
    let same : TakeUp p ≡ x = cc in
    let less : length (beyond p (live_pairs m)) + 2 ≤ left m = settle_fewer w c m p f e in
    subst (λ (y : Mark). Comes w c m y) same (record { follows = (e, f); fewer = omega arith })
comes_by w c m (EndBy how) x f e u =
    let same : Finish how ≡ x = cc in
    let runs : is_ended (point m) ≡ false = runs_still w c m (EndBy how) e refl in
    let some : 1 ≤ left m = some_left m (point m) runs in
    subst (λ (y : Mark). Comes w c m y) same (record { follows = (ends_next w c m how f e, runs, f); fewer = omega arith })
comes_by w c m Done x f e u = absurd cc

-- as long as the count suffices it doesn't matter
enough : (w : RelayWords) (c : Limits) (k n : ℕ) (m : History) → Follows w c m → left m ≤ k → left m ≤ n → go_on w c k m ≡ go_on w c n m
enough w c zero n m f low also = elim (some_or_none (mark_between (next w c m))) [
  | inl x ↦ let some : Comes w c m x.0 = comes_by w c m (next w c m) x.0 f refl x.1 in let less : left (x.0 ∷ m) + 1 ≤ left m = some.fewer in absurd (omega (arith, less, low))
  | inr none ↦ sym (rests_on w c n m none)
]
enough w c (suc k) zero m f low also = elim (some_or_none (mark_between (next w c m))) [
  | inl x ↦ let some : Comes w c m x.0 = comes_by w c m (next w c m) x.0 f refl x.1 in let less : left (x.0 ∷ m) + 1 ≤ left m = some.fewer in absurd (omega (arith, less, also))
  | inr none ↦ rests_on w c (suc k) m none
]
enough w c (suc k) (suc n) m f low also = elim (some_or_none (mark_between (next w c m))) [
  | inl x ↦
      let some : Comes w c m x.0 = comes_by w c m (next w c m) x.0 f refl x.1 in
      let less : left (x.0 ∷ m) + 1 ≤ left m = some.fewer in
      goes_on w c k m x.0 x.1 ∙ enough w c k n (x.0 ∷ m) some.follows (under (left (x.0 ∷ m)) (left m) k less low) (under (left (x.0 ∷ m)) (left m) n less also)
      ∙ sym (goes_on w c n m x.0 x.1)
  | inr none ↦ rests_on w c (suc k) m none ∙ sym (rests_on w c (suc n) m none)
]
  where
    under : (a b k : ℕ) → a + 1 ≤ b → b ≤ suc k → a ≤ k
    under a b k less low = omega (arith, less, low)

-- ---- the run of some calls

left_within : (w : RelayWords) (c : Limits) (m : History) → Follows w c m → left m ≤ length (live_pairs m) + 1
left_within w c m f = within_live m (point m) (lives w c m f).here

plain_tail : (w : RelayWords) (c : Limits) (how : Served) (m : History) → Follows w c (Finish how ∷ m) → IsPlain (Finish how ∷ m) → IsPlain m
plain_tail w c how m f t = record { calm = t.calm; ended = ap is_plain_end (lasts_at w c m f.2 f.1) }

marked_on : (w : RelayWords) (c : Limits) (m : History) (x : Mark) (k : ℕ) → Follows w c (x ∷ m) → Follows w c m → mark_between (next w c m) ≡ Some x → left (x ∷ m) ≤ k
    → ((n : ℕ) → left m ≤ n → run_of w c (calls m) ≡ go_on w c n m) → run_of w c (calls m) ≡ go_on w c k (x ∷ m)
marked_on w c m x k f g e low before =
    before (suc (k + left m)) (omega arith) ∙ goes_on w c (k + left m) m x e ∙ enough w c (k + left m) k (x ∷ m) f (within (left (x ∷ m)) k (left m) low) low
  where
    within : (a k n : ℕ) → a ≤ k → a ≤ k + n
    within a k n low = omega (arith, low)

marked_by : (w : RelayWords) (c : Limits) (m : History) → Follows w c m → IsPlain m → (k : ℕ) → left m ≤ k → run_of w c (calls m) ≡ go_on w c k m
marked_by w c [] f t k low = enough w c 1 k [] tt (omega arith) low
marked_by w c (Call entry ∷ m) f t k low =
    let plain : IsPlain m = record { calm = t.calm; ended = t.ended } in
    let rest : Rests w c m = ap mark_between f.0 in
    let before : run_of w c (calls m) ≡ m = marked_by w c m f.2 plain (left m) (omega arith) ∙ rests_on w c (left m) m rest in
    ap (λ (n : History). with_marks w c (Call entry ∷ n)) before
    ∙ enough w c (length (live_pairs (Call entry ∷ m)) + 1) k (Call entry ∷ m) f (left_within w c (Call entry ∷ m) f) low
marked_by w c (Refuse p ∷ m) f t k low = absurd (omega (arith, t.calm))
marked_by w c (TakeUp p ∷ m) f t k low =
    marked_on w c m (TakeUp p) k f f.1 (ap mark_between f.0) low (λ n within. marked_by w c m f.1 (record { calm = t.calm; ended = t.ended }) n within)
marked_by w c (RunOut p s cut ∷ m) f t k low = absurd (omega (arith, t.calm))
marked_by w c (Finish how ∷ m) f t k low =
    marked_on w c m (Finish how) k f f.2 (ap mark_between (plain_ends_by w c how m t.ended f.0)) low (λ n within. marked_by w c m f.2 (plain_tail w c how m f t) n within)

pub marks_by_calls : (w : RelayWords) (c : Limits) (m : History) → Follows w c m → IsPlain m → Rests w c m → m ≡ run_of w c (calls m)
marks_by_calls w c m f t rest = sym (marked_by w c m f t (left m) (omega arith) ∙ rests_on w c (left m) m rest)

pub same_by_calls : (w : RelayWords) (c : Limits) (m n : History) → Follows w c m → Follows w c n → IsPlain m → IsPlain n → Rests w c m → Rests w c n
    → calls m ≡ calls n → m ≡ n
same_by_calls w c m n f g s t r q e = marks_by_calls w c m f s r ∙ ap (λ (log : List LogEntry). run_of w c log) e ∙ sym (marks_by_calls w c n g t q)

-- what comes after the calls
next_by_calls : (w : RelayWords) (c : Limits) (m : History) → Follows w c m → IsPlain m → Rests w c m → next_call w c (calls m) ≡ call_of (next w c m)
next_by_calls w c m f t rest = sym (ap (λ (n : History). call_of (next w c n)) (marks_by_calls w c m f t rest))

pub follows_log : (w : RelayWords) (c : Limits) (m : History) → Follows w c m → IsPlain m → FollowsLog w c (calls m)
follows_log w c [] f t = tt
follows_log w c (Call entry ∷ m) f t =
    let plain : IsPlain m = record { calm = t.calm; ended = t.ended } in
    (next_by_calls w c m f.2 plain (ap mark_between f.0) ∙ ap call_of f.0, follows_log w c m f.2 plain)
follows_log w c (Refuse p ∷ m) f t = absurd (omega (arith, t.calm))
follows_log w c (TakeUp p ∷ m) f t = follows_log w c m f.1 (record { calm = t.calm; ended = t.ended })
follows_log w c (RunOut p s cut ∷ m) f t = absurd (omega (arith, t.calm))
follows_log w c (Finish how ∷ m) f t = follows_log w c m f.2 (plain_tail w c how m f t)

pub done_by_calls : (w : RelayWords) (c : Limits) (m : History) → Follows w c m → IsPlain m → next w c m ≡ Done → next_call w c (calls m) ≡ None
done_by_calls w c m f t e = next_by_calls w c m f t (ap mark_between e) ∙ ap call_of e

-- ---- a run of the service

-- the service ended as it answers, where no sink failed
plain_why : (answer why : Served) → is_plain_end (Some answer) ≡ true → (answer ≡ why) ⊎ (is_sink_fault answer ≡ true) → is_plain_end (Some why) ≡ true
plain_why answer why t (inl same) = subst (λ (s : Served). is_plain_end (Some s) ≡ true) same t
plain_why Stopped why t (inr fault) = absurd cc
plain_why PairsDone why t (inr fault) = absurd cc
plain_why TurnLimit why t (inr fault) = absurd cc
plain_why (Fault outside.Accept) why t (inr fault) = absurd cc
plain_why (Fault outside.Out) why t (inr fault) = absurd cc
plain_why (Fault outside.Capture) why t (inr fault) = absurd cc
plain_why Memory why t (inr fault) = absurd cc

-- a count that stands still at its type's end is 0 only where nothing was counted
counted_none : (n : ℕ) → counted n ≡ 0 → n ≡ 0
counted_none n e = grind (arith, nat_tests, e)

pub served_by_calls : (w : RelayWords) (c : Limits) (answer : Served) (held held' kept kept' : Option (List ℕ)) (m : History)
    → IsServed w c answer 0 held held' kept kept' m → is_plain_end (Some answer) ≡ true → IsWholeRun w c (calls m)
served_by_calls w c answer held held' kept kept' m s t =
    let plain : IsPlain m = record { calm = counted_none _ s.counted; ended = ap is_plain_end s.ended ∙ plain_why answer s.why t s.answers } in
    record { each = follows_log w c m s.follows plain; last = done_by_calls w c m s.follows plain s.over }
