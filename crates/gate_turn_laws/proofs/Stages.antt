-- The stages of a pair's part of a turn, one after the other, and which of them asks.
use Rattle.std.proofs.Common.{◌≡◌, ℕ, ◌==◌, nat_lt, Bool, true, List, [], ◌∷◌, filter, None, Some}
use Rattle.std.proofs.Common.{refl, subst, inl, inr, ◌<◌, arith}
use Rattle.std.proofs.lemmas.Bool.{ltb-true}
use Rattle.gate_outside.specs.declared.ports.End.TheVariants.{Client, Up}
use Rattle.gate_relay.specs.Entries.{Entry}
use Rattle.gate_relay.specs.Guards.{reads, takes_up, connects, offers, shuts}
use Rattle.gate_relay.specs.Relayed.{read_room}
use Rattle.gate_relay.specs.RelayWords.{RelayWords}
use Rattle.gate_runs.specs.declared.lap.Lap.{Lap}
use Rattle.gate_runs.specs.declared.lap.Lap.TheVariants.{ToUp, ToClient, ToClientLate, ToUpAgain}
use Rattle.gate_runs.specs.Marks.{History}
use Rattle.gate_runs.specs.Stages.{Stage, Reading, Taking, Linking, Writing, Shutting, Past, later}
use Rattle.gate_runs.specs.Stages.{lap_end, stages_from, writing_at}
use Rattle.gate_runs.specs.Next.{AskAccept, AskConnect, AskRead, AskWrite, AskShut, AskIdle, AskNow}
use Rattle.gate_runs.specs.Next.{Upcoming, Do, Settle, EndBy, Done, ask, most_writes, Point}
use Rattle.gate_runs.specs.Next.{BetweenTurns, ClockRead, BeforePairs, Refusing, InPair, Ending}
use Rattle.gate_runs.specs.Next.{Ended, stage_of, live_pairs}
use Rattle.gate_turn_laws.specs.Pairs.{is_among}
use Rattle.gate_turn_laws.specs.Turns.{AsksNone}
use Rattle.gate_turn_laws.proofs.Lists.{is_or_isnt, or_parts, is_equal, if_same, if_other}
use Rattle.gate_turn_laws.proofs.Cover.{WriteAsk, write_ask, due_parts, Asks, pairs_ahead}

-- which stage asks what of pair q
abbrev pub OwnAt : RelayWords → ℕ → Stage → List Entry → Upcoming → Type 0
OwnAt w q s h (Do AskAccept) = ⊥
OwnAt w q s h (Do (AskConnect p)) = (q ≡ p) × (s ≡ Linking)
OwnAt w q s h (Do (AskRead p end room)) = (q ≡ p) × (s ≡ Reading end)
OwnAt w q s h (Do (AskWrite p end bytes)) = (q ≡ p) × (lap : Lap) × (k : ℕ) × (s ≡ Writing lap k) × (lap_end lap ≡ end) × (offers w end h ≡ Some bytes) × (nat_lt k most_writes ≡ true)
OwnAt w q s h (Do (AskShut p end)) = (q ≡ p) × (s ≡ Shutting end)
OwnAt w q s h (Do AskIdle) = ⊥
OwnAt w q s h (Do AskNow) = ⊥
OwnAt w q s h (Settle p) = (q ≡ p) × (s ≡ Taking)
OwnAt w q s h (EndBy how) = ⊥
OwnAt w q s h Done = ⊥

pub ask_at : (w : RelayWords) (q : ℕ) (s : Stage) (h : List Entry) (up : Upcoming) → ask w q s h ≡ Some up → OwnAt w q s h up
ask_at w q (Reading end) h up e = let d : (reads w end h ≡ true) × (Do (AskRead q end read_room) ≡ up) = due_parts _ _ _ e in
    subst (λ (x : Upcoming). OwnAt w q (Reading end) h x) d.1 (refl, refl)
ask_at w q Taking h up e = let d : (takes_up w h ≡ true) × (Settle q ≡ up) = due_parts _ _ _ e in subst (λ (x : Upcoming). OwnAt w q Taking h x) d.1 (refl, refl)
ask_at w q Linking h up e = let d : (connects w h ≡ true) × (Do (AskConnect q) ≡ up) = due_parts _ _ _ e in
    subst (λ (x : Upcoming). OwnAt w q Linking h x) d.1 (refl, refl)
ask_at w q (Writing lap k) h up e = let d : WriteAsk w q lap k h up = write_ask w q lap k h up e in
    subst (λ (x : Upcoming). OwnAt w q (Writing lap k) h x) d.3 (refl, lap, k, refl, refl, d.2, d.0)
ask_at w q (Shutting end) h up e = let d : (shuts w end h ≡ true) × (Do (AskShut q end) ≡ up) = due_parts _ _ _ e in
    subst (λ (x : Upcoming). OwnAt w q (Shutting end) h x) d.1 (refl, refl)
ask_at w q Past h up e = absurd cc

-- the stage that a write goes on with, told from that of the point before it
abbrev pub WritesAt : Stage → Stage → Type 0
WritesAt from (Writing lap k) = writing_at (lap_end lap) from ≡ Writing lap k
WritesAt from s = Unit {0}

-- these are the stages from s on, one after the other, up to the last
abbrev pub IsChain : Stage → Stage → List Stage → Type 0
IsChain from s [] = s ≡ Past
IsChain from s (x ∷ ss) = (x ≡ s) × WritesAt from s × IsChain from (later s) ss

pub chain_of : (s : Stage) → IsChain s s (stages_from s)
chain_of (Reading Up) = (refl, tt, (refl, tt, (refl, tt, (refl, tt, (refl, refl, (refl, refl, (refl, tt, (refl, tt, refl))))))))
chain_of (Reading Client) = (refl, tt, (refl, tt, (refl, tt, (refl, refl, (refl, refl, (refl, tt, (refl, tt, refl)))))))
chain_of Taking = (refl, tt, (refl, tt, (refl, refl, (refl, refl, (refl, tt, (refl, tt, refl))))))
chain_of Linking = (refl, tt, (refl, refl, (refl, refl, (refl, tt, (refl, tt, refl)))))
chain_of (Writing ToUp k) = (refl, refl, (refl, refl, (refl, tt, (refl, tt, refl))))
chain_of (Writing ToClient k) = (refl, refl, (refl, tt, (refl, tt, refl)))
chain_of (Writing ToClientLate k) = (refl, refl, (refl, refl, (refl, tt, (refl, tt, refl))))
chain_of (Writing ToUpAgain k) = (refl, refl, (refl, tt, (refl, tt, refl)))
chain_of (Shutting Up) = (refl, tt, (refl, tt, refl))
chain_of (Shutting Client) = (refl, tt, refl)
chain_of Past = refl

-- what holds at a stage, and at the next one where that stage asks nothing
abbrev pub Passing : RelayWords → ℕ → List Entry → (Stage → Type 0) → Type 0
Passing w p h P = (s : Stage) → P s → ask w p s h ≡ None → P (later s)

pub past_by : (w : RelayWords) (p : ℕ) (h : List Entry) (P : Stage → Type 0) → Passing w p h P → (from s : Stage) (ss : List Stage) → IsChain from s ss → P s
    → AsksNone w p ss h → P Past
past_by w p h P pass from s [] c here passes = subst P c here
past_by w p h P pass from s (x ∷ ss) c here passes =
    past_by w p h P pass from (later s) ss c.2 (pass s here (subst (λ (y : Stage). ask w p y h ≡ None) c.0 passes.0)) passes.1

-- what is so where pair p is asked something at a stage
pub record Found (w : RelayWords) (p : ℕ) (h : List Entry) (P : Stage → Type 0) (from : Stage) (up : Upcoming) : Type 0 where
  pub at : Stage
  pub here : P at
  pub writes : WritesAt from at
  pub asks : OwnAt w p at h up

pub found_by : (w : RelayWords) (p : ℕ) (h : List Entry) (P : Stage → Type 0) → Passing w p h P → (from s : Stage) (ss : List Stage) (up : Upcoming) → IsChain from s ss → P s
    → Asks w p ss h up → Found w p h P from up
found_by w p h P pass from s [] up c here a = absurd a
found_by w p h P pass from s (x ∷ ss) up c here (inl e) =
    record { at = s; here = here; writes = c.1; asks = ask_at w p s h up (subst (λ (y : Stage). ask w p y h ≡ Some up) c.0 e) }
found_by w p h P pass from s (x ∷ ss) up c here (inr more) =
    found_by w p h P pass from (later s) ss up c.2 (pass s here (subst (λ (y : Stage). ask w p y h ≡ None) c.0 more.0)) more.1

-- what a filter keeps passes its test
pub among_passes : (t : ℕ → Bool) (p : ℕ) (ps : List ℕ) → is_among p (filter t ps) ≡ true → t p ≡ true
among_passes t p [] e = absurd cc
among_passes t p (q ∷ ps) e = elim (is_or_isnt (t q)) [
  | inl kept ↦ elim (or_parts (q == p) (is_among p (filter t ps)) (rw kept at e)) [
    | inl same ↦ subst (λ (x : ℕ). t x ≡ true) (is_equal q p same) kept
    | inr more ↦ among_passes t p ps more
  ]
  | inr left ↦ among_passes t p ps (rw left at e)
]

-- a pair that is still ahead is told from the beginning of its part
pub stage_ahead : (m : History) (x : Point) (p : ℕ) → is_among p (pairs_ahead m x) ≡ true → stage_of p x ≡ Reading Up
stage_ahead m BetweenTurns p e = refl
stage_ahead m ClockRead p e = refl
stage_ahead m BeforePairs p e = refl
stage_ahead m (Refusing q) p e = refl
stage_ahead m (InPair q s) p e =
    let low : q < p = ltb-true q p (among_passes (λ k. nat_lt q k) p (live_pairs m) e) in
    if_other q p s (Reading Up) (λ same. absurd (omega arith))
stage_ahead m (Ending how) p e = refl
stage_ahead m Ended p e = refl

pub stage_own : (p : ℕ) (s : Stage) → stage_of p (InPair p s) ≡ s
stage_own p s = if_same p s (Reading Up)
