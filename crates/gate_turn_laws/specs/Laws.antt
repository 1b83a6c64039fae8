-- All the laws of the turns together.
use Rattle.std.specs.Prelude.{◌≡◌, ℕ}
use Rattle.gate_relay.specs.Relayed.{IsRelayed}
use Rattle.gate_relay.specs.RelayWords.{RelayWords}
use Rattle.gate_runs.specs.declared.limits.Limits.{Limits}
use Rattle.gate_runs.specs.Journal.{journal}
use Rattle.gate_runs.specs.Marks.{History, calls}
use Rattle.gate_turn_laws.specs.Asks.{AsksLive}
use Rattle.gate_turn_laws.specs.Begun.{IsOfPair}
use Rattle.gate_turn_laws.specs.Ends.{EndsOnce, TurnsDid}
use Rattle.gate_turn_laws.specs.Lines.{TellsInOrder}
use Rattle.gate_turn_laws.specs.Log.{FollowsLog, IsPlain, Rests, run_of}
use Rattle.gate_turn_laws.specs.Memory.{CountsRunOuts}
use Rattle.gate_turn_laws.specs.Moments.{NeverFalls}
use Rattle.gate_turn_laws.specs.Pairs.{AreOrdered, LivesOrShut}
use Rattle.gate_turn_laws.specs.Quiet.{IdlesAtRest, IsSteady}
use Rattle.gate_turn_laws.specs.Turns.{ComesOnce, KeepsOrder, WritesFew}
use Rattle.gate_turn_laws.specs.Visits.{VisitsAll}
use Rattle.gate_turn_laws.specs.Within.{IsWithin}

pub record KeepsTurns (w : RelayWords) (c : Limits) (m : History) : Type 0 where
  -- every pair's entries are asked for, from its accept on
  pub asked : (p : ℕ) → IsRelayed w (journal p m)
  pub begun : (p : ℕ) → IsOfPair p (journal p m)
  -- only pairs that live are asked, and each that came lives or was shut
  pub live : AsksLive m
  pub pairs : (p : ℕ) → LivesOrShut p m
  pub ordered : AreOrdered m
  -- each mark stands in its place in a turn, some come once, and no live pair is left out
  pub places : KeepsOrder w c m
  pub once : ComesOnce m
  pub writes : WritesFew m
  pub visits : VisitsAll w m
  -- no idle turn leaves anything due
  pub rests : IsSteady w → IdlesAtRest w c m
  -- the service ends once, as its cause says, and each turn did something
  pub ends : EndsOnce w c m
  pub turns : TurnsDid m
  pub limits : IsWithin c m
  -- a pair runs out of memory at most once
  pub memory : CountsRunOuts m
  -- no moment falls, and the report tells the marks in their order
  pub moments : NeverFalls (calls m)
  pub lines : TellsInOrder w m
  -- where no pair ran out of memory and no sink failed the calls determine the run
  pub log : IsPlain m → FollowsLog w c (calls m)
  pub alone : IsPlain m → Rests w c m → m ≡ run_of w c (calls m)
