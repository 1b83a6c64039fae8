-- What out holds, and what was kept, after a mark more.
use Rattle.std.proofs.Common.{◌≡◌, ℕ, Bool, true, false, List, ◌∷◌, ◌++◌, Option, Result, Ok, Err}
use Rattle.std.proofs.Common.{refl, ap, ◌∙◌}
use Rattle.gate_outside.specs.declared.log.LogEntry.{LogEntry}
use Rattle.gate_outside.specs.Streams.{Appends, AppendsFront}
use Rattle.gate_capture.specs.Captures.{spelling}
use Rattle.gate_capture.specs.Spelling.{spelling_of}
use Rattle.gate_outside.proofs.Appending.{appends_then}
use Rattle.gate_turns.proofs.Fronts.{front_then, front_whole}
use Rattle.gate_relay.specs.Entries.{is_empty}
use Rattle.gate_relay.specs.RelayWords.{RelayWords}
use Rattle.gate_runs.specs.declared.limits.Limits.{Limits}
use Rattle.gate_runs.specs.declared.served.Served.TheVariants.{Fault}
use Rattle.gate_runs.specs.Marks.{History}
use Rattle.gate_runs.specs.Report.{Lines, lines_so_far}
use Rattle.gate_runs.specs.Serving.{EndsBy, IsCallLast, HoldsReport, HoldsFront, Keeps, KeepsFront}
use Rattle.gate_turns.specs.declared.tally.SinkFault.{SinkFault}
use Rattle.gate_turns.specs.declared.tally.SinkFault.TheVariants.{Out, Capture}
use Rattle.gate_turns.specs.Parts.{TellsBy, KeptBy, HoldsBy, both, outside_of}

-- after a mark whose lines are these, where the lines before it are those that out held
abbrev pub HasLines : RelayWords → History → List ℕ → List ℕ → Type 0
HasLines w n before lines = lines_so_far w n ≡ record { before = before; newest = lines }

pub holds_more : (w : RelayWords) (base a b : Option (List ℕ)) (n : History) (before lines : List ℕ) → HasLines w n before lines
    → Appends base a before → Appends a b lines → HoldsReport w base b n
holds_more w base a b n before lines e p q = rw e (appends_then base a b before lines p q)

pub holds_front : (w : RelayWords) (base a b : Option (List ℕ)) (n : History) (before lines : List ℕ) → HasLines w n before lines
    → Appends base a before → AppendsFront a b lines → HoldsFront w base b n
holds_front w base a b n before lines e p q = record {
  reached = a;
  before = rw e p;
  front = rw e q;
}

-- what out holds by what telling the lines answered
abbrev pub HoldsAfter : RelayWords → Result (Unit {0}) SinkFault → Option (List ℕ) → Option (List ℕ) → History → Type 0
HoldsAfter w (Ok done) base held n = HoldsReport w base held n
HoldsAfter w (Err fault) base held n = HoldsBy w fault base held n

pub holds_by : (w : RelayWords) (result : Result (Unit {0}) SinkFault) (base a b : Option (List ℕ)) (n : History) (before lines : List ℕ) → HasLines w n before lines
    → Appends base a before → TellsBy result a b lines → HoldsAfter w result base b n
holds_by w (Ok done) base a b n before lines e p t = holds_more w base a b n before lines e p t
holds_by w (Err Out) base a b n before lines e p t = holds_front w base a b n before lines e p t.0
holds_by w (Err Capture) base a b n before lines e p t = holds_more w base a b n before lines e p t

-- a call more was kept, or not
abbrev pub KeepsAfter : Result (Unit {0}) SinkFault → Option (List ℕ) → Option (List ℕ) → List LogEntry → Type 0
KeepsAfter (Ok done) base kept entries = Keeps base kept entries
KeepsAfter (Err fault) base kept entries = KeepsFront base kept entries

pub keeps_both : (told : Result (Unit {0}) SinkFault) (kept : Bool) (base old new : Option (List ℕ)) (entries : List LogEntry) (entry : LogEntry) → Keeps base old entries
    → KeptBy kept old new entry → KeepsAfter (both told kept) base new (entry ∷ entries)
keeps_both (Ok done) true base old new entries entry k t = appends_then base old new (spelling entries) (spelling_of entry) k t
keeps_both (Ok done) false base old new entries entry k t = front_then base old new (spelling entries) (spelling_of entry) k t
keeps_both (Err fault) true base old new entries entry k t = front_whole base new (spelling entries ++ spelling_of entry) (appends_then base old new (spelling entries) (spelling_of entry) k t)
keeps_both (Err fault) false base old new entries entry k t = front_then base old new (spelling entries) (spelling_of entry) k t

pub tells_both : (told : Result (Unit {0}) SinkFault) (kept : Bool) (a b : Option (List ℕ)) (lines : List ℕ) → TellsBy told a b lines → TellsBy (both told kept) a b lines
tells_both (Ok done) true a b lines t = t
tells_both (Ok done) false a b lines t = t
tells_both (Err fault) kept a b lines t = t

-- how the service ends where a sink failed
pub ends_by : (w : RelayWords) (c : Limits) (fault : SinkFault) (n : History) (before lines : List ℕ) (a b : Option (List ℕ)) → HasLines w n before lines
    → IsCallLast n → TellsBy (Err fault) a b lines → EndsBy w c (Fault (outside_of fault)) n
ends_by w c Out n before lines a b e last t = ap (λ (l : Lines). is_empty l.newest) e ∙ t.1
ends_by w c Capture n before lines a b e last t = last

-- what a recorder's clauses say
pub kept_by : (kept : Bool) (old new : Option (List ℕ)) (entry : LogEntry) → (kept ≡ true → Appends old new (spelling_of entry)) → AppendsFront old new (spelling_of entry) → KeptBy kept old new entry
kept_by true old new entry t f = t refl
kept_by false old new entry t f = f
