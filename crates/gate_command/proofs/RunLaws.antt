-- What holds of each history of a run holds of one of them; what is counted in a run, and how many
-- pairs the words let it accept.
use Rattle.std.proofs.Common.{◌≡◌, ℕ, ◌≤◌, List, Option, None, Some, inl, inr, arith, sym, ◌∙◌, ap}
use Rattle.std.proofs.Common.{subst}
use Rattle.gate_outside.specs.declared.log.LogEntry.{LogEntry}
use Rattle.gate_outside.specs.Counts.{Rose}
use Rattle.gate_model.specs.Setup.{SetupText}
use Rattle.gate_runs.specs.declared.limits.Limits.{Limits}
use Rattle.gate_runs.specs.Marks.{History, HasHistory}
use Rattle.gate_runs.specs.Next.{pair_limit}
use Rattle.gate_command.specs.declared.top_call.Status.{Status}
use Rattle.gate_command.specs.declared.words.Asked.{Asked}
use Rattle.gate_command.specs.declared.words.Asked.TheVariants.{Serve}
use Rattle.gate_command.specs.Command.{Asks}
use Rattle.gate_command.specs.Outcome.{Around, AsksToServe, MayAccept, Ran, with_kept}
use Rattle.gate_command.specs.Reading.{asked_by}
use Rattle.gate_command.proofs.CommandLaws.{is-command_in}

pub history_map : (base : List LogEntry) (log : Option (List LogEntry)) (P Q : History → Type 0) → ((m : History) → P m → Q m) → HasHistory base log P → HasHistory base log Q
history_map base None P Q f t = tt
history_map base (Some log) P Q f t = (t.0, t.1, f t.0 t.2)

rose_before : (a b d : ℕ) → a ≤ b → Rose b d → Rose a d
rose_before a b d le (inl lt) = inl (omega (arith, le, lt))
rose_before a b d le (inr full) = inr full

-- where its record failed at so many faults
abbrev with_faults : ℕ → Option (List ℕ) → Around → Around
with_faults faults kept a =
    record { pairs = a.pairs; port_faults = a.port_faults; log = a.log; faults = a.faults; held = a.held; capture_faults = faults; kept = kept }

-- a run after the start of its capture is one from before it
pub ran_after : (s : SetupText) (c : Limits) (answer : Status) (old new : Around) (faults : ℕ) (kept : Option (List ℕ)) → old.capture_faults ≤ faults
    → Ran s c answer (with_faults faults kept old) new → Ran s c answer (with_kept kept old) new
ran_after s c answer old new faults kept le ran = record {
  how = ran.how;
  count = ran.count;
  status = ran.status;
  counted = record {
    limit = ran.counted.limit;
    all = ran.counted.all;
    count = ran.counted.count;
    accept = ran.counted.accept;
    report = ran.counted.report;
    capture = λ is. rose_before old.capture_faults faults new.capture_faults le (ran.counted.capture is);
  };
  served = ran.served;
}

-- words ask for one thing at most
asks_one : (words : List (List ℕ)) (a b : Asked) → Asks words a → Asks words b → a ≡ b
asks_one words a b h k =
    let one = is-command_in words a h in
    let other = is-command_in words b k in
    let same : one.request ≡ other.request = cc (one.reads, other.reads) in
    one.meant ∙ (ap asked_by same ∙ sym other.meant)

-- so many pairs are within the limit of each run that the words ask for
pub accepted_within : (words : List (List ℕ)) (c : Limits) (s : SetupText) (path : Option (List ℕ)) (n : ℕ) → AsksToServe words c s path → n ≤ pair_limit c → MayAccept words n
accepted_within words c s path n asks within = λ c' s' path' asks'.
    let same : Serve c s asks.0 asks.1 path ≡ Serve c' s' asks'.0 asks'.1 path' = asks_one words _ _ asks.2 asks'.2 in
    let limits : c ≡ c' = cc (same) in
    subst (λ (x : Limits). n ≤ pair_limit x) limits within

-- no pair is within each limit
pub none_accepted : (words : List (List ℕ)) (n : ℕ) → n ≡ 0 → MayAccept words n
none_accepted words n none = λ c s path asks. omega (arith, none)
