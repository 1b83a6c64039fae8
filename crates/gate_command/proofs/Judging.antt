-- What is said of a capture, from what was read and run.
use Rattle.std.proofs.Common.{◌≡◌, ℕ, List, Option, None, Some, sym, ◌∙◌, ap, subst}
use Rattle.std.specs.Prelude.{Result, Ok, Err, IfOk, IfSome, IfNone}
use Rattle.wire_base.specs.declared.memory.Memory.{Memory}
use Rattle.wire_base.specs.declared.scan.At.{At}
use Rattle.gate_outside.specs.declared.log.LogEntry.{LogEntry}
use Rattle.gate_capture.specs.Captures.{IsCapture}
use Rattle.gate_capture.specs.Reading.{capture_in, seen}
use Rattle.gate_capture.specs.declared.reading.Capture.{Capture}
use Rattle.gate_capture.specs.declared.reading.CaptureFault.{CaptureFault}
use Rattle.gate_capture.specs.declared.reading.CaptureFault.TheVariants as fault
use Rattle.gate_model.specs.Setup.{SetupText}
use Rattle.gate_runs.specs.declared.limits.Limits.{Limits}
use Rattle.gate_runs.specs.Form as form
use Rattle.gate_command.specs.declared.input.Input.TheVariants.{Whole}
use Rattle.gate_command.specs.declared.replay.Replayed.{Replayed}
use Rattle.gate_command.specs.declared.replay.Replayed.TheVariants.{Same, Differs}
use Rattle.gate_command.specs.declared.top_call.Status.{Status}
use Rattle.gate_command.specs.declared.top_call.Status.TheVariants as status
use Rattle.gate_command.specs.declared.words.Asked.{Asked}
use Rattle.gate_command.specs.declared.words.Asked.TheVariants.{Serve}
use Rattle.gate_command.specs.declared.words.Misplaced.{Misplaced}
use Rattle.gate_command.specs.Command.{Asks, words_of}
use Rattle.gate_command.specs.Replaying.{Replays}
use Rattle.gate_command.specs.Recorded.{AsksFor, ServesBy, IsService, IsOf, WithoutRun, IsSame}
use Rattle.gate_command.specs.Recorded.{IsAnother, AtFault, OfCapture, IsReplayed, Says, bad_line}
use Rattle.gate_command.specs.Recorded.{same_line, fault_text, meant_of, line_of}

-- ---- the run that words ask for

pub nothing_asked : (text : List ℕ) (words : List (List ℕ)) (read : Result Asked Misplaced) (o : Option (Limits × SetupText)) → words ≡ words_of text → ((asked : Asked) → Asks words asked → read ≡ Ok asked)
    → IfNone o ((c : Limits) (s : SetupText) → ¬ IsService read c s) → IfNone o ((c : Limits) (s : SetupText) → ¬ ServesBy text c s)
nothing_asked text words read (Some run) is only none = tt
nothing_asked text words read None is only none = λ c s serves.
    none c s (
      serves.listen,
      serves.upstream,
      serves.path,
      only (Serve c s serves.listen serves.upstream serves.path)
          (subst (λ (ws : List (List ℕ)). Asks ws (Serve c s serves.listen serves.upstream serves.path)) (sym is) serves.asks),
    )

pub text_asks_nothing : (text bytes : List ℕ) (r : Result (Option (Limits × SetupText)) Memory) → text ≡ bytes → IfOk r (λ o. IfNone o ((c : Limits) (s : SetupText) → ¬ ServesBy text c s))
    → IfOk r (λ o. IfNone o ((c : Limits) (s : SetupText) → ¬ AsksFor bytes c s))
text_asks_nothing text bytes (Err e) is none = tt
text_asks_nothing text bytes (Ok (Some run)) is none = tt
text_asks_nothing text bytes (Ok None) is none = λ c s asks. none c s (subst (λ (t : List ℕ). ServesBy t c s) (sym is) asks.1)

-- ---- what is said

said_so : (words : List ℕ) (log : List LogEntry) (c : Limits) (s : SetupText) (r : Replayed) → AsksFor words c s → Replays s c log r → IsOf words log (meant_of r) (line_of r)
said_so words log c s (Same n) asks h = subst (λ (k : ℕ). IsOf words log status.Ok (same_line k)) (sym h.0) (IsSame c s h.1.0 asks h.1.1)
said_so words log c s (Differs k) asks h = IsAnother c s k asks h

abbrev Judges : List ℕ → List LogEntry → Option (List ℕ) → Option (List ℕ) → Status → Type 0
Judges words log held held' answer = (meant : Status) × (line : List ℕ) × IsOf words log meant line × Says meant line answer held held'

spread : (words : List ℕ) (log : List LogEntry) (meant : Status) (line : List ℕ) (held held' : Option (List ℕ)) (r : Result Status Memory) → IsOf words log meant line
    → IfOk r (λ answer. Says meant line answer held held') → IfOk r (Judges words log held held')
spread words log meant line held held' (Ok answer) is said = (meant, line, is, said)
spread words log meant line held held' (Err e) is said = tt

pub judged : (words text : List ℕ) (log : List LogEntry) (o : Option (Limits × SetupText)) (run : Limits × SetupText) (replayed : Replayed) (held held' : Option (List ℕ)) (r : Result Status Memory)
    → text ≡ words → IfSome o (λ run. AsksFor text run.0 run.1 × form.IsInForm run.0) → o ≡ Some run → Replays run.1 run.0 log replayed
    → IfOk r (λ answer. Says (meant_of replayed) (line_of replayed) answer held held') → IfOk r (Judges words log held held')
judged words text log o run replayed held held' r is some found h said =
    let asks : AsksFor text run.0 run.1 × form.IsInForm run.0 = subst (λ (x : Option (Limits × SetupText)). IfSome x (λ run. AsksFor text run.0 run.1 × form.IsInForm run.0)) found some in
    spread words log (meant_of replayed) (line_of replayed) held held' r (said_so words log run.0 run.1 replayed (subst (λ (t : List ℕ). AsksFor t run.0 run.1) is asks.0) h) said

pub unjudged : (words text : List ℕ) (log : List LogEntry) (o : Option (Limits × SetupText)) (held held' : Option (List ℕ)) (r : Result Status Memory)
    → text ≡ words → IfNone o ((c : Limits) (s : SetupText) → ¬ AsksFor text c s) → o ≡ None
    → IfOk r (λ answer. Says status.BadInput (bad_line 8 (fault_text fault.Kind)) answer held held') → IfOk r (Judges words log held held')
unjudged words text log o held held' r is none found said =
    let never : (c : Limits) (s : SetupText) → ¬ AsksFor text c s = subst (λ (x : Option (Limits × SetupText)). IfNone x ((c : Limits) (s : SetupText) → ¬ AsksFor text c s)) found none in
    spread words log status.BadInput (bad_line 8 (fault_text fault.Kind)) held held' r (WithoutRun (λ c s. subst (λ (t : List ℕ). ¬ AsksFor t c s) is (never c s))) said

-- ---- of bytes

pub of_capture : (bytes : List ℕ) (read : Result Capture (At CaptureFault)) (capture : Capture) (held held' : Option (List ℕ)) (r : Result Status Memory) → IfOk read (λ capture. IsCapture capture.words capture.entries bytes)
    → read ≡ Ok capture → IfOk r (Judges capture.words capture.entries held held') → IfOk r (λ answer. IsReplayed (Whole bytes) answer held held')
of_capture bytes read capture held held' (Err e) found is said = tt
of_capture bytes read capture held held' (Ok answer) found is (meant, line, of, said) =
    let whole : IsCapture capture.words capture.entries bytes = subst (λ (x : Result Capture (At CaptureFault)). IfOk x (λ capture. IsCapture capture.words capture.entries bytes)) is found in
    (meant, line, OfCapture capture.words capture.entries meant line whole of, said)

pub at_fault : (bytes : List ℕ) (read : Result Capture (At CaptureFault)) (e : At CaptureFault) (held held' : Option (List ℕ)) (r : Result Status Memory) → seen read ≡ capture_in bytes
    → read ≡ Err e → IfOk r (λ answer. Says status.BadInput (bad_line e.at (fault_text e.fault)) answer held held') → IfOk r (λ answer. IsReplayed (Whole bytes) answer held held')
at_fault bytes read e held held' (Err m) exact is said = tt
at_fault bytes read e held held' (Ok answer) exact is said =
    (status.BadInput, bad_line e.at (fault_text e.fault), AtFault e (sym exact ∙ ap seen is), said)
