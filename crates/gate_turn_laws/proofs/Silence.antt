-- Of words that don't wake, at idle an end that was opened in this turn alone isn't read dry, unless the connect failed in it.
use Rattle.std.proofs.Common.{◌≡◌, ◌⊎◌, Bool, true, false, not, ◌&&◌, List, [], ◌∷◌, refl, sym, ◌∙◌}
use Rattle.std.proofs.Common.{inl, inr}
use Rattle.gate_outside.specs.declared.ports.End.TheVariants.{Client, Up}
use Rattle.gate_outside.specs.declared.ports.Linked.TheVariants as linked
use Rattle.gate_outside.specs.declared.log.LogEntry.TheVariants.{Accept, Connect, Read, Write, Shut}
use Rattle.gate_outside.specs.declared.log.LogEntry.TheVariants.{Idle, Now}
use Rattle.gate_relay.specs.Entries.{Entry, Began, Refused, Moment, Came, Dry, Settled, Joined}
use Rattle.gate_relay.specs.Entries.{Took, Stuck, Lost, OutOfMemory, Over, is_out_of_memory}
use Rattle.gate_relay.specs.Guards.{reads, takes_up}
use Rattle.gate_relay.specs.Relayed.{IsRelayed}
use Rattle.gate_relay.specs.RelayWords.{RelayWords}
use Rattle.gate_relay.specs.Sides.{sides, side_of, is_readable}
use Rattle.gate_runs.specs.declared.limits.Limits.{Limits}
use Rattle.gate_runs.specs.Marks.{History, Call, Refuse, TakeUp, RunOut, Finish}
use Rattle.gate_runs.specs.Journal.{journal}
use Rattle.gate_turn_laws.specs.Quiet.{IsSteady, WakesNone, InTurn, Wakes, IsQuiet, IsSilent}
use Rattle.gate_turn_laws.specs.Quiet.{IdlesAtRest, IdlesInSilence}
use Rattle.gate_runs.specs.Serving.{Follows}
use Rattle.gate_turn_laws.proofs.Quiet.{idles_at_rest, takes_settled}
use Rattle.gate_turn_laws.proofs.Relayed.{relayed}

-- a read that is asked after an entry was asked before it, where the word was so
read_before : (r m a b : Bool) → (a ≡ true → b ≡ true) → (r && (not m && b)) ≡ false → (r && (not m && a)) ≡ true → ⊥
read_before true false a b on none now = let held : b ≡ true = on now in let clash : false ≡ true = sym none ∙ held in cc
read_before true true a b on none now = cc
read_before false m a b on none now = cc

taken_before : (m a b : Bool) → (a ≡ true → b ≡ true) → (not m && b) ≡ false → (not m && a) ≡ true → ⊥
taken_before m a b on none now = read_before true m a b on none now

-- the client's end comes to be awaited by a take-up or a connect that failed alone
abbrev ClientWakes : List Entry → Type 0
ClientWakes h = InTurn Settled h ⊎ InTurn (Joined linked.Failed) h

later : (x : Entry) (h : List Entry) → (InTurn Settled h → InTurn Settled (x ∷ h)) → (InTurn (Joined linked.Failed) h → InTurn (Joined linked.Failed) (x ∷ h)) → ClientWakes h
    → ClientWakes (x ∷ h)
later x h f g (inl a) = inl (f a)
later x h f g (inr a) = inr (g a)

client_wakes : (w : RelayWords) (h : List Entry) → WakesNone w → IsRelayed w h → Wakes (reads w Client) h → ClientWakes h
client_wakes w [] k r a = absurd a
client_wakes w (Moment ms ∷ h) k r a = absurd a
client_wakes w (Settled ∷ h) k r a = inl (inl refl)
client_wakes w (Joined linked.Ok ∷ h) k r (inl n) =
    absurd (read_before (is_readable (side_of Client (sides h))) (is_out_of_memory h) (w.awaits Client (Joined linked.Ok ∷ h)) (w.awaits Client h) (k.client h) n.0 n.1)
client_wakes w (Joined linked.Ok ∷ h) k r (inr a) = later (Joined linked.Ok) h (λ x. inr x) (λ x. inr x) (client_wakes w h k r.2 a)
client_wakes w (Joined linked.Failed ∷ h) k r a = inr (inl refl)
client_wakes w (Began p ms ∷ h) k r a = later (Began p ms) h (λ x. inr x) (λ x. inr x) (client_wakes w h k r.2 a)
client_wakes w (Refused ∷ h) k r a = later Refused h (λ x. inr x) (λ x. inr x) (client_wakes w h k r.2 a)
client_wakes w (Came end bytes ∷ h) k r a = later (Came end bytes) h (λ x. inr x) (λ x. inr x) (client_wakes w h k r.2 a)
client_wakes w (Dry end ∷ h) k r a = later (Dry end) h (λ x. inr x) (λ x. inr x) (client_wakes w h k r.2 a)
client_wakes w (Took end bytes n ∷ h) k r a = later (Took end bytes n) h (λ x. inr x) (λ x. inr x) (client_wakes w h k r.2 a)
client_wakes w (Stuck end bytes ∷ h) k r a = later (Stuck end bytes) h (λ x. inr x) (λ x. inr x) (client_wakes w h k r.2 a)
client_wakes w (Lost end how ∷ h) k r a = later (Lost end how) h (λ x. inr x) (λ x. inr x) (client_wakes w h k r.2 a)
client_wakes w (OutOfMemory cut ∷ h) k r a = later (OutOfMemory cut) h (λ x. inr x) (λ x. inr x) (client_wakes w h k r.2 a)
client_wakes w (Over ∷ h) k r a = later Over h (λ x. inr x) (λ x. inr x) (client_wakes w h k r.2 a)

-- the upstream end by one that opened it
up_wakes : (w : RelayWords) (h : List Entry) → WakesNone w → IsRelayed w h → Wakes (reads w Up) h → InTurn (Joined linked.Ok) h
up_wakes w [] k r a = absurd a
up_wakes w (Began p ms ∷ h) k r a = inr (up_wakes w h k r.2 a)
up_wakes w (Refused ∷ h) k r a = inr (up_wakes w h k r.2 a)
up_wakes w (Moment ms ∷ h) k r a = absurd a
up_wakes w (Came end bytes ∷ h) k r a = inr (up_wakes w h k r.2 a)
up_wakes w (Dry end ∷ h) k r a = inr (up_wakes w h k r.2 a)
up_wakes w (Settled ∷ h) k r (inl n) =
    absurd (read_before (is_readable (side_of Up (sides h))) (is_out_of_memory h) (w.awaits Up (Settled ∷ h)) (w.awaits Up h) (k.settled h r.2) n.0 n.1)
up_wakes w (Settled ∷ h) k r (inr a) = inr (up_wakes w h k r.2 a)
up_wakes w (Joined linked.Ok ∷ h) k r a = inl refl
up_wakes w (Joined linked.Failed ∷ h) k r (inl n) = let clash : false ≡ true = n.1 in absurd cc
up_wakes w (Joined linked.Failed ∷ h) k r (inr a) = inr (up_wakes w h k r.2 a)
up_wakes w (Took end bytes n ∷ h) k r a = inr (up_wakes w h k r.2 a)
up_wakes w (Stuck end bytes ∷ h) k r a = inr (up_wakes w h k r.2 a)
up_wakes w (Lost end how ∷ h) k r a = inr (up_wakes w h k r.2 a)
up_wakes w (OutOfMemory cut ∷ h) k r a = inr (up_wakes w h k r.2 a)
up_wakes w (Over ∷ h) k r a = inr (up_wakes w h k r.2 a)

-- and something can be taken up again by one that failed
takes_wake : (w : RelayWords) (h : List Entry) → IsSteady w → WakesNone w → Wakes (takes_up w) h → InTurn (Joined linked.Failed) h
takes_wake w [] s k a = absurd a
takes_wake w (Began p ms ∷ h) s k a = inr (takes_wake w h s k a)
takes_wake w (Refused ∷ h) s k a = inr (takes_wake w h s k a)
takes_wake w (Moment ms ∷ h) s k a = absurd a
takes_wake w (Came end bytes ∷ h) s k a = inr (takes_wake w h s k a)
takes_wake w (Dry end ∷ h) s k a = inr (takes_wake w h s k a)
takes_wake w (Settled ∷ h) s k (inl n) =
    let clash : false ≡ true = sym (takes_settled w h s) ∙ n.1 in absurd cc
takes_wake w (Settled ∷ h) s k (inr a) = inr (takes_wake w h s k a)
takes_wake w (Joined linked.Ok ∷ h) s k (inl n) =
    absurd (taken_before (is_out_of_memory h) (w.takes_up (Joined linked.Ok ∷ h)) (w.takes_up h) (k.takes h) n.0 n.1)
takes_wake w (Joined linked.Ok ∷ h) s k (inr a) = inr (takes_wake w h s k a)
takes_wake w (Joined linked.Failed ∷ h) s k a = inl refl
takes_wake w (Took end bytes n ∷ h) s k a = inr (takes_wake w h s k a)
takes_wake w (Stuck end bytes ∷ h) s k a = inr (takes_wake w h s k a)
takes_wake w (Lost end how ∷ h) s k a = inr (takes_wake w h s k a)
takes_wake w (OutOfMemory cut ∷ h) s k a = inr (takes_wake w h s k a)
takes_wake w (Over ∷ h) s k a = inr (takes_wake w h s k a)

silent : (w : RelayWords) (h : List Entry) → IsSteady w → WakesNone w → IsRelayed w h → IsQuiet w h → IsSilent w h
silent w h s k r q = record {
  client = λ reads. elim (q.dry Client reads) [ inl i ↦ inl i | inr a ↦ inr (client_wakes w h k r a) ];
  up = λ reads. elim (q.dry Up reads) [ inl i ↦ inl i | inr a ↦ inr (up_wakes w h k r a) ];
  taken = λ takes. takes_wake w h s k (q.taken takes);
}

in_silence : (w : RelayWords) (c : Limits) (m : History) → IsSteady w → WakesNone w → Follows w c m → IdlesAtRest w c m → IdlesInSilence w m
in_silence w c [] s k f a = tt
in_silence w c (Call (Accept answer) ∷ m) s k f a = in_silence w c m s k f.2 a
in_silence w c (Call (Connect p answer) ∷ m) s k f a = in_silence w c m s k f.2 a
in_silence w c (Call (Read p end room answer bytes) ∷ m) s k f a = in_silence w c m s k f.2 a
in_silence w c (Call (Write p end bytes answer) ∷ m) s k f a = in_silence w c m s k f.2 a
in_silence w c (Call (Shut p end) ∷ m) s k f a = in_silence w c m s k f.2 a
in_silence w c (Call (Idle answer) ∷ m) s k f a =
    ((λ p live. silent w (journal p m) s k (relayed w c m f.2 p) (a.0.pairs p live)), in_silence w c m s k f.2 a.1)
in_silence w c (Call (Now ms) ∷ m) s k f a = in_silence w c m s k f.2 a
in_silence w c (Refuse p ∷ m) s k f a = in_silence w c m s k f.1 a
in_silence w c (TakeUp p ∷ m) s k f a = in_silence w c m s k f.1 a
in_silence w c (RunOut p n cut ∷ m) s k f a = in_silence w c m s k f.2 a
in_silence w c (Finish how ∷ m) s k f a = in_silence w c m s k f.2 a

pub idles_in_silence : (w : RelayWords) (c : Limits) (m : History) → IsSteady w → WakesNone w → Follows w c m → IdlesInSilence w m
idles_in_silence w c m s k f = in_silence w c m s k f (idles_at_rest w c m s f)
