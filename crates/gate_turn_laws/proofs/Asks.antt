-- Calls are asked of pairs that live.
use Rattle.std.proofs.Common.{◌≡◌, ℕ, true, [], ◌∷◌, subst}
use Rattle.gate_outside.specs.declared.ports.Accepted.TheVariants as accepted
use Rattle.gate_outside.specs.declared.log.LogEntry.{LogEntry}
use Rattle.gate_outside.specs.declared.log.LogEntry.TheVariants.{Accept, Connect, Read, Write, Shut}
use Rattle.gate_outside.specs.declared.log.LogEntry.TheVariants.{Idle, Now}
use Rattle.gate_relay.specs.RelayWords.{RelayWords}
use Rattle.gate_runs.specs.declared.limits.Limits.{Limits}
use Rattle.gate_runs.specs.Marks.{History, Call, Refuse, TakeUp, RunOut, Finish}
use Rattle.gate_runs.specs.Journal.{journal}
use Rattle.gate_runs.specs.Next.{live_pairs, Do, Settle, asked}
use Rattle.gate_runs.specs.Serving.{RefusesAt, Follows}
use Rattle.gate_turn_laws.specs.Pairs.{is_live}
use Rattle.gate_turn_laws.specs.Asks.{AskedOfLive, AsksLive}
use Rattle.gate_turn_laws.proofs.Lists.{among_pushed}
use Rattle.gate_turn_laws.proofs.Living.{Wanted, wanted, lives, run_out_lives, reads_end}
use Rattle.gate_turn_laws.proofs.Living.{connects_end, offers_end}

asked_of_live : (w : RelayWords) (c : Limits) (m : History) (entry : LogEntry) → Wanted w c m (Do (asked entry)) → AskedOfLive m entry
asked_of_live w c m (Accept answer) a = tt
asked_of_live w c m (Connect p answer) a = (a.0, connects_end w (journal p m) a.1)
asked_of_live w c m (Read p end room answer bytes) a = (a.0, reads_end w end (journal p m) a.2)
asked_of_live w c m (Write p end bytes answer) a = (a.0, offers_end w end (journal p m) bytes a.1)
asked_of_live w c m (Shut p end) a = (a.0, a.1)
asked_of_live w c m (Idle answer) a = tt
asked_of_live w c m (Now ms) a = tt

refusal_lives : (p : ℕ) (m : History) → RefusesAt p m → is_live p m ≡ true
refusal_lives p (Call (Accept (accepted.Pair q)) ∷ m) r = subst (λ (x : ℕ). is_live x (Call (Accept (accepted.Pair q)) ∷ m) ≡ true) r (among_pushed q (live_pairs m))
refusal_lives p m r = absurd r

pub asks_live : (w : RelayWords) (c : Limits) (m : History) → Follows w c m → AsksLive m
asks_live w c [] f = tt
asks_live w c (Call entry ∷ m) f = (asked_of_live w c m entry (wanted w c m _ f.2 f.0), asks_live w c m f.2)
asks_live w c (Refuse p ∷ m) f = (refusal_lives p m f.0, asks_live w c m f.1)
asks_live w c (TakeUp p ∷ m) f = let a : Wanted w c m (Settle p) = wanted w c m _ f.1 f.0 in (a.0, asks_live w c m f.1)
asks_live w c (RunOut p s cut ∷ m) f = (run_out_lives w c p s cut m f.1 f.2 (lives w c m f.2), asks_live w c m f.2)
asks_live w c (Finish how ∷ m) f = asks_live w c m f.2
