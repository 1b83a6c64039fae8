-- The paths of channels, where one is changed.
use Rattle.std.proofs.Common.{◌≡◌, ℕ, zero, suc, ◌≤◌, List, [], ◌∷◌, Option, None, Some, length, refl, ap, sym}
use Rattle.std.proofs.Common.{arith, ◌∙◌, ◌<◌, get_or, replicate}
use Rattle.std.specs.Prelude.{slice_set}
use Rattle.std.specs.Option.{option_map}
use Rattle.session_path.specs.Path.{PathState, deliver_sent}
use Rattle.session_path.specs.declared.path.DeliverDue.{DeliverDue}
use Rattle.gate_model.specs.declared.channel.ChannelUnit.{ChannelUnit}
use Rattle.gate_model.specs.declared.channel.ChannelUnit.TheVariants as to_client
use Rattle.gate_model.specs.State.{path_told}
use Rattle.gate_model.specs.Paths.{with_path}

set_beyond : (n : ℕ) (o : Option PathState) (ps : List (Option PathState)) → length ps ≤ n → slice_set ps n o ≡ ps
set_beyond n o [] e = refl
set_beyond zero o (x ∷ ps) e = absurd (omega (arith, e))
set_beyond (suc n) o (x ∷ ps) e = ap (λ (xs : List (Option PathState)). x ∷ xs) (set_beyond n o ps (omega (arith, e)))

-- nothing is there of a channel beyond the last
pub none_beyond : (n : ℕ) (f : PathState → PathState) (ps : List (Option PathState)) → length ps ≤ n → with_path n f ps ≡ ps
none_beyond n f ps e = set_beyond n _ ps e

-- none is there where each is None
each_none : (ps : List (Option PathState)) → ((i : ℕ) (d : Option PathState) → i < length ps → get_or ps i d ≡ None) → ps ≡ replicate (length ps) None
each_none [] all = refl
each_none (x ∷ ps) all =
    ap (λ (o : Option PathState). o ∷ ps) (all 0 None (omega arith))
    ∙ ap (λ (qs : List (Option PathState)). None ∷ qs) (each_none ps (λ i d lt. all (suc i) d (omega (arith, lt))))

pub all_none : (ps : List (Option PathState)) (n : ℕ) → length ps ≡ n → ((i : ℕ) (d : Option PathState) → i < n → get_or ps i d ≡ None) → ps ≡ replicate n None
all_none ps n long all = each_none ps (λ i d lt. all i d (omega (arith, lt, long))) ∙ ap (λ (k : ℕ). replicate k None) long

-- a deliver was sent on one
pub told_to : (o n : Option PathState) (old new : PathState) (d : DeliverDue) (u : ChannelUnit) → o ≡ Some old → u ≡ to_client.Deliver d
    → new ≡ deliver_sent d old → n ≡ Some new → n ≡ option_map (path_told u) o
told_to o n old new d u is of e f =
    f ∙ ap Some e ∙ sym (ap (λ (x : ChannelUnit). option_map (path_told x) (Some old)) of) ∙ sym (ap (option_map (path_told u)) is)
