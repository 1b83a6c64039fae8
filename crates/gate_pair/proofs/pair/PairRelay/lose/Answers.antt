use Rattle.std.proofs.Common.{◌≡◌, ◌≢◌, ◌∙◌, [], ◌∷◌, ap, false, refl, true}
use Rattle.gate_outside.specs.declared.ports.End.{End}
use Rattle.gate_outside.specs.declared.ports.End.TheVariants.{Client, Up}
use Rattle.gate_relay.specs.declared.loss.Loss.{Loss}
use Rattle.gate_relay.specs.Entries as entry
use Rattle.gate_model.specs.State.{Lost}
use Rattle.gate_pair.specs.Meaning.{Told, made, tells, told}
use Rattle.gate_pair.specs.PairStates.{unlined}
use Rattle.gate_pair.proofs.Saids.{half, moved_says, pair_of, told_said}
use Rattle.gate_pair.proofs.pair.PairRelay.lose.Goals as goal
use Rattle.gate_pair.proofs.pair.PairRelay.lose.Goals.{in-Up, in_default}

up_tells : (end : End) (how : Loss) (t : Told) → end ≡ Up → true ≡ tells (entry.Lost end how) t
up_tells Client how t e = absurd cc
up_tells Up how t e = refl

other_tells : (end : End) (how : Loss) (t : Told) → end ≢ Up → false ≡ tells (entry.Lost end how) t
other_tells Client how t n = refl
other_tells Up how t n = absurd (n refl)

pub returns-clause-entry : goal.returns-clause-entry
returns-clause-entry c = λ s h e.
    told_said (pair_of c.lose.new.self (half c.self.inside.client c.self.inside.client_sent) (half c.self.inside.up c.self.inside.up_sent) c.match-matches.self) (made (Lost c.args.end c.args.how ∷ []) (told s h)) _
    (moved_says (Lost c.args.end c.args.how) c.self.inside.bridge c.lose.new.self (half c.self.inside.client c.self.inside.client_sent) (half c.self.inside.up c.self.inside.up_sent) c.self.inside.telling c.match-matches.self c.args.self.now
    c.self.view_is c.lose.ensures.step c.lose.ensures.kept (told s h) (ap unlined e))
    (elim c.match-matches.branch [
      | in-Up w ↦ w.self-is ∙ up_tells c.args.end c.args.how (told s h) w.in-Up.is
      | in_default w ↦ w.self-is ∙ other_tells c.args.end c.args.how (told s h) w.in_default.not-Up
    ])
