use Rattle.gate_model.proofs.Recovers.{go_back, go_before_leaving, leaves_others}
use Rattle.gate_model.proofs.Releases.{releases_are}
use Rattle.gate_model.proofs.laws.recovers_release_all.Goals as goal

pub returns : goal.returns
returns c =
    let settles = c.settles_lawfully.ensures in
    record {
      released = go_back;
      others = leaves_others;
      gone = λ h p. go_before_leaving h (releases_are c.deliveries_lawfully.ensures settles.released settles.covered c.links_lawfully.ensures h p);
    }
