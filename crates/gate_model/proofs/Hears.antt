-- A handle of the container names the link that its last attach with it answered.
use Rattle.std.proofs.Common.{List}
use Rattle.session_path.specs.Events.{after_events}
use Rattle.gate_model.specs.Hears.{HearsLinks}
use Rattle.gate_model.specs.LinkCredits.{link_steps}
use Rattle.gate_model.specs.Picks.{ArePicks}
use Rattle.gate_model.specs.Publishing.{path_events}
use Rattle.gate_model.specs.State.{Step}
use Rattle.gate_model.proofs.Fitting.{Within}
use Rattle.gate_model.proofs.Granting.{DeliveriesAre}
use Rattle.gate_model.proofs.Heard.{ClosedAre}
use Rattle.gate_model.proofs.Images.{life_below}
use Rattle.gate_model.proofs.LinkHears.{AllHear, hear_rules, named_heard}
use Rattle.gate_model.proofs.LinkSteps.{agree_by}
use Rattle.gate_model.proofs.Settles.{CallsAre}

pub hears_links : Within → DeliveriesAre → ClosedAre → CallsAre → (h : List Step) → ArePicks h → HearsLinks h
hears_links within arrives closed calls h p n life peer l less lives e =
    named_heard (link_steps n h) (after_events life (path_events h n)).links peer l
    (agree_by arrives closed calls AllHear hear_rules n (life_below within h n life lives) h p less life lives) e
