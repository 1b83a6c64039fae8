-- A unit of the container leaves the login as it is.
use Rattle.std.proofs.Common.{◌≡◌, true, List, ℕ, ap, ◌∙◌}
use Rattle.machine_091.specs.RefusalsOpening.{is_login}
use Rattle.machine_10.specs.Laws.{GoesOn}
use Rattle.machine_10.specs.declared.state.Upstream.{Upstream}

pub login_stays : (c d : Upstream) → GoesOn c d → is_login c.mechanism c.response ≡ true → is_login d.mechanism d.response ≡ true
login_stays c d g e =
    ap (λ (m : List ℕ). is_login m d.response) g.mechanism ∙ ap (λ (r : List ℕ). is_login c.mechanism r) g.response ∙ e
