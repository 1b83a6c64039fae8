use Rattle.std.proofs.Common.{◌≡◌, ◌∙◌, ◌≤◌, List, Option, ap, arith, drop, subst}
use Rattle.session_path.specs.Path.{PathState}
use Rattle.gate_model.specs.declared.life.Life.{Life}
use Rattle.gate_model.specs.Lives.{no_lives}
use Rattle.gate_model.specs.Paths.{no_paths}
use Rattle.gate_model.specs.State.{State}
use Rattle.bridge_core.specs.ChannelRows.{AreFreeFrom}
use Rattle.bridge_core.proofs.ChannelRows.{row_beyond, up_row_beyond}
use Rattle.bridge_core.proofs.core_state.Core.top.Goals as goal

pub returns-clause-client : goal.returns-clause-client
returns-clause-client c row =
    let w : State = c.args.self.now in
    let above : c.top.result ≤ c.max.result = omega (arith, c.max-top.ensures, c.max.ensures) in
    let over : c.top-2.result ≤ c.max.result = omega (arith, c.max-top.ensures, c.max.ensures) in
    let lives : drop c.top.result w.lives ≡ drop c.top.result no_lives =
    subst (λ (ls : List Life). drop c.top.result ls ≡ drop c.top.result no_lives) (ap (λ (x : State). x.lives) c.self.view_is) c.top.ensures.beyond in
    let paths : drop c.top-2.result w.paths ≡ drop c.top-2.result no_paths =
    subst (λ (ps : List (Option PathState)). drop c.top-2.result ps ≡ drop c.top-2.result no_paths) (ap (λ (x : State). x.paths) c.self.view_is) c.top-2.ensures.beyond in
    row_beyond w row c.top.result c.top-2.result c.max.result above over lives paths

pub returns-clause-up : goal.returns-clause-up
returns-clause-up c row =
    let w : State = c.args.self.now in
    let above : c.top.result ≤ c.max.result = omega (arith, c.max-top.ensures, c.max.ensures) in
    let over : c.top-2.result ≤ c.max.result = omega (arith, c.max-top.ensures, c.max.ensures) in
    let past : c.top_of.result ≤ c.max.result = omega (arith, c.max.ensures) in
    let lives : drop c.top.result w.lives ≡ drop c.top.result no_lives =
    subst (λ (ls : List Life). drop c.top.result ls ≡ drop c.top.result no_lives) (ap (λ (x : State). x.lives) c.self.view_is) c.top.ensures.beyond in
    let paths : drop c.top-2.result w.paths ≡ drop c.top-2.result no_paths =
    subst (λ (ps : List (Option PathState)). drop c.top-2.result ps ≡ drop c.top-2.result no_paths) (ap (λ (x : State). x.paths) c.self.view_is) c.top-2.ensures.beyond in
    let free : AreFreeFrom c.top_of.result w.up.container =
    subst (AreFreeFrom c.top_of.result) (c.container.ensures.value ∙ ap (λ (x : State). x.up.container) c.self.view_is) c.top_of.ensures.free in
    up_row_beyond w row c.top.result c.top-2.result c.top_of.result c.max.result above over past lives paths free
