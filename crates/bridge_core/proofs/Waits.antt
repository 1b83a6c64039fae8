-- Requests of channels that wait, by what the code knows of them.
use Rattle.std.proofs.Common.{◌≡◌, ◌∙◌, Bool, ◌||◌, false, List, Option, ap}
use Rattle.machine_091.specs.State.{is_closing, is_opening}
use Rattle.machine_10.specs.declared.state.Upstream.{Upstream}
use Rattle.session_path.specs.Path.{PathState}
use Rattle.gate_model.specs.declared.life.Life.{Life}
use Rattle.gate_model.specs.Lives.{any_life}
use Rattle.gate_model.specs.State.{State, close_waits, is_settled, life_waits}
use Rattle.bridge_core.specs.ChannelRows.{is_waiting_on}

-- some request waits, where neither connection.open nor connection.close does
pub some_waits : (w : State) (closing settled : Bool) (o : Option Upstream) (ps : List (Option PathState)) (ls : List Life) → closing ≡ is_closing w.conn → settled ≡ is_settled w
    → o ≡ w.up.container → ps ≡ w.paths → ls ≡ w.lives → is_opening w.conn ≡ false → close_waits w ≡ false
    → any_life (is_waiting_on closing settled o ps) 0 ls ≡ (is_opening w.conn || (close_waits w || any_life (life_waits w) 0 w.lives))
some_waits w closing settled o ps ls c s u p l opening close =
    ap (λ (b : Bool). any_life (is_waiting_on b settled o ps) 0 ls) c ∙ ap (λ (b : Bool). any_life (is_waiting_on (is_closing w.conn) b o ps) 0 ls) s
    ∙ ap (λ (x : Option Upstream). any_life (is_waiting_on (is_closing w.conn) (is_settled w) x ps) 0 ls) u
    ∙ ap (λ (x : List (Option PathState)). any_life (is_waiting_on (is_closing w.conn) (is_settled w) w.up.container x) 0 ls) p
    ∙ ap (λ (x : List Life). any_life (life_waits w) 0 x) l
    ∙ cc
