-- What the check of a method frame against the order of refusals answers: the method, if the frame
-- counts, or what the order says of it. And what a frame of a content leaves.
use Rattle.std.specs.Prelude.{◌≡◌, ℕ, Bool, true, false, List, ◌++◌, Option, Some, None, Result, Ok}
use Rattle.std.specs.Prelude.{Err}
use Rattle.frames_091.specs.declared.frame.Frame91.{Frame91}
use Rattle.frames_091.specs.declared.frame.Kind91.TheVariants.{Method}
use Rattle.methods_091.specs.View.{kind_of, args_of, parts_of}
use Rattle.methods_091.specs.Reading.{method_in}
use Rattle.methods_091.specs.declared.method.Method91.{Method91}
use Rattle.machine_091.specs.RefusalsFrames.{first}
use Rattle.machine_091.specs.RefusalsOpening.{is_expected}
use Rattle.machine_091.specs.RefusalsRunning.{running_state, running_refusal}
use Rattle.machine_091.specs.Contents.{IsFed}
use Rattle.machine_091.specs.Refusals.{places, taken_by}
use Rattle.machine_091.specs.State.{is_running, channel_at, content_at, with_content}
use Rattle.machine_091.specs.declared.contents.Fed.{Fed}
use Rattle.machine_091.specs.declared.contents.Incoming.{Incoming}
use Rattle.machine_091.specs.declared.state.Connection.{Connection}
use Rattle.machine_091.specs.declared.unit.Ruling.{Ruling}

-- the first of some places that applies, whatever places stand behind them; or none of them does
abbrev pub IsFirstOf : List (Option Ruling) → Option Ruling → Type 0
IsFirstOf ps None = (behind : List (Option Ruling)) → first (ps ++ behind) ≡ first behind
IsFirstOf ps (Some r) = (behind : List (Option Ruling)) → first (ps ++ behind) ≡ Some r

-- a method that counts: the expected one, or once the connection runs one in its state that isn't
-- refused
abbrev pub IsCounted : Bool → Connection → ℕ → Method91 → Type 0
IsCounted false c n m = is_expected c (kind_of m) ≡ true
IsCounted true c n m =
    (running_state (channel_at c n) n (kind_of m) ≡ None) × (running_refusal c.carried_max n
    (kind_of m) (args_of m) ≡ None)

-- the check of a method frame
abbrev pub IsMethodChecked : Connection → Frame91 → Result Method91 Ruling → Type 0
IsMethodChecked c f (Err r) = first (places c f (method_in f.payload) Method) ≡ Some r
IsMethodChecked c f (Ok m) =
    (first (places c f (method_in f.payload) Method) ≡ None)
    × (method_in f.payload ≡ Ok (parts_of m))
    × IsCounted (is_running c.phase) c f.channel m

-- what a frame made of a connection: another content in progress on its channel, or none
abbrev pub IsFedAt : Connection → Connection → Frame91 → Fed → Type 0
IsFedAt before after f x =
    (o : Option Incoming) × IsFed (content_at before f.channel) o (taken_by before f f.kind) x
    × (after ≡ with_content before f.channel o)
