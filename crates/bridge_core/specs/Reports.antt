-- The lines of the report: what writing a text came to, and which life comes next.
use Rattle.std.specs.Prelude.{◌≡◌, ℕ, ◌<◌, ◌≤◌, nat_le, nat_lt, Bool, true, false, ◌&&◌}
use Rattle.std.specs.Prelude.{if◌then◌else◌, List, [], Option, None, Some}
use Rattle.std.specs.Bool.{OnFalse, OnTrue}
use Rattle.gate_outside.specs.Counts.{Rose}
use Rattle.gate_outside.specs.Streams.{Appends, AppendsFront}
use Rattle.gate_relay.specs.Entries.{is_empty}
use Rattle.open_items.specs.declared.lost.LostItem.{LostItem}
use Rattle.session_path.specs.Due.{lines}
use Rattle.session_path.specs.Path.{PathState}
use Rattle.gate_model.specs.Paths.{lines_of_life}
use Rattle.gate_model.specs.Spelling.{line_text}

-- a text was written to a sink, by its count of faults and what it holds: whole, or else a front
-- part of it, where the count rose
pub record Writes (done : Bool) (faults risen : ℕ) (old new : Option (List ℕ)) (text : List ℕ)
    : Type 0 where
  pub later : faults ≤ risen
  pub cause : OnFalse done (Rose faults risen)
  pub whole : OnTrue done (Appends old new text)
  pub part : OnFalse done (AppendsFront old new text)

-- the line of a publish, which may owe none
abbrev pub text_of_line : ℕ → Option LostItem → List ℕ
text_of_line pair None = []
text_of_line pair (Some item) = line_text pair item

-- the life of a channel whose publishes or deliveries owe lines
abbrev pub owing_on : Option PathState → Option ℕ
owing_on None = None
owing_on (Some s) = if is_empty (lines s) then None else Some s.publishes.life

-- of two lives the first, where the second counts only above one number and not past another
abbrev pub is_before : ℕ → Option ℕ → Bool
is_before life None = true
is_before life (Some next) = nat_lt life next

abbrev pub sooner : ℕ → ℕ → Option ℕ → Option ℕ → Option ℕ
sooner above last next None = next
sooner above last next (Some life) =
    if nat_lt above life && (nat_le life last && is_before life next) then Some life else next

-- the first life above one, and not past the last, that owes lines
pub record IsNext (above last : ℕ) (ps : List (Option PathState)) (life : ℕ) : Type 0 where
  pub over : above < life
  pub within : life ≤ last
  pub owes : is_empty (lines_of_life life ps) ≡ false
  pub first : (n : ℕ) → above < n → n < life → lines_of_life n ps ≡ []

abbrev pub IsNextOwing : ℕ → ℕ → List (Option PathState) → Option ℕ → Type 0
IsNextOwing above last ps None = (n : ℕ) → above < n → n ≤ last → lines_of_life n ps ≡ []
IsNextOwing above last ps (Some life) = IsNext above last ps life
