-- The confirm that is due, as the search finds it: one publish after the other.
use Rattle.std.specs.Prelude.{ℕ, Bool, true, false, if◌then◌else◌, List, [], ◌∷◌, find, Option}
use Rattle.std.specs.Prelude.{Some, None}
use Rattle.std.specs.Option.{option_map}
use Rattle.publish_path.specs.declared.publish.Publish.{Publish}
use Rattle.publish_path.specs.declared.publish.Confirm.{Confirm}
use Rattle.open_items.specs.Numbers.{has_any}
use Rattle.publish_path.specs.Offers.{is_owed, is_ack, is_ready, readies, number_or, alone}

-- a run as the search goes on with it: the one with number n is the last so far
abbrev pub run_from : ℕ → Bool → Bool → List Publish → Confirm
run_from n multiple ack [] = record { number = n; multiple = multiple; ack = ack }
run_from n multiple ack (p ∷ ps) =
    if readies ack p then run_from (number_or 0 p.confirm) true ack ps
    else record { number = n; multiple = multiple; ack = ack }

-- the confirm as the search finds it
abbrev pub found_confirm : List Publish → Option Confirm
found_confirm [] = None
found_confirm (p ∷ ps) =
    if is_owed p.answer then (if has_any p.back then None
    else Some (run_from (number_or 0 p.confirm) false (is_ack p.answer) ps))
    else option_map alone (find is_ready ps)
