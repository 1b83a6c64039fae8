use Rattle.std.proofs.Common.{◌≡◌, length, refl, rules}
use Rattle.std.specs.Option.{option_map}
use Rattle.bridge_core.proofs.PathChanges.{part_is}
use Rattle.bridge_core.proofs.path_changes.part_of.Goals as goal

pub returns : goal.returns
returns c =
    let t = c.args.transfer.now in
    let long : c.match-transfer.tag_length ≡ option_map length t.delivery_tag =
    elim c.match-transfer.branch [
      | goal.in-None w ↦ search rules
      | goal.in-Some w ↦ search rules
    ] in
    part_is t _ c.id_of.ensures long c.unwrap_or.ensures refl refl refl
