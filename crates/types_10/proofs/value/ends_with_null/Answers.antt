use Rattle.std.proofs.lemmas.List.{map_push}
use Rattle.types_10.proofs.Trimmed.{ends_push}
use Rattle.types_10.proofs.value.ends_with_null.Goals as goal

pub returns-in-Some : goal.returns-in-Some
returns-in-Some c = rw (c.in-Some.ensures.cases.0, map_push, ends_push) c.is_null.ensures
