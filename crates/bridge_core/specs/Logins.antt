-- The login that a container is asked for.
use Rattle.std.specs.Prelude.{◌≡◌, true, Option, Some, None}
use Rattle.machine_091.specs.RefusalsOpening.{is_login}
use Rattle.machine_091.specs.declared.unit.Want91.{Want91}
use Rattle.machine_091.specs.declared.unit.Want91.TheVariants as want
use Rattle.machine_10.specs.declared.state.Upstream.{Upstream}

-- it is one that a client may tell
abbrev pub IsLoginOf : Option Upstream → Type 0
IsLoginOf None = Unit {0}
IsLoginOf (Some c) = is_login c.mechanism c.response ≡ true

-- what a unit wants is no other login
abbrev pub IsLoginWant : Want91 → Type 0
IsLoginWant (want.Login mechanism response) = is_login mechanism response ≡ true
IsLoginWant want.Nothing = Unit {0}
IsLoginWant want.Start = Unit {0}
IsLoginWant want.Tuned = Unit {0}
IsLoginWant want.OpenUp = Unit {0}
IsLoginWant (want.Method n m) = Unit {0}
IsLoginWant (want.Publish n m c) = Unit {0}
IsLoginWant (want.ChannelCloseOk n) = Unit {0}
IsLoginWant want.Close = Unit {0}
IsLoginWant want.CloseOk = Unit {0}
IsLoginWant (want.Refuse r) = Unit {0}
