-- The bytes that are lent of a payload, in two pieces.
use Rattle.std.specs.Prelude.{ℕ, ◌++◌, List}
use Rattle.publish_path.specs.declared.payload.Pieces.{Pieces}

-- one behind the other
abbrev pub joined : Pieces → List ℕ
joined p = p.front.now ++ p.back.now
