use Rattle.std.proofs.Common.{◌≡◌, ◌-◌, length, drop}
use Rattle.types_10.specs.Tree.{pairs_of}
use Rattle.sections_10.specs.Reading.{is_key_of, keys_are}
use Rattle.sections_10.proofs.sections.are_keys.Given as goal

-- the rest decides
abbrev pub invariant-loop-place : goal.invariant-loop-place
invariant-loop-place l = keys_are (is_key_of l.keys) (pairs_of (drop l.place l.pairs)) ≡ keys_are (is_key_of l.keys) (pairs_of l.pairs)

abbrev pub decreases-loop-place : goal.decreases-loop-place
decreases-loop-place l = length l.pairs - l.place
