use Rattle.std.proofs.Common.{◌≡◌, ◌+◌, drop}
use Rattle.session_path.specs.Links.{gap, free_number}
use Rattle.session_path.proofs.links.lowest_free.Given as goal

abbrev pub invariant-loop-this : goal.invariant-loop-this
invariant-loop-this l = record {
  place : l.n ≡ l.this-index;
  rest : l.n + gap l.n (drop l.this-index l.links) ≡ free_number l.links;
}
