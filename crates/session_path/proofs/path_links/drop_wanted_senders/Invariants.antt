use Rattle.std.proofs.Common.{◌≡◌, drop}
use Rattle.session_path.proofs.Unwanted.{left_of}
use Rattle.session_path.proofs.path_links.drop_wanted_senders.Given as goal

abbrev pub invariant-loop-l : goal.invariant-loop-l
invariant-loop-l l = left_of (drop l.l-index l.links) l.sending ≡ left_of l.links l.fn.sending
