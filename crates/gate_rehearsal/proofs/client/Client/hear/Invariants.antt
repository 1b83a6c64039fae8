use Rattle.std.proofs.Common.{length}
use Rattle.gate_rehearsal.proofs.client.Client.hear.Given as goal

abbrev pub decreases-loop-len : goal.decreases-loop-len
decreases-loop-len l = length l.self.heard.bytes.items
