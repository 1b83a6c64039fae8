use Rattle.std.proofs.Common.{ℕ, List, Bor}
use Rattle.gate_show.proofs.Steps.{shorter, goes_on, ends_by}
use Rattle.gate_show.proofs.show.show_entries.Goals as goal

pub loop-rest-smaller : goal.loop-rest-smaller
loop-rest-smaller g c = shorter _ _ _ _ c.loop-rest.invariant.fits c.in-Ok.ensures.listed.1

pub loop-rest-preserved : goal.loop-rest-preserved
loop-rest-preserved g c =
    goes_on _ _ _ c.loop-rest.number c.args.size _ _ _ c.args.bytes.now c.loop-rest.rest.now c.in-Ok.after.now c.in-Ok.ensures.listed.0 c.loop-rest.invariant c.in-Ok.ensures.later c.in-Ok.ensures.listed.1 c.in-Ok.ensures.listed.2

pub returns-in-Err-clause-listed : goal.returns-in-Err-clause-listed
returns-in-Err-clause-listed g c =
    let listed = ends_by {X = Bor (List ℕ)} (λ r. r.now) c.in-Err.stop _ _ c.loop-rest.number c.args.size _ _ _ c.args.bytes.now c.loop-rest.rest.now c.loop-rest.invariant c.in-Err.ensures.listed in
    rw c.ended.ensures listed
