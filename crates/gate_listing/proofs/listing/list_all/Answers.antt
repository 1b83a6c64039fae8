use Rattle.std.proofs.Common.{◌≡◌, ◌≢◌, ℕ, List, [], length, ap, Bor}
use Rattle.std.proofs.lemmas.Bool.{eq-eqb}
use Rattle.gate_listing.proofs.Steps.{shorter, goes_on, ends_by}
use Rattle.gate_listing.proofs.listing.list_all.Goals as goal

pub loop-rest-smaller : goal.loop-rest-smaller
loop-rest-smaller g c =
    shorter c.args.dialect _ _ _ _ _ c.loop-rest.invariant.fits c.in-Ok.ensures.listed.2 c.in-Ok.ensures.listed.3

pub loop-rest-preserved : goal.loop-rest-preserved
loop-rest-preserved g c =
    goes_on c.args.dialect _ _ _ _ _ _ c.args.bytes.now c.loop-rest.rest.now _ c.in-Ok.after.now _ c.loop-rest.invariant c.in-Ok.ensures.later
    c.in-Ok.ensures.listed.2 c.in-Ok.ensures.listed.3 c.in-Ok.ensures.listed.4

pub returns-in-Err-clause-listed : goal.returns-in-Err-clause-listed
returns-in-Err-clause-listed g c =
    let some : c.loop-rest.rest.now ≢ [] = λ none. absurd (let zero : length c.loop-rest.rest.now ≡ 0 = ap length none in cc (c.is_empty.ensures, c.loop-rest-test.true, eq-eqb (length c.loop-rest.rest.now) 0 zero)) in
    let listed = ends_by {X = Bor (List ℕ)} (λ r. r.now) c.in-Err.stop c.args.dialect _ _ _ _ _ c.args.bytes.now c.loop-rest.rest.now
    c.loop-rest.invariant some c.in-Err.ensures.listed in
    rw c.ended.ensures listed
