use Rattle.std.proofs.lemmas.Result.{on_err_weaker}
use Rattle.wire_base.proofs.Outputs.{still_there}
use Rattle.sections_10.proofs.writing.put_sections.Goals as goal

pub returns-clause-err : goal.returns-clause-err
returns-clause-err c =
    let old = c.args.out.now in
    let new = c.put_body_head.new.out in
    on_err_weaker c.put_body_head.result
    (λ h. still_there old c.put_header.new.out new _ c.in_ok-put_header.ensures.ok
    (still_there c.put_header.new.out c.put_maybe.new.out new _ c.in_ok-put_maybe.ensures.ok
    (still_there c.put_maybe.new.out c.put_props.new.out new _ c.in_ok-put_props.ensures.ok
    (still_there c.put_props.new.out c.put_maybe-2.new.out new _ c.in_ok-put_maybe-2.ensures.ok h))))
    c.put_body_head.ensures.err
