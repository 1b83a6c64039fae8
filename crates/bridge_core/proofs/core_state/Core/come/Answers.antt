use Rattle.std.proofs.Common.{◌≡◌, ◌∙◌, ap}
use Rattle.std.proofs.lemmas.Result.{IfOk-from_err}
use Rattle.gate_model.specs.State.{State, came, ran_out}
use Rattle.bridge_core.proofs.Meets.{came_is, came_keeps, login_met, met_takes, passed_is, publish_takes}
use Rattle.bridge_core.proofs.Strains.{on_err, runs_out}
use Rattle.bridge_core.proofs.core_state.Core.come.Goals as goal

pub returns-in-Ok-Nothing-clause-ok : goal.returns-in-Ok-Nothing-clause-ok
returns-in-Ok-Nothing-clause-ok c =
    passed_is _ _ _ c.args.unit c.in-Ok-Nothing.field-0 c.take.new.self _ _ c.self.view_is c.is_foreign-foreign.ensures c.is_closing-closing.ensures
    c.in-Ok-Nothing.ensures.state c.in-Ok-Nothing.ensures.want c.in-Ok-Nothing.field-0-is c.pass.ensures

pub returns-in-Ok-Nothing-clause-kept : goal.returns-in-Ok-Nothing-clause-kept
returns-in-Ok-Nothing-clause-kept c = came_keeps _ _ c.args.unit (returns-in-Ok-Nothing-clause-ok c)

pub apply-requires-clause-login : goal.apply-requires-clause-login
apply-requires-clause-login c =
    login_met c.connection_laws.ensures.logins _ _ _ c.args.unit c.in-Ok.want c.take.new.self c.meet.new.conn c.in_ok-met-in-Ok.met
    c.in-Ok.ensures.want c.in_ok-met-in-Ok.ensures.ok

pub returns-in_err-met-in-Ok : goal.returns-in_err-met-in-Ok
returns-in_err-met-in-Ok c =
    let x = c.in-Ok.want in
    record {
      ok = IfOk-from_err c.from_residual.result _ c.from_residual.ensures.0;
      err = on_err _ (runs_out _ _ c.args.unit x c.take.new.self c.meet.new.conn c.self.view_is c.in-Ok.ensures.state c.in-Ok.ensures.want
          c.in_err-met-in-Ok.ensures.err (publish_takes x c.in_err-met-in-Ok.ensures.publish));
      calm = ap (λ (w : State). w.out_of_memory) c.self.view_is;
      kept = record {
        client = ap (λ (w : State). w.in_progress) c.self.view_is;
        up = ap (λ (w : State). w.up.in_progress) c.self.view_is;
      };
    }

pub returns-in_err-apply-in-Ok : goal.returns-in_err-apply-in-Ok
returns-in_err-apply-in-Ok c =
    let x = c.in-Ok.want in
    let takes = met_takes _ _ x c.take.new.self c.meet.new.conn c.in_ok-met-in-Ok.met c.in_ok-met-in-Ok.ensures.ok c.in_err-apply-in-Ok.ensures.takes in
    record {
      ok = IfOk-from_err c.from_residual-in_err-apply-in-Ok.result _ c.from_residual-in_err-apply-in-Ok.ensures.0;
      err = on_err _ (ap ran_out c.in_err-apply-in-Ok.ensures.err
          ∙ runs_out _ _ c.args.unit x c.take.new.self c.meet.new.conn c.self.view_is c.in-Ok.ensures.state c.in-Ok.ensures.want takes.0 takes.1);
      calm = ap (λ (w : State). w.out_of_memory) c.in_err-apply-in-Ok.ensures.err ∙ ap (λ (w : State). w.out_of_memory) c.self.view_is;
      kept = record {
        client = ap (λ (w : State). w.in_progress) c.in_err-apply-in-Ok.ensures.err ∙ ap (λ (w : State). w.in_progress) c.self.view_is;
        up = ap (λ (w : State). w.up.in_progress) c.in_err-apply-in-Ok.ensures.err ∙ ap (λ (w : State). w.up.in_progress) c.self.view_is;
      };
    }

pub returns-in_ok-apply-in-Ok : goal.returns-in_ok-apply-in-Ok
returns-in_ok-apply-in-Ok c =
    let new : c.count.new.self ≡ came c.args.self.now c.args.unit =
    came_is _ _ _ _ c.args.unit c.in-Ok.want c.take.new.self c.meet.new.conn c.in_ok-met-in-Ok.met _ _ c.self.view_is
    c.is_foreign-foreign.ensures c.is_closing-closing.ensures c.in-Ok.ensures.state c.in-Ok.ensures.want c.in_ok-met-in-Ok.ensures.ok
    c.in_ok-apply-in-Ok.ensures.ok c.count.ensures in
    record {
      ok = new;
      err = tt;
      calm = ap (λ (w : State). w.out_of_memory) new;
      kept = came_keeps _ _ c.args.unit new;
    }
