use Rattle.std.proofs.Common.{◌≡◌, sym, ap, ◌∙◌, Some, Ok, Err}
use Rattle.machine_091.specs.Checked.{IsFedAt}
use Rattle.machine_091.specs.Refusals.{taken_by}
use Rattle.machine_091.specs.Transitions.{Step, ruled_step}
use Rattle.machine_091.specs.declared.contents.Fed.TheVariants as fed
use Rattle.machine_091.specs.declared.state.Connection.{Connection}
use Rattle.machine_091.proofs.ContentSteps.{ruled_is, refused_is, more_is, whole_refused, whole_is}
use Rattle.machine_091.proofs.ContentSteps.{ok_given, err_given, hollow}
use Rattle.machine_091.proofs.state.Connection.take_content.Goals as goal

pub returns-in-Some-clause-state : goal.returns-in-Some-clause-state
returns-in-Some-clause-state c =
    c.rule_content.ensures.state
    ∙ ap (λ (x : Step). x.0) (sym (ruled_is c.args.self.now c.args.frame c.in-Some.ruling c.requires c.in-Some.ensures))

pub returns-in-Some-clause-want : goal.returns-in-Some-clause-want
returns-in-Some-clause-want c =
    c.rule_content.ensures.want
    ∙ ap (λ (x : Step). x.1) (sym (ruled_is c.args.self.now c.args.frame c.in-Some.ruling c.requires c.in-Some.ensures))

pub returns-in-Err-clause-state : goal.returns-in-Err-clause-state
returns-in-Err-clause-state c =
    let kept = err_given c.in_ok-fault.field-0 c.in-Err.fault (λ x. c.feed.new.self ≡ c.args.self.now) c.in-Err.is c.in_ok-fault.ensures.kept in
    let taking = err_given c.in_ok-fault.field-0 c.in-Err.fault (λ x. taken_by c.args.self.now c.args.frame c.args.frame.kind ≡ Err x) c.in-Err.is c.in_ok-fault.ensures.refused in
    c.rule_content-in-Err.ensures.state
    ∙ ap (λ (s : Connection). (ruled_step s (hollow c.args.frame) (Some c.fault_ruling.result)).0) kept
    ∙ ap (λ (x : Step). x.0) (sym (refused_is c.args.self.now c.args.frame c.in-Err.fault c.fault_ruling.result
    c.requires c.in_default.ensures taking c.fault_ruling.ensures))

pub returns-in-Err-clause-want : goal.returns-in-Err-clause-want
returns-in-Err-clause-want c =
    let kept = err_given c.in_ok-fault.field-0 c.in-Err.fault (λ x. c.feed.new.self ≡ c.args.self.now) c.in-Err.is c.in_ok-fault.ensures.kept in
    let taking = err_given c.in_ok-fault.field-0 c.in-Err.fault (λ x. taken_by c.args.self.now c.args.frame c.args.frame.kind ≡ Err x) c.in-Err.is c.in_ok-fault.ensures.refused in
    c.rule_content-in-Err.ensures.want
    ∙ ap (λ (s : Connection). (ruled_step s (hollow c.args.frame) (Some c.fault_ruling.result)).1) kept
    ∙ ap (λ (x : Step). x.1) (sym (refused_is c.args.self.now c.args.frame c.in-Err.fault c.fault_ruling.result
    c.requires c.in_default.ensures taking c.fault_ruling.ensures))

pub returns-in-Ok-More-clause-state : goal.returns-in-Ok-More-clause-state
returns-in-Ok-More-clause-state c =
    ap (λ (x : Step). x.0) (sym (more_is c.args.self.now c.feed.new.self c.args.frame c.requires c.in_default.ensures
    (ok_given c.in_ok-fault.field-0 fed.More (IsFedAt c.args.self.now c.feed.new.self c.args.frame)
    (c.in-Ok-More.is ∙ ap (λ x. Ok x) c.in-Ok-More.field-0-is) c.in_ok-fault.ensures.taken)))

pub returns-in-Ok-More-clause-want : goal.returns-in-Ok-More-clause-want
returns-in-Ok-More-clause-want c =
    ap (λ (x : Step). x.1) (sym (more_is c.args.self.now c.feed.new.self c.args.frame c.requires c.in_default.ensures
    (ok_given c.in_ok-fault.field-0 fed.More (IsFedAt c.args.self.now c.feed.new.self c.args.frame)
    (c.in-Ok-More.is ∙ ap (λ x. Ok x) c.in-Ok-More.field-0-is) c.in_ok-fault.ensures.taken)))

pub returns-in-Some-immediate_order-clause-state : goal.returns-in-Some-immediate_order-clause-state
returns-in-Some-immediate_order-clause-state c =
    c.rule_content-in-Some-immediate_order.ensures.state
    ∙ ap (λ (x : Step). x.0) (sym (whole_refused c.args.self.now c.feed.new.self c.args.frame c.in-Ok-Whole.method c.in-Ok-Whole.content
    c.in-Some-immediate_order.ruling c.requires c.in_default.ensures
    (ok_given c.in_ok-fault.field-0 (fed.Whole c.in-Ok-Whole.method c.in-Ok-Whole.content) (IsFedAt c.args.self.now c.feed.new.self c.args.frame)
    (c.in-Ok-Whole.is ∙ ap (λ x. Ok x) c.in-Ok-Whole.field-0-is) c.in_ok-fault.ensures.taken) c.in-Some-immediate_order.ensures))

pub returns-in-Some-immediate_order-clause-want : goal.returns-in-Some-immediate_order-clause-want
returns-in-Some-immediate_order-clause-want c =
    c.rule_content-in-Some-immediate_order.ensures.want
    ∙ ap (λ (x : Step). x.1) (sym (whole_refused c.args.self.now c.feed.new.self c.args.frame c.in-Ok-Whole.method c.in-Ok-Whole.content
    c.in-Some-immediate_order.ruling c.requires c.in_default.ensures
    (ok_given c.in_ok-fault.field-0 (fed.Whole c.in-Ok-Whole.method c.in-Ok-Whole.content) (IsFedAt c.args.self.now c.feed.new.self c.args.frame)
    (c.in-Ok-Whole.is ∙ ap (λ x. Ok x) c.in-Ok-Whole.field-0-is) c.in_ok-fault.ensures.taken) c.in-Some-immediate_order.ensures))

pub returns-in-None-clause-state : goal.returns-in-None-clause-state
returns-in-None-clause-state c =
    ap (λ (x : Step). x.0) (sym (whole_is c.args.self.now c.feed.new.self c.args.frame c.in-Ok-Whole.method c.in-Ok-Whole.content
    c.requires c.in_default.ensures
    (ok_given c.in_ok-fault.field-0 (fed.Whole c.in-Ok-Whole.method c.in-Ok-Whole.content) (IsFedAt c.args.self.now c.feed.new.self c.args.frame)
    (c.in-Ok-Whole.is ∙ ap (λ x. Ok x) c.in-Ok-Whole.field-0-is) c.in_ok-fault.ensures.taken) c.in-None.ensures))

pub returns-in-None-clause-want : goal.returns-in-None-clause-want
returns-in-None-clause-want c =
    ap (λ (x : Step). x.1) (sym (whole_is c.args.self.now c.feed.new.self c.args.frame c.in-Ok-Whole.method c.in-Ok-Whole.content
    c.requires c.in_default.ensures
    (ok_given c.in_ok-fault.field-0 (fed.Whole c.in-Ok-Whole.method c.in-Ok-Whole.content) (IsFedAt c.args.self.now c.feed.new.self c.args.frame)
    (c.in-Ok-Whole.is ∙ ap (λ x. Ok x) c.in-Ok-Whole.field-0-is) c.in_ok-fault.ensures.taken) c.in-None.ensures))
