use Rattle.std.specs.Prelude.{IfSome}
use Rattle.mc_top.specs.Requests.{input_for, plain_request, IsDueTo}
use Rattle.mc_top.specs.Serve.{IsStatus}
use Rattle.mc_top.proofs.Serving.{of_request}
use Rattle.mc_top.proofs.top.answer_words.Goals as goal

pub returns-in-Some-Sample-clause-status : goal.returns-in-Some-Sample-clause-status
returns-in-Some-Sample-clause-status g c =
    of_request _ (plain_request c.in-Some-Sample.field-0)
    (λ request. IfSome (input_for request (g.S.Source.left c.args.source.now))
    (λ input. IsStatus (IsDueTo request input) c.run_sample.result))
    c.in-Some-Sample.ensures.request
    (rw c.in-Some-Sample.field-0-is c.run_sample.ensures.status)

pub returns-in-Some-OfText-clause-status : goal.returns-in-Some-OfText-clause-status
returns-in-Some-OfText-clause-status g c =
    of_request _ (plain_request c.in-Some-OfText.field-0)
    (λ request. IfSome (input_for request (g.S.Source.left c.args.source.now))
    (λ input. IsStatus (IsDueTo request input) c.run.result))
    c.in-Some-OfText.ensures.request (rw c.in-Some-OfText.field-0-is c.run.ensures.status)
