use Rattle.std.proofs.Common.{◌≡◌, Bool, Option, None, IfOk, subst}
use Rattle.std.specs.Prelude.{◌↔◌, is_none}
use Rattle.mc_model.specs.Numbers.{is_member}
use Rattle.mc_graph.specs.Refuters.{refuted_in, refuting_in}
use Rattle.mc_cert.specs.Rules.{Breach, breach_of}
use Rattle.mc_cert_text.specs.Certs.{plain_cert}
use Rattle.mc_cert_text.specs.Holding.{HoldsOf}
use Rattle.mc_top.specs.Check.{due_verdict, verdict_text}
use Rattle.mc_top.specs.Due.{Gives}
use Rattle.mc_top.proofs.Findings.{judged_gives}
use Rattle.mc_top.proofs.check.answer_verdict.Goals as goal

pub returns-clause-due : goal.returns-clause-due
returns-clause-due g c =
    let breach = breach_of c.check_cert-verdict.result in
    subst (λ (o : Option Breach). Gives c.judged.result (due_verdict o))
    c.check_cert-verdict.ensures.first
    (judged_gives c.print_verdict.result c.judged.result (is_none breach) (verdict_text breach)
    c.print_verdict.ensures c.judged.ensures.ok
    (subst (λ (t : Bool). IfOk c.judged.result (λ a. a.holds ≡ t)) c.is_yes.ensures
    c.judged.ensures.holds)
    c.judged.ensures.err)

pub returns-clause-meaning : goal.returns-clause-meaning
returns-clause-meaning g c =
    let made = c.args.graph.now in
    record {
      yes = subst
          (λ (o : Option Breach). (o ≡ None) ↔ HoldsOf made (plain_cert c.args.cert.now))
          c.check_cert-verdict.ensures.first c.check_cert-verdict.ensures.yes;
      refuters = λ rows h sets layer flow.
          c.refuters_exclude_flows.ensures made (refuted_in rows) (refuting_in rows) h sets layer
          flow;
      stuck = λ set h next layer flow.
          c.stuck_sets_exclude_causal_flows.ensures made (is_member set) h next layer flow;
      bounds = c.bounds_mean_depths.ensures.bounds made;
    }
