use Rattle.std.proofs.Common.{◌≡◌, ℕ, List, [], ◌++◌, ◌∙◌, ap, sym, ◌-◌, arith}
use Rattle.std.proofs.lemmas.Result.{IfOk-weaker}
use Rattle.mc_model.specs.Numbers.{numbers_from}
use Rattle.mc_model.specs.Pattern.{Circuit, Gate}
use Rattle.mc_sample.specs.Generator.{gates_by, gates_behind, next_number, sample_circuit}
use Rattle.mc_sample.specs.Parts.{wired}
use Rattle.mc_sample.proofs.SmallNumbers.{gates_more, gates_end}
use Rattle.mc_sample.proofs.generator.sample.Goals as goal

pub gates-init : goal.gates-init
gates-init c =
    let e : c.args.n ≡ c.args.n - 0 = omega arith in
    ([], c.in_ok-builder.ensures, sym (ap (gates_behind c.args.n) e))

pub gates-preserved : goal.gates-preserved
gates-preserved c =
    let old = c.gates.invariant in
    let x : ℕ = c.gates.x in
    let gates : List Gate = old.0 in (
      gates ++ gates_by (next_number x),
      c.in_ok-push_gates.ensures
          ∙ ap (λ (b : Circuit). record b { gates = b.gates ++ gates_by c.next_number-x.result }) old.1
          ∙ ap (λ (y : ℕ). wired 8 (gates ++ gates_by y)) c.next_number-x.ensures,
      rw c.next_number-x.ensures
          (gates_more x c.args.n c.gates._step gates (gates_behind c.args.n c.args.n)
          c.gates-test.true old.2),
    )

pub returns : goal.returns
unfolding sample_circuit
returns c =
    let old = c.gates.invariant in
    IfOk-weaker c.finish.result _ _
    (λ circuit e.
    e ∙ ap (λ (b : Circuit). record b { outputs = numbers_from 0 8 })
    (old.1 ∙ ap (wired 8) (gates_end c.gates.x c.args.n c.gates._step old.0
    (gates_behind c.args.n c.args.n) c.gates-test.false old.2)))
    c.finish.ensures
