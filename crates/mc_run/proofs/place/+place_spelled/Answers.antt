use Rattle.std.proofs.Common.{◌≡◌, arith}
use Rattle.mc_run.specs.Settings.{place_spelled}
use Rattle.mc_run.proofs.Outputs.{spelled_step, spelled_below}
use Rattle.mc_run.proofs.place.+place_spelled.Goals as goal

pub returns-in-len1-up-clause-within : goal.returns-in-len1-up-clause-within
returns-in-len1-up-clause-within t c =
    let live = c.args.live.now in
    let qubits = c.args.qubits.now in
    let e : c.with_digit.result ≡ place_spelled live qubits c.args.y =
    spelled_step live qubits c.args.y c.weight_of.result _ c.two_to.result _ c.digit.result
    c.in-len1-up.len_at_least c.weight_of.ensures.weight c.two_to.ensures c.digit.ensures
    c.place_spelled-place.ensures.place c.with_digit.ensures in
    omega (arith, e, spelled_below live qubits c.args.y c.requires.living)
