use Rattle.std.proofs.Common.{◌≡◌, Some, ap, ◌∙◌, sym}
use Rattle.mc_model.specs.Names.{place_of}
use Rattle.mc_model.specs.Pattern.{Circuit}
use Rattle.mc_circuit.proofs.builder.CircuitBuilder.plus.Goals as goal

pub returns-in-Err-Twice-clause-twice : goal.returns-in-Err-Twice-clause-twice
returns-in-Err-Twice-clause-twice g c =
    let names : c.self.inside.names ≡ c.args.self.now.names = ap (λ (b : Circuit). b.names) c.self.view_is in
    let stands : place_of c.self.inside.names c.args.name ≡ Some c.in-Err-Twice.number =
    (c.in-Err-Twice.ensures.twice c.in-Err-Twice.number).0 (cc) in
    let place : place_of c.args.self.now.names c.args.name ≡ Some c.in-Err-Twice.number = rw (← names) stands in
    λ q. (λ e. place ∙ cc e, λ h. let same : Some c.in-Err-Twice.number ≡ Some q = sym place ∙ h in cc same)
