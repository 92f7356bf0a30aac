use Rattle.std.specs.Prelude.{nat_eq}
use Rattle.std.proofs.lemmas.Bool.{eq-eqb, ne_eqb}
use Rattle.mc_cert.proofs.ListTests.{any_found, any_step}
use Rattle.mc_cert.proofs.bound.has_layer.Goals as goal

pub returns-then-depth-layer : goal.returns-then-depth-layer
returns-then-depth-layer c =
    any_found (λ r. nat_eq c.args.depth r.layer) c.args.b.now.layers c.layers.i _
    c.layer_row-layer.ensures
    (eq-eqb c.args.depth c.layer_row-layer.result.1 c.if-depth-layer.true) c.layers.invariant

pub layers-preserved : goal.layers-preserved
layers-preserved c =
    any_step (λ r. nat_eq c.args.depth r.layer) c.args.b.now.layers c.layers.i _
    c.layer_row-layer.ensures
    (ne_eqb c.args.depth c.layer_row-layer.result.1 c.if-depth-layer.false) c.layers.invariant
