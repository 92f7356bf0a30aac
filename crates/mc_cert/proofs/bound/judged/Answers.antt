use Rattle.std.proofs.Common.{◌∙◌, sym, ℕ, ◌+◌, ap, arith}
use Rattle.std.specs.Prelude.{◌<◌}
use Rattle.mc_model.specs.Graph.{size}
use Rattle.mc_cert.specs.Rules.{before_first, first_broken}
use Rattle.mc_cert.specs.BoundRules.{layer_rules, all_layers_rules, keeping_lines}
use Rattle.mc_cert.proofs.RowLemmas.{all_at}
use Rattle.mc_cert.proofs.RuleLoops.{row_breaks, row_keeps, rows_done}
use Rattle.mc_cert.proofs.bound.judged.Goals as goal

pub least_in_layer-requires : goal.least_in_layer-requires
least_in_layer-requires g c = (
  omega arith,
  all_at (λ r. r.vertex < size c.args.g.now) c.args.b.now.layers c.layers.i _ c.requires.layers
      c.layer_row-vertex.ensures,
)

pub returns-in-Some : goal.returns-in-Some
returns-in-Some g c =
    let graph = c.args.g.now in
    let b = c.args.b.now in
    let least = rw c.depth.ensures at c.least_in_layer.ensures in
    row_breaks (layer_rules graph b.depth)
    (before_first (all_layers_rules graph b.depth b.layers)
    (keeping_lines graph b.depth b.layers b.rows)) 1 b.layers c.layers.i _ c.in-Some.rule
    c.layer_row-vertex.ensures (sym least ∙ c.in-Some.is) c.layers.invariant

pub layers-preserved : goal.layers-preserved
layers-preserved g c =
    let graph = c.args.g.now in
    let b = c.args.b.now in
    let least = rw c.depth.ensures at c.least_in_layer.ensures in
    row_keeps (layer_rules graph b.depth)
    (before_first (all_layers_rules graph b.depth b.layers)
    (keeping_lines graph b.depth b.layers b.rows)) 1 b.layers c.layers.i _
    c.layer_row-vertex.ensures (sym least ∙ c.in_default.is) c.layers.invariant

pub returns : goal.returns
returns g c =
    let graph = c.args.g.now in
    let b = c.args.b.now in
    let lines = before_first (all_layers_rules graph b.depth b.layers)
    (keeping_lines graph b.depth b.layers b.rows) in
    let past = c.layers-test.false in
    let low = c.layers.auto.i-end in
    c.check_behind.ensures
    ∙ ap (λ (n : ℕ). first_broken (n + 1) lines) c.layers-2.ensures.len
    ∙ rows_done (layer_rules graph b.depth) lines 1 b.layers c.layers.i (omega arith)
    c.layers.invariant
