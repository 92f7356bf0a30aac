use Rattle.std.proofs.Common.{◌∙◌, ap, sym, drop, ◌∷◌, ◌+◌, ◌<◌, ℕ}
use Rattle.std.proofs.Common.{true, false, arith}
use Rattle.std.specs.Prelude.{slice_index_or, slice_set, unwrap_or}
use Rattle.mc_model.specs.Phase.{negated}
use Rattle.mc_model.specs.Pattern.{J}
use Rattle.mc_model.specs.Graph.{base_angle, size}
use mathlib.Core.Path.{subst}
use Rattle.mc_extract.specs.Chains.{number_at}
use Rattle.mc_extract.specs.Written.{with_gates, row_gates}
use Rattle.mc_extract.proofs.GateLists.{extracting_at_first, one_extracted}
use Rattle.mc_extract.proofs.GateLists.{all_extracted, drop_one, drop_none, both_vertices, long_wires}
use Rattle.mc_extract.proofs.gates.push_all_measured.Goals as goal

pub order-init : goal.order-init
order-init g c =
    extracting_at_first g.row.H c.args.g.now c.args.next.now c.args.order.now c.args.wires.now
    c.args.current.now c.args.circuit.now c.requires

pub order-preserved : goal.order-preserved
order-preserved g c =
    let i : ℕ = slice_index_or c.args.order.now c.order.i-index 0 in
    one_extracted g.row.H c.args.g.now (number_at c.args.next.now) c.args.wires.now
    c.requires.wires_are c.args.order.now (drop (c.order.i-index + 1) c.args.order.now) i
    c.order.current c.push_measured.new.current c.args.circuit.now c.order.circuit
    (drop_one c.args.order.now c.order.i-index c.order-test.true c.order.invariant)
    (c.in_ok-push_measured.ensures.current
    ∙ ap (λ (n : ℕ). slice_set (slice_set c.order.current i false) n true) c.number_of.ensures)
    {after = c.push_measured.new.circuit}
    (c.in_ok-push_measured.ensures.gates
    ∙ ap (λ (n : ℕ). with_gates c.order.circuit
    (J (number_at c.args.wires.now i)
    (negated g.row.H (unwrap_or (base_angle c.args.g.now i) 0))
    ∷ row_gates c.args.g.now c.args.wires.now c.push_measured.new.current 0 n))
    c.number_of.ensures)

pub returns : goal.returns
returns g c =
    all_extracted g.row.H c.args.g.now (number_at c.args.next.now) c.args.order.now c.order.current
    c.args.circuit.now c.order.circuit
    (drop_none c.args.order.now c.order.i-index c.order-test.false c.order.invariant)

pub push_measured-requires : goal.push_measured-requires
push_measured-requires g c =
    let i : ℕ = slice_index_or c.args.order.now c.order.i-index 0 in
    let both = both_vertices {rest = drop (c.order.i-index + 1) c.args.order.now} {i = i}
    (drop_one c.args.order.now c.order.i-index c.order-test.true c.order.invariant) in (
      omega arith,
      (
        omega arith,
        (
          (both.0, subst (λ (n : ℕ). n < size c.args.g.now) (sym c.number_of.ensures) (both.1)),
          (
            long_wires c.args.g.now c.args.next.now c.args.order.now c.args.wires.now
                c.args.current.now c.requires,
            c.order.invariant.long,
          ),
        ),
      ),
    )
