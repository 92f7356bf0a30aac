use Rattle.std.proofs.Common.{ap, length, ◌∙◌, arith}
use Rattle.mc_translate.proofs.FirstWires.{first_none, first_free, first_next, first_all}
use Rattle.mc_translate.proofs.wires.with_wires.Goals as goal

pub wires-init : goal.wires-init
wires-init g c =
    let fits = c.names-names.ensures.valid.valid.inputs in
    let names = ap length c.names-names.ensures.names in
    let inputs = c.inputs-inputs.ensures in
    rw (c.in_ok-builder.ensures, c.in_ok-first_names.ensures)
    (first_none c.names-names.result.now c.inputs-inputs.result (omega arith))

pub prep_free-requires : goal.prep_free-requires
prep_free-requires g c =
    let names = c.len-v-end.ensures.names in (
      omega arith,
      rw c.wires.invariant
          (first_free c.names-names.result.now c.inputs-inputs.result c.wires.v c.name.result
          names.distinct names.few c.name.ensures),
    )

pub wires-preserved : goal.wires-preserved
wires-preserved g c =
    rw (c.in_ok-prep_free.ensures.added, c.wires.invariant)
    (first_next c.names-names.result.now c.inputs-inputs.result c.wires.v c.name.result
    c.wires.auto.v c.name.ensures)

pub returns : goal.returns
returns g c =
    let fits = c.names-names.ensures.valid.valid.inputs in
    let names = ap length c.names-names.ensures.names in
    let inputs = c.inputs-inputs.ensures in
    let count = c.len-v-end.ensures.len in
    let past = c.wires-test.false in
    let upto = c.wires.auto.v-end (omega arith) in
    rw (← c.names-names.ensures.names, ← c.inputs-inputs.ensures)
    (c.wires.invariant
    ∙ first_all c.names-names.result.now c.inputs-inputs.result c.wires.v (omega arith))
