use Rattle.std.proofs.Common.{◌∙◌, ap, refl, arith}
use Rattle.mc_model.specs.Pattern.{Circuit}
use Rattle.mc_model.specs.Ring.{ring}
use Rattle.mc_model.specs.Amplitude.{circuit_table}
use Rattle.mc_model.proofs.RingLemmas.{ring_laws}
use Rattle.mc_gates.proofs.Lowered.{lowering_keeps_table}
use Rattle.mc_gates.proofs.lowering.lower.Goals as goal

pub returns-in-Ok-clause-table : goal.returns-in-Ok-clause-table
returns-in-Ok-clause-table c = λ y b.
    ap (λ (circuit : Circuit). circuit_table (ring 4) circuit y b) c.in-Ok.ensures
    ∙ lowering_keeps_table (ring 4) (ring_laws 4 (omega arith)) refl c.args.g.now
    c.names-list.ensures.valid.valid y b
