-- What is due for a list of gates, and what is given.
use Rattle.std.proofs.Common.{◌≡◌, ℕ, ◌<◌, ◌≤◌, true, false, nat_lt, Some, None, Result, refl}
use Rattle.std.proofs.Common.{subst, ap, ◌∙◌, arith, Bool}
use Rattle.std.proofs.lemmas.Bool.Decides.{nat_tests}
use Rattle.mc_lex.specs.declared.end.TextEnd.{TextEnd}
use Rattle.mc_lex.specs.declared.end.TextEnd.TheVariants as end
use Rattle.mc_model.specs.Pattern.{Circuit}
use Rattle.mc_model.specs.Ring.{Element, ring}
use Rattle.mc_circuit.specs.Canonical.{circuit_text}
use Rattle.mc_gates.specs.Gates.{GateList, gate_table}
use Rattle.mc_gates.specs.Laws.{LoweringKeepsTable, DoublingsArePowers, LoweringKeepsScale}
use Rattle.mc_gates.specs.Laws.{LoweredCircuitsAreHeld}
use Rattle.mc_gates.specs.Lists.{IsGateList}
use Rattle.mc_gates.specs.Lowering.{lowered, lowered_count, doubling_count}
use Rattle.mc_top.specs.declared.answer.Answer.{Answer}
use Rattle.mc_top.specs.Due.{Gives, holding}
use Rattle.mc_top.specs.Lower.{HasGateTable, due_lowering, lowering_limit}

-- more gates than a circuit may have
pub lowering_past : (g : GateList) (gates : ℕ) → (gates ≡ lowered_count g.ops) × (32768 < gates)
    → lowering_limit g ≡ Some (end.Limit 3 gates)
lowering_past g gates (counted, past) =
    let t : nat_lt 32768 (lowered_count g.ops) ≡ true = grind (arith, nat_tests) in
    rw (t, counted) refl

lowering_within : (g : GateList) → lowering_limit g ≡ None → lowered_count g.ops ≤ 32768
lowering_within g none = by_test (nat_lt 32768 (lowered_count g.ops)) refl none
  where
    by_test : (t : Bool) → nat_lt 32768 (lowered_count g.ops) ≡ t → lowering_limit g ≡ None
        → lowered_count g.ops ≤ 32768
    by_test true e none = let none' = rw e at none in absurd (cc none')
    by_test false e none = grind (arith, nat_tests)

-- what is given for the lowered circuit is due for the list
pub lowered_gives : (g : GateList) (c : Circuit) (given : Result Answer TextEnd) → c ≡ lowered g
    → lowering_limit g ≡ None → Gives given (holding (circuit_text 4 c))
    → Gives given (due_lowering g)
lowered_gives g c given same few h =
    rw few (subst (λ (made : Circuit). Gives given (holding (circuit_text 4 made))) same h)

pub has_gate_table : LoweringKeepsTable → DoublingsArePowers → LoweringKeepsScale
    → LoweredCircuitsAreHeld → (g : GateList) → IsGateList g → lowering_limit g ≡ None
    → HasGateTable g
has_gate_table table powers scale held g valid few = record {
  valid = held g valid.valid (lowering_within g few);
  table = λ y b.
      ap (λ (x : Element 4). x.coefficients) (table g valid.valid y b)
      ∙ powers 4 (doubling_count g.ops) (gate_table (ring 4) g y b);
  scale = scale g;
}
