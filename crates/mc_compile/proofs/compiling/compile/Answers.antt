use Rattle.std.proofs.Common.{◌≡◌, ap, arith, Result, Ok, Err}
use Rattle.mc_compile.proofs.compiling.compile.Goals as goal

abbrev with_end : {A B E : Type 0} → E → Result A E → Result B E
with_end x (Ok a) = Err x
with_end x (Err y) = Err y

-- an end is the same in results of other values
other_result : {A B E : Type 0} (x y : E) → ◌≡◌ {A = Result A E} (Err x) (Err y) →
    ◌≡◌ {A = Result B E} (Err x) (Err y)
other_result {A} {B} {E} x y e = ap (λ (r : Result A E). with_end {A = A} {B = B} x r) e

pub remade-requires : goal.remade-requires
remade-requires g c =
    let valid = c.names-names.ensures.valid.valid in
    let flow = c.translations_have_flows.ensures g.row.H c.args.circuit.now valid in
    (omega arith, (omega arith, rw c.in-Ok.ensures.pattern (λ none. none flow.0 flow.1 flow.2)))

pub returns-clause-limit : goal.returns-clause-limit
returns-clause-limit g c = λ n.
    let told = c.in-Err.ensures.limit n in
    (λ e. told.0 (other_result _ _ e), λ h. other_result _ _ (told.1 h))
