use Rattle.std.proofs.Common.{refl, sym, ◌∙◌, ap, ◌∷◌, ◌++◌, [], List, length, arith}
use Rattle.std.proofs.lemmas.List.{length-take-le}
use Rattle.mc_model.specs.Names.{Name}
use Rattle.mc_translate.proofs.FreeNames.{new_name, take_next}
use Rattle.mc_translate.proofs.wires.first_names.Goals as goal

pub names-preserved : goal.names-preserved
names-preserved c =
    c.in-Ok.ensures.added
    ∙ ap (λ (names : List Name). names ++ (c.name.result ∷ [])) c.names.invariant
    ∙ sym (take_next c.args.names.now c.names.number c.name.result c.name.ensures)

pub unreachable-requires : goal.unreachable-requires
unreachable-requires c =
    let all = c.args.names.now in
    let new =
    new_name all c.names.number c.name.result c.len-count.ensures.names.distinct c.name.ensures in
    let refused = rw c.in-Err-Twice.field-0-is at c.in-Err-Twice.ensures in
    let held = (refused.twice c.in-Err-Twice.field-0-0).0 refl in
    absurd (cc (rw c.names.invariant at held, new))

pub unreachable-requires-in-Err-Full : goal.unreachable-requires-in-Err-Full
unreachable-requires-in-Err-Full c =
    let few = c.len-count.ensures.names.few in
    let short = length-take-le c.names.number c.args.names.now (omega arith) in
    let size = ap length c.names.invariant in
    let refused = rw c.in-Err-Full.field-0-is at c.in-Err-Full.ensures in
    let full = (refused.full.0 refl).1 in
    absurd (omega arith)
