use Rattle.std.proofs.Common.{◌≡◌, drop}
use Rattle.std.specs.List.{list_any}
use Rattle.mc_model.specs.Graph.{is_input}
use Rattle.mc_cert.proofs.odd.has_input.Given as goal

abbrev pub invariant-members : goal.invariant-members
invariant-members g l =
    let p = is_input l.g in
    list_any p (drop l.i l.set) ≡ list_any p l.set
