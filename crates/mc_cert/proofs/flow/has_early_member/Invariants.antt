use Rattle.std.proofs.Common.{◌≡◌, drop}
use Rattle.std.specs.List.{list_any}
use Rattle.mc_cert.specs.FlowRules.{is_too_early}
use Rattle.mc_cert.proofs.flow.has_early_member.Given as goal

abbrev pub invariant-members : goal.invariant-members
invariant-members g l =
    let p =
    is_too_early l.g l.f.rows (record { vertex = l.vertex; layer = l.layer; set = l.set }) in
    list_any p (drop l.i l.set) ≡ list_any p l.set
