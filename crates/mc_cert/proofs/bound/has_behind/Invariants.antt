use Rattle.std.proofs.Common.{◌≡◌, drop}
use Rattle.std.specs.List.{list_any}
use Rattle.mc_cert.specs.BoundRules.{is_behind}
use Rattle.mc_cert.proofs.bound.has_behind.Given as goal

abbrev pub invariant-members : goal.invariant-members
invariant-members g l =
    let p = is_behind l.g l.b.layers l.k in
    list_any p (drop l.i l.set) ≡ list_any p l.set
