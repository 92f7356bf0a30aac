use Rattle.std.proofs.Common.{◌≡◌, drop}
use Rattle.std.specs.Prelude.{not}
use Rattle.std.specs.List.{list_any}
use Rattle.mc_model.specs.Bits.{Bits}
use Rattle.mc_graph.specs.Refuters.{refuted_in}
use Rattle.mc_cert.proofs.refuter.has_outsider.Given as goal

abbrev pub invariant-members : goal.invariant-members
invariant-members l =
    let p : Bits = λ v. not (refuted_in l.r v) in
    list_any p (drop l.i l.set) ≡ list_any p l.set
