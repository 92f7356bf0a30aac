use Rattle.std.proofs.Common.{◌≡◌, drop}
use Rattle.std.specs.Prelude.{fold, map, max}
use Rattle.mc_cert.proofs.flow.greatest_layer.Given as goal

abbrev pub invariant-rows : goal.invariant-rows
invariant-rows l =
    fold max l.most (map (λ r. r.layer) (drop l.i l.f.rows))
    ≡ fold max 0 (map (λ r. r.layer) l.f.rows)
