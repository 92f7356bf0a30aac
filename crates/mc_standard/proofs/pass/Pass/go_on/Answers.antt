use Rattle.std.proofs.lemmas.List.{map-append}
use Rattle.mc_standard.proofs.RunningPass.{on_prep, on_ent, on_meas, on_x, on_z}
use Rattle.mc_standard.proofs.pass.Pass.go_on.Goals as goal

pub returns-in_ok-append-in-Prep-clause-leads : goal.returns-in_ok-append-in-Prep-clause-leads
returns-in_ok-append-in-Prep-clause-leads g c =
    rw (c.in-Prep.is, c.in_ok-append-in-Prep.ensures, map-append)
    (λ rest whole h. on_prep _ _ _ _ _ rest whole c.in-Prep.q h)

pub returns-in-Ent-clause-leads : goal.returns-in-Ent-clause-leads
returns-in-Ent-clause-leads g c =
    rw (c.in-Ent.is, c.hand_on.ensures.handed, c.as_slice.ensures.value)
    (λ rest whole h.
    on_ent _ _ _ _ _ _ rest whole c.in-Ent.q c.in-Ent.r c.toggle.ensures.counted h)

pub returns-in_ok-append-in-Meas-clause-leads : goal.returns-in_ok-append-in-Meas-clause-leads
returns-in_ok-append-in-Meas-clause-leads g c =
    rw (
      c.in-Meas.is,
      c.in_ok-append-in-Meas.ensures,
      map-append,
      c.in_ok-s-in-Meas.ensures.sum,
      c.in_ok-t-in-Meas.ensures.sum,
      c.in_ok-s-in-Meas.ensures.rest,
      c.in_ok-t-in-Meas.ensures.rest,
    )
    (λ rest whole h.
    on_meas _ _ _ _ _ rest whole c.in-Meas.q c.in-Meas.angle c.in-Meas.s c.in-Meas.t h)

pub returns-in-FixX-clause-leads : goal.returns-in-FixX-clause-leads
returns-in-FixX-clause-leads g c =
    rw (c.in-FixX.is, c.add.ensures.sum)
    (λ rest whole h. on_x _ _ _ _ _ rest whole c.in-FixX.q c.in-FixX.s h)

pub returns-in-FixZ-clause-leads : goal.returns-in-FixZ-clause-leads
returns-in-FixZ-clause-leads g c =
    rw (c.in-FixZ.is, c.add-in-FixZ.ensures.sum)
    (λ rest whole h. on_z _ _ _ _ _ rest whole c.in-FixZ.q c.in-FixZ.s h)
