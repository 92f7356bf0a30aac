use Rattle.std.proofs.Common.{◌≡◌, false, refl, arith, length, ap, ◌∙◌}
use Rattle.mc_model.specs.Names.{is_held, fresh_name}
use Rattle.mc_names.proofs.FreshNames.{fresh_is_fresh}
use Rattle.mc_translate.proofs.FreeNames.{free_place}
use Rattle.mc_translate.proofs.Fits.{ent_fits, meas_fits, fix_fits, room_two, room_three, room_four}
use Rattle.mc_translate.proofs.gates.push_j.Goals as goal

pub prep_free-requires : goal.prep_free-requires
prep_free-requires g c =
    let p = c.args.builder.now in
    let few = c.requires.names in
    let held : is_held p.names c.fresh-name.result ≡ false =
    ap (is_held p.names) (c.fresh-name.ensures ∙ ap fresh_name c.names.ensures.names)
    ∙ (fresh_is_fresh p.names (omega arith)).3 in (
      omega arith,
      record {
        new = free_place p.names c.fresh-name.result held;
        few = c.requires.names;
        room = omega arith;
      },
    )

pub push_fitting-requires : goal.push_fitting-requires
push_fitting-requires g c =
    let p = c.args.builder.now in
    let size = c.names.ensures.valid.qubits in
    let fits =
    ent_fits p.inputs c.args.q (length p.names) p.commands c.requires.qubit size
    c.requires.unborn in
    let room = room_two p.commands _ c.requires.commands in
    rw (c.in_ok-next.ensures.added, c.in_ok-next.ensures.number)
    (omega arith, (omega arith, (refl, (fits, room))))

pub push_fitting-requires-2 : goal.push_fitting-requires-2
push_fitting-requires-2 g c =
    let p = c.args.builder.now in
    let size = c.names.ensures.valid.qubits in
    let fits =
    meas_fits p.inputs c.args.q (length p.names) 0 p.commands c.requires.qubit size
    c.requires.unborn in
    let room = room_three p.commands _ _ c.requires.commands in
    rw (
      c.in_ok-push_fitting.ensures.added,
      c.in_ok-next.ensures.added,
      c.in_ok-next.ensures.number,
      c.empty.ensures,
      c.empty-2.ensures,
    )
    (omega arith, (omega arith, (refl, (fits, room))))

pub push_fitting-requires-3 : goal.push_fitting-requires-3
push_fitting-requires-3 g c =
    let p = c.args.builder.now in
    let size = c.names.ensures.valid.qubits in
    let fits =
    fix_fits p.inputs c.args.q (length p.names) _ _ _ p.commands c.requires.qubit size
    c.requires.unborn in
    let room = room_four p.commands _ _ _ c.requires.commands in
    rw (
      c.in_ok-push_fitting-2.ensures.added,
      c.in_ok-push_fitting.ensures.added,
      c.in_ok-next.ensures.added,
      c.in_ok-next.ensures.number,
      c.in_ok-signal_of.ensures,
    )
    (omega arith, (omega arith, (refl, (fits, room))))
