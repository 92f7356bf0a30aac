use Rattle.std.proofs.Common.{◌<◌, length, refl, arith}
use Rattle.std.proofs.lemmas.List.{length-map}
use Rattle.mc_pattern.specs.Commands.{plain_command}
use Rattle.mc_derivations.proofs.CutLists.{same_more, same_all, differ_at, read_mapped}
use Rattle.mc_trace.proofs.same.are_same.Goals as goal

pub commands-init : goal.commands-init
commands-init g c = refl

pub returns-then-not-is_same : goal.returns-then-not-is_same
returns-then-not-is_same g c =
    let plain = plain_command {h = g.row.H} in
    let long = c.if-cs-ds.false in
    let within = c.commands-test.true in
    let there : c.commands.i < length c.args.ds.now = omega arith in
    differ_at _ _ c.commands.i (plain c.index-cs-i.result) (plain c.index-ds-i.result)
    (read_mapped plain c.args.cs.now c.commands.i c.index-cs-i.result within c.index-cs-i.is)
    (read_mapped plain c.args.ds.now c.commands.i c.index-ds-i.result there c.index-ds-i.is)
    c.if-not-is_same.ensures

pub commands-preserved : goal.commands-preserved
commands-preserved g c =
    let plain = plain_command {h = g.row.H} in
    let long = c.if-cs-ds.false in
    let within = c.commands-test.true in
    let there : c.commands.i < length c.args.ds.now = omega arith in
    same_more _ _ c.commands.i (plain c.index-cs-i.result) (plain c.index-ds-i.result)
    (read_mapped plain c.args.cs.now c.commands.i c.index-cs-i.result within c.index-cs-i.is)
    (read_mapped plain c.args.ds.now c.commands.i c.index-ds-i.result there c.index-ds-i.is)
    c.if-not-is_same.ensures c.commands.invariant

pub returns : goal.returns
returns g c =
    let long = c.if-cs-ds.false in
    let end = c.commands-test.false in
    same_all _ _ c.commands.i (rw length-map (omega arith)) (rw (length-map, length-map) long)
    c.commands.invariant
