use Rattle.std.proofs.Common.{arith, length}
use Rattle.mc_graph.proofs.Lent.{come_back}
use Rattle.mc_graph.proofs.PatternSums.{no_sums, settled_sums}
use Rattle.mc_graph.proofs.sums.labels_of.Goals as goal

pub take_all-requires : goal.take_all-requires
take_all-requires g c = (
  omega arith,
  (
    omega arith,
    rw (
      c.deref_mut.ensures.value,
      c.in-Ok.ensures.items_if_clones_equal (λ y e. e),
      c.len.ensures.len,
      c.names.ensures.names,
    ) (no_sums _ (length c.args.p.now.names)),
  ),
)

pub returns : goal.returns
returns g c =
    let p = c.args.p.now in
    let long = c.take_all.auto.labels in
    let lent = c.deref_mut.ensures.value in
    rw (
      c.in_ok-labels.ensures,
      c.deref.ensures.value,
      come_back c.in-Ok.sums.items c.take_all.new.labels _ c.in-Ok.sums.ok.0 (rw lent at long),
    )
    (settled_sums (length p.names) p.commands c.take_all.new.labels c.take_all.ensures)
