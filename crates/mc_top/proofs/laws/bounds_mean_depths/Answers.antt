use Rattle.mc_graph.specs.Refuters.{refuted_in, refuting_in}
use Rattle.mc_cert.specs.BoundRules.{stated_in, keeping_in}
use Rattle.mc_top.proofs.laws.bounds_mean_depths.Goals as goal

pub returns-clause-bounds : goal.returns-clause-bounds
returns-clause-bounds c g b h sets layer flow =
    (c.depth_bounds_hold.ensures g b.depth (stated_in b.layers) (keeping_in b.rows) h.bound sets
    layer flow).1

pub returns-clause-means : goal.returns-clause-means
returns-clause-means c g = record {
  chosen = λ f b h. (h.holds, returns-clause-bounds c g b h.holds);
  refuters = λ rows h sets layer flow.
      c.refuters_exclude_flows.ensures g (refuted_in rows) (refuting_in rows) h sets layer flow;
}
