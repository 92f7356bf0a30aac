-- What is kept before the first line.
use Rattle.std.proofs.Common.{◌≡◌, ℕ, [], refl}
use Rattle.std.specs.List.{IsDistinct}
use Rattle.mc_model.specs.Numbers.{pairs_below}
use Rattle.mc_graph.specs.Building.{begun}
use Rattle.mc_graph_text.specs.declared.reader.Reader.{Reader}
use Rattle.mc_graph_text.specs.Kept.{IsKept}

pub starts : {half : ℕ} (k : Reader half) → k.graph ≡ begun [] → k.inputs ≡ 0
    → k.outputs.items ≡ [] → IsKept k [] []
unfolding IsDistinct pairs_below
starts {half} k graph inputs outputs = record {
  graph = graph;
  inputs = inputs;
  outputs = rw outputs (record { held = refl; numbers_are = refl });
  sound = record {
    ends = refl;
    other_ends = refl;
    angled_held = refl;
    xs_held = refl;
    zs_held = refl;
    outputs = tt;
    outputs_still = refl;
    xs_still = refl;
    zs_still = refl;
  };
  first = λ gate a is. absurd (cc is);
  free = λ gate two. absurd (cc gate);
  order = refl;
  unlisted = λ unclosed. record { outputs = refl; xs = refl; zs = refl };
  complete = λ closed. absurd (cc closed);
}
