use Rattle.mc_document.proofs.ByKind.{AreRead, all_clean, all_spelled, all_stepped, two_spelled}
use Rattle.mc_document.proofs.GateDocuments.{gates_stepped}
use Rattle.mc_document.proofs.laws.canonical_texts_are_read.Goals as goal

pub returns : goal.returns
returns g c =
    let circuits = c.canonical_texts_are_read.ensures in
    let patterns = c.canonical_texts_are_read-2.ensures in
    let changes = c.change_texts_are_read.ensures in
    let traces = c.trace_texts_are_read.ensures in
    let graphs = c.canonical_texts_are_read-3.ensures in
    let certs = c.cert_texts_are_read.ensures in
    let lists = c.gate_texts_are_read.ensures in
    let known : AreRead g.row.H =
    record {
      circuits = λ x h. record {
        clean = circuits.clean x h;
        whole = circuits.whole x h;
        same = circuits.same x h;
      };
      patterns = λ p h. record {
        clean = patterns.clean p h;
        whole = patterns.whole p h;
        same = patterns.same p h;
      };
      changes = λ p rows h fits sets. record {
        clean = changes.clean p rows _ h.valid fits sets;
        whole = changes.whole p rows h.valid fits sets;
        same = changes.same p rows h.valid fits sets;
      };
      traces = λ uses h. record {
        clean = traces.clean uses _ h;
        whole = traces.whole uses h;
        same = traces.same uses h;
      };
      graphs = λ x h. record {
        clean = graphs.clean x h;
        whole = graphs.whole x h;
        same = graphs.same x h;
      };
      certs = λ x cert h fits. record {
        clean = certs.clean x cert _ h.open_graph fits;
        whole = certs.whole x cert h.open_graph fits;
        same = certs.same x cert h.open_graph fits;
      };
      gates = λ x h. record {
        clean = lists.clean x h;
        whole = lists.whole x h;
        same = lists.same x h;
      };
    } in
    record {
      clean = all_clean g.row.H c.requires known;
      same = all_spelled g.row.H c.requires known;
      two = λ p q line column h. two_spelled g.row.H c.requires known p q h.0 h.1;
      step = λ d h none. all_stepped g.row.H c.requires d none;
      eighths = gates_stepped g.row.H;
    }
