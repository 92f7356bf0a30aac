-- A graph with a certificate, as a document has it.
use Rattle.std.proofs.Common.{◌≡◌, ℕ, Some, None, refl, subst}
use Rattle.mc_model.specs.Graph.{OpenGraph}
use Rattle.mc_cert_text.specs.Certs.{PlainCert, IsCertOf}
use Rattle.mc_document.specs.Documents.{IsDocument, PlainDocument, cert_in, graph, graph_in}
use Rattle.mc_top.specs.Check.{certified_in}

pub certified_is : (d : PlainDocument) (g : OpenGraph) (cert : PlainCert) → graph_in d ≡ Some g →
    cert_in d ≡ Some cert → certified_in d ≡ Some (g, cert)
certified_is d g cert found behind = rw (found, behind) refl

pub certified_fits : (half : ℕ) (d : PlainDocument) (g : OpenGraph) (cert : PlainCert) →
    IsDocument half d → graph_in d ≡ Some g → cert_in d ≡ Some cert → IsCertOf g cert
certified_fits half (graph h None) g cert valid found behind = absurd (cc behind)
certified_fits half (graph h (Some c)) g cert valid found behind =
    let e : h ≡ g = cc found in
    let f : c ≡ cert = cc behind in
    subst (IsCertOf g) f (subst (λ (x : OpenGraph). IsCertOf x c) e valid.1)
certified_fits half _ g cert valid found behind = absurd (cc found)
