-- Certificates as what they are about, and those that fit a graph.
use Rattle.std.specs.Prelude.{ℕ, ◌<◌, ◌≤◌, List, All, ⊤}
use Rattle.mc_lex.specs.declared.kind.Kind.{Kind}
use Rattle.mc_lex.specs.declared.kind.Kind.TheVariants as kind
use Rattle.mc_model.specs.Graph.{OpenGraph, size}
use Rattle.mc_model.specs.Signals.{IsRising}
use Rattle.mc_graph.specs.RowLists.{HaveOwnVertices}
use Rattle.mc_graph.specs.Flows.{FlowRows, AreFlowLines}
use Rattle.mc_graph.specs.Refuters.{RefuterLine, AreRefuterLines}
use Rattle.mc_cert.specs.Bounds.{BoundRows, AreOwn, IsBoundIn}
use Rattle.mc_cert_text.specs.declared.cert.Cert.{Cert}
use Rattle.mc_cert_text.specs.declared.cert.Cert.TheVariants as code

-- the rows of a flow and its depth, the rows of a refuter, a stuck set, or a bound of depth
pub data PlainCert : Type 0 where
  flow : FlowRows → PlainCert
  noflow : List RefuterLine → PlainCert
  nocausal : List ℕ → PlainCert
  least : BoundRows → PlainCert

-- a certificate of the code as what it is about
abbrev pub plain_cert : Cert → PlainCert
plain_cert (code.Flow f) = flow f
plain_cert (code.NoFlow r) = noflow r
plain_cert (code.NoCausal s) = nocausal s
plain_cert (code.Least b) = least b

-- the kind of section that it is written as
abbrev pub kind_of_cert : PlainCert → Kind
kind_of_cert (flow f) = kind.Flow
kind_of_cert (noflow rows) = kind.NoFlow
kind_of_cert (nocausal set) = kind.NoCausal
kind_of_cert (least b) = kind.Least

-- the vertices and the members of its sets are vertices of the graph; a bound has no more rows than
-- numbers for them
abbrev pub IsCertIn : OpenGraph → PlainCert → Type 0
IsCertIn g (flow f) = AreFlowLines g f.rows
IsCertIn g (noflow rows) = AreRefuterLines g rows
IsCertIn g (nocausal set) = All (λ v. v < size g) set
IsCertIn g (least b) = IsBoundIn g b

-- the numbers of a bound have at most four digits
pub record HasShortBound (b : BoundRows) : Type 0 where
  pub depth : b.depth ≤ 9999
  pub layers : All (λ r. r.layer ≤ 9999) b.layers
  pub rows : All (λ r. r.k ≤ 9999) b.rows

-- its numbers have at most four digits
abbrev pub HasShortNumbers : PlainCert → Type 0
HasShortNumbers (flow f) = (f.depth ≤ 9999) × All (λ r. r.layer ≤ 9999) f.rows
HasShortNumbers (noflow rows) = ⊤
HasShortNumbers (nocausal set) = ⊤
HasShortNumbers (least b) = HasShortBound b

-- no vertex has two rows, in a bound none of the same kind and layer
abbrev pub HasApartRows : PlainCert → Type 0
HasApartRows (flow f) = HaveOwnVertices (λ r. r.vertex) f.rows
HasApartRows (noflow rows) = HaveOwnVertices (λ r. r.vertex) rows
HasApartRows (nocausal set) = ⊤
HasApartRows (least b) = AreOwn b.layers b.rows

-- its rows are apart, and each set lists its members by rising number
abbrev pub HasOwnRows : PlainCert → Type 0
HasOwnRows (flow f) = HaveOwnVertices (λ r. r.vertex) f.rows × All (λ r. IsRising r.set) f.rows
HasOwnRows (noflow rows) = HaveOwnVertices (λ r. r.vertex) rows × All (λ r. IsRising r.set) rows
HasOwnRows (nocausal set) = IsRising set
HasOwnRows (least b) = AreOwn b.layers b.rows × All (λ r. IsRising r.set) b.rows

-- the certificate can stand behind the graph, whether or not it holds
pub record IsCertOf (g : OpenGraph) (cert : PlainCert) : Type 0 where
  pub inside : IsCertIn g cert
  pub numbers : HasShortNumbers cert
  pub own : HasOwnRows cert
