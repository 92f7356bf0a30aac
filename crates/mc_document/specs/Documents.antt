-- The kinds of document: which a command takes, what they are about, and their canonical texts.
use Rattle.std.specs.Prelude.{◌≡◌, ℕ, List, [], ◌++◌, Bool, true, false, if◌then◌else◌, IsTrue}
use Rattle.std.specs.Prelude.{Option, None, Some, is_some, option_map, ⊤}
use Rattle.mc_lex.specs.declared.kind.Kind.{Kind}
use Rattle.mc_lex.specs.declared.kind.Kind.TheVariants as kind
use Rattle.mc_model.specs.Derivation.{Use}
use Rattle.mc_model.specs.Graph.{OpenGraph, zero_pattern}
use Rattle.mc_model.specs.Pattern.{Circuit, Pattern}
use Rattle.mc_model.specs.Shift.{ChangeRow, IsChangeOf}
use Rattle.mc_model.specs.Translation.{translation}
use Rattle.mc_text.specs.declared.fault.Fault.{Fault}
use Rattle.mc_text.specs.declared.fault.Fault.TheVariants.{NoKind, KindNotTaken}
use Rattle.mc_text.specs.declared.form.Form.{Form}
use Rattle.mc_text.specs.declared.form.Turning.TheVariants.{Said}
use Rattle.mc_text.specs.Headers.{plain_form}
use Rattle.mc_circuit.specs.Circuits.{IsCircuit}
use Rattle.mc_circuit.specs.Canonical.{circuit_text}
use Rattle.mc_pattern.specs.Patterns.{IsPattern}
use Rattle.mc_pattern_text.specs.Canonical.{pattern_text}
use Rattle.mc_change_text.specs.Canonical.{change_text}
use Rattle.mc_change_text.specs.Changes.{AreSets}
use Rattle.mc_trace_text.specs.Canonical.{trace_text}
use Rattle.mc_trace_text.specs.Traces.{CanBeWritten}
use Rattle.mc_graph.specs.Graphs.{IsGraph}
use Rattle.mc_graph_text.specs.Canonical.{graph_text}
use Rattle.mc_cert_text.specs.Canonical.{cert_text}
use Rattle.mc_cert_text.specs.Certs.{PlainCert, plain_cert, IsCertOf}
use Rattle.mc_gates.specs.Gates.{GateList}
use Rattle.mc_gates.specs.Lists.{IsGateList}
use Rattle.mc_gates.specs.Lowering.{lowered}
use Rattle.mc_gates_text.specs.Canonical.{gates_text}
use Rattle.mc_document.specs.declared.document.Document.{Document}
use Rattle.mc_document.specs.declared.document.Document.TheVariants as code
use Rattle.mc_document.specs.declared.takes.Takes.{Takes}
use Rattle.mc_document.specs.Second.{is_due_behind_pattern}

-- ---- which kinds a document begins with

-- the kinds of document that a command takes: none at all
abbrev pub no_kind : Takes
no_kind = record {
  circuit = false;
  pattern = false;
  graph = false;
  cert = false;
  trace = false;
  two = false;
  gates = false;
}

abbrev pub only_circuits : Takes
only_circuits = record no_kind { circuit = true }

abbrev pub circuits_and_patterns : Takes
circuits_and_patterns = record no_kind { circuit = true; pattern = true }

abbrev pub patterns_and_graphs : Takes
patterns_and_graphs = record no_kind { pattern = true; graph = true }

-- what has a pattern: a circuit that of its translation, a graph the one without a flow
abbrev pub every_source : Takes
every_source = record no_kind { circuit = true; pattern = true; graph = true }

abbrev pub every_kind : Takes
every_kind = record every_source { gates = true }

abbrev pub certified_graphs : Takes
certified_graphs = record no_kind { graph = true; cert = true }

-- what says that something holds: a graph with a certificate, a pattern with a trace
abbrev pub certified_kinds : Takes
certified_kinds = record no_kind { pattern = true; graph = true; cert = true; trace = true }

abbrev pub two_patterns : Takes
two_patterns = record no_kind { pattern = true; two = true }

abbrev pub only_gates : Takes
only_gates = record no_kind { gates = true }

abbrev pub unless_taken : Bool → Option Fault
unless_taken taken = if taken then None else Some KindNotTaken

-- the fault of a header that names this kind: a document begins with a circuit, a pattern, a graph
-- or a list of gates
abbrev pub refused_kind : Takes → Kind → Option Fault
refused_kind takes kind.Circuit = unless_taken takes.circuit
refused_kind takes kind.Pattern = unless_taken takes.pattern
refused_kind takes kind.Graph = unless_taken takes.graph
refused_kind takes kind.Gates = unless_taken takes.gates
refused_kind takes _ = Some NoKind

-- what the header of a first section may say: the step, and of a pattern or a graph both versions
abbrev pub first_form : Kind → Form
first_form kind.Circuit = record { second = false; turning = Said }
first_form kind.Pattern = record { second = true; turning = Said }
first_form kind.Graph = record { second = true; turning = Said }
first_form _ = plain_form

-- ---- what documents are about

-- a circuit; a pattern with or without a change of its outcomes, or with a trace; two patterns, with
-- the line and the column at which the second begins; an open graph with or without a certificate; or
-- a list of gates
pub data PlainDocument : Type 0 where
  circuit : Circuit → PlainDocument
  pattern : Pattern → Option (List ChangeRow) → PlainDocument
  traced : Pattern → List Use → PlainDocument
  two : Pattern → Pattern → ℕ → ℕ → PlainDocument
  graph : OpenGraph → Option PlainCert → PlainDocument
  gates : GateList → PlainDocument

-- a document of the code as what it is about
abbrev pub plain_document : {h : ℕ} → Document h → PlainDocument
plain_document (code.Circuit c) = circuit c
plain_document (code.Pattern p change) = pattern p change
plain_document (code.Traced p uses) = traced p uses
plain_document (code.Two p q line column) = two p q line column
plain_document (code.Graph g cert) = graph g (option_map plain_cert cert)
plain_document (code.Gates g) = gates g

-- the document is of a kind that is taken, and has the second section that is due
abbrev pub IsTaken : Takes → PlainDocument → Type 0
IsTaken takes (circuit c) = takes.circuit ≡ true
IsTaken takes (pattern p change) =
    (takes.pattern ≡ true) × (is_due_behind_pattern takes ≡ false)
IsTaken takes (traced p uses) = (takes.pattern ≡ true) × (takes.two ≡ false)
IsTaken takes (two p q line column) = (takes.pattern ≡ true) × (takes.two ≡ true)
IsTaken takes (graph g cert) =
    (takes.graph ≡ true) × (takes.cert ≡ true → IsTrue (is_some cert))
IsTaken takes (gates g) = takes.gates ≡ true

-- a document as one of a kind, where it is of that kind
abbrev pub circuit_in : PlainDocument → Option Circuit
circuit_in (circuit c) = Some c
circuit_in _ = None

abbrev pub pattern_in : PlainDocument → Option Pattern
pattern_in (pattern p change) = Some p
pattern_in (traced p uses) = Some p
pattern_in _ = None

abbrev pub graph_in : PlainDocument → Option OpenGraph
graph_in (graph g cert) = Some g
graph_in _ = None

-- the certificate of a graph, where there is one
abbrev pub cert_in : PlainDocument → Option PlainCert
cert_in (graph g cert) = cert
cert_in _ = None

-- the uses of rules in the trace behind a pattern, where there is one
abbrev pub traced_in : PlainDocument → Option (List Use)
traced_in (traced p uses) = Some uses
traced_in _ = None

-- two patterns, with the line and the column at which the second begins
abbrev pub two_in : PlainDocument → Option (Pattern × Pattern × ℕ × ℕ)
two_in (two p q line column) = Some (p, q, line, column)
two_in _ = None

abbrev pub gates_in : PlainDocument → Option GateList
gates_in (gates g) = Some g
gates_in _ = None

-- the pattern that a document stands for: a circuit counts as its translation, and a graph as its
-- pattern without a flow; no command that asks for it takes two patterns, which count as the first
-- here, or gates, which count as the circuit that they are lowered to
abbrev pub source_pattern : ℕ → PlainDocument → Pattern
source_pattern half (circuit c) = translation half c
source_pattern half (pattern p change) = p
source_pattern half (traced p uses) = p
source_pattern half (two p q line column) = p
source_pattern half (graph g cert) = zero_pattern g
source_pattern half (gates g) = translation half (lowered g)

-- the change of a pattern's outcomes, where there is one, has a row for each measured qubit, in
-- measuring order, and names in it only qubits that were measured before, in order
abbrev pub IsAnyChangeOf : Pattern → Option (List ChangeRow) → Type 0
IsAnyChangeOf p None = ⊤
IsAnyChangeOf p (Some rows) = IsChangeOf p rows × AreSets rows

-- the certificate, where there is one, can stand behind the graph, whether or not it holds
abbrev pub IsAnyCertOf : OpenGraph → Option PlainCert → Type 0
IsAnyCertOf g None = ⊤
IsAnyCertOf g (Some cert) = IsCertOf g cert

-- the circuit, the pattern or the graph is valid, with angles of so many steps in half a turn, the
-- change is one of the pattern's outcomes, the trace one that can be written, whether or not it
-- leads anywhere, and the certificate is of the graph's vertices
abbrev pub IsDocument : ℕ → PlainDocument → Type 0
IsDocument half (circuit c) = IsCircuit half c
IsDocument half (pattern p change) = IsPattern half p × IsAnyChangeOf p change
IsDocument half (traced p uses) = IsPattern half p × CanBeWritten uses
IsDocument half (two p q line column) = IsPattern half p × IsPattern half q
IsDocument half (graph g cert) = IsGraph half g × IsAnyCertOf g cert
IsDocument half (gates g) = IsGateList g

-- ---- their canonical texts

-- the canonical text of what stands behind a pattern or a graph
abbrev pub change_behind : Pattern → Option (List ChangeRow) → List ℕ
change_behind p None = []
change_behind p (Some rows) = change_text p rows

abbrev pub cert_behind : OpenGraph → Option PlainCert → List ℕ
cert_behind g None = []
cert_behind g (Some cert) = cert_text g.names cert

-- the canonical text of a document with angles of so many steps in half a turn, one section behind
-- the other; that of two patterns says nothing of places
abbrev pub document_text : ℕ → PlainDocument → List ℕ
document_text half (circuit c) = circuit_text half c
document_text half (pattern p change) = pattern_text half p ++ change_behind p change
document_text half (traced p uses) = pattern_text half p ++ trace_text uses
document_text half (two p q line column) = pattern_text half p ++ pattern_text half q
document_text half (graph g cert) = graph_text half g ++ cert_behind g cert
document_text half (gates g) = gates_text g
