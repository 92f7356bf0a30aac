-- The sections of a text: its first fault or limit, and the document that it spells.
use Rattle.std.specs.Prelude.{ℕ, List, [], ◌∷◌, Bool, Option, None, Some, ⊤, unwrap_or}
use Rattle.mc_lex.specs.declared.kind.Kind.{Kind}
use Rattle.mc_lex.specs.declared.kind.Kind.TheVariants.{Circuit, Pattern, Graph, Change, Trace, Gates}
use Rattle.mc_lex.specs.Lines.{Line, lines_of, end_of}
use Rattle.mc_model.specs.Graph.{OpenGraph}
use Rattle.mc_model.specs.Pattern as plain
use Rattle.mc_text.specs.declared.fault.Fault.TheVariants.{NoKind}
use Rattle.mc_text.specs.Judged.{Judgement, fault, Place, Lines, Rules, or_later, words_of}
use Rattle.mc_text.specs.Judged.{first_in_section, section_lines, behind_section}
use Rattle.mc_text.specs.Headers.{first_in_header, kind_in, plain_forms, version_in}
use Rattle.mc_circuit.specs.Judge.{circuit_rules}
use Rattle.mc_circuit.specs.Value.{circuit_of}
use Rattle.mc_pattern_text.specs.Judge.{pattern_rules}
use Rattle.mc_pattern_text.specs.Value.{pattern_of}
use Rattle.mc_change_text.specs.Kinds.{change_rules, rows_of}
use Rattle.mc_trace_text.specs.Traces.{trace_rules, uses_in}
use Rattle.mc_graph_text.specs.Judge.{graph_rules}
use Rattle.mc_graph_text.specs.Value.{graph_in}
use Rattle.mc_cert_text.specs.Certs.{PlainCert}
use Rattle.mc_cert_text.specs.Kinds.{cert_in, cert_rules}
use Rattle.mc_gates_text.specs.Judge.{gates_rules}
use Rattle.mc_gates_text.specs.Value.{gate_list_of}
use Rattle.mc_document.specs.declared.takes.Takes.{Takes}
use Rattle.mc_document.specs.Documents.{PlainDocument, circuit, pattern, traced, two, graph, gates}
use Rattle.mc_document.specs.Documents.{first_form, refused_kind}
use Rattle.mc_document.specs.Second.{Second, first_behind, first_behind_first, spelled_second}
use Rattle.mc_document.specs.Second.{form_behind_pattern, is_due_behind_pattern}
use Rattle.mc_document.specs.Second.{refused_behind_graph, refused_behind_pattern}

-- how the lines behind a pattern are judged, by their kind and version
abbrev pub rules_behind_pattern : plain.Pattern → Kind → ℕ → Rules
rules_behind_pattern p Change version = change_rules version p
rules_behind_pattern p Trace version = trace_rules
rules_behind_pattern p _ version = pattern_rules version

-- behind a pattern a change of its outcomes or a trace may stand, or what is due
abbrev pub behind_pattern : ℕ → Takes → plain.Pattern → Second
behind_pattern half takes p = record {
  due = is_due_behind_pattern takes;
  refused = refused_behind_pattern takes;
  form = form_behind_pattern half;
  rules = rules_behind_pattern p;
}

-- behind a graph a certificate may stand, and must where one is due
abbrev pub behind_graph : Bool → OpenGraph → Second
behind_graph due g = record {
  due = due;
  refused = refused_behind_graph;
  form = plain_forms;
  rules = λ kind version. cert_rules kind g.names;
}

-- the first of a section that is a document alone, and of what stands behind it
abbrev pub first_alone : Rules → List Line → Place → Option (Judgement × Place)
first_alone rules lines end =
    or_later (first_in_section rules [] lines end) (first_behind (behind_section lines))

-- the first of a pattern or a graph of a version, with angles of so many steps in half a turn, and
-- of what stands behind it
abbrev pub first_in_pattern : ℕ → Takes → ℕ → List Line → Place → Option (Judgement × Place)
first_in_pattern half takes version lines end =
    or_later (first_in_section (pattern_rules version) [] lines end)
    (first_behind_first (behind_pattern half takes (pattern_of half (section_lines lines)))
    (behind_section lines) end)

abbrev pub first_in_graph : ℕ → Bool → ℕ → List Line → Place → Option (Judgement × Place)
first_in_graph half due version lines end =
    or_later (first_in_section (graph_rules version) [] lines end)
    (first_behind_first (behind_graph due (graph_in half (section_lines lines)))
    (behind_section lines) end)

-- the first of a kind and a version
abbrev pub first_in_kind : ℕ → Takes → Option Kind → ℕ → List Line → Place
    → Option (Judgement × Place)
first_in_kind half takes (Some Circuit) version lines end = first_alone circuit_rules lines end
first_in_kind half takes (Some Pattern) version lines end =
    first_in_pattern half takes version lines end
first_in_kind half takes (Some Graph) version lines end =
    first_in_graph half takes.cert version lines end
first_in_kind half takes (Some Gates) version lines end = first_alone gates_rules lines end
first_in_kind half takes _ version lines end = None

-- the first of a document: of its header, its sections, and what stands behind
abbrev pub first_in_lines : ℕ → Takes → List Line → Place → Option (Judgement × Place)
first_in_lines half takes [] end = Some (fault NoKind, end)
first_in_lines half takes (line ∷ lines) end =
    let header = words_of line.items in
    or_later (first_in_header (refused_kind takes) NoKind first_form line.items line.lack)
    (first_in_kind half takes (kind_in header) (version_in header) lines end)

abbrev pub first_in_text : ℕ → Takes → List ℕ → Option (Judgement × Place)
first_in_text half takes text = first_in_lines half takes (lines_of text) (end_of text)

-- the document that a pattern is with what stands behind it: a section of a kind, which begins at a
-- place and has these lines
abbrev pub with_second : ℕ → plain.Pattern → Kind → Place → Lines → PlainDocument
with_second half p Change place lines = pattern p (Some (rows_of p.names lines))
with_second half p Trace place lines = traced p (uses_in lines)
with_second half p _ place lines = two p (pattern_of half lines) place.0 place.1

-- the same, where there may be no second section
abbrev pub spelled_behind_pattern : ℕ → plain.Pattern → List Line → PlainDocument
spelled_behind_pattern half p lines =
    unwrap_or (spelled_second (with_second half p) lines) (pattern p None)

-- the certificate that stands behind a graph, if there is one
abbrev pub spelled_cert : OpenGraph → List Line → Option PlainCert
spelled_cert g lines = spelled_second (λ kind place lines. cert_in kind g.names lines) lines

-- the pattern, or the graph, that lines spell, with what stands behind it
abbrev pub spelled_pattern : ℕ → List Line → PlainDocument
spelled_pattern half lines =
    spelled_behind_pattern half (pattern_of half (section_lines lines)) (behind_section lines)

abbrev pub spelled_graph : ℕ → List Line → PlainDocument
spelled_graph half lines =
    let g = graph_in half (section_lines lines) in
    graph g (spelled_cert g (behind_section lines))

-- the document of a kind that lines spell
abbrev pub spelled_in_kind : ℕ → Option Kind → List Line → Option PlainDocument
spelled_in_kind half (Some Circuit) lines = Some (circuit (circuit_of half (section_lines lines)))
spelled_in_kind half (Some Pattern) lines = Some (spelled_pattern half lines)
spelled_in_kind half (Some Graph) lines = Some (spelled_graph half lines)
spelled_in_kind half (Some Gates) lines = Some (gates (gate_list_of (section_lines lines)))
spelled_in_kind half _ lines = None

abbrev pub spelled_lines : ℕ → List Line → Option PlainDocument
spelled_lines half [] = None
spelled_lines half (line ∷ lines) = spelled_in_kind half (kind_in (words_of line.items)) lines

-- the document that a text without faults spells
abbrev pub spelled : ℕ → List ℕ → Option PlainDocument
spelled half text = spelled_lines half (lines_of text)

-- the kinds that stand behind a pattern
abbrev pub StandsBehindPattern : Kind → Type 0
StandsBehindPattern Change = ⊤
StandsBehindPattern Trace = ⊤
StandsBehindPattern Pattern = ⊤
StandsBehindPattern _ = ⊥
