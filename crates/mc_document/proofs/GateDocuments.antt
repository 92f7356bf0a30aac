-- The canonical text of a list of gates is read without a fault, as that list, and says eighths;
-- and where only lists of gates are taken, a document is one.
use Rattle.std.specs.Prelude.{IsTrue, is_some}
use Rattle.std.proofs.Common.{◌≡◌, ℕ, true, Some, None, refl, inl}
use Rattle.mc_lex.specs.declared.kind.Kind.TheVariants.{Gates}
use Rattle.mc_gates.specs.Gates.{GateList}
use Rattle.mc_gates_text.specs.Canonical.{gates_lines, gates_text}
use Rattle.mc_gates_text.specs.Judge.{gates_rules}
use Rattle.mc_gates_text.specs.Value.{gate_list_of}
use Rattle.mc_document.specs.declared.takes.Takes.{Takes}
use Rattle.mc_document.specs.Documents.{PlainDocument, pattern, traced, two, graph, gates}
use Rattle.mc_document.specs.Documents.{IsTaken, document_text, first_form, gates_in, only_gates}
use Rattle.mc_document.specs.Sections.{first_in_text, spelled}
use Rattle.mc_document.specs.Turns.{half_of}
use Rattle.mc_document.proofs.AloneDocuments.{IsAlone, alone_clean, alone_spelled, alone_stepped}
use Rattle.mc_document.proofs.BothTexts.{IsReadAs}
use Rattle.mc_document.proofs.Headers.{HasHeader, header_of, plain_permits}

abbrev pub AreGatesRead : GateList → Type 0
AreGatesRead g = IsReadAs gates_rules gate_list_of (gates_text g) g

gates_alone : (half : ℕ) → IsAlone half Gates gates_rules gate_list_of gates
gates_alone half = record { first = λ takes version lines end. refl; spells = λ lines. refl }

gates_header : (g : GateList) → HasHeader Gates 1 4 (gates_text g)
gates_header g = header_of Gates 1 4 (gates_lines g) (inl refl) (inl refl)

pub gates_clean : (half : ℕ) (takes : Takes) (g : GateList) → AreGatesRead g →
    takes.gates ≡ true → first_in_text half takes (document_text half (gates g)) ≡ None
gates_clean half takes g read taken =
    alone_clean half Gates gates_rules gate_list_of gates (gates_alone half) takes 1 4
    (gates_text g) g (gates_header g) read (rw taken refl) (plain_permits (first_form Gates))

pub gates_spelled : (half : ℕ) (g : GateList) → AreGatesRead g →
    spelled half (document_text half (gates g)) ≡ Some (gates g)
gates_spelled half g read =
    alone_spelled half Gates gates_rules gate_list_of gates (gates_alone half) 1 4 (gates_text g) g
    (gates_header g) read

pub gates_stepped : (half : ℕ) (d : PlainDocument) → IsTrue (is_some (gates_in d)) →
    half_of (document_text half d) ≡ 4
gates_stepped half (gates g) some = alone_stepped Gates 1 4 (gates_text g) (gates_header g)
gates_stepped half _ some = absurd (cc some)

-- a document of a kind that is taken, where only lists of gates are
pub gates_seen : (d : PlainDocument) → IsTaken only_gates d → IsTrue (is_some (gates_in d))
gates_seen (gates g) h = refl
gates_seen (pattern p change) h = absurd (cc h.0)
gates_seen (traced p uses) h = absurd (cc h.0)
gates_seen (two p q line column) h = absurd (cc h.0)
gates_seen (graph g cert) h = absurd (cc h.0)
gates_seen _ h = absurd (cc h)
