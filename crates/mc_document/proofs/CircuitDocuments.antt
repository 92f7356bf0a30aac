-- The canonical text of a circuit is read without a fault, as that circuit, and says its step.
use Rattle.std.proofs.Common.{◌≡◌, ℕ, true, Some, None, refl, inl}
use Rattle.mc_lex.specs.declared.kind.Kind.TheVariants.{Circuit}
use Rattle.mc_model.specs.Pattern as plain
use Rattle.mc_text.specs.Headers.{IsHalf}
use Rattle.mc_circuit.specs.Canonical.{circuit_lines, circuit_text}
use Rattle.mc_circuit.specs.Judge.{circuit_rules}
use Rattle.mc_circuit.specs.Value.{circuit_of}
use Rattle.mc_document.specs.declared.takes.Takes.{Takes}
use Rattle.mc_document.specs.Documents.{circuit, document_text}
use Rattle.mc_document.specs.Sections.{first_in_text, spelled}
use Rattle.mc_document.specs.Turns.{half_of}
use Rattle.mc_document.proofs.AloneDocuments.{IsAlone, alone_clean, alone_spelled, alone_stepped}
use Rattle.mc_document.proofs.BothTexts.{IsReadAs}
use Rattle.mc_document.proofs.Headers.{HasHeader, header_of}

abbrev pub IsCircuitRead : ℕ → plain.Circuit → Type 0
IsCircuitRead half c = IsReadAs circuit_rules (circuit_of half) (circuit_text half c) c

circuit_alone : (half : ℕ) → IsAlone half Circuit circuit_rules (circuit_of half) circuit
circuit_alone half = record { first = λ takes version lines end. refl; spells = λ lines. refl }

circuit_header : (half : ℕ) (c : plain.Circuit) → IsHalf half →
    HasHeader Circuit 1 half (circuit_text half c)
circuit_header half c h = header_of Circuit 1 half (circuit_lines c) (inl refl) h

pub circuit_clean : (half : ℕ) (takes : Takes) (c : plain.Circuit) → IsHalf half →
    IsCircuitRead half c → takes.circuit ≡ true →
    first_in_text half takes (document_text half (circuit c)) ≡ None
circuit_clean half takes c h read taken =
    alone_clean half Circuit circuit_rules (circuit_of half) circuit (circuit_alone half) takes 1
    half (circuit_text half c) c (circuit_header half c h) read (rw taken refl)
    (record { second = λ e. absurd (cc e); turning = λ e. (refl, refl) })

pub circuit_spelled : (half : ℕ) (c : plain.Circuit) → IsHalf half → IsCircuitRead half c →
    spelled half (document_text half (circuit c)) ≡ Some (circuit c)
circuit_spelled half c h read =
    alone_spelled half Circuit circuit_rules (circuit_of half) circuit (circuit_alone half) 1 half
    (circuit_text half c) c (circuit_header half c h) read

pub circuit_stepped : (half : ℕ) (c : plain.Circuit) → IsHalf half →
    half_of (circuit_text half c) ≡ half
circuit_stepped half c h =
    alone_stepped Circuit 1 half (circuit_text half c) (circuit_header half c h)
