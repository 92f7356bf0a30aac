-- How many preparations and measurements a translation has.
use Rattle.std.proofs.Common.{◌≡◌, ℕ, zero, suc, ◌+◌, ◌-◌, List, [], ◌∷◌, ◌++◌, length, refl, ap}
use Rattle.std.proofs.Common.{◌∙◌, arith}
use Rattle.std.proofs.lemmas.List.Elements.{filter_map-append}
use Rattle.mc_model.specs.Pattern.{Command, Gate, J, CZ, Circuit, wires, measured_by}
use Rattle.mc_model.specs.Pattern.{measured_order}
use Rattle.mc_model.specs.Amplitude.{halvings, j_count, pattern_scale, circuit_scale}
use Rattle.mc_model.specs.Valid.{prepared}
use Rattle.mc_model.specs.Translation.{moved, translated, preparations, translation}
use Rattle.mc_model.proofs.PreparationLemmas.{halvings-preparations, prepared-preparations}
use Rattle.mc_model.proofs.ValidLemmas.{prepared-append}
use Rattle.mc_model.proofs.Scales.{halvings-append}
use Rattle.mc_translate.specs.Laws.{HasCountsOf}

halvings-translated : (half : ℕ) (gs : List Gate) (at : ℕ → ℕ) (next : ℕ) →
    halvings (translated half gs at next) ≡ j_count gs + j_count gs
unfolding halvings translated j_count
halvings-translated half [] at next = refl
halvings-translated half (J v a ∷ gs) at next =
    let rest = halvings-translated half gs (moved at v next) (suc next) in omega arith
halvings-translated half (CZ v u ∷ gs) at next = halvings-translated half gs at next

pub translation_scale : (half : ℕ) (c : Circuit) →
    pattern_scale (translation half c) ≡ circuit_scale c + j_count c.gates
unfolding translation
translation_scale half c =
    let early : List Command = preparations c.inputs (wires c - c.inputs) in
    let made : List Command = translated half c.gates (λ v. v) (wires c) in
    let both = halvings-append early made in
    let one = halvings-preparations c.inputs (wires c - c.inputs) in
    let two = halvings-translated half c.gates (λ v. v) (wires c) in
    omega arith

-- ---- preparations and measurements apart

prepared-translated : (half : ℕ) (gs : List Gate) (at : ℕ → ℕ) (next : ℕ) →
    prepared (translated half gs at next) ≡ j_count gs
unfolding prepared translated j_count
prepared-translated half [] at next = refl
prepared-translated half (J v a ∷ gs) at next =
    ap suc (prepared-translated half gs (moved at v next) (suc next))
prepared-translated half (CZ v u ∷ gs) at next = prepared-translated half gs at next

order-translated : (half : ℕ) (gs : List Gate) (at : ℕ → ℕ) (next : ℕ) →
    length (measured_order (translated half gs at next)) ≡ j_count gs
unfolding translated j_count
order-translated half [] at next = refl
order-translated half (J v a ∷ gs) at next =
    ap suc (order-translated half gs (moved at v next) (suc next))
order-translated half (CZ v u ∷ gs) at next = order-translated half gs at next

order-preparations : (q n : ℕ) → measured_order (preparations q n) ≡ []
unfolding preparations
order-preparations q zero = refl
order-preparations q (suc n) = order-preparations (suc q) n

pub translation_counts : (half : ℕ) (c : Circuit) → HasCountsOf c (translation half c)
unfolding translation
translation_counts half c =
    let early : List Command = preparations c.inputs (wires c - c.inputs) in
    let made : List Command = translated half c.gates (λ v. v) (wires c) in
    record {
      preparations =
          let both = prepared-append early made in
          let one = prepared-preparations c.inputs (wires c - c.inputs) in
          let two = prepared-translated half c.gates (λ v. v) (wires c) in
          omega arith;
      measurements =
          ap length (filter_map-append measured_by early made)
          ∙ ap (λ (qs : List ℕ). length (qs ++ measured_order made))
          (order-preparations c.inputs (wires c - c.inputs))
          ∙ order-translated half c.gates (λ v. v) (wires c);
    }
