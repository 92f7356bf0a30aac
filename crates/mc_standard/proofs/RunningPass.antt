-- One more command of a pass, and what the pass comes to at the end.
use Rattle.std.proofs.Common.{◌≡◌, ℕ, zero, suc, ◌+◌, ◌<◌, ◌≤◌, Bool, true, false, List, [], ◌∷◌}
use Rattle.std.proofs.Common.{◌++◌, cond, nat_eq}
use Rattle.std.proofs.Common.{length, map, drop, set, get_or, get_or-set_same, get_or-set_other}
use Rattle.std.proofs.Common.{refl, sym, ◌∙◌, ap, ap₂, arith, append_assoc, append-nil}
use Rattle.std.proofs.lemmas.Bool.{eq-eqb, ne_eqb, cases_eq}
use Rattle.std.proofs.lemmas.Option.{unwrap_or-slice_get}
use Rattle.std.proofs.lemmas.List.{get_or_default}
use Rattle.std.proofs.Math.Seq.{drop-cons}
use mathlib.Core.Path.{fun_ext}
use mathlib.Core.Logic.{inl, inr}
use Rattle.mc_model.specs.Bits.{◌⊻◌, same_pair}
use Rattle.mc_model.specs.Numbers.{pairs_below}
use Rattle.mc_model.specs.Signals.{Signal, Signals, no_signal, signal_sum}
use Rattle.mc_model.specs.Pattern.{Command, Prep, Ent, Meas, FixX, FixZ}
use Rattle.mc_model.specs.Valid.{prepared, IsValid}
use Rattle.mc_model.specs.StandardForm.{preparations_of, is_edge, fix_x, fix_z, corrections_below}
use Rattle.mc_model.specs.StandardForm.{standard_commands}
use Rattle.mc_model.proofs.BitLemmas.{xor_assoc, xor_false}
use Rattle.mc_model.proofs.SignalLemmas.{reset}
use Rattle.mc_model.proofs.ValidInPlace.{InPlace, valid_in_place}
use Rattle.mc_rules.specs.OnePass.{none_carried, joined, handed, handed_out, measured_with, carried}
use Rattle.mc_rules.specs.OnePass.{OnePass}
use Rattle.mc_standard.specs.OddPairs.{is_odd}
use Rattle.mc_standard.specs.Running.{signals_of, AllBelow, LeadsOn}
use Rattle.mc_standard.proofs.OddPairs.{pairs_below-same}

-- ---- lists of signals

pub signals_set : (signals : List Signal) (q : ℕ) (s : Signal) → q < length signals →
    signals_of (set signals q s) ≡ reset (signals_of signals) q s
signals_set signals q s within = fun_ext λ k.
    unwrap_or-slice_get (set signals q s) k no_signal ∙ elim (cases_eq k q) [
      | inl e ↦ rw (e, eq-eqb q q refl) (get_or-set_same signals q s no_signal within)
      | inr ne ↦
          rw (ne_eqb k q ne)
          (get_or-set_other signals q k s no_signal ne
          ∙ sym (unwrap_or-slice_get signals k no_signal))
    ]

pub none_more : (signals : List Signal) → ((k : ℕ) → get_or signals k no_signal ≡ no_signal) →
    (k : ℕ) → get_or (signals ++ (no_signal ∷ [])) k no_signal ≡ no_signal
none_more [] h zero = refl
none_more [] h (suc k) = refl
none_more (s ∷ signals) h zero = h zero
none_more (s ∷ signals) h (suc k) = none_more signals (λ j. h (suc j)) k

pub still_none : (signals : List Signal) → signals_of signals ≡ none_carried →
    signals_of (signals ++ (no_signal ∷ [])) ≡ none_carried
still_none signals h = fun_ext λ k.
    unwrap_or-slice_get (signals ++ (no_signal ∷ [])) k no_signal
    ∙ none_more signals
    (λ j. sym (unwrap_or-slice_get signals j no_signal) ∙ ap (λ (xs : Signals). xs j) h) k

pub signal_read : (signals : List Signal) (q : ℕ) (s : Signal) → q < length signals →
    s ≡ get_or signals q s → s ≡ signals_of signals q
signal_read signals q s within e =
    e
    ∙ get_or_default signals q s no_signal within
    ∙ sym (unwrap_or-slice_get signals q no_signal)

-- ---- one more command

pub begins : (odd : List ℕ) (xs zs : Signals) (cs : List Command) →
    ((i j : ℕ) → i < j → j < 256 → is_odd odd i j ≡ false) → xs ≡ none_carried → zs ≡ none_carried →
    LeadsOn [] odd [] xs zs cs cs
begins odd xs zs cs none x z = record {
  preparations = refl;
  edges = λ i j h g. ap (λ (b : Bool). b ⊻ is_edge cs i j) (none i j h g);
  measurements = ap₂ (λ (ss ts : Signals). measured_with ss ts cs) x z;
  signals = ap₂ (λ (ss ts : Signals). carried ss ts cs) x z;
}

pub on_prep : (ps : List Command) (odd : List ℕ) (ms : List Command) (xs zs : Signals)
    (rest whole : List Command) (q : ℕ) → LeadsOn ps odd ms xs zs (Prep q ∷ rest) whole →
    LeadsOn (ps ++ (Prep q ∷ [])) odd ms xs zs rest whole
unfolding preparations_of is_edge measured_with carried
on_prep ps odd ms xs zs rest whole q h = record {
  preparations = append_assoc ps (Prep q ∷ []) (preparations_of rest) ∙ h.preparations;
  edges = h.edges;
  measurements = h.measurements;
  signals = h.signals;
}

pub on_ent : (ps : List Command) (odd more : List ℕ) (ms : List Command) (xs zs : Signals)
    (rest whole : List Command) (q r : ℕ) →
    ((i j : ℕ) → i < j → j < 256 → is_odd more i j ≡ is_odd odd i j ⊻ same_pair i j q r) →
    LeadsOn ps odd ms xs zs (Ent q r ∷ rest) whole →
    LeadsOn ps more ms xs (handed xs zs q r) rest whole
unfolding preparations_of is_edge measured_with carried
on_ent ps odd more ms xs zs rest whole q r counted h = record {
  preparations = h.preparations;
  edges = λ i j l g.
      ap (λ (b : Bool). b ⊻ is_edge rest i j) (counted i j l g)
      ∙ xor_assoc (is_odd odd i j) (same_pair i j q r) (is_edge rest i j)
      ∙ h.edges i j l g;
  measurements = h.measurements;
  signals = h.signals;
}

pub on_meas : (ps : List Command) (odd : List ℕ) (ms : List Command) (xs zs : Signals)
    (rest whole : List Command) (q a : ℕ) (s t : Signal) →
    LeadsOn ps odd ms xs zs (Meas q a s t ∷ rest) whole →
    LeadsOn ps odd (ms ++ (Meas q a (signal_sum (xs q) s) (signal_sum (zs q) t) ∷ []))
    (handed_out xs q) (handed_out zs q) rest whole
unfolding preparations_of is_edge measured_with carried
on_meas ps odd ms xs zs rest whole q a s t h = record {
  preparations = h.preparations;
  edges = h.edges;
  measurements =
      append_assoc ms (Meas q a (signal_sum (xs q) s) (signal_sum (zs q) t) ∷ [])
      (measured_with (handed_out xs q) (handed_out zs q) rest)
      ∙ h.measurements;
  signals = h.signals;
}

pub on_x : (ps : List Command) (odd : List ℕ) (ms : List Command) (xs zs : Signals)
    (rest whole : List Command) (q : ℕ) (s : Signal) →
    LeadsOn ps odd ms xs zs (FixX q s ∷ rest) whole →
    LeadsOn ps odd ms (joined xs q s) zs rest whole
unfolding preparations_of is_edge measured_with carried
on_x ps odd ms xs zs rest whole q s h = record {
  preparations = h.preparations;
  edges = h.edges;
  measurements = h.measurements;
  signals = h.signals;
}

pub on_z : (ps : List Command) (odd : List ℕ) (ms : List Command) (xs zs : Signals)
    (rest whole : List Command) (q : ℕ) (s : Signal) →
    LeadsOn ps odd ms xs zs (FixZ q s ∷ rest) whole →
    LeadsOn ps odd ms xs (joined zs q s) rest whole
unfolding preparations_of is_edge measured_with carried
on_z ps odd ms xs zs rest whole q s h = record {
  preparations = h.preparations;
  edges = h.edges;
  measurements = h.measurements;
  signals = h.signals;
}

-- ---- corrections

pub corrections-none : (gone : ℕ → Bool) (ss ts : Signals) → corrections_below gone ss ts 0 ≡ []
unfolding corrections_below
corrections-none gone ss ts = refl

pub corrections-next : (ss ts : Signals) (q : ℕ) →
    corrections_below (λ k. false) ss ts (q + 1)
    ≡ corrections_below (λ k. false) ss ts q ++ (fix_x q (ss q) ++ fix_z q (ts q))
unfolding corrections_below
corrections-next ss ts q =
    let e : q + 1 ≡ suc q = omega arith in ap (corrections_below (λ k. false) ss ts) e

-- what is handed out once a signal was added, and what is left
pub handed_sum : (xs : Signals) (q : ℕ) (s : Signal) → joined xs q s q ≡ signal_sum (xs q) s
handed_sum xs q s = rw (eq-eqb q q refl) refl

pub handed_rest : (xs : Signals) (q : ℕ) (s : Signal) →
    handed_out (joined xs q s) q ≡ handed_out xs q
handed_rest xs q s = fun_ext λ k. kept (nat_eq k q) (xs k) (signal_sum (xs q) s)
  where
    kept : (same : Bool) (x sum : Signal) →
        cond same no_signal (cond same sum x) ≡ cond same no_signal x
    kept true x sum = refl
    kept false x sum = refl

-- ---- the whole

-- what is left of a list at an index
pub rest_here : {X : Type 0} (f : X → Command) (xs : List X) (i : ℕ) (x : X) → i < length xs →
    x ≡ get_or xs i x → map f (drop i xs) ≡ f x ∷ map f (drop (i + 1) xs)
rest_here f xs i x lt e =
    let one : suc i ≡ i + 1 = omega arith in
    ap (map f) (drop-cons xs i x lt ∙ ap₂ (λ (y : _) (n : ℕ). y ∷ drop n xs) (sym e) one)

-- the operands of a valid list of at most 256 qubits
in_place_below : (n : ℕ) (cs : List Command) → n ≤ 256 → InPlace n cs → AllBelow 256 cs
in_place_below n [] h p = tt
in_place_below n (Prep q ∷ cs) h p = (tt, in_place_below n cs h p.2)
in_place_below n (Ent q r ∷ cs) h p =
    ((let l = p.0.0 in omega arith, let l = p.0.1 in omega arith, p.0.2), in_place_below n cs h p.2)
in_place_below n (Meas q a s t ∷ cs) h p =
    (let l = p.0.0 in omega arith, in_place_below n cs h p.2)
in_place_below n (FixX q s ∷ cs) h p =
    (let l = p.0.0 in omega arith, in_place_below n cs h p.2)
in_place_below n (FixZ q s ∷ cs) h p =
    (let l = p.0.0 in omega arith, in_place_below n cs h p.2)

pub valid_below : (inputs : ℕ) (cs : List Command) → IsValid inputs cs →
    inputs + prepared cs ≤ 256 → AllBelow 256 cs
valid_below inputs cs v few =
    in_place_below (inputs + prepared cs) cs few
    (valid_in_place inputs (inputs + prepared cs) [] cs v (omega arith))

four_same : (ps es ms fs ps' es' ms' fs' : List Command) → ps ≡ ps' → es ≡ es' → ms ≡ ms' →
    fs ≡ fs' → ps ++ (es ++ (ms ++ fs)) ≡ ps' ++ (es' ++ (ms' ++ fs'))
four_same ps es ms fs ps' es' ms' fs' p e m f =
    ap₂ (λ (xs ys : List Command). xs ++ ys) p
    (ap₂ (λ (xs ys : List Command). xs ++ ys) e (ap₂ (λ (xs ys : List Command). xs ++ ys) m f))

-- the parts that a pass over a whole valid list has made are those of its standard form
pub comes_to_standard : OnePass → (inputs n : ℕ) (cs ps es ms fs : List Command) (odd : List ℕ)
    (xs zs : Signals) → IsValid inputs cs → n ≡ inputs + prepared cs → n ≤ 256 →
    LeadsOn ps odd ms xs zs [] cs → es ≡ pairs_below Ent (is_odd odd) n n →
    fs ≡ corrections_below (λ q. false) xs zs n →
    ps ++ (es ++ (ms ++ fs)) ≡ standard_commands inputs cs
unfolding preparations_of is_edge measured_with carried
comes_to_standard law inputs n cs ps es ms fs odd xs zs v size few h edges fixes =
    four_same ps es ms fs _ _ _ _
    (sym (append-nil ps) ∙ h.preparations)
    (edges
    ∙ pairs_below-same Ent (is_odd odd) (is_edge cs) n n
    (λ i j l g. sym (xor_false (is_odd odd i j)) ∙ h.edges i j l (omega arith))
    ∙ ap (λ (m : ℕ). pairs_below Ent (is_edge cs) m m) size)
    (sym (append-nil ms) ∙ h.measurements)
    (fixes
    ∙ ap (λ (p : Signals × Signals). corrections_below (λ q. false) p.0 p.1 n) h.signals
    ∙ ap (corrections_below (λ q. false) (carried none_carried none_carried cs).0
    (carried none_carried none_carried cs).1) size)
    ∙ sym (law inputs cs v)
