-- The measured qubits of a pattern.
use Rattle.std.proofs.Common.{◌≡◌, ℕ, zero, suc, ◌+◌, ◌<◌, ◌≤◌, All, List, [], ◌∷◌, ◌++◌, length}
use Rattle.std.proofs.Common.{map, take, refl, sym, ap, append_assoc, arith, get_or}
use Rattle.std.specs.List.{AllByRecursion}
use Rattle.std.proofs.lemmas.List.Elements.{All-from_recursion, filter_map-append}
use Rattle.mc_model.specs.Pattern.{Command, Prep, Ent, Meas, FixX, FixZ, Pattern, measured_by}
use Rattle.mc_model.specs.Pattern.{measured_order}
use Rattle.mc_model.specs.Valid.{IsValid, IsValidPattern, prepared}
use Rattle.mc_model.proofs.ValidLemmas.{prepared-append, moved_on}

-- the commands with one more
map_taken : {A : Type 0} (f : A → Command) (xs : List A) (i : ℕ) (x : A) → x ≡ get_or xs i x
    → i < length xs → map f (take (suc i) xs) ≡ map f (take i xs) ++ f x ∷ []
map_taken f [] i x e lt = absurd (omega arith)
map_taken f (y ∷ xs) zero x e lt = ap (λ (z : _). f z ∷ []) (sym e)
map_taken f (y ∷ xs) (suc i) x e lt =
    ap (λ (cs : List Command). f y ∷ cs) (map_taken f xs i x e (omega arith))

pub measured_more : {A : Type 0} (f : A → Command) (xs : List A) (i : ℕ) (x : A)
    (order order' : List ℕ) → x ≡ get_or xs i x → i < length xs
    → order ≡ measured_order (map f (take i xs)) → order' ≡ order ++ measured_order (f x ∷ [])
    → order' ≡ measured_order (map f (take (i + 1) xs))
measured_more f xs i x order order' e lt all more =
    let next : i + 1 ≡ suc i = omega arith in
    rw (
      more,
      all,
      next,
      map_taken f xs i x e lt,
      filter_map-append measured_by (map f (take i xs)) (f x ∷ []),
    ) refl

-- each measured qubit of a valid pattern has a name
behind_named : (inputs n : ℕ) (before cs : List Command) → IsValid inputs (before ++ cs)
    → inputs + prepared (before ++ cs) ≤ n → AllByRecursion (λ (q : ℕ). q < n) (measured_order cs)
behind_named inputs n before [] valid le = tt
behind_named inputs n before (c ∷ cs) valid le = by_command c valid le
    (behind_named inputs n (before ++ c ∷ []) cs (moved_on inputs before c cs valid)
    (rw (← regroup) le))
  where
    regroup : before ++ c ∷ cs ≡ (before ++ c ∷ []) ++ cs
    regroup = sym (append_assoc before (c ∷ []) cs)

    by_command : (c : Command) → IsValid inputs (before ++ c ∷ cs)
        → inputs + prepared (before ++ c ∷ cs) ≤ n
        → AllByRecursion (λ (q : ℕ). q < n) (measured_order cs)
        → AllByRecursion (λ (q : ℕ). q < n) (measured_order (c ∷ cs))
    by_command (Prep q) valid le rest = rest
    by_command (Ent q r) valid le rest = rest
    by_command (Meas q a s t) valid le rest =
        let there = (valid.at before (Meas q a s t) cs refl).0.is_there in
        let parts = prepared-append before (Meas q a s t ∷ cs) in
        (omega arith, rest)
    by_command (FixX q s) valid le rest = rest
    by_command (FixZ q s) valid le rest = rest

pub measured_named : (p : Pattern) → IsValidPattern p
    → All (λ (q : ℕ). q < length p.names) (measured_order p.commands)
measured_named p valid =
    let all = valid.qubits in
    All-from_recursion (λ (q : ℕ). q < length p.names) (measured_order p.commands)
    (behind_named p.inputs (length p.names) [] p.commands valid.commands (omega arith))
