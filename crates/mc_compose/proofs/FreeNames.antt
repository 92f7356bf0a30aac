-- Names that give way to fresh ones are names, and differ from those that are held.
use Rattle.std.proofs.Common.{◌≡◌, suc, ◌+◌, ◌<◌, ◌≤◌, false, List, [], ◌∷◌, ◌++◌, length}
use Rattle.std.proofs.Common.{length-append, IsTrue, refl, sym, ap, append_assoc, append-nil, arith}
use Rattle.std.specs.Prelude.{All}
use Rattle.std.specs.Cmp.Lexicographic.{nat_list_eq_equiv}
use Rattle.std.proofs.lemmas.Bool.{cases_Bool}
use Rattle.std.proofs.lemmas.Map.Keys.{IsDistinct-push}
use Rattle.std.proofs.lemmas.List.Elements.{All-append, All-nil, All-cons, All-head, All-tail}
use mathlib.Core.Path.{subst}
use mathlib.Core.Logic.{inl, inr}
use Rattle.mc_model.specs.Names.{Name, AreNames, is_name, is_held}
use Rattle.mc_names.proofs.FreshNames.{fresh_is_fresh, with_fresh_names}
use Rattle.mc_compose.specs.Composed.{free_name, free_names}

pub free_name-free : (held : List Name) (name : Name) → length held < 1000 →
    is_held held (free_name held name) ≡ false
free_name-free held name few = elim (cases_Bool (is_held held name)) [
  | inl e ↦ rw e (fresh_is_fresh held few).3
  | inr e ↦ rw e e
]

pub length-free_names : (held names : List Name) → length (free_names held names) ≡ length names
length-free_names held [] = refl
length-free_names held (name ∷ names) =
    ap suc (length-free_names (held ++ (free_name held name ∷ [])) names)

-- a name that is not held may come behind
with_new : (held : List Name) (name : Name) → AreNames held → length held < 256 →
    IsTrue (is_name name) → is_held held name ≡ false → AreNames (held ++ (name ∷ []))
with_new held name are few valid new = record {
  distinct = IsDistinct-push nat_list_eq_equiv held name are.distinct new;
  valid =
      All-append (λ (n : Name). IsTrue (is_name n)) held (name ∷ []) are.valid
      (All-cons (λ (n : Name). IsTrue (is_name n)) name [] valid
      (All-nil (λ (n : Name). IsTrue (is_name n))));
  few = let long = length-append held (name ∷ []) in omega arith;
}

with_free : (held : List Name) (name : Name) → AreNames held → length held < 256 →
    IsTrue (is_name name) → AreNames (held ++ (free_name held name ∷ []))
with_free held name are few valid = elim (cases_Bool (is_held held name)) [
  | inl e ↦ rw e (with_fresh_names 1 held are (omega arith))
  | inr e ↦ rw e (with_new held name are few valid e)
]

-- names behind those that are held, in order
pub behind_names : (held names : List Name) → length held + length names ≤ 256 → AreNames held →
    All (λ name. IsTrue (is_name name)) names → AreNames (held ++ free_names held names)
behind_names held [] few are valid = subst AreNames (sym (append-nil held)) are
behind_names held (name ∷ names) few are valid =
    let new : Name = free_name held name in
    let more : length (held ++ (new ∷ [])) ≡ length held + 1 = length-append held (new ∷ []) in
    subst AreNames (append_assoc held (new ∷ []) (free_names (held ++ (new ∷ [])) names))
    (behind_names (held ++ (new ∷ [])) names (omega arith)
    (with_free held name are (omega arith)
    (All-head (λ n. IsTrue (is_name n)) name names valid))
    (All-tail (λ n. IsTrue (is_name n)) name names valid))
