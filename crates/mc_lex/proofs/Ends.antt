-- The end place, byte by byte.
use Rattle.std.proofs.Common.{◌≡◌, ℕ, suc, ◌+◌, ◌<◌, List, [], ◌∷◌, Bool, true, false, length}
use Rattle.std.proofs.Common.{if◌then◌else◌, refl, sym, ◌∙◌, arith}
use Rattle.mc_lex.specs.Bytes.{is_feed}
use Rattle.mc_lex.specs.Lines.{parts_of, onto_first, end_at}
use Rattle.mc_lex.proofs.Spots.{some_parts}

abbrev pub end_from : ℕ → ℕ → List ℕ → ℕ × ℕ
end_from line column [] = (line, column)
end_from line column (b ∷ bs) =
    if is_feed b then end_from (line + 1) 1 bs else end_from line (column + 1) bs

end_next : (line column : ℕ) (parts : List (List ℕ)) → 0 < length parts
    → end_at line column ([] ∷ parts) ≡ end_at (line + 1) 1 parts
end_next line column [] some = absurd (omega arith)
end_next line column (part ∷ parts) some = refl

end_onto : (line column b : ℕ) (parts : List (List ℕ))
    → end_at line column (onto_first b parts) ≡ end_at line (column + 1) parts
end_onto line column b [] = refl
end_onto line column b (part ∷ []) =
    let k : column + suc (length part) ≡ column + 1 + length part = omega arith in
    rw k refl
end_onto line column b (part ∷ next ∷ parts) = refl

end_step : (line column b : ℕ) (bs : List ℕ) (t : Bool) → is_feed b ≡ t
    → ((l c : ℕ) → end_from l c bs ≡ end_at l c (parts_of bs))
    → end_from line column (b ∷ bs) ≡ end_at line column (parts_of (b ∷ bs))
end_step line column b bs true e rest =
    rw e (rest (line + 1) 1 ∙ sym (end_next line column (parts_of bs) (some_parts bs)))
end_step line column b bs false e rest =
    rw e (rest line (column + 1) ∙ sym (end_onto line column b (parts_of bs)))

pub end_is : (line column : ℕ) (bs : List ℕ)
    → end_from line column bs ≡ end_at line column (parts_of bs)
end_is line column [] = let k : column + 0 ≡ column = omega arith in rw k refl
end_is line column (b ∷ bs) =
    end_step line column b bs (is_feed b) refl (λ l c. end_is l c bs)
