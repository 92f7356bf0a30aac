-- The words of a header, as they are printed, are read back.
use Rattle.std.proofs.Common.{◌≡◌, ℕ, Some, refl, inl, inr}
use Rattle.mc_lex.specs.declared.kind.Kind.{Kind}
use Rattle.mc_lex.specs.declared.kind.Kind.TheVariants.{Circuit}
use Rattle.mc_lex.specs.Kinds.{spelling, kind_of}
use Rattle.mc_text.specs.Headers.{header_words, version_in, half_in, IsVersion, IsHalf}

pub kind_spelled : (kind : Kind) → kind_of (spelling kind) ≡ Some kind
kind_spelled Circuit = refl
kind_spelled _ = refl

pub version_back : (kind : Kind) (version half : ℕ) → IsVersion version
    → version_in (header_words kind version half) ≡ version
version_back kind version half (inl one) = rw one refl
version_back kind version half (inr two) = rw two refl

pub half_back : (kind : Kind) (version half : ℕ) → IsHalf half
    → half_in (header_words kind version half) ≡ half
half_back kind version half (inl eighths) = rw eighths refl
half_back kind version half (inr sixteenths) = rw sixteenths refl
