-- Each answer as 2026-01 has it, and the way back.
-- Assumes nothing.
use Rattle.std.specs.Prelude.{◌≡◌, refl, [], ℕ, Option, Some, None, Result}
use Rattle.ground.specs.Paper.{Paper}
use Rattle.ground.specs.Refusals.{Refusals, on_paper}
use Rattle.logarithm.specs.declared.TooLarge.{TooLarge}
use Rattle.logarithm.specs.Meaning.{Giving, between, no_count}

-- a count too large for a logarithm byte: 12
abbrev pub too_large : Refusals TooLarge
too_large = record { number = λ why. 12; carried = λ why. []; back = λ n carried. record {}; home = λ why. refl }

-- the logarithm byte, or 12
abbrev pub log8_code_paper : Result ℕ TooLarge → Paper ℕ
log8_code_paper = on_paper too_large

-- the two counts of a logarithm byte, or the word that no count gives it; it is never refused
abbrev pub log8_counts_paper : Option (ℕ × ℕ) → Giving
log8_counts_paper (Some counts) = between counts.0 counts.1
log8_counts_paper None = no_count

-- the answer that reads so
abbrev pub log8_counts_back : Giving → Option (ℕ × ℕ)
log8_counts_back (between low high) = Some (low, high)
log8_counts_back no_count = None

-- an answer is the one that reads as it does
pub log8_counts_home : (a : Option (ℕ × ℕ)) → log8_counts_back (log8_counts_paper a) ≡ a
log8_counts_home (Some counts) = refl
log8_counts_home None = refl
