-- How a packet's header comes into a buffer, word after word.
-- Assumes nothing.
use Rattle.std.specs.Prelude.{◌≡◌, refl, List, ◌++◌, ℕ, drop}
use Rattle.std.proofs.Common.{ap, ◌∙◌}
use Rattle.ground.specs.Words.{bytes_of}
use Rattle.ground.specs.Putting.{put, put_next}
use Rattle.packet.specs.Meaning.{mark}

-- a packet's first eight bytes: the mark, the length word and the APID
abbrev pub head_of : ℕ → ℕ → List ℕ
head_of word apid = mark ++ (bytes_of 2 word ++ bytes_of 2 apid)

-- the mark in two words, the length word and the APID, put one after the other
pub head_put : (l : List ℕ) {l₁ l₂ l₃ l₄ : List ℕ} (word apid : ℕ) → l₁ ≡ put l 0 (bytes_of 2 0xBEBA) → l₂ ≡ put l₁ 2 (bytes_of 2 0xCAFE)
    → l₃ ≡ put l₂ 4 (bytes_of 2 word) → l₄ ≡ put l₃ 6 (bytes_of 2 apid) → l₄ ≡ head_of word apid ++ drop 8 l
head_put l word apid p q r s =
    let second = q ∙ ap (λ (x : List ℕ). put x 2 (bytes_of 2 0xCAFE)) p ∙ put_next (bytes_of 2 0xBEBA) l (bytes_of 2 0xCAFE) 2 refl in
    let third = r ∙ ap (λ (x : List ℕ). put x 4 (bytes_of 2 word)) second ∙ put_next mark l (bytes_of 2 word) 4 refl in
    s ∙ ap (λ (x : List ℕ). put x 6 (bytes_of 2 apid)) third ∙ put_next (mark ++ bytes_of 2 word) l (bytes_of 2 apid) 6 refl
