-- What callers cite of a sealed run: bytes with their checksum behind them, as they are written and as they are read.
-- Assumes nothing.
use Rattle.std.specs.Prelude.{◌≡◌, refl, true, List, ◌++◌, ℕ, ◌+◌, ◌≤◌, length, take, drop}
use Rattle.std.proofs.Common.{sym, ap, ap₂, ◌∙◌, append_assoc, arith, le-leb, eq-eqb, leb-true, eqb-true, length-append, length-drop, take_at, drop_at}
use Rattle.std.proofs.Common.{drop-drop}
use Rattle.ground.specs.Questions.{both_hold}
use Rattle.ground.specs.Words.{number, bytes_of, word_at, number-bytes_of}
use Rattle.ground.specs.Meaning.{lies}
use Rattle.crc.specs.Meaning.{checksum_of, sealed_of, sealed_at, sealed_in}
use Rattle.crc.specs.Laws.{checksum_lt}
use Rattle.ground.specs.Bytes.{Bytes, take_parts, word_back}
use Rattle.crc.specs.Promise.{SealPromise}

-- a sealed run is two bytes longer
pub length_sealed : (bytes : List ℕ) → length (sealed_of bytes) ≡ length bytes + 2
unfolding sealed_of
length_sealed bytes = length-append bytes (bytes_of 2 (checksum_of bytes))

-- the bytes themselves come first, whatever follows
pub sealed_front : (bytes rest : List ℕ) → sealed_of bytes ++ rest ≡ bytes ++ (bytes_of 2 (checksum_of bytes) ++ rest)
unfolding sealed_of
sealed_front bytes rest = append_assoc bytes (bytes_of 2 (checksum_of bytes)) rest

-- what was sealed stands at its place, whatever follows
pub sealed_stands : (l : List ℕ) (at : ℕ) (bytes rest : List ℕ) (n : ℕ) → drop at l ≡ sealed_of bytes ++ rest → length bytes ≡ n
    → sealed_at l at n ≡ true
unfolding sealed_at
sealed_stands l at bytes rest n is long =
    let past = bytes_of 2 (checksum_of bytes) ++ rest in
    let parts : drop at l ≡ bytes ++ past = is ∙ sealed_front bytes rest in
    let size : length (drop at l) ≡ length bytes + length past = ap length parts ∙ length-append bytes past in
    let covered : take n (drop at l) ≡ bytes = ap (take n) parts ∙ take_at bytes past n long in
    let word : word_at l (at + n) ≡ checksum_of bytes =
    ap (λ (x : List ℕ). number (take 2 x)) (sym (drop-drop n at l) ∙ ap (drop n) parts ∙ drop_at bytes past n long)
    ∙ number-bytes_of 2 (checksum_of bytes) (checksum_lt bytes) in
    rw (
      le-leb (at + (n + 2)) (length l) (omega (arith, size, length-drop at l)),
      eq-eqb (checksum_of (take n (drop at l))) (word_at l (at + n)) (ap checksum_of covered ∙ sym word),
    )

-- what stands sealed at a place lies in the bytes
pub sealed_lies : (l : List ℕ) (at n : ℕ) → sealed_at l at n ≡ true → at + (n + 2) ≤ length l
unfolding sealed_at
sealed_lies l at n e = leb-true _ _ (both_hold e).0

-- what stands sealed at a place is its n bytes sealed
pub sealed_is : (l : List ℕ) (at n : ℕ) {bytes : List ℕ} → Bytes l → sealed_at l at n ≡ true → take n (drop at l) ≡ bytes
    → take (n + 2) (drop at l) ≡ sealed_of bytes
unfolding sealed_at sealed_of
sealed_is l at n {bytes} b e is =
    let sum : checksum_of (take n (drop at l)) ≡ word_at l (at + n) = eqb-true _ _ (both_hold {a = lies l at (n + 2)} e).1 in
    let room : at + (n + 2) ≤ length l = sealed_lies l at n e in
    take_parts l at n 2 (at + n) refl is (word_back l (at + n) b (omega arith) ∙ ap (bytes_of 2) (sym sum ∙ ap checksum_of is))

-- n bytes that lie at the front of a buffer, sealed there: the sealed run, and what lay past it
pub seal_front : (bytes buffer : List ℕ) (n : ℕ) {filled after : List ℕ} → length bytes ≡ n → n + 2 ≤ length buffer
    → filled ≡ bytes ++ drop n buffer → SealPromise filled n after → after ≡ sealed_of bytes ++ drop (n + 2) buffer
unfolding sealed_in
seal_front bytes buffer n {filled} {after} long room is p =
    let size : length filled ≡ length bytes + length (drop n buffer) = ap length is ∙ length-append bytes (drop n buffer) in
    let there : sealed_in filled n ≡ sealed_of (take n filled) ++ drop (n + 2) filled =
    rw (le-leb (n + 2) (length filled) (omega (arith, size, length-drop n buffer))) in
    p.memory
    ∙ there
    ∙ ap₂ (λ (x y : List ℕ). sealed_of x ++ y) (ap (take n) is ∙ take_at bytes (drop n buffer) n long)
    (sym (drop-drop 2 n filled)
    ∙ ap (λ (x : List ℕ). drop 2 x) (ap (drop n) is ∙ drop_at bytes (drop n buffer) n long)
    ∙ drop-drop 2 n buffer)
