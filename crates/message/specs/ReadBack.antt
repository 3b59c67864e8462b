-- "A written .. message reads back as itself": with used equal to written, whatever follows.
-- Assumes nothing.
use Rattle.std.specs.Prelude.{◌≡◌, true, not, ℕ, ◌+◌, ◌/◌, ◌%◌, ◌^◌, ◌≤◌, ltb, length, take, drop}
use Rattle.std.proofs.Math.Path.{refl, sym, ap, ap₂}
use Rattle.std.proofs.Common.{◌∙◌, arith, take_at}
use mathlib.Core.List.{List, ◌++◌}
use Rattle.ground.specs.Paper.{accepted}
use Rattle.ground.specs.Outcome.{accept, two_passed}
use Rattle.ground.specs.Words.{number, bytes_of, word_at, number-bytes_of, length-bytes_of}
use Rattle.crc.specs.Meaning.{checksum_of, sealed_of, sealed_at}
use Rattle.crc.specs.Sealing.{sealed_front, sealed_stands, sealed_lies}
use Rattle.message.specs.Laws.{Within, within, read_so}
use Rattle.message.specs.Meaning.{data_size, tag_word, covered, message_of, tag_at, address_at, size_at, read_means, sayable, write_means}

-- what a message's checksum covers has four bytes more than the data
pub covered-length : (address tag value : ℕ) → length (covered address tag value) ≡ data_size tag + 4
covered-length address tag value = omega (arith, length-bytes_of (data_size tag) value)

-- a written message and whatever follows it
abbrev pub written : ℕ → ℕ → ℕ → List ℕ → List ℕ
written address tag value rest = message_of address tag value ++ rest

module _ (address tag value : ℕ) (rest : List ℕ) (w : Within address tag value) where
  -- the word says tag and address
  word : word_at (written address tag value rest) 2 ≡ tag_word address tag
  unfolding message_of sealed_of
  word = number-bytes_of 2 (tag_word address tag) (omega (arith, w))

  -- the tag in it
  tag_back : tag_at (written address tag value rest) ≡ tag
  tag_back = let high : tag_word address tag / 2 ^ 14 ≡ tag = omega (arith, w) in ap (λ (w : ℕ). w / 2 ^ 14) word ∙ high

  -- the address in it
  address_back : address_at (written address tag value rest) ≡ address
  address_back = let low : tag_word address tag % 2 ^ 14 ≡ address = omega (arith, w) in ap (λ (w : ℕ). w % 2 ^ 14) word ∙ low

  -- the data bytes by its tag
  size_back : size_at (written address tag value rest) ≡ data_size tag
  size_back = ap data_size tag_back

  -- the data, after the mark and the word
  value_back : number (take (data_size tag) (drop 4 (written address tag value rest))) ≡ value
  unfolding message_of
  value_back =
      let past = bytes_of 2 (checksum_of (covered address tag value)) ++ rest in
      ap (λ (l : List ℕ). number (take (data_size tag) (drop 4 l))) (sealed_front (covered address tag value) rest)
      ∙ ap number (take_at (bytes_of (data_size tag) value) past (data_size tag) (length-bytes_of (data_size tag) value))
      ∙ number-bytes_of (data_size tag) value w.bits

  -- the checksum is that of all before it
  summed : sealed_at (written address tag value rest) 0 (data_size tag + 4) ≡ true
  unfolding message_of
  summed = sealed_stands (written address tag value rest) 0 (covered address tag value) rest (data_size tag + 4) refl (covered-length address tag value)

  -- all of it lies there
  long : data_size tag + 6 ≤ length (written address tag value rest)
  long = omega (arith, sealed_lies (written address tag value rest) 0 (data_size tag + 4) summed)

  -- what was written reads as itself, with as many bytes used as were written
  pub written_read : read_means (written address tag value rest)
      ≡ accepted (record { address = address; tag = tag; value = value; used = data_size tag + 6 })
  unfolding message_of sealed_of
  written_read =
      let l = written address tag value rest in
      let n = data_size tag in
      sym (read_so l n (omega (arith, long)) refl (sym size_back) long summed)
      ∙ ap (λ (x : ℕ). accepted (record { address = x; tag = tag_at l; value = number (take n (drop 4 l)); used = n + 6 })) address_back
      ∙ ap₂ (λ (x y : ℕ). accepted (record { address = address; tag = x; value = y; used = n + 6 })) tag_back value_back

-- writing was accepted: all was within the rule, and the buffer holds the message and what lay past it
pub record Accepted (buffer : List ℕ) (address tag value n : ℕ) (after : List ℕ) : Type 0 where
  pub inside : Within address tag value
  pub count : n ≡ data_size tag + 6
  pub leaves : after ≡ written address tag value (drop (data_size tag + 6) buffer)

-- what an accepted outcome of writing says
pub write_accepted : (buffer : List ℕ) (address tag value : ℕ) {n : ℕ} {after : List ℕ} → accept n after ≡ write_means buffer address tag value
    → Accepted buffer address tag value n after
unfolding write_means
write_accepted buffer address tag value e =
    let passed = two_passed (not (sayable address tag value)) (ltb (length buffer) (data_size tag + 6)) 7 3 buffer e in
    record { inside = within refl passed.first; count = passed.value; leaves = passed.leaving }
