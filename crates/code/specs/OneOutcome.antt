-- Two outcomes that meet a call's promise are equal, answer and memory.
-- Assumes nothing.
use Rattle.std.specs.Prelude.{◌≡◌, Bool, ◌&&◌, List, ℕ, leb, ℤ, nat_abs, length, refl, Result}
use Rattle.ground.specs.Paper.{number_of, one_value}
use Rattle.ground.specs.Refusals.{one_outcome, one_result_as}
use Rattle.code.specs.Meaning.{bits_that_count, drop_known, largest}
use Rattle.code.specs.Answers.{packed_paper, not_packed, not_read, shape_values, shape_from, reason_of, refusal_number}
use Rattle.code.specs.Answers.{unpacked_paper, unpack_values, unpacked_from}
use Rattle.code.specs.Promise.{PackPromise, ShapePromise, UnpackPromise, SignPromise, PowerPromise, BitPromise}
use Rattle.code.specs.declared.NotPacked.{NotPacked}
use Rattle.code.specs.declared.Refusal.{Refusal}
use Rattle.code.specs.declared.Shape.{Shape}
use Rattle.code.specs.declared.Unpacked.{Unpacked}

-- writing has one outcome
pub pack_one : {buffer : List ℕ} {at : ℕ} {v : ℤ} {d : ℕ} {r s : Result ℕ NotPacked} {a b : List ℕ}
    → PackPromise buffer at v d r a → PackPromise buffer at v d s b → (r ≡ s) × (a ≡ b)
pack_one p q = one_outcome not_packed p.outcome q.outcome

-- reading a shape has one outcome
pub shape_one : {bytes : List ℕ} {at d : ℕ} {r s : Result Shape Refusal} → ShapePromise bytes at d r → ShapePromise bytes at d s → r ≡ s
shape_one p q = one_result_as not_read shape_values shape_from (λ s. refl) p.answer q.answer

-- reading has one outcome, by `unpack`, by a reader and by the call above them
pub unpack_one : {bytes : List ℕ} {at d : ℕ} {r s : Result Unpacked Refusal} → UnpackPromise bytes at d r → UnpackPromise bytes at d s → r ≡ s
unpack_one p q = one_result_as not_read unpack_values unpacked_from (λ u. refl) p.answer q.answer

-- one number for an answer of writing
pub packed_number_one : (answer : Result ℕ NotPacked) {m n : ℕ} → m ≡ number_of (packed_paper answer) → n ≡ number_of (packed_paper answer) → m ≡ n
packed_number_one answer p q = one_value p q

-- one number for an answer of reading
pub unpacked_number_one : (answer : Result Unpacked Refusal) {m n : ℕ} → m ≡ number_of (unpacked_paper answer) → n ≡ number_of (unpacked_paper answer) → m ≡ n
unpacked_number_one answer p q = one_value p q

-- one number for a refusal
pub refusal_number_one : (why : Refusal) {m n : ℕ} → m ≡ refusal_number why → n ≡ refusal_number why → m ≡ n
refusal_number_one why p q = one_value p q

-- one reason for an answer
pub reason_one : {V : Type 0} (a : Result V Refusal) {x y : Refusal} → x ≡ reason_of a → y ≡ reason_of a → x ≡ y
reason_one a p q = one_value p q

-- one magnitude for a number
pub magnitude_one : (v : ℤ) {m n : ℕ} → m ≡ nat_abs v → n ≡ nat_abs v → m ≡ n
magnitude_one v p q = one_value p q

-- one sign bit for a number
pub sign_one : (v : ℤ) {m n : ℕ} → SignPromise v m → SignPromise v n → m ≡ n
sign_one v p q = one_value p.answer q.answer

-- one answer to a drop
pub drop_known_one : (d : ℕ) {a b : Bool} → a ≡ drop_known d → b ≡ drop_known d → a ≡ b
drop_known_one d p q = one_value p q

-- one answer to a magnitude and a drop
pub in_rule_one : (m d : ℕ) {a b : Bool} → a ≡ (drop_known d && leb m largest) → b ≡ (drop_known d && leb m largest) → a ≡ b
in_rule_one m d p q = one_value p q

-- one number for a drop
pub wide_one : (d : ℕ) {m n : ℕ} → m ≡ d → n ≡ d → m ≡ n
wide_one d p q = one_value p q

-- one number of bits that count
pub end_of_one : (bytes : List ℕ) {m n : ℕ} → m ≡ length (bits_that_count bytes) → n ≡ length (bits_that_count bytes) → m ≡ n
end_of_one bytes p q = one_value p q

-- one power of two for an exponent
pub power_one : (k : ℕ) {m n : ℕ} → PowerPromise k m → PowerPromise k n → m ≡ n
power_one k p q = one_value p.answer q.answer

-- one bit for a byte and a place
pub bit_of_one : (byte place : ℕ) {m n : ℕ} → BitPromise byte place m → BitPromise byte place n → m ≡ n
bit_of_one byte place p q = one_value p.answer q.answer
