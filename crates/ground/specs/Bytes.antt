-- Bytes read and written again: the bytes of the number that bytes mean are those bytes.
-- Assumes nothing.
use Rattle.std.specs.Prelude.{◌≡◌, refl, List, [], ◌∷◌, ◌++◌, ℕ, zero, suc, ◌+◌, ◌*◌, ◌/◌, ◌%◌, ◌^◌, ◌<◌, ◌≤◌, length, take, drop, get_or}
use Rattle.std.proofs.Common.{sym, ap, ap₂, subst, ◌∙◌, add_assoc, add-mul, mul_assoc, mul_comm, pow-suc, zero-add, zero-lt-suc, zero-mul, add-one, arith}
use Rattle.std.proofs.Common.{length-drop, drop-cons, drop-drop, get_or-drop, length-take-le, take-add}
use Rattle.std.proofs.Math.Arith.{digits_div, digits_lt, digits_mod}
use Rattle.ground.specs.Words.{bytes_of, number, word_at}

-- a list of bytes
abbrev pub Bytes : List ℕ → Type 0
Bytes l = (i : ℕ) → get_or l i 0 < 256

-- a part of bytes is bytes
pub bytes_take : (n : ℕ) (l : List ℕ) → Bytes l → Bytes (take n l)
bytes_take zero l b i = zero-lt-suc 255
bytes_take (suc n) [] b i = zero-lt-suc 255
bytes_take (suc n) (x ∷ xs) b zero = b zero
bytes_take (suc n) (x ∷ xs) b (suc i) = bytes_take n xs (λ j. b (suc j)) i

-- what follows a part of bytes is bytes
pub bytes_drop : (n : ℕ) (l : List ℕ) → Bytes l → Bytes (drop n l)
bytes_drop n l b i = subst (λ (x : ℕ). x < 256) (sym (get_or-drop n l i 0)) (b (n + i))

-- bytes after bytes are bytes
pub bytes_append : (l k : List ℕ) → Bytes l → Bytes k → Bytes (l ++ k)
bytes_append [] k p q i = q i
bytes_append (b ∷ l) k p q zero = p zero
bytes_append (b ∷ l) k p q (suc i) = bytes_append l k (λ j. p (suc j)) q i

-- the bytes of a number are bytes
pub bytes_bytes_of : (w x : ℕ) → Bytes (bytes_of w x)
bytes_bytes_of zero x i = zero-lt-suc 255
bytes_bytes_of (suc w) x zero = omega arith
bytes_bytes_of (suc w) x (suc i) = bytes_bytes_of w x i

-- bytes mean a number below 256 to the power of their length
number_lt : (l : List ℕ) → Bytes l → number l < 256 ^ length l
number_lt [] b = zero-lt-suc 0
number_lt (x ∷ xs) b =
    subst (λ (k : ℕ). x * 256 ^ length xs + number xs < k) (mul_comm 256 (256 ^ length xs) ∙ sym (pow-suc 256 (length xs)))
    (digits_lt (b 0) (number_lt xs (λ j. b (suc j))))

-- the bytes of what bytes mean are those bytes, whatever lies above them
bytes_above : (l : List ℕ) → Bytes l → (x : ℕ) → bytes_of (length l) (x * 256 ^ length l + number l) ≡ l
bytes_above [] b x = refl
bytes_above (y ∷ ys) b x =
    let p : ℕ = 256 ^ length ys in
    let less : number ys < p = number_lt ys (λ j. b (suc j)) in
    let up : x * 256 ^ suc (length ys) ≡ x * 256 * p
    = ap (λ (k : ℕ). x * k) (pow-suc 256 (length ys) ∙ mul_comm p 256) ∙ sym (mul_assoc x 256 p) in
    let whole : x * 256 ^ suc (length ys) + (y * p + number ys) ≡ (x * 256 + y) * p + number ys
    = ap (λ (k : ℕ). k + (y * p + number ys)) up ∙ sym (add_assoc (x * 256 * p) (y * p) (number ys))
    ∙ ap (λ (k : ℕ). k + number ys) (sym (add-mul (x * 256) y p)) in
    ap₂ (λ (k : ℕ) (l : List ℕ). k ∷ l)
    (ap (λ (k : ℕ). k / p % 256) whole ∙ ap (λ (k : ℕ). k % 256) (digits_div (x * 256 + y) less) ∙ digits_mod x (b 0))
    (ap (bytes_of (length ys)) whole ∙ bytes_above ys (λ j. b (suc j)) (x * 256 + y))

-- n bytes from a place on are the bytes of the number that they mean
pub number_back : (l : List ℕ) (at n : ℕ) → Bytes l → at + n ≤ length l → take n (drop at l) ≡ bytes_of n (number (take n (drop at l)))
number_back l at n b h =
    let part = take n (drop at l) in
    let long : length part ≡ n = length-take-le n (drop at l) (omega (arith, length-drop at l)) in
    let none : 0 * 256 ^ length part + number part ≡ number part
    = ap (λ (k : ℕ). k + number part) (zero-mul (256 ^ length part)) ∙ zero-add (number part) in
    sym
    (ap (λ (k : ℕ). bytes_of k (number part)) (sym long) ∙ ap (bytes_of (length part)) (sym none)
    ∙ bytes_above part (bytes_take n (drop at l) (bytes_drop at l b)) 0)

-- a word that lies within bytes, written, is its two bytes
pub word_back : (l : List ℕ) (at : ℕ) → Bytes l → at + 2 ≤ length l → take 2 (drop at l) ≡ bytes_of 2 (word_at l at)
word_back l at b h = number_back l at 2 b h

-- two bytes of a list
pub take_two : (l : List ℕ) (at : ℕ) → at + 2 ≤ length l → take 2 (drop at l) ≡ get_or l at 0 ∷ get_or l (at + 1) 0 ∷ []
take_two l at h =
    let first : at < length l = omega arith in
    let second : suc at < length l = omega arith in
    ap (take 2) (drop-cons l at 0 first ∙ ap (λ (x : List ℕ). get_or l at 0 ∷ x) (drop-cons l (suc at) 0 second))
    ∙ ap (λ (n : ℕ). get_or l at 0 ∷ get_or l n 0 ∷ []) (sym (add-one at))

-- two parts, one after the other
pub take_parts : (l : List ℕ) (at a b next : ℕ) {x y : List ℕ} → at + a ≡ next → take a (drop at l) ≡ x → take b (drop next l) ≡ y
    → take (a + b) (drop at l) ≡ x ++ y
take_parts l at a b next e p q =
    take-add a b (drop at l) ∙ ap₂ (λ (x y : List ℕ). x ++ y) p (ap (take b) (drop-drop a at l ∙ ap (λ (k : ℕ). drop k l) e) ∙ q)
