-- Tests of the code that were answered, as tests of the definitions.
-- Assumes nothing.
use Rattle.std.specs.Prelude.{◌≡◌, refl, Bool, true, false, not, ◌&&◌, ℕ, suc, ◌≤◌}
use Rattle.std.proofs.Common.{sym, arith, lt-ltb, le-ltb, le-leb, eq-eqb, ne_eqb}
use Rattle.std.proofs.lemmas.Bool.{lt-leb}

-- the tests on numbers, as rules for search
pub ruleset tests = (lt-ltb, le-ltb, le-leb, lt-leb, eq-eqb, ne_eqb)

-- no test holds and fails
pub both_ways : {b : Bool} → b ≡ true → b ≡ false → ⊥
both_ways p q = let z : ◌≡◌ {A = ℕ} 0 1 = cc in omega arith

-- a question that was answered no
pub answered_no : {r b : Bool} → r ≡ b → not r ≡ true → b ≡ false
answered_no {r = true} p q = cc
answered_no {r = false} p q = sym p

-- a question that was answered yes
pub answered_yes : {r b : Bool} → r ≡ b → not r ≡ false → b ≡ true
answered_yes {r = true} p q = sym p
answered_yes {r = false} p q = cc

-- both tests of two that hold together
pub both_hold : {a b : Bool} → a && b ≡ true → (a ≡ true) × (b ≡ true)
both_hold {a = true} {b} e = (refl, e)
both_hold {a = false} {b} e = (e, cc)

-- a number that is at least n and not n is past it: the arms of a `match` that were not taken, one after the other
pub past : {n x : ℕ} → n ≤ x → (x ≡ n → ⊥) → suc n ≤ x
past h k = omega arith
