-- Laws that the proofs of `plv_reading` and `plv_rate` cite: what is written to a lent double is a number's bits.
-- Assumes nothing.
use mathlib.Core.Path.{◌≡◌, sym, ap, ap₂, subst, ◌∙◌}
use mathlib.Core.List.{List}
use Prim.Native.Nat.{ℕ}
use Rattle.std.specs.Prelude.{Ok}
use Rattle.rate.specs.Numbers.{RateNumbers, ReadingNumbers, rate_numbers, reading_numbers}
use Rattle.rate.specs.Promise.{RatePromise, ReadingPromise}
use Rattle.rate.specs.declared.Counts.{Counts}
use Rattle.rate.specs.declared.Formed.{Formed}
use Rattle.rate.specs.declared.record.Reading.{Reading}
use Rattle.plavotesk.specs.Meaning.{Edges, Quotients}

-- a rate that was formed holds numbers
pub formed_numbers : {bytes : List ℕ} {at d level : ℕ} {formed : Formed} → RatePromise bytes at d level (Ok formed) → RateNumbers formed.rate
formed_numbers {bytes} {at} {d} {level} p = rate_numbers bytes at d level (sym p.answer)

-- so does a reading that was read
pub read_numbers : {bytes : List ℕ} {at d : ℕ} {counts : Counts} {shown : Reading} → ReadingPromise bytes at d (Ok counts) → counts.reading ≡ shown
    → ReadingNumbers shown
read_numbers {bytes} {at} {d} p e = subst ReadingNumbers e (reading_numbers bytes at d (sym p.answer))

-- places that hold the same bits
pub same_quotients : {a b c x y z : ℕ} (next : ℕ) → a ≡ x → b ≡ y → c ≡ z
    → ◌≡◌ {A = ℕ × Quotients} (0, record { low = a; high = b; seconds = c; next = next }) (0, record { low = x; high = y; seconds = z; next = next })
same_quotients {a} {b} {c} {x} {y} {z} next p q r =
    ap₂ (λ (k m : ℕ). (0, record { low = k; high = m; seconds = c; next = next })) p q
    ∙ ap (λ (k : ℕ). (0, record { low = x; high = y; seconds = k; next = next })) r

pub same_edges : {a b x y : ℕ} (exact next : ℕ) → a ≡ x → b ≡ y
    → ◌≡◌ {A = ℕ × Edges} (0, record { low = a; high = b; exact = exact; next = next }) (0, record { low = x; high = y; exact = exact; next = next })
same_edges exact next p q = ap₂ (λ (k m : ℕ). (0, record { low = k; high = m; exact = exact; next = next })) p q
