-- What an exported call answers, its number, with what the lent places hold after it.
-- Assumes nothing.
use Rattle.std.specs.Prelude.{not, List, ℕ, eqb, Float, get_or, length}
use Rattle.std.specs.Float.{binary64}
use Rattle.std.specs.Float.Ieee.{to_bits}
use Rattle.ground.specs.Choice.{pick}
use Rattle.ground.specs.Outcome.{Outcome}
use Rattle.ground.specs.Paper.{Paper, accepted, refusal}
use Rattle.packet.specs.Meaning.{FoundValues, payload_means, payload_start}
use Rattle.logarithm.specs.Meaning.{Giving, between, no_count}
use Rattle.pages.specs.declared.Window.{Window}
use Rattle.histogram.specs.Meaning.{Value, done, new, again}
use Rattle.packet_ask.specs.Meaning.{PacketValue, new_packet, packet_again}
use Rattle.rate.specs.declared.record.Rate.{Rate}
use Rattle.rate.specs.declared.record.Reading.{Reading}
use Rattle.rate.specs.declared.record.Reading.TheVariants.{Exact, Between}

-- the version of this interface, PLV_VERSION of the header
abbrev pub interface : ℕ
interface = 4

-- "Each returns its number, and nothing else unless said above": 0 and what the values say where accepted; the number, and what the places held, where refused
unfoldable pub told_as : {A X : Type 0} → (A → X) → Paper A → X → ℕ × X
told_as places (accepted values) held = (0, places values)
told_as places (refusal n carried) held = (n, held)

-- the places hold the values themselves
abbrev pub told : {A : Type 0} → Paper A → A → ℕ × A
told {A} means held = told_as (λ (values : A). values) means held

-- the same with what the call leaves of what it was lent
abbrev pub told_with : {A L : Type 0} → Outcome A L → A → (ℕ × A) × L
told_with o held = (told o.answer held, o.leaves)

-- "it refuses by 20 with skipped equal to the capture's length": the bytes skipped come with a refusal that carries them
abbrev pub told_found : Paper FoundValues → FoundValues → ℕ × FoundValues
told_found (accepted values) held = (0, values)
told_found (refusal n carried) held = (n, record { place = held.place; skipped = get_or carried 0 held.skipped })

-- 2026-02, "Refusal 9 shall carry ..": a place for what a refusal carries holds it with that refusal alone, and else what it held
unfoldable pub carried_to : {A : Type 0} → Paper A → ℕ → ℕ
carried_to (accepted values) held = held
carried_to (refusal n carried) held = get_or carried 0 held

-- the same beside what is told
abbrev pub told_missing : {A X : Type 0} → (A → X) → Paper A → X → ℕ → (ℕ × X) × ℕ
told_missing places means held missing = (told_as places means held, carried_to means missing)

-- "its data as a part of the caller's capture": where the part starts, and its bytes; an empty part is told as 0 and 0
abbrev pub part_of : List ℕ → ℕ → ℕ × ℕ
part_of capture at = (pick (eqb (length (payload_means capture at)) 0) 0 (payload_start capture at), length (payload_means capture at))

-- a lent double by its bits
abbrev pub bits_of : Float → ℕ
bits_of x = to_bits binary64 x

-- "either one exact count or a band of two counts": the low and the high edge, 1 where they are one exact count, and the next position
pub record Edges : Type 0 where
  pub low : ℕ
  pub high : ℕ
  pub exact : ℕ
  pub next : ℕ

-- the edges of a reading
abbrev pub edges_of : Reading → ℕ → Edges
edges_of (Exact count) next = record { low = bits_of count; high = bits_of count; exact = 1; next = next }
edges_of (Between low high) next = record { low = bits_of low; high = bits_of high; exact = 0; next = next }

-- "both quotients and the seconds as f64", and the next position
pub record Quotients : Type 0 where
  pub low : ℕ
  pub high : ℕ
  pub seconds : ℕ
  pub next : ℕ

-- the quotients of a rate
abbrev pub quotients_of : Rate → ℕ → Quotients
quotients_of rate next = record { low = bits_of rate.low; high = bits_of rate.high; seconds = bits_of rate.seconds; next = next }

-- 2026-01, "the smallest and largest counts that give it, or a plain word that no count does": both counts, and 1 where there are some
pub record CountEnds : Type 0 where
  pub low : ℕ
  pub high : ℕ
  pub some : ℕ

-- the counts of a logarithm byte; where no count gives it, all three are 0
abbrev pub count_ends : Giving → CountEnds
count_ends (between low high) = record { low = low; high = high; some = 1 }
count_ends no_count = record { low = 0; high = 0; some = 0 }

-- what an ask's lent places take: its sum, and 1 where it was answered again
pub record AskValues : Type 0 where
  pub sum : ℕ
  pub again : ℕ

-- what they hold after an ask: written where it is accepted, what they held where it is refused
abbrev pub told_ask : Paper Value → AskValues → AskValues
told_ask (accepted done) held = held
told_ask (accepted (new sum)) held = record { sum = sum; again = 0 }
told_ask (accepted (again sum)) held = record { sum = sum; again = 1 }
told_ask (refusal n carried) held = held

-- what a packet ask's lent places take: the bytes written, the total, and 1 where it was answered again
pub record PacketPlaces : Type 0 where
  pub written : ℕ
  pub total : ℕ
  pub again : ℕ

-- what they hold after a packet ask: written where it is accepted, what they held where it is refused
abbrev pub told_packet : Paper PacketValue → PacketPlaces → PacketPlaces
told_packet (accepted (new_packet v)) held = record { written = v.written; total = v.total; again = 0 }
told_packet (accepted (packet_again v)) held = record { written = v.written; total = v.total; again = 1 }
told_packet (refusal n carried) held = held

-- a window by its numbers: clear 0 keeps, any other number clears
abbrev pub window_of : ℕ → ℕ → ℕ → ℕ → ℕ → Window
window_of address xsize ysize ystride clear =
    record { address = address; xsize = xsize; ysize = ysize; ystride = ystride; clear = not (eqb clear 0) }
